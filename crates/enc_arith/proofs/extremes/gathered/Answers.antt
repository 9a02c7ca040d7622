use Rattle.std.proofs.Common.{ℕ, ◌<◌, get_or, sym, subst, w64, to_z, of_z, rules}
use Rattle.std.proofs.lemmas.Int.{to_z-of_z}
use Rattle.std.specs.List.{All}
use Rattle.std.proofs.lemmas.List.Elements.{All-get_or, All-push}
use Rattle.enc_atoms.specs.declared.atoms.Atom.{Atom}
use Rattle.enc_arith.proofs.Levels.{gathers_all, gathers_more, gathers_none}
use Rattle.enc_arith.proofs.extremes.gathered.Goals as goal

pub loop-x-init : goal.loop-x-init
loop-x-init c = record {
  means = λ values. gathers_none c.args.op values c.args.when.now c.in_ok-atoms.atoms.items c.args.xs.now (to_z w64 (of_z w64 c.args.number)) c.in_ok-atoms.ensures.items;
  names = λ count named there. subst (All (λ (a : Atom). a.var < count)) (sym c.in_ok-atoms.ensures.items) named;
}

pub loop-x-preserved : goal.loop-x-preserved
loop-x-preserved c = record {
  means = λ values.
      gathers_more c.args.op values c.args.when.now c.loop-x.atoms.items c.push.new.self.items c.compared.result c.args.xs.now (to_z w64 (of_z w64 c.args.number)) c.loop-x.x-index 0 c.loop-x-test.true
      (c.loop-x.invariant.means values) c.in_ok-push.ensures.items (c.compared.ensures.means values);
  names = λ count named there.
      let low : get_or c.args.xs.now c.loop-x.x-index 0 < count = All-get_or (λ (x : ℕ). x < count) c.args.xs.now c.loop-x.x-index 0 c.loop-x-test.true there in
      subst (All (λ (a : Atom). a.var < count)) (sym c.in_ok-push.ensures.items)
      (All-push (λ (a : Atom). a.var < count) c.loop-x.atoms.items c.compared.result (c.loop-x.invariant.names count named there) (subst (λ v. v < count) (sym c.compared.ensures.var) low));
}

pub returns-clause-means : goal.returns-clause-means
returns-clause-means c = λ values.
    gathers_all c.args.op values c.args.when.now c.loop-x.atoms.items c.args.xs.now c.args.number _ c.loop-x.x-index (to_z-of_z w64 c.args.number (search rules)) c.loop-x-test.false (c.loop-x.invariant.means values)
