use Rattle.std.proofs.Common.{◌≡◌, ◌∙◌, ◌<◌, ℕ, ℤ, List, length, get_or, ap, subst, sym, w64, to_z, of_z, arith}
use Rattle.std.specs.List.{Contains}
use Rattle.std.proofs.lemmas.Int.{ints, to_z-of_z}
use Rattle.std.proofs.lemmas.List.{take_all}
use Rattle.std.proofs.lemmas.List.Elements.{All-nil, All-push}
use Rattle.ep_base.specs.Numbers.{times_in}
use Rattle.ep_flat.specs.Cons.{numbers_of_vars}
use Rattle.enc_atoms.proofs.Meanings.{not_false}
use Rattle.enc_atoms.specs.Steps.{AreOf}
use Rattle.enc_count.proofs.Counting.{able_more, able_none, able_same}
use Rattle.enc_count.proofs.counts.able_to_be.Goals as goal

pub loop-var-init : goal.loop-var-init
loop-var-init c = record {
  within = subst (λ (xs : List ℕ). AreOf c.args.layout.now xs) (sym c.new-able.ensures.items) (All-nil (λ x. x < length c.args.layout.now));
  times = able_none c.args.layout.now _ c.args.vars.now (to_z w64 (of_z w64 c.args.number)) c.new-able.ensures.items;
}

pub loop-var-preserved : goal.loop-var-preserved
loop-var-preserved c =
    let k = c.loop-var.var-index in
    record {
      within = subst (λ (xs : List ℕ). AreOf c.args.layout.now xs) (sym c.in_ok-push.ensures.items)
          (All-push (λ x. x < length c.args.layout.now) c.loop-var.able.items (get_or c.args.vars.now k 0) c.loop-var.invariant.within (c.requires k 0 c.loop-var-test.true));
      times = able_more c.args.layout.now c.loop-var.able.items _ c.args.vars.now k (to_z w64 (of_z w64 c.args.number)) c.loop-var-test.true c.in_ok-push.ensures.items c.loop-var.invariant.times;
    }

pub loop-var-preserved-then-not-has : goal.loop-var-preserved-then-not-has
loop-var-preserved-then-not-has c =
    let k = c.loop-var.var-index in
    let v : ℤ = to_z w64 (of_z w64 c.args.number) in
    record {
      within = c.loop-var.invariant.within;
      times = able_same c.args.layout.now c.loop-var.able.items c.args.vars.now k v c.loop-var-test.true (c.requires k 0 c.loop-var-test.true)
          (λ there. not_false c.has.result (c.has.ensures.1 (subst (λ (ns : List ℤ). Contains ns v) (sym c.domain.ensures) there)) c.if-not-has.true)
          c.loop-var.invariant.times;
    }

pub returns-clause-times : goal.returns-clause-times
returns-clause-times c = λ values among.
    let v : ℤ = c.args.number in
    let whole : to_z w64 (of_z w64 v) ≡ v = to_z-of_z w64 v (omega (arith, ints)) in
    subst (λ (w : ℤ). times_in (numbers_of_vars values c.loop-var.able.items) w ≡ times_in (numbers_of_vars values c.args.vars.now) w) whole
    (c.loop-var.invariant.times values among ∙ ap (λ (xs : List ℕ). times_in (numbers_of_vars values xs) (to_z w64 (of_z w64 v))) (take_all c.loop-var.var-index c.args.vars.now c.loop-var-test.false))
