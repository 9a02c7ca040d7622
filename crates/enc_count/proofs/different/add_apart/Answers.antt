use Rattle.std.proofs.Common.{◌≡◌, ◌∙◌, ℤ, pos, List, subst, get_or, w64, to_z, of_z, rules}
use Rattle.std.proofs.lemmas.Int.{to_z-of_z}
use Rattle.enc_atoms.proofs.Adding.{adds_none, adds_one_more}
use Rattle.enc_atoms.specs.Atoms.{Adds}
use Rattle.enc_atoms.specs.Steps.{NotBoth, Unless}
use Rattle.enc_count.proofs.Differing.{apart_all}
use Rattle.enc_count.proofs.different.add_apart.Goals as goal

pub loop-number-init : goal.loop-number-init
loop-number-init c =
    adds_none c.args.layout.now c.args.f.now (λ values (v : ℤ). Unless c.args.guard.now (NotBoth c.args.one v c.args.other v) values) c.deref-number-items.result.now c.requires.ready.is_layout c.requires.ready.from_new

pub loop-number-preserved : goal.loop-number-preserved
loop-number-preserved c =
    let L = c.args.layout.now in
    let ns : List ℤ = c.deref-number-items.result.now in
    let k = c.loop-number.number-index in
    let n : ℤ = get_or ns k (pos 0) in
    let whole : to_z w64 (of_z w64 n) ≡ n = to_z-of_z w64 n (search rules) in
    adds_one_more L c.args.f.now c.loop-number.f L c.add_not_both.new.f (λ values (v : ℤ). Unless c.args.guard.now (NotBoth c.args.one v c.args.other v) values) ns k (pos 0) c.requires.ready.is_layout c.loop-number-test.true c.loop-number.invariant
    (subst (λ (w : ℤ). Adds L c.loop-number.f L c.add_not_both.new.f (Unless c.args.guard.now (NotBoth c.args.one w c.args.other w))) whole c.in_ok-add_not_both.ensures)

pub returns : goal.returns
returns c =
    apart_all c.args.layout.now c.args.f.now c.loop-number.f c.args.guard.now c.args.one c.args.other c.deref-number-items.result.now c.loop-number.number-index c.requires.ready.is_layout c.requires.one
    (c.deref-number-items.ensures.value ∙ c.in_ok-numbers.ensures ∙ c.domain.ensures) c.loop-number-test.false c.loop-number.invariant
