use Rattle.std.proofs.Common.{◌≡◌, ◌∙◌, ℤ, ◌≤ℤ◌, pos, List, subst, get_or, w64, to_z, of_z, rules}
use Rattle.std.proofs.lemmas.Int.{to_z-of_z}
use Rattle.ep_flat.specs.Cons.{number_at}
use Rattle.enc_atoms.proofs.Adding.{adds_none, adds_one_more}
use Rattle.enc_atoms.specs.Atoms.{Adds}
use Rattle.enc_atoms.specs.Steps.{Unless}
use Rattle.enc_table.proofs.Links.{at_most_all}
use Rattle.enc_table.proofs.orders.add_at_most.Goals as goal

pub loop-number-init : goal.loop-number-init
loop-number-init c =
    adds_none c.args.layout.now c.args.f.now (λ values (v : ℤ). Unless c.args.guard.now (λ vs. number_at vs c.args.y ≤ℤ v → number_at vs c.args.x ≤ℤ v) values) c.deref-number-items.result.now c.requires.ready.is_layout c.requires.ready.from_new

pub loop-number-preserved : goal.loop-number-preserved
loop-number-preserved c =
    let L = c.args.layout.now in
    let ns : List ℤ = c.deref-number-items.result.now in
    let k = c.loop-number.number-index in
    let n : ℤ = get_or ns k (pos 0) in
    let whole : to_z w64 (of_z w64 n) ≡ n = to_z-of_z w64 n (search rules) in
    adds_one_more L c.args.f.now c.loop-number.f L c.add_bound.new.f (λ values (v : ℤ). Unless c.args.guard.now (λ vs. number_at vs c.args.y ≤ℤ v → number_at vs c.args.x ≤ℤ v) values) ns k (pos 0) c.requires.ready.is_layout c.loop-number-test.true c.loop-number.invariant
    (subst (λ (w : ℤ). Adds L c.loop-number.f L c.add_bound.new.f (Unless c.args.guard.now (λ vs. number_at vs c.args.y ≤ℤ w → number_at vs c.args.x ≤ℤ w))) whole c.in_ok-add_bound.ensures)

pub returns : goal.returns
returns c =
    at_most_all c.args.layout.now c.args.f.now c.loop-number.f c.args.guard.now c.args.x c.args.y c.deref-number-items.result.now c.loop-number.number-index c.requires.ready.is_layout c.requires.y
    (c.deref-number-items.ensures.value ∙ c.in_ok-numbers.ensures ∙ c.domain.ensures) c.loop-number-test.false c.loop-number.invariant
