use Rattle.std.proofs.Common.{◌≡◌, ℤ, ◌∙◌, refl, pos, get_or, map, rules, ap, subst, sym, to_z, of_z, w64, arith, int_lt}
use Rattle.std.proofs.lemmas.Int.{ints, to_z-of_z}
use Rattle.ep_base.specs.Runs.{IsAscending}
use Rattle.enc_linear.specs.Terms.{HoldsSteps, step_of}
use Rattle.enc_linear.proofs.Multiples.{map_all, map_more, multiple_is, multiple_of, step_same}
use Rattle.enc_linear.proofs.making.multiple.Goals as goal

pub loop-value-init : goal.loop-value-init
loop-value-init c = c.new-steps.ensures.items

pub loop-value-preserved : goal.loop-value-preserved
loop-value-preserved c =
    let xs = c.deref-value-items.result.now in
    let i = c.loop-value.value-index in
    let v : ℤ = get_or xs i (pos 0) in
    let e : to_z w64 (of_z w64 v) ≡ v = to_z-of_z w64 v (search rules) in
    map_more (step_of _) xs i (pos 0) c.loop-value.steps.items c.push.new.self.items c.in_ok-step.step c.loop-value-test.true c.loop-value.invariant c.in_ok-push.ensures.items
    (step_same _ _ _ _ c.in_ok-step.step c.in_ok-step.ensures (omega (arith, ints)) e)

pub returns-clause-of_layout : goal.returns-clause-of_layout
returns-clause-of_layout c =
    let xs = c.deref-value-items.result.now in
    let a = c.args.coefficient in
    let e : to_z w64 (of_z w64 a) ≡ a = to_z-of_z w64 a c.ranges.coefficient in
    let items : xs ≡ c.domain-domain.result.now = c.deref-value-items.ensures.value ∙ c.in_ok-values.ensures in
    multiple_of c.args.layout.now a xs c.args.var _ refl c.requires.var (items ∙ c.domain-domain.ensures) (subst IsAscending (sym items) c.runs_ascend.ensures) c.requires.coefficient (ap (λ n. int_lt (pos 0) n) e)
    (map_all (step_of _) xs c.loop-value.value-index c.loop-value.steps.items c.loop-value-test.false c.loop-value.invariant ∙ ap (λ n. map (step_of n) xs) e)
    (subst (HoldsSteps c.bounds_of-bounds.result) c.deref.ensures.value c.bounds_of-bounds.ensures)

pub returns-clause-worth : goal.returns-clause-worth
returns-clause-worth c values among =
    let xs = c.deref-value-items.result.now in
    let a = c.args.coefficient in
    let e : to_z w64 (of_z w64 a) ≡ a = to_z-of_z w64 a c.ranges.coefficient in
    let items : xs ≡ c.domain-domain.result.now = c.deref-value-items.ensures.value ∙ c.in_ok-values.ensures in
    multiple_is c.args.layout.now a xs c.args.var _ values refl c.requires.var (items ∙ c.domain-domain.ensures)
    (map_all (step_of _) xs c.loop-value.value-index c.loop-value.steps.items c.loop-value-test.false c.loop-value.invariant ∙ ap (λ n. map (step_of n) xs) e) among
