use Rattle.std.proofs.Common.{◌≡◌, ◌∙◌, ℤ, pos, ◌+ℤ◌, ◌-ℤ◌, ◌≤ℤ◌, ◌<ℤ◌, List, [], ◌∷◌, ◌++◌, refl, sym, ap, subst, w64, to_z, of_z, arith, append_assoc}
use Rattle.std.proofs.lemmas.Int.{ints, to_z-of_z}
use Rattle.ep_base.specs.Runs.{counting, numbers_in, or_zero}
use Rattle.ep_numbers.proofs.Counting.{counting_last, counting_step}
use Rattle.ep_numbers.proofs.listing.push_run.Goals as goal

pub loop-number-init : goal.loop-number-init
unfolding numbers_in
loop-number-init c =
    let e : to_z w64 (of_z w64 c.args.run.lo) ≡ c.args.run.lo = to_z-of_z w64 c.args.run.lo (omega (arith, ints)) in
    subst
    (λ (v : ℤ).
    (v ≤ℤ c.args.run.hi)
    × (c.args.numbers.now.items ++ counting v (or_zero ((c.args.run.hi +ℤ pos 1) -ℤ v)) ≡ c.args.numbers.now.items ++ numbers_in c.args.run))
    (sym e) (c.requires, refl)

pub loop-number-preserved : goal.loop-number-preserved
loop-number-preserved c =
    let n : ℤ = to_z w64 c.loop-number.number-bits in
    let hi : ℤ = c.args.run.hi in
    let items : List ℤ = c.loop-number.numbers.items in
    let below : n <ℤ hi = omega (arith, ints) in
    let e : to_z w64 (of_z w64 (n +ℤ pos 1)) ≡ n +ℤ pos 1 = to_z-of_z w64 (n +ℤ pos 1) (omega (arith, ints)) in
    let rest : List ℤ = counting (n +ℤ pos 1) (or_zero ((hi +ℤ pos 1) -ℤ (n +ℤ pos 1))) in
    subst
    (λ (v : ℤ).
    (v ≤ℤ hi) × (c.push.new.self.items ++ counting v (or_zero ((hi +ℤ pos 1) -ℤ v)) ≡ c.args.numbers.now.items ++ numbers_in c.args.run))
    (sym e) (
      omega (arith, ints),
      ap (λ xs. xs ++ rest) c.in_ok-push.ensures.items
          ∙ append_assoc items (n ∷ []) rest
          ∙ ap (λ xs. items ++ xs) (sym (counting_step n hi below))
          ∙ c.loop-number.invariant.1,
    )

pub returns : goal.returns
returns c =
    let n : ℤ = to_z w64 c.loop-number.number-bits in
    let hi : ℤ = c.args.run.hi in
    let items : List ℤ = c.loop-number.numbers.items in
    let e : to_z w64 (of_z w64 hi) ≡ hi = to_z-of_z w64 hi (omega (arith, ints)) in
    let above : hi ≤ℤ n = omega (arith, ints) in
    c.in_ok-push-2.ensures.items
    ∙ ap (λ v. items ++ v ∷ []) e
    ∙ ap (λ xs. items ++ xs) (sym (counting_last n hi c.loop-number.invariant.0 above))
    ∙ c.loop-number.invariant.1
