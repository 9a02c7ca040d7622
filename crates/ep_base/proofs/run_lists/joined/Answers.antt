use Rattle.std.proofs.Common.{pos, ◌+ℤ◌, ◌≤ℤ◌, w64, to_z, of_z, arith, rules, ap, ◌∙◌}
use Rattle.std.proofs.lemmas.Int.{ints, to_z-of_z}
use Rattle.std.specs.Int.RustNames.{FitsSigned}
use Rattle.std.specs.Int.{int_max}
use Rattle.ep_base.proofs.RunSteps.{joined_numbers}
use Rattle.ep_base.proofs.run_lists.joined.Goals as goal
use Rattle.ep_base.proofs.run_lists.joined.Goals.{else-last-part-via-then-last-part+else-last-part-2, else-last-part-via-else-last-part}

pub returns-clause-numbers : goal.returns-clause-numbers
returns-clause-numbers c = λ number.
    let near : c.args.part.lo ≤ℤ (c.args.last.hi +ℤ pos 1) =
    elim c.else-last-part.branch [
      | else-last-part-via-then-last-part+else-last-part-2 w ↦ omega (arith, ints)
      | else-last-part-via-else-last-part w ↦ omega (arith, ints)
    ] in
    let fits_lo : FitsSigned w64 c.args.last.lo = search rules in
    let fits_hi : FitsSigned w64 c.max.result = search rules in
    let fits_last : FitsSigned w64 c.args.last.hi = search rules in
    let fits_part : FitsSigned w64 c.args.part.hi = search rules in
    let largest = to_z-of_z w64 c.max.result fits_hi ∙ c.max.ensures.value ∙ ap (λ x. int_max x (to_z w64 (of_z w64 c.args.part.hi))) (to_z-of_z w64 c.args.last.hi fits_last) ∙ ap (int_max c.args.last.hi) (to_z-of_z w64 c.args.part.hi fits_part) in
    joined_numbers c.args.last c.args.part _ _ number c.requires.behind near (to_z-of_z w64 c.args.last.lo fits_lo) largest
