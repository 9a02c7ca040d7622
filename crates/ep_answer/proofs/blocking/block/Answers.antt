use Rattle.std.specs.List.{All}
use Rattle.std.proofs.Common.{◌<◌, ◌∙◌, ℕ, List, length, ap, subst, sym}
use Rattle.enc_var.specs.Layouts.{decoded_values}
use Rattle.ep_answer.specs.Problems.{AllMean}
use Rattle.ep_answer.specs.Searches.{kept_values}
use Rattle.ep_answer.proofs.Listing.{are_numbers}
use Rattle.ep_answer.proofs.OtherNumbers.{long_numbers}
use Rattle.ep_answer.proofs.Searching.{not_broken}
use Rattle.ep_answer.proofs.blocking.block.Goals as goal

pub other_numbers-requires-clause-numbers : goal.other_numbers-requires-clause-numbers
other_numbers-requires-clause-numbers c =
    let layout = c.args.p.now.layout in
    are_numbers layout (kept_values c.args.p.now.solver) c.as_slice-vars.result.now c.as_slice.result.now
    (subst (λ (xs : List ℕ). All (λ x. x < length layout) xs) (sym c.as_slice-vars.ensures.value) c.requires.cells)
    (subst (λ (xs : List ℕ). AllMean (kept_values c.args.p.now.solver) layout xs) (sym c.as_slice-vars.ensures.value) c.requires.meaning)
    (c.as_slice.ensures.value ∙ c.in_ok-cells.ensures)

pub other_numbers-requires-clause-long : goal.other_numbers-requires-clause-long
other_numbers-requires-clause-long c =
    ap length (c.as_slice.ensures.value ∙ c.in_ok-cells.ensures)
    ∙ long_numbers (decoded_values c.args.p.now.layout (kept_values c.args.p.now.solver)) c.as_slice-vars.result.now

pub refusal-requires : goal.refusal-requires
refusal-requires c = not_broken c.args.p.now.solver.broken c.add_given.result c.in-Err.error c.requires.is_whole c.add_given.ensures.broken.0 c.in-Err.is
