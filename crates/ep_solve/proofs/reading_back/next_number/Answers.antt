use Rattle.std.proofs.Common.{rules, ◌≡◌, ◌∙◌, ℤ, pos, get_or, w64, to_z, of_z}
use Rattle.ep_solve.proofs.MakingSteps.{no-number, number-there}
use Rattle.ep_solve.proofs.reading_back.next_number.Goals as goal

pub returns-then-place-numbers-clause-value : goal.returns-then-place-numbers-clause-value
returns-then-place-numbers-clause-value c = no-number c.args.numbers.now c.args.place.now c.if-place-numbers.true

pub returns-clause-value : goal.returns-clause-value
returns-clause-value c =
    let x : ℤ = get_or c.args.numbers.now c.args.place.now (pos 0) in
    let fits : to_z w64 (of_z w64 x) ≡ x = search rules in
    fits ∙ number-there c.args.numbers.now c.args.place.now (pos 0) c.if-place-numbers.false
