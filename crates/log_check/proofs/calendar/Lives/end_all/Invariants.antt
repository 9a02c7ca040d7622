use Rattle.std.proofs.Common.{◌≡◌, ℕ, cond, take}
use Rattle.log_check.specs.Lives.{life_of, ended}
use Rattle.log_check.specs.Verdict.{is_number_among}
use Rattle.log_check.proofs.calendar.Lives.end_all.Given as goal

abbrev pub invariant-loop-id : goal.invariant-loop-id
invariant-loop-id l = (q : ℕ) → life_of l.self q ≡ cond (is_number_among (take l.id-index l.ids) q) (ended l.line (life_of l.initial.self q)) (life_of l.initial.self q)
