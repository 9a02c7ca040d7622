use Rattle.std.proofs.Common.{◌≤ℤ◌, ◌≤◌, ℕ, Bool, take}
use Rattle.std.specs.Prelude.{unsigned_abs}
use Rattle.opb_text.specs.Solutions.{terms_total}
use Rattle.opb_text.specs.Weights.{factors_reach}
use Rattle.opb_text.proofs.sums.least.Given as goal

abbrev pub invariant-loop-term : goal.invariant-loop-term
invariant-loop-term l = ((truths : ℕ → Bool) → l.least ≤ℤ terms_total truths (take l.term-index l.terms)) × (unsigned_abs l.least ≤ factors_reach (take l.term-index l.terms))
