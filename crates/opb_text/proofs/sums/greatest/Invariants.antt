use Rattle.std.proofs.Common.{◌≤ℤ◌, ◌≤◌, ℕ, Bool, take}
use Rattle.std.specs.Prelude.{unsigned_abs}
use Rattle.opb_text.specs.Solutions.{terms_total}
use Rattle.opb_text.specs.Weights.{factors_reach}
use Rattle.opb_text.proofs.sums.greatest.Given as goal

abbrev pub invariant-loop-term : goal.invariant-loop-term
invariant-loop-term l = ((truths : ℕ → Bool) → terms_total truths (take l.term-index l.terms) ≤ℤ l.greatest) × (unsigned_abs l.greatest ≤ factors_reach (take l.term-index l.terms))
