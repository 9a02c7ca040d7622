use Rattle.std.proofs.Common.{length, ◌-◌, ◌≡◌, ◌<◌, ◌≤◌, drop, ℕ, false}
use Rattle.opb_text.specs.Words.{ends_word}
use Rattle.opb_text.proofs.words.word_length.Given as goal

abbrev pub invariant-loop-length : goal.invariant-loop-length
invariant-loop-length l = (0 < l.length) × (l.length ≤ length l.rest) × ((i : ℕ) → i < l.length → ends_word (drop i l.rest) ≡ false)

abbrev pub decreases-loop-length : goal.decreases-loop-length
decreases-loop-length l = length l.rest - l.length
