use Rattle.std.proofs.Common.{◌≡◌, ◌≤◌, length}
use Rattle.sat_text.specs.Words.{first_word}
use Rattle.sat_text.proofs.Digits.{Read}
use Rattle.sat_text.proofs.numbers.next_natural.Given as goal

abbrev pub invariant-loop-b : goal.invariant-loop-b
invariant-loop-b l = Read (first_word l.text) l.b-index l.number × (l.b-index ≤ length (first_word l.text)) × (l.count ≡ l.b-index) × (l.count ≤ 18)
