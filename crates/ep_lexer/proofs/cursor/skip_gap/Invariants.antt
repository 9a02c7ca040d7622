use Rattle.std.proofs.Common.{◌≡◌, ◌≤◌, length, ◌-◌, ◌+◌, false, drop}
use Rattle.ep_base.specs.Tokens.{gap_len, place_at}
use Rattle.ep_lexer.proofs.cursor.skip_gap.Given as goal

abbrev pub invariant-loop-offset : goal.invariant-loop-offset
invariant-loop-offset l = record {
  within : l.offset ≤ length l.text;
  place : l.place ≡ place_at l.text l.offset;
  gap : l.offset + gap_len l.in_comment (drop l.offset l.text) ≡ l.fn.from.offset + gap_len false (drop l.fn.from.offset l.text);
}

abbrev pub decreases-loop-offset : goal.decreases-loop-offset
decreases-loop-offset l = length l.text - l.offset
