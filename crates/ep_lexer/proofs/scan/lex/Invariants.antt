use Rattle.std.proofs.Common.{◌≡◌, length, ◌-◌}
use Rattle.ep_base.specs.Tokens.{tokens_of}
use Rattle.ep_lexer.specs.Cursor.{IsAt}
use Rattle.ep_lexer.proofs.Run.{with_front, tokens_at}
use Rattle.ep_lexer.proofs.scan.lex.Given as goal

-- the tokens so far, and then those from the cursor on, are those of the text
abbrev pub invariant-loop-cursor : goal.invariant-loop-cursor
invariant-loop-cursor l = record {
  at : IsAt l.text l.cursor;
  told : with_front l.tokens.items (tokens_at l.text l.cursor.offset) ≡ tokens_of l.text;
}

abbrev pub decreases-loop-cursor : goal.decreases-loop-cursor
decreases-loop-cursor l = length l.text - l.cursor.offset
