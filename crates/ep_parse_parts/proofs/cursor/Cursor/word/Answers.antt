use Rattle.std.proofs.Common.{sym, ◌∙◌}
use Rattle.ep_parse_parts.proofs.Cursors.{none_left, some_left, word_at_end, word_not, word_read}
use Rattle.ep_parse_parts.proofs.cursor.Cursor.word.Goals as goal

pub returns-in_default : goal.returns-in_default
returns-in_default c = record { read = word_at_end c.args.word.now _ (none_left _ _ _ c.self.view_is c.in_default.ensures.cases) }

pub returns-then-not-is_said : goal.returns-then-not-is_said
returns-then-not-is_said c =
    record { read = word_not c.args.word.now _ _ _ _ (some_left _ _ _ _ _ c.self.view_is c.in-Some.ensures.cases.0) (sym c.is_said.ensures ∙ c.if-not-is_said.true) }

pub returns : goal.returns
returns c =
    record { read = word_read c.args.word.now _ _ _ _ (some_left _ _ _ _ _ c.self.view_is c.in-Some.ensures.cases.0) (sym c.is_said.ensures ∙ c.if-not-is_said.false) }
