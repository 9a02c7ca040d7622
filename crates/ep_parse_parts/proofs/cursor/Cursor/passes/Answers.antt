use Rattle.std.proofs.Common.{sym, ◌∙◌}
use Rattle.ep_parse_parts.proofs.Cursors.{none_left, pass_at_end, pass_not, pass_read, some_left}
use Rattle.ep_parse_parts.proofs.cursor.Cursor.passes.Goals as goal

pub returns-in_default : goal.returns-in_default
returns-in_default c = record { passed = pass_at_end c.args.word.now _ (none_left _ _ _ c.self.view_is c.in_default.ensures.cases) }

pub returns-then-not-is_said : goal.returns-then-not-is_said
returns-then-not-is_said c =
    record { passed = pass_not c.args.word.now _ _ _ _ (some_left _ _ _ _ _ c.self.view_is c.in-Some.ensures.cases.0) (sym c.is_said.ensures ∙ c.if-not-is_said.true) }

pub returns : goal.returns
returns c =
    record { passed = pass_read c.args.word.now _ _ _ _ (some_left _ _ _ _ _ c.self.view_is c.in-Some.ensures.cases.0) (sym c.is_said.ensures ∙ c.if-not-is_said.false) }
