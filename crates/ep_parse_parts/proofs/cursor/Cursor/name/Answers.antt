use Rattle.std.proofs.Common.{sym}
use Rattle.ep_parse_parts.proofs.Cursors.{name_at_end, name_not, name_read, none_left, some_left}
use Rattle.ep_parse_parts.proofs.cursor.Cursor.name.Goals as goal

pub returns-in_default : goal.returns-in_default
returns-in_default c = record { read = name_at_end _ (none_left _ _ _ c.self.view_is c.in_default.ensures.cases) }

pub returns-in_default-name_in : goal.returns-in_default-name_in
returns-in_default-name_in c =
    record { read = name_not _ _ _ _ (some_left _ _ _ _ _ c.self.view_is c.in-Some.ensures.cases.0) (sym c.in_default-name_in.ensures) }

pub returns : goal.returns
returns c =
    record { read = name_read _ _ _ _ _ (some_left _ _ _ _ _ c.self.view_is c.in-Some.ensures.cases.0) (sym c.in-Some-name_in.ensures) }
