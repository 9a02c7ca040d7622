use Rattle.std.proofs.Common.{sym}
use Rattle.ep_parse_model.proofs.NextSteps.{may_come, may_not, no_word}
use Rattle.ep_parse_model.proofs.texts.statement.Goals as goal

pub returns-in_default : goal.returns-in_default
returns-in_default c = record { read = no_word _ _ (sym c.in_default.ensures.next) }

pub returns-then-not-allows : goal.returns-then-not-allows
returns-then-not-allows c = record { read = may_not _ _ _ (sym c.in-Some.ensures.next) (sym c.if-not-allows.ensures.may) }

pub returns : goal.returns
returns c =
    record {
      read = rw (may_come c.args.allowed c.args.cursor.now _ _ _ (sym c.in-Some.ensures.next) (sym c.if-not-allows.ensures.may) c.place-place.ensures.next c.pass.ensures.passed) c.statement_behind.ensures.read;
    }
