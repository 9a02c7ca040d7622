use Rattle.std.proofs.Common.{sym, ◌∙◌}
use Rattle.log_check.specs.Lives.{life_of}
use Rattle.log_check.proofs.Calendars.{ended_none, ended_put}
use Rattle.log_check.proofs.calendar.Lives.end.Goals as goal

pub returns-in-None : goal.returns-in-None
returns-in-None c = ended_none (life_of c.args.self.now) c.args.id c.args.line (sym c.life.ensures ∙ c.in-None.is)

pub returns-in-Some : goal.returns-in-Some
returns-in-Some c = ended_put (life_of c.args.self.now) (life_of c.put.new.self) c.args.id c.args.line c.min-until.result c.in-Some.life c.put.result (sym c.life.ensures ∙ c.in-Some.is) c.min-until.ensures c.put.ensures
