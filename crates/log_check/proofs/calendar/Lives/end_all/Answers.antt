use Rattle.std.proofs.lemmas.List.{get_or_default}
use Rattle.log_check.specs.Lives.{life_of}
use Rattle.log_check.proofs.Calendars.{ended_more, ended_all}
use Rattle.log_check.proofs.calendar.Lives.end_all.Goals as goal

pub loop-id-preserved : goal.loop-id-preserved
loop-id-preserved c =
    ended_more (life_of c.args.self.now) (life_of c.loop-id.self) (life_of c.end.new.self) c.args.ids.now c.loop-id.id-index _ c.args.line c.loop-id-test.true
    (get_or_default c.args.ids.now c.loop-id.id-index _ _ c.loop-id-test.true) c.loop-id.invariant c.in_ok-end.ensures

pub returns : goal.returns
returns c = ended_all (life_of c.args.self.now) (life_of c.loop-id.self) c.args.ids.now c.loop-id.id-index c.args.line c.loop-id-test.false c.loop-id.invariant
