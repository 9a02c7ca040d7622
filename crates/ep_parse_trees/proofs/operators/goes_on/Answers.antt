use Rattle.ep_parse_trees.proofs.JunctionTurns.{closed_goes, open_stops}
use Rattle.ep_parse_trees.proofs.operators.goes_on.Goals as goal

pub returns-then-ends_open : goal.returns-then-ends_open
returns-then-ends_open c = record { next = open_stops _ c.args.word.now _ c.if-ends_open.true }

pub returns : goal.returns
returns c = record { next = closed_goes _ c.args.word.now _ _ c.if-ends_open.false c.is_at.ensures.next }
