use Rattle.ep_parse_trees.proofs.TermTurns.{closed_goes, open_stops}
use Rattle.ep_parse_trees.proofs.operators.sign_comes.Goals as goal

pub returns-then-ends_open : goal.returns-then-ends_open
returns-then-ends_open c = record { next = open_stops _ _ c.if-ends_open.true }

pub returns : goal.returns
returns c = record { next = closed_goes _ _ _ _ c.if-ends_open.false c.sign_next.ensures.next c.is_some.ensures }
