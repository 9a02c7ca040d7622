use Rattle.std.proofs.Common.{ℤ, rules, subst, w64}
use Rattle.std.proofs.lemmas.Int.{to_z-of_z}
use Rattle.ep_ground.specs.Nodes.{constant}
use Rattle.ep_simplify.specs.Settling.{IsTaken}
use Rattle.ep_ground.specs.NodeViews.{plain_node}
use Rattle.ep_simplify.proofs.Settled.{reached_number}
use Rattle.ep_simplify.proofs.Taking.{number_settles}
use Rattle.ep_simplify.proofs.settling.settled.Goals as goal

pub returns-in-Some : goal.returns-in-Some
returns-in-Some c =
    number_settles c.args.cells.now c.args.news.now c.number.new.news (plain_node c.args.node) c.in-Some.known c.in_ok-alone.alone c.requires.news
    (reached_number c.args.cells.now c.args.news.now (plain_node c.args.node) c.in-Some.known c.requires.news c.requires.parts c.requires.safe (c.in-Some.ensures.says c.requires.news))
    (subst (λ (n : ℤ). IsTaken c.args.cells.now c.args.news.now (constant n) c.number.new.news c.in_ok-alone.alone) (to_z-of_z w64 c.in-Some.known (search rules)) c.in_ok-alone.ensures)

pub judged-requires-clause-untold : goal.judged-requires-clause-untold
judged-requires-clause-untold c were own n e = c.number_of.ensures.untold c.in_default.is c.requires.news were own n e
