use Rattle.std.proofs.Common.{◌∙◌, sym}
use Rattle.ep_simplify.proofs.Picking.{first_picks, no_first, picks_at}
use Rattle.ep_simplify.proofs.settling.picked_part.Goals as goal

pub returns-in-Some-clause-picks : goal.returns-in-Some-clause-picks
returns-in-Some-clause-picks c = picks_at c.args.parts.now c.args.keys.now c.args.numbers.now c.in-Some.part (sym c.part_at.ensures ∙ c.in-Some.is)

pub returns-clause-picks : goal.returns-clause-picks
returns-clause-picks c = first_picks c.args.parts.now c.args.keys.now c.args.numbers.now c.part_of.result (sym c.part_at.ensures ∙ c.in_default.is) c.part_of.ensures

pub returns-clause-none : goal.returns-clause-none
returns-clause-none c none = no_first c.args.parts.now (sym c.part_of.ensures ∙ none)
