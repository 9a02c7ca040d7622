use Rattle.std.proofs.Common.{w64, rules}
use Rattle.std.proofs.lemmas.Int.{to_z-of_z}
use Rattle.ep_answer.specs.Searches.{kept_values}
use Rattle.ep_answer.proofs.Deciding.{reached_by}
use Rattle.ep_answer.proofs.Searching.{not_broken}
use Rattle.ep_answer.proofs.improving.improve.Goals as goal

pub better_clause-requires-clause-reached : goal.better_clause-requires-clause-reached
better_clause-requires-clause-reached c =
    reached_by c.args.p.now.layout (kept_values c.args.p.now.solver) c.args.var c.number_of-number.result _ c.requires.there c.requires.drives c.number_of-number.ensures (to_z-of_z w64 c.number_of-number.result (search rules))

pub refusal-requires : goal.refusal-requires
refusal-requires c = not_broken c.args.p.now.solver.broken c.add_given.result c.in-Err.error c.requires.is_whole c.add_given.ensures.broken.0 c.in-Err.is
