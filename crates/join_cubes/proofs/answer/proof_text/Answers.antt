use Rattle.join_cubes.proofs.Proving.{proves}
use Rattle.join_cubes.proofs.answer.proof_text.Goals as goal

pub returns : goal.returns
returns g c = proves c.args.formula.now.clauses c.in_ok-joined.joined.events c.in_ok-text.text.items c.in_ok-joined.ensures.joined c.in_ok-joined.ensures.ends c.in_ok-text.ensures.spells
