use Rattle.std.proofs.Common.{refl, arith}
use Rattle.sat_state.proofs.Going.{goes_forced, var_known}
use Rattle.sat_state.proofs.parts.Parts.force.Goals as goal

pub push-requires : goal.push-requires
push-requires c = record {
  number = omega (arith, c.requires.there, c.requires.joined.watched.entries, c.len-entries.ensures.value, c.len-entries.ensures.few);
  known = var_known c.args.self.now c.requires.joined c.args.number c.args.lit c.requires.there c.requires.gives.in_clause;
  free = c.requires.free;
}

pub returns-clause-goes : goal.returns-clause-goes
returns-clause-goes c =
    goes_forced c.args.self.now _ c.args.lit c.args.number c.requires.joined c.requires.there c.requires.gives c.requires.free refl refl refl c.push.ensures.vars c.push.ensures.trail
