use Rattle.std.proofs.Common.{refl}
use Rattle.sat_state.proofs.Going.{joined_decided}
use Rattle.sat_state.proofs.parts.Parts.decide.Goals as goal

pub returns-clause-joined : goal.returns-clause-joined
returns-clause-joined c =
    joined_decided c.args.self.now _ c.args.lit c.requires.joined c.requires.seen c.requires.at_end c.requires.free refl refl refl c.push.ensures.vars c.push.ensures.trail
