use Rattle.std.proofs.Common.{◌∙◌, ap, sym, subst}
use Rattle.cnf_core.specs.Events.{LogState, nonempty_steps}
use Rattle.sat_search.specs.Logs.{IsSound}
use Rattle.sat_search.proofs.Continued.{sound_given, steps_given}
use Rattle.sat_search.proofs.solver.Solver.add_given.Goals as goal

pub returns-clause-sound : goal.returns-clause-sound
returns-clause-sound c =
    subst (λ (x : LogState). IsSound x.events) (sym c.in_ok-self-inside.ensures.ok) (sound_given c.args.log.now.events c.args.clause c.requires.sound)

pub returns-clause-steps : goal.returns-clause-steps
returns-clause-steps c =
    ap (λ (x : LogState). nonempty_steps x.events) c.in_ok-self-inside.ensures.ok ∙ steps_given c.args.log.now.events c.args.clause
