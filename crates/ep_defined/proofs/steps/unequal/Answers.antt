use Rattle.ep_base.specs.declared.operators.CompareOp.{CompareOp}
use Rattle.ep_ground.specs.Nodes.{parts_of}
use Rattle.ep_defined.proofs.Growth.{compare_safe, two_stand}
use Rattle.ep_defined.proofs.steps.unequal.Goals as goal

pub taken-requires-clause-parts : goal.taken-requires-clause-parts
unfolding parts_of
taken-requires-clause-parts c =
    two_stand c.args.arena.now c.args.term c.args.nought c.requires.term c.requires.nought

pub returns-clause-grows : goal.returns-clause-grows
returns-clause-grows c =
    λ asker. c.in_ok-own.ensures.grows asker (λ cells stands. compare_safe CompareOp.NotEqual c.args.term c.args.nought cells)
