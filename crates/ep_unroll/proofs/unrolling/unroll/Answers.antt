use Rattle.ep_unroll.proofs.Words.{plain_ground, plain_instance, instance_mode}
use Rattle.ep_unroll.proofs.GroundSteps.{says_clauses, says_objective}
use Rattle.ep_unroll.proofs.unrolling.unroll.Goals as goal

pub returns-clause-clauses : goal.returns-clause-clauses
returns-clause-clauses c =
    says_clauses (instance_mode c.args.instance.now) (plain_instance c.args.instance.now) (plain_ground c.in_ok-ground.ground) c.requires.closed c.in_ok-ground.ensures.terms

pub returns-clause-objective : goal.returns-clause-objective
returns-clause-objective c =
    says_objective (instance_mode c.args.instance.now) (plain_instance c.args.instance.now) (plain_ground c.in_ok-ground.ground) c.requires.closed c.in_ok-ground.ensures.terms

pub returns-clause-well_formed : goal.returns-clause-well_formed
returns-clause-well_formed c = c.is_well_formed-well_formed.ensures.sound c.if-not-well_formed.false

pub returns-clause-bounded : goal.returns-clause-bounded
returns-clause-bounded c = c.in_ok-bounded.ensures.sound c.if-not-bounded.false

pub returns-clause-nodes : goal.returns-clause-nodes
returns-clause-nodes c = c.in_ok-small.ensures c.if-not-small.false
