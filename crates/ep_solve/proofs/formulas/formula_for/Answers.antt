use Rattle.std.proofs.Common.{◌∙◌, length}
use Rattle.ep_flat.specs.FlatViews.{plain_map}
use Rattle.ep_ground.specs.GroundViews.{plain_ground}
use Rattle.ep_ground.specs.Grounds.{GroundState}
use Rattle.ep_instance_parts.specs.Instances.{plain_instance, instance_mode}
use Rattle.ep_tree.specs.Binding.{Instance}
use Rattle.ep_tree.specs.declared.values.Mode.{Mode}
use Rattle.ep_solve.proofs.Judged.{SpeaksFor}
use Rattle.ep_solve.proofs.Solved.{few-nodes}
use Rattle.ep_solve.proofs.Standing.{formula-stands}
use Rattle.ep_solve.proofs.formulas.formula_for.Goals as goal

pub formula_of-requires-clause-nodes : goal.formula_of-requires-clause-nodes
formula_of-requires-clause-nodes c =
    few-nodes (instance_mode c.args.instance.now) (plain_instance c.args.instance.now) (length c.in_ok-ground.ground.arena) c.requires.within c.in_ok-ground.ensures.nodes

pub returns-clause-stands : goal.returns-clause-stands
returns-clause-stands c =
    let mode : Mode = instance_mode c.args.instance.now in
    let i : Instance = plain_instance c.args.instance.now in
    let g : GroundState = plain_ground c.in_ok-ground.ground in
    let made = c.in_ok-made.made in
    let speaks : SpeaksFor mode i g = record { cells = c.in_ok-ground.ensures.cells; clauses = c.in_ok-ground.ensures.clauses; objective = c.in_ok-ground.ensures.objective } in
    formula-stands mode i g made.layout (plain_map made.map) made.formula c.requires.closed speaks c.in_ok-made.ensures.made

pub returns-clause-cells : goal.returns-clause-cells
returns-clause-cells c = c.in_ok-made.ensures.cells ∙ c.in_ok-ground.ensures.cells
