use Rattle.std.proofs.Common.{arith, ◌∙◌}
use Rattle.ep_flat.specs.FlatViews.{plain_flat, plain_map}
use Rattle.ep_formula.proofs.Composing.{keeps_through, stages_compose}
use Rattle.ep_formula.proofs.stages.formula_of.Goals as goal
use Rattle.ep_ground.specs.GroundViews.{plain_ground}

pub simplify-requires : goal.simplify-requires
simplify-requires c = record {
  nodes = omega (arith, c.requires.nodes, c.in_ok-defined.ensures.nodes);
  well_formed = c.in_ok-defined.ensures.well_formed;
  no_partial = c.in_ok-defined.ensures.no_partial;
}

pub share-requires : goal.share-requires
share-requires c = record {
  nodes = omega (arith, c.requires.nodes, c.in_ok-defined.ensures.nodes, c.in_ok-simple.ensures.nodes);
  well_formed = c.in_ok-simple.ensures.well_formed;
  no_partial = c.in_ok-simple.ensures.no_partial;
  bounded = c.in_ok-simple.ensures.bounded (c.in_ok-defined.ensures.bounded c.requires.bounded);
}

pub flatten-requires : goal.flatten-requires
flatten-requires c = record {
  no_partial = c.in_ok-shared.ensures.no_partial;
  well_formed = c.in_ok-shared.ensures.well_formed;
  bounded = c.in_ok-shared.ensures.bounded;
}

pub returns-clause-made : goal.returns-clause-made
returns-clause-made c =
    let first = plain_ground c.args.g in
    let defined = plain_ground c.in_ok-defined.defined in
    let simple = plain_ground c.in_ok-simple.simple in
    let shared = plain_ground c.in_ok-shared.shared in
    stages_compose first shared (plain_flat c.in_ok-flat.flat) (plain_map c.in_ok-flat.map) c.in_ok-formula.layout c.in_ok-formula.formula
    (keeps_through first defined shared c.in_ok-defined.ensures.keeps (keeps_through defined simple shared c.in_ok-simple.ensures.keeps c.in_ok-shared.ensures.keeps))
    c.in_ok-flat.ensures c.in_ok-formula.ensures

pub returns-clause-cells : goal.returns-clause-cells
returns-clause-cells c = c.in_ok-shared.ensures.keeps.cells ∙ c.in_ok-simple.ensures.keeps.cells ∙ c.in_ok-defined.ensures.keeps.cells
