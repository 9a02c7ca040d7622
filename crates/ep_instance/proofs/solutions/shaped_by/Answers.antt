use Rattle.std.proofs.Common.{sym, subst, map}
use Rattle.ep_eval.specs.Known.{env_of}
use Rattle.ep_tree.specs.SolutionTexts.{letting_names, strangers}
use Rattle.ep_tree.specs.Views.{statement_tree}
use Rattle.ep_instance_parts.specs.Instances.{find_of}
use Rattle.ep_instance.specs.Shaping.{GivesEntries, GivesOneOf}
use Rattle.ep_instance.proofs.ShapingSteps.{shape_fits, shape_given, shape_strange}
use Rattle.ep_instance.proofs.solutions.shaped_by.Goals as goal

pub returns-in-Some-clause-shape : goal.returns-in-Some-clause-shape
returns-in-Some-clause-shape c =
    let fs = map find_of c.args.finds.now in
    let text = map statement_tree c.args.statements.now in
    shape_strange (env_of c.args.known.now) fs text c.in-Some.name
    (subst (GivesOneOf (strangers fs (letting_names text))) c.in-Some.is c.in_ok-stranger.ensures)

pub returns-in-None-clause-shape : goal.returns-in-None-clause-shape
returns-in-None-clause-shape c =
    let fs = map find_of c.args.finds.now in
    let text = map statement_tree c.args.statements.now in
    shape_given (env_of c.args.known.now) fs text c.in_ok-shaped.shaped c.in_ok-shaped.ensures
    (subst (GivesOneOf (strangers fs (letting_names text))) c.in-None.is c.in_ok-stranger.ensures)

pub returns-in-None-clause-fits : goal.returns-in-None-clause-fits
returns-in-None-clause-fits c = λ i e closed.
    let known = env_of c.args.known.now in
    shape_fits i known c.in_ok-shaped.shaped closed (subst (λ fs. GivesEntries known fs c.in_ok-shaped.shaped) (sym e) c.in_ok-shaped.ensures)
