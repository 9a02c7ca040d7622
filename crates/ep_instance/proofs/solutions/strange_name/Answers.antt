use Rattle.std.proofs.Common.{◌∙◌, ap, sym, map, option_map}
use Rattle.ep_tree.specs.Views.{statement_tree}
use Rattle.ep_instance_parts.specs.Instances.{find_of}
use Rattle.ep_instance.specs.Shaping.{letting_name}
use Rattle.ep_instance.proofs.ShapingSteps.{strange_find, strange_none, strange_other}
use Rattle.ep_instance.proofs.solutions.strange_name.Goals as goal

pub returns-in_default : goal.returns-in_default
returns-in_default c =
    strange_none (map find_of c.args.finds.now) (letting_name (statement_tree c.args.statement.now)) (sym c.letting_name.ensures ∙ ap (option_map (λ n. n.now)) c.in_default.is)

pub returns-then-is_find : goal.returns-then-is_find
returns-then-is_find c =
    strange_find (map find_of c.args.finds.now) (letting_name (statement_tree c.args.statement.now)) c.in-Some.name.now
    (sym c.letting_name.ensures ∙ ap (option_map (λ n. n.now)) c.in-Some.is) (sym c.is_find.ensures ∙ c.if-is_find.true)

pub returns : goal.returns
returns c =
    strange_other (map find_of c.args.finds.now) (letting_name (statement_tree c.args.statement.now)) c.in-Some.name.now
    (sym c.letting_name.ensures ∙ ap (option_map (λ n. n.now)) c.in-Some.is) (sym c.is_find.ensures ∙ c.if-is_find.false)
