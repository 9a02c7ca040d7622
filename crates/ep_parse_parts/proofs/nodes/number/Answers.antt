use Rattle.std.proofs.Common.{◌≡◌, refl, ap, w64, rules, ◌∙◌}
use mir.Val.{of_z, to_z}
use Rattle.std.proofs.lemmas.Int.{to_z-of_z}
use Rattle.ep_parse_parts.proofs.NodeFacts.{shows_node}
use Rattle.ep_parse_parts.specs.Founds.{told}
use Rattle.ep_parse_parts.specs.OperatorReaders.{takes_group}
use Rattle.ep_tree.proofs.ViewLemmas.{kind_tree-number}
use Rattle.ep_tree.specs.Heights.{height}
use Rattle.ep_tree.specs.Spelling.{ends_open, own_level, rank, takes_own_group}
use Rattle.ep_tree.specs.Trees as trees
use Rattle.ep_parse_parts.proofs.nodes.number.Goals as goal

pub returns : goal.returns
unfolding told height ends_open takes_group rank own_level takes_own_group
returns c =
    let back : to_z w64 (of_z w64 c.args.number) ≡ c.args.number = to_z-of_z w64 c.args.number (search rules) in
    record { made = shows_node _ _ _ _ _ _ _ refl (kind_tree-number c.args.place (to_z w64 (of_z w64 c.args.number)) ∙ ap (λ n. trees.number c.args.place n) back) refl refl refl }
