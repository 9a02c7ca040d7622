use Rattle.std.proofs.Common.{ap, rules, sym, w64, ◌∙◌}
use Rattle.std.proofs.lemmas.Int.{to_z-of_z}
use Rattle.ep_parse_parts.proofs.Finding.{finds_shown}
use Rattle.ep_parse_below.proofs.OperandFacts.{operand_numbered}
use Rattle.ep_parse_parts.specs.Readers.{took}
use Rattle.ep_tree.specs.Trees.{number}
use Rattle.ep_parse_trees.proofs.operands.unnamed.Goals as goal

pub returns-in-Some : goal.returns-in-Some
returns-in-Some g c =
    record {
      read = finds_shown _ _ _ _ c.number.ensures.made
          (operand_numbered _ _ _ _ _ _ (sym c.in-Some.ensures.next) c.pass.ensures.place c.pass.ensures.passed
          ∙ ap (λ z. took (number c.pass.result z) c.pass.new.self) (sym (to_z-of_z w64 c.in-Some.value (search rules))));
    }
