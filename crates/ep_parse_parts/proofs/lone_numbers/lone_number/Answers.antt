use Rattle.std.proofs.Common.{ap, rules, subst, sym, w64, ◌∙◌}
use Rattle.std.proofs.lemmas.Int.{to_z-of_z}
use Rattle.ep_parse_parts.proofs.LoneNumbers.{taken}
use Rattle.ep_parse_parts.specs.Founds.{Shows}
use Rattle.ep_parse_parts.specs.Readers.{behind}
use Rattle.ep_tree.specs.Trees.{number}
use Rattle.ep_parse_parts.proofs.lone_numbers.lone_number.Goals as goal

pub returns : goal.returns
returns c =
    record {
      taken = taken _ c.in-Some.value _ c.in-Some-word_next.word _ _ _ _ (sym c.in-Some.ensures.next) (c.pass.ensures.passed ∙ ap behind c.ahead-ahead.ensures.same) c.word_next.ensures.next
          c.in-Some-word_next.is (sym c.closes.ensures.among ∙ c.if-not-closes.false) c.pass-2.ensures.place c.pass-2.ensures.passed
          (subst (λ z. Shows c.number.result (number c.pass-2.result z)) (to_z-of_z w64 c.in-Some.value (search rules)) c.number.ensures.made);
    }
