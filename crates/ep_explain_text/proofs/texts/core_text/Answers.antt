use Rattle.std.proofs.Common.{◌++◌, ap, ◌∙◌, sym, length, map}
use Rattle.std.specs.Fmt.{decimal}
use Rattle.std.specs.List.{flat_map}
use Rattle.std.specs.Prelude.{codes}
use Rattle.std.proofs.lemmas.List.{length-map}
use Rattle.ep_print.proofs.Appends.{four}
use Rattle.ep_print.specs.Answers.{language_line}
use Rattle.ep_explain.specs.Tried.{named_clause}
use Rattle.ep_explain_text.specs.ExplanationTexts.{core_text, without_text}
use Rattle.ep_explain_text.proofs.texts.core_text.Goals as goal

pub returns : goal.returns
unfolding core_text
returns c =
    let core = map named_clause c.args.named.now in
    four language_line (codes "$ explanation ") (decimal (length core)) (codes "\n") (flat_map without_text core)
    c.extend_from_slice.new.self.items c.push_number.new.text.items c.extend_from_slice-2.new.self.items c.push_named.new.text.items
    (c.in_ok-extend_from_slice.ensures.items ∙ ap (λ t. t ++ codes "$ explanation ") c.in_ok-text.ensures.items)
    (c.in_ok-push_number.ensures ∙ ap (λ n. c.extend_from_slice.new.self.items ++ decimal n) (sym (length-map c.args.named.now named_clause)))
    c.in_ok-extend_from_slice-2.ensures.items c.in_ok-push_named.ensures
