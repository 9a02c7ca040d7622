use Rattle.std.proofs.Common.{◌++◌, ap, ◌∙◌, map, sym, subst}
use Rattle.ep_print.proofs.Appends.{four}
use Rattle.ep_print.specs.Answers.{AreTyped, letting_texts}
use Rattle.ep_tree.specs.Views.{named_value}
use Rattle.ep_explain_text.specs.ExplanationTexts.{without_text}
use Rattle.ep_explain_text.proofs.texts.push_without.Goals as goal

pub push_lettings-requires : goal.push_lettings-requires
push_lettings-requires c = subst (λ es. AreTyped (map named_value es)) (sym c.deref.ensures.value) c.requires

pub returns : goal.returns
unfolding without_text
returns c =
    four _ _ _ _ _ _ _ _ _ c.in_ok-extend_from_slice.ensures.items c.in_ok-push_number.ensures c.in_ok-extend_from_slice-2.ensures.items
    (c.in_ok-push_lettings.ensures ∙ ap (λ es. c.extend_from_slice-2.new.self.items ++ letting_texts (map named_value es)) c.deref.ensures.value)
