use Rattle.std.proofs.Common.{[], ◌∷◌, ◌++◌, ◌≡◌, List, refl, subst, sym, ap, ◌∙◌, map}
use Rattle.std.specs.List.{All}
use Rattle.std.proofs.lemmas.List.Elements.{All-cons, All-nil}
use Rattle.ep_tree.specs.Solutions.{NamedValue}
use Rattle.ep_tree.specs.TypedValues.{IsOf, is_number_of}
use Rattle.ep_tree.specs.Views.{named_value, value_tree}
use Rattle.ep_tree.specs.declared.values.Entry.{Entry}
use Rattle.ep_print_tests.proofs.answers.row_and_number.Goals as goal

IsTyped : NamedValue → Type 0
IsTyped g = IsOf g.ty g.value

-- two entries, pushed one after the other, are of their types where each is
two_are : (es fs gs : List Entry) (a b : Entry) → es ≡ [] → fs ≡ es ++ a ∷ [] → gs ≡ fs ++ b ∷ []
    → IsTyped (named_value a) → IsTyped (named_value b) → All IsTyped (map named_value gs)
two_are es fs gs a b none one two first second =
    subst (λ (xs : List Entry). All IsTyped (map named_value xs))
    (sym (two ∙ ap (λ (xs : List Entry). xs ++ b ∷ []) (one ∙ ap (λ (xs : List Entry). xs ++ a ∷ []) none)))
    (All-cons IsTyped (named_value a) (named_value b ∷ []) first (All-cons IsTyped (named_value b) [] second (All-nil IsTyped)))

pub returns : goal.returns
unfolding value_tree is_number_of IsTyped
returns c = two_are _ _ _ _ _ c.new-entries.ensures.items c.in_ok-push.ensures.items c.in_ok-push-2.ensures.items c.in_ok-falses.ensures refl
