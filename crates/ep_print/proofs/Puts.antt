-- Words that are put out one after another.
use Rattle.std.proofs.Common.{◌≡◌, ℕ, Bool, true, false, List, [], ◌∷◌, ◌++◌, codes, refl, sym, ap, ◌∙◌, append_assoc}
use Rattle.std.proofs.lemmas.Grind.{flat_map-append}
use Rattle.std.proofs.lemmas.List.{append-nil}
use Rattle.ep_print.specs.Joining.{with_between}
use Rattle.ep_print.specs.Putting.{between_if, continued, words_spaced}
use Rattle.ep_print.specs.Words.{Words}

pub spaced-append : (a b : Words) → words_spaced (a ++ b) ≡ words_spaced a ++ words_spaced b
unfolding words_spaced
spaced-append a b = flat_map-append (λ w. w ++ codes " ") a b

pub spaced-nil : words_spaced [] ≡ []
unfolding words_spaced
spaced-nil = refl

-- words, and then more words
pub puts_both : (old one both : List ℕ) (a b : Words) → one ≡ old ++ words_spaced a → both ≡ one ++ words_spaced b → both ≡ old ++ words_spaced (a ++ b)
puts_both old one both a b first second =
    second ∙ ap (λ t. t ++ words_spaced b) first ∙ append_assoc old (words_spaced a) (words_spaced b) ∙ ap (λ t. old ++ t) (sym (spaced-append a b))

-- no words
pub puts_none : (old : List ℕ) → old ≡ old ++ words_spaced []
puts_none old = sym (ap (λ t. old ++ t) spaced-nil ∙ append-nil old)

-- lists with something between any two begin with the first
pub joined-continued : {A : Type 0} (between : List A) (xs : List (List A)) → with_between between xs ≡ continued between false xs
unfolding with_between continued between_if
joined-continued between [] = refl
joined-continued between (x ∷ []) = sym (append-nil x)
joined-continued between (x ∷ y ∷ xs) =
    ap (λ t. x ++ t) (ap (λ t. between ++ t) (joined-continued between (y ∷ xs)))

-- whether something stands before what follows these lists
abbrev pub started_after : {A : Type 0} → Bool → List (List A) → Bool
started_after started [] = started
started_after started (x ∷ xs) = true

continued_on : {A : Type 0} (between : List A) (xs ys : List (List A)) → continued between true (xs ++ ys) ≡ continued between true xs ++ continued between true ys
unfolding continued between_if
continued_on between [] ys = refl
continued_on between (x ∷ xs) ys =
    ap (λ t. between ++ (x ++ t)) (continued_on between xs ys)
    ∙ ap (λ t. between ++ t) (sym (append_assoc x (continued between true xs) (continued between true ys)))
    ∙ sym (append_assoc between (x ++ continued between true xs) (continued between true ys))

-- some lists and then others
pub continued-append : {A : Type 0} (between : List A) (started : Bool) (xs ys : List (List A)) → continued between started (xs ++ ys) ≡ continued between started xs ++ continued between (started_after started xs) ys
unfolding continued
continued-append between started [] ys = refl
continued-append between started (x ∷ xs) ys =
    ap (λ t. between_if started between ++ (x ++ t)) (continued_on between xs ys)
    ∙ ap (λ t. between_if started between ++ t) (sym (append_assoc x (continued between true xs) (continued between true ys)))
    ∙ sym (append_assoc (between_if started between) (x ++ continued between true xs) (continued between true ys))
