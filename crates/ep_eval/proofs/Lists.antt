-- Lists that a loop copies or maps, and what names stand for.
use Rattle.ep_eval.proofs.Words.{◌≡◌, ℕ, ◌+◌, ◌<◌, List, [], ◌∷◌, ◌++◌, length, take, get_or, refl, sym, ap, ◌∙◌, map, map-append, take_more, as_parts, value_and, value_tree, values_from, Value}

-- one element more on either side
pub map_more : {A B : Type 0} (f : A → B) (xs ys : List A) (x d : A) (i : ℕ) → i < length ys → map f xs ≡ map f (take i ys) → f x ≡ f (get_or ys i d)
    → map f (xs ++ x ∷ []) ≡ map f (take (i + 1) ys)
map_more f xs ys x d i within before same =
    map-append f xs (x ∷ []) ∙ ap (λ l. l ++ f x ∷ []) before ∙ ap (λ y. map f (take i ys) ++ y ∷ []) same
    ∙ sym (ap (map f) (take_more ys i d within) ∙ map-append f (take i ys) (get_or ys i d ∷ []))

-- values in a row are those of a list
pub values_from-map : (vs : List Value) → values_from vs ≡ as_parts (map value_tree vs)
unfolding values_from as_parts
values_from-map [] = refl
values_from-map (v ∷ vs) = ap (λ ws. value_and (value_tree v) ws) (values_from-map vs)
