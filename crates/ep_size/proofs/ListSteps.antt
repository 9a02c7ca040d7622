-- Lists that grow at their end.
use Rattle.ep_size.proofs.Words.{◌≡◌, ℕ, ◌+◌, ◌<◌, ◌≤◌, List, [], ◌∷◌, ◌++◌, length, take, drop, get_or, ap, sym, ◌∙◌, arith, map, drop_more, length-map, length-take, map-append, take-append-drop, take_all, take_more}

-- one turn of a loop that feeds one element after another
pub fed : {A B : Type 0} (f : A → B) (xs : List A) (k : ℕ) (d : A) → k < length xs
    → map f (take k xs) ++ f (get_or xs k d) ∷ [] ≡ map f (take (k + 1) xs)
fed f xs k d h = sym (ap (map f) (take_more xs k d h) ∙ map-append f (take k xs) (get_or xs k d ∷ []))

-- no more elements are fed than there are
pub fed_at_most : {A B : Type 0} (f : A → B) (xs : List A) (k : ℕ) → length (map f (take k xs)) ≤ length xs
fed_at_most f xs k = let a = length-map (take k xs) f in let b = length-take k xs in omega (arith, a, b)

-- what is fed, the element of this turn, and what is not fed yet
pub fed_whole : {A B : Type 0} (f : A → B) (xs : List A) (k : ℕ) (d : A) → k < length xs
    → map f (take k xs) ++ f (get_or xs k d) ∷ map f (drop (k + 1) xs) ≡ map f xs
fed_whole f xs k d h =
    ap (λ ys. map f (take k xs) ++ map f ys) (sym (drop_more xs k d h)) ∙ sym (map-append f (take k xs) (drop k xs)) ∙ ap (map f) (take-append-drop k xs)

-- all are fed
pub fed_all : {A B : Type 0} (f : A → B) (xs : List A) (k : ℕ) → length xs ≤ k → map f (take k xs) ≡ map f xs
fed_all f xs k h = ap (map f) (take_all k xs h)
