-- Lists of indices, and the cells of decision variables, one after another.
use Rattle.ep_unroll.proofs.Words.{◌≡◌, ℕ, ◌+◌, ◌<◌, ◌≤◌, ℤ, List, [], ◌∷◌, ◌++◌, length, drop, get_or, take, refl, sym, ap, ◌∙◌, append_assoc, flat_map, map, append-nil, at_drop_more, map_more, take_all, take_more, flat_map-append, index_lists}

flat_more : {A B : Type 0} (f : A → List B) (xs : List A) (k : ℕ) (d : A) → k < length xs → flat_map f (take (k + 1) xs) ≡ flat_map f (take k xs) ++ f (get_or xs k d)
flat_more f xs k d h =
    ap (flat_map f) (take_more xs k d h) ∙ flat_map-append f (take k xs) (get_or xs k d ∷ [])
    ∙ ap (λ ys. flat_map f (take k xs) ++ ys) (append-nil (f (get_or xs k d)))

pub flat_next : {A B : Type 0} (f : A → List B) (xs : List A) (k : ℕ) (x d : A) (before after more : List B) → k < length xs → x ≡ get_or xs k d
    → before ≡ flat_map f (take k xs) → more ≡ f x → after ≡ before ++ more → after ≡ flat_map f (take (k + 1) xs)
flat_next f xs k x d before after more h same was is e =
    e ∙ ap (λ ys. ys ++ more) was ∙ ap (λ ys. flat_map f (take k xs) ++ ys) (is ∙ ap f same) ∙ sym (flat_more f xs k d h)

pub flat_whole : {A B : Type 0} (f : A → List B) (xs : List A) (k : ℕ) (all : List B) → length xs ≤ k → all ≡ flat_map f (take k xs) → all ≡ flat_map f xs
flat_whole f xs k all h e = e ∙ ap (flat_map f) (take_all k xs h)

pub no_lists : (before after : List (List ℤ)) (key : List ℤ) (none : List ℤ) → before ≡ [] → key ≡ none → none ≡ [] → after ≡ before ++ key ∷ [] → after ≡ index_lists []
unfolding index_lists
no_lists before after key none e same empty is = is ∙ ap (λ xs. xs ++ key ∷ []) e ∙ ap (λ x. x ∷ []) (same ∙ empty)

pub lists_step : (ds : List (List ℤ)) (k : ℕ) (d ns xs : List ℤ) (before after : List (List ℤ)) → k < length ds → d ≡ get_or ds k ns → xs ≡ d → before ≡ index_lists (drop (k + 1) ds)
    → after ≡ flat_map (λ i. map (λ rest. i ∷ rest) before) xs → after ≡ index_lists (drop k ds)
unfolding index_lists
lists_step ds k d ns xs before after h same is was e =
    e ∙ ap (λ bs. flat_map (λ i. map (λ rest. i ∷ rest) bs) xs) was
    ∙ ap (flat_map (λ i. map (λ rest. i ∷ rest) (index_lists (drop (k + 1) ds)))) (is ∙ same)
    ∙ sym (at_drop_more index_lists ds k ns h)

pub flat_mapped : {A B C : Type 0} (f : A → B) (g : B → List C) (xs : List A) → flat_map (λ x. g (f x)) xs ≡ flat_map g (map f xs)
flat_mapped f g [] = refl
flat_mapped f g (x ∷ xs) = ap (λ ys. g (f x) ++ ys) (flat_mapped f g xs)

pub mapped_none : {A : Type 0} (start : List A) → start ≡ start ++ []
mapped_none start = sym (append-nil start)

pub mapped_next : {A B : Type 0} (f : A → B) (xs : List A) (k : ℕ) (x d : A) (start before after : List B) (y : B) → k < length xs → x ≡ get_or xs k d
    → before ≡ start ++ map f (take k xs) → y ≡ f x → after ≡ before ++ y ∷ [] → after ≡ start ++ map f (take (k + 1) xs)
mapped_next f xs k x d start before after y h same was is e =
    e ∙ ap (λ ys. ys ++ y ∷ []) was ∙ append_assoc start (map f (take k xs)) (y ∷ [])
    ∙ ap (λ z. start ++ (map f (take k xs) ++ z ∷ [])) (is ∙ ap f same)
    ∙ ap (λ ys. start ++ ys) (sym (map_more f xs k d h))

pub mapped_whole : {A B : Type 0} (f : A → B) (xs : List A) (k : ℕ) (start all : List B) → length xs ≤ k → all ≡ start ++ map f (take k xs) → all ≡ start ++ map f xs
mapped_whole f xs k start all h e = e ∙ ap (λ ys. start ++ map f ys) (take_all k xs h)
