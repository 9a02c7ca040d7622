-- One turn more of loops that push what they keep.
use Rattle.std.proofs.Common.{◌≡◌, ℕ, ◌+◌, ◌<◌, ◌==◌, Bool, true, false, not, List, [], ◌∷◌, ◌++◌, length, take, get_or, refl, sym, ap, ◌∙◌}
use Rattle.std.specs.Prelude.{filter, if◌then◌else◌, map}
use Rattle.std.specs.List.{list_any}
use Rattle.std.proofs.lemmas.List.{append-nil, map-append, take_more}
use Rattle.ep_explain.specs.Narrowing.{is_in_block}

pub map_turn : {A B : Type 0} (f : A → B) (zs : List B) (xs : List A) (i : ℕ) (x : A) → i < length xs → zs ≡ map f (take i xs) → x ≡ get_or xs i x
    → zs ++ f x ∷ [] ≡ map f (take (i + 1) xs)
map_turn f zs xs i x within before is =
    ap (λ l. l ++ f x ∷ []) before ∙ sym (map-append f (take i xs) (x ∷ []))
    ∙ ap (λ y. map f (take i xs ++ y ∷ [])) is ∙ ap (map f) (sym (take_more xs i x within))

append_kept : {B : Type 0} (p : B → Bool) (x : B) (xs : List B) (b : Bool) → (ys : List B) → filter p (xs ++ ys) ≡ filter p xs ++ filter p ys
    → (if b then x ∷ filter p (xs ++ ys) else filter p (xs ++ ys)) ≡ (if b then x ∷ filter p xs else filter p xs) ++ filter p ys
append_kept p x xs true ys rest = ap (λ zs. x ∷ zs) rest
append_kept p x xs false ys rest = rest

pub filter_append : {B : Type 0} (p : B → Bool) (xs ys : List B) → filter p (xs ++ ys) ≡ filter p xs ++ filter p ys
filter_append p [] ys = refl
filter_append p (x ∷ xs) ys = append_kept p x xs (p x) ys (filter_append p xs ys)

kept_one : {B : Type 0} (p : B → Bool) (x : B) → p x ≡ true → filter p (x ∷ []) ≡ x ∷ []
kept_one p x passing = ap (λ b. if b then x ∷ [] else []) passing

left_one : {B : Type 0} (p : B → Bool) (x : B) → p x ≡ false → filter p (x ∷ []) ≡ []
left_one p x failing = ap (λ b. if b then x ∷ [] else []) failing

-- what passes is kept
pub filter_turn : {A B : Type 0} (f : A → B) (p : B → Bool) (zs : List B) (xs : List A) (i : ℕ) (x : A) → i < length xs → p (f x) ≡ true
    → zs ≡ filter p (map f (take i xs)) → x ≡ get_or xs i x → zs ++ f x ∷ [] ≡ filter p (map f (take (i + 1) xs))
filter_turn f p zs xs i x within passing before is =
    ap (λ l. l ++ f x ∷ []) before ∙ ap (λ l. filter p (map f (take i xs)) ++ l) (sym (kept_one p (f x) passing))
    ∙ sym (filter_append p (map f (take i xs)) (f x ∷ [])) ∙ ap (filter p) (map_turn f (map f (take i xs)) xs i x within refl is)

-- what doesn't pass is not
pub filter_pass : {A B : Type 0} (f : A → B) (p : B → Bool) (zs : List B) (xs : List A) (i : ℕ) (x : A) → i < length xs → p (f x) ≡ false
    → zs ≡ filter p (map f (take i xs)) → x ≡ get_or xs i x → zs ≡ filter p (map f (take (i + 1) xs))
filter_pass f p zs xs i x within failing before is =
    before ∙ sym (append_none (filter p (map f (take i xs)))) ∙ ap (λ l. filter p (map f (take i xs)) ++ l) (sym (left_one p (f x) failing))
    ∙ sym (filter_append p (map f (take i xs)) (f x ∷ [])) ∙ ap (filter p) (map_turn f (map f (take i xs)) xs i x within refl is)
  where
    append_none : {B : Type 0} (ys : List B) → ys ++ [] ≡ ys
    append_none [] = refl
    append_none (y ∷ ys) = ap (λ l. y ∷ l) (append_none ys)

-- ---- the same of what a loop has taken

pub filter_more : {B : Type 0} (p : B → Bool) (zs ys : List B) (y : B) → p y ≡ true → zs ≡ filter p ys → zs ++ y ∷ [] ≡ filter p (ys ++ y ∷ [])
filter_more p zs ys y passing before =
    ap (λ l. l ++ y ∷ []) before ∙ ap (λ l. filter p ys ++ l) (sym (kept_one p y passing)) ∙ sym (filter_append p ys (y ∷ []))

pub filter_less : {B : Type 0} (p : B → Bool) (zs ys : List B) (y : B) → p y ≡ false → zs ≡ filter p ys → zs ≡ filter p (ys ++ y ∷ [])
filter_less p zs ys y failing before =
    before ∙ sym (append-nil (filter p ys)) ∙ ap (λ l. filter p ys ++ l) (sym (left_one p y failing)) ∙ sym (filter_append p ys (y ∷ []))

pub map_by : {A B C : Type 0} (f : A → C) (g : B → C) (zs : List A) (ys : List B) (z : A) (y : B) → f z ≡ g y → map f zs ≡ map g ys
    → map f (zs ++ z ∷ []) ≡ map g (ys ++ y ∷ [])
map_by f g zs ys z y own before =
    map-append f zs (z ∷ []) ∙ ap (λ l. l ++ f z ∷ []) before ∙ ap (λ x. map g ys ++ x ∷ []) own ∙ sym (map-append g ys (y ∷ []))

-- ---- numbers that a block has

pub is_outside : (block : List ℕ) (n : ℕ) (r : Bool) → r ≡ list_any (λ k. k == n) block → r ≡ false → not (is_in_block block n) ≡ true
is_outside block n r is failing = ap not (sym is ∙ failing)

pub is_inside : (block : List ℕ) (n : ℕ) (r : Bool) → r ≡ list_any (λ k. k == n) block → r ≡ true → not (is_in_block block n) ≡ false
is_inside block n r is passing = ap not (sym is ∙ passing)
