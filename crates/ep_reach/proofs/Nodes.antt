-- What holds of the first elements of a list, and of all of them.
use Rattle.std.proofs.Common.{◌≡◌, ℕ, zero, suc, ◌+◌, ◌<◌, ◌≤◌, List, [], ◌∷◌, ◌++◌, length, get_or, take, true, false, Some, sym, ap, subst, ◌∙◌, arith}
use Rattle.std.specs.Prelude.{slice_get}
use Rattle.std.specs.List.{All}
use Rattle.std.proofs.lemmas.List.{take_all, take_more}
use Rattle.std.proofs.lemmas.List.Elements.{All-cons, All-get_or, All-head, All-nil, All-push, All-tail}

pub got_at : {A : Type 0} (xs : List A) (k : ℕ) (x d : A) → slice_get xs k ≡ Some x → (k < length xs) × (x ≡ get_or xs k d)
got_at [] k x d e = absurd cc
got_at (y ∷ ys) zero x d e = (omega arith, cc)
got_at (y ∷ ys) (suc k) x d e = let r = got_at ys k x d e in (omega (arith, r.0), r.1)

pub take_got : {A : Type 0} (xs : List A) (k : ℕ) (x : A) → slice_get xs k ≡ Some x → take (k + 1) xs ≡ take k xs ++ x ∷ []
take_got xs k x e = let at = got_at xs k x x e in take_more xs k x at.0 ∙ ap (λ y. take k xs ++ y ∷ []) (sym at.1)

pub all_got : {A : Type 0} (P : A → Type 0) (xs : List A) (k : ℕ) (x : A) → slice_get xs k ≡ Some x → All P (take k xs) → P x → All P (take (k + 1) xs)
all_got P xs k x e h p = subst (All P) (sym (take_got xs k x e)) (All-push P (take k xs) x h p)

pub all_next : {A : Type 0} (P : A → Type 0) (xs : List A) (k : ℕ) (x d : A) → k < length xs → x ≡ get_or xs k d → All P (take k xs) → P x → All P (take (k + 1) xs)
all_next P xs k x d h same done p = subst (All P) (sym (take_more xs k d h ∙ ap (λ y. take k xs ++ y ∷ []) (sym same))) (All-push P (take k xs) x done p)

pub all_whole : {A : Type 0} (P : A → Type 0) (xs : List A) (k : ℕ) → length xs ≤ k → All P (take k xs) → All P xs
all_whole P xs k h done = subst (All P) (take_all k xs h) done

-- one element of which it doesn't hold refutes that it holds of all
pub refused_at : {A : Type 0} (P : A → Type 0) (xs : List A) (k : ℕ) (x d : A) → k < length xs → x ≡ get_or xs k d → (P x → ⊥) → All P xs → false ≡ true
refused_at P xs k x d h same told all = absurd (told (subst P (sym same) (All-get_or P xs k d h all)))

pub refused_got : {A : Type 0} (P : A → Type 0) (xs : List A) (k : ℕ) (x : A) → slice_get xs k ≡ Some x → (P x → ⊥) → All P xs → false ≡ true
refused_got P xs k x e told all = let at = got_at xs k x x e in refused_at P xs k x x at.0 at.1 told all

-- what holds of all of a list holds of all of each half
pub all_first : {A : Type 0} (P : A → Type 0) (xs ys : List A) → All P (xs ++ ys) → All P xs
all_first P [] ys h = All-nil P
all_first P (x ∷ xs) ys h = All-cons P x xs (All-head P x (xs ++ ys) h) (all_first P xs ys (All-tail P x (xs ++ ys) h))

pub all_second : {A : Type 0} (P : A → Type 0) (xs ys : List A) → All P (xs ++ ys) → All P ys
all_second P [] ys h = h
all_second P (x ∷ xs) ys h = all_second P xs ys (All-tail P x (xs ++ ys) h)

pub all_at : {A : Type 0} (P : A → Type 0) (xs : List A) (k : ℕ) (x : A) → slice_get xs k ≡ Some x → All P xs → P x
all_at P xs k x e all = let at = got_at xs k x x e in subst P (sym at.1) (All-get_or P xs k x at.0 all)
