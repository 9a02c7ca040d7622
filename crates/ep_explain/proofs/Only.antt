-- The only one of some clauses that is violated.
use Rattle.std.proofs.Common.{◌≡◌, ℕ, ◌+◌, ◌<◌, ◌≤◌, false, List, [], ◌∷◌, ◌++◌, length, take, get_or, refl, sym, ap, ◌∙◌, subst, arith}
use Rattle.std.specs.Prelude.{IfSome, None, Option, Some, is_some, slice_get}
use Rattle.std.specs.List.{All, Contains}
use Rattle.std.proofs.lemmas.List.Elements.{All-append, All-cons, All-nil, All-weaker}
use Rattle.std.proofs.lemmas.List.{map-append, take_all, take_more}
use Rattle.ep_explain.specs.Narrowing.{left_numbers}
use Rattle.ep_explain.specs.declared.left.Left.{Left}

-- Of the first so many clauses none is violated, or only the one at a place.
unfoldable pub IsOnly : List ℕ → List Left → ℕ → Option ℕ → Type 0
IsOnly violated left count None = All (λ n. Contains violated n → ⊥) (left_numbers (take count left))
IsOnly violated left count (Some place) =
    (place < count) × ((one : Left) → slice_get left place ≡ Some one → All (λ n. Contains violated n → n ≡ one.clause) (left_numbers (take count left)))

numbers_more : (left : List Left) (i : ℕ) (x : Left) → i < length left → x ≡ get_or left i x → left_numbers (take (i + 1) left) ≡ left_numbers (take i left) ++ x.clause ∷ []
numbers_more left i x within is =
    ap left_numbers (take_more left i x within) ∙ ap (λ (y : Left). left_numbers (take i left ++ y ∷ [])) (sym is) ∙ map-append (λ (one : Left). one.clause) (take i left) (x ∷ [])

all_more : (P : ℕ → Type 0) (left : List Left) (i : ℕ) (x : Left) → i < length left → x ≡ get_or left i x → All P (left_numbers (take i left)) → P x.clause
    → All P (left_numbers (take (i + 1) left))
all_more P left i x within is before own =
    subst (All P) (sym (numbers_more left i x within is)) (All-append P (left_numbers (take i left)) (x.clause ∷ []) before (All-cons P x.clause [] own (All-nil P)))

-- one more that isn't violated
pub only_passed : (violated : List ℕ) (left : List Left) (i : ℕ) (x : Left) (only : Option ℕ) → i < length left → x ≡ get_or left i x
    → (Contains violated x.clause → ⊥) → IsOnly violated left i only → IsOnly violated left (i + 1) only
unfolding IsOnly
only_passed violated left i x None within is free before =
    all_more (λ n. Contains violated n → ⊥) left i x within is before free
only_passed violated left i x (Some place) within is free before = (
  omega (arith, before.0),
  λ one got. all_more (λ n. Contains violated n → n ≡ one.clause) left i x within is (before.1 one got) (λ bad. absurd (free bad)),
)

-- the first that is violated
pub only_found : (violated : List ℕ) (left : List Left) (i : ℕ) (x : Left) → i < length left → x ≡ get_or left i x → slice_get left i ≡ Some x
    → IsOnly violated left i None → IsOnly violated left (i + 1) (Some i)
unfolding IsOnly
only_found violated left i x within is here before = (
  omega arith,
  λ one got.
      let same : x ≡ one = (let e : Some x ≡ Some one = sym here ∙ got in cc) in
      all_more (λ n. Contains violated n → n ≡ one.clause) left i x within is
      (All-weaker (λ n. Contains violated n → ⊥) (λ n. Contains violated n → n ≡ one.clause) (λ n free bad. absurd (free bad)) (left_numbers (take i left)) before)
      (λ _. ap (λ (y : Left). y.clause) same),
)

pub only_all : (violated : List ℕ) (left : List Left) (i place : ℕ) → length left ≤ i → IsOnly violated left i (Some place)
    → (one : Left) → slice_get left place ≡ Some one → All (λ n. Contains violated n → n ≡ one.clause) (left_numbers left)
unfolding IsOnly
only_all violated left i place all before one got =
    subst (λ ls. All (λ n. Contains violated n → n ≡ one.clause) (left_numbers ls)) (take_all i left all) (before.1 one got)

pub only_within : (violated : List ℕ) (left : List Left) (i : ℕ) (o : Option ℕ) → i ≤ length left → IsOnly violated left i o → IfSome o (λ place. place < length left)
unfolding IsOnly
only_within violated left i None le h = tt
only_within violated left i (Some place) le h = omega (arith, le, h.0)

pub only_result : (violated : List ℕ) (left : List Left) (i : ℕ) (o : Option ℕ) → length left ≤ i → IsOnly violated left i o
    → IfSome o (λ place. (one : Left) → slice_get left place ≡ Some one → All (λ n. Contains violated n → n ≡ one.clause) (left_numbers left))
only_result violated left i None all h = tt
only_result violated left i (Some place) all h = only_all violated left i place all h

pub none_yet : (o : Option ℕ) → is_some o ≡ false → o ≡ None
none_yet None is = refl
none_yet (Some place) is = absurd cc

-- none was looked at
pub only_begun : (violated : List ℕ) (left : List Left) → IsOnly violated left 0 None
unfolding IsOnly
only_begun violated left = All-nil (λ n. Contains violated n → ⊥)
