-- A problem has one list of variables.
use Rattle.std.proofs.Common.{◌≡◌, ◌↔◌, ◌⊎◌, inl, inr, ℕ, suc, ◌<◌, List, [], ◌∷◌, refl, sym, ap, subst, ◌∙◌, arith}
use Rattle.std.specs.List.{AllPairs, Contains}
use Rattle.std.proofs.lemmas.List.Elements.{Contains-append_cases, Contains-append_right, Contains-push_cases}
use Rattle.opb_text.specs.Contents.{OpbContent}
use Rattle.opb_text.specs.Weights.{AreVariablesOf}

pub tail : (x : ℕ) (xs : List ℕ) → AllPairs ◌<◌ (x ∷ xs) → AllPairs ◌<◌ xs
tail x xs up = λ i j d lt inside. up (suc i) (suc j) d (omega arith) (omega (arith, inside))

pub above_first : (x y : ℕ) (xs : List ℕ) → AllPairs ◌<◌ (x ∷ xs) → Contains xs y → x < y
above_first x y xs up c = subst (λ v. x < v) c.2 (up 0 (suc c.0) y (omega arith) (omega (arith, c.1)))

pub first : (x : ℕ) (xs : List ℕ) → Contains (x ∷ xs) x
first x xs = (0, omega arith, refl)

pub later : (x y : ℕ) (xs : List ℕ) → Contains xs y → Contains (x ∷ xs) y
later x y xs c = Contains-append_right (x ∷ []) xs y c

pub cases : (x y : ℕ) (xs : List ℕ) → Contains (x ∷ xs) y → (x ≡ y) ⊎ Contains xs y
cases x y xs c =
    elim (Contains-append_cases (x ∷ []) xs y c) as (λ _. (x ≡ y) ⊎ Contains xs y) [
      | inl w ↦ elim (Contains-push_cases [] x y w) as (λ _. (x ≡ y) ⊎ Contains xs y) [
        | inl v ↦ absurd (omega (arith, v.1))
        | inr e ↦ inl e
      ]
      | inr w ↦ inr w
    ]

pub nothing : {P : Type 0} (y : ℕ) → Contains [] y → P
nothing y c = absurd (omega (arith, c.1))

same_first : (x y : ℕ) (xs ys : List ℕ) → AllPairs ◌<◌ (x ∷ xs) → AllPairs ◌<◌ (y ∷ ys) → Contains (y ∷ ys) x → Contains (x ∷ xs) y → x ≡ y
same_first x y xs ys up other here there =
    elim (cases y x ys here) as (λ _. x ≡ y) [
      | inl e ↦ sym e
      | inr w ↦ elim (cases x y xs there) as (λ _. x ≡ y) [
        | inl e ↦ e
        | inr v ↦ let one = above_first y x ys other w in let two = above_first x y xs up v in absurd (omega (arith, one, two))
      ]
    ]

kept : (x y v : ℕ) (xs ys : List ℕ) → x ≡ y → AllPairs ◌<◌ (x ∷ xs) → (Contains (x ∷ xs) v → Contains (y ∷ ys) v) → Contains xs v → Contains ys v
kept x y v xs ys e up keeps c =
    elim (cases y v ys (keeps (later x v xs c))) as (λ _. Contains ys v) [
      | inl same ↦ let above = above_first x v xs up c in absurd (omega (arith, above, e, same))
      | inr w ↦ w
    ]

ascending_same : (xs ys : List ℕ) → AllPairs ◌<◌ xs → AllPairs ◌<◌ ys → ((v : ℕ) → Contains xs v ↔ Contains ys v) → xs ≡ ys
ascending_same [] [] up other same = refl
ascending_same [] (y ∷ ys) up other same = nothing y ((same y).1 (first y ys))
ascending_same (x ∷ xs) [] up other same = nothing x ((same x).0 (first x xs))
ascending_same (x ∷ xs) (y ∷ ys) up other same =
    let e = same_first x y xs ys up other ((same x).0 (first x xs)) ((same y).1 (first y ys)) in
    let rest = ascending_same xs ys (tail x xs up) (tail y ys other)
    (λ v. (kept x y v xs ys e up (same v).0, kept y x v ys xs (sym e) other (same v).1)) in
    ap (λ v. v ∷ xs) e ∙ ap (λ vs. y ∷ vs) rest

pub same_variables : (content : OpbContent) (xs ys : List ℕ) → AreVariablesOf content xs → AreVariablesOf content ys → xs ≡ ys
same_variables content xs ys h g = ascending_same xs ys h.ascending g.ascending (λ v. (
  λ c. (g.same v).1 ((h.same v).0 c),
  λ c. (h.same v).1 ((g.same v).0 c),
))
