-- Logs that have givens alone.
use Rattle.std.proofs.Common.{◌≡◌, ℕ, ◌+◌, ◌<◌, true, List, [], ◌∷◌, ◌++◌, map, length, take, get_or, refl, sym, ap, subst, ◌∙◌, arith}
use Rattle.std.specs.Prelude.{All}
use Rattle.std.proofs.lemmas.List.{take_all, take_more}
use Rattle.std.proofs.lemmas.List.Elements.{All-cons, All-nil}
use Rattle.cnf_core.specs.Events.{HasBase, LogEvent, clauses_of, given, givens, is_given}
use Rattle.cnf_core.specs.Literal.{Literal}

map-append : {A B : Type 0} (f : A → B) (xs ys : List A) → map f (xs ++ ys) ≡ map f xs ++ map f ys
map-append f [] ys = refl
map-append f (x ∷ xs) ys = ap (λ zs. f x ∷ zs) (map-append f xs ys)

-- one given more
pub given-more : (clauses : List (List Literal)) (k : ℕ) (d : List Literal) → k < length clauses
    → map given (take (k + 1) clauses) ≡ map given (take k clauses) ++ given (get_or clauses k d) ∷ []
given-more clauses k d lt = ap (map given) (take_more clauses k d lt) ∙ map-append given (take k clauses) (get_or clauses k d ∷ [])

-- so many events from clauses are givens
pub are-given : (clauses : List (List Literal)) → All (λ e. is_given e ≡ true) (map given clauses)
are-given [] = All-nil (λ e. is_given e ≡ true)
are-given (c ∷ clauses) = All-cons (λ e. is_given e ≡ true) (given c) (map given clauses) refl (are-given clauses)

pub givens-are : (clauses : List (List Literal)) → givens (map given clauses) ≡ clauses
givens-are [] = refl
givens-are (c ∷ clauses) = ap (λ cs. c ∷ cs) (givens-are clauses)

pub clauses-are : (clauses : List (List Literal)) → clauses_of (map given clauses) ≡ clauses
clauses-are [] = refl
clauses-are (c ∷ clauses) = ap (λ cs. c ∷ cs) (clauses-are clauses)

take-whole : {A : Type 0} (xs : List A) (n : ℕ) → n ≡ length xs → take n xs ≡ xs
take-whole xs n e = take_all n xs (omega (arith, e))

-- so many events as there are, all of them givens, are a base
pub all-base : (clauses : List (List Literal)) (events : List LogEvent) (n : ℕ) → events ≡ map given clauses → n ≡ length events → HasBase events n
all-base clauses events n is counted =
    let P : List LogEvent → Type 0 = λ es. All (λ e. is_given e ≡ true) es in
    record {
      there = omega (arith, counted);
      givens = subst P (sym (take-whole events n counted ∙ is)) (are-given clauses);
    }
