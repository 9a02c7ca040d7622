-- Logs that have givens alone.
use Rattle.std.proofs.Common.{◌≡◌, ℕ, true, List, [], ◌∷◌, map, length, take, refl, sym, ap, subst, ◌∙◌, arith}
use Rattle.std.specs.List.{All}
use Rattle.std.proofs.lemmas.List.{take_all}
use Rattle.std.proofs.lemmas.List.Elements.{All-cons, All-nil}
use Rattle.cnf_core.specs.Events.{HasBase, LogEvent, given, givens, is_given}
use Rattle.cnf_core.specs.Literal.{Literal}

-- events from clauses are givens
pub are_given : (clauses : List (List Literal)) → All (λ e. is_given e ≡ true) (map given clauses)
are_given [] = All-nil (λ e. is_given e ≡ true)
are_given (c ∷ clauses) = All-cons (λ e. is_given e ≡ true) (given c) (map given clauses) refl (are_given clauses)

pub givens_are : (clauses : List (List Literal)) → givens (map given clauses) ≡ clauses
givens_are [] = refl
givens_are (c ∷ clauses) = ap (λ cs. c ∷ cs) (givens_are clauses)

-- so many events as there are, all of them givens, are a base
pub all_base : (clauses : List (List Literal)) (events : List LogEvent) (n : ℕ) → events ≡ map given clauses → n ≡ length events → HasBase events n
all_base clauses events n is counted =
    let P : List LogEvent → Type 0 = λ es. All (λ e. is_given e ≡ true) es in
    let whole : take n events ≡ events = take_all n events (omega (arith, counted)) in
    record {
      there = omega (arith, counted);
      givens = subst P (sym (whole ∙ is)) (are_given clauses);
    }
