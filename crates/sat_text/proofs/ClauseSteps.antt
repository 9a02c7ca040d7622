-- Reading the clauses of a formula word by word.
use Rattle.std.proofs.Common.{◌≡◌, ℕ, zero, suc, ℤ, ◌-◌, ◌<◌, ◌≤◌, true, false, leb, List, [], ◌∷◌, ◌++◌, get_or, Some, None, Result, Ok, Err, refl, sym, ap, subst, ◌∙◌, append_assoc, arith}
use Rattle.std.proofs.lemmas.List.{append-nil}
use Rattle.std.proofs.lemmas.Bool.Decides.{nat_tests}
use Rattle.cnf_core.specs.Literal.{Literal, HaveSameLiterals, VariablesUpTo}
use Rattle.cnf_core.specs.Formula.{Cnf}
use Rattle.sat_text.specs.Numbers.{whole_of}
use Rattle.sat_text.specs.Clauses.{is_zero, literal_of, in_order}
use Rattle.sat_text.specs.Words.{PlacedWord}
use Rattle.sat_text.specs.Cnf.{with_clause, number_next, clauses_of_words, behind_clauses, Completes}

pub clause_small : (most : ℕ) (clause literals : List Literal) → HaveSameLiterals clause literals → VariablesUpTo most literals → VariablesUpTo most clause
clause_small most clause literals same small k d lt =
    let there = same.from_first k d lt in
    subst (λ (l : Literal). l.var ≤ most) there.2 (small there.0 (get_or clause k d) there.1)

at_next : (last : ℕ) (f : Cnf) (left : ℕ) (begun : List Literal) (word : PlacedWord) (later : List PlacedWord) (answer : Result (List (List Literal)) ℕ) → 0 < left → Completes last f left begun (word ∷ later) answer
    → behind_clauses f.clauses (number_next word.line f.vars (whole_of word.bytes) (λ n. clauses_of_words last f.vars left (begun ++ literal_of n ∷ []) later) (with_clause (in_order begun) (clauses_of_words last f.vars (left - 1) [] later))) ≡ answer
unfolding clauses_of_words
at_next last f zero begun word later answer some c = absurd (omega arith)
at_next last f (suc left) begun word later answer some c =
    let same : suc left - 1 ≡ left = omega arith in
    rw same c

pub none_left : (last : ℕ) (f : Cnf) (left : ℕ) (begun : List Literal) (word : PlacedWord) (later : List PlacedWord) (answer : Result (List (List Literal)) ℕ) → left ≡ 0 → Completes last f left begun (word ∷ later) answer → answer ≡ Err word.line
unfolding clauses_of_words
none_left last f zero begun word later answer e c = sym c
none_left last f (suc left) begun word later answer e c = absurd (omega (arith, e))

no_number : (last : ℕ) (f : Cnf) (left : ℕ) (begun : List Literal) (word : PlacedWord) (later : List PlacedWord) (answer : Result (List (List Literal)) ℕ) → 0 < left → whole_of word.bytes ≡ None
    → Completes last f left begun (word ∷ later) answer → answer ≡ Err word.line
no_number last f left begun word later answer some e c = sym (rw e at (at_next last f left begun word later answer some c))

pub wrong_word : (last : ℕ) (f : Cnf) (left : ℕ) (begun : List Literal) (word : PlacedWord) (later : List PlacedWord) (answer : Result (List (List Literal)) ℕ) → whole_of word.bytes ≡ None → Completes last f left begun (word ∷ later) answer
    → answer ≡ Err word.line
wrong_word last f zero begun word later answer e c = none_left last f 0 begun word later answer refl c
wrong_word last f (suc left) begun word later answer e c = no_number last f (suc left) begun word later answer (omega arith) e c

regroup : (front : List (List Literal)) (clause : List Literal) (read : Result (List (List Literal)) ℕ) → behind_clauses front (with_clause clause read) ≡ behind_clauses (front ++ clause ∷ []) read
regroup front clause (Ok clauses) = ap (λ (cs : List (List Literal)). Ok cs) (simp append_assoc)
regroup front clause (Err line) = refl

pub clause_ends : (last : ℕ) (f new : Cnf) (left : ℕ) (begun rest : List Literal) (word : PlacedWord) (later : List PlacedWord) (answer : Result (List (List Literal)) ℕ) (n : ℤ) → 0 < left → whole_of word.bytes ≡ Some n → is_zero n ≡ true
    → new ≡ record f { clauses = f.clauses ++ in_order begun ∷ [] } → rest ≡ [] → Completes last f left begun (word ∷ later) answer → Completes last new (left - 1) rest later answer
clause_ends last f new left begun rest word later answer n some e z n-is r-is c =
    let here = rw (e, z) at (at_next last f left begun word later answer some c) in
    let grouped : behind_clauses (f.clauses ++ in_order begun ∷ []) (clauses_of_words last f.vars (left - 1) [] later) ≡ answer = sym (regroup f.clauses (in_order begun) (clauses_of_words last f.vars (left - 1) [] later)) ∙ here in
    rw (n-is, r-is) grouped

pub too_great : (last : ℕ) (f : Cnf) (left : ℕ) (begun : List Literal) (word : PlacedWord) (later : List PlacedWord) (answer : Result (List (List Literal)) ℕ) (n : ℤ) → 0 < left → whole_of word.bytes ≡ Some n → is_zero n ≡ false
    → f.vars < (literal_of n).var → Completes last f left begun (word ∷ later) answer → answer ≡ Err word.line
too_great last f left begun word later answer n some e z gt c =
    let no : leb (literal_of n).var f.vars ≡ false = grind (arith, nat_tests) in
    sym (rw (e, z, no) at (at_next last f left begun word later answer some c))

pub literal_more : (last : ℕ) (f : Cnf) (left : ℕ) (begun : List Literal) (word : PlacedWord) (later : List PlacedWord) (answer : Result (List (List Literal)) ℕ) (n : ℤ) → 0 < left → whole_of word.bytes ≡ Some n → is_zero n ≡ false
    → (literal_of n).var ≤ f.vars → Completes last f left begun (word ∷ later) answer → Completes last f left (begun ++ literal_of n ∷ []) later answer
literal_more last f left begun word later answer n some e z le c =
    let yes : leb (literal_of n).var f.vars ≡ true = grind (arith, nat_tests) in
    rw (e, z, yes) at (at_next last f left begun word later answer some c)

pub clauses_done : (last : ℕ) (f : Cnf) (left : ℕ) (begun : List Literal) (later : List PlacedWord) (answer : Result (List (List Literal)) ℕ) → Completes last f left begun later answer → later ≡ [] → left ≡ 0 → answer ≡ Ok f.clauses
unfolding clauses_of_words
clauses_done last f left begun later answer c none zero-is =
    let here : behind_clauses f.clauses (Ok []) ≡ answer = rw (none, zero-is) at c in
    sym here ∙ ap (λ (cs : List (List Literal)). Ok cs) (append-nil f.clauses)

pub clauses_wanting : (last : ℕ) (f : Cnf) (left : ℕ) (begun : List Literal) (later : List PlacedWord) (answer : Result (List (List Literal)) ℕ) → Completes last f left begun later answer → later ≡ [] → (left ≡ 0 → ⊥) → answer ≡ Err last
unfolding clauses_of_words
clauses_wanting last f zero begun later answer c none some = absurd (some refl)
clauses_wanting last f (suc left) begun later answer c none some = sym (rw none at c)
