use Rattle.std.proofs.Common.{◌≡◌, ℕ, List, ◌++◌, length, Result}
use Rattle.cnf_core.specs.Literal.{Literal, VariablesUpTo}
use Rattle.sat_text.specs.Words.{words, first_line, behind_line, PlacedWord, words_on}
use Rattle.sat_text.specs.Cnf.{Completes}
use Rattle.sat_text.proofs.clauses.take_line.Given as goal

abbrev pub invariant-loop-rest : goal.invariant-loop-rest
invariant-loop-rest l =
    VariablesUpTo l.f.vars l.begun.items × (l.f.vars ≡ l.initial.f.vars)
    × ((last : ℕ) (later : List PlacedWord) (answer : Result (List (List Literal)) ℕ) → Completes last l.initial.f l.initial.left l.initial.begun.items (words_on l.number (words (first_line l.text)) ++ later) answer
    → Completes last l.f l.left l.begun.items (words_on l.number (words (first_line l.rest)) ++ later) answer)
    × (l.f.from_new ≡ l.initial.f.from_new) × (behind_line l.rest ≡ behind_line l.text)

abbrev pub decreases-loop-rest : goal.decreases-loop-rest
decreases-loop-rest l = length l.rest
