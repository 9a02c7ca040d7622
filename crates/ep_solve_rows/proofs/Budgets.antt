-- A log in which a conflict was spent, and budgets that it doesn't fit.
use Rattle.std.proofs.Common.{◌≡◌, ◌≢◌, ◌⊎◌, inl, inr, ℕ, ◌<◌, Bool, true, false, not, List, [], ◌∷◌, Some, refl, sym, ap, ◌∙◌, arith}
use Rattle.std.specs.Prelude.{codes, nat_eq}
use Rattle.std.specs.List.{Contains}
use Rattle.std.proofs.lemmas.Bool.{false≢true}
use Rattle.std.proofs.lemmas.List.Elements.{All-from_recursion, All-head}
use Rattle.cnf_core.proofs.Members.{Contains-cases, Contains-here, none_in_nil}
use Rattle.cnf_core.specs.Clauses.{Satisfies, SatisfiesClause}
use Rattle.cnf_core.specs.Events.{LogEvent, LogState, clauses_of, given, is_given, nonempty_steps, step}
use Rattle.cnf_core.specs.Literal.{Literal, negation}
use Rattle.cnf_core.specs.Steps.{HasTrueLiteral, HasTwoNotFalse, Includes, IsEffectiveStep, IsNewStep, StandsInGiven}
use Rattle.enc_var.specs.Decoding.{no, yes}
use Rattle.enc_var.specs.Notes.{cell_text, indices_text}
use Rattle.ep_base.specs.declared.operators.Sense.{Sense}
use Rattle.ep_print.specs.Answers.{AnswerTree, unknown}
use Rattle.ep_solve.specs.Logged.{IsLogged, ShowsAnswer, Stands, named_values}
use Rattle.ep_tree.specs.Trees.{named}
use Rattle.ep_tree.specs.declared.values.Mode.{Mode}
use Rattle.ep_unroll.specs.Cells.{find_cells, index_lists, instance_cells, is_truth}
use Rattle.sat_search.specs.Logs.{IsSound}
use Rattle.ep_solve_rows.proofs.TwoValues.{most_x, most_measured, notes, tell_solutions}

-- ---- a log with a step

-- two clauses over the variables 1 and 2 which leave both numbers of x
abbrev clauses : List (List Literal)
clauses = (yes 1 ∷ yes 2 ∷ []) ∷ (no 1 ∷ yes 2 ∷ []) ∷ []

-- they are the instance's own givens, and show that 2 is true
abbrev own : List LogEvent
own = given (yes 1 ∷ yes 2 ∷ []) ∷ given (no 1 ∷ yes 2 ∷ []) ∷ []

-- the log with a step that says so
abbrev log : LogState
log = record { events = given (yes 1 ∷ yes 2 ∷ []) ∷ given (no 1 ∷ yes 2 ∷ []) ∷ step (yes 2 ∷ []) (0 ∷ 1 ∷ []) ∷ []; notes = notes; base = 2 }

-- where the variable 2 is true, both clauses hold
second_holds : (s : ℕ → Bool) → s 2 ≡ true → Satisfies s clauses
second_holds s holds = All-from_recursion (SatisfiesClause s) clauses (
  record { literal = yes 2; in_clause = (1, omega arith, refl); is_true = holds },
  (record { literal = yes 2; in_clause = (1, omega arith, refl); is_true = holds }, tt),
)

-- the variable 2 alone is true
abbrev second : ℕ → Bool
second v = nat_eq v 2

-- the log stands for the instance, though its givens have a variable that no note names
stands : Stands Mode.Relational most_x log
unfolding named_values cell_text indices_text instance_cells find_cells index_lists is_truth
stands = record {
  base = record { there = omega arith; givens = All-from_recursion (λ e. is_given e ≡ true) own (refl, (refl, tt)) };
  notes = refl;
  told = tell_solutions (Some (Sense.Maximising, named (record { line = 2; column = 12 }) (codes "x"))) most_measured (λ f. Unit {0}) clauses (record {
    from-1 = λ s holds out. tt;
    from-2 = λ s holds out. tt;
    at-1 = λ w. (second, refl, second_holds second refl);
    at-2 = λ w. (λ v. true, refl, second_holds (λ v. true) refl);
  });
}

-- what stands in the clause of 2 is 2
only_two : (l : Literal) → Contains (yes 2 ∷ []) l → yes 2 ≡ l
only_two l found = elim (Contains-cases (yes 2) [] l found) [
  | inl same ↦ same
  | inr none ↦ absurd (none_in_nil l none)
]

-- 2 isn't a literal of the variable 1
other_variable : (positive : Bool) → yes 2 ≡ record { var = 1; positive = positive } → ⊥
other_variable positive e = omega (arith, ap (λ (l : Literal). l.var) e)

-- the step is new
is_new : IsNewStep own (yes 2 ∷ [])
is_new = record {
  consistent = λ l one other. false≢true (ap (λ (k : Literal). not k.positive) (only_two l one) ∙ sym (ap (λ (k : Literal). k.positive) (only_two (negation l) other)));
  variables = All-from_recursion (λ (l : Literal). StandsInGiven own l.var) (yes 2 ∷ []) (
    record { clause = yes 1 ∷ yes 2 ∷ []; literal = yes 2; is_given = Contains-here (yes 1 ∷ yes 2 ∷ []) ((no 1 ∷ yes 2 ∷ []) ∷ []); in_clause = (1, omega arith, refl); names = refl },
    tt,
  );
  not_included = All-from_recursion (λ other. Includes (yes 2 ∷ []) other → ⊥) clauses (
    λ includes. other_variable true (only_two (yes 1) (All-head (Contains (yes 2 ∷ [])) (yes 1) (yes 2 ∷ []) includes)),
    (λ includes. other_variable false (only_two (no 1) (All-head (Contains (yes 2 ∷ [])) (no 1) (yes 2 ∷ []) includes)), tt),
  );
}

-- with nothing true no clause has a literal that is false
two_not_false : (positive : Bool) → HasTwoNotFalse [] (record { var = 1; positive = positive } ∷ yes 2 ∷ [])
two_not_false positive = record {
  one = record { var = 1; positive = positive };
  other = yes 2;
  two = λ e. other_variable positive (sym e);
  one_in = Contains-here (record { var = 1; positive = positive }) (yes 2 ∷ []);
  other_in = (1, omega arith, refl);
  one_not_false = none_in_nil (negation (record { var = 1; positive = positive }));
  other_not_false = none_in_nil (no 2);
}

-- it is effective: with nothing true, unit propagation is at its end and doesn't give 2
is_effective : IsEffectiveStep own (yes 2 ∷ [])
is_effective = record {
  new = is_new;
  trues = [];
  last = yes 2;
  is_last = record {
    in_clause = Contains-here (yes 2) [];
    others = λ l there differs. absurd (differs (sym (only_two l there)));
    not_true = none_in_nil (yes 2);
    not_false = none_in_nil (no 2);
  };
  at_end = record {
    consistent = λ l there. absurd (none_in_nil l there);
    settled = All-from_recursion (λ clause. HasTrueLiteral [] clause ⊎ HasTwoNotFalse [] clause) clauses (inr (two_not_false true), (inr (two_not_false false), tt));
  };
}

-- so the log is sound
sound : IsSound log.events
sound = record {
  valid = (record { hints_are_there = All-from_recursion (λ h. h < 2) (0 ∷ 1 ∷ []) (omega arith, (omega arith, tt)); shown = refl }, tt);
  new = (λ below. is_new, tt);
  effective = (λ below. is_effective, tt);
}

-- ---- budgets

-- it shows that a budget of one conflict was spent
one_spent : IsLogged Mode.Relational most_x 1 log (unknown 1)
unfolding ShowsAnswer
one_spent = record {
  stands = stands;
  sound = sound;
  within = omega arith;
  shows = ((refl, All-from_recursion (λ clause. clause ≢ []) (clauses_of log.events) ((λ e. absurd cc), ((λ e. absurd cc), ((λ e. absurd cc), tt)))), refl);
}

-- not that one of two was
two_spent : IsLogged Mode.Relational most_x 2 log (unknown 2) → ⊥
unfolding ShowsAnswer
two_spent l = omega (arith, l.shows.0.0)

-- nor any answer where no conflict might be spent
none_spent : (answer : AnswerTree) → IsLogged Mode.Relational most_x 0 log answer → ⊥
none_spent answer l = omega (arith, l.within)

-- steps with a literal count, and neither givens nor empty steps do
counted : nonempty_steps (given (yes 1 ∷ []) ∷ given [] ∷ step [] (1 ∷ []) ∷ step (yes 2 ∷ []) [] ∷ step (no 1 ∷ yes 2 ∷ []) [] ∷ []) ≡ 2
counted = refl
