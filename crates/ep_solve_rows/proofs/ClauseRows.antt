-- What the definitions say of small clauses and logs, as the checker computes it.
use Rattle.std.proofs.Common.{◌≡◌, ◌≢◌, ℕ, ◌<◌, Bool, true, false, ◌⊎◌, inl, inr, List, [], ◌∷◌, ◌++◌, refl, sym, ap, subst, ◌∙◌, arith, lit<}
use Rattle.std.specs.Prelude.{Contains}
use Rattle.std.proofs.lemmas.Bool.{false≢true}
use Rattle.std.proofs.lemmas.List.Elements.{All-from_recursion, All-nil, All-cons, All-head}
use Rattle.cnf_core.specs.Literal.{Literal, negation, Precedes, IsOrdered, is_among}
use Rattle.cnf_core.specs.Clauses.{Satisfies, SatisfiesClause}
use Rattle.cnf_core.specs.Formula.{Cnf, Keeps}
use Rattle.cnf_core.specs.Events.{LogEvent, given, step, clauses_of, nonempty_steps}
use Rattle.cnf_core.specs.Reading.{trues_from, is_shown_by}
use Rattle.cnf_core.specs.Steps.{IsValidStep, IsValidLog, StandsInGiven, IsConsistent, Includes, IsNewStep, IsEffectiveStep, HasTrueLiteral, HasTwoNotFalse}
use Rattle.cnf_core.proofs.Members.{Contains-here, Contains-there, Contains-cases, none_in_nil, test_from_Contains}
use Rattle.cnf_core.proofs.Effective.{last_not_given, none_after_conflict}

abbrev yes : ℕ → Literal
yes v = record { var = v; positive = true }

abbrev no : ℕ → Literal
no v = record { var = v; positive = false }

-- the log over all four clauses of two variables, with the step (1) by the first two and the empty step by 4, 2 and 3
abbrev four : List LogEvent
four =
    given (yes 1 ∷ yes 2 ∷ []) ∷ given (yes 1 ∷ no 2 ∷ []) ∷ given (no 1 ∷ yes 2 ∷ []) ∷ given (no 1 ∷ no 2 ∷ []) ∷ []

abbrev refutation : List LogEvent
refutation = four ++ step (yes 1 ∷ []) (0 ∷ 1 ∷ []) ∷ step [] (4 ∷ 2 ∷ 3 ∷ []) ∷ []

refutation_is_valid : IsValidLog refutation
refutation_is_valid = (
  record { hints_are_there = All-from_recursion (λ h. h < 4) (0 ∷ 1 ∷ []) (lit< tt, (lit< tt, tt)); shown = refl },
  (
    record { hints_are_there = All-from_recursion (λ h. h < 5) (4 ∷ 2 ∷ 3 ∷ []) (lit< tt, (lit< tt, (lit< tt, tt))); shown = refl },
    tt,
  ),
)

refutation_has_one_step_with_a_literal : nonempty_steps refutation ≡ 1
refutation_has_one_step_with_a_literal = refl

-- one hint is too few for the step (1), and the step (-1 2) doesn't follow from the first two
one_hint_is_too_few : is_shown_by (yes 1 ∷ []) ((yes 1 ∷ yes 2 ∷ []) ∷ []) ≡ false
one_hint_is_too_few = refl

another_clause_is_not_shown : is_shown_by (no 1 ∷ yes 2 ∷ []) ((yes 1 ∷ yes 2 ∷ []) ∷ (yes 1 ∷ no 2 ∷ []) ∷ []) ≡ false
another_clause_is_not_shown = refl

-- no hint is read after one that is all false, and none is needed where the negated literals contradict each other
later_hints_are_not_read : is_shown_by (yes 1 ∷ []) ((yes 1 ∷ []) ∷ (yes 5 ∷ yes 6 ∷ []) ∷ []) ≡ true
later_hints_are_not_read = refl

tautology_is_shown : is_shown_by (yes 1 ∷ no 1 ∷ []) [] ≡ true
tautology_is_shown = refl

-- a hint with two literals that aren't false is passed over, and so is one whose last literal is true already
hints_are_passed_over : is_shown_by (yes 1 ∷ []) ((yes 1 ∷ yes 2 ∷ yes 3 ∷ []) ∷ (yes 1 ∷ yes 2 ∷ []) ∷ (yes 1 ∷ yes 2 ∷ []) ∷ (no 2 ∷ []) ∷ []) ≡ true
hints_are_passed_over = refl

order_of_hints_matters : is_shown_by (yes 1 ∷ []) ((no 2 ∷ yes 3 ∷ []) ∷ (yes 1 ∷ yes 2 ∷ []) ∷ (no 2 ∷ no 3 ∷ []) ∷ []) ≡ false
order_of_hints_matters = refl

-- the clauses (1) and (-1 2) make 1 and 2 true, and with (-2) they are in conflict
units_are_given : trues_from [] ((yes 1 ∷ []) ∷ (no 1 ∷ yes 2 ∷ []) ∷ []) ≡ yes 2 ∷ yes 1 ∷ []
units_are_given = refl

units_in_conflict : is_shown_by [] ((yes 1 ∷ []) ∷ (no 1 ∷ yes 2 ∷ []) ∷ (no 2 ∷ []) ∷ []) ≡ true
units_in_conflict = refl

-- a clause that has a literal twice isn't ordered, nor is one with the negative literal first
twice_is_not_ordered : IsOrdered (yes 1 ∷ yes 1 ∷ []) → ⊥
twice_is_not_ordered ordered = apart (ordered 0 1 (yes 1) (lit< tt) (lit< tt))
  where
    apart : Precedes (yes 1) (yes 1) → ⊥
    apart (inl below) = omega arith
    apart (inr same) = false≢true (sym same.2)

negative_first_is_not_ordered : IsOrdered (no 1 ∷ yes 1 ∷ []) → ⊥
negative_first_is_not_ordered ordered = apart (ordered 0 1 (yes 1) (lit< tt) (lit< tt))
  where
    apart : Precedes (no 1) (yes 1) → ⊥
    apart (inl below) = omega arith
    apart (inr same) = false≢true same.1

-- after the clause (1) the step (1 2) isn't new
weakening_is_not_new : IsNewStep (given (yes 1 ∷ []) ∷ []) (yes 1 ∷ yes 2 ∷ []) → ⊥
weakening_is_not_new new =
    All-head (λ other. Includes (yes 1 ∷ yes 2 ∷ []) other → ⊥) (yes 1 ∷ []) [] new.not_included
    (All-cons (Contains (yes 1 ∷ yes 2 ∷ [])) (yes 1) [] (Contains-here (yes 1) (yes 2 ∷ [])) (All-nil (Contains (yes 1 ∷ yes 2 ∷ []))))

-- nor is one with a variable of no given, nor a tautology
unknown_variable_is_not_new : IsNewStep (given (yes 1 ∷ []) ∷ []) (yes 2 ∷ []) → ⊥
unknown_variable_is_not_new new = stands_not (All-head (λ l. StandsInGiven (given (yes 1 ∷ []) ∷ []) l.var) (yes 2) [] new.variables)
  where
    stands_not : StandsInGiven (given (yes 1 ∷ []) ∷ []) 2 → ⊥
    stands_not stands =
        elim (Contains-cases (yes 1 ∷ []) [] stands.clause stands.is_given) [
          | inr none ↦ none_in_nil stands.clause none
          | inl here ↦ elim (Contains-cases (yes 1) [] stands.literal (subst (λ (c : List Literal). Contains c stands.literal) (sym here) stands.in_clause)) [
            | inr none ↦ none_in_nil stands.literal none
            | inl same ↦ let e : 1 ≡ stands.literal.var = cc in omega (arith, e, stands.names)
          ]
        ]

tautology_is_not_new : IsNewStep four (yes 1 ∷ no 1 ∷ []) → ⊥
tautology_is_not_new new =
    new.consistent (yes 1) (Contains-here (yes 1) (no 1 ∷ [])) (Contains-there (yes 1) (no 1 ∷ []) (no 1) (Contains-here (no 1) []))

-- the step (-1 3) after the clauses (-1 2) and (-2 3): valid and new, and not effective
abbrev chain : List LogEvent
chain = given (no 1 ∷ yes 2 ∷ []) ∷ given (no 2 ∷ yes 3 ∷ []) ∷ []

abbrev resolvent : List Literal
resolvent = no 1 ∷ yes 3 ∷ []

resolvent_is_valid : IsValidStep chain resolvent (0 ∷ 1 ∷ [])
resolvent_is_valid = record {
  hints_are_there = All-from_recursion (λ h. h < 2) (0 ∷ 1 ∷ []) (lit< tt, (lit< tt, tt));
  shown = refl;
}

lacks : (literals : List Literal) (l : Literal) → is_among literals l ≡ false → Contains literals l → ⊥
lacks literals l absent found = false≢true (sym absent ∙ test_from_Contains literals l found)

-- a clause of two literals that aren't each other's negations holds none together with its negation
resolvent_is_consistent : IsConsistent resolvent
resolvent_is_consistent l found opposite =
    elim (Contains-cases (no 1) (yes 3 ∷ []) l found) [
      | inl here ↦ lacks resolvent (yes 1) refl (subst (λ (m : Literal). Contains resolvent (negation m)) (sym here) opposite)
      | inr there ↦ elim (Contains-cases (yes 3) [] l there) [
        | inl here ↦ lacks resolvent (no 3) refl (subst (λ (m : Literal). Contains resolvent (negation m)) (sym here) opposite)
        | inr none ↦ none_in_nil l none
      ]
    ]

resolvent_is_new : IsNewStep chain resolvent
resolvent_is_new = record {
  consistent = resolvent_is_consistent;
  variables = All-cons (λ l. StandsInGiven chain l.var) (no 1) (yes 3 ∷ [])
      (record { clause = no 1 ∷ yes 2 ∷ []; literal = no 1; is_given = (0, lit< tt, refl); in_clause = (0, lit< tt, refl); names = refl })
      (All-cons (λ l. StandsInGiven chain l.var) (yes 3) []
      (record { clause = no 2 ∷ yes 3 ∷ []; literal = yes 3; is_given = (1, lit< tt, refl); in_clause = (1, lit< tt, refl); names = refl })
      (All-nil (λ l. StandsInGiven chain l.var)));
  not_included = All-cons (λ other. Includes resolvent other → ⊥) (no 1 ∷ yes 2 ∷ []) ((no 2 ∷ yes 3 ∷ []) ∷ [])
      (λ includes. lacks resolvent (yes 2) refl (includes 1 (yes 2) (lit< tt)))
      (All-cons (λ other. Includes resolvent other → ⊥) (no 2 ∷ yes 3 ∷ []) []
      (λ includes. lacks resolvent (no 2) refl (includes 0 (yes 2) (lit< tt)))
      (All-nil (λ other. Includes resolvent other → ⊥)));
}

resolvent_is_not_effective : IsEffectiveStep chain resolvent → ⊥
resolvent_is_not_effective effective =
    elim (Contains-cases (no 1) (yes 3 ∷ []) effective.last effective.is_last.in_clause) [
      | inl here ↦ last_not_given chain resolvent (yes 3 ∷ []) (1 ∷ 0 ∷ []) effective
          (All-cons (λ l. Contains resolvent l × (l ≢ effective.last)) (yes 3) [] ((1, lit< tt, refl), λ e. false≢true (sym (ap (λ (l : Literal). l.positive) (e ∙ sym here)))) (All-nil (λ l. Contains resolvent l × (l ≢ effective.last))))
          (All-from_recursion (λ h. h < 2) (1 ∷ 0 ∷ []) (lit< tt, (lit< tt, tt)))
          (subst (Contains (no 1 ∷ no 2 ∷ no 3 ∷ [])) here (Contains-here (no 1) (no 2 ∷ no 3 ∷ [])))
      | inr there ↦ elim (Contains-cases (yes 3) [] effective.last there) [
        | inr none ↦ none_in_nil effective.last none
        | inl here ↦ last_not_given chain resolvent (no 1 ∷ []) (0 ∷ 1 ∷ []) effective
            (All-cons (λ l. Contains resolvent l × (l ≢ effective.last)) (no 1) [] ((0, lit< tt, refl), λ e. false≢true (ap (λ (l : Literal). l.positive) (e ∙ sym here))) (All-nil (λ l. Contains resolvent l × (l ≢ effective.last))))
            (All-from_recursion (λ h. h < 2) (0 ∷ 1 ∷ []) (lit< tt, (lit< tt, tt)))
            (subst (Contains (yes 3 ∷ yes 2 ∷ yes 1 ∷ [])) here (Contains-here (yes 3) (yes 2 ∷ yes 1 ∷ [])))
      ]
    ]

-- after the clauses (1), (-1 2) and (-2) no step is effective
abbrev conflict : List LogEvent
conflict = given (yes 1 ∷ []) ∷ given (no 1 ∷ yes 2 ∷ []) ∷ given (no 2 ∷ []) ∷ []

nothing_is_effective : (clause : List Literal) → IsEffectiveStep conflict clause → ⊥
nothing_is_effective clause =
    none_after_conflict conflict clause (0 ∷ 1 ∷ 2 ∷ []) (record {
      hints_are_there = All-from_recursion (λ h. h < 3) (0 ∷ 1 ∷ 2 ∷ []) (lit< tt, (lit< tt, (lit< tt, tt)));
      shown = refl;
    })

-- over all four clauses the step (1) is effective: nothing is true, and each clause has two literals that aren't false
first_step_is_new : IsNewStep four (yes 1 ∷ [])
first_step_is_new = record {
  consistent = λ l found opposite. elim (Contains-cases (yes 1) [] l found) [
    | inl here ↦ lacks (yes 1 ∷ []) (no 1) refl (subst (λ (m : Literal). Contains (yes 1 ∷ []) (negation m)) (sym here) opposite)
    | inr none ↦ none_in_nil l none
  ];
  variables = All-cons (λ l. StandsInGiven four l.var) (yes 1) []
      (record { clause = yes 1 ∷ yes 2 ∷ []; literal = yes 1; is_given = (0, lit< tt, refl); in_clause = (0, lit< tt, refl); names = refl })
      (All-nil (λ l. StandsInGiven four l.var));
  not_included = All-from_recursion (λ other. Includes (yes 1 ∷ []) other → ⊥) (clauses_of four) (
    λ includes. lacks (yes 1 ∷ []) (yes 2) refl (includes 1 (yes 2) (lit< tt)),
    (
      λ includes. lacks (yes 1 ∷ []) (no 2) refl (includes 1 (yes 2) (lit< tt)),
      (
        λ includes. lacks (yes 1 ∷ []) (no 1) refl (includes 0 (yes 2) (lit< tt)),
        (λ includes. lacks (yes 1 ∷ []) (no 1) refl (includes 0 (yes 2) (lit< tt)), tt),
      ),
    ),
  );
}

two_not_false : (a b : Literal) → (a ≢ b) → HasTwoNotFalse [] (a ∷ b ∷ [])
two_not_false a b differ = record {
  one = a;
  other = b;
  two = differ;
  one_in = (0, lit< tt, refl);
  other_in = (1, lit< tt, refl);
  one_not_false = λ found. none_in_nil (negation a) found;
  other_not_false = λ found. none_in_nil (negation b) found;
}

one_is_not_two : ◌≡◌ {A = ℕ} 1 2 → ⊥
one_is_not_two e = omega arith

first_step_is_effective : IsEffectiveStep four (yes 1 ∷ [])
first_step_is_effective = record {
  new = first_step_is_new;
  trues = [];
  last = yes 1;
  is_last = record {
    in_clause = (0, lit< tt, refl);
    others = λ l found differs. elim (Contains-cases (yes 1) [] l found) [ inl here ↦ absurd (differs (sym here)) | inr none ↦ absurd (none_in_nil l none) ];
    not_true = λ found. none_in_nil (yes 1) found;
    not_false = λ found. none_in_nil (no 1) found;
  };
  at_end = record {
    consistent = λ l found opposite. none_in_nil l found;
    settled = All-from_recursion (λ clause. HasTrueLiteral [] clause ⊎ HasTwoNotFalse [] clause) (clauses_of four) (
      inr (two_not_false (yes 1) (yes 2) (λ e. one_is_not_two (ap (λ (l : Literal). l.var) e))),
      (
        inr (two_not_false (yes 1) (no 2) (λ e. one_is_not_two (ap (λ (l : Literal). l.var) e))),
        (
          inr (two_not_false (no 1) (yes 2) (λ e. one_is_not_two (ap (λ (l : Literal). l.var) e))),
          (inr (two_not_false (no 1) (no 2) (λ e. one_is_not_two (ap (λ (l : Literal). l.var) e))), tt),
        ),
      ),
    );
  };
}

-- with the clause (1) a formula of one variable keeps the assignments in which that is true, and no others
abbrev free : Cnf
free = record { vars = 1; clauses = []; from_new = true }

abbrev fixed : Cnf
fixed = record { vars = 1; clauses = (yes 1 ∷ []) ∷ []; from_new = true }

value_in_fixed : (s : ℕ → Bool) → Satisfies s fixed.clauses → s 1 ≡ true
value_in_fixed s satisfied =
    let found = All-head (SatisfiesClause s) (yes 1 ∷ []) [] satisfied in
    elim (Contains-cases (yes 1) [] found.literal found.in_clause) [
      | inl here ↦ subst (λ (l : Literal). s l.var ≡ l.positive) (sym here) found.is_true
      | inr none ↦ absurd (none_in_nil found.literal none)
    ]

fixed_keeps_free : Keeps free fixed (λ s. s 1 ≡ true)
fixed_keeps_free = record {
  variables = omega arith;
  extension = λ s any. (
    λ far. far.agrees 1 (omega arith) (omega arith) ∙ value_in_fixed far.values far.satisfies,
    λ is. record {
      values = s;
      agrees = λ v one below. refl;
      satisfies = All-cons (SatisfiesClause s) (yes 1 ∷ []) [] (record { literal = yes 1; in_clause = (0, lit< tt, refl); is_true = is }) (All-nil (SatisfiesClause s));
    },
  );
  restriction = λ s satisfied. All-nil (SatisfiesClause s);
}
