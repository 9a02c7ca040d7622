-- Answers for an instance whose greatest x is wanted, with the logs that show them, and answers and logs that are refused.
use Rattle.std.proofs.Common.{◌≡◌, ◌≢◌, ◌↔◌, ◌⊎◌, inl, inr, ℕ, ◌+◌, ◌-◌, ◌<◌, suc, zero, ℤ, pos, Bool, true, false, List, [], ◌∷◌, ◌++◌, length, Some, refl, sym, ap, subst, ◌∙◌, arith, None}
use Rattle.std.specs.Prelude.{codes, int_lt, slice_get, slice_index_or, Option}
use Rattle.std.specs.List.{AllZip}
use Rattle.std.specs.Ordering.{int_eq}
use Rattle.std.proofs.lemmas.Bool.{false≢true}
use Rattle.std.proofs.lemmas.List.Elements.{All-cons, All-from_recursion, All-head, All-nil, All-tail}
use Rattle.std.proofs.lemmas.List.Sorted.{IsPermutation-refl}
use Rattle.cnf_core.specs.Clauses.{Satisfies, SatisfiesClause}
use Rattle.cnf_core.specs.Events.{LogEvent, LogState, given, is_given, step}
use Rattle.enc_var.specs.Decoding.{yes}
use Rattle.enc_var.specs.Notes.{cell_text, indices_text}
use Rattle.ep_base.proofs.Small.{some_is}
use Rattle.ep_base.specs.Senses.{better_number}
use Rattle.ep_base.specs.declared.names.Name.{Name}
use Rattle.ep_base.specs.declared.operators.Sense.{Sense}
use Rattle.ep_print.specs.Answers.{AnswerTree, no_solution, optimum, solution, unknown, unknown_with}
use Rattle.ep_solve.specs.Logged.{AreTold, AreWanted, IsBetterGoal, IsBetterSolution, IsDrivenTo, IsLogged, IsReached, IsStillWanted, Leaves, SaysOfSolutions, ShowsAnswer, Stands, TellNumbers, TellSolutions, added_clauses, first_givens, named_values}
use Rattle.ep_solve.specs.Right.{IsRight}
use Rattle.ep_tree.proofs.Opened.{the_language}
use Rattle.ep_tree.specs.Environments.{Bound, has_value}
use Rattle.ep_tree.specs.Solutions.{Assigned, Found, IsBetter, IsSolution, IsWritten, goal_value}
use Rattle.ep_tree.specs.Trees.{ExprTree, named}
use Rattle.ep_tree.specs.Values.{single}
use Rattle.ep_tree.specs.declared.values.Mode.{Mode}
use Rattle.ep_tree.specs.declared.values.ValueType.{ValueType}
use Rattle.ep_unroll.specs.Cells.{find_cells, found_numbers, index_lists, instance_cells, is_truth}
use Rattle.sat_search.specs.Logs.{EndsWithEmptyStep, IsSound}
use Rattle.ep_solve_rows.proofs.TwoValues.{SayWhich, Told, bare, bare_measured, both, empty_fails, fits-1, fits-2, found, heads, is, most_x, most_measured, neither, notes, numbers_are, one_holds, one_is, one_is_not_two, one_of_both, pair, solves-1, solves-2, tell_solutions, tells-1, tells-2, told, wanted-2, without_clauses}

-- ---- the instance's solutions and what is better

-- x, whose greatest number is wanted
abbrev x : ExprTree
x = named (record { line = 2; column = 12 }) (codes "x")

-- the greatest x is wanted
abbrev goal : Option (Sense × ExprTree)
goal = Some (Sense.Maximising, x)

-- that x is 1 is a solution
abbrev solution-1 : IsSolution Mode.Relational most_x (is (pos 1))
solution-1 = solves-1 goal (most_measured (pos 1))

-- that x is 2 is a solution
abbrev solution-2 : IsSolution Mode.Relational most_x (is (pos 2))
solution-2 = solves-2 goal (most_measured (pos 2))

-- that x is 1 is written as the instance states it
written-1 : IsWritten most_x (is (pos 1))
unfolding the_language
written-1 = refl

-- that x is 2 is written as the instance states it
written-2 : IsWritten most_x (is (pos 2))
unfolding the_language
written-2 = refl

-- the objective's number is x
goal_is : (n : ℤ) → goal_value Mode.Relational most_x (found n) ≡ Some n
unfolding the_language
goal_is n = refl

-- 2 is better than 1
two_is_better : IsBetterGoal most_x (pos 1) (Some (pos 2))
unfolding better_number
two_is_better = record { sense = Sense.Maximising; e = x; number = pos 2; stated = refl; has_number = refl; better = refl }

-- whatever number is better is greater
is_greater : (best n : ℤ) → IsBetterGoal most_x best (Some n) → int_lt best n ≡ true
unfolding better_number
is_greater best n b =
    ap (λ m. int_lt best m) (some_is b.has_number) ∙ ap (λ s. better_number s b.number best) (ap (λ g. g.0) (some_is b.stated)) ∙ b.better

-- 1 isn't better than 2
one_is_not_better : IsBetterGoal most_x (pos 2) (Some (pos 1)) → ⊥
one_is_not_better b = false≢true (is_greater (pos 2) (pos 1) b)

-- nor is 2, which is as good
two_is_not_better : IsBetterGoal most_x (pos 2) (Some (pos 2)) → ⊥
two_is_not_better b = false≢true (is_greater (pos 2) (pos 2) b)

-- what is found with 2 is better than 1
two_wanted : IsBetterSolution Mode.Relational most_x (pos 1) (found (pos 2))
two_wanted = subst (λ g. IsBetterGoal most_x (pos 1) g) (sym (goal_is (pos 2))) two_is_better

-- what is found better than a number has a greater number
is_above : (best n : ℤ) → IsBetterSolution Mode.Relational most_x best (found n) → int_lt best n ≡ true
is_above best n b = is_greater best n (subst (λ g. IsBetterGoal most_x best g) (goal_is n) b)

-- what is found with 1 isn't better than 1
one_not_above_one : IsBetterSolution Mode.Relational most_x (pos 1) (found (pos 1)) → ⊥
one_not_above_one b = false≢true (is_above (pos 1) (pos 1) b)

-- no solution is better than 2
none_above_two : (f : Found) → (f ≡ found (pos 1)) ⊎ (f ≡ found (pos 2)) → IsBetterSolution Mode.Relational most_x (pos 2) f → ⊥
none_above_two f (inl one) b = false≢true (is_above (pos 2) (pos 1) (subst (λ g. IsBetterSolution Mode.Relational most_x (pos 2) g) one b))
none_above_two f (inr two) b = false≢true (is_above (pos 2) (pos 2) (subst (λ g. IsBetterSolution Mode.Relational most_x (pos 2) g) two b))

-- ---- right answers

-- 2 is better than 1 as an assignment too
better : IsBetter Mode.Relational most_x (is (pos 2)) (is (pos 1))
unfolding the_language
better = record {
  sense = Sense.Maximising;
  e = x;
  stated = refl;
  one = found (pos 2);
  other = found (pos 1);
  one_fits = fits-2 goal;
  other_fits = fits-1 goal;
  x = pos 2;
  y = pos 1;
  one_value = refl;
  other_value = refl;
  is_better = refl;
}

-- no solution is better than that x is 2
best : (b : Assigned) → IsSolution Mode.Relational most_x b → IsBetter Mode.Relational most_x b (is (pos 2)) → ⊥
best b solves better =
    let other : found (pos 2) ≡ better.other = some_is (sym (fits-2 goal).values ∙ better.other_fits.values) in
    let y_is : pos 2 ≡ better.y = some_is (sym (goal_is (pos 2)) ∙ ap (goal_value Mode.Relational most_x) other ∙ better.other_value) in
    none_above_two better.one (one_of_both goal b better.one better.one_fits) (record {
      sense = better.sense;
      e = better.e;
      number = better.x;
      stated = better.stated;
      has_number = better.one_value;
      better = subst (λ y. better_number better.sense better.x y ≡ true) (sym y_is) better.is_better;
    })

-- 2 is the optimum
right : (budget : ℕ) → IsRight Mode.Relational most_x budget (optimum (pos 2) (is (pos 2)))
unfolding IsRight
right budget = (written-2, record { solution = solution-2; best = best }, goal_is (pos 2))

-- 1 is no optimum, since 2 is better
right_one : (budget : ℕ) → IsRight Mode.Relational most_x budget (optimum (pos 1) (is (pos 1))) → ⊥
unfolding IsRight
right_one budget r = r.1.best (is (pos 2)) solution-2 better

-- nor is 2 one whose objective has the number 1
right_other_number : (budget : ℕ) → IsRight Mode.Relational most_x budget (optimum (pos 1) (is (pos 2))) → ⊥
unfolding IsRight
right_other_number budget r = one_is_not_two (some_is (sym r.2 ∙ goal_is (pos 2)))

-- it isn't right that there is no solution, since that x is 1 is one
right_none : (budget : ℕ) → IsRight Mode.Relational most_x budget no_solution → ⊥
unfolding IsRight
right_none budget r = r (is (pos 1)) solution-1

-- nor to answer 2 as a solution alone, since an objective is stated
right_solution : (budget : ℕ) → IsRight Mode.Relational most_x budget (solution (is (pos 2))) → ⊥
unfolding IsRight
right_solution budget r = absurd cc

-- it is right that a budget of 3 was spent by 3 conflicts
right_spent : IsRight Mode.Relational most_x 3 (unknown 3)
unfolding IsRight
right_spent = refl

-- it is right with 1 at hand too
right_spent_with : IsRight Mode.Relational most_x 3 (unknown_with 3 (pos 1) (is (pos 1)))
unfolding IsRight
right_spent_with = (refl, written-1, solution-1, goal_is (pos 1))

-- it isn't right that a budget of 3 was spent by 2 conflicts
right_not_spent : IsRight Mode.Relational most_x 3 (unknown 2) → ⊥
unfolding IsRight
right_not_spent r = omega (arith, r)

-- nor with 1 at hand
right_not_spent_with : IsRight Mode.Relational most_x 3 (unknown_with 2 (pos 1) (is (pos 1))) → ⊥
unfolding IsRight
right_not_spent_with r = omega (arith, r.0)

-- nor that 1 is at hand with the objective's number 2
right_other_at_hand : IsRight Mode.Relational most_x 3 (unknown_with 3 (pos 2) (is (pos 1))) → ⊥
unfolding IsRight
right_other_at_hand r = one_is_not_two (some_is (sym (goal_is (pos 1)) ∙ r.3))

-- ---- the log of the optimum

-- the log in which it is added that 1 is bettered, which 2 does where the variable 1 is true, and that 2 is, which nothing does; the second clause shows the empty step
abbrev log : LogState
log = record { events = given (yes 1 ∷ []) ∷ given [] ∷ step [] (1 ∷ []) ∷ []; notes = notes; base = 0 }

-- logs with these notes stand for the instance without a given of its own, whatever was added
stand_with : (events : List LogEvent) → Stands Mode.Relational most_x (record { events = events; notes = notes; base = 0 })
unfolding named_values cell_text indices_text instance_cells find_cells index_lists is_truth
stand_with events = record {
  base = record { there = omega arith; givens = All-nil (λ e. is_given e ≡ true) };
  notes = refl;
  told = tell_solutions goal most_measured (λ f. Unit {0}) [] (record {
    from-1 = λ s holds out. tt;
    from-2 = λ s holds out. tt;
    at-1 = λ w. without_clauses false;
    at-2 = λ w. without_clauses true;
  });
}

-- the step of the log is valid, and none has a literal
sound : IsSound log.events
sound = record {
  valid = (record { hints_are_there = All-from_recursion (λ h. h < 2) (1 ∷ []) (omega arith, tt); shown = refl }, tt);
  new = (λ below. absurd (omega (arith, below)), tt);
  effective = (λ below. absurd (omega (arith, below)), tt);
}

-- where the cell of a solution that is wanted has a number, that x is the number is wanted
wanted_is : (wanted : Found → Type 0) (n : ℤ) → AreWanted Mode.Relational most_x wanted (n ∷ []) → wanted (found n)
wanted_is wanted n w = elim (one_of_both goal w.assigned w.solves.found w.solves.fits) [
  | inl one ↦ subst (λ k. wanted (found k)) (number (pos 1) one) (subst wanted one w.is_wanted)
  | inr two ↦ subst (λ k. wanted (found k)) (number (pos 2) two) (subst wanted two w.is_wanted)
]
  where
    number : (m : ℤ) → w.solves.found ≡ found m → m ≡ n
    number m e = heads (sym (numbers_are m) ∙ ap found_numbers (sym e) ∙ w.numbers_are)

-- the first clause says that 1 is bettered
says-1 : (events : List LogEvent) → SaysOfSolutions Mode.Relational most_x (record { events = events; notes = notes; base = 0 }) (IsBetterSolution Mode.Relational most_x (pos 1)) (yes 1 ∷ [])
says-1 events = record { says = λ s holds. by_sign s (s 1) refl }
  where
    by_sign : (s : ℕ → Bool) (b : Bool) → s 1 ≡ b → (numbers : List ℤ) × TellNumbers s notes (instance_cells most_x) numbers
        × (SatisfiesClause s (yes 1 ∷ []) ↔ AreWanted Mode.Relational most_x (IsBetterSolution Mode.Relational most_x (pos 1)) numbers)
    by_sign s false e = (pos 1 ∷ [], tells-1 goal s e, neither (λ c. false≢true (sym e ∙ one_is s (yes 1) c)) (λ w. one_not_above_one (wanted_is (IsBetterSolution Mode.Relational most_x (pos 1)) (pos 1) w)))
    by_sign s true e = (pos 2 ∷ [], tells-2 goal s e, both (one_holds s (yes 1) e) (wanted-2 goal most_measured (IsBetterSolution Mode.Relational most_x (pos 1)) two_wanted))

-- the second clause, which is empty, says that 2 is bettered
says-2 : SaysOfSolutions Mode.Relational most_x log (IsBetterSolution Mode.Relational most_x (pos 2)) []
says-2 = record { says = λ s holds. by_sign s (s 1) refl }
  where
    none : (numbers : List ℤ) → AreWanted Mode.Relational most_x (IsBetterSolution Mode.Relational most_x (pos 2)) numbers → ⊥
    none numbers w = none_above_two w.solves.found (one_of_both goal w.assigned w.solves.found w.solves.fits) w.is_wanted

    by_sign : (s : ℕ → Bool) (b : Bool) → s 1 ≡ b → (numbers : List ℤ) × TellNumbers s notes (instance_cells most_x) numbers
        × (SatisfiesClause s [] ↔ AreWanted Mode.Relational most_x (IsBetterSolution Mode.Relational most_x (pos 2)) numbers)
    by_sign s false e = (pos 1 ∷ [], tells-1 goal s e, neither (empty_fails s) (none (pos 1 ∷ [])))
    by_sign s true e = (pos 2 ∷ [], tells-2 goal s e, neither (empty_fails s) (none (pos 2 ∷ [])))

-- the first clause leaves what is better than 1
above_one : SayWhich (IsBetterSolution Mode.Relational most_x (pos 1)) ((yes 1 ∷ []) ∷ [])
above_one = record {
  from-1 = λ s holds out. absurd (false≢true (sym out ∙ one_is s (yes 1) (All-head (SatisfiesClause s) (yes 1 ∷ []) [] holds)));
  from-2 = λ s holds out. two_wanted;
  at-1 = λ w. absurd (one_not_above_one w);
  at-2 = λ w. (λ v. true, refl, All-cons (SatisfiesClause (λ v. true)) (yes 1 ∷ []) [] (one_holds (λ v. true) (yes 1) refl) (All-nil (SatisfiesClause (λ v. true))));
}

-- both clauses leave what is better than 2, which is nothing
above_two : SayWhich (IsBetterSolution Mode.Relational most_x (pos 2)) ((yes 1 ∷ []) ∷ [] ∷ [])
above_two = record {
  from-1 = λ s holds out. absurd (no_more s holds);
  from-2 = λ s holds out. absurd (no_more s holds);
  at-1 = λ w. absurd (none_above_two (found (pos 1)) (inl refl) w);
  at-2 = λ w. absurd (none_above_two (found (pos 2)) (inr refl) w);
}
  where
    no_more : (s : ℕ → Bool) → Satisfies s ((yes 1 ∷ []) ∷ [] ∷ []) → ⊥
    no_more s holds = empty_fails s (All-head (SatisfiesClause s) [] [] (All-tail (SatisfiesClause s) (yes 1 ∷ []) ([] ∷ []) holds))

-- what satisfies the clauses up to that of a number is what is better than the number
narrows : (k : ℕ) (number : ℤ) → slice_get (pos 1 ∷ pos 2 ∷ []) k ≡ Some number
    → TellSolutions Mode.Relational most_x notes (first_givens log (k + 1)) (IsBetterSolution Mode.Relational most_x number)
narrows zero number e =
    subst (λ n. TellSolutions Mode.Relational most_x notes ((yes 1 ∷ []) ∷ []) (IsBetterSolution Mode.Relational most_x n)) (some_is e)
    (tell_solutions goal most_measured (IsBetterSolution Mode.Relational most_x (pos 1)) ((yes 1 ∷ []) ∷ []) above_one)
narrows (suc zero) number e =
    subst (λ n. TellSolutions Mode.Relational most_x notes ((yes 1 ∷ []) ∷ [] ∷ []) (IsBetterSolution Mode.Relational most_x n)) (some_is e)
    (tell_solutions goal most_measured (IsBetterSolution Mode.Relational most_x (pos 2)) ((yes 1 ∷ []) ∷ [] ∷ []) above_two)
narrows (suc (suc k)) number e = absurd cc

-- 1 is the number of a solution
reached-1 : IsReached Mode.Relational most_x (pos 1)
reached-1 = (is (pos 1), written-1, solution-1, goal_is (pos 1))

-- 2 is the number of a solution
reached-2 : IsReached Mode.Relational most_x (pos 2)
reached-2 = (is (pos 2), written-2, solution-2, goal_is (pos 2))

-- 3 is the number of no solution
reached_three : IsReached Mode.Relational most_x (pos 3) → ⊥
reached_three r = of_found (one_of_both goal r.0 r.2.found r.2.fits)
  where
    number_is : goal_value Mode.Relational most_x r.2.found ≡ Some (pos 3)
    number_is = ap (goal_value Mode.Relational most_x) (some_is (sym r.2.fits.values ∙ r.1)) ∙ r.3

    of_found : (r.2.found ≡ found (pos 1)) ⊎ (r.2.found ≡ found (pos 2)) → ⊥
    of_found (inl one) = false≢true (ap (λ n. int_eq n (pos 3)) (some_is (sym (goal_is (pos 1)) ∙ ap (goal_value Mode.Relational most_x) (sym one) ∙ number_is)))
    of_found (inr two) = false≢true (ap (λ n. int_eq n (pos 3)) (some_is (sym (goal_is (pos 2)) ∙ ap (goal_value Mode.Relational most_x) (sym two) ∙ number_is)))

-- the search came to 2 by the numbers 1 and 2
driven : IsDrivenTo Mode.Relational most_x log (pos 2)
driven = record {
  numbers = pos 1 ∷ pos 2 ∷ [];
  reached = All-from_recursion (IsReached Mode.Relational most_x) (pos 1 ∷ pos 2 ∷ []) (reached-1, (reached-2, tt));
  better = pair (λ earlier later. IsBetterGoal most_x earlier (Some later)) (pos 1) (pos 2) two_is_better;
  last = refl;
  said = (says-1 log.events, (says-2, tt));
  narrows = narrows;
}

-- the log ends with the empty step
ends : EndsWithEmptyStep log.events
ends = record { before = given (yes 1 ∷ []) ∷ given [] ∷ []; hints = 1 ∷ []; events_are = refl }

-- the log shows the optimum, however many conflicts might be spent
logged : (budget : ℕ) → IsLogged Mode.Relational most_x budget log (optimum (pos 2) (is (pos 2)))
unfolding ShowsAnswer
logged budget = record { stands = stand_with log.events; sound = sound; within = omega arith; shows = (ends, driven) }

-- ---- what this log doesn't show

-- it shows no other number: the empty clause, the last that was added, doesn't say that 1 is bettered
not_driven : IsDrivenTo Mode.Relational most_x log (pos 1) → ⊥
not_driven d = of_numbers d.numbers d.last d.said
  where
    of_numbers : (numbers : List ℤ) → slice_get numbers (length numbers - 1) ≡ Some (pos 1)
        → AllZip (λ number. SaysOfSolutions Mode.Relational most_x log (IsBetterSolution Mode.Relational most_x number)) numbers (added_clauses log) → ⊥
    of_numbers [] last said = said
    of_numbers (n ∷ []) last said = said.1
    of_numbers (n ∷ m ∷ []) last said =
        let says : (numbers : List ℤ) × TellNumbers (λ v. true) notes (instance_cells most_x) numbers
        × (SatisfiesClause (λ v. true) [] ↔ AreWanted Mode.Relational most_x (IsBetterSolution Mode.Relational most_x m) numbers) = said.1.0.says (λ v. true) (All-nil (SatisfiesClause (λ v. true))) in
        elim (told goal (λ v. true) says.0 says.1) [
          | inl one ↦ false≢true (sym one.0)
          | inr two ↦ empty_fails (λ v. true) (says.2.1 (subst (λ numbers. AreWanted Mode.Relational most_x (IsBetterSolution Mode.Relational most_x m) numbers) (sym two.1) (wanted-2 goal most_measured (IsBetterSolution Mode.Relational most_x m) (subst (λ k. IsBetterSolution Mode.Relational most_x k (found (pos 2))) (sym (some_is last)) two_wanted))))
        ]
    of_numbers (n ∷ m ∷ k ∷ numbers) last said = said.1.1

-- so the log shows no optimum of 1
logged_one : (budget : ℕ) (a : Assigned) → IsLogged Mode.Relational most_x budget log (optimum (pos 1) a) → ⊥
unfolding ShowsAnswer
logged_one budget a l = not_driven l.shows.1

-- it isn't so that nothing was added
added_nothing : added_clauses log ≡ [] → ⊥
added_nothing e = absurd cc

-- so the log doesn't show that there is no solution
logged_none : (budget : ℕ) → IsLogged Mode.Relational most_x budget log no_solution → ⊥
unfolding ShowsAnswer
logged_none budget l = added_nothing l.shows.1

-- nor one solution without its objective
logged_solution : (budget : ℕ) (a : Assigned) → IsLogged Mode.Relational most_x budget log (solution a) → ⊥
unfolding ShowsAnswer
logged_solution budget a l = added_nothing l.shows

-- nor that a budget was spent, with 2 at hand, since it has the empty step
logged_spent : (budget : ℕ) → IsLogged Mode.Relational most_x budget log (unknown_with budget (pos 2) (is (pos 2))) → ⊥
unfolding ShowsAnswer
logged_spent budget l = All-head (λ clause. clause ≢ []) [] ([] ∷ []) (All-tail (λ clause. clause ≢ []) (yes 1 ∷ []) ([] ∷ [] ∷ []) l.shows.0.1) refl

-- ---- logs of spent budgets

-- the log without an event
abbrev no_event : LogState
no_event = record { events = []; notes = notes; base = 0 }

-- it shows that a budget of nothing was spent
nothing_spent : IsLogged Mode.Relational most_x 0 no_event (unknown 0)
unfolding ShowsAnswer
nothing_spent = record {
  stands = stand_with [];
  sound = record { valid = tt; new = tt; effective = tt };
  within = omega arith;
  shows = ((refl, All-nil (λ clause. clause ≢ [])), refl);
}

-- it doesn't show that a budget of 1 was spent, since no step has a literal
less_spent : IsLogged Mode.Relational most_x 1 no_event (unknown 1) → ⊥
unfolding ShowsAnswer
less_spent l = omega (arith, l.shows.0.0)

-- the log in which it is added that 1 is bettered, and nothing else
abbrev one_given : LogState
one_given = record { events = given (yes 1 ∷ []) ∷ []; notes = notes; base = 0 }

-- the search came to 1 by this number alone
driven_to_one : IsDrivenTo Mode.Relational most_x one_given (pos 1)
driven_to_one = record {
  numbers = pos 1 ∷ [];
  reached = All-from_recursion (IsReached Mode.Relational most_x) (pos 1 ∷ []) (reached-1, tt);
  better = λ i j d before below. absurd (omega (arith, before, below));
  last = refl;
  said = (says-1 one_given.events, tt);
  narrows = λ k number e. first k number e;
}
  where
    first : (k : ℕ) (number : ℤ) → slice_get (pos 1 ∷ []) k ≡ Some number
        → TellSolutions Mode.Relational most_x notes (first_givens one_given (k + 1)) (IsBetterSolution Mode.Relational most_x number)
    first zero number e =
        subst (λ n. TellSolutions Mode.Relational most_x notes ((yes 1 ∷ []) ∷ []) (IsBetterSolution Mode.Relational most_x n)) (some_is e)
        (tell_solutions goal most_measured (IsBetterSolution Mode.Relational most_x (pos 1)) ((yes 1 ∷ []) ∷ []) above_one)
    first (suc k) number e = absurd cc

-- so the log shows that a budget of nothing was spent, with 1 at hand
spent_with_one : IsLogged Mode.Relational most_x 0 one_given (unknown_with 0 (pos 1) (is (pos 1)))
unfolding ShowsAnswer IsStillWanted
spent_with_one = record {
  stands = stand_with one_given.events;
  sound = record { valid = tt; new = tt; effective = tt };
  within = omega arith;
  shows = (
    (refl, All-from_recursion (λ clause. clause ≢ []) ((yes 1 ∷ []) ∷ []) ((λ e. absurd cc), tt)),
    driven_to_one,
    tell_solutions goal most_measured (IsBetterSolution Mode.Relational most_x (pos 1)) ((yes 1 ∷ []) ∷ []) above_one,
  );
}

-- what is left isn't what is better than 2
left_above_two : Leaves Mode.Relational most_x one_given (Some (pos 2)) → ⊥
unfolding IsStillWanted
left_above_two l =
    let t : (numbers : List ℤ) × TellNumbers (λ v. true) notes (instance_cells most_x) numbers × AreWanted Mode.Relational most_x (IsBetterSolution Mode.Relational most_x (pos 2)) numbers
    = l.sound (λ v. true) (All-cons (SatisfiesClause (λ v. true)) (yes 1 ∷ []) [] (one_holds (λ v. true) (yes 1) refl) (All-nil (SatisfiesClause (λ v. true)))) in
    none_above_two t.2.solves.found (one_of_both goal t.2.assigned t.2.solves.found t.2.solves.fits) t.2.is_wanted

-- nor all solutions
left_all : Leaves Mode.Relational most_x one_given None → ⊥
unfolding IsStillWanted
left_all l =
    let t : AreTold most_x notes ((yes 1 ∷ []) ∷ []) (found_numbers (found (pos 1))) = l.complete (is (pos 1)) solution-1 tt in
    of_told t.assignment (one_is t.assignment (yes 1) (All-head (SatisfiesClause t.assignment) (yes 1 ∷ []) [] t.satisfies)) (told goal t.assignment (found_numbers (found (pos 1))) t.tell)
  where
    of_told : (s : ℕ → Bool) → s 1 ≡ true → Told s (found_numbers (found (pos 1))) → ⊥
    of_told s holds (inl one) = false≢true (sym one.0 ∙ holds)
    of_told s holds (inr two) = one_is_not_two (heads (sym (numbers_are (pos 1)) ∙ two.1))

-- it shows no optimum, since it doesn't end with the empty step
one_given_is_no_optimum : (budget : ℕ) → IsLogged Mode.Relational most_x budget one_given (optimum (pos 1) (is (pos 1))) → ⊥
unfolding ShowsAnswer
one_given_is_no_optimum budget l = last_is l.shows.0.before l.shows.0.hints l.shows.0.events_are
  where
    last_is : (before : List LogEvent) (hints : List ℕ) → one_given.events ≡ before ++ step [] hints ∷ [] → ⊥
    last_is [] hints e = absurd cc
    last_is (first ∷ []) hints e = absurd cc
    last_is (first ∷ second ∷ before) hints e = absurd cc

-- a log whose empty step has no hint
abbrev unshown : LogState
unshown = record { events = step [] [] ∷ []; notes = notes; base = 0 }

-- it looks as if there were no solution
unshown_none : ShowsAnswer Mode.Relational most_x 0 unshown no_solution
unfolding ShowsAnswer
unshown_none = (record { before = []; hints = []; events_are = refl }, refl)

-- but the step isn't shown, so the log shows no answer
unshown_is_refused : (budget : ℕ) (answer : AnswerTree) → IsLogged Mode.Relational most_x budget unshown answer → ⊥
unshown_is_refused budget answer l = false≢true l.sound.valid.0.shown

-- a log that has the empty clause among the instance's own givens
abbrev excluding : LogState
excluding = record { events = given [] ∷ step [] (0 ∷ []) ∷ []; notes = notes; base = 1 }

-- it looks as if there were no solution
excluding_none : ShowsAnswer Mode.Relational most_x 0 excluding no_solution
unfolding ShowsAnswer
excluding_none = (record { before = given [] ∷ []; hints = 0 ∷ []; events_are = refl }, refl)

-- but the givens don't stand for the instance, so the log shows no answer
excluding_is_refused : (budget : ℕ) (answer : AnswerTree) → IsLogged Mode.Relational most_x budget excluding answer → ⊥
excluding_is_refused budget answer l =
    let t : AreTold most_x notes ([] ∷ []) (found_numbers (found (pos 1))) = l.stands.told.complete (is (pos 1)) solution-1 tt in
    empty_fails t.assignment (All-head (SatisfiesClause t.assignment) [] [] t.satisfies)

-- ---- without an objective

-- that x is 1 is a right answer where no objective is stated, and 2 as well
right_any : (budget : ℕ) → IsRight Mode.Relational bare budget (solution (is (pos 1))) × IsRight Mode.Relational bare budget (solution (is (pos 2)))
unfolding IsRight the_language
right_any budget = ((refl, refl, solves-1 None (bare_measured (pos 1))), (refl, refl, solves-2 None (bare_measured (pos 2))))

-- the log without an event shows each of them
logged_any : (budget : ℕ) (a : Assigned) → IsLogged Mode.Relational bare budget no_event (solution a)
unfolding ShowsAnswer named_values cell_text indices_text instance_cells find_cells index_lists is_truth
logged_any budget a = record {
  stands = record {
    base = record { there = omega arith; givens = All-nil (λ e. is_given e ≡ true) };
    notes = refl;
    told = tell_solutions None bare_measured (λ f. Unit {0}) [] (record {
      from-1 = λ s holds out. tt;
      from-2 = λ s holds out. tt;
      at-1 = λ w. without_clauses false;
      at-2 = λ w. without_clauses true;
    });
  };
  sound = record { valid = tt; new = tt; effective = tt };
  within = omega arith;
  shows = refl;
}

-- that x is true, which is 1
abbrev as_truth : Assigned
as_truth = record { name = codes "x"; ty = ValueType.Bool; value = single (pos 1) } ∷ []

-- it is a solution, since a truth value fits where a number is wanted
truth_solves : IsSolution Mode.Relational bare as_truth
unfolding the_language
truth_solves = record { found = found (pos 1); fits = record { same_names = IsPermutation-refl (codes "x" ∷ []); values = refl }; holds = refl; measured = refl }

-- whether what stands for a name is a truth value
abbrev is_of_truths : Bound → Bool
is_of_truths (has_value ValueType.Bool v) = true
is_of_truths _ = false

-- but it isn't written as the instance states it
truth_is_not_written : IsWritten bare as_truth → ⊥
unfolding the_language
truth_is_not_written w = false≢true (ap (λ f. is_of_truths (slice_index_or {A = Name × Bound} f 0 ([], has_value ValueType.Int (single (pos 0)))).1) (some_is w))

-- so it is no right answer
truth_is_refused : (budget : ℕ) → IsRight Mode.Relational bare budget (solution as_truth) → ⊥
unfolding IsRight
truth_is_refused budget r = truth_is_not_written r.1

-- nor is 3, which is no number of x
three_is_refused : (budget : ℕ) → IsRight Mode.Relational bare budget (solution (is (pos 3))) → ⊥
unfolding IsRight the_language
three_is_refused budget r = absurd cc
