-- A list of all solutions with the log that shows it, and lists and logs that are refused.
use Rattle.std.proofs.Common.{◌≡◌, ◌≢◌, inl, inr, ℕ, ◌<◌, suc, zero, pos, Bool, true, false, List, [], ◌∷◌, None, refl, sym, ap, subst, ◌∙◌, arith}
use Rattle.std.specs.Prelude.{nat_eq, take, Some}
use Rattle.std.specs.List.{All}
use Rattle.std.proofs.lemmas.Bool.{false≢true}
use Rattle.std.proofs.lemmas.List.{take_all}
use Rattle.std.proofs.lemmas.List.Elements.{All-cons, All-from_recursion, All-head, All-nil, All-tail}
use Rattle.cnf_core.proofs.Members.{Contains-cases, Contains-here, Contains-there, none_in_nil}
use Rattle.cnf_core.specs.Clauses.{Satisfies, SatisfiesClause}
use Rattle.cnf_core.specs.Events.{LogState, Note, given, is_given, step}
use Rattle.cnf_core.specs.Literal.{Literal, negation}
use Rattle.enc_var.specs.Decoding.{no, yes}
use Rattle.enc_var.specs.Notes.{cell_text, indices_text}
use Rattle.ep_answer.specs.Answered.{IsNegatedNote}
use Rattle.ep_print.specs.Listings.{EndTree, complete, spent, stopped}
use Rattle.ep_solve.specs.Listed.{BlocksSolution, EndsRightly, IsListed, IsUnlisted, Lists}
use Rattle.ep_solve.specs.Logged.{AreTold, Stands, TellSolutions, first_givens, named_values}
use Rattle.ep_tree.proofs.Opened.{the_language}
use Rattle.ep_tree.specs.Solutions.{Assigned, Found, IsSolution, IsWritten, found_values}
use Rattle.ep_tree.specs.declared.values.Mode.{Mode}
use Rattle.ep_unroll.specs.Cells.{find_cells, found_numbers, index_lists, instance_cells, is_truth}
use Rattle.sat_search.specs.Logs.{IsSound}
use Rattle.ep_solve_rows.proofs.TwoValues.{SayWhich, Told, heads, bare, bare_measured, both, found, is, neither, note, notes, numbers_are, one_holds, one_is, one_is_not_two, one_of_both, others, pair, solves-1, solves-2, tell_solutions, tells-1, told, without_clauses}

-- ---- a list that is right

-- the clauses that block 1, where the variable 1 has to be true, and 2, where it has to be false
abbrev blocks : List (List Literal)
blocks = (yes 1 ∷ []) ∷ (no 1 ∷ []) ∷ []

-- the log in which they are added one after the other, and show the empty step together
abbrev log : LogState
log = record { events = given (yes 1 ∷ []) ∷ given (no 1 ∷ []) ∷ step [] (0 ∷ 1 ∷ []) ∷ []; notes = notes; base = 0 }

-- both solutions, in the order in which they are blocked
abbrev both_found : List Assigned
both_found = is (pos 1) ∷ is (pos 2) ∷ []

-- that x is 1 is a solution
abbrev solution-1 : IsSolution Mode.Relational bare (is (pos 1))
solution-1 = solves-1 None (bare_measured (pos 1))

-- that x is 2 is a solution
abbrev solution-2 : IsSolution Mode.Relational bare (is (pos 2))
solution-2 = solves-2 None (bare_measured (pos 2))

-- that x is 1 is written as the instance states it
written-1 : IsWritten bare (is (pos 1))
unfolding the_language
written-1 = refl

-- that x is 2 is written as the instance states it
written-2 : IsWritten bare (is (pos 2))
unfolding the_language
written-2 = refl

-- without a block both are left
all_left : SayWhich (IsUnlisted []) []
all_left = record {
  from-1 = λ s holds out listed. none_in_nil (found (pos 1)) listed;
  from-2 = λ s holds out listed. none_in_nil (found (pos 2)) listed;
  at-1 = λ w. without_clauses false;
  at-2 = λ w. without_clauses true;
}

-- where 1 alone is listed, what is listed is 1
only_first : (f : Found) → IsListed (is (pos 1) ∷ []) f → found (pos 1) ≡ f
only_first f listed = elim (Contains-cases (found (pos 1)) [] f listed) [
  | inl same ↦ same
  | inr none ↦ absurd (none_in_nil f none)
]

-- the first block leaves 2 alone
second_left : SayWhich (IsUnlisted (is (pos 1) ∷ [])) ((yes 1 ∷ []) ∷ [])
second_left = record {
  from-1 = λ s holds out. absurd (false≢true (sym out ∙ one_is s (yes 1) (All-head (SatisfiesClause s) (yes 1 ∷ []) [] holds)));
  from-2 = λ s holds out listed. others (only_first (found (pos 2)) listed);
  at-1 = λ w. absurd (w (Contains-here (found (pos 1)) []));
  at-2 = λ w. (λ v. true, refl, All-cons (SatisfiesClause (λ v. true)) (yes 1 ∷ []) [] (one_holds (λ v. true) (yes 1) refl) (All-nil (SatisfiesClause (λ v. true))));
}

-- no assignment satisfies both blocks
no_more : (s : ℕ → Bool) → Satisfies s blocks → ⊥
no_more s holds =
    let first : s 1 ≡ true = one_is s (yes 1) (All-head (SatisfiesClause s) (yes 1 ∷ []) ((no 1 ∷ []) ∷ []) holds) in
    let second : s 1 ≡ false = one_is s (no 1) (All-head (SatisfiesClause s) (no 1 ∷ []) [] (All-tail (SatisfiesClause s) (yes 1 ∷ []) ((no 1 ∷ []) ∷ []) holds)) in
    false≢true (sym second ∙ first)

-- both blocks leave nothing
none_left : SayWhich (IsUnlisted both_found) blocks
none_left = record {
  from-1 = λ s holds out. absurd (no_more s holds);
  from-2 = λ s holds out. absurd (no_more s holds);
  at-1 = λ w. absurd (w (Contains-here (found (pos 1)) (found (pos 2) ∷ [])));
  at-2 = λ w. absurd (w (Contains-there (found (pos 1)) (found (pos 2) ∷ []) (found (pos 2)) (Contains-here (found (pos 2)) [])));
}

-- the log stands for the instance without a given, since each number of x is a solution
stands : Stands Mode.Relational bare log
unfolding named_values cell_text indices_text instance_cells find_cells index_lists is_truth
stands = record {
  base = record { there = omega arith; givens = All-nil (λ e. is_given e ≡ true) };
  notes = refl;
  told = tell_solutions None bare_measured (λ f. Unit {0}) [] (record {
    from-1 = λ s holds out. tt;
    from-2 = λ s holds out. tt;
    at-1 = λ w. without_clauses false;
    at-2 = λ w. without_clauses true;
  });
}

-- its step is valid, and none has a literal
sound : IsSound log.events
sound = record {
  valid = (record { hints_are_there = All-from_recursion (λ h. h < 2) (0 ∷ 1 ∷ []) (omega arith, (omega arith, tt)); shown = refl }, tt);
  new = (λ below. absurd (omega (arith, below)), tt);
  effective = (λ below. absurd (omega (arith, below)), tt);
}

-- the first block holds exactly where the notes don't tell 1
blocks-1 : BlocksSolution bare log (is (pos 1)) (yes 1 ∷ [])
blocks-1 = record {
  blocks = λ s numbers t. elim (told None s numbers t) [
    | inl one ↦ neither (λ c. false≢true (sym one.0 ∙ one_is s (yes 1) c)) (λ differs. differs (one.1 ∙ sym (numbers_are (pos 1))))
    | inr two ↦ both (one_holds s (yes 1) two.0) (λ e. one_is_not_two (sym (heads (sym two.1 ∙ e ∙ numbers_are (pos 1)))))
  ];
}

-- the second block holds exactly where the notes don't tell 2
blocks-2 : BlocksSolution bare log (is (pos 2)) (no 1 ∷ [])
blocks-2 = record {
  blocks = λ s numbers t. elim (told None s numbers t) [
    | inl one ↦ both (one_holds s (no 1) one.0) (λ e. one_is_not_two (heads (sym one.1 ∙ e ∙ numbers_are (pos 2))))
    | inr two ↦ neither (λ c. false≢true (sym (one_is s (no 1) c) ∙ two.0)) (λ differs. differs (two.1 ∙ sym (numbers_are (pos 2))))
  ];
}

-- what satisfies the first so many blocks is what isn't among the first so many solutions
narrows : (count : ℕ) → TellSolutions Mode.Relational bare notes (first_givens log count) (IsUnlisted (take count both_found))
narrows zero = tell_solutions None bare_measured (IsUnlisted []) [] all_left
narrows (suc zero) = tell_solutions None bare_measured (IsUnlisted (is (pos 1) ∷ [])) ((yes 1 ∷ []) ∷ []) second_left
narrows (suc (suc count)) =
    subst (λ clauses. TellSolutions Mode.Relational bare notes clauses (IsUnlisted (take (suc (suc count)) both_found))) (sym (take_all (suc (suc count)) blocks (omega arith)))
    (subst (λ listed. TellSolutions Mode.Relational bare notes blocks (IsUnlisted listed)) (sym (take_all (suc (suc count)) both_found (omega arith)))
    (tell_solutions None bare_measured (IsUnlisted both_found) blocks none_left))

-- each solution is listed
both_listed : (a : Assigned) (solves : IsSolution Mode.Relational bare a) → IsListed both_found solves.found
both_listed a solves = elim (one_of_both None a solves.found solves.fits) [
  | inl one ↦ subst (λ f. IsListed both_found f) (sym one) (Contains-here (found (pos 1)) (found (pos 2) ∷ []))
  | inr two ↦ subst (λ f. IsListed both_found f) (sym two) (Contains-there (found (pos 1)) (found (pos 2) ∷ []) (found (pos 2)) (Contains-here (found (pos 2)) []))
]

-- 1 and 2 are all solutions, and the log shows it, where three are wanted, however many conflicts might be spent
lists : (budget : ℕ) → Lists Mode.Relational bare budget 3 log (record { found = both_found; ending = complete })
unfolding EndsRightly
lists budget = record {
  stands = stands;
  sound = sound;
  within = omega arith;
  solutions = All-from_recursion (λ a. IsWritten bare a × IsSolution Mode.Relational bare a) both_found ((written-1, solution-1), ((written-2, solution-2), tt));
  different = pair ◌≢◌ (found (pos 1)) (found (pos 2)) others;
  added = refl;
  literals = All-from_recursion (All (IsNegatedNote log)) blocks (
    All-from_recursion (IsNegatedNote log) (yes 1 ∷ []) (record { note = note (pos 1) (no 1); noted = Contains-here (note (pos 1) (no 1)) (note (pos 2) (yes 1) ∷ []); negated = refl }, tt),
    (All-from_recursion (IsNegatedNote log) (no 1 ∷ []) (record { note = note (pos 2) (yes 1); noted = (1, omega arith, refl); negated = refl }, tt), tt),
  );
  blocked = (blocks-1, (blocks-2, tt));
  narrows = narrows;
  left = tell_solutions None bare_measured (IsUnlisted both_found) blocks none_left;
  ends = (omega arith, both_listed, record { before = given (yes 1 ∷ []) ∷ given (no 1 ∷ []) ∷ []; hints = 0 ∷ 1 ∷ []; events_are = refl });
}

-- ---- ends of the list

-- the same list may have stopped where two are wanted
stops : EndsRightly Mode.Relational bare 0 2 log both_found stopped
unfolding EndsRightly
stops = refl

-- it hasn't stopped where three are wanted
stops_early : EndsRightly Mode.Relational bare 0 3 log both_found stopped → ⊥
unfolding EndsRightly
stops_early ends = omega (arith, ends)

-- it isn't complete where two are wanted
as_many : EndsRightly Mode.Relational bare 0 2 log both_found complete → ⊥
unfolding EndsRightly
as_many ends = omega (arith, ends.0)

-- no budget is spent where the log has the empty step
is_not_spent : EndsRightly Mode.Relational bare 0 3 log both_found (spent 0) → ⊥
unfolding EndsRightly
is_not_spent ends = All-head (λ clause. clause ≢ []) [] [] (All-tail (λ clause. clause ≢ []) (no 1 ∷ []) ([] ∷ []) (All-tail (λ clause. clause ≢ []) (yes 1 ∷ []) ((no 1 ∷ []) ∷ [] ∷ []) ends.2.1)) refl

-- ---- lists that are refused

-- 1 alone isn't complete, whatever the log is
one_alone : (budget most : ℕ) (any : LogState) → Lists Mode.Relational bare budget most any (record { found = is (pos 1) ∷ []; ending = complete }) → ⊥
unfolding EndsRightly
one_alone budget most any l = others (only_first (found (pos 2)) (l.ends.1 (is (pos 2)) solution-2))

-- 1 alone isn't what this log shows, since it blocks two, however the list ends
one_alone_blocked : (budget most : ℕ) (ending : EndTree) → Lists Mode.Relational bare budget most log (record { found = is (pos 1) ∷ []; ending = ending }) → ⊥
one_alone_blocked budget most ending l = omega (arith, l.added)

-- 1 twice is no list, whatever the log is and however it ends
one_twice : (budget most : ℕ) (any : LogState) (ending : EndTree) → Lists Mode.Relational bare budget most any (record { found = is (pos 1) ∷ is (pos 1) ∷ []; ending = ending }) → ⊥
one_twice budget most any ending l = l.different 0 1 (found (pos 1)) (omega arith) (omega arith) refl

-- 3 is no solution, so no list has it
three : (budget most : ℕ) (any : LogState) (ending : EndTree) → Lists Mode.Relational bare budget most any (record { found = is (pos 3) ∷ []; ending = ending }) → ⊥
unfolding the_language
three budget most any ending l =
    let solves : IsSolution Mode.Relational bare (is (pos 3)) = (All-head (λ a. IsWritten bare a × IsSolution Mode.Relational bare a) (is (pos 3)) [] l.solutions).1 in
    no_fit solves.found solves.fits.values
  where
    no_fit : (f : Found) → found_values bare.finds (is (pos 3)) ≡ Some f → ⊥
    no_fit f e = cc

-- ---- logs that are refused

-- a log whose first block is over the variable 2
abbrev over_another : LogState
over_another = record { events = given (yes 2 ∷ []) ∷ given (no 1 ∷ []) ∷ step [] (0 ∷ 1 ∷ []) ∷ []; notes = notes; base = 0 }

-- where the variable 2 alone is true that block holds, though the notes tell 1
over_another_blocks : BlocksSolution bare over_another (is (pos 1)) (yes 2 ∷ []) → ⊥
over_another_blocks b =
    let s : ℕ → Bool = λ v. nat_eq v 2 in
    (b.blocks s (pos 1 ∷ []) (tells-1 None s refl)).0 (one_holds s (yes 2) refl) (sym (numbers_are (pos 1)))

-- nor is its literal the negation of a note's
over_another_literals : IsNegatedNote over_another (yes 2) → ⊥
over_another_literals l = elim (Contains-cases (note (pos 1) (no 1)) (note (pos 2) (yes 1) ∷ []) l.note l.noted) [
  | inl first ↦ of_variable (l.negated ∙ ap (λ (n : Note). negation n.lit) (sym first))
  | inr later ↦ elim (Contains-cases (note (pos 2) (yes 1)) [] l.note later) [
    | inl second ↦ of_variable_too (l.negated ∙ ap (λ (n : Note). negation n.lit) (sym second))
    | inr none ↦ none_in_nil l.note none
  ]
]
  where
    of_variable : yes 2 ≡ yes 1 → ⊥
    of_variable e = omega (arith, ap (λ (k : Literal). k.var) e)

    of_variable_too : yes 2 ≡ no 1 → ⊥
    of_variable_too e = omega (arith, ap (λ (k : Literal). k.var) e)

-- and the empty step isn't shown
over_another_sound : IsSound over_another.events → ⊥
over_another_sound s = false≢true s.valid.0.shown

-- so this log shows no list of both, however it ends
over_another_lists : (budget most : ℕ) (ending : EndTree) → Lists Mode.Relational bare budget most over_another (record { found = both_found; ending = ending }) → ⊥
over_another_lists budget most ending l = over_another_blocks l.blocked.0

-- a log with the blocks in the other order
abbrev other_order : LogState
other_order = record { events = given (no 1 ∷ []) ∷ given (yes 1 ∷ []) ∷ step [] (0 ∷ 1 ∷ []) ∷ []; notes = notes; base = 0 }

-- it doesn't show the list either: its first block holds where the notes tell 1
other_order_lists : (budget most : ℕ) (ending : EndTree) → Lists Mode.Relational bare budget most other_order (record { found = both_found; ending = ending }) → ⊥
other_order_lists budget most ending l =
    (l.blocked.0.blocks (λ v. false) (pos 1 ∷ []) (tells-1 None (λ v. false) refl)).0 (one_holds (λ v. false) (no 1) refl) (sym (numbers_are (pos 1)))

-- a log that has its first block among the instance's own givens
abbrev greater_base : LogState
greater_base = record { events = given (yes 1 ∷ []) ∷ given (no 1 ∷ []) ∷ step [] (0 ∷ 1 ∷ []) ∷ []; notes = notes; base = 1 }

-- it doesn't stand for the instance, since that x is 1 is a solution
greater_base_stands : Stands Mode.Relational bare greater_base → ⊥
greater_base_stands s = of_told (told None t.assignment (found_numbers (found (pos 1))) t.tell)
  where
    t : AreTold bare notes ((yes 1 ∷ []) ∷ []) (found_numbers (found (pos 1)))
    t = s.told.complete (is (pos 1)) solution-1 tt

    true_there : t.assignment 1 ≡ true
    true_there = one_is t.assignment (yes 1) (All-head (SatisfiesClause t.assignment) (yes 1 ∷ []) [] t.satisfies)

    of_told : Told t.assignment (found_numbers (found (pos 1))) → ⊥
    of_told (inl one) = false≢true (sym one.0 ∙ true_there)
    of_told (inr two) = one_is_not_two (heads (sym (numbers_are (pos 1)) ∙ two.1))
