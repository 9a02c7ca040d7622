-- What the rows of logs stand on: an instance whose one decision variable is 1 or 2, its solutions, and notes of its cell over the
-- variable 1.
use Rattle.std.proofs.Common.{◌≡◌, ◌↔◌, ◌⊎◌, inl, inr, ℕ, ℤ, pos, Bool, true, false, List, [], ◌∷◌, Some, None, refl, sym, ap, subst, ◌∙◌, arith}
use Rattle.std.specs.Prelude.{Option, codes, option_and_then, if◌then◌else◌, ◌&&◌, IsTrue}
use Rattle.std.specs.List.{All, AllPairs}
use Rattle.std.specs.Ordering.{int_eq}
use Rattle.std.proofs.lemmas.Bool.{false≢true}
use Rattle.std.proofs.lemmas.Bool.Decides.{Decides-int_eq}
use Rattle.std.proofs.lemmas.List.Elements.{All-cons, All-from_recursion, All-head, All-nil, All-tail}
use Rattle.std.proofs.lemmas.List.Kept.{AllPairs-cons}
use Rattle.std.proofs.lemmas.List.Sorted.{IsPermutation-refl}
use Rattle.std.proofs.lemmas.Map.Views.{Contains-from_any}
use Rattle.cnf_core.proofs.Members.{Contains-cases, Contains-here, none_in_nil}
use Rattle.cnf_core.specs.Clauses.{IsTrueUnder, Satisfies, SatisfiesClause}
use Rattle.cnf_core.specs.Events.{Note}
use Rattle.cnf_core.specs.Literal.{Literal}
use Rattle.enc_var.specs.Decoding.{no, yes}
use Rattle.enc_var.specs.Notes.{cell_text, indices_text}
use Rattle.ep_base.proofs.Small.{some_is}
use Rattle.ep_base.specs.Numbers.{has_number}
use Rattle.ep_base.specs.Options.{on_both}
use Rattle.ep_base.specs.Reads.{first_or_zero}
use Rattle.ep_base.specs.declared.operators.Sense.{Sense}
use Rattle.ep_ground.specs.declared.cells.Cell.{Cell}
use Rattle.ep_solve.specs.Logged.{AreTold, AreWanted, TellNumber, TellNumbers, TellSolutions}
use Rattle.ep_tree.proofs.Opened.{the_language}
use Rattle.ep_tree.specs.Binding.{Instance}
use Rattle.ep_tree.specs.Environments.{has_value}
use Rattle.ep_tree.specs.Names.{nothing_known}
use Rattle.ep_tree.specs.Solutions.{Assigned, Fits, Found, IsSolution, NamedValue, fitted_find, has_goal_value, named_in, violated}
use Rattle.ep_tree.specs.Trees.{ExprTree, named}
use Rattle.ep_tree.specs.Types.{scalar_of}
use Rattle.ep_tree.specs.Values.{ValueTree, fitted, matrix, scalar_fits, single}
use Rattle.ep_tree.specs.declared.values.Mode.{Mode}
use Rattle.ep_tree.specs.declared.values.Scalar.{Scalar}
use Rattle.ep_tree.specs.declared.values.ValueType.{ValueType}
use Rattle.ep_unroll.specs.Cells.{bound_numbers, find_cells, found_numbers, index_lists, instance_cells, is_truth}

-- ---- the instance

-- the values of x
abbrev pub one_or_two : List ℤ
one_or_two = pos 1 ∷ pos 2 ∷ []

-- an instance with an objective, or with none
--     find x : int(1..2)
abbrev pub asks : Option (Sense × ExprTree) → Instance
asks goal = record {
  finds = record { name = codes "x"; scalar = Scalar.Int; indices = []; values = one_or_two } ∷ [];
  clauses = [];
  goal = goal;
  env = nothing_known;
}

-- the instance without an objective: x alone
abbrev pub bare : Instance
bare = asks None

--     maximising x
abbrev pub most_x : Instance
most_x = asks (Some (Sense.Maximising, named (record { line = 2; column = 12 }) (codes "x")))

-- an assignment of a number to x, and what an environment has of it
abbrev pub is : ℤ → Assigned
is n = record { name = codes "x"; ty = ValueType.Int; value = single n } ∷ []

-- what an environment has of such an assignment
abbrev pub found : ℤ → Found
found n = (codes "x", has_value ValueType.Int (single n)) ∷ []

-- ---- its solutions

-- that x is 1 fits
pub fits-1 : (goal : Option (Sense × ExprTree)) → Fits (asks goal) (is (pos 1)) (found (pos 1))
unfolding the_language
fits-1 goal = record { same_names = IsPermutation-refl (codes "x" ∷ []); values = refl }

-- that x is 2 fits
pub fits-2 : (goal : Option (Sense × ExprTree)) → Fits (asks goal) (is (pos 2)) (found (pos 2))
unfolding the_language
fits-2 goal = record { same_names = IsPermutation-refl (codes "x" ∷ []); values = refl }

-- no clause is violated, since there is none
pub no_clause_violated : (goal : Option (Sense × ExprTree)) (n : ℤ) → violated Mode.Relational (asks goal) (found n) ≡ None
unfolding the_language
no_clause_violated goal n = refl

-- an objective that isn't stated needs no value
pub bare_measured : (n : ℤ) → IsTrue (has_goal_value Mode.Relational bare (found n))
unfolding the_language
bare_measured n = refl

-- x has a value as an objective
pub most_measured : (n : ℤ) → IsTrue (has_goal_value Mode.Relational most_x (found n))
unfolding the_language
most_measured n = refl

-- where the objective has a value, that x is 1 is a solution
abbrev pub solves-1 : (goal : Option (Sense × ExprTree)) → IsTrue (has_goal_value Mode.Relational (asks goal) (found (pos 1))) → IsSolution Mode.Relational (asks goal) (is (pos 1))
solves-1 goal measured = record { found = found (pos 1); fits = fits-1 goal; holds = no_clause_violated goal (pos 1); measured = measured }

-- where the objective has a value, that x is 2 is a solution
abbrev pub solves-2 : (goal : Option (Sense × ExprTree)) → IsTrue (has_goal_value Mode.Relational (asks goal) (found (pos 2))) → IsSolution Mode.Relational (asks goal) (is (pos 2))
solves-2 goal measured = record { found = found (pos 2); fits = fits-2 goal; holds = no_clause_violated goal (pos 2); measured = measured }

-- what the environment has of a value that fits
abbrev entered : Option ValueTree → Option Found
entered v = on_both v (Some []) (λ w rest. Some ((codes "x", has_value ValueType.Int w) ∷ rest))

-- a number among the values is 1 or 2
one_of_two : (n : ℤ) → has_number one_or_two n ≡ true → (pos 1 ≡ n) ⊎ (pos 2 ≡ n)
unfolding has_number
one_of_two n h = elim (Contains-cases (pos 1) (pos 2 ∷ []) n (Contains-from_any (λ a b. (Decides-int_eq a b).0) n one_or_two h)) [
  | inl first ↦ inl first
  | inr later ↦ elim (Contains-cases (pos 2) [] n later) [
    | inl second ↦ inr second
    | inr none ↦ absurd (none_in_nil n none)
  ]
]

-- x was found to be 1 or 2
abbrev IsOneOfBoth : Found → Type 0
IsOneOfBoth f = (f ≡ found (pos 1)) ⊎ (f ≡ found (pos 2))

-- a number that fits is 1 or 2
of_number : (n : ℤ) (own passes : Bool) (f : Found) → has_number one_or_two n ≡ passes → entered (if own && passes then Some (single n) else None) ≡ Some f → IsOneOfBoth f
unfolding the_language
of_number n false passes f p e = absurd cc
of_number n true false f p e = absurd cc
of_number n true true f p e =
    let same : found n ≡ f = some_is e in
    elim (one_of_two n p) [
      | inl one ↦ inl (sym same ∙ ap found (sym one))
      | inr two ↦ inr (sym same ∙ ap found (sym two))
    ]

-- a named value that fits is 1 or 2
of_named : (v : Option NamedValue) (f : Found) → entered (option_and_then (fitted_find (record { name = codes "x"; scalar = Scalar.Int; indices = []; values = one_or_two })) v) ≡ Some f → IsOneOfBoth f
unfolding the_language
of_named None f e = absurd cc
of_named (Some g) f e = of_value g.value e
  where
    of_value : (v : ValueTree) → entered (fitted (scalar_of g.ty) Scalar.Int (has_number one_or_two) [] v) ≡ Some f → IsOneOfBoth f
    of_value (single n) e = of_number n (scalar_fits (scalar_of g.ty) Scalar.Int) (has_number one_or_two n) f refl e
    of_value (matrix indices parts) e = absurd cc

-- no solution gives x another number than 1 or 2
pub one_of_both : (goal : Option (Sense × ExprTree)) (a : Assigned) (f : Found) → Fits (asks goal) a f → (f ≡ found (pos 1)) ⊎ (f ≡ found (pos 2))
unfolding the_language
one_of_both goal a f fits = of_named (named_in a (codes "x")) f fits.values

-- the number that was found for x
abbrev pub first_number : Found → ℤ
first_number f = first_or_zero (found_numbers f)

-- the number that was found for x is the one that x was given
pub first_is : (n : ℤ) → first_number (found n) ≡ n
unfolding the_language first_or_zero found_numbers bound_numbers
first_is n = refl

-- x has one cell, with the number that x was given
pub numbers_are : (n : ℤ) → found_numbers (found n) ≡ n ∷ []
unfolding the_language found_numbers bound_numbers
numbers_are n = refl

-- 1 isn't 2
pub one_is_not_two : ◌≡◌ {A = ℤ} (pos 1) (pos 2) → ⊥
one_is_not_two e = false≢true (ap (λ n. int_eq (pos 2) n) e)

-- lists of one number are equal where the numbers are
pub heads : {m n : ℤ} → m ∷ [] ≡ n ∷ [] → m ≡ n
heads e = cc

-- that x is 1 isn't that x is 2
pub others : found (pos 1) ≡ found (pos 2) → ⊥
others e = one_is_not_two (sym (first_is (pos 1)) ∙ ap first_number e ∙ first_is (pos 2))

-- ---- notes of its cell

-- the cell of x
abbrev pub cell : Cell
cell = record { name = codes "x"; indices = []; truth = false; values = one_or_two }

-- x has one cell
pub cells_are : (goal : Option (Sense × ExprTree)) → instance_cells (asks goal) ≡ cell ∷ []
unfolding instance_cells find_cells index_lists is_truth
cells_are goal = refl

-- a note of x
abbrev pub note : ℤ → Literal → Note
note n l = record { cell = codes "x"; value = n; lit = l }

-- x is 1 where the variable 1 is false, and 2 where it is true
abbrev pub notes : List Note
notes = note (pos 1) (no 1) ∷ note (pos 2) (yes 1) ∷ []

-- both sides of an equivalence hold
pub both : {A B : Type 0} → A → B → A ↔ B
both a b = (λ _. b, λ _. a)

-- neither side of an equivalence holds
pub neither : {A B : Type 0} → (A → ⊥) → (B → ⊥) → A ↔ B
neither a b = (λ x. absurd (a x), λ y. absurd (b y))

-- nothing is both true and false
differ : (b : Bool) → b ≡ true → b ≡ false → ⊥
differ b t f = false≢true (sym f ∙ t)

-- where the variable 1 is false the notes tell that the cell is 1
pub tells_number-1 : (s : ℕ → Bool) → s 1 ≡ false → TellNumber s notes cell (pos 1)
unfolding cell_text indices_text
tells_number-1 s out = record {
  among = (0, omega arith, refl);
  cells = All-from_recursion (λ (n : Note). n.cell ≡ cell_text cell) notes (refl, (refl, tt));
  values = refl;
  literals = All-from_recursion (λ (n : Note). IsTrueUnder s n.lit ↔ (n.value ≡ pos 1)) notes (both out refl, (neither (λ t. differ (s 1) t out) (λ e. one_is_not_two (sym e)), tt));
}

-- where the variable 1 is true the notes tell that the cell is 2
pub tells_number-2 : (s : ℕ → Bool) → s 1 ≡ true → TellNumber s notes cell (pos 2)
unfolding cell_text indices_text
tells_number-2 s out = record {
  among = (1, omega arith, refl);
  cells = All-from_recursion (λ (n : Note). n.cell ≡ cell_text cell) notes (refl, (refl, tt));
  values = refl;
  literals = All-from_recursion (λ (n : Note). IsTrueUnder s n.lit ↔ (n.value ≡ pos 2)) notes (neither (λ f. differ (s 1) out f) one_is_not_two, (both out refl, tt));
}

-- where the variable 1 is false the notes tell 1 of the instance's cells
pub tells-1 : (goal : Option (Sense × ExprTree)) (s : ℕ → Bool) → s 1 ≡ false → TellNumbers s notes (instance_cells (asks goal)) (pos 1 ∷ [])
unfolding TellNumbers instance_cells find_cells index_lists is_truth
tells-1 goal s out = (tells_number-1 s out, refl)

-- where the variable 1 is true the notes tell 2 of the instance's cells
pub tells-2 : (goal : Option (Sense × ExprTree)) (s : ℕ → Bool) → s 1 ≡ true → TellNumbers s notes (instance_cells (asks goal)) (pos 2 ∷ [])
unfolding TellNumbers instance_cells find_cells index_lists is_truth
tells-2 goal s out = (tells_number-2 s out, refl)

-- what the notes tell where the variable is false, or true
abbrev pub Told : (ℕ → Bool) → List ℤ → Type 0
Told s numbers = ((s 1 ≡ false) × (numbers ≡ pos 1 ∷ [])) ⊎ ((s 1 ≡ true) × (numbers ≡ pos 2 ∷ []))

-- the notes tell nothing else
pub told : (goal : Option (Sense × ExprTree)) (s : ℕ → Bool) (numbers : List ℤ) → TellNumbers s notes (instance_cells (asks goal)) numbers → Told s numbers
unfolding TellNumbers instance_cells find_cells index_lists is_truth
told goal s [] t = absurd t
told goal s (n ∷ []) t = by_sign (s 1) refl
  where
    literals : All (λ (m : Note). IsTrueUnder s m.lit ↔ (m.value ≡ n)) notes
    literals = t.0.literals

    first : (s 1 ≡ false) ↔ (pos 1 ≡ n)
    first = All-head (λ (m : Note). IsTrueUnder s m.lit ↔ (m.value ≡ n)) (note (pos 1) (no 1)) (note (pos 2) (yes 1) ∷ []) literals

    second : (s 1 ≡ true) ↔ (pos 2 ≡ n)
    second = All-head (λ (m : Note). IsTrueUnder s m.lit ↔ (m.value ≡ n)) (note (pos 2) (yes 1)) [] (All-tail (λ (m : Note). IsTrueUnder s m.lit ↔ (m.value ≡ n)) (note (pos 1) (no 1)) (note (pos 2) (yes 1) ∷ []) literals)

    by_sign : (b : Bool) → s 1 ≡ b → Told s (n ∷ [])
    by_sign false e = inl (e, ap (λ k. k ∷ []) (sym (first.0 e)))
    by_sign true e = inr (e, ap (λ k. k ∷ []) (sym (second.0 e)))
told goal s (n ∷ m ∷ ns) t = absurd t.1

-- ---- clauses over its variable

-- a clause of one literal holds where the literal is true
pub one_holds : (s : ℕ → Bool) (l : Literal) → IsTrueUnder s l → SatisfiesClause s (l ∷ [])
one_holds s l holds = record { literal = l; in_clause = Contains-here l []; is_true = holds }

-- a clause of one literal holds nowhere else
pub one_is : (s : ℕ → Bool) (l : Literal) → SatisfiesClause s (l ∷ []) → IsTrueUnder s l
one_is s l c = elim (Contains-cases l [] c.literal c.in_clause) [
  | inl same ↦ subst (λ k. IsTrueUnder s k) (sym same) c.is_true
  | inr none ↦ absurd (none_in_nil c.literal none)
]

-- the empty clause holds nowhere
pub empty_fails : (s : ℕ → Bool) → SatisfiesClause s [] → ⊥
empty_fails s c = none_in_nil c.literal c.in_clause

-- an assignment that satisfies clauses, under which the variable 1 is this
abbrev pub Satisfying : Bool → List (List Literal) → Type 0
Satisfying b clauses = (s : ℕ → Bool) × (s 1 ≡ b) × Satisfies s clauses

-- where there is no clause each will do
pub without_clauses : (b : Bool) → Satisfying b []
without_clauses b = (λ v. b, refl, All-nil (SatisfiesClause (λ v. b)))

-- What it takes that clauses tell the solutions that are wanted: where the variable 1 is false 1 is wanted, and where it is true 2, and
-- an assignment satisfies the clauses for each that is wanted.
pub record SayWhich (wanted : Found → Type 0) (clauses : List (List Literal)) : Type 0 where
  pub from-1 : (s : ℕ → Bool) → Satisfies s clauses → s 1 ≡ false → wanted (found (pos 1))
  pub from-2 : (s : ℕ → Bool) → Satisfies s clauses → s 1 ≡ true → wanted (found (pos 2))
  pub at-1 : wanted (found (pos 1)) → Satisfying false clauses
  pub at-2 : wanted (found (pos 2)) → Satisfying true clauses

module _ (goal : Option (Sense × ExprTree)) (measured : (n : ℤ) → IsTrue (has_goal_value Mode.Relational (asks goal) (found n))) where
  -- 1 is wanted where what it gives is
  pub wanted-1 : (wanted : Found → Type 0) → wanted (found (pos 1)) → AreWanted Mode.Relational (asks goal) wanted (pos 1 ∷ [])
  wanted-1 wanted w = record { assigned = is (pos 1); solves = solves-1 goal (measured (pos 1)); numbers_are = numbers_are (pos 1); is_wanted = w }

  -- 2 is wanted where what it gives is
  pub wanted-2 : (wanted : Found → Type 0) → wanted (found (pos 2)) → AreWanted Mode.Relational (asks goal) wanted (pos 2 ∷ [])
  wanted-2 wanted w = record { assigned = is (pos 2); solves = solves-2 goal (measured (pos 2)); numbers_are = numbers_are (pos 2); is_wanted = w }

  -- an assignment that satisfies clauses tells 1 where the variable 1 is false
  told_by-1 : (clauses : List (List Literal)) → Satisfying false clauses → AreTold (asks goal) notes clauses (pos 1 ∷ [])
  told_by-1 clauses found = record { assignment = found.0; satisfies = found.2; tell = tells-1 goal found.0 found.1 }

  -- and 2 where it is true
  told_by-2 : (clauses : List (List Literal)) → Satisfying true clauses → AreTold (asks goal) notes clauses (pos 2 ∷ [])
  told_by-2 clauses found = record { assignment = found.0; satisfies = found.2; tell = tells-2 goal found.0 found.1 }

  -- clauses that say which of 1 and 2 are wanted tell the solutions that are wanted
  pub tell_solutions : (wanted : Found → Type 0) (clauses : List (List Literal)) → SayWhich wanted clauses → TellSolutions Mode.Relational (asks goal) notes clauses wanted
  tell_solutions wanted clauses say = record {
    sound = λ s holds. by_sign s holds (s 1) refl;
    complete = λ a solves w. elim (one_of_both goal a solves.found solves.fits) [
      | inl one ↦ subst (λ f. AreTold (asks goal) notes clauses (found_numbers f)) (sym one) (subst (λ ns. AreTold (asks goal) notes clauses ns) (sym (numbers_are (pos 1))) (told_by-1 clauses (say.at-1 (subst wanted one w))))
      | inr two ↦ subst (λ f. AreTold (asks goal) notes clauses (found_numbers f)) (sym two) (subst (λ ns. AreTold (asks goal) notes clauses ns) (sym (numbers_are (pos 2))) (told_by-2 clauses (say.at-2 (subst wanted two w))))
    ];
  }
    where
      by_sign : (s : ℕ → Bool) → Satisfies s clauses → (b : Bool) → s 1 ≡ b → (numbers : List ℤ) × TellNumbers s notes (instance_cells (asks goal)) numbers × AreWanted Mode.Relational (asks goal) wanted numbers
      by_sign s holds false e = (pos 1 ∷ [], tells-1 goal s e, wanted-1 wanted (say.from-1 s holds e))
      by_sign s holds true e = (pos 2 ∷ [], tells-2 goal s e, wanted-2 wanted (say.from-2 s holds e))

-- two things that are in a relation
pub pair : {X : Type 0} (R : X → X → Type 0) (x y : X) → R x y → AllPairs R (x ∷ y ∷ [])
pair R x y r = AllPairs-cons R x (y ∷ []) (All-cons (R x) y [] r (All-nil (R x))) (AllPairs-cons R y [] (All-nil (R y)) (λ i j d before below. absurd (omega (arith, below))))
