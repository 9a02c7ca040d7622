-- Which of two assignments is better, checked.
use Rattle.std.specs.Prelude.{◌≡◌, ℕ, [], ◌∷◌, ℤ, pos, true, false, Some, codes, option_map, refl, Bool, ◌&&◌, if◌then◌else◌, int_lt, Option, None, option_and_then}
use Rattle.std.proofs.Common.{ap, ◌∙◌, arith, sym, subst}
use Rattle.std.proofs.lemmas.Bool.{false≢true}
use Rattle.std.proofs.lemmas.Int.{ints}
use Rattle.std.proofs.lemmas.List.Sorted.{IsPermutation-refl}
use Rattle.ep_base.specs.Senses.{better_number}
use Rattle.ep_base.specs.Numbers.{has_number}
use Rattle.ep_base.specs.Options.{on_both}
use Rattle.ep_base.specs.declared.operators.Sense.{Sense}
use Rattle.ep_base.specs.declared.places.Place.{Place}
use Rattle.ep_base.proofs.Small.{some_is}
use Rattle.ep_tree.proofs.Opened.{the_language}
use Rattle.ep_tree.specs.Binding.{Find, Instance}
use Rattle.ep_tree.specs.Environments.{has_value}
use Rattle.ep_tree.specs.Names.{nothing_known}
use Rattle.ep_tree.specs.Solutions.{Assigned, Fits, Found, IsBetter, IsOptimal, IsSolution, NamedValue, fitted_find, found_values, goal_value, has_goal_value, named_in}
use Rattle.ep_tree.specs.Trees.{ExprTree, binary, named, number}
use Rattle.ep_tree.specs.Types.{scalar_of}
use Rattle.ep_tree.specs.Values.{ValueTree, fitted, matrix, scalar_fits, single}
use Rattle.ep_tree.specs.declared.syntax.BinaryOp.{BinaryOp}
use Rattle.ep_tree.specs.declared.values.Mode.{Mode}
use Rattle.ep_tree.specs.declared.values.Scalar.{Scalar}
use Rattle.ep_tree.specs.declared.values.ValueType.{ValueType}

abbrev at : ℕ → ℕ → Place
at line column = record { line = line; column = column }

-- an instance with an objective
--     find x : int(0..3)
abbrev asks : Sense → ExprTree → Instance
asks sense e = record {
  finds = record { name = codes "x"; scalar = Scalar.Int; indices = []; values = pos 0 ∷ pos 1 ∷ pos 2 ∷ pos 3 ∷ [] } ∷ [];
  clauses = [];
  goal = Some (sense, e);
  env = nothing_known;
}

-- `x`
abbrev x : ExprTree
x = named (at 3 12) (codes "x")

-- `6 / x`
abbrev quotient : ExprTree
quotient = binary (at 3 12) BinaryOp.Div (number (at 3 12) (pos 6)) (named (at 3 16) (codes "x"))

-- an assignment of a number to x, and what an environment has of it
abbrev is : ℤ → Assigned
is n = record { name = codes "x"; ty = ValueType.Int; value = single n } ∷ []

abbrev found : ℤ → Found
found n = (codes "x", has_value ValueType.Int (single n)) ∷ []

fits-2 : (sense : Sense) (e : ExprTree) → Fits (asks sense e) (is (pos 2)) (found (pos 2))
unfolding the_language
fits-2 sense e = record { same_names = IsPermutation-refl (codes "x" ∷ []); values = refl }

fits-3 : (sense : Sense) (e : ExprTree) → Fits (asks sense e) (is (pos 3)) (found (pos 3))
unfolding the_language
fits-3 sense e = record { same_names = IsPermutation-refl (codes "x" ∷ []); values = refl }

-- the greater is better where the greatest is wanted
greater : IsBetter Mode.Relational (asks Sense.Maximising x) (is (pos 3)) (is (pos 2))
unfolding the_language
greater = record {
  sense = Sense.Maximising;
  e = x;
  stated = refl;
  one = found (pos 3);
  other = found (pos 2);
  one_fits = fits-3 Sense.Maximising x;
  other_fits = fits-2 Sense.Maximising x;
  x = pos 3;
  y = pos 2;
  one_value = refl;
  other_value = refl;
  is_better = refl;
}

-- the smaller is better where the smallest is wanted: 6 / 3 is smaller than 6 / 2
smaller : IsBetter Mode.Relational (asks Sense.Minimising quotient) (is (pos 3)) (is (pos 2))
unfolding the_language
smaller = record {
  sense = Sense.Minimising;
  e = quotient;
  stated = refl;
  one = found (pos 3);
  other = found (pos 2);
  one_fits = fits-3 Sense.Minimising quotient;
  other_fits = fits-2 Sense.Minimising quotient;
  x = pos 2;
  y = pos 3;
  one_value = refl;
  other_value = refl;
  is_better = refl;
}

-- what is equal is no better
equal : (sense : Sense) → better_number sense (pos 3) (pos 3) ≡ false
unfolding the_language
equal Sense.Minimising = refl
equal Sense.Maximising = refl

-- a solution
solution : IsSolution Mode.Relational (asks Sense.Minimising quotient) (is (pos 3))
unfolding the_language
solution = record { found = found (pos 3); fits = fits-3 Sense.Minimising quotient; holds = refl; measured = refl }

-- no solution: the objective `6 / 0` has no value
unmeasured : IsSolution Mode.Relational (asks Sense.Minimising quotient) (is (pos 0)) → ⊥
unfolding the_language
unmeasured solves = no_value solves.found solves.fits.values solves.measured
  where
    i : Instance
    i = asks Sense.Minimising quotient

    no_value : (f : Found) → found_values i.finds (is (pos 0)) ≡ Some f → has_goal_value Mode.Relational i f ≡ true → ⊥
    no_value f e measured = let none : Some false ≡ Some true = ap (option_map (has_goal_value Mode.Relational i)) e ∙ ap (λ b. Some b) measured in cc

-- ---- an optimum

abbrev most_x : Instance
most_x = asks Sense.Maximising x

-- the decision variable of the instance
abbrev f : Find
f = record { name = codes "x"; scalar = Scalar.Int; indices = []; values = pos 0 ∷ pos 1 ∷ pos 2 ∷ pos 3 ∷ [] }

-- what the environment has of a value that fits
abbrev entered : Option ValueTree → Option Found
entered v = on_both v (Some []) (λ w rest. Some ((codes "x", has_value ValueType.Int w) ∷ rest))

no_more : (n : ℤ) → has_number f.values n ≡ true → int_lt (pos 3) n ≡ false
unfolding the_language
no_more n h = grind (arith, ints)

-- a number that fits is no more than 3
number_below : (n m : ℤ) (own : Bool) (one : Found) → entered (if own && has_number f.values n then Some (single n) else None) ≡ Some one → goal_value Mode.Relational most_x one ≡ Some m → int_lt (pos 3) m ≡ false
unfolding the_language
number_below n m own one e goal = go own (has_number f.values n) refl e
  where
    go : (own passes : Bool) → has_number f.values n ≡ passes → entered (if own && passes then Some (single n) else None) ≡ Some one → int_lt (pos 3) m ≡ false
    go false passes p e = absurd cc
    go true false p e = absurd cc
    go true true p e =
        let same : found n ≡ one = some_is e in
        let number : Some n ≡ Some m = ap (goal_value Mode.Relational most_x) same ∙ goal in
        subst (λ k. int_lt (pos 3) k ≡ false) (some_is number) (no_more n p)

value_below : (v : Option NamedValue) (m : ℤ) (one : Found) → entered (option_and_then (fitted_find f) v) ≡ Some one → goal_value Mode.Relational most_x one ≡ Some m → int_lt (pos 3) m ≡ false
unfolding the_language
value_below None m one e goal = absurd cc
value_below (Some g) m one e goal = of_value g.value e
  where
    of_value : (v : ValueTree) → entered (fitted (scalar_of g.ty) Scalar.Int (has_number f.values) [] v) ≡ Some one → int_lt (pos 3) m ≡ false
    of_value (single n) e = number_below n m (scalar_fits (scalar_of g.ty) Scalar.Int) one e goal
    of_value (matrix indices parts) e = absurd cc

-- 3 is an optimum where the greatest x is wanted
optimum : IsOptimal Mode.Relational most_x (is (pos 3))
unfolding the_language
optimum = record {
  solution = record { found = found (pos 3); fits = fits-3 Sense.Maximising x; holds = refl; measured = refl };
  best = λ b solves better.
      let sense : Sense.Maximising ≡ better.sense = ap (λ goal. goal.0) (some_is better.stated) in
      let other : found (pos 3) ≡ better.other = some_is better.other_fits.values in
      let three : pos 3 ≡ better.y = some_is (ap (goal_value Mode.Relational most_x) other ∙ better.other_value) in
      let below : int_lt (pos 3) better.x ≡ false = value_below (named_in b (codes "x")) better.x better.one better.one_fits.values better.one_value in
      let above : int_lt (pos 3) better.x ≡ true = ap (λ y. int_lt y better.x) three ∙ ap (λ s. better_number s better.x better.y) sense ∙ better.is_better in
      false≢true (sym below ∙ above);
}
