-- An instance without a solution: what is answered, listed and logged of it, and what isn't.
use Rattle.std.proofs.Common.{◌≡◌, ℕ, ◌<◌, ℤ, Bool, true, false, List, [], ◌∷◌, refl, sym, subst, arith}
use Rattle.std.specs.Prelude.{None, Option, Some, codes, if◌then◌else◌, ◌&&◌, option_and_then, take}
use Rattle.std.specs.List.{All}
use Rattle.std.proofs.lemmas.List.{take_all}
use Rattle.std.proofs.lemmas.List.Elements.{All-from_recursion, All-head, All-nil}
use Rattle.cnf_core.specs.Clauses.{SatisfiesClause}
use Rattle.cnf_core.specs.Events.{LogState, given, is_given, step}
use Rattle.cnf_core.specs.Literal.{Literal}
use Rattle.ep_answer.specs.Answered.{IsNegatedNote}
use Rattle.ep_base.specs.Numbers.{has_number}
use Rattle.ep_base.specs.Options.{on_both}
use Rattle.ep_print.specs.Answers.{no_solution, solution}
use Rattle.ep_print.specs.Listings.{complete}
use Rattle.ep_solve.specs.Listed.{EndsRightly, IsUnlisted, Lists}
use Rattle.ep_solve.specs.Logged.{IsLogged, ShowsAnswer, Stands, TellSolutions, named_values}
use Rattle.ep_solve.specs.Right.{IsRight}
use Rattle.ep_tree.proofs.Opened.{the_language}
use Rattle.ep_tree.specs.Binding.{Find, Instance}
use Rattle.ep_tree.specs.Environments.{has_value}
use Rattle.ep_tree.specs.Names.{nothing_known}
use Rattle.ep_tree.specs.Solutions.{Assigned, Found, IsSolution, IsWritten, NamedValue, fitted_find, named_in}
use Rattle.ep_tree.specs.Types.{scalar_of}
use Rattle.ep_tree.specs.Values.{ValueTree, fitted, matrix, scalar_fits, single}
use Rattle.ep_tree.specs.declared.values.Mode.{Mode}
use Rattle.ep_tree.specs.declared.values.Scalar.{Scalar}
use Rattle.ep_tree.specs.declared.values.ValueType.{ValueType}
use Rattle.ep_unroll.specs.Cells.{find_cells, index_lists, instance_cells, is_truth}
use Rattle.sat_search.specs.Logs.{EndsWithEmptyStep, IsSound}
use Rattle.ep_solve_rows.proofs.TwoValues.{bare, empty_fails}

-- x, which has no value
abbrev no_x : Find
no_x = record { name = codes "x"; scalar = Scalar.Int; indices = []; values = [] }

-- an instance that nothing solves
--     find x : int(2..1)
abbrev nothing : Instance
nothing = record { finds = no_x ∷ []; clauses = []; goal = None; env = nothing_known }

-- what an environment has of a value that fits
abbrev entered : Option ValueTree → Option Found
entered v = on_both v (Some []) (λ w rest. Some ((codes "x", has_value ValueType.Int w) ∷ rest))

-- no named value fits
none_fits : (v : Option NamedValue) (f : Found) → entered (option_and_then (fitted_find no_x) v) ≡ Some f → ⊥
unfolding the_language
none_fits None f e = absurd cc
none_fits (Some g) f e = of_value g.value e
  where
    of_number : (n : ℤ) (own : Bool) → entered (if own && has_number [] n then Some (single n) else None) ≡ Some f → ⊥
    of_number n false e = absurd cc
    of_number n true e = absurd cc

    of_value : (v : ValueTree) → entered (fitted (scalar_of g.ty) Scalar.Int (has_number []) [] v) ≡ Some f → ⊥
    of_value (single n) e = of_number n (scalar_fits (scalar_of g.ty) Scalar.Int) e
    of_value (matrix indices parts) e = absurd cc

-- so nothing is a solution
none_solves : (a : Assigned) → IsSolution Mode.Relational nothing a → ⊥
unfolding the_language
none_solves a solves = none_fits (named_in a (codes "x")) solves.found solves.fits.values

-- it is right that there is no solution
right : (budget : ℕ) → IsRight Mode.Relational nothing budget no_solution
unfolding IsRight
right budget = none_solves

-- no solution is a right answer
right_one : (budget : ℕ) (a : Assigned) → IsRight Mode.Relational nothing budget (solution a) → ⊥
unfolding IsRight
right_one budget a r = none_solves a r.2

-- the log whose given is empty, and shows the empty step
abbrev log : LogState
log = record { events = given [] ∷ step [] (0 ∷ []) ∷ []; notes = []; base = 1 }

-- whatever is wanted, the notes tell it where the empty clause holds
tell_nothing : (wanted : Found → Type 0) → TellSolutions Mode.Relational nothing [] ([] ∷ []) wanted
tell_nothing wanted = record {
  sound = λ s holds. absurd (empty_fails s (All-head (SatisfiesClause s) [] [] holds));
  complete = λ a solves w. absurd (none_solves a solves);
}

-- the log stands for the instance, without a note, since its cell has no value
stands : Stands Mode.Relational nothing log
unfolding named_values instance_cells find_cells index_lists is_truth
stands = record {
  base = record { there = omega arith; givens = All-from_recursion (λ e. is_given e ≡ true) (given [] ∷ []) (refl, tt) };
  notes = refl;
  told = tell_nothing (λ f. Unit {0});
}

-- its step is valid, and has no literal
sound : IsSound log.events
sound = record {
  valid = (record { hints_are_there = All-from_recursion (λ h. h < 1) (0 ∷ []) (omega arith, tt); shown = refl }, tt);
  new = (λ below. absurd (omega (arith, below)), tt);
  effective = (λ below. absurd (omega (arith, below)), tt);
}

-- the log ends with the empty step
ends : EndsWithEmptyStep log.events
ends = record { before = given [] ∷ []; hints = 0 ∷ []; events_are = refl }

-- it shows that there is no solution
logged : (budget : ℕ) → IsLogged Mode.Relational nothing budget log no_solution
unfolding ShowsAnswer
logged budget = record { stands = stands; sound = sound; within = omega arith; shows = (ends, refl) }

-- but not of an instance that has one, whatever its notes are
logged_bare : (budget : ℕ) → IsLogged Mode.Relational bare budget log no_solution → ⊥
unfolding named_values instance_cells find_cells index_lists is_truth
logged_bare budget l = absurd cc

-- and it shows that the list of no solution is complete
lists : (budget : ℕ) → Lists Mode.Relational nothing budget 1 log (record { found = []; ending = complete })
unfolding EndsRightly
lists budget = record {
  stands = stands;
  sound = sound;
  within = omega arith;
  solutions = All-nil (λ a. IsWritten nothing a × IsSolution Mode.Relational nothing a);
  different = λ i j d before below. absurd (omega (arith, below));
  added = refl;
  literals = All-nil (All (IsNegatedNote log));
  blocked = tt;
  narrows = λ count.
      subst (λ clauses. TellSolutions Mode.Relational nothing [] ([] ∷ clauses) (IsUnlisted (take count []))) (sym (take_all {A = List Literal} count [] (omega arith)))
      (tell_nothing (IsUnlisted (take count [])));
  left = tell_nothing (IsUnlisted []);
  ends = (omega arith, (λ a solves. absurd (none_solves a solves)), ends);
}

-- where none is wanted the list has stopped, and isn't complete
none_wanted : Lists Mode.Relational nothing 0 0 log (record { found = []; ending = complete }) → ⊥
unfolding EndsRightly
none_wanted l = omega (arith, l.ends.0)
