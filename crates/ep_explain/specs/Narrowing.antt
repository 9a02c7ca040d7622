-- Clauses that are left while it is looked for those that explain why there is no solution.
use Rattle.std.specs.Prelude.{◌≡◌, ◌-◌, ◌==◌, ◌++◌, Bool, ◌∷◌, ℕ, zero, suc, true, List, [], IfSome, IsSome, map, slice_get, option_map, option_to_list, unwrap_or}
use Rattle.std.specs.List.{All, Contains, list_any}
use Rattle.ep_print.specs.Answers.{AreTyped}
use Rattle.ep_restrict.specs.Restricted.{AreClauseNumbers, restricted}
use Rattle.ep_tree.specs.Binding.{Instance}
use Rattle.ep_tree.specs.Evaluation.{is_true_in}
use Rattle.ep_tree.specs.Solutions.{Assigned, Fits, Found, IsWritten, under}
use Rattle.ep_tree.specs.Views.{assigned}
use Rattle.ep_tree.specs.declared.values.Mode.{Mode}
use Rattle.ep_explain.specs.Explained.{HasNoSolution, IsWrittenSolution, all_but}
use Rattle.ep_explain.specs.declared.left.Left.{Left}
use Rattle.ep_explain.specs.declared.left.Narrowed.{Narrowed}
use Rattle.ep_explain.specs.declared.left.Seen.{Seen}

-- the numbers of clauses that are left
abbrev pub left_numbers : List Left → List ℕ
left_numbers left = map (λ one. one.clause) left

-- whether a number is one of some
abbrev pub is_in_block : List ℕ → ℕ → Bool
is_in_block ns n = list_any (λ k. k == n) ns

-- the clause of a number is true under what an assignment gives
abbrev pub IsTrueAt : Mode → Instance → Found → ℕ → Type 0
IsTrueAt mode i found n =
    All (λ e. is_true_in mode (under i found) e ≡ true) (option_to_list (slice_get i.clauses (n - 1)))

-- A clause that is known to stay has an assignment that makes the others true.
abbrev pub IsWitnessed : Mode → Instance → List ℕ → Left → Type 0
IsWitnessed mode i numbers one =
    IfSome one.without (λ a. IsWrittenSolution mode (restricted i (all_but one.clause numbers)) (assigned a))

-- The clauses that are left, by ascending numbers, have no common solution, and each that is known to stay has an assignment that makes the
-- others true.
pub record AreLeft (mode : Mode) (i : Instance) (left : List Left) : Type 0 where
  pub numbers : AreClauseNumbers i (left_numbers left)
  pub none : HasNoSolution mode (restricted i (left_numbers left))
  pub settled : All (IsWitnessed mode i (left_numbers left)) left

-- An assignment that was found fits, is written as the instance states it, with values of their types, and makes each of some clauses true,
-- perhaps but for those that are listed with it.
pub record IsSeen (mode : Mode) (i : Instance) (numbers : List ℕ) (one : Seen) : Type 0 where
  pub found : Found
  pub fits : Fits i (assigned one.assignment) found
  pub written : IsWritten i (assigned one.assignment)
  pub typed : AreTyped (assigned one.assignment)
  pub holds : All (λ n. (Contains one.violated.items n → ⊥) → IsTrueAt mode i found n) numbers

-- Both of all that is kept: the clauses that are left, and the assignments that were found.
pub record IsNarrowed (mode : Mode) (i : Instance) (narrowed : Narrowed) : Type 0 where
  pub left : AreLeft mode i narrowed.left.items
  pub seen : All (IsSeen mode i (left_numbers narrowed.left.items)) narrowed.seen.items

-- each clause that is left is known to stay
abbrev pub IsAllSettled : List Left → Type 0
IsAllSettled left = All (λ one. IsSome one.without) left

-- a clause that is left, with its assignment
abbrev pub settled_clause : Left → ℕ × Assigned
settled_clause one = (one.clause, unwrap_or (option_map assigned one.without) [])

-- the numbers from 1 to this one
unfoldable pub first_numbers : ℕ → List ℕ
first_numbers zero = []
first_numbers (suc n) = first_numbers n ++ suc n ∷ []

-- An assignment fits, is written as the instance states it, and its values are of their types.
pub record IsPlaced (i : Instance) (a : Assigned) : Type 0 where
  pub found : Found
  pub fits : Fits i a found
  pub written : IsWritten i a
  pub typed : AreTyped a
