-- Why an instance has no solution: some of its clauses that have none together, and what each of them keeps from being one.
use Rattle.std.specs.Prelude.{◌==◌, ℕ, List, filter, map, not, None}
use Rattle.std.specs.List.{All}
use Rattle.ep_print.specs.Answers.{AreTyped}
use Rattle.ep_restrict.specs.Restricted.{AreClauseNumbers, restricted}
use Rattle.ep_tree.specs.Binding.{Instance}
use Rattle.ep_tree.specs.Solutions.{Assigned, IsSolution, IsWritten}
use Rattle.ep_tree.specs.declared.values.Mode.{Mode}

-- an instance without its objective
abbrev pub without_goal : Instance → Instance
without_goal i = record i { goal = None }

-- An assignment is a solution of an instance, written as the instance states it, with values of their types.
pub record IsWrittenSolution (mode : Mode) (i : Instance) (a : Assigned) : Type 0 where
  pub solves : IsSolution mode i a
  pub written : IsWritten i a
  pub typed : AreTyped a

-- no assignment is a solution of an instance
abbrev pub HasNoSolution : Mode → Instance → Type 0
HasNoSolution mode i = (a : Assigned) → ¬ IsSolution mode i a

-- the numbers but one
abbrev pub all_but : ℕ → List ℕ → List ℕ
all_but n numbers = filter (λ k. not (k == n)) numbers

-- numbers of clauses, each with an assignment
abbrev pub Core : Type 0
Core = List (ℕ × Assigned)

-- the clauses of a core
abbrev pub core_numbers : Core → List ℕ
core_numbers core = map (λ one. one.0) core

-- Clauses explain why an instance has no solution, objective aside: their numbers ascend; the instance with these clauses
-- alone has no solution; and beside the number of each stands a solution of the instance with all others of them alone.
pub record Explains (mode : Mode) (i : Instance) (core : Core) : Type 0 where
  pub numbers : AreClauseNumbers i (core_numbers core)
  pub none : HasNoSolution mode (restricted i (core_numbers core))
  pub without : All (λ one. IsWrittenSolution mode (restricted i (all_but one.0 (core_numbers core))) one.1) core
