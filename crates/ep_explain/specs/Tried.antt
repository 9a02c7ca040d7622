-- What an attempt says, and what is explained by attempts.
use Rattle.std.specs.Prelude.{ℕ, Bool, true, false, List, map}
use Rattle.cnf_core.specs.Events.{LogState}
use Rattle.ep_print.specs.Answers.{AnswerTree, unknown}
use Rattle.ep_restrict.specs.Restricted.{AreClauseNumbers, restricted}
use Rattle.ep_solve.specs.Logged.{IsLogged}
use Rattle.ep_tree.specs.Binding.{Instance}
use Rattle.ep_tree.specs.Solutions.{Assigned}
use Rattle.ep_tree.specs.Views.{assigned}
use Rattle.ep_tree.specs.declared.values.Mode.{Mode}
use Rattle.ep_explain.specs.Explained.{Explains, HasNoSolution, IsWrittenSolution, without_goal}
use Rattle.ep_explain.specs.declared.explaining.Dropped.{Dropped}
use Rattle.ep_explain.specs.declared.explaining.Explained.{Explained}
use Rattle.ep_explain.specs.declared.explaining.Explained.TheVariants.{Core, Satisfiable, Spent as SpentOn}
use Rattle.ep_explain.specs.declared.tries.Tried.{Tried}
use Rattle.ep_explain.specs.declared.tries.Tried.TheVariants.{Empty, Found, Spent}

-- a log shows some answer for an instance, of a search that may spend so many conflicts
abbrev pub ShowsSome : Mode → Instance → ℕ → LogState → Type 0
ShowsSome mode i budget log = (answer : AnswerTree) × IsLogged mode i budget log answer

-- so much is shown of an instance with some of its clauses alone
abbrev pub IsShownOfSome : (Instance → Type 0) → Instance → Type 0
IsShownOfSome shown i = (numbers : List ℕ) × AreClauseNumbers i numbers × shown (restricted i numbers)

-- a log is that of an attempt at an instance with some of its clauses alone, and shows some answer for it
abbrev pub IsLogOfAttempt : Mode → Instance → ℕ → LogState → Type 0
IsLogOfAttempt mode i budget log = IsShownOfSome (λ fewer. ShowsSome mode fewer budget log) i

-- so many conflicts were spent on an instance without an answer, and the log shows it
abbrev pub IsSpentOn : Mode → Instance → ℕ → LogState → Type 0
IsSpentOn mode i budget log = IsLogged mode i budget log (unknown budget)

-- so many conflicts were spent on an instance with the clauses of these numbers alone
abbrev pub IsSpentAt : Mode → Instance → ℕ → LogState → List ℕ → Type 0
IsSpentAt mode i budget log numbers = AreClauseNumbers i numbers × IsSpentOn mode (restricted i numbers) budget log

-- An attempt at an instance is right: it found a solution; there is none; or the conflicts were spent.
unfoldable pub IsRightTry : Mode → Instance → ℕ → LogState → Tried → Type 0
IsRightTry mode i budget log (Found a) = IsWrittenSolution mode i (assigned a)
IsRightTry mode i budget log Empty = HasNoSolution mode i
IsRightTry mode i budget log Spent = IsSpentOn mode i budget log

-- the conflicts were spent in an attempt
unfoldable pub was_spent : Tried → Bool
was_spent (Found a) = false
was_spent Empty = false
was_spent Spent = true

-- a clause that is named, with an assignment that makes the others true
abbrev pub named_clause : Dropped → ℕ × Assigned
named_clause one = (one.clause, assigned one.without)

-- What is explained is right: a solution of the instance without its objective; clauses that explain why there is none; or
-- the numbers of the clauses with which the conflicts were spent, and the log shows it for the instance with these alone.
unfoldable pub IsRightExplanation : Mode → Instance → ℕ → LogState → Explained → Type 0
IsRightExplanation mode i budget log (Satisfiable a) = IsWrittenSolution mode (without_goal i) (assigned a)
IsRightExplanation mode i budget log (Core named) = Explains mode i (map named_clause named.items)
IsRightExplanation mode i budget log (SpentOn numbers) = IsSpentAt mode i budget log numbers.items

-- the conflicts were spent before anything was explained
unfoldable pub ends_spent : Explained → Bool
ends_spent (Satisfiable a) = false
ends_spent (Core named) = false
ends_spent (SpentOn numbers) = true
