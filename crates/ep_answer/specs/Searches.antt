-- What a search keeps between its calls: how the log went on, what the best so far leaves, and the values that a solver keeps.
use Rattle.std.specs.Prelude.{◌≡◌, ◌≢◌, ◌↔◌, ◌≤◌, ◌<◌, ◌-◌, ◌++◌, ◌∷◌, false, ℕ, ℤ, Bool, IfSome, IsSome, IsTrue, List, [], filter, length, suc, Option, None, Some, option_map, slice_get, slice_index_or, take, unwrap_or}
use Rattle.std.specs.List.{All, AllPairs, AllZip, Contains}
use Rattle.cnf_core.specs.Clauses.{Satisfies, SatisfiesClause}
use Rattle.cnf_core.specs.Events.{LogEvent, LogState, clauses_of, given, givens, nonempty_steps}
use Rattle.cnf_core.specs.Literal.{Literal, negation}
use Rattle.ep_base.specs.Runs.{IsIn}
use Rattle.ep_base.specs.Senses.{better_number}
use Rattle.ep_base.specs.declared.operators.Sense.{Sense}
use Rattle.ep_base.specs.declared.run_lists.Run.{Run}
use Rattle.enc_var.specs.Decoding.{Means, VariableLiterals, decoded, literal_of_note}
use Rattle.enc_var.specs.Layouts.{decoded_cells, decoded_values, literals_at}
use Rattle.ep_flat.specs.Cons.{number_at}
use Rattle.ep_flat.specs.Flats.{objective_number}
use Rattle.ep_answer.specs.Answered.{AllTell, BlocksCells, FoundCells, IsBetterThan, IsReachedGoal, IsNumberWanted, SaysBetter, no_solution, optimum}
use Rattle.ep_answer.specs.Problems.{AllMean, IsAllowed, ProblemState, base_clauses}
use Rattle.sat_search.specs.Logs.{IsSound}
use Rattle.sat_search.specs.View.{SolverView, value_in}

-- the values that a solver keeps
abbrev pub kept_values : SolverView → ℕ → Bool
kept_values solver = value_in (unwrap_or solver.kept [])

-- the answer where nothing is better than the best so far
abbrev pub best_answer : Option (ℤ × List ℤ) → FoundCells
best_answer None = no_solution
best_answer (Some best) = optimum best.0 best.1

-- how many numbers of a domain are better than the best so far, and one more than there are where there is none
unfoldable pub numbers_left : Sense → List ℤ → Option ℤ → ℕ
numbers_left sense domain None = suc (length domain)
numbers_left sense domain (Some best) = length (filter (λ v. better_number sense v best) domain)

-- each of these numbers is in the run
abbrev pub AreWithin : List ℤ → Run → Type 0
AreWithin domain run = (v : ℤ) → Contains domain v → IsIn v run

-- an assignment under which a variable's literals mean what they say, and the variable has this number
pub record Reaches (s : ℕ → Bool) (e : VariableLiterals) (number : ℤ) : Type 0 where
  pub means : Means s e
  pub is : decoded s e ≡ number

-- where a variable's literals mean what they say, a clause holds exactly where the variable's number is better than this one
abbrev pub ClauseSaysBetter : VariableLiterals → Sense → ℤ → List Literal → Type 0
ClauseSaysBetter e sense best clause =
    (s : ℕ → Bool) → Means s e → SatisfiesClause s clause ↔ IsTrue (better_number sense (decoded s e) best)

-- The log is the old one with some events at its end: sound, within the budget, and with the same notes and base.
pub record Continues (budget : ℕ) (old now : LogState) : Type 0 where
  pub sound : IsSound now.events
  pub within : nonempty_steps now.events ≤ budget
  pub more : List LogEvent
  pub events : now.events ≡ old.events ++ more
  pub notes : now.notes ≡ old.notes
  pub base : now.base ≡ old.base

-- The best solution is being looked for: some numbers of the objective were reached, each better than those before and the last the
-- best one's, the givens added say that the objective is better than each, and what is left is exactly what is still wanted.
pub record IsPursued (p : ProblemState) (budget : ℕ) (old now : LogState) (best : Option (ℤ × List ℤ)) : Type 0 where
  pub goes : Continues budget old now
  pub bests : List ℤ
  pub reached : All (IsReachedGoal p old) bests
  pub better : AllPairs (λ earlier later. IsBetterThan p earlier (Some later)) bests
  pub last : slice_get bests (length bests - 1) ≡ option_map (λ one. one.0) best
  pub said : AllZip (SaysBetter p) bests (givens goes.more)
  pub incumbent : IfSome best (λ one. IsAllowed p old one.1 (Some one.0))
  pub left : (s : ℕ → Bool) → Satisfies s (givens now.events)
      ↔ (Satisfies s (base_clauses old) × IsNumberWanted p best (objective_number p.variables (decoded_values p.layout s)))

-- One solution was found and a given added: an assignment gives the cells and the objective these numbers, and the given says that the
-- objective is better.
pub record IsImproved (p : ProblemState) (sense : Sense) (variable : ℕ) (s : ℕ → Bool) (old new : LogState) (number : ℤ) (cells : List ℤ) : Type 0 where
  pub number_is : number ≡ number_at (decoded_values p.layout s) variable
  pub cells_are : cells ≡ decoded_cells p.layout p.variables s
  pub clause : List Literal
  pub says : ClauseSaysBetter (literals_at p.layout variable) sense number clause
  pub new_is : new ≡ record old { events = old.events ++ given clause ∷ [] }

-- what is asked of a problem and of its log where a solution was found
pub record HasFound (p : ProblemState) (variable : ℕ) (log : LogState) : Type 0 where
  pub is_whole : p.solver.broken ≡ false
  pub kept : IsSome p.solver.kept
  pub sound : IsSound log.events
  pub clauses : p.solver.clauses ≡ clauses_of log.events
  pub cells : All (λ x. x < length p.layout) p.variables.cells
  pub there : variable < length p.layout
  pub meaning : AllMean (kept_values p.solver) p.layout p.variables.cells
  pub drives : Means (kept_values p.solver) (literals_at p.layout variable)

-- the literal says that one of the variables isn't its number
pub record IsNotNumber (layout : List VariableLiterals) (vars : List ℕ) (cells : List ℤ) (l : Literal) : Type 0 where
  pub place : ℕ
  pub there : place < length vars
  pub is : (x : ℕ) (v : ℤ) → l ≡ negation (literal_of_note (literals_at layout (slice_index_or vars place x)) (slice_index_or cells place v))

-- Whatever numbers the literals of the variables' values tell, the clause holds exactly where they are other numbers than these, and
-- each of its literals says that one of the variables isn't its number.
pub record OtherNumbers (layout : List VariableLiterals) (vars : List ℕ) (cells : List ℤ) (clause : List Literal) : Type 0 where
  pub says : (s : ℕ → Bool) (numbers : List ℤ) → AllTell s layout vars numbers → SatisfiesClause s clause ↔ (numbers ≢ cells)
  pub literals : All (IsNotNumber layout vars cells) clause

-- The same of the first so many variables.
pub record BlocksFirst (layout : List VariableLiterals) (vars : List ℕ) (cells : List ℤ) (count : ℕ) (literals_so_far : List Literal) : Type 0 where
  pub says : (s : ℕ → Bool) (numbers : List ℤ) → AllTell s layout vars numbers → SatisfiesClause s literals_so_far ↔ (take count numbers ≢ take count cells)
  pub literals : All (IsNotNumber layout vars cells) literals_so_far

-- each number is one that its variable can have
abbrev pub AreNumbers : List VariableLiterals → List ℕ → List ℤ → Type 0
AreNumbers layout vars cells = AllZip (λ x v. Contains (literals_at layout x).domain v) vars cells

-- One more solution was found and a given added: an assignment gives the cells these numbers, and the given blocks them.
pub record IsBlocked (p : ProblemState) (s : ℕ → Bool) (old new : LogState) (cells : List ℤ) : Type 0 where
  pub cells_are : cells ≡ decoded_cells p.layout p.variables s
  pub clause : List Literal
  pub blocks : OtherNumbers p.layout p.variables.cells cells clause
  pub new_is : new ≡ record old { events = old.events ++ given clause ∷ [] }

-- what is asked of a problem and of its log where a solution was found that is to be blocked
pub record HasCells (p : ProblemState) (log : LogState) : Type 0 where
  pub is_whole : p.solver.broken ≡ false
  pub kept : IsSome p.solver.kept
  pub sound : IsSound log.events
  pub clauses : p.solver.clauses ≡ clauses_of log.events
  pub cells : All (λ x. x < length p.layout) p.variables.cells
  pub meaning : AllMean (kept_values p.solver) p.layout p.variables.cells

-- Solutions are being listed: each is allowed, no two are equal, the givens added block them one by one, and what is left is exactly
-- what wasn't found.
pub record ListsNumbers (p : ProblemState) (budget : ℕ) (old now : LogState) (found : List (List ℤ)) : Type 0 where
  pub goes : Continues budget old now
  pub allowed : All (λ cells. (goal : Option ℤ) × IsAllowed p old cells goal) found
  pub different : AllPairs ◌≢◌ found
  pub blocked : AllZip (BlocksCells p old) found (givens goes.more)
  pub left : (s : ℕ → Bool) → Satisfies s (givens now.events)
      ↔ (Satisfies s (base_clauses old) × (Contains found (decoded_cells p.layout p.variables s) → ⊥))
