-- What the files of a search say to a reader who has nothing but their bytes.
use Rattle.std.specs.Prelude.{◌≡◌, ◌<◌, ◌≤◌, ◌-◌, ◌^◌, ℕ, ℤ, Bool, List, [], drop, length, map, take, None, Some}
use Rattle.cnf_core.specs.Events.{LogState, Note}
use Rattle.cnf_core.specs.Lines.{ProofLine}
use Rattle.cnf_core.specs.Literal.{Literal}
use Rattle.ep_base.specs.Outside.{Held}
use Rattle.ep_print.specs.Listings.{EndTree, ListingTree, complete, spent, stopped}
use Rattle.ep_print.specs.Answers.{AnswerTree, no_solution, optimum, solution, unknown, unknown_with}
use Rattle.ep_divided.specs.Divided.{AreToldIn, IsLoggedByCubes}
use Rattle.ep_solve.specs.Listed.{IsUnlisted, Lists}
use Rattle.ep_solve.specs.Logged.{IsBetterSolution, IsLogged, TellSolutions}
use Rattle.ep_tree.specs.Binding.{Instance}
use Rattle.ep_tree.specs.Solutions.{Found}
use Rattle.ep_tree.specs.declared.values.Mode.{Mode}
use Rattle.ep_unroll.specs.Cells.{found_numbers}
use Rattle.log_check.specs.Verdict.{first_bad, verdict_of}
use Rattle.log_check.specs.declared.Verdict.{Verdict}
use Rattle.log_check.specs.declared.Verdict.TheVariants.{Verified}
use Rattle.sat_split.specs.Cubes.{AreCubeVariables, cube_literals, unit_of}
use Rattle.sat_text.specs.CnfGrammar.{SpellsCnf}
use Rattle.sat_text.specs.LogGrammar.{SpellsLog}
use Rattle.sat_text.specs.Notes.{added_of, notes_of}
use Rattle.sat_text.specs.Words.{lines, most_text_bytes}
use Rattle.ep_driver.specs.Answers.{Settles, verdict_status}
use Rattle.ep_said.specs.Verdicts.{verdict_text}
use Rattle.ep_driver.specs.Commands.{Want}
use Rattle.ep_driver.specs.Outcomes.{Task}
use Rattle.ep_outputs.specs.Outputs.{IsFormulaText, IsStepsText, NotesUpTo}
use Rattle.ep_driver.specs.Shown.{Ask}
use Rattle.ep_files.specs.declared.status.Status.{Status}
use Rattle.ep_driver.specs.declared.wanted.Wanted.{Wanted}

-- ---- the formula and the steps

-- the notes that a reader reads in a formula's text
abbrev pub read_notes : List ℕ → List Note
read_notes text = notes_of (lines text)

-- how many of its clauses were added, as a reader reads it
abbrev pub read_added : List ℕ → ℕ
read_added text = added_of 0 (lines text)

-- What the bytes of a formula's text say of an instance. They spell clauses over so many variables, which cover the lines of cells too,
-- and say how many clauses were added. By these lines the assignments that satisfy the clauses before those that were added tell
-- exactly the instance's solutions, and the assignments that satisfy all clauses tell exactly the solutions that are left.
pub record Certifies (mode : Mode) (i : Instance) (left : Found → Type 0) (text : List ℕ) : Type 0 where
  pub vars : ℕ
  pub clauses : List (List Literal)
  pub spelled : SpellsCnf text vars clauses
  pub noted : NotesUpTo vars (read_notes text)
  pub few : read_added text ≤ length clauses
  pub stands : TellSolutions mode i (read_notes text) (take (length clauses - read_added text) clauses) (λ _. Unit {0})
  pub leaves : TellSolutions mode i (read_notes text) clauses left

-- which solutions an answer leaves: those that are better than the optimum, or than the solution at hand; and all of them where it
-- has no objective's number
abbrev pub left_of_answer : Mode → Instance → AnswerTree → Found → Type 0
left_of_answer mode i (solution a) = λ found. Unit {0}
left_of_answer mode i (optimum value a) = IsBetterSolution mode i value
left_of_answer mode i no_solution = λ found. Unit {0}
left_of_answer mode i (unknown conflicts) = λ found. Unit {0}
left_of_answer mode i (unknown_with conflicts value a) = IsBetterSolution mode i value

-- which answers close the log that they stand beside: an optimum, and that there is no solution
abbrev pub closes : AnswerTree → Type 0
closes (solution a) = ⊥
closes (optimum value a) = Unit {0}
closes no_solution = Unit {0}
closes (unknown conflicts) = ⊥
closes (unknown_with conflicts value a) = ⊥

-- which ends of a list do: that it is complete
abbrev pub closes_list : EndTree → Type 0
closes_list complete = Unit {0}
closes_list stopped = ⊥
closes_list (spent conflicts) = ⊥

-- What the bytes of a formula's text and of a text of steps say together: they spell clauses, and lines of which none is bad over these;
-- where what is said closes its log, the lines are verified.
pub record Verifies (formula steps : List ℕ) (closed : Type 0) : Type 0 where
  pub vars : ℕ
  pub clauses : List (List Literal)
  pub lines : List ProofLine
  pub spelled : SpellsCnf formula vars clauses
  pub said : SpellsLog steps lines
  pub accepted : first_bad clauses [] lines ≡ None
  pub verified : closed → verdict_of clauses lines ≡ Verified

-- A text of a log's formula certifies an instance, and each text of its steps is accepted beside it, and verified where what is said
-- closes the log.
pub record IsCertified (mode : Mode) (i : Instance) (log : LogState) (left : Found → Type 0) (closed : Type 0) (text : List ℕ) : Type 0 where
  pub certifies : Certifies mode i left text
  pub verifies : (steps : List ℕ) → IsStepsText log steps → Verifies text steps closed

-- Of a log that shows an answer: the solutions that the answer leaves are what is left, and an optimum and "no solution" are verified.
abbrev pub AnswersCertify : Type 0
AnswersCertify =
    (mode : Mode) (i : Instance) (conflicts : ℕ) (log : LogState) (answer : AnswerTree) → IsLogged mode i conflicts log answer
    → (text : List ℕ) → IsFormulaText log text → IsCertified mode i log (left_of_answer mode i answer) (closes answer) text

-- The same of a list of solutions: those that aren't listed are what is left, as many clauses were added as it has members, and a
-- complete one is verified.
abbrev pub ListsCertify : Type 0
ListsCertify =
    (mode : Mode) (i : Instance) (most conflicts : ℕ) (log : LogState) (listing : ListingTree) → Lists mode i conflicts most log listing
    → (text : List ℕ) → IsFormulaText log text
    → IsCertified mode i log (IsUnlisted listing.found) (closes_list listing.ending) text
    × (read_added text ≡ length listing.found)

-- ---- cubes

-- the clauses before those that a reader reads as added
abbrev pub own_clauses : List ℕ → List (List Literal) → List (List Literal)
own_clauses text clauses = take (length clauses - read_added text) clauses

-- What the bytes of a formula's text say where the conflicts of a cube were spent. The clauses that were added are the cube's literals, one
-- each, over the lowest variables that stand in the clauses before them, at most so many. By the lines of cells the assignments that
-- satisfy these clauses tell exactly the instance's solutions, and the assignments that satisfy all clauses tell exactly the solutions that
-- are told in the cube. No line of a text of the log's steps is bad over all clauses.
pub record CertifiesCube (mode : Mode) (i : Instance) (most : ℕ) (log : LogState) (text : List ℕ) : Type 0 where
  pub vars : ℕ
  pub clauses : List (List Literal)
  pub spelled : SpellsCnf text vars clauses
  pub noted : NotesUpTo vars (read_notes text)
  pub few : read_added text ≤ length clauses
  pub cube_vars : List ℕ
  pub are : AreCubeVariables most (own_clauses text clauses) cube_vars
  pub cube : ℕ
  pub is_cube : cube < 2 ^ length cube_vars
  pub added : drop (length clauses - read_added text) clauses ≡ map unit_of (cube_literals cube cube_vars)
  pub stands : TellSolutions mode i (read_notes text) (own_clauses text clauses) (λ _. Unit {0})
  pub leaves : TellSolutions mode i (read_notes text) clauses
      (λ found. AreToldIn i (read_notes text) (own_clauses text clauses) (cube_literals cube cube_vars) (found_numbers found))
  pub verifies : (steps : List ℕ) → IsStepsText log steps → Verifies text steps ⊥

-- what the text says of an answer by cubes: a solution leaves all solutions, and "no solution" is verified
abbrev pub CertifiesByCubes : Mode → Instance → ℕ → LogState → AnswerTree → List ℕ → Type 0
CertifiesByCubes mode i most log (solution a) text = IsCertified mode i log (λ found. Unit {0}) ⊥ text
CertifiesByCubes mode i most log (optimum value a) text = ⊥
CertifiesByCubes mode i most log no_solution text = IsCertified mode i log (λ found. Unit {0}) (Unit {0}) text
CertifiesByCubes mode i most log (unknown conflicts) text = CertifiesCube mode i most log text
CertifiesByCubes mode i most log (unknown_with conflicts value a) text = ⊥

-- so it is of a log that shows an answer by cubes, over at most so many variables
abbrev pub CubesCertify : Type 0
CubesCertify =
    (mode : Mode) (i : Instance) (most conflicts : ℕ) (log : LogState) (answer : AnswerTree) → IsLoggedByCubes mode i most conflicts log answer
    → (text : List ℕ) → IsFormulaText log text → CertifiesByCubes mode i most log answer text

-- ---- the check

-- Words and held files show a check, and nothing settles what they show but the status and the line of this verdict.
pub record SaysVerdict (words : List (List ℕ)) (held : Held) (verdict : Verdict) : Type 0 where
  pub asked : (task : Task) × Ask words held task
  pub says : (task : Task) → Ask words held task → (status : Status) (said : List ℕ) (log : LogState) → Settles task status said log
      → (status ≡ verdict_status verdict) × (said ≡ verdict_text verdict)

-- A command that checks two files says the verdict on the lines that the one spells over the clauses that the other spells, where both
-- texts are within their limit: so of files that a search wrote it says that they are verified wherever they are, and never that a
-- step is bad.
abbrev pub ChecksSaySo : Type 0
ChecksSaySo =
    (formula steps : List ℕ) (vars : ℕ) (clauses : List (List Literal)) (lines : List ProofLine)
    → SpellsCnf formula vars clauses → SpellsLog steps lines
    → length formula ≤ most_text_bytes → length steps ≤ most_text_bytes
    → (words : List (List ℕ)) (cnf proof : List ℕ) (workers : ℕ) → Want words (Wanted.Check cnf proof workers)
    → (held : Held) → held cnf ≡ Some formula → held proof ≡ Some steps → SaysVerdict words held (verdict_of clauses lines)
