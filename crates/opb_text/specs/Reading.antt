-- How a text is read from left to right. What a text means, and where its fault is, says Grammar; that reading answers it
-- is a clause of `read_opb`.
use Rattle.std.specs.Prelude.{◌≡◌, ℕ, ℤ, Bool, true, false, if◌then◌else◌, List, [], ◌∷◌, ◌++◌, Option, Some, None, option_map, Result, Ok, Err}
use Rattle.sat_text.specs.Words.{PlacedWord}
use Rattle.opb_text.specs.declared.content.OpbTerm.{OpbTerm}
use Rattle.opb_text.specs.declared.errors.Fault.{Fault}
use Rattle.opb_text.specs.declared.errors.Fault.TheVariants as fault
use Rattle.opb_text.specs.declared.errors.Stop.{Stop}
use Rattle.opb_text.specs.declared.errors.Stop.TheVariants as stop
use Rattle.opb_text.specs.declared.reader.Part.{Part}
use Rattle.opb_text.specs.declared.reader.Part.TheVariants.{Goal, Row}
use Rattle.opb_text.specs.declared.reader.Stage.{Stage}
use Rattle.opb_text.specs.declared.reader.Stage.TheVariants.{Start, Term, Literal, Right, End}
use Rattle.opb_text.specs.Contents as contents
use Rattle.opb_text.specs.Contents.{OpbContent}
use Rattle.opb_text.specs.Numbers.{signed_number_of, opb_literal_of}
use Rattle.opb_text.specs.Words.{is_end, is_goal, relation_of}

-- what was read so far, and what may come next
pub record Begun : Type 0 where
  pub objective : Option (List OpbTerm)
  pub rows : List contents.OpbConstraint
  pub terms : List OpbTerm
  pub stage : Stage

-- nothing was read
abbrev pub start : Begun
start = record { objective = None; rows = []; terms = []; stage = Start }

-- what was read, without what was only begun
abbrev pub content_of : Begun → OpbContent
content_of b = record { objective = b.objective; rows = b.rows }

-- what was read, with this to come next
abbrev pub then_comes : Stage → Begun → Begun
then_comes next b = record { objective = b.objective; rows = b.rows; terms = b.terms; stage = next }

-- the sign of a constraint, or a wrong word
abbrev pub with_relation : Begun → Option Bool → Option Begun
with_relation b None = None
with_relation b (Some equal) = Some (then_comes (Right equal) b)

-- a term's number in a constraint, or the sign
abbrev pub row_term : Begun → List ℕ → Option ℤ → Option Begun
row_term b word None = with_relation b (relation_of word)
row_term b word (Some factor) = Some (then_comes (Literal Row factor) b)

abbrev pub at_row_term : Begun → List ℕ → Option Begun
at_row_term b word = row_term b word (signed_number_of word)

-- the objective is whole
abbrev pub with_objective : Begun → Begun
with_objective b = record { objective = Some b.terms; rows = b.rows; terms = []; stage = Term Row }

-- a term's number in the objective, or its end
abbrev pub goal_term : Begun → List ℕ → Option ℤ → Option Begun
goal_term b word None = if is_end word then Some (with_objective b) else None
goal_term b word (Some factor) = Some (then_comes (Literal Goal factor) b)

abbrev pub at_goal_term : Begun → List ℕ → Option Begun
at_goal_term b word = goal_term b word (signed_number_of word)

-- the first word of all
abbrev pub at_start : Begun → List ℕ → Option Begun
at_start b word = if is_goal word then Some (then_comes (Term Goal) b) else at_row_term b word

-- one more term
abbrev pub with_term : Part → ℤ → Begun → Bool × ℕ → Begun
with_term part factor b literal = record {
  objective = b.objective;
  rows = b.rows;
  terms = b.terms ++ record { factor = factor; negated = literal.0; var = literal.1 } ∷ [];
  stage = Term part;
}

-- a term's literal
abbrev pub at_literal : Part → ℤ → Begun → List ℕ → Option Begun
at_literal part factor b word = option_map (with_term part factor b) (opb_literal_of word)

-- a right side
abbrev pub at_right : Bool → Begun → List ℕ → Option Begun
at_right equal b word = option_map (λ right. then_comes (End equal right) b) (signed_number_of word)

-- one more constraint
abbrev pub with_row : Bool → ℤ → Begun → Begun
with_row equal right b = record {
  objective = b.objective;
  rows = b.rows ++ record { terms = b.terms; equal = equal; right = right } ∷ [];
  terms = [];
  stage = Term Row;
}

-- the end of a constraint
abbrev pub at_row_end : Bool → ℤ → Begun → List ℕ → Option Begun
at_row_end equal right b word = if is_end word then Some (with_row equal right b) else None

-- what the next word makes of what was read, by what may come next; nothing where it is wrong
unfoldable pub opb_step_at : Stage → Begun → List ℕ → Option Begun
opb_step_at Start b word = at_start b word
opb_step_at (Term Goal) b word = at_goal_term b word
opb_step_at (Term Row) b word = at_row_term b word
opb_step_at (Literal part factor) b word = at_literal part factor b word
opb_step_at (Right equal) b word = at_right equal b word
opb_step_at (End equal right) b word = at_row_end equal right b word

-- what the next word makes of what was read; nothing where it is wrong
abbrev pub opb_step : Begun → List ℕ → Option Begun
opb_step b word = opb_step_at b.stage b word

-- whether there are no terms
abbrev pub has_none : List OpbTerm → Bool
has_none [] = true
has_none (t ∷ terms) = false

-- whether a text may end so
unfoldable pub may_end : Stage → List OpbTerm → Bool
may_end Start terms = true
may_end (Term Goal) terms = false
may_end (Term Row) terms = has_none terms
may_end (Literal part factor) terms = false
may_end (Right equal) terms = false
may_end (End equal right) terms = false

abbrev pub is_done : Begun → Bool
is_done b = may_end b.stage b.terms

-- what follows a word on this line, which is wrong where there is nothing
abbrev pub go_on : ℕ → Option Begun → (Begun → Result Begun ℕ) → Result Begun ℕ
go_on line None rest = Err line
go_on line (Some b) rest = rest b

-- what words make of what was read, or the line of the first wrong one
unfoldable pub run : Begun → List PlacedWord → Result Begun ℕ
run b [] = Ok b
run b (word ∷ later) = go_on word.line (opb_step b word.bytes) (λ next. run next later)

-- ---- what a reader answers

-- a word was taken, unless memory ran out: it makes this of what was read, or is wrong
abbrev pub Takes : {X : Type 0} → Result X Fault → Option Begun → Begun → Type 0
Takes (Ok _) stepped new = stepped ≡ Some new
Takes (Err fault.Memory) stepped new = Unit {0}
Takes (Err fault.Wrong) stepped new = stepped ≡ None

-- a reader stops for want of memory, or at the line of a wrong word
abbrev pub StopsRun : Stop → Result Begun ℕ → Type 0
StopsRun stop.Memory answer = Unit {0}
StopsRun (stop.At line) answer = answer ≡ Err line
