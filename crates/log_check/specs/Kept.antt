-- What the check keeps as it goes, against the lists that the verdict speaks of.
use Rattle.std.specs.Prelude.{◌≡◌, ℕ, Bool, true, not, IsTrue, ◌&&◌, List, [], ◌∷◌}
use Rattle.cnf_core.specs.Literal.{Literal, negation, is_among}
use Rattle.cnf_core.specs.Reading.{is_shown_by}
use Rattle.cnf_core.specs.Lines.{ProofLine, add, delete}
use Rattle.log_check.specs.Lives.{clause_at, life_of}
use Rattle.log_check.specs.Verdict.{Live, live_clause, hinted_clauses}
use Rattle.log_check.specs.declared.calendar.Lives.{Lives}
use Rattle.log_check.specs.declared.reading.Remaining.{Remaining}
use Rattle.log_check.specs.declared.reading.Remaining.TheVariants.{Nothing, One, More}

-- the literals that are kept are the true ones, in whatever order
abbrev pub KeepsTrues : List Literal → List Literal → Type 0
KeepsTrues kept trues =
    (v : ℕ) (positive : Bool)
    → is_among kept (record { var = v; positive = positive })
    ≡ is_among trues (record { var = v; positive = positive })

-- A literal is made true where its negation isn't. Then it is kept with those that were.
pub record MakesTrue (old new : List Literal) (l : Literal) (done : Bool) : Type 0 where
  pub unless_false : done ≡ not (is_among old (negation l))
  pub kept : IsTrue done → KeepsTrues new (l ∷ old)

-- the clauses that a table says are live at a line are the live ones
abbrev pub KeepsLive : Lives → ℕ → List Live → Type 0
KeepsLive lives line live = (id : ℕ) → clause_at (life_of lives id) line ≡ live_clause live id

-- no literal, one, or more
abbrev pub remaining_of : List Literal → Remaining
remaining_of [] = Nothing
remaining_of (l ∷ []) = One l
remaining_of (l ∷ m ∷ others) = More

-- whether a line is valid where these clauses are live, and where its id, if it adds, is new or isn't
abbrev pub is_accepted : Bool → List Live → ProofLine → Bool
is_accepted new live (add id clause hints) = new && is_shown_by clause (hinted_clauses live hints)
is_accepted new live (delete ids) = true

-- the same of one that was found before and of those behind it
abbrev pub remaining_with : Remaining → List Literal → Remaining
remaining_with Nothing rest = remaining_of rest
remaining_with (One l) [] = One l
remaining_with (One l) (m ∷ others) = More
remaining_with More rest = More
