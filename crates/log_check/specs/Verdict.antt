-- What the check of a proof against a formula has to answer.
use Rattle.std.specs.Prelude.{ℕ, ◌+◌, ℤ, pos, negsuc, Bool, true, false, not, ◌&&◌, ◌||◌, nat_eq, nat_lt, if◌then◌else◌, List, [], ◌∷◌, ◌++◌, length, filter, fold, Option, Some, None}
use Rattle.std.specs.List.{list_any, list_all}
use Rattle.cnf_core.specs.Literal.{Literal}
use Rattle.cnf_core.specs.Reading.{is_shown_by}
use Rattle.cnf_core.specs.Lines.{ProofLine, add, delete}
use Rattle.log_check.specs.declared.Verdict.{Verdict}
use Rattle.log_check.specs.declared.Verdict.TheVariants.{Verified, BadStep, NoEmptyClause}

-- a clause, and the id under which it is live
pub record Live : Type 0 where
  pub id : ℕ
  pub clause : List Literal

-- the clauses with ids in order, the first having the id n
abbrev pub numbered_from : ℕ → List (List Literal) → List Live
numbered_from n [] = []
numbered_from n (clause ∷ clauses) =
    record { id = n; clause = clause } ∷ numbered_from (n + 1) clauses

-- whether the number is one of these
abbrev pub is_number_among : List ℕ → ℕ → Bool
is_number_among numbers n = list_any (nat_eq n) numbers

-- A line that adds brings in its clause. A line that deletes takes out the ids that it names.
abbrev pub live_after : List Live → ProofLine → List Live
live_after live (add id clause hints) = record { id = id; clause = clause } ∷ live
live_after live (delete ids) = filter (λ l. not (is_number_among ids l.id)) live

-- What is live behind these lines: at first the clauses of the formula, with the ids from 1 on.
abbrev pub live_behind : List (List Literal) → List ProofLine → List Live
live_behind formula lines = fold live_after (numbered_from 1 formula) lines

-- the clause that is live under an id
abbrev pub live_clause : List Live → ℕ → Option (List Literal)
live_clause [] id = None
live_clause (l ∷ live) id = if nat_eq id l.id then Some l.clause else live_clause live id

-- a hint names the clause that is live under it; a negative one names none
abbrev pub hinted_clause : List Live → ℤ → Option (List Literal)
hinted_clause live (pos id) = live_clause live id
hinted_clause live (negsuc n) = None

-- a hint's clause before those of the later hints, or nothing where the hint names none
abbrev pub before_later : Option (List Literal) → List (List Literal) → List (List Literal)
before_later None later = []
before_later (Some clause) later = clause ∷ later

-- The clauses that hints name, in order, up to the first hint that names no live clause: the reading
-- goes no further.
abbrev pub hinted_clauses : List Live → List ℤ → List (List Literal)
hinted_clauses live [] = []
hinted_clauses live (hint ∷ hints) =
    before_later (hinted_clause live hint) (hinted_clauses live hints)

-- the ids under which lines add
abbrev pub added_ids : List ProofLine → List ℕ
added_ids [] = []
added_ids (add id clause hints ∷ lines) = id ∷ added_ids lines
added_ids (delete ids ∷ lines) = added_ids lines

-- Whether a line is valid behind earlier ones. One that adds is, where its id is greater than the
-- number of the formula's clauses and than each earlier added id, and the live clauses that its hints
-- name show its clause. One that deletes always is.
abbrev pub is_valid_line : List (List Literal) → List ProofLine → ProofLine → Bool
is_valid_line formula earlier (add id clause hints) =
    list_all (λ n. nat_lt n id) (length formula ∷ added_ids earlier)
    && is_shown_by clause (hinted_clauses (live_behind formula earlier) hints)
is_valid_line formula earlier (delete ids) = true

-- the number of the first of the later lines that isn't valid, where lines are counted from 1
abbrev pub first_bad : List (List Literal) → List ProofLine → List ProofLine → Option ℕ
first_bad formula earlier [] = None
first_bad formula earlier (line ∷ later) =
    if is_valid_line formula earlier line then first_bad formula (earlier ++ line ∷ []) later
    else Some (length earlier + 1)

-- whether a clause has no literal
abbrev pub is_empty_clause : List Literal → Bool
is_empty_clause [] = true
is_empty_clause (l ∷ literals) = false

-- whether a line adds the empty clause
abbrev pub adds_empty_clause : ProofLine → Bool
adds_empty_clause (add id clause hints) = is_empty_clause clause
adds_empty_clause (delete ids) = false

-- whether the formula, or a line that adds, has the empty clause
abbrev pub has_empty_clause : List (List Literal) → List ProofLine → Bool
has_empty_clause formula lines =
    list_any is_empty_clause formula || list_any adds_empty_clause lines

-- the verdict, where a line isn't valid or none is, and where there is an empty clause or none
abbrev pub verdict_from : Option ℕ → Bool → Verdict
verdict_from (Some line) empty = BadStep line
verdict_from None true = Verified
verdict_from None false = NoEmptyClause

-- A bad step is named first. Otherwise the proof is verified where there is an empty clause.
abbrev pub verdict_of : List (List Literal) → List ProofLine → Verdict
verdict_of formula lines =
    verdict_from (first_bad formula [] lines) (has_empty_clause formula lines)
