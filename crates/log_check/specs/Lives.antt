-- The lives of clauses, as a table has them.
use Rattle.std.specs.Prelude.{◌≡◌, ◌+◌, ℕ, ◌&&◌, nat_eq, nat_lt, nat_le, min, if◌then◌else◌, List, Option, Some, None, length, slice_index_or}
use Rattle.std.specs.HashMap.{get}
use Rattle.cnf_core.specs.Literal.{Literal}
use Rattle.log_check.specs.Verdict.{is_number_among}
use Rattle.log_check.specs.declared.calendar.Life.{Life}
use Rattle.log_check.specs.declared.calendar.Lives.{Lives}

-- the life under an id: small ids have a place of their own
abbrev pub life_of : Lives → ℕ → Option Life
life_of t id =
    if nat_lt id (length t.small.items) then slice_index_or t.small.items id None else get nat_eq t.large id

-- the clause that a life has at a line
abbrev pub clause_at : Option Life → ℕ → Option (List Literal)
clause_at None line = None
clause_at (Some life) line =
    if nat_le life.from line && nat_lt line life.until then Some life.clause.now else None

-- a life that is over behind a line
abbrev pub ended : ℕ → Option Life → Option Life
ended line None = None
ended line (Some life) =
    Some (record { clause = life.clause; from = life.from; until = min life.until (line + 1) })

-- the lives of these ids are over behind a line, and no other is changed
abbrev pub EndsThose : List ℕ → ℕ → Lives → Lives → Type 0
EndsThose ids line old new =
    (id : ℕ) → life_of new id ≡ (if is_number_among ids id then ended line (life_of old id) else life_of old id)
