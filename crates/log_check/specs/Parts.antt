-- What the check of a part of a proof has to find.
use Rattle.std.specs.Prelude.{◌≡◌, ◌⊎◌, ◌+◌, ◌<◌, ◌≤◌, ℕ, Bool, true, List, [], ◌∷◌, ◌++◌, Option, Some, None, Result, Ok, Err, length, take, get_or, nat_lt}
use Rattle.std.specs.List.{list_all}
use Rattle.ep_base.specs.declared.errors.Memory.{Memory}
use Rattle.cnf_core.specs.Literal.{Literal}
use Rattle.cnf_core.specs.Lines.{ProofLine, add, delete}
use Rattle.log_check.specs.Kept.{KeepsLive}
use Rattle.log_check.specs.Lives.{life_of}
use Rattle.log_check.specs.Verdict.{added_ids, first_bad, live_behind}
use Rattle.log_check.specs.declared.calendar.Calendar.{Calendar}
use Rattle.log_check.specs.declared.calendar.Life.{Life}
use Rattle.log_check.specs.declared.calendar.Lives.{Lives}

-- whether a line that adds has an id that is greater than the number of the formula's clauses and than each earlier added id
abbrev pub has_new_id : List (List Literal) → List ProofLine → ProofLine → Bool
has_new_id formula earlier (add id clause hints) =
    list_all (λ n. nat_lt n id) (length formula ∷ added_ids earlier)
has_new_id formula earlier (delete ids) = true

-- A calendar tells of each line, up to the first whose id isn't new, which clauses are live there, and whether its id is new.
pub record TellsLives (calendar : Calendar) (formula : List (List Literal)) (lines : List ProofLine) : Type 0 where
  pub live : (k : ℕ) → k ≤ calendar.ordered → k < length lines → KeepsLive calendar.lives k (live_behind formula (take k lines))
  pub new :
      (k : ℕ) (line : ProofLine) → k ≤ calendar.ordered → k < length lines → line ≡ get_or lines k line
      → has_new_id formula (take k lines) line ≡ nat_lt k calendar.ordered

-- What the lives of the first of so many lines tell, where the ids of these are new and the greatest so far is newest: which clauses
-- are live at each of them and at the next. What isn't over lasts to the end.
pub record TellsFirst (lives : Lives) (newest last : ℕ) (formula : List (List Literal)) (earlier : List ProofLine) : Type 0 where
  pub live : (k : ℕ) → k ≤ length earlier → k < last → KeepsLive lives k (live_behind formula (take k earlier))
  pub settled :
      (id : ℕ) (life : Life) → life_of lives id ≡ Some life
      → (life.from ≤ length earlier) × ((life.until ≤ length earlier) ⊎ (life.until ≡ last))
  pub free : (id : ℕ) → newest < id → life_of lives id ≡ None
  pub newest_id : (id : ℕ) → list_all (λ n. nat_lt n id) (length formula ∷ added_ids earlier) ≡ nat_lt newest id
  pub new :
      (k : ℕ) (line : ProofLine) → k < length earlier → line ≡ get_or earlier k line
      → has_new_id formula (take k earlier) line ≡ true

-- Of a part with so many lines before it, the number of the first bad line is found. Where the part begins behind the first line
-- whose id isn't new, nothing is said.
abbrev pub FindsBad : Calendar → ℕ → List ProofLine → Option ℕ → Type 0
FindsBad calendar start part bad =
    (formula : List (List Literal)) (before after : List ProofLine)
    → TellsLives calendar formula ((before ++ part) ++ after) → length before ≡ start → start ≤ calendar.ordered
    → (bad ≡ first_bad formula before part) × (bad ≡ None → start + length part ≤ calendar.ordered)

-- what the first part with a bad line says, where memory wasn't wanting before
abbrev pub first_found : List (Result (Option ℕ) Memory) → Result (Option ℕ) Memory
first_found [] = Ok None
first_found (Ok None ∷ found) = first_found found
first_found (Ok (Some line) ∷ found) = Ok (Some line)
first_found (Err refused ∷ found) = Err refused
