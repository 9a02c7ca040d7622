-- What a cursor of a text knows.
use Rattle.std.specs.Prelude.{◌≡◌, ℕ, ◌+◌, ◌≤◌, List, length, if◌then◌else◌}
use Rattle.ep_base.specs.declared.places.Place.{Place}
use Rattle.ep_base.specs.Tokens.{place_at}
use Rattle.ep_lexer.specs.declared.cursor.Cursor.{Cursor}

-- the cursor stands in the text or at its end, and has the place of its offset
pub record IsAt (text : List ℕ) (cursor : Cursor) : Type 0 where
  pub within : cursor.offset ≤ length text
  pub place : cursor.place ≡ place_at text cursor.offset
