-- Numbers that are read without going through the levels of expressions.
use Rattle.std.specs.Prelude.{◌≡◌, ◌≤◌, ℕ, List, [], ◌∷◌, Ok, Option, Some, None, codes}
use Rattle.ep_parse_parts.specs.Founds.{Finds}
use Rattle.ep_parse_parts.specs.Openings.{level_of}
use Rattle.ep_parse_parts.specs.TreeReaders.{expr_from}
use Rattle.ep_parse_parts.specs.declared.found.Found.{Found}
use Rattle.ep_parse_parts.specs.declared.words.Level.{Level}
use Rattle.ep_tree.specs.Phrases.{Lexeme}

-- words with which no expression goes on
abbrev pub closers : List (List ℕ)
closers = codes "," ∷ codes "]" ∷ codes ";" ∷ codes ".." ∷ codes ")" ∷ []

-- What was taken is what is read at each level, whatever height is allowed that is one at least. Where nothing was taken,
-- all tokens are left.
abbrev pub TakesAtOnce : Option Found → List Lexeme → List Lexeme → Type 0
TakesAtOnce None old new = new ≡ old
TakesAtOnce (Some found) old new =
    (most : ℕ) (level : Level) → 1 ≤ most → Finds (Ok found) new (expr_from most (level_of level) old)
