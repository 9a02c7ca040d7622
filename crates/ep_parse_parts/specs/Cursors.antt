-- What functions that read tokens return, said by readers of lists.
use Rattle.std.specs.Prelude.{◌≡◌, ◌≤◌, Bool, true, false, List, [], ◌∷◌, length, Result, Ok, Err, ℕ, if◌then◌else◌}
use Rattle.std.specs.List.{AllByRecursion}
use Rattle.std.specs.Str.{IsAscii}
use Rattle.ep_base.specs.Tokens.{token_text}
use Rattle.ep_base.specs.declared.tokens.Token.{Token}
use Rattle.ep_base.specs.declared.tokens.TokenKind.TheVariants.{Name}
use Rattle.ep_parse_parts.specs.Readers.{Read, behind, high, says, took, wrong}
use Rattle.ep_parse_parts.specs.declared.cursor.Stop.{Stop}
use Rattle.ep_parse_parts.specs.declared.cursor.Stop.TheVariants.{Memory, TooHigh, Wrong}
use Rattle.ep_tree.specs.Phrases.{Lexeme}

-- a token's span lies in the text, and a name's bytes are ASCII
pub record LiesIn (text : List ℕ) (token : Token) : Type 0 where
  pub ordered : token.from ≤ token.to
  pub within : token.to ≤ length text
  pub ascii : token.kind ≡ Name → IsAscii (token_text text token)

-- the spans of some tokens lie in the text
abbrev pub LieIn : List ℕ → List Token → Type 0
LieIn text tokens = AllByRecursion (LiesIn text) tokens

-- A reader takes nothing, for this reason, and the tokens that are left are those that it names. Want of memory says
-- nothing.
abbrev pub StopsReading : {Y : Type 0} → Stop → List Lexeme → Read Y → Type 0
StopsReading Wrong left read = read ≡ wrong left
StopsReading TooHigh left read = read ≡ high left
StopsReading Memory left read = Unit {0}

-- What a function returned, seen by view, is what a reader gives, and the tokens that are left are those that the reader
-- leaves or names.
abbrev pub Gives : {X Y : Type 0} → (X → Y) → Result X Stop → List Lexeme → Read Y → Type 0
Gives view (Ok x) left read = read ≡ took (view x) left
Gives view (Err e) left read = StopsReading e left read

-- whether this word or symbol is next, with the tokens behind it, or else all
unfoldable pub passing : List ℕ → List Lexeme → Bool × List Lexeme
passing bytes ls = (says bytes ls, if says bytes ls then behind ls else ls)

-- whether no token is left
abbrev pub none_left : List Lexeme → Bool
none_left [] = true
none_left (l ∷ ls) = false
