-- Tokens whose spans lie in their text.
use Rattle.std.specs.Prelude.{◌≡◌, ℕ, ◌≤◌, List, length}
use Rattle.std.specs.List.{AllByRecursion}
use Rattle.std.specs.Str.{IsAscii}
use Rattle.ep_base.specs.declared.tokens.Token.{Token}
use Rattle.ep_base.specs.declared.tokens.TokenKind.TheVariants.{Name}
use Rattle.ep_base.specs.Tokens.{token_text}

-- a token's span lies in the text, and a name's bytes are ASCII
pub record LiesIn (text : List ℕ) (token : Token) : Type 0 where
  pub ordered : token.from ≤ token.to
  pub within : token.to ≤ length text
  pub ascii : token.kind ≡ Name → IsAscii (token_text text token)

abbrev pub LieIn : List ℕ → List Token → Type 0
LieIn text tokens = AllByRecursion (LiesIn text) tokens
