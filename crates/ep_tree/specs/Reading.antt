-- What is read from a list of tokens, and which token a fault of syntax or of height names.
--
-- Everything here speaks of what might follow: some tokens begin a tree where something that goes on from them would
-- spell one. What follows may be any tokens, also such as no text has. This is the project's own choice of the place of
-- a fault.
use Rattle.std.specs.Prelude.{◌≡◌, ℕ, suc, ◌+◌, ◌<◌, ◌≤◌, List, ◌++◌, length, take, drop}
use Rattle.ep_tree.specs.Heights.{domain_height, height}
use Rattle.ep_tree.specs.Phrases.{Lexeme, Phrase}
use Rattle.ep_tree.specs.Spelling.{Spells, SpellsDomain, domains, implications}
use Rattle.ep_tree.specs.Statements.{TextTree, text_height}
use Rattle.ep_tree.specs.Trees.{DomainTree, ExprTree}

-- a tree that isn't higher than so much
abbrev pub Low : {A : Type 0} → (A → ℕ) → ℕ → (A → Phrase) → A → Phrase
Low height_of most spells tree tokens = (height_of tree ≤ most) × spells tree tokens

-- some tokens begin the spelling of a tree
abbrev pub Begins : {A : Type 0} → (A → Phrase) → List Lexeme → Type 0
Begins {A} spells tokens = (tree : A) × (rest : List Lexeme) × spells tree (tokens ++ rest)

-- The number of the first token with which nothing goes on any more, or that of the end where there is none. To speak of
-- no token yet, nothing has to begin.
pub record Stops (begins : List Lexeme → Type 0) (tokens : List Lexeme) (count : ℕ) : Type 0 where
  pub within : count ≤ length tokens
  pub before : 0 < count → begins (take count tokens)
  pub after : count < length tokens → begins (take (suc count) tokens) → ⊥

-- The first tokens, so many of them, spell a tree of at most this height, and no tree, however high, goes on with the
-- next.
pub record Reads {A : Type 0} (spells : A → Phrase) (height_of : A → ℕ) (most : ℕ) (tokens : List Lexeme) (count : ℕ) (tree : A) : Type 0 where
  pub stops : Stops (Begins spells) tokens count
  pub spelled : spells tree (take count tokens)
  pub low : height_of tree ≤ most

-- The token of this number is a fault of height: trees of at most this height can't go on with it, and higher ones
-- can.
pub record IsTooHigh {A : Type 0} (spells : A → Phrase) (height_of : A → ℕ) (most : ℕ) (tokens : List Lexeme) (count : ℕ) : Type 0 where
  pub stops : Stops (Begins (Low height_of most spells)) tokens count
  pub inside : count < length tokens
  pub higher : Begins spells (take (suc count) tokens)

-- The token of this number is a fault of syntax: no tree goes on with it, and the tokens before it are none. The
-- number is that of the end where the tokens end too soon.
pub record IsSyntaxFault {A : Type 0} (spells : A → Phrase) (height_of : A → ℕ) (most : ℕ) (tokens : List Lexeme) (count : ℕ) : Type 0 where
  pub stops : Stops (Begins (Low height_of most spells)) tokens count
  pub no_higher : Stops (Begins spells) tokens count
  pub incomplete : (tree : A) → spells tree (take count tokens) → ⊥

-- ---- from a token on

-- what is said of a list of tokens and of a number, said of the tokens from one on, whose numbers count on from it
abbrev pub FromToken : (List Lexeme → ℕ → Type 0) → ℕ → List Lexeme → ℕ → Type 0
FromToken says from tokens number = (count : ℕ) × (number ≡ from + count) × says (drop from tokens) count

-- an expression of at most this height is read from one token up to another
abbrev pub ReadsExpr : ℕ → ℕ → List Lexeme → ExprTree → ℕ → Type 0
ReadsExpr most from tokens e =
    FromToken (λ these count. Reads (Spells implications) height most these count e) from tokens

-- from one token on, another is a fault of height in an expression
abbrev pub ExprTooHigh : ℕ → ℕ → List Lexeme → ℕ → Type 0
ExprTooHigh most = FromToken (IsTooHigh (Spells implications) height most)

-- from one token on, another is a fault of syntax in an expression
abbrev pub ExprFault : ℕ → ℕ → List Lexeme → ℕ → Type 0
ExprFault most = FromToken (IsSyntaxFault (Spells implications) height most)

-- a domain of at most this height is read from one token up to another
abbrev pub ReadsDomain : ℕ → ℕ → List Lexeme → DomainTree → ℕ → Type 0
ReadsDomain most from tokens d =
    FromToken (λ these count. Reads (SpellsDomain domains) domain_height most these count d) from tokens

-- from one token on, another is a fault of height in a domain
abbrev pub DomainTooHigh : ℕ → ℕ → List Lexeme → ℕ → Type 0
DomainTooHigh most = FromToken (IsTooHigh (SpellsDomain domains) domain_height most)

-- from one token on, another is a fault of syntax in a domain
abbrev pub DomainFault : ℕ → ℕ → List Lexeme → ℕ → Type 0
DomainFault most = FromToken (IsSyntaxFault (SpellsDomain domains) domain_height most)

-- ---- all tokens

-- The whole tokens spell a text of at most this height.
pub record ReadsWhole (spells : TextTree → Phrase) (most : ℕ) (tokens : List Lexeme) (tree : TextTree) : Type 0 where
  pub spelled : spells tree tokens
  pub low : text_height tree ≤ most

-- The token of this number is a fault of syntax of a whole text: no text goes on with it, or the tokens end too soon.
pub record IsTextFault (spells : TextTree → Phrase) (most : ℕ) (tokens : List Lexeme) (count : ℕ) : Type 0 where
  pub stops : Stops (Begins (Low text_height most spells)) tokens count
  pub no_higher : Stops (Begins spells) tokens count
  pub incomplete : count ≡ length tokens → (tree : TextTree) → spells tree tokens → ⊥

-- the greatest height that the language has
abbrev pub MOST_HEIGHT : ℕ
MOST_HEIGHT = 256
