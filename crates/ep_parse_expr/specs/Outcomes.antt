-- How reading from a token on can end.
use Rattle.std.specs.Prelude.{ℕ, List}
use Rattle.ep_tree.specs.Phrases.{Lexeme}
use Rattle.ep_tree.specs.Heights.{domain_height, height}
use Rattle.ep_tree.specs.Reading.{Begins, DomainFault, DomainTooHigh, ExprFault, ExprTooHigh, Low, ReadsDomain, ReadsExpr, Stops}
use Rattle.ep_tree.specs.Spelling.{Spells, SpellsDomain, domains, implications}
use Rattle.ep_tree.specs.Trees.{DomainTree, ExprTree}

-- an expression of at most a height is read up to some token
abbrev pub IsRead : ℕ → ℕ → List Lexeme → Type 0
IsRead most from tokens = (e : ExprTree) × (number : ℕ) × ReadsExpr most from tokens e number

-- some token is a fault of syntax
abbrev pub IsFaulty : ℕ → ℕ → List Lexeme → Type 0
IsFaulty most from tokens = (number : ℕ) × ExprFault most from tokens number

-- some token is a fault of height
abbrev pub GoesTooHigh : ℕ → ℕ → List Lexeme → Type 0
GoesTooHigh most from tokens = (number : ℕ) × ExprTooHigh most from tokens number

-- the same of domains
abbrev pub DomainIsRead : ℕ → ℕ → List Lexeme → Type 0
DomainIsRead most from tokens = (d : DomainTree) × (number : ℕ) × ReadsDomain most from tokens d number

abbrev pub DomainIsFaulty : ℕ → ℕ → List Lexeme → Type 0
DomainIsFaulty most from tokens = (number : ℕ) × DomainFault most from tokens number

abbrev pub DomainGoesTooHigh : ℕ → ℕ → List Lexeme → Type 0
DomainGoesTooHigh most from tokens = (number : ℕ) × DomainTooHigh most from tokens number

-- The first token with which no expression goes on, or the end.
abbrev pub StopsAt : List Lexeme → ℕ → Type 0
StopsAt = Stops (Begins (Spells implications))

-- The first token with which no expression of at most a height goes on, or the end.
abbrev pub StopsLowAt : ℕ → List Lexeme → ℕ → Type 0
StopsLowAt most = Stops (Begins (Low height most (Spells implications)))

-- the same of domains
abbrev pub DomainStopsAt : List Lexeme → ℕ → Type 0
DomainStopsAt = Stops (Begins (SpellsDomain domains))

abbrev pub DomainStopsLowAt : ℕ → List Lexeme → ℕ → Type 0
DomainStopsLowAt most = Stops (Begins (Low domain_height most (SpellsDomain domains)))
