-- What the calls answer.
use Rattle.std.specs.Prelude.{ℕ, List, Result, Ok, Err}
use Rattle.ep_tree.specs.Phrases.{Lexeme}
use Rattle.ep_tree.specs.Reading.{DomainFault, DomainTooHigh, ExprFault, ExprTooHigh, ReadsDomain, ReadsExpr}
use Rattle.ep_tree.specs.Views.{domain_tree, expr_tree}
use Rattle.ep_tree.specs.declared.syntax.Domain.{Domain}
use Rattle.ep_tree.specs.declared.syntax.Expr.{Expr}
use Rattle.ep_parse_expr.specs.declared.errors.ParseError.{ParseError}
use Rattle.ep_parse_expr.specs.declared.errors.ParseError.TheVariants.{Memory, Syntax, TooHigh}

-- What is said of an expression of at most a height, read from a token on. Want of memory says nothing.
abbrev pub AnswersExpr : ℕ → ℕ → List Lexeme → Result (Expr × ℕ) ParseError → Type 0
AnswersExpr most from tokens (Ok found) = ReadsExpr most from tokens (expr_tree found.0) found.1
AnswersExpr most from tokens (Err (Syntax number)) = ExprFault most from tokens number
AnswersExpr most from tokens (Err (TooHigh number)) = ExprTooHigh most from tokens number
AnswersExpr most from tokens (Err Memory) = Unit {0}

-- what is said of a domain
abbrev pub AnswersDomain : ℕ → ℕ → List Lexeme → Result (Domain × ℕ) ParseError → Type 0
AnswersDomain most from tokens (Ok found) = ReadsDomain most from tokens (domain_tree found.0) found.1
AnswersDomain most from tokens (Err (Syntax number)) = DomainFault most from tokens number
AnswersDomain most from tokens (Err (TooHigh number)) = DomainTooHigh most from tokens number
AnswersDomain most from tokens (Err Memory) = Unit {0}
