-- What a call answers whose body reads with a cursor, and counts what is left.
use Rattle.std.specs.Prelude.{◌≡◌, ℕ, zero, suc, ◌+◌, ◌≤◌, List, [], ◌∷◌, drop, length, Result, Ok, Err, refl}
use Rattle.std.proofs.Common.{ap, arith, sym, ◌∙◌}
use Rattle.ep_base.specs.declared.tokens.Token.{Token}
use Rattle.ep_tree.specs.Phrases.{Lexeme, lexemes_of}
use Rattle.ep_tree.specs.Spelling.{domains, implications}
use Rattle.ep_tree.specs.Views.{domain_tree, expr_tree}
use Rattle.ep_tree.specs.declared.syntax.Domain.{Domain}
use Rattle.ep_tree.specs.declared.syntax.Expr.{Expr}
use Rattle.ep_parse_expr.specs.Answers.{AnswersDomain, AnswersExpr}
use Rattle.ep_parse_parts.specs.Cursors.{Gives}
use Rattle.ep_parse_expr.specs.Faults.{error_at}
use Rattle.ep_parse_parts.specs.TreeReaders.{expr_from, some_domain_from}
use Rattle.ep_parse_parts.specs.declared.cursor.Stop.{Stop}
use Rattle.ep_parse_parts.specs.declared.cursor.Stop.TheVariants.{Memory as OutOfMemory, TooHigh as StopsHigh, Wrong}
use Rattle.ep_parse_expr.specs.declared.errors.ParseError.{ParseError}
use Rattle.ep_parse_expr.specs.declared.errors.ParseError.TheVariants.{Memory, Syntax, TooHigh}
use Rattle.ep_parse_expr.proofs.Answering.{answers_domain, answers_expr}

-- the answer of a call that stands before a token
abbrev pub answer_at : {A : Type 0} → ℕ → Result A Stop → Result (A × ℕ) ParseError
answer_at number (Ok x) = Ok (x, number)
answer_at number (Err stop) = Err (error_at number stop)

dropped : (text : List ℕ) (from : ℕ) (tokens : List Token) → lexemes_of text (drop from tokens) ≡ drop from (lexemes_of text tokens)
unfolding lexemes_of
dropped text zero tokens = refl
dropped text (suc from) [] = refl
dropped text (suc from) (t ∷ tokens) = dropped text from tokens

as_many : (text : List ℕ) (tokens : List Token) → length (lexemes_of text tokens) ≡ length tokens
unfolding lexemes_of
as_many text [] = refl
as_many text (t ∷ tokens) = ap suc (as_many text tokens)

module _ (most from number : ℕ) (text : List ℕ) (tokens : List Token) (left : List Lexeme) (within : from ≤ length tokens) (counted : number + length left ≡ length tokens) where
  inside : from ≤ length (lexemes_of text tokens)
  inside = let e = as_many text tokens in omega (arith, within, e)

  all : number + length left ≡ length (lexemes_of text tokens)
  all = counted ∙ sym (as_many text tokens)

  -- The result of a body that gives what the reader of expressions gives, where this number of tokens is before what it
  -- leaves.
  pub expr_answer : (result : Result Expr Stop) → Gives expr_tree result left (expr_from most implications (lexemes_of text (drop from tokens))) → AnswersExpr most from (lexemes_of text tokens) (answer_at number result)
  expr_answer (Ok e) g = answers_expr most from (lexemes_of text tokens) (Ok (e, number)) inside (record { left = left; counted = all; leaves = ap (expr_from most implications) (sym (dropped text from tokens)) ∙ g })
  expr_answer (Err Wrong) g = answers_expr most from (lexemes_of text tokens) (Err (Syntax number)) inside (record { left = left; counted = all; leaves = ap (expr_from most implications) (sym (dropped text from tokens)) ∙ g })
  expr_answer (Err StopsHigh) g = answers_expr most from (lexemes_of text tokens) (Err (TooHigh number)) inside (record { left = left; counted = all; leaves = ap (expr_from most implications) (sym (dropped text from tokens)) ∙ g })
  expr_answer (Err OutOfMemory) g = tt

  -- the same of domains
  pub domain_answer : (result : Result Domain Stop) → Gives domain_tree result left (some_domain_from most domains (lexemes_of text (drop from tokens))) → AnswersDomain most from (lexemes_of text tokens) (answer_at number result)
  domain_answer (Ok d) g = answers_domain most from (lexemes_of text tokens) (Ok (d, number)) inside (record { left = left; counted = all; leaves = ap (some_domain_from most domains) (sym (dropped text from tokens)) ∙ g })
  domain_answer (Err Wrong) g = answers_domain most from (lexemes_of text tokens) (Err (Syntax number)) inside (record { left = left; counted = all; leaves = ap (some_domain_from most domains) (sym (dropped text from tokens)) ∙ g })
  domain_answer (Err StopsHigh) g = answers_domain most from (lexemes_of text tokens) (Err (TooHigh number)) inside (record { left = left; counted = all; leaves = ap (some_domain_from most domains) (sym (dropped text from tokens)) ∙ g })
  domain_answer (Err OutOfMemory) g = tt
