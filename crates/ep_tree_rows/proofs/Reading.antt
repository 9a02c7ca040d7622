-- How far texts go well, and which token is refused where they don't.
use Rattle.std.specs.Prelude.{List, [], Ok, Err, Result, pos, codes, refl}
use Rattle.std.proofs.Common.{arith}
use Rattle.ep_base.specs.TokenTexts.{is_token}
use Rattle.ep_base.specs.Tokens.{TokenFault, place_at, token_at, token_len, tokens_from, tokens_of}
use Rattle.ep_base.specs.declared.tokens.Token.{Token}
use Rattle.ep_parse_model.proofs.TextRefusals.{model_stopped}
use Rattle.ep_parse_parts.specs.declared.cursor.Stop.TheVariants.{Wrong}
use Rattle.ep_tree.proofs.Opened.{the_language}
use Rattle.ep_tree.specs.Reading.{ExprFault, ExprTooHigh, MOST_HEIGHT, ReadsExpr}
use Rattle.ep_tree.specs.StatementSpelling.{SpellsModel}
use Rattle.ep_tree.specs.Texts.{HasSyntaxFault}
use Rattle.ep_tree.specs.Trees.{named, negation, number}
use Rattle.ep_tree_rows.proofs.Spelled.{fault_at, of_line, reads_to, too_high_at}
use Rattle.ep_tree_rows.proofs.Texts.{at, the_readers}

-- ---- expressions

-- no expression begins with `)`
closing : ExprFault MOST_HEIGHT 0 (of_line ")") 0
unfolding the_language the_readers
closing = fault_at MOST_HEIGHT 0 ")" _ refl refl

-- one token is read, and the bracket stays
seven_closing : ReadsExpr MOST_HEIGHT 0 (of_line "7 )") (number (at 1 1) (pos 7)) 1
unfolding the_language the_readers
seven_closing = reads_to MOST_HEIGHT 1 "7 )" _ _ refl refl

-- no operator between two expressions
x_not : ReadsExpr MOST_HEIGHT 0 (of_line "x ! y") (named (at 1 1) (codes "x")) 1
unfolding the_language the_readers
x_not = reads_to MOST_HEIGHT 1 "x ! y" _ _ refl refl

-- the tokens end too soon
x_plus : ExprFault MOST_HEIGHT 0 (of_line "x +") 2
unfolding the_language the_readers
x_plus = fault_at MOST_HEIGHT 2 "x +" _ refl refl

-- `!!x`, of height 3, is too high at the second `!` where 2 is the greatest height
not_not-too_high : ExprTooHigh 2 0 (of_line "!!x") 1
unfolding the_language the_readers
not_not-too_high = too_high_at 2 1 "!!x" _ refl refl

-- and it is read where 3 is
not_not-reads : ReadsExpr 3 0 (of_line "!!x") (negation (at 1 1) (negation (at 1 2) (named (at 1 3) (codes "x")))) 3
unfolding the_language the_readers
not_not-reads = reads_to 3 3 "!!x" _ _ refl refl

-- ---- whole texts

-- the tokens of a text
abbrev tokens_in : Result (List Token) TokenFault → List Token
tokens_in (Ok tokens) = tokens
tokens_in (Err fault) = []

-- a model has a language line: without a token, the fault stands at the end
no_model : HasSyntaxFault SpellsModel [] (at 1 1)
unfolding the_language the_readers tokens_of tokens_from token_at token_len place_at is_token
no_model = model_stopped [] [] [] [] Wrong (omega arith) refl refl refl

-- no statement before the language line
early_find : HasSyntaxFault SpellsModel (codes "find") (at 1 1)
unfolding the_language the_readers tokens_of tokens_from token_at token_len place_at is_token
early_find = model_stopped (codes "find") (tokens_in (tokens_of (codes "find"))) _ _ Wrong (omega arith) refl refl refl

-- no statement begins with `)`
line_closing : HasSyntaxFault SpellsModel (codes "language ESSENCE' 1.0\n)") (at 2 1)
unfolding the_language the_readers tokens_of tokens_from token_at token_len place_at is_token
line_closing = model_stopped (codes "language ESSENCE' 1.0\n)") (tokens_in (tokens_of (codes "language ESSENCE' 1.0\n)"))) _ _ Wrong (omega arith) refl refl refl
