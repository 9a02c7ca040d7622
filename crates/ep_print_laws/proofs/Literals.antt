-- The words and symbols that a printed text has.
use Rattle.std.proofs.Common.{◌≡◌, ℕ, Bool, true, false, pos, codes, refl}
use Rattle.ep_base.specs.TokenTexts.{is_symbol, is_token, is_word, kind_of}
use Rattle.ep_base.specs.declared.operators.CompareOp.{CompareOp}
use Rattle.ep_base.specs.declared.operators.LexOp.{LexOp}
use Rattle.ep_base.specs.declared.operators.Sense.{Sense}
use Rattle.ep_tree.specs.Phrases.{a_number, saying_of}
use Rattle.ep_tree.specs.Spelling.{binary_word, compare_word, fold_word, lex_word, quantifier_word, set_word, sign_word, truth_word}
use Rattle.ep_tree.specs.declared.syntax.BinaryOp.{BinaryOp}
use Rattle.ep_tree.specs.declared.syntax.FoldOp.{FoldOp}
use Rattle.ep_tree.specs.declared.syntax.QuantOp.{QuantOp}
use Rattle.ep_tree.specs.declared.syntax.SetOp.{SetOp}
use Rattle.ep_print.specs.Words.{sense_word}
use Rattle.ep_print_laws.proofs.Respelled.{IsLiteral}
use Rattle.ep_print_laws.proofs.Said.{is_written}
use Rattle.ep_print_laws.proofs.Scanned.{word_saying}

-- a fact that says `unfolding the_tokens` computes with all of these
unfoldable pub the_tokens : ℕ
unfolding is_symbol is_token is_word kind_of saying_of
the_tokens = 0

pub open_round : IsLiteral "("
unfolding the_tokens
open_round = record { written = refl; says = refl }

pub close_round : IsLiteral ")"
unfolding the_tokens
close_round = record { written = refl; says = refl }

pub open_square : IsLiteral "["
unfolding the_tokens
open_square = record { written = refl; says = refl }

pub close_square : IsLiteral "]"
unfolding the_tokens
close_square = record { written = refl; says = refl }

pub comma : IsLiteral ","
unfolding the_tokens
comma = record { written = refl; says = refl }

pub semicolon : IsLiteral ";"
unfolding the_tokens
semicolon = record { written = refl; says = refl }

pub colon : IsLiteral ":"
unfolding the_tokens
colon = record { written = refl; says = refl }

pub dot : IsLiteral "."
unfolding the_tokens
dot = record { written = refl; says = refl }

pub dots : IsLiteral ".."
unfolding the_tokens
dots = record { written = refl; says = refl }

pub bar : IsLiteral "|"
unfolding the_tokens
bar = record { written = refl; says = refl }

pub bang : IsLiteral "!"
unfolding the_tokens
bang = record { written = refl; says = refl }

pub dash : IsLiteral "-"
unfolding the_tokens
dash = record { written = refl; says = refl }

pub both : IsLiteral "/\\"
unfolding the_tokens
both = record { written = refl; says = refl }

pub either : IsLiteral "\\/"
unfolding the_tokens
either = record { written = refl; says = refl }

pub in_word : IsLiteral "in"
unfolding the_tokens
in_word = record { written = refl; says = refl }

pub to_set : IsLiteral "toSet"
unfolding the_tokens
to_set = record { written = refl; says = refl }

pub to_int : IsLiteral "toInt"
unfolding the_tokens
to_int = record { written = refl; says = refl }

pub factorial : IsLiteral "factorial"
unfolding the_tokens
factorial = record { written = refl; says = refl }

pub flatten : IsLiteral "flatten"
unfolding the_tokens
flatten = record { written = refl; says = refl }

pub all_different : IsLiteral "allDiff"
unfolding the_tokens
all_different = record { written = refl; says = refl }

pub gcc : IsLiteral "gcc"
unfolding the_tokens
gcc = record { written = refl; says = refl }

pub at_least : IsLiteral "atleast"
unfolding the_tokens
at_least = record { written = refl; says = refl }

pub at_most : IsLiteral "atmost"
unfolding the_tokens
at_most = record { written = refl; says = refl }

pub table : IsLiteral "table"
unfolding the_tokens
table = record { written = refl; says = refl }

pub bool : IsLiteral "bool"
unfolding the_tokens
bool = record { written = refl; says = refl }

pub int : IsLiteral "int"
unfolding the_tokens
int = record { written = refl; says = refl }

pub matrix : IsLiteral "matrix"
unfolding the_tokens
matrix = record { written = refl; says = refl }

pub indexed : IsLiteral "indexed"
unfolding the_tokens
indexed = record { written = refl; says = refl }

pub by : IsLiteral "by"
unfolding the_tokens
by = record { written = refl; says = refl }

pub of_word : IsLiteral "of"
unfolding the_tokens
of_word = record { written = refl; says = refl }

pub language : IsLiteral "language"
unfolding the_tokens
language = record { written = refl; says = refl }

pub essence : IsLiteral "ESSENCE'"
unfolding the_tokens
essence = record { written = refl; says = refl }

pub given : IsLiteral "given"
unfolding the_tokens
given = record { written = refl; says = refl }

pub find : IsLiteral "find"
unfolding the_tokens
find = record { written = refl; says = refl }

pub letting : IsLiteral "letting"
unfolding the_tokens
letting = record { written = refl; says = refl }

pub be : IsLiteral "be"
unfolding the_tokens
be = record { written = refl; says = refl }

pub domain : IsLiteral "domain"
unfolding the_tokens
domain = record { written = refl; says = refl }

pub where_word : IsLiteral "where"
unfolding the_tokens
where_word = record { written = refl; says = refl }

pub such : IsLiteral "such"
unfolding the_tokens
such = record { written = refl; says = refl }

pub that : IsLiteral "that"
unfolding the_tokens
that = record { written = refl; says = refl }

pub branching : IsLiteral "branching"
unfolding the_tokens
branching = record { written = refl; says = refl }

pub on : IsLiteral "on"
unfolding the_tokens
on = record { written = refl; says = refl }

pub heuristic : IsLiteral "heuristic"
unfolding the_tokens
heuristic = record { written = refl; says = refl }

pub binary_literal : (op : BinaryOp) → IsLiteral (binary_word op)
unfolding binary_word the_tokens
binary_literal BinaryOp.Mul = record { written = refl; says = refl }
binary_literal BinaryOp.Div = record { written = refl; says = refl }
binary_literal BinaryOp.Mod = record { written = refl; says = refl }
binary_literal BinaryOp.Pow = record { written = refl; says = refl }
binary_literal BinaryOp.Min = record { written = refl; says = refl }
binary_literal BinaryOp.Max = record { written = refl; says = refl }
binary_literal BinaryOp.Implies = record { written = refl; says = refl }
binary_literal BinaryOp.Iff = record { written = refl; says = refl }

pub compare_literal : (op : CompareOp) → IsLiteral (compare_word op)
unfolding compare_word the_tokens
compare_literal CompareOp.Equal = record { written = refl; says = refl }
compare_literal CompareOp.NotEqual = record { written = refl; says = refl }
compare_literal CompareOp.Less = record { written = refl; says = refl }
compare_literal CompareOp.AtMost = record { written = refl; says = refl }
compare_literal CompareOp.Greater = record { written = refl; says = refl }
compare_literal CompareOp.AtLeast = record { written = refl; says = refl }

pub lex_literal : (op : LexOp) → IsLiteral (lex_word op)
unfolding lex_word the_tokens
lex_literal LexOp.Less = record { written = refl; says = refl }
lex_literal LexOp.AtMost = record { written = refl; says = refl }
lex_literal LexOp.Greater = record { written = refl; says = refl }
lex_literal LexOp.AtLeast = record { written = refl; says = refl }

pub quantifier_literal : (op : QuantOp) → IsLiteral (quantifier_word op)
unfolding quantifier_word the_tokens
quantifier_literal QuantOp.ForAll = record { written = refl; says = refl }
quantifier_literal QuantOp.Exists = record { written = refl; says = refl }
quantifier_literal QuantOp.Sum = record { written = refl; says = refl }

pub fold_literal : (op : FoldOp) → IsLiteral (fold_word op)
unfolding fold_word the_tokens
fold_literal FoldOp.Sum = record { written = refl; says = refl }
fold_literal FoldOp.Product = record { written = refl; says = refl }
fold_literal FoldOp.And = record { written = refl; says = refl }
fold_literal FoldOp.Or = record { written = refl; says = refl }
fold_literal FoldOp.Min = record { written = refl; says = refl }
fold_literal FoldOp.Max = record { written = refl; says = refl }

pub set_literal : (op : SetOp) → IsLiteral (set_word op)
unfolding set_word the_tokens
set_literal SetOp.Union = record { written = refl; says = refl }
set_literal SetOp.Intersect = record { written = refl; says = refl }
set_literal SetOp.Minus = record { written = refl; says = refl }

pub sense_literal : (op : Sense) → IsLiteral (sense_word op)
unfolding sense_word the_tokens
sense_literal Sense.Minimising = record { written = refl; says = refl }
sense_literal Sense.Maximising = record { written = refl; says = refl }

pub sign_literal : (op : Bool) → IsLiteral (sign_word op)
unfolding sign_word the_tokens
sign_literal true = record { written = refl; says = refl }
sign_literal false = record { written = refl; says = refl }

pub truth_literal : (op : Bool) → IsLiteral (truth_word op)
unfolding truth_word the_tokens
truth_literal true = record { written = refl; says = refl }
truth_literal false = record { written = refl; says = refl }

-- a digit that the language line has
pub record IsDigitOf (n : ℕ) (w : _) : Type 0 where
  pub written : is_written w ≡ true
  pub says : word_saying w ≡ a_number (pos n)

pub one_digit : IsDigitOf 1 (codes "1")
unfolding the_tokens
one_digit = record { written = refl; says = refl }

pub zero_digit : IsDigitOf 0 (codes "0")
unfolding the_tokens
zero_digit = record { written = refl; says = refl }
