-- Printed answers, read as parameter texts: each value has a letting.
use Rattle.std.specs.Prelude.{◌≡◌, ℕ, suc, ◌^◌, Bool, true, false, ◌&&◌, List, [], ◌∷◌, map, ℤ, pos, negsuc, IsTrue, length, nat_lt, if◌then◌else◌, Some, None}
use Rattle.std.specs.List.{All, list_all}
use Rattle.std.specs.Ordering.{int_eq}
use Rattle.ep_base.specs.Runs.{IsAscending}
use Rattle.ep_base.specs.TokenTexts.{is_name, is_word}
use Rattle.ep_tree.specs.Environments.{Env}
use Rattle.ep_tree.specs.Evaluation.{evaluate}
use Rattle.ep_tree.specs.Placeless.{SameButPlaces, somewhere}
use Rattle.ep_tree.specs.Solutions.{Assigned, NamedValue}
use Rattle.ep_tree.specs.StatementSpelling.{SpellsParams}
use Rattle.ep_tree.specs.Statements.{StatementTree, TextTree, letting}
use Rattle.ep_tree.specs.Texts.{SpellsText}
use Rattle.ep_tree.specs.Trees.{DomainTree, ExprTree, ExprTrees, Ranges, end_at, literal, minus, no_ranges, no_trees, number, one_and, over, ranges, span_and, tree_and, truth}
use Rattle.ep_tree.specs.TypedValues.{is_number_of}
use Rattle.ep_tree.specs.Types.{scalar_of}
use Rattle.ep_tree.specs.Values.{ValueTree, ValueTrees, listed_values, matrix, no_values, single, value_and}
use Rattle.ep_tree.specs.declared.values.Mode.{Mode}
use Rattle.ep_tree.specs.declared.values.Scalar.{Scalar}
use Rattle.ep_print.specs.Answers.{AnswerTree, answer_text, no_solution, optimum, solution, unknown, unknown_with}
use Rattle.ep_print.specs.Values.{Stretch, runs_of}

-- a whole number as an expression: before a negative one stands a minus sign
unfoldable pub number_expr : ℤ → ExprTree
number_expr (pos n) = number somewhere (pos n)
number_expr (negsuc n) = minus somewhere (number somewhere (pos (suc n)))

-- a run before other ranges: one number, or a first and a last one
unfoldable pub run_and : Stretch → Ranges → Ranges
run_and s rs =
    if int_eq s.first s.last then one_and (number_expr s.first) rs
    else span_and (end_at (number_expr s.first)) (end_at (number_expr s.last)) rs

-- runs as ranges
unfoldable pub run_ranges : List Stretch → Ranges
run_ranges [] = no_ranges
run_ranges (s ∷ ss) = run_and s (run_ranges ss)

-- the index domain of these indices; of none it is an empty range
unfoldable pub indices_domain : List ℤ → DomainTree
indices_domain [] =
    ranges somewhere (span_and (end_at (number somewhere (pos 1))) (end_at (number somewhere (pos 0))) no_ranges)
indices_domain (n ∷ ns) = ranges somewhere (run_ranges (runs_of (n ∷ ns)))

-- a number of a scalar as an expression
unfoldable pub scalar_expr : Scalar → ℤ → ExprTree
scalar_expr Scalar.Bool n = truth somewhere (int_eq n (pos 1))
scalar_expr Scalar.Int n = number_expr n

unfoldable mutual
  -- a value whose numbers are of a scalar, as an expression
  pub value_expr : Scalar → ValueTree → ExprTree
  value_expr s (single n) = scalar_expr s n
  value_expr s (matrix indices no_values) = literal somewhere no_trees (over (indices_domain []))
  value_expr s (matrix indices (value_and v vs)) =
      literal somewhere (tree_and (value_expr s v) (value_exprs s vs)) (over (indices_domain indices))

  -- the parts of a matrix
  pub value_exprs : Scalar → ValueTrees → ExprTrees
  value_exprs s no_values = no_trees
  value_exprs s (value_and v vs) = tree_and (value_expr s v) (value_exprs s vs)

-- the letting that gives a name its value
unfoldable pub letting_of : NamedValue → StatementTree
letting_of g = letting somewhere g.name somewhere None (value_expr (scalar_of g.ty) g.value)

-- the values that an answer has
unfoldable pub values_in : AnswerTree → Assigned
values_in (solution a) = a
values_in (optimum goal a) = a
values_in no_solution = []
values_in (unknown conflicts) = []
values_in (unknown_with conflicts goal a) = a

-- whether a number has at most 18 digits, as one in a text may
unfoldable pub has_few_digits : ℤ → Bool
has_few_digits (pos n) = nat_lt n (10 ^ 18)
has_few_digits (negsuc n) = nat_lt (suc n) (10 ^ 18)

unfoldable mutual
  -- whether each number in a value has at most 18 digits, and each index
  pub is_short_value : ValueTree → Bool
  is_short_value (single n) = has_few_digits n
  is_short_value (matrix indices parts) = list_all has_few_digits indices && are_short_values parts

  -- the same of each part of a matrix
  pub are_short_values : ValueTrees → Bool
  are_short_values no_values = true
  are_short_values (value_and v vs) = is_short_value v && are_short_values vs

-- A name and a value that a text can have: the name is one of the language, and no number has too many digits.
pub record CanBeWritten (g : NamedValue) : Type 0 where
  pub name : IsTrue (is_name g.name)
  pub no_word : is_word g.name ≡ false
  pub short : IsTrue (is_short_value g.value)

-- A text is a parameter text with these lettings, places aside.
pub record SpellsLettings (lettings : TextTree) (text : List ℕ) : Type 0 where
  pub tree : TextTree
  pub spelled : SpellsText SpellsParams tree text
  pub same : SameButPlaces tree lettings

-- the text of an answer is a parameter text that has a letting for each of its values
abbrev pub AnswerSpellsItsLettings : Type 0
AnswerSpellsItsLettings =
    (answer : AnswerTree) → All CanBeWritten (values_in answer)
    → SpellsLettings (map letting_of (values_in answer)) (answer_text answer)

abbrev mutual
  -- a value as an assignment has it: numbers of a scalar, and as many indices as parts in each matrix, which ascend
  pub IsInOrder : Scalar → ValueTree → Type 0
  IsInOrder s (single n) = IsTrue (is_number_of s n)
  IsInOrder s (matrix indices parts) =
      (length indices ≡ length (listed_values parts)) × IsAscending indices × AreInOrder s parts

  -- the same of each part of a matrix
  pub AreInOrder : Scalar → ValueTrees → Type 0
  AreInOrder s no_values = Unit {0}
  AreInOrder s (value_and v vs) = IsInOrder s v × AreInOrder s vs

-- the expression that stands for a value has that value, in either mode, whatever names stand for
abbrev pub ValueIsReadAgain : Type 0
ValueIsReadAgain =
    (mode : Mode) (env : Env) (s : Scalar) (v : ValueTree) → IsInOrder s v → evaluate mode env (value_expr s v) ≡ Some v
