-- What stands behind the first part of a comparison.
use Rattle.std.specs.Prelude.{◌≡◌, ℕ, Bool, true, false, not, nat_lt, List, Option, Some, None, refl}
use Rattle.std.proofs.Common.{ap, ◌∙◌}
use Rattle.ep_parse_below.specs.Chains.{operator_behind, where_so}
use Rattle.ep_parse_parts.specs.OperandReaders.{Lower, if_low}
use Rattle.ep_parse_parts.specs.OperatorReaders.{Comparison, compared_with, comparison_behind, comparison_words, operated}
use Rattle.ep_parse_parts.specs.Readers.{Read, behind, if_some, next_in, took}
use Rattle.ep_tree.specs.Heights.{height}
use Rattle.ep_tree.specs.Phrases.{Lexeme}
use Rattle.ep_tree.specs.Spelling.{ends_open}
use Rattle.ep_tree.specs.Trees.{ExprTree}

by_test : {A : Type 0} (b : Bool) (o : Option A) (go : A → Read ExprTree) (other : Read ExprTree) → where_so b o ≡ None → if_some (operated b o go) (λ r. r) other ≡ other
by_test true None go other e = refl
by_test false None go other e = refl
by_test true (Some op) go other e = absurd cc
by_test false (Some op) go other e = refl

by_operator : {A : Type 0} (b : Bool) (o : Option A) (x : A) (go : A → Read ExprTree) (other : Read ExprTree) → where_so b o ≡ Some x → if_some (operated b o go) (λ r. r) other ≡ go x
by_operator true None x go other e = absurd cc
by_operator false None x go other e = absurd cc
by_operator {A} true (Some op) x go other e = ap (λ o. go (or_this o)) e
  where
    or_this : Option A → A
    or_this (Some z) = z
    or_this None = op
by_operator false (Some op) x go other e = absurd cc

pub compared_none : (most : ℕ) (low : Lower) (a : ExprTree) (ls : List Lexeme) → operator_behind comparison_words a ls ≡ None → comparison_behind most low a ls ≡ took a ls
unfolding comparison_behind operator_behind
compared_none most low a ls e =
    by_test (not (ends_open a)) (next_in comparison_words ls) (λ op. if_low (nat_lt (height a) most) (λ all. compared_with low a op (behind all)) ls) (took a ls) e

pub compared_some : (most : ℕ) (low : Lower) (a : ExprTree) (op : Comparison) (ls : List Lexeme) → operator_behind comparison_words a ls ≡ Some op
    → comparison_behind most low a ls ≡ if_low (nat_lt (height a) most) (λ all. compared_with low a op (behind all)) ls
unfolding comparison_behind operator_behind
compared_some most low a op ls e =
    by_operator (not (ends_open a)) (next_in comparison_words ls) op (λ op. if_low (nat_lt (height a) most) (λ all. compared_with low a op (behind all)) ls) (took a ls) e
