-- What an expression is made of, as a tree again.
use Rattle.std.specs.Prelude.{Bool, true, false, List, Option, Some, None}
use Rattle.std.specs.declared.alloc.Global.{Global}
use Rattle.std.specs.declared.boxed.Box.{Box}
use Rattle.ep_base.specs.declared.names.Name.{Name}
use Rattle.ep_base.specs.declared.places.Place.{Place}
use Rattle.ep_tree.specs.Trees.{ExprTree, ExprTrees, IndexDomain, absolute, all_different, all_of, any_of, at_least, at_most, binary, chain, compare, comprehension, factorial, flatten, folded, gcc, group, in_domain, in_set, lex, literal, minus, named, negation, number, over, quantified, read, table, to_int, truth, unstated}
use Rattle.ep_tree.specs.Views.{domain_tree, expr_tree, expr_trees, generators_of, indices_of, terms_of}
use Rattle.ep_tree.specs.declared.syntax.Domain.{Domain}
use Rattle.ep_forms.specs.declared.forms.CountOp.{CountOp}
use Rattle.ep_forms.specs.declared.forms.Form.{Form}
use Rattle.ep_forms.specs.declared.forms.Form.TheVariants.{Number, Truth, Named, One, Two, Counts, Truths, Chain, InDomain, Quant, Literal, Comprehension, Read}
use Rattle.ep_forms.specs.declared.forms.OneOp.{OneOp}
use Rattle.ep_forms.specs.declared.forms.OneOp.TheVariants.{Group, Not, Neg, Abs, ToInt, Factorial, Flatten, AllDiff, Fold}
use Rattle.ep_forms.specs.declared.forms.Quantifier.{Quantifier}
use Rattle.ep_forms.specs.declared.forms.TwoOp.{TwoOp}
use Rattle.ep_forms.specs.declared.forms.TwoOp.TheVariants.{Binary, Compare, Lex, InSet, Table}

-- a node with one part
unfoldable pub one_node : Place → OneOp → ExprTree → ExprTree
one_node p Group e = group p e
one_node p Not e = negation p e
one_node p Neg e = minus p e
one_node p Abs e = absolute p e
one_node p ToInt e = to_int p e
one_node p Factorial e = factorial p e
one_node p Flatten e = flatten p e
one_node p AllDiff e = all_different p e
one_node p (Fold op) e = folded p op e

-- a node with two parts
unfoldable pub two_node : Place → TwoOp → ExprTree → ExprTree → ExprTree
two_node p (Binary op) a b = binary p op a b
two_node p (Compare op) a b = compare p op a b
two_node p (Lex op) a b = lex p op a b
two_node p InSet a b = in_set p a b
two_node p Table a b = table p a b

-- a node that counts: a matrix with two lists in the order of the text
unfoldable pub counts_node : Place → CountOp → ExprTree → ExprTree → ExprTree → ExprTree
counts_node p CountOp.Gcc m a b = gcc p m a b
counts_node p CountOp.AtLeast m a b = at_least p m a b
counts_node p CountOp.AtMost m a b = at_most p m a b

-- a chain of `/\`, or one of `\/`
unfoldable pub truths_node : Place → Bool → ExprTrees → ExprTree
truths_node p true parts = all_of p parts
truths_node p false parts = any_of p parts

-- a quantifier over some names
abbrev pub quantified_tree : Place → Quantifier → List Name → ExprTree
quantified_tree p q names = quantified p q.op names (domain_tree q.domain.now) (expr_tree q.body.now)

-- the domain of a list's indices, where one is stated
unfoldable pub index_at : Option (Box Domain Global) → IndexDomain
index_at None = unstated
index_at (Some d) = over (domain_tree d.value)

-- an expression of this form at a place
unfoldable pub form_tree : Place → Form → ExprTree
form_tree p (Number n) = number p n
form_tree p (Truth b) = truth p b
form_tree p (Named name) = named p name.now
form_tree p (One op e) = one_node p op (expr_tree e.now)
form_tree p (Two op a b) = two_node p op (expr_tree a.now) (expr_tree b.now)
form_tree p (Counts op m a b) = counts_node p op (expr_tree m.now) (expr_tree a.now) (expr_tree b.now)
form_tree p (Truths every parts) = truths_node p every (expr_trees parts.now)
form_tree p (Chain terms) = chain p (terms_of terms.now)
form_tree p (InDomain e d) = in_domain p (expr_tree e.now) (domain_tree d.now)
form_tree p (Quant q names) = quantified_tree p q names.now
form_tree p (Literal parts d) = literal p (expr_trees parts.now) (index_at d.now)
form_tree p (Comprehension l gens d) =
    comprehension p (expr_tree l.body.now) (generators_of gens.now) (expr_trees l.conditions.now) (index_at d.now)
form_tree p (Read m indices) = read p (expr_tree m.now) (indices_of indices.now)
