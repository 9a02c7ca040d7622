-- Expressions and domains as plain trees.
--
-- The definitions of the language stand over these trees. They have what the program's own trees have, the place of
-- the first token of each expression and domain among it, but no pointers and no capacities.
use Rattle.std.specs.Prelude.{Bool, List, ℤ}
use Rattle.ep_base.specs.declared.names.Name.{Name}
use Rattle.ep_base.specs.declared.operators.CompareOp.{CompareOp}
use Rattle.ep_base.specs.declared.operators.LexOp.{LexOp}
use Rattle.ep_base.specs.declared.places.Place.{Place}
use Rattle.ep_tree.specs.declared.syntax.BinaryOp.{BinaryOp}
use Rattle.ep_tree.specs.declared.syntax.FoldOp.{FoldOp}
use Rattle.ep_tree.specs.declared.syntax.QuantOp.{QuantOp}
use Rattle.ep_tree.specs.declared.syntax.SetOp.{SetOp}

mutual
  -- an expression
  pub data ExprTree : Type 0 where
    number : Place → ℤ → ExprTree
    truth : Place → Bool → ExprTree
    named : Place → Name → ExprTree
    group : Place → ExprTree → ExprTree
    negation : Place → ExprTree → ExprTree
    minus : Place → ExprTree → ExprTree
    absolute : Place → ExprTree → ExprTree
    to_int : Place → ExprTree → ExprTree
    factorial : Place → ExprTree → ExprTree
    flatten : Place → ExprTree → ExprTree
    chain : Place → Terms → ExprTree
    binary : Place → BinaryOp → ExprTree → ExprTree → ExprTree
    compare : Place → CompareOp → ExprTree → ExprTree → ExprTree
    lex : Place → LexOp → ExprTree → ExprTree → ExprTree
    in_domain : Place → ExprTree → DomainTree → ExprTree
    in_set : Place → ExprTree → ExprTree → ExprTree
    all_of : Place → ExprTrees → ExprTree
    any_of : Place → ExprTrees → ExprTree
    quantified : Place → QuantOp → List Name → DomainTree → ExprTree → ExprTree
    literal : Place → ExprTrees → IndexDomain → ExprTree
    comprehension : Place → ExprTree → Generators → ExprTrees → IndexDomain → ExprTree
    read : Place → ExprTree → Indices → ExprTree
    folded : Place → FoldOp → ExprTree → ExprTree
    all_different : Place → ExprTree → ExprTree
    gcc : Place → ExprTree → ExprTree → ExprTree → ExprTree
    at_least : Place → ExprTree → ExprTree → ExprTree → ExprTree
    at_most : Place → ExprTree → ExprTree → ExprTree → ExprTree
    table : Place → ExprTree → ExprTree → ExprTree

  -- a domain
  pub data DomainTree : Type 0 where
    bool : Place → DomainTree
    int : Place → DomainTree
    ranges : Place → Ranges → DomainTree
    named_domain : Place → Name → DomainTree
    group_domain : Place → DomainTree → DomainTree
    set_domain : Place → SetOp → DomainTree → DomainTree → DomainTree
    matrix_domain : Place → Domains → DomainTree → DomainTree

  -- expressions in their order
  pub data ExprTrees : Type 0 where
    no_trees : ExprTrees
    tree_and : ExprTree → ExprTrees → ExprTrees

  -- the parts of a chain of sums, each with whether it is added rather than taken away
  pub data Terms : Type 0 where
    no_terms : Terms
    term_and : Bool → ExprTree → Terms → Terms

  -- the indices of a read, where `every_and` stands for `..`
  pub data Indices : Type 0 where
    no_indices : Indices
    every_and : Indices → Indices
    index_and : ExprTree → Indices → Indices

  -- the ranges of an `int` domain: one number, or all from one end to another
  pub data Ranges : Type 0 where
    no_ranges : Ranges
    one_and : ExprTree → Ranges → Ranges
    span_and : End → End → Ranges → Ranges

  -- an end of a range, which may be left out
  pub data End : Type 0 where
    no_end : End
    end_at : ExprTree → End

  -- domains in their order
  pub data Domains : Type 0 where
    no_domains : Domains
    domain_and : DomainTree → Domains → Domains

  -- the generators of a comprehension: names, and the domain whose values they take
  pub data Generators : Type 0 where
    no_generators : Generators
    generator_and : List Name → DomainTree → Generators → Generators

  -- the domain of a list's indices, which may be left out
  pub data IndexDomain : Type 0 where
    unstated : IndexDomain
    over : DomainTree → IndexDomain

-- the place of an expression's first token
unfoldable pub place_of : ExprTree → Place
place_of (number p _) = p
place_of (truth p _) = p
place_of (named p _) = p
place_of (group p _) = p
place_of (negation p _) = p
place_of (minus p _) = p
place_of (absolute p _) = p
place_of (to_int p _) = p
place_of (factorial p _) = p
place_of (flatten p _) = p
place_of (chain p _) = p
place_of (binary p _ _ _) = p
place_of (compare p _ _ _) = p
place_of (lex p _ _ _) = p
place_of (in_domain p _ _) = p
place_of (in_set p _ _) = p
place_of (all_of p _) = p
place_of (any_of p _) = p
place_of (quantified p _ _ _ _) = p
place_of (literal p _ _) = p
place_of (comprehension p _ _ _ _) = p
place_of (read p _ _) = p
place_of (folded p _ _) = p
place_of (all_different p _) = p
place_of (gcc p _ _ _) = p
place_of (at_least p _ _ _) = p
place_of (at_most p _ _ _) = p
place_of (table p _ _) = p

-- the place of a domain
unfoldable pub place_of_domain : DomainTree → Place
place_of_domain (bool p) = p
place_of_domain (int p) = p
place_of_domain (ranges p _) = p
place_of_domain (named_domain p _) = p
place_of_domain (group_domain p _) = p
place_of_domain (set_domain p _ _ _) = p
place_of_domain (matrix_domain p _ _) = p
