-- Expressions in which no decision variable stands anywhere, neither in a domain nor in a condition.
use Rattle.std.specs.Prelude.{Bool, true, not, ◌&&◌}
use Rattle.ep_base.specs.declared.names.Name.{Name}
use Rattle.ep_tree.specs.Reach.{generator_names, hiding}
use Rattle.ep_tree.specs.Trees.{DomainTree, Domains, End, ExprTree, ExprTrees, Generators, IndexDomain, Indices, Ranges, Terms, absolute, all_different, all_of, any_of, at_least, at_most, binary, bool, chain, compare, comprehension, domain_and, end_at, every_and, factorial, flatten, folded, gcc, generator_and, group, group_domain, in_domain, in_set, index_and, int, lex, literal, matrix_domain, minus, named, named_domain, negation, no_domains, no_end, no_generators, no_indices, no_ranges, no_terms, no_trees, number, one_and, over, quantified, ranges, read, set_domain, span_and, table, term_and, to_int, tree_and, truth, unstated}

unfoldable mutual
  -- whether none of the names that a test tells stands in an expression
  pub is_free : (Name → Bool) → ExprTree → Bool
  is_free decided (number _ _) = true
  is_free decided (truth _ _) = true
  is_free decided (named _ name) = not (decided name)
  is_free decided (group _ e) = is_free decided e
  is_free decided (negation _ e) = is_free decided e
  is_free decided (minus _ e) = is_free decided e
  is_free decided (absolute _ e) = is_free decided e
  is_free decided (to_int _ e) = is_free decided e
  is_free decided (factorial _ e) = is_free decided e
  is_free decided (flatten _ m) = is_free decided m
  is_free decided (chain _ terms) = are_free_terms decided terms
  is_free decided (binary _ _ a b) = is_free decided a && is_free decided b
  is_free decided (compare _ _ a b) = is_free decided a && is_free decided b
  is_free decided (lex _ _ a b) = is_free decided a && is_free decided b
  is_free decided (in_domain _ e d) = is_free decided e && is_free_domain decided d
  is_free decided (in_set _ e m) = is_free decided e && is_free decided m
  is_free decided (all_of _ parts) = are_free decided parts
  is_free decided (any_of _ parts) = are_free decided parts
  is_free decided (quantified _ _ names d e) = is_free_domain decided d && is_free (hiding names decided) e
  is_free decided (literal _ parts d) = are_free decided parts && is_free_index decided d
  is_free decided (comprehension _ e gens conditions d) =
      are_free_generators decided gens && are_free (hiding (generator_names gens) decided) conditions
      && (is_free (hiding (generator_names gens) decided) e && is_free_index decided d)
  is_free decided (read _ m indices) = is_free decided m && are_free_indices decided indices
  is_free decided (folded _ _ m) = is_free decided m
  is_free decided (all_different _ m) = is_free decided m
  is_free decided (gcc _ m values counts) = is_free decided m && is_free decided values && is_free decided counts
  is_free decided (at_least _ m counts values) = is_free decided m && is_free decided counts && is_free decided values
  is_free decided (at_most _ m counts values) = is_free decided m && is_free decided counts && is_free decided values
  is_free decided (table _ row rows) = is_free decided row && is_free decided rows

  -- whether none stands in a domain
  pub is_free_domain : (Name → Bool) → DomainTree → Bool
  is_free_domain decided (bool _) = true
  is_free_domain decided (int _) = true
  is_free_domain decided (ranges _ rs) = are_free_ranges decided rs
  is_free_domain decided (named_domain _ _) = true
  is_free_domain decided (group_domain _ d) = is_free_domain decided d
  is_free_domain decided (set_domain _ _ c d) = is_free_domain decided c && is_free_domain decided d
  is_free_domain decided (matrix_domain _ ds d) = are_free_domains decided ds && is_free_domain decided d

  -- nor in some expressions
  pub are_free : (Name → Bool) → ExprTrees → Bool
  are_free decided no_trees = true
  are_free decided (tree_and e es) = is_free decided e && are_free decided es

  -- nor in the terms of a chain
  pub are_free_terms : (Name → Bool) → Terms → Bool
  are_free_terms decided no_terms = true
  are_free_terms decided (term_and _ e terms) = is_free decided e && are_free_terms decided terms

  -- nor in the indices of a read
  pub are_free_indices : (Name → Bool) → Indices → Bool
  are_free_indices decided no_indices = true
  are_free_indices decided (every_and indices) = are_free_indices decided indices
  are_free_indices decided (index_and e indices) = is_free decided e && are_free_indices decided indices

  -- nor in some ranges
  pub are_free_ranges : (Name → Bool) → Ranges → Bool
  are_free_ranges decided no_ranges = true
  are_free_ranges decided (one_and e rs) = is_free decided e && are_free_ranges decided rs
  are_free_ranges decided (span_and a b rs) = is_free_end decided a && is_free_end decided b && are_free_ranges decided rs

  -- nor at the end of a range
  pub is_free_end : (Name → Bool) → End → Bool
  is_free_end decided no_end = true
  is_free_end decided (end_at e) = is_free decided e

  -- nor in some domains
  pub are_free_domains : (Name → Bool) → Domains → Bool
  are_free_domains decided no_domains = true
  are_free_domains decided (domain_and d ds) = is_free_domain decided d && are_free_domains decided ds

  -- nor in the domain of a list's indices
  pub is_free_index : (Name → Bool) → IndexDomain → Bool
  is_free_index decided unstated = true
  is_free_index decided (over d) = is_free_domain decided d

  -- nor in the domains of some generators
  pub are_free_generators : (Name → Bool) → Generators → Bool
  are_free_generators decided no_generators = true
  are_free_generators decided (generator_and _ d gens) = is_free_domain decided d && are_free_generators decided gens
