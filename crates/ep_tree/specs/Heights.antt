-- The height of a tree.
use Rattle.std.specs.Prelude.{ℕ, ◌+◌, max}
use Rattle.ep_tree.specs.Trees.{DomainTree, Domains, End, ExprTree, ExprTrees, Generators, IndexDomain, Indices, Ranges, Terms, absolute, all_different, all_of, any_of, at_least, at_most, binary, bool, chain, compare, comprehension, domain_and, end_at, every_and, factorial, flatten, folded, gcc, generator_and, group, group_domain, in_domain, in_set, index_and, int, lex, literal, matrix_domain, minus, named, named_domain, negation, no_domains, no_end, no_generators, no_indices, no_ranges, no_terms, no_trees, number, one_and, over, quantified, ranges, read, set_domain, span_and, table, term_and, to_int, tree_and, truth, unstated}

unfoldable mutual
  -- the height of an expression: one more than its highest part, or 1 where it has no part
  pub height : ExprTree → ℕ
  height (number _ _) = 1
  height (truth _ _) = 1
  height (named _ _) = 1
  height (group _ e) = 1 + height e
  height (negation _ e) = 1 + height e
  height (minus _ e) = 1 + height e
  height (absolute _ e) = 1 + height e
  height (to_int _ e) = 1 + height e
  height (factorial _ e) = 1 + height e
  height (flatten _ m) = 1 + height m
  height (chain _ terms) = 1 + highest_term terms
  height (binary _ _ a b) = 1 + max (height a) (height b)
  height (compare _ _ a b) = 1 + max (height a) (height b)
  height (lex _ _ a b) = 1 + max (height a) (height b)
  height (in_domain _ e d) = 1 + max (height e) (domain_height d)
  height (in_set _ e m) = 1 + max (height e) (height m)
  height (all_of _ parts) = 1 + highest parts
  height (any_of _ parts) = 1 + highest parts
  height (quantified _ _ _ d e) = 1 + max (domain_height d) (height e)
  height (literal _ parts d) = 1 + max (highest parts) (index_height d)
  height (comprehension _ e gens conditions d) =
      1 + max (max (height e) (highest_generator gens)) (max (highest conditions) (index_height d))
  height (read _ m indices) = 1 + max (height m) (highest_index indices)
  height (folded _ _ m) = 1 + height m
  height (all_different _ m) = 1 + height m
  height (gcc _ m values counts) = 1 + max (height m) (max (height values) (height counts))
  height (at_least _ m counts values) = 1 + max (height m) (max (height counts) (height values))
  height (at_most _ m counts values) = 1 + max (height m) (max (height counts) (height values))
  height (table _ row rows) = 1 + max (height row) (height rows)

  -- the height of a domain
  pub domain_height : DomainTree → ℕ
  domain_height (bool _) = 1
  domain_height (int _) = 1
  domain_height (ranges _ rs) = 1 + highest_range rs
  domain_height (named_domain _ _) = 1
  domain_height (group_domain _ d) = 1 + domain_height d
  domain_height (set_domain _ _ c d) = 1 + max (domain_height c) (domain_height d)
  domain_height (matrix_domain _ ds d) = 1 + max (highest_domain ds) (domain_height d)

  -- the height of the highest of some expressions, and 0 for none
  pub highest : ExprTrees → ℕ
  highest no_trees = 0
  highest (tree_and e es) = max (height e) (highest es)

  -- the same for the parts of a chain
  pub highest_term : Terms → ℕ
  highest_term no_terms = 0
  highest_term (term_and _ e terms) = max (height e) (highest_term terms)

  -- the same for indices, where `..` has the height 0
  pub highest_index : Indices → ℕ
  highest_index no_indices = 0
  highest_index (every_and indices) = highest_index indices
  highest_index (index_and e indices) = max (height e) (highest_index indices)

  -- the same for ranges, which are no nodes themselves
  pub highest_range : Ranges → ℕ
  highest_range no_ranges = 0
  highest_range (one_and e rs) = max (height e) (highest_range rs)
  highest_range (span_and a b rs) = max (max (end_height a) (end_height b)) (highest_range rs)

  -- the same for an end of a range, and 0 where it is left out
  pub end_height : End → ℕ
  end_height no_end = 0
  end_height (end_at e) = height e

  -- the same for domains
  pub highest_domain : Domains → ℕ
  highest_domain no_domains = 0
  highest_domain (domain_and d ds) = max (domain_height d) (highest_domain ds)

  -- the same for generators, which are no nodes themselves
  pub highest_generator : Generators → ℕ
  highest_generator no_generators = 0
  highest_generator (generator_and _ d gens) = max (domain_height d) (highest_generator gens)

  -- the same for the domain of indices, and 0 where it is left out
  pub index_height : IndexDomain → ℕ
  index_height unstated = 0
  index_height (over d) = domain_height d
