-- Trees that are equal but for their places.
use Rattle.std.specs.Prelude.{◌≡◌, map, option_map}
use Rattle.ep_base.specs.declared.names.Name.{Name}
use Rattle.ep_base.specs.declared.places.Place.{Place}
use Rattle.ep_tree.specs.Statements.{Group, StatementTree, TextTree, branching, constraints, decided, domain_letting, given, heuristic, letting, objective, requirements}
use Rattle.ep_tree.specs.Trees.{DomainTree, Domains, End, ExprTree, ExprTrees, Generators, IndexDomain, Indices, Ranges, Terms, absolute, all_different, all_of, any_of, at_least, at_most, binary, bool, chain, compare, comprehension, domain_and, end_at, every_and, factorial, flatten, folded, gcc, generator_and, group, group_domain, in_domain, in_set, index_and, int, lex, literal, matrix_domain, minus, named, named_domain, negation, no_domains, no_end, no_generators, no_indices, no_ranges, no_terms, no_trees, number, one_and, over, quantified, ranges, read, set_domain, span_and, table, term_and, to_int, tree_and, truth, unstated}

-- the one place that stands for all
abbrev pub somewhere : Place
somewhere = record { line = 1; column = 1 }

unfoldable mutual
  -- an expression with one place everywhere
  pub placeless : ExprTree → ExprTree
  placeless (number _ n) = number somewhere n
  placeless (truth _ b) = truth somewhere b
  placeless (named _ name) = named somewhere name
  placeless (group _ e) = group somewhere (placeless e)
  placeless (negation _ e) = negation somewhere (placeless e)
  placeless (minus _ e) = minus somewhere (placeless e)
  placeless (absolute _ e) = absolute somewhere (placeless e)
  placeless (to_int _ e) = to_int somewhere (placeless e)
  placeless (factorial _ e) = factorial somewhere (placeless e)
  placeless (flatten _ m) = flatten somewhere (placeless m)
  placeless (chain _ terms) = chain somewhere (placeless_terms terms)
  placeless (binary _ op a b) = binary somewhere op (placeless a) (placeless b)
  placeless (compare _ op a b) = compare somewhere op (placeless a) (placeless b)
  placeless (lex _ op a b) = lex somewhere op (placeless a) (placeless b)
  placeless (in_domain _ e d) = in_domain somewhere (placeless e) (placeless_domain d)
  placeless (in_set _ e m) = in_set somewhere (placeless e) (placeless m)
  placeless (all_of _ parts) = all_of somewhere (placeless_trees parts)
  placeless (any_of _ parts) = any_of somewhere (placeless_trees parts)
  placeless (quantified _ op names d e) = quantified somewhere op names (placeless_domain d) (placeless e)
  placeless (literal _ parts d) = literal somewhere (placeless_trees parts) (placeless_index d)
  placeless (comprehension _ e gens conditions d) =
      comprehension somewhere (placeless e) (placeless_generators gens) (placeless_trees conditions) (placeless_index d)
  placeless (read _ m indices) = read somewhere (placeless m) (placeless_indices indices)
  placeless (folded _ op m) = folded somewhere op (placeless m)
  placeless (all_different _ m) = all_different somewhere (placeless m)
  placeless (gcc _ m values counts) = gcc somewhere (placeless m) (placeless values) (placeless counts)
  placeless (at_least _ m counts values) = at_least somewhere (placeless m) (placeless counts) (placeless values)
  placeless (at_most _ m counts values) = at_most somewhere (placeless m) (placeless counts) (placeless values)
  placeless (table _ row rows) = table somewhere (placeless row) (placeless rows)

  -- a domain with one place everywhere
  pub placeless_domain : DomainTree → DomainTree
  placeless_domain (bool _) = bool somewhere
  placeless_domain (int _) = int somewhere
  placeless_domain (ranges _ rs) = ranges somewhere (placeless_ranges rs)
  placeless_domain (named_domain _ name) = named_domain somewhere name
  placeless_domain (group_domain _ d) = group_domain somewhere (placeless_domain d)
  placeless_domain (set_domain _ op c d) = set_domain somewhere op (placeless_domain c) (placeless_domain d)
  placeless_domain (matrix_domain _ ds d) = matrix_domain somewhere (placeless_domains ds) (placeless_domain d)

  -- the same of each of some expressions
  pub placeless_trees : ExprTrees → ExprTrees
  placeless_trees no_trees = no_trees
  placeless_trees (tree_and e es) = tree_and (placeless e) (placeless_trees es)

  -- the same of terms
  pub placeless_terms : Terms → Terms
  placeless_terms no_terms = no_terms
  placeless_terms (term_and plus e terms) = term_and plus (placeless e) (placeless_terms terms)

  -- the same of indices
  pub placeless_indices : Indices → Indices
  placeless_indices no_indices = no_indices
  placeless_indices (every_and indices) = every_and (placeless_indices indices)
  placeless_indices (index_and e indices) = index_and (placeless e) (placeless_indices indices)

  -- the same of ranges
  pub placeless_ranges : Ranges → Ranges
  placeless_ranges no_ranges = no_ranges
  placeless_ranges (one_and e rs) = one_and (placeless e) (placeless_ranges rs)
  placeless_ranges (span_and a b rs) = span_and (placeless_end a) (placeless_end b) (placeless_ranges rs)

  -- the same of an end of a range
  pub placeless_end : End → End
  placeless_end no_end = no_end
  placeless_end (end_at e) = end_at (placeless e)

  -- the same of domains
  pub placeless_domains : Domains → Domains
  placeless_domains no_domains = no_domains
  placeless_domains (domain_and d ds) = domain_and (placeless_domain d) (placeless_domains ds)

  -- the same of generators
  pub placeless_generators : Generators → Generators
  placeless_generators no_generators = no_generators
  placeless_generators (generator_and names d gens) =
      generator_and names (placeless_domain d) (placeless_generators gens)

  -- the same of the domain of indices
  pub placeless_index : IndexDomain → IndexDomain
  placeless_index unstated = unstated
  placeless_index (over d) = over (placeless_domain d)

-- a name with the one place
abbrev pub placeless_name : Name × Place → Name × Place
placeless_name name = (name.0, somewhere)

-- names that are declared together, with one place everywhere
unfoldable pub placeless_group : Group → Group
placeless_group g = record { names = map placeless_name g.names; domain = placeless_domain g.domain }

-- a statement with one place everywhere
unfoldable pub placeless_statement : StatementTree → StatementTree
placeless_statement (given _ groups) = given somewhere (map placeless_group groups)
placeless_statement (decided _ groups) = decided somewhere (map placeless_group groups)
placeless_statement (letting _ name _ d e) =
    letting somewhere name somewhere (option_map placeless_domain d) (placeless e)
placeless_statement (domain_letting _ name _ d) = domain_letting somewhere name somewhere (placeless_domain d)
placeless_statement (requirements _ es) = requirements somewhere (map placeless es)
placeless_statement (constraints _ es) = constraints somewhere (map placeless es)
placeless_statement (objective _ sense e) = objective somewhere sense (placeless e)
placeless_statement (branching _ names) = branching somewhere (map placeless_name names)
placeless_statement (heuristic _ name) = heuristic somewhere name

-- two texts are equal but for their places
abbrev pub SameButPlaces : TextTree → TextTree → Type 0
SameButPlaces one other = map placeless_statement one ≡ map placeless_statement other
