use Rattle.std.proofs.Common.{◌≡◌, drop, false, IfSome, Ok}
use Rattle.ep_tree.specs.Views.{domain_tree, domains_of, expr_trees, generators_of, indices_of, ranges_of, terms_of}
use Rattle.ep_types.specs.Checking.{check_all, check_domain, check_domains, check_generators, check_indices, check_readings, check_terms}
use Rattle.ep_types.specs.Hiding.{Hides}
use Rattle.ep_types.specs.Meanings.{IsSame, names_context}
use Rattle.ep_types.proofs.Bounds.{Holds}
use Rattle.ep_types.proofs.Walks.{Goes, Reads}
use Rattle.ep_types.specs.Reading.{check_bounds}
use Rattle.ep_types.proofs.expressions.+checking.Given as goal

abbrev pub invariant-types_of-loop-part : goal.invariant-types_of-loop-part
invariant-types_of-loop-part l =
    IsSame l.initial.names l.names
    × Goes (check_all (names_context l.initial.names) l.decisions (expr_trees l.parts)) l.types.items (check_all (names_context l.initial.names) l.decisions (expr_trees (drop l.part-index l.parts)))

abbrev pub invariant-term_types-loop-term : goal.invariant-term_types-loop-term
invariant-term_types-loop-term l =
    IsSame l.initial.names l.names
    × Goes (check_terms (names_context l.initial.names) l.decisions (terms_of l.terms)) l.types.items (check_terms (names_context l.initial.names) l.decisions (terms_of (drop l.term-index l.terms)))

abbrev pub invariant-index_types-loop-index : goal.invariant-index_types-loop-index
invariant-index_types-loop-index l =
    IsSame l.initial.names l.names
    × Goes (check_indices (names_context l.initial.names) l.decisions (indices_of l.indices)) l.types.items (check_indices (names_context l.initial.names) l.decisions (indices_of (drop l.index-index l.indices)))

abbrev pub invariant-domain_types-loop-domain : goal.invariant-domain_types-loop-domain
invariant-domain_types-loop-domain l =
    IsSame l.initial.names l.names
    × Goes (check_domains (names_context l.initial.names) (domains_of l.domains)) l.types.items (check_domains (names_context l.initial.names) (domains_of (drop l.domain-index l.domains)))

abbrev pub invariant-all_bounds_are_integer-loop-range : goal.invariant-all_bounds_are_integer-loop-range
invariant-all_bounds_are_integer-loop-range l =
    IsSame l.initial.names l.names
    × Holds (check_bounds (names_context l.initial.names) (ranges_of l.ranges)) l.integer (check_bounds (names_context l.initial.names) (ranges_of (drop l.range-index l.ranges)))

abbrev pub invariant-read_domain-loop-name : goal.invariant-read_domain-loop-name
invariant-read_domain-loop-name l =
    Hides l.initial.names l.names
    × Reads (check_readings l.quantified (λ c. check_domain c false (domain_tree l.domain)) (names_context l.initial.names)) l.scalar (check_readings (drop l.name-index l.quantified) (λ c. check_domain c false (domain_tree l.domain)) (names_context l.names))
    × IfSome l.known (λ t. check_domain (names_context l.names) false (domain_tree l.domain) ≡ Ok t)

abbrev pub invariant-read_generators-loop-generator : goal.invariant-read_generators-loop-generator
invariant-read_generators-loop-generator l =
    Hides l.initial.names l.names
    × Reads (check_generators (names_context l.initial.names) (generators_of l.generators)) l.scalar (check_generators (names_context l.names) (generators_of (drop l.generator-index l.generators)))
