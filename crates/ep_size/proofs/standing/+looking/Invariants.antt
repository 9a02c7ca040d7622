use Rattle.ep_size.proofs.Words.{◌≡◌, ◌&&◌, drop, decisions_in, domains_of, expr_trees, generators_of, indices_of, ranges_of, terms_of, env_in, are_free_domains, are_free_generators, are_free_ranges, both, standing_of_all, standing_of_indices, standing_of_terms, hidden_without}
use Rattle.ep_size.proofs.standing.+looking.Given as goal

abbrev pub invariant-of_all-loop-part : goal.invariant-of_all-loop-part
invariant-of_all-loop-part l =
    let f = hidden_without (decisions_in (env_in l.scope)) l.hidden in
    both l.all (standing_of_all f (expr_trees (drop l.part-index l.parts))) ≡ standing_of_all f (expr_trees l.parts)

abbrev pub invariant-of_terms-loop-term : goal.invariant-of_terms-loop-term
invariant-of_terms-loop-term l =
    let f = hidden_without (decisions_in (env_in l.scope)) l.hidden in
    both l.all (standing_of_terms f (terms_of (drop l.term-index l.terms))) ≡ standing_of_terms f (terms_of l.terms)

abbrev pub invariant-of_indices-loop-index : goal.invariant-of_indices-loop-index
invariant-of_indices-loop-index l =
    let f = hidden_without (decisions_in (env_in l.scope)) l.hidden in
    both l.all (standing_of_indices f (indices_of (drop l.index-index l.indices))) ≡ standing_of_indices f (indices_of l.indices)

abbrev pub invariant-are_free_ranges-loop-range : goal.invariant-are_free_ranges-loop-range
invariant-are_free_ranges-loop-range l =
    let f = hidden_without (decisions_in (env_in l.scope)) l.hidden in
    (l.all && are_free_ranges f (ranges_of (drop l.range-index l.ranges))) ≡ are_free_ranges f (ranges_of l.ranges)

abbrev pub invariant-are_free_domains-loop-domain : goal.invariant-are_free_domains-loop-domain
invariant-are_free_domains-loop-domain l =
    let f = hidden_without (decisions_in (env_in l.scope)) l.hidden in
    (l.all && are_free_domains f (domains_of (drop l.domain-index l.domains))) ≡ are_free_domains f (domains_of l.domains)

abbrev pub invariant-are_free_generators-loop-generator : goal.invariant-are_free_generators-loop-generator
invariant-are_free_generators-loop-generator l =
    let f = hidden_without (decisions_in (env_in l.scope)) l.hidden in
    (l.all && are_free_generators f (generators_of (drop l.generator-index l.generators))) ≡ are_free_generators f (generators_of l.generators)
