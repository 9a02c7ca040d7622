use Rattle.ep_eval.proofs.Words.{◌≡◌, ◌&&◌, drop, option_map, map_both, context_in, inside_names, readings, with_typed, env_in, context_of, all_typed, inside_all, judge_all, judge_domains, judge_generators, judge_indices, judge_ranges, judge_terms, domain_tree, domains_of, expr_trees, generators_of, indices_of, ranges_of, terms_of, all_pass, Wanted}
use Rattle.ep_eval.proofs.DomainTypes.{joined_types}
use Rattle.ep_eval.proofs.judging.+judging.Given as goal

abbrev pub invariant-parts_fit-loop-part : goal.invariant-parts_fit-loop-part
invariant-parts_fit-loop-part l =
    all_pass Wanted.Boolean (judge_all (context_in l.within) (expr_trees l.parts))
    ≡ map_both (λ a b. a && b) l.holds (all_pass Wanted.Boolean (judge_all (context_in l.within) (expr_trees (drop l.part-index l.parts))))

abbrev pub invariant-terms_fit-loop-term : goal.invariant-terms_fit-loop-term
invariant-terms_fit-loop-term l =
    all_pass Wanted.Integer (judge_terms (context_in l.within) (terms_of l.terms))
    ≡ map_both (λ a b. a && b) l.holds (all_pass Wanted.Integer (judge_terms (context_in l.within) (terms_of (drop l.term-index l.terms))))

abbrev pub invariant-indices_fit-loop-index : goal.invariant-indices_fit-loop-index
invariant-indices_fit-loop-index l =
    all_pass Wanted.Integer (judge_indices (context_in l.within) (indices_of l.indices))
    ≡ map_both (λ a b. a && b) l.holds (all_pass Wanted.Integer (judge_indices (context_in l.within) (indices_of (drop l.index-index l.indices))))

abbrev pub invariant-types_of-loop-part : goal.invariant-types_of-loop-part
invariant-types_of-loop-part l =
    all_typed (judge_all (context_in l.within) (expr_trees l.parts))
    ≡ joined_types (option_map (λ v. v.items) l.types) (all_typed (judge_all (context_in l.within) (expr_trees (drop l.part-index l.parts))))

abbrev pub invariant-domains_fit-loop-domain : goal.invariant-domains_fit-loop-domain
invariant-domains_fit-loop-domain l =
    all_pass Wanted.Integer (judge_domains (context_in l.within) (domains_of l.domains))
    ≡ map_both (λ a b. a && b) l.holds (all_pass Wanted.Integer (judge_domains (context_in l.within) (domains_of (drop l.domain-index l.domains))))

abbrev pub invariant-ranges_fit-loop-range : goal.invariant-ranges_fit-loop-range
invariant-ranges_fit-loop-range l =
    all_pass Wanted.Integer (judge_ranges (context_in l.within) (ranges_of l.ranges))
    ≡ map_both (λ a b. a && b) l.holds (all_pass Wanted.Integer (judge_ranges (context_in l.within) (ranges_of (drop l.range-index l.ranges))))

abbrev pub invariant-names_typed-loop-name : goal.invariant-names_typed-loop-name
invariant-names_typed-loop-name l =
    (all_pass Wanted.Integer (readings (context_in l.within) l.names (domain_tree l.domain))
    ≡ all_pass Wanted.Integer (readings (with_typed l.typed.items (context_of (env_in l.within.scope))) (drop l.name-index l.names) (domain_tree l.domain)))
    × (inside_names (context_in l.within) l.names (domain_tree l.domain)
    ≡ inside_names (with_typed l.typed.items (context_of (env_in l.within.scope))) (drop l.name-index l.names) (domain_tree l.domain))

abbrev pub invariant-generators_typed-loop-generator : goal.invariant-generators_typed-loop-generator
invariant-generators_typed-loop-generator l =
    (all_pass Wanted.Integer (judge_generators (context_in l.within) (generators_of l.generators))
    ≡ all_pass Wanted.Integer (judge_generators (with_typed l.typed.items (context_of (env_in l.within.scope))) (generators_of (drop l.generator-index l.generators))))
    × (inside_all (generators_of l.generators) (context_in l.within)
    ≡ inside_all (generators_of (drop l.generator-index l.generators)) (with_typed l.typed.items (context_of (env_in l.within.scope))))
