use Rattle.std.proofs.Common.{◌≡◌, ◌++◌, [], ◌∷◌, codes, drop, false}
use Rattle.ep_tree.specs.Views.{expr_trees, terms_of, indices_of, generators_of, domains_of, ranges_of}
use Rattle.ep_print.specs.Putting.{chain_from, continued, words_spaced}
use Rattle.ep_print.specs.Words.{all_domain_words, all_words, generator_words, index_words, range_words}
use Rattle.ep_print.proofs.expressions.+putting.Given as goal

abbrev pub invariant-push_parts-loop-part : goal.invariant-push_parts-loop-part
invariant-push_parts-loop-part l = l.text.items ++ words_spaced (continued (l.between ∷ []) l.started (all_words (expr_trees (drop l.part-index l.parts)))) ≡ l.initial.text.items ++ words_spaced (continued (l.between ∷ []) l.initial.started (all_words (expr_trees l.parts)))

abbrev pub invariant-push_indices-loop-index : goal.invariant-push_indices-loop-index
invariant-push_indices-loop-index l = l.text.items ++ words_spaced (continued (codes "," ∷ []) l.started (index_words (indices_of (drop l.index-index l.indices)))) ≡ l.initial.text.items ++ words_spaced (continued (codes "," ∷ []) false (index_words (indices_of l.indices)))

abbrev pub invariant-push_generators-loop-generator : goal.invariant-push_generators-loop-generator
invariant-push_generators-loop-generator l = l.text.items ++ words_spaced (continued (codes "," ∷ []) l.started (generator_words (generators_of (drop l.generator-index l.gens)))) ≡ l.initial.text.items ++ words_spaced (continued (codes "," ∷ []) false (generator_words (generators_of l.gens)))

abbrev pub invariant-push_domains-loop-domain : goal.invariant-push_domains-loop-domain
invariant-push_domains-loop-domain l = l.text.items ++ words_spaced (continued (codes "," ∷ []) l.started (all_domain_words (domains_of (drop l.domain-index l.domains)))) ≡ l.initial.text.items ++ words_spaced (continued (codes "," ∷ []) false (all_domain_words (domains_of l.domains)))

abbrev pub invariant-push_ranges-loop-range : goal.invariant-push_ranges-loop-range
invariant-push_ranges-loop-range l = l.text.items ++ words_spaced (continued (codes "," ∷ []) l.started (range_words (ranges_of (drop l.range-index l.ranges)))) ≡ l.initial.text.items ++ words_spaced (continued (codes "," ∷ []) false (range_words (ranges_of l.ranges)))

abbrev pub invariant-push_chain-loop-plus : goal.invariant-push_chain-loop-plus
invariant-push_chain-loop-plus l = l.text.items ++ words_spaced (chain_from l.started (terms_of (drop l.plus-index l.terms))) ≡ l.initial.text.items ++ words_spaced (chain_from false (terms_of l.terms))
