use Rattle.std.proofs.Common.{◌≡◌, take}
use Rattle.std.specs.Prelude.{map}
use Rattle.ep_tree.specs.Views.{domain_tree, expr_tree, with_range}
use Rattle.ep_copies.specs.Copied.{generator_view, index_view, term_view}
use Rattle.ep_copies.proofs.copying.+copying.Given as goal

abbrev pub invariant-copy_parts-loop-part : goal.invariant-copy_parts-loop-part
invariant-copy_parts-loop-part l = map expr_tree l.copies.items ≡ map expr_tree (take l.part-index l.parts)

abbrev pub invariant-copy_terms-loop-plus : goal.invariant-copy_terms-loop-plus
invariant-copy_terms-loop-plus l = map term_view l.copies.items ≡ map term_view (take l.plus-index l.terms)

abbrev pub invariant-copy_indices-loop-index : goal.invariant-copy_indices-loop-index
invariant-copy_indices-loop-index l = map index_view l.copies.items ≡ map index_view (take l.index-index l.indices)

abbrev pub invariant-copy_generators-loop-generator : goal.invariant-copy_generators-loop-generator
invariant-copy_generators-loop-generator l = map generator_view l.copies.items ≡ map generator_view (take l.generator-index l.gens)

abbrev pub invariant-copy_domains-loop-domain : goal.invariant-copy_domains-loop-domain
invariant-copy_domains-loop-domain l = map domain_tree l.copies.items ≡ map domain_tree (take l.domain-index l.domains)

abbrev pub invariant-copy_ranges-loop-range : goal.invariant-copy_ranges-loop-range
invariant-copy_ranges-loop-range l = map with_range l.copies.items ≡ map with_range (take l.range-index l.ranges)
