use Rattle.std.proofs.Common.{ap, inl, inr, refl, sym, ◌∙◌, arith}
use Rattle.std.specs.Prelude.{Some, map}
use Rattle.ep_tree.specs.Views.{domain_tree, domains_of, expr_tree, expr_trees, generators_of, indices_of, ranges_of, terms_of, with_range}
use Rattle.ep_copies.specs.Copied.{generator_view, index_view, term_view}
use Rattle.ep_copies.proofs.Lists.{domains_gather, gathers_same, generators_gather, indices_gather, map_more, pair_same, parts_gather, ranges_gather, terms_gather}
use Rattle.ep_copies.proofs.Same.{same_absolute, same_all_different, same_all_of, same_any_of, same_at_least, same_at_most, same_binary, same_chain, same_compare, same_comprehension, same_factorial, same_flatten, same_folded, same_gcc, same_group, same_group_domain, same_in_domain, same_in_set, same_lex, same_literal, same_matrix, same_minus, same_named, same_named_domain, same_negation, same_one, same_quantified, same_ranges, same_read, same_set, same_span, same_table, same_to_int}
use Rattle.ep_copies.proofs.copying.+copying.Goals as goal

pub copy_around-returns-in_ok-part-in-Group : goal.copy_around-returns-in_ok-part-in-Group
copy_around-returns-in_ok-part-in-Group t c =
    same_group _ _ _ _ c.in-Group.is (c.in_ok-part-in-Group.ensures ∙ ap expr_tree c.deref.ensures)

pub copy_around-returns-in_ok-part-in-Not : goal.copy_around-returns-in_ok-part-in-Not
copy_around-returns-in_ok-part-in-Not t c =
    same_negation _ _ _ _ c.in-Not.is (c.in_ok-part-in-Not.ensures ∙ ap expr_tree c.deref-in-Not.ensures)

pub copy_around-returns-in_ok-part-in-Neg : goal.copy_around-returns-in_ok-part-in-Neg
copy_around-returns-in_ok-part-in-Neg t c =
    same_minus _ _ _ _ c.in-Neg.is (c.in_ok-part-in-Neg.ensures ∙ ap expr_tree c.deref-in-Neg.ensures)

pub copy_around-returns-in_ok-part-in-Abs : goal.copy_around-returns-in_ok-part-in-Abs
copy_around-returns-in_ok-part-in-Abs t c =
    same_absolute _ _ _ _ c.in-Abs.is (c.in_ok-part-in-Abs.ensures ∙ ap expr_tree c.deref-in-Abs.ensures)

pub copy_around-returns-in_ok-part-in-ToInt : goal.copy_around-returns-in_ok-part-in-ToInt
copy_around-returns-in_ok-part-in-ToInt t c =
    same_to_int _ _ _ _ c.in-ToInt.is (c.in_ok-part-in-ToInt.ensures ∙ ap expr_tree c.deref-in-ToInt.ensures)

pub copy_around-returns-in_ok-part-in-Factorial : goal.copy_around-returns-in_ok-part-in-Factorial
copy_around-returns-in_ok-part-in-Factorial t c =
    same_factorial _ _ _ _ c.in-Factorial.is (c.in_ok-part-in-Factorial.ensures ∙ ap expr_tree c.deref-in-Factorial.ensures)

pub copy_around-returns-in_ok-part-in-Flatten : goal.copy_around-returns-in_ok-part-in-Flatten
copy_around-returns-in_ok-part-in-Flatten t c =
    same_flatten _ _ _ _ c.in-Flatten.is (c.in_ok-part-in-Flatten.ensures ∙ ap expr_tree c.deref-in-Flatten.ensures)

pub copy_around-returns-in_ok-part-in-Fold : goal.copy_around-returns-in_ok-part-in-Fold
copy_around-returns-in_ok-part-in-Fold t c =
    same_folded _ _ _ _ _ c.in-Fold.is (c.in_ok-part-in-Fold.ensures ∙ ap expr_tree c.deref-in-Fold.ensures)

pub copy_around-returns-in_ok-part-in-AllDiff : goal.copy_around-returns-in_ok-part-in-AllDiff
copy_around-returns-in_ok-part-in-AllDiff t c =
    same_all_different _ _ _ _ c.in-AllDiff.is (c.in_ok-part-in-AllDiff.ensures ∙ ap expr_tree c.deref-in-AllDiff.ensures)

pub copy_pair-returns-in_ok-b-in-Binary : goal.copy_pair-returns-in_ok-b-in-Binary
copy_pair-returns-in_ok-b-in-Binary t c =
    same_binary _ _ _ _ _ _ _ c.in-Binary.is (c.in_ok-a-in-Binary.ensures ∙ ap expr_tree c.deref.ensures) (c.in_ok-b-in-Binary.ensures ∙ ap expr_tree c.deref-in-Binary.ensures)

pub copy_pair-returns-in_ok-b-in-Compare : goal.copy_pair-returns-in_ok-b-in-Compare
copy_pair-returns-in_ok-b-in-Compare t c =
    same_compare _ _ _ _ _ _ _ c.in-Compare.is (c.in_ok-a-in-Compare.ensures ∙ ap expr_tree c.deref-in-Compare.ensures) (c.in_ok-b-in-Compare.ensures ∙ ap expr_tree c.deref-in-Compare-2.ensures)

pub copy_pair-returns-in_ok-b-in-Lex : goal.copy_pair-returns-in_ok-b-in-Lex
copy_pair-returns-in_ok-b-in-Lex t c =
    same_lex _ _ _ _ _ _ _ c.in-Lex.is (c.in_ok-a-in-Lex.ensures ∙ ap expr_tree c.deref-in-Lex.ensures) (c.in_ok-b-in-Lex.ensures ∙ ap expr_tree c.deref-in-Lex-2.ensures)

pub copy_pair-returns-in_ok-d-in-InDomain : goal.copy_pair-returns-in_ok-d-in-InDomain
copy_pair-returns-in_ok-d-in-InDomain t c =
    same_in_domain _ _ _ _ _ _ c.in-InDomain.is (c.in_ok-a-in-InDomain.ensures ∙ ap expr_tree c.deref-in-InDomain.ensures) (c.in_ok-d-in-InDomain.ensures ∙ ap domain_tree c.deref-in-InDomain-2.ensures)

pub copy_pair-returns-in_ok-b-in-InSet : goal.copy_pair-returns-in_ok-b-in-InSet
copy_pair-returns-in_ok-b-in-InSet t c =
    same_in_set _ _ _ _ _ _ c.in-InSet.is (c.in_ok-a-in-InSet.ensures ∙ ap expr_tree c.deref-in-InSet.ensures) (c.in_ok-b-in-InSet.ensures ∙ ap expr_tree c.deref-in-InSet-2.ensures)

pub copy_pair-returns-in_ok-b-in-Table : goal.copy_pair-returns-in_ok-b-in-Table
copy_pair-returns-in_ok-b-in-Table t c =
    same_table _ _ _ _ _ _ c.in-Table.is (c.in_ok-a-in-Table.ensures ∙ ap expr_tree c.deref-in-Table.ensures) (c.in_ok-b-in-Table.ensures ∙ ap expr_tree c.deref-in-Table-2.ensures)

pub copy_counts-returns-in_ok-counts-in-Gcc : goal.copy_counts-returns-in_ok-counts-in-Gcc
copy_counts-returns-in_ok-counts-in-Gcc t c =
    same_gcc _ _ _ _ _ _ _ _ c.in-Gcc.is (c.in_ok-m-in-Gcc.ensures ∙ ap expr_tree c.deref.ensures) (c.in_ok-values-in-Gcc.ensures ∙ ap expr_tree c.deref-in-Gcc.ensures) (c.in_ok-counts-in-Gcc.ensures ∙ ap expr_tree c.deref-in-Gcc-2.ensures)

pub copy_counts-returns-in_ok-values-in-AtLeast : goal.copy_counts-returns-in_ok-values-in-AtLeast
copy_counts-returns-in_ok-values-in-AtLeast t c =
    same_at_least _ _ _ _ _ _ _ _ c.in-AtLeast.is (c.in_ok-m-in-AtLeast.ensures ∙ ap expr_tree c.deref-in-AtLeast.ensures) (c.in_ok-counts-in-AtLeast.ensures ∙ ap expr_tree c.deref-in-AtLeast-2.ensures) (c.in_ok-values-in-AtLeast.ensures ∙ ap expr_tree c.deref-in-AtLeast-3.ensures)

pub copy_counts-returns-in_ok-values-in-AtMost : goal.copy_counts-returns-in_ok-values-in-AtMost
copy_counts-returns-in_ok-values-in-AtMost t c =
    same_at_most _ _ _ _ _ _ _ _ c.in-AtMost.is (c.in_ok-m-in-AtMost.ensures ∙ ap expr_tree c.deref-in-AtMost.ensures) (c.in_ok-counts-in-AtMost.ensures ∙ ap expr_tree c.deref-in-AtMost-2.ensures) (c.in_ok-values-in-AtMost.ensures ∙ ap expr_tree c.deref-in-AtMost-3.ensures)

pub copy_expr-returns-in_ok-name-in-Named : goal.copy_expr-returns-in_ok-name-in-Named
copy_expr-returns-in_ok-name-in-Named t c =
    same_named _ _ _ _ c.in-Named.is (c.in_ok-name-in-Named.ensures.copied ∙ c.text.ensures.text)

pub copy_expr-returns-in_ok-terms-in-Add : goal.copy_expr-returns-in_ok-terms-in-Add
copy_expr-returns-in_ok-terms-in-Add t c =
    same_chain _ _ _ _ c.in-Add.is (c.in_ok-terms-in-Add.ensures ∙ ap terms_of c.deref.ensures.value)

pub copy_expr-returns-in_ok-parts-in-And : goal.copy_expr-returns-in_ok-parts-in-And
copy_expr-returns-in_ok-parts-in-And t c =
    same_all_of _ _ _ _ c.in-And.is (c.in_ok-parts-in-And.ensures ∙ ap expr_trees c.deref-in-And.ensures.value)

pub copy_expr-returns-in_ok-parts-in-Or : goal.copy_expr-returns-in_ok-parts-in-Or
copy_expr-returns-in_ok-parts-in-Or t c =
    same_any_of _ _ _ _ c.in-Or.is (c.in_ok-parts-in-Or.ensures ∙ ap expr_trees c.deref-in-Or.ensures.value)

pub copy_expr-returns-in_ok-part-in-Quant : goal.copy_expr-returns-in_ok-part-in-Quant
copy_expr-returns-in_ok-part-in-Quant t c =
    same_quantified _ _ _ _ _ _ _ _ _ c.in-Quant.is (c.in_ok-names-in-Quant.ensures ∙ c.deref-in-Quant.ensures.value) (c.in_ok-d-in-Quant.ensures ∙ ap domain_tree c.deref-in-Quant-2.ensures) (c.in_ok-part-in-Quant.ensures ∙ ap expr_tree c.deref-in-Quant-3.ensures)

pub copy_matrix-returns-in_ok-d-in-Literal : goal.copy_matrix-returns-in_ok-d-in-Literal
copy_matrix-returns-in_ok-d-in-Literal t c =
    same_literal _ _ _ _ _ _ c.in-Literal.is (c.in_ok-parts-in-Literal.ensures ∙ ap expr_trees c.deref.ensures.value) c.in_ok-d-in-Literal.ensures

pub copy_matrix-returns-in_ok-d-in-Comprehension : goal.copy_matrix-returns-in_ok-d-in-Comprehension
copy_matrix-returns-in_ok-d-in-Comprehension t c =
    same_comprehension _ _ _ _ _ _ _ _ _ _ c.in-Comprehension.is (c.in_ok-part-in-Comprehension.ensures ∙ ap expr_tree c.deref-in-Comprehension.ensures) (c.in_ok-gens-in-Comprehension.ensures ∙ ap generators_of c.deref-in-Comprehension-2.ensures.value) (c.in_ok-conditions-in-Comprehension.ensures ∙ ap expr_trees c.deref-in-Comprehension-3.ensures.value) c.in_ok-d-in-Comprehension.ensures

pub copy_matrix-returns-in_ok-indices-in-Read : goal.copy_matrix-returns-in_ok-indices-in-Read
copy_matrix-returns-in_ok-indices-in-Read t c =
    same_read _ _ _ _ _ _ c.in-Read.is (c.in_ok-m-in-Read.ensures ∙ ap expr_tree c.deref-in-Read.ensures) (c.in_ok-indices-in-Read.ensures ∙ ap indices_of c.deref-in-Read-2.ensures.value)

pub copy_domain-returns-in_ok-ranges-in-Ranges : goal.copy_domain-returns-in_ok-ranges-in-Ranges
copy_domain-returns-in_ok-ranges-in-Ranges t c =
    same_ranges _ _ _ _ c.in-Ranges.is (c.in_ok-ranges-in-Ranges.ensures ∙ ap ranges_of c.deref.ensures.value)

pub copy_domain-returns-in_ok-name-in-Named : goal.copy_domain-returns-in_ok-name-in-Named
copy_domain-returns-in_ok-name-in-Named t c =
    same_named_domain _ _ _ _ c.in-Named.is (c.in_ok-name-in-Named.ensures.copied ∙ c.text.ensures.text)

pub copy_domain-returns-in_ok-part-in-Group : goal.copy_domain-returns-in_ok-part-in-Group
copy_domain-returns-in_ok-part-in-Group t c =
    same_group_domain _ _ _ _ c.in-Group.is (c.in_ok-part-in-Group.ensures ∙ ap domain_tree c.deref-in-Group.ensures)

pub copy_domain-returns-in_ok-other-in-Set : goal.copy_domain-returns-in_ok-other-in-Set
copy_domain-returns-in_ok-other-in-Set t c =
    same_set _ _ _ _ _ _ _ c.in-Set.is (c.in_ok-one-in-Set.ensures ∙ ap domain_tree c.deref-in-Set.ensures) (c.in_ok-other-in-Set.ensures ∙ ap domain_tree c.deref-in-Set-2.ensures)

pub copy_domain-returns-in_ok-part-in-Matrix : goal.copy_domain-returns-in_ok-part-in-Matrix
copy_domain-returns-in_ok-part-in-Matrix t c =
    same_matrix _ _ _ _ _ _ c.in-Matrix.is (c.in_ok-indices-in-Matrix.ensures ∙ ap domains_of c.deref-in-Matrix.ensures.value) (c.in_ok-part-in-Matrix.ensures ∙ ap domain_tree c.deref-in-Matrix-2.ensures)

pub copy_range-returns-in_ok-copy-in-One : goal.copy_range-returns-in_ok-copy-in-One
copy_range-returns-in_ok-copy-in-One t c =
    same_one _ _ _ c.in-One.is c.in_ok-copy-in-One.ensures

pub copy_range-returns-in_ok-greatest-in-Span : goal.copy_range-returns-in_ok-greatest-in-Span
copy_range-returns-in_ok-greatest-in-Span t c =
    same_span _ _ _ _ _ c.in-Span.is c.in_ok-least-in-Span.ensures c.in_ok-greatest-in-Span.ensures

pub copy_parts-loop-part-preserved : goal.copy_parts-loop-part-preserved
copy_parts-loop-part-preserved t c =
    ap (map expr_tree) c.in_ok-push.ensures.items
    ∙ map_more expr_tree c.loop-part.copies.items c.args.parts.now c.in_ok-copy.copy c.part-item.result c.loop-part.part-index c.loop-part-test.true c.loop-part.invariant
    (c.in_ok-copy.ensures ∙ ap expr_tree c.part-item.is)

pub copy_parts-returns : goal.copy_parts-returns
copy_parts-returns t c =
    gathers_same expr_trees expr_tree parts_gather c.loop-part.copies.items c.args.parts.now c.loop-part.part-index (omega (arith, c.loop-part-test.false)) c.loop-part.invariant

pub copy_indices-loop-index-preserved : goal.copy_indices-loop-index-preserved
copy_indices-loop-index-preserved t c =
    ap (map index_view) c.in_ok-push-in-Some.ensures.items
    ∙ map_more index_view c.loop-index.copies.items c.args.indices.now _ c.index-item.result c.loop-index.index-index c.loop-index-test.true c.loop-index.invariant
    (ap (λ e. Some e) c.in_ok-copy-in-Some.ensures ∙ ap index_view (sym c.in-Some.is ∙ c.index-item.is))

pub copy_indices-loop-index-preserved-in-None : goal.copy_indices-loop-index-preserved-in-None
copy_indices-loop-index-preserved-in-None t c =
    ap (map index_view) c.in_ok-push-in-None.ensures.items
    ∙ map_more index_view c.loop-index.copies.items c.args.indices.now _ c.index-item.result c.loop-index.index-index c.loop-index-test.true c.loop-index.invariant
    (ap index_view (sym c.in-None.is ∙ c.index-item.is))

pub copy_indices-returns : goal.copy_indices-returns
copy_indices-returns t c =
    gathers_same indices_of index_view indices_gather c.loop-index.copies.items c.args.indices.now c.loop-index.index-index (omega (arith, c.loop-index-test.false)) c.loop-index.invariant

pub copy_domains-loop-domain-preserved : goal.copy_domains-loop-domain-preserved
copy_domains-loop-domain-preserved t c =
    ap (map domain_tree) c.in_ok-push.ensures.items
    ∙ map_more domain_tree c.loop-domain.copies.items c.args.domains.now c.in_ok-copy.copy c.domain-item.result c.loop-domain.domain-index c.loop-domain-test.true c.loop-domain.invariant
    (c.in_ok-copy.ensures ∙ ap domain_tree c.domain-item.is)

pub copy_domains-returns : goal.copy_domains-returns
copy_domains-returns t c =
    gathers_same domains_of domain_tree domains_gather c.loop-domain.copies.items c.args.domains.now c.loop-domain.domain-index (omega (arith, c.loop-domain-test.false)) c.loop-domain.invariant

pub copy_ranges-loop-range-preserved : goal.copy_ranges-loop-range-preserved
copy_ranges-loop-range-preserved t c =
    ap (map with_range) c.in_ok-push.ensures.items
    ∙ map_more with_range c.loop-range.copies.items c.args.ranges.now c.in_ok-copy.copy c.range-item.result c.loop-range.range-index c.loop-range-test.true c.loop-range.invariant
    (c.in_ok-copy.ensures ∙ ap with_range c.range-item.is)

pub copy_ranges-returns : goal.copy_ranges-returns
copy_ranges-returns t c =
    gathers_same ranges_of with_range ranges_gather c.loop-range.copies.items c.args.ranges.now c.loop-range.range-index (omega (arith, c.loop-range-test.false)) c.loop-range.invariant

pub copy_terms-loop-plus-preserved : goal.copy_terms-loop-plus-preserved
copy_terms-loop-plus-preserved t c =
    ap (map term_view) c.in_ok-push.ensures.items
    ∙ map_more term_view c.loop-plus.copies.items c.args.terms.now _ c.loop-plus-item.result c.loop-plus.plus-index c.loop-plus-test.true c.loop-plus.invariant
    (pair_same _ _ _ _ refl c.in_ok-copy.ensures ∙ ap term_view c.loop-plus-item.is)

pub copy_terms-returns : goal.copy_terms-returns
copy_terms-returns t c =
    gathers_same terms_of term_view terms_gather c.loop-plus.copies.items c.args.terms.now c.loop-plus.plus-index (omega (arith, c.loop-plus-test.false)) c.loop-plus.invariant

pub copy_generators-loop-generator-preserved : goal.copy_generators-loop-generator-preserved
copy_generators-loop-generator-preserved t c =
    ap (map generator_view) c.in_ok-push.ensures.items
    ∙ map_more generator_view c.loop-generator.copies.items c.args.gens.now _ c.generator-item.result c.loop-generator.generator-index c.loop-generator-test.true c.loop-generator.invariant
    (pair_same _ _ _ _ (c.in_ok-names.ensures ∙ c.deref.ensures.value) c.in_ok-domain.ensures ∙ ap generator_view c.generator-item.is)

pub copy_generators-returns : goal.copy_generators-returns
copy_generators-returns t c =
    gathers_same generators_of generator_view generators_gather c.loop-generator.copies.items c.args.gens.now c.loop-generator.generator-index (omega (arith, c.loop-generator-test.false)) c.loop-generator.invariant

-- ---- kinds that come to a function, and no other

pub copy_expr-copy_matrix-requires : goal.copy_expr-copy_matrix-requires
copy_expr-copy_matrix-requires t c = (omega (arith, c.decreases), c.in-Literal.is)

pub copy_expr-copy_counts-requires : goal.copy_expr-copy_counts-requires
copy_expr-copy_counts-requires t c = (omega (arith, c.decreases), c.in-Gcc.is)

pub copy_expr-copy_pair-requires : goal.copy_expr-copy_pair-requires
copy_expr-copy_pair-requires t c = (omega (arith, c.decreases), c.in-Binary.is)

pub copy_expr-copy_around-requires : goal.copy_expr-copy_around-requires
copy_expr-copy_around-requires t c = (omega (arith, c.decreases), c.in-Group.is)

pub copy_around-unreachable-requires : goal.copy_around-unreachable-requires
copy_around-unreachable-requires t c = elim c.requires as (λ _. ⊥) [ inl h ↦ c.in_default.not-Group h.0 h.1 | inr h ↦ elim h as (λ _. ⊥) [ inl k ↦ c.in_default.not-Not k.0 k.1 | inr k ↦ elim k as (λ _. ⊥) [ inl l ↦ c.in_default.not-Neg l.0 l.1 | inr l ↦ elim l as (λ _. ⊥) [ inl m ↦ c.in_default.not-Abs m.0 m.1 | inr m ↦ elim m as (λ _. ⊥) [ inl n ↦ c.in_default.not-ToInt n.0 n.1 | inr n ↦ elim n as (λ _. ⊥) [ inl o ↦ c.in_default.not-Factorial o.0 o.1 | inr o ↦ elim o as (λ _. ⊥) [ inl p ↦ c.in_default.not-Flatten p.0 p.1 | inr p ↦ elim p as (λ _. ⊥) [ inl q ↦ c.in_default.not-Fold q.0 q.1 q.2 | inr q ↦ c.in_default.not-AllDiff q.0 q.1 ] ] ] ] ] ] ] ]

pub copy_pair-unreachable-requires : goal.copy_pair-unreachable-requires
copy_pair-unreachable-requires t c = elim c.requires as (λ _. ⊥) [ inl h ↦ c.in_default.not-Binary h.0 h.1 h.2 h.3 | inr h ↦ elim h as (λ _. ⊥) [ inl k ↦ c.in_default.not-Compare k.0 k.1 k.2 k.3 | inr k ↦ elim k as (λ _. ⊥) [ inl l ↦ c.in_default.not-Lex l.0 l.1 l.2 l.3 | inr l ↦ elim l as (λ _. ⊥) [ inl m ↦ c.in_default.not-InDomain m.0 m.1 m.2 | inr m ↦ elim m as (λ _. ⊥) [ inl n ↦ c.in_default.not-InSet n.0 n.1 n.2 | inr n ↦ c.in_default.not-Table n.0 n.1 n.2 ] ] ] ] ]

pub copy_counts-unreachable-requires : goal.copy_counts-unreachable-requires
copy_counts-unreachable-requires t c = elim c.requires as (λ _. ⊥) [ inl h ↦ c.in_default.not-Gcc h.0 h.1 h.2 h.3 | inr h ↦ elim h as (λ _. ⊥) [ inl k ↦ c.in_default.not-AtLeast k.0 k.1 k.2 k.3 | inr k ↦ c.in_default.not-AtMost k.0 k.1 k.2 k.3 ] ]

pub copy_matrix-unreachable-requires : goal.copy_matrix-unreachable-requires
copy_matrix-unreachable-requires t c = elim c.requires as (λ _. ⊥) [ inl h ↦ c.in_default.not-Literal h.0 h.1 h.2 | inr h ↦ elim h as (λ _. ⊥) [ inl k ↦ c.in_default.not-Comprehension k.0 k.1 k.2 k.3 k.4 | inr k ↦ c.in_default.not-Read k.0 k.1 k.2 ] ]
