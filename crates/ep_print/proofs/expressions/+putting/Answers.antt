use Rattle.std.proofs.Common.{ℕ, [], ◌∷◌, ◌==◌, codes, length, ap, not, sym, ◌∙◌}
use Rattle.std.specs.declared.alloc.Global.{Global}
use Rattle.std.specs.declared.vec.Vec.{Vec}
use Rattle.ep_print.proofs.Arms.{all_of_pieces, any_of_pieces, at_least_pieces, at_most_pieces, called_pieces, chain_end, chain_pieces, chain_turn, compare_pieces, comprehension_pieces, domains_listed, gcc_pieces, generators_listed, in_domain_pieces, in_set_pieces, index_turn, indices_listed, infix_pieces, last1, last2, last3, last4, lex_pieces, literal_pieces, matrix_pieces, no_index, parts_listed, puts_three, quantified_pieces, ranges_listed, ranges_pieces, read_pieces, set_pieces, some_index, span_pieces, table_pieces}
use Rattle.ep_print.proofs.Puts.{puts_both}
use Rattle.ep_print.proofs.Turns.{turn, turns_end}
use Rattle.ep_print.proofs.expressions.+putting.Goals as goal
use Rattle.ep_print.proofs.expressions.+putting.Goals.{push_indices-in-None+in_ok-push_word-in-None, push_indices-in-Some+in_ok-push_expr-in-Some}

pub push_around-returns : goal.push_around-returns
push_around-returns t c =
    puts_three _ _ _ _ _ _ _ c.in_ok-push_words.ensures c.in_ok-push_expr.ensures c.in_ok-push_words-2.ensures

pub push_domain_around-returns : goal.push_domain_around-returns
push_domain_around-returns t c =
    puts_three _ _ _ _ _ _ _ c.in_ok-push_words.ensures c.in_ok-push_domain.ensures c.in_ok-push_words-2.ensures

pub push_parts-loop-part-preserved : goal.push_parts-loop-part-preserved
push_parts-loop-part-preserved t c =
    turn _ _ parts_listed (c.args.between.now ∷ []) c.loop-part.started c.args.parts.now c.loop-part.part-index c.part-item.result _ c.push_between.new.text.items _ _ c.loop-part-test.true c.part-item.is c.in_ok-push_between.ensures c.in_ok-push_expr.ensures c.loop-part.invariant

pub push_parts-returns : goal.push_parts-returns
push_parts-returns t c =
    turns_end _ _ parts_listed (c.args.between.now ∷ []) c.loop-part.started c.args.parts.now c.loop-part.part-index _ _ c.loop-part-test.false c.loop-part.invariant

pub push_domains-loop-domain-preserved : goal.push_domains-loop-domain-preserved
push_domains-loop-domain-preserved t c =
    turn _ _ domains_listed (codes "," ∷ []) c.loop-domain.started c.args.domains.now c.loop-domain.domain-index c.domain-item.result _ c.push_between.new.text.items _ _ c.loop-domain-test.true c.domain-item.is c.in_ok-push_between.ensures c.in_ok-push_domain.ensures c.loop-domain.invariant

pub push_domains-returns : goal.push_domains-returns
push_domains-returns t c =
    turns_end _ _ domains_listed (codes "," ∷ []) c.loop-domain.started c.args.domains.now c.loop-domain.domain-index _ _ c.loop-domain-test.false c.loop-domain.invariant

pub push_chain-loop-plus-preserved : goal.push_chain-loop-plus-preserved
push_chain-loop-plus-preserved t c =
    chain_turn c.loop-plus.started c.args.terms.now c.loop-plus.plus-index c.loop-plus-item.result c.sign_word.result.now _ c.push_between.new.text.items _ _ c.loop-plus-test.true c.loop-plus-item.is c.sign_word.ensures c.in_ok-push_between.ensures c.in_ok-push_expr.ensures c.loop-plus.invariant

pub push_chain-returns : goal.push_chain-returns
push_chain-returns t c =
    chain_end c.loop-plus.started c.args.terms.now c.loop-plus.plus-index _ _ c.loop-plus-test.false c.loop-plus.invariant

pub push_domain-returns-in-Ranges : goal.push_domain-returns-in-Ranges
push_domain-returns-in-Ranges t c =
    last1 _ _ _ _ _ (rw c.deref.ensures.value at c.push_ranges.ensures) (ranges_pieces c.args.d.now.place c.args.d.now.kind _ c.in-Ranges.is)

pub push_domain-returns-in_ok-push_domain_around-in-Set : goal.push_domain-returns-in_ok-push_domain_around-in-Set
push_domain-returns-in_ok-push_domain_around-in-Set t c =
    last2 _ _ _ _ _ _ _ (rw c.deref-in-Set.ensures at c.in_ok-push_domain_around-in-Set.ensures) (rw c.deref-in-Set-2.ensures at c.push_domain.ensures) (set_pieces c.args.d.now.place c.args.d.now.kind _ _ _ _ c.in-Set.is c.set_word.ensures)

pub push_domain-returns-in_ok-push_domains-in-Matrix : goal.push_domain-returns-in_ok-push_domains-in-Matrix
push_domain-returns-in_ok-push_domains-in-Matrix t c =
    last3 _ _ _ _ _ _ _ _ _ c.in_ok-push_words-in-Matrix.ensures (rw c.deref-in-Matrix.ensures.value at c.in_ok-push_domains-in-Matrix.ensures) (rw c.deref-in-Matrix-2.ensures at c.push_domain_around-in-Matrix.ensures) (matrix_pieces c.args.d.now.place c.args.d.now.kind _ _ c.in-Matrix.is)

pub push_expr-returns-in-Add : goal.push_expr-returns-in-Add
push_expr-returns-in-Add t c =
    last1 _ _ _ _ _ (rw c.deref-in-Add.ensures.value at c.push_chain.ensures) (chain_pieces c.args.e.now.place c.args.e.now.kind _ c.in-Add.is)

pub push_pair-returns-in_ok-push_around-in-Compare : goal.push_pair-returns-in_ok-push_around-in-Compare
push_pair-returns-in_ok-push_around-in-Compare t c =
    last2 _ _ _ _ _ _ _ (rw c.deref-in-Compare.ensures at c.in_ok-push_around-in-Compare.ensures) (rw c.deref-in-Compare-2.ensures at c.push_expr-in-Compare.ensures) (compare_pieces c.args.e.now.place c.args.e.now.kind _ _ _ _ c.in-Compare.is c.compare_word.ensures)

pub push_pair-returns-in_ok-push_around-in-Lex : goal.push_pair-returns-in_ok-push_around-in-Lex
push_pair-returns-in_ok-push_around-in-Lex t c =
    last2 _ _ _ _ _ _ _ (rw c.deref-in-Lex.ensures at c.in_ok-push_around-in-Lex.ensures) (rw c.deref-in-Lex-2.ensures at c.push_expr-in-Lex.ensures) (lex_pieces c.args.e.now.place c.args.e.now.kind _ _ _ _ c.in-Lex.is c.lex_word.ensures)

pub push_pair-returns-in_ok-push_around-in-InDomain : goal.push_pair-returns-in_ok-push_around-in-InDomain
push_pair-returns-in_ok-push_around-in-InDomain t c =
    last2 _ _ _ _ _ _ _ (rw c.deref-in-InDomain.ensures at c.in_ok-push_around-in-InDomain.ensures) (rw c.deref-in-InDomain-2.ensures at c.push_domain.ensures) (in_domain_pieces c.args.e.now.place c.args.e.now.kind _ _ c.in-InDomain.is)

pub push_pair-returns-in_ok-push_around-in-InSet : goal.push_pair-returns-in_ok-push_around-in-InSet
push_pair-returns-in_ok-push_around-in-InSet t c =
    last2 _ _ _ _ _ _ _ (rw c.deref-in-InSet.ensures at c.in_ok-push_around-in-InSet.ensures) (rw c.deref-in-InSet-2.ensures at c.push_around-in-InSet-2.ensures) (in_set_pieces c.args.e.now.place c.args.e.now.kind _ _ c.in-InSet.is)

pub push_expr-returns-in-And : goal.push_expr-returns-in-And
push_expr-returns-in-And t c =
    last1 _ _ _ _ _ (rw c.deref-in-And.ensures.value at c.push_parts.ensures) (all_of_pieces c.args.e.now.place c.args.e.now.kind _ c.in-And.is)

pub push_expr-returns-in-Or : goal.push_expr-returns-in-Or
push_expr-returns-in-Or t c =
    last1 _ _ _ _ _ (rw c.deref-in-Or.ensures.value at c.push_parts-in-Or.ensures) (any_of_pieces c.args.e.now.place c.args.e.now.kind _ c.in-Or.is)

pub push_expr-returns-in_ok-push_domain_around-in-Quant : goal.push_expr-returns-in_ok-push_domain_around-in-Quant
push_expr-returns-in_ok-push_domain_around-in-Quant t c =
    last4 _ _ _ _ _ _ _ _ _ _ _ c.in_ok-push_word-in-Quant.ensures (rw c.deref-in-Quant.ensures.value at c.in_ok-push_names-in-Quant.ensures) (rw c.deref-in-Quant-2.ensures at c.in_ok-push_domain_around-in-Quant.ensures) (rw c.deref-in-Quant-3.ensures at c.push_expr.ensures) (quantified_pieces c.args.e.now.place c.args.e.now.kind _ _ _ _ _ c.in-Quant.is c.quantifier_word.ensures)

pub push_matrix-returns-in_ok-push_parts-in-Literal : goal.push_matrix-returns-in_ok-push_parts-in-Literal
push_matrix-returns-in_ok-push_parts-in-Literal t c =
    last3 _ _ _ _ _ _ _ _ _ c.in_ok-push_word-in-Literal.ensures (rw c.deref.ensures.value at c.in_ok-push_parts-in-Literal.ensures) c.push_index_domain.ensures (literal_pieces c.args.e.now.place c.args.e.now.kind _ _ c.in-Literal.is)

pub push_matrix-returns-in_ok-push_parts-in-Comprehension : goal.push_matrix-returns-in_ok-push_parts-in-Comprehension
push_matrix-returns-in_ok-push_parts-in-Comprehension t c =
    last4 _ _ _ _ _ _ _ _ _ _ _ (rw c.deref-in-Comprehension.ensures at c.in_ok-push_around-in-Comprehension.ensures) (rw c.deref-in-Comprehension-2.ensures.value at c.in_ok-push_generators-in-Comprehension.ensures) (rw c.deref-in-Comprehension-3.ensures.value at c.in_ok-push_parts-in-Comprehension.ensures) c.push_index_domain-in-Comprehension.ensures (comprehension_pieces c.args.e.now.place c.args.e.now.kind _ _ _ _ _ c.in-Comprehension.is (ap not (c.is_empty.ensures ∙ ap (λ n. n == 0) (sym c.deref-in-Comprehension-2.ensures.len ∙ ap length c.deref-in-Comprehension-2.ensures.value))))

pub push_matrix-returns-in_ok-push_around-in-Read : goal.push_matrix-returns-in_ok-push_around-in-Read
push_matrix-returns-in_ok-push_around-in-Read t c =
    last2 _ _ _ _ _ _ _ (rw c.deref-in-Read.ensures at c.in_ok-push_around-in-Read.ensures) (rw c.deref-in-Read-2.ensures.value at c.push_indices.ensures) (read_pieces c.args.e.now.place c.args.e.now.kind _ _ c.in-Read.is)

pub push_counts-returns-in_ok-push_around-in-Gcc-2 : goal.push_counts-returns-in_ok-push_around-in-Gcc-2
push_counts-returns-in_ok-push_around-in-Gcc-2 t c =
    last3 _ _ _ _ _ _ _ _ _ (rw c.deref.ensures at c.in_ok-push_around-in-Gcc.ensures) (rw c.deref-in-Gcc.ensures at c.in_ok-push_around-in-Gcc-2.ensures) (rw c.deref-in-Gcc-2.ensures at c.push_around-in-Gcc-2.ensures) (gcc_pieces c.args.e.now.place c.args.e.now.kind _ _ _ c.in-Gcc.is)

pub push_counts-returns-in_ok-push_around-in-AtLeast-2 : goal.push_counts-returns-in_ok-push_around-in-AtLeast-2
push_counts-returns-in_ok-push_around-in-AtLeast-2 t c =
    last3 _ _ _ _ _ _ _ _ _ (rw c.deref-in-AtLeast.ensures at c.in_ok-push_around-in-AtLeast.ensures) (rw c.deref-in-AtLeast-2.ensures at c.in_ok-push_around-in-AtLeast-2.ensures) (rw c.deref-in-AtLeast-3.ensures at c.push_around-in-AtLeast-3.ensures) (at_least_pieces c.args.e.now.place c.args.e.now.kind _ _ _ c.in-AtLeast.is)

pub push_counts-returns-in_ok-push_around-in-AtMost-2 : goal.push_counts-returns-in_ok-push_around-in-AtMost-2
push_counts-returns-in_ok-push_around-in-AtMost-2 t c =
    last3 _ _ _ _ _ _ _ _ _ (rw c.deref-in-AtMost.ensures at c.in_ok-push_around-in-AtMost.ensures) (rw c.deref-in-AtMost-2.ensures at c.in_ok-push_around-in-AtMost-2.ensures) (rw c.deref-in-AtMost-3.ensures at c.push_around-in-AtMost-3.ensures) (at_most_pieces c.args.e.now.place c.args.e.now.kind _ _ _ c.in-AtMost.is)

pub push_pair-returns-in_ok-push_around-in-Table : goal.push_pair-returns-in_ok-push_around-in-Table
push_pair-returns-in_ok-push_around-in-Table t c =
    last2 _ _ _ _ _ _ _ (rw c.deref-in-Table.ensures at c.in_ok-push_around-in-Table.ensures) (rw c.deref-in-Table-2.ensures at c.push_around-in-Table-2.ensures) (table_pieces c.args.e.now.place c.args.e.now.kind _ _ c.in-Table.is)

pub push_generators-loop-generator-preserved : goal.push_generators-loop-generator-preserved
push_generators-loop-generator-preserved t c =
    turn _ _ generators_listed (codes "," ∷ []) c.loop-generator.started c.args.gens.now c.loop-generator.generator-index c.generator-item.result _ c.push_between.new.text.items _ _ c.loop-generator-test.true c.generator-item.is c.in_ok-push_between.ensures
    (puts_three _ _ _ _ _ _ _ (rw c.deref.ensures.value at c.in_ok-push_names.ensures) c.in_ok-push_word.ensures c.in_ok-push_domain.ensures) c.loop-generator.invariant

pub push_generators-returns : goal.push_generators-returns
push_generators-returns t c =
    turns_end _ _ generators_listed (codes "," ∷ []) c.loop-generator.started c.args.gens.now c.loop-generator.generator-index _ _ c.loop-generator-test.false c.loop-generator.invariant

pub push_indices-returns : goal.push_indices-returns
push_indices-returns t c =
    puts_both _ _ _ _ _ (turns_end _ _ indices_listed (codes "," ∷ []) c.loop-index.started c.args.indices.now c.loop-index.index-index _ _ c.loop-index-test.false c.loop-index.invariant) c.in_ok-push_word.ensures

pub push_ranges-loop-range-preserved : goal.push_ranges-loop-range-preserved
push_ranges-loop-range-preserved t c =
    turn _ _ ranges_listed (codes "," ∷ []) c.loop-range.started c.args.ranges.now c.loop-range.range-index c.range-item.result _ c.push_between.new.text.items _ _ c.loop-range-test.true c.range-item.is c.in_ok-push_between.ensures c.in_ok-push_range.ensures c.loop-range.invariant

pub push_ranges-returns : goal.push_ranges-returns
push_ranges-returns t c =
    puts_three _ _ _ _ _ _ _ c.in_ok-push_words.ensures (turns_end _ _ ranges_listed (codes "," ∷ []) c.loop-range.started c.args.ranges.now c.loop-range.range-index _ _ c.loop-range-test.false c.loop-range.invariant) c.in_ok-push_word.ensures

pub push_pair-returns-then-is_called : goal.push_pair-returns-then-is_called
push_pair-returns-then-is_called t c =
    last2 _ _ _ _ _ _ _ (rw c.deref.ensures at c.in_ok-push_around-in-Binary.ensures) (rw c.deref-then-is_called.ensures at c.push_around-then-is_called.ensures) (called_pieces c.args.e.now.place c.args.e.now.kind _ _ _ _ c.in-Binary.is (sym c.is_called.ensures ∙ c.if-is_called.true) c.binary_word.ensures)

pub push_pair-returns-in_ok-push_around-in-Binary-2 : goal.push_pair-returns-in_ok-push_around-in-Binary-2
push_pair-returns-in_ok-push_around-in-Binary-2 t c =
    last2 _ _ _ _ _ _ _ (rw c.deref-in-Binary.ensures at c.in_ok-push_around-in-Binary-2.ensures) (rw c.deref-in-Binary-2.ensures at c.push_expr.ensures) (infix_pieces c.args.e.now.place c.args.e.now.kind _ _ _ _ c.in-Binary.is (sym c.is_called.ensures ∙ c.if-is_called.false) c.binary_word-in-Binary.ensures)

pub push_indices-loop-index-preserved : goal.push_indices-loop-index-preserved
push_indices-loop-index-preserved t c =
    elim c.match-index.branch [
      | push_indices-in-Some+in_ok-push_expr-in-Some w ↦
          index_turn c.loop-index.started c.match-index.started c.args.indices.now c.loop-index.index-index c.index-item.result _ c.push_between.new.text.items w.push_expr.new.text.items c.match-index.text.items _ c.loop-index-test.true c.index-item.is c.in_ok-push_between.ensures
          (some_index _ _ _ _ w.in-Some.is w.in_ok-push_expr-in-Some.ensures) (ap (λ (v : Vec ℕ Global). v.items) w.text-is) w.started-is c.loop-index.invariant
      | push_indices-in-None+in_ok-push_word-in-None w ↦
          index_turn c.loop-index.started c.match-index.started c.args.indices.now c.loop-index.index-index c.index-item.result _ c.push_between.new.text.items w.push_word.new.text.items c.match-index.text.items _ c.loop-index-test.true c.index-item.is c.in_ok-push_between.ensures
          (no_index _ _ _ w.in-None.is w.in_ok-push_word-in-None.ensures) (ap (λ (v : Vec ℕ Global). v.items) w.text-is) w.started-is c.loop-index.invariant
    ]

pub push_range-returns-in_ok-push_word-in-Span : goal.push_range-returns-in_ok-push_word-in-Span
push_range-returns-in_ok-push_word-in-Span t c =
    last3 _ _ _ _ _ _ _ _ _ c.in_ok-push_end-in-Span.ensures c.in_ok-push_word-in-Span.ensures c.push_end-in-Span.ensures (span_pieces c.args.range.now _ _ c.in-Span.is)
