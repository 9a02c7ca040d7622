use Rattle.ep_unroll.proofs.Words.{[], ap, arith, length, of_z, refl, subst, sym, to_z, w64, ◌++◌, ◌<◌, ◌≤◌, ◌∙◌, ◌∷◌, ◌≡◌, List, Some, None, option_map, map, ints, to_z-of_z, no_runs, env_in, mode_in, with_all, IsWalkBehind, before_rest, numbers_left, scalar_in, with_number, no_generators, domain_tree, expr_tree, expr_trees, terms_of, generators_of, size-Domain, size-Expr, numbering_of, IsNumberOf, Means, Number, Unrolled, SlotMeans, SlotsMean, generators_first, generators_none, values_bare, values_part, lists_joined, part_value, part_where, parts_at, ranging_over, evaluate, size-Generator, ListsTerms, parts_in, AreScalarsOf, All, both_below, deeper, first_generator, first_within, second_within, counts_node, form_tree, index_at, one_node, quantified_tree, two_node, IsBelow, depth_of, end_depth, generators_depth, greater, listing_depth, most}
use Rattle.ep_unroll.proofs.CycleSteps.{bare_means, group_means, instances_all, instances_begin, instances_more, number_from, signed_all, signed_begin, signed_more, terms_all, terms_begin, terms_more, to_int_means}
use Rattle.ep_unroll.proofs.FormValues.{grows_long, if_ok, number_grown, grows_on, absolute_term, asked, compare_term, minus_term}
use Rattle.ep_unroll.proofs.TypedReadings.{domain_numbers, number_next, numbers_behind}
use Rattle.ep_unroll.proofs.MeaningSteps.{means_as, term_as, term_means}
use Rattle.ep_unroll.proofs.SlotSteps.{every_slot, open_slot, slots_all, slots_begin, slots_from, slots_grow, slots_more, slots_none, slots_known}
use Rattle.ep_eval.specs.Generating.{parts_of}
use Rattle.ep_unroll.proofs.PartListSteps.{known_all, known_begin, known_more, lists_all, lists_begin, lists_lost, lists_more, lists_none, lists_same, lists_where, literal_means, values_none, values_some}
use Rattle.ep_unroll.proofs.ScalarSteps.{scalars_from, scalars_grown}
use Rattle.ep_unroll.proofs.GrownParts.{terms_kept}
use Rattle.ep_unroll.proofs.ReadValues.{means_grown}
use Rattle.ep_unroll.proofs.expressions.+unrolling.Goals as goal

pub unrolled-fixed-requires : goal.unrolled-fixed-requires
unrolled-fixed-requires t c = c.is_fixed.ensures c.if-is_fixed.true

pub unrolled-returns-then-is_fixed : goal.unrolled-returns-then-is_fixed
unrolled-returns-then-is_fixed t c =
    c.in_ok-known.ensures (numbering_of (mode_in c.args.scope) c.args.table.now) c.args.arena.now refl

pub unrolled-returns-in_ok-known-in-Named : goal.unrolled-returns-in_ok-known-in-Named
unfolding form_tree
unrolled-returns-in_ok-known-in-Named t c =
    let n = numbering_of (mode_in c.args.scope) c.args.table.now in
    let env = env_in c.args.scope in
    let old = c.args.arena.now in
    let p = c.args.e.now.place in
    subst (λ y. Means n env old old y c.in_ok-known-in-Named.known) (c.in-Named.ensures.tree p)
    (c.in_ok-known-in-Named.ensures old p)

pub unrolled-returns-in_ok-known-in-One : goal.unrolled-returns-in_ok-known-in-One
unfolding form_tree
unrolled-returns-in_ok-known-in-One t c =
    let n = numbering_of (mode_in c.args.scope) c.args.table.now in
    let env = env_in c.args.scope in
    let old = c.args.arena.now in
    let p = c.args.e.now.place in
    subst (λ y. Means n env old c.one_unrolled.new.arena y c.in_ok-known-in-One.known) (c.in-One.ensures.tree p)
    (c.in_ok-known-in-One.ensures p)

pub unrolled-returns-in_ok-term-in-Two : goal.unrolled-returns-in_ok-term-in-Two
unfolding form_tree
unrolled-returns-in_ok-term-in-Two t c =
    let n = numbering_of (mode_in c.args.scope) c.args.table.now in
    let env = env_in c.args.scope in
    let old = c.args.arena.now in
    let p = c.args.e.now.place in
    subst (λ y. Means n env old c.two_term.new.arena y (Number c.in_ok-term-in-Two.term)) (c.in-Two.ensures.tree p)
    (term_means n env old c.two_term.new.arena _ c.in_ok-term-in-Two.term (c.in_ok-term-in-Two.ensures p))

pub unrolled-returns-in_ok-term-in-Counts : goal.unrolled-returns-in_ok-term-in-Counts
unfolding form_tree
unrolled-returns-in_ok-term-in-Counts t c =
    let n = numbering_of (mode_in c.args.scope) c.args.table.now in
    let env = env_in c.args.scope in
    let old = c.args.arena.now in
    let p = c.args.e.now.place in
    subst (λ y. Means n env old c.counted_term.new.arena y (Number c.in_ok-term-in-Counts.term)) (c.in-Counts.ensures.tree p)
    (term_means n env old c.counted_term.new.arena _ c.in_ok-term-in-Counts.term (c.in_ok-term-in-Counts.ensures p))

pub unrolled-returns-in_ok-term-in-Truths : goal.unrolled-returns-in_ok-term-in-Truths
unfolding form_tree
unrolled-returns-in_ok-term-in-Truths t c =
    let n = numbering_of (mode_in c.args.scope) c.args.table.now in
    let env = env_in c.args.scope in
    let old = c.args.arena.now in
    let p = c.args.e.now.place in
    subst (λ y. Means n env old c.finish_all.new.arena y (Number c.in_ok-term-in-Truths.term)) (c.in-Truths.ensures.tree p)
    (term_means n env old c.finish_all.new.arena _ c.in_ok-term-in-Truths.term (c.in_ok-term-in-Truths.ensures n env old p (expr_trees c.in-Truths.parts.now) refl refl c.in_ok-terms-in-Truths.ensures))

pub unrolled-returns-in_ok-term-in-Chain : goal.unrolled-returns-in_ok-term-in-Chain
unfolding form_tree
unrolled-returns-in_ok-term-in-Chain t c =
    let n = numbering_of (mode_in c.args.scope) c.args.table.now in
    let env = env_in c.args.scope in
    let old = c.args.arena.now in
    let p = c.args.e.now.place in
    subst (λ y. Means n env old c.chain_term.new.arena y (Number c.in_ok-term-in-Chain.term)) (c.in-Chain.ensures.tree p)
    (term_means n env old c.chain_term.new.arena _ c.in_ok-term-in-Chain.term (c.in_ok-term-in-Chain.ensures n env old p (terms_of c.in-Chain.terms.now) c.in_ok-parts-in-Chain.ensures))

pub unrolled-returns-in_ok-term-in-InDomain : goal.unrolled-returns-in_ok-term-in-InDomain
unfolding form_tree
unrolled-returns-in_ok-term-in-InDomain t c =
    let n = numbering_of (mode_in c.args.scope) c.args.table.now in
    let env = env_in c.args.scope in
    let old = c.args.arena.now in
    let p = c.args.e.now.place in
    subst (λ y. Means n env old c.member_term.new.arena y (Number c.in_ok-term-in-InDomain.term)) (c.in-InDomain.ensures.tree p)
    (term_means n env old c.member_term.new.arena _ c.in_ok-term-in-InDomain.term (c.in_ok-term-in-InDomain.ensures n env old p (expr_tree c.in-InDomain.part.now) (domain_tree c.in-InDomain.domain.now) refl refl (c.in_ok-numbers-in-InDomain.ensures.kept n) c.in_ok-own-in-InDomain.ensures))

pub unrolled-returns-in_ok-known-in-Quant : goal.unrolled-returns-in_ok-known-in-Quant
unfolding form_tree
unrolled-returns-in_ok-known-in-Quant t c =
    let n = numbering_of (mode_in c.args.scope) c.args.table.now in
    let env = env_in c.args.scope in
    let old = c.args.arena.now in
    let p = c.args.e.now.place in
    subst (λ y. Means n env old c.quantified.new.arena y c.in_ok-known-in-Quant.known) (c.in-Quant.ensures.tree p)
    (c.in_ok-known-in-Quant.ensures p)

pub unrolled-returns-in_ok-known-in-Literal : goal.unrolled-returns-in_ok-known-in-Literal
unfolding form_tree
unrolled-returns-in_ok-known-in-Literal t c =
    let n = numbering_of (mode_in c.args.scope) c.args.table.now in
    let env = env_in c.args.scope in
    let old = c.args.arena.now in
    let p = c.args.e.now.place in
    let new = c.parts_of_all.new.arena in
    subst (λ y. Means n env old new y c.in_ok-known-in-Literal.known) (c.in-Literal.ensures.tree p)
    (literal_means n env old new p (expr_trees c.in-Literal.parts.now) (index_at c.in-Literal.domain.now) c.in_ok-own-in-Literal.own.items c.in_ok-known-in-Literal.known c.in_ok-own-in-Literal.ensures
    (λ r. c.in_ok-known-in-Literal.ensures.value n r new) (c.in_ok-known-in-Literal.ensures.terms (length new) c.in_ok-own-in-Literal.ensures.known))

pub unrolled-returns-in_ok-known-in-Comprehension : goal.unrolled-returns-in_ok-known-in-Comprehension
unfolding form_tree
unrolled-returns-in_ok-known-in-Comprehension t c =
    let n = numbering_of (mode_in c.args.scope) c.args.table.now in
    let env = env_in c.args.scope in
    let old = c.args.arena.now in
    let p = c.args.e.now.place in
    let new = c.generated.new.arena in
    let l = c.in-Comprehension.listing in
    let gens = generators_of c.in-Comprehension.generators.now in
    subst (λ y. Means n env old new y c.in_ok-known-in-Comprehension.known) (c.in-Comprehension.ensures.tree p)
    (c.in_ok-known-in-Comprehension.ensures n old new p (expr_tree l.body.now) gens (expr_trees l.conditions.now) refl
    (subst (λ (xs : List Unrolled). ListsTerms n env old new (Some xs) (parts_in c.in_ok-parts-in-Comprehension.parts) (parts_of (mode_in c.args.scope) l gens)) c.new.ensures.items c.in_ok-parts-in-Comprehension.ensures))

pub unrolled-finish_all-requires : goal.unrolled-finish_all-requires
unrolled-finish_all-requires t c =
    c.in_ok-terms-in-Truths.ensures.known

pub unrolled-chain_term-requires : goal.unrolled-chain_term-requires
unrolled-chain_term-requires t c =
    c.in_ok-parts-in-Chain.ensures.known

pub unrolled-member_term-requires : goal.unrolled-member_term-requires
unrolled-member_term-requires t c =
    c.in_ok-own-in-InDomain.ensures.known

pub unrolled-one_unrolled-requires : goal.unrolled-one_unrolled-requires
unfolding IsBelow
unrolled-one_unrolled-requires t c = (omega (arith, deeper c.args.e.now (size-Expr c.in-One.part.now) c.in-One.ensures.below, c.decreases), tt)

pub unrolled-two_term-requires : goal.unrolled-two_term-requires
unfolding IsBelow
unrolled-two_term-requires t c = (omega (arith, deeper c.args.e.now (greater (size-Expr c.in-Two.left.now) (size-Expr c.in-Two.right.now)) (both_below _ _ _ c.in-Two.ensures.below.0 c.in-Two.ensures.below.1), c.decreases), tt)

pub unrolled-counted_term-requires : goal.unrolled-counted_term-requires
unfolding IsBelow
unrolled-counted_term-requires t c = (omega (arith, deeper c.args.e.now (greater (size-Expr c.in-Counts.list.now) (size-Expr c.in-Counts.other.now)) (both_below _ _ _ c.in-Counts.ensures.below.0 c.in-Counts.ensures.below.1.1), c.decreases), tt)

pub unrolled-terms_of_all-requires : goal.unrolled-terms_of_all-requires
unfolding IsBelow
unrolled-terms_of_all-requires t c = (omega (arith, deeper c.args.e.now (most size-Expr c.in-Truths.parts.now) c.in-Truths.ensures.below, c.decreases), tt)

pub unrolled-signed_terms-requires : goal.unrolled-signed_terms-requires
unfolding IsBelow
unrolled-signed_terms-requires t c = (omega (arith, deeper c.args.e.now (most (λ t. size-Expr t.1) c.in-Chain.terms.now) c.in-Chain.ensures.below, c.decreases), tt)

pub unrolled-term_of-requires : goal.unrolled-term_of-requires
unfolding IsBelow
unrolled-term_of-requires t c = (omega (arith, deeper c.args.e.now (size-Expr c.in-InDomain.part.now) c.in-InDomain.ensures.below.0, c.decreases), tt)

pub unrolled-quantified-requires : goal.unrolled-quantified-requires
unfolding IsBelow
unrolled-quantified-requires t c = (omega (arith, deeper c.args.e.now (depth_of c.in-Quant.quantifier) c.in-Quant.ensures.below.0, c.decreases, c.in-Quant.ensures.below.1), tt)

pub unrolled-parts_of_all-requires : goal.unrolled-parts_of_all-requires
unfolding IsBelow
unrolled-parts_of_all-requires t c = (omega (arith, deeper c.args.e.now (most size-Expr c.in-Literal.parts.now) c.in-Literal.ensures.below.0, c.decreases), tt)

pub unrolled-generated-requires : goal.unrolled-generated-requires
unfolding IsBelow
unrolled-generated-requires t c = (omega (arith, deeper c.args.e.now (generators_depth c.in-Comprehension.listing c.in-Comprehension.generators.now) c.in-Comprehension.ensures.below.0.0, c.decreases, c.in-Comprehension.ensures.below.0.1), tt)

pub unrolled-read_unrolled-requires : goal.unrolled-read_unrolled-requires
unfolding IsBelow form_tree
unrolled-read_unrolled-requires t c = (omega (arith, deeper c.args.e.now (greater (size-Expr c.in-Read.matrix.now) (most end_depth c.in-Read.indices.now)) (both_below _ _ _ c.in-Read.ensures.below.0 c.in-Read.ensures.below.1), c.decreases), sym (c.in-Read.ensures.tree c.args.e.now.place))

pub one_unrolled-returns-in_ok-known-in-Group : goal.one_unrolled-returns-in_ok-known-in-Group
unfolding one_node
one_unrolled-returns-in_ok-known-in-Group t c p =
    let n = numbering_of (mode_in c.args.scope) c.args.table.now in
    let env = env_in c.args.scope in
    let old = c.args.arena.now in
    let e = expr_tree c.args.part.now in
    means_as n env old _ _ _ _ (sym (ap (λ o. one_node p o e) c.in-Group.is)) (
    group_means n env old c.unrolled.new.arena p e c.in_ok-known-in-Group.known c.in_ok-known-in-Group.ensures)

pub one_unrolled-returns-in_ok-known-in-ToInt : goal.one_unrolled-returns-in_ok-known-in-ToInt
unfolding one_node
one_unrolled-returns-in_ok-known-in-ToInt t c p =
    let n = numbering_of (mode_in c.args.scope) c.args.table.now in
    let env = env_in c.args.scope in
    let old = c.args.arena.now in
    let e = expr_tree c.args.part.now in
    means_as n env old _ _ _ _ (sym (ap (λ o. one_node p o e) c.in-ToInt.is)) (
    to_int_means n env old c.unrolled-in-ToInt.new.arena p e c.in_ok-known-in-ToInt.known c.in_ok-known-in-ToInt.ensures)

pub one_unrolled-returns-in_ok-known-in-Flatten : goal.one_unrolled-returns-in_ok-known-in-Flatten
unfolding one_node
one_unrolled-returns-in_ok-known-in-Flatten t c p =
    let n = numbering_of (mode_in c.args.scope) c.args.table.now in
    let env = env_in c.args.scope in
    let old = c.args.arena.now in
    let e = expr_tree c.args.part.now in
    means_as n env old _ _ _ _ (sym (ap (λ o. one_node p o e) c.in-Flatten.is)) (
    c.in_ok-known-in-Flatten.ensures n env old c.unrolled-in-Flatten.new.arena p e c.in_ok-own-in-Flatten.ensures)

pub one_unrolled-returns-in_ok-term-in-Not : goal.one_unrolled-returns-in_ok-term-in-Not
unfolding one_node
one_unrolled-returns-in_ok-term-in-Not t c p =
    let n = numbering_of (mode_in c.args.scope) c.args.table.now in
    let env = env_in c.args.scope in
    let old = c.args.arena.now in
    let e = expr_tree c.args.part.now in
    means_as n env old _ _ _ _ (sym (ap (λ o. one_node p o e) c.in-Not.is)) (
    term_means n env old c.negation.new.arena _ c.in_ok-term-in-Not.term
    (c.in_ok-term-in-Not.ensures n env old p e refl refl c.in_ok-own-in-Not.ensures))

pub one_unrolled-returns-in_ok-term-in-Neg : goal.one_unrolled-returns-in_ok-term-in-Neg
unfolding one_node
one_unrolled-returns-in_ok-term-in-Neg t c p =
    let n = numbering_of (mode_in c.args.scope) c.args.table.now in
    let env = env_in c.args.scope in
    let old = c.args.arena.now in
    let e = expr_tree c.args.part.now in
    means_as n env old _ _ _ _ (sym (ap (λ o. one_node p o e) c.in-Neg.is)) (
    term_means n env old c.negated.new.arena _ c.in_ok-term-in-Neg.term
    (minus_term n env old c.term_of-in-Neg.new.arena c.negated.new.arena p e c.in_ok-own-in-Neg.own c.in_ok-term-in-Neg.term c.in_ok-own-in-Neg.ensures c.in_ok-term-in-Neg.ensures))

pub one_unrolled-returns-in_ok-term-in-Abs : goal.one_unrolled-returns-in_ok-term-in-Abs
unfolding one_node
one_unrolled-returns-in_ok-term-in-Abs t c p =
    let n = numbering_of (mode_in c.args.scope) c.args.table.now in
    let env = env_in c.args.scope in
    let old = c.args.arena.now in
    let e = expr_tree c.args.part.now in
    means_as n env old _ _ _ _ (sym (ap (λ o. one_node p o e) c.in-Abs.is)) (
    term_means n env old c.magnitude.new.arena _ c.in_ok-term-in-Abs.term
    (absolute_term n env old c.term_of-in-Abs.new.arena c.magnitude.new.arena p e c.in_ok-own-in-Abs.own c.in_ok-term-in-Abs.term c.in_ok-own-in-Abs.ensures c.in_ok-term-in-Abs.ensures))

pub one_unrolled-returns-in_ok-term-in-AllDiff : goal.one_unrolled-returns-in_ok-term-in-AllDiff
unfolding one_node
one_unrolled-returns-in_ok-term-in-AllDiff t c p =
    let n = numbering_of (mode_in c.args.scope) c.args.table.now in
    let env = env_in c.args.scope in
    let old = c.args.arena.now in
    let e = expr_tree c.args.part.now in
    means_as n env old _ _ _ _ (sym (ap (λ o. one_node p o e) c.in-AllDiff.is)) (
    term_means n env old c.different_term.new.arena _ c.in_ok-term-in-AllDiff.term
    (c.in_ok-term-in-AllDiff.ensures n env old p e refl refl c.in_ok-terms-in-AllDiff.ensures))

pub one_unrolled-returns-in_ok-term-in-Fold : goal.one_unrolled-returns-in_ok-term-in-Fold
unfolding one_node
one_unrolled-returns-in_ok-term-in-Fold t c p =
    let n = numbering_of (mode_in c.args.scope) c.args.table.now in
    let env = env_in c.args.scope in
    let old = c.args.arena.now in
    let e = expr_tree c.args.part.now in
    means_as n env old _ _ _ _ (sym (ap (λ o. one_node p o e) c.in-Fold.is)) (
    term_means n env old c.folded_term.new.arena _ c.in_ok-term-in-Fold.term
    (c.in_ok-term-in-Fold.ensures n env old p e refl refl c.in_ok-own-in-Fold.ensures))

pub one_unrolled-negation-requires : goal.one_unrolled-negation-requires
one_unrolled-negation-requires t c =
    c.in_ok-own-in-Not.ensures.known

pub one_unrolled-negated-requires : goal.one_unrolled-negated-requires
one_unrolled-negated-requires t c =
    c.in_ok-own-in-Neg.ensures.known

pub one_unrolled-magnitude-requires : goal.one_unrolled-magnitude-requires
one_unrolled-magnitude-requires t c =
    c.in_ok-own-in-Abs.ensures.known

pub one_unrolled-different_term-requires : goal.one_unrolled-different_term-requires
one_unrolled-different_term-requires t c =
    c.in_ok-terms-in-AllDiff.ensures.known

pub one_unrolled-folded_term-requires : goal.one_unrolled-folded_term-requires
one_unrolled-folded_term-requires t c =
    c.in_ok-own-in-Fold.ensures.known

pub two_term-returns-in_ok-term-in-Binary : goal.two_term-returns-in_ok-term-in-Binary
unfolding two_node
two_term-returns-in_ok-term-in-Binary t c p =
    let n = numbering_of (mode_in c.args.scope) c.args.table.now in
    let env = env_in c.args.scope in
    let old = c.args.arena.now in
    let e = expr_tree c.args.left.now in
    let f = expr_tree c.args.right.now in
    term_as n env old _ _ _ _ (sym (ap (λ o. two_node p o e f) c.in-Binary.is)) (
    c.in_ok-term-in-Binary.ensures n env old p e f refl refl
    (number_grown n env old c.term_of.new.arena c.term_of-in-Binary.new.arena e c.in_ok-one-in-Binary.one c.in_ok-other-in-Binary.ensures.grows c.in_ok-one-in-Binary.ensures)
    (number_from n env old c.term_of.new.arena c.term_of-in-Binary.new.arena f c.in_ok-other-in-Binary.other c.in_ok-one-in-Binary.ensures.grows c.in_ok-other-in-Binary.ensures))

pub two_term-returns-in_ok-term-in-Compare : goal.two_term-returns-in_ok-term-in-Compare
unfolding two_node
two_term-returns-in_ok-term-in-Compare t c p =
    let n = numbering_of (mode_in c.args.scope) c.args.table.now in
    let env = env_in c.args.scope in
    let old = c.args.arena.now in
    let e = expr_tree c.args.left.now in
    let f = expr_tree c.args.right.now in
    let one = c.in_ok-term-in-Compare.ensures in
    term_as n env old _ _ _ _ (sym (ap (λ o. two_node p o e f) c.in-Compare.is)) (
    compare_term n env old c.term_of-in-Compare-2.new.arena c.comparison.new.arena p c.in-Compare.operator e f c.in_ok-one-in-Compare.one c.in_ok-other-in-Compare.other c.in_ok-term-in-Compare.term one.others
    (number_grown n env old c.term_of-in-Compare.new.arena c.term_of-in-Compare-2.new.arena e c.in_ok-one-in-Compare.one c.in_ok-other-in-Compare.ensures.grows c.in_ok-one-in-Compare.ensures)
    (number_from n env old c.term_of-in-Compare.new.arena c.term_of-in-Compare-2.new.arena f c.in_ok-other-in-Compare.other c.in_ok-one-in-Compare.ensures.grows c.in_ok-other-in-Compare.ensures)
    (asked n c.term_of-in-Compare-2.new.arena c.args.table.now.count (mode_in c.args.scope) (c.in_ok-one-in-Compare.one ∷ c.in_ok-other-in-Compare.other ∷ []) one.others refl refl one.needed) one.judged)

pub two_term-finish_binary-requires : goal.two_term-finish_binary-requires
two_term-finish_binary-requires t c =
    record {
      one = grows_long c.term_of.new.arena c.term_of-in-Binary.new.arena c.in_ok-one-in-Binary.one c.in_ok-other-in-Binary.ensures.grows c.in_ok-one-in-Binary.ensures.known;
      other = c.in_ok-other-in-Binary.ensures.known;
    }

pub two_term-comparison-requires : goal.two_term-comparison-requires
two_term-comparison-requires t c =
    record {
      one = grows_long c.term_of-in-Compare.new.arena c.term_of-in-Compare-2.new.arena c.in_ok-one-in-Compare.one c.in_ok-other-in-Compare.ensures.grows c.in_ok-one-in-Compare.ensures.known;
      other = c.in_ok-other-in-Compare.ensures.known;
    }

pub two_term-listed_member-requires : goal.two_term-listed_member-requires
two_term-listed_member-requires t c =
    c.in_ok-own-in-InSet.ensures.known

pub two_term-chosen_member-requires : goal.two_term-chosen_member-requires
two_term-chosen_member-requires t c =
    record {
      part = grows_long c.term_of-in-InSet.new.arena c.scalars_of.new.arena c.in_ok-own-in-InSet.own c.in_ok-terms-in-InSet.ensures.grows c.in_ok-own-in-InSet.ensures.known;
      terms = subst (All (λ t. t < length c.scalars_of.new.arena)) (sym c.deref.ensures.value) c.in_ok-terms-in-InSet.ensures.known;
    }

pub two_term-returns-then-is_fixed : goal.two_term-returns-then-is_fixed
unfolding two_node
two_term-returns-then-is_fixed t c p =
    let n = numbering_of (mode_in c.args.scope) c.args.table.now in
    let env = env_in c.args.scope in
    let old = c.args.arena.now in
    let e = expr_tree c.args.left.now in
    let f = expr_tree c.args.right.now in
    term_as n env old _ _ _ _ (sym (ap (λ o. two_node p o e f) c.in-InSet.is)) (
    c.in_ok-term-in-InSet.ensures n env old p e f refl refl (c.in_ok-numbers-in-InSet.ensures n) c.in_ok-own-in-InSet.ensures)

pub two_term-returns-in_ok-term-in-InSet-2 : goal.two_term-returns-in_ok-term-in-InSet-2
unfolding two_node
two_term-returns-in_ok-term-in-InSet-2 t c p =
    let n = numbering_of (mode_in c.args.scope) c.args.table.now in
    let env = env_in c.args.scope in
    let old = c.args.arena.now in
    let e = expr_tree c.args.left.now in
    let f = expr_tree c.args.right.now in
    term_as n env old _ _ _ _ (sym (ap (λ o. two_node p o e f) c.in-InSet.is)) (
    c.in_ok-term-in-InSet-2.ensures n env old p e f refl refl
    (number_grown n env old c.term_of-in-InSet.new.arena c.scalars_of.new.arena e c.in_ok-own-in-InSet.own c.in_ok-terms-in-InSet.ensures.grows c.in_ok-own-in-InSet.ensures)
    (subst (AreScalarsOf n env old c.scalars_of.new.arena f) (sym c.deref.ensures.value) (scalars_from n env old c.term_of-in-InSet.new.arena c.scalars_of.new.arena f c.in_ok-terms-in-InSet.terms.items c.in_ok-own-in-InSet.ensures.grows c.in_ok-terms-in-InSet.ensures)))

pub two_term-lex_term-requires : goal.two_term-lex_term-requires
two_term-lex_term-requires t c =
    record {
      one = λ k d less. grows_long c.scalars_of-in-Lex.new.arena c.scalars_of-in-Lex-2.new.arena _ c.in_ok-others-in-Lex.ensures.grows (c.in_ok-terms-in-Lex.ensures.known k d less);
      other = c.in_ok-others-in-Lex.ensures.known;
    }

pub two_term-returns-in_ok-term-in-Lex : goal.two_term-returns-in_ok-term-in-Lex
unfolding two_node
two_term-returns-in_ok-term-in-Lex t c p =
    let n = numbering_of (mode_in c.args.scope) c.args.table.now in
    let env = env_in c.args.scope in
    let old = c.args.arena.now in
    let e = expr_tree c.args.left.now in
    let f = expr_tree c.args.right.now in
    term_as n env old _ _ _ _ (sym (ap (λ o. two_node p o e f) c.in-Lex.is)) (
    c.in_ok-term-in-Lex.ensures n env old p e f refl refl
    (scalars_grown n env old c.scalars_of-in-Lex.new.arena c.scalars_of-in-Lex-2.new.arena e c.in_ok-terms-in-Lex.terms.items c.in_ok-others-in-Lex.ensures.grows c.in_ok-terms-in-Lex.ensures)
    (scalars_from n env old c.scalars_of-in-Lex.new.arena c.scalars_of-in-Lex-2.new.arena f c.in_ok-others-in-Lex.others.items c.in_ok-terms-in-Lex.ensures.grows c.in_ok-others-in-Lex.ensures))

pub two_term-table_term-requires : goal.two_term-table_term-requires
two_term-table_term-requires t c =
    c.in_ok-terms-in-Table.ensures.known

pub two_term-returns-in_ok-term-in-Table : goal.two_term-returns-in_ok-term-in-Table
unfolding two_node
two_term-returns-in_ok-term-in-Table t c p =
    let n = numbering_of (mode_in c.args.scope) c.args.table.now in
    let env = env_in c.args.scope in
    let old = c.args.arena.now in
    let e = expr_tree c.args.left.now in
    let f = expr_tree c.args.right.now in
    term_as n env old _ _ _ _ (sym (ap (λ o. two_node p o e f) c.in-Table.is)) (
    c.in_ok-term-in-Table.ensures n env old p e f refl refl c.in_ok-terms-in-Table.ensures (c.in_ok-rows-in-Table.ensures n))

pub two_term-term_of-requires : goal.two_term-term_of-requires
two_term-term_of-requires t c = (omega (arith, first_within (size-Expr c.args.left.now) (size-Expr c.args.right.now), c.decreases), tt)

pub two_term-term_of-requires-in-Binary : goal.two_term-term_of-requires-in-Binary
two_term-term_of-requires-in-Binary t c = (omega (arith, second_within (size-Expr c.args.left.now) (size-Expr c.args.right.now), c.decreases), tt)

pub two_term-term_of-requires-in-Compare : goal.two_term-term_of-requires-in-Compare
two_term-term_of-requires-in-Compare t c = (omega (arith, first_within (size-Expr c.args.left.now) (size-Expr c.args.right.now), c.decreases), tt)

pub two_term-term_of-requires-in-Compare-2 : goal.two_term-term_of-requires-in-Compare-2
two_term-term_of-requires-in-Compare-2 t c = (omega (arith, second_within (size-Expr c.args.left.now) (size-Expr c.args.right.now), c.decreases), tt)

pub two_term-term_of-requires-in-InSet : goal.two_term-term_of-requires-in-InSet
two_term-term_of-requires-in-InSet t c = (omega (arith, first_within (size-Expr c.args.left.now) (size-Expr c.args.right.now), c.decreases), tt)

pub two_term-scalars_of-requires : goal.two_term-scalars_of-requires
two_term-scalars_of-requires t c = (omega (arith, second_within (size-Expr c.args.left.now) (size-Expr c.args.right.now), c.decreases), tt)

pub two_term-scalars_of-requires-in-Lex : goal.two_term-scalars_of-requires-in-Lex
two_term-scalars_of-requires-in-Lex t c = (omega (arith, first_within (size-Expr c.args.left.now) (size-Expr c.args.right.now), c.decreases), tt)

pub two_term-scalars_of-requires-in-Lex-2 : goal.two_term-scalars_of-requires-in-Lex-2
two_term-scalars_of-requires-in-Lex-2 t c = (omega (arith, second_within (size-Expr c.args.left.now) (size-Expr c.args.right.now), c.decreases), tt)

pub two_term-scalars_of-requires-in-Table : goal.two_term-scalars_of-requires-in-Table
two_term-scalars_of-requires-in-Table t c = (omega (arith, first_within (size-Expr c.args.left.now) (size-Expr c.args.right.now), c.decreases), tt)

pub counted_term-counts_term-requires : goal.counted_term-counts_term-requires
counted_term-counts_term-requires t c =
    record {
      one = λ k d less. grows_long c.scalars_of.new.arena c.scalars_of-in-Gcc.new.arena _ c.in_ok-counts-in-Gcc.ensures.grows (c.in_ok-terms-in-Gcc.ensures.known k d less);
      other = c.in_ok-counts-in-Gcc.ensures.known;
    }

pub counted_term-returns-in_ok-term-in-Gcc : goal.counted_term-returns-in_ok-term-in-Gcc
unfolding counts_node
counted_term-returns-in_ok-term-in-Gcc t c p =
    let n = numbering_of (mode_in c.args.scope) c.args.table.now in
    let env = env_in c.args.scope in
    let old = c.args.arena.now in
    let e = expr_tree c.args.list.now in
    let f = expr_tree c.args.one.now in
    let g = expr_tree c.args.other.now in
    term_as n env old _ _ _ _ (sym (ap (λ o. counts_node p o e f g) c.in-Gcc.is)) (
    c.in_ok-term-in-Gcc.ensures n env old p e f g refl refl
    (scalars_grown n env old c.scalars_of.new.arena c.scalars_of-in-Gcc.new.arena e c.in_ok-terms-in-Gcc.terms.items c.in_ok-counts-in-Gcc.ensures.grows c.in_ok-terms-in-Gcc.ensures) (c.in_ok-values-in-Gcc.ensures n)
    (scalars_from n env old c.scalars_of.new.arena c.scalars_of-in-Gcc.new.arena g c.in_ok-counts-in-Gcc.counts.items c.in_ok-terms-in-Gcc.ensures.grows c.in_ok-counts-in-Gcc.ensures))

pub counted_term-at_least_term-requires : goal.counted_term-at_least_term-requires
counted_term-at_least_term-requires t c =
    c.in_ok-terms-in-AtLeast.ensures.known

pub counted_term-returns-in_ok-term-in-AtLeast : goal.counted_term-returns-in_ok-term-in-AtLeast
unfolding counts_node
counted_term-returns-in_ok-term-in-AtLeast t c p =
    let n = numbering_of (mode_in c.args.scope) c.args.table.now in
    let env = env_in c.args.scope in
    let old = c.args.arena.now in
    let e = expr_tree c.args.list.now in
    let f = expr_tree c.args.one.now in
    let g = expr_tree c.args.other.now in
    term_as n env old _ _ _ _ (sym (ap (λ o. counts_node p o e f g) c.in-AtLeast.is)) (
    c.in_ok-term-in-AtLeast.ensures n env old p e f g refl refl c.in_ok-terms-in-AtLeast.ensures (c.in_ok-bounds-in-AtLeast.ensures n) (c.in_ok-values-in-AtLeast.ensures n))

pub counted_term-at_most_term-requires : goal.counted_term-at_most_term-requires
counted_term-at_most_term-requires t c =
    c.in_ok-terms-in-AtMost.ensures.known

pub counted_term-returns-in_ok-term-in-AtMost : goal.counted_term-returns-in_ok-term-in-AtMost
unfolding counts_node
counted_term-returns-in_ok-term-in-AtMost t c p =
    let n = numbering_of (mode_in c.args.scope) c.args.table.now in
    let env = env_in c.args.scope in
    let old = c.args.arena.now in
    let e = expr_tree c.args.list.now in
    let f = expr_tree c.args.one.now in
    let g = expr_tree c.args.other.now in
    term_as n env old _ _ _ _ (sym (ap (λ o. counts_node p o e f g) c.in-AtMost.is)) (
    c.in_ok-term-in-AtMost.ensures n env old p e f g refl refl c.in_ok-terms-in-AtMost.ensures (c.in_ok-bounds-in-AtMost.ensures n) (c.in_ok-values-in-AtMost.ensures n))

pub counted_term-scalars_of-requires : goal.counted_term-scalars_of-requires
counted_term-scalars_of-requires t c = (omega (arith, first_within (size-Expr c.args.list.now) (size-Expr c.args.other.now), c.decreases), tt)

pub counted_term-scalars_of-requires-in-Gcc : goal.counted_term-scalars_of-requires-in-Gcc
counted_term-scalars_of-requires-in-Gcc t c = (omega (arith, second_within (size-Expr c.args.list.now) (size-Expr c.args.other.now), c.decreases), tt)

pub counted_term-scalars_of-requires-in-AtLeast : goal.counted_term-scalars_of-requires-in-AtLeast
counted_term-scalars_of-requires-in-AtLeast t c = (omega (arith, first_within (size-Expr c.args.list.now) (size-Expr c.args.other.now), c.decreases), tt)

pub counted_term-scalars_of-requires-in-AtMost : goal.counted_term-scalars_of-requires-in-AtMost
counted_term-scalars_of-requires-in-AtMost t c = (omega (arith, first_within (size-Expr c.args.list.now) (size-Expr c.args.other.now), c.decreases), tt)

pub read_unrolled-read_of-requires : goal.read_unrolled-read_of-requires
read_unrolled-read_of-requires t c =
    record { name = c.reads_cells.ensures.name c.if-reads_cells.true; indices = c.reads_cells.ensures.indices c.if-reads_cells.true }

pub read_unrolled-returns-then-reads_cells : goal.read_unrolled-returns-then-reads_cells
read_unrolled-returns-then-reads_cells t c =
    c.read_of.ensures c.args.arena.now c.args.e.now.place c.requires

pub read_unrolled-read_with-requires : goal.read_unrolled-read_with-requires
read_unrolled-read_with-requires t c =
    let n = numbering_of (mode_in c.args.scope) c.args.table.now in
    let env = env_in c.args.scope in
    let mid = c.unrolled.new.arena in
    let new = c.slots_of.new.arena in
    let indices = c.args.indices.now in
    let found = option_map (λ v. v.items) c.in_ok-slots.slots in
    let grown = slots_grow n env mid new indices found c.in_ok-slots.ensures in
    record { known = terms_kept mid new c.in_ok-known.known grown c.in_ok-known.ensures.known; slots = slots_known n env mid new indices found c.in_ok-slots.ensures }

pub read_unrolled-returns : goal.read_unrolled-returns
read_unrolled-returns t c =
    let n = numbering_of (mode_in c.args.scope) c.args.table.now in
    let env = env_in c.args.scope in
    let old = c.args.arena.now in
    let mid = c.unrolled.new.arena in
    let new = c.slots_of.new.arena in
    let indices = c.args.indices.now in
    let found = option_map (λ v. v.items) c.in_ok-slots.slots in
    let grown = slots_grow n env mid new indices found c.in_ok-slots.ensures in
    let m = expr_tree c.args.matrix.now in
    c.read_with.ensures old c.args.e.now.place m indices c.requires (means_grown n env old mid new m c.in_ok-known.known grown c.in_ok-known.ensures)
    (slots_from n env old mid new indices found c.in_ok-known.ensures.grows c.in_ok-slots.ensures)

pub read_unrolled-unrolled-requires : goal.read_unrolled-unrolled-requires
read_unrolled-unrolled-requires t c = (omega (arith, first_within (size-Expr c.args.matrix.now) (most end_depth c.args.indices.now), c.decreases), tt)

pub read_unrolled-slots_of-requires : goal.read_unrolled-slots_of-requires
read_unrolled-slots_of-requires t c = (omega (arith, second_within (size-Expr c.args.matrix.now) (most end_depth c.args.indices.now), c.decreases), tt)

pub term_of-returns : goal.term_of-returns
term_of-returns t c = c.number_term.ensures (numbering_of (mode_in c.args.scope) c.args.table.now) (env_in c.args.scope) c.args.arena.now (expr_tree c.args.e.now) c.in_ok-known.ensures

pub terms_of_all-loop-part-init : goal.terms_of_all-loop-part-init
terms_of_all-loop-part-init t c =
    let n = numbering_of (mode_in c.args.scope) c.args.table.now in
    let env = env_in c.args.scope in
    terms_begin n env c.args.arena.now c.args.parts.now c.new-terms.result.items c.new-terms.ensures.items

pub terms_of_all-loop-part-preserved : goal.terms_of_all-loop-part-preserved
terms_of_all-loop-part-preserved t c =
    let n = numbering_of (mode_in c.args.scope) c.args.table.now in
    let env = env_in c.args.scope in
    terms_more n env c.args.arena.now c.loop-part.arena c.term_of.new.arena c.args.parts.now c.loop-part.part-index c.part-item.result _ c.in_ok-term.term c.loop-part.terms.items c.push.new.self.items
    c.loop-part-test.true c.part-item.is c.loop-part.invariant c.in_ok-term.ensures c.in_ok-push.ensures.items

pub terms_of_all-returns : goal.terms_of_all-returns
terms_of_all-returns t c =
    let n = numbering_of (mode_in c.args.scope) c.args.table.now in
    let env = env_in c.args.scope in
    terms_all n env c.args.arena.now c.loop-part.arena c.args.parts.now c.loop-part.part-index c.loop-part.terms.items (omega (arith, c.loop-part-test.false)) c.loop-part.invariant

pub signed_terms-loop-term-init : goal.signed_terms-loop-term-init
signed_terms-loop-term-init t c =
    let n = numbering_of (mode_in c.args.scope) c.args.table.now in
    let env = env_in c.args.scope in
    signed_begin n env c.args.arena.now c.args.terms.now c.new-parts.result.items c.new-parts.ensures.items

pub signed_terms-loop-term-preserved : goal.signed_terms-loop-term-preserved
signed_terms-loop-term-preserved t c =
    let n = numbering_of (mode_in c.args.scope) c.args.table.now in
    let env = env_in c.args.scope in
    signed_more n env c.args.arena.now c.loop-term.arena c.term_of.new.arena c.args.terms.now c.loop-term.term-index c.term-item.result _ c.sign_of.result c.in_ok-part.part c.loop-term.parts.items c.push.new.self.items
    c.loop-term-test.true c.term-item.is c.loop-term.invariant c.in_ok-part.ensures c.sign_of.ensures
    (c.in_ok-push.ensures.items ∙ ap (λ s. c.loop-term.parts.items ++ (s, c.in_ok-part.part) ∷ []) (to_z-of_z w64 c.sign_of.result (omega (arith, ints))))

pub signed_terms-returns : goal.signed_terms-returns
signed_terms-returns t c =
    let n = numbering_of (mode_in c.args.scope) c.args.table.now in
    let env = env_in c.args.scope in
    signed_all n env c.args.arena.now c.loop-term.arena c.args.terms.now c.loop-term.term-index c.loop-term.parts.items (omega (arith, c.loop-term-test.false)) c.loop-term.invariant

pub quantified-over_domain-requires : goal.quantified-over_domain-requires
quantified-over_domain-requires t c =
    let long = ap length c.in-Some.ensures.cases.0 in (omega (arith, long, c.decreases), tt)

pub quantified-unrolled-requires : goal.quantified-unrolled-requires
quantified-unrolled-requires t c =
    let q = c.args.quantifier in
    let within : size-Expr q.body.now ≤ depth_of q = second_within (size-Domain q.domain.now) (size-Expr q.body.now) in
    (omega (arith, within, c.decreases), tt)

pub quantified-returns-in_ok-term-in-Some : goal.quantified-returns-in_ok-term-in-Some
quantified-returns-in_ok-term-in-Some t c p =
    let n = numbering_of (mode_in c.args.scope) c.args.table.now in
    let env = env_in c.args.scope in
    let q = c.args.quantifier in
    subst (λ ns. Means n env c.args.arena.now c.over_domain.new.arena (quantified_tree p q ns) (Number c.in_ok-term-in-Some.term)) (sym c.in-Some.ensures.cases.0)
    (term_means n env c.args.arena.now c.over_domain.new.arena (quantified_tree p q (c.in-Some.name.now ∷ c.in-Some.rest.now)) c.in_ok-term-in-Some.term (c.in_ok-term-in-Some.ensures p))

pub quantified-returns-in_ok-known-in-None : goal.quantified-returns-in_ok-known-in-None
quantified-returns-in_ok-known-in-None t c p =
    let n = numbering_of (mode_in c.args.scope) c.args.table.now in
    let env = env_in c.args.scope in
    let q = c.args.quantifier in
    subst (λ ns. Means n env c.args.arena.now c.unrolled.new.arena (quantified_tree p q ns) c.in_ok-known-in-None.known) (sym (no_runs c.args.names.now c.in-None.ensures.cases))
    (bare_means n env c.args.arena.now c.unrolled.new.arena p q c.in_ok-known-in-None.known c.in_ok-known-in-None.ensures)

pub over_domain-instances-requires : goal.over_domain-instances-requires
over_domain-instances-requires t c = (omega (arith, c.decreases), c.in_ok-numbers.ensures.own ∙ c.in-Some.is)

pub over_domain-finish_quantifier-requires : goal.over_domain-finish_quantifier-requires
over_domain-finish_quantifier-requires t c = (c.in_ok-terms-in-Some.ensures (c.args.quantifier.body.now.place)).known

pub over_domain-returns-in_ok-terms-in-Some : goal.over_domain-returns-in_ok-terms-in-Some
over_domain-returns-in_ok-terms-in-Some t c p =
    let n = numbering_of (mode_in c.args.scope) c.args.table.now in
    let env = env_in c.args.scope in
    c.finish_quantifier.ensures n env c.args.arena.now p c.args.quantifier c.args.name.now c.args.rest.now c.in-Some.set refl refl refl (λ r. c.in_ok-numbers.ensures.kept n r ∙ c.in-Some.is)
    (c.in_ok-terms-in-Some.ensures p)

pub over_domain-returns-in-None : goal.over_domain-returns-in-None
over_domain-returns-in-None t c p =
    let n = numbering_of (mode_in c.args.scope) c.args.table.now in
    let env = env_in c.args.scope in
    c.without_domain.ensures n env p c.args.quantifier c.args.name.now c.args.rest.now refl refl (λ r. c.in_ok-numbers.ensures.kept n r ∙ c.in-None.is)

pub instances-loop-number-init : goal.instances-loop-number-init
instances-loop-number-init t c =
    let n = numbering_of (mode_in c.args.scope) c.args.table.now in
    let env = env_in c.args.scope in
    let q = c.args.quantifier in
    let name = c.args.name.now in
    let rest = c.args.rest.now in (
      c.walk_of-walk.ensures.walk,
      λ p. instances_begin n env c.args.arena.now p q name rest c.args.set.now (numbers_left c.walk_of-walk.result) c.new-terms.result.items (c.walk_of-walk.ensures.numbers ∙ c.runs.ensures.numbers) c.new-terms.ensures.items,
      domain_numbers n env (domain_tree q.domain.now) c.args.set.now (numbers_left c.walk_of-walk.result) c.requires (c.walk_of-walk.ensures.numbers ∙ c.runs.ensures.numbers),
    )

pub instances-loop-number-smaller : goal.instances-loop-number-smaller
unfolding before_rest
instances-loop-number-smaller t c =
    let cut : numbers_left c.loop-number.walk ≡ c.in-Some.number ∷ numbers_left c.in-Some.behind = c.next_number.ensures.numbers ∙ ap before_rest c.in-Some.is in
    let longer = ap length cut in
    omega (arith, longer)

pub instances-quantified-requires : goal.instances-quantified-requires
instances-quantified-requires t c = (omega (arith, c.decreases), tt)

pub instances-loop-number-preserved : goal.instances-loop-number-preserved
unfolding before_rest IsWalkBehind with_all
instances-loop-number-preserved t c =
    let n = numbering_of (mode_in c.args.scope) c.args.table.now in
    let env = env_in c.args.scope in
    let q = c.args.quantifier in
    let name = c.args.name.now in
    let rest = c.args.rest.now in
    let k = c.in-Some.number in
    let cut : numbers_left c.loop-number.walk ≡ k ∷ numbers_left c.in-Some.behind = c.next_number.ensures.numbers ∙ ap before_rest c.in-Some.is in
    let scalar : c.scalar_of-scalar.result ≡ scalar_in env (domain_tree q.domain.now) = c.scalar_of-scalar.ensures n.mode (λ none. absurd (let x = sym c.requires ∙ none in cc)) in
    let same : to_z w64 (of_z w64 k) ≡ k = to_z-of_z w64 k (omega (arith, ints)) in (
      subst IsWalkBehind c.in-Some.is c.next_number.ensures.walk,
      λ p. instances_more n env c.args.arena.now c.loop-number.arena c.taken_term.new.arena p q name rest c.args.set.now (numbers_left c.loop-number.walk) (numbers_left c.in-Some.behind)
          c.scalar_of-scalar.result k c.in_ok-term.term c.loop-number.terms.items c.push.new.self.items (c.loop-number.invariant.1 p) cut scalar
          (number_next n env (domain_tree q.domain.now) (numbers_left c.loop-number.walk) (numbers_left c.in-Some.behind) k c.scalar_of-scalar.result c.loop-number.invariant.2 cut scalar)
          (subst (λ m. IsNumberOf n (with_number name c.scalar_of-scalar.result m env) c.loop-number.arena c.taken_term.new.arena (quantified_tree p q rest) c.in_ok-term.term) same
          (c.in_ok-term.ensures n (with_number name c.scalar_of-scalar.result (to_z w64 (of_z w64 k)) env) c.loop-number.arena (quantified_tree p q rest) (c.in_ok-instance.ensures p)))
          c.in_ok-push.ensures.items,
      numbers_behind n env (domain_tree q.domain.now) (numbers_left c.loop-number.walk) (numbers_left c.in-Some.behind) k c.loop-number.invariant.2 cut,
    )

pub instances-returns : goal.instances-returns
unfolding before_rest
instances-returns t c p =
    let n = numbering_of (mode_in c.args.scope) c.args.table.now in
    let env = env_in c.args.scope in
    let q = c.args.quantifier in
    let name = c.args.name.now in
    let rest = c.args.rest.now in
    instances_all n env c.args.arena.now c.loop-number.arena p q name rest c.args.set.now (numbers_left c.loop-number.walk) c.loop-number.terms.items
    (c.next_number.ensures.numbers ∙ ap before_rest c.in_default.is) (c.loop-number.invariant.1 p)

pub slot_of-fixed_slot-requires : goal.slot_of-fixed_slot-requires
slot_of-fixed_slot-requires t c = c.is_fixed.ensures c.if-is_fixed.true

pub slot_of-term_of-requires : goal.slot_of-term_of-requires
unfolding end_depth
slot_of-term_of-requires t c =
    let own : end_depth c.args.index.now ≡ size-Expr c.in-Some.stated = ap end_depth c.in-Some.is in
    (omega (arith, own, c.decreases), tt)

pub slot_of-returns-then-is_fixed : goal.slot_of-returns-then-is_fixed
slot_of-returns-then-is_fixed t c =
    let n = numbering_of (mode_in c.args.scope) c.args.table.now in
    let env = env_in c.args.scope in
    if_ok c.fixed_slot.result _ _ (λ s h. subst (λ index. SlotMeans n env c.args.arena.now c.args.arena.now index s) (sym c.in-Some.is) h) (c.fixed_slot.ensures n c.args.arena.now refl)

pub slot_of-returns-in_ok-term-in-Some : goal.slot_of-returns-in_ok-term-in-Some
unfolding SlotMeans
slot_of-returns-in_ok-term-in-Some t c =
    open_slot (numbering_of (mode_in c.args.scope) c.args.table.now) (env_in c.args.scope) c.args.arena.now c.term_of.new.arena c.in-Some.stated c.args.index.now c.in_ok-term-in-Some.term c.in-Some.is c.in_ok-term-in-Some.ensures

pub slot_of-returns-in-None : goal.slot_of-returns-in-None
unfolding SlotMeans
slot_of-returns-in-None t c = every_slot (numbering_of (mode_in c.args.scope) c.args.table.now) (env_in c.args.scope) c.args.arena.now c.args.index.now c.in-None.is

pub slots_of-loop-index-init : goal.slots_of-loop-index-init
slots_of-loop-index-init t c = slots_begin (numbering_of (mode_in c.args.scope) c.args.table.now) (env_in c.args.scope) c.args.arena.now c.args.indices.now c.new-slots.result.items c.new-slots.ensures.items

pub slots_of-loop-index-preserved : goal.slots_of-loop-index-preserved
unfolding SlotMeans
slots_of-loop-index-preserved t c =
    let n = numbering_of (mode_in c.args.scope) c.args.table.now in
    let env = env_in c.args.scope in
    slots_more n env c.args.arena.now c.loop-index.arena c.slot_of.new.arena c.args.indices.now c.loop-index.index-index c.index-item.result _ c.in-Some.slot c.loop-index.slots.items c.push.new.self.items
    c.loop-index-test.true c.index-item.is c.loop-index.invariant
    (subst (SlotMeans n env c.loop-index.arena c.slot_of.new.arena c.index-item.result) c.in-Some.is c.in_ok-one.ensures) c.in_ok-push-in-Some.ensures.items

pub slots_of-returns-in-None : goal.slots_of-returns-in-None
unfolding SlotMeans SlotsMean
slots_of-returns-in-None t c =
    let n = numbering_of (mode_in c.args.scope) c.args.table.now in
    let env = env_in c.args.scope in
    let none = subst (SlotMeans n env c.loop-index.arena c.slot_of.new.arena c.index-item.result) c.in-None.is c.in_ok-one.ensures in (
      grows_on c.args.arena.now c.loop-index.arena c.slot_of.new.arena c.loop-index.invariant.grows none.0,
      λ r. slots_none n env c.args.arena.now c.loop-index.arena c.args.indices.now c.loop-index.index-index c.index-item.result _ c.loop-index.slots.items c.loop-index-test.true c.index-item.is
          c.loop-index.invariant r (none.1 r),
    )

pub slots_of-returns : goal.slots_of-returns
unfolding SlotsMean
slots_of-returns t c =
    slots_all (numbering_of (mode_in c.args.scope) c.args.table.now) (env_in c.args.scope) c.args.arena.now c.loop-index.arena c.args.indices.now c.loop-index.index-index c.loop-index.slots.items c.loop-index-test.false c.loop-index.invariant

pub scalars_of-taken_scalars-requires : goal.scalars_of-taken_scalars-requires
scalars_of-taken_scalars-requires t c = c.in_ok-known.ensures.known

pub scalars_of-returns : goal.scalars_of-returns
scalars_of-returns t c = c.taken_scalars.ensures (numbering_of (mode_in c.args.scope) c.args.table.now) (env_in c.args.scope) c.args.arena.now (expr_tree c.args.e.now) c.in_ok-known.ensures

pub parts_of_all-loop-part-init : goal.parts_of_all-loop-part-init
parts_of_all-loop-part-init t c =
    known_begin (numbering_of (mode_in c.args.scope) c.args.table.now) (env_in c.args.scope) c.args.arena.now c.args.parts.now c.new-known.result.items c.new-known.ensures.items

pub parts_of_all-loop-part-preserved : goal.parts_of_all-loop-part-preserved
parts_of_all-loop-part-preserved t c =
    known_more (numbering_of (mode_in c.args.scope) c.args.table.now) (env_in c.args.scope) c.args.arena.now c.loop-part.arena c.unrolled.new.arena c.args.parts.now c.loop-part.part-index c.part-item.result _ c.in_ok-own.own
    c.loop-part.known.items c.push.new.self.items c.loop-part-test.true c.part-item.is c.loop-part.invariant c.in_ok-own.ensures c.in_ok-push.ensures.items

pub parts_of_all-returns : goal.parts_of_all-returns
parts_of_all-returns t c =
    known_all (numbering_of (mode_in c.args.scope) c.args.table.now) (env_in c.args.scope) c.args.arena.now c.loop-part.arena c.args.parts.now c.loop-part.part-index c.loop-part.known.items (omega (arith, c.loop-part-test.false)) c.loop-part.invariant

pub generated-over_names-requires : goal.generated-over_names-requires
generated-over_names-requires t c =
    let cut = c.in-Some.ensures.cases.0 in
    let long = ap length cut in
    let depth = first_generator c.args.listing c.args.generators.now c.in-Some.first.now c.in-Some.later.now c.in-Some.first.now.domain cut refl in
    (omega (arith, depth, long, c.decreases, c.deref.ensures.len), tt)

pub generated-returns-in_ok-more-in-Some : goal.generated-returns-in_ok-more-in-Some
generated-returns-in_ok-more-in-Some t c =
    let gens = generators_first c.args.generators.now c.in-Some.first.now c.in-Some.later.now (domain_tree c.in-Some.first.now.domain) c.deref.result.now c.in-Some.ensures.cases.0 refl (sym c.deref.ensures.value) in
    subst (λ g. ListsTerms (numbering_of (mode_in c.args.scope) c.args.table.now) (env_in c.args.scope) c.args.arena.now c.over_names.new.arena (parts_in c.args.parts) (parts_in c.in_ok-more-in-Some.more) (parts_of (mode_in c.args.scope) c.args.listing g)) (sym gens)
    c.in_ok-more-in-Some.ensures

pub generated-with_part-requires : goal.generated-with_part-requires
generated-with_part-requires t c =
    let l = c.args.listing in
    let within : listing_depth l ≤ generators_depth l c.args.generators.now = first_within (listing_depth l) (most size-Generator c.args.generators.now) in
    (omega (arith, within, c.decreases), tt)

pub generated-returns-in_ok-more-in-None : goal.generated-returns-in_ok-more-in-None
generated-returns-in_ok-more-in-None t c =
    let n = numbering_of (mode_in c.args.scope) c.args.table.now in
    let env = env_in c.args.scope in
    let l = c.args.listing in
    let gens = generators_none c.args.generators.now (no_runs c.args.generators.now c.in-None.ensures.cases) in
    subst (λ g. ListsTerms n env c.args.arena.now c.with_part.new.arena (parts_in c.args.parts) (parts_in c.in_ok-more-in-None.more) (parts_of (mode_in c.args.scope) l g)) (sym gens)
    (lists_same n env c.args.arena.now c.with_part.new.arena (parts_in c.args.parts) (parts_in c.in_ok-more-in-None.more) (part_value n.mode (expr_tree l.body.now) (expr_trees l.conditions.now)) (parts_of (mode_in c.args.scope) l no_generators)
    (λ r. sym (values_part n.mode (expr_tree l.body.now) (expr_trees l.conditions.now) r.values)) c.in_ok-more-in-None.ensures)

pub over_names-over_numbers-requires : goal.over_names-over_numbers-requires
over_names-over_numbers-requires t c =
    let long = ap length c.in-Some.ensures.cases.0 in
    (omega (arith, long, c.decreases), c.in_ok-numbers-in-Some.ensures.own ∙ c.in-Some-numbers.is)

pub over_names-generated-requires : goal.over_names-generated-requires
over_names-generated-requires t c =
    let r = c.args.ranging in
    let within = second_within (size-Domain r.domain.now) (generators_depth r.listing r.later.now) in
    (omega (arith, within, c.decreases), tt)

pub over_names-returns-in-Some-numbers : goal.over_names-returns-in-Some-numbers
over_names-returns-in-Some-numbers t c =
    let n = numbering_of (mode_in c.args.scope) c.args.table.now in
    let env = env_in c.args.scope in
    let g = c.args.ranging in
    let name = c.in-Some.name.now in
    let rest = c.in-Some.rest.now in
    let set = c.in-Some-numbers.set in
    subst (λ ns. ListsTerms n env c.args.arena.now c.over_numbers.new.arena (parts_in c.args.parts) (parts_in c.in_ok-more-in-Some-numbers.more) (parts_of (mode_in c.args.scope) g.listing (ranging_over g ns))) (sym c.in-Some.ensures.cases.0)
    (lists_same n env c.args.arena.now c.over_numbers.new.arena (parts_in c.args.parts) (parts_in c.in_ok-more-in-Some-numbers.more)
    (λ values. lists_joined (map (parts_at (mode_in c.args.scope) values g name rest) set)) (parts_of (mode_in c.args.scope) g.listing (ranging_over g (name ∷ rest)))
    (λ r. sym (values_some n.mode (expr_tree g.listing.body.now) (expr_trees g.listing.conditions.now) name rest (domain_tree g.domain.now) (generators_of g.later.now) r.values set
    (c.in_ok-numbers-in-Some.ensures.kept n r ∙ c.in-Some-numbers.is)))
    c.in_ok-more-in-Some-numbers.ensures)

pub over_names-returns-in-Some : goal.over_names-returns-in-Some
over_names-returns-in-Some t c =
    let n = numbering_of (mode_in c.args.scope) c.args.table.now in
    let env = env_in c.args.scope in
    let g = c.args.ranging in
    let name = c.in-Some.name.now in
    let rest = c.in-Some.rest.now in
    subst (λ ns. ListsTerms n env c.args.arena.now c.args.arena.now (parts_in c.args.parts) None (parts_of (mode_in c.args.scope) g.listing (ranging_over g ns))) (sym c.in-Some.ensures.cases.0)
    (lists_lost n env c.args.arena.now (parts_in c.args.parts) None (parts_of (mode_in c.args.scope) g.listing (ranging_over g (name ∷ rest))) refl
    (λ r. values_none n.mode (expr_tree g.listing.body.now) (expr_trees g.listing.conditions.now) name rest (domain_tree g.domain.now) (generators_of g.later.now) r.values
    (c.in_ok-numbers-in-Some.ensures.kept n r ∙ c.in-None-numbers.is)))

pub over_names-returns : goal.over_names-returns
over_names-returns t c =
    let n = numbering_of (mode_in c.args.scope) c.args.table.now in
    let env = env_in c.args.scope in
    let g = c.args.ranging in
    subst (λ ns. ListsTerms n env c.args.arena.now c.generated.new.arena (parts_in c.args.parts) (parts_in c.in_ok-more-in-None.more) (parts_of (mode_in c.args.scope) g.listing (ranging_over g ns))) (sym (no_runs c.args.names.now c.in-None.ensures.cases))
    (lists_same n env c.args.arena.now c.generated.new.arena (parts_in c.args.parts) (parts_in c.in_ok-more-in-None.more) (parts_of (mode_in c.args.scope) g.listing (generators_of g.later.now)) (parts_of (mode_in c.args.scope) g.listing (ranging_over g []))
    (λ r. sym (values_bare n.mode (expr_tree g.listing.body.now) (expr_trees g.listing.conditions.now) (domain_tree g.domain.now) (generators_of g.later.now) r.values))
    c.in_ok-more-in-None.ensures)

pub over_numbers-loop-number-init : goal.over_numbers-loop-number-init
over_numbers-loop-number-init t c =
    let g = c.args.ranging in
    let name = c.args.name.now in
    let rest = c.args.rest.now in (
      c.walk_of-walk.ensures.walk,
      lists_begin (numbering_of (mode_in c.args.scope) c.args.table.now) (env_in c.args.scope) c.args.arena.now (parts_in c.args.parts) (λ env. parts_at (mode_in c.args.scope) env g name rest) c.args.set.now (numbers_left c.walk_of-walk.result)
          (c.walk_of-walk.ensures.numbers ∙ c.runs.ensures.numbers),
      domain_numbers (numbering_of (mode_in c.args.scope) c.args.table.now) (env_in c.args.scope) (domain_tree g.domain.now) c.args.set.now (numbers_left c.walk_of-walk.result) c.requires
          (c.walk_of-walk.ensures.numbers ∙ c.runs.ensures.numbers),
    )

pub over_numbers-over_names-requires : goal.over_numbers-over_names-requires
over_numbers-over_names-requires t c = (omega (arith, c.decreases), tt)

pub over_numbers-loop-number-smaller : goal.over_numbers-loop-number-smaller
unfolding before_rest
over_numbers-loop-number-smaller t c =
    let cut : numbers_left c.loop-number.walk ≡ c.in-Some.number ∷ numbers_left c.in-Some.behind = c.next_number.ensures.numbers ∙ ap before_rest c.in-Some.is in
    let longer = ap length cut in
    omega (arith, longer)

pub over_numbers-loop-number-preserved : goal.over_numbers-loop-number-preserved
unfolding before_rest IsWalkBehind with_all
over_numbers-loop-number-preserved t c =
    let n = numbering_of (mode_in c.args.scope) c.args.table.now in
    let env = env_in c.args.scope in
    let g = c.args.ranging in
    let name = c.args.name.now in
    let rest = c.args.rest.now in
    let k = c.in-Some.number in
    let d = domain_tree g.domain.now in
    let cut : numbers_left c.loop-number.walk ≡ k ∷ numbers_left c.in-Some.behind = c.next_number.ensures.numbers ∙ ap before_rest c.in-Some.is in
    let scalar : c.scalar_of-scalar.result ≡ scalar_in env d = c.scalar_of-scalar.ensures n.mode (λ none. absurd (let x = sym c.requires ∙ none in cc)) in
    let same : to_z w64 (of_z w64 k) ≡ k = to_z-of_z w64 k (omega (arith, ints)) in (
      subst IsWalkBehind c.in-Some.is c.next_number.ensures.walk,
      lists_more n env c.args.arena.now c.loop-number.arena c.over_names.new.arena (parts_in c.args.parts) (parts_in c.loop-number.more) (parts_in c.in_ok-more.more) (λ values. parts_at (mode_in c.args.scope) values g name rest)
          c.args.set.now (numbers_left c.loop-number.walk) (numbers_left c.in-Some.behind) name c.scalar_of-scalar.result d k (parts_of (mode_in c.args.scope) g.listing (ranging_over g rest)) c.loop-number.invariant.1 cut scalar
          (number_next n env d (numbers_left c.loop-number.walk) (numbers_left c.in-Some.behind) k c.scalar_of-scalar.result c.loop-number.invariant.2 cut scalar)
          (subst (λ m. ListsTerms n (with_number name c.scalar_of-scalar.result m env) c.loop-number.arena c.over_names.new.arena (parts_in c.loop-number.more) (parts_in c.in_ok-more.more) (parts_of (mode_in c.args.scope) g.listing (ranging_over g rest))) same
          c.in_ok-more.ensures)
          (λ values. refl),
      numbers_behind n env d (numbers_left c.loop-number.walk) (numbers_left c.in-Some.behind) k c.loop-number.invariant.2 cut,
    )

pub over_numbers-returns : goal.over_numbers-returns
unfolding before_rest
over_numbers-returns t c =
    let g = c.args.ranging in
    let name = c.args.name.now in
    let rest = c.args.rest.now in
    lists_all (numbering_of (mode_in c.args.scope) c.args.table.now) (env_in c.args.scope) c.args.arena.now c.loop-number.arena (parts_in c.args.parts) (parts_in c.loop-number.more) (λ values. parts_at (mode_in c.args.scope) values g name rest)
    c.args.set.now (numbers_left c.loop-number.walk) c.loop-number.invariant.1 (c.next_number.ensures.numbers ∙ ap before_rest c.in_default.is)

pub with_part-unrolled-requires : goal.with_part-unrolled-requires
with_part-unrolled-requires t c =
    let l = c.args.listing in
    let within : size-Expr l.body.now ≤ listing_depth l = first_within (size-Expr l.body.now) (most size-Expr l.conditions.now) in
    (omega (arith, within, c.decreases), tt)

pub with_part-returns-in-Some-true : goal.with_part-returns-in-Some-true
with_part-returns-in-Some-true t c =
    let n = numbering_of (mode_in c.args.scope) c.args.table.now in
    let env = env_in c.args.scope in
    let l = c.args.listing in
    lists_where n env c.args.arena.now c.unrolled.new.arena (parts_in c.args.parts) (parts_in c.in_ok-more-in-Some-true.more) (expr_tree l.body.now) (expr_trees l.conditions.now) c.in_ok-part-in-Some-true.part
    c.in_ok-part-in-Some-true.ensures c.in_ok-more-in-Some-true.ensures (λ r. c.in_ok-truth.ensures n r ∙ c.in-Some-true.is ∙ ap Some c.in-Some-true.field-0-test)

pub with_part-returns-in-Some-false : goal.with_part-returns-in-Some-false
unfolding part_value part_where
with_part-returns-in-Some-false t c =
    let n = numbering_of (mode_in c.args.scope) c.args.table.now in
    let env = env_in c.args.scope in
    let l = c.args.listing in
    lists_none n env c.args.arena.now (parts_in c.args.parts) (parts_in c.args.parts) (part_value n.mode (expr_tree l.body.now) (expr_trees l.conditions.now)) refl
    (λ r. ap (λ o. part_where o (evaluate n.mode r.values (expr_tree l.body.now))) (c.in_ok-truth.ensures n r ∙ c.in-Some-false.is ∙ ap Some c.in-Some-false.field-0-test))

pub with_part-returns : goal.with_part-returns
unfolding part_value part_where
with_part-returns t c =
    let n = numbering_of (mode_in c.args.scope) c.args.table.now in
    let env = env_in c.args.scope in
    let l = c.args.listing in
    lists_lost n env c.args.arena.now (parts_in c.args.parts) None (part_value n.mode (expr_tree l.body.now) (expr_trees l.conditions.now)) refl
    (λ r. ap (λ o. part_where o (evaluate n.mode r.values (expr_tree l.body.now))) (c.in_ok-truth.ensures n r ∙ c.in-None.is))
