use Rattle.ep_size.proofs.Words.{Totals, refl, ◌≡◌, ◌≤◌, ◌<◌, ◌^◌, ◌+◌, ◌∷◌, ℕ, List, drop, length, subst, [], ap, sym, ◌∙◌, arith, Option, w64, to_z, of_z, ◌++◌, flat_map, map, option_map, true, false, unwrap_or, to_z-of_z, ints, drop_all, drop_more, deeper, first_generator, first_within, of_kind, second_within, form_tree, index_at, quantified_tree, IsBelow, depth_of, end_depth, generators_depth, listing_depth, met-chain, met-in_domain, met-literal, met-named, met-read, holds_decision-quantified, scalar_in, with_number, domain_values, index_values, type_in, met, met_all, met_domain, met_index, met_indices, decisions_in, extents_of, hiding, holds_decision, measured_indices, measured_list, span_of, no_generators, domain_tree, end_of, expr_tree, expr_trees, generators_of, indices_of, terms_of, size-Domain, Expr, size-Expr, size-Generator, size-Kind, generators_first, generators_none, nodes_bare, nodes_part, met_bare, met_quantified, meets_some, no_runs, met-counts, met-one, met-truths, met-two, nodes_at, nodes_of, ranging_over, instance_env, instance_nodes, env_in, mode_in, with_all, IsWalkBehind, before_rest, numbers_left, IsKnownExtent, grid_of, known_at, known_of, measured_of, Told, HasInstances, instance_at, hidden_without, Every, most}
use Rattle.ep_size.proofs.GeneratedSteps.{comprehension_told, conditions_stop, extents_bare, extents_part, listed_begins, listed_ends, listed_goes_on, name_stops, name_told, no_part_told, nothing_behind, part_told}
use Rattle.ep_size.proofs.IndexParts.{literal_node, parts_begin, parts_end, parts_more}
use Rattle.ep_size.proofs.ListNodes.{lists_finish}
use Rattle.ep_size.proofs.MeterSteps.{at_tree, going_stops, node_stops, node_told, none_passed, told_as, told_none, told_then, weighing}
use Rattle.ep_size.proofs.QuantifiedSteps.{bare_is, held_within, instancing_begins, instancing_ends, instancing_goes_on, meets_quantified, quantified_holds, quantified_number, spans_at, spans_told}
use Rattle.ep_size.proofs.ReadForms.{indices_begin, indices_end, indices_more, met_every, met_stated, value_every, value_stated}
use Rattle.ep_size.proofs.TermSteps.{chain_number, spans_of, terms_begin, terms_end, terms_more}
use Rattle.ep_size.specs.Indices.{index_of}
use Rattle.ep_size.specs.declared.extents.Extent.TheVariants.{Nothing}
use Rattle.ep_size.proofs.extending.+extending.Goals as goal

pub extent_of-fixed-requires : goal.extent_of-fixed-requires
unfolding hidden_without
extent_of-fixed-requires t c =
    ap (λ s. s.free) (sym c.standing_in-own.ensures) ∙ c.if-own.true

pub extent_of-decided-requires : goal.extent_of-decided-requires
unfolding hidden_without
extent_of-decided-requires t c =
    (omega (arith, c.decreases), ap (λ s. s.decided) (sym c.standing_in-own.ensures) ∙ c.if-own-2.true)

pub decided-unreachable-requires : goal.decided-unreachable-requires
unfolding form_tree holds_decision
decided-unreachable-requires t c =
    let env = env_in c.args.scope in
    let p = c.args.e.now.place in
    let d = decisions_in env in
    let wrong : false ≡ true = ap (holds_decision d) (c.in-Number.ensures.tree p) ∙ c.requires in cc

pub decided-unreachable-requires-in-Truth : goal.decided-unreachable-requires-in-Truth
unfolding form_tree holds_decision
decided-unreachable-requires-in-Truth t c =
    let env = env_in c.args.scope in
    let p = c.args.e.now.place in
    let d = decisions_in env in
    let wrong : false ≡ true = ap (holds_decision d) (c.in-Truth.ensures.tree p) ∙ c.requires in cc

pub decided-returns-in_ok-node-in-Named : goal.decided-returns-in_ok-node-in-Named
unfolding form_tree
decided-returns-in_ok-node-in-Named t c =
    let mode = mode_in c.args.scope in
    let env = env_in c.args.scope in
    let p = c.args.e.now.place in
    at_tree mode env _ _ _ _ _ (c.in-Named.ensures.tree p)
    (node_told mode env _ c.args.totals.now c.args.totals.now c.args.totals.now c.settle.new.totals [] c.named_node-made.result c.in_ok-node-in-Named.node (met-named mode env p c.in-Named.name.now)
    (told_none {P = Unit {0}} mode c.args.totals.now tt) refl (λ k. c.named_node-made.ensures p c.args.totals.now.weight) c.in_ok-node-in-Named.ensures)

pub decided-returns-in_ok-node-in-One : goal.decided-returns-in_ok-node-in-One
unfolding form_tree
decided-returns-in_ok-node-in-One t c =
    let mode = mode_in c.args.scope in
    let env = env_in c.args.scope in
    let p = c.args.e.now.place in
    let d = decisions_in env in
    let held = ap (holds_decision d) (c.in-One.ensures.tree p) ∙ c.requires in
    at_tree mode env _ _ _ _ _ (c.in-One.ensures.tree p)
    (node_told mode env _ c.args.totals.now c.extent_of.new.totals (weighing c.extent_of.new.totals c.finish_one-made.new.total) c.settle-in-One.new.totals _ c.finish_one-made.result c.in_ok-node-in-One.node
    (met-one mode env p c.in-One.op (expr_tree c.in-One.part.now)) c.in_ok-known-in-One.ensures refl (λ known. c.finish_one-made.ensures mode p held known) c.in_ok-node-in-One.ensures)

pub decided-returns-in_ok-node-in-Two : goal.decided-returns-in_ok-node-in-Two
unfolding form_tree
decided-returns-in_ok-node-in-Two t c =
    let mode = mode_in c.args.scope in
    let env = env_in c.args.scope in
    let p = c.args.e.now.place in
    let d = decisions_in env in
    let held = ap (holds_decision d) (c.in-Two.ensures.tree p) ∙ c.requires in
    let op = c.in-Two.op in
    let e = expr_tree c.in-Two.left.now in
    let f = expr_tree c.in-Two.right.now in
    let u = c.extent_of-in-Two-2.new.totals in
    let both : Told mode c.args.totals.now u (met mode env e ++ met mode env f) (IsKnownExtent mode env e c.in_ok-first-in-Two.first × IsKnownExtent mode env f c.in_ok-second-in-Two.second) =
    told_then mode c.args.totals.now c.extent_of-in-Two.new.totals u _ _ c.in_ok-first-in-Two.ensures c.in_ok-second-in-Two.ensures (λ k l. (k, l)) in
    at_tree mode env _ _ _ _ _ (c.in-Two.ensures.tree p)
    (node_told mode env _ c.args.totals.now u (weighing u c.finish_two-made.new.total) c.settle-in-Two.new.totals _ c.finish_two-made.result c.in_ok-node-in-Two.node (met-two mode env p op e f) both refl
    (λ known. c.finish_two-made.ensures mode env p e f held known.0 known.1) c.in_ok-node-in-Two.ensures)

pub decided-returns-in_ok-node-in-Counts : goal.decided-returns-in_ok-node-in-Counts
unfolding form_tree
decided-returns-in_ok-node-in-Counts t c =
    let mode = mode_in c.args.scope in
    let env = env_in c.args.scope in
    let p = c.args.e.now.place in
    let d = decisions_in env in
    let held = ap (holds_decision d) (c.in-Counts.ensures.tree p) ∙ c.requires in
    let op = c.in-Counts.op in
    let e = expr_tree c.in-Counts.list.now in
    let f = expr_tree c.in-Counts.one.now in
    let g = expr_tree c.in-Counts.other.now in
    let u = c.extent_of-in-Counts-2.new.totals in
    let v = c.extent_of-in-Counts-3.new.totals in
    let both : Told mode c.args.totals.now u (met mode env e ++ met mode env f) (IsKnownExtent mode env e c.in_ok-first-in-Counts.first × IsKnownExtent mode env f c.in_ok-second-in-Counts.second) =
    told_then mode c.args.totals.now c.extent_of-in-Counts.new.totals u _ _ c.in_ok-first-in-Counts.ensures c.in_ok-second-in-Counts.ensures (λ k l. (k, l)) in
    let all : Told mode c.args.totals.now v (met mode env e ++ met mode env f ++ met mode env g)
    ((IsKnownExtent mode env e c.in_ok-first-in-Counts.first × IsKnownExtent mode env f c.in_ok-second-in-Counts.second) × IsKnownExtent mode env g c.in_ok-third-in-Counts.third) =
    told_then mode c.args.totals.now u v _ _ both c.in_ok-third-in-Counts.ensures (λ k l. (k, l)) in
    at_tree mode env _ _ _ _ _ (c.in-Counts.ensures.tree p)
    (node_told mode env _ c.args.totals.now v (weighing v c.finish_counts-made.new.total) c.settle-in-Counts.new.totals _ c.finish_counts-made.result c.in_ok-node-in-Counts.node (met-counts mode env p op e f g) all refl
    (λ known. c.finish_counts-made.ensures mode env p e f g held known.0.0 known.0.1 known.1) c.in_ok-node-in-Counts.ensures)

pub decided-returns-in_ok-node-in-Truths : goal.decided-returns-in_ok-node-in-Truths
unfolding form_tree
decided-returns-in_ok-node-in-Truths t c =
    let mode = mode_in c.args.scope in
    let env = env_in c.args.scope in
    let p = c.args.e.now.place in
    let d = decisions_in env in
    let held = ap (holds_decision d) (c.in-Truths.ensures.tree p) ∙ c.requires in
    let every = c.in-Truths.field-0 in
    let xs = c.in-Truths.parts.now in
    let u = c.part_extents.new.totals in
    at_tree mode env _ _ _ _ _ (c.in-Truths.ensures.tree p)
    (node_told mode env _ c.args.totals.now u (weighing u c.finish_truths-made.new.total) c.settle-in-Truths.new.totals _ c.finish_truths-made.result c.in_ok-node-in-Truths.node (met-truths mode env p every (expr_trees xs))
    c.in_ok-_known-in-Truths.ensures refl (λ known. c.finish_truths-made.ensures mode env p every xs refl held) c.in_ok-node-in-Truths.ensures)

pub decided-returns-in_ok-node-in-Chain : goal.decided-returns-in_ok-node-in-Chain
unfolding form_tree
decided-returns-in_ok-node-in-Chain t c =
    let mode = mode_in c.args.scope in
    let env = env_in c.args.scope in
    let p = c.args.e.now.place in
    let d = decisions_in env in
    let held = ap (holds_decision d) (c.in-Chain.ensures.tree p) ∙ c.requires in
    let xs = c.in-Chain.terms.now in
    let u = c.sum_of_terms.new.totals in
    at_tree mode env _ _ _ _ _ (c.in-Chain.ensures.tree p)
    (node_told mode env _ c.args.totals.now u (weighing u c.summed_node-made.new.total) c.settle-in-Chain.new.totals _ c.summed_node-made.result c.in_ok-node-in-Chain.node (met-chain mode env p (terms_of xs))
    c.in_ok-sum-in-Chain.ensures refl (λ sums. c.summed_node-made.ensures mode env _ (spans_of mode env xs) sums (chain_number mode env p xs held)) c.in_ok-node-in-Chain.ensures)

pub decided-returns-in_ok-node-in-InDomain : goal.decided-returns-in_ok-node-in-InDomain
unfolding form_tree
decided-returns-in_ok-node-in-InDomain t c =
    let mode = mode_in c.args.scope in
    let env = env_in c.args.scope in
    let p = c.args.e.now.place in
    let d = decisions_in env in
    let held = ap (holds_decision d) (c.in-InDomain.ensures.tree p) ∙ c.requires in
    let e = expr_tree c.in-InDomain.part.now in
    let dom = domain_tree c.in-InDomain.domain.now in
    let v = c.fixed_numbers.new.totals in
    at_tree mode env _ _ _ _ _ (c.in-InDomain.ensures.tree p)
    (node_told mode env _ c.args.totals.now v (weighing v c.finish_member-made.new.total) c.settle-in-InDomain.new.totals _ c.finish_member-made.result c.in_ok-node-in-InDomain.node (met-in_domain mode env p e dom)
    (told_then mode c.args.totals.now c.extent_of-in-InDomain.new.totals v _ _ c.in_ok-known-in-InDomain.ensures c.in_ok-_numbers-in-InDomain.ensures (λ known set. known)) refl
    (λ known. c.finish_member-made.ensures mode env p e dom held known) c.in_ok-node-in-InDomain.ensures)

pub decided-returns-in_ok-known-in-Quant : goal.decided-returns-in_ok-known-in-Quant
unfolding form_tree
decided-returns-in_ok-known-in-Quant t c =
    let mode = mode_in c.args.scope in
    let env = env_in c.args.scope in
    let p = c.args.e.now.place in
    at_tree mode env _ _ _ _ _ (c.in-Quant.ensures.tree p) (c.in_ok-known-in-Quant.ensures p)

pub decided-returns-in_ok-node-in-Literal : goal.decided-returns-in_ok-node-in-Literal
unfolding form_tree
decided-returns-in_ok-node-in-Literal t c =
    let mode = mode_in c.args.scope in
    let env = env_in c.args.scope in
    let p = c.args.e.now.place in
    let d = decisions_in env in
    let held = ap (holds_decision d) (c.in-Literal.ensures.tree p) ∙ c.requires in
    let xs = c.in-Literal.parts.now in
    let dom = index_at c.in-Literal.domain.now in
    let v = c.index_numbers.new.totals in
    let both : Told mode c.args.totals.now v (met_all mode env (expr_trees xs) ++ met_index mode env dom)
    ((map grid_of c.in_ok-known-in-Literal.known.items ≡ extents_of mode env (expr_trees xs))
    × ((n : ℕ) → measured_indices c.in_ok-indices-in-Literal.indices n ≡ measured_indices (index_values mode env dom n) n)) =
    told_then mode c.args.totals.now c.part_extents-in-Literal.new.totals v _ _ c.in_ok-known-in-Literal.ensures c.in_ok-indices-in-Literal.ensures (λ k l. (k, l)) in
    at_tree mode env _ _ _ _ _ (c.in-Literal.ensures.tree p)
    (node_told mode env _ c.args.totals.now v v c.settle-in-Literal.new.totals _ c.matrix_of-made.result c.in_ok-node-in-Literal.node (met-literal mode env p (expr_trees xs) dom) both refl
    (λ known. lists_finish mode env _ _ v.weight c.matrix_of-made.result
    (literal_node mode env p xs dom c.in_ok-indices-in-Literal.indices c.in_ok-known-in-Literal.known.items held known.0 known.1) c.matrix_of-made.ensures)
    c.in_ok-node-in-Literal.ensures)

pub decided-returns-in_ok-node-in-Comprehension : goal.decided-returns-in_ok-node-in-Comprehension
unfolding form_tree
decided-returns-in_ok-node-in-Comprehension t c =
    let mode = mode_in c.args.scope in
    let env = env_in c.args.scope in
    let p = c.args.e.now.place in
    let d = decisions_in env in
    let held = ap (holds_decision d) (c.in-Comprehension.ensures.tree p) ∙ c.requires in
    let l = c.in-Comprehension.listing in
    at_tree mode env _ _ _ _ _ (c.in-Comprehension.ensures.tree p)
    (comprehension_told mode env p (expr_tree l.body.now) (generators_of c.in-Comprehension.generators.now) (expr_trees l.conditions.now) (index_at c.in-Comprehension.domain.now)
    c.args.totals.now c.generated.new.totals c.index_numbers-in-Comprehension.new.totals c.settle-in-Comprehension.new.totals c.in_ok-indices-in-Comprehension.indices _ c.in_ok-known-in-Comprehension.known.items
    c.matrix_of-made-in-Comprehension.result c.in_ok-node-in-Comprehension.node
    c.new-none.ensures.items c.in_ok-known-in-Comprehension.ensures c.in_ok-indices-in-Comprehension.ensures held c.matrix_of-made-in-Comprehension.ensures c.in_ok-node-in-Comprehension.ensures)

pub decided-returns-in_ok-node-in-Read : goal.decided-returns-in_ok-node-in-Read
unfolding form_tree
decided-returns-in_ok-node-in-Read t c =
    let mode = mode_in c.args.scope in
    let env = env_in c.args.scope in
    let p = c.args.e.now.place in
    let d = decisions_in env in
    let held = ap (holds_decision d) (c.in-Read.ensures.tree p) ∙ c.requires in
    let m = expr_tree c.in-Read.matrix.now in
    let is = indices_of c.in-Read.indices.now in
    let v = c.index_extents.new.totals in
    let both : Told mode c.args.totals.now v (met mode env m ++ met_indices mode env is)
    (IsKnownExtent mode env m c.in_ok-known-in-Read.known × (map measured_of c.in_ok-values-in-Read.values.items ≡ measured_list mode env is)) =
    told_then mode c.args.totals.now c.extent_of-in-Read.new.totals v _ _ c.in_ok-known-in-Read.ensures c.in_ok-values-in-Read.ensures (λ k l. (k, l)) in
    at_tree mode env _ _ _ _ _ (c.in-Read.ensures.tree p)
    (node_told mode env _ c.args.totals.now v (weighing v c.read_node-made.new.total) c.settle-in-Read.new.totals _ c.read_node-made.result c.in_ok-node-in-Read.node (met-read mode env p m is) both refl
    (λ known. c.read_node-made.ensures mode env p m is held known.0 (ap (map measured_of) c.deref.ensures.value ∙ known.1)
    (c.in_ok-ty-in-Read.ensures ∙ ap (type_in env) (sym (c.in-Read.ensures.tree p)))
    (c.names_cells-of_name.ensures mode env c.in-Read.matrix.now.place known.0)) c.in_ok-node-in-Read.ensures)

pub decided-extent_of-requires : goal.decided-extent_of-requires
unfolding IsBelow
decided-extent_of-requires t c = (omega (arith, deeper c.args.e.now (size-Expr c.in-One.part.now) c.in-One.ensures.below, c.decreases), tt)

pub decided-extent_of-requires-in-Two : goal.decided-extent_of-requires-in-Two
unfolding IsBelow
decided-extent_of-requires-in-Two t c = (omega (arith, deeper c.args.e.now (size-Expr c.in-Two.left.now) c.in-Two.ensures.below.0, c.decreases), tt)

pub decided-extent_of-requires-in-Two-2 : goal.decided-extent_of-requires-in-Two-2
unfolding IsBelow
decided-extent_of-requires-in-Two-2 t c = (omega (arith, deeper c.args.e.now (size-Expr c.in-Two.right.now) c.in-Two.ensures.below.1, c.decreases), tt)

pub decided-extent_of-requires-in-Counts : goal.decided-extent_of-requires-in-Counts
unfolding IsBelow
decided-extent_of-requires-in-Counts t c = (omega (arith, deeper c.args.e.now (size-Expr c.in-Counts.list.now) c.in-Counts.ensures.below.0, c.decreases), tt)

pub decided-extent_of-requires-in-Counts-2 : goal.decided-extent_of-requires-in-Counts-2
unfolding IsBelow
decided-extent_of-requires-in-Counts-2 t c = (omega (arith, deeper c.args.e.now (size-Expr c.in-Counts.one.now) c.in-Counts.ensures.below.1.0, c.decreases), tt)

pub decided-extent_of-requires-in-Counts-3 : goal.decided-extent_of-requires-in-Counts-3
unfolding IsBelow
decided-extent_of-requires-in-Counts-3 t c = (omega (arith, deeper c.args.e.now (size-Expr c.in-Counts.other.now) c.in-Counts.ensures.below.1.1, c.decreases), tt)

pub decided-part_extents-requires : goal.decided-part_extents-requires
unfolding IsBelow
decided-part_extents-requires t c = (omega (arith, deeper c.args.e.now (most size-Expr c.in-Truths.parts.now) c.in-Truths.ensures.below, c.decreases), tt)

pub decided-sum_of_terms-requires : goal.decided-sum_of_terms-requires
unfolding IsBelow
decided-sum_of_terms-requires t c = (omega (arith, deeper c.args.e.now (most (λ t. size-Expr t.1) c.in-Chain.terms.now) c.in-Chain.ensures.below, c.decreases), tt)

pub decided-extent_of-requires-in-InDomain : goal.decided-extent_of-requires-in-InDomain
unfolding IsBelow
decided-extent_of-requires-in-InDomain t c = (omega (arith, deeper c.args.e.now (size-Expr c.in-InDomain.part.now) c.in-InDomain.ensures.below.0, c.decreases), tt)

pub decided-quantified-requires : goal.decided-quantified-requires
unfolding IsBelow form_tree
decided-quantified-requires t c =
    let env = env_in c.args.scope in
    let p = c.args.e.now.place in
    let d = decisions_in env in
    let q = c.in-Quant.quantifier in
    let names = c.in-Quant.names.now in
    let deep = of_kind c.args.e.now in
    let below : depth_of q < size-Kind c.args.e.now.kind = c.in-Quant.ensures.below.0 in (
      omega (arith, deep, below, c.in-Quant.ensures.below.1, c.decreases),
      sym (holds_decision-quantified d p q.op names (domain_tree q.domain.now) (expr_tree q.body.now)) ∙ ap (holds_decision d) (c.in-Quant.ensures.tree p) ∙ c.requires,
    )

pub decided-part_extents-requires-in-Literal : goal.decided-part_extents-requires-in-Literal
unfolding IsBelow
decided-part_extents-requires-in-Literal t c = (omega (arith, deeper c.args.e.now (most size-Expr c.in-Literal.parts.now) c.in-Literal.ensures.below.0, c.decreases), tt)

pub decided-generated-requires : goal.decided-generated-requires
unfolding IsBelow
decided-generated-requires t c = (omega (arith, deeper c.args.e.now (generators_depth c.in-Comprehension.listing c.in-Comprehension.generators.now) c.in-Comprehension.ensures.below.0.0, c.decreases, c.in-Comprehension.ensures.below.0.1), tt)

pub decided-extent_of-requires-in-Read : goal.decided-extent_of-requires-in-Read
unfolding IsBelow
decided-extent_of-requires-in-Read t c = (omega (arith, deeper c.args.e.now (size-Expr c.in-Read.matrix.now) c.in-Read.ensures.below.0, c.decreases), tt)

pub decided-index_extents-requires : goal.decided-index_extents-requires
unfolding IsBelow
decided-index_extents-requires t c = (omega (arith, deeper c.args.e.now (most end_depth c.in-Read.indices.now) c.in-Read.ensures.below.1, c.decreases), tt)

pub index_extents-loop-index-init : goal.index_extents-loop-index-init
index_extents-loop-index-init t c =
    indices_begin (mode_in c.args.scope) (env_in c.args.scope) c.args.totals.now c.args.indices.now _ c.new-values.ensures.items

pub index_extents-loop-index-preserved : goal.index_extents-loop-index-preserved
index_extents-loop-index-preserved t c =
    let all : List (Option Expr) = c.args.indices.now in
    let k : ℕ = c.loop-index.index-index in
    let cut : drop k all ≡ c.index-item.result ∷ drop (k + 1) all = drop_more all k _ c.loop-index-test.true ∙ ap (λ r. r ∷ drop (k + 1) all) (sym c.index-item.is) in
    indices_more (mode_in c.args.scope) (env_in c.args.scope) c.args.totals.now c.loop-index.totals c.index_extent.new.totals all _ c.index-item.result (drop (k + 1) all) c.loop-index.values.items _ c.in_ok-value.value
    c.loop-index.invariant cut c.in_ok-value.ensures c.in_ok-push.ensures.items

pub index_extents-returns : goal.index_extents-returns
index_extents-returns t c =
    indices_end (mode_in c.args.scope) (env_in c.args.scope) c.args.totals.now c.loop-index.totals c.args.indices.now _ c.loop-index.values.items c.loop-index.invariant
    (drop_all c.loop-index.index-index c.args.indices.now c.loop-index-test.false)

pub part_extents-loop-part-init : goal.part_extents-loop-part-init
part_extents-loop-part-init t c =
    parts_begin (mode_in c.args.scope) (env_in c.args.scope) c.args.totals.now c.args.parts.now _ c.new-known.ensures.items

pub part_extents-loop-part-preserved : goal.part_extents-loop-part-preserved
part_extents-loop-part-preserved t c =
    let all : List Expr = c.args.parts.now in
    let k : ℕ = c.loop-part.part-index in
    let cut : drop k all ≡ c.part-item.result ∷ drop (k + 1) all = drop_more all k _ c.loop-part-test.true ∙ ap (λ r. r ∷ drop (k + 1) all) (sym c.part-item.is) in
    parts_more (mode_in c.args.scope) (env_in c.args.scope) c.args.totals.now c.loop-part.totals c.extent_of.new.totals all _ c.part-item.result (drop (k + 1) all) c.loop-part.known.items _ c.in_ok-one.one
    c.loop-part.invariant cut c.in_ok-one.ensures c.in_ok-push.ensures.items

pub part_extents-returns : goal.part_extents-returns
part_extents-returns t c =
    parts_end (mode_in c.args.scope) (env_in c.args.scope) c.args.totals.now c.loop-part.totals c.args.parts.now _ c.loop-part.known.items c.loop-part.invariant
    (drop_all c.loop-part.part-index c.args.parts.now c.loop-part-test.false)

pub sum_of_terms-loop-term-init : goal.sum_of_terms-loop-term-init
sum_of_terms-loop-term-init t c =
    terms_begin (mode_in c.args.scope) (env_in c.args.scope) c.args.totals.now c.args.terms.now c.new-sum.result c.new-sum.ensures

pub sum_of_terms-loop-term-preserved : goal.sum_of_terms-loop-term-preserved
sum_of_terms-loop-term-preserved t c =
    let xs = c.args.terms.now in
    let few : length xs < 2 ^ 64 = omega (arith, c.well_formed.1.1.0.1) in
    terms_more (mode_in c.args.scope) (env_in c.args.scope) c.args.totals.now c.loop-term.totals c.extent_of.new.totals xs c.loop-term.term-index c.term-item.result _ c.loop-term.sum c.add_signed.new.self c.in_ok-known.known _
    c.loop-term-test.true c.term-item.is few c.loop-term.invariant c.in_ok-known.ensures c.number_span-span.ensures c.add_signed.ensures

pub sum_of_terms-returns : goal.sum_of_terms-returns
sum_of_terms-returns t c =
    terms_end (mode_in c.args.scope) (env_in c.args.scope) c.args.totals.now c.loop-term.totals c.args.terms.now c.loop-term.term-index c.loop-term.sum (omega (arith, c.loop-term-test.false)) c.loop-term.invariant

pub index_extent-extent_of-requires : goal.index_extent-extent_of-requires
unfolding end_depth
index_extent-extent_of-requires t c =
    let own : end_depth c.args.index.now ≡ size-Expr c.in-Some.e = ap end_depth c.in-Some.is in
    (omega (arith, own, c.decreases), tt)

pub index_extent-returns-in_ok-known-in-Some : goal.index_extent-returns-in_ok-known-in-Some
index_extent-returns-in_ok-known-in-Some t c =
    let mode = mode_in c.args.scope in
    let env = env_in c.args.scope in
    subst (λ ms. Told mode c.args.totals.now c.extent_of.new.totals ms (measured_of c.index_with.result ≡ index_of mode env (end_of c.args.index.now))) (met_stated mode env c.args.index.now c.in-Some.e c.in-Some.is)
    (told_as mode c.args.totals.now c.extent_of.new.totals _ c.in_ok-known-in-Some.ensures
    (λ known. c.index_with.ensures mode env (expr_tree c.in-Some.e) known ∙ value_stated mode env c.args.index.now c.in-Some.e c.in-Some.is))

pub index_extent-returns-in-None : goal.index_extent-returns-in-None
index_extent-returns-in-None t c =
    let mode = mode_in c.args.scope in
    let env = env_in c.args.scope in
    subst (λ ms. Told mode c.args.totals.now c.args.totals.now ms (measured_of Every ≡ index_of mode env (end_of c.args.index.now))) (met_every mode env c.args.index.now c.in-None.is)
    (told_none mode c.args.totals.now (value_every mode env c.args.index.now c.in-None.is))

pub quantified-over_domain-requires : goal.quantified-over_domain-requires
quantified-over_domain-requires t c =
    let env = env_in c.args.scope in
    let q = c.args.quantifier in
    let e = expr_tree q.body.now in
    let cut = c.in-Some.ensures.cases.0 in
    let free = none_passed _ _ c.is_over.ensures c.if-is_over.false in
    let long = ap length cut in (
      omega (arith, long, c.decreases),
      (subst (λ ns. holds_decision (hiding ns (decisions_in env)) e ≡ true) cut c.requires.holds, (c.in_ok-numbers-in-Some.ensures.told free).1),
    )

pub quantified-extent_of-requires : goal.quantified-extent_of-requires
quantified-extent_of-requires t c =
    let q = c.args.quantifier in
    let within : size-Expr q.body.now ≤ depth_of q = second_within (size-Domain q.domain.now) (size-Expr q.body.now) in
    (omega (arith, within, c.decreases), tt)

pub quantified-returns-then-is_over : goal.quantified-returns-then-is_over
quantified-returns-then-is_over t c p =
    let mode = mode_in c.args.scope in
    let env = env_in c.args.scope in
    let q = c.args.quantifier in
    let d = domain_tree q.domain.now in
    let e = expr_tree q.body.now in
    let name = c.in-Some.name.now in
    let rest = c.in-Some.rest.now in
    let cut = c.in-Some.ensures.cases.0 in
    subst (λ ns. Told mode c.args.totals.now c.fixed_numbers.new.totals (met mode env (quantified_tree p q ns)) (IsKnownExtent mode env (quantified_tree p q ns) Nothing)) (sym cut)
    (node_stops mode c.args.totals.now c.fixed_numbers.new.totals _ _ (met_domain mode env d) _ (met_quantified mode env p q.op name rest d e) c.in_ok-numbers-in-Some.ensures (sym c.is_over.ensures ∙ c.if-is_over.true))

pub quantified-returns-in_ok-node-in-Some : goal.quantified-returns-in_ok-node-in-Some
quantified-returns-in_ok-node-in-Some t c p =
    let mode = mode_in c.args.scope in
    let env = env_in c.args.scope in
    let q = c.args.quantifier in
    let d = domain_tree q.domain.now in
    let e = expr_tree q.body.now in
    let name = c.in-Some.name.now in
    let rest = c.in-Some.rest.now in
    let cut = c.in-Some.ensures.cases.0 in
    let free = none_passed _ _ c.is_over.ensures c.if-is_over.false in
    let held = subst (λ ns. holds_decision (hiding ns (decisions_in env)) e ≡ true) cut c.requires.holds in
    let numbers = c.in_ok-numbers-in-Some.numbers in
    let set : numbers ≡ domain_values mode env d = (c.in_ok-numbers-in-Some.ensures.told free).1 in
    let u = c.over_domain.new.totals in
    subst (λ ns. Told mode c.args.totals.now c.settle.new.totals (met mode env (quantified_tree p q ns)) (IsKnownExtent mode env (quantified_tree p q ns) c.in_ok-node-in-Some.node)) (sym cut)
    (node_told mode env (quantified_tree p q (name ∷ rest)) c.args.totals.now u (weighing u c.finish_quantifier-made.new.total) c.settle.new.totals _ c.finish_quantifier-made.result c.in_ok-node-in-Some.node
    (meets_quantified mode env p q.op name rest d e numbers set)
    (told_then mode c.args.totals.now c.fixed_numbers.new.totals u _ _ c.in_ok-numbers-in-Some.ensures (c.in_ok-known-in-Some.ensures p) (λ is known. known)) refl
    (λ known. c.finish_quantifier-made.ensures mode env _ (option_map (spans_at mode env p q.op name rest d e) numbers)
    (subst (HasInstances c.in_ok-known-in-Some.known) (spans_told mode env p q.op name rest d e numbers) known)
    (quantified_number mode env p q.op name rest d e numbers held (sym set))) c.in_ok-node-in-Some.ensures)

pub quantified-returns-in_ok-known-in-None : goal.quantified-returns-in_ok-known-in-None
quantified-returns-in_ok-known-in-None t c p =
    let mode = mode_in c.args.scope in
    let env = env_in c.args.scope in
    let q = c.args.quantifier in
    let d = domain_tree q.domain.now in
    let e = expr_tree q.body.now in
    let none = no_runs c.args.names.now c.in-None.ensures.cases in
    let held = subst (λ ns. holds_decision (hiding ns (decisions_in env)) e ≡ true) none c.requires.holds in
    subst (λ ns. Told mode c.args.totals.now c.extent_of.new.totals (met mode env (quantified_tree p q ns)) (IsKnownExtent mode env (quantified_tree p q ns) c.bare_quantifier.result)) (sym none)
    (subst (λ ms. Told mode c.args.totals.now c.extent_of.new.totals ms (IsKnownExtent mode env (quantified_tree p q []) c.bare_quantifier.result)) (sym (met_bare mode env p q.op d e))
    (told_as mode c.args.totals.now c.extent_of.new.totals _ c.in_ok-known-in-None.ensures
    (λ known. c.bare_quantifier.ensures mode env (quantified_tree p q []) e known (bare_is mode env p q.op d e held) (quantified_holds env p q.op [] d e held))))

pub over_domain-instances-requires : goal.over_domain-instances-requires
over_domain-instances-requires t c =
    (omega (arith, c.decreases), (c.requires.holds, sym c.requires.set ∙ c.in-Some.is))

pub over_domain-returns-in_ok-known-in-Some : goal.over_domain-returns-in_ok-known-in-Some
over_domain-returns-in_ok-known-in-Some t c p =
    let mode = mode_in c.args.scope in
    let env = env_in c.args.scope in
    let q = c.args.quantifier in
    let name = c.args.name.now in
    let rest = c.args.rest.now in
    subst (λ o. Told mode c.args.totals.now c.instances.new.totals (flat_map (instance_nodes mode env p q name rest) (unwrap_or o []))
    (HasInstances c.in_ok-known-in-Some.known (map (instance_at mode env p q name rest) (unwrap_or o [])))) (sym c.in-Some.is) (c.in_ok-known-in-Some.ensures p)

pub over_domain-returns-in-None : goal.over_domain-returns-in-None
over_domain-returns-in-None t c p =
    let mode = mode_in c.args.scope in
    let env = env_in c.args.scope in
    let q = c.args.quantifier in
    let name = c.args.name.now in
    let rest = c.args.rest.now in
    subst (λ o. Told mode c.args.totals.now c.args.totals.now (flat_map (instance_nodes mode env p q name rest) (unwrap_or o []))
    (HasInstances c.no_instances.result (map (instance_at mode env p q name rest) (unwrap_or o [])))) (sym c.in-None.is) (told_none mode c.args.totals.now c.no_instances.ensures)

pub instances-loop-number-init : goal.instances-loop-number-init
instances-loop-number-init t c =
    let mode = mode_in c.args.scope in
    let env = env_in c.args.scope in
    let q = c.args.quantifier in
    let name = c.args.name.now in
    let rest = c.args.rest.now in (
      c.walk_of-walk.ensures.walk,
      λ p. instancing_begins mode (instance_at mode env p q name rest) (instance_nodes mode env p q name rest)
          c.args.totals.now c.args.set.now (numbers_left c.walk_of-walk.result) c.no_instances-known.result (c.walk_of-walk.ensures.numbers ∙ c.runs.ensures.numbers) c.no_instances-known.ensures,
    )

pub instances-next_number-requires : goal.instances-next_number-requires
instances-next_number-requires t c =
    c.loop-number.invariant.0

pub instances-loop-number-smaller : goal.instances-loop-number-smaller
unfolding before_rest
instances-loop-number-smaller t c =
    let cut : numbers_left c.loop-number.walk ≡ c.in-Some.number ∷ numbers_left c.in-Some.behind = c.next_number.ensures.numbers ∙ ap before_rest c.in-Some.is in
    let longer = ap length cut in
    omega (arith, longer)

pub instances-quantified-requires : goal.instances-quantified-requires
unfolding with_all
instances-quantified-requires t c =
    let env = env_in c.args.scope in
    let q = c.args.quantifier in
    let e = expr_tree q.body.now in
    let name = c.args.name.now in
    let rest = c.args.rest.now in
    (omega (arith, c.decreases), held_within env name c.scalar_of-scalar.result (to_z w64 (of_z w64 c.in-Some.number)) rest e c.requires.holds)

pub instances-loop-number-preserved : goal.instances-loop-number-preserved
unfolding before_rest IsWalkBehind with_all
instances-loop-number-preserved t c =
    let mode = mode_in c.args.scope in
    let env = env_in c.args.scope in
    let q = c.args.quantifier in
    let d = domain_tree q.domain.now in
    let name = c.args.name.now in
    let rest = c.args.rest.now in
    let n = c.in-Some.number in
    let cut : numbers_left c.loop-number.walk ≡ c.in-Some.number ∷ numbers_left c.in-Some.behind = c.next_number.ensures.numbers ∙ ap before_rest c.in-Some.is in
    let scalar : c.scalar_of-scalar.result ≡ scalar_in env d = c.scalar_of-scalar.ensures mode (λ none. absurd (let x = sym c.requires.set ∙ none in cc)) in
    let same : to_z w64 (of_z w64 n) ≡ n = to_z-of_z w64 n (omega (arith, ints)) in
    let x = c.in_ok-instance.instance in (
      subst IsWalkBehind c.in-Some.is c.next_number.ensures.walk,
      λ p. instancing_goes_on mode (instance_at mode env p q name rest) (instance_nodes mode env p q name rest)
          c.args.totals.now c.loop-number.totals c.quantified.new.totals c.args.set.now (numbers_left c.loop-number.walk) (numbers_left c.in-Some.behind)
          c.loop-number.known c.with_instance-known.result n (span_of (grid_of x))
          (c.loop-number.invariant.1 p) cut
          (told_as mode c.loop-number.totals c.quantified.new.totals _
          (subst (λ s. Told mode c.loop-number.totals c.quantified.new.totals (met mode (with_number name s n env) (quantified_tree p q rest)) (IsKnownExtent mode (with_number name s n env) (quantified_tree p q rest) x)) scalar
          (subst (λ m. Told mode c.loop-number.totals c.quantified.new.totals (met mode (with_number name c.scalar_of-scalar.result m env) (quantified_tree p q rest)) (IsKnownExtent mode (with_number name c.scalar_of-scalar.result m env) (quantified_tree p q rest) x)) same
          (c.in_ok-instance.ensures p)))
          (λ known. ap span_of (sym known.extent)))
          (meets_some mode (instance_env env q name n) (quantified_tree p q rest))
          c.with_instance-known.ensures,
    )

pub instances-returns-then-is_over : goal.instances-returns-then-is_over
instances-returns-then-is_over t c p =
    going_stops (mode_in c.args.scope) c.args.totals.now c.loop-number.totals _ _ (c.loop-number.invariant.1 p) (sym c.is_over.ensures ∙ c.if-is_over.true)

pub instances-returns : goal.instances-returns
unfolding before_rest
instances-returns t c p =
    let mode = mode_in c.args.scope in
    let env = env_in c.args.scope in
    let q = c.args.quantifier in
    let name = c.args.name.now in
    let rest = c.args.rest.now in
    instancing_ends mode (instance_at mode env p q name rest) (instance_nodes mode env p q name rest)
    c.args.totals.now c.loop-number.totals c.args.set.now (numbers_left c.loop-number.walk) c.loop-number.known (c.loop-number.invariant.1 p)
    (c.next_number.ensures.numbers ∙ ap before_rest c.in_default.is)

pub generated-over_names-requires : goal.generated-over_names-requires
generated-over_names-requires t c =
    let cut = c.in-Some.ensures.cases.0 in
    let long = ap length cut in
    let depth = first_generator c.args.listing c.args.generators.now c.in-Some.first.now c.in-Some.later.now c.in-Some.first.now.domain cut refl in
    (omega (arith, depth, long, c.decreases, c.deref.ensures.len), tt)

pub generated-with_part-requires : goal.generated-with_part-requires
generated-with_part-requires t c =
    let l = c.args.listing in
    let within : listing_depth l ≤ generators_depth l c.args.generators.now = first_within (listing_depth l) (most size-Generator c.args.generators.now) in
    (omega (arith, within, c.decreases), tt)

pub generated-returns-in_ok-more-in-Some : goal.generated-returns-in_ok-more-in-Some
generated-returns-in_ok-more-in-Some t c =
    let mode = mode_in c.args.scope in
    let env = env_in c.args.scope in
    let l = c.args.listing in
    let gens = generators_first c.args.generators.now c.in-Some.first.now c.in-Some.later.now (domain_tree c.in-Some.first.now.domain) c.deref.result.now c.in-Some.ensures.cases.0 refl (sym c.deref.ensures.value) in
    subst (λ g. Told mode c.args.totals.now c.over_names.new.totals (nodes_of mode l g env) (map grid_of c.in_ok-more-in-Some.more.items ≡ map grid_of c.args.front.items ++ known_of mode l g env)) (sym gens) c.in_ok-more-in-Some.ensures

pub generated-returns-in_ok-more-in-None : goal.generated-returns-in_ok-more-in-None
generated-returns-in_ok-more-in-None t c =
    let mode = mode_in c.args.scope in
    let env = env_in c.args.scope in
    let l = c.args.listing in
    let e = expr_tree l.body.now in
    let cs = expr_trees l.conditions.now in
    let gens = generators_none c.args.generators.now (no_runs c.args.generators.now c.in-None.ensures.cases) in
    subst (λ g. Told mode c.args.totals.now c.with_part.new.totals (nodes_of mode l g env) (map grid_of c.in_ok-more-in-None.more.items ≡ map grid_of c.args.front.items ++ known_of mode l g env)) (sym gens)
    (subst (λ ms. Told mode c.args.totals.now c.with_part.new.totals ms (map grid_of c.in_ok-more-in-None.more.items ≡ map grid_of c.args.front.items ++ known_of mode l no_generators env)) (sym (nodes_part mode e cs env))
    (told_as mode c.args.totals.now c.with_part.new.totals _ c.in_ok-more-in-None.ensures (λ is. is ∙ ap (λ xs. map grid_of c.args.front.items ++ xs) (sym (extents_part mode e cs env)))))

pub over_names-over_range-requires : goal.over_names-over_range-requires
over_names-over_range-requires t c =
    let long = ap length c.in-Some.ensures.cases.0 in
    let free = none_passed _ _ c.is_over.ensures c.if-is_over.false in
    (omega (arith, long, c.decreases), (c.in_ok-numbers-in-Some.ensures.told free).1)

pub over_names-generated-requires : goal.over_names-generated-requires
over_names-generated-requires t c =
    let r = c.args.ranging in
    let within = second_within (size-Domain r.domain.now) (generators_depth r.listing r.later.now) in
    (omega (arith, within, c.decreases), tt)

pub over_names-returns-then-is_over : goal.over_names-returns-then-is_over
over_names-returns-then-is_over t c =
    let mode = mode_in c.args.scope in
    let env = env_in c.args.scope in
    let r = c.args.ranging in
    let l = r.listing in
    let e = expr_tree l.body.now in
    let cs = expr_trees l.conditions.now in
    let d = domain_tree r.domain.now in
    let gens = generators_of r.later.now in
    let name = c.in-Some.name.now in
    let rest = c.in-Some.rest.now in
    subst (λ ns. Told mode c.args.totals.now c.fixed_numbers.new.totals (nodes_of mode l (ranging_over r ns) env) (map grid_of c.args.front.items ≡ map grid_of c.args.front.items ++ known_of mode l (ranging_over r ns) env)) (sym c.in-Some.ensures.cases.0)
    (name_stops mode e cs name rest d gens env c.args.totals.now c.fixed_numbers.new.totals c.in_ok-numbers-in-Some.ensures (sym c.is_over.ensures ∙ c.if-is_over.true))

pub over_names-returns-in_ok-more-in-Some : goal.over_names-returns-in_ok-more-in-Some
over_names-returns-in_ok-more-in-Some t c =
    let mode = mode_in c.args.scope in
    let env = env_in c.args.scope in
    let r = c.args.ranging in
    let l = r.listing in
    let e = expr_tree l.body.now in
    let cs = expr_trees l.conditions.now in
    let d = domain_tree r.domain.now in
    let gens = generators_of r.later.now in
    let name = c.in-Some.name.now in
    let rest = c.in-Some.rest.now in
    let free = none_passed _ _ c.is_over.ensures c.if-is_over.false in
    let after : Totals = record { meter = c.count_name.new.meter; weight = c.over_range.new.totals.weight } in
    subst (λ ns. Told mode c.args.totals.now after (nodes_of mode l (ranging_over r ns) env) (map grid_of c.in_ok-more-in-Some.more.items ≡ map grid_of c.args.front.items ++ known_of mode l (ranging_over r ns) env)) (sym c.in-Some.ensures.cases.0)
    (name_told mode e cs name rest d gens env c.args.totals.now c.fixed_numbers.new.totals c.over_range.new.totals c.count_name.new.meter c.in_ok-numbers-in-Some.numbers
    (map grid_of c.args.front.items) (map grid_of c.in_ok-more-in-Some.more.items) c.in_ok-numbers-in-Some.ensures free c.in_ok-more-in-Some.ensures c.count_name.ensures)

pub over_names-returns-in_ok-more-in-None : goal.over_names-returns-in_ok-more-in-None
over_names-returns-in_ok-more-in-None t c =
    let mode = mode_in c.args.scope in
    let env = env_in c.args.scope in
    let r = c.args.ranging in
    let l = r.listing in
    let e = expr_tree l.body.now in
    let cs = expr_trees l.conditions.now in
    let d = domain_tree r.domain.now in
    let gens = generators_of r.later.now in
    subst (λ ns. Told mode c.args.totals.now c.generated.new.totals (nodes_of mode l (ranging_over r ns) env) (map grid_of c.in_ok-more-in-None.more.items ≡ map grid_of c.args.front.items ++ known_of mode l (ranging_over r ns) env)) (sym (no_runs c.args.names.now c.in-None.ensures.cases))
    (subst (λ ms. Told mode c.args.totals.now c.generated.new.totals ms (map grid_of c.in_ok-more-in-None.more.items ≡ map grid_of c.args.front.items ++ known_of mode l (ranging_over r []) env)) (sym (nodes_bare mode e cs d gens env))
    (told_as mode c.args.totals.now c.generated.new.totals _ c.in_ok-more-in-None.ensures (λ is. is ∙ ap (λ xs. map grid_of c.args.front.items ++ xs) (sym (extents_bare mode e cs d gens env)))))

pub over_range-over_numbers-requires : goal.over_range-over_numbers-requires
over_range-over_numbers-requires t c =
    (omega (arith, c.decreases), sym c.requires.set ∙ c.in-Some.is)

pub over_range-returns-in_ok-more-in-Some : goal.over_range-returns-in_ok-more-in-Some
over_range-returns-in_ok-more-in-Some t c =
    let mode = mode_in c.args.scope in
    let env = env_in c.args.scope in
    let r = c.args.ranging in
    let name = c.args.name.now in
    let rest = c.args.rest.now in
    subst (λ o. Told mode c.args.totals.now c.over_numbers.new.totals (flat_map (nodes_at mode env r name rest) (unwrap_or o [])) (map grid_of c.in_ok-more-in-Some.more.items ≡ map grid_of c.args.front.items ++ flat_map (known_at mode env r name rest) (unwrap_or o []))) (sym c.in-Some.is) c.in_ok-more-in-Some.ensures

pub over_range-returns-in-None : goal.over_range-returns-in-None
over_range-returns-in-None t c =
    let mode = mode_in c.args.scope in
    let env = env_in c.args.scope in
    let r = c.args.ranging in
    let name = c.args.name.now in
    let rest = c.args.rest.now in
    subst (λ o. Told mode c.args.totals.now c.args.totals.now (flat_map (nodes_at mode env r name rest) (unwrap_or o [])) (map grid_of c.args.front.items ≡ map grid_of c.args.front.items ++ flat_map (known_at mode env r name rest) (unwrap_or o []))) (sym c.in-None.is)
    (told_none mode c.args.totals.now (nothing_behind (map grid_of c.args.front.items) [] refl))

pub over_numbers-loop-number-init : goal.over_numbers-loop-number-init
over_numbers-loop-number-init t c =
    let mode = mode_in c.args.scope in
    let env = env_in c.args.scope in
    let r = c.args.ranging in
    let name = c.args.name.now in
    let rest = c.args.rest.now in (
      c.walk_of-walk.ensures.walk,
      listed_begins mode (known_at mode env r name rest) (nodes_at mode env r name rest)
          c.args.totals.now c.args.set.now (numbers_left c.walk_of-walk.result) (map grid_of c.args.front.items) (c.walk_of-walk.ensures.numbers ∙ c.runs.ensures.numbers),
    )

pub over_numbers-next_number-requires : goal.over_numbers-next_number-requires
over_numbers-next_number-requires t c =
    c.loop-number.invariant.0

pub over_numbers-loop-number-smaller : goal.over_numbers-loop-number-smaller
unfolding before_rest
over_numbers-loop-number-smaller t c =
    let cut : numbers_left c.loop-number.walk ≡ c.in-Some.number ∷ numbers_left c.in-Some.behind = c.next_number.ensures.numbers ∙ ap before_rest c.in-Some.is in
    let longer = ap length cut in
    omega (arith, longer)

pub over_numbers-loop-number-preserved : goal.over_numbers-loop-number-preserved
unfolding before_rest IsWalkBehind with_all
over_numbers-loop-number-preserved t c =
    let mode = mode_in c.args.scope in
    let env = env_in c.args.scope in
    let r = c.args.ranging in
    let l = r.listing in
    let d = domain_tree r.domain.now in
    let name = c.args.name.now in
    let rest = c.args.rest.now in
    let n = c.in-Some.number in
    let cut : numbers_left c.loop-number.walk ≡ c.in-Some.number ∷ numbers_left c.in-Some.behind = c.next_number.ensures.numbers ∙ ap before_rest c.in-Some.is in
    let scalar : c.scalar_of-scalar.result ≡ scalar_in env d = c.scalar_of-scalar.ensures mode (λ none. absurd (let x = sym c.requires.set ∙ none in cc)) in
    let same : to_z w64 (of_z w64 n) ≡ n = to_z-of_z w64 n (omega (arith, ints)) in
    let old = map grid_of c.loop-number.more.items in
    let new = map grid_of c.in_ok-more.more.items in (
      subst IsWalkBehind c.in-Some.is c.next_number.ensures.walk,
      listed_goes_on mode (known_at mode env r name rest) (nodes_at mode env r name rest)
          c.args.totals.now c.loop-number.totals c.over_names.new.totals c.args.set.now (numbers_left c.loop-number.walk) (numbers_left c.in-Some.behind)
          (map grid_of c.args.front.items) old new n c.loop-number.invariant.1 cut
          (subst (λ s. Told mode c.loop-number.totals c.over_names.new.totals (nodes_of mode l (ranging_over r rest) (with_number name s n env)) (new ≡ old ++ known_of mode l (ranging_over r rest) (with_number name s n env))) scalar
          (subst (λ m. Told mode c.loop-number.totals c.over_names.new.totals (nodes_of mode l (ranging_over r rest) (with_number name c.scalar_of-scalar.result m env)) (new ≡ old ++ known_of mode l (ranging_over r rest) (with_number name c.scalar_of-scalar.result m env))) same
          c.in_ok-more.ensures)),
    )

pub over_numbers-returns-then-is_over : goal.over_numbers-returns-then-is_over
over_numbers-returns-then-is_over t c =
    going_stops (mode_in c.args.scope) c.args.totals.now c.loop-number.totals _ _ c.loop-number.invariant.1 (sym c.is_over.ensures ∙ c.if-is_over.true)

pub over_numbers-returns : goal.over_numbers-returns
unfolding before_rest
over_numbers-returns t c =
    let mode = mode_in c.args.scope in
    let env = env_in c.args.scope in
    let r = c.args.ranging in
    let name = c.args.name.now in
    let rest = c.args.rest.now in
    listed_ends mode (known_at mode env r name rest) (nodes_at mode env r name rest)
    c.args.totals.now c.loop-number.totals c.args.set.now (numbers_left c.loop-number.walk) (map grid_of c.args.front.items) (map grid_of c.loop-number.more.items) c.loop-number.invariant.1
    (c.next_number.ensures.numbers ∙ ap before_rest c.in_default.is)

pub with_part-extent_of-requires : goal.with_part-extent_of-requires
with_part-extent_of-requires t c =
    let l = c.args.listing in
    let within : size-Expr l.body.now ≤ listing_depth l = first_within (size-Expr l.body.now) (most size-Expr l.conditions.now) in
    (omega (arith, within, c.decreases), tt)

pub with_part-returns-then-is_over : goal.with_part-returns-then-is_over
with_part-returns-then-is_over t c =
    let mode = mode_in c.args.scope in
    let env = env_in c.args.scope in
    let l = c.args.listing in
    let e = expr_tree l.body.now in
    let cs = expr_trees l.conditions.now in
    conditions_stop mode e cs env c.args.totals.now c.all_true.new.totals c.in_ok-holds.ensures (sym c.is_over.ensures ∙ c.if-is_over.true)

pub with_part-returns-then-holds : goal.with_part-returns-then-holds
with_part-returns-then-holds t c =
    let mode = mode_in c.args.scope in
    let env = env_in c.args.scope in
    let l = c.args.listing in
    let e = expr_tree l.body.now in
    let cs = expr_trees l.conditions.now in
    let free = none_passed _ _ c.is_over.ensures c.if-is_over.false in
    part_told mode e cs env c.args.totals.now c.all_true.new.totals c.extent_of.new.totals c.args.front.items c.in_ok-more.more.items c.in_ok-one.one c.in_ok-holds.holds
    c.in_ok-holds.ensures free c.if-holds.true c.in_ok-one.ensures c.in_ok-more.ensures

pub with_part-returns : goal.with_part-returns
with_part-returns t c =
    let mode = mode_in c.args.scope in
    let env = env_in c.args.scope in
    let l = c.args.listing in
    let e = expr_tree l.body.now in
    let cs = expr_trees l.conditions.now in
    let free = none_passed _ _ c.is_over.ensures c.if-is_over.false in
    no_part_told mode e cs env c.args.totals.now c.all_true.new.totals c.args.front.items c.in_ok-holds.holds c.in_ok-holds.ensures free c.if-holds.false
