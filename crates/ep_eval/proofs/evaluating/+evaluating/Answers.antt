use Rattle.ep_eval.proofs.Words.{refl, ◌≡◌, ◌≤◌, ◌+◌, Bool, ◌∷◌, ℕ, ℤ, List, drop, length, subst, [], ap, sym, ◌∙◌, arith, Some, None, Option, w64, to_z, of_z, ◌++◌, flat_map, map, option_map, true, false, unwrap_or, to_z-of_z, ints, drop_all, drop_more, map_both, Run, deeper, first_generator, first_within, second_within, form_tree, index_at, quantified_tree, IsBelow, depth_of, end_depth, generators_depth, index_depth, listing_depth, evaluate-named, evaluate-number, evaluate-truth, domain_values-ascend, domain_kind_tree-bool, domain_kind_tree-group, domain_kind_tree-int, domain_kind_tree-matrix, domain_kind_tree-named, domain_kind_tree-ranges, domain_kind_tree-set, set_values, scalar_in, with_number, domain_values, end_value, evaluate, index_values, number_in, range_values, signed, met, met_domain, bool, group_domain, int, matrix_domain, named_domain, no_generators, ranges, set_domain, single, domain_kind_tree, domain_tree, domains_of, end_of, expr_tree, expr_trees, generators_of, indices_of, ranges_of, terms_of, value_tree, Domain, size-Domain, Expr, size-Expr, size-Generator, Range, size-Range, Value, together, gathered_of, worth, nodes_at, nodes_of, parts_at, parts_of, ranging_over, some_joined, held_value, seen_held, instance_env, instance_nodes, instance_value, env_of, listed_in, Told, alone, has_in, run_has, with_index, env_in, mode_in, with_all, IsWalkBehind, before_rest, numbers_left, most}
use Rattle.ep_eval.proofs.ArmSteps.{at_tree, chain_told, counts_told, literal_told, named_told, number_told, one_told, read_told, truth_told, truths_told, two_told, within_told}
use Rattle.ep_eval.proofs.GeneratingDepths.{ends_within}
use Rattle.ep_eval.proofs.GeneratingSteps.{before_others, comprehension_told, conditions_stop, generators_first, generators_none, listed_begins, listed_ends, listed_goes_on, lost_behind, lost_part_told, name_stops, name_told, no_part_told, nodes_bare, nodes_part, part_told, values_bare, values_part}
use Rattle.ep_eval.proofs.IndexSteps.{indices_begin, indices_end, indices_more}
use Rattle.ep_eval.proofs.Instances.{gathering_begins, gathering_ends, gathering_goes_on, met_bare, met_quantified, quantified_bare, quantified_told}
use Rattle.ep_eval.proofs.LiteralForms.{index_values-none, index_values-some, met_index-none, met_index-some, parts_begin, parts_end, parts_more}
use Rattle.ep_eval.proofs.MeterSteps.{going_stops, joins, meets_some, node_stops, none_passed, told_as, told_none, told_then}
use Rattle.ep_eval.proofs.PartSteps.{TruthsSoFar, truths_begin, truths_end, truths_more}
use Rattle.ep_eval.proofs.IndexSteps.{IndicesSoFar}
use Rattle.ep_eval.proofs.LiteralForms.{PartsSoFar}
use Rattle.ep_eval.proofs.RangeNumbers.{RunsSoFar, alone-one, alone-span, end_value-none, end_value-some, met_alone-one, met_alone-span, met_end-none, met_end-some, runs_begin, runs_end, runs_more}
use Rattle.ep_eval.proofs.SetForms.{domains_begin, domains_end, domains_more}
use Rattle.ep_eval.proofs.TermSteps.{AddsUp, total_begins, total_ends, total_goes_on}
use Rattle.ep_eval.proofs.WalkSteps.{no_runs}
use Rattle.ep_eval.proofs.evaluating.+evaluating.Goals as goal

pub truths-loop-part-init : goal.truths-loop-part-init
truths-loop-part-init t c =
    truths_begin (mode_in c.args.scope) (env_in c.args.scope) c.args.every c.args.meter.now c.args.parts.now

pub truths-loop-part-preserved : goal.truths-loop-part-preserved
truths-loop-part-preserved t c =
    let all : List Expr = c.args.parts.now in
    let k : ℕ = c.loop-part.part-index in
    let part : Expr = c.part-item.result in
    let cut : drop k all ≡ part ∷ drop (k + 1) all =
    drop_more all k part c.loop-part-test.true ∙ ap (λ r. r ∷ drop (k + 1) all) (sym c.part-item.is) in
    subst (λ o. TruthsSoFar (mode_in c.args.scope) (env_in c.args.scope) c.args.every c.args.meter.now c.value_of.new.meter all (drop (k + 1) all) o)
    (ap (map_both (together c.args.every) c.loop-part.truth) (sym c.truth_seen.ensures) ∙ sym c.together-truth.ensures)
    (truths_more (mode_in c.args.scope) (env_in c.args.scope) c.args.every c.args.meter.now c.loop-part.meter c.value_of.new.meter all _ c.loop-part.truth part (drop (k + 1) all) (seen_held c.in_ok-seen.seen)
    c.loop-part.invariant cut c.in_ok-seen.ensures)

pub truths-returns : goal.truths-returns
truths-returns t c =
    truths_end (mode_in c.args.scope) (env_in c.args.scope) c.args.every c.args.meter.now c.loop-part.meter c.args.parts.now _ c.loop-part.truth c.loop-part.invariant
    (drop_all c.loop-part.part-index c.args.parts.now c.loop-part-test.false)

pub total-loop-term-init : goal.total-loop-term-init
total-loop-term-init t c =
    total_begins (mode_in c.args.scope) (env_in c.args.scope) c.args.meter.now c.args.terms.now

pub total-loop-term-preserved : goal.total-loop-term-preserved
total-loop-term-preserved t c =
    let all : List (Bool × Expr) = c.args.terms.now in
    let k : ℕ = c.loop-term.term-index in
    let term : (Bool × Expr) = c.term-item.result in
    let cut : drop k all ≡ term ∷ drop (k + 1) all =
    drop_more all k term c.loop-term-test.true ∙ ap (λ r. r ∷ drop (k + 1) all) (sym c.term-item.is) in
    total_goes_on (mode_in c.args.scope) (env_in c.args.scope) c.args.meter.now c.loop-term.meter c.value_of.new.meter all _ c.loop-term.total c.with_term-total.result term (drop (k + 1) all) (seen_held c.in_ok-seen.seen)
    c.loop-term.invariant cut c.in_ok-seen.ensures
    (subst (λ n. AddsUp c.loop-term.total (option_map (signed term.0) n) c.with_term-total.result) c.number_of.ensures c.with_term-total.ensures)

pub total-returns : goal.total-returns
total-returns t c =
    total_ends (mode_in c.args.scope) (env_in c.args.scope) c.args.meter.now c.loop-term.meter c.args.terms.now _ c.loop-term.total c.loop-term.invariant
    (drop_all c.loop-term.term-index c.args.terms.now c.loop-term-test.false)

pub part_values-loop-part-init : goal.part_values-loop-part-init
part_values-loop-part-init t c =
    let mode = mode_in c.args.scope in
    let env = env_in c.args.scope in
    subst (λ (l : List Value). PartsSoFar mode env c.args.meter.now c.args.meter.now c.args.parts.now c.args.parts.now (Some (map value_tree l)))
    (sym c.new.ensures.items) (parts_begin mode env c.args.meter.now c.args.parts.now)

pub part_values-loop-part-preserved : goal.part_values-loop-part-preserved
part_values-loop-part-preserved t c =
    let all : List Expr = c.args.parts.now in
    let k : ℕ = c.loop-part.part-index in
    let part : Expr = c.part-item.result in
    let cut : drop k all ≡ part ∷ drop (k + 1) all =
    drop_more all k part c.loop-part-test.true ∙ ap (λ r. r ∷ drop (k + 1) all) (sym c.part-item.is) in
    parts_more (mode_in c.args.scope) (env_in c.args.scope) c.args.meter.now c.loop-part.meter c.value_of.new.meter all _ (listed_in c.loop-part.values) (listed_in c.in_ok-values.values) part (drop (k + 1) all) (seen_held c.in_ok-seen.seen)
    c.loop-part.invariant cut c.in_ok-seen.ensures c.in_ok-values.ensures

pub part_values-returns : goal.part_values-returns
part_values-returns t c =
    parts_end (mode_in c.args.scope) (env_in c.args.scope) c.args.meter.now c.loop-part.meter c.args.parts.now _ (listed_in c.loop-part.values) c.loop-part.invariant
    (drop_all c.loop-part.part-index c.args.parts.now c.loop-part-test.false)

pub index_values-loop-index-init : goal.index_values-loop-index-init
index_values-loop-index-init t c =
    subst (λ (l : List (Option ℤ)). IndicesSoFar (mode_in c.args.scope) (env_in c.args.scope) c.args.meter.now c.args.meter.now c.args.indices.now c.args.indices.now (Some l))
    (sym c.new.ensures.items) (indices_begin (mode_in c.args.scope) (env_in c.args.scope) c.args.meter.now c.args.indices.now)

pub index_values-loop-index-preserved : goal.index_values-loop-index-preserved
index_values-loop-index-preserved t c =
    let all : List (Option Expr) = c.args.indices.now in
    let k : ℕ = c.loop-index.index-index in
    let index : (Option Expr) = c.index-item.result in
    let cut : drop k all ≡ index ∷ drop (k + 1) all =
    drop_more all k index c.loop-index-test.true ∙ ap (λ r. r ∷ drop (k + 1) all) (sym c.index-item.is) in
    indices_more (mode_in c.args.scope) (env_in c.args.scope) c.args.meter.now c.loop-index.meter c.end_number.new.meter all _ index (drop (k + 1) all) _ _ c.in_ok-number.number
    c.loop-index.invariant cut c.in_ok-number.ensures
    (c.in_ok-values.ensures ∙ ap (λ b. with_index (option_map (λ v. v.items) c.loop-index.values) b c.in_ok-number.number) c.is_some.ensures)

pub index_values-returns : goal.index_values-returns
index_values-returns t c =
    indices_end (mode_in c.args.scope) (env_in c.args.scope) c.args.meter.now c.loop-index.meter c.args.indices.now _ c.loop-index.values c.loop-index.invariant
    (drop_all c.loop-index.index-index c.args.indices.now c.loop-index-test.false)

pub runs_of-loop-range-init : goal.runs_of-loop-range-init
runs_of-loop-range-init t c =
    subst (λ (runs : List Run). RunsSoFar (mode_in c.args.scope) (env_in c.args.scope) c.args.meter.now c.args.meter.now c.args.ranges.now c.args.ranges.now (Some runs))
    (sym c.new.ensures.items) (runs_begin (mode_in c.args.scope) (env_in c.args.scope) c.args.meter.now c.args.ranges.now)

pub runs_of-loop-range-preserved : goal.runs_of-loop-range-preserved
runs_of-loop-range-preserved t c =
    let all : List Range = c.args.ranges.now in
    let k : ℕ = c.loop-range.range-index in
    let range : Range = c.range-item.result in
    let cut : drop k all ≡ range ∷ drop (k + 1) all =
    drop_more all k range c.loop-range-test.true ∙ ap (λ r. r ∷ drop (k + 1) all) (sym c.range-item.is) in
    runs_more (mode_in c.args.scope) (env_in c.args.scope) c.args.meter.now c.loop-range.meter c.run_of.new.meter all _ range (drop (k + 1) all) _ _ c.in_ok-run.run'
    c.loop-range.invariant cut c.in_ok-run.ensures c.in_ok-runs.ensures

pub runs_of-returns : goal.runs_of-returns
runs_of-returns t c =
    runs_end (mode_in c.args.scope) (env_in c.args.scope) c.args.meter.now c.loop-range.meter c.args.ranges.now _ c.loop-range.runs c.loop-range.invariant
    (drop_all c.loop-range.range-index c.args.ranges.now c.loop-range-test.false)

pub index_set-numbers_of-requires : goal.index_set-numbers_of-requires
unfolding index_depth
index_set-numbers_of-requires t c =
    let own : index_depth c.args.domain.now ≡ size-Domain c.deref.result.now = ap index_depth c.in-Some.is ∙ ap size-Domain (sym c.deref.ensures) in
    (omega (arith, own, c.decreases), tt)

pub end_number-value_of-requires : goal.end_number-value_of-requires
unfolding end_depth
end_number-value_of-requires t c =
    let own : end_depth c.args.end.now ≡ size-Expr c.in-Some.e = ap end_depth c.in-Some.is in
    (omega (arith, own, c.decreases), tt)

pub run_of-end_number-requires : goal.run_of-end_number-requires
run_of-end_number-requires t c =
    let own = ap size-Range c.in-Span.is in
    let ends = ends_within c.in-Span.low c.in-Span.high in
    (omega (arith, own, ends.0, c.decreases), tt)

pub run_of-end_number-requires-in-Span : goal.run_of-end_number-requires-in-Span
run_of-end_number-requires-in-Span t c =
    let own = ap size-Range c.in-Span.is in
    let ends = ends_within c.in-Span.low c.in-Span.high in
    (omega (arith, own, ends.1, c.decreases), tt)

pub run_of-returns-in_ok-seen-in-One : goal.run_of-returns-in_ok-seen-in-One
run_of-returns-in_ok-seen-in-One t c =
    let mode = mode_in c.args.scope in
    let env = env_in c.args.scope in
    let range = c.args.range.now in
    subst (λ ms. Told mode c.args.meter.now c.value_of.new.meter ms ((n : ℤ) → option_map (run_has n) c.run_between.result ≡ has_in n (range_values mode env (alone range))))
    (met_alone-one mode env range c.in-One.e c.in-One.is)
    (told_as c.args.meter.now c.value_of.new.meter _ c.in_ok-seen-in-One.ensures
    (λ is. alone-one mode env range c.in-One.e c.number_of-number.result c.run_between.result c.in-One.is (c.number_of-number.ensures ∙ ap number_in (sym is)) c.run_between.ensures))

pub run_of-returns-in_ok-last-in-Span : goal.run_of-returns-in_ok-last-in-Span
run_of-returns-in_ok-last-in-Span t c =
    let mode = mode_in c.args.scope in
    let env = env_in c.args.scope in
    let range = c.args.range.now in
    subst (λ ms. Told mode c.args.meter.now c.end_number-in-Span.new.meter ms ((n : ℤ) → option_map (run_has n) c.run_between-in-Span.result ≡ has_in n (range_values mode env (alone range))))
    (met_alone-span mode env range c.in-Span.low c.in-Span.high c.in-Span.is)
    (told_then (joins mode) c.args.meter.now c.end_number.new.meter c.end_number-in-Span.new.meter _ _ c.in_ok-first-in-Span.ensures c.in_ok-last-in-Span.ensures
    (λ low high. alone-span mode env range c.in-Span.low c.in-Span.high c.in_ok-first-in-Span.first c.in_ok-last-in-Span.last c.run_between-in-Span.result c.in-Span.is low high c.run_between-in-Span.ensures))

pub end_number-returns-in_ok-seen-in-Some : goal.end_number-returns-in_ok-seen-in-Some
end_number-returns-in_ok-seen-in-Some t c =
    let mode = mode_in c.args.scope in
    let env = env_in c.args.scope in
    subst (λ ms. Told mode c.args.meter.now c.value_of.new.meter ms (c.number_of.result ≡ end_value mode env (end_of c.args.end.now)))
    (met_end-some mode env c.args.end.now c.in-Some.e c.in-Some.is)
    (told_as c.args.meter.now c.value_of.new.meter _ c.in_ok-seen-in-Some.ensures
    (λ is. c.number_of.ensures ∙ ap number_in (sym is) ∙ end_value-some mode env c.args.end.now c.in-Some.e c.in-Some.is))

pub end_number-returns-in-None : goal.end_number-returns-in-None
end_number-returns-in-None t c =
    let mode = mode_in c.args.scope in
    let env = env_in c.args.scope in
    subst (λ ms. Told mode c.args.meter.now c.args.meter.now ms (None ≡ end_value mode env (end_of c.args.end.now)))
    (met_end-none mode env c.args.end.now c.in-None.is) (told_none (joins mode) c.args.meter.now (end_value-none mode env c.args.end.now c.in-None.is))

pub index_set-returns-in_ok-set-in-Some : goal.index_set-returns-in_ok-set-in-Some
index_set-returns-in_ok-set-in-Some t c =
    let mode = mode_in c.args.scope in
    let env = env_in c.args.scope in
    let stated = c.in-Some.stated in
    subst (λ ms. Told mode c.args.meter.now c.numbers_of.new.meter ms (c.in_ok-set-in-Some.set ≡ index_values mode env (index_at c.args.domain.now) c.args.count))
    (ap (λ d. met_domain mode env (domain_tree d)) c.deref.ensures ∙ met_index-some mode env c.args.domain.now stated c.in-Some.is)
    (told_as c.args.meter.now c.numbers_of.new.meter _ c.in_ok-set-in-Some.ensures
    (λ is. is ∙ ap (λ d. domain_values mode env (domain_tree d)) c.deref.ensures ∙ index_values-some mode env c.args.domain.now stated c.args.count c.in-Some.is))

pub index_set-returns-in_ok-set-in-None : goal.index_set-returns-in_ok-set-in-None
index_set-returns-in_ok-set-in-None t c =
    let mode = mode_in c.args.scope in
    let env = env_in c.args.scope in
    subst (λ ms. Told mode c.args.meter.now c.args.meter.now ms (Some c.in_ok-set-in-None.set ≡ index_values mode env (index_at c.args.domain.now) c.args.count))
    (met_index-none mode env c.args.domain.now c.in-None.is)
    (told_none (joins mode) c.args.meter.now (ap Some c.in_ok-set-in-None.ensures ∙ index_values-none mode env c.args.domain.now c.args.count c.in-None.is))

pub meet_domains-loop-domain-init : goal.meet_domains-loop-domain-init
meet_domains-loop-domain-init t c =
    domains_begin (mode_in c.args.scope) (env_in c.args.scope) c.args.meter.now c.args.domains.now

pub meet_domains-loop-domain-preserved : goal.meet_domains-loop-domain-preserved
meet_domains-loop-domain-preserved t c =
    let all : List Domain = c.args.domains.now in
    let k : ℕ = c.loop-domain.domain-index in
    let d : Domain = c.domain-item.result in
    let cut : drop k all ≡ d ∷ drop (k + 1) all =
    drop_more all k d c.loop-domain-test.true ∙ ap (λ r. r ∷ drop (k + 1) all) (sym c.domain-item.is) in
    domains_more (mode_in c.args.scope) (env_in c.args.scope) c.args.meter.now c.loop-domain.meter c.numbers_of.new.meter all _ d (drop (k + 1) all) c.loop-domain.invariant cut c.in_ok-_numbers.ensures

pub meet_domains-returns : goal.meet_domains-returns
meet_domains-returns t c =
    domains_end (mode_in c.args.scope) (env_in c.args.scope) c.args.meter.now c.loop-domain.meter c.args.domains.now _ c.loop-domain.invariant
    (drop_all c.loop-domain.domain-index c.args.domains.now c.loop-domain-test.false)

pub numbers_of-returns-in_ok-set-in-Bool : goal.numbers_of-returns-in_ok-set-in-Bool
unfolding met_domain domain_values
numbers_of-returns-in_ok-set-in-Bool t c =
    let mode = mode_in c.args.scope in
    let env = env_in c.args.scope in
    let p = c.args.d.now.place in
    let tree : domain_tree c.args.d.now ≡ bool p = ap (domain_kind_tree p) c.in-Bool.is ∙ domain_kind_tree-bool p in
    subst (λ e. Told mode c.args.meter.now c.args.meter.now (met_domain mode env e) (Some c.in_ok-set-in-Bool.set ≡ domain_values mode env e)) (sym tree)
    (told_none (joins mode) c.args.meter.now (ap Some c.in_ok-set-in-Bool.ensures))

pub numbers_of-returns-in-Int : goal.numbers_of-returns-in-Int
unfolding met_domain domain_values
numbers_of-returns-in-Int t c =
    let mode = mode_in c.args.scope in
    let env = env_in c.args.scope in
    let p = c.args.d.now.place in
    let tree : domain_tree c.args.d.now ≡ int p = ap (domain_kind_tree p) c.in-Int.is ∙ domain_kind_tree-int p in
    subst (λ e. Told mode c.args.meter.now c.args.meter.now (met_domain mode env e) (None ≡ domain_values mode env e)) (sym tree) (told_none (joins mode) c.args.meter.now refl)

pub numbers_of-returns-in_ok-set-in-Named : goal.numbers_of-returns-in_ok-set-in-Named
unfolding met_domain domain_values
numbers_of-returns-in_ok-set-in-Named t c =
    let mode = mode_in c.args.scope in
    let env = env_in c.args.scope in
    let p = c.args.d.now.place in
    let tree : domain_tree c.args.d.now ≡ named_domain p c.in-Named.name = ap (domain_kind_tree p) c.in-Named.is ∙ domain_kind_tree-named p c.in-Named.name in
    subst (λ e. Told mode c.args.meter.now c.args.meter.now (met_domain mode env e) (c.in_ok-set-in-Named.set ≡ domain_values mode env e)) (sym tree)
    (told_none (joins mode) c.args.meter.now c.in_ok-set-in-Named.ensures)

pub numbers_of-returns-in_ok-set-in-Ranges : goal.numbers_of-returns-in_ok-set-in-Ranges
unfolding met_domain domain_values
numbers_of-returns-in_ok-set-in-Ranges t c =
    let mode = mode_in c.args.scope in
    let env = env_in c.args.scope in
    let p = c.args.d.now.place in
    let rs = ranges_of c.deref.result.now in
    let tree : domain_tree c.args.d.now ≡ ranges p rs =
    ap (domain_kind_tree p) c.in-Ranges.is ∙ domain_kind_tree-ranges p c.in-Ranges.ranges ∙ ap (λ l. ranges p (ranges_of l)) (sym c.deref.ensures.value) in
    subst (λ e. Told mode c.args.meter.now c.runs_of.new.meter (met_domain mode env e) (c.in_ok-set-in-Ranges.set ≡ domain_values mode env e)) (sym tree)
    (told_as c.args.meter.now c.runs_of.new.meter _ c.in_ok-runs-in-Ranges.ensures
    (λ same. c.in_ok-set-in-Ranges.ensures (range_values mode env rs)
    (λ ns e. domain_values-ascend mode env (c.ascends.ensures (env_of c.args.scope.env.now) c.mode-mode.ensures.ascending) (ranges p rs) ns e) same))

pub numbers_of-returns-in_ok-set-in-Group : goal.numbers_of-returns-in_ok-set-in-Group
unfolding met_domain domain_values
numbers_of-returns-in_ok-set-in-Group t c =
    let mode = mode_in c.args.scope in
    let env = env_in c.args.scope in
    let p = c.args.d.now.place in
    let inner = domain_tree c.deref-in-Group.result.now in
    let tree : domain_tree c.args.d.now ≡ group_domain p inner =
    ap (domain_kind_tree p) c.in-Group.is ∙ domain_kind_tree-group p c.in-Group.inner ∙ ap (λ x. group_domain p (domain_tree x)) (sym c.deref-in-Group.ensures) in
    subst (λ e. Told mode c.args.meter.now c.numbers_of.new.meter (met_domain mode env e) (c.in_ok-set-in-Group.set ≡ domain_values mode env e)) (sym tree) c.in_ok-set-in-Group.ensures

pub numbers_of-returns-in_ok-set-in-Set : goal.numbers_of-returns-in_ok-set-in-Set
unfolding met_domain domain_values
numbers_of-returns-in_ok-set-in-Set t c =
    let mode = mode_in c.args.scope in
    let env = env_in c.args.scope in
    let p = c.args.d.now.place in
    let op = c.in-Set.op in
    let left = domain_tree c.deref-in-Set.result.now in
    let right = domain_tree c.deref-in-Set-2.result.now in
    let one = c.in_ok-one-in-Set.one in
    let other = c.in_ok-other-in-Set.other in
    let tree : domain_tree c.args.d.now ≡ set_domain p op left right =
    ap (domain_kind_tree p) c.in-Set.is ∙ domain_kind_tree-set p op c.in-Set.left c.in-Set.right
    ∙ ap (λ x. set_domain p op (domain_tree x) (domain_tree c.in-Set.right.value)) (sym c.deref-in-Set.ensures) ∙ ap (λ x. set_domain p op left (domain_tree x)) (sym c.deref-in-Set-2.ensures) in
    subst (λ e. Told mode c.args.meter.now c.numbers_of-in-Set-2.new.meter (met_domain mode env e) (c.in_ok-set-in-Set.set ≡ domain_values mode env e)) (sym tree)
    (told_then (joins mode) c.args.meter.now c.numbers_of-in-Set.new.meter c.numbers_of-in-Set-2.new.meter _ _ c.in_ok-one-in-Set.ensures c.in_ok-other-in-Set.ensures
    (λ is also.
    let same : map_both (set_values op) one other ≡ map_both (set_values op) (domain_values mode env left) (domain_values mode env right) =
    ap (λ o. map_both (set_values op) o other) is ∙ ap (map_both (set_values op) (domain_values mode env left)) also in
    c.in_ok-set-in-Set.ensures
    (λ ns e. domain_values-ascend mode env (c.ascends.ensures (env_of c.args.scope.env.now) c.mode-mode.ensures.ascending) (set_domain p op left right) ns (sym same ∙ e))
    ∙ same))

pub numbers_of-returns-in_ok-_elements-in-Matrix : goal.numbers_of-returns-in_ok-_elements-in-Matrix
unfolding met_domain domain_values
numbers_of-returns-in_ok-_elements-in-Matrix t c =
    let mode = mode_in c.args.scope in
    let env = env_in c.args.scope in
    let p = c.args.d.now.place in
    let ds = domains_of c.deref-in-Matrix.result.now in
    let inner = domain_tree c.deref-in-Matrix-2.result.now in
    let tree : domain_tree c.args.d.now ≡ matrix_domain p ds inner =
    ap (domain_kind_tree p) c.in-Matrix.is ∙ domain_kind_tree-matrix p c.in-Matrix.indices c.in-Matrix.elements
    ∙ ap (λ l. matrix_domain p (domains_of l) (domain_tree c.in-Matrix.elements.value)) (sym c.deref-in-Matrix.ensures.value) ∙ ap (λ x. matrix_domain p ds (domain_tree x)) (sym c.deref-in-Matrix-2.ensures) in
    subst (λ e. Told mode c.args.meter.now c.numbers_of-in-Matrix.new.meter (met_domain mode env e) (None ≡ domain_values mode env e)) (sym tree)
    (told_then (joins mode) c.args.meter.now c.meet_domains.new.meter c.numbers_of-in-Matrix.new.meter _ _ c.in_ok-meet_domains-in-Matrix.ensures c.in_ok-_elements-in-Matrix.ensures (λ known other. refl))

pub quantified-returns-in_ok-seen-in-None : goal.quantified-returns-in_ok-seen-in-None
quantified-returns-in_ok-seen-in-None t c p =
    let mode = mode_in c.args.scope in
    let env = env_in c.args.scope in
    let q = c.args.quantifier in
    let d = domain_tree q.domain.now in
    let e = expr_tree q.body.now in
    subst (λ ns. Told mode c.args.meter.now c.value_of.new.meter (met mode env (quantified_tree p q ns)) (evaluate mode env (quantified_tree p q ns) ≡ seen_held c.in_ok-seen-in-None.seen)) (sym (no_runs c.args.names.now c.in-None.ensures.cases))
    (subst (λ ms. Told mode c.args.meter.now c.value_of.new.meter ms (evaluate mode env (quantified_tree p q []) ≡ seen_held c.in_ok-seen-in-None.seen)) (sym (met_bare mode env p q.op d e))
    (told_as c.args.meter.now c.value_of.new.meter _ c.in_ok-seen-in-None.ensures (λ is. quantified_bare mode env p q.op d e ∙ is)))

pub quantified-returns-then-is_over : goal.quantified-returns-then-is_over
quantified-returns-then-is_over t c p =
    let mode = mode_in c.args.scope in
    let env = env_in c.args.scope in
    let q = c.args.quantifier in
    let d = domain_tree q.domain.now in
    let e = expr_tree q.body.now in
    let name = c.in-Some.name.now in
    let rest = c.in-Some.rest.now in
    let whole : Told mode c.args.meter.now c.numbers_of.new.meter (met mode env (quantified_tree p q (name ∷ rest))) (evaluate mode env (quantified_tree p q (name ∷ rest)) ≡ None) =
    node_stops (joins mode) c.args.meter.now c.numbers_of.new.meter _ _ (met_domain mode env d) _ (met_quantified mode env p q.op name rest d e) c.in_ok-numbers-in-Some.ensures (sym c.is_over.ensures ∙ c.if-is_over.true) in
    subst (λ ns. Told mode c.args.meter.now c.numbers_of.new.meter (met mode env (quantified_tree p q ns)) (evaluate mode env (quantified_tree p q ns) ≡ None)) (sym c.in-Some.ensures.cases.0) whole

pub quantified-returns-in_ok-worth-in-Some : goal.quantified-returns-in_ok-worth-in-Some
quantified-returns-in_ok-worth-in-Some t c p =
    let mode = mode_in c.args.scope in
    let env = env_in c.args.scope in
    let q = c.args.quantifier in
    let d = domain_tree q.domain.now in
    let e = expr_tree q.body.now in
    let name = c.in-Some.name.now in
    let rest = c.in-Some.rest.now in
    let free = none_passed _ _ c.is_over.ensures c.if-is_over.false in
    subst (λ ns. Told mode c.args.meter.now c.settled.new.meter (met mode env (quantified_tree p q ns)) (evaluate mode env (quantified_tree p q ns) ≡ seen_held c.settled.result)) (sym c.in-Some.ensures.cases.0)
    (quantified_told mode c.mode.result env p q.op name rest d e c.args.meter.now c.numbers_of.new.meter c.over_domain.new.meter c.settled.new.meter c.in_ok-numbers-in-Some.numbers c.in_ok-gathered-in-Some.gathered
    c.in_ok-worth-in-Some.worth c.settled.result
    c.in_ok-numbers-in-Some.ensures free (c.in_ok-gathered-in-Some.ensures p) c.mode.ensures.mode c.in_ok-worth-in-Some.ensures c.settled.ensures)

pub quantified-value_of-requires : goal.quantified-value_of-requires
quantified-value_of-requires t c =
    let q = c.args.quantifier in
    let within : size-Expr q.body.now ≤ depth_of q = second_within (size-Domain q.domain.now) (size-Expr q.body.now) in
    (omega (arith, within, c.decreases), tt)

pub quantified-numbers_of-requires : goal.quantified-numbers_of-requires
quantified-numbers_of-requires t c =
    let q = c.args.quantifier in
    let within : size-Domain q.domain.now ≤ depth_of q = first_within (size-Domain q.domain.now) (size-Expr q.body.now) in
    (omega (arith, within, c.decreases), tt)

pub quantified-over_domain-requires : goal.quantified-over_domain-requires
quantified-over_domain-requires t c =
    let long = ap length c.in-Some.ensures.cases.0 in
    let free = none_passed _ _ c.is_over.ensures c.if-is_over.false in
    (omega (arith, long, c.decreases), c.in_ok-numbers-in-Some.ensures.told free)

pub over_domain-instances-requires : goal.over_domain-instances-requires
over_domain-instances-requires t c =
    (omega (arith, c.decreases), sym c.requires.set ∙ c.in-Some.is)

pub over_domain-returns-in_ok-gathered-in-Some : goal.over_domain-returns-in_ok-gathered-in-Some
unfolding gathered_of
over_domain-returns-in_ok-gathered-in-Some t c p =
    let mode = mode_in c.args.scope in
    let env = env_in c.args.scope in
    let q = c.args.quantifier in
    let name = c.args.name.now in
    let rest = c.args.rest.now in
    subst (λ o. Told mode c.args.meter.now c.instances.new.meter (flat_map (instance_nodes mode env p q name rest) (unwrap_or o []))
    (c.in_ok-gathered-in-Some.gathered ≡ gathered_of q.op (option_map (map (instance_value mode env p q name rest)) o))) (sym c.in-Some.is) (c.in_ok-gathered-in-Some.ensures p)

pub over_domain-returns-in-None : goal.over_domain-returns-in-None
unfolding gathered_of
over_domain-returns-in-None t c p =
    let mode = mode_in c.args.scope in
    let env = env_in c.args.scope in
    let q = c.args.quantifier in
    let name = c.args.name.now in
    let rest = c.args.rest.now in
    subst (λ o. Told mode c.args.meter.now c.args.meter.now (flat_map (instance_nodes mode env p q name rest) (unwrap_or o []))
    (c.without_domain.result ≡ gathered_of q.op (option_map (map (instance_value mode env p q name rest)) o))) (sym c.in-None.is) (told_none (joins mode) c.args.meter.now c.without_domain.ensures)

pub instances-loop-number-init : goal.instances-loop-number-init
instances-loop-number-init t c =
    let mode = mode_in c.args.scope in
    let env = env_in c.args.scope in
    let q = c.args.quantifier in
    let name = c.args.name.now in
    let rest = c.args.rest.now in (
      c.walk_of-walk.ensures.walk,
      λ p. gathering_begins mode q.op (instance_value mode env p q name rest) (instance_nodes mode env p q name rest)
          c.args.meter.now c.args.set.now (numbers_left c.walk_of-walk.result) c.before_all-gathered.result (c.walk_of-walk.ensures.numbers ∙ c.runs.ensures.numbers) c.before_all-gathered.ensures,
    )

pub instances-loop-number-smaller : goal.instances-loop-number-smaller
unfolding before_rest
instances-loop-number-smaller t c =
    let cut : numbers_left c.loop-number.walk ≡ c.in-Some.number ∷ numbers_left c.in-Some.behind = c.next_number.ensures.numbers ∙ ap before_rest c.in-Some.is in
    let longer = ap length cut in
    omega (arith, longer)

pub instances-loop-number-preserved : goal.instances-loop-number-preserved
unfolding before_rest IsWalkBehind with_all
instances-loop-number-preserved t c =
    let mode = mode_in c.args.scope in
    let env = env_in c.args.scope in
    let q = c.args.quantifier in
    let name = c.args.name.now in
    let rest = c.args.rest.now in
    let n = c.in-Some.number in
    let cut : numbers_left c.loop-number.walk ≡ n ∷ numbers_left c.in-Some.behind = c.next_number.ensures.numbers ∙ ap before_rest c.in-Some.is in
    let scalar : c.scalar_of-scalar.result ≡ scalar_in env (domain_tree q.domain.now) = c.scalar_of-scalar.ensures mode (λ none. absurd (let e = sym c.requires.set ∙ none in cc)) in
    let same : to_z w64 (of_z w64 n) ≡ n = to_z-of_z w64 n (omega (arith, ints)) in (
      subst IsWalkBehind c.in-Some.is c.next_number.ensures.walk,
      λ p. gathering_goes_on mode q.op (instance_value mode env p q name rest) (instance_nodes mode env p q name rest)
          c.args.meter.now c.loop-number.meter c.quantified.new.meter c.args.set.now (numbers_left c.loop-number.walk) (numbers_left c.in-Some.behind)
          c.loop-number.gathered c.with_instance-gathered.result n (seen_held c.in_ok-seen.seen)
          (c.loop-number.invariant.1 p) cut
          (subst (λ s. Told mode c.loop-number.meter c.quantified.new.meter (met mode (with_number name s n env) (quantified_tree p q rest)) (evaluate mode (with_number name s n env) (quantified_tree p q rest) ≡ seen_held c.in_ok-seen.seen)) scalar
          (subst (λ m. Told mode c.loop-number.meter c.quantified.new.meter (met mode (with_number name c.scalar_of-scalar.result m env) (quantified_tree p q rest)) (evaluate mode (with_number name c.scalar_of-scalar.result m env) (quantified_tree p q rest) ≡ seen_held c.in_ok-seen.seen)) same (c.in_ok-seen.ensures p)))
          (meets_some mode (instance_env env q name n) (quantified_tree p q rest))
          c.with_instance-gathered.ensures,
    )

pub instances-returns-then-is_over : goal.instances-returns-then-is_over
instances-returns-then-is_over t c p =
    let mode = mode_in c.args.scope in
    let env = env_in c.args.scope in
    let q = c.args.quantifier in
    let name = c.args.name.now in
    let rest = c.args.rest.now in
    going_stops (joins mode) c.args.meter.now c.loop-number.meter _ _ (c.loop-number.invariant.1 p) (sym c.is_over.ensures ∙ c.if-is_over.true)

pub instances-returns : goal.instances-returns
unfolding before_rest
instances-returns t c p =
    let mode = mode_in c.args.scope in
    let env = env_in c.args.scope in
    let q = c.args.quantifier in
    let name = c.args.name.now in
    let rest = c.args.rest.now in
    gathering_ends mode q.op (instance_value mode env p q name rest) (instance_nodes mode env p q name rest)
    c.args.meter.now c.loop-number.meter c.args.set.now (numbers_left c.loop-number.walk) c.loop-number.gathered (c.loop-number.invariant.1 p)
    (c.next_number.ensures.numbers ∙ ap before_rest c.in_default.is)

pub generated-over_names-requires : goal.generated-over_names-requires
generated-over_names-requires t c =
    let cut = c.in-Some.ensures.cases.0 in
    let long = ap length cut in
    let depth = first_generator c.args.listing c.args.generators.now c.in-Some.first.now c.in-Some.later.now c.in-Some.first.now.domain cut refl in
    (omega (arith, depth, long, c.decreases, c.deref.ensures.len), tt)

pub generated-with_part-requires : goal.generated-with_part-requires
generated-with_part-requires t c =
    let l = c.args.listing in
    let within : listing_depth l ≤ generators_depth l c.args.generators.now = first_within (listing_depth l) (most size-Generator c.args.generators.now) in
    (omega (arith, within, c.decreases), tt)

pub generated-returns-in_ok-more-in-Some : goal.generated-returns-in_ok-more-in-Some
generated-returns-in_ok-more-in-Some t c =
    let mode = mode_in c.args.scope in
    let env = env_in c.args.scope in
    let l = c.args.listing in
    let gens = generators_first c.args.generators.now c.in-Some.first.now c.in-Some.later.now (domain_tree c.in-Some.first.now.domain) c.deref.result.now c.in-Some.ensures.cases.0 refl (sym c.deref.ensures.value) in
    subst (λ g. Told mode c.args.meter.now c.over_names.new.meter (nodes_of mode l g env) (listed_in c.in_ok-more-in-Some.more ≡ before_others (listed_in c.args.values) (parts_of mode l g env))) (sym gens) c.in_ok-more-in-Some.ensures

pub generated-returns-in_ok-more-in-None : goal.generated-returns-in_ok-more-in-None
generated-returns-in_ok-more-in-None t c =
    let mode = mode_in c.args.scope in
    let env = env_in c.args.scope in
    let l = c.args.listing in
    let e = expr_tree l.body.now in
    let cs = expr_trees l.conditions.now in
    let gens = generators_none c.args.generators.now (no_runs c.args.generators.now c.in-None.ensures.cases) in
    subst (λ g. Told mode c.args.meter.now c.with_part.new.meter (nodes_of mode l g env) (listed_in c.in_ok-more-in-None.more ≡ before_others (listed_in c.args.values) (parts_of mode l g env))) (sym gens)
    (subst (λ ms. Told mode c.args.meter.now c.with_part.new.meter ms (listed_in c.in_ok-more-in-None.more ≡ before_others (listed_in c.args.values) (parts_of mode l no_generators env))) (sym (nodes_part mode e cs env))
    (told_as c.args.meter.now c.with_part.new.meter _ c.in_ok-more-in-None.ensures (λ is. is ∙ ap (before_others (listed_in c.args.values)) (sym (values_part mode e cs env)))))

pub over_names-numbers_of-requires : goal.over_names-numbers_of-requires
over_names-numbers_of-requires t c =
    let r = c.args.ranging in
    let within = first_within (size-Domain r.domain.now) (generators_depth r.listing r.later.now) in
    (omega (arith, within, c.decreases), tt)

pub over_names-over_range-requires : goal.over_names-over_range-requires
over_names-over_range-requires t c =
    let long = ap length c.in-Some.ensures.cases.0 in
    let free = none_passed _ _ c.is_over.ensures c.if-is_over.false in
    (omega (arith, long, c.decreases), c.in_ok-numbers-in-Some.ensures.told free)

pub over_names-generated-requires : goal.over_names-generated-requires
over_names-generated-requires t c =
    let r = c.args.ranging in
    let within = second_within (size-Domain r.domain.now) (generators_depth r.listing r.later.now) in
    (omega (arith, within, c.decreases), tt)

pub over_names-returns-then-is_over : goal.over_names-returns-then-is_over
over_names-returns-then-is_over t c =
    let mode = mode_in c.args.scope in
    let env = env_in c.args.scope in
    let g = c.args.ranging in
    let e = expr_tree g.listing.body.now in
    let cs = expr_trees g.listing.conditions.now in
    let d = domain_tree g.domain.now in
    let gens = generators_of g.later.now in
    let name = c.in-Some.name.now in
    let rest = c.in-Some.rest.now in
    subst (λ ns. Told mode c.args.meter.now c.numbers_of.new.meter (nodes_of mode g.listing (ranging_over g ns) env) (None ≡ before_others (listed_in c.args.values) (parts_of mode g.listing (ranging_over g ns) env))) (sym c.in-Some.ensures.cases.0)
    (name_stops mode e cs name rest d gens env c.args.meter.now c.numbers_of.new.meter c.in_ok-numbers-in-Some.ensures (sym c.is_over.ensures ∙ c.if-is_over.true))

pub over_names-returns-in_ok-more-in-Some : goal.over_names-returns-in_ok-more-in-Some
over_names-returns-in_ok-more-in-Some t c =
    let mode = mode_in c.args.scope in
    let env = env_in c.args.scope in
    let g = c.args.ranging in
    let e = expr_tree g.listing.body.now in
    let cs = expr_trees g.listing.conditions.now in
    let d = domain_tree g.domain.now in
    let gens = generators_of g.later.now in
    let name = c.in-Some.name.now in
    let rest = c.in-Some.rest.now in
    let free = none_passed _ _ c.is_over.ensures c.if-is_over.false in
    subst (λ ns. Told mode c.args.meter.now c.count_name.new.meter (nodes_of mode g.listing (ranging_over g ns) env) (listed_in c.in_ok-more-in-Some.more ≡ before_others (listed_in c.args.values) (parts_of mode g.listing (ranging_over g ns) env))) (sym c.in-Some.ensures.cases.0)
    (name_told mode e cs name rest d gens env c.args.meter.now c.numbers_of.new.meter c.over_range.new.meter c.count_name.new.meter c.in_ok-numbers-in-Some.numbers
    (listed_in c.args.values) (listed_in c.in_ok-more-in-Some.more) c.in_ok-numbers-in-Some.ensures free c.in_ok-more-in-Some.ensures c.count_name.ensures)

pub over_names-returns-in_ok-more-in-None : goal.over_names-returns-in_ok-more-in-None
over_names-returns-in_ok-more-in-None t c =
    let mode = mode_in c.args.scope in
    let env = env_in c.args.scope in
    let g = c.args.ranging in
    let e = expr_tree g.listing.body.now in
    let cs = expr_trees g.listing.conditions.now in
    let d = domain_tree g.domain.now in
    let gens = generators_of g.later.now in
    subst (λ ns. Told mode c.args.meter.now c.generated.new.meter (nodes_of mode g.listing (ranging_over g ns) env) (listed_in c.in_ok-more-in-None.more ≡ before_others (listed_in c.args.values) (parts_of mode g.listing (ranging_over g ns) env))) (sym (no_runs c.args.names.now c.in-None.ensures.cases))
    (subst (λ ms. Told mode c.args.meter.now c.generated.new.meter ms (listed_in c.in_ok-more-in-None.more ≡ before_others (listed_in c.args.values) (parts_of mode g.listing (ranging_over g []) env))) (sym (nodes_bare mode e cs d gens env))
    (told_as c.args.meter.now c.generated.new.meter _ c.in_ok-more-in-None.ensures (λ is. is ∙ ap (before_others (listed_in c.args.values)) (sym (values_bare mode e cs d gens env)))))

pub over_range-over_numbers-requires : goal.over_range-over_numbers-requires
over_range-over_numbers-requires t c =
    (omega (arith, c.decreases), sym c.requires.set ∙ c.in-Some.is)

pub over_range-returns-in_ok-more-in-Some : goal.over_range-returns-in_ok-more-in-Some
unfolding some_joined
over_range-returns-in_ok-more-in-Some t c =
    let mode = mode_in c.args.scope in
    let env = env_in c.args.scope in
    let g = c.args.ranging in
    let name = c.args.name.now in
    let rest = c.args.rest.now in
    subst (λ o. Told mode c.args.meter.now c.over_numbers.new.meter (flat_map (nodes_at mode env g name rest) (unwrap_or o []))
    (listed_in c.in_ok-more-in-Some.more ≡ before_others (listed_in c.args.values) (some_joined (option_map (map (parts_at mode env g name rest)) o)))) (sym c.in-Some.is) c.in_ok-more-in-Some.ensures

pub over_range-returns-in-None : goal.over_range-returns-in-None
unfolding some_joined
over_range-returns-in-None t c =
    let mode = mode_in c.args.scope in
    let env = env_in c.args.scope in
    let g = c.args.ranging in
    let name = c.args.name.now in
    let rest = c.args.rest.now in
    subst (λ o. Told mode c.args.meter.now c.args.meter.now (flat_map (nodes_at mode env g name rest) (unwrap_or o []))
    (None ≡ before_others (listed_in c.args.values) (some_joined (option_map (map (parts_at mode env g name rest)) o)))) (sym c.in-None.is)
    (told_none (joins mode) c.args.meter.now (lost_behind (listed_in c.args.values)))

pub over_numbers-loop-number-init : goal.over_numbers-loop-number-init
over_numbers-loop-number-init t c =
    let mode = mode_in c.args.scope in
    let env = env_in c.args.scope in
    let g = c.args.ranging in
    let name = c.args.name.now in
    let rest = c.args.rest.now in (
      c.walk_of-walk.ensures.walk,
      listed_begins mode (parts_at mode env g name rest) (nodes_at mode env g name rest)
          c.args.meter.now c.args.set.now (numbers_left c.walk_of-walk.result) (listed_in c.args.values) (c.walk_of-walk.ensures.numbers ∙ c.runs.ensures.numbers),
    )

pub over_numbers-next_number-requires : goal.over_numbers-next_number-requires
over_numbers-next_number-requires t c =
    c.loop-number.invariant.0

pub over_numbers-loop-number-smaller : goal.over_numbers-loop-number-smaller
unfolding before_rest
over_numbers-loop-number-smaller t c =
    let cut : numbers_left c.loop-number.walk ≡ c.in-Some.number ∷ numbers_left c.in-Some.behind = c.next_number.ensures.numbers ∙ ap before_rest c.in-Some.is in
    let longer = ap length cut in
    omega (arith, longer)

pub over_numbers-loop-number-preserved : goal.over_numbers-loop-number-preserved
unfolding before_rest IsWalkBehind with_all
over_numbers-loop-number-preserved t c =
    let mode = mode_in c.args.scope in
    let env = env_in c.args.scope in
    let g = c.args.ranging in
    let name = c.args.name.now in
    let rest = c.args.rest.now in
    let n = c.in-Some.number in
    let cut : numbers_left c.loop-number.walk ≡ n ∷ numbers_left c.in-Some.behind = c.next_number.ensures.numbers ∙ ap before_rest c.in-Some.is in
    let scalar : c.scalar_of-scalar.result ≡ scalar_in env (domain_tree g.domain.now) = c.scalar_of-scalar.ensures mode (λ none. absurd (let e = sym c.requires.set ∙ none in cc)) in
    let same : to_z w64 (of_z w64 n) ≡ n = to_z-of_z w64 n (omega (arith, ints)) in (
      subst IsWalkBehind c.in-Some.is c.next_number.ensures.walk,
      listed_goes_on mode (parts_at mode env g name rest) (nodes_at mode env g name rest)
          c.args.meter.now c.loop-number.meter c.over_names.new.meter c.args.set.now (numbers_left c.loop-number.walk) (numbers_left c.in-Some.behind)
          (listed_in c.args.values) (listed_in c.loop-number.more) (listed_in c.in_ok-more.more) n
          c.loop-number.invariant.1 cut
          (subst (λ s. Told mode c.loop-number.meter c.over_names.new.meter (nodes_of mode g.listing (ranging_over g rest) (with_number name s n env)) (listed_in c.in_ok-more.more ≡ before_others (listed_in c.loop-number.more) (parts_of mode g.listing (ranging_over g rest) (with_number name s n env)))) scalar
          (subst (λ m. Told mode c.loop-number.meter c.over_names.new.meter (nodes_of mode g.listing (ranging_over g rest) (with_number name c.scalar_of-scalar.result m env)) (listed_in c.in_ok-more.more ≡ before_others (listed_in c.loop-number.more) (parts_of mode g.listing (ranging_over g rest) (with_number name c.scalar_of-scalar.result m env)))) same c.in_ok-more.ensures)),
    )

pub over_numbers-returns-then-is_over : goal.over_numbers-returns-then-is_over
over_numbers-returns-then-is_over t c =
    going_stops (joins (mode_in c.args.scope)) c.args.meter.now c.loop-number.meter _ _ c.loop-number.invariant.1 (sym c.is_over.ensures ∙ c.if-is_over.true)

pub over_numbers-returns : goal.over_numbers-returns
unfolding before_rest
over_numbers-returns t c =
    let mode = mode_in c.args.scope in
    let env = env_in c.args.scope in
    let g = c.args.ranging in
    let name = c.args.name.now in
    let rest = c.args.rest.now in
    listed_ends mode (parts_at mode env g name rest) (nodes_at mode env g name rest)
    c.args.meter.now c.loop-number.meter c.args.set.now (numbers_left c.loop-number.walk) (listed_in c.args.values) (listed_in c.loop-number.more) c.loop-number.invariant.1
    (c.next_number.ensures.numbers ∙ ap before_rest c.in_default.is)

pub with_part-truths-requires : goal.with_part-truths-requires
with_part-truths-requires t c =
    let l = c.args.listing in
    let within : most size-Expr l.conditions.now ≤ listing_depth l = second_within (size-Expr l.body.now) (most size-Expr l.conditions.now) in
    (omega (arith, within, c.decreases), tt)

pub with_part-value_of-requires : goal.with_part-value_of-requires
with_part-value_of-requires t c =
    let l = c.args.listing in
    let within : size-Expr l.body.now ≤ listing_depth l = first_within (size-Expr l.body.now) (most size-Expr l.conditions.now) in
    (omega (arith, within, c.decreases), tt)

pub with_part-returns-then-is_over : goal.with_part-returns-then-is_over
with_part-returns-then-is_over t c =
    let l = c.args.listing in
    let e = expr_tree l.body.now in
    let cs = expr_trees l.conditions.now in
    conditions_stop (mode_in c.args.scope) e cs (env_in c.args.scope) c.args.meter.now c.truths.new.meter c.in_ok-truth.ensures (sym c.is_over.ensures ∙ c.if-is_over.true)

pub with_part-returns-in_ok-more-in-Some-true : goal.with_part-returns-in_ok-more-in-Some-true
with_part-returns-in_ok-more-in-Some-true t c =
    let l = c.args.listing in
    let e = expr_tree l.body.now in
    let cs = expr_trees l.conditions.now in
    let free = none_passed _ _ c.is_over.ensures c.if-is_over.false in
    part_told (mode_in c.args.scope) e cs (env_in c.args.scope) c.args.meter.now c.truths.new.meter c.value_of.new.meter c.in_ok-truth.truth (listed_in c.args.values) (listed_in c.in_ok-more-in-Some-true.more) (seen_held c.in_ok-seen-in-Some-true.seen)
    c.in_ok-truth.ensures free (c.in-Some-true.is ∙ ap Some c.in-Some-true.field-0-test) c.in_ok-seen-in-Some-true.ensures c.in_ok-more-in-Some-true.ensures

pub with_part-returns-in-Some-false : goal.with_part-returns-in-Some-false
with_part-returns-in-Some-false t c =
    let l = c.args.listing in
    let e = expr_tree l.body.now in
    let cs = expr_trees l.conditions.now in
    let free = none_passed _ _ c.is_over.ensures c.if-is_over.false in
    no_part_told (mode_in c.args.scope) e cs (env_in c.args.scope) c.args.meter.now c.truths.new.meter c.in_ok-truth.truth (listed_in c.args.values) c.in_ok-truth.ensures free (c.in-Some-false.is ∙ ap Some c.in-Some-false.field-0-test)

pub with_part-returns-in-None : goal.with_part-returns-in-None
with_part-returns-in-None t c =
    let l = c.args.listing in
    let e = expr_tree l.body.now in
    let cs = expr_trees l.conditions.now in
    let free = none_passed _ _ c.is_over.ensures c.if-is_over.false in
    lost_part_told (mode_in c.args.scope) e cs (env_in c.args.scope) c.args.meter.now c.truths.new.meter c.in_ok-truth.truth (listed_in c.args.values) c.in_ok-truth.ensures free c.in-None.is

pub value_of-returns-in-Number : goal.value_of-returns-in-Number
unfolding form_tree held_value
value_of-returns-in-Number t c =
    let mode = mode_in c.args.scope in
    let env = env_in c.args.scope in
    let p = c.args.e.now.place in
    at_tree mode env _ _ _ _ _ (c.in-Number.ensures.tree p)
    (number_told mode env p c.in-Number.number c.args.meter.now c.settled.new.meter _ c.settled.result
    (evaluate-number mode env p c.in-Number.number ∙ ap (λ x. Some (single x)) (sym (to_z-of_z w64 c.in-Number.number (omega (arith, ints))))) c.settled.ensures)

pub value_of-returns-in-Truth : goal.value_of-returns-in-Truth
unfolding form_tree
value_of-returns-in-Truth t c =
    let mode = mode_in c.args.scope in
    let env = env_in c.args.scope in
    let p = c.args.e.now.place in
    at_tree mode env _ _ _ _ _ (c.in-Truth.ensures.tree p)
    (truth_told mode env p c.in-Truth.truth c.args.meter.now c.settled-in-Truth.new.meter _ c.settled-in-Truth.result (evaluate-truth mode env p c.in-Truth.truth ∙ sym c.held_truth.ensures) c.settled-in-Truth.ensures)

pub value_of-returns-in-Named : goal.value_of-returns-in-Named
unfolding form_tree
value_of-returns-in-Named t c =
    let mode = mode_in c.args.scope in
    let env = env_in c.args.scope in
    let p = c.args.e.now.place in
    at_tree mode env _ _ _ _ _ (c.in-Named.ensures.tree p)
    (named_told mode env p c.in-Named.name.now c.args.meter.now c.settled-in-Named.new.meter _ c.settled-in-Named.result (evaluate-named mode env p c.in-Named.name.now ∙ sym c.look_up.ensures) c.settled-in-Named.ensures)

pub value_of-returns-in_ok-worth-in-One : goal.value_of-returns-in_ok-worth-in-One
unfolding form_tree
value_of-returns-in_ok-worth-in-One t c =
    let mode = mode_in c.args.scope in
    let env = env_in c.args.scope in
    let p = c.args.e.now.place in
    at_tree mode env _ _ _ _ _ (c.in-One.ensures.tree p)
    (one_told mode c.mode.result env p c.in-One.op (expr_tree c.in-One.part.now) c.args.meter.now c.value_of.new.meter c.settled-in-One.new.meter c.in_ok-seen-in-One.seen c.in_ok-worth-in-One.worth c.settled-in-One.result
    c.in_ok-seen-in-One.ensures c.mode.ensures.mode c.in_ok-worth-in-One.ensures c.settled-in-One.ensures)

pub value_of-returns-in_ok-worth-in-Two : goal.value_of-returns-in_ok-worth-in-Two
unfolding form_tree
value_of-returns-in_ok-worth-in-Two t c =
    let mode = mode_in c.args.scope in
    let env = env_in c.args.scope in
    let p = c.args.e.now.place in
    at_tree mode env _ _ _ _ _ (c.in-Two.ensures.tree p)
    (two_told mode c.mode-in-Two.result env p c.in-Two.op (expr_tree c.in-Two.left.now) (expr_tree c.in-Two.right.now) c.args.meter.now c.value_of-in-Two.new.meter c.value_of-in-Two-2.new.meter c.settled-in-Two.new.meter
    c.in_ok-first-in-Two.first c.in_ok-second-in-Two.second c.in_ok-worth-in-Two.worth c.settled-in-Two.result
    c.in_ok-first-in-Two.ensures c.in_ok-second-in-Two.ensures c.mode-in-Two.ensures.mode c.in_ok-worth-in-Two.ensures c.settled-in-Two.ensures)

pub value_of-returns-in_ok-worth-in-Counts : goal.value_of-returns-in_ok-worth-in-Counts
unfolding form_tree
value_of-returns-in_ok-worth-in-Counts t c =
    let mode = mode_in c.args.scope in
    let env = env_in c.args.scope in
    let p = c.args.e.now.place in
    at_tree mode env _ _ _ _ _ (c.in-Counts.ensures.tree p)
    (counts_told mode c.mode-in-Counts.result env p c.in-Counts.op (expr_tree c.in-Counts.list.now) (expr_tree c.in-Counts.one.now) (expr_tree c.in-Counts.other.now)
    c.args.meter.now c.value_of-in-Counts.new.meter c.value_of-in-Counts-2.new.meter c.value_of-in-Counts-3.new.meter c.settled-in-Counts.new.meter
    c.in_ok-first-in-Counts.first c.in_ok-second-in-Counts.second c.in_ok-third-in-Counts.third c.in_ok-worth-in-Counts.worth c.settled-in-Counts.result
    c.in_ok-first-in-Counts.ensures c.in_ok-second-in-Counts.ensures c.in_ok-third-in-Counts.ensures c.mode-in-Counts.ensures.mode c.in_ok-worth-in-Counts.ensures c.settled-in-Counts.ensures)

pub value_of-returns-in_ok-truth-in-Truths : goal.value_of-returns-in_ok-truth-in-Truths
unfolding form_tree
value_of-returns-in_ok-truth-in-Truths t c =
    let mode = mode_in c.args.scope in
    let env = env_in c.args.scope in
    let p = c.args.e.now.place in
    at_tree mode env _ _ _ _ _ (c.in-Truths.ensures.tree p)
    (truths_told mode c.mode-in-Truths.result env p c.in-Truths.every (expr_trees c.in-Truths.parts.now) c.args.meter.now c.truths.new.meter c.settled-in-Truths.new.meter c.in_ok-truth-in-Truths.truth _ c.settled-in-Truths.result
    c.in_ok-truth-in-Truths.ensures c.mode-in-Truths.ensures.mode c.truth_value.ensures c.settled-in-Truths.ensures)

pub value_of-returns-in_ok-worth-in-Chain : goal.value_of-returns-in_ok-worth-in-Chain
unfolding form_tree
value_of-returns-in_ok-worth-in-Chain t c =
    let mode = mode_in c.args.scope in
    let env = env_in c.args.scope in
    let p = c.args.e.now.place in
    at_tree mode env _ _ _ _ _ (c.in-Chain.ensures.tree p)
    (chain_told mode env p (terms_of c.in-Chain.terms.now) c.args.meter.now c.total.new.meter c.settled-in-Chain.new.meter c.in_ok-total-in-Chain.total c.in_ok-worth-in-Chain.worth c.settled-in-Chain.result
    c.in_ok-total-in-Chain.ensures c.in_ok-worth-in-Chain.ensures c.settled-in-Chain.ensures)

pub value_of-returns-in_ok-numbers-in-InDomain : goal.value_of-returns-in_ok-numbers-in-InDomain
unfolding form_tree
value_of-returns-in_ok-numbers-in-InDomain t c =
    let mode = mode_in c.args.scope in
    let env = env_in c.args.scope in
    let p = c.args.e.now.place in
    at_tree mode env _ _ _ _ _ (c.in-InDomain.ensures.tree p)
    (within_told mode c.mode-in-InDomain.result env p (expr_tree c.in-InDomain.part.now) (domain_tree c.in-InDomain.domain.now) c.args.meter.now c.value_of-in-InDomain.new.meter c.numbers_of.new.meter c.settled-in-InDomain.new.meter
    c.in_ok-seen-in-InDomain.seen c.in_ok-numbers-in-InDomain.numbers _ c.settled-in-InDomain.result
    c.in_ok-seen-in-InDomain.ensures c.in_ok-numbers-in-InDomain.ensures c.mode-in-InDomain.ensures.mode c.within.ensures c.settled-in-InDomain.ensures)

pub value_of-returns-in_ok-seen-in-Quant : goal.value_of-returns-in_ok-seen-in-Quant
unfolding form_tree
value_of-returns-in_ok-seen-in-Quant t c =
    let mode = mode_in c.args.scope in
    let env = env_in c.args.scope in
    let p = c.args.e.now.place in
    at_tree mode env _ _ _ _ _ (c.in-Quant.ensures.tree p)
    (c.in_ok-seen-in-Quant.ensures p)

pub value_of-returns-in_ok-made-in-Literal : goal.value_of-returns-in_ok-made-in-Literal
unfolding form_tree
value_of-returns-in_ok-made-in-Literal t c =
    let mode = mode_in c.args.scope in
    let env = env_in c.args.scope in
    let p = c.args.e.now.place in
    at_tree mode env _ _ _ _ _ (c.in-Literal.ensures.tree p)
    (literal_told mode env p c.in-Literal.parts.now (index_at c.in-Literal.domain.now) c.args.meter.now c.part_values.new.meter c.index_set.new.meter c.settled-in-Literal.new.meter
    (listed_in c.in_ok-values-in-Literal.values) c.in_ok-indices-in-Literal.indices _ c.in_ok-made-in-Literal.made c.settled-in-Literal.result
    c.in_ok-values-in-Literal.ensures refl c.in_ok-indices-in-Literal.ensures c.in_ok-made-in-Literal.ensures c.settled-in-Literal.ensures)

pub value_of-returns-in_ok-made-in-Comprehension : goal.value_of-returns-in_ok-made-in-Comprehension
unfolding form_tree
value_of-returns-in_ok-made-in-Comprehension t c =
    let mode = mode_in c.args.scope in
    let env = env_in c.args.scope in
    let p = c.args.e.now.place in
    at_tree mode env _ _ _ _ _ (c.in-Comprehension.ensures.tree p)
    (comprehension_told mode env p (expr_tree c.in-Comprehension.listing.body.now) (generators_of c.in-Comprehension.generators.now) (expr_trees c.in-Comprehension.listing.conditions.now) (index_at c.in-Comprehension.domain.now)
    c.args.meter.now c.generated.new.meter c.index_set-in-Comprehension.new.meter c.settled-in-Comprehension.new.meter c.in_ok-indices-in-Comprehension.indices _ (listed_in c.in_ok-values-in-Comprehension.values) c.count_of-count.result
    c.in_ok-made-in-Comprehension.made c.settled-in-Comprehension.result
    (ap (λ vs. Some (map value_tree vs)) c.new.ensures.items) c.in_ok-values-in-Comprehension.ensures c.count_of-count.ensures c.in_ok-indices-in-Comprehension.ensures c.in_ok-made-in-Comprehension.ensures c.settled-in-Comprehension.ensures)

pub value_of-returns-in_ok-given-in-Read : goal.value_of-returns-in_ok-given-in-Read
unfolding form_tree
value_of-returns-in_ok-given-in-Read t c =
    let mode = mode_in c.args.scope in
    let env = env_in c.args.scope in
    let p = c.args.e.now.place in
    at_tree mode env _ _ _ _ _ (c.in-Read.ensures.tree p)
    (read_told mode env p (expr_tree c.in-Read.matrix.now) (indices_of c.in-Read.indices.now) c.args.meter.now c.value_of-in-Read.new.meter c.index_values.new.meter c.settled-in-Read.new.meter
    c.in_ok-seen-in-Read.seen _ (seen_held c.in_ok-found-in-Read.found) c.in_ok-given-in-Read.given c.settled-in-Read.result
    c.in_ok-seen-in-Read.ensures c.in_ok-values-in-Read.ensures c.in_ok-found-in-Read.ensures (c.in_ok-given-in-Read.ensures p) c.settled-in-Read.ensures)

pub value_of-value_of-requires : goal.value_of-value_of-requires
unfolding IsBelow
value_of-value_of-requires t c = (omega (arith, deeper c.args.e.now (size-Expr c.in-One.part.now) c.in-One.ensures.below, c.decreases), tt)

pub value_of-value_of-requires-in-Two : goal.value_of-value_of-requires-in-Two
unfolding IsBelow
value_of-value_of-requires-in-Two t c = (omega (arith, deeper c.args.e.now (size-Expr c.in-Two.left.now) c.in-Two.ensures.below.0, c.decreases), tt)

pub value_of-value_of-requires-in-Two-2 : goal.value_of-value_of-requires-in-Two-2
unfolding IsBelow
value_of-value_of-requires-in-Two-2 t c = (omega (arith, deeper c.args.e.now (size-Expr c.in-Two.right.now) c.in-Two.ensures.below.1, c.decreases), tt)

pub value_of-value_of-requires-in-Counts : goal.value_of-value_of-requires-in-Counts
unfolding IsBelow
value_of-value_of-requires-in-Counts t c = (omega (arith, deeper c.args.e.now (size-Expr c.in-Counts.list.now) c.in-Counts.ensures.below.0, c.decreases), tt)

pub value_of-value_of-requires-in-Counts-2 : goal.value_of-value_of-requires-in-Counts-2
unfolding IsBelow
value_of-value_of-requires-in-Counts-2 t c = (omega (arith, deeper c.args.e.now (size-Expr c.in-Counts.one.now) c.in-Counts.ensures.below.1.0, c.decreases), tt)

pub value_of-value_of-requires-in-Counts-3 : goal.value_of-value_of-requires-in-Counts-3
unfolding IsBelow
value_of-value_of-requires-in-Counts-3 t c = (omega (arith, deeper c.args.e.now (size-Expr c.in-Counts.other.now) c.in-Counts.ensures.below.1.1, c.decreases), tt)

pub value_of-truths-requires : goal.value_of-truths-requires
unfolding IsBelow
value_of-truths-requires t c = (omega (arith, deeper c.args.e.now (most size-Expr c.in-Truths.parts.now) c.in-Truths.ensures.below, c.decreases), tt)

pub value_of-total-requires : goal.value_of-total-requires
unfolding IsBelow
value_of-total-requires t c = (omega (arith, deeper c.args.e.now (most (λ t. size-Expr t.1) c.in-Chain.terms.now) c.in-Chain.ensures.below, c.decreases), tt)

pub value_of-value_of-requires-in-InDomain : goal.value_of-value_of-requires-in-InDomain
unfolding IsBelow
value_of-value_of-requires-in-InDomain t c = (omega (arith, deeper c.args.e.now (size-Expr c.in-InDomain.part.now) c.in-InDomain.ensures.below.0, c.decreases), tt)

pub value_of-numbers_of-requires : goal.value_of-numbers_of-requires
unfolding IsBelow
value_of-numbers_of-requires t c = (omega (arith, deeper c.args.e.now (size-Domain c.in-InDomain.domain.now) c.in-InDomain.ensures.below.1, c.decreases), tt)

pub value_of-quantified-requires : goal.value_of-quantified-requires
unfolding IsBelow
value_of-quantified-requires t c = (omega (arith, deeper c.args.e.now (depth_of c.in-Quant.quantifier) c.in-Quant.ensures.below.0, c.in-Quant.ensures.below.1, c.decreases), tt)

pub value_of-part_values-requires : goal.value_of-part_values-requires
unfolding IsBelow
value_of-part_values-requires t c = (omega (arith, deeper c.args.e.now (most size-Expr c.in-Literal.parts.now) c.in-Literal.ensures.below.0, c.decreases), tt)

pub value_of-index_set-requires : goal.value_of-index_set-requires
unfolding IsBelow
value_of-index_set-requires t c = (omega (arith, deeper c.args.e.now (index_depth c.in-Literal.domain.now) c.in-Literal.ensures.below.1, c.decreases), tt)

pub value_of-generated-requires : goal.value_of-generated-requires
unfolding IsBelow
value_of-generated-requires t c = (omega (arith, deeper c.args.e.now (generators_depth c.in-Comprehension.listing c.in-Comprehension.generators.now) c.in-Comprehension.ensures.below.0.0, c.in-Comprehension.ensures.below.0.1, c.decreases), tt)

pub value_of-index_set-requires-in-Comprehension : goal.value_of-index_set-requires-in-Comprehension
unfolding IsBelow
value_of-index_set-requires-in-Comprehension t c = (omega (arith, deeper c.args.e.now (index_depth c.in-Comprehension.domain.now) c.in-Comprehension.ensures.below.1, c.decreases), tt)

pub value_of-value_of-requires-in-Read : goal.value_of-value_of-requires-in-Read
unfolding IsBelow
value_of-value_of-requires-in-Read t c = (omega (arith, deeper c.args.e.now (size-Expr c.in-Read.matrix.now) c.in-Read.ensures.below.0, c.decreases), tt)

pub value_of-index_values-requires : goal.value_of-index_values-requires
unfolding IsBelow
value_of-index_values-requires t c = (omega (arith, deeper c.args.e.now (most end_depth c.in-Read.indices.now) c.in-Read.ensures.below.1, c.decreases), tt)
