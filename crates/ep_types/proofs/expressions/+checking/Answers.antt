use Rattle.std.proofs.Common.{arith, inl, inr, ◌+◌, false, not, ◌&&◌, ◌||◌, List, [], ◌∷◌, drop, Ok, refl, sym, ap, subst, ◌∙◌}
use Rattle.std.proofs.lemmas.Result.{err_from_is_err_and}
use Rattle.std.specs.List.{list_all}
use Rattle.ep_tree.specs.Types.{gives, is_boolean, is_integer, list_type, matrix_type, quantified_name, read_type, slice_count, typed}
use Rattle.ep_tree.specs.Names.{put}
use Rattle.ep_tree.specs.Views.{domain_tree, domains_of, end_of, expr_tree, expr_trees, generators_of, indices_of, ranges_of, terms_of}
use Rattle.ep_tree.specs.declared.values.ValueType.{ValueType}
use Rattle.ep_types_rules.proofs.RuleSteps.{says_same}
use Rattle.ep_types_rules.proofs.Said.{memory_says}
use Rattle.ep_types_rules.specs.Concluding.{conclude, quantified_over, unless_fault, ◌>>=◌}
use Rattle.ep_types.proofs.Arms.{all_of_parts, all_walks, any_of_parts, chain_parts, comprehension_parts, domains_walk, every_index, literal_parts, matrix_parts, next_generator, next_reading, no_generator, no_index, no_reading, one_index, quantified_parts, ranges_parts, read_parts, terms_walk}
use Rattle.ep_types.proofs.Bounds.{all_held, by_bounds, held_fails, next_bounds, no_bounds, nothing_held, one_bounds, one_held, span_bounds}
use Rattle.ep_types.proofs.Hiding.{counted, hides_after, hides_none, shown}
use Rattle.ep_types.proofs.Readings.{reading}
use Rattle.ep_types.proofs.Reread.{known_again}
use Rattle.ep_types.proofs.Scopes.{on_ok, same_after, same_again}
use Rattle.ep_types.proofs.Walks.{Goes, all_done, all_read, behind_all, blames_at, blames_first, blames_memory, fails, none_done, nothing_done, nothing_read, ok_at, one_done, one_read, read_fails, then_is, walk_ends, walk_fails, walked}
use Rattle.ep_types.specs.Checking.{check, check_all, check_domain, check_domains, check_end, check_generators, check_index, check_indices, check_ranges, check_readings, check_terms}
use Rattle.ep_types.specs.Reading.{check_bounds, check_read, range_bounds, stated_index}
use Rattle.ep_tree.specs.Faults.{has_open_range, open_domain}
use Rattle.ep_types.specs.Meanings.{names_context}
use Rattle.ep_types.proofs.expressions.+checking.Goals as goal

pub types_of-loop-part-init : goal.types_of-loop-part-init
types_of-loop-part-init t c =
    let whole = check_all (names_context c.args.names.now) c.args.decisions (expr_trees c.args.parts.now) in
    let P : List ValueType → Type 0 = λ l. Goes whole l whole in
    (same_again _, subst P (sym c.in_ok-types.ensures.items) (nothing_done whole))

pub types_of-loop-part-preserved : goal.types_of-loop-part-preserved
types_of-loop-part-preserved t c =
    let k = names_context c.args.names.now in
    let d = c.args.decisions in
    let x = c.part-item.result in (
      same_after _ _ _ c.loop-part.invariant.0 c.in_ok-ty.ensures.same,
      walked (λ xs. check_all k d (expr_trees xs)) (λ e. check k d (expr_tree e)) (all_walks k d) _ _ c.args.parts.now c.loop-part.part-index x c.in_ok-ty.ty _
          c.loop-part.invariant.1 c.loop-part-test.true c.part-item.is
          (ok_at (λ z. check z d (expr_tree x)) k _ c.in_ok-ty.ty c.loop-part.invariant.0.context c.in_ok-ty.ensures.says)
          c.in_ok-push.ensures.items,
    )

pub types_of-returns-in_err-ty-clause-says : goal.types_of-returns-in_err-ty-clause-says
types_of-returns-in_err-ty-clause-says t c =
    let k = names_context c.args.names.now in
    let d = c.args.decisions in
    let x = c.part-item.result in
    let p = err_from_is_err_and c.from_residual-in_err-ty.result c.from_residual-in_err-ty.ensures.1 in
    rw (p.1, p.2)
    (walk_fails (λ xs. check_all k d (expr_trees xs)) (λ e. check k d (expr_tree e)) (all_walks k d) _ _ c.args.parts.now c.loop-part.part-index x c.in_err-ty.field-0.0
    c.loop-part.invariant.1 c.loop-part-test.true c.part-item.is
    (blames_at (λ z. check z d (expr_tree x)) k _ c.in_err-ty.field-0.0 c.loop-part.invariant.0.context c.in_err-ty.ensures.says))

pub types_of-returns-clause-says : goal.types_of-returns-clause-says
types_of-returns-clause-says t c =
    let k = names_context c.args.names.now in
    let d = c.args.decisions in
    walk_ends (λ xs. check_all k d (expr_trees xs)) (λ e. check k d (expr_tree e)) (all_walks k d) _ _ c.args.parts.now c.loop-part.part-index c.loop-part.invariant.1 c.loop-part-test.false

pub term_types-loop-term-init : goal.term_types-loop-term-init
term_types-loop-term-init t c =
    let whole = check_terms (names_context c.args.names.now) c.args.decisions (terms_of c.args.terms.now) in
    let P : List ValueType → Type 0 = λ l. Goes whole l whole in
    (same_again _, subst P (sym c.in_ok-types.ensures.items) (nothing_done whole))

pub term_types-loop-term-preserved : goal.term_types-loop-term-preserved
term_types-loop-term-preserved t c =
    let k = names_context c.args.names.now in
    let d = c.args.decisions in
    let x = c.term-item.result in (
      same_after _ _ _ c.loop-term.invariant.0 c.in_ok-ty.ensures.same,
      walked (λ xs. check_terms k d (terms_of xs)) (λ e. check k d (expr_tree e.1)) (terms_walk k d) _ _ c.args.terms.now c.loop-term.term-index x c.in_ok-ty.ty _
          c.loop-term.invariant.1 c.loop-term-test.true c.term-item.is
          (ok_at (λ z. check z d (expr_tree x.1)) k _ c.in_ok-ty.ty c.loop-term.invariant.0.context c.in_ok-ty.ensures.says)
          c.in_ok-push.ensures.items,
    )

pub term_types-returns-in_err-ty-clause-says : goal.term_types-returns-in_err-ty-clause-says
term_types-returns-in_err-ty-clause-says t c =
    let k = names_context c.args.names.now in
    let d = c.args.decisions in
    let x = c.term-item.result in
    let p = err_from_is_err_and c.from_residual-in_err-ty.result c.from_residual-in_err-ty.ensures.1 in
    rw (p.1, p.2)
    (walk_fails (λ xs. check_terms k d (terms_of xs)) (λ e. check k d (expr_tree e.1)) (terms_walk k d) _ _ c.args.terms.now c.loop-term.term-index x c.in_err-ty.field-0.0
    c.loop-term.invariant.1 c.loop-term-test.true c.term-item.is
    (blames_at (λ z. check z d (expr_tree x.1)) k _ c.in_err-ty.field-0.0 c.loop-term.invariant.0.context c.in_err-ty.ensures.says))

pub term_types-returns-clause-says : goal.term_types-returns-clause-says
term_types-returns-clause-says t c =
    let k = names_context c.args.names.now in
    let d = c.args.decisions in
    walk_ends (λ xs. check_terms k d (terms_of xs)) (λ e. check k d (expr_tree e.1)) (terms_walk k d) _ _ c.args.terms.now c.loop-term.term-index c.loop-term.invariant.1 c.loop-term-test.false

pub with_list-returns-in_err-types-in-Add-clause-says : goal.with_list-returns-in_err-types-in-Add-clause-says
with_list-returns-in_err-types-in-Add-clause-says t c =
    let p = err_from_is_err_and c.from_residual.result c.from_residual.ensures.1 in
    rw (p.1, p.2) (blames_first c.in_err-types-in-Add.field-0.0 _ _ _ (chain_parts (names_context c.args.names.now) c.args.decisions c.args.e.now.place c.args.e.now.kind c.in-Add.terms c.deref.result.now c.in-Add.is c.deref.ensures.value) c.in_err-types-in-Add.ensures.says)

pub with_list-returns-in_ok-types-in-Add-clause-says : goal.with_list-returns-in_ok-types-in-Add-clause-says
with_list-returns-in_ok-types-in-Add-clause-says t c =
    says_same c.gives.result _ _
    (then_is _ _ _ _ (chain_parts (names_context c.args.names.now) c.args.decisions c.args.e.now.place c.args.e.now.kind c.in-Add.terms c.deref.result.now c.in-Add.is c.deref.ensures.value) c.in_ok-types-in-Add.ensures.says
    ∙ ap (λ ts. conclude c.args.e.now.place (gives ValueType.Int (list_all is_integer ts))) (sym c.deref-in-Add.ensures.value)
    ∙ ap (λ b. conclude c.args.e.now.place (gives ValueType.Int b)) (sym c.all_integer.ensures))
    c.gives.ensures

pub with_list-returns-in_err-types-in-And-clause-says : goal.with_list-returns-in_err-types-in-And-clause-says
with_list-returns-in_err-types-in-And-clause-says t c =
    let p = err_from_is_err_and c.from_residual-in_err-types-in-And.result c.from_residual-in_err-types-in-And.ensures.1 in
    rw (p.1, p.2) (blames_first c.in_err-types-in-And.field-0.0 _ _ _ (all_of_parts (names_context c.args.names.now) c.args.decisions c.args.e.now.place c.args.e.now.kind c.in-And.parts c.deref-in-And.result.now c.in-And.is c.deref-in-And.ensures.value) c.in_err-types-in-And.ensures.says)

pub with_list-returns-in_ok-types-in-And-clause-says : goal.with_list-returns-in_ok-types-in-And-clause-says
with_list-returns-in_ok-types-in-And-clause-says t c =
    says_same c.gives-in-And.result _ _
    (then_is _ _ _ _ (all_of_parts (names_context c.args.names.now) c.args.decisions c.args.e.now.place c.args.e.now.kind c.in-And.parts c.deref-in-And.result.now c.in-And.is c.deref-in-And.ensures.value) c.in_ok-types-in-And.ensures.says
    ∙ ap (λ ts. conclude c.args.e.now.place (gives ValueType.Bool (list_all is_boolean ts))) (sym c.deref-in-And-2.ensures.value)
    ∙ ap (λ b. conclude c.args.e.now.place (gives ValueType.Bool b)) (sym c.all_boolean.ensures))
    c.gives-in-And.ensures

pub with_list-returns-in_err-types-in-Or-clause-says : goal.with_list-returns-in_err-types-in-Or-clause-says
with_list-returns-in_err-types-in-Or-clause-says t c =
    let p = err_from_is_err_and c.from_residual-in_err-types-in-Or.result c.from_residual-in_err-types-in-Or.ensures.1 in
    rw (p.1, p.2) (blames_first c.in_err-types-in-Or.field-0.0 _ _ _ (any_of_parts (names_context c.args.names.now) c.args.decisions c.args.e.now.place c.args.e.now.kind c.in-Or.parts c.deref-in-Or.result.now c.in-Or.is c.deref-in-Or.ensures.value) c.in_err-types-in-Or.ensures.says)

pub with_list-returns-in_ok-types-in-Or-clause-says : goal.with_list-returns-in_ok-types-in-Or-clause-says
with_list-returns-in_ok-types-in-Or-clause-says t c =
    says_same c.gives-in-Or.result _ _
    (then_is _ _ _ _ (any_of_parts (names_context c.args.names.now) c.args.decisions c.args.e.now.place c.args.e.now.kind c.in-Or.parts c.deref-in-Or.result.now c.in-Or.is c.deref-in-Or.ensures.value) c.in_ok-types-in-Or.ensures.says
    ∙ ap (λ ts. conclude c.args.e.now.place (gives ValueType.Bool (list_all is_boolean ts))) (sym c.deref-in-Or-2.ensures.value)
    ∙ ap (λ b. conclude c.args.e.now.place (gives ValueType.Bool b)) (sym c.all_boolean-in-Or.ensures))
    c.gives-in-Or.ensures

pub types_of-returns-in_err-types-clause-says : goal.types_of-returns-in_err-types-clause-says
types_of-returns-in_err-types-clause-says t c =
    let p = err_from_is_err_and c.from_residual.result c.from_residual.ensures.1 in
    rw (p.1, p.2) (memory_says _)

pub types_of-returns-in_err-push-clause-says : goal.types_of-returns-in_err-push-clause-says
types_of-returns-in_err-push-clause-says t c =
    let p = err_from_is_err_and c.from_residual-in_err-push.result c.from_residual-in_err-push.ensures.1 in
    rw (p.1, p.2) (memory_says _)

pub term_types-returns-in_err-types-clause-says : goal.term_types-returns-in_err-types-clause-says
term_types-returns-in_err-types-clause-says t c =
    let p = err_from_is_err_and c.from_residual.result c.from_residual.ensures.1 in
    rw (p.1, p.2) (memory_says _)

pub term_types-returns-in_err-push-clause-says : goal.term_types-returns-in_err-push-clause-says
term_types-returns-in_err-push-clause-says t c =
    let p = err_from_is_err_and c.from_residual-in_err-push.result c.from_residual-in_err-push.ensures.1 in
    rw (p.1, p.2) (memory_says _)

pub domain_types-loop-domain-init : goal.domain_types-loop-domain-init
domain_types-loop-domain-init t c =
    let whole = check_domains (names_context c.args.names.now) (domains_of c.args.domains.now) in
    let P : List ValueType → Type 0 = λ l. Goes whole l whole in
    (same_again _, subst P (sym c.in_ok-types.ensures.items) (nothing_done whole))

pub domain_types-loop-domain-preserved : goal.domain_types-loop-domain-preserved
domain_types-loop-domain-preserved t c =
    let k = names_context c.args.names.now in
    let x = c.domain-item.result in (
      same_after _ _ _ c.loop-domain.invariant.0 c.in_ok-ty.ensures.same,
      walked (λ xs. check_domains k (domains_of xs)) (λ d. check_domain k false (domain_tree d)) (domains_walk k) _ _ c.args.domains.now c.loop-domain.domain-index x c.in_ok-ty.ty _
          c.loop-domain.invariant.1 c.loop-domain-test.true c.domain-item.is
          (ok_at (λ z. check_domain z false (domain_tree x)) k _ c.in_ok-ty.ty c.loop-domain.invariant.0.context c.in_ok-ty.ensures.says)
          c.in_ok-push.ensures.items,
    )

pub domain_types-returns-in_err-ty-clause-says : goal.domain_types-returns-in_err-ty-clause-says
domain_types-returns-in_err-ty-clause-says t c =
    let k = names_context c.args.names.now in
    let x = c.domain-item.result in
    let p = err_from_is_err_and c.from_residual-in_err-ty.result c.from_residual-in_err-ty.ensures.1 in
    rw (p.1, p.2)
    (walk_fails (λ xs. check_domains k (domains_of xs)) (λ d. check_domain k false (domain_tree d)) (domains_walk k) _ _ c.args.domains.now c.loop-domain.domain-index x c.in_err-ty.field-0.0
    c.loop-domain.invariant.1 c.loop-domain-test.true c.domain-item.is
    (blames_at (λ z. check_domain z false (domain_tree x)) k _ c.in_err-ty.field-0.0 c.loop-domain.invariant.0.context c.in_err-ty.ensures.says))

pub domain_types-returns-clause-says : goal.domain_types-returns-clause-says
domain_types-returns-clause-says t c =
    let k = names_context c.args.names.now in
    walk_ends (λ xs. check_domains k (domains_of xs)) (λ d. check_domain k false (domain_tree d)) (domains_walk k) _ _ c.args.domains.now c.loop-domain.domain-index c.loop-domain.invariant.1 c.loop-domain-test.false

pub domain_type-returns-in_err-types-in-Matrix-clause-says : goal.domain_type-returns-in_err-types-in-Matrix-clause-says
domain_type-returns-in_err-types-in-Matrix-clause-says t c =
    let k = names_context c.args.names.now in
    let p = err_from_is_err_and c.from_residual-in_err-types-in-Matrix.result c.from_residual-in_err-types-in-Matrix.ensures.1 in
    rw (p.1, p.2)
    (blames_first c.in_err-types-in-Matrix.field-0.0 _ _ _
    (matrix_parts k c.args.may_open c.args.domain.now.place c.args.domain.now.kind c.in-Matrix.indices c.in-Matrix.elements c.deref-in-Matrix.result.now c.in-Matrix.elements.value c.in-Matrix.is c.deref-in-Matrix.ensures.value refl)
    c.in_err-types-in-Matrix.ensures.says)

pub domain_type-returns-in_err-element-in-Matrix-clause-says : goal.domain_type-returns-in_err-element-in-Matrix-clause-says
domain_type-returns-in_err-element-in-Matrix-clause-says t c =
    let k = names_context c.args.names.now in
    let x = c.deref-in-Matrix-2.result.now in
    let p = err_from_is_err_and c.from_residual-in_err-element-in-Matrix.result c.from_residual-in_err-element-in-Matrix.ensures.1 in
    rw (p.1, p.2)
    (blames_first c.in_err-element-in-Matrix.field-0.0 _ _ _
    (then_is _ _ _ _
    (matrix_parts k c.args.may_open c.args.domain.now.place c.args.domain.now.kind c.in-Matrix.indices c.in-Matrix.elements c.deref-in-Matrix.result.now x c.in-Matrix.is c.deref-in-Matrix.ensures.value c.deref-in-Matrix-2.ensures)
    c.in_ok-types-in-Matrix.ensures.says)
    (blames_at (λ z. check_domain z c.args.may_open (domain_tree x)) k _ c.in_err-element-in-Matrix.field-0.0 c.in_ok-types-in-Matrix.ensures.same.context c.in_err-element-in-Matrix.ensures.says))

pub domain_type-returns-in_ok-element-in-Matrix-clause-says : goal.domain_type-returns-in_ok-element-in-Matrix-clause-says
domain_type-returns-in_ok-element-in-Matrix-clause-says t c =
    let k = names_context c.args.names.now in
    let x = c.deref-in-Matrix-2.result.now in
    says_same c.matrix.result _ _
    (then_is _ _ _ _
    (then_is _ _ _ _
    (matrix_parts k c.args.may_open c.args.domain.now.place c.args.domain.now.kind c.in-Matrix.indices c.in-Matrix.elements c.deref-in-Matrix.result.now x c.in-Matrix.is c.deref-in-Matrix.ensures.value c.deref-in-Matrix-2.ensures)
    c.in_ok-types-in-Matrix.ensures.says)
    (ok_at (λ z. check_domain z c.args.may_open (domain_tree x)) k _ c.in_ok-element-in-Matrix.element c.in_ok-types-in-Matrix.ensures.same.context c.in_ok-element-in-Matrix.ensures.says)
    ∙ ap (λ ts. conclude c.args.domain.now.place (matrix_type ts c.in_ok-element-in-Matrix.element)) (sym c.deref-in-Matrix-3.ensures.value))
    c.matrix.ensures

pub domain_types-returns-in_err-types-clause-says : goal.domain_types-returns-in_err-types-clause-says
domain_types-returns-in_err-types-clause-says t c =
    let p = err_from_is_err_and c.from_residual.result c.from_residual.ensures.1 in
    rw (p.1, p.2) (memory_says _)

pub domain_types-returns-in_err-push-clause-says : goal.domain_types-returns-in_err-push-clause-says
domain_types-returns-in_err-push-clause-says t c =
    let p = err_from_is_err_and c.from_residual-in_err-push.result c.from_residual-in_err-push.ensures.1 in
    rw (p.1, p.2) (memory_says _)

pub read_domain-loop-name-init : goal.read_domain-loop-name-init
read_domain-loop-name-init t c = (hides_none _ _ (same_again _), nothing_read _, tt)

pub read_domain-loop-name-preserved : goal.read_domain-loop-name-preserved
read_domain-loop-name-preserved t c =
    let x = c.name-item.result in
    let ty = c.in_ok-ty.ty in
    let dom = domain_tree c.args.domain.now in
    let ok = c.in_ok-ty.ensures.says c.loop-name.invariant.2 in (
      hides_after _ _ _ (hides_after _ _ _ c.loop-name.invariant.0 (hides_none _ _ c.in_ok-ty.ensures.same)) c.in_ok-known.ensures.hides,
      reading (λ z. check_domain z false dom) _ c.loop-name.scalar _ c.args.quantified.now c.loop-name.name-index x (names_context c.loop-name.names) _ ty (quantified_name (typed ty))
          c.loop-name.invariant.1 c.loop-name-test.true c.name-item.is ok
          (c.both-scalar.ensures ∙ ap (λ b. c.loop-name.scalar && b) c.is_integer.ensures)
          (c.in_ok-known.ensures.known ∙ ap (λ z. put x (quantified_name (typed ty)) z) c.in_ok-ty.ensures.same.context)
          refl,
      known_again (names_context c.domain_again.new.names) _ x (quantified_name (typed ty)) dom ty c.in_ok-known.known
          (ap (λ z. check_domain z false dom) c.in_ok-ty.ensures.same.context ∙ ok) c.in_ok-known.ensures.same c.in_ok-known.ensures.keeps c.in_ok-known.ensures.known,
    )

pub read_domain-returns-in_err-ty-clause-says : goal.read_domain-returns-in_err-ty-clause-says
read_domain-returns-in_err-ty-clause-says t c =
    let p = err_from_is_err_and c.from_residual.result c.from_residual.ensures.1 in
    rw (p.1, p.2)
    (read_fails c.in_err-ty.field-0.0 _ c.loop-name.scalar _ _ _ c.loop-name.invariant.1
    (next_reading (λ z. check_domain z false (domain_tree c.args.domain.now)) (names_context c.loop-name.names) c.args.quantified.now c.loop-name.name-index c.name-item.result c.loop-name-test.true c.name-item.is)
    (c.in_err-ty.ensures.says c.loop-name.invariant.2))

pub read_domain-returns-in_err-known-clause-says : goal.read_domain-returns-in_err-known-clause-says
read_domain-returns-in_err-known-clause-says t c =
    let p = err_from_is_err_and c.from_residual-in_err-known.result c.from_residual-in_err-known.ensures.1 in
    rw (p.1, p.2) (blames_memory c.in_err-known.field-0.0 _ c.in_err-known.ensures.memory)

pub read_domain-returns-clause-says : goal.read_domain-returns-clause-says
read_domain-returns-clause-says t c =
    all_read _ c.loop-name.scalar _ (names_context c.loop-name.names) c.loop-name.invariant.1
    (no_reading (λ z. check_domain z false (domain_tree c.args.domain.now)) (names_context c.loop-name.names) c.args.quantified.now c.loop-name.name-index c.loop-name-test.false)

pub with_list-returns-in_err-types-in-Literal-clause-says : goal.with_list-returns-in_err-types-in-Literal-clause-says
with_list-returns-in_err-types-in-Literal-clause-says t c =
    let p = err_from_is_err_and c.from_residual-in_err-types-in-Literal.result c.from_residual-in_err-types-in-Literal.ensures.1 in
    rw (p.1, p.2)
    (blames_first c.in_err-types-in-Literal.field-0.0 _ _ _ (literal_parts (names_context c.args.names.now) c.args.decisions c.args.e.now.place c.args.e.now.kind c.in-Literal.parts c.in-Literal.index c.deref-in-Literal.result.now c.in-Literal.is c.deref-in-Literal.ensures.value) c.in_err-types-in-Literal.ensures.says)

pub with_list-returns-in_err-scalar-in-Literal-clause-says : goal.with_list-returns-in_err-scalar-in-Literal-clause-says
with_list-returns-in_err-scalar-in-Literal-clause-says t c =
    let p = err_from_is_err_and c.from_residual-in_err-scalar-in-Literal.result c.from_residual-in_err-scalar-in-Literal.ensures.1 in
    rw (p.1, p.2)
    (blames_first c.in_err-scalar-in-Literal.field-0.0 _ _ _
    (then_is _ _ _ _ (literal_parts (names_context c.args.names.now) c.args.decisions c.args.e.now.place c.args.e.now.kind c.in-Literal.parts c.in-Literal.index c.deref-in-Literal.result.now c.in-Literal.is c.deref-in-Literal.ensures.value) c.in_ok-types-in-Literal.ensures.says)
    (blames_at (λ z. check_index z (stated_index c.in-Literal.index)) (names_context c.args.names.now) _ c.in_err-scalar-in-Literal.field-0.0 c.in_ok-types-in-Literal.ensures.same.context c.in_err-scalar-in-Literal.ensures.says))

pub with_list-returns-in_ok-scalar-in-Literal-clause-says : goal.with_list-returns-in_ok-scalar-in-Literal-clause-says
with_list-returns-in_ok-scalar-in-Literal-clause-says t c =
    says_same c.list.result _ _
    (then_is _ _ _ _
    (then_is _ _ _ _ (literal_parts (names_context c.args.names.now) c.args.decisions c.args.e.now.place c.args.e.now.kind c.in-Literal.parts c.in-Literal.index c.deref-in-Literal.result.now c.in-Literal.is c.deref-in-Literal.ensures.value) c.in_ok-types-in-Literal.ensures.says)
    (ok_at (λ z. check_index z (stated_index c.in-Literal.index)) (names_context c.args.names.now) _ c.in_ok-scalar-in-Literal.scalar c.in_ok-types-in-Literal.ensures.same.context c.in_ok-scalar-in-Literal.ensures.says)
    ∙ ap (λ ts. conclude c.args.e.now.place (quantified_over c.in_ok-scalar-in-Literal.scalar (list_type ts))) (sym c.deref-in-Literal-2.ensures.value))
    c.list.ensures

pub with_list-returns-in_err-ty-in-Read-clause-says : goal.with_list-returns-in_err-ty-in-Read-clause-says
with_list-returns-in_err-ty-in-Read-clause-says t c =
    let p = err_from_is_err_and c.from_residual-in_err-ty-in-Read.result c.from_residual-in_err-ty-in-Read.ensures.1 in
    rw (p.1, p.2)
    (blames_first c.in_err-ty-in-Read.field-0.0 _ _ _ (read_parts (names_context c.args.names.now) c.args.decisions c.args.e.now.place c.args.e.now.kind c.in-Read.m c.in-Read.indices c.in-Read.indices.items c.deref-in-Read.result.now c.in-Read.is refl c.deref-in-Read.ensures) c.in_err-ty-in-Read.ensures.says)

pub with_list-returns-in_ok-ty-in-Read-clause-says : goal.with_list-returns-in_ok-ty-in-Read-clause-says
with_list-returns-in_ok-ty-in-Read-clause-says t c =
    says_same c.read_type.result _ _
    (then_is _ _ _ _ (read_parts (names_context c.args.names.now) c.args.decisions c.args.e.now.place c.args.e.now.kind c.in-Read.m c.in-Read.indices c.deref-in-Read-2.result.now c.deref-in-Read.result.now c.in-Read.is c.deref-in-Read-2.ensures.value c.deref-in-Read.ensures) c.in_ok-ty-in-Read.ensures.says
    ∙ ap (λ z. check_read z c.args.decisions c.args.e.now.place c.in_ok-ty-in-Read.ty (indices_of c.deref-in-Read-2.result.now)) (sym c.in_ok-ty-in-Read.ensures.same.context))
    c.read_type.ensures.says

pub read_type-returns-in_err-types-clause-says : goal.read_type-returns-in_err-types-clause-says
read_type-returns-in_err-types-clause-says t c =
    let p = err_from_is_err_and c.from_residual.result c.from_residual.ensures.1 in
    rw (p.1, p.2)
    (blames_first c.in_err-types.field-0.0 _ _ _
    (ap (λ b. check_indices (names_context c.args.names.now) b (indices_of c.args.indices.now) >>= λ ts. conclude c.args.place (read_type c.args.ty ts (slice_count (indices_of c.args.indices.now)))) (sym c.may_decide_indices-may_decide.ensures))
    c.in_err-types.ensures.says)

pub read_type-returns-clause-says : goal.read_type-returns-clause-says
read_type-returns-clause-says t c =
    let is = indices_of c.args.indices.now in
    says_same c.read.result _ _
    (then_is _ _ _ _
    (ap (λ b. check_indices (names_context c.args.names.now) b is >>= λ ts. conclude c.args.place (read_type c.args.ty ts (slice_count is))) (sym c.may_decide_indices-may_decide.ensures))
    c.in_ok-types.ensures.says
    ∙ ap (λ ts. conclude c.args.place (read_type c.args.ty ts (slice_count is))) (sym c.deref.ensures.value)
    ∙ ap (λ n. conclude c.args.place (read_type c.args.ty c.deref.result.now n)) (sym c.count_slices.ensures.count))
    c.read.ensures

pub index_types-loop-index-init : goal.index_types-loop-index-init
index_types-loop-index-init t c =
    let whole = check_indices (names_context c.args.names.now) c.args.decisions (indices_of c.args.indices.now) in
    let P : List ValueType → Type 0 = λ l. Goes whole l whole in
    (same_again _, subst P (sym c.in_ok-types.ensures.items) (nothing_done whole))

pub index_types-loop-index-preserved-in-None : goal.index_types-loop-index-preserved-in-None
index_types-loop-index-preserved-in-None t c =
    (c.loop-index.invariant.0, none_done _ _ _ _ c.loop-index.invariant.1 (every_index (names_context c.args.names.now) c.args.decisions c.args.indices.now c.loop-index.index-index c.index-item.result c.loop-index-test.true c.index-item.is c.in-None.is))

pub index_types-loop-index-preserved : goal.index_types-loop-index-preserved
index_types-loop-index-preserved t c =
    let rest = check_indices (names_context c.args.names.now) c.args.decisions (indices_of (drop (c.loop-index.index-index + 1) c.args.indices.now)) in
    let P : List ValueType → Type 0 = λ l. Goes (check_indices (names_context c.args.names.now) c.args.decisions (indices_of c.args.indices.now)) l rest in (
      same_after _ _ _ c.loop-index.invariant.0 c.in_ok-ty-in-Some.ensures.same,
      subst P (sym c.in_ok-push-in-Some.ensures.items)
          (one_done _ _ _ rest _ c.in_ok-ty-in-Some.ty c.loop-index.invariant.1 (one_index (names_context c.args.names.now) c.args.decisions c.args.indices.now c.loop-index.index-index c.index-item.result c.loop-index-test.true c.index-item.is c.in-Some.e c.in-Some.is)
          (ok_at (λ z. check z c.args.decisions (expr_tree c.in-Some.e)) (names_context c.args.names.now) _ c.in_ok-ty-in-Some.ty c.loop-index.invariant.0.context c.in_ok-ty-in-Some.ensures.says)),
    )

pub index_types-returns-in_err-ty-in-Some-clause-says : goal.index_types-returns-in_err-ty-in-Some-clause-says
index_types-returns-in_err-ty-in-Some-clause-says t c =
    let p = err_from_is_err_and c.from_residual-in_err-ty-in-Some.result c.from_residual-in_err-ty-in-Some.ensures.1 in
    rw (p.1, p.2)
    (fails c.in_err-ty-in-Some.field-0.0 _ _ _ _ _ c.loop-index.invariant.1 (one_index (names_context c.args.names.now) c.args.decisions c.args.indices.now c.loop-index.index-index c.index-item.result c.loop-index-test.true c.index-item.is c.in-Some.e c.in-Some.is)
    (blames_at (λ z. check z c.args.decisions (expr_tree c.in-Some.e)) (names_context c.args.names.now) _ c.in_err-ty-in-Some.field-0.0 c.loop-index.invariant.0.context c.in_err-ty-in-Some.ensures.says))

pub index_types-returns-in_err-push-in-Some-clause-says : goal.index_types-returns-in_err-push-in-Some-clause-says
index_types-returns-in_err-push-in-Some-clause-says t c =
    let p = err_from_is_err_and c.from_residual-in_err-push-in-Some.result c.from_residual-in_err-push-in-Some.ensures.1 in
    rw (p.1, p.2)
    (memory_says _)

pub index_types-returns-in_err-types-clause-says : goal.index_types-returns-in_err-types-clause-says
index_types-returns-in_err-types-clause-says t c =
    let p = err_from_is_err_and c.from_residual.result c.from_residual.ensures.1 in
    rw (p.1, p.2)
    (memory_says _)

pub index_types-returns-clause-says : goal.index_types-returns-clause-says
index_types-returns-clause-says t c =
    all_done _ _ _ c.loop-index.invariant.1 (no_index (names_context c.args.names.now) c.args.decisions c.args.indices.now c.loop-index.index-index c.loop-index-test.false)

pub with_domain-returns-in_err-scalar-in-Quant-clause-says : goal.with_domain-returns-in_err-scalar-in-Quant-clause-says
with_domain-returns-in_err-scalar-in-Quant-clause-says t c =
    let p = err_from_is_err_and c.from_residual-in_err-scalar-in-Quant.result c.from_residual-in_err-scalar-in-Quant.ensures.1 in
    rw (p.1, p.2)
    (blames_first c.in_err-scalar-in-Quant.field-0.0 _ _ _ (quantified_parts (names_context c.args.names.now) c.args.decisions c.args.e.now.place c.args.e.now.kind c.in-Quant.op c.in-Quant.quantified c.in-Quant.domain c.in-Quant.e c.deref-in-Quant.result.now c.deref-in-Quant-2.result.now c.in-Quant.e.value c.in-Quant.is c.deref-in-Quant.ensures.value c.deref-in-Quant-2.ensures refl) c.in_err-scalar-in-Quant.ensures.says)

pub with_domain-returns-in_err-ty-in-Quant-clause-says : goal.with_domain-returns-in_err-ty-in-Quant-clause-says
with_domain-returns-in_err-ty-in-Quant-clause-says t c =
    let p = err_from_is_err_and c.from_residual-in_err-ty-in-Quant.result c.from_residual-in_err-ty-in-Quant.ensures.1 in
    rw (p.1, p.2)
    (blames_first c.in_err-ty-in-Quant.field-0.0 _ _ _
    (then_is _ _ _ _ (quantified_parts (names_context c.args.names.now) c.args.decisions c.args.e.now.place c.args.e.now.kind c.in-Quant.op c.in-Quant.quantified c.in-Quant.domain c.in-Quant.e c.deref-in-Quant.result.now c.deref-in-Quant-2.result.now c.deref-in-Quant-3.result.now c.in-Quant.is c.deref-in-Quant.ensures.value c.deref-in-Quant-2.ensures c.deref-in-Quant-3.ensures) c.in_ok-scalar-in-Quant.ensures.says)
    c.in_err-ty-in-Quant.ensures.says)

pub with_domain-returns-in_ok-ty-in-Quant-clause-says : goal.with_domain-returns-in_ok-ty-in-Quant-clause-says
with_domain-returns-in_ok-ty-in-Quant-clause-says t c =
    says_same c.quantified.result _ _
    (then_is _ _ _ _ (then_is _ _ _ _ (quantified_parts (names_context c.args.names.now) c.args.decisions c.args.e.now.place c.args.e.now.kind c.in-Quant.op c.in-Quant.quantified c.in-Quant.domain c.in-Quant.e c.deref-in-Quant.result.now c.deref-in-Quant-2.result.now c.deref-in-Quant-3.result.now c.in-Quant.is c.deref-in-Quant.ensures.value c.deref-in-Quant-2.ensures c.deref-in-Quant-3.ensures) c.in_ok-scalar-in-Quant.ensures.says) c.in_ok-ty-in-Quant.ensures.says)
    c.quantified.ensures

pub with_domain-returns-in_ok-ty-in-Quant-clause-same : goal.with_domain-returns-in_ok-ty-in-Quant-clause-same
with_domain-returns-in_ok-ty-in-Quant-clause-same t c =
    on_ok c.quantified.result
    (shown _ _ _ _ (hides_after _ _ _ c.in_ok-scalar-in-Quant.ensures.hides (hides_none _ _ c.in_ok-ty-in-Quant.ensures.same)) (c.len-depth.ensures ∙ counted c.args.names.now) c.show.ensures.inner c.show.ensures.declared)

pub with_domain-returns-in_err-index-in-Comprehension-clause-says : goal.with_domain-returns-in_err-index-in-Comprehension-clause-says
with_domain-returns-in_err-index-in-Comprehension-clause-says t c =
    let p = err_from_is_err_and c.from_residual-in_err-index-in-Comprehension.result c.from_residual-in_err-index-in-Comprehension.ensures.1 in
    rw (p.1, p.2)
    (blames_first c.in_err-index-in-Comprehension.field-0.0 _ _ _ (comprehension_parts (names_context c.args.names.now) c.args.decisions c.args.e.now.place c.args.e.now.kind c.in-Comprehension.e c.in-Comprehension.generators c.in-Comprehension.conditions c.in-Comprehension.domain c.in-Comprehension.generators.items c.in-Comprehension.conditions.items c.in-Comprehension.e.value c.in-Comprehension.is refl refl refl) c.in_err-index-in-Comprehension.ensures.says)

pub with_domain-returns-in_err-scalar-in-Comprehension-clause-says : goal.with_domain-returns-in_err-scalar-in-Comprehension-clause-says
with_domain-returns-in_err-scalar-in-Comprehension-clause-says t c =
    let p = err_from_is_err_and c.from_residual-in_err-scalar-in-Comprehension.result c.from_residual-in_err-scalar-in-Comprehension.ensures.1 in
    rw (p.1, p.2)
    (blames_first c.in_err-scalar-in-Comprehension.field-0.0 _ _ _
    (then_is _ _ _ _ (comprehension_parts (names_context c.args.names.now) c.args.decisions c.args.e.now.place c.args.e.now.kind c.in-Comprehension.e c.in-Comprehension.generators c.in-Comprehension.conditions c.in-Comprehension.domain c.deref-in-Comprehension.result.now c.in-Comprehension.conditions.items c.in-Comprehension.e.value c.in-Comprehension.is c.deref-in-Comprehension.ensures.value refl refl) c.in_ok-index-in-Comprehension.ensures.says)
    (blames_at (λ z. check_generators z (generators_of c.deref-in-Comprehension.result.now)) (names_context c.args.names.now) _ c.in_err-scalar-in-Comprehension.field-0.0 c.in_ok-index-in-Comprehension.ensures.same.context c.in_err-scalar-in-Comprehension.ensures.says))

pub with_domain-returns-in_err-truths-in-Comprehension-clause-says : goal.with_domain-returns-in_err-truths-in-Comprehension-clause-says
with_domain-returns-in_err-truths-in-Comprehension-clause-says t c =
    let p = err_from_is_err_and c.from_residual-in_err-truths-in-Comprehension.result c.from_residual-in_err-truths-in-Comprehension.ensures.1 in
    rw (p.1, p.2)
    (blames_first c.in_err-truths-in-Comprehension.field-0.0 _ _ _
    (then_is _ _ _ _
    (then_is _ _ _ _ (comprehension_parts (names_context c.args.names.now) c.args.decisions c.args.e.now.place c.args.e.now.kind c.in-Comprehension.e c.in-Comprehension.generators c.in-Comprehension.conditions c.in-Comprehension.domain c.deref-in-Comprehension.result.now c.deref-in-Comprehension-2.result.now c.in-Comprehension.e.value c.in-Comprehension.is c.deref-in-Comprehension.ensures.value c.deref-in-Comprehension-2.ensures.value refl) c.in_ok-index-in-Comprehension.ensures.says)
    (ok_at (λ z. check_generators z (generators_of c.deref-in-Comprehension.result.now)) (names_context c.args.names.now) _ _ c.in_ok-index-in-Comprehension.ensures.same.context c.in_ok-scalar-in-Comprehension.ensures.says))
    c.in_err-truths-in-Comprehension.ensures.says)

pub with_domain-returns-in_err-ty-in-Comprehension-clause-says : goal.with_domain-returns-in_err-ty-in-Comprehension-clause-says
with_domain-returns-in_err-ty-in-Comprehension-clause-says t c =
    let p = err_from_is_err_and c.from_residual-in_err-ty-in-Comprehension.result c.from_residual-in_err-ty-in-Comprehension.ensures.1 in
    rw (p.1, p.2)
    (blames_first c.in_err-ty-in-Comprehension.field-0.0 _ _ _
    (then_is _ _ _ _
    (then_is _ _ _ _
    (then_is _ _ _ _ (comprehension_parts (names_context c.args.names.now) c.args.decisions c.args.e.now.place c.args.e.now.kind c.in-Comprehension.e c.in-Comprehension.generators c.in-Comprehension.conditions c.in-Comprehension.domain c.deref-in-Comprehension.result.now c.deref-in-Comprehension-2.result.now c.deref-in-Comprehension-3.result.now c.in-Comprehension.is c.deref-in-Comprehension.ensures.value c.deref-in-Comprehension-2.ensures.value c.deref-in-Comprehension-3.ensures) c.in_ok-index-in-Comprehension.ensures.says)
    (ok_at (λ z. check_generators z (generators_of c.deref-in-Comprehension.result.now)) (names_context c.args.names.now) _ _ c.in_ok-index-in-Comprehension.ensures.same.context c.in_ok-scalar-in-Comprehension.ensures.says))
    c.in_ok-truths-in-Comprehension.ensures.says)
    (blames_at (λ z. check z c.args.decisions (expr_tree c.deref-in-Comprehension-3.result.now)) _ _ c.in_err-ty-in-Comprehension.field-0.0 c.in_ok-truths-in-Comprehension.ensures.same.context c.in_err-ty-in-Comprehension.ensures.says))

pub with_domain-returns-in_ok-ty-in-Comprehension-clause-says : goal.with_domain-returns-in_ok-ty-in-Comprehension-clause-says
with_domain-returns-in_ok-ty-in-Comprehension-clause-says t c =
    says_same c.comprehension.result _ _
    (then_is _ _ _ _
    (then_is _ _ _ _
    (then_is _ _ _ _
    (then_is _ _ _ _ (comprehension_parts (names_context c.args.names.now) c.args.decisions c.args.e.now.place c.args.e.now.kind c.in-Comprehension.e c.in-Comprehension.generators c.in-Comprehension.conditions c.in-Comprehension.domain c.deref-in-Comprehension.result.now c.deref-in-Comprehension-2.result.now c.deref-in-Comprehension-3.result.now c.in-Comprehension.is c.deref-in-Comprehension.ensures.value c.deref-in-Comprehension-2.ensures.value c.deref-in-Comprehension-3.ensures) c.in_ok-index-in-Comprehension.ensures.says)
    (ok_at (λ z. check_generators z (generators_of c.deref-in-Comprehension.result.now)) (names_context c.args.names.now) _ _ c.in_ok-index-in-Comprehension.ensures.same.context c.in_ok-scalar-in-Comprehension.ensures.says))
    c.in_ok-truths-in-Comprehension.ensures.says)
    (ok_at (λ z. check z c.args.decisions (expr_tree c.deref-in-Comprehension-3.result.now)) _ _ _ c.in_ok-truths-in-Comprehension.ensures.same.context c.in_ok-ty-in-Comprehension.ensures.says)
    ∙ ap (λ ts. conclude c.args.e.now.place (quantified_over (c.in_ok-index-in-Comprehension.index && c.in_ok-scalar-in-Comprehension.scalar && list_all is_boolean ts) (list_type (c.in_ok-ty-in-Comprehension.ty ∷ [])))) (sym c.deref-in-Comprehension-4.ensures.value))
    c.comprehension.ensures

pub with_domain-returns-in_ok-ty-in-Comprehension-clause-same : goal.with_domain-returns-in_ok-ty-in-Comprehension-clause-same
with_domain-returns-in_ok-ty-in-Comprehension-clause-same t c =
    on_ok c.comprehension.result
    (same_after _ _ _ c.in_ok-index-in-Comprehension.ensures.same
    (shown _ _ _ _ (hides_after _ _ _ c.in_ok-scalar-in-Comprehension.ensures.hides (hides_after _ _ _ (hides_none _ _ c.in_ok-truths-in-Comprehension.ensures.same) (hides_none _ _ c.in_ok-ty-in-Comprehension.ensures.same))) (c.len-depth-in-Comprehension.ensures ∙ counted c.index_is_scalar.new.names) c.show-in-Comprehension.ensures.inner c.show-in-Comprehension.ensures.declared))

pub read_generators-loop-generator-init : goal.read_generators-loop-generator-init
read_generators-loop-generator-init t c =
    (hides_none _ _ (same_again _), nothing_read _)

pub read_generators-loop-generator-preserved : goal.read_generators-loop-generator-preserved
read_generators-loop-generator-preserved t c = (
  hides_after _ _ _ c.loop-generator.invariant.0 c.in_ok-read.ensures.hides,
  one_read _ c.loop-generator.scalar _ _ _ (λ y. y.0) (λ y. check_generators y.1 (generators_of (drop (c.loop-generator.generator-index + 1) c.args.generators.now))) _ c.loop-generator.invariant.1
      (next_generator (names_context c.loop-generator.names) c.args.generators.now c.loop-generator.generator-index c.generator-item.result c.loop-generator-test.true c.generator-item.is
      ∙ ap (λ ns. check_readings ns (λ z. check_domain z false (domain_tree c.generator-item.result.domain)) (names_context c.loop-generator.names) >>= λ y. check_generators y.1 (generators_of (drop (c.loop-generator.generator-index + 1) c.args.generators.now)) >>= behind_all y.0) (sym c.deref.ensures.value))
      c.in_ok-read.ensures.says c.both-scalar.ensures,
)

pub read_generators-returns-in_err-read-clause-says : goal.read_generators-returns-in_err-read-clause-says
read_generators-returns-in_err-read-clause-says t c =
    let p = err_from_is_err_and c.from_residual.result c.from_residual.ensures.1 in
    rw (p.1, p.2)
    (read_fails c.in_err-read.field-0.0 _ c.loop-generator.scalar _ _ _ c.loop-generator.invariant.1
    (next_generator (names_context c.loop-generator.names) c.args.generators.now c.loop-generator.generator-index c.generator-item.result c.loop-generator-test.true c.generator-item.is
    ∙ ap (λ ns. check_readings ns (λ z. check_domain z false (domain_tree c.generator-item.result.domain)) (names_context c.loop-generator.names) >>= λ y. check_generators y.1 (generators_of (drop (c.loop-generator.generator-index + 1) c.args.generators.now)) >>= behind_all y.0) (sym c.deref.ensures.value))
    c.in_err-read.ensures.says)

pub read_generators-returns-clause-says : goal.read_generators-returns-clause-says
read_generators-returns-clause-says t c =
    all_read _ c.loop-generator.scalar _ (names_context c.loop-generator.names) c.loop-generator.invariant.1
    (no_generator (names_context c.loop-generator.names) c.args.generators.now c.loop-generator.generator-index c.loop-generator-test.false)

pub domain_type-returns-in_err-check_open-in-Ranges-clause-says : goal.domain_type-returns-in_err-check_open-in-Ranges-clause-says
domain_type-returns-in_err-check_open-in-Ranges-clause-says t c =
    let p = err_from_is_err_and c.from_residual-in_err-check_open-in-Ranges.result c.from_residual-in_err-check_open-in-Ranges.ensures.1 in
    rw (p.1, p.2)
    (blames_first c.in_err-check_open-in-Ranges.field-0.0 _ _ _
    (ranges_parts (names_context c.args.names.now) c.args.may_open c.args.domain.now.place c.args.domain.now.kind c.in-Ranges.ranges c.deref.result.now c.in-Ranges.is c.deref.ensures.value
    ∙ ap (λ x. unless_fault (c.args.may_open || not (has_open_range (ranges_of c.deref.result.now))) (open_domain c.args.domain.now.place) >>= λ _. x) (by_bounds c.args.domain.now.place (check_ranges (names_context c.args.names.now) (ranges_of c.deref.result.now)))
    ∙ ap (λ b. unless_fault b (open_domain c.args.domain.now.place) >>= λ _. check_bounds (names_context c.args.names.now) (ranges_of c.deref.result.now) >>= λ b2. conclude c.args.domain.now.place (gives ValueType.Int b2)) (sym (c.may_have_ranges.ensures)))
    c.in_err-check_open-in-Ranges.ensures)

pub domain_type-returns-in_err-integer-in-Ranges-clause-says : goal.domain_type-returns-in_err-integer-in-Ranges-clause-says
domain_type-returns-in_err-integer-in-Ranges-clause-says t c =
    let p = err_from_is_err_and c.from_residual-in_err-integer-in-Ranges.result c.from_residual-in_err-integer-in-Ranges.ensures.1 in
    rw (p.1, p.2)
    (blames_first c.in_err-integer-in-Ranges.field-0.0 _ _ _
    (then_is _ _ _ _
    (ranges_parts (names_context c.args.names.now) c.args.may_open c.args.domain.now.place c.args.domain.now.kind c.in-Ranges.ranges c.deref-in-Ranges.result.now c.in-Ranges.is c.deref-in-Ranges.ensures.value
    ∙ ap (λ x. unless_fault (c.args.may_open || not (has_open_range (ranges_of c.deref-in-Ranges.result.now))) (open_domain c.args.domain.now.place) >>= λ _. x) (by_bounds c.args.domain.now.place (check_ranges (names_context c.args.names.now) (ranges_of c.deref-in-Ranges.result.now)))
    ∙ ap (λ b. unless_fault b (open_domain c.args.domain.now.place) >>= λ _. check_bounds (names_context c.args.names.now) (ranges_of c.deref-in-Ranges.result.now) >>= λ b2. conclude c.args.domain.now.place (gives ValueType.Int b2)) (sym (c.may_have_ranges.ensures ∙ ap (λ rs. c.args.may_open || not (has_open_range (ranges_of rs))) (c.deref.ensures.value ∙ sym c.deref-in-Ranges.ensures.value))))
    c.in_ok-check_open-in-Ranges.ensures)
    c.in_err-integer-in-Ranges.ensures.says)

pub domain_type-returns-in_ok-integer-in-Ranges-clause-says : goal.domain_type-returns-in_ok-integer-in-Ranges-clause-says
domain_type-returns-in_ok-integer-in-Ranges-clause-says t c =
    says_same c.gives.result _ _
    (then_is _ _ _ _
    (then_is _ _ _ _
    (ranges_parts (names_context c.args.names.now) c.args.may_open c.args.domain.now.place c.args.domain.now.kind c.in-Ranges.ranges c.deref-in-Ranges.result.now c.in-Ranges.is c.deref-in-Ranges.ensures.value
    ∙ ap (λ x. unless_fault (c.args.may_open || not (has_open_range (ranges_of c.deref-in-Ranges.result.now))) (open_domain c.args.domain.now.place) >>= λ _. x) (by_bounds c.args.domain.now.place (check_ranges (names_context c.args.names.now) (ranges_of c.deref-in-Ranges.result.now)))
    ∙ ap (λ b. unless_fault b (open_domain c.args.domain.now.place) >>= λ _. check_bounds (names_context c.args.names.now) (ranges_of c.deref-in-Ranges.result.now) >>= λ b2. conclude c.args.domain.now.place (gives ValueType.Int b2)) (sym (c.may_have_ranges.ensures ∙ ap (λ rs. c.args.may_open || not (has_open_range (ranges_of rs))) (c.deref.ensures.value ∙ sym c.deref-in-Ranges.ensures.value))))
    c.in_ok-check_open-in-Ranges.ensures)
    c.in_ok-integer-in-Ranges.ensures.says)
    c.gives.ensures

pub all_bounds_are_integer-loop-range-init : goal.all_bounds_are_integer-loop-range-init
all_bounds_are_integer-loop-range-init t c =
    (same_again _, nothing_held _)

pub all_bounds_are_integer-loop-range-preserved : goal.all_bounds_are_integer-loop-range-preserved
all_bounds_are_integer-loop-range-preserved t c = (
  same_after _ _ _ c.loop-range.invariant.0 c.in_ok-one.ensures.same,
  one_held _ c.loop-range.integer _ _ _ _ c.in_ok-one.one c.loop-range.invariant.1
      (next_bounds (names_context c.args.names.now) c.args.ranges.now c.loop-range.range-index c.range-item.result c.loop-range-test.true c.range-item.is)
      (ok_at (λ z. range_bounds z c.range-item.result) (names_context c.args.names.now) _ c.in_ok-one.one c.loop-range.invariant.0.context c.in_ok-one.ensures.says)
      c.both-integer.ensures,
)

pub all_bounds_are_integer-returns-in_err-one-clause-says : goal.all_bounds_are_integer-returns-in_err-one-clause-says
all_bounds_are_integer-returns-in_err-one-clause-says t c =
    let p = err_from_is_err_and c.from_residual.result c.from_residual.ensures.1 in
    rw (p.1, p.2)
    (held_fails c.in_err-one.field-0.0 _ c.loop-range.integer _ _ _ c.loop-range.invariant.1
    (next_bounds (names_context c.args.names.now) c.args.ranges.now c.loop-range.range-index c.range-item.result c.loop-range-test.true c.range-item.is)
    (blames_at (λ z. range_bounds z c.range-item.result) (names_context c.args.names.now) _ c.in_err-one.field-0.0 c.loop-range.invariant.0.context c.in_err-one.ensures.says))

pub all_bounds_are_integer-returns-clause-says : goal.all_bounds_are_integer-returns-clause-says
all_bounds_are_integer-returns-clause-says t c =
    all_held _ c.loop-range.integer _ c.loop-range.invariant.1 (no_bounds (names_context c.args.names.now) c.args.ranges.now c.loop-range.range-index c.loop-range-test.false)

pub bounds_are_integer-returns-in_err-ty-in-One-clause-says : goal.bounds_are_integer-returns-in_err-ty-in-One-clause-says
bounds_are_integer-returns-in_err-ty-in-One-clause-says t c =
    let p = err_from_is_err_and c.from_residual.result c.from_residual.ensures.1 in
    rw (p.1, p.2)
    (blames_first c.in_err-ty-in-One.field-0.0 _ _ _ (one_bounds (names_context c.args.names.now) c.args.range.now c.in-One.e c.in-One.is) c.in_err-ty-in-One.ensures.says)

pub bounds_are_integer-returns-in_ok-ty-in-One-clause-says : goal.bounds_are_integer-returns-in_ok-ty-in-One-clause-says
bounds_are_integer-returns-in_ok-ty-in-One-clause-says t c =
    then_is _ _ _ _ (one_bounds (names_context c.args.names.now) c.args.range.now c.in-One.e c.in-One.is) c.in_ok-ty-in-One.ensures.says ∙ ap Ok (sym c.is_integer.ensures)

pub bounds_are_integer-returns-in_err-from-in-Span-clause-says : goal.bounds_are_integer-returns-in_err-from-in-Span-clause-says
bounds_are_integer-returns-in_err-from-in-Span-clause-says t c =
    let p = err_from_is_err_and c.from_residual-in_err-from-in-Span.result c.from_residual-in_err-from-in-Span.ensures.1 in
    rw (p.1, p.2)
    (blames_first c.in_err-from-in-Span.field-0.0 _ _ _ (span_bounds (names_context c.args.names.now) c.args.range.now c.in-Span.low c.in-Span.high c.in-Span.is) c.in_err-from-in-Span.ensures.says)

pub bounds_are_integer-returns-in_err-to-in-Span-clause-says : goal.bounds_are_integer-returns-in_err-to-in-Span-clause-says
bounds_are_integer-returns-in_err-to-in-Span-clause-says t c =
    let p = err_from_is_err_and c.from_residual-in_err-to-in-Span.result c.from_residual-in_err-to-in-Span.ensures.1 in
    rw (p.1, p.2)
    (blames_first c.in_err-to-in-Span.field-0.0 _ _ _
    (then_is _ _ _ _ (span_bounds (names_context c.args.names.now) c.args.range.now c.in-Span.low c.in-Span.high c.in-Span.is) c.in_ok-from-in-Span.ensures.says)
    (blames_at (λ z. check_end z (end_of c.in-Span.high)) (names_context c.args.names.now) _ c.in_err-to-in-Span.field-0.0 c.in_ok-from-in-Span.ensures.same.context c.in_err-to-in-Span.ensures.says))

pub bounds_are_integer-returns-in_ok-to-in-Span-clause-says : goal.bounds_are_integer-returns-in_ok-to-in-Span-clause-says
bounds_are_integer-returns-in_ok-to-in-Span-clause-says t c =
    then_is _ _ _ _
    (then_is _ _ _ _ (span_bounds (names_context c.args.names.now) c.args.range.now c.in-Span.low c.in-Span.high c.in-Span.is) c.in_ok-from-in-Span.ensures.says)
    (ok_at (λ z. check_end z (end_of c.in-Span.high)) (names_context c.args.names.now) _ c.in_ok-to-in-Span.to c.in_ok-from-in-Span.ensures.same.context c.in_ok-to-in-Span.ensures.says)
    ∙ ap Ok (sym c.are_integer.ensures)

-- ---- kinds that come to a function, and no other

pub type_of-with_one_part-requires : goal.type_of-with_one_part-requires
type_of-with_one_part-requires t c = (omega (arith, c.decreases), c.in-Not.is)

pub type_of-with_two_parts-requires : goal.type_of-with_two_parts-requires
type_of-with_two_parts-requires t c = (omega (arith, c.decreases), c.in-Binary.is)

pub type_of-with_three_parts-requires : goal.type_of-with_three_parts-requires
type_of-with_three_parts-requires t c = (omega (arith, c.decreases), c.in-Gcc.is)

pub type_of-with_list-requires : goal.type_of-with_list-requires
type_of-with_list-requires t c = (omega (arith, c.decreases), c.in-Add.is)

pub type_of-with_domain-requires : goal.type_of-with_domain-requires
type_of-with_domain-requires t c = (omega (arith, c.decreases), c.in-InDomain.is)

pub with_one_part-unreachable-requires : goal.with_one_part-unreachable-requires
with_one_part-unreachable-requires t c = elim c.requires as (λ _. ⊥) [ inl h ↦ c.in_default.not-Not h.0 h.1 | inr h ↦ elim h as (λ _. ⊥) [ inl k ↦ c.in_default.not-Neg k.0 k.1 | inr k ↦ elim k as (λ _. ⊥) [ inl l ↦ c.in_default.not-Abs l.0 l.1 | inr l ↦ elim l as (λ _. ⊥) [ inl m ↦ c.in_default.not-ToInt m.0 m.1 | inr m ↦ elim m as (λ _. ⊥) [ inl n ↦ c.in_default.not-Factorial n.0 n.1 | inr n ↦ elim n as (λ _. ⊥) [ inl o ↦ c.in_default.not-Flatten o.0 o.1 | inr o ↦ elim o as (λ _. ⊥) [ inl p ↦ c.in_default.not-Fold p.0 p.1 p.2 | inr p ↦ c.in_default.not-AllDiff p.0 p.1 ] ] ] ] ] ] ]

pub with_two_parts-unreachable-requires : goal.with_two_parts-unreachable-requires
with_two_parts-unreachable-requires t c = elim c.requires as (λ _. ⊥) [ inl h ↦ c.in_default.not-Binary h.0 h.1 h.2 h.3 | inr h ↦ elim h as (λ _. ⊥) [ inl k ↦ c.in_default.not-Compare k.0 k.1 k.2 k.3 | inr k ↦ elim k as (λ _. ⊥) [ inl l ↦ c.in_default.not-Lex l.0 l.1 l.2 l.3 | inr l ↦ elim l as (λ _. ⊥) [ inl m ↦ c.in_default.not-InSet m.0 m.1 m.2 | inr m ↦ c.in_default.not-Table m.0 m.1 m.2 ] ] ] ]

pub with_three_parts-unreachable-requires : goal.with_three_parts-unreachable-requires
with_three_parts-unreachable-requires t c = elim c.requires as (λ _. ⊥) [ inl h ↦ c.in_default.not-Gcc h.0 h.1 h.2 h.3 | inr h ↦ elim h as (λ _. ⊥) [ inl k ↦ c.in_default.not-AtLeast k.0 k.1 k.2 k.3 | inr k ↦ c.in_default.not-AtMost k.0 k.1 k.2 k.3 ] ]

pub with_list-unreachable-requires : goal.with_list-unreachable-requires
with_list-unreachable-requires t c = elim c.requires as (λ _. ⊥) [ inl h ↦ c.in_default.not-Add h.0 h.1 | inr h ↦ elim h as (λ _. ⊥) [ inl k ↦ c.in_default.not-And k.0 k.1 | inr k ↦ elim k as (λ _. ⊥) [ inl l ↦ c.in_default.not-Or l.0 l.1 | inr l ↦ elim l as (λ _. ⊥) [ inl m ↦ c.in_default.not-Literal m.0 m.1 m.2 | inr m ↦ c.in_default.not-Read m.0 m.1 m.2 ] ] ] ]

pub with_domain-unreachable-requires : goal.with_domain-unreachable-requires
with_domain-unreachable-requires t c = elim c.requires as (λ _. ⊥) [ inl h ↦ c.in_default.not-InDomain h.0 h.1 h.2 | inr h ↦ elim h as (λ _. ⊥) [ inl k ↦ c.in_default.not-Quant k.0 k.1 k.2 k.3 k.4 | inr k ↦ c.in_default.not-Comprehension k.0 k.1 k.2 k.3 k.4 ] ]
