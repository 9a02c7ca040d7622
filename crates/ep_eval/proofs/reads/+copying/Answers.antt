use Rattle.ep_eval.proofs.Words.{◌≡◌, ◌+◌, ◌∷◌, [], ℕ, List, Some, None, drop, map, ap, sym, ◌∙◌, arith, w64, option_map, option_and_then, ints, to_z-of_z, drop_all, drop_more, map-append, value_tree-matrix, value_tree-number, all_defined, any_index, as_parts, indices_in, matrix, read_value, value_tree, values_from, Value, part_under}
use Rattle.ep_eval.proofs.Lists.{values_from-map}
use Rattle.ep_eval.proofs.ReadSteps.{defined_begins, defined_ends, defined_fails, defined_more, defined_so_far, every_first, every_number, every_part, given, read_none, stated_first}
use Rattle.ep_eval.proofs.WalkSteps.{no_runs}
use Rattle.ep_eval.proofs.reads.+copying.Goals as goal

pub read_copy-returns-in-Some-index : goal.read_copy-returns-in-Some-index
read_copy-returns-in-Some-index t c =
    let rest = c.in-Some.rest.now in
    let v = value_tree c.args.value.now in
    let i = c.in-Some-index.stated in
    given c.read_under.result _ _ c.read_under.ensures
    (λ copy h. h ∙ ap (λ n. option_and_then (read_value (indices_in rest)) (part_under v n)) (to_z-of_z w64 i (omega (arith, ints)))
    ∙ sym (stated_first c.args.indices.now rest i v (c.in-Some.ensures.cases.0 ∙ ap (λ x. x ∷ rest) c.in-Some-index.is)))

pub read_copy-returns-in-None-index : goal.read_copy-returns-in-None-index
read_copy-returns-in-None-index t c =
    let rest = c.in-Some.rest.now in
    let v = value_tree c.args.value.now in
    given c.read_every.result _ _ c.read_every.ensures
    (λ copy h. h ∙ sym (every_first c.args.indices.now rest v (c.in-Some.ensures.cases.0 ∙ ap (λ x. x ∷ rest) c.in-None-index.is)))

pub read_copy-returns-in_ok-copy-in-None : goal.read_copy-returns-in_ok-copy-in-None
read_copy-returns-in_ok-copy-in-None t c =
    ap Some c.in_ok-copy-in-None.ensures ∙ sym (read_none c.args.indices.now (value_tree c.args.value.now) (no_runs c.args.indices.now c.in-None.ensures.cases))

pub read_every-returns-in-Number : goal.read_every-returns-in-Number
read_every-returns-in-Number t c =
    let is = indices_in c.args.rest.now in
    let x = c.in-Number.field-0 in
    every_number is x ∙ ap (read_value (any_index ∷ is)) (sym (ap value_tree c.in-Number.is ∙ value_tree-number x))

pub read_every-returns-in_ok-own-in-Some : goal.read_every-returns-in_ok-own-in-Some
read_every-returns-in_ok-own-in-Some t c =
    let is = indices_in c.args.rest.now in
    let own = c.in-Matrix.own.items in
    let parts = c.in-Matrix.parts.items in
    let copies = c.in-Some.copies.items in
    let whole : value_tree c.args.value.now ≡ matrix own (values_from parts) = ap value_tree c.in-Matrix.is ∙ value_tree-matrix c.in-Matrix.own c.in-Matrix.parts in
    let told : Some (map value_tree copies) ≡ all_defined (map (λ part. read_value is (value_tree part)) parts) =
    ap (option_map (λ v. map value_tree v.items)) (sym c.in-Some.is) ∙ c.in_ok-copies-in-Matrix.ensures
    ∙ ap (λ ps. all_defined (map (λ part. read_value is (value_tree part)) ps)) c.deref.ensures.value in
    ap Some (value_tree-matrix c.in_ok-own-in-Some.own c.in-Some.copies)
    ∙ ap (λ l. Some (matrix l (values_from copies))) (c.in_ok-own-in-Some.ensures.items ∙ c.as_slice.ensures.value)
    ∙ ap (λ ps. Some (matrix own ps)) (values_from-map copies)
    ∙ ap (option_map (λ vs. matrix own (as_parts vs))) told
    ∙ sym (every_part is own parts) ∙ ap (read_value (any_index ∷ is)) (sym whole)

pub read_every-returns-in-None : goal.read_every-returns-in-None
read_every-returns-in-None t c =
    let is = indices_in c.args.rest.now in
    let own = c.in-Matrix.own.items in
    let parts = c.in-Matrix.parts.items in
    let whole : value_tree c.args.value.now ≡ matrix own (values_from parts) = ap value_tree c.in-Matrix.is ∙ value_tree-matrix c.in-Matrix.own c.in-Matrix.parts in
    let told : None ≡ all_defined (map (λ part. read_value is (value_tree part)) parts) =
    ap (option_map (λ v. map value_tree v.items)) (sym c.in-None.is) ∙ c.in_ok-copies-in-Matrix.ensures
    ∙ ap (λ ps. all_defined (map (λ part. read_value is (value_tree part)) ps)) c.deref.ensures.value in
    ap (option_map (λ vs. matrix own (as_parts vs))) told
    ∙ sym (every_part is own parts) ∙ ap (read_value (any_index ∷ is)) (sym whole)

pub read_parts-loop-part-init : goal.read_parts-loop-part-init
read_parts-loop-part-init t c =
    let all = all_defined (map (λ part. read_value (indices_in c.args.rest.now) (value_tree part)) c.args.parts.now) in
    defined_begins all ∙ ap (λ l. defined_so_far (map value_tree l) all) (sym c.new-copies.ensures.items)

pub read_parts-loop-part-preserved : goal.read_parts-loop-part-preserved
read_parts-loop-part-preserved t c =
    let all : List Value = c.args.parts.now in
    let k : ℕ = c.loop-part.part-index in
    let part : Value = c.part-item.result in
    let cut : drop k all ≡ part ∷ drop (k + 1) all = drop_more all k part c.loop-part-test.true ∙ ap (λ r. r ∷ drop (k + 1) all) (sym c.part-item.is) in
    let is = indices_in c.args.rest.now in
    let done = map value_tree c.loop-part.copies.items in
    let x = c.in-Some.copy in
    let left = map (λ one. read_value is (value_tree one)) (drop (k + 1) all) in
    c.loop-part.invariant
    ∙ ap (λ l. defined_so_far done (all_defined (map (λ one. read_value is (value_tree one)) l))) cut
    ∙ ap (λ o. defined_so_far done (all_defined (o ∷ left))) (sym c.in_ok-copy.ensures ∙ ap (option_map value_tree) c.in-Some.is)
    ∙ defined_more done (value_tree x) left
    ∙ ap (λ l. defined_so_far l (all_defined left)) (sym (ap (map value_tree) c.in_ok-push-in-Some.ensures.items ∙ map-append value_tree c.loop-part.copies.items (x ∷ [])))

pub read_parts-returns-in-None : goal.read_parts-returns-in-None
read_parts-returns-in-None t c =
    let all : List Value = c.args.parts.now in
    let k : ℕ = c.loop-part.part-index in
    let part : Value = c.part-item.result in
    let cut : drop k all ≡ part ∷ drop (k + 1) all = drop_more all k part c.loop-part-test.true ∙ ap (λ r. r ∷ drop (k + 1) all) (sym c.part-item.is) in
    let is = indices_in c.args.rest.now in
    let done = map value_tree c.loop-part.copies.items in
    let left = map (λ one. read_value is (value_tree one)) (drop (k + 1) all) in
    sym (c.loop-part.invariant
    ∙ ap (λ l. defined_so_far done (all_defined (map (λ one. read_value is (value_tree one)) l))) cut
    ∙ ap (λ o. defined_so_far done (all_defined (o ∷ left))) (sym c.in_ok-copy.ensures ∙ ap (option_map value_tree) c.in-None.is)
    ∙ defined_fails done left)

pub read_parts-returns : goal.read_parts-returns
read_parts-returns t c =
    let all : List Value = c.args.parts.now in
    let is = indices_in c.args.rest.now in
    sym (c.loop-part.invariant
    ∙ defined_ends (map value_tree c.loop-part.copies.items) (map (λ one. read_value is (value_tree one)) (drop c.loop-part.part-index all))
    (ap (map (λ one. read_value is (value_tree one))) (drop_all c.loop-part.part-index all c.loop-part-test.false)))
