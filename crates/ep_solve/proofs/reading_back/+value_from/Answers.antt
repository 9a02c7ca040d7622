use Rattle.std.proofs.Common.{◌≡◌, ◌∙◌, ℤ, List, drop, length, map, sym, ap, arith, rules, vec_len, w64, to_z, of_z}
use Rattle.std.proofs.lemmas.Int.{ints, to_z-of_z}
use Rattle.ep_tree.proofs.ViewLemmas.{value_tree-matrix, value_tree-number}
use Rattle.ep_tree.specs.Values.{matrix}
use Rattle.ep_tree.specs.Views.{value_tree, values_from}
use Rattle.ep_tree.specs.declared.values.Value.{Number, Value}
use Rattle.ep_solve.specs.Reading.{value_from}
use Rattle.ep_solve.proofs.MakingSteps.{flat-left, flat-value, made-more, matrix-left, matrix-value, no-parts}
use Rattle.ep_solve.proofs.reading_back.+value_from.Goals as goal

pub returns-in_default-clause-value : goal.returns-in_default-clause-value
returns-in_default-clause-value t c =
    let x : ℤ = c.next_number.result in
    let e : to_z w64 (of_z w64 x) ≡ x = to_z-of_z w64 x (omega (arith, ints)) in
    ap (λ m. value_tree (Number m)) e
    ∙ value_tree-number x
    ∙ flat-value c.args.indices.now (drop c.args.place.now c.args.numbers.now) x c.in_default.ensures.cases c.next_number.ensures.value

pub returns-in_default-clause-left : goal.returns-in_default-clause-left
returns-in_default-clause-left t c =
    flat-left c.args.indices.now (drop c.args.place.now c.args.numbers.now) (drop c.next_number.new.place c.args.numbers.now) c.in_default.ensures.cases c.next_number.ensures.left

pub loop-count-init : goal.loop-count-init
loop-count-init t c =
    no-parts (value_from c.in-Some.inner.now) (drop c.args.place.now c.args.numbers.now)
    ∙ ap (λ (vs : List Value). (map value_tree vs, drop c.args.place.now c.args.numbers.now)) (sym c.new-parts.ensures.items)

pub loop-count-preserved : goal.loop-count-preserved
loop-count-preserved t c =
    made-more c.in-Some.inner.now c.loop-count.count (drop c.args.place.now c.args.numbers.now) (drop c.loop-count.place c.args.numbers.now) (drop c.value_from.new.place c.args.numbers.now) c.loop-count.parts.items c.in_ok-part.part
    c.loop-count.invariant c.in_ok-part.ensures.value c.in_ok-part.ensures.left
    ∙ ap (λ (vs : List Value). (map value_tree vs, drop c.value_from.new.place c.args.numbers.now)) (sym c.in_ok-push.ensures.items)

pub returns-clause-value : goal.returns-clause-value
returns-clause-value t c =
    let first : List ℤ = c.in-Some.first.now in
    let parts : List Value = c.loop-count.parts.items in
    let counted : vec_len c.in_ok-indices.indices ≡ length c.in_ok-indices.indices.items = search rules in
    let listed : length c.in_ok-indices.indices.items ≡ length first = ap length c.in_ok-indices.ensures in
    let all : c.loop-count.count ≡ length first = omega arith in
    value_tree-matrix c.in_ok-indices.indices c.loop-count.parts
    ∙ ap (λ is. matrix is (values_from parts)) c.in_ok-indices.ensures
    ∙ matrix-value c.args.indices.now c.in-Some.inner.now first c.loop-count.count (drop c.args.place.now c.args.numbers.now) (drop c.loop-count.place c.args.numbers.now) parts
    c.in-Some.ensures.cases.0 all c.loop-count.invariant

pub returns-clause-left : goal.returns-clause-left
returns-clause-left t c =
    let first : List ℤ = c.in-Some.first.now in
    let counted : vec_len c.in_ok-indices.indices ≡ length c.in_ok-indices.indices.items = search rules in
    let listed : length c.in_ok-indices.indices.items ≡ length first = ap length c.in_ok-indices.ensures in
    let all : c.loop-count.count ≡ length first = omega arith in
    matrix-left c.args.indices.now c.in-Some.inner.now first c.loop-count.count (drop c.args.place.now c.args.numbers.now) (drop c.loop-count.place c.args.numbers.now) c.loop-count.parts.items
    c.in-Some.ensures.cases.0 all c.loop-count.invariant
