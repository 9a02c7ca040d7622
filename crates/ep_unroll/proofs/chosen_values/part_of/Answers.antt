use Rattle.ep_unroll.proofs.Words.{◌≡◌, ◌+◌, ℕ, ℤ, pos, List, Some, drop, get_or, rules, ap, refl, sym, ◌∙◌, arith, w64, to_z, of_z, if◌then◌else◌, int_eq, ints, to_z-of_z, drop_all, drop_more, compare_holds, CompareOp, part_at, value_tree, values_from, part_next, part_none, part_short, no_runs}
use Rattle.ep_unroll.proofs.chosen_values.part_of.Goals as goal

equal_is : (n x : ℤ) → int_eq n x ≡ compare_holds CompareOp.Equal n x
unfolding compare_holds
equal_is n x = refl

pub loop-own_index-preserved : goal.loop-own_index-preserved
loop-own_index-preserved c =
    let own : List ℤ = c.args.own.now in
    let k : ℕ = c.loop-own_index.own_index-index in
    let x : ℤ = get_or own k (pos 0) in
    let n : ℤ = to_z w64 (of_z w64 c.args.index) in
    let word : to_z w64 (of_z w64 x) ≡ x = to_z-of_z w64 x (search rules) in
    let step = part_next (drop k own) (drop (k + 1) own) c.loop-own_index.left.now c.in-Some.rest.now x n c.in-Some.part.now c.is_index.result
    (drop_more own k (pos 0) c.loop-own_index-test.true) c.in-Some.ensures.cases.0 (c.is_index.ensures ∙ ap (int_eq n) word ∙ equal_is n x) in
    c.loop-own_index.invariant ∙ step
    ∙ ap (λ b. if b then Some (value_tree c.in-Some.part.now) else part_at (drop (k + 1) own) (values_from c.in-Some.rest.now) n) c.if-is_index.false

pub returns-then-is_index : goal.returns-then-is_index
returns-then-is_index c =
    let own : List ℤ = c.args.own.now in
    let k : ℕ = c.loop-own_index.own_index-index in
    let x : ℤ = get_or own k (pos 0) in
    let n : ℤ = to_z w64 (of_z w64 c.args.index) in
    let word : to_z w64 (of_z w64 x) ≡ x = to_z-of_z w64 x (search rules) in
    let step = part_next (drop k own) (drop (k + 1) own) c.loop-own_index.left.now c.in-Some.rest.now x n c.in-Some.part.now c.is_index.result
    (drop_more own k (pos 0) c.loop-own_index-test.true) c.in-Some.ensures.cases.0 (c.is_index.ensures ∙ ap (int_eq n) word ∙ equal_is n x) in
    let same = to_z-of_z w64 c.args.index (omega (arith, ints)) in
    sym (ap (part_at own (values_from c.args.parts.now)) (sym same) ∙ c.loop-own_index.invariant ∙ step
    ∙ ap (λ b. if b then Some (value_tree c.in-Some.part.now) else part_at (drop (k + 1) own) (values_from c.in-Some.rest.now) n) c.if-is_index.true)

pub returns-in-None : goal.returns-in-None
returns-in-None c =
    let own : List ℤ = c.args.own.now in
    let k : ℕ = c.loop-own_index.own_index-index in
    let same = to_z-of_z w64 c.args.index (omega (arith, ints)) in
    sym (ap (part_at own (values_from c.args.parts.now)) (sym same) ∙ c.loop-own_index.invariant
    ∙ part_short (drop k own) (drop (k + 1) own) c.loop-own_index.left.now _ _ (drop_more own k (pos 0) c.loop-own_index-test.true) (no_runs c.loop-own_index.left.now c.in-None.ensures.cases))

pub returns : goal.returns
returns c =
    let own : List ℤ = c.args.own.now in
    let same = to_z-of_z w64 c.args.index (omega (arith, ints)) in
    sym (ap (part_at own (values_from c.args.parts.now)) (sym same) ∙ c.loop-own_index.invariant
    ∙ part_none (drop c.loop-own_index.own_index-index own) c.loop-own_index.left.now _ (drop_all c.loop-own_index.own_index-index own c.loop-own_index-test.false))
