use Rattle.ep_eval.proofs.Words.{◌≡◌, ◌+◌, ◌+ℤ◌, ℕ, ℤ, List, pos, drop, get_or, ap, ◌∙◌, w64, to_z, of_z, arith, rules, SFits, w128, ints, to_z-of_z, at_drop_all, at_drop_more, sum_of}
use Rattle.ep_eval.proofs.Sums.{sum_ends, sum_near, sum_step}
use Rattle.ep_eval.proofs.folds.sum.Goals as goal

pub loop-part-preserved : goal.loop-part-preserved
loop-part-preserved c =
    let all : List ℤ = c.args.parts.now in
    let k : ℕ = c.loop-part.part-index in
    let x : ℤ = get_or all k (pos 0) in
    let total : ℤ = to_z w128 c.loop-part.sum-bits in
    let fits : SFits w64 x = search rules in
    let part : to_z w128 (of_z w128 c.from-sum.result) ≡ x =
    to_z-of_z w128 c.from-sum.result (omega (arith, ints)) ∙ c.from-sum.ensures ∙ to_z-of_z w64 x fits in
    let exact : to_z w128 (of_z w128 (total +ℤ to_z w128 (of_z w128 c.from-sum.result))) ≡ total +ℤ x =
    ap (λ y. to_z w128 (of_z w128 (total +ℤ y))) part ∙ to_z-of_z w128 (total +ℤ x) (omega (arith, ints, c.loop-part.invariant.near, c.loop-part-test.true)) in
    record {
      value = sum_step total x (sum_of all) (drop (k + 1) all) _ exact (c.loop-part.invariant.value ∙ ap (λ y. total +ℤ y) (at_drop_more sum_of all k (pos 0) c.loop-part-test.true));
      near = sum_near total x k _ exact fits c.loop-part.invariant.near;
    }

pub returns : goal.returns
returns c =
    let all : List ℤ = c.args.parts.now in
    let k : ℕ = c.loop-part.part-index in
    sum_ends (to_z w128 c.loop-part.sum-bits) (sum_of all) (c.loop-part.invariant.value ∙ ap (λ y. to_z w128 c.loop-part.sum-bits +ℤ y) (at_drop_all sum_of all k c.loop-part-test.false))
