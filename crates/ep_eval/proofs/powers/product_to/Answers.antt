use Rattle.ep_eval.proofs.Words.{◌≡◌, ◌+◌, ◌*ℤ◌, ℕ, ℤ, pos, refl, sym, ap, ◌∙◌, to_z, of_z, arith, w128, ints, to_z-of_z, product_to, is_too_far, near_one}
use Rattle.ep_eval.proofs.Products.{factorial_far, factorial_more, factorial_none, wide_fits}
use Rattle.ep_eval.proofs.Reaches.{far_single}
use Rattle.ep_eval.proofs.powers.product_to.Goals as goal

pub loop-i-init : goal.loop-i-init
loop-i-init c = record { value = factorial_none; near = near_one }

pub overflow_mul-product : goal.overflow_mul-product
overflow_mul-product c =
    let i : ℕ = c.loop-i.i in
    let part : to_z w128 (of_z w128 c.from-product.result) ≡ pos (i + 1) =
    to_z-of_z w128 c.from-product.result (omega (arith, ints)) ∙ c.from-product.ensures in
    rw part (wide_fits (to_z w128 c.loop-i.product-bits) (i + 1) c.loop-i.invariant.near (omega (arith, c.loop-i-test.true, c.ranges.last)))

pub returns-then-is_far : goal.returns-then-is_far
returns-then-is_far c =
    let i : ℕ = c.loop-i.i in
    let p : ℤ = to_z w128 c.loop-i.product-bits in
    let part : to_z w128 (of_z w128 c.from-product.result) ≡ pos (i + 1) =
    to_z-of_z w128 c.from-product.result (omega (arith, ints)) ∙ c.from-product.ensures in
    let exact : to_z w128 (of_z w128 (p *ℤ to_z w128 (of_z w128 c.from-product.result))) ≡ pos (product_to (i + 1)) =
    ap (λ y. to_z w128 (of_z w128 (p *ℤ y))) part
    ∙ to_z-of_z w128 (p *ℤ pos (i + 1)) (wide_fits p (i + 1) c.loop-i.invariant.near (omega (arith, c.loop-i-test.true, c.ranges.last)))
    ∙ ap (λ y. y *ℤ pos (i + 1)) c.loop-i.invariant.value ∙ ap pos (factorial_more i) in (
      refl,
      far_single (pos (product_to c.args.last))
          (factorial_far i c.args.last (ap is_too_far (sym exact) ∙ sym c.is_far.ensures ∙ c.if-is_far.true) c.loop-i-test.true),
    )

pub loop-i-preserved : goal.loop-i-preserved
loop-i-preserved c =
    let i : ℕ = c.loop-i.i in
    let p : ℤ = to_z w128 c.loop-i.product-bits in
    let part : to_z w128 (of_z w128 c.from-product.result) ≡ pos (i + 1) =
    to_z-of_z w128 c.from-product.result (omega (arith, ints)) ∙ c.from-product.ensures in
    let exact : to_z w128 (of_z w128 (p *ℤ to_z w128 (of_z w128 c.from-product.result))) ≡ pos (product_to (i + 1)) =
    ap (λ y. to_z w128 (of_z w128 (p *ℤ y))) part
    ∙ to_z-of_z w128 (p *ℤ pos (i + 1)) (wide_fits p (i + 1) c.loop-i.invariant.near (omega (arith, c.loop-i-test.true, c.ranges.last)))
    ∙ ap (λ y. y *ℤ pos (i + 1)) c.loop-i.invariant.value ∙ ap pos (factorial_more i) in
    record { value = exact; near = sym c.is_far.ensures ∙ c.if-is_far.false }
