use Rattle.ep_eval.proofs.Words.{◌≡◌, ◌+◌, ◌*ℤ◌, ℕ, ℤ, List, pos, false, drop, get_or, refl, sym, ap, ◌∙◌, w64, to_z, of_z, arith, rules, SFits, w128, list_any, ints, to_z-of_z, at_drop_all, at_drop_more, product_of, is_too_far, products_from, near_one, times_fits}
use Rattle.ep_eval.proofs.Products.{far_ends, far_step, far_there, product_begins, product_ends, product_given, product_step}
use Rattle.ep_eval.proofs.folds.product.Goals as goal

pub loop-part-init : goal.loop-part-init
loop-part-init c = record { value = product_begins c.args.parts.now; far = refl; near = near_one }

pub overflow_mul-product : goal.overflow_mul-product
overflow_mul-product c =
    let all : List ℤ = c.args.parts.now in
    let k : ℕ = c.loop-part.part-index in
    let x : ℤ = get_or all k (pos 0) in
    let fits : SFits w64 x = search rules in
    let part : to_z w128 (of_z w128 c.from-product.result) ≡ x =
    to_z-of_z w128 c.from-product.result (omega (arith, ints)) ∙ c.from-product.ensures ∙ to_z-of_z w64 x fits in
    rw part (times_fits (to_z w128 c.loop-part.product-bits) x c.loop-part.invariant.near fits)

pub returns-then-is_far : goal.returns-then-is_far
returns-then-is_far c =
    let all : List ℤ = c.args.parts.now in
    let k : ℕ = c.loop-part.part-index in
    let x : ℤ = get_or all k (pos 0) in
    let p : ℤ = to_z w128 c.loop-part.product-bits in
    let fits : SFits w64 x = search rules in
    let part : to_z w128 (of_z w128 c.from-product.result) ≡ x =
    to_z-of_z w128 c.from-product.result (omega (arith, ints)) ∙ c.from-product.ensures ∙ to_z-of_z w64 x fits in
    let exact : to_z w128 (of_z w128 (p *ℤ to_z w128 (of_z w128 c.from-product.result))) ≡ p *ℤ x =
    ap (λ y. to_z w128 (of_z w128 (p *ℤ y))) part ∙ to_z-of_z w128 (p *ℤ x) (times_fits p x c.loop-part.invariant.near fits) in (
      refl,
      far_there p x (drop (k + 1) all) (list_any is_too_far (products_from (pos 1) all))
          (ap is_too_far (sym exact) ∙ sym c.is_far.ensures ∙ c.if-is_far.true)
          (c.loop-part.invariant.far ∙ at_drop_more (λ l. list_any is_too_far (products_from p l)) all k (pos 0) c.loop-part-test.true),
    )

pub loop-part-preserved : goal.loop-part-preserved
loop-part-preserved c =
    let all : List ℤ = c.args.parts.now in
    let k : ℕ = c.loop-part.part-index in
    let x : ℤ = get_or all k (pos 0) in
    let p : ℤ = to_z w128 c.loop-part.product-bits in
    let fits : SFits w64 x = search rules in
    let part : to_z w128 (of_z w128 c.from-product.result) ≡ x =
    to_z-of_z w128 c.from-product.result (omega (arith, ints)) ∙ c.from-product.ensures ∙ to_z-of_z w64 x fits in
    let exact : to_z w128 (of_z w128 (p *ℤ to_z w128 (of_z w128 c.from-product.result))) ≡ p *ℤ x =
    ap (λ y. to_z w128 (of_z w128 (p *ℤ y))) part ∙ to_z-of_z w128 (p *ℤ x) (times_fits p x c.loop-part.invariant.near fits) in
    let near : is_too_far (p *ℤ x) ≡ false =
    ap is_too_far (sym exact) ∙ sym c.is_far.ensures ∙ c.if-is_far.false in
    rw exact (record {
      value = product_step p x (product_of all) (drop (k + 1) all) (c.loop-part.invariant.value ∙ ap (λ y. p *ℤ y) (at_drop_more product_of all k (pos 0) c.loop-part-test.true));
      far = far_step p x (drop (k + 1) all) (list_any is_too_far (products_from (pos 1) all)) near
          (c.loop-part.invariant.far ∙ at_drop_more (λ l. list_any is_too_far (products_from p l)) all k (pos 0) c.loop-part-test.true);
      near = near;
    })

pub returns : goal.returns
returns c =
    let all : List ℤ = c.args.parts.now in
    let k : ℕ = c.loop-part.part-index in
    let p : ℤ = to_z w128 c.loop-part.product-bits in
    product_given c.number_seen.result p (product_of all) (products_from (pos 1) all)
    (product_ends p (product_of all) (c.loop-part.invariant.value ∙ ap (λ y. p *ℤ y) (at_drop_all product_of all k c.loop-part-test.false)))
    c.loop-part.invariant.near
    c.number_seen.ensures
    (far_ends p (list_any is_too_far (products_from (pos 1) all)) (c.loop-part.invariant.far ∙ at_drop_all (λ l. list_any is_too_far (products_from p l)) all k c.loop-part-test.false))
