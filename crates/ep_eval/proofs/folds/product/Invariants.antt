use Rattle.ep_eval.proofs.Words.{◌≡◌, ◌*ℤ◌, pos, false, drop, list_any, product_of, is_too_far, products_from}
use Rattle.ep_eval.proofs.folds.product.Given as goal

abbrev pub invariant-loop-part : goal.invariant-loop-part
invariant-loop-part l = record {
  value : product_of l.parts ≡ l.product *ℤ product_of (drop l.part-index l.parts);
  far : list_any is_too_far (products_from (pos 1) l.parts) ≡ list_any is_too_far (products_from l.product (drop l.part-index l.parts));
  near : is_too_far l.product ≡ false;
}
