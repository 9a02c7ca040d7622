use Rattle.ep_eval.proofs.Words.{◌≡◌, ◌&&◌, ap₂, ◌∙◌, w64, to_z, of_z, rules, arith, int_max, int_min, int_le, ints, to_z-of_z}
use Rattle.ep_eval.proofs.SetSteps.{overlap_has}
use Rattle.ep_eval.proofs.sets.overlap.Goals as goal

pub returns : goal.returns
returns c n =
    let one = c.args.one in
    let other = c.args.other in
    let least = to_z-of_z w64 c.max.result (search rules) in
    let most = to_z-of_z w64 c.min.result (search rules) in
    let lo : to_z w64 (of_z w64 c.max.result) ≡ int_max one.lo other.lo = grind (arith, ints, c.max.ensures.value, least) in
    let hi : to_z w64 (of_z w64 c.min.result) ≡ int_min one.hi other.hi = grind (arith, ints, c.min.ensures.value, most) in
    ap₂ (λ a b. int_le a n && int_le n b) lo hi ∙ overlap_has n one.lo one.hi other.lo other.hi
