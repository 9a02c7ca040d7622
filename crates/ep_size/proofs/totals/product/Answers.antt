use Rattle.ep_size.proofs.Words.{◌*◌, ◌≤◌, arith, mul-le-mul}
use Rattle.ep_size.proofs.totals.product.Goals as goal

pub overflow_mul-one : goal.overflow_mul-one
overflow_mul-one c =
    let most : c.args.one * c.args.other ≤ 20000001 * 20000001 = mul-le-mul c.requires.first c.requires.second in
    omega (arith, most)
