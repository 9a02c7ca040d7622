use Rattle.ep_size.proofs.Words.{◌+◌, ◌*◌, length, refl, counting_weight, widths}
use Rattle.ep_size.proofs.widths.counting_weight.Goals as goal

pub returns-clause-weight : goal.returns-clause-weight
unfolding counting_weight
returns-clause-weight c xs vs cs h k l =
    let one = c.capped_sum.ensures.value (length xs) 1 h.count refl in
    let places = c.capped_product-places.ensures.value (length xs) (length xs + 1) h.count one in
    let pairs = c.capped_product-pairs.ensures.value (length vs) (length xs * (length xs + 1)) k.count places in
    let wide = c.capped_sum-2.ensures.value (widths xs) (widths cs) h.widths l.widths in
    c.capped_sum-3.ensures.value (length vs * (length xs * (length xs + 1))) (widths xs + widths cs) pairs wide
