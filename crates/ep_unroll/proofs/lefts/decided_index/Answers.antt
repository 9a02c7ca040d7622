use Rattle.ep_unroll.proofs.Words.{◌≡◌, ◌∙◌, Some, ap, arith, sym, w64, to_z, of_z, ints, to_z-of_z, index_in, slot_index}
use Rattle.ep_unroll.proofs.lefts.decided_index.Goals as goal

pub returns-in-Every : goal.returns-in-Every
unfolding slot_index index_in
returns-in-Every c nodes numbers = ap (slot_index nodes numbers) c.in-Every.is

pub returns-in-At : goal.returns-in-At
unfolding slot_index index_in
returns-in-At c nodes numbers =
    let index : to_z w64 (of_z w64 c.in-At.index) ≡ c.in-At.index = to_z-of_z w64 c.in-At.index (omega (arith, ints)) in
    ap (slot_index nodes numbers) c.in-At.is ∙ ap (λ i. Some (index_in (Some i))) (sym index)
