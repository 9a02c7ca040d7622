use Rattle.ep_unroll.proofs.Words.{◌∷◌, ◌++◌, [], ◌∙◌, ℕ, List, Some, ap, map, sym, take, map-append, map_more, index_in, indices_in, slot_index, Slot}
use Rattle.ep_unroll.proofs.lefts.decided_indices.Goals as goal

pub loop-slot-preserved : goal.loop-slot-preserved
loop-slot-preserved c nodes numbers =
    let all : List Slot = c.args.slots.now in
    let k : ℕ = c.loop-slot.slot-index in
    let slot : Slot = c.slot-item.result in
    let now = c.in_ok-index.index in
    let before = c.loop-slot.indices.items in
    map_more (slot_index nodes numbers) all k slot c.loop-slot-test.true
    ∙ ap (λ s. map (slot_index nodes numbers) (take k all) ++ slot_index nodes numbers s ∷ []) (sym c.slot-item.is)
    ∙ ap (λ l. l ++ slot_index nodes numbers slot ∷ []) (c.loop-slot.invariant nodes numbers) ∙ ap (λ o. map Some (indices_in before) ++ o ∷ []) (c.in_ok-index.ensures nodes numbers)
    ∙ sym (map-append Some (indices_in before) (index_in now ∷ [])) ∙ ap (map Some) (sym (map-append index_in before (now ∷ []))) ∙ ap (λ l. map Some (indices_in l)) (sym c.in_ok-push.ensures.items)
