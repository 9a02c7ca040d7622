use Rattle.std.proofs.Common.{◌+◌, ◌++◌, ◌∷◌, [], List, ℕ, ap, sym, ◌∙◌}
use Rattle.sat_merge.proofs.Numbered.{first_more}
use Rattle.sat_merge.proofs.logs.ids_of.Goals as goal

pub loop-place-preserved : goal.loop-place-preserved
loop-place-preserved c =
    let place = c.loop-place.place in
    c.in_ok-push.ensures.items ∙ ap (λ (ids : List ℕ). ids ++ (place + 1) ∷ []) c.loop-place.invariant ∙ sym (first_more place)
