use Rattle.ep_size.proofs.Words.{◌++◌, ◌∙◌, List, ap, drop, subst, sym, drop_all, grid_of}
use Rattle.ep_size.proofs.PartedSteps.{CopiedSoFar, copied_done}
use Rattle.ep_size.proofs.ListNodes.{if_ok}
use Rattle.ep_size.specs.declared.extents.Extent.{Extent}
use Rattle.ep_size.proofs.parted.+copied.Goals as goal

pub returns-in-Fixed-clause-grid : goal.returns-in-Fixed-clause-grid
unfolding grid_of
returns-in-Fixed-clause-grid t c = if_ok c.opened_held.result _ _ c.opened_held.ensures.grid (λ x h. h ∙ ap grid_of (sym c.in-Fixed.is))

pub returns-in-NoParts-clause-grid : goal.returns-in-NoParts-clause-grid
unfolding grid_of
returns-in-NoParts-clause-grid t c = c.no_parts.ensures.grid ∙ ap grid_of (sym c.in-NoParts.is)

pub returns-after-loop-part-clause-grid : goal.returns-after-loop-part-clause-grid
returns-after-loop-part-clause-grid t c =
    let all : List Extent = c.deref-part-items.result.now in
    let left = drop c.loop-part.part-index all in
    copied_done c.in-Matrix.own c.in-Matrix.parts left c.extend_from_slice.new.self c.loop-part.inner
    (subst (λ l. CopiedSoFar l left c.loop-part.inner.items) c.deref-part-items.ensures.value c.loop-part.invariant) (drop_all c.loop-part.part-index all c.loop-part-test.false)
    (c.in_ok-extend_from_slice-in-Matrix.ensures.items ∙ ap (λ l. l ++ c.deref.result.now) c.new-indices.ensures.items ∙ c.deref.ensures.value)
    ∙ ap grid_of (sym c.in-Matrix.is)
