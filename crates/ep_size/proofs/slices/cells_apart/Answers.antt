use Rattle.ep_size.proofs.Words.{ap, map, subst, sym, ◌∙◌, number_reach, slice_extent, filled, plain_span, measured_of, TellsExtent}
use Rattle.ep_size.proofs.ListNodes.{if_ok}
use Rattle.ep_size.proofs.SliceParts.{slice_none, slice_read, slice_untold}
use Rattle.ep_size.proofs.slices.cells_apart.Goals as goal

pub returns-then-not-are_told-clause-listed : goal.returns-then-not-are_told-clause-listed
returns-then-not-are_told-clause-listed c plain =
    let ms = map measured_of c.args.indices.now in
    let x = filled (plain_span c.args.span) c.args.domains.now in
    subst (TellsExtent c.no_parts.result) (sym (slice_untold ms x (sym c.are_told.ensures ∙ c.if-not-are_told.true) plain)) c.no_parts.ensures

pub returns-then-not-are_told-clause-none : goal.returns-then-not-are_told-clause-none
unfolding number_reach
returns-then-not-are_told-clause-none c = ap number_reach c.no_parts.ensures.grid

pub returns-in-Some-clause-listed : goal.returns-in-Some-clause-listed
returns-in-Some-clause-listed c =
    let ms = map measured_of c.args.indices.now in
    let x = filled (plain_span c.args.span) c.args.domains.now in
    if_ok c.by_parts.result _ _ c.by_parts.ensures.same
    (λ known same plain. subst (λ y. TellsExtent y (slice_extent ms x)) (sym same)
    (slice_read c.args.indices.now c.args.domains.now c.args.span c.in_ok-part.part c.in-Some.known (sym c.are_told.ensures ∙ c.if-not-are_told.false)
    c.in_ok-part.ensures.read c.in-Some.is))

pub returns-in-None-clause-listed : goal.returns-in-None-clause-listed
returns-in-None-clause-listed c plain =
    subst (TellsExtent c.no_parts-in-None.result)
    (sym (slice_none c.args.indices.now c.args.domains.now c.args.span c.in_ok-part.part (sym c.are_told.ensures ∙ c.if-not-are_told.false) c.in_ok-part.ensures.read c.in-None.is))
    c.no_parts-in-None.ensures

pub returns-in-None-clause-none : goal.returns-in-None-clause-none
unfolding number_reach
returns-in-None-clause-none c = ap number_reach c.no_parts-in-None.ensures.grid
