use Rattle.ep_size.proofs.Words.{◌∙◌, ap, map, subst, sym, number_reach, grid_of, measured_of, TellsExtent}
use Rattle.ep_size.proofs.PartedSteps.{parts_gone, parts_slice}
use Rattle.ep_size.proofs.ListNodes.{if_ok}
use Rattle.ep_size.proofs.SliceParts.{slice_untold}
use Rattle.ep_size.proofs.parted.parts_apart.Goals as goal

pub returns-then-not-are_told-clause-listed : goal.returns-then-not-are_told-clause-listed
returns-then-not-are_told-clause-listed c plain =
    let ms = map measured_of c.args.indices.now in
    subst (TellsExtent c.no_parts.result) (sym (slice_untold ms (grid_of c.args.known.now) (sym c.are_told.ensures ∙ c.if-not-are_told.true) plain)) c.no_parts.ensures

pub returns-then-not-are_told-clause-none : goal.returns-then-not-are_told-clause-none
unfolding number_reach
returns-then-not-are_told-clause-none c = ap number_reach c.no_parts.ensures.grid

pub returns-in-Some-clause-listed : goal.returns-in-Some-clause-listed
returns-in-Some-clause-listed c =
    if_ok c.as_matrix.result _ _ c.as_matrix.ensures.listed
    (λ y listed plain. parts_slice (map measured_of c.args.indices.now) (grid_of c.args.known.now) c.in_ok-left.left c.in-Some.own y (sym c.are_told.ensures ∙ c.if-not-are_told.false)
    c.in_ok-left.ensures.read c.in-Some.is listed)

pub returns-in-None-clause-listed : goal.returns-in-None-clause-listed
returns-in-None-clause-listed c plain =
    subst (TellsExtent c.no_parts-in-None.result)
    (sym (parts_gone (map measured_of c.args.indices.now) (grid_of c.args.known.now) c.in_ok-left.left (sym c.are_told.ensures ∙ c.if-not-are_told.false) c.in_ok-left.ensures.read c.in-None.is))
    c.no_parts-in-None.ensures

pub returns-in-None-clause-none : goal.returns-in-None-clause-none
unfolding number_reach
returns-in-None-clause-none c = ap number_reach c.no_parts-in-None.ensures.grid
