use Rattle.ep_size.proofs.Words.{ap, refl, subst, ◌∙◌, no_runs, filled, IsKnownExtent, TellsValue, grid_of, plain_span, IsLightNode}
use Rattle.ep_size.proofs.GroupSteps.{both_ways, light_cells, light_matrix, light_number}
use Rattle.ep_size.proofs.groups.light_node.Goals as goal

pub returns-in-Number : goal.returns-in-Number
unfolding grid_of
returns-in-Number c mode env e h =
    c.number_node.ensures mode env e 0 (plain_span c.in-Number.span) refl c.kept_span.ensures
    (light_number mode env e _ c.in-Number.span (ap grid_of c.in-Number.is) h)

pub returns-in-Some : goal.returns-in-Some
unfolding grid_of
returns-in-Some c mode env e h =
    light_cells mode env e _ _ c.in-Cells.span _ _ (ap (filled (plain_span c.in-Cells.span)) c.in-Some.ensures.cases.0)
    (subst (IsLightNode mode env e) c.in-Cells.is h)

pub returns-in-None : goal.returns-in-None
unfolding grid_of filled
returns-in-None c mode env e h =
    c.number_node-in-None.ensures mode env e 0 (plain_span c.in-Cells.span) refl c.kept_span-in-None.ensures
    (light_number mode env e _ c.in-Cells.span
    (ap grid_of c.in-Cells.is ∙ ap (filled (plain_span c.in-Cells.span)) (no_runs c.in-Cells.indices.now c.in-None.ensures.cases)) h)

pub returns-in-Fixed : goal.returns-in-Fixed
unfolding TellsValue
returns-in-Fixed c mode env e h = both_ways _ _ h.holds (subst (IsKnownExtent mode env e) c.in-Fixed.is h.known).value.0

pub returns-in-Nothing : goal.returns-in-Nothing
unfolding TellsValue
returns-in-Nothing c mode env e h = both_ways _ _ h.holds (subst (IsKnownExtent mode env e) c.in-Nothing.is h.known).value.0

pub returns-in-Matrix : goal.returns-in-Matrix
returns-in-Matrix c mode env e h = light_matrix mode env e _ c.in-Matrix.indices c.in-Matrix.parts (subst (IsLightNode mode env e) c.in-Matrix.is h)

pub returns-in-NoParts : goal.returns-in-NoParts
unfolding TellsValue
returns-in-NoParts c mode env e h = both_ways _ _ h.holds (subst (IsKnownExtent mode env e) c.in-NoParts.is h.known).value.0
