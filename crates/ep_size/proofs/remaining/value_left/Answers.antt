use Rattle.ep_size.proofs.Words.{subst, ap, ◌∙◌, map, ◌++◌, flat_map, parts_left, scalars_of, value_tree, fixed_grid, plain_span, Hulls, measured_of}
use Rattle.ep_size.proofs.remaining.value_left.Goals as goal

pub returns-clause-left : goal.returns-clause-left
returns-clause-left c =
    subst (Hulls c.hull_over.result)
    (ap (map plain_span) c.deref.ensures.value ∙ c.in_ok-add_left.ensures.added
    ∙ ap (λ l. map plain_span l ++ flat_map scalars_of (parts_left (map measured_of c.args.indices.now) (fixed_grid (value_tree c.args.value.now)))) c.new-spans.ensures.items)
    c.hull_over.ensures
