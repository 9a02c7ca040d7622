use Rattle.ep_size.proofs.Words.{◌≡◌, ◌++◌, ◌∙◌, ℤ, Some, ap, rules, subst, sym, of_z, to_z, w64, flat_map, map, OnOk, to_z-of_z, fixed_span, parts_left, scalars_of, held_value, fixed_grid, plain_span, measured_of}
use Rattle.ep_size.proofs.RemainingSteps.{number_grid}
use Rattle.ep_size.proofs.picked.add_held_left.Goals as goal

pub returns-in-Number-clause-added : goal.returns-in-Number-clause-added
returns-in-Number-clause-added c =
    let n : ℤ = c.in-Number.number in
    let word : to_z w64 (of_z w64 n) ≡ n = to_z-of_z w64 n (search rules) in
    subst (λ l. OnOk c.add_number_left.result (map plain_span c.add_number_left.new.spans.items ≡ map plain_span c.args.spans.now.items ++ l))
    (number_grid (map measured_of c.args.indices.now) c.args.held.now n c.fixed_number.result c.in-Number.is (c.fixed_number.ensures ∙ ap (λ m. fixed_span (Some m)) word))
    c.add_number_left.ensures.added

pub returns-in-Lent-clause-added : goal.returns-in-Lent-clause-added
unfolding held_value
returns-in-Lent-clause-added c =
    subst
    (λ h. OnOk c.add_left.result
    (map plain_span c.add_left.new.spans.items
    ≡ map plain_span c.args.spans.now.items ++ flat_map scalars_of (parts_left (map measured_of c.args.indices.now) (fixed_grid (held_value h)))))
    (sym c.in-Lent.is) c.add_left.ensures.added

pub returns-in-Made-clause-added : goal.returns-in-Made-clause-added
unfolding held_value
returns-in-Made-clause-added c =
    subst
    (λ h. OnOk c.add_left-in-Made.result
    (map plain_span c.add_left-in-Made.new.spans.items
    ≡ map plain_span c.args.spans.now.items ++ flat_map scalars_of (parts_left (map measured_of c.args.indices.now) (fixed_grid (held_value h)))))
    (sym c.in-Made.is) c.add_left-in-Made.ensures.added
