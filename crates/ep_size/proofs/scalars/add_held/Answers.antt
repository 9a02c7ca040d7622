use Rattle.ep_size.proofs.Words.{◌≡◌, ◌∷◌, ◌++◌, [], ℤ, sym, ap, subst, ◌∙◌, w64, to_z, of_z, rules, Some, map, OnOk, to_z-of_z, fixed_span, scalars_of, held_value, fixed_grid, plain_span}
use Rattle.ep_size.proofs.ScalarParts.{fixed_single, span_pushed}
use Rattle.ep_size.proofs.scalars.add_held.Goals as goal

pub returns-in_ok-push-in-Number-clause-added : goal.returns-in_ok-push-in-Number-clause-added
unfolding held_value
returns-in_ok-push-in-Number-clause-added c =
    let n : ℤ = c.in-Number.number in
    let word : to_z w64 (of_z w64 n) ≡ n = to_z-of_z w64 n (search rules) in
    let old = c.args.spans.now.items in
    span_pushed old _ c.fixed_number.result c.in_ok-push-in-Number.ensures.items
    ∙ ap (λ s. map plain_span old ++ s ∷ []) c.fixed_number.ensures ∙ ap (λ m. map plain_span old ++ fixed_span (Some m) ∷ []) word ∙ ap (λ l. map plain_span old ++ l) (sym (fixed_single n))
    ∙ ap (λ v. map plain_span old ++ scalars_of (fixed_grid (held_value v))) (sym c.in-Number.is)

pub returns-in-Lent-clause-added : goal.returns-in-Lent-clause-added
unfolding held_value
returns-in-Lent-clause-added c =
    subst (λ v. OnOk c.add_value.result (map plain_span c.add_value.new.spans.items ≡ map plain_span c.args.spans.now.items ++ scalars_of (fixed_grid (held_value v))))
    (sym c.in-Lent.is) c.add_value.ensures.added

pub returns-in-Made-clause-added : goal.returns-in-Made-clause-added
unfolding held_value
returns-in-Made-clause-added c =
    subst (λ v. OnOk c.add_value-in-Made.result (map plain_span c.add_value-in-Made.new.spans.items ≡ map plain_span c.args.spans.now.items ++ scalars_of (fixed_grid (held_value v))))
    (sym c.in-Made.is) c.add_value-in-Made.ensures.added
