use Rattle.ep_unroll.proofs.Words.{ap, arith, sym, w64, ◌∙◌, option_and_then, ints, to_z-of_z, held_value, seen_held, part_under, value_tree}
use Rattle.ep_unroll.proofs.chosen_values.part_seen.Goals as goal

pub returns-in-Number : goal.returns-in-Number
unfolding held_value part_under
returns-in-Number c =
    sym (ap (λ s. option_and_then (λ v. part_under v c.args.index) (seen_held s)) c.in-Some.is ∙ ap (λ h. part_under (held_value h) c.args.index) c.in-Number.is)

pub returns-in-Lent : goal.returns-in-Lent
unfolding held_value
returns-in-Lent c =
    c.part_in.ensures ∙ ap (part_under (value_tree c.in-Lent.value.now)) (to_z-of_z w64 c.args.index (omega (arith, ints)))
    ∙ sym (ap (λ s. option_and_then (λ v. part_under v c.args.index) (seen_held s)) c.in-Some.is ∙ ap (λ h. part_under (held_value h) c.args.index) c.in-Lent.is)

pub returns-in-Made : goal.returns-in-Made
unfolding held_value
returns-in-Made c =
    c.part_in-in-Made.ensures ∙ ap (part_under (value_tree c.in-Made.value)) (to_z-of_z w64 c.args.index (omega (arith, ints)))
    ∙ sym (ap (λ s. option_and_then (λ v. part_under v c.args.index) (seen_held s)) c.in-Some.is ∙ ap (λ h. part_under (held_value h) c.args.index) c.in-Made.is)

pub returns-in-None : goal.returns-in-None
returns-in-None c = sym (ap (λ s. option_and_then (λ v. part_under v c.args.index) (seen_held s)) c.in-None.is)
