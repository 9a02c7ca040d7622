use Rattle.ep_size.proofs.Words.{◌≡◌, ℤ, ap, ◌∙◌, map, w64, to_z, of_z, rules, Some, to_z-of_z, fixed_span, value_tree, held_value, measured_of}
use Rattle.ep_size.proofs.RemainingSteps.{gives_held, number_held}
use Rattle.ep_size.proofs.reads.held_left.Goals as goal

pub returns-in-Number-clause-left : goal.returns-in-Number-clause-left
returns-in-Number-clause-left c =
    let n : ℤ = c.in-Number.number in
    let word : to_z w64 (of_z w64 n) ≡ n = to_z-of_z w64 n (search rules) in
    number_held c.number_left.result (map measured_of c.args.indices.now) c.args.held.now n c.fixed_number.result c.in-Number.is
    (c.fixed_number.ensures ∙ ap (λ m. fixed_span (Some m)) word) c.number_left.ensures

pub returns-in-Lent-clause-left : goal.returns-in-Lent-clause-left
unfolding held_value
returns-in-Lent-clause-left c =
    gives_held c.value_left.result (map measured_of c.args.indices.now) c.args.held.now (value_tree c.in-Lent.value.now) (ap held_value c.in-Lent.is) c.value_left.ensures.left

pub returns-in-Made-clause-left : goal.returns-in-Made-clause-left
unfolding held_value
returns-in-Made-clause-left c =
    gives_held c.value_left-in-Made.result (map measured_of c.args.indices.now) c.args.held.now (value_tree c.in-Made.value) (ap held_value c.in-Made.is)
    c.value_left-in-Made.ensures.left
