use Rattle.std.proofs.Common.{◌-◌, ◌≤◌, ap, get_or, length, ◌∙◌, arith}
use Rattle.std.specs.Prelude.{map}
use Rattle.std.proofs.lemmas.List.{take_all}
use Rattle.std.proofs.lemmas.List.Elements.{All-get_or}
use Rattle.ep_restrict.specs.Restricted.{numbered_clauses}
use Rattle.ep_tree.specs.Views.{expr_tree}
use Rattle.ep_restrict.proofs.Copied.{clause_got, clause_more, none_at}
use Rattle.ep_restrict.proofs.restricting.copy_clauses.Goals as goal

pub overflow_sub-place : goal.overflow_sub-place
overflow_sub-place c =
    let there = All-get_or (λ n. (1 ≤ n) × (n ≤ length c.args.clauses.now)) c.args.numbers.now c.loop-number.number-index 0 c.loop-number-test.true c.requires in
    omega (arith, there.0)

pub bounds-clauses-place : goal.bounds-clauses-place
bounds-clauses-place c =
    let there = All-get_or (λ n. (1 ≤ n) × (n ≤ length c.args.clauses.now)) c.args.numbers.now c.loop-number.number-index 0 c.loop-number-test.true c.requires in
    omega (arith, there.0, there.1)

pub loop-number-init : goal.loop-number-init
loop-number-init c = ap (map expr_tree) c.in_ok-copies.ensures.items ∙ none_at (map expr_tree c.args.clauses.now)

pub loop-number-preserved : goal.loop-number-preserved
loop-number-preserved c =
    let there = All-get_or (λ n. (1 ≤ n) × (n ≤ length c.args.clauses.now)) c.args.numbers.now c.loop-number.number-index 0 c.loop-number-test.true c.requires in
    ap (map expr_tree) c.in_ok-push.ensures.items
    ∙ clause_more (map expr_tree c.args.clauses.now) c.args.numbers.now c.loop-number.number-index c.loop-number.copies.items c.in_ok-copy.copy
    c.loop-number-test.true c.loop-number.invariant
    (clause_got c.args.clauses.now (get_or c.args.numbers.now c.loop-number.number-index 0 - 1) c.index-clauses-place.result c.in_ok-copy.copy
    (omega (arith, there.0, there.1)) (c.in_ok-copy.ensures ∙ ap expr_tree c.index-clauses-place.is))

pub returns : goal.returns
returns c = c.loop-number.invariant ∙ ap (numbered_clauses (map expr_tree c.args.clauses.now)) (take_all c.loop-number.number-index c.args.numbers.now (omega (arith, c.loop-number-test.false)))
