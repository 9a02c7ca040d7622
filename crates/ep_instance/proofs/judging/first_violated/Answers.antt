use Rattle.std.proofs.Common.{◌≡◌, ◌∙◌, ◌+◌, [], subst, ap, sym, refl, map, drop, arith}
use Rattle.std.proofs.Math.ListN.{drop_of_length-le}
use Rattle.ep_eval.specs.Known.{env_of}
use Rattle.ep_eval.specs.Outcomes.{seen_value}
use Rattle.ep_tree.specs.Evaluation.{first_untrue}
use Rattle.ep_tree.specs.Limits.{limits_of_values}
use Rattle.ep_tree.specs.Measures.{met}
use Rattle.ep_tree.specs.Views.{expr_tree}
use Rattle.ep_types_rules.proofs.RuleSteps.{next_is}
use Rattle.ep_instance.proofs.JudgingSteps.{clause_false, clause_is, clause_true, no_clause}
use Rattle.ep_instance.proofs.judging.first_violated.Goals as goal

pub loop-clause-init : goal.loop-clause-init
loop-clause-init c = (refl, refl)

pub loop-clause-preserved : goal.loop-clause-preserved
loop-clause-preserved c =
    let mode = c.args.env.now.mode in
    let env = env_of c.args.env.now in
    let n = c.loop-clause.number in
    let k = c.loop-clause.clause-index in
    let all = c.args.clauses.now in
    let e = expr_tree c.clause-item.result in
    let es = map expr_tree (drop (k + 1) all) in
    let cut = ap (λ xs. first_untrue mode env n (map expr_tree xs)) (next_is all k c.clause-item.result c.loop-clause-test.true c.clause-item.is) in
    let holds = sym (clause_is mode env e (seen_value c.in_ok-seen.seen) c.is_true.result c.in_ok-seen.ensures c.is_true.ensures) ∙ c.if-not-is_true.false in
    (c.loop-clause.invariant.0 ∙ cut ∙ clause_true mode env n e es holds, ap (λ m. m + 1) c.loop-clause.invariant.1)

pub returns-then-not-is_true : goal.returns-then-not-is_true
returns-then-not-is_true c =
    let mode = c.args.env.now.mode in
    let env = env_of c.args.env.now in
    let n = c.loop-clause.number in
    let k = c.loop-clause.clause-index in
    let all = c.args.clauses.now in
    let e = expr_tree c.clause-item.result in
    let es = map expr_tree (drop (k + 1) all) in
    let cut = ap (λ xs. first_untrue mode env n (map expr_tree xs)) (next_is all k c.clause-item.result c.loop-clause-test.true c.clause-item.is) in
    let fails = sym (clause_is mode env e (seen_value c.in_ok-seen.seen) c.is_true.result c.in_ok-seen.ensures c.is_true.ensures) ∙ c.if-not-is_true.true in
    sym (c.loop-clause.invariant.0 ∙ cut ∙ clause_false mode env n e es fails)

pub returns : goal.returns
returns c =
    let mode = c.args.env.now.mode in
    let env = env_of c.args.env.now in
    let n = c.loop-clause.number in
    sym
    (c.loop-clause.invariant.0
    ∙ ap (λ xs. first_untrue mode env n (map expr_tree xs)) (drop_of_length-le c.args.clauses.now c.loop-clause-test.false)
    ∙ no_clause mode env n)

pub seen_in-requires : goal.seen_in-requires
seen_in-requires c =
    subst (λ e. limits_of_values c.args.env.now.mode 0 (met c.args.env.now.mode (env_of c.args.env.now) (expr_tree e)) ≡ []) (sym c.clause-item.is)
    (c.requires c.loop-clause.clause-index c.clause-item.result c.loop-clause-test.true)

pub overflow_add-number : goal.overflow_add-number
overflow_add-number c = omega (arith, c.loop-clause.invariant.1, c.loop-clause-test.true, c.well_formed.1.1.0.1)
