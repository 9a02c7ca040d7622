use Rattle.std.proofs.Common.{sym, subst, map, take, List}
use Rattle.std.proofs.lemmas.List.{take_all}
use Rattle.cnf_core.specs.Literal.{Literal, negation}
use Rattle.log_check.specs.Kept.{KeepsTrues}
use Rattle.log_check.proofs.Trues.{keeps_consistent, contradicts, is_contradicted, keeps_more, made_true, made_open, consistent_more}
use Rattle.log_check.proofs.reading.set_negations.Goals as goal

pub returns-then-not-branch : goal.returns-then-not-branch
returns-then-not-branch c =
    let trues = map negation (take c.loop-lit.lit-index c.args.clause.now) in
    let made = made_true c.loop-lit.signs c.set_true.new.self trues c.negated.result c.in_ok-set_true.field-0 c.in_ok-set_true.ensures c.loop-lit.invariant.kept in
    let found = contradicts c.args.clause.now c.loop-lit.lit-index c.lit-item.result c.negated.result c.loop-lit-test.true c.lit-item.is c.negated.ensures
    (is_contradicted trues c.negated.result c.in_ok-set_true.field-0 made.0 c.if-not-branch.true) in
    (sym found, λ no. absurd cc)

pub loop-lit-preserved : goal.loop-lit-preserved
loop-lit-preserved c =
    let made = made_true c.loop-lit.signs c.set_true.new.self (map negation (take c.loop-lit.lit-index c.args.clause.now)) c.negated.result c.in_ok-set_true.field-0 c.in_ok-set_true.ensures c.loop-lit.invariant.kept in
    record {
      kept = keeps_more c.set_true.new.self c.args.clause.now c.loop-lit.lit-index c.lit-item.result c.negated.result c.loop-lit-test.true c.lit-item.is c.negated.ensures (made.1 c.if-not-branch.false);
      consistent = consistent_more c.loop-lit.signs c.set_true.new.self c.negated.result c.loop-lit.invariant.consistent
          (made_open c.loop-lit.signs c.negated.result c.in_ok-set_true.field-0 c.in_ok-set_true.ensures.unless_false c.if-not-branch.false) (c.in_ok-set_true.ensures.kept c.if-not-branch.false);
    }

pub returns : goal.returns
returns c =
    let kept : KeepsTrues c.loop-lit.signs (map negation c.args.clause.now) = subst (λ (ls : List Literal). KeepsTrues c.loop-lit.signs (map negation ls)) (take_all c.loop-lit.lit-index c.args.clause.now c.loop-lit-test.false) c.loop-lit.invariant.kept in
    (sym (keeps_consistent c.loop-lit.signs (map negation c.args.clause.now) c.loop-lit.invariant.consistent kept), λ _. kept)
