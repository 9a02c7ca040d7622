use Rattle.std.proofs.Common.{[], ◌∷◌, codes}
use Rattle.ep_print.proofs.Sentences.{clauses_listed}
use Rattle.ep_print.proofs.Puts.{puts_both}
use Rattle.ep_print.proofs.Turns.{turn, turns_end}
use Rattle.ep_print.proofs.statements.push_clauses.Goals as goal

pub loop-clause-preserved : goal.loop-clause-preserved
loop-clause-preserved c = turn _ _ clauses_listed (codes "," ∷ []) c.loop-clause.started c.args.clauses.now c.loop-clause.clause-index c.clause-item.result _ c.push_between.new.text.items _ _ c.loop-clause-test.true c.clause-item.is c.in_ok-push_between.ensures c.in_ok-push_expr.ensures c.loop-clause.invariant

pub returns : goal.returns
returns c = puts_both _ _ _ _ _ c.in_ok-push_words.ensures (turns_end _ _ clauses_listed (codes "," ∷ []) c.loop-clause.started c.args.clauses.now c.loop-clause.clause-index _ _ c.loop-clause-test.false c.loop-clause.invariant)
