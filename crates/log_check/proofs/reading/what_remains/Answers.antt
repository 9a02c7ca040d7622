use Rattle.std.proofs.Common.{◌≡◌, not, sym, ◌∙◌, subst, drop}
use Rattle.cnf_core.specs.Reading.{not_false}
use Rattle.log_check.specs.Kept.{remaining_of, remaining_with}
use Rattle.log_check.specs.declared.reading.Remaining.{Remaining}
use Rattle.log_check.specs.declared.reading.Remaining.TheVariants.{Nothing}
use Rattle.log_check.proofs.Hints.{remains_false, remains_one}
use Rattle.log_check.proofs.reading.what_remains.Goals as goal
use Rattle.log_check.proofs.reading.what_remains.Goals.{then-not-is_false+in-Nothing, else-not-is_false}

pub loop-lit-preserved : goal.loop-lit-preserved
loop-lit-preserved c = λ trues kept.
    elim c.if-not-is_false.branch [
      | then-not-is_false+in-Nothing w ↦
          let so_far : remaining_with Nothing (not_false trues (drop c.loop-lit.lit-index c.args.clause.now)) ≡ remaining_of (not_false trues c.args.clause.now) = subst (λ (f : Remaining). remaining_with f (not_false trues (drop c.loop-lit.lit-index c.args.clause.now)) ≡ remaining_of (not_false trues c.args.clause.now)) w.in-Nothing.is (c.loop-lit.invariant trues kept) in
          rw w.found-is (remains_one trues c.args.clause.now c.loop-lit.lit-index c.lit-item.result _ c.loop-lit-test.true c.lit-item.is (sym (c.is_false.ensures ∙ kept c.lit-item.result.var (not c.lit-item.result.positive)) ∙ w.if-not-is_false.true) so_far)
      | else-not-is_false w ↦
          rw w.found-is (remains_false trues c.args.clause.now c.loop-lit.lit-index c.lit-item.result c.loop-lit.found _ c.loop-lit-test.true c.lit-item.is (sym (c.is_false.ensures ∙ kept c.lit-item.result.var (not c.lit-item.result.positive)) ∙ w.if-not-is_false.false) (c.loop-lit.invariant trues kept))
    ]
