use Rattle.std.proofs.Common.{◌≡◌, refl, List, ap, subst, pos}
use Rattle.std.specs.Prelude.{option_copied}
use Rattle.cnf_core.specs.Reading.{not_false}
use Rattle.log_check.specs.Kept.{remaining_of}
use Rattle.cnf_core.specs.Literal.{Literal}
use Rattle.log_check.specs.declared.reading.Remaining.TheVariants.{Nothing}
use Rattle.log_check.proofs.Hints.{stops, shows, passes, gives, ends}
use Rattle.log_check.proofs.Trues.{made_true}
use Rattle.log_check.proofs.reading.reads.Goals as goal
use Rattle.log_check.proofs.reading.reads.Goals.{in-One+in_ok-_is_true-in-One, in-More}

pub returns-in_default : goal.returns-in_default
returns-in_default c = λ trues numbered a b.
    stops c.loop-hint.signs numbered c.args.hints.now c.loop-hint.hint-index (pos 0) (option_copied c.hinted.result) _ (c.loop-hint.invariant trues numbered a b) c.loop-hint-test.true (c.hinted.ensures numbered b) (ap option_copied c.in_default.is)

pub returns-in-Nothing : goal.returns-in-Nothing
returns-in-Nothing c = λ trues numbered a b.
    shows c.loop-hint.signs numbered c.args.hints.now c.loop-hint.hint-index (pos 0) c.in-Some.clause.now _ (c.loop-hint.invariant trues numbered a b) c.loop-hint-test.true (c.in-Some.ensures numbered b)
    (λ t k. subst (λ (ls : List Literal). Nothing ≡ remaining_of (not_false t ls)) refl (c.in-Nothing.ensures t k))

pub loop-hint-preserved : goal.loop-hint-preserved
loop-hint-preserved c = λ trues numbered a b.
    let hinted = c.in-Some.ensures numbered b in
    elim c.match-what_remains.branch [
      | in-One+in_ok-_is_true-in-One w ↦
          rw w.signs-is (gives c.loop-hint.signs w.set_true.new.self numbered c.args.hints.now c.loop-hint.hint-index (pos 0) c.in-Some.clause.now _ _ _ (c.loop-hint.invariant trues numbered a b) c.loop-hint-test.true hinted w.in-One.ensures (λ t k. made_true c.loop-hint.signs w.set_true.new.self t _ _ w.in_ok-_is_true-in-One.ensures k))
      | in-More w ↦
          rw w.signs-is (passes c.loop-hint.signs numbered c.args.hints.now c.loop-hint.hint-index (pos 0) c.in-Some.clause.now _ (c.loop-hint.invariant trues numbered a b) c.loop-hint-test.true hinted w.in-More.ensures)
    ]

pub returns : goal.returns
returns c = λ trues numbered a b. ends c.loop-hint.signs numbered c.args.hints.now c.loop-hint.hint-index _ (c.loop-hint.invariant trues numbered a b) c.loop-hint-test.false
