use Rattle.std.proofs.Common.{refl, arith}
use Rattle.ep_instance_parts.specs.Instances.{instance_mode, plain_instance}
use Rattle.ep_explain.specs.Narrowing.{IsTrueAt}
use Rattle.ep_explain.proofs.Judged.{end_solved, end_undefined, rest_are, turn_kept, turn_within, violated_all, violated_rest}
use Rattle.ep_explain.proofs.left.violated_by.Goals as goal

pub judged-requires : goal.judged-requires
judged-requires c = record {
  closed = c.requires.closed;
  within = c.requires.within;
  numbers = rest_are (plain_instance c.args.instance.now) c.args.numbers.now c.loop-begun.begun c.requires.numbers;
  fits = c.requires.fits;
}

pub overflow_add-begun : goal.overflow_add-begun
overflow_add-begun c =
    let w = turn_within (instance_mode c.args.instance.now) (plain_instance c.args.instance.now) c.args.numbers.now c.loop-begun.begun c.in-Violated.number c.requires.fits.0 _
    c.loop-begun-test.true c.requires.numbers c.in-Violated.is (c.in_ok-judgement.ensures c.requires.fits.0 c.requires.fits.1) in
    omega (arith, w.1, c.well_formed.1.1.0.1)

pub overflow_sub-begun : goal.overflow_sub-begun
overflow_sub-begun c =
    let w = turn_within (instance_mode c.args.instance.now) (plain_instance c.args.instance.now) c.args.numbers.now c.loop-begun.begun c.in-Violated.number c.requires.fits.0 _
    c.loop-begun-test.true c.requires.numbers c.in-Violated.is (c.in_ok-judgement.ensures c.requires.fits.0 c.requires.fits.1) in
    omega (arith, w.0)

pub bounds-numbers-begun : goal.bounds-numbers-begun
bounds-numbers-begun c =
    let w = turn_within (instance_mode c.args.instance.now) (plain_instance c.args.instance.now) c.args.numbers.now c.loop-begun.begun c.in-Violated.number c.requires.fits.0 _
    c.loop-begun-test.true c.requires.numbers c.in-Violated.is (c.in_ok-judgement.ensures c.requires.fits.0 c.requires.fits.1) in
    omega (arith, w.0, w.1)

pub offset_bounds-numbers-begun-in-Violated : goal.offset_bounds-numbers-begun-in-Violated
offset_bounds-numbers-begun-in-Violated c =
    let w = turn_within (instance_mode c.args.instance.now) (plain_instance c.args.instance.now) c.args.numbers.now c.loop-begun.begun c.in-Violated.number c.requires.fits.0 _
    c.loop-begun-test.true c.requires.numbers c.in-Violated.is (c.in_ok-judgement.ensures c.requires.fits.0 c.requires.fits.1) in
    omega (arith, w.0, w.1, c.well_formed.1.1.0.1)

pub loop-begun-smaller : goal.loop-begun-smaller
loop-begun-smaller c =
    let w = turn_within (instance_mode c.args.instance.now) (plain_instance c.args.instance.now) c.args.numbers.now c.loop-begun.begun c.in-Violated.number c.requires.fits.0 _
    c.loop-begun-test.true c.requires.numbers c.in-Violated.is (c.in_ok-judgement.ensures c.requires.fits.0 c.requires.fits.1) in
    omega (arith, w.0, w.1, c.loop-begun-test.true)

pub loop-begun-preserved : goal.loop-begun-preserved
loop-begun-preserved c =
    let w = turn_within (instance_mode c.args.instance.now) (plain_instance c.args.instance.now) c.args.numbers.now c.loop-begun.begun c.in-Violated.number c.requires.fits.0 _
    c.loop-begun-test.true c.requires.numbers c.in-Violated.is (c.in_ok-judgement.ensures c.requires.fits.0 c.requires.fits.1) in
    record {
      within = w.1;
      holds = λ found fits. turn_kept (instance_mode c.args.instance.now) (plain_instance c.args.instance.now) c.args.numbers.now _ _ c.loop-begun.begun c.in-Violated.number _ found _
          c.requires.numbers c.in-Violated.is (c.in_ok-judgement.ensures found fits) refl c.in_ok-push-in-Violated.ensures.items (c.loop-begun.invariant.holds found fits);
    }

pub returns-in-Solution : goal.returns-in-Solution
returns-in-Solution c = λ found fits.
    violated_rest (IsTrueAt (instance_mode c.args.instance.now) (plain_instance c.args.instance.now) found) c.args.numbers.now _ c.loop-begun.begun (c.loop-begun.invariant.holds found fits)
    (end_solved (instance_mode c.args.instance.now) (plain_instance c.args.instance.now) c.args.numbers.now c.loop-begun.begun found _ _ c.in-Solution.is (c.in_ok-judgement.ensures found fits))

pub returns-in-ObjectiveUndefined : goal.returns-in-ObjectiveUndefined
returns-in-ObjectiveUndefined c = λ found fits.
    violated_rest (IsTrueAt (instance_mode c.args.instance.now) (plain_instance c.args.instance.now) found) c.args.numbers.now _ c.loop-begun.begun (c.loop-begun.invariant.holds found fits)
    (end_undefined (instance_mode c.args.instance.now) (plain_instance c.args.instance.now) c.args.numbers.now c.loop-begun.begun found _ c.in-ObjectiveUndefined.is (c.in_ok-judgement.ensures found fits))

pub returns : goal.returns
returns c = λ found fits.
    violated_all (IsTrueAt (instance_mode c.args.instance.now) (plain_instance c.args.instance.now) found) c.args.numbers.now _ c.loop-begun.begun (omega (arith, c.loop-begun-test.false))
    (c.loop-begun.invariant.holds found fits)
