use Rattle.ep_size.proofs.Words.{ap, sym, ◌∙◌, arith, pos, ints, int_lt, nat_abs, wide_length}
use Rattle.ep_size.proofs.Caps.{run_many, run_none, run_some}
use Rattle.ep_size.proofs.cells.run_length.Goals as goal

pub returns-then-count-lt0 : goal.returns-then-count-lt0
returns-then-count-lt0 c =
    let run = c.args.run in
    let long = wide_length run.hi run.lo c.from.result c.from-2.result (omega (arith, ints)) (omega (arith, ints)) c.from.ensures c.from-2.ensures in
    run_none run (ap (λ x. int_lt x (pos 0)) (sym long) ∙ c.if-count-lt0.true)

pub returns-then-count-gt20000001 : goal.returns-then-count-gt20000001
returns-then-count-gt20000001 c =
    let run = c.args.run in
    let long = wide_length run.hi run.lo c.from.result c.from-2.result (omega (arith, ints)) (omega (arith, ints)) c.from.ensures c.from-2.ensures in
    run_many run (ap (int_lt (pos 20000001)) (sym long) ∙ c.if-count-gt20000001.true)

pub returns : goal.returns
returns c =
    let run = c.args.run in
    let long = wide_length run.hi run.lo c.from.result c.from-2.result (omega (arith, ints)) (omega (arith, ints)) c.from.ensures c.from-2.ensures in
    ap nat_abs long
    ∙ run_some run (ap (λ x. int_lt x (pos 0)) (sym long) ∙ c.if-count-lt0.false) (ap (int_lt (pos 20000001)) (sym long) ∙ c.if-count-gt20000001.false)
