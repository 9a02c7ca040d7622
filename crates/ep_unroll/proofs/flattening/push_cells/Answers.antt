use Rattle.ep_unroll.proofs.Words.{◌+◌, [], arith, ap, all_there, AreTerms, worth, cells_value, cells_from}
use Rattle.ep_unroll.proofs.FlatSteps.{cells_cut, cells_end, cells_first, cells_left, flat_begins, flat_cell, flat_ends, flat_more}
use Rattle.ep_unroll.proofs.flattening.push_cells.Goals as goal

pub loop-passed-init : goal.loop-passed-init
loop-passed-init c =
    flat_begins c.args.parts.now.items [] (λ nodes numbers. all_there (cells_from numbers c.args.first c.args.count)) (λ nodes numbers. cells_left c.args.first c.args.count 0 numbers)
    (λ nodes numbers. cells_first c.args.first c.args.count numbers)

pub loop-passed-preserved : goal.loop-passed-preserved
unfolding worth AreTerms
loop-passed-preserved c =
    let first = c.args.first in
    let count = c.args.count in
    let passed = c.loop-passed.passed in
    flat_more c.args.parts.now.items c.loop-passed.parts.items c.push.new.self.items [] (λ nodes numbers. all_there (cells_from numbers first count))
    (λ nodes numbers. cells_left first count passed numbers) _ (λ nodes numbers. cells_left first count (passed + 1) numbers) c.loop-passed.invariant
    (λ nodes numbers. cells_cut first count passed numbers c.loop-passed-test.true)
    (flat_cell c.loop-passed.parts.items c.push.new.self.items _ c.in-Some.cell first passed (omega (arith, c.in-Some.ensures)) c.in_ok-push.ensures.items (λ m. tt)
    (λ nodes numbers. ap (λ ds. cells_value numbers ds c.in-Some.cell) c.requires))

pub returns : goal.returns
returns c =
    flat_ends c.args.parts.now.items c.loop-passed.parts.items [] (λ nodes numbers. all_there (cells_from numbers c.args.first c.args.count)) (λ nodes numbers. cells_left c.args.first c.args.count c.loop-passed.passed numbers)
    c.loop-passed.invariant (λ nodes numbers. cells_end c.args.first c.args.count c.loop-passed.passed numbers c.loop-passed-test.false)
