use Rattle.ep_unroll.proofs.Words.{◌≡◌, ◌+◌, ◌*◌, ◌∙◌, pos, ap, arith, get_or, refl, of_z, to_z, w64, ints, to_z-of_z, Run}
use Rattle.ep_unroll.proofs.RunParts.{run_met, run_none, run_passed}
use Rattle.ep_unroll.specs.Blocks.{cell_of}
use Rattle.ep_unroll.proofs.blocks.part_cell.Goals as goal

pub loop-run-init : goal.loop-run-init
loop-run-init c = ap (λ l. cell_of c.args.first c.args.each l (to_z w64 (of_z w64 c.args.index))) c.runs-run-items.ensures.numbers

pub loop-run-preserved : goal.loop-run-preserved
loop-run-preserved c =
    let runs = c.runs-run-items.result.now in
    let k = c.loop-run.run-index in
    let d : Run = record { lo = pos 0; hi = pos 0 } in
    let run : Run = get_or runs k d in
    run_passed c.args.first c.args.each c.args.own.now runs k d run c.loop-run.cell c.in_ok-more.more (to_z w64 (of_z w64 c.args.index)) c.loop-run-test.true refl
    (c.runs-run-items.ensures.apart.filled k d c.loop-run-test.true) (c.place_in.ensures.none c.in_default.is)
    (c.in_ok-more.ensures.value ∙ ap (λ n. c.loop-run.cell + n * c.args.each) c.run_length.ensures.length) c.loop-run.invariant

pub returns-in-Some : goal.returns-in-Some
returns-in-Some c =
    let index : to_z w64 (of_z w64 c.args.index) ≡ c.args.index = to_z-of_z w64 c.args.index (omega (arith, ints)) in
    let runs = c.runs-run-items.result.now in
    let k = c.loop-run.run-index in
    let d : Run = record { lo = pos 0; hi = pos 0 } in
    let run : Run = get_or runs k d in
    run_met c.args.first c.args.each c.args.own.now runs k d run c.loop-run.cell c.in_ok-found.found c.in-Some.place (to_z w64 (of_z w64 c.args.index)) c.loop-run-test.true refl
    c.in-Some.ensures.some.0 c.in-Some.ensures.some.1 c.in_ok-found.ensures.value c.loop-run.invariant
    ∙ ap (cell_of c.args.first c.args.each c.args.own.now) index

pub returns : goal.returns
returns c =
    let index : to_z w64 (of_z w64 c.args.index) ≡ c.args.index = to_z-of_z w64 c.args.index (omega (arith, ints)) in
    run_none c.args.first c.args.each c.args.own.now c.runs-run-items.result.now c.loop-run.run-index c.loop-run.cell (to_z w64 (of_z w64 c.args.index)) c.loop-run-test.false c.loop-run.invariant
    ∙ ap (cell_of c.args.first c.args.each c.args.own.now) index
