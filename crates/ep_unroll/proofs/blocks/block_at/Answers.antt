use Rattle.ep_unroll.proofs.Words.{◌≡◌, ap, sym, ◌∙◌, arith, of_z, to_z, w64, ints, to_z-of_z, option_map, no_runs, block_under}
use Rattle.ep_unroll.proofs.PartSteps.{block_is, no_block}
use Rattle.ep_unroll.proofs.blocks.block_at.Goals as goal

pub returns-in-None : goal.returns-in-None
returns-in-None c = no_block c.args.block.first c.args.block.domains.now c.args.index (no_runs c.args.block.domains.now c.in-None.ensures.cases)

pub returns-in-Some-cell : goal.returns-in-Some-cell
returns-in-Some-cell c =
    let index : to_z w64 (of_z w64 c.args.index) ≡ c.args.index = to_z-of_z w64 c.args.index (omega (arith, ints)) in
    ap (option_map (λ k. (k, c.in-Some.inner.now))) (sym c.in-Some-cell.is)
    ∙ block_is c.args.block.first c.in_ok-each-in-Some.each c.args.block.domains.now c.in-Some.own.now c.in-Some.inner.now (to_z w64 (of_z w64 c.args.index)) c.in_ok-cell-in-Some.cell c.in-Some.ensures.cases.0
    c.in_ok-each-in-Some.ensures c.in_ok-cell-in-Some.ensures ∙ ap (block_under c.args.block.first c.args.block.domains.now) index

pub returns-in-None-cell : goal.returns-in-None-cell
returns-in-None-cell c =
    let index : to_z w64 (of_z w64 c.args.index) ≡ c.args.index = to_z-of_z w64 c.args.index (omega (arith, ints)) in
    ap (option_map (λ k. (k, c.in-Some.inner.now))) (sym c.in-None-cell.is)
    ∙ block_is c.args.block.first c.in_ok-each-in-Some.each c.args.block.domains.now c.in-Some.own.now c.in-Some.inner.now (to_z w64 (of_z w64 c.args.index)) c.in_ok-cell-in-Some.cell c.in-Some.ensures.cases.0
    c.in_ok-each-in-Some.ensures c.in_ok-cell-in-Some.ensures ∙ ap (block_under c.args.block.first c.args.block.domains.now) index
