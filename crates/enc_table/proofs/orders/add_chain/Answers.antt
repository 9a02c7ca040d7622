use Rattle.std.proofs.Common.{arith}
use Rattle.std.proofs.lemmas.Result.{on_ok_weaker}
use Rattle.enc_table.proofs.Links.{chain_whole}
use Rattle.enc_table.proofs.orders.add_chain.Goals as goal

pub add_is-requires-clause-there : goal.add_is-requires-clause-there
add_is-requires-clause-there c = c.requires.links 0 0 (omega arith)

pub add_end-requires-clause-last : goal.add_end-requires-clause-last
add_end-requires-clause-last c = c.requires.links c.args.count 0 (omega arith)

pub returns : goal.returns
returns c =
    on_ok_weaker c.add_end.result
    (chain_whole c.args.layout.now c.args.f.now c.add_is.new.f c.add_steps.new.f c.add_end.new.f c.args.guard.now c.args.strict c.args.xs.now c.args.ys.now c.args.links.now c.args.count c.requires.ready.is_layout
    c.in_ok-add_is.ensures c.in_ok-add_steps.ensures)
    c.add_end.ensures
