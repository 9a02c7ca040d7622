use Rattle.std.proofs.lemmas.Result.{on_ok_weaker}
use Rattle.enc_adder.proofs.GateSteps.{sum_adds, sum_rows_named}
use Rattle.enc_adder.proofs.gates.add_sum.Goals as goal

pub add_rows-requires-clause-names : goal.add_rows-requires-clause-names
add_rows-requires-clause-names c = sum_rows_named c.args.layout.now c.args.a c.args.b c.args.c c.args.low c.args.high c.requires.a c.requires.b c.requires.c c.requires.low c.requires.high

pub returns : goal.returns
returns c =
    on_ok_weaker c.add_rows.result
    (sum_adds c.args.layout.now c.args.f.now c.add_rows.new.f c.args.a c.args.b c.args.c c.args.low c.args.high c.requires.ready.is_layout c.requires.a c.requires.b c.requires.c c.requires.low c.requires.high)
    c.add_rows.ensures
