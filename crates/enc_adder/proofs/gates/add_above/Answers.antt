use Rattle.std.proofs.lemmas.Result.{on_ok_weaker}
use Rattle.enc_adder.proofs.GateSteps.{above_adds, above_rows_named}
use Rattle.enc_adder.proofs.gates.add_above.Goals as goal

pub add_rows-requires-clause-names : goal.add_rows-requires-clause-names
add_rows-requires-clause-names c = above_rows_named c.args.layout.now c.args.a c.args.b c.args.before c.args.above c.requires.a c.requires.b c.requires.before c.requires.above

pub returns : goal.returns
returns c =
    on_ok_weaker c.add_rows.result
    (above_adds c.args.layout.now c.args.f.now c.add_rows.new.f c.args.a c.args.b c.args.before c.args.above c.requires.ready.is_layout c.requires.a c.requires.b c.requires.before c.requires.above)
    c.add_rows.ensures
