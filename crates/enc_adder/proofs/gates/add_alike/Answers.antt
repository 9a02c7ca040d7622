use Rattle.std.proofs.lemmas.Result.{on_ok_weaker}
use Rattle.enc_adder.proofs.GateSteps.{alike_adds, alike_rows_named}
use Rattle.enc_adder.proofs.gates.add_alike.Goals as goal

pub add_rows-requires-clause-names : goal.add_rows-requires-clause-names
add_rows-requires-clause-names c = alike_rows_named c.args.layout.now c.args.a c.args.b c.args.before c.args.alike c.requires.a c.requires.b c.requires.before c.requires.alike

pub returns : goal.returns
returns c =
    on_ok_weaker c.add_rows.result
    (alike_adds c.args.layout.now c.args.f.now c.add_rows.new.f c.args.a c.args.b c.args.before c.args.alike c.requires.ready.is_layout c.requires.a c.requires.b c.requires.before c.requires.alike)
    c.add_rows.ensures
