use Rattle.std.proofs.Common.{arith}
use Rattle.std.proofs.lemmas.Int.{ints}
use Rattle.std.proofs.lemmas.Result.{on_ok_weaker}
use Rattle.enc_adder.proofs.Telling.{told_adds_as, truth_later}
use Rattle.enc_adder.proofs.Widening.{ready_later}
use Rattle.enc_adder.proofs.linear.add_linear.Goals as goal

pub add_told-requires-clause-ready : goal.add_told-requires-clause-ready
add_told-requires-clause-ready c = ready_later _ _ _ _ _ c.in_ok-place.ensures.widens

pub add_told-requires-clause-truth : goal.add_told-requires-clause-truth
add_told-requires-clause-truth c = truth_later c.args.layout.now c.told.new.layout c.args.truth c.in_ok-place.ensures.widens.goes_on.earlier c.requires.truth

pub returns : goal.returns
returns c =
    on_ok_weaker c.add_told.result
    (told_adds_as c.args.layout.now c.args.f.now c.told.new.layout c.told.new.f c.add_told.new.f c.args.truth c.args.parts.now c.args.op _ c.args.number c.in_ok-place.place c.requires.ready.is_layout c.requires.truth c.requires.parts c.in_ok-place.ensures (omega (arith, ints)))
    c.add_told.ensures
