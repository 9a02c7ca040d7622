use Rattle.enc_adder.proofs.GateSteps.{first_alone, second_alone, third_alone}
use Rattle.enc_adder.proofs.gates.summed.Goals as goal

pub returns-then-c-zero : goal.returns-then-c-zero
returns-then-c-zero c = first_alone c.args.layout.now c.args.f.now c.args.a c.args.b c.args.c c.args.zero c.requires.ready c.requires.zero c.requires.a c.if-b-zero.true c.if-c-zero.true

pub returns-then-c-zero-2 : goal.returns-then-c-zero-2
returns-then-c-zero-2 c = second_alone c.args.layout.now c.args.f.now c.args.a c.args.b c.args.c c.args.zero c.requires.ready c.requires.zero c.requires.b c.if-a-zero.true c.if-c-zero-2.true

pub returns-then-b-zero-2 : goal.returns-then-b-zero-2
returns-then-b-zero-2 c = third_alone c.args.layout.now c.args.f.now c.args.a c.args.b c.args.c c.args.zero c.requires.ready c.requires.zero c.requires.c c.if-a-zero-2.true c.if-b-zero-2.true
