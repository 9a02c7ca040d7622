use Rattle.enc_adder.proofs.Comparisons.{tells_at_least, tells_at_most, tells_equal, tells_greater, tells_less, tells_not_equal}
use Rattle.enc_adder.proofs.comparing.compared.Goals as goal

pub returns-in_ok-bit-in-Equal : goal.returns-in_ok-bit-in-Equal
returns-in_ok-bit-in-Equal c = tells_equal c.args.layout.now c.args.f.now c.equal.new.layout c.equal.new.f c.args.one.now c.args.other.now c.in_ok-bit-in-Equal.bit c.args.op c.in-Equal.is c.in_ok-bit-in-Equal.ensures

pub returns-in_ok-bit-in-NotEqual : goal.returns-in_ok-bit-in-NotEqual
returns-in_ok-bit-in-NotEqual c = tells_not_equal c.args.layout.now c.args.f.now c.equal-in-NotEqual.new.layout c.equal-in-NotEqual.new.f c.args.one.now c.args.other.now c.in_ok-bit-in-NotEqual.bit c.args.op c.in-NotEqual.is c.in_ok-bit-in-NotEqual.ensures

pub returns-in_ok-bit-in-Less : goal.returns-in_ok-bit-in-Less
returns-in_ok-bit-in-Less c = tells_less c.args.layout.now c.args.f.now c.greater.new.layout c.greater.new.f c.args.one.now c.args.other.now c.in_ok-bit-in-Less.bit c.args.op c.in-Less.is c.in_ok-bit-in-Less.ensures

pub returns-in_ok-bit-in-AtMost : goal.returns-in_ok-bit-in-AtMost
returns-in_ok-bit-in-AtMost c = tells_at_most c.args.layout.now c.args.f.now c.greater-in-AtMost.new.layout c.greater-in-AtMost.new.f c.args.one.now c.args.other.now c.in_ok-bit-in-AtMost.bit c.args.op c.in-AtMost.is c.in_ok-bit-in-AtMost.ensures

pub returns-in_ok-bit-in-Greater : goal.returns-in_ok-bit-in-Greater
returns-in_ok-bit-in-Greater c = tells_greater c.args.layout.now c.args.f.now c.greater-in-Greater.new.layout c.greater-in-Greater.new.f c.args.one.now c.args.other.now c.in_ok-bit-in-Greater.bit c.args.op c.in-Greater.is c.in_ok-bit-in-Greater.ensures

pub returns-in_ok-bit-in-AtLeast : goal.returns-in_ok-bit-in-AtLeast
returns-in_ok-bit-in-AtLeast c = tells_at_least c.args.layout.now c.args.f.now c.greater-in-AtLeast.new.layout c.greater-in-AtLeast.new.f c.args.one.now c.args.other.now c.in_ok-bit-in-AtLeast.bit c.args.op c.in-AtLeast.is c.in_ok-bit-in-AtLeast.ensures
