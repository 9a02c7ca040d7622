use Rattle.std.proofs.Common.{◌≡◌, length, arith, rules, vec_len}
use Rattle.enc_adder.proofs.GateSteps.{made_sum}
use Rattle.enc_adder.proofs.Widening.{bit_later, made_at, made_many, new_bit_is}
use Rattle.enc_adder.proofs.gates.new_sum.Goals as goal

pub index-requires : goal.index-requires
index-requires c =
    let counted : vec_len c.in_ok-made.made ≡ length c.in_ok-made.made.items = search rules in
    let many = made_many c.in_ok-made.made.items (length c.args.layout.now) 2 c.in_ok-made.ensures.numbers in
    omega (arith, counted, many)

pub index-requires-2 : goal.index-requires-2
index-requires-2 c =
    let counted : vec_len c.in_ok-made.made ≡ length c.in_ok-made.made.items = search rules in
    let many = made_many c.in_ok-made.made.items (length c.args.layout.now) 2 c.in_ok-made.ensures.numbers in
    omega (arith, counted, many)

pub add_sum-requires-clause-a : goal.add_sum-requires-clause-a
add_sum-requires-clause-a c = bit_later c.args.layout.now c.new_truths.new.layout c.args.a c.in_ok-made.ensures.new.goes_on.earlier c.requires.a

pub add_sum-requires-clause-b : goal.add_sum-requires-clause-b
add_sum-requires-clause-b c = bit_later c.args.layout.now c.new_truths.new.layout c.args.b c.in_ok-made.ensures.new.goes_on.earlier c.requires.b

pub add_sum-requires-clause-c : goal.add_sum-requires-clause-c
add_sum-requires-clause-c c = bit_later c.args.layout.now c.new_truths.new.layout c.args.c c.in_ok-made.ensures.new.goes_on.earlier c.requires.c

pub add_sum-requires-clause-low : goal.add_sum-requires-clause-low
add_sum-requires-clause-low c =
    new_bit_is c.args.layout.now c.args.f.now c.new_truths.new.layout c.new_truths.new.f 2 0 c.index.result.now c.in_ok-made.ensures.new (omega arith)
    (made_at c.in_ok-made.made.items (length c.args.layout.now) 2 0 c.index.result.now c.in_ok-made.ensures.numbers (omega arith) c.index.ensures)

pub add_sum-requires-clause-high : goal.add_sum-requires-clause-high
add_sum-requires-clause-high c =
    new_bit_is c.args.layout.now c.args.f.now c.new_truths.new.layout c.new_truths.new.f 2 1 c.index-2.result.now c.in_ok-made.ensures.new (omega arith)
    (made_at c.in_ok-made.made.items (length c.args.layout.now) 2 1 c.index-2.result.now c.in_ok-made.ensures.numbers (omega arith) c.index-2.ensures)

pub returns : goal.returns
returns c =
    made_sum c.args.layout.now c.args.f.now c.new_truths.new.layout c.new_truths.new.f c.add_sum.new.f c.args.a c.args.b c.args.c c.index.result.now c.index-2.result.now c.requires.ready c.requires.a c.requires.b c.requires.c c.in_ok-made.ensures.new
    (made_at c.in_ok-made.made.items (length c.args.layout.now) 2 0 c.index.result.now c.in_ok-made.ensures.numbers (omega arith) c.index.ensures)
    (made_at c.in_ok-made.made.items (length c.args.layout.now) 2 1 c.index-2.result.now c.in_ok-made.ensures.numbers (omega arith) c.index-2.ensures)
    c.in_ok-add_sum.ensures
