use Rattle.std.proofs.Common.{◌≡◌, ◌∙◌, length, arith, rules, vec_len}
use Rattle.enc_adder.proofs.Widening.{made_at, made_many}
use Rattle.enc_adder.proofs.gates.new_bit.Goals as goal

pub index-requires : goal.index-requires
index-requires c =
    let counted : vec_len c.in_ok-made.made ≡ length c.in_ok-made.made.items = search rules in
    let many = made_many c.in_ok-made.made.items (length c.args.layout.now) 1 c.in_ok-made.ensures.numbers in
    omega (arith, counted, many)

pub returns-clause-number : goal.returns-clause-number
returns-clause-number c =
    made_at c.in_ok-made.made.items (length c.args.layout.now) 1 0 c.index.result.now c.in_ok-made.ensures.numbers (omega arith) c.index.ensures ∙ omega arith
