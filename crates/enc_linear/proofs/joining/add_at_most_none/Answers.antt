use Rattle.std.proofs.Common.{◌+ℤ◌, arith}
use Rattle.std.proofs.lemmas.Int.{ints}
use Rattle.enc_linear.specs.Terms.{worth_of}
use Rattle.enc_linear.proofs.Summing.{reordered}
use Rattle.enc_linear.proofs.joining.add_at_most_none.Goals as goal

pub returns-then-sizes-2 : goal.returns-then-sizes-2
returns-then-sizes-2 c =
    let one = c.args.first.now in
    let two = c.args.second.now in
    let three = c.args.third.now in
    reordered c.add_three.result c.args.layout.now c.args.f.now c.add_three.new.f (λ vs. worth_of vs two +ℤ (worth_of vs three +ℤ worth_of vs one)) (λ vs. worth_of vs one +ℤ (worth_of vs two +ℤ worth_of vs three)) _
    c.requires.is_layout c.add_three.ensures (omega (arith, ints)) (λ values. omega (arith, ints))

pub returns-then-sizes-3 : goal.returns-then-sizes-3
returns-then-sizes-3 c =
    let one = c.args.first.now in
    let two = c.args.second.now in
    let three = c.args.third.now in
    reordered c.add_three-then-sizes-3.result c.args.layout.now c.args.f.now c.add_three-then-sizes-3.new.f (λ vs. worth_of vs one +ℤ (worth_of vs three +ℤ worth_of vs two)) (λ vs. worth_of vs one +ℤ (worth_of vs two +ℤ worth_of vs three)) _
    c.requires.is_layout c.add_three-then-sizes-3.ensures (omega (arith, ints)) (λ values. omega (arith, ints))

pub returns : goal.returns
returns c =
    let one = c.args.first.now in
    let two = c.args.second.now in
    let three = c.args.third.now in
    reordered c.add_three-2.result c.args.layout.now c.args.f.now c.add_three-2.new.f (λ vs. worth_of vs one +ℤ (worth_of vs two +ℤ worth_of vs three)) (λ vs. worth_of vs one +ℤ (worth_of vs two +ℤ worth_of vs three)) _
    c.requires.is_layout c.add_three-2.ensures (omega (arith, ints)) (λ values. omega (arith, ints))
