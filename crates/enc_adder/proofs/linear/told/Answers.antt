use Rattle.std.proofs.Common.{length, sym, subst, arith}
use Rattle.std.proofs.lemmas.Int.{ints}
use Rattle.std.proofs.lemmas.Result.{IfOk-weaker}
use Rattle.ep_base.specs.Numbers.{compare_holds}
use Rattle.enc_adder.specs.Bits.{AreBits, spelled}
use Rattle.enc_adder.specs.Comparing.{Tells}
use Rattle.enc_adder.specs.Parts.{sum_of_parts}
use Rattle.enc_adder.proofs.SideSums.{parts_below}
use Rattle.enc_adder.proofs.Telling.{left_summed, leveled, right_summed, sides_tell}
use Rattle.enc_adder.proofs.Widening.{bits_later, constants_later, front_later, no_longer, numbers_later, ready_later}
use Rattle.enc_adder.proofs.linear.told.Goals as goal

pub sides_of-requires-clause-ready : goal.sides_of-requires-clause-ready
sides_of-requires-clause-ready c = ready_later _ _ _ _ _ c.in_ok-c.ensures.widens

pub sides_of-requires-clause-parts : goal.sides_of-requires-clause-parts
sides_of-requires-clause-parts c = parts_below (length c.args.layout.now) (length c.new_constants.new.layout) c.args.parts.now (no_longer c.args.layout.now c.new_constants.new.layout c.in_ok-c.ensures.widens.goes_on.earlier) c.requires.parts

pub sum_of_numbers-requires-clause-ready : goal.sum_of_numbers-requires-clause-ready
sum_of_numbers-requires-clause-ready c = ready_later _ _ _ _ _ c.in_ok-sides.ensures.widens

pub sum_of_numbers-requires-clause-zero : goal.sum_of_numbers-requires-clause-zero
sum_of_numbers-requires-clause-zero c = (constants_later c.new_constants.new.layout c.sides_of.new.layout c.in_ok-c.c c.in_ok-sides.ensures.widens.goes_on.earlier c.in_ok-c.ensures.constants_are).zero_is

pub sum_of_numbers-requires-clause-numbers : goal.sum_of_numbers-requires-clause-numbers
sum_of_numbers-requires-clause-numbers c =
    (c.in_ok-level.ensures c.sides_of.new.layout (constants_later c.new_constants.new.layout c.sides_of.new.layout c.in_ok-c.c c.in_ok-sides.ensures.widens.goes_on.earlier c.in_ok-c.ensures.constants_are)).left c.in_ok-sides.ensures.left

pub sum_of_numbers-requires-2-clause-ready : goal.sum_of_numbers-requires-2-clause-ready
sum_of_numbers-requires-2-clause-ready c = ready_later _ _ _ _ _ c.in_ok-left.ensures.widens

pub sum_of_numbers-requires-2-clause-zero : goal.sum_of_numbers-requires-2-clause-zero
sum_of_numbers-requires-2-clause-zero c =
    (constants_later c.new_constants.new.layout c.sum_of_numbers.new.layout c.in_ok-c.c (front_later _ _ _ _ _ _ _ _ c.in_ok-sides.ensures.widens c.in_ok-left.ensures.widens) c.in_ok-c.ensures.constants_are).zero_is

pub sum_of_numbers-requires-2-clause-numbers : goal.sum_of_numbers-requires-2-clause-numbers
sum_of_numbers-requires-2-clause-numbers c =
    numbers_later c.sides_of.new.layout c.sum_of_numbers.new.layout _ c.in_ok-left.ensures.widens.goes_on.earlier
    ((c.in_ok-level.ensures c.sides_of.new.layout (constants_later c.new_constants.new.layout c.sides_of.new.layout c.in_ok-c.c c.in_ok-sides.ensures.widens.goes_on.earlier c.in_ok-c.ensures.constants_are)).right c.in_ok-sides.ensures.right)

pub compared-requires-clause-ready : goal.compared-requires-clause-ready
compared-requires-clause-ready c = ready_later _ _ _ _ _ c.in_ok-right.ensures.widens

pub compared-requires-clause-constants : goal.compared-requires-clause-constants
compared-requires-clause-constants c =
    constants_later c.sum_of_numbers.new.layout c.sum_of_numbers-2.new.layout c.in_ok-c.c c.in_ok-right.ensures.widens.goes_on.earlier
    (constants_later c.new_constants.new.layout c.sum_of_numbers.new.layout c.in_ok-c.c (front_later _ _ _ _ _ _ _ _ c.in_ok-sides.ensures.widens c.in_ok-left.ensures.widens) c.in_ok-c.ensures.constants_are)

pub compared-requires-clause-one : goal.compared-requires-clause-one
compared-requires-clause-one c =
    subst (AreBits c.sum_of_numbers-2.new.layout) (sym c.deref.ensures.value) (bits_later c.sum_of_numbers.new.layout c.sum_of_numbers-2.new.layout c.in_ok-left.left.bits.items c.in_ok-right.ensures.widens.goes_on.earlier c.in_ok-left.ensures.are_bits)

pub compared-requires-clause-other : goal.compared-requires-clause-other
compared-requires-clause-other c = subst (AreBits c.sum_of_numbers-2.new.layout) (sym c.deref-2.ensures.value) c.in_ok-right.ensures.are_bits

pub returns : goal.returns
returns c =
    let L = c.args.layout.now in
    let f = c.args.f.now in
    let L1 = c.new_constants.new.layout in
    let f1 = c.new_constants.new.f in
    let L2 = c.sides_of.new.layout in
    let f2 = c.sides_of.new.f in
    let L3 = c.sum_of_numbers.new.layout in
    let f3 = c.sum_of_numbers.new.f in
    let L4 = c.sum_of_numbers-2.new.layout in
    let f4 = c.sum_of_numbers-2.new.f in
    let ps = c.args.parts.now in
    let left = c.in_ok-left.left.bits.items in
    let right = c.in_ok-right.right.bits.items in
    let lefts = c.level.new.sides.left.items in
    let rights = c.level.new.sides.right.items in
    let levels = c.in_ok-level.ensures L2 (constants_later L1 L2 c.in_ok-c.c c.in_ok-sides.ensures.widens.goes_on.earlier c.in_ok-c.ensures.constants_are) in
    let of_left = levels.left c.in_ok-sides.ensures.left in
    let of_right = levels.right c.in_ok-sides.ensures.right in
    let second = leveled L f L1 f1 L2 f2 c.in_ok-sides.sides c.level.new.sides ps _ c.in_ok-c.ensures.widens c.in_ok-sides.ensures levels in
    let third = left_summed L f L2 f2 L3 f3 lefts rights left ps _ c.requires.parts of_left of_right second c.in_ok-left.ensures in
    let fourth = right_summed L f L3 f3 L4 f4 left rights right ps _ c.requires.parts c.in_ok-left.ensures.are_bits (numbers_later L2 L3 rights c.in_ok-left.ensures.widens.goes_on.earlier of_right) third c.in_ok-right.ensures in
    IfOk-weaker c.compared.result (Tells L4 f4 c.compared.new.layout c.compared.new.f (λ values. compare_holds c.args.op (spelled values c.deref.result.now) (spelled values c.deref-2.result.now)))
    (Tells L f c.compared.new.layout c.compared.new.f (λ values. compare_holds c.args.op (sum_of_parts values ps) c.args.number))
    (λ place tells. sides_tell L f L4 f4 c.compared.new.layout c.compared.new.f left right c.deref.result.now c.deref-2.result.now ps c.args.op _ c.args.number place c.requires.parts
    (bits_later L3 L4 left c.in_ok-right.ensures.widens.goes_on.earlier c.in_ok-left.ensures.are_bits) c.in_ok-right.ensures.are_bits fourth c.deref.ensures.value c.deref-2.ensures.value tells (omega (arith, ints)))
    c.compared.ensures
