use Rattle.std.proofs.Common.{◌≡◌, ◌*ℤ◌, ◌≤ℤ◌, ℤ, FitsSigned, refl, subst, arith, to_z, of_z, w64}
use Rattle.std.specs.Int.{w128}
use Rattle.std.specs.List.{All}
use Rattle.std.proofs.lemmas.Int.{ints, to_z-of_z}
use Rattle.enc_var.specs.Layouts.{literals_at}
use Rattle.enc_adder.proofs.Products.{product_is, words_fit}
use Rattle.enc_adder.proofs.SideSums.{on_left, on_right}
use Rattle.enc_adder.proofs.Widening.{constants_later}
use Rattle.enc_adder.proofs.sides.add_part.Goals as goal

pub overflow_mul-shift : goal.overflow_mul-shift
overflow_mul-shift c =
    words_fit (to_z w128 (of_z w128 c.from-size.result)) (to_z w128 (of_z w128 c.from.result)) (omega (arith, ints, c.from-size.ensures)) (omega (arith, ints, c.from.ensures))

pub part-requires-clause-zero : goal.part-requires-clause-zero
part-requires-clause-zero c = c.requires.constants.zero_is

pub part-requires-clause-least : goal.part-requires-clause-least
part-requires-clause-least c = subst (λ l. All (λ v. l ≤ℤ v) (literals_at c.args.layout.now c.args.var).domain) (omega (arith, ints)) c.least_of-least.ensures

pub part-requires-clause-size : goal.part-requires-clause-size
part-requires-clause-size c = (omega (arith, ints, c.from-size.ensures), omega (arith, ints, c.from-size.ensures))

pub part-requires-else-size-lt0-clause-zero : goal.part-requires-else-size-lt0-clause-zero
part-requires-else-size-lt0-clause-zero c = c.requires.constants.zero_is

pub part-requires-else-size-lt0-clause-least : goal.part-requires-else-size-lt0-clause-least
part-requires-else-size-lt0-clause-least c = subst (λ l. All (λ v. l ≤ℤ v) (literals_at c.args.layout.now c.args.var).domain) (omega (arith, ints)) c.least_of-least.ensures

pub part-requires-else-size-lt0-clause-size : goal.part-requires-else-size-lt0-clause-size
part-requires-else-size-lt0-clause-size c = (omega (arith, ints, c.from-size.ensures), omega (arith, ints, c.from-size.ensures))

pub returns-in_ok-push : goal.returns-in_ok-push
returns-in_ok-push c =
    let a : ℤ = c.args.coefficient in
    let x : ℤ = to_z w128 (of_z w128 c.from-size.result) in
    let y : ℤ = to_z w128 (of_z w128 c.from.result) in
    let fits : FitsSigned w128 (x *ℤ y) = words_fit x y (omega (arith, ints, c.from-size.ensures)) (omega (arith, ints, c.from.ensures)) in
    let shift : to_z w128 (of_z w128 (x *ℤ y)) ≡ a *ℤ to_z w64 (of_z w64 c.least_of-least.result) =
    product_is _ x y a _ (to_z-of_z w128 (x *ℤ y) fits) (omega (arith, ints, c.from-size.ensures)) (omega (arith, ints, c.from.ensures)) in
    let moves = c.in_ok-add_rest.ensures c.args.layout.now c.requires.constants in
    let later = c.in_ok-add_rest.ensures c.part.new.layout (constants_later c.args.layout.now c.part.new.layout c.args.c c.in_ok-number.ensures.widens.goes_on.earlier c.requires.constants) in
    on_right c.args.layout.now c.args.f.now c.part.new.layout c.part.new.f c.args.sides.now c.add_rest.new.sides _ c.in_ok-number.number a _ _ _ c.args.var (moves.left c.requires.left) (moves.right c.requires.right) later c.in_ok-number.ensures
    (omega (arith, ints, c.from-size.ensures)) shift c.in_ok-push.ensures.items refl refl

pub returns-in_ok-push-2 : goal.returns-in_ok-push-2
returns-in_ok-push-2 c =
    let a : ℤ = c.args.coefficient in
    let x : ℤ = to_z w128 (of_z w128 c.from-size.result) in
    let y : ℤ = to_z w128 (of_z w128 c.from.result) in
    let fits : FitsSigned w128 (x *ℤ y) = words_fit x y (omega (arith, ints, c.from-size.ensures)) (omega (arith, ints, c.from.ensures)) in
    let shift : to_z w128 (of_z w128 (x *ℤ y)) ≡ a *ℤ to_z w64 (of_z w64 c.least_of-least.result) =
    product_is _ x y a _ (to_z-of_z w128 (x *ℤ y) fits) (omega (arith, ints, c.from-size.ensures)) (omega (arith, ints, c.from.ensures)) in
    let moves = c.in_ok-add_rest.ensures c.args.layout.now c.requires.constants in
    let later = c.in_ok-add_rest.ensures c.part-else-size-lt0.new.layout (constants_later c.args.layout.now c.part-else-size-lt0.new.layout c.args.c c.in_ok-number-2.ensures.widens.goes_on.earlier c.requires.constants) in
    on_left c.args.layout.now c.args.f.now c.part-else-size-lt0.new.layout c.part-else-size-lt0.new.f c.args.sides.now c.add_rest.new.sides _ c.in_ok-number-2.number a _ _ _ c.args.var (moves.left c.requires.left) (moves.right c.requires.right) later c.in_ok-number-2.ensures
    (omega (arith, ints, c.from-size.ensures)) shift c.in_ok-push-2.ensures.items refl refl
