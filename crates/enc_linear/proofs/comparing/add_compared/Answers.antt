use Rattle.std.proofs.Common.{IsTrue, arith}
use Rattle.std.proofs.lemmas.Int.{ints}
use Rattle.ep_base.specs.declared.operators.CompareOp.{CompareOp}
use Rattle.ep_base.specs.Numbers.{compare_holds}
use Rattle.enc_linear.specs.Terms.{total}
use Rattle.enc_linear.proofs.Totals.{at_least_is, at_most_is, by_op, compared_said, equal_said, greater_is, less_is, other_compared, other_is}
use Rattle.enc_linear.proofs.comparing.add_compared.Goals as goal

pub returns-in-AtMost : goal.returns-in-AtMost
returns-in-AtMost c =
    compared_said c.add_at_most.result c.args.layout.now c.args.f.now c.args.layout.now c.add_at_most.new.f c.args.guards.now (λ values. total values c.args.terms.now) _
    (λ values. IsTrue (compare_holds c.args.op (total values c.args.terms.now) c.args.number)) c.requires.is_layout c.add_at_most.ensures
    (λ values. by_op c.args.op CompareOp.AtMost _ (total values c.args.terms.now) c.args.number c.in-AtMost.is (at_most_is (total values c.args.terms.now) c.args.number _ (omega (arith, ints, c.from-most.ensures))))

pub returns-in-Less : goal.returns-in-Less
returns-in-Less c =
    compared_said c.add_at_most-in-Less.result c.args.layout.now c.args.f.now c.args.layout.now c.add_at_most-in-Less.new.f c.args.guards.now (λ values. total values c.args.terms.now) _
    (λ values. IsTrue (compare_holds c.args.op (total values c.args.terms.now) c.args.number)) c.requires.is_layout c.add_at_most-in-Less.ensures
    (λ values. by_op c.args.op CompareOp.Less _ (total values c.args.terms.now) c.args.number c.in-Less.is (less_is (total values c.args.terms.now) c.args.number _ (omega (arith, ints, c.from-most.ensures))))

pub returns-in-AtLeast : goal.returns-in-AtLeast
returns-in-AtLeast c =
    compared_said c.add_at_most-in-AtLeast.result c.args.layout.now c.args.f.now c.args.layout.now c.add_at_most-in-AtLeast.new.f c.args.guards.now (λ values. total values c.args.mirrors.now) _
    (λ values. IsTrue (compare_holds c.args.op (total values c.args.terms.now) c.args.number)) c.requires.is_layout c.add_at_most-in-AtLeast.ensures
    (λ values. by_op c.args.op CompareOp.AtLeast _ (total values c.args.terms.now) c.args.number c.in-AtLeast.is (at_least_is (total values c.args.terms.now) (total values c.args.mirrors.now) c.args.number _ (c.requires.opposite values) (omega (arith, ints, c.from-most.ensures))))

pub returns-in-Greater : goal.returns-in-Greater
returns-in-Greater c =
    compared_said c.add_at_most-in-Greater.result c.args.layout.now c.args.f.now c.args.layout.now c.add_at_most-in-Greater.new.f c.args.guards.now (λ values. total values c.args.mirrors.now) _
    (λ values. IsTrue (compare_holds c.args.op (total values c.args.terms.now) c.args.number)) c.requires.is_layout c.add_at_most-in-Greater.ensures
    (λ values. by_op c.args.op CompareOp.Greater _ (total values c.args.terms.now) c.args.number c.in-Greater.is (greater_is (total values c.args.terms.now) (total values c.args.mirrors.now) c.args.number _ (c.requires.opposite values) (omega (arith, ints, c.from-most.ensures))))

pub returns-in-NotEqual : goal.returns-in-NotEqual
returns-in-NotEqual c =
    other_compared c.add_other.result c.args.layout.now c.args.f.now c.args.layout.now c.add_other.new.f c.args.guards.now (λ values. total values c.args.terms.now) _
    (λ values. IsTrue (compare_holds c.args.op (total values c.args.terms.now) c.args.number)) c.requires.is_layout c.add_other.ensures
    (λ values. by_op c.args.op CompareOp.NotEqual _ (total values c.args.terms.now) c.args.number c.in-NotEqual.is (other_is (total values c.args.terms.now) c.args.number _ (omega (arith, ints, c.from-most.ensures))))

pub returns-in-Equal : goal.returns-in-Equal
returns-in-Equal c =
    equal_said c.add_equal.result c.args.layout.now c.args.f.now c.args.layout.now c.add_equal.new.f c.args.guards.now (λ values. total values c.args.terms.now) c.args.op _ c.args.number c.requires.is_layout c.add_equal.ensures (omega (arith, ints, c.from-most.ensures)) c.in-Equal.is
