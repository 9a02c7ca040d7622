use Rattle.std.proofs.Common.{IsTrue, arith}
use Rattle.std.proofs.lemmas.Int.{ints}
use Rattle.ep_base.specs.declared.operators.CompareOp.{CompareOp}
use Rattle.ep_base.specs.Numbers.{compare_holds}
use Rattle.enc_linear.specs.Terms.{total}
use Rattle.enc_linear.proofs.Arising.{terms_later}
use Rattle.enc_linear.proofs.Totals.{both_compared, equal_is}
use Rattle.enc_linear.proofs.comparing.add_equal.Goals as goal

pub add_at_most-requires-2-clause-terms : goal.add_at_most-requires-2-clause-terms
add_at_most-requires-2-clause-terms c = terms_later c.args.layout.now c.args.f.now c.args.layout.now c.add_at_most.new.f c.args.mirrors.now c.in_ok-add_at_most.ensures.goes_on c.requires.mirrors

pub returns : goal.returns
returns c =
    both_compared c.add_at_most-2.result c.args.layout.now c.args.f.now c.add_at_most.new.f c.add_at_most-2.new.f c.args.guards.now (λ values. total values c.args.terms.now) (λ values. total values c.args.mirrors.now) _ _
    (λ values. IsTrue (compare_holds CompareOp.Equal (total values c.args.terms.now) c.args.number)) c.requires.is_layout c.in_ok-add_at_most.ensures c.add_at_most-2.ensures
    (λ values. equal_is (total values c.args.terms.now) (total values c.args.mirrors.now) c.args.number _ _ (c.requires.opposite values) (omega (arith, ints, c.from-most.ensures)) (omega (arith, ints, c.from-most.ensures)))
