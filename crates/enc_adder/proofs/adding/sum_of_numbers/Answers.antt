use Rattle.std.proofs.Common.{subst, sym}
use Rattle.enc_adder.proofs.Queues.{first_is, none_left, nothing_left, one_left, queue_begun, rest_is, two_added}
use Rattle.enc_adder.proofs.Widening.{constant_later, ready_later}
use Rattle.enc_adder.specs.Bits.{AreBits}
use Rattle.enc_adder.proofs.adding.sum_of_numbers.Goals as goal

pub pairs-init : goal.pairs-init
pairs-init c = queue_begun c.args.layout.now c.args.f.now c.args.numbers.items c.in_ok-queue.queue.items c.requires.ready c.requires.numbers c.in_ok-queue.ensures

pub added-requires-clause-ready : goal.added-requires-clause-ready
added-requires-clause-ready c = ready_later _ _ _ _ _ c.pairs.invariant.widens

pub added-requires-clause-zero : goal.added-requires-clause-zero
added-requires-clause-zero c = constant_later c.args.layout.now c.pairs.layout c.args.zero _ c.pairs.invariant.widens.goes_on.earlier c.requires.zero

pub added-requires-clause-one : goal.added-requires-clause-one
added-requires-clause-one c =
    subst (AreBits c.pairs.layout) (sym c.deref.ensures.value) (first_is c.pairs.layout c.pairs.queue.items c.pop_front.new.self.items c.in-Some.one c.in-Some.ensures.items c.pairs.invariant.are_numbers)

pub added-requires-clause-other : goal.added-requires-clause-other
added-requires-clause-other c =
    subst (AreBits c.pairs.layout) (sym c.deref-in-Some.ensures.value)
    (first_is c.pairs.layout c.pop_front.new.self.items c.pop_front-in-Some.new.self.items c.in-Some-pop_front.other c.in-Some-pop_front.ensures.items
    (rest_is c.pairs.layout c.pairs.queue.items c.pop_front.new.self.items c.in-Some.one c.in-Some.ensures.items c.pairs.invariant.are_numbers))

pub pairs-preserved : goal.pairs-preserved
pairs-preserved c =
    two_added c.args.layout.now c.args.f.now c.pairs.layout c.pairs.f c.added.new.layout c.added.new.f c.args.numbers.items c.pairs.queue.items c.pop_front.new.self.items c.pop_front-in-Some.new.self.items c.push_back.new.self.items c.in-Some.one c.in-Some-pop_front.other c.in_ok-sum.sum
    c.deref.result.now c.deref-in-Some.result.now c.requires.numbers c.pairs.invariant c.in-Some.ensures.items c.in-Some-pop_front.ensures.items c.deref.ensures.value c.deref-in-Some.ensures.value c.in_ok-sum.ensures c.in_ok-push_back.ensures.items

pub returns-in_default-pop_front : goal.returns-in_default-pop_front
returns-in_default-pop_front c =
    one_left c.args.layout.now c.args.f.now c.pairs.layout c.pairs.f c.args.numbers.items c.pairs.queue.items c.pop_front.new.self.items c.in-Some.one c.pairs.invariant c.in-Some.ensures.items
    (nothing_left c.pop_front.new.self.items c.pop_front-in-Some.new.self.items c.in_default-pop_front.ensures.items c.in_default-pop_front.ensures.rest)

pub returns : goal.returns
returns c = none_left c.args.layout.now c.args.f.now c.pairs.layout c.pairs.f c.args.numbers.items c.pairs.queue.items c.new.result.items c.pairs.invariant
    (nothing_left c.pairs.queue.items c.pop_front.new.self.items c.in_default.ensures.items c.in_default.ensures.rest) c.new.ensures.items
