use Rattle.std.proofs.Common.{Bool, true, false, subst, sym, arith}
use Rattle.std.specs.List.{AllPairs}
use Rattle.std.proofs.lemmas.Int.{ints}
use Rattle.enc_linear.specs.Terms.{AreInOrder}
use Rattle.enc_linear.proofs.Ladders.{found_worth}
use Rattle.enc_linear.proofs.terms.step_worth.Goals as goal

pub rising_worth-requires : goal.rising_worth-requires
rising_worth-requires c = subst (AllPairs (AreInOrder true)) (sym c.deref.ensures.value) (subst (λ (b : Bool). AllPairs (AreInOrder b) c.args.term.now.steps.items) c.if-term.true c.requires)

pub falling_worth-requires : goal.falling_worth-requires
falling_worth-requires c = subst (AllPairs (AreInOrder false)) (sym c.deref-2.ensures.value) (subst (λ (b : Bool). AllPairs (AreInOrder b) c.args.term.now.steps.items) c.if-term.false c.requires)

pub returns-then-term : goal.returns-then-term
returns-then-term c = found_worth c.deref.result.now c.args.term.now.steps.items _ c.args.worth c.rising_worth.result c.deref.ensures.value (omega (arith, ints)) c.rising_worth.ensures

pub returns : goal.returns
returns c = found_worth c.deref-2.result.now c.args.term.now.steps.items _ c.args.worth c.falling_worth.result c.deref-2.ensures.value (omega (arith, ints)) c.falling_worth.ensures
