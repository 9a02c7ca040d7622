use Rattle.std.proofs.Common.{Bool, true, false, subst, sym, arith}
use Rattle.std.specs.List.{AllPairs}
use Rattle.std.proofs.lemmas.Int.{ints}
use Rattle.enc_linear.specs.Terms.{AreInOrder}
use Rattle.enc_linear.proofs.Ladders.{found_says_ok}
use Rattle.enc_linear.proofs.terms.up_to.Goals as goal

pub rising_up_to-requires : goal.rising_up_to-requires
rising_up_to-requires c = subst (AllPairs (AreInOrder true)) (sym c.deref.ensures.value) (subst (λ (b : Bool). AllPairs (AreInOrder b) c.args.term.now.steps.items) c.if-term.true c.requires)

pub falling_up_to-requires : goal.falling_up_to-requires
falling_up_to-requires c = subst (AllPairs (AreInOrder false)) (sym c.deref-2.ensures.value) (subst (λ (b : Bool). AllPairs (AreInOrder b) c.args.term.now.steps.items) c.if-term.false c.requires)

pub returns-then-term : goal.returns-then-term
returns-then-term c = found_says_ok c.args.term.now.source c.deref.result.now c.args.term.now.steps.items c.args.most _ c.rising_up_to.result c.deref.ensures.value (omega (arith, ints)) c.rising_up_to.ensures

pub returns : goal.returns
returns c = found_says_ok c.args.term.now.source c.deref-2.result.now c.args.term.now.steps.items c.args.most _ c.falling_up_to.result c.deref-2.ensures.value (omega (arith, ints)) c.falling_up_to.ensures
