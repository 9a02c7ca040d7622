use Rattle.ep_unroll.proofs.Words.{subst, IsSome, All, term_value}
use Rattle.ep_unroll.proofs.choices.can_be_safe.Goals as goal

pub returns : goal.returns
returns c h = record {
  some = c.is_none.ensures.some c.if-is_none.false;
  none = c.is_none-2.ensures.none c.if-not-is_none.false;
  terms = λ numbers few. subst (All (λ t. IsSome (term_value c.args.arena.now numbers t))) c.deref.ensures.value (c.are_total.ensures c.if-not-are_total.false numbers few);
  indices = λ numbers few. c.are_total-2.ensures h numbers few;
}
