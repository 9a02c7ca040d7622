use Rattle.ep_unroll.proofs.Words.{ap, arith, sym, ◌∙◌, ◌∷◌, no_runs}
use Rattle.ep_unroll.proofs.choices.alone.Goals as goal

pub returns : goal.returns
returns c = record {
  later = c.in-Some.field-0-1.now;
  key = sym c.deref.ensures.value ∙ c.in-Some.ensures.cases.0
      ∙ ap (λ k. k ∷ c.in-Some.field-0-1.now) (sym c.numbers.ensures ∙ no_runs c.numbers.result.now (omega (arith, c.if-numbers-gt0.false)));
  term = sym c.deref-2.ensures.value ∙ c.in-Some-split_first.ensures.cases.0
      ∙ ap (λ l. c.in-Some-split_first.term.now ∷ l) (c.is_none.ensures.none c.if-not-is_none.false);
}
