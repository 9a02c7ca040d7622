use Rattle.ep_size.proofs.Words.{subst, sym, refl, ◌∙◌, Ok, farthest_end, absolute_of, is_too_far, binary_span, wide_span, plain_span, Gives}
use Rattle.ep_size.proofs.forms.binary_span.Goals as goal

pub returns-in-Mul : goal.returns-in-Mul
unfolding binary_span
returns-in-Mul c n b s told =
    subst (λ o. Gives c.product_span.result (binary_span o (plain_span c.args.one) (plain_span c.args.other) n)) (sym c.in-Mul.is) c.product_span.ensures

pub returns-in-Div : goal.returns-in-Div
unfolding binary_span
returns-in-Div c n b s told =
    subst (λ o. Gives c.wide.result (binary_span o (plain_span c.args.one) (plain_span c.args.other) n)) (sym c.in-Div.is)
    (subst (λ i. Gives c.wide.result (wide_span i)) (c.quotient.ensures) c.wide.ensures)

pub returns-in-Mod : goal.returns-in-Mod
unfolding binary_span
returns-in-Mod c n b s told =
    subst (λ o. Gives c.wide-in-Mod.result (binary_span o (plain_span c.args.one) (plain_span c.args.other) n)) (sym c.in-Mod.is)
    (subst (λ i. Gives c.wide-in-Mod.result (wide_span i)) (c.remainder.ensures) c.wide-in-Mod.ensures)

pub returns-in-Min : goal.returns-in-Min
unfolding binary_span
returns-in-Min c n b s told =
    subst (λ o. Gives c.wide-in-Min.result (binary_span o (plain_span c.args.one) (plain_span c.args.other) n)) (sym c.in-Min.is)
    (subst (λ i. Gives c.wide-in-Min.result (wide_span i)) (c.widened.ensures ∙ c.least.ensures) c.wide-in-Min.ensures)

pub returns-in-Max : goal.returns-in-Max
unfolding binary_span
returns-in-Max c n b s told =
    subst (λ o. Gives c.wide-in-Max.result (binary_span o (plain_span c.args.one) (plain_span c.args.other) n)) (sym c.in-Max.is)
    (subst (λ i. Gives c.wide-in-Max.result (wide_span i)) (c.widened-in-Max.ensures ∙ c.greatest.ensures) c.wide-in-Max.ensures)

pub returns-in-Implies : goal.returns-in-Implies
unfolding binary_span is_too_far farthest_end absolute_of
returns-in-Implies c n b s told =
    subst (λ o. Gives (Ok c.truth_span.result) (binary_span o (plain_span c.args.one) (plain_span c.args.other) n)) (sym c.in-Implies.is) (c.truth_span.ensures, refl)

pub returns-in-Iff : goal.returns-in-Iff
unfolding binary_span is_too_far farthest_end absolute_of
returns-in-Iff c n b s told =
    subst (λ o. Gives (Ok c.truth_span-in-Iff.result) (binary_span o (plain_span c.args.one) (plain_span c.args.other) n)) (sym c.in-Iff.is) (c.truth_span-in-Iff.ensures, refl)

pub returns-in-Pow : goal.returns-in-Pow
unfolding binary_span
returns-in-Pow c n b s told =
    subst (λ o. Gives c.power.result (binary_span o (plain_span c.args.one) (plain_span c.args.other) n)) (sym c.in-Pow.is) (c.power.ensures n b s told)
