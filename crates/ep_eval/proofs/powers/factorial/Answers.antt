use Rattle.ep_eval.proofs.Words.{pos, sym, ap, ◌∙◌, w64, arith, rules, int_lt, ints, to_z-of_z, number_in, seen_held}
use Rattle.ep_eval.proofs.Products.{factorial_undefined, factorial_value}
use Rattle.ep_eval.proofs.powers.factorial.Goals as goal

pub returns-then-number-lt0 : goal.returns-then-number-lt0
returns-then-number-lt0 c =
    factorial_undefined c.in-Some.number (number_in (seen_held c.args.seen.now)) (sym c.number_of.ensures ∙ c.in-Some.is)
    (ap (λ e. int_lt e (pos 0)) (sym (to_z-of_z w64 c.in-Some.number (search rules))) ∙ c.if-number-lt0.true)

pub returns-else-number-lt0 : goal.returns-else-number-lt0
returns-else-number-lt0 c =
    factorial_value c.in-Some.number _ (number_in (seen_held c.args.seen.now)) c.product_to.result c.product_to.ensures (sym c.number_of.ensures ∙ c.in-Some.is)
    (omega (arith, ints, c.if-number-lt0.false))
