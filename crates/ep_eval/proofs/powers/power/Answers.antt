use Rattle.ep_eval.proofs.Words.{pos, sym, ap, ◌∙◌, w64, arith, rules, int_lt, ints, to_z-of_z}
use Rattle.ep_eval.proofs.Products.{power_undefined, power_value}
use Rattle.ep_eval.proofs.powers.power.Goals as goal

pub returns : goal.returns
returns c =
    power_value c.args.base _ c.args.exponent c.seen_near.result _ (c.seen_near.ensures _ c.nth_power.ensures.same c.nth_power.ensures.told)
    (to_z-of_z w64 c.args.base (search rules)) (omega (arith, ints, c.if-exponent-lt0.false, c.ranges.exponent))

pub returns-then-exponent-lt0 : goal.returns-then-exponent-lt0
returns-then-exponent-lt0 c =
    power_undefined c.args.base c.args.exponent (ap (λ e. int_lt e (pos 0)) (sym (to_z-of_z w64 c.args.exponent (search rules))) ∙ c.if-exponent-lt0.true)
