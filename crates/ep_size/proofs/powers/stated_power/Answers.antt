use Rattle.ep_size.proofs.Words.{ap, sym, ◌∙◌, pos, Some, w64, rules, arith, int_lt, ints, to_z-of_z, interval_of}
use Rattle.ep_size.proofs.PowerParts.{gives_undefined, negative_power, positive_power}
use Rattle.ep_size.proofs.powers.stated_power.Goals as goal

pub returns-then-exponent-lt0 : goal.returns-then-exponent-lt0
returns-then-exponent-lt0 c =
    gives_undefined c.wide_span.result (interval_of c.args.x) (Some c.args.exponent) c.wide_span.ensures
    (negative_power (interval_of c.args.x) c.args.exponent
    (ap (λ e. int_lt e (pos 0)) (sym (to_z-of_z w64 c.args.exponent (search rules))) ∙ c.if-exponent-lt0.true))

pub returns : goal.returns
returns c =
    positive_power c.power_span.result (interval_of c.args.x) c.args.exponent _ c.power_span.ensures
    (omega (arith, ints, c.if-exponent-lt0.false, c.ranges.exponent))
