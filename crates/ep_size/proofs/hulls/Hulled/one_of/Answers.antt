use Rattle.ep_size.proofs.Words.{subst, ap, ◌∙◌, wide_span, Gives}
use Rattle.ep_size.proofs.HullSteps.{bool_read, int_read}
use Rattle.ep_size.proofs.hulls.Hulled.one_of.Goals as goal

pub returns-in-Bool : goal.returns-in-Bool
returns-in-Bool c spans h = bool_read spans c.args.scalar c.truth_span.result c.in-Bool.is c.truth_span.ensures

pub returns-in-Int : goal.returns-in-Int
returns-in-Int c spans h =
    subst (λ s. Gives c.wide.result s) (ap wide_span c.widened.ensures ∙ int_read c.args.self spans c.args.scalar c.in-Int.is h) c.wide.ensures
