use Rattle.std.proofs.Common.{◌∙◌}
use Rattle.opb_text.specs.Views.{plain_opb}
use Rattle.opb_text.proofs.Measures.{counted, weighs, weighs_more}
use Rattle.opb_text.proofs.measure.measure_opb.Goals as goal

pub returns-then-weight-gt-MOST_WEIGHT-clause-over : goal.returns-then-weight-gt-MOST_WEIGHT-clause-over
returns-then-weight-gt-MOST_WEIGHT-clause-over c = λ e.
    let more = weighs_more (plain_opb c.args.opb.now) c.in_ok-vars.vars.items c.len.result c.weight_of-weight.result c.in_ok-vars.ensures (c.len.ensures ∙ counted c.in_ok-vars.vars) c.weight_of-weight.ensures c.if-weight-gt-MOST_WEIGHT.true in
    (c.is_within_reach.ensures.0 c.if-not-is_within_reach.false, more.0, more.1, more.2)

pub returns : goal.returns
returns c =
    let reach = c.is_within_reach.ensures.0 c.if-not-is_within_reach.false in
    record {
      weight = (reach, weighs (plain_opb c.args.opb.now) c.in_ok-vars.vars.items c.len.result c.weight_of-weight.result c.in_ok-vars.ensures (c.len.ensures ∙ counted c.in_ok-vars.vars) c.weight_of-weight.ensures c.if-weight-gt-MOST_WEIGHT.false, c.if-weight-gt-MOST_WEIGHT.false);
      reach = (λ e. absurd cc, λ far. absurd (far reach));
      over = λ e. absurd cc;
      size = λ e. absurd cc;
    }
