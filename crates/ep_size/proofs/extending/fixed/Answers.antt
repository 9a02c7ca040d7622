use Rattle.ep_size.proofs.Words.{met, decisions_in, expr_tree, env_in, mode_in}
use Rattle.ep_size.proofs.FixedParts.{fixed_told, metering}
use Rattle.ep_size.proofs.FreeParts.{free_holds, free_met, same_below}
use Rattle.ep_size.proofs.MeterSteps.{told_as}
use Rattle.ep_size.proofs.extending.fixed.Goals as goal

pub returns : goal.returns
returns c =
    let mode = mode_in c.args.scope in
    let env = env_in c.args.scope in
    let e = expr_tree c.args.e.now in
    let free = decisions_in env in
    told_as mode c.args.totals.now (metering c.args.totals.now c.value_of.new.meter) (met mode env e)
    (fixed_told mode c.args.totals.now c.value_of.new.meter (met mode env e) c.limits_are_of_values.ensures.limits (free_met mode env free (same_below free) e c.requires) c.in_ok-seen.ensures)
    (λ value. c.in_ok-known.ensures mode (free_holds free free (same_below free) e c.requires) value)
