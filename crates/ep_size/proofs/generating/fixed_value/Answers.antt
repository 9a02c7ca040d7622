use Rattle.ep_size.proofs.Words.{ap, sym, ◌∙◌, decisions_in, met, expr_tree, env_in, mode_in, hidden_without}
use Rattle.ep_size.proofs.FixedParts.{fixed_told}
use Rattle.ep_size.proofs.FreeParts.{free_met, same_below}
use Rattle.ep_size.proofs.generating.fixed_value.Goals as goal

pub returns-then-own : goal.returns-then-own
unfolding hidden_without
returns-then-own c =
    let mode = mode_in c.args.scope in
    let env = env_in c.args.scope in
    let e = expr_tree c.args.e.now in
    fixed_told mode c.args.totals.now c.value_of.new.meter (met mode env e) c.limits_are_of_values.ensures.limits
    (free_met mode env (decisions_in env) (same_below (decisions_in env)) e (ap (λ s. s.free) (sym c.standing_in-own.ensures) ∙ c.if-own.true)) c.in_ok-seen.ensures
