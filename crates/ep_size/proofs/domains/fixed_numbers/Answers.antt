use Rattle.ep_size.proofs.Words.{sym, ◌∙◌, met_domain, decisions_in, domain_tree, env_in, mode_in, hidden_without}
use Rattle.ep_size.proofs.FixedParts.{fixed_told}
use Rattle.ep_size.proofs.FreeParts.{free_domain_met, same_below}
use Rattle.ep_size.proofs.domains.fixed_numbers.Goals as goal

pub returns-then-fixed : goal.returns-then-fixed
unfolding hidden_without
returns-then-fixed c =
    let mode = mode_in c.args.scope in
    let env = env_in c.args.scope in
    let d = domain_tree c.args.d.now in
    fixed_told mode c.args.totals.now c.numbers_of.new.meter (met_domain mode env d) c.limits_are_of_values.ensures.limits
    (free_domain_met mode env (decisions_in env) (same_below (decisions_in env)) d (sym c.is_free_domain-fixed.ensures ∙ c.if-fixed.true)) c.in_ok-numbers.ensures
