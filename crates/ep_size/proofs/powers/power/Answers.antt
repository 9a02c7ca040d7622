use Rattle.ep_size.proofs.Words.{◌≡◌, Some, None, ap, sym, subst, ◌∙◌, w64, rules, to_z, of_z, to_z-of_z, power_interval, wide_span, Gives, interval_of, Stated}
use Rattle.ep_size.proofs.PowerParts.{gives_undefined, no_power, stated_is}
use Rattle.ep_size.proofs.powers.power.Goals as goal

pub returns-in-Some : goal.returns-in-Some
returns-in-Some c n b s told =
    let k = c.in-Some.stated in
    let word : to_z w64 (of_z w64 k) ≡ k = to_z-of_z w64 k (search rules) in
    let known : Some k ≡ n = stated_is c.args.exponent b s (Some k) n (c.in-Stated.is ∙ ap Stated c.in-Some.is) told in
    subst (λ m. Gives c.stated_power.result (wide_span (power_interval (interval_of c.args.x.reach) m))) (ap Some word ∙ known) c.stated_power.ensures

pub returns-in-None : goal.returns-in-None
returns-in-None c n b s told =
    let i = interval_of c.args.x.reach in
    let known : None ≡ n = stated_is c.args.exponent b s None n (c.in-Stated.is ∙ ap Stated c.in-None.is) told in
    gives_undefined c.wide_span.result i n c.wide_span.ensures (sym (ap (power_interval i) known) ∙ no_power i)
