use Rattle.ep_size.proofs.Words.{◌≡◌, ℕ, ap, subst, ◌∙◌, None, index_at, domain_values, index_values, met_domain, measured_indices, domain_tree, index_values-none, index_values-some, met_index-none, met_index-some, env_in, mode_in, Told}
use Rattle.ep_size.proofs.IndexParts.{indices_unstated}
use Rattle.ep_size.proofs.MeterSteps.{told_as, told_none}
use Rattle.ep_size.proofs.indices.index_numbers.Goals as goal

pub returns-in_ok-numbers-in-Some : goal.returns-in_ok-numbers-in-Some
returns-in_ok-numbers-in-Some c =
    let mode = mode_in c.args.scope in
    let env = env_in c.args.scope in
    let stated = c.in-Some.stated in
    subst (λ ms. Told mode c.args.totals.now c.fixed_numbers.new.totals ms
    ((count : ℕ) → measured_indices c.in_ok-numbers-in-Some.numbers count ≡ measured_indices (index_values mode env (index_at c.args.domain.now) count) count))
    (ap (λ d. met_domain mode env (domain_tree d)) c.deref.ensures ∙ met_index-some mode env c.args.domain.now stated c.in-Some.is)
    (told_as mode c.args.totals.now c.fixed_numbers.new.totals _ c.in_ok-numbers-in-Some.ensures
    (λ is count. ap (λ set. measured_indices set count)
    (is ∙ ap (λ d. domain_values mode env (domain_tree d)) c.deref.ensures ∙ index_values-some mode env c.args.domain.now stated count c.in-Some.is)))

pub returns-in-None : goal.returns-in-None
returns-in-None c =
    let mode = mode_in c.args.scope in
    let env = env_in c.args.scope in
    subst (λ ms. Told mode c.args.totals.now c.args.totals.now ms
    ((count : ℕ) → measured_indices None count ≡ measured_indices (index_values mode env (index_at c.args.domain.now) count) count))
    (met_index-none mode env c.args.domain.now c.in-None.is)
    (told_none mode c.args.totals.now (λ count. indices_unstated count ∙ ap (λ set. measured_indices set count) (index_values-none mode env c.args.domain.now count c.in-None.is)))
