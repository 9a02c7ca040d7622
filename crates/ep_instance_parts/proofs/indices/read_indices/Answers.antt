use Rattle.std.proofs.Common.{◌≡◌, ◌∙◌, ◌+◌, ◌∷◌, ℕ, ℤ, List, Some, drop, ap, subst, sym, option_map}
use Rattle.std.proofs.lemmas.List.{drop_all, drop_more}
use Rattle.std.proofs.lemmas.Result.{err_from_is_err_and}
use Rattle.ep_eval.specs.Known.{env_of}
use Rattle.ep_tree.specs.Views.{domain_tree}
use Rattle.ep_tree.specs.declared.syntax.Domain.{Domain}
use Rattle.ep_instance_parts.proofs.IndexSteps.{IndicesSoFar, indices_begin, indices_cause, indices_counted, indices_listed, indices_more}
use Rattle.ep_instance_parts.proofs.LimitSteps.{domain_counted}
use Rattle.ep_instance_parts.proofs.indices.read_indices.Goals as goal

pub loop-domain-init : goal.loop-domain-init
loop-domain-init c =
    subst
    (λ (sets : List (List ℤ)). IndicesSoFar c.args.env.now.mode (env_of c.args.env.now) c.args.before c.args.domains.now c.args.domains.now (Some sets) c.args.before)
    (sym c.new.ensures.items)
    (indices_begin c.args.env.now.mode (env_of c.args.env.now) c.args.before c.args.domains.now c.requires)

pub loop-domain-preserved : goal.loop-domain-preserved
loop-domain-preserved c =
    let all : List Domain = c.args.domains.now in
    let k : ℕ = c.loop-domain.domain-index in
    let domain : Domain = c.domain-item.result in
    let cut : drop k all ≡ domain ∷ drop (k + 1) all =
    drop_more all k domain c.loop-domain-test.true ∙ ap (λ d. d ∷ drop (k + 1) all) (sym c.domain-item.is) in
    let told = domain_counted c.args.env.now.mode c.loop-domain.count c.in_ok-set.after (env_of c.args.env.now) (domain_tree domain) c.in_ok-set.set
    c.in_ok-set.ensures.values in
    indices_more c.args.env.now.mode (env_of c.args.env.now) c.args.before c.loop-domain.count c.in_ok-set.after all domain (drop (k + 1) all) _ _ c.in_ok-set.set
    (subst
    (λ (left : List Domain).
    IndicesSoFar c.args.env.now.mode (env_of c.args.env.now) c.args.before all left (option_map (λ v. v.items) c.loop-domain.sets) c.loop-domain.count)
    cut c.loop-domain.invariant)
    told.0 told.1 c.in_ok-sets.ensures

pub returns-in_err-set-clause-cause : goal.returns-in_err-set-clause-cause
returns-in_err-set-clause-cause c =
    let all : List Domain = c.args.domains.now in
    let k : ℕ = c.loop-domain.domain-index in
    let domain : Domain = c.domain-item.result in
    let cut : drop k all ≡ domain ∷ drop (k + 1) all =
    drop_more all k domain c.loop-domain-test.true ∙ ap (λ d. d ∷ drop (k + 1) all) (sym c.domain-item.is) in
    let p = err_from_is_err_and c.from_residual.result c.from_residual.ensures.1 in
    rw (p.1, p.2)
    (indices_cause c.args.env.now.mode (env_of c.args.env.now) c.args.before c.loop-domain.count all domain (drop (k + 1) all) _ _
    (subst
    (λ (left : List Domain).
    IndicesSoFar c.args.env.now.mode (env_of c.args.env.now) c.args.before all left (option_map (λ v. v.items) c.loop-domain.sets) c.loop-domain.count)
    cut c.loop-domain.invariant)
    c.in_err-set.ensures.cause)

pub returns-clause-indices : goal.returns-clause-indices
returns-clause-indices c =
    let all : List Domain = c.args.domains.now in
    indices_listed c.args.env.now.mode (env_of c.args.env.now) c.args.before c.loop-domain.count all (option_map (λ v. v.items) c.loop-domain.sets)
    (subst
    (λ (left : List Domain).
    IndicesSoFar c.args.env.now.mode (env_of c.args.env.now) c.args.before all left (option_map (λ v. v.items) c.loop-domain.sets) c.loop-domain.count)
    (drop_all c.loop-domain.domain-index all c.loop-domain-test.false) c.loop-domain.invariant)

pub returns-clause-counted : goal.returns-clause-counted
returns-clause-counted c =
    let all : List Domain = c.args.domains.now in
    indices_counted c.args.env.now.mode (env_of c.args.env.now) c.args.before c.loop-domain.count all (option_map (λ v. v.items) c.loop-domain.sets)
    (subst
    (λ (left : List Domain).
    IndicesSoFar c.args.env.now.mode (env_of c.args.env.now) c.args.before all left (option_map (λ v. v.items) c.loop-domain.sets) c.loop-domain.count)
    (drop_all c.loop-domain.domain-index all c.loop-domain-test.false) c.loop-domain.invariant)
