-- Matrix domains by the domains in them.
use Rattle.ep_eval.proofs.Words.{◌≡◌, List, [], ◌∷◌, ◌++◌, refl, ap, ◌∙◌, Env, met_domain, met_domains, domain_tree, domains_of, Domain, Mode, Going, Told, Meter}
use Rattle.ep_eval.proofs.MeterSteps.{going_begins, going_ends, going_more, joins}

-- some domains are evaluated, and others are left
abbrev pub DomainsSoFar : Mode → Env → Meter → Meter → List Domain → List Domain → Type 0
DomainsSoFar mode env start now all left = Going mode start now (met_domains mode env (domains_of all)) (met_domains mode env (domains_of left)) (Unit {0})

pub domains_begin : (mode : Mode) (env : Env) (start : Meter) (all : List Domain) → DomainsSoFar mode env start start all all
domains_begin mode env start all = going_begins (joins mode) start _ _ refl tt

met_cons : (mode : Mode) (env : Env) (d : Domain) (rest : List Domain) → met_domains mode env (domains_of (d ∷ rest)) ≡ met_domain mode env (domain_tree d) ++ met_domains mode env (domains_of rest)
unfolding met_domains domains_of
met_cons mode env d rest = refl

pub domains_more : {P : Type 0} (mode : Mode) (env : Env) (start now after : Meter) (all left : List Domain) (d : Domain) (rest : List Domain)
    → DomainsSoFar mode env start now all left → left ≡ d ∷ rest → Told mode now after (met_domain mode env (domain_tree d)) P → DomainsSoFar mode env start after all rest
domains_more mode env start now after all left d rest g cut told =
    going_more (joins mode) start now after _ _ (met_domain mode env (domain_tree d)) _ g (ap (λ l. met_domains mode env (domains_of l)) cut ∙ met_cons mode env d rest) told (λ known other. tt)

no_domains_left : (mode : Mode) (env : Env) (left : List Domain) → left ≡ [] → met_domains mode env (domains_of left) ≡ []
unfolding met_domains domains_of
no_domains_left mode env left none = ap (λ l. met_domains mode env (domains_of l)) none

pub domains_end : (mode : Mode) (env : Env) (start now : Meter) (all left : List Domain)
    → DomainsSoFar mode env start now all left → left ≡ [] → Told mode start now (met_domains mode env (domains_of all)) (Unit {0})
domains_end mode env start now all left g none = going_ends start now _ _ g (no_domains_left mode env left none) (λ known. tt)
