use Rattle.std.proofs.Common.{ap, sym, ◌∙◌, option_map, refl}
use Rattle.ep_eval.specs.Bounds.{domain_of}
use Rattle.ep_eval.specs.Known.{env_of}
use Rattle.ep_instance_parts.proofs.ListedSteps.{named_opened, named_unopened}
use Rattle.ep_instance_parts.proofs.opened.opened_name.Goals as goal

pub returns-in_ok-kept-in-Some : goal.returns-in_ok-kept-in-Some
returns-in_ok-kept-in-Some c =
    named_opened (env_of c.args.env.now c.args.name.now) _ _ _ _
    (ap (option_map (λ d. domain_of d.now)) (sym c.in-Some.is) ∙ c.domain.ensures)
    c.in_ok-kept-in-Some.ensures.indices c.in_ok-kept-in-Some.ensures.elements

pub returns-in-None : goal.returns-in-None
returns-in-None c =
    named_unopened (env_of c.args.env.now c.args.name.now) _
    (ap (option_map (λ d. domain_of d.now)) (sym c.in-None.is) ∙ c.domain.ensures)
    refl refl
