use Rattle.std.proofs.Common.{ap, sym, subst, ◌∙◌}
use Rattle.std.proofs.lemmas.Result.{err_from_is_err_and}
use Rattle.std.specs.Prelude.{Ok}
use Rattle.ep_eval.specs.Known.{env_of}
use Rattle.ep_tree.specs.Binding.{shape_of, undefined_at}
use Rattle.ep_tree.specs.Environments.{has_domain}
use Rattle.ep_tree.specs.Measures.{met_domain}
use Rattle.ep_tree.specs.Names.{put}
use Rattle.ep_tree.specs.Views.{domain_tree}
use Rattle.ep_instance_parts.proofs.Answering.{limit_refuses, refuses_undefined, then_is}
use Rattle.ep_instance_parts.proofs.ShapeSteps.{given_some}
use Rattle.ep_instance_parts.specs.Refusals.{text_name}
use Rattle.ep_instance.specs.Finding.{IsListedShape}
use Rattle.ep_instance.proofs.BindSteps.{named_by, named_limits, numbers_typed, stated_undefined, unnamed}
use Rattle.ep_instance.proofs.lettings.bind_domain.Goals as goal

pub returns-in_err-read-clause-known : goal.returns-in_err-read-clause-known
returns-in_err-read-clause-known c =
    let mode = c.args.env.now.mode in
    let env = env_of c.args.env.now in
    let p = err_from_is_err_and c.from_residual.result c.from_residual.ensures.1 in
    rw (p.1, p.2) (limit_refuses mode (met_domain mode env (domain_tree c.args.d.now)) _ _ c.in_err-read.ensures)

pub listed_from-requires : goal.listed_from-requires
listed_from-requires c = record { read = (_, _, c.in_ok-read.ensures) }

pub returns-in_default-clause-known : goal.returns-in_default-clause-known
returns-in_default-clause-known c =
    let mode = c.args.env.now.mode in
    let env = env_of c.args.env.now in
    let d = domain_tree c.args.d.now in
    let refusal = undefined_at (text_name c.args.text) c.args.place in
    refuses_undefined c.args.text c.args.place _
    (named_limits mode refusal env c.args.name.now d c.in_ok-read.ensures.counted.within
    ∙ stated_undefined _ _ _ (unnamed (shape_of mode env d) (subst (λ o. IsListedShape (shape_of mode env d) o) c.in_default.is c.in_ok-shape.ensures)))

pub name_domain-requires : goal.name_domain-requires
name_domain-requires c =
    let mode = c.args.env.now.mode in
    let env = env_of c.args.env.now in
    let d = domain_tree c.args.d.now in
    let k = subst (λ o. IsListedShape (shape_of mode env d) o) c.in-Some.is c.in_ok-shape.ensures in
    record { scalar = numbers_typed mode env d k.0 _ _ c.mode-mode.ensures.typed c.requires.faultless k.1 k.2 k.4 }

pub returns-clause-known : goal.returns-clause-known
returns-clause-known c =
    let mode = c.args.env.now.mode in
    let env = env_of c.args.env.now in
    let d = domain_tree c.args.d.now in
    let refusal = undefined_at (text_name c.args.text) c.args.place in
    let k = subst (λ o. IsListedShape (shape_of mode env d) o) c.in-Some.is c.in_ok-shape.ensures in
    then_is _ _ _ _ (named_limits mode refusal env c.args.name.now d c.in_ok-read.ensures.counted.within) (given_some refusal _ _ (named_by (shape_of mode env d) k.0 _ _ _ k.1 k.2 k.3 k.4))
    ∙ ap Ok (ap (λ n. put n (has_domain c.in-Some.shape.scalar c.in-Some.shape.indices.items c.in-Some.shape.values) env) (sym (c.in_ok-name.ensures.copied ∙ c.text.ensures.text)) ∙ sym c.in_ok-name_domain.ensures.known)
