use Rattle.std.proofs.Common.{true, ap, sym, refl, ◌∙◌}
use Rattle.std.proofs.lemmas.Result.{err_from_is_err_and}
use Rattle.ep_eval.specs.Known.{env_of}
use Rattle.ep_tree.specs.Binding.{bind_names, model_text, undefined_at}
use Rattle.ep_tree.specs.Views.{domain_tree}
use Rattle.ep_instance_parts.proofs.Answering.{answers_same, refuses_first, then_is}
use Rattle.ep_instance.proofs.BindSteps.{fits_typed, group_cut, group_domain_faultless, said_shape}
use Rattle.ep_instance.proofs.givens.bind_group.Goals as goal

pub returns-in_err-shape-clause-known : goal.returns-in_err-shape-clause-known
returns-in_err-shape-clause-known c =
    let p = err_from_is_err_and c.from_residual.result c.from_residual.ensures.1 in
    rw (p.1, p.2)
    (refuses_first _ _ _ _ (group_cut c.args.env.now.mode c.args.place (env_of c.args.params.now) c.args.group.now c.args.group.now.names.items (env_of c.args.env.now) refl) c.in_err-shape.ensures)

pub returns-in_err-check_names-clause-known : goal.returns-in_err-check_names-clause-known
returns-in_err-check_names-clause-known c =
    let p = err_from_is_err_and c.from_residual-in_err-check_names.result c.from_residual-in_err-check_names.ensures.1 in
    rw (p.1, p.2)
    (refuses_first _ _ _ _
    (then_is _ _ _ _ (group_cut c.args.env.now.mode c.args.place (env_of c.args.params.now) c.args.group.now c.deref.result.now (env_of c.args.env.now) c.deref.ensures.value) c.in_ok-shape.ensures.1)
    c.in_err-check_names.ensures)

pub bind_names-requires : goal.bind_names-requires
bind_names-requires c =
    let env = env_of c.args.env.now in
    let d = domain_tree c.args.group.now.domain in
    record {
      typed = record {
        shape = c.in_ok-shape.ensures.0;
        same = c.in_ok-shape.ensures.2;
        typed =
            fits_typed c.args.env.now.mode env true d c.in_ok-shape.ensures.0 c.mode-mode.ensures.typed (group_domain_faultless env c.args.group.now c.requires.faultless)
            (said_shape c.args.env.now.mode (undefined_at model_text c.args.place) env d c.in_ok-shape.ensures.0 c.in_ok-shape.ensures.1);
      };
    }

pub returns-clause-known : goal.returns-clause-known
returns-clause-known c =
    answers_same _ c.bind_names.result _ _
    (then_is _ _ _ _
    (then_is _ _ _ _ (group_cut c.args.env.now.mode c.args.place (env_of c.args.params.now) c.args.group.now c.deref.result.now (env_of c.args.env.now) c.deref.ensures.value) c.in_ok-shape.ensures.1)
    c.in_ok-check_names.ensures
    ∙ ap (λ xs. bind_names (env_of c.args.params.now) c.in_ok-shape.ensures.0 xs (env_of c.args.env.now)) (sym (c.deref-2.ensures.value ∙ sym c.deref.ensures.value)))
    (c.bind_names.ensures.known c.in_ok-shape.ensures.0 c.in_ok-shape.ensures.2)
