use Rattle.std.proofs.Common.{◌≡◌, [], ap, sym, subst, map, false, true}
use Rattle.ep_eval.specs.Known.{env_of}
use Rattle.ep_tree.specs.Binding.{in_env, now_with}
use Rattle.ep_tree.specs.Environments.{context_of}
use Rattle.ep_tree.specs.Faults.{group_faults}
use Rattle.ep_tree.specs.Views.{group_of}
use Rattle.ep_instance.specs.Progressing.{given_progress, progress_of}
use Rattle.ep_instance.proofs.ProgressSteps.{answers_next}
use Rattle.ep_instance.proofs.statements.bind_given.Goals as goal

pub bind_givens-requires : goal.bind_givens-requires
bind_givens-requires c =
    let env = env_of c.args.at.now.env in
    record { faultless = subst (λ xs. group_faults (context_of env) false true (map group_of xs) ≡ []) (sym c.deref.ensures.value) c.requires.faultless }

pub returns-clause-progress : goal.returns-clause-progress
unfolding now_with in_env
returns-clause-progress c =
    let at = progress_of c.args.at.now in
    let mode = c.args.at.now.env.mode in
    answers_next _ (λ env. now_with at (in_env at.instance env)) c.bind_givens.result _ _
    (ap (λ xs. given_progress mode (env_of c.args.params.now) at c.args.place (map group_of xs)) (sym c.deref.ensures.value)) c.bind_givens.ensures.known
