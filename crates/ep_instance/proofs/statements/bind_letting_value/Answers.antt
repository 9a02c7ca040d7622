use Rattle.std.proofs.Common.{refl}
use Rattle.ep_tree.specs.Binding.{in_env, now_with}
use Rattle.ep_instance.specs.Progressing.{progress_of}
use Rattle.ep_instance.proofs.ProgressSteps.{answers_next}
use Rattle.ep_instance.proofs.statements.bind_letting_value.Goals as goal

pub returns-clause-progress : goal.returns-clause-progress
unfolding now_with in_env
returns-clause-progress c =
    let at = progress_of c.args.at.now in
    answers_next _ (λ env. now_with at (in_env at.instance env)) c.bind_value.result _ _ refl c.bind_value.ensures.known
