use Rattle.std.proofs.Common.{ap, ◌∙◌, ◌∷◌, ◌++◌, [], List}
use Rattle.ep_base.specs.declared.run_lists.Run.{Run}
use Rattle.ep_instance_parts.proofs.ListedSteps.{within_run}
use Rattle.ep_instance_parts.proofs.opened.within.Goals as goal

pub returns : goal.returns
returns c =
    within_run c.in_ok-set.set _ c.args.run (c.in_ok-push.ensures.items ∙ ap (λ (l : List Run). l ++ c.args.run ∷ []) c.new-parts.ensures.items)
    c.in_ok-set.ensures.numbers
