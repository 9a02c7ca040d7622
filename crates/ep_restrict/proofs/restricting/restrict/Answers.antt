use Rattle.std.proofs.Common.{ap, ◌∙◌}
use Rattle.std.specs.Prelude.{map}
use Rattle.ep_eval.specs.Known.{env_of}
use Rattle.ep_eval.specs.declared.environments.Env.{Env}
use Rattle.ep_instance_parts.specs.Instances.{find_of, plain_instance}
use Rattle.ep_restrict.specs.Restricted.{numbered_clauses}
use Rattle.ep_tree.specs.Views.{expr_tree}
use Rattle.ep_restrict.proofs.Copied.{made}
use Rattle.ep_restrict.proofs.restricting.restrict.Goals as goal

pub returns-clause-same : goal.returns-clause-same
returns-clause-same c =
    made (plain_instance c.args.instance.now) (plain_instance c.new-fewer.result) c.args.keep.now (map find_of c.in_ok-finds.finds.items)
    (map expr_tree c.in_ok-clauses.clauses.items) (env_of c.in_ok-env.env) c.new-fewer.ensures.same (c.in_ok-finds.ensures ∙ c.finds.ensures)
    (c.in_ok-clauses.ensures ∙ ap (λ cs. numbered_clauses cs c.args.keep.now) c.clauses.ensures)
    (c.in_ok-env.ensures.known ∙ ap env_of c.env.ensures)

pub returns-clause-mode : goal.returns-clause-mode
returns-clause-mode c =
    ap (λ (e : Env). e.mode) c.new-fewer.ensures.env ∙ c.in_ok-env.ensures.mode ∙ ap (λ (e : Env). e.mode) c.env.ensures
