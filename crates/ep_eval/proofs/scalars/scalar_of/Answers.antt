use Rattle.ep_eval.proofs.Words.{ap, sym, ◌∙◌, domain_tree, scalar_if, env_in}
use Rattle.ep_eval.proofs.ScalarSteps.{scalar_is}
use Rattle.ep_eval.proofs.scalars.scalar_of.Goals as goal

pub returns-then-is_boolean : goal.returns-then-is_boolean
returns-then-is_boolean c mode some =
    ap scalar_if (sym c.if-is_boolean.true ∙ c.is_boolean.ensures) ∙ scalar_is mode (env_in c.args.scope) (domain_tree c.args.d.now) some

pub returns : goal.returns
returns c mode some =
    ap scalar_if (sym c.if-is_boolean.false ∙ c.is_boolean.ensures) ∙ scalar_is mode (env_in c.args.scope) (domain_tree c.args.d.now) some
