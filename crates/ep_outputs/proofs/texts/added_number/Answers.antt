use Rattle.std.proofs.Common.{◌∙◌, ℕ, ap, drop, length}
use Rattle.cnf_core.specs.Events.{givens}
use Rattle.ep_outputs.proofs.Givens.{base-left, base-within}
use Rattle.ep_outputs.proofs.texts.added_number.Goals as goal

pub overflow_sub-result : goal.overflow_sub-result
overflow_sub-result c = base-within c.args.log.now.events c.base.result c.args.clauses.now c.requires c.base.ensures.givens

pub returns : goal.returns
returns c =
    base-left c.args.log.now.events c.base.result c.args.clauses.now c.requires c.base.ensures.givens
    ∙ ap (λ (n : ℕ). length (givens (drop n c.args.log.now.events))) c.base.ensures.value
