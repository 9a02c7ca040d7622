use Rattle.ep_unroll.proofs.Words.{sym, ◌∙◌, mode_in}
use Rattle.ep_unroll.proofs.FormValues.{if_ok}
use Rattle.ep_unroll.proofs.TruthSteps.{all_needed, none_needed}
use Rattle.ep_unroll.proofs.truths.needed_parts.Goals as goal

pub returns-in-Relational : goal.returns-in-Relational
returns-in-Relational c =
    none_needed c.args.arena.now c.args.count (mode_in c.args.scope) c.args.parts.now c.new.result.items (sym c.mode.ensures.mode ∙ c.in-Relational.is) c.new.ensures.items

pub returns-in-Strict : goal.returns-in-Strict
returns-in-Strict c =
    if_ok c.partial_terms.result _ _
    (λ us h. all_needed c.args.arena.now c.args.count (mode_in c.args.scope) c.args.parts.now us.items (sym c.mode.ensures.mode ∙ c.in-Strict.is) h) c.partial_terms.ensures
