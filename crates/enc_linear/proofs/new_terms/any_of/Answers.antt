use Rattle.std.proofs.Common.{List, ℤ, subst, sym, ◌∙◌}
use Rattle.std.specs.Prelude.{IfOk}
use Rattle.ep_base.specs.Runs.{IsAscending}
use Rattle.enc_linear.specs.Ladders.{HasTerm}
use Rattle.enc_linear.proofs.new_terms.any_of.Goals as goal

pub ladder_of-requires-clause-ascending : goal.ladder_of-requires-clause-ascending
ladder_of-requires-clause-ascending c = subst IsAscending (sym (c.deref.ensures.value ∙ c.in_ok-numbers.ensures)) c.runs_ascend.ensures

pub returns : goal.returns
returns c =
    subst (λ (ns : List ℤ). IfOk c.ladder_of.result (λ term. HasTerm c.args.layout.now c.args.f.now c.ladder_of.new.layout c.ladder_of.new.f ns term)) (c.deref.ensures.value ∙ c.in_ok-numbers.ensures) c.ladder_of.ensures
