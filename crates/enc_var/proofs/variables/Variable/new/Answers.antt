use Rattle.std.proofs.Common.{◌+◌, ◌-◌, ◌*◌, length, ap, subst, sym, ◌∙◌}
use Rattle.ep_base.proofs.RunSteps.{numbers_ascend}
use Rattle.ep_base.specs.Runs.{IsAscending}
use Rattle.enc_var.proofs.Growing.{has_room}
use Rattle.enc_var.proofs.variables.Variable.new.Goals as goal

pub invariant_of-result : goal.invariant_of-result
invariant_of-result c = record {
  values = c.in_ok-values.ensures ∙ sym c.in_ok-domain.ensures;
  ascending = subst IsAscending (sym c.in_ok-values.ensures) (subst IsAscending c.in_ok-domain.ensures (subst IsAscending c.domain.view_is (numbers_ascend c.domain.inside.runs.items c.domain.invariant)));
  first = c.in_ok-first.ensures.in_range;
  room = has_room c.in_ok-first.first (length c.in_ok-values.values.items) c.fresh.new.self.vars c.vars-most.result
      (c.in_ok-first.ensures.number ∙ sym (ap (λ f. f.vars) c.in_ok-first.ensures.ok))
      (c.vars-most.ensures.value ∙ c.in_ok-add_literals.ensures.grows.vars ∙ ap (λ n. c.fresh.new.self.vars + (2 * n - 4)) (ap length c.as_slice.ensures.value))
      c.vars-most.ensures.in_range c.in_ok-first.ensures.in_range.1;
}

pub returns-clause-ascending : goal.returns-clause-ascending
returns-clause-ascending c = subst IsAscending c.in_ok-domain.ensures (subst IsAscending c.domain.view_is (numbers_ascend c.domain.inside.runs.items c.domain.invariant))
