use Rattle.std.proofs.Common.{◌∙◌, sym, arith}
use Rattle.sat_search.proofs.Values.{values_more}
use Rattle.sat_search.proofs.search.decide_rest.Goals as goal

pub loop-place-preserved : goal.loop-place-preserved
loop-place-preserved c = record {
  clauses = c.decide-falsified.ensures.clauses ∙ c.loop-place.invariant.clauses;
  vars = c.decide-falsified.ensures.vars ∙ c.loop-place.invariant.vars;
  propagated = c.decide-falsified.ensures.propagated (sym c.is_some.ensures ∙ c.if-is_some.false);
  values = values_more c.loop-place.place c.decide-falsified.new.state.trail (λ v low high. c.decide-falsified.ensures.stays v (c.loop-place.invariant.values v low high)) (c.decide-falsified.ensures.value (omega arith) (omega arith));
}
