use Rattle.std.proofs.Common.{◌≡◌, ◌≤◌, take, get_or, subst, arith, ◌∙◌, ap}
use Rattle.std.proofs.lemmas.List.{take_all}
use Rattle.std.proofs.lemmas.List.Elements.{All-more, All-weaker}
use Rattle.cnf_core.specs.Literal.{Literal}
use Rattle.sat_search.specs.Analysis.{AreInRange}
use Rattle.sat_search.proofs.adding.most_variable.Goals as goal

pub loop-lit-preserved : goal.loop-lit-preserved
loop-lit-preserved c =
    let l = c.lit-item.result in
    let lits = c.lits-lits.result.now in
    let i = c.loop-lit.lit-index in
    let most = c.max-most.result in
    let here : l.var ≡ (get_or lits i l).var = ap (λ (x : Literal). x.var) c.lit-item.is in
    let var : c.var.result ≡ l.var = c.var.ensures.value in
    record {
      most = omega (arith, c.max-most.ensures, c.loop-lit.invariant.most, c.var.ensures.in_range.1);
      keeps = omega (arith, c.max-most.ensures, c.loop-lit.invariant.keeps);
      range = All-more (λ (x : Literal). (1 ≤ x.var) × (x.var ≤ most)) lits i l c.loop-lit-test.true
          (All-weaker (λ (x : Literal). (1 ≤ x.var) × (x.var ≤ c.loop-lit.most)) (λ (x : Literal). (1 ≤ x.var) × (x.var ≤ most)) (λ x both. (both.0, omega (arith, both.1, c.max-most.ensures))) (take i lits) c.loop-lit.invariant.range)
          (omega (arith, here, var, c.var.ensures.in_range.0), omega (arith, here, var, c.max-most.ensures));
      least = λ m low all. omega (arith, c.max-most.ensures, c.loop-lit.invariant.least m low all, all i l c.loop-lit-test.true, here, var);
    }

pub returns-clause-range : goal.returns-clause-range
returns-clause-range c =
    let lits = c.lits-lits.result.now in
    let all : take c.loop-lit.lit-index lits ≡ c.args.clause.now = take_all c.loop-lit.lit-index lits (omega (arith, c.loop-lit-test.false)) ∙ c.lits-lits.ensures.value in
    subst (AreInRange c.loop-lit.most) all c.loop-lit.invariant.range
