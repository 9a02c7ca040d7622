use Rattle.std.proofs.Common.{◌∷◌, ◌++◌, [], List, take, ap, ◌∙◌, sym, subst, arith}
use Rattle.std.proofs.lemmas.List.{take_more, take_all}
use Rattle.cnf_core.specs.Literal.{Literal}
use Rattle.sat_split.specs.Found.{IsLeastAbove, least_with_one}
use Rattle.sat_split.proofs.Least.{least_begun, least_more}
use Rattle.sat_split.proofs.variables.least_with.Goals as goal

pub loop-lit-init : goal.loop-lit-init
loop-lit-init c = λ clauses is. least_begun clauses c.args.above c.args.so_far is

pub loop-lit-preserved : goal.loop-lit-preserved
loop-lit-preserved c =
    let lits = c.args.clause.now in
    let i = c.loop-lit.lit-index in
    let l = c.lit-item.result in
    λ clauses is.
    subst (λ (ls : List Literal). IsLeastAbove c.args.above (clauses ++ ls ∷ []) c.lesser-least.result)
    (sym (take_more lits i l c.loop-lit-test.true ∙ ap (λ (x : Literal). take i lits ++ x ∷ []) (sym c.lit-item.is)))
    (least_more clauses (take i lits) l c.args.above c.loop-lit.least c.lesser-least.result
    (λ low. c.lesser-least.ensures.low (omega (arith, low, c.var.ensures.value)))
    (λ high. c.lesser-least.ensures.high (omega (arith, high, c.var.ensures.value)) ∙ ap (least_with_one c.loop-lit.least) c.var.ensures.value)
    (c.loop-lit.invariant clauses is))

pub returns : goal.returns
returns c = λ clauses is.
    subst (λ (ls : List Literal). IsLeastAbove c.args.above (clauses ++ ls ∷ []) c.loop-lit.least)
    (take_all c.loop-lit.lit-index c.args.clause.now (omega (arith, c.loop-lit-test.false)))
    (c.loop-lit.invariant clauses is)
