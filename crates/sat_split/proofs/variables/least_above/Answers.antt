use Rattle.std.proofs.Common.{◌∷◌, ◌++◌, [], List, take, ap, ◌∙◌, sym, subst, arith}
use Rattle.std.proofs.lemmas.List.{take_more, take_all}
use Rattle.cnf_core.specs.Literal.{Literal}
use Rattle.sat_split.specs.Found.{IsLeastAbove}
use Rattle.sat_split.proofs.variables.least_above.Goals as goal

pub loop-place-preserved : goal.loop-place-preserved
loop-place-preserved c =
    let clauses = c.args.clauses.now in
    let k = c.loop-place.place in
    let clause = c.clause.result.now in
    subst (λ (cs : List (List Literal)). IsLeastAbove c.args.above cs c.least_with-least.result)
    (sym (take_more clauses k [] (omega (arith, c.loop-place-test.true, c.len-place-end.ensures)) ∙ ap (λ (x : List Literal). take k clauses ++ x ∷ []) (sym c.clause.ensures.value)))
    (c.least_with-least.ensures (take k clauses) c.loop-place.invariant)

pub returns : goal.returns
returns c =
    subst (λ (cs : List (List Literal)). IsLeastAbove c.args.above cs c.loop-place.least)
    (take_all c.loop-place.place c.args.clauses.now (omega (arith, c.loop-place-test.false, c.len-place-end.ensures))) c.loop-place.invariant
