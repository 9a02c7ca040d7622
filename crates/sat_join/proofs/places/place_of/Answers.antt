use Rattle.std.proofs.Common.{arith, ◌∙◌, List, [], inl, sym, subst}
use Rattle.std.specs.Prelude.{Contains}
use Rattle.cnf_core.specs.Literal.{Literal}
use Rattle.sat_join.proofs.Falsified.{literal_from_test}
use Rattle.sat_join.proofs.places.place_of.Goals as goal

pub returns-then-has_one_of : goal.returns-then-has_one_of
returns-then-has_one_of c =
    let givens = c.args.givens.now in
    let clause = c.clause.result.now in
    let found = literal_from_test c.args.literals.now clause (sym c.has_one_of.ensures ∙ c.if-has_one_of.true) in
    inl (omega (arith, c.if-hint-given.true, c.len-given.ensures), (found.0, found.1, subst (λ (ls : List Literal). Contains ls found.0) c.clause.ensures.value found.2))
