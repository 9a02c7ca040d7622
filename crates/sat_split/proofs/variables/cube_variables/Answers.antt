use Rattle.std.proofs.Common.{◌≡◌, refl, ◌+◌, List, ℕ, length, sym, subst, arith}
use Rattle.std.specs.Prelude.{All}
use Rattle.std.proofs.lemmas.List.{length_push}
use Rattle.cnf_core.specs.Literal.{Literal, IsClause}
use Rattle.sat_split.specs.Cubes.{IsNamed, AreCubeVariables}
use Rattle.sat_split.specs.Found.{AreNamedUpTo, IsLeastAbove}
use Rattle.sat_split.proofs.Least.{none_gathered, one_gathered, all_gathered, enough_gathered, variables_named}
use Rattle.sat_split.proofs.variables.cube_variables.Goals as goal

pub loop-place-init : goal.loop-place-init
loop-place-init c =
    let clauses = c.clauses-clauses.result.now in
    let none = sym c.new-vars.ensures.items in
    record {
      gathered = subst (AreNamedUpTo clauses 0) none (none_gathered clauses (subst (All IsClause) (sym c.clauses-clauses.ensures.value) c.clauses-clauses.ensures.clauses));
      count = subst (λ (vars : List ℕ). length vars ≡ 0) none refl;
    }

pub loop-place-preserved : goal.loop-place-preserved
loop-place-preserved c =
    let clauses = c.clauses-clauses.result.now in
    let vars = c.loop-place.vars.items in
    let now = sym c.in_ok-push.ensures.items in
    record {
      gathered = subst (AreNamedUpTo clauses c.in-Some.var) now
          (one_gathered clauses c.loop-place.above c.in-Some.var vars c.loop-place.invariant.gathered (subst (IsLeastAbove c.loop-place.above clauses) c.in-Some.is c.least_above.ensures));
      count = subst (λ (vs : List ℕ). length vs ≡ c.loop-place._place + 1) now (omega (arith, length_push vars c.in-Some.var, c.loop-place.invariant.count));
    }

pub returns-in_default-clause-are : goal.returns-in_default-clause-are
returns-in_default-clause-are c =
    let clauses = c.clauses-clauses.result.now in
    subst (λ (cs : List (List Literal)). AreCubeVariables c.args.most cs c.loop-place.vars.items) c.clauses-clauses.ensures.value
    (all_gathered clauses c.loop-place.above c.args.most c.loop-place.vars.items c.loop-place.invariant.gathered
    (omega (arith, c.loop-place.invariant.count, c.loop-place-test.true)) (subst (IsLeastAbove c.loop-place.above clauses) c.in_default.is c.least_above.ensures))

pub returns-in_default-clause-variables : goal.returns-in_default-clause-variables
returns-in_default-clause-variables c =
    variables_named c.args.formula.now.clauses c.loop-place.vars.items c.clauses-clauses.ensures.clauses
    (subst (λ (cs : List (List Literal)). All (IsNamed cs) c.loop-place.vars.items) c.clauses-clauses.ensures.value c.loop-place.invariant.gathered.named)

pub returns-clause-are : goal.returns-clause-are
returns-clause-are c =
    let clauses = c.clauses-clauses.result.now in
    subst (λ (cs : List (List Literal)). AreCubeVariables c.args.most cs c.loop-place.vars.items) c.clauses-clauses.ensures.value
    (enough_gathered clauses c.loop-place.above c.args.most c.loop-place.vars.items c.loop-place.invariant.gathered
    (omega (arith, c.loop-place.invariant.count, c.loop-place-test.false, c.loop-place.auto._place-end)))

pub returns-clause-variables : goal.returns-clause-variables
returns-clause-variables c =
    variables_named c.args.formula.now.clauses c.loop-place.vars.items c.clauses-clauses.ensures.clauses
    (subst (λ (cs : List (List Literal)). All (IsNamed cs) c.loop-place.vars.items) c.clauses-clauses.ensures.value c.loop-place.invariant.gathered.named)
