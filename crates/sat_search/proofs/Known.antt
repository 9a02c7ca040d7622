-- A state whose variables are known, after one more clause.
use Rattle.std.proofs.Common.{◌≡◌, ℕ, ◌≤◌, List, [], ◌∷◌, ◌++◌, ◌∙◌, ap, subst, sym, arith, All}
use Rattle.std.proofs.lemmas.List.Elements.{All-push, All-weaker}
use Rattle.cnf_core.specs.Literal.{Literal, VariablesUpTo}
use Rattle.sat_state.specs.View.{StateView, BringsIn}
use Rattle.sat_search.specs.Analysis.{IsKnown, AreInRange}

-- a clause of known variables brings none in
pub known_push : (vars : ℕ) (old mid new : StateView) (clause : List Literal) → IsKnown vars old → AreInRange vars clause → mid.clauses ≡ old.clauses → mid.vars ≡ old.vars
    → new.clauses ≡ mid.clauses ++ clause ∷ [] → BringsIn mid.vars clause new.vars → IsKnown vars new
known_push vars old mid new clause known range clauses_are vars_are now brings =
    let up_to : VariablesUpTo vars clause = All-weaker (λ (x : Literal). (1 ≤ x.var) × (x.var ≤ vars)) (λ (x : Literal). x.var ≤ vars) (λ x both. both.1) clause range in
    record {
      vars_are = omega (arith, known.vars_are, vars_are, brings.keeps, brings.least vars (omega (arith, known.vars_are, vars_are)) up_to);
      most = known.most;
      names = subst (All (AreInRange vars)) (sym (now ∙ ap (λ (cs : List (List Literal)). cs ++ clause ∷ []) clauses_are))
          (All-push (AreInRange vars) old.clauses clause known.names range);
    }
