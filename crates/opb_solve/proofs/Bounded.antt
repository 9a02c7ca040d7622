-- A flat problem that another one means the same as stands for the same problem.
use Rattle.std.proofs.Common.{◌≡◌, ◌<◌, ℕ, ℤ, List, ◌++◌, length, take, Option, Some, None, sym, ap, subst, ◌∙◌}
use Rattle.std.specs.Prelude.{MatchOption}
use Rattle.ep_flat.specs.Flats.{FlatState, IsSoundFlat}
use Rattle.ep_implied.specs.Follows.{MeansTheSame}
use Rattle.opb_text.specs.declared.content.OpbTerm.{OpbTerm}
use Rattle.opb_text.specs.Contents.{OpbContent}
use Rattle.opb_text.specs.Flats.{HasValueOf, StandsFor}

value_stays : (terms : List OpbTerm) (vars : List ℕ) (one other : FlatState) (goal : ℕ) → MeansTheSame one other → HasValueOf terms vars one goal → HasValueOf terms vars other goal
value_stays terms vars one other goal same has = record {
  there = subst (λ (ds : List (List ℤ)). goal < length ds) (sym same.vars) has.there;
  value = λ values more long meets. has.value values more long ((same.meets (values ++ more)).1 meets);
}

objective_stays : (objective : Option (List OpbTerm)) (vars : List ℕ) (one other : FlatState) (goal : Option ℕ) → MeansTheSame one other
    → MatchOption objective (goal ≡ None) (λ terms. (x : ℕ) × (goal ≡ Some x) × HasValueOf terms vars one x)
    → MatchOption objective (goal ≡ None) (λ terms. (x : ℕ) × (goal ≡ Some x) × HasValueOf terms vars other x)
objective_stays None vars one other goal same none = none
objective_stays (Some terms) vars one other goal same some = (some.0, some.1, value_stays terms vars one other some.0 same some.2)

pub still_stands : (content : OpbContent) (one other : FlatState) (goal : Option ℕ) → MeansTheSame one other → IsSoundFlat other → StandsFor content one goal → StandsFor content other goal
still_stands content one other goal same sound stands = record {
  vars = stands.vars;
  variables = stands.variables;
  first = ap (take (length stands.vars)) same.vars ∙ stands.first;
  solutions = λ values fit. (
    λ found. (stands.solutions values fit).0 (found.0, (same.meets (values ++ found.0)).1 found.1),
    λ solution. let found = (stands.solutions values fit).1 solution in (found.0, (same.meets (values ++ found.0)).0 found.1),
  );
  objective = objective_stays content.objective stands.vars one other goal same stands.objective;
  sound = sound;
}
