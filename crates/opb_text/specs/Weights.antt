-- How far the sums of a pseudo-Boolean problem reach, and what it weighs.
use Rattle.std.specs.Prelude.{◌≡◌, ◌↔◌, ◌<◌, ◌≤◌, ℕ, ◌+◌, ◌*◌, List, length, sum_by, unsigned_abs}
use Rattle.std.specs.List.{All, AllPairs, Contains}
use Rattle.ep_base.specs.Intervals.{sum_cost}
use Rattle.opb_text.specs.declared.content.OpbTerm.{OpbTerm}
use Rattle.opb_text.specs.Contents.{OpbConstraint, OpbContent, objective_terms, named_variables}

-- the variables that stand in a problem, in ascending order, each once
pub record AreVariablesOf (content : OpbContent) (vars : List ℕ) : Type 0 where
  pub ascending : AllPairs ◌<◌ vars
  pub same : (var : ℕ) → Contains vars var ↔ Contains (named_variables content) var

-- how far the absolute values of a sum's factors and of its right side may add up
abbrev pub most_reach : ℕ
most_reach = 1099511627776

-- the greatest weight of a problem that is taken on
abbrev pub most_weight : ℕ
most_weight = 20000000

-- the absolute values of the factors of terms, added up
abbrev pub factors_reach : List OpbTerm → ℕ
factors_reach terms = sum_by (λ t. unsigned_abs t.factor) terms

-- the absolute values of the factors of a constraint and of its right side, added up
abbrev pub row_reach : OpbConstraint → ℕ
row_reach row = factors_reach row.terms + unsigned_abs row.right

-- no constraint reaches too far, and the objective doesn't
pub record IsProblemWithinReach (content : OpbContent) : Type 0 where
  pub objective : factors_reach (objective_terms content) ≤ most_reach
  pub rows : All (λ row. row_reach row ≤ most_reach) content.rows

-- What a sum costs, with k terms and a width w of one more than the absolute values of their factors: the lesser of `2*k*w` and
-- `8*(w + 2*k) + 1024*k`.
abbrev pub terms_cost : List OpbTerm → ℕ
terms_cost terms = sum_cost (factors_reach terms + 1) (2 * length terms) (length terms)

-- what the sums of a problem cost together
abbrev pub sums_cost : OpbContent → ℕ
sums_cost content = terms_cost (objective_terms content) + sum_by (λ row. terms_cost row.terms) content.rows

-- a problem weighs 2 for each of its variables, and what its sums cost
pub record Weighs (content : OpbContent) (weight : ℕ) : Type 0 where
  pub vars : List ℕ
  pub variables : AreVariablesOf content vars
  pub is : weight ≡ 2 * length vars + sums_cost content
