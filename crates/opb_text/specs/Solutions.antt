-- What the variables of a pseudo-Boolean problem make of it. An assignment says which variables are true.
use Rattle.std.specs.Prelude.{◌≡◌, ◌≤ℤ◌, ℕ, ℤ, pos, ◌-ℤ◌, ◌*ℤ◌, Bool, true, false, if◌then◌else◌, List, map}
use Rattle.std.specs.List.{All}
use Rattle.ep_base.specs.Numbers.{of_bool, sum_of}
use Rattle.opb_text.specs.declared.content.OpbTerm.{OpbTerm}
use Rattle.opb_text.specs.Contents.{OpbConstraint, OpbContent, objective_terms}

-- what a term's literal counts: 1 where its variable is true and 0 where it is false, and 1 minus that where it is negated
abbrev pub literal_value : (ℕ → Bool) → OpbTerm → ℤ
literal_value truths t = if t.negated then pos 1 -ℤ of_bool (truths t.var) else of_bool (truths t.var)

-- what terms add up to: each literal's value multiplied by its factor
abbrev pub terms_total : (ℕ → Bool) → List OpbTerm → ℤ
terms_total truths terms = sum_of (map (λ t. t.factor *ℤ literal_value truths t) terms)

-- with `true` a sum is equal to the right side, with `false` it is at least that
abbrev pub SidesHold : Bool → ℤ → ℤ → Type 0
SidesHold true sum right = sum ≡ right
SidesHold false sum right = right ≤ℤ sum

-- a constraint holds
abbrev pub RowHolds : (ℕ → Bool) → OpbConstraint → Type 0
RowHolds truths row = SidesHold row.equal (terms_total truths row.terms) row.right

-- a solution makes each constraint hold
abbrev pub IsOpbSolution : OpbContent → (ℕ → Bool) → Type 0
IsOpbSolution content truths = All (RowHolds truths) content.rows

-- the value of the objective, and 0 where none is stated
abbrev pub objective_value : OpbContent → (ℕ → Bool) → ℤ
objective_value content truths = terms_total truths (objective_terms content)

-- a solution is optimal where no solution has a smaller objective
pub record IsOptimalOpb (content : OpbContent) (truths : ℕ → Bool) : Type 0 where
  pub solution : IsOpbSolution content truths
  pub least : (others : ℕ → Bool) → IsOpbSolution content others → objective_value content truths ≤ℤ objective_value content others
