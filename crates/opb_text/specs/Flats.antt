-- The flat problem that stands for a pseudo-Boolean problem.
use Rattle.std.specs.Prelude.{◌≡◌, ◌↔◌, ◌<◌, ℕ, ℤ, pos, Bool, false, ◌==◌, if◌then◌else◌, List, [], ◌∷◌, ◌++◌, length, map, take, Option, Some, None, MatchOption}
use Rattle.std.specs.List.{AllZip, Contains}
use Rattle.ep_base.specs.Numbers.{is_one}
use Rattle.ep_flat.specs.Cons.{number_at}
use Rattle.ep_flat.specs.Flats.{FlatState, Meets, IsSoundFlat}
use Rattle.opb_text.specs.declared.content.OpbTerm.{OpbTerm}
use Rattle.opb_text.specs.Contents.{OpbContent}
use Rattle.opb_text.specs.Solutions.{IsOpbSolution, terms_total}
use Rattle.opb_text.specs.Weights.{AreVariablesOf}

-- the numbers of truth values
abbrev pub truth_numbers : List ℤ
truth_numbers = pos 0 ∷ pos 1 ∷ []

-- the domain of each of some variables, which are true or false
abbrev pub truth_domains : List ℕ → List (List ℤ)
truth_domains vars = map (λ _. truth_numbers) vars

-- the assignment that gives variables these numbers, 1 for true; all others are false
abbrev pub truths_of : List ℕ → List ℤ → ℕ → Bool
truths_of [] values var = false
truths_of (x ∷ vars) [] var = false
truths_of (x ∷ vars) (value ∷ values) var = if x == var then is_one value else truths_of vars values var

-- a flat variable is there and has the value of these terms, whatever numbers meet the flat problem
pub record HasValueOf (terms : List OpbTerm) (vars : List ℕ) (flat : FlatState) (goal : ℕ) : Type 0 where
  pub there : goal < length flat.vars
  pub value : (values more : List ℤ) → length values ≡ length vars → Meets flat (values ++ more)
      → number_at (values ++ more) goal ≡ terms_total (truths_of vars values) terms

-- A flat problem stands for a problem. Its first variables are those of the problem, in ascending order. Numbers of these go
-- on to numbers that meet the flat problem exactly where they are a solution. Where an objective is stated, the variable
-- that is named has its value.
pub record StandsFor (content : OpbContent) (flat : FlatState) (goal : Option ℕ) : Type 0 where
  pub vars : List ℕ
  pub variables : AreVariablesOf content vars
  pub first : take (length vars) flat.vars ≡ truth_domains vars
  pub solutions : (values : List ℤ) → AllZip Contains (truth_domains vars) values
      → ((more : List ℤ) × Meets flat (values ++ more)) ↔ IsOpbSolution content (truths_of vars values)
  pub objective : MatchOption content.objective (goal ≡ None)
      (λ terms. (x : ℕ) × (goal ≡ Some x) × HasValueOf terms vars flat x)
  pub sound : IsSoundFlat flat
