-- Sums of terms as they are gathered.
use Rattle.std.specs.Prelude.{◌≡◌, ℕ, ◌+◌, ◌<◌, ℤ, ◌+ℤ◌, ◌*ℤ◌, ◌⊎◌, List, map, Some}
use Rattle.std.specs.List.{All, Contains}
use Rattle.ep_base.specs.Reads.{IsWithinNumbers, weighted_sum}
use Rattle.ep_flatten.specs.Forms.{AreNumbersOf}
use Rattle.ep_ground.specs.Grounds.{LeadsTo}
use Rattle.ep_ground.specs.Nodes.{GroundNode}
use Rattle.ep_ground.specs.Terms.{term_value, weighed}

-- a number and parts with coefficients, of which it is the sum
pub record SumState : Type 0 where
  pub number : ℤ
  pub parts : List (ℤ × ℕ)

-- the terms of some parts
abbrev pub terms_in : List (ℤ × ℕ) → List ℕ
terms_in parts = map (λ p. p.1) parts

-- the coefficients of some parts
abbrev pub coefficients_in : List (ℤ × ℕ) → List ℤ
coefficients_in parts = map (λ p. p.0) parts

-- what some parts come to, where the terms have these numbers
abbrev pub parts_total : (ℕ → ℤ) → List (ℤ × ℕ) → ℤ
parts_total numbers parts = weighted_sum (map (λ p. (p.0, numbers p.1)) parts)

-- what a sum comes to
abbrev pub total : (ℕ → ℤ) → SumState → ℤ
total numbers s = s.number +ℤ parts_total numbers s.parts

-- parts with their coefficients multiplied by a number
abbrev pub multiplied : ℤ → List (ℤ × ℕ) → List (ℤ × ℕ)
multiplied k parts = map (λ p. (k *ℤ p.0, p.1)) parts

-- Some parts took in others: they come to as much more, and have the terms of both. Their coefficients are small where
-- those were.
pub record TakesIn (more old new : List (ℤ × ℕ)) : Type 0 where
  pub value : (numbers : ℕ → ℤ) → parts_total numbers new ≡ (parts_total numbers old +ℤ parts_total numbers more)
  pub kept : (u : ℕ) → Contains (terms_in old) u → Contains (terms_in new) u
  pub came : (u : ℕ) → Contains (terms_in more) u → Contains (terms_in new) u
  pub from : (u : ℕ) → Contains (terms_in new) u → Contains (terms_in old) u ⊎ Contains (terms_in more) u
  pub small : All IsWithinNumbers (coefficients_in old) → All IsWithinNumbers (coefficients_in more) → All IsWithinNumbers (coefficients_in new)

-- A sum took in a term with its coefficient: it comes to as much more. The term leads to the terms that came, none of which
-- stands behind it.
pub record Joins (nodes : List GroundNode) (k : ℤ) (t : ℕ) (old new : SumState) : Type 0 where
  pub value : (cells : List ℤ) (numbers : ℕ → ℤ) → AreNumbersOf (term_value nodes cells) numbers (terms_in new.parts) → (x : ℤ) × (term_value nodes cells t ≡ Some x) × (total numbers new ≡ (total numbers old +ℤ (k *ℤ x)))
  pub kept : (u : ℕ) → Contains (terms_in old.parts) u → Contains (terms_in new.parts) u
  pub from : (u : ℕ) → Contains (terms_in new.parts) u → Contains (terms_in old.parts) u ⊎ ((u < t + 1) × LeadsTo nodes t u)
  pub small : IsWithinNumbers k → All IsWithinNumbers (coefficients_in old.parts) → All IsWithinNumbers (coefficients_in new.parts)

-- a term among some parts leads to another, which doesn't stand behind it
pub record ComesFrom (nodes : List GroundNode) (parts : List (ℤ × ℕ)) (u : ℕ) : Type 0 where
  pub part : ℕ
  pub found : Contains (terms_in parts) part
  pub before : u < part + 1
  pub leads : LeadsTo nodes part u

-- a sum is what a number and some parts come to
pub record Gathers (nodes : List GroundNode) (c : ℤ) (parts : List (ℤ × ℕ)) (s : SumState) : Type 0 where
  pub value : (cells : List ℤ) (numbers : ℕ → ℤ) → AreNumbersOf (term_value nodes cells) numbers (terms_in s.parts) → (ps : List (ℤ × ℤ)) × (weighed (term_value nodes cells) parts ≡ Some ps) × (total numbers s ≡ (c +ℤ weighted_sum ps))
  pub from : (u : ℕ) → Contains (terms_in s.parts) u → ComesFrom nodes parts u
  pub small : All IsWithinNumbers (coefficients_in parts) → All IsWithinNumbers (coefficients_in s.parts)
