-- What the clauses of a variable say: how its literals hang together.
use Rattle.std.specs.Prelude.{◌≡◌, ◌⊎◌, ℕ, ◌+◌, ◌-◌, ◌<◌, Bool, List, ◌++◌, ◌↔◌}
use Rattle.std.specs.List.{All}
use Rattle.cnf_core.specs.Clauses.{IsTrueUnder, Satisfies}
use Rattle.cnf_core.specs.Formula.{Cnf}
use Rattle.cnf_core.specs.Literal.{Literal}
use Rattle.cnf_core.specs.Steps.{IsConsistent}
use Rattle.enc_var.specs.Decoding.{no, yes}

-- where the higher "at least" is true the lower one is, and "is" is true exactly where the lower one is and the higher isn't
pub record IsTied (low high is : ℕ) (s : ℕ → Bool) : Type 0 where
  pub chain : IsTrueUnder s (no high) ⊎ IsTrueUnder s (yes low)
  pub from_low : IsTrueUnder s (no is) ⊎ IsTrueUnder s (yes low)
  pub from_high : IsTrueUnder s (no is) ⊎ IsTrueUnder s (no high)
  pub between : IsTrueUnder s (yes is) ⊎ (IsTrueUnder s (no low) ⊎ IsTrueUnder s (yes high))

-- all literals of a variable with so many values, the first of them of this variable, are tied
abbrev pub AreTied : ℕ → ℕ → (ℕ → Bool) → Type 0
AreTied first count s = (k : ℕ) → k + 2 < count → IsTied (first + k) (first + (k + 1)) (first + (count - 1) + k) s

-- a formula has clauses more than another, none with a literal together with its negation, which say this
pub record SaysMore (old new : Cnf) (condition : (ℕ → Bool) → Type 0) : Type 0 where
  pub vars : new.vars ≡ old.vars
  pub from_new : new.from_new ≡ old.from_new
  pub added : List (List Literal)
  pub clauses : new.clauses ≡ old.clauses ++ added
  pub consistent : All IsConsistent added
  pub says : (s : ℕ → Bool) → Satisfies s added ↔ condition s

-- what the clauses of a variable with so many values say, where its literals begin at this variable
pub record AreMet (first count : ℕ) (s : ℕ → Bool) : Type 0 where
  pub some : count ≡ 0 → ⊥
  pub single : count ≡ 1 → IsTrueUnder s (yes first)
  pub tied : 1 < count → AreTied first count s

-- A formula has so many variables more than another, and clauses which say this, none with a literal together with its negation.
pub record Grows (old new : Cnf) (more : ℕ) (condition : (ℕ → Bool) → Type 0) : Type 0 where
  pub vars : new.vars ≡ old.vars + more
  pub from_new : new.from_new ≡ old.from_new
  pub added : List (List Literal)
  pub clauses : new.clauses ≡ old.clauses ++ added
  pub consistent : All IsConsistent added
  pub says : (s : ℕ → Bool) → Satisfies s added ↔ condition s
