-- Different variables, pair by pair.
use Rattle.std.specs.Prelude.{◌≡◌, ℕ, ◌<◌, ℤ, pos, IsTrue, List, [], ◌∷◌, ◌++◌, length, map}
use Rattle.std.specs.List.{All, Contains}
use Rattle.ep_base.specs.Numbers.{has_number}
use Rattle.ep_flat.specs.Cons.{number_at, numbers_of_vars}
use Rattle.enc_var.specs.Decoding.{VariableLiterals}
use Rattle.enc_var.specs.Layouts.{literals_at}

-- all pairs of elements, the one that stands earlier first
unfoldable pub all_pairs : List ℕ → List (ℕ × ℕ)
all_pairs [] = []
all_pairs (x ∷ xs) = map (λ y. (x, y)) xs ++ all_pairs xs

-- both variables of each pair are of the layout
abbrev pub AreWithin : List VariableLiterals → List (ℕ × ℕ) → Type 0
AreWithin layout pairs = All (λ p. (p.0 < length layout) × (p.1 < length layout)) pairs

-- two variables have different numbers
abbrev pub Differ : ℕ × ℕ → List ℤ → Type 0
Differ p values = number_at values p.0 ≡ number_at values p.1 → ⊥

-- where a variable is 1, two others have one number
abbrev pub AreEqual : ℕ → ℕ × ℕ → List ℤ → Type 0
AreEqual t p values = number_at values t ≡ pos 1 → number_at values p.0 ≡ number_at values p.1

-- the numbers of all the variables' domains are among these
abbrev pub HasDomains : List VariableLiterals → List ℕ → List ℤ → Type 0
HasDomains layout vars numbers = All (λ x. (v : ℤ) → Contains (literals_at layout x).domain v → Contains numbers v) vars

-- the variables aren't more than the numbers, and where they are as many each number is taken
pub record Covers (vars : List ℕ) (numbers : List ℤ) (values : List ℤ) : Type 0 where
  pub enough : length numbers < length vars → ⊥
  pub taken : length numbers ≡ length vars → All (λ v. IsTrue (has_number (numbers_of_vars values vars) v)) numbers
