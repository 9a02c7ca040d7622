-- Literals: a variable's number and a sign, and how they are ordered.
use Rattle.std.specs.Prelude.{◌≡◌, ℕ, ◌+◌, ◌*◌, ◌<◌, ◌≤◌, Bool, true, false, not, ◌&&◌, nat_eq, if◌then◌else◌, ◌⊎◌, List, All, AllPairs, Contains}
use Rattle.std.specs.List.{list_any}
use Rattle.cnf_core.specs.declared.lit.TheConstants.{MOST_VARIABLE}

-- a variable's number, and whether the literal says that the variable is true
pub record Literal : Type 0 where
  pub var : ℕ
  pub positive : Bool

-- the literal with the other sign
abbrev pub negation : Literal → Literal
negation l = record { var = l.var; positive = not l.positive }

-- the numbers that a variable can have
abbrev pub IsVariable : ℕ → Type 0
IsVariable v = (1 ≤ v) × (v ≤ MOST_VARIABLE)

-- a smaller variable comes first, and of one variable the positive literal
abbrev pub Precedes : Literal → Literal → Type 0
Precedes a b = (a.var < b.var) ⊎ ((a.var ≡ b.var) × (a.positive ≡ true) × (b.positive ≡ false))

-- each literal comes before all later ones, so that none stands twice
abbrev pub IsOrdered : List Literal → Type 0
IsOrdered literals = AllPairs Precedes literals

-- the literals of a clause are in order, and each is of a variable that there can be
pub record IsClause (literals : List Literal) : Type 0 where
  pub ordered : IsOrdered literals
  pub variables : All (λ l. IsVariable l.var) literals

-- both lists have the same literals, in whatever order and however often
pub record HaveSameLiterals (xs ys : List Literal) : Type 0 where
  pub from_first : All (Contains ys) xs
  pub from_second : All (Contains xs) ys

-- no variable of these literals is over the number
abbrev pub VariablesUpTo : ℕ → List Literal → Type 0
VariablesUpTo most literals = All (λ l. l.var ≤ most) literals

-- whether two signs are one
abbrev pub same_sign : Bool → Bool → Bool
same_sign true b = b
same_sign false b = not b

-- whether two literals are one
abbrev pub same_literal : Literal → Literal → Bool
same_literal a b = nat_eq a.var b.var && same_sign a.positive b.positive

-- whether the literal is one of these
abbrev pub is_among : List Literal → Literal → Bool
is_among literals l = list_any (same_literal l) literals

-- the number by which a literal is kept: twice its variable, and 1 more for the negative one
abbrev pub code_of : Literal → ℕ
code_of l = 2 * l.var + (if l.positive then 0 else 1)
