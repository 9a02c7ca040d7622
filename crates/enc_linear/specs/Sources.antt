-- What terms are about: variables, and ladders of variables that count up together.
use Rattle.std.specs.Prelude.{◌≡◌, ◌≢◌, ◌⊎◌, ◌↔◌, ℕ, suc, ◌+◌, ◌<◌, ◌≤◌, ℤ, pos, ◌<ℤ◌, ◌≤ℤ◌, IsTrue, List, [], ◌∷◌, length, get_or, if◌then◌else◌}
use Rattle.std.specs.List.{All}
use Rattle.std.specs.Ordering.{int_eq}
use Rattle.ep_flat.specs.Cons.{number_at, numbers_of_vars}
use Rattle.enc_atoms.specs.Atoms.{atom_holds, clause_holds}
use Rattle.enc_atoms.specs.Steps.{IsTruth, numbers_from}
use Rattle.enc_atoms.specs.declared.atoms.Atom.{Atom}
use Rattle.enc_atoms.specs.declared.atoms.Test.{Test}
use Rattle.enc_linear.specs.declared.sources.Ladder.{Ladder}
use Rattle.enc_linear.specs.declared.sources.Source.{Source}
use Rattle.enc_linear.specs.declared.sources.Source.TheVariants as source

-- the numbers of a ladder's variables
unfoldable pub rungs_of : List ℤ → Ladder → List ℤ
rungs_of values ladder = numbers_of_vars values (numbers_from ladder.first ladder.rungs)

-- how many numbers are 1 before the first one that isn't
unfoldable pub ones_in_front : List ℤ → ℕ
ones_in_front [] = 0
ones_in_front (n ∷ ns) = if int_eq n (pos 1) then suc (ones_in_front ns) else 0

-- where a number is 1 the one before it is
abbrev pub Falls : List ℤ → Type 0
Falls ns = (k : ℕ) → k + 1 < length ns → get_or ns (k + 1) (pos 0) ≡ pos 1 → get_or ns k (pos 0) ≡ pos 1

-- Numbers are 0 or 1, and those that are 1 stand before the others.
pub record IsLadder (ns : List ℤ) : Type 0 where
  pub truths : All IsTruth ns
  pub falls : Falls ns

-- the number that a source has
unfoldable pub source_number : List ℤ → Source → ℤ
source_number values (source.Variable x) = number_at values x
source_number values (source.Ladder ladder) = pos (ones_in_front (rungs_of values ladder))

-- a source is of the first so many variables, and of one at least
abbrev pub IsSourceBelow : ℕ → Source → Type 0
IsSourceBelow n (source.Variable x) = x < n
IsSourceBelow n (source.Ladder ladder) = (0 < ladder.rungs) × (ladder.first + ladder.rungs ≤ n)

-- where a source is a ladder, its variables have numbers of one
abbrev pub IsWhole : List ℤ → Source → Type 0
IsWhole values (source.Variable x) = Unit {0}
IsWhole values (source.Ladder ladder) = IsLadder (rungs_of values ladder)

-- an atom on variables of a source says that its number is at most this one
pub record SaysAtMost (from : Source) (most : ℤ) (atom : Atom) : Type 0 where
  pub test : atom.test ≡ Test.AtMost
  pub names : (n : ℕ) → IsSourceBelow n from → atom.var < n
  pub tells : (values : List ℤ) → (n : ℕ) → IsSourceBelow n from → IsWhole values from → (number_at values atom.var ≤ℤ atom.value) ↔ (source_number values from ≤ℤ most)

-- an atom on variables of a source says that its number is above this one
pub record SaysAbove (from : Source) (number : ℤ) (atom : Atom) : Type 0 where
  pub names : (n : ℕ) → IsSourceBelow n from → atom.var < n
  pub tells : (values : List ℤ) → (n : ℕ) → IsSourceBelow n from → IsWhole values from → IsTrue (atom_holds values atom) ↔ (number <ℤ source_number values from)

-- atoms are guards, and on variables of a source what says that its number isn't this one
pub record AreGuardsOrOther (from : Source) (number : ℤ) (guards atoms : List Atom) : Type 0 where
  pub names : (n : ℕ) → IsSourceBelow n from → All (λ atom. atom.var < n) guards → All (λ atom. atom.var < n) atoms
  pub tells : (values : List ℤ) → (n : ℕ) → IsSourceBelow n from → IsWhole values from
      → IsTrue (clause_holds values atoms) ↔ (IsTrue (clause_holds values guards) ⊎ (source_number values from ≢ number))
