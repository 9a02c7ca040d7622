-- Lexicographic orders, number by number.
use Rattle.std.specs.Prelude.{◌≡◌, ◌⊎◌, ℕ, ◌+◌, ◌<◌, ℤ, pos, ◌≤ℤ◌, Bool, true, false, not, List, length, slice_index_or}
use Rattle.ep_base.specs.Numbers.{lex_less}
use Rattle.ep_flat.specs.Cons.{number_at}
use Rattle.enc_atoms.specs.declared.atoms.Atom.{Atom}
use Rattle.enc_atoms.specs.Steps.{Unless}

-- whether the first list comes before the second, and where that is enough whether they are the same
unfoldable pub is_before : Bool → List ℤ → List ℤ → Bool
is_before true xs ys = lex_less xs ys
is_before false xs ys = not (lex_less ys xs)

-- lists of these lengths, the same as far as both go, are out of order
abbrev pub EndsBadly : Bool → ℕ → ℕ → Type 0
EndsBadly strict m n = (n < m) ⊎ ((strict ≡ true) × (m ≡ n))

-- where none of the lists goes on a chain of steps ends there
abbrev pub EndsWell : Bool → ℕ → ℕ → ℕ → List ℤ → Type 0
EndsWell strict m n t values = EndsBadly strict m n → number_at values t ≡ pos 1 → ⊥

-- Where a variable is 1, the first of two others is at most the second, and where they are the same a further one is 1.
abbrev pub IsStep : ℕ → ℕ → ℕ → ℕ → List ℤ → Type 0
IsStep t x y next values =
    number_at values t ≡ pos 1 → (number_at values x ≤ℤ number_at values y) × (number_at values y ≤ℤ number_at values x → number_at values next ≡ pos 1)

-- where a variable is a number and another is at most it, a further one is 1
abbrev pub IsNext : ℕ → ℕ → ℕ → ℤ → List ℤ → Type 0
IsNext x y next number values = number_at values x ≡ number → number_at values y ≤ℤ number → number_at values next ≡ pos 1

-- Variables are the links of a chain along the first so many variables of two lists: where the guard doesn't hold the first
-- link is 1, each goes on to the next one as a step, and the last one isn't 1 where the lists' ends are out of order.
abbrev pub IsChain : List Atom → Bool → List ℕ → List ℕ → List ℕ → ℕ → List ℤ → Type 0
IsChain guard strict xs ys links count values =
    (Unless guard (λ vs. number_at vs (slice_index_or links 0 0) ≡ pos 1) values
    × ((k : ℕ) → k < count → IsStep (slice_index_or links k 0) (slice_index_or xs k 0) (slice_index_or ys k 0) (slice_index_or links (k + 1) 0) values))
    × EndsWell strict (length xs) (length ys) (slice_index_or links count 0) values
