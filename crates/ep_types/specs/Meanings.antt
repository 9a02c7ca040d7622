-- What the code's tables of names mean.
use Rattle.std.specs.Borrow.{Bor}
use Rattle.std.specs.Prelude.{◌≡◌, ℕ, List, [], ◌∷◌, Some, None, Option}
use Rattle.ep_tree.specs.Names.{nothing_known, put}
use Rattle.ep_tree.specs.Types as types
use Rattle.ep_tree.specs.Types.{Context}
use Rattle.ep_types.specs.declared.names.Meaning.{Meaning}
use Rattle.ep_types.specs.declared.names.Meaning.TheVariants.{Domain, Value}
use Rattle.ep_types.specs.declared.names.Names.{Names}

-- what an entry says of its name
unfoldable pub meaning_of : Meaning → types.Meaning
meaning_of (Value t decision) = types.a_value (Some t) decision
meaning_of (Domain t) = types.a_domain (Some t)

-- names in their order, of which a later one hides an earlier one
unfoldable pub behind_names : List (Bor (List ℕ) × Meaning) → Context → Context
behind_names [] c = c
behind_names (e ∷ es) c = behind_names es (put e.0.now (meaning_of e.1) c)

-- names of which none hides another
unfoldable pub known_by : List (Bor (List ℕ) × Meaning) → Context
known_by [] = nothing_known
known_by (e ∷ es) = put e.0.now (meaning_of e.1) (known_by es)

-- what is known, or else something else
unfoldable pub or_else : {A : Type 0} → Option A → Option A → Option A
or_else None other = other
or_else (Some x) other = Some x

-- what names stand for: those of quantifiers and generators hide those of statements
unfoldable pub names_context : Names → Context
names_context names = behind_names names.inner.items (known_by names.declared.now.entries)

-- names that stand for the same, by the same tables
pub record IsSame (old new : Names) : Type 0 where
  pub inner : new.inner.items ≡ old.inner.items
  pub declared : new.declared ≡ old.declared
  pub context : names_context new ≡ names_context old
