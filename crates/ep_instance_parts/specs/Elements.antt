-- The numbers that the elements of a domain may be, as they are kept.
use Rattle.std.specs.Prelude.{◌≡◌, ◌^◌, ℤ, pos, neg_ℤ, ◌≤ℤ◌, ◌<ℤ◌, Bool}
use Rattle.ep_base.specs.Numbers.{has_number}
use Rattle.ep_tree.specs.Domains.{set_has}
use Rattle.ep_instance_parts.specs.declared.elements.Elements.{Elements, Within, Joined'}

-- whether an element may be a number
unfoldable pub element_passes : Elements → ℤ → Bool
element_passes (Within numbers) n = has_number numbers n
element_passes (Joined' op _ one _ other) n = set_has op (element_passes one n) (element_passes other n)

-- A test says of each number that the program can write what these elements say.
pub record PassesAs (elements : Elements) (passes : ℤ → Bool) : Type 0 where
  pub same : (n : ℤ) → neg_ℤ (pos (2 ^ 63)) ≤ℤ n → n <ℤ pos (2 ^ 63) → element_passes elements n ≡ passes n
