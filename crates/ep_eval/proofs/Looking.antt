-- What a name is worth.
use Rattle.ep_eval.proofs.Words.{◌≡◌, refl, Option, Some, None, Bound, has_cells, has_domain, has_value, value_bound, only_value}

-- a name that stands for no value is worth nothing
pub only_value-value : (b : Option Bound) → value_bound (only_value b) ≡ value_bound b
unfolding value_bound only_value
only_value-value None = refl
only_value-value (Some (has_value t v)) = refl
only_value-value (Some (has_cells s is vs)) = refl
only_value-value (Some (has_domain s is vs)) = refl
