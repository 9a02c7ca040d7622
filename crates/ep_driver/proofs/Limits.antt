-- An instance within its limits.
use Rattle.std.proofs.Common.{◌≡◌, ℕ, List, [], ◌∷◌, refl}
use Rattle.ep_instance.specs.Judgements.{IsWithinLimits}
use Rattle.ep_tree.specs.Binding.{Instance, Refusal}
use Rattle.ep_tree.specs.Solutions.{instance_limits, or_weight}
use Rattle.ep_tree.specs.declared.values.Mode.{Mode}

first-none : (rs : List Refusal) (weight : ℕ) → or_weight rs weight ≡ [] → rs ≡ []
unfolding or_weight
first-none [] weight e = refl
first-none (r ∷ rs) weight e = absurd cc

-- where no limit is passed, those of size and reach aren't
pub within-limits : (mode : Mode) (i : Instance) → instance_limits mode i ≡ [] → IsWithinLimits mode i
unfolding instance_limits
within-limits mode i e = first-none _ _ e
