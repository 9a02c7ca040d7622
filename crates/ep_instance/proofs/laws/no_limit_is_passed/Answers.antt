use Rattle.std.proofs.Common.{◌≡◌, ℕ, List, [], ◌∷◌, refl}
use Rattle.ep_tree.specs.Binding.{Refusal}
use Rattle.ep_tree.specs.Solutions.{instance_limits, or_weight}
use Rattle.ep_instance.proofs.laws.no_limit_is_passed.Goals as goal

none_before : (refusals : List Refusal) (weight : ℕ) → or_weight refusals weight ≡ [] → refusals ≡ []
unfolding or_weight
none_before [] weight e = refl
none_before (r ∷ rs) weight e = absurd cc

pub returns : goal.returns
unfolding instance_limits
returns c = λ mode i h. none_before _ _ h
