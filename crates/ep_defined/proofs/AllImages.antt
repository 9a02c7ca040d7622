-- The loop over all terms of a ground.
use Rattle.std.proofs.Common.{◌≡◌, ℕ, ◌+◌, ◌*◌, ◌^◌, ◌<◌, ◌≤◌, List, arith, subst}
use Rattle.std.specs.List.{All}
use Rattle.std.proofs.lemmas.List.{get_or_default}
use Rattle.ep_defined.specs.Images.{StandsIn, nowhere}
use Rattle.ep_defined.specs.Translations.{Translates}
use Rattle.ep_defined.specs.declared.images.Image.{Image}
use Rattle.ep_ground.specs.Nodes.{GroundNode}
use Rattle.ep_ground.specs.declared.cells.Cell.{Cell}

-- what stands for the terms so far stands in the new nodes
pub images_stand : (cells : List Cell) (olds news : List GroundNode) (nought : ℕ) (images : List Image) → Translates cells olds news nought images → All (StandsIn news) images
images_stand cells olds news nought images h = λ k d below. subst (StandsIn news) (get_or_default images k nowhere d below) (h.each k below).there

-- there is room for what stands for one term more
pub room_for_image : (news images t olds : ℕ) → news ≤ 3 * images + 1 → images ≡ t → t < olds → olds ≤ 100000000 → news + 3 < 2 ^ 32
room_for_image news images t olds few many below most = omega (arith, few, many, below, most)
