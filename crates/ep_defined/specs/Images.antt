-- What stands for the terms of a ground in one without partial nodes.
use Rattle.std.specs.Prelude.{◌≡◌, ℕ, ◌<◌, List, [], ◌∷◌, ◌++◌, ◌==◌, length, map, take, filter, Option, Some, None, IfSome, option_to_list, slice_index_or}
use Rattle.std.specs.List.{flat_map}
use Rattle.ep_base.specs.declared.operators.CompareOp.{CompareOp}
use Rattle.ep_defined.specs.Growing.{IsNodeAt}
use Rattle.ep_defined.specs.declared.images.Image.{Image}
use Rattle.ep_defined.specs.declared.kinds.Kind.{Kind}
use Rattle.ep_ground.specs.Nodes.{GroundNode, undefined, quotient, remainder, pick, whole, safe_quotient, safe_remainder, safe_pick, compare, lex, member, negation, all_of, any_of, same_truth, all_different, counts, at_least, at_most, table, parts_of}
use Rattle.ep_ground.specs.SameTrees.{with_parts}

-- the kind of a node
unfoldable pub image_kind : GroundNode → Kind
image_kind undefined = Kind.Nothing
image_kind (quotient a b) = Kind.Division
image_kind (remainder a b) = Kind.Division
image_kind (pick ts keys indices) = Kind.Pick
image_kind (whole a ts) = Kind.Whole
image_kind (compare op a b) = Kind.Truth
image_kind (lex op ts us) = Kind.Truth
image_kind (member a ns) = Kind.Truth
image_kind (negation a) = Kind.Truth
image_kind (all_of ts) = Kind.Truth
image_kind (any_of ts) = Kind.Truth
image_kind (same_truth a b) = Kind.Truth
image_kind (all_different ts) = Kind.Truth
image_kind (counts ts ns us) = Kind.Truth
image_kind (at_least ts cs ns) = Kind.Truth
image_kind (at_most ts cs ns) = Kind.Truth
image_kind (table ts rows) = Kind.Truth
image_kind _ = Kind.Number

-- the node that has a value wherever its parts have one: the safe form of a quotient, a remainder or a pick
unfoldable pub made_safe : GroundNode → GroundNode
made_safe (quotient a b) = safe_quotient a b
made_safe (remainder a b) = safe_remainder a b
made_safe (pick ts keys indices) = safe_pick ts keys indices
made_safe node = node

-- what stands for a term that isn't there
abbrev pub nowhere : Image
nowhere = record { total = 0; guard = None }

-- what stands for a term
abbrev pub image_at : List Image → ℕ → Image
image_at images t = slice_index_or images t nowhere

-- the term that always has a value
abbrev pub total_at : List Image → ℕ → ℕ
total_at images t = (image_at images t).total

-- the guards of some terms, in order
abbrev pub guards_in : List Image → List ℕ → List ℕ
guards_in images ts = flat_map (λ t. option_to_list (image_at images t).guard) ts

-- the node over the terms that always have a value
abbrev pub over_totals : List Image → GroundNode → GroundNode
over_totals images node = with_parts (total_at images) (made_safe node)

-- an image's terms are terms of these nodes
pub record StandsIn (nodes : List GroundNode) (image : Image) : Type 0 where
  pub total : image.total < length nodes
  pub guard : IfSome image.guard (λ g. g < length nodes)

-- A term is 1 exactly where all of some conditions are: no term where there is none, and the condition itself where there is one.
unfoldable pub IsConjunction : List GroundNode → List ℕ → Option ℕ → Type 0
IsConjunction nodes [] None = Unit {0}
IsConjunction nodes (g ∷ []) (Some t) = t ≡ g
IsConjunction nodes (g ∷ h ∷ gs) (Some t) = IsNodeAt nodes t (all_of (g ∷ h ∷ gs))
IsConjunction nodes _ _ = ⊥

-- a term that is 1 exactly where the divisor of a node isn't 0
unfoldable pub IsDivisorTest : List GroundNode → ℕ → List Image → GroundNode → ℕ → Type 0
IsDivisorTest nodes nought images (quotient a b) own = IsNodeAt nodes own (compare CompareOp.NotEqual (total_at images b) nought)
IsDivisorTest nodes nought images (remainder a b) own = IsNodeAt nodes own (compare CompareOp.NotEqual (total_at images b) nought)
IsDivisorTest nodes nought images _ own = ⊥

-- a term that is 1 exactly where some indices are one of the keys
unfoldable pub IsKeyTest : List GroundNode → List Image → GroundNode → ℕ → Type 0
IsKeyTest nodes images (pick ts keys indices) own =
    IsNodeAt nodes own (table (map (total_at images) indices) (filter (λ key. length key == length indices) (take (length ts) keys)))
IsKeyTest nodes images _ own = ⊥

-- what stands for a node without a value of its own
pub record IsNothingImage (nought : ℕ) (image : Image) : Type 0 where
  pub total : image.total ≡ nought
  pub guard : image.guard ≡ Some nought

-- what stands for a number that is there wherever its parts are
pub record IsNumberImage (nodes : List GroundNode) (images : List Image) (node : GroundNode) (image : Image) : Type 0 where
  pub total : IsNodeAt nodes image.total (over_totals images node)
  pub guard : IsConjunction nodes (guards_in images (parts_of node)) image.guard

-- what stands for a truth value, which is always there
pub record IsTruthImage (nodes : List GroundNode) (images : List Image) (node : GroundNode) (image : Image) : Type 0 where
  pub plain : ℕ
  pub is : IsNodeAt nodes plain (over_totals images node)
  pub total : IsConjunction nodes (guards_in images (parts_of node) ++ plain ∷ []) (Some image.total)
  pub guard : image.guard ≡ None

-- what stands for a number that is there where its parts are and a condition of its own holds
pub record IsTestedImage (nodes : List GroundNode) (images : List Image) (node : GroundNode) (Test : ℕ → Type 0) (image : Image) : Type 0 where
  pub own : ℕ
  pub test : Test own
  pub total : IsNodeAt nodes image.total (over_totals images node)
  pub guard : IsConjunction nodes (own ∷ guards_in images (parts_of node)) image.guard

-- what stands for the first term, where all others are there too
unfoldable pub IsWholeImage : List GroundNode → List Image → GroundNode → Image → Type 0
IsWholeImage nodes images (whole a ts) image =
    (image.total ≡ total_at images a) × IsConjunction nodes (guards_in images (a ∷ ts)) image.guard
IsWholeImage nodes images _ image = ⊥

-- what stands for a node of this kind
unfoldable pub IsImageBy : Kind → List GroundNode → ℕ → List Image → GroundNode → Image → Type 0
IsImageBy Kind.Nothing nodes nought images node image = IsNothingImage nought image
IsImageBy Kind.Number nodes nought images node image = IsNumberImage nodes images node image
IsImageBy Kind.Truth nodes nought images node image = IsTruthImage nodes images node image
IsImageBy Kind.Division nodes nought images node image = IsTestedImage nodes images node (IsDivisorTest nodes nought images node) image
IsImageBy Kind.Pick nodes nought images node image = IsTestedImage nodes images node (IsKeyTest nodes images node) image
IsImageBy Kind.Whole nodes nought images node image = IsWholeImage nodes images node image

-- what stands for a node among these nodes, of which one is 0, over what stands for its parts
abbrev pub IsImage : List GroundNode → ℕ → List Image → GroundNode → Image → Type 0
IsImage nodes nought images node image = IsImageBy (image_kind node) nodes nought images node image
