-- Indices of reads in which decision variables may stand, and the scalars among which such a read chooses.
use Rattle.std.specs.Prelude.{◌≡◌, Bool, true, IfSome, ℕ, ◌<◌, List, [], ◌∷◌, map, ℤ, Some, None, Option, option_map, length, if◌then◌else◌}
use Rattle.std.specs.List.{All}
use Rattle.ep_base.specs.Numbers.{same_numbers}
use Rattle.ep_base.specs.declared.names.Name.{Name}
use Rattle.ep_ground.specs.Nodes.{GroundNode}
use Rattle.ep_ground.specs.Terms.{term_value}
use Rattle.ep_tree.specs.Environments.{Env}
use Rattle.ep_tree.specs.Values.{Index, ValueTree, all_defined, any_index, at_index, read_value, single}
use Rattle.ep_tree.specs.Views.{expr_tree}
use Rattle.ep_tree.specs.declared.syntax.Expr.{Expr}
use Rattle.ep_size.specs.Free.{is_free}
use Rattle.ep_unroll.specs.Blocks.{one_index}
use Rattle.ep_unroll.specs.Growing.{Grows}
use Rattle.ep_unroll.specs.Readings.{Numbering, Reading}
use Rattle.ep_unroll.specs.declared.slots.Slot.{Slot}
use Rattle.ep_unroll.specs.declared.slots.Slot.TheVariants.{Every, At, Open}

-- no decision variable stands in an index
abbrev pub IsFreeIndex : (Name → Bool) → Option Expr → Type 0
IsFreeIndex decided index = IfSome index (λ e. is_free decided (expr_tree e) ≡ true)

-- the index of a place, where it has one
unfoldable pub slot_index : List GroundNode → List ℤ → Slot → Option Index
slot_index nodes numbers Every = Some any_index
slot_index nodes numbers (At i) = Some (at_index i)
slot_index nodes numbers (Open t) = option_map at_index (term_value nodes numbers t)

-- the term of a place has a node
unfoldable pub IsSlot : ℕ → Slot → Type 0
IsSlot count Every = Unit {0}
IsSlot count (At i) = Unit {0}
IsSlot count (Open t) = t < count

-- A place has an index of a read, whatever values decision variables have.
pub record IsSlotOf (n : Numbering) (cells : Env) (old new : List GroundNode) (index : Option Expr) (s : Slot) : Type 0 where
  pub grows : Grows old new
  pub known : IsSlot (length new) s
  pub value : (r : Reading n cells) → slot_index new r.numbers s ≡ one_index n.mode r.values index

-- A place for an index of a read, or none where the index has no number.
unfoldable pub SlotMeans : Numbering → Env → List GroundNode → List GroundNode → Option Expr → Option Slot → Type 0
SlotMeans n cells old new index None = Grows old new × ((r : Reading n cells) → one_index n.mode r.values index ≡ None)
SlotMeans n cells old new index (Some s) = IsSlotOf n cells old new index s

-- Places have the indices of a read, one for each.
pub record AreSlotsOf (n : Numbering) (cells : Env) (old new : List GroundNode) (indices : List (Option Expr)) (ss : List Slot) : Type 0 where
  pub grows : Grows old new
  pub known : All (IsSlot (length new)) ss
  pub values : (r : Reading n cells) → map (slot_index new r.numbers) ss ≡ map (one_index n.mode r.values) indices

-- Places for the indices of a read, or none where an index has no number.
unfoldable pub SlotsMean : Numbering → Env → List GroundNode → List GroundNode → List (Option Expr) → Option (List Slot) → Type 0
SlotsMean n cells old new indices None = Grows old new × ((r : Reading n cells) → all_defined (map (one_index n.mode r.values) indices) ≡ None)
SlotsMean n cells old new indices (Some ss) = AreSlotsOf n cells old new indices ss

-- the terms that stand in places
unfoldable pub open_terms : List Slot → List ℕ
open_terms [] = []
open_terms (Every ∷ ss) = open_terms ss
open_terms (At i ∷ ss) = open_terms ss
open_terms (Open t ∷ ss) = t ∷ open_terms ss

-- the indices, where the terms have these numbers
unfoldable pub filled_in : List Slot → List ℤ → List Index
filled_in [] js = []
filled_in (Every ∷ ss) js = any_index ∷ filled_in ss js
filled_in (At i ∷ ss) js = at_index i ∷ filled_in ss js
filled_in (Open t ∷ ss) [] = []
filled_in (Open t ∷ ss) (j ∷ js) = at_index j ∷ filled_in ss js

-- the number at the place of the first key that has these indices
unfoldable pub look_up : List (List ℤ) → List ℤ → List ℤ → Option ℤ
look_up [] xs js = None
look_up (k ∷ ks) [] js = None
look_up (k ∷ ks) (x ∷ xs) js = if same_numbers k js then Some x else look_up ks xs js

-- Numbers under keys are what a read gives of a value, whatever numbers the terms of its indices have.
pub record AreRead (ss : List Slot) (v : ValueTree) (keys : List (List ℤ)) (xs : List ℤ) : Type 0 where
  pub long : length keys ≡ length xs
  pub read : (js : List ℤ) → length js ≡ length (open_terms ss) → read_value (filled_in ss js) v ≡ option_map single (look_up keys xs js)

-- Terms under keys have the numbers that a read gives of a matrix, wherever it has a value.
pub record AreEntries (old new : List GroundNode) (ss : List Slot) (value : List ℤ → Option ValueTree) (keys : List (List ℤ)) (ts : List ℕ) : Type 0 where
  pub grows : Grows old new
  pub known : All (λ t. t < length new) ts
  pub values : (numbers : List ℤ) (v : ValueTree) → value numbers ≡ Some v
      → (xs : List ℤ) × (map (term_value new numbers) ts ≡ map Some xs) × AreRead ss v keys xs

-- the terms of places have nodes, where there are places
unfoldable pub AreKnown : ℕ → Option (List Slot) → Type 0
AreKnown count None = Unit {0}
AreKnown count (Some ss) = All (IsSlot count) ss
