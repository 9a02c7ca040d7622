-- A node that is taken in: its term has the node's value.
use Rattle.ep_unroll.proofs.Words.{◌≡◌, ℕ, ℤ, List, [], ◌∷◌, Some, inl, inr, sym, ◌∙◌, slice_get, append-nil, slice_get_within, value_is, Interned, GroundNode, IsArena, node_value, term_value, Grows, Puts}

-- a term of an arena has the value of its node
pub node_value_at : (nodes : List GroundNode) → IsArena nodes → (t : ℕ) (node : GroundNode) → slice_get nodes t ≡ Some node
    → (numbers : List ℤ) → term_value nodes numbers t ≡ node_value numbers (term_value nodes numbers) node
node_value_at nodes arena t node e numbers = value_is nodes numbers arena.before t node e

grows_by : (old new : List GroundNode) (node : GroundNode) → Interned old node new → Grows old new
grows_by old new node (inl h) = record { more = []; whole = h.1 ∙ sym (append-nil old) }
grows_by old new node (inr h) = record { more = node ∷ []; whole = h.1 }

-- a node that is taken in
pub put_is : (old new : List GroundNode) (node : GroundNode) (t : ℕ) → IsArena new → Interned old node new → slice_get new t ≡ Some node → Puts old new node t
put_is old new node t arena taken e = record {
  grows = grows_by old new node taken;
  known = slice_get_within new t node e;
  value = node_value_at new arena t node e;
}
