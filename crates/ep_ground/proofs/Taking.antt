-- Taking a node into an arena.
use Rattle.std.proofs.Common.{◌≡◌, ℕ, zero, suc, ◌+◌, ◌<◌, ◌≤◌, Bool, true, false, ◌||◌, ◌⊎◌, inl, inr, List, [], ◌∷◌, ◌++◌, length, Some, None, refl, sym, ap, subst, ◌∙◌, arith, nat_lt, slice_get}
use Rattle.std.specs.Prelude.{is_some, position, unwrap_or}
use Rattle.std.specs.List.{All, Contains, list_any, position_or_len}
use Rattle.std.proofs.lemmas.Bool.{false≢true}
use Rattle.std.proofs.lemmas.List.{length-append}
use Rattle.indexmap.specs.IndexSet.{insert_key}
use Rattle.ep_ground.specs.ArenaSteps.{Interned}
use Rattle.ep_ground.specs.declared.nodes.Node.{Node}
use Rattle.ep_ground.specs.NodeViews.{plain_node, plain_nodes}
use Rattle.ep_ground.specs.Nodes.{GroundNode, parts_of}
use Rattle.ep_ground.specs.Terms.{IsArena}
use Rattle.ep_ground.proofs.SameNodes.{nodes_decide, same_node}

-- what is got from a list stands in it, and what stands in it is got from it
pub contains_from_get : {X : Type 0} (xs : List X) (k : ℕ) (x : X) → slice_get xs k ≡ Some x → Contains xs x
contains_from_get [] k x e = cc
contains_from_get (y ∷ ys) zero x e = (0, omega arith, ap (λ o. unwrap_or o y) e)
contains_from_get (y ∷ ys) (suc k) x e =
    let rest = contains_from_get ys k x e in (suc rest.0, omega (arith, rest.1), rest.2)

pub got_at_end : {X : Type 0} (xs : List X) (x : X) → slice_get (xs ++ x ∷ []) (length xs) ≡ Some x
got_at_end [] x = refl
got_at_end (y ∷ ys) x = got_at_end ys x

-- what is got from a list with one more element is got from the list, or is that element at its end
pub got_from_longer : {X : Type 0} (xs : List X) (x : X) (k : ℕ) (y : X) → slice_get (xs ++ x ∷ []) k ≡ Some y → (slice_get xs k ≡ Some y) ⊎ ((k ≡ length xs) × (x ≡ y))
got_from_longer [] x zero y e = inr (refl, ap (λ o. unwrap_or o x) e)
got_from_longer [] x (suc k) y e = inl e
got_from_longer (z ∷ zs) x zero y e = inl e
got_from_longer (z ∷ zs) x (suc k) y e =
    elim (got_from_longer zs x k y e) as (λ _. (slice_get zs k ≡ Some y) ⊎ ((suc k ≡ length (z ∷ zs)) × (x ≡ y))) [
      | inl h ↦ inl h
      | inr h ↦ inr (ap suc h.0, h.1)
    ]

-- an arena with a new node at its end, whose parts stand before it
pub arena_push : (nodes : List GroundNode) (node : GroundNode) → IsArena nodes → All (λ part. part < length nodes) (parts_of node) → (Contains nodes node → ⊥) → IsArena (nodes ++ node ∷ [])
arena_push nodes node h parts new = record {
  before = λ t other e. elim (got_from_longer nodes node t other e) as (λ _. All (λ part. part < t) (parts_of other)) [
    | inl g ↦ h.before t other g
    | inr g ↦ subst (λ k. All (λ part. part < k) (parts_of other)) (sym g.0) (subst (λ n. All (λ part. part < length nodes) (parts_of n)) g.1 parts)
  ];
  different = λ s t other e f. elim (got_from_longer nodes node s other e) as (λ _. s ≡ t) [
    | inl g ↦ elim (got_from_longer nodes node t other f) as (λ _. s ≡ t) [
      | inl i ↦ h.different s t other g i
      | inr i ↦ absurd (new (contains_from_get nodes s node (g ∙ ap (λ n. Some n) (sym i.1))))
    ]
    | inr g ↦ elim (got_from_longer nodes node t other f) as (λ _. s ≡ t) [
      | inl i ↦ absurd (new (contains_from_get nodes t node (i ∙ ap (λ n. Some n) (sym g.1))))
      | inr i ↦ g.0 ∙ sym i.0
    ]
  ];
}

pub plain_push : (nodes : List Node) (node : Node) → plain_nodes (nodes ++ node ∷ []) ≡ plain_nodes nodes ++ plain_node node ∷ []
plain_push [] node = refl
plain_push (n ∷ nodes) node = ap (λ ns. plain_node n ∷ ns) (plain_push nodes node)

pub plain_length : (nodes : List Node) → length (plain_nodes nodes) ≡ length nodes
plain_length [] = refl
plain_length (n ∷ nodes) = ap suc (plain_length nodes)

one_plus : (n : ℕ) → 1 + n ≡ suc n
one_plus n = omega arith

-- the place of a node that is there has that node
pub placed : (nodes : List Node) (node : Node) → list_any (same_node node) nodes ≡ true → slice_get (plain_nodes nodes) (position_or_len (same_node node) nodes) ≡ Some (plain_node node)
placed [] node e = absurd (false≢true e)
placed (n ∷ nodes) node e = by (same_node node n) refl (placed nodes node)
  where
    by : (b : Bool) → same_node node n ≡ b → (list_any (same_node node) nodes ≡ true → slice_get (plain_nodes nodes) (position_or_len (same_node node) nodes) ≡ Some (plain_node node)) → slice_get (plain_nodes (n ∷ nodes)) (position_or_len (same_node node) (n ∷ nodes)) ≡ Some (plain_node node)
    by true g more = rw g (ap (λ m. Some m) (sym ((nodes_decide node n).0 g)))
    by false g more = rw g (ap (λ k. slice_get (plain_nodes (n ∷ nodes)) k) (one_plus (position_or_len (same_node node) nodes)) ∙ more (sym (ap (λ b. b || list_any (same_node node) nodes) g) ∙ e))

-- a node that isn't there comes at the end
pub new_place : (nodes : List Node) (node : Node) → list_any (same_node node) nodes ≡ false → position_or_len (same_node node) nodes ≡ length nodes
new_place [] node e = refl
new_place (n ∷ nodes) node e = by (same_node node n) refl (new_place nodes node)
  where
    by : (b : Bool) → same_node node n ≡ b → (list_any (same_node node) nodes ≡ false → position_or_len (same_node node) nodes ≡ length nodes) → position_or_len (same_node node) (n ∷ nodes) ≡ length (n ∷ nodes)
    by true g more = absurd (false≢true (sym e ∙ ap (λ b. b || list_any (same_node node) nodes) g))
    by false g more = rw g (one_plus (position_or_len (same_node node) nodes) ∙ ap suc (more (sym (ap (λ b. b || list_any (same_node node) nodes) g) ∙ e)))

-- and none of the nodes is that one
pub not_there : (nodes : List Node) (node : Node) → list_any (same_node node) nodes ≡ false → Contains (plain_nodes nodes) (plain_node node) → ⊥
not_there [] node e found = absurd (omega (arith, found.1))
not_there (n ∷ nodes) node e (zero, below, is) = false≢true (sym e ∙ ap (λ b. b || list_any (same_node node) nodes) ((nodes_decide node n).1 (sym is)))
not_there (n ∷ nodes) node e (suc k, below, is) = by (same_node node n) refl (λ h. not_there nodes node h (k, omega (arith, below), is))
  where
    by : (b : Bool) → same_node node n ≡ b → (list_any (same_node node) nodes ≡ false → ⊥) → ⊥
    by true g more = false≢true (sym e ∙ ap (λ b. b || list_any (same_node node) nodes) g)
    by false g more = more (sym (ap (λ b. b || list_any (same_node node) nodes) g) ∙ e)

-- what taking a node in makes of an arena
pub record IsTaken (old : List GroundNode) (node : GroundNode) (new : List GroundNode) (place : ℕ) : Type 0 where
  pub arena : IsArena new
  pub term : slice_get new place ≡ Some node
  pub interned : Interned old node new

pub taken : (nodes : List Node) (node : Node) → IsArena (plain_nodes nodes) → All (λ part. part < length (plain_nodes nodes)) (parts_of (plain_node node)) → IsTaken (plain_nodes nodes) (plain_node node) (plain_nodes (insert_key same_node nodes node)) (position_or_len (same_node node) nodes)
taken nodes node h parts = by (list_any (same_node node) nodes) refl
  where
    by : (b : Bool) → list_any (same_node node) nodes ≡ b → IsTaken (plain_nodes nodes) (plain_node node) (plain_nodes (insert_key same_node nodes node)) (position_or_len (same_node node) nodes)
    by true g =
        subst (λ ns. IsTaken (plain_nodes nodes) (plain_node node) (plain_nodes ns) (position_or_len (same_node node) nodes)) (rw g refl)
        (record { arena = h; term = placed nodes node g; interned = inl (contains_from_get _ _ _ (placed nodes node g), refl) })
    by false g =
        let none = not_there nodes node g in
        subst (λ ns. IsTaken (plain_nodes nodes) (plain_node node) (plain_nodes ns) (position_or_len (same_node node) nodes)) (rw g refl)
        (subst (λ ns. IsTaken (plain_nodes nodes) (plain_node node) ns (position_or_len (same_node node) nodes)) (sym (plain_push nodes node))
        (record {
          arena = arena_push (plain_nodes nodes) (plain_node node) h parts none;
          term = ap (λ k. slice_get (plain_nodes nodes ++ plain_node node ∷ []) k) (new_place nodes node g ∙ sym (plain_length nodes)) ∙ got_at_end (plain_nodes nodes) (plain_node node);
          interned = inr (none, refl);
        }))

-- the place that a search answers is the first one
pub position_is : (p : Node → Bool) (nodes : List Node) (k : ℕ) → position p nodes ≡ Some k → k ≡ position_or_len p nodes
position_is p nodes k e = by (nat_lt (position_or_len p nodes) (length nodes)) refl
  where
    by : (b : Bool) → nat_lt (position_or_len p nodes) (length nodes) ≡ b → k ≡ position_or_len p nodes
    by true g = let one : position p nodes ≡ Some (position_or_len p nodes) = rw g refl in sym (ap (λ o. unwrap_or o k) (sym one ∙ e))
    by false g = let none : position p nodes ≡ None = rw g refl in absurd (false≢true (ap is_some (sym none ∙ e)))

-- a node that was found at a place is the node there
pub known_at : (nodes : List Node) (node : Node) (k : ℕ) → list_any (same_node node) nodes ≡ true → position (same_node node) nodes ≡ Some k → slice_get (plain_nodes nodes) k ≡ Some (plain_node node)
known_at nodes node k there at = ap (λ n. slice_get (plain_nodes nodes) n) (position_is (same_node node) nodes k at) ∙ placed nodes node there

-- one node more at most
pub longer_by_one : (nodes : List Node) (node : Node) → length (insert_key same_node nodes node) ≤ length nodes + 1
longer_by_one nodes node = by (list_any (same_node node) nodes) refl
  where
    by : (b : Bool) → list_any (same_node node) nodes ≡ b → length (insert_key same_node nodes node) ≤ length nodes + 1
    by true g = rw g (omega arith)
    by false g = rw g (omega (arith, length-append nodes (node ∷ [])))
