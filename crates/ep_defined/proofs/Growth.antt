-- Arenas that grow, and terms that stand in them.
use Rattle.std.proofs.Common.{◌≡◌, ℕ, ◌+◌, ◌-◌, ◌^◌, ◌<◌, ◌≤◌, ℤ, false, inl, inr, List, [], ◌∷◌, ◌++◌, length, Option, Some, None, refl, sym, ap, subst, ◌∙◌, arith, get_or, map}
use Rattle.std.specs.Prelude.{Err, IfOk, IfSome, Ok, OnOk, Result, option_to_list}
use Rattle.ep_base.specs.declared.operators.CompareOp.{CompareOp}
use Rattle.ep_defined.specs.declared.kinds.Kind.{Kind}
use Rattle.std.specs.List.{All}
use Rattle.std.proofs.lemmas.List.{append-nil, append_assoc, length-append, length-map}
use Rattle.std.proofs.lemmas.Option.{slice_get_within}
use Rattle.std.proofs.lemmas.List.Elements.{All-append, All-cons, All-get_or, All-head, All-map, All-nil, All-tail, All-weaker}
use Rattle.ep_defined.specs.Growing.{Grows, HasRoom, IsNodeAt, IsSafeOver}
use Rattle.ep_defined.specs.Images.{IsConjunction, IsDivisorTest, IsImage, IsImageBy, IsKeyTest, StandsIn, guards_in, image_at, image_kind, made_safe, nowhere, over_totals, total_at}
use Rattle.ep_defined.specs.declared.images.Image.{Image}
use Rattle.ep_defined.proofs.KindSteps.{safe_parts, safe_stands, safe_whole}
use Rattle.ep_defined.proofs.Reaches.{is_more}
use Rattle.ep_ground.proofs.SameParts.{parts_with}
use Rattle.ep_ground.proofs.Taking.{got_from_longer}
use Rattle.ep_ground.specs.ArenaSteps.{Interned}
use Rattle.ep_ground.specs.Grounds.{StandsOver}
use Rattle.ep_ground.specs.Nodes.{GroundNode, constant, undefined, cell, sum, product, quotient, remainder, power, absolute, least, greatest, pick, whole, safe_quotient, safe_remainder, safe_pick, compare, lex, member, negation, all_of, any_of, same_truth, all_different, counts, at_least, at_most, table, parts_of, is_partial}
use Rattle.ep_ground.specs.SameTrees.{with_parts}
use Rattle.ep_ground.specs.Terms.{PartsStandBefore}

before_push : (nodes : List GroundNode) (node : GroundNode) → All (λ part. part < length nodes) (parts_of node) → PartsStandBefore nodes → PartsStandBefore (nodes ++ node ∷ [])
before_push nodes node parts before = λ t other e. elim (got_from_longer nodes node t other e) as (λ _. All (λ part. part < t) (parts_of other)) [
  | inl g ↦ before t other g
  | inr g ↦ subst (λ k. All (λ part. part < k) (parts_of other)) (sym g.0) (subst (λ n. All (λ part. part < length nodes) (parts_of n)) g.1 parts)
]

pub interned_grows : (old : List GroundNode) (node : GroundNode) (new : List GroundNode) (asker : GroundNode) → All (λ part. part < length old) (parts_of node) → Interned old node new → ((cells : ℕ) → StandsOver cells asker → IsSafeOver cells node) → Grows asker 1 old new
interned_grows old node new asker parts h safe = elim h as (λ _. Grows asker 1 old new) [
  | inl there ↦ record { more = []; is = there.1 ∙ sym (append-nil old); few = omega arith; before = subst PartsStandBefore (sym there.1); safe = λ cells stands. All-nil (IsSafeOver cells) }
  | inr added ↦ record {
    more = node ∷ [];
    is = added.1;
    few = omega arith;
    before = λ before. subst PartsStandBefore (sym added.1) (before_push old node parts before);
    safe = λ cells stands. All-cons (IsSafeOver cells) node [] (safe cells stands) (All-nil (IsSafeOver cells));
  }
]

pub grows_not : (asker : GroundNode) (count : ℕ) (nodes : List GroundNode) → Grows asker count nodes nodes
grows_not asker count nodes = record { more = []; is = sym (append-nil nodes); few = omega arith; before = λ h. h; safe = λ cells stands. All-nil (IsSafeOver cells) }

pub grows_then : (asker : GroundNode) (a b c : ℕ) (old mid new : List GroundNode) → a + b ≤ c → Grows asker a old mid → Grows asker b mid new → Grows asker c old new
grows_then asker a b c old mid new fits g h = record {
  more = g.more ++ h.more;
  is = h.is ∙ ap (λ ns. ns ++ h.more) g.is ∙ append_assoc old g.more h.more;
  few = omega (arith, g.few, h.few, length-append g.more h.more);
  before = λ before. h.before (g.before before);
  safe = λ cells stands. All-append (IsSafeOver cells) g.more h.more (g.safe cells stands) (h.safe cells stands);
}

pub grows_at_most : (asker : GroundNode) (a b : ℕ) (old new : List GroundNode) → a ≤ b → Grows asker a old new → Grows asker b old new
grows_at_most asker a b old new fits g = record { more = g.more; is = g.is; few = omega (arith, g.few); before = g.before; safe = g.safe }

-- where there is room for one node more not all numbers are taken
pub never_full : (n : ℕ) → n + 1 < 2 ^ 32 → n ≡ 2 ^ 32 - 1 → ⊥
never_full n room full = omega (arith, room, full)

pub room_in_none : (nodes : List GroundNode) → nodes ≡ [] → HasRoom 1 nodes
room_in_none nodes e = omega (arith, ap length e)

pub room_less : (a b : ℕ) (nodes : List GroundNode) → a ≤ b → HasRoom b nodes → HasRoom a nodes
room_less a b nodes less room = omega (arith, less, room)

pub room_after : (asker : GroundNode) (a b c : ℕ) (old new : List GroundNode) → a + b ≤ c → Grows asker a old new → HasRoom c old → HasRoom b new
room_after asker a b c old new fits g room = omega (arith, fits, room, g.few, ap length g.is, length-append old g.more)

-- the node of a term stays
pub is_later : (asker : GroundNode) (count : ℕ) (old new : List GroundNode) (t : ℕ) (node : GroundNode) → Grows asker count old new → IsNodeAt old t node → IsNodeAt new t node
is_later asker count old new t node g is = subst (λ ns. IsNodeAt ns t node) (sym g.is) (is_more old g.more t node is)

pub below_later : (asker : GroundNode) (count : ℕ) (old new : List GroundNode) (t : ℕ) → Grows asker count old new → t < length old → t < length new
below_later asker count old new t g below = omega (arith, below, ap length g.is, length-append old g.more)

stands_later : (asker : GroundNode) (count : ℕ) (old new : List GroundNode) → Grows asker count old new → (image : Image) → StandsIn old image → StandsIn new image
stands_later asker count old new g image h = record { total = below_later asker count old new image.total g h.total; guard = by image.guard h.guard }
  where
    by : (o : Option ℕ) → IfSome o (λ t. t < length old) → IfSome o (λ t. t < length new)
    by None e = tt
    by (Some t) e = below_later asker count old new t g e

pub all_later : (asker : GroundNode) (count : ℕ) (old new : List GroundNode) (images : List Image) → Grows asker count old new → All (StandsIn old) images → All (StandsIn new) images
all_later asker count old new images g h = All-weaker (StandsIn old) (StandsIn new) (stands_later asker count old new g) images h

pub totals_stand : (nodes : List GroundNode) (images : List Image) (ts : List ℕ) → All (StandsIn nodes) images → All (λ t. t < length images) ts → All (λ t. t < length nodes) (map (total_at images) ts)
totals_stand nodes images ts stand below =
    All-map (λ t. t < length nodes) (total_at images) ts
    (All-weaker (λ t. t < length images) (λ t. total_at images t < length nodes) (λ t l. (All-get_or (StandsIn nodes) images t nowhere l stand).total) ts below)

pub parts_stand : (nodes : List GroundNode) (images : List Image) (node : GroundNode) → All (StandsIn nodes) images → All (λ t. t < length images) (parts_of node) → All (λ t. t < length nodes) (parts_of (over_totals images node))
parts_stand nodes images node stand below =
    subst (All (λ t. t < length nodes)) (sym (parts_with (total_at images) (made_safe node) ∙ ap (map (total_at images)) (safe_parts node)))
    (totals_stand nodes images (parts_of node) stand below)

pub guards_stand : (nodes : List GroundNode) (images : List Image) (ts : List ℕ) → All (StandsIn nodes) images → All (λ t. t < length images) ts → All (λ g. g < length nodes) (guards_in images ts)
guards_stand nodes images [] stand below = All-nil (λ g. g < length nodes)
guards_stand nodes images (t ∷ ts) stand below =
    All-append (λ g. g < length nodes) (option_to_list (image_at images t).guard) (guards_in images ts)
    (by (image_at images t).guard (All-get_or (StandsIn nodes) images t nowhere (All-head (λ u. u < length images) t ts below) stand).guard)
    (guards_stand nodes images ts stand (All-tail (λ u. u < length images) t ts below))
  where
    by : (o : Option ℕ) → IfSome o (λ g. g < length nodes) → All (λ g. g < length nodes) (option_to_list o)
    by None e = All-nil (λ g. g < length nodes)
    by (Some g) e = All-cons (λ g. g < length nodes) g [] e (All-nil (λ g. g < length nodes))

pub conjunction_none : (nodes : List GroundNode) (gs : List ℕ) → length gs < 1 → IsConjunction nodes gs None
unfolding IsConjunction
conjunction_none nodes [] h = tt
conjunction_none nodes (g ∷ gs) h = absurd (omega (arith, h))

pub conjunction_one : (nodes : List GroundNode) (gs : List ℕ) (t : ℕ) → 1 ≤ length gs → length gs < 2 → t ≡ get_or gs 0 t → IsConjunction nodes gs (Some t)
unfolding IsConjunction
conjunction_one nodes [] t low high e = absurd (omega (arith, low))
conjunction_one nodes (g ∷ []) t low high e = e
conjunction_one nodes (g ∷ k ∷ gs) t low high e = absurd (omega (arith, high))

pub conjunction_more : (nodes : List GroundNode) (gs : List ℕ) (t : ℕ) → 2 ≤ length gs → IsNodeAt nodes t (all_of gs) → IsConjunction nodes gs (Some t)
unfolding IsConjunction
conjunction_more nodes [] t low e = absurd (omega (arith, low))
conjunction_more nodes (g ∷ []) t low e = absurd (omega (arith, low))
conjunction_more nodes (g ∷ k ∷ gs) t low e = e

-- conditions with a last one have a term
pub conjunction_there : (nodes : List GroundNode) (gs : List ℕ) (last : ℕ) → IsConjunction nodes (gs ++ last ∷ []) None → ⊥
unfolding IsConjunction
conjunction_there nodes [] last is = is
conjunction_there nodes (g ∷ []) last is = is
conjunction_there nodes (g ∷ k ∷ gs) last is = is

-- a node that is safe over anything
pub all_of_safe : (gs : List ℕ) (cells : ℕ) → IsSafeOver cells (all_of gs)
unfolding is_partial StandsOver
all_of_safe gs cells = record { whole = refl; stands = tt }

partial_with : (f : ℕ → ℕ) (node : GroundNode) → is_partial (with_parts f node) ≡ is_partial node
unfolding is_partial with_parts
partial_with f (constant n) = refl
partial_with f undefined = refl
partial_with f (cell k) = refl
partial_with f (sum c parts) = refl
partial_with f (product a b) = refl
partial_with f (quotient a b) = refl
partial_with f (remainder a b) = refl
partial_with f (power a n) = refl
partial_with f (absolute a) = refl
partial_with f (least ts) = refl
partial_with f (greatest ts) = refl
partial_with f (pick ts keys indices) = refl
partial_with f (whole a ts) = refl
partial_with f (safe_quotient a b) = refl
partial_with f (safe_remainder a b) = refl
partial_with f (safe_pick ts keys indices) = refl
partial_with f (compare op a b) = refl
partial_with f (lex op ts us) = refl
partial_with f (member a ns) = refl
partial_with f (negation a) = refl
partial_with f (all_of ts) = refl
partial_with f (any_of ts) = refl
partial_with f (same_truth a b) = refl
partial_with f (all_different ts) = refl
partial_with f (counts ts ns us) = refl
partial_with f (at_least ts cs ns) = refl
partial_with f (at_most ts cs ns) = refl
partial_with f (table ts rows) = refl

stands_with : (f : ℕ → ℕ) (cells : ℕ) (node : GroundNode) → StandsOver cells node → StandsOver cells (with_parts f node)
unfolding StandsOver with_parts
stands_with f cells (constant n) h = h
stands_with f cells undefined h = h
stands_with f cells (cell k) h = h
stands_with f cells (sum c parts) h = h
stands_with f cells (product a b) h = h
stands_with f cells (quotient a b) h = h
stands_with f cells (remainder a b) h = h
stands_with f cells (power a n) h = h
stands_with f cells (absolute a) h = h
stands_with f cells (least ts) h = subst (λ n. 0 < n) (sym (length-map ts f)) h
stands_with f cells (greatest ts) h = subst (λ n. 0 < n) (sym (length-map ts f)) h
stands_with f cells (pick ts keys indices) h = h
stands_with f cells (whole a ts) h = h
stands_with f cells (safe_quotient a b) h = h
stands_with f cells (safe_remainder a b) h = h
stands_with f cells (safe_pick ts keys indices) h = h
stands_with f cells (compare op a b) h = h
stands_with f cells (lex op ts us) h = h
stands_with f cells (member a ns) h = h
stands_with f cells (negation a) h = h
stands_with f cells (all_of ts) h = h
stands_with f cells (any_of ts) h = h
stands_with f cells (same_truth a b) h = h
stands_with f cells (all_different ts) h = h
stands_with f cells (counts ts ns us) h = h
stands_with f cells (at_least ts cs ns) h = h
stands_with f cells (at_most ts cs ns) h = h
stands_with f cells (table ts rows) h = h

-- a node over totals is safe where its safe form isn't partial
pub over_safe : (cells : ℕ) (images : List Image) (node : GroundNode) → is_partial (made_safe node) ≡ false → StandsOver cells node → IsSafeOver cells (over_totals images node)
over_safe cells images node total stands = record {
  whole = partial_with (total_at images) (made_safe node) ∙ total;
  stands = stands_with (total_at images) cells (made_safe node) (safe_stands cells node stands);
}

pub compare_safe : (op : CompareOp) (a b : ℕ) (cells : ℕ) → IsSafeOver cells (compare op a b)
unfolding is_partial StandsOver
compare_safe op a b cells = record { whole = refl; stands = tt }

pub table_safe : (ts : List ℕ) (rows : List (List ℤ)) (cells : ℕ) → IsSafeOver cells (table ts rows)
unfolding is_partial StandsOver
table_safe ts rows cells = record { whole = refl; stands = tt }

pub own_stands : (nodes : List GroundNode) (o : Option ℕ) → IfSome o (λ t. t < length nodes) → All (λ t. t < length nodes) (option_to_list o)
own_stands nodes None h = All-nil (λ t. t < length nodes)
own_stands nodes (Some t) h = All-cons (λ u. u < length nodes) t [] h (All-nil (λ u. u < length nodes))

pub own_later : (asker : GroundNode) (count : ℕ) (old new : List GroundNode) (o : Option ℕ) → Grows asker count old new → IfSome o (λ t. t < length old) → IfSome o (λ t. t < length new)
own_later asker count old new None g h = tt
own_later asker count old new (Some t) g h = below_later asker count old new t g h

pub two_stand : (nodes : List GroundNode) (a b : ℕ) → a < length nodes → b < length nodes → All (λ t. t < length nodes) (a ∷ b ∷ [])
two_stand nodes a b h i = All-cons (λ t. t < length nodes) a (b ∷ []) h (All-cons (λ t. t < length nodes) b [] i (All-nil (λ t. t < length nodes)))

pub total_stands : (nodes : List GroundNode) (images : List Image) (t : ℕ) → All (StandsIn nodes) images → t < length images → total_at images t < length nodes
total_stands nodes images t stand below = (All-get_or (StandsIn nodes) images t nowhere below stand).total

pub ok_then : {T E : Type 0} (r : Result T E) (P Q : T → Type 0) → IfOk r P → ((x : T) → P x → Q x) → IfOk r Q
ok_then (Ok x) P Q h next = next x h
ok_then (Err e) P Q h next = tt

pub ok_both : {T E : Type 0} (r : Result T E) (P R Q : T → Type 0) → IfOk r P → IfOk r R → ((x : T) → P x → R x → Q x) → IfOk r Q
ok_both (Ok x) P R Q h i next = next x h i
ok_both (Err e) P R Q h i next = tt

pub on_ok_then : {T E : Type 0} (r : Result T E) (P Q : Type 0) → OnOk r P → (P → Q) → OnOk r Q
on_ok_then (Ok x) P Q h next = next h
on_ok_then (Err e) P Q h next = tt

nothing_else : (node : GroundNode) → (kind : Kind) → image_kind node ≡ kind → (Kind.Nothing ≡ kind → ⊥) → node ≡ undefined → ⊥
unfolding image_kind
nothing_else node kind e other u = other (sym (ap image_kind u) ∙ e)

pub number_safe : (node : GroundNode) → image_kind node ≡ Kind.Number → is_partial (made_safe node) ≡ false
number_safe node e = safe_whole node (nothing_else node Kind.Number e (λ h. cc)) (λ h. let x : Kind.Number ≡ Kind.Whole = sym e ∙ h in cc)

pub truth_safe : (node : GroundNode) → image_kind node ≡ Kind.Truth → is_partial (made_safe node) ≡ false
truth_safe node e = safe_whole node (nothing_else node Kind.Truth e (λ h. cc)) (λ h. let x : Kind.Truth ≡ Kind.Whole = sym e ∙ h in cc)

pub division_safe : (node : GroundNode) → image_kind node ≡ Kind.Division → is_partial (made_safe node) ≡ false
division_safe node e = safe_whole node (nothing_else node Kind.Division e (λ h. cc)) (λ h. let x : Kind.Division ≡ Kind.Whole = sym e ∙ h in cc)

pub pick_safe : (node : GroundNode) → image_kind node ≡ Kind.Pick → is_partial (made_safe node) ≡ false
pick_safe node e = safe_whole node (nothing_else node Kind.Pick e (λ h. cc)) (λ h. let x : Kind.Pick ≡ Kind.Whole = sym e ∙ h in cc)

pub image_by : (kind : Kind) (nodes : List GroundNode) (nought : ℕ) (images : List Image) (node : GroundNode) (image : Image) → image_kind node ≡ kind → IsImageBy kind nodes nought images node image → IsImage nodes nought images node image
image_by kind nodes nought images node image e is = subst (λ k. IsImageBy k nodes nought images node image) (sym e) is

pub divisor_later : (asker : GroundNode) (count : ℕ) (old new : List GroundNode) (nought : ℕ) (images : List Image) (node : GroundNode) (own : ℕ) → Grows asker count old new → IsDivisorTest old nought images node own → IsDivisorTest new nought images node own
unfolding IsDivisorTest
divisor_later asker count old new nought images (constant n) own g h = absurd h
divisor_later asker count old new nought images undefined own g h = absurd h
divisor_later asker count old new nought images (cell k) own g h = absurd h
divisor_later asker count old new nought images (sum c parts) own g h = absurd h
divisor_later asker count old new nought images (product a b) own g h = absurd h
divisor_later asker count old new nought images (quotient a b) own g h = is_later asker count old new own _ g h
divisor_later asker count old new nought images (remainder a b) own g h = is_later asker count old new own _ g h
divisor_later asker count old new nought images (power a n) own g h = absurd h
divisor_later asker count old new nought images (absolute a) own g h = absurd h
divisor_later asker count old new nought images (least ts) own g h = absurd h
divisor_later asker count old new nought images (greatest ts) own g h = absurd h
divisor_later asker count old new nought images (pick ts keys indices) own g h = absurd h
divisor_later asker count old new nought images (whole a ts) own g h = absurd h
divisor_later asker count old new nought images (safe_quotient a b) own g h = absurd h
divisor_later asker count old new nought images (safe_remainder a b) own g h = absurd h
divisor_later asker count old new nought images (safe_pick ts keys indices) own g h = absurd h
divisor_later asker count old new nought images (compare op a b) own g h = absurd h
divisor_later asker count old new nought images (lex op ts us) own g h = absurd h
divisor_later asker count old new nought images (member a ns) own g h = absurd h
divisor_later asker count old new nought images (negation a) own g h = absurd h
divisor_later asker count old new nought images (all_of ts) own g h = absurd h
divisor_later asker count old new nought images (any_of ts) own g h = absurd h
divisor_later asker count old new nought images (same_truth a b) own g h = absurd h
divisor_later asker count old new nought images (all_different ts) own g h = absurd h
divisor_later asker count old new nought images (counts ts ns us) own g h = absurd h
divisor_later asker count old new nought images (at_least ts cs ns) own g h = absurd h
divisor_later asker count old new nought images (at_most ts cs ns) own g h = absurd h
divisor_later asker count old new nought images (table ts rows) own g h = absurd h

pub keys_later : (asker : GroundNode) (count : ℕ) (old new : List GroundNode) (images : List Image) (node : GroundNode) (own : ℕ) → Grows asker count old new → IsKeyTest old images node own → IsKeyTest new images node own
unfolding IsKeyTest
keys_later asker count old new images (constant n) own g h = absurd h
keys_later asker count old new images undefined own g h = absurd h
keys_later asker count old new images (cell k) own g h = absurd h
keys_later asker count old new images (sum c parts) own g h = absurd h
keys_later asker count old new images (product a b) own g h = absurd h
keys_later asker count old new images (quotient a b) own g h = absurd h
keys_later asker count old new images (remainder a b) own g h = absurd h
keys_later asker count old new images (power a n) own g h = absurd h
keys_later asker count old new images (absolute a) own g h = absurd h
keys_later asker count old new images (least ts) own g h = absurd h
keys_later asker count old new images (greatest ts) own g h = absurd h
keys_later asker count old new images (pick ts keys indices) own g h = is_later asker count old new own _ g h
keys_later asker count old new images (whole a ts) own g h = absurd h
keys_later asker count old new images (safe_quotient a b) own g h = absurd h
keys_later asker count old new images (safe_remainder a b) own g h = absurd h
keys_later asker count old new images (safe_pick ts keys indices) own g h = absurd h
keys_later asker count old new images (compare op a b) own g h = absurd h
keys_later asker count old new images (lex op ts us) own g h = absurd h
keys_later asker count old new images (member a ns) own g h = absurd h
keys_later asker count old new images (negation a) own g h = absurd h
keys_later asker count old new images (all_of ts) own g h = absurd h
keys_later asker count old new images (any_of ts) own g h = absurd h
keys_later asker count old new images (same_truth a b) own g h = absurd h
keys_later asker count old new images (all_different ts) own g h = absurd h
keys_later asker count old new images (counts ts ns us) own g h = absurd h
keys_later asker count old new images (at_least ts cs ns) own g h = absurd h
keys_later asker count old new images (at_most ts cs ns) own g h = absurd h
keys_later asker count old new images (table ts rows) own g h = absurd h

pub divisor_there : (nodes : List GroundNode) (nought : ℕ) (images : List Image) (node : GroundNode) (own : ℕ) → IsDivisorTest nodes nought images node own → own < length nodes
unfolding IsDivisorTest
divisor_there nodes nought images (constant n) own h = absurd h
divisor_there nodes nought images undefined own h = absurd h
divisor_there nodes nought images (cell k) own h = absurd h
divisor_there nodes nought images (sum c parts) own h = absurd h
divisor_there nodes nought images (product a b) own h = absurd h
divisor_there nodes nought images (quotient a b) own h = slice_get_within nodes own _ h
divisor_there nodes nought images (remainder a b) own h = slice_get_within nodes own _ h
divisor_there nodes nought images (power a n) own h = absurd h
divisor_there nodes nought images (absolute a) own h = absurd h
divisor_there nodes nought images (least ts) own h = absurd h
divisor_there nodes nought images (greatest ts) own h = absurd h
divisor_there nodes nought images (pick ts keys indices) own h = absurd h
divisor_there nodes nought images (whole a ts) own h = absurd h
divisor_there nodes nought images (safe_quotient a b) own h = absurd h
divisor_there nodes nought images (safe_remainder a b) own h = absurd h
divisor_there nodes nought images (safe_pick ts keys indices) own h = absurd h
divisor_there nodes nought images (compare op a b) own h = absurd h
divisor_there nodes nought images (lex op ts us) own h = absurd h
divisor_there nodes nought images (member a ns) own h = absurd h
divisor_there nodes nought images (negation a) own h = absurd h
divisor_there nodes nought images (all_of ts) own h = absurd h
divisor_there nodes nought images (any_of ts) own h = absurd h
divisor_there nodes nought images (same_truth a b) own h = absurd h
divisor_there nodes nought images (all_different ts) own h = absurd h
divisor_there nodes nought images (counts ts ns us) own h = absurd h
divisor_there nodes nought images (at_least ts cs ns) own h = absurd h
divisor_there nodes nought images (at_most ts cs ns) own h = absurd h
divisor_there nodes nought images (table ts rows) own h = absurd h

pub keys_there : (nodes : List GroundNode) (images : List Image) (node : GroundNode) (own : ℕ) → IsKeyTest nodes images node own → own < length nodes
unfolding IsKeyTest
keys_there nodes images (constant n) own h = absurd h
keys_there nodes images undefined own h = absurd h
keys_there nodes images (cell k) own h = absurd h
keys_there nodes images (sum c parts) own h = absurd h
keys_there nodes images (product a b) own h = absurd h
keys_there nodes images (quotient a b) own h = absurd h
keys_there nodes images (remainder a b) own h = absurd h
keys_there nodes images (power a n) own h = absurd h
keys_there nodes images (absolute a) own h = absurd h
keys_there nodes images (least ts) own h = absurd h
keys_there nodes images (greatest ts) own h = absurd h
keys_there nodes images (pick ts keys indices) own h = slice_get_within nodes own _ h
keys_there nodes images (whole a ts) own h = absurd h
keys_there nodes images (safe_quotient a b) own h = absurd h
keys_there nodes images (safe_remainder a b) own h = absurd h
keys_there nodes images (safe_pick ts keys indices) own h = absurd h
keys_there nodes images (compare op a b) own h = absurd h
keys_there nodes images (lex op ts us) own h = absurd h
keys_there nodes images (member a ns) own h = absurd h
keys_there nodes images (negation a) own h = absurd h
keys_there nodes images (all_of ts) own h = absurd h
keys_there nodes images (any_of ts) own h = absurd h
keys_there nodes images (same_truth a b) own h = absurd h
keys_there nodes images (all_different ts) own h = absurd h
keys_there nodes images (counts ts ns us) own h = absurd h
keys_there nodes images (at_least ts cs ns) own h = absurd h
keys_there nodes images (at_most ts cs ns) own h = absurd h
keys_there nodes images (table ts rows) own h = absurd h

pub is_there : (nodes : List GroundNode) (t : ℕ) (node : GroundNode) → IsNodeAt nodes t node → t < length nodes
is_there nodes t node is = slice_get_within nodes t node is
