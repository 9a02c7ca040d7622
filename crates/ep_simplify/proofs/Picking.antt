-- What stands for the least, the greatest and what is picked of some terms.
use Rattle.std.proofs.Common.{◌≡◌, ◌≢◌, ◌≤ℤ◌, ◌&&◌, ◌++◌, ℕ, zero, suc, ◌+◌, ◌<◌, ◌≤◌, ℤ, pos, List, [], ◌∷◌, Vec, length, Option, Some, None, refl, sym, ap, subst, ◌∙◌, arith, slice_get, take, drop}
use Rattle.std.specs.Global.{Global}
use Rattle.std.specs.Prelude.{IfSome, fold, get_or, map, option_and_then, option_map, position, unwrap_or, IsSome}
use Rattle.std.specs.Cmp.Lexicographic.{pointwise}
use Rattle.std.specs.Int.{int_max, int_min}
use Rattle.std.specs.Ordering.{int_eq}
use Rattle.std.specs.List.{All, Contains}
use Rattle.std.proofs.lemmas.Int.{ints}
use Rattle.std.proofs.lemmas.List.{take_all, take_more}
use Rattle.std.proofs.lemmas.List.Elements.{All-append, All-contains, All-head, Contains-append_left}
use Rattle.std.proofs.lemmas.Option.{get_or_from_slice_get, same_Some, slice_get-get_or, slice_get-map, slice_get_within}
use Rattle.ep_base.specs.Intervals.{Interval, greatest_interval, greatest_or_zero, highs, hull, least_interval, least_or_zero, lows, only}
use Rattle.ep_base.specs.Numbers.{greatest_of, least_of, same_numbers}
use Rattle.ep_base.specs.Options.{on_both}
use Rattle.ep_base.specs.Reads.{first_or_zero, picked, safe_picked}
use Rattle.ep_defined.proofs.Parts.{there, values_there}
use Rattle.ep_ground.specs.Bounds.{node_reach, term_reach}
use Rattle.ep_ground.specs.Nodes.{GroundNode, constant, least, greatest, safe_pick, parts_of}
use Rattle.ep_ground.specs.Terms.{node_value, term_values_of}
use Rattle.ep_ground.specs.declared.cells.Cell.{Cell}
use Rattle.ep_numbers.proofs.Ends.{max_right, max_start, min_right, min_start, up}
use Rattle.ep_reach.specs.Narrowing.{IsNarrower}
use Rattle.ep_simplify.proofs.Forms.{NumbersOf, alone_at, by_numbers, numbers_of}
use Rattle.ep_simplify.proofs.Taking.{is_part, number_settles, part_settles, replaced_by_number}
use Rattle.ep_simplify.proofs.Untold.{filled_at}
use Rattle.ep_simplify.proofs.Values.{number_under}
use Rattle.ep_simplify.specs.Decided.{IsNotEmpty, IsNumber, IsUntoldBy, lone_number}
use Rattle.ep_simplify.specs.Settling.{AreNumbers, IsNews, IsSettled, IsTaken, IsUntold, Picks}
use Rattle.ep_simplify.specs.declared.news.News.{News}

-- ---- the least and the greatest

pub least_of_one : (cells : List Cell) (old : News) (ts : List ℕ) (t : ℕ) → IsNews cells old → All (λ p. p < length old.arena) ts → ts ≡ t ∷ [] → IsSettled cells old (least ts) old t
unfolding node_value node_reach parts_of least_interval least_or_zero least_of
least_of_one cells old ts t h below one =
    subst (λ us. IsSettled cells old (least us) old t) (sym one)
    (part_settles cells old (least (t ∷ [])) t h low (is_part old.arena (least (t ∷ [])) t (0, omega arith, refl))
    (λ values are.
    let m = numbers_of cells old values h are in
    m.have t low ∙ sym (by_numbers cells old values m (least (t ∷ [])) (subst (All (λ p. p < length old.arena)) one below) ∙ value values (number_under old.arena values)))
    (λ i n. record { low = n.low; high = n.high }))
  where
    low : t < length old.arena
    low = All-head (λ p. p < length old.arena) t [] (subst (All (λ p. p < length old.arena)) one below)

    value : (values : List ℤ) (n : ℕ → ℤ) → node_value values (there n) (least (t ∷ [])) ≡ Some (n t)
    value values n = ap (option_and_then least_of) (values_there n (t ∷ []))

pub greatest_of_one : (cells : List Cell) (old : News) (ts : List ℕ) (t : ℕ) → IsNews cells old → All (λ p. p < length old.arena) ts → ts ≡ t ∷ [] → IsSettled cells old (greatest ts) old t
unfolding node_value node_reach parts_of greatest_interval greatest_or_zero greatest_of
greatest_of_one cells old ts t h below one =
    subst (λ us. IsSettled cells old (greatest us) old t) (sym one)
    (part_settles cells old (greatest (t ∷ [])) t h low (is_part old.arena (greatest (t ∷ [])) t (0, omega arith, refl))
    (λ values are.
    let m = numbers_of cells old values h are in
    m.have t low ∙ sym (by_numbers cells old values m (greatest (t ∷ [])) (subst (All (λ p. p < length old.arena)) one below) ∙ value values (number_under old.arena values)))
    (λ i n. record { low = n.low; high = n.high }))
  where
    low : t < length old.arena
    low = All-head (λ p. p < length old.arena) t [] (subst (All (λ p. p < length old.arena)) one below)

    value : (values : List ℤ) (n : ℕ → ℤ) → node_value values (there n) (greatest (t ∷ [])) ≡ Some (n t)
    value values n = ap (option_and_then greatest_of) (values_there n (t ∷ []))

-- a node about whose reach nothing more is known
pub least_untold : (cells : List Cell) (news : News) (ts : List ℕ) → ((n : ℤ) → node_reach cells (term_reach news.arena cells) (least ts) ≡ only n → ⊥) → IsUntold cells news.arena (least ts)
unfolding IsUntoldBy
least_untold cells news ts none = record { untold = tt; folded = λ n e. absurd (none n e) }

pub greatest_untold : (cells : List Cell) (news : News) (ts : List ℕ) → ((n : ℤ) → node_reach cells (term_reach news.arena cells) (greatest ts) ≡ only n → ⊥) → IsUntold cells news.arena (greatest ts)
unfolding IsUntoldBy
greatest_untold cells news ts none = record { untold = tt; folded = λ n e. absurd (none n e) }

pub pick_untold : (cells : List Cell) (news : News) (ts : List ℕ) (keys : List (List ℤ)) (us : List ℕ) → ((n : ℤ) → node_reach cells (term_reach news.arena cells) (safe_pick ts keys us) ≡ only n → ⊥) → IsUntold cells news.arena (safe_pick ts keys us)
unfolding IsUntoldBy
pick_untold cells news ts keys us none = record { untold = tt; folded = λ n e. absurd (none n e) }

pub not_one : (ts us : List ℕ) → us ≡ ts → length us ≢ 1 → length ts ≢ 1
not_one ts us same h one = h (ap length same ∙ one)

-- ---- keys

pub pointwise_same : (xs ys : List ℤ) → pointwise int_eq xs ys ≡ same_numbers xs ys
unfolding same_numbers
pointwise_same [] [] = refl
pointwise_same [] (y ∷ ys) = refl
pointwise_same (x ∷ xs) [] = refl
pointwise_same (x ∷ xs) (y ∷ ys) = ap (λ b. int_eq x y && b) (pointwise_same xs ys)

-- ---- what is picked

at_key : (x : ℕ → ℤ) (ts : List ℕ) (o : Option ℕ) → option_and_then (slice_get (map x ts)) o ≡ option_map x (option_and_then (slice_get ts) o)
at_key x ts None = refl
at_key x ts (Some k) = slice_get-map x ts k

contains_at : (ts : List ℕ) (k t : ℕ) → slice_get ts k ≡ Some t → Contains ts t
contains_at ts k t at = (k, slice_get_within ts k t at, get_or_from_slice_get ts k t t at)

pub picks_at : (ts : List ℕ) (keys : List (List ℤ)) (indices : List ℤ) (t : ℕ) → option_and_then (slice_get ts) (position (λ key. same_numbers key indices) keys) ≡ Some t → Picks ts keys indices t
unfolding safe_picked picked
picks_at ts keys indices t at = record {
  among = found_at (position (λ key. same_numbers key indices) keys) at;
  value = λ x. ap (λ o. unwrap_or o (first_or_zero (map x ts))) (at_key x ts (position (λ key. same_numbers key indices) keys) ∙ ap (option_map x) at);
}
  where
    found_at : (o : Option ℕ) → option_and_then (slice_get ts) o ≡ Some t → Contains ts t
    found_at None e = absurd cc
    found_at (Some k) e = contains_at ts k t e

pub picks_first : (ts : List ℕ) (keys : List (List ℤ)) (indices : List ℤ) (t : ℕ) → option_and_then (slice_get ts) (position (λ key. same_numbers key indices) keys) ≡ None → slice_get ts 0 ≡ Some t → Picks ts keys indices t
unfolding safe_picked picked first_or_zero
picks_first ts keys indices t none at = record {
  among = contains_at ts 0 t at;
  value = λ x. ap (λ o. unwrap_or o (first_or_zero (map x ts))) (at_key x ts (position (λ key. same_numbers key indices) keys) ∙ ap (option_map x) none) ∙ first x ts at;
}
  where
    first : (x : ℕ → ℤ) (us : List ℕ) → slice_get us 0 ≡ Some t → first_or_zero (map x us) ≡ x t
    first x [] e = absurd cc
    first x (u ∷ us) e = ap x (same_Some u t e)

pub first_picks : (ts : List ℕ) (keys : List (List ℤ)) (indices : List ℤ) (o : Option ℕ) → option_and_then (slice_get ts) (position (λ key. same_numbers key indices) keys) ≡ None → o ≡ slice_get ts 0 → IfSome o (λ t. Picks ts keys indices t)
first_picks ts keys indices None none is = tt
first_picks ts keys indices (Some t) none is = picks_first ts keys indices t none (sym is)

pub no_first : (ts : List ℕ) → slice_get ts 0 ≡ None → ts ≡ []
no_first [] e = refl
no_first (t ∷ ts) e = absurd cc

-- ---- numbers of indices

-- the numbers of terms that are numbers alone
are_numbers : (cells : List Cell) (news : News) (values : List ℤ) → NumbersOf cells news values → (ts : List ℕ) (ns : List ℤ) → AreNumbers news.arena ts ns → map (number_under news.arena values) ts ≡ ns
are_numbers cells news values m [] [] e = refl
are_numbers cells news values m [] (n ∷ ns) e = absurd cc
are_numbers cells news values m (t ∷ ts) [] e = absurd cc
are_numbers cells news values m (t ∷ ts) (n ∷ ns) e =
    (λ i. alone_at cells news values m t n (heads (map (lone_number news.arena) ts) (map (λ k. Some k) ns) e) i ∷ are_numbers cells news values m ts ns (tails (map (lone_number news.arena) ts) (map (λ k. Some k) ns) e) i)
  where
    heads : (os ps : List (Option ℤ)) → lone_number news.arena t ∷ os ≡ Some n ∷ ps → lone_number news.arena t ≡ Some n
    heads os ps f = ap (λ us. get_or us 0 None) f

    tails : (os ps : List (Option ℤ)) → lone_number news.arena t ∷ os ≡ Some n ∷ ps → os ≡ ps
    tails os ps f = ap (λ us. drop 1 us) f

map_pushed : {A B : Type 0} (f : A → B) (xs : List A) (x : A) → map f (xs ++ x ∷ []) ≡ map f xs ++ f x ∷ []
map_pushed f [] x = refl
map_pushed f (y ∷ ys) x = ap (λ zs. f y ∷ zs) (map_pushed f ys x)

-- one more of them
pub numbers_more : (nodes : List GroundNode) (ts : List ℕ) (i t : ℕ) (n : ℤ) (ns ms : List ℤ) → AreNumbers nodes (take i ts) ns → i < length ts → t ≡ get_or ts i t → lone_number nodes t ≡ Some n → ms ≡ ns ++ n ∷ [] → AreNumbers nodes (take (i + 1) ts) ms
numbers_more nodes ts i t n ns ms so_far below at alone push =
    ap (map (lone_number nodes)) (take_more ts i t below ∙ ap (λ u. take i ts ++ u ∷ []) (sym at))
    ∙ map_pushed (lone_number nodes) (take i ts) t
    ∙ (λ j. so_far j ++ alone j ∷ [])
    ∙ sym (map_pushed (λ k. Some k) ns n)
    ∙ ap (map (λ k. Some k)) (sym push)

-- a term that isn't one
pub number_missing : (nodes : List GroundNode) (ts : List ℕ) (i t : ℕ) → i < length ts → t ≡ get_or ts i t → lone_number nodes t ≡ None → All (IsNumber nodes) ts → ⊥
number_missing nodes ts i t below at none all = isnt (lone_number nodes t) none (subst (IsNumber nodes) (sym at) (all i t below))
  where
    isnt : (o : Option ℤ) → o ≡ None → IsSome o → ⊥
    isnt None e h = absurd cc
    isnt (Some n) e h = absurd cc

pub numbers_all : (nodes : List GroundNode) (ts : List ℕ) (i : ℕ) (ns : List ℤ) → AreNumbers nodes (take i ts) ns → length ts ≤ i → AreNumbers nodes ts ns
numbers_all nodes ts i ns all long = subst (λ us. AreNumbers nodes us ns) (take_all i ts long) all

-- numbers that some terms are
pub numbers_found : (nodes : List GroundNode) (ts us : List ℕ) (found : Option (Vec ℤ Global)) (numbers : Vec ℤ Global) → IfSome found (λ ns. AreNumbers nodes us ns.items) → found ≡ Some numbers → us ≡ ts → AreNumbers nodes ts numbers.items
numbers_found nodes ts us found numbers h some same =
    subst (λ vs. AreNumbers nodes vs numbers.items) same (subst (λ (o : Option (Vec ℤ Global)). IfSome o (λ ns. AreNumbers nodes us ns.items)) some h)

-- ---- picks

pick_value : (values : List ℤ) (n : ℕ → ℤ) (ts : List ℕ) (keys : List (List ℤ)) (us : List ℕ) → node_value values (there n) (safe_pick ts keys us) ≡ Some (safe_picked (map n ts) keys (map n us))
unfolding node_value on_both term_values_of
pick_value values n ts keys us = λ i. option_and_then (λ xs. option_and_then (λ is. Some (safe_picked xs keys is)) (values_there n us i)) (values_there n ts i)

-- an end of one of some intervals lies between those of their hull
least_end : (a : ℤ) (is : List Interval) (k : ℕ) (i : Interval) → slice_get is k ≡ Some i → fold int_min a (lows is) ≤ℤ i.low
least_end a [] k i e = absurd cc
least_end a (j ∷ is) zero i e =
    subst (λ b. fold int_min (int_min a j.low) (lows is) ≤ℤ b) (ap (λ (l : Interval). l.low) (same_Some j i e))
    (up (fold int_min (int_min a j.low) (lows is)) (int_min a j.low) j.low (min_start (int_min a j.low) (lows is)) (min_right a j.low))
least_end a (j ∷ is) (suc k) i e = least_end (int_min a j.low) is k i e

greatest_end : (a : ℤ) (is : List Interval) (k : ℕ) (i : Interval) → slice_get is k ≡ Some i → i.high ≤ℤ fold int_max a (highs is)
greatest_end a [] k i e = absurd cc
greatest_end a (j ∷ is) zero i e =
    subst (λ b. b ≤ℤ fold int_max (int_max a j.high) (highs is)) (ap (λ (l : Interval). l.high) (same_Some j i e))
    (up j.high (int_max a j.high) (fold int_max (int_max a j.high) (highs is)) (max_right a j.high) (max_start (int_max a j.high) (highs is)))
greatest_end a (j ∷ is) (suc k) i e = greatest_end (int_max a j.high) is k i e

in_hull : (is : List Interval) (k : ℕ) (i : Interval) → slice_get is k ≡ Some i → ((hull is).low ≤ℤ i.low) × (i.high ≤ℤ (hull is).high)
unfolding hull least_or_zero greatest_or_zero least_of greatest_of
in_hull [] k i e = absurd cc
in_hull (j ∷ is) zero i e = (
  subst (λ (l : Interval). fold int_min j.low (lows is) ≤ℤ l.low) (same_Some j i e) (min_start j.low (lows is)),
  subst (λ (l : Interval). l.high ≤ℤ fold int_max j.high (highs is)) (same_Some j i e) (max_start j.high (highs is)),
)
in_hull (j ∷ is) (suc k) i e = (least_end j.low is k i e, greatest_end j.high is k i e)

-- what is as wide as the hull holds each part
part_narrower : (p h i : Interval) → IsNotEmpty p → h.low ≤ℤ p.low → p.high ≤ℤ h.high → IsNarrower h i → IsNarrower p i
part_narrower p h i some low high n =
    let filled : p.low ≤ℤ p.high = some in
    record {
      low = (omega (arith, ints, n.low.0, low), omega (arith, ints, filled, high, n.high.1));
      high = (omega (arith, ints, n.low.0, low, filled), omega (arith, ints, high, n.high.1));
    }

pub pick_settles : (cells : List Cell) (old : News) (ts : List ℕ) (keys : List (List ℤ)) (us : List ℕ) (ns : List ℤ) (t : ℕ) → IsNews cells old → All (λ p. p < length old.arena) ts → All (λ p. p < length old.arena) us → AreNumbers old.arena us ns → Picks ts keys ns t
    → IsSettled cells old (safe_pick ts keys us) old t
unfolding node_reach parts_of
pick_settles cells old ts keys us ns t h below low are picks =
    part_settles cells old (safe_pick ts keys us) t h there_is (is_part old.arena (safe_pick ts keys us) t (Contains-append_left ts us t picks.among))
    (λ values cell_values.
    let m = numbers_of cells old values h cell_values in
    let n = number_under old.arena values in
    m.have t there_is
    ∙ ap (λ x. Some x) (sym (picks.value n))
    ∙ ap (λ is. Some (safe_picked (map n ts) keys is)) (sym (are_numbers cells old values m us ns are))
    ∙ sym (by_numbers cells old values m (safe_pick ts keys us) (All-append (λ p. p < length old.arena) ts us below low) ∙ pick_value values n ts keys us))
    (λ i n.
    let k = picks.among in
    let at : slice_get (map (term_reach old.arena cells) ts) k.0 ≡ Some (term_reach old.arena cells t) = slice_get-map (term_reach old.arena cells) ts k.0 ∙ ap (option_map (term_reach old.arena cells)) (found ts k.0 k.1 k.2) in
    let ends = in_hull (map (term_reach old.arena cells) ts) k.0 (term_reach old.arena cells t) at in
    part_narrower (term_reach old.arena cells t) (hull (map (term_reach old.arena cells) ts)) i (filled_at cells old h t there_is) ends.0 ends.1 n)
  where
    there_is : t < length old.arena
    there_is = All-contains (λ p. p < length old.arena) ts t below picks.among

    found : (xs : List ℕ) (k : ℕ) → k < length xs → get_or xs k t ≡ t → slice_get xs k ≡ Some t
    found xs k l same = slice_get-get_or xs k t l ∙ ap (λ x. Some x) same

picked_of_none : (keys : List (List ℤ)) (is : List ℤ) → safe_picked [] keys is ≡ pos 0
unfolding safe_picked picked first_or_zero
picked_of_none keys is = by (position (λ key. same_numbers key is) keys)
  where
    by : (o : Option ℕ) → unwrap_or (option_and_then (slice_get {X = ℤ} []) o) (pos 0) ≡ pos 0
    by None = refl
    by (Some k) = refl

-- a pick of nothing is 0
pub pick_of_none : (cells : List Cell) (old new : News) (ts : List ℕ) (keys : List (List ℤ)) (us : List ℕ) (term : ℕ) → IsNews cells old → All (λ p. p < length old.arena) us → ts ≡ [] → IsTaken cells old (constant (pos 0)) new term → IsSettled cells old (safe_pick ts keys us) new term
unfolding node_reach parts_of hull least_or_zero greatest_or_zero least_of greatest_of
pick_of_none cells old new ts keys us term h low none t =
    subst (λ vs. IsSettled cells old (safe_pick vs keys us) new term) (sym none)
    (number_settles cells old new (safe_pick [] keys us) (pos 0) term h
    (replaced_by_number cells old.arena (safe_pick [] keys us) (pos 0)
    (λ values are.
    let m = numbers_of cells old values h are in
    by_numbers cells old values m (safe_pick [] keys us) low ∙ pick_value values (number_under old.arena values) [] keys us
    ∙ ap (λ x. Some x) (picked_of_none keys (map (number_under old.arena values) us)))
    (λ i n. n.low)) t)
