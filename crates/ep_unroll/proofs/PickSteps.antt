-- The scalars among which a read chooses, one part after another.
use Rattle.ep_unroll.proofs.Words.{◌≡◌, ℕ, zero, suc, ◌+◌, ◌<◌, nat_lt, Bool, true, false, ◌&&◌, not, cond, ℤ, List, [], ◌∷◌, ◌++◌, length, Some, None, refl, sym, ap, subst, ◌∙◌, arith, slice_get, get_or, Option, map, option_and_then, option_map, if◌then◌else◌, position, All, position_or_len, int_eq, Decides-int_eq, Decides-like, Decides-ltb, same_from_decides, ints, length-append, map-append, All-append, ascending_cons, ascending_head, ascending_tail, some_is, same_numbers, picked, IsAscending, GroundNode, term_value, Index, ValueTree, as_parts, at_index, matrix, part_at, read_value, single, block_under, Grows, AreEntries, AreRead, filled_in, look_up, open_terms, cells_value, Slot, At, Open}
use Rattle.ep_base.proofs.Ascending.{first_of}
use Rattle.ep_ground.specs.Nodes as node
use Rattle.ep_unroll.proofs.FormValues.{grown_value, grows_long, grows_on}
use Rattle.ep_unroll.proofs.MatrixSteps.{values_kept}
use Rattle.ep_unroll.proofs.MeaningSteps.{grows_none}
use Rattle.ep_unroll.proofs.PartSteps.{Leads, block_leads}
use Rattle.ep_unroll.proofs.TruthSteps.{length_mapped, no_less}

-- ---- what is found under keys

-- the first of two that is there
unfoldable pub or_else : {A : Type 0} → Option A → Option A → Option A
or_else None o = o
or_else (Some x) o = Some x

else_none : {A : Type 0} (o : Option A) → or_else o None ≡ o
unfolding or_else
else_none None = refl
else_none (Some x) = refl

look_append : (ks : List (List ℤ)) (xs : List ℤ) (ls : List (List ℤ)) (ys js : List ℤ) → length ks ≡ length xs
    → look_up (ks ++ ls) (xs ++ ys) js ≡ or_else (look_up ks xs js) (look_up ls ys js)
unfolding look_up or_else
look_append [] [] ls ys js same = refl
look_append [] (x ∷ xs) ls ys js same = absurd (omega (arith, same))
look_append (k ∷ ks) [] ls ys js same = absurd (omega (arith, same))
look_append (k ∷ ks) (x ∷ xs) ls ys js same = by (same_numbers k js) (look_append ks xs ls ys js (omega (arith, same)))
  where
    by : (b : Bool) → look_up (ks ++ ls) (xs ++ ys) js ≡ or_else (look_up ks xs js) (look_up ls ys js)
        → (if b then Some x else look_up (ks ++ ls) (xs ++ ys) js) ≡ or_else (if b then Some x else look_up ks xs js) (look_up ls ys js)
    by true h = refl
    by false h = h

either_way : (b : Bool) (o : Option ℤ) → o ≡ (if b then o else o)
either_way true o = refl
either_way false o = refl

look_under : (x : ℤ) (ks : List (List ℤ)) (xs : List ℤ) (j : ℤ) (js : List ℤ) → look_up (map (λ k. x ∷ k) ks) xs (j ∷ js) ≡ (if int_eq x j then look_up ks xs js else None)
unfolding look_up same_numbers
look_under x [] xs j js = either_way (int_eq x j) None
look_under x (k ∷ ks) [] j js = either_way (int_eq x j) None
look_under x (k ∷ ks) (y ∷ ys) j js =
    ap (λ o. if int_eq x j && same_numbers k js then Some y else o) (look_under x ks ys j js) ∙ by (int_eq x j) (look_up ks ys js)
  where
    by : (b : Bool) (o : Option ℤ) → (if b && same_numbers k js then Some y else (if b then o else None)) ≡ (if b then (if same_numbers k js then Some y else o) else None)
    by true o = refl
    by false o = refl

lt_suc : (n m : ℕ) → nat_lt (suc n) (suc m) ≡ nat_lt n m
lt_suc n m = same_from_decides (nat_lt (suc n) (suc m)) (nat_lt n m) (Decides-ltb (suc n) (suc m)) (Decides-like (nat_lt n m) (λ h. omega arith) (λ h. omega arith) (Decides-ltb n m))

lt_zero : (m : ℕ) → nat_lt zero (suc m) ≡ true
lt_zero m = (Decides-ltb zero (suc m)).1 (omega arith)

counted : (b : Bool) (n m : ℕ) → cond (nat_lt (cond (not b) (suc n) zero) (suc m)) (Some (cond (not b) (suc n) zero)) None ≡ (if b then Some zero else option_map suc (cond (nat_lt n m) (Some n) None))
counted true n m = ap (λ t. cond t (Some zero) None) (lt_zero m)
counted false n m = ap (λ t. cond t (Some (suc n)) None) (lt_suc n m) ∙ by (nat_lt n m)
  where
    by : (t : Bool) → cond t (Some (suc n)) None ≡ option_map suc (cond t (Some n) None)
    by true = refl
    by false = refl

position_more : {X : Type 0} (p : X → Bool) (x : X) (xs : List X) → position p (x ∷ xs) ≡ (if p x then Some zero else option_map suc (position p xs))
position_more p x xs =
    let n : ℕ = position_or_len p xs in
    let one : 1 + n ≡ suc n = omega arith in
    let long : length (x ∷ xs) ≡ suc (length xs) = omega arith in
    ap (λ m. cond (nat_lt (cond (not (p x)) m zero) (length (x ∷ xs))) (Some (cond (not (p x)) m zero)) None) one
    ∙ ap (λ l. cond (nat_lt (cond (not (p x)) (suc n) zero) l) (Some (cond (not (p x)) (suc n) zero)) None) long
    ∙ counted (p x) n (length xs)

-- what is picked is what is found
pub picked_found : (xs : List ℤ) (keys : List (List ℤ)) (js : List ℤ) → picked xs keys js ≡ look_up keys xs js
unfolding picked look_up
picked_found xs [] js = refl
picked_found [] (k ∷ keys) js = none_there (position (λ key. same_numbers key js) (k ∷ keys))
  where
    none_there : (o : Option ℕ) → option_and_then (slice_get {X = ℤ} []) o ≡ None
    none_there None = refl
    none_there (Some i) = refl
picked_found (x ∷ xs) (k ∷ keys) js =
    ap (option_and_then (slice_get (x ∷ xs))) (position_more (λ key. same_numbers key js) k keys) ∙ by (picked_found xs keys js) (same_numbers k js)
  where
    later : (o : Option ℕ) → option_and_then (slice_get (x ∷ xs)) (option_map suc o) ≡ option_and_then (slice_get xs) o
    later None = refl
    later (Some i) = refl

    by : option_and_then (slice_get xs) (position (λ key. same_numbers key js) keys) ≡ look_up keys xs js → (b : Bool)
        → option_and_then (slice_get (x ∷ xs)) (if b then Some zero else option_map suc (position (λ key. same_numbers key js) keys)) ≡ (if b then Some x else look_up keys xs js)
    by rest true = refl
    by rest false = later (position (λ key. same_numbers key js) keys) ∙ rest

-- ---- entries without an index, and none

no_entries_read : (ss : List Slot) (v : ValueTree) → ((js : List ℤ) → length js ≡ length (open_terms ss) → read_value (filled_in ss js) v ≡ None) → AreRead ss v [] []
unfolding look_up
no_entries_read ss v h = record { long = refl; read = h }

-- nothing is found where a read has no value
pub entries_none : (old new : List GroundNode) (ss : List Slot) (value : List ℤ → Option ValueTree) (keys : List (List ℤ)) (ts : List ℕ) → new ≡ old → keys ≡ [] → ts ≡ []
    → ((numbers : List ℤ) (v : ValueTree) → value numbers ≡ Some v → (js : List ℤ) → length js ≡ length (open_terms ss) → read_value (filled_in ss js) v ≡ None)
    → AreEntries old new ss value keys ts
entries_none old new ss value keys ts same none nothing h = record {
  grows = grows_none old new same;
  known = subst (All (λ t. t < length new)) (sym nothing) (λ k d less. absurd (no_less k less));
  values = λ numbers v e. (
    [],
    ap (map (term_value new numbers)) nothing,
    subst (λ ks. AreRead ss v ks []) (sym none) (no_entries_read ss v (h numbers v e)),
  );
}

pub one_read : (n : ℤ) (v : ValueTree) → single n ≡ v → AreRead [] v ([] ∷ []) (n ∷ [])
unfolding look_up same_numbers filled_in open_terms read_value
one_read n v is = record {
  long = refl;
  read = λ js h. by js h;
}
  where
    by : (js : List ℤ) → length js ≡ 0 → read_value (filled_in [] js) v ≡ option_map single (look_up ([] ∷ []) (n ∷ []) js)
    by [] h = ap Some (sym is)
    by (j ∷ js) h = absurd (omega (arith, h))

-- ---- the part with an index

read_at : (i : ℤ) (rest : List Slot) (v w : ValueTree) (keys : List (List ℤ)) (xs : List ℤ)
    → ((js : List ℤ) → read_value (at_index i ∷ filled_in rest js) v ≡ read_value (filled_in rest js) w) → AreRead rest w keys xs → AreRead (At i ∷ rest) v keys xs
unfolding filled_in open_terms
read_at i rest v w keys xs is h = record { long = h.long; read = λ js few. is js ∙ h.read js few }

-- what is found in a part is found by its index
pub entries_at : (old new : List GroundNode) (i : ℤ) (rest : List Slot) (value part : List ℤ → Option ValueTree) (keys : List (List ℤ)) (ts : List ℕ)
    → ((numbers : List ℤ) (v : ValueTree) → value numbers ≡ Some v → (w : ValueTree) × (part numbers ≡ Some w) × ((is : List Index) → read_value (at_index i ∷ is) v ≡ read_value is w))
    → AreEntries old new rest part keys ts → AreEntries old new (At i ∷ rest) value keys ts
entries_at old new i rest value part keys ts leads h = record {
  grows = h.grows;
  known = h.known;
  values = λ numbers v e.
      let p = leads numbers v e in
      let q = h.values numbers p.0 p.1 in
      (q.0, q.1, read_at i rest v p.0 keys q.0 (λ js. p.2 (filled_in rest js)) q.2);
}

pub entries_not_at : (old : List GroundNode) (i : ℤ) (rest : List Slot) (value : List ℤ → Option ValueTree) (keys : List (List ℤ)) (ts : List ℕ) → keys ≡ [] → ts ≡ []
    → ((numbers : List ℤ) (v : ValueTree) → value numbers ≡ Some v → (is : List Index) → read_value (at_index i ∷ is) v ≡ None)
    → AreEntries old old (At i ∷ rest) value keys ts
unfolding filled_in open_terms
entries_not_at old i rest value keys ts none nothing h =
    entries_none old old (At i ∷ rest) value keys ts refl none nothing (λ numbers v e js few. h numbers v e (filled_in rest js))

cells_leads : (numbers : List ℤ) (first : ℕ) (domains : List (List ℤ)) (i : ℤ) (v : ValueTree) (k : ℕ) (inner : List (List ℤ)) → cells_value numbers domains first ≡ Some v
    → Some (k, inner) ≡ block_under first domains i → (is : List Index) → (w : ValueTree) × (cells_value numbers inner k ≡ Some w) × (read_value (at_index i ∷ is) v ≡ read_value is w)
unfolding Leads
cells_leads numbers first domains i v k inner e some is =
    let p : _ = block_leads numbers first domains i v is e in
    let h : Leads numbers (Some (k, inner)) p.0 = subst (λ b. Leads numbers b p.0) (sym some) p.2 in
    (h.0, h.2, p.1 ∙ ap (option_and_then (read_value is)) h.1)

-- a part of cells
pub cells_lead : (numbers : List ℤ) (first : ℕ) (domains : List (List ℤ)) (i : ℤ) (v : ValueTree) (k : ℕ) (inner : List (List ℤ)) → cells_value numbers domains first ≡ Some v
    → Some (k, inner) ≡ block_under first domains i
    → (w : ValueTree) × (cells_value numbers inner k ≡ Some w) × ((is : List Index) → read_value (at_index i ∷ is) v ≡ read_value is w)
cells_lead numbers first domains i v k inner e some =
    let p = cells_leads numbers first domains i v k inner e some [] in (
      p.0,
      p.1,
      λ is. let q = cells_leads numbers first domains i v k inner e some is in q.2 ∙ ap (read_value is) (some_is (sym q.1 ∙ p.1)),
    )

pub cells_miss : (numbers : List ℤ) (first : ℕ) (domains : List (List ℤ)) (i : ℤ) (v : ValueTree) → cells_value numbers domains first ≡ Some v
    → None ≡ block_under first domains i → (is : List Index) → read_value (at_index i ∷ is) v ≡ None
unfolding Leads
cells_miss numbers first domains i v e none is =
    let p : _ = block_leads numbers first domains i v is e in
    let h : Leads numbers None p.0 = subst (λ b. Leads numbers b p.0) (sym none) p.2 in
    p.1 ∙ ap (option_and_then (read_value is)) h

-- ---- each part

not_behind : (x : ℤ) (ys : List ℤ) (vs : List ValueTree) → IsAscending (x ∷ ys) → part_at ys (as_parts vs) x ≡ None
unfolding part_at as_parts
not_behind x [] vs up = refl
not_behind x (y ∷ ys) [] up = refl
not_behind x (y ∷ ys) (v ∷ vs) up =
    by (int_eq x y) refl
    (not_behind x ys vs (ascending_cons x ys (λ k d less. up 0 (suc (suc k)) d (omega arith) (omega (arith, less))) (ascending_tail y ys (ascending_tail x (y ∷ ys) up))))
  where
    by : (b : Bool) → int_eq x y ≡ b → part_at ys (as_parts vs) x ≡ None → (if b then Some v else part_at ys (as_parts vs) x) ≡ None
    by true e none =
        let same : x ≡ y = (Decides-int_eq x y).0 e in
        let less = ascending_head x y (y ∷ ys) up (first_of y ys) in absurd (omega (arith, ints, same, less))
    by false e none = none

flipped : (x j : ℤ) → int_eq j x ≡ int_eq x j
flipped x j = same_from_decides (int_eq j x) (int_eq x j) (Decides-int_eq j x) (Decides-like (int_eq x j) (λ h. sym h) (λ h. sym h) (Decides-int_eq x j))

-- The entries of the parts that were passed, where others are left: whatever first index a read has, what isn't found is
-- found in what is left.
pub record EachSoFar (old new : List GroundNode) (rest : List Slot) (own left : List ℤ) (all here : List ℤ → Option (List ValueTree)) (keys : List (List ℤ)) (ts : List ℕ) : Type 0 where
  pub grows : Grows old new
  pub known : All (λ t. t < length new) ts
  pub ascends : IsAscending left
  pub values : (numbers : List ℤ) (ws : List ValueTree) → all numbers ≡ Some ws
      → (us : List ValueTree) × (xs : List ℤ) × (here numbers ≡ Some us) × (map (term_value new numbers) ts ≡ map Some xs) × (length keys ≡ length xs)
      × ((j : ℤ) (js : List ℤ) → length js ≡ length (open_terms rest)
      → option_and_then (read_value (filled_in rest js)) (part_at own (as_parts ws) j)
      ≡ or_else (option_map single (look_up keys xs (j ∷ js))) (option_and_then (read_value (filled_in rest js)) (part_at left (as_parts us) j)))

pub each_begin : (old : List GroundNode) (rest : List Slot) (own left : List ℤ) (all here : List ℤ → Option (List ValueTree)) (keys : List (List ℤ)) (ts : List ℕ)
    → IsAscending own → left ≡ own → ((numbers : List ℤ) → all numbers ≡ here numbers) → keys ≡ [] → ts ≡ [] → EachSoFar old old rest own left all here keys ts
unfolding look_up or_else
each_begin old rest own left all here keys ts up same is none nothing = record {
  grows = grows_none old old refl;
  known = subst (All (λ t. t < length old)) (sym nothing) (λ k d less. absurd (no_less k less));
  ascends = subst IsAscending (sym same) up;
  values = λ numbers ws e. (
    ws,
    [],
    sym (is numbers) ∙ e,
    ap (map (term_value old numbers)) nothing,
    ap length none,
    λ j js few.
        ap (λ l. option_and_then (read_value (filled_in rest js)) (part_at l (as_parts ws) j)) (sym same)
        ∙ ap (λ ks. or_else (option_map single (look_up ks [] (j ∷ js))) (option_and_then (read_value (filled_in rest js)) (part_at left (as_parts ws) j))) (sym none),
  );
}

-- one part more
next_found : (rest : List Slot) (x : ℤ) (behind : List ℤ) (u : ValueTree) (vs : List ValueTree) (ks : List (List ℤ)) (ys : List ℤ) (found : Option ValueTree) (j : ℤ) (js : List ℤ)
    → IsAscending (x ∷ behind) → read_value (filled_in rest js) u ≡ option_map single (look_up ks ys js)
    → or_else found (option_and_then (read_value (filled_in rest js)) (part_at (x ∷ behind) (as_parts (u ∷ vs)) j))
    ≡ or_else (or_else found (option_map single (if int_eq x j then look_up ks ys js else None))) (option_and_then (read_value (filled_in rest js)) (part_at behind (as_parts vs) j))
unfolding part_at as_parts or_else
next_found rest x behind u vs ks ys (Some w) j js up read = refl
next_found rest x behind u vs ks ys None j js up read = by (int_eq j x) refl
  where
    by : (b : Bool) → int_eq j x ≡ b
        → option_and_then (read_value (filled_in rest js)) (if b then Some u else part_at behind (as_parts vs) j)
        ≡ or_else (option_map single (if int_eq x j then look_up ks ys js else None)) (option_and_then (read_value (filled_in rest js)) (part_at behind (as_parts vs) j))
    by true e =
        let same : j ≡ x = (Decides-int_eq j x).0 e in
        let none : part_at behind (as_parts vs) j ≡ None = ap (part_at behind (as_parts vs)) same ∙ not_behind x behind vs up in
        read ∙ sym (else_none (option_map single (look_up ks ys js)))
        ∙ ap (λ b. or_else (option_map single (if b then look_up ks ys js else None)) None) (sym (sym (flipped x j) ∙ e))
        ∙ ap (λ o. or_else (option_map single (if int_eq x j then look_up ks ys js else None)) (option_and_then (read_value (filled_in rest js)) o)) (sym none)
    by false e =
        ap (λ b. or_else (option_map single (if b then look_up ks ys js else None)) (option_and_then (read_value (filled_in rest js)) (part_at behind (as_parts vs) j))) (sym (sym (flipped x j) ∙ e))

map_else : (a b : Option ℤ) → option_map single (or_else a b) ≡ or_else (option_map single a) (option_map single b)
unfolding or_else
map_else None b = refl
map_else (Some x) b = refl

pub each_more : (old mid new : List GroundNode) (rest : List Slot) (own left behind : List ℤ) (x : ℤ) (all here next : List ℤ → Option (List ValueTree)) (one : List ℤ → Option ValueTree)
    (keys more ks : List (List ℤ)) (ts us more_ts : List ℕ)
    → EachSoFar old mid rest own left all here keys ts → left ≡ x ∷ behind
    → ((numbers : List ℤ) (vs : List ValueTree) → here numbers ≡ Some vs → (u : ValueTree) × (ws : List ValueTree) × (one numbers ≡ Some u) × (next numbers ≡ Some ws) × (u ∷ ws ≡ vs))
    → AreEntries mid new rest one ks us → more ≡ keys ++ map (λ k. x ∷ k) ks → more_ts ≡ ts ++ us
    → EachSoFar old new rest own behind all next more more_ts
each_more old mid new rest own left behind x all here next one keys more ks ts us more_ts so cut parted part pushed put = record {
  grows = grows_on old mid new so.grows part.grows;
  known = subst (All (λ t. t < length new)) (sym put)
      (All-append (λ t. t < length new) ts us (λ k d less. grows_long mid new _ part.grows (so.known k d less)) part.known);
  ascends = ascending_tail x behind (subst IsAscending cut so.ascends);
  values = λ numbers ws e.
      let p = so.values numbers ws e in
      let q = parted numbers p.0 p.2 in
      let w = part.values numbers q.0 q.2 in
      let read = w.2 in (
        q.1,
        p.1 ++ w.0,
        q.3,
        ap (map (term_value new numbers)) put ∙ map-append (term_value new numbers) ts us
            ∙ ap (λ l. l ++ map (term_value new numbers) us) (values_kept mid new numbers ts part.grows so.known ∙ p.3)
            ∙ ap (λ l. map Some p.1 ++ l) w.1 ∙ sym (map-append Some p.1 w.0),
        longer p.1 w.0 p.4 read.long,
        λ j js few.
            p.5 j js few
            ∙ ap (λ l. or_else (option_map single (look_up keys p.1 (j ∷ js))) (option_and_then (read_value (filled_in rest js)) (part_at l (as_parts p.0) j))) cut
            ∙ ap (λ l. or_else (option_map single (look_up keys p.1 (j ∷ js))) (option_and_then (read_value (filled_in rest js)) (part_at (x ∷ behind) (as_parts l) j))) (sym q.4)
            ∙ next_found rest x behind q.0 q.1 ks w.0 (option_map single (look_up keys p.1 (j ∷ js))) j js (subst IsAscending cut so.ascends) (read.read js few)
            ∙ ap (λ o. or_else o (option_and_then (read_value (filled_in rest js)) (part_at behind (as_parts q.1) j)))
            (sym (ap (λ l. option_map single (look_up l (p.1 ++ w.0) (j ∷ js))) pushed
            ∙ ap (option_map single) (look_append keys p.1 (map (λ k. x ∷ k) ks) w.0 (j ∷ js) p.4 ∙ ap (or_else (look_up keys p.1 (j ∷ js))) (look_under x ks w.0 j js))
            ∙ map_else (look_up keys p.1 (j ∷ js)) (if int_eq x j then look_up ks w.0 js else None))),
      );
}
  where
    longer : (xs ys : List ℤ) → length keys ≡ length xs → length ks ≡ length ys → length more ≡ length (xs ++ ys)
    longer xs ys a b =
        let one : length more ≡ length keys + length (map (λ k. x ∷ k) ks) = ap length pushed ∙ length-append keys (map (λ k. x ∷ k) ks) in
        let other : length (map (λ (k : List ℤ). x ∷ k) ks) ≡ length ks = length_mapped (λ k. x ∷ k) ks in
        let whole : length (xs ++ ys) ≡ length xs + length ys = length-append xs ys in
        omega (arith, one, other, whole, a, b)

each_read : (t : ℕ) (rest : List Slot) (own : List ℤ) (ws : List ValueTree) (v : ValueTree) (keys : List (List ℤ)) (xs : List ℤ) → matrix own (as_parts ws) ≡ v → length keys ≡ length xs
    → ((j : ℤ) (js : List ℤ) → length js ≡ length (open_terms rest) → option_and_then (read_value (filled_in rest js)) (part_at own (as_parts ws) j) ≡ option_map single (look_up keys xs (j ∷ js)))
    → AreRead (Open t ∷ rest) v keys xs
unfolding filled_in open_terms read_value
each_read t rest own ws v keys xs is same h = record {
  long = same;
  read = λ js few. by js few;
}
  where
    by : (js : List ℤ) → length js ≡ suc (length (open_terms rest)) → read_value (filled_in (Open t ∷ rest) js) v ≡ option_map single (look_up keys xs js)
    by [] few = absurd (omega (arith, few))
    by (j ∷ js) few = ap (read_value (at_index j ∷ filled_in rest js)) (sym is) ∙ h j js (omega (arith, few))

pub each_done : (old new : List GroundNode) (t : ℕ) (rest : List Slot) (own left : List ℤ) (all here : List ℤ → Option (List ValueTree)) (value : List ℤ → Option ValueTree) (keys : List (List ℤ)) (ts : List ℕ)
    → EachSoFar old new rest own left all here keys ts → left ≡ []
    → ((numbers : List ℤ) (v : ValueTree) → value numbers ≡ Some v → (ws : List ValueTree) × (all numbers ≡ Some ws) × (matrix own (as_parts ws) ≡ v))
    → AreEntries old new (Open t ∷ rest) value keys ts
unfolding part_at
each_done old new t rest own left all here value keys ts so none opened = record {
  grows = so.grows;
  known = so.known;
  values = λ numbers v e.
      let q = opened numbers v e in
      let p = so.values numbers q.0 q.1 in (
        p.1,
        p.3,
        each_read t rest own q.0 v keys p.1 q.2 p.4 (λ j js few.
            p.5 j js few
            ∙ ap (λ l. or_else (option_map single (look_up keys p.1 (j ∷ js))) (option_and_then (read_value (filled_in rest js)) (part_at l (as_parts p.0) j))) none
            ∙ else_none (option_map single (look_up keys p.1 (j ∷ js)))),
      );
}
