-- The scalars among which a read of what was unrolled chooses, one part after another.
use Rattle.ep_unroll.proofs.Words.{◌≡◌, ℕ, suc, ◌<◌, ◌≤◌, ℤ, Bool, true, false, List, [], ◌∷◌, ◌++◌, length, Some, None, refl, sym, ap, subst, ◌∙◌, arith, Option, is_some, map, option_and_then, option_map, if◌then◌else◌, All, int_eq, map_is, no_some, some_is, IsAscending, read_stated, part_under, GroundNode, term_value, number_in, Index, ValueTree, all_defined, as_parts, at_index, matrix, part_at, read_value, single, AreTerms, worth, HasNumber, HaveTerms, worths, part_with, parts_worth, AreEntries, AreRead, Slot, At, Open, Unrolled, Matrix}
use Rattle.std.specs.declared.alloc.Global.{Global}
use Rattle.std.specs.declared.vec.Vec.{Vec}
use Rattle.ep_unroll.proofs.FormSteps.{one_known}
use Rattle.ep_unroll.proofs.GrownParts.{matrix_terms, matrix_worth, terms_kept, worth_kept}
use Rattle.ep_unroll.proofs.PickSteps.{EachSoFar, each_begin, each_done, each_more, entries_at, entries_none, entries_not_at, one_read}

-- ---- the part with an index

pub with_next : (own js : List ℤ) (xs rest : List Unrolled) (j i : ℤ) (x : Unrolled) (b : Bool) → own ≡ j ∷ js → xs ≡ x ∷ rest → int_eq i j ≡ b
    → part_with own xs i ≡ (if b then Some x else part_with js rest i)
unfolding part_with
with_next own js xs rest j i x b cut parted same =
    ap (λ l. part_with l xs i) cut ∙ ap (λ l. part_with (j ∷ js) l i) parted ∙ ap (λ c. if c then Some x else part_with js rest i) same

pub with_short : (own js : List ℤ) (xs : List Unrolled) (j i : ℤ) → own ≡ j ∷ js → xs ≡ [] → part_with own xs i ≡ None
unfolding part_with
with_short own js xs j i cut none = ap (λ l. part_with l xs i) cut ∙ ap (λ l. part_with (j ∷ js) l i) none

pub with_unlisted : (own : List ℤ) (xs : List Unrolled) (i : ℤ) → own ≡ [] → part_with own xs i ≡ None
unfolding part_with
with_unlisted own xs i none = ap (λ l. part_with l xs i) none

-- ---- values of parts

-- values of which the first one and the others are there
pub defined_first : (o : Option ValueTree) (os : List (Option ValueTree)) (vs : List ValueTree) → all_defined (o ∷ os) ≡ Some vs
    → (u : ValueTree) × (ws : List ValueTree) × (o ≡ Some u) × (all_defined os ≡ Some ws) × (u ∷ ws ≡ vs)
unfolding all_defined
defined_first None os vs e = no_some e
defined_first (Some u) os vs e =
    let p = map_is (λ ws. u ∷ ws) (all_defined os) vs e in
    (u, p.0, refl, p.1, p.2)

-- the part with an index has its value
pub part_leads : (nodes : List GroundNode) (numbers : List ℤ) (own : List ℤ) (xs : List Unrolled) (i : ℤ) (x : Unrolled) (vs : List ValueTree)
    → all_defined (worths nodes numbers xs) ≡ Some vs → part_with own xs i ≡ Some x → (w : ValueTree) × (worth nodes numbers x ≡ Some w) × (part_at own (as_parts vs) i ≡ Some w)
unfolding part_with part_at as_parts
part_leads nodes numbers [] xs i x vs e h = no_some h
part_leads nodes numbers (j ∷ js) [] i x vs e h = no_some h
part_leads nodes numbers (j ∷ js) (y ∷ ys) i x vs e h =
    let p = defined_first (worth nodes numbers y) (worths nodes numbers ys) vs e in
    subst (λ l. (w : ValueTree) × (worth nodes numbers x ≡ Some w) × (part_at (j ∷ js) (as_parts l) i ≡ Some w)) p.4
    (by (int_eq i j) p.0 p.1 p.2 (λ g. part_leads nodes numbers js ys i x p.1 p.3 g) h)
  where
    by : (b : Bool) (u : ValueTree) (ws : List ValueTree) → worth nodes numbers y ≡ Some u
        → (part_with js ys i ≡ Some x → (w : ValueTree) × (worth nodes numbers x ≡ Some w) × (part_at js (as_parts ws) i ≡ Some w))
        → (if b then Some y else part_with js ys i) ≡ Some x
        → (w : ValueTree) × (worth nodes numbers x ≡ Some w) × ((if b then Some u else part_at js (as_parts ws) i) ≡ Some w)
    by true u ws is below g = (u, ap (worth nodes numbers) (sym (some_is g)) ∙ is, refl)
    by false u ws is below g = below g

pub part_misses : (nodes : List GroundNode) (numbers : List ℤ) (own : List ℤ) (xs : List Unrolled) (i : ℤ) (vs : List ValueTree)
    → all_defined (worths nodes numbers xs) ≡ Some vs → part_with own xs i ≡ None → part_at own (as_parts vs) i ≡ None
unfolding part_with part_at as_parts all_defined
part_misses nodes numbers [] xs i vs e h = refl
part_misses nodes numbers (j ∷ js) [] i vs e h = ap (λ l. part_at (j ∷ js) (as_parts l) i) (sym (some_is e))
part_misses nodes numbers (j ∷ js) (y ∷ ys) i vs e h =
    let p = defined_first (worth nodes numbers y) (worths nodes numbers ys) vs e in
    subst (λ l. part_at (j ∷ js) (as_parts l) i ≡ None) p.4 (by (int_eq i j) p.0 p.1 (λ g. part_misses nodes numbers js ys i p.1 p.3 g) h)
  where
    by : (b : Bool) (u : ValueTree) (ws : List ValueTree) → (part_with js ys i ≡ None → part_at js (as_parts ws) i ≡ None)
        → (if b then Some y else part_with js ys i) ≡ None → (if b then Some u else part_at js (as_parts ws) i) ≡ None
    by true u ws below g = no_some (sym g)
    by false u ws below g = below g

pub part_terms : (count : ℕ) (own : List ℤ) (xs : List Unrolled) (i : ℤ) (x : Unrolled) → HaveTerms count xs → part_with own xs i ≡ Some x → AreTerms count x
unfolding part_with HaveTerms
part_terms count [] xs i x h e = no_some e
part_terms count (j ∷ js) [] i x h e = no_some e
part_terms count (j ∷ js) (y ∷ ys) i x h e = by (int_eq i j) e (λ g. part_terms count js ys i x h.1 g)
  where
    by : (b : Bool) → (if b then Some y else part_with js ys i) ≡ Some x → (part_with js ys i ≡ Some x → AreTerms count x) → AreTerms count x
    by true g below = subst (AreTerms count) (some_is g) h.0
    by false g below = below g

-- a matrix by its parts
pub opened_parts : (own : List ℤ) (nodes : List GroundNode) (numbers : List ℤ) (xs : List Unrolled) (v : ValueTree) → parts_worth own nodes numbers xs ≡ Some v
    → (ws : List ValueTree) × (all_defined (worths nodes numbers xs) ≡ Some ws) × (matrix own (as_parts ws) ≡ v)
opened_parts own nodes numbers xs v e = map_is (λ vs. matrix own (as_parts vs)) (all_defined (worths nodes numbers xs)) v e

pub parts_entries_at : (old new : List GroundNode) (own : List ℤ) (xs : List Unrolled) (i : ℤ) (x : Unrolled) (rest : List Slot) (keys : List (List ℤ)) (ts : List ℕ)
    → part_with own xs i ≡ Some x → AreEntries old new rest (λ numbers. worth old numbers x) keys ts → AreEntries old new (At i ∷ rest) (λ numbers. parts_worth own old numbers xs) keys ts
unfolding read_value
parts_entries_at old new own xs i x rest keys ts is h =
    entries_at old new i rest (λ numbers. parts_worth own old numbers xs) (λ numbers. worth old numbers x) keys ts
    (λ numbers v e.
    let p = opened_parts own old numbers xs v e in
    let q = part_leads old numbers own xs i x p.0 p.1 is in
    (q.0, q.1, λ js. ap (read_value (at_index i ∷ js)) (sym p.2) ∙ ap (option_and_then (read_value js)) q.2)) h

pub parts_entries_not_at : (old : List GroundNode) (own : List ℤ) (xs : List Unrolled) (i : ℤ) (rest : List Slot) (keys : List (List ℤ)) (ts : List ℕ)
    → part_with own xs i ≡ None → keys ≡ [] → ts ≡ [] → AreEntries old old (At i ∷ rest) (λ numbers. parts_worth own old numbers xs) keys ts
unfolding read_value
parts_entries_not_at old own xs i rest keys ts none nothing nowhere =
    entries_not_at old i rest (λ numbers. parts_worth own old numbers xs) keys ts nothing nowhere
    (λ numbers v e js.
    let p = opened_parts own old numbers xs v e in
    ap (read_value (at_index i ∷ js)) (sym p.2) ∙ ap (option_and_then (read_value js)) (part_misses old numbers own xs i p.0 p.1 none))

-- nothing is found where nothing has a value
pub entries_without : (old : List GroundNode) (ss : List Slot) (value : List ℤ → Option ValueTree) (keys : List (List ℤ)) (ts : List ℕ)
    → ((numbers : List ℤ) → value numbers ≡ None) → keys ≡ [] → ts ≡ [] → AreEntries old old ss value keys ts
entries_without old ss value keys ts none nothing nowhere =
    entries_none old old ss value keys ts refl nothing nowhere (λ numbers v e js few. no_some (sym (none numbers) ∙ e))

pub entries_when : (old new : List GroundNode) (ss : List Slot) (value other : List ℤ → Option ValueTree) (keys : List (List ℤ)) (ts : List ℕ)
    → ((numbers : List ℤ) (v : ValueTree) → other numbers ≡ Some v → value numbers ≡ Some v) → AreEntries old new ss value keys ts → AreEntries old new ss other keys ts
entries_when old new ss value other keys ts when h = record { grows = h.grows; known = h.known; values = λ numbers v e. h.values numbers v (when numbers v e) }

-- a matrix of parts that are lent
pub entries_whole : (old new : List GroundNode) (ss : List Slot) (x : Unrolled) (own : Vec ℤ Global) (parts : Vec Unrolled Global) (lent : List ℤ) (lent_parts : List Unrolled) (keys : List (List ℤ)) (ts : List ℕ)
    → lent ≡ own.items → lent_parts ≡ parts.items → x ≡ Matrix own parts → AreTerms (length old) x
    → (HaveTerms (length old) lent_parts → AreEntries old new ss (λ numbers. parts_worth lent old numbers lent_parts) keys ts) → AreEntries old new ss (λ numbers. worth old numbers x) keys ts
entries_whole old new ss x own parts lent lent_parts keys ts same same_parts is known h =
    entries_when old new ss (λ numbers. parts_worth lent old numbers lent_parts) (λ numbers. worth old numbers x) keys ts
    (λ numbers v e.
    ap (λ l. parts_worth l old numbers lent_parts) same ∙ ap (parts_worth own.items old numbers) same_parts
    ∙ sym (ap (worth old numbers) is ∙ matrix_worth old numbers own parts) ∙ e)
    (h (subst (HaveTerms (length old)) (sym same_parts) (matrix_terms (length old) own parts (subst (AreTerms (length old)) is known))))

-- ---- numbers

pub no_part : (o : Option ℤ) (i : Index) (is : List Index) (v : ValueTree) → option_map single o ≡ Some v → None ≡ read_value (i ∷ is) v
unfolding read_value
no_part None i is v e = no_some e
no_part (Some n) i is v e = subst (λ w. None ≡ read_value (i ∷ is) w) (some_is e) refl

pub single_again : (o : Option ℤ) → option_map single o ≡ option_map single (number_in (option_map single o))
unfolding number_in
single_again None = refl
single_again (Some n) = refl

pub scalar_seen : (o : Option ValueTree) → is_some (number_in o) ≡ true → o ≡ option_map single (number_in o)
unfolding number_in
scalar_seen None h = refl
scalar_seen (Some (single n)) h = refl
scalar_seen (Some (matrix is vs)) h = absurd cc

-- a term's number is found without an index
pub entries_scalar : (old new : List GroundNode) (value : List ℤ → Option ValueTree) (keys : List (List ℤ)) (ts : List ℕ) (t : ℕ) → ((numbers : List ℤ) → value numbers ≡ option_map single (number_in (value numbers)))
    → HasNumber old new (λ numbers. number_in (value numbers)) t → keys ≡ [] ∷ [] → ts ≡ t ∷ [] → AreEntries old new [] value keys ts
entries_scalar old new value keys ts t is own one alone = record {
  grows = own.grows;
  known = subst (All (λ u. u < length new)) (sym alone) (one_known t (length new) own.known);
  values = λ numbers v e.
      let p = map_is single (number_in (value numbers)) v (sym (is numbers) ∙ e) in (
        p.0 ∷ [],
        ap (map (term_value new numbers)) alone ∙ ap (λ o. o ∷ []) (own.value numbers ∙ p.1),
        subst (λ ks. AreRead [] v ks (p.0 ∷ [])) (sym one) (one_read p.0 v p.2),
      );
}

-- ---- values

-- a part of a value
pub seen_lead : (o : Option ValueTree) (i : ℤ) (w v : ValueTree) → Some w ≡ option_and_then (λ u. part_under u i) o → o ≡ Some v
    → (u : ValueTree) × (Some w ≡ Some u) × ((is : List Index) → read_value (at_index i ∷ is) v ≡ read_value is u)
seen_lead o i w v some e =
    (w, refl, λ is. read_stated i is v ∙ ap (option_and_then (read_value is)) (sym (some ∙ ap (option_and_then (λ u. part_under u i)) e)))

pub seen_miss : (o : Option ValueTree) (i : ℤ) (v : ValueTree) → None ≡ option_and_then (λ u. part_under u i) o → o ≡ Some v → (is : List Index) → read_value (at_index i ∷ is) v ≡ None
seen_miss o i v none e is = read_stated i is v ∙ ap (option_and_then (read_value is)) (sym (none ∙ ap (option_and_then (λ u. part_under u i)) e))

-- ---- each part

-- the entries of the parts that were passed, where others are left
abbrev pub PartsPassed : List GroundNode → List GroundNode → List Slot → List ℤ → List ℤ → List Unrolled → List Unrolled → List (List ℤ) → List ℕ → Type 0
PartsPassed old mid rest own left all here keys ts =
    HaveTerms (length old) all
    → HaveTerms (length old) here
    × EachSoFar old mid rest own left (λ numbers. all_defined (worths old numbers all)) (λ numbers. all_defined (worths old numbers here)) keys ts

pub parts_pass_none : (old : List GroundNode) (rest : List Slot) (own left : List ℤ) (all : List Unrolled) (keys : List (List ℤ)) (ts : List ℕ) → IsAscending own → left ≡ own → keys ≡ [] → ts ≡ []
    → PartsPassed old old rest own left all all keys ts
parts_pass_none old rest own left all keys ts up same none nothing h =
    (h, each_begin old rest own left (λ numbers. all_defined (worths old numbers all)) (λ numbers. all_defined (worths old numbers all)) keys ts up same (λ numbers. refl) none nothing)

pub parts_pass_more : (old mid new : List GroundNode) (rest : List Slot) (own left behind : List ℤ) (j : ℤ) (all here next : List Unrolled) (x : Unrolled) (keys more ks : List (List ℤ)) (ts us more_ts : List ℕ)
    → PartsPassed old mid rest own left all here keys ts → left ≡ j ∷ behind → here ≡ x ∷ next
    → (AreTerms (length mid) x → AreEntries mid new rest (λ numbers. worth mid numbers x) ks us) → more ≡ keys ++ map (λ k. j ∷ k) ks → more_ts ≡ ts ++ us
    → PartsPassed old new rest own behind all next more more_ts
unfolding HaveTerms
parts_pass_more old mid new rest own left behind j all here next x keys more ks ts us more_ts so cut parted part pushed put h =
    let p = so h in
    let have : AreTerms (length old) x × HaveTerms (length old) next = subst (HaveTerms (length old)) parted p.0 in (
      have.1,
      each_more old mid new rest own left behind j (λ numbers. all_defined (worths old numbers all)) (λ numbers. all_defined (worths old numbers here)) (λ numbers. all_defined (worths old numbers next))
          (λ numbers. worth mid numbers x) keys more ks ts us more_ts p.1 cut
          (λ numbers vs e.
          let q = defined_first (worth old numbers x) (worths old numbers next) vs (ap (λ l. all_defined (worths old numbers l)) (sym parted) ∙ e) in
          (q.0, q.1, worth_kept old mid numbers x p.1.grows have.0 ∙ q.2, q.3, q.4))
          (part (terms_kept old mid x p.1.grows have.0)) pushed put,
    )

pub parts_pass_all : (old new : List GroundNode) (t : ℕ) (rest : List Slot) (own left : List ℤ) (all here : List Unrolled) (keys : List (List ℤ)) (ts : List ℕ)
    → PartsPassed old new rest own left all here keys ts → left ≡ [] → HaveTerms (length old) all → AreEntries old new (Open t ∷ rest) (λ numbers. parts_worth own old numbers all) keys ts
parts_pass_all old new t rest own left all here keys ts so none h =
    each_done old new t rest own left (λ numbers. all_defined (worths old numbers all)) (λ numbers. all_defined (worths old numbers here)) (λ numbers. parts_worth own old numbers all) keys ts (so h).1 none
    (λ numbers v e. opened_parts own old numbers all v e)
