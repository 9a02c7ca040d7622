-- What is seen of watched literals, and the part of a list that is walked.
use Rattle.std.proofs.Common.{◌≡◌, ◌≢◌, ℕ, zero, suc, ◌+◌, ◌-◌, ◌*◌, ◌/◌, ◌%◌, ◌^◌, ◌<◌, ◌≤◌, Bool, true, false, cond, eqb, List, [], ◌∷◌, length, map, get_or, set, drop, Contains, refl, sym, ap, ◌∙◌, subst, inl, inr, ◌⊎◌, ⊎_elim, arith}
use Rattle.std.proofs.lemmas.Bool.{cases_eq, ne_eqb, eq-eqb}
use Rattle.std.proofs.lemmas.Bool.Decides.{nat_tests}
use Rattle.std.proofs.lemmas.List.{get_or_default, length-map, length-set, map-set}
use Rattle.cnf_core.specs.Literal.{Literal, code_of}
use Rattle.cnf_core.proofs.Members.{Contains-here, Contains-there}
use Rattle.sat_state.specs.Watched.{Watched}
use Rattle.sat_state.specs.declared.watches.Watches.TheInside.{Inside}
use Rattle.sat_state.specs.Listed.{Listed, IsWithout}
use Rattle.sat_state.specs.Watching.{Watching, no_lit, lit_at, far_at, listed_at, IsInSomeList, links, IsNext}
use Rattle.sat_state.specs.WatchesInside.{literal_at, literal_named, is_far_name, no_watch, watch_in, IsListOf, AreListsByCode, begin_of, end_of, Walks, entries_from, seen_watches, AreWatches}
use Rattle.sat_state.proofs.Codes.{code_again}
use Rattle.sat_state.proofs.Listing.{no_list, links_named, at_same, at_other, held_code, list_short, list_read, listed_in}

-- ---- names, literals and parts

pub lit_named : (names : List ℕ) (e : ℕ) → lit_at (map literal_named names) e ≡ literal_named (get_or names e 0)
lit_named [] e = refl
lit_named (x ∷ names) zero = refl
lit_named (x ∷ names) (suc e) = lit_named names e

pub far_named : (names : List ℕ) (e : ℕ) → far_at (map is_far_name names) e ≡ is_far_name (get_or names e 0)
far_named [] e = refl
far_named (x ∷ names) zero = refl
far_named (x ∷ names) (suc e) = far_named names e

name_far : (code : ℕ) (far : Bool) → is_far_name (2 * code + cond far 1 0) ≡ far
name_far code true = ap (λ (n : ℕ). eqb n 1) (let e : (2 * code + 1) % 2 ≡ 1 = omega arith in e)
name_far code false = ap (λ (n : ℕ). eqb n 1) (let e : (2 * code + 0) % 2 ≡ 0 = omega arith in e)

name_half : (code : ℕ) (far : Bool) → (2 * code + cond far 1 0) / 2 ≡ code
name_half code true = omega arith
name_half code false = omega arith

pub half_name : (n code : ℕ) (far : Bool) → n ≡ 2 * code + cond far 1 0 → n / 2 ≡ code
half_name n code far is = ap (λ (m : ℕ). m / 2) is ∙ name_half code far

pub far_of_name : (n code : ℕ) (far : Bool) → n ≡ 2 * code + cond far 1 0 → is_far_name n ≡ far
far_of_name n code far is = ap is_far_name is ∙ name_far code far

-- ---- what is walked

-- a watch is what it says
pub watch_of : (w : Watched) (entry : ℕ) (pair : Bool) (blocker : Literal) → entry ≡ w.entry → pair ≡ w.pair → blocker ≡ w.blocker → record { entry = entry; pair = pair; blocker = blocker } ≡ w
watch_of w entry pair blocker e p b = rw (e, p, b) refl

pub entries_same : (old new : List Watched) (low n : ℕ) → ((k : ℕ) → k < low + n → (get_or new k no_watch).entry ≡ (get_or old k no_watch).entry) → entries_from new low n ≡ entries_from old low n
entries_same old new low zero same = refl
entries_same old new low (suc n) same =
    ap (λ (e : ℕ). e ∷ entries_from new low n) (same (low + n) (omega arith))
    ∙ ap (λ (es : List ℕ). (get_or old (low + n) no_watch).entry ∷ es) (entries_same old new low n (λ k lt. same k (omega (arith, lt))))

pub length-entries : (watches : List Watched) (low n : ℕ) → length (entries_from watches low n) ≡ n
length-entries watches low zero = refl
length-entries watches low (suc n) = ap suc (length-entries watches low n)

pub entries_first : (watches : List Watched) (low n : ℕ) → 0 < n → entries_from watches low n ≡ (get_or watches (low + (n - 1)) no_watch).entry ∷ entries_from watches low (n - 1)
entries_first watches low zero some = absurd (omega (arith, some))
entries_first watches low (suc n) some =
    let same : n ≡ suc n - 1 = omega arith in
    ap (λ (m : ℕ). (get_or watches (low + m) no_watch).entry ∷ entries_from watches low m) same

pub entries_have : (watches : List Watched) (low n k e : ℕ) → low ≤ k → k < low + n → (get_or watches k no_watch).entry ≡ e → Contains (entries_from watches low n) e
entries_have watches low zero k e ge lt is = absurd (omega (arith, ge, lt))
entries_have watches low (suc n) k e ge lt is =
    let first = (get_or watches (low + n) no_watch).entry in
    let rest = entries_from watches low n in
    ⊎_elim
    (λ (last : k ≡ low + n).
    let at : first ≡ e = ap (λ (y : ℕ). (get_or watches y no_watch).entry) (sym last) ∙ is in
    subst (λ (x : ℕ). Contains (first ∷ rest) x) at (Contains-here first rest))
    (λ (ne : k ≢ low + n).
    Contains-there first rest e (entries_have watches low n k e ge (let less : k < low + n = omega (arith, lt, ne) in less) is))
    (cases_eq k (low + n))

-- ---- what is seen

module _ (a : Inside) (now : Watching) (is : seen_watches a ≡ now) where
  pub length_seen : length a.names.items ≡ length now.lits
  length_seen = sym (length-map a.names.items literal_named) ∙ ap (λ (w : Watching). length w.lits) is

  pub stands_seen : a.lists.items ≡ now.stands
  stands_seen = ap (λ (w : Watching). w.stands) is

  pub lists_seen : length a.lists.items ≡ now.lists
  lists_seen = ap (λ (w : Watching). w.lists) is

  pub lit_seen : (e : ℕ) → lit_at now.lits e ≡ literal_named (get_or a.names.items e 0)
  lit_seen e = sym (ap (λ (w : Watching). lit_at w.lits e) is) ∙ lit_named a.names.items e

  pub far_seen : (e : ℕ) → far_at now.fars e ≡ is_far_name (get_or a.names.items e 0)
  far_seen e = sym (ap (λ (w : Watching). far_at w.fars e) is) ∙ far_named a.names.items e

  pub walked_seen : literal_named a.walked ≡ now.walked
  walked_seen = ap (λ (w : Watching). w.walked) is

  pub waiting_seen : entries_from (listed_at a.lists.items (a.walked / 2)).watches a.low a.left ≡ now.waiting
  waiting_seen = ap (λ (w : Watching). w.waiting) is

  pub left_seen : length now.waiting ≡ a.left
  left_seen = ap length (sym waiting_seen) ∙ length-entries (listed_at a.lists.items (a.walked / 2)).watches a.low a.left

  -- the code of an entry whose literal is known
  pub code_seen : (e : ℕ) (l : Literal) → lit_at now.lits e ≡ l → get_or a.names.items e 0 / 2 ≡ code_of l
  code_seen e l same = sym (code_again (get_or a.names.items e 0 / 2)) ∙ ap code_of (sym (lit_seen e) ∙ same)

  pub links_seen : (code : ℕ) → links now.lits code ≡ Rattle.std.proofs.Common.count_by (λ (n : ℕ). eqb (n / 2) code) a.names.items
  links_seen code = sym (ap (λ (w : Watching). links w.lits code) is) ∙ links_named a.names.items code

  -- the list of a literal that comes in isn't the one that is walked
  pub not_walked : (l : Literal) → (now.waiting ≡ []) ⊎ (l ≢ now.walked) → 0 < a.left → a.walked / 2 ≢ code_of l
  not_walked l (inl none) some same = absurd (omega (arith, some, left_seen, ap length none))
  not_walked l (inr ne) some same =
      ne (sym (Rattle.sat_state.proofs.Codes.literal_again l) ∙ ap literal_at (sym same) ∙ walked_seen)

  module _ (inv : AreWatches a) (some : 0 < a.left) where
    abbrev pub walked_list : Listed
    walked_list = listed_at a.lists.items (a.walked / 2)

    abbrev pub next_place : ℕ
    next_place = a.low + (a.left - 1)

    pub walk_known : a.walked / 2 < length a.lists.items
    walk_known = (inv.walk some).known

    pub next_in : next_place < length walked_list.watches
    next_in = omega (arith, (inv.walk some).whole, some)

    pub waits : now.waiting ≡ (watch_in walked_list next_place).entry ∷ entries_from walked_list.watches a.low (a.left - 1)
    waits = sym waiting_seen ∙ entries_first walked_list.watches a.low a.left some

    pub next_first : get_or now.waiting 0 0 ≡ (watch_in walked_list next_place).entry
    next_first = ap (λ (ws : List ℕ). get_or ws 0 0) waits

    pub rest_seen : entries_from walked_list.watches a.low (a.left - 1) ≡ drop 1 now.waiting
    rest_seen = sym (ap (drop 1) waits)

    next_held : Rattle.sat_state.specs.WatchesInside.IsHeld a.names.items (a.walked / 2) walked_list next_place
    next_held = (inv.listed.each (a.walked / 2)).held next_place next_in

    pub entry_there : (watch_in walked_list next_place).entry < length a.names.items
    entry_there = next_held.there

    pub next_seen : IsNext now (watch_in walked_list next_place)
    next_seen = record {
      first = waits ∙ ap (λ (es : List ℕ). (watch_in walked_list next_place).entry ∷ es) rest_seen;
      there = omega (arith, next_held.there, length_seen);
      walked = lit_seen (watch_in walked_list next_place).entry ∙ ap literal_at (held_code a.names.items (a.walked / 2) walked_list next_place (inv.listed.each (a.walked / 2)) next_in) ∙ walked_seen;
      stands = record {
        code = a.walked / 2;
        there = subst (λ (ls : List Listed). Contains (listed_at ls (a.walked / 2)).watches (watch_in walked_list next_place)) stands_seen
            (next_place, next_in, get_or_default walked_list.watches next_place (watch_in walked_list next_place) no_watch next_in);
      };
    }

    -- one fewer is left
    pub walk_on : Walks a.lists.items a.walked a.low (a.left - 1)
    walk_on =
        let w = inv.walk some in
        record { known = w.known; begins = w.begins; within = omega (arith, w.within); whole = omega (arith, w.whole) }

-- the list of another code changed, or this one in nothing that counts
pub walks_as : (old new : List Listed) (walked low left : ℕ) → Walks old walked low left → length new ≡ length old → (listed_at new (walked / 2)).nears ≡ (listed_at old (walked / 2)).nears
    → length (listed_at new (walked / 2)).watches ≡ length (listed_at old (walked / 2)).watches → Walks new walked low left
walks_as old new walked low left w size nears watches = record {
  known = omega (arith, w.known, size);
  begins = w.begins ∙ ap (λ (n : ℕ). cond (is_far_name walked) n 0) (sym nears);
  within = by_side (is_far_name walked) w.within;
  whole = omega (arith, w.whole, watches);
}
  where
    by_side : (far : Bool) → low + left ≤ end_of (listed_at old (walked / 2)) far → low + left ≤ end_of (listed_at new (walked / 2)) far
    by_side true le = omega (arith, le, watches)
    by_side false le = omega (arith, le, nears)

-- the next one went out of the part that is walked
pub walks_out : (old : List Listed) (walked low left place : ℕ) (far : Bool) (new : Listed) → Walks old walked low left → 0 < left → is_far_name walked ≡ far → IsWithout (listed_at old (walked / 2)) new place far
    → Walks (set old (walked / 2) new) walked low (left - 1)
walks_out old walked low left place far new w some is out =
    let code = walked / 2 in
    let at : listed_at (set old code new) code ≡ new = at_same old code new w.known in
    record {
      known = omega (arith, w.known, length-set old code new);
      begins = subst (λ (l : Listed). low ≡ begin_of l (is_far_name walked)) (sym at)
          (subst (λ (b : Bool). low ≡ begin_of new b) (sym is) (begins_by far out.nears (subst (λ (b : Bool). low ≡ begin_of (listed_at old code) b) is w.begins)));
      within = subst (λ (l : Listed). low + (left - 1) ≤ end_of l (is_far_name walked)) (sym at)
          (subst (λ (b : Bool). low + (left - 1) ≤ end_of new b) (sym is) (within_by far out.nears (subst (λ (b : Bool). low + left ≤ end_of (listed_at old code) b) is w.within)));
      whole = subst (λ (l : Listed). low + (left - 1) ≤ length l.watches) (sym at) (omega (arith, w.whole, out.size, some));
    }
  where
    begins_by : (b : Bool) → (listed_at old (walked / 2)).nears ≡ new.nears + cond b 0 1 → low ≡ begin_of (listed_at old (walked / 2)) b → low ≡ begin_of new b
    begins_by true nears begins = omega (arith, nears, begins)
    begins_by false nears begins = begins

    within_by : (b : Bool) → (listed_at old (walked / 2)).nears ≡ new.nears + cond b 0 1 → low + left ≤ end_of (listed_at old (walked / 2)) b → low + (left - 1) ≤ end_of new b
    within_by true nears le = omega (arith, le, out.size, some)
    within_by false nears le = omega (arith, le, nears, some)

-- what stands in lists of which one was set
pub stands_set : (lists : List Listed) (code : ℕ) (new : Listed) (w : Watched) → code < length lists → IsInSomeList (set lists code new) w → Contains new.watches w ⊎ IsInSomeList lists w
stands_set lists code new w known s = ⊎_elim
    (λ (same : s.code ≡ code). inl (subst (λ (l : Listed). Contains l.watches w) (ap (listed_at (set lists code new)) same ∙ at_same lists code new known) s.there))
    (λ (ne : s.code ≢ code).
    let stays : IsInSomeList lists w = record { code = s.code; there = subst (λ (l : Listed). Contains l.watches w) (at_other lists code s.code new ne) s.there } in
    inr stays)
    (cases_eq s.code code)

-- what stands in a list without one stood in it
pub stood : (old new : Listed) (place : ℕ) (far : Bool) (w : Watched) → IsWithout old new place far → Contains new.watches w → Contains old.watches w
stood old new place far w out (k, lt, is) = (out.from k, out.within k lt, sym (out.same k w lt) ∙ is)

-- what stands in a list with one more is that one, or stood in it
pub stood_or : (old new : Listed) (place : ℕ) (far : Bool) (w x : Watched) → IsWithout new old place far → ((d : Watched) → get_or new.watches place d ≡ x) → Contains new.watches w → Contains old.watches w ⊎ (w ≡ x)
stood_or old new place far w x into there (k, lt, is) = ⊎_elim
    (λ (same : k ≡ place). inr (sym is ∙ ap (λ (y : ℕ). get_or new.watches y w) same ∙ there w))
    (λ (ne : k ≢ place).
    let b = into.back k lt ne in
    inl (into.to k, b.0, into.same (into.to k) w b.0 ∙ ap (λ (y : ℕ). get_or new.watches y w) b.1 ∙ is))
    (cases_eq k place)

-- the room of all lists, where one was set
pub room_set : (lists : List Listed) (code : ℕ) (new : Listed) → code < length lists → new.room ≡ (listed_at lists code).room → (k : ℕ) → (listed_at (set lists code new) k).room ≡ (listed_at lists k).room
room_set lists code new known room k = ⊎_elim
    (λ (same : k ≡ code).
    subst (λ (c : ℕ). (listed_at (set lists code new) c).room ≡ (listed_at lists c).room) (sym same) (ap (λ (l : Listed). l.room) (at_same lists code new known) ∙ room))
    (λ (ne : k ≢ code). ap (λ (l : Listed). l.room) (at_other lists code k new ne))
    (cases_eq k code)

pub some_left : (a : Inside) (now : Watching) → seen_watches a ≡ now → 0 < length now.waiting → 0 < a.left
some_left a now is some = omega (arith, left_seen a now is, some)

-- the place of the next one fits its word
pub next_fits : (a : Inside) (now : Watching) (is : seen_watches a ≡ now) (inv : AreWatches a) → 0 < a.left → a.low + (a.left - 1) < 2 ^ 32
next_fits a now is inv some =
    let there = next_in a now is inv some in
    let short = list_short a.names.items (a.walked / 2) (listed_at a.lists.items (a.walked / 2)) (a.low + (a.left - 1)) (inv.listed.each (a.walked / 2)) there in
    omega (arith, there, short, inv.listed.few)

-- ---- a walk begins

side_far : (code : ℕ) (b : Bool) → is_far_name (2 * code + cond b 0 1) ≡ Rattle.std.proofs.Common.not b
side_far code true = ap (λ (n : ℕ). eqb n 1) (let e : (2 * code + 0) % 2 ≡ 0 = omega arith in e)
side_far code false = ap (λ (n : ℕ). eqb n 1) (let e : (2 * code + 1) % 2 ≡ 1 = omega arith in e)

not_true : (b : Bool) → Rattle.std.proofs.Common.not b ≡ true → b ≡ false
not_true false e = refl
not_true true e = sym e

not_false : (b : Bool) → Rattle.std.proofs.Common.not b ≡ false → b ≡ true
not_false true e = refl
not_false false e = sym e

module _ (a : Inside) (now : Watching) (is : seen_watches a ≡ now) (inv : AreWatches a) (code name nears : ℕ) (named : name / 2 ≡ code) (l : Literal) (of : code ≡ code_of l) (two : 2 ≤ code) (first : nears ≡ (listed_at a.lists.items code).nears) where
  placed : (entry : ℕ) → entry < length now.lits → lit_at now.lits entry ≡ l → Rattle.sat_state.specs.WatchesInside.IsPlaced (listed_at a.lists.items code) entry
  placed entry lt same = (inv.listed.each code).complete entry (omega (arith, lt, length_seen a now is)) (code_seen a now is entry l same ∙ sym of) two

  by_side : (entry : ℕ) (p : Rattle.sat_state.specs.WatchesInside.IsPlaced (listed_at a.lists.items code) entry) → far_at now.fars entry ≡ Rattle.std.proofs.Common.not (Rattle.std.proofs.Common.ltb p.place (listed_at a.lists.items code).nears)
  by_side entry p =
      let list = listed_at a.lists.items code in
      let h = (inv.listed.each code).held p.place p.there in
      far_seen a now is entry
      ∙ ap is_far_name (ap (λ (e : ℕ). get_or a.names.items e 0) (sym p.is) ∙ h.named)
      ∙ side_far code (Rattle.std.proofs.Common.ltb p.place list.nears)

  pub started_far : (len : ℕ) → len ≡ length (listed_at a.lists.items code).watches → (entry : ℕ) → entry < length now.lits → lit_at now.lits entry ≡ l → far_at now.fars entry ≡ true
      → Contains (entries_from (listed_at a.lists.items (name / 2)).watches nears (len - nears)) entry
  started_far len all entry lt same far =
      let list = listed_at a.lists.items code in
      let p = placed entry lt same in
      let behind : list.nears ≤ p.place = ge_of p.place list.nears (not_true (Rattle.std.proofs.Common.ltb p.place list.nears) (sym (by_side entry p) ∙ far)) in
      subst (λ (c : ℕ). Contains (entries_from (listed_at a.lists.items c).watches nears (len - nears)) entry) (sym named)
      (entries_have list.watches nears (len - nears) p.place entry (omega (arith, first, behind)) (omega (arith, p.there, all, first, behind)) p.is)
    where
      ge_of : (x y : ℕ) → Rattle.std.proofs.Common.ltb x y ≡ false → y ≤ x
      ge_of x y e = grind (arith, nat_tests)

  pub started_near : (entry : ℕ) → entry < length now.lits → lit_at now.lits entry ≡ l → far_at now.fars entry ≡ false → Contains (entries_from (listed_at a.lists.items (name / 2)).watches 0 nears) entry
  started_near entry lt same near =
      let list = listed_at a.lists.items code in
      let p = placed entry lt same in
      let before : p.place < list.nears = lt_of p.place list.nears (not_false (Rattle.std.proofs.Common.ltb p.place list.nears) (sym (by_side entry p) ∙ near)) in
      subst (λ (c : ℕ). Contains (entries_from (listed_at a.lists.items c).watches 0 nears) entry) (sym named)
      (entries_have list.watches 0 nears p.place entry (omega arith) (omega (arith, first, before)) p.is)
    where
      lt_of : (x y : ℕ) → Rattle.std.proofs.Common.ltb x y ≡ true → x < y
      lt_of x y e = grind (arith, nat_tests)

  -- where there are as many near ones as there are in all, none is far
  pub none_far : nears ≡ length (listed_at a.lists.items code).watches → (entry : ℕ) → entry < length now.lits → lit_at now.lits entry ≡ l → far_at now.fars entry ≡ false
  none_far all entry lt same =
      let list = listed_at a.lists.items code in
      let p = placed entry lt same in
      by_side entry p ∙ ap Rattle.std.proofs.Common.not (lt_is p.place list.nears (omega (arith, p.there, all, first)))
    where
      lt_is : (x y : ℕ) → x < y → Rattle.std.proofs.Common.ltb x y ≡ true
      lt_is x y lt = grind (arith, nat_tests)

-- ---- the next one goes out

-- what was read of the list that is walked is what stands there
pub read_next : (a : Inside) (now : Watching) (is : seen_watches a ≡ now) (inv : AreWatches a) (some : 0 < a.left) (cell : Listed) (x : Watched) → cell ≡ get_or a.lists.items (a.walked / 2) cell
    → x ≡ get_or cell.watches (a.low + (a.left - 1)) x → x.entry ≡ (watch_in (listed_at a.lists.items (a.walked / 2)) (a.low + (a.left - 1))).entry
read_next a now is inv some cell x of at =
    let list = listed_at a.lists.items (a.walked / 2) in
    let place = a.low + (a.left - 1) in
    let read : cell ≡ list = of ∙ get_or_default a.lists.items (a.walked / 2) cell no_list (walk_known a now is inv some) in
    ap (λ (w : Watched). w.entry) (at ∙ ap (λ (l : Listed). get_or l.watches place x) read ∙ get_or_default list.watches place x no_watch (next_in a now is inv some))

pub low_far : (lists : List Listed) (walked low left : ℕ) → Walks lists walked low left → is_far_name walked ≡ true → (listed_at lists (walked / 2)).nears ≤ low
low_far lists walked low left w far = omega (arith, subst (λ (b : Bool). low ≡ begin_of (listed_at lists (walked / 2)) b) far w.begins)

pub within_near : (lists : List Listed) (walked low left : ℕ) → Walks lists walked low left → is_far_name walked ≡ false → low + left ≤ (listed_at lists (walked / 2)).nears
within_near lists walked low left w near = subst (λ (b : Bool). low + left ≤ end_of (listed_at lists (walked / 2)) b) near w.within

pub is_far : (walked : ℕ) → walked % 2 ≡ 1 → is_far_name walked ≡ true
is_far walked is = eq-eqb (walked % 2) 1 is

pub is_near : (walked : ℕ) → walked % 2 ≢ 1 → is_far_name walked ≡ false
is_near walked ne = ne_eqb (walked % 2) 1 ne

pub lits_set : (names : List ℕ) (lits : List Literal) (e name : ℕ) (l : Literal) → map literal_named names ≡ lits → literal_named name ≡ l → map literal_named (set names e name) ≡ set lits e l
lits_set names lits e name l seen is =
    map-set literal_named names e name ∙ ap (λ (x : Literal). set (map literal_named names) e x) is ∙ ap (λ (ls : List Literal). set ls e l) seen

pub fars_set : (names : List ℕ) (fars : List Bool) (e name : ℕ) (far : Bool) → map is_far_name names ≡ fars → is_far_name name ≡ far → map is_far_name (set names e name) ≡ set fars e far
fars_set names fars e name far seen is =
    map-set is_far_name names e name ∙ ap (λ (x : Bool). set (map is_far_name names) e x) is ∙ ap (λ (fs : List Bool). set fs e far) seen

module _ (a : Inside) (now : Watching) (is : seen_watches a ≡ now) (inv : AreWatches a) (some : 0 < a.left) (cell new : Listed) (far : Bool) (read : cell ≡ listed_at a.lists.items (a.walked / 2))
    (w : IsWithout cell new (a.low + (a.left - 1)) far) where
  abbrev from_list : Listed
  from_list = listed_at a.lists.items (a.walked / 2)

  pub taken : IsWithout from_list new (a.low + (a.left - 1)) far
  taken = subst (λ (l : Listed). IsWithout l new (a.low + (a.left - 1)) far) read w

  pub taken_stands : (x : Watched) → IsInSomeList (set a.lists.items (a.walked / 2) new) x → IsInSomeList now.stands x
  taken_stands x s =
      subst (λ (ls : List Listed). IsInSomeList ls x) (stands_seen a now is)
      (⊎_elim
      (λ (in_it : Contains new.watches x).
      let was : IsInSomeList a.lists.items x = record { code = a.walked / 2; there = stood from_list new (a.low + (a.left - 1)) far x taken in_it } in
      was)
      (λ (was : IsInSomeList a.lists.items x). was)
      (stands_set a.lists.items (a.walked / 2) new x (walk_known a now is inv some) s))

  pub taken_waiting : ((k : ℕ) (d : Watched) → k < a.low + (a.left - 1) → get_or new.watches k d ≡ get_or cell.watches k d)
      → entries_from (listed_at (set a.lists.items (a.walked / 2) new) (a.walked / 2)).watches a.low (a.left - 1) ≡ drop 1 now.waiting
  taken_waiting before =
      entries_same from_list.watches (listed_at (set a.lists.items (a.walked / 2) new) (a.walked / 2)).watches a.low (a.left - 1)
      (λ k lt. ap (λ (l : Listed). (get_or l.watches k no_watch).entry) (at_same a.lists.items (a.walked / 2) new (walk_known a now is inv some))
      ∙ ap (λ (x : Watched). x.entry) (before k no_watch lt)
      ∙ ap (λ (l : Listed). (get_or l.watches k no_watch).entry) read)
      ∙ rest_seen a now is inv some

-- ---- an entry comes in

module _ (a : Inside) (now : Watching) (is : seen_watches a ≡ now) (inv : AreWatches a) (code : ℕ) (lit : Literal) (of : code ≡ code_of lit) (two : 2 ≤ code) (listed : code_of lit < now.lists) where
  pub code_known : code < length a.lists.items
  code_known = omega (arith, listed, of, lists_seen a now is)

  pub room_left : (cell : Listed) → cell ≡ listed_at a.lists.items code → links now.lits (code_of lit) < (listed_at now.stands (code_of lit)).room → length cell.watches < cell.room
  room_left cell read few =
      let here : links now.lits code < (listed_at now.stands code).room = subst (λ (c : ℕ). links now.lits c < (listed_at now.stands c).room) (sym of) few in
      omega (
        arith,
        here,
        links_seen a now is code,
        (inv.listed.each code).total two,
        ap (λ (l : Listed). length l.watches) read,
        ap (λ (l : Listed). l.room) read,
        ap (λ (ls : List Listed). (listed_at ls code).room) (stands_seen a now is),
      )

  module _ (e name place : ℕ) (far : Bool) (cell new : Listed) (x : Watched) (read : cell ≡ listed_at a.lists.items code) (into : IsWithout new cell place far) (there : (d : Watched) → get_or new.watches place d ≡ x)
      (named : name ≡ 2 * code + cond far 1 0) where
    pub linked_in : x.entry ≡ e → e < length now.lits → lit_at now.lits e ≡ no_lit → ◌≡◌ {A = ℕ} (cond (Rattle.std.proofs.Common.ltb place new.nears) 0 1) (cond far 1 0) → AreListsByCode (set a.names.items e name) (set a.lists.items code new)
    linked_in entry lt none side =
        subst (λ (n : ℕ). AreListsByCode (set a.names.items e n) (set a.lists.items code new)) (sym named)
        (listed_in a.names.items a.lists.items code e place far new inv.listed code_known (subst (λ (l : Listed). IsWithout new l place far) read into) (ap (λ (w : Watched). w.entry) (there no_watch) ∙ entry)
        (omega (arith, lt, length_seen a now is)) two (code_seen a now is e no_lit none) side)

    pub linked_walk : (now.waiting ≡ []) ⊎ (lit ≢ now.walked) → 0 < a.left → Walks (set a.lists.items code new) a.walked a.low a.left
    linked_walk other more =
        let ne : a.walked / 2 ≢ code = λ same. not_walked a now is lit other more (same ∙ of) in
        let at : listed_at (set a.lists.items code new) (a.walked / 2) ≡ listed_at a.lists.items (a.walked / 2) = at_other a.lists.items code (a.walked / 2) new ne in
        walks_as a.lists.items (set a.lists.items code new) a.walked a.low a.left (inv.walk more) (length-set a.lists.items code new) (ap (λ (l : Listed). l.nears) at) (ap (λ (l : Listed). length l.watches) at)

    pub linked_stands : (w : Watched) → IsInSomeList (set a.lists.items code new) w → IsInSomeList now.stands w ⊎ (w ≡ x)
    linked_stands w s = ⊎_elim
        (λ (in_it : Contains new.watches w). ⊎_elim
        (λ (before : Contains cell.watches w).
        let was : IsInSomeList a.lists.items w = record { code = code; there = subst (λ (l : Listed). Contains l.watches w) read before } in
        inl (subst (λ (ls : List Listed). IsInSomeList ls w) (stands_seen a now is) was))
        (λ (same : w ≡ x). inr same)
        (stood_or cell new place far w x into there in_it))
        (λ (was : IsInSomeList a.lists.items w). inl (subst (λ (ls : List Listed). IsInSomeList ls w) (stands_seen a now is) was))
        (stands_set a.lists.items code new w code_known s)

    pub linked_waiting : (now.waiting ≡ []) ⊎ (lit ≢ now.walked) → entries_from (listed_at (set a.lists.items code new) (a.walked / 2)).watches a.low a.left ≡ now.waiting
    linked_waiting other = ⊎_elim
        (λ (z : a.left ≡ 0).
        ap (entries_from (listed_at (set a.lists.items code new) (a.walked / 2)).watches a.low) z
        ∙ sym (ap (entries_from (listed_at a.lists.items (a.walked / 2)).watches a.low) z)
        ∙ waiting_seen a now is)
        (λ (nz : a.left ≢ 0).
        let more : 0 < a.left = omega (arith, nz) in
        let ne : a.walked / 2 ≢ code = λ same. not_walked a now is lit other more (same ∙ of) in
        ap (λ (l : Listed). entries_from l.watches a.low a.left) (at_other a.lists.items code (a.walked / 2) new ne) ∙ waiting_seen a now is)
        (cases_eq a.left 0)

-- ---- another literal is put beside the next one

module _ (a : Inside) (now : Watching) (is : seen_watches a ≡ now) (inv : AreWatches a) (some : 0 < a.left) (cell new : Listed) (blocker : Literal) (of : cell ≡ get_or a.lists.items (a.walked / 2) cell)
    (changed : (d : Watched) → new.watches ≡ set cell.watches (a.low + (a.left - 1)) (record { entry = (get_or cell.watches (a.low + (a.left - 1)) d).entry; pair = false; blocker = blocker })) (stay : new.nears ≡ cell.nears) where
  abbrev its_list : Listed
  its_list = listed_at a.lists.items (a.walked / 2)

  abbrev its_place : ℕ
  its_place = a.low + (a.left - 1)

  its_read : cell ≡ its_list
  its_read = list_read a.lists.items (a.walked / 2) cell (walk_known a now is inv some) of

  pub blocked_watches : new.watches ≡ set its_list.watches its_place (record { entry = (watch_in its_list its_place).entry; pair = false; blocker = blocker })
  blocked_watches = changed no_watch ∙ ap (λ (l : Listed). set l.watches its_place (record { entry = (get_or l.watches its_place no_watch).entry; pair = false; blocker = blocker })) its_read

  pub blocked_nears : new.nears ≡ its_list.nears
  blocked_nears = stay ∙ ap (λ (l : Listed). l.nears) its_read

  pub blocked_length : length new.watches ≡ length its_list.watches
  blocked_length = ap length blocked_watches ∙ length-set its_list.watches its_place (record { entry = (watch_in its_list its_place).entry; pair = false; blocker = blocker })
