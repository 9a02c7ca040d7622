-- The lists of watched literals, as entries come in and go out.
use Rattle.std.proofs.Common.{◌≡◌, ◌≢◌, ℕ, zero, suc, ◌+◌, ◌*◌, ◌/◌, ◌^◌, ◌<◌, ◌≤◌, Bool, true, false, cond, eqb, ltb, List, [], ◌∷◌, ◌++◌, length, map, get_or, set, count_by, Contains, refl, sym, ap, ◌∙◌, subst, inl, inr, ◌⊎◌, ⊎_elim, arith}
use Rattle.std.proofs.lemmas.Bool.{cases_eq, ne_eqb, eq-eqb}
use Rattle.std.proofs.lemmas.List.{get_or_default, get_or-set_same, get_or-set_other, get_or_append_left, get_or_push, length-set, length_push}
use Rattle.std.proofs.lemmas.List.Sums.{sum_by-cons, sum_by_push, sum_by-set, count_by-le-length}
use Rattle.cnf_core.specs.Literal.{Literal, code_of}
use Rattle.sat_state.specs.Watched.{Watched}
use Rattle.sat_state.specs.Listed.{Listed, IsWithout}
use Rattle.sat_state.specs.Watching.{listed_at, links}
use Rattle.sat_state.specs.WatchesInside.{literal_named, no_watch, watch_in, IsListOf, AreListsByCode}
use Rattle.sat_state.proofs.Codes.{code_again}

abbrev pub no_list : Listed
no_list = record { watches = []; nears = 0; room = 0 }

abbrev weight : ℕ → ℕ → ℕ
weight code name = cond (eqb (name / 2) code) 1 0

weight_same : (code name : ℕ) → name / 2 ≡ code → weight code name ≡ 1
weight_same code name is = ap (λ (b : Bool). cond b 1 0) (eq-eqb (name / 2) code is)

weight_other : (code name : ℕ) → name / 2 ≢ code → weight code name ≡ 0
weight_other code name ne = ap (λ (b : Bool). cond b 1 0) (ne_eqb (name / 2) code ne)

-- ---- how many entries are of a code

pub links_named : (names : List ℕ) (code : ℕ) → links (map literal_named names) code ≡ count_by (λ name. eqb (name / 2) code) names
links_named [] code = refl
links_named (name ∷ names) code =
    sum_by-cons (λ (l : Literal). cond (eqb (code_of l) code) 1 0) (literal_named name) (map literal_named names)
    ∙ ap (λ (n : ℕ). cond (eqb n code) 1 0 + links (map literal_named names) code) (code_again (name / 2))
    ∙ ap (λ (n : ℕ). weight code name + n) (links_named names code)
    ∙ sym (sum_by-cons (weight code) name names)

counted : (names : List ℕ) (code e name : ℕ) → e < length names → count_by (λ n. eqb (n / 2) code) (set names e name) + weight code (get_or names e 0) ≡ count_by (λ n. eqb (n / 2) code) names + weight code name
counted names code e name lt = sum_by-set (weight code) names e name 0 lt

-- ---- lists that change in nothing that counts

pub same_entries : (names : List ℕ) (code : ℕ) (old new : Listed) → IsListOf names code old → length new.watches ≡ length old.watches → new.nears ≡ old.nears
    → ((k : ℕ) → k < length old.watches → (watch_in new k).entry ≡ (watch_in old k).entry) → IsListOf names code new
same_entries names code old new l size nears same = record {
  held = λ k lt.
      let at : k < length old.watches = omega (arith, lt, size) in
      let h = l.held k at in
      record {
        there = omega (arith, h.there, same k at);
        some = h.some;
        named = ap (λ (e : ℕ). get_or names e 0) (same k at) ∙ h.named ∙ ap (λ (n : ℕ). 2 * code + cond (ltb k n) 0 1) (sym nears);
      };
  once = λ j k lt more is.
      let at_j : j < length old.watches = omega (arith, lt, size) in
      let at_k : k < length old.watches = omega (arith, more, size) in
      l.once j k at_j at_k (sym (same j at_j) ∙ is ∙ same k at_k);
  complete = λ e lt is some.
      let p = l.complete e lt is some in
      record { place = p.place; there = omega (arith, p.there, size); is = same p.place p.there ∙ p.is };
  total = λ some. size ∙ l.total some;
}

pub listed_as : (names : List ℕ) (old new : List Listed) → AreListsByCode names old → 2 * length new < 2 ^ 32 → ((code : ℕ) → IsListOf names code (listed_at old code) → IsListOf names code (listed_at new code)) → AreListsByCode names new
listed_as names old new listed few each = record { few = listed.few; few_lists = few; each = λ code. each code (listed.each code) }

pub at_same : (lists : List Listed) (code : ℕ) (l : Listed) → code < length lists → listed_at (set lists code l) code ≡ l
at_same lists code l lt = get_or-set_same lists code l no_list lt

pub at_other : (lists : List Listed) (code k : ℕ) (l : Listed) → k ≢ code → listed_at (set lists code l) k ≡ listed_at lists k
at_other lists code k l ne = get_or-set_other lists code k l no_list ne

-- the list of one code is set
pub listed_set : (names : List ℕ) (lists : List Listed) (code : ℕ) (l : Listed) → AreListsByCode names lists → code < length lists → IsListOf names code l → AreListsByCode names (set lists code l)
listed_set names lists code l listed known is = record {
  few = listed.few;
  few_lists = omega (arith, length-set lists code l, listed.few_lists);
  each = λ k. ⊎_elim
      (λ (same : k ≡ code).
      subst (λ (c : ℕ). IsListOf names c (listed_at (set lists code l) c)) (sym same) (subst (IsListOf names code) (sym (at_same lists code l known)) is))
      (λ (ne : k ≢ code). subst (IsListOf names k) (sym (at_other lists code k l ne)) (listed.each k))
      (cases_eq k code);
}

-- an entry without a name more
pub listed_push : (names : List ℕ) (lists : List Listed) → AreListsByCode names lists → length names + 2 < 2 ^ 31 → AreListsByCode (names ++ 0 ∷ []) lists
listed_push names lists listed fits =
    let size = length_push names 0 in
    record {
      few = omega (arith, size, fits);
      few_lists = listed.few_lists;
      each = λ code.
          let l = listed.each code in
          let list = listed_at lists code in
          record {
            held = λ k lt.
                let h = l.held k lt in
                record { there = omega (arith, size, h.there); some = h.some; named = get_or_append_left names (0 ∷ []) 0 (watch_in list k).entry h.there ∙ h.named };
            once = l.once;
            complete = λ e lt is some. ⊎_elim
                (λ (last : e ≡ length names).
                let none : get_or (names ++ 0 ∷ []) e 0 ≡ 0 = get_or_push names 0 0 e (sym last) in
                absurd (omega (arith, none, is, some)))
                (λ (ne : e ≢ length names).
                let there : e < length names = omega (arith, lt, size, ne) in
                l.complete e there (ap (λ (n : ℕ). n / 2) (sym (get_or_append_left names (0 ∷ []) 0 e there)) ∙ is) some)
                (cases_eq e (length names));
            total = λ some.
                let none : weight code 0 ≡ 0 = weight_other code 0 (λ is. absurd (omega (arith, is, some))) in
                omega (arith, l.total some, sum_by_push (weight code) names 0, none);
          };
    }

-- ---- names of other codes

half_of : (n code : ℕ) (b : Bool) → n ≡ 2 * code + cond b 0 1 → n / 2 ≡ code
half_of n code true is = omega (arith, is)
half_of n code false is = omega (arith, is)

other_kept : (names : List ℕ) (e name code : ℕ) (list : Listed) → IsListOf names code list → e < length names → (2 ≤ code → get_or names e 0 / 2 ≢ code) → (2 ≤ code → name / 2 ≢ code) → IsListOf (set names e name) code list
other_kept names e name code list l lt was now =
    let size = length-set names e name in
    record {
      held = λ k at.
          let h = l.held k at in
          let x = (watch_in list k).entry in
          let ne : x ≢ e = λ same. was h.some (ap (λ (y : ℕ). get_or names y 0 / 2) (sym same) ∙ half_of (get_or names (watch_in list k).entry 0) code (ltb k list.nears) h.named) in
          record { there = omega (arith, size, h.there); some = h.some; named = get_or-set_other names e x name 0 ne ∙ h.named };
      once = l.once;
      complete = λ x at is some. ⊎_elim
          (λ (same : x ≡ e).
          absurd (now some (ap (λ (n : ℕ). n / 2) (sym (ap (λ (y : ℕ). get_or (set names e name) y 0) same ∙ get_or-set_same names e name 0 lt)) ∙ is)))
          (λ (ne : x ≢ e). l.complete x (omega (arith, at, size)) (ap (λ (n : ℕ). n / 2) (sym (get_or-set_other names e x name 0 ne)) ∙ is) some)
          (cases_eq x e);
      total = λ some.
          omega (arith, l.total some, counted names code e name lt, weight_other code (get_or names e 0) (was some), weight_other code name (now some));
    }

-- ---- an entry goes out

-- the code of what stands in a list
pub held_code : (names : List ℕ) (code : ℕ) (list : Listed) (k : ℕ) → IsListOf names code list → k < length list.watches → get_or names (watch_in list k).entry 0 / 2 ≡ code
held_code names code list k l lt = half_of (get_or names (watch_in list k).entry 0) code (ltb k list.nears) (l.held k lt).named

module _ (names : List ℕ) (code e place : ℕ) (far : Bool) (old new : Listed) (l : IsListOf names code old) (w : IsWithout old new place far) (is : (watch_in old place).entry ≡ e) where
  out_there : e < length names
  out_there = omega (arith, (l.held place w.there).there, is)

  out_code : get_or names e 0 / 2 ≡ code
  out_code = ap (λ (x : ℕ). get_or names x 0 / 2) (sym is) ∙ held_code names code old place l w.there

  out_other : (k : ℕ) → k < length new.watches → (watch_in old (w.from k)).entry ≢ e
  out_other k lt same = w.other k lt (l.once (w.from k) place (w.within k lt) w.there (same ∙ sym is))

  pub list_out : 2 ≤ code → IsListOf (set names e 0) code new
  list_out some =
      let size = length-set names e 0 in
      let entry : (k : ℕ) → k < length new.watches → (watch_in new k).entry ≡ (watch_in old (w.from k)).entry = λ k lt. ap (λ (x : Watched). x.entry) (w.same k no_watch lt) in
      record {
        held = λ k lt.
            let h = l.held (w.from k) (w.within k lt) in
            record {
              there = omega (arith, entry k lt, h.there, size);
              some = some;
              named = ap (λ (x : ℕ). get_or (set names e 0) x 0) (entry k lt) ∙ get_or-set_other names e (watch_in old (w.from k)).entry 0 0 (out_other k lt) ∙ h.named
                  ∙ ap (λ (b : Bool). 2 * code + cond b 0 1) (w.side k lt);
            };
        once = λ j k lt more same.
            sym (w.again j lt)
            ∙ ap w.to (l.once (w.from j) (w.from k) (w.within j lt) (w.within k more) (sym (entry j lt) ∙ same ∙ entry k more))
            ∙ w.again k more;
        complete = λ x lt at two. ⊎_elim
            (λ (same : x ≡ e).
            let none : get_or (set names e 0) x 0 ≡ 0 = ap (λ (y : ℕ). get_or (set names e 0) y 0) same ∙ get_or-set_same names e 0 0 out_there in
            absurd (omega (arith, none, at, two)))
            (λ (ne : x ≢ e).
            let p = l.complete x (omega (arith, lt, size)) (ap (λ (n : ℕ). n / 2) (sym (get_or-set_other names e x 0 0 ne)) ∙ at) two in
            let np : p.place ≢ place = λ same. ne (sym p.is ∙ ap (λ (y : ℕ). (watch_in old y).entry) same ∙ is) in
            let b = w.back p.place p.there np in
            record { place = w.to p.place; there = b.0; is = entry (w.to p.place) b.0 ∙ ap (λ (y : ℕ). (watch_in old y).entry) b.1 ∙ p.is })
            (cases_eq x e);
        total = λ two.
            omega (
              arith,
              l.total two,
              w.size,
              counted names code e 0 out_there,
              weight_same code (get_or names e 0) out_code,
              weight_other code 0 (λ z. absurd (omega (arith, z, two))),
            );
      }

pub listed_out : (names : List ℕ) (lists : List Listed) (code e place : ℕ) (far : Bool) (new : Listed) → AreListsByCode names lists → code < length lists → IsWithout (listed_at lists code) new place far
    → (watch_in (listed_at lists code) place).entry ≡ e → AreListsByCode (set names e 0) (set lists code new)
listed_out names lists code e place far new listed known w is =
    let old = listed_at lists code in
    let l = listed.each code in
    let h = l.held place w.there in
    record {
      few = omega (arith, length-set names e 0, listed.few);
      few_lists = omega (arith, length-set lists code new, listed.few_lists);
      each = λ k. ⊎_elim
          (λ (same : k ≡ code).
          subst (λ (c : ℕ). IsListOf (set names e 0) c (listed_at (set lists code new) c)) (sym same)
          (subst (IsListOf (set names e 0) code) (sym (at_same lists code new known)) (list_out names code e place far old new l w is h.some)))
          (λ (ne : k ≢ code).
          subst (IsListOf (set names e 0) k) (sym (at_other lists code k new ne))
          (other_kept names e 0 k (listed_at lists k) (listed.each k) (omega (arith, h.there, is))
          (λ two same. ne (sym same ∙ out_code names code e place far old new l w is))
          (λ two z. absurd (omega (arith, z, two)))))
          (cases_eq k code);
    }

-- ---- an entry comes in

module _ (names : List ℕ) (code e place : ℕ) (far : Bool) (old new : Listed) (l : IsListOf names code old) (w : IsWithout new old place far) (is : (watch_in new place).entry ≡ e)
    (there : e < length names) (some : 2 ≤ code) (was : get_or names e 0 / 2 ≢ code) (side : ◌≡◌ {A = ℕ} (cond (ltb place new.nears) 0 1) (cond far 1 0)) where
  abbrev in_name : ℕ
  in_name = 2 * code + cond far 1 0

  in_code : in_name / 2 ≡ code
  in_code = by_side far
    where
      by_side : (b : Bool) → (2 * code + cond b 1 0) / 2 ≡ code
      by_side true = omega arith
      by_side false = omega arith

  in_entry : (k : ℕ) → k < length new.watches → k ≢ place → (w.to k < length old.watches) × ((watch_in new k).entry ≡ (watch_in old (w.to k)).entry)
  in_entry k lt ne =
      let b = w.back k lt ne in
      (b.0, ap (λ (y : ℕ). (watch_in new y).entry) (sym b.1) ∙ ap (λ (x : Watched). x.entry) (sym (w.same (w.to k) no_watch b.0)))

  in_other : (k : ℕ) → k < length old.watches → (watch_in old k).entry ≢ e
  in_other k lt same = was (ap (λ (x : ℕ). get_or names x 0 / 2) (sym same) ∙ held_code names code old k l lt)

  pub list_in : IsListOf (set names e in_name) code new
  list_in =
      let size = length-set names e in_name in
      record {
        held = λ k lt. ⊎_elim
            (λ (same : k ≡ place).
            let at : (watch_in new k).entry ≡ e = ap (λ (y : ℕ). (watch_in new y).entry) same ∙ is in
            record {
              there = omega (arith, at, there, size);
              some = some;
              named = ap (λ (x : ℕ). get_or (set names e in_name) x 0) at ∙ get_or-set_same names e in_name 0 there ∙ ap (λ (n : ℕ). 2 * code + n) (sym side)
                  ∙ ap (λ (y : ℕ). 2 * code + cond (ltb y new.nears) 0 1) (sym same);
            })
            (λ (ne : k ≢ place).
            let at = in_entry k lt ne in
            let h = l.held (w.to k) at.0 in
            let b = w.back k lt ne in
            record {
              there = omega (arith, at.1, h.there, size);
              some = some;
              named = ap (λ (x : ℕ). get_or (set names e in_name) x 0) at.1 ∙ get_or-set_other names e (watch_in old (w.to k)).entry in_name 0 (in_other (w.to k) at.0) ∙ h.named
                  ∙ ap (λ (x : Bool). 2 * code + cond x 0 1) (sym (w.side (w.to k) at.0))
                  ∙ ap (λ (y : ℕ). 2 * code + cond (ltb y new.nears) 0 1) b.1;
            })
            (cases_eq k place);
        once = λ j k lt more same. ⊎_elim
            (λ (jp : j ≡ place). ⊎_elim
            (λ (kp : k ≡ place). jp ∙ sym kp)
            (λ (kn : k ≢ place).
            let at = in_entry k more kn in
            absurd (in_other (w.to k) at.0 (sym at.1 ∙ sym same ∙ ap (λ (y : ℕ). (watch_in new y).entry) jp ∙ is)))
            (cases_eq k place))
            (λ (jn : j ≢ place). ⊎_elim
            (λ (kp : k ≡ place).
            let at = in_entry j lt jn in
            absurd (in_other (w.to j) at.0 (sym at.1 ∙ same ∙ ap (λ (y : ℕ). (watch_in new y).entry) kp ∙ is)))
            (λ (kn : k ≢ place).
            let at_j = in_entry j lt jn in
            let at_k = in_entry k more kn in
            sym (w.back j lt jn).1 ∙ ap w.from (l.once (w.to j) (w.to k) at_j.0 at_k.0 (sym at_j.1 ∙ same ∙ at_k.1)) ∙ (w.back k more kn).1)
            (cases_eq k place))
            (cases_eq j place);
        complete = λ x lt at two. ⊎_elim
            (λ (same : x ≡ e). record { place = place; there = w.there; is = is ∙ sym same })
            (λ (ne : x ≢ e).
            let p = l.complete x (omega (arith, lt, size)) (ap (λ (n : ℕ). n / 2) (sym (get_or-set_other names e x in_name 0 ne)) ∙ at) two in
            record { place = w.from p.place; there = w.within p.place p.there; is = sym (ap (λ (y : Watched). y.entry) (w.same p.place no_watch p.there)) ∙ p.is })
            (cases_eq x e);
        total = λ two. omega (arith, l.total two, w.size, counted names code e in_name there, weight_other code (get_or names e 0) was, weight_same code in_name in_code);
      }

pub listed_in : (names : List ℕ) (lists : List Listed) (code e place : ℕ) (far : Bool) (new : Listed) → AreListsByCode names lists → code < length lists → IsWithout new (listed_at lists code) place far
    → (watch_in new place).entry ≡ e → e < length names → 2 ≤ code → get_or names e 0 / 2 ≡ 0 → ◌≡◌ {A = ℕ} (cond (ltb place new.nears) 0 1) (cond far 1 0) → AreListsByCode (set names e (2 * code + cond far 1 0)) (set lists code new)
listed_in names lists code e place far new listed known w is there some none side =
    let name = 2 * code + cond far 1 0 in
    let old = listed_at lists code in
    let l = listed.each code in
    let was : get_or names e 0 / 2 ≢ code = λ same. absurd (omega (arith, none, same, some)) in
    record {
      few = omega (arith, length-set names e name, listed.few);
      few_lists = omega (arith, length-set lists code new, listed.few_lists);
      each = λ k. ⊎_elim
          (λ (same : k ≡ code).
          subst (λ (c : ℕ). IsListOf (set names e name) c (listed_at (set lists code new) c)) (sym same)
          (subst (IsListOf (set names e name) code) (sym (at_same lists code new known)) (list_in names code e place far old new l w is there some was side)))
          (λ (ne : k ≢ code).
          subst (IsListOf (set names e name) k) (sym (at_other lists code k new ne))
          (other_kept names e name k (listed_at lists k) (listed.each k) there (λ two same. absurd (omega (arith, none, same, two)))
          (λ two same. ne (sym same ∙ in_code names code e place far old new l w is there some was side))))
          (cases_eq k code);
    }

-- an empty list more says nothing new of any code
pub at_push : (lists : List Listed) (code : ℕ) → listed_at (lists ++ no_list ∷ []) code ≡ listed_at lists code
at_push [] zero = refl
at_push [] (suc code) = refl
at_push (l ∷ lists) zero = refl
at_push (l ∷ lists) (suc code) = at_push lists code

pub listed_alike : (names : List ℕ) (old new : List Listed) → AreListsByCode names old → 2 * length new < 2 ^ 32 → ((code : ℕ) → listed_at new code ≡ listed_at old code) → AreListsByCode names new
listed_alike names old new listed few same = listed_as names old new listed few (λ code is. subst (IsListOf names code) (sym (same code)) is)

pub listed_none : AreListsByCode [] []
listed_none = record {
  few = omega arith;
  few_lists = omega arith;
  each = λ code. record {
    held = λ k lt. absurd (nothing code k lt);
    once = λ j k lt. absurd (nothing code j lt);
    complete = λ e lt. absurd (omega (arith, lt));
    total = λ two. refl;
  };
}
  where
    nothing : (code k : ℕ) → k < length (listed_at [] code).watches → ⊥
    nothing code k lt = omega (arith, lt)

-- what was read of lists is the list of the code
pub list_read : (lists : List Listed) (code : ℕ) (x : Listed) → code < length lists → x ≡ get_or lists code x → x ≡ listed_at lists code
list_read lists code x lt is = is ∙ get_or_default lists code x no_list lt

-- a list has no more than there are entries
pub list_short : (names : List ℕ) (code : ℕ) (list : Listed) (k : ℕ) → IsListOf names code list → k < length list.watches → length list.watches ≤ length names
list_short names code list k l lt = omega (arith, l.total (l.held k lt).some, count_by-le-length (λ n. eqb (n / 2) code) names)

-- another literal is put beside the entry at a place
blocked_entry : (watches : List Watched) (place k : ℕ) (blocker : Literal) → place < length watches
    → (get_or (set watches place (record { entry = (get_or watches place no_watch).entry; pair = false; blocker = blocker })) k no_watch).entry ≡ (get_or watches k no_watch).entry
blocked_entry watches place k blocker lt =
    let x : Watched = record { entry = (get_or watches place no_watch).entry; pair = false; blocker = blocker } in
    ⊎_elim
    (λ (same : k ≡ place).
    ap (λ (y : ℕ). (get_or (set watches place x) y no_watch).entry) same ∙ ap (λ (w : Watched). w.entry) (get_or-set_same watches place x no_watch lt)
    ∙ ap (λ (y : ℕ). (get_or watches y no_watch).entry) (sym same))
    (λ (ne : k ≢ place). ap (λ (w : Watched). w.entry) (get_or-set_other watches place k x no_watch ne))
    (cases_eq k place)

pub entry_blocked : (watches now : List Watched) (place : ℕ) (blocker : Literal) → place < length watches → now ≡ set watches place (record { entry = (get_or watches place no_watch).entry; pair = false; blocker = blocker })
    → (k : ℕ) → (get_or now k no_watch).entry ≡ (get_or watches k no_watch).entry
entry_blocked watches now place blocker lt is k = ap (λ (ws : List Watched). (get_or ws k no_watch).entry) is ∙ blocked_entry watches place k blocker lt

pub stood_blocked : (watches now : List Watched) (place : ℕ) (blocker : Literal) (w : Watched) → place < length watches → now ≡ set watches place (record { entry = (get_or watches place no_watch).entry; pair = false; blocker = blocker })
    → Contains now w → Contains watches w ⊎ (w ≡ record { entry = (get_or watches place no_watch).entry; pair = false; blocker = blocker })
stood_blocked watches now place blocker w there is (k, lt, at) =
    let x : Watched = record { entry = (get_or watches place no_watch).entry; pair = false; blocker = blocker } in
    let in_set : get_or (set watches place x) k w ≡ w = ap (λ (ws : List Watched). get_or ws k w) (sym is) ∙ at in
    ⊎_elim
    (λ (same : k ≡ place). inr (sym in_set ∙ ap (λ (y : ℕ). get_or (set watches place x) y w) same ∙ get_or-set_same watches place x w there))
    (λ (ne : k ≢ place).
    let stood : Contains watches w = (k, omega (arith, lt, ap length is, length-set watches place x), sym (get_or-set_other watches place k x w ne) ∙ in_set) in
    inl stood)
    (cases_eq k place)
