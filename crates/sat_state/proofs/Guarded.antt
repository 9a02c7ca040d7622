-- Watched literals, as literals become true, as clauses are looked at, and as entries move.
use Rattle.std.proofs.Common.{◌≡◌, ◌≢◌, ℕ, zero, suc, ◌+◌, ◌-◌, ◌*◌, ◌/◌, ◌%◌, ◌<◌, ◌≤◌, true, false, List, [], ◌∷◌, ◌++◌, length, take, drop, get_or, filter, nat_le, All, Contains, sym, ap, ◌∙◌, subst, inl, inr, ◌⊎◌, ⊎_elim, arith}
use Rattle.std.proofs.lemmas.Bool.{cases_eq, cases_lt, cases_Bool, le-leb}
use Rattle.std.proofs.lemmas.Bool.Decides.{nat_tests}
use Rattle.std.proofs.lemmas.List.{get_or_default, get_or-map, length-map, take-append-le, take_all, get_or-take, get_or-drop, length-drop, length-take, length-take-le, length-append, get_or_append_left, get_or_push}
use Rattle.std.proofs.lemmas.List.Elements.{All-nil, All-cons, All-more, All-contains, All-weaker, Contains-append_left}
use Rattle.cnf_core.specs.Literal.{Literal, negation}
use Rattle.cnf_core.specs.Steps.{IsAtEnd, IsConsistent, HasTrueLiteral, HasTwoNotFalse}
use Rattle.cnf_core.proofs.Members.{Contains-here, Contains-cases, none_in_nil, Contains-filter, Contains-from_filter}
use Rattle.sat_state.specs.Trail.{Entry, literals, level_of}
use Rattle.sat_state.specs.Stored.{clause_at}
use Rattle.sat_state.specs.Watching.{no_lit, lit_at}
use Rattle.sat_state.specs.Guards.{is_false, IsTrueBy, HasTrueBy, Guards, AreOthersFalse, ArePartners, IsPair, HasLater, AreWatched}
use Rattle.sat_state.specs.Joined.{some_entry}
use Rattle.sat_state.proofs.Literals.{Contains-from_among, negation-negation}
use Rattle.sat_state.proofs.Ends.{same_or_not, not_among}
use Rattle.sat_state.proofs.Grounds.{literals_push}

-- ---- entries and their literals

pub entry_of_literal : (trail : List Entry) (l : Literal) → Contains (literals trail) l → (e : Entry) × Contains trail e × (e.literal ≡ l)
entry_of_literal trail l (k, h, is) =
    let get = λ (e : Entry). e.literal in
    let there : k < length trail = omega (arith, h, length-map trail get) in
    let e = get_or trail k some_entry in
    (e, (k, there, get_or_default trail k e some_entry there), sym (get_or-map get trail k some_entry l there) ∙ is)

pub literal_of_entry : (trail : List Entry) (e : Entry) → Contains trail e → Contains (literals trail) e.literal
literal_of_entry trail e (k, h, is) =
    let get = λ (x : Entry). x.literal in
    (k, omega (arith, h, length-map trail get), get_or-map get trail k e e.literal h ∙ ap get is)

pub entry_at_place : (trail : List Entry) (k : ℕ) (d : Entry) → k < length trail → Contains trail (get_or trail k d)
entry_at_place trail k d h = (k, h, get_or_default trail k (get_or trail k d) d h)

taken_within : (head : ℕ) (trail : List Entry) (k : ℕ) (d : Entry) → k < length (take head trail) → (k < head) × (k < length trail) × (get_or (take head trail) k d ≡ get_or trail k d)
taken_within head trail k d h =
    let less : (k < head) × (k < length trail) = (grind (arith, Rattle.std.proofs.lemmas.List.length-take), grind (arith, Rattle.std.proofs.lemmas.List.length-take)) in
    (less.0, less.1, get_or-take head trail k d less.0)

-- the literal of one of the first entries is true
head_literal : (head : ℕ) (trail : List Entry) (k : ℕ) (d : Entry) → k < length (take head trail) → Contains (literals trail) (get_or (take head trail) k d).literal
head_literal head trail k d h =
    let at = taken_within head trail k d h in
    subst (λ (e : Entry). Contains (literals trail) e.literal) (sym at.2) (literal_of_entry trail (get_or trail k d) (entry_at_place trail k d at.1))

pub true_by : (trail : List Entry) (l : Literal) (n : ℕ) → Contains (literals trail) l → All (λ e. e.level ≤ n) trail → IsTrueBy trail l n
true_by trail l n is low =
    let found = entry_of_literal trail l is in
    record { entry = found.0; there = found.1; names = found.2; low = All-contains (λ (e : Entry). e.level ≤ n) trail found.0 low found.1 }

pub is_true_by : (trail : List Entry) (l : Literal) (n : ℕ) → IsTrueBy trail l n → Contains (literals trail) l
is_true_by trail l n t = subst (λ (x : Literal). Contains (literals trail) x) t.names (literal_of_entry trail t.entry t.there)

pub literals_grow : (trail : List Entry) (x : Entry) (l : Literal) → Contains (literals trail) l → Contains (literals (trail ++ x ∷ [])) l
literals_grow trail x l h = subst (λ (ls : List Literal). Contains ls l) (sym (literals_push trail x)) (Contains-append_left (literals trail) (x.literal ∷ []) l h)

-- what makes each literal that is true true by a lower entry makes a clause true
pub true_more : (old new : List Entry) (clause : List Literal) (n : ℕ) → ((l : Literal) → IsTrueBy old l n → IsTrueBy new l n) → HasTrueBy old clause n → HasTrueBy new clause n
true_more old new clause n more t = record { literal = t.literal; in_clause = t.in_clause; is_true = more t.literal t.is_true }

pair_at : (clause : List Literal) (a c b d : Literal) → a ≡ c → b ≡ d → IsPair clause c d → IsPair clause a b
pair_at clause a c b d p q h = record { in_clause = subst (λ (x : Literal). Contains clause x) (sym p) h.in_clause; two = λ e. h.two (sym p ∙ e ∙ q) }

pub turned : (e f : ℕ) → ArePartners e f → ArePartners f e
turned e f p = record { clause = sym p.clause; apart = λ same. p.apart (sym same) }

-- the other entry of the clause of an entry
pub partner_of : ℕ → ℕ
partner_of e = 2 * (e / 2) + (1 - e % 2)

pub is_partner : (e : ℕ) → ArePartners e (partner_of e)
unfolding partner_of
is_partner e = record { clause = omega arith; apart = λ same. absurd (omega (arith, same)) }

module _ (clauses : List (List Literal)) (lits : List Literal) (trail : List Entry) (checked : ℕ) (heads : ℕ → ℕ) (w : AreWatched clauses lits trail checked heads) where
  pub entry_in : (e : ℕ) → e / 2 < length clauses → e < length lits
  entry_in e h = omega (arith, h, w.entries)

  clause_in : (e : ℕ) → e < length lits → e / 2 < length clauses
  clause_in e h = omega (arith, h, w.entries)

  -- ---- one more literal is true

  pub watched_push : (x : Entry) → ((e : ℕ) → heads e ≤ length trail) → ((c : ℕ) → c < length clauses → checked ≤ c → level_of (trail ++ x ∷ []) ≡ level_of trail) → AreWatched clauses lits (trail ++ x ∷ []) checked heads
  watched_push x within same =
      let more = trail ++ x ∷ [] in
      let taken : (e : ℕ) → take (heads e) more ≡ take (heads e) trail = λ e. take-append-le (heads e) trail (x ∷ []) (within e) in
      let grows : (l : Literal) (n : ℕ) → IsTrueBy trail l n → IsTrueBy more l n
      = λ l n t. record { entry = t.entry; there = Contains-append_left trail (x ∷ []) t.entry t.there; names = t.names; low = t.low } in
      record {
        entries = w.entries;
        long = w.long;
        both = w.both;
        pairs = w.pairs;
        out = w.out;
        guarded = λ e lt lg.
            let a = lit_at lits e in
            let clause = clause_at clauses (e / 2) in
            subst (All (λ (z : Entry). z.literal ≡ negation a → HasTrueBy more clause z.level)) (sym (taken e))
            (All-weaker (λ (z : Entry). z.literal ≡ negation a → HasTrueBy trail clause z.level) (λ (z : Entry). z.literal ≡ negation a → HasTrueBy more clause z.level)
            (λ z h is. true_more trail more clause z.level (λ l. grows l z.level) (h is)) (take (heads e) trail) (w.guarded e lt lg));
        fresh = λ e f p lt le lg.
            let a = lit_at lits e in
            let b = lit_at lits f in
            let clause = clause_at clauses (e / 2) in
            subst (All (λ (z : Entry). z.literal ≡ negation a → (z.level ≡ level_of more) × AreOthersFalse (literals more) clause b)) (sym (taken e))
            (All-weaker (λ (z : Entry). z.literal ≡ negation a → (z.level ≡ level_of trail) × AreOthersFalse (literals trail) clause b)
            (λ (z : Entry). z.literal ≡ negation a → (z.level ≡ level_of more) × AreOthersFalse (literals more) clause b)
            (λ z h is. let old = h is in (old.0 ∙ sym (same (e / 2) (clause_in e lt) le), λ l in_it ne. literals_grow trail x (negation l) (old.1 l in_it ne)))
            (take (heads e) trail) (w.fresh e f p lt le lg));
        short = λ c lt small.
            let old = w.short c lt small in
            (old.0, All-weaker (λ (l : Literal). IsTrueBy trail l 0) (λ (l : Literal). IsTrueBy more l 0) (λ l t. grows l 0 t) (clause_at clauses c) old.1);
        unchecked = λ c lt le small. same c lt le ∙ w.unchecked c lt le small;
      }

  -- ---- a clause was looked at

  module _ (consistent : IsConsistent (literals trail)) (low : All (λ e. e.level ≤ level_of trail) trail) where
    settled_true : (clause : List Literal) (other : Literal) (n : ℕ) → HasTrueLiteral (literals trail) clause ⊎ HasTwoNotFalse (literals trail) clause
        → (n ≡ level_of trail) × AreOthersFalse (literals trail) clause other → IsTrueBy trail other n
    settled_true clause other n (inl t) fresh =
        elim (same_or_not t.0 other) [
          | inl same ↦ true_by trail other n (subst (λ (x : Literal). Contains (literals trail) x) same t.2) (subst (λ (m : ℕ). All (λ (e : Entry). e.level ≤ m) trail) (sym fresh.0) low)
          | inr ne ↦ absurd (consistent t.0 t.2 (fresh.1 t.0 t.1 ne))
        ]
    settled_true clause other n (inr two) fresh =
        elim (same_or_not two.one other) [
          | inl same ↦ absurd (two.other_not_false (fresh.1 two.other two.other_in (λ is. two.two (same ∙ sym is))))
          | inr ne ↦ absurd (two.one_not_false (fresh.1 two.one two.one_in ne))
        ]

    short_true : (clause : List Literal) → length clause < 2 → HasTrueLiteral (literals trail) clause ⊎ HasTwoNotFalse (literals trail) clause → level_of trail ≡ 0
        → (0 < length clause) × All (λ l. IsTrueBy trail l 0) clause
    short_true [] small (inl t) bottom = absurd (none_in_nil t.0 t.1)
    short_true [] small (inr two) bottom = absurd (none_in_nil two.one two.one_in)
    short_true (l ∷ []) small (inl t) bottom =
        elim (Contains-cases l [] t.0 t.1) [
          | inl same ↦ (
            omega arith,
            All-cons (λ (x : Literal). IsTrueBy trail x 0) l []
                (true_by trail l 0 (subst (λ (x : Literal). Contains (literals trail) x) (sym same) t.2) (subst (λ (m : ℕ). All (λ (e : Entry). e.level ≤ m) trail) bottom low)) (All-nil (λ (x : Literal). IsTrueBy trail x 0)),
          )
          | inr none ↦ absurd (none_in_nil t.0 none)
        ]
    short_true (l ∷ []) small (inr two) bottom =
        elim (Contains-cases l [] two.one two.one_in) [
          | inl same ↦ elim (Contains-cases l [] two.other two.other_in) [
            | inl also ↦ absurd (two.two (sym same ∙ also))
            | inr none ↦ absurd (none_in_nil two.other none)
          ]
          | inr none ↦ absurd (none_in_nil two.one none)
        ]
    short_true (l ∷ m ∷ clause) small settled bottom = absurd (omega arith)

    pub watched_checked : checked < length clauses → HasTrueLiteral (literals trail) (clause_at clauses checked) ⊎ HasTwoNotFalse (literals trail) (clause_at clauses checked) → AreWatched clauses lits trail (checked + 1) heads
    watched_checked there settled = record {
      entries = w.entries;
      long = w.long;
      both = w.both;
      pairs = w.pairs;
      out = w.out;
      guarded = λ e lt lg. ⊎_elim
          (λ (same : e / 2 ≡ checked).
          let f = partner_of e in
          let p : ArePartners e f = is_partner e in
          let a = lit_at lits e in
          let b = lit_at lits f in
          let clause = clause_at clauses (e / 2) in
          let in_e : e < length lits = entry_in e (omega (arith, same, there)) in
          let in_f : f < length lits = entry_in f (omega (arith, same, there, p.clause)) in
          let b_in : Contains clause b
          = subst (λ (n : ℕ). Contains (clause_at clauses n) b) (sym p.clause) (w.pairs f e (turned e f p) in_f (w.both e f p in_e lg)).in_clause in
          let here = subst (λ (c : ℕ). HasTrueLiteral (literals trail) (clause_at clauses c) ⊎ HasTwoNotFalse (literals trail) (clause_at clauses c)) (sym same) settled in
          All-weaker (λ (z : Entry). z.literal ≡ negation a → (z.level ≡ level_of trail) × AreOthersFalse (literals trail) clause b) (λ (z : Entry). z.literal ≡ negation a → HasTrueBy trail clause z.level)
          (λ z h is. record { literal = b; in_clause = b_in; is_true = settled_true clause b z.level here (h is) }) (take (heads e) trail)
          (w.fresh e f p in_e (omega (arith, same)) lg))
          (λ (ne : e / 2 ≢ checked). w.guarded e (omega (arith, lt, ne)) lg)
          (cases_eq (e / 2) checked);
      fresh = λ e f p lt le lg. w.fresh e f p lt (omega (arith, le)) lg;
      short = λ c lt small. ⊎_elim
          (λ (same : c ≡ checked).
          subst (λ (n : ℕ). (0 < length (clause_at clauses n)) × All (λ l. IsTrueBy trail l 0) (clause_at clauses n)) (sym same)
          (short_true (clause_at clauses checked) (omega (arith, small, ap (λ (n : ℕ). length (clause_at clauses n)) same)) settled
          (w.unchecked checked there (omega arith) (omega (arith, small, ap (λ (n : ℕ). length (clause_at clauses n)) same)))))
          (λ (ne : c ≢ checked). w.short c (omega (arith, lt, ne)) small)
          (cases_eq c checked);
      unchecked = λ c lt le small. w.unchecked c lt (omega (arith, le)) small;
    }

    -- ---- the clauses of a literal were looked at

    -- how far the lists of an entry are walked, after the list of the entry at a place was
    abbrev pub IsWalked : (place : ℕ) (walked : Literal) (e now : ℕ) → Type 0
    IsWalked place walked e now =
        (now ≡ heads e) ⊎ ((now ≡ heads e + 1) × (heads e ≡ place) × (e < length lits → lit_at lits e ≡ walked → HasTrueLiteral (literals trail) (clause_at clauses (e / 2))))

    pub watched_walked : checked ≡ length clauses → (place : ℕ) → place < length trail → (walked : Literal) → (get_or trail place some_entry).literal ≡ negation walked → (get_or trail place some_entry).level ≡ level_of trail
        → (now : ℕ → ℕ) → ((e : ℕ) → IsWalked place walked e (now e)) → AreWatched clauses lits trail checked now
    watched_walked all place more walked is level now steps = record {
      entries = w.entries;
      long = w.long;
      both = w.both;
      pairs = w.pairs;
      out = w.out;
      guarded = λ e lt lg.
          let a = lit_at lits e in
          let clause = clause_at clauses (e / 2) in
          ⊎_elim
          (λ (same : now e ≡ heads e). subst (λ (n : ℕ). Guards trail n a clause) (sym same) (w.guarded e lt lg))
          (λ (step : (now e ≡ heads e + 1) × (heads e ≡ place) × (e < length lits → lit_at lits e ≡ walked → HasTrueLiteral (literals trail) (clause_at clauses (e / 2)))).
          let old : Guards trail place a clause = subst (λ (n : ℕ). Guards trail n a clause) step.1 (w.guarded e lt lg) in
          let next : now e ≡ place + 1 = step.0 ∙ ap (λ (n : ℕ). n + 1) step.1 in
          subst (λ (n : ℕ). Guards trail n a clause) (sym next)
          (All-more (λ (z : Entry). z.literal ≡ negation a → HasTrueBy trail clause z.level) trail place some_entry more old
          (λ at.
          let same : a ≡ walked = sym (negation-negation a) ∙ ap negation (sym at ∙ is) ∙ negation-negation walked in
          let found = step.2 (entry_in e (omega (arith, lt, all))) same in
          record {
            literal = found.0;
            in_clause = found.1;
            is_true = true_by trail found.0 (get_or trail place some_entry).level found.2 (subst (λ (m : ℕ). All (λ (z : Entry). z.level ≤ m) trail) (sym level) low);
          })))
          (steps e);
      fresh = λ e f p lt le lg. absurd (omega (arith, clause_in e lt, le, all));
      short = w.short;
      unchecked = w.unchecked;
    }

    -- ---- an entry moves to a literal that isn't false

    pub watched_moved : checked ≡ length clauses → (now : List Literal) (then : ℕ → ℕ) (e : ℕ) (l : Literal) → length now ≡ length lits → e < length lits → lit_at now e ≡ l → ((x : ℕ) → x ≢ e → lit_at now x ≡ lit_at lits x) → ((x : ℕ) → x ≢ e → then x ≡ heads x)
        → 1 ≤ (lit_at lits e).var → 1 ≤ l.var → Contains (clause_at clauses (e / 2)) l
        → ((f : ℕ) → ArePartners e f → l ≢ lit_at lits f) → (Contains (literals trail) (negation l) → ⊥) → AreWatched clauses now trail checked then
    watched_moved all now then e l size there at others stays was is in_clause not_other not_false = record {
      entries = size ∙ w.entries;
      long = λ x lt some. ⊎_elim
          (λ (same : x ≡ e). subst (λ (y : ℕ). 2 ≤ length (clause_at clauses (y / 2))) (sym same) (w.long e there was))
          (λ (ne : x ≢ e). w.long x (omega (arith, lt, size)) (subst (λ (y : Literal). 1 ≤ y.var) (others x ne) some))
          (cases_eq x e);
      both = λ x y p lt some. ⊎_elim
          (λ (same : y ≡ e). subst (λ (z : Literal). 1 ≤ z.var) (sym (ap (lit_at now) same ∙ at)) is)
          (λ (ne : y ≢ e). subst (λ (z : Literal). 1 ≤ z.var) (sym (others y ne)) (w.both x y p (omega (arith, lt, size)) (was_some x some)))
          (cases_eq y e);
      pairs = λ x y p lt some. ⊎_elim
          (λ (same : x ≡ e).
          let q : ArePartners e y = subst (λ (z : ℕ). ArePartners z y) same p in
          let place : e / 2 ≡ x / 2 = ap (λ (z : ℕ). z / 2) (sym same) in
          pair_at (clause_at clauses (x / 2)) (lit_at now x) l (lit_at now y) (lit_at lits y) (ap (lit_at now) same ∙ at) (others y (λ f. q.apart (sym f)))
          (record { in_clause = subst (λ (c : ℕ). Contains (clause_at clauses c) l) place in_clause; two = not_other y q }))
          (λ (ne : x ≢ e). ⊎_elim
          (λ (same : y ≡ e).
          let q : ArePartners x e = subst (λ (z : ℕ). ArePartners x z) same p in
          pair_at (clause_at clauses (x / 2)) (lit_at now x) (lit_at lits x) (lit_at now y) l (others x ne) (ap (lit_at now) same ∙ at)
          (record { in_clause = (w.pairs x y p (omega (arith, lt, size)) (was_some x some)).in_clause; two = λ f. not_other x (turned x e q) (sym f) }))
          (λ (nf : y ≢ e).
          pair_at (clause_at clauses (x / 2)) (lit_at now x) (lit_at lits x) (lit_at now y) (lit_at lits y) (others x ne) (others y nf) (w.pairs x y p (omega (arith, lt, size)) (was_some x some)))
          (cases_eq y e))
          (cases_eq x e);
      guarded = λ x lt some. ⊎_elim
          (λ (same : x ≡ e).
          subst (λ (z : Literal). Guards trail (then x) z (clause_at clauses (x / 2))) (sym (ap (lit_at now) same ∙ at))
          (λ k d h is. absurd (not_false (subst (λ (z : Literal). Contains (literals trail) z) is (head_literal (then x) trail k d h)))))
          (λ (ne : x ≢ e).
          subst (λ (n : ℕ). Guards trail n (lit_at now x) (clause_at clauses (x / 2))) (sym (stays x ne))
          (subst (λ (z : Literal). Guards trail (heads x) z (clause_at clauses (x / 2))) (sym (others x ne)) (w.guarded x lt (was_some x some))))
          (cases_eq x e);
      fresh = λ x y p lt le some. absurd (omega (arith, clause_in x (omega (arith, lt, size)), le, all));
      out = λ c lt lg none. ⊎_elim
          (λ (same : 2 * c ≡ e). absurd (omega (arith, is, none, ap (λ (z : Literal). z.var) (ap (lit_at now) same ∙ at))))
          (λ (ne : 2 * c ≢ e). w.out c lt lg (ap (λ (z : Literal). z.var) (sym (others (2 * c) ne)) ∙ none))
          (cases_eq (2 * c) e);
      short = w.short;
      unchecked = w.unchecked;
    }
      where
        was_some : (x : ℕ) → 1 ≤ (lit_at now x).var → 1 ≤ (lit_at lits x).var
        was_some x some = ⊎_elim
            (λ (same : x ≡ e). subst (λ (y : ℕ). 1 ≤ (lit_at lits y).var) (sym same) was)
            (λ (ne : x ≢ e). subst (λ (y : Literal). 1 ≤ y.var) (others x ne) some)
            (cases_eq x e)

    -- ---- nothing is left to look at

    first_in : (clause : List Literal) → 0 < length clause → Contains clause (get_or clause 0 no_lit)
    first_in [] some = absurd (omega (arith, some))
    first_in (l ∷ clause) some = Contains-here l clause

    guard_holds : (head : ℕ) (a : Literal) (clause : List Literal) → head ≡ length trail → Guards trail head a clause → Contains (literals trail) (negation a) → HasTrueLiteral (literals trail) clause
    guard_holds head a clause seen guards falsified =
        let found = entry_of_literal trail (negation a) falsified in
        let whole : take head trail ≡ trail = take_all head trail (omega (arith, seen)) in
        let all = subst (All (λ (z : Entry). z.literal ≡ negation a → HasTrueBy trail clause z.level)) whole guards in
        let t : HasTrueBy trail clause found.0.level = All-contains (λ (z : Entry). z.literal ≡ negation a → HasTrueBy trail clause z.level) trail found.0 all found.1 found.2 in
        (t.literal, t.in_clause, is_true_by trail t.literal found.0.level t.is_true)

    -- what is so of a clause within another is so of that one
    settled_more : (few many : List Literal) → ((l : Literal) → Contains few l → Contains many l) → HasTrueLiteral (literals trail) few ⊎ HasTwoNotFalse (literals trail) few → HasTrueLiteral (literals trail) many ⊎ HasTwoNotFalse (literals trail) many
    settled_more few many more (inl t) = inl (t.0, more t.0 t.1, t.2)
    settled_more few many more (inr two) = inr (record {
      one = two.one;
      other = two.other;
      two = two.two;
      one_in = more two.one two.one_in;
      other_in = more two.other two.other_in;
      one_not_false = two.one_not_false;
      other_not_false = two.other_not_false;
    })

    -- of a clause that watches two literals
    settled_watched : checked ≡ length clauses → ((e : ℕ) → heads e ≡ length trail) → (c : ℕ) → c < length clauses → 1 ≤ (lit_at lits (2 * c)).var → HasTrueLiteral (literals trail) (clause_at clauses c) ⊎ HasTwoNotFalse (literals trail) (clause_at clauses c)
    settled_watched all seen c there some_e =
        let e = 2 * c in
        let f = 2 * c + 1 in
        let first : e / 2 ≡ c = omega arith in
        let second : f / 2 ≡ c = omega arith in
        let p : ArePartners e f = record { clause = omega (arith, first, second); apart = λ same. omega (arith, same) } in
        let in_e : e < length lits = entry_in e (omega (arith, first, there)) in
        let in_f : f < length lits = entry_in f (omega (arith, second, there)) in
        let some_f : 1 ≤ (lit_at lits f).var = w.both e f p in_e some_e in
        let a = lit_at lits e in
        let b = lit_at lits f in
        let pair_a : IsPair (clause_at clauses c) a b = subst (λ (n : ℕ). IsPair (clause_at clauses n) a b) first (w.pairs e f p in_e some_e) in
        let pair_b : IsPair (clause_at clauses c) b a = subst (λ (n : ℕ). IsPair (clause_at clauses n) b a) second (w.pairs f e (turned e f p) in_f some_f) in
        ⊎_elim
        (λ (fa : is_false (literals trail) a ≡ true).
        inl (subst (λ (n : ℕ). HasTrueLiteral (literals trail) (clause_at clauses n)) first
        (guard_holds (heads e) a (clause_at clauses (e / 2)) (seen e) (w.guarded e (omega (arith, first, there, all)) some_e) (Contains-from_among (literals trail) (negation a) fa))))
        (λ (oa : is_false (literals trail) a ≡ false). ⊎_elim
        (λ (fb : is_false (literals trail) b ≡ true).
        inl (subst (λ (n : ℕ). HasTrueLiteral (literals trail) (clause_at clauses n)) second
        (guard_holds (heads f) b (clause_at clauses (f / 2)) (seen f) (w.guarded f (omega (arith, second, there, all)) some_f) (Contains-from_among (literals trail) (negation b) fb))))
        (λ (ob : is_false (literals trail) b ≡ false).
        inr (record {
          one = a;
          other = b;
          two = pair_a.two;
          one_in = pair_a.in_clause;
          other_in = pair_b.in_clause;
          one_not_false = not_among (literals trail) (negation a) oa;
          other_not_false = not_among (literals trail) (negation b) ob;
        }))
        (cases_Bool (is_false (literals trail) b)))
        (cases_Bool (is_false (literals trail) a))

    settled_within : checked ≡ length clauses → ((e : ℕ) → heads e ≡ length trail) → (left c : ℕ) → length clauses ≤ left + c → c < length clauses → HasTrueLiteral (literals trail) (clause_at clauses c) ⊎ HasTwoNotFalse (literals trail) (clause_at clauses c)
    settled_within all seen zero c most there = absurd (omega (arith, most, there))
    settled_within all seen (suc left) c most there = ⊎_elim
        (λ (small : length (clause_at clauses c) < 2).
        let one = w.short c (omega (arith, there, all)) small in
        let l = get_or (clause_at clauses c) 0 no_lit in
        inl (l, first_in (clause_at clauses c) one.0, is_true_by trail l 0 (one.1 0 no_lit one.0)))
        (λ (lg : 2 ≤ length (clause_at clauses c)). ⊎_elim
        (λ (none : (lit_at lits (2 * c)).var ≡ 0).
        let h = w.out c there lg none in
        settled_more (clause_at clauses h.later) (clause_at clauses c) h.within (settled_within all seen left h.later (omega (arith, most, h.behind)) h.there))
        (λ (some : (lit_at lits (2 * c)).var ≢ 0). settled_watched all seen c there (omega (arith, some)))
        (cases_eq (lit_at lits (2 * c)).var 0))
        (cases_lt (length (clause_at clauses c)) 2)

    settled_at : checked ≡ length clauses → ((e : ℕ) → heads e ≡ length trail) → (c : ℕ) → c < length clauses → HasTrueLiteral (literals trail) (clause_at clauses c) ⊎ HasTwoNotFalse (literals trail) (clause_at clauses c)
    settled_at all seen c there = settled_within all seen (length clauses) c (omega arith) there

    pub at_end : checked ≡ length clauses → ((e : ℕ) → heads e ≡ length trail) → IsAtEnd (literals trail) clauses
    at_end all seen = record {
      consistent = consistent;
      settled = λ k d h.
          subst (λ (clause : List Literal). HasTrueLiteral (literals trail) clause ⊎ HasTwoNotFalse (literals trail) clause) (get_or_default clauses k [] d h) (settled_at all seen k h);
    }

  -- ---- a clause is no more looked at

  pub watched_out : (now : List Literal) (c : ℕ) → length now ≡ length lits → ((x : ℕ) → x / 2 ≡ c → (lit_at now x).var ≡ 0) → ((x : ℕ) → x / 2 ≢ c → lit_at now x ≡ lit_at lits x) → HasLater clauses c → (then : ℕ → ℕ) → ((x : ℕ) → x / 2 ≢ c → then x ≡ heads x) → AreWatched clauses now trail checked then
  watched_out now c size gone others later then stays =
      let other : (x : ℕ) → 1 ≤ (lit_at now x).var → x / 2 ≢ c = λ x some same. absurd (omega (arith, some, gone x same)) in
      let was : (x : ℕ) → 1 ≤ (lit_at now x).var → 1 ≤ (lit_at lits x).var = λ x some. subst (λ (l : Literal). 1 ≤ l.var) (others x (other x some)) some in
      record {
        entries = size ∙ w.entries;
        long = λ x lt some. w.long x (omega (arith, lt, size)) (was x some);
        both = λ x y p lt some.
            let ne : y / 2 ≢ c = λ same. other x some (p.clause ∙ same) in
            subst (λ (l : Literal). 1 ≤ l.var) (sym (others y ne)) (w.both x y p (omega (arith, lt, size)) (was x some));
        pairs = λ x y p lt some.
            let ne : y / 2 ≢ c = λ same. other x some (p.clause ∙ same) in
            pair_at (clause_at clauses (x / 2)) (lit_at now x) (lit_at lits x) (lit_at now y) (lit_at lits y) (others x (other x some)) (others y ne) (w.pairs x y p (omega (arith, lt, size)) (was x some));
        guarded = λ x lt some.
            subst (λ (n : ℕ). Guards trail n (lit_at now x) (clause_at clauses (x / 2))) (sym (stays x (other x some)))
            (subst (λ (l : Literal). Guards trail (heads x) l (clause_at clauses (x / 2))) (sym (others x (other x some))) (w.guarded x lt (was x some)));
        fresh = λ x y p lt le some.
            let ne : y / 2 ≢ c = λ same. other x some (p.clause ∙ same) in
            rw (stays x (other x some), others x (other x some), others y ne) (w.fresh x y p (omega (arith, lt, size)) le (was x some));
        out = λ d lt lg none. ⊎_elim
            (λ (same : d ≡ c). subst (HasLater clauses) (sym same) later)
            (λ (ne : d ≢ c).
            let apart : (2 * d) / 2 ≢ c = λ same. absurd (omega (arith, same, ne)) in
            w.out d lt lg (ap (λ (l : Literal). l.var) (sym (others (2 * d) apart)) ∙ none))
            (cases_eq d c);
        short = w.short;
        unchecked = w.unchecked;
      }

  -- ---- literals are taken back

  pub watched_back : ((e : ℕ) → All (λ z. z.level ≡ level_of trail) (drop (heads e) trail)) → (level : ℕ) (new : List Entry) → level < level_of trail → new ≡ filter (λ e. nat_le e.level level) trail → take (length new) trail ≡ new
      → (now : ℕ → ℕ) → ((e : ℕ) → now e ≡ length new) → AreWatched clauses lits new checked now
  watched_back present level new lower kept front now reset =
      let p = λ (e : Entry). nat_le e.level level in
      let low : (e : Entry) → Contains new e → e.level ≤ level
      = λ e h. leb_true e.level level (Contains-from_filter p trail e (subst (λ (es : List Entry). Contains es e) kept h)).1 in
      let stays : (e : Entry) → Contains trail e → e.level ≤ level → Contains new e
      = λ e h le. subst (λ (es : List Entry). Contains es e) (sym kept) (Contains-filter p trail e h (le-leb e.level level le)) in
      let whole : (e : ℕ) → take (now e) new ≡ new = λ e. take_all (now e) new (omega (arith, reset e)) in
      let same : (k : ℕ) (d : Entry) → k < length new → (k < length trail) × (get_or new k d ≡ get_or trail k d)
      = λ k d h.
      let len : length (take (length new) trail) ≡ length new = ap length front in
      let at = taken_within (length new) trail k d (omega (arith, len, h)) in
      (at.1, ap (λ (es : List Entry). get_or es k d) (sym front) ∙ at.2) in
      let in_head : (e k : ℕ) (d : Entry) → k < length new → k < heads e
      = λ e k d h. ⊎_elim
      (λ (lt : k < heads e). lt)
      (λ (ge : heads e ≤ k).
      let head = heads e in
      let at = same k d h in
      let j = k - head in
      let there : j < length (drop head trail) = omega (arith, length-drop head trail, at.0, ge) in
      let up : (get_or (drop head trail) j d).level ≡ level_of trail = present e j d there in
      let is : get_or (drop head trail) j d ≡ get_or trail k d = get_or-drop head trail j d ∙ ap (λ (n : ℕ). get_or trail n d) (let whole_k : head + j ≡ k = omega (arith, ge) in whole_k) in
      let under : (get_or new k d).level ≤ level = low (get_or new k d) (entry_at_place new k d h) in
      absurd (omega (arith, up, ap (λ (e : Entry). e.level) is, ap (λ (e : Entry). e.level) at.1, under, lower)))
      (cases_lt k (heads e)) in
      let taken : (e k : ℕ) (d : Entry) → k < length new → (k < length (take (heads e) trail)) × (get_or (take (heads e) trail) k d ≡ get_or new k d)
      = λ e k d h.
      let head = heads e in
      let at = same k d h in
      let less : k < head = in_head e k d h in
      (omega (arith, less, at.0, length-take head trail), get_or-take head trail k d less ∙ sym at.1) in
      let keeps : (l : Literal) (n : ℕ) → n ≤ level → IsTrueBy trail l n → IsTrueBy new l n
      = λ l n le t. record { entry = t.entry; there = stays t.entry t.there (omega (arith, t.low, le)); names = t.names; low = t.low } in
      record {
        entries = w.entries;
        long = w.long;
        both = w.both;
        pairs = w.pairs;
        out = w.out;
        guarded = λ e lt lg.
            let a = lit_at lits e in
            let clause = clause_at clauses (e / 2) in
            subst (All (λ (z : Entry). z.literal ≡ negation a → HasTrueBy new clause z.level)) (sym (whole e))
            (λ k d h is.
            let at = taken e k d h in
            let old = subst (λ (z : Entry). z.literal ≡ negation a → HasTrueBy trail clause z.level) at.1 (w.guarded e lt lg k d at.0) in
            true_more trail new clause (get_or new k d).level (λ l. keeps l (get_or new k d).level (low (get_or new k d) (entry_at_place new k d h))) (old is));
        fresh = λ e f q lt le lg.
            let a = lit_at lits e in
            let b = lit_at lits f in
            let clause = clause_at clauses (e / 2) in
            subst (All (λ (z : Entry). z.literal ≡ negation a → (z.level ≡ level_of new) × AreOthersFalse (literals new) clause b)) (sym (whole e))
            (λ k d h is.
            let at = taken e k d h in
            let old = subst (λ (z : Entry). z.literal ≡ negation a → (z.level ≡ level_of trail) × AreOthersFalse (literals trail) clause b) at.1 (w.fresh e f q lt le lg k d at.0) in
            absurd (omega (arith, (old is).0, low (get_or new k d) (entry_at_place new k d h), lower)));
        short = λ c lt small.
            let old = w.short c lt small in
            (old.0, All-weaker (λ (l : Literal). IsTrueBy trail l 0) (λ (l : Literal). IsTrueBy new l 0) (λ l t. keeps l 0 (omega arith) t) (clause_at clauses c) old.1);
        unchecked = λ c lt le small. absurd (omega (arith, w.unchecked c lt le small, lower));
      }
    where
      leb_true : (a b : ℕ) → nat_le a b ≡ true → a ≤ b
      leb_true a b e = grind (arith, nat_tests)
