-- A clause that is added, with the two literals that it watches.
use Rattle.std.proofs.Common.{◌≡◌, ◌≢◌, ℕ, suc, ◌+◌, ◌*◌, ◌/◌, ◌<◌, ◌≤◌, Bool, true, false, List, [], ◌∷◌, ◌++◌, length, take, get_or, set, All, Contains, refl, sym, ap, ◌∙◌, subst, inl, inr, ◌⊎◌, ⊎_elim, arith}
use Rattle.std.proofs.lemmas.Bool.{cases_eq, cases_lt, true≢false}
use Rattle.std.proofs.lemmas.List.{get_or_append_left, get_or_push, get_or-append-add, get_or-set_same, get_or-set_other, length-set, length-append, length_push, get_or-take}
use Rattle.std.proofs.lemmas.List.Elements.{All-push, All-contains}
use Rattle.cnf_core.specs.Literal.{Literal, negation, code_of, IsOrdered, Precedes, IsClause, VariablesUpTo}
use Rattle.cnf_core.proofs.Members.{Contains-here, Contains-there, Contains-cases, none_in_nil}
use Rattle.sat_state.specs.Trail.{Entry, literals, level_of, IsOpenBelow}
use Rattle.sat_state.specs.Stored.{clause_at}
use Rattle.sat_state.specs.Watching.{no_lit, lit_at, far_at, listed_at, IsInSomeList, links}
use Rattle.sat_state.specs.Guards.{is_false, IsFresh, ArePartners, IsPair, HasLater, AreWatched}
use Rattle.sat_state.specs.Watched.{Watched}
use Rattle.sat_state.specs.Joined.{AreJoined, IsNotLow, HasHigh, IsOfClause, uses, place_in_queue, heads_of}
use Rattle.sat_state.specs.declared.parts.Parts.{Parts}
use Rattle.sat_state.proofs.Literals.{Contains-from_among, among_from_Contains}
use Rattle.sat_state.proofs.Codes.{literal_again}
use Rattle.sat_state.specs.WatchesInside.{literal_at}
use Rattle.sat_state.proofs.Ends.{grounded_more}
use Rattle.sat_state.proofs.Guarded.{literal_of_entry, entry_at_place}
use Rattle.sat_state.proofs.Used.{links_below, links_set, links_more}

-- ---- some literal can be watched

pub precedes_apart : (a b : Literal) → Precedes a b → a ≡ b → ⊥
precedes_apart a b (inl lt) e = absurd (omega (arith, lt, ap (λ (l : Literal). l.var) e))
precedes_apart a b (inr (same, yes', no')) e = true≢false (sym yes' ∙ ap (λ (l : Literal). l.positive) e ∙ no')

first_apart : (x y : Literal) (xs : List Literal) → IsOrdered (x ∷ xs) → Contains xs y → x ≡ y → ⊥
first_apart x y xs ordered (k, h, e) = precedes_apart x y (subst (λ (l : Literal). Precedes x l) e (ordered 0 (suc k) y (omega arith) (omega arith)))

pub codes_apart : (a b : Literal) → a ≢ b → code_of a ≢ code_of b
codes_apart a b ne same = ne (sym (literal_again a) ∙ ap literal_at same ∙ literal_again b)

one_of_two : (trail : List Entry) (clause : List Literal) (skipped : ℕ) (a b : Literal) → a ≢ b → Contains clause a → Contains clause b → IsNotLow trail a → IsNotLow trail b → HasHigh trail clause skipped
one_of_two trail clause skipped a b two in_a in_b high_a high_b = ⊎_elim
    (λ (same : code_of a ≡ skipped).
    let h : HasHigh trail clause skipped = record { literal = b; in_clause = in_b; other = λ e. codes_apart a b two (same ∙ sym e); high = high_b } in h)
    (λ (ne : code_of a ≢ skipped).
    let h : HasHigh trail clause skipped = record { literal = a; in_clause = in_a; other = ne; high = high_a } in h)
    (cases_eq (code_of a) skipped)

no_level : (trail : List Entry) (l : Literal) → level_of trail ≡ 0 → IsNotLow trail l
no_level trail l bottom = λ k d h lower is. absurd (omega (arith, lower, bottom))

pub some_high : (trail : List Entry) (clause : List Literal) (skipped : ℕ) → (level_of trail ≡ 0) ⊎ IsOpenBelow trail clause → IsOrdered clause → 2 ≤ length clause → HasHigh trail clause skipped
some_high trail [] skipped may ordered long = absurd (omega (arith, long))
some_high trail (a ∷ []) skipped may ordered long = absurd (omega (arith, long))
some_high trail (a ∷ b ∷ clause) skipped (inl bottom) ordered long =
    one_of_two trail (a ∷ b ∷ clause) skipped a b (first_apart a b (b ∷ clause) ordered (Contains-here b clause)) (Contains-here a (b ∷ clause)) (Contains-there a (b ∷ clause) b (Contains-here b clause)) (no_level trail a bottom) (no_level trail b bottom)
some_high trail (a ∷ b ∷ clause) skipped (inr pair) ordered long =
    one_of_two trail (a ∷ b ∷ clause) skipped pair.one pair.other pair.two pair.one_in pair.other_in pair.one_not_false_below pair.other_not_false_below

pub none_high : (trail : List Entry) (clause : List Literal) (skipped : ℕ) → HasHigh trail clause skipped → All (λ l. code_of l ≢ skipped → IsNotLow trail l → ⊥) clause → ⊥
none_high trail clause skipped h none =
    All-contains (λ (l : Literal). code_of l ≢ skipped → IsNotLow trail l → ⊥) clause h.literal none h.in_clause h.other h.high

-- a clause of one literal or none is added without decisions alone
pub short_bottom : (trail : List Entry) (clause : List Literal) → (level_of trail ≡ 0) ⊎ IsOpenBelow trail clause → length clause < 2 → level_of trail ≡ 0
short_bottom trail clause (inl bottom) small = bottom
short_bottom trail [] (inr pair) small = absurd (none_in_nil pair.one pair.one_in)
short_bottom trail (a ∷ b ∷ clause) (inr pair) small = absurd (omega (arith, small))
short_bottom trail (a ∷ []) (inr pair) small =
    elim (Contains-cases a [] pair.one pair.one_in) [
      | inl same ↦ elim (Contains-cases a [] pair.other pair.other_in) [
        | inl also ↦ absurd (pair.two (sym same ∙ also))
        | inr none ↦ absurd (none_in_nil pair.other none)
      ]
      | inr none ↦ absurd (none_in_nil pair.one none)
    ]

-- ---- the two literals that are chosen

fresh_by : (trail : List Entry) (head : ℕ) (clause : List Literal) (a b : Literal) → All (λ e. e.level ≤ level_of trail) trail → (is_false (literals trail) a ≡ true → IsNotLow trail a)
    → (is_false (literals trail) a ≡ true → (l : Literal) → Contains clause l → l ≢ b → Contains (literals trail) (negation l)) → IsFresh trail head clause a b
fresh_by trail head clause a b low high others = λ k d h is.
    let z = get_or (take head trail) k d in
    let less : (k < head) × (k < length trail) = (grind (arith, Rattle.std.proofs.lemmas.List.length-take), grind (arith, Rattle.std.proofs.lemmas.List.length-take)) in
    let at : z ≡ get_or trail k d = get_or-take head trail k d less.0 in
    let names : (get_or trail k d).literal ≡ negation a = ap (λ (e : Entry). e.literal) (sym at) ∙ is in
    let falsified : is_false (literals trail) a ≡ true
    = among_from_Contains (literals trail) (negation a) (subst (λ (x : Literal). Contains (literals trail) x) names (literal_of_entry trail (get_or trail k d) (entry_at_place trail k d less.1))) in
    let level : z.level ≡ level_of trail = ⊎_elim
    (λ (lower : (get_or trail k d).level < level_of trail). absurd (high falsified k d less.1 lower names))
    (λ (ge : level_of trail ≤ (get_or trail k d).level). omega (arith, ge, low k d less.1, ap (λ (e : Entry). e.level) at))
    (cases_lt (get_or trail k d).level (level_of trail)) in
    (level, others falsified)

-- what two literals are that a clause is to watch
pub record ArePicked (trail : List Entry) (clause : List Literal) (a b : Literal) : Type 0 where
  pub first : IsPair clause a b
  pub second : IsPair clause b a
  pub first_fresh : (head : ℕ) → IsFresh trail head clause a b
  pub second_fresh : (head : ℕ) → IsFresh trail head clause b a

pub picked : (trail : List Entry) (clause : List Literal) (a b : Literal) → All (λ e. e.level ≤ level_of trail) trail → Contains clause a → Contains clause b → code_of b ≢ code_of a
    → All (λ l. code_of l ≢ 0) clause
    → (is_false (literals trail) a ≡ true → IsNotLow trail a) → (is_false (literals trail) a ≡ true → All (λ l. code_of l ≢ 0 → is_false (literals trail) l ≡ true) clause)
    → (is_false (literals trail) b ≡ true → IsNotLow trail b) → (is_false (literals trail) b ≡ true → All (λ l. code_of l ≢ code_of a → is_false (literals trail) l ≡ true) clause)
    → ArePicked trail clause a b
picked trail clause a b low in_a in_b ne codes high_a others_a high_b others_b = record {
  first = record { in_clause = in_a; two = λ same. ne (ap code_of (sym same)) };
  second = record { in_clause = in_b; two = λ same. ne (ap code_of same) };
  first_fresh = λ head. fresh_by trail head clause a b low high_a
      (λ falsified l in_l nb. Contains-from_among (literals trail) (negation l)
      (All-contains (λ (x : Literal). code_of x ≢ 0 → is_false (literals trail) x ≡ true) clause l (others_a falsified) in_l (All-contains (λ (x : Literal). code_of x ≢ 0) clause l codes in_l)));
  second_fresh = λ head. fresh_by trail head clause b a low high_b
      (λ falsified l in_l na. Contains-from_among (literals trail) (negation l)
      (All-contains (λ (x : Literal). code_of x ≢ code_of a → is_false (literals trail) x ≡ true) clause l (others_b falsified) in_l (codes_apart l a na)));
}

-- a literal of a clause has a variable
pub picked_var : (clause : List Literal) (l : Literal) → All (λ x. Rattle.cnf_core.specs.Literal.IsVariable x.var) clause → Contains clause l → 1 ≤ l.var
picked_var clause l variables in_clause = (All-contains (λ (x : Literal). Rattle.cnf_core.specs.Literal.IsVariable x.var) clause l variables in_clause).0

-- ---- one more clause is watched

-- what the two entries of a new clause are, whose number is n
pub record IsNew (trail : List Entry) (heads : ℕ → ℕ) (n : ℕ) (clause now : List Literal) : Type 0 where
  pub long : (e : ℕ) → e / 2 ≡ n → 1 ≤ (lit_at now e).var → 2 ≤ length clause
  pub both : (e f : ℕ) → ArePartners e f → e / 2 ≡ n → 1 ≤ (lit_at now e).var → 1 ≤ (lit_at now f).var
  pub some : 2 ≤ length clause → 1 ≤ (lit_at now (2 * n)).var
  pub pairs : (e f : ℕ) → ArePartners e f → e / 2 ≡ n → 2 ≤ length clause → IsPair clause (lit_at now e) (lit_at now f)
  pub fresh : (e f : ℕ) → ArePartners e f → e / 2 ≡ n → 2 ≤ length clause → IsFresh trail (heads e) clause (lit_at now e) (lit_at now f)
  pub bottom : length clause < 2 → level_of trail ≡ 0

module _ (clauses : List (List Literal)) (lits : List Literal) (trail : List Entry) (checked : ℕ) (heads : ℕ → ℕ) (w : AreWatched clauses lits trail checked heads) (within : checked ≤ length clauses) (clause now : List Literal) (then : ℕ → ℕ)
    (size : length now ≡ length lits + 2) (same : (x : ℕ) → x < length lits → lit_at now x ≡ lit_at lits x) (stays : (x : ℕ) → x < length lits → then x ≡ heads x) (new : IsNew trail then (length clauses) clause now) where
  abbrev n : ℕ
  n = length clauses

  abbrev more : List (List Literal)
  more = clauses ++ clause ∷ []

  old_clause : (c : ℕ) → c < n → clause_at more c ≡ clause_at clauses c
  old_clause c lt = get_or_append_left clauses (clause ∷ []) [] c lt

  new_clause : (c : ℕ) → c ≡ n → clause_at more c ≡ clause
  new_clause c is = get_or_push clauses clause [] c (sym is)

  old_place : (e : ℕ) → e / 2 < n → e < length lits
  old_place e h = omega (arith, h, w.entries)

  is_new : (e : ℕ) → e < length now → e / 2 ≢ n → e / 2 < n
  is_new e lt ne = omega (arith, lt, size, w.entries, ne)

  was : (e : ℕ) → e < length lits → 1 ≤ (lit_at now e).var → 1 ≤ (lit_at lits e).var
  was e lt some = subst (λ (l : Literal). 1 ≤ l.var) (same e lt) some

  later_more : (c : ℕ) → c < n → HasLater clauses c → HasLater more c
  later_more c lt h = record {
    later = h.later;
    behind = h.behind;
    there = omega (arith, h.there, length_push clauses clause);
    within = λ l in_it.
        subst (λ (ls : List Literal). Contains ls l) (sym (old_clause c lt))
        (h.within l (subst (λ (ls : List Literal). Contains ls l) (old_clause h.later h.there) in_it));
  }

  pub watched_added : AreWatched more now trail checked then
  watched_added = record {
    entries = omega (arith, size, w.entries, length_push clauses clause);
    long = λ e lt some. ⊎_elim
        (λ (is : e / 2 ≡ n). subst (λ (c : List Literal). 2 ≤ length c) (sym (new_clause (e / 2) is)) (new.long e is some))
        (λ (ne : e / 2 ≢ n).
        let old = is_new e lt ne in
        subst (λ (c : List Literal). 2 ≤ length c) (sym (old_clause (e / 2) old)) (w.long e (old_place e old) (subst (λ (l : Literal). 1 ≤ l.var) (same e (old_place e old)) some)))
        (cases_eq (e / 2) n);
    both = λ e f p lt some. ⊎_elim
        (λ (is : e / 2 ≡ n). new.both e f p is some)
        (λ (ne : e / 2 ≢ n).
        let old = is_new e lt ne in
        let old_f : f / 2 < n = omega (arith, old, p.clause) in
        subst (λ (l : Literal). 1 ≤ l.var) (sym (same f (old_place f old_f))) (w.both e f p (old_place e old) (was e (old_place e old) some)))
        (cases_eq (e / 2) n);
    pairs = λ e f p lt some. ⊎_elim
        (λ (is : e / 2 ≡ n).
        subst (λ (c : List Literal). IsPair c (lit_at now e) (lit_at now f)) (sym (new_clause (e / 2) is)) (new.pairs e f p is (new.long e is some)))
        (λ (ne : e / 2 ≢ n).
        let old = is_new e lt ne in
        let old_f : f / 2 < n = omega (arith, old, p.clause) in
        rw (old_clause (e / 2) old, same e (old_place e old), same f (old_place f old_f)) (w.pairs e f p (old_place e old) (was e (old_place e old) some)))
        (cases_eq (e / 2) n);
    guarded = λ e lt some.
        let old : e / 2 < n = omega (arith, lt, within) in
        rw (stays e (old_place e old), old_clause (e / 2) old, same e (old_place e old)) (w.guarded e lt (was e (old_place e old) some));
    fresh = λ e f p lt le some. ⊎_elim
        (λ (is : e / 2 ≡ n).
        subst (λ (c : List Literal). IsFresh trail (then e) c (lit_at now e) (lit_at now f)) (sym (new_clause (e / 2) is)) (new.fresh e f p is (new.long e is some)))
        (λ (ne : e / 2 ≢ n).
        let old = is_new e lt ne in
        let old_f : f / 2 < n = omega (arith, old, p.clause) in
        rw (stays e (old_place e old), old_clause (e / 2) old, same e (old_place e old), same f (old_place f old_f)) (w.fresh e f p (old_place e old) le (was e (old_place e old) some)))
        (cases_eq (e / 2) n);
    out = λ c lt lg none. ⊎_elim
        (λ (is : c ≡ n).
        let some : 1 ≤ (lit_at now (2 * n)).var = new.some (subst (λ (x : List Literal). 2 ≤ length x) (new_clause c is) lg) in
        absurd (omega (arith, some, subst (λ (k : ℕ). (lit_at now (2 * k)).var ≡ 0) is none)))
        (λ (ne : c ≢ n).
        let old : c < n = omega (arith, lt, length_push clauses clause, ne) in
        let place : 2 * c < length lits = omega (arith, old, w.entries) in
        later_more c old (w.out c old (subst (λ (x : List Literal). 2 ≤ length x) (old_clause c old) lg) (ap (λ (l : Literal). l.var) (sym (same (2 * c) place)) ∙ none)))
        (cases_eq c n);
    short = λ c lt small.
        let old : c < n = omega (arith, lt, within) in
        rw (old_clause c old) (w.short c lt (subst (λ (x : List Literal). length x < 2) (old_clause c old) small));
    unchecked = λ c lt le small. ⊎_elim
        (λ (is : c ≡ n). new.bottom (subst (λ (x : List Literal). length x < 2) (new_clause c is) small))
        (λ (ne : c ≢ n).
        let old : c < n = omega (arith, lt, length_push clauses clause, ne) in
        w.unchecked c old le (subst (λ (x : List Literal). length x < 2) (old_clause c old) small))
        (cases_eq c n);
  }

-- which entries are those of the clause of number n
two_entries : (n e f : ℕ) → ArePartners e f → e / 2 ≡ n → ((e ≡ 2 * n) × (f ≡ 2 * n + 1)) ⊎ ((e ≡ 2 * n + 1) × (f ≡ 2 * n))
two_entries n e f p is = ⊎_elim
    (λ (first : e ≡ 2 * n). let second : f ≡ 2 * n + 1 = omega (arith, is, p.clause, p.apart, first) in inl (first, second))
    (λ (ne : e ≢ 2 * n).
    let first : e ≡ 2 * n + 1 = omega (arith, is, ne) in
    let second : f ≡ 2 * n = omega (arith, is, p.clause, p.apart, first) in
    inr (first, second))
    (cases_eq e (2 * n))

last_two : (lits : List Literal) (e n : ℕ) → length lits ≡ 2 * n → e / 2 ≡ n → lit_at (lits ++ no_lit ∷ no_lit ∷ []) e ≡ no_lit
last_two lits e n size is = ⊎_elim
    (λ (first : e ≡ length lits + 0). ap (lit_at (lits ++ no_lit ∷ no_lit ∷ [])) first ∙ get_or-append-add lits (no_lit ∷ no_lit ∷ []) 0 no_lit)
    (λ (ne : e ≢ length lits + 0).
    let second : e ≡ length lits + 1 = omega (arith, is, size, ne) in
    ap (lit_at (lits ++ no_lit ∷ no_lit ∷ [])) second ∙ get_or-append-add lits (no_lit ∷ no_lit ∷ []) 1 no_lit)
    (cases_eq e (length lits + 0))

-- a clause of one literal or none watches nothing
pub new_short : (trail : List Entry) (heads : ℕ → ℕ) (n : ℕ) (clause lits : List Literal) → length lits ≡ 2 * n → length clause < 2 → level_of trail ≡ 0 → IsNew trail heads n clause (lits ++ no_lit ∷ no_lit ∷ [])
new_short trail heads n clause lits size small bottom = record {
  long = λ e is some. absurd (omega (arith, some, ap (λ (l : Literal). l.var) (last_two lits e n size is)));
  both = λ e f p is some. absurd (omega (arith, some, ap (λ (l : Literal). l.var) (last_two lits e n size is)));
  some = λ lg. absurd (omega (arith, small, lg));
  pairs = λ e f p is lg. absurd (omega (arith, small, lg));
  fresh = λ e f p is lg. absurd (omega (arith, small, lg));
  bottom = λ h. bottom;
}

pub new_long : (trail : List Entry) (heads : ℕ → ℕ) (n : ℕ) (clause lits : List Literal) (a b : Literal) → length lits ≡ 2 * n → 2 ≤ length clause → 1 ≤ a.var → 1 ≤ b.var → ArePicked trail clause a b
    → IsNew trail heads n clause (set (set (lits ++ no_lit ∷ no_lit ∷ []) (2 * n) a) (2 * n + 1) b)
new_long trail heads n clause lits a b size lg some_a some_b pick =
    let start = lits ++ no_lit ∷ no_lit ∷ [] in
    let len : length start ≡ 2 * n + 2 = omega (arith, length-append lits (no_lit ∷ no_lit ∷ []), size) in
    let now = set (set start (2 * n) a) (2 * n + 1) b in
    let at_b : lit_at now (2 * n + 1) ≡ b = get_or-set_same (set start (2 * n) a) (2 * n + 1) b no_lit (omega (arith, len, length-set start (2 * n) a)) in
    let at_a : lit_at now (2 * n) ≡ a
    = get_or-set_other (set start (2 * n) a) (2 * n + 1) (2 * n) b no_lit (λ same. absurd (omega (arith, same))) ∙ get_or-set_same start (2 * n) a no_lit (omega (arith, len)) in
    record {
      long = λ e is some. lg;
      both = λ e f p is some.
          elim (two_entries n e f p is) [
            | inl both ↦ rw (both.1, at_b) some_b
            | inr both ↦ rw (both.1, at_a) some_a
          ];
      some = λ h. rw at_a some_a;
      pairs = λ e f p is h.
          elim (two_entries n e f p is) [
            | inl both ↦ rw (both.0, both.1, at_a, at_b) pick.first
            | inr both ↦ rw (both.0, both.1, at_a, at_b) pick.second
          ];
      fresh = λ e f p is h.
          elim (two_entries n e f p is) [
            | inl both ↦ rw (both.0, both.1, at_a, at_b) (pick.first_fresh (heads (2 * n)))
            | inr both ↦ rw (both.0, both.1, at_a, at_b) (pick.second_fresh (heads (2 * n + 1)))
          ];
      bottom = λ small. absurd (omega (arith, small, lg));
    }

pub same_before : (lits : List Literal) (x : ℕ) → x < length lits → lit_at (lits ++ no_lit ∷ no_lit ∷ []) x ≡ lit_at lits x
same_before lits x lt = get_or_append_left lits (no_lit ∷ no_lit ∷ []) no_lit x lt

pub same_before_two : (lits : List Literal) (n : ℕ) (a b : Literal) → length lits ≡ 2 * n → (x : ℕ) → x < length lits → lit_at (set (set (lits ++ no_lit ∷ no_lit ∷ []) (2 * n) a) (2 * n + 1) b) x ≡ lit_at lits x
same_before_two lits n a b size x lt =
    get_or-set_other (set (lits ++ no_lit ∷ no_lit ∷ []) (2 * n) a) (2 * n + 1) x b no_lit (λ same. absurd (omega (arith, same, lt, size)))
    ∙ get_or-set_other (lits ++ no_lit ∷ no_lit ∷ []) (2 * n) x a no_lit (λ same. absurd (omega (arith, same, lt, size)))
    ∙ same_before lits x lt

pub tier_before : (fars : List Bool) (x : ℕ) → x < length fars → far_at (fars ++ false ∷ false ∷ []) x ≡ far_at fars x
tier_before fars x lt = get_or_append_left fars (false ∷ false ∷ []) false x lt

pub tier_before_two : (fars : List Bool) (n : ℕ) (a b : Bool) → length fars ≡ 2 * n → (x : ℕ) → x < length fars → far_at (set (set (fars ++ false ∷ false ∷ []) (2 * n) a) (2 * n + 1) b) x ≡ far_at fars x
tier_before_two fars n a b size x lt =
    get_or-set_other (set (fars ++ false ∷ false ∷ []) (2 * n) a) (2 * n + 1) x b false (λ same. absurd (omega (arith, same, lt, size)))
    ∙ get_or-set_other (fars ++ false ∷ false ∷ []) (2 * n) x a false (λ same. absurd (omega (arith, same, lt, size)))
    ∙ tier_before fars x lt

-- a clause is appended
pub joined_added : (old new : Parts) (clause : List Literal) → AreJoined old → (level_of old.assigned.trail ≡ 0) ⊎ IsOpenBelow old.assigned.trail clause → VariablesUpTo old.assigned.vars clause → IsClause clause
    → length new.watches.lits ≡ length old.watches.lits + 2 → ((x : ℕ) → x < length old.watches.lits → lit_at new.watches.lits x ≡ lit_at old.watches.lits x)
    → length new.watches.fars ≡ length old.watches.fars + 2 → ((x : ℕ) → x < length old.watches.fars → far_at new.watches.fars x ≡ far_at old.watches.fars x) → IsNew old.assigned.trail (heads_of old.queue new.watches.fars) (length old.clauses.lists) clause new.watches.lits
    → new.clauses.lists ≡ old.clauses.lists ++ clause ∷ [] → old.watches.lists ≤ new.watches.lists
    → ((x : Watched) → IsInSomeList new.watches.stands x → IsInSomeList old.watches.stands x ⊎ IsOfClause (old.clauses.lists ++ clause ∷ []) new.watches.lits x)
    → ((c : ℕ) → uses (old.clauses.lists ++ clause ∷ []) c ≤ (listed_at new.watches.stands c).room)
    → new.assigned ≡ old.assigned → new.queue ≡ old.queue → AreJoined new
joined_added old new clause j may known is_clause size same more stays fresh clauses lists stays_in rooms assigned queue = record {
  grounded = rw (clauses, assigned) (grounded_more old.clauses.lists clause old.assigned.trail j.grounded may);
  watched = rw (clauses, assigned, queue)
      (watched_added old.clauses.lists old.watches.lits old.assigned.trail old.queue.checked (heads_of old.queue old.watches.fars) j.watched j.checked_in clause new.watches.lits (heads_of old.queue new.watches.fars) size same
      (λ x lt. ap (place_in_queue old.queue) (stays x (omega (arith, lt, j.fars)))) fresh);
  checked_in = rw (clauses, queue) (omega (arith, j.checked_in, length_push old.clauses.lists clause));
  head_in = rw (assigned, queue) j.head_in;
  present = rw (assigned, queue) j.present;
  fars = omega (arith, size, more, j.fars);
  lists = omega (arith, lists, j.lists, ap (λ (a : Rattle.sat_state.specs.Assigned.TrailState). a.vars) assigned);
  blockers = λ x s.
      rw clauses
      (⊎_elim
      (λ (stood : IsInSomeList old.watches.stands x).
      let is = j.blockers x stood in
      let there : x.entry / 2 < length old.clauses.lists = omega (arith, is.there, j.watched.entries) in
      let now : IsOfClause (old.clauses.lists ++ clause ∷ []) new.watches.lits x = record {
        there = omega (arith, is.there, size);
        two = λ pair. subst (λ (c : List Literal). length c ≡ 2) (sym (get_or_append_left old.clauses.lists (clause ∷ []) [] (x.entry / 2) there)) (is.two pair);
        in_clause = subst (λ (c : List Literal). Contains c x.blocker) (sym (get_or_append_left old.clauses.lists (clause ∷ []) [] (x.entry / 2) there)) is.in_clause;
      } in now)
      (λ (is : IsOfClause (old.clauses.lists ++ clause ∷ []) new.watches.lits x). is)
      (stays_in x s));
  rooms = rw clauses rooms;
  in_range = rw (clauses, assigned) (All-push (VariablesUpTo old.assigned.vars) old.clauses.lists clause j.in_range known);
  clauses = rw clauses (All-push IsClause old.clauses.lists clause j.clauses is_clause);
}

-- ---- room for the two entries of a new clause

-- a watch of the new clause
pub both_of : (clauses : List (List Literal)) (clause lits : List Literal) (x : Watched) (e : ℕ) (pair : Bool) (l : Literal) → x ≡ record { entry = e; pair = pair; blocker = l } → e / 2 ≡ length clauses → e < length lits → (pair ≡ true → length clause ≡ 2) → Contains clause l → IsOfClause (clauses ++ clause ∷ []) lits x
both_of clauses clause lits x e pair l is place there two in_clause =
    let at = sym (get_or_push clauses clause [] (e / 2) (sym place)) in
    subst (IsOfClause (clauses ++ clause ∷ []) lits) (sym is)
    (record { there = there; two = λ said. subst (λ (c : List Literal). length c ≡ 2) at (two said); in_clause = subst (λ (c : List Literal). Contains c l) at in_clause })

module _ (old : Parts) (clause : List Literal) (a b : Literal) (j : AreJoined old) (long : 2 ≤ length clause) (some_a : 1 ≤ a.var) (some_b : 1 ≤ b.var) (pick : ArePicked old.assigned.trail clause a b) where
  abbrev blank : List Literal
  blank = old.watches.lits ++ no_lit ∷ no_lit ∷ []

  abbrev place : ℕ
  place = 2 * length old.clauses.lists

  abbrev one_set : List Literal
  one_set = set blank place a

  abbrev both_set : List Literal
  both_set = set one_set (place + 1) b

  blank_size : length blank ≡ place + 2
  blank_size = omega (arith, length-append old.watches.lits (no_lit ∷ no_lit ∷ []), j.watched.entries)

  none_first : lit_at blank place ≡ no_lit
  none_first = last_two old.watches.lits place (length old.clauses.lists) j.watched.entries (let e : (2 * length old.clauses.lists) / 2 ≡ length old.clauses.lists = omega arith in e)

  none_second : lit_at one_set (place + 1) ≡ no_lit
  none_second =
      get_or-set_other blank place (place + 1) a no_lit (λ same. absurd (omega (arith, same)))
      ∙ last_two old.watches.lits (place + 1) (length old.clauses.lists) j.watched.entries (let e : (2 * length old.clauses.lists + 1) / 2 ≡ length old.clauses.lists = omega arith in e)

  both_below : (code : ℕ) → 2 ≤ code → links both_set code ≤ uses (old.clauses.lists ++ clause ∷ []) code
  both_below code some =
      let heads = heads_of old.queue old.watches.fars in
      let size : length both_set ≡ length old.watches.lits + 2 = omega (arith, length-set one_set (place + 1) b, length-set blank place a, blank_size, j.watched.entries) in
      links_below (old.clauses.lists ++ clause ∷ []) both_set old.assigned.trail old.queue.checked heads
      (watched_added old.clauses.lists old.watches.lits old.assigned.trail old.queue.checked heads j.watched j.checked_in clause both_set heads size
      (same_before_two old.watches.lits (length old.clauses.lists) a b j.watched.entries) (λ x lt. refl)
      (new_long old.assigned.trail heads (length old.clauses.lists) clause old.watches.lits a b j.watched.entries long some_a some_b pick))
      code some

  pub added_first : 2 ≤ code_of a → links blank (code_of a) < uses (old.clauses.lists ++ clause ∷ []) (code_of a)
  added_first some =
      omega (
        arith,
        links_set blank place a (omega (arith, blank_size)) none_first some,
        links_more one_set (place + 1) b (code_of a) (omega (arith, length-set blank place a, blank_size)) none_second some,
        both_below (code_of a) some,
      )

  pub added_second : 2 ≤ code_of b → links one_set (code_of b) < uses (old.clauses.lists ++ clause ∷ []) (code_of b)
  added_second some =
      omega (arith, links_set one_set (place + 1) b (omega (arith, length-set blank place a, blank_size)) none_second some, both_below (code_of b) some)
