-- What a trail's way down passed over.
use Rattle.std.proofs.Common.{◌≡◌, ℕ, zero, suc, add-zero, ◌+◌, ◌-◌, ◌<◌, ◌≤◌, Bool, true, false, ◌⊎◌, inl, inr, List, [], ◌∷◌, ◌++◌, length, get_or, take, ap, refl, ◌∙◌, sym, subst, arith}
use Rattle.std.specs.Prelude.{Contains}
use Rattle.std.proofs.lemmas.Bool.{false≢true}
use Rattle.std.proofs.lemmas.List.{append_assoc, get_or_default, take_more}
use Rattle.std.proofs.lemmas.List.Elements.{Contains-append_left, Contains-append_right, Contains-append_cases, Contains-push, Contains-push_cases}
use Rattle.cnf_core.specs.Literal.{Literal, negation, IsOrdered}
use Rattle.cnf_core.proofs.Members.{either, none_in_nil, negation-negation, Contains-here, Contains-there, Contains-cases}
use Rattle.sat_state.specs.Trail.{Gives}
use Rattle.sat_search.specs.Analysis.{is_marked, MarksClause, StandsIn, IsTraced, KeepsMore, count_marked, CountsMarks, IsUnmarkedBetween, IsMarkedFalse, KeepsMarked}
use Rattle.sat_search.proofs.Tracing.{front_cases, traced_skip, traced_keep, traced_resolve, traced_down, in_front}
use Rattle.sat_search.proofs.Counting.{count_below, count_taken, none_counted}

-- As traced as where the negations of some marked literals were kept, which may have been passed over. With those that are marked before the
-- place these are no more than the number.
pub record IsTracedBut (clauses : List (List Literal)) (trail : List Literal) (marks : List Bool) (kept : List Literal) (hints : List ℕ) (from upto pending : ℕ) : Type 0 where
  pub missed : List Literal
  pub traced : IsTraced clauses trail marks (missed ++ kept) hints upto
  pub counted : count_marked trail marks upto + length missed ≤ pending
  pub are_marked : (l : Literal) → Contains missed l → IsMarkedFalse (take from trail) marks l

pub but_start : (clauses : List (List Literal)) (trail : List Literal) (marks : List Bool) (kept : List Literal) (hints : List ℕ) (from pending : ℕ) → IsTraced clauses trail marks kept hints from → count_marked trail marks from ≤ pending
    → IsTracedBut clauses trail marks kept hints from from pending
but_start clauses trail marks kept hints from pending traced counted = record { missed = []; traced = traced; counted = omega (arith, counted); are_marked = λ l found. absurd (none_in_nil l found) }

-- the negation of a marked literal is kept in front
traced_before : (clauses : List (List Literal)) (trail : List Literal) (marks : List Bool) (kept : List Literal) (hints : List ℕ) (i : ℕ) (l : Literal) → i < length trail → l ≡ get_or trail i l → is_marked marks l.var ≡ true
    → IsTraced clauses trail marks kept hints (i + 1) → IsTraced clauses trail marks (negation l ∷ kept) hints i
traced_before clauses trail marks kept hints i l within is marked traced = record {
  marked = traced.marked;
  hints_there = traced.hints_there;
  ordered = traced.ordered;
  reading = λ trues kept_false marked_true. traced.reading trues
      (λ m found. kept_false m (Contains-there (negation l) kept m found))
      (λ m found m_marked.
      elim (front_cases trail i l m within is found) [
        | inl before ↦ marked_true m before m_marked
        | inr here ↦ subst (Contains trues) (negation-negation l ∙ here) (kept_false (negation l) (Contains-here (negation l) kept))
      ]);
  kept_named = λ m found. elim (Contains-cases (negation l) kept m found) [
    | inl here ↦ subst (λ (x : Literal). StandsIn clauses x.var) here (traced.marked l.var marked)
    | inr before ↦ traced.kept_named m before
  ];
}

module _ (clauses : List (List Literal)) (trail : List Literal) (marks : List Bool) (kept : List Literal) (hints : List ℕ) (from pending : ℕ) (inside : from ≤ length trail) where
  -- a literal is passed over, whether it is marked or not
  but_next : (i : ℕ) (l : Literal) → i < from → l ≡ get_or trail i l → IsTracedBut clauses trail marks kept hints from (i + 1) pending → IsTracedBut clauses trail marks kept hints from i pending
  but_next i l below is but =
      let within : i < length trail = omega (arith, below, inside) in
      elim (either (is_marked marks l.var)) [
        | inl marked ↦ record {
          missed = negation l ∷ but.missed;
          traced = traced_before clauses trail marks (but.missed ++ kept) hints i l within is marked but.traced;
          counted = omega (arith, count_taken trail marks i (count_marked trail marks (i + 1)) l within is marked (omega arith), but.counted);
          are_marked = λ m found. elim (Contains-cases (negation l) but.missed m found) [
            | inl here ↦ record {
              is_false = subst (Contains (take from trail)) (sym (negation-negation l) ∙ ap negation here) (in_front trail from i l below inside is);
              marked = subst (λ (x : Literal). is_marked marks x.var ≡ true) here marked;
            }
            | inr before ↦ but.are_marked m before
          ];
        }
        | inr unmarked ↦ record {
          missed = but.missed;
          traced = traced_skip clauses trail marks (but.missed ++ kept) hints i l within is unmarked but.traced;
          counted = omega (arith, count_below trail marks i (i + 1) (count_marked trail marks (i + 1)) (omega arith) (omega (arith, within)) (omega arith), but.counted);
          are_marked = but.are_marked;
        }
      ]

  -- what stands between two places is passed over
  pub but_over : (low more : ℕ) → low + more ≤ from → IsTracedBut clauses trail marks kept hints from (low + more) pending → IsTracedBut clauses trail marks kept hints from low pending
  but_over low zero below but = subst (λ (n : ℕ). IsTracedBut clauses trail marks kept hints from n pending) (add-zero low) but
  but_over low (suc more) below but =
      let d : Literal = record { var = 0; positive = true } in
      let l = get_or trail (low + more) d in
      let here : low + more < from = omega (arith, below) in
      let next : low + suc more ≡ (low + more) + 1 = omega arith in
      but_over low more (omega (arith, below))
      (but_next (low + more) l here (get_or_default trail (low + more) d l (omega (arith, here, inside))) (subst (λ (n : ℕ). IsTracedBut clauses trail marks kept hints from n pending) next but))

  -- a literal that isn't marked
  pub but_skip : (i : ℕ) (l : Literal) → i < from → l ≡ get_or trail i l → is_marked marks l.var ≡ false → IsTracedBut clauses trail marks kept hints from (i + 1) pending → IsTracedBut clauses trail marks kept hints from i pending
  but_skip i l below is unmarked but = but_next i l below is but

  -- the negation of a marked literal is kept
  pub but_keep : (i : ℕ) (l : Literal) → i < from → l ≡ get_or trail i l → is_marked marks l.var ≡ true → IsTracedBut clauses trail marks kept hints from (i + 1) pending
      → IsTracedBut clauses trail marks (kept ++ negation l ∷ []) hints from i (pending - 1)
  but_keep i l below is marked but =
      let within : i < length trail = omega (arith, below, inside) in
      record {
        missed = but.missed;
        traced = subst (λ (ls : List Literal). IsTraced clauses trail marks ls hints i) (append_assoc but.missed kept (negation l ∷ []))
            (traced_keep clauses trail marks (but.missed ++ kept) hints i l within is marked but.traced);
        counted = omega (arith, count_taken trail marks i (count_marked trail marks (i + 1)) l within is marked (omega arith), but.counted);
        are_marked = but.are_marked;
      }

  -- a marked literal is resolved
  pub but_resolve : (new : List Bool) (now i n : ℕ) (l : Literal) → i < from → l ≡ get_or trail i l → is_marked marks l.var ≡ true → n < length clauses → Gives (take i trail) (get_or clauses n []) l → IsOrdered (get_or clauses n [])
      → MarksClause marks new (get_or clauses n []) → CountsMarks trail marks new (pending - 1) now → IsTracedBut clauses trail marks kept hints from (i + 1) pending → IsTracedBut clauses trail new kept (hints ++ n ∷ []) from i now
  but_resolve new now i n l below is marked there gives ordered marks_new counts but =
      let within : i < length trail = omega (arith, below, inside) in
      record {
        missed = but.missed;
        traced = traced_resolve clauses trail marks new (but.missed ++ kept) hints i n l within is there gives ordered marks_new but.traced;
        counted = omega (arith, count_taken trail marks i (count_marked trail marks (i + 1)) l within is marked (omega arith), but.counted, counts i (omega (arith, within)));
        are_marked = λ m found. record { is_false = (but.are_marked m found).is_false; marked = marks_new.keeps m.var (but.are_marked m found).marked };
      }

  none_left : (missed : List Literal) → length missed ≡ 0 → missed ≡ []
  none_left [] none = refl
  none_left (l ∷ missed) none = absurd (omega (arith, none))

  -- where the number is 0 nothing was passed over, and nothing before the place is marked
  pub but_none : (i : ℕ) → i ≤ from → pending ≡ 0 → IsTracedBut clauses trail marks kept hints from i pending → IsTraced clauses trail marks kept hints 0
  but_none i below none but =
      let whole : i ≡ 0 + i = omega arith in
      let unmarked : count_marked trail marks i ≡ 0 = omega (arith, but.counted, none) in
      let high : i ≤ length trail = omega (arith, below, inside) in
      let traced : IsTraced clauses trail marks kept hints i = subst (λ (ls : List Literal). IsTraced clauses trail marks (ls ++ kept) hints i) (none_left but.missed (omega (arith, but.counted, none))) but.traced in
      traced_down clauses trail marks kept hints 0 i (omega (arith, high)) (subst (IsUnmarkedBetween trail marks 0) whole (none_counted trail marks i high unmarked)) (subst (IsTraced clauses trail marks kept hints) whole traced)

  -- where the negations of all marked ones are kept, what was passed over is
  pub but_kept : (new : List Literal) → KeepsMarked (take from trail) marks kept new → IsTracedBut clauses trail marks kept hints from 0 pending → IsTraced clauses trail marks new hints 0
  but_kept new keeps but = record {
    marked = but.traced.marked;
    hints_there = but.traced.hints_there;
    ordered = but.traced.ordered;
    reading = λ trues kept_false marked_true. but.traced.reading trues
        (λ m found. elim (Contains-append_cases but.missed kept m found) [
          | inl missed ↦
              let of = but.are_marked m missed in
              kept_false m (subst (Contains new) (negation-negation m) (keeps.each (negation m) of.is_false of.marked))
          | inr was ↦ kept_false m (keeps.stays m was)
        ])
        marked_true;
    kept_named = λ m found. elim (keeps.only m found) [
      | inl was ↦ but.traced.kept_named m (Contains-append_right but.missed kept m was)
      | inr of ↦ but.traced.marked m.var of.marked
    ];
  }

-- keeping the negations of marked ones is keeping more
pub keeps_as_marked : (trues : List Literal) (marks : List Bool) (old now new : List Literal) → KeepsMore trues old now → KeepsMarked trues marks now new → KeepsMore trues old new
keeps_as_marked trues marks old now new before after = record {
  stays = λ l was. after.stays l (before.stays l was);
  only = λ l found. elim (after.only l found) [
    | inl was ↦ before.only l was
    | inr of ↦ inr of.is_false
  ];
}

-- what is among the first is among one more
front_more : (trail : List Literal) (i : ℕ) (l m : Literal) → i < length trail → Contains (take i trail) m → Contains (take (i + 1) trail) m
front_more trail i l m within found = subst (λ (ls : List Literal). Contains ls m) (sym (take_more trail i l within)) (Contains-append_left (take i trail) (get_or trail i l ∷ []) m found)

module _ (trail : List Literal) (marks : List Bool) (old now : List Literal) (i : ℕ) (l : Literal) (within : i < length trail) (is : l ≡ get_or trail i l) (keeps : KeepsMarked (take i trail) marks old now) where
  was_among : (m : Literal) → Contains now m → Contains old m ⊎ IsMarkedFalse (take (i + 1) trail) marks m
  was_among m found = elim (keeps.only m found) [
    | inl was ↦ inl was
    | inr of ↦ inr (record { is_false = front_more trail i l (negation m) within of.is_false; marked = of.marked })
  ]

  -- the negation of one more that is marked
  pub marked_more : is_marked marks l.var ≡ true → KeepsMarked (take (i + 1) trail) marks old (now ++ negation l ∷ [])
  marked_more marked = record {
    stays = λ m was. Contains-append_left now (negation l ∷ []) m (keeps.stays m was);
    only = λ m found. elim (Contains-push_cases now (negation l) m found) [
      | inl before ↦ was_among m before
      | inr here ↦ inr (record {
        is_false = subst (Contains (take (i + 1) trail)) (sym (negation-negation l) ∙ ap negation here) (in_front trail (i + 1) i l (omega arith) (omega (arith, within)) is);
        marked = subst (λ (x : Literal). is_marked marks x.var ≡ true) here marked;
      })
    ];
    each = λ m found m_marked. elim (front_cases trail i l m within is found) [
      | inl before ↦ Contains-append_left now (negation l ∷ []) (negation m) (keeps.each m before m_marked)
      | inr here ↦ subst (λ (x : Literal). Contains (now ++ negation l ∷ []) (negation x)) here (Contains-push now (negation l))
    ];
  }

  -- one that isn't marked
  pub unmarked_more : is_marked marks l.var ≡ false → KeepsMarked (take (i + 1) trail) marks old now
  unmarked_more unmarked = record {
    stays = keeps.stays;
    only = was_among;
    each = λ m found m_marked. elim (front_cases trail i l m within is found) [
      | inl before ↦ keeps.each m before m_marked
      | inr here ↦ absurd (false≢true (sym unmarked ∙ ap (λ (x : Literal). is_marked marks x.var) here ∙ m_marked))
    ];
  }
