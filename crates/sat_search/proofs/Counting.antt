-- How many of a trail's first literals are marked.
use Rattle.std.proofs.Common.{◌≡◌, ◌≢◌, ℕ, zero, suc, add-zero, ◌+◌, ◌-◌, ◌<◌, ◌≤◌, Bool, true, false, inl, inr, List, length, get_or, set, take, map, refl, ap, ◌∙◌, sym, subst, arith, eqb, All}
use Rattle.std.proofs.lemmas.Bool.{ne_eqb, cases_lt}
use Rattle.std.proofs.lemmas.List.{get_or-set_other, get_or-map, get_or-take, get_or_past, length-map, length-take-le, take-take}
use Rattle.std.proofs.lemmas.List.Elements.{All-take}
use Rattle.std.proofs.lemmas.List.Sums.{count_by_more_yes, count_by_more_no}
use Rattle.cnf_core.specs.Literal.{Literal}
use Rattle.cnf_core.proofs.Members.{either}
use Rattle.sat_state.specs.Trail.{Entry, literals, IsGrounded}
use Rattle.sat_state.proofs.Literals.{no_literal}
use Rattle.sat_search.specs.Analysis.{is_marked, count_marked, CountsMarks, IsUnmarkedBetween}
use Rattle.sat_search.proofs.Marking.{same_or_not}
use Rattle.sat_search.proofs.Trails.{free_at}

-- where all stamps are at most one number, none is the next
pub none_marked : (stamps : List ℕ) (stamp v : ℕ) → All (λ s. s ≤ stamp) stamps → is_marked (map (λ s. eqb s (stamp + 1)) stamps) v ≡ false
none_marked stamps stamp v all = elim (cases_lt v (length stamps)) [
  | inl within ↦ get_or-map (λ (s : ℕ). eqb s (stamp + 1)) stamps v 0 false within ∙ ne_eqb (get_or stamps v 0) (stamp + 1) (λ e. absurd (omega (arith, e, all v 0 within)))
  | inr past ↦ get_or_past (map (λ (s : ℕ). eqb s (stamp + 1)) stamps) v false (omega (arith, past, length-map stamps (λ (s : ℕ). eqb s (stamp + 1))))
]

some_literal : Literal
some_literal = record { var = 0; positive = true }

count_up : (trail : List Literal) (marks : List Bool) (n : ℕ) → n < length trail → count_marked trail marks n ≤ count_marked trail marks (n + 1)
count_up trail marks n within = elim (either (is_marked marks (get_or trail n some_literal).var)) [
  | inl is ↦ omega (arith, count_by_more_yes (λ (l : Literal). is_marked marks l.var) trail n some_literal within is)
  | inr isnt ↦ omega (arith, count_by_more_no (λ (l : Literal). is_marked marks l.var) trail n some_literal within isnt)
]

count_step : (trail : List Literal) (marks : List Bool) (n : ℕ) → n < length trail → count_marked trail marks (n + 1) ≤ count_marked trail marks n + 1
count_step trail marks n within = elim (either (is_marked marks (get_or trail n some_literal).var)) [
  | inl is ↦ omega (arith, count_by_more_yes (λ (l : Literal). is_marked marks l.var) trail n some_literal within is)
  | inr isnt ↦ omega (arith, count_by_more_no (λ (l : Literal). is_marked marks l.var) trail n some_literal within isnt)
]

-- a longer front has no fewer
pub count_le : (trail : List Literal) (marks : List Bool) (low more : ℕ) → low + more ≤ length trail → count_marked trail marks low ≤ count_marked trail marks (low + more)
count_le trail marks low zero within = subst (λ (n : ℕ). count_marked trail marks low ≤ count_marked trail marks n) (sym (add-zero low)) (omega arith)
count_le trail marks low (suc more) within =
    let next : low + suc more ≡ (low + more) + 1 = omega arith in
    subst (λ (n : ℕ). count_marked trail marks low ≤ count_marked trail marks n) (sym next)
    (omega (arith, count_le trail marks low more (omega arith), count_up trail marks (low + more) (omega arith)))

-- a front below a place has no more
pub count_below : (trail : List Literal) (marks : List Bool) (low high most : ℕ) → low ≤ high → high ≤ length trail → count_marked trail marks high ≤ most → count_marked trail marks low ≤ most
count_below trail marks low high most order within few =
    let same : low + (high - low) ≡ high = omega arith in
    omega (arith, few, subst (λ (n : ℕ). count_marked trail marks low ≤ count_marked trail marks n) same (count_le trail marks low (high - low) (omega arith)))

-- a marked literal is one of those that were counted
pub count_taken : (trail : List Literal) (marks : List Bool) (i most : ℕ) (l : Literal) → i < length trail → l ≡ get_or trail i l → is_marked marks l.var ≡ true → count_marked trail marks (i + 1) ≤ most → count_marked trail marks i + 1 ≤ most
count_taken trail marks i most l within is marked few =
    omega (arith, few, count_by_more_yes (λ (m : Literal). is_marked marks m.var) trail i l within (ap (λ (m : Literal). is_marked marks m.var) (sym is) ∙ marked))

-- where nothing is marked nothing is counted
pub count_unmarked : (trail : List Literal) (marks : List Bool) (n : ℕ) → n ≤ length trail → ((v : ℕ) → is_marked marks v ≡ false) → count_marked trail marks n ≡ 0
count_unmarked trail marks zero within none = refl
count_unmarked trail marks (suc n) within none =
    let next : suc n ≡ n + 1 = omega arith in
    subst (λ (k : ℕ). count_marked trail marks k ≡ 0) (sym next)
    (count_by_more_no (λ (l : Literal). is_marked marks l.var) trail n some_literal (omega arith) (none (get_or trail n some_literal).var) ∙ count_unmarked trail marks n (omega arith) none)

-- where none is counted none is marked
pub none_counted : (trail : List Literal) (marks : List Bool) (upto : ℕ) → upto ≤ length trail → count_marked trail marks upto ≡ 0 → IsUnmarkedBetween trail marks 0 upto
none_counted trail marks upto within none k e low high = elim (either (is_marked marks (get_or trail k e).var)) [
  | inr isnt ↦ isnt
  | inl is ↦ absurd (omega (arith, count_by_more_yes (λ (l : Literal). is_marked marks l.var) trail k e (omega arith) is, count_below trail marks (k + 1) upto 0 (omega arith) within (omega (arith, none))))
]

-- marking a variable that none of them has changes nothing
count_other : (trail : List Literal) (marks : List Bool) (v n : ℕ) → n ≤ length trail → All (λ l. l.var ≢ v) (take n trail) → count_marked trail (set marks v true) n ≡ count_marked trail marks n
count_other trail marks v zero within others = refl
count_other trail marks v (suc n) within others =
    let l = get_or trail n some_literal in
    let here : n < length trail = omega arith in
    let next : suc n ≡ n + 1 = omega arith in
    let differs : l.var ≢ v = subst (λ (m : Literal). m.var ≢ v) (get_or-take (suc n) trail n some_literal (omega arith)) (others n some_literal (omega (arith, length-take-le (suc n) trail within))) in
    let same : is_marked (set marks v true) l.var ≡ is_marked marks l.var = get_or-set_other marks v l.var true false differs in
    let before = count_other trail marks v n (omega arith) (subst (All (λ (m : Literal). m.var ≢ v)) (take-take n (suc n) trail (omega arith)) (All-take (λ (m : Literal). m.var ≢ v) n (take (suc n) trail) others)) in
    subst (λ (k : ℕ). count_marked trail (set marks v true) k ≡ count_marked trail marks k) (sym next)
    (elim (either (is_marked marks l.var)) [
      | inl is ↦ omega (arith, before, count_by_more_yes (λ (m : Literal). is_marked marks m.var) trail n some_literal here is, count_by_more_yes (λ (m : Literal). is_marked (set marks v true) m.var) trail n some_literal here (same ∙ is))
      | inr isnt ↦ omega (arith, before, count_by_more_no (λ (m : Literal). is_marked marks m.var) trail n some_literal here isnt, count_by_more_no (λ (m : Literal). is_marked (set marks v true) m.var) trail n some_literal here (same ∙ isnt))
    ])

-- marking a variable marks one literal of a trail at most
count_set : (clauses : List (List Literal)) (trail : List Entry) (marks : List Bool) (v n : ℕ) → IsGrounded clauses trail → n ≤ length (literals trail) → count_marked (literals trail) (set marks v true) n ≤ count_marked (literals trail) marks n + 1
count_set clauses trail marks v zero grounded within = let none : count_marked (literals trail) (set marks v true) 0 ≡ 0 = refl in omega (arith, none)
count_set clauses trail marks v (suc n) grounded within =
    let lits = literals trail in
    let l = get_or lits n some_literal in
    let here : n < length lits = omega arith in
    let next : suc n ≡ n + 1 = omega arith in
    subst (λ (k : ℕ). count_marked lits (set marks v true) k ≤ count_marked lits marks k + 1) (sym next)
    (elim (same_or_not l.var v) [
      | inl is ↦
          let others : All (λ (m : Literal). m.var ≢ v) (take n lits) = subst (λ (w : ℕ). All (λ (m : Literal). m.var ≢ w) (take n lits)) is (no_literal (take n lits) l.var (free_at clauses trail n some_literal grounded here)) in
          omega (arith, count_other lits marks v n (omega arith) others, count_step lits (set marks v true) n here, count_up lits marks n here)
      | inr differs ↦
          let same : is_marked (set marks v true) l.var ≡ is_marked marks l.var = get_or-set_other marks v l.var true false differs in
          let before = count_set clauses trail marks v n grounded (omega arith) in
          elim (either (is_marked marks l.var)) [
            | inl is ↦ omega (arith, before, count_by_more_yes (λ (m : Literal). is_marked marks m.var) lits n some_literal here is, count_by_more_yes (λ (m : Literal). is_marked (set marks v true) m.var) lits n some_literal here (same ∙ is))
            | inr isnt ↦ omega (arith, before, count_by_more_no (λ (m : Literal). is_marked marks m.var) lits n some_literal here isnt, count_by_more_no (λ (m : Literal). is_marked (set marks v true) m.var) lits n some_literal here (same ∙ isnt))
          ]
    ])

-- so it is counted by one
pub counts_one : (clauses : List (List Literal)) (trail : List Entry) (old now : List Bool) (v before most : ℕ) → IsGrounded clauses trail → CountsMarks (literals trail) old now before most → CountsMarks (literals trail) old (set now v true) before (most + 1)
counts_one clauses trail old now v before most grounded counts upto within =
    omega (arith, counts upto within, count_set clauses trail now v upto grounded within)
