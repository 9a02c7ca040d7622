-- How a conflict is traced down a trail.
use Rattle.std.proofs.Common.{◌≡◌, ◌≢◌, ℕ, zero, suc, add-zero, ◌+◌, ◌<◌, ◌≤◌, Bool, true, false, ◌⊎◌, inl, inr, None, List, [], ◌∷◌, ◌++◌, length, get_or, take, ap, ◌∙◌, sym, subst, arith, reverse, All}
use Rattle.std.specs.Prelude.{Contains}
use Rattle.std.specs.List.{AllByRecursion}
use Rattle.std.proofs.lemmas.Bool.{false≢true}
use Rattle.std.proofs.lemmas.List.{take_more, take_all, reverse-append, length-take-le, get_or-take, get_or_default, take-take}
use Rattle.std.proofs.lemmas.List.Elements.{Contains-push_cases, Contains-push, Contains-append_left, Contains-get_or, All-contains, All-map, All-weaker, All-get_or, All-nil, All-push, All-cons, All-take}
use Rattle.cnf_core.specs.Literal.{Literal, negation, IsOrdered}
use Rattle.cnf_core.specs.Reading.{reading_succeeds}
use Rattle.cnf_core.specs.Steps.{IsAtEnd, HasTrueLiteral, HasTwoNotFalse}
use Rattle.cnf_core.proofs.Members.{either, none_in_nil, negation-negation, Contains-here, Contains-there, Contains-cases, test_from_Contains, All-from_contains}
use Rattle.cnf_core.proofs.Readings.{reading_ends, reading_goes_on}
use Rattle.cnf_core.proofs.Reading.{Settled, reading_fails}
use Rattle.sat_state.specs.Trail.{Gives, IsFalsified, trail_value}
use Rattle.sat_state.proofs.Literals.{not_true, not_false, no_literal, no_value}
use Rattle.std.proofs.lemmas.List.Sorted.{IsPermutation-reverse, IsPermutation-sym, Contains-permutation}
use Rattle.sat_search.specs.Analysis.{is_marked, IsNamedIn, MarksClause, clauses_of_numbers, StandsIn, IsTraced, KeepsMore, IsDecisionAt, HasLast, IsExplained, IsCut, IsUnmarkedBetween}

-- the clause of a number
abbrev at : List (List Literal) → ℕ → List Literal
at clauses n = get_or clauses n []

stands_in : (clauses : List (List Literal)) (n v : ℕ) → n < length clauses → IsNamedIn (at clauses n) v → StandsIn clauses v
stands_in clauses n v there named = record {
  clause = at clauses n;
  literal = named.literal;
  is_there = Contains-get_or clauses n [] there;
  in_clause = named.in_clause;
  names = named.names;
}

-- the variables that a clause marks stand in the clauses
marked_stand : (clauses : List (List Literal)) (old new : List Bool) (n : ℕ) → n < length clauses → ((v : ℕ) → is_marked old v ≡ true → StandsIn clauses v) → MarksClause old new (at clauses n) → (v : ℕ) → is_marked new v ≡ true → StandsIn clauses v
marked_stand clauses old new n there before marks v is = elim (marks.only v is) [
  | inl was ↦ before v was
  | inr named ↦ stands_in clauses n v there named
]

-- a falsified clause, of which all variables are marked, is the first hint
pub traced_conflict : (clauses : List (List Literal)) (trail : List Literal) (old new : List Bool) (n : ℕ) → n < length clauses → IsFalsified trail (at clauses n) → IsOrdered (at clauses n)
    → ((v : ℕ) → is_marked old v ≡ false) → MarksClause old new (at clauses n) → IsTraced clauses trail new [] (n ∷ []) (length trail)
traced_conflict clauses trail old new n there falsified ordered none marks = record {
  reading = λ trues kept_false marked_true. reading_ends trues (at clauses n) [] (λ l found.
      marked_true (negation l) (subst (λ (ls : List Literal). Contains ls (negation l)) (sym (take_all (length trail) trail (omega arith))) (All-contains (λ m. Contains trail (negation m)) (at clauses n) l falsified found))
      (marks.marked l found));
  marked = marked_stand clauses old new n there (λ v is. absurd (false≢true (sym (none v) ∙ is))) marks;
  kept_named = λ l found. absurd (none_in_nil l found);
  hints_there = All-cons (λ (h : ℕ). h < length clauses) n [] there (All-nil (λ (h : ℕ). h < length clauses));
  ordered = (ordered, tt);
}

-- what is among the first i + 1 is among the first i, or the one at i
pub front_cases : (trail : List Literal) (i : ℕ) (l m : Literal) → i < length trail → l ≡ get_or trail i l → Contains (take (i + 1) trail) m → Contains (take i trail) m ⊎ (l ≡ m)
front_cases trail i l m within is found =
    Contains-push_cases (take i trail) l m
    (subst (λ (ls : List Literal). Contains ls m) (take_more trail i l within ∙ ap (λ (x : Literal). take i trail ++ x ∷ []) (sym is)) found)

-- a literal that isn't marked is passed over
pub traced_skip : (clauses : List (List Literal)) (trail : List Literal) (marks : List Bool) (kept : List Literal) (hints : List ℕ) (i : ℕ) (l : Literal) → i < length trail → l ≡ get_or trail i l → is_marked marks l.var ≡ false
    → IsTraced clauses trail marks kept hints (i + 1) → IsTraced clauses trail marks kept hints i
traced_skip clauses trail marks kept hints i l within is unmarked traced = record {
  marked = traced.marked;
  kept_named = traced.kept_named;
  hints_there = traced.hints_there;
  ordered = traced.ordered;
  reading = λ trues kept_false marked_true. traced.reading trues kept_false (λ m found marked.
      elim (front_cases trail i l m within is found) [
        | inl before ↦ marked_true m before marked
        | inr here ↦ absurd (false≢true (sym unmarked ∙ ap (λ (x : Literal). is_marked marks x.var) here ∙ marked))
      ]);
}

-- the negation of a marked literal is kept
pub traced_keep : (clauses : List (List Literal)) (trail : List Literal) (marks : List Bool) (kept : List Literal) (hints : List ℕ) (i : ℕ) (l : Literal) → i < length trail → l ≡ get_or trail i l → is_marked marks l.var ≡ true
    → IsTraced clauses trail marks kept hints (i + 1) → IsTraced clauses trail marks (kept ++ negation l ∷ []) hints i
traced_keep clauses trail marks kept hints i l within is marked traced = record {
  marked = traced.marked;
  hints_there = traced.hints_there;
  ordered = traced.ordered;
  reading = λ trues kept_false marked_true. traced.reading trues
      (λ m found. kept_false m (Contains-append_left kept (negation l ∷ []) m found))
      (λ m found m_marked.
      elim (front_cases trail i l m within is found) [
        | inl before ↦ marked_true m before m_marked
        | inr here ↦ subst (Contains trues) (negation-negation l ∙ here) (kept_false (negation l) (Contains-push kept (negation l)))
      ]);
  kept_named = λ m found. elim (Contains-push_cases kept (negation l) m found) [
    | inl before ↦ traced.kept_named m before
    | inr here ↦ subst (λ (x : Literal). StandsIn clauses x.var) here (traced.marked l.var marked)
  ];
}

hints_back : (clauses : List (List Literal)) (hints : List ℕ) (n : ℕ) → clauses_of_numbers clauses (reverse (hints ++ n ∷ [])) ≡ at clauses n ∷ clauses_of_numbers clauses (reverse hints)
hints_back clauses hints n = ap (clauses_of_numbers clauses) (reverse-append hints (n ∷ []))

-- a literal whose reason's other literals are false and marked is resolved
pub traced_resolve : (clauses : List (List Literal)) (trail : List Literal) (old new : List Bool) (kept : List Literal) (hints : List ℕ) (i n : ℕ) (l : Literal) → i < length trail → l ≡ get_or trail i l
    → n < length clauses → Gives (take i trail) (at clauses n) l → IsOrdered (at clauses n) → MarksClause old new (at clauses n)
    → IsTraced clauses trail old kept hints (i + 1) → IsTraced clauses trail new kept (hints ++ n ∷ []) i
traced_resolve clauses trail old new kept hints i n l within is there gives ordered marks traced = record {
  reading = λ trues kept_false marked_true.
      subst (λ (cs : List (List Literal)). reading_succeeds trues cs ≡ true) (sym (hints_back clauses hints n))
      (reading_goes_on trues (at clauses n) (clauses_of_numbers clauses (reverse hints)) l ordered traced.ordered
      (λ m found differs. marked_true (negation m) (gives.others_false m found differs) (marks.marked m found))
      (traced.reading (l ∷ trues) (λ m found. Contains-there l trues (negation m) (kept_false m found))
      (λ m found marked. elim (front_cases trail i l m within is found) [
        | inl before ↦ Contains-there l trues m (marked_true m before (marks.keeps m.var marked))
        | inr here ↦ subst (Contains (l ∷ trues)) here (Contains-here l trues)
      ])));
  marked = marked_stand clauses old new n there traced.marked marks;
  kept_named = traced.kept_named;
  hints_there = All-push (λ (h : ℕ). h < length clauses) hints n traced.hints_there there;
  ordered = subst (AllByRecursion IsOrdered) (sym (hints_back clauses hints n)) (ordered, traced.ordered);
}

settled_at_end : (trues clause : List Literal) → HasTrueLiteral trues clause ⊎ HasTwoNotFalse trues clause → Settled (Contains trues) clause
settled_at_end trues clause (inl found) = inl found
settled_at_end trues clause (inr two) = inr (record {
  one = two.one;
  other = two.other;
  two = two.two;
  one_in = two.one_in;
  other_in = two.other_in;
  one_open = two.one_not_false;
  other_open = two.other_not_false;
})

settled_numbers : (P : List Literal → Type 0) (clauses : List (List Literal)) (numbers : List ℕ) → All (λ h. h < length clauses) numbers → All P clauses → All P (clauses_of_numbers clauses numbers)
settled_numbers P clauses numbers there all =
    All-map P (at clauses) numbers (All-weaker (λ (h : ℕ). h < length clauses) (λ (h : ℕ). P (at clauses h)) (λ h below. All-get_or P clauses h [] below all) numbers there)

there_back : (clauses : List (List Literal)) (hints : List ℕ) → All (λ h. h < length clauses) hints → All (λ h. h < length clauses) (reverse hints)
there_back clauses hints there = All-from_contains (λ (h : ℕ). h < length clauses) (reverse hints) (λ h found.
    All-contains (λ (x : ℕ). x < length clauses) hints h there (Contains-permutation (reverse hints) hints h (IsPermutation-sym hints (reverse hints) (IsPermutation-reverse hints)) found))

-- where propagation was at its end before a place, its literal is marked once all that comes after it was traced
pub decision_marked : (clauses : List (List Literal)) (trail : List Literal) (marks : List Bool) (hints : List ℕ) (i : ℕ) (l : Literal) → i < length trail → l ≡ get_or trail i l → IsAtEnd (take i trail) clauses
    → IsTraced clauses trail marks [] hints (i + 1) → is_marked marks l.var ≡ true
decision_marked clauses trail marks hints i l within is at_end traced =
    elim (either (is_marked marks l.var)) [
      | inl marked ↦ marked
      | inr unmarked ↦
          let skipped = traced_skip clauses trail marks [] hints i l within is unmarked traced in
          let T = take i trail in
          absurd (reading_fails (Contains T) at_end.consistent (clauses_of_numbers clauses (reverse hints)) T
          (settled_numbers (Settled (Contains T)) clauses (reverse hints) (there_back clauses hints traced.hints_there)
          (All-weaker (λ c. HasTrueLiteral T c ⊎ HasTwoNotFalse T c) (Settled (Contains T)) (settled_at_end T) clauses at_end.settled))
          (λ m found. found)
          (skipped.reading T (λ m found. absurd (none_in_nil m found)) (λ m found marked. found)))
    ]

-- keeping one more negation of these literals
pub keeps_push : (trues old new : List Literal) (l : Literal) → KeepsMore trues old new → Contains trues l → KeepsMore trues old (new ++ negation l ∷ [])
keeps_push trues old new l keeps found = record {
  stays = λ m was. Contains-append_left new (negation l ∷ []) m (keeps.stays m was);
  only = λ m now. elim (Contains-push_cases new (negation l) m now) [
    | inl before ↦ keeps.only m before
    | inr here ↦ inr (subst (λ (x : Literal). Contains trues (negation x)) here (subst (Contains trues) (sym (negation-negation l)) found))
  ];
}

pub keeps_same : (trues old : List Literal) → KeepsMore trues old old
keeps_same trues old = record { stays = λ m was. was; only = λ m now. inl now }

-- a place is within a front that goes beyond it
pub in_front : (trail : List Literal) (from i : ℕ) (l : Literal) → i < from → from ≤ length trail → l ≡ get_or trail i l → Contains (take from trail) l
in_front trail from i l below within is = (i, omega (arith, length-take-le from trail within), get_or-take from trail i l below ∙ sym is)

in_one : (x y : Literal) → Contains (x ∷ []) y → x ≡ y
in_one x y found = elim (Contains-cases x [] y found) [ inl is ↦ is | inr none ↦ absurd (none_in_nil y none) ]

-- the negation of the literal at a cut is the last of what is kept from it on
pub last_kept : (clauses : List (List Literal)) (trail : List Literal) (marks : List Bool) (place decision : ℕ) (l : Literal) (first lits : List Literal) → IsCut clauses trail marks place decision → l ≡ get_or trail place l → first ≡ negation l ∷ [] → KeepsMore (take decision trail) first lits → HasLast clauses lits
last_kept clauses trail marks place decision l first lits cut is one keeps =
    let free : trail_value (take decision trail) l.var ≡ None = ap (λ (x : Literal). trail_value (take decision trail) x.var) is ∙ cut.free l in
    record {
      trues = take decision trail;
      last = negation l;
      is_last = record {
        in_clause = keeps.stays (negation l) (subst (λ (ls : List Literal). Contains ls (negation l)) (sym one) (Contains-here (negation l) []));
        others = λ m found differs. elim (keeps.only m found) [
          | inl here ↦ absurd (differs (sym (in_one (negation l) m (subst (λ (ls : List Literal). Contains ls m) one here))))
          | inr below ↦ below
        ];
        not_true = λ found. false≢true (sym (not_false (take decision trail) l free) ∙ test_from_Contains (take decision trail) (negation l) found);
        not_false = λ found. false≢true (sym (not_true (take decision trail) l free) ∙ test_from_Contains (take decision trail) l (subst (Contains (take decision trail)) (negation-negation l) found));
      };
      at_end = cut.at_end;
    }

-- what isn't marked between two places is passed over
pub traced_down : (clauses : List (List Literal)) (trail : List Literal) (marks : List Bool) (kept : List Literal) (hints : List ℕ) (low more : ℕ) → low + more ≤ length trail → IsUnmarkedBetween trail marks low (low + more)
    → IsTraced clauses trail marks kept hints (low + more) → IsTraced clauses trail marks kept hints low
traced_down clauses trail marks kept hints low zero within unmarked traced = subst (IsTraced clauses trail marks kept hints) (add-zero low) traced
traced_down clauses trail marks kept hints low (suc more) within unmarked traced =
    let d : Literal = record { var = 0; positive = true } in
    let l = get_or trail (low + more) d in
    let below : low + more < length trail = omega arith in
    let next : low + suc more ≡ (low + more) + 1 = omega arith in
    traced_down clauses trail marks kept hints low more (omega arith) (λ k e from upto. unmarked k e from (omega arith))
    (traced_skip clauses trail marks kept hints (low + more) l below (get_or_default trail (low + more) d l below)
    (unmarked (low + more) d (omega arith) (omega arith))
    (subst (IsTraced clauses trail marks kept hints) next traced))

-- a decision is a cut by itself
pub decision_cut : (clauses : List (List Literal)) (trail : List Literal) (marks : List Bool) (hints : List ℕ) (i : ℕ) (l : Literal) → l ≡ get_or trail i l → IsDecisionAt clauses trail i → IsTraced clauses trail marks [] hints (i + 1) → IsCut clauses trail marks i i
decision_cut clauses trail marks hints i l is decision traced = record {
  order = omega arith;
  there = decision.there;
  at_end = decision.at_end;
  free = decision.free;
  marked = λ d. ap (λ (x : Literal). is_marked marks x.var) (get_or_default trail i d l decision.there ∙ sym is)
      ∙ decision_marked clauses trail marks hints i l decision.there is decision.at_end traced;
  alone = λ k d low high. absurd (omega arith);
}

-- a variable without a value before a place has none before a lower one
pub free_below : (trail : List Literal) (low high v : ℕ) → low ≤ high → trail_value (take high trail) v ≡ None → trail_value (take low trail) v ≡ None
free_below trail low high v order free =
    no_value (take low trail) v (subst (All (λ (l : Literal). l.var ≢ v)) (take-take low high trail order) (All-take (λ (l : Literal). l.var ≢ v) low (take high trail) (no_literal (take high trail) v free)))

-- at the start of the trail nothing is left to be true
pub explained : (clauses : List (List Literal)) (trail : List Literal) (marks : List Bool) (kept : List Literal) (hints : List ℕ) → IsTraced clauses trail marks kept hints 0 → (kept ≡ []) ⊎ HasLast clauses kept → IsExplained clauses kept (reverse hints)
explained clauses trail marks kept hints traced last = record {
  shown = λ trues kept_false. traced.reading trues kept_false (λ m found marked. absurd (none_in_nil m found));
  hints_there = there_back clauses hints traced.hints_there;
  named = All-from_contains (λ l. StandsIn clauses l.var) kept traced.kept_named;
  last = last;
}
