-- Marking terms that have to be true and terms that need variables, from the last term to the first.
use Rattle.std.specs.Prelude.{◌≡◌, ℕ, zero, suc, ◌+◌, ◌≤◌, ◌<◌, ◌⊎◌, Bool, true, false, List, [], ◌∷◌, ◌++◌, length, map, Some, option_map, option_to_list, replicate, slice_get, slice_index_or, slice_set, nat_lt, refl}
use Rattle.std.proofs.Common.{ap, arith, get_or, inl, inr, subst, sym, take, ◌∙◌, ℤ, pos}
use Rattle.std.specs.List.{All, Contains}
use Rattle.std.proofs.lemmas.Bool.{false≢true}
use Rattle.std.proofs.lemmas.List.{get_or-set_same, length-set, length-replicate, map_more, take_more}
use Rattle.std.proofs.lemmas.List.Elements.{All-cons, All-contains, All-head, All-nil, All-tail, All-weaker, Contains-append_left, Contains-append_right}
use Rattle.ep_base.proofs.Small.{no_some, some_is}
use Rattle.ep_ground.specs.Grounds.{GroundState, IsTermReached, IsWellFormed, LeadsTo, itself, by_part, named_terms}
use Rattle.ep_ground.specs.Nodes.{GroundNode, parts_of}
use Rattle.ep_flatten.specs.Building.{AreMarks, IsForced, IsMarked, goal_terms}
use Rattle.ep_flatten.specs.Forms.{HaveForms, IsFormOf, TermForm, form_at, form_parts}
use Rattle.ep_flatten.specs.Marking.{AreMarksFrom, marked}
use Rattle.ep_flatten.proofs.FormLaws.{form_there}
use Rattle.ep_flatten.specs.Tops.{asserts_of, needs_of}
use Rattle.ep_flatten.proofs.Truths.{asserts_in, forced_part, needs_before, needs_in}
use Rattle.ep_flatten.proofs.Unrolled.{all_left, all_right}
use Rattle.ep_ground.specs.Terms.{term_value}

kept_by_one : (ms : List Bool) (t u : ℕ) → IsMarked ms t → IsMarked (slice_set ms u true) t
kept_by_one [] t u e = e
kept_by_one (m ∷ ms) zero zero e = refl
kept_by_one (m ∷ ms) zero (suc u) e = e
kept_by_one (m ∷ ms) (suc t) zero e = e
kept_by_one (m ∷ ms) (suc t) (suc u) e = kept_by_one ms t u e

only_by_one : (ms : List Bool) (t u : ℕ) → IsMarked (slice_set ms u true) t → IsMarked ms t ⊎ (u ≡ t)
only_by_one [] t u e = inl e
only_by_one (m ∷ ms) zero zero e = inr refl
only_by_one (m ∷ ms) zero (suc u) e = inl e
only_by_one (m ∷ ms) (suc t) zero e = inl e
only_by_one (m ∷ ms) (suc t) (suc u) e =
    elim (only_by_one ms t u e) as (λ _. IsMarked (m ∷ ms) (suc t) ⊎ (suc u ≡ suc t)) [ inl h ↦ inl h | inr h ↦ inr (ap suc h) ]

pub marks_kept : (ms : List Bool) (ts : List ℕ) (t : ℕ) → IsMarked ms t → IsMarked (marked ms ts) t
unfolding marked
marks_kept ms [] t e = e
marks_kept ms (u ∷ ts) t e = marks_kept (slice_set ms u true) ts t (kept_by_one ms t u e)

marks_long : (ms : List Bool) (ts : List ℕ) → length (marked ms ts) ≡ length ms
unfolding marked
marks_long ms [] = refl
marks_long ms (u ∷ ts) = marks_long (slice_set ms u true) ts ∙ length-set ms u true

marks_have : (ms : List Bool) (ts : List ℕ) → All (λ t. t < length ms) ts → All (IsMarked (marked ms ts)) ts
unfolding marked
marks_have ms [] h = All-nil (IsMarked ms)
marks_have ms (u ∷ ts) h =
    All-cons (IsMarked (marked (slice_set ms u true) ts)) u ts
    (marks_kept (slice_set ms u true) ts u (get_or-set_same ms u true false (All-head (λ t. t < length ms) u ts h)))
    (marks_have (slice_set ms u true) ts (subst (λ n. All (λ t. t < n) ts) (sym (length-set ms u true)) (All-tail (λ t. t < length ms) u ts h)))

marks_only : (ms : List Bool) (ts : List ℕ) (t : ℕ) → IsMarked (marked ms ts) t → IsMarked ms t ⊎ Contains ts t
unfolding marked
marks_only ms [] t e = inl e
marks_only ms (u ∷ ts) t e =
    elim (marks_only (slice_set ms u true) ts t e) as (λ _. IsMarked ms t ⊎ Contains (u ∷ ts) t) [
      | inl h ↦ elim (only_by_one ms t u h) as (λ _. IsMarked ms t ⊎ Contains (u ∷ ts) t) [ inl k ↦ inl k | inr k ↦ inr (0, omega arith, k) ]
      | inr h ↦ inr (Contains-append_right (u ∷ []) ts t h)
    ]

pub marked_more : (ms : List Bool) (ts : List ℕ) (t : ℕ) → marked ms (ts ++ t ∷ []) ≡ slice_set (marked ms ts) t true
unfolding marked
marked_more ms [] t = refl
marked_more ms (u ∷ ts) t = marked_more (slice_set ms u true) ts t

pub marked_none : (ms : List Bool) → marked ms [] ≡ ms
unfolding marked
marked_none ms = refl

pub marked_both : (ms : List Bool) (ts us : List ℕ) → marked ms (ts ++ us) ≡ marked (marked ms ts) us
unfolding marked
marked_both ms [] us = refl
marked_both ms (t ∷ ts) us = marked_both (slice_set ms t true) ts us

none_marked : (n t : ℕ) → slice_index_or (replicate n false) t false ≡ false
none_marked zero t = refl
none_marked (suc n) zero = refl
none_marked (suc n) (suc t) = none_marked n t

leads_on : (nodes : List GroundNode) (a b c : ℕ) → LeadsTo nodes a b → LeadsTo nodes b c → LeadsTo nodes a c
leads_on nodes a b c (itself _) k = k
leads_on nodes a b c (by_part _ part _ node e found rest) k = by_part a part c node e found (leads_on nodes part b c rest k)

past_end : (t : ℕ) (nodes : List GroundNode) (node : GroundNode) → slice_get nodes t ≡ Some node → t < length nodes
past_end t [] node e = no_some e
past_end zero (n ∷ nodes) node e = omega arith
past_end (suc t) (n ∷ nodes) node e = let rest = past_end t nodes node e in omega (arith, rest)

-- the terms that the ground names, marked alone
marks_named : (g : GroundState) (forms : List TermForm) (truths ms : List Bool) → IsWellFormed g → truths ≡ marked (replicate (length g.nodes) false) g.clauses → ms ≡ marked (replicate (length g.nodes) false) (goal_terms g)
    → AreMarksFrom g forms (length g.nodes) (length g.nodes) truths ms
unfolding named_terms goal_terms
marks_named g forms truths ms h d e =
    let none = replicate (length g.nodes) false in
    let goals = option_to_list (option_map (λ goal. goal.1) g.objective) in
    let long : length none ≡ length g.nodes = length-replicate (length g.nodes) false in
    let inside : All (λ t. t < length none) (g.clauses ++ goals) = subst (λ n. All (λ t. t < n) (g.clauses ++ goals)) (sym long) h.terms in
    let asserted_there : (t : ℕ) → IsMarked (marked none g.clauses) t → Contains g.clauses t =
    λ t m. elim (marks_only none g.clauses t m) as (λ _. Contains g.clauses t) [ inl k ↦ absurd (false≢true (sym (none_marked (length g.nodes) t) ∙ k)) | inr k ↦ k ] in
    let marked_there : (t : ℕ) → IsMarked (marked none goals) t → Contains goals t =
    λ t m. elim (marks_only none goals t m) as (λ _. Contains goals t) [ inl k ↦ absurd (false≢true (sym (none_marked (length g.nodes) t) ∙ k)) | inr k ↦ k ] in
    subst (λ xs. AreMarksFrom g forms (length g.nodes) (length g.nodes) xs ms) (sym d)
    (subst (λ xs. AreMarksFrom g forms (length g.nodes) (length g.nodes) (marked none g.clauses) xs) (sym e)
    (record {
      asserted_long = marks_long none g.clauses ∙ long;
      long = marks_long none goals ∙ long;
      clauses = marks_have none g.clauses (all_left (λ t. t < length none) g.clauses goals inside);
      goal = marks_have none goals (all_right (λ t. t < length none) g.clauses goals inside);
      wholes = λ t node l got m. let below = past_end t g.nodes node got in absurd (omega (arith, l, below));
      tops = λ t node l got m. let below = past_end t g.nodes node got in absurd (omega (arith, l, below));
      closed = λ t node l got m. let below = past_end t g.nodes node got in absurd (omega (arith, l, below));
      forced = λ t m xs true_ones. All-contains (λ u. term_value g.nodes xs u ≡ Some (pos 1)) g.clauses t true_ones (asserted_there t m);
      above = λ t m. record { from = t; named = Contains-append_left g.clauses goals t (asserted_there t m); leads = itself t };
      reached = λ t m. record { from = t; named = Contains-append_right g.clauses goals t (marked_there t m); leads = itself t };
    }))

above_or_here : {P : Type 0} (t u : ℕ) → t ≤ u → (t + 1 ≤ u → P) → (t ≡ u → P) → P
above_or_here {P} t u l f k = by (nat_lt t u) refl
  where
    by : (b : Bool) → nat_lt t u ≡ b → P
    by true e = f (grind (arith, e))
    by false e = k (grind (arith, e, l))

-- two nodes of one term are one
same_node : (g : GroundState) (t u : ℕ) (node other : GroundNode) → t ≡ u → slice_get g.nodes t ≡ Some node → slice_get g.nodes u ≡ Some other → node ≡ other
same_node g t u node other e got found = some_is (sym got ∙ ap (slice_get g.nodes) e ∙ found)

-- the ground leads to a part of what it leads to
reached_part : (g : GroundState) (t u : ℕ) (node : GroundNode) → IsTermReached g t → slice_get g.nodes t ≡ Some node → Contains (parts_of node) u → IsTermReached g u
reached_part g t u node r got part = record { from = r.from; named = r.named; leads = leads_on g.nodes r.from t u r.leads (by_part t u u node got part (itself u)) }

-- the ground leads to what such a term leads to
reached_on : (g : GroundState) (t u : ℕ) → IsTermReached g t → LeadsTo g.nodes t u → IsTermReached g u
reached_on g t u r leads = record { from = r.from; named = r.named; leads = leads_on g.nodes r.from t u r.leads leads }

-- what holds of each element
all_from : (P : ℕ → Type 0) (ts : List ℕ) → ((t : ℕ) → Contains ts t → P t) → All P ts
all_from P [] f = All-nil P
all_from P (t ∷ ts) f = All-cons P t ts (f t (0, omega arith, refl)) (all_from P ts (λ u found. f u (Contains-append_right (t ∷ []) ts u found)))

-- a term that needn't be true
pub tops_skip : (g : GroundState) (forms : List TermForm) (t : ℕ) (truths ms : List Bool) → AreMarksFrom g forms (t + 1) (t + 1) truths ms → slice_index_or truths t false ≡ false → AreMarksFrom g forms t (t + 1) truths ms
tops_skip g forms t truths ms h none = record {
  asserted_long = h.asserted_long;
  long = h.long;
  clauses = h.clauses;
  goal = h.goal;
  wholes = λ u node l got m. above_or_here t u l (λ k. h.wholes u node k got m) (λ k. absurd (false≢true (sym none ∙ subst (IsMarked truths) (sym k) m)));
  tops = λ u node l got m. above_or_here t u l (λ k. h.tops u node k got m) (λ k. absurd (false≢true (sym none ∙ subst (IsMarked truths) (sym k) m)));
  closed = h.closed;
  forced = h.forced;
  above = h.above;
  reached = h.reached;
}

-- what a term that has to be true needs
pub tops_step : (g : GroundState) (forms : List TermForm) (t : ℕ) (node : GroundNode) (truths ms : List Bool) → AreMarksFrom g forms (t + 1) (t + 1) truths ms → HaveForms g.nodes (length g.nodes) forms → IsMarked truths t → slice_get g.nodes t ≡ Some node → All (λ p. p < t) (parts_of node)
    → AreMarksFrom g forms t (t + 1) (marked truths (asserts_of node)) (marked ms (needs_of t node (form_at forms t)))
tops_step g forms t node truths ms h have m got before =
    let form = form_at forms t in
    let needs = needs_of t node form in
    let below : t < length g.nodes = past_end t g.nodes node got in
    let is : IsFormOf g.nodes t node form = form_there g.nodes forms t node have got below in
    let part_before : (u : ℕ) → Contains (asserts_of node) u → u < t = λ u found. All-contains (λ p. p < t) (parts_of node) u before (asserts_in node u found) in
    let need_before : (u : ℕ) → Contains needs u → u < t + 1 = λ u found. All-contains (λ p. p < t + 1) needs u (needs_before t node form is.before) found in
    let asserted_inside : All (λ p. p < length truths) (asserts_of node) = all_from (λ p. p < length truths) (asserts_of node) (λ u found. let l = part_before u found in omega (arith, l, below, h.asserted_long)) in
    let inside : All (λ p. p < length ms) needs = all_from (λ p. p < length ms) needs (λ u found. let l = need_before u found in omega (arith, l, below, h.long)) in
    let keeps : (ts : List ℕ) → All (IsMarked truths) ts → All (IsMarked (marked truths (asserts_of node))) ts = λ ts. All-weaker (IsMarked truths) (IsMarked (marked truths (asserts_of node))) (marks_kept truths (asserts_of node)) ts in
    let stays : (ts : List ℕ) → All (IsMarked ms) ts → All (IsMarked (marked ms needs)) ts = λ ts. All-weaker (IsMarked ms) (IsMarked (marked ms needs)) (marks_kept ms needs) ts in
    let above : IsTermReached g t = h.above t m in
    record {
      asserted_long = marks_long truths (asserts_of node) ∙ h.asserted_long;
      long = marks_long ms needs ∙ h.long;
      clauses = keeps g.clauses h.clauses;
      goal = stays (goal_terms g) h.goal;
      wholes = λ u other l found n. above_or_here t u l
          (λ k. elim (marks_only truths (asserts_of node) u n) as (λ _. All (IsMarked (marked truths (asserts_of node))) (asserts_of other)) [
            | inl was ↦ keeps (asserts_of other) (h.wholes u other k found was)
            | inr part ↦ let less = part_before u part in absurd (omega (arith, less, k))
          ])
          (λ k. subst (λ o. All (IsMarked (marked truths (asserts_of node))) (asserts_of o)) (same_node g t u node other k got found) (marks_have truths (asserts_of node) asserted_inside));
      tops = λ u other l found n. above_or_here t u l
          (λ k. elim (marks_only truths (asserts_of node) u n) as (λ _. All (IsMarked (marked ms needs)) (needs_of u other (form_at forms u))) [
            | inl was ↦ stays (needs_of u other (form_at forms u)) (h.tops u other k found was)
            | inr part ↦ let less = part_before u part in absurd (omega (arith, less, k))
          ])
          (λ k. subst (λ v. All (IsMarked (marked ms needs)) (needs_of v other (form_at forms v))) k
          (subst (λ o. All (IsMarked (marked ms needs)) (needs_of t o form)) (same_node g t u node other k got found) (marks_have ms needs inside)));
      closed = λ u other l found n. elim (marks_only ms needs u n) as (λ _. All (IsMarked (marked ms needs)) (form_parts other (form_at forms u))) [
        | inl was ↦ stays (form_parts other (form_at forms u)) (h.closed u other l found was)
        | inr part ↦ let less = need_before u part in absurd (omega (arith, less, l))
      ];
      forced = λ u n. elim (marks_only truths (asserts_of node) u n) as (λ _. IsForced g u) [
        | inl was ↦ h.forced u was
        | inr part ↦ forced_part g t u node (h.forced t m) got before part
      ];
      above = λ u n. elim (marks_only truths (asserts_of node) u n) as (λ _. IsTermReached g u) [ inl was ↦ h.above u was | inr part ↦ reached_part g t u node above got (asserts_in node u part) ];
      reached = λ u n. elim (marks_only ms needs u n) as (λ _. IsTermReached g u) [
        | inl was ↦ h.reached u was
        | inr part ↦ elim (needs_in t node form u part) as (λ _. IsTermReached g u) [ inl same ↦ subst (IsTermReached g) same above | inr found ↦ reached_on g t u above (All-contains (LeadsTo g.nodes t) (form_parts node form) u is.leads found) ]
      ];
    }

-- a term that isn't marked
pub marks_skip : (g : GroundState) (forms : List TermForm) (t : ℕ) (truths ms : List Bool) → AreMarksFrom g forms t (t + 1) truths ms → slice_index_or ms t false ≡ false → AreMarksFrom g forms t t truths ms
marks_skip g forms t truths ms h none = record {
  asserted_long = h.asserted_long;
  long = h.long;
  clauses = h.clauses;
  goal = h.goal;
  wholes = h.wholes;
  tops = h.tops;
  closed = λ u node l got m. above_or_here t u l (λ k. h.closed u node k got m) (λ k. absurd (false≢true (sym none ∙ subst (IsMarked ms) (sym k) m)));
  forced = h.forced;
  above = h.above;
  reached = h.reached;
}

-- the parts of a marked term
pub marks_step : (g : GroundState) (forms : List TermForm) (t : ℕ) (node : GroundNode) (truths ms : List Bool) → AreMarksFrom g forms t (t + 1) truths ms → HaveForms g.nodes (length g.nodes) forms → IsMarked ms t → slice_get g.nodes t ≡ Some node
    → AreMarksFrom g forms t t truths (marked ms (form_parts node (form_at forms t)))
marks_step g forms t node truths ms h have m got =
    let form = form_at forms t in
    let below : t < length g.nodes = past_end t g.nodes node got in
    let is : IsFormOf g.nodes t node form = form_there g.nodes forms t node have got below in
    let inside : All (λ p. p < length ms) (form_parts node form) = All-weaker (λ p. p < t) (λ p. p < length ms) (λ p l. omega (arith, l, below, h.long)) (form_parts node form) is.before in
    let keeps : (ts : List ℕ) → All (IsMarked ms) ts → All (IsMarked (marked ms (form_parts node form))) ts =
    λ ts. All-weaker (IsMarked ms) (IsMarked (marked ms (form_parts node form))) (marks_kept ms (form_parts node form)) ts in
    record {
      asserted_long = h.asserted_long;
      long = marks_long ms (form_parts node form) ∙ h.long;
      clauses = h.clauses;
      goal = keeps (goal_terms g) h.goal;
      wholes = h.wholes;
      tops = λ u other l found n. keeps (needs_of u other (form_at forms u)) (h.tops u other l found n);
      closed = λ u other l found n. above_or_here t u l
          (λ k. elim (marks_only ms (form_parts node form) u n) as (λ _. All (IsMarked (marked ms (form_parts node form))) (form_parts other (form_at forms u))) [
            | inl was ↦ keeps (form_parts other (form_at forms u)) (h.closed u other k found was)
            | inr part ↦ let less : u < t = All-contains (λ p. p < t) (form_parts node form) u is.before part in absurd (omega (arith, less, k))
          ])
          (λ k. subst (λ v. All (IsMarked (marked ms (form_parts node form))) (form_parts other (form_at forms v))) k
          (subst (λ o. All (IsMarked (marked ms (form_parts node form))) (form_parts o form)) (same_node g t u node other k got found) (marks_have ms (form_parts node form) inside)));
      forced = h.forced;
      above = h.above;
      reached = λ u n. elim (marks_only ms (form_parts node form) u n) as (λ _. IsTermReached g u) [ inl was ↦ h.reached u was | inr part ↦ reached_on g t u (h.reached t m) (All-contains (LeadsTo g.nodes t) (form_parts node form) u is.leads part) ];
    }

pub marks_done : (g : GroundState) (forms : List TermForm) (truths ms : List Bool) → AreMarksFrom g forms 0 0 truths ms → AreMarks g forms truths ms
marks_done g forms truths ms h = record {
  clauses = h.clauses;
  goal = h.goal;
  wholes = λ t node got m. h.wholes t node (omega arith) got m;
  tops = λ t node got m. h.tops t node (omega arith) got m;
  closed = λ t node got m. h.closed t node (omega arith) got m;
  forced = h.forced;
  above = h.above;
  reached = h.reached;
}

pub marked_step : (start before after : List Bool) (ts : List ℕ) (i r : ℕ) → i < length ts → r ≡ get_or ts i r → before ≡ marked start (take i ts) → after ≡ slice_set before r true → after ≡ marked start (take (i + 1) ts)
marked_step start before after ts i r l is was now =
    now ∙ ap (λ ms. slice_set ms r true) was ∙ sym (marked_more start (take i ts) r) ∙ ap (λ u. marked start (take i ts ++ u ∷ [])) is ∙ ap (marked start) (sym (take_more ts i r l))

pub weighed_step : (start before after : List Bool) (ps : List (ℤ × ℕ)) (i : ℕ) (p : ℤ × ℕ) → i < length ps → p ≡ get_or ps i p → before ≡ marked start (map (λ q. q.1) (take i ps)) → after ≡ slice_set before p.1 true
    → after ≡ marked start (map (λ q. q.1) (take (i + 1) ps))
weighed_step start before after ps i p l is was now =
    now ∙ ap (λ ms. slice_set ms p.1 true) was ∙ sym (marked_more start (map (λ q. q.1) (take i ps)) p.1)
    ∙ ap (λ (q : ℤ × ℕ). marked start (map (λ q. q.1) (take i ps) ++ q.1 ∷ [])) is ∙ ap (marked start) (sym (map_more {X = ℤ × ℕ} {Y = ℕ} (λ q. q.1) ps i p l))

pub named_marked : (g : GroundState) (forms : List TermForm) (m n : ℕ) (start first truths ms : List Bool) (cl : List ℕ) → start ≡ replicate m false → m ≡ length g.nodes → first ≡ replicate n false → n ≡ length g.nodes → cl ≡ g.clauses
    → truths ≡ marked start cl → ms ≡ marked first (option_to_list (option_map (λ goal. goal.1) g.objective)) → IsWellFormed g → AreMarksFrom g forms (length g.nodes) (length g.nodes) truths ms
unfolding goal_terms
named_marked g forms m n start first truths ms cl a b c d e f k h =
    marks_named g forms truths ms h
    (f ∙ ap (marked start) e ∙ ap (λ xs. marked xs g.clauses) (a ∙ ap (λ j. replicate j false) b))
    (k ∙ ap (λ xs. marked xs (option_to_list (option_map (λ goal. goal.1) g.objective))) (c ∙ ap (λ j. replicate j false) d))

pub marked_there : {b : Bool} (items slice : List Bool) (t : ℕ) → slice ≡ items → slice_index_or slice t false ≡ b → slice_index_or items t false ≡ b
marked_there {b} items slice t is e = subst (λ ms. slice_index_or ms t false ≡ b) is e
