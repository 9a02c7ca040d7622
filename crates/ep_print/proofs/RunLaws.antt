-- Runs of numbers, number by number.
use Rattle.std.proofs.Common.{◌≡◌, ℕ, ◌+◌, ◌<◌, ◌≤◌, ◌-◌, length, map, take, drop, get_or, arith, Bool, true, false, cond, List, [], ◌∷◌, ℤ, pos, ◌+ℤ◌, refl, sym, ap, ◌∙◌}
use Rattle.std.specs.Ordering.{int_eq}
use Rattle.std.proofs.lemmas.List.{drop_all, drop_more, take_rest}
use Rattle.ep_print.specs.Values.{Stretch, run_text, runs_of, stretch_from}

-- the first stretch begins at a number
unfoldable pub begun_by : ℤ → List Stretch → List Stretch
begun_by n [] = []
begun_by n (s ∷ others) = record { first = n; last = s.last } ∷ others

-- a stretch of one number before others, or one with the first of them
abbrev either : Bool → ℤ → Stretch → List Stretch → List Stretch
either b n s others = cond b (record { first = n; last = s.last } ∷ others) (record { first = n; last = n } ∷ s ∷ others)

begins_either : (b : Bool) (n : ℤ) (s : Stretch) (others : List Stretch) → begun_by n (either b n s others) ≡ either b n s others
unfolding begun_by
begins_either true n s others = refl
begins_either false n s others = refl

begins_all : (n : ℤ) (ss : List Stretch) → begun_by n (stretch_from n ss) ≡ stretch_from n ss
unfolding begun_by stretch_from
begins_all n [] = refl
begins_all n (s ∷ ss) = begins_either (int_eq (n +ℤ pos 1) s.first) n s ss

-- a number begins its own run
pub begins : (n : ℤ) (ns : List ℤ) → begun_by n (stretch_from n (runs_of ns)) ≡ runs_of (n ∷ ns)
unfolding runs_of
begins n ns = begins_all n (runs_of ns)

goes_on_either : (f last m : ℤ) (b : Bool) (s : Stretch) (others : List Stretch) → int_eq (last +ℤ pos 1) m ≡ true → begun_by f (stretch_from last (either b m s others)) ≡ begun_by f (either b m s others)
unfolding begun_by stretch_from
goes_on_either f last m true s others e = ap (λ t. begun_by f (either t last (record { first = m; last = s.last }) others)) e
goes_on_either f last m false s others e = ap (λ t. begun_by f (either t last (record { first = m; last = m }) (s ∷ others))) e

goes_on_all : (f last m : ℤ) (ss : List Stretch) → int_eq (last +ℤ pos 1) m ≡ true → begun_by f (stretch_from last (stretch_from m ss)) ≡ begun_by f (stretch_from m ss)
unfolding begun_by stretch_from
goes_on_all f last m [] e = ap (λ t. begun_by f (either t last (record { first = m; last = m }) [])) e
goes_on_all f last m (s ∷ ss) e = goes_on_either f last m (int_eq (m +ℤ pos 1) s.first) s ss e

-- the next number goes on from the last
pub goes_on : (f last m : ℤ) (ns : List ℤ) → int_eq (last +ℤ pos 1) m ≡ true → begun_by f (stretch_from last (runs_of (m ∷ ns))) ≡ begun_by f (stretch_from m (runs_of ns))
unfolding runs_of
goes_on f last m ns e = goes_on_all f last m (runs_of ns) e

stops_either : (f last m : ℤ) (b : Bool) (s : Stretch) (others : List Stretch) → int_eq (last +ℤ pos 1) m ≡ false → begun_by f (stretch_from last (either b m s others)) ≡ record { first = f; last = last } ∷ either b m s others
unfolding begun_by stretch_from
stops_either f last m true s others e = ap (λ t. begun_by f (either t last (record { first = m; last = s.last }) others)) e
stops_either f last m false s others e = ap (λ t. begun_by f (either t last (record { first = m; last = m }) (s ∷ others))) e

stops_all : (f last m : ℤ) (ss : List Stretch) → int_eq (last +ℤ pos 1) m ≡ false → begun_by f (stretch_from last (stretch_from m ss)) ≡ record { first = f; last = last } ∷ stretch_from m ss
unfolding begun_by stretch_from
stops_all f last m [] e = ap (λ t. begun_by f (either t last (record { first = m; last = m }) [])) e
stops_all f last m (s ∷ ss) e = stops_either f last m (int_eq (m +ℤ pos 1) s.first) s ss e

-- the next number doesn't go on from the last
pub stops : (f last m : ℤ) (ns : List ℤ) → int_eq (last +ℤ pos 1) m ≡ false → begun_by f (stretch_from last (runs_of (m ∷ ns))) ≡ record { first = f; last = last } ∷ runs_of (m ∷ ns)
unfolding runs_of
stops f last m ns e = stops_all f last m (runs_of ns) e

-- no number is left
pub ends : (f last : ℤ) → begun_by f (stretch_from last (runs_of [])) ≡ record { first = f; last = last } ∷ runs_of []
unfolding begun_by stretch_from runs_of
ends f last = refl

-- ---- a walk over numbers

-- the next number goes on from the last
pub run_more : (f last m m' : ℤ) (others : List ℤ) (i : ℕ) (all : List Stretch) → i < length others → m ≡ get_or others i (pos 0) → m' ≡ m → int_eq (last +ℤ pos 1) m' ≡ true
    → begun_by f (stretch_from last (runs_of (drop i others))) ≡ all → begun_by f (stretch_from m' (runs_of (drop (i + 1) others))) ≡ all
run_more f last m m' others i all lt is same e so_far =
    let here = drop_more others i (pos 0) lt ∙ ap (λ n. n ∷ drop (i + 1) others) (sym is ∙ sym same) in
    sym (ap (λ ns. begun_by f (stretch_from last (runs_of ns))) here ∙ goes_on f last m' (drop (i + 1) others) e) ∙ so_far

-- it doesn't
pub run_stops : (f last m m' : ℤ) (others : List ℤ) (i : ℕ) (all : List Stretch) → i < length others → m ≡ get_or others i (pos 0) → m' ≡ m → int_eq (last +ℤ pos 1) m' ≡ false
    → begun_by f (stretch_from last (runs_of (drop i others))) ≡ all → all ≡ record { first = f; last = last } ∷ runs_of (drop i others)
run_stops f last m m' others i all lt is same e so_far =
    let here = drop_more others i (pos 0) lt ∙ ap (λ n. n ∷ drop (i + 1) others) (sym is ∙ sym same) in
    sym so_far ∙ ap (λ ns. begun_by f (stretch_from last (runs_of ns))) here ∙ stops f last m' (drop (i + 1) others) e
    ∙ ap (λ ns. record { first = f; last = last } ∷ runs_of ns) (sym here)

-- no number is left
pub run_ends : (f last : ℤ) (others : List ℤ) (i : ℕ) (all : List Stretch) → length others ≤ i
    → begun_by f (stretch_from last (runs_of (drop i others))) ≡ all → all ≡ record { first = f; last = last } ∷ runs_of []
run_ends f last others i all le so_far =
    sym so_far ∙ ap (λ ns. begun_by f (stretch_from last (runs_of ns))) (drop_all i others le) ∙ ends f last

-- ---- the first run of some numbers

pub begins_with : (ns : List ℤ) (x : ℤ) → 1 ≤ length ns → get_or ns 0 (pos 0) ≡ x → ns ≡ x ∷ take (length ns - 1) (drop 1 ns)
begins_with [] x some is = absurd (omega arith)
begins_with (n ∷ ns) x some is = ap (λ y. y ∷ ns) is ∙ ap (λ t. x ∷ t) (sym (take_rest (n ∷ ns) 1))

pub no_runs : (ns : List ℤ) → length ns < 1 → runs_of ns ≡ []
unfolding runs_of
no_runs [] few = refl
no_runs (n ∷ ns) few = absurd (omega arith)

pub first_text : (ns : List ℤ) (x last last' : ℤ) (after : List ℤ) → 1 ≤ length ns → get_or ns 0 (pos 0) ≡ x → runs_of (x ∷ take (length ns - 1) (drop 1 ns)) ≡ record { first = x; last = last } ∷ runs_of after → last ≡ last'
    → map run_text (runs_of ns) ≡ run_text (record { first = x; last = last' }) ∷ map run_text (runs_of after)
first_text ns x last last' after some is run same =
    ap (λ ms. map run_text (runs_of ms)) (begins_with ns x some is) ∙ ap (map run_text) run
    ∙ ap (λ l. run_text (record { first = x; last = l }) ∷ map run_text (runs_of after)) same
