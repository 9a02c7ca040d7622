-- Ranges of domains, read one by one.
use Rattle.std.proofs.Common.{◌≡◌, ◌↔◌, ◌∙◌, ◌^◌, ◌≤◌, ℕ, Bool, true, false, ◌&&◌, ◌||◌, ℤ, pos, neg_ℤ, ◌≤ℤ◌, ◌<ℤ◌, List, [], ◌∷◌, ◌++◌, Option, Some, None, option_map, refl, sym, ap, arith, append_assoc}
use Rattle.std.specs.Prelude.{int_le}
use Rattle.std.specs.Ordering.{int_eq}
use Rattle.std.specs.List.{Any, Contains, list_any}
use Rattle.std.proofs.lemmas.Int.{ints}
use Rattle.ep_base.specs.declared.run_lists.Run.{Run}
use Rattle.ep_tree.specs.Binding.{above_end, below_end, ranges_pass}
use Rattle.ep_tree.specs.Environments.{Env}
use Rattle.ep_tree.specs.Evaluation.{evaluate, number_in}
use Rattle.ep_tree.specs.Measures.{Met, met, met_end, met_ranges}
use Rattle.ep_tree.specs.Views.{end_of, expr_tree, held_end, kind_tree, ranges_of, with_range}
use Rattle.ep_tree.specs.declared.syntax.Expr.{Expr}
use Rattle.ep_tree.specs.declared.syntax.Range.{One, One', Range, Span, Span'}
use Rattle.ep_tree.specs.declared.values.Mode.{Mode}
use Rattle.std.proofs.lemmas.List.{append-nil}
use Rattle.std.proofs.lemmas.List.Folds.{Any-from_list_any, list_any-append, list_any-from_Any}
use Rattle.std.proofs.Math.Bool.{or-false}
use Rattle.std.specs.List.{Any, Contains}
use Rattle.ep_base.specs.Options.{map_both, on_both, on_three}
use Rattle.ep_base.specs.Runs.{IsIn}
use Rattle.ep_eval.specs.Outcomes.{IsCause}
use Rattle.ep_eval.specs.declared.errors.EvalError.{EvalError}
use Rattle.ep_tree.specs.Limits.{limits_of_values}
use Rattle.ep_instance_parts.specs.Counted.{IsCounted}
use Rattle.ep_instance_parts.specs.Elements.{element_passes}
use Rattle.ep_instance_parts.specs.declared.elements.Elements.{Elements, Within}
use Rattle.ep_instance_parts.specs.Tests.{Answers64, above, below, element_test, met_range, range_passes, run_test}
use Rattle.ep_instance_parts.proofs.LimitSteps.{cause_along, cause_first, cause_next, counted_along, counted_none, counted_on}
use Rattle.ep_instance_parts.proofs.Tests.{has_number_from_test}

-- ---- ends

pub met_end-some : (mode : Mode) (env : Env) (end : Option Expr) (e : Expr) → end ≡ Some e → met mode env (expr_tree e) ≡ met_end mode env (end_of end)
unfolding met end_of
met_end-some mode env end e h = sym (ap (λ o. met_end mode env (end_of o)) h)

pub met_end-none : (mode : Mode) (env : Env) (end : Option Expr) → end ≡ None → [] ≡ met_end mode env (end_of end)
unfolding met end_of
met_end-none mode env end h = sym (ap (λ o. met_end mode env (end_of o)) h)

at_low : (n : ℤ) (m : Option ℤ) → option_map (λ k. above k n) m ≡ option_map (λ (f : ℤ → Bool). f n) (option_map (λ (k x : ℤ). int_le k x) m)
at_low n None = refl
at_low n (Some k) = refl

at_high : (n : ℤ) (m : Option ℤ) → option_map (λ k. below k n) m ≡ option_map (λ (f : ℤ → Bool). f n) (option_map (λ (k x : ℤ). int_le x k) m)
at_high n None = refl
at_high n (Some k) = refl

pub low_number : (mode : Mode) (env : Env) (end : Option Expr) (e : Expr) (m : Option ℤ) → end ≡ Some e → m ≡ number_in (evaluate mode env (expr_tree e))
    → Answers64 above m (above_end mode env (end_of end))
unfolding above_end end_of
low_number mode env end e m h g = record {
  same = λ n low high.
      ap (option_map (λ k. above k n)) g
      ∙ at_low n (number_in (evaluate mode env (expr_tree e)))
      ∙ sym (ap (λ o. option_map (λ (f : ℤ → Bool). f n) (above_end mode env (end_of o))) h);
}

pub high_number : (mode : Mode) (env : Env) (end : Option Expr) (e : Expr) (m : Option ℤ) → end ≡ Some e → m ≡ number_in (evaluate mode env (expr_tree e))
    → Answers64 below m (below_end mode env (end_of end))
unfolding below_end end_of
high_number mode env end e m h g = record {
  same = λ n low high.
      ap (option_map (λ k. below k n)) g
      ∙ at_high n (number_in (evaluate mode env (expr_tree e)))
      ∙ sym (ap (λ o. option_map (λ (f : ℤ → Bool). f n) (below_end mode env (end_of o))) h);
}

least_is_low : (n : ℤ) → neg_ℤ (pos (2 ^ 63)) ≤ℤ n → int_le (neg_ℤ (pos (2 ^ 63))) n ≡ true
least_is_low n h = grind (arith, ints, h)

greatest_is_high : (n : ℤ) → n <ℤ pos (2 ^ 63) → int_le n (pos 9223372036854775807) ≡ true
greatest_is_high n h = grind (arith, ints, h)

pub low_open : (mode : Mode) (env : Env) (end : Option Expr) → end ≡ None → Answers64 above (Some (neg_ℤ (pos (2 ^ 63)))) (above_end mode env (end_of end))
unfolding above_end end_of
low_open mode env end h = record {
  same = λ n low high. ap Some (least_is_low n low) ∙ sym (ap (λ o. option_map (λ (f : ℤ → Bool). f n) (above_end mode env (end_of o))) h);
}

pub high_open : (mode : Mode) (env : Env) (end : Option Expr) → end ≡ None → Answers64 below (Some (pos 9223372036854775807)) (below_end mode env (end_of end))
unfolding below_end end_of
high_open mode env end h = record {
  same = λ n low high. ap Some (greatest_is_high n high) ∙ sym (ap (λ o. option_map (λ (f : ℤ → Bool). f n) (below_end mode env (end_of o))) h);
}

-- ---- one range

pub met_range-one : (mode : Mode) (env : Env) (r : Range) (e : Expr) → r ≡ One e → met mode env (expr_tree e) ≡ met_range mode env r
unfolding met_range
met_range-one mode env r e h = sym (ap (met_range mode env) h)

met_range-ends : (mode : Mode) (env : Env) (a b : Option Expr) → met_end mode env (end_of a) ++ met_end mode env (end_of b) ≡ met_range mode env (Span a b)
unfolding met_range held_end end_of
met_range-ends mode env None None = refl
met_range-ends mode env None (Some b) = refl
met_range-ends mode env (Some a) None = refl
met_range-ends mode env (Some a) (Some b) = refl

pub met_range-span : (mode : Mode) (env : Env) (r : Range) (a b : Option Expr) → r ≡ Span a b
    → met_end mode env (end_of a) ++ met_end mode env (end_of b) ≡ met_range mode env r
met_range-span mode env r a b h = met_range-ends mode env a b ∙ sym (ap (met_range mode env) h)

-- the run between two ends
abbrev pub between_run : Option ℤ → Option ℤ → Option Run
between_run low high = map_both (λ lo hi. record { lo = lo; hi = hi }) low high

only_itself : (n m : ℤ) → (int_le m n && int_le n m) ≡ int_eq n m
only_itself n m = grind (arith, ints)

one_run : (n : ℤ) (m : Option ℤ) → option_map (λ r. run_test r n) (between_run m m) ≡ option_map (λ (f : ℤ → Bool). f n) (option_map (λ (k x : ℤ). int_eq x k) m)
unfolding map_both
one_run n None = refl
one_run n (Some m) = ap Some (only_itself n m)

pub range_one : (mode : Mode) (env : Env) (r : Range) (e : Expr) (m : Option ℤ) (run : Option Run) → r ≡ One e → m ≡ number_in (evaluate mode env (expr_tree e))
    → run ≡ between_run m m → Answers64 run_test run (range_passes mode env r)
unfolding range_passes
range_one mode env r e m run h g is = record {
  same = λ n low high.
      ap (option_map (λ w. run_test w n)) is
      ∙ one_run n m
      ∙ ap (λ k. option_map (λ (f : ℤ → Bool). f n) (option_map (λ (j x : ℤ). int_eq x j) k)) g
      ∙ sym (ap (λ w. option_map (λ (f : ℤ → Bool). f n) (range_passes mode env w)) h);
}

run_of_ends : (n : ℤ) (low high : Option ℤ) → option_map (λ r. run_test r n) (between_run low high)
    ≡ map_both (λ b c. b && c) (option_map (λ k. above k n) low) (option_map (λ k. below k n) high)
unfolding map_both
run_of_ends n None high = refl
run_of_ends n (Some lo) None = refl
run_of_ends n (Some lo) (Some hi) = refl

tests_of_ends : (n : ℤ) (p q : Option (ℤ → Bool)) → map_both (λ b c. b && c) (option_map (λ (f : ℤ → Bool). f n) p) (option_map (λ (f : ℤ → Bool). f n) q)
    ≡ option_map (λ (f : ℤ → Bool). f n) (map_both {C = ℤ → Bool} (λ (f g : ℤ → Bool) (x : ℤ). f x && g x) p q)
unfolding map_both
tests_of_ends n None q = refl
tests_of_ends n (Some f) None = refl
tests_of_ends n (Some f) (Some g) = refl

range_passes-ends : (mode : Mode) (env : Env) (a b : Option Expr)
    → map_both {C = ℤ → Bool} (λ (f g : ℤ → Bool) (x : ℤ). f x && g x) (above_end mode env (end_of a)) (below_end mode env (end_of b)) ≡ range_passes mode env (Span a b)
unfolding range_passes held_end end_of
range_passes-ends mode env None None = refl
range_passes-ends mode env None (Some b) = refl
range_passes-ends mode env (Some a) None = refl
range_passes-ends mode env (Some a) (Some b) = refl

pub range_span : (mode : Mode) (env : Env) (r : Range) (a b : Option Expr) (low high : Option ℤ) (run : Option Run) → r ≡ Span a b
    → Answers64 above low (above_end mode env (end_of a)) → Answers64 below high (below_end mode env (end_of b))
    → run ≡ between_run low high → Answers64 run_test run (range_passes mode env r)
range_span mode env r a b low high run h lower upper is = record {
  same = λ n small great.
      ap (option_map (λ w. run_test w n)) is
      ∙ run_of_ends n low high
      ∙ ap (λ o. map_both (λ x y. x && y) o (option_map (λ k. below k n) high)) (lower.same n small great)
      ∙ ap (map_both (λ x y. x && y) (option_map (λ (f : ℤ → Bool). f n) (above_end mode env (end_of a)))) (upper.same n small great)
      ∙ tests_of_ends n (above_end mode env (end_of a)) (below_end mode env (end_of b))
      ∙ ap (option_map (λ (f : ℤ → Bool). f n)) (range_passes-ends mode env a b ∙ sym (ap (range_passes mode env) h));
}

-- ---- many ranges

-- whether a number lies in one of some runs
abbrev pub runs_test : List Run → ℤ → Bool
runs_test runs n = list_any (λ run. run_test run n) runs

-- what a test that may be undefined answers
abbrev answer : ℤ → Option (ℤ → Bool) → Option Bool
answer n test = option_map (λ (f : ℤ → Bool). f n) test

-- The nodes that are counted so far, and what the runs so far and the ranges that are left answer together.
pub record RangesSoFar (mode : Mode) (env : Env) (before : ℕ) (all left : List Range) (runs : Option (List Run)) (count : ℕ) : Type 0 where
  pub done : List Met
  pub cut : met_ranges mode env (ranges_of all) ≡ done ++ met_ranges mode env (ranges_of left)
  pub counted : IsCounted mode before done count
  pub same : (n : ℤ) → neg_ℤ (pos (2 ^ 63)) ≤ℤ n → n <ℤ pos (2 ^ 63)
      → answer n (ranges_pass mode env (ranges_of all))
      ≡ map_both (λ b c. b || c) (option_map (λ rs. runs_test rs n) runs) (answer n (ranges_pass mode env (ranges_of left)))

or_none : (o : Option Bool) → o ≡ map_both (λ b c. b || c) (Some false) o
unfolding map_both
or_none None = refl
or_none (Some b) = refl

pub ranges_begin : (mode : Mode) (env : Env) (before : ℕ) (all : List Range) → before ≤ 5000000 → RangesSoFar mode env before all all (Some []) before
ranges_begin mode env before all small = record {
  done = [];
  cut = refl;
  counted = counted_none mode before small;
  same = λ n low high. or_none (answer n (ranges_pass mode env (ranges_of all)));
}

met_ranges-cons : (mode : Mode) (env : Env) (r : Range) (left : List Range)
    → met_ranges mode env (ranges_of (r ∷ left)) ≡ met_range mode env r ++ met_ranges mode env (ranges_of left)
unfolding met met_range ranges_of with_range
met_ranges-cons mode env (One' place kind) left = refl
met_ranges-cons mode env (Span' low high) left = refl

one_of_both : (n : ℤ) (m : Option ℤ) (q : Option (ℤ → Bool))
    → answer n (on_both m q (λ k others. Some (λ x. int_eq x k || others x)))
    ≡ map_both (λ b c. b || c) (answer n (option_map (λ (k x : ℤ). int_eq x k) m)) (answer n q)
unfolding on_both map_both
one_of_both n None q = refl
one_of_both n (Some k) None = refl
one_of_both n (Some k) (Some f) = refl

span_of_both : (n : ℤ) (p q r : Option (ℤ → Bool))
    → answer n (on_three p q r (λ above below others. Some (λ x. (above x && below x) || others x)))
    ≡ map_both (λ b c. b || c) (answer n (map_both {C = ℤ → Bool} (λ (f g : ℤ → Bool) (x : ℤ). f x && g x) p q)) (answer n r)
unfolding on_three on_both map_both
span_of_both n None q r = refl
span_of_both n (Some f) None r = refl
span_of_both n (Some f) (Some g) None = refl
span_of_both n (Some f) (Some g) (Some h) = refl

ranges_pass-cons : (mode : Mode) (env : Env) (n : ℤ) (r : Range) (left : List Range)
    → answer n (ranges_pass mode env (ranges_of (r ∷ left)))
    ≡ map_both (λ b c. b || c) (answer n (range_passes mode env r)) (answer n (ranges_pass mode env (ranges_of left)))
unfolding ranges_pass range_passes ranges_of with_range
ranges_pass-cons mode env n (One' place kind) left = one_of_both n (number_in (evaluate mode env (kind_tree place kind))) (ranges_pass mode env (ranges_of left))
ranges_pass-cons mode env n (Span' low high) left =
    span_of_both n (above_end mode env (held_end low)) (below_end mode env (held_end high)) (ranges_pass mode env (ranges_of left))

or_regroup : (a b c : Option Bool) → map_both (λ x y. x || y) a (map_both (λ x y. x || y) b c) ≡ map_both (λ x y. x || y) (map_both (λ x y. x || y) a b) c
unfolding map_both
or_regroup None b c = refl
or_regroup (Some x) None c = refl
or_regroup (Some x) (Some y) None = refl
or_regroup (Some true) (Some y) (Some z) = refl
or_regroup (Some false) (Some y) (Some z) = refl

one_run_more : (runs : List Run) (run : Run) (n : ℤ) → runs_test (runs ++ run ∷ []) n ≡ (runs_test runs n || run_test run n)
one_run_more runs run n =
    list_any-append (λ r. run_test r n) runs (run ∷ []) ∙ ap (λ b. runs_test runs n || b) (or-false (run_test run n))

runs_and_run : (n : ℤ) (runs : Option (List Run)) (run : Option Run)
    → option_map (λ rs. runs_test rs n) (map_both (λ all one. all ++ one ∷ []) runs run)
    ≡ map_both (λ x y. x || y) (option_map (λ rs. runs_test rs n) runs) (option_map (λ r. run_test r n) run)
unfolding map_both
runs_and_run n None run = refl
runs_and_run n (Some rs) None = refl
runs_and_run n (Some rs) (Some r) = ap Some (one_run_more rs r n)

-- one range more
pub ranges_more : (mode : Mode) (env : Env) (before count after : ℕ) (all : List Range) (r : Range) (left : List Range)
    → (runs more : Option (List Run)) (run : Option Run)
    → RangesSoFar mode env before all (r ∷ left) runs count → Answers64 run_test run (range_passes mode env r)
    → IsCounted mode count (met_range mode env r) after → more ≡ map_both (λ all one. all ++ one ∷ []) runs run
    → RangesSoFar mode env before all left more after
ranges_more mode env before count after all r left runs more run h here counted is = record {
  done = h.done ++ met_range mode env r;
  cut = h.cut ∙ ap (λ ms. h.done ++ ms) (met_ranges-cons mode env r left)
      ∙ sym (append_assoc h.done (met_range mode env r) (met_ranges mode env (ranges_of left)));
  counted = counted_on mode before count after h.done (met_range mode env r) h.counted counted;
  same = λ n low high.
      h.same n low high
      ∙ ap (map_both (λ x y. x || y) (option_map (λ rs. runs_test rs n) runs)) (ranges_pass-cons mode env n r left)
      ∙ or_regroup (option_map (λ rs. runs_test rs n) runs) (answer n (range_passes mode env r)) (answer n (ranges_pass mode env (ranges_of left)))
      ∙ ap (λ o. map_both (λ x y. x || y) (map_both (λ x y. x || y) (option_map (λ rs. runs_test rs n) runs) o) (answer n (ranges_pass mode env (ranges_of left))))
      (sym (here.same n low high))
      ∙ ap (λ o. map_both (λ x y. x || y) o (answer n (ranges_pass mode env (ranges_of left)))) (sym (runs_and_run n runs run) ∙ ap (option_map (λ rs. runs_test rs n)) (sym is));
}

-- a range that passes a limit
pub ranges_cause : (mode : Mode) (env : Env) (before count : ℕ) (all : List Range) (r : Range) (left : List Range) (runs : Option (List Run)) (e : EvalError)
    → RangesSoFar mode env before all (r ∷ left) runs count → IsCause (limits_of_values mode count (met_range mode env r)) e
    → IsCause (limits_of_values mode before (met_ranges mode env (ranges_of all))) e
ranges_cause mode env before count all r left runs e h cause =
    cause_along mode before (h.done ++ (met_range mode env r ++ met_ranges mode env (ranges_of left))) (met_ranges mode env (ranges_of all)) e
    (sym (h.cut ∙ ap (λ ms. h.done ++ ms) (met_ranges-cons mode env r left)))
    (cause_next mode before count h.done (met_range mode env r ++ met_ranges mode env (ranges_of left)) e h.counted
    (cause_first mode count (met_range mode env r) (met_ranges mode env (ranges_of left)) e cause))

or_last : (o : Option Bool) → map_both (λ x y. x || y) o (Some false) ≡ o
unfolding map_both
or_last None = refl
or_last (Some true) = refl
or_last (Some false) = refl

-- all ranges
pub ranges_counted : (mode : Mode) (env : Env) (before count : ℕ) (all : List Range) (runs : Option (List Run))
    → RangesSoFar mode env before all [] runs count → IsCounted mode before (met_ranges mode env (ranges_of all)) count
unfolding met ranges_of
ranges_counted mode env before count all runs h = counted_along mode before count h.done (met_ranges mode env (ranges_of all)) (sym (h.cut ∙ append-nil h.done)) h.counted

-- the elements of all ranges, where each is defined, and none where one isn't
pub ranges_answer : (mode : Mode) (env : Env) (before count : ℕ) (all : List Range) (runs : Option (List Run)) (elements : Option Elements)
    → RangesSoFar mode env before all [] runs count
    → ((n : ℤ) → option_map (λ e. element_test e n) elements ≡ option_map (λ rs. runs_test rs n) runs)
    → Answers64 element_test elements (ranges_pass mode env (ranges_of all))
unfolding ranges_pass ranges_of
ranges_answer mode env before count all runs elements h is = record {
  same = λ n low high. is n ∙ sym (h.same n low high ∙ or_last (option_map (λ rs. runs_test rs n) runs));
}

any_like : {A : Type 0} (P Q : A → Type 0) (xs : List A) → ((x : A) → P x → Q x) → Any P xs → Any Q xs
any_like P Q xs f h = (h.0, h.1, h.2, h.3, f h.1 h.4)

in_run : (n : ℤ) (run : Run) → run_test run n ≡ true → IsIn n run
in_run n run h = go (int_le run.lo n) (int_le n run.hi) refl refl h
  where
    go : (a b : Bool) → int_le run.lo n ≡ a → int_le n run.hi ≡ b → (a && b) ≡ true → IsIn n run
    go true true p q e = (grind (arith, ints, p), grind (arith, ints, q))
    go true false p q e = absurd cc
    go false b p q e = absurd cc

by_run : (n : ℤ) (run : Run) → IsIn n run → run_test run n ≡ true
by_run n run h =
    let low : int_le run.lo n ≡ true = grind (arith, ints, h.0) in
    let high : int_le n run.hi ≡ true = grind (arith, ints, h.1) in
    ap (λ b. b && int_le n run.hi) low ∙ high

-- a set of the numbers of some runs
pub runs_as_elements : (runs : List Run) (set : List ℤ) → ((n : ℤ) → Contains set n ↔ Any (IsIn n) runs) → (n : ℤ)
    → element_test (Within set) n ≡ runs_test runs n
unfolding element_passes
runs_as_elements runs set same n =
    sym
    (has_number_from_test (runs_test runs n) set n (
      λ t. (same n).1 (any_like (λ r. run_test r n ≡ true) (IsIn n) runs (in_run n) (Any-from_list_any (λ r. run_test r n) runs t)),
      λ h. list_any-from_Any (λ r. run_test r n) runs (any_like (IsIn n) (λ r. run_test r n ≡ true) runs (by_run n) ((same n).0 h)),
    ))
