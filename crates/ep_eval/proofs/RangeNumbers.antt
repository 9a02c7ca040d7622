-- The numbers of ranges, told by their runs.
use Rattle.ep_eval.proofs.Words.{◌≡◌, ◌≢◌, ◌<◌, ◌<ℤ◌, zero, suc, get_or, length, ◌↔◌, ◌∙◌, ◌≤◌, ℕ, Bool, true, false, ◌&&◌, ◌||◌, ℤ, pos, List, [], ◌∷◌, ◌++◌, Option, Some, None, option_map, refl, sym, ap, subst, arith, int_le, int_eq, Any, list_any, Decides-int_eq, int_eq_equiv, ints, append-nil, Any-from_list_any, list_any-append, list_any-from_Any, Contains-from_any, list_any-from_Contains, or-false, ascending_cons, ascending_lists_are_equal, some_is, has_number, map_both, IsAscending, IsIn, Run, between-has, put_in-has, united-has, with_range-one, with_range-span, between, put_in, united, Bound, Env, domain_bound, has_cells, has_domain, has_value, Scalar, only_domain, end_value, evaluate, number_in, range_values, met, met_end, met_ranges, no_ranges, end_of, expr_tree, held_end, kind_tree, ranges_of, with_range, Expr, One, One', Range, Span, Span', Mode, Going, Told, Meter, alone, has_in, run_has, runs_have}
use Rattle.std.specs.List.{Contains}
use Rattle.std.specs.declared.vec.Vec.{Vec}
use Rattle.std.specs.declared.alloc.Global.{Global}
use Rattle.ep_eval.proofs.MeterSteps.{going_begins, going_ends, going_more, joins}

-- ---- ends

pub met_end-some : (mode : Mode) (env : Env) (end : Option Expr) (e : Expr) → end ≡ Some e → met mode env (expr_tree e) ≡ met_end mode env (end_of end)
unfolding met end_of
met_end-some mode env end e h = sym (ap (λ o. met_end mode env (end_of o)) h)

pub met_end-none : (mode : Mode) (env : Env) (end : Option Expr) → end ≡ None → [] ≡ met_end mode env (end_of end)
unfolding met end_of
met_end-none mode env end h = sym (ap (λ o. met_end mode env (end_of o)) h)

pub end_value-some : (mode : Mode) (env : Env) (end : Option Expr) (e : Expr) → end ≡ Some e → number_in (evaluate mode env (expr_tree e)) ≡ end_value mode env (end_of end)
unfolding end_value end_of
end_value-some mode env end e h = sym (ap (λ o. end_value mode env (end_of o)) h)

pub end_value-none : (mode : Mode) (env : Env) (end : Option Expr) → end ≡ None → None ≡ end_value mode env (end_of end)
unfolding end_value end_of
end_value-none mode env end h = sym (ap (λ o. end_value mode env (end_of o)) h)

-- ---- one range

pub met_alone-one : (mode : Mode) (env : Env) (r : Range) (e : Expr) → r ≡ One e → met mode env (expr_tree e) ≡ met_ranges mode env (alone r)
unfolding met_ranges
met_alone-one mode env r e h =
    sym (append-nil (met mode env (expr_tree e))) ∙ sym (ap (met_ranges mode env) (with_range-one e no_ranges)) ∙ sym (ap (λ x. met_ranges mode env (alone x)) h)

pub met_alone-span : (mode : Mode) (env : Env) (r : Range) (a b : Option Expr) → r ≡ Span a b
    → met_end mode env (end_of a) ++ met_end mode env (end_of b) ≡ met_ranges mode env (alone r)
unfolding met_ranges
met_alone-span mode env r a b h =
    sym (append-nil (met_end mode env (end_of a) ++ met_end mode env (end_of b)))
    ∙ sym (ap (met_ranges mode env) (with_range-span a b no_ranges)) ∙ sym (ap (λ x. met_ranges mode env (alone x)) h)

-- the run between two ends
abbrev pub between_run : Option ℤ → Option ℤ → Option Run
between_run low high = map_both (λ lo hi. record { lo = lo; hi = hi }) low high

only_itself : (n m : ℤ) → (int_le m n && int_le n m) ≡ int_eq n m
only_itself n m = grind (arith, ints)

put_alone : (n k : ℤ) → has_number (put_in k []) n ≡ int_eq n k
unfolding has_number
put_alone n k = put_in-has n k [] ∙ or-false (int_eq n k)

one_run : (n : ℤ) (m : Option ℤ) → option_map (run_has n) (between_run m m) ≡ has_in n (map_both put_in m (Some []))
unfolding map_both
one_run n None = refl
one_run n (Some k) = ap Some (only_itself n k ∙ sym (put_alone n k))

united_alone : (n : ℤ) (xs : List ℤ) → has_number (united xs []) n ≡ has_number xs n
unfolding has_number
united_alone n xs = united-has n xs [] ∙ or-false (has_number xs n)

span_run : (n : ℤ) (lo hi : Option ℤ) → option_map (run_has n) (between_run lo hi) ≡ has_in n (map_both united (map_both between lo hi) (Some []))
unfolding map_both
span_run n None hi = refl
span_run n (Some a) None = refl
span_run n (Some a) (Some b) = ap Some (sym (united_alone n (between a b) ∙ between-has n a b))

pub alone-one : (mode : Mode) (env : Env) (r : Range) (e : Expr) (m : Option ℤ) (run : Option Run) → r ≡ One e → m ≡ number_in (evaluate mode env (expr_tree e))
    → run ≡ between_run m m → (n : ℤ) → option_map (run_has n) run ≡ has_in n (range_values mode env (alone r))
unfolding range_values
alone-one mode env r e m run h g is n =
    ap (option_map (run_has n)) is ∙ one_run n m
    ∙ ap (λ o. has_in n (map_both put_in o (Some []))) g
    ∙ sym (ap (λ rs. has_in n (range_values mode env rs)) (with_range-one e no_ranges)) ∙ sym (ap (λ x. has_in n (range_values mode env (alone x))) h)

pub alone-span : (mode : Mode) (env : Env) (r : Range) (a b : Option Expr) (low high : Option ℤ) (run : Option Run) → r ≡ Span a b
    → low ≡ end_value mode env (end_of a) → high ≡ end_value mode env (end_of b)
    → run ≡ between_run low high → (n : ℤ) → option_map (run_has n) run ≡ has_in n (range_values mode env (alone r))
unfolding range_values
alone-span mode env r a b low high run h lower upper is n =
    ap (option_map (run_has n)) is ∙ span_run n low high
    ∙ ap (λ o. has_in n (map_both united (map_both between o high) (Some []))) lower
    ∙ ap (λ o. has_in n (map_both united (map_both between (end_value mode env (end_of a)) o) (Some []))) upper
    ∙ sym (ap (λ rs. has_in n (range_values mode env rs)) (with_range-span a b no_ranges)) ∙ sym (ap (λ x. has_in n (range_values mode env (alone x))) h)

-- ---- many ranges

-- some ranges are read, and others are left
abbrev pub RunsSoFar : Mode → Env → Meter → Meter → List Range → List Range → Option (List Run) → Type 0
RunsSoFar mode env start now all left runs =
    Going mode start now (met_ranges mode env (ranges_of all)) (met_ranges mode env (ranges_of left))
    ((n : ℤ) → has_in n (range_values mode env (ranges_of all))
    ≡ map_both (λ b c. b || c) (option_map (runs_have n) runs) (has_in n (range_values mode env (ranges_of left))))

or_first : (o : Option Bool) → o ≡ map_both (λ b c. b || c) (Some false) o
unfolding map_both
or_first None = refl
or_first (Some b) = refl

or_last : (o : Option Bool) → map_both (λ b c. b || c) o (Some false) ≡ o
unfolding map_both
or_last None = refl
or_last (Some b) = ap Some (or-false b)

or_regrouped : (a b c : Option Bool) → map_both (λ x y. x || y) a (map_both (λ x y. x || y) b c) ≡ map_both (λ x y. x || y) (map_both (λ x y. x || y) a b) c
unfolding map_both
or_regrouped None b c = refl
or_regrouped (Some x) None c = refl
or_regrouped (Some x) (Some y) None = refl
or_regrouped (Some true) (Some y) (Some z) = refl
or_regrouped (Some false) (Some y) (Some z) = refl

pub runs_begin : (mode : Mode) (env : Env) (start : Meter) (all : List Range) → RunsSoFar mode env start start all all (Some [])
runs_begin mode env start all = going_begins (joins mode) start _ _ refl (λ n. or_first (has_in n (range_values mode env (ranges_of all))))

met_cons : (mode : Mode) (env : Env) (r : Range) (left : List Range)
    → met_ranges mode env (ranges_of (r ∷ left)) ≡ met_ranges mode env (alone r) ++ met_ranges mode env (ranges_of left)
unfolding met_ranges ranges_of with_range
met_cons mode env (One' place kind) left = ap (λ l. l ++ met_ranges mode env (ranges_of left)) (sym (append-nil (met mode env (kind_tree place kind))))
met_cons mode env (Span' low high) left =
    ap (λ l. l ++ met_ranges mode env (ranges_of left)) (sym (append-nil (met_end mode env (held_end low) ++ met_end mode env (held_end high))))

one_of_both : (n : ℤ) (m : Option ℤ) (o : Option (List ℤ))
    → has_in n (map_both put_in m o) ≡ map_both (λ b c. b || c) (has_in n (map_both put_in m (Some []))) (has_in n o)
unfolding map_both
one_of_both n None o = refl
one_of_both n (Some k) None = refl
one_of_both n (Some k) (Some ns) = ap Some (put_in-has n k ns ∙ ap (λ b. b || has_number ns n) (sym (put_alone n k)))

span_of_both : (n : ℤ) (p o : Option (List ℤ))
    → has_in n (map_both united p o) ≡ map_both (λ b c. b || c) (has_in n (map_both united p (Some []))) (has_in n o)
unfolding map_both
span_of_both n None o = refl
span_of_both n (Some xs) None = refl
span_of_both n (Some xs) (Some ys) = ap Some (united-has n xs ys ∙ ap (λ b. b || has_number ys n) (sym (united_alone n xs)))

values_cons : (mode : Mode) (env : Env) (n : ℤ) (r : Range) (left : List Range)
    → has_in n (range_values mode env (ranges_of (r ∷ left)))
    ≡ map_both (λ b c. b || c) (has_in n (range_values mode env (alone r))) (has_in n (range_values mode env (ranges_of left)))
unfolding range_values ranges_of with_range
values_cons mode env n (One' place kind) left = one_of_both n (number_in (evaluate mode env (kind_tree place kind))) (range_values mode env (ranges_of left))
values_cons mode env n (Span' low high) left =
    span_of_both n (map_both between (end_value mode env (held_end low)) (end_value mode env (held_end high))) (range_values mode env (ranges_of left))

appended : (n : ℤ) (runs : Option (List Run)) (run : Option Run)
    → option_map (runs_have n) (map_both (λ all one. all ++ one ∷ []) runs run) ≡ map_both (λ b c. b || c) (option_map (runs_have n) runs) (option_map (run_has n) run)
unfolding map_both
appended n None run = refl
appended n (Some rs) None = refl
appended n (Some rs) (Some r) = ap Some (list_any-append (run_has n) rs (r ∷ []) ∙ ap (λ b. list_any (run_has n) rs || b) (or-false (run_has n r)))

pub runs_more : (mode : Mode) (env : Env) (start now after : Meter) (all left : List Range) (r : Range) (rest : List Range) (runs more : Option (List Run)) (run : Option Run)
    → RunsSoFar mode env start now all left runs → left ≡ r ∷ rest
    → Told mode now after (met_ranges mode env (alone r)) ((n : ℤ) → option_map (run_has n) run ≡ has_in n (range_values mode env (alone r)))
    → more ≡ map_both (λ all one. all ++ one ∷ []) runs run → RunsSoFar mode env start after all rest more
runs_more mode env start now after all left r rest runs more run g cut told is =
    going_more (joins mode) start now after _ _ (met_ranges mode env (alone r)) _ g (ap (λ l. met_ranges mode env (ranges_of l)) cut ∙ met_cons mode env r rest) told
    (λ known value n.
    known n
    ∙ ap (map_both (λ b c. b || c) (option_map (runs_have n) runs))
    (ap (λ l. has_in n (range_values mode env (ranges_of l))) cut ∙ values_cons mode env n r rest
    ∙ ap (λ o. map_both (λ b c. b || c) o (has_in n (range_values mode env (ranges_of rest)))) (sym (value n)))
    ∙ or_regrouped (option_map (runs_have n) runs) (option_map (run_has n) run) (has_in n (range_values mode env (ranges_of rest)))
    ∙ ap (λ o. map_both (λ b c. b || c) o (has_in n (range_values mode env (ranges_of rest)))) (sym (appended n runs run) ∙ sym (ap (option_map (runs_have n)) is)))

in_vec : (n : ℤ) (runs : Option (Vec Run Global)) → option_map (λ v. runs_have n v.items) runs ≡ option_map (runs_have n) (option_map (λ v. v.items) runs)
in_vec n None = refl
in_vec n (Some v) = refl

no_ranges_left : (mode : Mode) (env : Env) (left : List Range) → left ≡ [] → met_ranges mode env (ranges_of left) ≡ []
unfolding met_ranges ranges_of
no_ranges_left mode env left none = ap (λ l. met_ranges mode env (ranges_of l)) none

pub runs_end : (mode : Mode) (env : Env) (start now : Meter) (all left : List Range) (runs : Option (Vec Run Global))
    → RunsSoFar mode env start now all left (option_map (λ v. v.items) runs) → left ≡ []
    → Told mode start now (met_ranges mode env (ranges_of all)) ((n : ℤ) → option_map (λ v. runs_have n v.items) runs ≡ has_in n (range_values mode env (ranges_of all)))
unfolding range_values ranges_of has_number
runs_end mode env start now all left runs g none =
    going_ends start now _ _ g (no_ranges_left mode env left none)
    (λ known n.
    in_vec n runs
    ∙ sym (known n ∙ ap (λ l. map_both (λ b c. b || c) (option_map (runs_have n) (option_map (λ v. v.items) runs)) (has_in n (range_values mode env (ranges_of l)))) none
    ∙ or_last (option_map (runs_have n) (option_map (λ v. v.items) runs))))

-- ---- a set of the numbers of runs

any_like : {A : Type 0} (P Q : A → Type 0) (xs : List A) → ((x : A) → P x → Q x) → Any P xs → Any Q xs
any_like P Q xs f h = (h.0, h.1, h.2, h.3, f h.1 h.4)

in_run : (n : ℤ) (run : Run) → run_has n run ≡ true → IsIn n run
in_run n run h = go (int_le run.lo n) (int_le n run.hi) refl refl h
  where
    go : (a b : Bool) → int_le run.lo n ≡ a → int_le n run.hi ≡ b → (a && b) ≡ true → IsIn n run
    go true true p q e = (grind (arith, ints, p), grind (arith, ints, q))
    go true false p q e = absurd cc
    go false b p q e = absurd cc

by_run : (n : ℤ) (run : Run) → IsIn n run → run_has n run ≡ true
by_run n run h =
    let low : int_le run.lo n ≡ true = grind (arith, ints, h.0) in
    let high : int_le n run.hi ≡ true = grind (arith, ints, h.1) in
    ap (λ b. b && int_le n run.hi) low ∙ high

members : (set ns : List ℤ) (parts : List Run) → ((n : ℤ) → Contains set n ↔ Any (IsIn n) parts)
    → ((n : ℤ) → Some (runs_have n parts) ≡ Some (has_number ns n)) → (v : ℤ) → Contains set v ↔ Contains ns v
unfolding has_number
members set ns parts same told v = (
  λ h. Contains-from_any (λ x y. (Decides-int_eq x y).0) v ns
      (sym (some_is (told v)) ∙ list_any-from_Any (run_has v) parts (any_like (IsIn v) (λ r. run_has v r ≡ true) parts (by_run v) ((same v).0 h))),
  λ h. (same v).1 (any_like (λ r. run_has v r ≡ true) (IsIn v) parts (in_run v)
      (Any-from_list_any (run_has v) parts (some_is (told v) ∙ list_any-from_Contains int_eq_equiv v ns h))),
)

pub set_is : (set : List ℤ) (parts : List Run) → IsAscending set → ((n : ℤ) → Contains set n ↔ Any (IsIn n) parts)
    → (numbers : Option (List ℤ)) → ((ns : List ℤ) → numbers ≡ Some ns → IsAscending ns)
    → ((n : ℤ) → Some (runs_have n parts) ≡ has_in n numbers) → Some set ≡ numbers
set_is set parts ascends same None ascend told = absurd (let e = told (pos 0) in cc)
set_is set parts ascends same (Some ns) ascend told = ap Some (ascending_lists_are_equal set ns ascends (ascend ns refl) (members set ns parts same told))

pub none_is : (numbers : Option (List ℤ)) → ((n : ℤ) → None ≡ has_in n numbers) → None ≡ numbers
none_is None told = refl
none_is (Some ns) told = absurd (let e = told (pos 0) in cc)

-- ---- domains

truth_in_run : (n : ℤ) → ((int_le (pos 0) n && int_le n (pos 1)) || false) ≡ (int_eq n (pos 0) || (int_eq n (pos 1) || false))
truth_in_run n = grind (arith, ints)

truths_ascend : IsAscending (pos 0 ∷ pos 1 ∷ [])
truths_ascend =
    ascending_cons (pos 0) (pos 1 ∷ []) (λ i d h. greater i d h)
    (ascending_cons (pos 1) [] (λ i d h. absurd (omega (arith, h))) (λ i j d h k. absurd (omega (arith, h, k))))
  where
    greater : (i : ℕ) (d : ℤ) → i < 1 → pos 0 <ℤ get_or (pos 1 ∷ []) i d
    greater zero d h = omega (arith, ints)
    greater (suc i) d h = absurd (omega (arith, h))

pub truths_are : (set : List ℤ) (parts : List Run) → parts ≡ record { lo = pos 0; hi = pos 1 } ∷ [] → IsAscending set → ((n : ℤ) → Contains set n ↔ Any (IsIn n) parts)
    → set ≡ pos 0 ∷ pos 1 ∷ []
unfolding has_number
truths_are set parts is ascends same =
    some_is (set_is set parts ascends same (Some (pos 0 ∷ pos 1 ∷ [])) (λ ns e. subst IsAscending (some_is e) truths_ascend)
    (λ n. ap (λ ps. Some (runs_have n ps)) is ∙ ap Some (truth_in_run n)))

-- a name that stands for no domain has no numbers
pub only_domain-numbers : (b : Option Bound) → domain_bound (only_domain b) ≡ domain_bound b
unfolding domain_bound only_domain
only_domain-numbers None = refl
only_domain-numbers (Some (has_value t v)) = refl
only_domain-numbers (Some (has_cells s is vs)) = refl
only_domain-numbers (Some (has_domain s is vs)) = refl

pub scalar_domain : (s : Scalar) (is : List (List ℤ)) (vs : List ℤ) → length is ≡ 0 → Some vs ≡ domain_bound (Some (has_domain s is vs))
unfolding domain_bound
scalar_domain s [] vs h = refl
scalar_domain s (i ∷ is) vs h = absurd (omega (arith, h))

pub matrix_domain_has_none : (s : Scalar) (is : List (List ℤ)) (vs : List ℤ) → length is ≢ 0 → None ≡ domain_bound (Some (has_domain s is vs))
unfolding domain_bound
matrix_domain_has_none s [] vs h = absurd (h refl)
matrix_domain_has_none s (i ∷ is) vs h = refl
