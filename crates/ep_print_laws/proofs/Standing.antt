-- An expression that was printed for a value, wherever it stands: its value, its type, and that it has no fault, no number past
-- the limit of reach, and so many nodes.
use Rattle.std.proofs.Common.{◌≡◌, ℕ, suc, ◌+◌, Bool, true, false, cond, not, ◌&&◌, ◌||◌, List, [], ◌∷◌, ◌++◌, ℤ, pos, negsuc, ◌+ℤ◌, Some, refl, sym, ap, ap₂, subst, ◌∙◌}
use Rattle.std.specs.Prelude.{flat_map, option_map}
use Rattle.std.specs.List.{list_all, list_any}
use Rattle.std.specs.Ordering.{int_eq}
use Rattle.std.proofs.lemmas.Bool.{and_from, and_parts, or_from, false≢true}
use Rattle.std.proofs.lemmas.Bool.Decides.{Decides-int_eq}
use Rattle.std.proofs.lemmas.Grind.{flat_map-append}
use Rattle.std.proofs.lemmas.List.{length-append}
use Rattle.std.proofs.lemmas.List.Concat.{flat_map-cons}
use Rattle.std.proofs.lemmas.List.Folds.{list_any-append}
use Rattle.ep_base.specs.Numbers.{absolute_of, of_bool}
use Rattle.ep_base.specs.Options.{map_both}
use Rattle.ep_base.specs.Runs.{IsAscending, counting}
use Rattle.ep_base.specs.Reads.{is_too_far}
use Rattle.ep_base.specs.declared.places.Place.{Place}
use Rattle.ep_tree.specs.Domains.{between, count_between, put_in, united}
use Rattle.ep_tree.specs.Environments.{Env}
use Rattle.ep_tree.specs.Evaluation.{domain_values, evaluate, number_in, range_values}
use Rattle.ep_tree.specs.Faults.{domain_faults, faults, faults_of_ranges, has_open_range, open_domain, type_fault, unless}
use Rattle.ep_tree.specs.Limits.{numbers_at}
use Rattle.ep_tree.specs.Measures.{Met, a_node, met, met_domain, met_ranges, size_of}
use Rattle.ep_tree.specs.Placeless.{placeless, placeless_domain, placeless_ranges, somewhere}
use Rattle.ep_tree.specs.Trees.{DomainTree, ExprTree, Ranges, end_at, minus, no_ranges, number, one_and, ranges, span_and, truth}
use Rattle.ep_tree.specs.TypedValues.{is_number_of}
use Rattle.ep_tree.specs.Types.{Context, Judged, all_typed, from_all, from_many, from_one, gives, is_integer, judge, judge_domain, judge_ranges, of_scalar, typed}
use Rattle.ep_tree.specs.Values.{ValueTree, single}
use Rattle.ep_tree.specs.declared.values.Mode.{Mode}
use Rattle.ep_tree.specs.declared.values.Scalar.{Scalar}
use Rattle.ep_tree.specs.declared.values.ValueType.{ValueType}
use Rattle.ep_print.specs.Values.{Stretch, runs_of, stretch_from}
use Rattle.ep_print_laws.specs.Answered.{indices_domain, number_expr, run_and, run_ranges, scalar_expr}
use Rattle.ep_print_laws.specs.GivenBack.{is_near, is_near_value}
use Rattle.ep_print_laws.proofs.Placed.{AsEnd, as_minus, as_no_ranges, as_number, as_one, as_ranges, as_span, as_truth}
use Rattle.ep_print_laws.proofs.Worth.{gathered, one_between, runs_read, truth_is}

-- ---- numbers within the limit of reach

-- the numbers at some nodes are within the limit of reach
abbrev pub AreNear : Mode → List Met → Type 0
AreNear mode ms = list_any is_too_far (flat_map (numbers_at mode) ms) ≡ false

pub near_joined : (mode : Mode) (ms ns : List Met) → AreNear mode ms → AreNear mode ns → AreNear mode (ms ++ ns)
near_joined mode ms ns h k =
    ap (list_any is_too_far) (flat_map-append (numbers_at mode) ms ns)
    ∙ list_any-append is_too_far (flat_map (numbers_at mode) ms) (flat_map (numbers_at mode) ns) ∙ or_from _ _ h k

pub near_first : (mode : Mode) (m : Met) (ms : List Met) → list_any is_too_far (numbers_at mode m) ≡ false → AreNear mode ms → AreNear mode (m ∷ ms)
near_first mode m ms h k =
    ap (list_any is_too_far) (flat_map-cons (numbers_at mode) m ms)
    ∙ list_any-append is_too_far (numbers_at mode m) (flat_map (numbers_at mode) ms) ∙ or_from _ _ h k

not_true : (b : Bool) → not b ≡ true → b ≡ false
not_true true h = absurd (false≢true h)
not_true false h = refl

pub near_number : (n : ℤ) → is_near n ≡ true → is_too_far n ≡ false
unfolding is_near
near_number n h = not_true (is_too_far n) h

alone_near : (b : Bool) → b ≡ false → (b || false) ≡ false
alone_near b h = or_from b false h refl

-- ---- what stands for a value

-- an expression has a value of a type, no fault, no number past the limit of reach, and so many nodes
pub record StandsFor (v : ValueTree) (t : ValueType) (n : ℕ) (e : ExprTree) : Type 0 where
  pub value : (mode : Mode) (env : Env) → evaluate mode env e ≡ Some v
  pub judged : (context : Context) → judge context e ≡ typed t
  pub faultless : (context : Context) (decisions : Bool) → faults context decisions e ≡ []
  pub within : is_near_value v ≡ true → (mode : Mode) (env : Env) → AreNear mode (met mode env e)
  pub counted : (mode : Mode) (env : Env) → size_of (met mode env e) ≡ n

plain_number : (p : Place) (n : ℕ) → StandsFor (single (pos n)) ValueType.Int 1 (number p (pos n))
unfolding evaluate judge faults met numbers_at number_in is_near_value
plain_number p n =
    record {
      value = λ mode env. refl;
      judged = λ context. refl;
      faultless = λ context decisions. refl;
      within = λ near mode env. near_first mode (a_node env (number p (pos n))) [] (alone_near (is_too_far (pos n)) (near_number (pos n) near)) refl;
      counted = λ mode env. refl;
    }

plain_minus : (p q : Place) (n : ℕ) → StandsFor (single (negsuc n)) ValueType.Int 2 (minus p (number q (pos (suc n))))
unfolding evaluate judge faults met numbers_at number_in is_near_value is_too_far absolute_of from_one gives is_integer type_fault
plain_minus p q n =
    record {
      value = λ mode env. refl;
      judged = λ context. refl;
      faultless = λ context decisions. refl;
      within = λ near mode env.
          let far : is_too_far (negsuc n) ≡ false = near_number (negsuc n) near in
          near_first mode (a_node env (minus p (number q (pos (suc n))))) (a_node env (number q (pos (suc n))) ∷ []) (alone_near (is_too_far (negsuc n)) far)
          (near_first mode (a_node env (number q (pos (suc n)))) [] (alone_near (is_too_far (negsuc n)) far) refl);
      counted = λ mode env. refl;
    }

-- how many nodes the expression of a number has
pub number_count : ℤ → ℕ
number_count (pos n) = 1
number_count (negsuc n) = 2

pub number_stands : (z : ℤ) (e : ExprTree) → placeless e ≡ placeless (number_expr z) → StandsFor (single z) ValueType.Int (number_count z) e
unfolding number_expr placeless number_count
number_stands (pos n) e h =
    let a = as_number e (pos n) h in subst (StandsFor (single (pos n)) ValueType.Int 1) (sym a.is) (plain_number a.place n)
number_stands (negsuc n) e h =
    let a = as_minus e (number somewhere (pos (suc n))) h in
    let b = as_number a.inner (pos (suc n)) a.same in
    subst (StandsFor (single (negsuc n)) ValueType.Int 2) (sym (a.is ∙ ap (minus a.place) b.is)) (plain_minus a.place b.place n)

bit_near : (b : Bool) → is_too_far (of_bool b) ≡ false
unfolding of_bool is_too_far absolute_of
bit_near true = refl
bit_near false = refl

plain_truth : (p : Place) (n : ℤ) (b : Bool) → of_bool b ≡ n → StandsFor (single n) ValueType.Bool 1 (truth p b)
unfolding evaluate judge faults met numbers_at number_in
plain_truth p n b e =
    record {
      value = λ mode env. ap (λ m. Some (single m)) e;
      judged = λ context. refl;
      faultless = λ context decisions. refl;
      within = λ near mode env. near_first mode (a_node env (truth p b)) [] (alone_near (is_too_far (of_bool b)) (bit_near b)) refl;
      counted = λ mode env. refl;
    }

-- how many nodes the expression of a number of a scalar has
pub scalar_count : Scalar → ℤ → ℕ
scalar_count Scalar.Bool n = 1
scalar_count Scalar.Int n = number_count n

pub scalar_stands : (s : Scalar) (n : ℤ) (e : ExprTree) → is_number_of s n ≡ true → placeless e ≡ placeless (scalar_expr s n) → StandsFor (single n) (of_scalar s) (scalar_count s n) e
unfolding scalar_expr placeless is_number_of scalar_count of_scalar
scalar_stands Scalar.Bool n e is h =
    let a = as_truth e (int_eq n (pos 1)) h in
    subst (StandsFor (single n) ValueType.Bool 1) (sym a.is) (plain_truth a.place n (int_eq n (pos 1)) (truth_is n is))
scalar_stands Scalar.Int n e is h = number_stands n e h

-- ---- ranges

-- both ends of a run are within the limit of reach
abbrev pub near_run : Stretch → Bool
near_run s = is_near s.first && is_near s.last

-- how many nodes the bounds of runs have
run_count : Bool → Stretch → ℕ
run_count true s = number_count s.first
run_count false s = number_count s.first + number_count s.last

runs_count : List Stretch → ℕ
runs_count [] = 0
runs_count (s ∷ ss) = run_count (int_eq s.first s.last) s + runs_count ss

-- the types of the bounds of ranges, each an integer
record AreIntegers (judged : List Judged) : Type 0 where
  types : List ValueType
  each : all_typed judged ≡ Some types
  integer : list_all is_integer types ≡ true

-- ranges have the numbers of some runs
record RangesStand (ss : List Stretch) (rs : Ranges) : Type 0 where
  value : (mode : Mode) (env : Env) → range_values mode env rs ≡ Some (gathered ss)
  judged : (context : Context) → AreIntegers (judge_ranges context rs)
  shut : has_open_range rs ≡ false
  faultless : (context : Context) → faults_of_ranges context rs ≡ []
  within : list_all near_run ss ≡ true → (mode : Mode) (env : Env) → AreNear mode (met_ranges mode env rs)
  counted : (mode : Mode) (env : Env) → size_of (met_ranges mode env rs) ≡ runs_count ss

no_range_stands : RangesStand [] no_ranges
unfolding evaluate judge faults met has_open_range all_typed runs_count
no_range_stands =
    record {
      value = λ mode env. refl;
      judged = λ context. record { types = []; each = refl; integer = refl };
      shut = refl;
      faultless = λ context. refl;
      within = λ near mode env. refl;
      counted = λ mode env. refl;
    }

integers_more : (j : Judged) (js : List Judged) → j ≡ typed ValueType.Int → AreIntegers js → AreIntegers (j ∷ js)
unfolding all_typed is_integer
integers_more j js h k =
    record {
      types = ValueType.Int ∷ k.types;
      each = ap (λ x. all_typed (x ∷ js)) h ∙ ap (option_map (λ ts. ValueType.Int ∷ ts)) k.each;
      integer = k.integer;
    }

one_stands : (n : ℤ) (e : ExprTree) (ss : List Stretch) (rs : Ranges) → StandsFor (single n) ValueType.Int (number_count n) e → RangesStand ss rs → RangesStand (record { first = n; last = n } ∷ ss) (one_and e rs)
unfolding evaluate judge faults met has_open_range runs_count run_count map_both number_in united is_near_value
one_stands n e ss rs h k =
    record {
      value = λ mode env.
          ap₂ (λ v w. map_both put_in (number_in v) w) (h.value mode env) (k.value mode env)
          ∙ ap (λ ns. Some (united ns (gathered ss))) (sym (one_between n));
      judged = λ context. integers_more (judge context e) (judge_ranges context rs) (h.judged context) (k.judged context);
      shut = k.shut;
      faultless = λ context. ap₂ (λ xs ys. xs ++ ys) (h.faultless context false) (k.faultless context);
      within = λ near mode env.
          let parts = and_parts (is_near n && is_near n) (list_all near_run ss) near in
          near_joined mode (met mode env e) (met_ranges mode env rs) (h.within (and_parts (is_near n) (is_near n) parts.0).0 mode env) (k.within parts.1 mode env);
      counted = λ mode env.
          length-append (met mode env e) (met_ranges mode env rs)
          ∙ ap₂ (λ x y. x + y) (h.counted mode env) (k.counted mode env)
          ∙ ap (λ b. run_count b (record { first = n; last = n }) + runs_count ss) (sym ((Decides-int_eq n n).1 refl));
    }

span_stands : (m n : ℤ) (e f : ExprTree) (ss : List Stretch) (rs : Ranges) → int_eq m n ≡ false → StandsFor (single m) ValueType.Int (number_count m) e → StandsFor (single n) ValueType.Int (number_count n) f → RangesStand ss rs
    → RangesStand (record { first = m; last = n } ∷ ss) (span_and (end_at e) (end_at f) rs)
unfolding evaluate judge faults met has_open_range runs_count run_count map_both number_in is_near_value
span_stands m n e f ss rs apart h j k =
    record {
      value = λ mode env.
          ap₂ (λ v w. map_both united (map_both between (number_in v) (number_in w)) (range_values mode env rs)) (h.value mode env) (j.value mode env)
          ∙ ap (map_both united (Some (between m n))) (k.value mode env);
      judged = λ context.
          integers_more (judge context e) (judge context f ∷ judge_ranges context rs) (h.judged context)
          (integers_more (judge context f) (judge_ranges context rs) (j.judged context) (k.judged context));
      shut = k.shut;
      faultless = λ context. ap₂ (λ xs ys. xs ++ ys) (ap₂ (λ xs ys. xs ++ ys) (h.faultless context false) (j.faultless context false)) (k.faultless context);
      within = λ near mode env.
          let parts = and_parts (is_near m && is_near n) (list_all near_run ss) near in
          let ends = and_parts (is_near m) (is_near n) parts.0 in
          near_joined mode (met mode env e ++ met mode env f) (met_ranges mode env rs)
          (near_joined mode (met mode env e) (met mode env f) (h.within ends.0 mode env) (j.within ends.1 mode env)) (k.within parts.1 mode env);
      counted = λ mode env.
          length-append (met mode env e ++ met mode env f) (met_ranges mode env rs)
          ∙ ap (λ x. x + size_of (met_ranges mode env rs)) (length-append (met mode env e) (met mode env f))
          ∙ ap₂ (λ x y. x + y) (ap₂ (λ x y. x + y) (h.counted mode env) (j.counted mode env)) (k.counted mode env)
          ∙ ap (λ b. run_count b (record { first = m; last = n }) + runs_count ss) (sym apart);
    }

-- a run before others
run_stands : (b : Bool) (m n : ℤ) (ss : List Stretch) (rs : Ranges) → int_eq m n ≡ b
    → placeless_ranges rs ≡ placeless_ranges (cond b (one_and (number_expr m) (run_ranges ss)) (span_and (end_at (number_expr m)) (end_at (number_expr n)) (run_ranges ss)))
    → ((others : Ranges) → placeless_ranges others ≡ placeless_ranges (run_ranges ss) → RangesStand ss others) → RangesStand (record { first = m; last = n } ∷ ss) rs
unfolding placeless
run_stands true m n ss rs same h others =
    let a = as_one rs (placeless (number_expr m)) (placeless_ranges (run_ranges ss)) h in
    let one : RangesStand (record { first = m; last = m } ∷ ss) (one_and a.one a.others) = one_stands m a.one ss a.others (number_stands m a.one a.same_one) (others a.others a.same_others) in
    subst (RangesStand (record { first = m; last = n } ∷ ss)) (sym a.is)
    (subst (λ k. RangesStand (record { first = m; last = k } ∷ ss) (one_and a.one a.others)) ((Decides-int_eq m n).0 same) one)
run_stands false m n ss rs apart h others =
    let a = as_span rs (placeless (number_expr m)) (placeless (number_expr n)) (placeless_ranges (run_ranges ss)) h in
    let low : AsEnd (placeless (number_expr m)) a.below = a.same_low in
    let high : AsEnd (placeless (number_expr n)) a.above = a.same_high in
    subst (RangesStand (record { first = m; last = n } ∷ ss)) (sym (a.is ∙ ap₂ (λ x y. span_and x y a.others) low.is high.is))
    (span_stands m n low.inner high.inner ss a.others apart (number_stands m low.inner low.same) (number_stands n high.inner high.same) (others a.others a.same_others))

runs_stand : (ss : List Stretch) (rs : Ranges) → placeless_ranges rs ≡ placeless_ranges (run_ranges ss) → RangesStand ss rs
unfolding placeless run_ranges run_and
runs_stand [] rs h = subst (RangesStand []) (sym (as_no_ranges rs h)) no_range_stands
runs_stand (s ∷ ss) rs h = run_stands (int_eq s.first s.last) s.first s.last ss rs refl h (λ others k. runs_stand ss others k)

-- ---- index domains

either_near : (b : Bool) (n : ℤ) (s : Stretch) (others : List Stretch) → is_near n ≡ true → near_run s ≡ true → list_all near_run others ≡ true
    → list_all near_run (cond b (record { first = n; last = s.last } ∷ others) (record { first = n; last = n } ∷ s ∷ others)) ≡ true
either_near true n s others e f g = and_from _ _ (and_from _ _ e (and_parts (is_near s.first) _ f).1) g
either_near false n s others e f g = and_from _ _ (and_from _ _ e e) (and_from _ _ f g)

stretched_near : (n : ℤ) (ss : List Stretch) → is_near n ≡ true → list_all near_run ss ≡ true → list_all near_run (stretch_from n ss) ≡ true
unfolding stretch_from
stretched_near n [] e f = and_from _ _ (and_from _ _ e e) refl
stretched_near n (s ∷ ss) e f =
    let parts = and_parts (near_run s) _ f in
    either_near (int_eq (n +ℤ pos 1) s.first) n s ss e parts.0 parts.1

-- the ends of the runs of some numbers are among these
runs_near : (ns : List ℤ) → list_all is_near ns ≡ true → list_all near_run (runs_of ns) ≡ true
unfolding runs_of
runs_near [] e = refl
runs_near (n ∷ ns) e = let parts = and_parts (is_near n) _ e in stretched_near n (runs_of ns) parts.0 (runs_near ns parts.1)

-- a domain has some numbers, is of integers, and has no fault, no number past the limit of reach, and so many nodes
pub record DomainStands (indices : List ℤ) (n : ℕ) (d : DomainTree) : Type 0 where
  pub value : (mode : Mode) (env : Env) → domain_values mode env d ≡ Some indices
  pub judged : (context : Context) → judge_domain context d ≡ typed ValueType.Int
  pub faultless : (context : Context) → domain_faults context false d ≡ []
  pub within : list_all is_near indices ≡ true → (mode : Mode) (env : Env) → AreNear mode (met_domain mode env d)
  pub counted : (mode : Mode) (env : Env) → size_of (met_domain mode env d) ≡ n

integers_judged : (js : List Judged) → AreIntegers js → from_many js (λ ts. gives ValueType.Int (list_all is_integer ts)) ≡ typed ValueType.Int
unfolding from_many from_all gives
integers_judged js h = ap (λ o. from_all o (λ ts. gives ValueType.Int (list_all is_integer ts))) h.each ∙ ap (gives ValueType.Int) h.integer

ranges_stand : (p : Place) (ss : List Stretch) (rs : Ranges) (indices : List ℤ) → gathered ss ≡ indices → (list_all is_near indices ≡ true → list_all near_run ss ≡ true) → RangesStand ss rs
    → DomainStands indices (runs_count ss) (ranges p rs)
unfolding evaluate judge faults met unless type_fault
ranges_stand p ss rs indices numbers near h =
    record {
      value = λ mode env. h.value mode env ∙ ap Some numbers;
      judged = λ context. integers_judged (judge_ranges context rs) (h.judged context);
      faultless = λ context.
          ap₂ (λ xs ys. xs ++ ys)
          (ap₂ (λ b j. unless (not b) (open_domain p) ++ type_fault p j) h.shut (integers_judged (judge_ranges context rs) (h.judged context))) (h.faultless context);
      within = λ all. h.within (near all);
      counted = h.counted;
    }

-- how many nodes the domain of some indices has
pub indices_count : List ℤ → ℕ
indices_count [] = 2
indices_count (n ∷ ns) = runs_count (runs_of (n ∷ ns))

-- the empty range of no indices
no_indices : List Stretch
no_indices = record { first = pos 1; last = pos 0 } ∷ []

no_number : gathered no_indices ≡ []
unfolding no_indices united between count_between counting
no_number = refl

no_far : list_all near_run no_indices ≡ true
unfolding no_indices is_near is_too_far absolute_of
no_far = refl

pub indices_stand : (indices : List ℤ) (d : DomainTree) → IsAscending indices → placeless_domain d ≡ placeless_domain (indices_domain indices) → DomainStands indices (indices_count indices) d
unfolding placeless indices_domain indices_count no_indices run_ranges run_and number_expr runs_count run_count number_count
indices_stand [] d up h =
    let a = as_ranges d (placeless_ranges (run_ranges no_indices)) h in
    subst (DomainStands [] 2) (sym a.is) (ranges_stand a.place no_indices a.inner [] no_number (λ all. no_far) (runs_stand no_indices a.inner a.same))
indices_stand (n ∷ ns) d up h =
    let a = as_ranges d (placeless_ranges (run_ranges (runs_of (n ∷ ns)))) h in
    subst (DomainStands (n ∷ ns) (runs_count (runs_of (n ∷ ns)))) (sym a.is)
    (ranges_stand a.place (runs_of (n ∷ ns)) a.inner (n ∷ ns) (runs_read (n ∷ ns) up).numbers (runs_near (n ∷ ns)) (runs_stand (runs_of (n ∷ ns)) a.inner a.same))
