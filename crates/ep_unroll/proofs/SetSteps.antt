-- Membership in the sets of matrices' scalars.
use Rattle.ep_unroll.proofs.Words.{◌≡◌, ℕ, ◌+◌, ◌<◌, ◌≤◌, ℤ, pos, ◌+ℤ◌, ◌-ℤ◌, Bool, true, false, ◌||◌, List, [], ◌∷◌, ◌++◌, length, drop, get_or, Some, None, refl, sym, ap, subst, ◌∙◌, arith, Option, is_some, map, option_map, ◌↔◌, All, Any, int_eq, Decides-int_eq, ints, at_drop_all, at_drop_more, Contains-from_any, in_numbers, any_one, compare_holds, has_number, is_one, of_bool, map_both, on_both, all_there, IsIn, counting, numbers_in, or_zero, CompareOp, Place, Run, has_is, GroundNode, node_value, term_value, evaluate-in_set, Env, evaluate, number_in, scalars_in, truth_in, undefined_truth, ExprTree, in_set, Mode, Grows, Puts, IsNumberOf, IsTermOf, ArePartial, HasNumber, IsWhole, numbers_of_terms, only_where, Numbering, Reading, AreScalarsOf, AreEqualities, IsJudged, needed_in}
use Rattle.std.specs.List.{Contains}
use Rattle.ep_base.specs.Runs as runs
use Rattle.ep_ground.specs.Nodes as node
use Rattle.ep_ground.specs.Terms as ground
use Rattle.ep_ground.specs.Terms.{truth}
use Rattle.ep_unroll.proofs.FormValues.{grown_value, grows_on, one_truth, truth_told, untold_is}
use Rattle.ep_unroll.proofs.MatrixSteps.{values_kept}
use Rattle.ep_unroll.proofs.MeaningSteps.{Listing, listing_begins, listing_ends, listing_more}
use Rattle.ep_unroll.proofs.TruthSteps.{told_both}

-- ---- a set of numbers

-- the run of one number
abbrev pub one_run : ℤ → Run
one_run x = record { lo = x; hi = x }

one_in : (x : ℤ) → numbers_in (one_run x) ≡ x ∷ []
unfolding numbers_in counting
one_in x = ap (λ n. counting x (or_zero n)) (one_long x)
  where
    one_long : (y : ℤ) → (y +ℤ pos 1) -ℤ y ≡ pos 1
    one_long y = omega (arith, ints)

ones_have : (xs : List ℤ) → runs.numbers (map one_run xs) ≡ xs
unfolding runs.numbers
ones_have [] = refl
ones_have (x ∷ xs) = ap (λ l. l ++ runs.numbers (map one_run xs)) (one_in x) ∙ ap (λ l. x ∷ l) (ones_have xs)

pub set_has : (set xs : List ℤ) (parts : List Run) → parts ≡ map one_run xs → ((n : ℤ) → Contains set n ↔ Any (IsIn n) parts) → (x : ℤ) → has_number set x ≡ has_number xs x
unfolding has_number
set_has set xs parts are same x =
    has_is (has_number set x) xs x
    (λ h. subst (λ l. Contains l x) (ones_have xs) ((in_numbers (map one_run xs) x).1 (subst (Any (IsIn x)) are ((same x).0 (Contains-from_any (λ m n e. (Decides-int_eq m n).0 e) x set h)))))
    (λ h. sym (has_is true set x (λ e. (same x).1 (subst (Any (IsIn x)) (sym are) ((in_numbers (map one_run xs) x).0 (subst (λ l. Contains l x) (sym (ones_have xs)) h)))) (λ e. refl)))

-- ---- a list of numbers

same_test : (ns ms : List ℤ) (o : Option ℤ) → ((x : ℤ) → has_number ms x ≡ has_number ns x) → option_map (has_number ns) o ≡ option_map (has_number ms) o
same_test ns ms None h = refl
same_test ns ms (Some x) h = ap Some (sym (h x))

pub listed_is : (n : Numbering) (cells : Env) (nodes mid new : List GroundNode) (p : Place) (e f : ExprTree) (ns ms : List ℤ) (a t : ℕ) (us : List ℕ)
    → ((r : Reading n cells) → scalars_in (evaluate n.mode r.values f) ≡ Some ns) → ((x : ℤ) → has_number ms x ≡ has_number ns x)
    → IsNumberOf n cells nodes mid e a → ArePartial mid n.count (needed_in n.mode (a ∷ [])) us → IsJudged mid new (node.member a ms) us t → IsTermOf n cells nodes new (in_set p e f) t
unfolding node_value map_both
listed_is n cells nodes mid new p e f ns ms a t us list same =
    one_truth n cells nodes mid new e (in_set p e f) a t us (node.member a ms) (has_number ms)
    (λ r. evaluate-in_set n.mode r.values p e f
    ∙ ap (λ o. truth_in n.mode (map_both has_number o (number_in (evaluate n.mode r.values e)))) (list r)
    ∙ ap (truth_in n.mode) (same_test ns ms (number_in (evaluate n.mode r.values e)) same))
    (λ numbers value. refl)

pub listed_none : (n : Numbering) (cells : Env) (nodes mid new : List GroundNode) (p : Place) (e f : ExprTree) (mode : Mode) (a t : ℕ) → n.mode ≡ mode
    → ((r : Reading n cells) → scalars_in (evaluate n.mode r.values f) ≡ None)
    → IsNumberOf n cells nodes mid e a → HasNumber mid new (λ numbers. number_in (undefined_truth mode)) t → IsTermOf n cells nodes new (in_set p e f) t
unfolding map_both
listed_none n cells nodes mid new p e f mode a t is list h =
    untold_is n cells nodes mid new (in_set p e f) mode t is h.grows
    (λ r. evaluate-in_set n.mode r.values p e f ∙ ap (λ o. truth_in n.mode (map_both has_number o (number_in (evaluate n.mode r.values e)))) (list r))

-- ---- equalities with terms

-- whether two numbers are one, 0 where one isn't there
unfoldable pub equal_value : Option ℤ → Option ℤ → Option ℤ
equal_value a b = truth (on_both a b (λ x y. Some (compare_holds CompareOp.Equal x y)))

-- equalities so far, of terms of which those behind a place are left
abbrev pub EqualitiesSoFar : List GroundNode → List GroundNode → ℕ → List ℕ → ℕ → List ℕ → Type 0
EqualitiesSoFar old new a ts k us =
    Listing {R = List ℤ} {X = ℕ} (λ numbers. numbers) (λ t. t) (λ t o. o) old new
    (λ numbers. map (λ t. equal_value (term_value old numbers a) (term_value old numbers t)) ts)
    (λ numbers. map (λ t. equal_value (term_value old numbers a) (term_value old numbers t)) (drop k ts)) us

pub equalities_begin : (old : List GroundNode) (a : ℕ) (ts us : List ℕ) → us ≡ [] → EqualitiesSoFar old old a ts 0 us
equalities_begin old a ts us none =
    listing_begins {R = List ℤ} {X = ℕ} (λ numbers. numbers) (λ t. t) (λ t o. o) old old _ _ us refl none (λ numbers. refl)

pub equalities_more : (old mid new : List GroundNode) (a : ℕ) (ts : List ℕ) (k t d u : ℕ) (us vs : List ℕ) → a < length old → All (λ x. x < length old) ts → k < length ts → t ≡ get_or ts k d
    → EqualitiesSoFar old mid a ts k us → Puts mid new (node.compare CompareOp.Equal a t) u → vs ≡ us ++ u ∷ [] → EqualitiesSoFar old new a ts (k + 1) vs
unfolding node_value equal_value
equalities_more old mid new a ts k t d u us vs known all less same so put pushed =
    let f : List ℤ → ℕ → Option ℤ = λ numbers x. equal_value (term_value old numbers a) (term_value old numbers x) in
    let g : Grows old new = grows_on old mid new so.grows put.grows in
    let here : t < length old = subst (λ x. x < length old) (sym same) (all k d less) in
    listing_more {R = List ℤ} {X = ℕ} (λ numbers. numbers) (λ x. x) (λ x o. o) old mid new _ _ (λ numbers. map (f numbers) (drop (k + 1) ts)) (λ numbers. f numbers t) us vs u so
    (λ numbers. at_drop_more (map (f numbers)) ts k d less ∙ ap (λ x. f numbers x ∷ map (f numbers) (drop (k + 1) ts)) (sym same))
    put.grows put.known
    (λ numbers.
    put.value numbers
    ∙ ap (λ o. truth (on_both o (term_value new numbers t) (λ x y. Some (compare_holds CompareOp.Equal x y)))) (grown_value old new numbers a g known)
    ∙ ap (λ o. truth (on_both (term_value old numbers a) o (λ x y. Some (compare_holds CompareOp.Equal x y)))) (grown_value old new numbers t g here))
    pushed

pub equalities_all : (old new : List GroundNode) (a : ℕ) (ts : List ℕ) (k : ℕ) (us : List ℕ) → length ts ≤ k → EqualitiesSoFar old new a ts k us → AreEqualities old new a ts us
unfolding equal_value
equalities_all old new a ts k us h so = record {
  grows = so.grows;
  known = so.known;
  values = listing_ends {R = List ℤ} {X = ℕ} (λ numbers. numbers) (λ t. t) (λ t o. o) old new _ _ us so
      (λ numbers. at_drop_all (map (λ t. equal_value (term_value old numbers a) (term_value old numbers t))) ts k h);
}

-- ---- one of some terms

-- where the number isn't there, no equality is true
none_equal : (os : List (Option ℤ)) → (zs : List ℤ) × (all_there (map (equal_value None) os) ≡ Some zs) × (any_one zs ≡ false)
unfolding all_there equal_value any_one truth of_bool is_one on_both
none_equal [] = ([], refl, refl)
none_equal (o ∷ os) =
    let p = none_equal os in
    (pos 0 ∷ p.0, ap (option_map (λ ns. pos 0 ∷ ns)) p.1, p.2)

-- where all are there, one equality is true where the number stands among them
some_equal : (x : ℤ) (ys : List ℤ) → (zs : List ℤ) × (all_there (map (λ y. equal_value (Some x) (Some y)) ys) ≡ Some zs) × (any_one zs ≡ has_number ys x)
unfolding all_there equal_value any_one has_number truth of_bool is_one on_both compare_holds
some_equal x [] = ([], refl, refl)
some_equal x (y ∷ ys) =
    let p = some_equal x ys in
    (of_bool (int_eq x y) ∷ p.0, ap (option_map (λ ns. of_bool (int_eq x y) ∷ ns)) p.1, by (int_eq x y) (any_one p.0) (has_number ys x) p.2)
  where
    by : (b c d : Bool) → c ≡ d → (is_one (of_bool b) || c) ≡ (b || d)
    by true c d e = refl
    by false c d e = e

there_are : (os : List (Option ℤ)) (ys : List ℤ) → all_there os ≡ Some ys → os ≡ map Some ys
unfolding all_there
there_are [] ys e = ap (map Some) (some_same e)
  where
    some_same : Some [] ≡ Some ys → [] ≡ ys
    some_same h = cc
there_are (None ∷ os) ys e = absurd cc
there_are (Some x ∷ os) ys e = by (all_there os) refl e (λ zs h. there_are os zs h)
  where
    some_same : (zs : List ℤ) → Some (x ∷ zs) ≡ Some ys → x ∷ zs ≡ ys
    some_same zs h = cc

    by : (o : Option (List ℤ)) → all_there os ≡ o → option_map (λ ns. x ∷ ns) o ≡ Some ys → ((zs : List ℤ) → all_there os ≡ Some zs → os ≡ map Some zs) → Some x ∷ os ≡ map Some ys
    by None is h below = absurd cc
    by (Some zs) is h below = ap (λ l. Some x ∷ l) (below zs is) ∙ ap (map Some) (some_same zs h)

mapped_twice : {A B C : Type 0} (f : B → C) (g : A → B) (xs : List A) → map f (map g xs) ≡ map (λ x. f (g x)) xs
mapped_twice f g [] = refl
mapped_twice f g (x ∷ xs) = ap (λ l. f (g x) ∷ l) (mapped_twice f g xs)

-- whether one of the equalities is true, by what has a number
any_equal : (o w : Option ℤ) (l us : Option (List ℤ)) (os : List (Option ℤ)) → all_there os ≡ l → is_some us ≡ is_some l → w ≡ only_where us o
    → truth (option_map any_one (all_there (map (equal_value w) os))) ≡ truth (map_both has_number l o)
unfolding only_where map_both truth of_bool
any_equal o w None None os is there whole =
    let p = none_equal os in
    ap (λ x. truth (option_map any_one (all_there (map (equal_value x) os)))) whole
    ∙ ap (λ x. truth (option_map any_one x)) p.1 ∙ ap (λ b. truth (Some b)) p.2
any_equal o w None (Some ys) os is there whole = absurd cc
any_equal o w (Some ys) None os is there whole = absurd cc
any_equal None w (Some ys) (Some zs) os is there whole =
    let p = none_equal os in
    ap (λ x. truth (option_map any_one (all_there (map (equal_value x) os)))) whole
    ∙ ap (λ x. truth (option_map any_one x)) p.1 ∙ ap (λ b. truth (Some b)) p.2
any_equal (Some x) w (Some ys) (Some zs) os is there whole =
    let p = some_equal x ys in
    ap (λ a. truth (option_map any_one (all_there (map (equal_value a) os)))) whole
    ∙ ap (λ a. truth (option_map any_one (all_there (map (equal_value (Some x)) a)))) (there_are os ys is)
    ∙ ap (λ a. truth (option_map any_one (all_there a))) (mapped_twice (equal_value (Some x)) Some ys)
    ∙ ap (λ a. truth (option_map any_one a)) p.1 ∙ ap (λ b. truth (Some b)) p.2

beside_there : (o : Option ℤ) (l : Option (List ℤ)) (os : List (Option ℤ)) → all_there os ≡ l → is_some (all_there (o ∷ os)) ≡ is_some (map_both has_number l o)
unfolding all_there map_both
beside_there None None os is = refl
beside_there None (Some ys) os is = refl
beside_there (Some x) None os is = ap (λ m. is_some (option_map (λ ns. x ∷ ns) m)) is
beside_there (Some x) (Some ys) os is = ap (λ m. is_some (option_map (λ ns. x ∷ ns) m)) is

pub chosen_is : (n : Numbering) (cells : Env) (nodes mid have with_tests new : List GroundNode) (p : Place) (e f : ExprTree) (count a b t : ℕ) (ts us qs vs : List ℕ)
    → n.count ≡ count → IsNumberOf n cells nodes mid e a → AreScalarsOf n cells nodes mid f ts → ArePartial mid n.count (needed_in n.mode (a ∷ ts)) vs
    → ArePartial mid count ts us → IsWhole mid have us a b
    → AreEqualities have with_tests b ts qs → IsJudged with_tests new (node.any_of qs) vs t → IsTermOf n cells nodes new (in_set p e f) t
unfolding node_value ground.term_values_of equal_value
chosen_is n cells nodes mid have with_tests new p e f count a b t ts us qs vs counted h own needed partial whole tests judged =
    let g : Grows mid judged.between = grows_on mid have judged.between whole.grows (grows_on have with_tests judged.between tests.grows judged.puts.grows) in
    let j : IsJudged mid new (node.any_of qs) vs t = record {
      between = judged.between;
      own = judged.own;
      puts = record { grows = g; known = judged.puts.known; value = judged.puts.value };
      whole = judged.whole;
    } in
    truth_told n cells nodes mid new (in_set p e f) (a ∷ ts) vs t (node.any_of qs)
    (λ r. map_both has_number (scalars_in (evaluate n.mode r.values f)) (number_in (evaluate n.mode r.values e))) h.grows needed j
    (λ r. evaluate-in_set n.mode r.values p e f)
    (λ r.
    let os : List (Option ℤ) = map (term_value mid r.numbers) ts in
    let w : Option ℤ = term_value have r.numbers b in
    told_both n.mode (map_both has_number (scalars_in (evaluate n.mode r.values f)) (number_in (evaluate n.mode r.values e))) (term_value judged.between r.numbers judged.own)
    (judged.puts.value r.numbers
    ∙ ap (λ l. truth (option_map any_one (all_there l)))
    (values_kept with_tests judged.between r.numbers qs judged.puts.grows tests.known ∙ tests.values r.numbers ∙ kept r.numbers w ts (values_kept mid have r.numbers ts whole.grows own.known)
    ∙ sym (mapped_twice (equal_value w) (term_value mid r.numbers) ts))
    ∙ any_equal (term_value mid r.numbers a) w (all_there os) (numbers_of_terms mid r.numbers us) os refl (partial.values r.numbers (subst (λ k. k ≤ length r.numbers) counted r.reads.long)) (whole.value r.numbers)
    ∙ ap (λ l. truth (map_both has_number l (term_value mid r.numbers a))) (own.scalars r)
    ∙ ap (λ o. truth (map_both has_number (scalars_in (evaluate n.mode r.values f)) o)) (h.number r)))
    (λ r. beside_there (term_value mid r.numbers a) (all_there (map (term_value mid r.numbers) ts)) (map (term_value mid r.numbers) ts) refl
    ∙ ap (λ l. is_some (map_both has_number l (term_value mid r.numbers a))) (own.scalars r)
    ∙ ap (λ o. is_some (map_both has_number (scalars_in (evaluate n.mode r.values f)) o)) (h.number r))
  where
    kept : (numbers : List ℤ) (w : Option ℤ) (xs : List ℕ) → map (term_value have numbers) xs ≡ map (term_value mid numbers) xs
        → map (λ x. equal_value w (term_value have numbers x)) xs ≡ map (λ x. equal_value w (term_value mid numbers x)) xs
    kept numbers w xs same = sym (mapped_twice (equal_value w) (term_value have numbers) xs) ∙ ap (map (equal_value w)) same ∙ mapped_twice (equal_value w) (term_value mid numbers) xs
