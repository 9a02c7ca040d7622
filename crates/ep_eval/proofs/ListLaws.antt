-- Lists of numbers, seen from one part on.
use Rattle.ep_eval.proofs.Words.{◌≡◌, ◌≢◌, ℕ, suc, zero, ◌+◌, ◌<◌, ℤ, pos, ◌+ℤ◌, Bool, true, false, List, [], ◌∷◌, ◌++◌, length, get_or, take, refl, sym, ap, ◌∙◌, arith, add-one, Option, Some, None, option_map, not, ◌&&◌, ◌||◌, cond, ◌==◌, if◌then◌else◌, int_lt, list_all, list_any, int_eq, is_eq, Less, Equal, Greater, one_answer, Decides-int_eq, same_from_decides, eq_by_cmp_equiv, int_cmp_total, Contains-from_any, list_any-from_Contains, ints, count_by_more_no, count_by_more_yes, all_one, any_one, are_different, compare_holds, counts_hold, has_number, is_one, is_row_of, lex_less, same_numbers, times_in, CompareOp, counting}
use Rattle.std.specs.Prelude.{Contains}

-- ---- truths

pub all_step : (x : ℤ) (xs : List ℤ) → is_one x ≡ true → all_one (x ∷ xs) ≡ all_one xs
unfolding all_one
all_step x xs h = ap (λ b. b && list_all is_one xs) h

pub all_fails : (x : ℤ) (xs : List ℤ) → is_one x ≡ false → all_one (x ∷ xs) ≡ false
unfolding all_one
all_fails x xs h = ap (λ b. b && list_all is_one xs) h

pub all_none : all_one [] ≡ true
unfolding all_one
all_none = refl

pub any_step : (x : ℤ) (xs : List ℤ) → is_one x ≡ false → any_one (x ∷ xs) ≡ any_one xs
unfolding any_one
any_step x xs h = ap (λ b. b || list_any is_one xs) h

pub any_found : (x : ℤ) (xs : List ℤ) → is_one x ≡ true → any_one (x ∷ xs) ≡ true
unfolding any_one
any_found x xs h = ap (λ b. b || list_any is_one xs) h

pub any_none : any_one [] ≡ false
unfolding any_one
any_none = refl

-- ---- members

pub has_step : (n x : ℤ) (xs : List ℤ) → int_eq n x ≡ false → has_number (x ∷ xs) n ≡ has_number xs n
unfolding has_number
has_step n x xs h = ap (λ b. b || list_any (λ y. int_eq n y) xs) h

pub has_found : (n x : ℤ) (xs : List ℤ) → int_eq n x ≡ true → has_number (x ∷ xs) n ≡ true
unfolding has_number
has_found n x xs h = ap (λ b. b || list_any (λ y. int_eq n y) xs) h

pub has_none : (n : ℤ) → has_number [] n ≡ false
unfolding has_number
has_none n = refl

pub has_is : (b : Bool) (ns : List ℤ) (n : ℤ) → (b ≡ true → Contains ns n) → (Contains ns n → b ≡ true) → b ≡ has_number ns n
unfolding has_number
has_is b ns n f g =
    same_from_decides {P = Contains ns n} b (list_any (λ y. int_eq n y) ns) (f, g)
    (Contains-from_any (λ x y h. (Decides-int_eq x y).0 h) n ns, list_any-from_Contains (eq_by_cmp_equiv int_cmp_total) n ns)

-- ---- order

equal_is : (a b : Bool) → a ≡ false → b ≡ false → is_eq (cond a Less (cond b Greater Equal)) ≡ true
equal_is false false h k = refl
equal_is true b h k = absurd cc
equal_is false true h k = absurd cc

unequal_is : (a b : Bool) → b ≡ true → is_eq (cond a Less (cond b Greater Equal)) ≡ false
unequal_is true true k = refl
unequal_is false true k = refl
unequal_is a false k = absurd cc

pub lex_step : (x y : ℤ) (xs ys : List ℤ) → int_lt x y ≡ false → int_lt y x ≡ false → lex_less (x ∷ xs) (y ∷ ys) ≡ lex_less xs ys
unfolding lex_less
lex_step x y xs ys h k =
    ap (λ b. b || (int_eq x y && lex_less xs ys)) h ∙ ap (λ b. b && lex_less xs ys) (equal_is (int_lt x y) (int_lt y x) h k)

pub lex_less_there : (x y : ℤ) (xs ys : List ℤ) → int_lt x y ≡ true → lex_less (x ∷ xs) (y ∷ ys) ≡ true
unfolding lex_less
lex_less_there x y xs ys h = ap (λ b. b || (int_eq x y && lex_less xs ys)) h

pub lex_more_there : (x y : ℤ) (xs ys : List ℤ) → int_lt x y ≡ false → int_lt y x ≡ true → lex_less (x ∷ xs) (y ∷ ys) ≡ false
unfolding lex_less
lex_more_there x y xs ys h k =
    ap (λ b. b || (int_eq x y && lex_less xs ys)) h ∙ ap (λ b. b && lex_less xs ys) (unequal_is (int_lt x y) (int_lt y x) k)

pub lex_longer : (x : ℤ) (xs : List ℤ) → lex_less (x ∷ xs) [] ≡ false
unfolding lex_less
lex_longer x xs = refl

pub lex_prefix : (ys : List ℤ) (b : Bool) → ((0 < length ys) → b ≡ true) → (length ys ≡ 0 → b ≡ false) → b ≡ lex_less [] ys
unfolding lex_less
lex_prefix [] b h k = k refl
lex_prefix (y ∷ ys) b h k = h (omega arith)

-- ---- equal lists

pub same_step : (x y : ℤ) (xs ys : List ℤ) → int_eq x y ≡ true → same_numbers (x ∷ xs) (y ∷ ys) ≡ same_numbers xs ys
unfolding same_numbers
same_step x y xs ys h = ap (λ b. b && same_numbers xs ys) h

pub same_fails : (x y : ℤ) (xs ys : List ℤ) → int_eq x y ≡ false → same_numbers (x ∷ xs) (y ∷ ys) ≡ false
unfolding same_numbers
same_fails x y xs ys h = ap (λ b. b && same_numbers xs ys) h

pub same_none : same_numbers [] [] ≡ true
unfolding same_numbers
same_none = refl

pub same_lengths : (xs ys : List ℤ) → length xs ≢ length ys → same_numbers xs ys ≡ false
unfolding same_numbers
same_lengths [] [] h = absurd (h refl)
same_lengths [] (y ∷ ys) h = refl
same_lengths (x ∷ xs) [] h = refl
same_lengths (x ∷ xs) (y ∷ ys) h =
    ap (λ b. int_eq x y && b) (same_lengths xs ys (λ e. h (omega (arith, e)))) ∙ never (int_eq x y)
  where
    never : (b : Bool) → (b && false) ≡ false
    never true = refl
    never false = refl

-- ---- counts

pub counts_step : (op : CompareOp) (xs values counts : List ℤ) (v c : ℤ) → compare_holds op (times_in xs v) c ≡ true
    → counts_hold op xs (v ∷ values) (c ∷ counts) ≡ counts_hold op xs values counts
unfolding counts_hold
counts_step op xs values counts v c h = ap (λ b. option_map (λ others. b && others) (counts_hold op xs values counts)) h ∙ same (counts_hold op xs values counts)
  where
    same : (o : Option Bool) → option_map (λ others. true && others) o ≡ o
    same None = refl
    same (Some b) = refl

-- equally many have an answer
counts_told : (op : CompareOp) (xs values counts : List ℤ) → length values ≡ length counts → (b : Bool) × (counts_hold op xs values counts ≡ Some b)
unfolding counts_hold
counts_told op xs [] [] h = (true, refl)
counts_told op xs [] (c ∷ counts) h = absurd (omega (arith, h))
counts_told op xs (v ∷ values) [] h = absurd (omega (arith, h))
counts_told op xs (v ∷ values) (c ∷ counts) h =
    let rest = counts_told op xs values counts (omega (arith, h)) in
    (compare_holds op (times_in xs v) c && rest.0, ap (option_map (λ others. compare_holds op (times_in xs v) c && others)) rest.1)

pub counts_fail : (op : CompareOp) (xs values counts : List ℤ) (v c : ℤ) → compare_holds op (times_in xs v) c ≡ false → length values ≡ length counts
    → counts_hold op xs (v ∷ values) (c ∷ counts) ≡ Some false
unfolding counts_hold
counts_fail op xs values counts v c h k =
    let rest = counts_told op xs values counts k in
    ap (λ b. option_map (λ others. b && others) (counts_hold op xs values counts)) h ∙ ap (option_map (λ others. false && others)) rest.1

pub counts_none : (op : CompareOp) (xs : List ℤ) → counts_hold op xs [] [] ≡ Some true
unfolding counts_hold
counts_none op xs = refl

pub counts_lengths : (op : CompareOp) (xs values counts : List ℤ) → length values ≢ length counts → counts_hold op xs values counts ≡ None
unfolding counts_hold
counts_lengths op xs [] [] h = absurd (h refl)
counts_lengths op xs [] (c ∷ counts) h = refl
counts_lengths op xs (v ∷ values) [] h = refl
counts_lengths op xs (v ∷ values) (c ∷ counts) h =
    ap (option_map (λ others. compare_holds op (times_in xs v) c && others)) (counts_lengths op xs values counts (λ e. h (omega (arith, e))))

pub times_none : (n : ℤ) → pos 0 ≡ times_in [] n
unfolding times_in
times_none n = refl

pub times_more : (xs : List ℤ) (n : ℤ) (i : ℕ) → i < length xs → int_eq n (get_or xs i (pos 0)) ≡ true → times_in (take (i + 1) xs) n ≡ times_in (take i xs) n +ℤ pos 1
unfolding times_in
times_more xs n i h k = ap pos (count_by_more_yes (λ y. int_eq n y) xs i (pos 0) h k)

pub times_same : (xs : List ℤ) (n : ℤ) (i : ℕ) → i < length xs → int_eq n (get_or xs i (pos 0)) ≡ false → times_in (take (i + 1) xs) n ≡ times_in (take i xs) n
unfolding times_in
times_same xs n i h k = ap pos (count_by_more_no (λ y. int_eq n y) xs i (pos 0) h k)

-- ---- rows

pub row_step : (row : List ℤ) (rows : List (List ℤ)) (xs : List ℤ) (found : Bool) → length row ≡ length xs
    → option_map (λ b. found || b) (is_row_of (row ∷ rows) xs) ≡ option_map (λ b. (found || same_numbers row xs) || b) (is_row_of rows xs)
unfolding is_row_of
row_step row rows xs found h =
    ap (λ b. option_map (λ a. found || a) (if b && list_all (λ r. length r == length xs) rows then Some (same_numbers row xs || list_any (λ r. same_numbers r xs) rows) else None)) (same_length (length row) (length xs) h)
    ∙ by (list_all (λ r. length r == length xs) rows) found (same_numbers row xs) (list_any (λ r. same_numbers r xs) rows)
  where
    same_length : (m n : ℕ) → m ≡ n → (m == n) ≡ true
    same_length m n e = grind arith

    by : (b f s o : Bool) → option_map (λ a. f || a) (if b then Some (s || o) else None) ≡ option_map (λ a. (f || s) || a) (if b then Some o else None)
    by true true s o = refl
    by true false s o = refl
    by false f s o = refl

pub row_fails : (row : List ℤ) (rows : List (List ℤ)) (xs : List ℤ) (found : Bool) → length row ≢ length xs
    → option_map (λ b. found || b) (is_row_of (row ∷ rows) xs) ≡ None
unfolding is_row_of
row_fails row rows xs found h =
    ap (λ b. option_map (λ a. found || a) (if b && list_all (λ r. length r == length xs) rows then Some (same_numbers row xs || list_any (λ r. same_numbers r xs) rows) else None)) (other_length (length row) (length xs) h)
  where
    other_length : (m n : ℕ) → m ≢ n → (m == n) ≡ false
    other_length m n e = grind arith

pub row_none : (xs : List ℤ) (found : Bool) → option_map (λ b. found || b) (is_row_of [] xs) ≡ Some found
unfolding is_row_of
row_none xs true = refl
row_none xs false = refl

pub row_begins : (o : Option Bool) → o ≡ option_map (λ b. false || b) o
row_begins None = refl
row_begins (Some b) = refl

-- ---- differences

turned : (x y : ℤ) → int_eq x y ≡ int_eq y x
turned x y = one_answer {P = x ≡ y} (int_eq x y) (int_eq y x) (Decides-int_eq x y) (λ h. sym ((Decides-int_eq y x).0 h), λ e. (Decides-int_eq y x).1 (sym e))

any_append : (f : ℤ → Bool) (xs ys : List ℤ) → list_any f (xs ++ ys) ≡ (list_any f xs || list_any f ys)
any_append f [] ys = refl
any_append f (x ∷ xs) ys = by (f x) (any_append f xs ys)
  where
    by : (b : Bool) → list_any f (xs ++ ys) ≡ (list_any f xs || list_any f ys) → (b || list_any f (xs ++ ys)) ≡ ((b || list_any f xs) || list_any f ys)
    by true h = refl
    by false h = h

pub has_more : (xs : List ℤ) (x q : ℤ) → has_number (xs ++ x ∷ []) q ≡ cond (int_eq x q) true (has_number xs q)
unfolding has_number
has_more xs x q =
    any_append (λ y. int_eq q y) xs (x ∷ []) ∙ ap (λ b. list_any (λ y. int_eq q y) xs || (b || false)) (turned q x) ∙ by (list_any (λ y. int_eq q y) xs) (int_eq x q)
  where
    by : (a b : Bool) → (a || (b || false)) ≡ cond b true a
    by true true = refl
    by true false = refl
    by false true = refl
    by false false = refl

pub different_none : are_different [] ≡ true
unfolding are_different
different_none = refl

pub different_more : (xs : List ℤ) (x : ℤ) → are_different (xs ++ x ∷ []) ≡ (are_different xs && not (has_number xs x))
unfolding are_different has_number
different_more [] x = refl
different_more (y ∷ ys) x =
    ap (λ b. not b && are_different (ys ++ x ∷ [])) (has_more ys x y)
    ∙ ap (λ b. not (cond (int_eq x y) true (has_number ys y)) && b) (different_more ys x)
    ∙ by (int_eq x y) (has_number ys y) (are_different ys) (has_number ys x)
  where
    by : (e h d o : Bool) → (not (cond e true h) && (d && not o)) ≡ ((not h && d) && not (e || o))
    by true true d o = refl
    by true false true o = refl
    by true false false o = refl
    by false true d o = refl
    by false false true o = refl
    by false false false o = refl

pub different_fails : (xs ys : List ℤ) → are_different xs ≡ false → are_different (xs ++ ys) ≡ false
unfolding are_different has_number
different_fails [] ys h = absurd cc
different_fails (x ∷ xs) ys h = by (has_number xs x) (has_number (xs ++ ys) x) (are_different xs) (are_different (xs ++ ys))
    (λ k. any_append (λ y. int_eq x y) xs ys ∙ ap (λ b. b || list_any (λ y. int_eq x y) ys) k) (different_fails xs ys) h
  where
    by : (a b c d : Bool) → (a ≡ true → b ≡ true) → (c ≡ false → d ≡ false) → (not a && c) ≡ false → (not b && d) ≡ false
    by true b c d f g k = ap (λ x. not x && d) (f refl)
    by false true c d f g k = refl
    by false false c d f g k = g k
