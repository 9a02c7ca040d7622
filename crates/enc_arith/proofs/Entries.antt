-- Keys that are read number by number.
use Rattle.std.proofs.Common.{◌≡◌, ℕ, zero, suc, ◌+◌, ◌-◌, ◌<◌, nat_lt, ℤ, pos, Bool, true, false, ◌&&◌, not, cond, List, [], ◌∷◌, ◌++◌, ◌≤◌, length, get_or, take, drop, map, refl, sym, ap, ◌∙◌, arith, add-one}
use Rattle.std.specs.Prelude.{Option, Some, None, if◌then◌else◌, option_and_then, option_map, option_to_list, position, slice_get, unwrap_or, MatchOption}
use Rattle.std.specs.List.{All, position_or_len}
use Rattle.std.proofs.Common.{drop-cons}
use Rattle.std.proofs.lemmas.List.{append-nil, map-append, take_all, take_more}
use Rattle.std.proofs.lemmas.List.Elements.{All-append, All-cons, All-head, All-nil, All-tail}
use Rattle.std.specs.Ordering.{int_eq}
use Rattle.std.proofs.lemmas.Bool.Decides.{Decides-int_eq, Decides-like, Decides-ltb, same_from_decides}
use Rattle.ep_base.specs.Numbers.{same_numbers}
use Rattle.ep_base.specs.Reads.{first_or_zero, picked, safe_picked}
use Rattle.ep_flat.specs.Cons.{number_at, numbers_of_vars}
use Rattle.enc_arith.specs.Entries.{HaveParts}
use Rattle.enc_arith.specs.Elements.{element_value, number_of_first, part_of, rest_after, rests_after, with_parts}

chosen : (b : Bool) (key : List ℤ) (part : ℕ) (rest : List (List ℤ × ℕ)) (ns : List ℤ)
    → (if (b && same_numbers key ns) then Some part else part_of rest ns) ≡ part_of ((if b then (key, part) ∷ [] else []) ++ rest) ns
unfolding part_of
chosen true key part rest ns = refl
chosen false key part rest ns = refl

-- one number of the indices is read
pub part_after : (entries : List (List ℤ × ℕ)) (n : ℤ) (ns : List ℤ) → part_of entries (n ∷ ns) ≡ part_of (rests_after n entries) ns
unfolding part_of rests_after rest_after same_numbers
part_after [] n ns = refl
part_after (([], part) ∷ entries) n ns = part_after entries n ns
part_after ((m ∷ key, part) ∷ entries) n ns =
    ap (λ o. if (int_eq m n && same_numbers key ns) then Some part else o) (part_after entries n ns) ∙ chosen (int_eq m n) key part (rests_after n entries) ns

-- where no key is left no part is found
pub no_part : (ns : List ℤ) → part_of [] ns ≡ None
unfolding part_of
no_part ns = refl

pub rests-append : (n : ℤ) (xs ys : List (List ℤ × ℕ)) → rests_after n (xs ++ ys) ≡ rests_after n xs ++ rests_after n ys
unfolding rests_after
rests-append n [] ys = refl
rests-append n (x ∷ xs) ys = ap (λ zs. rest_after n x ++ zs) (rests-append n xs ys) ∙ again (rest_after n x) (rests_after n xs) (rests_after n ys)
  where
    again : (xs ys zs : List (List ℤ × ℕ)) → xs ++ (ys ++ zs) ≡ (xs ++ ys) ++ zs
    again [] ys zs = refl
    again (x ∷ xs) ys zs = ap (λ ws. x ∷ ws) (again xs ys zs)

-- ---- which part the whole indices pick

lt_suc : (n m : ℕ) → nat_lt (suc n) (suc m) ≡ nat_lt n m
lt_suc n m = same_from_decides (nat_lt (suc n) (suc m)) (nat_lt n m) (Decides-ltb (suc n) (suc m)) (Decides-like (nat_lt n m) (λ h. omega arith) (λ h. omega arith) (Decides-ltb n m))

lt_zero : (m : ℕ) → nat_lt zero (suc m) ≡ true
lt_zero m = (Decides-ltb zero (suc m)).1 (omega arith)

counted : (b : Bool) (n m : ℕ) → cond (nat_lt (cond (not b) (suc n) zero) (suc m)) (Some (cond (not b) (suc n) zero)) None ≡ (if b then Some zero else option_map suc (cond (nat_lt n m) (Some n) None))
counted true n m = ap (λ t. cond t (Some zero) None) (lt_zero m)
counted false n m = ap (λ t. cond t (Some (suc n)) None) (lt_suc n m) ∙ by (nat_lt n m)
  where
    by : (t : Bool) → cond t (Some (suc n)) None ≡ option_map suc (cond t (Some n) None)
    by true = refl
    by false = refl

position_more : {X : Type 0} (p : X → Bool) (x : X) (xs : List X) → position p (x ∷ xs) ≡ (if p x then Some zero else option_map suc (position p xs))
position_more p x xs =
    let n : ℕ = position_or_len p xs in
    let one : 1 + n ≡ suc n = omega arith in
    let long : length (x ∷ xs) ≡ suc (length xs) = omega arith in
    ap (λ m. cond (nat_lt (cond (not (p x)) m zero) (length (x ∷ xs))) (Some (cond (not (p x)) m zero)) None) one
    ∙ ap (λ l. cond (nat_lt (cond (not (p x)) (suc n) zero) l) (Some (cond (not (p x)) (suc n) zero)) None) long
    ∙ counted (p x) n (length xs)

none_there : (o : Option ℕ) → option_and_then (slice_get {X = ℤ} []) o ≡ None
none_there None = refl
none_there (Some i) = refl

later : (v : ℤ) (vs : List ℤ) (o : Option ℕ) → option_and_then (slice_get (v ∷ vs)) (option_map suc o) ≡ option_and_then (slice_get vs) o
later v vs None = refl
later v vs (Some i) = refl

-- what is picked is the number of the part of the key
pub picked_part : (values : List ℤ) (xs : List ℕ) (keys : List (List ℤ)) (ns : List ℤ) → picked (numbers_of_vars values xs) keys ns ≡ option_map (number_at values) (part_of (with_parts keys xs) ns)
unfolding picked part_of with_parts numbers_of_vars
picked_part values xs [] ns = refl
picked_part values [] (key ∷ keys) ns = none_there (position (λ k. same_numbers k ns) (key ∷ keys))
picked_part values (x ∷ xs) (key ∷ keys) ns =
    ap (option_and_then (slice_get (number_at values x ∷ map (number_at values) xs))) (position_more (λ k. same_numbers k ns) key keys) ∙ by (picked_part values xs keys ns) (same_numbers key ns)
  where
    by : option_and_then (slice_get (map (number_at values) xs)) (position (λ k. same_numbers k ns) keys) ≡ option_map (number_at values) (part_of (with_parts keys xs) ns)
        → (b : Bool)
        → option_and_then (slice_get (number_at values x ∷ map (number_at values) xs)) (if b then Some zero else option_map suc (position (λ k. same_numbers k ns) keys))
        ≡ option_map (number_at values) (if b then Some x else part_of (with_parts keys xs) ns)
    by rest true = refl
    by rest false = later (number_at values x) (map (number_at values) xs) (position (λ k. same_numbers k ns) keys) ∙ rest

first_number : (values : List ℤ) (o : Option ℕ) (ys : List ℕ) → number_of_first values o (slice_get ys 0) ≡ unwrap_or (option_map (number_at values) o) (first_or_zero (numbers_of_vars values ys))
unfolding number_of_first first_or_zero numbers_of_vars
first_number values (Some x) ys = refl
first_number values None [] = refl
first_number values None (y ∷ ys) = refl

-- an element is the value of its entries
pub element_is : (values : List ℤ) (xs : List ℕ) (keys : List (List ℤ)) (indices : List ℕ)
    → element_value values (with_parts keys xs) (slice_get xs 0) indices ≡ safe_picked (numbers_of_vars values xs) keys (numbers_of_vars values indices)
unfolding element_value safe_picked
element_is values xs keys indices =
    first_number values (part_of (with_parts keys xs) (numbers_of_vars values indices)) xs
    ∙ ap (λ o. unwrap_or o (first_or_zero (numbers_of_vars values xs))) (sym (picked_part values xs keys (numbers_of_vars values indices)))

-- ---- keys with their parts, one by one

no_parts : (keys : List (List ℤ)) → with_parts keys [] ≡ []
unfolding with_parts
no_parts [] = refl
no_parts (key ∷ keys) = refl

pub with_more : (keys : List (List ℤ)) (parts : List ℕ) (k : ℕ) (d : List ℤ) (e : ℕ) → k < length keys → k < length parts
    → with_parts (take (k + 1) keys) parts ≡ with_parts (take k keys) parts ++ (get_or keys k d, get_or parts k e) ∷ []
unfolding with_parts
with_more [] parts k d e low there = absurd (omega (arith, low))
with_more (key ∷ keys) [] k d e low there = absurd (omega (arith, there))
with_more (key ∷ keys) (p ∷ parts) zero d e low there = refl
with_more (key ∷ keys) (p ∷ parts) (suc k) d e low there =
    let is : suc k + 1 ≡ suc (k + 1) = omega arith in
    ap (λ n. with_parts (take n (key ∷ keys)) (p ∷ parts)) is ∙ ap (λ es. (key, p) ∷ es) (with_more keys parts k d e (omega (arith, low)) (omega (arith, there)))

pub with_none : (keys : List (List ℤ)) (parts : List ℕ) (k : ℕ) → k < length keys → length parts ≤ k → with_parts (take (k + 1) keys) parts ≡ with_parts (take k keys) parts
unfolding with_parts
with_none [] parts k low none = absurd (omega (arith, low))
with_none (key ∷ keys) [] k low none = no_parts (take (k + 1) (key ∷ keys)) ∙ sym (no_parts (take k (key ∷ keys)))
with_none (key ∷ keys) (p ∷ parts) zero low none = absurd (omega (arith, none))
with_none (key ∷ keys) (p ∷ parts) (suc k) low none =
    let is : suc k + 1 ≡ suc (k + 1) = omega arith in
    ap (λ n. with_parts (take n (key ∷ keys)) (p ∷ parts)) is ∙ ap (λ es. (key, p) ∷ es) (with_none keys parts k (omega (arith, low)) (omega (arith, none)))

pub with_push : {A : Type 0} (plain : A → List ℤ × ℕ) (keys : List (List ℤ)) (parts : List ℕ) (k : ℕ) (d : List ℤ) (e : ℕ) (done more : List A) (one : A) → k < length keys → k < length parts
    → map plain done ≡ with_parts (take k keys) parts → more ≡ done ++ one ∷ [] → plain one ≡ (get_or keys k d, get_or parts k e) → map plain more ≡ with_parts (take (k + 1) keys) parts
with_push plain keys parts k d e done more one low there so_far pushed is =
    ap (map plain) pushed ∙ map-append plain done (one ∷ []) ∙ ap (λ xs. xs ++ plain one ∷ []) so_far ∙ ap (λ x. with_parts (take k keys) parts ++ x ∷ []) is ∙ sym (with_more keys parts k d e low there)

-- what is left of a key that doesn't begin with the number, and of one that does
pub rest_short : (n : ℤ) (key : List ℤ) (part : ℕ) → length key < 1 → [] ≡ rest_after n (key, part)
unfolding rest_after
rest_short n [] part h = refl
rest_short n (m ∷ key) part h = absurd (omega (arith, h))

pub rest_other : (n : ℤ) (key : List ℤ) (part : ℕ) → int_eq (get_or key 0 (pos 0)) n ≡ false → [] ≡ rest_after n (key, part)
unfolding rest_after
rest_other n [] part e = refl
rest_other n (m ∷ key) part e = sym (ap (λ b. if b then (key, part) ∷ [] else []) e)

pub rest_found : (n : ℤ) (key later : List ℤ) (part : ℕ) → 1 ≤ length key → int_eq (get_or key 0 (pos 0)) n ≡ true → later ≡ drop 1 key → (later, part) ∷ [] ≡ rest_after n (key, part)
unfolding rest_after
rest_found n [] later part h e is = absurd (omega (arith, h))
rest_found n (m ∷ key) later part h e is = ap (λ ks. (ks, part) ∷ []) is ∙ sym (ap (λ b. if b then (key, part) ∷ [] else []) e)

-- parts of variables that are there
pub parts_there : (count : ℕ) (keys : List (List ℤ)) (parts : List ℕ) → All (λ x. x < count) parts → HaveParts count (with_parts keys parts)
unfolding with_parts
parts_there count [] parts h = All-nil (λ e. e.1 < count)
parts_there count (key ∷ keys) [] h = All-nil (λ e. e.1 < count)
parts_there count (key ∷ keys) (p ∷ parts) h =
    All-cons (λ e. e.1 < count) (key, p) (with_parts keys parts) (All-head (λ x. x < count) p parts h) (parts_there count keys parts (All-tail (λ x. x < count) p parts h))

rest_there : (count : ℕ) (n : ℤ) (entry : List ℤ × ℕ) → entry.1 < count → HaveParts count (rest_after n entry)
unfolding rest_after
rest_there count n ([], part) low = All-nil (λ e. e.1 < count)
rest_there count n (m ∷ key, part) low = by (int_eq m n)
  where
    by : (b : Bool) → HaveParts count (if b then (key, part) ∷ [] else [])
    by true = All-cons (λ e. e.1 < count) (key, part) [] low (All-nil (λ e. e.1 < count))
    by false = All-nil (λ e. e.1 < count)

pub rests_there : (count : ℕ) (n : ℤ) (entries : List (List ℤ × ℕ)) → HaveParts count entries → HaveParts count (rests_after n entries)
unfolding rests_after
rests_there count n [] h = All-nil (λ e. e.1 < count)
rests_there count n (entry ∷ entries) h =
    All-append (λ e. e.1 < count) (rest_after n entry) (rests_after n entries) (rest_there count n entry (All-head (λ e. e.1 < count) entry entries h))
    (rests_there count n entries (All-tail (λ e. e.1 < count) entry entries h))

pub part_there : (count : ℕ) (entries : List (List ℤ × ℕ)) (ns : List ℤ) → HaveParts count entries → MatchOption (part_of entries ns) (Unit {0}) (λ x. x < count)
unfolding part_of
part_there count [] ns h = tt
part_there count ((key, part) ∷ entries) ns h = by (part_there count entries ns (All-tail (λ e. e.1 < count) (key, part) entries h)) (same_numbers key ns)
  where
    by : MatchOption (part_of entries ns) (Unit {0}) (λ x. x < count) → (b : Bool) → MatchOption (if b then Some part else part_of entries ns) (Unit {0}) (λ x. x < count)
    by rest true = All-head (λ e. e.1 < count) (key, part) entries h
    by rest false = rest

pub first_there : (count : ℕ) (parts : List ℕ) → All (λ x. x < count) parts → MatchOption (slice_get parts 0) (Unit {0}) (λ x. x < count)
first_there count [] h = tt
first_there count (p ∷ parts) h = All-head (λ x. x < count) p parts h

-- ---- what is left of keys, one by one

rests_more : {A : Type 0} (plain : A → List ℤ × ℕ) (n : ℤ) (xs : List A) (k : ℕ) (d : A) → k < length xs
    → rests_after n (map plain (take (k + 1) xs)) ≡ rests_after n (map plain (take k xs)) ++ rest_after n (plain (get_or xs k d))
unfolding rests_after
rests_more plain n xs k d low =
    ap (λ ys. rests_after n (map plain ys)) (take_more xs k d low) ∙ ap (rests_after n) (map-append plain (take k xs) (get_or xs k d ∷ []))
    ∙ rests-append n (map plain (take k xs)) (plain (get_or xs k d) ∷ []) ∙ ap (λ zs. rests_after n (map plain (take k xs)) ++ zs) (append-nil (rest_after n (plain (get_or xs k d))))

pub rest_pushed : {A : Type 0} (plain : A → List ℤ × ℕ) (n m : ℤ) (xs : List A) (k : ℕ) (d : A) (left more : List A) (found : Option A) (rest : A) → k < length xs → m ≡ n
    → map plain left ≡ rests_after n (map plain (take k xs)) → found ≡ Some rest → option_to_list (option_map plain found) ≡ rest_after m (plain (get_or xs k d)) → more ≡ left ++ rest ∷ []
    → map plain more ≡ rests_after n (map plain (take (k + 1) xs))
rest_pushed plain n m xs k d left more found rest low same so_far some told pushed =
    ap (map plain) pushed ∙ map-append plain left (rest ∷ [])
    ∙ ap (λ ys. ys ++ plain rest ∷ []) so_far
    ∙ ap (λ ys. rests_after n (map plain (take k xs)) ++ ys) (sym (ap (λ o. option_to_list (option_map plain o)) some) ∙ told ∙ ap (λ w. rest_after w (plain (get_or xs k d))) same)
    ∙ sym (rests_more plain n xs k d low)

pub rest_kept : {A : Type 0} (plain : A → List ℤ × ℕ) (n m : ℤ) (xs : List A) (k : ℕ) (d : A) (left : List A) (found : Option A) → k < length xs → m ≡ n
    → map plain left ≡ rests_after n (map plain (take k xs)) → found ≡ None → option_to_list (option_map plain found) ≡ rest_after m (plain (get_or xs k d))
    → map plain left ≡ rests_after n (map plain (take (k + 1) xs))
rest_kept plain n m xs k d left found low same so_far none told =
    so_far ∙ sym (append-nil (rests_after n (map plain (take k xs))))
    ∙ ap (λ ys. rests_after n (map plain (take k xs)) ++ ys) (sym (ap (λ o. option_to_list (option_map plain o)) none) ∙ told ∙ ap (λ w. rest_after w (plain (get_or xs k d))) same)
    ∙ sym (rests_more plain n xs k d low)

-- ---- the key of which nothing is left

whole_key : (key : List ℤ) (part : ℕ) (entries : List (List ℤ × ℕ)) → length key ≡ 0 → part_of ((key, part) ∷ entries) [] ≡ Some part
unfolding part_of same_numbers
whole_key [] part entries h = refl
whole_key (n ∷ key) part entries h = absurd (omega (arith, h))

long_key : (key : List ℤ) (part : ℕ) (entries : List (List ℤ × ℕ)) → 0 < length key → part_of ((key, part) ∷ entries) [] ≡ part_of entries []
unfolding part_of same_numbers
long_key [] part entries h = absurd (omega (arith, h))
long_key (n ∷ key) part entries h = refl

pub whole_found : {A : Type 0} (plain : A → List ℤ × ℕ) (all : Option ℕ) (xs : List A) (k : ℕ) (d : A) → k < length xs → all ≡ part_of (map plain (drop k xs)) [] → length (plain (get_or xs k d)).0 ≡ 0
    → Some (plain (get_or xs k d)).1 ≡ all
whole_found plain all xs k d low so_far none =
    sym (so_far ∙ ap (λ ys. part_of (map plain ys) []) (drop-cons xs k d low) ∙ whole_key (plain (get_or xs k d)).0 (plain (get_or xs k d)).1 (map plain (drop (suc k) xs)) none)

pub whole_later : {A : Type 0} (plain : A → List ℤ × ℕ) (all : Option ℕ) (xs : List A) (k : ℕ) (d : A) → k < length xs → all ≡ part_of (map plain (drop k xs)) [] → 0 < length (plain (get_or xs k d)).0
    → all ≡ part_of (map plain (drop (k + 1) xs)) []
whole_later plain all xs k d low so_far long =
    so_far ∙ ap (λ ys. part_of (map plain ys) []) (drop-cons xs k d low) ∙ long_key (plain (get_or xs k d)).0 (plain (get_or xs k d)).1 (map plain (drop (suc k) xs)) long
    ∙ ap (λ n. part_of (map plain (drop n xs)) []) (sym (add-one k))

pub whole_none : {A : Type 0} (plain : A → List ℤ × ℕ) (all : Option ℕ) (xs : List A) (k : ℕ) → length xs ≤ k → all ≡ part_of (map plain (drop k xs)) [] → None ≡ all
unfolding part_of
whole_none plain all xs k long so_far = sym (so_far ∙ ap (λ ys. part_of (map plain ys) []) (drop_all k xs long))
  where
    drop_all : {A : Type 0} (n : ℕ) (ys : List A) → length ys ≤ n → drop n ys ≡ []
    drop_all zero [] h = refl
    drop_all zero (y ∷ ys) h = absurd (omega (arith, h))
    drop_all (suc n) [] h = refl
    drop_all (suc n) (y ∷ ys) h = drop_all n ys (omega (arith, h))

-- ---- an element, index by index

pub element_after : (values : List ℤ) (entries : List (List ℤ × ℕ)) (other : Option ℕ) (index : ℕ) (later indices : List ℕ) → indices ≡ index ∷ later
    → element_value values (rests_after (number_at values index) entries) other later ≡ element_value values entries other indices
unfolding element_value numbers_of_vars
element_after values entries other index later indices is =
    ap (λ o. number_of_first values o other) (sym (part_after entries (number_at values index) (map (number_at values) later)))
    ∙ ap (λ xs. number_of_first values (part_of entries (map (number_at values) xs)) other) (sym is)

pub element_none : (values : List ℤ) (entries : List (List ℤ × ℕ)) (other : Option ℕ) (indices : List ℕ) → entries ≡ [] → number_of_first values None other ≡ element_value values entries other indices
unfolding element_value
element_none values entries other indices none =
    ap (λ o. number_of_first values o other) (sym (no_part (numbers_of_vars values indices))) ∙ ap (λ es. number_of_first values (part_of es (numbers_of_vars values indices)) other) (sym none)

pub element_last : (values : List ℤ) (entries : List (List ℤ × ℕ)) (part other : Option ℕ) (indices : List ℕ) → indices ≡ [] → part ≡ part_of entries [] → number_of_first values part other ≡ element_value values entries other indices
unfolding element_value numbers_of_vars
element_last values entries part other indices none is =
    ap (λ o. number_of_first values o other) is ∙ ap (λ xs. number_of_first values (part_of entries (map (number_at values) xs)) other) (sym none)

pub no_index : (xs : List ℕ) → length xs < 1 → xs ≡ []
no_index [] h = refl
no_index (x ∷ xs) h = absurd (omega (arith, h))

pub first_index : (xs later : List ℕ) (d : ℕ) → 1 ≤ length xs → later ≡ drop 1 xs → xs ≡ get_or xs 0 d ∷ later
first_index [] later d h is = absurd (omega (arith, h))
first_index (x ∷ xs) later d h is = ap (λ ys. x ∷ ys) (sym is)

-- what a slice's pattern leaves
pub rest_taken : {A : Type 0} (xs : List A) → take (length xs - 1) (drop 1 xs) ≡ drop 1 xs
rest_taken [] = refl
rest_taken (x ∷ xs) = take_all (length (x ∷ xs) - 1) xs (omega arith)

pub no_entry : {A B : Type 0} (f : A → B) (xs : List A) → length xs ≡ 0 → map f xs ≡ []
no_entry f [] h = refl
no_entry f (x ∷ xs) h = absurd (omega (arith, h))

pub not_equal : (a b : ℤ) → (a ≡ b → ⊥) → int_eq a b ≡ false
not_equal a b h = by (int_eq a b) refl
  where
    by : (t : Bool) → int_eq a b ≡ t → int_eq a b ≡ false
    by true e = absurd (h ((Decides-int_eq a b).0 e))
    by false e = e

pub is_equal : (a b : ℤ) → a ≡ b → int_eq a b ≡ true
is_equal a b h = (Decides-int_eq a b).1 h
