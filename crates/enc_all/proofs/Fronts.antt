-- A constraint on the first so many variables speaks of their numbers alone.
use Rattle.std.proofs.Common.{◌≡◌, ℕ, ◌<◌, ◌*ℤ◌, ℤ, Bool, List, [], ◌∷◌, ◌++◌, map, take, refl, sym, ap, subst, ◌∙◌, ◌||◌, ◌&&◌, Option, Some, None, option_to_list, unwrap_or, false}
use Rattle.std.specs.List.{All, list_all, list_any}
use Rattle.std.specs.Ordering.{int_eq}
use Rattle.std.proofs.lemmas.List.Elements.{All-contains, All-head, All-tail, Contains-append_left, Contains-append_right}
use Rattle.cnf_core.proofs.Members.{All-from_contains}
use Rattle.enc_atoms.proofs.Decoded.{number_front}
use Rattle.ep_base.specs.Numbers.{absolute_of, are_different, compare_holds, counts_hold, greatest_of, is_one, is_row_of, least_of, has_number, lex_holds, nth_power, of_bool}
use Rattle.ep_base.specs.Reads.{safe_picked, safe_quotient, safe_remainder, same_bool, weighted_sum}
use Rattle.ep_base.specs.declared.operators.CompareOp.{CompareOp}
use Rattle.ep_flat.specs.Cons.{FlatCon, FlatKind, all_different, all_of, at_least, at_most, absolute, clause, con_holds, con_variables, counts, element, greatest, is_as_said, is_value, kind_holds, kind_variables, least, lex, linear, member, number_at, numbers_of_vars, power, product, quotient, remainder, same_truth, table}

front_part : (P : ℕ → Type 0) (xs ys : List ℕ) → All P (xs ++ ys) → All P xs
front_part P xs ys all = All-from_contains P xs (λ x found. All-contains P (xs ++ ys) x all (Contains-append_left xs ys x found))

back_part : (P : ℕ → Type 0) (xs ys : List ℕ) → All P (xs ++ ys) → All P ys
back_part P xs ys all = All-from_contains P ys (λ x found. All-contains P (xs ++ ys) x all (Contains-append_right xs ys x found))

numbers_front : (values : List ℤ) (n : ℕ) (xs : List ℕ) → All (λ x. x < n) xs → numbers_of_vars values xs ≡ numbers_of_vars (take n values) xs
unfolding numbers_of_vars
numbers_front values n [] low = refl
numbers_front values n (x ∷ xs) low =
    ap (λ v. v ∷ map (number_at values) xs) (sym (number_front values n x (All-head (λ y. y < n) x xs low)))
    ∙ ap (λ vs. number_at (take n values) x ∷ vs) (numbers_front values n xs (All-tail (λ y. y < n) x xs low))

any_front : (values : List ℤ) (n : ℕ) (parts : List (Bool × ℕ)) → All (λ x. x < n) (map (λ p. p.1) parts) → list_any (λ p. same_bool (is_one (number_at values p.1)) p.0) parts ≡ list_any (λ p. same_bool (is_one (number_at (take n values) p.1)) p.0) parts
any_front values n [] low = refl
any_front values n (p ∷ parts) low =
    ap (λ v. same_bool (is_one v) p.0 || list_any (λ q. same_bool (is_one (number_at values q.1)) q.0) parts) (sym (number_front values n p.1 (All-head (λ y. y < n) p.1 (map (λ q. q.1) parts) low)))
    ∙ ap (λ b. same_bool (is_one (number_at (take n values) p.1)) p.0 || b) (any_front values n parts (All-tail (λ y. y < n) p.1 (map (λ q. q.1) parts) low))

all_front : (values : List ℤ) (n : ℕ) (xs : List ℕ) → All (λ x. x < n) xs → list_all (λ x. is_one (number_at values x)) xs ≡ list_all (λ x. is_one (number_at (take n values) x)) xs
all_front values n [] low = refl
all_front values n (x ∷ xs) low =
    ap (λ v. is_one v && list_all (λ y. is_one (number_at values y)) xs) (sym (number_front values n x (All-head (λ y. y < n) x xs low)))
    ∙ ap (λ b. is_one (number_at (take n values) x) && b) (all_front values n xs (All-tail (λ y. y < n) x xs low))

abbrev with_number : List ℤ → ℤ × ℕ → ℤ × ℤ
with_number values p = (p.0, number_at values p.1)

sum_front : (values : List ℤ) (n : ℕ) (parts : List (ℤ × ℕ)) → All (λ x. x < n) (map (λ p. p.1) parts) → map (with_number values) parts ≡ map (with_number (take n values)) parts
sum_front values n [] low = refl
sum_front values n (p ∷ parts) low =
    let same : with_number values p ≡ with_number (take n values) p = ap (λ v. let q : ℤ × ℤ = (p.0, v) in q) (sym (number_front values n p.1 (All-head (λ y. y < n) p.1 (map (λ q. q.1) parts) low))) in
    ap (λ q. q ∷ map (with_number values) parts) same ∙ ap (λ rest. with_number (take n values) p ∷ rest) (sum_front values n parts (All-tail (λ y. y < n) p.1 (map (λ q. q.1) parts) low))

-- two and three numbers
two_front : {R : Type 0} (values : List ℤ) (n x y : ℕ) (h : ℤ → ℤ → R) → All (λ z. z < n) (x ∷ y ∷ []) → h (number_at values x) (number_at values y) ≡ h (number_at (take n values) x) (number_at (take n values) y)
two_front values n x y h low =
    let Low : ℕ → Type 0 = λ z. z < n in
    ap (λ v. h v (number_at values y)) (sym (number_front values n x (All-head Low x (y ∷ []) low)))
    ∙ ap (h (number_at (take n values) x)) (sym (number_front values n y (All-head Low y [] (All-tail Low x (y ∷ []) low))))

three_front : {R : Type 0} (values : List ℤ) (n x y z : ℕ) (h : ℤ → ℤ → ℤ → R) → All (λ w. w < n) (x ∷ y ∷ z ∷ []) → h (number_at values x) (number_at values y) (number_at values z) ≡ h (number_at (take n values) x) (number_at (take n values) y) (number_at (take n values) z)
three_front values n x y z h low =
    let Low : ℕ → Type 0 = λ w. w < n in
    ap (λ v. h v (number_at values y) (number_at values z)) (sym (number_front values n x (All-head Low x (y ∷ z ∷ []) low)))
    ∙ two_front values n y z (h (number_at (take n values) x)) (All-tail Low x (y ∷ z ∷ []) low)

-- a number and some numbers
more_front : {R : Type 0} (values : List ℤ) (n x : ℕ) (xs : List ℕ) (h : ℤ → List ℤ → R) → All (λ z. z < n) (x ∷ xs) → h (number_at values x) (numbers_of_vars values xs) ≡ h (number_at (take n values) x) (numbers_of_vars (take n values) xs)
more_front values n x xs h low =
    let Low : ℕ → Type 0 = λ z. z < n in
    ap (λ v. h v (numbers_of_vars values xs)) (sym (number_front values n x (All-head Low x xs low))) ∙ ap (h (number_at (take n values) x)) (numbers_front values n xs (All-tail Low x xs low))

-- the numbers of two lists
lists_front : {R : Type 0} (values : List ℤ) (n : ℕ) (xs ys : List ℕ) (h : List ℤ → List ℤ → R) → All (λ z. z < n) (xs ++ ys) → h (numbers_of_vars values xs) (numbers_of_vars values ys) ≡ h (numbers_of_vars (take n values) xs) (numbers_of_vars (take n values) ys)
lists_front values n xs ys h low =
    ap (λ vs. h vs (numbers_of_vars values ys)) (numbers_front values n xs (front_part (λ z. z < n) xs ys low)) ∙ ap (h (numbers_of_vars (take n values) xs)) (numbers_front values n ys (back_part (λ z. z < n) xs ys low))

kind_front : (values : List ℤ) (n : ℕ) (kind : FlatKind) → All (λ x. x < n) (kind_variables kind) → kind_holds values kind ≡ kind_holds (take n values) kind
unfolding kind_holds kind_variables
kind_front values n (clause parts) low = any_front values n parts low
kind_front values n (all_of xs) low = all_front values n xs low
kind_front values n (same_truth x y) low = two_front values n x y (λ v w. same_bool (is_one v) (is_one w)) low
kind_front values n (linear parts op c) low = ap (λ vs. compare_holds op (weighted_sum vs) c) (sum_front values n parts low)
kind_front values n (member x ns) low = ap (has_number ns) (sym (number_front values n x (All-head (λ y. y < n) x [] low)))
kind_front values n (product r x y) low = three_front values n r x y (λ u v w. int_eq u (v *ℤ w)) low
kind_front values n (quotient r x y) low = three_front values n r x y (λ u v w. int_eq u (safe_quotient v w)) low
kind_front values n (remainder r x y) low = three_front values n r x y (λ u v w. int_eq u (safe_remainder v w)) low
kind_front values n (power r x e) low = two_front values n r x (λ u v. int_eq u (nth_power v e)) low
kind_front values n (absolute r x) low = two_front values n r x (λ u v. int_eq u (absolute_of v)) low
kind_front values n (least r xs) low = more_front values n r xs (λ u vs. is_value (least_of vs) u) low
kind_front values n (greatest r xs) low = more_front values n r xs (λ u vs. is_value (greatest_of vs) u) low
kind_front values n (element r xs keys indices) low =
    more_front values n r xs (λ u vs. int_eq u (safe_picked vs keys (numbers_of_vars values indices))) (front_part (λ x. x < n) (r ∷ xs) indices low)
    ∙ ap (λ vs. int_eq (number_at (take n values) r) (safe_picked (numbers_of_vars (take n values) xs) keys vs)) (numbers_front values n indices (back_part (λ x. x < n) (r ∷ xs) indices low))
kind_front values n (all_different xs) low = ap are_different (numbers_front values n xs low)
kind_front values n (counts xs ns cs) low = lists_front values n xs cs (λ vs ws. unwrap_or (counts_hold CompareOp.Equal vs ns ws) false) low
kind_front values n (at_least xs cs ns) low = ap (λ vs. unwrap_or (counts_hold CompareOp.AtLeast vs ns cs) false) (numbers_front values n xs low)
kind_front values n (at_most xs cs ns) low = ap (λ vs. unwrap_or (counts_hold CompareOp.AtMost vs ns cs) false) (numbers_front values n xs low)
kind_front values n (table xs rows) low = ap (λ vs. unwrap_or (is_row_of rows vs) false) (numbers_front values n xs low)
kind_front values n (lex op xs ys) low = lists_front values n xs ys (lex_holds op) low

said_front : (values : List ℤ) (n : ℕ) (truth : Option ℕ) (h : Bool) → All (λ x. x < n) (option_to_list truth) → is_as_said values truth h ≡ is_as_said (take n values) truth h
unfolding is_as_said
said_front values n None h low = refl
said_front values n (Some t) h low = ap (λ v. int_eq v (of_bool h)) (sym (number_front values n t (All-head (λ x. x < n) t [] low)))

pub con_front : (values : List ℤ) (n : ℕ) (con : FlatCon) → All (λ x. x < n) (con_variables con) → con_holds values con ≡ con_holds (take n values) con
unfolding con_holds con_variables
con_front values n con low =
    ap (is_as_said values con.truth) (kind_front values n con.kind (back_part (λ x. x < n) (option_to_list con.truth) (kind_variables con.kind) low))
    ∙ said_front values n con.truth (kind_holds (take n values) con.kind) (front_part (λ x. x < n) (option_to_list con.truth) (kind_variables con.kind) low)
