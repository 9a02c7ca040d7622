-- Products of numbers one after another: powers, factorials, and the parts of a matrix.
use Rattle.ep_eval.proofs.Words.{◌≡◌, ℕ, suc, zero, ◌+◌, ◌*◌, ◌-◌, ◌%◌, ◌≤◌, ◌<◌, ℤ, pos, negsuc, ◌*ℤ◌, Bool, true, false, List, [], ◌∷◌, refl, sym, ap, subst, ◌∙◌, arith, add-one, add-zero, FitsSigned, SFits, w64, lit<, ◌||◌, int_lt, neg_ℤ, unsigned_abs, None, option_and_then, Some, Result, Ok, Err, Option, w128, list_any, ints, fits_signed_mul, unsigned_abs-mul, add-suc, mul_assoc, absolute_of, factorial_of, nth_power, power, product_of, product_to, is_too_far, abs_far, far_abs, least_one, near_abs, products_from, number_in, number_value, single, Gives, GivesAt, EvalError, Limit, Memory, Held}

half_negated : (a c : ℤ) → (a *ℤ neg_ℤ c) ≡ neg_ℤ (a *ℤ c)
half_negated a c = grind (arith, ints)

other_negated : (a c : ℤ) → (neg_ℤ a *ℤ c) ≡ neg_ℤ (a *ℤ c)
other_negated a c = grind (arith, ints)

times_third : (a b : ℕ) (c : ℤ) → ((pos a *ℤ pos b) *ℤ c) ≡ (pos a *ℤ (pos b *ℤ c))
times_third a b (pos c) = ap pos (mul_assoc a b c)
times_third a b (negsuc c) =
    half_negated (pos a *ℤ pos b) (pos (suc c)) ∙ ap (λ n. neg_ℤ (pos n)) (mul_assoc a b (suc c)) ∙ sym (half_negated (pos a) (pos b *ℤ pos (suc c)))
    ∙ ap (λ x. pos a *ℤ x) (sym (half_negated (pos b) (pos (suc c))))

times_second : (a : ℕ) (b c : ℤ) → ((pos a *ℤ b) *ℤ c) ≡ (pos a *ℤ (b *ℤ c))
times_second a (pos b) c = times_third a b c
times_second a (negsuc b) c =
    ap (λ x. x *ℤ c) (half_negated (pos a) (pos (suc b))) ∙ other_negated (pos a *ℤ pos (suc b)) c ∙ ap neg_ℤ (times_third a (suc b) c)
    ∙ sym (half_negated (pos a) (pos (suc b) *ℤ c)) ∙ ap (λ x. pos a *ℤ x) (sym (other_negated (pos (suc b)) c))

pub times_again : (a b c : ℤ) → ((a *ℤ b) *ℤ c) ≡ (a *ℤ (b *ℤ c))
times_again (pos a) b c = times_second a b c
times_again (negsuc a) b c =
    ap (λ x. x *ℤ c) (other_negated (pos (suc a)) b) ∙ other_negated (pos (suc a) *ℤ b) c ∙ ap neg_ℤ (times_second (suc a) b c)
    ∙ sym (other_negated (pos (suc a)) (b *ℤ c))

one_times : (x : ℤ) → (pos 1 *ℤ x) ≡ x
one_times x = omega (arith, ints)

times_one : (x : ℤ) → (x *ℤ pos 1) ≡ x
times_one x = omega (arith, ints)

-- ---- the parts of a matrix

pub product_begins : (xs : List ℤ) → product_of xs ≡ (pos 1 *ℤ product_of xs)
product_begins xs = sym (one_times (product_of xs))

pub product_step : (p x whole : ℤ) (xs : List ℤ) → whole ≡ (p *ℤ product_of (x ∷ xs)) → whole ≡ ((p *ℤ x) *ℤ product_of xs)
unfolding product_of
product_step p x whole xs h = h ∙ sym (times_again p x (product_of xs))

pub product_ends : (p whole : ℤ) → whole ≡ (p *ℤ product_of []) → p ≡ whole
unfolding product_of
product_ends p whole h = sym (h ∙ times_one p)

pub far_step : (p x : ℤ) (xs : List ℤ) (b : Bool) → is_too_far (p *ℤ x) ≡ false → b ≡ list_any is_too_far (products_from p (x ∷ xs)) → b ≡ list_any is_too_far (products_from (p *ℤ x) xs)
unfolding products_from
far_step p x xs b h k = k ∙ ap (λ f. f || list_any is_too_far (products_from (p *ℤ x) xs)) h

pub far_there : (p x : ℤ) (xs : List ℤ) (b : Bool) → is_too_far (p *ℤ x) ≡ true → b ≡ list_any is_too_far (products_from p (x ∷ xs)) → b ≡ true
unfolding products_from
far_there p x xs b h k = k ∙ ap (λ f. f || list_any is_too_far (products_from (p *ℤ x) xs)) h

pub far_ends : (p : ℤ) (b : Bool) → b ≡ list_any is_too_far (products_from p []) → b ≡ false
unfolding products_from
far_ends p b k = k

far_single : (b : Bool) → b ≡ false → (b || false) ≡ true → ⊥
far_single true h k = cc
far_single false h k = cc

-- a number that isn't too far, as the last of the products
pub product_given : (r : Result (Option Held) EvalError) (p whole : ℤ) (ns : List ℤ) → p ≡ whole → is_too_far p ≡ false → Gives r (Some (single p)) → list_any is_too_far ns ≡ false
    → GivesAt r (Some (single whole)) ns
unfolding number_in
product_given (Ok seen) p whole ns same near h k = (h ∙ ap (λ n. Some (single n)) same, λ _. k)
product_given (Err Memory) p whole ns same near h k = tt
product_given (Err (Limit l)) p whole ns same near h k = absurd (far_single (is_too_far p) near h.1)

-- ---- factorials

pub factorial_none : pos 1 ≡ pos (product_to 0)
unfolding product_to
factorial_none = refl

pub wide_fits : (a : ℤ) (n : ℕ) → is_too_far a ≡ false → n < 18446744073709551616 → FitsSigned w128 (a *ℤ pos n)
wide_fits a n h k = fits_signed_mul w128 a (pos n) 1099511627776 18446744073709551616 (near_abs a h) (omega (arith, k)) (lit< tt)

pub factorial_more : (n : ℕ) → product_to n * (n + 1) ≡ product_to (n + 1)
unfolding product_to
factorial_more n = rw (add-one n) refl

factorial_once : (n : ℕ) → product_to n ≤ product_to (suc n)
unfolding product_to
factorial_once n = least_one (product_to n) (suc n) (omega arith)

factorial_grows : (n more : ℕ) → product_to n ≤ product_to (n + more)
factorial_grows n zero = let e = ap product_to (add-zero n) in omega (arith, e)
factorial_grows n (suc more) = let e = ap product_to (add-suc n more) in omega (arith, e, factorial_grows n more, factorial_once (n + more))

pub factorial_far : (n whole : ℕ) → is_too_far (pos (product_to (n + 1))) ≡ true → n < whole → is_too_far (pos (product_to whole)) ≡ true
factorial_far n whole h k =
    abs_far (pos (product_to whole))
    (let a : 1099511627776 < product_to (n + 1) = far_abs (pos (product_to (n + 1))) h in
    let b = factorial_grows (n + 1) (whole - (n + 1)) in
    let e = ap product_to (let e : n + 1 + (whole - (n + 1)) ≡ whole = omega (arith, k) in e) in
    omega (arith, a, b, e))

-- ---- what is given

pub power_value : (x other y : ℤ) (r : Result (Option Held) EvalError) (n : ℕ) → Gives r (Some (single (nth_power other n))) → other ≡ x → y ≡ pos n
    → Gives r (number_value (power x y))
unfolding power
power_value x other y r n gives same whole =
    subst (Gives r) (ap (λ p. Some (single p)) (ap (λ b. nth_power b n) same) ∙ ap (λ e. number_value (power x e)) (sym whole)) gives

pub power_undefined : (x y : ℤ) → int_lt y (pos 0) ≡ true → None ≡ number_value (power x y)
unfolding power
power_undefined x (pos n) h = absurd (let e : int_lt (pos n) (pos 0) ≡ true = h in omega (arith, ints))
power_undefined x (negsuc n) h = refl

pub factorial_value : (n : ℤ) (m : ℕ) (o : Option ℤ) (r : Result (Option Held) EvalError) → Gives r (Some (single (pos (product_to m)))) → o ≡ Some n → n ≡ pos m
    → Gives r (number_value (option_and_then factorial_of o))
unfolding factorial_of
factorial_value n m o r gives is whole =
    subst (Gives r) (sym (ap (λ a. number_value (option_and_then factorial_of a)) is ∙ ap (λ a. number_value (factorial_of a)) whole)) gives

pub factorial_undefined : (n : ℤ) (o : Option ℤ) → o ≡ Some n → int_lt n (pos 0) ≡ true → None ≡ number_value (option_and_then factorial_of o)
unfolding factorial_of
factorial_undefined (pos n) o is h = absurd (let e : int_lt (pos n) (pos 0) ≡ true = h in omega (arith, ints))
factorial_undefined (negsuc n) o is h = sym (ap (λ a. number_value (option_and_then factorial_of a)) is)
