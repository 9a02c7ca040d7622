-- Products of whole numbers.
use Rattle.std.proofs.Common.{◌≡◌, ℕ, zero, suc, ◌+◌, ◌*◌, ℤ, pos, negsuc, neg_ℤ, ◌+ℤ◌, ◌*ℤ◌, ◌<ℤ◌, ◌≤ℤ◌, Bool, true, false, refl, sym, ap, ◌∙◌, arith}
use Rattle.std.proofs.Math.Nat.{mul_assoc}
use Rattle.std.proofs.lemmas.Int.{by_lt_z, ints}

half_negated : (a c : ℤ) → (a *ℤ neg_ℤ c) ≡ neg_ℤ (a *ℤ c)
half_negated a c = grind (arith, ints)

other_negated : (a c : ℤ) → (neg_ℤ a *ℤ c) ≡ neg_ℤ (a *ℤ c)
other_negated a c = grind (arith, ints)

times_third : (a b : ℕ) (c : ℤ) → ((pos a *ℤ pos b) *ℤ c) ≡ (pos a *ℤ (pos b *ℤ c))
times_third a b (pos c) = ap pos (mul_assoc a b c)
times_third a b (negsuc c) =
    half_negated (pos a *ℤ pos b) (pos (suc c)) ∙ ap (λ n. neg_ℤ (pos n)) (mul_assoc a b (suc c)) ∙ sym (half_negated (pos a) (pos b *ℤ pos (suc c)))
    ∙ ap (λ x. pos a *ℤ x) (sym (half_negated (pos b) (pos (suc c))))

times_second : (a : ℕ) (b c : ℤ) → ((pos a *ℤ b) *ℤ c) ≡ (pos a *ℤ (b *ℤ c))
times_second a (pos b) c = times_third a b c
times_second a (negsuc b) c =
    ap (λ x. x *ℤ c) (half_negated (pos a) (pos (suc b))) ∙ other_negated (pos a *ℤ pos (suc b)) c ∙ ap neg_ℤ (times_third a (suc b) c)
    ∙ sym (half_negated (pos a) (pos (suc b) *ℤ c)) ∙ ap (λ x. pos a *ℤ x) (sym (other_negated (pos (suc b)) c))

pub times_again : (a b c : ℤ) → ((a *ℤ b) *ℤ c) ≡ (a *ℤ (b *ℤ c))
times_again (pos a) b c = times_second a b c
times_again (negsuc a) b c =
    ap (λ x. x *ℤ c) (other_negated (pos (suc a)) b) ∙ other_negated (pos (suc a) *ℤ b) c ∙ ap neg_ℤ (times_second (suc a) b c)
    ∙ sym (other_negated (pos (suc a)) (b *ℤ c))

negated_sum : (x y : ℤ) → neg_ℤ (x +ℤ y) ≡ (neg_ℤ x +ℤ neg_ℤ y)
negated_sum x y = omega (arith, ints)

one_more : (a n : ℕ) → suc a * n ≡ n + a * n
one_more a n = omega arith

suc_times : (a : ℕ) (z : ℤ) → (pos (suc a) *ℤ z) ≡ (z +ℤ (pos a *ℤ z))
suc_times a (pos n) = ap pos (one_more a n)
suc_times a (negsuc n) =
    half_negated (pos (suc a)) (pos (suc n)) ∙ ap (λ m. neg_ℤ (pos m)) (one_more a (suc n)) ∙ negated_sum (pos (suc n)) (pos a *ℤ pos (suc n))
    ∙ ap (λ w. negsuc n +ℤ w) (sym (half_negated (pos a) (pos (suc n))))

zero_times : (z : ℤ) → (pos 0 *ℤ z) ≡ pos 0
zero_times z = omega (arith, ints)

mixed : (x y v w : ℤ) → ((x +ℤ y) +ℤ (v +ℤ w)) ≡ ((x +ℤ v) +ℤ (y +ℤ w))
mixed x y v w = omega (arith, ints)

both_same : {a b c d : ℤ} → a ≡ b → c ≡ d → (a +ℤ c) ≡ (b +ℤ d)
both_same {a} {b} {c} {d} e f = ap (λ x. x +ℤ c) e ∙ ap (λ x. b +ℤ x) f

spread_up : (a : ℕ) (x y : ℤ) → (pos a *ℤ (x +ℤ y)) ≡ ((pos a *ℤ x) +ℤ (pos a *ℤ y))
spread_up zero x y = zero_times (x +ℤ y) ∙ sym (both_same (zero_times x) (zero_times y))
spread_up (suc a) x y =
    suc_times a (x +ℤ y) ∙ ap (λ w. (x +ℤ y) +ℤ w) (spread_up a x y) ∙ mixed x y (pos a *ℤ x) (pos a *ℤ y)
    ∙ sym (both_same (suc_times a x) (suc_times a y))

pub spread : (k x y : ℤ) → (k *ℤ (x +ℤ y)) ≡ ((k *ℤ x) +ℤ (k *ℤ y))
spread (pos a) x y = spread_up a x y
spread (negsuc a) x y =
    other_negated (pos (suc a)) (x +ℤ y) ∙ ap neg_ℤ (spread_up (suc a) x y) ∙ negated_sum (pos (suc a) *ℤ x) (pos (suc a) *ℤ y)
    ∙ sym (both_same (other_negated (pos (suc a)) x) (other_negated (pos (suc a)) y))

pub swapped : (x y : ℤ) → (x *ℤ y) ≡ (y *ℤ x)
swapped x y = omega (arith, ints)

pub spread_left : (k m x : ℤ) → ((k +ℤ m) *ℤ x) ≡ ((k *ℤ x) +ℤ (m *ℤ x))
spread_left k m x = swapped (k +ℤ m) x ∙ spread x k m ∙ both_same (swapped x k) (swapped x m)

-- ---- which of two products is greater

rises_up : (k : ℕ) (x y : ℤ) → x ≤ℤ y → (pos k *ℤ x) ≤ℤ (pos k *ℤ y)
rises_up zero x y low = let a = zero_times x in let b = zero_times y in omega (arith, ints, a, b)
rises_up (suc k) x y low = let a = suc_times k x in let b = suc_times k y in let more = rises_up k x y low in omega (arith, ints, a, b, more, low)

pub rises : (k x y : ℤ) → pos 0 ≤ℤ k → x ≤ℤ y → (k *ℤ x) ≤ℤ (k *ℤ y)
rises (pos k) x y up low = rises_up k x y low
rises (negsuc k) x y up low = absurd (omega (arith, ints, up))

pub falls : (k x y : ℤ) → k ≤ℤ pos 0 → y ≤ℤ x → (k *ℤ x) ≤ℤ (k *ℤ y)
falls (pos zero) x y down low = let a = zero_times x in let b = zero_times y in omega (arith, ints, a, b)
falls (pos (suc k)) x y down low = absurd (omega (arith, ints, down))
falls (negsuc k) x y down low =
    let a = other_negated (pos (suc k)) x in let b = other_negated (pos (suc k)) y in let more = rises_up (suc k) y x low in omega (arith, ints, a, b, more)

-- a coefficient that is rounded counts no more
pub below_rounded : (whole unit coefficient : ℤ) (natural : Bool) → (unit *ℤ coefficient) ≤ℤ whole → (natural ≡ false → whole ≤ℤ (unit *ℤ coefficient)) → (value : ℤ)
    → (natural ≡ true → pos 0 ≤ℤ value) → (unit *ℤ (coefficient *ℤ value)) ≤ℤ (whole *ℤ value)
below_rounded whole unit coefficient true low exact value up =
    let again = times_again unit coefficient value in
    let a = swapped (unit *ℤ coefficient) value in
    let b = swapped whole value in
    let more = rises value (unit *ℤ coefficient) whole (up refl) low in
    omega (arith, ints, again, a, b, more)
below_rounded whole unit coefficient false low exact value up =
    let high = exact refl in
    let same : (unit *ℤ coefficient) ≡ whole = omega (arith, ints, low, high) in
    let again = times_again unit coefficient value ∙ refl in
    let there : ((unit *ℤ coefficient) *ℤ value) ≡ (whole *ℤ value) = ap (λ x. x *ℤ value) same in
    omega (arith, ints, again, there)

-- what isn't beyond the next number is at most this one
pub at_most_floor : (unit most floor sum : ℤ) → pos 0 <ℤ unit → most <ℤ (unit +ℤ (unit *ℤ floor)) → (unit *ℤ sum) ≤ℤ most → sum ≤ℤ floor
at_most_floor unit most floor sum up beyond within =
    by_lt_z floor sum
    (λ less.
    let more = rises unit (floor +ℤ pos 1) sum (omega (arith, ints, up)) (omega (arith, ints, less)) in
    let both = spread unit floor (pos 1) in
    let one : (unit *ℤ pos 1) ≡ unit = omega (arith, ints) in
    absurd (omega (arith, ints, more, beyond, within, both, one)))
    (λ low. low)
