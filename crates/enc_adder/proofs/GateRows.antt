-- What rows of few bits say, and that new bits can always be so.
use Rattle.std.proofs.Common.{inl, inr, ◌≡◌, ◌↔◌, ℕ, ◌+◌, ◌<◌, ℤ, pos, ◌+ℤ◌, ◌-ℤ◌, ◌*ℤ◌, ◌≤ℤ◌, List, [], ◌∷◌, ◌++◌, length, refl, sym, ap, ◌∙◌, arith}
use Rattle.std.specs.List.{All}
use Rattle.std.proofs.lemmas.Int.{ints}
use Rattle.std.proofs.lemmas.List.Elements.{All-cons, All-nil}
use Rattle.enc_atoms.proofs.Choosing.{number_kept, truth_at}
use Rattle.enc_atoms.specs.Steps.{IsTruth, SomeTruths}
use Rattle.ep_flat.specs.Cons.{number_at}
use Rattle.enc_adder.specs.Bits.{Follows, IsAbove, IsAlike, IsSum, Row}

within : (v : ℤ) → IsTruth v → (pos 0 ≤ℤ v) × (v ≤ℤ pos 1)
within v (inl e) = (omega (arith, ints, e), omega (arith, ints, e))
within v (inr e) = (omega (arith, ints, e), omega (arith, ints, e))

pub no_row : Row
no_row = ((0, pos 0), (0, pos 0), (0, pos 0), (0, pos 0))

-- the rows of a full adder
abbrev pub sum_rows : ℕ → ℕ → ℕ → ℕ → ℕ → List Row
sum_rows a b c low high =
    ((a, pos 0), (b, pos 0), (c, pos 0), (low, pos 0)) ∷
    ((a, pos 1), (b, pos 0), (c, pos 0), (low, pos 1)) ∷
    ((a, pos 0), (b, pos 1), (c, pos 0), (low, pos 1)) ∷
    ((a, pos 1), (b, pos 1), (c, pos 0), (low, pos 0)) ∷
    ((a, pos 0), (b, pos 0), (c, pos 1), (low, pos 1)) ∷
    ((a, pos 1), (b, pos 0), (c, pos 1), (low, pos 0)) ∷
    ((a, pos 0), (b, pos 1), (c, pos 1), (low, pos 0)) ∷
    ((a, pos 1), (b, pos 1), (c, pos 1), (low, pos 1)) ∷
    ((a, pos 0), (a, pos 0), (b, pos 0), (high, pos 0)) ∷
    ((a, pos 1), (a, pos 1), (b, pos 1), (high, pos 1)) ∷
    ((a, pos 0), (a, pos 0), (c, pos 0), (high, pos 0)) ∷
    ((a, pos 1), (a, pos 1), (c, pos 1), (high, pos 1)) ∷
    ((b, pos 0), (b, pos 0), (c, pos 0), (high, pos 0)) ∷
    ((b, pos 1), (b, pos 1), (c, pos 1), (high, pos 1)) ∷
    []

-- the rows of a comparison
abbrev pub above_rows : ℕ → ℕ → ℕ → ℕ → List Row
above_rows a b before x =
    ((a, pos 1), (a, pos 1), (b, pos 0), (x, pos 1)) ∷
    ((a, pos 0), (a, pos 0), (b, pos 1), (x, pos 0)) ∷
    ((a, pos 1), (a, pos 1), (before, pos 1), (x, pos 1)) ∷
    ((a, pos 0), (a, pos 0), (before, pos 0), (x, pos 0)) ∷
    ((b, pos 0), (b, pos 0), (before, pos 1), (x, pos 1)) ∷
    ((b, pos 1), (b, pos 1), (before, pos 0), (x, pos 0)) ∷
    []

-- the rows of an equality
abbrev pub alike_rows : ℕ → ℕ → ℕ → ℕ → List Row
alike_rows a b before x =
    ((x, pos 1), (x, pos 1), (x, pos 1), (before, pos 1)) ∷
    ((x, pos 1), (x, pos 1), (a, pos 0), (b, pos 0)) ∷
    ((x, pos 1), (x, pos 1), (a, pos 1), (b, pos 1)) ∷
    ((before, pos 1), (a, pos 0), (b, pos 0), (x, pos 1)) ∷
    ((before, pos 1), (a, pos 1), (b, pos 1), (x, pos 1)) ∷
    []

pub sum_follows : (values : List ℤ) (a b c low high : ℕ) → IsTruth (number_at values a) → IsTruth (number_at values b) → IsTruth (number_at values c) → All (Follows values) (sum_rows a b c low high) → IsSum a b c low high values
sum_follows values a b c low high ta tb tc h = by ta tb tc
  where
    by : IsTruth (number_at values a) → IsTruth (number_at values b) → IsTruth (number_at values c) → IsSum a b c low high values
    by (inl ea) (inl eb) (inl ec) =
        let l : number_at values low ≡ pos 0 = h 0 no_row (omega arith) ea eb ec in
        let m : number_at values high ≡ pos 0 = h 8 no_row (omega arith) ea ea eb in
        omega (arith, ints, ea, eb, ec, l, m)
    by (inl ea) (inl eb) (inr ec) =
        let l : number_at values low ≡ pos 1 = h 4 no_row (omega arith) ea eb ec in
        let m : number_at values high ≡ pos 0 = h 8 no_row (omega arith) ea ea eb in
        omega (arith, ints, ea, eb, ec, l, m)
    by (inl ea) (inr eb) (inl ec) =
        let l : number_at values low ≡ pos 1 = h 2 no_row (omega arith) ea eb ec in
        let m : number_at values high ≡ pos 0 = h 10 no_row (omega arith) ea ea ec in
        omega (arith, ints, ea, eb, ec, l, m)
    by (inl ea) (inr eb) (inr ec) =
        let l : number_at values low ≡ pos 0 = h 6 no_row (omega arith) ea eb ec in
        let m : number_at values high ≡ pos 1 = h 13 no_row (omega arith) eb eb ec in
        omega (arith, ints, ea, eb, ec, l, m)
    by (inr ea) (inl eb) (inl ec) =
        let l : number_at values low ≡ pos 1 = h 1 no_row (omega arith) ea eb ec in
        let m : number_at values high ≡ pos 0 = h 12 no_row (omega arith) eb eb ec in
        omega (arith, ints, ea, eb, ec, l, m)
    by (inr ea) (inl eb) (inr ec) =
        let l : number_at values low ≡ pos 0 = h 5 no_row (omega arith) ea eb ec in
        let m : number_at values high ≡ pos 1 = h 11 no_row (omega arith) ea ea ec in
        omega (arith, ints, ea, eb, ec, l, m)
    by (inr ea) (inr eb) (inl ec) =
        let l : number_at values low ≡ pos 0 = h 3 no_row (omega arith) ea eb ec in
        let m : number_at values high ≡ pos 1 = h 9 no_row (omega arith) ea ea eb in
        omega (arith, ints, ea, eb, ec, l, m)
    by (inr ea) (inr eb) (inr ec) =
        let l : number_at values low ≡ pos 1 = h 7 no_row (omega arith) ea eb ec in
        let m : number_at values high ≡ pos 1 = h 9 no_row (omega arith) ea ea eb in
        omega (arith, ints, ea, eb, ec, l, m)

pub sum_rows_follow : (values : List ℤ) (a b c low high : ℕ) → IsTruth (number_at values a) → IsTruth (number_at values b) → IsTruth (number_at values c) → IsTruth (number_at values low) → IsTruth (number_at values high) → IsSum a b c low high values → All (Follows values) (sum_rows a b c low high)
sum_rows_follow values a b c low high ta tb tc tl th e =
    let ita = within (number_at values a) ta in
    let itb = within (number_at values b) tb in
    let itc = within (number_at values c) tc in
    let itl = within (number_at values low) tl in
    let ith = within (number_at values high) th in
    (All-cons (Follows values) ((a, pos 0), (b, pos 0), (c, pos 0), (low, pos 0)) (((a, pos 1), (b, pos 0), (c, pos 0), (low, pos 1)) ∷ ((a, pos 0), (b, pos 1), (c, pos 0), (low, pos 1)) ∷ ((a, pos 1), (b, pos 1), (c, pos 0), (low, pos 0)) ∷ ((a, pos 0), (b, pos 0), (c, pos 1), (low, pos 1)) ∷ ((a, pos 1), (b, pos 0), (c, pos 1), (low, pos 0)) ∷ ((a, pos 0), (b, pos 1), (c, pos 1), (low, pos 0)) ∷ ((a, pos 1), (b, pos 1), (c, pos 1), (low, pos 1)) ∷ ((a, pos 0), (a, pos 0), (b, pos 0), (high, pos 0)) ∷ ((a, pos 1), (a, pos 1), (b, pos 1), (high, pos 1)) ∷ ((a, pos 0), (a, pos 0), (c, pos 0), (high, pos 0)) ∷ ((a, pos 1), (a, pos 1), (c, pos 1), (high, pos 1)) ∷ ((b, pos 0), (b, pos 0), (c, pos 0), (high, pos 0)) ∷ ((b, pos 1), (b, pos 1), (c, pos 1), (high, pos 1)) ∷ [])
    (λ p q r. omega (arith, ints, p, q, r, e, ita.0, ita.1, itb.0, itb.1, itc.0, itc.1, itl.0, itl.1, ith.0, ith.1))
    (All-cons (Follows values) ((a, pos 1), (b, pos 0), (c, pos 0), (low, pos 1)) (((a, pos 0), (b, pos 1), (c, pos 0), (low, pos 1)) ∷ ((a, pos 1), (b, pos 1), (c, pos 0), (low, pos 0)) ∷ ((a, pos 0), (b, pos 0), (c, pos 1), (low, pos 1)) ∷ ((a, pos 1), (b, pos 0), (c, pos 1), (low, pos 0)) ∷ ((a, pos 0), (b, pos 1), (c, pos 1), (low, pos 0)) ∷ ((a, pos 1), (b, pos 1), (c, pos 1), (low, pos 1)) ∷ ((a, pos 0), (a, pos 0), (b, pos 0), (high, pos 0)) ∷ ((a, pos 1), (a, pos 1), (b, pos 1), (high, pos 1)) ∷ ((a, pos 0), (a, pos 0), (c, pos 0), (high, pos 0)) ∷ ((a, pos 1), (a, pos 1), (c, pos 1), (high, pos 1)) ∷ ((b, pos 0), (b, pos 0), (c, pos 0), (high, pos 0)) ∷ ((b, pos 1), (b, pos 1), (c, pos 1), (high, pos 1)) ∷ [])
    (λ p q r. omega (arith, ints, p, q, r, e, ita.0, ita.1, itb.0, itb.1, itc.0, itc.1, itl.0, itl.1, ith.0, ith.1))
    (All-cons (Follows values) ((a, pos 0), (b, pos 1), (c, pos 0), (low, pos 1)) (((a, pos 1), (b, pos 1), (c, pos 0), (low, pos 0)) ∷ ((a, pos 0), (b, pos 0), (c, pos 1), (low, pos 1)) ∷ ((a, pos 1), (b, pos 0), (c, pos 1), (low, pos 0)) ∷ ((a, pos 0), (b, pos 1), (c, pos 1), (low, pos 0)) ∷ ((a, pos 1), (b, pos 1), (c, pos 1), (low, pos 1)) ∷ ((a, pos 0), (a, pos 0), (b, pos 0), (high, pos 0)) ∷ ((a, pos 1), (a, pos 1), (b, pos 1), (high, pos 1)) ∷ ((a, pos 0), (a, pos 0), (c, pos 0), (high, pos 0)) ∷ ((a, pos 1), (a, pos 1), (c, pos 1), (high, pos 1)) ∷ ((b, pos 0), (b, pos 0), (c, pos 0), (high, pos 0)) ∷ ((b, pos 1), (b, pos 1), (c, pos 1), (high, pos 1)) ∷ [])
    (λ p q r. omega (arith, ints, p, q, r, e, ita.0, ita.1, itb.0, itb.1, itc.0, itc.1, itl.0, itl.1, ith.0, ith.1))
    (All-cons (Follows values) ((a, pos 1), (b, pos 1), (c, pos 0), (low, pos 0)) (((a, pos 0), (b, pos 0), (c, pos 1), (low, pos 1)) ∷ ((a, pos 1), (b, pos 0), (c, pos 1), (low, pos 0)) ∷ ((a, pos 0), (b, pos 1), (c, pos 1), (low, pos 0)) ∷ ((a, pos 1), (b, pos 1), (c, pos 1), (low, pos 1)) ∷ ((a, pos 0), (a, pos 0), (b, pos 0), (high, pos 0)) ∷ ((a, pos 1), (a, pos 1), (b, pos 1), (high, pos 1)) ∷ ((a, pos 0), (a, pos 0), (c, pos 0), (high, pos 0)) ∷ ((a, pos 1), (a, pos 1), (c, pos 1), (high, pos 1)) ∷ ((b, pos 0), (b, pos 0), (c, pos 0), (high, pos 0)) ∷ ((b, pos 1), (b, pos 1), (c, pos 1), (high, pos 1)) ∷ [])
    (λ p q r. omega (arith, ints, p, q, r, e, ita.0, ita.1, itb.0, itb.1, itc.0, itc.1, itl.0, itl.1, ith.0, ith.1))
    (All-cons (Follows values) ((a, pos 0), (b, pos 0), (c, pos 1), (low, pos 1)) (((a, pos 1), (b, pos 0), (c, pos 1), (low, pos 0)) ∷ ((a, pos 0), (b, pos 1), (c, pos 1), (low, pos 0)) ∷ ((a, pos 1), (b, pos 1), (c, pos 1), (low, pos 1)) ∷ ((a, pos 0), (a, pos 0), (b, pos 0), (high, pos 0)) ∷ ((a, pos 1), (a, pos 1), (b, pos 1), (high, pos 1)) ∷ ((a, pos 0), (a, pos 0), (c, pos 0), (high, pos 0)) ∷ ((a, pos 1), (a, pos 1), (c, pos 1), (high, pos 1)) ∷ ((b, pos 0), (b, pos 0), (c, pos 0), (high, pos 0)) ∷ ((b, pos 1), (b, pos 1), (c, pos 1), (high, pos 1)) ∷ [])
    (λ p q r. omega (arith, ints, p, q, r, e, ita.0, ita.1, itb.0, itb.1, itc.0, itc.1, itl.0, itl.1, ith.0, ith.1))
    (All-cons (Follows values) ((a, pos 1), (b, pos 0), (c, pos 1), (low, pos 0)) (((a, pos 0), (b, pos 1), (c, pos 1), (low, pos 0)) ∷ ((a, pos 1), (b, pos 1), (c, pos 1), (low, pos 1)) ∷ ((a, pos 0), (a, pos 0), (b, pos 0), (high, pos 0)) ∷ ((a, pos 1), (a, pos 1), (b, pos 1), (high, pos 1)) ∷ ((a, pos 0), (a, pos 0), (c, pos 0), (high, pos 0)) ∷ ((a, pos 1), (a, pos 1), (c, pos 1), (high, pos 1)) ∷ ((b, pos 0), (b, pos 0), (c, pos 0), (high, pos 0)) ∷ ((b, pos 1), (b, pos 1), (c, pos 1), (high, pos 1)) ∷ [])
    (λ p q r. omega (arith, ints, p, q, r, e, ita.0, ita.1, itb.0, itb.1, itc.0, itc.1, itl.0, itl.1, ith.0, ith.1))
    (All-cons (Follows values) ((a, pos 0), (b, pos 1), (c, pos 1), (low, pos 0)) (((a, pos 1), (b, pos 1), (c, pos 1), (low, pos 1)) ∷ ((a, pos 0), (a, pos 0), (b, pos 0), (high, pos 0)) ∷ ((a, pos 1), (a, pos 1), (b, pos 1), (high, pos 1)) ∷ ((a, pos 0), (a, pos 0), (c, pos 0), (high, pos 0)) ∷ ((a, pos 1), (a, pos 1), (c, pos 1), (high, pos 1)) ∷ ((b, pos 0), (b, pos 0), (c, pos 0), (high, pos 0)) ∷ ((b, pos 1), (b, pos 1), (c, pos 1), (high, pos 1)) ∷ [])
    (λ p q r. omega (arith, ints, p, q, r, e, ita.0, ita.1, itb.0, itb.1, itc.0, itc.1, itl.0, itl.1, ith.0, ith.1))
    (All-cons (Follows values) ((a, pos 1), (b, pos 1), (c, pos 1), (low, pos 1)) (((a, pos 0), (a, pos 0), (b, pos 0), (high, pos 0)) ∷ ((a, pos 1), (a, pos 1), (b, pos 1), (high, pos 1)) ∷ ((a, pos 0), (a, pos 0), (c, pos 0), (high, pos 0)) ∷ ((a, pos 1), (a, pos 1), (c, pos 1), (high, pos 1)) ∷ ((b, pos 0), (b, pos 0), (c, pos 0), (high, pos 0)) ∷ ((b, pos 1), (b, pos 1), (c, pos 1), (high, pos 1)) ∷ [])
    (λ p q r. omega (arith, ints, p, q, r, e, ita.0, ita.1, itb.0, itb.1, itc.0, itc.1, itl.0, itl.1, ith.0, ith.1))
    (All-cons (Follows values) ((a, pos 0), (a, pos 0), (b, pos 0), (high, pos 0)) (((a, pos 1), (a, pos 1), (b, pos 1), (high, pos 1)) ∷ ((a, pos 0), (a, pos 0), (c, pos 0), (high, pos 0)) ∷ ((a, pos 1), (a, pos 1), (c, pos 1), (high, pos 1)) ∷ ((b, pos 0), (b, pos 0), (c, pos 0), (high, pos 0)) ∷ ((b, pos 1), (b, pos 1), (c, pos 1), (high, pos 1)) ∷ [])
    (λ p q r. omega (arith, ints, p, q, r, e, ita.0, ita.1, itb.0, itb.1, itc.0, itc.1, itl.0, itl.1, ith.0, ith.1))
    (All-cons (Follows values) ((a, pos 1), (a, pos 1), (b, pos 1), (high, pos 1)) (((a, pos 0), (a, pos 0), (c, pos 0), (high, pos 0)) ∷ ((a, pos 1), (a, pos 1), (c, pos 1), (high, pos 1)) ∷ ((b, pos 0), (b, pos 0), (c, pos 0), (high, pos 0)) ∷ ((b, pos 1), (b, pos 1), (c, pos 1), (high, pos 1)) ∷ [])
    (λ p q r. omega (arith, ints, p, q, r, e, ita.0, ita.1, itb.0, itb.1, itc.0, itc.1, itl.0, itl.1, ith.0, ith.1))
    (All-cons (Follows values) ((a, pos 0), (a, pos 0), (c, pos 0), (high, pos 0)) (((a, pos 1), (a, pos 1), (c, pos 1), (high, pos 1)) ∷ ((b, pos 0), (b, pos 0), (c, pos 0), (high, pos 0)) ∷ ((b, pos 1), (b, pos 1), (c, pos 1), (high, pos 1)) ∷ [])
    (λ p q r. omega (arith, ints, p, q, r, e, ita.0, ita.1, itb.0, itb.1, itc.0, itc.1, itl.0, itl.1, ith.0, ith.1))
    (All-cons (Follows values) ((a, pos 1), (a, pos 1), (c, pos 1), (high, pos 1)) (((b, pos 0), (b, pos 0), (c, pos 0), (high, pos 0)) ∷ ((b, pos 1), (b, pos 1), (c, pos 1), (high, pos 1)) ∷ [])
    (λ p q r. omega (arith, ints, p, q, r, e, ita.0, ita.1, itb.0, itb.1, itc.0, itc.1, itl.0, itl.1, ith.0, ith.1))
    (All-cons (Follows values) ((b, pos 0), (b, pos 0), (c, pos 0), (high, pos 0)) (((b, pos 1), (b, pos 1), (c, pos 1), (high, pos 1)) ∷ [])
    (λ p q r. omega (arith, ints, p, q, r, e, ita.0, ita.1, itb.0, itb.1, itc.0, itc.1, itl.0, itl.1, ith.0, ith.1))
    (All-cons (Follows values) ((b, pos 1), (b, pos 1), (c, pos 1), (high, pos 1)) ([])
    (λ p q r. omega (arith, ints, p, q, r, e, ita.0, ita.1, itb.0, itb.1, itc.0, itc.1, itl.0, itl.1, ith.0, ith.1))
    (All-nil (Follows values))))))))))))))))

sum_some : (x y z : ℤ) → IsTruth x → IsTruth y → IsTruth z → (l : ℤ) × (h : ℤ) × IsTruth l × IsTruth h × ((x +ℤ (y +ℤ z)) ≡ (l +ℤ (pos 2 *ℤ h)))
sum_some x y z (inl ea) (inl eb) (inl ec) = (pos 0, pos 0, inl refl, inl refl, omega (arith, ints, ea, eb, ec))
sum_some x y z (inl ea) (inl eb) (inr ec) = (pos 1, pos 0, inr refl, inl refl, omega (arith, ints, ea, eb, ec))
sum_some x y z (inl ea) (inr eb) (inl ec) = (pos 1, pos 0, inr refl, inl refl, omega (arith, ints, ea, eb, ec))
sum_some x y z (inl ea) (inr eb) (inr ec) = (pos 0, pos 1, inl refl, inr refl, omega (arith, ints, ea, eb, ec))
sum_some x y z (inr ea) (inl eb) (inl ec) = (pos 1, pos 0, inr refl, inl refl, omega (arith, ints, ea, eb, ec))
sum_some x y z (inr ea) (inl eb) (inr ec) = (pos 0, pos 1, inl refl, inr refl, omega (arith, ints, ea, eb, ec))
sum_some x y z (inr ea) (inr eb) (inl ec) = (pos 0, pos 1, inl refl, inr refl, omega (arith, ints, ea, eb, ec))
sum_some x y z (inr ea) (inr eb) (inr ec) = (pos 1, pos 1, inr refl, inr refl, omega (arith, ints, ea, eb, ec))

-- two new bits can be the sum of three
pub sum_exists : (values : List ℤ) (a b c n low high : ℕ) → length values ≡ n → low ≡ n + 0 → high ≡ n + 1 → a < n → b < n → c < n → IsTruth (number_at values a) → IsTruth (number_at values b) → IsTruth (number_at values c) → SomeTruths 2 (λ truths. IsSum a b c low high (values ++ truths))
sum_exists values a b c n low high long is_low is_high la lb lc ta tb tc =
    let some = sum_some (number_at values a) (number_at values b) (number_at values c) ta tb tc in
    let ts : List ℤ = some.0 ∷ some.1 ∷ [] in
    let ka : number_at (values ++ ts) a ≡ number_at values a = number_kept values ts a (omega (arith, long, la)) in
    let kb : number_at (values ++ ts) b ≡ number_at values b = number_kept values ts b (omega (arith, long, lb)) in
    let kc : number_at (values ++ ts) c ≡ number_at values c = number_kept values ts c (omega (arith, long, lc)) in
    let kl : number_at (values ++ ts) low ≡ some.0 = ap (number_at (values ++ ts)) is_low ∙ truth_at values ts n 0 long in
    let kh : number_at (values ++ ts) high ≡ some.1 = ap (number_at (values ++ ts)) is_high ∙ truth_at values ts n 1 long in
    let e = some.4 in
    record {
      truths = ts;
      many = refl;
      each = All-cons IsTruth some.0 (some.1 ∷ []) some.2 (All-cons IsTruth some.1 [] some.3 (All-nil IsTruth));
      holds_there = omega (arith, ints, ka, kb, kc, kl, kh, e);
    }

pub above_follows : (values : List ℤ) (a b before x : ℕ) → IsTruth (number_at values a) → IsTruth (number_at values b) → IsTruth (number_at values before) → IsTruth (number_at values x) → All (Follows values) (above_rows a b before x) → IsAbove a b before values x
above_follows values a b before x ta tb tg tx h = by ta tb tg
  where
    by : IsTruth (number_at values a) → IsTruth (number_at values b) → IsTruth (number_at values before) → IsAbove a b before values x
    by (inl ea) (inl eb) (inl eg) =
        let m : number_at values x ≡ pos 0 = h 3 no_row (omega arith) ea ea eg in
        record { enough = omega (arith, ints, ea, eb, eg, m); no_more = omega (arith, ints, ea, eb, eg, m) }
    by (inl ea) (inl eb) (inr eg) =
        let m : number_at values x ≡ pos 1 = h 4 no_row (omega arith) eb eb eg in
        record { enough = omega (arith, ints, ea, eb, eg, m); no_more = omega (arith, ints, ea, eb, eg, m) }
    by (inl ea) (inr eb) (inl eg) =
        let m : number_at values x ≡ pos 0 = h 1 no_row (omega arith) ea ea eb in
        record { enough = omega (arith, ints, ea, eb, eg, m); no_more = omega (arith, ints, ea, eb, eg, m) }
    by (inl ea) (inr eb) (inr eg) =
        let m : number_at values x ≡ pos 0 = h 1 no_row (omega arith) ea ea eb in
        record { enough = omega (arith, ints, ea, eb, eg, m); no_more = omega (arith, ints, ea, eb, eg, m) }
    by (inr ea) (inl eb) (inl eg) =
        let m : number_at values x ≡ pos 1 = h 0 no_row (omega arith) ea ea eb in
        record { enough = omega (arith, ints, ea, eb, eg, m); no_more = omega (arith, ints, ea, eb, eg, m) }
    by (inr ea) (inl eb) (inr eg) =
        let m : number_at values x ≡ pos 1 = h 0 no_row (omega arith) ea ea eb in
        record { enough = omega (arith, ints, ea, eb, eg, m); no_more = omega (arith, ints, ea, eb, eg, m) }
    by (inr ea) (inr eb) (inl eg) =
        let m : number_at values x ≡ pos 0 = h 5 no_row (omega arith) eb eb eg in
        record { enough = omega (arith, ints, ea, eb, eg, m); no_more = omega (arith, ints, ea, eb, eg, m) }
    by (inr ea) (inr eb) (inr eg) =
        let m : number_at values x ≡ pos 1 = h 2 no_row (omega arith) ea ea eg in
        record { enough = omega (arith, ints, ea, eb, eg, m); no_more = omega (arith, ints, ea, eb, eg, m) }

pub above_rows_follow : (values : List ℤ) (a b before x : ℕ) → IsTruth (number_at values a) → IsTruth (number_at values b) → IsTruth (number_at values before) → IsTruth (number_at values x) → IsAbove a b before values x → All (Follows values) (above_rows a b before x)
above_rows_follow values a b before x ta tb tg tx e =
    let ita = within (number_at values a) ta in
    let itb = within (number_at values b) tb in
    let itg = within (number_at values before) tg in
    let itx = within (number_at values x) tx in
    let one = e.enough in
    let two = e.no_more in
    (All-cons (Follows values) ((a, pos 1), (a, pos 1), (b, pos 0), (x, pos 1)) (((a, pos 0), (a, pos 0), (b, pos 1), (x, pos 0)) ∷ ((a, pos 1), (a, pos 1), (before, pos 1), (x, pos 1)) ∷ ((a, pos 0), (a, pos 0), (before, pos 0), (x, pos 0)) ∷ ((b, pos 0), (b, pos 0), (before, pos 1), (x, pos 1)) ∷ ((b, pos 1), (b, pos 1), (before, pos 0), (x, pos 0)) ∷ [])
    (λ p q r. omega (arith, ints, p, q, r, one, two, ita.0, ita.1, itb.0, itb.1, itg.0, itg.1, itx.0, itx.1))
    (All-cons (Follows values) ((a, pos 0), (a, pos 0), (b, pos 1), (x, pos 0)) (((a, pos 1), (a, pos 1), (before, pos 1), (x, pos 1)) ∷ ((a, pos 0), (a, pos 0), (before, pos 0), (x, pos 0)) ∷ ((b, pos 0), (b, pos 0), (before, pos 1), (x, pos 1)) ∷ ((b, pos 1), (b, pos 1), (before, pos 0), (x, pos 0)) ∷ [])
    (λ p q r. omega (arith, ints, p, q, r, one, two, ita.0, ita.1, itb.0, itb.1, itg.0, itg.1, itx.0, itx.1))
    (All-cons (Follows values) ((a, pos 1), (a, pos 1), (before, pos 1), (x, pos 1)) (((a, pos 0), (a, pos 0), (before, pos 0), (x, pos 0)) ∷ ((b, pos 0), (b, pos 0), (before, pos 1), (x, pos 1)) ∷ ((b, pos 1), (b, pos 1), (before, pos 0), (x, pos 0)) ∷ [])
    (λ p q r. omega (arith, ints, p, q, r, one, two, ita.0, ita.1, itb.0, itb.1, itg.0, itg.1, itx.0, itx.1))
    (All-cons (Follows values) ((a, pos 0), (a, pos 0), (before, pos 0), (x, pos 0)) (((b, pos 0), (b, pos 0), (before, pos 1), (x, pos 1)) ∷ ((b, pos 1), (b, pos 1), (before, pos 0), (x, pos 0)) ∷ [])
    (λ p q r. omega (arith, ints, p, q, r, one, two, ita.0, ita.1, itb.0, itb.1, itg.0, itg.1, itx.0, itx.1))
    (All-cons (Follows values) ((b, pos 0), (b, pos 0), (before, pos 1), (x, pos 1)) (((b, pos 1), (b, pos 1), (before, pos 0), (x, pos 0)) ∷ [])
    (λ p q r. omega (arith, ints, p, q, r, one, two, ita.0, ita.1, itb.0, itb.1, itg.0, itg.1, itx.0, itx.1))
    (All-cons (Follows values) ((b, pos 1), (b, pos 1), (before, pos 0), (x, pos 0)) ([])
    (λ p q r. omega (arith, ints, p, q, r, one, two, ita.0, ita.1, itb.0, itb.1, itg.0, itg.1, itx.0, itx.1))
    (All-nil (Follows values))))))))

above_some : (x y z : ℤ) → IsTruth x → IsTruth y → IsTruth z → (v : ℤ) × IsTruth v × ((pos 2 *ℤ v) ≤ℤ (((x -ℤ y) +ℤ z) +ℤ pos 1)) × (((x -ℤ y) +ℤ z) ≤ℤ (pos 2 *ℤ v))
above_some x y z (inl ea) (inl eb) (inl eg) = (pos 0, inl refl, omega (arith, ints, ea, eb, eg), omega (arith, ints, ea, eb, eg))
above_some x y z (inl ea) (inl eb) (inr eg) = (pos 1, inr refl, omega (arith, ints, ea, eb, eg), omega (arith, ints, ea, eb, eg))
above_some x y z (inl ea) (inr eb) (inl eg) = (pos 0, inl refl, omega (arith, ints, ea, eb, eg), omega (arith, ints, ea, eb, eg))
above_some x y z (inl ea) (inr eb) (inr eg) = (pos 0, inl refl, omega (arith, ints, ea, eb, eg), omega (arith, ints, ea, eb, eg))
above_some x y z (inr ea) (inl eb) (inl eg) = (pos 1, inr refl, omega (arith, ints, ea, eb, eg), omega (arith, ints, ea, eb, eg))
above_some x y z (inr ea) (inl eb) (inr eg) = (pos 1, inr refl, omega (arith, ints, ea, eb, eg), omega (arith, ints, ea, eb, eg))
above_some x y z (inr ea) (inr eb) (inl eg) = (pos 0, inl refl, omega (arith, ints, ea, eb, eg), omega (arith, ints, ea, eb, eg))
above_some x y z (inr ea) (inr eb) (inr eg) = (pos 1, inr refl, omega (arith, ints, ea, eb, eg), omega (arith, ints, ea, eb, eg))

-- a new bit can say which is above
pub above_exists : (values : List ℤ) (a b before n x : ℕ) → length values ≡ n → x ≡ n → a < n → b < n → before < n → IsTruth (number_at values a) → IsTruth (number_at values b) → IsTruth (number_at values before) → SomeTruths 1 (λ truths. IsAbove a b before (values ++ truths) x)
above_exists values a b before n x long is_new la lb lg ta tb tg =
    let some = above_some (number_at values a) (number_at values b) (number_at values before) ta tb tg in
    let ts : List ℤ = some.0 ∷ [] in
    let ka : number_at (values ++ ts) a ≡ number_at values a = number_kept values ts a (omega (arith, long, la)) in
    let kb : number_at (values ++ ts) b ≡ number_at values b = number_kept values ts b (omega (arith, long, lb)) in
    let kg : number_at (values ++ ts) before ≡ number_at values before = number_kept values ts before (omega (arith, long, lg)) in
    let kx : number_at (values ++ ts) x ≡ some.0 = ap (number_at (values ++ ts)) (is_new ∙ omega arith) ∙ truth_at values ts n 0 long in
    let one = some.2 in
    let two = some.3 in
    record {
      truths = ts;
      many = refl;
      each = All-cons IsTruth some.0 [] some.1 (All-nil IsTruth);
      holds_there = record { enough = omega (arith, ints, ka, kb, kg, kx, one); no_more = omega (arith, ints, ka, kb, kg, kx, two) };
    }

pub alike_follows : (values : List ℤ) (a b before x : ℕ) → IsTruth (number_at values a) → All (Follows values) (alike_rows a b before x) → IsAlike a b before values x
alike_follows values a b before x ta h = (λ e. (h 0 no_row (omega arith) e e e, same e ta), λ both. back both.0 both.1 ta)
  where
    same : number_at values x ≡ pos 1 → IsTruth (number_at values a) → number_at values a ≡ number_at values b
    same e (inl ea) = let eb : number_at values b ≡ pos 0 = h 1 no_row (omega arith) e e ea in ea ∙ sym eb
    same e (inr ea) = let eb : number_at values b ≡ pos 1 = h 2 no_row (omega arith) e e ea in ea ∙ sym eb

    back : number_at values before ≡ pos 1 → number_at values a ≡ number_at values b → IsTruth (number_at values a) → number_at values x ≡ pos 1
    back e is (inl ea) = h 3 no_row (omega arith) e ea (sym is ∙ ea)
    back e is (inr ea) = h 4 no_row (omega arith) e ea (sym is ∙ ea)

pub alike_rows_follow : (values : List ℤ) (a b before x : ℕ) → IsAlike a b before values x → All (Follows values) (alike_rows a b before x)
alike_rows_follow values a b before x e =
    (All-cons (Follows values) ((x, pos 1), (x, pos 1), (x, pos 1), (before, pos 1)) (((x, pos 1), (x, pos 1), (a, pos 0), (b, pos 0)) ∷ ((x, pos 1), (x, pos 1), (a, pos 1), (b, pos 1)) ∷ ((before, pos 1), (a, pos 0), (b, pos 0), (x, pos 1)) ∷ ((before, pos 1), (a, pos 1), (b, pos 1), (x, pos 1)) ∷ [])
    (λ p q r. (e.0 p).0)
    (All-cons (Follows values) ((x, pos 1), (x, pos 1), (a, pos 0), (b, pos 0)) (((x, pos 1), (x, pos 1), (a, pos 1), (b, pos 1)) ∷ ((before, pos 1), (a, pos 0), (b, pos 0), (x, pos 1)) ∷ ((before, pos 1), (a, pos 1), (b, pos 1), (x, pos 1)) ∷ [])
    (λ p q r. sym (e.0 p).1 ∙ r)
    (All-cons (Follows values) ((x, pos 1), (x, pos 1), (a, pos 1), (b, pos 1)) (((before, pos 1), (a, pos 0), (b, pos 0), (x, pos 1)) ∷ ((before, pos 1), (a, pos 1), (b, pos 1), (x, pos 1)) ∷ [])
    (λ p q r. sym (e.0 p).1 ∙ r)
    (All-cons (Follows values) ((before, pos 1), (a, pos 0), (b, pos 0), (x, pos 1)) (((before, pos 1), (a, pos 1), (b, pos 1), (x, pos 1)) ∷ [])
    (λ p q r. e.1 (p, q ∙ sym r))
    (All-cons (Follows values) ((before, pos 1), (a, pos 1), (b, pos 1), (x, pos 1)) ([])
    (λ p q r. e.1 (p, q ∙ sym r))
    (All-nil (Follows values)))))))

apart : {X : Type 0} (v w : ℤ) → v ≡ pos 0 → w ≡ pos 1 → v ≡ w → X
apart v w a b e = absurd (omega (arith, ints, a, b, e))

alike_some : (x y z : ℤ) → IsTruth x → IsTruth y → IsTruth z → (v : ℤ) × IsTruth v × ((v ≡ pos 1) ↔ ((z ≡ pos 1) × (x ≡ y)))
alike_some x y z (inl ea) (inl eb) (inl eg) = (pos 0, inl refl, (λ e. apart (pos 0) (pos 1) refl refl e, λ both. apart z (pos 1) eg refl both.0))
alike_some x y z (inl ea) (inl eb) (inr eg) = (pos 1, inr refl, (λ e. (eg, ea ∙ sym eb), λ both. refl))
alike_some x y z (inl ea) (inr eb) (inl eg) = (pos 0, inl refl, (λ e. apart (pos 0) (pos 1) refl refl e, λ both. apart z (pos 1) eg refl both.0))
alike_some x y z (inl ea) (inr eb) (inr eg) = (pos 0, inl refl, (λ e. apart (pos 0) (pos 1) refl refl e, λ both. apart x y ea eb both.1))
alike_some x y z (inr ea) (inl eb) (inl eg) = (pos 0, inl refl, (λ e. apart (pos 0) (pos 1) refl refl e, λ both. apart z (pos 1) eg refl both.0))
alike_some x y z (inr ea) (inl eb) (inr eg) = (pos 0, inl refl, (λ e. apart (pos 0) (pos 1) refl refl e, λ both. apart y x eb ea (sym both.1)))
alike_some x y z (inr ea) (inr eb) (inl eg) = (pos 0, inl refl, (λ e. apart (pos 0) (pos 1) refl refl e, λ both. apart z (pos 1) eg refl both.0))
alike_some x y z (inr ea) (inr eb) (inr eg) = (pos 1, inr refl, (λ e. (eg, ea ∙ sym eb), λ both. refl))

-- a new bit can say whether two are alike
pub alike_exists : (values : List ℤ) (a b before n x : ℕ) → length values ≡ n → x ≡ n → a < n → b < n → before < n → IsTruth (number_at values a) → IsTruth (number_at values b) → IsTruth (number_at values before) → SomeTruths 1 (λ truths. IsAlike a b before (values ++ truths) x)
alike_exists values a b before n x long is_new la lb lg ta tb tg =
    let some = alike_some (number_at values a) (number_at values b) (number_at values before) ta tb tg in
    let ts : List ℤ = some.0 ∷ [] in
    let ka : number_at (values ++ ts) a ≡ number_at values a = number_kept values ts a (omega (arith, long, la)) in
    let kb : number_at (values ++ ts) b ≡ number_at values b = number_kept values ts b (omega (arith, long, lb)) in
    let kg : number_at (values ++ ts) before ≡ number_at values before = number_kept values ts before (omega (arith, long, lg)) in
    let kx : number_at (values ++ ts) x ≡ some.0 = ap (number_at (values ++ ts)) (is_new ∙ omega arith) ∙ truth_at values ts n 0 long in
    let same = some.2 in
    record {
      truths = ts;
      many = refl;
      each = All-cons IsTruth some.0 [] some.1 (All-nil IsTruth);
      holds_there = (
        λ e. let both = same.0 (sym kx ∙ e) in (kg ∙ both.0, ka ∙ both.1 ∙ sym kb),
        λ both. kx ∙ same.1 (sym kg ∙ both.0, sym ka ∙ both.1 ∙ kb),
      );
    }
