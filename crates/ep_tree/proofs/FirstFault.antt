-- The first token with which nothing goes on is determined: what begins a tree still does so with fewer tokens.
use Rattle.std.specs.Prelude.{◌≡◌, ℕ, zero, suc, ◌<◌, ◌≤◌, Bool, true, false, nat_lt, List, [], ◌∷◌, ◌++◌, take, drop, refl}
use Rattle.std.proofs.Common.{arith, ap, subst}
use Rattle.ep_tree.specs.Phrases.{Lexeme, Phrase}
use Rattle.ep_tree.specs.Reading.{Begins, IsTooHigh, Low, Reads, Stops}

-- a front of the tokens, and what follows in a longer front
front : (m n : ℕ) (tokens rest : List Lexeme) → m ≤ n → take n tokens ++ rest ≡ take m tokens ++ (drop m (take n tokens) ++ rest)
front zero n tokens rest h = refl
front (suc m) zero tokens rest h = absurd (omega (arith, h))
front (suc m) (suc n) [] rest h = refl
front (suc m) (suc n) (t ∷ ts) rest h = ap (λ ls. t ∷ ls) (front m n ts rest (omega (arith, h)))

pub Begins-fewer : {A : Type 0} (spells : A → Phrase) (tokens : List Lexeme) (m n : ℕ) → m ≤ n → Begins spells (take n tokens) → Begins spells (take m tokens)
Begins-fewer spells tokens m n h b = (b.0, drop m (take n tokens) ++ b.1, subst (λ ls. spells b.0 ls) (front m n tokens b.1 h) b.2)

-- Where fewer tokens still begin a tree, at most one token is the first with which nothing goes on.
pub stops_once : (begins : List Lexeme → Type 0) (tokens : List Lexeme)
    → ((m n : ℕ) → m ≤ n → begins (take n tokens) → begins (take m tokens))
    → (m n : ℕ) → Stops begins tokens m → Stops begins tokens n → m ≡ n
stops_once begins tokens fewer m n a b = go (nat_lt m n) (nat_lt n m) refl refl
  where
    go : (p q : Bool) → nat_lt m n ≡ p → nat_lt n m ≡ q → m ≡ n
    go true q r s =
        let less : m < n = grind arith in
        absurd (a.after (omega (arith, less, b.within)) (fewer (suc m) n (omega (arith, less)) (b.before (omega (arith, less)))))
    go false true r s =
        let less : n < m = grind arith in
        absurd (b.after (omega (arith, less, a.within)) (fewer (suc n) m (omega (arith, less)) (a.before (omega (arith, less)))))
    go false false r s = grind arith

nothing_after : (ls : List Lexeme) → ls ≡ ls ++ []
nothing_after [] = refl
nothing_after (l ∷ ls) = ap (λ ks. l ∷ ks) (nothing_after ls)

-- What is read isn't also too high: a low tree stands before any token with which only high ones go on.
pub read_not_too_high : {A : Type 0} (spells : A → Phrase) (height_of : A → ℕ) (most : ℕ) (tokens : List Lexeme) (m n : ℕ) (tree : A)
    → Reads spells height_of most tokens m tree → IsTooHigh spells height_of most tokens n → ⊥
read_not_too_high spells height_of most tokens m n tree r h = go (nat_lt n m) refl
  where
    low : Begins (Low height_of most spells) (take m tokens)
    low = (tree, [], (r.low, subst (λ ls. spells tree ls) (nothing_after (take m tokens)) r.spelled))

    go : (b : Bool) → nat_lt n m ≡ b → ⊥
    go true q =
        let less : n < m = grind arith in
        h.stops.after h.inside (Begins-fewer (Low height_of most spells) tokens (suc n) m (omega (arith, less)) low)
    go false q =
        let at_most : m ≤ n = grind arith in
        r.stops.after (omega (arith, at_most, h.inside)) (Begins-fewer spells tokens (suc m) (suc n) (omega (arith, at_most)) h.higher)
