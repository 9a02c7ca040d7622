-- A list of literals in order is known by which literals it has.
use Rattle.std.proofs.Common.{◌≡◌, ℕ, suc, ◌<◌, ◌≤◌, Bool, true, false, cond, ltb, eqb, ◌&&◌, ◌||◌, List, [], ◌∷◌, Result, Ok, Err, IfOk, length, get_or, refl, sym, ap, subst, ◌∙◌, arith, inl, inr, ◌⊎◌}
use Rattle.std.proofs.lemmas.Bool.Decides.{nat_tests}
use Rattle.std.proofs.lemmas.Bool.{ltb-true, ltb-false, eqb-true, or_left, or_right}
use Rattle.std.specs.List.{All, Contains}
use Rattle.std.proofs.lemmas.List.Elements.{All-nil, All-cons}
use Rattle.std.proofs.lemmas.List.Kept.{AllPairs-cons}
use Rattle.std.proofs.lemmas.List.Folds.{list_any_at, Any-from_list_any}
use Rattle.cnf_core.specs.Literal.{Literal, Precedes, IsOrdered, HaveSameLiterals, same_sign, same_literal, is_among, code_of}
use Rattle.sat_text.specs.Clauses.{with_literal, in_order}
use Rattle.sat_text.proofs.Cuts.{bool_cases}

same_sign_is : (a b : Bool) → same_sign a b ≡ true → a ≡ b
same_sign_is true true e = refl
same_sign_is true false e = absurd cc
same_sign_is false true e = absurd cc
same_sign_is false false e = refl

same_sign_same : (a : Bool) → same_sign a a ≡ true
same_sign_same true = refl
same_sign_same false = refl

and_parts : (a b : Bool) → (a && b) ≡ true → (a ≡ true) × (b ≡ true)
and_parts true b e = (refl, e)
and_parts false b e = absurd cc

and_both : (a b : Bool) → a ≡ true → b ≡ true → (a && b) ≡ true
and_both true b e f = f
and_both false b e f = absurd cc

or_cases : (a b : Bool) → (a || b) ≡ true → (a ≡ true) ⊎ (b ≡ true)
or_cases true b e = inl refl
or_cases false b e = inr e

same_is : (a b : Literal) → same_literal a b ≡ true → a ≡ b
same_is a b e =
    let both = and_parts (eqb a.var b.var) (same_sign a.positive b.positive) e in
    let v : a.var ≡ b.var = eqb-true _ _ both.0 in
    let s : a.positive ≡ b.positive = same_sign_is a.positive b.positive both.1 in
    let one : Literal → Literal → Type 0 = λ x y. x ≡ y in
    let first : one (record { var = a.var; positive = a.positive }) (record { var = b.var; positive = a.positive }) = ap (λ (w : ℕ). record { var = w; positive = a.positive }) v in
    let second : one (record { var = b.var; positive = a.positive }) (record { var = b.var; positive = b.positive }) = ap (λ (p : Bool). record { var = b.var; positive = p }) s in
    first ∙ second

same_same : (a : Literal) → same_literal a a ≡ true
same_same a = and_both (eqb a.var a.var) (same_sign a.positive a.positive) (grind (arith, nat_tests)) (same_sign_same a.positive)

-- ---- the order by the literals' numbers

-- what a sign adds to a literal's number
abbrev sign_of : Bool → ℕ
sign_of b = cond b 0 1

sign_le : (b : Bool) → sign_of b ≤ 1
sign_le true = omega arith
sign_le false = omega arith

precedes_code : (a b : Literal) → Precedes a b → code_of a < code_of b
precedes_code a b (inl lt) = omega (arith, sign_le a.positive, lt)
precedes_code a b (inr same) =
    let first : sign_of a.positive ≡ 0 = ap sign_of same.1 in
    let second : sign_of b.positive ≡ 1 = ap sign_of same.2 in
    omega (arith, first, second, same.0)

sign_is : (a b : Bool) → sign_of a ≡ sign_of b → a ≡ b
sign_is true true e = refl
sign_is true false e = absurd (omega (arith, e))
sign_is false true e = absurd (omega (arith, e))
sign_is false false e = refl

code_same : (a b : Literal) → code_of a ≡ code_of b → same_literal a b ≡ true
code_same a b e =
    let v : a.var ≡ b.var = omega (arith, e, sign_le a.positive, sign_le b.positive) in
    let s : a.positive ≡ b.positive = sign_is a.positive b.positive (omega (arith, e, v)) in
    and_both (eqb a.var b.var) (same_sign a.positive b.positive) (grind (arith, nat_tests)) (subst (λ (p : Bool). same_sign a.positive p ≡ true) s (same_sign_same a.positive))

-- each literal of the list has a greater number
abbrev Above : Literal → List Literal → Type 0
Above l [] = Unit {0}
Above l (m ∷ literals) = (code_of l < code_of m) × Above l literals

abbrev Ascends : List Literal → Type 0
Ascends [] = Unit {0}
Ascends (l ∷ literals) = Above l literals × Ascends literals

above_from : (l : Literal) (literals : List Literal) → ((k : ℕ) (d : Literal) → k < length literals → Precedes l (get_or literals k d)) → Above l literals
above_from l [] h = tt
above_from l (m ∷ literals) h = (precedes_code l m (h 0 l (omega arith)), above_from l literals (λ k d lt. h (suc k) d (omega arith)))

ascends_from : (literals : List Literal) → IsOrdered literals → Ascends literals
ascends_from [] h = tt
ascends_from (l ∷ literals) h = (above_from l literals (λ k d lt. h 0 (suc k) d (omega arith) (omega arith)), ascends_from literals (λ i j d ij jl. h (suc i) (suc j) d (omega arith) (omega arith)))

above_among : (l q : Literal) (literals : List Literal) → Above l literals → is_among literals q ≡ true → code_of l < code_of q
above_among l q [] h e = absurd cc
above_among l q (m ∷ literals) h e =
    elim (or_cases (same_literal q m) (is_among literals q) e) [
      | inl s ↦ subst (λ (x : Literal). code_of l < code_of x) (sym (same_is q m s)) h.0
      | inr t ↦ above_among l q literals h.1 t
    ]

heads : (x y : Literal) (xs ys : List Literal) → Above x xs → Above y ys → is_among (y ∷ ys) x ≡ true → is_among (x ∷ xs) y ≡ true → x ≡ y
heads x y xs ys a b e g =
    elim (or_cases (same_literal x y) (is_among ys x) e) [
      | inl s ↦ same_is x y s
      | inr t ↦ elim (or_cases (same_literal y x) (is_among xs y) g) [
        | inl s ↦ sym (same_is y x s)
        | inr u ↦ absurd (omega (arith, above_among y x ys b t, above_among x y xs a u))
      ]
    ]

tail_in : (x y q : Literal) (xs ys : List Literal) → x ≡ y → Above x xs → is_among xs q ≡ true → is_among (y ∷ ys) q ≡ true → is_among ys q ≡ true
tail_in x y q xs ys same a e g =
    elim (or_cases (same_literal q y) (is_among ys q) g) [
      | inl s ↦
          let q-is : q ≡ x = same_is q y s ∙ sym same in
          absurd (omega (arith, above_among x q xs a e, ap code_of q-is))
      | inr t ↦ t
    ]

-- what ascends is known by its literals
unique : (xs ys : List Literal) → Ascends xs → Ascends ys → ((q : Literal) → is_among xs q ≡ true → is_among ys q ≡ true) → ((q : Literal) → is_among ys q ≡ true → is_among xs q ≡ true) → xs ≡ ys
unique [] [] a b f g = refl
unique [] (y ∷ ys) a b f g = absurd (let h = g y (or_left (same_literal y y) (is_among ys y) (same_same y)) in cc)
unique (x ∷ xs) [] a b f g = absurd (let h = f x (or_left (same_literal x x) (is_among xs x) (same_same x)) in cc)
unique (x ∷ xs) (y ∷ ys) a b f g =
    let same : x ≡ y = heads x y xs ys a.0 b.0 (f x (or_left (same_literal x x) (is_among xs x) (same_same x))) (g y (or_left (same_literal y y) (is_among ys y) (same_same y))) in
    let tails : xs ≡ ys = unique xs ys a.1 b.1 (λ q e. tail_in x y q xs ys same a.0 e (f q (or_right (same_literal q x) (is_among xs q) e))) (λ q e. tail_in y x q ys xs (sym same) b.0 e (g q (or_right (same_literal q y) (is_among ys q) e))) in
    ap (λ (l : Literal). l ∷ xs) same ∙ ap (λ (ls : List Literal). y ∷ ls) tails

-- ---- literals that are put in order

above_with : (l m : Literal) (literals : List Literal) → code_of m < code_of l → Above m literals → Above m (with_literal l literals)
above_with l m [] lt a = (lt, tt)
above_with l m (k ∷ literals) lt a =
    elim (bool_cases (ltb (code_of l) (code_of k))) [
      | inl t ↦ rw t (lt, a)
      | inr f ↦ elim (bool_cases (same_literal l k)) [
        | inl s ↦ rw (f, s) a
        | inr n ↦ rw (f, n) (a.0, above_with l m literals lt a.1)
      ]
    ]

above_lower : (l m : Literal) (literals : List Literal) → code_of l < code_of m → Above m literals → Above l literals
above_lower l m [] lt a = tt
above_lower l m (k ∷ literals) lt a = (omega (arith, lt, a.0), above_lower l m literals lt a.1)

ascends_with : (l : Literal) (literals : List Literal) → Ascends literals → Ascends (with_literal l literals)
ascends_with l [] a = (tt, tt)
ascends_with l (m ∷ literals) a =
    elim (bool_cases (ltb (code_of l) (code_of m))) [
      | inl t ↦ rw t ((ltb-true _ _ t, above_lower l m literals (ltb-true _ _ t) a.0), a)
      | inr f ↦ elim (bool_cases (same_literal l m)) [
        | inl s ↦ rw (f, s) a
        | inr n ↦
            let differ : code_of l ≡ code_of m → ⊥ = λ e. let h : true ≡ false = sym (code_same l m e) ∙ n in absurd cc in
            let le : code_of m ≤ code_of l = ltb-false _ _ f in
            rw (f, n) (above_with l m literals (omega (arith, le, differ)) a.0, ascends_with l literals a.1)
      ]
    ]

or_swap : (a b c : Bool) → (a || (b || c)) ≡ (b || (a || c))
or_swap true true c = refl
or_swap true false c = refl
or_swap false b c = refl

or_twice : (a b : Bool) → (a || b) ≡ (a || (a || b))
or_twice true b = refl
or_twice false b = refl

among_with : (l q : Literal) (literals : List Literal) → is_among (with_literal l literals) q ≡ is_among (l ∷ literals) q
among_with l q [] = refl
among_with l q (m ∷ literals) =
    elim (bool_cases (ltb (code_of l) (code_of m))) [
      | inl t ↦ rw t refl
      | inr f ↦ elim (bool_cases (same_literal l m)) [
        | inl s ↦ rw (f, s) (subst (λ (x : Literal). is_among (x ∷ literals) q ≡ is_among (l ∷ x ∷ literals) q) (same_is l m s) (or_twice (same_literal q l) (is_among literals q)))
        | inr n ↦ rw (f, n) (ap (λ (b : Bool). same_literal q m || b) (among_with l q literals) ∙ or_swap (same_literal q m) (same_literal q l) (is_among literals q))
      ]
    ]

clause_ascends : (literals : List Literal) → Ascends (in_order literals)
clause_ascends [] = tt
clause_ascends (l ∷ literals) = ascends_with l (in_order literals) (clause_ascends literals)

clause_among : (literals : List Literal) (q : Literal) → is_among (in_order literals) q ≡ is_among literals q
clause_among [] q = refl
clause_among (l ∷ literals) q = among_with l q (in_order literals) ∙ ap (λ (b : Bool). same_literal q l || b) (clause_among literals q)

among_all : (xs ys : List Literal) (q : Literal) → All (Contains ys) xs → is_among xs q ≡ true → is_among ys q ≡ true
among_all xs ys q each e =
    let found = Any-from_list_any (same_literal q) xs e in
    let there = each found.0 found.1 found.2 in
    let at : get_or ys there.0 (get_or xs found.0 found.1) ≡ found.1 = there.2 ∙ found.3 in
    list_any_at (same_literal q) ys there.0 (get_or xs found.0 found.1) there.1 (subst (λ (z : Literal). same_literal q z ≡ true) (sym at) found.4)

-- ---- the clause of literals

sign_zero : (b : Bool) → sign_of b ≡ 0 → b ≡ true
sign_zero true e = refl
sign_zero false e = absurd (omega (arith, e))

sign_one : (b : Bool) → sign_of b ≡ 1 → b ≡ false
sign_one true e = absurd (omega (arith, e))
sign_one false e = refl

code_precedes : (a b : Literal) → code_of a < code_of b → Precedes a b
code_precedes a b lt = elim (bool_cases (ltb a.var b.var)) [
  | inl t ↦ inl (ltb-true _ _ t)
  | inr f ↦
      let le : b.var ≤ a.var = ltb-false _ _ f in
      let same : a.var ≡ b.var = omega (arith, le, lt, sign_le a.positive, sign_le b.positive) in
      inr (same, sign_zero a.positive (omega (arith, same, lt, sign_le a.positive, sign_le b.positive)), sign_one b.positive (omega (arith, same, lt, sign_le a.positive, sign_le b.positive)))
]

all_above : (l : Literal) (literals : List Literal) → Above l literals → All (Precedes l) literals
all_above l [] a = All-nil (Precedes l)
all_above l (m ∷ literals) a = All-cons (Precedes l) m literals (code_precedes l m a.0) (all_above l literals a.1)

ordered_from : (literals : List Literal) → Ascends literals → IsOrdered literals
ordered_from [] a = λ i j d ij jl. absurd (omega (arith, ij, jl))
ordered_from (l ∷ literals) a = AllPairs-cons Precedes l literals (all_above l literals a.0) (ordered_from literals a.1)

contains : (literals : List Literal) (q : Literal) → is_among literals q ≡ true → Contains literals q
contains literals q e =
    let found = Any-from_list_any (same_literal q) literals e in
    let q-is : q ≡ found.1 = same_is q found.1 found.4 in
    subst (Contains literals) (sym q-is) (found.0, found.2, found.3)

each_among : (literals : List Literal) (k : ℕ) (d : Literal) → k < length literals → is_among literals (get_or literals k d) ≡ true
each_among literals k d lt = list_any_at (same_literal (get_or literals k d)) literals k d lt (same_same (get_or literals k d))

pub in_order_ordered : (literals : List Literal) → IsOrdered (in_order literals)
in_order_ordered literals = ordered_from (in_order literals) (clause_ascends literals)

pub in_order_same : (literals : List Literal) → HaveSameLiterals (in_order literals) literals
in_order_same literals = record {
  from_first = λ k d lt. let q = get_or (in_order literals) k d in contains literals q (sym (clause_among literals q) ∙ each_among (in_order literals) k d lt);
  from_second = λ k d lt. let q = get_or literals k d in contains (in_order literals) q (clause_among literals q ∙ each_among literals k d lt);
}

pub clause_is : (clause literals : List Literal) → IsOrdered clause → HaveSameLiterals clause literals → clause ≡ in_order literals
clause_is clause literals ordered same =
    unique clause (in_order literals) (ascends_from clause ordered) (clause_ascends literals)
    (λ q e. clause_among literals q ∙ among_all clause literals q same.from_first e)
    (λ q e. among_all literals clause q same.from_second (sym (clause_among literals q) ∙ e))

-- a clause that is in order already
pub clause_again : (clause : List Literal) → IsOrdered clause → in_order clause ≡ clause
clause_again clause ordered =
    unique (in_order clause) clause (clause_ascends clause) (ascends_from clause ordered) (λ q e. sym (clause_among clause q) ∙ e) (λ q e. clause_among clause q ∙ e)

pub clause_made : {E : Type 0} (r : Result (List Literal) E) (literals : List Literal) → IfOk r IsOrdered → IfOk r (λ clause. HaveSameLiterals clause literals) → IfOk r (λ clause. clause ≡ in_order literals)
clause_made (Ok clause) literals ordered same = clause_is clause literals ordered same
clause_made (Err e) literals ordered same = tt
