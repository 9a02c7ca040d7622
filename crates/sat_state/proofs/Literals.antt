-- Literals, and the value of a variable as literals become true.
use Rattle.std.proofs.Common.{◌≡◌, ◌≢◌, ℕ, ◌<◌, Bool, true, false, not, ◌||◌, ◌&&◌, Option, Some, None, IsSome, if◌then◌else◌, List, [], ◌∷◌, ◌++◌, length, get_or, All, Contains, eqb, refl, sym, ap, ◌∙◌, arith}
use Rattle.std.proofs.Math.Bool.{or_comm, or-true as or_true, or-false}
use Rattle.std.proofs.lemmas.Bool.{both_ways, false≢true, eqb-true, eq-eqb, and_parts, and_from, and_left, ne_eqb}
use Rattle.std.proofs.lemmas.Bool.Decides.{nat_tests}
use Rattle.std.proofs.lemmas.List.Folds.{list_any-append, list_any_at, list_any_none}
use Rattle.std.proofs.lemmas.Map.Views.{Contains-from_any}
use Rattle.cnf_core.specs.Literal.{Literal, negation, same_sign, same_literal, is_among}
use Rattle.cnf_core.specs.Steps.{IsConsistent}
use Rattle.std.specs.Option.{option_eq}
use mathlib.Core.Bool.{beq}
use Rattle.sat_state.specs.Trail.{trail_value}

pub same_sign_is : (a b : Bool) → same_sign a b ≡ true → a ≡ b
same_sign_is true true h = refl
same_sign_is true false h = sym h
same_sign_is false true h = h
same_sign_is false false h = refl

pub same_sign_itself : (a : Bool) → same_sign a a ≡ true
same_sign_itself true = refl
same_sign_itself false = refl

pub same_sign_sym : (a b : Bool) → same_sign a b ≡ same_sign b a
same_sign_sym true true = refl
same_sign_sym true false = refl
same_sign_sym false true = refl
same_sign_sym false false = refl

pub same_sign-not : (a b : Bool) → same_sign (not a) b ≡ same_sign a (not b)
same_sign-not true true = refl
same_sign-not true false = refl
same_sign-not false true = refl
same_sign-not false false = refl

-- literals that test as one are one
pub same_literal_is : (a b : Literal) → same_literal a b ≡ true → a ≡ b
same_literal_is a b h =
    let parts = and_parts (eqb a.var b.var) (same_sign a.positive b.positive) h in
    let var : a.var ≡ b.var = eqb-true a.var b.var parts.0 in
    let sign : a.positive ≡ b.positive = same_sign_is a.positive b.positive parts.1 in
    ap (λ (v : ℕ). let l : Literal = record { var = v; positive = a.positive } in l) var
    ∙ ap (λ (p : Bool). let l : Literal = record { var = b.var; positive = p } in l) sign

pub same_literal_itself : (a : Literal) → same_literal a a ≡ true
same_literal_itself a = and_from (eqb a.var a.var) (same_sign a.positive a.positive) (eq-eqb a.var a.var refl) (same_sign_itself a.positive)

eqb_sym : (a b : ℕ) → eqb a b ≡ eqb b a
eqb_sym a b = grind (arith, nat_tests)

pub same_literal_sym : (a b : Literal) → same_literal a b ≡ same_literal b a
same_literal_sym a b =
    ap (λ (t : Bool). t && same_sign a.positive b.positive) (eqb_sym a.var b.var)
    ∙ ap (λ (t : Bool). eqb b.var a.var && t) (same_sign_sym a.positive b.positive)

pub same_literal-negation : (a b : Literal) → same_literal (negation a) b ≡ same_literal a (negation b)
same_literal-negation a b = ap (λ (t : Bool). eqb a.var b.var && t) (same_sign-not a.positive b.positive)

pub negation-negation : (l : Literal) → negation (negation l) ≡ l
negation-negation l = same_literal_is (negation (negation l)) l (same_literal-negation (negation l) l ∙ same_literal_itself (negation l))

-- one more literal is true
pub is_among_push : (trues : List Literal) (u l : Literal) → is_among (trues ++ u ∷ []) l ≡ (is_among trues l || same_literal l u)
is_among_push trues u l = list_any-append (same_literal l) trues (u ∷ []) ∙ ap (λ (t : Bool). is_among trues l || t) (or-false (same_literal l u))

-- among these literals, by place and by test
pub Contains-from_among : (trues : List Literal) (l : Literal) → is_among trues l ≡ true → Contains trues l
Contains-from_among trues l h = Contains-from_any {eq = same_literal} same_literal_is l trues h

pub among_from_Contains : (trues : List Literal) (l : Literal) → Contains trues l → is_among trues l ≡ true
among_from_Contains trues l h = list_any_at (same_literal l) trues h.0 l h.1 (ap (same_literal l) h.2 ∙ same_literal_itself l)

pub among_at : (trues : List Literal) (k : ℕ) (d : Literal) → k < length trues → is_among trues (get_or trues k d) ≡ true
among_at trues k d h = list_any_at (same_literal (get_or trues k d)) trues k d h (same_literal_itself (get_or trues k d))

-- a literal of a variable and a sign
abbrev of : ℕ → Bool → Literal
of v p = record { var = v; positive = p }

abbrev choice : Bool → Bool → Option Bool
choice a b = if a then Some true else (if b then Some false else None)

choice_none : (a b : Bool) → choice a b ≡ None → (a ≡ false) × (b ≡ false)
choice_none true b h = cc
choice_none false true h = cc
choice_none false false h = (refl, refl)

choice_some : (a b : Bool) → IsSome (choice a b) → (a || b) ≡ true
choice_some true b h = refl
choice_some false true h = refl
choice_some false false h = absurd (false≢true h)

choice_at : (a b c : Bool) → choice a b ≡ Some c → (if c then a else b) ≡ true
choice_at true b true h = refl
choice_at true b false h = cc
choice_at false true true h = cc
choice_at false true false h = refl
choice_at false false c h = cc

none_among : (trues : List Literal) (v : ℕ) (p : Bool) → trail_value trues v ≡ None → (is_among trues (of v p) ≡ false) × (is_among trues (of v (not p)) ≡ false)
none_among trues v true h = choice_none (is_among trues (of v true)) (is_among trues (of v false)) h
none_among trues v false h =
    let e = choice_none (is_among trues (of v true)) (is_among trues (of v false)) h in (e.1, e.0)

-- a literal whose variable has no value is neither true nor false
pub not_true : (trues : List Literal) (u : Literal) → trail_value trues u.var ≡ None → is_among trues u ≡ false
not_true trues u h = (none_among trues u.var u.positive h).0

pub not_false : (trues : List Literal) (u : Literal) → trail_value trues u.var ≡ None → is_among trues (negation u) ≡ false
not_false trues u h = (none_among trues u.var u.positive h).1

some_among : (trues : List Literal) (v : ℕ) (p : Bool) → IsSome (trail_value trues v) → (is_among trues (of v p) || is_among trues (of v (not p))) ≡ true
some_among trues v true h = choice_some (is_among trues (of v true)) (is_among trues (of v false)) h
some_among trues v false h = or_comm (is_among trues (of v false)) (is_among trues (of v true)) ∙ choice_some (is_among trues (of v true)) (is_among trues (of v false)) h

-- a literal whose variable has a value is true or false
pub true_or_false : (trues : List Literal) (u : Literal) → IsSome (trail_value trues u.var) → (is_among trues u || is_among trues (negation u)) ≡ true
true_or_false trues u h = some_among trues u.var u.positive h

-- a variable without a value is that of no literal
pub no_literal : (trues : List Literal) (v : ℕ) → trail_value trues v ≡ None → All (λ l. l.var ≢ v) trues
no_literal trues v h k d in_list e =
    let free : trail_value trues (get_or trues k d).var ≡ None = ap (trail_value trues) e ∙ h in
    both_ways (is_among trues (get_or trues k d)) (not_true trues (get_or trues k d) free) (among_at trues k d in_list)

other_literal : (v w : ℕ) (p q : Bool) → v ≢ w → same_literal (of v p) (of w q) ≡ false
other_literal v w p q h = and_left (eqb v w) (same_sign p q) (ne_eqb v w h)

other_among : (trues : List Literal) (u : Literal) (v : ℕ) (p : Bool) → v ≢ u.var → is_among (trues ++ u ∷ []) (of v p) ≡ is_among trues (of v p)
other_among trues u v p h =
    is_among_push trues u (of v p) ∙ ap (λ (t : Bool). is_among trues (of v p) || t) (other_literal v u.var p u.positive h) ∙ or-false (is_among trues (of v p))

-- another variable keeps its value where one more literal is true
pub value_push_other : (trues : List Literal) (u : Literal) (v : ℕ) → v ≢ u.var → trail_value (trues ++ u ∷ []) v ≡ trail_value trues v
value_push_other trues u v h =
    ap (λ (a : Bool). choice a (is_among (trues ++ u ∷ []) (of v false))) (other_among trues u v true h)
    ∙ ap (λ (b : Bool). choice (is_among trues (of v true)) b) (other_among trues u v false h)

sign_of_var : (v : ℕ) (p q : Bool) → same_literal (of v p) (of v q) ≡ same_sign p q
sign_of_var v p q = ap (λ (t : Bool). t && same_sign p q) (eq-eqb v v refl)

push_sign : (trues : List Literal) (v : ℕ) (p : Bool) → trail_value trues v ≡ None → trail_value (trues ++ of v p ∷ []) v ≡ Some p
push_sign trues v true h =
    let none = none_among trues v true h in
    let yes : is_among (trues ++ of v true ∷ []) (of v true) ≡ true = is_among_push trues (of v true) (of v true) ∙ ap (λ (t : Bool). is_among trues (of v true) || t) (sign_of_var v true true) ∙ or_true (is_among trues (of v true)) in
    ap (λ (a : Bool). choice a (is_among (trues ++ of v true ∷ []) (of v false))) yes
push_sign trues v false h =
    let none = none_among trues v true h in
    let no : is_among (trues ++ of v false ∷ []) (of v true) ≡ false = is_among_push trues (of v false) (of v true) ∙ ap (λ (t : Bool). is_among trues (of v true) || t) (sign_of_var v true false) ∙ or-false (is_among trues (of v true)) ∙ none.0 in
    let yes : is_among (trues ++ of v false ∷ []) (of v false) ≡ true = is_among_push trues (of v false) (of v false) ∙ ap (λ (t : Bool). is_among trues (of v false) || t) (sign_of_var v false false) ∙ or_true (is_among trues (of v false)) in
    ap (λ (a : Bool). choice a (is_among (trues ++ of v false ∷ []) (of v false))) no ∙ ap (λ (b : Bool). choice false b) yes

-- a variable without a value gets the sign of the literal that becomes true
pub value_push : (trues : List Literal) (u : Literal) → trail_value trues u.var ≡ None → trail_value (trues ++ u ∷ []) u.var ≡ Some u.positive
value_push trues u h = push_sign trues u.var u.positive h

-- a variable that is that of no literal has no value
pub no_value : (trues : List Literal) (v : ℕ) → All (λ l. l.var ≢ v) trues → trail_value trues v ≡ None
no_value trues v h =
    let none : (p : Bool) → is_among trues (of v p) ≡ false = λ p. list_any_none (same_literal (of v p)) trues (λ k d in_list. other_literal v (get_or trues k d).var p (get_or trues k d).positive (λ e. h k d in_list (sym e))) in
    ap (λ (a : Bool). choice a (is_among trues (of v false))) (none true) ∙ ap (λ (b : Bool). choice false b) (none false)

test_choice : (a b p : Bool) → (a ≡ true → b ≡ true → ⊥) → option_eq beq (choice a b) (Some p) ≡ (if p then a else b)
test_choice true true p apart = absurd (apart refl refl)
test_choice true false true apart = refl
test_choice true false false apart = refl
test_choice false true true apart = refl
test_choice false true false apart = refl
test_choice false false true apart = refl
test_choice false false false apart = refl

sign_test : (trues : List Literal) (v : ℕ) (p : Bool) → (if p then is_among trues (of v true) else is_among trues (of v false)) ≡ is_among trues (of v p)
sign_test trues v true = refl
sign_test trues v false = refl

-- a literal is true where its variable has its sign
pub value_test : (trues : List Literal) (l : Literal) → IsConsistent trues → option_eq beq (trail_value trues l.var) (Some l.positive) ≡ is_among trues l
value_test trues l apart =
    test_choice (is_among trues (of l.var true)) (is_among trues (of l.var false)) l.positive
    (λ yes' no'. apart (of l.var true) (Contains-from_among trues (of l.var true) yes') (Contains-from_among trues (of l.var false) no'))
    ∙ sign_test trues l.var l.positive
