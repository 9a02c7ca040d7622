-- Which literals are true, as the kept signs and as a list.
use Rattle.std.proofs.Common.{◌≡◌, ℕ, ◌+◌, ◌*◌, ◌<◌, Bool, true, false, cond, not, IsTrue, ◌&&◌, ◌||◌, eqb, List, [], ◌∷◌, ◌++◌, length, map, take, drop, get_or, refl, sym, ap, subst, ◌∙◌, arith, inl, inr, ◌⊎◌}
use Rattle.std.proofs.lemmas.Bool.{eqb-true, or_left, or_right}
use Rattle.std.proofs.lemmas.Bool.Decides.{nat_tests}
use Rattle.std.specs.List.{list_any}
use Rattle.std.proofs.lemmas.List.{take-append-drop, take_more}
use Rattle.std.proofs.Math.Seq.{drop-cons}
use Rattle.std.proofs.lemmas.List.Folds.{list_any-append}
use Rattle.std.proofs.Math.Bool.{and-false}
use Rattle.cnf_core.specs.Literal.{Literal, negation, code_of, same_sign, same_literal, is_among}
use Rattle.cnf_core.specs.Reading.{is_false, has_contradiction}
use Rattle.log_check.specs.Kept.{KeepsTrues, MakesTrue}

cond_or : (a b : Bool) → cond a true b ≡ (a || b)
cond_or true b = refl
cond_or false b = refl

pub bool_cases : (b : Bool) → (b ≡ true) ⊎ (b ≡ false)
bool_cases true = inl refl
bool_cases false = inr refl

or_swap : (a b : Bool) → (a || (b || false)) ≡ (b || a)
or_swap true true = refl
or_swap true false = refl
or_swap false true = refl
or_swap false false = refl

same_sign_is : (a b : Bool) → same_sign a b ≡ true → a ≡ b
same_sign_is true true e = refl
same_sign_is true false e = absurd cc
same_sign_is false true e = absurd cc
same_sign_is false false e = refl

same_sign_same : (a : Bool) → same_sign a a ≡ true
same_sign_same true = refl
same_sign_same false = refl

and_parts : (a b : Bool) → (a && b) ≡ true → (a ≡ true) × (b ≡ true)
and_parts true b e = (refl, e)
and_parts false b e = absurd cc

and_both : (a b : Bool) → a ≡ true → b ≡ true → (a && b) ≡ true
and_both true b e f = f
and_both false b e f = absurd cc

and_true : (b : Bool) → (b && true) ≡ b
and_true true = refl
and_true false = refl

not_not : (a : Bool) → not (not a) ≡ a
not_not true = refl
not_not false = refl

pub same_is : (a b : Literal) → same_literal a b ≡ true → a ≡ b
same_is a b e =
    let both = and_parts (eqb a.var b.var) (same_sign a.positive b.positive) e in
    let v : a.var ≡ b.var = eqb-true _ _ both.0 in
    let s : a.positive ≡ b.positive = same_sign_is a.positive b.positive both.1 in
    let one : Literal → Literal → Type 0 = λ x y. x ≡ y in
    let first : one (record { var = a.var; positive = a.positive }) (record { var = b.var; positive = a.positive }) = ap (λ (w : ℕ). record { var = w; positive = a.positive }) v in
    let second : one (record { var = b.var; positive = a.positive }) (record { var = b.var; positive = b.positive }) = ap (λ (p : Bool). record { var = b.var; positive = p }) s in
    first ∙ second

pub same_same : (a : Literal) → same_literal a a ≡ true
same_same a = and_both (eqb a.var a.var) (same_sign a.positive a.positive) (grind (arith, nat_tests)) (same_sign_same a.positive)

-- ---- among literals

pub among_push : (xs : List Literal) (l q : Literal) → is_among (xs ++ l ∷ []) q ≡ is_among (l ∷ xs) q
among_push xs l q = list_any-append (same_literal q) xs (l ∷ []) ∙ or_swap (is_among xs q) (same_literal q l)

among_append_left : (xs ys : List Literal) (q : Literal) → is_among xs q ≡ true → is_among (xs ++ ys) q ≡ true
among_append_left xs ys q e = list_any-append (same_literal q) xs ys ∙ or_left (is_among xs q) (is_among ys q) e

among_append_right : (xs ys : List Literal) (q : Literal) → is_among ys q ≡ true → is_among (xs ++ ys) q ≡ true
among_append_right xs ys q e = list_any-append (same_literal q) xs ys ∙ or_right (is_among xs q) (is_among ys q) e

among_head : (x : Literal) (xs : List Literal) → is_among (x ∷ xs) x ≡ true
among_head x xs = or_left (same_literal x x) (is_among xs x) (same_same x)

-- ---- kept signs

pub keeps_push : (signs : List Literal) (xs : List Literal) (l : Literal) → KeepsTrues signs (l ∷ xs) → KeepsTrues signs (xs ++ l ∷ [])
keeps_push signs xs l kept v positive = kept v positive ∙ sym (among_push xs l (record { var = v; positive = positive }))

-- what a literal that is made true is to any list of the true ones
pub made_true : (old new trues : List Literal) (l : Literal) (done : Bool) → MakesTrue old new l done → KeepsTrues old trues
    → (done ≡ not (is_among trues (negation l))) × (IsTrue done → KeepsTrues new (l ∷ trues))
made_true old new trues l done made kept = (
  made.unless_false ∙ ap not (kept l.var (not l.positive)),
  λ is v positive. made.kept is v positive ∙ ap (λ b. same_literal (record { var = v; positive = positive }) l || b) (kept v positive),
)

or_same : (a b : Bool) → (a ≡ true → b ≡ true) → (a || b) ≡ b
or_same true b h = sym (h refl)
or_same false b h = refl

-- a literal that is true already brings nothing in
pub keeps_again : (signs : List Literal) (xs : List Literal) (l : Literal) → is_among xs l ≡ true → KeepsTrues signs (l ∷ xs) → KeepsTrues signs xs
keeps_again signs xs l there kept v positive =
    let q : Literal = record { var = v; positive = positive } in
    kept v positive ∙ or_same (same_literal q l) (is_among xs q) (λ e. subst (λ (x : Literal). is_among xs x ≡ true) (sym (same_is q l e)) there)

-- no literal is kept together with its negation
abbrev pub IsConsistent : List Literal → Type 0
IsConsistent kept = (l : Literal) → is_among kept l ≡ true → is_among kept (negation l) ≡ false

differs : (v : ℕ) (positive : Bool) → same_literal (record { var = v; positive = positive }) (record { var = v; positive = not positive }) ≡ false
differs v true = and-false (eqb v v)
differs v false = and-false (eqb v v)

-- a literal whose negation isn't true leaves no literal with its negation
pub consistent_more : (old new : List Literal) (l : Literal) → IsConsistent old → is_among old (negation l) ≡ false → KeepsTrues new (l ∷ old) → IsConsistent new
consistent_more old new l consistent open_l kept q e =
    let here : is_among (l ∷ old) q ≡ true = sym (kept q.var q.positive) ∙ e in
    kept q.var (not q.positive) ∙ elim (bool_cases (same_literal (negation q) l)) [
      | inl s ↦
          let is : negation q ≡ l = same_is (negation q) l s in
          let other : same_literal q l ≡ false = subst (λ (m : Literal). same_literal q m ≡ false) is (differs q.var q.positive) in
          let back : negation l ≡ q = ap negation (sym is) ∙ ap (λ b. record { var = q.var; positive = b }) (not_not q.positive) in
          let gone : is_among old q ≡ false = subst (λ (m : Literal). is_among old m ≡ false) back open_l in
          absurd (let none : true ≡ false = sym here ∙ rw (other, gone) refl in cc)
      | inr s ↦ rw s (elim (bool_cases (same_literal q l)) [
        | inl t ↦ subst (λ (m : Literal). is_among old (negation m) ≡ false) (sym (same_is q l t)) open_l
        | inr t ↦ consistent q (rw t at here)
      ])
    ]

keeps_one : (signs : List Literal) (trues : List Literal) → IsConsistent signs → KeepsTrues signs trues → (l : Literal) → is_among trues l ≡ true → is_among trues (negation l) ≡ false
keeps_one signs trues consistent kept l e = sym (kept l.var (not l.positive)) ∙ consistent l (kept l.var l.positive ∙ e)

none_false : (trues ys : List Literal) → ((l : Literal) → is_among ys l ≡ true → is_among trues (negation l) ≡ false) → list_any (is_false trues) ys ≡ false
none_false trues [] h = refl
none_false trues (y ∷ ys) h =
    let first : is_false trues y ≡ false = h y (among_head y ys) in
    let others = none_false trues ys (λ l e. h l (or_right (same_literal l y) (is_among ys l) e)) in
    rw first others

pub keeps_consistent : (signs : List Literal) (trues : List Literal) → IsConsistent signs → KeepsTrues signs trues → has_contradiction trues ≡ false
keeps_consistent signs trues consistent kept = none_false trues trues (keeps_one signs trues consistent kept)

some_false : (trues ys : List Literal) (l : Literal) → is_among ys l ≡ true → is_among trues (negation l) ≡ true → list_any (is_false trues) ys ≡ true
some_false trues [] l there e = absurd cc
some_false trues (y ∷ ys) l there e =
    elim (bool_cases (same_literal l y)) [
      | inl s ↦ or_left (is_false trues y) (list_any (is_false trues) ys) (subst (λ (x : Literal). is_among trues (negation x) ≡ true) (same_is l y s) e)
      | inr s ↦ or_right (is_false trues y) (list_any (is_false trues) ys) (some_false trues ys l (rw s at there) e)
    ]

map_append : (xs ys : List Literal) → map negation (xs ++ ys) ≡ map negation xs ++ map negation ys
map_append [] ys = refl
map_append (x ∷ xs) ys = ap (λ (zs : List Literal). negation x ∷ zs) (map_append xs ys)

split_at : (clause : List Literal) (k : ℕ) (x : Literal) → k < length clause → x ≡ get_or clause k x → map negation clause ≡ map negation (take k clause) ++ (negation x ∷ map negation (drop (k + 1) clause))
split_at clause k x lt is =
    let cut : drop k clause ≡ x ∷ drop (k + 1) clause = grind (arith, drop-cons) in
    ap (map negation) (sym (take-append-drop k clause) ∙ ap (λ (ys : List Literal). take k clause ++ ys) cut) ∙ map_append (take k clause) (x ∷ drop (k + 1) clause)

-- the negation of a literal of the clause contradicts that of an earlier one
pub contradicts : (clause : List Literal) (k : ℕ) (x n : Literal) → k < length clause → x ≡ get_or clause k x → n ≡ negation x → is_among (map negation (take k clause)) (negation n) ≡ true → has_contradiction (map negation clause) ≡ true
contradicts clause k x n lt is n-is found =
    let before : is_among (map negation (take k clause)) (negation (negation x)) ≡ true = subst (λ (m : Literal). is_among (map negation (take k clause)) (negation m) ≡ true) n-is found in
    let parts = split_at clause k x lt is in
    let earlier = map negation (take k clause) in
    let later = negation x ∷ map negation (drop (k + 1) clause) in
    let l : Literal = negation (negation x) in
    let one : is_among (earlier ++ later) l ≡ true = among_append_left earlier later l before in
    let l-neg : negation l ≡ negation x = ap (λ (p : Bool). record { var = x.var; positive = not p }) (not_not x.positive) in
    let two : is_among (earlier ++ later) (negation l) ≡ true = subst (λ (q : Literal). is_among (earlier ++ later) q ≡ true) (sym l-neg) (among_append_right earlier later (negation x) (among_head (negation x) (map negation (drop (k + 1) clause)))) in
    subst (λ (ls : List Literal). has_contradiction ls ≡ true) (sym parts) (some_false (earlier ++ later) (earlier ++ later) l one two)

-- a literal that could not be made true
pub is_contradicted : (trues : List Literal) (l : Literal) (done : Bool) → done ≡ not (is_among trues (negation l)) → done ≡ false → is_among trues (negation l) ≡ true
is_contradicted trues l done e f = sym (not_not (is_among trues (negation l))) ∙ ap not (sym e ∙ f)

-- one more literal of the clause
pub keeps_more : (signs : List Literal) (clause : List Literal) (k : ℕ) (x n : Literal) → k < length clause → x ≡ get_or clause k x → n ≡ negation x → KeepsTrues signs (n ∷ map negation (take k clause)) → KeepsTrues signs (map negation (take (k + 1) clause))
keeps_more signs clause k x n lt is n-is made =
    let kept : KeepsTrues signs (negation x ∷ map negation (take k clause)) = subst (λ (m : Literal). KeepsTrues signs (m ∷ map negation (take k clause))) n-is made in
    let more : take (k + 1) clause ≡ take k clause ++ x ∷ [] = grind (arith, take_more) in
    let all : map negation (take (k + 1) clause) ≡ map negation (take k clause) ++ negation x ∷ [] = ap (map negation) more ∙ map_append (take k clause) (x ∷ []) in
    subst (KeepsTrues signs) (sym all) (keeps_push signs (map negation (take k clause)) (negation x) kept)

-- where a literal was made true, its negation wasn't
pub made_open : (old : List Literal) (l : Literal) (done : Bool) → done ≡ not (is_among old (negation l)) → done ≡ true → is_among old (negation l) ≡ false
made_open old l done made e = sym (not_not (is_among old (negation l))) ∙ ap not (sym made ∙ e)

not_both : (v w : ℕ) → eqb (2 * v + 1) (2 * w + 0) ≡ false
not_both v w = grind (arith, nat_tests)

not_both_turned : (v w : ℕ) → eqb (2 * v + 0) (2 * w + 1) ≡ false
not_both_turned v w = grind (arith, nat_tests)

one_half : (v w : ℕ) → eqb (2 * v + 1) (2 * w + 1) ≡ eqb w v
one_half v w = grind (arith, nat_tests)

one_double : (v w : ℕ) → eqb (2 * v + 0) (2 * w + 0) ≡ eqb w v
one_double v w = grind (arith, nat_tests)

-- a literal has the number of another one's negation exactly where its negation is that one
signed_code : (v w : ℕ) (p r : Bool) → eqb (code_of (record { var = v; positive = not p })) (code_of (record { var = w; positive = r })) ≡ same_literal (record { var = w; positive = not r }) (record { var = v; positive = p })
signed_code v w true true = not_both v w ∙ sym (and-false (eqb w v))
signed_code v w true false = one_half v w ∙ sym (and_true (eqb w v))
signed_code v w false true = one_double v w ∙ sym (and_true (eqb w v))
signed_code v w false false = not_both_turned v w ∙ sym (and-false (eqb w v))

pub code_negated : (l q : Literal) → eqb (code_of (negation l)) (code_of q) ≡ same_literal (negation q) l
code_negated l q = signed_code l.var q.var l.positive q.positive

-- what a table of the false literals is when one more is true
pub more_falses : (old new : ℕ → Bool) (trues : List Literal) (l : Literal)
    → ((q : Literal) → old (code_of q) ≡ is_among trues (negation q))
    → ((n : ℕ) → new n ≡ cond (eqb (code_of (negation l)) n) true (old n))
    → (q : Literal) → new (code_of q) ≡ is_among (trues ++ l ∷ []) (negation q)
more_falses old new trues l falses next q =
    next (code_of q) ∙ rw (code_negated l q) (cond_or (same_literal (negation q) l) (old (code_of q)) ∙ ap (λ b. same_literal (negation q) l || b) (falses q)) ∙ sym (among_push trues l (negation q))

-- where the last literal is taken out and its negation isn't false any more, a literal that is still false is the negation of one that is left
pub left_falses : (old new : ℕ → Bool) (before left : List Literal) (l : Literal) → before ≡ left ++ l ∷ []
    → ((q : Literal) → old (code_of q) ≡ true → is_among before (negation q) ≡ true)
    → ((n : ℕ) → new n ≡ cond (eqb (code_of (negation l)) n) false (old n))
    → (q : Literal) → new (code_of q) ≡ true → is_among left (negation q) ≡ true
left_falses old new before left l cut among next q e =
    elim (bool_cases (eqb (code_of (negation l)) (code_of q))) [
      | inl s ↦ absurd (let none : new (code_of q) ≡ false = next (code_of q) ∙ rw s refl in let no : true ≡ false = sym e ∙ none in cc)
      | inr s ↦
          let same : new (code_of q) ≡ old (code_of q) = next (code_of q) ∙ rw s refl in
          let there : is_among (l ∷ left) (negation q) ≡ true = sym (among_push left l (negation q)) ∙ subst (λ (xs : List Literal). is_among xs (negation q) ≡ true) cut (among q (sym same ∙ e)) in
          let other : same_literal (negation q) l ≡ false = sym (code_negated l q) ∙ s in
          rw other at there
    ]
