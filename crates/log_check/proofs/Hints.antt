-- One literal, and one hint, of a reading.
use Rattle.std.proofs.Common.{◌≡◌, ℕ, ℤ, ◌+◌, ◌<◌, ◌≤◌, Bool, true, false, not, IsTrue, List, [], ◌∷◌, length, drop, get_or, Option, Some, None, refl, sym, ap, subst, ◌∙◌, arith, inl, inr}
use Rattle.std.specs.List.{list_all}
use Rattle.std.proofs.Math.Seq.{drop-cons}
use Rattle.std.proofs.lemmas.List.{drop_all}
use Rattle.cnf_core.specs.Literal.{Literal, negation, is_among}
use Rattle.cnf_core.specs.Reading.{is_false, not_false, trues_after, reading_succeeds}
use Rattle.log_check.specs.Verdict.{Live, hinted_clause, before_later, hinted_clauses}
use Rattle.log_check.specs.Kept.{KeepsTrues, remaining_of, remaining_with}
use Rattle.log_check.specs.declared.reading.Remaining.{Remaining}
use Rattle.log_check.specs.declared.reading.Remaining.TheVariants.{Nothing, One, More}
use Rattle.log_check.proofs.Trues.{bool_cases, keeps_again}

next_of : {X : Type 0} (xs : List X) (k : ℕ) (x : X) → k < length xs → x ≡ get_or xs k x → drop k xs ≡ x ∷ drop (k + 1) xs
next_of xs k x lt is = grind (arith, drop-cons)

-- ---- what remains of a clause

false_head : (trues : List Literal) (x : Literal) (xs : List Literal) → is_false trues x ≡ true → not_false trues (x ∷ xs) ≡ not_false trues xs
false_head trues x xs e = rw e refl

open_head : (trues : List Literal) (x : Literal) (xs : List Literal) → is_false trues x ≡ false → not_false trues (x ∷ xs) ≡ x ∷ not_false trues xs
open_head trues x xs e = rw e refl

pub remains_false : (trues clause : List Literal) (k : ℕ) (x : Literal) (found whole : Remaining) → k < length clause → x ≡ get_or clause k x → is_false trues x ≡ true
    → remaining_with found (not_false trues (drop k clause)) ≡ whole → remaining_with found (not_false trues (drop (k + 1) clause)) ≡ whole
remains_false trues clause k x found whole lt is e so_far =
    sym (ap (λ (xs : List Literal). remaining_with found (not_false trues xs)) (next_of clause k x lt is) ∙ ap (remaining_with found) (false_head trues x (drop (k + 1) clause) e)) ∙ so_far

one_with : (l : Literal) (rest : List Literal) → remaining_of (l ∷ rest) ≡ remaining_with (One l) rest
one_with l [] = refl
one_with l (m ∷ rest) = refl

pub remains_one : (trues clause : List Literal) (k : ℕ) (x : Literal) (whole : Remaining) → k < length clause → x ≡ get_or clause k x → is_false trues x ≡ false
    → remaining_with Nothing (not_false trues (drop k clause)) ≡ whole → remaining_with (One x) (not_false trues (drop (k + 1) clause)) ≡ whole
remains_one trues clause k x whole lt is e so_far =
    sym (one_with x (not_false trues (drop (k + 1) clause)))
    ∙ sym (ap (λ (xs : List Literal). remaining_of (not_false trues xs)) (next_of clause k x lt is) ∙ ap remaining_of (open_head trues x (drop (k + 1) clause) e)) ∙ so_far

pub remains_more : (trues clause : List Literal) (k : ℕ) (x l : Literal) (whole : Remaining) → k < length clause → x ≡ get_or clause k x → is_false trues x ≡ false
    → remaining_with (One l) (not_false trues (drop k clause)) ≡ whole → More ≡ whole
remains_more trues clause k x l whole lt is e so_far =
    sym (ap (λ (xs : List Literal). remaining_with (One l) (not_false trues xs)) (next_of clause k x lt is) ∙ ap (remaining_with (One l)) (open_head trues x (drop (k + 1) clause) e)) ∙ so_far

with_nothing : (found : Remaining) → remaining_with found [] ≡ found
with_nothing Nothing = refl
with_nothing (One l) = refl
with_nothing More = refl

-- ---- one clause of a reading

all_false_nil : (trues clause : List Literal) → not_false trues clause ≡ [] → list_all (is_false trues) clause ≡ true
all_false_nil trues [] e = refl
all_false_nil trues (x ∷ xs) e =
    elim (bool_cases (is_false trues x)) [
      | inl t ↦ rw t (all_false_nil trues xs (sym (false_head trues x xs t) ∙ e))
      | inr f ↦ let h : x ∷ not_false trues xs ≡ [] = sym (open_head trues x xs f) ∙ e in absurd cc
    ]

all_false_cons : (trues clause : List Literal) (l : Literal) (others : List Literal) → not_false trues clause ≡ l ∷ others → list_all (is_false trues) clause ≡ false
all_false_cons trues [] l others e = absurd cc
all_false_cons trues (x ∷ xs) l others e =
    elim (bool_cases (is_false trues x)) [
      | inl t ↦ rw t (all_false_cons trues xs l others (sym (false_head trues x xs t) ∙ e))
      | inr f ↦ rw f refl
    ]

head_open : (trues clause : List Literal) (l : Literal) (others : List Literal) → not_false trues clause ≡ l ∷ others → is_false trues l ≡ false
head_open trues [] l others e = absurd cc
head_open trues (x ∷ xs) l others e =
    elim (bool_cases (is_false trues x)) [
      | inl t ↦ head_open trues xs l others (sym (false_head trues x xs t) ∙ e)
      | inr f ↦ let h : x ∷ not_false trues xs ≡ l ∷ others = sym (open_head trues x xs f) ∙ e in let same : x ≡ l = cc in subst (λ (y : Literal). is_false trues y ≡ false) same f
    ]

is_nothing : (xs : List Literal) → remaining_of xs ≡ Nothing → xs ≡ []
is_nothing [] e = refl
is_nothing (l ∷ []) e = absurd cc
is_nothing (l ∷ m ∷ xs) e = absurd cc

is_one : (xs : List Literal) (l : Literal) → remaining_of xs ≡ One l → xs ≡ l ∷ []
is_one [] l e = absurd cc
is_one (x ∷ []) l e = cc
is_one (x ∷ m ∷ xs) l e = absurd cc

is_more : (xs : List Literal) → remaining_of xs ≡ More → (l : Literal) × (m : Literal) × (others : List Literal) × (xs ≡ l ∷ m ∷ others)
is_more [] e = absurd cc
is_more (x ∷ []) e = absurd cc
is_more (x ∷ m ∷ xs) e = (x, m, xs, refl)

-- the clause has only false literals
pub read_false : (now clause : List Literal) (clauses : List (List Literal)) → Nothing ≡ remaining_of (not_false now clause) → reading_succeeds now (clause ∷ clauses) ≡ true
read_false now clause clauses e = rw (all_false_nil now clause (is_nothing (not_false now clause) (sym e))) refl

read_one : (now clause : List Literal) (l : Literal) (clauses : List (List Literal)) → One l ≡ remaining_of (not_false now clause) → reading_succeeds now (clause ∷ clauses) ≡ reading_succeeds (trues_after now (l ∷ [])) clauses
read_one now clause l clauses e =
    let one : not_false now clause ≡ l ∷ [] = is_one (not_false now clause) l (sym e) in
    rw (all_false_cons now clause l [] one) (ap (λ (xs : List Literal). reading_succeeds (trues_after now xs) clauses) one)

pub read_more : (now clause : List Literal) (clauses : List (List Literal)) → More ≡ remaining_of (not_false now clause) → reading_succeeds now (clause ∷ clauses) ≡ reading_succeeds now clauses
read_more now clause clauses e =
    let more = is_more (not_false now clause) (sym e) in
    rw (all_false_cons now clause more.0 (more.1 ∷ more.2) more.3) (ap (λ (xs : List Literal). reading_succeeds (trues_after now xs) clauses) more.3)

-- the literal that is left becomes true
pub read_on_one : (signs : List Literal) (now clause : List Literal) (l : Literal) (clauses : List (List Literal)) (done whole : Bool) → One l ≡ remaining_of (not_false now clause)
    → (done ≡ not (is_among now (negation l))) × (IsTrue done → KeepsTrues signs (l ∷ now)) → reading_succeeds now (clause ∷ clauses) ≡ whole
    → (x : List Literal) × KeepsTrues signs x × (reading_succeeds x clauses ≡ whole)
read_on_one signs now clause l clauses done whole e made so_far =
    let open_l : is_among now (negation l) ≡ false = head_open now clause l [] (is_one (not_false now clause) l (sym e)) in
    let done_is : done ≡ true = made.0 ∙ ap not open_l in
    let kept : KeepsTrues signs (l ∷ now) = made.1 done_is in
    let rest : reading_succeeds (trues_after now (l ∷ [])) clauses ≡ whole = sym (read_one now clause l clauses e) ∙ so_far in
    elim (bool_cases (is_among now l)) [
      | inl t ↦ (now, keeps_again signs now l t kept, rw t at rest)
      | inr f ↦ (l ∷ now, kept, rw f at rest)
    ]

-- ---- one hint

next_item : {X : Type 0} (xs : List X) (k : ℕ) (d : X) → k < length xs → drop k xs ≡ get_or xs k d ∷ drop (k + 1) xs
next_item xs k d lt = grind (arith, drop-cons)

next_hint : (live : List Live) (hints : List ℤ) (k : ℕ) (d : ℤ) (found : Option (List Literal)) → k < length hints → found ≡ hinted_clause live (get_or hints k d)
    → hinted_clauses live (drop k hints) ≡ before_later found (hinted_clauses live (drop (k + 1) hints))
next_hint live hints k d found lt e =
    ap (hinted_clauses live) (next_item hints k d lt) ∙ ap (λ (o : Option (List Literal)). before_later o (hinted_clauses live (drop (k + 1) hints))) (sym e)

-- what the reading keeps: it goes on from what is true now as the whole reading went on from the start
pub record GoesOn (signs : List Literal) (live : List Live) (hints : List ℤ) (whole : Bool) : Type 0 where
  pub now : List Literal
  pub kept : KeepsTrues signs now
  pub same : reading_succeeds now (hinted_clauses live hints) ≡ whole

pub stops : (signs : List Literal) (live : List Live) (hints : List ℤ) (k : ℕ) (d : ℤ) (found : Option (List Literal)) (whole : Bool) → GoesOn signs live (drop k hints) whole → k < length hints
    → found ≡ hinted_clause live (get_or hints k d) → found ≡ None → false ≡ whole
stops signs live hints k d found whole g lt e none =
    sym (ap (reading_succeeds g.now) (next_hint live hints k d found lt e ∙ ap (λ (o : Option (List Literal)). before_later o (hinted_clauses live (drop (k + 1) hints))) none)) ∙ g.same

at_clause : (signs : List Literal) (live : List Live) (hints : List ℤ) (k : ℕ) (d : ℤ) (clause : List Literal) (whole : Bool) (g : GoesOn signs live (drop k hints) whole) → k < length hints
    → Some clause ≡ hinted_clause live (get_or hints k d) → reading_succeeds g.now (clause ∷ hinted_clauses live (drop (k + 1) hints)) ≡ whole
at_clause signs live hints k d clause whole g lt e = sym (ap (reading_succeeds g.now) (next_hint live hints k d (Some clause) lt e)) ∙ g.same

pub shows : (signs : List Literal) (live : List Live) (hints : List ℤ) (k : ℕ) (d : ℤ) (clause : List Literal) (whole : Bool) → GoesOn signs live (drop k hints) whole → k < length hints
    → Some clause ≡ hinted_clause live (get_or hints k d) → ((trues : List Literal) → KeepsTrues signs trues → Nothing ≡ remaining_of (not_false trues clause)) → true ≡ whole
shows signs live hints k d clause whole g lt e none =
    sym (read_false g.now clause (hinted_clauses live (drop (k + 1) hints)) (none g.now g.kept)) ∙ at_clause signs live hints k d clause whole g lt e

pub passes : (signs : List Literal) (live : List Live) (hints : List ℤ) (k : ℕ) (d : ℤ) (clause : List Literal) (whole : Bool) → GoesOn signs live (drop k hints) whole → k < length hints
    → Some clause ≡ hinted_clause live (get_or hints k d) → ((trues : List Literal) → KeepsTrues signs trues → More ≡ remaining_of (not_false trues clause)) → GoesOn signs live (drop (k + 1) hints) whole
passes signs live hints k d clause whole g lt e more = record {
  now = g.now;
  kept = g.kept;
  same = sym (read_more g.now clause (hinted_clauses live (drop (k + 1) hints)) (more g.now g.kept)) ∙ at_clause signs live hints k d clause whole g lt e;
}

pub gives : (old new : List Literal) (live : List Live) (hints : List ℤ) (k : ℕ) (d : ℤ) (clause : List Literal) (l : Literal) (done whole : Bool) → GoesOn old live (drop k hints) whole → k < length hints
    → Some clause ≡ hinted_clause live (get_or hints k d) → ((trues : List Literal) → KeepsTrues old trues → One l ≡ remaining_of (not_false trues clause))
    → ((trues : List Literal) → KeepsTrues old trues → (done ≡ not (is_among trues (negation l))) × (IsTrue done → KeepsTrues new (l ∷ trues))) → GoesOn new live (drop (k + 1) hints) whole
gives old new live hints k d clause l done whole g lt e one made =
    let r = read_on_one new g.now clause l (hinted_clauses live (drop (k + 1) hints)) done whole (one g.now g.kept) (made g.now g.kept) (at_clause old live hints k d clause whole g lt e) in
    record { now = r.0; kept = r.1; same = r.2 }

pub ends : (signs : List Literal) (live : List Live) (hints : List ℤ) (k : ℕ) (whole : Bool) → GoesOn signs live (drop k hints) whole → length hints ≤ k → false ≡ whole
ends signs live hints k whole g le =
    sym (ap (λ (hs : List ℤ). reading_succeeds g.now (hinted_clauses live hs)) (drop_all k hints le)) ∙ g.same
