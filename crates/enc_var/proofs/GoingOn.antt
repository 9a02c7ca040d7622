-- A layout goes on with a new variable.
use Rattle.std.proofs.Common.{◌≡◌, ℕ, zero, suc, ◌+◌, ◌-◌, ◌*◌, ◌<◌, ◌≤◌, nat_lt, nat_le, ◌==◌, ℤ, Bool, true, false, IsTrue, List, [], ◌∷◌, ◌++◌, length, take, refl, sym, ap, subst, arith}
use Rattle.std.specs.List.{Contains}
use Rattle.std.proofs.lemmas.Bool.Decides.{nat_tests}
use Rattle.std.proofs.lemmas.List.Elements.{All-contains, All-push, All-weaker, Contains-append_left, Contains-append_right}
use Rattle.cnf_core.proofs.Members.{All-from_contains}
use Rattle.cnf_core.specs.Clauses.{Satisfies, SatisfiesClause}
use Rattle.cnf_core.specs.Formula.{Cnf}
use Rattle.cnf_core.specs.declared.lit.TheConstants.{MOST_VARIABLE}
use Rattle.ep_base.specs.Numbers.{has_number}
use Rattle.ep_base.specs.Runs.{IsAscending}
use Rattle.enc_var.proofs.Choices.{eq_is, eq_none, eq_single, le_all, le_is, le_none, place_first, place_inner, place_last, place_single}
use Rattle.enc_var.proofs.Counts.{has_number_decides}
use Rattle.enc_var.proofs.Growing.{means_met}
use Rattle.enc_var.proofs.Places.{below_found, lt_back, lt_back_false}
use Rattle.enc_var.specs.Decoding.{HasLiteralsUpTo, IsKnownUpTo, IsLiteralUpTo, Means, VariableLiterals, eq_of, le_of, literal_of_note, place_literal, values_below, values_up_to}
use Rattle.enc_var.specs.Layouts.{GoesOn, IsLayoutOf}
use Rattle.enc_var.specs.Ties.{AreMet, Grows}
use Rattle.enc_var.specs.declared.known.Known.{Known}
use Rattle.enc_var.specs.declared.known.Known.TheVariants as known

known_more : (low high : ℕ) → low ≤ high → (k : Known) → IsKnownUpTo low k → IsKnownUpTo high k
unfolding IsKnownUpTo
known_more low high order known.True h = tt
known_more low high order known.False h = tt
known_more low high order (known.Is l) h = (h.0, omega (arith, order, h.1))

up_to_more : (low high : ℕ) → low ≤ high → (e : VariableLiterals) → HasLiteralsUpTo low e → HasLiteralsUpTo high e
up_to_more low high order e h = record {
  at_most = λ v. known_more low high order (le_of e v) (h.at_most v);
  equal = λ v. known_more low high order (eq_of e v) (h.equal v);
  noted = λ v found. let one = h.noted v found in (one.0, omega (arith, order, one.1));
}

place_up_to : (most first count q : ℕ) → 1 ≤ first → first ≤ most → most ≤ MOST_VARIABLE → (1 < count → first + 2 * count ≤ most + 4) → q < count → IsLiteralUpTo most (place_literal first count q)
place_up_to most first count q one low within room there = by (nat_le count 1) refl (q == 0) refl (nat_le count (q + 1)) refl
  where
    by : (a : Bool) → nat_le count 1 ≡ a → (b : Bool) → (q == 0) ≡ b → (c : Bool) → nat_le count (q + 1) ≡ c → IsLiteralUpTo most (place_literal first count q)
    by true few b e c f =
        let short : count ≤ 1 = grind (arith, nat_tests) in
        subst (IsLiteralUpTo most) (place_single first count q short) ((one, omega (arith, low, within)), low)
    by false many true e c f =
        let long : 1 < count = grind (arith, nat_tests) in
        let zero_place : q ≡ 0 = grind (arith, nat_tests) in
        subst (IsLiteralUpTo most) (place_first first count q long zero_place) ((one, omega (arith, low, within)), low)
    by false many false e true f =
        let long : 1 < count = grind (arith, nat_tests) in
        let more : 0 < q = grind (arith, nat_tests) in
        let last : count ≤ q + 1 = grind (arith, nat_tests) in
        let space = room long in
        subst (IsLiteralUpTo most) (place_last first count q long more last)
        ((omega (arith, one), omega (arith, within, space, there, long, more)), omega (arith, space, there, long, more))
    by false many false e false f =
        let long : 1 < count = grind (arith, nat_tests) in
        let more : 0 < q = grind (arith, nat_tests) in
        let inner : q + 1 < count = grind (arith, nat_tests) in
        let space = room long in
        subst (IsLiteralUpTo most) (place_inner first count q long more inner)
        ((omega (arith, one), omega (arith, within, space, inner, long, more)), omega (arith, space, inner, long, more))

pub literals_up_to : (most : ℕ) (e : VariableLiterals) → 1 ≤ e.first → e.first ≤ most → most ≤ MOST_VARIABLE → (1 < length e.domain → e.first + 2 * length e.domain ≤ most + 4) → IsAscending e.domain → HasLiteralsUpTo most e
unfolding IsKnownUpTo literal_of_note
literals_up_to most e one low within room up = record { at_most = at_most_of; equal = equal_of; noted = noted_of }
  where
    noted_of : (v : ℤ) → Contains e.domain v → IsLiteralUpTo most (literal_of_note e v)
    noted_of v found = place_up_to most e.first (length e.domain) (values_below e.domain v) one low within room (below_found e.domain v up found)

    equal_of : (v : ℤ) → IsKnownUpTo most (eq_of e v)
    equal_of v = by (has_number e.domain v) refl (nat_le (length e.domain) 1) refl
      where
        by : (a : Bool) → has_number e.domain v ≡ a → (b : Bool) → nat_le (length e.domain) 1 ≡ b → IsKnownUpTo most (eq_of e v)
        by false out b few = subst (IsKnownUpTo most) (eq_none e v out) tt
        by true among true few =
            let short : length e.domain ≤ 1 = grind (arith, nat_tests) in
            subst (IsKnownUpTo most) (eq_single e v among short) tt
        by true among false many =
            let long : 1 < length e.domain = grind (arith, nat_tests) in
            subst (IsKnownUpTo most) (eq_is e v among long) (noted_of v ((has_number_decides e.domain v).0 among))

    at_most_of : (v : ℤ) → IsKnownUpTo most (le_of e v)
    at_most_of v = by (values_up_to e.domain v) refl
      where
        by : (c : ℕ) → c ≡ values_up_to e.domain v → IsKnownUpTo most (le_of e v)
        by zero is = subst (IsKnownUpTo most) (le_none e v 0 is refl) tt
        by (suc c) is = long (nat_lt (suc c) (length e.domain)) refl
          where
            long : (t : Bool) → nat_lt (suc c) (length e.domain) ≡ t → IsKnownUpTo most (le_of e v)
            long false all = subst (IsKnownUpTo most) (le_all e v (suc c) is (omega arith) (lt_back_false (suc c) (length e.domain) all)) tt
            long true less =
                let below = lt_back (suc c) (length e.domain) less in
                let space = room (omega (arith, below)) in
                subst (IsKnownUpTo most) (le_is e v (suc c) is (omega arith) below)
                ((omega (arith, one), omega (arith, within, space, below)), omega (arith, space, below))

take_front : {X : Type 0} (xs ys : List X) → take (length xs) (xs ++ ys) ≡ xs
take_front [] ys = refl
take_front (x ∷ xs) ys = ap (λ zs. x ∷ zs) (take_front xs ys)

-- with a new variable, its literals and its clauses, a layout goes on
pub goes_on : (layout : List VariableLiterals) (f g : Cnf) (e : VariableLiterals) → IsLayoutOf layout f → IsTrue f.from_new → g.vars ≤ MOST_VARIABLE → e.first ≡ f.vars + 1 → IsAscending e.domain
    → Grows f g (1 + (2 * length e.domain - 4)) (AreMet e.first (length e.domain)) → GoesOn layout f (layout ++ e ∷ []) g
goes_on layout f g e is_layout from_new within begins up grows = record {
  from_new = subst IsTrue (sym grows.from_new) from_new;
  is_layout = record {
    literals = All-push (HasLiteralsUpTo g.vars) layout e
        (All-weaker (HasLiteralsUpTo f.vars) (HasLiteralsUpTo g.vars) (λ d h. up_to_more f.vars g.vars (omega (arith, grows.vars)) d h) layout is_layout.literals)
        (literals_up_to g.vars e (omega (arith, begins)) (omega (arith, begins, grows.vars)) within (λ more. omega (arith, begins, grows.vars, more)) up);
    meaning = λ s met.
        let all = subst (Satisfies s) grows.clauses met in
        All-push (Means s) layout e
        (is_layout.meaning s (All-from_contains (SatisfiesClause s) f.clauses (λ c found. All-contains (SatisfiesClause s) (f.clauses ++ grows.added) c all (Contains-append_left f.clauses grows.added c found))))
        (means_met s e up ((grows.says s).0
        (All-from_contains (SatisfiesClause s) grows.added (λ c found. All-contains (SatisfiesClause s) (f.clauses ++ grows.added) c all (Contains-append_right f.clauses grows.added c found)))));
  };
  earlier = take_front layout (e ∷ []);
  variables = omega (arith, grows.vars);
  added = grows.added;
  clauses = grows.clauses;
  consistent = grows.consistent;
}
