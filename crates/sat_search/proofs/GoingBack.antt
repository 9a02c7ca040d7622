-- Levels of a trail, and where a clause leads back to.
use Rattle.std.proofs.Common.{◌≡◌, ◌≢◌, ℕ, ◌+◌, ◌<◌, ◌≤◌, Bool, max, min, Some, ◌⊎◌, inl, inr, List, [], ◌∷◌, ◌++◌, length, get_or, take, ap, ◌∙◌, sym, subst, arith, All}
use Rattle.std.specs.Prelude.{Contains, filter}
use Rattle.std.specs.Option.{option_map}
use Rattle.std.proofs.lemmas.Bool.{false≢true, cases_lt}
use Rattle.std.proofs.lemmas.List.{get_or_default, take_more, get_or-take, length-take-le}
use Rattle.std.proofs.lemmas.List.Elements.{All-contains, All-weaker, Contains-push, Contains-append_left}
use Rattle.cnf_core.specs.Literal.{Literal, negation, Precedes, IsOrdered}
use Rattle.cnf_core.proofs.Members.{All-from_contains, Contains-from_filter}
use Rattle.sat_state.specs.Trail.{Entry, level_of, entry_of, IsGrounded, IsOpenBelow}
use Rattle.sat_search.specs.Analysis.{IsFrom, HasTwoFrom}
use Rattle.sat_search.proofs.Trails.{entry_at_place}

-- the level that is read for a variable is that of its entry
pub level_from : (clauses : List (List Literal)) (trail : List Entry) (v level : ℕ) → IsGrounded clauses trail → option_map (λ e. e.level) (entry_of trail v) ≡ Some level → IsFrom trail level v
level_from clauses trail v level grounded read k e within names =
    let found : entry_of trail v ≡ Some (get_or trail k e) = subst (λ (w : ℕ). entry_of trail w ≡ Some (get_or trail k e)) names (entry_at_place clauses trail k e grounded within) in
    let same : Some (get_or trail k e).level ≡ Some level = sym (ap (option_map (λ (x : Entry). x.level)) found) ∙ read in
    let is : (get_or trail k e).level ≡ level = cc in
    omega (arith, is)

-- a lower level is one too
pub from_lower : (trail : List Entry) (low high v : ℕ) → low ≤ high → IsFrom trail high v → IsFrom trail low v
from_lower trail low high v order from = λ k e within names. omega (arith, order, from k e within names)

-- some literal of the clause is of the level or a higher one
pub record HasOneFrom (trail : List Entry) (level : ℕ) (clause : List Literal) : Type 0 where
  pub one : Literal
  pub one_in : Contains clause one
  pub one_from : IsFrom trail level one.var

precedes_itself : (l : Literal) → Precedes l l → ⊥
precedes_itself l (inl below) = omega arith
precedes_itself l (inr same) = false≢true (sym same.2 ∙ same.1)

-- in a list in order a literal differs from those before it
differs_before : (lits : List Literal) (i : ℕ) (l m : Literal) → IsOrdered lits → i < length lits → l ≡ get_or lits i l → Contains (take i lits) m → m ≢ l
differs_before lits i l m ordered within is (k, below, at) same =
    let low : k < i = omega (arith, below, length-take-le i lits (omega arith)) in
    let first : get_or lits k l ≡ l = get_or_default lits k l m (omega arith) ∙ sym (get_or-take i lits k m low) ∙ at ∙ same in
    precedes_itself l (subst (λ (x : Literal). Precedes x l) first (subst (Precedes (get_or lits k l)) (sym is) (ordered k i l low within)))

more_is : (lits : List Literal) (i : ℕ) (l : Literal) → i < length lits → l ≡ get_or lits i l → take (i + 1) lits ≡ take i lits ++ l ∷ []
more_is lits i l within is = take_more lits i l within ∙ ap (λ (m : Literal). take i lits ++ m ∷ []) (sym is)

-- a literal of the level
pub one_here : (trail : List Entry) (level i : ℕ) (lits : List Literal) (l : Literal) → i < length lits → l ≡ get_or lits i l → IsFrom trail level l.var → HasOneFrom trail level (take (i + 1) lits)
one_here trail level i lits l within is from =
    subst (HasOneFrom trail level) (sym (more_is lits i l within is)) (record { one = l; one_in = Contains-push (take i lits) l; one_from = from })

pub one_more : (trail : List Entry) (level i : ℕ) (lits : List Literal) (l : Literal) → i < length lits → l ≡ get_or lits i l → (level ≡ 0) ⊎ HasOneFrom trail level (take i lits) → (level ≡ 0) ⊎ HasOneFrom trail level (take (i + 1) lits)
one_more trail level i lits l within is (inl none) = inl none
one_more trail level i lits l within is (inr one) = inr
    (subst (HasOneFrom trail level) (sym (more_is lits i l within is)) (record { one = one.one; one_in = Contains-append_left (take i lits) (l ∷ []) one.one one.one_in; one_from = one.one_from }))

pub two_more : (trail : List Entry) (level i : ℕ) (lits : List Literal) (l : Literal) → i < length lits → l ≡ get_or lits i l → (level ≡ 0) ⊎ HasTwoFrom trail level (take i lits) → (level ≡ 0) ⊎ HasTwoFrom trail level (take (i + 1) lits)
two_more trail level i lits l within is (inl none) = inl none
two_more trail level i lits l within is (inr two) = inr
    (subst (HasTwoFrom trail level) (sym (more_is lits i l within is)) (record {
      one = two.one;
      other = two.other;
      two = two.two;
      one_in = Contains-append_left (take i lits) (l ∷ []) two.one two.one_in;
      other_in = Contains-append_left (take i lits) (l ∷ []) two.other two.other_in;
      one_from = two.one_from;
      other_from = two.other_from;
    }))

-- one of a level and then one of another are two of the lower level
pub two_now : (trail : List Entry) (low high here i : ℕ) (lits : List Literal) (l : Literal) → IsOrdered lits → i < length lits → l ≡ get_or lits i l → low ≤ high → low ≤ here → IsFrom trail here l.var
    → (high ≡ 0) ⊎ HasOneFrom trail high (take i lits) → (low ≡ 0) ⊎ HasTwoFrom trail low (take (i + 1) lits)
two_now trail low high here i lits l ordered within is below beside from (inl none) = inl (omega arith)
two_now trail low high here i lits l ordered within is below beside from (inr one) = inr
    (subst (HasTwoFrom trail low) (sym (more_is lits i l within is)) (record {
      one = one.one;
      other = l;
      two = differs_before lits i l one.one ordered within is one.one_in;
      one_in = Contains-append_left (take i lits) (l ∷ []) one.one one.one_in;
      other_in = Contains-push (take i lits) l;
      one_from = from_lower trail low high one.one.var below one.one_from;
      other_from = from_lower trail low here l.var beside from;
    }))

-- the highest level after one more literal
pub one_after : (trail : List Entry) (highest here now i : ℕ) (lits : List Literal) (l : Literal) → i < length lits → l ≡ get_or lits i l → IsFrom trail here l.var → now ≡ max highest here
    → (highest ≡ 0) ⊎ HasOneFrom trail highest (take i lits) → (now ≡ 0) ⊎ HasOneFrom trail now (take (i + 1) lits)
one_after trail highest here now i lits l within is from max_is before = elim (cases_lt highest here) [
  | inl above ↦ inr (subst (λ (n : ℕ). HasOneFrom trail n (take (i + 1) lits)) (omega arith) (one_here trail here i lits l within is from))
  | inr below ↦ subst (λ (n : ℕ). (n ≡ 0) ⊎ HasOneFrom trail n (take (i + 1) lits)) (omega arith) (one_more trail highest i lits l within is before)
]

-- the second highest level after one more literal
pub two_after : (trail : List Entry) (second highest here now i : ℕ) (lits : List Literal) (l : Literal) → IsOrdered lits → i < length lits → l ≡ get_or lits i l → IsFrom trail here l.var → now ≡ max second (min here highest)
    → (highest ≡ 0) ⊎ HasOneFrom trail highest (take i lits) → (second ≡ 0) ⊎ HasTwoFrom trail second (take i lits) → (now ≡ 0) ⊎ HasTwoFrom trail now (take (i + 1) lits)
two_after trail second highest here now i lits l ordered within is from max_is one two = elim (cases_lt second (min here highest)) [
  | inl above ↦ two_now trail now highest here i lits l ordered within is (omega arith) (omega arith) from one
  | inr below ↦ subst (λ (n : ℕ). (n ≡ 0) ⊎ HasTwoFrom trail n (take (i + 1) lits)) (omega arith) (two_more trail second i lits l within is two)
]

-- of fewer entries it is so too
from_fewer : (old new : List Entry) (level v : ℕ) → All (Contains old) new → IsFrom old level v → IsFrom new level v
from_fewer old new level v fewer from = All-weaker (Contains old) (λ (e : Entry). e.literal.var ≡ v → level ≤ e.level) (λ e found. All-contains (λ (x : Entry). x.literal.var ≡ v → level ≤ x.level) old e from found) new fewer

not_below : (trail : List Entry) (level : ℕ) (l : Literal) → level_of trail ≤ level → IsFrom trail level l.var → All (λ e. e.level < level_of trail → e.literal ≢ negation l) trail
not_below trail level l low from = λ k e within below same. omega (arith, low, below, from k e within (ap (λ (x : Literal). x.var) same))

-- once the trail is back at the level, the two are open below it
pub open_below : (old new : List Entry) (level : ℕ) (clause : List Literal) → All (Contains old) new → level_of new ≤ level → (level ≡ 0) ⊎ HasTwoFrom old level clause → (level_of new ≡ 0) ⊎ IsOpenBelow new clause
open_below old new level clause fewer low (inl none) = inl (omega arith)
open_below old new level clause fewer low (inr two) = inr (record {
  one = two.one;
  other = two.other;
  two = two.two;
  one_in = two.one_in;
  other_in = two.other_in;
  one_not_false_below = not_below new level two.one low (from_fewer old new level two.one.var fewer two.one_from);
  other_not_false_below = not_below new level two.other low (from_fewer old new level two.other.var fewer two.other_from);
})

-- the entries that pass a test are among all
pub filter_contained : (p : Entry → Bool) (trail : List Entry) → All (Contains trail) (filter p trail)
filter_contained p trail = All-from_contains (Contains trail) (filter p trail) (λ e found. (Contains-from_filter p trail e found).0)
