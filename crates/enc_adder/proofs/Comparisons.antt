-- Comparisons of numbers in binary, from place to place.
use Rattle.std.proofs.Common.{inl, inr, ◌≡◌, ◌↔◌, ℕ, ◌+◌, ◌≤◌, ℤ, pos, ◌+ℤ◌, ◌*ℤ◌, ◌<ℤ◌, int_le, int_lt, Bool, true, false, not, List, length, take, drop, refl, sym, ap, subst, ◌∙◌, arith, get_or}
use Rattle.std.specs.Ordering.{int_eq}
use Rattle.std.proofs.lemmas.Bool.Decides.{Decides-int_eq}
use Rattle.std.proofs.lemmas.Int.{ints}
use Rattle.std.proofs.lemmas.List.{drop_all}
use Rattle.std.proofs.lemmas.List.Elements.{All-drop}
use Rattle.cnf_core.specs.Formula.{Cnf}
use Rattle.ep_base.specs.Numbers.{compare_holds}
use Rattle.ep_base.specs.declared.operators.CompareOp.{CompareOp}
use Rattle.enc_atoms.proofs.Adding.{goes_further}
use Rattle.enc_atoms.proofs.Decoded.{number_front}
use Rattle.enc_atoms.specs.Atoms.{AreOfDomains}
use Rattle.enc_atoms.specs.Steps.{IsReady, IsTruth}
use Rattle.enc_var.specs.Decoding.{VariableLiterals}
use Rattle.ep_flat.specs.Cons.{number_at}
use Rattle.enc_adder.proofs.Sums.{below, bit_at_is, none_spelled, spelled_drop, spelled_front}
use Rattle.enc_adder.proofs.Widening.{bit_is, bits_later, constant_is, constant_later, no_longer, one_bit, widens_like, widens_nothing, widens_then, zero_bit}
use Rattle.enc_adder.specs.Bits.{AreBits, HasBit, IsAbove, IsAlike, IsBit, IsConstant, spelled}
use Rattle.enc_adder.specs.Comparing.{Tells}

-- One number is greater than the other exactly where what is left of it, with the bit before, is greater than what is left of the other.
abbrev pub Leads : List ℕ → List ℕ → ℕ → List ℤ → ℕ → Type 0
Leads one other place values x =
    (spelled values (drop place other) <ℤ (spelled values (drop place one) +ℤ number_at values x)) ↔ (spelled values other <ℤ spelled values one)

-- Two numbers are equal exactly where what is left of them is, and the bit before is 1.
abbrev pub Agrees : List ℕ → List ℕ → ℕ → List ℤ → ℕ → Type 0
Agrees one other place values x =
    ((number_at values x ≡ pos 1) × (spelled values (drop place one) ≡ spelled values (drop place other))) ↔ (spelled values one ≡ spelled values other)

pub leads_begun : (L : List VariableLiterals) (f : Cnf) (one other : List ℕ) (x : ℕ) → IsReady L f → IsConstant L x (pos 0) → HasBit L f L f (Leads one other 0) x
leads_begun L f one other x ready is = record {
  bit = zero_bit L x is;
  widens = widens_nothing L f (λ values. Leads one other 0 values x) ready
      (λ values among. let e = constant_is L values x (pos 0) among is in (λ h. omega (arith, ints, h, e), λ h. omega (arith, ints, h, e)));
}

pub agrees_begun : (L : List VariableLiterals) (f : Cnf) (one other : List ℕ) (x : ℕ) → IsReady L f → IsConstant L x (pos 1) → HasBit L f L f (Agrees one other 0) x
agrees_begun L f one other x ready is = record {
  bit = one_bit L x is;
  widens = widens_nothing L f (λ values. Agrees one other 0 values x) ready
      (λ values among. (λ h. h.1, λ h. (constant_is L values x (pos 1) among is, h)));
}

-- numbers and what is left of them, with a bit, of earlier variables
record AreSame (values front : List ℤ) (one other : List ℕ) (place x : ℕ) : Type 0 where
  whole_one : spelled front one ≡ spelled values one
  whole_other : spelled front other ≡ spelled values other
  left_one : spelled front (drop place one) ≡ spelled values (drop place one)
  left_other : spelled front (drop place other) ≡ spelled values (drop place other)
  bit : number_at front x ≡ number_at values x

same_in_front : (L L1 : List VariableLiterals) (values : List ℤ) (one other : List ℕ) (place x : ℕ) → take (length L) L1 ≡ L → AreBits L one → AreBits L other → IsBit L1 x → AreSame values (take (length L1) values) one other place x
same_in_front L L1 values one other place x front of_one of_other bit =
    let n : ℕ = length L1 in
    let short = no_longer L L1 front in
    record {
      whole_one = spelled_front values n one (below L n one short of_one);
      whole_other = spelled_front values n other (below L n other short of_other);
      left_one = spelled_front values n (drop place one) (below L n (drop place one) short (All-drop (IsBit L) place one of_one));
      left_other = spelled_front values n (drop place other) (below L n (drop place other) short (All-drop (IsBit L) place other of_other));
      bit = number_front values n x bit.there;
    }

pub leads_more : (L : List VariableLiterals) (f : Cnf) (L1 : List VariableLiterals) (g : Cnf) (L2 : List VariableLiterals) (h : Cnf) (one other : List ℕ) (place none a b before x : ℕ)
    → AreBits L one → AreBits L other → IsConstant L none (pos 0) → HasBit L f L1 g (Leads one other place) before → a ≡ get_or one place none → b ≡ get_or other place none
    → HasBit L1 g L2 h (IsAbove a b before) x → HasBit L f L2 h (Leads one other (place + 1)) x
leads_more L f L1 g L2 h one other place none a b before x of_one of_other is so_far is_a is_b made = record {
  bit = made.bit;
  widens = widens_then L f L1 g L2 h (λ values. Leads one other place values before) (λ values. IsAbove a b before values x) (λ values. Leads one other (place + 1) values x) so_far.widens made.widens
      (λ values among earlier now.
      let s = same_in_front L L1 values one other place before so_far.widens.goes_on.earlier of_one of_other so_far.bit in
      let nothing = constant_is L2 values none (pos 0) among (constant_later L1 L2 none (pos 0) made.widens.goes_on.earlier (constant_later L L1 none (pos 0) so_far.widens.goes_on.earlier is)) in
      let first = spelled_drop values one place none nothing in
      let second = spelled_drop values other place none nothing in
      let ea = ap (number_at values) is_a in
      let eb = ap (number_at values) is_b in
      let p = now.enough in
      let q = now.no_more in
      let a1 = s.whole_one in
      let a2 = s.whole_other in
      let a3 = s.left_one in
      let a4 = s.left_other in
      let a5 = s.bit in (
        λ h. let e = earlier.0 (omega (arith, ints, h, p, q, ea, eb, first, second, a3, a4, a5)) in omega (arith, ints, e, a1, a2),
        λ h. let e = earlier.1 (omega (arith, ints, h, a1, a2)) in omega (arith, ints, e, p, q, ea, eb, first, second, a3, a4, a5),
      ));
}

parity_apart : {X : Type 0} (x y v w : ℤ) → IsTruth x → IsTruth y → (x +ℤ (pos 2 *ℤ v)) ≡ (y +ℤ (pos 2 *ℤ w)) → ((x ≡ y) → (v ≡ w) → X) → X
parity_apart x y v w (inl ex) (inl ey) e found = found (ex ∙ sym ey) (omega (arith, ints, ex, ey, e))
parity_apart x y v w (inr ex) (inr ey) e found = found (ex ∙ sym ey) (omega (arith, ints, ex, ey, e))
parity_apart x y v w (inl ex) (inr ey) e found = absurd (omega (arith, ints, ex, ey, e))
parity_apart x y v w (inr ex) (inl ey) e found = absurd (omega (arith, ints, ex, ey, e))

pub agrees_more : (L : List VariableLiterals) (f : Cnf) (L1 : List VariableLiterals) (g : Cnf) (L2 : List VariableLiterals) (h : Cnf) (one other : List ℕ) (place none a b before x : ℕ)
    → AreBits L one → AreBits L other → IsConstant L none (pos 0) → HasBit L f L1 g (Agrees one other place) before → a ≡ get_or one place none → b ≡ get_or other place none
    → HasBit L1 g L2 h (IsAlike a b before) x → HasBit L f L2 h (Agrees one other (place + 1)) x
agrees_more L f L1 g L2 h one other place none a b before x of_one of_other is so_far is_a is_b made = record {
  bit = made.bit;
  widens = widens_then L f L1 g L2 h (λ values. Agrees one other place values before) (λ values. IsAlike a b before values x) (λ values. Agrees one other (place + 1) values x) so_far.widens made.widens
      (λ values among earlier now. (
        λ both. forth values among earlier now both.0 both.1,
        λ e. back values among earlier now e,
      ));
}
  where
    front : (values : List ℤ) → AreSame values (take (length L1) values) one other place before
    front values = same_in_front L L1 values one other place before so_far.widens.goes_on.earlier of_one of_other so_far.bit

    later : take (length L) L2 ≡ L
    later = (goes_further L f L1 g L2 h so_far.widens.goes_on made.widens.goes_on).earlier

    nothing : (values : List ℤ) → AreOfDomains L2 values → number_at values none ≡ pos 0
    nothing values among = constant_is L2 values none (pos 0) among (constant_later L1 L2 none (pos 0) made.widens.goes_on.earlier (constant_later L L1 none (pos 0) so_far.widens.goes_on.earlier is))

    forth : (values : List ℤ) → AreOfDomains L2 values → Agrees one other place (take (length L1) values) before → IsAlike a b before values x → number_at values x ≡ pos 1 → spelled values (drop (place + 1) one) ≡ spelled values (drop (place + 1) other)
        → spelled values one ≡ spelled values other
    forth values among earlier now at rest =
        let s = front values in
        let both = now.0 at in
        let first = spelled_drop values one place none (nothing values among) in
        let second = spelled_drop values other place none (nothing values among) in
        let ea = ap (number_at values) is_a in
        let eb = ap (number_at values) is_b in
        let same = both.1 in
        let a3 = s.left_one in
        let a4 = s.left_other in
        let e = earlier.0 (s.bit ∙ both.0, omega (arith, ints, rest, same, first, second, ea, eb, a3, a4)) in
        sym s.whole_one ∙ e ∙ s.whole_other

    back : (values : List ℤ) → AreOfDomains L2 values → Agrees one other place (take (length L1) values) before → IsAlike a b before values x → spelled values one ≡ spelled values other
        → (number_at values x ≡ pos 1) × (spelled values (drop (place + 1) one) ≡ spelled values (drop (place + 1) other))
    back values among earlier now e =
        let s = front values in
        let both = earlier.1 (s.whole_one ∙ e ∙ sym s.whole_other) in
        let first = spelled_drop values one place none (nothing values among) in
        let second = spelled_drop values other place none (nothing values among) in
        let ea = ap (number_at values) is_a in
        let eb = ap (number_at values) is_b in
        let rest = both.1 in
        let a3 = s.left_one in
        let a4 = s.left_other in
        let of_a = bit_is L2 values (get_or one place none) among (bit_at_is L2 one place none (bits_later L L2 one later of_one) (zero_bit L2 none (constant_later L L2 none (pos 0) later is))) in
        let of_b = bit_is L2 values (get_or other place none) among (bit_at_is L2 other place none (bits_later L L2 other later of_other) (zero_bit L2 none (constant_later L L2 none (pos 0) later is))) in
        parity_apart (number_at values (get_or one place none)) (number_at values (get_or other place none)) (spelled values (drop (place + 1) one)) (spelled values (drop (place + 1) other)) of_a of_b
        (omega (arith, ints, rest, first, second, a3, a4))
        (λ same left. (now.1 (sym s.bit ∙ both.0, ea ∙ same ∙ sym eb), left))

-- behind the last place the bit tells
pub leads_whole : (L : List VariableLiterals) (f : Cnf) (L1 : List VariableLiterals) (g : Cnf) (one other : List ℕ) (place x : ℕ) → HasBit L f L1 g (Leads one other place) x → length one ≤ place → length other ≤ place
    → HasBit L f L1 g (λ values y. (number_at values y ≡ pos 1) ↔ (spelled values other <ℤ spelled values one)) x
leads_whole L f L1 g one other place x so_far past_one past_other = record {
  bit = so_far.bit;
  widens = widens_like L f L1 g (λ values. Leads one other place values x) (λ values. (number_at values x ≡ pos 1) ↔ (spelled values other <ℤ spelled values one)) so_far.widens
      (λ values among leads.
      let first = ap (spelled values) (drop_all place one past_one) ∙ none_spelled values in
      let second = ap (spelled values) (drop_all place other past_other) ∙ none_spelled values in
      (λ e. leads.0 (omega (arith, ints, e, first, second)), λ h. let e = leads.1 h in by (bit_is L1 values x among so_far.bit) (omega (arith, ints, e, first, second))));
}
  where
    by : {v : ℤ} → IsTruth v → pos 0 <ℤ v → v ≡ pos 1
    by (inl e) h = absurd (omega (arith, ints, e, h))
    by (inr e) h = e

pub agrees_whole : (L : List VariableLiterals) (f : Cnf) (L1 : List VariableLiterals) (g : Cnf) (one other : List ℕ) (place x : ℕ) → HasBit L f L1 g (Agrees one other place) x → length one ≤ place → length other ≤ place
    → HasBit L f L1 g (λ values y. (number_at values y ≡ pos 1) ↔ (spelled values one ≡ spelled values other)) x
agrees_whole L f L1 g one other place x so_far past_one past_other = record {
  bit = so_far.bit;
  widens = widens_like L f L1 g (λ values. Agrees one other place values x) (λ values. (number_at values x ≡ pos 1) ↔ (spelled values one ≡ spelled values other)) so_far.widens
      (λ values among agrees.
      let first = ap (spelled values) (drop_all place one past_one) ∙ none_spelled values in
      let second = ap (spelled values) (drop_all place other past_other) ∙ none_spelled values in
      (λ e. agrees.0 (e, first ∙ sym second), λ h. (agrees.1 h).0));
}

-- tests of numbers
lt_is : (a b : ℤ) (t : Bool) → int_lt a b ≡ t → (a <ℤ b) ↔ (t ≡ true)
lt_is a b true e = (λ h. refl, λ h. omega (arith, ints, e))
lt_is a b false e = (λ h. absurd (omega (arith, ints, e, h)), λ h. absurd (bad h))
  where
    bad : false ≡ true → ⊥
    bad x = cc

le_not_lt : (a b : ℤ) → int_le a b ≡ not (int_lt b a)
le_not_lt a b = by (int_lt b a) (int_le a b) refl refl
  where
    by : (t u : Bool) → int_lt b a ≡ t → int_le a b ≡ u → u ≡ not t
    by true true e h = absurd (omega (arith, ints, e, h))
    by true false e h = refl
    by false true e h = refl
    by false false e h = absurd (omega (arith, ints, e, h))

eq_same : (v w : ℤ) (t : Bool) → (v ≡ w) ↔ (t ≡ true) → int_eq v w ≡ t
eq_same v w t same = by t (int_eq v w) refl refl
  where
    bad : false ≡ true → ⊥
    bad x = cc

    by : (u r : Bool) → t ≡ u → int_eq v w ≡ r → int_eq v w ≡ t
    by true true e h = h ∙ sym e
    by false false e h = h ∙ sym e
    by true false e h = absurd (bad (sym h ∙ (Decides-int_eq v w).1 (same.1 e)))
    by false true e h = absurd (bad (sym e ∙ same.0 ((Decides-int_eq v w).0 h)))

eq_other : (v : ℤ) (t : Bool) → IsTruth v → (v ≡ pos 1) ↔ (t ≡ true) → int_eq v (pos 0) ≡ not t
eq_other v true truth same = let one = same.1 refl in by (int_eq v (pos 0)) refl one
  where
    by : (r : Bool) → int_eq v (pos 0) ≡ r → v ≡ pos 1 → int_eq v (pos 0) ≡ false
    by true h one = let z = (Decides-int_eq v (pos 0)).0 h in absurd (omega (arith, ints, z, one))
    by false h one = h
eq_other v false (inl e) same = (Decides-int_eq v (pos 0)).1 e
eq_other v false (inr e) same = absurd (bad (same.0 e))
  where
    bad : false ≡ true → ⊥
    bad x = cc

-- a bit tells what a comparison does, by what it says
pub tells_same : (L : List VariableLiterals) (f : Cnf) (L1 : List VariableLiterals) (g : Cnf) (x : ℕ) (P : List ℤ → Type 0) (holds : List ℤ → Bool) → HasBit L f L1 g (λ values y. (number_at values y ≡ pos 1) ↔ P values) x
    → ((values : List ℤ) → P values ↔ (holds values ≡ true)) → Tells L f L1 g holds (x, pos 1)
tells_same L f L1 g x P holds made same = record {
  there = made.bit.there;
  widens = widens_like L f L1 g (λ values. (number_at values x ≡ pos 1) ↔ P values) (λ values. int_eq (number_at values x) (pos 1) ≡ holds values) made.widens
      (λ values among says. eq_same (number_at values x) (pos 1) (holds values) (λ e. (same values).0 (says.0 e), λ e. says.1 ((same values).1 e)));
}

pub tells_other : (L : List VariableLiterals) (f : Cnf) (L1 : List VariableLiterals) (g : Cnf) (x : ℕ) (P : List ℤ → Type 0) (fails holds : List ℤ → Bool) → HasBit L f L1 g (λ values y. (number_at values y ≡ pos 1) ↔ P values) x
    → ((values : List ℤ) → P values ↔ (fails values ≡ true)) → ((values : List ℤ) → holds values ≡ not (fails values)) → Tells L f L1 g holds (x, pos 0)
tells_other L f L1 g x P fails holds made same contrary = record {
  there = made.bit.there;
  widens = widens_like L f L1 g (λ values. (number_at values x ≡ pos 1) ↔ P values) (λ values. int_eq (number_at values x) (pos 0) ≡ holds values) made.widens
      (λ values among says. eq_other (number_at values x) (fails values) (bit_is L1 values x among made.bit) (λ e. (same values).0 (says.0 e), λ e. says.1 ((same values).1 e)) ∙ sym (contrary values));
}

abbrev Greater : List ℕ → List ℕ → List ℤ → ℕ → Type 0
Greater one other values x = (number_at values x ≡ pos 1) ↔ (spelled values other <ℤ spelled values one)

abbrev Equal : List ℕ → List ℕ → List ℤ → ℕ → Type 0
Equal one other values x = (number_at values x ≡ pos 1) ↔ (spelled values one ≡ spelled values other)

abbrev pub Compares : CompareOp → List ℕ → List ℕ → List ℤ → Bool
Compares op one other values = compare_holds op (spelled values one) (spelled values other)

named : (L : List VariableLiterals) (f : Cnf) (L1 : List VariableLiterals) (g : Cnf) (one other : List ℕ) (p : ℕ × ℤ) (op this : CompareOp) → op ≡ this → Tells L f L1 g (Compares this one other) p → Tells L f L1 g (Compares op one other) p
named L f L1 g one other p op this is tells = subst (λ (o : CompareOp). Tells L f L1 g (Compares o one other) p) (sym is) tells

pub tells_equal : (L : List VariableLiterals) (f : Cnf) (L1 : List VariableLiterals) (g : Cnf) (one other : List ℕ) (x : ℕ) (op : CompareOp) → op ≡ CompareOp.Equal → HasBit L f L1 g (Equal one other) x → Tells L f L1 g (Compares op one other) (x, pos 1)
unfolding compare_holds
tells_equal L f L1 g one other x op is made =
    named L f L1 g one other (x, pos 1) op CompareOp.Equal is
    (tells_same L f L1 g x (λ values. spelled values one ≡ spelled values other) (λ values. int_eq (spelled values one) (spelled values other)) made
    (λ values. let d = Decides-int_eq (spelled values one) (spelled values other) in (d.1, d.0)))

pub tells_not_equal : (L : List VariableLiterals) (f : Cnf) (L1 : List VariableLiterals) (g : Cnf) (one other : List ℕ) (x : ℕ) (op : CompareOp) → op ≡ CompareOp.NotEqual → HasBit L f L1 g (Equal one other) x → Tells L f L1 g (Compares op one other) (x, pos 0)
unfolding compare_holds
tells_not_equal L f L1 g one other x op is made =
    named L f L1 g one other (x, pos 0) op CompareOp.NotEqual is
    (tells_other L f L1 g x (λ values. spelled values one ≡ spelled values other) (λ values. int_eq (spelled values one) (spelled values other)) (λ values. not (int_eq (spelled values one) (spelled values other))) made
    (λ values. let d = Decides-int_eq (spelled values one) (spelled values other) in (d.1, d.0)) (λ values. refl))

pub tells_greater : (L : List VariableLiterals) (f : Cnf) (L1 : List VariableLiterals) (g : Cnf) (one other : List ℕ) (x : ℕ) (op : CompareOp) → op ≡ CompareOp.Greater → HasBit L f L1 g (Greater one other) x → Tells L f L1 g (Compares op one other) (x, pos 1)
unfolding compare_holds
tells_greater L f L1 g one other x op is made =
    named L f L1 g one other (x, pos 1) op CompareOp.Greater is
    (tells_same L f L1 g x (λ values. spelled values other <ℤ spelled values one) (λ values. int_lt (spelled values other) (spelled values one)) made
    (λ values. lt_is (spelled values other) (spelled values one) (int_lt (spelled values other) (spelled values one)) refl))

pub tells_at_most : (L : List VariableLiterals) (f : Cnf) (L1 : List VariableLiterals) (g : Cnf) (one other : List ℕ) (x : ℕ) (op : CompareOp) → op ≡ CompareOp.AtMost → HasBit L f L1 g (Greater one other) x → Tells L f L1 g (Compares op one other) (x, pos 0)
unfolding compare_holds
tells_at_most L f L1 g one other x op is made =
    named L f L1 g one other (x, pos 0) op CompareOp.AtMost is
    (tells_other L f L1 g x (λ values. spelled values other <ℤ spelled values one) (λ values. int_lt (spelled values other) (spelled values one)) (λ values. int_le (spelled values one) (spelled values other)) made
    (λ values. lt_is (spelled values other) (spelled values one) (int_lt (spelled values other) (spelled values one)) refl) (λ values. le_not_lt (spelled values one) (spelled values other)))

pub tells_less : (L : List VariableLiterals) (f : Cnf) (L1 : List VariableLiterals) (g : Cnf) (one other : List ℕ) (x : ℕ) (op : CompareOp) → op ≡ CompareOp.Less → HasBit L f L1 g (Greater other one) x → Tells L f L1 g (Compares op one other) (x, pos 1)
unfolding compare_holds
tells_less L f L1 g one other x op is made =
    named L f L1 g one other (x, pos 1) op CompareOp.Less is
    (tells_same L f L1 g x (λ values. spelled values one <ℤ spelled values other) (λ values. int_lt (spelled values one) (spelled values other)) made
    (λ values. lt_is (spelled values one) (spelled values other) (int_lt (spelled values one) (spelled values other)) refl))

pub tells_at_least : (L : List VariableLiterals) (f : Cnf) (L1 : List VariableLiterals) (g : Cnf) (one other : List ℕ) (x : ℕ) (op : CompareOp) → op ≡ CompareOp.AtLeast → HasBit L f L1 g (Greater other one) x → Tells L f L1 g (Compares op one other) (x, pos 0)
unfolding compare_holds
tells_at_least L f L1 g one other x op is made =
    named L f L1 g one other (x, pos 0) op CompareOp.AtLeast is
    (tells_other L f L1 g x (λ values. spelled values one <ℤ spelled values other) (λ values. int_lt (spelled values one) (spelled values other)) (λ values. int_le (spelled values other) (spelled values one)) made
    (λ values. lt_is (spelled values one) (spelled values other) (int_lt (spelled values one) (spelled values other)) refl) (λ values. le_not_lt (spelled values other) (spelled values one)))
