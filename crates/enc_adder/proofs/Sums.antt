-- Numbers in binary: what bits spell, and sums of them from place to place.
use Rattle.std.proofs.Common.{◌≡◌, ℕ, zero, suc, ◌+◌, ◌<◌, ◌≤◌, ℤ, pos, ◌+ℤ◌, ◌*ℤ◌, List, [], ◌∷◌, ◌++◌, length, take, drop, refl, sym, ap, subst, ◌∙◌, arith, get_or}
use Rattle.std.specs.List.{All}
use Rattle.std.proofs.lemmas.Int.{ints}
use Rattle.std.proofs.lemmas.List.{drop_all}
use Rattle.std.proofs.lemmas.List.Elements.{All-drop, All-head, All-nil, All-push, All-tail, All-weaker}
use Rattle.cnf_core.specs.Formula.{Cnf}
use Rattle.ep_base.specs.Numbers.{sum_of}
use Rattle.enc_atoms.proofs.Decoded.{number_front}
use Rattle.enc_atoms.specs.Atoms.{AreOfDomains}
use Rattle.enc_atoms.specs.Steps.{IsReady}
use Rattle.enc_var.specs.Decoding.{VariableLiterals}
use Rattle.ep_flat.specs.Cons.{number_at}
use Rattle.enc_adder.proofs.Widening.{bit_later, bits_later, constant_is, constant_later, no_longer, widens_like, widens_nothing, widens_then, zero_bit}
use Rattle.enc_adder.specs.Adding.{HasSum}
use Rattle.enc_adder.specs.Bits.{AreBits, AreNumbers, IsBit, IsConstant, IsSum, SpellsNumber, Widens, spelled, total}
use Rattle.enc_adder.specs.declared.bits.Binary.{Binary}

-- the number that variables spell with a further number in place of the bits behind them
unfoldable pub spelled_before : List ℤ → List ℕ → ℤ → ℤ
spelled_before values [] rest = rest
spelled_before values (x ∷ xs) rest = number_at values x +ℤ (pos 2 *ℤ spelled_before values xs rest)

pub before_nothing : (values : List ℤ) (xs : List ℕ) → spelled_before values xs (pos 0) ≡ spelled values xs
unfolding spelled_before spelled
before_nothing values [] = refl
before_nothing values (x ∷ xs) = ap (λ n. number_at values x +ℤ (pos 2 *ℤ n)) (before_nothing values xs)

pub before_none : (values : List ℤ) (rest : ℤ) → spelled_before values [] rest ≡ rest
unfolding spelled_before
before_none values rest = refl

pub before_push : (values : List ℤ) (xs : List ℕ) (x : ℕ) (rest : ℤ) → spelled_before values (xs ++ x ∷ []) rest ≡ spelled_before values xs (number_at values x +ℤ (pos 2 *ℤ rest))
unfolding spelled_before
before_push values [] x rest = refl
before_push values (y ∷ xs) x rest = ap (λ n. number_at values y +ℤ (pos 2 *ℤ n)) (before_push values xs x rest)

pub none_spelled : (values : List ℤ) → spelled values [] ≡ pos 0
unfolding spelled
none_spelled values = refl

-- bits of earlier variables spell the same
pub before_front : (values : List ℤ) (n : ℕ) (xs : List ℕ) (rest : ℤ) → All (λ x. x < n) xs → spelled_before (take n values) xs rest ≡ spelled_before values xs rest
unfolding spelled_before
before_front values n [] rest low = refl
before_front values n (x ∷ xs) rest low =
    ap (λ v. v +ℤ (pos 2 *ℤ spelled_before (take n values) xs rest)) (number_front values n x (All-head (λ y. y < n) x xs low))
    ∙ ap (λ v. number_at values x +ℤ (pos 2 *ℤ v)) (before_front values n xs rest (All-tail (λ y. y < n) x xs low))

pub spelled_front : (values : List ℤ) (n : ℕ) (xs : List ℕ) → All (λ x. x < n) xs → spelled (take n values) xs ≡ spelled values xs
spelled_front values n xs low = sym (before_nothing (take n values) xs) ∙ before_front values n xs (pos 0) low ∙ before_nothing values xs

pub below : (L : List VariableLiterals) (n : ℕ) (xs : List ℕ) → length L ≤ n → AreBits L xs → All (λ x. x < n) xs
below L n xs short bits = All-weaker (IsBit L) (λ x. x < n) (λ x bit. let h = bit.there in omega (arith, short, h)) xs bits

-- the bit at a place, and the bits behind it
spelled_suc : (values : List ℤ) (xs : List ℕ) (k none : ℕ) → number_at values none ≡ pos 0 → spelled values (drop k xs) ≡ number_at values (get_or xs k none) +ℤ (pos 2 *ℤ spelled values (drop (suc k) xs))
unfolding spelled
spelled_suc values [] zero none is = omega (arith, ints, is)
spelled_suc values [] (suc k) none is = omega (arith, ints, is)
spelled_suc values (x ∷ xs) zero none is = refl
spelled_suc values (x ∷ xs) (suc k) none is = spelled_suc values xs k none is

pub spelled_drop : (values : List ℤ) (xs : List ℕ) (k none : ℕ) → number_at values none ≡ pos 0 → spelled values (drop k xs) ≡ number_at values (get_or xs k none) +ℤ (pos 2 *ℤ spelled values (drop (k + 1) xs))
spelled_drop values xs k none is =
    let next : suc k ≡ k + 1 = omega arith in
    spelled_suc values xs k none is ∙ ap (λ m. number_at values (get_or xs k none) +ℤ (pos 2 *ℤ spelled values (drop m xs))) next

pub bit_at_is : (L : List VariableLiterals) (xs : List ℕ) (k none : ℕ) → AreBits L xs → IsBit L none → IsBit L (get_or xs k none)
bit_at_is L [] zero none bits bit = bit
bit_at_is L [] (suc k) none bits bit = bit
bit_at_is L (x ∷ xs) zero none bits bit = All-head (IsBit L) x xs bits
bit_at_is L (x ∷ xs) (suc k) none bits bit = bit_at_is L xs k none (All-tail (IsBit L) x xs bits) bit

-- Places up to one are added: their bits, with what the others and the carry come to behind them, spell the sum.
pub record AddsUpTo (L : List VariableLiterals) (f : Cnf) (L1 : List VariableLiterals) (g : Cnf) (one other bits : List ℕ) (carry place : ℕ) : Type 0 where
  pub are_bits : AreBits L1 bits
  pub is_bit : IsBit L1 carry
  pub widens : Widens L f L1 g (λ values. spelled_before values bits ((spelled values (drop place one) +ℤ spelled values (drop place other)) +ℤ number_at values carry) ≡ spelled values one +ℤ spelled values other)

pub no_place_added : (L : List VariableLiterals) (f : Cnf) (one other bits : List ℕ) (none : ℕ) → IsReady L f → IsConstant L none (pos 0) → bits ≡ [] → AddsUpTo L f L f one other bits none 0
no_place_added L f one other bits none ready is empty = record {
  are_bits = subst (AreBits L) (sym empty) (All-nil (IsBit L));
  is_bit = zero_bit L none is;
  widens = widens_nothing L f (λ values. spelled_before values bits ((spelled values one +ℤ spelled values other) +ℤ number_at values none) ≡ spelled values one +ℤ spelled values other) ready
      (λ values among.
      let nothing = constant_is L values none (pos 0) among is in
      ap (λ xs. spelled_before values xs ((spelled values one +ℤ spelled values other) +ℤ number_at values none)) empty
      ∙ before_none values ((spelled values one +ℤ spelled values other) +ℤ number_at values none)
      ∙ omega (arith, ints, nothing));
}

pub one_place_more : (L : List VariableLiterals) (f : Cnf) (L1 : List VariableLiterals) (g : Cnf) (L2 : List VariableLiterals) (h : Cnf) (one other bits more : List ℕ) (carry place none a b : ℕ) (made : ℕ × ℕ)
    → AreBits L one → AreBits L other → IsConstant L none (pos 0) → AddsUpTo L f L1 g one other bits carry place → a ≡ get_or one place none → b ≡ get_or other place none
    → HasSum L1 g L2 h a b carry made → more ≡ bits ++ made.0 ∷ [] → AddsUpTo L f L2 h one other more made.1 (place + 1)
one_place_more L f L1 g L2 h one other bits more carry place none a b made of_one of_other is so_far is_a is_b sum pushed = record {
  are_bits = subst (AreBits L2) (sym pushed) (All-push (IsBit L2) bits made.0 (bits_later L1 L2 bits sum.widens.goes_on.earlier so_far.are_bits) sum.low);
  is_bit = sum.high;
  widens = widens_then L f L1 g L2 h
      (λ values. spelled_before values bits ((spelled values (drop place one) +ℤ spelled values (drop place other)) +ℤ number_at values carry) ≡ spelled values one +ℤ spelled values other)
      (IsSum a b carry made.0 made.1)
      (λ values. spelled_before values more ((spelled values (drop (place + 1) one) +ℤ spelled values (drop (place + 1) other)) +ℤ number_at values made.1) ≡ spelled values one +ℤ spelled values other)
      so_far.widens sum.widens (λ values among before now. step values among before now);
}
  where
    n : ℕ
    n = length L1

    short : length L ≤ n
    short = no_longer L L1 so_far.widens.goes_on.earlier

    -- what was said of the earlier variables
    lifted : (values : List ℤ) → spelled_before (take n values) bits ((spelled (take n values) (drop place one) +ℤ spelled (take n values) (drop place other)) +ℤ number_at (take n values) carry) ≡ spelled (take n values) one +ℤ spelled (take n values) other
        → spelled_before values bits ((spelled values (drop place one) +ℤ spelled values (drop place other)) +ℤ number_at values carry) ≡ spelled values one +ℤ spelled values other
    lifted values before =
        let whole = before_front values n bits ((spelled (take n values) (drop place one) +ℤ spelled (take n values) (drop place other)) +ℤ number_at (take n values) carry) (below L1 n bits (omega arith) so_far.are_bits) in
        let first = spelled_front values n (drop place one) (below L n (drop place one) short (All-drop (IsBit L) place one of_one)) in
        let second = spelled_front values n (drop place other) (below L n (drop place other) short (All-drop (IsBit L) place other of_other)) in
        let third = number_front values n carry so_far.is_bit.there in
        let left = spelled_front values n one (below L n one short of_one) in
        let right = spelled_front values n other (below L n other short of_other) in
        sym (whole ∙ ap (λ v. spelled_before values bits ((v +ℤ spelled (take n values) (drop place other)) +ℤ number_at (take n values) carry)) first
        ∙ ap (λ v. spelled_before values bits ((spelled values (drop place one) +ℤ v) +ℤ number_at (take n values) carry)) second
        ∙ ap (λ v. spelled_before values bits ((spelled values (drop place one) +ℤ spelled values (drop place other)) +ℤ v)) third)
        ∙ before ∙ ap (λ v. v +ℤ spelled (take n values) other) left ∙ ap (λ v. spelled values one +ℤ v) right

    step : (values : List ℤ) → AreOfDomains L2 values
        → spelled_before (take n values) bits ((spelled (take n values) (drop place one) +ℤ spelled (take n values) (drop place other)) +ℤ number_at (take n values) carry) ≡ spelled (take n values) one +ℤ spelled (take n values) other
        → IsSum a b carry made.0 made.1 values
        → spelled_before values more ((spelled values (drop (place + 1) one) +ℤ spelled values (drop (place + 1) other)) +ℤ number_at values made.1) ≡ spelled values one +ℤ spelled values other
    step values among before now =
        let long = no_longer L1 L2 sum.widens.goes_on.earlier in
        let there = is.there in
        let later : IsConstant L2 none (pos 0) = constant_on in
        let nothing = constant_is L2 values none (pos 0) among later in
        let first = spelled_drop values one place none nothing in
        let second = spelled_drop values other place none nothing in
        let ea = ap (number_at values) is_a in
        let eb = ap (number_at values) is_b in
        let rest : ℤ = (spelled values (drop (place + 1) one) +ℤ spelled values (drop (place + 1) other)) +ℤ number_at values made.1 in
        ap (λ xs. spelled_before values xs rest) pushed
        ∙ before_push values bits made.0 rest
        ∙ ap (spelled_before values bits) (omega (arith, ints, first, second, ea, eb, now))
        ∙ lifted values before
      where
        constant_on : IsConstant L2 none (pos 0)
        constant_on = constant_later L1 L2 none (pos 0) sum.widens.goes_on.earlier (constant_later L L1 none (pos 0) so_far.widens.goes_on.earlier is)

-- behind the last place the carry is the last bit
pub all_places : (L : List VariableLiterals) (f : Cnf) (L1 : List VariableLiterals) (g : Cnf) (one other bits more : List ℕ) (carry place : ℕ) → AddsUpTo L f L1 g one other bits carry place → length one ≤ place → length other ≤ place
    → more ≡ bits ++ carry ∷ [] → SpellsNumber L f L1 g (λ values. spelled values one +ℤ spelled values other) more
all_places L f L1 g one other bits more carry place so_far past_one past_other pushed = record {
  are_bits = subst (AreBits L1) (sym pushed) (All-push (IsBit L1) bits carry so_far.are_bits so_far.is_bit);
  widens = widens_like L f L1 g
      (λ values. spelled_before values bits ((spelled values (drop place one) +ℤ spelled values (drop place other)) +ℤ number_at values carry) ≡ spelled values one +ℤ spelled values other)
      (λ values. spelled values more ≡ spelled values one +ℤ spelled values other) so_far.widens
      (λ values among before.
      let first = ap (spelled values) (drop_all place one past_one) ∙ none_spelled values in
      let second = ap (spelled values) (drop_all place other past_other) ∙ none_spelled values in
      ap (spelled values) pushed ∙ sym (before_nothing values (bits ++ carry ∷ [])) ∙ before_push values bits carry (pos 0)
      ∙ ap (spelled_before values bits) (omega (arith, ints, first, second)) ∙ before);
}

-- sums of many numbers
pub none_total : (values : List ℤ) → total values [] ≡ pos 0
unfolding total sum_of
none_total values = refl

pub total_cons : (values : List ℤ) (n : Binary) (ns : List Binary) → total values (n ∷ ns) ≡ spelled values n.bits.items +ℤ total values ns
unfolding total sum_of
total_cons values n ns = refl

pub total_push : (values : List ℤ) (ns : List Binary) (n : Binary) → total values (ns ++ n ∷ []) ≡ total values ns +ℤ spelled values n.bits.items
total_push values [] n =
    let one = total_cons values n [] in
    let two = none_total values in
    omega (arith, ints, one, two)
total_push values (m ∷ ns) n =
    let one = total_cons values m (ns ++ n ∷ []) in
    let two = total_cons values m ns in
    let three = total_push values ns n in
    omega (arith, ints, one, two, three)

pub total_front : (values : List ℤ) (n : ℕ) (ns : List Binary) → All (λ b. All (λ x. x < n) b.bits.items) ns → total (take n values) ns ≡ total values ns
total_front values n [] low = none_total (take n values) ∙ sym (none_total values)
total_front values n (m ∷ ns) low =
    let P : Binary → Type 0 = λ b. All (λ x. x < n) b.bits.items in
    let one = total_cons (take n values) m ns in
    let two = total_cons values m ns in
    let three = spelled_front values n m.bits.items (All-head P m ns low) in
    let four = total_front values n ns (All-tail P m ns low) in
    omega (arith, ints, one, two, three, four)

pub numbers_below : (L : List VariableLiterals) (n : ℕ) (ns : List Binary) → length L ≤ n → AreNumbers L ns → All (λ b. All (λ x. x < n) b.bits.items) ns
numbers_below L n ns short all = All-weaker (λ b. AreBits L b.bits.items) (λ b. All (λ x. x < n) b.bits.items) (λ b bits. below L n b.bits.items short bits) ns all

-- a bit at a place is one of a later layout too
pub bit_at_later : (L later : List VariableLiterals) (xs : List ℕ) (k none x : ℕ) → take (length L) later ≡ L → IsConstant L none (pos 0) → AreBits L xs → x ≡ get_or xs k none → IsBit later x
bit_at_later L later xs k none x front is bits at = bit_later L later x front (subst (IsBit L) (sym at) (bit_at_is L xs k none bits (zero_bit L none is)))
