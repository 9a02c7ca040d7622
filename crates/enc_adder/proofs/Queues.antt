-- A queue of numbers that are added two by two.
use Rattle.std.proofs.Common.{◌≡◌, ℕ, suc, ℤ, pos, negsuc, ◌+ℤ◌, ◌-ℤ◌, List, [], ◌∷◌, ◌++◌, length, drop, refl, sym, ap, subst, ◌∙◌, arith}
use Rattle.std.specs.List.{sum_by}
use Rattle.std.specs.List.Sorted.{IsPermutation}
use Rattle.std.proofs.lemmas.Int.{ints}
use Rattle.std.proofs.lemmas.List.Elements.{All-head, All-push, All-tail}
use Rattle.std.proofs.lemmas.List.Sorted.{All-permutation, sum_by-IsPermutation}
use Rattle.std.proofs.lemmas.List.Sums.{sum_by-cons}
use Rattle.cnf_core.specs.Formula.{Cnf}
use Rattle.enc_atoms.specs.Steps.{IsReady}
use Rattle.enc_var.specs.Decoding.{VariableLiterals}
use Rattle.enc_adder.proofs.Sums.{none_spelled, none_total, numbers_below, total_cons, total_front, total_push}
use Rattle.enc_adder.proofs.Widening.{no_longer, numbers_later, widens_like, widens_nothing, widens_then}
use Rattle.enc_adder.specs.Bits.{AreBits, AreNumbers, SpellsNumber, Widens, spelled, total}
use Rattle.enc_adder.specs.declared.bits.Binary.{Binary}

above_zero : ℤ → ℕ
above_zero (pos n) = n
above_zero (negsuc n) = 0

below_zero : ℤ → ℕ
below_zero (pos n) = 0
below_zero (negsuc n) = suc n

two_parts : (n : ℤ) → n ≡ pos (above_zero n) -ℤ pos (below_zero n)
unfolding above_zero below_zero
two_parts (pos n) = omega (arith, ints)
two_parts (negsuc n) = omega (arith, ints)

sum_parts : (values : List ℤ) (ns : List Binary) → total values ns ≡ pos (sum_by (λ n. above_zero (spelled values n.bits.items)) ns) -ℤ pos (sum_by (λ n. below_zero (spelled values n.bits.items)) ns)
sum_parts values [] = none_total values
sum_parts values (n ∷ ns) =
    let rest = sum_parts values ns in
    let up = sum_by-cons (λ (m : Binary). above_zero (spelled values m.bits.items)) n ns in
    let down = sum_by-cons (λ (m : Binary). below_zero (spelled values m.bits.items)) n ns in
    let one = two_parts (spelled values n.bits.items) in
    let two = total_cons values n ns in
    omega (arith, ints, rest, up, down, one, two)

pub total_permuted : (values : List ℤ) (ns ms : List Binary) → IsPermutation ns ms → total values ms ≡ total values ns
total_permuted values ns ms moved =
    let a = sum_parts values ns in
    let b = sum_parts values ms in
    let up = sum_by-IsPermutation (λ (m : Binary). above_zero (spelled values m.bits.items)) ns ms moved in
    let down = sum_by-IsPermutation (λ (m : Binary). below_zero (spelled values m.bits.items)) ns ms moved in
    omega (arith, ints, a, b, up, down)

-- A queue comes to what the numbers do.
pub record Holds (L : List VariableLiterals) (f : Cnf) (L1 : List VariableLiterals) (g : Cnf) (numbers queue : List Binary) : Type 0 where
  pub are_numbers : AreNumbers L1 queue
  pub widens : Widens L f L1 g (λ values. total values queue ≡ total values numbers)

pub queue_begun : (L : List VariableLiterals) (f : Cnf) (numbers queue : List Binary) → IsReady L f → AreNumbers L numbers → IsPermutation numbers queue → Holds L f L f numbers queue
queue_begun L f numbers queue ready are moved = record {
  are_numbers = All-permutation (λ (n : Binary). AreBits L n.bits.items) numbers queue moved are;
  widens = widens_nothing L f (λ values. total values queue ≡ total values numbers) ready (λ values among. total_permuted values numbers queue moved);
}

pub first_is : (L : List VariableLiterals) (queue rest : List Binary) (one : Binary) → queue ≡ one ∷ rest → AreNumbers L queue → AreBits L one.bits.items
first_is L queue rest one is all = All-head (λ (n : Binary). AreBits L n.bits.items) one rest (subst (AreNumbers L) is all)

pub rest_is : (L : List VariableLiterals) (queue rest : List Binary) (one : Binary) → queue ≡ one ∷ rest → AreNumbers L queue → AreNumbers L rest
rest_is L queue rest one is all = All-tail (λ (n : Binary). AreBits L n.bits.items) one rest (subst (AreNumbers L) is all)

-- two numbers give way to their sum
pub two_added : (L : List VariableLiterals) (f : Cnf) (L1 : List VariableLiterals) (g : Cnf) (L2 : List VariableLiterals) (h : Cnf) (numbers queue middle rest later : List Binary) (one other sum : Binary) (xs ys : List ℕ)
    → AreNumbers L numbers → Holds L f L1 g numbers queue → queue ≡ one ∷ middle → middle ≡ other ∷ rest → xs ≡ one.bits.items → ys ≡ other.bits.items
    → SpellsNumber L1 g L2 h (λ values. spelled values xs +ℤ spelled values ys) sum.bits.items → later ≡ rest ++ sum ∷ [] → Holds L f L2 h numbers later
two_added L f L1 g L2 h numbers queue middle rest later one other sum xs ys are so_far first second is_xs is_ys spells pushed = record {
  are_numbers = subst (AreNumbers L2) (sym pushed) (All-push (λ (n : Binary). AreBits L2 n.bits.items) rest sum
      (numbers_later L1 L2 rest spells.widens.goes_on.earlier (rest_is L1 middle rest other second (rest_is L1 queue middle one first so_far.are_numbers))) spells.are_bits);
  widens = widens_then L f L1 g L2 h (λ values. total values queue ≡ total values numbers) (λ values. spelled values sum.bits.items ≡ spelled values xs +ℤ spelled values ys) (λ values. total values later ≡ total values numbers)
      so_far.widens spells.widens (λ values among before now.
      let n : ℕ = length L1 in
      let a = total_front values n queue (numbers_below L1 n queue (omega arith) so_far.are_numbers) in
      let b = total_front values n numbers (numbers_below L n numbers (no_longer L L1 so_far.widens.goes_on.earlier) are) in
      let c = ap (total values) first ∙ total_cons values one middle in
      let d = ap (total values) second ∙ total_cons values other rest in
      let e = ap (total values) pushed ∙ total_push values rest sum in
      let p = ap (spelled values) is_xs in
      let q = ap (spelled values) is_ys in
      omega (arith, ints, before, now, a, b, c, d, e, p, q));
}

-- one number is left, or none
pub one_left : (L : List VariableLiterals) (f : Cnf) (L1 : List VariableLiterals) (g : Cnf) (numbers queue rest : List Binary) (one : Binary) → Holds L f L1 g numbers queue → queue ≡ one ∷ rest → rest ≡ []
    → SpellsNumber L f L1 g (λ values. total values numbers) one.bits.items
one_left L f L1 g numbers queue rest one so_far is none = record {
  are_bits = first_is L1 queue rest one is so_far.are_numbers;
  widens = widens_like L f L1 g (λ values. total values queue ≡ total values numbers) (λ values. spelled values one.bits.items ≡ total values numbers) so_far.widens
      (λ values among before.
      let a = ap (total values) is ∙ total_cons values one rest in
      let b = ap (total values) none ∙ none_total values in
      omega (arith, ints, before, a, b));
}

pub none_left : (L : List VariableLiterals) (f : Cnf) (L1 : List VariableLiterals) (g : Cnf) (numbers queue : List Binary) (bits : List ℕ) → Holds L f L1 g numbers queue → queue ≡ [] → bits ≡ []
    → SpellsNumber L f L1 g (λ values. total values numbers) bits
none_left L f L1 g numbers queue bits so_far none empty = record {
  are_bits = subst (AreBits L1) (sym empty) (λ k d low. absurd (omega (arith, low)));
  widens = widens_like L f L1 g (λ values. total values queue ≡ total values numbers) (λ values. spelled values bits ≡ total values numbers) so_far.widens
      (λ values among before.
      let a = ap (total values) none ∙ none_total values in
      let b = ap (spelled values) empty ∙ none_spelled values in
      omega (arith, ints, before, a, b));
}

-- a queue of which no first number can be taken has none
pub nothing_left : (old new : List Binary) → old ≡ new → new ≡ drop 1 old → old ≡ []
nothing_left [] new same rest = refl
nothing_left (n ∷ ns) new same rest =
    let one : suc (length ns) ≡ length new = ap length same in
    let two : length new ≡ length ns = ap length rest in
    absurd (omega (arith, one, two))
