-- The two sides of a comparison, and what their difference comes to.
use Rattle.std.proofs.Common.{◌≡◌, ℕ, zero, suc, ◌+◌, ◌*◌, ◌<◌, ◌≤◌, ℤ, pos, negsuc, neg_ℤ, ◌+ℤ◌, ◌-ℤ◌, ◌*ℤ◌, int_le, int_lt, Bool, true, false, not, List, [], ◌∷◌, ◌++◌, length, take, refl, sym, ap, subst, ◌∙◌, arith, get_or}
use Rattle.std.specs.List.{All}
use Rattle.std.specs.Ordering.{int_eq}
use Rattle.std.proofs.lemmas.Bool.Decides.{Decides-int_eq}
use Rattle.std.proofs.lemmas.Int.{ints}
use Rattle.std.proofs.lemmas.List.{take_all, take_more}
use Rattle.std.proofs.lemmas.List.Elements.{All-head, All-push, All-tail, All-take, All-weaker}
use Rattle.cnf_core.specs.Formula.{Cnf}
use Rattle.ep_base.specs.Numbers.{compare_holds, sum_of}
use Rattle.ep_base.specs.Reads.{weighted_sum}
use Rattle.ep_base.specs.declared.operators.CompareOp.{CompareOp}
use Rattle.enc_atoms.proofs.Decoded.{number_front}
use Rattle.enc_atoms.specs.Atoms.{AreOfDomains}
use Rattle.enc_atoms.specs.Steps.{IsReady}
use Rattle.enc_var.specs.Decoding.{VariableLiterals}
use Rattle.ep_flat.specs.Cons.{number_at}
use Rattle.enc_adder.proofs.Sums.{none_total, numbers_below, total_front, total_push}
use Rattle.enc_adder.proofs.Widening.{no_longer, numbers_later, widens_like, widens_nothing, widens_then}
use Rattle.enc_adder.specs.Bits.{AreBits, AreNumbers, SpellsNumber, spelled, total}
use Rattle.enc_adder.specs.Parts.{HasSides, Levels, Moves, difference, sum_of_parts}
use Rattle.enc_adder.specs.declared.bits.Binary.{Binary}
use Rattle.enc_adder.specs.declared.sides.Sides.{Sides}

-- products of differences
half_negated : (a c : ℤ) → (a *ℤ neg_ℤ c) ≡ neg_ℤ (a *ℤ c)
half_negated a c = grind (arith, ints)

other_negated : (a c : ℤ) → (neg_ℤ a *ℤ c) ≡ neg_ℤ (a *ℤ c)
other_negated a c = grind (arith, ints)

one_more : (a n : ℕ) → suc a * n ≡ n + a * n
one_more a n = omega arith

negated_sum : (x y : ℤ) → neg_ℤ (x +ℤ y) ≡ (neg_ℤ x +ℤ neg_ℤ y)
negated_sum x y = omega (arith, ints)

suc_times : (a : ℕ) (z : ℤ) → (pos (suc a) *ℤ z) ≡ (z +ℤ (pos a *ℤ z))
suc_times a (pos n) = ap pos (one_more a n)
suc_times a (negsuc n) =
    half_negated (pos (suc a)) (pos (suc n)) ∙ ap (λ m. neg_ℤ (pos m)) (one_more a (suc n)) ∙ negated_sum (pos (suc n)) (pos a *ℤ pos (suc n))
    ∙ ap (λ w. negsuc n +ℤ w) (sym (half_negated (pos a) (pos (suc n))))

zero_times : (z : ℤ) → (pos 0 *ℤ z) ≡ pos 0
zero_times z = omega (arith, ints)

spread_up : (a : ℕ) (x y : ℤ) → (pos a *ℤ (x -ℤ y)) ≡ ((pos a *ℤ x) -ℤ (pos a *ℤ y))
spread_up zero x y =
    let one = zero_times (x -ℤ y) in
    let two = zero_times x in
    let three = zero_times y in
    omega (arith, ints, one, two, three)
spread_up (suc a) x y =
    let one = suc_times a (x -ℤ y) in
    let two = suc_times a x in
    let three = suc_times a y in
    let rest = spread_up a x y in
    omega (arith, ints, one, two, three, rest)

spread : (k x y : ℤ) → (k *ℤ (x -ℤ y)) ≡ ((k *ℤ x) -ℤ (k *ℤ y))
spread (pos a) x y = spread_up a x y
spread (negsuc a) x y =
    let one = other_negated (pos (suc a)) (x -ℤ y) in
    let two = other_negated (pos (suc a)) x in
    let three = other_negated (pos (suc a)) y in
    let rest = spread_up (suc a) x y in
    omega (arith, ints, one, two, three, rest)

-- a part on the left, and one on the right
pub on_left : (L : List VariableLiterals) (f : Cnf) (L1 : List VariableLiterals) (g : Cnf) (old mid new : Sides) (made : Binary) (a least size shift : ℤ) (var : ℕ) → AreNumbers L mid.left.items → AreNumbers L mid.right.items
    → Moves L1 old mid shift → SpellsNumber L f L1 g (λ values. size *ℤ (number_at values var -ℤ least)) made.bits.items → size ≡ a → shift ≡ a *ℤ least → new.left.items ≡ mid.left.items ++ made ∷ [] → new.right.items ≡ mid.right.items → new.rest ≡ mid.rest
    → HasSides L f L1 g (λ values. difference values old +ℤ (a *ℤ number_at values var)) new
unfolding difference
on_left L f L1 g old mid new made a least size shift var left right moves spells is_size is_shift pushed same rest = record {
  left = subst (AreNumbers L1) (sym pushed) (All-push (λ (n : Binary). AreBits L1 n.bits.items) mid.left.items made (numbers_later L L1 mid.left.items spells.widens.goes_on.earlier left) spells.are_bits);
  right = subst (AreNumbers L1) (sym same) (numbers_later L L1 mid.right.items spells.widens.goes_on.earlier right);
  widens = widens_like L f L1 g (λ values. spelled values made.bits.items ≡ size *ℤ (number_at values var -ℤ least)) (λ values. difference values new ≡ difference values old +ℤ (a *ℤ number_at values var)) spells.widens
      (λ values among is.
      let one = is ∙ ap (λ s. s *ℤ (number_at values var -ℤ least)) is_size ∙ spread a (number_at values var) least in
      let two = ap (total values) pushed ∙ total_push values mid.left.items made in
      let three = ap (total values) same in
      let four = moves.differs values among in
      omega (arith, ints, one, two, three, four, rest, is_shift));
}

pub on_right : (L : List VariableLiterals) (f : Cnf) (L1 : List VariableLiterals) (g : Cnf) (old mid new : Sides) (made : Binary) (a least size shift : ℤ) (var : ℕ) → AreNumbers L mid.left.items → AreNumbers L mid.right.items
    → Moves L1 old mid shift → SpellsNumber L f L1 g (λ values. size *ℤ (number_at values var -ℤ least)) made.bits.items → size ≡ neg_ℤ a → shift ≡ a *ℤ least → new.right.items ≡ mid.right.items ++ made ∷ [] → new.left.items ≡ mid.left.items → new.rest ≡ mid.rest
    → HasSides L f L1 g (λ values. difference values old +ℤ (a *ℤ number_at values var)) new
unfolding difference
on_right L f L1 g old mid new made a least size shift var left right moves spells is_size is_shift pushed same rest = record {
  left = subst (AreNumbers L1) (sym same) (numbers_later L L1 mid.left.items spells.widens.goes_on.earlier left);
  right = subst (AreNumbers L1) (sym pushed) (All-push (λ (n : Binary). AreBits L1 n.bits.items) mid.right.items made (numbers_later L L1 mid.right.items spells.widens.goes_on.earlier right) spells.are_bits);
  widens = widens_like L f L1 g (λ values. spelled values made.bits.items ≡ size *ℤ (number_at values var -ℤ least)) (λ values. difference values new ≡ difference values old +ℤ (a *ℤ number_at values var)) spells.widens
      (λ values among is.
      let zero_is = other_negated a (number_at values var -ℤ least) in
      let one = is ∙ ap (λ s. s *ℤ (number_at values var -ℤ least)) is_size in
      let four = spread a (number_at values var) least in
      let two = ap (total values) pushed ∙ total_push values mid.right.items made in
      let three = ap (total values) same in
      let five = moves.differs values among in
      omega (arith, ints, zero_is, one, two, three, four, five, rest, is_shift));
}

-- sums of parts
no_parts : (values : List ℤ) → sum_of_parts values [] ≡ pos 0
unfolding sum_of_parts weighted_sum sum_of
no_parts values = refl

parts_cons : (values : List ℤ) (p : ℤ × ℕ) (ps : List (ℤ × ℕ)) → sum_of_parts values (p ∷ ps) ≡ (p.0 *ℤ number_at values p.1) +ℤ sum_of_parts values ps
unfolding sum_of_parts weighted_sum sum_of
parts_cons values p ps = refl

parts_push : (values : List ℤ) (ps : List (ℤ × ℕ)) (p : ℤ × ℕ) → sum_of_parts values (ps ++ p ∷ []) ≡ sum_of_parts values ps +ℤ (p.0 *ℤ number_at values p.1)
parts_push values [] p =
    let one = parts_cons values p [] in
    let two = no_parts values in
    omega (arith, ints, one, two)
parts_push values (q ∷ ps) p =
    let one = parts_cons values q (ps ++ p ∷ []) in
    let two = parts_cons values q ps in
    let three = parts_push values ps p in
    omega (arith, ints, one, two, three)

pub parts_front : (values : List ℤ) (n : ℕ) (ps : List (ℤ × ℕ)) → All (λ p. p.1 < n) ps → sum_of_parts (take n values) ps ≡ sum_of_parts values ps
parts_front values n [] low = no_parts (take n values) ∙ sym (no_parts values)
parts_front values n (p ∷ ps) low =
    let P : ℤ × ℕ → Type 0 = λ q. q.1 < n in
    let one = parts_cons (take n values) p ps in
    let two = parts_cons values p ps in
    let three = ap (λ v. p.0 *ℤ v) (number_front values n p.1 (All-head P p ps low)) in
    let four = parts_front values n ps (All-tail P p ps low) in
    omega (arith, ints, one, two, three, four)

pub parts_below : (n m : ℕ) (ps : List (ℤ × ℕ)) → n ≤ m → All (λ p. p.1 < n) ps → All (λ p. p.1 < m) ps
parts_below n m ps short low = All-weaker (λ (p : ℤ × ℕ). p.1 < n) (λ p. p.1 < m) (λ p h. omega (arith, short, h)) ps low

pub difference_front : (L L1 : List VariableLiterals) (values : List ℤ) (n : ℕ) (sides : Sides) → length L ≤ n → AreNumbers L sides.left.items → AreNumbers L sides.right.items → difference (take n values) sides ≡ difference values sides
unfolding difference
difference_front L L1 values n sides short left right =
    let one = total_front values n sides.left.items (numbers_below L n sides.left.items short left) in
    let two = total_front values n sides.right.items (numbers_below L n sides.right.items short right) in
    omega (arith, ints, one, two)

pub no_side : (L : List VariableLiterals) (f : Cnf) (sides : Sides) (parts : List (ℤ × ℕ)) → IsReady L f → sides.left.items ≡ [] → sides.right.items ≡ [] → sides.rest ≡ pos 0 → HasSides L f L f (λ values. sum_of_parts values (take 0 parts)) sides
unfolding difference
no_side L f sides parts ready left right rest = record {
  left = subst (AreNumbers L) (sym left) (λ k d low. absurd (omega (arith, low)));
  right = subst (AreNumbers L) (sym right) (λ k d low. absurd (omega (arith, low)));
  widens = widens_nothing L f (λ values. difference values sides ≡ sum_of_parts values []) ready
      (λ values among.
      let one = ap (total values) left ∙ none_total values in
      let two = ap (total values) right ∙ none_total values in
      let three = no_parts values in
      omega (arith, ints, one, two, three, rest));
}

pub one_part_more : (L : List VariableLiterals) (f : Cnf) (L1 : List VariableLiterals) (g : Cnf) (L2 : List VariableLiterals) (h : Cnf) (old new : Sides) (parts : List (ℤ × ℕ)) (k : ℕ) (d : ℤ × ℕ) (a : ℤ) (var : ℕ) → k < length parts → All (λ p. p.1 < length L) parts
    → HasSides L f L1 g (λ values. sum_of_parts values (take k parts)) old → HasSides L1 g L2 h (λ values. difference values old +ℤ (a *ℤ number_at values var)) new → a ≡ (get_or parts k d).0 → var ≡ (get_or parts k d).1
    → HasSides L f L2 h (λ values. sum_of_parts values (take (k + 1) parts)) new
one_part_more L f L1 g L2 h old new parts k d a var within names so_far added is_a is_var = record {
  left = added.left;
  right = added.right;
  widens = widens_then L f L1 g L2 h (λ values. difference values old ≡ sum_of_parts values (take k parts)) (λ values. difference values new ≡ difference values old +ℤ (a *ℤ number_at values var)) (λ values. difference values new ≡ sum_of_parts values (take (k + 1) parts))
      so_far.widens added.widens
      (λ values among before now.
      let n : ℕ = length L1 in
      let short = no_longer L L1 so_far.widens.goes_on.earlier in
      let one = difference_front L1 L1 values n old (omega arith) so_far.left so_far.right in
      let two = parts_front values n (take k parts) (parts_below (length L) n (take k parts) short (All-take (λ (p : ℤ × ℕ). p.1 < length L) k parts names)) in
      let three = ap (sum_of_parts values) (take_more parts k d within) ∙ parts_push values (take k parts) (get_or parts k d) in
      let four = ap (λ c. c *ℤ number_at values var) is_a ∙ ap (λ x. (get_or parts k d).0 *ℤ number_at values x) is_var in
      omega (arith, ints, before, now, one, two, three, four));
}

pub all_parts : (L : List VariableLiterals) (f : Cnf) (L1 : List VariableLiterals) (g : Cnf) (sides : Sides) (parts : List (ℤ × ℕ)) (k : ℕ) → length parts ≤ k → HasSides L f L1 g (λ values. sum_of_parts values (take k parts)) sides
    → HasSides L f L1 g (λ values. sum_of_parts values parts) sides
all_parts L f L1 g sides parts k long has = subst (λ ps. HasSides L f L1 g (λ values. sum_of_parts values ps) sides) (take_all k parts long) has

-- what is left over is put on one side
pub aside_left : (L : List VariableLiterals) (old new : Sides) (over : ℤ) (far : ℕ) (made : Binary) → over ≡ old.rest → pos far ≡ over → AreBits L made.bits.items → ((values : List ℤ) → AreOfDomains L values → spelled values made.bits.items ≡ pos far)
    → new.left.items ≡ old.left.items ++ made ∷ [] → new.right.items ≡ old.right.items → new.rest ≡ pos 0 → Moves L old new (pos 0)
unfolding difference
aside_left L old new over far made is_over is_far bits spells pushed same none = record {
  left = λ all. subst (AreNumbers L) (sym pushed) (All-push (λ (n : Binary). AreBits L n.bits.items) old.left.items made all bits);
  right = λ all. subst (AreNumbers L) (sym same) all;
  differs = λ values among.
      let one = ap (total values) pushed ∙ total_push values old.left.items made in
      let two = ap (total values) same in
      let three = spells values among in
      omega (arith, ints, one, two, three, is_over, is_far, none);
}

pub aside_right : (L : List VariableLiterals) (old new : Sides) (over : ℤ) (far : ℕ) (made : Binary) → over ≡ old.rest → pos far ≡ neg_ℤ over → AreBits L made.bits.items → ((values : List ℤ) → AreOfDomains L values → spelled values made.bits.items ≡ pos far)
    → new.right.items ≡ old.right.items ++ made ∷ [] → new.left.items ≡ old.left.items → new.rest ≡ pos 0 → Moves L old new (pos 0)
unfolding difference
aside_right L old new over far made is_over is_far bits spells pushed same none = record {
  left = λ all. subst (AreNumbers L) (sym same) all;
  right = λ all. subst (AreNumbers L) (sym pushed) (All-push (λ (n : Binary). AreBits L n.bits.items) old.right.items made all bits);
  differs = λ values among.
      let one = ap (total values) pushed ∙ total_push values old.right.items made in
      let two = ap (total values) same in
      let three = spells values among in
      omega (arith, ints, one, two, three, is_over, is_far, none);
}

-- a number is added to what is left over
pub rest_moved : (L : List VariableLiterals) (old new : Sides) (number : ℤ) → new.left.items ≡ old.left.items → new.right.items ≡ old.right.items → new.rest ≡ old.rest +ℤ number → Moves L old new number
unfolding difference
rest_moved L old new number lefts rights rest = record {
  left = λ all. subst (AreNumbers L) (sym lefts) all;
  right = λ all. subst (AreNumbers L) (sym rights) all;
  differs = λ values among.
      let one = ap (total values) lefts in
      let two = ap (total values) rights in
      omega (arith, ints, one, two, rest);
}

-- the same where all that was left over was put aside
pub moved_aside : (L : List VariableLiterals) (old mid new : Sides) (number : ℤ) → Moves L old mid (pos 0) → mid.rest ≡ pos 0 → new.left.items ≡ mid.left.items → new.right.items ≡ mid.right.items → new.rest ≡ number → Moves L old new number
unfolding difference
moved_aside L old mid new number aside none lefts rights rest = record {
  left = λ all. subst (AreNumbers L) (sym lefts) (aside.left all);
  right = λ all. subst (AreNumbers L) (sym rights) (aside.right all);
  differs = λ values among.
      let one = ap (total values) lefts in
      let two = ap (total values) rights in
      let three = aside.differs values among in
      omega (arith, ints, one, two, three, none, rest);
}

-- a number was taken away, and nothing is left over
pub levels : (L : List VariableLiterals) (old mid new : Sides) (less number : ℤ) → Moves L old mid less → Moves L mid new (pos 0) → new.rest ≡ pos 0 → less ≡ neg_ℤ number → Levels L old new number
unfolding difference
levels L old mid new less number one two none is = record {
  left = λ all. two.left (one.left all);
  right = λ all. two.right (one.right all);
  differs = λ values among.
      let first = one.differs values among in
      let second = two.differs values among in
      omega (arith, ints, first, second, none, is);
}

-- comparisons of numbers with one difference
lt_moved : (x y z w : ℤ) → (x -ℤ y) ≡ (z -ℤ w) → int_lt x y ≡ int_lt z w
lt_moved x y z w e = by (int_lt x y) (int_lt z w) refl refl
  where
    by : (t u : Bool) → int_lt x y ≡ t → int_lt z w ≡ u → t ≡ u
    by true true a b = refl
    by false false a b = refl
    by true false a b = absurd (omega (arith, ints, a, b, e))
    by false true a b = absurd (omega (arith, ints, a, b, e))

le_moved : (x y z w : ℤ) → (x -ℤ y) ≡ (z -ℤ w) → int_le x y ≡ int_le z w
le_moved x y z w e = by (int_le x y) (int_le z w) refl refl
  where
    by : (t u : Bool) → int_le x y ≡ t → int_le z w ≡ u → t ≡ u
    by true true a b = refl
    by false false a b = refl
    by true false a b = absurd (omega (arith, ints, a, b, e))
    by false true a b = absurd (omega (arith, ints, a, b, e))

eq_moved : (x y z w : ℤ) → (x -ℤ y) ≡ (z -ℤ w) → int_eq x y ≡ int_eq z w
eq_moved x y z w e = by (int_eq x y) (int_eq z w) refl refl
  where
    bad : {X : Type 0} → false ≡ true → X
    bad h = absurd (wrong h)
      where
        wrong : false ≡ true → ⊥
        wrong x = cc

    by : (t u : Bool) → int_eq x y ≡ t → int_eq z w ≡ u → t ≡ u
    by true true a b = refl
    by false false a b = refl
    by true false a b = let p = (Decides-int_eq x y).0 a in bad (sym b ∙ (Decides-int_eq z w).1 (omega (arith, ints, p, e)))
    by false true a b = let p = (Decides-int_eq z w).0 b in bad (sym a ∙ (Decides-int_eq x y).1 (omega (arith, ints, p, e)))

pub compare_moved : (op : CompareOp) (x y z w : ℤ) → (x -ℤ y) ≡ (z -ℤ w) → compare_holds op x y ≡ compare_holds op z w
unfolding compare_holds
compare_moved CompareOp.Equal x y z w e = eq_moved x y z w e
compare_moved CompareOp.NotEqual x y z w e = ap not (eq_moved x y z w e)
compare_moved CompareOp.Less x y z w e = lt_moved x y z w e
compare_moved CompareOp.AtMost x y z w e = le_moved x y z w e
compare_moved CompareOp.Greater x y z w e = lt_moved y x w z (omega (arith, ints, e))
compare_moved CompareOp.AtLeast x y z w e = le_moved y x w z (omega (arith, ints, e))
