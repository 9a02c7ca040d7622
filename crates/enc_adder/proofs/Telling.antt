-- A sum that compares with a number, by the bits of its two sides.
use Rattle.std.proofs.Common.{inl, inr, ◌≡◌, ◌↔◌, ℕ, ◌<◌, ◌≤◌, ℤ, pos, ◌-ℤ◌, Bool, true, false, IsTrue, List, [], ◌∷◌, length, take, refl, sym, ap, subst, ◌∙◌, arith}
use Rattle.std.specs.List.{All}
use Rattle.std.specs.Ordering.{int_eq}
use Rattle.std.specs.Prelude.{Option, Some, None}
use Rattle.std.proofs.lemmas.Int.{ints}
use Rattle.cnf_core.specs.Formula.{Cnf}
use Rattle.ep_base.specs.Numbers.{compare_holds, of_bool}
use Rattle.ep_base.specs.declared.operators.CompareOp.{CompareOp}
use Rattle.enc_atoms.proofs.Decoded.{number_front}
use Rattle.enc_atoms.proofs.Adding.{adds_like}
use Rattle.enc_atoms.specs.Atoms.{Adds, clause_holds}
use Rattle.enc_atoms.specs.declared.atoms.Atom.{Atom}
use Rattle.enc_atoms.proofs.Guards.{adds_decided, unless_like}
use Rattle.enc_atoms.proofs.Meanings.{either, guard_fails, is_clause, not_false, other, other_test, same, same_test}
use Rattle.enc_atoms.proofs.Naming.{adds_some}
use Rattle.enc_atoms.specs.Steps.{HasTruth, IsTruth, Unless, is, is_not}
use Rattle.enc_var.specs.Decoding.{VariableLiterals}
use Rattle.enc_var.specs.Layouts.{IsLayoutOf}
use Rattle.ep_flat.specs.Cons.{is_as_said, number_at}
use Rattle.enc_adder.proofs.SideSums.{compare_moved, parts_below, parts_front}
use Rattle.enc_adder.proofs.Sums.{below, numbers_below, spelled_front, total_front}
use Rattle.enc_adder.proofs.Widening.{no_longer, widens_end, widens_then}
use Rattle.enc_adder.specs.Bits.{AreBits, AreNumbers, SpellsNumber, Widens, spelled, total}
use Rattle.enc_adder.specs.Comparing.{Tells}
use Rattle.enc_adder.specs.Parts.{HasSides, Levels, difference, sum_of_parts}
use Rattle.enc_adder.specs.declared.bits.Binary.{Binary}
use Rattle.enc_adder.specs.declared.sides.Sides.{Sides}

-- the sides differ as the sum does from the number
abbrev pub Differ : List (ℤ × ℕ) → ℤ → (List ℤ → ℤ) → (List ℤ → ℤ) → List ℤ → Type 0
Differ parts number left right values = (left values -ℤ right values) ≡ (sum_of_parts values parts -ℤ number)

pub leveled : (L : List VariableLiterals) (f : Cnf) (L1 : List VariableLiterals) (g : Cnf) (L2 : List VariableLiterals) (h : Cnf) (old new : Sides) (parts : List (ℤ × ℕ)) (number : ℤ)
    → Widens L f L1 g (λ values. Unit {0}) → HasSides L1 g L2 h (λ values. sum_of_parts values parts) old → Levels L2 old new number
    → Widens L f L2 h (Differ parts number (λ values. total values new.left.items) (λ values. total values new.right.items))
leveled L f L1 g L2 h old new parts number first sides levels =
    widens_then L f L1 g L2 h (λ values. Unit {0}) (λ values. difference values old ≡ sum_of_parts values parts) (Differ parts number (λ values. total values new.left.items) (λ values. total values new.right.items)) first sides.widens
    (λ values among nothing is.
    let one = levels.differs values among in
    omega (arith, ints, one, is))

pub left_summed : (L : List VariableLiterals) (f : Cnf) (L1 : List VariableLiterals) (g : Cnf) (L2 : List VariableLiterals) (h : Cnf) (left right : List Binary) (bits : List ℕ) (parts : List (ℤ × ℕ)) (number : ℤ) → All (λ p. p.1 < length L) parts → AreNumbers L1 left → AreNumbers L1 right
    → Widens L f L1 g (Differ parts number (λ values. total values left) (λ values. total values right)) → SpellsNumber L1 g L2 h (λ values. total values left) bits
    → Widens L f L2 h (Differ parts number (λ values. spelled values bits) (λ values. total values right))
left_summed L f L1 g L2 h left right bits parts number names of_left of_right wide spells =
    widens_then L f L1 g L2 h (Differ parts number (λ values. total values left) (λ values. total values right)) (λ values. spelled values bits ≡ total values left) (Differ parts number (λ values. spelled values bits) (λ values. total values right)) wide spells.widens
    (λ values among before now.
    let n : ℕ = length L1 in
    let one = total_front values n left (numbers_below L1 n left (omega arith) of_left) in
    let two = total_front values n right (numbers_below L1 n right (omega arith) of_right) in
    let three = parts_front values n parts (parts_below (length L) n parts (no_longer L L1 wide.goes_on.earlier) names) in
    omega (arith, ints, before, now, one, two, three))

pub right_summed : (L : List VariableLiterals) (f : Cnf) (L1 : List VariableLiterals) (g : Cnf) (L2 : List VariableLiterals) (h : Cnf) (left : List ℕ) (right : List Binary) (bits : List ℕ) (parts : List (ℤ × ℕ)) (number : ℤ) → All (λ p. p.1 < length L) parts → AreBits L1 left → AreNumbers L1 right
    → Widens L f L1 g (Differ parts number (λ values. spelled values left) (λ values. total values right)) → SpellsNumber L1 g L2 h (λ values. total values right) bits
    → Widens L f L2 h (Differ parts number (λ values. spelled values left) (λ values. spelled values bits))
right_summed L f L1 g L2 h left right bits parts number names of_left of_right wide spells =
    widens_then L f L1 g L2 h (Differ parts number (λ values. spelled values left) (λ values. total values right)) (λ values. spelled values bits ≡ total values right) (Differ parts number (λ values. spelled values left) (λ values. spelled values bits)) wide spells.widens
    (λ values among before now.
    let n : ℕ = length L1 in
    let one = spelled_front values n left (below L1 n left (omega arith) of_left) in
    let two = total_front values n right (numbers_below L1 n right (omega arith) of_right) in
    let three = parts_front values n parts (parts_below (length L) n parts (no_longer L L1 wide.goes_on.earlier) names) in
    omega (arith, ints, before, now, one, two, three))

pub sides_tell : (L : List VariableLiterals) (f : Cnf) (L1 : List VariableLiterals) (g : Cnf) (L2 : List VariableLiterals) (h : Cnf) (left right ls rs : List ℕ) (parts : List (ℤ × ℕ)) (op : CompareOp) (m number : ℤ) (place : ℕ × ℤ) → All (λ p. p.1 < length L) parts → AreBits L1 left → AreBits L1 right
    → Widens L f L1 g (Differ parts m (λ values. spelled values left) (λ values. spelled values right)) → ls ≡ left → rs ≡ right → Tells L1 g L2 h (λ values. compare_holds op (spelled values ls) (spelled values rs)) place → m ≡ number
    → Tells L f L2 h (λ values. compare_holds op (sum_of_parts values parts) number) place
sides_tell L f L1 g L2 h left right ls rs parts op m number place names of_left of_right wide is_left is_right tells same = record {
  there = tells.there;
  widens = widens_then L f L1 g L2 h (Differ parts m (λ values. spelled values left) (λ values. spelled values right)) (λ values. int_eq (number_at values place.0) place.1 ≡ compare_holds op (spelled values ls) (spelled values rs))
      (λ values. int_eq (number_at values place.0) place.1 ≡ compare_holds op (sum_of_parts values parts) number) wide tells.widens
      (λ values among before now.
      let n : ℕ = length L1 in
      let one = spelled_front values n left (below L1 n left (omega arith) of_left) in
      let two = spelled_front values n right (below L1 n right (omega arith) of_right) in
      let three = parts_front values n parts (parts_below (length L) n parts (no_longer L L1 wide.goes_on.earlier) names) in
      let four = ap (spelled values) is_left in
      let five = ap (spelled values) is_right in
      now ∙ compare_moved op (spelled values ls) (spelled values rs) (sum_of_parts values parts) number (omega (arith, ints, before, one, two, three, four, five, same)));
}

-- the variable of a truth has the same number among the earlier ones
said_front : (values : List ℤ) (n : ℕ) (truth : Option ℕ) (b : Bool) (L : List VariableLiterals) → length L ≤ n → HasTruth L truth → is_as_said (take n values) truth b ≡ is_as_said values truth b
unfolding is_as_said
said_front values n None b L short there = refl
said_front values n (Some t) b L short there = ap (λ v. int_eq v (of_bool b)) (number_front values n t (omega (arith, short, there)))

-- what tells whether the sum compares so is tied to a truth
pub told_adds : (L : List VariableLiterals) (f : Cnf) (L1 : List VariableLiterals) (g h : Cnf) (truth : Option ℕ) (parts : List (ℤ × ℕ)) (op : CompareOp) (number : ℤ) (place : ℕ × ℤ) → IsLayoutOf L f → HasTruth L truth → All (λ p. p.1 < length L) parts
    → Tells L f L1 g (λ values. compare_holds op (sum_of_parts values parts) number) place → Adds L1 g L1 h (λ values. IsTrue (is_as_said values truth (int_eq (number_at values place.0) place.1)))
    → Adds L f L1 h (λ values. IsTrue (is_as_said values truth (compare_holds op (sum_of_parts values parts) number)))
told_adds L f L1 g h truth parts op number place is_layout there names tells adds =
    widens_end L f L1 g L1 h (λ values. int_eq (number_at values place.0) place.1 ≡ compare_holds op (sum_of_parts values parts) number) (λ values. IsTrue (is_as_said values truth (int_eq (number_at values place.0) place.1)))
    (λ values. IsTrue (is_as_said values truth (compare_holds op (sum_of_parts values parts) number))) is_layout tells.widens adds
    (λ values among is.
    let n : ℕ = length L in
    let front = said_front values n truth (compare_holds op (sum_of_parts (take n values) parts) number) L (omega arith) there in
    let same = ap (λ m. is_as_said values truth (compare_holds op m number)) (parts_front values n parts names) in
    let told = ap (is_as_said values truth) is in
    (λ on. front ∙ same ∙ sym told ∙ on, λ on. told ∙ sym same ∙ sym front ∙ on))

-- the variable of a truth is one of a later layout too
pub truth_later : (L later : List VariableLiterals) (truth : Option ℕ) → take (length L) later ≡ L → HasTruth L truth → HasTruth later truth
truth_later L later None front there = tt
truth_later L later (Some t) front there = let h = no_longer L later front in omega (arith, h, there)

pub told_adds_as : (L : List VariableLiterals) (f : Cnf) (L1 : List VariableLiterals) (g h : Cnf) (truth : Option ℕ) (parts : List (ℤ × ℕ)) (op : CompareOp) (m number : ℤ) (place : ℕ × ℤ) → IsLayoutOf L f → HasTruth L truth → All (λ p. p.1 < length L) parts
    → Tells L f L1 g (λ values. compare_holds op (sum_of_parts values parts) m) place → m ≡ number → Adds L1 g L1 h (λ values. IsTrue (is_as_said values truth (int_eq (number_at values place.0) place.1)))
    → Adds L f L1 h (λ values. IsTrue (is_as_said values truth (compare_holds op (sum_of_parts values parts) number)))
told_adds_as L f L1 g h truth parts op m number place is_layout there names tells same adds =
    subst (λ n. Adds L f L1 h (λ values. IsTrue (is_as_said values truth (compare_holds op (sum_of_parts values parts) n)))) same
    (told_adds L f L1 g h truth parts op m place is_layout there names tells adds)

-- what a clause of one atom says, and a truth
pub told_plain : (L : List VariableLiterals) (f g : Cnf) (truth : Option ℕ) (x : ℕ) (v : ℤ) (atoms : List Atom) → IsLayoutOf L f → truth ≡ None → atoms ≡ is x v ∷ [] → Adds L f L g (λ values. IsTrue (clause_holds values atoms))
    → Adds L f L g (λ values. IsTrue (is_as_said values truth (int_eq (number_at values x) v)))
unfolding is_as_said
told_plain L f g truth x v atoms is_layout none are adds =
    adds_like L f L g (λ values. IsTrue (clause_holds values atoms)) (λ values. IsTrue (is_as_said values truth (int_eq (number_at values x) v))) is_layout adds
    (λ values among. (
      λ h. ap (λ t. is_as_said values t (int_eq (number_at values x) v)) none ∙ same_test (number_at values x) v ((is_clause values x v).0 (ap (clause_holds values) (sym are) ∙ h)),
      λ h. ap (clause_holds values) are ∙ (is_clause values x v).1 (same (number_at values x) v (ap (λ t. is_as_said values t (int_eq (number_at values x) v)) (sym none) ∙ h)),
    ))

holds_says : (values : List ℤ) (x : ℕ) (v : ℤ) (atoms : List Atom) → atoms ≡ is x v ∷ [] → IsTrue (clause_holds values atoms) ↔ (int_eq (number_at values x) v ≡ true)
holds_says values x v atoms are = (
  λ h. same_test (number_at values x) v ((is_clause values x v).0 (ap (clause_holds values) (sym are) ∙ h)),
  λ h. ap (clause_holds values) are ∙ (is_clause values x v).1 (same (number_at values x) v h),
)

fails_says : (values : List ℤ) (x : ℕ) (v : ℤ) (atoms : List Atom) → atoms ≡ is_not x v ∷ [] → IsTrue (clause_holds values atoms) ↔ (int_eq (number_at values x) v ≡ false)
fails_says values x v atoms are = (
  λ h. other_test (number_at values x) v (λ at. not_false (clause_holds values atoms) h (ap (clause_holds values) are ∙ (guard_fails values x v).1 at)),
  λ h. elim (either (clause_holds values atoms)) as (λ _. clause_holds values atoms ≡ true) [
    | inl on ↦ on
    | inr off ↦ absurd (other (number_at values x) v h ((guard_fails values x v).0 (ap (clause_holds values) (sym are) ∙ off)))
  ],
)

pub told_truth : (L : List VariableLiterals) (f f1 f2 g : Cnf) (truth : Option ℕ) (t x : ℕ) (v : ℤ) (on off holds fails : List Atom) → IsLayoutOf L f → truth ≡ Some t → on ≡ is_not t (pos 1) ∷ [] → off ≡ is_not t (pos 0) ∷ [] → holds ≡ is x v ∷ [] → fails ≡ is_not x v ∷ []
    → Adds L f L f1 (λ values. IsTruth (number_at values t)) → Adds L f1 L f2 (Unless on (λ values. IsTrue (clause_holds values holds))) → Adds L f2 L g (Unless off (λ values. IsTrue (clause_holds values fails)))
    → Adds L f L g (λ values. IsTrue (is_as_said values truth (int_eq (number_at values x) v)))
told_truth L f f1 f2 g truth t x v on off holds fails is_layout some on_is off_is holds_are fails_are one two three =
    adds_some L f L g truth t (λ values. int_eq (number_at values x) v) some
    (adds_decided L f f1 f2 L g t on off (λ values. int_eq (number_at values x) v) is_layout on_is off_is one
    (unless_like L f1 L f2 on (λ values. IsTrue (clause_holds values holds)) (λ values. int_eq (number_at values x) v ≡ true) one.goes_on.is_layout two (λ values among. holds_says values x v holds holds_are))
    (unless_like L f2 L g off (λ values. IsTrue (clause_holds values fails)) (λ values. int_eq (number_at values x) v ≡ false) two.goes_on.is_layout three (λ values among. fails_says values x v fails fails_are)))
