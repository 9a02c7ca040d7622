-- Laws of steps that take no assignment away.
use Rattle.std.proofs.Common.{inl, inr, ◌≡◌, ◌↔◌, ℕ, zero, suc, ◌+◌, ◌<◌, ◌≤◌, ℤ, pos, Bool, List, [], ◌∷◌, ◌++◌, length, take, refl, sym, ap, subst, ◌∙◌, arith, get_or}
use Rattle.std.specs.List.{Contains}
use Rattle.std.proofs.lemmas.List.{get_or-append-add, get_or-take}
use Rattle.std.proofs.lemmas.List.Elements.{All-weaker}
use Rattle.cnf_core.proofs.Keeping.{agree_below, agree_on}
use Rattle.cnf_core.specs.Clauses.{AgreeUpTo, Satisfies}
use Rattle.cnf_core.specs.Formula.{Cnf, Extends}
use Rattle.enc_atoms.proofs.Adding.{goes_further, goes_nowhere, satisfied_before}
use Rattle.enc_atoms.proofs.Decoded.{number_among, values_along, values_among, values_front}
use Rattle.enc_atoms.specs.Atoms.{Adds, AreOfDomains}
use Rattle.enc_atoms.proofs.NewTruths.{adds_truths, length-numbers_from, length_later, numbers_from_at}
use Rattle.enc_atoms.specs.Steps.{HasTruths, IsReady, IsTruth, SomeTruths, numbers_from}
use Rattle.enc_var.specs.Decoding.{VariableLiterals}
use Rattle.enc_var.specs.Layouts.{GoesOn, HasFreeChoice, IsLayoutOf, decoded_values, literals_at}
use Rattle.ep_flat.specs.Cons.{number_at}
use Rattle.enc_adder.specs.Bits.{AreBits, AreNumbers, HasConstants, IsBit, IsConstant, Widens}
use Rattle.enc_adder.specs.declared.bits.Binary.{Binary}
use Rattle.enc_adder.specs.declared.bits.Constants.{Constants}

-- Nothing is made.
pub widens_nothing : (L : List VariableLiterals) (f : Cnf) (P : List ℤ → Type 0) → IsReady L f → ((values : List ℤ) → AreOfDomains L values → P values) → Widens L f L f P
widens_nothing L f P ready holds = record {
  goes_on = goes_nowhere L f ready.is_layout ready.from_new;
  continues = λ s met. record { values = s; agrees = λ v low high. refl; satisfies = met };
  tells = λ s met. holds (decoded_values L s) (values_among L s (ready.is_layout.meaning s met));
}

-- what follows from what is said
pub widens_like : (L : List VariableLiterals) (f : Cnf) (L1 : List VariableLiterals) (g : Cnf) (P R : List ℤ → Type 0) → Widens L f L1 g P → ((values : List ℤ) → AreOfDomains L1 values → P values → R values) → Widens L f L1 g R
widens_like L f L1 g P R wide same = record {
  goes_on = wide.goes_on;
  continues = wide.continues;
  tells = λ s met. same (decoded_values L1 s) (values_among L1 s (wide.goes_on.is_layout.meaning s met)) (wide.tells s met);
}

-- Two steps.
pub widens_then : (L : List VariableLiterals) (f : Cnf) (L1 : List VariableLiterals) (g : Cnf) (L2 : List VariableLiterals) (h : Cnf) (P R S : List ℤ → Type 0) → Widens L f L1 g P → Widens L1 g L2 h R
    → ((values : List ℤ) → AreOfDomains L2 values → P (take (length L1) values) → R values → S values) → Widens L f L2 h S
widens_then L f L1 g L2 h P R S one two joined = record {
  goes_on = goes_further L f L1 g L2 h one.goes_on two.goes_on;
  continues = λ s met.
      let mid = one.continues s met in
      let far = two.continues mid.values mid.satisfies in
      record {
        values = far.values;
        agrees = agree_on f.vars s mid.values far.values mid.agrees (agree_below f.vars g.vars mid.values far.values one.goes_on.variables far.agrees);
        satisfies = far.satisfies;
      };
  tells = λ s met.
      joined (decoded_values L2 s) (values_among L2 s (two.goes_on.is_layout.meaning s met))
      (subst P (sym (values_front L1 L2 s two.goes_on.earlier)) (one.tells s (satisfied_before L1 g L2 h two.goes_on s met))) (two.tells s met);
}

-- A step that takes none away, and one that does.
pub widens_end : (L : List VariableLiterals) (f : Cnf) (L1 : List VariableLiterals) (g : Cnf) (L2 : List VariableLiterals) (h : Cnf) (P Q R : List ℤ → Type 0) → IsLayoutOf L f → Widens L f L1 g P → Adds L1 g L2 h Q
    → ((values : List ℤ) → AreOfDomains L1 values → P values → Q values ↔ R (take (length L) values)) → Adds L f L2 h R
widens_end L f L1 g L2 h P Q R is_layout wide adds speaks = record {
  goes_on = goes_further L f L1 g L2 h wide.goes_on adds.goes_on;
  keeps = record {
    variables = omega (arith, wide.goes_on.variables, adds.keeps.variables);
    extension = λ s met. (λ far. forth s met far, λ on. back s met on);
    restriction = λ s met. satisfied_before L f L1 g wide.goes_on s (adds.keeps.restriction s met);
  };
}
  where
    same : (s t : ℕ → Bool) → AgreeUpTo f.vars s t → decoded_values L s ≡ take (length L) (decoded_values L1 t)
    same s t agree = values_along f.vars s t L agree is_layout.literals ∙ sym (values_front L L1 t wide.goes_on.earlier)

    among : (t : ℕ → Bool) → Satisfies t g.clauses → AreOfDomains L1 (decoded_values L1 t)
    among t met = values_among L1 t (wide.goes_on.is_layout.meaning t met)

    forth : (s : ℕ → Bool) → Satisfies s f.clauses → Extends f.vars s h → R (decoded_values L s)
    forth s met far =
        let t = far.values in
        let on_one = adds.keeps.restriction t far.satisfies in
        let here : Extends g.vars t h = record { values = t; agrees = λ v low high. refl; satisfies = far.satisfies } in
        subst R (sym (same s t far.agrees)) ((speaks (decoded_values L1 t) (among t on_one) (wide.tells t on_one)).0 ((adds.keeps.extension t on_one).0 here))

    back : (s : ℕ → Bool) → Satisfies s f.clauses → R (decoded_values L s) → Extends f.vars s h
    back s met r =
        let mid = wide.continues s met in
        let t = mid.values in
        let far = (adds.keeps.extension t mid.satisfies).1 ((speaks (decoded_values L1 t) (among t mid.satisfies) (wide.tells t mid.satisfies)).1 (subst R (same s t mid.agrees) r)) in
        record {
          values = far.values;
          agrees = agree_on f.vars s t far.values mid.agrees (agree_below f.vars g.vars t far.values wide.goes_on.variables far.agrees);
          satisfies = far.satisfies;
        }

-- a new variable alone
pub widens_variable : (L : List VariableLiterals) (f : Cnf) (L1 : List VariableLiterals) (g : Cnf) (e : VariableLiterals) (v : ℤ) → GoesOn L f L1 g → HasFreeChoice f e g → Contains e.domain v → Widens L f L1 g (λ values. Unit {0})
widens_variable L f L1 g e v goes free found = record { goes_on = goes; continues = λ s met. (free.choice s v met found).0; tells = λ s met. tt }

-- New variables of 0 and 1, and clauses which can be met whatever the earlier ones are.
pub widens_truths : (L : List VariableLiterals) (f : Cnf) (L1 : List VariableLiterals) (f1 g : Cnf) (count : ℕ) (Q : List ℤ → Type 0) → IsLayoutOf L f → HasTruths L f L1 f1 count → Adds L1 f1 L1 g Q
    → ((values : List ℤ) → AreOfDomains L values → SomeTruths count (λ truths. Q (values ++ truths))) → Widens L f L1 g Q
widens_truths L f L1 f1 g count Q is_layout new adds some = record {
  goes_on = goes_further L f L1 f1 L1 g new.goes_on adds.goes_on;
  continues = λ s met. ((adds_truths L f L1 f1 L1 g count Q is_layout new adds).keeps.extension s met).1 (some (decoded_values L s) (values_among L s (is_layout.meaning s met)));
  tells = λ s met. (adds.keeps.extension s (adds.keeps.restriction s met)).0 (record { values = s; agrees = λ v low high. refl; satisfies = met });
}

-- a layout from which one goes on is no longer
short : {X : Type 0} (n : ℕ) (xs : List X) → length (take n xs) ≤ length xs
short zero xs = omega arith
short (suc n) [] = omega arith
short (suc n) (x ∷ xs) = let h = short n xs in omega (arith, h)

pub no_longer : (L later : List VariableLiterals) → take (length L) later ≡ L → length L ≤ length later
no_longer L later front = subst (λ n. n ≤ length later) (ap length front) (short (length L) later)

-- the literals of an earlier variable
pub literals_later : (L later : List VariableLiterals) (x : ℕ) → take (length L) later ≡ L → x < length L → literals_at later x ≡ literals_at L x
literals_later L later x front low =
    let d : VariableLiterals = record { domain = []; first = 0 } in
    sym (get_or-take (length L) later x d low) ∙ ap (λ es. get_or es x d) front

pub bit_later : (L later : List VariableLiterals) (x : ℕ) → take (length L) later ≡ L → IsBit L x → IsBit later x
bit_later L later x front bit = record {
  there = let h = no_longer L later front in omega (arith, h, bit.there);
  truth = λ v found. bit.truth v (subst (λ e. Contains e.domain v) (literals_later L later x front bit.there) found);
}

pub bits_later : (L later : List VariableLiterals) (xs : List ℕ) → take (length L) later ≡ L → AreBits L xs → AreBits later xs
bits_later L later xs front bits = All-weaker (IsBit L) (IsBit later) (λ x bit. bit_later L later x front bit) xs bits

pub numbers_later : (L later : List VariableLiterals) (ns : List Binary) → take (length L) later ≡ L → AreNumbers L ns → AreNumbers later ns
numbers_later L later ns front all = All-weaker (λ n. AreBits L n.bits.items) (λ n. AreBits later n.bits.items) (λ n bits. bits_later L later n.bits.items front bits) ns all

pub constant_later : (L later : List VariableLiterals) (x : ℕ) (v : ℤ) → take (length L) later ≡ L → IsConstant L x v → IsConstant later x v
constant_later L later x v front is = record {
  there = let h = no_longer L later front in omega (arith, h, is.there);
  only = λ w found. is.only w (subst (λ e. Contains e.domain w) (literals_later L later x front is.there) found);
}

pub constants_later : (L later : List VariableLiterals) (c : Constants) → take (length L) later ≡ L → HasConstants L c → HasConstants later c
constants_later L later c front has = record { zero_is = constant_later L later c.zero (pos 0) front has.zero_is; one_is = constant_later L later c.one (pos 1) front has.one_is }

-- what the number of a bit, and of a constant, is
pub bit_is : (L : List VariableLiterals) (values : List ℤ) (x : ℕ) → AreOfDomains L values → IsBit L x → IsTruth (number_at values x)
bit_is L values x among bit = bit.truth (number_at values x) (number_among L values x among bit.there)

pub constant_is : (L : List VariableLiterals) (values : List ℤ) (x : ℕ) (v : ℤ) → AreOfDomains L values → IsConstant L x v → number_at values x ≡ v
constant_is L values x v among is = is.only (number_at values x) (number_among L values x among is.there)

pub zero_bit : (L : List VariableLiterals) (x : ℕ) → IsConstant L x (pos 0) → IsBit L x
zero_bit L x is = record { there = is.there; truth = λ v found. inl (is.only v found) }

pub one_bit : (L : List VariableLiterals) (x : ℕ) → IsConstant L x (pos 1) → IsBit L x
one_bit L x is = record { there = is.there; truth = λ v found. inr (is.only v found) }

-- new variables of 0 and 1 are bits
pub new_bit_is : (L : List VariableLiterals) (f : Cnf) (L1 : List VariableLiterals) (g : Cnf) (count k x : ℕ) → HasTruths L f L1 g count → k < count → x ≡ length L + k → IsBit L1 x
new_bit_is L f L1 g count k x new low is =
    let d : VariableLiterals = record { domain = []; first = 0 } in
    let long = length_later L f L1 g count new in
    let many = new.many in
    let there : literals_at L1 x ≡ get_or new.added k d = ap (λ es. get_or es x d) new.pushed ∙ ap (λ n. get_or (L ++ new.added) n d) is ∙ get_or-append-add L new.added k d in
    record {
      there = omega (arith, is, low, long);
      truth = λ v found. (new.domains k d (omega (arith, low, many))).only v (subst (λ e. Contains e.domain v) there found);
    }

-- a step leaves a formula that can grow
pub ready_later : (L : List VariableLiterals) (f : Cnf) (L1 : List VariableLiterals) (g : Cnf) (P : List ℤ → Type 0) → Widens L f L1 g P → IsReady L1 g
ready_later L f L1 g P wide = record { from_new = wide.goes_on.from_new; is_layout = wide.goes_on.is_layout }

pub front_later : (L : List VariableLiterals) (f : Cnf) (L1 : List VariableLiterals) (g : Cnf) (L2 : List VariableLiterals) (h : Cnf) (P Q : List ℤ → Type 0) → Widens L f L1 g P → Widens L1 g L2 h Q → take (length L) L2 ≡ L
front_later L f L1 g L2 h P Q one two = (goes_further L f L1 g L2 h one.goes_on two.goes_on).earlier

-- the number of a new variable among many
pub made_at : (items : List ℕ) (n count k v : ℕ) → items ≡ numbers_from n count → k < count → v ≡ get_or items k v → v ≡ n + k
made_at items n count k v are low is = is ∙ ap (λ xs. get_or xs k v) are ∙ numbers_from_at n count k v low

pub made_many : (items : List ℕ) (n count : ℕ) → items ≡ numbers_from n count → length items ≡ count
made_many items n count are = ap length are ∙ length-numbers_from n count
