-- Constant bits, and the constant numbers that they spell.
use Rattle.std.proofs.Common.{◌≡◌, ◌↔◌, ℕ, ◌+◌, ◌<◌, ◌*◌, ◌%◌, ◌/◌, zero, suc, ℤ, pos, List, [], ◌∷◌, ◌++◌, length, refl, sym, ap, subst, ◌∙◌, arith, get_or}
use Rattle.std.specs.List.{Any, Contains}
use Rattle.std.specs.Prelude.{Err, IfOk, Ok, OnOk, Result}
use Rattle.std.proofs.lemmas.Int.{ints}
use Rattle.std.proofs.lemmas.List.{get_or_push}
use Rattle.std.proofs.lemmas.List.Elements.{All-nil, All-push}
use Rattle.cnf_core.specs.Formula.{Cnf}
use Rattle.ep_base.specs.Runs.{IsIn}
use Rattle.ep_base.specs.declared.run_lists.Run.{Run}
use Rattle.enc_atoms.specs.Atoms.{AreOfDomains}
use Rattle.enc_var.specs.Decoding.{VariableLiterals}
use Rattle.enc_var.specs.Layouts.{GoesOn, HasFreeChoice, literals_at}
use Rattle.enc_adder.proofs.Sums.{before_none, before_nothing, before_push, spelled_before}
use Rattle.enc_adder.proofs.Widening.{constant_is, constant_later, one_bit, widens_then, widens_variable, zero_bit}
use Rattle.enc_adder.specs.Bits.{AreBits, AreNewConstants, HasConstants, IsBit, IsConstant, IsNewConstant, spelled}
use Rattle.enc_adder.specs.declared.bits.Constants.{Constants}

-- the numbers of a run of one number
single : (domain : List ℤ) (parts : List Run) (n : ℤ) → parts ≡ record { lo = n; hi = n } ∷ [] → ((number : ℤ) → Contains domain number ↔ Any (IsIn number) parts) → Contains domain n
single domain parts n is numbers = (numbers n).1 (subst (Any (IsIn n)) (sym is) (0, record { lo = n; hi = n }, omega arith, refl, (omega (arith, ints), omega (arith, ints))))

only : (domain : List ℤ) (parts : List Run) (n : ℤ) → parts ≡ record { lo = n; hi = n } ∷ [] → ((number : ℤ) → Contains domain number ↔ Any (IsIn number) parts) → (v : ℤ) → Contains domain v → v ≡ n
only domain parts n is numbers v found = by (subst (Any (IsIn v)) is ((numbers v).0 found))
  where
    by : Any (IsIn v) (record { lo = n; hi = n } ∷ []) → v ≡ n
    by (zero, run, low, is_run, h) = let w = subst (IsIn v) (sym is_run) h in let p = w.0 in let q = w.1 in omega (arith, ints, p, q)
    by (suc k, run, low, is_run, h) = absurd (omega (arith, low))

pub new_constant_is : (L : List VariableLiterals) (f : Cnf) (L1 : List VariableLiterals) (g : Cnf) (domain : List ℤ) (first : ℕ) (parts : List Run) (n m : ℤ) (x : ℕ) → parts ≡ record { lo = m; hi = m } ∷ [] → m ≡ n → ((number : ℤ) → Contains domain number ↔ Any (IsIn number) parts)
    → x ≡ length L → L1 ≡ L ++ record { domain = domain; first = first } ∷ [] → GoesOn L f L1 g → HasFreeChoice f (record { domain = domain; first = first }) g → IsNewConstant L f L1 g n x
new_constant_is L f L1 g domain first parts n m x are same numbers is pushed goes free =
    let e : VariableLiterals = record { domain = domain; first = first } in
    let d : VariableLiterals = record { domain = []; first = 0 } in
    let there : literals_at L1 x ≡ e = ap (λ es. get_or es x d) pushed ∙ get_or_push L e d x (sym is) in
    record {
      constant_is = record {
        there = subst (λ es. x < length es) (sym pushed) (pushed_low L e x is);
        only = λ v found. only domain parts m are numbers v (subst (λ (l : VariableLiterals). Contains l.domain v) there found) ∙ same;
      };
      widens = widens_variable L f L1 g e m goes free (single domain parts m are numbers);
    }
  where
    pushed_low : (L : List VariableLiterals) (e : VariableLiterals) (x : ℕ) → x ≡ length L → x < length (L ++ e ∷ [])
    pushed_low [] e x is = omega (arith, is)
    pushed_low (l ∷ L) e zero is = omega arith
    pushed_low (l ∷ L) e (suc x) is = let h = pushed_low L e x (omega (arith, is)) in omega (arith, h)

pub new_constants_are : (L : List VariableLiterals) (f : Cnf) (L1 : List VariableLiterals) (g : Cnf) (L2 : List VariableLiterals) (h : Cnf) (c : Constants) → IsNewConstant L f L1 g (pos 0) c.zero → IsNewConstant L1 g L2 h (pos 1) c.one → AreNewConstants L f L2 h c
new_constants_are L f L1 g L2 h c zero_made one_made = record {
  constants_are = record { zero_is = constant_later L1 L2 c.zero (pos 0) one_made.widens.goes_on.earlier zero_made.constant_is; one_is = one_made.constant_is };
  widens = widens_then L f L1 g L2 h (λ values. Unit {0}) (λ values. Unit {0}) (λ values. Unit {0}) zero_made.widens one_made.widens (λ values among one two. tt);
}

-- Some of the lowest bits of a number are there, and the rest of it is left.
pub record SpellsSoFar (c : Constants) (number rest : ℕ) (bits : List ℕ) : Type 0 where
  pub are_bits : (layout : List VariableLiterals) → HasConstants layout c → AreBits layout bits
  pub spells : (layout : List VariableLiterals) (values : List ℤ) → HasConstants layout c → AreOfDomains layout values → spelled_before values bits (pos rest) ≡ pos number

pub none_so_far : (c : Constants) (number : ℕ) (bits : List ℕ) → bits ≡ [] → SpellsSoFar c number number bits
none_so_far c number bits empty = record {
  are_bits = λ layout has. subst (AreBits layout) (sym empty) (All-nil (IsBit layout));
  spells = λ layout values has among. ap (λ xs. spelled_before values xs (pos number)) empty ∙ before_none values (pos number);
}

more_so_far : (c : Constants) (number rest : ℕ) (bits more : List ℕ) (x : ℕ) (b half : ℕ) → ((layout : List VariableLiterals) → HasConstants layout c → IsConstant layout x (pos b) × IsBit layout x) → rest ≡ b + 2 * half → more ≡ bits ++ x ∷ []
    → SpellsSoFar c number rest bits → SpellsSoFar c number half more
more_so_far c number rest bits more x b half is sum pushed so_far = record {
  are_bits = λ layout has. subst (AreBits layout) (sym pushed) (All-push (IsBit layout) bits x (so_far.are_bits layout has) (is layout has).1);
  spells = λ layout values has among.
      let e = constant_is layout values x (pos b) among (is layout has).0 in
      ap (λ xs. spelled_before values xs (pos half)) pushed ∙ before_push values bits x (pos half)
      ∙ ap (spelled_before values bits) (omega (arith, ints, e, sum)) ∙ so_far.spells layout values has among;
}

pub bit_so_far : (c : Constants) (number rest half : ℕ) (bits more : List ℕ) (x : ℕ) → (rest % 2 ≡ 1 → x ≡ c.one) → (rest % 2 ≡ 0 → x ≡ c.zero) → half ≡ rest / 2 → more ≡ bits ++ x ∷ [] → SpellsSoFar c number rest bits → SpellsSoFar c number half more
bit_so_far c number rest half bits more x odd even is_half pushed so_far = by (rest % 2) refl
  where
    by : (b : ℕ) → rest % 2 ≡ b → SpellsSoFar c number half more
    by zero e =
        more_so_far c number rest bits more c.zero 0 half (λ layout has. (has.zero_is, zero_bit layout c.zero has.zero_is)) (omega (arith, e, is_half))
        (pushed ∙ ap (λ y. bits ++ y ∷ []) (even e)) so_far
    by (suc zero) e =
        more_so_far c number rest bits more c.one 1 half (λ layout has. (has.one_is, one_bit layout c.one has.one_is)) (omega (arith, e, is_half))
        (pushed ∙ ap (λ y. bits ++ y ∷ []) (odd e)) so_far
    by (suc (suc b)) e = absurd (omega (arith, e))

pub spells_whole : (c : Constants) (number rest : ℕ) (bits : List ℕ) → rest ≡ 0 → SpellsSoFar c number rest bits → (layout : List VariableLiterals) (values : List ℤ) → HasConstants layout c → AreOfDomains layout values → spelled values bits ≡ pos number
spells_whole c number rest bits none so_far layout values has among =
    sym (before_nothing values bits) ∙ ap (λ n. spelled_before values bits (pos n)) (sym none) ∙ so_far.spells layout values has among

pub new_constant_ok : {E : Type 0} (r : Result ℕ E) (L : List VariableLiterals) (f : Cnf) (L1 : List VariableLiterals) (g : Cnf) (domain : List ℤ) (first : ℕ) (parts : List Run) (n m : ℤ) → ((number : ℤ) → Contains domain number ↔ Any (IsIn number) parts) → parts ≡ record { lo = m; hi = m } ∷ [] → m ≡ n
    → IfOk r (λ x. x ≡ length L) → OnOk r (L1 ≡ L ++ record { domain = domain; first = first } ∷ []) → OnOk r (GoesOn L f L1 g) → OnOk r (HasFreeChoice f (record { domain = domain; first = first }) g) → IfOk r (IsNewConstant L f L1 g n)
new_constant_ok (Ok x) L f L1 g domain first parts n m numbers are same is pushed goes free = new_constant_is L f L1 g domain first parts n m x are same numbers is pushed goes free
new_constant_ok (Err e) L f L1 g domain first parts n m numbers are same is pushed goes free = tt
