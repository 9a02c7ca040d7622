-- Numbers that the assignments of a formula give variables, and what is known of terms there.
use Rattle.std.proofs.Common.{◌≡◌, ◌↔◌, ℕ, zero, suc, ◌≤◌, ℤ, pos, List, [], ◌∷◌, length, map, take, refl, sym, ap, subst, ◌∙◌, arith}
use Rattle.std.specs.List.{All, Contains}
use Rattle.std.proofs.lemmas.List.Elements.{All-weaker}
use Rattle.cnf_core.proofs.Keeping.{keeps_like}
use Rattle.cnf_core.specs.Formula.{Cnf}
use Rattle.enc_atoms.proofs.Adding.{satisfied_before}
use Rattle.enc_atoms.proofs.Decoded.{among_front, number_front, values_among, values_front}
use Rattle.enc_atoms.specs.Atoms.{Adds}
use Rattle.enc_linear.proofs.Heights.{rungs_front}
use Rattle.enc_linear.specs.declared.sources.Source.{Source}
use Rattle.enc_linear.specs.declared.sources.Source.TheVariants as source
use Rattle.enc_linear.specs.declared.terms.Step.{Step}
use Rattle.enc_linear.specs.declared.terms.Term.{Term}
use Rattle.enc_linear.specs.Sources.{IsLadder, IsSourceBelow, IsWhole, ones_in_front, source_number}
use Rattle.enc_linear.specs.Terms.{Arise, IsTermOf, worth_at, worth_of}
use Rattle.enc_var.specs.Decoding.{VariableLiterals}
use Rattle.enc_var.specs.Layouts.{GoesOn, IsLayoutOf, decoded_values}

-- The same in other words, which need only agree on numbers that arise.
pub adds_like : (L : List VariableLiterals) (f : Cnf) (L1 : List VariableLiterals) (g : Cnf) (P R : List ℤ → Type 0) → IsLayoutOf L f → Adds L f L1 g P → ((values : List ℤ) → Arise L f values → P values ↔ R values) → Adds L f L1 g R
adds_like L f L1 g P R is_layout adds same = record {
  goes_on = adds.goes_on;
  keeps = keeps_like f g (λ s. P (decoded_values L s)) (λ s. R (decoded_values L s)) adds.keeps
      (λ s met. same (decoded_values L s) (record { assignment = s; satisfies = met; given = refl; among = values_among L s (is_layout.meaning s met) }));
}

-- what arises later arises earlier
pub arise_earlier : (L : List VariableLiterals) (f : Cnf) (L1 : List VariableLiterals) (f1 : Cnf) (values : List ℤ) → GoesOn L f L1 f1 → Arise L1 f1 values → Arise L f (take (length L) values)
arise_earlier L f L1 f1 values goes a = record {
  assignment = a.assignment;
  satisfies = satisfied_before L f L1 f1 goes a.assignment a.satisfies;
  given = sym (values_front L L1 a.assignment goes.earlier) ∙ ap (take (length L)) a.given;
  among = among_front L L1 values goes.earlier a.among;
}

pub arise_before : (L : List VariableLiterals) (f f1 : Cnf) (values : List ℤ) → GoesOn L f L f1 → Arise L f1 values → Arise L f values
arise_before L f f1 values goes a = record {
  assignment = a.assignment;
  satisfies = satisfied_before L f L f1 goes a.assignment a.satisfies;
  given = a.given;
  among = a.among;
}

-- a source's number among the first ones
pub source_number_front : (values : List ℤ) (n : ℕ) (from : Source) → IsSourceBelow n from → source_number (take n values) from ≡ source_number values from
unfolding source_number
source_number_front values n (source.Variable x) low = number_front values n x low
source_number_front values n (source.Ladder ladder) low = ap (λ ns. pos (ones_in_front ns)) (rungs_front values n ladder low.1)

pub whole_front : (values : List ℤ) (n : ℕ) (from : Source) → IsSourceBelow n from → IsWhole (take n values) from → IsWhole values from
whole_front values n (source.Variable x) low whole = tt
whole_front values n (source.Ladder ladder) low whole = subst IsLadder (rungs_front values n ladder low.1) whole

pub below_more : (n m : ℕ) (from : Source) → n ≤ m → IsSourceBelow n from → IsSourceBelow m from
below_more n m (source.Variable x) le low = omega (arith, le, low)
below_more n m (source.Ladder ladder) le low = (low.0, omega (arith, le, low.1))

pub worth_front : (values : List ℤ) (n : ℕ) (term : Term) → IsSourceBelow n term.source → worth_of (take n values) term ≡ worth_of values term
unfolding worth_of
worth_front values n term low = ap (worth_at term.steps.items) (source_number_front values n term.source low)

short : {X : Type 0} (n : ℕ) (xs : List X) → length (take n xs) ≤ length xs
short zero xs = omega arith
short (suc n) [] = omega arith
short (suc n) (x ∷ xs) = let h = short n xs in omega (arith, h)

pub no_longer : (L later : List VariableLiterals) → take (length L) later ≡ L → length L ≤ length later
no_longer L later front = subst (λ n. n ≤ length later) (ap length front) (short (length L) later)

-- a term stays one while a formula goes on
pub term_later : (L : List VariableLiterals) (f : Cnf) (L1 : List VariableLiterals) (f1 : Cnf) (term : Term) → GoesOn L f L1 f1 → IsTermOf L f term → IsTermOf L1 f1 term
term_later L f L1 f1 term goes of_layout = record {
  names = below_more (length L) (length L1) term.source (no_longer L L1 goes.earlier) of_layout.names;
  whole = λ values a. whole_front values (length L) term.source of_layout.names (of_layout.whole (take (length L) values) (arise_earlier L f L1 f1 values goes a));
  values = λ values a. subst (Contains (map (λ (step : Step). step.value) term.steps.items)) (source_number_front values (length L) term.source of_layout.names)
      (of_layout.values (take (length L) values) (arise_earlier L f L1 f1 values goes a));
  ordered = of_layout.ordered;
  bounds = of_layout.bounds;
}

pub terms_later : (L : List VariableLiterals) (f : Cnf) (L1 : List VariableLiterals) (f1 : Cnf) (terms : List Term) → GoesOn L f L1 f1 → All (IsTermOf L f) terms → All (IsTermOf L1 f1) terms
terms_later L f L1 f1 terms goes h = All-weaker (IsTermOf L f) (IsTermOf L1 f1) (λ t one. term_later L f L1 f1 t goes one) terms h
