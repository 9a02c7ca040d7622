-- The bits of what a variable's numbers are worth, from the lowest on.
use Rattle.std.proofs.Common.{inl, inr, ◌≡◌, ℕ, zero, suc, ◌+◌, ◌<◌, ◌≤◌, ◌%◌, ◌/◌, ℤ, pos, ◌+ℤ◌, ◌-ℤ◌, ◌*ℤ◌, List, [], ◌∷◌, ◌++◌, length, take, map, refl, sym, ap, subst, ◌∙◌, arith, get_or}
use Rattle.std.specs.List.{All}
use Rattle.std.proofs.lemmas.Int.{ints}
use Rattle.std.proofs.lemmas.List.{map-append, take_more}
use Rattle.std.proofs.lemmas.List.Elements.{All-contains, All-cons, All-map, All-nil, All-push}
use Rattle.cnf_core.specs.Formula.{Cnf}
use Rattle.ep_base.specs.Runs.{or_zero}
use Rattle.enc_atoms.proofs.Decoded.{length_among, number_among, number_front}
use Rattle.enc_atoms.proofs.Adding.{adds_like}
use Rattle.enc_atoms.specs.Atoms.{Adds, AreOfDomains}
use Rattle.enc_atoms.proofs.Meanings.{clause_none}
use Rattle.enc_atoms.proofs.Choosing.{number_kept, truth_at}
use Rattle.enc_atoms.specs.Steps.{HasTruths, Implied, IsReady, IsTruth, SomeTruths, Unless}
use Rattle.enc_var.specs.Decoding.{VariableLiterals}
use Rattle.enc_var.specs.Layouts.{IsLayoutOf, literals_at}
use Rattle.ep_flat.specs.Cons.{number_at}
use Rattle.enc_adder.proofs.Sums.{before_front, before_none, before_nothing, before_push, below, spelled_before}
use Rattle.enc_adder.proofs.Widening.{bits_later, constant_is, literals_later, new_bit_is, no_longer, widens_like, widens_nothing, widens_then, widens_truths, zero_bit}
use Rattle.enc_adder.specs.Bits.{AreBits, HasBit, IsBit, IsConstant, SpellsNumber, Widens, spelled}
use Rattle.enc_adder.specs.Parts.{AreStepsOf, HaveWorths, half_step, low_bit}
use Rattle.enc_adder.specs.declared.parts.Step.{Step}

pub low_bit_is_truth : (n : ℕ) → IsTruth (low_bit n)
unfolding low_bit
low_bit_is_truth n = by (n % 2) (omega arith)
  where
    by : (m : ℕ) → m < 2 → IsTruth (pos m)
    by zero low = inl refl
    by (suc zero) low = inr refl
    by (suc (suc m)) low = absurd (omega (arith, low))

low_and_half : (n : ℕ) → (low_bit n +ℤ (pos 2 *ℤ pos (n / 2))) ≡ pos n
unfolding low_bit
low_and_half n = omega (arith, ints)

-- what holds of the number of each step holds of the number that the variable has
pub for_number : (L : List VariableLiterals) (values : List ℤ) (var : ℕ) (steps : List Step) (F : ℤ → Type 0) → AreOfDomains L values → var < length L → AreStepsOf L var steps → All (λ step. F step.value) steps → F (number_at values var)
for_number L values var steps F among low are all =
    All-contains F (literals_at L var).domain (number_at values var) (subst (All F) are (All-map F (λ (step : Step). step.value) steps all)) (number_among L values var among low)

steps_later : (L L1 : List VariableLiterals) (var : ℕ) (steps : List Step) → take (length L) L1 ≡ L → var < length L → AreStepsOf L var steps → AreStepsOf L1 var steps
steps_later L L1 var steps front low are = are ∙ ap (λ (e : VariableLiterals). e.domain) (sym (literals_later L L1 var front low))

-- the lowest bit is 0 always
pub even_bit : (L : List VariableLiterals) (f : Cnf) (none var : ℕ) (steps : List Step) (worth : ℤ → ℕ) → IsReady L f → IsConstant L none (pos 0) → var < length L → AreStepsOf L var steps
    → All (λ step. low_bit step.worth ≡ pos 0) steps → HaveWorths worth steps → HasBit L f L f (λ values x. number_at values x ≡ low_bit (worth (number_at values var))) none
even_bit L f none var steps worth ready is low are even worths = record {
  bit = zero_bit L none is;
  widens = widens_nothing L f (λ values. number_at values none ≡ low_bit (worth (number_at values var))) ready
      (λ values among. constant_is L values none (pos 0) among is
      ∙ for_number L values var steps (λ v. pos 0 ≡ low_bit (worth v)) among low are (λ k d within. sym (even k d within) ∙ ap low_bit (worths k d within)));
}

-- the lowest bit is the number itself
pub own_bit : (L : List VariableLiterals) (f : Cnf) (var : ℕ) (steps : List Step) (worth : ℤ → ℕ) → IsReady L f → var < length L → AreStepsOf L var steps
    → All (λ step. low_bit step.worth ≡ step.value) steps → HaveWorths worth steps → HasBit L f L f (λ values x. number_at values x ≡ low_bit (worth (number_at values var))) var
own_bit L f var steps worth ready low are own worths = record {
  bit = record {
    there = low;
    truth = λ v found. All-contains IsTruth (literals_at L var).domain v (subst (All IsTruth) are (All-map IsTruth (λ (step : Step). step.value) steps (λ k d within. subst IsTruth (own k d within) (low_bit_is_truth (get_or steps k d).worth)))) found;
  };
  widens = widens_nothing L f (λ values. number_at values var ≡ low_bit (worth (number_at values var))) ready
      (λ values among. for_number L values var steps (λ v. v ≡ low_bit (worth v)) among low are (λ k d within. sym (own k d within) ∙ ap low_bit (worths k d within)));
}

-- what is said of a bit for the number of each step
abbrev pub BitsAre : ℕ → ℕ → List Step → List ℤ → Type 0
BitsAre var bit steps values = All (λ step. number_at values var ≡ step.value → number_at values bit ≡ low_bit step.worth) steps

-- the lowest bit is a new one
pub made_bit : (L : List VariableLiterals) (f : Cnf) (L1 : List VariableLiterals) (f1 g : Cnf) (var bit : ℕ) (steps : List Step) (worth : ℤ → ℕ) → IsReady L f → var < length L → AreStepsOf L var steps
    → HasTruths L f L1 f1 1 → bit ≡ length L → Adds L1 f1 L1 g (BitsAre var bit steps) → HaveWorths worth steps → HasBit L f L1 g (λ values x. number_at values x ≡ low_bit (worth (number_at values var))) bit
made_bit L f L1 f1 g var bit steps worth ready low are new is_new adds worths = record {
  bit = new_bit_is L f L1 f1 1 0 bit new (omega arith) (is_new ∙ omega arith);
  widens = widens_like L f L1 g (BitsAre var bit steps) (λ values. number_at values bit ≡ low_bit (worth (number_at values var)))
      (widens_truths L f L1 f1 g 1 (BitsAre var bit steps) ready.is_layout new adds some)
      (λ values among bits.
      for_number L1 values var steps (λ v. number_at values var ≡ v → number_at values bit ≡ low_bit (worth v)) among there (steps_later L L1 var steps new.goes_on.earlier low are)
      (λ k d within at. bits k d within at ∙ ap low_bit (worths k d within)) refl);
}
  where
    there : var < length L1
    there = let h = no_longer L L1 new.goes_on.earlier in omega (arith, h, low)

    some : (values : List ℤ) → AreOfDomains L values → SomeTruths 1 (λ truths. BitsAre var bit steps (values ++ truths))
    some values among =
        let long = length_among L values among in
        let b : ℤ = low_bit (worth (number_at values var)) in
        record {
          truths = b ∷ [];
          many = refl;
          each = All-cons IsTruth b [] (low_bit_is_truth (worth (number_at values var))) (All-nil IsTruth);
          holds_there = λ k d within at.
              ap (number_at (values ++ b ∷ [])) (is_new ∙ omega arith) ∙ truth_at values (b ∷ []) (length L) 0 long
              ∙ ap (λ v. low_bit (worth v)) (sym (number_kept values (b ∷ []) var (omega (arith, long, low))) ∙ at)
              ∙ ap low_bit (sym (worths k d within));
        }

-- Some of the lowest bits are there, and the steps have what is left of their worths.
pub record Halving (L : List VariableLiterals) (f : Cnf) (L1 : List VariableLiterals) (g : Cnf) (var : ℕ) (whole : ℤ → ℤ) (bits : List ℕ) (steps : List Step) : Type 0 where
  pub left : ℤ → ℕ
  pub worths : HaveWorths left steps
  pub are_steps : AreStepsOf L1 var steps
  pub are_bits : AreBits L1 bits
  pub widens : Widens L f L1 g (λ values. spelled_before values bits (pos (left (number_at values var))) ≡ whole (number_at values var))

natural : (n : ℤ) (m : ℕ) → pos m ≡ n → m ≡ or_zero n
natural n m is = ap or_zero is

pub no_bit_yet : (L : List VariableLiterals) (f : Cnf) (var : ℕ) (whole : ℤ → ℤ) (bits : List ℕ) (steps : List Step) → IsReady L f → var < length L → AreStepsOf L var steps → All (λ step. pos step.worth ≡ whole step.value) steps → bits ≡ []
    → Halving L f L f var whole bits steps
no_bit_yet L f var whole bits steps ready low are worth empty = record {
  left = λ v. or_zero (whole v);
  worths = λ k d within. natural (whole (get_or steps k d).value) (get_or steps k d).worth (worth k d within);
  are_steps = are;
  are_bits = subst (AreBits L) (sym empty) (All-nil (IsBit L));
  widens = widens_nothing L f (λ values. spelled_before values bits (pos (or_zero (whole (number_at values var)))) ≡ whole (number_at values var)) ready
      (λ values among.
      ap (λ xs. spelled_before values xs (pos (or_zero (whole (number_at values var))))) empty ∙ before_none values (pos (or_zero (whole (number_at values var))))
      ∙ for_number L values var steps (λ v. pos (or_zero (whole v)) ≡ whole v) among low are
      (λ k d within. ap pos (sym (natural (whole (get_or steps k d).value) (get_or steps k d).worth (worth k d within))) ∙ worth k d within));
}

half_values : (steps : List Step) → map (λ (step : Step). step.value) (map half_step steps) ≡ map (λ (step : Step). step.value) steps
unfolding half_step
half_values [] = refl
half_values (s ∷ steps) = ap (λ vs. s.value ∷ vs) (half_values steps)

half_worths : (left : ℤ → ℕ) (steps : List Step) → HaveWorths left steps → HaveWorths (λ v. left v / 2) (map half_step steps)
unfolding half_step
half_worths left steps worths = All-map (λ (s : Step). s.worth ≡ left s.value / 2) half_step steps (λ k d within. ap (λ n. n / 2) (worths k d within))

pub one_bit_more : (L : List VariableLiterals) (f : Cnf) (L1 : List VariableLiterals) (g : Cnf) (L2 : List VariableLiterals) (h : Cnf) (var : ℕ) (whole : ℤ → ℤ) (bits more : List ℕ) (steps halves : List Step) (bit : ℕ) → var < length L
    → (so_far : Halving L f L1 g var whole bits steps) → HasBit L1 g L2 h (λ values x. number_at values x ≡ low_bit (so_far.left (number_at values var))) bit → more ≡ bits ++ bit ∷ [] → halves ≡ map half_step steps
    → Halving L f L2 h var whole more halves
one_bit_more L f L1 g L2 h var whole bits more steps halves bit low so_far made pushed are_halves = record {
  left = λ v. so_far.left v / 2;
  worths = subst (HaveWorths (λ v. so_far.left v / 2)) (sym are_halves) (half_worths so_far.left steps so_far.worths);
  are_steps = ap (map (λ (step : Step). step.value)) are_halves ∙ half_values steps ∙ steps_later L1 L2 var steps made.widens.goes_on.earlier there so_far.are_steps;
  are_bits = subst (AreBits L2) (sym pushed) (All-push (IsBit L2) bits bit (bits_later L1 L2 bits made.widens.goes_on.earlier so_far.are_bits) made.bit);
  widens = widens_then L f L1 g L2 h (λ values. spelled_before values bits (pos (so_far.left (number_at values var))) ≡ whole (number_at values var)) (λ values. number_at values bit ≡ low_bit (so_far.left (number_at values var)))
      (λ values. spelled_before values more (pos (so_far.left (number_at values var) / 2)) ≡ whole (number_at values var)) so_far.widens made.widens
      (λ values among before now.
      let n : ℕ = length L1 in
      let v : ℤ = number_at values var in
      let at = number_front values n var there in
      let half = low_and_half (so_far.left v) in
      ap (λ xs. spelled_before values xs (pos (so_far.left v / 2))) pushed ∙ before_push values bits bit (pos (so_far.left v / 2))
      ∙ ap (spelled_before values bits) (ap (λ b. b +ℤ (pos 2 *ℤ pos (so_far.left v / 2))) now ∙ half)
      ∙ sym (before_front values n bits (pos (so_far.left v)) (below L1 n bits (omega arith) so_far.are_bits))
      ∙ ap (λ w. spelled_before (take n values) bits (pos (so_far.left w))) (sym at)
      ∙ before ∙ ap whole at);
}
  where
    there : var < length L1
    there = let h = no_longer L L1 so_far.widens.goes_on.earlier in omega (arith, h, low)

pub all_bits : (L : List VariableLiterals) (f : Cnf) (L1 : List VariableLiterals) (g : Cnf) (var : ℕ) (whole : ℤ → ℤ) (bits : List ℕ) (steps : List Step) → var < length L → Halving L f L1 g var whole bits steps → All (λ step. step.worth ≡ 0) steps
    → SpellsNumber L f L1 g (λ values. whole (number_at values var)) bits
all_bits L f L1 g var whole bits steps low so_far none = record {
  are_bits = so_far.are_bits;
  widens = widens_like L f L1 g (λ values. spelled_before values bits (pos (so_far.left (number_at values var))) ≡ whole (number_at values var)) (λ values. spelled values bits ≡ whole (number_at values var)) so_far.widens
      (λ values among before.
      let nothing = for_number L1 values var steps (λ v. so_far.left v ≡ 0) among (there) so_far.are_steps (λ k d within. sym (so_far.worths k d within) ∙ none k d within) in
      sym (before_nothing values bits) ∙ ap (λ m. spelled_before values bits (pos m)) (sym nothing) ∙ before);
}
  where
    there : var < length L1
    there = let h = no_longer L L1 so_far.widens.goes_on.earlier in omega (arith, h, low)

-- the steps of some numbers of a list
pub record StepsSoFar (xs : List ℤ) (i : ℕ) (s l : ℤ) (steps : List Step) : Type 0 where
  pub values : map (λ (step : Step). step.value) steps ≡ take i xs
  pub worths : All (λ step. pos step.worth ≡ s *ℤ (step.value -ℤ l)) steps

pub no_step : (xs : List ℤ) (s l : ℤ) (steps : List Step) → steps ≡ [] → StepsSoFar xs 0 s l steps
no_step xs s l steps empty = record {
  values = ap (map (λ (step : Step). step.value)) empty;
  worths = subst (All (λ step. pos step.worth ≡ s *ℤ (step.value -ℤ l))) (sym empty) (All-nil (λ step. pos step.worth ≡ s *ℤ (step.value -ℤ l)));
}

pub one_step_more : (xs : List ℤ) (i : ℕ) (d : ℤ) (s l : ℤ) (old more : List Step) (step : Step) (v size least : ℤ) → i < length xs → StepsSoFar xs i s l old → more ≡ old ++ step ∷ [] → step.value ≡ v → pos step.worth ≡ size *ℤ (v -ℤ least)
    → v ≡ get_or xs i d → size ≡ s → least ≡ l → StepsSoFar xs (i + 1) s l more
one_step_more xs i d s l old more step v size least within so_far pushed value worth is_v is_size is_least = record {
  values = ap (map (λ (t : Step). t.value)) pushed ∙ map-append (λ (t : Step). t.value) old (step ∷ []) ∙ ap (λ vs. vs ++ step.value ∷ []) so_far.values
      ∙ ap (λ w. take i xs ++ w ∷ []) (value ∙ is_v) ∙ sym (take_more xs i d within);
  worths = subst (All (λ t. pos t.worth ≡ s *ℤ (t.value -ℤ l))) (sym pushed)
      (All-push (λ t. pos t.worth ≡ s *ℤ (t.value -ℤ l)) old step so_far.worths
      (worth ∙ ap (λ m. m *ℤ (v -ℤ least)) is_size ∙ ap (λ m. s *ℤ (v -ℤ m)) is_least ∙ ap (λ m. s *ℤ (m -ℤ l)) (sym value)));
}

-- worths in other words
pub worths_as : (steps : List Step) (s l size least : ℤ) → All (λ step. pos step.worth ≡ s *ℤ (step.value -ℤ l)) steps → s ≡ size → l ≡ least → All (λ step. pos step.worth ≡ size *ℤ (step.value -ℤ least)) steps
worths_as steps s l size least worths is_size is_least = λ k d within. worths k d within ∙ ap (λ m. m *ℤ ((get_or steps k d).value -ℤ l)) is_size ∙ ap (λ m. size *ℤ ((get_or steps k d).value -ℤ m)) is_least

pub begun : (L : List VariableLiterals) (f : Cnf) (var : ℕ) (bits : List ℕ) (steps : List Step) (size least s l : ℤ) → IsReady L f → var < length L → AreStepsOf L var steps → All (λ step. pos step.worth ≡ size *ℤ (step.value -ℤ least)) steps → bits ≡ [] → size ≡ s → least ≡ l
    → Halving L f L f var (λ v. s *ℤ (v -ℤ l)) bits steps
begun L f var bits steps size least s l ready low are worths empty is_size is_least = no_bit_yet L f var (λ v. s *ℤ (v -ℤ l)) bits steps ready low are (worths_as steps size least s l worths is_size is_least) empty

pub all_bits_as : (L : List VariableLiterals) (f : Cnf) (L1 : List VariableLiterals) (g : Cnf) (var : ℕ) (bits : List ℕ) (steps now : List Step) (s l size least : ℤ) → var < length L → Halving L f L1 g var (λ v. s *ℤ (v -ℤ l)) bits steps → All (λ step. step.worth ≡ 0) now → now ≡ steps → s ≡ size → l ≡ least
    → SpellsNumber L f L1 g (λ values. size *ℤ (number_at values var -ℤ least)) bits
all_bits_as L f L1 g var bits steps now s l size least low so_far none same is_size is_least =
    subst (λ m. SpellsNumber L f L1 g (λ values. size *ℤ (number_at values var -ℤ m)) bits) is_least
    (subst (λ m. SpellsNumber L f L1 g (λ values. m *ℤ (number_at values var -ℤ l)) bits) is_size
    (all_bits L f L1 g var (λ v. s *ℤ (v -ℤ l)) bits steps low so_far (subst (All (λ (step : Step). step.worth ≡ 0)) same none)))

-- steps with half their worths, one after another
pub half_pushed : (steps : List Step) (i : ℕ) (d : Step) (old more : List Step) (half : Step) → i < length steps → old ≡ map half_step (take i steps) → more ≡ old ++ half ∷ [] → half ≡ half_step (get_or steps i d) → more ≡ map half_step (take (i + 1) steps)
half_pushed steps i d old more half within so_far pushed is =
    pushed ∙ ap (λ hs. hs ++ half ∷ []) so_far ∙ ap (λ h. map half_step (take i steps) ++ h ∷ []) is
    ∙ sym (map-append half_step (take i steps) (get_or steps i d ∷ [])) ∙ ap (map half_step) (sym (take_more steps i d within))

-- what a clause says of the bit, for one step
pub low_bit_says : (L : List VariableLiterals) (f g : Cnf) (x : ℕ) (v : ℤ) (y : ℕ) (w v0 w0 : ℤ) → IsLayoutOf L f → Adds L f L g (Unless [] (Implied x v y w)) → v ≡ v0 → w ≡ w0 → Adds L f L g (λ values. number_at values x ≡ v0 → number_at values y ≡ w0)
low_bit_says L f g x v y w v0 w0 is_layout adds is_v is_w =
    adds_like L f L g (Unless [] (Implied x v y w)) (λ values. number_at values x ≡ v0 → number_at values y ≡ w0) is_layout adds
    (λ values among. (λ h at. h (clause_none values) (at ∙ sym is_v) ∙ is_w, λ h off at. h (at ∙ is_v) ∙ sym is_w))

-- what some steps are worth together
unfoldable pub worth_left : List Step → ℕ
worth_left [] = 0
worth_left (s ∷ steps) = s.worth + worth_left steps

halves_no_more : (steps : List Step) → worth_left (map half_step steps) ≤ worth_left steps
unfolding half_step worth_left
halves_no_more [] = omega arith
halves_no_more (s ∷ steps) = let rest = halves_no_more steps in omega (arith, rest)

halves_fewer : (steps : List Step) → (All (λ step. step.worth ≡ 0) steps → ⊥) → worth_left (map half_step steps) < worth_left steps
unfolding half_step worth_left
halves_fewer [] some = absurd (some (All-nil (λ step. step.worth ≡ 0)))
halves_fewer (s ∷ steps) some = by s.worth refl (λ fewer. halves_fewer steps fewer)
  where
    by : (n : ℕ) → s.worth ≡ n → ((All (λ (step : Step). step.worth ≡ 0) steps → ⊥) → worth_left (map half_step steps) < worth_left steps) → (s.worth / 2) + worth_left (map half_step steps) < s.worth + worth_left steps
    by zero is fewer = let rest = fewer (λ all. some (All-cons (λ step. step.worth ≡ 0) s steps is all)) in omega (arith, rest, is)
    by (suc n) is fewer = let rest = halves_no_more steps in omega (arith, rest, is)

-- where some step is worth something, their halves are worth less together
pub worth_falls : (steps now halves : List Step) → now ≡ steps → halves ≡ map half_step steps → (All (λ step. step.worth ≡ 0) now → ⊥) → worth_left halves < worth_left steps
worth_falls steps now halves same are_halves some =
    subst (λ hs. worth_left hs < worth_left steps) (sym are_halves)
    (halves_fewer steps (subst (λ ss. All (λ (step : Step). step.worth ≡ 0) ss → ⊥) same some))
