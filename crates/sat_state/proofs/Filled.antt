-- The list of a literal, as watches come in and go out.
use Rattle.std.proofs.Common.{◌≡◌, ◌≢◌, ℕ, ◌+◌, ◌-◌, ◌<◌, ◌≤◌, Bool, true, false, cond, eqb, ltb, List, [], ◌∷◌, ◌++◌, length, get_or, refl, sym, ap, ◌∙◌, ⊎_elim, arith}
use Rattle.std.proofs.lemmas.Bool.{cases_eq, ne_eqb}
use Rattle.std.proofs.lemmas.Bool.Decides.{nat_tests}
use Rattle.std.proofs.lemmas.List.{get_or_push, get_or_append_left, length_push}
use Rattle.std.specs.List.{SwappedAt}
use Rattle.sat_state.specs.Watched.{Watched}
use Rattle.sat_state.specs.Listed.{Listed, IsWithout}

-- the place at which another stands that was at a place, where one moved from its own to another's
abbrev pub moved : (now was k : ℕ) → ℕ
moved now was k = cond (eqb k now) was k

here : (now was k : ℕ) → k ≡ now → moved now was k ≡ was
here now was k is = grind (arith, nat_tests)

elsewhere : (now was k : ℕ) → k ≢ now → moved now was k ≡ k
elsewhere now was k ne = ap (λ (b : Bool). cond b was k) (ne_eqb k now ne)

-- a far one goes out, and the last takes its place
pub without_far : (old new : Listed) (place : ℕ) → old.nears ≤ place → place < length old.watches → length new.watches + 1 ≡ length old.watches → new.nears ≡ old.nears
    → ((d : Watched) → place + 1 < length old.watches → get_or new.watches place d ≡ get_or old.watches (length old.watches - 1) d)
    → ((k : ℕ) (d : Watched) → k ≢ place → k + 1 < length old.watches → get_or new.watches k d ≡ get_or old.watches k d) → IsWithout old new place true
without_far old new place far there size nears filled stays =
    let last = length old.watches - 1 in
    record {
      from = moved place last;
      to = moved last place;
      there = there;
      size = sym size;
      nears = omega (arith, nears);
      within = λ k lt. ⊎_elim
          (λ (is : k ≡ place). omega (arith, here place last k is, there))
          (λ (ne : k ≢ place). omega (arith, elsewhere place last k ne, lt, size))
          (cases_eq k place);
      other = λ k lt e. ⊎_elim
          (λ (is : k ≡ place). absurd (omega (arith, here place last k is, e, is, lt, size)))
          (λ (ne : k ≢ place). absurd (ne (sym (elsewhere place last k ne) ∙ e)))
          (cases_eq k place);
      side = λ k lt. ⊎_elim
          (λ (is : k ≡ place). grind (arith, nat_tests, here place last k is, is, far, there, nears))
          (λ (ne : k ≢ place). grind (arith, nat_tests, elsewhere place last k ne, nears))
          (cases_eq k place);
      same = λ k d lt. ⊎_elim
          (λ (is : k ≡ place).
          ap (λ (n : ℕ). get_or new.watches n d) is ∙ filled d (omega (arith, lt, is, size)) ∙ ap (λ (n : ℕ). get_or old.watches n d) (sym (here place last k is)))
          (λ (ne : k ≢ place). stays k d ne (omega (arith, lt, size)) ∙ ap (λ (n : ℕ). get_or old.watches n d) (sym (elsewhere place last k ne)))
          (cases_eq k place);
      back = λ k lt ne. ⊎_elim
          (λ (is : k ≡ last).
          (omega (arith, here last place k is, is, ne, there, size), here place last (moved last place k) (here last place k is) ∙ sym is))
          (λ (nl : k ≢ last). (
            omega (arith, elsewhere last place k nl, lt, nl, size),
            elsewhere place last (moved last place k) (λ e. ne (sym (elsewhere last place k nl) ∙ e)) ∙ elsewhere last place k nl,
          ))
          (cases_eq k last);
      again = λ k lt. ⊎_elim
          (λ (is : k ≡ place). here last place (moved place last k) (here place last k is) ∙ sym is)
          (λ (ne : k ≢ place).
          elsewhere last place (moved place last k) (λ e. absurd (omega (arith, e, elsewhere place last k ne, lt, size))) ∙ elsewhere place last k ne)
          (cases_eq k place);
    }

-- a far one comes in, as the last
pub with_far : (old new : Listed) (w : Watched) → new.watches ≡ old.watches ++ w ∷ [] → new.nears ≡ old.nears → IsWithout new old (length old.watches) true
with_far old new w is nears =
    let size : length new.watches ≡ length old.watches + 1 = ap length is ∙ length_push old.watches w in
    record {
      from = λ k. k;
      to = λ k. k;
      there = omega (arith, size);
      size = size;
      nears = omega (arith, nears);
      within = λ k lt. omega (arith, lt, size);
      other = λ k lt e. absurd (omega (arith, lt, e));
      side = λ k lt. ap (ltb k) nears;
      same = λ k d lt. sym (ap (λ (ws : List Watched). get_or ws k d) is ∙ get_or_append_left old.watches (w ∷ []) d k lt);
      back = λ k lt ne. (omega (arith, lt, size, ne), refl);
      again = λ k lt. refl;
    }

-- a near one comes in: the first far one goes to the end
pub with_near : (old new : Listed) (w : Watched) → old.nears ≤ length old.watches → length new.watches ≡ length old.watches + 1 → new.nears ≡ old.nears + 1
    → SwappedAt (old.watches ++ w ∷ []) new.watches old.nears (length old.watches) → IsWithout new old old.nears false
with_near old new w in_it size nears swapped =
    let n = old.nears in
    let last = length old.watches in
    record {
      from = moved n last;
      to = moved last n;
      there = omega (arith, size, in_it);
      size = size;
      nears = nears;
      within = λ k lt. ⊎_elim
          (λ (is : k ≡ n). omega (arith, here n last k is, size))
          (λ (ne : k ≢ n). omega (arith, elsewhere n last k ne, lt, size))
          (cases_eq k n);
      other = λ k lt e. ⊎_elim
          (λ (is : k ≡ n). absurd (omega (arith, here n last k is, e, is, lt)))
          (λ (ne : k ≢ n). absurd (ne (sym (elsewhere n last k ne) ∙ e)))
          (cases_eq k n);
      side = λ k lt. ⊎_elim
          (λ (is : k ≡ n). grind (arith, nat_tests, here n last k is, is, lt, nears))
          (λ (ne : k ≢ n). grind (arith, nat_tests, elsewhere n last k ne, ne, nears))
          (cases_eq k n);
      same = λ k d lt. ⊎_elim
          (λ (is : k ≡ n).
          ap (λ (m : ℕ). get_or old.watches m d) is ∙ sym (get_or_append_left old.watches (w ∷ []) d n (omega (arith, is, lt))) ∙ sym (swapped.1 d)
          ∙ ap (λ (m : ℕ). get_or new.watches m d) (sym (here n last k is)))
          (λ (ne : k ≢ n).
          sym (get_or_append_left old.watches (w ∷ []) d k lt) ∙ sym (swapped.2 k d ne (λ e. absurd (omega (arith, e, lt))))
          ∙ ap (λ (m : ℕ). get_or new.watches m d) (sym (elsewhere n last k ne)))
          (cases_eq k n);
      back = λ k lt ne. ⊎_elim
          (λ (is : k ≡ last). (omega (arith, here last n k is, is, ne, in_it), here n last (moved last n k) (here last n k is) ∙ sym is))
          (λ (nl : k ≢ last).
          (omega (arith, elsewhere last n k nl, lt, nl, size), elsewhere n last (moved last n k) (λ e. ne (sym (elsewhere last n k nl) ∙ e)) ∙ elsewhere last n k nl))
          (cases_eq k last);
      again = λ k lt. ⊎_elim
          (λ (is : k ≡ n). here last n (moved n last k) (here n last k is) ∙ sym is)
          (λ (ne : k ≢ n). elsewhere last n (moved n last k) (λ e. absurd (omega (arith, e, elsewhere n last k ne, lt))) ∙ elsewhere n last k ne)
          (cases_eq k n);
    }

pub near_there : (old new : Listed) (w : Watched) → SwappedAt (old.watches ++ w ∷ []) new.watches old.nears (length old.watches) → (d : Watched) → get_or new.watches old.nears d ≡ w
near_there old new w swapped d = swapped.0 d ∙ get_or_push old.watches w d (length old.watches) refl

-- a near one goes out: the last near one takes its place, and the last far one that one's
pub without_near : (old new : Listed) (mid : List Watched) (place : ℕ) → old.nears ≤ length old.watches → place < old.nears → length mid ≡ length old.watches → length new.watches + 1 ≡ length mid → new.nears ≡ old.nears - 1
    → SwappedAt old.watches mid place (old.nears - 1)
    → ((d : Watched) → old.nears - 1 + 1 < length mid → get_or new.watches (old.nears - 1) d ≡ get_or mid (length mid - 1) d)
    → ((k : ℕ) (d : Watched) → k ≢ old.nears - 1 → k + 1 < length mid → get_or new.watches k d ≡ get_or mid k d) → IsWithout old new place false
without_near old new mid place in_it near kept size nears swapped filled stays =
    let last = old.nears - 1 in
    let end = length old.watches - 1 in
    let at_last : (k : ℕ) → k ≡ last → cond (eqb k last) end (moved place last k) ≡ end = λ k is. grind (arith, nat_tests) in
    let at_place : (k : ℕ) → k ≢ last → k ≡ place → cond (eqb k last) end (moved place last k) ≡ last
    = λ k nl is. ap (λ (b : Bool). cond b end (moved place last k)) (ne_eqb k last nl) ∙ here place last k is in
    let at_other : (k : ℕ) → k ≢ last → k ≢ place → cond (eqb k last) end (moved place last k) ≡ k
    = λ k nl np. ap (λ (b : Bool). cond b end (moved place last k)) (ne_eqb k last nl) ∙ elsewhere place last k np in
    let of_last : (k : ℕ) → k ≡ last → cond (eqb k last) place (moved end last k) ≡ place = λ k is. grind (arith, nat_tests) in
    let of_end : (k : ℕ) → k ≢ last → k ≡ end → cond (eqb k last) place (moved end last k) ≡ last
    = λ k nl is. ap (λ (b : Bool). cond b place (moved end last k)) (ne_eqb k last nl) ∙ here end last k is in
    let of_other : (k : ℕ) → k ≢ last → k ≢ end → cond (eqb k last) place (moved end last k) ≡ k
    = λ k nl ne. ap (λ (b : Bool). cond b place (moved end last k)) (ne_eqb k last nl) ∙ elsewhere end last k ne in
    record {
      from = λ k. cond (eqb k last) end (moved place last k);
      to = λ k. cond (eqb k last) place (moved end last k);
      there = omega (arith, near, in_it);
      size = omega (arith, size, kept);
      nears = omega (arith, nears, near);
      within = λ k lt. ⊎_elim
          (λ (is : k ≡ last). omega (arith, at_last k is, near, in_it))
          (λ (nl : k ≢ last). ⊎_elim
          (λ (is : k ≡ place). omega (arith, at_place k nl is, near, in_it))
          (λ (np : k ≢ place). omega (arith, at_other k nl np, lt, size, kept))
          (cases_eq k place))
          (cases_eq k last);
      other = λ k lt e. ⊎_elim
          (λ (is : k ≡ last). absurd (omega (arith, at_last k is, e, is, lt, size, kept, near)))
          (λ (nl : k ≢ last). ⊎_elim
          (λ (is : k ≡ place). absurd (nl (is ∙ sym e ∙ at_place k nl is)))
          (λ (np : k ≢ place). absurd (np (sym (at_other k nl np) ∙ e)))
          (cases_eq k place))
          (cases_eq k last);
      side = λ k lt. ⊎_elim
          (λ (is : k ≡ last). grind (arith, nat_tests, at_last k is, is, lt, size, kept, near, nears))
          (λ (nl : k ≢ last). ⊎_elim
          (λ (is : k ≡ place). grind (arith, nat_tests, at_place k nl is, is, nl, near, nears))
          (λ (np : k ≢ place). grind (arith, nat_tests, at_other k nl np, nl, near, nears))
          (cases_eq k place))
          (cases_eq k last);
      same = λ k d lt. ⊎_elim
          (λ (is : k ≡ last).
          ap (λ (n : ℕ). get_or new.watches n d) is ∙ filled d (omega (arith, is, lt, size)) ∙ ap (λ (n : ℕ). get_or mid n d) (ap (λ (n : ℕ). n - 1) kept)
          ∙ swapped.2 end d (λ e. absurd (omega (arith, e, is, lt, size, kept, near))) (λ e. absurd (omega (arith, e, is, lt, size, kept, near)))
          ∙ ap (λ (n : ℕ). get_or old.watches n d) (sym (at_last k is)))
          (λ (nl : k ≢ last). ⊎_elim
          (λ (is : k ≡ place).
          stays k d nl (omega (arith, lt, size)) ∙ ap (λ (n : ℕ). get_or mid n d) is ∙ swapped.0 d ∙ ap (λ (n : ℕ). get_or old.watches n d) (sym (at_place k nl is)))
          (λ (np : k ≢ place).
          stays k d nl (omega (arith, lt, size)) ∙ swapped.2 k d np nl ∙ ap (λ (n : ℕ). get_or old.watches n d) (sym (at_other k nl np)))
          (cases_eq k place))
          (cases_eq k last);
      back = λ k lt ne. ⊎_elim
          (λ (is : k ≡ last).
          let p = of_last k is in (
            omega (arith, p, near, in_it, size, kept, ne, is),
            at_place (cond (eqb k last) place (moved end last k)) (λ e. ne (is ∙ sym e ∙ p)) p ∙ sym is,
          ))
          (λ (nl : k ≢ last). ⊎_elim
          (λ (is : k ≡ end).
          let p = of_end k nl is in
          (omega (arith, p, near, in_it, size, kept, is, nl), at_last (cond (eqb k last) place (moved end last k)) p ∙ sym is))
          (λ (nd : k ≢ end).
          let p = of_other k nl nd in
          (omega (arith, p, lt, nd, size, kept), at_other (cond (eqb k last) place (moved end last k)) (λ e. nl (sym p ∙ e)) (λ e. ne (sym p ∙ e)) ∙ p))
          (cases_eq k end))
          (cases_eq k last);
      again = λ k lt. ⊎_elim
          (λ (is : k ≡ last).
          let p = at_last k is in
          of_end (cond (eqb k last) end (moved place last k)) (λ e. absurd (omega (arith, e, p, is, lt, size, kept))) p ∙ sym is)
          (λ (nl : k ≢ last). ⊎_elim
          (λ (is : k ≡ place).
          let p = at_place k nl is in
          of_last (cond (eqb k last) end (moved place last k)) p ∙ sym is)
          (λ (np : k ≢ place).
          let p = at_other k nl np in
          of_other (cond (eqb k last) end (moved place last k)) (λ e. nl (sym p ∙ e)) (λ e. absurd (omega (arith, e, p, lt, size, kept))) ∙ p)
          (cases_eq k place))
          (cases_eq k last);
    }

pub before_near : (old new : Listed) (mid : List Watched) (place : ℕ) → old.nears ≤ length old.watches → place < old.nears → length mid ≡ length old.watches
    → SwappedAt old.watches mid place (old.nears - 1) → ((k : ℕ) (d : Watched) → k ≢ old.nears - 1 → k + 1 < length mid → get_or new.watches k d ≡ get_or mid k d)
    → (k : ℕ) (d : Watched) → k < place → get_or new.watches k d ≡ get_or old.watches k d
before_near old new mid place in_it near kept swapped stays k d lt =
    stays k d (λ e. absurd (omega (arith, e, lt, near))) (omega (arith, lt, near, in_it, kept)) ∙ swapped.2 k d (λ e. absurd (omega (arith, e, lt))) (λ e. absurd (omega (arith, e, lt, near)))
