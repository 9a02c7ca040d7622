-- Lists and chains stop at a token for what stands before it and for that token alone.
use Rattle.std.specs.Prelude.{◌≡◌, ℕ, zero, suc, ◌≤◌, ◌<◌, ◌⊎◌, true, List, [], ◌∷◌, ◌++◌, length, Option, Some, None, refl}
use Rattle.std.proofs.Common.{ap, arith, inl, inr, sym, subst, ◌∙◌, length-append}
use Rattle.ep_tree.specs.Phrases.{Lexeme}
use Rattle.ep_parse_parts.specs.Readers.{Read, Reader, going_on, grown, grown_from, growing, high, more_from, others_from, took, wrong, ◌and_then◌}
use Rattle.ep_parse_expr.proofs.Steady.{Cut, Cuts, Decides, Look, Steady, at_end, before_cut, behind_cut, behind_too, decided_within, gone, head, inside, left_by, look, neither, steady_then, took_steady, too_high, wider}

pub grouped : {A B D : Type 0} (r : Read A) (f : A → Reader B) (g : B → Reader D) → ((r and_then f) and_then g) ≡ (r and_then λ x ls. f x ls and_then g)
grouped (took x ls) f g = refl
grouped (wrong ls) f g = refl
grouped (high ls) f g = refl

no_more : {A : Type 0} (goes_on : A → List Lexeme → Option (List Lexeme)) (it : A → Reader A) (n : ℕ) (last : A) (ls : List Lexeme) → goes_on last ls ≡ None → more_from goes_on it n last ls ≡ took [] ls
unfolding more_from
no_more goes_on it zero last ls e = refl
no_more goes_on it (suc n) last ls e = ap (λ o. going_on o ls (λ next. it last next and_then λ x rest. more_from goes_on it n x rest and_then λ xs end. took (x ∷ xs) end)) e

module _ (c : Cut) where
  -- where the first list has become shorter, the second has as much, or the first is behind the cut
  pub room : (m : ℕ) (ls ls2 r r2 : List Lexeme) → Cuts c ls ls2 → Cuts c r r2 → length r ≤ length ls → length ls2 ≤ m → (length r2 ≤ m) ⊎ (length r < length c.one)
  room m ls ls2 r r2 s (behind_cut p) le few = inr p
  room m ls ls2 r r2 (behind_cut q) (before_cut front e e2) le few = inr (omega (arith, q, le))
  room m ls ls2 r r2 (before_cut front k k2) (before_cut back e e2) le few =
      let a : length ls ≡ length (front ++ c.one) = ap length k in
      let a2 : length ls2 ≡ length (front ++ c.two) = ap length k2 in
      let b : length r ≡ length (back ++ c.one) = ap length e in
      let b2 : length r2 ≡ length (back ++ c.two) = ap length e2 in
      inl (omega (arith, le, few, a, a2, b, b2, length-append front c.one, length-append front c.two, length-append back c.one, length-append back c.two))

  -- the same, by one less
  pub less_room : (m : ℕ) (ls ls2 r r2 : List Lexeme) → Cuts c ls ls2 → Cuts c r r2 → length r < length ls → length ls2 ≤ suc m → (length r2 ≤ m) ⊎ (length r < length c.one)
  less_room m ls ls2 r r2 s (behind_cut p) le few = inr p
  less_room m ls ls2 r r2 (behind_cut q) (before_cut front e e2) le few = inr (omega (arith, q, le))
  less_room m ls ls2 r r2 (before_cut front k k2) (before_cut back e e2) le few =
      let a : length ls ≡ length (front ++ c.one) = ap length k in
      let a2 : length ls2 ≡ length (front ++ c.two) = ap length k2 in
      let b : length r ≡ length (back ++ c.one) = ap length e in
      let b2 : length r2 ≡ length (back ++ c.two) = ap length e2 in
      inl (omega (arith, le, few, a, a2, b, b2, length-append front c.one, length-append front c.two, length-append back c.one, length-append back c.two))

  pub gone_steady : {A : Type 0} (n : ℕ) (r r2 : Read A) → length (left_by r) ≤ n → n < length c.one → Steady c n r r2
  gone_steady n r r2 le lt = record { short = le; stops = behind_too (omega (arith, le, lt)) }

  -- ---- what grows

  -- what two steps do that look at one token
  pub data StepsSo {A : Type 0} (n : ℕ) (o o2 : Option (Read A)) (all all2 : List Lexeme) : Type 0 where
    no_step : o ≡ None → o2 ≡ None → StepsSo n o o2 all all2
    a_step : (r r2 : Read A) → o ≡ Some r → o2 ≡ Some r2 → Steady c n r r2 → StepsSo n o o2 all all2
    high_step : o ≡ Some (high all) → (c.exact ≡ true → o2 ≡ Some (high all2)) → StepsSo n o o2 all all2

  module _ {A : Type 0} (step step2 : A → List Lexeme → Option (Read A)) (nothing : (x : A) → step x [] ≡ None) (nothing2 : (x : A) → step2 x [] ≡ None)
      (steps : (x : A) (l : Lexeme) (rest rest2 : List Lexeme) → Cuts c rest rest2 → StepsSo (length rest) (step x (l ∷ rest)) (step2 x (l ∷ rest2)) (l ∷ rest) (l ∷ rest2)) where
    stopped : (s : A → List Lexeme → Option (Read A)) (m : ℕ) (x : A) → s x [] ≡ None → grown_from s m x [] ≡ took x []
    unfolding grown_from
    stopped s zero x e = refl
    stopped s (suc m) x e = ap (λ o. growing o x [] (grown_from s m)) e

    empty : (ls : List Lexeme) → length ls ≤ 0 → ls ≡ []
    empty [] h = refl
    empty (l ∷ ls) h = absurd (omega (arith, h))

    at_zero : (m : ℕ) (x : A) (ls ls2 : List Lexeme) → length ls ≤ 0 → Cuts c ls ls2 → Steady c (length ls) (took x ls) (grown_from step2 m x ls2)
    at_zero m x ls ls2 few s = go (look c ls ls2 s)
      where
        go : Look c ls ls2 → Steady c (length ls) (took x ls) (grown_from step2 m x ls2)
        go (gone p) = gone_steady (length ls) (took x ls) (grown_from step2 m x ls2) (omega arith) p
        go (head l rest rest2 e e2 t) = let long : length ls ≡ suc (length rest) = ap length e in absurd (omega (arith, few, long))
        go (at_end inexact e e2) =
            subst (λ z. Steady c (length ls) (took x ls) (grown_from step2 m x z)) (sym e2)
            (subst (λ z. Steady c (length ls) (took x ls) z) (sym (stopped step2 m x (nothing2 x))) (subst (λ z. Steady c (length ls) (took x ls) (took x z)) e2 (took_steady c x ls ls2 s)))

    -- the second reader has one step at least
    one_step : (m : ℕ) (x : A) (ls2 : List Lexeme) → length ls2 ≤ m → (k : ℕ) × (grown_from step2 m x ls2 ≡ grown_from step2 (suc k) x ls2) × (length ls2 ≤ suc k)
    one_step zero x ls2 few =
        (0, subst (λ z. grown_from step2 zero x z ≡ grown_from step2 (suc zero) x z) (sym (empty ls2 few)) (stopped step2 zero x (nothing2 x) ∙ sym (stopped step2 (suc zero) x (nothing2 x))), omega (arith, few))
    one_step (suc m) x ls2 few = (m, refl, few)

    module _ (n : ℕ) (ih : (k : ℕ) (y : A) (r r2 : List Lexeme) → length r ≤ n → length r2 ≤ k → Cuts c r r2 → Steady c (length r) (grown_from step n y r) (grown_from step2 k y r2)) where
      goes_on_growing : (k : ℕ) (rest rest2 : List Lexeme) → length rest < suc n → length rest2 < suc k → Cuts c rest rest2
          → (y : A) (r r2 : List Lexeme) → length r ≤ length rest → Cuts c r r2 → Steady c (length r) (grown_from step n y r) (grown_from step2 k y r2)
      goes_on_growing k rest rest2 lt lt2 t y r r2 le u = by (room k rest rest2 r r2 t u le (omega (arith, lt2)))
        where
          by : ((length r2 ≤ k) ⊎ (length r < length c.one)) → Steady c (length r) (grown_from step n y r) (grown_from step2 k y r2)
          by (inl few_too) = ih k y r r2 (omega (arith, le, lt)) few_too u
          by (inr p) = gone_steady (length r) (grown_from step n y r) (grown_from step2 k y r2) (let st = ih k y r [] (omega (arith, le, lt)) (omega arith) (behind_cut p) in st.short) p

      turn : (k : ℕ) (x : A) (l : Lexeme) (rest rest2 : List Lexeme) → length rest < suc n → length rest2 < suc k → Cuts c rest rest2
          → StepsSo (length rest) (step x (l ∷ rest)) (step2 x (l ∷ rest2)) (l ∷ rest) (l ∷ rest2)
          → Decides c (length rest) (growing (step x (l ∷ rest)) x (l ∷ rest) (grown_from step n)) (growing (step2 x (l ∷ rest2)) x (l ∷ rest2) (grown_from step2 k)) (took x (l ∷ rest)) (took x (l ∷ rest2)) (l ∷ rest) (l ∷ rest2)
      turn k x l rest rest2 lt lt2 t (no_step e e2) = neither (ap (λ o. growing o x (l ∷ rest) (grown_from step n)) e) (ap (λ o. growing o x (l ∷ rest2) (grown_from step2 k)) e2)
      turn k x l rest rest2 lt lt2 t (a_step r r2 e e2 st) =
          inside (subst (λ o. Steady c (length rest) (growing o x (l ∷ rest) (grown_from step n)) (growing (step2 x (l ∷ rest2)) x (l ∷ rest2) (grown_from step2 k))) (sym e)
          (subst (λ o. Steady c (length rest) (r and_then grown_from step n) (growing o x (l ∷ rest2) (grown_from step2 k))) (sym e2)
          (steady_then c (length rest) r r2 (grown_from step n) (grown_from step2 k) st (goes_on_growing k rest rest2 lt lt2 t))))
      turn k x l rest rest2 lt lt2 t (high_step e h) =
          too_high (ap (λ o. growing o x (l ∷ rest) (grown_from step n)) e) (λ exact. ap (λ o. growing o x (l ∷ rest2) (grown_from step2 k)) (h exact))

      one_more : (m : ℕ) (x : A) (ls ls2 : List Lexeme) → length ls ≤ suc n → length ls2 ≤ m → Cuts c ls ls2 → Steady c (length ls) (grown_from step (suc n) x ls) (grown_from step2 m x ls2)
      unfolding grown_from
      one_more m x ls ls2 few few2 s =
          let o = one_step m x ls2 few2 in
          let k = o.0 in
          subst (λ z. Steady c (length ls) (grown_from step (suc n) x ls) z) (sym o.1)
          (decided_within c (suc n) (suc k) (omega arith) (grown_from step (suc n) x) (grown_from step2 (suc k) x) (took x) (took x) (ap (λ z. growing z x [] (grown_from step n)) (nothing x)) (ap (λ z. growing z x [] (grown_from step2 k)) (nothing2 x))
          (λ l rest rest2 lt lt2 t. turn k x l rest rest2 lt lt2 t (steps x l rest rest2 t)) ls ls2 few o.2 s (took_steady c x ls ls2 s))

    pub grown_from_steady : (n m : ℕ) (x : A) (ls ls2 : List Lexeme) → length ls ≤ n → length ls2 ≤ m → Cuts c ls ls2 → Steady c (length ls) (grown_from step n x ls) (grown_from step2 m x ls2)
    unfolding grown_from
    grown_from_steady zero m x ls ls2 few few2 s = at_zero m x ls ls2 few s
    grown_from_steady (suc n) m x ls ls2 few few2 s = one_more n (λ k y r r2 a b u. grown_from_steady n k y r r2 a b u) m x ls ls2 few few2 s

    pub grown_steady : (x : A) (ls ls2 : List Lexeme) → Cuts c ls ls2 → Steady c (length ls) (grown step x ls) (grown step2 x ls2)
    grown_steady x ls ls2 s = grown_from_steady (length ls) (length ls2) x ls ls2 (omega arith) (omega arith) s

  -- ---- lists

  -- what two lists do behind an item
  pub data Turns {A : Type 0} (goes_on : A → List Lexeme → Option (List Lexeme)) (item item2 : A → Reader A) (Ends : List Lexeme → Type 0) (last : A) (ls ls2 : List Lexeme) : Type 0 where
    both_end : goes_on last ls ≡ None → goes_on last ls2 ≡ None → Turns goes_on item item2 Ends last ls ls2
    both_go : (n : ℕ) (next next2 : List Lexeme) → goes_on last ls ≡ Some next → goes_on last ls2 ≡ Some next2 → length ls ≡ suc n → Steady c n (item last next) (item2 last next2) → Turns goes_on item item2 Ends last ls ls2
    goes_alone : (next : List Lexeme) → goes_on last ls ≡ Some next → length (left_by (item last next)) < length c.one → length (left_by (item last next)) < length ls → Turns goes_on item item2 Ends last ls ls2
    ends_alone : goes_on last ls ≡ None → Ends ls → Turns goes_on item item2 Ends last ls ls2

  module _ {A : Type 0} (B : Type 0) (goes_on : A → List Lexeme → Option (List Lexeme)) (item item2 : A → Reader A) (Ends : List Lexeme → Type 0) (nothing : (x : A) → goes_on x [] ≡ None)
      (turns : (last : A) (ls ls2 : List Lexeme) → Cuts c ls ls2 → Turns goes_on item item2 Ends last ls ls2) where
    -- what is read behind the items
    abbrev pub After : (List A → Reader B) → (List A → Reader B) → Type 0
    After k k2 = (xs : List A) (ls ls2 : List Lexeme) → Cuts c ls ls2 → Steady c (length ls) (k xs ls) (k2 xs ls2)

    abbrev pub EndsPast : (List A → Reader B) → Type 0
    EndsPast k = (xs : List A) (ls : List Lexeme) → Ends ls → length (left_by (k xs ls)) < length c.one

    -- what is to be shown of a list with so many steps
    abbrev AreSteady : ℕ → Type 0
    AreSteady n = (m : ℕ) (k k2 : List A → Reader B) → After k k2 → EndsPast k → (last : A) (ls ls2 : List Lexeme) → length ls ≤ n → length ls2 ≤ m → Cuts c ls ls2
        → Steady c (length ls) (more_from goes_on item n last ls and_then k) (more_from goes_on item2 m last ls2 and_then k2)

    module _ (k k2 : List A → Reader B) (after : After k k2) (ends : EndsPast k) (last : A) (ls ls2 : List Lexeme) (s : Cuts c ls ls2) where
      ended : (n m : ℕ) → goes_on last ls ≡ None → goes_on last ls2 ≡ None → Steady c (length ls) (more_from goes_on item n last ls and_then k) (more_from goes_on item2 m last ls2 and_then k2)
      ended n m e e2 =
          subst (λ z. Steady c (length ls) (z and_then k) (more_from goes_on item2 m last ls2 and_then k2)) (sym (no_more goes_on item n last ls e))
          (subst (λ z. Steady c (length ls) (k [] ls) (z and_then k2)) (sym (no_more goes_on item2 m last ls2 e2)) (after [] ls ls2 s))

      halted : (n m : ℕ) → goes_on last ls ≡ None → Ends ls → Steady c (length ls) (more_from goes_on item n last ls and_then k) (more_from goes_on item2 m last ls2 and_then k2)
      halted n m e here =
          let st = after [] ls ls2 s in
          subst (λ z. Steady c (length ls) (z and_then k) (more_from goes_on item2 m last ls2 and_then k2)) (sym (no_more goes_on item n last ls e)) (record { short = st.short; stops = behind_too (ends [] ls here) })

      at_zero_too : (m : ℕ) → length ls ≤ 0 → Turns goes_on item item2 Ends last ls ls2 → Steady c (length ls) (more_from goes_on item zero last ls and_then k) (more_from goes_on item2 m last ls2 and_then k2)
      at_zero_too m few (both_end e e2) = ended zero m e e2
      at_zero_too m few (ends_alone e here) = halted zero m e here
      at_zero_too m few (both_go i next next2 e e2 long st) = absurd (omega (arith, few, long))
      at_zero_too m few (goes_alone next e p q) = absurd (omega (arith, few, q))

      -- behind another item
      abbrev onwards : (A → Reader A) → ℕ → (List A → Reader B) → A → Reader B
      onwards it n after_all x rest = more_from goes_on it n x rest and_then λ xs. after_all (x ∷ xs)

      unrolled : (it : A → Reader A) (n : ℕ) (after_all : List A → Reader B) (from next : List Lexeme) → goes_on last from ≡ Some next
          → (more_from goes_on it (suc n) last from and_then after_all) ≡ (it last next and_then onwards it n after_all)
      unfolding more_from
      unrolled it n after_all from next e =
          ap (λ o. going_on o from (λ z. it last z and_then λ x rest. more_from goes_on it n x rest and_then λ xs end. took (x ∷ xs) end) and_then after_all) e
          ∙ by_cases (it last next)
        where
          by_cases : (r : Read A) → ((r and_then λ x rest. more_from goes_on it n x rest and_then λ xs end. took (x ∷ xs) end) and_then after_all) ≡ (r and_then onwards it n after_all)
          by_cases (took x rest) = grouped (more_from goes_on it n x rest) (λ xs end. took (x ∷ xs) end) after_all
          by_cases (wrong rest) = refl
          by_cases (high rest) = refl

      gone_alone : (n m : ℕ) → AreSteady n → length ls ≤ suc n → (next : List Lexeme) → goes_on last ls ≡ Some next → length (left_by (item last next)) < length c.one → length (left_by (item last next)) < length ls
          → Steady c (length ls) (more_from goes_on item (suc n) last ls and_then k) (more_from goes_on item2 m last ls2 and_then k2)
      gone_alone n m ih few next e p q =
          let r = item last next in
          let st = steady_then c (length (left_by r)) r r (onwards item n k) (onwards item2 n k2) (record { short = omega arith; stops = behind_too p })
          (λ x rest rest2 le u. behind_item x rest rest2 le u) in
          subst (λ z. Steady c (length ls) z (more_from goes_on item2 m last ls2 and_then k2)) (sym (unrolled item n k ls next e)) (record { short = omega (arith, st.short, q); stops = behind_too (omega (arith, st.short, p)) })
        where
          behind_item : (x : A) (rest rest2 : List Lexeme) → length rest ≤ length (left_by (item last next)) → Cuts c rest rest2 → Steady c (length rest) (onwards item n k x rest) (onwards item2 n k2 x rest2)
          behind_item x rest rest2 le u =
              let lt : length rest < length c.one = omega (arith, le, p) in
              let st = ih n (λ xs. k (x ∷ xs)) (λ xs. k2 (x ∷ xs)) (λ xs. after (x ∷ xs)) (λ xs. ends (x ∷ xs)) x rest [] (omega (arith, le, q, few)) (omega arith) (behind_cut lt) in
              gone_steady (length rest) _ _ st.short lt

      gone_both : (n m : ℕ) → AreSteady n → length ls ≤ suc n → length ls2 ≤ suc m → (i : ℕ) (next next2 : List Lexeme) → goes_on last ls ≡ Some next → goes_on last ls2 ≡ Some next2 → length ls ≡ suc i → Steady c i (item last next) (item2 last next2)
          → Steady c (length ls) (more_from goes_on item (suc n) last ls and_then k) (more_from goes_on item2 (suc m) last ls2 and_then k2)
      gone_both n m ih few few2 i next next2 e e2 long st =
          subst (λ z. Steady c (length ls) z (more_from goes_on item2 (suc m) last ls2 and_then k2)) (sym (unrolled item n k ls next e))
          (subst (λ z. Steady c (length ls) (item last next and_then onwards item n k) z) (sym (unrolled item2 m k2 ls2 next2 e2))
          (wider c i (length ls) _ _ (omega (arith, long)) (steady_then c i (item last next) (item2 last next2) (onwards item n k) (onwards item2 m k2) st behind_item)))
        where
          behind_item : (x : A) (rest rest2 : List Lexeme) → length rest ≤ i → Cuts c rest rest2 → Steady c (length rest) (onwards item n k x rest) (onwards item2 m k2 x rest2)
          behind_item x rest rest2 le u = by (less_room m ls ls2 rest rest2 s u (omega (arith, le, long)) few2)
            where
              by : ((length rest2 ≤ m) ⊎ (length rest < length c.one)) → Steady c (length rest) (onwards item n k x rest) (onwards item2 m k2 x rest2)
              by (inl few_too) = ih m (λ xs. k (x ∷ xs)) (λ xs. k2 (x ∷ xs)) (λ xs. after (x ∷ xs)) (λ xs. ends (x ∷ xs)) x rest rest2 (omega (arith, le, long, few)) few_too u
              by (inr lt) =
                  let past = ih m (λ xs. k (x ∷ xs)) (λ xs. k2 (x ∷ xs)) (λ xs. after (x ∷ xs)) (λ xs. ends (x ∷ xs)) x rest [] (omega (arith, le, long, few)) (omega arith) (behind_cut lt) in
                  gone_steady (length rest) _ _ past.short lt

      empty_goes : (next : List Lexeme) → length ls2 ≤ 0 → goes_on last ls2 ≡ Some next → ⊥
      empty_goes next few e = by ls2 refl few
        where
          by : (z : List Lexeme) → ls2 ≡ z → length z ≤ 0 → ⊥
          by [] k h = let no : None ≡ Some next = sym (nothing last) ∙ ap (goes_on last) (sym k) ∙ e in absurd cc
          by (l ∷ z) k h = omega (arith, h)

      one_more_item : (n m : ℕ) → AreSteady n → length ls ≤ suc n → length ls2 ≤ m → Turns goes_on item item2 Ends last ls ls2 → Steady c (length ls) (more_from goes_on item (suc n) last ls and_then k) (more_from goes_on item2 m last ls2 and_then k2)
      one_more_item n m ih few few2 (both_end e e2) = ended (suc n) m e e2
      one_more_item n m ih few few2 (ends_alone e here) = halted (suc n) m e here
      one_more_item n m ih few few2 (goes_alone next e p q) = gone_alone n m ih few next e p q
      one_more_item n zero ih few few2 (both_go i next next2 e e2 long st) = absurd (empty_goes next2 few2 e2)
      one_more_item n (suc m) ih few few2 (both_go i next next2 e e2 long st) = gone_both n m ih few few2 i next next2 e e2 long st

    pub more_steady : (n m : ℕ) (k k2 : List A → Reader B) → After k k2 → EndsPast k → (last : A) (ls ls2 : List Lexeme) → length ls ≤ n → length ls2 ≤ m → Cuts c ls ls2
        → Steady c (length ls) (more_from goes_on item n last ls and_then k) (more_from goes_on item2 m last ls2 and_then k2)
    more_steady zero m k k2 after ends last ls ls2 few few2 s = at_zero_too k k2 after ends last ls ls2 s m few (turns last ls ls2 s)
    more_steady (suc n) m k k2 after ends last ls ls2 few few2 s =
        one_more_item k k2 after ends last ls ls2 s n m (λ m k k2 after ends last ls ls2 few few2 s. more_steady n m k k2 after ends last ls ls2 few few2 s) few few2 (turns last ls ls2 s)

    pub others_steady : (k k2 : List A → Reader B) → After k k2 → EndsPast k → (last : A) (ls ls2 : List Lexeme) → Cuts c ls ls2
        → Steady c (length ls) (others_from goes_on item last ls and_then k) (others_from goes_on item2 last ls2 and_then k2)
    others_steady k k2 after ends last ls ls2 s = more_steady (length ls) (length ls2) k k2 after ends last ls ls2 (omega arith) (omega arith) s
