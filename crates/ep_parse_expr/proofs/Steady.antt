-- A reader stops at a token for what stands before it and for that token alone.
--
-- Two lists are the same as far as a cut and in the token behind it, or the second ends at the cut. What a reader takes
-- or refuses of the first at the cut or before it, another reader, which is the same or may go higher, takes or refuses of
-- the second at the same place.
use Rattle.std.specs.Prelude.{◌≡◌, ℕ, suc, ◌≤◌, ◌<◌, Bool, true, false, List, [], ◌∷◌, ◌++◌, length, refl}
use Rattle.std.proofs.Common.{ap, arith, sym, subst, ◌∙◌}
use Rattle.ep_tree.specs.Phrases.{Lexeme, Saying, a_name, a_number, a_word}
use Rattle.ep_parse_parts.specs.OperandReaders.{if_low}
use Rattle.ep_parse_parts.specs.Readers.{Read, Reader, behind, either_reader, high, says_word, says, took, word_from, name_from, name_in, wrong, ◌and_then◌}

-- what stands behind a cut in two lists: one token that is the same, or nothing in the second
pub data Same (exact : Bool) (a b : List Lexeme) : Type 0 where
  going : (t : Lexeme) (rest other : List Lexeme) → a ≡ t ∷ rest → b ≡ t ∷ other → Same exact a b
  ended : exact ≡ false → b ≡ [] → Same exact a b

-- A cut through two lists. Where it is exact, the readers on both sides are the same and the second list goes on.
pub record Cut : Type 0 where
  pub exact : Bool
  pub one : List Lexeme
  pub two : List Lexeme
  pub same : Same exact one two

abbrev pub left_by : {A : Type 0} → Read A → List Lexeme
left_by (took x ls) = ls
left_by (wrong ls) = ls
left_by (high ls) = ls

module _ (c : Cut) where
  -- two lists of tokens: the first is behind the cut, or both are before it and the same as far as there
  pub data Cuts (ls ls2 : List Lexeme) : Type 0 where
    behind_cut : length ls < length c.one → Cuts ls ls2
    before_cut : (front : List Lexeme) → ls ≡ front ++ c.one → ls2 ≡ front ++ c.two → Cuts ls ls2

  -- how two readers stop
  pub data StopsSo {A : Type 0} (r r2 : Read A) : Type 0 where
    behind_too : length (left_by r) < length c.one → StopsSo r r2
    took_both : (x : A) (front : List Lexeme) → r ≡ took x (front ++ c.one) → r2 ≡ took x (front ++ c.two) → StopsSo r r2
    wrong_both : (front : List Lexeme) → r ≡ wrong (front ++ c.one) → r2 ≡ wrong (front ++ c.two) → StopsSo r r2
    high_both : (front : List Lexeme) → r ≡ high (front ++ c.one) → r2 ≡ high (front ++ c.two) → StopsSo r r2
    high_alone : (ls : List Lexeme) → r ≡ high ls → c.exact ≡ false → StopsSo r r2

  -- two readers stop so, and the first leaves no more tokens than so many
  pub record Steady {A : Type 0} (n : ℕ) (r r2 : Read A) : Type 0 where
    pub short : length (left_by r) ≤ n
    pub stops : StopsSo r r2

  pub took_steady : {A : Type 0} (x : A) (ls ls2 : List Lexeme) → Cuts ls ls2 → Steady (length ls) (took x ls) (took x ls2)
  took_steady x ls ls2 (behind_cut p) = record { short = omega arith; stops = behind_too p }
  took_steady x ls ls2 (before_cut front e e2) = record { short = omega arith; stops = took_both x front (ap (λ y. took x y) e) (ap (λ y. took x y) e2) }

  pub wrong_steady : {A : Type 0} (ls ls2 : List Lexeme) → Cuts ls ls2 → Steady {A = A} (length ls) (wrong ls) (wrong ls2)
  wrong_steady ls ls2 (behind_cut p) = record { short = omega arith; stops = behind_too p }
  wrong_steady ls ls2 (before_cut front e e2) = record { short = omega arith; stops = wrong_both front (ap (λ y. wrong y) e) (ap (λ y. wrong y) e2) }

  -- too high where a test fails, which succeeds where it succeeds for the lower tree
  high_by : {A : Type 0} (b : Bool) → c.exact ≡ b → (ls ls2 : List Lexeme) (r2 : Read A) → Cuts ls ls2 → (c.exact ≡ true → r2 ≡ high ls2) → Steady (length ls) (high ls) r2
  high_by b k ls ls2 r2 (behind_cut p) h = record { short = omega arith; stops = behind_too p }
  high_by true k ls ls2 r2 (before_cut front e e2) h = record { short = omega arith; stops = high_both front (ap (λ y. high y) e) (h k ∙ ap (λ y. high y) e2) }
  high_by false k ls ls2 r2 (before_cut front e e2) h = record { short = omega arith; stops = high_alone ls refl k }

  pub high_steady : {A : Type 0} (ls ls2 : List Lexeme) (r2 : Read A) → Cuts ls ls2 → (c.exact ≡ true → r2 ≡ high ls2) → Steady (length ls) (high ls) r2
  high_steady ls ls2 r2 s h = high_by c.exact refl ls ls2 r2 s h

  pub wider : {A : Type 0} (m n : ℕ) (r r2 : Read A) → m ≤ n → Steady m r r2 → Steady n r r2
  wider m n r r2 le h = record { short = omega (arith, h.short, le); stops = h.stops }

  -- behind the cut the second reader says nothing
  past : {A : Type 0} (n : ℕ) (r r2 : Read A) → length (left_by r) ≤ n → n < length c.one → Steady n r r2
  past n r r2 le lt = record { short = le; stops = behind_too (omega (arith, le, lt)) }

  pub steady_after : {A B : Type 0} (n : ℕ) (r r2 : Read A) (k k2 : A → Reader B) → Steady n r r2
      → ((x : A) (ls ls2 : List Lexeme) → r ≡ took x ls → length ls ≤ n → Cuts ls ls2 → Steady (length ls) (k x ls) (k2 x ls2)) → Steady n (r and_then k) (r2 and_then k2)
  steady_after {A} {B} n r r2 k k2 h f = go r refl h.stops
    where
      go : (q : Read A) → r ≡ q → StopsSo r r2 → Steady n (r and_then k) (r2 and_then k2)
      go (took x ls) e (behind_too p) =
          let short : length ls ≤ n = subst (λ z. length (left_by z) ≤ n) e h.short in
          let lt : length ls < length c.one = subst (λ z. length (left_by z) < length c.one) e p in
          let st = f x ls [] e short (behind_cut lt) in
          subst (λ z. Steady n (z and_then k) (r2 and_then k2)) (sym e) (record { short = omega (arith, st.short, short); stops = behind_too (omega (arith, st.short, lt)) })
      go (wrong ls) e (behind_too p) =
          let short : length ls ≤ n = subst (λ z. length (left_by z) ≤ n) e h.short in
          let lt : length ls < length c.one = subst (λ z. length (left_by z) < length c.one) e p in
          subst (λ z. Steady n (z and_then k) (r2 and_then k2)) (sym e) (record { short = short; stops = behind_too lt })
      go (high ls) e (behind_too p) =
          let short : length ls ≤ n = subst (λ z. length (left_by z) ≤ n) e h.short in
          let lt : length ls < length c.one = subst (λ z. length (left_by z) < length c.one) e p in
          subst (λ z. Steady n (z and_then k) (r2 and_then k2)) (sym e) (record { short = short; stops = behind_too lt })
      go q e (took_both x front e1 e2) =
          let short : length (front ++ c.one) ≤ n = subst (λ z. length (left_by z) ≤ n) e1 h.short in
          let st = f x (front ++ c.one) (front ++ c.two) e1 short (before_cut front refl refl) in
          subst (λ z. Steady n (z and_then k) (r2 and_then k2)) (sym e1) (subst (λ z. Steady n (took x (front ++ c.one) and_then k) (z and_then k2)) (sym e2) (wider (length (front ++ c.one)) n _ _ short st))
      go q e (wrong_both front e1 e2) =
          let short : length (front ++ c.one) ≤ n = subst (λ z. length (left_by z) ≤ n) e1 h.short in
          subst (λ z. Steady n (z and_then k) (r2 and_then k2)) (sym e1) (subst (λ z. Steady n (wrong (front ++ c.one) and_then k) (z and_then k2)) (sym e2) (record { short = short; stops = wrong_both front refl refl }))
      go q e (high_both front e1 e2) =
          let short : length (front ++ c.one) ≤ n = subst (λ z. length (left_by z) ≤ n) e1 h.short in
          subst (λ z. Steady n (z and_then k) (r2 and_then k2)) (sym e1) (subst (λ z. Steady n (high (front ++ c.one) and_then k) (z and_then k2)) (sym e2) (record { short = short; stops = high_both front refl refl }))
      go q e (high_alone ls e1 inexact) =
          let short : length ls ≤ n = subst (λ z. length (left_by z) ≤ n) e1 h.short in
          subst (λ z. Steady n (z and_then k) (r2 and_then k2)) (sym e1) (record { short = short; stops = high_alone ls refl inexact })

  pub steady_then : {A B : Type 0} (n : ℕ) (r r2 : Read A) (k k2 : A → Reader B) → Steady n r r2
      → ((x : A) (ls ls2 : List Lexeme) → length ls ≤ n → Cuts ls ls2 → Steady (length ls) (k x ls) (k2 x ls2)) → Steady n (r and_then k) (r2 and_then k2)
  steady_then n r r2 k k2 h f = steady_after n r r2 k k2 h (λ x ls ls2 e le s. f x ls ls2 le s)

  -- ---- a token that decides

  -- what is seen of two lists
  pub data Look (ls ls2 : List Lexeme) : Type 0 where
    gone : length ls < length c.one → Look ls ls2
    head : (l : Lexeme) (rest rest2 : List Lexeme) → ls ≡ l ∷ rest → ls2 ≡ l ∷ rest2 → Cuts rest rest2 → Look ls ls2
    at_end : c.exact ≡ false → ls ≡ c.one → ls2 ≡ [] → Look ls ls2

  at_cut : (ls ls2 : List Lexeme) → ls ≡ c.one → ls2 ≡ c.two → Same c.exact c.one c.two → Look ls ls2
  at_cut ls ls2 e e2 (going t rest other a b) =
      let long : length c.one ≡ suc (length rest) = ap length a in
      head t rest other (e ∙ a) (e2 ∙ b) (behind_cut (omega (arith, long)))
  at_cut ls ls2 e e2 (ended inexact b) = at_end inexact e (e2 ∙ b)

  pub look : (ls ls2 : List Lexeme) → Cuts ls ls2 → Look ls ls2
  look ls ls2 (behind_cut p) = gone p
  look ls ls2 (before_cut [] e e2) = at_cut ls ls2 e e2 c.same
  look ls ls2 (before_cut (l ∷ front) e e2) = head l (front ++ c.one) (front ++ c.two) e e2 (before_cut front refl refl)

  -- what readers do that look at one token: they go on behind it, or do what others do, or it is too high
  pub data Decides {A : Type 0} (n : ℕ) (r r2 other other2 : Read A) (all all2 : List Lexeme) : Type 0 where
    inside : Steady n r r2 → Decides n r r2 other other2 all all2
    neither : r ≡ other → r2 ≡ other2 → Decides n r r2 other other2 all all2
    too_high : r ≡ high all → (c.exact ≡ true → r2 ≡ high all2) → Decides n r r2 other other2 all all2

  module _ {A : Type 0} (N M : ℕ) (some : 0 < M) (f f2 other other2 : Reader A) (nothing : f [] ≡ other []) (nothing2 : f2 [] ≡ other2 [])
      (decides : (l : Lexeme) (rest rest2 : List Lexeme) → length rest < N → length rest2 < M → Cuts rest rest2 → Decides (length rest) (f (l ∷ rest)) (f2 (l ∷ rest2)) (other (l ∷ rest)) (other2 (l ∷ rest2)) (l ∷ rest) (l ∷ rest2)) where
    -- behind the cut
    decided_past : (ls : List Lexeme) (r2 : Read A) → length ls ≤ N → length ls < length c.one → length (left_by (other ls)) ≤ length ls → Steady (length ls) (f ls) r2
    decided_past [] r2 few lt o = past 0 (f []) r2 (subst (λ z. length (left_by z) ≤ 0) (sym nothing) o) lt
    decided_past (l ∷ rest) r2 few lt o = go (decides l rest [] (omega (arith, few)) some (behind_cut (omega (arith, lt))))
      where
        go : Decides (length rest) (f (l ∷ rest)) (f2 (l ∷ [])) (other (l ∷ rest)) (other2 (l ∷ [])) (l ∷ rest) (l ∷ []) → Steady (length (l ∷ rest)) (f (l ∷ rest)) r2
        go (inside st) = past (length (l ∷ rest)) (f (l ∷ rest)) r2 (omega (arith, st.short)) lt
        go (neither e e2) = past (length (l ∷ rest)) (f (l ∷ rest)) r2 (subst (λ z. length (left_by z) ≤ length (l ∷ rest)) (sym e) o) lt
        go (too_high e e2) = past (length (l ∷ rest)) (f (l ∷ rest)) r2 (subst (λ z. length (left_by z) ≤ length (l ∷ rest)) (sym e) (omega arith)) lt

    decided_end : (ls : List Lexeme) → length ls ≤ N → ls ≡ c.one → c.exact ≡ false → Steady (length ls) (other ls) (other2 []) → Steady (length ls) (f ls) (f2 [])
    decided_end [] few e inexact o = subst (λ z. Steady 0 z (f2 [])) (sym nothing) (subst (λ z. Steady 0 (other []) z) (sym nothing2) o)
    decided_end (l ∷ rest) few e inexact o =
        let long : suc (length rest) ≡ length c.one = ap length e in go (decides l rest [] (omega (arith, few)) some (behind_cut (omega (arith, long)))) long
      where
        go : Decides (length rest) (f (l ∷ rest)) (f2 (l ∷ [])) (other (l ∷ rest)) (other2 (l ∷ [])) (l ∷ rest) (l ∷ []) → suc (length rest) ≡ length c.one → Steady (length (l ∷ rest)) (f (l ∷ rest)) (f2 [])
        go (inside st) long = record { short = omega (arith, st.short); stops = behind_too (omega (arith, st.short, long)) }
        go (neither e1 e2) long = subst (λ z. Steady (length (l ∷ rest)) z (f2 [])) (sym e1) (subst (λ z. Steady (length (l ∷ rest)) (other (l ∷ rest)) z) (sym nothing2) o)
        go (too_high e1 e2) long = subst (λ z. Steady (length (l ∷ rest)) z (f2 [])) (sym e1) (record { short = omega arith; stops = high_alone (l ∷ rest) refl inexact })

    decided_head : (l : Lexeme) (rest rest2 : List Lexeme) → Cuts (l ∷ rest) (l ∷ rest2) → Steady (length (l ∷ rest)) (other (l ∷ rest)) (other2 (l ∷ rest2))
        → Decides (length rest) (f (l ∷ rest)) (f2 (l ∷ rest2)) (other (l ∷ rest)) (other2 (l ∷ rest2)) (l ∷ rest) (l ∷ rest2)
        → Steady (length (l ∷ rest)) (f (l ∷ rest)) (f2 (l ∷ rest2))
    decided_head l rest rest2 s o (inside st) = wider (length rest) (length (l ∷ rest)) (f (l ∷ rest)) (f2 (l ∷ rest2)) (omega arith) st
    decided_head l rest rest2 s o (neither e e2) =
        subst (λ z. Steady (length (l ∷ rest)) z (f2 (l ∷ rest2))) (sym e) (subst (λ z. Steady (length (l ∷ rest)) (other (l ∷ rest)) z) (sym e2) o)
    decided_head l rest rest2 s o (too_high e e2) = subst (λ z. Steady (length (l ∷ rest)) z (f2 (l ∷ rest2))) (sym e) (high_steady (l ∷ rest) (l ∷ rest2) (f2 (l ∷ rest2)) s e2)

    pub decided_within : (ls ls2 : List Lexeme) → length ls ≤ N → length ls2 ≤ M → Cuts ls ls2 → Steady (length ls) (other ls) (other2 ls2) → Steady (length ls) (f ls) (f2 ls2)
    decided_within ls ls2 few few2 s o = go (look ls ls2 s)
      where
        go : Look ls ls2 → Steady (length ls) (f ls) (f2 ls2)
        go (gone p) = decided_past ls (f2 ls2) few p o.short
        go (head l rest rest2 e e2 t) =
            let long : length ls ≡ suc (length rest) = ap length e in
            let long2 : length ls2 ≡ suc (length rest2) = ap length e2 in
            subst (λ z. Steady (length z) (f z) (f2 ls2)) (sym e) (subst (λ z. Steady (length (l ∷ rest)) (f (l ∷ rest)) (f2 z)) (sym e2)
            (decided_head l rest rest2 (subst (λ z. Cuts z (l ∷ rest2)) e (subst (λ z. Cuts ls z) e2 s))
            (subst (λ z. Steady (length z) (other z) (other2 (l ∷ rest2))) e (subst (λ z. Steady (length ls) (other ls) (other2 z)) e2 o)) (decides l rest rest2 (omega (arith, few, long)) (omega (arith, few2, long2)) t)))
        go (at_end inexact e e2) = subst (λ z. Steady (length ls) (f ls) (f2 z)) (sym e2) (decided_end ls few e inexact (subst (λ z. Steady (length ls) (other ls) (other2 z)) e2 o))

  pub decided : {A : Type 0} (f f2 other other2 : Reader A) → f [] ≡ other [] → f2 [] ≡ other2 []
      → ((l : Lexeme) (rest rest2 : List Lexeme) → Cuts rest rest2 → Decides (length rest) (f (l ∷ rest)) (f2 (l ∷ rest2)) (other (l ∷ rest)) (other2 (l ∷ rest2)) (l ∷ rest) (l ∷ rest2))
      → (ls ls2 : List Lexeme) → Cuts ls ls2 → Steady (length ls) (other ls) (other2 ls2) → Steady (length ls) (f ls) (f2 ls2)
  decided f f2 other other2 nothing nothing2 decides ls ls2 s o =
      decided_within (length ls) (suc (length ls2)) (omega arith) f f2 other other2 nothing nothing2 (λ l rest rest2 lt lt2 t. decides l rest rest2 t) ls ls2 (omega arith) (omega arith) s o

  -- ---- words and tests

  word_decides : (w : List ℕ) (b : Bool) (l : Lexeme) (rest rest2 : List Lexeme) → Cuts rest rest2
      → Decides (length rest) (either_reader b (λ all. took l.place rest) (λ all. wrong all) (l ∷ rest)) (either_reader b (λ all. took l.place rest2) (λ all. wrong all) (l ∷ rest2)) (wrong (l ∷ rest)) (wrong (l ∷ rest2)) (l ∷ rest) (l ∷ rest2)
  word_decides w true l rest rest2 s = inside (took_steady l.place rest rest2 s)
  word_decides w false l rest rest2 s = neither refl refl

  pub word_steady : (w : List ℕ) (ls ls2 : List Lexeme) → Cuts ls ls2 → Steady (length ls) (word_from w ls) (word_from w ls2)
  unfolding word_from
  word_steady w ls ls2 s =
      decided (word_from w) (word_from w) (λ z. wrong z) (λ z. wrong z) refl refl (λ l rest rest2 t. word_decides w (says_word w l.saying) l rest rest2 t) ls ls2 s (wrong_steady ls ls2 s)

  name_decides : (l : Lexeme) (s : Saying) (rest rest2 : List Lexeme) → Cuts rest rest2
      → Decides (length rest) (name_in l s rest) (name_in l s rest2) (wrong (l ∷ rest)) (wrong (l ∷ rest2)) (l ∷ rest) (l ∷ rest2)
  unfolding name_in
  name_decides l (a_name x) rest rest2 s = inside (took_steady x rest rest2 s)
  name_decides l (a_number n) rest rest2 s = neither refl refl
  name_decides l (a_word w) rest rest2 s = neither refl refl

  pub name_steady : (ls ls2 : List Lexeme) → Cuts ls ls2 → Steady (length ls) (name_from ls) (name_from ls2)
  unfolding name_from
  name_steady ls ls2 s =
      decided name_from name_from (λ z. wrong z) (λ z. wrong z) refl refl (λ l rest rest2 t. name_decides l l.saying rest rest2 t) ls ls2 s (wrong_steady ls ls2 s)

  -- a test of height on both sides: what is low enough is so for the second reader too
  pub record Tests (t t2 : Bool) : Type 0 where
    pub higher : t ≡ true → t2 ≡ true
    pub alike : c.exact ≡ true → t2 ≡ t

  pub no_test : (t : Bool) → Tests t t
  no_test t = record { higher = λ e. e; alike = λ _. refl }

  pub low_decides : {A : Type 0} (b t t2 : Bool) (one one2 other other2 : Reader A) (l : Lexeme) (rest rest2 : List Lexeme) → Tests t t2 → (t ≡ true → Steady (length rest) (one (l ∷ rest)) (one2 (l ∷ rest2)))
      → Decides (length rest) (either_reader b (if_low t one) other (l ∷ rest)) (either_reader b (if_low t2 one2) other2 (l ∷ rest2)) (other (l ∷ rest)) (other2 (l ∷ rest2)) (l ∷ rest) (l ∷ rest2)
  low_decides false t t2 one one2 other other2 l rest rest2 tests h = neither refl refl
  low_decides true true true one one2 other other2 l rest rest2 tests h = inside (h refl)
  low_decides true true false one one2 other other2 l rest rest2 tests h = let no : false ≡ true = tests.higher refl in absurd cc
  low_decides true false t2 one one2 other other2 l rest rest2 tests h = too_high refl (λ x. ap (λ z. if_low z one2 (l ∷ rest2)) (tests.alike x))

  -- a word that is next, and a test
  pub low_word_steady : {A : Type 0} (w : List ℕ) (t t2 : Bool) (one one2 other other2 : Reader A) → Tests t t2
      → (t ≡ true → (ls ls2 : List Lexeme) → Cuts ls ls2 → Steady (length ls) (one ls) (one2 ls2)) → (ls ls2 : List Lexeme) → Cuts ls ls2 → Steady (length ls) (other ls) (other2 ls2)
      → Steady (length ls) (either_reader (says w ls) (if_low t (λ all. one (behind all))) other ls) (either_reader (says w ls2) (if_low t2 (λ all. one2 (behind all))) other2 ls2)
  unfolding says
  low_word_steady w t t2 one one2 other other2 tests h ls ls2 s o =
      decided (λ z. either_reader (says w z) (if_low t (λ all. one (behind all))) other z) (λ z. either_reader (says w z) (if_low t2 (λ all. one2 (behind all))) other2 z) other other2 refl refl
      (λ l rest rest2 k. low_decides (says_word w l.saying) t t2 (λ all. one (behind all)) (λ all. one2 (behind all)) other other2 l rest rest2 tests (λ e. h e rest rest2 k)) ls ls2 s o

  -- a word that is next
  pub next_word_steady : {A : Type 0} (w : List ℕ) (one one2 other other2 : Reader A)
      → ((ls ls2 : List Lexeme) → Cuts ls ls2 → Steady (length ls) (one ls) (one2 ls2)) → (ls ls2 : List Lexeme) → Cuts ls ls2 → Steady (length ls) (other ls) (other2 ls2)
      → Steady (length ls) (either_reader (says w ls) (λ all. one (behind all)) other ls) (either_reader (says w ls2) (λ all. one2 (behind all)) other2 ls2)
  next_word_steady w one one2 other other2 h ls ls2 s o = low_word_steady w true true one one2 other other2 (no_test true) (λ _. h) ls ls2 s o

  -- a word that is next, and that is read again
  word_read : {A : Type 0} (w : List ℕ) (b : Bool) (one one2 : Reader A) (other other2 : Reader A) (l : Lexeme) (rest rest2 : List Lexeme) → says_word w l.saying ≡ b → Steady (length rest) (one rest) (one2 rest2)
      → Decides (length rest) (either_reader b (λ all. word_from w all and_then λ p. one) other (l ∷ rest)) (either_reader b (λ all. word_from w all and_then λ p. one2) other2 (l ∷ rest2))
      (other (l ∷ rest)) (other2 (l ∷ rest2)) (l ∷ rest) (l ∷ rest2)
  unfolding word_from
  word_read w true one one2 other other2 l rest rest2 e st =
      inside (subst (λ z. Steady (length rest) (either_reader z (λ all. took l.place rest) (λ all. wrong all) (l ∷ rest) and_then λ p. one) (either_reader z (λ all. took l.place rest2) (λ all. wrong all) (l ∷ rest2) and_then λ p. one2)) (sym e) st)
  word_read w false one one2 other other2 l rest rest2 e st = neither refl refl

  pub word_itself_steady : {A : Type 0} (w : List ℕ) (one one2 other other2 : Reader A)
      → ((ls ls2 : List Lexeme) → Cuts ls ls2 → Steady (length ls) (one ls) (one2 ls2)) → (ls ls2 : List Lexeme) → Cuts ls ls2 → Steady (length ls) (other ls) (other2 ls2)
      → Steady (length ls) (either_reader (says w ls) (λ all. word_from w all and_then λ p. one) other ls) (either_reader (says w ls2) (λ all. word_from w all and_then λ p. one2) other2 ls2)
  unfolding says
  word_itself_steady w one one2 other other2 h ls ls2 s o =
      decided (λ z. either_reader (says w z) (λ all. word_from w all and_then λ p. one) other z) (λ z. either_reader (says w z) (λ all. word_from w all and_then λ p. one2) other2 z) other other2 refl refl
      (λ l rest rest2 k. word_read w (says_word w l.saying) one one2 other other2 l rest rest2 refl (h rest rest2 k)) ls ls2 s o
