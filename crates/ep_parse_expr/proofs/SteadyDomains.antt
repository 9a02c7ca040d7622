-- The readers of domains stop at a token for what stands before it and for that token alone.
use Rattle.std.specs.Prelude.{◌≡◌, ℕ, suc, ◌≤◌, ◌<◌, ◌⊎◌, Bool, true, false, ◌&&◌, ◌||◌, List, [], ◌∷◌, length, nat_lt, Option, Some, None, codes, refl}
use Rattle.std.proofs.Common.{ap, arith, inl, inr, sym, subst, ◌∙◌}
use Rattle.ep_base.specs.declared.places.Place.{Place}
use Rattle.ep_tree.specs.Heights.{domain_height}
use Rattle.ep_tree.specs.Phrases.{Lexeme, Saying, a_name, a_number, a_word}
use Rattle.ep_tree.specs.Spelling.{DomainLevel, domains, implications, set_operations, set_parts}
use Rattle.ep_tree.specs.Trees.{DomainTree, End, bool, end_at, group_domain, int, matrix_domain, named_domain, no_end, place_of_domain, ranges, set_domain}
use Rattle.ep_tree.specs.declared.syntax.SetOp.{SetOp}
use Rattle.ep_parse_parts.specs.DomainReaders.{DomainOpening, RangeRead, a_bool, a_domain_group, an_int, another_index_domain, another_operation, any_domain_from, as_domains, as_ranges, domain_at_level, domain_begun_from, domain_open_from, domain_openings, domain_part_from, end_from, index_domain_behind, matrix_follows, matrix_from, matrix_head_from, of_number, of_span, operations_from, place_next, range_from, ranges_from, set_words}
use Rattle.ep_parse_parts.specs.OperandReaders.{Lower, expression_next, if_low, opens}
use Rattle.ep_parse_parts.specs.Readers.{Read, Reader, behind, either_reader, high, says_word, kept, looked_up, meant_by, next_in, says, took, word_from, wrong, ◌and_then◌}
use Rattle.ep_parse_expr.proofs.Steady.{Cut, Cuts, Decides, Look, Steady, Tests, at_end, behind_cut, behind_too, decided, gone, head, high_alone, inside, left_by, look, neither, next_word_steady, steady_then, took_steady, too_high, wider, word_steady, wrong_steady}
use Rattle.ep_parse_expr.proofs.SteadyLists.{Turns, both_end, both_go, ends_alone, goes_alone, grown_steady, others_steady}
use Rattle.ep_parse_expr.proofs.SteadyOperators.{Higher, SaysSo, behind_less, below_tests, both_say, neither_says, says_past, says_so, silent_past, steps_operated}
use Rattle.ep_parse_expr.proofs.SteadyParts.{AreSteady, commas_steady, domain_made_steady, made_steady}

module _ (c : Cut) (less : ℕ) (low low2 : Lower) (good : AreSteady c less low low2) where
  -- ---- ranges

  -- an end of a range and its `..`
  abbrev WithEnd : Lower → End → Reader RangeRead
  WithEnd lower first all = lower.expr implications all and_then λ e rest. took (of_span first (end_at e)) rest

  end_steady : (first : End) (ls ls2 : List Lexeme) → Cuts c ls ls2 → Steady c (length ls) (end_from low first ls) (end_from low2 first ls2)
  unfolding end_from expression_next
  end_steady first ls ls2 s = go (look c ls ls2 s)
    where
      both : (b : Bool) → Steady c (length ls) (either_reader b (WithEnd low first) (λ all. took (of_span first no_end) all) ls) (either_reader b (WithEnd low2 first) (λ all. took (of_span first no_end) all) ls2)
      both true = made_steady c less low low2 good implications (λ e. of_span first (end_at e)) ls ls2 s
      both false = took_steady c (of_span first no_end) ls ls2 s

      alone : (l : Lexeme) (rest : List Lexeme) (r2 : Read RangeRead) → c.exact ≡ false → length rest < length c.one → opens l.saying ≡ true → Steady c (length (l ∷ rest)) (WithEnd low first (l ∷ rest)) r2
      alone l rest r2 inexact lt o = by (good.begun l rest o)
        where
          by : ((low.expr implications (l ∷ rest) ≡ high (l ∷ rest)) ⊎ (length (left_by (low.expr implications (l ∷ rest))) ≤ length rest)) → Steady c (length (l ∷ rest)) (WithEnd low first (l ∷ rest)) r2
          by (inl e) =
              let is : WithEnd low first (l ∷ rest) ≡ high (l ∷ rest) = ap (λ z. z and_then λ e rest. took (of_span first (end_at e)) rest) e in
              subst (λ z. Steady c (length (l ∷ rest)) z r2) (sym is) (record { short = omega arith; stops = high_alone (l ∷ rest) refl inexact })
          by (inr le) =
              let st : Steady c (length rest) (WithEnd low first (l ∷ rest)) (wrong [] and_then λ e rest. took (of_span first (end_at e)) rest) =
              steady_then c (length rest) (low.expr implications (l ∷ rest)) (wrong []) (λ e rest. took (of_span first (end_at e)) rest) (λ e rest. took (of_span first (end_at e)) rest) (record { short = le; stops = behind_too (omega (arith, le, lt)) })
              (λ e r r2 le u. took_steady c (of_span first (end_at e)) r r2 u) in
              record { short = omega (arith, st.short); stops = behind_too (omega (arith, st.short, lt)) }

      at_last : (z : List Lexeme) → z ≡ c.one → c.exact ≡ false → Cuts c z []
          → Steady c (length z) (either_reader (expression_next z) (WithEnd low first) (λ all. took (of_span first no_end) all) z) (took (of_span first no_end) [])
      at_last [] e inexact s = took_steady c (of_span first no_end) [] [] s
      at_last (l ∷ rest) e inexact s = let long : suc (length rest) ≡ length c.one = ap length e in by long (opens l.saying) refl
        where
          by : suc (length rest) ≡ length c.one → (b : Bool) → opens l.saying ≡ b → Steady c (length (l ∷ rest)) (either_reader b (WithEnd low first) (λ all. took (of_span first no_end) all) (l ∷ rest)) (took (of_span first no_end) [])
          by long true o = alone l rest (took (of_span first no_end) []) inexact (omega (arith, long)) o
          by long false o = took_steady c (of_span first no_end) (l ∷ rest) [] s

      go : Look c ls ls2 → Steady c (length ls) (either_reader (expression_next ls) (WithEnd low first) (λ all. took (of_span first no_end) all) ls) (either_reader (expression_next ls2) (WithEnd low2 first) (λ all. took (of_span first no_end) all) ls2)
      go (gone q) = let st = both (expression_next ls) in record { short = st.short; stops = behind_too (omega (arith, st.short, q)) }
      go (head l rest rest2 e e2 u) =
          let same : expression_next ls2 ≡ expression_next ls = ap expression_next e2 ∙ sym (ap expression_next e) in
          subst (λ z. Steady c (length ls) (either_reader (expression_next ls) (WithEnd low first) (λ all. took (of_span first no_end) all) ls) (either_reader z (WithEnd low2 first) (λ all. took (of_span first no_end) all) ls2)) (sym same) (both (expression_next ls))
      go (at_end inexact e e2) =
          subst (λ z. Steady c (length ls) (either_reader (expression_next ls) (WithEnd low first) (λ all. took (of_span first no_end) all) ls) (either_reader (expression_next z) (WithEnd low2 first) (λ all. took (of_span first no_end) all) z)) (sym e2)
          (at_last ls e inexact (subst (λ z. Cuts c ls z) e2 s))

  range_steady : (ls ls2 : List Lexeme) → Cuts c ls ls2 → Steady c (length ls) (range_from low ls) (range_from low2 ls2)
  unfolding range_from
  range_steady ls ls2 s =
      next_word_steady c (codes "..") (end_from low no_end) (end_from low2 no_end) _ _ (λ z z2 u. end_steady no_end z z2 u) ls ls2 s
      (steady_then c (length ls) (low.expr implications ls) (low2.expr implications ls2) _ _ (good.expr implications ls ls2 s)
      (λ e r r2 le t. next_word_steady c (codes "..") (end_from low (end_at e)) (end_from low2 (end_at e)) (λ next. took (of_number e) next) (λ next. took (of_number e) next) (λ z z2 u. end_steady (end_at e) z z2 u) r r2 t (took_steady c (of_number e) r r2 t)))

  ranges_steady : (p : Place) (ls ls2 : List Lexeme) → Cuts c ls ls2 → Steady c (length ls) (ranges_from low p ls) (ranges_from low2 p ls2)
  unfolding ranges_from
  ranges_steady p ls ls2 s =
      steady_then c (length ls) (range_from low ls) (range_from low2 ls2) _ _ (range_steady ls ls2 s)
      (λ r z z2 le t. commas_steady c (λ last. range_from low) (λ last. range_from low2) (λ last. range_steady) _ _
      (λ rs a a2 u. steady_then c (length a) (word_from (codes ")") a) (word_from (codes ")") a2) _ _ (word_steady c (codes ")") a a2 u) (λ q b b2 le v. took_steady c (ranges p (as_ranges (r ∷ rs))) b b2 v)) r z z2 t)

  -- ---- domains without operations

  abbrev OpenedSo : Bool → Bool → Option DomainOpening → Lexeme → List Lexeme → List Lexeme → Type 0
  OpenedSo t t2 o l rest rest2 =
      Decides c (length rest) (domain_open_from t low l.place o rest (l ∷ rest)) (domain_open_from t2 low2 l.place o rest2 (l ∷ rest2)) (wrong (l ∷ rest)) (wrong (l ∷ rest2)) (l ∷ rest) (l ∷ rest2)

  group_steady : (p : Place) (ls ls2 : List Lexeme) → Cuts c ls ls2
      → Steady c (length ls) (low.domain set_operations ls and_then λ d next. word_from (codes ")") next and_then λ _ end. took (group_domain p d) end)
      (low2.domain set_operations ls2 and_then λ d next. word_from (codes ")") next and_then λ _ end. took (group_domain p d) end)
  group_steady p ls ls2 s =
      steady_then c (length ls) (low.domain set_operations ls) (low2.domain set_operations ls2) _ _ (good.domain set_operations ls ls2 s)
      (λ d a a2 le u. steady_then c (length a) (word_from (codes ")") a) (word_from (codes ")") a2) _ _ (word_steady c (codes ")") a a2 u) (λ q b b2 le v. took_steady c (group_domain p d) b b2 v))

  open_steady : (t t2 : Bool) → Tests c t t2 → (o : Option DomainOpening) (l : Lexeme) (rest rest2 : List Lexeme) → Cuts c rest rest2 → OpenedSo t t2 o l rest rest2
  unfolding domain_open_from
  open_steady t t2 tests None l rest rest2 s = neither refl refl
  open_steady t t2 tests (Some a_bool) l rest rest2 s = inside (took_steady c (bool l.place) rest rest2 s)
  open_steady t t2 tests (Some an_int) l rest rest2 s =
      inside (next_word_steady c (codes "(") (ranges_from low l.place) (ranges_from low2 l.place) (λ next. took (int l.place) next) (λ next. took (int l.place) next) (λ z z2 u. ranges_steady l.place z z2 u) rest rest2 s (took_steady c (int l.place) rest rest2 s))
  open_steady true true tests (Some a_domain_group) l rest rest2 s = inside (group_steady l.place rest rest2 s)
  open_steady true false tests (Some a_domain_group) l rest rest2 s = let no : false ≡ true = tests.higher refl in absurd cc
  open_steady false t2 tests (Some a_domain_group) l rest rest2 s =
      too_high refl (λ x. ap (λ z. if_low z (λ _. low2.domain set_operations rest2 and_then λ d next. word_from (codes ")") next and_then λ _ end. took (group_domain l.place d) end) (l ∷ rest2)) (tests.alike x))

  abbrev Begun : Bool → Bool → Saying → Lexeme → List Lexeme → List Lexeme → Type 0
  Begun t t2 s l rest rest2 =
      Decides c (length rest) (domain_begun_from t low l.place s rest (l ∷ rest)) (domain_begun_from t2 low2 l.place s rest2 (l ∷ rest2)) (wrong (l ∷ rest)) (wrong (l ∷ rest2)) (l ∷ rest) (l ∷ rest2)

  begun_steady : (t t2 : Bool) → Tests c t t2 → (s : Saying) (l : Lexeme) (rest rest2 : List Lexeme) → Cuts c rest rest2 → Begun t t2 s l rest rest2
  unfolding domain_begun_from
  begun_steady t t2 tests (a_name x) l rest rest2 s = inside (took_steady c (named_domain l.place x) rest rest2 s)
  begun_steady t t2 tests (a_number n) l rest rest2 s = neither refl refl
  begun_steady t t2 tests (a_word w) l rest rest2 s = open_steady t t2 tests (looked_up domain_openings w) l rest rest2 s

  domain_part_steady : (t t2 : Bool) → Tests c t t2 → (ls ls2 : List Lexeme) → Cuts c ls ls2 → Steady c (length ls) (domain_part_from t low ls) (domain_part_from t2 low2 ls2)
  unfolding domain_part_from
  domain_part_steady t t2 tests ls ls2 s =
      decided c (domain_part_from t low) (domain_part_from t2 low2) (λ z. wrong z) (λ z. wrong z) refl refl (λ l rest rest2 u. begun_steady t t2 tests l.saying l rest rest2 u) ls ls2 s (wrong_steady c ls ls2 s)

  -- ---- matrix domains

  head_steady : (ls ls2 : List Lexeme) → Cuts c ls ls2 → Steady c (length ls) (matrix_head_from ls) (matrix_head_from ls2)
  unfolding matrix_head_from
  head_steady ls ls2 s =
      steady_then c (length ls) (word_from (codes "indexed") ls) (word_from (codes "indexed") ls2) _ _ (word_steady c (codes "indexed") ls ls2 s)
      (λ p a a2 le t. steady_then c (length a) (word_from (codes "by") a) (word_from (codes "by") a2) _ _ (word_steady c (codes "by") a a2 t) (λ q b b2 le u. word_steady c (codes "[") b b2 u))

  -- a further index domain behind the head of its matrix domain
  abbrev InMatrix : Lower → Reader DomainTree
  InMatrix lower z = matrix_head_from z and_then λ _ rest. lower.domain set_operations rest

  in_matrix_steady : (ls ls2 : List Lexeme) → Cuts c ls ls2 → Steady c (length ls) (InMatrix low ls) (InMatrix low2 ls2)
  in_matrix_steady ls ls2 s = steady_then c (length ls) (matrix_head_from ls) (matrix_head_from ls2) _ _ (head_steady ls ls2 s) (λ q a a2 le t. good.domain set_operations a a2 t)

  -- what is read behind the index domains, as far as behind `of`
  abbrev Behind : Reader Place
  Behind end = word_from (codes "]") end and_then λ _ of_word. word_from (codes "of") of_word

  abbrev EndsPast : List Lexeme → Type 0
  EndsPast ls = length (left_by (Behind ls)) < length c.one

  word_said : (w : List ℕ) (ls : List Lexeme) → says w ls ≡ true → length (left_by (word_from w ls)) ≤ length (behind ls)
  unfolding says word_from
  word_said w [] e = absurd cc
  word_said w (l ∷ ls) e = subst (λ z. length (left_by (either_reader z (λ all. took l.place ls) (λ all. wrong all) (l ∷ ls))) ≤ length ls) (sym e) (omega arith)

  behind_closing : (l : Lexeme) (rest : List Lexeme) → says_word (codes "]") l.saying ≡ true → Behind (l ∷ rest) ≡ word_from (codes "of") rest
  unfolding word_from
  behind_closing l rest e = ap (λ z. either_reader z (λ all. took l.place rest) (λ all. wrong all) (l ∷ rest) and_then λ _ of_word. word_from (codes "of") of_word) e

  few_behind : (ls : List Lexeme) → length ls < length c.one → EndsPast ls
  few_behind ls p =
      let st = steady_then c (length ls) (word_from (codes "]") ls) (word_from (codes "]") []) (λ _ of_word. word_from (codes "of") of_word) (λ _ of_word. word_from (codes "of") of_word) (word_steady c (codes "]") ls [] (behind_cut p)) (λ q a a2 le t. word_steady c (codes "of") a a2 t) in
      omega (arith, st.short, p)

  closes_of : (l : Lexeme) (rest : List Lexeme) → says_word (codes "]") l.saying ≡ true → says (codes "of") rest ≡ true → length (behind rest) < length c.one → EndsPast (l ∷ rest)
  closes_of l rest e k p = subst (λ z. length (left_by z) < length c.one) (sym (behind_closing l rest e)) (let le = word_said (codes "of") rest k in omega (arith, le, p))

  closes_only : (l : Lexeme) (rest : List Lexeme) → says_word (codes "]") l.saying ≡ true → length rest < length c.one → EndsPast (l ∷ rest)
  closes_only l rest e p = subst (λ z. length (left_by z) < length c.one) (sym (behind_closing l rest e)) (let st = word_steady c (codes "of") rest [] (behind_cut p) in omega (arith, st.short, p))

  abbrev DomainTurns : DomainTree → List Lexeme → List Lexeme → Type 0
  DomainTurns last ls ls2 = Turns c another_index_domain (λ last. index_domain_behind low) (λ last. index_domain_behind low2) EndsPast last ls ls2

  -- whether a matrix domain follows behind a token
  abbrev Follows : List Lexeme → Bool
  Follows rest = says (codes "of") rest && says (codes "matrix") (behind rest)

  goes_by : (last : DomainTree) (l : Lexeme) (rest : List Lexeme) (a b d : Bool) → says_word (codes ",") l.saying ≡ a → says_word (codes "]") l.saying ≡ b → Follows rest ≡ d
      → another_index_domain last (l ∷ rest) ≡ kept (a || (b && d)) (l ∷ rest)
  unfolding another_index_domain matrix_follows says
  goes_by last l rest a b d e k h =
      ap (λ z. kept (z || (says_word (codes "]") l.saying && Follows rest)) (l ∷ rest)) e ∙ ap (λ z. kept (a || (z && Follows rest)) (l ∷ rest)) k ∙ ap (λ z. kept (a || (b && z)) (l ∷ rest)) h

  item_of : (lower : Lower) (l : Lexeme) (rest : List Lexeme) (a : Bool) → says_word (codes ",") l.saying ≡ a
      → index_domain_behind lower (l ∷ rest) ≡ either_reader a (λ all. lower.domain set_operations (behind all)) (λ all. InMatrix lower (behind (behind (behind all)))) (l ∷ rest)
  unfolding index_domain_behind says
  item_of lower l rest a e = ap (λ z. either_reader z (λ all. lower.domain set_operations (behind all)) (λ all. InMatrix lower (behind (behind (behind all)))) (l ∷ rest)) e

  item_steady : (last : DomainTree) (l : Lexeme) (rest rest2 : List Lexeme) (a : Bool) → says_word (codes ",") l.saying ≡ a
      → (a ≡ true → Cuts c rest rest2) → (a ≡ false → Cuts c (behind (behind rest)) (behind (behind rest2))) → Steady c (length rest) (index_domain_behind low (l ∷ rest)) (index_domain_behind low2 (l ∷ rest2))
  item_steady last l rest rest2 true e s t =
      subst (λ z. Steady c (length rest) z (index_domain_behind low2 (l ∷ rest2))) (sym (item_of low l rest true e))
      (subst (λ z. Steady c (length rest) (low.domain set_operations rest) z) (sym (item_of low2 l rest2 true e)) (good.domain set_operations rest rest2 (s refl)))
  item_steady last l rest rest2 false e s t =
      let one = behind_less c rest in
      let two = behind_less c (behind rest) in
      subst (λ z. Steady c (length rest) z (index_domain_behind low2 (l ∷ rest2))) (sym (item_of low l rest false e))
      (subst (λ z. Steady c (length rest) (InMatrix low (behind (behind rest))) z) (sym (item_of low2 l rest2 false e))
      (wider c (length (behind (behind rest))) (length rest) _ _ (omega (arith, one, two)) (in_matrix_steady (behind (behind rest)) (behind (behind rest2)) (t refl))))

  -- where the item is behind the cut
  goes_past : (last : DomainTree) (l : Lexeme) (rest : List Lexeme) (z2 : List Lexeme) (a b d : Bool) → says_word (codes ",") l.saying ≡ a → says_word (codes "]") l.saying ≡ b → Follows rest ≡ d
      → (a || (b && d)) ≡ true → (a ≡ true → length rest < length c.one) → (a ≡ false → length (behind (behind rest)) < length c.one) → DomainTurns last (l ∷ rest) z2
  goes_past last l rest z2 true b d e k h on p q =
      let st = good.domain set_operations rest [] (behind_cut (p refl)) in
      goes_alone (l ∷ rest) (goes_by last l rest true b d e k h) (subst (λ z. length (left_by z) < length c.one) (sym (item_of low l rest true e)) (let lt = p refl in omega (arith, st.short, lt)))
      (subst (λ z. length (left_by z) < length (l ∷ rest)) (sym (item_of low l rest true e)) (omega (arith, st.short)))
  goes_past last l rest z2 false b d e k h on p q =
      let one = behind_less c rest in
      let two = behind_less c (behind rest) in
      let st = in_matrix_steady (behind (behind rest)) [] (behind_cut (q refl)) in
      goes_alone (l ∷ rest) (goes_by last l rest false b d e k h ∙ ap (λ z. kept z (l ∷ rest)) on) (subst (λ z. length (left_by z) < length c.one) (sym (item_of low l rest false e)) (let lt = q refl in omega (arith, st.short, lt)))
      (subst (λ z. length (left_by z) < length (l ∷ rest)) (sym (item_of low l rest false e)) (omega (arith, st.short, one, two)))

  never_on : (last : DomainTree) → another_index_domain last [] ≡ None
  unfolding another_index_domain matrix_follows says
  never_on last = refl

  behind_it : (last : DomainTree) (z z2 : List Lexeme) → length z < length c.one → DomainTurns last z z2
  behind_it last [] z2 p = ends_alone (never_on last) (few_behind [] p)
  behind_it last (l ∷ rest) z2 p = by (says_word (codes ",") l.saying) (says_word (codes "]") l.saying) (Follows rest) refl refl refl
    where
      still : length (behind (behind rest)) < length c.one
      still = let one = behind_less c rest in let two = behind_less c (behind rest) in omega (arith, p, one, two)

      by : (a b d : Bool) → says_word (codes ",") l.saying ≡ a → says_word (codes "]") l.saying ≡ b → Follows rest ≡ d → DomainTurns last (l ∷ rest) z2
      by true b d e k h = goes_past last l rest z2 true b d e k h refl (λ _. omega (arith, p)) (λ _. still)
      by false true true e k h = goes_past last l rest z2 false true true e k h refl (λ _. omega (arith, p)) (λ _. still)
      by false true false e k h = ends_alone (goes_by last l rest false true false e k h) (few_behind (l ∷ rest) p)
      by false false d e k h = ends_alone (goes_by last l rest false false d e k h) (few_behind (l ∷ rest) p)

  at_its_end : (last : DomainTree) (z : List Lexeme) → z ≡ c.one → DomainTurns last z []
  at_its_end last [] e = both_end (never_on last) (never_on last)
  at_its_end last (l ∷ rest) e = let long : suc (length rest) ≡ length c.one = ap length e in by long (says_word (codes ",") l.saying) (says_word (codes "]") l.saying) (Follows rest) refl refl refl
    where
      still : suc (length rest) ≡ length c.one → length (behind (behind rest)) < length c.one
      still long = let one = behind_less c rest in let two = behind_less c (behind rest) in omega (arith, long, one, two)

      by : suc (length rest) ≡ length c.one → (a b d : Bool) → says_word (codes ",") l.saying ≡ a → says_word (codes "]") l.saying ≡ b → Follows rest ≡ d → DomainTurns last (l ∷ rest) []
      by long true b d e k h = goes_past last l rest [] true b d e k h refl (λ _. omega (arith, long)) (λ _. still long)
      by long false true true e k h = goes_past last l rest [] false true true e k h refl (λ _. omega (arith, long)) (λ _. still long)
      by long false true false e k h = both_end (goes_by last l rest false true false e k h) (never_on last)
      by long false false d e k h = both_end (goes_by last l rest false false d e k h) (never_on last)

  both_follow : (rest : List Lexeme) → says (codes "of") rest ≡ true → says (codes "matrix") (behind rest) ≡ true → Follows rest ≡ true
  both_follow rest e k = ap (λ z. z && says (codes "matrix") (behind rest)) e ∙ k

  no_of : (rest : List Lexeme) → says (codes "of") rest ≡ false → Follows rest ≡ false
  no_of rest e = ap (λ z. z && says (codes "matrix") (behind rest)) e

  no_matrix : (rest : List Lexeme) → says (codes "of") rest ≡ true → says (codes "matrix") (behind rest) ≡ false → Follows rest ≡ false
  no_matrix rest e k = ap (λ z. z && says (codes "matrix") (behind rest)) e ∙ k

  closing_turn : (last : DomainTree) (l : Lexeme) (rest rest2 : List Lexeme) → says_word (codes ",") l.saying ≡ false → says_word (codes "]") l.saying ≡ true → SaysSo c (codes "of") rest rest2 → DomainTurns last (l ∷ rest) (l ∷ rest2)
  closing_turn last l rest rest2 e k (both_say x x2 u) = by (says_so c (codes "matrix") (behind rest) (behind rest2) u)
    where
      by : SaysSo c (codes "matrix") (behind rest) (behind rest2) → DomainTurns last (l ∷ rest) (l ∷ rest2)
      by (both_say y y2 v) =
          both_go (length rest) (l ∷ rest) (l ∷ rest2) (goes_by last l rest false true true e k (both_follow rest x y)) (goes_by last l rest2 false true true e k (both_follow rest2 x2 y2)) refl
          (item_steady last l rest rest2 false e (λ wrong. let no : false ≡ true = wrong in absurd cc) (λ _. v))
      by (neither_says y y2) = both_end (goes_by last l rest false true false e k (no_matrix rest x y)) (goes_by last l rest2 false true false e k (no_matrix rest2 x2 y2))
      by (says_past y p) = goes_past last l rest (l ∷ rest2) false true true e k (both_follow rest x y) refl (λ wrong. let no : false ≡ true = wrong in absurd cc) (λ _. p)
      by (silent_past y p) = ends_alone (goes_by last l rest false true false e k (no_matrix rest x y)) (closes_of l rest k x p)
  closing_turn last l rest rest2 e k (neither_says x x2) = both_end (goes_by last l rest false true false e k (no_of rest x)) (goes_by last l rest2 false true false e k (no_of rest2 x2))
  closing_turn last l rest rest2 e k (says_past x p) = by (says (codes "matrix") (behind rest)) refl
    where
      by : (b : Bool) → says (codes "matrix") (behind rest) ≡ b → DomainTurns last (l ∷ rest) (l ∷ rest2)
      by true y = goes_past last l rest (l ∷ rest2) false true true e k (both_follow rest x y) refl (λ wrong. let no : false ≡ true = wrong in absurd cc) (λ _. let le = behind_less c (behind rest) in omega (arith, le, p))
      by false y = ends_alone (goes_by last l rest false true false e k (no_matrix rest x y)) (closes_of l rest k x p)
  closing_turn last l rest rest2 e k (silent_past x p) = ends_alone (goes_by last l rest false true false e k (no_of rest x)) (closes_only l rest k p)

  before_it : (last : DomainTree) (l : Lexeme) (rest rest2 : List Lexeme) → Cuts c rest rest2 → (a b : Bool) → says_word (codes ",") l.saying ≡ a → says_word (codes "]") l.saying ≡ b → DomainTurns last (l ∷ rest) (l ∷ rest2)
  before_it last l rest rest2 s true b e k =
      both_go (length rest) (l ∷ rest) (l ∷ rest2) (goes_by last l rest true b (Follows rest) e k refl) (goes_by last l rest2 true b (Follows rest2) e k refl) refl
      (item_steady last l rest rest2 true e (λ _. s) (λ wrong. let no : true ≡ false = wrong in absurd cc))
  before_it last l rest rest2 s false true e k = closing_turn last l rest rest2 e k (says_so c (codes "of") rest rest2 s)
  before_it last l rest rest2 s false false e k = both_end (goes_by last l rest false false (Follows rest) e k refl) (goes_by last l rest2 false false (Follows rest2) e k refl)

  domain_turn : (last : DomainTree) (ls ls2 : List Lexeme) → Cuts c ls ls2 → DomainTurns last ls ls2
  domain_turn last ls ls2 s = go (look c ls ls2 s)
    where
      go : Look c ls ls2 → DomainTurns last ls ls2
      go (gone p) = behind_it last ls ls2 p
      go (head l rest rest2 e e2 t) =
          subst (λ z. DomainTurns last z ls2) (sym e) (subst (λ z. DomainTurns last (l ∷ rest) z) (sym e2) (before_it last l rest rest2 t (says_word (codes ",") l.saying) (says_word (codes "]") l.saying) refl refl))
      go (at_end inexact e e2) = subst (λ z. DomainTurns last ls z) (sym e2) (at_its_end last ls e)

  -- what is read behind the index domains
  abbrev Elements : Lower → Place → DomainTree → List DomainTree → Reader DomainTree
  Elements lower p d ds end =
      word_from (codes "]") end and_then λ _ of_word. word_from (codes "of") of_word and_then λ _ elements.
      lower.domain set_operations elements and_then λ element after. took (matrix_domain p (as_domains (d ∷ ds)) element) after

  elements_steady : (p : Place) (d : DomainTree) (ds : List DomainTree) (ls ls2 : List Lexeme) → Cuts c ls ls2 → Steady c (length ls) (Elements low p d ds ls) (Elements low2 p d ds ls2)
  elements_steady p d ds ls ls2 s =
      steady_then c (length ls) (word_from (codes "]") ls) (word_from (codes "]") ls2) _ _ (word_steady c (codes "]") ls ls2 s)
      (λ q a a2 le t. steady_then c (length a) (word_from (codes "of") a) (word_from (codes "of") a2) _ _ (word_steady c (codes "of") a a2 t)
      (λ q b b2 le u. domain_made_steady c less low low2 good set_operations (λ element. matrix_domain p (as_domains (d ∷ ds)) element) b b2 u))

  elements_past : (p : Place) (d : DomainTree) (ds : List DomainTree) (ls : List Lexeme) → EndsPast ls → length (left_by (Elements low p d ds ls)) < length c.one
  elements_past p d ds ls past = by (word_from (codes "]") ls) past
    where
      by_of : (r : Read Place) → length (left_by r) < length c.one
          → length (left_by (r and_then λ _ elements. low.domain set_operations elements and_then λ element after. took (matrix_domain p (as_domains (d ∷ ds)) element) after)) < length c.one
      by_of (took q z) lt = let st = domain_made_steady c less low low2 good set_operations (λ element. matrix_domain p (as_domains (d ∷ ds)) element) z [] (behind_cut lt) in omega (arith, st.short, lt)
      by_of (wrong z) lt = lt
      by_of (high z) lt = lt

      by : (r : Read Place) → length (left_by (r and_then λ _ of_word. word_from (codes "of") of_word)) < length c.one
          → length (left_by (r and_then λ _ of_word. word_from (codes "of") of_word and_then λ _ elements. low.domain set_operations elements and_then λ element after. took (matrix_domain p (as_domains (d ∷ ds)) element) after)) < length c.one
      by (took q z) lt = by_of (word_from (codes "of") z) lt
      by (wrong z) lt = lt
      by (high z) lt = lt

  matrix_steady : (p : Place) (ls ls2 : List Lexeme) → Cuts c ls ls2 → Steady c (length ls) (matrix_from low p ls) (matrix_from low2 p ls2)
  unfolding matrix_from
  matrix_steady p ls ls2 s =
      steady_then c (length ls) (matrix_head_from ls) (matrix_head_from ls2) _ _ (head_steady ls ls2 s)
      (λ q a a2 le t. steady_then c (length a) (low.domain set_operations a) (low2.domain set_operations a2) _ _ (good.domain set_operations a a2 t)
      (λ d b b2 le u. others_steady c DomainTree another_index_domain (λ last. index_domain_behind low) (λ last. index_domain_behind low2) EndsPast never_on domain_turn
      (Elements low p d) (Elements low2 p d) (elements_steady p d) (elements_past p d) d b b2 u))

  module _ (most most2 : ℕ) (higher : Higher c most most2) where
    abbrev RightPart : Lower → DomainTree → SetOp → Reader DomainTree
    RightPart lower x op z = lower.domain set_parts z and_then λ d rest. took (set_domain (place_of_domain x) op x d) rest

    operations_steady : (ls ls2 : List Lexeme) → Cuts c ls ls2 → Steady c (length ls) (operations_from most low ls) (operations_from most2 low2 ls2)
    unfolding operations_from another_operation next_in
    operations_steady ls ls2 s =
        steady_then c (length ls) _ _ _ _ (domain_part_steady (nat_lt 1 most) (nat_lt 1 most2) (below_tests c 1 most most2 higher) ls ls2 s)
        (λ d r r2 le t. grown_steady c (another_operation most low) (another_operation most2 low2) (λ x. refl) (λ x. refl)
        (λ x l rest rest2 u. steps_operated c true (meant_by set_words l.saying) (nat_lt (domain_height x) most) (nat_lt (domain_height x) most2) (RightPart low x) (RightPart low2 x) l rest rest2 (below_tests c (domain_height x) most most2 higher)
        (λ op. domain_made_steady c less low low2 good set_parts (set_domain (place_of_domain x) op x) rest rest2 u)) d r r2 t)

    any_steady : (ls ls2 : List Lexeme) → Cuts c ls ls2 → Steady c (length ls) (any_domain_from most low ls) (any_domain_from most2 low2 ls2)
    unfolding any_domain_from says
    any_steady ls ls2 s =
        decided c (any_domain_from most low) (any_domain_from most2 low2) (operations_from most low) (operations_from most2 low2) refl refl
        (λ l rest rest2 t. go l rest rest2 t (says_word (codes "matrix") l.saying) (nat_lt 1 most) (nat_lt 1 most2) (below_tests c 1 most most2 higher)) ls ls2 s (operations_steady ls ls2 s)
      where
        go : (l : Lexeme) (rest rest2 : List Lexeme) → Cuts c rest rest2 → (b t t2 : Bool) → Tests c t t2
            → Decides c (length rest) (either_reader b (if_low t (λ all. matrix_from low (place_next all) (behind all))) (operations_from most low) (l ∷ rest)) (either_reader b (if_low t2 (λ all. matrix_from low2 (place_next all) (behind all))) (operations_from most2 low2) (l ∷ rest2))
            (operations_from most low (l ∷ rest)) (operations_from most2 low2 (l ∷ rest2)) (l ∷ rest) (l ∷ rest2)
        go l rest rest2 u false t t2 tests = neither refl refl
        go l rest rest2 u true true true tests = inside (matrix_steady l.place rest rest2 u)
        go l rest rest2 u true true false tests = let no : false ≡ true = tests.higher refl in absurd cc
        go l rest rest2 u true false t2 tests = too_high refl (λ x. ap (λ z. if_low z (λ all. matrix_from low2 (place_next all) (behind all)) (l ∷ rest2)) (tests.alike x))

    pub domain_level_steady : (level : DomainLevel) (ls ls2 : List Lexeme) → Cuts c ls ls2 → Steady c (length ls) (domain_at_level most low level ls) (domain_at_level most2 low2 level ls2)
    unfolding domain_at_level
    domain_level_steady domains ls ls2 s = any_steady ls ls2 s
    domain_level_steady set_operations ls ls2 s = operations_steady ls ls2 s
    domain_level_steady set_parts ls ls2 s = domain_part_steady (nat_lt 1 most) (nat_lt 1 most2) (below_tests c 1 most most2 higher) ls ls2 s
