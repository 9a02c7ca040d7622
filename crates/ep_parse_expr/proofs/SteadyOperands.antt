-- The readers of operands stop at a token for what stands before it and for that token alone.
use Rattle.std.specs.Prelude.{◌≡◌, ℕ, suc, ◌≤◌, ◌<◌, ◌⊎◌, Bool, true, false, List, [], ◌∷◌, length, Option, Some, None, codes, refl}
use Rattle.std.proofs.Common.{ap, arith, inl, inr, sym, subst, ◌∙◌}
use Rattle.ep_base.specs.declared.names.Name.{Name}
use Rattle.ep_base.specs.declared.places.Place.{Place}
use Rattle.ep_tree.specs.Phrases.{Lexeme, Saying, a_name, a_number, a_word}
use Rattle.ep_tree.specs.Spelling.{implications, rank, unaries}
use Rattle.ep_tree.specs.Trees.{ExprTree, absolute, comprehension, group, literal, minus, named, negation, no_trees, number, truth}
use Rattle.ep_tree.specs.declared.syntax.BinaryOp.{BinaryOp}
use Rattle.ep_tree.specs.declared.syntax.FoldOp.{FoldOp}
use Rattle.ep_parse_parts.specs.OperandReaders.{Lower, Opening, a_bar, a_bracket, a_greatest, a_group, a_least, a_minus, a_negation, a_quantifier, a_sum, a_table, a_truth, as_generators, as_trees, begun_from, bracket_from, closed_by, comprehension_from, expression_next, if_low, is_there, list_end, literal_from, of_one, of_three, one_part, open_from, opened_from, openings, operand_from, opens}
use Rattle.ep_parse_parts.specs.Readers.{Read, Reader, behind, either_reader, high, looked_up, says, took, wrong, ◌and_then◌}
use Rattle.ep_parse_parts.proofs.Again.{AreComplete, lexeme}
use Rattle.ep_parse_parts.proofs.AgainOperands.{some_expr}
use Rattle.ep_parse_parts.proofs.SoundParts.{AreSound}
use Rattle.ep_parse_expr.proofs.Steady.{Cut, Cuts, Decides, Look, Steady, Tests, at_end, behind_cut, behind_too, decided, gone, head, high_alone, inside, left_by, look, neither, next_word_steady, no_test, steady_after, steady_then, took_steady, too_high, wrong_steady}
use Rattle.ep_parse_expr.proofs.SteadyColons.{generators_steady}
use Rattle.ep_parse_expr.proofs.SteadyParts.{AreSteady, call_of_two_steady, call_steady, closed_steady, generator_steady, list_end_steady, literal_steady, made_steady, quantifier_steady, sum_steady, table_steady, three_steady}

module _ (c : Cut) (less : ℕ) (low low2 : Lower) (complete : AreComplete less low) (sound : AreSound less low) (good : AreSteady c less low low2) where
  -- an expression in a word and another
  enclosed_steady : (bytes : List ℕ) (make : ExprTree → ExprTree) (ls ls2 : List Lexeme) → Cuts c ls ls2
      → Steady c (length ls) (low.expr implications ls and_then λ e. closed_by bytes (make e)) (low2.expr implications ls2 and_then λ e. closed_by bytes (make e))
  enclosed_steady bytes make ls ls2 s =
      steady_then c (length ls) (low.expr implications ls) (low2.expr implications ls2) _ _ (good.expr implications ls ls2 s) (λ e r r2 le t. closed_steady c bytes (make e) r r2 t)

  comprehension_steady : 1 ≤ less → (t t2 : Bool) → Tests c t t2 → (p : Place) (e : ExprTree) (ls ls2 : List Lexeme) → Cuts c ls ls2 → Steady c (length ls) (comprehension_from t low p e ls) (comprehension_from t2 low2 p e ls2)
  unfolding comprehension_from
  comprehension_steady some t t2 tests p e ls ls2 s =
      steady_then c (length ls) _ _ _ _ (generator_steady c less low low2 good ls ls2 s)
      (λ g r r2 le u. generators_steady c less low low2 complete good some
      (λ gens conditions. list_end t low (comprehension p e (as_generators (g ∷ gens)) (as_trees conditions)))
      (λ gens conditions. list_end t2 low2 (comprehension p e (as_generators (g ∷ gens)) (as_trees conditions)))
      (λ gens conditions z z2 v. list_end_steady c less low low2 good t t2 tests (comprehension p e (as_generators (g ∷ gens)) (as_trees conditions)) z z2 v) g r r2 u)

  some_less : (e : ExprTree) (ls rest : List Lexeme) → low.expr implications ls ≡ took e rest → 1 ≤ less
  unfolding rank
  some_less e ls rest is = let h = (sound.expr implications refl ls).holds e rest is in omega (arith, some_expr e, h.low)

  -- a list or a comprehension behind its first expression
  abbrev BehindFirst : Bool → Lower → Place → ExprTree → Reader ExprTree
  BehindFirst t lower p e rest = either_reader (says (codes "|") rest) (λ next. comprehension_from t lower p e (behind next)) (literal_from t lower p e) rest

  abbrev Listed : Bool → Lower → Place → Reader ExprTree
  Listed t lower p ls = lower.expr implications ls and_then BehindFirst t lower p

  behind_first_steady : 1 ≤ less → (t t2 : Bool) → Tests c t t2 → (p : Place) (e : ExprTree) (ls ls2 : List Lexeme) → Cuts c ls ls2 → Steady c (length ls) (BehindFirst t low p e ls) (BehindFirst t2 low2 p e ls2)
  behind_first_steady some t t2 tests p e ls ls2 s =
      next_word_steady c (codes "|") (comprehension_from t low p e) (comprehension_from t2 low2 p e) (literal_from t low p e) (literal_from t2 low2 p e)
      (λ z z2 v. comprehension_steady some t t2 tests p e z z2 v) ls ls2 s (literal_steady c less low low2 good t t2 tests p e ls ls2 s)

  listed_steady : (t t2 : Bool) → Tests c t t2 → (p : Place) (ls ls2 : List Lexeme) → Cuts c ls ls2 → Steady c (length ls) (Listed t low p ls) (Listed t2 low2 p ls2)
  listed_steady t t2 tests p ls ls2 s =
      steady_after c (length ls) (low.expr implications ls) (low2.expr implications ls2) (BehindFirst t low p) (BehindFirst t2 low2 p) (good.expr implications ls ls2 s)
      (λ e r r2 is le u. behind_first_steady (some_less e ls r is) t t2 tests p e r r2 u)

  listed_alone : (t t2 : Bool) → Tests c t t2 → (p : Place) (l : Lexeme) (rest : List Lexeme) (r2 : Read ExprTree) → c.exact ≡ false → length rest < length c.one → opens l.saying ≡ true
      → Steady c (length (l ∷ rest)) (Listed t low p (l ∷ rest)) r2
  listed_alone t t2 tests p l rest r2 inexact lt o = go (good.begun l rest o)
    where
      go : ((low.expr implications (l ∷ rest) ≡ high (l ∷ rest)) ⊎ (length (left_by (low.expr implications (l ∷ rest))) ≤ length rest)) → Steady c (length (l ∷ rest)) (Listed t low p (l ∷ rest)) r2
      go (inl e) =
          let is : Listed t low p (l ∷ rest) ≡ high (l ∷ rest) = ap (λ z. z and_then BehindFirst t low p) e in
          subst (λ z. Steady c (length (l ∷ rest)) z r2) (sym is) (record { short = omega arith; stops = high_alone (l ∷ rest) refl inexact })
      go (inr le) =
          let st : Steady c (length rest) (Listed t low p (l ∷ rest)) (wrong [] and_then BehindFirst t2 low2 p) =
          steady_after c (length rest) (low.expr implications (l ∷ rest)) (wrong []) (BehindFirst t low p) (BehindFirst t2 low2 p) (record { short = le; stops = behind_too (omega (arith, le, lt)) })
          (λ e r r2 is le u. behind_first_steady (some_less e (l ∷ rest) r is) t t2 tests p e r r2 u) in
          record { short = omega (arith, st.short); stops = behind_too (omega (arith, st.short, lt)) }

  pub bracket_steady : (t t2 : Bool) → Tests c t t2 → (p : Place) (ls ls2 : List Lexeme) → Cuts c ls ls2 → Steady c (length ls) (bracket_from t low p ls) (bracket_from t2 low2 p ls2)
  unfolding bracket_from expression_next
  bracket_steady t t2 tests p ls ls2 s = go (look c ls ls2 s)
    where
      both : (b : Bool) → Steady c (length ls) (either_reader b (Listed t low p) (list_end t low (literal p no_trees)) ls) (either_reader b (Listed t2 low2 p) (list_end t2 low2 (literal p no_trees)) ls2)
      both true = listed_steady t t2 tests p ls ls2 s
      both false = list_end_steady c less low low2 good t t2 tests (literal p no_trees) ls ls2 s

      at_last : (z : List Lexeme) → z ≡ c.one → c.exact ≡ false → Cuts c z []
          → Steady c (length z) (either_reader (expression_next z) (Listed t low p) (list_end t low (literal p no_trees)) z) (list_end t2 low2 (literal p no_trees) [])
      at_last [] e inexact s = list_end_steady c less low low2 good t t2 tests (literal p no_trees) [] [] s
      at_last (l ∷ rest) e inexact s = let long : suc (length rest) ≡ length c.one = ap length e in by long (opens l.saying) refl
        where
          by : suc (length rest) ≡ length c.one → (b : Bool) → opens l.saying ≡ b → Steady c (length (l ∷ rest)) (either_reader b (Listed t low p) (list_end t low (literal p no_trees)) (l ∷ rest)) (list_end t2 low2 (literal p no_trees) [])
          by long true o = listed_alone t t2 tests p l rest (list_end t2 low2 (literal p no_trees) []) inexact (omega (arith, long)) o
          by long false o = list_end_steady c less low low2 good t t2 tests (literal p no_trees) (l ∷ rest) [] s

      go : Look c ls ls2 → Steady c (length ls) (either_reader (expression_next ls) (Listed t low p) (list_end t low (literal p no_trees)) ls) (either_reader (expression_next ls2) (Listed t2 low2 p) (list_end t2 low2 (literal p no_trees)) ls2)
      go (gone q) = let st = both (expression_next ls) in record { short = st.short; stops = behind_too (omega (arith, st.short, q)) }
      go (head l rest rest2 e e2 u) =
          let same : expression_next ls2 ≡ expression_next ls = ap expression_next e2 ∙ sym (ap expression_next e) in
          subst (λ z. Steady c (length ls) (either_reader (expression_next ls) (Listed t low p) (list_end t low (literal p no_trees)) ls) (either_reader z (Listed t2 low2 p) (list_end t2 low2 (literal p no_trees)) ls2)) (sym same) (both (expression_next ls))
      go (at_end inexact e e2) =
          subst (λ z. Steady c (length ls) (either_reader (expression_next ls) (Listed t low p) (list_end t low (literal p no_trees)) ls) (either_reader (expression_next z) (Listed t2 low2 p) (list_end t2 low2 (literal p no_trees)) z)) (sym e2)
          (at_last ls e inexact (subst (λ z. Cuts c ls z) e2 s))

  -- ---- what a word opens

  opened_steady : (p : Place) (what : Opening) (ls ls2 : List Lexeme) → Cuts c ls ls2 → Steady c (length ls) (opened_from low p what ls) (opened_from low2 p what ls2)
  unfolding opened_from
  opened_steady p (a_truth b) ls ls2 s = took_steady c (truth p b) ls ls2 s
  opened_steady p a_bracket ls ls2 s = bracket_steady true true (no_test c true) p ls ls2 s
  opened_steady p a_group ls ls2 s = enclosed_steady (codes ")") (group p) ls ls2 s
  opened_steady p a_bar ls ls2 s = enclosed_steady (codes "|") (absolute p) ls ls2 s
  opened_steady p a_negation ls ls2 s = made_steady c less low low2 good unaries (negation p) ls ls2 s
  opened_steady p a_minus ls ls2 s = made_steady c less low low2 good unaries (minus p) ls ls2 s
  opened_steady p (a_quantifier op) ls ls2 s = quantifier_steady c less low low2 good op p ls ls2 s
  opened_steady p a_sum ls ls2 s = sum_steady c less low low2 good p ls ls2 s
  opened_steady p (of_one what) ls ls2 s = call_steady c less low low2 good (one_part what p) ls ls2 s
  opened_steady p a_least ls ls2 s = call_of_two_steady c less low low2 good FoldOp.Min BinaryOp.Min p ls ls2 s
  opened_steady p a_greatest ls ls2 s = call_of_two_steady c less low low2 good FoldOp.Max BinaryOp.Max p ls ls2 s
  opened_steady p a_table ls ls2 s = table_steady c less low low2 good p ls ls2 s
  opened_steady p (of_three what) ls ls2 s = three_steady c less low low2 good what p ls ls2 s

  -- what a token begins, of two lists that begin with it
  abbrev Begun : Bool → Bool → Saying → Lexeme → List Lexeme → List Lexeme → Type 0
  Begun t t2 s l rest rest2 =
      Decides c (length rest) (begun_from t low l.place s rest (l ∷ rest)) (begun_from t2 low2 l.place s rest2 (l ∷ rest2)) (wrong (l ∷ rest)) (wrong (l ∷ rest2)) (l ∷ rest) (l ∷ rest2)

  -- the same of what a word opens
  abbrev OpenedSo : Bool → Bool → Option Opening → Lexeme → List Lexeme → List Lexeme → Type 0
  OpenedSo t t2 o l rest rest2 =
      Decides c (length rest) (open_from t low l.place o rest (l ∷ rest)) (open_from t2 low2 l.place o rest2 (l ∷ rest2)) (wrong (l ∷ rest)) (wrong (l ∷ rest2)) (l ∷ rest) (l ∷ rest2)

  tested : {A : Type 0} (t t2 : Bool) (one one2 : Reader A) (none none2 : Read A) (l : Lexeme) (rest rest2 : List Lexeme) → Tests c t t2 → Steady c (length rest) (one (l ∷ rest)) (one2 (l ∷ rest2))
      → Decides c (length rest) (if_low t one (l ∷ rest)) (if_low t2 one2 (l ∷ rest2)) none none2 (l ∷ rest) (l ∷ rest2)
  tested true true one one2 none none2 l rest rest2 tests st = inside st
  tested true false one one2 none none2 l rest rest2 tests st = let no : false ≡ true = tests.higher refl in absurd cc
  tested false t2 one one2 none none2 l rest rest2 tests st = too_high refl (λ x. ap (λ z. if_low z one2 (l ∷ rest2)) (tests.alike x))

  open_steady : (t t2 : Bool) → Tests c t t2 → (o : Option Opening) (l : Lexeme) (rest rest2 : List Lexeme) → Cuts c rest rest2 → OpenedSo t t2 o l rest rest2
  unfolding open_from
  open_steady t t2 tests None l rest rest2 s = neither refl refl
  open_steady t t2 tests (Some (a_truth b)) l rest rest2 s = inside (took_steady c (truth l.place b) rest rest2 s)
  open_steady t t2 tests (Some a_bracket) l rest rest2 s = inside (bracket_steady t t2 tests l.place rest rest2 s)
  open_steady t t2 tests (Some a_group) l rest rest2 s = tested t t2 _ _ _ _ l rest rest2 tests (opened_steady l.place a_group rest rest2 s)
  open_steady t t2 tests (Some a_bar) l rest rest2 s = tested t t2 _ _ _ _ l rest rest2 tests (opened_steady l.place a_bar rest rest2 s)
  open_steady t t2 tests (Some a_negation) l rest rest2 s = tested t t2 _ _ _ _ l rest rest2 tests (opened_steady l.place a_negation rest rest2 s)
  open_steady t t2 tests (Some a_minus) l rest rest2 s = tested t t2 _ _ _ _ l rest rest2 tests (opened_steady l.place a_minus rest rest2 s)
  open_steady t t2 tests (Some (a_quantifier op)) l rest rest2 s = tested t t2 _ _ _ _ l rest rest2 tests (opened_steady l.place (a_quantifier op) rest rest2 s)
  open_steady t t2 tests (Some a_sum) l rest rest2 s = tested t t2 _ _ _ _ l rest rest2 tests (opened_steady l.place a_sum rest rest2 s)
  open_steady t t2 tests (Some (of_one what)) l rest rest2 s = tested t t2 _ _ _ _ l rest rest2 tests (opened_steady l.place (of_one what) rest rest2 s)
  open_steady t t2 tests (Some a_least) l rest rest2 s = tested t t2 _ _ _ _ l rest rest2 tests (opened_steady l.place a_least rest rest2 s)
  open_steady t t2 tests (Some a_greatest) l rest rest2 s = tested t t2 _ _ _ _ l rest rest2 tests (opened_steady l.place a_greatest rest rest2 s)
  open_steady t t2 tests (Some a_table) l rest rest2 s = tested t t2 _ _ _ _ l rest rest2 tests (opened_steady l.place a_table rest rest2 s)
  open_steady t t2 tests (Some (of_three what)) l rest rest2 s = tested t t2 _ _ _ _ l rest rest2 tests (opened_steady l.place (of_three what) rest rest2 s)

  begun_steady : (t t2 : Bool) → Tests c t t2 → (s : Saying) (l : Lexeme) (rest rest2 : List Lexeme) → Cuts c rest rest2 → Begun t t2 s l rest rest2
  unfolding begun_from
  begun_steady t t2 tests (a_name x) l rest rest2 s = inside (took_steady c (named l.place x) rest rest2 s)
  begun_steady t t2 tests (a_number n) l rest rest2 s = inside (took_steady c (number l.place n) rest rest2 s)
  begun_steady t t2 tests (a_word w) l rest rest2 s = open_steady t t2 tests (looked_up openings w) l rest rest2 s

  pub operand_steady : (t t2 : Bool) → Tests c t t2 → (ls ls2 : List Lexeme) → Cuts c ls ls2 → Steady c (length ls) (operand_from t low ls) (operand_from t2 low2 ls2)
  unfolding operand_from
  operand_steady t t2 tests ls ls2 s =
      decided c (operand_from t low) (operand_from t2 low2) (λ z. wrong z) (λ z. wrong z) refl refl (λ l rest rest2 u. begun_steady t t2 tests l.saying l rest rest2 u) ls ls2 s (wrong_steady c ls ls2 s)

  -- what begins an expression is taken, or it is too high
  abbrev pub TakenSo : Read ExprTree → Lexeme → List Lexeme → Type 0
  TakenSo r l rest = (r ≡ high (l ∷ rest)) ⊎ (length (left_by r) ≤ length rest)

  taken_if : (t : Bool) (one : Reader ExprTree) (l : Lexeme) (rest : List Lexeme) → length (left_by (one (l ∷ rest))) ≤ length rest → TakenSo (if_low t one (l ∷ rest)) l rest
  taken_if true one l rest le = inr le
  taken_if false one l rest le = inl refl

  opening_begun : (t : Bool) (what : Opening) (l : Lexeme) (rest : List Lexeme) → length rest < length c.one → TakenSo (open_from t low l.place (Some what) rest (l ∷ rest)) l rest
  unfolding open_from
  opening_begun t (a_truth b) l rest lt = inr (omega arith)
  opening_begun t a_bracket l rest lt = let st = bracket_steady t t (no_test c t) l.place rest [] (behind_cut lt) in inr st.short
  opening_begun t a_group l rest lt = let st = opened_steady l.place a_group rest [] (behind_cut lt) in taken_if t _ l rest st.short
  opening_begun t a_bar l rest lt = let st = opened_steady l.place a_bar rest [] (behind_cut lt) in taken_if t _ l rest st.short
  opening_begun t a_negation l rest lt = let st = opened_steady l.place a_negation rest [] (behind_cut lt) in taken_if t _ l rest st.short
  opening_begun t a_minus l rest lt = let st = opened_steady l.place a_minus rest [] (behind_cut lt) in taken_if t _ l rest st.short
  opening_begun t (a_quantifier op) l rest lt = let st = opened_steady l.place (a_quantifier op) rest [] (behind_cut lt) in taken_if t _ l rest st.short
  opening_begun t a_sum l rest lt = let st = opened_steady l.place a_sum rest [] (behind_cut lt) in taken_if t _ l rest st.short
  opening_begun t (of_one what) l rest lt = let st = opened_steady l.place (of_one what) rest [] (behind_cut lt) in taken_if t _ l rest st.short
  opening_begun t a_least l rest lt = let st = opened_steady l.place a_least rest [] (behind_cut lt) in taken_if t _ l rest st.short
  opening_begun t a_greatest l rest lt = let st = opened_steady l.place a_greatest rest [] (behind_cut lt) in taken_if t _ l rest st.short
  opening_begun t a_table l rest lt = let st = opened_steady l.place a_table rest [] (behind_cut lt) in taken_if t _ l rest st.short
  opening_begun t (of_three what) l rest lt = let st = opened_steady l.place (of_three what) rest [] (behind_cut lt) in taken_if t _ l rest st.short

  pub operand_begun : (t : Bool) (l : Lexeme) (rest : List Lexeme) → length rest < length c.one → opens l.saying ≡ true → TakenSo (operand_from t low (l ∷ rest)) l rest
  unfolding operand_from begun_from
  operand_begun t l rest lt o = go l.saying refl o
    where
      by : (w : List ℕ) (r : Option Opening) → is_there r ≡ true → TakenSo (open_from t low l.place r rest (l ∷ rest)) l rest
      by w None e = let no : false ≡ true = e in absurd cc
      by w (Some what) e = opening_begun t what l rest lt

      go : (s : Saying) → l.saying ≡ s → opens s ≡ true → TakenSo (begun_from t low l.place s rest (l ∷ rest)) l rest
      go (a_name x) e o = inr (omega arith)
      go (a_number n) e o = inr (omega arith)
      go (a_word w) e o = by w (looked_up openings w) o

  -- and a name is taken
  pub operand_named : (t : Bool) (p : Place) (x : Name) (rest : List Lexeme) → length (left_by (operand_from t low (lexeme p (a_name x) ∷ rest))) ≤ length rest
  unfolding operand_from begun_from
  operand_named t p x rest = omega arith
