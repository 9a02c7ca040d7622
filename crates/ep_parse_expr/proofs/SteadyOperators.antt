-- The readers of reads and operators stop at a token for what stands before it and for that token alone.
use Rattle.std.specs.Prelude.{◌≡◌, ℕ, suc, ◌≤◌, ◌<◌, ◌⊎◌, Bool, true, false, not, ◌&&◌, List, [], ◌∷◌, length, nat_lt, Option, Some, None, bytes_eq, codes, refl}
use Rattle.std.proofs.Common.{ap, arith, inl, inr, sym, subst, ◌∙◌}
use Rattle.std.proofs.lemmas.Bool.Decides.{nat_tests}
use Rattle.std.proofs.lemmas.Slice.Eq.{bytes_eq-Decides}
use Rattle.ep_base.specs.declared.names.Name.{Name}
use Rattle.ep_base.specs.declared.places.Place.{Place}
use Rattle.ep_tree.specs.Heights.{height}
use Rattle.ep_tree.specs.Phrases.{Lexeme, Saying, a_name, a_number, a_word}
use Rattle.ep_tree.specs.Spelling.{Level, comparisons, conjunctions, disjunctions, ends_open, implications, powers, primaries, products, reads, set_operations, sums, unaries}
use Rattle.ep_tree.specs.Trees.{ExprTree, ExprTrees, all_of, any_of, binary, chain, compare, in_domain, in_set, lex, place_of, read, term_and}
use Rattle.ep_tree.specs.declared.syntax.BinaryOp.{BinaryOp}
use Rattle.ep_parse_parts.specs.OperandReaders.{Lower, as_trees, call_from, closed_by, if_low, is_there, operand_from, opens}
use Rattle.ep_parse_parts.specs.OperatorReaders.{Comparison, ReadIndex, another_binary, another_index, another_read, as_indices, as_terms, at_level, behind_operator, chain_from, compared_with, comparison_behind, comparison_from, comparison_words, conjunction_from, disjunction_from, implication_from, implication_words, index_from, of_lists, of_numbers, of_set, only_if, only_word, operated, part_from, parts_behind, parts_from, power_from, power_words, product_from, product_words, read_from, sign_words, takes_group, term_behind, term_from, terms_behind, terms_from, unary_from, with_operator}
use Rattle.ep_parse_parts.specs.Readers.{Read, Reader, behind, either_reader, found_or, grown, high, if_some, says_word, kept, kept_or, looked_up, meant_by, next_in, others_from, says, took, word_from, wrong, ◌and_then◌}
use Rattle.ep_parse_parts.proofs.Again.{AreComplete, lexeme}
use Rattle.ep_parse_parts.proofs.SoundParts.{AreSound}
use Rattle.ep_parse_expr.proofs.Steady.{Cut, Cuts, Decides, Look, Steady, Tests, at_end, behind_cut, decided, gone, head, inside, left_by, look, neither, next_word_steady, steady_then, took_steady, too_high, wider}
use Rattle.ep_parse_expr.proofs.SteadyLists.{StepsSo, Turns, a_step, both_end, both_go, ends_alone, goes_alone, grown_steady, high_step, no_step, others_steady}
use Rattle.ep_parse_expr.proofs.SteadyOperands.{TakenSo, operand_begun, operand_named, operand_steady}
use Rattle.ep_parse_expr.proofs.SteadyParts.{AreSteady, ItemsSo, an_item, call_steady, closed_steady, domain_made_steady, list_steady, made_steady, no_item}

-- the second height isn't lower, and is the same where the cut is exact
pub record Higher (c : Cut) (most most2 : ℕ) : Type 0 where
  pub le : most ≤ most2
  pub alike : c.exact ≡ true → most2 ≡ most

below_on : (n most most2 : ℕ) → most ≤ most2 → nat_lt n most ≡ true → nat_lt n most2 ≡ true
below_on n most most2 le h = grind (arith, nat_tests)

pub below_tests : (c : Cut) (n most most2 : ℕ) → Higher c most most2 → Tests c (nat_lt n most) (nat_lt n most2)
below_tests c n most most2 h = record { higher = below_on n most most2 h.le; alike = λ x. ap (λ m. nat_lt n m) (h.alike x) }

module _ (c : Cut) where
  steps_only_if : {A : Type 0} (b t t2 : Bool) (one one2 : Reader A) (l : Lexeme) (rest rest2 : List Lexeme) → Tests c t t2 → Steady c (length rest) (one (l ∷ rest)) (one2 (l ∷ rest2))
      → StepsSo c (length rest) (only_if b (if_low t one) (l ∷ rest)) (only_if b (if_low t2 one2) (l ∷ rest2)) (l ∷ rest) (l ∷ rest2)
  steps_only_if false t t2 one one2 l rest rest2 tests st = no_step refl refl
  steps_only_if true true true one one2 l rest rest2 tests st = a_step (one (l ∷ rest)) (one2 (l ∷ rest2)) refl refl st
  steps_only_if true true false one one2 l rest rest2 tests st = let no : false ≡ true = tests.higher refl in absurd cc
  steps_only_if true false t2 one one2 l rest rest2 tests st = high_step refl (λ x. ap (λ z. Some (if_low z one2 (l ∷ rest2))) (tests.alike x))

  pub steps_operated : {A B : Type 0} (closed : Bool) (o : Option A) (t t2 : Bool) (go go2 : A → Reader B) (l : Lexeme) (rest rest2 : List Lexeme) → Tests c t t2
      → ((op : A) → Steady c (length rest) (go op rest) (go2 op rest2))
      → StepsSo c (length rest) (operated closed o (λ op. if_low t (λ all. go op (behind all)) (l ∷ rest))) (operated closed o (λ op. if_low t2 (λ all. go2 op (behind all)) (l ∷ rest2))) (l ∷ rest) (l ∷ rest2)
  steps_operated true None t t2 go go2 l rest rest2 tests st = no_step refl refl
  steps_operated false None t t2 go go2 l rest rest2 tests st = no_step refl refl
  steps_operated false (Some op) t t2 go go2 l rest rest2 tests st = no_step refl refl
  steps_operated true (Some op) true true go go2 l rest rest2 tests st = a_step (go op rest) (go2 op rest2) refl refl (st op)
  steps_operated true (Some op) true false go go2 l rest rest2 tests st = let no : false ≡ true = tests.higher refl in absurd cc
  steps_operated true (Some op) false t2 go go2 l rest rest2 tests st = high_step refl (λ x. ap (λ z. Some (if_low z (λ all. go2 op (behind all)) (l ∷ rest2))) (tests.alike x))

  -- ---- behind a word

  pub behind_less : (ls : List Lexeme) → length (behind ls) ≤ length ls
  behind_less [] = omega arith
  behind_less (l ∷ ls) = omega arith

  pub behind_said : (w : List ℕ) (ls : List Lexeme) → says w ls ≡ true → length (behind ls) < length ls
  unfolding says
  behind_said w [] e = absurd cc
  behind_said w (l ∷ ls) e = omega arith

  -- what two lists say at one place
  pub data SaysSo (w : List ℕ) (ls ls2 : List Lexeme) : Type 0 where
    both_say : says w ls ≡ true → says w ls2 ≡ true → Cuts c (behind ls) (behind ls2) → SaysSo w ls ls2
    neither_says : says w ls ≡ false → says w ls2 ≡ false → SaysSo w ls ls2
    says_past : says w ls ≡ true → length (behind ls) < length c.one → SaysSo w ls ls2
    silent_past : says w ls ≡ false → length ls < length c.one → SaysSo w ls ls2

  pub says_so : (w : List ℕ) (ls ls2 : List Lexeme) → Cuts c ls ls2 → SaysSo w ls ls2
  unfolding says
  says_so w ls ls2 s = go (look c ls ls2 s)
    where
      by_one : (b : Bool) → says w ls ≡ b → length ls < length c.one → SaysSo w ls ls2
      by_one true e p = says_past e (let le = behind_less ls in omega (arith, le, p))
      by_one false e p = silent_past e p

      by_end : (b : Bool) → says w ls ≡ b → ls ≡ c.one → ls2 ≡ [] → SaysSo w ls ls2
      by_end true e k k2 = let long : length ls ≡ length c.one = ap length k in says_past e (let lt = behind_said w ls e in omega (arith, lt, long))
      by_end false e k k2 = neither_says e (ap (says w) k2)

      by_head : (l : Lexeme) (rest rest2 : List Lexeme) → ls ≡ l ∷ rest → ls2 ≡ l ∷ rest2 → Cuts c rest rest2 → (b : Bool) → says_word w l.saying ≡ b → SaysSo w ls ls2
      by_head l rest rest2 e e2 t true k = both_say (ap (says w) e ∙ k) (ap (says w) e2 ∙ k) (subst (λ z. Cuts c (behind z) (behind ls2)) (sym e) (subst (λ z. Cuts c rest (behind z)) (sym e2) t))
      by_head l rest rest2 e e2 t false k = neither_says (ap (says w) e ∙ k) (ap (says w) e2 ∙ k)

      go : Look c ls ls2 → SaysSo w ls ls2
      go (gone p) = by_one (says w ls) refl p
      go (head l rest rest2 e e2 t) = by_head l rest rest2 e e2 t (says_word w l.saying) refl
      go (at_end inexact e e2) = by_end (says w ls) refl e e2

  -- a list whose items begin with an operator of a table
  abbrev AtOperator : {A B : Type 0} → List (List ℕ × B) → (item item2 : Reader A) → Type 0
  AtOperator words item item2 = (l : Lexeme) (rest rest2 : List Lexeme) → Cuts c rest rest2 → is_there (meant_by words l.saying) ≡ true → Steady c (length rest) (item (l ∷ rest)) (item2 (l ∷ rest2))

  operator_items : {A B : Type 0} (words : List (List ℕ × B)) (left_of : A → ExprTree) (item item2 : Reader A) → AtOperator words item item2
      → (last : A) (l : Lexeme) (rest rest2 : List Lexeme) → Cuts c rest rest2 → ItemsSo c (λ last. with_operator words (left_of last)) (λ last. item) (λ last. item2) last l rest rest2
  unfolding next_in
  operator_items {A} words left_of item item2 at last l rest rest2 s = go (not (ends_open (left_of last))) (is_there (meant_by words l.saying)) refl refl
    where
      go : (b d : Bool) → not (ends_open (left_of last)) ≡ b → is_there (meant_by words l.saying) ≡ d → ItemsSo c (λ last. with_operator words (left_of last)) (λ last. item) (λ last. item2) last l rest rest2
      go true true e k =
          an_item (l ∷ rest) (l ∷ rest2) (ap (λ z. kept (z && is_there (meant_by words l.saying)) (l ∷ rest)) e ∙ ap (λ z. kept z (l ∷ rest)) k)
          (ap (λ z. kept (z && is_there (meant_by words l.saying)) (l ∷ rest2)) e ∙ ap (λ z. kept z (l ∷ rest2)) k) (at l rest rest2 s k)
      go true false e k =
          no_item (ap (λ z. kept (z && is_there (meant_by words l.saying)) (l ∷ rest)) e ∙ ap (λ z. kept z (l ∷ rest)) k)
          (ap (λ z. kept (z && is_there (meant_by words l.saying)) (l ∷ rest2)) e ∙ ap (λ z. kept z (l ∷ rest2)) k)
      go false d e k = no_item (ap (λ z. kept (z && is_there (meant_by words l.saying)) (l ∷ rest)) e) (ap (λ z. kept (z && is_there (meant_by words l.saying)) (l ∷ rest2)) e)

  never_with : {B : Type 0} (words : List (List ℕ × B)) (e : ExprTree) → with_operator words e [] ≡ None
  unfolding next_in
  never_with words e = go (not (ends_open e))
    where
      go : (b : Bool) → kept (b && false) [] ≡ None
      go true = refl
      go false = refl

  operators_steady : {A B D : Type 0} (words : List (List ℕ × B)) (left_of : A → ExprTree) (item item2 : Reader A) → AtOperator words item item2
      → (k k2 : List A → Reader D) → ((xs : List A) (ls ls2 : List Lexeme) → Cuts c ls ls2 → Steady c (length ls) (k xs ls) (k2 xs ls2))
      → (last : A) (ls ls2 : List Lexeme) → Cuts c ls ls2
      → Steady c (length ls) (others_from (λ last. with_operator words (left_of last)) (λ last. item) last ls and_then k) (others_from (λ last. with_operator words (left_of last)) (λ last. item2) last ls2 and_then k2)
  operators_steady words left_of item item2 at k k2 after last ls ls2 s =
      list_steady c (λ last. with_operator words (left_of last)) (λ last. item) (λ last. item2) (λ x. never_with words (left_of x)) (operator_items words left_of item item2 at) k k2 after last ls ls2 s

  -- a chain behind its first part, where there is more than that part
  chain_steady : {B : Type 0} (words : List (List ℕ × B)) (first : ExprTree) (t t2 : Bool) (more more2 : Reader ExprTree) → Tests c t t2 → AtOperator words more more2
      → (ls ls2 : List Lexeme) → Cuts c ls ls2
      → Steady c (length ls) (if_some (with_operator words first ls) (if_low t more) (took first ls)) (if_some (with_operator words first ls2) (if_low t2 more2) (took first ls2))
  unfolding next_in
  chain_steady words first t t2 more more2 tests at ls ls2 s =
      decided c (λ z. if_some (with_operator words first z) (if_low t more) (took first z)) (λ z. if_some (with_operator words first z) (if_low t2 more2) (took first z)) (took first) (took first)
      (ap (λ o. if_some o (if_low t more) (took first [])) (never_with words first)) (ap (λ o. if_some o (if_low t2 more2) (took first [])) (never_with words first))
      (λ l rest rest2 u. go l rest rest2 u (not (ends_open first)) (is_there (meant_by words l.saying)) refl) ls ls2 s (took_steady c first ls ls2 s)
    where
      lower : (x x2 : Bool) (l : Lexeme) (rest rest2 : List Lexeme) → Tests c x x2 → Steady c (length rest) (more (l ∷ rest)) (more2 (l ∷ rest2))
          → Decides c (length rest) (if_low x more (l ∷ rest)) (if_low x2 more2 (l ∷ rest2)) (took first (l ∷ rest)) (took first (l ∷ rest2)) (l ∷ rest) (l ∷ rest2)
      lower true true l rest rest2 tests st = inside st
      lower true false l rest rest2 tests st = let no : false ≡ true = tests.higher refl in absurd cc
      lower false x2 l rest rest2 tests st = too_high refl (λ x. ap (λ z. if_low z more2 (l ∷ rest2)) (tests.alike x))

      go : (l : Lexeme) (rest rest2 : List Lexeme) → Cuts c rest rest2 → (b d : Bool) → is_there (meant_by words l.saying) ≡ d
          → Decides c (length rest) (if_some (kept (b && d) (l ∷ rest)) (if_low t more) (took first (l ∷ rest))) (if_some (kept (b && d) (l ∷ rest2)) (if_low t2 more2) (took first (l ∷ rest2))) (took first (l ∷ rest)) (took first (l ∷ rest2)) (l ∷ rest) (l ∷ rest2)
      go l rest rest2 u true true k = lower t t2 l rest rest2 tests (at l rest rest2 u k)
      go l rest rest2 u true false k = neither refl refl
      go l rest rest2 u false d k = neither refl refl

  module _ (less : ℕ) (low low2 : Lower) (complete : AreComplete less low) (sound : AreSound less low) (good : AreSteady c less low low2) where
    -- ---- reads

    index_steady : (every : Bool) (ls ls2 : List Lexeme) → Cuts c ls ls2 → Steady c (length ls) (index_from low every ls) (index_from low2 every ls2)
    unfolding index_from
    index_steady every ls ls2 s =
        next_word_steady c (codes "..") (λ z. took (true, None) z) (λ z. took (true, None) z) _ _ (λ z z2 u. took_steady c (true, None) z z2 u) ls ls2 s
        (made_steady c less low low2 good implications (λ e. (every, Some e)) ls ls2 s)

    -- the bracket closes behind the cut
    abbrev ClosesPast : List Lexeme → Type 0
    ClosesPast ls = (e : ExprTree) → length (left_by (closed_by (codes "]") e ls)) < length c.one

    abbrev IndexTurns : ReadIndex → List Lexeme → List Lexeme → Type 0
    IndexTurns last ls ls2 = Turns c another_index (λ last. index_from low last.0) (λ last. index_from low2 last.0) ClosesPast last ls ls2

    few_closed : (ls : List Lexeme) → length ls < length c.one → ClosesPast ls
    few_closed ls p e = let st = closed_steady c (codes "]") e ls [] (behind_cut p) in omega (arith, st.short, p)

    closes : (l : Lexeme) (rest : List Lexeme) → says_word (codes "]") l.saying ≡ true → length rest < length c.one → ClosesPast (l ∷ rest)
    unfolding word_from
    closes l rest is p e = subst (λ z. length (left_by {A = ExprTree} (either_reader z (λ all. took l.place rest) (λ all. wrong all) (l ∷ rest) and_then λ q r. took e r)) < length c.one) (sym is) p

    index_by : (last : ReadIndex) (l : Lexeme) (rest : List Lexeme) (a d b : Bool) → says_word (codes ",") l.saying ≡ a → (not last.0 && says_word (codes "]") l.saying) ≡ d → says (codes "[") rest ≡ b
        → another_index last (l ∷ rest) ≡ kept_or a rest (kept (d && b) (behind rest))
    unfolding another_index says
    index_by last l rest a d b e k h =
        ap (λ z. kept_or z rest (kept (not last.0 && (says_word (codes "]") l.saying && says (codes "[") rest)) (behind rest))) e
        ∙ ap (λ z. kept_or a rest (kept z (behind rest))) (and_grouped (not last.0) (says_word (codes "]") l.saying) (says (codes "[") rest) ∙ ap (λ z. z && says (codes "[") rest) k ∙ ap (λ z. d && z) h)
      where
        and_grouped : (x y z : Bool) → (x && (y && z)) ≡ ((x && y) && z)
        and_grouped true y z = refl
        and_grouped false y z = refl

    is_closing : (last : ReadIndex) (l : Lexeme) → (not last.0 && says_word (codes "]") l.saying) ≡ true → says_word (codes "]") l.saying ≡ true
    is_closing last l e = by (not last.0) e
      where
        by : (x : Bool) → (x && says_word (codes "]") l.saying) ≡ true → says_word (codes "]") l.saying ≡ true
        by true e = e
        by false e = absurd cc

    index_short : (last : ReadIndex) (ls : List Lexeme) → length ls < length c.one → length (left_by (index_from low last.0 ls)) ≤ length ls
    index_short last ls p = let st = index_steady last.0 ls [] (behind_cut p) in st.short

    behind_it : (last : ReadIndex) (z z2 : List Lexeme) → length z < length c.one → IndexTurns last z z2
    unfolding another_index says
    behind_it last [] z2 p = ends_alone (ap (λ b. kept b []) (never (not last.0))) (few_closed [] p)
      where
        never : (x : Bool) → (x && false) ≡ false
        never true = refl
        never false = refl
    behind_it last (l ∷ rest) z2 p = by (says_word (codes ",") l.saying) (not last.0 && says_word (codes "]") l.saying) (says (codes "[") rest) refl refl refl
      where
        by : (a d b : Bool) → says_word (codes ",") l.saying ≡ a → (not last.0 && says_word (codes "]") l.saying) ≡ d → says (codes "[") rest ≡ b → IndexTurns last (l ∷ rest) z2
        by true d b e k h = let le = index_short last rest (omega (arith, p)) in goes_alone rest (index_by last l rest true d b e k h) (omega (arith, le, p)) (omega (arith, le))
        by false true true e k h =
            let less_still = behind_less rest in
            let le = index_short last (behind rest) (omega (arith, p, less_still)) in goes_alone (behind rest) (index_by last l rest false true true e k h) (omega (arith, le, p, less_still)) (omega (arith, le, less_still))
        by false true false e k h = ends_alone (index_by last l rest false true false e k h) (few_closed (l ∷ rest) p)
        by false false b e k h = ends_alone (index_by last l rest false false b e k h) (few_closed (l ∷ rest) p)

    never_on : (last : ReadIndex) → another_index last [] ≡ None
    unfolding another_index says
    never_on last = ap (λ b. kept b []) (never (not last.0))
      where
        never : (x : Bool) → (x && false) ≡ false
        never true = refl
        never false = refl

    at_its_end : (last : ReadIndex) (z : List Lexeme) → z ≡ c.one → IndexTurns last z []
    at_its_end last [] e = both_end (never_on last) (never_on last)
    at_its_end last (l ∷ rest) e =
        let long : suc (length rest) ≡ length c.one = ap length e in by long (says_word (codes ",") l.saying) (not last.0 && says_word (codes "]") l.saying) (says (codes "[") rest) refl refl refl
      where
        by : suc (length rest) ≡ length c.one → (a d b : Bool) → says_word (codes ",") l.saying ≡ a → (not last.0 && says_word (codes "]") l.saying) ≡ d → says (codes "[") rest ≡ b → IndexTurns last (l ∷ rest) []
        by long true d b e k h = let le = index_short last rest (omega (arith, long)) in goes_alone rest (index_by last l rest true d b e k h) (omega (arith, le, long)) (omega (arith, le))
        by long false true true e k h =
            let less_still = behind_less rest in
            let le = index_short last (behind rest) (omega (arith, long, less_still)) in goes_alone (behind rest) (index_by last l rest false true true e k h) (omega (arith, le, long, less_still)) (omega (arith, le, less_still))
        by long false true false e k h = both_end (index_by last l rest false true false e k h) (never_on last)
        by long false false b e k h = both_end (index_by last l rest false false b e k h) (never_on last)

    before_it : (last : ReadIndex) (l : Lexeme) (rest rest2 : List Lexeme) → Cuts c rest rest2 → (a d b b2 : Bool) → says_word (codes ",") l.saying ≡ a → (not last.0 && says_word (codes "]") l.saying) ≡ d
        → says (codes "[") rest ≡ b → says (codes "[") rest2 ≡ b2 → SaysSo (codes "[") rest rest2 → IndexTurns last (l ∷ rest) (l ∷ rest2)
    before_it last l rest rest2 t true d b b2 e k h h2 so = both_go (length rest) rest rest2 (index_by last l rest true d b e k h) (index_by last l rest2 true d b2 e k h2) refl (index_steady last.0 rest rest2 t)
    before_it last l rest rest2 t false false b b2 e k h h2 so = both_end (index_by last l rest false false b e k h) (index_by last l rest2 false false b2 e k h2)
    before_it last l rest rest2 t false true b b2 e k h h2 (both_say x x2 u) =
        both_go (length rest) (behind rest) (behind rest2) (index_by last l rest false true true e k x) (index_by last l rest2 false true true e k x2) refl
        (wider c (length (behind rest)) (length rest) _ _ (behind_less rest) (index_steady last.0 (behind rest) (behind rest2) u))
    before_it last l rest rest2 t false true b b2 e k h h2 (neither_says x x2) = both_end (index_by last l rest false true false e k x) (index_by last l rest2 false true false e k x2)
    before_it last l rest rest2 t false true b b2 e k h h2 (says_past x p) =
        let less_still = behind_less rest in
        let le = index_short last (behind rest) p in goes_alone (behind rest) (index_by last l rest false true true e k x) (omega (arith, le, p)) (omega (arith, le, less_still))
    before_it last l rest rest2 t false true b b2 e k h h2 (silent_past x p) = ends_alone (index_by last l rest false true false e k x) (closes l rest (is_closing last l k) p)

    index_turn : (last : ReadIndex) (ls ls2 : List Lexeme) → Cuts c ls ls2 → IndexTurns last ls ls2
    index_turn last ls ls2 s = go (look c ls ls2 s)
      where
        go : Look c ls ls2 → IndexTurns last ls ls2
        go (gone p) = behind_it last ls ls2 p
        go (head l rest rest2 e e2 t) =
            subst (λ z. IndexTurns last z ls2) (sym e) (subst (λ z. IndexTurns last (l ∷ rest) z) (sym e2)
            (before_it last l rest rest2 t (says_word (codes ",") l.saying) (not last.0 && says_word (codes "]") l.saying) (says (codes "[") rest) (says (codes "[") rest2) refl refl refl refl (says_so (codes "[") rest rest2 t)))
        go (at_end inexact e e2) = subst (λ z. IndexTurns last ls z) (sym e2) (at_its_end last ls e)

    read_steady : (m : ExprTree) (ls ls2 : List Lexeme) → Cuts c ls ls2 → Steady c (length ls) (read_from low m ls) (read_from low2 m ls2)
    unfolding read_from
    read_steady m ls ls2 s =
        steady_then c (length ls) (index_from low false ls) (index_from low2 false ls2) _ _ (index_steady false ls ls2 s)
        (λ first r r2 le t. others_steady c ExprTree another_index (λ last. index_from low last.0) (λ last. index_from low2 last.0) ClosesPast never_on index_turn
        (λ others. closed_by (codes "]") (read (place_of m) m (as_indices (first ∷ others)))) (λ others. closed_by (codes "]") (read (place_of m) m (as_indices (first ∷ others))))
        (λ others z z2 u. closed_steady c (codes "]") (read (place_of m) m (as_indices (first ∷ others))) z z2 u) (λ others z p. p (read (place_of m) m (as_indices (first ∷ others)))) first r r2 t)

    module _ (most most2 : ℕ) (higher : Higher c most most2) where
      reads_grown : (m : ExprTree) (ls ls2 : List Lexeme) → Cuts c ls ls2 → Steady c (length ls) (grown (another_read most low) m ls) (grown (another_read most2 low2) m ls2)
      unfolding another_read says
      reads_grown m ls ls2 s =
          grown_steady c (another_read most low) (another_read most2 low2) (λ x. refl) (λ x. refl)
          (λ x l rest rest2 t. steps_only_if (says_word (codes "[") l.saying && takes_group x) (nat_lt (height x) most) (nat_lt (height x) most2) _ _ l rest rest2 (below_tests c (height x) most most2 higher) (read_steady x rest rest2 t)) m ls ls2 s

      pub unary_steady : (ls ls2 : List Lexeme) → Cuts c ls ls2 → Steady c (length ls) (unary_from most low ls) (unary_from most2 low2 ls2)
      unfolding unary_from
      unary_steady ls ls2 s =
          steady_then c (length ls) _ _ _ _ (operand_steady c less low low2 complete sound good (nat_lt 1 most) (nat_lt 1 most2) (below_tests c 1 most most2 higher) ls ls2 s) (λ m r r2 le t. reads_grown m r r2 t)

      -- ---- chains that nest to the left

      abbrev RightPart : Lower → Level → ExprTree → BinaryOp → Reader ExprTree
      RightPart lower right x op z = lower.expr right z and_then λ b end. took (binary (place_of x) op x b) end

      binaries_grown : (words : List (List ℕ × BinaryOp)) (right : Level) (a : ExprTree) (ls ls2 : List Lexeme) → Cuts c ls ls2
          → Steady c (length ls) (grown (another_binary most low words right) a ls) (grown (another_binary most2 low2 words right) a ls2)
      unfolding another_binary next_in
      binaries_grown words right a ls ls2 s =
          grown_steady c (another_binary most low words right) (another_binary most2 low2 words right)
          (λ x. never (not (ends_open x)) (λ op. if_low (nat_lt (height x) most) (λ all. RightPart low right x op (behind all)) []))
          (λ x. never (not (ends_open x)) (λ op. if_low (nat_lt (height x) most2) (λ all. RightPart low2 right x op (behind all)) []))
          (λ x l rest rest2 t. steps_operated (not (ends_open x)) (meant_by words l.saying) (nat_lt (height x) most) (nat_lt (height x) most2) (RightPart low right x) (RightPart low2 right x) l rest rest2 (below_tests c (height x) most most2 higher)
          (λ op. made_steady c less low low2 good right (binary (place_of x) op x) rest rest2 t)) a ls ls2 s
        where
          never : (b : Bool) (go : BinaryOp → Read ExprTree) → operated b None go ≡ None
          never true go = refl
          never false go = refl

      pub power_steady : (ls ls2 : List Lexeme) → Cuts c ls ls2 → Steady c (length ls) (power_from most low ls) (power_from most2 low2 ls2)
      unfolding power_from
      power_steady ls ls2 s = steady_then c (length ls) _ _ _ _ (unary_steady ls ls2 s) (λ a r r2 le t. binaries_grown power_words unaries a r r2 t)

      pub product_steady : (ls ls2 : List Lexeme) → Cuts c ls ls2 → Steady c (length ls) (product_from most low ls) (product_from most2 low2 ls2)
      unfolding product_from
      product_steady ls ls2 s = steady_then c (length ls) _ _ _ _ (power_steady ls ls2 s) (λ a r r2 le t. binaries_grown product_words powers a r r2 t)

      -- ---- sums

      term_behind_steady : (plus : Bool) (ls ls2 : List Lexeme) → Cuts c ls ls2 → Steady c (length ls) (term_behind low plus ls) (term_behind low2 plus ls2)
      unfolding term_behind
      term_behind_steady plus ls ls2 s = made_steady c less low low2 good products (λ e. (plus, e)) ls ls2 s

      term_at : AtOperator sign_words (term_from low) (term_from low2)
      unfolding term_from next_in
      term_at l rest rest2 s k = go (meant_by sign_words l.saying) k
        where
          go : (o : Option Bool) → is_there o ≡ true → Steady c (length rest) (if_some o (λ plus. term_behind low plus rest) (wrong (l ∷ rest))) (if_some o (λ plus. term_behind low2 plus rest2) (wrong (l ∷ rest2)))
          go None e = let no : false ≡ true = e in absurd cc
          go (Some plus) e = term_behind_steady plus rest rest2 s

      terms_at : (first : ExprTree) → AtOperator sign_words (terms_from low first) (terms_from low2 first)
      unfolding terms_from
      terms_at first l rest rest2 s k =
          steady_then c (length rest) (term_from low (l ∷ rest)) (term_from low2 (l ∷ rest2)) _ _ (term_at l rest rest2 s k)
          (λ t r r2 le u. operators_steady sign_words (λ last. last.1) (term_from low) (term_from low2) term_at
          (λ ts. took (chain (place_of first) (term_and true first (as_terms (t ∷ ts))))) (λ ts. took (chain (place_of first) (term_and true first (as_terms (t ∷ ts)))))
          (λ ts. took_steady c (chain (place_of first) (term_and true first (as_terms (t ∷ ts))))) t r r2 u)

      pub sums_steady : (ls ls2 : List Lexeme) → Cuts c ls ls2 → Steady c (length ls) (chain_from most low ls) (chain_from most2 low2 ls2)
      unfolding chain_from terms_behind
      sums_steady ls ls2 s =
          steady_then c (length ls) _ _ _ _ (product_steady ls ls2 s)
          (λ a r r2 le t. chain_steady sign_words a (nat_lt (height a) most) (nat_lt (height a) most2) (terms_from low a) (terms_from low2 a) (below_tests c (height a) most most2 higher) (terms_at a) r r2 t)

      -- ---- comparisons

      compared_steady : (a : ExprTree) (op : Comparison) (ls ls2 : List Lexeme) → Cuts c ls ls2 → Steady c (length ls) (compared_with low a op ls) (compared_with low2 a op ls2)
      unfolding compared_with
      compared_steady a (of_numbers op) ls ls2 s = made_steady c less low low2 good sums (compare (place_of a) op a) ls ls2 s
      compared_steady a (of_lists op) ls ls2 s = made_steady c less low low2 good sums (lex (place_of a) op a) ls ls2 s
      compared_steady a of_set ls ls2 s =
          next_word_steady c (codes "toSet") (call_from low (in_set (place_of a) a)) (call_from low2 (in_set (place_of a) a)) _ _ (λ z z2 u. call_steady c less low low2 good (in_set (place_of a) a) z z2 u) ls ls2 s
          (domain_made_steady c less low low2 good set_operations (in_domain (place_of a) a) ls ls2 s)

      comparison_behind_steady : (a : ExprTree) (ls ls2 : List Lexeme) → Cuts c ls ls2 → Steady c (length ls) (comparison_behind most low a ls) (comparison_behind most2 low2 a ls2)
      unfolding comparison_behind next_in
      comparison_behind_steady a ls ls2 s =
          decided c (λ z. if_some (behind_operator most comparison_words a (compared_with low a) z) (λ compared. compared) (took a z)) (λ z. if_some (behind_operator most2 comparison_words a (compared_with low2 a) z) (λ compared. compared) (took a z)) (took a) (took a)
          (never (not (ends_open a)) (λ op. if_low (nat_lt (height a) most) (λ all. compared_with low a op (behind all)) [])) (never (not (ends_open a)) (λ op. if_low (nat_lt (height a) most2) (λ all. compared_with low2 a op (behind all)) []))
          (λ l rest rest2 t. by l rest rest2 (steps_operated (not (ends_open a)) (meant_by comparison_words l.saying) (nat_lt (height a) most) (nat_lt (height a) most2) (compared_with low a) (compared_with low2 a) l rest rest2 (below_tests c (height a) most most2 higher)
          (λ op. compared_steady a op rest rest2 t))) ls ls2 s (took_steady c a ls ls2 s)
        where
          never : (b : Bool) (go : Comparison → Read ExprTree) → if_some (operated b None go) (λ compared. compared) (took a []) ≡ took a []
          never true go = refl
          never false go = refl

          by : (l : Lexeme) (rest rest2 : List Lexeme) {o o2 : Option (Read ExprTree)} → StepsSo c (length rest) o o2 (l ∷ rest) (l ∷ rest2)
              → Decides c (length rest) (if_some o (λ compared. compared) (took a (l ∷ rest))) (if_some o2 (λ compared. compared) (took a (l ∷ rest2))) (took a (l ∷ rest)) (took a (l ∷ rest2)) (l ∷ rest) (l ∷ rest2)
          by l rest rest2 {o} {o2} (no_step e e2) = neither (ap (λ z. if_some z (λ compared. compared) (took a (l ∷ rest))) e) (ap (λ z. if_some z (λ compared. compared) (took a (l ∷ rest2))) e2)
          by l rest rest2 {o} {o2} (a_step r r2 e e2 st) =
              inside (subst (λ z. Steady c (length rest) (if_some z (λ compared. compared) (took a (l ∷ rest))) (if_some o2 (λ compared. compared) (took a (l ∷ rest2)))) (sym e)
              (subst (λ z. Steady c (length rest) r (if_some z (λ compared. compared) (took a (l ∷ rest2)))) (sym e2) st))
          by l rest rest2 {o} {o2} (high_step e h) =
              too_high (ap (λ z. if_some z (λ compared. compared) (took a (l ∷ rest))) e) (λ x. ap (λ z. if_some z (λ compared. compared) (took a (l ∷ rest2))) (h x))

      pub comparison_steady : (ls ls2 : List Lexeme) → Cuts c ls ls2 → Steady c (length ls) (comparison_from most low ls) (comparison_from most2 low2 ls2)
      unfolding comparison_from
      comparison_steady ls ls2 s = steady_then c (length ls) _ _ _ _ (sums_steady ls ls2 s) (λ a r r2 le t. comparison_behind_steady a r r2 t)

      -- ---- conjunctions and disjunctions

      part_at : (bytes : List ℕ) (level : Level) → AtOperator (only_word bytes) (part_from low bytes level) (part_from low2 bytes level)
      unfolding part_from word_from next_in looked_up
      part_at bytes level l rest rest2 s k =
          let is : says_word bytes l.saying ≡ true = said l.saying k in
          subst (λ z. Steady c (length rest) (either_reader z (λ all. took l.place rest) (λ all. wrong all) (l ∷ rest) and_then λ p r. low.expr level r) (either_reader z (λ all. took l.place rest2) (λ all. wrong all) (l ∷ rest2) and_then λ p r. low2.expr level r)) (sym is)
          (good.expr level rest rest2 s)
        where
          by : (w : List ℕ) (b : Bool) → bytes_eq bytes w ≡ b → is_there (found_or b true None) ≡ true → bytes_eq w bytes ≡ true
          by w true e h = (bytes_eq-Decides w bytes).1 (sym ((bytes_eq-Decides bytes w).0 e))
          by w false e h = let no : false ≡ true = h in absurd cc

          said : (s : Saying) → is_there (meant_by (only_word bytes) s) ≡ true → says_word bytes s ≡ true
          said (a_name x) h = let no : false ≡ true = h in absurd cc
          said (a_number n) h = let no : false ≡ true = h in absurd cc
          said (a_word w) h = by w (bytes_eq bytes w) refl h

      parts_at : (bytes : List ℕ) (level : Level) (make : Place → ExprTrees → ExprTree) (first : ExprTree) → AtOperator (only_word bytes) (parts_from low bytes level make first) (parts_from low2 bytes level make first)
      unfolding parts_from
      parts_at bytes level make first l rest rest2 s k =
          steady_then c (length rest) (part_from low bytes level (l ∷ rest)) (part_from low2 bytes level (l ∷ rest2)) _ _ (part_at bytes level l rest rest2 s k)
          (λ e r r2 le u. operators_steady (only_word bytes) (λ last. last) (part_from low bytes level) (part_from low2 bytes level) (part_at bytes level)
          (λ es. took (make (place_of first) (as_trees (first ∷ e ∷ es)))) (λ es. took (make (place_of first) (as_trees (first ∷ e ∷ es)))) (λ es. took_steady c (make (place_of first) (as_trees (first ∷ e ∷ es)))) e r r2 u)

      pub parts_behind_steady : (bytes : List ℕ) (level : Level) (make : Place → ExprTrees → ExprTree) (a : ExprTree) (ls ls2 : List Lexeme) → Cuts c ls ls2
          → Steady c (length ls) (parts_behind most low bytes level make a ls) (parts_behind most2 low2 bytes level make a ls2)
      unfolding parts_behind
      parts_behind_steady bytes level make a ls ls2 s =
          chain_steady (only_word bytes) a (nat_lt (height a) most) (nat_lt (height a) most2) (parts_from low bytes level make a) (parts_from low2 bytes level make a) (below_tests c (height a) most most2 higher) (parts_at bytes level make a) ls ls2 s

      pub conjunction_steady : (ls ls2 : List Lexeme) → Cuts c ls ls2 → Steady c (length ls) (conjunction_from most low ls) (conjunction_from most2 low2 ls2)
      unfolding conjunction_from
      conjunction_steady ls ls2 s = steady_then c (length ls) _ _ _ _ (comparison_steady ls ls2 s) (λ a r r2 le t. parts_behind_steady (codes "/\\") comparisons all_of a r r2 t)

      pub disjunction_steady : (ls ls2 : List Lexeme) → Cuts c ls ls2 → Steady c (length ls) (disjunction_from most low ls) (disjunction_from most2 low2 ls2)
      unfolding disjunction_from
      disjunction_steady ls ls2 s = steady_then c (length ls) _ _ _ _ (conjunction_steady ls ls2 s) (λ a r r2 le t. parts_behind_steady (codes "\\/") conjunctions any_of a r r2 t)

      pub implication_steady : (ls ls2 : List Lexeme) → Cuts c ls ls2 → Steady c (length ls) (implication_from most low ls) (implication_from most2 low2 ls2)
      unfolding implication_from
      implication_steady ls ls2 s = steady_then c (length ls) _ _ _ _ (disjunction_steady ls ls2 s) (λ a r r2 le t. binaries_grown implication_words disjunctions a r r2 t)

      pub at_level_steady : (level : Level) (ls ls2 : List Lexeme) → Cuts c ls ls2 → Steady c (length ls) (at_level most low level ls) (at_level most2 low2 level ls2)
      unfolding at_level
      at_level_steady implications ls ls2 s = implication_steady ls ls2 s
      at_level_steady disjunctions ls ls2 s = disjunction_steady ls ls2 s
      at_level_steady conjunctions ls ls2 s = conjunction_steady ls ls2 s
      at_level_steady comparisons ls ls2 s = comparison_steady ls ls2 s
      at_level_steady sums ls ls2 s = sums_steady ls ls2 s
      at_level_steady products ls ls2 s = product_steady ls ls2 s
      at_level_steady powers ls ls2 s = power_steady ls ls2 s
      at_level_steady unaries ls ls2 s = unary_steady ls ls2 s
      at_level_steady reads ls ls2 s = unary_steady ls ls2 s
      at_level_steady primaries ls ls2 s = operand_steady c less low low2 complete sound good (nat_lt 1 most) (nat_lt 1 most2) (below_tests c 1 most most2 higher) ls ls2 s

      -- ---- what holds of operands, and of whatever is read behind them

      -- a property of what is read that stays when more is read
      abbrev Stays : (Read ExprTree → Type 0) → Type 0
      Stays P = (r : Read ExprTree) (k k2 : ExprTree → Reader ExprTree) → P r → ((x : ExprTree) (z z2 : List Lexeme) → Cuts c z z2 → Steady c (length z) (k x z) (k2 x z2)) → P (r and_then k)

      through_levels : (P : Read ExprTree → Type 0) → Stays P → (ls : List Lexeme) → P (operand_from (nat_lt 1 most) low ls) → P (implication_from most low ls)
      unfolding implication_from disjunction_from conjunction_from comparison_from chain_from terms_behind product_from power_from unary_from
      through_levels P stays ls p =
          let a = stays (operand_from (nat_lt 1 most) low ls) (grown (another_read most low)) (grown (another_read most2 low2)) p (λ x z z2 u. reads_grown x z z2 u) in
          let b = stays (unary_from most low ls) (grown (another_binary most low power_words unaries)) (grown (another_binary most2 low2 power_words unaries)) a (λ x z z2 u. binaries_grown power_words unaries x z z2 u) in
          let d = stays (power_from most low ls) (grown (another_binary most low product_words powers)) (grown (another_binary most2 low2 product_words powers)) b (λ x z z2 u. binaries_grown product_words powers x z z2 u) in
          let e = stays (product_from most low ls) (terms_behind most low) (terms_behind most2 low2) d
          (λ x z z2 u. chain_steady sign_words x (nat_lt (height x) most) (nat_lt (height x) most2) (terms_from low x) (terms_from low2 x) (below_tests c (height x) most most2 higher) (terms_at x) z z2 u) in
          let f = stays (chain_from most low ls) (comparison_behind most low) (comparison_behind most2 low2) e (λ x z z2 u. comparison_behind_steady x z z2 u) in
          let g = stays (comparison_from most low ls) (parts_behind most low (codes "/\\") comparisons all_of) (parts_behind most2 low2 (codes "/\\") comparisons all_of) f (λ x z z2 u. parts_behind_steady (codes "/\\") comparisons all_of x z z2 u) in
          let h = stays (conjunction_from most low ls) (parts_behind most low (codes "\\/") conjunctions any_of) (parts_behind most2 low2 (codes "\\/") conjunctions any_of) g (λ x z z2 u. parts_behind_steady (codes "\\/") conjunctions any_of x z z2 u) in
          stays (disjunction_from most low ls) (grown (another_binary most low implication_words disjunctions)) (grown (another_binary most2 low2 implication_words disjunctions)) h (λ x z z2 u. binaries_grown implication_words disjunctions x z z2 u)

      few_then : (n : ℕ) → n < length c.one → (r : Read ExprTree) (k k2 : ExprTree → Reader ExprTree) → length (left_by r) ≤ n
          → ((x : ExprTree) (z z2 : List Lexeme) → Cuts c z z2 → Steady c (length z) (k x z) (k2 x z2)) → length (left_by (r and_then k)) ≤ n
      few_then n lt (took x z) k k2 le f = let st = f x z [] (behind_cut (omega (arith, le, lt))) in omega (arith, st.short, le)
      few_then n lt (wrong z) k k2 le f = le
      few_then n lt (high z) k k2 le f = le

      taken_then : (l : Lexeme) (rest : List Lexeme) → length rest < length c.one → (r : Read ExprTree) (k k2 : ExprTree → Reader ExprTree) → TakenSo c less low low2 complete sound good r l rest
          → ((x : ExprTree) (z z2 : List Lexeme) → Cuts c z z2 → Steady c (length z) (k x z) (k2 x z2)) → TakenSo c less low low2 complete sound good (r and_then k) l rest
      taken_then l rest lt r k k2 (inl e) f = inl (ap (λ z. z and_then k) e)
      taken_then l rest lt r k k2 (inr le) f = inr (few_then (length rest) lt r k k2 le f)

      pub level_begun : (l : Lexeme) (rest : List Lexeme) → length rest < length c.one → opens l.saying ≡ true
          → (at_level most low implications (l ∷ rest) ≡ high (l ∷ rest)) ⊎ (length (left_by (at_level most low implications (l ∷ rest))) ≤ length rest)
      unfolding at_level
      level_begun l rest lt o =
          through_levels (λ r. TakenSo c less low low2 complete sound good r l rest) (taken_then l rest lt) (l ∷ rest) (operand_begun c less low low2 complete sound good (nat_lt 1 most) l rest lt o)

      pub level_named : (p : Place) (x : Name) (rest : List Lexeme) → length rest < length c.one → length (left_by (at_level most low implications (lexeme p (a_name x) ∷ rest))) ≤ length rest
      unfolding at_level
      level_named p x rest lt =
          through_levels (λ r. length (left_by r) ≤ length rest) (few_then (length rest) lt) (lexeme p (a_name x) ∷ rest) (operand_named c less low low2 complete sound good (nat_lt 1 most) p x rest)
