-- The readers of lists with commas, of brackets and of functions stop at a token for what stands before it and for that
-- token alone.
use Rattle.std.specs.Prelude.{◌≡◌, ℕ, suc, ◌≤◌, ◌<◌, ◌⊎◌, Bool, true, false, List, [], ◌∷◌, length, Option, Some, None, codes, refl}
use Rattle.std.proofs.Common.{ap, arith, sym, subst}
use Rattle.ep_base.specs.declared.names.Name.{Name}
use Rattle.ep_base.specs.declared.places.Place.{Place}
use Rattle.ep_tree.specs.Phrases.{Lexeme, a_name}
use Rattle.ep_tree.specs.Spelling.{DomainLevel, Level, implications, set_operations}
use Rattle.ep_tree.specs.Trees.{DomainTree, ExprTree, IndexDomain, binary, folded, literal, over, quantified, table, unstated}
use Rattle.ep_tree.specs.declared.syntax.BinaryOp.{BinaryOp}
use Rattle.ep_tree.specs.declared.syntax.FoldOp.{FoldOp}
use Rattle.ep_tree.specs.declared.syntax.QuantOp.{QuantOp}
use Rattle.ep_parse_parts.specs.OperandReaders.{Lower, ThreeParts, and_part, as_trees, call_from, call_of_three_from, call_of_two_from, closed_by, generator_from, in_brackets, index_domain_from, list_end, literal_from, opens, quantifier_from, sum_from, table_from, three_parts}
use Rattle.ep_parse_parts.specs.Readers.{Reader, behind_comma, either_reader, high, says_word, kept, more_from, name_from, names_from, others_from, says, took, word_from, ◌and_then◌}
use Rattle.ep_parse_parts.proofs.Again.{lexeme}
use Rattle.ep_parse_expr.proofs.Steady.{Cut, Cuts, Look, Steady, Tests, at_end, behind_cut, gone, head, left_by, look, low_word_steady, name_steady, steady_then, took_steady, word_itself_steady, word_steady}
use Rattle.ep_parse_expr.proofs.SteadyLists.{Turns, both_end, both_go, ends_alone, goes_alone, more_steady, others_steady}

-- readers of what is lower by one, on both sides
pub record AreSteady (c : Cut) (less : ℕ) (low low2 : Lower) : Type 0 where
  pub expr : (level : Level) (ls ls2 : List Lexeme) → Cuts c ls ls2 → Steady c (length ls) (low.expr level ls) (low2.expr level ls2)
  pub domain : (level : DomainLevel) (ls ls2 : List Lexeme) → Cuts c ls ls2 → Steady c (length ls) (low.domain level ls) (low2.domain level ls2)
  -- what begins an expression is taken, or too high at once
  pub begun : (l : Lexeme) (ls : List Lexeme) → opens l.saying ≡ true → (low.expr implications (l ∷ ls) ≡ high (l ∷ ls)) ⊎ (length (left_by (low.expr implications (l ∷ ls))) ≤ length ls)
  -- and a name is taken where any height is left
  pub named : (p : Place) (x : Name) (ls : List Lexeme) → 1 ≤ less → length (left_by (low.expr implications (lexeme p (a_name x) ∷ ls))) ≤ length ls

module _ (c : Cut) where
  -- what a list does behind an item that looks at one token
  pub data ItemsSo {A : Type 0} (goes_on : A → List Lexeme → Option (List Lexeme)) (item item2 : A → Reader A) (last : A) (l : Lexeme) (rest rest2 : List Lexeme) : Type 0 where
    no_item : goes_on last (l ∷ rest) ≡ None → goes_on last (l ∷ rest2) ≡ None → ItemsSo goes_on item item2 last l rest rest2
    an_item : (next next2 : List Lexeme) → goes_on last (l ∷ rest) ≡ Some next → goes_on last (l ∷ rest2) ≡ Some next2 → Steady c (length rest) (item last next) (item2 last next2) → ItemsSo goes_on item item2 last l rest rest2

  -- behind the cut
  abbrev pub Past : List Lexeme → Type 0
  Past ls = length ls < length c.one

  module _ {A : Type 0} (goes_on : A → List Lexeme → Option (List Lexeme)) (item item2 : A → Reader A) (nothing : (x : A) → goes_on x [] ≡ None)
      (items : (last : A) (l : Lexeme) (rest rest2 : List Lexeme) → Cuts c rest rest2 → ItemsSo goes_on item item2 last l rest rest2) where
    past_turn : (last : A) (ls ls2 : List Lexeme) → Past ls → Turns c goes_on item item2 Past last ls ls2
    past_turn last [] ls2 p = ends_alone (nothing last) p
    past_turn last (l ∷ rest) ls2 p = go (items last l rest [] (behind_cut (omega (arith, p))))
      where
        go : ItemsSo goes_on item item2 last l rest [] → Turns c goes_on item item2 Past last (l ∷ rest) ls2
        go (no_item e e2) = ends_alone e p
        go (an_item next next2 e e2 st) = goes_alone next e (omega (arith, st.short, p)) (omega (arith, st.short))

    end_turn : (last : A) (ls : List Lexeme) → ls ≡ c.one → Turns c goes_on item item2 Past last ls []
    end_turn last [] e = both_end (nothing last) (nothing last)
    end_turn last (l ∷ rest) e =
        let long : suc (length rest) ≡ length c.one = ap length e in go long (items last l rest [] (behind_cut (omega (arith, long))))
      where
        go : suc (length rest) ≡ length c.one → ItemsSo goes_on item item2 last l rest [] → Turns c goes_on item item2 Past last (l ∷ rest) []
        go long (no_item k k2) = both_end k (nothing last)
        go long (an_item next next2 k k2 st) = goes_alone next k (omega (arith, st.short, long)) (omega (arith, st.short))

    head_turn : (last : A) (l : Lexeme) (rest rest2 : List Lexeme) → ItemsSo goes_on item item2 last l rest rest2 → Turns c goes_on item item2 Past last (l ∷ rest) (l ∷ rest2)
    head_turn last l rest rest2 (no_item e e2) = both_end e e2
    head_turn last l rest rest2 (an_item next next2 e e2 st) = both_go (length rest) next next2 e e2 refl st

    pub one_token_turns : (last : A) (ls ls2 : List Lexeme) → Cuts c ls ls2 → Turns c goes_on item item2 Past last ls ls2
    one_token_turns last ls ls2 s = go (look c ls ls2 s)
      where
        go : Look c ls ls2 → Turns c goes_on item item2 Past last ls ls2
        go (gone p) = past_turn last ls ls2 p
        go (head l rest rest2 e e2 t) =
            subst (λ z. Turns c goes_on item item2 Past last z ls2) (sym e) (subst (λ z. Turns c goes_on item item2 Past last (l ∷ rest) z) (sym e2) (head_turn last l rest rest2 (items last l rest rest2 t)))
        go (at_end inexact e e2) = subst (λ z. Turns c goes_on item item2 Past last ls z) (sym e2) (end_turn last ls e)

    -- a list whose items look at one token, and what is read behind it
    pub list_steady : {B : Type 0} (k k2 : List A → Reader B) → ((xs : List A) (ls ls2 : List Lexeme) → Cuts c ls ls2 → Steady c (length ls) (k xs ls) (k2 xs ls2))
        → (last : A) (ls ls2 : List Lexeme) → Cuts c ls ls2 → Steady c (length ls) (others_from goes_on item last ls and_then k) (others_from goes_on item2 last ls2 and_then k2)
    list_steady {B} k k2 after last ls ls2 s =
        others_steady c B goes_on item item2 Past nothing one_token_turns k k2 after (λ xs z p. let st = after xs z [] (behind_cut p) in omega (arith, st.short, p)) last ls ls2 s

    -- the same with so many steps
    pub more_list_steady : {B : Type 0} (k k2 : List A → Reader B) → ((xs : List A) (ls ls2 : List Lexeme) → Cuts c ls ls2 → Steady c (length ls) (k xs ls) (k2 xs ls2))
        → (n m : ℕ) (last : A) (ls ls2 : List Lexeme) → length ls ≤ n → length ls2 ≤ m → Cuts c ls ls2 → Steady c (length ls) (more_from goes_on item n last ls and_then k) (more_from goes_on item2 m last ls2 and_then k2)
    more_list_steady {B} k k2 after n m last ls ls2 few few2 s =
        more_steady c B goes_on item item2 Past nothing one_token_turns n m k k2 after (λ xs z p. let st = after xs z [] (behind_cut p) in omega (arith, st.short, p)) last ls ls2 few few2 s

  -- ---- lists with commas

  comma_item : {A : Type 0} (item item2 : A → Reader A) (b : Bool) (last : A) (l : Lexeme) (rest rest2 : List Lexeme) → says_word (codes ",") l.saying ≡ b → Steady c (length rest) (item last rest) (item2 last rest2)
      → ItemsSo behind_comma item item2 last l rest rest2
  unfolding says
  comma_item item item2 true last l rest rest2 e st = an_item rest rest2 (ap (λ z. kept z rest) e) (ap (λ z. kept z rest2) e) st
  comma_item item item2 false last l rest rest2 e st = no_item (ap (λ z. kept z rest) e) (ap (λ z. kept z rest2) e)

  pub commas_steady : {A B : Type 0} (item item2 : A → Reader A) → ((last : A) (ls ls2 : List Lexeme) → Cuts c ls ls2 → Steady c (length ls) (item last ls) (item2 last ls2))
      → (k k2 : List A → Reader B) → ((xs : List A) (ls ls2 : List Lexeme) → Cuts c ls ls2 → Steady c (length ls) (k xs ls) (k2 xs ls2))
      → (last : A) (ls ls2 : List Lexeme) → Cuts c ls ls2 → Steady c (length ls) (others_from behind_comma item last ls and_then k) (others_from behind_comma item2 last ls2 and_then k2)
  unfolding says
  commas_steady item item2 items k k2 after last ls ls2 s =
      list_steady behind_comma item item2 (λ x. refl) (λ last l rest rest2 t. comma_item item item2 (says_word (codes ",") l.saying) last l rest rest2 refl (items last rest rest2 t)) k k2 after last ls ls2 s

  -- the same with so many steps
  pub more_commas_steady : {A B : Type 0} (item item2 : A → Reader A) → ((last : A) (ls ls2 : List Lexeme) → Cuts c ls ls2 → Steady c (length ls) (item last ls) (item2 last ls2))
      → (k k2 : List A → Reader B) → ((xs : List A) (ls ls2 : List Lexeme) → Cuts c ls ls2 → Steady c (length ls) (k xs ls) (k2 xs ls2))
      → (n m : ℕ) (last : A) (ls ls2 : List Lexeme) → length ls ≤ n → length ls2 ≤ m → Cuts c ls ls2 → Steady c (length ls) (more_from behind_comma item n last ls and_then k) (more_from behind_comma item2 m last ls2 and_then k2)
  unfolding says
  more_commas_steady item item2 items k k2 after n m last ls ls2 few few2 s =
      more_list_steady behind_comma item item2 (λ x. refl) (λ last l rest rest2 t. comma_item item item2 (says_word (codes ",") l.saying) last l rest rest2 refl (items last rest rest2 t)) k k2 after n m last ls ls2 few few2 s

  pub names_steady : (ls ls2 : List Lexeme) → Cuts c ls ls2 → Steady c (length ls) (names_from ls) (names_from ls2)
  unfolding names_from
  names_steady ls ls2 s =
      steady_then c (length ls) (name_from ls) (name_from ls2) _ _ (name_steady c ls ls2 s)
      (λ x rest rest2 le t. commas_steady (λ last. name_from) (λ last. name_from) (λ last. name_steady c) (λ xs end. took (x ∷ xs) end) (λ xs end. took (x ∷ xs) end) (λ xs. took_steady c (x ∷ xs)) x rest rest2 t)

  pub closed_steady : (bytes : List ℕ) (e : ExprTree) (ls ls2 : List Lexeme) → Cuts c ls ls2 → Steady c (length ls) (closed_by bytes e ls) (closed_by bytes e ls2)
  closed_steady bytes e ls ls2 s = steady_then c (length ls) (word_from bytes ls) (word_from bytes ls2) _ _ (word_steady c bytes ls ls2 s) (λ p rest rest2 le t. took_steady c e rest rest2 t)

  module _ (less : ℕ) (low low2 : Lower) (good : AreSteady c less low low2) where
    -- two readers that stop so on all lists
    abbrev pub Alike : {A B : Type 0} → (A → Reader B) → (A → Reader B) → Type 0
    Alike {A} go go2 = (e : A) (ls ls2 : List Lexeme) → Cuts c ls ls2 → Steady c (length ls) (go e ls) (go2 e ls2)

    pub brackets_steady : {A : Type 0} (go go2 : ExprTree → Reader A) → Alike go go2 → (ls ls2 : List Lexeme) → Cuts c ls ls2 → Steady c (length ls) (in_brackets low go ls) (in_brackets low2 go2 ls2)
    brackets_steady go go2 k ls ls2 s =
        steady_then c (length ls) (word_from (codes "(") ls) (word_from (codes "(") ls2) _ _ (word_steady c (codes "(") ls ls2 s)
        (λ p r r2 le t. steady_then c (length r) (low.expr implications r) (low2.expr implications r2) go go2 (good.expr implications r r2 t) (λ e z z2 le u. k e z z2 u))

    pub part_steady : (go go2 : ExprTree → Reader ExprTree) → Alike go go2 → (ls ls2 : List Lexeme) → Cuts c ls ls2 → Steady c (length ls) (and_part low go ls) (and_part low2 go2 ls2)
    part_steady go go2 k ls ls2 s =
        steady_then c (length ls) (word_from (codes ",") ls) (word_from (codes ",") ls2) _ _ (word_steady c (codes ",") ls ls2 s)
        (λ p r r2 le t. steady_then c (length r) (low.expr implications r) (low2.expr implications r2) go go2 (good.expr implications r r2 t) (λ e z z2 le u. k e z z2 u))

    -- an expression, and what is made of it
    pub made_steady : {A : Type 0} (level : Level) (make : ExprTree → A) (ls ls2 : List Lexeme) → Cuts c ls ls2
        → Steady c (length ls) (low.expr level ls and_then λ e rest. took (make e) rest) (low2.expr level ls2 and_then λ e rest. took (make e) rest)
    made_steady level make ls ls2 s =
        steady_then c (length ls) (low.expr level ls) (low2.expr level ls2) _ _ (good.expr level ls ls2 s) (λ e z z2 le u. took_steady c (make e) z z2 u)

    pub domain_made_steady : {A : Type 0} (level : DomainLevel) (make : DomainTree → A) (ls ls2 : List Lexeme) → Cuts c ls ls2
        → Steady c (length ls) (low.domain level ls and_then λ e rest. took (make e) rest) (low2.domain level ls2 and_then λ e rest. took (make e) rest)
    domain_made_steady level make ls ls2 s =
        steady_then c (length ls) (low.domain level ls) (low2.domain level ls2) _ _ (good.domain level ls ls2 s) (λ e z z2 le u. took_steady c (make e) z z2 u)

    -- ---- functions

    pub call_steady : (make : ExprTree → ExprTree) (ls ls2 : List Lexeme) → Cuts c ls ls2 → Steady c (length ls) (call_from low make ls) (call_from low2 make ls2)
    unfolding call_from
    call_steady make ls ls2 s = brackets_steady _ _ (λ e. closed_steady (codes ")") (make e)) ls ls2 s

    pub call_of_two_steady : (one : FoldOp) (two : BinaryOp) (p : Place) (ls ls2 : List Lexeme) → Cuts c ls ls2 → Steady c (length ls) (call_of_two_from low one two p ls) (call_of_two_from low2 one two p ls2)
    unfolding call_of_two_from
    call_of_two_steady one two p ls ls2 s = brackets_steady _ _ (λ a z z2 u. second a z z2 u) ls ls2 s
      where
        part_after : (a : ExprTree) (z z2 : List Lexeme) → Cuts c z z2
            → Steady c (length z) (low.expr implications z and_then λ b. closed_by (codes ")") (binary p two a b)) (low2.expr implications z2 and_then λ b. closed_by (codes ")") (binary p two a b))
        part_after a z z2 u = steady_then c (length z) (low.expr implications z) (low2.expr implications z2) _ _ (good.expr implications z z2 u) (λ b r r2 le t. closed_steady (codes ")") (binary p two a b) r r2 t)

        second : (a : ExprTree) (z z2 : List Lexeme) → Cuts c z z2
            → Steady c (length z) (either_reader (says (codes ",") z) (and_part low (λ b. closed_by (codes ")") (binary p two a b))) (closed_by (codes ")") (folded p one a)) z)
            (either_reader (says (codes ",") z2) (and_part low2 (λ b. closed_by (codes ")") (binary p two a b))) (closed_by (codes ")") (folded p one a)) z2)
        second a z z2 u = word_itself_steady c (codes ",") _ _ _ _ (λ r r2 t. part_after a r r2 t) z z2 u (closed_steady (codes ")") (folded p one a) z z2 u)

    pub table_steady : (p : Place) (ls ls2 : List Lexeme) → Cuts c ls ls2 → Steady c (length ls) (table_from low p ls) (table_from low2 p ls2)
    unfolding table_from
    table_steady p ls ls2 s = brackets_steady _ _ (λ row. part_steady _ _ (λ rows. closed_steady (codes ")") (table p row rows))) ls ls2 s

    pub three_steady : (what : ThreeParts) (p : Place) (ls ls2 : List Lexeme) → Cuts c ls ls2 → Steady c (length ls) (call_of_three_from low what p ls) (call_of_three_from low2 what p ls2)
    unfolding call_of_three_from
    three_steady what p ls ls2 s = brackets_steady _ _ (λ a. part_steady _ _ (λ b. part_steady _ _ (λ d. closed_steady (codes ")") (three_parts what p a b d)))) ls ls2 s

    -- ---- quantifiers

    pub quantifier_steady : (op : QuantOp) (p : Place) (ls ls2 : List Lexeme) → Cuts c ls ls2 → Steady c (length ls) (quantifier_from low op p ls) (quantifier_from low2 op p ls2)
    unfolding quantifier_from
    quantifier_steady op p ls ls2 s =
        steady_then c (length ls) (names_from ls) (names_from ls2) _ _ (names_steady ls ls2 s)
        (λ names a a2 le t. steady_then c (length a) (word_from (codes ":") a) (word_from (codes ":") a2) _ _ (word_steady c (codes ":") a a2 t)
        (λ q b b2 le t. steady_then c (length b) (low.domain set_operations b) (low2.domain set_operations b2) _ _ (good.domain set_operations b b2 t)
        (λ d e e2 le t. steady_then c (length e) (word_from (codes ".") e) (word_from (codes ".") e2) _ _ (word_steady c (codes ".") e e2 t)
        (λ q f f2 le t. made_steady implications (quantified p op names d) f f2 t))))

    pub sum_steady : (p : Place) (ls ls2 : List Lexeme) → Cuts c ls ls2 → Steady c (length ls) (sum_from low p ls) (sum_from low2 p ls2)
    unfolding sum_from call_from
    sum_steady p ls ls2 s =
        word_itself_steady c (codes "(") _ _ _ _ (λ r r2 t. steady_then c (length r) (low.expr implications r) (low2.expr implications r2) _ _ (good.expr implications r r2 t) (λ b z z2 le u. closed_steady (codes ")") (folded p FoldOp.Sum b) z z2 u))
        ls ls2 s (quantifier_steady QuantOp.Sum p ls ls2 s)

    -- ---- lists in square brackets

    pub index_domain_steady : (t t2 : Bool) → Tests c t t2 → (ls ls2 : List Lexeme) → Cuts c ls ls2 → Steady c (length ls) (index_domain_from t low ls) (index_domain_from t2 low2 ls2)
    unfolding index_domain_from
    index_domain_steady t t2 tests ls ls2 s =
        low_word_steady c (codes ";") t t2 (λ z. low.domain set_operations z and_then λ d rest. took (over d) rest) (λ z. low2.domain set_operations z and_then λ d rest. took (over d) rest) (λ all. took unstated all) (λ all. took unstated all) tests
        (λ _ z z2 u. domain_made_steady set_operations over z z2 u) ls ls2 s (took_steady c unstated ls ls2 s)

    pub list_end_steady : (t t2 : Bool) → Tests c t t2 → (make : IndexDomain → ExprTree) (ls ls2 : List Lexeme) → Cuts c ls ls2 → Steady c (length ls) (list_end t low make ls) (list_end t2 low2 make ls2)
    list_end_steady t t2 tests make ls ls2 s =
        steady_then c (length ls) (index_domain_from t low ls) (index_domain_from t2 low2 ls2) _ _ (index_domain_steady t t2 tests ls ls2 s) (λ d z z2 le u. closed_steady (codes "]") (make d) z z2 u)

    pub generator_steady : (ls ls2 : List Lexeme) → Cuts c ls ls2 → Steady c (length ls) (generator_from low ls) (generator_from low2 ls2)
    unfolding generator_from
    generator_steady ls ls2 s =
        steady_then c (length ls) (names_from ls) (names_from ls2) _ _ (names_steady ls ls2 s)
        (λ names a a2 le t. steady_then c (length a) (word_from (codes ":") a) (word_from (codes ":") a2) _ _ (word_steady c (codes ":") a a2 t)
        (λ q b b2 le t. domain_made_steady set_operations (λ d. (names, d)) b b2 t))

    pub literal_steady : (t t2 : Bool) → Tests c t t2 → (p : Place) (e : ExprTree) (ls ls2 : List Lexeme) → Cuts c ls ls2 → Steady c (length ls) (literal_from t low p e ls) (literal_from t2 low2 p e ls2)
    unfolding literal_from
    literal_steady t t2 tests p e ls ls2 s =
        commas_steady (λ last. low.expr implications) (λ last. low2.expr implications) (λ last. good.expr implications) _ _ (λ es z z2 u. list_end_steady t t2 tests (literal p (as_trees (e ∷ es))) z z2 u) e ls ls2 s
