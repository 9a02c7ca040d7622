-- What is taken with operators is spelled.
use Rattle.std.specs.Prelude.{◌≡◌, ℕ, suc, ◌+◌, ◌≤◌, max, Bool, true, false, not, ◌&&◌, nat_le, nat_lt, List, length, Some, codes, refl}
use Rattle.std.proofs.Common.{arith, sym, subst}
use Rattle.std.proofs.Math.Nat.{max-le}
use Rattle.std.proofs.lemmas.Bool.{and_parts}
use Rattle.std.proofs.lemmas.Bool.Decides.{nat_tests}
use Rattle.ep_base.specs.declared.places.Place.{Place}
use Prim.Native.String.{String}
use Rattle.ep_tree.specs.Heights.{domain_height, height, highest, highest_term}
use Rattle.ep_tree.specs.Phrases.{Is, Lexeme, Says, a_word, ◌followed_by◌}
use Rattle.ep_tree.specs.Spelling.{Call1, ClosedBefore, Level, Spells, SpellsDomain, SpellsMoreParts, SpellsNode, SpellsParts, SpellsTerms, binary_level, binary_word, compare_word, comparisons, conjunctions, disjunctions, ends_open, has_terms, has_trees, implications, is_called, lex_word, own_level, powers, products, rank, set_operations, sign_word, sums, tighter, unaries}
use Rattle.ep_tree.specs.Trees.{ExprTree, ExprTrees, all_of, any_of, binary, chain, compare, in_domain, in_set, lex, place_of, term_and, tree_and}
use Rattle.ep_tree.specs.declared.syntax.BinaryOp.{BinaryOp}
use Rattle.ep_parse_parts.specs.OperandReaders.{Lower, as_trees, call_from, closed_by, is_there}
use Rattle.ep_parse_parts.specs.OperatorReaders.{Comparison, Term, another_binary, as_terms, chain_from, compared_with, comparison_behind, comparison_from, comparison_words, conjunction_from, disjunction_from, implication_from, implication_words, of_lists, of_numbers, of_set, only_word, part_from, parts_behind, parts_from, power_from, power_words, product_from, product_words, sign_words, term_behind, term_from, terms_behind, terms_from, unary_from, with_operator}
use Rattle.ep_parse_parts.specs.Readers.{behind, next_in, others_from, says, took, word_from, wrong}
use Rattle.ep_parse_parts.proofs.Holding.{AllEntries, AreWordsOf, Holds, HoldsIf, Takes, behind_two, grown_sound, holds_as, holds_chosen, holds_low, holds_then, holds_took, holds_wrong, if_grown_sound, if_some_sound, more_sound, next_in-all, next_in-sound, operated_sound, says_sound, takes_as, takes_nothing, takes_then, word_sound}
use Rattle.ep_parse_parts.proofs.SoundParts.{AreSound, IsDomain, IsExpr, begun_by, brackets_sound, closed_sound, kept-sound, looser, takes_domain, takes_expr}
use Rattle.ep_parse_parts.proofs.SoundReads.{unary_sound}

below : (m n : ℕ) → nat_lt m (suc n) ≡ true → m ≤ n
below m n e = grind (arith, nat_tests)

-- ---- the words of operators

abbrev pub binary_bytes : BinaryOp → List ℕ
binary_bytes op = codes (binary_word op)

-- an operator that stands between two parts of a level
abbrev pub IsOf : Level → BinaryOp → Type 0
IsOf own op = (binary_level op ≡ own) × (is_called op ≡ false)

pub are_powers : AreWordsOf binary_bytes power_words × AllEntries (IsOf powers) power_words
unfolding binary_word binary_level is_called
are_powers = ((refl, tt), ((refl, refl), tt))

pub are_products : AreWordsOf binary_bytes product_words × AllEntries (IsOf products) product_words
unfolding binary_word binary_level is_called
are_products = ((refl, (refl, (refl, tt))), ((refl, refl), ((refl, refl), ((refl, refl), tt))))

pub are_implications : AreWordsOf binary_bytes implication_words × AllEntries (IsOf implications) implication_words
unfolding binary_word binary_level is_called
are_implications = ((refl, (refl, tt)), ((refl, refl), ((refl, refl), tt)))

abbrev pub sign_bytes : Bool → List ℕ
sign_bytes plus = codes (sign_word plus)

pub are_signs : AreWordsOf sign_bytes sign_words
unfolding sign_word
are_signs = (refl, (refl, tt))

abbrev pub comparison_bytes : Comparison → List ℕ
comparison_bytes (of_numbers op) = codes (compare_word op)
comparison_bytes (of_lists op) = codes (lex_word op)
comparison_bytes of_set = codes "in"

pub are_comparisons : AreWordsOf comparison_bytes comparison_words
unfolding compare_word lex_word
are_comparisons = (refl, (refl, (refl, (refl, (refl, (refl, (refl, (refl, (refl, (refl, (refl, tt)))))))))))

-- what with_operator tells
pub operator_sound : {A : Type 0} (words : List (List ℕ × A)) (left : ExprTree) (ls next : List Lexeme) → with_operator words left ls ≡ Some next → (not (ends_open left) ≡ true) × (next ≡ ls)
operator_sound words left ls next e =
    let k = kept-sound (not (ends_open left) && is_there (next_in words ls)) ls next e in
    ((and_parts (not (ends_open left)) (is_there (next_in words ls)) k.0).0, k.1)

module _ (less : ℕ) (low : Lower) (good : AreSound less low) where
  -- ---- operators of two parts

  pub binary_step : (own right : Level) (words : List (List ℕ × BinaryOp)) → AreWordsOf binary_bytes words → AllEntries (IsOf own) words → tighter own ≡ right
      → nat_le (rank right) (rank unaries) ≡ true → nat_le (rank own) (rank own) ≡ true
      → (ls : List Lexeme) (left : ExprTree) (from : List Lexeme) → IsExpr own (suc less) ls left from
      → HoldsIf (IsExpr own (suc less) ls) (another_binary (suc less) low words right left from)
  unfolding another_binary SpellsNode own_level place_of height
  binary_step own right words are all next_level ranked same ls left from q =
      let Q : ExprTree → List Lexeme → Type 0 = IsExpr own (suc less) ls in
      operated_sound Q (not (ends_open left)) (next_in words from) _
      (λ op closed e.
      let is = next_in-all (IsOf own) words all from op e in
      holds_low Q (nat_lt (height left) (suc less)) _ from
      (λ lt. holds_then (IsExpr right less (behind from)) Q (low.expr right (behind from)) _ (good.expr right ranked (behind from))
      (λ b end h. holds_took Q (binary (place_of left) op left b) end
      (begun_by own own (suc less) (suc less) ls from end left (binary (place_of left) op left b) (Says (binary_word op) followed_by Spells right b) refl q
      (takes_then (Says (binary_word op)) (Spells right b) from (behind from) end (next_in-sound binary_bytes words are from op e) (takes_expr right less (behind from) b end h))
      (λ front k. rw (is.1, is.0, next_level) (k.0, k.1, k.2, (closed, k.3), k.4))
      (rw is.0 same)
      (let high : max (height left) (height b) ≤ less = max-le (below (height left) less lt) h.low in omega (arith, high))))))

  pub power_sound : (ls : List Lexeme) → Holds (IsExpr powers (suc less) ls) (power_from (suc less) low ls)
  unfolding power_from rank tighter
  power_sound ls =
      holds_then (IsExpr unaries (suc less) ls) (IsExpr powers (suc less) ls) (unary_from (suc less) low ls) _ (unary_sound less low good ls)
      (λ e rest h. grown_sound (another_binary (suc less) low power_words unaries) (IsExpr powers (suc less) ls)
      (binary_step powers unaries power_words are_powers.0 are_powers.1 refl refl refl ls) (length rest) e rest (looser powers unaries (suc less) ls e rest refl h))

  pub product_sound : (ls : List Lexeme) → Holds (IsExpr products (suc less) ls) (product_from (suc less) low ls)
  unfolding product_from rank tighter
  product_sound ls =
      holds_then (IsExpr powers (suc less) ls) (IsExpr products (suc less) ls) (power_from (suc less) low ls) _ (power_sound ls)
      (λ e rest h. grown_sound (another_binary (suc less) low product_words powers) (IsExpr products (suc less) ls)
      (binary_step products powers product_words are_products.0 are_products.1 refl refl refl ls) (length rest) e rest (looser products powers (suc less) ls e rest refl h))

  -- ---- chains of sums

  abbrev pub IsTerm : List Lexeme → Term → List Lexeme → Type 0
  IsTerm ls t rest = Takes (Says (sign_word t.0) followed_by Spells products t.1) ls rest × (height t.1 ≤ less)

  pub term_sound : (ls : List Lexeme) → Holds (IsTerm ls) (term_from low ls)
  unfolding term_from term_behind rank
  term_sound ls =
      if_some_sound (IsTerm ls) (next_in sign_words ls) _ (wrong ls)
      (λ plus e. holds_then (IsExpr products less (behind ls)) (IsTerm ls) (low.expr products (behind ls)) _ (good.expr products refl (behind ls))
      (λ x rest h. holds_took (IsTerm ls) (plus, x) rest
      (takes_then (Says (sign_word plus)) (Spells products x) ls (behind ls) rest (next_in-sound sign_bytes sign_words are_signs ls plus e) (takes_expr products less (behind ls) x rest h), h.low)))
      (holds_wrong (IsTerm ls) ls)

  -- further terms, behind one that isn't open if there are any
  AreTerms : Term → List Lexeme → List Term → List Lexeme → Type 0
  AreTerms last from ts end =
      Takes (SpellsTerms (as_terms ts)) from end × (highest_term (as_terms ts) ≤ less) × (not (has_terms (as_terms ts) && ends_open last.1) ≡ true)

  -- a term before further ones
  term_before : (t : Term) (ts : List Term) (from mid end : List Lexeme) → IsTerm from t mid → AreTerms t mid ts end
      → Takes (SpellsTerms (term_and t.0 t.1 (as_terms ts))) from end
  unfolding SpellsNode AreTerms
  term_before t ts from mid end h m =
      behind_two (Says (sign_word t.0)) (ClosedBefore (has_terms (as_terms ts)) t.1 (Spells products t.1)) (SpellsTerms (as_terms ts)) from mid end
      (takes_as (Says (sign_word t.0) followed_by Spells products t.1) (Says (sign_word t.0) followed_by ClosedBefore (has_terms (as_terms ts)) t.1 (Spells products t.1)) from mid (λ front k. (k.0, k.1, k.2, k.3, (m.2, k.4))) h.0)
      m.0

  terms_sound : (t : Term) (ls : List Lexeme) → Holds (AreTerms t ls) (others_from (λ last. with_operator sign_words last.1) (λ last. term_from low) t ls)
  unfolding AreTerms as_terms SpellsNode height has_terms
  terms_sound t ls =
      more_sound (λ last. with_operator sign_words last.1) (λ last. term_from low) AreTerms (λ last from. (takes_nothing from, omega arith, refl))
      (λ last from next c.
      let k = operator_sound sign_words last.1 from next c in
      holds_as (IsTerm next) _ (term_from low next) (term_sound next)
      (λ x r h xs end m. (subst (λ z. Takes (SpellsTerms (term_and x.0 x.1 (as_terms xs))) z end) k.1 (term_before x xs next r end h m), max-le h.1 m.1, k.0)))
      (length ls) t ls

  terms_behind_sound : (ls : List Lexeme) (first : ExprTree) (from : List Lexeme) → IsExpr products (suc less) ls first from → Holds (IsExpr sums (suc less) ls) (terms_behind (suc less) low first from)
  unfolding terms_behind terms_from rank SpellsNode own_level place_of height has_terms as_terms AreTerms
  terms_behind_sound ls first from q =
      let Q : ExprTree → List Lexeme → Type 0 = IsExpr sums (suc less) ls in
      if_some_sound Q (with_operator sign_words first from) _ (took first from)
      (λ all e.
      let k = operator_sound sign_words first from all e in
      holds_low Q (nat_lt (height first) (suc less)) _ all
      (λ lt. holds_then (IsTerm all) Q (term_from low all) _ (term_sound all)
      (λ t rest h. holds_then (AreTerms t rest) Q (others_from (λ last. with_operator sign_words last.1) (λ last. term_from low) t rest) _ (terms_sound t rest)
      (λ ts end m. holds_took Q (chain (place_of first) (term_and true first (term_and t.0 t.1 (as_terms ts)))) end
      (begun_by sums products (suc less) (suc less) ls from end first (chain (place_of first) (term_and true first (term_and t.0 t.1 (as_terms ts)))) (SpellsTerms (term_and t.0 t.1 (as_terms ts))) refl q
      (subst (λ z. Takes (SpellsTerms (term_and t.0 t.1 (as_terms ts))) z end) k.1 (term_before t ts all rest end h m))
      (λ front x. (refl, (x.0, x.1, x.2, (k.0, x.3), x.4))) refl
      (let high : max (height first) (max (height t.1) (highest_term (as_terms ts))) ≤ less = max-le (below (height first) less lt) (max-le h.1 m.1) in omega (arith, high)))))))
      (holds_took Q first from (looser sums products (suc less) ls first from refl q))

  pub chain_sound : (ls : List Lexeme) → Holds (IsExpr sums (suc less) ls) (chain_from (suc less) low ls)
  unfolding chain_from
  chain_sound ls =
      holds_then (IsExpr products (suc less) ls) (IsExpr sums (suc less) ls) (product_from (suc less) low ls) _ (product_sound ls) (terms_behind_sound ls)

  -- ---- comparisons

  compared_sound : (ls : List Lexeme) (a : ExprTree) (from : List Lexeme) → IsExpr sums (suc less) ls a from → height a ≤ less → not (ends_open a) ≡ true
      → (op : Comparison) → Takes (Is (a_word (comparison_bytes op))) from (behind from) → Holds (IsExpr comparisons (suc less) ls) (compared_with low a op (behind from))
  unfolding compared_with call_from rank SpellsNode own_level place_of height
  compared_sound ls a from q small closed (of_numbers op) w =
      let Q : ExprTree → List Lexeme → Type 0 = IsExpr comparisons (suc less) ls in
      holds_then (IsExpr sums less (behind from)) Q (low.expr sums (behind from)) _ (good.expr sums refl (behind from))
      (λ b end h. holds_took Q (compare (place_of a) op a b) end
      (begun_by comparisons sums (suc less) (suc less) ls from end a (compare (place_of a) op a b) (Says (compare_word op) followed_by Spells sums b) refl q
      (takes_then (Says (compare_word op)) (Spells sums b) from (behind from) end w (takes_expr sums less (behind from) b end h))
      (λ front k. (k.0, k.1, k.2, (closed, k.3), k.4)) refl
      (let high : max (height a) (height b) ≤ less = max-le small h.low in omega (arith, high))))
  compared_sound ls a from q small closed (of_lists op) w =
      let Q : ExprTree → List Lexeme → Type 0 = IsExpr comparisons (suc less) ls in
      holds_then (IsExpr sums less (behind from)) Q (low.expr sums (behind from)) _ (good.expr sums refl (behind from))
      (λ b end h. holds_took Q (lex (place_of a) op a b) end
      (begun_by comparisons sums (suc less) (suc less) ls from end a (lex (place_of a) op a b) (Says (lex_word op) followed_by Spells sums b) refl q
      (takes_then (Says (lex_word op)) (Spells sums b) from (behind from) end w (takes_expr sums less (behind from) b end h))
      (λ front k. (k.0, k.1, k.2, (closed, k.3), k.4)) refl
      (let high : max (height a) (height b) ≤ less = max-le small h.low in omega (arith, high))))
  compared_sound ls a from q small closed of_set w =
      let Q : ExprTree → List Lexeme → Type 0 = IsExpr comparisons (suc less) ls in
      holds_chosen Q (says (codes "toSet") (behind from)) _ _ (behind from)
      (λ e. brackets_sound less low good Q (λ m. closed_by (codes ")") (in_set (place_of a) a m)) (behind (behind from))
      (λ m mid k t. closed_sound Q (codes ")") (in_set (place_of a) a m) mid
      (λ end u. begun_by comparisons sums (suc less) (suc less) ls from end a (in_set (place_of a) a m) (Says "in" followed_by Call1 "toSet" (Spells implications m)) refl q
      (takes_then (Says "in") (Call1 "toSet" (Spells implications m)) from (behind from) end w
      (takes_then (Says "toSet") (Says "(" followed_by Spells implications m followed_by Says ")") (behind from) (behind (behind from)) end (says_sound (codes "toSet") (behind from) e)
      (behind_two (Says "(") (Spells implications m) (Says ")") (behind (behind from)) mid end t u)))
      (λ front x. (x.0, x.1, x.2, (closed, x.3), x.4)) refl
      (let high : max (height a) (height m) ≤ less = max-le small k in omega (arith, high)))))
      (λ _. holds_then (IsDomain set_operations less (behind from)) Q (low.domain set_operations (behind from)) _ (good.domain set_operations (behind from))
      (λ d end h. holds_took Q (in_domain (place_of a) a d) end
      (begun_by comparisons sums (suc less) (suc less) ls from end a (in_domain (place_of a) a d) (Says "in" followed_by SpellsDomain set_operations d) refl q
      (takes_then (Says "in") (SpellsDomain set_operations d) from (behind from) end w (takes_domain set_operations less (behind from) d end h))
      (λ front k. (k.0, k.1, k.2, (closed, k.3), k.4)) refl
      (let high : max (height a) (domain_height d) ≤ less = max-le small h.low in omega (arith, high)))))

  pub comparison_sound : (ls : List Lexeme) → Holds (IsExpr comparisons (suc less) ls) (comparison_from (suc less) low ls)
  unfolding comparison_from comparison_behind rank
  comparison_sound ls =
      let Q : ExprTree → List Lexeme → Type 0 = IsExpr comparisons (suc less) ls in
      holds_then (IsExpr sums (suc less) ls) Q (chain_from (suc less) low ls) _ (chain_sound ls)
      (λ a rest q. if_grown_sound Q _ a rest
      (operated_sound Q (not (ends_open a)) (next_in comparison_words rest) _
      (λ op closed e. holds_low Q (nat_lt (height a) (suc less)) _ rest
      (λ lt. compared_sound ls a rest q (below (height a) less lt) closed op (next_in-sound comparison_bytes comparison_words are_comparisons rest op e))))
      (looser comparisons sums (suc less) ls a rest refl q))

  -- ---- chains of conjunctions and disjunctions

  module _ (w : String) (level : Level) (ranked : nat_le (rank level) (rank unaries) ≡ true) where
    abbrev IsPart : List Lexeme → ExprTree → List Lexeme → Type 0
    IsPart ls e rest = Takes (Says w followed_by Spells level e) ls rest × (height e ≤ less)

    a_part_sound : (ls : List Lexeme) → Holds (IsPart ls) (part_from low (codes w) level ls)
    unfolding part_from
    a_part_sound ls =
        holds_then (λ p rest. Takes (Says w) ls rest) (IsPart ls) (word_from (codes w) ls) _ (word_sound (codes w) ls)
        (λ p mid t. holds_as (IsExpr level less mid) (IsPart ls) (low.expr level mid) (good.expr level ranked mid)
        (λ e rest h. (takes_then (Says w) (Spells level e) ls mid rest t (takes_expr level less mid e rest h), h.low)))

    AreParts : ExprTree → List Lexeme → List ExprTree → List Lexeme → Type 0
    AreParts last from es end =
        Takes (SpellsMoreParts w level (as_trees es)) from end × (highest (as_trees es) ≤ less) × (not (has_trees (as_trees es) && ends_open last) ≡ true)

    part_before : (e : ExprTree) (es : List ExprTree) (from mid end : List Lexeme) → IsPart from e mid → AreParts e mid es end
        → Takes (SpellsMoreParts w level (tree_and e (as_trees es))) from end
    unfolding SpellsNode AreParts
    part_before e es from mid end h m =
        behind_two (Says w) (ClosedBefore (has_trees (as_trees es)) e (Spells level e)) (SpellsMoreParts w level (as_trees es)) from mid end
        (takes_as (Says w followed_by Spells level e) (Says w followed_by ClosedBefore (has_trees (as_trees es)) e (Spells level e)) from mid (λ front k. (k.0, k.1, k.2, k.3, (m.2, k.4))) h.0)
        m.0

    parts_sound : (e : ExprTree) (ls : List Lexeme) → Holds (AreParts e ls) (others_from (with_operator (only_word (codes w))) (λ last. part_from low (codes w) level) e ls)
    unfolding AreParts as_trees SpellsNode height has_trees
    parts_sound e ls =
        more_sound (with_operator (only_word (codes w))) (λ last. part_from low (codes w) level) AreParts (λ last from. (takes_nothing from, omega arith, refl))
        (λ last from next c.
        let k = operator_sound (only_word (codes w)) last from next c in
        holds_as (IsPart next) _ (part_from low (codes w) level next) (a_part_sound next)
        (λ x r h xs end m. (subst (λ z. Takes (SpellsMoreParts w level (tree_and x (as_trees xs))) z end) k.1 (part_before x xs next r end h m), max-le h.1 m.1, k.0)))
        (length ls) e ls

    parts_behind_sound : (own : Level) (make : Place → ExprTrees → ExprTree) → ((p : Place) (es : ExprTrees) → place_of (make p es) ≡ p)
        → ((p : Place) (es : ExprTrees) (front : List Lexeme) → SpellsParts w level es front → SpellsNode (make p es) front)
        → ((p : Place) (es : ExprTrees) → nat_le (rank own) (rank (own_level (make p es))) ≡ true) → ((p : Place) (es : ExprTrees) → height (make p es) ≡ 1 + highest es)
        → nat_le (rank own) (rank level) ≡ true
        → (ls : List Lexeme) (first : ExprTree) (from : List Lexeme) → IsExpr level (suc less) ls first from → Holds (IsExpr own (suc less) ls) (parts_behind (suc less) low (codes w) level make first from)
    unfolding parts_behind parts_from SpellsNode height has_trees as_trees AreParts
    parts_behind_sound own make at node owned high le ls first from q =
        let Q : ExprTree → List Lexeme → Type 0 = IsExpr own (suc less) ls in
        if_some_sound Q (with_operator (only_word (codes w)) first from) _ (took first from)
        (λ all e.
        let k = operator_sound (only_word (codes w)) first from all e in
        holds_low Q (nat_lt (height first) (suc less)) _ all
        (λ lt. holds_then (IsPart all) Q (part_from low (codes w) level all) _ (a_part_sound all)
        (λ t rest h. holds_then (AreParts t rest) Q (others_from (with_operator (only_word (codes w))) (λ last. part_from low (codes w) level) t rest) _ (parts_sound t rest)
        (λ ts end m.
        let parts = tree_and first (tree_and t (as_trees ts)) in
        holds_took Q (make (place_of first) parts) end
        (begun_by own level (suc less) (suc less) ls from end first (make (place_of first) parts) (SpellsMoreParts w level (tree_and t (as_trees ts))) (at (place_of first) parts) q
        (subst (λ z. Takes (SpellsMoreParts w level (tree_and t (as_trees ts))) z end) k.1 (part_before t ts all rest end h m))
        (λ front x. node (place_of first) parts front (refl, (x.0, x.1, x.2, (k.0, x.3), x.4))) (owned (place_of first) parts)
        (let top : max (height first) (max (height t) (highest (as_trees ts))) ≤ less = max-le (below (height first) less lt) (max-le h.1 m.1) in subst (λ n. n ≤ suc less) (sym (high (place_of first) parts)) (omega (arith, top))))))))
        (holds_took Q first from (looser own level (suc less) ls first from le q))

  pub conjunction_sound : (ls : List Lexeme) → Holds (IsExpr conjunctions (suc less) ls) (conjunction_from (suc less) low ls)
  unfolding conjunction_from rank place_of SpellsNode own_level height
  conjunction_sound ls =
      holds_then (IsExpr comparisons (suc less) ls) (IsExpr conjunctions (suc less) ls) (comparison_from (suc less) low ls) _ (comparison_sound ls)
      (parts_behind_sound "/\\" comparisons refl conjunctions all_of (λ p es. refl) (λ p es front x. x) (λ p es. refl) (λ p es. refl) refl ls)

  pub disjunction_sound : (ls : List Lexeme) → Holds (IsExpr disjunctions (suc less) ls) (disjunction_from (suc less) low ls)
  unfolding disjunction_from rank place_of SpellsNode own_level height
  disjunction_sound ls =
      holds_then (IsExpr conjunctions (suc less) ls) (IsExpr disjunctions (suc less) ls) (conjunction_from (suc less) low ls) _ (conjunction_sound ls)
      (parts_behind_sound "\\/" conjunctions refl disjunctions any_of (λ p es. refl) (λ p es front x. x) (λ p es. refl) (λ p es. refl) refl ls)

  pub implication_sound : (ls : List Lexeme) → Holds (IsExpr implications (suc less) ls) (implication_from (suc less) low ls)
  unfolding implication_from rank tighter
  implication_sound ls =
      holds_then (IsExpr disjunctions (suc less) ls) (IsExpr implications (suc less) ls) (disjunction_from (suc less) low ls) _ (disjunction_sound ls)
      (λ e rest h. grown_sound (another_binary (suc less) low implication_words disjunctions) (IsExpr implications (suc less) ls)
      (binary_step implications disjunctions implication_words are_implications.0 are_implications.1 refl refl refl ls) (length rest) e rest (looser implications disjunctions (suc less) ls e rest refl h))
