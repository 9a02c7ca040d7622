-- The readers of operators refuse a token where those before it can be completed.
use Rattle.std.specs.Prelude.{◌≡◌, ℕ, suc, ◌≤◌, ◌⊎◌, max, Bool, true, false, not, ◌&&◌, List, [], ◌∷◌, ◌++◌, length, nat_le, nat_lt, Option, Some, None, codes, refl}
use Rattle.std.proofs.Common.{ap, append-nil, append_assoc, arith, inl, inr, sym, subst, ◌∙◌}
use Rattle.std.proofs.Math.Nat.{max-le}
use Rattle.std.proofs.lemmas.Bool.Decides.{nat_tests}
use Rattle.ep_base.specs.declared.places.Place.{Place}
use Prim.Native.String.{String}
use Rattle.ep_tree.specs.Heights.{domain_height, height, highest, highest_term}
use Rattle.ep_tree.specs.Phrases.{Is, Lexeme, Says, a_word, ◌followed_by◌}
use Rattle.ep_tree.specs.Spelling.{Level, Spells, SpellsMoreParts, SpellsNode, SpellsTerms, comparisons, conjunctions, disjunctions, domain_rank, ends_open, has_terms, has_trees, implications, own_level, powers, primaries, products, rank, reads, set_operations, sign_word, sums, tighter, unaries}
use Rattle.ep_tree.specs.Trees.{ExprTree, ExprTrees, Terms, all_of, any_of, binary, chain, compare, in_domain, in_set, lex, no_terms, no_trees, place_of, term_and, tree_and}
use Rattle.ep_tree.specs.declared.syntax.BinaryOp.{BinaryOp}
use Rattle.ep_parse_parts.specs.OperandReaders.{Lower, as_trees, if_low, is_there}
use Rattle.ep_parse_parts.specs.OperatorReaders.{Comparison, Term, another_binary, as_terms, at_level, behind_operator, chain_from, compared_with, comparison_behind, comparison_from, comparison_words, conjunction_from, disjunction_from, implication_from, implication_words, of_lists, of_numbers, of_set, only_word, operated, part_from, parts_behind, parts_from, power_from, power_words, product_from, product_words, sign_words, term_behind, term_from, terms_behind, terms_from, unary_from, with_operator}
use Rattle.ep_parse_parts.specs.Readers.{Read, behind, grown, if_some, kept, meant_by, next_in, others_from, says, took, word_from, wrong, ◌and_then◌}
use Rattle.ep_parse_parts.proofs.AgainOperands.{some_expr}
use Rattle.ep_parse_expr.proofs.Completing.{ADomain, AnExpr, Filled, ItemSo, Refuses, Shape, Word, expr_filled, grown_refuses, more_refuses, next_then, refuses_as, refuses_behind, refuses_chosen, refuses_made, refuses_then, refuses_took, then_filled, word_filled, word_refuses, ◌then◌}
use Rattle.ep_parse_expr.proofs.CompletingOpened.{call_refuses}
use Rattle.ep_parse_expr.proofs.CompletingOperands.{Has, OneCall, domain_has, expr_has, then_has, word_has}
use Rattle.ep_parse_expr.proofs.CompletingParts.{AreOpen, token_opens}
use Rattle.ep_parse_expr.proofs.CompletingReads.{behind_left, refuses_step, unary_refuses}
use Rattle.ep_parse_parts.proofs.Holding.{AllEntries, AreWordsOf, Holds, Takes, holds_as, holds_then, meant_by-sound, next_in-all, says_sound, starts_front, takes_then, takes_token, word_sound}
use Rattle.ep_parse_parts.proofs.SoundOperators.{IsOf, are_comparisons, are_implications, are_powers, are_products, are_signs, binary_bytes, binary_step, chain_sound, comparison_bytes, comparison_sound, conjunction_sound, disjunction_sound, operator_sound, power_sound, product_sound, sign_bytes, term_sound}
use Rattle.ep_parse_parts.proofs.SoundParts.{AreSound, IsExpr, looser, takes_expr}
use Rattle.ep_parse_parts.proofs.SoundReads.{unary_sound}

-- ---- the next token of a table

pub entry_next : {A : Type 0} (word_of : A → List ℕ) (words : List (List ℕ × A)) → AreWordsOf word_of words → (ls : List Lexeme) (op : A) → next_in words ls ≡ Some op
    → (l : Lexeme) × (rest : List Lexeme) × (ls ≡ l ∷ rest) × (l.saying ≡ a_word (word_of op))
unfolding next_in
entry_next word_of words are [] op e = absurd cc
entry_next word_of words are (l ∷ rest) op e = (l, rest, refl, meant_by-sound word_of words are l.saying op e)

-- an operator that is there
pub operator_there : {A B : Type 0} (closed : Bool) (o : Option A) (go : A → Read B) (r : Read B) → operated closed o go ≡ Some r → (op : A) × (closed ≡ true) × (o ≡ Some op) × (r ≡ go op)
operator_there true None go r e = absurd cc
operator_there false None go r e = absurd cc
operator_there false (Some op) go r e = absurd cc
operator_there {A} {B} true (Some op) go r e = (op, refl, refl, sym (ap (λ o. or_else o) e))
  where
    or_else : Option (Read B) → Read B
    or_else None = r
    or_else (Some x) = x

-- what an option holds
is_some : {A : Type 0} (o : Option A) → is_there o ≡ true → (x : A) × (o ≡ Some x)
is_some None e = absurd (let no : false ≡ true = e in cc)
is_some (Some x) e = (x, refl)

pub operator_found : {A : Type 0} (words : List (List ℕ × A)) (left : ExprTree) (ls next : List Lexeme) → with_operator words left ls ≡ Some next → (op : A) × (next_in words ls ≡ Some op)
operator_found words left ls next e = is_some (next_in words ls) (there (not (ends_open left)) (is_there (next_in words ls)) refl e)
  where
    there : (a b : Bool) → is_there (next_in words ls) ≡ b → kept (a && b) ls ≡ Some next → b ≡ true
    there true true k e = refl
    there true false k e = absurd cc
    there false b k e = absurd cc

le_on : (a b c : ℕ) → nat_le a b ≡ true → nat_le b c ≡ true → nat_le a c ≡ true
le_on a b c h k = grind (arith, nat_tests)

from_left : (less : ℕ) (e : ExprTree) → height e ≤ less → 1 ≤ less
from_left less e h = omega (arith, some_expr e, h)

module _ (less : ℕ) (low : Lower) (sound : AreSound less low) (good : AreOpen less low) where
  -- what was taken is a whole, also where a looser level is asked for
  whole_left : (level : Level) (ls from : List Lexeme) (left : ExprTree) (q : IsExpr level (suc less) ls left from) → AnExpr level (suc less) true q.front
  whole_left level ls from left q = (left, (λ _. q.low), q.spelled)

  -- ---- chains that nest to the left

  binary_node : (own right : Level) (op : BinaryOp) (left : ExprTree) → not (ends_open left) ≡ true → IsOf own op → tighter own ≡ right → nat_le (rank own) (rank own) ≡ true
      → (b : Bool) → (b ≡ true → height left ≤ less) → (front back : List Lexeme) → Spells own left front → (Word (binary_bytes op) then AnExpr right less) b back → AnExpr own (suc less) b (front ++ back)
  unfolding SpellsNode own_level place_of height
  binary_node own right op left closed is next_level same b low front back s h =
      let k = h.4 in (
        binary (place_of left) op left k.0,
        (λ e. let high : max (height left) (height k.0) ≤ less = max-le (low e) (k.1 e) in omega (arith, high)),
        (rw is.0 same, (starts_front (place_of left) front back s.1.0, rw (is.1, is.0, next_level) (front, back, refl, (closed, s), (h.0, h.1, h.2, h.3, k.2)))),
      )

  binary_refused : (own right : Level) (words : List (List ℕ × BinaryOp)) → AreWordsOf binary_bytes words → AllEntries (IsOf own) words → tighter own ≡ right
      → nat_le (rank right) (rank unaries) ≡ true → nat_le (rank own) (rank own) ≡ true → nat_le (rank right) (rank primaries) ≡ true
      → (ls : List Lexeme) (left : ExprTree) (from : List Lexeme) (r : Read ExprTree) → IsExpr own (suc less) ls left from → another_binary (suc less) low words right left from ≡ Some r → Refuses (AnExpr own (suc less)) ls r
  unfolding another_binary
  binary_refused own right words are all next_level ranked same there ls left from r q e =
      let o = operator_there (not (ends_open left)) (next_in words from) _ r e in
      let op = o.0 in
      let n = entry_next binary_bytes words are from op o.2 in
      let Q : Shape = Word (binary_bytes op) then AnExpr right less in
      subst (λ z. Refuses (AnExpr own (suc less)) ls z) (sym o.3)
      (behind_left less own (AnExpr own (suc less)) Q ls from left n.0 n.1 (λ all. low.expr right (behind all) and_then λ b end. took (binary (place_of left) op left b) end) q n.2 (whole_left own ls from left q)
      (binary_node own right op left o.1 (next_in-all (IsOf own) words all from op o.2) next_level same)
      (token_opens (binary_bytes op) (AnExpr right less) Q n.0 n.3 (λ b front h. h) (expr_has right less false there (λ k. absurd cc)))
      (λ lt. then_filled (Word (binary_bytes op)) (AnExpr right less) (word_filled (binary_bytes op)) (expr_filled right less there (from_left less left lt)))
      (λ lt. refuses_behind (Is (a_word (binary_bytes op))) (AnExpr right less) Q (n.0 ∷ n.1) n.1 _ (takes_token n.0 n.1 (a_word (binary_bytes op)) n.3) (λ b front back p k. (front, back, refl, p, k)) (expr_filled right less there (from_left less left lt))
      (refuses_made (AnExpr right less) n.1 (low.expr right n.1) (λ b. binary (place_of left) op left b) (good.expr right ranked n.1))))

  -- an expression at a tighter level stands where a looser one is asked for
  looser_shape : (asked given : Level) → nat_le (rank asked) (rank given) ≡ true → (b : Bool) (front : List Lexeme) → AnExpr given (suc less) b front → AnExpr asked (suc less) b front
  looser_shape asked given le b front h = (h.0, h.1, (le_on (rank asked) (rank given) (rank (own_level h.0)) le h.2.0, h.2.1))

  binaries_refuse : (own right : Level) (words : List (List ℕ × BinaryOp)) → AreWordsOf binary_bytes words → AllEntries (IsOf own) words → tighter own ≡ right
      → nat_le (rank right) (rank unaries) ≡ true → nat_le (rank own) (rank own) ≡ true → nat_le (rank right) (rank primaries) ≡ true → nat_le (rank own) (rank right) ≡ true
      → (ls : List Lexeme) (r : Read ExprTree) → Refuses (AnExpr right (suc less)) ls r → Holds (IsExpr right (suc less) ls) r → Refuses (AnExpr own (suc less)) ls (r and_then grown (another_binary (suc less) low words right))
  binaries_refuse own right words are all next_level ranked same there le ls r h takes =
      refuses_step (AnExpr own (suc less)) ls r _ (refuses_as (AnExpr right (suc less)) (AnExpr own (suc less)) ls r (looser_shape own right le) h)
      (λ a rest e. grown_refuses (another_binary (suc less) low words right) (IsExpr own (suc less) ls) (AnExpr own (suc less)) ls (binary_step less low sound own right words are all next_level ranked same ls)
      (λ x z q i k. binary_refused own right words are all next_level ranked same there ls x z q i k) (length rest) a rest (looser own right (suc less) ls a rest le (takes.holds a rest e)))

  power_refuses : (ls : List Lexeme) → Refuses (AnExpr powers (suc less)) ls (power_from (suc less) low ls)
  unfolding power_from rank tighter
  power_refuses ls = binaries_refuse powers unaries power_words are_powers.0 are_powers.1 refl refl refl refl refl ls (unary_from (suc less) low ls) (unary_refuses less low sound good ls) (unary_sound less low sound ls)

  product_refuses : (ls : List Lexeme) → Refuses (AnExpr products (suc less)) ls (product_from (suc less) low ls)
  unfolding product_from rank tighter
  product_refuses ls = binaries_refuse products powers product_words are_products.0 are_products.1 refl refl refl refl refl ls (power_from (suc less) low ls) (power_refuses ls) (power_sound less low sound ls)

  -- ---- sums

  abbrev SignedTerm : Shape
  SignedTerm b front = (plus : Bool) × (e : ExprTree) × (b ≡ true → height e ≤ less) × (Says (sign_word plus) followed_by Spells products e) front

  abbrev SomeTerms : Shape
  SomeTerms b front = (terms : Terms) × (b ≡ true → highest_term terms ≤ less) × (has_terms terms ≡ true) × SpellsTerms terms front

  abbrev MoreTerms : Term → Shape
  MoreTerms last b front = (terms : Terms) × (b ≡ true → highest_term terms ≤ less) × (not (has_terms terms && ends_open last.1) ≡ true) × SpellsTerms terms front

  no_more_terms : (last : Term) (b : Bool) → MoreTerms last b []
  unfolding SpellsNode height has_terms
  no_more_terms last b = (no_terms, (λ _. omega arith), refl, refl)

  -- a term before others
  terms_are : (plus : Bool) (e : ExprTree) (b : Bool) (front back : List Lexeme) → (b ≡ true → height e ≤ less) → (Says (sign_word plus) followed_by Spells products e) front → MoreTerms (plus, e) b back → SomeTerms b (front ++ back)
  unfolding SpellsNode height has_terms
  terms_are plus e b front back small h m =
      (term_and plus e m.0, (λ k. max-le (small k) (m.1 k)), refl, (h.0, h.1 ++ back, ap (λ z. z ++ back) h.2 ∙ append_assoc h.0 h.1 back, h.3, (h.1, back, refl, (m.2, h.4), m.3)))

  more_terms_of : (last : Term) → not (ends_open last.1) ≡ true → (b : Bool) (front : List Lexeme) → SomeTerms b front → MoreTerms last b front
  more_terms_of last closed b front h = (h.0, h.1, subst (λ z. not (z && ends_open last.1) ≡ true) (sym h.2) closed, h.3)

  one_term : (b : Bool) (front : List Lexeme) → SignedTerm b front → SomeTerms b front
  one_term b front h = subst (λ z. SomeTerms b z) (append-nil front) (terms_are h.0 h.1 b front [] h.2 h.3 (no_more_terms (h.0, h.1) b))

  signed_has : (b : Bool) → (b ≡ true → 1 ≤ less) → (plus : Bool) → Has SignedTerm b
  unfolding rank
  signed_has b some plus = let x = then_has (Word (sign_bytes plus)) (AnExpr products less) b (word_has (sign_bytes plus) b) (expr_has products less b refl some) in (x.0, (plus, x.1.4.0, x.1.4.1, (x.1.0, x.1.1, x.1.2, x.1.3, x.1.4.2)))

  terms_filled : 1 ≤ less → Filled SomeTerms
  terms_filled some = record { some = λ b. let x = signed_has b (λ _. some) true in (x.0, one_term b x.0 x.1) }

  term_refuses : 1 ≤ less → (plus : Bool) (l : Lexeme) (rest : List Lexeme) → next_in sign_words (l ∷ rest) ≡ Some plus → Refuses SignedTerm (l ∷ rest) (term_from low (l ∷ rest))
  unfolding term_from term_behind rank next_in
  term_refuses some plus l rest e =
      let n = meant_by-sound sign_bytes sign_words are_signs l.saying plus (found e) in
      subst (λ z. Refuses SignedTerm (l ∷ rest) (if_some z (λ plus. term_behind low plus rest) (wrong (l ∷ rest)))) (sym e)
      (refuses_behind (Is (a_word (sign_bytes plus))) (AnExpr products less) SignedTerm (l ∷ rest) rest _ (takes_token l rest (a_word (sign_bytes plus)) n) (λ b front back p k. (plus, k.0, k.1, (front, back, refl, p, k.2))) (expr_filled products less refl some)
      (refuses_made (AnExpr products less) rest (low.expr products rest) (λ e. (plus, e)) (good.expr products refl rest)))
    where
      found : next_in sign_words (l ∷ rest) ≡ Some plus → meant_by sign_words l.saying ≡ Some plus
      found e = e

  term_items : (last : Term) (ls next : List Lexeme) → with_operator sign_words last.1 ls ≡ Some next → 1 ≤ less → ItemSo (λ last. with_operator sign_words last.1) (λ last. term_from low) MoreTerms no_more_terms last ls (term_from low next)
  term_items last ls next e some =
      let k = operator_sound sign_words last.1 ls next e in
      let f = operator_found sign_words last.1 ls next e in
      let n = entry_next sign_bytes sign_words are_signs ls f.0 f.1 in
      record {
        takes = λ x rest d. let h = term_sound less low sound next in let t = h.holds x rest d in
            record { front = t.0.front; parts = sym k.1 ∙ t.0.parts; leads = λ b back l. more_terms_of last k.0 b (t.0.front ++ back) (terms_are x.0 x.1 b t.0.front back (λ _. t.1) t.0.spelled l) };
        refuses = subst (λ z. Refuses (MoreTerms last) ls (term_from low z)) (sym k.1) (subst (λ z. Refuses (MoreTerms last) z (term_from low z)) (sym n.2)
            (refuses_as SignedTerm (MoreTerms last) (n.0 ∷ n.1) _ (λ b front h. more_terms_of last k.0 b front (one_term b front h)) (term_refuses some f.0 n.0 n.1 (subst (λ z. next_in sign_words z ≡ Some f.0) n.2 f.1))));
      }

  terms_refuse : 1 ≤ less → (first : ExprTree) (plus : Bool) (l : Lexeme) (rest : List Lexeme) → next_in sign_words (l ∷ rest) ≡ Some plus → Refuses SomeTerms (l ∷ rest) (terms_from low first (l ∷ rest))
  unfolding terms_from
  terms_refuse some first plus l rest e =
      refuses_step SomeTerms (l ∷ rest) (term_from low (l ∷ rest)) _ (refuses_as SignedTerm SomeTerms (l ∷ rest) _ one_term (term_refuses some plus l rest e))
      (λ t z k. let h = term_sound less low sound (l ∷ rest) in
      let i = h.holds t z k in
      refuses_behind (Says (sign_word t.0) followed_by Spells products t.1) (MoreTerms t) SomeTerms (l ∷ rest) z _ i.0 (λ b front back p m. terms_are t.0 t.1 b front back (λ _. i.1) p m) (record { some = λ b. ([], no_more_terms t b) })
      (refuses_made (MoreTerms t) z (others_from (λ last. with_operator sign_words last.1) (λ last. term_from low) t z) (λ ts. chain (place_of first) (term_and true first (as_terms (t ∷ ts))))
      (more_refuses (λ last. with_operator sign_words last.1) (λ last. term_from low) MoreTerms no_more_terms (λ last y next d. term_items last y next d some) (length z) t z)))

  sums_node : (left : ExprTree) → not (ends_open left) ≡ true → (b : Bool) → (b ≡ true → height left ≤ less) → (front back : List Lexeme) → Spells products left front → SomeTerms b back → AnExpr sums (suc less) b (front ++ back)
  unfolding SpellsNode own_level place_of height rank
  sums_node left closed b small front back s h = (
    chain (place_of left) (term_and true left h.0),
    (λ e. let high : max (height left) (highest_term h.0) ≤ less = max-le (small e) (h.1 e) in omega (arith, high)),
    (refl, (starts_front (place_of left) front back s.1.0, (h.2, (front, back, refl, (closed, s), h.3)))),
  )

  terms_behind_refuse : (ls : List Lexeme) (first : ExprTree) (from : List Lexeme) → IsExpr products (suc less) ls first from → Refuses (AnExpr sums (suc less)) ls (terms_behind (suc less) low first from)
  unfolding terms_behind rank
  terms_behind_refuse ls first from q = go (with_operator sign_words first from) refl
    where
      go : (o : Option (List Lexeme)) → with_operator sign_words first from ≡ o → Refuses (AnExpr sums (suc less)) ls (if_some o (if_low (nat_lt (height first) (suc less)) (terms_from low first)) (took first from))
      go None e = refuses_took (AnExpr sums (suc less)) ls from first
      go (Some all) e =
          let k = operator_sound sign_words first from all e in
          let f = operator_found sign_words first from all e in
          let n = entry_next sign_bytes sign_words are_signs from f.0 f.1 in
          subst (λ z. Refuses (AnExpr sums (suc less)) ls (if_low (nat_lt (height first) (suc less)) (terms_from low first) z)) (sym k.1)
          (behind_left less products (AnExpr sums (suc less)) SomeTerms ls from first n.0 n.1 (terms_from low first) q n.2 (looser_shape sums products refl true q.front (whole_left products ls from first q)) (sums_node first k.0)
          (token_opens (sign_bytes f.0) (AnExpr products less) SomeTerms n.0 n.3 (λ b front h. one_term b front (f.0, h.4.0, h.4.1, (h.0, h.1, h.2, h.3, h.4.2))) (expr_has products less false refl (λ k. absurd cc)))
          (λ lt. terms_filled (from_left less first lt)) (λ lt. terms_refuse (from_left less first lt) first f.0 n.0 n.1 (subst (λ z. next_in sign_words z ≡ Some f.0) n.2 f.1)))

  sums_refuse : (ls : List Lexeme) → Refuses (AnExpr sums (suc less)) ls (chain_from (suc less) low ls)
  unfolding chain_from rank
  sums_refuse ls =
      refuses_step (AnExpr sums (suc less)) ls (product_from (suc less) low ls) _ (refuses_as (AnExpr products (suc less)) (AnExpr sums (suc less)) ls _ (looser_shape sums products refl) (product_refuses ls))
      (λ a rest e. let h = product_sound less low sound ls in terms_behind_refuse ls a rest (h.holds a rest e))

  -- ---- comparisons

  abbrev SetPart : Shape
  SetPart b front = (Word (codes "toSet") then OneCall less) b front ⊎ ADomain set_operations less b front

  abbrev Compared : Comparison → Shape
  Compared (of_numbers op) b front = AnExpr sums less b front
  Compared (of_lists op) b front = AnExpr sums less b front
  Compared of_set b front = SetPart b front

  compared_has : (op : Comparison) (b : Bool) → (b ≡ true → 1 ≤ less) → Has (Compared op) b
  unfolding rank domain_rank
  compared_has (of_numbers op) b some = expr_has sums less b refl some
  compared_has (of_lists op) b some = expr_has sums less b refl some
  compared_has of_set b some = let x = domain_has set_operations less b refl some in (x.0, inr x.1)

  compared_node : (op : Comparison) (a : ExprTree) → not (ends_open a) ≡ true → (b : Bool) → (b ≡ true → height a ≤ less) → (front back : List Lexeme) → Spells sums a front → (Word (comparison_bytes op) then Compared op) b back → AnExpr comparisons (suc less) b (front ++ back)
  unfolding SpellsNode own_level place_of height rank
  compared_node (of_numbers op) a closed b small front back s h =
      let k = h.4 in (
        compare (place_of a) op a k.0,
        (λ e. let high : max (height a) (height k.0) ≤ less = max-le (small e) (k.1 e) in omega (arith, high)),
        (refl, (starts_front (place_of a) front back s.1.0, (front, back, refl, (closed, s), (h.0, h.1, h.2, h.3, k.2)))),
      )
  compared_node (of_lists op) a closed b small front back s h =
      let k = h.4 in (
        lex (place_of a) op a k.0,
        (λ e. let high : max (height a) (height k.0) ≤ less = max-le (small e) (k.1 e) in omega (arith, high)),
        (refl, (starts_front (place_of a) front back s.1.0, (front, back, refl, (closed, s), (h.0, h.1, h.2, h.3, k.2)))),
      )
  compared_node of_set a closed b small front back s h = go h.4
    where
      go : SetPart b h.1 → AnExpr comparisons (suc less) b (front ++ back)
      go (inl t) =
          let k = t.4 in
          let m = k.4 in (
            in_set (place_of a) a m.3.0,
            (λ e. let high : max (height a) (height m.3.0) ≤ less = max-le (small e) (m.3.1 e) in omega (arith, high)),
            (refl, (starts_front (place_of a) front back s.1.0, (front, back, refl, (closed, s), (h.0, h.1, h.2, h.3, (t.0, t.1, t.2, t.3, (k.0, k.1, k.2, k.3, (m.0, m.1, m.2, m.3.2, m.4))))))),
          )
      go (inr d) = (
        in_domain (place_of a) a d.0,
        (λ e. let high : max (height a) (domain_height d.0) ≤ less = max-le (small e) (d.1 e) in omega (arith, high)),
        (refl, (starts_front (place_of a) front back s.1.0, (front, back, refl, (closed, s), (h.0, h.1, h.2, h.3, d.2)))),
      )

  call_filled : 1 ≤ less → Filled (OneCall less)
  unfolding rank
  call_filled some = record { some = λ b. then_has (Word (codes "(")) (AnExpr implications less then Word (codes ")")) b (word_has (codes "(") b) (then_has (AnExpr implications less) (Word (codes ")")) b (expr_has implications less b refl (λ _. some)) (word_has (codes ")") b)) }

  compared_refuses : 1 ≤ less → (a : ExprTree) (op : Comparison) (ls : List Lexeme) → Refuses (Compared op) ls (compared_with low a op ls)
  unfolding compared_with rank
  compared_refuses some a (of_numbers op) ls = refuses_made (AnExpr sums less) ls (low.expr sums ls) (compare (place_of a) op a) (good.expr sums refl ls)
  compared_refuses some a (of_lists op) ls = refuses_made (AnExpr sums less) ls (low.expr sums ls) (lex (place_of a) op a) (good.expr sums refl ls)
  compared_refuses some a of_set ls =
      refuses_chosen SetPart (says (codes "toSet") ls) _ _ ls
      (λ e. next_then (codes "toSet") (OneCall less) SetPart ls _ (says_sound (codes "toSet") ls e) (call_filled some) (λ b front h. inl h) (call_refuses less low sound good some (in_set (place_of a) a) (behind ls)))
      (λ _. refuses_as (ADomain set_operations less) SetPart ls _ (λ b front h. inr h) (refuses_made (ADomain set_operations less) ls (low.domain set_operations ls) (in_domain (place_of a) a) (good.domain set_operations ls)))

  comparison_behind_refuses : (ls : List Lexeme) (a : ExprTree) (from : List Lexeme) → IsExpr sums (suc less) ls a from → Refuses (AnExpr comparisons (suc less)) ls (comparison_behind (suc less) low a from)
  unfolding comparison_behind rank
  comparison_behind_refuses ls a from q = go (behind_operator (suc less) comparison_words a (compared_with low a) from) refl
    where
      go : (o : Option (Read ExprTree)) → behind_operator (suc less) comparison_words a (compared_with low a) from ≡ o → Refuses (AnExpr comparisons (suc less)) ls (if_some o (λ compared. compared) (took a from))
      go None e = refuses_took (AnExpr comparisons (suc less)) ls from a
      go (Some r) e =
          let o = operator_there (not (ends_open a)) (next_in comparison_words from) _ r e in
          let op = o.0 in
          let n = entry_next comparison_bytes comparison_words are_comparisons from op o.2 in
          let Q : Shape = Word (comparison_bytes op) then Compared op in
          subst (λ z. Refuses (AnExpr comparisons (suc less)) ls z) (sym o.3)
          (behind_left less sums (AnExpr comparisons (suc less)) Q ls from a n.0 n.1 (λ all. compared_with low a op (behind all)) q n.2 (looser_shape comparisons sums refl true q.front (whole_left sums ls from a q)) (compared_node op a o.1)
          (token_opens (comparison_bytes op) (Compared op) Q n.0 n.3 (λ b front h. h) (compared_has op false (λ k. absurd cc)))
          (λ lt. then_filled (Word (comparison_bytes op)) (Compared op) (word_filled (comparison_bytes op)) (record { some = λ b. compared_has op b (λ _. from_left less a lt) }))
          (λ lt. refuses_behind (Is (a_word (comparison_bytes op))) (Compared op) Q (n.0 ∷ n.1) n.1 _ (takes_token n.0 n.1 (a_word (comparison_bytes op)) n.3) (λ b front back p k. (front, back, refl, p, k)) (record { some = λ b. compared_has op b (λ _. from_left less a lt) })
          (compared_refuses (from_left less a lt) a op n.1)))

  comparison_refuses : (ls : List Lexeme) → Refuses (AnExpr comparisons (suc less)) ls (comparison_from (suc less) low ls)
  unfolding comparison_from rank
  comparison_refuses ls =
      refuses_step (AnExpr comparisons (suc less)) ls (chain_from (suc less) low ls) _ (refuses_as (AnExpr sums (suc less)) (AnExpr comparisons (suc less)) ls _ (looser_shape comparisons sums refl) (sums_refuse ls))
      (λ a rest e. let h = chain_sound less low sound ls in comparison_behind_refuses ls a rest (h.holds a rest e))

  -- ---- conjunctions and disjunctions

  module _ (w : String) (level : Level) (ranked : nat_le (rank level) (rank unaries) ≡ true) (there : nat_le (rank level) (rank primaries) ≡ true) where
    abbrev APart : Shape
    APart b front = (e : ExprTree) × (b ≡ true → height e ≤ less) × (Says w followed_by Spells level e) front

    abbrev SomeParts : Shape
    SomeParts b front = (es : ExprTrees) × (b ≡ true → highest es ≤ less) × (has_trees es ≡ true) × SpellsMoreParts w level es front

    abbrev MoreParts : ExprTree → Shape
    MoreParts last b front = (es : ExprTrees) × (b ≡ true → highest es ≤ less) × (not (has_trees es && ends_open last) ≡ true) × SpellsMoreParts w level es front

    no_more_parts : (last : ExprTree) (b : Bool) → MoreParts last b []
    unfolding SpellsNode height has_trees
    no_more_parts last b = (no_trees, (λ _. omega arith), refl, refl)

    parts_are : (e : ExprTree) (b : Bool) (front back : List Lexeme) → (b ≡ true → height e ≤ less) → (Says w followed_by Spells level e) front → MoreParts e b back → SomeParts b (front ++ back)
    unfolding SpellsNode height has_trees
    parts_are e b front back small h m =
        (tree_and e m.0, (λ k. max-le (small k) (m.1 k)), refl, (h.0, h.1 ++ back, ap (λ z. z ++ back) h.2 ∙ append_assoc h.0 h.1 back, h.3, (h.1, back, refl, (m.2, h.4), m.3)))

    more_parts_of : (last : ExprTree) → not (ends_open last) ≡ true → (b : Bool) (front : List Lexeme) → SomeParts b front → MoreParts last b front
    more_parts_of last closed b front h = (h.0, h.1, subst (λ z. not (z && ends_open last) ≡ true) (sym h.2) closed, h.3)

    one_part_is : (b : Bool) (front : List Lexeme) → APart b front → SomeParts b front
    one_part_is b front h = subst (λ z. SomeParts b z) (append-nil front) (parts_are h.0 b front [] h.1 h.2 (no_more_parts h.0 b))

    of_word : (b : Bool) (front : List Lexeme) → (Word (codes w) then AnExpr level less) b front → APart b front
    of_word b front h = (h.4.0, h.4.1, (h.0, h.1, h.2, h.3, h.4.2))

    parts_filled : 1 ≤ less → Filled SomeParts
    parts_filled some = record { some = λ b. let x = then_has (Word (codes w)) (AnExpr level less) b (word_has (codes w) b) (expr_has level less b there (λ _. some)) in (x.0, one_part_is b x.0 (of_word b x.0 x.1)) }

    part_refuses : 1 ≤ less → (ls : List Lexeme) → Refuses APart ls (part_from low (codes w) level ls)
    unfolding part_from
    part_refuses some ls =
        refuses_as (Word (codes w) then AnExpr level less) APart ls _ of_word
        (refuses_then (Word (codes w)) (AnExpr level less) ls (word_from (codes w) ls) _ (word_refuses (codes w) ls) (word_sound (codes w) ls) (λ front h. h) (expr_filled level less there some) (λ p rest _. good.expr level ranked rest))

    -- a part that was taken
    abbrev IsPart : List Lexeme → ExprTree → List Lexeme → Type 0
    IsPart ls e rest = Takes (Says w followed_by Spells level e) ls rest × (height e ≤ less)

    part_taken : (ls : List Lexeme) → Holds (IsPart ls) (part_from low (codes w) level ls)
    unfolding part_from
    part_taken ls =
        holds_then (λ p rest. Takes (Says w) ls rest) (IsPart ls) (word_from (codes w) ls) _ (word_sound (codes w) ls)
        (λ p mid t. holds_as (IsExpr level less mid) (IsPart ls) (low.expr level mid) (sound.expr level ranked mid)
        (λ e rest h. (takes_then (Says w) (Spells level e) ls mid rest t (takes_expr level less mid e rest h), h.low)))

    part_items : 1 ≤ less → (last : ExprTree) (ls next : List Lexeme) → with_operator (only_word (codes w)) last ls ≡ Some next → ItemSo (with_operator (only_word (codes w))) (λ last. part_from low (codes w) level) MoreParts no_more_parts last ls (part_from low (codes w) level next)
    part_items some last ls next e =
        let k = operator_sound (only_word (codes w)) last ls next e in
        record {
          takes = λ x rest d. let h = part_taken next in let t = h.holds x rest d in
              record { front = t.0.front; parts = sym k.1 ∙ t.0.parts; leads = λ b back l. more_parts_of last k.0 b (t.0.front ++ back) (parts_are x b t.0.front back (λ _. t.1) t.0.spelled l) };
          refuses = subst (λ z. Refuses (MoreParts last) ls (part_from low (codes w) level z)) (sym k.1) (refuses_as APart (MoreParts last) ls _ (λ b front h. more_parts_of last k.0 b front (one_part_is b front h)) (part_refuses some ls));
        }

    parts_refuse : 1 ≤ less → (make : Place → ExprTrees → ExprTree) (first : ExprTree) (ls : List Lexeme) → Refuses SomeParts ls (parts_from low (codes w) level make first ls)
    unfolding parts_from
    parts_refuse some make first ls =
        refuses_step SomeParts ls (part_from low (codes w) level ls) _ (refuses_as APart SomeParts ls _ one_part_is (part_refuses some ls))
        (λ e z k. let h = part_taken ls in
        let i = h.holds e z k in
        refuses_behind (Says w followed_by Spells level e) (MoreParts e) SomeParts ls z _ i.0 (λ b front back p m. parts_are e b front back (λ _. i.1) p m) (record { some = λ b. ([], no_more_parts e b) })
        (refuses_made (MoreParts e) z (others_from (with_operator (only_word (codes w))) (λ last. part_from low (codes w) level) e z) (λ es. make (place_of first) (as_trees (first ∷ e ∷ es)))
        (more_refuses (with_operator (only_word (codes w))) (λ last. part_from low (codes w) level) MoreParts no_more_parts (part_items some) (length z) e z)))

    parts_behind_refuse : (own : Level) (make : Place → ExprTrees → ExprTree)
        → ((left : ExprTree) → not (ends_open left) ≡ true → (b : Bool) → (b ≡ true → height left ≤ less) → (front back : List Lexeme) → Spells level left front → SomeParts b back → AnExpr own (suc less) b (front ++ back))
        → nat_le (rank own) (rank level) ≡ true → (ls : List Lexeme) (first : ExprTree) (from : List Lexeme) → IsExpr level (suc less) ls first from → Refuses (AnExpr own (suc less)) ls (parts_behind (suc less) low (codes w) level make first from)
    unfolding parts_behind
    parts_behind_refuse own make node le ls first from q = go (with_operator (only_word (codes w)) first from) refl
      where
        go : (o : Option (List Lexeme)) → with_operator (only_word (codes w)) first from ≡ o → Refuses (AnExpr own (suc less)) ls (if_some o (if_low (nat_lt (height first) (suc less)) (parts_from low (codes w) level make first)) (took first from))
        go None e = refuses_took (AnExpr own (suc less)) ls from first
        go (Some all) e =
            let k = operator_sound (only_word (codes w)) first from all e in
            let f = operator_found (only_word (codes w)) first from all e in
            let n = entry_next {A = Bool} (λ _. codes w) (only_word (codes w)) (refl, tt) from f.0 f.1 in
            subst (λ z. Refuses (AnExpr own (suc less)) ls (if_low (nat_lt (height first) (suc less)) (parts_from low (codes w) level make first) z)) (sym k.1)
            (behind_left less level (AnExpr own (suc less)) SomeParts ls from first n.0 n.1 (parts_from low (codes w) level make first) q n.2 (looser_shape own level le true q.front (whole_left level ls from first q)) (node first k.0)
            (token_opens (codes w) (AnExpr level less) SomeParts n.0 n.3 (λ b front h. one_part_is b front (of_word b front h)) (expr_has level less false there (λ k. absurd cc)))
            (λ lt. parts_filled (from_left less first lt)) (λ lt. parts_refuse (from_left less first lt) make first (n.0 ∷ n.1)))

  conjunction_refuses : (ls : List Lexeme) → Refuses (AnExpr conjunctions (suc less)) ls (conjunction_from (suc less) low ls)
  unfolding conjunction_from rank SpellsNode own_level place_of height
  conjunction_refuses ls =
      refuses_step (AnExpr conjunctions (suc less)) ls (comparison_from (suc less) low ls) _ (refuses_as (AnExpr comparisons (suc less)) (AnExpr conjunctions (suc less)) ls _ (looser_shape conjunctions comparisons refl) (comparison_refuses ls))
      (λ a rest e. let h = comparison_sound less low sound ls in
      parts_behind_refuse "/\\" comparisons refl refl conjunctions all_of
      (λ left closed b small front back s k. (
        all_of (place_of left) (tree_and left k.0),
        (λ d. let high : max (height left) (highest k.0) ≤ less = max-le (small d) (k.1 d) in omega (arith, high)),
        (refl, (starts_front (place_of left) front back s.1.0, (k.2, (front, back, refl, (closed, s), k.3)))),
      )) refl ls a rest (h.holds a rest e))

  disjunction_refuses : (ls : List Lexeme) → Refuses (AnExpr disjunctions (suc less)) ls (disjunction_from (suc less) low ls)
  unfolding disjunction_from rank SpellsNode own_level place_of height
  disjunction_refuses ls =
      refuses_step (AnExpr disjunctions (suc less)) ls (conjunction_from (suc less) low ls) _ (refuses_as (AnExpr conjunctions (suc less)) (AnExpr disjunctions (suc less)) ls _ (looser_shape disjunctions conjunctions refl) (conjunction_refuses ls))
      (λ a rest e. let h = conjunction_sound less low sound ls in
      parts_behind_refuse "\\/" conjunctions refl refl disjunctions any_of
      (λ left closed b small front back s k. (
        any_of (place_of left) (tree_and left k.0),
        (λ d. let high : max (height left) (highest k.0) ≤ less = max-le (small d) (k.1 d) in omega (arith, high)),
        (refl, (starts_front (place_of left) front back s.1.0, (k.2, (front, back, refl, (closed, s), k.3)))),
      )) refl ls a rest (h.holds a rest e))

  implication_refuses : (ls : List Lexeme) → Refuses (AnExpr implications (suc less)) ls (implication_from (suc less) low ls)
  unfolding implication_from rank tighter
  implication_refuses ls =
      binaries_refuse implications disjunctions implication_words are_implications.0 are_implications.1 refl refl refl refl refl ls (disjunction_from (suc less) low ls) (disjunction_refuses ls) (disjunction_sound less low sound ls)

  pub at_level_refuses : (level : Level) → nat_le (rank level) (rank unaries) ≡ true → (ls : List Lexeme) → Refuses (AnExpr level (suc less)) ls (at_level (suc less) low level ls)
  unfolding at_level rank
  at_level_refuses implications ranked ls = implication_refuses ls
  at_level_refuses disjunctions ranked ls = disjunction_refuses ls
  at_level_refuses conjunctions ranked ls = conjunction_refuses ls
  at_level_refuses comparisons ranked ls = comparison_refuses ls
  at_level_refuses sums ranked ls = sums_refuse ls
  at_level_refuses products ranked ls = product_refuses ls
  at_level_refuses powers ranked ls = power_refuses ls
  at_level_refuses unaries ranked ls = unary_refuses less low sound good ls
  at_level_refuses reads ranked ls = let no : false ≡ true = ranked in absurd cc
  at_level_refuses primaries ranked ls = let no : false ≡ true = ranked in absurd cc
