-- What a word opens is read again: signs, brackets, functions and quantifiers.
use Rattle.std.specs.Prelude.{◌≡◌, ℕ, suc, ◌≤◌, true, false, nat_lt, List, [], ◌∷◌, ◌++◌, Some, codes, refl}
use Rattle.std.proofs.Common.{ap, arith, sym, subst, ◌∙◌, append_assoc}
use Rattle.ep_base.specs.declared.names.Name.{Name}
use Rattle.ep_base.specs.declared.places.Place.{Place}
use Rattle.ep_tree.specs.Heights.{domain_height, height}
use Rattle.ep_tree.specs.Phrases.{Is, Lexeme, Names, Phrase, Says, StartsAt, a_word, ◌followed_by◌}
use Rattle.ep_tree.specs.Spelling.{Spells, SpellsDomain, implications, rank, set_operations, unaries}
use Rattle.ep_tree.specs.Trees.{DomainTree, ExprTree, absolute, binary, folded, group, minus, negation, quantified, table}
use Rattle.ep_tree.specs.declared.syntax.BinaryOp.{BinaryOp}
use Rattle.ep_tree.specs.declared.syntax.FoldOp.{FoldOp}
use Rattle.ep_tree.specs.declared.syntax.QuantOp.{QuantOp}
use Rattle.ep_parse_parts.specs.OperandReaders.{Lower, Opening, ThreeParts, a_bar, a_bracket, a_greatest, a_group, a_least, a_minus, a_negation, a_quantifier, a_sum, a_table, a_truth, and_part, begun_from, call_from, call_of_three_from, call_of_two_from, closed_by, of_one, of_three, open_from, opened_from, openings, operand_from, quantifier_from, sum_from, table_from, three_parts}
use Rattle.ep_parse_parts.specs.Readers.{Reader, either_reader, looked_up, says, took, word_from, ◌and_then◌}
use Rattle.ep_parse_parts.proofs.Again.{AreComplete, EndsBefore, NoImplications, behind_word_cut, lexeme}
use Rattle.ep_parse_parts.proofs.AgainPhrases.{Again, EndsExpr, bar_closes, closed_again, comma_closes, domain_then, dot_closes, enough, expr_then, group_closes, last_ends, names_cut, names_then, word_ends, word_ends_domain, word_then}

-- what a word opens, where the height is enough
open_low : (low : Lower) (p : Place) (what : Opening) (rest all : List Lexeme) → open_from true low p (Some what) rest all ≡ opened_from low p what rest
unfolding open_from opened_from
open_low low p (a_truth b) rest all = refl
open_low low p a_bracket rest all = refl
open_low low p a_group rest all = refl
open_low low p a_bar rest all = refl
open_low low p a_negation rest all = refl
open_low low p a_minus rest all = refl
open_low low p (a_quantifier op) rest all = refl
open_low low p a_sum rest all = refl
open_low low p (of_one what) rest all = refl
open_low low p a_least rest all = refl
open_low low p a_greatest rest all = refl
open_low low p a_table rest all = refl
open_low low p (of_three what) rest all = refl

names_first : (xs : List Name) (front rest : List Lexeme) → Names xs front → says (codes "(") (front ++ rest) ≡ false
unfolding Names says
names_first [] front rest h = absurd h
names_first (x ∷ xs) front rest h = ap (λ z. says (codes "(") (z ++ rest)) (names_cut x xs front h).parts

module _ (less : ℕ) (low : Lower) (good : AreComplete less low) where
  -- an operand that a word opens is read again, where what is behind the word is
  pub word_opens : (w : List ℕ) (what : Opening) (P : Phrase) (e : ExprTree) (p : Place) (rest : List Lexeme) → looked_up openings w ≡ Some what → 1 ≤ less → Again P (opened_from low p what) e rest
      → (front : List Lexeme) → StartsAt p front → (Is (a_word w) followed_by P) front → operand_from (nat_lt 1 (suc less)) low (front ++ rest) ≡ took e rest
  unfolding operand_from begun_from
  word_opens w what P e p rest found some on front at h =
      let c = behind_word_cut w P front h in
      let here : c.place ≡ p = subst (λ x. StartsAt p x) c.parts at in
      let all = lexeme c.place (a_word w) ∷ (c.rest ++ rest) in
      ap (λ x. operand_from (nat_lt 1 (suc less)) low (x ++ rest)) c.parts
      ∙ ap (λ o. open_from (nat_lt 1 (suc less)) low c.place o (c.rest ++ rest) all) found
      ∙ ap (λ b. open_from b low c.place (Some what) (c.rest ++ rest) all) (enough less less some (omega arith))
      ∙ open_low low c.place what (c.rest ++ rest) all
      ∙ ap (λ q. opened_from low q what (c.rest ++ rest)) here
      ∙ on c.rest c.spelled

  -- ---- functions

  pub call_again : (make : ExprTree → ExprTree) (e : ExprTree) (rest : List Lexeme) → height e ≤ less
      → Again (Says "(" followed_by Spells implications e followed_by Says ")") (call_from low make) (make e) rest
  unfolding call_from
  call_again make e rest small =
      word_then (codes "(") (Spells implications e followed_by Says ")") (λ _ ls. low.expr implications ls and_then λ x. closed_by (codes ")") (make x)) (make e) rest
      (λ _. expr_then less low good e (Says ")") (λ x. closed_by (codes ")") (make x)) (make e) rest small (last_ends (codes ")") rest group_closes) (closed_again (codes ")") (make e) rest))

  pub part_then : (e : ExprTree) (P : Phrase) (k : ExprTree → Reader ExprTree) (b : ExprTree) (rest : List Lexeme) → height e ≤ less → EndsExpr P rest → Again P (k e) b rest
      → Again (Says "," followed_by Spells implications e followed_by P) (and_part low k) b rest
  part_then e P k b rest small ends on =
      word_then (codes ",") (Spells implications e followed_by P) (λ _ ls. low.expr implications ls and_then k) b rest (λ _. expr_then less low good e P k b rest small ends on)

  pub table_again : (p : Place) (row rows : ExprTree) (rest : List Lexeme) → height row ≤ less → height rows ≤ less
      → Again (Says "(" followed_by Spells implications row followed_by Says "," followed_by Spells implications rows followed_by Says ")") (table_from low p) (table p row rows) rest
  unfolding table_from
  table_again p row rows rest small small_rows =
      word_then (codes "(") (Spells implications row followed_by Says "," followed_by Spells implications rows followed_by Says ")")
      (λ _ ls. low.expr implications ls and_then λ a. and_part low (λ b. closed_by (codes ")") (table p a b))) (table p row rows) rest
      (λ _. expr_then less low good row (Says "," followed_by Spells implications rows followed_by Says ")") (λ a. and_part low (λ b. closed_by (codes ")") (table p a b))) (table p row rows) rest small
      (word_ends (codes ",") (Spells implications rows followed_by Says ")") rest comma_closes)
      (part_then rows (Says ")") (λ b. closed_by (codes ")") (table p row b)) (table p row rows) rest small_rows (last_ends (codes ")") rest group_closes) (closed_again (codes ")") (table p row rows) rest)))

  pub three_again : (what : ThreeParts) (p : Place) (a b c : ExprTree) (rest : List Lexeme) → height a ≤ less → height b ≤ less → height c ≤ less
      → Again (Says "(" followed_by Spells implications a followed_by Says "," followed_by Spells implications b followed_by Says "," followed_by Spells implications c followed_by Says ")")
      (call_of_three_from low what p) (three_parts what p a b c) rest
  unfolding call_of_three_from
  three_again what p a b c rest small_a small_b small_c =
      word_then (codes "(") (Spells implications a followed_by Says "," followed_by Spells implications b followed_by Says "," followed_by Spells implications c followed_by Says ")")
      (λ _ ls. low.expr implications ls and_then λ x. and_part low (λ y. and_part low (λ z. closed_by (codes ")") (three_parts what p x y z)))) (three_parts what p a b c) rest
      (λ _. expr_then less low good a (Says "," followed_by Spells implications b followed_by Says "," followed_by Spells implications c followed_by Says ")")
      (λ x. and_part low (λ y. and_part low (λ z. closed_by (codes ")") (three_parts what p x y z)))) (three_parts what p a b c) rest small_a
      (word_ends (codes ",") (Spells implications b followed_by Says "," followed_by Spells implications c followed_by Says ")") rest comma_closes)
      (part_then b (Says "," followed_by Spells implications c followed_by Says ")") (λ y. and_part low (λ z. closed_by (codes ")") (three_parts what p a y z))) (three_parts what p a b c) rest small_b
      (word_ends (codes ",") (Spells implications c followed_by Says ")") rest comma_closes)
      (part_then c (Says ")") (λ z. closed_by (codes ")") (three_parts what p a b z)) (three_parts what p a b c) rest small_c (last_ends (codes ")") rest group_closes)
      (closed_again (codes ")") (three_parts what p a b c) rest))))

  -- what stands behind the first part of a function of one part or two
  abbrev behind_first : FoldOp → BinaryOp → Place → ExprTree → Reader ExprTree
  behind_first one two p a ls =
      either_reader (says (codes ",") ls) (and_part low (λ b. closed_by (codes ")") (binary p two a b))) (closed_by (codes ")") (folded p one a)) ls

  pub one_of_two_again : (one : FoldOp) (two : BinaryOp) (p : Place) (e : ExprTree) (rest : List Lexeme) → height e ≤ less
      → Again (Says "(" followed_by Spells implications e followed_by Says ")") (call_of_two_from low one two p) (folded p one e) rest
  unfolding call_of_two_from says word_from
  one_of_two_again one two p e rest small =
      word_then (codes "(") (Spells implications e followed_by Says ")") (λ _ ls. low.expr implications ls and_then behind_first one two p) (folded p one e) rest
      (λ _. expr_then less low good e (Says ")") (behind_first one two p) (folded p one e) rest small (last_ends (codes ")") rest group_closes)
      (λ f h. ap (λ x. behind_first one two p e (x ++ rest)) h.1))

  pub two_of_two_again : (one : FoldOp) (two : BinaryOp) (p : Place) (a b : ExprTree) (rest : List Lexeme) → height a ≤ less → height b ≤ less
      → Again (Says "(" followed_by Spells implications a followed_by Says "," followed_by Spells implications b followed_by Says ")") (call_of_two_from low one two p) (binary p two a b) rest
  unfolding call_of_two_from says
  two_of_two_again one two p a b rest small_a small_b =
      word_then (codes "(") (Spells implications a followed_by Says "," followed_by Spells implications b followed_by Says ")") (λ _ ls. low.expr implications ls and_then behind_first one two p)
      (binary p two a b) rest
      (λ _. expr_then less low good a (Says "," followed_by Spells implications b followed_by Says ")") (behind_first one two p) (binary p two a b) rest small_a
      (word_ends (codes ",") (Spells implications b followed_by Says ")") rest comma_closes)
      (λ f h. with_comma f h ∙ part_then b (Says ")") (λ y. closed_by (codes ")") (binary p two a y)) (binary p two a b) rest small_b (last_ends (codes ")") rest group_closes)
      (closed_again (codes ")") (binary p two a b) rest) f h))
    where
      with_comma : (f : List Lexeme) → (Says "," followed_by Spells implications b followed_by Says ")") f
          → behind_first one two p a (f ++ rest) ≡ and_part low (λ y. closed_by (codes ")") (binary p two a y)) (f ++ rest)
      with_comma f h =
          let c = behind_word_cut (codes ",") (Spells implications b followed_by Says ")") f h in
          subst (λ x. behind_first one two p a (x ++ rest) ≡ and_part low (λ y. closed_by (codes ")") (binary p two a y)) (x ++ rest)) (sym c.parts) refl

  -- ---- brackets and signs

  pub group_again : (p : Place) (e : ExprTree) (rest : List Lexeme) → height e ≤ less → Again (Spells implications e followed_by Says ")") (opened_from low p a_group) (group p e) rest
  unfolding opened_from
  group_again p e rest small =
      expr_then less low good e (Says ")") (λ x. closed_by (codes ")") (group p x)) (group p e) rest small (last_ends (codes ")") rest group_closes) (closed_again (codes ")") (group p e) rest)

  pub bar_again : (p : Place) (e : ExprTree) (rest : List Lexeme) → height e ≤ less → Again (Spells implications e followed_by Says "|") (opened_from low p a_bar) (absolute p e) rest
  unfolding opened_from
  bar_again p e rest small =
      expr_then less low good e (Says "|") (λ x. closed_by (codes "|") (absolute p x)) (absolute p e) rest small (last_ends (codes "|") rest bar_closes) (closed_again (codes "|") (absolute p e) rest)

  pub negation_again : (p : Place) (e : ExprTree) (rest : List Lexeme) → height e ≤ less → EndsBefore unaries e rest → Again (Spells unaries e) (opened_from low p a_negation) (negation p e) rest
  unfolding opened_from rank
  negation_again p e rest small ends front h = ap (λ r. r and_then λ x end. took (negation p x) end) (good.expr unaries refl e front rest h small ends)

  pub minus_again : (p : Place) (e : ExprTree) (rest : List Lexeme) → height e ≤ less → EndsBefore unaries e rest → Again (Spells unaries e) (opened_from low p a_minus) (minus p e) rest
  unfolding opened_from rank
  minus_again p e rest small ends front h = ap (λ r. r and_then λ x end. took (minus p x) end) (good.expr unaries refl e front rest h small ends)

  -- ---- quantifiers

  body_again : (make : ExprTree → ExprTree) (e : ExprTree) (rest : List Lexeme) → height e ≤ less → NoImplications rest
      → Again (Spells implications e) (λ ls. low.expr implications ls and_then λ x after. took (make x) after) (make e) rest
  unfolding rank
  body_again make e rest small ends front h =
      ap (λ r. r and_then λ x after. took (make x) after) (good.expr implications refl e front rest h small (record { ends = ends; open_ends = λ _. ends }))

  -- what stands behind the word of a quantifier
  abbrev pub Quantified : List Name → DomainTree → ExprTree → Phrase
  Quantified xs d e = Names xs followed_by Says ":" followed_by SpellsDomain set_operations d followed_by Says "." followed_by Spells implications e

  pub quantifier_again : (op : QuantOp) (p : Place) (xs : List Name) (d : DomainTree) (e : ExprTree) (rest : List Lexeme) → domain_height d ≤ less → height e ≤ less → NoImplications rest
      → Again (Quantified xs d e) (quantifier_from low op p) (quantified p op xs d e) rest
  unfolding quantifier_from says
  quantifier_again op p xs d e rest small_d small_e ends =
      let result = quantified p op xs d e in
      names_then xs (Says ":" followed_by SpellsDomain set_operations d followed_by Says "." followed_by Spells implications e)
      (λ names ls. word_from (codes ":") ls and_then λ _ next. low.domain set_operations next and_then λ x end. word_from (codes ".") end and_then λ _ body. low.expr implications body and_then λ y after. took (quantified p op names x y) after)
      result rest (λ f h. no_comma f h)
      (word_then (codes ":") (SpellsDomain set_operations d followed_by Says "." followed_by Spells implications e)
      (λ _ next. low.domain set_operations next and_then λ x end. word_from (codes ".") end and_then λ _ body. low.expr implications body and_then λ y after. took (quantified p op xs x y) after)
      result rest
      (λ _. domain_then less low good d (Says "." followed_by Spells implications e)
      (λ x end. word_from (codes ".") end and_then λ _ body. low.expr implications body and_then λ y after. took (quantified p op xs x y) after) result rest small_d
      (word_ends_domain (codes ".") (Spells implications e) rest dot_closes)
      (word_then (codes ".") (Spells implications e) (λ _ body. low.expr implications body and_then λ y after. took (quantified p op xs d y) after) result rest
      (λ _. body_again (quantified p op xs d) e rest small_e ends))))
    where
      no_comma : (f : List Lexeme) → (Says ":" followed_by SpellsDomain set_operations d followed_by Says "." followed_by Spells implications e) f → says (codes ",") (f ++ rest) ≡ false
      no_comma f h =
          let c = behind_word_cut (codes ":") (SpellsDomain set_operations d followed_by Says "." followed_by Spells implications e) f h in
          ap (λ x. says (codes ",") (x ++ rest)) c.parts

  -- sums of matrices, and over domains
  pub sum_call_again : (p : Place) (e : ExprTree) (rest : List Lexeme) → height e ≤ less
      → Again (Says "(" followed_by Spells implications e followed_by Says ")") (opened_from low p a_sum) (folded p FoldOp.Sum e) rest
  unfolding opened_from sum_from says
  sum_call_again p e rest small front h =
      let c = behind_word_cut (codes "(") (Spells implications e followed_by Says ")") front h in
      let begins : says (codes "(") (front ++ rest) ≡ true = ap (λ x. says (codes "(") (x ++ rest)) c.parts in
      ap (λ b. either_reader b (call_from low (folded p FoldOp.Sum)) (quantifier_from low QuantOp.Sum p) (front ++ rest)) begins
      ∙ call_again (folded p FoldOp.Sum) e rest small front h

  pub sum_over_again : (p : Place) (xs : List Name) (d : DomainTree) (e : ExprTree) (rest : List Lexeme) → domain_height d ≤ less → height e ≤ less → NoImplications rest
      → Again (Quantified xs d e) (opened_from low p a_sum) (quantified p QuantOp.Sum xs d e) rest
  unfolding opened_from sum_from
  sum_over_again p xs d e rest small_d small_e ends front h =
      let closed : says (codes "(") (front ++ rest) ≡ false =
      subst (λ x. says (codes "(") (x ++ rest) ≡ false) (sym h.2) (subst (λ x. says (codes "(") x ≡ false) (sym (append_assoc h.0 h.1 rest)) (names_first xs h.0 (h.1 ++ rest) h.3)) in
      ap (λ b. either_reader b (call_from low (folded p FoldOp.Sum)) (quantifier_from low QuantOp.Sum p) (front ++ rest)) closed
      ∙ quantifier_again QuantOp.Sum p xs d e rest small_d small_e ends front h
