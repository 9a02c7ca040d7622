-- Operands are read again.
use Rattle.std.specs.Prelude.{◌≡◌, ℕ, suc, ◌≤◌, max, Bool, true, false, nat_le, nat_lt, List, ◌++◌, codes, refl}
use Rattle.std.proofs.Common.{ap, arith, subst, ◌∙◌}
use Rattle.std.proofs.Math.Nat.{le-max_left, le-max_right}
use Rattle.ep_base.specs.declared.places.Place.{Place}
use Rattle.ep_tree.specs.Heights.{domain_height, height, highest, highest_generator, index_height}
use Rattle.ep_tree.specs.Phrases.{Lexeme, Phrase, Says, StartsAt, ◌followed_by◌}
use Rattle.ep_tree.specs.Spelling.{SpellsNode, binary_level, binary_word, ends_open, fold_word, is_called, own_level, quantifier_word, rank, reads, truth_word, unaries}
use Rattle.ep_tree.specs.Trees.{ExprTree, absolute, all_different, all_of, any_of, at_least, at_most, binary, chain, compare, comprehension, factorial, flatten, folded, gcc, group, in_domain, in_set, lex, literal, minus, named, negation, number, place_of, quantified, read, table, to_int, truth}
use Rattle.ep_tree.specs.declared.syntax.BinaryOp.{BinaryOp}
use Rattle.ep_tree.specs.declared.syntax.FoldOp.{FoldOp}
use Rattle.ep_tree.specs.declared.syntax.QuantOp.{QuantOp}
use Rattle.ep_parse_parts.specs.OperandReaders.{Lower, a_bar, a_greatest, a_group, a_least, a_minus, a_negation, a_quantifier, a_sum, a_table, all_different_in, begun_from, bracket_from, counts_at_least, counts_at_most, counts_in, factorial_of, flatten_of, folded_by, of_one, of_three, one_part, open_from, opened_from, operand_from, to_int_of}
use Rattle.ep_parse_parts.specs.Readers.{looked_up, took}
use Rattle.ep_parse_parts.proofs.Again.{AreComplete, EndsBefore, behind_word_cut}
use Rattle.ep_parse_parts.proofs.AgainBrackets.{comprehension_again, literal_again}
use Rattle.ep_parse_parts.proofs.AgainOpened.{bar_again, call_again, group_again, minus_again, negation_again, one_of_two_again, quantifier_again, sum_call_again, sum_over_again, table_again, three_again, two_of_two_again, word_opens}
use Rattle.ep_parse_parts.proofs.AgainPhrases.{Again, enough}

-- the height of an expression isn't zero
pub some_expr : (e : ExprTree) → 1 ≤ height e
unfolding height
some_expr (number p n) = omega arith
some_expr (truth p b) = omega arith
some_expr (named p x) = omega arith
some_expr (group p e) = omega arith
some_expr (negation p e) = omega arith
some_expr (minus p e) = omega arith
some_expr (absolute p e) = omega arith
some_expr (to_int p e) = omega arith
some_expr (factorial p e) = omega arith
some_expr (flatten p m) = omega arith
some_expr (chain p ts) = omega arith
some_expr (compare p op a b) = omega arith
some_expr (lex p op a b) = omega arith
some_expr (in_domain p a d) = omega arith
some_expr (in_set p a m) = omega arith
some_expr (all_of p es) = omega arith
some_expr (any_of p es) = omega arith
some_expr (quantified p op xs d e) = omega arith
some_expr (literal p es d) = omega arith
some_expr (comprehension p e gens es d) = omega arith
some_expr (folded p op m) = omega arith
some_expr (all_different p m) = omega arith
some_expr (gcc p a b c) = omega arith
some_expr (at_least p a b c) = omega arith
some_expr (at_most p a b c) = omega arith
some_expr (table p a b) = omega arith
some_expr (read p m i) = omega arith
some_expr (binary p op a b) = omega arith

module _ (less : ℕ) (low : Lower) (good : AreComplete less low) where
  abbrev low_enough : Bool
  low_enough = nat_lt 1 (suc less)

  enough_for : 1 ≤ less → low_enough ≡ true
  enough_for k = enough less less k (omega arith)

  bracket_opens : (P : Phrase) (e : ExprTree) (p : Place) (rest : List Lexeme) → Again P (bracket_from low_enough low p) e rest
      → (front : List Lexeme) → StartsAt p front → (Says "[" followed_by P) front → operand_from low_enough low (front ++ rest) ≡ took e rest
  unfolding operand_from begun_from open_from looked_up
  bracket_opens P e p rest on front at h =
      let c = behind_word_cut (codes "[") P front h in
      let here : c.place ≡ p = subst (λ x. StartsAt p x) c.parts at in
      ap (λ x. operand_from low_enough low (x ++ rest)) c.parts ∙ ap (λ q. bracket_from low_enough low q (c.rest ++ rest)) here ∙ on c.rest c.spelled

  -- An operand is read again that isn't a read: whatever follows it, where it ends in a bracket or is one token.
  pub operand_again : (e : ExprTree) (front rest : List Lexeme) → nat_le (rank unaries) (rank (own_level e)) ≡ true → (own_level e ≡ reads → ⊥) → StartsAt (place_of e) front → SpellsNode e front → height e ≤ suc less
      → (nat_le (rank reads) (rank (own_level e)) ≡ false → EndsBefore unaries e rest) → operand_from low_enough low (front ++ rest) ≡ took e rest
  unfolding SpellsNode height place_of own_level rank binary_level binary_word is_called ends_open looked_up truth_word fold_word quantifier_word operand_from begun_from open_from opened_from
  operand_again (number p n) front rest up not_read at h high ends =
      let here : h.0 ≡ p = subst (λ x. StartsAt p x) h.1 at in
      ap (λ x. operand_from low_enough low (x ++ rest)) h.1 ∙ ap (λ q. took (number q n) rest) here
  operand_again (truth p true) front rest up not_read at h high ends =
      let here : h.0 ≡ p = subst (λ x. StartsAt p x) h.1 at in
      ap (λ x. operand_from low_enough low (x ++ rest)) h.1 ∙ ap (λ q. took (truth q true) rest) here
  operand_again (truth p false) front rest up not_read at h high ends =
      let here : h.0 ≡ p = subst (λ x. StartsAt p x) h.1 at in
      ap (λ x. operand_from low_enough low (x ++ rest)) h.1 ∙ ap (λ q. took (truth q false) rest) here
  operand_again (named p x) front rest up not_read at h high ends =
      let here : h.0 ≡ p = subst (λ y. StartsAt p y) h.1 at in
      ap (λ y. operand_from low_enough low (y ++ rest)) h.1 ∙ ap (λ q. took (named q x) rest) here
  operand_again (group p e) front rest up not_read at h high ends =
      let small : height e ≤ less = omega (arith, high) in
      word_opens less low good (codes "(") a_group _ (group p e) p rest refl (omega (arith, some_expr e, small)) (group_again less low good p e rest small) front at h
  operand_again (absolute p e) front rest up not_read at h high ends =
      let small : height e ≤ less = omega (arith, high) in
      word_opens less low good (codes "|") a_bar _ (absolute p e) p rest refl (omega (arith, some_expr e, small)) (bar_again less low good p e rest small) front at h
  operand_again (negation p e) front rest up not_read at h high ends =
      let small : height e ≤ less = omega (arith, high) in
      word_opens less low good (codes "!") a_negation _ (negation p e) p rest refl (omega (arith, some_expr e, small)) (negation_again less low good p e rest small (record { ends = (ends refl).ends; open_ends = (ends refl).open_ends })) front at h
  operand_again (minus p e) front rest up not_read at h high ends =
      let small : height e ≤ less = omega (arith, high) in
      word_opens less low good (codes "-") a_minus _ (minus p e) p rest refl (omega (arith, some_expr e, small)) (minus_again less low good p e rest small (record { ends = (ends refl).ends; open_ends = (ends refl).open_ends })) front at h
  operand_again (to_int p e) front rest up not_read at h high ends =
      let small : height e ≤ less = omega (arith, high) in
      word_opens less low good (codes "toInt") (of_one to_int_of) _ (to_int p e) p rest refl (omega (arith, some_expr e, small)) (call_again less low good (one_part to_int_of p) e rest small) front at h
  operand_again (factorial p e) front rest up not_read at h high ends =
      let small : height e ≤ less = omega (arith, high) in
      word_opens less low good (codes "factorial") (of_one factorial_of) _ (factorial p e) p rest refl (omega (arith, some_expr e, small)) (call_again less low good (one_part factorial_of p) e rest small) front at h
  operand_again (flatten p e) front rest up not_read at h high ends =
      let small : height e ≤ less = omega (arith, high) in
      word_opens less low good (codes "flatten") (of_one flatten_of) _ (flatten p e) p rest refl (omega (arith, some_expr e, small)) (call_again less low good (one_part flatten_of p) e rest small) front at h
  operand_again (all_different p e) front rest up not_read at h high ends =
      let small : height e ≤ less = omega (arith, high) in
      word_opens less low good (codes "allDiff") (of_one all_different_in) _ (all_different p e) p rest refl (omega (arith, some_expr e, small)) (call_again less low good (one_part all_different_in p) e rest small) front at h
  operand_again (folded p FoldOp.Product e) front rest up not_read at h high ends =
      let small : height e ≤ less = omega (arith, high) in
      word_opens less low good (codes "product") (of_one (folded_by FoldOp.Product)) _ (folded p FoldOp.Product e) p rest refl (omega (arith, some_expr e, small)) (call_again less low good (one_part (folded_by FoldOp.Product) p) e rest small) front at h
  operand_again (folded p FoldOp.And e) front rest up not_read at h high ends =
      let small : height e ≤ less = omega (arith, high) in
      word_opens less low good (codes "and") (of_one (folded_by FoldOp.And)) _ (folded p FoldOp.And e) p rest refl (omega (arith, some_expr e, small)) (call_again less low good (one_part (folded_by FoldOp.And) p) e rest small) front at h
  operand_again (folded p FoldOp.Or e) front rest up not_read at h high ends =
      let small : height e ≤ less = omega (arith, high) in
      word_opens less low good (codes "or") (of_one (folded_by FoldOp.Or)) _ (folded p FoldOp.Or e) p rest refl (omega (arith, some_expr e, small)) (call_again less low good (one_part (folded_by FoldOp.Or) p) e rest small) front at h
  operand_again (folded p FoldOp.Sum e) front rest up not_read at h high ends =
      let small : height e ≤ less = omega (arith, high) in
      word_opens less low good (codes "sum") a_sum _ (folded p FoldOp.Sum e) p rest refl (omega (arith, some_expr e, small)) (sum_call_again less low good p e rest small) front at h
  operand_again (folded p FoldOp.Min e) front rest up not_read at h high ends =
      let small : height e ≤ less = omega (arith, high) in
      word_opens less low good (codes "min") a_least _ (folded p FoldOp.Min e) p rest refl (omega (arith, some_expr e, small)) (one_of_two_again less low good FoldOp.Min BinaryOp.Min p e rest small) front at h
  operand_again (folded p FoldOp.Max e) front rest up not_read at h high ends =
      let small : height e ≤ less = omega (arith, high) in
      word_opens less low good (codes "max") a_greatest _ (folded p FoldOp.Max e) p rest refl (omega (arith, some_expr e, small)) (one_of_two_again less low good FoldOp.Max BinaryOp.Max p e rest small) front at h
  operand_again (binary p BinaryOp.Min a b) front rest up not_read at h high ends =
      let small_a : height a ≤ less = omega (arith, high, le-max_left (height a) (height b)) in
      let small_b : height b ≤ less = omega (arith, high, le-max_right (height a) (height b)) in
      word_opens less low good (codes "min") a_least _ (binary p BinaryOp.Min a b) p rest refl (omega (arith, some_expr a, small_a)) (two_of_two_again less low good FoldOp.Min BinaryOp.Min p a b rest small_a small_b) front at h
  operand_again (binary p BinaryOp.Max a b) front rest up not_read at h high ends =
      let small_a : height a ≤ less = omega (arith, high, le-max_left (height a) (height b)) in
      let small_b : height b ≤ less = omega (arith, high, le-max_right (height a) (height b)) in
      word_opens less low good (codes "max") a_greatest _ (binary p BinaryOp.Max a b) p rest refl (omega (arith, some_expr a, small_a)) (two_of_two_again less low good FoldOp.Max BinaryOp.Max p a b rest small_a small_b) front at h
  operand_again (table p a b) front rest up not_read at h high ends =
      let small_a : height a ≤ less = omega (arith, high, le-max_left (height a) (height b)) in
      let small_b : height b ≤ less = omega (arith, high, le-max_right (height a) (height b)) in
      word_opens less low good (codes "table") a_table _ (table p a b) p rest refl (omega (arith, some_expr a, small_a)) (table_again less low good p a b rest small_a small_b) front at h
  operand_again (gcc p a b c) front rest up not_read at h high ends =
      let small_a : height a ≤ less = omega (arith, high, le-max_left (height a) (max (height b) (height c))) in
      let others : max (height b) (height c) ≤ less = omega (arith, high, le-max_right (height a) (max (height b) (height c))) in
      let small_b : height b ≤ less = omega (arith, others, le-max_left (height b) (height c)) in
      let small_c : height c ≤ less = omega (arith, others, le-max_right (height b) (height c)) in
      word_opens less low good (codes "gcc") (of_three counts_in) _ (gcc p a b c) p rest refl (omega (arith, some_expr a, small_a)) (three_again less low good counts_in p a b c rest small_a small_b small_c) front at h
  operand_again (at_least p a b c) front rest up not_read at h high ends =
      let small_a : height a ≤ less = omega (arith, high, le-max_left (height a) (max (height b) (height c))) in
      let others : max (height b) (height c) ≤ less = omega (arith, high, le-max_right (height a) (max (height b) (height c))) in
      let small_b : height b ≤ less = omega (arith, others, le-max_left (height b) (height c)) in
      let small_c : height c ≤ less = omega (arith, others, le-max_right (height b) (height c)) in
      word_opens less low good (codes "atleast") (of_three counts_at_least) _ (at_least p a b c) p rest refl (omega (arith, some_expr a, small_a)) (three_again less low good counts_at_least p a b c rest small_a small_b small_c) front at h
  operand_again (at_most p a b c) front rest up not_read at h high ends =
      let small_a : height a ≤ less = omega (arith, high, le-max_left (height a) (max (height b) (height c))) in
      let others : max (height b) (height c) ≤ less = omega (arith, high, le-max_right (height a) (max (height b) (height c))) in
      let small_b : height b ≤ less = omega (arith, others, le-max_left (height b) (height c)) in
      let small_c : height c ≤ less = omega (arith, others, le-max_right (height b) (height c)) in
      word_opens less low good (codes "atmost") (of_three counts_at_most) _ (at_most p a b c) p rest refl (omega (arith, some_expr a, small_a)) (three_again less low good counts_at_most p a b c rest small_a small_b small_c) front at h
  operand_again (quantified p QuantOp.ForAll xs d e) front rest up not_read at h high ends =
      let small_d : domain_height d ≤ less = omega (arith, high, le-max_left (domain_height d) (height e)) in
      let small_e : height e ≤ less = omega (arith, high, le-max_right (domain_height d) (height e)) in
      word_opens less low good (codes "forAll") (a_quantifier QuantOp.ForAll) _ (quantified p QuantOp.ForAll xs d e) p rest refl (omega (arith, some_expr e, small_e)) (quantifier_again less low good QuantOp.ForAll p xs d e rest small_d small_e ((ends refl).open_ends refl)) front at h
  operand_again (quantified p QuantOp.Exists xs d e) front rest up not_read at h high ends =
      let small_d : domain_height d ≤ less = omega (arith, high, le-max_left (domain_height d) (height e)) in
      let small_e : height e ≤ less = omega (arith, high, le-max_right (domain_height d) (height e)) in
      word_opens less low good (codes "exists") (a_quantifier QuantOp.Exists) _ (quantified p QuantOp.Exists xs d e) p rest refl (omega (arith, some_expr e, small_e)) (quantifier_again less low good QuantOp.Exists p xs d e rest small_d small_e ((ends refl).open_ends refl)) front at h
  operand_again (quantified p QuantOp.Sum xs d e) front rest up not_read at h high ends =
      let small_d : domain_height d ≤ less = omega (arith, high, le-max_left (domain_height d) (height e)) in
      let small_e : height e ≤ less = omega (arith, high, le-max_right (domain_height d) (height e)) in
      word_opens less low good (codes "sum") a_sum _ (quantified p QuantOp.Sum xs d e) p rest refl (omega (arith, some_expr e, small_e)) (sum_over_again less low good p xs d e rest small_d small_e ((ends refl).open_ends refl)) front at h
  operand_again (literal p es d) front rest up not_read at h high ends =
      let small : highest es ≤ less = omega (arith, high, le-max_left (highest es) (index_height d)) in
      let small_d : index_height d ≤ less = omega (arith, high, le-max_right (highest es) (index_height d)) in
      bracket_opens _ (literal p es d) p rest (literal_again less low good low_enough p es d rest small small_d enough_for) front at h
  operand_again (comprehension p e gens es d) front rest up not_read at h high ends =
      let first : max (height e) (highest_generator gens) ≤ less = omega (arith, high, le-max_left (max (height e) (highest_generator gens)) (max (highest es) (index_height d))) in
      let second : max (highest es) (index_height d) ≤ less = omega (arith, high, le-max_right (max (height e) (highest_generator gens)) (max (highest es) (index_height d))) in
      let small_e : height e ≤ less = omega (arith, first, le-max_left (height e) (highest_generator gens)) in
      let small_g : highest_generator gens ≤ less = omega (arith, first, le-max_right (height e) (highest_generator gens)) in
      let small : highest es ≤ less = omega (arith, second, le-max_left (highest es) (index_height d)) in
      let small_d : index_height d ≤ less = omega (arith, second, le-max_right (highest es) (index_height d)) in
      bracket_opens _ (comprehension p e gens es d) p rest (comprehension_again less low good low_enough p e gens es d rest small_e small_g small small_d enough_for) front at h
  operand_again (read p m i) front rest up not_read at h high ends =
      absurd (not_read refl)
  operand_again (chain p ts) front rest up not_read at h high ends =
      let wrong : false ≡ true = up in absurd cc
  operand_again (compare p op a b) front rest up not_read at h high ends =
      let wrong : false ≡ true = up in absurd cc
  operand_again (lex p op a b) front rest up not_read at h high ends =
      let wrong : false ≡ true = up in absurd cc
  operand_again (in_domain p a d) front rest up not_read at h high ends =
      let wrong : false ≡ true = up in absurd cc
  operand_again (in_set p a m) front rest up not_read at h high ends =
      let wrong : false ≡ true = up in absurd cc
  operand_again (all_of p es) front rest up not_read at h high ends =
      let wrong : false ≡ true = up in absurd cc
  operand_again (any_of p es) front rest up not_read at h high ends =
      let wrong : false ≡ true = up in absurd cc
  operand_again (binary p BinaryOp.Mul a b) front rest up not_read at h high ends =
      let wrong : false ≡ true = up in absurd cc
  operand_again (binary p BinaryOp.Div a b) front rest up not_read at h high ends =
      let wrong : false ≡ true = up in absurd cc
  operand_again (binary p BinaryOp.Mod a b) front rest up not_read at h high ends =
      let wrong : false ≡ true = up in absurd cc
  operand_again (binary p BinaryOp.Pow a b) front rest up not_read at h high ends =
      let wrong : false ≡ true = up in absurd cc
  operand_again (binary p BinaryOp.Implies a b) front rest up not_read at h high ends =
      let wrong : false ≡ true = up in absurd cc
  operand_again (binary p BinaryOp.Iff a b) front rest up not_read at h high ends =
      let wrong : false ≡ true = up in absurd cc
