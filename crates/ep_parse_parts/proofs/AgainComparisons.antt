-- Comparisons are read again.
use Rattle.std.specs.Prelude.{◌≡◌, ℕ, suc, ◌≤◌, Bool, true, false, not, nat_le, List, ◌∷◌, ◌++◌, Some, None, codes, refl}
use Rattle.std.proofs.Common.{ap, arith, subst, ◌∙◌, append_assoc}
use Rattle.std.proofs.Math.Nat.{le-max_left, le-max_right}
use Rattle.ep_base.specs.declared.operators.CompareOp.{CompareOp}
use Rattle.ep_base.specs.declared.operators.LexOp.{LexOp}
use Rattle.ep_base.specs.declared.places.Place.{Place}
use Rattle.ep_tree.specs.Heights.{domain_height, height}
use Rattle.ep_tree.specs.Phrases.{Lexeme, Says, StartsAt, a_word, ◌followed_by◌}
use Rattle.ep_tree.specs.Spelling.{Call1, Closed, Level, Spells, SpellsDomain, SpellsDomainNode, SpellsNode, binary_level, compare_word, comparisons, conjunctions, disjunctions, ends_open, implications, lex_word, own_level, powers, primaries, products, rank, reads, set_operations, sums, unaries}
use Rattle.ep_tree.specs.Trees.{DomainTree, ExprTree, absolute, all_different, all_of, any_of, at_least, at_most, binary, bool, chain, compare, comprehension, factorial, flatten, folded, gcc, group, group_domain, in_domain, in_set, int, lex, literal, matrix_domain, minus, named, named_domain, negation, number, place_of, quantified, ranges, read, set_domain, table, to_int, truth}
use Rattle.ep_tree.specs.declared.syntax.BinaryOp.{BinaryOp}
use Rattle.ep_parse_parts.specs.OperandReaders.{Lower, call_from}
use Rattle.ep_parse_parts.specs.OperatorReaders.{Comparison, chain_from, compared_with, comparison_behind, comparison_from, comparison_words, of_lists, of_numbers, of_set}
use Rattle.ep_parse_parts.specs.Readers.{looked_up, next_in, says, took, word_from, ◌and_then◌}
use Rattle.ep_parse_parts.proofs.Again.{AreComplete, Ends, EndsBefore, NoImplications, around_cut, around_rest, behind_word_cut, below_again, lexeme, same_place}

not_open : (b : Bool) → not b ≡ true → b ≡ true → ⊥
not_open true e k = cc
not_open false e k = cc

number_found : (op : CompareOp) (p : Place) (ls : List Lexeme) → next_in comparison_words (lexeme p (a_word (codes (compare_word op))) ∷ ls) ≡ Some (of_numbers op)
unfolding next_in looked_up compare_word
number_found CompareOp.Equal p ls = refl
number_found CompareOp.NotEqual p ls = refl
number_found CompareOp.Less p ls = refl
number_found CompareOp.AtMost p ls = refl
number_found CompareOp.Greater p ls = refl
number_found CompareOp.AtLeast p ls = refl

number_ends : (op : CompareOp) (p : Place) (ls : List Lexeme) → Ends sums (lexeme p (a_word (codes (compare_word op))) ∷ ls)
unfolding next_in looked_up compare_word says
number_ends CompareOp.Equal p ls = record { tighter = record { tighter = record { tighter = record { bracket = refl }; none = refl }; none = refl }; none = refl }
number_ends CompareOp.NotEqual p ls = record { tighter = record { tighter = record { tighter = record { bracket = refl }; none = refl }; none = refl }; none = refl }
number_ends CompareOp.Less p ls = record { tighter = record { tighter = record { tighter = record { bracket = refl }; none = refl }; none = refl }; none = refl }
number_ends CompareOp.AtMost p ls = record { tighter = record { tighter = record { tighter = record { bracket = refl }; none = refl }; none = refl }; none = refl }
number_ends CompareOp.Greater p ls = record { tighter = record { tighter = record { tighter = record { bracket = refl }; none = refl }; none = refl }; none = refl }
number_ends CompareOp.AtLeast p ls = record { tighter = record { tighter = record { tighter = record { bracket = refl }; none = refl }; none = refl }; none = refl }

list_found : (op : LexOp) (p : Place) (ls : List Lexeme) → next_in comparison_words (lexeme p (a_word (codes (lex_word op))) ∷ ls) ≡ Some (of_lists op)
unfolding next_in looked_up lex_word
list_found LexOp.Less p ls = refl
list_found LexOp.AtMost p ls = refl
list_found LexOp.Greater p ls = refl
list_found LexOp.AtLeast p ls = refl

list_ends : (op : LexOp) (p : Place) (ls : List Lexeme) → Ends sums (lexeme p (a_word (codes (lex_word op))) ∷ ls)
unfolding next_in looked_up lex_word says
list_ends LexOp.Less p ls = record { tighter = record { tighter = record { tighter = record { bracket = refl }; none = refl }; none = refl }; none = refl }
list_ends LexOp.AtMost p ls = record { tighter = record { tighter = record { tighter = record { bracket = refl }; none = refl }; none = refl }; none = refl }
list_ends LexOp.Greater p ls = record { tighter = record { tighter = record { tighter = record { bracket = refl }; none = refl }; none = refl }; none = refl }
list_ends LexOp.AtLeast p ls = record { tighter = record { tighter = record { tighter = record { bracket = refl }; none = refl }; none = refl }; none = refl }

set_found : (p : Place) (ls : List Lexeme) → next_in comparison_words (lexeme p (a_word (codes "in")) ∷ ls) ≡ Some of_set
unfolding next_in looked_up
set_found p ls = refl

set_ends : (p : Place) (ls : List Lexeme) → Ends sums (lexeme p (a_word (codes "in")) ∷ ls)
unfolding next_in looked_up says
set_ends p ls = record { tighter = record { tighter = record { tighter = record { bracket = refl }; none = refl }; none = refl }; none = refl }

bracket_ends : (p : Place) (ls : List Lexeme) → NoImplications (lexeme p (a_word (codes ")")) ∷ ls)
unfolding next_in looked_up says
bracket_ends p ls =
    record { tighter = record { tighter = record { tighter = record { tighter = record { tighter = record { tighter = record { tighter = record { bracket = refl }; none = refl }; none = refl }; none = refl }; none = refl; no_set = refl; no_group = refl }; none = refl }; none = refl }; none = refl }

-- no domain begins with `toSet`
no_to_set : (d : DomainTree) (front rest : List Lexeme) → SpellsDomainNode d front → says (codes "toSet") (front ++ rest) ≡ false
unfolding SpellsDomainNode says
no_to_set (bool p) front rest h = ap (λ x. says (codes "toSet") (x ++ rest)) h.1
no_to_set (int p) front rest h = ap (λ x. says (codes "toSet") (x ++ rest)) h.1
no_to_set (ranges p rs) front rest h = ap (λ x. says (codes "toSet") (x ++ rest)) (h.2 ∙ ap (λ x. x ++ h.1) h.3.1)
no_to_set (named_domain p x) front rest h = ap (λ x. says (codes "toSet") (x ++ rest)) h.1
no_to_set (group_domain p d) front rest h = ap (λ x. says (codes "toSet") (x ++ rest)) (h.2 ∙ ap (λ x. x ++ h.1) h.3.1)
no_to_set (set_domain p op c d) front rest h =
    ap (says (codes "toSet")) (ap (λ x. x ++ rest) h.2 ∙ append_assoc h.0 h.1 rest) ∙ no_to_set c h.0 (h.1 ++ rest) h.3.1.1
no_to_set (matrix_domain p ds d) front rest h =
    ap (λ x. says (codes "toSet") (x ++ rest)) (h.2 ∙ ap (λ x. x ++ h.1) (h.3.2 ∙ ap (λ x. x ++ h.3.1) h.3.3.1))

only : (l : Level) → nat_le (rank comparisons) (rank l) ≡ true → nat_le (rank sums) (rank l) ≡ false → l ≡ comparisons
unfolding rank
only implications h k = let no_level : false ≡ true = h in absurd cc
only disjunctions h k = let no_level : false ≡ true = h in absurd cc
only conjunctions h k = let no_level : false ≡ true = h in absurd cc
only comparisons h k = refl
only sums h k = let no_level : true ≡ false = k in absurd cc
only products h k = let no_level : true ≡ false = k in absurd cc
only powers h k = let no_level : true ≡ false = k in absurd cc
only unaries h k = let no_level : true ≡ false = k in absurd cc
only reads h k = let no_level : true ≡ false = k in absurd cc
only primaries h k = let no_level : true ≡ false = k in absurd cc

module _ (less : ℕ) (low : Lower) (good : AreComplete less low) where
  stays : (e : ExprTree) (rest : List Lexeme) → next_in comparison_words rest ≡ None → comparison_behind (suc less) low e rest ≡ took e rest
  unfolding comparison_behind
  stays e rest none = rw none refl

  set_again : (a m : ExprTree) (p q r : Place) (f rest : List Lexeme) → low.expr implications (f ++ (lexeme r (a_word (codes ")")) ∷ rest)) ≡ took m (lexeme r (a_word (codes ")")) ∷ rest)
      → compared_with low a of_set (lexeme p (a_word (codes "toSet")) ∷ lexeme q (a_word (codes "(")) ∷ (f ++ (lexeme r (a_word (codes ")")) ∷ rest))) ≡ took (in_set (place_of a) a m) rest
  unfolding compared_with call_from says word_from
  set_again a m p q r f rest again = rw again refl

  behind_again : (a : ExprTree) (c : Comparison) (t : Lexeme) (ls : List Lexeme) → next_in comparison_words (t ∷ ls) ≡ Some c → not (ends_open a) ≡ true → height a ≤ less
      → comparison_behind (suc less) low a (t ∷ ls) ≡ compared_with low a c ls
  unfolding comparison_behind
  behind_again a c t ls found closed small = rw (closed, found, below_again (height a) less small) refl

  module _ (tight_again : (e : ExprTree) (front rest : List Lexeme) → Spells sums e front → height e ≤ suc less → EndsBefore sums e rest → chain_from (suc less) low (front ++ rest) ≡ took e rest) where
    -- what is compared is read again, up to its operator
    left_again : (a e : ExprTree) (c : Comparison) (t : Lexeme) (f ls rest : List Lexeme) → Spells sums a f → not (ends_open a) ≡ true → height a ≤ less → Ends sums (t ∷ ls)
        → next_in comparison_words (t ∷ ls) ≡ Some c → compared_with low a c ls ≡ took e rest → (chain_from (suc less) low (f ++ t ∷ ls) and_then comparison_behind (suc less) low) ≡ took e rest
    left_again a e c t f ls rest h closed small ends found again =
        ap (λ r. r and_then comparison_behind (suc less) low) (tight_again a f (t ∷ ls) h (omega (arith, small)) (record { ends = ends; open_ends = λ o. absurd (not_open (ends_open a) closed o) }))
        ∙ behind_again a c t ls found closed small ∙ again

    by_node : (e : ExprTree) (front rest : List Lexeme) → own_level e ≡ comparisons → Spells comparisons e front → height e ≤ suc less → EndsBefore comparisons e rest
        → (chain_from (suc less) low (front ++ rest) and_then comparison_behind (suc less) low) ≡ took e rest
    unfolding SpellsNode height ends_open place_of own_level binary_level compared_with call_from rank
    by_node (compare p op a b) front rest own h high ends =
        let c = around_cut (Closed a (Spells sums a)) (codes (compare_word op)) (Spells sums b) front h.1.1 in
        let t = lexeme c.place (a_word (codes (compare_word op))) in
        let at : place_of a ≡ p = same_place p (place_of a) c.front (t ∷ c.back) c.first.1.1.0 (subst (λ x. StartsAt p x) c.parts h.1.0) in
        let low_a : height a ≤ less = omega (arith, high, le-max_left (height a) (height b)) in
        let low_b : height b ≤ less = omega (arith, high, le-max_right (height a) (height b)) in
        let second : low.expr sums (c.back ++ rest) ≡ took b rest = good.expr sums refl b c.back rest c.second low_b (record { ends = ends.ends.tighter; open_ends = ends.open_ends }) in
        ap (λ x. chain_from (suc less) low x and_then comparison_behind (suc less) low) (around_rest c.front c.back rest front t c.parts)
        ∙ left_again a (compare p op a b) (of_numbers op) t c.front (c.back ++ rest) rest c.first.1 c.first.0 low_a (number_ends op c.place (c.back ++ rest)) (number_found op c.place (c.back ++ rest))
        (ap (λ r. r and_then λ x end. took (compare (place_of a) op a x) end) second ∙ ap (λ q. took (compare q op a b) rest) at)
    by_node (lex p op a b) front rest own h high ends =
        let c = around_cut (Closed a (Spells sums a)) (codes (lex_word op)) (Spells sums b) front h.1.1 in
        let t = lexeme c.place (a_word (codes (lex_word op))) in
        let at : place_of a ≡ p = same_place p (place_of a) c.front (t ∷ c.back) c.first.1.1.0 (subst (λ x. StartsAt p x) c.parts h.1.0) in
        let low_a : height a ≤ less = omega (arith, high, le-max_left (height a) (height b)) in
        let low_b : height b ≤ less = omega (arith, high, le-max_right (height a) (height b)) in
        let second : low.expr sums (c.back ++ rest) ≡ took b rest = good.expr sums refl b c.back rest c.second low_b (record { ends = ends.ends.tighter; open_ends = ends.open_ends }) in
        ap (λ x. chain_from (suc less) low x and_then comparison_behind (suc less) low) (around_rest c.front c.back rest front t c.parts)
        ∙ left_again a (lex p op a b) (of_lists op) t c.front (c.back ++ rest) rest c.first.1 c.first.0 low_a (list_ends op c.place (c.back ++ rest)) (list_found op c.place (c.back ++ rest))
        (ap (λ r. r and_then λ x end. took (lex (place_of a) op a x) end) second ∙ ap (λ q. took (lex q op a b) rest) at)
    by_node (in_domain p a d) front rest own h high ends =
        let c = around_cut (Closed a (Spells sums a)) (codes "in") (SpellsDomain set_operations d) front h.1.1 in
        let t = lexeme c.place (a_word (codes "in")) in
        let at : place_of a ≡ p = same_place p (place_of a) c.front (t ∷ c.back) c.first.1.1.0 (subst (λ x. StartsAt p x) c.parts h.1.0) in
        let low_a : height a ≤ less = omega (arith, high, le-max_left (height a) (domain_height d)) in
        let low_d : domain_height d ≤ less = omega (arith, high, le-max_right (height a) (domain_height d)) in
        let second : low.domain set_operations (c.back ++ rest) ≡ took d rest = good.domain set_operations d c.back rest c.second low_d (record { none = ends.ends.no_set; no_group = ends.ends.no_group }) in
        ap (λ x. chain_from (suc less) low x and_then comparison_behind (suc less) low) (around_rest c.front c.back rest front t c.parts)
        ∙ left_again a (in_domain p a d) of_set t c.front (c.back ++ rest) rest c.first.1 c.first.0 low_a (set_ends c.place (c.back ++ rest)) (set_found c.place (c.back ++ rest))
        (rw (no_to_set d c.back rest c.second.1.1, second, at) refl)
    by_node (in_set p a m) front rest own h high ends =
        let c = around_cut (Closed a (Spells sums a)) (codes "in") (Call1 "toSet" (Spells implications m)) front h.1.1 in
        let t = lexeme c.place (a_word (codes "in")) in
        let one = behind_word_cut (codes "toSet") (Says "(" followed_by Spells implications m followed_by Says ")") c.back c.second in
        let two = behind_word_cut (codes "(") (Spells implications m followed_by Says ")") one.rest one.spelled in
        let f = two.spelled.0 in
        let end = two.spelled.4 in
        let closing = lexeme end.0 (a_word (codes ")")) in
        let inner : two.rest ++ rest ≡ f ++ (closing ∷ rest) =
        ap (λ x. x ++ rest) two.spelled.2 ∙ append_assoc f two.spelled.1 rest ∙ ap (λ x. f ++ (x ++ rest)) end.1 in
        let tail : c.back ++ rest ≡ lexeme one.place (a_word (codes "toSet")) ∷ lexeme two.place (a_word (codes "(")) ∷ (f ++ (closing ∷ rest)) =
        ap (λ x. x ++ rest) (one.parts ∙ ap (λ x. lexeme one.place (a_word (codes "toSet")) ∷ x) two.parts) ∙ ap (λ x. lexeme one.place (a_word (codes "toSet")) ∷ lexeme two.place (a_word (codes "(")) ∷ x) inner in
        let at : place_of a ≡ p = same_place p (place_of a) c.front (t ∷ c.back) c.first.1.1.0 (subst (λ x. StartsAt p x) c.parts h.1.0) in
        let low_a : height a ≤ less = omega (arith, high, le-max_left (height a) (height m)) in
        let low_m : height m ≤ less = omega (arith, high, le-max_right (height a) (height m)) in
        let second : low.expr implications (f ++ (closing ∷ rest)) ≡ took m (closing ∷ rest) =
        good.expr implications refl m f (closing ∷ rest) two.spelled.3 low_m (record { ends = bracket_ends end.0 rest; open_ends = λ _. bracket_ends end.0 rest }) in
        ap (λ x. chain_from (suc less) low x and_then comparison_behind (suc less) low) (around_rest c.front c.back rest front t c.parts)
        ∙ left_again a (in_set p a m) of_set t c.front (c.back ++ rest) rest c.first.1 c.first.0 low_a (set_ends c.place (c.back ++ rest)) (set_found c.place (c.back ++ rest))
        (ap (compared_with low a of_set) tail ∙ set_again a m one.place two.place end.0 f rest second ∙ ap (λ q. took (in_set q a m) rest) at)
    by_node (number x0 x1) front rest own h high ends = let no_level : primaries ≡ comparisons = own in absurd cc
    by_node (truth x0 x1) front rest own h high ends = let no_level : primaries ≡ comparisons = own in absurd cc
    by_node (named x0 x1) front rest own h high ends = let no_level : primaries ≡ comparisons = own in absurd cc
    by_node (group x0 x1) front rest own h high ends = let no_level : primaries ≡ comparisons = own in absurd cc
    by_node (negation x0 x1) front rest own h high ends = let no_level : unaries ≡ comparisons = own in absurd cc
    by_node (minus x0 x1) front rest own h high ends = let no_level : unaries ≡ comparisons = own in absurd cc
    by_node (absolute x0 x1) front rest own h high ends = let no_level : primaries ≡ comparisons = own in absurd cc
    by_node (to_int x0 x1) front rest own h high ends = let no_level : primaries ≡ comparisons = own in absurd cc
    by_node (factorial x0 x1) front rest own h high ends = let no_level : primaries ≡ comparisons = own in absurd cc
    by_node (flatten x0 x1) front rest own h high ends = let no_level : primaries ≡ comparisons = own in absurd cc
    by_node (chain x0 x1) front rest own h high ends = let no_level : sums ≡ comparisons = own in absurd cc
    by_node (all_of x0 x1) front rest own h high ends = let no_level : conjunctions ≡ comparisons = own in absurd cc
    by_node (any_of x0 x1) front rest own h high ends = let no_level : disjunctions ≡ comparisons = own in absurd cc
    by_node (quantified x0 x1 x2 x3 x4) front rest own h high ends = let no_level : unaries ≡ comparisons = own in absurd cc
    by_node (literal x0 x1 x2) front rest own h high ends = let no_level : primaries ≡ comparisons = own in absurd cc
    by_node (comprehension x0 x1 x2 x3 x4) front rest own h high ends = let no_level : primaries ≡ comparisons = own in absurd cc
    by_node (read x0 x1 x2) front rest own h high ends = let no_level : reads ≡ comparisons = own in absurd cc
    by_node (folded x0 x1 x2) front rest own h high ends = let no_level : primaries ≡ comparisons = own in absurd cc
    by_node (all_different x0 x1) front rest own h high ends = let no_level : primaries ≡ comparisons = own in absurd cc
    by_node (gcc x0 x1 x2 x3) front rest own h high ends = let no_level : primaries ≡ comparisons = own in absurd cc
    by_node (at_least x0 x1 x2 x3) front rest own h high ends = let no_level : primaries ≡ comparisons = own in absurd cc
    by_node (at_most x0 x1 x2 x3) front rest own h high ends = let no_level : primaries ≡ comparisons = own in absurd cc
    by_node (table x0 x1 x2) front rest own h high ends = let no_level : primaries ≡ comparisons = own in absurd cc
    by_node (binary x0 BinaryOp.Mul x1 x2) front rest own h high ends = let no_level : products ≡ comparisons = own in absurd cc
    by_node (binary x0 BinaryOp.Div x1 x2) front rest own h high ends = let no_level : products ≡ comparisons = own in absurd cc
    by_node (binary x0 BinaryOp.Mod x1 x2) front rest own h high ends = let no_level : products ≡ comparisons = own in absurd cc
    by_node (binary x0 BinaryOp.Pow x1 x2) front rest own h high ends = let no_level : powers ≡ comparisons = own in absurd cc
    by_node (binary x0 BinaryOp.Min x1 x2) front rest own h high ends = let no_level : primaries ≡ comparisons = own in absurd cc
    by_node (binary x0 BinaryOp.Max x1 x2) front rest own h high ends = let no_level : primaries ≡ comparisons = own in absurd cc
    by_node (binary x0 BinaryOp.Implies x1 x2) front rest own h high ends = let no_level : implications ≡ comparisons = own in absurd cc
    by_node (binary x0 BinaryOp.Iff x1 x2) front rest own h high ends = let no_level : implications ≡ comparisons = own in absurd cc

    by_level : (e : ExprTree) (front rest : List Lexeme) → Spells comparisons e front → height e ≤ suc less → EndsBefore comparisons e rest → (b : Bool) → nat_le (rank sums) (rank (own_level e)) ≡ b
        → (chain_from (suc less) low (front ++ rest) and_then comparison_behind (suc less) low) ≡ took e rest
    unfolding comparison_behind
    by_level e front rest h high ends true k =
        ap (λ r. r and_then comparison_behind (suc less) low) (tight_again e front rest (k, h.1) high (record { ends = ends.ends.tighter; open_ends = ends.open_ends }))
        ∙ stays e rest ends.ends.none
    by_level e front rest h high ends false k = by_node e front rest (only (own_level e) h.0 k) h high ends

    -- A comparison is read again, or what is tighter.
    pub comparison_again : (e : ExprTree) (front rest : List Lexeme) → Spells comparisons e front → height e ≤ suc less → EndsBefore comparisons e rest → comparison_from (suc less) low (front ++ rest) ≡ took e rest
    unfolding comparison_from
    comparison_again e front rest h high ends = by_level e front rest h high ends (nat_le (rank sums) (rank (own_level e))) refl
