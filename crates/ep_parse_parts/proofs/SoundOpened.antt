-- What is taken as an operand is spelled.
use Rattle.std.specs.Prelude.{◌≡◌, ℕ, suc, ◌+◌, ◌≤◌, max, Bool, true, nat_le, List, [], ◌∷◌, Option, Some, None, codes, refl}
use Rattle.std.proofs.Common.{ap, arith, sym, subst, ◌∙◌}
use Rattle.std.proofs.Math.Nat.{max-le}
use Rattle.ep_base.specs.declared.places.Place.{Place}
use Prim.Native.String.{String}
use Rattle.ep_tree.specs.Heights.{domain_height, height, highest, highest_generator, index_height}
use Rattle.ep_tree.specs.Phrases.{Lexeme, Names, Says, Saying, Silence, a_name, a_number, a_word, ◌followed_by◌}
use Rattle.ep_tree.specs.Spelling.{Call1, Call3, Spells, SpellsDomain, SpellsGenerators, SpellsIndexDomain, SpellsList, SpellsMore, SpellsNode, binary_level, binary_word, fold_word, implications, is_called, own_level, primaries, quantifier_word, rank, set_operations, truth_word, unaries}
use Rattle.ep_tree.specs.Trees.{ExprTree, absolute, binary, comprehension, folded, group, literal, minus, named, negation, no_trees, number, place_of, quantified, table, tree_and, truth}
use Rattle.ep_tree.specs.declared.syntax.BinaryOp.{BinaryOp}
use Rattle.ep_tree.specs.declared.syntax.FoldOp.{FoldOp}
use Rattle.ep_tree.specs.declared.syntax.QuantOp.{QuantOp}
use Rattle.ep_parse_parts.specs.OperandReaders.{Lower, OnePart, Opening, ThreeParts, a_bar, a_bracket, a_greatest, a_group, a_least, a_minus, a_negation, a_quantifier, a_sum, a_table, a_truth, all_different_in, and_part, begun_from, bracket_from, call_from, call_of_three_from, call_of_two_from, closed_by, counts_at_least, counts_at_most, counts_in, expression_next, factorial_of, flatten_of, folded_by, of_one, of_three, one_part, open_from, opened_from, openings, operand_from, quantifier_from, sum_from, table_from, three_parts, to_int_of}
use Rattle.ep_parse_parts.specs.Readers.{behind, looked_up, names_from, says, took, word_from, ◌and_then◌}
use Rattle.ep_parse_parts.proofs.Holding.{AreWordsOf, Holds, Takes, behind_two, holds_chosen, holds_low, holds_then, holds_took, holds_wrong, looked_up-sound, says_sound, takes_as, takes_nothing, takes_then, ungrouped, word_sound}
use Rattle.ep_parse_parts.proofs.SoundLists.{comprehension_sound, list_end_sound, literal_sound, whole}
use Rattle.ep_parse_parts.proofs.SoundParts.{AreSound, IsDomain, IsExpr, alone, and_part_sound, brackets_sound, closed_sound, names_sound, opened_by, takes_domain, takes_expr}

-- ---- the words of openings

abbrev pub one_word : OnePart → String
one_word to_int_of = "toInt"
one_word factorial_of = "factorial"
one_word flatten_of = "flatten"
one_word (folded_by op) = fold_word op
one_word all_different_in = "allDiff"

abbrev pub three_word : ThreeParts → String
three_word counts_in = "gcc"
three_word counts_at_least = "atleast"
three_word counts_at_most = "atmost"

abbrev pub opening_word : Opening → List ℕ
opening_word (a_truth b) = codes (truth_word b)
opening_word a_bracket = codes "["
opening_word a_group = codes "("
opening_word a_bar = codes "|"
opening_word a_negation = codes "!"
opening_word a_minus = codes "-"
opening_word (a_quantifier op) = codes (quantifier_word op)
opening_word a_sum = codes "sum"
opening_word (of_one what) = codes (one_word what)
opening_word a_least = codes "min"
opening_word a_greatest = codes "max"
opening_word a_table = codes "table"
opening_word (of_three what) = codes (three_word what)

pub are_openings : AreWordsOf opening_word openings
unfolding truth_word quantifier_word fold_word
are_openings = (refl, (refl, (refl, (refl, (refl, (refl, (refl, (refl, (refl, (refl, (refl, (refl, (refl, (refl, (refl, (refl, (refl, (refl, (refl, (refl, (refl, (refl, (refl, tt)))))))))))))))))))))))

-- ---- functions

pub one_node : (what : OnePart) (p : Place) (e : ExprTree) (front : List Lexeme) → Call1 (one_word what) (Spells implications e) front → SpellsNode (one_part what p e) front
unfolding SpellsNode
one_node to_int_of p e front h = h
one_node factorial_of p e front h = h
one_node flatten_of p e front h = h
one_node (folded_by op) p e front h = h
one_node all_different_in p e front h = h

pub one_place : (what : OnePart) (p : Place) (e : ExprTree) → place_of (one_part what p e) ≡ p
unfolding place_of
one_place to_int_of p e = refl
one_place factorial_of p e = refl
one_place flatten_of p e = refl
one_place (folded_by op) p e = refl
one_place all_different_in p e = refl

pub one_own : (what : OnePart) (p : Place) (e : ExprTree) → nat_le (rank unaries) (rank (own_level (one_part what p e))) ≡ true
unfolding own_level rank
one_own to_int_of p e = refl
one_own factorial_of p e = refl
one_own flatten_of p e = refl
one_own (folded_by op) p e = refl
one_own all_different_in p e = refl

pub one_height : (less : ℕ) (what : OnePart) (p : Place) (e : ExprTree) → height e ≤ less → height (one_part what p e) ≤ suc less
unfolding height
one_height less to_int_of p e h = omega (arith, h)
one_height less factorial_of p e h = omega (arith, h)
one_height less flatten_of p e h = omega (arith, h)
one_height less (folded_by op) p e h = omega (arith, h)
one_height less all_different_in p e h = omega (arith, h)

pub three_node : (what : ThreeParts) (p : Place) (a b c : ExprTree) (front : List Lexeme) → Call3 (three_word what) (Spells implications a) (Spells implications b) (Spells implications c) front → SpellsNode (three_parts what p a b c) front
unfolding SpellsNode
three_node counts_in p a b c front h = h
three_node counts_at_least p a b c front h = h
three_node counts_at_most p a b c front h = h

pub three_place : (what : ThreeParts) (p : Place) (a b c : ExprTree) → place_of (three_parts what p a b c) ≡ p
unfolding place_of
three_place counts_in p a b c = refl
three_place counts_at_least p a b c = refl
three_place counts_at_most p a b c = refl

pub three_own : (what : ThreeParts) (p : Place) (a b c : ExprTree) → nat_le (rank unaries) (rank (own_level (three_parts what p a b c))) ≡ true
unfolding own_level rank
three_own counts_in p a b c = refl
three_own counts_at_least p a b c = refl
three_own counts_at_most p a b c = refl

pub three_height : (less : ℕ) (what : ThreeParts) (p : Place) (a b c : ExprTree) → height a ≤ less → height b ≤ less → height c ≤ less → height (three_parts what p a b c) ≤ suc less
unfolding height
three_height less counts_in p a b c h k l = let m = max-le h (max-le k l) in omega (arith, m)
three_height less counts_at_least p a b c h k l = let m = max-le h (max-le k l) in omega (arith, m)
three_height less counts_at_most p a b c h k l = let m = max-le h (max-le k l) in omega (arith, m)

module _ (less : ℕ) (low : Lower) (good : AreSound less low) where
  up : (n : ℕ) → n ≤ less → 1 + n ≤ suc less
  up n h = omega (arith, h)

  -- an operand is taken that begins with this token
  abbrev pub IsOperand : Lexeme → List Lexeme → ExprTree → List Lexeme → Type 0
  IsOperand l ls e rest = IsExpr unaries (suc less) (l ∷ ls) e rest

  module _ (l : Lexeme) (ls : List Lexeme) where
    call_made : (Q : ExprTree → List Lexeme → Type 0) (make : ExprTree → ExprTree) (from : List Lexeme)
        → ((e : ExprTree) (rest : List Lexeme) → height e ≤ less → Takes (Says "(" followed_by Spells implications e followed_by Says ")") from rest → Q (make e) rest)
        → Holds Q (call_from low make from)
    unfolding call_from
    call_made Q make from k =
        brackets_sound less low good Q (λ e. closed_by (codes ")") (make e)) from
        (λ e mid h t. closed_sound Q (codes ")") (make e) mid (λ rest u. k e rest h (behind_two (Says "(") (Spells implications e) (Says ")") from mid rest t u)))

    of_one_sound : (what : OnePart) → l.saying ≡ a_word (codes (one_word what)) → Holds (IsOperand l ls) (call_from low (one_part what l.place) ls)
    of_one_sound what said =
        call_made (IsOperand l ls) (one_part what l.place) ls
        (λ e rest h t. opened_by unaries (suc less) l ls rest (one_part what l.place e) (codes (one_word what)) (Says "(" followed_by Spells implications e followed_by Says ")") said
        (one_place what l.place e) (one_node what l.place e) (one_own what l.place e) t (one_height less what l.place e h))

    two_made : (a b : ExprTree) (mid rest end : List Lexeme) → Takes (Says "(" followed_by Spells implications a) ls mid → Takes (Says "," followed_by Spells implications b) mid rest → Takes (Says ")") rest end
        → Takes (Says "(" followed_by Spells implications a followed_by Says "," followed_by Spells implications b followed_by Says ")") ls end
    two_made a b mid rest end s t u =
        behind_two (Says "(") (Spells implications a) (Says "," followed_by Spells implications b followed_by Says ")") ls mid end s
        (behind_two (Says ",") (Spells implications b) (Says ")") mid rest end t u)

    of_two_sound : (one : FoldOp) (two : BinaryOp) (w : String) → fold_word one ≡ w → binary_word two ≡ w → is_called two ≡ true → binary_level two ≡ primaries
        → l.saying ≡ a_word (codes w) → Holds (IsOperand l ls) (call_of_two_from low one two l.place ls)
    unfolding call_of_two_from SpellsNode own_level rank place_of height
    of_two_sound one two w fold_is binary_is called level said =
        brackets_sound less low good (IsOperand l ls) _ ls
        (λ a mid h s.
        holds_chosen (IsOperand l ls) (says (codes ",") mid) _ _ mid
        (λ _. and_part_sound less low good (IsOperand l ls) (λ b. closed_by (codes ")") (binary l.place two a b)) mid
        (λ b rest k t. closed_sound (IsOperand l ls) (codes ")") (binary l.place two a b) rest
        (λ end u. opened_by unaries (suc less) l ls end (binary l.place two a b) (codes w) (Says "(" followed_by Spells implications a followed_by Says "," followed_by Spells implications b followed_by Says ")") said refl
        (λ front x. rw (called, binary_is) x) (rw level refl) (two_made a b mid rest end s t u) (up (max (height a) (height b)) (max-le h k)))))
        (λ _. closed_sound (IsOperand l ls) (codes ")") (folded l.place one a) mid
        (λ end u. opened_by unaries (suc less) l ls end (folded l.place one a) (codes w) (Says "(" followed_by Spells implications a followed_by Says ")") said refl
        (λ front x. rw fold_is x) refl (behind_two (Says "(") (Spells implications a) (Says ")") ls mid end s u) (up (height a) h))))

    table_sound : l.saying ≡ a_word (codes "table") → Holds (IsOperand l ls) (table_from low l.place ls)
    unfolding table_from SpellsNode own_level rank place_of height
    table_sound said =
        brackets_sound less low good (IsOperand l ls) _ ls
        (λ a mid h s. and_part_sound less low good (IsOperand l ls) (λ b. closed_by (codes ")") (table l.place a b)) mid
        (λ b rest k t. closed_sound (IsOperand l ls) (codes ")") (table l.place a b) rest
        (λ end u. opened_by unaries (suc less) l ls end (table l.place a b) (codes "table") (Says "(" followed_by Spells implications a followed_by Says "," followed_by Spells implications b followed_by Says ")") said refl
        (λ front x. x) refl (two_made a b mid rest end s t u) (up (max (height a) (height b)) (max-le h k)))))

    three_sound : (what : ThreeParts) → l.saying ≡ a_word (codes (three_word what)) → Holds (IsOperand l ls) (call_of_three_from low what l.place ls)
    unfolding call_of_three_from
    three_sound what said =
        brackets_sound less low good (IsOperand l ls) _ ls
        (λ a one h s. and_part_sound less low good (IsOperand l ls) (λ b. and_part low (λ c. closed_by (codes ")") (three_parts what l.place a b c))) one
        (λ b two k t. and_part_sound less low good (IsOperand l ls) (λ c. closed_by (codes ")") (three_parts what l.place a b c)) two
        (λ c three m v. closed_sound (IsOperand l ls) (codes ")") (three_parts what l.place a b c) three
        (λ end u. opened_by unaries (suc less) l ls end (three_parts what l.place a b c) (codes (three_word what))
        (Says "(" followed_by Spells implications a followed_by Says "," followed_by Spells implications b followed_by Says "," followed_by Spells implications c followed_by Says ")") said
        (three_place what l.place a b c) (three_node what l.place a b c) (three_own what l.place a b c)
        (behind_two (Says "(") (Spells implications a) (Says "," followed_by Spells implications b followed_by Says "," followed_by Spells implications c followed_by Says ")") ls one end s
        (behind_two (Says ",") (Spells implications b) (Says "," followed_by Spells implications c followed_by Says ")") one two end t
        (behind_two (Says ",") (Spells implications c) (Says ")") two three end v u)))
        (three_height less what l.place a b c h k m)))))

    -- ---- quantifiers

    quantifier_sound : (op : QuantOp) → l.saying ≡ a_word (codes (quantifier_word op)) → Holds (IsOperand l ls) (quantifier_from low op l.place ls)
    unfolding quantifier_from SpellsNode own_level rank place_of height
    quantifier_sound op said =
        holds_then (λ xs rest. Takes (Names xs) ls rest) (IsOperand l ls) (names_from ls) _ (names_sound ls)
        (λ names rest n. holds_then (λ p next. Takes (Says ":") rest next) (IsOperand l ls) (word_from (codes ":") rest) _ (word_sound (codes ":") rest)
        (λ p next colon. holds_then (IsDomain set_operations less next) (IsOperand l ls) (low.domain set_operations next) _ (good.domain set_operations next)
        (λ d end h. holds_then (λ p body. Takes (Says ".") end body) (IsOperand l ls) (word_from (codes ".") end) _ (word_sound (codes ".") end)
        (λ p body dot. holds_then (IsExpr implications less body) (IsOperand l ls) (low.expr implications body) _ (whole less low good body)
        (λ e after k. holds_took (IsOperand l ls) (quantified l.place op names d e) after
        (opened_by unaries (suc less) l ls after (quantified l.place op names d e) (codes (quantifier_word op))
        (Names names followed_by Says ":" followed_by SpellsDomain set_operations d followed_by Says "." followed_by Spells implications e) said refl (λ front x. x) refl
        (takes_then (Names names) (Says ":" followed_by SpellsDomain set_operations d followed_by Says "." followed_by Spells implications e) ls rest after n
        (takes_then (Says ":") (SpellsDomain set_operations d followed_by Says "." followed_by Spells implications e) rest next after colon
        (takes_then (SpellsDomain set_operations d) (Says "." followed_by Spells implications e) next end after (takes_domain set_operations less next d end h)
        (takes_then (Says ".") (Spells implications e) end body after dot (takes_expr implications less body e after k)))))
        (up (max (domain_height d) (height e)) (max-le h.low k.low))))))))

    sum_sound : l.saying ≡ a_word (codes "sum") → Holds (IsOperand l ls) (sum_from low l.place ls)
    unfolding sum_from fold_word quantifier_word
    sum_sound said =
        holds_chosen (IsOperand l ls) (says (codes "(") ls) _ _ ls (λ _. of_one_sound (folded_by FoldOp.Sum) said) (λ _. quantifier_sound QuantOp.Sum said)

    -- ---- square brackets

    bracket_sound : (b : Bool) → l.saying ≡ a_word (codes "[") → Holds (IsOperand l ls) (bracket_from b low l.place ls)
    unfolding bracket_from SpellsNode own_level rank place_of height
    bracket_sound b said =
        holds_chosen (IsOperand l ls) (expression_next ls) _ _ ls
        (λ _. holds_then (IsExpr implications less ls) (IsOperand l ls) (low.expr implications ls) _ (whole less low good ls)
        (λ e rest h. holds_chosen (IsOperand l ls) (says (codes "|") rest) _ _ rest
        (λ bar. comprehension_sound less low good (IsOperand l ls) b l.place e (behind rest)
        (λ gens conditions d after hg hc hd t. opened_by unaries (suc less) l ls after (comprehension l.place e gens conditions d) (codes "[")
        (Spells implications e followed_by Says "|" followed_by SpellsGenerators gens followed_by SpellsMore conditions followed_by SpellsIndexDomain d followed_by Says "]") said refl (λ front x. x) refl
        (takes_then (Spells implications e) (Says "|" followed_by SpellsGenerators gens followed_by SpellsMore conditions followed_by SpellsIndexDomain d followed_by Says "]") ls rest after (takes_expr implications less ls e rest h)
        (takes_then (Says "|") (SpellsGenerators gens followed_by SpellsMore conditions followed_by SpellsIndexDomain d followed_by Says "]") rest (behind rest) after (says_sound (codes "|") rest bar) t))
        (up (max (max (height e) (highest_generator gens)) (max (highest conditions) (index_height d))) (max-le (max-le h.low hg) (max-le hc hd)))))
        (λ _. literal_sound less low good (IsOperand l ls) b l.place e rest
        (λ es d after he hd t. opened_by unaries (suc less) l ls after (literal l.place (tree_and e es) d) (codes "[") (SpellsList (tree_and e es) followed_by SpellsIndexDomain d followed_by Says "]") said refl (λ front x. x) refl
        (takes_as (Spells implications e followed_by SpellsMore es followed_by SpellsIndexDomain d followed_by Says "]") (SpellsList (tree_and e es) followed_by SpellsIndexDomain d followed_by Says "]") ls after
        (ungrouped (Spells implications e) (SpellsMore es) (SpellsIndexDomain d followed_by Says "]"))
        (takes_then (Spells implications e) (SpellsMore es followed_by SpellsIndexDomain d followed_by Says "]") ls rest after (takes_expr implications less ls e rest h) t))
        (up (max (max (height e) (highest es)) (index_height d)) (max-le (max-le h.low he) hd))))))
        (λ _. list_end_sound less low good (IsOperand l ls) b (literal l.place no_trees) ls
        (λ d after hd t. opened_by unaries (suc less) l ls after (literal l.place no_trees d) (codes "[") (SpellsList no_trees followed_by SpellsIndexDomain d followed_by Says "]") said refl (λ front x. x) refl
        (takes_then Silence (SpellsIndexDomain d followed_by Says "]") ls ls after (takes_nothing ls) t)
        (up (max 0 (index_height d)) (max-le (omega arith) hd))))

    -- ---- all openings

    closed_group : (make : ExprTree → ExprTree) (w : String) (closing : String) → l.saying ≡ a_word (codes w)
        → ((e : ExprTree) → place_of (make e) ≡ l.place)
        → ((e : ExprTree) (front : List Lexeme) → (Says w followed_by Spells implications e followed_by Says closing) front → SpellsNode (make e) front)
        → ((e : ExprTree) → nat_le (rank unaries) (rank (own_level (make e))) ≡ true) → ((e : ExprTree) → height (make e) ≡ 1 + height e)
        → Holds (IsOperand l ls) (low.expr implications ls and_then λ e. closed_by (codes closing) (make e))
    closed_group make w closing said at node own high =
        holds_then (IsExpr implications less ls) (IsOperand l ls) (low.expr implications ls) _ (whole less low good ls)
        (λ e mid h. closed_sound (IsOperand l ls) (codes closing) (make e) mid
        (λ rest t. opened_by unaries (suc less) l ls rest (make e) (codes w) (Spells implications e followed_by Says closing) said (at e) (node e) (own e)
        (takes_then (Spells implications e) (Says closing) ls mid rest (takes_expr implications less ls e mid h) t) (subst (λ n. n ≤ suc less) (sym (high e)) (up (height e) h.low))))

    prefix : (make : ExprTree → ExprTree) (w : String) → l.saying ≡ a_word (codes w) → ((e : ExprTree) → place_of (make e) ≡ l.place)
        → ((e : ExprTree) (front : List Lexeme) → (Says w followed_by Spells unaries e) front → SpellsNode (make e) front)
        → ((e : ExprTree) → nat_le (rank unaries) (rank (own_level (make e))) ≡ true) → ((e : ExprTree) → height (make e) ≡ 1 + height e)
        → Holds (IsOperand l ls) (low.expr unaries ls and_then λ e rest. took (make e) rest)
    unfolding rank
    prefix make w said at node own high =
        holds_then (IsExpr unaries less ls) (IsOperand l ls) (low.expr unaries ls) _ (good.expr unaries refl ls)
        (λ e rest h. holds_took (IsOperand l ls) (make e) rest
        (opened_by unaries (suc less) l ls rest (make e) (codes w) (Spells unaries e) said (at e) (node e) (own e) (takes_expr unaries less ls e rest h) (subst (λ n. n ≤ suc less) (sym (high e)) (up (height e) h.low))))

    truth_sound : (b : Bool) → l.saying ≡ a_word (codes (truth_word b)) → Holds (IsOperand l ls) (took (truth l.place b) ls)
    unfolding SpellsNode own_level rank place_of height
    truth_sound b said = holds_took (IsOperand l ls) (truth l.place b) ls (alone unaries (suc less) l ls (truth l.place b) (a_word (codes (truth_word b))) said refl (λ front x. x) refl (omega arith))

    opened_sound : (what : Opening) → l.saying ≡ a_word (opening_word what) → Holds (IsOperand l ls) (opened_from low l.place what ls)
    unfolding opened_from SpellsNode own_level rank place_of height fold_word binary_word is_called binary_level
    opened_sound (a_truth b) said = truth_sound b said
    opened_sound a_bracket said = bracket_sound true said
    opened_sound a_group said = closed_group (group l.place) "(" ")" said (λ e. refl) (λ e front x. x) (λ e. refl) (λ e. refl)
    opened_sound a_bar said = closed_group (absolute l.place) "|" "|" said (λ e. refl) (λ e front x. x) (λ e. refl) (λ e. refl)
    opened_sound a_negation said = prefix (negation l.place) "!" said (λ e. refl) (λ e front x. x) (λ e. refl) (λ e. refl)
    opened_sound a_minus said = prefix (minus l.place) "-" said (λ e. refl) (λ e front x. x) (λ e. refl) (λ e. refl)
    opened_sound (a_quantifier op) said = quantifier_sound op said
    opened_sound a_sum said = sum_sound said
    opened_sound (of_one what) said = of_one_sound what said
    opened_sound a_least said = of_two_sound FoldOp.Min BinaryOp.Min "min" refl refl refl refl said
    opened_sound a_greatest said = of_two_sound FoldOp.Max BinaryOp.Max "max" refl refl refl refl said
    opened_sound a_table said = table_sound said
    opened_sound (of_three what) said = three_sound what said

    open_sound : (b : Bool) (o : Option Opening) → ((what : Opening) → o ≡ Some what → l.saying ≡ a_word (opening_word what)) → Holds (IsOperand l ls) (open_from b low l.place o ls (l ∷ ls))
    unfolding open_from
    open_sound b None k = holds_wrong (IsOperand l ls) (l ∷ ls)
    open_sound b (Some (a_truth t)) k = truth_sound t (k (a_truth t) refl)
    open_sound b (Some a_bracket) k = bracket_sound b (k a_bracket refl)
    open_sound b (Some a_group) k = holds_low (IsOperand l ls) b _ (l ∷ ls) (λ _. opened_sound a_group (k a_group refl))
    open_sound b (Some a_bar) k = holds_low (IsOperand l ls) b _ (l ∷ ls) (λ _. opened_sound a_bar (k a_bar refl))
    open_sound b (Some a_negation) k = holds_low (IsOperand l ls) b _ (l ∷ ls) (λ _. opened_sound a_negation (k a_negation refl))
    open_sound b (Some a_minus) k = holds_low (IsOperand l ls) b _ (l ∷ ls) (λ _. opened_sound a_minus (k a_minus refl))
    open_sound b (Some (a_quantifier op)) k = holds_low (IsOperand l ls) b _ (l ∷ ls) (λ _. opened_sound (a_quantifier op) (k (a_quantifier op) refl))
    open_sound b (Some a_sum) k = holds_low (IsOperand l ls) b _ (l ∷ ls) (λ _. opened_sound a_sum (k a_sum refl))
    open_sound b (Some (of_one what)) k = holds_low (IsOperand l ls) b _ (l ∷ ls) (λ _. opened_sound (of_one what) (k (of_one what) refl))
    open_sound b (Some a_least) k = holds_low (IsOperand l ls) b _ (l ∷ ls) (λ _. opened_sound a_least (k a_least refl))
    open_sound b (Some a_greatest) k = holds_low (IsOperand l ls) b _ (l ∷ ls) (λ _. opened_sound a_greatest (k a_greatest refl))
    open_sound b (Some a_table) k = holds_low (IsOperand l ls) b _ (l ∷ ls) (λ _. opened_sound a_table (k a_table refl))
    open_sound b (Some (of_three what)) k = holds_low (IsOperand l ls) b _ (l ∷ ls) (λ _. opened_sound (of_three what) (k (of_three what) refl))

    begun_sound : (b : Bool) (s : Saying) → l.saying ≡ s → Holds (IsOperand l ls) (begun_from b low l.place s ls (l ∷ ls))
    unfolding begun_from SpellsNode own_level rank place_of height
    begun_sound b (a_name x) said = holds_took (IsOperand l ls) (named l.place x) ls (alone unaries (suc less) l ls (named l.place x) (a_name x) said refl (λ front y. y) refl (omega arith))
    begun_sound b (a_number n) said = holds_took (IsOperand l ls) (number l.place n) ls (alone unaries (suc less) l ls (number l.place n) (a_number n) said refl (λ front y. y) refl (omega arith))
    begun_sound b (a_word w) said = open_sound b (looked_up openings w) (λ what e. said ∙ ap a_word (looked_up-sound opening_word openings are_openings w what e))

  pub operand_sound : (b : Bool) (ls : List Lexeme) → Holds (IsExpr unaries (suc less) ls) (operand_from b low ls)
  unfolding operand_from
  operand_sound b [] = holds_wrong (IsExpr unaries (suc less) []) []
  operand_sound b (l ∷ ls) = begun_sound l ls b l.saying refl
