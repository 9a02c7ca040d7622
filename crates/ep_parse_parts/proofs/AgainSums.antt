-- Chains of sums are read again.
use Rattle.std.specs.Prelude.{◌≡◌, ℕ, zero, suc, ◌+◌, ◌≤◌, max, Bool, true, false, not, ◌&&◌, nat_le, nat_lt, List, [], ◌∷◌, ◌++◌, length, Option, Some, None, codes, refl}
use Rattle.std.proofs.Common.{ap, arith, sym, subst, ◌∙◌, length-append, append_assoc}
use Rattle.std.proofs.Math.Nat.{le-max_left, le-max_right}
use Rattle.ep_base.specs.declared.places.Place.{Place}
use Rattle.ep_tree.specs.Heights.{height, highest_term}
use Rattle.ep_tree.specs.Phrases.{Lexeme, StartsAt, a_word, ◌followed_by◌}
use Rattle.ep_tree.specs.Spelling.{ClosedBefore, Level, Spells, SpellsChain, SpellsNode, SpellsTerms, binary_level, comparisons, conjunctions, disjunctions, ends_open, has_terms, implications, own_level, powers, primaries, products, rank, reads, sign_word, sums, terms_end_open, unaries}
use Rattle.ep_tree.specs.Trees.{ExprTree, Terms, absolute, all_different, all_of, any_of, at_least, at_most, binary, chain, compare, comprehension, factorial, flatten, folded, gcc, group, in_domain, in_set, lex, literal, minus, named, negation, no_terms, number, place_of, quantified, read, table, term_and, to_int, truth}
use Rattle.ep_tree.specs.declared.syntax.BinaryOp.{BinaryOp}
use Rattle.ep_parse_parts.specs.OperandReaders.{Lower, if_low, is_there}
use Rattle.ep_parse_parts.specs.OperatorReaders.{Term, as_terms, chain_from, product_from, sign_words, term_behind, term_from, terms_behind, terms_from, with_operator}
use Rattle.ep_parse_parts.specs.Readers.{Reader, behind, going_on, if_some, kept, looked_up, more_from, next_in, others_from, says, took, wrong, ◌and_then◌}
use Rattle.ep_parse_parts.proofs.Again.{AreComplete, Ends, EndsBefore, NoImplications, NoSums, behind_word_cut, below_again, lexeme, same_place}

-- terms as a list
abbrev pub listed : Terms → List Term
listed no_terms = []
listed (term_and plus e terms) = (plus, e) ∷ listed terms

as_listed : (terms : Terms) → as_terms (listed terms) ≡ terms
unfolding as_terms
as_listed no_terms = refl
as_listed (term_and plus e terms) = ap (λ x. term_and plus e x) (as_listed terms)

and_false : (b : Bool) → (b && false) ≡ false
and_false true = refl
and_false false = refl

not_both : (b : Bool) → not (true && b) ≡ true → b ≡ true → ⊥
not_both true e k = cc
not_both false e k = cc

-- the token of a sign
abbrev sign_at : Place → Bool → Lexeme
sign_at p plus = lexeme p (a_word (codes (sign_word plus)))

sign_found : (p : Place) (plus : Bool) (ls : List Lexeme) → next_in sign_words (sign_at p plus ∷ ls) ≡ Some plus
unfolding next_in looked_up sign_word
sign_found p true ls = refl
sign_found p false ls = refl

sign_ends : (p : Place) (plus : Bool) (ls : List Lexeme) → Ends products (sign_at p plus ∷ ls)
unfolding next_in looked_up sign_word says
sign_ends p true ls = record { tighter = record { tighter = record { bracket = refl }; none = refl }; none = refl }
sign_ends p false ls = record { tighter = record { tighter = record { bracket = refl }; none = refl }; none = refl }

only : (l : Level) → nat_le (rank sums) (rank l) ≡ true → nat_le (rank products) (rank l) ≡ false → l ≡ sums
unfolding rank
only implications h k = let no_level : false ≡ true = h in absurd cc
only disjunctions h k = let no_level : false ≡ true = h in absurd cc
only conjunctions h k = let no_level : false ≡ true = h in absurd cc
only comparisons h k = let no_level : false ≡ true = h in absurd cc
only sums h k = refl
only products h k = let no_level : true ≡ false = k in absurd cc
only powers h k = let no_level : true ≡ false = k in absurd cc
only unaries h k = let no_level : true ≡ false = k in absurd cc
only reads h k = let no_level : true ≡ false = k in absurd cc
only primaries h k = let no_level : true ≡ false = k in absurd cc

makes : (e : ExprTree) → own_level e ≡ sums → (p : Place) × (terms : Terms) × (e ≡ chain p terms)
unfolding own_level binary_level
makes (chain p terms) e = (p, terms, refl)
makes (number x0 x1) e = let no_level : primaries ≡ sums = e in absurd cc
makes (truth x0 x1) e = let no_level : primaries ≡ sums = e in absurd cc
makes (named x0 x1) e = let no_level : primaries ≡ sums = e in absurd cc
makes (group x0 x1) e = let no_level : primaries ≡ sums = e in absurd cc
makes (negation x0 x1) e = let no_level : unaries ≡ sums = e in absurd cc
makes (minus x0 x1) e = let no_level : unaries ≡ sums = e in absurd cc
makes (absolute x0 x1) e = let no_level : primaries ≡ sums = e in absurd cc
makes (to_int x0 x1) e = let no_level : primaries ≡ sums = e in absurd cc
makes (factorial x0 x1) e = let no_level : primaries ≡ sums = e in absurd cc
makes (flatten x0 x1) e = let no_level : primaries ≡ sums = e in absurd cc
makes (compare x0 x1 x2 x3) e = let no_level : comparisons ≡ sums = e in absurd cc
makes (lex x0 x1 x2 x3) e = let no_level : comparisons ≡ sums = e in absurd cc
makes (in_domain x0 x1 x2) e = let no_level : comparisons ≡ sums = e in absurd cc
makes (in_set x0 x1 x2) e = let no_level : comparisons ≡ sums = e in absurd cc
makes (all_of x0 x1) e = let no_level : conjunctions ≡ sums = e in absurd cc
makes (any_of x0 x1) e = let no_level : disjunctions ≡ sums = e in absurd cc
makes (quantified x0 x1 x2 x3 x4) e = let no_level : unaries ≡ sums = e in absurd cc
makes (literal x0 x1 x2) e = let no_level : primaries ≡ sums = e in absurd cc
makes (comprehension x0 x1 x2 x3 x4) e = let no_level : primaries ≡ sums = e in absurd cc
makes (read x0 x1 x2) e = let no_level : reads ≡ sums = e in absurd cc
makes (folded x0 x1 x2) e = let no_level : primaries ≡ sums = e in absurd cc
makes (all_different x0 x1) e = let no_level : primaries ≡ sums = e in absurd cc
makes (gcc x0 x1 x2 x3) e = let no_level : primaries ≡ sums = e in absurd cc
makes (at_least x0 x1 x2 x3) e = let no_level : primaries ≡ sums = e in absurd cc
makes (at_most x0 x1 x2 x3) e = let no_level : primaries ≡ sums = e in absurd cc
makes (table x0 x1 x2) e = let no_level : primaries ≡ sums = e in absurd cc
makes (binary x0 BinaryOp.Mul x1 x2) e = let no_level : products ≡ sums = e in absurd cc
makes (binary x0 BinaryOp.Div x1 x2) e = let no_level : products ≡ sums = e in absurd cc
makes (binary x0 BinaryOp.Mod x1 x2) e = let no_level : products ≡ sums = e in absurd cc
makes (binary x0 BinaryOp.Pow x1 x2) e = let no_level : powers ≡ sums = e in absurd cc
makes (binary x0 BinaryOp.Min x1 x2) e = let no_level : primaries ≡ sums = e in absurd cc
makes (binary x0 BinaryOp.Max x1 x2) e = let no_level : primaries ≡ sums = e in absurd cc
makes (binary x0 BinaryOp.Implies x1 x2) e = let no_level : implications ≡ sums = e in absurd cc
makes (binary x0 BinaryOp.Iff x1 x2) e = let no_level : implications ≡ sums = e in absurd cc

module _ (less : ℕ) (low : Lower) (good : AreComplete less low) where
  -- what stands behind the last term, which may end in a bare quantifier or not
  record Behind (open_last : Bool) (tail : List Lexeme) : Type 0 where
    ends : Ends products tail
    none : next_in sign_words tail ≡ None
    open_ends : open_last ≡ true → NoImplications tail

  abbrev goes_on : Term → List Lexeme → Option (List Lexeme)
  goes_on last = with_operator sign_words last.1

  abbrev item : Term → Reader Term
  item last = term_from low

  none_on : (last : ExprTree) (tail : List Lexeme) → next_in sign_words tail ≡ None → with_operator sign_words last tail ≡ None
  none_on last tail none = ap (λ (o : Option Bool). kept (not (ends_open last) && is_there o) tail) none ∙ ap (λ b. kept b tail) (and_false (not (ends_open last)))

  some_on : (last : ExprTree) (p : Place) (plus : Bool) (ls : List Lexeme) → not (ends_open last) ≡ true → with_operator sign_words last (sign_at p plus ∷ ls) ≡ Some (sign_at p plus ∷ ls)
  some_on last p plus ls closed =
      let all = sign_at p plus ∷ ls in
      ap (λ (o : Option Bool). kept (not (ends_open last) && is_there o) all) (sign_found p plus ls) ∙ ap (λ b. kept (b && true) all) closed

  ends_here : (last : Term) (n : ℕ) (tail : List Lexeme) → next_in sign_words tail ≡ None → more_from goes_on item n last tail ≡ took [] tail
  unfolding more_from
  ends_here last zero tail none = refl
  ends_here last (suc n) tail none =
      ap (λ o. going_on o tail (λ next. item last next and_then λ x rest. more_from goes_on item n x rest and_then λ xs end. took (x ∷ xs) end)) (none_on last.1 tail none)

  term_again : (p : Place) (plus : Bool) (e : ExprTree) (front rest : List Lexeme) → Spells products e front → height e ≤ less → EndsBefore products e rest
      → term_from low (sign_at p plus ∷ (front ++ rest)) ≡ took (plus, e) rest
  unfolding term_from term_behind rank
  term_again p plus e front rest h small ends =
      let all = sign_at p plus ∷ (front ++ rest) in
      ap (λ (o : Option Bool). if_some o (λ s. low.expr products (behind all) and_then λ x r. took (s, x) r) (wrong all)) (sign_found p plus (front ++ rest))
      ∙ ap (λ q. q and_then λ x r. took (plus, x) r) (good.expr products refl e front rest h small ends)

  goes_further : (n : ℕ) (last t : Term) (ts : List Term) (all mid tail : List Lexeme) → goes_on last all ≡ Some all → term_from low all ≡ took t mid
      → more_from goes_on item n t mid ≡ took ts tail → more_from goes_on item (suc n) last all ≡ took (t ∷ ts) tail
  unfolding more_from
  goes_further n last t ts all mid tail on first others =
      ap (λ o. going_on o all (λ next. item last next and_then λ x rest. more_from goes_on item n x rest and_then λ xs end. took (x ∷ xs) end)) on
      ∙ ap (λ r. r and_then λ x rest. more_from goes_on item n x rest and_then λ xs end. took (x ∷ xs) end) first
      ∙ ap (λ r. r and_then λ xs end. took (t ∷ xs) end) others

  -- whether what stands last ends in a bare quantifier
  abbrev open_at : Terms → ExprTree → Bool
  open_at no_terms last = ends_open last
  open_at (term_and plus e terms) last = terms_end_open (term_and plus e terms)

  open_on : (plus : Bool) (e last : ExprTree) (terms : Terms) → open_at (term_and plus e terms) last ≡ open_at terms e
  unfolding ends_open has_terms
  open_on plus e last no_terms = refl
  open_on plus e last (term_and s f fs) = refl

  ends_before : (e : ExprTree) (terms : Terms) (front tail : List Lexeme) → SpellsTerms terms front → not (has_terms terms && ends_open e) ≡ true → Behind (open_at terms e) tail
      → EndsBefore products e (front ++ tail)
  unfolding SpellsNode has_terms
  ends_before e no_terms front tail h closed b = subst (λ f. EndsBefore products e (f ++ tail)) (sym h) (record { ends = b.ends; open_ends = b.open_ends })
  ends_before e (term_and s f fs) front tail h closed b =
      let c = behind_word_cut (codes (sign_word s)) (ClosedBefore (has_terms fs) f (Spells products f) followed_by SpellsTerms fs) front h in
      subst (λ x. EndsBefore products e (x ++ tail)) (sym c.parts) (record { ends = sign_ends c.place s (c.rest ++ tail); open_ends = λ o. absurd (not_both (ends_open e) closed o) })

  more_again : (terms : Terms) (n : ℕ) (last : Term) (front tail : List Lexeme) → length front ≤ n → SpellsTerms terms front → highest_term terms ≤ less
      → not (has_terms terms && ends_open last.1) ≡ true → Behind (open_at terms last.1) tail → more_from goes_on item n last (front ++ tail) ≡ took (listed terms) tail
  unfolding SpellsNode has_terms height
  more_again no_terms n last front tail room h small closed b = subst (λ f. more_from goes_on item n last (f ++ tail) ≡ took [] tail) (sym h) (ends_here last n tail b.none)
  more_again (term_and s e terms) zero last front tail room h small closed b =
      let c = behind_word_cut (codes (sign_word s)) (ClosedBefore (has_terms terms) e (Spells products e) followed_by SpellsTerms terms) front h in
      let long : length front ≡ suc (length c.rest) = ap length c.parts in
      absurd (omega (arith, room, long))
  more_again (term_and s e terms) (suc n) last front tail room h small closed b =
      let c = behind_word_cut (codes (sign_word s)) (ClosedBefore (has_terms terms) e (Spells products e) followed_by SpellsTerms terms) front h in
      let f = c.spelled.0 in
      let g = c.spelled.1 in
      let long : length front ≡ suc (length c.rest) = ap length c.parts in
      let cut : length c.rest ≡ length (f ++ g) = ap length c.spelled.2 in
      let all = sign_at c.place s ∷ (f ++ (g ++ tail)) in
      let regrouped : front ++ tail ≡ all = ap (λ x. x ++ tail) c.parts ∙ ap (λ x. sign_at c.place s ∷ x) (ap (λ x. x ++ tail) c.spelled.2 ∙ append_assoc f g tail) in
      let after : Behind (open_at terms e) tail = subst (λ x. Behind x tail) (open_on s e last.1 terms) b in
      let low_e : height e ≤ less = omega (arith, small, le-max_left (height e) (highest_term terms)) in
      let low_terms : highest_term terms ≤ less = omega (arith, small, le-max_right (height e) (highest_term terms)) in
      ap (more_from goes_on item (suc n) last) regrouped
      ∙ goes_further n last (s, e) (listed terms) all (g ++ tail) tail (some_on last.1 c.place s (f ++ (g ++ tail)) closed)
      (term_again c.place s e f (g ++ tail) c.spelled.3.1 low_e (ends_before e terms g tail c.spelled.4 c.spelled.3.0 after))
      (more_again terms n (s, e) g tail (omega (arith, room, long, cut, length-append f g)) c.spelled.4 low_terms c.spelled.3.0 after)

  stays : (e : ExprTree) (rest : List Lexeme) → next_in sign_words rest ≡ None → terms_behind (suc less) low e rest ≡ took e rest
  unfolding terms_behind
  stays e rest none = ap (λ o. if_some o (if_low (nat_lt (height e) (suc less)) (terms_from low e)) (took e rest)) (none_on e rest none)

  goes : (first : ExprTree) (t : Term) (ts : List Term) (all mid tail : List Lexeme) → with_operator sign_words first all ≡ Some all → nat_lt (height first) (suc less) ≡ true
      → term_from low all ≡ took t mid → more_from goes_on item (length mid) t mid ≡ took ts tail → terms_behind (suc less) low first all ≡ took (chain (place_of first) (term_and true first (as_terms (t ∷ ts)))) tail
  unfolding terms_behind terms_from
  goes first t ts all mid tail on small one others =
      ap (λ o. if_some o (if_low (nat_lt (height first) (suc less)) (terms_from low first)) (took first all)) on
      ∙ ap (λ b. if_low b (terms_from low first) all) small
      ∙ ap (λ r. r and_then λ x rest. others_from goes_on item x rest and_then λ xs end. took (chain (place_of first) (term_and true first (as_terms (x ∷ xs)))) end) one
      ∙ ap (λ r. r and_then λ xs end. took (chain (place_of first) (term_and true first (as_terms (t ∷ xs)))) end) others

  module _ (tight_again : (e : ExprTree) (front rest : List Lexeme) → Spells products e front → height e ≤ suc less → EndsBefore products e rest → product_from (suc less) low (front ++ rest) ≡ took e rest) where
    terms_again : (p : Place) (terms : Terms) (front rest : List Lexeme) → StartsAt p front → SpellsChain terms front → 1 + highest_term terms ≤ suc less → NoSums rest → (terms_end_open terms ≡ true → NoImplications rest)
        → (product_from (suc less) low (front ++ rest) and_then terms_behind (suc less) low) ≡ took (chain p terms) rest
    unfolding SpellsNode has_terms height ends_open as_terms
    terms_again p no_terms front rest starts h high ends open_ends = absurd h
    terms_again p (term_and false first terms) front rest starts h high ends open_ends = let no_chain : false ≡ true = h.0 in absurd cc
    terms_again p (term_and true first no_terms) front rest starts h high ends open_ends = let no_chain : false ≡ true = h.0 in absurd cc
    terms_again p (term_and true first (term_and s e terms)) front rest starts h high ends open_ends =
        let f = h.1.0 in
        let c = behind_word_cut (codes (sign_word s)) (ClosedBefore (has_terms terms) e (Spells products e) followed_by SpellsTerms terms) h.1.1 h.1.4 in
        let g = c.spelled.0 in
        let k = c.spelled.1 in
        let all = sign_at c.place s ∷ (g ++ (k ++ rest)) in
        let regrouped : front ++ rest ≡ f ++ all =
        ap (λ x. x ++ rest) h.1.2 ∙ append_assoc f h.1.1 rest ∙ ap (λ x. f ++ (x ++ rest)) c.parts
        ∙ ap (λ x. f ++ (sign_at c.place s ∷ x)) (ap (λ x. x ++ rest) c.spelled.2 ∙ append_assoc g k rest) in
        let closed : not (ends_open first) ≡ true = h.1.3.0 in
        let low_first : height first ≤ less = omega (arith, high, le-max_left (height first) (max (height e) (highest_term terms))) in
        let low_others : max (height e) (highest_term terms) ≤ less = omega (arith, high, le-max_right (height first) (max (height e) (highest_term terms))) in
        let low_e : height e ≤ less = omega (arith, low_others, le-max_left (height e) (highest_term terms)) in
        let low_terms : highest_term terms ≤ less = omega (arith, low_others, le-max_right (height e) (highest_term terms)) in
        let after : Behind (open_at terms e) rest = record { ends = ends.tighter; none = ends.none; open_ends = λ o. open_ends (open_on s e first terms ∙ o) } in
        let started : place_of first ≡ p = same_place p (place_of first) f h.1.1 h.1.3.1.1.0 (subst (λ x. StartsAt p x) h.1.2 starts) in
        let one : product_from (suc less) low (f ++ all) ≡ took first all =
        tight_again first f all h.1.3.1 (omega (arith, low_first)) (record { ends = sign_ends c.place s (g ++ (k ++ rest)); open_ends = λ o. absurd (not_both (ends_open first) closed o) }) in
        ap (λ x. product_from (suc less) low x and_then terms_behind (suc less) low) regrouped
        ∙ ap (λ r. r and_then terms_behind (suc less) low) one
        ∙ goes first (s, e) (listed terms) all (k ++ rest) rest (some_on first c.place s (g ++ (k ++ rest)) closed) (below_again (height first) less low_first)
        (term_again c.place s e g (k ++ rest) c.spelled.3.1 low_e (ends_before e terms k rest c.spelled.4 c.spelled.3.0 after))
        (more_again terms (length (k ++ rest)) (s, e) k rest (omega (arith, length-append k rest)) c.spelled.4 low_terms c.spelled.3.0 after)
        ∙ ap (λ x. took (chain (place_of first) (term_and true first (term_and s e x))) rest) (as_listed terms)
        ∙ ap (λ x. took (chain x (term_and true first (term_and s e terms))) rest) started

    by_level : (e : ExprTree) (front rest : List Lexeme) → Spells sums e front → height e ≤ suc less → EndsBefore sums e rest → (b : Bool) → nat_le (rank products) (rank (own_level e)) ≡ b
        → (product_from (suc less) low (front ++ rest) and_then terms_behind (suc less) low) ≡ took e rest
    unfolding SpellsNode height ends_open place_of
    by_level e front rest h high ends true k =
        ap (λ r. r and_then terms_behind (suc less) low) (tight_again e front rest (k, h.1) high (record { ends = ends.ends.tighter; open_ends = ends.open_ends })) ∙ stays e rest ends.ends.none
    by_level e front rest h high ends false k =
        let m = makes e (only (own_level e) h.0 k) in
        let spelled = subst (λ x. Spells sums x front) m.2 h in
        subst (λ x. (product_from (suc less) low (front ++ rest) and_then terms_behind (suc less) low) ≡ took x rest) (sym m.2)
        (terms_again m.0 m.1 front rest spelled.1.0 spelled.1.1 (subst (λ x. height x ≤ suc less) m.2 high) ends.ends (λ o. ends.open_ends (ap ends_open m.2 ∙ o)))

    -- A chain of sums is read again, or what is tighter.
    pub sum_again : (e : ExprTree) (front rest : List Lexeme) → Spells sums e front → height e ≤ suc less → EndsBefore sums e rest → chain_from (suc less) low (front ++ rest) ≡ took e rest
    unfolding chain_from
    sum_again e front rest h high ends = by_level e front rest h high ends (nat_le (rank products) (rank (own_level e))) refl
