-- Reads are read again, and with them whatever stands at the level of unary operators.
use Rattle.std.specs.Prelude.{◌≡◌, ℕ, zero, suc, ◌≤◌, Bool, true, false, not, ◌&&◌, nat_le, nat_lt, List, [], ◌∷◌, ◌++◌, length, Option, Some, None, codes, refl}
use Rattle.std.proofs.Common.{ap, arith, inl, inr, sym, subst, ◌∙◌, length-append, append_assoc}
use Rattle.std.proofs.Math.Nat.{le-max_left, le-max_right}
use Rattle.std.proofs.lemmas.Bool.Decides.{nat_tests}
use Rattle.ep_base.specs.declared.places.Place.{Place}
use Rattle.ep_tree.specs.Heights.{height, highest_index}
use Rattle.ep_tree.specs.Phrases.{Lexeme, Says, StartsAt, When, a_word, ◌followed_by◌}
use Rattle.ep_tree.specs.Spelling.{At, BetweenIndices, Spells, SpellsIndices, SpellsLastIndices, SpellsMoreIndices, SpellsNode, binary_level, comparisons, conjunctions, disjunctions, has_every, implications, own_level, powers, primaries, products, rank, reads, sums, takes_own_group, unaries}
use Rattle.ep_tree.specs.Trees.{ExprTree, Indices, absolute, all_different, all_of, any_of, at_least, at_most, binary, chain, compare, comprehension, every_and, factorial, flatten, folded, gcc, group, in_domain, in_set, index_and, lex, literal, minus, named, negation, no_indices, number, place_of, quantified, read, table, to_int, truth}
use Rattle.ep_tree.specs.declared.syntax.BinaryOp.{BinaryOp}
use Rattle.ep_parse_parts.specs.OperandReaders.{Lower, closed_by, operand_from}
use Rattle.ep_parse_parts.specs.OperatorReaders.{ReadIndex, another_index, another_read, as_indices, index_from, read_from, takes_group, unary_from}
use Rattle.ep_parse_parts.specs.Readers.{Read, Reader, behind, grown, kept, kept_or, looked_up, more_from, others_from, says, took, ◌and_then◌}
use Rattle.ep_parse_parts.proofs.Again.{AreComplete, EndsBefore, GrownTo, NoImplications, around_cut, around_rest, behind_word_cut, below_again, grown_end, grown_more, grown_start, lexeme, same_place}
use Rattle.ep_parse_parts.proofs.AgainOperands.{operand_again}
use Rattle.ep_parse_parts.proofs.AgainPhrases.{Again, bracket_closes, closed_again, comma_closes}
use Rattle.ep_parse_parts.proofs.AgainStarts.{starts, word_unseen}

-- indices as a list, each with whether a `..` has come
abbrev pub listed_indices : Bool → Indices → List ReadIndex
listed_indices every no_indices = []
listed_indices every (every_and indices) = (true, None) ∷ listed_indices true indices
listed_indices every (index_and e indices) = (every, Some e) ∷ listed_indices every indices

as_listed_indices : (every : Bool) (indices : Indices) → as_indices (listed_indices every indices) ≡ indices
unfolding as_indices
as_listed_indices every no_indices = refl
as_listed_indices every (every_and indices) = ap every_and (as_listed_indices true indices)
as_listed_indices every (index_and e indices) = ap (index_and e) (as_listed_indices every indices)

abbrev bracket : Place → Lexeme
bracket p = lexeme p (a_word (codes "]"))

abbrev comma : Place → Lexeme
comma p = lexeme p (a_word (codes ","))

abbrev span : Place → Lexeme
span p = lexeme p (a_word (codes ".."))

-- ---- what stands between two indices

between_on : (i : Option ExprTree) (f next : List Lexeme) → BetweenIndices f → another_index (false, i) (f ++ next) ≡ Some next
unfolding another_index says
between_on i f next (inl h) = ap (λ x. another_index (false, i) (x ++ next)) h.1
between_on i f next (inr h) =
    ap (λ x. another_index (false, i) (x ++ next)) (h.2 ∙ ap (λ x. x ++ h.1) h.3.1 ∙ ap (λ x. bracket h.3.0 ∷ x) h.4.1)

between_ends : (f next : List Lexeme) → BetweenIndices f → NoImplications (f ++ next)
between_ends f next (inl h) = subst (λ x. NoImplications (x ++ next)) (sym h.1) (comma_closes.expr h.0 next)
between_ends f next (inr h) =
    subst (λ x. NoImplications (x ++ next)) (sym (h.2 ∙ ap (λ x. x ++ h.1) h.3.1)) (bracket_closes.expr h.3.0 (h.1 ++ next))

between_some : (f : List Lexeme) → BetweenIndices f → 1 ≤ length f
between_some f (inl h) = let long : length f ≡ 1 = ap length h.1 in omega (arith, long)
between_some f (inr h) = let long : length f ≡ suc (length h.1) = ap length (h.2 ∙ ap (λ x. x ++ h.1) h.3.1) in omega (arith, long)

module _ (less : ℕ) (low : Lower) (good : AreComplete less low) where
  abbrev item : ReadIndex → Reader ReadIndex
  item last = index_from low last.0

  every_index : (every : Bool) (p : Place) (mid : List Lexeme) → index_from low every (span p ∷ mid) ≡ took (true, None) mid
  unfolding index_from says
  every_index every p mid = refl

  some_index : (every : Bool) (e : ExprTree) (f rest : List Lexeme) → Spells implications e f → height e ≤ less → NoImplications rest → index_from low every (f ++ rest) ≡ took (every, Some e) rest
  unfolding index_from rank looked_up
  some_index every e f rest h small ends =
      rw (word_unseen (codes "..") f rest refl (starts e f h.1.1), good.expr implications refl e f rest h small (record { ends = ends; open_ends = λ _. ends })) refl

  index_go : (n : ℕ) (last x : ReadIndex) (xs : List ReadIndex) (all next mid tail : List Lexeme) → another_index last all ≡ Some next → index_from low last.0 next ≡ took x mid
      → more_from another_index item n x mid ≡ took xs tail → more_from another_index item (suc n) last all ≡ took (x ∷ xs) tail
  unfolding more_from
  index_go n last x xs all next mid tail on first others = rw (on, first, others) refl

  index_end : (n : ℕ) (last : ReadIndex) (all : List Lexeme) → another_index last all ≡ None → more_from another_index item n last all ≡ took [] all
  unfolding more_from
  index_end zero last all none = refl
  index_end (suc n) last all none = rw none refl

  -- ---- indices behind a `..`

  last_on : (i : Option ExprTree) (p : Place) (next : List Lexeme) → another_index (true, i) (comma p ∷ next) ≡ Some next
  unfolding another_index says
  last_on i p next = refl

  last_none : (i : Option ExprTree) (q : Place) (rest : List Lexeme) → another_index (true, i) (bracket q ∷ rest) ≡ None
  unfolding another_index says
  last_none i q rest = refl

  last_ends : (indices : Indices) (front : List Lexeme) (q : Place) (rest : List Lexeme) → SpellsLastIndices indices front → NoImplications (front ++ bracket q ∷ rest)
  unfolding SpellsNode
  last_ends no_indices front q rest h = subst (λ x. NoImplications (x ++ bracket q ∷ rest)) (sym h) (bracket_closes.expr q rest)
  last_ends (every_and indices) front q rest h =
      let c = behind_word_cut (codes ",") _ front h in subst (λ x. NoImplications (x ++ bracket q ∷ rest)) (sym c.parts) (comma_closes.expr c.place (c.rest ++ bracket q ∷ rest))
  last_ends (index_and e indices) front q rest h =
      let c = behind_word_cut (codes ",") _ front h in subst (λ x. NoImplications (x ++ bracket q ∷ rest)) (sym c.parts) (comma_closes.expr c.place (c.rest ++ bracket q ∷ rest))

  last_again : (indices : Indices) (n : ℕ) (i : Option ExprTree) (front : List Lexeme) (q : Place) (rest : List Lexeme) → length front ≤ n → SpellsLastIndices indices front → highest_index indices ≤ less
      → more_from another_index item n (true, i) (front ++ bracket q ∷ rest) ≡ took (listed_indices true indices) (bracket q ∷ rest)
  unfolding SpellsNode height
  last_again no_indices n i front q rest room h small =
      subst (λ x. more_from another_index item n (true, i) (x ++ bracket q ∷ rest) ≡ took [] (bracket q ∷ rest)) (sym h) (index_end n (true, i) (bracket q ∷ rest) (last_none i q rest))
  last_again (every_and indices) zero i front q rest room h small =
      let c = behind_word_cut (codes ",") (Says ".." followed_by SpellsLastIndices indices) front h in
      let long : length front ≡ suc (length c.rest) = ap length c.parts in
      absurd (omega (arith, room, long))
  last_again (every_and indices) (suc n) i front q rest room h small =
      let c = behind_word_cut (codes ",") (Says ".." followed_by SpellsLastIndices indices) front h in
      let d = behind_word_cut (codes "..") (SpellsLastIndices indices) c.rest c.spelled in
      let long : length front ≡ suc (length c.rest) = ap length c.parts in
      let cut : length c.rest ≡ suc (length d.rest) = ap length d.parts in
      let tail = bracket q ∷ rest in
      ap (λ x. more_from another_index item (suc n) (true, i) (x ++ tail)) (c.parts ∙ ap (λ x. comma c.place ∷ x) d.parts)
      ∙ index_go n (true, i) (true, None) (listed_indices true indices) (comma c.place ∷ span d.place ∷ (d.rest ++ tail)) (span d.place ∷ (d.rest ++ tail)) (d.rest ++ tail) tail
      (last_on i c.place (span d.place ∷ (d.rest ++ tail))) (every_index true d.place (d.rest ++ tail)) (last_again indices n None d.rest q rest (omega (arith, room, long, cut)) d.spelled small)
  last_again (index_and e indices) zero i front q rest room h small =
      let c = behind_word_cut (codes ",") (Spells implications e followed_by SpellsLastIndices indices) front h in
      let long : length front ≡ suc (length c.rest) = ap length c.parts in
      absurd (omega (arith, room, long))
  last_again (index_and e indices) (suc n) i front q rest room h small =
      let c = behind_word_cut (codes ",") (Spells implications e followed_by SpellsLastIndices indices) front h in
      let f = c.spelled.0 in
      let g = c.spelled.1 in
      let long : length front ≡ suc (length c.rest) = ap length c.parts in
      let cut : length c.rest ≡ length (f ++ g) = ap length c.spelled.2 in
      let tail = bracket q ∷ rest in
      let regroup : front ++ tail ≡ comma c.place ∷ (f ++ (g ++ tail)) =
      ap (λ x. x ++ tail) c.parts ∙ ap (λ x. comma c.place ∷ x) (ap (λ x. x ++ tail) c.spelled.2 ∙ append_assoc f g tail) in
      let low_e : height e ≤ less = omega (arith, small, le-max_left (height e) (highest_index indices)) in
      let low_others : highest_index indices ≤ less = omega (arith, small, le-max_right (height e) (highest_index indices)) in
      ap (more_from another_index item (suc n) (true, i)) regroup
      ∙ index_go n (true, i) (true, Some e) (listed_indices true indices) (comma c.place ∷ (f ++ (g ++ tail))) (f ++ (g ++ tail)) (g ++ tail) tail
      (last_on i c.place (f ++ (g ++ tail))) (some_index true e f (g ++ tail) c.spelled.3 low_e (last_ends indices g q rest c.spelled.4))
      (last_again indices n (Some e) g q rest (omega (arith, room, long, cut, length-append f g)) c.spelled.4 low_others)

  -- ---- indices before which there is no `..`

  more_none : (i : Option ExprTree) (q : Place) (rest : List Lexeme) → says (codes "[") rest ≡ false → another_index (false, i) (bracket q ∷ rest) ≡ None
  unfolding another_index says
  more_none i q rest none = ap (λ b. kept_or false rest (kept (not false && (true && b)) (behind rest))) none

  more_ends : (indices : Indices) (front : List Lexeme) (q : Place) (rest : List Lexeme) → SpellsMoreIndices indices front → NoImplications (front ++ bracket q ∷ rest)
  unfolding SpellsNode
  more_ends no_indices front q rest h = subst (λ x. NoImplications (x ++ bracket q ∷ rest)) (sym h) (bracket_closes.expr q rest)
  more_ends (every_and indices) front q rest h =
      subst NoImplications (sym (ap (λ x. x ++ bracket q ∷ rest) h.2 ∙ append_assoc h.0 h.1 (bracket q ∷ rest))) (between_ends h.0 (h.1 ++ bracket q ∷ rest) h.3)
  more_ends (index_and e indices) front q rest h =
      subst NoImplications (sym (ap (λ x. x ++ bracket q ∷ rest) h.2 ∙ append_assoc h.0 h.1 (bracket q ∷ rest))) (between_ends h.0 (h.1 ++ bracket q ∷ rest) h.3)

  more_again : (indices : Indices) (n : ℕ) (i : Option ExprTree) (front : List Lexeme) (q : Place) (rest : List Lexeme) → length front ≤ n → SpellsMoreIndices indices front → highest_index indices ≤ less
      → (has_every indices ≡ false → says (codes "[") rest ≡ false) → more_from another_index item n (false, i) (front ++ bracket q ∷ rest) ≡ took (listed_indices false indices) (bracket q ∷ rest)
  unfolding SpellsNode height has_every
  more_again no_indices n i front q rest room h small none =
      subst (λ x. more_from another_index item n (false, i) (x ++ bracket q ∷ rest) ≡ took [] (bracket q ∷ rest)) (sym h)
      (index_end n (false, i) (bracket q ∷ rest) (more_none i q rest (none refl)))
  more_again (every_and indices) zero i front q rest room h small none =
      let long : length front ≡ length (h.0 ++ h.1) = ap length h.2 in
      absurd (omega (arith, room, long, length-append h.0 h.1, between_some h.0 h.3))
  more_again (every_and indices) (suc n) i front q rest room h small none =
      let c = behind_word_cut (codes "..") (SpellsLastIndices indices) h.1 h.4 in
      let long : length front ≡ length (h.0 ++ h.1) = ap length h.2 in
      let cut : length h.1 ≡ suc (length c.rest) = ap length c.parts in
      let tail = bracket q ∷ rest in
      let regroup : front ++ tail ≡ h.0 ++ (span c.place ∷ (c.rest ++ tail)) =
      ap (λ x. x ++ tail) h.2 ∙ append_assoc h.0 h.1 tail ∙ ap (λ x. h.0 ++ (x ++ tail)) c.parts in
      ap (more_from another_index item (suc n) (false, i)) regroup
      ∙ index_go n (false, i) (true, None) (listed_indices true indices) (h.0 ++ (span c.place ∷ (c.rest ++ tail))) (span c.place ∷ (c.rest ++ tail)) (c.rest ++ tail) tail
      (between_on i h.0 (span c.place ∷ (c.rest ++ tail)) h.3) (every_index false c.place (c.rest ++ tail))
      (last_again indices n None c.rest q rest (omega (arith, room, long, length-append h.0 h.1, between_some h.0 h.3, cut)) c.spelled small)
  more_again (index_and e indices) zero i front q rest room h small none =
      let long : length front ≡ length (h.0 ++ h.1) = ap length h.2 in
      absurd (omega (arith, room, long, length-append h.0 h.1, between_some h.0 h.3))
  more_again (index_and e indices) (suc n) i front q rest room h small none =
      let f = h.4.0 in
      let g = h.4.1 in
      let long : length front ≡ length (h.0 ++ h.1) = ap length h.2 in
      let cut : length h.1 ≡ length (f ++ g) = ap length h.4.2 in
      let tail = bracket q ∷ rest in
      let regroup : front ++ tail ≡ h.0 ++ (f ++ (g ++ tail)) =
      ap (λ x. x ++ tail) h.2 ∙ append_assoc h.0 h.1 tail ∙ ap (λ x. h.0 ++ x) (ap (λ x. x ++ tail) h.4.2 ∙ append_assoc f g tail) in
      let low_e : height e ≤ less = omega (arith, small, le-max_left (height e) (highest_index indices)) in
      let low_others : highest_index indices ≤ less = omega (arith, small, le-max_right (height e) (highest_index indices)) in
      ap (more_from another_index item (suc n) (false, i)) regroup
      ∙ index_go n (false, i) (false, Some e) (listed_indices false indices) (h.0 ++ (f ++ (g ++ tail))) (f ++ (g ++ tail)) (g ++ tail) tail
      (between_on i h.0 (f ++ (g ++ tail)) h.3) (some_index false e f (g ++ tail) h.4.3 low_e (more_ends indices g q rest h.4.4))
      (more_again indices n (Some e) g q rest (omega (arith, room, long, length-append h.0 h.1, between_some h.0 h.3, cut, length-append f g)) h.4.4 low_others none)

  -- ---- the indices of a read

  -- what a read makes of its first index and of what stands behind it
  abbrev read_on : ExprTree → ReadIndex → Reader ExprTree
  read_on m first ls =
      others_from another_index item first ls and_then λ others end. closed_by (codes "]") (read (place_of m) m (as_indices (first ∷ others))) end

  close : (m : ExprTree) (first : ReadIndex) (xs : List ReadIndex) (indices : Indices) (q : Place) (rest ls : List Lexeme) → as_indices (first ∷ xs) ≡ indices
      → others_from another_index item first ls ≡ took xs (bracket q ∷ rest) → read_on m first ls ≡ took (read (place_of m) m indices) rest
  close m first xs indices q rest ls made others =
      ap (λ r. r and_then λ ys end. closed_by (codes "]") (read (place_of m) m (as_indices (first ∷ ys))) end) others
      ∙ closed_again (codes "]") (read (place_of m) m (as_indices (first ∷ xs))) rest (bracket q ∷ []) (q, refl)
      ∙ ap (λ x. took (read (place_of m) m x) rest) made

  pub read_again : (m : ExprTree) (indices : Indices) (rest : List Lexeme) → highest_index indices ≤ less → (has_every indices ≡ false → says (codes "[") rest ≡ false)
      → Again (SpellsIndices indices followed_by Says "]") (read_from low m) (read (place_of m) m indices) rest
  unfolding read_from SpellsNode height has_every as_indices
  read_again m no_indices rest small none front h = absurd h.3
  read_again m (every_and indices) rest small none front h =
      let c = behind_word_cut (codes "..") (SpellsLastIndices indices) h.0 h.3 in
      let q = h.4.0 in
      let tail = bracket q ∷ rest in
      let cut : front ++ rest ≡ span c.place ∷ (c.rest ++ tail) =
      ap (λ x. x ++ rest) h.2 ∙ append_assoc h.0 h.1 rest ∙ ap (λ x. h.0 ++ (x ++ rest)) h.4.1 ∙ ap (λ x. x ++ tail) c.parts in
      ap (read_from low m) cut
      ∙ ap (λ r. r and_then read_on m) (every_index false c.place (c.rest ++ tail))
      ∙ close m (true, None) (listed_indices true indices) (every_and indices) q rest (c.rest ++ tail) (ap every_and (as_listed_indices true indices))
      (last_again indices (length (c.rest ++ tail)) None c.rest q rest (omega (arith, length-append c.rest tail)) c.spelled small)
  read_again m (index_and e indices) rest small none front h =
      let f = h.3.0 in
      let g = h.3.1 in
      let q = h.4.0 in
      let tail = bracket q ∷ rest in
      let cut : front ++ rest ≡ f ++ (g ++ tail) =
      ap (λ x. x ++ rest) h.2 ∙ append_assoc h.0 h.1 rest ∙ ap (λ x. h.0 ++ (x ++ rest)) h.4.1 ∙ ap (λ x. x ++ tail) h.3.2 ∙ append_assoc f g tail in
      let low_e : height e ≤ less = omega (arith, small, le-max_left (height e) (highest_index indices)) in
      let low_others : highest_index indices ≤ less = omega (arith, small, le-max_right (height e) (highest_index indices)) in
      ap (read_from low m) cut
      ∙ ap (λ r. r and_then read_on m) (some_index false e f (g ++ tail) h.3.3 low_e (more_ends indices g q rest h.3.4))
      ∙ close m (false, Some e) (listed_indices false indices) (index_and e indices) q rest (g ++ tail) (ap (index_and e) (as_listed_indices false indices))
      (more_again indices (length (g ++ tail)) (Some e) g q rest (omega (arith, length-append g tail)) h.3.4 low_others none)

  -- ---- reads

  abbrev step : ExprTree → List Lexeme → Option (Read ExprTree)
  step = another_read (suc less) low

  abbrev operand : Reader ExprTree
  operand = operand_from (nat_lt 1 (suc less)) low

  -- what was read of these tokens has grown to this
  abbrev Grown : ExprTree → List Lexeme → List Lexeme → Type 0
  Grown e front tail = GrownTo step (operand (front ++ tail) and_then grown step) e tail

  tight_too : (n : ℕ) → nat_le 8 n ≡ true → nat_le 7 n ≡ true
  tight_too n h = grind (arith, nat_tests)

  simple : (e : ExprTree) (front tail : List Lexeme) → (own_level e ≡ reads → ⊥) → nat_le (rank reads) (rank (own_level e)) ≡ true → StartsAt (place_of e) front → SpellsNode e front → height e ≤ suc less → Grown e front tail
  unfolding rank
  simple e front tail not_read up at h high =
      grown_start step (operand (front ++ tail)) e tail (operand_again less low good e front tail (tight_too (rank (own_level e)) up) not_read at h high (λ k. absurd (both (nat_le 8 (rank (own_level e))) up k)))
    where
      both : (b : Bool) → b ≡ true → b ≡ false → ⊥
      both true j k = let wrong : true ≡ false = k in absurd cc
      both false j k = let wrong : false ≡ true = j in absurd cc

  one_step : (m : ExprTree) (x : ExprTree) (q : Place) (back tail : List Lexeme) → nat_le (rank reads) (rank (own_level m)) ≡ true → takes_own_group m ≡ true → height m ≤ less
      → read_from low m (back ++ tail) ≡ took x tail → step m (lexeme q (a_word (codes "[")) ∷ (back ++ tail)) ≡ Some (took x tail)
  unfolding another_read takes_group says
  one_step m x q back tail level own small again = rw (level, own, below_again (height m) less small, again) refl

  grown_any : (e : ExprTree) (front tail : List Lexeme) → nat_le (rank reads) (rank (own_level e)) ≡ true → StartsAt (place_of e) front → SpellsNode e front → height e ≤ suc less
      → (takes_own_group e ≡ false → says (codes "[") tail ≡ false) → Grown e front tail
  unfolding SpellsNode height place_of takes_own_group own_level binary_level
  grown_any (read p m indices) front tail up at h high none =
      let c = around_cut (When (takes_own_group m) (At reads m (SpellsNode m))) (codes "[") (SpellsIndices indices followed_by Says "]") front h in
      let more = lexeme c.place (a_word (codes "[")) ∷ (c.back ++ tail) in
      let cut_rest : front ++ tail ≡ c.front ++ more = around_rest c.front c.back tail front (lexeme c.place (a_word (codes "["))) c.parts in
      let here : place_of m ≡ p = same_place p (place_of m) c.front (lexeme c.place (a_word (codes "[")) ∷ c.back) c.first.1.1.0 (subst (λ x. StartsAt p x) c.parts at) in
      let low_m : height m ≤ less = omega (arith, high, le-max_left (height m) (highest_index indices)) in
      let low_indices : highest_index indices ≤ less = omega (arith, high, le-max_right (height m) (highest_index indices)) in
      let grew : Grown m c.front more = grown_any m c.front more c.first.1.0 c.first.1.1.0 c.first.1.1.1 (omega (arith, low_m)) (λ k. absurd (both (takes_own_group m) c.first.0 k)) in
      let again : read_from low m (c.back ++ tail) ≡ took (read p m indices) tail = read_again m indices tail low_indices none c.back c.second ∙ ap (λ q. took (read q m indices) tail) here in
      subst (λ x. GrownTo step (operand x and_then grown step) (read p m indices) tail) (sym cut_rest)
      (grown_more step (operand (c.front ++ more) and_then grown step) m (read p m indices) more tail grew (one_step m (read p m indices) c.place c.back tail c.first.1.0 c.first.0 low_m again)
      (omega (arith, length-append c.back tail)))
    where
      both : (b : Bool) → b ≡ true → b ≡ false → ⊥
      both true j k = let wrong : true ≡ false = k in absurd cc
      both false j k = let wrong : false ≡ true = j in absurd cc
  grown_any (number p n) front tail up at h high none = simple (number p n) front tail (λ o. let wrong : primaries ≡ reads = o in absurd cc) up at h high
  grown_any (truth p b) front tail up at h high none = simple (truth p b) front tail (λ o. let wrong : primaries ≡ reads = o in absurd cc) up at h high
  grown_any (named p x) front tail up at h high none = simple (named p x) front tail (λ o. let wrong : primaries ≡ reads = o in absurd cc) up at h high
  grown_any (group p e) front tail up at h high none = simple (group p e) front tail (λ o. let wrong : primaries ≡ reads = o in absurd cc) up at h high
  grown_any (negation p e) front tail up at h high none = simple (negation p e) front tail (λ o. let wrong : unaries ≡ reads = o in absurd cc) up at h high
  grown_any (minus p e) front tail up at h high none = simple (minus p e) front tail (λ o. let wrong : unaries ≡ reads = o in absurd cc) up at h high
  grown_any (absolute p e) front tail up at h high none = simple (absolute p e) front tail (λ o. let wrong : primaries ≡ reads = o in absurd cc) up at h high
  grown_any (to_int p e) front tail up at h high none = simple (to_int p e) front tail (λ o. let wrong : primaries ≡ reads = o in absurd cc) up at h high
  grown_any (factorial p e) front tail up at h high none = simple (factorial p e) front tail (λ o. let wrong : primaries ≡ reads = o in absurd cc) up at h high
  grown_any (flatten p m) front tail up at h high none = simple (flatten p m) front tail (λ o. let wrong : primaries ≡ reads = o in absurd cc) up at h high
  grown_any (chain p ts) front tail up at h high none = simple (chain p ts) front tail (λ o. let wrong : sums ≡ reads = o in absurd cc) up at h high
  grown_any (compare p op a b) front tail up at h high none = simple (compare p op a b) front tail (λ o. let wrong : comparisons ≡ reads = o in absurd cc) up at h high
  grown_any (lex p op a b) front tail up at h high none = simple (lex p op a b) front tail (λ o. let wrong : comparisons ≡ reads = o in absurd cc) up at h high
  grown_any (in_domain p a d) front tail up at h high none = simple (in_domain p a d) front tail (λ o. let wrong : comparisons ≡ reads = o in absurd cc) up at h high
  grown_any (in_set p a m) front tail up at h high none = simple (in_set p a m) front tail (λ o. let wrong : comparisons ≡ reads = o in absurd cc) up at h high
  grown_any (all_of p es) front tail up at h high none = simple (all_of p es) front tail (λ o. let wrong : conjunctions ≡ reads = o in absurd cc) up at h high
  grown_any (any_of p es) front tail up at h high none = simple (any_of p es) front tail (λ o. let wrong : disjunctions ≡ reads = o in absurd cc) up at h high
  grown_any (quantified p op xs d e) front tail up at h high none = simple (quantified p op xs d e) front tail (λ o. let wrong : unaries ≡ reads = o in absurd cc) up at h high
  grown_any (literal p es d) front tail up at h high none = simple (literal p es d) front tail (λ o. let wrong : primaries ≡ reads = o in absurd cc) up at h high
  grown_any (comprehension p e gens es d) front tail up at h high none = simple (comprehension p e gens es d) front tail (λ o. let wrong : primaries ≡ reads = o in absurd cc) up at h high
  grown_any (folded p op m) front tail up at h high none = simple (folded p op m) front tail (λ o. let wrong : primaries ≡ reads = o in absurd cc) up at h high
  grown_any (all_different p m) front tail up at h high none = simple (all_different p m) front tail (λ o. let wrong : primaries ≡ reads = o in absurd cc) up at h high
  grown_any (gcc p a b c) front tail up at h high none = simple (gcc p a b c) front tail (λ o. let wrong : primaries ≡ reads = o in absurd cc) up at h high
  grown_any (at_least p a b c) front tail up at h high none = simple (at_least p a b c) front tail (λ o. let wrong : primaries ≡ reads = o in absurd cc) up at h high
  grown_any (at_most p a b c) front tail up at h high none = simple (at_most p a b c) front tail (λ o. let wrong : primaries ≡ reads = o in absurd cc) up at h high
  grown_any (table p a b) front tail up at h high none = simple (table p a b) front tail (λ o. let wrong : primaries ≡ reads = o in absurd cc) up at h high
  grown_any (binary p BinaryOp.Mul a b) front tail up at h high none = simple (binary p BinaryOp.Mul a b) front tail (λ o. let wrong : products ≡ reads = o in absurd cc) up at h high
  grown_any (binary p BinaryOp.Div a b) front tail up at h high none = simple (binary p BinaryOp.Div a b) front tail (λ o. let wrong : products ≡ reads = o in absurd cc) up at h high
  grown_any (binary p BinaryOp.Mod a b) front tail up at h high none = simple (binary p BinaryOp.Mod a b) front tail (λ o. let wrong : products ≡ reads = o in absurd cc) up at h high
  grown_any (binary p BinaryOp.Pow a b) front tail up at h high none = simple (binary p BinaryOp.Pow a b) front tail (λ o. let wrong : powers ≡ reads = o in absurd cc) up at h high
  grown_any (binary p BinaryOp.Min a b) front tail up at h high none = simple (binary p BinaryOp.Min a b) front tail (λ o. let wrong : primaries ≡ reads = o in absurd cc) up at h high
  grown_any (binary p BinaryOp.Max a b) front tail up at h high none = simple (binary p BinaryOp.Max a b) front tail (λ o. let wrong : primaries ≡ reads = o in absurd cc) up at h high
  grown_any (binary p BinaryOp.Implies a b) front tail up at h high none = simple (binary p BinaryOp.Implies a b) front tail (λ o. let wrong : implications ≡ reads = o in absurd cc) up at h high
  grown_any (binary p BinaryOp.Iff a b) front tail up at h high none = simple (binary p BinaryOp.Iff a b) front tail (λ o. let wrong : implications ≡ reads = o in absurd cc) up at h high

  step_none : (e : ExprTree) (ls : List Lexeme) → says (codes "[") ls ≡ false → step e ls ≡ None
  unfolding another_read
  step_none e ls none = rw none refl

  by_level : (e : ExprTree) (front rest : List Lexeme) → Spells unaries e front → height e ≤ suc less → EndsBefore unaries e rest → (b : Bool) → nat_le (rank reads) (rank (own_level e)) ≡ b
      → (operand (front ++ rest) and_then grown step) ≡ took e rest
  unfolding rank
  by_level e front rest h high ends true k =
      grown_end step (operand (front ++ rest) and_then grown step) e rest (grown_any e front rest k h.1.0 h.1.1 high (λ _. ends.ends.bracket)) (step_none e rest ends.ends.bracket)
  by_level e front rest h high ends false k =
      grown_end step (operand (front ++ rest) and_then grown step) e rest
      (grown_start step (operand (front ++ rest)) e rest (operand_again less low good e front rest h.0 not_read h.1.0 h.1.1 high (λ _. ends)))
      (step_none e rest ends.ends.bracket)
    where
      not_read : own_level e ≡ reads → ⊥
      not_read o = let wrong : nat_le (rank reads) (rank reads) ≡ false = subst (λ l. nat_le (rank reads) (rank l) ≡ false) o k in absurd cc

  -- whatever stands at the level of unary operators is read again
  pub unary_again : (e : ExprTree) (front rest : List Lexeme) → Spells unaries e front → height e ≤ suc less → EndsBefore unaries e rest → unary_from (suc less) low (front ++ rest) ≡ took e rest
  unfolding unary_from
  unary_again e front rest h high ends = by_level e front rest h high ends (nat_le (rank reads) (rank (own_level e))) refl
