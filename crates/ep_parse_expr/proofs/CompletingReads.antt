-- Reads and operators whose reading ends before their end can be completed.
use Rattle.std.specs.Prelude.{◌≡◌, ℕ, suc, ◌≤◌, max, Bool, true, false, ◌&&◌, List, [], ◌∷◌, ◌++◌, length, nat_le, nat_lt, Option, Some, None, codes, refl}
use Rattle.std.proofs.Common.{ap, append-nil, append_assoc, arith, inl, inr, sym, subst, ◌∙◌}
use Rattle.std.proofs.Math.Nat.{max-le}
use Rattle.std.proofs.lemmas.Bool.{and_parts}
use Rattle.std.proofs.lemmas.Bool.Decides.{nat_tests}
use Rattle.ep_tree.specs.Heights.{height, highest_index}
use Rattle.ep_tree.specs.Phrases.{Is, Lexeme, Says, a_word, ◌followed_by◌}
use Rattle.ep_tree.specs.Spelling.{Level, Spells, SpellsIndices, SpellsNode, implications, own_level, rank, reads, takes_own_group, unaries}
use Rattle.ep_tree.specs.Trees.{ExprTree, Indices, no_indices, place_of, read}
use Rattle.ep_parse_parts.specs.OperandReaders.{Lower, if_low, operand_from}
use Rattle.ep_parse_parts.specs.OperatorReaders.{ReadIndex, another_index, another_read, as_indices, index_from, only_if, read_from, takes_group, unary_from, with_index}
use Rattle.ep_parse_parts.specs.Readers.{Read, Reader, behind, high, says, took, wrong, ◌and_then◌}
use Rattle.ep_parse_expr.proofs.Completing.{AnExpr, Filled, Half, ItemSo, Lifts, Opens, Refuses, Shape, Word, grown_refuses, others_then, refuses_as, refuses_behind, refuses_chosen, refuses_made, refuses_took, then_filled, word_filled, ◌then◌}
use Rattle.ep_parse_expr.proofs.CompletingOpened.{operand_refuses}
use Rattle.ep_parse_expr.proofs.CompletingOperands.{Operand, word_has}
use Rattle.ep_parse_expr.proofs.CompletingParts.{AreOpen, closed_refuses, token_opens}
use Rattle.ep_parse_parts.proofs.Holding.{is_word-sound, starts_front, takes_token}
use Rattle.ep_parse_parts.proofs.SoundOpened.{operand_sound}
use Rattle.ep_parse_parts.proofs.SoundParts.{AreSound, IsExpr}
use Rattle.ep_parse_parts.proofs.SoundReads.{Before, Further, SpellsIndex, another_read_sound, another_sound, index_high, index_sound, indices_high, then_every}

-- ---- more rules

-- something more comes behind
pub refuses_more : {A : Type 0} (P Q : Shape) (ls : List Lexeme) (r : Read A) → Filled Q → Refuses P ls r → Refuses (P then Q) ls r
refuses_more P Q ls r filled h = record {
  wrong_at = λ rest e. let w = h.wrong_at rest e in record { front = w.front; parts = w.parts; half = half w.front w.half };
  high_at = λ rest e. let w = h.high_at rest e in
      record { front = w.front; token = w.token; after = w.after; parts = w.parts; left = w.left; half = half w.front w.half; higher = opened false (w.front ++ w.token ∷ []) w.higher };
}
  where
    opened : (b : Bool) (front : List Lexeme) → Opens (P b) front → Opens ((P then Q) b) front
    opened b front o = let small = filled.some b in (o.0 ++ small.0, (front ++ o.0, small.0, sym (append_assoc front o.0 small.0), o.1, small.1))

    half : (front : List Lexeme) → Half P front → Half (P then Q) front
    half front (inl e) = inl e
    half front (inr o) = inr (opened true front o)

-- one thing after another, of the same whole
pub refuses_step : {A B : Type 0} (W : Shape) (ls : List Lexeme) (r : Read A) (k : A → Reader B) → Refuses W ls r → ((x : A) (rest : List Lexeme) → r ≡ took x rest → Refuses W ls (k x rest)) → Refuses W ls (r and_then k)
refuses_step {A} {B} W ls r k h f = go r refl
  where
    left : Read B → List Lexeme
    left (took x ls) = ls
    left (wrong ls) = ls
    left (high ls) = ls

    go : (q : Read A) → r ≡ q → Refuses W ls (r and_then k)
    go (took x rest) e = subst (λ z. Refuses W ls (z and_then k)) (sym e) (f x rest e)
    go (wrong rest) e = subst (λ z. Refuses W ls (z and_then k)) (sym e) (record { wrong_at = λ z d. h.wrong_at z (e ∙ ap wrong (ap left d)); high_at = λ z d. absurd cc })
    go (high rest) e = subst (λ z. Refuses W ls (z and_then k)) (sym e) (record { wrong_at = λ z d. absurd cc; high_at = λ z d. h.high_at z (e ∙ ap high (ap left d)) })

left_of : {A : Type 0} → Read A → List Lexeme
left_of (took x ls) = ls
left_of (wrong ls) = ls
left_of (high ls) = ls

-- what stands is whole, and goes on with a token where it may be higher
pub refuses_higher : {A : Type 0} (W : Shape) (ls front : List Lexeme) (l : Lexeme) (rest : List Lexeme) → ls ≡ front ++ l ∷ rest → W true front → Opens (W false) (front ++ l ∷ []) → Refuses {A = A} W ls (high (l ∷ rest))
unfolding left_of
refuses_higher W ls front l rest e whole more = record {
  wrong_at = λ z d. absurd cc;
  high_at = λ z d. record { front = front; token = l; after = rest; parts = e; left = sym (ap left_of d); half = inr ([], subst (W true) (sym (append-nil front)) whole); higher = more };
}

-- the token that a table knows
pub said_next : (w : List ℕ) (ls : List Lexeme) → says w ls ≡ true → (l : Lexeme) × (rest : List Lexeme) × (ls ≡ l ∷ rest) × (l.saying ≡ a_word w)
unfolding says
said_next w [] e = absurd cc
said_next w (l ∷ rest) e = (l, rest, refl, is_word-sound w l.saying e)

-- ---- behind a left part

below : (m n : ℕ) → nat_lt m (suc n) ≡ true → m ≤ n
below m n e = grind (arith, nat_tests)

module _ (less : ℕ) where
  -- What goes on behind a left part that was taken, where it is low enough: an operator and more, which are a whole with
  -- the left part.
  pub behind_left : {A : Type 0} (part : Level) (W Q : Shape) (ls from : List Lexeme) (left : ExprTree) (l : Lexeme) (rest : List Lexeme) (reader : Reader A) (q : IsExpr part (suc less) ls left from) → from ≡ l ∷ rest
      → W true q.front → ((b : Bool) → (b ≡ true → height left ≤ less) → (front back : List Lexeme) → Spells part left front → Q b back → W b (front ++ back))
      → Opens (Q false) (l ∷ []) → (height left ≤ less → Filled Q) → (height left ≤ less → Refuses Q (l ∷ rest) (reader (l ∷ rest))) → Refuses W ls (if_low (nat_lt (height left) (suc less)) reader from)
  behind_left {A} part W Q ls from left l rest reader q is whole node token filled h =
      subst (λ z. Refuses W ls (if_low (nat_lt (height left) (suc less)) reader z)) (sym is) (go (nat_lt (height left) (suc less)) refl)
    where
      go : (t : Bool) → nat_lt (height left) (suc less) ≡ t → Refuses W ls (if_low t reader (l ∷ rest))
      go true e =
          let lt = below (height left) less e in
          refuses_behind (Spells part left) Q W ls (l ∷ rest) (reader (l ∷ rest)) (record { front = q.front; parts = q.parts ∙ ap (λ z. q.front ++ z) is; spelled = q.spelled }) (λ b front back s t. node b (λ _. lt) front back s t) (filled lt) (h lt)
      go false e =
          refuses_higher W ls q.front l rest (q.parts ∙ ap (λ z. q.front ++ z) is) whole
          (token.0, subst (W false) (sym (append_assoc q.front (l ∷ []) token.0)) (node false (λ k. absurd cc) q.front ((l ∷ []) ++ token.0) q.spelled token.1))

  -- ---- reads

  abbrev AnIndex : Shape
  AnIndex b front = (x : Option ExprTree) × (b ≡ true → index_high x ≤ less) × SpellsIndex x front

  -- further indices behind one
  abbrev MoreIndices : ReadIndex → Shape
  MoreIndices last b front = (xs : Indices) × (b ≡ true → highest_index xs ≤ less) × Further last.0 xs front

  abbrev ReadEnd : Shape
  ReadEnd b front = (xs : Indices) × (b ≡ true → highest_index xs ≤ less) × (SpellsIndices xs followed_by Says "]") front

  no_further : (every : Bool) → Further every no_indices []
  unfolding SpellsNode
  no_further true = refl
  no_further false = refl

  further_is : (every : Bool) (x : Option ExprTree) (xs : Indices) (front : List Lexeme) → (Before every followed_by SpellsIndex x followed_by Further (then_every every x) xs) front → Further every (with_index x xs) front
  unfolding SpellsNode
  further_is true None xs front h = h
  further_is true (Some e) xs front h = h
  further_is false None xs front h = h
  further_is false (Some e) xs front h = h

  indices_are : (x : Option ExprTree) (xs : Indices) (front : List Lexeme) → (SpellsIndex x followed_by Further (then_every false x) xs) front → SpellsIndices (with_index x xs) front
  unfolding SpellsNode
  indices_are None xs front h = h
  indices_are (Some e) xs front h = h

  nothing_further : (last : ReadIndex) (b : Bool) → MoreIndices last b []
  unfolding height
  nothing_further last b = (no_indices, (λ _. omega arith), no_further last.0)

  further_lifts : (last : ReadIndex) → Lifts (MoreIndices last)
  further_lifts last front h = (h.0, (λ e. absurd cc), h.2)

  index_filled : Filled AnIndex
  index_filled = record { some = λ b. let w = word_has (codes "..") b in (w.0, (None, (λ _. omega arith), w.1)) }

  node_of_read : (m : ExprTree) → takes_group m ≡ true → (b : Bool) → (b ≡ true → height m ≤ less) → (front back : List Lexeme) → Spells unaries m front → (Word (codes "[") then ReadEnd) b back → Operand less b (front ++ back)
  unfolding SpellsNode own_level rank place_of height takes_group
  node_of_read m group b low front back s h =
      let both = and_parts (nat_le (rank reads) (rank (own_level m))) (takes_own_group m) group in
      let k = h.4 in (
        read (place_of m) m k.0,
        (λ e. let high : max (height m) (highest_index k.0) ≤ less = max-le (low e) (k.1 e) in omega (arith, high)),
        (refl, (starts_front (place_of m) front back s.1.0, (front, back, refl, (both.1, (both.0, s.1)), (h.0, h.1, h.2, h.3, k.2)))),
      )

module _ (less : ℕ) (low : Lower) (sound : AreSound less low) (good : AreOpen less low) where
  index_refuses : (every : Bool) (ls : List Lexeme) → Refuses (AnIndex less) ls (index_from low every ls)
  unfolding index_from rank
  index_refuses every ls =
      refuses_chosen (AnIndex less) (says (codes "..") ls) _ _ ls
      (λ _. refuses_took (AnIndex less) ls (behind ls) (true, None))
      (λ _. refuses_as (AnExpr implications less) (AnIndex less) ls _ (λ b front h. (Some h.0, h.1, h.2)) (refuses_made (AnExpr implications less) ls (low.expr implications ls) (λ e. (every, Some e)) (good.expr implications refl ls)))

  index_items : (last : ReadIndex) (ls next : List Lexeme) → another_index last ls ≡ Some next → ItemSo another_index (λ last. index_from low last.0) (MoreIndices less) (nothing_further less) last ls (index_from low last.0 next)
  unfolding height
  index_items last ls next e =
      let s = another_sound last ls next e in
      record {
        takes = λ x rest k. let h = index_sound less low sound last.0 next in let i = h.holds x rest k in
            record {
              front = s.front ++ i.0.front;
              parts = s.parts ∙ ap (λ z. s.front ++ z) i.0.parts ∙ sym (append_assoc s.front i.0.front rest);
              leads = λ b back l. (
                with_index x.1 l.0,
                (λ d. indices_high less x.1 l.0 i.2 (l.1 d)),
                further_is less last.0 x.1 l.0 ((s.front ++ i.0.front) ++ back) (s.front, i.0.front ++ back, append_assoc s.front i.0.front back, s.spelled, (i.0.front, back, refl, i.0.spelled, subst (λ z. Further z l.0 back) i.1 l.2)),
              );
            };
        refuses = refuses_behind (Before last.0) (AnIndex less) (MoreIndices less last) ls next (index_from low last.0 next) s
            (λ b front back p q. (
              with_index q.0 no_indices,
              (λ d. indices_high less q.0 no_indices (q.1 d) (omega arith)),
              further_is less last.0 q.0 no_indices (front ++ back) (front, back, refl, p, (back, [], sym (append-nil back), q.2, no_further less (then_every last.0 q.0))),
            )) (index_filled less) (index_refuses last.0 next);
      }

  indices_refuse : (m : ExprTree) (ls : List Lexeme) → Refuses (ReadEnd less) ls (read_from low m ls)
  unfolding read_from as_indices height
  indices_refuse m ls =
      refuses_step (ReadEnd less) ls (index_from low false ls) _
      (refuses_as (AnIndex less then Word (codes "]")) (ReadEnd less) ls (index_from low false ls)
      (λ b front h. (with_index h.3.0 no_indices, (λ d. indices_high less h.3.0 no_indices (h.3.1 d) (omega arith)), (h.0, h.1, h.2, indices_are less h.3.0 no_indices h.0 (h.0, [], sym (append-nil h.0), h.3.2, no_further less (then_every false h.3.0)), h.4)))
      (refuses_more (AnIndex less) (Word (codes "]")) ls (index_from low false ls) (word_filled (codes "]")) (index_refuses false ls)))
      (λ x rest e. let h = index_sound less low sound false ls in
      let i = h.holds x rest e in
      refuses_behind (SpellsIndex x.1) (MoreIndices less x then Word (codes "]")) (ReadEnd less) ls rest _ i.0
      (λ b front back p q. (
        with_index x.1 q.3.0,
        (λ d. indices_high less x.1 q.3.0 i.2 (q.3.1 d)),
        (front ++ q.0, q.1, ap (λ z. front ++ z) q.2 ∙ sym (append_assoc front q.0 q.1), indices_are less x.1 q.3.0 (front ++ q.0) (front, q.0, refl, p, subst (λ z. Further z q.3.0 q.0) i.1 q.3.2), q.4),
      ))
      (then_filled (MoreIndices less x) (Word (codes "]")) (record { some = λ b. ([], nothing_further less x b) }) (word_filled (codes "]")))
      (others_then another_index (λ last. index_from low last.0) (MoreIndices less) (nothing_further less) index_items (Word (codes "]")) _ (further_lifts less) (word_filled (codes "]")) (λ others end. closed_refuses (codes "]") _ end) x rest))

  read_end_filled : Filled (ReadEnd less)
  unfolding height
  read_end_filled = record {
    some = λ b. let w = word_has (codes "..") b in let v = word_has (codes "]") b in
        (w.0 ++ v.0, (with_index None no_indices, (λ _. omega arith), (w.0, v.0, refl, indices_are less None no_indices w.0 (w.0, [], sym (append-nil w.0), w.1, no_further less true), v.1)));
  }

  -- what only happens where a test holds
  only_where : {A : Type 0} (b : Bool) (reader : List Lexeme → Read A) (ls : List Lexeme) (r : Read A) → only_if b reader ls ≡ Some r → (b ≡ true) × (r ≡ reader ls)
  only_where {A} true reader ls r e = (refl, sym (ap (λ o. or_else o) e))
    where
      or_else : Option (Read A) → Read A
      or_else None = r
      or_else (Some x) = x
  only_where {A} false reader ls r e = absurd cc

  read_refused : (ls : List Lexeme) (m : ExprTree) (from : List Lexeme) (r : Read ExprTree) → IsExpr unaries (suc less) ls m from → another_read (suc less) low m from ≡ Some r → Refuses (Operand less) ls r
  unfolding another_read
  read_refused ls m from r q e =
      let o = only_where (says (codes "[") from && takes_group m) _ from r e in
      let both = and_parts (says (codes "[") from) (takes_group m) o.0 in
      let n = said_next (codes "[") from both.0 in
      subst (λ z. Refuses (Operand less) ls z) (sym o.1)
      (behind_left less unaries (Operand less) (Word (codes "[") then ReadEnd less) ls from m n.0 n.1 (λ all. read_from low m (behind all)) q n.2 (m, (λ _. q.low), q.spelled) (node_of_read less m both.1)
      (token_opens (codes "[") (ReadEnd less) (Word (codes "[") then ReadEnd less) n.0 n.3 (λ b front h. h) (let f = read_end_filled in f.some false))
      (λ lt. then_filled (Word (codes "[")) (ReadEnd less) (word_filled (codes "[")) read_end_filled)
      (λ lt. refuses_behind (Is (a_word (codes "["))) (ReadEnd less) (Word (codes "[") then ReadEnd less) (n.0 ∷ n.1) n.1 _ (takes_token n.0 n.1 (a_word (codes "[")) n.3) (λ b front back p k. (front, back, refl, p, k)) read_end_filled (indices_refuse m n.1)))

  test_enough : nat_lt 1 (suc less) ≡ true → 1 ≤ less
  test_enough e = grind (arith, nat_tests)

  pub unary_refuses : (ls : List Lexeme) → Refuses (AnExpr unaries (suc less)) ls (unary_from (suc less) low ls)
  unfolding unary_from
  unary_refuses ls =
      refuses_step (Operand less) ls (operand_from (nat_lt 1 (suc less)) low ls) _ (operand_refuses less low sound good (nat_lt 1 (suc less)) test_enough ls)
      (λ m rest e. let h = operand_sound less low sound (nat_lt 1 (suc less)) ls in
      grown_refuses (another_read (suc less) low) (IsExpr unaries (suc less) ls) (Operand less) ls (another_read_sound less low sound ls) (λ x z r q k. read_refused ls x z r q k) (length rest) m rest (h.holds m rest e))
