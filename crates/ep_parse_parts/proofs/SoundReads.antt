-- What is taken as a read, or as an operand that reads follow, is spelled.
use Rattle.std.specs.Prelude.{◌≡◌, ℕ, suc, ◌≤◌, max, Bool, true, false, not, ◌&&◌, nat_le, nat_lt, List, length, Option, Some, None, codes, refl}
use Rattle.std.proofs.Common.{arith, sym, subst, inl, inr}
use Rattle.std.proofs.Math.Nat.{max-le}
use Rattle.std.proofs.lemmas.Bool.{and_parts}
use Rattle.std.proofs.lemmas.Bool.Decides.{nat_tests}
use Rattle.ep_tree.specs.Heights.{height, highest_index}
use Rattle.ep_tree.specs.Phrases.{Lexeme, Phrase, Says, ◌followed_by◌}
use Rattle.ep_tree.specs.Spelling.{BetweenIndices, Spells, SpellsIndices, SpellsLastIndices, SpellsMoreIndices, SpellsNode, implications, own_level, rank, reads, takes_own_group, unaries}
use Rattle.ep_tree.specs.Trees.{ExprTree, Indices, no_indices, place_of, read}
use Rattle.ep_parse_parts.specs.OperandReaders.{Lower, operand_from}
use Rattle.ep_parse_parts.specs.OperatorReaders.{ReadIndex, another_index, another_read, as_indices, index_from, read_from, takes_group, unary_from, with_index}
use Rattle.ep_parse_parts.specs.Readers.{behind, kept, kept_or, others_from, says}
use Rattle.ep_parse_parts.proofs.Holding.{Holds, HoldsIf, Takes, grown_sound, holds_as, holds_chosen, holds_low, holds_then, holds_took, more_sound, only_if_sound, says_sound, takes_as, takes_nothing, takes_then}
use Rattle.ep_parse_parts.proofs.SoundLists.{whole}
use Rattle.ep_parse_parts.proofs.SoundOpened.{operand_sound}
use Rattle.ep_parse_parts.proofs.SoundParts.{AreSound, IsExpr, begun_by, closed_sound, kept-sound, takes_expr}

-- an index
abbrev pub SpellsIndex : Option ExprTree → Phrase
SpellsIndex None = Says ".."
SpellsIndex (Some e) = Spells implications e

-- further indices, where a `..` has come or not
abbrev pub Further : Bool → Indices → Phrase
Further true = SpellsLastIndices
Further false = SpellsMoreIndices

-- what stands before a further index
abbrev pub Before : Bool → Phrase
Before true = Says ","
Before false = BetweenIndices

-- whether a `..` has come with an index
abbrev pub then_every : Bool → Option ExprTree → Bool
then_every every None = true
then_every every (Some e) = every

further_made : (every : Bool) (x : Option ExprTree) (xs : Indices) (from next mid end : List Lexeme) → Takes (Before every) from next → Takes (SpellsIndex x) next mid
    → Takes (Further (then_every every x) xs) mid end → Takes (Further every (with_index x xs)) from end
unfolding SpellsNode
further_made true None xs from next mid end b i f =
    takes_then (Says ",") (Says ".." followed_by SpellsLastIndices xs) from next end b (takes_then (Says "..") (SpellsLastIndices xs) next mid end i f)
further_made true (Some e) xs from next mid end b i f =
    takes_then (Says ",") (Spells implications e followed_by SpellsLastIndices xs) from next end b (takes_then (Spells implications e) (SpellsLastIndices xs) next mid end i f)
further_made false None xs from next mid end b i f =
    takes_then BetweenIndices (Says ".." followed_by SpellsLastIndices xs) from next end b (takes_then (Says "..") (SpellsLastIndices xs) next mid end i f)
further_made false (Some e) xs from next mid end b i f =
    takes_then BetweenIndices (Spells implications e followed_by SpellsMoreIndices xs) from next end b (takes_then (Spells implications e) (SpellsMoreIndices xs) next mid end i f)

none_further : (every : Bool) (from : List Lexeme) → Takes (Further every no_indices) from from
unfolding SpellsNode
none_further true from = takes_nothing from
none_further false from = takes_nothing from

indices_made : (x : Option ExprTree) (xs : Indices) (from mid end : List Lexeme) → Takes (SpellsIndex x) from mid → Takes (Further (then_every false x) xs) mid end
    → Takes (SpellsIndices (with_index x xs)) from end
unfolding SpellsNode
indices_made None xs from mid end i f = takes_then (Says "..") (SpellsLastIndices xs) from mid end i f
indices_made (Some e) xs from mid end i f = takes_then (Spells implications e) (SpellsMoreIndices xs) from mid end i f

-- the height of an index
abbrev pub index_high : Option ExprTree → ℕ
index_high None = 0
index_high (Some e) = height e

pub indices_high : (less : ℕ) (x : Option ExprTree) (xs : Indices) → index_high x ≤ less → highest_index xs ≤ less → highest_index (with_index x xs) ≤ less
unfolding height
indices_high less None xs h k = k
indices_high less (Some e) xs h k = max-le h k

before_sound : (every comma : Bool) (ls next : List Lexeme) → says (codes ",") ls ≡ comma
    → kept_or comma (behind ls) (kept (not every && (says (codes "]") ls && says (codes "[") (behind ls))) (behind (behind ls))) ≡ Some next → Takes (Before every) ls next
before_sound true true ls next c e =
    let k = kept-sound true (behind ls) next e in
    subst (λ x. Takes (Says ",") ls x) (sym k.1) (says_sound (codes ",") ls c)
before_sound false true ls next c e =
    let k = kept-sound true (behind ls) next e in
    takes_as (Says ",") BetweenIndices ls next (λ front x. inl x) (subst (λ x. Takes (Says ",") ls x) (sym k.1) (says_sound (codes ",") ls c))
before_sound true false ls next c e = absurd cc
before_sound false false ls next c e =
    let k = kept-sound (says (codes "]") ls && says (codes "[") (behind ls)) (behind (behind ls)) next e in
    let both = and_parts (says (codes "]") ls) (says (codes "[") (behind ls)) k.0 in
    takes_as (Says "]" followed_by Says "[") BetweenIndices ls next (λ front x. inr x)
    (takes_then (Says "]") (Says "[") ls (behind ls) next (says_sound (codes "]") ls both.0)
    (subst (λ x. Takes (Says "[") (behind ls) x) (sym k.1) (says_sound (codes "[") (behind ls) both.1)))

pub another_sound : (last : ReadIndex) (ls next : List Lexeme) → another_index last ls ≡ Some next → Takes (Before last.0) ls next
unfolding another_index
another_sound last ls next e = before_sound last.0 (says (codes ",") ls) ls next refl e

below : (m n : ℕ) → nat_lt m (suc n) ≡ true → m ≤ n
below m n e = grind (arith, nat_tests)

module _ (less : ℕ) (low : Lower) (good : AreSound less low) where
  -- an index, and whether a `..` has come
  abbrev pub IsIndex : Bool → List Lexeme → ReadIndex → List Lexeme → Type 0
  IsIndex every ls x rest = Takes (SpellsIndex x.1) ls rest × (x.0 ≡ then_every every x.1) × (index_high x.1 ≤ less)

  pub index_sound : (every : Bool) (ls : List Lexeme) → Holds (IsIndex every ls) (index_from low every ls)
  unfolding index_from
  index_sound every ls =
      holds_chosen (IsIndex every ls) (says (codes "..") ls) _ _ ls
      (λ e. holds_took (IsIndex every ls) (true, None) (behind ls) (says_sound (codes "..") ls e, refl, omega arith))
      (λ _. holds_then (IsExpr implications less ls) (IsIndex every ls) (low.expr implications ls) _ (whole less low good ls)
      (λ e rest h. holds_took (IsIndex every ls) (every, Some e) rest (takes_expr implications less ls e rest h, refl, h.low)))

  AreFurther : ReadIndex → List Lexeme → List ReadIndex → List Lexeme → Type 0
  AreFurther last from xs end = Takes (Further last.0 (as_indices xs)) from end × (highest_index (as_indices xs) ≤ less)

  others_sound : (first : ReadIndex) (ls : List Lexeme) → Holds (AreFurther first ls) (others_from another_index (λ last. index_from low last.0) first ls)
  unfolding as_indices AreFurther height
  others_sound first ls =
      more_sound another_index (λ last. index_from low last.0) AreFurther (λ last from. (none_further last.0 from, omega arith))
      (λ last from next c. holds_as (IsIndex last.0 next) _ (index_from low last.0 next) (index_sound last.0 next)
      (λ x r h xs end m.
      (further_made last.0 x.1 (as_indices xs) from next r end (another_sound last from next c) h.0 (subst (λ b. Takes (Further b (as_indices xs)) r end) h.1 m.0), indices_high less x.1 (as_indices xs) h.2 m.1)))
      (length ls) first ls

  read_sound : (ls : List Lexeme) (m : ExprTree) (from : List Lexeme) → IsExpr unaries (suc less) ls m from → height m ≤ less → takes_group m ≡ true → says (codes "[") from ≡ true
      → Holds (IsExpr unaries (suc less) ls) (read_from low m (behind from))
  unfolding read_from SpellsNode own_level rank place_of height as_indices takes_group AreFurther
  read_sound ls m from q small group bracket =
      let Q : ExprTree → List Lexeme → Type 0 = IsExpr unaries (suc less) ls in
      let both = and_parts (nat_le (rank reads) (rank (own_level m))) (takes_own_group m) group in
      let as_read : IsExpr reads (suc less) ls m from = record { front = q.front; parts = q.parts; spelled = (both.0, q.spelled.1); low = q.low } in
      holds_then (IsIndex false (behind from)) Q (index_from low false (behind from)) _ (index_sound false (behind from))
      (λ first rest i. holds_then (AreFurther first rest) Q (others_from another_index (λ last. index_from low last.0) first rest) _ (others_sound first rest)
      (λ others end o.
      let indices = with_index first.1 (as_indices others) in
      closed_sound Q (codes "]") (read (place_of m) m indices) end
      (λ after c. begun_by unaries reads (suc less) (suc less) ls from after m (read (place_of m) m indices) (Says "[" followed_by SpellsIndices indices followed_by Says "]") refl as_read
      (takes_then (Says "[") (SpellsIndices indices followed_by Says "]") from (behind from) after (says_sound (codes "[") from bracket)
      (takes_then (SpellsIndices indices) (Says "]") (behind from) end after
      (indices_made first.1 (as_indices others) (behind from) rest end i.0 (subst (λ b. Takes (Further b (as_indices others)) rest end) i.1 o.0)) c))
      (λ front k. (k.0, k.1, k.2, (both.1, k.3), k.4)) refl
      (let high : max (height m) (highest_index indices) ≤ less = max-le small (indices_high less first.1 (as_indices others) i.2 o.1) in omega (arith, high)))))

  pub another_read_sound : (ls : List Lexeme) (m : ExprTree) (from : List Lexeme) → IsExpr unaries (suc less) ls m from
      → HoldsIf (IsExpr unaries (suc less) ls) (another_read (suc less) low m from)
  unfolding another_read
  another_read_sound ls m from q =
      only_if_sound (IsExpr unaries (suc less) ls) (says (codes "[") from && takes_group m) _ from
      (λ e.
      let both = and_parts (says (codes "[") from) (takes_group m) e in
      holds_low (IsExpr unaries (suc less) ls) (nat_lt (height m) (suc less)) _ from
      (λ lt. read_sound ls m from q (below (height m) less lt) both.1 both.0))

  pub unary_sound : (ls : List Lexeme) → Holds (IsExpr unaries (suc less) ls) (unary_from (suc less) low ls)
  unfolding unary_from
  unary_sound ls =
      holds_then (IsExpr unaries (suc less) ls) (IsExpr unaries (suc less) ls) (operand_from (nat_lt 1 (suc less)) low ls) _ (operand_sound less low good (nat_lt 1 (suc less)) ls)
      (λ e rest h. grown_sound (another_read (suc less) low) (IsExpr unaries (suc less) ls) (another_read_sound ls) (length rest) e rest h)
