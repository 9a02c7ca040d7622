-- Expressions with commas before them are read again.
use Rattle.std.specs.Prelude.{◌≡◌, ℕ, zero, suc, ◌≤◌, false, List, [], ◌∷◌, ◌++◌, length, codes, refl}
use Rattle.std.proofs.Common.{ap, arith, sym, subst, ◌∙◌, length-append, append_assoc}
use Rattle.std.proofs.Math.Nat.{le-max_left, le-max_right}
use Rattle.ep_base.specs.declared.places.Place.{Place}
use Rattle.ep_tree.specs.Heights.{height, highest}
use Rattle.ep_tree.specs.Phrases.{Lexeme, a_word, ◌followed_by◌}
use Rattle.ep_tree.specs.Spelling.{Spells, SpellsMore, SpellsNode, implications, rank}
use Rattle.ep_tree.specs.Trees.{ExprTree, ExprTrees, no_trees, tree_and}
use Rattle.ep_parse_parts.specs.OperandReaders.{Lower}
use Rattle.ep_parse_parts.specs.Readers.{Reader, behind_comma, looked_up, more_from, next_in, says, took, ◌and_then◌}
use Rattle.ep_parse_parts.proofs.Again.{AreComplete, NoImplications, behind_word_cut, lexeme}
use Rattle.ep_parse_parts.proofs.AgainParts.{listed}

-- a comma, behind which a list goes on
abbrev comma : Place → Lexeme
comma p = lexeme p (a_word (codes ","))

pub comma_ends : (p : Place) (ls : List Lexeme) → NoImplications (comma p ∷ ls)
unfolding next_in looked_up says
comma_ends p ls =
    record { tighter = record { tighter = record { tighter = record { tighter = record { tighter = record { tighter = record { tighter = record { bracket = refl }; none = refl }; none = refl }; none = refl }; none = refl; no_set = refl; no_group = refl }; none = refl }; none = refl }; none = refl }

module _ (less : ℕ) (low : Lower) (good : AreComplete less low) where
  -- what stands behind a list: no comma, and nothing by which its last expression would go on
  pub record BehindList (tail : List Lexeme) : Type 0 where
    pub ends : NoImplications tail
    pub no_comma : says (codes ",") tail ≡ false

  abbrev item : ExprTree → Reader ExprTree
  item last = low.expr implications

  ends_here : (last : ExprTree) (n : ℕ) (tail : List Lexeme) → says (codes ",") tail ≡ false → more_from behind_comma item n last tail ≡ took [] tail
  unfolding more_from
  ends_here last zero tail none = refl
  ends_here last (suc n) tail none = rw none refl

  goes_further : (n : ℕ) (last e : ExprTree) (es : List ExprTree) (p : Place) (next mid tail : List Lexeme) → low.expr implications next ≡ took e mid
      → more_from behind_comma item n e mid ≡ took es tail → more_from behind_comma item (suc n) last (comma p ∷ next) ≡ took (e ∷ es) tail
  unfolding more_from says
  goes_further n last e es p next mid tail first others =
      ap (λ r. r and_then λ x rest. more_from behind_comma item n x rest and_then λ xs end. took (x ∷ xs) end) first
      ∙ ap (λ r. r and_then λ xs end. took (e ∷ xs) end) others

  ends_before : (es : ExprTrees) (front tail : List Lexeme) → SpellsMore es front → NoImplications tail → NoImplications (front ++ tail)
  unfolding SpellsNode
  ends_before no_trees front tail h b = subst (λ f. NoImplications (f ++ tail)) (sym h) b
  ends_before (tree_and e es) front tail h b =
      let c = behind_word_cut (codes ",") (Spells implications e followed_by SpellsMore es) front h in
      subst (λ x. NoImplications (x ++ tail)) (sym c.parts) (comma_ends c.place (c.rest ++ tail))

  pub more_again : (es : ExprTrees) (n : ℕ) (last : ExprTree) (front tail : List Lexeme) → length front ≤ n → SpellsMore es front → highest es ≤ less → BehindList tail
      → more_from behind_comma item n last (front ++ tail) ≡ took (listed es) tail
  unfolding SpellsNode height rank
  more_again no_trees n last front tail room h small b = subst (λ f. more_from behind_comma item n last (f ++ tail) ≡ took [] tail) (sym h) (ends_here last n tail b.no_comma)
  more_again (tree_and e es) zero last front tail room h small b =
      let c = behind_word_cut (codes ",") (Spells implications e followed_by SpellsMore es) front h in
      let long : length front ≡ suc (length c.rest) = ap length c.parts in
      absurd (omega (arith, room, long))
  more_again (tree_and e es) (suc n) last front tail room h small b =
      let c = behind_word_cut (codes ",") (Spells implications e followed_by SpellsMore es) front h in
      let f = c.spelled.0 in
      let g = c.spelled.1 in
      let long : length front ≡ suc (length c.rest) = ap length c.parts in
      let cut : length c.rest ≡ length (f ++ g) = ap length c.spelled.2 in
      let regrouped : front ++ tail ≡ comma c.place ∷ (f ++ (g ++ tail)) = ap (λ x. x ++ tail) c.parts ∙ ap (λ x. comma c.place ∷ x) (ap (λ x. x ++ tail) c.spelled.2 ∙ append_assoc f g tail) in
      let low_e : height e ≤ less = omega (arith, small, le-max_left (height e) (highest es)) in
      let low_es : highest es ≤ less = omega (arith, small, le-max_right (height e) (highest es)) in
      let after : NoImplications (g ++ tail) = ends_before es g tail c.spelled.4 b.ends in
      ap (more_from behind_comma item (suc n) last) regrouped
      ∙ goes_further n last e (listed es) c.place (f ++ (g ++ tail)) (g ++ tail) tail
      (good.expr implications refl e f (g ++ tail) c.spelled.3 low_e (record { ends = after; open_ends = λ _. after }))
      (more_again es n e g tail (omega (arith, room, long, cut, length-append f g)) c.spelled.4 low_es b)
