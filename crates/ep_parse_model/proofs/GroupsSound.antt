-- What is taken as names with places, groups, or expressions with commas, is spelled.
use Rattle.std.specs.Prelude.{◌≡◌, ℕ, zero, suc, ◌≤◌, List, [], ◌∷◌, ◌++◌, length, codes, refl}
use Rattle.std.proofs.Common.{ap, append-nil, arith, inl, inr, sym, subst, ◌∙◌}
use Rattle.std.proofs.Math.Nat.{max-le}
use Rattle.ep_base.specs.declared.names.Name.{Name}
use Rattle.ep_base.specs.declared.places.Place.{Place}
use Rattle.ep_parse_parts.specs.OperandReaders.{Lower, expression_next}
use Rattle.ep_parse_parts.specs.Readers.{behind, behind_comma, others_from, says, took, word_from}
use Rattle.ep_parse_parts.proofs.Holding.{Holds, Takes, holds_as, holds_chosen, holds_then, holds_took, holds_wrong, more_sound, says_sound, takes_as, takes_nothing, takes_then, takes_token, word_sound}
use Rattle.ep_parse_parts.proofs.SoundParts.{AreSound, IsDomain, IsExpr, comma_sound, takes_domain, takes_expr}
use Rattle.ep_parse_model.specs.TextReaders.{expressions_from, expressions_within, group_from, groups_from, placed_name_from, placed_name_in, placed_names_from}
use Rattle.ep_tree.specs.Heights.{domain_height}
use Rattle.ep_tree.specs.Phrases.{From, Is, Lexeme, Phrase, PlacedNames, Says, Saying, Silence, a_name, a_number, a_word, ◌followed_by◌, ◌or_else◌}
use Rattle.ep_tree.specs.Spelling.{Spells, SpellsDomain, domains, implications, rank}
use Rattle.ep_tree.specs.StatementSpelling.{SpellsExpressions, SpellsGroup, SpellsGroups}
use Rattle.ep_tree.specs.Statements.{Group, highest_group, highest_of}
use Rattle.ep_tree.specs.Trees.{ExprTree}

-- ---- names with places

-- a name at its place
abbrev pub Placed : Name × Place → Phrase
Placed x = From x.1 (Is (a_name x.0))

placed_in_sound : (l : Lexeme) (s : Saying) (ls : List Lexeme) → l.saying ≡ s → Holds (λ x rest. Takes (Placed x) (l ∷ ls) rest) (placed_name_in l s ls)
unfolding placed_name_in
placed_in_sound l (a_name x) ls e =
    let t = takes_token l ls (a_name x) e in
    holds_took (λ x rest. Takes (Placed x) (l ∷ ls) rest) (x, l.place) ls (record { front = l ∷ []; parts = refl; spelled = (refl, t.spelled) })
placed_in_sound l (a_number n) ls e = holds_wrong (λ x rest. Takes (Placed x) (l ∷ ls) rest) (l ∷ ls)
placed_in_sound l (a_word w) ls e = holds_wrong (λ x rest. Takes (Placed x) (l ∷ ls) rest) (l ∷ ls)

pub placed_sound : (ls : List Lexeme) → Holds (λ x rest. Takes (Placed x) ls rest) (placed_name_from ls)
unfolding placed_name_from
placed_sound [] = holds_wrong (λ x rest. Takes (Placed x) [] rest) []
placed_sound (l ∷ ls) = placed_in_sound l l.saying ls refl

-- names behind another, each behind a comma
unfoldable pub MorePlaced : List (Name × Place) → Phrase
MorePlaced [] = Silence
MorePlaced (x ∷ xs) = Says "," followed_by Placed x followed_by MorePlaced xs

pub placed_made : (x : Name × Place) (xs : List (Name × Place)) (front : List Lexeme) → (Placed x followed_by MorePlaced xs) front → PlacedNames (x ∷ xs) front
unfolding PlacedNames MorePlaced
placed_made x [] front h = subst (Placed x) (sym (h.2 ∙ ap (λ y. h.0 ++ y) h.4 ∙ append-nil h.0)) h.3
placed_made x (y ∷ ys) front h = (h.0, h.1, h.2, h.3, (h.4.0, h.4.1, h.4.2, h.4.3, placed_made y ys h.4.1 h.4.4))

pub placed_names_sound : (ls : List Lexeme) → Holds (λ xs rest. Takes (PlacedNames xs) ls rest) (placed_names_from ls)
unfolding placed_names_from MorePlaced
placed_names_sound ls =
    let Q : List (Name × Place) → List Lexeme → Type 0 = λ xs rest. Takes (PlacedNames xs) ls rest in
    holds_then (λ x rest. Takes (Placed x) ls rest) Q (placed_name_from ls) _ (placed_sound ls)
    (λ x rest t.
    holds_then (λ xs end. Takes (MorePlaced xs) rest end) Q (others_from behind_comma (λ last. placed_name_from) x rest) _
    (more_sound behind_comma (λ last. placed_name_from) (λ last from xs end. Takes (MorePlaced xs) from end) (λ last from. takes_nothing from)
    (λ last from next e. holds_as (λ y r. Takes (Placed y) next r) _ (placed_name_from next) (placed_sound next)
    (λ y r s ys end m. takes_then (Says ",") (Placed y followed_by MorePlaced ys) from next end (comma_sound last from next e) (takes_then (Placed y) (MorePlaced ys) next r end s m)))
    (length rest) x rest)
    (λ xs end m. holds_took Q (x ∷ xs) end (takes_as (Placed x followed_by MorePlaced xs) (PlacedNames (x ∷ xs)) ls end (placed_made x xs) (takes_then (Placed x) (MorePlaced xs) ls rest end t m))))

-- ---- groups

-- groups behind another, each behind a comma
unfoldable pub MoreGroups : List Group → Phrase
MoreGroups [] = Silence
MoreGroups (g ∷ gs) = Says "," followed_by SpellsGroup g followed_by MoreGroups gs

pub groups_made : (g : Group) (gs : List Group) (front : List Lexeme) → (SpellsGroup g followed_by MoreGroups gs) front → SpellsGroups (g ∷ gs) front
unfolding SpellsGroups MoreGroups
groups_made g [] front h = subst (SpellsGroup g) (sym (h.2 ∙ ap (λ y. h.0 ++ y) h.4 ∙ append-nil h.0)) h.3
groups_made g (y ∷ ys) front h = (h.0, h.1, h.2, h.3, (h.4.0, h.4.1, h.4.2, h.4.3, groups_made y ys h.4.1 h.4.4))

-- an expression, a comma, and further expressions
pub exprs_made : (e : ExprTree) (es : List ExprTree) (front : List Lexeme) → (Spells implications e followed_by Says "," followed_by SpellsExpressions es) front → SpellsExpressions (e ∷ es) front
unfolding SpellsExpressions
exprs_made e [] front h =
    let last : h.1 ≡ h.4.0 = h.4.2 ∙ ap (λ y. h.4.0 ++ y) h.4.4 ∙ append-nil h.4.0 in
    (h.0, h.1, h.2, h.3, inr (subst (Says ",") (sym last) h.4.3))
exprs_made e (y ∷ ys) front h = h

module _ (less : ℕ) (low : Lower) (good : AreSound less low) where
  -- a group that isn't higher than so much
  abbrev pub IsGroup : List Lexeme → Group → List Lexeme → Type 0
  IsGroup ls g rest = Takes (SpellsGroup g) ls rest × (domain_height g.domain ≤ less)

  pub group_sound : (ls : List Lexeme) → Holds (IsGroup ls) (group_from low ls)
  unfolding group_from
  group_sound ls =
      holds_then (λ xs rest. Takes (PlacedNames xs) ls rest) (IsGroup ls) (placed_names_from ls) _ (placed_names_sound ls)
      (λ xs rest t. holds_then (λ p next. Takes (Says ":") rest next) (IsGroup ls) (word_from (codes ":") rest) _ (word_sound (codes ":") rest)
      (λ p next u. holds_then (IsDomain domains less next) (IsGroup ls) (low.domain domains next) _ (good.domain domains next)
      (λ d end h. holds_took (IsGroup ls) (record { names = xs; domain = d }) end (
        takes_then (PlacedNames xs) (Says ":" followed_by SpellsDomain domains d) ls rest end t
            (takes_then (Says ":") (SpellsDomain domains d) rest next end u (takes_domain domains less next d end h)),
        h.low,
      ))))

  AreMoreGroups : List Lexeme → List Group → List Lexeme → Type 0
  AreMoreGroups from gs end = Takes (MoreGroups gs) from end × (highest_group gs ≤ less)

  more_groups_sound : (g : Group) (ls : List Lexeme) → Holds (AreMoreGroups ls) (others_from behind_comma (λ last. group_from low) g ls)
  unfolding AreMoreGroups MoreGroups highest_group
  more_groups_sound g ls =
      more_sound behind_comma (λ last. group_from low) (λ last. AreMoreGroups) (λ last from. (takes_nothing from, omega arith))
      (λ last from next c. holds_as (IsGroup next) _ (group_from low next) (group_sound next)
      (λ x mid h xs end m. (
        takes_then (Says ",") (SpellsGroup x followed_by MoreGroups xs) from next end (comma_sound last from next c) (takes_then (SpellsGroup x) (MoreGroups xs) next mid end h.0 m.0),
        max-le h.1 m.1,
      )))
      (length ls) g ls

  pub groups_sound : (ls : List Lexeme) → Holds (λ gs rest. Takes (SpellsGroups gs) ls rest × (highest_group gs ≤ less)) (groups_from low ls)
  unfolding groups_from AreMoreGroups highest_group
  groups_sound ls =
      let Q : List Group → List Lexeme → Type 0 = λ gs rest. Takes (SpellsGroups gs) ls rest × (highest_group gs ≤ less) in
      holds_then (IsGroup ls) Q (group_from low ls) _ (group_sound ls)
      (λ g rest h. holds_then (AreMoreGroups rest) Q (others_from behind_comma (λ last. group_from low) g rest) _ (more_groups_sound g rest)
      (λ gs end m. holds_took Q (g ∷ gs) end (
        takes_as (SpellsGroup g followed_by MoreGroups gs) (SpellsGroups (g ∷ gs)) ls end (groups_made g gs) (takes_then (SpellsGroup g) (MoreGroups gs) ls rest end h.0 m.0),
        max-le h.1 m.1,
      )))

  -- ---- expressions

  pub whole : (ls : List Lexeme) → Holds (IsExpr implications less ls) (low.expr implications ls)
  unfolding rank
  whole ls = good.expr implications refl ls

  -- some expressions, none of them higher than so much
  abbrev AreExprs : List Lexeme → List ExprTree → List Lexeme → Type 0
  AreExprs ls es rest = Takes (SpellsExpressions es) ls rest × (highest_of es ≤ less)

  no_exprs : (ls : List Lexeme) → Holds (AreExprs ls) (took [] ls)
  unfolding SpellsExpressions highest_of
  no_exprs ls = holds_took (AreExprs ls) [] ls (takes_nothing ls, omega arith)

  expressions_within_sound : (most : ℕ) (ls : List Lexeme) → Holds (AreExprs ls) (expressions_within low most ls)
  unfolding expressions_within SpellsExpressions highest_of
  expressions_within_sound zero ls = no_exprs ls
  expressions_within_sound (suc more) ls =
      let Q : List ExprTree → List Lexeme → Type 0 = AreExprs ls in
      holds_chosen Q (expression_next ls) _ _ ls
      (λ _. holds_then (IsExpr implications less ls) Q (low.expr implications ls) _ (whole ls)
      (λ e rest h. holds_chosen Q (says (codes ",") rest) _ _ rest
      (λ c. holds_then (AreExprs (behind rest)) Q (expressions_within low more (behind rest)) _ (expressions_within_sound more (behind rest))
      (λ es end k. holds_took Q (e ∷ es) end (
        takes_as (Spells implications e followed_by Says "," followed_by SpellsExpressions es) (SpellsExpressions (e ∷ es)) ls end (exprs_made e es)
            (takes_then (Spells implications e) (Says "," followed_by SpellsExpressions es) ls rest end (takes_expr implications less ls e rest h)
            (takes_then (Says ",") (SpellsExpressions es) rest (behind rest) end (says_sound (codes ",") rest c) k.0)),
        max-le h.low k.1,
      )))
      (λ _. holds_took Q (e ∷ []) rest (
        takes_then (Spells implications e) (Silence or_else Says ",") ls rest rest (takes_expr implications less ls e rest h) (takes_as Silence (Silence or_else Says ",") rest rest (λ front x. inl x) (takes_nothing rest)),
        max-le h.low (omega arith),
      ))))
      (λ _. no_exprs ls)

  pub expressions_sound : (ls : List Lexeme) → Holds (AreExprs ls) (expressions_from low ls)
  expressions_sound ls = expressions_within_sound (length ls) ls
