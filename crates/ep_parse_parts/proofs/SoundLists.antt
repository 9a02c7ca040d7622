-- What is taken as a list, a comprehension, a function with its parts, or a quantifier, is spelled.
use Rattle.std.specs.Prelude.{◌≡◌, ℕ, suc, ◌+◌, ◌≤◌, Bool, true, ◌&&◌, List, ◌∷◌, length, Some, codes, refl}
use Rattle.std.proofs.Common.{arith, sym, subst}
use Rattle.std.proofs.Math.Nat.{max-le}
use Rattle.std.proofs.lemmas.Bool.{and_parts}
use Rattle.ep_base.specs.declared.places.Place.{Place}
use Rattle.ep_tree.specs.Heights.{domain_height, height, highest, highest_generator, index_height}
use Rattle.ep_tree.specs.Phrases.{Lexeme, Names, Says, ◌followed_by◌}
use Rattle.ep_tree.specs.Spelling.{Spells, SpellsDomain, SpellsGenerators, SpellsIndexDomain, SpellsMore, SpellsMoreGenerators, SpellsNode, implications, rank, set_operations}
use Rattle.ep_tree.specs.Trees.{ExprTree, ExprTrees, Generators, IndexDomain, comprehension, literal, over, tree_and, truth, unstated}
use Rattle.ep_parse_parts.specs.OperandReaders.{Generator, Lower, another_generator, as_generators, as_trees, closed_by, colon_comes, comprehension_from, conditions_from, generator_from, index_domain_from, list_end, literal_from}
use Rattle.ep_parse_parts.specs.Readers.{behind, behind_comma, names_from, others_from, says, took, word_from}
use Rattle.ep_parse_parts.proofs.Holding.{Holds, Takes, holds_as, holds_chosen, holds_low, holds_then, behind_three, holds_took, more_sound, says_sound, takes_nothing, takes_then, word_sound}
use Rattle.ep_parse_parts.proofs.SoundParts.{AreSound, IsDomain, IsExpr, closed_sound, comma_sound, kept-sound, names_sound, takes_domain, takes_expr}

module _ (less : ℕ) (low : Lower) (good : AreSound less low) where
  pub whole : (ls : List Lexeme) → Holds (IsExpr implications less ls) (low.expr implications ls)
  unfolding rank
  whole ls = good.expr implications refl ls

  -- ---- the ends of lists

  index_domain_sound : (b : Bool) (ls : List Lexeme) → Holds (λ d rest. Takes (SpellsIndexDomain d) ls rest × (index_height d ≤ less)) (index_domain_from b low ls)
  unfolding index_domain_from SpellsNode height
  index_domain_sound b ls =
      let Q : IndexDomain → List Lexeme → Type 0 = λ d rest. Takes (SpellsIndexDomain d) ls rest × (index_height d ≤ less) in
      holds_chosen Q (says (codes ";") ls) _ _ ls
      (λ e. holds_low Q b _ ls
      (λ _. holds_then (IsDomain set_operations less (behind ls)) Q (low.domain set_operations (behind ls)) (λ d rest. took (over d) rest) (good.domain set_operations (behind ls))
      (λ d rest h. holds_took Q (over d) rest
      (takes_then (Says ";") (SpellsDomain set_operations d) ls (behind ls) rest (says_sound (codes ";") ls e) (takes_domain set_operations less (behind ls) d rest h), h.low))))
      (λ e. holds_took Q unstated ls (takes_nothing ls, omega arith))

  pub list_end_sound : (Q : ExprTree → List Lexeme → Type 0) (b : Bool) (make : IndexDomain → ExprTree) (ls : List Lexeme)
      → ((d : IndexDomain) (rest : List Lexeme) → index_height d ≤ less → Takes (SpellsIndexDomain d followed_by Says "]") ls rest → Q (make d) rest)
      → Holds Q (list_end b low make ls)
  list_end_sound Q b make ls k =
      holds_then (λ d rest. Takes (SpellsIndexDomain d) ls rest × (index_height d ≤ less)) Q (index_domain_from b low ls) (λ d rest. closed_by (codes "]") (make d) rest) (index_domain_sound b ls)
      (λ d mid h. closed_sound Q (codes "]") (make d) mid (λ rest t. k d rest h.1 (takes_then (SpellsIndexDomain d) (Says "]") ls mid rest h.0 t)))

  -- ---- expressions with commas before them

  pub more_exprs_sound : (e : ExprTree) (ls : List Lexeme) → Holds (λ es end. Takes (SpellsMore (as_trees es)) ls end × (highest (as_trees es) ≤ less)) (others_from behind_comma (λ last. low.expr implications) e ls)
  unfolding SpellsNode as_trees height
  more_exprs_sound e ls =
      more_sound behind_comma (λ last. low.expr implications) (λ last from es end. Takes (SpellsMore (as_trees es)) from end × (highest (as_trees es) ≤ less))
      (λ last from. (takes_nothing from, omega arith))
      (λ last from next c. holds_as (IsExpr implications less next) _ (low.expr implications next) (whole next)
      (λ x r h xs end m. (
        takes_then (Says ",") (Spells implications x followed_by SpellsMore (as_trees xs)) from next end (comma_sound last from next c)
            (takes_then (Spells implications x) (SpellsMore (as_trees xs)) next r end (takes_expr implications less next x r h) m.0),
        max-le h.low m.1,
      )))
      (length ls) e ls

  -- ---- generators

  gen_sound : (ls : List Lexeme) → Holds (λ g rest. Takes (Names g.0 followed_by Says ":" followed_by SpellsDomain set_operations g.1) ls rest × (domain_height g.1 ≤ less)) (generator_from low ls)
  unfolding generator_from
  gen_sound ls =
      let Q : Generator → List Lexeme → Type 0 = λ g rest. Takes (Names g.0 followed_by Says ":" followed_by SpellsDomain set_operations g.1) ls rest × (domain_height g.1 ≤ less) in
      holds_then (λ xs rest. Takes (Names xs) ls rest) Q (names_from ls) _ (names_sound ls)
      (λ xs rest t. holds_then (λ p next. Takes (Says ":") rest next) Q (word_from (codes ":") rest) _ (word_sound (codes ":") rest)
      (λ p next u. holds_then (IsDomain set_operations less next) Q (low.domain set_operations next) _ (good.domain set_operations next)
      (λ d end h. holds_took Q (xs, d) end (
        takes_then (Names xs) (Says ":" followed_by SpellsDomain set_operations d) ls rest end t
            (takes_then (Says ":") (SpellsDomain set_operations d) rest next end u (takes_domain set_operations less next d end h)),
        h.low,
      ))))

  another_sound : (last : Generator) (ls next : List Lexeme) → another_generator last ls ≡ Some next → Takes (Says ",") ls next
  unfolding another_generator
  another_sound last ls next e =
      let k = kept-sound (says (codes ",") ls && colon_comes true (behind ls)) (behind ls) next e in
      subst (λ x. Takes (Says ",") ls x) (sym k.1) (says_sound (codes ",") ls (and_parts (says (codes ",") ls) (colon_comes true (behind ls)) k.0).0)

  more_gens_sound : (g : Generator) (ls : List Lexeme) → Holds (λ gens end. Takes (SpellsMoreGenerators (as_generators gens)) ls end × (highest_generator (as_generators gens) ≤ less)) (others_from another_generator (λ last. generator_from low) g ls)
  unfolding SpellsNode as_generators height
  more_gens_sound g ls =
      more_sound another_generator (λ last. generator_from low) (λ last from gens end. Takes (SpellsMoreGenerators (as_generators gens)) from end × (highest_generator (as_generators gens) ≤ less))
      (λ last from. (takes_nothing from, omega arith))
      (λ last from next c. holds_as (λ x rest. Takes (Names x.0 followed_by Says ":" followed_by SpellsDomain set_operations x.1) next rest × (domain_height x.1 ≤ less)) _ (generator_from low next) (gen_sound next)
      (λ x r h xs end m. (
        takes_then (Says ",") (Names x.0 followed_by Says ":" followed_by SpellsDomain set_operations x.1 followed_by SpellsMoreGenerators (as_generators xs)) from next end (another_sound last from next c)
            (behind_three (Names x.0) (Says ":") (SpellsDomain set_operations x.1) (SpellsMoreGenerators (as_generators xs)) next r end h.0 m.0),
        max-le h.1 m.1,
      )))
      (length ls) g ls

  conditions_sound : (ls : List Lexeme) → Holds (λ es end. Takes (SpellsMore (as_trees es)) ls end × (highest (as_trees es) ≤ less)) (conditions_from low ls)
  unfolding conditions_from
  conditions_sound ls = more_exprs_sound (truth (record { line = 0; column = 0 }) true) ls

  up : (n : ℕ) → n ≤ less → 1 + n ≤ suc less
  up n h = omega (arith, h)

  -- ---- what stands behind a bracket

  pub comprehension_sound : (Q : ExprTree → List Lexeme → Type 0) (b : Bool) (p : Place) (e : ExprTree) (ls : List Lexeme)
      → ((gens : Generators) (conditions : ExprTrees) (d : IndexDomain) (rest : List Lexeme) → highest_generator gens ≤ less → highest conditions ≤ less → index_height d ≤ less
      → Takes (SpellsGenerators gens followed_by SpellsMore conditions followed_by SpellsIndexDomain d followed_by Says "]") ls rest → Q (comprehension p e gens conditions d) rest)
      → Holds Q (comprehension_from b low p e ls)
  unfolding comprehension_from SpellsNode as_generators height
  comprehension_sound Q b p e ls k =
      holds_then (λ x rest. Takes (Names x.0 followed_by Says ":" followed_by SpellsDomain set_operations x.1) ls rest × (domain_height x.1 ≤ less)) Q (generator_from low ls) _ (gen_sound ls)
      (λ g rest t. holds_then (λ gens next. Takes (SpellsMoreGenerators (as_generators gens)) rest next × (highest_generator (as_generators gens) ≤ less)) Q (others_from another_generator (λ last. generator_from low) g rest) _ (more_gens_sound g rest)
      (λ gens next u. holds_then (λ es end. Takes (SpellsMore (as_trees es)) next end × (highest (as_trees es) ≤ less)) Q (conditions_from low next) _ (conditions_sound next)
      (λ conditions end v. list_end_sound Q b (comprehension p e (as_generators (g ∷ gens)) (as_trees conditions)) end
      (λ d after h w. k (as_generators (g ∷ gens)) (as_trees conditions) d after (max-le t.1 u.1) v.1 h
      (takes_then (SpellsGenerators (as_generators (g ∷ gens))) (SpellsMore (as_trees conditions) followed_by SpellsIndexDomain d followed_by Says "]") ls next after
      (behind_three (Names g.0) (Says ":") (SpellsDomain set_operations g.1) (SpellsMoreGenerators (as_generators gens)) ls rest next t.0 u.0)
      (takes_then (SpellsMore (as_trees conditions)) (SpellsIndexDomain d followed_by Says "]") next end after v.0 w))))))

  pub literal_sound : (Q : ExprTree → List Lexeme → Type 0) (b : Bool) (p : Place) (e : ExprTree) (ls : List Lexeme)
      → ((es : ExprTrees) (d : IndexDomain) (rest : List Lexeme) → highest es ≤ less → index_height d ≤ less
      → Takes (SpellsMore es followed_by SpellsIndexDomain d followed_by Says "]") ls rest → Q (literal p (tree_and e es) d) rest)
      → Holds Q (literal_from b low p e ls)
  unfolding literal_from as_trees
  literal_sound Q b p e ls k =
      holds_then (λ es end. Takes (SpellsMore (as_trees es)) ls end × (highest (as_trees es) ≤ less)) Q (others_from behind_comma (λ last. low.expr implications) e ls) _ (more_exprs_sound e ls)
      (λ es mid t. list_end_sound Q b (literal p (as_trees (e ∷ es))) mid
      (λ d after h w. k (as_trees es) d after t.1 h (takes_then (SpellsMore (as_trees es)) (SpellsIndexDomain d followed_by Says "]") ls mid after t.0 w)))
