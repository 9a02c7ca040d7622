-- Lists and comprehensions are read again.
use Rattle.std.specs.Prelude.{◌≡◌, ℕ, zero, suc, ◌≤◌, Bool, true, false, ◌&&◌, List, [], ◌∷◌, ◌++◌, length, codes, refl}
use Rattle.std.proofs.Common.{ap, arith, sym, subst, ◌∙◌, length-append, append_assoc}
use Rattle.std.proofs.Math.Nat.{le-max_left, le-max_right}
use Rattle.ep_base.specs.declared.names.Name.{Name}
use Rattle.ep_base.specs.declared.places.Place.{Place}
use Rattle.ep_tree.specs.Heights.{domain_height, height, highest, highest_generator, index_height}
use Rattle.ep_tree.specs.Phrases.{Lexeme, Names, Phrase, Says, a_word, ◌followed_by◌}
use Rattle.ep_tree.specs.Spelling.{Spells, SpellsDomain, SpellsGenerators, SpellsMore, SpellsMoreGenerators, SpellsNode, SpellsList, implications, set_operations}
use Rattle.ep_tree.specs.Trees.{DomainTree, ExprTree, ExprTrees, Generators, IndexDomain, comprehension, generator_and, literal, no_generators, no_trees, tree_and, truth}
use Rattle.ep_parse_parts.specs.OperandReaders.{Generator, Lower, another_generator, as_generators, as_trees, bracket_from, colon_comes, comprehension_from, conditions_from, expression_next, generator_from, list_end, literal_from}
use Rattle.ep_parse_parts.specs.Readers.{Reader, behind, either_reader, looked_up, more_from, others_from, says, took, word_from, ◌and_then◌}
use Rattle.ep_parse_parts.proofs.Again.{AreComplete, Behind, DomainEnds, NoImplications, behind_word_cut, lexeme}
use Rattle.ep_parse_parts.proofs.AgainLists.{BehindList, more_again}
use Rattle.ep_parse_parts.proofs.AgainParts.{as_listed, listed}
use Rattle.ep_parse_parts.proofs.AgainPhrases.{Again, Tail, bar_closes, bracket_closes, comma_closes, expr_then, list_end_again, more_is, names_colon, names_then, semicolon_closes, tail_is, word_ends, word_then}
use Rattle.ep_parse_parts.proofs.AgainStarts.{colon_unseen, expression_seen, starts}
use Rattle.ep_parse_parts.proofs.Holding.{regrouped}

-- generators as a list
abbrev pub listed_generators : Generators → List Generator
listed_generators no_generators = []
listed_generators (generator_and xs d gens) = (xs, d) ∷ listed_generators gens

as_listed_generators : (gens : Generators) → as_generators (listed_generators gens) ≡ gens
unfolding as_generators
as_listed_generators no_generators = refl
as_listed_generators (generator_and xs d gens) = ap (λ x. generator_and xs d x) (as_listed_generators gens)

-- one generator
abbrev OneGenerator : List Name → DomainTree → Phrase
OneGenerator xs d = Names xs followed_by Says ":" followed_by SpellsDomain set_operations d

-- a generator and what stands behind it
generator_cut : (xs : List Name) (d : DomainTree) (M : Phrase) (f : List Lexeme) → (Names xs followed_by Says ":" followed_by SpellsDomain set_operations d followed_by M) f → (OneGenerator xs d followed_by M) f
generator_cut xs d M f h =
    let a = h.0 in
    let w = h.4.0 in
    let x = h.4.4.0 in
    let m = h.4.4.1 in (
      a ++ (w ++ x),
      m,
      h.2 ∙ ap (λ y. a ++ y) (h.4.2 ∙ ap (λ y. w ++ y) h.4.4.2 ∙ sym (append_assoc w x m)) ∙ sym (append_assoc a (w ++ x) m),
      (a, w ++ x, refl, h.3, (w, x, refl, h.4.3, h.4.4.3)),
      h.4.4.4,
    )

generator_colon : (xs : List Name) (d : DomainTree) (f tail : List Lexeme) → OneGenerator xs d f → colon_comes true (f ++ tail) ≡ true
unfolding colon_comes
generator_colon xs d f tail h =
    let c = behind_word_cut (codes ":") (SpellsDomain set_operations d) h.1 h.4 in
    let comes : colon_comes false (h.1 ++ tail) ≡ true = ap (λ x. colon_comes false (x ++ tail)) c.parts in
    ap (λ x. colon_comes true (x ++ tail)) h.2 ∙ ap (colon_comes true) (append_assoc h.0 h.1 tail) ∙ names_colon xs h.0 (h.1 ++ tail) h.3 comes

-- no colon comes behind names in conditions and in the end of a list
more_no_colon : (es : ExprTrees) (d : IndexDomain) (rest front : List Lexeme) → (SpellsMore es followed_by Tail d) front → colon_comes false (front ++ rest) ≡ false
unfolding SpellsNode colon_comes
more_no_colon no_trees d rest front h =
    ap (λ x. colon_comes false (x ++ rest)) (h.2 ∙ ap (λ x. x ++ h.1) h.3) ∙ tail_is (λ x. colon_comes false x ≡ false) (λ p ls. refl) (λ p ls. refl) d rest h.1 h.4
more_no_colon (tree_and e es) d rest front h =
    let c = behind_word_cut (codes ",") (Spells implications e followed_by SpellsMore es) h.0 h.3 in
    let f = c.spelled.0 in
    let g = c.spelled.1 in
    let inner : (c.rest ++ h.1) ++ rest ≡ f ++ ((g ++ h.1) ++ rest) =
    ap (λ x. (x ++ h.1) ++ rest) c.spelled.2 ∙ ap (λ x. x ++ rest) (append_assoc f g h.1) ∙ append_assoc f (g ++ h.1) rest in
    ap (λ x. colon_comes false (x ++ rest)) (h.2 ∙ ap (λ x. x ++ h.1) c.parts)
    ∙ ap (colon_comes true) inner
    ∙ colon_unseen f ((g ++ h.1) ++ rest) (starts e f c.spelled.3.1.1) (more_no_colon es d rest (g ++ h.1) (g, h.1, refl, c.spelled.4, h.4))

-- no generator comes next there
no_generator : (es : ExprTrees) (d : IndexDomain) (rest front : List Lexeme) → (SpellsMore es followed_by Tail d) front
    → (says (codes ",") (front ++ rest) && colon_comes true (behind (front ++ rest))) ≡ false
unfolding SpellsNode says
no_generator no_trees d rest front h =
    ap (λ x. says (codes ",") (x ++ rest) && colon_comes true (behind (x ++ rest))) (h.2 ∙ ap (λ x. x ++ h.1) h.3)
    ∙ tail_is (λ x. (says (codes ",") x && colon_comes true (behind x)) ≡ false) (λ p ls. refl) (λ p ls. refl) d rest h.1 h.4
no_generator (tree_and e es) d rest front h =
    let c = behind_word_cut (codes ",") (Spells implications e followed_by SpellsMore es) h.0 h.3 in
    let f = c.spelled.0 in
    let g = c.spelled.1 in
    let inner : (c.rest ++ h.1) ++ rest ≡ f ++ ((g ++ h.1) ++ rest) =
    ap (λ x. (x ++ h.1) ++ rest) c.spelled.2 ∙ ap (λ x. x ++ rest) (append_assoc f g h.1) ∙ append_assoc f (g ++ h.1) rest in
    ap (λ x. says (codes ",") (x ++ rest) && colon_comes true (behind (x ++ rest))) (h.2 ∙ ap (λ x. x ++ h.1) c.parts)
    ∙ ap (colon_comes true) inner
    ∙ colon_unseen f ((g ++ h.1) ++ rest) (starts e f c.spelled.3.1.1) (more_no_colon es d rest (g ++ h.1) (g, h.1, refl, c.spelled.4, h.4))

module _ (less : ℕ) (low : Lower) (good : AreComplete less low) where
  -- ---- lists

  behind_list : (d : IndexDomain) (rest front : List Lexeme) → Tail d front → BehindList less low good (front ++ rest)
  unfolding says
  behind_list d rest front h = record {
    ends = tail_is NoImplications semicolon_closes.expr bracket_closes.expr d rest front h;
    no_comma = tail_is (λ x. says (codes ",") x ≡ false) (λ p ls. refl) (λ p ls. refl) d rest front h;
  }

  literal_more : (low_enough : Bool) (p : Place) (e : ExprTree) (es : ExprTrees) (d : IndexDomain) (rest : List Lexeme) → highest es ≤ less → index_height d ≤ less → (1 ≤ less → low_enough ≡ true)
      → Again (SpellsMore es followed_by Tail d) (literal_from low_enough low p e) (literal p (tree_and e es) d) rest
  unfolding literal_from as_trees
  literal_more low_enough p e es d rest small small_d enough_for front h =
      let f = h.0 in
      let g = h.1 in
      let cut : front ++ rest ≡ f ++ (g ++ rest) = ap (λ x. x ++ rest) h.2 ∙ append_assoc f g rest in
      ap (literal_from low_enough low p e) cut
      ∙ ap (λ r. r and_then λ xs end. list_end low_enough low (literal p (as_trees (e ∷ xs))) end)
      (more_again less low good es (length (f ++ (g ++ rest))) e f (g ++ rest) (omega (arith, length-append f (g ++ rest))) h.3 small (behind_list d rest g h.4))
      ∙ ap (λ x. list_end low_enough low (literal p (tree_and e x)) (g ++ rest)) (as_listed es)
      ∙ list_end_again less low good (literal p (tree_and e es)) d low_enough rest small_d enough_for g h.4

  -- what stands behind the first expression in a bracket
  abbrev behind_item : Bool → Place → ExprTree → Reader ExprTree
  behind_item low_enough p e ls = either_reader (says (codes "|") ls) (λ next. comprehension_from low_enough low p e (behind next)) (literal_from low_enough low p e) ls

  no_bar : (low_enough : Bool) (p : Place) (e : ExprTree) (ls : List Lexeme) → says (codes "|") ls ≡ false → behind_item low_enough p e ls ≡ literal_from low_enough low p e ls
  no_bar low_enough p e ls none = ap (λ b. either_reader b (λ next. comprehension_from low_enough low p e (behind next)) (literal_from low_enough low p e) ls) none

  with_item : (low_enough : Bool) (p : Place) (result : ExprTree) (e : ExprTree) (P : Phrase) (rest : List Lexeme)
      → Again (Spells implications e followed_by P) (λ ls. low.expr implications ls and_then behind_item low_enough p) result rest
      → Again (Spells implications e followed_by P) (bracket_from low_enough low p) result rest
  unfolding bracket_from
  with_item low_enough p result e P rest on front h =
      let seen : expression_next (front ++ rest) ≡ true =
      ap (λ x. expression_next (x ++ rest)) h.2 ∙ ap expression_next (append_assoc h.0 h.1 rest) ∙ expression_seen h.0 (h.1 ++ rest) (starts e h.0 h.3.1.1) in
      ap (λ b. either_reader b (λ all. low.expr implications all and_then behind_item low_enough p) (list_end low_enough low (literal p no_trees)) (front ++ rest)) seen
      ∙ on front h

  pub literal_again : (low_enough : Bool) (p : Place) (es : ExprTrees) (d : IndexDomain) (rest : List Lexeme) → highest es ≤ less → index_height d ≤ less → (1 ≤ less → low_enough ≡ true)
      → Again (SpellsList es followed_by Tail d) (bracket_from low_enough low p) (literal p es d) rest
  unfolding bracket_from SpellsNode expression_next looked_up height says
  literal_again low_enough p no_trees d rest small small_d enough_for front h =
      let cut : front ≡ h.1 = h.2 ∙ ap (λ x. x ++ h.1) h.3 in
      let none : expression_next (h.1 ++ rest) ≡ false = tail_is (λ x. expression_next x ≡ false) (λ q ls. refl) (λ q ls. refl) d rest h.1 h.4 in
      ap (λ x. bracket_from low_enough low p (x ++ rest)) cut
      ∙ ap (λ b. either_reader b (λ all. low.expr implications all and_then behind_item low_enough p) (list_end low_enough low (literal p no_trees)) (h.1 ++ rest)) none
      ∙ list_end_again less low good (literal p no_trees) d low_enough rest small_d enough_for h.1 h.4
  literal_again low_enough p (tree_and e es) d rest small small_d enough_for front h =
      with_item low_enough p (literal p (tree_and e es) d) e (SpellsMore es followed_by Tail d) rest
      (expr_then less low good e (SpellsMore es followed_by Tail d) (behind_item low_enough p) (literal p (tree_and e es) d) rest (omega (arith, small, le-max_left (height e) (highest es)))
      (λ f k. more_is NoImplications comma_closes.expr semicolon_closes.expr bracket_closes.expr es d rest f k)
      (λ f k. no_bar low_enough p e (f ++ rest) (more_is (λ x. says (codes "|") x ≡ false) (λ q ls. refl) (λ q ls. refl) (λ q ls. refl) es d rest f k)
      ∙ literal_more low_enough p e es d rest (omega (arith, small, le-max_right (height e) (highest es))) small_d enough_for f k))
      front (regrouped (Spells implications e) (SpellsMore es) (Tail d) front h)

  -- ---- generators

  generator_again : (xs : List Name) (d : DomainTree) (rest : List Lexeme) → domain_height d ≤ less → DomainEnds rest → Again (OneGenerator xs d) (generator_from low) (xs, d) rest
  unfolding generator_from says
  generator_again xs d rest small ends =
      names_then xs (Says ":" followed_by SpellsDomain set_operations d)
      (λ names ls. word_from (codes ":") ls and_then λ _ next. low.domain set_operations next and_then λ x end. took (names, x) end) (xs, d) rest
      (λ f h. ap (λ x. says (codes ",") (x ++ rest)) (behind_word_cut (codes ":") (SpellsDomain set_operations d) f h).parts)
      (word_then (codes ":") (SpellsDomain set_operations d) (λ _ next. low.domain set_operations next and_then λ x end. took (xs, x) end) (xs, d) rest
      (λ _ f h. ap (λ r. r and_then λ x end. took (xs, x) end) (good.domain set_operations d f rest h small ends)))

  -- what stands behind the generators of a comprehension
  record BehindGenerators (tail : List Lexeme) : Type 0 where
    ends : DomainEnds tail
    none : (says (codes ",") tail && colon_comes true (behind tail)) ≡ false

  abbrev item : Generator → Reader Generator
  item last = generator_from low

  generators_end : (n : ℕ) (last : Generator) (tail : List Lexeme) → (says (codes ",") tail && colon_comes true (behind tail)) ≡ false → more_from another_generator item n last tail ≡ took [] tail
  unfolding more_from another_generator
  generators_end zero last tail none = refl
  generators_end (suc n) last tail none = rw none refl

  generators_go : (n : ℕ) (last g : Generator) (gens : List Generator) (p : Place) (next mid tail : List Lexeme) → colon_comes true next ≡ true → generator_from low next ≡ took g mid
      → more_from another_generator item n g mid ≡ took gens tail → more_from another_generator item (suc n) last (lexeme p (a_word (codes ",")) ∷ next) ≡ took (g ∷ gens) tail
  unfolding more_from another_generator says
  generators_go n last g gens p next mid tail comes first others = rw (comes, first, others) refl

  generators_before : (gens : Generators) (front tail : List Lexeme) → SpellsMoreGenerators gens front → DomainEnds tail → DomainEnds (front ++ tail)
  unfolding SpellsNode
  generators_before no_generators front tail h ends = subst (λ f. DomainEnds (f ++ tail)) (sym h) ends
  generators_before (generator_and xs d gens) front tail h ends =
      let c = behind_word_cut (codes ",") _ front h in subst (λ f. DomainEnds (f ++ tail)) (sym c.parts) (comma_closes.domain c.place (c.rest ++ tail))

  generators_again : (gens : Generators) (n : ℕ) (last : Generator) (front tail : List Lexeme) → length front ≤ n → SpellsMoreGenerators gens front → highest_generator gens ≤ less → BehindGenerators tail
      → more_from another_generator item n last (front ++ tail) ≡ took (listed_generators gens) tail
  unfolding SpellsNode height
  generators_again no_generators n last front tail room h small b =
      subst (λ f. more_from another_generator item n last (f ++ tail) ≡ took [] tail) (sym h) (generators_end n last tail b.none)
  generators_again (generator_and xs d gens) zero last front tail room h small b =
      let c = behind_word_cut (codes ",") (Names xs followed_by Says ":" followed_by SpellsDomain set_operations d followed_by SpellsMoreGenerators gens) front h in
      let long : length front ≡ suc (length c.rest) = ap length c.parts in
      absurd (omega (arith, room, long))
  generators_again (generator_and xs d gens) (suc n) last front tail room h small b =
      let c = behind_word_cut (codes ",") (Names xs followed_by Says ":" followed_by SpellsDomain set_operations d followed_by SpellsMoreGenerators gens) front h in
      let k = generator_cut xs d (SpellsMoreGenerators gens) c.rest c.spelled in
      let f = k.0 in
      let g = k.1 in
      let long : length front ≡ suc (length c.rest) = ap length c.parts in
      let cut : length c.rest ≡ length (f ++ g) = ap length k.2 in
      let regroup : front ++ tail ≡ lexeme c.place (a_word (codes ",")) ∷ (f ++ (g ++ tail)) =
      ap (λ x. x ++ tail) c.parts ∙ ap (λ x. lexeme c.place (a_word (codes ",")) ∷ x) (ap (λ x. x ++ tail) k.2 ∙ append_assoc f g tail) in
      let low_d : domain_height d ≤ less = omega (arith, small, le-max_left (domain_height d) (highest_generator gens)) in
      let low_gens : highest_generator gens ≤ less = omega (arith, small, le-max_right (domain_height d) (highest_generator gens)) in
      ap (more_from another_generator item (suc n) last) regroup
      ∙ generators_go n last (xs, d) (listed_generators gens) c.place (f ++ (g ++ tail)) (g ++ tail) tail (generator_colon xs d f (g ++ tail) k.3)
      (generator_again xs d (g ++ tail) low_d (generators_before gens g tail k.4 b.ends) f k.3)
      (generators_again gens n (xs, d) g tail (omega (arith, room, long, cut, length-append f g)) k.4 low_gens b)

  -- ---- comprehensions

  -- what is made of the parts of a comprehension
  abbrev made : Bool → Place → ExprTree → List Generator → List ExprTree → Reader ExprTree
  made low_enough p e gens conditions = list_end low_enough low (comprehension p e (as_generators gens) (as_trees conditions))

  comprehension_more : (low_enough : Bool) (p : Place) (e : ExprTree) (gens : Generators) (es : ExprTrees) (d : IndexDomain) (rest : List Lexeme) → highest_generator gens ≤ less → highest es ≤ less → index_height d ≤ less
      → (1 ≤ less → low_enough ≡ true) → Again (SpellsGenerators gens followed_by SpellsMore es followed_by Tail d) (comprehension_from low_enough low p e) (comprehension p e gens es d) rest
  unfolding comprehension_from conditions_from SpellsNode height as_generators
  comprehension_more low_enough p e no_generators es d rest small_g small small_d enough_for front h = absurd h.3
  comprehension_more low_enough p e (generator_and xs x gens) es d rest small_g small small_d enough_for front h =
      let k = generator_cut xs x (SpellsMoreGenerators gens) h.0 h.3 in
      let f = k.0 in
      let g = k.1 in
      let m = h.4.0 in
      let t = h.4.1 in
      let tail = h.1 ++ rest in
      let cut : front ++ rest ≡ f ++ (g ++ tail) =
      ap (λ y. y ++ rest) h.2 ∙ append_assoc h.0 h.1 rest ∙ ap (λ y. y ++ tail) k.2 ∙ append_assoc f g tail in
      let cut_tail : tail ≡ m ++ (t ++ rest) = ap (λ y. y ++ rest) h.4.2 ∙ append_assoc m t rest in
      let low_x : domain_height x ≤ less = omega (arith, small_g, le-max_left (domain_height x) (highest_generator gens)) in
      let low_gens : highest_generator gens ≤ less = omega (arith, small_g, le-max_right (domain_height x) (highest_generator gens)) in
      let ends : DomainEnds tail = more_is DomainEnds comma_closes.domain semicolon_closes.domain bracket_closes.domain es d rest h.1 h.4 in
      let none : (says (codes ",") tail && colon_comes true (behind tail)) ≡ false = no_generator es d rest h.1 h.4 in
      let nothing : ExprTree = truth (record { line = 0; column = 0 }) true in
      ap (comprehension_from low_enough low p e) cut
      ∙ ap (λ r. r and_then λ y next. others_from another_generator item y next and_then λ ys end. conditions_from low end and_then made low_enough p e (y ∷ ys))
      (generator_again xs x (g ++ tail) low_x (generators_before gens g tail k.4 ends) f k.3)
      ∙ ap (λ r. r and_then λ ys end. conditions_from low end and_then made low_enough p e ((xs, x) ∷ ys))
      (generators_again gens (length (g ++ tail)) (xs, x) g tail (omega (arith, length-append g tail)) k.4 low_gens (record { ends = ends; none = none }))
      ∙ ap (λ y. conditions_from low y and_then made low_enough p e ((xs, x) ∷ listed_generators gens)) cut_tail
      ∙ ap (λ r. r and_then made low_enough p e ((xs, x) ∷ listed_generators gens))
      (more_again less low good es (length (m ++ (t ++ rest))) nothing m (t ++ rest) (omega (arith, length-append m (t ++ rest))) h.4.3 small (behind_list d rest t h.4.4))
      ∙ ap (λ y. list_end low_enough low (comprehension p e (generator_and xs x y) (as_trees (listed es))) (t ++ rest)) (as_listed_generators gens)
      ∙ ap (λ y. list_end low_enough low (comprehension p e (generator_and xs x gens) y) (t ++ rest)) (as_listed es)
      ∙ list_end_again less low good (comprehension p e (generator_and xs x gens) es) d low_enough rest small_d enough_for t h.4.4

  pub comprehension_again : (low_enough : Bool) (p : Place) (e : ExprTree) (gens : Generators) (es : ExprTrees) (d : IndexDomain) (rest : List Lexeme) → height e ≤ less → highest_generator gens ≤ less → highest es ≤ less
      → index_height d ≤ less → (1 ≤ less → low_enough ≡ true)
      → Again (Spells implications e followed_by Says "|" followed_by SpellsGenerators gens followed_by SpellsMore es followed_by Tail d) (bracket_from low_enough low p) (comprehension p e gens es d) rest
  unfolding says
  comprehension_again low_enough p e gens es d rest small_e small_g small small_d enough_for =
      with_item low_enough p (comprehension p e gens es d) e (Says "|" followed_by SpellsGenerators gens followed_by SpellsMore es followed_by Tail d) rest
      (expr_then less low good e (Says "|" followed_by SpellsGenerators gens followed_by SpellsMore es followed_by Tail d) (behind_item low_enough p) (comprehension p e gens es d) rest small_e
      (word_ends (codes "|") (SpellsGenerators gens followed_by SpellsMore es followed_by Tail d) rest bar_closes)
      (λ f h. behind_bar f (behind_word_cut (codes "|") (SpellsGenerators gens followed_by SpellsMore es followed_by Tail d) f h)))
    where
      behind_bar : (f : List Lexeme) → Behind (codes "|") (SpellsGenerators gens followed_by SpellsMore es followed_by Tail d) f → behind_item low_enough p e (f ++ rest) ≡ took (comprehension p e gens es d) rest
      behind_bar f c =
          ap (λ x. behind_item low_enough p e (x ++ rest)) c.parts
          ∙ comprehension_more low_enough p e gens es d rest small_g small small_d enough_for c.rest c.spelled
