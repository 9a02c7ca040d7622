-- Names, functions, quantifiers and lists whose reading ends before their end can be completed.
use Rattle.std.specs.Prelude.{◌≡◌, ℕ, ◌≤◌, Bool, true, false, ◌&&◌, List, [], ◌∷◌, ◌++◌, length, nat_le, Option, Some, codes, refl}
use Rattle.std.proofs.Common.{ap, arith, sym, subst, ◌∙◌, append-nil, append_assoc}
use Rattle.std.proofs.lemmas.Bool.{and_parts}
use Rattle.std.proofs.Math.Nat.{max-le}
use Rattle.ep_base.specs.declared.names.Name.{Name}
use Rattle.ep_base.specs.declared.places.Place.{Place}
use Rattle.ep_tree.specs.Heights.{height, highest, highest_generator, index_height}
use Rattle.ep_tree.specs.Phrases.{Is, Lexeme, Names, Phrase, Says, Saying, Silence, StartsAt, a_name, a_number, a_word, ◌followed_by◌}
use Rattle.ep_tree.specs.Spelling.{DomainLevel, Level, SpellsIndexDomain, SpellsMore, SpellsMoreGenerators, SpellsNode, implications, own_level, primaries, rank, domain_rank, set_operations, unaries}
use Rattle.ep_tree.specs.Trees.{DomainTree, ExprTree, ExprTrees, Generators, IndexDomain, generator_and, no_generators, no_trees, over, place_of, tree_and, unstated}
use Rattle.ep_parse_parts.specs.OperandReaders.{Generator, Lower, another_generator, closed_by, colon_comes, conditions_from, generator_from, if_low, index_domain_from, list_end}
use Rattle.ep_parse_parts.specs.Readers.{Reader, behind, behind_comma, either_reader, says_word, name_from, name_in, names_from, others_from, says, took, word_from, ◌and_then◌}
use Rattle.ep_parse_parts.proofs.Again.{behind_word_cut}
use Rattle.ep_parse_expr.proofs.Completing.{ADomain, AnExpr, Filled, ItemSo, Lifts, Opens, Refuses, Shape, Word, a_domain, an_expr, domain_filled, domain_lifts, expr_filled, expr_lifts, more_refuses, more_takes, next_then, others_then, refuses_as, refuses_behind, refuses_chosen, refuses_low, refuses_made, refuses_then, refuses_took, refuses_wrong, somewhere, then_filled, then_lifts, word_filled, word_refuses, word_then, ◌then◌}
use Rattle.ep_parse_parts.proofs.Holding.{Holds, Takes, holds_as, holds_then, holds_took, is_word-sound, says_sound, takes_then, word_sound}
use Rattle.ep_parse_parts.proofs.SoundParts.{AreSound, comma_sound, kept-sound, name_sound, names_sound}

-- readers of what is lower by one, whose reading can be completed
pub record AreOpen (less : ℕ) (low : Lower) : Type 0 where
  pub expr : (level : Level) → nat_le (rank level) (rank unaries) ≡ true → (ls : List Lexeme) → Refuses (AnExpr level less) ls (low.expr level ls)
  pub domain : (level : DomainLevel) (ls : List Lexeme) → Refuses (ADomain level less) ls (low.domain level ls)

-- ---- nodes

-- an expression that begins with a word
pub opened_node : (most : ℕ) (w : List ℕ) (b : Bool) (front : List Lexeme) (Ph : Phrase) → (Is (a_word w) followed_by Ph) front → (make : Place → ExprTree) → ((p : Place) → place_of (make p) ≡ p)
    → ((p : Place) → nat_le (rank unaries) (rank (own_level (make p))) ≡ true) → (b ≡ true → (p : Place) → height (make p) ≤ most) → ((p : Place) → SpellsNode (make p) front) → AnExpr unaries most b front
opened_node most w b front Ph h make at own low node =
    let c = behind_word_cut w Ph front h in
    let here : StartsAt c.place front = subst (StartsAt c.place) (sym c.parts) refl in
    (make c.place, (λ e. low e c.place), (own c.place, (subst (λ q. StartsAt q front) (sym (at c.place)) here, node c.place)))

-- one token of a word begins what the word begins
pub token_opens : (w : List ℕ) (Q W : Shape) (l : Lexeme) → l.saying ≡ a_word w → ((b : Bool) (front : List Lexeme) → (Word w then Q) b front → W b front) → (tail : List Lexeme) × Q false tail → Opens (W false) (l ∷ [])
token_opens w Q W l e f small =
    (small.0, f false (l ∷ small.0) (l ∷ [], small.0, refl, (l.place, ap (λ (s : Saying). record { place = l.place; saying = s } ∷ []) e), small.1))

-- any expression and any domain, however high
pub expr_any : (level : Level) (most : ℕ) → nat_le (rank level) (rank primaries) ≡ true → (tail : List Lexeme) × AnExpr level most false tail
expr_any level most ranked = let f = expr_filled level 1 ranked (omega arith) in let x = f.some false in (x.0, (x.1.0, (λ e. (let no : false ≡ true = e in absurd cc)), x.1.2))

pub domain_any : (level : DomainLevel) (most : ℕ) → nat_le (domain_rank level) 2 ≡ true → (tail : List Lexeme) × ADomain level most false tail
unfolding domain_rank
domain_any level most ranked = let f = domain_filled level 1 ranked (omega arith) in let x = f.some false in (x.0, (x.1.0, (λ e. (let no : false ≡ true = e in absurd cc)), x.1.2))

-- ---- lists with a separator

module _ {A : Type 0} (goes_on : A → List Lexeme → Option (List Lexeme)) (item : A → Reader A) (Sep : Phrase) (X L : Shape)
    (sep : (last : A) (ls next : List Lexeme) → goes_on last ls ≡ Some next → Takes Sep ls next) (nil : (b : Bool) → L b [])
    (cons : (b : Bool) (front : List Lexeme) → (Sep followed_by X b followed_by L b) front → L b front) (lifts : Lifts X) (filled : Filled X)
    (refuses : (last : A) (ls : List Lexeme) → Refuses X ls (item last ls)) (takes : (last : A) (ls : List Lexeme) → Holds (λ x rest. Takes (X true) ls rest) (item last ls)) where
  lift_to : (b : Bool) (front : List Lexeme) → X true front → X b front
  lift_to true front x = x
  lift_to false front x = lifts front x

  pub sep_items : (last : A) (ls next : List Lexeme) → goes_on last ls ≡ Some next → ItemSo goes_on item (λ _. L) (λ _. nil) last ls (item last next)
  sep_items last ls next e =
      let s = sep last ls next e in
      record {
        takes = λ x rest k. let h = takes last next in let t = h.holds x rest k in
            record {
              front = s.front ++ t.front;
              parts = s.parts ∙ ap (λ z. s.front ++ z) t.parts ∙ sym (append_assoc s.front t.front rest);
              leads = λ b back l. cons b ((s.front ++ t.front) ++ back) (s.front, t.front ++ back, append_assoc s.front t.front back, s.spelled, (t.front, back, refl, lift_to b t.front t.spelled, l));
            };
        refuses = refuses_behind Sep X L ls next (item last next) s (λ b front back p q. cons b (front ++ back) (front, back, refl, p, (back, [], sym (append-nil back), q, nil b))) filled (refuses last next);
      }

  -- such a list, and what is read behind it
  pub sep_then : {B : Type 0} (Q : Shape) (k : List A → Reader B) → Lifts L → Filled Q → ((xs : List A) (rest : List Lexeme) → Refuses Q rest (k xs rest))
      → (last : A) (ls : List Lexeme) → Refuses (L then Q) ls (others_from goes_on item last ls and_then k)
  sep_then Q k l f more last ls = others_then goes_on item (λ _. L) (λ _. nil) sep_items Q k (λ _. l) f more last ls

  pub sep_refuses : (last : A) (ls : List Lexeme) → Refuses L ls (others_from goes_on item last ls)
  sep_refuses last ls = more_refuses goes_on item (λ _. L) (λ _. nil) sep_items (length ls) last ls

  pub sep_takes : (last : A) (ls : List Lexeme) → Holds (λ xs rest. Takes (L true) ls rest) (others_from goes_on item last ls)
  sep_takes last ls = more_takes goes_on item (λ _. L) (λ _. nil) sep_items (length ls) last ls

-- ---- names

abbrev AName : Shape
AName b front = (x : Name) × Is (a_name x) front

MoreNamesOf : List Name → Phrase
MoreNamesOf [] = Silence
MoreNamesOf (x ∷ xs) = Says "," followed_by Is (a_name x) followed_by MoreNamesOf xs

abbrev MoreNames : Shape
MoreNames b front = (xs : List Name) × MoreNamesOf xs front

-- names with commas between them
abbrev pub SomeNames : Shape
SomeNames b front = (xs : List Name) × Names xs front

names_made : (x : Name) (xs : List Name) (front : List Lexeme) → (Is (a_name x) followed_by MoreNamesOf xs) front → Names (x ∷ xs) front
unfolding Names MoreNamesOf
names_made x [] front h = (h.3.0, h.2 ∙ ap (λ y. h.0 ++ y) h.4 ∙ ap (λ y. y ++ []) h.3.1)
names_made x (y ∷ ys) front h = (h.0, h.1, h.2, h.3, (h.4.0, h.4.1, h.4.2, h.4.3, names_made y ys h.4.1 h.4.4))

name_filled : Filled AName
name_filled = record { some = λ b. (somewhere (a_name (codes "x")) ∷ [], (codes "x", (record { line = 0; column = 0 }, refl))) }

name_refuses : (ls : List Lexeme) → Refuses AName ls (name_from ls)
unfolding name_from name_in
name_refuses [] = refuses_wrong AName []
name_refuses (l ∷ ls) = go l.saying
  where
    go : (s : Saying) → Refuses AName (l ∷ ls) (name_in l s ls)
    go (a_name x) = refuses_took AName (l ∷ ls) ls x
    go (a_number n) = refuses_wrong AName (l ∷ ls)
    go (a_word w) = refuses_wrong AName (l ∷ ls)

a_name_taken : (ls : List Lexeme) → Holds (λ x rest. Takes (AName true) ls rest) (name_from ls)
a_name_taken ls = holds_as (λ x rest. Takes (Is (a_name x)) ls rest) (λ x rest. Takes (AName true) ls rest) (name_from ls) (name_sound ls) (λ x rest t. record { front = t.front; parts = t.parts; spelled = (x, t.spelled) })

nothing_more : (b : Bool) → MoreNames b []
unfolding MoreNamesOf
nothing_more b = ([], refl)

another_name : (b : Bool) (front : List Lexeme) → (Says "," followed_by AName b followed_by MoreNames b) front → MoreNames b front
unfolding MoreNamesOf
another_name b front h = let k = h.4 in (k.3.0 ∷ k.4.0, (h.0, h.1, h.2, h.3, (k.0, k.1, k.2, k.3.1, k.4.1)))

pub names_refuse : (ls : List Lexeme) → Refuses SomeNames ls (names_from ls)
unfolding names_from
names_refuse ls =
    refuses_as (AName then MoreNames) SomeNames ls _ (λ b front h. (h.3.0 ∷ h.4.0, names_made h.3.0 h.4.0 front (h.0, h.1, h.2, h.3.1, h.4.1)))
    (refuses_then AName MoreNames ls (name_from ls) _ (name_refuses ls) (a_name_taken ls) (λ front h. h) (record { some = λ b. ([], nothing_more b) })
    (λ x rest e. refuses_made MoreNames rest (others_from behind_comma (λ last. name_from) x rest) (λ xs. x ∷ xs)
    (sep_refuses behind_comma (λ last. name_from) (Says ",") AName MoreNames comma_sound nothing_more another_name (λ front h. h) name_filled (λ last. name_refuses) (λ last. a_name_taken) x rest)))

pub some_names_taken : (ls : List Lexeme) → Holds (λ x rest. Takes (SomeNames true) ls rest) (names_from ls)
some_names_taken ls = holds_as (λ xs rest. Takes (Names xs) ls rest) (λ x rest. Takes (SomeNames true) ls rest) (names_from ls) (names_sound ls) (λ xs rest t. record { front = t.front; parts = t.parts; spelled = (xs, t.spelled) })

pub names_filled : Filled SomeNames
unfolding Names
names_filled = record { some = λ b. (somewhere (a_name (codes "x")) ∷ [], (codes "x" ∷ [], (record { line = 0; column = 0 }, refl))) }

pub names_then : {B : Type 0} (Q : Shape) (ls : List Lexeme) (k : List Name → Reader B) → Filled Q → ((xs : List Name) (rest : List Lexeme) → Refuses Q rest (k xs rest)) → Refuses (SomeNames then Q) ls (names_from ls and_then k)
names_then Q ls k filled more = refuses_then SomeNames Q ls (names_from ls) k (names_refuse ls) (some_names_taken ls) (λ front h. h) filled (λ xs rest e. more xs rest)

-- what closes a node
pub closed_refuses : (bytes : List ℕ) (e : ExprTree) (ls : List Lexeme) → Refuses (Word bytes) ls (closed_by bytes e ls)
closed_refuses bytes e ls = refuses_made (Word bytes) ls (word_from bytes ls) (λ p. e) (word_refuses bytes ls)

-- ---- parts of lists

-- expressions, each with a comma before it
abbrev pub MoreExprs : ℕ → Shape
MoreExprs less b front = (es : ExprTrees) × (b ≡ true → highest es ≤ less) × SpellsMore es front

abbrev pub AnIndexDomain : ℕ → Shape
AnIndexDomain less b front = (d : IndexDomain) × (b ≡ true → index_height d ≤ less) × SpellsIndexDomain d front

abbrev pub AGenerator : ℕ → Shape
AGenerator less = SomeNames then Word (codes ":") then ADomain set_operations less

abbrev pub MoreGenerators : ℕ → Shape
MoreGenerators less b front = (gens : Generators) × (b ≡ true → highest_generator gens ≤ less) × SpellsMoreGenerators gens front

-- the limit is no limit without it
pub unlimited : (n most : ℕ) → false ≡ true → n ≤ most
unlimited n most e = absurd cc

module _ (less : ℕ) where
  pub no_exprs : (b : Bool) → MoreExprs less b []
  unfolding SpellsNode height
  no_exprs b = (no_trees, (λ _. omega arith), refl)

  pub another_expr : (b : Bool) (front : List Lexeme) → (Says "," followed_by AnExpr implications less b followed_by MoreExprs less b) front → MoreExprs less b front
  unfolding SpellsNode height
  another_expr b front h =
      let k = h.4 in (tree_and k.3.0 k.4.0, (λ e. max-le (k.3.1 e) (k.4.1 e)), (h.0, h.1, h.2, h.3, (k.0, k.1, k.2, k.3.2, k.4.2)))

  pub exprs_lift : Lifts (MoreExprs less)
  exprs_lift front h = (h.0, (λ e. unlimited (highest h.0) less e), h.2)

  pub no_index_domain : (b : Bool) → AnIndexDomain less b []
  unfolding SpellsNode height
  no_index_domain b = (unstated, (λ _. omega arith), refl)

  pub an_index_domain : (b : Bool) (front : List Lexeme) → (Word (codes ";") then ADomain set_operations less) b front → AnIndexDomain less b front
  unfolding SpellsNode height
  an_index_domain b front h = (over h.4.0, h.4.1, (h.0, h.1, h.2, h.3, h.4.2))

  pub index_domain_lifts : Lifts (AnIndexDomain less)
  index_domain_lifts front h = (h.0, (λ e. unlimited (index_height h.0) less e), h.2)

  pub index_domain_filled : Filled (AnIndexDomain less)
  index_domain_filled = record { some = λ b. ([], no_index_domain b) }

  pub exprs_filled : Filled (MoreExprs less)
  exprs_filled = record { some = λ b. ([], no_exprs b) }

  pub no_generator : (b : Bool) → MoreGenerators less b []
  unfolding SpellsNode height
  no_generator b = (no_generators, (λ _. omega arith), refl)

  pub another_gen : (b : Bool) (front : List Lexeme) → (Says "," followed_by AGenerator less b followed_by MoreGenerators less b) front → MoreGenerators less b front
  unfolding SpellsNode height
  another_gen b front h =
      let k = h.4 in
      let g = k.3 in
      let m = g.4 in (
        generator_and g.3.0 m.4.0 k.4.0,
        (λ e. max-le (m.4.1 e) (k.4.1 e)),
        (
          h.0,
          h.1,
          h.2,
          h.3,
          (
            g.0,
            g.1 ++ k.1,
            k.2 ∙ ap (λ z. z ++ k.1) g.2 ∙ append_assoc g.0 g.1 k.1,
            g.3.1,
            (m.0, m.1 ++ k.1, ap (λ z. z ++ k.1) m.2 ∙ append_assoc m.0 m.1 k.1, m.3, (m.1, k.1, refl, m.4.2, k.4.2)),
          ),
        ),
      )

  pub generators_lift : Lifts (MoreGenerators less)
  generators_lift front h = (h.0, (λ e. unlimited (highest_generator h.0) less e), h.2)

module _ (less : ℕ) (low : Lower) (sound : AreSound less low) (good : AreOpen less low) where
  pub expr_taken : (level : Level) → nat_le (rank level) (rank unaries) ≡ true → (ls : List Lexeme) → Holds (λ e rest. Takes (AnExpr level less true) ls rest) (low.expr level ls)
  expr_taken level ranked ls = record { holds = λ e rest k. let h = sound.expr level ranked ls in an_expr level less ls e rest (h.holds e rest k) }

  pub domain_taken : (level : DomainLevel) (ls : List Lexeme) → Holds (λ e rest. Takes (ADomain level less true) ls rest) (low.domain level ls)
  domain_taken level ls = record { holds = λ e rest k. let h = sound.domain level ls in a_domain level less ls e rest (h.holds e rest k) }

  -- an expression, and what is read behind it
  pub expr_then : {B : Type 0} (Q : Shape) (ls : List Lexeme) (k : ExprTree → Reader B) → Filled Q → ((e : ExprTree) (rest : List Lexeme) → low.expr implications ls ≡ took e rest → Refuses Q rest (k e rest))
      → Refuses (AnExpr implications less then Q) ls (low.expr implications ls and_then k)
  unfolding rank
  expr_then Q ls k filled more = refuses_then (AnExpr implications less) Q ls (low.expr implications ls) k (good.expr implications refl ls) (expr_taken implications refl ls) (expr_lifts implications less) filled more

  pub domain_then : {B : Type 0} (Q : Shape) (ls : List Lexeme) (k : DomainTree → Reader B) → Filled Q → ((e : DomainTree) (rest : List Lexeme) → Refuses Q rest (k e rest))
      → Refuses (ADomain set_operations less then Q) ls (low.domain set_operations ls and_then k)
  domain_then Q ls k filled more = refuses_then (ADomain set_operations less) Q ls (low.domain set_operations ls) k (good.domain set_operations ls) (domain_taken set_operations ls) (domain_lifts set_operations less) filled (λ e rest _. more e rest)

  -- ---- the ends of lists

  pub index_domain_refuses : (t : Bool) → (t ≡ true → 1 ≤ less) → (ls : List Lexeme) → Refuses (AnIndexDomain less) ls (index_domain_from t low ls)
  unfolding index_domain_from says domain_rank
  index_domain_refuses t enough [] = refuses_took (AnIndexDomain less) [] [] unstated
  index_domain_refuses t enough (l ∷ ls) =
      refuses_chosen (AnIndexDomain less) (says_word (codes ";") l.saying) _ _ (l ∷ ls)
      (λ e. let said = is_word-sound (codes ";") l.saying e in
      refuses_low (AnIndexDomain less) t _ l ls (token_opens (codes ";") (ADomain set_operations less) (AnIndexDomain less) l said (an_index_domain less) (domain_any set_operations less refl))
      (λ on. next_then (codes ";") (ADomain set_operations less) (AnIndexDomain less) (l ∷ ls) _ (says_sound (codes ";") (l ∷ ls) e) (domain_filled set_operations less refl (enough on)) (an_index_domain less)
      (refuses_made (ADomain set_operations less) ls (low.domain set_operations ls) over (good.domain set_operations ls))))
      (λ e. refuses_took (AnIndexDomain less) (l ∷ ls) (l ∷ ls) unstated)

  index_domain_taken : (t : Bool) (ls : List Lexeme) → Holds (λ d rest. Takes (AnIndexDomain less true) ls rest) (index_domain_from t low ls)
  unfolding index_domain_from says
  index_domain_taken t [] = holds_took (λ d rest. Takes (AnIndexDomain less true) [] rest) unstated [] (record { front = []; parts = refl; spelled = no_index_domain less true })
  index_domain_taken t (l ∷ ls) = go (says_word (codes ";") l.saying) refl t
    where
      go : (b : Bool) → says_word (codes ";") l.saying ≡ b → (t : Bool)
          → Holds (λ d rest. Takes (AnIndexDomain less true) (l ∷ ls) rest) (either_reader b (if_low t (λ all. low.domain set_operations (behind all) and_then λ d rest. took (over d) rest)) (λ all. took unstated all) (l ∷ ls))
      go false e t = holds_took (λ d rest. Takes (AnIndexDomain less true) (l ∷ ls) rest) unstated (l ∷ ls) (record { front = []; parts = refl; spelled = no_index_domain less true })
      go true e false = record { holds = λ x z k. absurd cc }
      go true e true =
          holds_then (λ d rest. Takes (ADomain set_operations less true) ls rest) (λ d rest. Takes (AnIndexDomain less true) (l ∷ ls) rest) (low.domain set_operations ls) (λ d rest. took (over d) rest) (domain_taken set_operations ls)
          (λ d rest t. holds_took (λ d rest. Takes (AnIndexDomain less true) (l ∷ ls) rest) (over d) rest
          (let both = takes_then (Word (codes ";") true) (ADomain set_operations less true) (l ∷ ls) ls rest (record { front = l ∷ []; parts = refl; spelled = (l.place, ap (λ (s : Saying). record { place = l.place; saying = s } ∷ []) (is_word-sound (codes ";") l.saying e)) }) t in
          record { front = both.front; parts = both.parts; spelled = an_index_domain less true both.front both.spelled }))

  pub list_end_refuses : (t : Bool) → (t ≡ true → 1 ≤ less) → (make : IndexDomain → ExprTree) (ls : List Lexeme) → Refuses (AnIndexDomain less then Word (codes "]")) ls (list_end t low make ls)
  list_end_refuses t enough make ls =
      refuses_then (AnIndexDomain less) (Word (codes "]")) ls (index_domain_from t low ls) _ (index_domain_refuses t enough ls) (index_domain_taken t ls) (index_domain_lifts less) (word_filled (codes "]")) (λ d rest e. closed_refuses (codes "]") (make d) rest)

  pub exprs_then : {B : Type 0} → 1 ≤ less → (Q : Shape) (k : List ExprTree → Reader B) → Filled Q → ((xs : List ExprTree) (rest : List Lexeme) → Refuses Q rest (k xs rest))
      → (last : ExprTree) (ls : List Lexeme) → Refuses (MoreExprs less then Q) ls (others_from behind_comma (λ last. low.expr implications) last ls and_then k)
  unfolding rank
  exprs_then some Q k filled more last ls =
      sep_then behind_comma (λ last. low.expr implications) (Says ",") (AnExpr implications less) (MoreExprs less) comma_sound (no_exprs less) (another_expr less) (expr_lifts implications less) (expr_filled implications less refl some)
      (λ last. good.expr implications refl) (λ last. expr_taken implications refl) Q k (exprs_lift less) filled more last ls

  conditions_refuse : 1 ≤ less → (ls : List Lexeme) → Refuses (MoreExprs less) ls (conditions_from low ls)
  unfolding conditions_from rank
  conditions_refuse some ls =
      sep_refuses behind_comma (λ last. low.expr implications) (Says ",") (AnExpr implications less) (MoreExprs less) comma_sound (no_exprs less) (another_expr less) (expr_lifts implications less) (expr_filled implications less refl some)
      (λ last. good.expr implications refl) (λ last. expr_taken implications refl) _ ls

  conditions_taken : 1 ≤ less → (ls : List Lexeme) → Holds (λ xs rest. Takes (MoreExprs less true) ls rest) (conditions_from low ls)
  unfolding conditions_from rank
  conditions_taken some ls =
      sep_takes behind_comma (λ last. low.expr implications) (Says ",") (AnExpr implications less) (MoreExprs less) comma_sound (no_exprs less) (another_expr less) (expr_lifts implications less) (expr_filled implications less refl some)
      (λ last. good.expr implications refl) (λ last. expr_taken implications refl) _ ls

  pub conditions_then : {B : Type 0} → 1 ≤ less → (Q : Shape) (ls : List Lexeme) (k : List ExprTree → Reader B) → Filled Q → ((xs : List ExprTree) (rest : List Lexeme) → Refuses Q rest (k xs rest))
      → Refuses (MoreExprs less then Q) ls (conditions_from low ls and_then k)
  conditions_then some Q ls k filled more =
      refuses_then (MoreExprs less) Q ls (conditions_from low ls) k (conditions_refuse some ls) (conditions_taken some ls) (exprs_lift less) filled (λ xs rest e. more xs rest)

  -- ---- generators

  generator_refuses : 1 ≤ less → (ls : List Lexeme) → Refuses (AGenerator less) ls (generator_from low ls)
  unfolding generator_from domain_rank
  generator_refuses some ls =
      let d = domain_filled set_operations less refl some in
      names_then (Word (codes ":") then ADomain set_operations less) ls _ (then_filled (Word (codes ":")) (ADomain set_operations less) (word_filled (codes ":")) d)
      (λ xs rest. word_then (codes ":") (ADomain set_operations less) rest _ d (λ p next. refuses_made (ADomain set_operations less) next (low.domain set_operations next) (λ d. (xs, d)) (good.domain set_operations next)))

  generator_taken : (ls : List Lexeme) → Holds (λ g rest. Takes (AGenerator less true) ls rest) (generator_from low ls)
  unfolding generator_from
  generator_taken ls =
      holds_then (λ xs rest. Takes (SomeNames true) ls rest) (λ g rest. Takes (AGenerator less true) ls rest) (names_from ls) _ (some_names_taken ls)
      (λ xs a s. holds_then (λ p z. Takes (Word (codes ":") true) a z) (λ g rest. Takes (AGenerator less true) ls rest) (word_from (codes ":") a) _ (word_sound (codes ":") a)
      (λ p z t. holds_then (λ d end. Takes (ADomain set_operations less true) z end) (λ g rest. Takes (AGenerator less true) ls rest) (low.domain set_operations z) _ (domain_taken set_operations z)
      (λ d end u. holds_took (λ g rest. Takes (AGenerator less true) ls rest) (xs, d) end
      (takes_then (SomeNames true) ((Word (codes ":") then ADomain set_operations less) true) ls a end s (takes_then (Word (codes ":") true) (ADomain set_operations less true) a z end t u)))))

  pub generator_then : {B : Type 0} → 1 ≤ less → (Q : Shape) (ls : List Lexeme) (k : Generator → Reader B) → Filled Q → ((g : Generator) (rest : List Lexeme) → Refuses Q rest (k g rest))
      → Refuses (AGenerator less then Q) ls (generator_from low ls and_then k)
  generator_then some Q ls k filled more =
      refuses_then (AGenerator less) Q ls (generator_from low ls) k (generator_refuses some ls) (generator_taken ls)
      (then_lifts SomeNames (Word (codes ":") then ADomain set_operations less) (λ front h. h) (then_lifts (Word (codes ":")) (ADomain set_operations less) (λ front h. h) (domain_lifts set_operations less))) filled (λ g rest e. more g rest)

  another_sound : (last : Generator) (ls next : List Lexeme) → another_generator last ls ≡ Some next → Takes (Says ",") ls next
  unfolding another_generator
  another_sound last ls next e =
      let k = kept-sound (says (codes ",") ls && colon_comes true (behind ls)) (behind ls) next e in
      subst (λ x. Takes (Says ",") ls x) (sym k.1) (says_sound (codes ",") ls (and_parts (says (codes ",") ls) (colon_comes true (behind ls)) k.0).0)

  pub generators_then : {B : Type 0} → 1 ≤ less → (Q : Shape) (k : List Generator → Reader B) → Filled Q → ((xs : List Generator) (rest : List Lexeme) → Refuses Q rest (k xs rest))
      → (last : Generator) (ls : List Lexeme) → Refuses (MoreGenerators less then Q) ls (others_from another_generator (λ last. generator_from low) last ls and_then k)
  unfolding domain_rank
  generators_then some Q k filled more last ls =
      let d = domain_filled set_operations less refl some in
      sep_then another_generator (λ last. generator_from low) (Says ",") (AGenerator less) (MoreGenerators less) another_sound (no_generator less) (another_gen less)
      (then_lifts SomeNames (Word (codes ":") then ADomain set_operations less) (λ front h. h) (then_lifts (Word (codes ":")) (ADomain set_operations less) (λ front h. h) (domain_lifts set_operations less)))
      (then_filled SomeNames (Word (codes ":") then ADomain set_operations less) names_filled (then_filled (Word (codes ":")) (ADomain set_operations less) (word_filled (codes ":")) d))
      (λ last. generator_refuses some) (λ last. generator_taken) Q k (generators_lift less) filled more last ls
