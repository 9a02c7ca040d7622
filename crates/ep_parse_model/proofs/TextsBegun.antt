-- Where a text is refused, the tokens before can be completed, and where it is too high, a higher text goes on.
use Rattle.std.specs.Prelude.{◌≡◌, ℕ, zero, suc, ℤ, pos, ◌≤◌, ◌⊎◌, Bool, true, false, List, [], ◌∷◌, ◌++◌, length, Option, Some, None, codes, refl}
use Rattle.std.proofs.Common.{ap, append-nil, append_assoc, arith, inl, inr, sym, subst, ◌∙◌}
use Rattle.std.proofs.Math.Nat.{max-le}
use Rattle.ep_base.specs.declared.names.Name.{Name}
use Rattle.ep_base.specs.declared.places.Place.{Place}
use Rattle.ep_parse_model.specs.declared.openings.Allowed.{Allowed}
use Rattle.ep_parse_model.specs.declared.openings.Opening.{Opening}
use Rattle.ep_parse_parts.specs.DomainReaders.{place_next}
use Rattle.ep_parse_parts.specs.OperandReaders.{Lower, expression_next}
use Rattle.ep_parse_parts.specs.Readers.{Read, Reader, behind, behind_comma, either_reader, high, if_some, meant_by, name_from, name_in, next_in, number_from, others_from, says, took, word_from, wrong, ◌and_then◌}
use Rattle.ep_parse_parts.specs.Sayings.{says_number}
use Rattle.ep_parse_expr.proofs.Completing.{ADomain, AnExpr, Filled, Lifts, Refuses, Shape, Word, domain_filled, domain_lifts, expr_filled, next_then, refuses_as, refuses_behind, refuses_chosen, refuses_made, refuses_then, refuses_took, refuses_wrong, somewhere, then_filled, word_filled, word_refuses, word_then, ◌then◌}
use Rattle.ep_parse_expr.proofs.CompletingParts.{AreOpen, domain_taken, expr_then, sep_refuses, unlimited}
use Rattle.ep_parse_parts.proofs.Holding.{Holds, Takes, holds_as, says_sound}
use Rattle.ep_parse_parts.proofs.SoundParts.{AreSound, comma_sound}
use Rattle.ep_parse_expr.proofs.Steady.{left_by}
use Rattle.ep_parse_expr.proofs.SteadyLists.{grouped}
use Rattle.ep_parse_model.proofs.Fitting.{Fits, all_lettings, one_objective, opening_of}
use Rattle.ep_parse_model.proofs.GroupsSound.{MoreGroups, MorePlaced, Placed, exprs_made, group_sound, groups_made, placed_made, placed_names_sound, placed_sound}
use Rattle.ep_parse_model.proofs.TextsAgain.{Behind_word}
use Rattle.ep_parse_model.proofs.TextsSound.{Opens, allowed_sound, are_openings, be_sound, bracket_names_sound, line_sound, meant_by-related, number_sound}
use Rattle.ep_parse_model.specs.TextReaders.{allowed_behind, allowed_statement_from, allows, be_from, bracket_names_from, branching_from, expressions_from, expressions_within, group_from, groups_from, let_from, letting_from, line_from, model_from, params_from, placed_name_from, placed_name_in, placed_names_from, stated_from, statement_behind, statement_words, statements_within, value_from}
use Rattle.ep_tree.specs.Heights.{domain_height}
use Rattle.ep_tree.specs.Phrases.{From, Is, Lexeme, Phrase, PlacedNames, Says, Saying, a_name, a_number, a_word, ◌followed_by◌}
use Rattle.ep_tree.specs.Spelling.{Spells, domain_rank, domains, implications, rank}
use Rattle.ep_tree.specs.StatementSpelling.{LanguageLine, SaysBe, SpellsExpressions, SpellsGroup, SpellsGroups, SpellsModel, SpellsNames, SpellsParams, SpellsSense, SpellsStated, SpellsStatement, SpellsStatements}
use Rattle.ep_tree.specs.Statements.{Group, StatementTree, TextTree, branching, constraints, decided, domain_letting, given, heuristic, highest_group, highest_of, letting, objective, requirements, stated_height, statement_height, text_height}
use Rattle.ep_tree.specs.Trees.{DomainTree, ExprTree}

abbrev origin : Place
origin = record { line = 0; column = 0 }

-- What is refused is refused in the whole, and so is what is refused behind it.
then_whole : {A B : Type 0} (W : Shape) (ls : List Lexeme) (r : Read A) (k : A → Reader B) → Refuses W ls r → ((x : A) (rest : List Lexeme) → r ≡ took x rest → Refuses W ls (k x rest)) → Refuses W ls (r and_then k)
then_whole W ls (took x rest) k h go = go x rest refl
then_whole {A} {B} W ls (wrong rest) k h go = record { wrong_at = λ z e. h.wrong_at z (ap wrong (ap (λ (r : Read B). left_by r) e)); high_at = λ z e. absurd cc }
then_whole {A} {B} W ls (high rest) k h go = record { wrong_at = λ z e. absurd cc; high_at = λ z e. h.high_at z (ap high (ap (λ (r : Read B). left_by r) e)) }

-- ---- names

abbrev APlaced : Shape
APlaced b front = (x : Name × Place) × Placed x front

abbrev MoreNames : Shape
MoreNames b front = (xs : List (Name × Place)) × MorePlaced xs front

abbrev ANames : Shape
ANames b front = (xs : List (Name × Place)) × PlacedNames xs front

placed_filled : Filled APlaced
placed_filled = record { some = λ b. (somewhere (a_name (codes "x")) ∷ [], ((codes "x", origin), (refl, (origin, refl)))) }

placed_refuses : (ls : List Lexeme) → Refuses APlaced ls (placed_name_from ls)
unfolding placed_name_from placed_name_in
placed_refuses [] = refuses_wrong APlaced []
placed_refuses (l ∷ ls) = go l.saying
  where
    go : (s : Saying) → Refuses APlaced (l ∷ ls) (placed_name_in l s ls)
    go (a_name x) = refuses_took APlaced (l ∷ ls) ls (x, l.place)
    go (a_number n) = refuses_wrong APlaced (l ∷ ls)
    go (a_word w) = refuses_wrong APlaced (l ∷ ls)

placed_taken : (ls : List Lexeme) → Holds (λ x rest. Takes (APlaced true) ls rest) (placed_name_from ls)
placed_taken ls = holds_as (λ x rest. Takes (Placed x) ls rest) (λ x rest. Takes (APlaced true) ls rest) (placed_name_from ls) (placed_sound ls) (λ x rest t. record { front = t.front; parts = t.parts; spelled = (x, t.spelled) })

no_names : (b : Bool) → MoreNames b []
unfolding MorePlaced
no_names b = ([], refl)

another_name : (b : Bool) (front : List Lexeme) → (Says "," followed_by APlaced b followed_by MoreNames b) front → MoreNames b front
unfolding MorePlaced
another_name b front h = let k = h.4 in (k.3.0 ∷ k.4.0, (h.0, h.1, h.2, h.3, (k.0, k.1, k.2, k.3.1, k.4.1)))

names_refuse : (ls : List Lexeme) → Refuses ANames ls (placed_names_from ls)
unfolding placed_names_from
names_refuse ls =
    refuses_as (APlaced then MoreNames) ANames ls _ (λ b front h. (h.3.0 ∷ h.4.0, placed_made h.3.0 h.4.0 front (h.0, h.1, h.2, h.3.1, h.4.1)))
    (refuses_then APlaced MoreNames ls (placed_name_from ls) _ (placed_refuses ls) (placed_taken ls) (λ front h. h) (record { some = λ b. ([], no_names b) })
    (λ x rest e. refuses_made MoreNames rest (others_from behind_comma (λ last. placed_name_from) x rest) (λ xs. x ∷ xs)
    (sep_refuses behind_comma (λ last. placed_name_from) (Says ",") APlaced MoreNames comma_sound no_names another_name (λ front h. h) placed_filled (λ last. placed_refuses) (λ last. placed_taken) x rest)))

names_taken : (ls : List Lexeme) → Holds (λ x rest. Takes (ANames true) ls rest) (placed_names_from ls)
names_taken ls = holds_as (λ xs rest. Takes (PlacedNames xs) ls rest) (λ x rest. Takes (ANames true) ls rest) (placed_names_from ls) (placed_names_sound ls) (λ xs rest t. record { front = t.front; parts = t.parts; spelled = (xs, t.spelled) })

-- names in brackets, or none
abbrev ABracketNames : Shape
ABracketNames b front = (xs : List (Name × Place)) × SpellsNames xs front

no_bracket_names : (b : Bool) → ABracketNames b []
unfolding SpellsNames
no_bracket_names b = ([], refl)

some_bracket_names : (b : Bool) (front : List Lexeme) → ANames b front → ABracketNames b front
unfolding SpellsNames PlacedNames
some_bracket_names b front h = go h.0 h.1
  where
    go : (xs : List (Name × Place)) → PlacedNames xs front → ABracketNames b front
    go [] k = absurd k
    go (x ∷ xs) k = (x ∷ xs, k)

bracket_names_refuse : (ls : List Lexeme) → Refuses ABracketNames ls (bracket_names_from ls)
unfolding bracket_names_from
bracket_names_refuse ls =
    refuses_chosen ABracketNames (says (codes "]") ls) _ _ ls (λ _. refuses_took ABracketNames ls ls []) (λ _. refuses_as ANames ABracketNames ls (placed_names_from ls) some_bracket_names (names_refuse ls))

bracket_names_taken : (ls : List Lexeme) → Holds (λ x rest. Takes (ABracketNames true) ls rest) (bracket_names_from ls)
bracket_names_taken ls = holds_as (λ xs rest. Takes (SpellsNames xs) ls rest) (λ x rest. Takes (ABracketNames true) ls rest) (bracket_names_from ls) (bracket_names_sound ls) (λ xs rest t. record { front = t.front; parts = t.parts; spelled = (xs, t.spelled) })

-- ---- the language line

abbrev ANumber : ℤ → Shape
ANumber n b = Is (a_number n)

number_filled : (n : ℤ) → Filled (ANumber n)
number_filled n = record { some = λ b. (somewhere (a_number n) ∷ [], (origin, refl)) }

number_refuses : (n : ℤ) (ls : List Lexeme) → Refuses (ANumber n) ls (number_from n ls)
unfolding number_from
number_refuses n [] = refuses_wrong (ANumber n) []
number_refuses n (l ∷ ls) =
    refuses_chosen (ANumber n) (says_number n l.saying) (λ all. took l.place ls) (λ all. wrong all) (l ∷ ls) (λ _. refuses_took (ANumber n) (l ∷ ls) ls l.place) (λ _. refuses_wrong (ANumber n) (l ∷ ls))

abbrev AfterMajor : Shape
AfterMajor = Word (codes ".") then ANumber (pos 0)

abbrev AfterEssence : Shape
AfterEssence = ANumber (pos 1) then AfterMajor

abbrev AfterLanguage : Shape
AfterLanguage = Word (codes "ESSENCE'") then AfterEssence

abbrev ALine : Shape
ALine b = LanguageLine

after_major_filled : Filled AfterMajor
after_major_filled = then_filled (Word (codes ".")) (ANumber (pos 0)) (word_filled (codes ".")) (number_filled (pos 0))

after_essence_filled : Filled AfterEssence
after_essence_filled = then_filled (ANumber (pos 1)) AfterMajor (number_filled (pos 1)) after_major_filled

after_language_filled : Filled AfterLanguage
after_language_filled = then_filled (Word (codes "ESSENCE'")) AfterEssence (word_filled (codes "ESSENCE'")) after_essence_filled

line_refuses : (ls : List Lexeme) → Refuses ALine ls (line_from ls)
unfolding line_from
line_refuses ls =
    word_then (codes "language") AfterLanguage ls _ after_language_filled
    (λ _ a. word_then (codes "ESSENCE'") AfterEssence a _ after_essence_filled
    (λ _ b. refuses_then (ANumber (pos 1)) AfterMajor b (number_from (pos 1) b) _ (number_refuses (pos 1) b) (number_sound (pos 1) b) (λ front h. h) after_major_filled
    (λ _ c _. word_then (codes ".") (ANumber (pos 0)) c _ (number_filled (pos 0)) (λ _ d. number_refuses (pos 0) d))))

-- ---- lettings

abbrev ABe : Shape
ABe b = SaysBe

be_filled : Filled ABe
be_filled = record { some = λ b. (somewhere (a_word (codes "be")) ∷ [], inl (origin, refl)) }

be_refuses : (ls : List Lexeme) → Refuses ABe ls (be_from ls)
unfolding be_from
be_refuses ls =
    refuses_chosen ABe (says (codes "be") ls) _ _ ls (λ _. refuses_as (Word (codes "be")) ABe ls (word_from (codes "be") ls) (λ b front h. inl h) (word_refuses (codes "be") ls))
    (λ _. refuses_as (Word (codes "=")) ABe ls (word_from (codes "=") ls) (λ b front h. inr h) (word_refuses (codes "=") ls))

-- a statement behind its word
abbrev ABehind : Opening → ℕ → Shape
ABehind what most b front = (s : StatementTree) × (opening_of s ≡ what) × (b ≡ true → statement_height s ≤ most) × Behind_word s front

module _ (less : ℕ) (some : 1 ≤ less) (low : Lower) (sound : AreSound less low) (good : AreOpen less low) where
  abbrev Dom : Shape
  Dom = ADomain domains less

  abbrev Ex : Shape
  Ex = AnExpr implications less

  dom_filled : Filled Dom
  unfolding domain_rank
  dom_filled = domain_filled domains less refl some

  ex_filled : Filled Ex
  unfolding rank
  ex_filled = expr_filled implications less refl some

  ex_refuses : (ls : List Lexeme) → Refuses Ex ls (low.expr implications ls)
  unfolding rank
  ex_refuses ls = good.expr implications refl ls

  -- ---- groups

  abbrev AGroup : Shape
  AGroup b front = (g : Group) × (b ≡ true → domain_height g.domain ≤ less) × SpellsGroup g front

  abbrev AfterNames : Shape
  AfterNames = Word (codes ":") then Dom

  after_names_filled : Filled AfterNames
  after_names_filled = then_filled (Word (codes ":")) Dom (word_filled (codes ":")) dom_filled

  group_refuses : (ls : List Lexeme) → Refuses AGroup ls (group_from low ls)
  unfolding group_from
  group_refuses ls =
      refuses_as (ANames then AfterNames) AGroup ls _
      (λ b front h. (record { names = h.3.0; domain = h.4.4.0 }, h.4.4.1, (h.0, h.1, h.2, h.3.1, (h.4.0, h.4.1, h.4.2, h.4.3, h.4.4.2))))
      (refuses_then ANames AfterNames ls (placed_names_from ls) _ (names_refuse ls) (names_taken ls) (λ front h. h) after_names_filled
      (λ names rest _. word_then (codes ":") Dom rest _ dom_filled (λ p next. refuses_made Dom next (low.domain domains next) (λ d. record { names = names; domain = d }) (good.domain domains next))))

  group_taken : (ls : List Lexeme) → Holds (λ g rest. Takes (AGroup true) ls rest) (group_from low ls)
  group_taken ls = record { holds = λ g rest e. let s = group_sound less low sound ls in let h = s.holds g rest e in record { front = h.0.front; parts = h.0.parts; spelled = (g, (λ _. h.1), h.0.spelled) } }

  group_lifts : Lifts AGroup
  group_lifts front h = (h.0, (λ e. unlimited (domain_height h.0.domain) less e), h.2)

  group_filled : Filled AGroup
  unfolding PlacedNames
  group_filled = record {
    some = λ b. let d = dom_filled.some b in (
      somewhere (a_name (codes "x")) ∷ somewhere (a_word (codes ":")) ∷ d.0,
      (
        record { names = (codes "x", origin) ∷ []; domain = d.1.0 },
        d.1.1,
        (somewhere (a_name (codes "x")) ∷ [], somewhere (a_word (codes ":")) ∷ d.0, refl, (refl, (origin, refl)), (somewhere (a_word (codes ":")) ∷ [], d.0, refl, (origin, refl), d.1.2)),
      ),
    );
  }

  abbrev FurtherGroups : Shape
  FurtherGroups b front = (gs : List Group) × (b ≡ true → highest_group gs ≤ less) × MoreGroups gs front

  abbrev AGroups : Shape
  AGroups b front = (gs : List Group) × (b ≡ true → highest_group gs ≤ less) × SpellsGroups gs front

  no_groups : (b : Bool) → FurtherGroups b []
  unfolding MoreGroups highest_group
  no_groups b = ([], (λ _. omega arith), refl)

  another_group : (b : Bool) (front : List Lexeme) → (Says "," followed_by AGroup b followed_by FurtherGroups b) front → FurtherGroups b front
  unfolding MoreGroups highest_group
  another_group b front h = let k = h.4 in (k.3.0 ∷ k.4.0, (λ e. max-le (k.3.1 e) (k.4.1 e)), (h.0, h.1, h.2, h.3, (k.0, k.1, k.2, k.3.2, k.4.2)))

  groups_refuse : (ls : List Lexeme) → Refuses AGroups ls (groups_from low ls)
  unfolding groups_from highest_group
  groups_refuse ls =
      refuses_as (AGroup then FurtherGroups) AGroups ls _
      (λ b front h. (h.3.0 ∷ h.4.0, (λ e. max-le (h.3.1 e) (h.4.1 e)), groups_made h.3.0 h.4.0 front (h.0, h.1, h.2, h.3.2, h.4.2)))
      (refuses_then AGroup FurtherGroups ls (group_from low ls) _ (group_refuses ls) (group_taken ls) group_lifts (record { some = λ b. ([], no_groups b) })
      (λ g rest e. refuses_made FurtherGroups rest (others_from behind_comma (λ last. group_from low) g rest) (λ gs. g ∷ gs)
      (sep_refuses behind_comma (λ last. group_from low) (Says ",") AGroup FurtherGroups comma_sound no_groups another_group group_lifts group_filled (λ last. group_refuses) (λ last. group_taken) g rest)))

  groups_filled : Filled AGroups
  unfolding SpellsGroups highest_group
  groups_filled = record { some = λ b. let g = group_filled.some b in (g.0, (g.1.0 ∷ [], (λ e. max-le (g.1.1 e) (omega arith)), g.1.2)) }

  -- ---- expressions

  abbrev AExprs : Shape
  AExprs b front = (es : List ExprTree) × (b ≡ true → highest_of es ≤ less) × SpellsExpressions es front

  -- what stands behind an expression
  abbrev AfterExpr : Shape
  AfterExpr b front = (front ≡ []) ⊎ (Word (codes ",") then AExprs) b front

  no_exprs : (b : Bool) → AExprs b []
  unfolding SpellsExpressions highest_of
  no_exprs b = ([], (λ _. omega arith), refl)

  exprs_filled : Filled AExprs
  exprs_filled = record { some = λ b. ([], no_exprs b) }

  exprs_joined : (b : Bool) (front : List Lexeme) → (Ex then AfterExpr) b front → AExprs b front
  unfolding SpellsExpressions highest_of
  exprs_joined b front h = go h.4
    where
      go : ((h.1 ≡ []) ⊎ (Word (codes ",") then AExprs) b h.1) → AExprs b front
      go (inl nil) = (h.3.0 ∷ [], (λ e. max-le (h.3.1 e) (omega arith)), (h.0, h.1, h.2, h.3.2, inl nil))
      go (inr k) = (h.3.0 ∷ k.4.0, (λ e. max-le (h.3.1 e) (k.4.1 e)), exprs_made h.3.0 k.4.0 front (h.0, h.1, h.2, h.3.2, (k.0, k.1, k.2, k.3, k.4.2)))

  exprs_refuse : (n : ℕ) (ls : List Lexeme) → Refuses AExprs ls (expressions_within low n ls)
  unfolding expressions_within
  exprs_refuse zero ls = refuses_took AExprs ls ls []
  exprs_refuse (suc n) ls =
      refuses_chosen AExprs (expression_next ls) _ _ ls
      (λ _. refuses_as (Ex then AfterExpr) AExprs ls _ exprs_joined
      (expr_then less low sound good AfterExpr ls _ (record { some = λ b. ([], inl refl) })
      (λ e rest _. refuses_chosen AfterExpr (says (codes ",") rest) _ _ rest
      (λ c. next_then (codes ",") AExprs AfterExpr rest _ (says_sound (codes ",") rest c) exprs_filled (λ b front h. inr h) (refuses_made AExprs (behind rest) (expressions_within low n (behind rest)) (λ es. e ∷ es) (exprs_refuse n (behind rest))))
      (λ _. refuses_took AfterExpr rest rest (e ∷ [])))))
      (λ _. refuses_took AExprs ls ls [])

  -- ---- lettings

  -- what is let where no domain is stated
  abbrev ALet : Shape
  ALet b front = (Word (codes "domain") then Dom) b front ⊎ Ex b front

  abbrev AfterStated : Shape
  AfterStated = ABe then Ex

  abbrev AfterColon : Shape
  AfterColon = Dom then AfterStated

  -- what stands behind the name of a letting
  abbrev AfterName : Shape
  AfterName b front = (Word (codes ":") then AfterColon) b front ⊎ (ABe then ALet) b front

  let_filled : Filled ALet
  let_filled = record { some = λ b. let e = ex_filled.some b in (e.0, inr e.1) }

  after_stated_filled : Filled AfterStated
  after_stated_filled = then_filled ABe Ex be_filled ex_filled

  after_colon_filled : Filled AfterColon
  after_colon_filled = then_filled Dom AfterStated dom_filled after_stated_filled

  be_let_filled : Filled (ABe then ALet)
  be_let_filled = then_filled ABe ALet be_filled let_filled

  after_name_filled : Filled AfterName
  after_name_filled = record { some = λ b. let k = be_let_filled.some b in (k.0, inr k.1) }

  module _ (p : Place) (x : Name × Place) where
    value_refuses : (d : Option DomainTree) (ls : List Lexeme) → Refuses Ex ls (value_from low p x d ls)
    unfolding value_from
    value_refuses d ls = refuses_made Ex ls (low.expr implications ls) (letting p x.0 x.1 d) (ex_refuses ls)

    let_refuses : (ls : List Lexeme) → Refuses ALet ls (let_from low p x None ls)
    unfolding let_from
    let_refuses ls =
        refuses_chosen ALet (says (codes "domain") ls) _ _ ls
        (λ c. next_then (codes "domain") Dom ALet ls _ (says_sound (codes "domain") ls c) dom_filled (λ b front h. inl h) (refuses_made Dom (behind ls) (low.domain domains (behind ls)) (domain_letting p x.0 x.1) (good.domain domains (behind ls))))
        (λ _. refuses_as Ex ALet ls (value_from low p x None ls) (λ b front h. inr h) (value_refuses None ls))

    with_domain : (d : DomainTree) (ls : List Lexeme) → Refuses AfterStated ls (be_from ls and_then λ _ value. let_from low p x (Some d) value)
    unfolding let_from
    with_domain d ls = refuses_then ABe Ex ls (be_from ls) _ (be_refuses ls) (be_sound ls) (λ front h. h) ex_filled (λ _ value _. value_refuses (Some d) value)

    without : (ls : List Lexeme) → Refuses (ABe then ALet) ls (be_from ls and_then λ _ value. let_from low p x None value)
    without ls = refuses_then ABe ALet ls (be_from ls) _ (be_refuses ls) (be_sound ls) (λ front h. h) let_filled (λ _ value _. let_refuses value)

    -- what is read behind the name
    abbrev Behind_stated : Option DomainTree → Reader StatementTree
    Behind_stated d next = be_from next and_then λ _ value. let_from low p x d value

    after_name_refuses : (rest : List Lexeme) → Refuses AfterName rest (stated_from low rest and_then Behind_stated)
    unfolding stated_from
    after_name_refuses rest = go (says (codes ":") rest) refl
      where
        go : (b : Bool) → says (codes ":") rest ≡ b
            → Refuses AfterName rest (either_reader b (λ all. low.domain domains (behind all) and_then λ d next. took (Some d) next) (λ all. took None all) rest and_then Behind_stated)
        go true c =
            subst (λ r. Refuses AfterName rest r) (sym (grouped (low.domain domains (behind rest)) (λ d next. took (Some d) next) Behind_stated))
            (next_then (codes ":") AfterColon AfterName rest _ (says_sound (codes ":") rest c) after_colon_filled (λ b front h. inl h)
            (refuses_then Dom AfterStated (behind rest) (low.domain domains (behind rest)) _ (good.domain domains (behind rest)) (domain_taken less low sound good domains (behind rest)) (domain_lifts domains less) after_stated_filled
            (λ d next _. with_domain d next)))
        go false c = refuses_as (ABe then ALet) AfterName rest (Behind_stated None rest) (λ b front h. inr h) (without rest)

  letting_made : (b : Bool) (front : List Lexeme) → (APlaced then AfterName) b front → ABehind Opening.Letting less b front
  unfolding PlacedNames SpellsStated statement_height stated_height
  letting_made b front h = go h.4
    where
      value : (k : (ABe then ALet) b h.1) → ALet b k.1 → ABehind Opening.Letting less b front
      value k (inl d) = (domain_letting origin h.3.0.0 h.3.0.1 d.4.0, refl, d.4.1, (h.0, h.1, h.2, h.3.1, (k.0, k.1, k.2, k.3, (d.0, d.1, d.2, d.3, d.4.2))))
      value k (inr e) =
          (letting origin h.3.0.0 h.3.0.1 None e.0, refl, (λ t. max-le (omega arith) (e.1 t)), (h.0, h.1, h.2, h.3.1, ([], h.1, refl, refl, (k.0, k.1, k.2, k.3, e.2))))

      go : ((Word (codes ":") then AfterColon) b h.1 ⊎ (ABe then ALet) b h.1) → ABehind Opening.Letting less b front
      go (inl k) =
          let d = k.4 in
          let v = d.4 in (
            letting origin h.3.0.0 h.3.0.1 (Some d.3.0) v.4.0,
            refl,
            (λ t. max-le (d.3.1 t) (v.4.1 t)),
            (h.0, h.1, h.2, h.3.1, (k.0 ++ d.0, d.1, k.2 ∙ ap (λ z. k.0 ++ z) d.2 ∙ sym (append_assoc k.0 d.0 d.1), (k.0, d.0, refl, k.3, d.3.2), (v.0, v.1, v.2, v.3, v.4.2))),
          )
      go (inr k) = value k k.4

  pub letting_refuses : (p : Place) (ls : List Lexeme) → Refuses (ABehind Opening.Letting less) ls (letting_from low p ls)
  unfolding letting_from
  letting_refuses p ls =
      refuses_as (APlaced then AfterName) (ABehind Opening.Letting less) ls _ letting_made
      (refuses_then APlaced AfterName ls (placed_name_from ls) _ (placed_refuses ls) (placed_taken ls) (λ front h. h) after_name_filled (λ x rest _. after_name_refuses p x rest))

  -- ---- branchings

  abbrev AfterBracket : Shape
  AfterBracket = ABracketNames then Word (codes "]")

  abbrev AfterOn : Shape
  AfterOn = Word (codes "[") then AfterBracket

  bracket_filled : Filled ABracketNames
  bracket_filled = record { some = λ b. ([], no_bracket_names b) }

  after_bracket_filled : Filled AfterBracket
  after_bracket_filled = then_filled ABracketNames (Word (codes "]")) bracket_filled (word_filled (codes "]"))

  after_on_filled : Filled AfterOn
  after_on_filled = then_filled (Word (codes "[")) AfterBracket (word_filled (codes "[")) after_bracket_filled

  branching_made : (b : Bool) (front : List Lexeme) → (Word (codes "on") then AfterOn) b front → ABehind Opening.Branching less b front
  unfolding statement_height
  branching_made b front h =
      let k = h.4 in let n = k.4 in
      (branching origin n.3.0, refl, (λ _. omega arith), (h.0, h.1, h.2, h.3, (k.0, k.1, k.2, k.3, (n.0, n.1, n.2, n.3.1, n.4))))

  branching_refuses : (p : Place) (ls : List Lexeme) → Refuses (ABehind Opening.Branching less) ls (branching_from p ls)
  unfolding branching_from
  branching_refuses p ls =
      refuses_as (Word (codes "on") then AfterOn) (ABehind Opening.Branching less) ls _ branching_made
      (word_then (codes "on") AfterOn ls _ after_on_filled
      (λ _ rest. word_then (codes "[") AfterBracket rest _ after_bracket_filled
      (λ _ next. refuses_then ABracketNames (Word (codes "]")) next (bracket_names_from next) _ (bracket_names_refuse next) (bracket_names_taken next) (λ front h. h) (word_filled (codes "]"))
      (λ names end _. refuses_made (Word (codes "]")) end (word_from (codes "]") end) (λ _. branching p names) (word_refuses (codes "]") end)))))

  -- ---- statements

  abbrev AName : Shape
  AName b front = (x : Name) × Is (a_name x) front

  name_refuses : (ls : List Lexeme) → Refuses AName ls (name_from ls)
  unfolding name_from name_in
  name_refuses [] = refuses_wrong AName []
  name_refuses (l ∷ ls) = go l.saying
    where
      go : (s : Saying) → Refuses AName (l ∷ ls) (name_in l s ls)
      go (a_name x) = refuses_took AName (l ∷ ls) ls x
      go (a_number n) = refuses_wrong AName (l ∷ ls)
      go (a_word w) = refuses_wrong AName (l ∷ ls)

  behind_refuses : (p : Place) (what : Opening) (ls : List Lexeme) → Refuses (ABehind what less) ls (statement_behind low p what ls)
  unfolding statement_behind statement_height
  behind_refuses p Opening.Given ls =
      refuses_made (ABehind Opening.Given less) ls (groups_from low ls) (given p) (refuses_as AGroups (ABehind Opening.Given less) ls (groups_from low ls) (λ b front h. (given origin h.0, refl, h.1, h.2)) (groups_refuse ls))
  behind_refuses p Opening.Find ls =
      refuses_made (ABehind Opening.Find less) ls (groups_from low ls) (decided p) (refuses_as AGroups (ABehind Opening.Find less) ls (groups_from low ls) (λ b front h. (decided origin h.0, refl, h.1, h.2)) (groups_refuse ls))
  behind_refuses p Opening.Letting ls = letting_refuses p ls
  behind_refuses p Opening.Where ls =
      refuses_made (ABehind Opening.Where less) ls (expressions_from low ls) (requirements p)
      (refuses_as AExprs (ABehind Opening.Where less) ls (expressions_from low ls) (λ b front h. (requirements origin h.0, refl, h.1, h.2)) (exprs_refuse (length ls) ls))
  behind_refuses p Opening.SuchThat ls =
      refuses_as (Word (codes "that") then AExprs) (ABehind Opening.SuchThat less) ls _ (λ b front h. (constraints origin h.4.0, refl, h.4.1, (h.0, h.1, h.2, h.3, h.4.2)))
      (word_then (codes "that") AExprs ls _ exprs_filled (λ _ next. refuses_made AExprs next (expressions_from low next) (constraints p) (exprs_refuse (length next) next)))
  behind_refuses p (Opening.Objective sense) ls =
      refuses_made (ABehind (Opening.Objective sense) less) ls (low.expr implications ls) (objective p sense)
      (refuses_as Ex (ABehind (Opening.Objective sense) less) ls (low.expr implications ls) (λ b front h. (objective origin sense h.0, refl, h.1, h.2)) (ex_refuses ls))
  behind_refuses p Opening.Branching ls = branching_refuses p ls
  behind_refuses p Opening.Heuristic ls =
      refuses_made (ABehind Opening.Heuristic less) ls (name_from ls) (heuristic p)
      (refuses_as AName (ABehind Opening.Heuristic less) ls (name_from ls) (λ b front h. (heuristic origin h.0, refl, (λ _. omega arith), h.1)) (name_refuses ls))

  behind_filled : (what : Opening) → Filled (ABehind what less)
  unfolding statement_height SpellsNames
  behind_filled Opening.Given = record { some = λ b. let g = groups_filled.some b in (g.0, (given origin g.1.0, refl, g.1.1, g.1.2)) }
  behind_filled Opening.Find = record { some = λ b. let g = groups_filled.some b in (g.0, (decided origin g.1.0, refl, g.1.1, g.1.2)) }
  behind_filled Opening.Letting = record { some = λ b. let k = then_filled APlaced AfterName placed_filled after_name_filled in let x = k.some b in (x.0, letting_made b x.0 x.1) }
  behind_filled Opening.Where = record { some = λ b. let e = no_exprs b in ([], (requirements origin e.0, refl, e.1, e.2)) }
  behind_filled Opening.SuchThat = record {
    some = λ b. let k = then_filled (Word (codes "that")) AExprs (word_filled (codes "that")) exprs_filled in let h = k.some b in
        (h.0, (constraints origin h.1.4.0, refl, h.1.4.1, (h.1.0, h.1.1, h.1.2, h.1.3, h.1.4.2)));
  }
  behind_filled (Opening.Objective sense) = record { some = λ b. let e = ex_filled.some b in (e.0, (objective origin sense e.1.0, refl, e.1.1, e.1.2)) }
  behind_filled Opening.Branching = record { some = λ b. let k = then_filled (Word (codes "on")) AfterOn (word_filled (codes "on")) after_on_filled in let x = k.some b in (x.0, branching_made b x.0 x.1) }
  behind_filled Opening.Heuristic = record { some = λ b. (somewhere (a_name (codes "x")) ∷ [], (heuristic origin (codes "x"), refl, (λ _. omega arith), (origin, refl))) }

  -- a statement that may come
  abbrev AStatement : Allowed → Shape
  AStatement allowed b front = (s : StatementTree) × (allows allowed (opening_of s) ≡ true) × (b ≡ true → statement_height s ≤ less) × SpellsStatement s front

  -- what a word begins is a statement at the word's place
  at_word : (l : Lexeme) (allowed : Allowed) (b : Bool) (what : Opening) (ts : List Lexeme) → Opens what (l ∷ []) → allows allowed what ≡ true → ABehind what less b ts → AStatement allowed b (l ∷ ts)
  unfolding SpellsStatement statement_height
  at_word l allowed b what ts opened may h = go h.0 h.1 h.2 h.3
    where
      joined : (P Q : Phrase) → P (l ∷ []) → Q ts → From l.place (P followed_by Q) (l ∷ ts)
      joined P Q w k = (refl, (l ∷ [], ts, refl, w, k))

      first : (s : StatementTree) → opening_of s ≡ what → Opens (opening_of s) (l ∷ [])
      first s is = subst (λ o. Opens o (l ∷ [])) (sym is) opened

      comes : (s : StatementTree) → opening_of s ≡ what → allows allowed (opening_of s) ≡ true
      comes s is = ap (allows allowed) is ∙ may

      go : (s : StatementTree) → opening_of s ≡ what → (b ≡ true → statement_height s ≤ less) → Behind_word s ts → AStatement allowed b (l ∷ ts)
      go (given p gs) is le k = (given l.place gs, comes (given p gs) is, le, joined (Says "given") (SpellsGroups gs) (first (given p gs) is) k)
      go (decided p gs) is le k = (decided l.place gs, comes (decided p gs) is, le, joined (Says "find") (SpellsGroups gs) (first (decided p gs) is) k)
      go (letting p x q d e) is le k = (letting l.place x q d e, comes (letting p x q d e) is, le, joined (Says "letting") _ (first (letting p x q d e) is) k)
      go (domain_letting p x q d) is le k = (domain_letting l.place x q d, comes (domain_letting p x q d) is, le, joined (Says "letting") _ (first (domain_letting p x q d) is) k)
      go (requirements p es) is le k = (requirements l.place es, comes (requirements p es) is, le, joined (Says "where") (SpellsExpressions es) (first (requirements p es) is) k)
      go (constraints p es) is le k = (constraints l.place es, comes (constraints p es) is, le, joined (Says "such") (Says "that" followed_by SpellsExpressions es) (first (constraints p es) is) k)
      go (objective p sense e) is le k = (objective l.place sense e, comes (objective p sense e) is, le, joined (SpellsSense sense) (Spells implications e) (first (objective p sense e) is) k)
      go (branching p xs) is le k = (branching l.place xs, comes (branching p xs) is, le, joined (Says "branching") _ (first (branching p xs) is) k)
      go (heuristic p x) is le k = (heuristic l.place x, comes (heuristic p x) is, le, joined (Says "heuristic") (Is (a_name x)) (first (heuristic p x) is) k)

  -- a token that begins what a reader reads behind it
  token_taken : (l : Lexeme) (ls : List Lexeme) → Takes (λ front. front ≡ l ∷ []) (l ∷ ls) ls
  token_taken l ls = record { front = l ∷ []; parts = refl; spelled = refl }

  allowed_refuses : (allowed : Allowed) (ls : List Lexeme) → Refuses (AStatement allowed) ls (allowed_statement_from low allowed ls)
  unfolding allowed_statement_from next_in
  allowed_refuses allowed [] = refuses_wrong (AStatement allowed) []
  allowed_refuses allowed (l ∷ ls) = go (meant_by statement_words l.saying) refl
    where
      may : (what : Opening) → meant_by statement_words l.saying ≡ Some what → (b : Bool) → allows allowed what ≡ b
          → Refuses (AStatement allowed) (l ∷ ls) (either_reader b (λ z. statement_behind low (place_next z) what (behind z)) (λ z. wrong z) (l ∷ ls))
      may what e true k =
          refuses_behind (λ front. front ≡ l ∷ []) (ABehind what less) (AStatement allowed) (l ∷ ls) ls (statement_behind low l.place what ls) (token_taken l ls)
          (λ b front back is q. subst (λ z. AStatement allowed b (z ++ back)) (sym is) (at_word l allowed b what back (meant_by-related Opens statement_words are_openings l l.saying refl what e) k q))
          (behind_filled what) (behind_refuses l.place what ls)
      may what e false k = refuses_wrong (AStatement allowed) (l ∷ ls)

      go : (o : Option Opening) → meant_by statement_words l.saying ≡ o
          → Refuses (AStatement allowed) (l ∷ ls) (if_some o (λ what. either_reader (allows allowed what) (λ z. statement_behind low (place_next z) what (behind z)) (λ z. wrong z) (l ∷ ls)) (wrong (l ∷ ls)))
      go None e = refuses_wrong (AStatement allowed) (l ∷ ls)
      go (Some what) e = may what e (allows allowed what) refl

  -- ---- texts

  -- statements that may come
  abbrev AText : Allowed → Shape
  AText allowed b front = (ss : TextTree) × Fits allowed ss × (b ≡ true → text_height ss ≤ less) × SpellsStatements ss front

  no_text : (allowed : Allowed) (b : Bool) → AText allowed b []
  unfolding Fits text_height SpellsStatements
  no_text allowed b = ([], tt, (λ _. omega arith), refl)

  text_filled : (allowed : Allowed) → Filled (AText allowed)
  text_filled allowed = record { some = λ b. ([], no_text allowed b) }

  one_statement : (allowed : Allowed) (b : Bool) (front : List Lexeme) → AStatement allowed b front → AText allowed b front
  unfolding Fits text_height SpellsStatements
  one_statement allowed b front h = (h.0 ∷ [], (h.1, tt), (λ e. max-le (h.2 e) (omega arith)), (front, [], sym (append-nil front), h.3, refl))

  more_statements : (allowed : Allowed) (s : StatementTree) → allows allowed (opening_of s) ≡ true → statement_height s ≤ less → (b : Bool) (front back : List Lexeme) → SpellsStatement s front → AText (allowed_behind s allowed) b back
      → AText allowed b (front ++ back)
  unfolding Fits text_height SpellsStatements
  more_statements allowed s may le b front back h k = (s ∷ k.0, (may, k.1), (λ e. max-le le (k.2 e)), (front, back, refl, h, k.3))

  text_refuses : (n : ℕ) (allowed : Allowed) (ls : List Lexeme) → Refuses (AText allowed) ls (statements_within low n allowed ls)
  unfolding statements_within
  text_refuses zero allowed [] = refuses_took (AText allowed) [] [] []
  text_refuses (suc n) allowed [] = refuses_took (AText allowed) [] [] []
  text_refuses zero allowed (l ∷ ls) = refuses_wrong (AText allowed) (l ∷ ls)
  text_refuses (suc n) allowed (l ∷ ls) =
      then_whole (AText allowed) (l ∷ ls) (allowed_statement_from low allowed (l ∷ ls)) _ (refuses_as (AStatement allowed) (AText allowed) (l ∷ ls) _ (one_statement allowed) (allowed_refuses allowed (l ∷ ls)))
      (λ s rest e. let h = allowed_sound less low sound allowed l ls in let k = h.holds s rest e in
      refuses_behind (SpellsStatement s) (AText (allowed_behind s allowed)) (AText allowed) (l ∷ ls) rest _ k.0 (more_statements allowed s k.2 k.1) (text_filled (allowed_behind s allowed))
      (refuses_made (AText (allowed_behind s allowed)) rest (statements_within low n (allowed_behind s allowed) rest) (λ ss. s ∷ ss) (text_refuses n (allowed_behind s allowed) rest)))

  -- a model, and a parameter text
  abbrev pub AModel : Shape
  AModel b front = (ss : TextTree) × (b ≡ true → text_height ss ≤ less) × SpellsModel ss front

  abbrev pub AParams : Shape
  AParams b front = (ss : TextTree) × (b ≡ true → text_height ss ≤ less) × SpellsParams ss front

  pub model_refuses : (ls : List Lexeme) → Refuses AModel ls (model_from low ls)
  unfolding model_from SpellsModel
  model_refuses ls =
      refuses_as (ALine then AText Allowed.All) AModel ls _ (λ b front h. (h.4.0, h.4.2, (one_objective h.4.0 h.4.1, (h.0, h.1, h.2, h.3, h.4.3))))
      (refuses_then ALine (AText Allowed.All) ls (line_from ls) _ (line_refuses ls) (line_sound ls) (λ front h. h) (text_filled Allowed.All) (λ _ rest _. text_refuses (length rest) Allowed.All rest))

  pub params_refuses : (ls : List Lexeme) → Refuses AParams ls (params_from low ls)
  unfolding params_from SpellsParams
  params_refuses ls =
      refuses_chosen AParams (says (codes "language") ls) _ _ ls
      (λ _. refuses_as (ALine then AText Allowed.Lettings) AParams ls _ (λ b front h. (h.4.0, h.4.2, (all_lettings h.4.0 h.4.1, (h.0, h.1, h.2, inl h.3, h.4.3))))
      (refuses_then ALine (AText Allowed.Lettings) ls (line_from ls) _ (line_refuses ls) (line_sound ls) (λ front h. h) (text_filled Allowed.Lettings) (λ _ rest _. text_refuses (length rest) Allowed.Lettings rest)))
      (λ _. refuses_as (AText Allowed.Lettings) AParams ls _ (λ b front h. (h.0, h.2, (all_lettings h.0 h.1, ([], front, refl, inr refl, h.3)))) (text_refuses (length ls) Allowed.Lettings ls))
