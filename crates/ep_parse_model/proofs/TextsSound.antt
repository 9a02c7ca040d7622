-- What is taken as a statement, a model or a parameter text is spelled.
use Rattle.std.specs.Prelude.{◌≡◌, ℕ, zero, suc, ℤ, pos, ◌≤◌, Bool, true, false, List, [], ◌∷◌, ◌++◌, length, Option, Some, None, bytes_eq, codes, refl}
use Rattle.std.proofs.Common.{ap, arith, inl, inr, sym, subst, ◌∙◌}
use Rattle.std.proofs.Math.Nat.{max-le}
use Rattle.std.proofs.lemmas.Bool.Decides.{Decides-int_eq}
use Rattle.std.proofs.lemmas.Slice.Eq.{bytes_eq-Decides}
use Rattle.ep_base.specs.declared.names.Name.{Name}
use Rattle.ep_base.specs.declared.places.Place.{Place}
use Rattle.ep_parse_model.specs.declared.openings.Allowed.{Allowed}
use Rattle.ep_parse_model.specs.declared.openings.Opening.{Opening}
use Rattle.ep_parse_parts.specs.OperandReaders.{Lower}
use Rattle.ep_parse_parts.specs.Readers.{behind, found_or, looked_up, meant_by, next_in, number_from, says, word_from}
use Rattle.ep_parse_parts.specs.Sayings.{says_number}
use Rattle.ep_parse_parts.proofs.Holding.{Holds, Takes, holds_as, holds_chosen, holds_then, holds_took, holds_wrong, if_some_sound, says_sound, takes_as, takes_nothing, takes_then, takes_token, word_sound}
use Rattle.ep_parse_parts.proofs.SoundParts.{AreSound, IsDomain, IsExpr, name_sound, takes_domain, takes_expr}
use Rattle.ep_parse_model.proofs.Fitting.{Fits, all_lettings, one_objective, opening_of}
use Rattle.ep_parse_model.proofs.GroupsSound.{Placed, expressions_sound, groups_sound, placed_names_sound, placed_sound, whole}
use Rattle.ep_parse_model.specs.TextReaders.{allowed_behind, allowed_statement_from, allows, be_from, bracket_names_from, branching_from, let_from, letting_from, line_from, model_from, params_from, placed_names_from, stated_from, statement_behind, statement_words, statements_from, statements_within, value_from}
use Rattle.ep_tree.specs.Phrases.{From, Is, Lexeme, Phrase, PlacedNames, Says, Saying, Silence, a_name, a_number, a_word, ◌followed_by◌}
use Rattle.ep_tree.specs.Spelling.{Spells, SpellsDomain, domains, implications}
use Rattle.ep_tree.specs.StatementSpelling.{LanguageLine, SaysBe, SpellsExpressions, SpellsGroups, SpellsModel, SpellsNames, SpellsParams, SpellsSense, SpellsStated, SpellsStatement, SpellsStatements}
use Rattle.ep_tree.specs.Statements.{StatementTree, TextTree, branching, constraints, decided, domain_letting, given, heuristic, highest_group, highest_of, letting, objective, requirements, stated_height, statement_height, text_height}
use Rattle.ep_tree.specs.Trees.{DomainTree}

-- ---- the words of statements

-- each word of a table is a phrase of what it stands for
abbrev pub Related : {A : Type 0} → (A → Phrase) → List (List ℕ × A) → Type 0
Related P [] = Unit {0}
Related P (entry ∷ entries) = ((p : Place) → P entry.1 (record { place = p; saying = a_word entry.0 } ∷ [])) × Related P entries

module _ {A : Type 0} (P : A → Phrase) where
  found_related : (b : Bool) (w v : List ℕ) (p : Place) (y x : A) (other : Option A) → found_or b y other ≡ Some x → (b ≡ true → v ≡ w)
      → P y (record { place = p; saying = a_word v } ∷ []) → (other ≡ Some x → P x (record { place = p; saying = a_word w } ∷ [])) → P x (record { place = p; saying = a_word w } ∷ [])
  found_related true w v p y x other e same here there =
      subst (λ u. P x (record { place = p; saying = a_word u } ∷ [])) (same refl) (subst (λ z. P z (record { place = p; saying = a_word v } ∷ [])) (ap (λ o. or_this o) e) here)
    where
      or_this : Option A → A
      or_this None = x
      or_this (Some z) = z
  found_related false w v p y x other e same here there = there e

  looked_up-related : (entries : List (List ℕ × A)) → Related P entries → (p : Place) (w : List ℕ) (x : A) → looked_up entries w ≡ Some x → P x (record { place = p; saying = a_word w } ∷ [])
  unfolding looked_up
  looked_up-related [] h p w x e = absurd cc
  looked_up-related (entry ∷ entries) h p w x e =
      found_related (bytes_eq entry.0 w) w entry.0 p entry.1 x (looked_up entries w) e (λ k. (bytes_eq-Decides entry.0 w).0 k) (h.0 p) (looked_up-related entries h.1 p w x)

  pub meant_by-related : (entries : List (List ℕ × A)) → Related P entries → (l : Lexeme) (s : Saying) → l.saying ≡ s → (x : A) → meant_by entries s ≡ Some x → P x (l ∷ [])
  meant_by-related entries h l (a_word w) is x e = subst (λ s. P x (record { place = l.place; saying = s } ∷ [])) (sym is) (looked_up-related entries h l.place w x e)
  meant_by-related entries h l (a_name y) is x e = absurd cc
  meant_by-related entries h l (a_number n) is x e = absurd cc

-- the word that begins a statement
abbrev pub Opens : Opening → Phrase
Opens Opening.Given = Says "given"
Opens Opening.Find = Says "find"
Opens Opening.Letting = Says "letting"
Opens Opening.Where = Says "where"
Opens Opening.SuchThat = Says "such"
Opens (Opening.Objective sense) = SpellsSense sense
Opens Opening.Branching = Says "branching"
Opens Opening.Heuristic = Says "heuristic"

pub are_openings : Related Opens statement_words
unfolding SpellsSense
are_openings =
    (λ p. (p, refl), (λ p. (p, refl), (λ p. (p, refl), (λ p. (p, refl), (λ p. (p, refl), (λ p. inl (p, refl), (λ p. inr (p, refl), (λ p. inl (p, refl), (λ p. inr (p, refl), (λ p. (p, refl), (λ p. (p, refl), tt)))))))))))

-- a word at its place, and what stands behind it
headed : (a b : Phrase) (l : Lexeme) (ls rest : List Lexeme) → a (l ∷ []) → Takes b ls rest → Takes (From l.place (a followed_by b)) (l ∷ ls) rest
headed a b l ls rest h t =
    record { front = l ∷ t.front; parts = ap (λ x. l ∷ x) t.parts; spelled = (refl, (l ∷ [], t.front, refl, h, t.spelled)) }

-- ---- the language line

says_number-sound : (n : ℤ) (s : Saying) → says_number n s ≡ true → s ≡ a_number n
says_number-sound n (a_number m) e = ap a_number ((Decides-int_eq m n).0 e)
says_number-sound n (a_name x) e = absurd cc
says_number-sound n (a_word w) e = absurd cc

pub number_sound : (n : ℤ) (ls : List Lexeme) → Holds (λ p rest. Takes (Is (a_number n)) ls rest) (number_from n ls)
unfolding number_from
number_sound n [] = holds_wrong (λ p rest. Takes (Is (a_number n)) [] rest) []
number_sound n (l ∷ ls) =
    let Q : Place → List Lexeme → Type 0 = λ p rest. Takes (Is (a_number n)) (l ∷ ls) rest in
    holds_chosen Q (says_number n l.saying) _ _ (l ∷ ls) (λ e. holds_took Q l.place ls (takes_token l ls (a_number n) (says_number-sound n l.saying e))) (λ _. holds_wrong Q (l ∷ ls))

pub line_sound : (ls : List Lexeme) → Holds (λ p rest. Takes LanguageLine ls rest) (line_from ls)
unfolding line_from
line_sound ls =
    let Q : Place → List Lexeme → Type 0 = λ p rest. Takes LanguageLine ls rest in
    let D : Phrase = Says "." followed_by Is (a_number (pos 0)) in
    let C : Phrase = Is (a_number (pos 1)) followed_by D in
    let B : Phrase = Says "ESSENCE'" followed_by C in
    holds_then (λ p rest. Takes (Says "language") ls rest) Q (word_from (codes "language") ls) _ (word_sound (codes "language") ls)
    (λ _ a t. holds_then (λ p rest. Takes (Says "ESSENCE'") a rest) Q (word_from (codes "ESSENCE'") a) _ (word_sound (codes "ESSENCE'") a)
    (λ _ b u. holds_then (λ p rest. Takes (Is (a_number (pos 1))) b rest) Q (number_from (pos 1) b) _ (number_sound (pos 1) b)
    (λ _ c v. holds_then (λ p rest. Takes (Says ".") c rest) Q (word_from (codes ".") c) _ (word_sound (codes ".") c)
    (λ _ d w. holds_as (λ p rest. Takes (Is (a_number (pos 0))) d rest) Q (number_from (pos 0) d) (number_sound (pos 0) d)
    (λ _ e x. takes_then (Says "language") B ls a e t (takes_then (Says "ESSENCE'") C a b e u (takes_then (Is (a_number (pos 1))) D b c e v (takes_then (Says ".") (Is (a_number (pos 0))) c d e w x))))))))

-- ---- lettings and branchings

named_made : (xs : List (Name × Place)) (front : List Lexeme) → PlacedNames xs front → SpellsNames xs front
unfolding PlacedNames SpellsNames
named_made [] front h = absurd h
named_made (x ∷ xs) front h = h

pub bracket_names_sound : (ls : List Lexeme) → Holds (λ xs rest. Takes (SpellsNames xs) ls rest) (bracket_names_from ls)
unfolding bracket_names_from SpellsNames
bracket_names_sound ls =
    let Q : List (Name × Place) → List Lexeme → Type 0 = λ xs rest. Takes (SpellsNames xs) ls rest in
    holds_chosen Q (says (codes "]") ls) _ _ ls (λ _. holds_took Q [] ls (takes_nothing ls))
    (λ _. holds_as (λ xs rest. Takes (PlacedNames xs) ls rest) Q (placed_names_from ls) (placed_names_sound ls) (λ xs rest t. takes_as (PlacedNames xs) (SpellsNames xs) ls rest (named_made xs) t))

pub be_sound : (ls : List Lexeme) → Holds (λ p rest. Takes SaysBe ls rest) (be_from ls)
unfolding be_from
be_sound ls =
    let Q : Place → List Lexeme → Type 0 = λ p rest. Takes SaysBe ls rest in
    holds_chosen Q (says (codes "be") ls) _ _ ls
    (λ _. holds_as (λ p rest. Takes (Says "be") ls rest) Q (word_from (codes "be") ls) (word_sound (codes "be") ls) (λ p rest t. takes_as (Says "be") SaysBe ls rest (λ front x. inl x) t))
    (λ _. holds_as (λ p rest. Takes (Says "=") ls rest) Q (word_from (codes "=") ls) (word_sound (codes "=") ls) (λ p rest t. takes_as (Says "=") SaysBe ls rest (λ front x. inr x) t))

-- nothing was taken
nothing_taken : (ls rest : List Lexeme) → Takes Silence ls rest → ls ≡ rest
nothing_taken ls rest t = t.parts ∙ ap (λ f. f ++ rest) t.spelled

-- all the tokens are taken as statements that may come, none of them higher than so much
pub record IsText (less : ℕ) (allowed : Allowed) (ls : List Lexeme) (ss : TextTree) (rest : List Lexeme) : Type 0 where
  pub spelled : SpellsStatements ss ls
  pub low : text_height ss ≤ less
  pub fits : Fits allowed ss
  pub whole : rest ≡ []

-- all the tokens are taken as a text that isn't higher than so much
pub record IsWhole (less : ℕ) (spells : TextTree → Phrase) (ls : List Lexeme) (ss : TextTree) (rest : List Lexeme) : Type 0 where
  pub spelled : spells ss ls
  pub low : text_height ss ≤ less
  pub whole : rest ≡ []

module _ (less : ℕ) (low : Lower) (good : AreSound less low) where
  -- a statement that this word begins and that isn't higher than so much
  abbrev Begun : Opening → List Lexeme → StatementTree → List Lexeme → Type 0
  Begun what ls s rest = Takes (SpellsStatement s) ls rest × (statement_height s ≤ less) × (opening_of s ≡ what)

  stated_sound : (ls : List Lexeme) → Holds (λ d rest. Takes (SpellsStated d) ls rest × (stated_height d ≤ less)) (stated_from low ls)
  unfolding stated_from SpellsStated stated_height
  stated_sound ls =
      let Q : Option DomainTree → List Lexeme → Type 0 = λ d rest. Takes (SpellsStated d) ls rest × (stated_height d ≤ less) in
      holds_chosen Q (says (codes ":") ls) _ _ ls
      (λ e. holds_then (IsDomain domains less (behind ls)) Q (low.domain domains (behind ls)) _ (good.domain domains (behind ls))
      (λ d rest h. holds_took Q (Some d) rest
      (takes_then (Says ":") (SpellsDomain domains d) ls (behind ls) rest (says_sound (codes ":") ls e) (takes_domain domains less (behind ls) d rest h), h.low)))
      (λ e. holds_took Q None ls (takes_nothing ls, omega arith))

  module _ (l : Lexeme) (ls : List Lexeme) (opened : Says "letting" (l ∷ [])) (x : Name × Place) (rest : List Lexeme) (t : Takes (Placed x) ls rest) where
    value_sound : (d : Option DomainTree) (next value : List Lexeme) → Takes (SpellsStated d) rest next → stated_height d ≤ less → Takes SaysBe next value
        → Holds (Begun Opening.Letting (l ∷ ls)) (value_from low l.place x d value)
    unfolding value_from SpellsStatement statement_height PlacedNames
    value_sound d next value u small v =
        holds_then (IsExpr implications less value) (Begun Opening.Letting (l ∷ ls)) (low.expr implications value) _ (whole less low good value)
        (λ e end h. holds_took (Begun Opening.Letting (l ∷ ls)) (letting l.place x.0 x.1 d e) end (
          headed (Says "letting") (Placed x followed_by SpellsStated d followed_by SaysBe followed_by Spells implications e) l ls end opened
              (takes_then (Placed x) (SpellsStated d followed_by SaysBe followed_by Spells implications e) ls rest end t
              (takes_then (SpellsStated d) (SaysBe followed_by Spells implications e) rest next end u
              (takes_then SaysBe (Spells implications e) next value end v (takes_expr implications less value e end h)))),
          max-le small h.low,
          refl,
        ))

    let_sound : (d : Option DomainTree) (next value : List Lexeme) → Takes (SpellsStated d) rest next → stated_height d ≤ less → Takes SaysBe next value
        → Holds (Begun Opening.Letting (l ∷ ls)) (let_from low l.place x d value)
    unfolding let_from SpellsStatement statement_height PlacedNames SpellsStated
    let_sound (Some d) next value u small v = value_sound (Some d) next value u small v
    let_sound None next value u small v =
        holds_chosen (Begun Opening.Letting (l ∷ ls)) (says (codes "domain") value) _ _ value
        (λ e. holds_then (IsDomain domains less (behind value)) (Begun Opening.Letting (l ∷ ls)) (low.domain domains (behind value)) _ (good.domain domains (behind value))
        (λ d end h. holds_took (Begun Opening.Letting (l ∷ ls)) (domain_letting l.place x.0 x.1 d) end (
          headed (Says "letting") (Placed x followed_by SaysBe followed_by Says "domain" followed_by SpellsDomain domains d) l ls end opened
              (takes_then (Placed x) (SaysBe followed_by Says "domain" followed_by SpellsDomain domains d) ls next end (subst (λ r. Takes (Placed x) ls r) (nothing_taken rest next u) t)
              (takes_then SaysBe (Says "domain" followed_by SpellsDomain domains d) next value end v
              (takes_then (Says "domain") (SpellsDomain domains d) value (behind value) end (says_sound (codes "domain") value e) (takes_domain domains less (behind value) d end h)))),
          h.low,
          refl,
        )))
        (λ e. value_sound None next value u small v)

  letting_sound : (l : Lexeme) (ls : List Lexeme) → Says "letting" (l ∷ []) → Holds (Begun Opening.Letting (l ∷ ls)) (letting_from low l.place ls)
  unfolding letting_from
  letting_sound l ls opened =
      holds_then (λ x rest. Takes (Placed x) ls rest) (Begun Opening.Letting (l ∷ ls)) _ _ (placed_sound ls)
      (λ x rest t. holds_then (λ d next. Takes (SpellsStated d) rest next × (stated_height d ≤ less)) (Begun Opening.Letting (l ∷ ls)) (stated_from low rest) _ (stated_sound rest)
      (λ d next u. holds_then (λ p value. Takes SaysBe next value) (Begun Opening.Letting (l ∷ ls)) (be_from next) _ (be_sound next)
      (λ p value v. let_sound l ls opened x rest t d next value u.0 u.1 v)))

  branching_sound : (l : Lexeme) (ls : List Lexeme) → Says "branching" (l ∷ []) → Holds (Begun Opening.Branching (l ∷ ls)) (branching_from l.place ls)
  unfolding branching_from SpellsStatement statement_height
  branching_sound l ls opened =
      let Q : StatementTree → List Lexeme → Type 0 = Begun Opening.Branching (l ∷ ls) in
      holds_then (λ p rest. Takes (Says "on") ls rest) Q (word_from (codes "on") ls) _ (word_sound (codes "on") ls)
      (λ p rest t. holds_then (λ p next. Takes (Says "[") rest next) Q (word_from (codes "[") rest) _ (word_sound (codes "[") rest)
      (λ p next u. holds_then (λ xs end. Takes (SpellsNames xs) next end) Q (bracket_names_from next) _ (bracket_names_sound next)
      (λ xs end v. holds_then (λ p after. Takes (Says "]") end after) Q (word_from (codes "]") end) _ (word_sound (codes "]") end)
      (λ p after w. holds_took Q (branching l.place xs) after (
        headed (Says "branching") (Says "on" followed_by Says "[" followed_by SpellsNames xs followed_by Says "]") l ls after opened
            (takes_then (Says "on") (Says "[" followed_by SpellsNames xs followed_by Says "]") ls rest after t
            (takes_then (Says "[") (SpellsNames xs followed_by Says "]") rest next after u (takes_then (SpellsNames xs) (Says "]") next end after v w))),
        omega arith,
        refl,
      )))))

  -- ---- statements

  behind_sound : (l : Lexeme) (ls : List Lexeme) (what : Opening) → Opens what (l ∷ []) → Holds (Begun what (l ∷ ls)) (statement_behind low l.place what ls)
  unfolding statement_behind SpellsStatement statement_height
  behind_sound l ls Opening.Given opened =
      holds_then (λ gs rest. Takes (SpellsGroups gs) ls rest × (highest_group gs ≤ less)) (Begun Opening.Given (l ∷ ls)) _ _ (groups_sound less low good ls)
      (λ gs rest h. holds_took (Begun Opening.Given (l ∷ ls)) (given l.place gs) rest (headed (Says "given") (SpellsGroups gs) l ls rest opened h.0, h.1, refl))
  behind_sound l ls Opening.Find opened =
      holds_then (λ gs rest. Takes (SpellsGroups gs) ls rest × (highest_group gs ≤ less)) (Begun Opening.Find (l ∷ ls)) _ _ (groups_sound less low good ls)
      (λ gs rest h. holds_took (Begun Opening.Find (l ∷ ls)) (decided l.place gs) rest (headed (Says "find") (SpellsGroups gs) l ls rest opened h.0, h.1, refl))
  behind_sound l ls Opening.Letting opened = letting_sound l ls opened
  behind_sound l ls Opening.Where opened =
      holds_then (λ es rest. Takes (SpellsExpressions es) ls rest × (highest_of es ≤ less)) (Begun Opening.Where (l ∷ ls)) _ _ (expressions_sound less low good ls)
      (λ es rest h. holds_took (Begun Opening.Where (l ∷ ls)) (requirements l.place es) rest (headed (Says "where") (SpellsExpressions es) l ls rest opened h.0, h.1, refl))
  behind_sound l ls Opening.SuchThat opened =
      holds_then (λ p next. Takes (Says "that") ls next) (Begun Opening.SuchThat (l ∷ ls)) _ _ (word_sound (codes "that") ls)
      (λ p next t. holds_then (λ es rest. Takes (SpellsExpressions es) next rest × (highest_of es ≤ less)) (Begun Opening.SuchThat (l ∷ ls)) _ _ (expressions_sound less low good next)
      (λ es rest h. holds_took (Begun Opening.SuchThat (l ∷ ls)) (constraints l.place es) rest (
        headed (Says "such") (Says "that" followed_by SpellsExpressions es) l ls rest opened (takes_then (Says "that") (SpellsExpressions es) ls next rest t h.0),
        h.1,
        refl,
      )))
  behind_sound l ls (Opening.Objective sense) opened =
      holds_then (IsExpr implications less ls) (Begun (Opening.Objective sense) (l ∷ ls)) _ _ (whole less low good ls)
      (λ e rest h. holds_took (Begun (Opening.Objective sense) (l ∷ ls)) (objective l.place sense e) rest (headed (SpellsSense sense) (Spells implications e) l ls rest opened (takes_expr implications less ls e rest h), h.low, refl))
  behind_sound l ls Opening.Branching opened = branching_sound l ls opened
  behind_sound l ls Opening.Heuristic opened =
      holds_then (λ x rest. Takes (Is (a_name x)) ls rest) (Begun Opening.Heuristic (l ∷ ls)) _ _ (name_sound ls)
      (λ x rest t. holds_took (Begun Opening.Heuristic (l ∷ ls)) (heuristic l.place x) rest (headed (Says "heuristic") (Is (a_name x)) l ls rest opened t, omega arith, refl))

  -- a statement that may come
  abbrev pub IsAllowed : Allowed → List Lexeme → StatementTree → List Lexeme → Type 0
  IsAllowed allowed ls s rest = Takes (SpellsStatement s) ls rest × (statement_height s ≤ less) × (allows allowed (opening_of s) ≡ true)

  pub allowed_sound : (allowed : Allowed) (l : Lexeme) (ls : List Lexeme) → Holds (IsAllowed allowed (l ∷ ls)) (allowed_statement_from low allowed (l ∷ ls))
  unfolding allowed_statement_from next_in
  allowed_sound allowed l ls =
      let Q : StatementTree → List Lexeme → Type 0 = IsAllowed allowed (l ∷ ls) in
      if_some_sound Q (meant_by statement_words l.saying) _ _
      (λ what e. holds_chosen Q (allows allowed what) _ _ (l ∷ ls)
      (λ may. holds_as (Begun what (l ∷ ls)) Q (statement_behind low l.place what ls) (behind_sound l ls what (meant_by-related Opens statement_words are_openings l l.saying refl what e))
      (λ s rest h. (h.0, h.1, ap (allows allowed) h.2 ∙ may)))
      (λ _. holds_wrong Q (l ∷ ls)))
      (holds_wrong Q (l ∷ ls))

  no_text : (allowed : Allowed) → IsText less allowed [] [] []
  unfolding SpellsStatements text_height Fits
  no_text allowed = record { spelled = refl; low = omega arith; fits = tt; whole = refl }

  pub statements_sound : (most : ℕ) (allowed : Allowed) (ls : List Lexeme) → Holds (IsText less allowed ls) (statements_within low most allowed ls)
  unfolding statements_within SpellsStatements text_height Fits
  statements_sound zero allowed [] = holds_took (IsText less allowed []) [] [] (no_text allowed)
  statements_sound (suc more) allowed [] = holds_took (IsText less allowed []) [] [] (no_text allowed)
  statements_sound zero allowed (l ∷ ls) = holds_wrong (IsText less allowed (l ∷ ls)) (l ∷ ls)
  statements_sound (suc more) allowed (l ∷ ls) =
      let Q : TextTree → List Lexeme → Type 0 = IsText less allowed (l ∷ ls) in
      holds_then (IsAllowed allowed (l ∷ ls)) Q (allowed_statement_from low allowed (l ∷ ls)) _ (allowed_sound allowed l ls)
      (λ s rest h. holds_then (IsText less (allowed_behind s allowed) rest) Q (statements_within low more (allowed_behind s allowed) rest) _ (statements_sound more (allowed_behind s allowed) rest)
      (λ ss end k. holds_took Q (s ∷ ss) end (record {
        spelled = (h.0.front, rest, h.0.parts, h.0.spelled, k.spelled);
        low = max-le h.1 k.low;
        fits = (h.2, k.fits);
        whole = k.whole;
      })))

  -- ---- texts

  pub model_sound : (ls : List Lexeme) → Holds (IsWhole less SpellsModel ls) (model_from low ls)
  unfolding model_from SpellsModel
  model_sound ls =
      let Q : TextTree → List Lexeme → Type 0 = IsWhole less SpellsModel ls in
      holds_then (λ p rest. Takes LanguageLine ls rest) Q (line_from ls) _ (line_sound ls)
      (λ p rest t. holds_as (IsText less Allowed.All rest) Q (statements_from low Allowed.All rest) (statements_sound (length rest) Allowed.All rest)
      (λ ss end k. record { spelled = (one_objective ss k.fits, (t.front, rest, t.parts, t.spelled, k.spelled)); low = k.low; whole = k.whole }))

  pub params_sound : (ls : List Lexeme) → Holds (IsWhole less SpellsParams ls) (params_from low ls)
  unfolding params_from SpellsParams
  params_sound ls =
      let Q : TextTree → List Lexeme → Type 0 = IsWhole less SpellsParams ls in
      holds_chosen Q (says (codes "language") ls) _ _ ls
      (λ _. holds_then (λ p rest. Takes LanguageLine ls rest) Q (line_from ls) _ (line_sound ls)
      (λ p rest t. holds_as (IsText less Allowed.Lettings rest) Q (statements_from low Allowed.Lettings rest) (statements_sound (length rest) Allowed.Lettings rest)
      (λ ss end k. record { spelled = (all_lettings ss k.fits, (t.front, rest, t.parts, inl t.spelled, k.spelled)); low = k.low; whole = k.whole })))
      (λ _. holds_as (IsText less Allowed.Lettings ls) Q (statements_from low Allowed.Lettings ls) (statements_sound (length ls) Allowed.Lettings ls)
      (λ ss end k. record { spelled = (all_lettings ss k.fits, ([], ls, refl, inr refl, k.spelled)); low = k.low; whole = k.whole }))
