-- Statements are read again, so some tokens spell one text at most.
use Rattle.std.specs.Prelude.{◌≡◌, ℕ, zero, suc, ℤ, pos, ◌≤◌, max, true, false, List, [], ◌∷◌, ◌++◌, length, ◌⊎◌, Option, Some, None, bytes_eq, codes, refl}
use Rattle.std.proofs.Common.{ap, arith, inl, inr, sym, subst, ◌∙◌, length-append, append_assoc}
use Rattle.std.proofs.Math.Nat.{le-max_left, le-max_right}
use Rattle.ep_base.specs.declared.names.Name.{Name}
use Rattle.ep_base.specs.declared.operators.Sense.{Sense}
use Rattle.ep_base.specs.declared.places.Place.{Place}
use Rattle.ep_parse_model.specs.declared.openings.Allowed.{Allowed}
use Rattle.ep_parse_model.specs.declared.openings.Opening.{Opening}
use Rattle.ep_parse_parts.specs.OperandReaders.{Lower, expression_next}
use Rattle.ep_parse_parts.specs.Readers.{Read, behind, either_reader, high, if_some, looked_up, name_from, name_in, next_in, number_from, says, took, word_from, wrong, ◌and_then◌}
use Rattle.ep_parse_parts.proofs.Again.{AreComplete, DomainEnds, NoImplications, behind_word_cut, lexeme}
use Rattle.ep_parse_parts.proofs.AgainAll.{all_complete, readers}
use Rattle.ep_parse_parts.proofs.AgainPhrases.{Again, word_then}
use Rattle.ep_parse_parts.proofs.AgainStarts.{starts, word_unseen}
use Rattle.ep_parse_parts.proofs.Holding.{regrouped}
use Rattle.ep_parse_model.proofs.Fitting.{Fits, model_fits, opening_of, params_fits}
use Rattle.ep_parse_model.proofs.Phrasing.{behind as next}
use Rattle.ep_parse_parts.specs.DomainReaders.{place_next}
use Rattle.ep_parse_model.proofs.GroupsAgain.{After, expressions_again, groups_again, placed_alone, placed_cut, placed_names_again}
use Rattle.ep_parse_model.specs.TextReaders.{allowed_behind, allowed_statement_from, allows, be_from, bracket_names_from, branching_from, expressions_from, let_from, letting_from, line_from, model_from, params_from, placed_name_from, placed_name_in, placed_names_from, stated_from, statement_behind, statement_words, statements_from, statements_within, value_from}
use Rattle.ep_tree.specs.Heights.{domain_height, height}
use Rattle.ep_tree.specs.Phrases.{Is, Lexeme, Phrase, PlacedNames, Says, StartsAt, a_name, a_number, a_word, ◌followed_by◌}
use Rattle.ep_tree.specs.Spelling.{Spells, SpellsDomain, domains, implications, rank}
use Rattle.ep_tree.specs.StatementSpelling.{LanguageLine, SaysBe, SpellsExpressions, SpellsGroups, SpellsModel, SpellsNames, SpellsParams, SpellsSense, SpellsStated, SpellsStatement, SpellsStatements}
use Rattle.ep_tree.specs.Statements.{StatementTree, TextTree, branching, constraints, decided, domain_letting, given, heuristic, letting, objective, requirements, stated_height, statement_height, text_height}
use Rattle.ep_tree.specs.Trees.{DomainTree, ExprTree}

-- ---- what stands behind a statement

after_nothing : After []
unfolding next_in says expression_next
after_nothing =
    record { ends = record { tighter = record { tighter = record { tighter = record { tighter = record { tighter = record { tighter = record { tighter = record { bracket = refl }; none = refl }; none = refl }; none = refl }; none = refl; no_set = refl; no_group = refl }; none = refl }; none = refl }; none = refl }; domain = record { none = refl; no_group = refl }; no_comma = refl; no_expr = refl }

after_given : (p : Place) (ls : List Lexeme) → After (lexeme p (a_word (codes "given")) ∷ ls)
unfolding next_in looked_up says expression_next
after_given p ls =
    record { ends = record { tighter = record { tighter = record { tighter = record { tighter = record { tighter = record { tighter = record { tighter = record { bracket = refl }; none = refl }; none = refl }; none = refl }; none = refl; no_set = refl; no_group = refl }; none = refl }; none = refl }; none = refl }; domain = record { none = refl; no_group = refl }; no_comma = refl; no_expr = refl }

after_find : (p : Place) (ls : List Lexeme) → After (lexeme p (a_word (codes "find")) ∷ ls)
unfolding next_in looked_up says expression_next
after_find p ls =
    record { ends = record { tighter = record { tighter = record { tighter = record { tighter = record { tighter = record { tighter = record { tighter = record { bracket = refl }; none = refl }; none = refl }; none = refl }; none = refl; no_set = refl; no_group = refl }; none = refl }; none = refl }; none = refl }; domain = record { none = refl; no_group = refl }; no_comma = refl; no_expr = refl }

after_letting : (p : Place) (ls : List Lexeme) → After (lexeme p (a_word (codes "letting")) ∷ ls)
unfolding next_in looked_up says expression_next
after_letting p ls =
    record { ends = record { tighter = record { tighter = record { tighter = record { tighter = record { tighter = record { tighter = record { tighter = record { bracket = refl }; none = refl }; none = refl }; none = refl }; none = refl; no_set = refl; no_group = refl }; none = refl }; none = refl }; none = refl }; domain = record { none = refl; no_group = refl }; no_comma = refl; no_expr = refl }

after_where : (p : Place) (ls : List Lexeme) → After (lexeme p (a_word (codes "where")) ∷ ls)
unfolding next_in looked_up says expression_next
after_where p ls =
    record { ends = record { tighter = record { tighter = record { tighter = record { tighter = record { tighter = record { tighter = record { tighter = record { bracket = refl }; none = refl }; none = refl }; none = refl }; none = refl; no_set = refl; no_group = refl }; none = refl }; none = refl }; none = refl }; domain = record { none = refl; no_group = refl }; no_comma = refl; no_expr = refl }

after_such : (p : Place) (ls : List Lexeme) → After (lexeme p (a_word (codes "such")) ∷ ls)
unfolding next_in looked_up says expression_next
after_such p ls =
    record { ends = record { tighter = record { tighter = record { tighter = record { tighter = record { tighter = record { tighter = record { tighter = record { bracket = refl }; none = refl }; none = refl }; none = refl }; none = refl; no_set = refl; no_group = refl }; none = refl }; none = refl }; none = refl }; domain = record { none = refl; no_group = refl }; no_comma = refl; no_expr = refl }

after_minimising : (p : Place) (ls : List Lexeme) → After (lexeme p (a_word (codes "minimising")) ∷ ls)
unfolding next_in looked_up says expression_next
after_minimising p ls =
    record { ends = record { tighter = record { tighter = record { tighter = record { tighter = record { tighter = record { tighter = record { tighter = record { bracket = refl }; none = refl }; none = refl }; none = refl }; none = refl; no_set = refl; no_group = refl }; none = refl }; none = refl }; none = refl }; domain = record { none = refl; no_group = refl }; no_comma = refl; no_expr = refl }

after_minimizing : (p : Place) (ls : List Lexeme) → After (lexeme p (a_word (codes "minimizing")) ∷ ls)
unfolding next_in looked_up says expression_next
after_minimizing p ls =
    record { ends = record { tighter = record { tighter = record { tighter = record { tighter = record { tighter = record { tighter = record { tighter = record { bracket = refl }; none = refl }; none = refl }; none = refl }; none = refl; no_set = refl; no_group = refl }; none = refl }; none = refl }; none = refl }; domain = record { none = refl; no_group = refl }; no_comma = refl; no_expr = refl }

after_maximising : (p : Place) (ls : List Lexeme) → After (lexeme p (a_word (codes "maximising")) ∷ ls)
unfolding next_in looked_up says expression_next
after_maximising p ls =
    record { ends = record { tighter = record { tighter = record { tighter = record { tighter = record { tighter = record { tighter = record { tighter = record { bracket = refl }; none = refl }; none = refl }; none = refl }; none = refl; no_set = refl; no_group = refl }; none = refl }; none = refl }; none = refl }; domain = record { none = refl; no_group = refl }; no_comma = refl; no_expr = refl }

after_maximizing : (p : Place) (ls : List Lexeme) → After (lexeme p (a_word (codes "maximizing")) ∷ ls)
unfolding next_in looked_up says expression_next
after_maximizing p ls =
    record { ends = record { tighter = record { tighter = record { tighter = record { tighter = record { tighter = record { tighter = record { tighter = record { bracket = refl }; none = refl }; none = refl }; none = refl }; none = refl; no_set = refl; no_group = refl }; none = refl }; none = refl }; none = refl }; domain = record { none = refl; no_group = refl }; no_comma = refl; no_expr = refl }

after_branching : (p : Place) (ls : List Lexeme) → After (lexeme p (a_word (codes "branching")) ∷ ls)
unfolding next_in looked_up says expression_next
after_branching p ls =
    record { ends = record { tighter = record { tighter = record { tighter = record { tighter = record { tighter = record { tighter = record { tighter = record { bracket = refl }; none = refl }; none = refl }; none = refl }; none = refl; no_set = refl; no_group = refl }; none = refl }; none = refl }; none = refl }; domain = record { none = refl; no_group = refl }; no_comma = refl; no_expr = refl }

after_heuristic : (p : Place) (ls : List Lexeme) → After (lexeme p (a_word (codes "heuristic")) ∷ ls)
unfolding next_in looked_up says expression_next
after_heuristic p ls =
    record { ends = record { tighter = record { tighter = record { tighter = record { tighter = record { tighter = record { tighter = record { tighter = record { bracket = refl }; none = refl }; none = refl }; none = refl }; none = refl; no_set = refl; no_group = refl }; none = refl }; none = refl }; none = refl }; domain = record { none = refl; no_group = refl }; no_comma = refl; no_expr = refl }

-- tokens that begin with the word of a statement, and what stands behind it
pub record Headed (what : Opening) (P : Phrase) (front : List Lexeme) : Type 0 where
  place : Place
  word : List ℕ
  rest : List Lexeme
  parts : front ≡ lexeme place (a_word word) ∷ rest
  found : (ls : List Lexeme) → next_in statement_words (lexeme place (a_word word) ∷ ls) ≡ Some what
  after : (ls : List Lexeme) → After (lexeme place (a_word word) ∷ ls)
  other : bytes_eq word (codes "language") ≡ false
  spelled : P rest

-- what a word of statements is
record IsStatementWord (w : List ℕ) (what : Opening) : Type 0 where
  found : (p : Place) (ls : List Lexeme) → next_in statement_words (lexeme p (a_word w) ∷ ls) ≡ Some what
  after : (p : Place) (ls : List Lexeme) → After (lexeme p (a_word w) ∷ ls)
  other : bytes_eq w (codes "language") ≡ false

is_given : IsStatementWord (codes "given") Opening.Given
unfolding next_in looked_up
is_given = record { found = λ p ls. refl; after = after_given; other = refl }

is_find : IsStatementWord (codes "find") Opening.Find
unfolding next_in looked_up
is_find = record { found = λ p ls. refl; after = after_find; other = refl }

is_letting : IsStatementWord (codes "letting") Opening.Letting
unfolding next_in looked_up
is_letting = record { found = λ p ls. refl; after = after_letting; other = refl }

is_where : IsStatementWord (codes "where") Opening.Where
unfolding next_in looked_up
is_where = record { found = λ p ls. refl; after = after_where; other = refl }

is_such : IsStatementWord (codes "such") Opening.SuchThat
unfolding next_in looked_up
is_such = record { found = λ p ls. refl; after = after_such; other = refl }

is_minimising : IsStatementWord (codes "minimising") (Opening.Objective Sense.Minimising)
unfolding next_in looked_up
is_minimising = record { found = λ p ls. refl; after = after_minimising; other = refl }

is_minimizing : IsStatementWord (codes "minimizing") (Opening.Objective Sense.Minimising)
unfolding next_in looked_up
is_minimizing = record { found = λ p ls. refl; after = after_minimizing; other = refl }

is_maximising : IsStatementWord (codes "maximising") (Opening.Objective Sense.Maximising)
unfolding next_in looked_up
is_maximising = record { found = λ p ls. refl; after = after_maximising; other = refl }

is_maximizing : IsStatementWord (codes "maximizing") (Opening.Objective Sense.Maximising)
unfolding next_in looked_up
is_maximizing = record { found = λ p ls. refl; after = after_maximizing; other = refl }

is_branching : IsStatementWord (codes "branching") Opening.Branching
unfolding next_in looked_up
is_branching = record { found = λ p ls. refl; after = after_branching; other = refl }

is_heuristic : IsStatementWord (codes "heuristic") Opening.Heuristic
unfolding next_in looked_up
is_heuristic = record { found = λ p ls. refl; after = after_heuristic; other = refl }

headed : (w : List ℕ) (what : Opening) (P : Phrase) (front : List Lexeme) → IsStatementWord w what → (Is (a_word w) followed_by P) front → Headed what P front
headed w what P front is h =
    let c = behind_word_cut w P front h in
    record { place = c.place; word = w; rest = c.rest; parts = c.parts; found = is.found c.place; after = is.after c.place; other = is.other; spelled = c.spelled }

headed_sense : (sense : Sense) (P : Phrase) (front : List Lexeme) → (SpellsSense sense followed_by P) front → Headed (Opening.Objective sense) P front
unfolding SpellsSense
headed_sense sense P front h = go sense h.3
  where
    go : (sense : Sense) → SpellsSense sense h.0 → Headed (Opening.Objective sense) P front
    go Sense.Minimising (inl k) = headed (codes "minimising") (Opening.Objective Sense.Minimising) P front is_minimising (h.0, h.1, h.2, k, h.4)
    go Sense.Minimising (inr k) = headed (codes "minimizing") (Opening.Objective Sense.Minimising) P front is_minimizing (h.0, h.1, h.2, k, h.4)
    go Sense.Maximising (inl k) = headed (codes "maximising") (Opening.Objective Sense.Maximising) P front is_maximising (h.0, h.1, h.2, k, h.4)
    go Sense.Maximising (inr k) = headed (codes "maximizing") (Opening.Objective Sense.Maximising) P front is_maximizing (h.0, h.1, h.2, k, h.4)

-- what stands behind it
abbrev pub Behind_word : StatementTree → Phrase
Behind_word (given p gs) = SpellsGroups gs
Behind_word (decided p gs) = SpellsGroups gs
Behind_word (letting p x at d e) = PlacedNames ((x, at) ∷ []) followed_by SpellsStated d followed_by SaysBe followed_by Spells implications e
Behind_word (domain_letting p x at d) = PlacedNames ((x, at) ∷ []) followed_by SaysBe followed_by Says "domain" followed_by SpellsDomain domains d
Behind_word (requirements p es) = SpellsExpressions es
Behind_word (constraints p es) = Says "that" followed_by SpellsExpressions es
Behind_word (objective p sense e) = Spells implications e
Behind_word (branching p xs) = Says "on" followed_by Says "[" followed_by SpellsNames xs followed_by Says "]"
Behind_word (heuristic p x) = Is (a_name x)

-- its place
abbrev pub at : StatementTree → Place
at (given p gs) = p
at (decided p gs) = p
at (letting p x q d e) = p
at (domain_letting p x q d) = p
at (requirements p es) = p
at (constraints p es) = p
at (objective p sense e) = p
at (branching p xs) = p
at (heuristic p x) = p

pub statement_headed : (s : StatementTree) (front : List Lexeme) → SpellsStatement s front → StartsAt (at s) front × Headed (opening_of s) (Behind_word s) front
unfolding SpellsStatement
statement_headed (given p gs) front h = (h.0, headed (codes "given") Opening.Given _ front is_given h.1)
statement_headed (decided p gs) front h = (h.0, headed (codes "find") Opening.Find _ front is_find h.1)
statement_headed (letting p x q d e) front h = (h.0, headed (codes "letting") Opening.Letting _ front is_letting h.1)
statement_headed (domain_letting p x q d) front h = (h.0, headed (codes "letting") Opening.Letting _ front is_letting h.1)
statement_headed (requirements p es) front h = (h.0, headed (codes "where") Opening.Where _ front is_where h.1)
statement_headed (constraints p es) front h = (h.0, headed (codes "such") Opening.SuchThat _ front is_such h.1)
statement_headed (objective p sense e) front h = (h.0, headed_sense sense _ front h.1)
statement_headed (branching p xs) front h = (h.0, headed (codes "branching") Opening.Branching _ front is_branching h.1)
statement_headed (heuristic p x) front h = (h.0, headed (codes "heuristic") Opening.Heuristic _ front is_heuristic h.1)

-- ---- the language line

abbrev number : Place → ℤ → Lexeme
number p n = lexeme p (a_number n)

line_tokens : (a b c d e : Place) (rest : List Lexeme)
    → line_from (lexeme a (a_word (codes "language")) ∷ lexeme b (a_word (codes "ESSENCE'")) ∷ number c (pos 1) ∷ lexeme d (a_word (codes ".")) ∷ number e (pos 0) ∷ rest) ≡ took e rest
unfolding line_from word_from number_from
line_tokens a b c d e rest = refl

line_again : (front rest : List Lexeme) → LanguageLine front → (p : Place) × (line_from (front ++ rest) ≡ took p rest)
line_again front rest h =
    let a = next (a_word (codes "language")) (Says "ESSENCE'" followed_by Is (a_number (pos 1)) followed_by Says "." followed_by Is (a_number (pos 0))) front h in
    let b = next (a_word (codes "ESSENCE'")) (Is (a_number (pos 1)) followed_by Says "." followed_by Is (a_number (pos 0))) a.rest a.spelled in
    let c = next (a_number (pos 1)) (Says "." followed_by Is (a_number (pos 0))) b.rest b.spelled in
    let d = next (a_word (codes ".")) (Is (a_number (pos 0))) c.rest c.spelled in
    let e : d.rest ≡ number d.spelled.0 (pos 0) ∷ [] = d.spelled.1 in
    let parts : front ≡ lexeme a.place (a_word (codes "language")) ∷ lexeme b.place (a_word (codes "ESSENCE'")) ∷ number c.place (pos 1) ∷ lexeme d.place (a_word (codes ".")) ∷ number d.spelled.0 (pos 0) ∷ [] =
    a.parts ∙ ap (λ x. lexeme a.place (a_word (codes "language")) ∷ x)
    (b.parts ∙ ap (λ x. lexeme b.place (a_word (codes "ESSENCE'")) ∷ x) (c.parts ∙ ap (λ x. number c.place (pos 1) ∷ x) (d.parts ∙ ap (λ x. lexeme d.place (a_word (codes ".")) ∷ x) e))) in
    (d.spelled.0, ap (λ x. line_from (x ++ rest)) parts ∙ line_tokens a.place b.place c.place d.place d.spelled.0 rest)

no_line : (ss : TextTree) (front : List Lexeme) → SpellsStatements ss front → says (codes "language") front ≡ false
unfolding SpellsStatements says
no_line [] front h = ap (says (codes "language")) h
no_line (s ∷ ss) front h =
    let c = (statement_headed s h.0 h.3).1 in ap (says (codes "language")) (h.2 ∙ ap (λ x. x ++ h.1) c.parts) ∙ c.other

with_line : (P : Phrase) (front : List Lexeme) → (LanguageLine followed_by P) front → says (codes "language") front ≡ true
unfolding says
with_line P front h = ap (says (codes "language")) (behind_word_cut (codes "language") _ front (regrouped _ _ P front h)).parts

-- ---- lettings

be_again : (f ls : List Lexeme) → SaysBe f → (q : Place) × (be_from (f ++ ls) ≡ took q ls)
unfolding be_from says word_from
be_again f ls (inl h) = (h.0, ap (λ x. be_from (x ++ ls)) h.1)
be_again f ls (inr h) = (h.0, ap (λ x. be_from (x ++ ls)) h.1)

be_no_colon : (f ls : List Lexeme) → SaysBe f → says (codes ":") (f ++ ls) ≡ false
unfolding says
be_no_colon f ls (inl h) = ap (λ x. says (codes ":") (x ++ ls)) h.1
be_no_colon f ls (inr h) = ap (λ x. says (codes ":") (x ++ ls)) h.1

be_ends : (f ls : List Lexeme) → SaysBe f → DomainEnds (f ++ ls)
unfolding next_in looked_up says
be_ends f ls (inl h) = subst (λ x. DomainEnds (x ++ ls)) (sym h.1) (record { none = refl; no_group = refl })
be_ends f ls (inr h) = subst (λ x. DomainEnds (x ++ ls)) (sym h.1) (record { none = refl; no_group = refl })

module _ (less : ℕ) (low : Lower) (good : AreComplete less low) where
  one_again : (e : ExprTree) (f rest : List Lexeme) → Spells implications e f → height e ≤ less → NoImplications rest → low.expr implications (f ++ rest) ≡ took e rest
  unfolding rank
  one_again e f rest h small ends = good.expr implications refl e f rest h small (record { ends = ends; open_ends = λ _. ends })

  -- what stands between the name of a letting and its value
  stated_again : (d : Option DomainTree) (f g ls : List Lexeme) → SpellsStated d f → SaysBe g → stated_height d ≤ less → stated_from low (f ++ (g ++ ls)) ≡ took d (g ++ ls)
  unfolding stated_from SpellsStated stated_height says
  stated_again None f g ls h b small =
      subst (λ x. stated_from low (x ++ (g ++ ls)) ≡ took None (g ++ ls)) (sym h)
      (ap (λ c. either_reader c (λ all. low.domain domains (behind all) and_then λ d rest. took (Some d) rest) (λ all. took None all) (g ++ ls)) (be_no_colon g ls b))
  stated_again (Some d) f g ls h b small =
      let c = behind_word_cut (codes ":") (SpellsDomain domains d) f h in
      ap (λ x. stated_from low (x ++ (g ++ ls))) c.parts
      ∙ ap (λ r. r and_then λ x rest. took (Some x) rest) (good.domain domains d c.rest (g ++ ls) c.spelled small (be_ends g ls b))

  value_again : (p : Place) (x : Name × Place) (d : Option DomainTree) (e : ExprTree) (f rest : List Lexeme) → Spells implications e f → height e ≤ less → NoImplications rest
      → let_from low p x d (f ++ rest) ≡ took (letting p x.0 x.1 d e) rest
  unfolding let_from value_from looked_up
  value_again p x None e f rest h small ends =
      rw (word_unseen (codes "domain") f rest refl (starts e f h.1.1), one_again e f rest h small ends) refl
  value_again p x (Some d) e f rest h small ends = rw (one_again e f rest h small ends) refl

  domain_again : (p : Place) (x : Name × Place) (d : DomainTree) (q : Place) (f rest : List Lexeme) → SpellsDomain domains d f → domain_height d ≤ less → DomainEnds rest
      → let_from low p x None (lexeme q (a_word (codes "domain")) ∷ (f ++ rest)) ≡ took (domain_letting p x.0 x.1 d) rest
  unfolding let_from says
  domain_again p x d q f rest h small ends = rw (good.domain domains d f rest h small ends) refl

  -- a letting behind its word, where what stands behind its name is so
  letting_steps : (p : Place) (x : Name) (q : Place) (s : StatementTree) (d : Option DomainTree) (a b front ls : List Lexeme) → front ≡ lexeme q (a_name x) ∷ (a ++ (b ++ ls)) → SpellsStated d a → SaysBe b → stated_height d ≤ less
      → (rest : List Lexeme) → let_from low p (x, q) d ls ≡ took s rest → letting_from low p front ≡ took s rest
  unfolding letting_from placed_name_from placed_name_in
  letting_steps p x q s d a b front ls parts h k small rest on =
      ap (letting_from low p) parts
      ∙ ap (λ r. r and_then λ y next. be_from next and_then λ _ value. let_from low p (x, q) y value) (stated_again d a b ls h k small)
      ∙ ap (λ r. r and_then λ _ value. let_from low p (x, q) d value) (be_again b ls k).1
      ∙ on

  letting_again : (p : Place) (x : Name) (q : Place) (d : Option DomainTree) (e : ExprTree) (rest : List Lexeme) → stated_height d ≤ less → height e ≤ less → After rest
      → Again (Behind_word (letting p x q d e)) (letting_from low p) (letting p x q d e) rest
  unfolding PlacedNames
  letting_again p x q d e rest small_d small after front h =
      let a = h.4.0 in
      let b = h.4.4.0 in
      let f = h.4.4.1 in
      let parts : front ++ rest ≡ lexeme q (a_name x) ∷ (a ++ (b ++ (f ++ rest))) =
      ap (λ z. z ++ rest) h.2 ∙ append_assoc h.0 h.1 rest ∙ ap (λ z. z ++ (h.1 ++ rest)) (placed_alone x q h.0 h.3)
      ∙ ap (λ z. lexeme q (a_name x) ∷ z) (ap (λ z. z ++ rest) h.4.2 ∙ append_assoc a h.4.1 rest ∙ ap (λ z. a ++ z) (ap (λ z. z ++ rest) h.4.4.2 ∙ append_assoc b f rest)) in
      letting_steps p x q (letting p x q d e) d a b (front ++ rest) (f ++ rest) parts h.4.3 h.4.4.3 small_d rest (value_again p (x, q) d e f rest h.4.4.4 small after.ends)

  domain_letting_again : (p : Place) (x : Name) (q : Place) (d : DomainTree) (rest : List Lexeme) → domain_height d ≤ less → After rest
      → Again (Behind_word (domain_letting p x q d)) (letting_from low p) (domain_letting p x q d) rest
  unfolding PlacedNames SpellsStated stated_height
  domain_letting_again p x q d rest small after front h =
      let b = h.4.0 in
      let c = behind_word_cut (codes "domain") (SpellsDomain domains d) h.4.1 h.4.4 in
      let ls = lexeme c.place (a_word (codes "domain")) ∷ (c.rest ++ rest) in
      let parts : front ++ rest ≡ lexeme q (a_name x) ∷ ([] ++ (b ++ ls)) =
      ap (λ z. z ++ rest) h.2 ∙ append_assoc h.0 h.1 rest ∙ ap (λ z. z ++ (h.1 ++ rest)) (placed_alone x q h.0 h.3)
      ∙ ap (λ z. lexeme q (a_name x) ∷ z) (ap (λ z. z ++ rest) h.4.2 ∙ append_assoc b h.4.1 rest ∙ ap (λ z. b ++ (z ++ rest)) c.parts) in
      letting_steps p x q (domain_letting p x q d) None [] b (front ++ rest) ls parts refl h.4.3 (omega arith) rest (domain_again p (x, q) d c.place c.rest rest c.spelled small after.domain)

  -- ---- branchings

  names_end_again : (p : Place) (xs : List (Name × Place)) (rest : List Lexeme)
      → Again (SpellsNames xs followed_by Says "]") (λ ls. bracket_names_from ls and_then λ names end. word_from (codes "]") end and_then λ _ after. took (branching p names) after) (branching p xs) rest
  unfolding SpellsNames bracket_names_from says word_from
  names_end_again p [] rest front h =
      ap (λ z. bracket_names_from (z ++ rest) and_then λ names end. word_from (codes "]") end and_then λ _ after. took (branching p names) after) (h.2 ∙ ap (λ z. z ++ h.1) h.3 ∙ h.4.1)
  names_end_again p (x ∷ xs) rest front h =
      let last = lexeme h.4.0 (a_word (codes "]")) in
      let cut : front ++ rest ≡ h.0 ++ last ∷ rest = ap (λ z. z ++ rest) h.2 ∙ append_assoc h.0 h.1 rest ∙ ap (λ z. h.0 ++ (z ++ rest)) h.4.1 in
      let named : says (codes "]") (h.0 ++ last ∷ rest) ≡ false = ap (λ z. says (codes "]") (z ++ last ∷ rest)) (placed_cut x xs h.0 h.3).parts in
      ap (λ z. bracket_names_from z and_then λ names end. word_from (codes "]") end and_then λ _ after. took (branching p names) after) cut
      ∙ ap (λ b. either_reader b (λ all. took [] all) placed_names_from (h.0 ++ last ∷ rest) and_then λ names end. word_from (codes "]") end and_then λ _ after. took (branching p names) after) named
      ∙ ap (λ r. r and_then λ names end. word_from (codes "]") end and_then λ _ after. took (branching p names) after) (placed_names_again (x ∷ xs) (last ∷ rest) refl h.0 h.3)

  branching_again : (p : Place) (xs : List (Name × Place)) (rest : List Lexeme) → Again (Behind_word (branching p xs)) (branching_from p) (branching p xs) rest
  unfolding branching_from
  branching_again p xs rest =
      word_then (codes "on") (Says "[" followed_by SpellsNames xs followed_by Says "]")
      (λ _ ls. word_from (codes "[") ls and_then λ _ next. bracket_names_from next and_then λ names end. word_from (codes "]") end and_then λ _ after. took (branching p names) after) (branching p xs) rest
      (λ _. word_then (codes "[") (SpellsNames xs followed_by Says "]")
      (λ _ next. bracket_names_from next and_then λ names end. word_from (codes "]") end and_then λ _ after. took (branching p names) after) (branching p xs) rest
      (λ _. names_end_again p xs rest))

  -- ---- statements

  behind_again : (s : StatementTree) (rest : List Lexeme) → statement_height s ≤ less → After rest → Again (Behind_word s) (statement_behind low (at s) (opening_of s)) s rest
  unfolding statement_behind statement_height name_from name_in
  behind_again (given p gs) rest small after f h = ap (λ r. r and_then λ x end. took (given p x) end) (groups_again less low good gs rest small after f h)
  behind_again (decided p gs) rest small after f h = ap (λ r. r and_then λ x end. took (decided p x) end) (groups_again less low good gs rest small after f h)
  behind_again (letting p x q d e) rest small after f h =
      letting_again p x q d e rest (omega (arith, small, le-max_left (stated_height d) (height e))) (omega (arith, small, le-max_right (stated_height d) (height e))) after f h
  behind_again (domain_letting p x q d) rest small after f h = domain_letting_again p x q d rest small after f h
  behind_again (requirements p es) rest small after f h = ap (λ r. r and_then λ x end. took (requirements p x) end) (expressions_again less low good es rest small after f h)
  behind_again (constraints p es) rest small after f h =
      word_then (codes "that") (SpellsExpressions es) (λ _ next. expressions_from low next and_then λ x end. took (constraints p x) end) (constraints p es) rest
      (λ _ g k. ap (λ r. r and_then λ x end. took (constraints p x) end) (expressions_again less low good es rest small after g k)) f h
  behind_again (objective p sense e) rest small after f h = ap (λ r. r and_then λ x end. took (objective p sense x) end) (one_again e f rest h small after.ends)
  behind_again (branching p xs) rest small after f h = branching_again p xs rest f h
  behind_again (heuristic p x) rest small after f h = ap (λ z. name_from (z ++ rest) and_then λ y end. took (heuristic p y) end) h.1

  allowed_again : (allowed : Allowed) (s : StatementTree) (front rest : List Lexeme) → SpellsStatement s front → statement_height s ≤ less → allows allowed (opening_of s) ≡ true → After rest
      → allowed_statement_from low allowed (front ++ rest) ≡ took s rest
  unfolding allowed_statement_from
  allowed_again allowed s front rest h small may after =
      let k = statement_headed s front h in
      let c = k.1 in
      let here : c.place ≡ at s = subst (λ x. StartsAt (at s) x) c.parts k.0 in
      let all = lexeme c.place (a_word c.word) ∷ (c.rest ++ rest) in
      ap (λ x. allowed_statement_from low allowed (x ++ rest)) c.parts
      ∙ ap (λ o. if_some o (λ what. either_reader (allows allowed what) (λ ls. statement_behind low (place_next ls) what (behind ls)) (λ ls. wrong ls) all) (wrong all)) (c.found (c.rest ++ rest))
      ∙ ap (λ b. either_reader b (λ ls. statement_behind low (place_next ls) (opening_of s) (behind ls)) (λ ls. wrong ls) all) may
      ∙ ap (λ q. statement_behind low q (opening_of s) (c.rest ++ rest)) here
      ∙ behind_again s rest small after c.rest c.spelled

  text_after : (statements : TextTree) (front : List Lexeme) → SpellsStatements statements front → After front
  unfolding SpellsStatements
  text_after [] front h = subst After (sym h) after_nothing
  text_after (s ∷ ss) front h =
      let c = (statement_headed s h.0 h.3).1 in
      subst After (sym (h.2 ∙ ap (λ x. x ++ h.1) c.parts)) (c.after (c.rest ++ h.1))

  statements_go : (n : ℕ) (allowed : Allowed) (s : StatementTree) (ss : TextTree) (l : Lexeme) (ls mid : List Lexeme) → allowed_statement_from low allowed (l ∷ ls) ≡ took s mid
      → statements_within low n (allowed_behind s allowed) mid ≡ took ss [] → statements_within low (suc n) allowed (l ∷ ls) ≡ took (s ∷ ss) []
  unfolding statements_within
  statements_go n allowed s ss l ls mid first others = rw (first, others) refl

  no_statement : (n : ℕ) (allowed : Allowed) → statements_within low n allowed [] ≡ took [] []
  unfolding statements_within
  no_statement zero allowed = refl
  no_statement (suc n) allowed = refl

  statements_more : (ss : TextTree) (n : ℕ) (allowed : Allowed) (front : List Lexeme) → length front ≤ n → SpellsStatements ss front → text_height ss ≤ less → Fits allowed ss
      → statements_within low n allowed front ≡ took ss []
  unfolding SpellsStatements text_height Fits
  statements_more [] n allowed front room h small fits = ap (statements_within low n allowed) h ∙ no_statement n allowed
  statements_more (s ∷ ss) zero allowed front room h small fits =
      let c = (statement_headed s h.0 h.3).1 in
      let long : length front ≡ suc (length (c.rest ++ h.1)) = ap length (h.2 ∙ ap (λ x. x ++ h.1) c.parts) in
      absurd (omega (arith, room, long))
  statements_more (s ∷ ss) (suc n) allowed front room h small fits =
      let c = (statement_headed s h.0 h.3).1 in
      let cut : front ≡ lexeme c.place (a_word c.word) ∷ (c.rest ++ h.1) = h.2 ∙ ap (λ x. x ++ h.1) c.parts in
      let long : length front ≡ suc (length (c.rest ++ h.1)) = ap length cut in
      let low_s : statement_height s ≤ less = omega (arith, small, le-max_left (statement_height s) (text_height ss)) in
      let low_ss : text_height ss ≤ less = omega (arith, small, le-max_right (statement_height s) (text_height ss)) in
      ap (statements_within low (suc n) allowed) cut
      ∙ statements_go n allowed s ss (lexeme c.place (a_word c.word)) (c.rest ++ h.1) h.1
      (sym (ap (allowed_statement_from low allowed) cut) ∙ ap (allowed_statement_from low allowed) h.2 ∙ allowed_again allowed s h.0 h.1 h.3 low_s fits.0 (text_after ss h.1 h.4))
      (statements_more ss n (allowed_behind s allowed) h.1 (omega (arith, room, long, length-append c.rest h.1)) h.4 low_ss fits.1)

  pub statements_again : (allowed : Allowed) (ss : TextTree) (front : List Lexeme) → SpellsStatements ss front → text_height ss ≤ less → Fits allowed ss → statements_from low allowed front ≡ took ss []
  statements_again allowed ss front h small fits = statements_more ss (length front) allowed front (omega arith) h small fits

  pub model_again : (ss : TextTree) (front : List Lexeme) → SpellsModel ss front → text_height ss ≤ less → model_from low front ≡ took ss []
  unfolding model_from SpellsModel
  model_again ss front h small =
      let k = line_again h.1.0 h.1.1 h.1.3 in
      ap (model_from low) h.1.2
      ∙ ap (λ r. r and_then λ _ rest. statements_from low Allowed.All rest) k.1
      ∙ statements_again Allowed.All ss h.1.1 h.1.4 small (model_fits ss h.0)

  pub params_again : (ss : TextTree) (front : List Lexeme) → SpellsParams ss front → text_height ss ≤ less → params_from low front ≡ took ss []
  unfolding params_from SpellsParams
  params_again ss front h small = go h.1.3
    where
      fits : Fits Allowed.Lettings ss
      fits = params_fits ss h.0

      go : (LanguageLine h.1.0 ⊎ (h.1.0 ≡ [])) → params_from low front ≡ took ss []
      go (inl l) =
          ap (λ b. either_reader b (λ all. line_from all and_then λ _ rest. statements_from low Allowed.Lettings rest) (statements_from low Allowed.Lettings) front)
          (with_line (SpellsStatements ss) front (h.1.0, h.1.1, h.1.2, l, h.1.4))
          ∙ ap (λ ls. line_from ls and_then λ _ rest. statements_from low Allowed.Lettings rest) h.1.2
          ∙ ap (λ r. r and_then λ _ rest. statements_from low Allowed.Lettings rest) (line_again h.1.0 h.1.1 l).1
          ∙ statements_again Allowed.Lettings ss h.1.1 h.1.4 small fits
      go (inr l) =
          let all : SpellsStatements ss front = subst (SpellsStatements ss) (sym (h.1.2 ∙ ap (λ x. x ++ h.1.1) l)) h.1.4 in
          ap (λ b. either_reader b (λ all. line_from all and_then λ _ rest. statements_from low Allowed.Lettings rest) (statements_from low Allowed.Lettings) front) (no_line ss front all)
          ∙ statements_again Allowed.Lettings ss front all small fits

-- ---- one text

abbrev taken : {A : Type 0} → A → Read A → A
taken other (took x ls) = x
taken other (wrong ls) = other
taken other (high ls) = other

-- Some tokens spell one model at most.
pub one_model : (a b : TextTree) (ls : List Lexeme) → SpellsModel a ls → SpellsModel b ls → a ≡ b
one_model a b ls h k =
    let most = max (text_height a) (text_height b) in
    ap (taken a)
    (sym (model_again most (readers most) (all_complete most) a ls h (le-max_left (text_height a) (text_height b)))
    ∙ model_again most (readers most) (all_complete most) b ls k (le-max_right (text_height a) (text_height b)))

-- Some tokens spell one parameter text at most.
pub one_params : (a b : TextTree) (ls : List Lexeme) → SpellsParams a ls → SpellsParams b ls → a ≡ b
one_params a b ls h k =
    let most = max (text_height a) (text_height b) in
    ap (taken a)
    (sym (params_again most (readers most) (all_complete most) a ls h (le-max_left (text_height a) (text_height b)))
    ∙ params_again most (readers most) (all_complete most) b ls k (le-max_right (text_height a) (text_height b)))
