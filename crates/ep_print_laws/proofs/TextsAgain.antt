-- Statements and whole models are spelled again by their words.
use Rattle.std.proofs.Common.{◌≡◌, ℕ, ◌+◌, cond, List, [], ◌∷◌, ◌++◌, map, codes, refl, ap, ap₂, ◌∙◌, inl, pos, Option, Some, None}
use Rattle.std.specs.List.{flat_map, fold}
use Rattle.std.specs.Option.{option_map}
use Rattle.std.specs.Prelude.{count_by, nat_le}
use Rattle.std.proofs.lemmas.List.{append-nil}
use Rattle.ep_base.specs.declared.names.Name.{Name}
use Rattle.ep_base.specs.declared.operators.Sense.{Sense}
use Rattle.ep_base.specs.declared.places.Place.{Place}
use Rattle.ep_tree.specs.Phrases.{From, Is, Lexeme, Phrase, PlacedNames, Says, Silence, a_name, a_number, ◌followed_by◌, ◌or_else◌}
use Rattle.ep_tree.specs.Placeless.{placeless, placeless_domain, placeless_group, placeless_name, placeless_statement, somewhere}
use Rattle.ep_tree.specs.Spelling.{Spells, implications}
use Rattle.ep_tree.specs.StatementSpelling.{LanguageLine, SaysBe, SpellsExpressions, SpellsGroup, SpellsGroups, SpellsModel, SpellsNames, SpellsSense, SpellsStated, SpellsStatement, SpellsStatements, is_objective}
use Rattle.ep_tree.specs.Statements.{Group, StatementTree, TextTree, branching, constraints, decided, domain_letting, given, heuristic, letting, objective, requirements}
use Rattle.ep_tree.specs.Trees.{DomainTree, ExprTree}
use Rattle.ep_print.specs.Joining.{with_between}
use Rattle.ep_print.specs.Words.{Words, expr_words, group_words, parted, words_of_placed, sense_word, stated_words, statement_words, word}
use Rattle.ep_print_laws.proofs.Clearing.{objective_cleared}
use Rattle.ep_print_laws.proofs.Literals as literals
use Rattle.ep_print_laws.proofs.Literals.{one_digit, sense_literal, zero_digit}
use Rattle.ep_print_laws.proofs.Pieces.{kept}
use Rattle.ep_print_laws.proofs.Respelled.{Again, Respelled, Twin, again_as, again_name, again_none, again_nothing, again_then, again_when, again_word, again_words, always, respelled_as, respelled_is, respelled_none, respelled_then, respelled_word}
use Rattle.ep_print_laws.proofs.Spelled.{domain_whole, expr_whole}
use Rattle.ep_print_laws.proofs.Scanned.{sayings, word_sayings}

-- ---- the first token of a statement

-- what begins with a word of its own stands at the place of its first token
pub respelled_from : {X : Type 0} {Q : X → Phrase} {w : List ℕ} {ws : Words} → Respelled Q (w ∷ ws) → Respelled (λ (x : Place × X). From x.0 (Q x.1)) (w ∷ ws)
respelled_from {X = X} {Q = Q} {w = w} {ws = ws} r = record { written = r.written; said = λ ts e. placed ts e (r.said ts e) }
  where
    placed : (ts : List Lexeme) → sayings ts ≡ word_sayings (w ∷ ws) → (x : X) × Q x ts → (y : Place × X) × From y.0 (Q y.1) ts
    placed [] e x = absurd cc
    placed (t ∷ ts) e x = ((t.place, x.0), (refl, x.1))

again_from : {P : Phrase} {X : Type 0} {Q : X → Phrase} {w : List ℕ} {ws : Words} (q : Place) → Again P Q (w ∷ ws) → Again (From q P) (λ (x : Place × X). From x.0 (Q x.1)) (w ∷ ws)
again_from q a = record { again = λ tokens said h. respelled_from (a.again tokens said h.1) }

-- ---- lists

-- names with their places
pub placed_again : (names : List (Name × Place)) → Again (PlacedNames names) (λ (x : Twin (map placeless_name) names). PlacedNames x.tree) (words_of_placed names)
unfolding PlacedNames with_between
placed_again [] = again_nothing
placed_again (name ∷ []) = again_as (again_from name.1 (again_name name.0)) (λ x. record { tree = (name.0, x.0) ∷ []; same = refl }) (λ x ts h. h)
placed_again (name ∷ other ∷ names) =
    again_as (again_then (again_from name.1 (again_name name.0)) (again_then (again_word "," literals.comma) (placed_again (other ∷ names))))
    (λ x. record { tree = (name.0, x.0.0) ∷ x.1.1.tree; same = ap (λ others. placeless_name name ∷ others) x.1.1.same })
    (λ x ts h. more name.0 x.0.0 x.1.1.tree ts x.1.1.same h)
  where
    more : (n : Name) (p : Place) (tree : List (Name × Place)) (ts : List Lexeme) → map placeless_name tree ≡ map placeless_name (other ∷ names)
        → (From p (Is (a_name n)) followed_by Says "," followed_by PlacedNames tree) ts → PlacedNames ((n, p) ∷ tree) ts
    more n p [] ts e h = absurd cc
    more n p (o ∷ tree) ts e h = h

-- names that are declared together
group_again : (g : Group) → Again (SpellsGroup g) (λ (x : Twin placeless_group g). SpellsGroup x.tree) (group_words g)
unfolding group_words placeless_group
group_again g =
    again_as (again_then (placed_again g.names) (again_then (again_word ":" literals.colon) (domain_whole g.domain)))
    (λ x. record { tree = record { names = x.0.tree; domain = x.1.1.tree }; same = ap₂ (λ ns d. record { names = ns; domain = d }) x.0.same x.1.1.same }) (λ x ts h. h)

groups_again : (groups : List Group) → Again (SpellsGroups groups) (λ (x : Twin (map placeless_group) groups). SpellsGroups x.tree) (parted "," (map group_words groups))
unfolding SpellsGroups with_between
groups_again [] = again_nothing
groups_again (g ∷ []) = again_as (group_again g) (λ x. record { tree = x.tree ∷ []; same = ap (λ h. h ∷ []) x.same }) (λ x ts h. h)
groups_again (g ∷ other ∷ groups) =
    again_as (again_then (group_again g) (again_then (again_word "," literals.comma) (groups_again (other ∷ groups))))
    (λ x. record { tree = x.0.tree ∷ x.1.1.tree; same = ap₂ (λ h hs. h ∷ hs) x.0.same x.1.1.same })
    (λ x ts h. more x.0.tree x.1.1.tree ts x.1.1.same h)
  where
    more : (h : Group) (tree : List Group) (ts : List Lexeme) → map placeless_group tree ≡ map placeless_group (other ∷ groups) → (SpellsGroup h followed_by Says "," followed_by SpellsGroups tree) ts → SpellsGroups (h ∷ tree) ts
    more h [] ts e k = absurd cc
    more h (o ∷ tree) ts e k = k

-- clauses, of which the last has no comma behind it
clauses_again : (es : List ExprTree) → Again (SpellsExpressions es) (λ (x : Twin (map placeless) es). SpellsExpressions x.tree) (parted "," (map expr_words es))
unfolding SpellsExpressions with_between
clauses_again [] = again_as again_none (λ u. record { tree = []; same = refl }) (λ u ts h. h)
clauses_again (e ∷ []) =
    again_words (append-nil (expr_words e))
    (again_as (again_then (expr_whole e) (always {P = Silence or_else Says ","} (respelled_as respelled_none (λ u. u) (λ u ts h. inl h))))
    (λ x. record { tree = x.0.tree ∷ []; same = ap (λ f. f ∷ []) x.0.same }) (λ x ts h. h))
clauses_again (e ∷ other ∷ es) =
    again_as (again_then (expr_whole e) (again_then (again_word "," literals.comma) (clauses_again (other ∷ es))))
    (λ x. record { tree = x.0.tree ∷ x.1.1.tree; same = ap₂ (λ f fs. f ∷ fs) x.0.same x.1.1.same })
    (λ x ts h. more x.0.tree x.1.1.tree ts x.1.1.same h)
  where
    more : (f : ExprTree) (tree : List ExprTree) (ts : List Lexeme) → map placeless tree ≡ map placeless (other ∷ es) → (Spells implications f followed_by Says "," followed_by SpellsExpressions tree) ts → SpellsExpressions (f ∷ tree) ts
    more f [] ts k h = absurd cc
    more f (o ∷ tree) ts k h = h

stated_again : (d : Option DomainTree) → Again (SpellsStated d) (λ (x : Twin (option_map placeless_domain) d). SpellsStated x.tree) (stated_words d)
unfolding SpellsStated stated_words
stated_again None = again_as again_none (λ u. record { tree = None; same = refl }) (λ u ts h. h)
stated_again (Some d) =
    again_as (again_then (again_word ":" literals.colon) (domain_whole d)) (λ x. record { tree = Some x.1.tree; same = ap Some x.1.same }) (λ x ts h. h)

names_again : (names : List (Name × Place)) → Again (SpellsNames names) (λ (x : Twin (map placeless_name) names). SpellsNames x.tree) (words_of_placed names)
unfolding SpellsNames with_between
names_again [] = again_as again_none (λ u. record { tree = []; same = refl }) (λ u ts h. h)
names_again (name ∷ names) = again_as (placed_again (name ∷ names)) (λ x. x) (λ x ts h. some x.tree ts x.same h)
  where
    some : (tree : List (Name × Place)) (ts : List Lexeme) → map placeless_name tree ≡ map placeless_name (name ∷ names) → PlacedNames tree ts → SpellsNames tree ts
    some [] ts e h = absurd cc
    some (o ∷ tree) ts e h = h

sense_again : (sense : Sense) → Again (SpellsSense sense) (λ (u : Unit {0}). SpellsSense sense) (word (sense_word sense))
unfolding SpellsSense sense_word
sense_again Sense.Minimising = always (respelled_as (respelled_word "minimising" (sense_literal Sense.Minimising)) (λ u. u) (λ u ts h. inl h))
sense_again Sense.Maximising = always (respelled_as (respelled_word "maximising" (sense_literal Sense.Maximising)) (λ u. u) (λ u ts h. inl h))

be_again : Again SaysBe (λ (u : Unit {0}). SaysBe) (word "be")
be_again = always (respelled_as (respelled_word "be" literals.be) (λ u. u) (λ u ts h. inl h))

one_name : (name : Name) (at : Place) → Again (PlacedNames ((name, at) ∷ [])) (λ (p : Place). PlacedNames ((name, p) ∷ [])) (name ∷ [])
unfolding PlacedNames
one_name name at = again_as (again_from at (again_name name)) (λ x. x.0) (λ x ts h. h)

-- ---- statements

pub statement_again : (s : StatementTree) → Again (SpellsStatement s) (λ (x : Twin placeless_statement s). SpellsStatement x.tree) (statement_words s)
unfolding SpellsStatement statement_words placeless_statement
statement_again (given q groups) =
    again_as (again_from q (again_then (again_word "given" literals.given) (groups_again groups)))
    (λ x. record { tree = given x.0 x.1.1.tree; same = ap (given somewhere) x.1.1.same }) (λ x ts h. h)
statement_again (decided q groups) =
    again_as (again_from q (again_then (again_word "find" literals.find) (groups_again groups)))
    (λ x. record { tree = decided x.0 x.1.1.tree; same = ap (decided somewhere) x.1.1.same }) (λ x ts h. h)
statement_again (letting q name at d e) =
    again_as (again_from q (again_then (again_word "letting" literals.letting) (again_then (one_name name at) (again_then (stated_again d) (again_then be_again (expr_whole e))))))
    (λ x. record { tree = letting x.0 name x.1.1.0 x.1.1.1.0.tree x.1.1.1.1.1.tree; same = ap₂ (λ c f. letting somewhere name somewhere c f) x.1.1.1.0.same x.1.1.1.1.1.same }) (λ x ts h. h)
statement_again (domain_letting q name at d) =
    again_as (again_from q (again_then (again_word "letting" literals.letting) (again_then (one_name name at) (again_then be_again (again_then (again_word "domain" literals.domain) (domain_whole d))))))
    (λ x. record { tree = domain_letting x.0 name x.1.1.0 x.1.1.1.1.1.tree; same = ap (domain_letting somewhere name somewhere) x.1.1.1.1.1.same }) (λ x ts h. h)
statement_again (requirements q es) =
    again_as (again_from q (again_then (again_word "where" literals.where_word) (clauses_again es)))
    (λ x. record { tree = requirements x.0 x.1.1.tree; same = ap (requirements somewhere) x.1.1.same }) (λ x ts h. h)
statement_again (constraints q es) =
    again_as (again_from q (again_then (again_word "such" literals.such) (again_then (again_word "that" literals.that) (clauses_again es))))
    (λ x. record { tree = constraints x.0 x.1.1.1.tree; same = ap (constraints somewhere) x.1.1.1.same }) (λ x ts h. h)
statement_again (objective q sense e) =
    again_as (again_from q (again_then (sense_again sense) (expr_whole e)))
    (λ x. record { tree = objective x.0 sense x.1.1.tree; same = ap (objective somewhere sense) x.1.1.same }) (λ x ts h. h)
statement_again (branching q names) =
    again_as
    (again_from q (again_then (again_word "branching" literals.branching) (again_then (again_word "on" literals.on) (again_then (again_word "[" literals.open_square) (again_then (names_again names) (again_word "]" literals.close_square))))))
    (λ x. record { tree = branching x.0 x.1.1.1.1.0.tree; same = ap (branching somewhere) x.1.1.1.1.0.same }) (λ x ts h. h)
statement_again (heuristic q name) =
    again_as (again_from q (again_then (again_word "heuristic" literals.heuristic) (again_name name)))
    (λ x. record { tree = heuristic x.0 name; same = refl }) (λ x ts h. h)

pub statements_again : (statements : TextTree) → Again (SpellsStatements statements) (λ (x : Twin (map placeless_statement) statements). SpellsStatements x.tree) (flat_map statement_words statements)
unfolding SpellsStatements
statements_again [] = again_as again_none (λ u. record { tree = []; same = refl }) (λ u ts h. h)
statements_again (s ∷ statements) =
    again_as (again_then (statement_again s) (statements_again statements))
    (λ x. record { tree = x.0.tree ∷ x.1.tree; same = ap₂ (λ t ts. t ∷ ts) x.0.same x.1.same }) (λ x ts h. h)

-- ---- models

-- the words of the language line
abbrev pub language_words : Words
language_words = codes "language" ∷ codes "ESSENCE'" ∷ codes "1" ∷ codes "." ∷ codes "0" ∷ []

pub language_respelled : Respelled (λ (u : Unit {0}). LanguageLine) language_words
language_respelled =
    respelled_as
    (respelled_then (respelled_word "language" literals.language)
    (respelled_then (respelled_word "ESSENCE'" literals.essence)
    (respelled_then (respelled_is (a_number (pos 1)) (codes "1") one_digit.written one_digit.says)
    (respelled_then (respelled_word "." literals.dot) (respelled_is (a_number (pos 0)) (codes "0") zero_digit.written zero_digit.says)))))
    (λ x. tt) (λ x ts h. h)

counted_on : (n : ℕ) (text : TextTree) → fold (λ a s. a + cond (is_objective s) 1 0) n (map placeless_statement text) ≡ fold (λ a s. a + cond (is_objective s) 1 0) n text
counted_on n [] = refl
counted_on n (s ∷ text) =
    ap (λ b. fold (λ a t. a + cond (is_objective t) 1 0) (n + cond b 1 0) (map placeless_statement text)) (objective_cleared s)
    ∙ counted_on (n + cond (is_objective s) 1 0) text

-- as many objectives
objectives : (text : TextTree) → count_by is_objective (map placeless_statement text) ≡ count_by is_objective text
objectives text = counted_on 0 text

pub model_again : (model : TextTree) → Again (SpellsModel model) (λ (x : Twin (map placeless_statement) model). SpellsModel x.tree) (language_words ++ flat_map statement_words model)
unfolding SpellsModel
model_again model =
    again_when (nat_le (count_by is_objective model) 1)
    (again_as (again_then (always {P = LanguageLine} language_respelled) (statements_again model)) (λ x. x.1) (λ x ts h. h))
    (λ x. nat_le (count_by is_objective x.tree) 1) (λ x. ap (λ n. nat_le n 1) (kept (map placeless_statement) (count_by is_objective) objectives model x))
