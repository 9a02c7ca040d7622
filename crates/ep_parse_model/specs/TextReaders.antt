-- Reading statements from left to right, with a height that may not be passed.
use Rattle.std.specs.Prelude.{ℕ, zero, suc, pos, Bool, true, false, List, [], ◌∷◌, length, Option, Some, None, codes}
use Rattle.ep_base.specs.declared.names.Name.{Name}
use Rattle.ep_base.specs.declared.operators.Sense.{Sense}
use Rattle.ep_base.specs.declared.places.Place.{Place}
use Rattle.ep_parse_model.specs.declared.openings.Allowed.{Allowed}
use Rattle.ep_parse_model.specs.declared.openings.Opening.{Opening}
use Rattle.ep_parse_parts.specs.DomainReaders.{place_next}
use Rattle.ep_parse_parts.specs.OperandReaders.{Lower, expression_next}
use Rattle.ep_parse_parts.specs.Readers.{Reader, behind, behind_comma, either_reader, if_some, name_from, next_in, number_from, others_from, says, took, word_from, wrong, ◌and_then◌}
use Rattle.ep_parse_parts.specs.TreeReaders.{expr_from, some_domain_from}
use Rattle.ep_tree.specs.Reading.{MOST_HEIGHT}
use Rattle.ep_tree.specs.Phrases.{Lexeme, Saying, a_name, a_number, a_word}
use Rattle.ep_tree.specs.Spelling.{domains, implications}
use Rattle.ep_tree.specs.Statements.{Group, StatementTree, TextTree, branching, constraints, decided, domain_letting, given, heuristic, letting, objective, requirements}
use Rattle.ep_tree.specs.Trees.{DomainTree, ExprTree}

-- the readers of expressions and domains, as high as the language has them
abbrev pub full : Lower
full = record { expr = expr_from MOST_HEIGHT; domain = some_domain_from MOST_HEIGHT }

-- a name with its place
unfoldable pub placed_name_in : Lexeme → Saying → Reader (Name × Place)
placed_name_in l (a_name x) ls = took (x, l.place) ls
placed_name_in l (a_number n) ls = wrong (l ∷ ls)
placed_name_in l (a_word w) ls = wrong (l ∷ ls)

-- a name with its place, if one is next
unfoldable pub placed_name_from : Reader (Name × Place)
placed_name_from [] = wrong []
placed_name_from (l ∷ ls) = placed_name_in l l.saying ls

-- names with their places and commas between them, at least one
unfoldable pub placed_names_from : Reader (List (Name × Place))
placed_names_from ls =
    placed_name_from ls and_then λ x rest. others_from behind_comma (λ last. placed_name_from) x rest and_then λ xs end.
    took (x ∷ xs) end

-- names and their domain
unfoldable pub group_from : Lower → Reader Group
group_from low ls =
    placed_names_from ls and_then λ names rest. word_from (codes ":") rest and_then λ _ next.
    low.domain domains next and_then λ d end. took (record { names = names; domain = d }) end

-- groups with commas between them, at least one
unfoldable pub groups_from : Lower → Reader (List Group)
groups_from low ls =
    group_from low ls and_then λ g rest. others_from behind_comma (λ last. group_from low) g rest and_then λ gs end.
    took (g ∷ gs) end

-- Expressions with commas between them, or none, where so many are enough; a comma may stand behind the last.
unfoldable pub expressions_within : Lower → ℕ → Reader (List ExprTree)
expressions_within low zero ls = took [] ls
expressions_within low (suc more) ls =
    either_reader (expression_next ls)
    (λ all. low.expr implications all and_then λ e rest.
    either_reader (says (codes ",") rest)
    (λ next. expressions_within low more (behind next) and_then λ es end. took (e ∷ es) end) (λ next. took (e ∷ []) next) rest)
    (λ all. took [] all) ls

-- expressions with commas between them, or none; there are no more than tokens
abbrev pub expressions_from : Lower → Reader (List ExprTree)
expressions_from low ls = expressions_within low (length ls) ls

-- the domain that a letting states, where it does
unfoldable pub stated_from : Lower → Reader (Option DomainTree)
stated_from low ls =
    either_reader (says (codes ":") ls) (λ all. low.domain domains (behind all) and_then λ d rest. took (Some d) rest)
    (λ all. took None all) ls

-- what stands between a letting's name and its value
unfoldable pub be_from : Reader Place
be_from ls = either_reader (says (codes "be") ls) (word_from (codes "be")) (word_from (codes "=")) ls

-- the value of a letting
unfoldable pub value_from : Lower → Place → Name × Place → Option DomainTree → Reader StatementTree
value_from low p x d ls = low.expr implications ls and_then λ e rest. took (letting p x.0 x.1 d e) rest

-- what is let: a value, or a domain where none is stated
unfoldable pub let_from : Lower → Place → Name × Place → Option DomainTree → Reader StatementTree
let_from low p x None ls =
    either_reader (says (codes "domain") ls)
    (λ all. low.domain domains (behind all) and_then λ d rest. took (domain_letting p x.0 x.1 d) rest)
    (value_from low p x None) ls
let_from low p x (Some d) ls = value_from low p x (Some d) ls

-- a letting behind its word
unfoldable pub letting_from : Lower → Place → Reader StatementTree
letting_from low p ls =
    placed_name_from ls and_then λ x rest. stated_from low rest and_then λ d next. be_from next and_then λ _ value.
    let_from low p x d value

-- the words that begin a statement
abbrev pub statement_words : List (List ℕ × Opening)
statement_words =
    (codes "given", Opening.Given) ∷ (codes "find", Opening.Find) ∷ (codes "letting", Opening.Letting) ∷ (codes "where", Opening.Where)
    ∷ (codes "such", Opening.SuchThat) ∷ (codes "minimising", Opening.Objective Sense.Minimising)
    ∷ (codes "minimizing", Opening.Objective Sense.Minimising) ∷ (codes "maximising", Opening.Objective Sense.Maximising)
    ∷ (codes "maximizing", Opening.Objective Sense.Maximising) ∷ (codes "branching", Opening.Branching)
    ∷ (codes "heuristic", Opening.Heuristic) ∷ []

-- the names of a branching behind their bracket, or none
unfoldable pub bracket_names_from : Reader (List (Name × Place))
bracket_names_from ls = either_reader (says (codes "]") ls) (λ all. took [] all) placed_names_from ls

-- a branching behind its first word
unfoldable pub branching_from : Place → Reader StatementTree
branching_from p ls =
    word_from (codes "on") ls and_then λ _ rest. word_from (codes "[") rest and_then λ _ next.
    bracket_names_from next and_then λ names end. word_from (codes "]") end and_then λ _ after. took (branching p names) after

-- a statement behind its first word
unfoldable pub statement_behind : Lower → Place → Opening → Reader StatementTree
statement_behind low p Opening.Given ls = groups_from low ls and_then λ gs rest. took (given p gs) rest
statement_behind low p Opening.Find ls = groups_from low ls and_then λ gs rest. took (decided p gs) rest
statement_behind low p Opening.Letting ls = letting_from low p ls
statement_behind low p Opening.Where ls = expressions_from low ls and_then λ es rest. took (requirements p es) rest
statement_behind low p Opening.SuchThat ls =
    word_from (codes "that") ls and_then λ _ next. expressions_from low next and_then λ es rest. took (constraints p es) rest
statement_behind low p (Opening.Objective sense) ls = low.expr implications ls and_then λ e rest. took (objective p sense e) rest
statement_behind low p Opening.Branching ls = branching_from p ls
statement_behind low p Opening.Heuristic ls = name_from ls and_then λ x rest. took (heuristic p x) rest

-- ---- whole texts

-- whether a statement that a word begins may come
abbrev pub allows : Allowed → Opening → Bool
allows Allowed.All what = true
allows Allowed.NoObjective (Opening.Objective sense) = false
allows Allowed.NoObjective what = true
allows Allowed.Lettings Opening.Letting = true
allows Allowed.Lettings what = false

-- which statements may come behind one: no objective behind an objective
abbrev pub allowed_behind : StatementTree → Allowed → Allowed
allowed_behind (objective p sense e) Allowed.All = Allowed.NoObjective
allowed_behind s allowed = allowed

-- a statement, where it may come
unfoldable pub allowed_statement_from : Lower → Allowed → Reader StatementTree
allowed_statement_from low allowed ls =
    if_some (next_in statement_words ls)
    (λ what. either_reader (allows allowed what) (λ all. statement_behind low (place_next all) what (behind all)) (λ all. wrong all) ls) (wrong ls)

-- Statements up to the end of the text, where so many are enough.
unfoldable pub statements_within : Lower → ℕ → Allowed → Reader TextTree
statements_within low most allowed [] = took [] []
statements_within low zero allowed (l ∷ ls) = wrong (l ∷ ls)
statements_within low (suc more) allowed (l ∷ ls) =
    allowed_statement_from low allowed (l ∷ ls) and_then λ s rest.
    statements_within low more (allowed_behind s allowed) rest and_then λ ss end. took (s ∷ ss) end

-- statements up to the end of the text; there are no more than tokens
abbrev pub statements_from : Lower → Allowed → Reader TextTree
statements_from low allowed ls = statements_within low (length ls) allowed ls

-- the language line
unfoldable pub line_from : Reader Place
line_from ls =
    word_from (codes "language") ls and_then λ _ essence. word_from (codes "ESSENCE'") essence and_then λ _ major.
    number_from (pos 1) major and_then λ _ dot. word_from (codes ".") dot and_then λ _ minor. number_from (pos 0) minor

-- a model
unfoldable pub model_from : Lower → Reader TextTree
model_from low ls = line_from ls and_then λ _ rest. statements_from low Allowed.All rest

-- a parameter text
unfoldable pub params_from : Lower → Reader TextTree
params_from low ls =
    either_reader (says (codes "language") ls) (λ all. line_from all and_then λ _ rest. statements_from low Allowed.Lettings rest)
    (statements_from low Allowed.Lettings) ls
