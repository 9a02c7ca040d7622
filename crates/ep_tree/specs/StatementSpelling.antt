-- Which lists of tokens spell which statement, model or parameter text.
--
-- The statements are those of the language's public description. That they stand in any order, several of each but
-- one objective, and that a parameter text may have no language line, is this project's own choice.
use Rattle.std.specs.Prelude.{Bool, true, false, List, [], ◌∷◌, pos, nat_le, Some, None, count_by, Option}
use Rattle.std.specs.List.{list_all}
use Rattle.ep_base.specs.declared.names.Name.{Name}
use Rattle.ep_base.specs.declared.operators.Sense.{Sense}
use Rattle.ep_base.specs.declared.places.Place.{Place}
use Prim.Native.String.{String}
use Rattle.ep_tree.specs.Phrases.{From, Is, Nothing, Phrase, PlacedNames, Says, Silence, When, a_name, a_number, ◌followed_by◌, ◌or_else◌}
use Rattle.ep_tree.specs.Spelling.{Spells, SpellsDomain, domains, implications}
use Rattle.ep_tree.specs.Statements.{Group, StatementTree, TextTree, branching, constraints, decided, domain_letting, given, heuristic, letting, objective, requirements}
use Rattle.ep_tree.specs.Trees.{DomainTree, ExprTree}

-- a word that has two spellings
abbrev pub SaysEither : String → String → Phrase
SaysEither one other = Says one or_else Says other

-- expressions with commas between them, or none; a comma may stand behind the last
unfoldable pub SpellsExpressions : List ExprTree → Phrase
SpellsExpressions [] = Silence
SpellsExpressions (e ∷ []) = Spells implications e followed_by (Silence or_else Says ",")
SpellsExpressions (e ∷ other ∷ es) = Spells implications e followed_by Says "," followed_by SpellsExpressions (other ∷ es)

-- names and their domain
abbrev pub SpellsGroup : Group → Phrase
SpellsGroup g = PlacedNames g.names followed_by Says ":" followed_by SpellsDomain domains g.domain

-- groups with commas between them, at least one
unfoldable pub SpellsGroups : List Group → Phrase
SpellsGroups [] = Nothing
SpellsGroups (g ∷ []) = SpellsGroup g
SpellsGroups (g ∷ other ∷ groups) = SpellsGroup g followed_by Says "," followed_by SpellsGroups (other ∷ groups)

-- the domain that a letting states, behind a colon, or nothing
unfoldable pub SpellsStated : Option DomainTree → Phrase
SpellsStated None = Silence
SpellsStated (Some d) = Says ":" followed_by SpellsDomain domains d

-- names with commas between them, or none
unfoldable pub SpellsNames : List (Name × Place) → Phrase
SpellsNames [] = Silence
SpellsNames (name ∷ names) = PlacedNames (name ∷ names)

-- the word of an objective
unfoldable pub SpellsSense : Sense → Phrase
SpellsSense Sense.Minimising = SaysEither "minimising" "minimizing"
SpellsSense Sense.Maximising = SaysEither "maximising" "maximizing"

-- what stands between a letting's name and its value
abbrev pub SaysBe : Phrase
SaysBe = SaysEither "be" "="

-- the tokens spell a statement
unfoldable pub SpellsStatement : StatementTree → Phrase
SpellsStatement (given p groups) = From p (Says "given" followed_by SpellsGroups groups)
SpellsStatement (decided p groups) = From p (Says "find" followed_by SpellsGroups groups)
SpellsStatement (letting p name at d e) =
    From p
    (Says "letting" followed_by PlacedNames ((name, at) ∷ []) followed_by SpellsStated d followed_by SaysBe
    followed_by Spells implications e)
SpellsStatement (domain_letting p name at d) =
    From p
    (Says "letting" followed_by PlacedNames ((name, at) ∷ []) followed_by SaysBe followed_by Says "domain"
    followed_by SpellsDomain domains d)
SpellsStatement (requirements p es) = From p (Says "where" followed_by SpellsExpressions es)
SpellsStatement (constraints p es) = From p (Says "such" followed_by Says "that" followed_by SpellsExpressions es)
SpellsStatement (objective p sense e) = From p (SpellsSense sense followed_by Spells implications e)
SpellsStatement (branching p names) =
    From p
    (Says "branching" followed_by Says "on" followed_by Says "[" followed_by SpellsNames names followed_by Says "]")
SpellsStatement (heuristic p name) = From p (Says "heuristic" followed_by Is (a_name name))

-- statements, one after another
unfoldable pub SpellsStatements : TextTree → Phrase
SpellsStatements [] = Silence
SpellsStatements (s ∷ statements) = SpellsStatement s followed_by SpellsStatements statements

-- the language line, whose numbers count by their values
abbrev pub LanguageLine : Phrase
LanguageLine =
    Says "language" followed_by Says "ESSENCE'" followed_by Is (a_number (pos 1)) followed_by Says "."
    followed_by Is (a_number (pos 0))

-- whether a statement is an objective
unfoldable pub is_objective : StatementTree → Bool
is_objective (objective _ _ _) = true
is_objective _ = false

-- whether a statement is a letting, of a value or of a domain
unfoldable pub is_letting : StatementTree → Bool
is_letting (letting _ _ _ _ _) = true
is_letting (domain_letting _ _ _ _) = true
is_letting _ = false

-- a model: the language line and then statements, of which one at most is an objective
unfoldable pub SpellsModel : TextTree → Phrase
SpellsModel statements =
    When (nat_le (count_by is_objective statements) 1) (LanguageLine followed_by SpellsStatements statements)

-- a parameter text or a solution text: a language line, which may be missing, and then lettings
unfoldable pub SpellsParams : TextTree → Phrase
SpellsParams statements =
    When (list_all is_letting statements) ((LanguageLine or_else Silence) followed_by SpellsStatements statements)
