-- The decision variables of a model that some text spells have names of the language.
use Rattle.std.proofs.Common.{◌≡◌, List, [], ◌∷◌, ◌++◌, ℤ, Some, subst}
use Rattle.std.specs.Prelude.{Ok}
use Rattle.std.specs.List.{All, AllByRecursion}
use Rattle.std.proofs.lemmas.List.Elements.{All-from_recursion}
use Rattle.ep_base.proofs.Small.{some_is, then_is}
use Rattle.ep_base.specs.Options.{on_both}
use Rattle.ep_base.specs.declared.names.Name.{Name}
use Rattle.ep_base.specs.declared.places.Place.{Place}
use Rattle.ep_tree.proofs.TypedParts.{both_is}
use Rattle.ep_tree.specs.Binding.{Find, Instance, Progress, Shape, bind, bind_givens, bind_letting, bind_params, bind_statement, bind_statements, bound_finds, first_false, group_finds, in_env, limits_met, met_groups, met_in, model_text, nothing_bound, now_with, or_refuse, parameter_text, shape_of, undefined_at, with_clauses, with_finds, with_goal}
use Rattle.ep_tree.specs.Environments.{Env}
use Rattle.ep_tree.specs.Faults.{lettings_of}
use Rattle.ep_tree.specs.Names.{nothing_known}
use Rattle.ep_tree.specs.Phrases.{From, Is, Lexeme, PlacedNames, a_name}
use Rattle.ep_tree.specs.Statements.{Group, StatementTree, TextTree, branching, constraints, decided, domain_letting, given, heuristic, letting, objective, requirements}
use Rattle.ep_tree.specs.StatementSpelling.{SpellsGroup, SpellsGroups, SpellsModel, SpellsStatement, SpellsStatements}
use Rattle.ep_tree.specs.Texts.{IsSpellable}
use Rattle.ep_tree.specs.declared.values.Mode.{Mode}
use Rattle.ep_print_laws.specs.GivenBack.{HasName}
use Rattle.ep_print_laws.proofs.NearDomains.{next_is, ok_is, refuse_is, unless_is}
use Rattle.ep_print_laws.proofs.Said.{AreSaid, CanSay, said_parts, tokens_said}

-- ---- names in a text

-- names that tokens of a text can say
abbrev AreNames : List (Name × Place) → Type 0
AreNames names = AllByRecursion (λ (name : Name × Place). CanSay (a_name name.0)) names

-- the names of groups
abbrev HaveNames : List Group → Type 0
HaveNames groups = AllByRecursion (λ (g : Group). AreNames g.names) groups

name_said : (name : Name × Place) (tokens : List Lexeme) → AreSaid tokens → From name.1 (Is (a_name name.0)) tokens → CanSay (a_name name.0)
name_said name tokens said is = (subst AreSaid is.1.1 said).0

names_said : (names : List (Name × Place)) (tokens : List Lexeme) → AreSaid tokens → PlacedNames names tokens → AreNames names
unfolding PlacedNames
names_said [] tokens said is = tt
names_said (name ∷ []) tokens said is = (name_said name tokens said is, tt)
names_said (name ∷ other ∷ names) tokens said is =
    let one = said_parts is.0 is.1 (subst AreSaid is.2 said) in
    let more = is.4 in
    let rest = said_parts more.0 more.1 (subst AreSaid more.2 one.1) in
    (name_said name is.0 one.0 is.3, names_said (other ∷ names) more.1 rest.1 more.4)

group_said : (g : Group) (tokens : List Lexeme) → AreSaid tokens → SpellsGroup g tokens → AreNames g.names
group_said g tokens said is = names_said g.names is.0 (said_parts is.0 is.1 (subst AreSaid is.2 said)).0 is.3

groups_said : (groups : List Group) (tokens : List Lexeme) → AreSaid tokens → SpellsGroups groups tokens → HaveNames groups
unfolding SpellsGroups
groups_said [] tokens said is = tt
groups_said (g ∷ []) tokens said is = (group_said g tokens said is, tt)
groups_said (g ∷ other ∷ groups) tokens said is =
    let one = said_parts is.0 is.1 (subst AreSaid is.2 said) in
    let more = is.4 in
    let rest = said_parts more.0 more.1 (subst AreSaid more.2 one.1) in
    (group_said g is.0 one.0 is.3, groups_said (other ∷ groups) more.1 rest.1 more.4)

-- the decision variables of a statement have names
abbrev DecidesNames : StatementTree → Type 0
DecidesNames (decided p groups) = HaveNames groups
DecidesNames _ = Unit {0}

statement_said : (s : StatementTree) (tokens : List Lexeme) → AreSaid tokens → SpellsStatement s tokens → DecidesNames s
unfolding SpellsStatement
statement_said (decided p groups) tokens said is =
    let parts = is.1 in groups_said groups parts.1 (said_parts parts.0 parts.1 (subst AreSaid parts.2 said)).1 parts.4
statement_said _ tokens said is = tt

statements_said : (statements : TextTree) (tokens : List Lexeme) → AreSaid tokens → SpellsStatements statements tokens → AllByRecursion DecidesNames statements
unfolding SpellsStatements
statements_said [] tokens said is = tt
statements_said (s ∷ statements) tokens said is =
    let parts = said_parts is.0 is.1 (subst AreSaid is.2 said) in
    (statement_said s is.0 parts.0 is.3, statements_said statements is.1 parts.1 is.4)

model_said : (model : TextTree) → IsSpellable model → AllByRecursion DecidesNames model
unfolding SpellsModel
model_said model spellable =
    let spells = spellable.1 in
    let said = tokens_said spellable.0 spells.tokens spells.found in
    let is = spells.spelled.1 in
    statements_said model is.1 (said_parts is.0 is.1 (subst AreSaid is.2 said)).1 is.4

-- ---- names of decision variables

group_named : (shape : Shape) (values : List ℤ) (names : List (Name × Place)) → AreNames names → AllByRecursion HasName (group_finds shape values names)
unfolding group_finds
group_named shape values [] are = tt
group_named shape values (name ∷ names) are = (record { name = are.0.1; no_word = are.0.0 }, group_named shape values names are.1)

joined_named : (one other : List Find) → AllByRecursion HasName one → AllByRecursion HasName other → AllByRecursion HasName (one ++ other)
joined_named [] other h k = k
joined_named (f ∷ one) other h k = (h.0, joined_named one other h.1 k)

finds_named : (mode : Mode) (env : Env) (groups : List Group) (fs : List Find) → HaveNames groups → bound_finds mode env groups ≡ Some fs → AllByRecursion HasName fs
unfolding bound_finds
finds_named mode env [] fs have e = subst (AllByRecursion HasName) (some_is e) tt
finds_named mode env (g ∷ groups) fs have e =
    let shape : _ = then_is (λ shape. on_both shape.values (bound_finds mode env groups) (λ values rest. Some (group_finds shape values g.names ++ rest))) (shape_of mode env g.domain) fs e in
    let q : _ = both_is shape.0.values (bound_finds mode env groups) (λ values rest. Some (group_finds shape.0 values g.names ++ rest)) fs shape.2 in
    subst (AllByRecursion HasName) (some_is q.4)
    (joined_named (group_finds shape.0 q.0 g.names) q.1 (group_named shape.0 q.0 g.names have.0) (finds_named mode env groups q.1 have.1 q.3))

-- the decision variables so far have names
abbrev AreNamedSoFar : Progress → Type 0
AreNamedSoFar at = AllByRecursion HasName at.instance.finds

statement_named : (mode : Mode) (params : Env) (at next : Progress) (s : StatementTree) → DecidesNames s → AreNamedSoFar at → bind_statement mode params at s ≡ Ok next → AreNamedSoFar next
unfolding bind_statement now_with in_env with_finds with_clauses with_goal
statement_named mode params at next (given p groups) has named h =
    let env : _ = next_is (bind_givens mode p params groups at.instance.env) _ next h in subst AreNamedSoFar (ok_is env.2) named
statement_named mode params at next (decided p groups) has named h =
    let passed = unless_is (limits_met mode (met_groups mode at.instance.env groups)) _ next h in
    let fs : _ = next_is (or_refuse (undefined_at model_text p) (bound_finds mode at.instance.env groups)) _ next passed.1 in
    let more = finds_named mode at.instance.env groups fs.0 has (refuse_is (undefined_at model_text p) (bound_finds mode at.instance.env groups) fs.0 fs.1) in
    subst AreNamedSoFar (ok_is fs.2) (joined_named at.instance.finds fs.0 named more)
statement_named mode params at next (letting p name q d e) has named h =
    let env : _ = next_is (bind_letting mode model_text at.instance.env (letting p name q d e)) _ next h in subst AreNamedSoFar (ok_is env.2) named
statement_named mode params at next (domain_letting p name q d) has named h =
    let env : _ = next_is (bind_letting mode model_text at.instance.env (domain_letting p name q d)) _ next h in subst AreNamedSoFar (ok_is env.2) named
statement_named mode params at next (requirements p es) has named h =
    let passed = unless_is (limits_met mode (met_in mode at.instance.env es)) _ next h in
    let hold = unless_is (first_false mode at.instance.env at.next_where es) _ next passed.1 in
    subst AreNamedSoFar (ok_is hold.1) named
statement_named mode params at next (constraints p es) has named h = subst AreNamedSoFar (ok_is h) named
statement_named mode params at next (objective p sense e) has named h = subst AreNamedSoFar (ok_is h) named
statement_named mode params at next (branching p names) has named h = subst AreNamedSoFar (ok_is h) named
statement_named mode params at next (heuristic p name) has named h = subst AreNamedSoFar (ok_is h) named

statements_named : (mode : Mode) (params : Env) (at next : Progress) (statements : TextTree) → AllByRecursion DecidesNames statements → AreNamedSoFar at → bind_statements mode params at statements ≡ Ok next → AreNamedSoFar next
unfolding bind_statements
statements_named mode params at next [] have named h = subst AreNamedSoFar (ok_is h) named
statements_named mode params at next (s ∷ statements) have named h =
    let one : _ = next_is (bind_statement mode params at s) _ next h in
    statements_named mode params one.0 next statements have.1 (statement_named mode params at one.0 s have.0 named one.1) one.2

pub bound_named : (mode : Mode) (model params : TextTree) (i : Instance) → IsSpellable model → bind mode model params ≡ Ok i → All HasName i.finds
unfolding bind
bound_named mode model params i spellable h =
    let known : _ = next_is (bind_params mode parameter_text nothing_known (lettings_of params)) _ i h in
    let at : _ = next_is (bind_statements mode known.0 nothing_bound model) _ i known.2 in
    let named = statements_named mode known.0 nothing_bound at.0 model (model_said model spellable) tt at.1 in
    All-from_recursion HasName i.finds (subst (λ (j : Instance). AllByRecursion HasName j.finds) (ok_is at.2) named)
