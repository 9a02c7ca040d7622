-- Statements, models and parameter texts as plain trees.
use Rattle.std.specs.Prelude.{ℕ, max, List, [], ◌∷◌, Some, None, Option}
use Rattle.ep_base.specs.declared.names.Name.{Name}
use Rattle.ep_base.specs.declared.operators.Sense.{Sense}
use Rattle.ep_base.specs.declared.places.Place.{Place}
use Rattle.ep_tree.specs.Heights.{domain_height, height}
use Rattle.ep_tree.specs.Trees.{DomainTree, ExprTree}

-- names that are declared together, each with its place, and their domain
pub record Group : Type 0 where
  pub names : List (Name × Place)
  pub domain : DomainTree

-- a statement, with the place of its first token
pub data StatementTree : Type 0 where
  given : Place → List Group → StatementTree
  decided : Place → List Group → StatementTree
  letting : Place → Name → Place → Option DomainTree → ExprTree → StatementTree
  domain_letting : Place → Name → Place → DomainTree → StatementTree
  requirements : Place → List ExprTree → StatementTree
  constraints : Place → List ExprTree → StatementTree
  objective : Place → Sense → ExprTree → StatementTree
  branching : Place → List (Name × Place) → StatementTree
  heuristic : Place → Name → StatementTree

-- a model, a parameter text or a solution text: its statements in the order of the text
abbrev pub TextTree : Type 0
TextTree = List StatementTree

-- the height of the highest of some expressions, and 0 for none
unfoldable pub highest_of : List ExprTree → ℕ
highest_of [] = 0
highest_of (e ∷ es) = max (height e) (highest_of es)

-- the height of the highest of the domains of some groups, and 0 for none
unfoldable pub highest_group : List Group → ℕ
highest_group [] = 0
highest_group (g ∷ groups) = max (domain_height g.domain) (highest_group groups)

-- the height of a domain, and 0 where it is left out
unfoldable pub stated_height : Option DomainTree → ℕ
stated_height None = 0
stated_height (Some d) = domain_height d

-- the height of the highest tree in a statement, and 0 where it has none
unfoldable pub statement_height : StatementTree → ℕ
statement_height (given _ groups) = highest_group groups
statement_height (decided _ groups) = highest_group groups
statement_height (letting _ _ _ d e) = max (stated_height d) (height e)
statement_height (domain_letting _ _ _ d) = domain_height d
statement_height (requirements _ es) = highest_of es
statement_height (constraints _ es) = highest_of es
statement_height (objective _ _ e) = height e
statement_height (branching _ _) = 0
statement_height (heuristic _ _) = 0

-- the height of the highest tree in a text
unfoldable pub text_height : TextTree → ℕ
text_height [] = 0
text_height (s ∷ statements) = max (statement_height s) (text_height statements)
