-- What is known of the trees that were read: what decides what may follow them.
use Rattle.std.specs.Prelude.{◌≡◌, ℕ, Bool, List, map, Result, Ok, Err, min, ◌^◌, ◌-◌}
use Rattle.ep_parse_parts.specs.Cursors.{StopsReading}
use Rattle.ep_parse_parts.specs.OperandReaders.{Lower}
use Rattle.ep_parse_parts.specs.OperatorReaders.{takes_group}
use Rattle.ep_parse_parts.specs.Readers.{Read, took}
use Rattle.ep_parse_parts.specs.TreeReaders.{expr_from, some_domain_from}
use Rattle.ep_parse_parts.specs.declared.cursor.Stop.{Stop}
use Rattle.ep_parse_parts.specs.declared.cursor.Stop.TheVariants.{Memory}
use Rattle.ep_parse_parts.specs.declared.found.Found.{Found}
use Rattle.ep_parse_parts.specs.declared.found.FoundDomain.{FoundDomain}
use Rattle.ep_tree.specs.Heights.{domain_height, height}
use Rattle.ep_tree.specs.Phrases.{Lexeme}
use Rattle.ep_tree.specs.Spelling.{ends_open}
use Rattle.ep_tree.specs.Trees.{DomainTree, ExprTree}
use Rattle.ep_tree.specs.Views.{domain_tree, expr_tree}

-- a height as it is counted: none is counted above the greatest number
unfoldable pub told : ℕ → ℕ
told h = min h (2 ^ 64 - 1)

-- What was read is this tree.
pub record Shows (found : Found) (tree : ExprTree) : Type 0 where
  pub is : expr_tree found.expr ≡ tree
  pub height : found.height ≡ told (height tree)
  pub ends : found.ends_open ≡ ends_open tree
  pub group : found.takes_group ≡ takes_group tree

-- What decides what may follow an expression is as its tree says.
abbrev pub Measured : Found → Type 0
Measured found = Shows found (expr_tree found.expr)

-- the same of a domain
pub record ShowsDomain (found : FoundDomain) (tree : DomainTree) : Type 0 where
  pub is : domain_tree found.domain ≡ tree
  pub height : found.height ≡ told (domain_height tree)

abbrev pub MeasuredDomain : FoundDomain → Type 0
MeasuredDomain found = ShowsDomain found (domain_tree found.domain)

-- This tree was made, if memory was there.
abbrev pub Makes : Result Found Stop → ExprTree → Type 0
Makes (Ok found) tree = Shows found tree
Makes (Err e) tree = e ≡ Memory

abbrev pub MakesDomain : Result FoundDomain Stop → DomainTree → Type 0
MakesDomain (Ok found) tree = ShowsDomain found tree
MakesDomain (Err e) tree = e ≡ Memory

-- What a function returned is what a reader gives, and the tokens that are left are those that the reader leaves or names.
abbrev pub Finds : Result Found Stop → List Lexeme → Read ExprTree → Type 0
Finds (Ok found) left read = (read ≡ took (expr_tree found.expr) left) × Measured found
Finds (Err e) left read = StopsReading e left read

abbrev pub FindsDomain : Result FoundDomain Stop → List Lexeme → Read DomainTree → Type 0
FindsDomain (Ok found) left read = (read ≡ took (domain_tree found.domain) left) × MeasuredDomain found
FindsDomain (Err e) left read = StopsReading e left read

-- the readers of what is lower by one than so much
unfoldable pub lower : ℕ → Lower
lower most = record { expr = expr_from (most - 1); domain = some_domain_from (most - 1) }
