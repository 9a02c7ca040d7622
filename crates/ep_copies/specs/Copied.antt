-- Parts of trees as their copies are compared.
use Rattle.std.specs.Prelude.{Bool, List, Option, option_map}
use Rattle.ep_base.specs.declared.names.Name.{Name}
use Rattle.ep_tree.specs.declared.syntax.Expr.{Expr}
use Rattle.ep_tree.specs.declared.syntax.Generator.{Generator}
use Rattle.ep_tree.specs.Trees.{DomainTree, ExprTree}
use Rattle.ep_tree.specs.Views.{domain_tree, expr_tree}

-- a term of a chain: whether it is added, and its expression
abbrev pub term_view : Bool × Expr → Bool × ExprTree
term_view term = (term.0, expr_tree term.1)

-- an index of a read
abbrev pub index_view : Option Expr → Option ExprTree
index_view index = option_map expr_tree index

-- a generator: its names and its domain
abbrev pub generator_view : Generator → List Name × DomainTree
generator_view g = (g.names.items, domain_tree g.domain)
