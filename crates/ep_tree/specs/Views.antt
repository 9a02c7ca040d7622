-- The code's trees, read as plain ones.
use Rattle.std.specs.Prelude.{Bool, List, [], ◌∷◌, map, Option, Some, None, option_map}
use Rattle.ep_base.specs.declared.places.Place.{Place}
use Rattle.ep_tree.specs.declared.syntax.Expr.{Expr}
use Rattle.ep_tree.specs.declared.syntax.Domain.{Domain}
use Rattle.ep_tree.specs.declared.syntax.Generator.{Generator}
use Rattle.ep_tree.specs.declared.syntax.Kind.{Kind, Number, Truth, Named as NamedExpr, Group' as GroupExpr', Not', Neg', Abs', ToInt', Factorial', Flatten', Add', Binary', Compare', Lex', InDomain', InSet', And', Or', Quant', Literal', Comprehension', Read', Fold', AllDiff', Gcc', AtLeast', AtMost', Table', Row_of-Kind-Add-0-2, end_of-Kind-Add-0-2, more_of-Kind-Add-0-2, Row_of-Expr, end_of-Expr, more_of-Expr, Held-Kind-Literal-1, Kind-Literal-1-None', Kind-Literal-1-Some', Row_of-Generator, end_of-Generator, more_of-Generator, Row_of-Kind-Read-1-1, end_of-Kind-Read-1-1, more_of-Kind-Read-1-1, Held-Kind-Read-1-1, Kind-Read-1-1-None', Kind-Read-1-1-Some'}
use Rattle.ep_tree.specs.declared.syntax.DomainKind.{DomainKind, Bool as BoolDomain, Int as IntDomain, Ranges', Named as NamedDomain, Group' as GroupDomain', Set', Matrix', Row_of-Range, end_of-Range, more_of-Range, Row_of-Domain, end_of-Domain, more_of-Domain}
use Rattle.ep_tree.specs.declared.syntax.Range.{Range, One', Span'}
use Rattle.ep_tree.specs.declared.values.Value.{Value, Number as NumberValue, Matrix' as ValueMatrix', Row_of-Value, end_of-Value, more_of-Value}
use Rattle.ep_tree.specs.declared.statements.Declared.{Declared}
use Rattle.ep_tree.specs.declared.statements.Statement.{Statement}
use Rattle.ep_tree.specs.declared.statements.StatementKind.{StatementKind}
use Rattle.ep_tree.specs.declared.statements.StatementKind.TheVariants.{Given as GivenStatement, Find as FindStatement, Letting, LettingDomain, Where, SuchThat, Objective as ObjectiveStatement, Branching, Heuristic}
use Rattle.ep_tree.specs.declared.statements.Model.{Model}
use Rattle.ep_tree.specs.declared.statements.Params.{Params}
use Rattle.ep_tree.specs.declared.values.Entry.{Entry}
use Rattle.ep_tree.specs.declared.values.Assignment.{Assignment}
use Rattle.ep_tree.specs.Trees.{ExprTree, number, truth, named, group, negation, minus, absolute, to_int, factorial, flatten, chain, binary, compare, lex, in_domain, in_set, all_of, any_of, quantified, literal, comprehension, read, folded, all_different, gcc, at_least, at_most, table, DomainTree, bool, int, ranges, named_domain, group_domain, set_domain, matrix_domain, ExprTrees, no_trees, tree_and, Terms, no_terms, term_and, Indices, no_indices, every_and, index_and, Ranges, no_ranges, one_and, span_and, End, no_end, end_at, Domains, no_domains, domain_and, Generators, no_generators, generator_and, IndexDomain, unstated, over}
use Rattle.ep_tree.specs.Statements.{Group, StatementTree, given, decided, letting, domain_letting, requirements, constraints, objective, branching, heuristic, TextTree}
use Rattle.ep_tree.specs.Values.{ValueTree, single, matrix, ValueTrees, no_values, value_and}
use Rattle.ep_tree.specs.Solutions.{NamedValue, Assigned}

unfoldable mutual
  -- an expression of this kind at a place
  pub kind_tree : Place → Kind → ExprTree
  kind_tree p (Number n) = number p n
  kind_tree p (Truth b) = truth p b
  kind_tree p (NamedExpr name) = named p name
  kind_tree p (GroupExpr' _ q e) = group p (kind_tree q e)
  kind_tree p (Not' _ q e) = negation p (kind_tree q e)
  kind_tree p (Neg' _ q e) = minus p (kind_tree q e)
  kind_tree p (Abs' _ q e) = absolute p (kind_tree q e)
  kind_tree p (ToInt' _ q e) = to_int p (kind_tree q e)
  kind_tree p (Factorial' _ q e) = factorial p (kind_tree q e)
  kind_tree p (Flatten' _ q m) = flatten p (kind_tree q m)
  kind_tree p (Add' _ parts) = chain p (row_terms parts)
  kind_tree p (Binary' op _ q a _ r b) = binary p op (kind_tree q a) (kind_tree r b)
  kind_tree p (Compare' op _ q a _ r b) = compare p op (kind_tree q a) (kind_tree r b)
  kind_tree p (Lex' op _ q a _ r b) = lex p op (kind_tree q a) (kind_tree r b)
  kind_tree p (InDomain' _ q e _ r d) = in_domain p (kind_tree q e) (domain_kind_tree r d)
  kind_tree p (InSet' _ q e _ r m) = in_set p (kind_tree q e) (kind_tree r m)
  kind_tree p (And' _ parts) = all_of p (row_trees parts)
  kind_tree p (Or' _ parts) = any_of p (row_trees parts)
  kind_tree p (Quant' op names _ q d _ r e) = quantified p op names.items (domain_kind_tree q d) (kind_tree r e)
  kind_tree p (Literal' _ parts d) = literal p (row_trees parts) (held_index d)
  kind_tree p (Comprehension' _ q e _ gens _ conditions d) =
      comprehension p (kind_tree q e) (row_generators gens) (row_trees conditions) (held_index d)
  kind_tree p (Read' _ q m _ indices) = read p (kind_tree q m) (row_indices indices)
  kind_tree p (Fold' op _ q m) = folded p op (kind_tree q m)
  kind_tree p (AllDiff' _ q m) = all_different p (kind_tree q m)
  kind_tree p (Gcc' _ q m _ r values _ s counts) = gcc p (kind_tree q m) (kind_tree r values) (kind_tree s counts)
  kind_tree p (AtLeast' _ q m _ r counts _ s values) = at_least p (kind_tree q m) (kind_tree r counts) (kind_tree s values)
  kind_tree p (AtMost' _ q m _ r counts _ s values) = at_most p (kind_tree q m) (kind_tree r counts) (kind_tree s values)
  kind_tree p (Table' _ q row _ r rows) = table p (kind_tree q row) (kind_tree r rows)

  -- a domain of this kind at a place
  pub domain_kind_tree : Place → DomainKind → DomainTree
  domain_kind_tree p BoolDomain = bool p
  domain_kind_tree p IntDomain = int p
  domain_kind_tree p (Ranges' _ rs) = ranges p (row_ranges rs)
  domain_kind_tree p (NamedDomain name) = named_domain p name
  domain_kind_tree p (GroupDomain' _ q d) = group_domain p (domain_kind_tree q d)
  domain_kind_tree p (Set' op _ q c _ r d) = set_domain p op (domain_kind_tree q c) (domain_kind_tree r d)
  domain_kind_tree p (Matrix' _ ds _ q d) = matrix_domain p (row_domains ds) (domain_kind_tree q d)

  -- a row of expressions
  pub row_trees : {m : _} → Row_of-Expr m → ExprTrees
  row_trees end_of-Expr = no_trees
  row_trees (more_of-Expr q e rest) = tree_and (kind_tree q e) (row_trees rest)

  -- a row of terms
  pub row_terms : {m : _} → Row_of-Kind-Add-0-2 m → Terms
  row_terms end_of-Kind-Add-0-2 = no_terms
  row_terms (more_of-Kind-Add-0-2 plus q e rest) = term_and plus (kind_tree q e) (row_terms rest)

  -- a row of indices
  pub row_indices : {m : _} → Row_of-Kind-Read-1-1 m → Indices
  row_indices end_of-Kind-Read-1-1 = no_indices
  row_indices (more_of-Kind-Read-1-1 index rest) = with_index index (row_indices rest)

  -- an index, or `..` where there is none, before other indices
  pub with_index : Held-Kind-Read-1-1 → Indices → Indices
  with_index Kind-Read-1-1-None' indices = every_and indices
  with_index (Kind-Read-1-1-Some' q e) indices = index_and (kind_tree q e) indices

  -- a row of generators
  pub row_generators : {m : _} → Row_of-Generator m → Generators
  row_generators end_of-Generator = no_generators
  row_generators (more_of-Generator names q d rest) = generator_and names.items (domain_kind_tree q d) (row_generators rest)

  -- the domain of a list's indices, if there is one
  pub held_index : Held-Kind-Literal-1 → IndexDomain
  held_index Kind-Literal-1-None' = unstated
  held_index (Kind-Literal-1-Some' _ q d) = over (domain_kind_tree q d)

  -- a row of ranges
  pub row_ranges : {m : _} → Row_of-Range m → Ranges
  row_ranges end_of-Range = no_ranges
  row_ranges (more_of-Range r rest) = with_range r (row_ranges rest)

  -- a range before other ranges
  pub with_range : Range → Ranges → Ranges
  with_range (One' q e) rs = one_and (kind_tree q e) rs
  with_range (Span' a b) rs = span_and (held_end a) (held_end b) rs

  -- an end of a range, if there is one
  pub held_end : Held-Kind-Read-1-1 → End
  held_end Kind-Read-1-1-None' = no_end
  held_end (Kind-Read-1-1-Some' q e) = end_at (kind_tree q e)

  -- a row of domains
  pub row_domains : {m : _} → Row_of-Domain m → Domains
  row_domains end_of-Domain = no_domains
  row_domains (more_of-Domain q d rest) = domain_and (domain_kind_tree q d) (row_domains rest)

-- an expression
abbrev pub expr_tree : Expr → ExprTree
expr_tree e = kind_tree e.place e.kind

-- a domain
abbrev pub domain_tree : Domain → DomainTree
domain_tree d = domain_kind_tree d.place d.kind

-- a list of expressions, as a loop over a vector sees it
unfoldable pub expr_trees : List Expr → ExprTrees
expr_trees [] = no_trees
expr_trees (e ∷ es) = tree_and (expr_tree e) (expr_trees es)

-- a list of terms
unfoldable pub terms_of : List (Bool × Expr) → Terms
terms_of [] = no_terms
terms_of (term ∷ terms) = term_and term.0 (expr_tree term.1) (terms_of terms)

-- a list of indices
unfoldable pub indices_of : List (Option Expr) → Indices
indices_of [] = no_indices
indices_of (None ∷ indices) = every_and (indices_of indices)
indices_of (Some e ∷ indices) = index_and (expr_tree e) (indices_of indices)

-- a list of generators
unfoldable pub generators_of : List Generator → Generators
generators_of [] = no_generators
generators_of (g ∷ gens) = generator_and g.names.items (domain_tree g.domain) (generators_of gens)

-- a list of domains
unfoldable pub domains_of : List Domain → Domains
domains_of [] = no_domains
domains_of (d ∷ ds) = domain_and (domain_tree d) (domains_of ds)

-- an end of a range
unfoldable pub end_of : Option Expr → End
end_of None = no_end
end_of (Some e) = end_at (expr_tree e)

-- a list of ranges
unfoldable pub ranges_of : List Range → Ranges
ranges_of [] = no_ranges
ranges_of (r ∷ rs) = with_range r (ranges_of rs)

-- names that are declared together
unfoldable pub group_of : Declared → Group
group_of d = record { names = d.names.items; domain = domain_tree d.domain }

-- a statement of this kind at a place
unfoldable pub statement_kind_tree : Place → StatementKind → StatementTree
statement_kind_tree p (GivenStatement groups) = given p (map group_of groups.items)
statement_kind_tree p (FindStatement groups) = decided p (map group_of groups.items)
statement_kind_tree p (Letting name at d e) = letting p name at (option_map domain_tree d) (expr_tree e)
statement_kind_tree p (LettingDomain name at d) = domain_letting p name at (domain_tree d)
statement_kind_tree p (Where es) = requirements p (map expr_tree es.items)
statement_kind_tree p (SuchThat es) = constraints p (map expr_tree es.items)
statement_kind_tree p (ObjectiveStatement sense e) = objective p sense (expr_tree e)
statement_kind_tree p (Branching names) = branching p names.items
statement_kind_tree p (Heuristic name) = heuristic p name

-- a statement
abbrev pub statement_tree : Statement → StatementTree
statement_tree s = statement_kind_tree s.place s.kind

-- the statements of a model
unfoldable pub model_tree : Model → TextTree
model_tree m = map statement_tree m.statements.items

-- the statements of a parameter text
unfoldable pub params_tree : Params → TextTree
params_tree p = map statement_tree p.statements.items

-- a value, and the values of an assignment
unfoldable mutual
  -- a value
  pub value_tree : Value → ValueTree
  value_tree (NumberValue n) = single n
  value_tree (ValueMatrix' indices _ parts) = matrix indices.items (row_values parts)

  -- a row of values
  pub row_values : {m : _} → Row_of-Value m → ValueTrees
  row_values end_of-Value = no_values
  row_values (more_of-Value v rest) = value_and (value_tree v) (row_values rest)

-- a list of values
unfoldable pub values_from : List Value → ValueTrees
values_from [] = no_values
values_from (v ∷ vs) = value_and (value_tree v) (values_from vs)

-- a value with its name and type
abbrev pub named_value : Entry → NamedValue
named_value e = record { name = e.name; ty = e.ty; value = value_tree e.value }

-- the values of an assignment
abbrev pub assigned : Assignment → Assigned
assigned a = map named_value a.entries.items
