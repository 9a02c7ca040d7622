-- Reach, width and spread: which numbers an expression may take, told from its text and the domains alone.
--
-- The reach of an expression is an interval that holds each of its defined values. All of these measures are this
-- project's own.
use Rattle.std.specs.Prelude.{ℕ, Bool, true, false, not, ◌&&◌, ◌||◌, List, [], ◌∷◌, ◌++◌, map, length, ℤ, pos, if◌then◌else◌, ◌==◌, Some, None, bytes_eq, flat_map, Option, unwrap_or, option_map, option_and_then, option_to_list}
use Rattle.std.specs.List.{list_any}
use Rattle.ep_base.specs.Intervals.{Interval, absolute_interval, greatest_interval, hull, least_interval, negated, only, power_interval, product_interval, products_interval, quotient_interval, remainder_interval, spanned, sum_interval, truth_interval, width}
use Rattle.ep_base.specs.Numbers.{of_bool}
use Rattle.ep_base.specs.Runs.{counting}
use Rattle.ep_base.specs.declared.names.Name.{Name}
use Rattle.ep_tree.specs.Environments.{Bound, Env, has_cells}
use Rattle.ep_tree.specs.Evaluation.{chosen, evaluate, index_values, number_in, numbered, over_names, type_in}
use Rattle.ep_tree.specs.Trees.{DomainTree, ExprTree, ExprTrees, Generators, Indices, Terms, absolute, all_different, all_of, any_of, at_least, at_most, binary, chain, compare, comprehension, every_and, factorial, flatten, folded, gcc, generator_and, group, in_domain, in_set, index_and, lex, literal, minus, named, negation, no_generators, no_indices, no_terms, no_trees, number, quantified, read, table, term_and, to_int, tree_and, truth}
use Rattle.ep_tree.specs.Types.{is_integer}
use Rattle.ep_tree.specs.Values.{Grid, Grids, Index, ValueTree, all_defined, any_index, as_parts, at_index, filled, list_value, listed_values, map_grid, matrix, no_values, part_at, read_value, scalars_of, single}
use Rattle.ep_tree.specs.declared.syntax.BinaryOp.{BinaryOp}
use Rattle.ep_tree.specs.declared.syntax.FoldOp.{FoldOp}
use Rattle.ep_tree.specs.declared.syntax.QuantOp.{QuantOp}
use Rattle.ep_tree.specs.declared.values.Mode.{Mode}
use Rattle.ep_tree.specs.declared.values.Scalar.{Scalar}
use Rattle.ep_tree.specs.declared.values.ValueType.{ValueType}

-- what is known of a number: its reach, its spread, and whether a decision variable stands in it
pub record Span : Type 0 where
  pub reach : Interval
  pub spread : ℕ
  pub decided : Bool

-- what is known of an expression's value: of a number, or of each scalar of a matrix
abbrev pub Extent : Type 0
Extent = Grid Span

-- the reaches of some parts
abbrev pub reaches : List Span → List Interval
reaches spans = map (λ s. s.reach) spans

-- a number without a decision variable: its value alone, or 0 where it has none
unfoldable pub fixed_span : Option ℤ → Span
fixed_span n = record { reach = only (unwrap_or n (pos 0)); spread = 1; decided = false }

-- a Boolean with a decision variable
abbrev pub truth_span : Span
truth_span = record { reach = truth_interval; spread = 2; decided = true }

-- a number with a decision variable whose spread is its width
unfoldable pub wide_span : Interval → Span
wide_span i = record { reach = i; spread = width i; decided = true }

-- the reach of a cell: 0 and 1 for a Boolean, else from its least value to its greatest
unfoldable pub cell_reach : Scalar → List ℤ → Interval
cell_reach Scalar.Bool values = truth_interval
cell_reach Scalar.Int values = spanned values

-- a cell: its spread is the number of its values
unfoldable pub cell_span : Scalar → List ℤ → Span
cell_span s values = record { reach = cell_reach s values; spread = length values; decided = true }

-- a part with the reach of another and this spread
unfoldable pub with_spread : ℕ → Span → Span
with_spread n s = record s { spread = n }

-- what is known of a number; of a matrix, that of an empty sum
unfoldable pub span_of : Extent → Span
span_of (single s) = s
span_of (matrix indices parts) = fixed_span None

-- a matrix without parts
abbrev pub no_extent : Extent
no_extent = matrix [] no_values

-- An expression without a decision variable: its value alone. Without a value a number has the reach of 0, and a
-- matrix has no part.
unfoldable pub fixed_extent : ValueType → Option ValueTree → Extent
fixed_extent t (Some v) = map_grid (λ n. fixed_span (Some n)) v
fixed_extent t None = if is_integer t then single (fixed_span None) else no_extent

-- a sum
unfoldable pub sum_span : List Span → Span
sum_span spans = wide_span (sum_interval (reaches spans))

-- `-x`: the spread of x
unfoldable pub negated_span : Span → Span
negated_span s = record s { reach = negated s.reach }

-- x * y: the spread of a product with one factor free of decision variables is that of the other factor
unfoldable pub product_span : Span → Span → Span
product_span s t =
    let whole : Span = wide_span (product_interval s.reach t.reach) in
    if s.decided then (if t.decided then whole else with_spread s.spread whole) else with_spread t.spread whole

-- a matrix folded into a number
unfoldable pub folded_span : FoldOp → List Span → Span
folded_span FoldOp.Sum spans = sum_span spans
folded_span FoldOp.Product spans = wide_span (products_interval (reaches spans))
folded_span FoldOp.And spans = truth_span
folded_span FoldOp.Or spans = truth_span
folded_span FoldOp.Min spans = wide_span (least_interval (reaches spans))
folded_span FoldOp.Max spans = wide_span (greatest_interval (reaches spans))

-- two parts with an operator between them, and the number of the second one, for an exponent
unfoldable pub binary_span : BinaryOp → Span → Span → Option ℤ → Span
binary_span BinaryOp.Mul s t n = product_span s t
binary_span BinaryOp.Div s t n = wide_span (quotient_interval s.reach)
binary_span BinaryOp.Mod s t n = wide_span (remainder_interval t.reach)
binary_span BinaryOp.Pow s t n = wide_span (power_interval s.reach n)
binary_span BinaryOp.Min s t n = wide_span (least_interval (s.reach ∷ t.reach ∷ []))
binary_span BinaryOp.Max s t n = wide_span (greatest_interval (s.reach ∷ t.reach ∷ []))
binary_span BinaryOp.Implies s t n = truth_span
binary_span BinaryOp.Iff s t n = truth_span

-- an index of a read as it is measured: one without a decision variable, `..`, or one with a decision variable
pub data MeasuredIndex : Type 0 where
  fixed_index : Option ℤ → MeasuredIndex
  whole_index : MeasuredIndex
  decided_index : Span → MeasuredIndex

-- whether an index has a decision variable
unfoldable pub is_decided_index : MeasuredIndex → Bool
is_decided_index (decided_index s) = true
is_decided_index _ = false

-- the parts of a dimension that an index leaves: one or none where it has no decision variable, else all
unfoldable pub left_by : {A : Type 0} → MeasuredIndex → List ℤ → Grids A → List (Grid A)
left_by (fixed_index i) indices parts = option_to_list (option_and_then (part_at indices parts) i)
left_by whole_index indices parts = listed_values parts
left_by (decided_index s) indices parts = listed_values parts

-- the parts of a matrix that the indices without a decision variable leave
unfoldable pub parts_left : {A : Type 0} → List MeasuredIndex → Grid A → List (Grid A)
parts_left [] x = x ∷ []
parts_left (i ∷ is) (single s) = []
parts_left (i ∷ is) (matrix indices parts) = flat_map (parts_left is) (left_by i indices parts)

-- an index without a decision variable, where it has a value
unfoldable pub plain_index : MeasuredIndex → Option Index
plain_index (fixed_index i) = option_map at_index i
plain_index whole_index = Some any_index
plain_index (decided_index s) = None

-- the matrix that a read leaves; where the read has no value, it has no part
unfoldable pub slice_extent : List MeasuredIndex → Extent → Extent
slice_extent is x = unwrap_or (option_and_then (λ js. read_value js x) (all_defined (map plain_index is))) no_extent

-- A read that gives a scalar, by the scalars that are left. Where it reads a cell, and it is told which one, that is
-- all; else the reach is from the least lower end to the greatest upper end.
unfoldable pub read_span : Bool → Scalar → List Span → Span
read_span true s (cell ∷ []) = cell
read_span _ Scalar.Bool spans = truth_span
read_span _ Scalar.Int spans = wide_span (hull (reaches spans))

-- the test of names without some names
unfoldable pub hiding : List Name → (Name → Bool) → Name → Bool
hiding names decided name = not (list_any (bytes_eq name) names) && decided name

-- whether what a name stands for is a decision variable
unfoldable pub is_decision : Option Bound → Bool
is_decision (Some (has_cells _ _ _)) = true
is_decision _ = false

-- the names that stand for decision variables
abbrev pub decisions_in : Env → Name → Bool
decisions_in env name = is_decision (env name)

-- whether an expression is the name of a decision variable
unfoldable pub is_decision_name : Env → ExprTree → Bool
is_decision_name env (named _ name) = decisions_in env name
is_decision_name env _ = false

-- whether a read gives a cell: it is directly of a decision variable, and no index has one
unfoldable pub reads_cell : Env → ExprTree → List MeasuredIndex → Bool
reads_cell env m is = is_decision_name env m && not (list_any is_decided_index is)

-- the names of generators
unfoldable pub generator_names : Generators → List Name
generator_names no_generators = []
generator_names (generator_and names d gens) = names ++ generator_names gens

-- Whether a decision variable stands in an expression, by its text and a test of names. None stands in a domain or in a
-- condition.
unfoldable mutual
  pub holds_decision : (Name → Bool) → ExprTree → Bool
  holds_decision decided (number _ _) = false
  holds_decision decided (truth _ _) = false
  holds_decision decided (named _ name) = decided name
  holds_decision decided (group _ e) = holds_decision decided e
  holds_decision decided (negation _ e) = holds_decision decided e
  holds_decision decided (minus _ e) = holds_decision decided e
  holds_decision decided (absolute _ e) = holds_decision decided e
  holds_decision decided (to_int _ e) = holds_decision decided e
  holds_decision decided (factorial _ e) = holds_decision decided e
  holds_decision decided (flatten _ m) = holds_decision decided m
  holds_decision decided (chain _ terms) = term_holds_decision decided terms
  holds_decision decided (binary _ _ a b) = holds_decision decided a || holds_decision decided b
  holds_decision decided (compare _ _ a b) = holds_decision decided a || holds_decision decided b
  holds_decision decided (lex _ _ a b) = holds_decision decided a || holds_decision decided b
  holds_decision decided (in_domain _ e d) = holds_decision decided e
  holds_decision decided (in_set _ e m) = holds_decision decided e || holds_decision decided m
  holds_decision decided (all_of _ parts) = one_holds_decision decided parts
  holds_decision decided (any_of _ parts) = one_holds_decision decided parts
  holds_decision decided (quantified _ _ names _ e) = holds_decision (hiding names decided) e
  holds_decision decided (literal _ parts _) = one_holds_decision decided parts
  holds_decision decided (comprehension _ e gens _ _) = holds_decision (hiding (generator_names gens) decided) e
  holds_decision decided (read _ m indices) = holds_decision decided m || index_holds_decision decided indices
  holds_decision decided (folded _ _ m) = holds_decision decided m
  holds_decision decided (all_different _ m) = holds_decision decided m
  holds_decision decided (gcc _ m values counts) =
      holds_decision decided m || holds_decision decided values || holds_decision decided counts
  holds_decision decided (at_least _ m counts values) =
      holds_decision decided m || holds_decision decided counts || holds_decision decided values
  holds_decision decided (at_most _ m counts values) =
      holds_decision decided m || holds_decision decided counts || holds_decision decided values
  holds_decision decided (table _ row rows) = holds_decision decided row || holds_decision decided rows

  -- whether one of some expressions holds a decision variable
  pub one_holds_decision : (Name → Bool) → ExprTrees → Bool
  one_holds_decision decided no_trees = false
  one_holds_decision decided (tree_and e es) = holds_decision decided e || one_holds_decision decided es

  -- whether a term of a chain holds one
  pub term_holds_decision : (Name → Bool) → Terms → Bool
  term_holds_decision decided no_terms = false
  term_holds_decision decided (term_and _ e terms) = holds_decision decided e || term_holds_decision decided terms

  -- whether an index of a read holds one
  pub index_holds_decision : (Name → Bool) → Indices → Bool
  index_holds_decision decided no_indices = false
  index_holds_decision decided (every_and indices) = index_holds_decision decided indices
  index_holds_decision decided (index_and e indices) = holds_decision decided e || index_holds_decision decided indices

-- what is known of an expression: its value alone where no decision variable stands in it
unfoldable pub measured : Mode → Env → ExprTree → Extent → Extent
measured mode env e decided =
    if holds_decision (decisions_in env) e then decided else fixed_extent (type_in env e) (evaluate mode env e)

-- The indices of a list's parts as they are measured: those of the index domain where it has a value for each part, and
-- else the numbers from 1 on.
unfoldable pub measured_indices : Option (List ℤ) → ℕ → List ℤ
measured_indices None count = counting (pos 1) count
measured_indices (Some indices) count = if length indices == count then indices else counting (pos 1) count

-- parts as a matrix
unfoldable pub matrix_extent : (ℕ → Option (List ℤ)) → List Extent → Extent
matrix_extent indices parts = matrix (measured_indices (indices (length parts)) (length parts)) (as_parts parts)

-- a name's extent
unfoldable pub named_extent : Option Bound → Extent
named_extent (Some (has_cells s indices values)) = filled (cell_span s values) indices
named_extent _ = single (fixed_span None)

-- the extent of brackets around an expression: 2 is the spread of a Boolean
unfoldable pub group_extent : ValueType → Extent → Extent
group_extent ValueType.Bool x = single truth_span
group_extent t x = x

-- the extent of a read with this type
unfoldable pub read_extent : ValueType → Bool → List MeasuredIndex → Extent → Extent
read_extent ValueType.Bool of_cell is x = single (read_span of_cell Scalar.Bool (flat_map scalars_of (parts_left is x)))
read_extent ValueType.Int of_cell is x = single (read_span of_cell Scalar.Int (flat_map scalars_of (parts_left is x)))
read_extent t of_cell is x = slice_extent is x

-- an index that is measured
unfoldable pub measured_index : Bool → Span → Option ℤ → MeasuredIndex
measured_index true s n = decided_index s
measured_index false s n = fixed_index n

-- a quantifier by its instances, of which an undefined domain has none
unfoldable pub quantified_span : QuantOp → Option (List Span) → Span
quantified_span QuantOp.ForAll instances = truth_span
quantified_span QuantOp.Exists instances = truth_span
quantified_span QuantOp.Sum instances = sum_span (unwrap_or instances [])

-- a part of a chain with its sign
unfoldable pub signed_span : Bool → Span → Span
signed_span true s = s
signed_span false s = negated_span s

unfoldable mutual
  -- what is known of an expression in an environment
  pub extent : Mode → Env → ExprTree → Extent
  extent mode env (number p n) = single (fixed_span (Some n))
  extent mode env (truth p b) = single (fixed_span (Some (of_bool b)))
  extent mode env (named p name) = measured mode env (named p name) (named_extent (env name))
  extent mode env (group p e) = measured mode env (group p e) (group_extent (type_in env e) (extent mode env e))
  extent mode env (negation p e) = measured mode env (negation p e) (single truth_span)
  extent mode env (minus p e) = measured mode env (minus p e) (single (negated_span (span_of (extent mode env e))))
  extent mode env (absolute p e) =
      measured mode env (absolute p e) (single (wide_span (absolute_interval (span_of (extent mode env e)).reach)))
  extent mode env (to_int p e) = measured mode env (to_int p e) (single truth_span)
  extent mode env (factorial p e) = measured mode env (factorial p e) (single (fixed_span None))
  extent mode env (flatten p m) = measured mode env (flatten p m) (list_value (scalars_of (extent mode env m)))
  extent mode env (chain p terms) = measured mode env (chain p terms) (single (sum_span (term_spans mode env terms)))
  extent mode env (binary p op a b) =
      measured mode env (binary p op a b)
      (single
      (binary_span op (span_of (extent mode env a)) (span_of (extent mode env b)) (number_in (evaluate mode env b))))
  extent mode env (compare p op a b) = measured mode env (compare p op a b) (single truth_span)
  extent mode env (lex p op a b) = measured mode env (lex p op a b) (single truth_span)
  extent mode env (in_domain p e d) = measured mode env (in_domain p e d) (single truth_span)
  extent mode env (in_set p e m) = measured mode env (in_set p e m) (single truth_span)
  extent mode env (all_of p parts) = measured mode env (all_of p parts) (single truth_span)
  extent mode env (any_of p parts) = measured mode env (any_of p parts) (single truth_span)
  extent mode env (quantified p op names d e) =
      measured mode env (quantified p op names d e)
      (single (over_names (numbered mode d) (quantified_span op) (λ inner. span_of (extent mode inner e)) names env))
  extent mode env (literal p parts d) =
      measured mode env (literal p parts d) (matrix_extent (index_values mode env d) (extents_of mode env parts))
  extent mode env (comprehension p e gens conditions d) =
      measured mode env (comprehension p e gens conditions d)
      (matrix_extent (index_values mode env d) (map (λ inner. extent mode inner e) (chosen mode env gens conditions)))
  extent mode env (read p m indices) =
      let is : List MeasuredIndex = measured_list mode env indices in
      measured mode env (read p m indices)
      (read_extent (type_in env (read p m indices)) (reads_cell env m is) is (extent mode env m))
  extent mode env (folded p op m) =
      measured mode env (folded p op m) (single (folded_span op (scalars_of (extent mode env m))))
  extent mode env (all_different p m) = measured mode env (all_different p m) (single truth_span)
  extent mode env (gcc p m values counts) = measured mode env (gcc p m values counts) (single truth_span)
  extent mode env (at_least p m counts values) = measured mode env (at_least p m counts values) (single truth_span)
  extent mode env (at_most p m counts values) = measured mode env (at_most p m counts values) (single truth_span)
  extent mode env (table p row rows) = measured mode env (table p row rows) (single truth_span)

  -- what is known of some expressions
  pub extents_of : Mode → Env → ExprTrees → List Extent
  extents_of mode env no_trees = []
  extents_of mode env (tree_and e es) = extent mode env e ∷ extents_of mode env es

  -- what is known of the terms of a chain, each with its sign
  pub term_spans : Mode → Env → Terms → List Span
  term_spans mode env no_terms = []
  term_spans mode env (term_and plus e terms) =
      signed_span plus (span_of (extent mode env e)) ∷ term_spans mode env terms

  -- the indices of a read as they are measured
  pub measured_list : Mode → Env → Indices → List MeasuredIndex
  measured_list mode env no_indices = []
  measured_list mode env (every_and indices) = whole_index ∷ measured_list mode env indices
  measured_list mode env (index_and e indices) =
      measured_index
      (holds_decision (decisions_in env) e) (span_of (extent mode env e)) (number_in (evaluate mode env e))
      ∷ measured_list mode env indices

-- what is known of a quantifier over some names, in an environment in which the names before them stand for numbers
abbrev pub instance_span : Mode → QuantOp → DomainTree → ExprTree → List Name → Env → Span
instance_span mode op d e names env =
    over_names (numbered mode d) (quantified_span op) (λ inner. span_of (extent mode inner e)) names env
