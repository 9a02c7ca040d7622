-- Size, greatest number and weight of expressions, told by the nodes that are met when quantifiers and comprehensions
-- are written out.
--
-- All of these measures are this project's own.
use Rattle.std.specs.Prelude.{ℕ, ◌+◌, ◌*◌, List, [], ◌∷◌, ◌++◌, map, length, ℤ, pos, if◌then◌else◌, filter, fold, sum_by, flat_map, Option, unwrap_or}
use Rattle.std.specs.Int.{int_max}
use Rattle.std.specs.List.{list_any}
use Rattle.ep_base.specs.Intervals.{Interval, farthest_end, greatest_interval, least_interval, only, product_interval, sum_cost, sum_interval, width}
use Rattle.ep_base.specs.Numbers.{absolute_of}
use Rattle.ep_base.specs.declared.names.Name.{Name}
use Rattle.ep_tree.specs.Environments.{Env}
use Rattle.ep_tree.specs.Evaluation.{chosen, numbered, reached}
use Rattle.ep_tree.specs.Reach.{Extent, MeasuredIndex, Span, decided_index, decisions_in, extent, extents_of, fixed_index, holds_decision, instance_span, is_decided_index, measured_list, parts_left, reaches, span_of, term_spans, whole_index}
use Rattle.ep_tree.specs.Trees.{DomainTree, Domains, End, ExprTree, ExprTrees, Generators, IndexDomain, Indices, Ranges, Terms, absolute, all_different, all_of, any_of, at_least, at_most, binary, bool, chain, compare, comprehension, domain_and, end_at, every_and, factorial, flatten, folded, gcc, generator_and, group, group_domain, in_domain, in_set, index_and, int, lex, literal, matrix_domain, minus, named, named_domain, negation, no_domains, no_end, no_generators, no_indices, no_ranges, no_terms, no_trees, number, one_and, over, quantified, ranges, read, set_domain, span_and, table, term_and, to_int, tree_and, truth, unstated}
use Rattle.ep_tree.specs.declared.syntax.BinaryOp.{BinaryOp}
use Rattle.ep_tree.specs.declared.syntax.FoldOp.{FoldOp}
use Rattle.ep_tree.specs.declared.syntax.QuantOp.{QuantOp}
use Rattle.ep_tree.specs.Values.{matrix, rows_of, scalars_of, single}
use Rattle.ep_tree.specs.declared.values.Mode.{Mode}

-- what is met: a node in one of its environments, or a name of a generator
pub data Met : Type 0 where
  a_node : Env → ExprTree → Met
  a_generator : Met

-- What some names over one domain meet: each in turn what stands there with the names that are left, and then, for each
-- number of the domain, what follows; an undefined domain has none.
unfoldable pub met_names :
    (List Name → Env → List Met) → (Name → Env → Option (List Env)) → (Env → List Met) → List Name → Env → List Met
met_names here numbered inner [] env = inner env
met_names here numbered inner (name ∷ names) env =
    here (name ∷ names) env ++ flat_map (met_names here numbered inner names) (unwrap_or (numbered name env) [])

unfoldable mutual
  -- the nodes that an expression meets: itself, and what its parts meet
  pub met : Mode → Env → ExprTree → List Met
  met mode env (number p n) = a_node env (number p n) ∷ []
  met mode env (truth p b) = a_node env (truth p b) ∷ []
  met mode env (named p name) = a_node env (named p name) ∷ []
  met mode env (group p e) = a_node env (group p e) ∷ met mode env e
  met mode env (negation p e) = a_node env (negation p e) ∷ met mode env e
  met mode env (minus p e) = a_node env (minus p e) ∷ met mode env e
  met mode env (absolute p e) = a_node env (absolute p e) ∷ met mode env e
  met mode env (to_int p e) = a_node env (to_int p e) ∷ met mode env e
  met mode env (factorial p e) = a_node env (factorial p e) ∷ met mode env e
  met mode env (flatten p m) = a_node env (flatten p m) ∷ met mode env m
  met mode env (chain p terms) = a_node env (chain p terms) ∷ met_terms mode env terms
  met mode env (binary p op a b) = a_node env (binary p op a b) ∷ met mode env a ++ met mode env b
  met mode env (compare p op a b) = a_node env (compare p op a b) ∷ met mode env a ++ met mode env b
  met mode env (lex p op a b) = a_node env (lex p op a b) ∷ met mode env a ++ met mode env b
  met mode env (in_domain p e d) = a_node env (in_domain p e d) ∷ met mode env e ++ met_domain mode env d
  met mode env (in_set p e m) = a_node env (in_set p e m) ∷ met mode env e ++ met mode env m
  met mode env (all_of p parts) = a_node env (all_of p parts) ∷ met_all mode env parts
  met mode env (any_of p parts) = a_node env (any_of p parts) ∷ met_all mode env parts
  met mode env (quantified p op names d e) =
      met_names
      (λ left inner. a_node inner (quantified p op left d e) ∷ met_domain mode inner d)
      (numbered mode d) (λ inner. met mode inner e) names env
  met mode env (literal p parts d) = a_node env (literal p parts d) ∷ met_all mode env parts ++ met_index mode env d
  met mode env (comprehension p e gens conditions d) =
      a_node env (comprehension p e gens conditions d)
      ∷ met_generators mode env gens
      ++ flat_map (λ inner. met_all mode inner conditions) (reached mode env gens)
      ++ flat_map (λ inner. met mode inner e) (chosen mode env gens conditions)
      ++ met_index mode env d
  met mode env (read p m indices) = a_node env (read p m indices) ∷ met mode env m ++ met_indices mode env indices
  met mode env (folded p op m) = a_node env (folded p op m) ∷ met mode env m
  met mode env (all_different p m) = a_node env (all_different p m) ∷ met mode env m
  met mode env (gcc p m values counts) =
      a_node env (gcc p m values counts) ∷ met mode env m ++ met mode env values ++ met mode env counts
  met mode env (at_least p m counts values) =
      a_node env (at_least p m counts values) ∷ met mode env m ++ met mode env counts ++ met mode env values
  met mode env (at_most p m counts values) =
      a_node env (at_most p m counts values) ∷ met mode env m ++ met mode env counts ++ met mode env values
  met mode env (table p row rows) = a_node env (table p row rows) ∷ met mode env row ++ met mode env rows

  -- what the bounds of a domain meet; a domain's name meets nothing
  pub met_domain : Mode → Env → DomainTree → List Met
  met_domain mode env (bool _) = []
  met_domain mode env (int _) = []
  met_domain mode env (ranges _ rs) = met_ranges mode env rs
  met_domain mode env (named_domain _ _) = []
  met_domain mode env (group_domain _ d) = met_domain mode env d
  met_domain mode env (set_domain _ _ c d) = met_domain mode env c ++ met_domain mode env d
  met_domain mode env (matrix_domain _ ds d) = met_domains mode env ds ++ met_domain mode env d

  -- what some expressions meet
  pub met_all : Mode → Env → ExprTrees → List Met
  met_all mode env no_trees = []
  met_all mode env (tree_and e es) = met mode env e ++ met_all mode env es

  -- what the terms of a chain meet
  pub met_terms : Mode → Env → Terms → List Met
  met_terms mode env no_terms = []
  met_terms mode env (term_and _ e terms) = met mode env e ++ met_terms mode env terms

  -- what the indices of a read meet
  pub met_indices : Mode → Env → Indices → List Met
  met_indices mode env no_indices = []
  met_indices mode env (every_and indices) = met_indices mode env indices
  met_indices mode env (index_and e indices) = met mode env e ++ met_indices mode env indices

  -- what the bounds of some ranges meet
  pub met_ranges : Mode → Env → Ranges → List Met
  met_ranges mode env no_ranges = []
  met_ranges mode env (one_and e rs) = met mode env e ++ met_ranges mode env rs
  met_ranges mode env (span_and a b rs) = met_end mode env a ++ met_end mode env b ++ met_ranges mode env rs

  -- what an end of a range meets
  pub met_end : Mode → Env → End → List Met
  met_end mode env no_end = []
  met_end mode env (end_at e) = met mode env e

  -- what the bounds of some domains meet
  pub met_domains : Mode → Env → Domains → List Met
  met_domains mode env no_domains = []
  met_domains mode env (domain_and d ds) = met_domain mode env d ++ met_domains mode env ds

  -- what the domain of a list's indices meets
  pub met_index : Mode → Env → IndexDomain → List Met
  met_index mode env unstated = []
  met_index mode env (over d) = met_domain mode env d

  -- what the names of generators meet: each is one itself, and meets its domain, once for each list of numbers of the
  -- names before it
  pub met_generators : Mode → Env → Generators → List Met
  met_generators mode env no_generators = []
  met_generators mode env (generator_and names d gens) =
      met_names
      (λ left inner. a_generator ∷ met_domain mode inner d)
      (numbered mode d) (λ inner. met_generators mode inner gens) names env

-- the size of what is met: the nodes, each once in each of its environments, and the names of generators
abbrev pub size_of : List Met → ℕ
size_of ms = length ms

-- the greatest absolute value of some numbers, and 0 for none
unfoldable pub farthest_of : List ℤ → ℤ
farthest_of xs = fold int_max (pos 0) (map absolute_of xs)

-- the reach of the product of the first parts, for each number of them
unfoldable pub first_products : Interval → List Interval → List Interval
first_products before [] = []
first_products before (i ∷ is) =
    let whole : Interval = product_interval before i in whole ∷ first_products whole is

-- the reach of what is a number; a matrix has none of its own
unfoldable pub number_reach : Extent → List Interval
number_reach (single s) = s.reach ∷ []
number_reach (matrix indices parts) = []

-- the reaches at a node: its own, where it is a number, and at a `product` those of its first parts together
unfoldable pub reaches_at : Mode → Met → List Interval
reaches_at mode a_generator = []
reaches_at mode (a_node env (folded p FoldOp.Product m)) =
    number_reach (extent mode env (folded p FoldOp.Product m))
    ++ first_products (only (pos 1)) (reaches (scalars_of (extent mode env m)))
reaches_at mode (a_node env e) = number_reach (extent mode env e)

-- the greatest absolute value of what some nodes reach; without decision variables, that is of their values
unfoldable pub farthest_reach : Mode → List Met → ℤ
farthest_reach mode ms = farthest_of (map farthest_end (flat_map (reaches_at mode) ms))

-- the weight of folding parts one after another: the width of the parts before, folded, times the spread of the next
unfoldable pub folding_weight : (Interval → Interval → Interval) → Interval → List Span → ℕ
folding_weight step before [] = 0
folding_weight step before (s ∷ spans) = width before * s.spread + folding_weight step (step before s.reach) spans

-- the same from the first part on
unfoldable pub fold_weight : (Interval → Interval → Interval) → List Span → ℕ
fold_weight step [] = 0
fold_weight step (s ∷ spans) = folding_weight step s.reach spans

-- the widths of some parts, added
abbrev pub widths : List Span → ℕ
widths spans = sum_by (λ s. width s.reach) spans

-- the parts that hold a decision variable
abbrev pub decided_parts : List Span → List Span
decided_parts spans = filter (λ s. s.decided) spans

-- the weight of a sum: what it costs by its width, and by the spreads and the number of the parts that hold a decision
-- variable
unfoldable pub sum_weight : List Span → ℕ
sum_weight parts =
    sum_cost
    (width (sum_interval (reaches parts)))
    (sum_by (λ s. s.spread) (decided_parts parts))
    (length (decided_parts parts))

-- the weight of a matrix folded into a number
unfoldable pub folded_weight : FoldOp → List Span → ℕ
folded_weight FoldOp.Sum spans = sum_weight spans
folded_weight FoldOp.Product spans = fold_weight product_interval spans
folded_weight FoldOp.And spans = length spans + 1
folded_weight FoldOp.Or spans = length spans + 1
folded_weight FoldOp.Min spans = fold_weight (λ i j. least_interval (i ∷ j ∷ [])) spans
folded_weight FoldOp.Max spans = fold_weight (λ i j. greatest_interval (i ∷ j ∷ [])) spans

-- the weight of two parts with an operator between them
unfoldable pub binary_weight : BinaryOp → Span → Span → ℕ
binary_weight BinaryOp.Pow s t = s.spread
binary_weight BinaryOp.Implies s t = 3
binary_weight BinaryOp.Iff s t = 3
binary_weight _ s t = s.spread * t.spread

-- the weight of a quantifier by its instances
unfoldable pub quantified_weight : QuantOp → List Span → ℕ
quantified_weight QuantOp.ForAll instances = length instances + 1
quantified_weight QuantOp.Exists instances = length instances + 1
quantified_weight QuantOp.Sum instances = sum_weight instances

-- the weight of a `gcc`, `atleast` or `atmost`
unfoldable pub counting_weight : List Span → List Span → List Span → ℕ
counting_weight xs values counts = length values * (length xs * (length xs + 1)) + (widths xs + widths counts)

-- the width of an index: 1 where it has no decision variable
unfoldable pub index_width : MeasuredIndex → ℕ
index_width (decided_index s) = width s.reach
index_width (fixed_index n) = 1
index_width whole_index = 0

-- the weight of a read, by its own reach and the parts that are left: it has one where an index has a decision variable
unfoldable pub read_weight : List MeasuredIndex → Span → List Span → ℕ
read_weight is whole left =
    if list_any is_decided_index is then length left * (width whole.reach + sum_by index_width is) else 0

-- The weight of a node that holds a decision variable. toInt, brackets, lists, comprehensions, `flatten`, names, and
-- reads whose indices have no decision variable weigh nothing.
unfoldable pub decided_weight : Mode → Env → ExprTree → ℕ
decided_weight mode env (negation _ e) = 2
decided_weight mode env (minus _ e) = (span_of (extent mode env e)).spread
decided_weight mode env (absolute _ e) = (span_of (extent mode env e)).spread
decided_weight mode env (chain p terms) = sum_weight (term_spans mode env terms)
decided_weight mode env (binary _ op a b) = binary_weight op (span_of (extent mode env a)) (span_of (extent mode env b))
decided_weight mode env (compare _ op a b) = widths (span_of (extent mode env a) ∷ span_of (extent mode env b) ∷ [])
decided_weight mode env (lex _ op a b) =
    widths (scalars_of (extent mode env a)) + widths (scalars_of (extent mode env b))
decided_weight mode env (in_domain _ e d) = widths (span_of (extent mode env e) ∷ [])
decided_weight mode env (in_set _ e m) =
    let parts : List Span = scalars_of (extent mode env m) in
    length parts * width (span_of (extent mode env e)).reach + widths parts
decided_weight mode env (all_of _ parts) = length (extents_of mode env parts) + 1
decided_weight mode env (any_of _ parts) = length (extents_of mode env parts) + 1
decided_weight mode env (quantified _ op (name ∷ names) d e) =
    quantified_weight op (map (instance_span mode op d e names) (unwrap_or (numbered mode d name env) []))
decided_weight mode env (read p m indices) =
    let is : List MeasuredIndex = measured_list mode env indices in
    read_weight is
    (span_of (extent mode env (read p m indices))) (flat_map scalars_of (parts_left is (extent mode env m)))
decided_weight mode env (folded _ op m) = folded_weight op (scalars_of (extent mode env m))
decided_weight mode env (all_different _ m) =
    let parts : List Span = scalars_of (extent mode env m) in length parts * widths parts
decided_weight mode env (gcc _ m values counts) =
    counting_weight
    (scalars_of (extent mode env m)) (scalars_of (extent mode env values)) (scalars_of (extent mode env counts))
decided_weight mode env (at_least _ m counts values) =
    counting_weight
    (scalars_of (extent mode env m)) (scalars_of (extent mode env values)) (scalars_of (extent mode env counts))
decided_weight mode env (at_most _ m counts values) =
    counting_weight
    (scalars_of (extent mode env m)) (scalars_of (extent mode env values)) (scalars_of (extent mode env counts))
decided_weight mode env (table _ row rows) =
    let parts : List Span = scalars_of (extent mode env row) in
    length (rows_of (extent mode env rows)) * length parts + widths parts
decided_weight mode env _ = 0

-- the weight of what is met
unfoldable pub weight_at : Mode → Met → ℕ
weight_at mode a_generator = 0
weight_at mode (a_node env e) = if holds_decision (decisions_in env) e then decided_weight mode env e else 0

-- the weight of some nodes
unfoldable pub weight_of : Mode → List Met → ℕ
weight_of mode ms = sum_by (weight_at mode) ms
