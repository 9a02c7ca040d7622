-- The types of expressions and domains.
--
-- An expression is typed in a context, which says of each declared name what it stands for. The rules are those of the
-- language's public description: a Boolean becomes 0 or 1 where an integer is wanted, and an integer never becomes a
-- Boolean. That `[]` is of every matrix type, and the type of a list of such, is this project's own choice.
use Rattle.std.specs.Prelude.{ℕ, zero, suc, ◌+◌, ◌-◌, Bool, true, false, not, ◌&&◌, List, [], ◌∷◌, ◌++◌, map, length, if◌then◌else◌, nat_le, ◌==◌, Some, None, Option, option_map}
use Rattle.std.specs.List.{list_all}
use Rattle.ep_base.specs.declared.names.Name.{Name}
use Rattle.ep_tree.specs.Names.{Known, put}
use Rattle.ep_tree.specs.Trees.{DomainTree, Domains, End, ExprTree, ExprTrees, Generators, IndexDomain, Indices, Ranges, Terms, absolute, all_different, all_of, any_of, at_least, at_most, binary, bool, chain, compare, comprehension, domain_and, end_at, every_and, factorial, flatten, folded, gcc, generator_and, group, group_domain, in_domain, in_set, index_and, int, lex, literal, matrix_domain, minus, named, named_domain, negation, no_domains, no_end, no_generators, no_indices, no_ranges, no_terms, no_trees, number, one_and, over, quantified, ranges, read, set_domain, span_and, table, term_and, to_int, tree_and, truth, unstated}
use Rattle.ep_tree.specs.declared.syntax.BinaryOp.{BinaryOp}
use Rattle.ep_tree.specs.declared.syntax.FoldOp.{FoldOp}
use Rattle.ep_tree.specs.declared.syntax.QuantOp.{QuantOp}
use Rattle.ep_tree.specs.declared.values.Scalar.{Scalar}
use Rattle.ep_tree.specs.declared.values.ValueType.{ValueType}

-- what a declared name stands for: a value of a type, and whether it is a decision variable; or a domain of a type.
-- There is no type where the declaration's own domain or expression has none.
pub data Meaning : Type 0 where
  a_value : Option ValueType → Bool → Meaning
  a_domain : Option ValueType → Meaning

-- what the declared names stand for
abbrev pub Context : Type 0
Context = Known Meaning

-- What the rules say of a node: its type; that its parts have types, and these aren't the ones that it takes; or that
-- a part has no type.
pub data Judged : Type 0 where
  typed : ValueType → Judged
  mistyped : Judged
  untyped : Judged

-- the type of a node that has one
unfoldable pub type_from : Judged → Option ValueType
type_from (typed t) = Some t
type_from mistyped = None
type_from untyped = None

-- whether a type is integer, which Boolean is too
unfoldable pub is_integer : ValueType → Bool
is_integer ValueType.Bool = true
is_integer ValueType.Int = true
is_integer (ValueType.Matrix _ _) = false
is_integer ValueType.Empty = false

-- whether a type is Boolean
unfoldable pub is_boolean : ValueType → Bool
is_boolean ValueType.Bool = true
is_boolean ValueType.Int = false
is_boolean (ValueType.Matrix _ _) = false
is_boolean ValueType.Empty = false

-- whether a type is that of a matrix
unfoldable pub is_matrix : ValueType → Bool
is_matrix t = not (is_integer t)

-- whether a scalar is Boolean
unfoldable pub is_bool_scalar : Scalar → Bool
is_bool_scalar Scalar.Bool = true
is_bool_scalar Scalar.Int = false

-- whether a type is that of a matrix of Booleans; `[]` is of every matrix type
unfoldable pub is_matrix_of_bool : ValueType → Bool
is_matrix_of_bool (ValueType.Matrix _ s) = is_bool_scalar s
is_matrix_of_bool ValueType.Empty = true
is_matrix_of_bool _ = false

-- whether a type is that of a matrix of so many dimensions
unfoldable pub has_dimensions : ℕ → ValueType → Bool
has_dimensions k (ValueType.Matrix dims _) = dims == k
has_dimensions k ValueType.Empty = true
has_dimensions k _ = false

-- the scalar of a Boolean type, of a matrix of Booleans and of `[]` is Bool, and else Int
unfoldable pub scalar_of : ValueType → Scalar
scalar_of ValueType.Bool = Scalar.Bool
scalar_of ValueType.Int = Scalar.Int
scalar_of (ValueType.Matrix _ s) = s
scalar_of ValueType.Empty = Scalar.Bool

-- the type of a number of this scalar
unfoldable pub of_scalar : Scalar → ValueType
of_scalar Scalar.Bool = ValueType.Bool
of_scalar Scalar.Int = ValueType.Int

-- the scalar of two together: Bool only where both are
unfoldable pub both_scalars : Scalar → Scalar → Scalar
both_scalars Scalar.Bool s = s
both_scalars Scalar.Int s = Scalar.Int

-- a node whose parts have these types, which gives a type where a condition holds
unfoldable pub gives : ValueType → Bool → Judged
gives t true = typed t
gives t false = mistyped

-- a node of one part, which has no type where the part has none
unfoldable pub from_one : Judged → (ValueType → Judged) → Judged
from_one (typed t) rule = rule t
from_one mistyped rule = untyped
from_one untyped rule = untyped

-- a node of two parts, which has no type where a part has none
unfoldable pub from_two : Judged → Judged → (ValueType → ValueType → Judged) → Judged
from_two a b rule = from_one a (λ s. from_one b (λ t. rule s t))

-- a node of three parts, which has no type where a part has none
unfoldable pub from_three : Judged → Judged → Judged → (ValueType → ValueType → ValueType → Judged) → Judged
from_three a b c rule = from_one a (λ s. from_two b c (λ t u. rule s t u))

-- the types of many parts, where each has one
unfoldable pub all_typed : List Judged → Option (List ValueType)
all_typed [] = Some []
all_typed (typed t ∷ parts) = option_map (λ ts. t ∷ ts) (all_typed parts)
all_typed (mistyped ∷ parts) = None
all_typed (untyped ∷ parts) = None

-- a node whose parts have these types, if each has one
unfoldable pub from_all : Option (List ValueType) → (List ValueType → Judged) → Judged
from_all None rule = untyped
from_all (Some ts) rule = rule ts

-- a node of many parts, which has no type where a part has none
unfoldable pub from_many : List Judged → (List ValueType → Judged) → Judged
from_many parts rule = from_all (all_typed parts) rule

-- the type of a name that stands as an expression
unfoldable pub named_type : Option Meaning → Judged
named_type None = untyped
named_type (Some (a_value None _)) = untyped
named_type (Some (a_value (Some t) _)) = typed t
named_type (Some (a_domain _)) = mistyped

-- the type of a name that stands as a domain
unfoldable pub named_domain_type : Option Meaning → Judged
named_domain_type None = untyped
named_domain_type (Some (a_value _ _)) = mistyped
named_domain_type (Some (a_domain None)) = untyped
named_domain_type (Some (a_domain (Some t))) = typed t

-- `*`, `/`, `%`, `**`, `min` and `max` of two integers are Int; `->` and `<->` of two Booleans are Bool
unfoldable pub binary_type : BinaryOp → ValueType → ValueType → Judged
binary_type BinaryOp.Implies s t = gives ValueType.Bool (is_boolean s && is_boolean t)
binary_type BinaryOp.Iff s t = gives ValueType.Bool (is_boolean s && is_boolean t)
binary_type _ s t = gives ValueType.Int (is_integer s && is_integer t)

-- whether two matrices can be compared lexicographically: both of one dimension
unfoldable pub are_lists : ValueType → ValueType → Bool
are_lists s t = has_dimensions 1 s && has_dimensions 1 t

-- `forAll` and `exists` over scalar domains have a Boolean body and are Bool; `sum` has an integer body and is Int
unfoldable pub quantified_type : QuantOp → List ValueType → ValueType → Judged
quantified_type QuantOp.ForAll domains body = gives ValueType.Bool (list_all is_integer domains && is_boolean body)
quantified_type QuantOp.Exists domains body = gives ValueType.Bool (list_all is_integer domains && is_boolean body)
quantified_type QuantOp.Sum domains body = gives ValueType.Int (list_all is_integer domains && is_integer body)

-- `sum`, `product`, `min` and `max` of a matrix are Int; `and` and `or` of a matrix of Booleans are Bool
unfoldable pub folded_type : FoldOp → ValueType → Judged
folded_type FoldOp.And t = gives ValueType.Bool (is_matrix_of_bool t)
folded_type FoldOp.Or t = gives ValueType.Bool (is_matrix_of_bool t)
folded_type _ t = gives ValueType.Int (is_matrix t)

-- the dimensions that the types of a list's parts agree on: None where none states any
unfoldable pub stated_dimensions : List ValueType → Option ℕ
stated_dimensions [] = None
stated_dimensions (ValueType.Matrix dims _ ∷ ts) = Some dims
stated_dimensions (_ ∷ ts) = stated_dimensions ts

-- the type of a list of matrices: one dimension more than they have, and two where none says how many it has
unfoldable pub list_of_matrices : List ValueType → Option ℕ → Judged
list_of_matrices ts None = typed (ValueType.Matrix 2 Scalar.Bool)
list_of_matrices ts (Some dims) =
    gives
    (ValueType.Matrix (dims + 1) (if list_all is_matrix_of_bool ts then Scalar.Bool else Scalar.Int))
    (list_all (has_dimensions dims) ts)

-- The type of a list in brackets: without parts it is Empty; of integers it has one dimension, and is Bool if all
-- are; else it is a list of matrices.
unfoldable pub list_type : List ValueType → Judged
list_type [] = typed ValueType.Empty
list_type (t ∷ ts) =
    if list_all is_integer (t ∷ ts)
    then typed (ValueType.Matrix 1 (if list_all is_boolean (t ∷ ts) then Scalar.Bool else Scalar.Int))
    else (if list_all is_matrix (t ∷ ts) then list_of_matrices (t ∷ ts) (stated_dimensions (t ∷ ts)) else mistyped)

-- a list with the domain of its indices, which is scalar where it is stated
unfoldable pub indexed_type : List ValueType → Judged → Judged
indexed_type domains list = if list_all is_integer domains then list else mistyped

-- the type of what is left of a matrix: its scalar where no dimension is left
unfoldable pub left_type : ℕ → Scalar → ValueType
left_type zero s = of_scalar s
left_type (suc dims) s = ValueType.Matrix (suc dims) s

-- The type of a read of a matrix by indices, of which so many are `..`: at most one index for each dimension, each an
-- integer. `[]` can't be read.
unfoldable pub read_type : ValueType → List ValueType → ℕ → Judged
read_type (ValueType.Matrix dims s) indices slices =
    gives
    (left_type (dims - length indices) s)
    (list_all is_integer indices && nat_le (length indices + slices) dims)
read_type _ indices slices = mistyped

-- how many of the indices are `..`
unfoldable pub slice_count : Indices → ℕ
slice_count no_indices = 0
slice_count (every_and indices) = suc (slice_count indices)
slice_count (index_and _ indices) = slice_count indices

-- whether domains may be the index domains of a matrix: there is one, and all are scalar
unfoldable pub can_index : List ValueType → Bool
can_index [] = false
can_index (t ∷ ts) = list_all is_integer (t ∷ ts)

-- a matrix domain: its own index domains, and the dimensions of its element domain behind them
unfoldable pub matrix_type : List ValueType → ValueType → Judged
matrix_type domains (ValueType.Matrix dims s) = gives (ValueType.Matrix (length domains + dims) s) (can_index domains)
matrix_type domains t = gives (ValueType.Matrix (length domains) (scalar_of t)) (can_index domains)

-- the type of a name of a quantifier or generator: Bool over a Boolean domain, and else Int
unfoldable pub quantified_name : Judged → Meaning
quantified_name (typed t) = a_value (Some (if is_boolean t then ValueType.Bool else ValueType.Int)) false
quantified_name mistyped = a_value None false
quantified_name untyped = a_value None false

-- The domain of several names is read once for each, and each reading sees the names before: the contexts of the
-- readings.
unfoldable pub reading_contexts : List Name → (Context → Judged) → Context → List Context
reading_contexts [] domain context = []
reading_contexts (name ∷ names) domain context =
    context ∷ reading_contexts names domain (put name (quantified_name (domain context)) context)

-- the context of the body: the names of a quantifier or generator hide what they stood for
unfoldable pub inside : List Name → (Context → Judged) → Context → Context
inside [] domain context = context
inside (name ∷ names) domain context = inside names domain (put name (quantified_name (domain context)) context)

-- The type of a comprehension by the types of its index domain, of its generators' domains, of its conditions and of
-- its expression: the domains are scalar and the conditions Boolean, and it is a list of what its expression gives.
unfoldable pub comprehension_type : List ValueType → List ValueType → List ValueType → ValueType → Judged
comprehension_type index domains conditions t =
    if list_all is_boolean conditions then indexed_type (index ++ domains) (list_type (t ∷ [])) else mistyped

unfoldable mutual
  -- what the rules say of an expression
  pub judge : Context → ExprTree → Judged
  judge context (number _ _) = typed ValueType.Int
  judge context (truth _ _) = typed ValueType.Bool
  judge context (named _ name) = named_type (context name)
  judge context (group _ e) = from_one (judge context e) (λ t. typed t)
  judge context (negation _ e) = from_one (judge context e) (λ t. gives ValueType.Bool (is_boolean t))
  judge context (minus _ e) = from_one (judge context e) (λ t. gives ValueType.Int (is_integer t))
  judge context (absolute _ e) = from_one (judge context e) (λ t. gives ValueType.Int (is_integer t))
  judge context (to_int _ e) = from_one (judge context e) (λ t. gives ValueType.Int (is_boolean t))
  judge context (factorial _ e) = from_one (judge context e) (λ t. gives ValueType.Int (is_integer t))
  judge context (flatten _ m) =
      from_one (judge context m) (λ t. gives (ValueType.Matrix 1 (scalar_of t)) (is_matrix t))
  judge context (chain _ terms) =
      from_many (judge_terms context terms) (λ ts. gives ValueType.Int (list_all is_integer ts))
  judge context (binary _ op a b) = from_two (judge context a) (judge context b) (binary_type op)
  judge context (compare _ _ a b) =
      from_two (judge context a) (judge context b) (λ s t. gives ValueType.Bool (is_integer s && is_integer t))
  judge context (lex _ _ a b) =
      from_two (judge context a) (judge context b) (λ s t. gives ValueType.Bool (are_lists s t))
  judge context (in_domain _ e d) =
      from_two (judge context e) (judge_domain context d) (λ s t. gives ValueType.Bool (is_integer s && is_integer t))
  judge context (in_set _ e m) =
      from_two (judge context e) (judge context m) (λ s t. gives ValueType.Bool (is_integer s && is_matrix t))
  judge context (all_of _ parts) =
      from_many (judge_all context parts) (λ ts. gives ValueType.Bool (list_all is_boolean ts))
  judge context (any_of _ parts) =
      from_many (judge_all context parts) (λ ts. gives ValueType.Bool (list_all is_boolean ts))
  judge context (quantified _ op names d e) =
      from_many (map (λ c. judge_domain c d) (reading_contexts names (λ c. judge_domain c d) context)) (λ ds.
      from_one (judge (inside names (λ c. judge_domain c d) context) e) (quantified_type op ds))
  judge context (literal _ parts d) =
      from_many (judge_index context d) (λ ds. from_many (judge_all context parts) (λ ts. indexed_type ds (list_type ts)))
  judge context (comprehension _ e gens conditions d) =
      from_many (judge_index context d) (λ index.
      from_many (judge_generators context gens) (λ domains.
      from_many (judge_all (inside_all gens context) conditions) (λ truths.
      from_one (judge (inside_all gens context) e) (comprehension_type index domains truths))))
  judge context (read _ m indices) =
      from_one (judge context m) (λ t.
      from_many (judge_indices context indices) (λ ts. read_type t ts (slice_count indices)))
  judge context (folded _ op m) = from_one (judge context m) (folded_type op)
  judge context (all_different _ m) = from_one (judge context m) (λ t. gives ValueType.Bool (is_matrix t))
  judge context (gcc _ m values counts) =
      from_three (judge context m) (judge context values) (judge context counts)
      (λ s t u. gives ValueType.Bool (is_matrix s && are_lists t u))
  judge context (at_least _ m counts values) =
      from_three (judge context m) (judge context counts) (judge context values)
      (λ s t u. gives ValueType.Bool (is_matrix s && are_lists t u))
  judge context (at_most _ m counts values) =
      from_three (judge context m) (judge context counts) (judge context values)
      (λ s t u. gives ValueType.Bool (is_matrix s && are_lists t u))
  judge context (table _ row rows) =
      from_two (judge context row) (judge context rows)
      (λ s t. gives ValueType.Bool (has_dimensions 1 s && has_dimensions 2 t))

  -- what the rules say of a domain: the type of its values, or the type of the matrices in it
  pub judge_domain : Context → DomainTree → Judged
  judge_domain context (bool _) = typed ValueType.Bool
  judge_domain context (int _) = typed ValueType.Int
  judge_domain context (ranges _ rs) =
      from_many (judge_ranges context rs) (λ ts. gives ValueType.Int (list_all is_integer ts))
  judge_domain context (named_domain _ name) = named_domain_type (context name)
  judge_domain context (group_domain _ d) = from_one (judge_domain context d) (λ t. typed t)
  judge_domain context (set_domain _ _ c d) =
      from_two (judge_domain context c) (judge_domain context d)
      (λ s t. gives (of_scalar (both_scalars (scalar_of s) (scalar_of t))) (is_integer s && is_integer t))
  judge_domain context (matrix_domain _ ds d) =
      from_one (judge_domain context d) (λ t. from_many (judge_domains context ds) (λ ts. matrix_type ts t))

  -- the same of each of some expressions
  pub judge_all : Context → ExprTrees → List Judged
  judge_all context no_trees = []
  judge_all context (tree_and e es) = judge context e ∷ judge_all context es

  -- the same of each term of a chain
  pub judge_terms : Context → Terms → List Judged
  judge_terms context no_terms = []
  judge_terms context (term_and _ e terms) = judge context e ∷ judge_terms context terms

  -- the same of each index that isn't `..`
  pub judge_indices : Context → Indices → List Judged
  judge_indices context no_indices = []
  judge_indices context (every_and indices) = judge_indices context indices
  judge_indices context (index_and e indices) = judge context e ∷ judge_indices context indices

  -- the same of each bound of some ranges
  pub judge_ranges : Context → Ranges → List Judged
  judge_ranges context no_ranges = []
  judge_ranges context (one_and e rs) = judge context e ∷ judge_ranges context rs
  judge_ranges context (span_and a b rs) = judge_end context a ++ judge_end context b ++ judge_ranges context rs

  -- the same of an end of a range, if it has one
  pub judge_end : Context → End → List Judged
  judge_end context no_end = []
  judge_end context (end_at e) = judge context e ∷ []

  -- the same of each of some domains
  pub judge_domains : Context → Domains → List Judged
  judge_domains context no_domains = []
  judge_domains context (domain_and d ds) = judge_domain context d ∷ judge_domains context ds

  -- the same of the domain of a list's indices, if it is stated
  pub judge_index : Context → IndexDomain → List Judged
  judge_index context unstated = []
  judge_index context (over d) = judge_domain context d ∷ []

  -- the same of the domains of generators, each reading in the context of the names before it
  pub judge_generators : Context → Generators → List Judged
  judge_generators context no_generators = []
  judge_generators context (generator_and names d gens) =
      map (λ c. judge_domain c d) (reading_contexts names (λ c. judge_domain c d) context)
      ++ judge_generators (inside names (λ c. judge_domain c d) context) gens

  -- the context of what stands behind generators
  pub inside_all : Generators → Context → Context
  inside_all no_generators context = context
  inside_all (generator_and names d gens) context = inside_all gens (inside names (λ c. judge_domain c d) context)
