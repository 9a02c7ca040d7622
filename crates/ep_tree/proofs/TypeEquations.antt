-- One equation for each case of the types of expressions and domains.
use Rattle.std.specs.Prelude.{◌≡◌, Bool, ◌&&◌, List, [], ◌∷◌, ◌++◌, map, ℤ, refl}
use Rattle.std.specs.List.{list_all}
use Rattle.ep_base.specs.declared.names.Name.{Name}
use Rattle.ep_base.specs.declared.operators.CompareOp.{CompareOp}
use Rattle.ep_base.specs.declared.operators.LexOp.{LexOp}
use Rattle.ep_base.specs.declared.places.Place.{Place}
use Rattle.ep_tree.specs.Trees.{DomainTree, Domains, End, ExprTree, ExprTrees, Generators, IndexDomain, Indices, Ranges, Terms, absolute, all_different, all_of, any_of, at_least, at_most, binary, bool, chain, compare, comprehension, domain_and, end_at, every_and, factorial, flatten, folded, gcc, generator_and, group, group_domain, in_domain, in_set, index_and, int, lex, literal, matrix_domain, minus, named, named_domain, negation, no_domains, no_end, no_generators, no_indices, no_ranges, no_terms, no_trees, number, one_and, over, quantified, ranges, read, set_domain, span_and, table, term_and, to_int, tree_and, truth, unstated}
use Rattle.ep_tree.specs.Types.{Context, are_lists, binary_type, both_scalars, comprehension_type, folded_type, from_many, from_one, from_three, from_two, gives, has_dimensions, indexed_type, inside, inside_all, is_boolean, is_integer, is_matrix, judge, judge_all, judge_domain, judge_domains, judge_end, judge_generators, judge_index, judge_indices, judge_ranges, judge_terms, list_type, matrix_type, named_domain_type, named_type, of_scalar, quantified_type, read_type, reading_contexts, scalar_of, slice_count, typed}
use Rattle.ep_tree.specs.declared.syntax.BinaryOp.{BinaryOp}
use Rattle.ep_tree.specs.declared.syntax.FoldOp.{FoldOp}
use Rattle.ep_tree.specs.declared.syntax.QuantOp.{QuantOp}
use Rattle.ep_tree.specs.declared.syntax.SetOp.{SetOp}
use Rattle.ep_tree.specs.declared.values.ValueType.{ValueType}

pub judge-number : (context : Context) (place : Place) (op : ℤ) → judge context (number place op) ≡ typed ValueType.Int
unfolding judge
judge-number _ _ _ = refl

pub judge-truth : (context : Context) (place : Place) (op : Bool) → judge context (truth place op) ≡ typed ValueType.Bool
unfolding judge
judge-truth _ _ _ = refl

pub judge-named : (context : Context) (place : Place) (name : Name) → judge context (named place name) ≡ named_type (context name)
unfolding judge
judge-named _ _ _ = refl

pub judge-group : (context : Context) (place : Place) (e : ExprTree) → judge context (group place e) ≡ from_one (judge context e) (λ t. typed t)
unfolding judge
judge-group _ _ _ = refl

pub judge-negation : (context : Context) (place : Place) (e : ExprTree) → judge context (negation place e) ≡ from_one (judge context e) (λ t. gives ValueType.Bool (is_boolean t))
unfolding judge
judge-negation _ _ _ = refl

pub judge-minus : (context : Context) (place : Place) (e : ExprTree) → judge context (minus place e) ≡ from_one (judge context e) (λ t. gives ValueType.Int (is_integer t))
unfolding judge
judge-minus _ _ _ = refl

pub judge-absolute : (context : Context) (place : Place) (e : ExprTree) → judge context (absolute place e) ≡ from_one (judge context e) (λ t. gives ValueType.Int (is_integer t))
unfolding judge
judge-absolute _ _ _ = refl

pub judge-to_int : (context : Context) (place : Place) (e : ExprTree) → judge context (to_int place e) ≡ from_one (judge context e) (λ t. gives ValueType.Int (is_boolean t))
unfolding judge
judge-to_int _ _ _ = refl

pub judge-factorial : (context : Context) (place : Place) (e : ExprTree) → judge context (factorial place e) ≡ from_one (judge context e) (λ t. gives ValueType.Int (is_integer t))
unfolding judge
judge-factorial _ _ _ = refl

pub judge-flatten : (context : Context) (place : Place) (m : ExprTree) → judge context (flatten place m) ≡ from_one (judge context m) (λ t. gives (ValueType.Matrix 1 (scalar_of t)) (is_matrix t))
unfolding judge
judge-flatten _ _ _ = refl

pub judge-chain : (context : Context) (place : Place) (terms : Terms) → judge context (chain place terms) ≡ from_many (judge_terms context terms) (λ ts. gives ValueType.Int (list_all is_integer ts))
unfolding judge
judge-chain _ _ _ = refl

pub judge-binary : (context : Context) (place : Place) (op : BinaryOp) (a : ExprTree) (b : ExprTree) → judge context (binary place op a b) ≡ from_two (judge context a) (judge context b) (binary_type op)
unfolding judge
judge-binary _ _ _ _ _ = refl

pub judge-compare : (context : Context) (place : Place) (op : CompareOp) (a : ExprTree) (b : ExprTree) → judge context (compare place op a b) ≡ from_two (judge context a) (judge context b) (λ s t. gives ValueType.Bool (is_integer s && is_integer t))
unfolding judge
judge-compare _ _ _ _ _ = refl

pub judge-lex : (context : Context) (place : Place) (op : LexOp) (a : ExprTree) (b : ExprTree) → judge context (lex place op a b) ≡ from_two (judge context a) (judge context b) (λ s t. gives ValueType.Bool (are_lists s t))
unfolding judge
judge-lex _ _ _ _ _ = refl

pub judge-in_domain : (context : Context) (place : Place) (e : ExprTree) (d : DomainTree) → judge context (in_domain place e d) ≡ from_two (judge context e) (judge_domain context d) (λ s t. gives ValueType.Bool (is_integer s && is_integer t))
unfolding judge
judge-in_domain _ _ _ _ = refl

pub judge-in_set : (context : Context) (place : Place) (e : ExprTree) (m : ExprTree) → judge context (in_set place e m) ≡ from_two (judge context e) (judge context m) (λ s t. gives ValueType.Bool (is_integer s && is_matrix t))
unfolding judge
judge-in_set _ _ _ _ = refl

pub judge-all_of : (context : Context) (place : Place) (parts : ExprTrees) → judge context (all_of place parts) ≡ from_many (judge_all context parts) (λ ts. gives ValueType.Bool (list_all is_boolean ts))
unfolding judge
judge-all_of _ _ _ = refl

pub judge-any_of : (context : Context) (place : Place) (parts : ExprTrees) → judge context (any_of place parts) ≡ from_many (judge_all context parts) (λ ts. gives ValueType.Bool (list_all is_boolean ts))
unfolding judge
judge-any_of _ _ _ = refl

pub judge-quantified : (context : Context) (place : Place) (op : QuantOp) (names : List Name) (d : DomainTree) (e : ExprTree) → judge context (quantified place op names d e) ≡ from_many (map (λ c. judge_domain c d) (reading_contexts names (λ c. judge_domain c d) context)) (λ ds. from_one (judge (inside names (λ c. judge_domain c d) context) e) (quantified_type op ds))
unfolding judge
judge-quantified _ _ _ _ _ _ = refl

pub judge-literal : (context : Context) (place : Place) (parts : ExprTrees) (d : IndexDomain) → judge context (literal place parts d) ≡ from_many (judge_index context d) (λ ds. from_many (judge_all context parts) (λ ts. indexed_type ds (list_type ts)))
unfolding judge
judge-literal _ _ _ _ = refl

pub judge-comprehension : (context : Context) (place : Place) (e : ExprTree) (gens : Generators) (conditions : ExprTrees) (d : IndexDomain) → judge context (comprehension place e gens conditions d) ≡ from_many (judge_index context d) (λ index. from_many (judge_generators context gens) (λ domains. from_many (judge_all (inside_all gens context) conditions) (λ truths. from_one (judge (inside_all gens context) e) (comprehension_type index domains truths))))
unfolding judge
judge-comprehension _ _ _ _ _ _ = refl

pub judge-read : (context : Context) (place : Place) (m : ExprTree) (indices : Indices) → judge context (read place m indices) ≡ from_one (judge context m) (λ t. from_many (judge_indices context indices) (λ ts. read_type t ts (slice_count indices)))
unfolding judge
judge-read _ _ _ _ = refl

pub judge-folded : (context : Context) (place : Place) (op : FoldOp) (m : ExprTree) → judge context (folded place op m) ≡ from_one (judge context m) (folded_type op)
unfolding judge
judge-folded _ _ _ _ = refl

pub judge-all_different : (context : Context) (place : Place) (m : ExprTree) → judge context (all_different place m) ≡ from_one (judge context m) (λ t. gives ValueType.Bool (is_matrix t))
unfolding judge
judge-all_different _ _ _ = refl

pub judge-gcc : (context : Context) (place : Place) (m : ExprTree) (values : ExprTree) (counts : ExprTree) → judge context (gcc place m values counts) ≡ from_three (judge context m) (judge context values) (judge context counts) (λ s t u. gives ValueType.Bool (is_matrix s && are_lists t u))
unfolding judge
judge-gcc _ _ _ _ _ = refl

pub judge-at_least : (context : Context) (place : Place) (m : ExprTree) (counts : ExprTree) (values : ExprTree) → judge context (at_least place m counts values) ≡ from_three (judge context m) (judge context counts) (judge context values) (λ s t u. gives ValueType.Bool (is_matrix s && are_lists t u))
unfolding judge
judge-at_least _ _ _ _ _ = refl

pub judge-at_most : (context : Context) (place : Place) (m : ExprTree) (counts : ExprTree) (values : ExprTree) → judge context (at_most place m counts values) ≡ from_three (judge context m) (judge context counts) (judge context values) (λ s t u. gives ValueType.Bool (is_matrix s && are_lists t u))
unfolding judge
judge-at_most _ _ _ _ _ = refl

pub judge-table : (context : Context) (place : Place) (row : ExprTree) (rows : ExprTree) → judge context (table place row rows) ≡ from_two (judge context row) (judge context rows) (λ s t. gives ValueType.Bool (has_dimensions 1 s && has_dimensions 2 t))
unfolding judge
judge-table _ _ _ _ = refl

pub judge_domain-bool : (context : Context) (place : Place) → judge_domain context (bool place) ≡ typed ValueType.Bool
unfolding judge_domain
judge_domain-bool _ _ = refl

pub judge_domain-int : (context : Context) (place : Place) → judge_domain context (int place) ≡ typed ValueType.Int
unfolding judge_domain
judge_domain-int _ _ = refl

pub judge_domain-ranges : (context : Context) (place : Place) (rs : Ranges) → judge_domain context (ranges place rs) ≡ from_many (judge_ranges context rs) (λ ts. gives ValueType.Int (list_all is_integer ts))
unfolding judge_domain
judge_domain-ranges _ _ _ = refl

pub judge_domain-named_domain : (context : Context) (place : Place) (name : Name) → judge_domain context (named_domain place name) ≡ named_domain_type (context name)
unfolding judge_domain
judge_domain-named_domain _ _ _ = refl

pub judge_domain-group_domain : (context : Context) (place : Place) (d : DomainTree) → judge_domain context (group_domain place d) ≡ from_one (judge_domain context d) (λ t. typed t)
unfolding judge_domain
judge_domain-group_domain _ _ _ = refl

pub judge_domain-set_domain : (context : Context) (place : Place) (op : SetOp) (c : DomainTree) (d : DomainTree) → judge_domain context (set_domain place op c d) ≡ from_two (judge_domain context c) (judge_domain context d) (λ s t. gives (of_scalar (both_scalars (scalar_of s) (scalar_of t))) (is_integer s && is_integer t))
unfolding judge_domain
judge_domain-set_domain _ _ _ _ _ = refl

pub judge_domain-matrix_domain : (context : Context) (place : Place) (ds : Domains) (d : DomainTree) → judge_domain context (matrix_domain place ds d) ≡ from_one (judge_domain context d) (λ t. from_many (judge_domains context ds) (λ ts. matrix_type ts t))
unfolding judge_domain
judge_domain-matrix_domain _ _ _ _ = refl

pub judge_all-no_trees : (context : Context) → judge_all context no_trees ≡ []
unfolding judge_all
judge_all-no_trees _ = refl

pub judge_all-tree_and : (context : Context) (e : ExprTree) (es : ExprTrees) → judge_all context (tree_and e es) ≡ judge context e ∷ judge_all context es
unfolding judge_all
judge_all-tree_and _ _ _ = refl

pub judge_terms-no_terms : (context : Context) → judge_terms context no_terms ≡ []
unfolding judge_terms
judge_terms-no_terms _ = refl

pub judge_terms-term_and : (context : Context) (place : Bool) (e : ExprTree) (terms : Terms) → judge_terms context (term_and place e terms) ≡ judge context e ∷ judge_terms context terms
unfolding judge_terms
judge_terms-term_and _ _ _ _ = refl

pub judge_indices-no_indices : (context : Context) → judge_indices context no_indices ≡ []
unfolding judge_indices
judge_indices-no_indices _ = refl

pub judge_indices-every_and : (context : Context) (indices : Indices) → judge_indices context (every_and indices) ≡ judge_indices context indices
unfolding judge_indices
judge_indices-every_and _ _ = refl

pub judge_indices-index_and : (context : Context) (e : ExprTree) (indices : Indices) → judge_indices context (index_and e indices) ≡ judge context e ∷ judge_indices context indices
unfolding judge_indices
judge_indices-index_and _ _ _ = refl

pub judge_ranges-no_ranges : (context : Context) → judge_ranges context no_ranges ≡ []
unfolding judge_ranges
judge_ranges-no_ranges _ = refl

pub judge_ranges-one_and : (context : Context) (e : ExprTree) (rs : Ranges) → judge_ranges context (one_and e rs) ≡ judge context e ∷ judge_ranges context rs
unfolding judge_ranges
judge_ranges-one_and _ _ _ = refl

pub judge_ranges-span_and : (context : Context) (a : End) (b : End) (rs : Ranges) → judge_ranges context (span_and a b rs) ≡ judge_end context a ++ judge_end context b ++ judge_ranges context rs
unfolding judge_ranges
judge_ranges-span_and _ _ _ _ = refl

pub judge_end-no_end : (context : Context) → judge_end context no_end ≡ []
unfolding judge_end
judge_end-no_end _ = refl

pub judge_end-end_at : (context : Context) (e : ExprTree) → judge_end context (end_at e) ≡ judge context e ∷ []
unfolding judge_end
judge_end-end_at _ _ = refl

pub judge_domains-no_domains : (context : Context) → judge_domains context no_domains ≡ []
unfolding judge_domains
judge_domains-no_domains _ = refl

pub judge_domains-domain_and : (context : Context) (d : DomainTree) (ds : Domains) → judge_domains context (domain_and d ds) ≡ judge_domain context d ∷ judge_domains context ds
unfolding judge_domains
judge_domains-domain_and _ _ _ = refl

pub judge_index-unstated : (context : Context) → judge_index context unstated ≡ []
unfolding judge_index
judge_index-unstated _ = refl

pub judge_index-over : (context : Context) (d : DomainTree) → judge_index context (over d) ≡ judge_domain context d ∷ []
unfolding judge_index
judge_index-over _ _ = refl

pub judge_generators-no_generators : (context : Context) → judge_generators context no_generators ≡ []
unfolding judge_generators
judge_generators-no_generators _ = refl

pub judge_generators-generator_and : (context : Context) (names : List Name) (d : DomainTree) (gens : Generators) → judge_generators context (generator_and names d gens) ≡ map (λ c. judge_domain c d) (reading_contexts names (λ c. judge_domain c d) context) ++ judge_generators (inside names (λ c. judge_domain c d) context) gens
unfolding judge_generators
judge_generators-generator_and _ _ _ _ = refl

pub inside_all-no_generators : (context : Context) → inside_all no_generators context ≡ context
unfolding inside_all
inside_all-no_generators _ = refl

pub inside_all-generator_and : (context : Context) (names : List Name) (d : DomainTree) (gens : Generators) → inside_all (generator_and names d gens) context ≡ inside_all gens (inside names (λ c. judge_domain c d) context)
unfolding inside_all
inside_all-generator_and _ _ _ _ = refl
