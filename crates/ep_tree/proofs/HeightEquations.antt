-- One equation for each case of heights.
use Rattle.std.specs.Prelude.{◌≡◌, ◌+◌, max, Bool, List, ℤ, refl}
use Rattle.ep_base.specs.declared.names.Name.{Name}
use Rattle.ep_base.specs.declared.operators.CompareOp.{CompareOp}
use Rattle.ep_base.specs.declared.operators.LexOp.{LexOp}
use Rattle.ep_base.specs.declared.places.Place.{Place}
use Rattle.ep_tree.specs.Heights.{domain_height, end_height, height, highest, highest_domain, highest_generator, highest_index, highest_range, highest_term, index_height}
use Rattle.ep_tree.specs.Trees.{DomainTree, Domains, End, ExprTree, ExprTrees, Generators, IndexDomain, Indices, Ranges, Terms, absolute, all_different, all_of, any_of, at_least, at_most, binary, bool, chain, compare, comprehension, domain_and, end_at, every_and, factorial, flatten, folded, gcc, generator_and, group, group_domain, in_domain, in_set, index_and, int, lex, literal, matrix_domain, minus, named, named_domain, negation, no_domains, no_end, no_generators, no_indices, no_ranges, no_terms, no_trees, number, one_and, over, quantified, ranges, read, set_domain, span_and, table, term_and, to_int, tree_and, truth, unstated}
use Rattle.ep_tree.specs.declared.syntax.BinaryOp.{BinaryOp}
use Rattle.ep_tree.specs.declared.syntax.FoldOp.{FoldOp}
use Rattle.ep_tree.specs.declared.syntax.QuantOp.{QuantOp}
use Rattle.ep_tree.specs.declared.syntax.SetOp.{SetOp}

pub height-number : (place : Place) (op : ℤ) → height (number place op) ≡ 1
unfolding height
height-number _ _ = refl

pub height-truth : (place : Place) (op : Bool) → height (truth place op) ≡ 1
unfolding height
height-truth _ _ = refl

pub height-named : (place : Place) (op : Name) → height (named place op) ≡ 1
unfolding height
height-named _ _ = refl

pub height-group : (place : Place) (e : ExprTree) → height (group place e) ≡ 1 + height e
unfolding height
height-group _ _ = refl

pub height-negation : (place : Place) (e : ExprTree) → height (negation place e) ≡ 1 + height e
unfolding height
height-negation _ _ = refl

pub height-minus : (place : Place) (e : ExprTree) → height (minus place e) ≡ 1 + height e
unfolding height
height-minus _ _ = refl

pub height-absolute : (place : Place) (e : ExprTree) → height (absolute place e) ≡ 1 + height e
unfolding height
height-absolute _ _ = refl

pub height-to_int : (place : Place) (e : ExprTree) → height (to_int place e) ≡ 1 + height e
unfolding height
height-to_int _ _ = refl

pub height-factorial : (place : Place) (e : ExprTree) → height (factorial place e) ≡ 1 + height e
unfolding height
height-factorial _ _ = refl

pub height-flatten : (place : Place) (m : ExprTree) → height (flatten place m) ≡ 1 + height m
unfolding height
height-flatten _ _ = refl

pub height-chain : (place : Place) (terms : Terms) → height (chain place terms) ≡ 1 + highest_term terms
unfolding height
height-chain _ _ = refl

pub height-binary : (place : Place) (op : BinaryOp) (a : ExprTree) (b : ExprTree) → height (binary place op a b) ≡ 1 + max (height a) (height b)
unfolding height
height-binary _ _ _ _ = refl

pub height-compare : (place : Place) (op : CompareOp) (a : ExprTree) (b : ExprTree) → height (compare place op a b) ≡ 1 + max (height a) (height b)
unfolding height
height-compare _ _ _ _ = refl

pub height-lex : (place : Place) (op : LexOp) (a : ExprTree) (b : ExprTree) → height (lex place op a b) ≡ 1 + max (height a) (height b)
unfolding height
height-lex _ _ _ _ = refl

pub height-in_domain : (place : Place) (e : ExprTree) (d : DomainTree) → height (in_domain place e d) ≡ 1 + max (height e) (domain_height d)
unfolding height
height-in_domain _ _ _ = refl

pub height-in_set : (place : Place) (e : ExprTree) (m : ExprTree) → height (in_set place e m) ≡ 1 + max (height e) (height m)
unfolding height
height-in_set _ _ _ = refl

pub height-all_of : (place : Place) (parts : ExprTrees) → height (all_of place parts) ≡ 1 + highest parts
unfolding height
height-all_of _ _ = refl

pub height-any_of : (place : Place) (parts : ExprTrees) → height (any_of place parts) ≡ 1 + highest parts
unfolding height
height-any_of _ _ = refl

pub height-quantified : (place : Place) (op : QuantOp) (u : List Name) (d : DomainTree) (e : ExprTree) → height (quantified place op u d e) ≡ 1 + max (domain_height d) (height e)
unfolding height
height-quantified _ _ _ _ _ = refl

pub height-literal : (place : Place) (parts : ExprTrees) (d : IndexDomain) → height (literal place parts d) ≡ 1 + max (highest parts) (index_height d)
unfolding height
height-literal _ _ _ = refl

pub height-comprehension : (place : Place) (e : ExprTree) (gens : Generators) (conditions : ExprTrees) (d : IndexDomain) → height (comprehension place e gens conditions d) ≡ 1 + max (max (height e) (highest_generator gens)) (max (highest conditions) (index_height d))
unfolding height
height-comprehension _ _ _ _ _ = refl

pub height-read : (place : Place) (m : ExprTree) (indices : Indices) → height (read place m indices) ≡ 1 + max (height m) (highest_index indices)
unfolding height
height-read _ _ _ = refl

pub height-folded : (place : Place) (op : FoldOp) (m : ExprTree) → height (folded place op m) ≡ 1 + height m
unfolding height
height-folded _ _ _ = refl

pub height-all_different : (place : Place) (m : ExprTree) → height (all_different place m) ≡ 1 + height m
unfolding height
height-all_different _ _ = refl

pub height-gcc : (place : Place) (m : ExprTree) (values : ExprTree) (counts : ExprTree) → height (gcc place m values counts) ≡ 1 + max (height m) (max (height values) (height counts))
unfolding height
height-gcc _ _ _ _ = refl

pub height-at_least : (place : Place) (m : ExprTree) (counts : ExprTree) (values : ExprTree) → height (at_least place m counts values) ≡ 1 + max (height m) (max (height counts) (height values))
unfolding height
height-at_least _ _ _ _ = refl

pub height-at_most : (place : Place) (m : ExprTree) (counts : ExprTree) (values : ExprTree) → height (at_most place m counts values) ≡ 1 + max (height m) (max (height counts) (height values))
unfolding height
height-at_most _ _ _ _ = refl

pub height-table : (place : Place) (row : ExprTree) (rows : ExprTree) → height (table place row rows) ≡ 1 + max (height row) (height rows)
unfolding height
height-table _ _ _ = refl

pub domain_height-bool : (place : Place) → domain_height (bool place) ≡ 1
unfolding domain_height
domain_height-bool _ = refl

pub domain_height-int : (place : Place) → domain_height (int place) ≡ 1
unfolding domain_height
domain_height-int _ = refl

pub domain_height-ranges : (place : Place) (rs : Ranges) → domain_height (ranges place rs) ≡ 1 + highest_range rs
unfolding domain_height
domain_height-ranges _ _ = refl

pub domain_height-named_domain : (place : Place) (op : Name) → domain_height (named_domain place op) ≡ 1
unfolding domain_height
domain_height-named_domain _ _ = refl

pub domain_height-group_domain : (place : Place) (d : DomainTree) → domain_height (group_domain place d) ≡ 1 + domain_height d
unfolding domain_height
domain_height-group_domain _ _ = refl

pub domain_height-set_domain : (place : Place) (op : SetOp) (c : DomainTree) (d : DomainTree) → domain_height (set_domain place op c d) ≡ 1 + max (domain_height c) (domain_height d)
unfolding domain_height
domain_height-set_domain _ _ _ _ = refl

pub domain_height-matrix_domain : (place : Place) (ds : Domains) (d : DomainTree) → domain_height (matrix_domain place ds d) ≡ 1 + max (highest_domain ds) (domain_height d)
unfolding domain_height
domain_height-matrix_domain _ _ _ = refl

pub highest-no_trees : highest no_trees ≡ 0
unfolding highest
highest-no_trees = refl

pub highest-tree_and : (e : ExprTree) (es : ExprTrees) → highest (tree_and e es) ≡ max (height e) (highest es)
unfolding highest
highest-tree_and _ _ = refl

pub highest_term-no_terms : highest_term no_terms ≡ 0
unfolding highest_term
highest_term-no_terms = refl

pub highest_term-term_and : (place : Bool) (e : ExprTree) (terms : Terms) → highest_term (term_and place e terms) ≡ max (height e) (highest_term terms)
unfolding highest_term
highest_term-term_and _ _ _ = refl

pub highest_index-no_indices : highest_index no_indices ≡ 0
unfolding highest_index
highest_index-no_indices = refl

pub highest_index-every_and : (indices : Indices) → highest_index (every_and indices) ≡ highest_index indices
unfolding highest_index
highest_index-every_and _ = refl

pub highest_index-index_and : (e : ExprTree) (indices : Indices) → highest_index (index_and e indices) ≡ max (height e) (highest_index indices)
unfolding highest_index
highest_index-index_and _ _ = refl

pub highest_range-no_ranges : highest_range no_ranges ≡ 0
unfolding highest_range
highest_range-no_ranges = refl

pub highest_range-one_and : (e : ExprTree) (rs : Ranges) → highest_range (one_and e rs) ≡ max (height e) (highest_range rs)
unfolding highest_range
highest_range-one_and _ _ = refl

pub highest_range-span_and : (a : End) (b : End) (rs : Ranges) → highest_range (span_and a b rs) ≡ max (max (end_height a) (end_height b)) (highest_range rs)
unfolding highest_range
highest_range-span_and _ _ _ = refl

pub end_height-no_end : end_height no_end ≡ 0
unfolding end_height
end_height-no_end = refl

pub end_height-end_at : (e : ExprTree) → end_height (end_at e) ≡ height e
unfolding end_height
end_height-end_at _ = refl

pub highest_domain-no_domains : highest_domain no_domains ≡ 0
unfolding highest_domain
highest_domain-no_domains = refl

pub highest_domain-domain_and : (d : DomainTree) (ds : Domains) → highest_domain (domain_and d ds) ≡ max (domain_height d) (highest_domain ds)
unfolding highest_domain
highest_domain-domain_and _ _ = refl

pub highest_generator-no_generators : highest_generator no_generators ≡ 0
unfolding highest_generator
highest_generator-no_generators = refl

pub highest_generator-generator_and : (place : List Name) (d : DomainTree) (gens : Generators) → highest_generator (generator_and place d gens) ≡ max (domain_height d) (highest_generator gens)
unfolding highest_generator
highest_generator-generator_and _ _ _ = refl

pub index_height-unstated : index_height unstated ≡ 0
unfolding index_height
index_height-unstated = refl

pub index_height-over : (d : DomainTree) → index_height (over d) ≡ domain_height d
unfolding index_height
index_height-over _ = refl
