-- One equation for each case of reaches and of where decision variables stand.
use Rattle.std.specs.Prelude.{◌≡◌, Bool, false, ◌||◌, List, [], ◌∷◌, map, ℤ, Some, None, refl}
use Rattle.ep_base.specs.Intervals.{absolute_interval}
use Rattle.ep_base.specs.Numbers.{of_bool}
use Rattle.ep_base.specs.declared.names.Name.{Name}
use Rattle.ep_base.specs.declared.operators.CompareOp.{CompareOp}
use Rattle.ep_base.specs.declared.operators.LexOp.{LexOp}
use Rattle.ep_base.specs.declared.places.Place.{Place}
use Rattle.ep_tree.specs.Environments.{Env}
use Rattle.ep_tree.specs.Evaluation.{chosen, evaluate, index_values, number_in, numbered, over_names, type_in}
use Rattle.ep_tree.specs.Reach.{MeasuredIndex, binary_span, decisions_in, extent, extents_of, fixed_span, folded_span, generator_names, group_extent, hiding, holds_decision, index_holds_decision, matrix_extent, measured, measured_index, measured_list, named_extent, negated_span, one_holds_decision, quantified_span, read_extent, reads_cell, signed_span, span_of, sum_span, term_holds_decision, term_spans, truth_span, whole_index, wide_span}
use Rattle.ep_tree.specs.Trees.{DomainTree, ExprTree, ExprTrees, Generators, IndexDomain, Indices, Terms, absolute, all_different, all_of, any_of, at_least, at_most, binary, chain, compare, comprehension, every_and, factorial, flatten, folded, gcc, group, in_domain, in_set, index_and, lex, literal, minus, named, negation, no_indices, no_terms, no_trees, number, quantified, read, table, term_and, to_int, tree_and, truth}
use Rattle.ep_tree.specs.Values.{list_value, scalars_of, single}
use Rattle.ep_tree.specs.declared.syntax.BinaryOp.{BinaryOp}
use Rattle.ep_tree.specs.declared.syntax.FoldOp.{FoldOp}
use Rattle.ep_tree.specs.declared.syntax.QuantOp.{QuantOp}
use Rattle.ep_tree.specs.declared.values.Mode.{Mode}

pub holds_decision-number : (decided : (Name → Bool)) (place : Place) (n : ℤ) → holds_decision decided (number place n) ≡ false
unfolding holds_decision
holds_decision-number _ _ _ = refl

pub holds_decision-truth : (decided : (Name → Bool)) (place : Place) (b : Bool) → holds_decision decided (truth place b) ≡ false
unfolding holds_decision
holds_decision-truth _ _ _ = refl

pub holds_decision-named : (decided : (Name → Bool)) (place : Place) (name : Name) → holds_decision decided (named place name) ≡ decided name
unfolding holds_decision
holds_decision-named _ _ _ = refl

pub holds_decision-group : (decided : (Name → Bool)) (place : Place) (e : ExprTree) → holds_decision decided (group place e) ≡ holds_decision decided e
unfolding holds_decision
holds_decision-group _ _ _ = refl

pub holds_decision-negation : (decided : (Name → Bool)) (place : Place) (e : ExprTree) → holds_decision decided (negation place e) ≡ holds_decision decided e
unfolding holds_decision
holds_decision-negation _ _ _ = refl

pub holds_decision-minus : (decided : (Name → Bool)) (place : Place) (e : ExprTree) → holds_decision decided (minus place e) ≡ holds_decision decided e
unfolding holds_decision
holds_decision-minus _ _ _ = refl

pub holds_decision-absolute : (decided : (Name → Bool)) (place : Place) (e : ExprTree) → holds_decision decided (absolute place e) ≡ holds_decision decided e
unfolding holds_decision
holds_decision-absolute _ _ _ = refl

pub holds_decision-to_int : (decided : (Name → Bool)) (place : Place) (e : ExprTree) → holds_decision decided (to_int place e) ≡ holds_decision decided e
unfolding holds_decision
holds_decision-to_int _ _ _ = refl

pub holds_decision-factorial : (decided : (Name → Bool)) (place : Place) (e : ExprTree) → holds_decision decided (factorial place e) ≡ holds_decision decided e
unfolding holds_decision
holds_decision-factorial _ _ _ = refl

pub holds_decision-flatten : (decided : (Name → Bool)) (place : Place) (m : ExprTree) → holds_decision decided (flatten place m) ≡ holds_decision decided m
unfolding holds_decision
holds_decision-flatten _ _ _ = refl

pub holds_decision-chain : (decided : (Name → Bool)) (place : Place) (terms : Terms) → holds_decision decided (chain place terms) ≡ term_holds_decision decided terms
unfolding holds_decision
holds_decision-chain _ _ _ = refl

pub holds_decision-binary : (decided : (Name → Bool)) (place : Place) (op : BinaryOp) (a : ExprTree) (b : ExprTree) → holds_decision decided (binary place op a b) ≡ holds_decision decided a || holds_decision decided b
unfolding holds_decision
holds_decision-binary _ _ _ _ _ = refl

pub holds_decision-compare : (decided : (Name → Bool)) (place : Place) (op : CompareOp) (a : ExprTree) (b : ExprTree) → holds_decision decided (compare place op a b) ≡ holds_decision decided a || holds_decision decided b
unfolding holds_decision
holds_decision-compare _ _ _ _ _ = refl

pub holds_decision-lex : (decided : (Name → Bool)) (place : Place) (op : LexOp) (a : ExprTree) (b : ExprTree) → holds_decision decided (lex place op a b) ≡ holds_decision decided a || holds_decision decided b
unfolding holds_decision
holds_decision-lex _ _ _ _ _ = refl

pub holds_decision-in_domain : (decided : (Name → Bool)) (place : Place) (e : ExprTree) (d : DomainTree) → holds_decision decided (in_domain place e d) ≡ holds_decision decided e
unfolding holds_decision
holds_decision-in_domain _ _ _ _ = refl

pub holds_decision-in_set : (decided : (Name → Bool)) (place : Place) (e : ExprTree) (m : ExprTree) → holds_decision decided (in_set place e m) ≡ holds_decision decided e || holds_decision decided m
unfolding holds_decision
holds_decision-in_set _ _ _ _ = refl

pub holds_decision-all_of : (decided : (Name → Bool)) (place : Place) (parts : ExprTrees) → holds_decision decided (all_of place parts) ≡ one_holds_decision decided parts
unfolding holds_decision
holds_decision-all_of _ _ _ = refl

pub holds_decision-any_of : (decided : (Name → Bool)) (place : Place) (parts : ExprTrees) → holds_decision decided (any_of place parts) ≡ one_holds_decision decided parts
unfolding holds_decision
holds_decision-any_of _ _ _ = refl

pub holds_decision-quantified : (decided : (Name → Bool)) (place : Place) (op : QuantOp) (names : List Name) (d : DomainTree) (e : ExprTree) → holds_decision decided (quantified place op names d e) ≡ holds_decision (hiding names decided) e
unfolding holds_decision
holds_decision-quantified _ _ _ _ _ _ = refl

pub holds_decision-literal : (decided : (Name → Bool)) (place : Place) (parts : ExprTrees) (index : IndexDomain) → holds_decision decided (literal place parts index) ≡ one_holds_decision decided parts
unfolding holds_decision
holds_decision-literal _ _ _ _ = refl

pub holds_decision-comprehension : (decided : (Name → Bool)) (place : Place) (e : ExprTree) (gens : Generators) (es : ExprTrees) (index : IndexDomain) → holds_decision decided (comprehension place e gens es index) ≡ holds_decision (hiding (generator_names gens) decided) e
unfolding holds_decision
holds_decision-comprehension _ _ _ _ _ _ = refl

pub holds_decision-read : (decided : (Name → Bool)) (place : Place) (m : ExprTree) (indices : Indices) → holds_decision decided (read place m indices) ≡ holds_decision decided m || index_holds_decision decided indices
unfolding holds_decision
holds_decision-read _ _ _ _ = refl

pub holds_decision-folded : (decided : (Name → Bool)) (place : Place) (op : FoldOp) (m : ExprTree) → holds_decision decided (folded place op m) ≡ holds_decision decided m
unfolding holds_decision
holds_decision-folded _ _ _ _ = refl

pub holds_decision-all_different : (decided : (Name → Bool)) (place : Place) (m : ExprTree) → holds_decision decided (all_different place m) ≡ holds_decision decided m
unfolding holds_decision
holds_decision-all_different _ _ _ = refl

pub holds_decision-gcc : (decided : (Name → Bool)) (place : Place) (m : ExprTree) (values : ExprTree) (counts : ExprTree) → holds_decision decided (gcc place m values counts) ≡ holds_decision decided m || holds_decision decided values || holds_decision decided counts
unfolding holds_decision
holds_decision-gcc _ _ _ _ _ = refl

pub holds_decision-at_least : (decided : (Name → Bool)) (place : Place) (m : ExprTree) (counts : ExprTree) (values : ExprTree) → holds_decision decided (at_least place m counts values) ≡ holds_decision decided m || holds_decision decided counts || holds_decision decided values
unfolding holds_decision
holds_decision-at_least _ _ _ _ _ = refl

pub holds_decision-at_most : (decided : (Name → Bool)) (place : Place) (m : ExprTree) (counts : ExprTree) (values : ExprTree) → holds_decision decided (at_most place m counts values) ≡ holds_decision decided m || holds_decision decided counts || holds_decision decided values
unfolding holds_decision
holds_decision-at_most _ _ _ _ _ = refl

pub holds_decision-table : (decided : (Name → Bool)) (place : Place) (row : ExprTree) (rows : ExprTree) → holds_decision decided (table place row rows) ≡ holds_decision decided row || holds_decision decided rows
unfolding holds_decision
holds_decision-table _ _ _ _ = refl

pub one_holds_decision-no_trees : (decided : (Name → Bool)) → one_holds_decision decided no_trees ≡ false
unfolding one_holds_decision
one_holds_decision-no_trees _ = refl

pub one_holds_decision-tree_and : (decided : (Name → Bool)) (e : ExprTree) (es : ExprTrees) → one_holds_decision decided (tree_and e es) ≡ holds_decision decided e || one_holds_decision decided es
unfolding one_holds_decision
one_holds_decision-tree_and _ _ _ = refl

pub term_holds_decision-no_terms : (decided : (Name → Bool)) → term_holds_decision decided no_terms ≡ false
unfolding term_holds_decision
term_holds_decision-no_terms _ = refl

pub term_holds_decision-term_and : (decided : (Name → Bool)) (b : Bool) (e : ExprTree) (terms : Terms) → term_holds_decision decided (term_and b e terms) ≡ holds_decision decided e || term_holds_decision decided terms
unfolding term_holds_decision
term_holds_decision-term_and _ _ _ _ = refl

pub index_holds_decision-no_indices : (decided : (Name → Bool)) → index_holds_decision decided no_indices ≡ false
unfolding index_holds_decision
index_holds_decision-no_indices _ = refl

pub index_holds_decision-every_and : (decided : (Name → Bool)) (indices : Indices) → index_holds_decision decided (every_and indices) ≡ index_holds_decision decided indices
unfolding index_holds_decision
index_holds_decision-every_and _ _ = refl

pub index_holds_decision-index_and : (decided : (Name → Bool)) (e : ExprTree) (indices : Indices) → index_holds_decision decided (index_and e indices) ≡ holds_decision decided e || index_holds_decision decided indices
unfolding index_holds_decision
index_holds_decision-index_and _ _ _ = refl

pub extent-number : (mode : Mode) (env : Env) (p : Place) (n : ℤ) → extent mode env (number p n) ≡ single (fixed_span (Some n))
unfolding extent
extent-number _ _ _ _ = refl

pub extent-truth : (mode : Mode) (env : Env) (p : Place) (b : Bool) → extent mode env (truth p b) ≡ single (fixed_span (Some (of_bool b)))
unfolding extent
extent-truth _ _ _ _ = refl

pub extent-named : (mode : Mode) (env : Env) (p : Place) (name : Name) → extent mode env (named p name) ≡ measured mode env (named p name) (named_extent (env name))
unfolding extent
extent-named _ _ _ _ = refl

pub extent-group : (mode : Mode) (env : Env) (p : Place) (e : ExprTree) → extent mode env (group p e) ≡ measured mode env (group p e) (group_extent (type_in env e) (extent mode env e))
unfolding extent
extent-group _ _ _ _ = refl

pub extent-negation : (mode : Mode) (env : Env) (p : Place) (e : ExprTree) → extent mode env (negation p e) ≡ measured mode env (negation p e) (single truth_span)
unfolding extent
extent-negation _ _ _ _ = refl

pub extent-minus : (mode : Mode) (env : Env) (p : Place) (e : ExprTree) → extent mode env (minus p e) ≡ measured mode env (minus p e) (single (negated_span (span_of (extent mode env e))))
unfolding extent
extent-minus _ _ _ _ = refl

pub extent-absolute : (mode : Mode) (env : Env) (p : Place) (e : ExprTree) → extent mode env (absolute p e) ≡ measured mode env (absolute p e) (single (wide_span (absolute_interval (span_of (extent mode env e)).reach)))
unfolding extent
extent-absolute _ _ _ _ = refl

pub extent-to_int : (mode : Mode) (env : Env) (p : Place) (e : ExprTree) → extent mode env (to_int p e) ≡ measured mode env (to_int p e) (single truth_span)
unfolding extent
extent-to_int _ _ _ _ = refl

pub extent-factorial : (mode : Mode) (env : Env) (p : Place) (e : ExprTree) → extent mode env (factorial p e) ≡ measured mode env (factorial p e) (single (fixed_span None))
unfolding extent
extent-factorial _ _ _ _ = refl

pub extent-flatten : (mode : Mode) (env : Env) (p : Place) (m : ExprTree) → extent mode env (flatten p m) ≡ measured mode env (flatten p m) (list_value (scalars_of (extent mode env m)))
unfolding extent
extent-flatten _ _ _ _ = refl

pub extent-chain : (mode : Mode) (env : Env) (p : Place) (terms : Terms) → extent mode env (chain p terms) ≡ measured mode env (chain p terms) (single (sum_span (term_spans mode env terms)))
unfolding extent
extent-chain _ _ _ _ = refl

pub extent-binary : (mode : Mode) (env : Env) (p : Place) (op : BinaryOp) (a : ExprTree) (b : ExprTree) → extent mode env (binary p op a b) ≡ measured mode env (binary p op a b) (single (binary_span op (span_of (extent mode env a)) (span_of (extent mode env b)) (number_in (evaluate mode env b))))
unfolding extent
extent-binary _ _ _ _ _ _ = refl

pub extent-compare : (mode : Mode) (env : Env) (p : Place) (op : CompareOp) (a : ExprTree) (b : ExprTree) → extent mode env (compare p op a b) ≡ measured mode env (compare p op a b) (single truth_span)
unfolding extent
extent-compare _ _ _ _ _ _ = refl

pub extent-lex : (mode : Mode) (env : Env) (p : Place) (op : LexOp) (a : ExprTree) (b : ExprTree) → extent mode env (lex p op a b) ≡ measured mode env (lex p op a b) (single truth_span)
unfolding extent
extent-lex _ _ _ _ _ _ = refl

pub extent-in_domain : (mode : Mode) (env : Env) (p : Place) (e : ExprTree) (d : DomainTree) → extent mode env (in_domain p e d) ≡ measured mode env (in_domain p e d) (single truth_span)
unfolding extent
extent-in_domain _ _ _ _ _ = refl

pub extent-in_set : (mode : Mode) (env : Env) (p : Place) (e : ExprTree) (m : ExprTree) → extent mode env (in_set p e m) ≡ measured mode env (in_set p e m) (single truth_span)
unfolding extent
extent-in_set _ _ _ _ _ = refl

pub extent-all_of : (mode : Mode) (env : Env) (p : Place) (parts : ExprTrees) → extent mode env (all_of p parts) ≡ measured mode env (all_of p parts) (single truth_span)
unfolding extent
extent-all_of _ _ _ _ = refl

pub extent-any_of : (mode : Mode) (env : Env) (p : Place) (parts : ExprTrees) → extent mode env (any_of p parts) ≡ measured mode env (any_of p parts) (single truth_span)
unfolding extent
extent-any_of _ _ _ _ = refl

pub extent-quantified : (mode : Mode) (env : Env) (p : Place) (op : QuantOp) (names : List Name) (d : DomainTree) (e : ExprTree) → extent mode env (quantified p op names d e) ≡ measured mode env (quantified p op names d e) (single (over_names (numbered mode d) (quantified_span op) (λ inner. span_of (extent mode inner e)) names env))
unfolding extent
extent-quantified _ _ _ _ _ _ _ = refl

pub extent-literal : (mode : Mode) (env : Env) (p : Place) (parts : ExprTrees) (d : IndexDomain) → extent mode env (literal p parts d) ≡ measured mode env (literal p parts d) (matrix_extent (index_values mode env d) (extents_of mode env parts))
unfolding extent
extent-literal _ _ _ _ _ = refl

pub extent-comprehension : (mode : Mode) (env : Env) (p : Place) (e : ExprTree) (gens : Generators) (conditions : ExprTrees) (d : IndexDomain) → extent mode env (comprehension p e gens conditions d) ≡ measured mode env (comprehension p e gens conditions d) (matrix_extent (index_values mode env d) (map (λ inner. extent mode inner e) (chosen mode env gens conditions)))
unfolding extent
extent-comprehension _ _ _ _ _ _ _ = refl

pub extent-read : (mode : Mode) (env : Env) (p : Place) (m : ExprTree) (indices : Indices) → extent mode env (read p m indices) ≡ let is : List MeasuredIndex = measured_list mode env indices in measured mode env (read p m indices) (read_extent (type_in env (read p m indices)) (reads_cell env m is) is (extent mode env m))
unfolding extent
extent-read _ _ _ _ _ = refl

pub extent-folded : (mode : Mode) (env : Env) (p : Place) (op : FoldOp) (m : ExprTree) → extent mode env (folded p op m) ≡ measured mode env (folded p op m) (single (folded_span op (scalars_of (extent mode env m))))
unfolding extent
extent-folded _ _ _ _ _ = refl

pub extent-all_different : (mode : Mode) (env : Env) (p : Place) (m : ExprTree) → extent mode env (all_different p m) ≡ measured mode env (all_different p m) (single truth_span)
unfolding extent
extent-all_different _ _ _ _ = refl

pub extent-gcc : (mode : Mode) (env : Env) (p : Place) (m : ExprTree) (values : ExprTree) (counts : ExprTree) → extent mode env (gcc p m values counts) ≡ measured mode env (gcc p m values counts) (single truth_span)
unfolding extent
extent-gcc _ _ _ _ _ _ = refl

pub extent-at_least : (mode : Mode) (env : Env) (p : Place) (m : ExprTree) (counts : ExprTree) (values : ExprTree) → extent mode env (at_least p m counts values) ≡ measured mode env (at_least p m counts values) (single truth_span)
unfolding extent
extent-at_least _ _ _ _ _ _ = refl

pub extent-at_most : (mode : Mode) (env : Env) (p : Place) (m : ExprTree) (counts : ExprTree) (values : ExprTree) → extent mode env (at_most p m counts values) ≡ measured mode env (at_most p m counts values) (single truth_span)
unfolding extent
extent-at_most _ _ _ _ _ _ = refl

pub extent-table : (mode : Mode) (env : Env) (p : Place) (row : ExprTree) (rows : ExprTree) → extent mode env (table p row rows) ≡ measured mode env (table p row rows) (single truth_span)
unfolding extent
extent-table _ _ _ _ _ = refl

pub extents_of-no_trees : (mode : Mode) (env : Env) → extents_of mode env no_trees ≡ []
unfolding extents_of
extents_of-no_trees _ _ = refl

pub extents_of-tree_and : (mode : Mode) (env : Env) (e : ExprTree) (es : ExprTrees) → extents_of mode env (tree_and e es) ≡ extent mode env e ∷ extents_of mode env es
unfolding extents_of
extents_of-tree_and _ _ _ _ = refl

pub term_spans-no_terms : (mode : Mode) (env : Env) → term_spans mode env no_terms ≡ []
unfolding term_spans
term_spans-no_terms _ _ = refl

pub term_spans-term_and : (mode : Mode) (env : Env) (plus : Bool) (e : ExprTree) (terms : Terms) → term_spans mode env (term_and plus e terms) ≡ signed_span plus (span_of (extent mode env e)) ∷ term_spans mode env terms
unfolding term_spans
term_spans-term_and _ _ _ _ _ = refl

pub measured_list-no_indices : (mode : Mode) (env : Env) → measured_list mode env no_indices ≡ []
unfolding measured_list
measured_list-no_indices _ _ = refl

pub measured_list-every_and : (mode : Mode) (env : Env) (indices : Indices) → measured_list mode env (every_and indices) ≡ whole_index ∷ measured_list mode env indices
unfolding measured_list
measured_list-every_and _ _ _ = refl

pub measured_list-index_and : (mode : Mode) (env : Env) (e : ExprTree) (indices : Indices) → measured_list mode env (index_and e indices) ≡ measured_index (holds_decision (decisions_in env) e) (span_of (extent mode env e)) (number_in (evaluate mode env e)) ∷ measured_list mode env indices
unfolding measured_list
measured_list-index_and _ _ _ _ = refl
