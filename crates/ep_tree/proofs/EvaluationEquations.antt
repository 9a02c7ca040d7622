-- One equation for each case of evaluation.
use Rattle.std.specs.Prelude.{◌≡◌, ℕ, Bool, true, not, ◌&&◌, List, [], ◌∷◌, map, ℤ, pos, neg_ℤ, if◌then◌else◌, Some, None, option_map, option_and_then, refl}
use Rattle.ep_base.specs.Numbers.{absolute_of, are_different, compare_holds, counts_hold, factorial_of, has_number, is_row_of, lex_holds, of_bool, sum_of}
use Rattle.ep_base.specs.Options.{map_both, on_both, on_three}
use Rattle.ep_base.specs.Runs.{counting}
use Rattle.ep_base.specs.declared.names.Name.{Name}
use Rattle.ep_base.specs.declared.operators.CompareOp.{CompareOp}
use Rattle.ep_base.specs.declared.operators.LexOp.{LexOp}
use Rattle.ep_base.specs.declared.places.Place.{Place}
use Rattle.ep_tree.specs.Domains.{between, put_in, set_values, truth_values, united}
use Rattle.ep_tree.specs.Environments.{Env, domain_bound, value_bound}
use Rattle.ep_tree.specs.Evaluation.{all_hold, all_joined, all_true, any_true, are_told, binary_value, domain_values, domains_defined, end_value, evaluate, folded_value, holding, index_list, index_values, matrix_value, number_in, number_value, over_names, quantified_value, range_values, reached, read_result, rows_in, scalars_in, signed, standing_for, term_values, truth_in, truth_of, type_in, values_of}
use Rattle.ep_tree.specs.Trees.{DomainTree, Domains, End, ExprTree, ExprTrees, Generators, IndexDomain, Indices, Ranges, Terms, absolute, all_different, all_of, any_of, at_least, at_most, binary, bool, chain, compare, comprehension, end_at, every_and, factorial, flatten, folded, gcc, generator_and, group, group_domain, in_domain, in_set, index_and, int, lex, literal, matrix_domain, minus, named, named_domain, negation, no_end, no_generators, no_indices, no_ranges, no_terms, no_trees, number, one_and, over, quantified, ranges, read, set_domain, span_and, table, term_and, to_int, tree_and, truth, unstated}
use Rattle.ep_tree.specs.Values.{all_defined, any_index, at_index, list_value, read_value, single}
use Rattle.ep_tree.specs.declared.syntax.BinaryOp.{BinaryOp}
use Rattle.ep_tree.specs.declared.syntax.FoldOp.{FoldOp}
use Rattle.ep_tree.specs.declared.syntax.QuantOp.{QuantOp}
use Rattle.ep_tree.specs.declared.syntax.SetOp.{SetOp}
use Rattle.ep_tree.specs.declared.values.Mode.{Mode}

pub evaluate-number : (mode : Mode) (env : Env) (place : Place) (n : ℤ) → evaluate mode env (number place n) ≡ Some (single n)
unfolding evaluate
evaluate-number _ _ _ _ = refl

pub evaluate-truth : (mode : Mode) (env : Env) (place : Place) (b : Bool) → evaluate mode env (truth place b) ≡ Some (single (of_bool b))
unfolding evaluate
evaluate-truth _ _ _ _ = refl

pub evaluate-named : (mode : Mode) (env : Env) (place : Place) (name : Name) → evaluate mode env (named place name) ≡ value_bound (env name)
unfolding evaluate
evaluate-named _ _ _ _ = refl

pub evaluate-group : (mode : Mode) (env : Env) (place : Place) (e : ExprTree) → evaluate mode env (group place e) ≡ evaluate mode env e
unfolding evaluate
evaluate-group _ _ _ _ = refl

pub evaluate-negation : (mode : Mode) (env : Env) (place : Place) (e : ExprTree) → evaluate mode env (negation place e) ≡ truth_in mode (option_map not (truth_of (evaluate mode env e)))
unfolding evaluate
evaluate-negation _ _ _ _ = refl

pub evaluate-minus : (mode : Mode) (env : Env) (place : Place) (e : ExprTree) → evaluate mode env (minus place e) ≡ number_value (option_map neg_ℤ (number_in (evaluate mode env e)))
unfolding evaluate
evaluate-minus _ _ _ _ = refl

pub evaluate-absolute : (mode : Mode) (env : Env) (place : Place) (e : ExprTree) → evaluate mode env (absolute place e) ≡ number_value (option_map absolute_of (number_in (evaluate mode env e)))
unfolding evaluate
evaluate-absolute _ _ _ _ = refl

pub evaluate-to_int : (mode : Mode) (env : Env) (place : Place) (e : ExprTree) → evaluate mode env (to_int place e) ≡ evaluate mode env e
unfolding evaluate
evaluate-to_int _ _ _ _ = refl

pub evaluate-factorial : (mode : Mode) (env : Env) (place : Place) (e : ExprTree) → evaluate mode env (factorial place e) ≡ number_value (option_and_then factorial_of (number_in (evaluate mode env e)))
unfolding evaluate
evaluate-factorial _ _ _ _ = refl

pub evaluate-flatten : (mode : Mode) (env : Env) (place : Place) (m : ExprTree) → evaluate mode env (flatten place m) ≡ option_map list_value (scalars_in (evaluate mode env m))
unfolding evaluate
evaluate-flatten _ _ _ _ = refl

pub evaluate-chain : (mode : Mode) (env : Env) (place : Place) (terms : Terms) → evaluate mode env (chain place terms) ≡ number_value (option_map sum_of (all_defined (term_values mode env terms)))
unfolding evaluate
evaluate-chain _ _ _ _ = refl

pub evaluate-binary : (mode : Mode) (env : Env) (place : Place) (op : BinaryOp) (a : ExprTree) (b : ExprTree) → evaluate mode env (binary place op a b) ≡ binary_value mode op (number_in (evaluate mode env a)) (number_in (evaluate mode env b))
unfolding evaluate
evaluate-binary _ _ _ _ _ _ = refl

pub evaluate-compare : (mode : Mode) (env : Env) (place : Place) (op : CompareOp) (a : ExprTree) (b : ExprTree) → evaluate mode env (compare place op a b) ≡ truth_in mode (map_both (compare_holds op) (number_in (evaluate mode env a)) (number_in (evaluate mode env b)))
unfolding evaluate
evaluate-compare _ _ _ _ _ _ = refl

pub evaluate-lex : (mode : Mode) (env : Env) (place : Place) (op : LexOp) (a : ExprTree) (b : ExprTree) → evaluate mode env (lex place op a b) ≡ truth_in mode (map_both (lex_holds op) (scalars_in (evaluate mode env a)) (scalars_in (evaluate mode env b)))
unfolding evaluate
evaluate-lex _ _ _ _ _ _ = refl

pub evaluate-in_domain : (mode : Mode) (env : Env) (place : Place) (e : ExprTree) (d : DomainTree) → evaluate mode env (in_domain place e d) ≡ truth_in mode (map_both has_number (domain_values mode env d) (number_in (evaluate mode env e)))
unfolding evaluate
evaluate-in_domain _ _ _ _ _ = refl

pub evaluate-in_set : (mode : Mode) (env : Env) (place : Place) (e : ExprTree) (m : ExprTree) → evaluate mode env (in_set place e m) ≡ truth_in mode (map_both has_number (scalars_in (evaluate mode env m)) (number_in (evaluate mode env e)))
unfolding evaluate
evaluate-in_set _ _ _ _ _ = refl

pub evaluate-all_of : (mode : Mode) (env : Env) (place : Place) (parts : ExprTrees) → evaluate mode env (all_of place parts) ≡ truth_in mode (all_true (values_of mode env parts))
unfolding evaluate
evaluate-all_of _ _ _ _ = refl

pub evaluate-any_of : (mode : Mode) (env : Env) (place : Place) (parts : ExprTrees) → evaluate mode env (any_of place parts) ≡ truth_in mode (any_true (values_of mode env parts))
unfolding evaluate
evaluate-any_of _ _ _ _ = refl

pub evaluate-quantified : (mode : Mode) (env : Env) (place : Place) (op : QuantOp) (names : List Name) (d : DomainTree) (e : ExprTree) → evaluate mode env (quantified place op names d e) ≡ over_names (standing_for d (λ inner. domain_values mode inner d)) (quantified_value mode op) (λ inner. evaluate mode inner e) names env
unfolding evaluate
evaluate-quantified _ _ _ _ _ _ _ = refl

pub evaluate-literal : (mode : Mode) (env : Env) (place : Place) (parts : ExprTrees) (d : IndexDomain) → evaluate mode env (literal place parts d) ≡ matrix_value (index_values mode env d) (values_of mode env parts)
unfolding evaluate
evaluate-literal _ _ _ _ _ = refl

pub evaluate-comprehension : (mode : Mode) (env : Env) (place : Place) (e : ExprTree) (gens : Generators) (conditions : ExprTrees) (d : IndexDomain) → evaluate mode env (comprehension place e gens conditions d) ≡ if domains_defined mode env gens && are_told (λ inner. values_of mode inner conditions) (reached mode env gens) then matrix_value (index_values mode env d) (map (λ inner. evaluate mode inner e) (holding (λ inner. values_of mode inner conditions) (reached mode env gens))) else None
unfolding evaluate
evaluate-comprehension _ _ _ _ _ _ _ = refl

pub evaluate-read : (mode : Mode) (env : Env) (p : Place) (m : ExprTree) (indices : Indices) → evaluate mode env (read p m indices) ≡ read_result mode (type_in env (read p m indices)) (on_both (index_list mode env indices) (evaluate mode env m) read_value)
unfolding evaluate
evaluate-read _ _ _ _ _ = refl

pub evaluate-folded : (mode : Mode) (env : Env) (place : Place) (op : FoldOp) (m : ExprTree) → evaluate mode env (folded place op m) ≡ folded_value mode op (scalars_in (evaluate mode env m))
unfolding evaluate
evaluate-folded _ _ _ _ _ = refl

pub evaluate-all_different : (mode : Mode) (env : Env) (place : Place) (m : ExprTree) → evaluate mode env (all_different place m) ≡ truth_in mode (option_map are_different (scalars_in (evaluate mode env m)))
unfolding evaluate
evaluate-all_different _ _ _ _ = refl

pub evaluate-gcc : (mode : Mode) (env : Env) (place : Place) (m : ExprTree) (values : ExprTree) (counts : ExprTree) → evaluate mode env (gcc place m values counts) ≡ truth_in mode (on_three (scalars_in (evaluate mode env m)) (scalars_in (evaluate mode env values)) (scalars_in (evaluate mode env counts)) (counts_hold CompareOp.Equal))
unfolding evaluate
evaluate-gcc _ _ _ _ _ _ = refl

pub evaluate-at_least : (mode : Mode) (env : Env) (place : Place) (m : ExprTree) (counts : ExprTree) (values : ExprTree) → evaluate mode env (at_least place m counts values) ≡ truth_in mode (on_three (scalars_in (evaluate mode env m)) (scalars_in (evaluate mode env values)) (scalars_in (evaluate mode env counts)) (counts_hold CompareOp.AtLeast))
unfolding evaluate
evaluate-at_least _ _ _ _ _ _ = refl

pub evaluate-at_most : (mode : Mode) (env : Env) (place : Place) (m : ExprTree) (counts : ExprTree) (values : ExprTree) → evaluate mode env (at_most place m counts values) ≡ truth_in mode (on_three (scalars_in (evaluate mode env m)) (scalars_in (evaluate mode env values)) (scalars_in (evaluate mode env counts)) (counts_hold CompareOp.AtMost))
unfolding evaluate
evaluate-at_most _ _ _ _ _ _ = refl

pub evaluate-table : (mode : Mode) (env : Env) (place : Place) (row : ExprTree) (rows : ExprTree) → evaluate mode env (table place row rows) ≡ truth_in mode (on_both (rows_in (evaluate mode env rows)) (scalars_in (evaluate mode env row)) is_row_of)
unfolding evaluate
evaluate-table _ _ _ _ _ = refl

pub domain_values-bool : (mode : Mode) (env : Env) (place : Place) → domain_values mode env (bool place) ≡ Some truth_values
unfolding domain_values
domain_values-bool _ _ _ = refl

pub domain_values-int : (mode : Mode) (env : Env) (place : Place) → domain_values mode env (int place) ≡ None
unfolding domain_values
domain_values-int _ _ _ = refl

pub domain_values-ranges : (mode : Mode) (env : Env) (place : Place) (rs : Ranges) → domain_values mode env (ranges place rs) ≡ range_values mode env rs
unfolding domain_values
domain_values-ranges _ _ _ _ = refl

pub domain_values-named_domain : (mode : Mode) (env : Env) (place : Place) (name : Name) → domain_values mode env (named_domain place name) ≡ domain_bound (env name)
unfolding domain_values
domain_values-named_domain _ _ _ _ = refl

pub domain_values-group_domain : (mode : Mode) (env : Env) (place : Place) (d : DomainTree) → domain_values mode env (group_domain place d) ≡ domain_values mode env d
unfolding domain_values
domain_values-group_domain _ _ _ _ = refl

pub domain_values-set_domain : (mode : Mode) (env : Env) (place : Place) (op : SetOp) (c : DomainTree) (d : DomainTree) → domain_values mode env (set_domain place op c d) ≡ map_both (set_values op) (domain_values mode env c) (domain_values mode env d)
unfolding domain_values
domain_values-set_domain _ _ _ _ _ _ = refl

pub domain_values-matrix_domain : (mode : Mode) (env : Env) (place : Place) (ds : Domains) (d : DomainTree) → domain_values mode env (matrix_domain place ds d) ≡ None
unfolding domain_values
domain_values-matrix_domain _ _ _ _ _ = refl

pub values_of-no_trees : (mode : Mode) (env : Env) → values_of mode env no_trees ≡ []
unfolding values_of
values_of-no_trees _ _ = refl

pub values_of-tree_and : (mode : Mode) (env : Env) (e : ExprTree) (es : ExprTrees) → values_of mode env (tree_and e es) ≡ evaluate mode env e ∷ values_of mode env es
unfolding values_of
values_of-tree_and _ _ _ _ = refl

pub term_values-no_terms : (mode : Mode) (env : Env) → term_values mode env no_terms ≡ []
unfolding term_values
term_values-no_terms _ _ = refl

pub term_values-term_and : (mode : Mode) (env : Env) (plus : Bool) (e : ExprTree) (terms : Terms) → term_values mode env (term_and plus e terms) ≡ option_map (signed plus) (number_in (evaluate mode env e)) ∷ term_values mode env terms
unfolding term_values
term_values-term_and _ _ _ _ _ = refl

pub index_list-no_indices : (mode : Mode) (env : Env) → index_list mode env no_indices ≡ Some []
unfolding index_list
index_list-no_indices _ _ = refl

pub index_list-every_and : (mode : Mode) (env : Env) (indices : Indices) → index_list mode env (every_and indices) ≡ option_map (λ is. any_index ∷ is) (index_list mode env indices)
unfolding index_list
index_list-every_and _ _ _ = refl

pub index_list-index_and : (mode : Mode) (env : Env) (e : ExprTree) (indices : Indices) → index_list mode env (index_and e indices) ≡ map_both (λ i is. at_index i ∷ is) (number_in (evaluate mode env e)) (index_list mode env indices)
unfolding index_list
index_list-index_and _ _ _ _ = refl

pub range_values-no_ranges : (mode : Mode) (env : Env) → range_values mode env no_ranges ≡ Some []
unfolding range_values
range_values-no_ranges _ _ = refl

pub range_values-one_and : (mode : Mode) (env : Env) (e : ExprTree) (rs : Ranges) → range_values mode env (one_and e rs) ≡ map_both put_in (number_in (evaluate mode env e)) (range_values mode env rs)
unfolding range_values
range_values-one_and _ _ _ _ = refl

pub range_values-span_and : (mode : Mode) (env : Env) (a : End) (b : End) (rs : Ranges) → range_values mode env (span_and a b rs) ≡ map_both united (map_both between (end_value mode env a) (end_value mode env b)) (range_values mode env rs)
unfolding range_values
range_values-span_and _ _ _ _ _ = refl

pub end_value-no_end : (mode : Mode) (env : Env) → end_value mode env no_end ≡ None
unfolding end_value
end_value-no_end _ _ = refl

pub end_value-end_at : (mode : Mode) (env : Env) (e : ExprTree) → end_value mode env (end_at e) ≡ number_in (evaluate mode env e)
unfolding end_value
end_value-end_at _ _ _ = refl

pub index_values-unstated : (mode : Mode) (env : Env) (count : ℕ) → index_values mode env unstated count ≡ Some (counting (pos 1) count)
unfolding index_values
index_values-unstated _ _ _ = refl

pub index_values-over : (mode : Mode) (env : Env) (d : DomainTree) (count : ℕ) → index_values mode env (over d) count ≡ domain_values mode env d
unfolding index_values
index_values-over _ _ _ _ = refl

pub reached-no_generators : (mode : Mode) (env : Env) → reached mode env no_generators ≡ env ∷ []
unfolding reached
reached-no_generators _ _ = refl

pub reached-generator_and : (mode : Mode) (env : Env) (names : List Name) (d : DomainTree) (gens : Generators) → reached mode env (generator_and names d gens) ≡ over_names (standing_for d (λ inner. domain_values mode inner d)) all_joined (λ inner. reached mode inner gens) names env
unfolding reached
reached-generator_and _ _ _ _ _ = refl

pub domains_defined-no_generators : (mode : Mode) (env : Env) → domains_defined mode env no_generators ≡ true
unfolding domains_defined
domains_defined-no_generators _ _ = refl

pub domains_defined-generator_and : (mode : Mode) (env : Env) (names : List Name) (d : DomainTree) (gens : Generators) → domains_defined mode env (generator_and names d gens) ≡ over_names (standing_for d (λ inner. domain_values mode inner d)) all_hold (λ inner. domains_defined mode inner gens) names env
unfolding domains_defined
domains_defined-generator_and _ _ _ _ _ = refl
