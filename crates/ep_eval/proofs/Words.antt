-- The words of other modules that the proofs of this crate name.
pub use Rattle.ep_base.proofs.Ascending.{ascending_cons, ascending_lists_are_equal}
pub use Rattle.ep_base.proofs.RunSteps.{in_numbers, numbers_ascend}
pub use Rattle.ep_base.proofs.Small.{no_some, some_is}
pub use Rattle.ep_base.specs.Numbers.{absolute_of, greatest_of, least_of, lex_holds, nth_power}
unfoldable pub use Rattle.ep_base.specs.Numbers.{all_one, any_one, are_different, compare_holds, counts_hold, factorial_of, has_number, is_one, is_row_of, lex_less, of_bool, power, product_of, product_to, same_numbers, sum_of, times_in}
unfoldable pub use Rattle.ep_base.specs.Options.{map_both, on_both, on_three}
pub use Rattle.ep_base.specs.Reads.{IsWithinNumbers, is_too_far}
pub use Rattle.ep_base.specs.Runs.{AreApart, IsAscending, IsIn, or_zero}
unfoldable pub use Rattle.ep_base.specs.Runs.{counting, numbers, numbers_in}
pub use Rattle.ep_base.specs.declared.names.Name.{Name}
pub use Rattle.ep_base.specs.declared.operators.CompareOp.{CompareOp}
pub use Rattle.ep_base.specs.declared.operators.LexOp.{LexOp}
pub use Rattle.ep_base.specs.declared.places.Place.{Place}
pub use Rattle.ep_base.specs.declared.run_lists.Run.{Run}
pub use Rattle.ep_eval.specs.Bounds.{domain_of, entry_bound}
unfoldable pub use Rattle.ep_eval.specs.Bounds.{bound_of, only_domain, only_value}
pub use Rattle.ep_eval.specs.Counting.{Counted, Gives, is_far_value}
unfoldable pub use Rattle.ep_eval.specs.Counting.{IsWithin, of_all, together, undefined_binary}
pub use Rattle.ep_eval.specs.EnvInside.{known_of}
pub use Rattle.ep_eval.specs.Folding.{GivesAt}
unfoldable pub use Rattle.ep_eval.specs.Folding.{folded_numbers}
unfoldable pub use Rattle.ep_eval.specs.Gathering.{IsSmall, gathered_of, gathered_with_more, none_at_all, nothing_yet, worth}
pub use Rattle.ep_eval.specs.Generating.{nodes_at, nodes_of, parts_at, parts_of, ranging_over}
unfoldable pub use Rattle.ep_eval.specs.Generating.{generated_values, how_many, listed_nodes, lists_joined, nodes_where, part_nodes, part_value, part_where, some_joined}
pub use Rattle.ep_eval.specs.Helds.{seen_held}
unfoldable pub use Rattle.ep_eval.specs.Helds.{held_value}
pub use Rattle.ep_eval.specs.Instances.{instance_env, instance_nodes, instance_value}
pub use Rattle.ep_eval.specs.Judging.{all_pass, domain_type_at, type_at}
unfoldable pub use Rattle.ep_eval.specs.Judging.{flattened, fold_part, fold_type, join_part, join_type, list_of, matrix_over, name_scalar, passes, quantified_part, read_of, scalar_or, set_of_both, type_if, type_of_quantifier}
pub use Rattle.ep_eval.specs.Known.{HasAscendingDomains, KnownNames, env_of}
unfoldable pub use Rattle.ep_eval.specs.Known.{StandsUnderName}
pub use Rattle.ep_eval.specs.Literals.{listed_in}
pub use Rattle.ep_eval.specs.Meters.{Counts, Going, IsPassed, Passes, SettlesWorth, Told, Walked, Walking, Went, has_far}
unfoldable pub use Rattle.ep_eval.specs.Meters.{IsMadeOf, IsWorth, is_far_worth}
unfoldable pub use Rattle.ep_eval.specs.Outcomes.{seen_value}
pub use Rattle.ep_eval.specs.Ranges.{alone, has_in, run_has, runs_have}
unfoldable pub use Rattle.ep_eval.specs.Reading.{IsStatedFirst, part_under, with_index}
pub use Rattle.ep_eval.specs.Scalars.{scalar_if}
unfoldable pub use Rattle.ep_eval.specs.Scalars.{is_of_booleans}
pub use Rattle.ep_eval.specs.Scopes.{env_in, mode_in}
unfoldable pub use Rattle.ep_eval.specs.Scopes.{number_or_value, with_all}
pub use Rattle.ep_eval.specs.Typing.{context_in, inside_names, readings, typed_meaning}
unfoldable pub use Rattle.ep_eval.specs.Typing.{AreNamesTyped, meaning_or, with_typed}
pub use Rattle.ep_eval.specs.Walking.{IsFilled, IsWalk, numbers_left}
unfoldable pub use Rattle.ep_eval.specs.Walking.{IsFilledIn, IsWalkBehind, before_rest, left_in}
pub use Rattle.ep_eval.specs.Worths.{own_number}
unfoldable pub use Rattle.ep_eval.specs.Worths.{count_value, one_numbers, one_value, two_value}
pub use Rattle.ep_eval.specs.declared.errors.EvalError.{EvalError}
pub use Rattle.ep_eval.specs.declared.errors.EvalError.TheVariants.{Limit, Memory}
pub use Rattle.ep_eval.specs.declared.gathering.Gathered.{Gathered}
pub use Rattle.ep_eval.specs.declared.gathering.Gathered.TheVariants.{Total, Truths}
pub use Rattle.ep_eval.specs.declared.generating.Ranging.{Ranging}
pub use Rattle.ep_eval.specs.declared.held.Held.{Held}
pub use Rattle.ep_eval.specs.declared.meter.Meter.{Meter}
pub use Rattle.ep_eval.specs.declared.rules.Wanted.{Wanted}
pub use Rattle.ep_eval.specs.declared.within.TypedName.{TypedName}
pub use Rattle.ep_eval.specs.declared.worth.Worth.{Worth}
pub use Rattle.ep_eval.specs.declared.worth.Worth.TheVariants.{Far, Seen}
pub use Rattle.ep_forms.proofs.Depths.{deeper, first_generator, first_within, second_within}
pub use Rattle.ep_forms.specs.Forms.{quantified_tree}
unfoldable pub use Rattle.ep_forms.specs.Forms.{counts_node, form_tree, index_at, one_node, truths_node, two_node}
pub use Rattle.ep_forms.specs.Ranks.{depth_of, generators_depth, greater, listing_depth, walk_rank}
unfoldable pub use Rattle.ep_forms.specs.Ranks.{IsBelow, end_depth, index_depth}
pub use Rattle.ep_forms.specs.declared.forms.CountOp.{CountOp}
pub use Rattle.ep_forms.specs.declared.forms.OneOp.{OneOp}
pub use Rattle.ep_forms.specs.declared.forms.OneOp.TheVariants.{Abs, AllDiff, Factorial, Flatten, Fold, Group, Neg, Not, ToInt}
pub use Rattle.ep_forms.specs.declared.forms.TwoOp.{TwoOp}
pub use Rattle.ep_forms.specs.declared.forms.TwoOp.TheVariants.{Binary, Compare, InSet, Lex, Table}
pub use Rattle.ep_numbers.proofs.Counting.{counting_first, counting_more, counting_step}
pub use Rattle.ep_numbers.proofs.Ends.{absolute_is, untold_far}
pub use Rattle.ep_numbers.proofs.PowerLaws.{abs_far, far_abs, least_one, near_abs, near_one, times_fits}
pub use Rattle.ep_tree.proofs.DomainLaws.{between-has, put_in-has, set_values-has, united-has}
pub use Rattle.ep_tree.proofs.EvaluationEquations.{evaluate-chain, evaluate-comprehension, evaluate-literal, evaluate-named, evaluate-number, evaluate-read, evaluate-truth}
pub use Rattle.ep_tree.proofs.SortedDomains.{domain_values-ascend}
pub use Rattle.ep_tree.proofs.TypeEquations.{judge-absolute, judge-all_different, judge-all_of, judge-any_of, judge-at_least, judge-at_most, judge-binary, judge-chain, judge-compare, judge-comprehension, judge-factorial, judge-flatten, judge-folded, judge-gcc, judge-group, judge-in_domain, judge-in_set, judge-lex, judge-literal, judge-minus, judge-named, judge-negation, judge-number, judge-quantified, judge-read, judge-table, judge-to_int, judge-truth, judge_domain-bool, judge_domain-group_domain, judge_domain-int, judge_domain-matrix_domain, judge_domain-named_domain, judge_domain-ranges, judge_domain-set_domain}
pub use Rattle.ep_tree.proofs.ViewLemmas.{domain_kind_tree-bool, domain_kind_tree-group, domain_kind_tree-int, domain_kind_tree-matrix, domain_kind_tree-named, domain_kind_tree-ranges, domain_kind_tree-set, kind_tree-absolute, kind_tree-all_different, kind_tree-all_of, kind_tree-any_of, kind_tree-at_least, kind_tree-at_most, kind_tree-binary, kind_tree-chain, kind_tree-compare, kind_tree-comprehension, kind_tree-factorial, kind_tree-flatten, kind_tree-folded, kind_tree-gcc, kind_tree-group, kind_tree-in_domain, kind_tree-in_set, kind_tree-lex, kind_tree-literal, kind_tree-minus, kind_tree-named, kind_tree-negation, kind_tree-number, kind_tree-quantified, kind_tree-read, kind_tree-table, kind_tree-to_int, kind_tree-truth, value_tree-matrix, value_tree-number, with_range-one, with_range-span}
unfoldable pub use Rattle.ep_tree.proofs.ViewLemmas.{index_of}
pub use Rattle.ep_tree.specs.Domains.{put_in, set_has, set_values, united}
unfoldable pub use Rattle.ep_tree.specs.Domains.{between, count_between}
pub use Rattle.ep_tree.specs.Environments.{Bound, Env, has_cells, has_domain, has_value}
unfoldable pub use Rattle.ep_tree.specs.Environments.{HasAscendingDomain, context_of, domain_bound, meaning_in, scalar_in, shape_type, value_bound, with_number}
pub use Rattle.ep_tree.specs.Evaluation.{all_numbers, chosen, number_value, numbered, rows_in, scalars_in, truth_of}
unfoldable pub use Rattle.ep_tree.specs.Evaluation.{all_hold, all_joined, all_true, any_true, are_told, binary_number, binary_value, domain_values, domains_defined, end_value, evaluate, folded_value, holding, index_list, index_values, joins_truths, matrix_value, number_in, over_names, quantified_value, range_values, reached, read_result, signed, standing_for, term_values, truth_in, type_in, undefined_truth, values_of}
pub use Rattle.ep_tree.specs.Limits.{MOST_SIZE}
unfoldable pub use Rattle.ep_tree.specs.Limits.{counted_domain, counted_value, limits_of_values, numbers_at, products_from, within}
pub use Rattle.ep_tree.specs.Measures.{Met, a_generator, a_node, met_end}
unfoldable pub use Rattle.ep_tree.specs.Measures.{met, met_all, met_domain, met_domains, met_generators, met_index, met_indices, met_names, met_ranges, met_terms}
pub use Rattle.ep_tree.specs.Names.{nothing_known, put}
pub use Rattle.ep_tree.specs.Trees.{DomainTree, Domains, ExprTree, ExprTrees, Generators, IndexDomain, Indices, Ranges, Terms, absolute, all_different, all_of, any_of, at_least, at_most, binary, bool, chain, compare, comprehension, factorial, flatten, folded, gcc, generator_and, group, group_domain, in_domain, in_set, int, lex, literal, matrix_domain, minus, named, named_domain, negation, no_generators, no_ranges, number, quantified, ranges, read, set_domain, table, to_int, truth}
unfoldable pub use Rattle.ep_tree.specs.TypedValues.{IsTypedBound}
pub use Rattle.ep_tree.specs.Types.{Context, Judged, a_value, has_dimensions, is_matrix, is_matrix_of_bool, judge, left_type, mistyped, stated_dimensions, typed, untyped}
unfoldable pub use Rattle.ep_tree.specs.Types.{all_typed, are_lists, binary_type, both_scalars, can_index, comprehension_type, folded_type, from_all, from_many, from_one, from_three, from_two, gives, indexed_type, inside, inside_all, is_boolean, is_integer, judge_all, judge_domain, judge_domains, judge_end, judge_generators, judge_index, judge_indices, judge_ranges, judge_terms, list_of_matrices, list_type, matrix_type, named_domain_type, named_type, of_scalar, quantified_name, read_type, reading_contexts, scalar_of, slice_count, type_from}
pub use Rattle.ep_tree.specs.Values.{Index, ValueTree, any_index, at_index, indices_in, matrix, single, value_and}
unfoldable pub use Rattle.ep_tree.specs.Values.{all_defined, as_parts, index_in, list_value, listed_values, part_at, read_value, rows_of, scalars_of, scalars_of_all, with_indices}
pub use Rattle.ep_tree.specs.Views.{domain_kind_tree, domain_tree, expr_tree, held_end, kind_tree, value_tree}
unfoldable pub use Rattle.ep_tree.specs.Views.{domains_of, end_of, expr_trees, generators_of, indices_of, ranges_of, terms_of, values_from, with_range}
pub use Rattle.ep_tree.specs.declared.syntax.BinaryOp.{BinaryOp}
pub use Rattle.ep_tree.specs.declared.syntax.Domain.{Domain, size-Domain}
pub use Rattle.ep_tree.specs.declared.syntax.DomainKind.TheViews.{sized-Span}
pub use Rattle.ep_tree.specs.declared.syntax.Expr.{Expr, size-Expr}
pub use Rattle.ep_tree.specs.declared.syntax.FoldOp.{FoldOp}
pub use Rattle.ep_tree.specs.declared.syntax.Generator.{Generator, size-Generator}
pub use Rattle.ep_tree.specs.declared.syntax.Kind.{Comprehension, Kind, Quant}
pub use Rattle.ep_tree.specs.declared.syntax.QuantOp.{QuantOp}
pub use Rattle.ep_tree.specs.declared.syntax.Range.{One, One', Range, Span, Span', size-Range}
pub use Rattle.ep_tree.specs.declared.syntax.SetOp.{SetOp}
pub use Rattle.ep_tree.specs.declared.values.Mode.{Mode}
pub use Rattle.ep_tree.specs.declared.values.Scalar.{Scalar}
pub use Rattle.ep_tree.specs.declared.values.Value.{Value}
pub use Rattle.ep_tree.specs.declared.values.Value.TheVariants.{Number}
pub use Rattle.ep_tree.specs.declared.values.ValueType.{ValueType}
pub use Rattle.ep_types_rules.proofs.RuleSteps.{next_is}
pub use Rattle.std.proofs.Common.{Bool, FitsSigned, List, None, OnOk, Option, SFits, Some, [], add-one, add-zero, ap, append-nil, append_assoc, ap₂, arith, drop, false, fold, get_or, if◌then◌else◌, inl, inr, length, lit<, map, nat_eq, negsuc, not, of_z, option_map, pos, refl, rules, subst, suc, sym, take, to_z, true, vec_len, w64, zero, ℕ, ℤ, ◌%◌, ◌&&◌, ◌*ℤ◌, ◌*◌, ◌++◌, ◌+ℤ◌, ◌+◌, ◌-ℤ◌, ◌-◌, ◌<ℤ◌, ◌<◌, ◌==◌, ◌||◌, ◌↔◌, ◌∙◌, ◌∷◌, ◌≡◌, ◌≢◌, ◌≤ℤ◌, ◌≤◌, ◌⊎◌}
pub use Rattle.std.proofs.Math.Bool.{and-false, and-true, or-false}
pub use Rattle.std.proofs.Math.Nat.{add-suc, mul_assoc}
pub use Rattle.std.proofs.lemmas.Bool.{false≢true, ne_eqb, or_from, or_left, or_right}
pub use Rattle.std.proofs.lemmas.Bool.Decides.{Decides-int_eq, same_from_decides}
pub use Rattle.std.proofs.lemmas.Cmp.{eq_by_cmp_equiv, int_cmp_total, int_eq_equiv}
pub use Rattle.std.proofs.lemmas.Grind.{flat_map-append}
pub use Rattle.std.proofs.lemmas.Int.{fits_signed_mul, ints, to_z-of_z, unsigned_abs-mul}
pub use Rattle.std.proofs.lemmas.List.{at_drop_all, at_drop_more, drop_all, drop_more, length-append, length-drop, length-map, map-append, take-append-drop, take_all, take_more}
pub use Rattle.std.proofs.lemmas.List.Elements.{All-cons, All-head, All-tail, filter-append}
pub use Rattle.std.proofs.lemmas.List.Folds.{Any-from_list_any, list_all-append, list_any-append, list_any-from_Any}
pub use Rattle.std.proofs.lemmas.List.Sums.{count_by_more_no, count_by_more_yes, sum_by-append, sum_by-cons}
pub use Rattle.std.proofs.lemmas.Map.Views.{Contains-from_any, list_any-from_Contains}
pub use Rattle.std.proofs.lemmas.Option.{get_or_from_slice_get, slice_get_within}
pub use Rattle.std.proofs.lemmas.Result.{err_from_is_err_and}
pub use Rattle.std.proofs.lemmas.Slice.Eq.{bytes_eq-Decides}
pub use Rattle.std.specs.Bool.{one_answer}
pub use Rattle.std.specs.Int.{int_max, int_min, w128}
pub use Rattle.std.specs.List.{All, Any, list_all, list_any}
pub use Rattle.std.specs.Map.{lookup}
pub use Rattle.std.specs.Ordering.{int_eq, is_eq}
pub use Rattle.std.specs.Prelude.{Err, IfErr, IfOk, IfSome, IsSome, Ok, Result, bytes_eq, cond, filter, flat_map, int_le, int_lt, is_some, nat_abs, nat_le, nat_lt, neg_ℤ, option_and_then, option_to_list, slice_get, sum_by, unsigned_abs, unwrap_or}
pub use Rattle.std.specs.declared.boxed.Box.{Box}
pub use Rattle.std.specs.declared.cmp.Ordering.TheVariants.{Equal, Greater, Less}
pub use denote.Param.Weighed.{most}
