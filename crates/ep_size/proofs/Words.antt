-- The words of other modules that the proofs of this crate name.
pub use Rattle.ep_base.proofs.Small.{no_some, some_is}
pub use Rattle.ep_base.specs.Intervals.{Interval, IsWithinReach, absolute_interval, from_to, highs, lows, nth_power_interval, only}
unfoldable pub use Rattle.ep_base.specs.Intervals.{farthest_end, greatest_interval, greatest_or_zero, hull, least_interval, least_or_zero, negated, power_interval, product_interval, products_interval, spanned, sum_cost, sum_interval, width}
pub use Rattle.ep_base.specs.Numbers.{is_one}
unfoldable pub use Rattle.ep_base.specs.Numbers.{absolute_of, all_one, compare_holds, greatest_of, has_number, least_of, sum_of}
pub use Rattle.ep_base.specs.Reads.{MOST_NUMBER}
unfoldable pub use Rattle.ep_base.specs.Reads.{is_too_far}
pub use Rattle.ep_base.specs.Runs.{numbers_in, or_zero}
unfoldable pub use Rattle.ep_base.specs.Runs.{counting, numbers}
pub use Rattle.ep_base.specs.declared.names.Name.{Name}
pub use Rattle.ep_base.specs.declared.operators.CompareOp.{CompareOp}
pub use Rattle.ep_base.specs.declared.operators.LexOp.{LexOp}
pub use Rattle.ep_base.specs.declared.places.Place.{Place}
pub use Rattle.ep_base.specs.declared.run_lists.Run.{Run}
pub use Rattle.ep_eval.proofs.DomainTypes.{index_is}
pub use Rattle.ep_eval.proofs.GeneratingDepths.{ranging_depth}
pub use Rattle.ep_eval.proofs.GeneratingSteps.{generators_first, generators_none, in_order, met_in_order, nodes_bare, nodes_name, nodes_part, ordered_nodes}
pub use Rattle.ep_eval.proofs.Instances.{met_bare, met_quantified}
pub use Rattle.ep_eval.proofs.ListLaws.{has_is}
pub use Rattle.ep_eval.proofs.LiteralForms.{index_values-none, index_values-some, just_enough, met_index-none, met_index-some, too_few, too_many}
pub use Rattle.ep_eval.proofs.MeterSteps.{Joins, SameNodes, meets_some, node_walked, told_as, told_far}
pub use Rattle.ep_eval.proofs.Reaches.{is_one_word}
pub use Rattle.ep_eval.proofs.ReadSteps.{part_next, part_none, part_short}
pub use Rattle.ep_eval.proofs.WalkSteps.{no_runs}
pub use Rattle.ep_eval.proofs.WorthSteps.{met-counts, met-one, met-truths, met-two}
pub use Rattle.ep_eval.specs.Bounds.{cells_of}
unfoldable pub use Rattle.ep_eval.specs.Bounds.{only_cells}
pub use Rattle.ep_eval.specs.Generating.{listed_nodes, nodes_at, nodes_of, ranging_over}
unfoldable pub use Rattle.ep_eval.specs.Generating.{nodes_where, part_nodes}
pub use Rattle.ep_eval.specs.Helds.{seen_held}
unfoldable pub use Rattle.ep_eval.specs.Helds.{held_value}
pub use Rattle.ep_eval.specs.Instances.{instance_env, instance_nodes}
pub use Rattle.ep_eval.specs.Known.{env_of}
pub use Rattle.ep_eval.specs.Meters.{Counts, IsPassed, Passes, Walked, Went, has_far}
pub use Rattle.ep_eval.specs.Ranges.{alone}
unfoldable pub use Rattle.ep_eval.specs.Reading.{part_under}
pub use Rattle.ep_eval.specs.Scopes.{env_in, mode_in}
unfoldable pub use Rattle.ep_eval.specs.Scopes.{with_all}
pub use Rattle.ep_eval.specs.Walking.{IsWalk, numbers_left}
unfoldable pub use Rattle.ep_eval.specs.Walking.{IsWalkBehind, before_rest}
pub use Rattle.ep_eval.specs.declared.held.Held.{Held}
pub use Rattle.ep_eval.specs.declared.meter.Meter.{Meter}
pub use Rattle.ep_forms.proofs.Depths.{deeper, first_generator, first_within, of_kind, second_within}
pub use Rattle.ep_forms.specs.Forms.{quantified_tree}
unfoldable pub use Rattle.ep_forms.specs.Forms.{counts_node, form_tree, index_at, one_node, truths_node, two_node}
pub use Rattle.ep_forms.specs.Ranks.{depth_of, generators_depth, listing_depth, walk_rank}
unfoldable pub use Rattle.ep_forms.specs.Ranks.{IsBelow, end_depth}
pub use Rattle.ep_instance_parts.specs.Instances.{find_of, goal_of, instance_mode, plain_instance}
pub use Rattle.ep_instance_parts.specs.declared.instances.Find.{Find}
pub use Rattle.ep_numbers.proofs.Counting.{counting_more, length_of_run, none_below, wide_length}
pub use Rattle.ep_numbers.proofs.Ends.{reach_near, untold_reach}
pub use Rattle.ep_numbers.specs.Spans.{interval_of, wide_interval}
pub use Rattle.ep_numbers.specs.declared.spans.WideSpan.{WideSpan}
pub use Rattle.ep_size.specs.Causes.{IsCause, IsTooMany}
pub use Rattle.ep_size.specs.Extents.{IsKnownExtent, fixed_grid, plain_span, row_grids}
unfoldable pub use Rattle.ep_size.specs.Extents.{TellsValue, grid_of, grids_from}
pub use Rattle.ep_size.specs.Finishing.{Added, Finished, Finishes, Gives, IsLightNode, IsNumberNode, is_far_node}
pub use Rattle.ep_size.specs.Folds.{GivesFold, IsFoldNode, Multiplies, RefusesFold, greater, is_far_fold, is_far_reach, lesser}
unfoldable pub use Rattle.ep_size.specs.Folds.{Chooses, Folds, fold_reaches}
unfoldable pub use Rattle.ep_size.specs.Free.{are_free, are_free_domains, are_free_generators, are_free_indices, are_free_ranges, are_free_terms, is_free, is_free_domain, is_free_end, is_free_index}
pub use Rattle.ep_size.specs.Generated.{known_at, known_of}
unfoldable pub use Rattle.ep_size.specs.Generated.{listed_extents, part_extents}
unfoldable pub use Rattle.ep_size.specs.Hulls.{Hulls}
unfoldable pub use Rattle.ep_size.specs.Indices.{cells_left, is_named_tree, keeps_all, kept_parts, measured_of}
pub use Rattle.ep_size.specs.Lists.{IsMatrixNode, ListsExtent, TellsExtent}
pub use Rattle.ep_size.specs.Meters.{Going, MeasuresInstance, SettlesMade, Told, WeighsNodes, is_far}
pub use Rattle.ep_size.specs.Quantified.{HasInstances, instance_at}
pub use Rattle.ep_size.specs.Slices.{LeavesDomains, PartOf, ReadsGrid}
unfoldable pub use Rattle.ep_size.specs.Slices.{IsPart, is_told, names_one}
pub use Rattle.ep_size.specs.Spans.{Keeps}
pub use Rattle.ep_size.specs.Standings.{both, standing_of, standing_of_all, standing_of_indices, standing_of_terms}
unfoldable pub use Rattle.ep_size.specs.Standings.{hidden_without}
pub use Rattle.ep_size.specs.Sums.{Sums}
pub use Rattle.ep_size.specs.Totals.{Celled, MOST_TOLD, all_cells, all_values, capped}
pub use Rattle.ep_size.specs.Widths.{Widens}
pub use Rattle.ep_size.specs.declared.cells.CellTotals.{CellTotals}
pub use Rattle.ep_size.specs.declared.errors.SizeError.{SizeError}
pub use Rattle.ep_size.specs.declared.errors.SizeError.TheVariants.{Limit, Memory}
pub use Rattle.ep_size.specs.declared.extents.Extent.{Matrix, Matrix', Row_of-Extent, end_of-Extent, items-the_row-Extent, items_hidden-the_row-Extent-0, more_of-Extent}
pub use Rattle.ep_size.specs.declared.extents.Extent.TheBlock.{hidden-the_row-Extent-0}
pub use Rattle.ep_size.specs.declared.folds.Chosen.{Chosen}
pub use Rattle.ep_size.specs.declared.folds.Folding.TheVariants.{Greatest, Least, Product, Sum, Truth}
pub use Rattle.ep_size.specs.declared.folds.Multiplied.{Multiplied}
pub use Rattle.ep_size.specs.declared.hulls.Hulled.{Hulled}
pub use Rattle.ep_size.specs.declared.instances.Instances.{Instances}
pub use Rattle.ep_size.specs.declared.reading.Indexed.{Indexed}
pub use Rattle.ep_size.specs.declared.reading.Indexed.TheVariants.{Decided, Every, Stated}
pub use Rattle.ep_size.specs.declared.standing.Standing.{Standing}
pub use Rattle.ep_size.specs.declared.sums.Summed.{Summed}
pub use Rattle.ep_size.specs.declared.totals.Totals.{Totals}
pub use Rattle.ep_size.specs.declared.widths.Widths.{Widths}
pub use Rattle.ep_tree.proofs.MetEquations.{met-chain, met-in_domain, met-literal, met-named, met-read}
pub use Rattle.ep_tree.proofs.ReachEquations.{extent-absolute, extent-all_different, extent-all_of, extent-any_of, extent-at_least, extent-at_most, extent-binary, extent-chain, extent-compare, extent-comprehension, extent-flatten, extent-folded, extent-gcc, extent-group, extent-in_domain, extent-in_set, extent-lex, extent-literal, extent-minus, extent-named, extent-negation, extent-quantified, extent-read, extent-table, extent-to_int, holds_decision-group, holds_decision-named, holds_decision-quantified}
pub use Rattle.ep_tree.proofs.ViewLemmas.{domain_kind_tree-bool, domain_kind_tree-group, domain_kind_tree-int, domain_kind_tree-matrix, domain_kind_tree-named, domain_kind_tree-ranges, domain_kind_tree-set, kind_tree-absolute, kind_tree-all_different, kind_tree-all_of, kind_tree-any_of, kind_tree-at_least, kind_tree-at_most, kind_tree-binary, kind_tree-chain, kind_tree-compare, kind_tree-comprehension, kind_tree-factorial, kind_tree-flatten, kind_tree-folded, kind_tree-gcc, kind_tree-group, kind_tree-in_domain, kind_tree-in_set, kind_tree-lex, kind_tree-literal, kind_tree-minus, kind_tree-named, kind_tree-negation, kind_tree-number, kind_tree-quantified, kind_tree-read, kind_tree-table, kind_tree-to_int, kind_tree-truth, value_tree-matrix, value_tree-number, with_range-one, with_range-span}
pub use Rattle.ep_tree.specs.Binding.{Instance, Refusal, over_limit}
unfoldable pub use Rattle.ep_tree.specs.Binding.{met_in}
pub use Rattle.ep_tree.specs.Environments.{Bound, Env, has_cells, has_domain, has_value, scalar_in}
unfoldable pub use Rattle.ep_tree.specs.Environments.{with_number}
pub use Rattle.ep_tree.specs.Evaluation.{chosen, domain_values, evaluate, index_values, numbered, truth_of, type_in}
unfoldable pub use Rattle.ep_tree.specs.Evaluation.{all_joined, all_true, holding, number_in, over_names, reached, standing_for, values_of}
pub use Rattle.ep_tree.specs.Limits.{MOST_SIZE, MOST_WEIGHT}
unfoldable pub use Rattle.ep_tree.specs.Limits.{limits_of_values}
pub use Rattle.ep_tree.specs.Measures.{Met, a_generator, a_node, binary_weight, decided_parts, index_width, widths}
unfoldable pub use Rattle.ep_tree.specs.Measures.{counting_weight, decided_weight, farthest_of, farthest_reach, first_products, fold_weight, folded_weight, folding_weight, met, met_all, met_domain, met_domains, met_end, met_generators, met_index, met_indices, met_names, met_ranges, met_terms, number_reach, quantified_weight, reaches_at, read_weight, sum_weight, weight_at, weight_of}
pub use Rattle.ep_tree.specs.Names.{put}
unfoldable pub use Rattle.ep_tree.specs.Names.{put_all}
pub use Rattle.ep_tree.specs.Reach.{MeasuredIndex, cell_span, decided_index, decisions_in, extent, fixed_index, fixed_span, group_extent, instance_span, is_decided_index, no_extent, reaches, slice_extent, truth_span, whole_index}
unfoldable pub use Rattle.ep_tree.specs.Reach.{binary_span, extents_of, fixed_extent, folded_span, generator_names, hiding, holds_decision, index_holds_decision, is_decision, is_decision_name, left_by, matrix_extent, measured, measured_index, measured_indices, measured_list, named_extent, negated_span, one_holds_decision, parts_left, product_span, quantified_span, read_extent, read_span, reads_cell, signed_span, span_of, sum_span, term_holds_decision, term_spans, wide_span, with_spread}
unfoldable pub use Rattle.ep_tree.specs.Solutions.{cell_count, cells_bound, instance_limits, instance_size, instance_weight, limits_passed, met_instance, or_weight}
pub use Rattle.ep_tree.specs.Trees.{DomainTree, Domains, End, ExprTree, ExprTrees, Generators, IndexDomain, Indices, Ranges, Terms, absolute, all_different, all_of, any_of, at_least, at_most, binary, bool, chain, compare, comprehension, domain_and, end_at, every_and, factorial, flatten, folded, gcc, generator_and, group, group_domain, in_domain, in_set, index_and, int, lex, literal, matrix_domain, minus, named, named_domain, negation, no_domains, no_end, no_generators, no_indices, no_ranges, no_terms, no_trees, number, one_and, over, quantified, ranges, read, set_domain, span_and, table, term_and, to_int, tree_and, truth, unstated}
pub use Rattle.ep_tree.specs.Types.{scalar_of}
unfoldable pub use Rattle.ep_tree.specs.Types.{is_integer, is_matrix, of_scalar}
pub use Rattle.ep_tree.specs.Values.{Grid, Grids, Index, ValueTree, any_index, at_index, matrix, no_values, single, value_and}
unfoldable pub use Rattle.ep_tree.specs.Values.{all_defined, as_parts, filled, list_value, listed_values, map_grid, map_grids, part_at, read_value, rows_of, scalars_of, scalars_of_all}
pub use Rattle.ep_tree.specs.Views.{domain_kind_tree, domain_tree, expr_tree, kind_tree, value_tree}
unfoldable pub use Rattle.ep_tree.specs.Views.{domains_of, end_of, expr_trees, generators_of, indices_of, ranges_of, terms_of, values_from, with_range}
pub use Rattle.ep_tree.specs.declared.syntax.BinaryOp.{BinaryOp}
pub use Rattle.ep_tree.specs.declared.syntax.Domain.{Domain, size-Domain}
pub use Rattle.ep_tree.specs.declared.syntax.Expr.{Expr, size-Expr}
pub use Rattle.ep_tree.specs.declared.syntax.FoldOp.{FoldOp}
pub use Rattle.ep_tree.specs.declared.syntax.Generator.{Generator, size-Generator}
pub use Rattle.ep_tree.specs.declared.syntax.Kind.{size-Kind}
pub use Rattle.ep_tree.specs.declared.syntax.QuantOp.{QuantOp}
pub use Rattle.ep_tree.specs.declared.syntax.Range.{One', Range, Span'}
pub use Rattle.ep_tree.specs.declared.values.Mode.{Mode}
pub use Rattle.ep_tree.specs.declared.values.Scalar.{Scalar}
pub use Rattle.ep_tree.specs.declared.values.Value.{Value}
pub use Rattle.ep_tree.specs.declared.values.ValueType.{ValueType}
pub use Rattle.ep_tree_laws.proofs.FixedLimits.{extent_fixed}
pub use Rattle.ep_tree_laws.specs.FixedLimits.{LimitsOfFixed}
unfoldable pub use Rattle.ep_tree_laws.specs.FixedLimits.{is_fixed}
pub use Rattle.std.proofs.Common.{Bool, Bor, Err, List, None, Ok, Option, SFits, Some, [], ap, append-nil, append_assoc, arith, drop, false, get_or, inl, inr, length, length-append, map, min, negsuc, not, of_z, pos, refl, rules, subst, suc, sym, take, to_z, true, vec_len, w64, zero, ℕ, ℤ, ◌&&◌, ◌*◌, ◌++◌, ◌+◌, ◌-◌, ◌<◌, ◌^◌, ◌||◌, ◌∙◌, ◌∷◌, ◌≡◌, ◌≢◌, ◌≤◌, ◌⊎◌}
pub use Rattle.std.proofs.Math.Bool.{and-true, or-false, or_assoc}
pub use Rattle.std.proofs.Math.Nat.{mul-le-mul, mul_assoc, mul_comm, suc-mul}
pub use Rattle.std.proofs.Math.Path.{fun_ext}
pub use Rattle.std.proofs.lemmas.Bool.{or_from, or_left, or_right}
pub use Rattle.std.proofs.lemmas.Grind.{flat_map-append}
pub use Rattle.std.proofs.lemmas.Int.{clamps, ints, to_z-of_z}
pub use Rattle.std.proofs.lemmas.List.{at_drop_all, at_drop_more, drop_all, drop_more, length-map, length-replicate, length-take, length_push, map-append, map_push, replicate-append-replicate, replicate_more, take-append-drop, take_all, take_more}
pub use Rattle.std.proofs.lemmas.List.Elements.{filter-append}
pub use Rattle.std.proofs.lemmas.List.Sums.{sum_by-append, sum_by-cons, sum_by_push}
pub use Rattle.std.proofs.lemmas.Result.{err_from_is_err_and}
pub use Rattle.std.specs.Int.{int_max, int_min, saturate_signed, w128}
pub use Rattle.std.specs.List.{list_all, list_any}
pub use Rattle.std.specs.Ordering.{int_eq}
pub use Rattle.std.specs.Prelude.{IfErr, IfOk, IfSome, IsSome, IsTrue, OnOk, Result, bytes_eq, cond, filter, flat_map, fold, if◌then◌else◌, int_lt, is_some, nat_abs, nat_le, nat_lt, neg_ℤ, option_and_then, option_map, option_to_list, replicate, sum_by, unwrap_or, ◌*ℤ◌, ◌+ℤ◌, ◌-ℤ◌, ◌==◌, ◌↔◌, ◌≤ℤ◌}
pub use denote.Param.Weighed.{most}
