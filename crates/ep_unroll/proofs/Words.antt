-- The words of other modules that the proofs of this crate name.
pub use Rattle.ep_base.proofs.Ascending.{ascending_cons, ascending_head, ascending_tail}
pub use Rattle.ep_base.proofs.RunSteps.{in_numbers}
pub use Rattle.ep_base.proofs.Small.{map_is, no_some, some_is, then_is}
pub use Rattle.ep_base.specs.Numbers.{absolute_of, are_different, factorial_of, lex_holds, nth_power, times_in}
unfoldable pub use Rattle.ep_base.specs.Numbers.{all_one, any_one, compare_holds, counts_hold, greatest_of, has_number, is_one, is_row_of, least_of, of_bool, product_of, same_numbers, sum_of}
unfoldable pub use Rattle.ep_base.specs.Options.{map_both, on_both, on_three}
unfoldable pub use Rattle.ep_base.specs.Reads.{all_there, first_or_zero, picked, safe_picked, weighted_sum}
pub use Rattle.ep_base.specs.Runs.{IsAscending, IsIn, or_zero}
unfoldable pub use Rattle.ep_base.specs.Runs.{counting, numbers, numbers_in}
pub use Rattle.ep_base.specs.declared.names.Name.{Name}
pub use Rattle.ep_base.specs.declared.operators.CompareOp.{CompareOp}
pub use Rattle.ep_base.specs.declared.operators.LexOp.{LexOp}
pub use Rattle.ep_base.specs.declared.operators.Sense.{Sense}
pub use Rattle.ep_base.specs.declared.places.Place.{Place}
pub use Rattle.ep_base.specs.declared.run_lists.Run.{Run}
pub use Rattle.ep_eval.proofs.GeneratingDepths.{ranging_depth}
pub use Rattle.ep_eval.proofs.GeneratingSteps.{comprehension_is, generators_first, generators_none, lost_behind, none_before, none_behind, regrouped, values_bare, values_name, values_part}
pub use Rattle.ep_eval.proofs.Instances.{quantified_bare, quantified_by}
pub use Rattle.ep_eval.proofs.ListLaws.{has_is}
pub use Rattle.ep_eval.proofs.Lists.{values_from-map}
pub use Rattle.ep_eval.proofs.LiteralForms.{counted_set, index_values-none, index_values-some, indices_differ, indices_match, just_enough, too_few, too_many}
pub use Rattle.ep_eval.proofs.Products.{times_again}
pub use Rattle.ep_eval.proofs.Reaches.{is_one_word}
pub use Rattle.ep_eval.proofs.ReadResults.{read_found}
pub use Rattle.ep_eval.proofs.ReadSteps.{part_next, part_none, part_short, read_stated}
pub use Rattle.ep_eval.proofs.ValueScalars.{rows_matrix, rows_single, scalars_matrix, scalars_none, scalars_part, scalars_single}
pub use Rattle.ep_eval.proofs.WalkSteps.{no_runs}
pub use Rattle.ep_eval.specs.Bounds.{cells_of, only_cells}
pub use Rattle.ep_eval.specs.Generating.{generated_values, parts_at, ranging_over}
unfoldable pub use Rattle.ep_eval.specs.Generating.{how_many, lists_joined, part_value, part_where, some_joined}
pub use Rattle.ep_eval.specs.Helds.{seen_held}
unfoldable pub use Rattle.ep_eval.specs.Helds.{held_value}
pub use Rattle.ep_eval.specs.Instances.{instance_value}
pub use Rattle.ep_eval.specs.Known.{env_of}
unfoldable pub use Rattle.ep_eval.specs.Reading.{part_under}
pub use Rattle.ep_eval.specs.Scopes.{env_in, mode_in}
unfoldable pub use Rattle.ep_eval.specs.Scopes.{with_all}
pub use Rattle.ep_eval.specs.Walking.{IsWalk, numbers_left}
unfoldable pub use Rattle.ep_eval.specs.Walking.{IsWalkBehind, before_rest}
pub use Rattle.ep_eval.specs.declared.held.Held.{Held}
pub use Rattle.ep_forms.proofs.Depths.{both_below, deeper, first_generator, first_within, second_within}
pub use Rattle.ep_forms.specs.Forms.{index_at, quantified_tree}
unfoldable pub use Rattle.ep_forms.specs.Forms.{counts_node, form_tree, one_node, truths_node, two_node}
pub use Rattle.ep_forms.specs.Ranks.{depth_of, generators_depth, greater, listing_depth, walk_rank}
unfoldable pub use Rattle.ep_forms.specs.Ranks.{IsBelow, end_depth}
pub use Rattle.ep_forms.specs.declared.forms.Quantifier.{Quantifier}
pub use Rattle.ep_ground.proofs.TermLaws.{value_is, value_more}
pub use Rattle.ep_ground.specs.ArenaSteps.{Interned}
pub use Rattle.ep_ground.specs.GroundViews.{plain_ground}
pub use Rattle.ep_ground.specs.Grounds.{GroundState}
unfoldable pub use Rattle.ep_ground.specs.Grounds.{ground_objective}
pub use Rattle.ep_ground.specs.NodeViews.{plain_node}
pub use Rattle.ep_ground.specs.Nodes.{GroundNode, cell, constant, greatest, least, sum, undefined}
pub use Rattle.ep_ground.specs.Terms.{IsArena, term_value}
unfoldable pub use Rattle.ep_ground.specs.Terms.{node_value, term_values_of, weighed}
pub use Rattle.ep_ground.specs.declared.cells.Cell.{Cell}
pub use Rattle.ep_instance_parts.specs.Instances.{find_of, goal_of, instance_mode, plain_instance}
pub use Rattle.ep_numbers.proofs.Counting.{counting_more, length_of_run}
pub use Rattle.ep_reach.proofs.Nodes.{all_next, all_whole}
pub use Rattle.ep_reach_laws.proofs.Found.{found_alike, taken_from}
pub use Rattle.ep_size.proofs.FreeParts.{and_one, and_other, not_true}
pub use Rattle.ep_size.proofs.LookSteps.{only_cells_is}
unfoldable pub use Rattle.ep_size.specs.Free.{are_free, are_free_domains, are_free_generators, are_free_indices, are_free_ranges, are_free_terms, is_free, is_free_domain, is_free_end, is_free_index}
unfoldable pub use Rattle.ep_size.specs.Standings.{hidden_without}
pub use Rattle.ep_tree.proofs.EvaluationEquations.{evaluate-absolute, evaluate-all_different, evaluate-all_of, evaluate-any_of, evaluate-at_least, evaluate-at_most, evaluate-binary, evaluate-chain, evaluate-compare, evaluate-flatten, evaluate-folded, evaluate-gcc, evaluate-group, evaluate-in_domain, evaluate-in_set, evaluate-lex, evaluate-literal, evaluate-minus, evaluate-named, evaluate-negation, evaluate-read, evaluate-table, evaluate-to_int}
pub use Rattle.ep_tree.proofs.TypedEvaluation.{domain_typed, put_typed, value_typed}
pub use Rattle.ep_tree.proofs.ViewLemmas.{kind_tree-named, value_tree-matrix, value_tree-number}
pub use Rattle.ep_tree.specs.Agreement.{Agree, AgreeOn}
pub use Rattle.ep_tree.specs.Binding.{Instance}
pub use Rattle.ep_tree.specs.Closed.{IsClosed, clause_env}
pub use Rattle.ep_tree.specs.Domains.{between, put_in, set_values, united}
pub use Rattle.ep_tree.specs.Environments.{Bound, Env, context_of, has_cells, has_domain, has_value, shape_type}
unfoldable pub use Rattle.ep_tree.specs.Environments.{domain_bound, scalar_in, value_bound, with_number}
pub use Rattle.ep_tree.specs.Evaluation.{all_hold, all_numbers, is_true_in, number_value, rows_in, scalars_in, truth_of}
unfoldable pub use Rattle.ep_tree.specs.Evaluation.{all_joined, all_true, any_true, are_told, binary_number, binary_value, domain_values, domains_defined, end_value, evaluate, folded_value, holding, index_list, index_values, joins_truths, matrix_value, number_in, over_names, quantified_value, range_values, reached, read_result, signed, standing_for, term_values, truth_in, type_in, undefined_truth, values_of}
pub use Rattle.ep_tree.specs.Names.{put}
unfoldable pub use Rattle.ep_tree.specs.Names.{put_all}
pub use Rattle.ep_tree.specs.Reach.{decisions_in}
unfoldable pub use Rattle.ep_tree.specs.Reach.{generator_names, hiding, is_decision}
pub use Rattle.ep_tree.specs.Solutions.{Assigned, Fits, Found, under}
unfoldable pub use Rattle.ep_tree.specs.Solutions.{cell_count, cells_bound, found_values, goal_value}
pub use Rattle.ep_tree.specs.Trees.{DomainTree, End, ExprTree, ExprTrees, Generators, IndexDomain, Indices, Ranges, Terms, absolute, all_different, at_least, at_most, binary, bool, chain, compare, comprehension, end_at, every_and, factorial, flatten, folded, gcc, generator_and, group, group_domain, in_domain, in_set, index_and, int, lex, literal, matrix_domain, minus, named, named_domain, negation, no_end, no_generators, no_indices, no_ranges, no_terms, no_trees, number, one_and, over, quantified, ranges, read, set_domain, span_and, table, term_and, to_int, tree_and, unstated}
pub use Rattle.ep_tree.specs.TypedValues.{IsTypedEnv}
unfoldable pub use Rattle.ep_tree.specs.TypedValues.{IsTypedBound, is_number_of}
pub use Rattle.ep_tree.specs.Types.{Judged, judge, judge_domain, mistyped, scalar_of, typed, untyped}
unfoldable pub use Rattle.ep_tree.specs.Types.{of_scalar, type_from}
pub use Rattle.ep_tree.specs.Values.{Index, ValueTree, ValueTrees, any_index, at_index, indices_in, matrix, no_values, rows_of, scalar_fits, single, value_and}
unfoldable pub use Rattle.ep_tree.specs.Values.{all_defined, all_fitted, as_parts, fitted, index_in, list_value, listed_values, part_at, read_value, scalars_of, scalars_of_all, with_indices}
pub use Rattle.ep_tree.specs.Views.{domain_tree, expr_tree, generators_of, kind_tree, value_tree, values_from}
unfoldable pub use Rattle.ep_tree.specs.Views.{expr_trees, indices_of, terms_of}
pub use Rattle.ep_tree.specs.declared.syntax.BinaryOp.{BinaryOp}
pub use Rattle.ep_tree.specs.declared.syntax.Domain.{size-Domain}
pub use Rattle.ep_tree.specs.declared.syntax.Expr.{Expr, size-Expr}
pub use Rattle.ep_tree.specs.declared.syntax.FoldOp.{FoldOp}
pub use Rattle.ep_tree.specs.declared.syntax.Generator.{size-Generator}
pub use Rattle.ep_tree.specs.declared.syntax.QuantOp.{QuantOp}
pub use Rattle.ep_tree.specs.declared.values.Mode.{Mode}
pub use Rattle.ep_tree.specs.declared.values.Scalar.{Scalar}
pub use Rattle.ep_tree.specs.declared.values.Value.{Value}
pub use Rattle.ep_tree.specs.declared.values.ValueType.{ValueType}
pub use Rattle.ep_tree_laws.proofs.SameTypes.{domain_type_is_kept, type_is_kept}
pub use Rattle.ep_unroll.specs.Blocks.{StandFor}
unfoldable pub use Rattle.ep_unroll.specs.Blocks.{IsWorth, block_under, one_index}
unfoldable pub use Rattle.ep_unroll.specs.Cells.{bound_numbers, find_cells, found_numbers, index_lists, instance_cells, is_truth}
pub use Rattle.ep_unroll.specs.Clauses.{AreClauses, IsClauseTerm}
unfoldable pub use Rattle.ep_unroll.specs.Clauses.{IsGoal}
pub use Rattle.ep_unroll.specs.Firsts.{numbering, numbering_of}
unfoldable pub use Rattle.ep_unroll.specs.Firsts.{first_in}
pub use Rattle.ep_unroll.specs.Flats.{AddsParts}
pub use Rattle.ep_unroll.specs.Grounds.{IsGroundOf}
pub use Rattle.ep_unroll.specs.Growing.{Grows, Puts}
pub use Rattle.ep_unroll.specs.Lefts.{IsLeft, LeftMeans}
pub use Rattle.ep_unroll.specs.Meanings.{AreInstancesOf, AreNumbersOf, IsNumberOf, IsTermOf, Means}
unfoldable pub use Rattle.ep_unroll.specs.Meanings.{AreTerms, RowHasTerms, row_worths, worth}
pub use Rattle.ep_unroll.specs.Needs.{AreNeeded, ArePartial, ArePartialScalars}
pub use Rattle.ep_unroll.specs.Numbers.{HasNumber}
pub use Rattle.ep_unroll.specs.PartLists.{ArePartsOf, HaveScalars, ListsTerms, parts_in, worths}
unfoldable pub use Rattle.ep_unroll.specs.PartLists.{HaveTerms, MayHaveTerms, listed_worths}
pub use Rattle.ep_unroll.specs.PartReads.{CanBeSafe, IsAlone, IsChosen, IsFound, IsTruth, IsWhole, chosen_among, numbers_of_terms, parts_worth}
unfoldable pub use Rattle.ep_unroll.specs.PartReads.{found_among, only_where, part_with}
pub use Rattle.ep_unroll.specs.Picks.{AreEntries, AreRead, AreSlotsOf, IsFreeIndex, IsSlotOf}
unfoldable pub use Rattle.ep_unroll.specs.Picks.{AreKnown, IsSlot, SlotMeans, SlotsMean, filled_in, look_up, open_terms, slot_index}
pub use Rattle.ep_unroll.specs.Powers.{IsPower}
pub use Rattle.ep_unroll.specs.Readings.{Numbering, Reading}
unfoldable pub use Rattle.ep_unroll.specs.Readings.{ReadsName, cells_value, each_from}
pub use Rattle.ep_unroll.specs.Scalars.{AreScalarsOf}
unfoldable pub use Rattle.ep_unroll.specs.Scalars.{cells_from}
pub use Rattle.ep_unroll.specs.Sets.{AreEqualities}
pub use Rattle.ep_unroll.specs.Signed.{AreSigned}
unfoldable pub use Rattle.ep_unroll.specs.Signed.{sign_number}
pub use Rattle.ep_unroll.specs.Summing.{AddsNumber}
unfoldable pub use Rattle.ep_unroll.specs.Summing.{plus, total_worth}
pub use Rattle.ep_unroll.specs.Truths.{IsJudged}
unfoldable pub use Rattle.ep_unroll.specs.Truths.{needed_in}
pub use Rattle.ep_unroll.specs.Unrolling.{SaysClauses, SaysObjective}
pub use Rattle.ep_unroll.specs.Wholes.{IsWholeOf}
pub use Rattle.ep_unroll.specs.declared.firsts.CellTable.{CellTable}
pub use Rattle.ep_unroll.specs.declared.firsts.FirstCell.{FirstCell}
pub use Rattle.ep_unroll.specs.declared.slots.Slot.{Slot}
pub use Rattle.ep_unroll.specs.declared.slots.Slot.TheVariants.{At, Every, Open}
pub use Rattle.ep_unroll.specs.declared.unrolled.Unrolled.{Cells, Fixed, Matrix, Matrix', Number, Row_of-Unrolled, Unrolled, end_of-Unrolled, items-the_row-Unrolled, items_hidden-the_row-Unrolled-0, more_of-Unrolled}
pub use Rattle.ep_unroll.specs.declared.unrolled.Unrolled.TheBlock.{hidden-the_row-Unrolled-0}
pub use Rattle.std.proofs.Common.{Bool, Err, List, None, Ok, Option, Some, [], ap, append-nil, append_assoc, arith, cond, drop, false, get_or, inl, inr, length, map, nat_lt, negsuc, not, of_z, pos, refl, rules, slice_get, subst, suc, sym, take, to_z, true, vec_len, w64, zero, ℕ, ℤ, ◌&&◌, ◌*◌, ◌++◌, ◌+ℤ◌, ◌+◌, ◌-ℤ◌, ◌-◌, ◌<ℤ◌, ◌<◌, ◌||◌, ◌∙◌, ◌∷◌, ◌≡◌, ◌≤ℤ◌, ◌≤◌, ◌⊎◌}
pub use Rattle.std.proofs.Math.Bool.{and-true}
pub use Rattle.std.proofs.Math.Nat.{mul_assoc}
pub use Rattle.std.proofs.Math.Path.{fun_ext}
pub use Rattle.std.proofs.lemmas.Bool.Decides.{Decides-eqb, Decides-int_eq, Decides-like, Decides-ltb, same_from_decides}
pub use Rattle.std.proofs.lemmas.Int.{ints, to_z-of_z}
pub use Rattle.std.proofs.lemmas.List.{at_drop_all, at_drop_more, drop_all, drop_more, get_or-map, length-append, length-map, map-append, map_more, nil_from_length, take_all, take_more}
pub use Rattle.std.proofs.lemmas.List.Concat.{flat_map-append}
pub use Rattle.std.proofs.lemmas.List.Elements.{All-append, All-get_or, All-map, All-nil, All-push}
pub use Rattle.std.proofs.lemmas.List.Quantifiers.{all_pairs_push}
pub use Rattle.std.proofs.lemmas.List.Sums.{sum_by-cons}
pub use Rattle.std.proofs.lemmas.Map.Views.{Contains-from_any}
pub use Rattle.std.proofs.lemmas.Option.{slice_get-get_or, slice_get_within}
pub use Rattle.std.specs.Int.{w128}
pub use Rattle.std.specs.List.{All, AllZip, Any, list_all, list_any, position_or_len}
pub use Rattle.std.specs.Ordering.{int_eq}
pub use Rattle.std.specs.Prelude.{IfOk, IsSome, OnOk, Result, bytes_eq, flat_map, if◌then◌else◌, is_some, nat_abs, neg_ℤ, option_and_then, option_map, position, sum_by, unwrap_or, ◌*ℤ◌, ◌==◌, ◌↔◌, ◌≢◌}
pub use denote.Param.Weighed.{most}
