-- What the vectors compute with: the definitions of the language, opened.
use Rattle.std.specs.Prelude.{ℕ}
use Rattle.ep_base.specs.Intervals.{width, least_or_zero, greatest_or_zero, spanned, negated, sum_interval, product_interval, products_interval, farthest_end, quotient_interval, remainder_interval, has_zero, nth_power_interval, power_interval, absolute_interval, least_interval, greatest_interval, hull, sum_cost}
use Rattle.ep_base.specs.Numbers.{of_bool, is_one, floor_over, quotient, remainder, nth_power, power, product_to, factorial_of, absolute_of, compare_holds, sum_of, product_of, least_of, greatest_of, all_one, any_one, has_number, same_numbers, lex_less, lex_holds, are_different, times_in, counts_hold, is_row_of}
use Rattle.ep_base.specs.Options.{map_both, on_both, on_three}
use Rattle.ep_base.specs.Runs.{counting, numbers_in, numbers}
use Rattle.ep_base.specs.Senses.{better_number}
use Rattle.ep_base.specs.Reads.{is_too_far}
use Rattle.ep_tree.specs.Binding.{limits_met, unless_any, or_refuse, and_next, indices_bound, numbers_bound, above_end, below_end, ranges_pass, elements_pass, element_values, listed_domains, index_domains, shape_of, fitted_into, shape_bound, met_stated, letting_bound, bind_letting, bind_params, parameter, first_missing, given_bound, bind_names, bind_givens, group_finds, bound_finds, first_false, met_groups, met_in, in_env, with_finds, with_clauses, with_goal, now_with, bind_statement, bind_statements, bind}
use Rattle.ep_tree.specs.Domains.{put_in, united, count_between, between, set_values, set_has}
use Rattle.ep_tree.specs.Environments.{shape_type, meaning_in, context_of, value_bound, domain_bound, scalar_in, with_number, HasAscendingDomain}
use Rattle.ep_tree.specs.Evaluation.{undefined_truth, truth_in, number_in, all_true, any_true, binary_number, joins_truths, binary_value, folded_value, quantified_value, over_names, standing_for, all_joined, all_hold, holding, are_told, matrix_value, read_result, type_in, signed, evaluate, domain_values, values_of, term_values, index_list, range_values, end_value, index_values, reached, domains_defined, first_untrue}
use Rattle.ep_tree.specs.Faults.{type_fault, unless, name_faults, domain_name_faults, has_open_range, entry_count, leaves_matrix, is_power, faults, domain_faults, faults_of_all, faults_of_terms, faults_of_indices, faults_of_ranges, end_faults, faults_of_domains, index_faults, faults_of_generators, declaration_faults, declare, group_meaning, after_group, group_faults, after_groups, clause_faults, goal_faults, stated_faults, letting_meaning, domain_meaning, branching_faults, statement_faults, after_statement, faults_after, text_faults, params_faults}
use Rattle.ep_tree.specs.Heights.{height, domain_height, highest, highest_term, highest_index, highest_range, end_height, highest_domain, highest_generator, index_height}
use Rattle.ep_tree.specs.Limits.{products_from, numbers_at, limits_of_values, within, counted_value, counted_domain}
use Rattle.ep_tree.specs.Measures.{met_names, met, met_domain, met_all, met_terms, met_indices, met_ranges, met_end, met_domains, met_index, met_generators, farthest_of, first_products, number_reach, reaches_at, farthest_reach, folding_weight, fold_weight, sum_weight, folded_weight, binary_weight, quantified_weight, counting_weight, index_width, read_weight, decided_weight, weight_at, weight_of}
use Rattle.ep_tree.specs.Names.{put_all}
use Rattle.ep_tree.specs.Phrases.{saying_of, lexemes_of, Names, PlacedNames}
use Rattle.ep_tree.specs.Reach.{fixed_span, wide_span, cell_reach, cell_span, with_spread, span_of, fixed_extent, sum_span, negated_span, product_span, folded_span, binary_span, is_decided_index, left_by, parts_left, plain_index, slice_extent, read_span, hiding, is_decision, is_decision_name, reads_cell, generator_names, holds_decision, one_holds_decision, term_holds_decision, index_holds_decision, measured, measured_indices, matrix_extent, named_extent, group_extent, read_extent, measured_index, quantified_span, signed_span, extent, extents_of, term_spans, measured_list}
use Rattle.ep_tree.specs.SolutionTexts.{letting_names, fitting_letting, without_letting, with_lettings, is_find, strangers, shaped, shaped_by, read_solution}
use Rattle.ep_tree.specs.Solutions.{named_in, fitted_find, found_values, goal_value, has_goal_value, judged_by, judgement, cells_bound, cell_count, met_instance, instance_size, instance_weight, instance_reach, limits_passed, or_weight, instance_limits}
use Rattle.ep_tree.specs.Spelling.{rank, domain_rank, binary_word, compare_word, lex_word, quantifier_word, fold_word, set_word, sign_word, truth_word, has_terms, has_trees, ends_open, terms_end_open, trees_end_open, has_every, takes_own_group, SpellsChain, SpellsTerms, SpellsParts, SpellsMoreParts, SpellsList, SpellsMore, SpellsIndexDomain, SpellsGenerators, SpellsIndices, SpellsRanges, SpellsMoreRanges, SpellsEnd, SpellsIndexDomains, SpellsNode, SpellsDomainNode, SpellsMoreGenerators, SpellsMoreIndices, SpellsLastIndices, SpellsMoreIndexDomains, own_level, own_domain_level, binary_level, is_called, tighter}
use Rattle.ep_tree.specs.StatementSpelling.{SpellsExpressions, SpellsGroups, SpellsStated, SpellsNames, SpellsSense, SpellsStatement, SpellsStatements, is_objective, is_letting, SpellsModel, SpellsParams}
use Rattle.ep_tree.specs.Statements.{highest_of, highest_group, stated_height, statement_height, text_height}
use Rattle.ep_tree.specs.Texts.{place_of_token}
use Rattle.ep_tree.specs.Trees.{place_of, place_of_domain}
use Rattle.ep_tree.specs.TypedValues.{is_number_of, IsTypedBound}
use Rattle.ep_tree.specs.Types.{type_from, is_integer, is_boolean, is_matrix, is_bool_scalar, is_matrix_of_bool, has_dimensions, scalar_of, of_scalar, both_scalars, gives, from_one, from_two, from_three, all_typed, from_all, from_many, named_type, named_domain_type, binary_type, are_lists, quantified_type, folded_type, stated_dimensions, list_of_matrices, list_type, indexed_type, left_type, read_type, slice_count, can_index, matrix_type, quantified_name, reading_contexts, inside, comprehension_type, judge, judge_domain, judge_all, judge_terms, judge_indices, judge_ranges, judge_end, judge_domains, judge_index, judge_generators, inside_all}
use Rattle.ep_tree.specs.Values.{listed_values, as_parts, scalars_of, scalars_of_all, map_grid, map_grids, filled, rows_of, with_indices, list_value, part_at, all_defined, read_value, scalar_fits, fitted, all_fitted, same_value, same_values}
use Rattle.ep_tree.specs.Views.{kind_tree, domain_kind_tree, row_trees, row_terms, row_indices, with_index, row_generators, held_index, row_ranges, with_range, held_end, row_domains, expr_trees, terms_of, indices_of, generators_of, domains_of, end_of, ranges_of, group_of, statement_kind_tree, model_tree, params_tree, value_tree, row_values, values_from}

-- a vector that says `unfolding the_language` computes with all of them
unfoldable pub the_language : ℕ
unfolding width least_or_zero greatest_or_zero spanned negated sum_interval product_interval products_interval farthest_end quotient_interval remainder_interval has_zero nth_power_interval power_interval absolute_interval least_interval greatest_interval hull sum_cost of_bool is_one floor_over quotient remainder nth_power power product_to factorial_of absolute_of compare_holds sum_of product_of least_of greatest_of all_one any_one has_number same_numbers lex_less lex_holds are_different times_in counts_hold is_row_of counting numbers_in numbers limits_met unless_any or_refuse and_next indices_bound numbers_bound above_end below_end ranges_pass elements_pass element_values listed_domains index_domains shape_of fitted_into shape_bound met_stated letting_bound bind_letting bind_params parameter first_missing given_bound bind_names bind_givens group_finds bound_finds first_false met_groups met_in in_env with_finds with_clauses with_goal now_with bind_statement bind_statements bind put_in united count_between between set_values set_has shape_type meaning_in context_of value_bound domain_bound scalar_in with_number HasAscendingDomain undefined_truth truth_in number_in all_true any_true map_both on_both on_three binary_number joins_truths binary_value folded_value quantified_value over_names standing_for all_joined all_hold holding are_told matrix_value read_result type_in signed evaluate domain_values values_of term_values index_list range_values end_value index_values reached domains_defined first_untrue place_of type_fault unless name_faults domain_name_faults has_open_range entry_count leaves_matrix is_power faults domain_faults faults_of_all faults_of_terms faults_of_indices faults_of_ranges end_faults faults_of_domains index_faults faults_of_generators declaration_faults declare group_meaning after_group group_faults after_groups clause_faults goal_faults stated_faults letting_meaning domain_meaning branching_faults statement_faults after_statement faults_after text_faults params_faults height domain_height highest highest_term highest_index highest_range end_height highest_domain highest_generator index_height products_from numbers_at is_too_far limits_of_values within counted_value counted_domain met_names met met_domain met_all met_terms met_indices met_ranges met_end met_domains met_index met_generators farthest_of first_products number_reach reaches_at farthest_reach folding_weight fold_weight sum_weight folded_weight binary_weight quantified_weight counting_weight index_width read_weight decided_weight weight_at weight_of put_all saying_of lexemes_of Names PlacedNames fixed_span wide_span cell_reach cell_span with_spread span_of fixed_extent sum_span negated_span product_span folded_span binary_span is_decided_index left_by parts_left plain_index slice_extent read_span hiding is_decision is_decision_name reads_cell generator_names holds_decision one_holds_decision term_holds_decision index_holds_decision measured measured_indices matrix_extent named_extent group_extent read_extent measured_index quantified_span signed_span extent extents_of term_spans measured_list letting_names fitting_letting without_letting with_lettings is_find strangers shaped shaped_by read_solution named_in fitted_find found_values goal_value has_goal_value judged_by judgement better_number cells_bound cell_count met_instance instance_size instance_weight instance_reach limits_passed or_weight instance_limits rank domain_rank binary_word compare_word lex_word quantifier_word fold_word set_word sign_word truth_word has_terms has_trees ends_open terms_end_open trees_end_open has_every takes_own_group SpellsChain SpellsTerms SpellsParts SpellsMoreParts SpellsList SpellsMore SpellsIndexDomain SpellsGenerators SpellsIndices SpellsRanges SpellsMoreRanges SpellsEnd SpellsIndexDomains SpellsExpressions SpellsGroups SpellsStated SpellsNames SpellsSense SpellsStatement SpellsStatements is_objective is_letting SpellsModel SpellsParams highest_of highest_group stated_height statement_height text_height is_number_of IsTypedBound type_from is_integer is_boolean is_matrix is_bool_scalar is_matrix_of_bool has_dimensions scalar_of of_scalar both_scalars gives from_one from_two from_three all_typed from_all from_many named_type named_domain_type binary_type are_lists quantified_type folded_type stated_dimensions list_of_matrices list_type indexed_type left_type read_type slice_count can_index matrix_type quantified_name reading_contexts inside comprehension_type judge judge_domain judge_all judge_terms judge_indices judge_ranges judge_end judge_domains judge_index judge_generators inside_all listed_values as_parts scalars_of scalars_of_all map_grid map_grids filled rows_of with_indices list_value part_at all_defined read_value scalar_fits fitted all_fitted same_value same_values kind_tree domain_kind_tree row_trees row_terms row_indices with_index row_generators held_index row_ranges with_range held_end row_domains expr_trees terms_of indices_of generators_of domains_of end_of ranges_of group_of statement_kind_tree model_tree params_tree value_tree row_values values_from SpellsNode SpellsDomainNode SpellsMoreGenerators SpellsMoreIndices SpellsLastIndices SpellsMoreIndexDomains own_level own_domain_level binary_level is_called tighter place_of_domain place_of_token
the_language = 0
