-- What holds of each order by computation.
use Rattle.std.proofs.Common.{◌≡◌, ℕ, zero, suc, ◌+◌, ◌*◌, ◌%◌, ◌<◌, true, [], ◌∷◌, length, pos, refl, arith, nat_le, mod-lt}
use Rattle.ep_tree.proofs.Opened.{the_language}
use Rattle.std.specs.Fmt.{digits}
use Rattle.ep_base.specs.Runs.{counting}
use Rattle.ep_tree.specs.Binding.{limits_met}
use Rattle.ep_tree.specs.Environments.{Env}
use Rattle.ep_tree.specs.Measures.{met, met_domain}
use Rattle.ep_tree.specs.Solutions.{cell_count}
use Rattle.ep_tree.specs.Values.{ValueTree}
use Rattle.ep_tree.specs.declared.values.Mode.{Mode}
use Rattle.ep_print.specs.Joining.{with_between}
use Rattle.ep_print.specs.Values.{index_domain_text, run_text, runs_of, stretch_from}
use Rattle.ep_print_laws.specs.Answered.{indices_domain, number_expr, run_and, run_ranges}
use Rattle.ep_gen.specs.Hints.{order_of}
use Rattle.ep_gen_laws.proofs.ModelTree.{Places, columns_differ, hints_are_met, rows_differ, square_at}
use Rattle.ep_gen_laws.proofs.Bodies.{IsSmallOrder, env_with_cells}
use Rattle.ep_gen_laws.proofs.Bound.{IsFittingOrder, env_with_hints, env_with_order, orders}
use Rattle.ep_gen_laws.proofs.Nodes.{all_fine}

-- What is computed at an order, whatever the hints are.
pub record IsComputed (n : ℕ) : Type 0 where
  pub fitting : IsFittingOrder n
  pub small : IsSmallOrder n
  pub hint_limits : (at : Places) → limits_met Mode.Relational (met_domain Mode.Relational (env_with_order n) (square_at at 17 (pos 0))) ≡ []
  pub find_limits : (at : Places) (v : ValueTree) → limits_met Mode.Relational (met_domain Mode.Relational (env_with_hints n v) (square_at at 45 (pos 1))) ≡ []
  pub rows_fine : (at : Places) (v : ValueTree) → all_fine 10000 (met Mode.Relational (env_with_cells n v) (rows_differ at)) ≡ true
  pub columns_fine : (at : Places) (v : ValueTree) → all_fine 10000 (met Mode.Relational (env_with_cells n v) (columns_differ at)) ≡ true
  pub few_rows : (at : Places) (v : ValueTree) → nat_le (length (met Mode.Relational (env_with_cells n v) (rows_differ at))) 100 ≡ true
  pub few_columns : (at : Places) (v : ValueTree) → nat_le (length (met Mode.Relational (env_with_cells n v) (columns_differ at))) 100 ≡ true
  pub few_hints : (at : Places) (v : ValueTree) → nat_le (length (met Mode.Relational (env_with_cells n v) (hints_are_met at))) 8000 ≡ true
  pub few_bounds : (env : Env) → nat_le (length (met_domain Mode.Relational env (indices_domain (counting (pos 1) n)))) 4 ≡ true
  pub few_bytes : nat_le (length (index_domain_text (counting (pos 1) n))) 20 ≡ true
  pub few_cells : nat_le (cell_count (orders n ∷ orders n ∷ [])) 400 ≡ true
  pub few_values : nat_le (cell_count (orders n ∷ orders n ∷ []) * length (orders n)) 8000 ≡ true

computed_16 : IsComputed 16
unfolding the_language indices_domain run_ranges run_and number_expr runs_of stretch_from index_domain_text run_text with_between digits
computed_16 = record {
  fitting = record { some = omega arith; fits = refl; count = refl };
  small = record { low = omega arith; count = refl; each = refl; spans = refl; narrow = omega arith };
  hint_limits = λ at. refl;
  find_limits = λ at v. refl;
  rows_fine = λ at v. refl;
  columns_fine = λ at v. refl;
  few_rows = λ at v. refl;
  few_columns = λ at v. refl;
  few_hints = λ at v. refl;
  few_bounds = λ env. refl;
  few_bytes = refl;
  few_cells = refl;
  few_values = refl;
}

computed_17 : IsComputed 17
unfolding the_language indices_domain run_ranges run_and number_expr runs_of stretch_from index_domain_text run_text with_between digits
computed_17 = record {
  fitting = record { some = omega arith; fits = refl; count = refl };
  small = record { low = omega arith; count = refl; each = refl; spans = refl; narrow = omega arith };
  hint_limits = λ at. refl;
  find_limits = λ at v. refl;
  rows_fine = λ at v. refl;
  columns_fine = λ at v. refl;
  few_rows = λ at v. refl;
  few_columns = λ at v. refl;
  few_hints = λ at v. refl;
  few_bounds = λ env. refl;
  few_bytes = refl;
  few_cells = refl;
  few_values = refl;
}

computed_18 : IsComputed 18
unfolding the_language indices_domain run_ranges run_and number_expr runs_of stretch_from index_domain_text run_text with_between digits
computed_18 = record {
  fitting = record { some = omega arith; fits = refl; count = refl };
  small = record { low = omega arith; count = refl; each = refl; spans = refl; narrow = omega arith };
  hint_limits = λ at. refl;
  find_limits = λ at v. refl;
  rows_fine = λ at v. refl;
  columns_fine = λ at v. refl;
  few_rows = λ at v. refl;
  few_columns = λ at v. refl;
  few_hints = λ at v. refl;
  few_bounds = λ env. refl;
  few_bytes = refl;
  few_cells = refl;
  few_values = refl;
}

computed_19 : IsComputed 19
unfolding the_language indices_domain run_ranges run_and number_expr runs_of stretch_from index_domain_text run_text with_between digits
computed_19 = record {
  fitting = record { some = omega arith; fits = refl; count = refl };
  small = record { low = omega arith; count = refl; each = refl; spans = refl; narrow = omega arith };
  hint_limits = λ at. refl;
  find_limits = λ at v. refl;
  rows_fine = λ at v. refl;
  columns_fine = λ at v. refl;
  few_rows = λ at v. refl;
  few_columns = λ at v. refl;
  few_hints = λ at v. refl;
  few_bounds = λ env. refl;
  few_bytes = refl;
  few_cells = refl;
  few_values = refl;
}

computed_20 : IsComputed 20
unfolding the_language indices_domain run_ranges run_and number_expr runs_of stretch_from index_domain_text run_text with_between digits
computed_20 = record {
  fitting = record { some = omega arith; fits = refl; count = refl };
  small = record { low = omega arith; count = refl; each = refl; spans = refl; narrow = omega arith };
  hint_limits = λ at. refl;
  find_limits = λ at v. refl;
  rows_fine = λ at v. refl;
  columns_fine = λ at v. refl;
  few_rows = λ at v. refl;
  few_columns = λ at v. refl;
  few_hints = λ at v. refl;
  few_bounds = λ env. refl;
  few_bytes = refl;
  few_cells = refl;
  few_values = refl;
}

-- the orders are these five
at_order : (r : ℕ) → r < 5 → IsComputed (16 + r)
at_order zero less = computed_16
at_order (suc zero) less = computed_17
at_order (suc (suc zero)) less = computed_18
at_order (suc (suc (suc zero))) less = computed_19
at_order (suc (suc (suc (suc zero)))) less = computed_20
at_order (suc (suc (suc (suc (suc r))))) less = absurd (omega (arith, less))

pub order_computed : (number : ℕ) → IsComputed (order_of number)
unfolding order_of
order_computed number = at_order (number % 5) (mod-lt number (omega arith))
