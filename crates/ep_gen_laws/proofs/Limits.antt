-- The instance of any number is bound, and passes no limit.
use Rattle.std.proofs.Common.{◌≡◌, ℕ, ◌+◌, ◌*◌, ◌≤◌, true, false, List, [], ◌∷◌, ◌++◌, length, ℤ, refl, arith, int_lt, nat_le, length-append}
use Rattle.std.specs.Prelude.{Ok, nat_lt}
use Rattle.std.proofs.lemmas.Bool.{and_from, and_parts, leb-true}
use Rattle.std.proofs.lemmas.Bool.Decides.{nat_tests}
use Rattle.ep_base.specs.Reads.{MOST_NUMBER}
use Rattle.ep_tree.specs.Binding.{Progress, bind_statements, nothing_bound, met_in}
use Rattle.ep_tree.specs.Environments.{Env}
use Rattle.ep_tree.specs.Limits.{MOST_SIZE, MOST_WEIGHT}
use Rattle.ep_tree.specs.Measures.{Met, farthest_reach, met, reaches_at, size_of, weight_at, weight_of}
use Rattle.ep_tree.specs.Names.{put_all}
use Rattle.ep_tree.specs.Solutions.{cell_count, cells_bound, instance_limits, instance_weight, limits_passed, met_instance, or_weight}
use Rattle.ep_tree.specs.Types.{scalar_of}
use Rattle.ep_tree.specs.Values.{ValueTree}
use Rattle.ep_tree.specs.declared.values.Mode.{Mode}
use Rattle.ep_gen.specs.Hints.{order_of, square_rows}
use Rattle.ep_gen_laws.proofs.ModelTree.{Places, model_tree, columns_differ, hints_are_met, rows_differ}
use Rattle.ep_gen_laws.proofs.Bodies.{env_with_cells, hints_fine}
use Rattle.ep_gen_laws.proofs.Bound.{all_bound, instance_of, model_bound, orders}
use Rattle.ep_gen_laws.proofs.Fitting.{RowsPass, square_in}
use Rattle.ep_gen_laws.proofs.Nodes.{all_fine, are_near, fine, fine_joined, reach_within, weight_joined, weight_within}
use Rattle.ep_gen_laws.proofs.Orders.{IsComputed, order_computed}
use Rattle.ep_gen_laws.proofs.ParamsKnown.{KnowsParams}
use Rattle.ep_gen_laws.proofs.Passing.{hints_count, hints_pass, up_to}

-- ---- all that is met

more_room : (w m k : ℕ) → m ≤ k → nat_le w m ≡ true → nat_le w k ≡ true
more_room w m k le h = grind (arith, nat_tests)

looser : (m k : ℕ) → m ≤ k → (nodes : List Met) → all_fine m nodes ≡ true → all_fine k nodes ≡ true
looser m k le [] all = refl
looser m k le (node ∷ nodes) all =
    let both = and_parts (fine m node) (all_fine m nodes) all in
    let own = and_parts (are_near (reaches_at Mode.Relational node)) (nat_le (weight_at Mode.Relational node) m) both.0 in
    and_from (fine k node) (all_fine k nodes)
    (and_from (are_near (reaches_at Mode.Relational node)) (nat_le (weight_at Mode.Relational node) k) own.0 (more_room (weight_at Mode.Relational node) m k le own.1))
    (looser m k le nodes both.1)

none_passed : (cells weight : ℕ) (nodes : List Met) → nat_lt MOST_SIZE (cells + size_of nodes) ≡ false → int_lt MOST_NUMBER (farthest_reach Mode.Relational nodes) ≡ false → nat_lt MOST_WEIGHT weight ≡ false
    → or_weight (limits_passed Mode.Relational cells nodes) weight ≡ []
unfolding or_weight limits_passed
none_passed cells weight nodes size reach light = rw (size, reach, light) refl

few : (cells size : ℕ) → cells ≤ 400 → size ≤ 8200 → nat_lt MOST_SIZE (0 + cells + size) ≡ false
few cells size h k = grind (arith, nat_tests)

light : (cells weight : ℕ) → cells ≤ 8000 → weight ≤ 2800000 → nat_lt MOST_WEIGHT (0 + cells + weight) ≡ false
light cells weight h k = grind (arith, nat_tests)

-- three lists of nodes with nothing behind them
three : List Met → List Met → List Met → List Met
three one two others = one ++ (two ++ (others ++ []))

three_few : (one two others : List Met) → length one ≤ 100 → length two ≤ 100 → length others ≤ 8000 → length (three one two others) ≤ 8200
unfolding three
three_few one two others h k l =
    let a = length-append one (two ++ (others ++ [])) in
    let b = length-append two (others ++ []) in
    let c = length-append others [] in
    omega (arith, a, b, c, h, k, l)

three_light : (one two others : List Met) → length one ≤ 100 → length two ≤ 100 → length others ≤ 8000
    → all_fine 10000 one ≡ true → all_fine 10000 two ≡ true → all_fine 100 others ≡ true → weight_of Mode.Relational (three one two others) ≤ 2800000
unfolding three
three_light one two others h k l f g e =
    let a = weight_joined one (two ++ (others ++ [])) in
    let b = weight_joined two (others ++ []) in
    let c = weight_joined others [] in
    let d = weight_within 10000 [] refl in
    let u = weight_within 10000 one f in
    let v = weight_within 10000 two g in
    let w = weight_within 100 others e in
    omega (arith, a, b, c, d, u, v, w, h, k, l)

three_fine : (one two others : List Met) → all_fine 10000 one ≡ true → all_fine 10000 two ≡ true → all_fine 100 others ≡ true → all_fine 10000 (three one two others) ≡ true
unfolding three
three_fine one two others f g e =
    fine_joined 10000 one (two ++ (others ++ [])) f (fine_joined 10000 two (others ++ []) g (fine_joined 10000 others [] (looser 100 10000 (omega arith) others e) refl))

instance_within : (at : Places) (n : ℕ) (rows : List (List ℤ)) → IsComputed n → RowsPass (up_to n) n rows → instance_limits Mode.Relational (instance_of at n (square_in (orders n) rows)) ≡ []
unfolding instance_limits instance_weight met_instance met_in cells_bound put_all three
instance_within at n rows known pass =
    let v : ValueTree = square_in (orders n) rows in
    let env : Env = env_with_cells n v in
    let one : List Met = met Mode.Relational env (rows_differ at) in
    let two : List Met = met Mode.Relational env (columns_differ at) in
    let others : List Met = met Mode.Relational env (hints_are_met at) in
    let short = leb-true (length one) 100 (known.few_rows at v) in
    let brief = leb-true (length two) 100 (known.few_columns at v) in
    let small = leb-true (length others) 8000 (known.few_hints at v) in
    let near = hints_fine at n rows known.small pass in
    let cells : ℕ = cell_count (orders n ∷ orders n ∷ []) in
    none_passed (0 + cells) (0 + cells * length (orders n) + weight_of Mode.Relational (three one two others)) (three one two others)
    (few cells (length (three one two others)) (leb-true cells 400 known.few_cells) (three_few one two others short brief small))
    (reach_within 10000 (three one two others) (three_fine one two others (known.rows_fine at v) (known.columns_fine at v) near))
    (light (cells * length (orders n)) (weight_of Mode.Relational (three one two others)) (leb-true (cells * length (orders n)) 8000 known.few_values)
    (three_light one two others short brief small (known.rows_fine at v) (known.columns_fine at v) near))

-- Under what is known the model is bound, and its instance passes no limit.
pub record IsBoundWithinLimits (at : Places) (known : Env) : Type 0 where
  pub progress : Progress
  pub bound : bind_statements Mode.Relational known nothing_bound (model_tree at) ≡ Ok progress
  pub within : instance_limits Mode.Relational progress.instance ≡ []

pub bound_within : (number : ℕ) (at : Places) (known : Env) → KnowsParams number known → IsBoundWithinLimits at known
unfolding scalar_of
bound_within number at known params =
    let n : ℕ = order_of number in
    let rows : List (List ℤ) = square_rows number n in
    let computed = order_computed number in
    let pass : RowsPass (up_to n) n rows = hints_pass number n computed.fitting.some in
    let v : ValueTree = square_in (orders n) rows in
    record {
      progress = all_bound at n v;
      bound =
          model_bound at n rows known params.order.ty params.hints.ty computed.fitting (hints_count number n) pass (computed.hint_limits at) (computed.find_limits at v)
          params.order.is params.order.own params.hints.is params.hints.own;
      within = instance_within at n rows computed pass;
    }
