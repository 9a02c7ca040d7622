-- What is met for each hint is near and light.
use Rattle.std.proofs.Common.{◌≡◌, ℕ, ◌+◌, ◌≤◌, Bool, true, false, cond, ◌||◌, List, [], ◌∷◌, length, map, ℤ, pos, negsuc, ◌+ℤ◌, ◌-ℤ◌, Option, Some, None, codes, refl, sym, ap, subst, ◌∙◌, arith, int_le, int_lt, nat_le}
use Rattle.std.specs.Prelude.{flat_map}
use Rattle.std.specs.List.{list_all}
use Rattle.std.proofs.lemmas.Bool.{and_from, and_parts, false≢true}
use Rattle.std.proofs.lemmas.Bool.Decides.{nat_tests}
use Rattle.std.proofs.lemmas.Int.{ints}
use Rattle.std.proofs.lemmas.List.{length-map}
use Rattle.ep_base.specs.Intervals.{farthest_end, only, spanned, width}
use Rattle.ep_base.specs.Numbers.{absolute_of, compare_holds, of_bool}
use Rattle.ep_base.specs.Options.{map_both}
use Rattle.ep_base.specs.Reads.{MOST_NUMBER}
use Rattle.ep_base.specs.Runs.{or_zero}
use Rattle.ep_base.specs.declared.names.Name.{Name}
use Rattle.ep_base.specs.declared.operators.CompareOp.{CompareOp}
use Rattle.ep_tree.proofs.Opened.{the_language}
use Rattle.ep_tree.specs.Environments.{Env, has_cells, has_value}
use Rattle.ep_tree.specs.Evaluation.{number_in, truth_in}
use Rattle.ep_tree.specs.Measures.{Met, a_node, met, met_domain, number_reach, reaches_at, weight_at}
use Rattle.ep_tree.specs.Names.{put}
use Rattle.ep_tree.specs.Reach.{Span, cell_span, fixed_extent, fixed_index, instance_span, parts_left, read_span, span_of}
use Rattle.ep_tree.specs.Trees.{DomainTree, ExprTree, compare, group, number, quantified}
use Rattle.ep_tree.specs.Values.{ValueTree, at_index, filled, matrix, read_value, scalars_of, single}
use Rattle.ep_tree.specs.declared.syntax.QuantOp.{QuantOp}
use Rattle.ep_tree.specs.declared.values.Mode.{Mode}
use Rattle.ep_tree.specs.declared.values.Scalar.{Scalar}
use Rattle.ep_tree.specs.declared.values.ValueType.{ValueType}
use Rattle.ep_gen_laws.proofs.ModelTree.{Places, cell_at, hint_is_met, hints_are_met, name_at, up_to_n}
use Rattle.ep_gen_laws.proofs.Bound.{env_with_hints, orders}
use Rattle.ep_gen_laws.proofs.Cells.{Lone, PassesRead, square_left, square_read}
use Rattle.ep_gen_laws.proofs.Fitting.{RowsPass, square_in}
use Rattle.ep_gen_laws.proofs.Nodes.{all_fine, are_near, fine, fine_in_each, fine_joined, near}
use Rattle.ep_gen_laws.proofs.Passing.{up_to}

-- ---- numbers

same_choice : {A : Type 0} (t : Bool) (x : A) → cond t x x ≡ x
same_choice true x = refl
same_choice false x = refl

absolute_twice : (x : ℤ) → absolute_of (absolute_of x) ≡ absolute_of x
unfolding absolute_of
absolute_twice (pos n) = refl
absolute_twice (negsuc n) = refl

-- a number alone
near_only : (x : ℤ) → near x ≡ true → are_near (only x ∷ []) ≡ true
unfolding farthest_end
near_only x h =
    and_from (near (farthest_end (only x))) true
    (ap near (same_choice (int_lt (absolute_of x) (absolute_of x)) (absolute_of x)) ∙ ap (λ y. int_le y MOST_NUMBER) (absolute_twice x) ∙ h) refl

small_near : (m : ℕ) → m ≤ 100 → int_le (pos m) MOST_NUMBER ≡ true
small_near m le = grind (arith, ints)

pub natural_near : (m : ℕ) → m ≤ 100 → near (pos m) ≡ true
unfolding absolute_of
natural_near m le = small_near m le

passing_near : (n : ℕ) (x : ℤ) → n ≤ 100 → up_to n x ≡ true → near x ≡ true
unfolding absolute_of
passing_near n (pos m) le h =
    let both = either_one _ h in
    let at : int_le (pos m) (pos n) ≡ true = (and_parts (int_le (pos 0) (pos m)) (int_le (pos m) (pos n)) both).1 in
    small_near m (omega (arith, ints, at, le))
  where
    either_one : (b : Bool) → (b || false) ≡ true → b ≡ true
    either_one true e = refl
    either_one false e = e
passing_near n (negsuc m) le h = absurd (false≢true h)

-- ---- what is reached

truth_near : (b : Bool) → are_near (only (of_bool b) ∷ []) ≡ true
unfolding of_bool farthest_end absolute_of
truth_near true = refl
truth_near false = refl

told_near : (o : Option ValueTree) → are_near (number_reach (fixed_extent ValueType.Bool (truth_in Mode.Relational (map_both (compare_holds CompareOp.NotEqual) (number_in o) (Some (pos 0)))))) ≡ true
unfolding the_language
told_near None = refl
told_near (Some (single x)) = truth_near (compare_holds CompareOp.NotEqual x (pos 0))
told_near (Some (matrix is parts)) = refl

hint_near : (n : ℕ) (o : Option ValueTree) → n ≤ 100 → PassesRead (up_to n) o → are_near (number_reach (fixed_extent ValueType.Int o)) ≡ true
unfolding the_language
hint_near n None le pass = refl
hint_near n (Some (single x)) le pass = near_only x (passing_near n x le pass)
hint_near n (Some (matrix is parts)) le pass = absurd pass

cell_near : (s : Span) (left : List Span) → are_near (s.reach ∷ []) ≡ true → Lone s left → are_near (number_reach (single (read_span true Scalar.Int left))) ≡ true
unfolding the_language
cell_near s [] h lone = refl
cell_near s (x ∷ []) h lone = subst (λ (y : Span). are_near (y.reach ∷ []) ≡ true) (sym lone) h
cell_near s (x ∷ y ∷ others) h lone = absurd lone

-- ---- what is weighed

one_wide : (x : ℤ) → width (only x) ≡ 1
unfolding width
one_wide x = let one : (x +ℤ pos 1) -ℤ x ≡ pos 1 = omega (arith, ints) in ap or_zero one

hint_narrow : (p : ℤ → Bool) (o : Option ValueTree) → PassesRead p o → width (span_of (fixed_extent ValueType.Int o)).reach ≤ 1
unfolding the_language
hint_narrow p None pass = omega arith
hint_narrow p (Some (single x)) pass = let one = one_wide x in omega (arith, one)
hint_narrow p (Some (matrix is parts)) pass = absurd pass

cell_narrow : (s : Span) (left : List Span) → width s.reach ≤ 50 → Lone s left → width (read_span true Scalar.Int left).reach ≤ 50
unfolding the_language
cell_narrow s [] h lone = omega arith
cell_narrow s (x ∷ []) h lone = subst (λ (y : Span). width y.reach ≤ 50) (sym lone) h
cell_narrow s (x ∷ y ∷ others) h lone = absurd lone

two_narrow : (a b : ℕ) → a ≤ 50 → b ≤ 1 → nat_le (0 + a + b) 100 ≡ true
two_narrow a b h k = grind (arith, nat_tests)

-- ---- nodes

fine_node : (m : ℕ) (node : Met) → are_near (reaches_at Mode.Relational node) ≡ true → nat_le (weight_at Mode.Relational node) m ≡ true → fine m node ≡ true
fine_node m node h k = and_from (are_near (reaches_at Mode.Relational node)) (nat_le (weight_at Mode.Relational node) m) h k

-- each node is fine
abbrev EachFine : ℕ → List Met → Type 0
EachFine m [] = Unit {0}
EachFine m (node ∷ nodes) = (fine m node ≡ true) × EachFine m nodes

each_fine : (m : ℕ) (nodes : List Met) → EachFine m nodes → all_fine m nodes ≡ true
each_fine m [] each = refl
each_fine m (node ∷ nodes) each = and_from (fine m node) (all_fine m nodes) each.0 (each_fine m nodes each.1)

-- ---- environments

-- the cells, and what the names i and j stand for
abbrev pub env_with_cells : ℕ → ValueTree → Env
env_with_cells n v = put (codes "q") (has_cells Scalar.Int (orders n ∷ orders n ∷ []) (orders n)) (env_with_hints n v)

abbrev number_for : Name → Env → ℤ → Env
number_for name env x = put name (has_value ValueType.Int (single x)) env

-- What holds of an order by computation, for what is met.
pub record IsSmallOrder (n : ℕ) : Type 0 where
  pub low : n ≤ 50
  pub count : length (orders n) ≡ n
  pub each : list_all near (orders n) ≡ true
  pub spans : are_near (spanned (orders n) ∷ []) ≡ true
  pub narrow : width (spanned (orders n)) ≤ 50

-- what is met for a hint
body_fine : (at : Places) (n : ℕ) (rows : List (List ℤ)) (i j : ℤ) → IsSmallOrder n → RowsPass (up_to n) n rows → near i ≡ true → near j ≡ true
    → all_fine 100 (met Mode.Relational (number_for (codes "j") (number_for (codes "i") (env_with_cells n (square_in (orders n) rows)) i) j) (hint_is_met at)) ≡ true
unfolding the_language
body_fine at n rows i j small pass near_i near_j =
    let env : Env = number_for (codes "j") (number_for (codes "i") (env_with_cells n (square_in (orders n) rows)) i) j in
    let le : n ≤ 100 = let low = small.low in omega (arith, low) in
    let o : Option ValueTree = read_value (at_index i ∷ at_index j ∷ []) (square_in (orders n) rows) in
    let read : PassesRead (up_to n) o = square_read (up_to n) n (orders n) rows i j pass in
    let s : Span = cell_span Scalar.Int (orders n) in
    let left : List Span = flat_map scalars_of (parts_left (fixed_index (Some i) ∷ fixed_index (Some j) ∷ []) (filled s (orders n ∷ orders n ∷ []))) in
    let lone : Lone s left = square_left s (orders n) i j in
    let differs : ExprTree = compare (at 125) CompareOp.NotEqual (cell_at at 125 (codes "hint")) (number (at 132) (pos 0)) in
    let same : ExprTree = compare (at 136) CompareOp.Equal (cell_at at 136 (codes "q")) (cell_at at 143 (codes "hint")) in
    each_fine 100 (met Mode.Relational env (hint_is_met at))
    (refl, (fine_node 100 (a_node env (group (at 124) differs)) (told_near o) refl, (fine_node 100 (a_node env differs) (told_near o) refl, (fine_node 100 (a_node env (cell_at at 125 (codes "hint"))) (hint_near n o le read) refl, (refl, (fine_node 100 (a_node env (name_at at 127 (codes "i"))) (near_only i near_i) refl, (fine_node 100 (a_node env (name_at at 129 (codes "j"))) (near_only j near_j) refl, (refl, (refl, (fine_node 100 (a_node env same) refl (two_narrow (width (read_span true Scalar.Int left).reach) (width (span_of (fixed_extent ValueType.Int o)).reach) (cell_narrow s left small.narrow lone) (hint_narrow (up_to n) o read)), (fine_node 100 (a_node env (cell_at at 136 (codes "q"))) (cell_near s left small.spans lone) refl, (refl, (fine_node 100 (a_node env (name_at at 138 (codes "i"))) (near_only i near_i) refl, (fine_node 100 (a_node env (name_at at 140 (codes "j"))) (near_only j near_j) refl, (fine_node 100 (a_node env (cell_at at 143 (codes "hint"))) (hint_near n o le read) refl, (refl, (fine_node 100 (a_node env (name_at at 145 (codes "i"))) (near_only i near_i) refl, (fine_node 100 (a_node env (name_at at 147 (codes "j"))) (near_only j near_j) refl, tt))))))))))))))))))

counted : {A B C : Type 0} (f : B → C) (g : A → B) (xs : List A) → length xs ≤ 50 → nat_le (length (map f (map g xs)) + 1) 100 ≡ true
counted f g xs le =
    let one = length-map (map g xs) f in
    let other = length-map xs g in
    grind (arith, nat_tests, one, other, le)

-- ---- the quantifier over hints

heads_fine : (m : ℕ) (node low high : Met) → fine m node ≡ true → fine m low ≡ true → fine m high ≡ true → all_fine m (node ∷ low ∷ high ∷ []) ≡ true
heads_fine m node low high h k l = each_fine m (node ∷ low ∷ high ∷ []) (h, (k, (l, tt)))

-- where i is a number, and j each number of the domain
column_fine : (at : Places) (n : ℕ) (rows : List (List ℤ)) (i : ℤ) → IsSmallOrder n → RowsPass (up_to n) n rows → near i ≡ true
    → all_fine 100 (met Mode.Relational (number_for (codes "i") (env_with_cells n (square_in (orders n) rows)) i) (quantified (at 112) QuantOp.ForAll (codes "j" ∷ []) (up_to_n at 117 (pos 1)) (hint_is_met at))) ≡ true
unfolding the_language
column_fine at n rows i small pass near_i =
    let env : Env = number_for (codes "i") (env_with_cells n (square_in (orders n) rows)) i in
    let d : DomainTree = up_to_n at 117 (pos 1) in
    let whole : ExprTree = quantified (at 112) QuantOp.ForAll (codes "j" ∷ []) d (hint_is_met at) in
    let enter : ℤ → Env = number_for (codes "j") env in
    let low = small.low in
    let count = small.count in
    fine_joined 100 (a_node env whole ∷ met_domain Mode.Relational env d)
    (flat_map (λ inner. met Mode.Relational inner (hint_is_met at)) (map enter (orders n)))
    (heads_fine 100 (a_node env whole) (a_node env (number (at 119) (pos 1))) (a_node env (name_at at 121 (codes "n")))
    (fine_node 100 (a_node env whole) refl
    (counted (instance_span Mode.Relational QuantOp.ForAll d (hint_is_met at) []) enter (orders n) (omega (arith, count, low))))
    refl (fine_node 100 (a_node env (name_at at 121 (codes "n"))) (near_only (pos n) (natural_near n (omega (arith, low)))) refl))
    (fine_in_each 100 (λ inner. met Mode.Relational inner (hint_is_met at)) enter near (λ j near_j. body_fine at n rows i j small pass near_i near_j) (orders n) small.each)

-- what is met where hints are met
pub hints_fine : (at : Places) (n : ℕ) (rows : List (List ℤ)) → IsSmallOrder n → RowsPass (up_to n) n rows
    → all_fine 100 (met Mode.Relational (env_with_cells n (square_in (orders n) rows)) (hints_are_met at)) ≡ true
unfolding the_language
hints_fine at n rows small pass =
    let env : Env = env_with_cells n (square_in (orders n) rows) in
    let d : DomainTree = up_to_n at 117 (pos 1) in
    let enter : ℤ → Env = number_for (codes "i") env in
    let inside : Env → List Met = λ inner. met Mode.Relational inner (quantified (at 112) QuantOp.ForAll (codes "j" ∷ []) d (hint_is_met at)) in
    let low = small.low in
    let count = small.count in
    fine_joined 100 (a_node env (hints_are_met at) ∷ met_domain Mode.Relational env d) (flat_map inside (map enter (orders n)))
    (heads_fine 100 (a_node env (hints_are_met at)) (a_node env (number (at 119) (pos 1))) (a_node env (name_at at 121 (codes "n")))
    (fine_node 100 (a_node env (hints_are_met at)) refl
    (counted (instance_span Mode.Relational QuantOp.ForAll d (hint_is_met at) (codes "j" ∷ [])) enter (orders n) (omega (arith, count, low))))
    refl (fine_node 100 (a_node env (name_at at 121 (codes "n"))) (near_only (pos n) (natural_near n (omega (arith, low)))) refl))
    (fine_in_each 100 inside enter near (λ i near_i. column_fine at n rows i small pass near_i) (orders n) small.each)
