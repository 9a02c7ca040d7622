-- The limits of values, where no decision variable stands.
use Rattle.std.specs.Prelude.{◌≡◌, ℕ, ◌+◌, Bool, true, false, not, ◌||◌, List, [], ◌∷◌, ◌++◌, map, ℤ, pos, ◌*ℤ◌, if◌then◌else◌, cond, nat_lt, int_lt, Some, None, fold, flat_map, Option, unwrap_or, option_to_list, refl}
use Rattle.std.proofs.Common.{ap, arith, sym, ◌∙◌}
use Rattle.std.proofs.lemmas.Int.{ints}
use Rattle.std.proofs.Math.Bool.{or_assoc}
use Rattle.std.specs.Int.{int_max}
use Rattle.std.specs.List.{list_all, list_any}
use Rattle.ep_base.specs.Intervals.{Interval, farthest_end, greatest_or_zero, least_or_zero, only, product_interval, spanned}
use Rattle.ep_base.specs.Numbers.{absolute_of, greatest_of, least_of}
use Rattle.ep_base.specs.Reads.{MOST_NUMBER, is_too_far}
use Rattle.ep_base.specs.declared.operators.Limit.{Limit}
use Rattle.ep_tree_laws.specs.FixedLimits.{is_fixed}
use Rattle.ep_tree.proofs.TypedParts.{and_left, and_right}
use Rattle.ep_tree.specs.Binding.{over_limit}
use Rattle.ep_tree.specs.Environments.{Env}
use Rattle.ep_tree.specs.Evaluation.{evaluate, number_in, scalars_in, type_in}
use Rattle.ep_tree.specs.Limits.{MOST_SIZE, limits_of_values, numbers_at, products_from}
use Rattle.ep_tree.specs.Measures.{Met, a_generator, a_node, farthest_of, farthest_reach, first_products, number_reach, reaches_at, size_of}
use Rattle.ep_tree.specs.Reach.{Extent, decisions_in, extent, fixed_extent, fixed_span, holds_decision, measured, no_extent, reaches}
use Rattle.ep_tree.specs.Solutions.{limits_passed}
use Rattle.ep_tree.specs.Trees.{ExprTree, absolute, all_different, all_of, any_of, at_least, at_most, binary, chain, compare, comprehension, factorial, flatten, folded, gcc, group, in_domain, in_set, lex, literal, minus, named, negation, number, quantified, read, table, to_int, truth}
use Rattle.ep_tree.specs.Types.{is_integer}
use Rattle.ep_tree.specs.Values.{Grid, Grids, ValueTree, map_grid, map_grids, matrix, no_values, scalars_of, scalars_of_all, single, value_and}
use Rattle.ep_tree.specs.declared.syntax.FoldOp.{FoldOp}
use Rattle.ep_tree.specs.declared.values.Mode.{Mode}
use Rattle.ep_tree.specs.declared.values.ValueType.{ValueType}

-- ---- numbers past a limit

greater_of : (m a b : ℤ) → int_lt m (int_max a b) ≡ (int_lt m a || int_lt m b)
greater_of m a b = grind (arith, ints)

-- the greatest absolute value is past a limit where one of the numbers is, or what it is begun with
greatest_past : (m a : ℤ) (xs : List ℤ) → int_lt m (fold int_max a (map absolute_of xs)) ≡ (int_lt m a || list_any (λ x. int_lt m (absolute_of x)) xs)
greatest_past m a [] = or_false (int_lt m a)
  where
    or_false : (b : Bool) → b ≡ (b || false)
    or_false true = refl
    or_false false = refl
greatest_past m a (x ∷ xs) =
    greatest_past m (int_max a (absolute_of x)) xs
    ∙ ap (λ b. b || list_any (λ y. int_lt m (absolute_of y)) xs) (greater_of m a (absolute_of x))
    ∙ or_assoc (int_lt m a) (int_lt m (absolute_of x)) (list_any (λ y. int_lt m (absolute_of y)) xs)

any_append : {A : Type 0} (f : A → Bool) (xs ys : List A) → list_any f (xs ++ ys) ≡ (list_any f xs || list_any f ys)
any_append f [] ys = refl
any_append f (x ∷ xs) ys = ap (λ b. f x || b) (any_append f xs ys) ∙ sym (or_assoc (f x) (list_any f xs) (list_any f ys))

any_map : {A B : Type 0} (f : B → Bool) (g : A → B) (xs : List A) → list_any f (map g xs) ≡ list_any (λ x. f (g x)) xs
any_map f g [] = refl
any_map f g (x ∷ xs) = ap (λ b. f (g x) || b) (any_map f g xs)

-- whether an interval has an end past the limit
abbrev is_far : Interval → Bool
is_far i = is_too_far (farthest_end i)

absolute_twice : (n : ℤ) → absolute_of (absolute_of n) ≡ absolute_of n
unfolding absolute_of
absolute_twice n = on n
  where
    on : (n : ℤ) → absolute_of (absolute_of n) ≡ absolute_of n
    on n = grind (arith, ints)

max_same : (a : ℤ) → int_max a a ≡ a
max_same a = go (int_lt a a)
  where
    go : (b : Bool) → cond b a a ≡ a
    go true = refl
    go false = refl

only_far : (n : ℤ) → is_far (only n) ≡ is_too_far n
unfolding is_too_far farthest_end
only_far n = ap (λ a. int_lt MOST_NUMBER (absolute_of a)) (max_same (absolute_of n)) ∙ ap (int_lt MOST_NUMBER) (absolute_twice n)

zero_near : is_far (only (pos 0)) ≡ false
unfolding is_too_far farthest_end absolute_of
zero_near = refl

-- ---- extents without a decision variable

measured_fixed : (mode : Mode) (env : Env) (e : ExprTree) (x : Extent) → holds_decision (decisions_in env) e ≡ false
    → measured mode env e x ≡ fixed_extent (type_in env e) (evaluate mode env e)
unfolding measured
measured_fixed mode env e x h = ap (λ b. if b then x else fixed_extent (type_in env e) (evaluate mode env e)) h

pub extent_fixed : (mode : Mode) (env : Env) (e : ExprTree) → holds_decision (decisions_in env) e ≡ false
    → extent mode env e ≡ fixed_extent (type_in env e) (evaluate mode env e)
unfolding extent fixed_extent map_grid evaluate
extent_fixed mode env (number p n) h = refl
extent_fixed mode env (truth p b) h = refl
extent_fixed mode env (named p name) h = measured_fixed mode env (named p name) _ h
extent_fixed mode env (group p e) h = measured_fixed mode env (group p e) _ h
extent_fixed mode env (negation p e) h = measured_fixed mode env (negation p e) _ h
extent_fixed mode env (minus p e) h = measured_fixed mode env (minus p e) _ h
extent_fixed mode env (absolute p e) h = measured_fixed mode env (absolute p e) _ h
extent_fixed mode env (to_int p e) h = measured_fixed mode env (to_int p e) _ h
extent_fixed mode env (factorial p e) h = measured_fixed mode env (factorial p e) _ h
extent_fixed mode env (flatten p m) h = measured_fixed mode env (flatten p m) _ h
extent_fixed mode env (chain p terms) h = measured_fixed mode env (chain p terms) _ h
extent_fixed mode env (binary p op a b) h = measured_fixed mode env (binary p op a b) _ h
extent_fixed mode env (compare p op a b) h = measured_fixed mode env (compare p op a b) _ h
extent_fixed mode env (lex p op a b) h = measured_fixed mode env (lex p op a b) _ h
extent_fixed mode env (in_domain p e d) h = measured_fixed mode env (in_domain p e d) _ h
extent_fixed mode env (in_set p e m) h = measured_fixed mode env (in_set p e m) _ h
extent_fixed mode env (all_of p parts) h = measured_fixed mode env (all_of p parts) _ h
extent_fixed mode env (any_of p parts) h = measured_fixed mode env (any_of p parts) _ h
extent_fixed mode env (quantified p op names d e) h = measured_fixed mode env (quantified p op names d e) _ h
extent_fixed mode env (literal p parts d) h = measured_fixed mode env (literal p parts d) _ h
extent_fixed mode env (comprehension p e gens conditions d) h = measured_fixed mode env (comprehension p e gens conditions d) _ h
extent_fixed mode env (read p m indices) h = measured_fixed mode env (read p m indices) _ h
extent_fixed mode env (folded p op m) h = measured_fixed mode env (folded p op m) _ h
extent_fixed mode env (all_different p m) h = measured_fixed mode env (all_different p m) _ h
extent_fixed mode env (gcc p m values counts) h = measured_fixed mode env (gcc p m values counts) _ h
extent_fixed mode env (at_least p m counts values) h = measured_fixed mode env (at_least p m counts values) _ h
extent_fixed mode env (at_most p m counts values) h = measured_fixed mode env (at_most p m counts values) _ h
extent_fixed mode env (table p row rows) h = measured_fixed mode env (table p row rows) _ h

-- a value's reach is far where the value is
fixed_far : (t : ValueType) (v : Option ValueTree) → list_any is_far (number_reach (fixed_extent t v)) ≡ list_any is_too_far (option_to_list (number_in v))
unfolding number_reach fixed_extent map_grid number_in fixed_span
fixed_far t (Some (single n)) = ap (λ b. b || false) (only_far n)
fixed_far t (Some (matrix is vs)) = refl
fixed_far t None = go (is_integer t)
  where
    go : (b : Bool) → list_any is_far (number_reach (if b then single (fixed_span None) else no_extent)) ≡ false
    go true = ap (λ b. b || false) zero_near
    go false = refl

map_append : {A B : Type 0} (f : A → B) (xs ys : List A) → map f (xs ++ ys) ≡ map f xs ++ map f ys
map_append f [] ys = refl
map_append f (x ∷ xs) ys = ap (λ zs. f x ∷ zs) (map_append f xs ys)

mutual
  unfolding scalars_of map_grid

  scalars_mapped : {A B : Type 0} (f : A → B) (v : Grid A) → scalars_of (map_grid f v) ≡ map f (scalars_of v)
  scalars_mapped f (single x) = refl
  scalars_mapped f (matrix is vs) = all_scalars_mapped f vs

  all_scalars_mapped : {A B : Type 0} (f : A → B) (vs : Grids A) → scalars_of_all (map_grids f vs) ≡ map f (scalars_of_all vs)
  all_scalars_mapped f no_values = refl
  all_scalars_mapped f (value_and v vs) =
      ap (λ xs. xs ++ scalars_of_all (map_grids f vs)) (scalars_mapped f v) ∙ ap (λ xs. map f (scalars_of v) ++ xs) (all_scalars_mapped f vs)
      ∙ sym (map_append f (scalars_of v) (scalars_of_all vs))

-- a product of numbers as intervals
same_four : (n : ℤ) → spanned (n ∷ n ∷ n ∷ n ∷ []) ≡ only n
unfolding spanned least_or_zero greatest_or_zero least_of greatest_of
same_four n = grind (arith, ints)

only_product : (a x : ℤ) → product_interval (only a) (only x) ≡ only (a *ℤ x)
unfolding product_interval
only_product a x = same_four (a *ℤ x)

products_far : (a : ℤ) (xs : List ℤ) → list_any is_far (first_products (only a) (reaches (map (λ n. fixed_span (Some n)) xs))) ≡ list_any is_too_far (products_from a xs)
unfolding first_products products_from fixed_span
products_far a [] = refl
products_far a (x ∷ xs) =
    ap (λ i. is_far i || list_any is_far (first_products i (reaches (map (λ n. fixed_span (Some n)) xs)))) (only_product a x)
    ∙ ap (λ b. b || list_any is_far (first_products (only (a *ℤ x)) (reaches (map (λ n. fixed_span (Some n)) xs)))) (only_far (a *ℤ x))
    ∙ ap (λ b. is_too_far (a *ℤ x) || b) (products_far (a *ℤ x) xs)

zero_product : list_any is_far (first_products (only (pos 1)) (reaches (scalars_of (single (fixed_span None))))) ≡ list_any is_too_far (products_from (pos 1) [])
unfolding first_products products_from fixed_span scalars_of
zero_product = ap (λ i. is_far i || false) (only_product (pos 1) (pos 0)) ∙ ap (λ b. b || false) zero_near

no_product : list_any is_far (first_products (only (pos 1)) (reaches (scalars_of no_extent))) ≡ list_any is_too_far (products_from (pos 1) [])
unfolding first_products products_from scalars_of
no_product = refl

parts_far : (t : ValueType) (v : Option ValueTree)
    → list_any is_far (first_products (only (pos 1)) (reaches (scalars_of (fixed_extent t v)))) ≡ list_any is_too_far (products_from (pos 1) (unwrap_or (scalars_in v) []))
unfolding fixed_extent
parts_far t (Some v) =
    ap (λ spans. list_any is_far (first_products (only (pos 1)) (reaches spans))) (scalars_mapped (λ n. fixed_span (Some n)) v)
    ∙ products_far (pos 1) (scalars_of v)
parts_far t None = go (is_integer t)
  where
    go : (b : Bool) → list_any is_far (first_products (only (pos 1)) (reaches (scalars_of (if b then single (fixed_span None) else no_extent)))) ≡ list_any is_too_far (products_from (pos 1) [])
    go true = zero_product
    go false = no_product

-- ---- nodes

number_far : (mode : Mode) (env : Env) (e : ExprTree) → holds_decision (decisions_in env) e ≡ false
    → list_any is_far (number_reach (extent mode env e)) ≡ list_any is_too_far (option_to_list (number_in (evaluate mode env e)))
number_far mode env e h =
    ap (λ x. list_any is_far (number_reach x)) (extent_fixed mode env e h) ∙ fixed_far (type_in env e) (evaluate mode env e)

product_far : (mode : Mode) (env : Env) (e m : ExprTree) → holds_decision (decisions_in env) e ≡ false → holds_decision (decisions_in env) m ≡ false
    → list_any is_far (number_reach (extent mode env e) ++ first_products (only (pos 1)) (reaches (scalars_of (extent mode env m))))
    ≡ list_any is_too_far (option_to_list (number_in (evaluate mode env e)) ++ products_from (pos 1) (unwrap_or (scalars_in (evaluate mode env m)) []))
product_far mode env e m h k =
    any_append is_far (number_reach (extent mode env e)) (first_products (only (pos 1)) (reaches (scalars_of (extent mode env m))))
    ∙ ap (λ b. b || list_any is_far (first_products (only (pos 1)) (reaches (scalars_of (extent mode env m))))) (number_far mode env e h)
    ∙ ap (λ b. list_any is_too_far (option_to_list (number_in (evaluate mode env e))) || b)
    (ap (λ x. list_any is_far (first_products (only (pos 1)) (reaches (scalars_of x)))) (extent_fixed mode env m k) ∙ parts_far (type_in env m) (evaluate mode env m))
    ∙ sym (any_append is_too_far (option_to_list (number_in (evaluate mode env e))) (products_from (pos 1) (unwrap_or (scalars_in (evaluate mode env m)) [])))

node_far : (mode : Mode) (env : Env) (e : ExprTree) → holds_decision (decisions_in env) e ≡ false
    → list_any is_far (reaches_at mode (a_node env e)) ≡ list_any is_too_far (numbers_at mode (a_node env e))
unfolding reaches_at numbers_at holds_decision
node_far mode env (number p n) h = number_far mode env (number p n) h
node_far mode env (truth p b) h = number_far mode env (truth p b) h
node_far mode env (named p name) h = number_far mode env (named p name) h
node_far mode env (group p e) h = number_far mode env (group p e) h
node_far mode env (negation p e) h = number_far mode env (negation p e) h
node_far mode env (minus p e) h = number_far mode env (minus p e) h
node_far mode env (absolute p e) h = number_far mode env (absolute p e) h
node_far mode env (to_int p e) h = number_far mode env (to_int p e) h
node_far mode env (factorial p e) h = number_far mode env (factorial p e) h
node_far mode env (flatten p m) h = number_far mode env (flatten p m) h
node_far mode env (chain p terms) h = number_far mode env (chain p terms) h
node_far mode env (binary p op a b) h = number_far mode env (binary p op a b) h
node_far mode env (compare p op a b) h = number_far mode env (compare p op a b) h
node_far mode env (lex p op a b) h = number_far mode env (lex p op a b) h
node_far mode env (in_domain p e d) h = number_far mode env (in_domain p e d) h
node_far mode env (in_set p e m) h = number_far mode env (in_set p e m) h
node_far mode env (all_of p parts) h = number_far mode env (all_of p parts) h
node_far mode env (any_of p parts) h = number_far mode env (any_of p parts) h
node_far mode env (quantified p op names d e) h = number_far mode env (quantified p op names d e) h
node_far mode env (literal p parts d) h = number_far mode env (literal p parts d) h
node_far mode env (comprehension p e gens conditions d) h = number_far mode env (comprehension p e gens conditions d) h
node_far mode env (read p m indices) h = number_far mode env (read p m indices) h
node_far mode env (folded p FoldOp.Product m) h = product_far mode env (folded p FoldOp.Product m) m h h
node_far mode env (folded p FoldOp.Sum m) h = number_far mode env (folded p FoldOp.Sum m) h
node_far mode env (folded p FoldOp.And m) h = number_far mode env (folded p FoldOp.And m) h
node_far mode env (folded p FoldOp.Or m) h = number_far mode env (folded p FoldOp.Or m) h
node_far mode env (folded p FoldOp.Min m) h = number_far mode env (folded p FoldOp.Min m) h
node_far mode env (folded p FoldOp.Max m) h = number_far mode env (folded p FoldOp.Max m) h
node_far mode env (all_different p m) h = number_far mode env (all_different p m) h
node_far mode env (gcc p m values counts) h = number_far mode env (gcc p m values counts) h
node_far mode env (at_least p m counts values) h = number_far mode env (at_least p m counts values) h
node_far mode env (at_most p m counts values) h = number_far mode env (at_most p m counts values) h
node_far mode env (table p row rows) h = number_far mode env (table p row rows) h

not_true : (b : Bool) → not b ≡ true → b ≡ false
not_true true h = sym h
not_true false h = refl

met_far : (mode : Mode) (m : Met) → is_fixed m ≡ true → list_any is_far (reaches_at mode m) ≡ list_any is_too_far (numbers_at mode m)
unfolding is_fixed reaches_at numbers_at
met_far mode a_generator h = refl
met_far mode (a_node env e) h = node_far mode env e (not_true (holds_decision (decisions_in env) e) h)

each_far : (mode : Mode) (ms : List Met) → list_all is_fixed ms ≡ true
    → list_any is_far (flat_map (reaches_at mode) ms) ≡ list_any is_too_far (flat_map (numbers_at mode) ms)
each_far mode [] h = refl
each_far mode (m ∷ ms) h =
    any_append is_far (reaches_at mode m) (flat_map (reaches_at mode) ms)
    ∙ ap (λ b. b || list_any is_far (flat_map (reaches_at mode) ms)) (met_far mode m (and_left (is_fixed m) (list_all is_fixed ms) h))
    ∙ ap (λ b. list_any is_too_far (numbers_at mode m) || b) (each_far mode ms (and_right (is_fixed m) (list_all is_fixed ms) h))
    ∙ sym (any_append is_too_far (numbers_at mode m) (flat_map (numbers_at mode) ms))

reach_far : (mode : Mode) (ms : List Met) → list_all is_fixed ms ≡ true
    → int_lt MOST_NUMBER (farthest_reach mode ms) ≡ list_any is_too_far (flat_map (numbers_at mode) ms)
unfolding farthest_reach farthest_of is_too_far
reach_far mode ms h =
    greatest_past MOST_NUMBER (pos 0) (map farthest_end (flat_map (reaches_at mode) ms))
    ∙ any_map is_too_far farthest_end (flat_map (reaches_at mode) ms) ∙ each_far mode ms h

-- Nodes without a decision variable pass the same limits by their values as by what they reach.
pub limits_fixed : (mode : Mode) (before : ℕ) (ms : List Met) → list_all is_fixed ms ≡ true
    → map over_limit (limits_of_values mode before ms) ≡ limits_passed mode before ms
unfolding limits_of_values limits_passed
limits_fixed mode before ms h =
    go (nat_lt MOST_SIZE (before + size_of ms)) (list_any is_too_far (flat_map (numbers_at mode) ms)) (int_lt MOST_NUMBER (farthest_reach mode ms)) (reach_far mode ms h)
  where
    go : (size one other : Bool) → other ≡ one
        → map over_limit ((if size then Limit.Size ∷ [] else []) ++ (if one then Limit.Reach ∷ [] else []))
        ≡ (if size then over_limit Limit.Size ∷ [] else []) ++ (if other then over_limit Limit.Reach ∷ [] else [])
    go true one true e = ap (λ b. over_limit Limit.Size ∷ map over_limit (if b then Limit.Reach ∷ [] else [])) (sym e)
    go true one false e = ap (λ b. over_limit Limit.Size ∷ map over_limit (if b then Limit.Reach ∷ [] else [])) (sym e)
    go false one true e = ap (λ b. map over_limit (if b then Limit.Reach ∷ [] else [])) (sym e)
    go false one false e = ap (λ b. map over_limit (if b then Limit.Reach ∷ [] else [])) (sym e)
