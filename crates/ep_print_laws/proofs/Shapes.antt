-- The expression of a printed value that fits index domains stands for it.
use Rattle.std.proofs.Common.{◌≡◌, ℕ, suc, ◌+◌, ◌==◌, Bool, true, false, ◌&&◌, List, [], ◌∷◌, ◌++◌, length, ℤ, Option, Some, None, refl, sym, ap, ap₂, subst, ◌∙◌, arith, inl, inr}
use Rattle.std.specs.Prelude.{◌⊎◌, if◌then◌else◌, option_and_then, option_map, option_to_list}
use Rattle.std.specs.List.{list_all, list_any}
use Rattle.std.proofs.lemmas.Bool.{and_from, and_parts, cond-true, eq-eqb}
use Rattle.std.proofs.lemmas.List.{length-append}
use Rattle.ep_base.proofs.Small.{map_is, no_some, some_is, then_is}
use Rattle.ep_base.specs.Runs.{IsAscending}
use Rattle.ep_base.specs.Reads.{is_too_far}
use Rattle.ep_base.specs.declared.places.Place.{Place}
use Rattle.ep_tree.proofs.TypedEvaluation.{with_indices_is}
use Rattle.ep_tree.specs.Environments.{Env}
use Rattle.ep_tree.specs.Evaluation.{evaluate, number_in, values_of}
use Rattle.ep_tree.specs.Faults.{faults, faults_of_all, type_fault}
use Rattle.ep_tree.specs.Measures.{a_node, met, met_all, met_domain, size_of}
use Rattle.ep_tree.specs.Limits.{numbers_at}
use Rattle.ep_tree.specs.Placeless.{placeless, placeless_domain, placeless_trees}
use Rattle.ep_tree.specs.Trees.{DomainTree, ExprTree, ExprTrees, literal, no_trees, over, tree_and}
use Rattle.ep_tree.specs.Types.{Context, all_typed, from_all, from_many, gives, has_dimensions, indexed_type, is_bool_scalar, is_boolean, is_integer, is_matrix, is_matrix_of_bool, judge, judge_all, list_of_matrices, list_type, of_scalar, scalar_of, stated_dimensions, typed}
use Rattle.ep_tree.specs.Values.{ValueTree, ValueTrees, all_defined, all_fitted, fitted, listed_values, matrix, no_values, scalar_fits, single, value_and, with_indices}
use Rattle.ep_tree.specs.declared.values.Mode.{Mode}
use Rattle.ep_tree.specs.declared.values.Scalar.{Scalar}
use Rattle.ep_tree.specs.declared.values.ValueType.{ValueType}
use Rattle.ep_print_laws.specs.Answered.{AreInOrder, IsInOrder, indices_domain, value_expr, value_exprs}
use Rattle.ep_print_laws.specs.GivenBack.{are_near_values, is_near, is_near_value}
use Rattle.ep_print_laws.proofs.Placed.{as_literal, as_more, as_no_trees}
use Rattle.ep_print_laws.proofs.Standing.{AreNear, DomainStands, StandsFor, indices_count, indices_stand, near_first, near_joined, scalar_count, scalar_stands}
use Rattle.ep_print_laws.proofs.Worth.{matrix_read, no_index}

-- ---- shapes

abbrev mutual
  -- a value has as many dimensions as there are index domains, and as many parts in each as that domain has values
  pub HasShape : List (List ℤ) → ValueTree → Type 0
  HasShape [] (single n) = Unit {0}
  HasShape [] (matrix old parts) = ⊥
  HasShape (indices ∷ inner) (single n) = ⊥
  HasShape (indices ∷ inner) (matrix old parts) = (length indices ≡ length (listed_values parts)) × HaveShape inner parts

  -- the same of each part
  pub HaveShape : List (List ℤ) → ValueTrees → Type 0
  HaveShape inner no_values = Unit {0}
  HaveShape inner (value_and v vs) = HasShape inner v × HaveShape inner vs

-- a list of parts of this type
pub more_type : ValueType → ValueType
more_type ValueType.Bool = ValueType.Matrix 1 Scalar.Bool
more_type ValueType.Int = ValueType.Matrix 1 Scalar.Int
more_type (ValueType.Matrix dims s) = ValueType.Matrix (dims + 1) s
more_type ValueType.Empty = ValueType.Matrix 2 Scalar.Bool

-- the type of the expression of a value of this shape
pub shaped_type : Scalar → List (List ℤ) → ValueType
shaped_type s [] = of_scalar s
shaped_type s ([] ∷ inner) = ValueType.Empty
shaped_type s ((n ∷ ns) ∷ inner) = more_type (shaped_type s inner)

-- a type is of a scalar, or of Booleans
abbrev pub IsOwn : Scalar → ValueType → Type 0
IsOwn s t = (scalar_of t ≡ s) ⊎ (scalar_of t ≡ Scalar.Bool)

more_own : (s : Scalar) (t : ValueType) → IsOwn s t → IsOwn s (more_type t)
unfolding more_type scalar_of
more_own s ValueType.Bool h = inr refl
more_own s ValueType.Int h = h
more_own s (ValueType.Matrix dims u) h = h
more_own s ValueType.Empty h = inr refl

pub shaped_own : (s : Scalar) (inner : List (List ℤ)) → IsOwn s (shaped_type s inner)
unfolding shaped_type scalar_of of_scalar
shaped_own Scalar.Bool [] = inl refl
shaped_own Scalar.Int [] = inl refl
shaped_own s ([] ∷ inner) = inr refl
shaped_own s ((n ∷ ns) ∷ inner) = more_own s (shaped_type s inner) (shaped_own s inner)

-- ---- what fits has the shape

no_parts : (ws : List ValueTree) → ◌≡◌ {A = Option (List ValueTree)} (Some []) (Some ws) → length ws ≡ 0
no_parts ws e = ap length (sym (some_is e))

mutual
  unfolding fitted listed_values

  pub fit_shape : (own wanted : Scalar) (passes : ℤ → Bool) (indices : List (List ℤ)) (v w : ValueTree) → fitted own wanted passes indices v ≡ Some w → HasShape indices v
  fit_shape own wanted passes [] (single n) w e = tt
  fit_shape own wanted passes (ix ∷ inner) (single n) w e = no_some e
  fit_shape own wanted passes [] (matrix old parts) w e = no_some e
  fit_shape own wanted passes (ix ∷ inner) (matrix old parts) w e =
      let p : _ = then_is (with_indices ix) (all_fitted own wanted passes inner parts) w e in
      let q : _ = with_indices_is ix p.0 w p.2 in
      let r = fits_shape own wanted passes inner parts p.0 p.1 in (q.0 ∙ r.0, r.1)

  fits_shape : (own wanted : Scalar) (passes : ℤ → Bool) (inner : List (List ℤ)) (vs : ValueTrees) (ws : List ValueTree) → all_fitted own wanted passes inner vs ≡ Some ws
      → (length ws ≡ length (listed_values vs)) × HaveShape inner vs
  fits_shape own wanted passes inner no_values ws e = (no_parts ws e, tt)
  fits_shape own wanted passes inner (value_and v vs) ws e =
      let p : _ = then_is (λ x. option_map (λ xs. x ∷ xs) (all_fitted own wanted passes inner vs)) (fitted own wanted passes inner v) ws e in
      let q : _ = map_is (λ xs. p.0 ∷ xs) (all_fitted own wanted passes inner vs) ws p.2 in
      let r = fits_shape own wanted passes inner vs q.0 q.1 in
      (ap length (sym q.2) ∙ ap suc r.0, (fit_shape own wanted passes inner v p.0 p.1, r.1))

number_as_bool : (a b : Bool) (n : ℤ) (w : ValueTree) → (if a && b then Some (single n) else None) ≡ Some w → (if b then Some (single n) else None) ≡ Some w
number_as_bool true b n w e = e
number_as_bool false b n w e = no_some e

-- what fits, fits as Booleans too
mutual
  unfolding fitted scalar_fits

  pub fit_as_bool : (own wanted : Scalar) (passes : ℤ → Bool) (indices : List (List ℤ)) (v w : ValueTree) → fitted own wanted passes indices v ≡ Some w → fitted Scalar.Bool wanted passes indices v ≡ Some w
  fit_as_bool own wanted passes [] (single n) w e = number_as_bool (scalar_fits own wanted) (passes n) n w e
  fit_as_bool own wanted passes (ix ∷ inner) (single n) w e = no_some e
  fit_as_bool own wanted passes [] (matrix old parts) w e = no_some e
  fit_as_bool own wanted passes (ix ∷ inner) (matrix old parts) w e =
      let p : _ = then_is (with_indices ix) (all_fitted own wanted passes inner parts) w e in
      ap (option_and_then (with_indices ix)) (fits_as_bool own wanted passes inner parts p.0 p.1) ∙ p.2

  fits_as_bool : (own wanted : Scalar) (passes : ℤ → Bool) (inner : List (List ℤ)) (vs : ValueTrees) (ws : List ValueTree) → all_fitted own wanted passes inner vs ≡ Some ws
      → all_fitted Scalar.Bool wanted passes inner vs ≡ Some ws
  fits_as_bool own wanted passes inner no_values ws e = e
  fits_as_bool own wanted passes inner (value_and v vs) ws e =
      let p : _ = then_is (λ x. option_map (λ xs. x ∷ xs) (all_fitted own wanted passes inner vs)) (fitted own wanted passes inner v) ws e in
      let q : _ = map_is (λ xs. p.0 ∷ xs) (all_fitted own wanted passes inner vs) ws p.2 in
      ap₂ (λ o os. option_and_then (λ x. option_map (λ xs. x ∷ xs) os) o) (fit_as_bool own wanted passes inner v p.0 p.1) (fits_as_bool own wanted passes inner vs q.0 q.1)
      ∙ ap Some q.2

pub fit_of_own : (s wanted : Scalar) (t : ValueType) (passes : ℤ → Bool) (indices : List (List ℤ)) (v w : ValueTree) → IsOwn s t → fitted s wanted passes indices v ≡ Some w
    → fitted (scalar_of t) wanted passes indices v ≡ Some w
fit_of_own s wanted t passes indices v w (inl same) e = ap (λ u. fitted u wanted passes indices v) same ∙ e
fit_of_own s wanted t passes indices v w (inr same) e = ap (λ u. fitted u wanted passes indices v) same ∙ fit_as_bool s wanted passes indices v w e

-- ---- the type of a list of equal types

-- a type for each part
pub copies : ValueTrees → ValueType → List ValueType
copies no_values t = []
copies (value_and v vs) t = t ∷ copies vs t

all_copies : (p : ValueType → Bool) (t : ValueType) (vs : ValueTrees) → p t ≡ true → list_all p (copies vs t) ≡ true
unfolding copies
all_copies p t no_values h = refl
all_copies p t (value_and v vs) h = and_from _ _ h (all_copies p t vs h)

none_stated : (vs : ValueTrees) → stated_dimensions (copies vs ValueType.Empty) ≡ None
unfolding copies stated_dimensions
none_stated no_values = refl
none_stated (value_and v vs) = none_stated vs

scalar_stated : (s : Scalar) (dims : ℕ) (vs : ValueTrees)
    → (if list_all is_matrix_of_bool (ValueType.Matrix dims s ∷ copies vs (ValueType.Matrix dims s)) then Scalar.Bool else Scalar.Int) ≡ s
unfolding is_matrix_of_bool is_bool_scalar
scalar_stated Scalar.Bool dims vs = cond-true _ _ _ (all_copies is_matrix_of_bool (ValueType.Matrix dims Scalar.Bool) vs refl)
scalar_stated Scalar.Int dims vs = refl

list_of_copies : (t : ValueType) (vs : ValueTrees) → list_type (t ∷ copies vs t) ≡ typed (more_type t)
unfolding list_type list_of_matrices stated_dimensions more_type is_integer is_boolean is_matrix has_dimensions gives
list_of_copies ValueType.Bool vs =
    cond-true (list_all is_integer (copies vs ValueType.Bool)) _ _ (all_copies is_integer ValueType.Bool vs refl)
    ∙ ap (λ b. typed (ValueType.Matrix 1 (if b then Scalar.Bool else Scalar.Int))) (all_copies is_boolean ValueType.Bool vs refl)
list_of_copies ValueType.Int vs = cond-true (list_all is_integer (copies vs ValueType.Int)) _ _ (all_copies is_integer ValueType.Int vs refl)
list_of_copies (ValueType.Matrix dims s) vs =
    let same : (dims == dims) ≡ true = eq-eqb dims dims refl in
    cond-true (list_all is_matrix (copies vs (ValueType.Matrix dims s))) _ _ (all_copies is_matrix (ValueType.Matrix dims s) vs refl)
    ∙ ap₂ (λ u b. gives (ValueType.Matrix (dims + 1) u) b) (scalar_stated s dims vs) (and_from _ _ same (all_copies (has_dimensions dims) (ValueType.Matrix dims s) vs same))
list_of_copies ValueType.Empty vs =
    cond-true (list_all is_matrix (copies vs ValueType.Empty)) _ _ (all_copies is_matrix ValueType.Empty vs refl)
    ∙ ap (list_of_matrices (ValueType.Empty ∷ copies vs ValueType.Empty)) (none_stated vs)

-- ---- what stands for parts

-- how many nodes the expression of a value has
mutual
  pub value_count : Scalar → ValueTree → ℕ
  value_count s (single n) = scalar_count s n
  value_count s (matrix indices no_values) = suc (0 + indices_count [])
  value_count s (matrix indices (value_and v vs)) = suc ((value_count s v + values_count s vs) + indices_count indices)

  pub values_count : Scalar → ValueTrees → ℕ
  values_count s no_values = 0
  values_count s (value_and v vs) = value_count s v + values_count s vs

-- expressions stand for the parts of a matrix, each of one type
record PartsStand (vs : ValueTrees) (t : ValueType) (n : ℕ) (es : ExprTrees) : Type 0 where
  values : (mode : Mode) (env : Env) → all_defined (values_of mode env es) ≡ Some (listed_values vs)
  judged : (context : Context) → all_typed (judge_all context es) ≡ Some (copies vs t)
  faultless : (context : Context) (decisions : Bool) → faults_of_all context decisions es ≡ []
  within : are_near_values vs ≡ true → (mode : Mode) (env : Env) → AreNear mode (met_all mode env es)
  counted : (mode : Mode) (env : Env) → size_of (met_all mode env es) ≡ n

no_part_stands : (t : ValueType) → PartsStand no_values t 0 no_trees
unfolding evaluate judge faults met all_defined all_typed copies listed_values
no_part_stands t =
    record {
      values = λ mode env. refl;
      judged = λ context. refl;
      faultless = λ context decisions. refl;
      within = λ near mode env. refl;
      counted = λ mode env. refl;
    }

part_stands : (v : ValueTree) (vs : ValueTrees) (t : ValueType) (m n : ℕ) (e : ExprTree) (es : ExprTrees) → StandsFor v t m e → PartsStand vs t n es → PartsStand (value_and v vs) t (m + n) (tree_and e es)
unfolding evaluate judge faults met all_defined all_typed copies listed_values is_near_value
part_stands v vs t m n e es h k =
    record {
      values = λ mode env. ap (λ o. all_defined (o ∷ values_of mode env es)) (h.value mode env) ∙ ap (option_map (λ ws. v ∷ ws)) (k.values mode env);
      judged = λ context. ap (λ j. all_typed (j ∷ judge_all context es)) (h.judged context) ∙ ap (option_map (λ ts. t ∷ ts)) (k.judged context);
      faultless = λ context decisions. ap₂ (λ xs ys. xs ++ ys) (h.faultless context decisions) (k.faultless context decisions);
      within = λ near mode env.
          let parts = and_parts (is_near_value v) (are_near_values vs) near in
          near_joined mode (met mode env e) (met_all mode env es) (h.within parts.0 mode env) (k.within parts.1 mode env);
      counted = λ mode env. length-append (met mode env e) (met_all mode env es) ∙ ap₂ (λ x y. x + y) (h.counted mode env) (k.counted mode env);
    }

-- a list over an index domain
list_stands : (p : Place) (indices : List ℤ) (vs : ValueTrees) (t u : ValueType) (m n : ℕ) (es : ExprTrees) (d : DomainTree) → length indices ≡ length (listed_values vs) → list_type (copies vs u) ≡ typed t
    → PartsStand vs u m es → DomainStands indices n d → StandsFor (matrix indices vs) t (suc (m + n)) (literal p es (over d))
unfolding evaluate judge faults met from_many from_all all_typed indexed_type is_integer type_fault numbers_at number_in is_near_value
list_stands p indices vs t u m n es d long list h k =
    let value : (mode : Mode) (env : Env) → evaluate mode env (literal p es (over d)) ≡ Some (matrix indices vs) =
    λ mode env. matrix_read mode env indices es d vs (k.value mode env) (h.values mode env) long in
    let judged : (context : Context) → judge context (literal p es (over d)) ≡ typed t =
    λ context.
    ap (λ j. from_many (j ∷ []) (λ ds. from_many (judge_all context es) (λ ts. indexed_type ds (list_type ts)))) (k.judged context)
    ∙ ap (λ o. from_all o (λ ts. indexed_type (ValueType.Int ∷ []) (list_type ts))) (h.judged context) ∙ list in
    record {
      value = value;
      judged = judged;
      faultless = λ context decisions.
          ap₂ (λ xs ys. xs ++ ys) (ap₂ (λ j xs. type_fault p j ++ xs) (judged context) (h.faultless context decisions)) (k.faultless context);
      within = λ near mode env.
          let parts = and_parts (list_all is_near indices) (are_near_values vs) near in
          near_first mode (a_node env (literal p es (over d))) (met_all mode env es ++ met_domain mode env d)
          (ap (λ v. list_any is_too_far (option_to_list (number_in v))) (value mode env))
          (near_joined mode (met_all mode env es) (met_domain mode env d) (h.within parts.1 mode env) (k.within parts.0 mode env));
      counted = λ mode env.
          ap suc (length-append (met_all mode env es) (met_domain mode env d) ∙ ap₂ (λ x y. x + y) (h.counted mode env) (k.counted mode env));
    }

-- ---- values

nothing_ascends : IsAscending []
nothing_ascends i j d less inside = absurd (omega (arith, inside))

no_list : list_type (copies no_values ValueType.Bool) ≡ typed ValueType.Empty
unfolding list_type copies
no_list = refl

mutual
  unfolding value_expr placeless shaped_type value_count copies listed_values

  -- the expression of a value in order, of a shape, stands for it
  pub value_stands : (s : Scalar) (indices : List (List ℤ)) (v : ValueTree) (e : ExprTree) → IsInOrder s v → HasShape indices v → placeless e ≡ placeless (value_expr s v)
      → StandsFor v (shaped_type s indices) (value_count s v) e
  value_stands s [] (single n) e is shape h = scalar_stands s n e is h
  value_stands s [] (matrix old parts) e is shape h = absurd shape
  value_stands s (ix ∷ inner) (single n) e is shape h = absurd shape
  value_stands s ([] ∷ inner) (matrix old no_values) e is shape h =
      let a = as_literal e no_trees (placeless_domain (indices_domain [])) h in
      let parts : PartsStand no_values ValueType.Bool 0 a.inner = subst (PartsStand no_values ValueType.Bool 0) (sym (as_no_trees a.inner a.same_parts)) (no_part_stands ValueType.Bool) in
      let domain = indices_stand [] a.index nothing_ascends a.same_index in
      subst (λ ns. StandsFor (matrix ns no_values) ValueType.Empty (suc (0 + indices_count [])) e) (sym (no_index old is.0))
      (subst (StandsFor (matrix [] no_values) ValueType.Empty (suc (0 + indices_count []))) (sym a.is)
      (list_stands a.place [] no_values ValueType.Empty ValueType.Bool 0 (indices_count []) a.inner a.index refl no_list parts domain))
  value_stands s ((n ∷ ns) ∷ inner) (matrix old no_values) e is shape h = absurd (omega (arith, shape.0))
  value_stands s ([] ∷ inner) (matrix old (value_and v vs)) e is shape h = absurd (omega (arith, shape.0))
  value_stands s ((n ∷ ns) ∷ inner) (matrix old (value_and v vs)) e is shape h =
      let u = shaped_type s inner in
      let a = as_literal e (tree_and (placeless (value_expr s v)) (placeless_trees (value_exprs s vs))) (placeless_domain (indices_domain old)) h in
      let b = as_more a.inner (placeless (value_expr s v)) (placeless_trees (value_exprs s vs)) a.same_parts in
      let parts : PartsStand (value_and v vs) u (value_count s v + values_count s vs) a.inner =
      subst (PartsStand (value_and v vs) u (value_count s v + values_count s vs)) (sym b.is)
      (part_stands v vs u (value_count s v) (values_count s vs) b.one b.others (value_stands s inner v b.one is.2.0 shape.1.0 b.same_one) (parts_stand s inner vs b.others is.2.1 shape.1.1 b.same_others)) in
      let domain = indices_stand old a.index is.1 a.same_index in
      subst (StandsFor (matrix old (value_and v vs)) (more_type u) (suc ((value_count s v + values_count s vs) + indices_count old))) (sym a.is)
      (list_stands a.place old (value_and v vs) (more_type u) u (value_count s v + values_count s vs) (indices_count old) a.inner a.index is.0 (list_of_copies u vs) parts domain)

  -- the same of the parts of a matrix
  parts_stand : (s : Scalar) (inner : List (List ℤ)) (vs : ValueTrees) (es : ExprTrees) → AreInOrder s vs → HaveShape inner vs → placeless_trees es ≡ placeless_trees (value_exprs s vs)
      → PartsStand vs (shaped_type s inner) (values_count s vs) es
  parts_stand s inner no_values es are shape h =
      subst (PartsStand no_values (shaped_type s inner) 0) (sym (as_no_trees es h)) (no_part_stands (shaped_type s inner))
  parts_stand s inner (value_and v vs) es are shape h =
      let b = as_more es (placeless (value_expr s v)) (placeless_trees (value_exprs s vs)) h in
      subst (PartsStand (value_and v vs) (shaped_type s inner) (value_count s v + values_count s vs)) (sym b.is)
      (part_stands v vs (shaped_type s inner) (value_count s v) (values_count s vs) b.one b.others (value_stands s inner v b.one are.0 shape.0 b.same_one) (parts_stand s inner vs b.others are.1 shape.1 b.same_others))
