-- The expression that stands for a value has that value.
use Rattle.std.proofs.Common.{◌≡◌, suc, ◌==◌, Bool, true, false, cond, ◌||◌, List, [], ◌∷◌, length, ℤ, pos, negsuc, ◌+ℤ◌, ◌-ℤ◌, ◌<ℤ◌, ◌≤ℤ◌, Some, refl, sym, ap, ap₂, ◌∙◌, arith, add-one}
use Rattle.std.specs.Prelude.{int_lt, option_map, IsTrue}
use Rattle.std.specs.Ordering.{int_eq}
use Rattle.std.proofs.lemmas.Bool.{eq-eqb, cond-true}
use Rattle.std.proofs.lemmas.Bool.Decides.{Decides-int_eq}
use Rattle.std.proofs.lemmas.Int.{ints}
use Rattle.ep_base.specs.Numbers.{of_bool}
use Rattle.ep_base.specs.Runs.{IsAscending, counting, or_zero}
use Rattle.ep_base.proofs.Ascending.{ascending_tail}
use Rattle.ep_base.specs.Options.{map_both, on_both}
use Rattle.ep_tree.specs.Domains.{between, count_between, put_in, united}
use Rattle.ep_tree.specs.Environments.{Env}
use Rattle.ep_tree.specs.Evaluation.{domain_values, evaluate, index_values, matrix_value, number_in, range_values, values_of}
use Rattle.ep_tree.specs.TypedValues.{is_number_of}
use Rattle.ep_tree.specs.Trees.{DomainTree, ExprTree, ExprTrees, Ranges, end_at, no_trees, one_and, over, span_and, tree_and}
use Rattle.ep_tree.specs.Values.{ValueTree, ValueTrees, all_defined, as_parts, listed_values, matrix, no_values, single, value_and, with_indices}
use Rattle.ep_tree.specs.declared.values.Mode.{Mode}
use Rattle.ep_tree.specs.declared.values.Scalar.{Scalar}
use Rattle.ep_print.specs.Values.{Stretch, runs_of, stretch_from}
use Rattle.ep_print_laws.specs.Answered.{AreInOrder, IsInOrder, indices_domain, number_expr, run_and, run_ranges, scalar_expr, value_expr, value_exprs}

-- ---- numbers

pub number_read : (mode : Mode) (env : Env) (z : ℤ) → evaluate mode env (number_expr z) ≡ Some (single z)
unfolding evaluate number_expr number_in
number_read mode env (pos n) = refl
number_read mode env (negsuc n) = refl

pub truth_is : (n : ℤ) → (int_eq n (pos 0) || int_eq n (pos 1)) ≡ true → of_bool (int_eq n (pos 1)) ≡ n
unfolding of_bool
truth_is n e = go (int_eq n (pos 0)) (int_eq n (pos 1)) refl refl e
  where
    go : (a b : Bool) → int_eq n (pos 0) ≡ a → int_eq n (pos 1) ≡ b → (a || b) ≡ true → of_bool b ≡ n
    go a true f g h = sym ((Decides-int_eq n (pos 1)).0 g)
    go true false f g h = sym ((Decides-int_eq n (pos 0)).0 f)
    go false false f g h = absurd cc

scalar_read : (mode : Mode) (env : Env) (s : Scalar) (n : ℤ) → IsTrue (is_number_of s n) → evaluate mode env (scalar_expr s n) ≡ Some (single n)
unfolding evaluate scalar_expr is_number_of
scalar_read mode env Scalar.Bool n is = ap (λ m. Some (single m)) (truth_is n is)
scalar_read mode env Scalar.Int n is = number_read mode env n

-- ---- index domains

-- the numbers in runs, one run after another
abbrev pub gathered : List Stretch → List ℤ
gathered [] = []
gathered (s ∷ ss) = united (between s.first s.last) (gathered ss)

pub one_between : (n : ℤ) → between n n ≡ n ∷ []
unfolding between count_between counting
one_between n = ap (λ k. counting n (or_zero k)) (one n)
  where
    one : (n : ℤ) → (n +ℤ pos 1) -ℤ n ≡ pos 1
    one n = omega (arith, ints)

one_more_of : (z w : ℤ) → z ≡ w +ℤ pos 1 → pos 0 ≤ℤ w → or_zero z ≡ suc (or_zero w)
one_more_of z (pos k) e least = ap or_zero e ∙ add-one k
one_more_of z (negsuc k) e least = absurd (omega (arith, ints, least))

first_between : (a b : ℤ) → a ≤ℤ b → between a b ≡ a ∷ between (a +ℤ pos 1) b
unfolding between count_between counting
first_between a b le = ap (counting a) (one_more_of ((b +ℤ pos 1) -ℤ a) ((b +ℤ pos 1) -ℤ (a +ℤ pos 1)) (omega (arith, ints)) (omega (arith, ints, le)))

put_first : (x : ℤ) (ys : List ℤ) → IsAscending (x ∷ ys) → put_in x ys ≡ x ∷ ys
unfolding put_in
put_first x [] up = refl
put_first x (y ∷ ys) up =
    let less : x <ℤ y = up 0 1 x (omega arith) (omega arith) in
    let test : int_lt x y ≡ true = grind (arith, ints) in
    cond-true (int_lt x y) _ _ test

-- each run has a number
abbrev pub AreFull : List Stretch → Type 0
AreFull [] = Unit {0}
AreFull (s ∷ ss) = (s.first ≤ℤ s.last) × AreFull ss

-- the runs of ascending numbers have these numbers
pub record AreRunsOf (ns : List ℤ) (ss : List Stretch) : Type 0 where
  pub numbers : gathered ss ≡ ns
  pub full : AreFull ss

stretched : (b : Bool) (n : ℤ) (ns : List ℤ) (s : Stretch) (ss : List Stretch) → int_eq (n +ℤ pos 1) s.first ≡ b → IsAscending (n ∷ ns) → AreRunsOf ns (s ∷ ss)
    → AreRunsOf (n ∷ ns) (cond b (record { first = n; last = s.last } ∷ ss) (record { first = n; last = n } ∷ s ∷ ss))
unfolding united
stretched true n ns s ss e up runs =
    let next : n +ℤ pos 1 ≡ s.first = (Decides-int_eq (n +ℤ pos 1) s.first).0 e in
    let least : n ≤ℤ s.last = omega (arith, ints, next, runs.full.0) in
    record {
      numbers =
          ap (λ xs. united xs (gathered ss)) (first_between n s.last least ∙ ap (λ a. n ∷ between a s.last) next)
          ∙ ap (put_in n) runs.numbers ∙ put_first n ns up;
      full = (least, runs.full.1);
    }
stretched false n ns s ss e up runs =
    record {
      numbers = ap (λ xs. united xs (gathered (s ∷ ss))) (one_between n) ∙ ap (put_in n) runs.numbers ∙ put_first n ns up;
      full = (omega (arith, ints), runs.full);
    }

begun : (n : ℤ) (ns : List ℤ) (ss : List Stretch) → IsAscending (n ∷ ns) → AreRunsOf ns ss → AreRunsOf (n ∷ ns) (stretch_from n ss)
unfolding stretch_from united put_in
begun n ns [] up runs =
    record { numbers = ap (λ xs. united xs []) (one_between n) ∙ ap (λ ms. n ∷ ms) runs.numbers; full = (omega (arith, ints), tt) }
begun n ns (s ∷ ss) up runs = stretched (int_eq (n +ℤ pos 1) s.first) n ns s ss refl up runs

pub runs_read : (ns : List ℤ) → IsAscending ns → AreRunsOf ns (runs_of ns)
unfolding runs_of
runs_read [] up = record { numbers = refl; full = tt }
runs_read (n ∷ ns) up = begun n ns (runs_of ns) up (runs_read ns (ascending_tail n ns up))

run_read : (mode : Mode) (env : Env) (b : Bool) (first last : ℤ) (rs : Ranges) (ns : List ℤ) → int_eq first last ≡ b → range_values mode env rs ≡ Some ns
    → range_values mode env (cond b (one_and (number_expr first) rs) (span_and (end_at (number_expr first)) (end_at (number_expr last)) rs)) ≡ Some (united (between first last) ns)
unfolding evaluate united map_both number_in
run_read mode env true first last rs ns e is =
    let same : first ≡ last = (Decides-int_eq first last).0 e in
    ap₂ (λ v w. map_both put_in (number_in v) w) (number_read mode env first) is
    ∙ ap (λ xs. Some (united xs ns)) (sym (one_between first) ∙ ap (between first) same)
run_read mode env false first last rs ns e is =
    ap₂ (λ v w. map_both united (map_both between (number_in v) (number_in w)) (range_values mode env rs)) (number_read mode env first) (number_read mode env last)
    ∙ ap (map_both united (Some (between first last))) is

ranges_read : (mode : Mode) (env : Env) (ss : List Stretch) → range_values mode env (run_ranges ss) ≡ Some (gathered ss)
unfolding evaluate run_ranges run_and
ranges_read mode env [] = refl
ranges_read mode env (s ∷ ss) = run_read mode env (int_eq s.first s.last) s.first s.last (run_ranges ss) (gathered ss) refl (ranges_read mode env ss)

indices_read : (mode : Mode) (env : Env) (indices : List ℤ) → IsAscending indices → domain_values mode env (indices_domain indices) ≡ Some indices
unfolding evaluate indices_domain map_both number_in between count_between counting united
indices_read mode env [] up = refl
indices_read mode env (n ∷ ns) up = ranges_read mode env (runs_of (n ∷ ns)) ∙ ap Some (runs_read (n ∷ ns) up).numbers

-- ---- values

pub listed_again : (vs : ValueTrees) → as_parts (listed_values vs) ≡ vs
unfolding as_parts listed_values
listed_again no_values = refl
listed_again (value_and v vs) = ap (value_and v) (listed_again vs)

-- a list of so many parts with its index domain
pub matrix_read : (mode : Mode) (env : Env) (indices : List ℤ) (es : ExprTrees) (d : DomainTree) (vs : ValueTrees) → domain_values mode env d ≡ Some indices → all_defined (values_of mode env es) ≡ Some (listed_values vs) → length indices ≡ length (listed_values vs)
    → matrix_value (index_values mode env (over d)) (values_of mode env es) ≡ Some (matrix indices vs)
unfolding evaluate matrix_value on_both with_indices
matrix_read mode env indices es d vs domain parts long =
    ap₂ (λ a b. on_both a b with_indices) domain parts
    ∙ cond-true (length indices == length (listed_values vs)) _ _ (eq-eqb _ _ long) ∙ ap (λ ws. Some (matrix indices ws)) (listed_again vs)

pub no_index : (indices : List ℤ) → length indices ≡ 0 → indices ≡ []
no_index [] e = refl
no_index (n ∷ ns) e = absurd (omega (arith, e))

-- one more part
defined_more : (mode : Mode) (env : Env) (e : ExprTree) (es : ExprTrees) (v : ValueTree) (vs : ValueTrees) → evaluate mode env e ≡ Some v → all_defined (values_of mode env es) ≡ Some (listed_values vs)
    → all_defined (evaluate mode env e ∷ values_of mode env es) ≡ Some (v ∷ listed_values vs)
unfolding all_defined
defined_more mode env e es v vs one others = ap (λ o. all_defined (o ∷ values_of mode env es)) one ∙ ap (option_map (λ ws. v ∷ ws)) others

mutual
  unfolding value_expr evaluate all_defined listed_values

  pub value_read : (mode : Mode) (env : Env) (s : Scalar) (v : ValueTree) → IsInOrder s v → evaluate mode env (value_expr s v) ≡ Some v
  value_read mode env s (single n) is = scalar_read mode env s n is
  value_read mode env s (matrix indices no_values) is =
      matrix_read mode env [] no_trees (indices_domain []) no_values (indices_read mode env [] (λ i j d lt inside. absurd (omega (arith, inside)))) refl refl
      ∙ ap (λ ns. Some (matrix ns no_values)) (sym (no_index indices is.0))
  value_read mode env s (matrix indices (value_and v vs)) is =
      matrix_read mode env indices (tree_and (value_expr s v) (value_exprs s vs)) (indices_domain indices) (value_and v vs) (indices_read mode env indices is.1)
      (defined_more mode env (value_expr s v) (value_exprs s vs) v vs (value_read mode env s v is.2.0) (values_read mode env s vs is.2.1)) is.0

  values_read : (mode : Mode) (env : Env) (s : Scalar) (vs : ValueTrees) → AreInOrder s vs → all_defined (values_of mode env (value_exprs s vs)) ≡ Some (listed_values vs)
  values_read mode env s no_values are = refl
  values_read mode env s (value_and v vs) are = defined_more mode env (value_expr s v) (value_exprs s vs) v vs (value_read mode env s v are.0) (values_read mode env s vs are.1)
