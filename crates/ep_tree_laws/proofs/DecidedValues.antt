-- The names that may stand in an expression without decision variables decide its value.
use Rattle.std.specs.Prelude.{◌≡◌, ◌&&◌, ◌||◌, List, [], ◌∷◌, ◌++◌, map, ℤ, Bool, true, false, not, if◌then◌else◌, neg_ℤ, Some, None, bytes_eq, flat_map, Option, option_map, option_and_then, unwrap_or, refl}
use Rattle.std.proofs.Common.{ap, subst, sym, ◌∙◌}
use Rattle.ep_base.specs.Numbers.{absolute_of, are_different, compare_holds, counts_hold, factorial_of, has_number, is_row_of, lex_holds, sum_of}
use Rattle.ep_base.specs.Options.{map_both, on_both, on_three}
use Rattle.ep_base.specs.declared.names.Name.{Name}
use Rattle.ep_base.specs.declared.places.Place.{Place}
use Rattle.ep_base.specs.declared.operators.CompareOp.{CompareOp}
use Rattle.ep_tree_laws.proofs.Deciding.{left_none, right_none}
use Rattle.ep_tree_laws.proofs.Deciding as deciding
use Rattle.ep_tree_laws.proofs.Typing as typing
use Rattle.ep_tree_laws.proofs.Pairs.{EachSame, Paired, SameValues, Same, comprehension_readings, defined_paired, equal_lists, holding_paired, mapped, over_paired, quantified_readings, reached_paired, told_paired}
use Rattle.ep_tree_laws.specs.DecidedValues.{BoundsAreKept, IsKeptBound}
use Rattle.ep_tree_laws.specs.Deciding.{IsKept, NamesAreKept}
use Rattle.ep_tree.specs.Domains.{between, put_in, set_values, united}
use Rattle.ep_tree.specs.Environments.{Bound, Env, context_of, domain_bound, has_cells, has_domain, has_value, meaning_in, scalar_in, value_bound, with_number}
use Rattle.ep_tree.specs.Evaluation.{all_true, any_true, binary_value, domain_values, domains_defined, end_value, evaluate, folded_value, holding, index_list, index_values, matrix_value, number_in, number_value, quantified_value, range_values, reached, read_result, rows_in, scalars_in, signed, term_values, truth_in, truth_of, type_in, values_of}
use Rattle.ep_tree.specs.Faults.{Fault, domain_faults, domain_name_faults, end_faults, faults, faults_of_all, faults_of_generators, faults_of_indices, faults_of_ranges, faults_of_terms, has_open_range, index_faults, name_faults, open_domain, type_fault, unless}
use Rattle.ep_tree.specs.Trees.{DomainTree, End, ExprTree, ExprTrees, Generators, IndexDomain, Indices, Ranges, Terms, absolute, all_different, all_of, any_of, at_least, at_most, binary, bool, chain, compare, comprehension, end_at, every_and, factorial, flatten, folded, gcc, generator_and, group, group_domain, in_domain, in_set, index_and, int, lex, literal, matrix_domain, minus, named, named_domain, negation, no_end, no_generators, no_indices, no_ranges, no_terms, no_trees, number, one_and, over, quantified, ranges, read, set_domain, span_and, table, term_and, to_int, tree_and, truth, unstated}
use Rattle.ep_tree.specs.Types.{Context, Judged, inside, inside_all, judge, judge_all, judge_domain, judge_generators, judge_index, of_scalar, reading_contexts, scalar_of, type_from}
use Rattle.ep_tree.specs.Values.{ValueTree, all_defined, any_index, at_index, list_value, read_value, single}
use Rattle.ep_tree.specs.declared.values.Mode.{Mode}
use Rattle.ep_tree.specs.declared.values.Scalar.{Scalar}
use Rattle.ep_tree.specs.declared.values.ValueType.{ValueType}

-- ---- environments

kept_bound : (one other : Option Bound) → IsKeptBound one other → IsKept false false (option_map meaning_in one) (option_map meaning_in other)
unfolding IsKeptBound IsKept meaning_in
kept_bound None other h = tt
kept_bound (Some (has_value t v)) other h = ap (option_map meaning_in) h
kept_bound (Some (has_cells s is vs)) other h = tt
kept_bound (Some (has_domain s is vs)) other h = ap (option_map meaning_in) h

pub kept_names : (env other : Env) → BoundsAreKept env other → NamesAreKept false false (context_of env) (context_of other)
unfolding context_of
kept_names env other h name = kept_bound (env name) (other name) (h name)

pub keeps_bound : (env other : Env) (name : Name) (s : Scalar) (n : ℤ) → BoundsAreKept env other → BoundsAreKept (with_number name s n env) (with_number name s n other)
unfolding with_number IsKeptBound
keeps_bound env other name s n h x = go (bytes_eq x name)
  where
    go : (b : Bool) → IsKeptBound (if b then Some (has_value (of_scalar s) (single n)) else env x) (if b then Some (has_value (of_scalar s) (single n)) else other x)
    go true = refl
    go false = h x

-- the types of an expression and of a domain
same_type : (env other : Env) → BoundsAreKept env other → (e : ExprTree) → faults (context_of env) false e ≡ [] → type_in env e ≡ type_in other e
unfolding type_in
same_type env other h e none =
    sym (ap (λ j. unwrap_or (type_from j) ValueType.Int) (deciding.expression_kept (context_of env) (context_of other) false false (kept_names env other h) e none).0)

pub same_scalar : (env other : Env) → BoundsAreKept env other → (d : DomainTree) → domain_faults (context_of env) false d ≡ [] → scalar_in env d ≡ scalar_in other d
unfolding scalar_in
same_scalar env other h d none =
    sym (ap (λ j. unwrap_or (option_map scalar_of (type_from j)) Scalar.Int) (deciding.domain_kept (context_of env) (context_of other) (kept_names env other h) false d none).0)

named_value : (p : Place) (name : Name) (one other : Option Bound) → IsKeptBound one other → name_faults false p name (option_map meaning_in one) ≡ [] → value_bound one ≡ value_bound other
unfolding IsKeptBound name_faults meaning_in value_bound unless
named_value p name None other h none = absurd cc
named_value p name (Some (has_value t v)) other h none = sym (ap value_bound h)
named_value p name (Some (has_cells s is vs)) other h none = absurd cc
named_value p name (Some (has_domain s is vs)) other h none = absurd cc

named_numbers : (p : Place) (name : Name) (one other : Option Bound) → IsKeptBound one other → domain_name_faults p name (option_map meaning_in one) ≡ [] → domain_bound one ≡ domain_bound other
unfolding IsKeptBound domain_name_faults meaning_in domain_bound
named_numbers p name None other h none = absurd cc
named_numbers p name (Some (has_value t v)) other h none = absurd cc
named_numbers p name (Some (has_cells s is vs)) other h none = absurd cc
named_numbers p name (Some (has_domain s is vs)) other h none = sym (ap domain_bound h)

name_value : (p : Place) (name : Name) (env other : Env) → BoundsAreKept env other → name_faults false p name (context_of env name) ≡ [] → value_bound (env name) ≡ value_bound (other name)
unfolding context_of
name_value p name env other h none = named_value p name (env name) (other name) (h name) none

name_numbers : (p : Place) (name : Name) (env other : Env) → BoundsAreKept env other → domain_name_faults p name (context_of env name) ≡ [] → domain_bound (env name) ≡ domain_bound (other name)
unfolding context_of
name_numbers p name env other h none = named_numbers p name (env name) (other name) (h name) none

-- ---- parts

-- where there is no fault, two things are the same
abbrev Decided : {A : Type 0} → A → A → List Fault → Type 0
Decided x y fs = fs ≡ [] → x ≡ y

one : {A B : Type 0} (own : List Fault) (f : A → B) (a a' : A) (fa : List Fault) → Decided a a' fa → Decided (f a) (f a') (own ++ fa)
one own f a a' fa h none = ap f (h (right_none own fa none))

two : {A B C : Type 0} (own : List Fault) (f : A → B → C) (a a' : A) (b b' : B) (fa fb : List Fault) → Decided a a' fa → Decided b b' fb → Decided (f a b) (f a' b') ((own ++ fa) ++ fb)
two own f a a' b b' fa fb h k none =
    ap (λ x. f x b) (h (right_none own fa (left_none (own ++ fa) fb none))) ∙ ap (f a') (k (right_none (own ++ fa) fb none))

pair : {A B C : Type 0} (f : A → B → C) (a a' : A) (b b' : B) (fa fb : List Fault) → Decided a a' fa → Decided b b' fb → Decided (f a b) (f a' b') (fa ++ fb)
pair f a a' b b' fa fb h k none = ap (λ x. f x b) (h (left_none fa fb none)) ∙ ap (f a') (k (right_none fa fb none))

three : {A B C D : Type 0} (own : List Fault) (f : A → B → C → D) (a a' : A) (b b' : B) (c c' : C) (fa fb fc : List Fault) → Decided a a' fa → Decided b b' fb → Decided c c' fc
    → Decided (f a b c) (f a' b' c') (((own ++ fa) ++ fb) ++ fc)
three own f a a' b b' c c' fa fb fc h k l none =
    let first : _ = left_none ((own ++ fa) ++ fb) fc none in
    ap (λ x. f x b c) (h (right_none own fa (left_none (own ++ fa) fb first)))
    ∙ ap (λ x. f a' x c) (k (right_none (own ++ fa) fb first)) ∙ ap (f a' b') (l (right_none ((own ++ fa) ++ fb) fc none))

two_same : {A B C : Type 0} (f : A → B → C) {a a' : A} {b b' : B} → a ≡ a' → b ≡ b' → f a b ≡ f a' b'
two_same f {a} {a'} {b} {b'} p q = ap (λ x. f x b) p ∙ ap (f a') q

-- a comprehension by its parts
comprehension_same : (p : Place) (mode : Mode) (env other : Env) (c : Context) (e : ExprTree) (gens : Generators) (conditions : ExprTrees) (d : IndexDomain)
    → domains_defined mode env gens ≡ domains_defined mode other gens
    → Paired BoundsAreKept c (reached mode env gens) (reached mode other gens)
    → SameValues BoundsAreKept c (λ inner. values_of mode inner conditions)
    → ((en ot : Env) → BoundsAreKept en ot → context_of en ≡ c → evaluate mode en e ≡ evaluate mode ot e)
    → index_values mode env d ≡ index_values mode other d
    → evaluate mode env (comprehension p e gens conditions d) ≡ evaluate mode other (comprehension p e gens conditions d)
unfolding evaluate
comprehension_same p mode env other c e gens conditions d defined pairs truths parts indices =
    let cs : Env → List (Option ValueTree) = λ inner. values_of mode inner conditions in
    let held : _ = holding_paired BoundsAreKept c cs truths (reached mode env gens) (reached mode other gens) pairs in
    let listed : _ = equal_lists (map (λ inner. evaluate mode inner e) (holding cs (reached mode env gens))) (map (λ inner. evaluate mode inner e) (holding cs (reached mode other gens)))
    (mapped (λ x y. x ≡ y) (λ inner. evaluate mode inner e) BoundsAreKept c (holding cs (reached mode env gens)) (holding cs (reached mode other gens)) held parts) in
    two_same (λ b v. if b then v else None)
    (two_same (λ a b. a && b) defined (told_paired BoundsAreKept c cs truths (reached mode env gens) (reached mode other gens) pairs))
    (two_same matrix_value indices listed)

mutual
  unfolding evaluate faults domain_values domain_faults values_of faults_of_all term_values faults_of_terms index_list faults_of_indices range_values faults_of_ranges end_value end_faults index_values index_faults faults_of_generators judge

  -- An expression without a fault, in which no decision variable may stand, has the same value where its names are kept.
  pub value_decided : (mode : Mode) (env other : Env) → BoundsAreKept env other → (e : ExprTree) → Decided (evaluate mode env e) (evaluate mode other e) (faults (context_of env) false e)
  value_decided mode env other k (number p n) = λ none. refl
  value_decided mode env other k (truth p b) = λ none. refl
  value_decided mode env other k (named p name) = name_value p name env other k
  value_decided mode env other k (group p e) = value_decided mode env other k e
  value_decided mode env other k (negation p e) = one (type_fault p (judge (context_of env) (negation p e))) (λ v. truth_in mode (option_map not (truth_of v))) (evaluate mode env e) (evaluate mode other e) (faults (context_of env) false e) (value_decided mode env other k e)
  value_decided mode env other k (minus p e) = one (type_fault p (judge (context_of env) (minus p e))) (λ v. number_value (option_map neg_ℤ (number_in v))) (evaluate mode env e) (evaluate mode other e) (faults (context_of env) false e) (value_decided mode env other k e)
  value_decided mode env other k (absolute p e) = one (type_fault p (judge (context_of env) (absolute p e))) (λ v. number_value (option_map absolute_of (number_in v))) (evaluate mode env e) (evaluate mode other e) (faults (context_of env) false e) (value_decided mode env other k e)
  value_decided mode env other k (to_int p e) = one (type_fault p (judge (context_of env) (to_int p e))) (λ v. v) (evaluate mode env e) (evaluate mode other e) (faults (context_of env) false e) (value_decided mode env other k e)
  value_decided mode env other k (factorial p e) = one (type_fault p (judge (context_of env) (factorial p e))) (λ v. number_value (option_and_then factorial_of (number_in v))) (evaluate mode env e) (evaluate mode other e) (faults (context_of env) false e) (value_decided mode env other k e)
  value_decided mode env other k (flatten p e) = one (type_fault p (judge (context_of env) (flatten p e))) (λ v. option_map list_value (scalars_in v)) (evaluate mode env e) (evaluate mode other e) (faults (context_of env) false e) (value_decided mode env other k e)
  value_decided mode env other k (folded p op e) = one (type_fault p (judge (context_of env) (folded p op e))) (λ v. folded_value mode op (scalars_in v)) (evaluate mode env e) (evaluate mode other e) (faults (context_of env) false e) (value_decided mode env other k e)
  value_decided mode env other k (all_different p e) = one (type_fault p (judge (context_of env) (all_different p e))) (λ v. truth_in mode (option_map are_different (scalars_in v))) (evaluate mode env e) (evaluate mode other e) (faults (context_of env) false e) (value_decided mode env other k e)
  value_decided mode env other k (chain p terms) = one (type_fault p (judge (context_of env) (chain p terms))) (λ ns. number_value (option_map sum_of (all_defined ns))) (term_values mode env terms) (term_values mode other terms) (faults_of_terms (context_of env) false terms) (terms_decided mode env other k terms)
  value_decided mode env other k (all_of p parts) = one (type_fault p (judge (context_of env) (all_of p parts))) (λ vs. truth_in mode (all_true vs)) (values_of mode env parts) (values_of mode other parts) (faults_of_all (context_of env) false parts) (values_decided mode env other k parts)
  value_decided mode env other k (any_of p parts) = one (type_fault p (judge (context_of env) (any_of p parts))) (λ vs. truth_in mode (any_true vs)) (values_of mode env parts) (values_of mode other parts) (faults_of_all (context_of env) false parts) (values_decided mode env other k parts)
  value_decided mode env other k (binary p op a b) =
      two (type_fault p (judge (context_of env) (binary p op a b))) (λ v w. binary_value mode op (number_in v) (number_in w)) (evaluate mode env a) (evaluate mode other a) (evaluate mode env b) (evaluate mode other b)
      (faults (context_of env) false a) (faults (context_of env) false b) (value_decided mode env other k a) (value_decided mode env other k b)
  value_decided mode env other k (compare p op a b) =
      two (type_fault p (judge (context_of env) (compare p op a b))) (λ v w. truth_in mode (map_both (compare_holds op) (number_in v) (number_in w))) (evaluate mode env a) (evaluate mode other a) (evaluate mode env b) (evaluate mode other b)
      (faults (context_of env) false a) (faults (context_of env) false b) (value_decided mode env other k a) (value_decided mode env other k b)
  value_decided mode env other k (lex p op a b) =
      two (type_fault p (judge (context_of env) (lex p op a b))) (λ v w. truth_in mode (map_both (lex_holds op) (scalars_in v) (scalars_in w))) (evaluate mode env a) (evaluate mode other a) (evaluate mode env b) (evaluate mode other b)
      (faults (context_of env) false a) (faults (context_of env) false b) (value_decided mode env other k a) (value_decided mode env other k b)
  value_decided mode env other k (in_set p a b) =
      two (type_fault p (judge (context_of env) (in_set p a b))) (λ v w. truth_in mode (map_both has_number (scalars_in w) (number_in v))) (evaluate mode env a) (evaluate mode other a) (evaluate mode env b) (evaluate mode other b)
      (faults (context_of env) false a) (faults (context_of env) false b) (value_decided mode env other k a) (value_decided mode env other k b)
  value_decided mode env other k (table p a b) =
      two (type_fault p (judge (context_of env) (table p a b))) (λ v w. truth_in mode (on_both (rows_in w) (scalars_in v) is_row_of)) (evaluate mode env a) (evaluate mode other a) (evaluate mode env b) (evaluate mode other b)
      (faults (context_of env) false a) (faults (context_of env) false b) (value_decided mode env other k a) (value_decided mode env other k b)
  value_decided mode env other k (in_domain p e d) =
      two (type_fault p (judge (context_of env) (in_domain p e d))) (λ v ns. truth_in mode (map_both has_number ns (number_in v))) (evaluate mode env e) (evaluate mode other e) (domain_values mode env d) (domain_values mode other d)
      (faults (context_of env) false e) (domain_faults (context_of env) false d) (value_decided mode env other k e) (numbers_decided mode env other k false d)
  value_decided mode env other k (gcc p x y z) =
      three (type_fault p (judge (context_of env) (gcc p x y z))) (λ u v w. truth_in mode (on_three (scalars_in u) (scalars_in v) (scalars_in w) (counts_hold CompareOp.Equal)))
      (evaluate mode env x) (evaluate mode other x) (evaluate mode env y) (evaluate mode other y) (evaluate mode env z) (evaluate mode other z)
      (faults (context_of env) false x) (faults (context_of env) false y) (faults (context_of env) false z) (value_decided mode env other k x) (value_decided mode env other k y) (value_decided mode env other k z)
  value_decided mode env other k (at_least p x y z) =
      three (type_fault p (judge (context_of env) (at_least p x y z))) (λ u v w. truth_in mode (on_three (scalars_in u) (scalars_in w) (scalars_in v) (counts_hold CompareOp.AtLeast)))
      (evaluate mode env x) (evaluate mode other x) (evaluate mode env y) (evaluate mode other y) (evaluate mode env z) (evaluate mode other z)
      (faults (context_of env) false x) (faults (context_of env) false y) (faults (context_of env) false z) (value_decided mode env other k x) (value_decided mode env other k y) (value_decided mode env other k z)
  value_decided mode env other k (at_most p x y z) =
      three (type_fault p (judge (context_of env) (at_most p x y z))) (λ u v w. truth_in mode (on_three (scalars_in u) (scalars_in w) (scalars_in v) (counts_hold CompareOp.AtMost)))
      (evaluate mode env x) (evaluate mode other x) (evaluate mode env y) (evaluate mode other y) (evaluate mode env z) (evaluate mode other z)
      (faults (context_of env) false x) (faults (context_of env) false y) (faults (context_of env) false z) (value_decided mode env other k x) (value_decided mode env other k y) (value_decided mode env other k z)
  value_decided mode env other k (quantified p op names d e) = λ none.
      let c : Context = context_of env in
      let read_in : Context → Judged = λ x. judge_domain x d in
      let own : List Fault = type_fault p (judge c (quantified p op names d e)) in
      let fs : List Fault = flat_map (λ x. domain_faults x false d) (reading_contexts names read_in c) in
      let first : _ = left_none (own ++ fs) (faults (inside names read_in c) false e) none in
      let typed_node : _ = typing.expression_typed c (typing.context_typed env) false (quantified p op names d e) none in
      over_paired (λ x y. x ≡ y) BoundsAreKept keeps_bound mode d (λ en ot l m. (numbers_decided mode en ot l false d m, same_scalar en ot l d m)) (quantified_value mode op) refl
      (λ xs ys h. ap (λ vs. quantified_value mode op (Some vs)) (equal_lists xs ys h))
      (λ inner. evaluate mode inner e) (λ x. faults x false e ≡ []) (λ en ot l m. value_decided mode en ot l e m)
      names env other k (right_none own fs first)
      (quantified_readings (map read_in (reading_contexts names read_in c)) (judge (inside names read_in c) e) op typed_node)
      (right_none (own ++ fs) (faults (inside names read_in c) false e) none)
  value_decided mode env other k (literal p parts d) =
      two (type_fault p (judge (context_of env) (literal p parts d))) (λ vs indices. matrix_value indices vs)
      (values_of mode env parts) (values_of mode other parts) (index_values mode env d) (index_values mode other d)
      (faults_of_all (context_of env) false parts) (index_faults (context_of env) d) (values_decided mode env other k parts) (index_decided mode env other k d)
  value_decided mode env other k (comprehension p e gens conditions d) = λ none.
      let c : Context = context_of env in
      let inner : Context = inside_all gens c in
      let own : List Fault = type_fault p (judge c (comprehension p e gens conditions d)) in
      let third : _ = left_none (((own ++ index_faults c d) ++ faults_of_generators c gens) ++ faults_of_all inner false conditions) (faults inner false e) none in
      let second : _ = left_none ((own ++ index_faults c d) ++ faults_of_generators c gens) (faults_of_all inner false conditions) third in
      let first : _ = left_none (own ++ index_faults c d) (faults_of_generators c gens) second in
      let gens_none : faults_of_generators c gens ≡ [] = right_none (own ++ index_faults c d) (faults_of_generators c gens) second in
      let conditions_none : faults_of_all inner false conditions ≡ [] = right_none ((own ++ index_faults c d) ++ faults_of_generators c gens) (faults_of_all inner false conditions) third in
      let e_none : faults inner false e ≡ [] = right_none (((own ++ index_faults c d) ++ faults_of_generators c gens) ++ faults_of_all inner false conditions) (faults inner false e) none in
      let typed_node : _ = typing.expression_typed c (typing.context_typed env) false (comprehension p e gens conditions d) none in
      let ints : _ = comprehension_readings (judge_index c d) (judge_generators c gens) (judge_all inner conditions) (judge inner e) typed_node in
      let same : EachSame BoundsAreKept mode gens = generators_same mode gens in
      let pairs : _ = reached_paired BoundsAreKept keeps_bound mode gens same env other k gens_none ints in
      comprehension_same p mode env other inner e gens conditions d
      (defined_paired BoundsAreKept keeps_bound mode gens same env other k gens_none ints) pairs
      (λ en ot l q. values_decided mode en ot l conditions (subst (λ x. faults_of_all x false conditions ≡ []) (sym q) conditions_none))
      (λ en ot l q. value_decided mode en ot l e (subst (λ x. faults x false e ≡ []) (sym q) e_none))
      (index_decided mode env other k d (right_none own (index_faults c d) first))
  value_decided mode env other k (read p m indices) = λ none.
      two (type_fault p (judge (context_of env) (read p m indices))) (λ v is. read_result mode (type_in env (read p m indices)) (on_both is v read_value))
      (evaluate mode env m) (evaluate mode other m) (index_list mode env indices) (index_list mode other indices)
      (faults (context_of env) false m) (faults_of_indices (context_of env) false indices)
      (value_decided mode env other k m) (indices_decided mode env other k indices) none
      ∙ ap (λ t. read_result mode t (on_both (index_list mode other indices) (evaluate mode other m) read_value)) (same_type env other k (read p m indices) none)

  -- The same of a domain's numbers.
  pub numbers_decided : (mode : Mode) (env other : Env) → BoundsAreKept env other → (may_open : Bool) (d : DomainTree) → Decided (domain_values mode env d) (domain_values mode other d) (domain_faults (context_of env) may_open d)
  numbers_decided mode env other k may_open (bool p) = λ none. refl
  numbers_decided mode env other k may_open (int p) = λ none. refl
  numbers_decided mode env other k may_open (ranges p rs) = λ none.
      ranges_decided mode env other k rs
      (right_none (unless (may_open || not (has_open_range rs)) (open_domain p) ++ type_fault p (judge_domain (context_of env) (ranges p rs))) (faults_of_ranges (context_of env) rs) none)
  numbers_decided mode env other k may_open (named_domain p name) = name_numbers p name env other k
  numbers_decided mode env other k may_open (group_domain p d) = numbers_decided mode env other k may_open d
  numbers_decided mode env other k may_open (set_domain p op a b) =
      two (type_fault p (judge_domain (context_of env) (set_domain p op a b))) (map_both (set_values op)) (domain_values mode env a) (domain_values mode other a) (domain_values mode env b) (domain_values mode other b)
      (domain_faults (context_of env) may_open a) (domain_faults (context_of env) may_open b) (numbers_decided mode env other k may_open a) (numbers_decided mode env other k may_open b)
  numbers_decided mode env other k may_open (matrix_domain p ds d) = λ none. refl

  generators_same : (mode : Mode) (gens : Generators) → EachSame BoundsAreKept mode gens
  generators_same mode no_generators = tt
  generators_same mode (generator_and names d gens) = (λ env other k none. (numbers_decided mode env other k false d none, same_scalar env other k d none), generators_same mode gens)

  pub values_decided : (mode : Mode) (env other : Env) → BoundsAreKept env other → (es : ExprTrees) → Decided (values_of mode env es) (values_of mode other es) (faults_of_all (context_of env) false es)
  values_decided mode env other k no_trees = λ none. refl
  values_decided mode env other k (tree_and e es) =
      pair (λ v vs. v ∷ vs) (evaluate mode env e) (evaluate mode other e) (values_of mode env es) (values_of mode other es)
      (faults (context_of env) false e) (faults_of_all (context_of env) false es) (value_decided mode env other k e) (values_decided mode env other k es)

  terms_decided : (mode : Mode) (env other : Env) → BoundsAreKept env other → (ts : Terms) → Decided (term_values mode env ts) (term_values mode other ts) (faults_of_terms (context_of env) false ts)
  terms_decided mode env other k no_terms = λ none. refl
  terms_decided mode env other k (term_and plus e ts) =
      pair (λ v vs. option_map (signed plus) (number_in v) ∷ vs) (evaluate mode env e) (evaluate mode other e) (term_values mode env ts) (term_values mode other ts)
      (faults (context_of env) false e) (faults_of_terms (context_of env) false ts) (value_decided mode env other k e) (terms_decided mode env other k ts)

  indices_decided : (mode : Mode) (env other : Env) → BoundsAreKept env other → (is : Indices) → Decided (index_list mode env is) (index_list mode other is) (faults_of_indices (context_of env) false is)
  indices_decided mode env other k no_indices = λ none. refl
  indices_decided mode env other k (every_and is) = λ none. ap (option_map (λ js. any_index ∷ js)) (indices_decided mode env other k is none)
  indices_decided mode env other k (index_and e is) =
      pair (λ v js. map_both (λ i rest. at_index i ∷ rest) (number_in v) js) (evaluate mode env e) (evaluate mode other e) (index_list mode env is) (index_list mode other is)
      (faults (context_of env) false e) (faults_of_indices (context_of env) false is) (value_decided mode env other k e) (indices_decided mode env other k is)

  ranges_decided : (mode : Mode) (env other : Env) → BoundsAreKept env other → (rs : Ranges) → Decided (range_values mode env rs) (range_values mode other rs) (faults_of_ranges (context_of env) rs)
  ranges_decided mode env other k no_ranges = λ none. refl
  ranges_decided mode env other k (one_and e rs) =
      pair (λ v ns. map_both put_in (number_in v) ns) (evaluate mode env e) (evaluate mode other e) (range_values mode env rs) (range_values mode other rs)
      (faults (context_of env) false e) (faults_of_ranges (context_of env) rs) (value_decided mode env other k e) (ranges_decided mode env other k rs)
  ranges_decided mode env other k (span_and a b rs) =
      pair (λ xs ns. map_both united xs ns) (map_both between (end_value mode env a) (end_value mode env b)) (map_both between (end_value mode other a) (end_value mode other b))
      (range_values mode env rs) (range_values mode other rs) (end_faults (context_of env) a ++ end_faults (context_of env) b) (faults_of_ranges (context_of env) rs)
      (pair (map_both between) (end_value mode env a) (end_value mode other a) (end_value mode env b) (end_value mode other b)
      (end_faults (context_of env) a) (end_faults (context_of env) b) (end_decided mode env other k a) (end_decided mode env other k b))
      (ranges_decided mode env other k rs)

  end_decided : (mode : Mode) (env other : Env) → BoundsAreKept env other → (end : End) → Decided (end_value mode env end) (end_value mode other end) (end_faults (context_of env) end)
  end_decided mode env other k no_end = λ none. refl
  end_decided mode env other k (end_at e) = λ none. ap number_in (value_decided mode env other k e none)

  index_decided : (mode : Mode) (env other : Env) → BoundsAreKept env other → (index : IndexDomain) → Decided (index_values mode env index) (index_values mode other index) (index_faults (context_of env) index)
  index_decided mode env other k unstated = λ none. refl
  index_decided mode env other k (over d) = λ none. ap (λ ns. λ count. ns) (numbers_decided mode env other k false d none)

pub same_numbers : (mode : Mode) (d : DomainTree) → Same BoundsAreKept mode d
same_numbers mode d env other k none = (numbers_decided mode env other k false d none, same_scalar env other k d none)
