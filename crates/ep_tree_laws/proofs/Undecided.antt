-- Where no decision variable may stand, an expression without a fault holds none; and what holds none lies in its extent.
use Rattle.std.specs.Prelude.{◌≡◌, ◌&&◌, ◌||◌, List, [], ◌∷◌, ◌++◌, Bool, true, false, not, if◌then◌else◌, Some, None, bytes_eq, flat_map, Option, option_map, refl}
use Rattle.std.proofs.Common.{ap, arith, subst, sym, ◌∙◌}
use Rattle.std.proofs.lemmas.Int.{ints}
use Rattle.std.proofs.lemmas.Bool.{or_from}
use Rattle.std.specs.List.{list_any}
use Rattle.ep_base.specs.declared.names.Name.{Name}
use Rattle.ep_base.specs.declared.places.Place.{Place}
use Rattle.ep_tree_laws.proofs.Agreeing.{fixed_value_is_kept}
use Rattle.ep_tree_laws.proofs.Deciding.{left_none, right_none}
use Rattle.ep_tree_laws.proofs.Fixed.{is_flagged}
use Rattle.ep_tree_laws.proofs.FixedLimits.{extent_fixed}
use Rattle.ep_tree.proofs.TypedParts.{truths_differ}
use Rattle.ep_tree.specs.Agreement.{Agreed, LieWithin, LiesWithin}
use Rattle.ep_tree.specs.Environments.{Bound, Env, context_of, has_cells, has_domain, has_value, meaning_in}
use Rattle.ep_tree.specs.Evaluation.{evaluate, type_in}
use Rattle.ep_tree.specs.Faults.{Fault, domain_faults, faults, faults_of_all, faults_of_generators, faults_of_indices, faults_of_terms, index_faults, name_faults, type_fault, unless}
use Rattle.ep_tree.specs.Names.{put}
use Rattle.ep_tree.specs.Reach.{decisions_in, extent, fixed_extent, fixed_span, generator_names, hiding, holds_decision, index_holds_decision, is_decision, one_holds_decision, term_holds_decision}
use Rattle.ep_tree.specs.Trees.{ExprTree, ExprTrees, Generators, Indices, Terms, absolute, all_different, all_of, any_of, at_least, at_most, binary, chain, compare, comprehension, every_and, factorial, flatten, folded, gcc, generator_and, group, in_domain, in_set, index_and, lex, literal, minus, named, negation, no_generators, no_indices, no_terms, no_trees, number, quantified, read, table, term_and, to_int, tree_and, truth}
use Rattle.ep_tree.specs.Types.{Context, Judged, Meaning, a_domain, a_value, inside, inside_all, judge, judge_domain, quantified_name, reading_contexts}
use Rattle.ep_tree.specs.Values.{ValueTree, ValueTrees, map_grid, map_grids, matrix, no_values, single, value_and}
use Rattle.ep_tree.specs.declared.values.Mode.{Mode}
use Rattle.ep_tree.specs.declared.values.ValueType.{ValueType}

-- each name of a test is a decision variable of a context
abbrev pub AreFlagged : (Name → Bool) → Context → Type 0
AreFlagged f c = (name : Name) → f name ≡ true → is_flagged (c name) ≡ true

or_left : (a b : Bool) → (a || b) ≡ false → a ≡ false
or_left true b h = h
or_left false b h = refl

or_right : (a b : Bool) → (a || b) ≡ false → b ≡ false
or_right true b h = truths_differ (sym h)
or_right false b h = h

inside_other : (names : List Name) (dom : Context → Judged) (c : Context) (x : Name) → list_any (bytes_eq x) names ≡ false → inside names dom c x ≡ c x
unfolding inside
inside_other [] dom c x h = refl
inside_other (name ∷ names) dom c x h =
    inside_other names dom (put name (quantified_name (dom c)) c) x (or_right (bytes_eq x name) (list_any (bytes_eq x) names) h)
    ∙ ap (λ b. if b then Some (quantified_name (dom c)) else c x) (or_left (bytes_eq x name) (list_any (bytes_eq x) names) h)

any_left : (test : Name → Bool) (xs ys : List Name) → list_any test (xs ++ ys) ≡ false → list_any test xs ≡ false
any_left test [] ys h = refl
any_left test (x ∷ xs) ys h =
    or_from (test x) (list_any test xs) (or_left (test x) (list_any test (xs ++ ys)) h) (any_left test xs ys (or_right (test x) (list_any test (xs ++ ys)) h))

any_right : (test : Name → Bool) (xs ys : List Name) → list_any test (xs ++ ys) ≡ false → list_any test ys ≡ false
any_right test [] ys h = h
any_right test (x ∷ xs) ys h = any_right test xs ys (or_right (test x) (list_any test (xs ++ ys)) h)

all_other : (gens : Generators) (c : Context) (x : Name) → list_any (bytes_eq x) (generator_names gens) ≡ false → inside_all gens c x ≡ c x
unfolding inside_all generator_names
all_other no_generators c x h = refl
all_other (generator_and names d gens) c x h =
    all_other gens (inside names (λ y. judge_domain y d) c) x (any_right (bytes_eq x) names (generator_names gens) h)
    ∙ inside_other names (λ y. judge_domain y d) c x (any_left (bytes_eq x) names (generator_names gens) h)

shown : (a b : Bool) → (not a && b) ≡ true → (a ≡ false) × (b ≡ true)
shown true b h = truths_differ h
shown false b h = (refl, h)

names_flagged : (names : List Name) (dom : Context → Judged) (f : Name → Bool) (c : Context) → AreFlagged f c → AreFlagged (hiding names f) (inside names dom c)
unfolding hiding
names_flagged names dom f c k x h =
    let q : _ = shown (list_any (bytes_eq x) names) (f x) h in ap is_flagged (inside_other names dom c x q.0) ∙ k x q.1

all_flagged : (gens : Generators) (f : Name → Bool) (c : Context) → AreFlagged f c → AreFlagged (hiding (generator_names gens) f) (inside_all gens c)
unfolding hiding
all_flagged gens f c k x h =
    let q : _ = shown (list_any (bytes_eq x) (generator_names gens)) (f x) h in ap is_flagged (all_other gens c x q.0) ∙ k x q.1

name_none : (p : Place) (name : Name) (m : Option Meaning) (b : Bool) → (b ≡ true → is_flagged m ≡ true) → name_faults false p name m ≡ [] → b ≡ false
unfolding name_faults is_flagged unless
name_none p name m false k none = refl
name_none p name None true k none = truths_differ (k refl)
name_none p name (Some (a_value t false)) true k none = truths_differ (k refl)
name_none p name (Some (a_value t true)) true k none = absurd cc
name_none p name (Some (a_domain t)) true k none = truths_differ (k refl)

mutual
  unfolding faults faults_of_all faults_of_terms faults_of_indices holds_decision one_holds_decision term_holds_decision index_holds_decision

  -- Where no decision variable may stand, an expression without a fault holds none.
  pub holds_none : (f : Name → Bool) (c : Context) → AreFlagged f c → (e : ExprTree) → faults c false e ≡ [] → holds_decision f e ≡ false
  holds_none f c k (number p n) none = refl
  holds_none f c k (truth p b) none = refl
  holds_none f c k (named p name) none = name_none p name (c name) (f name) (k name) none
  holds_none f c k (group p e) none = holds_none f c k e none
  holds_none f c k (negation p e) none = holds_none f c k e (right_none (type_fault p (judge c (negation p e))) (faults c false e) none)
  holds_none f c k (minus p e) none = holds_none f c k e (right_none (type_fault p (judge c (minus p e))) (faults c false e) none)
  holds_none f c k (absolute p e) none = holds_none f c k e (right_none (type_fault p (judge c (absolute p e))) (faults c false e) none)
  holds_none f c k (to_int p e) none = holds_none f c k e (right_none (type_fault p (judge c (to_int p e))) (faults c false e) none)
  holds_none f c k (factorial p e) none = holds_none f c k e (right_none (type_fault p (judge c (factorial p e))) (faults c false e) none)
  holds_none f c k (flatten p e) none = holds_none f c k e (right_none (type_fault p (judge c (flatten p e))) (faults c false e) none)
  holds_none f c k (folded p op e) none = holds_none f c k e (right_none (type_fault p (judge c (folded p op e))) (faults c false e) none)
  holds_none f c k (all_different p e) none = holds_none f c k e (right_none (type_fault p (judge c (all_different p e))) (faults c false e) none)
  holds_none f c k (chain p terms) none = terms_hold_none f c k terms (right_none (type_fault p (judge c (chain p terms))) (faults_of_terms c false terms) none)
  holds_none f c k (all_of p parts) none = parts_hold_none f c k parts (right_none (type_fault p (judge c (all_of p parts))) (faults_of_all c false parts) none)
  holds_none f c k (any_of p parts) none = parts_hold_none f c k parts (right_none (type_fault p (judge c (any_of p parts))) (faults_of_all c false parts) none)
  holds_none f c k (binary p op a b) none =
      let own : List Fault = type_fault p (judge c (binary p op a b)) in
      or_from (holds_decision f a) (holds_decision f b) (holds_none f c k a (right_none own (faults c false a) (left_none (own ++ faults c false a) (faults c false b) none)))
      (holds_none f c k b (right_none (own ++ faults c false a) (faults c false b) none))
  holds_none f c k (compare p op a b) none =
      let own : List Fault = type_fault p (judge c (compare p op a b)) in
      or_from (holds_decision f a) (holds_decision f b) (holds_none f c k a (right_none own (faults c false a) (left_none (own ++ faults c false a) (faults c false b) none)))
      (holds_none f c k b (right_none (own ++ faults c false a) (faults c false b) none))
  holds_none f c k (lex p op a b) none =
      let own : List Fault = type_fault p (judge c (lex p op a b)) in
      or_from (holds_decision f a) (holds_decision f b) (holds_none f c k a (right_none own (faults c false a) (left_none (own ++ faults c false a) (faults c false b) none)))
      (holds_none f c k b (right_none (own ++ faults c false a) (faults c false b) none))
  holds_none f c k (in_set p a b) none =
      let own : List Fault = type_fault p (judge c (in_set p a b)) in
      or_from (holds_decision f a) (holds_decision f b) (holds_none f c k a (right_none own (faults c false a) (left_none (own ++ faults c false a) (faults c false b) none)))
      (holds_none f c k b (right_none (own ++ faults c false a) (faults c false b) none))
  holds_none f c k (table p a b) none =
      let own : List Fault = type_fault p (judge c (table p a b)) in
      or_from (holds_decision f a) (holds_decision f b) (holds_none f c k a (right_none own (faults c false a) (left_none (own ++ faults c false a) (faults c false b) none)))
      (holds_none f c k b (right_none (own ++ faults c false a) (faults c false b) none))
  holds_none f c k (in_domain p e d) none =
      let own : List Fault = type_fault p (judge c (in_domain p e d)) in
      holds_none f c k e (right_none own (faults c false e) (left_none (own ++ faults c false e) (domain_faults c false d) none))
  holds_none f c k (gcc p x y z) none =
      let own : List Fault = type_fault p (judge c (gcc p x y z)) in
      let second : _ = left_none ((own ++ faults c false x) ++ faults c false y) (faults c false z) none in
      or_from (holds_decision f x || holds_decision f y) (holds_decision f z)
      (or_from (holds_decision f x) (holds_decision f y) (holds_none f c k x (right_none own (faults c false x) (left_none (own ++ faults c false x) (faults c false y) second)))
      (holds_none f c k y (right_none (own ++ faults c false x) (faults c false y) second)))
      (holds_none f c k z (right_none ((own ++ faults c false x) ++ faults c false y) (faults c false z) none))
  holds_none f c k (at_least p x y z) none =
      let own : List Fault = type_fault p (judge c (at_least p x y z)) in
      let second : _ = left_none ((own ++ faults c false x) ++ faults c false y) (faults c false z) none in
      or_from (holds_decision f x || holds_decision f y) (holds_decision f z)
      (or_from (holds_decision f x) (holds_decision f y) (holds_none f c k x (right_none own (faults c false x) (left_none (own ++ faults c false x) (faults c false y) second)))
      (holds_none f c k y (right_none (own ++ faults c false x) (faults c false y) second)))
      (holds_none f c k z (right_none ((own ++ faults c false x) ++ faults c false y) (faults c false z) none))
  holds_none f c k (at_most p x y z) none =
      let own : List Fault = type_fault p (judge c (at_most p x y z)) in
      let second : _ = left_none ((own ++ faults c false x) ++ faults c false y) (faults c false z) none in
      or_from (holds_decision f x || holds_decision f y) (holds_decision f z)
      (or_from (holds_decision f x) (holds_decision f y) (holds_none f c k x (right_none own (faults c false x) (left_none (own ++ faults c false x) (faults c false y) second)))
      (holds_none f c k y (right_none (own ++ faults c false x) (faults c false y) second)))
      (holds_none f c k z (right_none ((own ++ faults c false x) ++ faults c false y) (faults c false z) none))
  holds_none f c k (quantified p op names d e) none =
      let read_in : Context → Judged = λ x. judge_domain x d in
      holds_none (hiding names f) (inside names read_in c) (names_flagged names read_in f c k) e
      (right_none (type_fault p (judge c (quantified p op names d e)) ++ flat_map (λ x. domain_faults x false d) (reading_contexts names read_in c)) (faults (inside names read_in c) false e) none)
  holds_none f c k (literal p parts d) none =
      let own : List Fault = type_fault p (judge c (literal p parts d)) in
      parts_hold_none f c k parts (right_none own (faults_of_all c false parts) (left_none (own ++ faults_of_all c false parts) (index_faults c d) none))
  holds_none f c k (comprehension p e gens conditions d) none =
      holds_none (hiding (generator_names gens) f) (inside_all gens c) (all_flagged gens f c k) e
      (right_none (((type_fault p (judge c (comprehension p e gens conditions d)) ++ index_faults c d) ++ faults_of_generators c gens) ++ faults_of_all (inside_all gens c) false conditions)
      (faults (inside_all gens c) false e) none)
  holds_none f c k (read p m indices) none =
      let own : List Fault = type_fault p (judge c (read p m indices)) in
      or_from (holds_decision f m) (index_holds_decision f indices)
      (holds_none f c k m (right_none own (faults c false m) (left_none (own ++ faults c false m) (faults_of_indices c false indices) none)))
      (indices_hold_none f c k indices (right_none (own ++ faults c false m) (faults_of_indices c false indices) none))

  parts_hold_none : (f : Name → Bool) (c : Context) → AreFlagged f c → (es : ExprTrees) → faults_of_all c false es ≡ [] → one_holds_decision f es ≡ false
  parts_hold_none f c k no_trees none = refl
  parts_hold_none f c k (tree_and e es) none =
      or_from (holds_decision f e) (one_holds_decision f es) (holds_none f c k e (left_none (faults c false e) (faults_of_all c false es) none))
      (parts_hold_none f c k es (right_none (faults c false e) (faults_of_all c false es) none))

  terms_hold_none : (f : Name → Bool) (c : Context) → AreFlagged f c → (ts : Terms) → faults_of_terms c false ts ≡ [] → term_holds_decision f ts ≡ false
  terms_hold_none f c k no_terms none = refl
  terms_hold_none f c k (term_and plus e ts) none =
      or_from (holds_decision f e) (term_holds_decision f ts) (holds_none f c k e (left_none (faults c false e) (faults_of_terms c false ts) none))
      (terms_hold_none f c k ts (right_none (faults c false e) (faults_of_terms c false ts) none))

  indices_hold_none : (f : Name → Bool) (c : Context) → AreFlagged f c → (is : Indices) → faults_of_indices c false is ≡ [] → index_holds_decision f is ≡ false
  indices_hold_none f c k no_indices none = refl
  indices_hold_none f c k (every_and is) none = indices_hold_none f c k is none
  indices_hold_none f c k (index_and e is) none =
      or_from (holds_decision f e) (index_holds_decision f is) (holds_none f c k e (left_none (faults c false e) (faults_of_indices c false is) none))
      (indices_hold_none f c k is (right_none (faults c false e) (faults_of_indices c false is) none))

env_decisions : (env : Env) → AreFlagged (decisions_in env) (context_of env)
unfolding context_of is_decision is_flagged meaning_in
env_decisions env name = go (env name)
  where
    go : (b : Option Bound) → is_decision b ≡ true → is_flagged (option_map meaning_in b) ≡ true
    go None h = h
    go (Some (has_value t v)) h = h
    go (Some (has_cells s is vs)) h = refl
    go (Some (has_domain s is vs)) h = h

pub faultless_holds_none : (env : Env) (e : ExprTree) → faults (context_of env) false e ≡ [] → holds_decision (decisions_in env) e ≡ false
faultless_holds_none env e none = holds_none (decisions_in env) (context_of env) (env_decisions env) e none

-- ---- values in their own extents

mutual
  unfolding map_grid fixed_span

  own_lies : (v : ValueTree) → LiesWithin v (map_grid (λ n. fixed_span (Some n)) v)
  own_lies (single n) = (omega (arith, ints), omega (arith, ints))
  own_lies (matrix is vs) = (refl, own_lie vs)

  own_lie : (vs : ValueTrees) → LieWithin vs (map_grids (λ n. fixed_span (Some n)) vs)
  own_lie no_values = tt
  own_lie (value_and v vs) = (own_lies v, own_lie vs)

fixed_within : (t : ValueType) (v : ValueTree) → LiesWithin v (fixed_extent t (Some v))
unfolding fixed_extent
fixed_within t v = own_lies v

-- The value of what holds no decision variable lies in what is known of it.
pub fixed_lies_within : (mode : Mode) (cells values : Env) (e : ExprTree) → Agreed cells values e → holds_decision (decisions_in cells) e ≡ false
    → (v : ValueTree) → evaluate mode values e ≡ Some v → LiesWithin v (extent mode cells e)
fixed_lies_within mode cells values e agreed h v is_v =
    subst (λ x. LiesWithin v x) (sym (extent_fixed mode cells e h ∙ ap (fixed_extent (type_in cells e)) (fixed_value_is_kept mode cells values e agreed h ∙ is_v)))
    (fixed_within (type_in cells e) v)
