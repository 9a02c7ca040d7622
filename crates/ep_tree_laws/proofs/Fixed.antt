-- An expression that holds no decision variable has no fault where none may stand.
use Rattle.std.specs.Prelude.{◌≡◌, ◌&&◌, ◌||◌, List, [], ◌∷◌, ◌++◌, Bool, true, false, not, if◌then◌else◌, Some, None, bytes_eq, flat_map, Option, option_map, refl}
use Rattle.std.proofs.Common.{ap, sym, ◌∙◌}
use Rattle.std.specs.List.{list_any}
use Rattle.ep_base.specs.declared.names.Name.{Name}
use Rattle.ep_base.specs.declared.places.Place.{Place}
use Rattle.ep_tree_laws.proofs.Deciding.{left_none, right_none}
use Rattle.ep_tree.proofs.TypedParts.{truths_differ}
use Rattle.ep_tree.specs.Environments.{Bound, Env, context_of, has_cells, has_domain, has_value, meaning_in}
use Rattle.ep_tree.specs.Faults.{Fault, domain_faults, entry_count, faults, faults_of_all, faults_of_generators, faults_of_indices, faults_of_terms, index_faults, is_power, leaves_matrix, name_faults, type_fault}
use Rattle.ep_tree.specs.Names.{put}
use Rattle.ep_tree.specs.Reach.{decisions_in, generator_names, hiding, holds_decision, index_holds_decision, is_decision, one_holds_decision, term_holds_decision}
use Rattle.ep_tree.specs.Trees.{ExprTree, ExprTrees, Generators, Indices, Terms, absolute, all_different, all_of, any_of, at_least, at_most, binary, chain, compare, comprehension, every_and, factorial, flatten, folded, gcc, generator_and, group, in_domain, in_set, index_and, lex, literal, minus, named, negation, no_generators, no_indices, no_terms, no_trees, number, quantified, read, table, term_and, to_int, tree_and, truth}
use Rattle.ep_tree.specs.Types.{Context, Judged, Meaning, a_domain, a_value, inside, inside_all, judge, judge_domain, mistyped, quantified_name, reading_contexts, slice_count, typed, untyped}

-- whether a name is a decision variable
unfoldable pub is_flagged : Option Meaning → Bool
is_flagged None = false
is_flagged (Some (a_value t flag)) = flag
is_flagged (Some (a_domain t)) = false

-- each decision variable of a context is one by a test
abbrev pub Flagged : Context → (Name → Bool) → Type 0
Flagged c decided = (name : Name) → is_flagged (c name) ≡ true → decided name ≡ true

not_flagged : (j : Judged) → is_flagged (Some (quantified_name j)) ≡ false
unfolding is_flagged quantified_name
not_flagged (typed t) = refl
not_flagged mistyped = refl
not_flagged untyped = refl

flag_inside : (names : List Name) (dom : Context → Judged) (c : Context) (x : Name) → is_flagged (inside names dom c x) ≡ true
    → (list_any (bytes_eq x) names ≡ false) × (is_flagged (c x) ≡ true)
unfolding inside
flag_inside [] dom c x h = (refl, h)
flag_inside (name ∷ names) dom c x h =
    let q : _ = flag_inside names dom (put name (quantified_name (dom c)) c) x h in go (bytes_eq x name) q.0 q.1
  where
    go : (b : Bool) → list_any (bytes_eq x) names ≡ false → is_flagged (if b then Some (quantified_name (dom c)) else c x) ≡ true
        → ((b || list_any (bytes_eq x) names) ≡ false) × (is_flagged (c x) ≡ true)
    go true p f = truths_differ (sym (not_flagged (dom c)) ∙ f)
    go false p f = (p, f)

neither_any : (b : Bool) (xs zs : Bool) → (b || xs) ≡ false → (xs ≡ false → zs ≡ false) → (b || zs) ≡ false
neither_any true xs zs p k = p
neither_any false xs zs p k = k p

any_none : (test : Name → Bool) (xs ys : List Name) → list_any test xs ≡ false → list_any test ys ≡ false → list_any test (xs ++ ys) ≡ false
any_none test [] ys p q = q
any_none test (x ∷ xs) ys p q = neither_any (test x) (list_any test xs) (list_any test (xs ++ ys)) p (λ r. any_none test xs ys r q)

flag_all : (gens : Generators) (c : Context) (x : Name) → is_flagged (inside_all gens c x) ≡ true
    → (list_any (bytes_eq x) (generator_names gens) ≡ false) × (is_flagged (c x) ≡ true)
unfolding inside_all generator_names
flag_all no_generators c x h = (refl, h)
flag_all (generator_and names d gens) c x h =
    let q : _ = flag_all gens (inside names (λ y. judge_domain y d) c) x h in
    let r : _ = flag_inside names (λ y. judge_domain y d) c x q.1 in
    (any_none (bytes_eq x) names (generator_names gens) r.0 q.0, r.1)

hidden_inside : (names : List Name) (dom : Context → Judged) (c : Context) (f : Name → Bool) → Flagged c f → Flagged (inside names dom c) (hiding names f)
unfolding hiding
hidden_inside names dom c f h x e =
    let q : _ = flag_inside names dom c x e in ap (λ b. not b && f x) q.0 ∙ h x q.1

hidden_all : (gens : Generators) (c : Context) (f : Name → Bool) → Flagged c f → Flagged (inside_all gens c) (hiding (generator_names gens) f)
unfolding hiding
hidden_all gens c f h x e =
    let q : _ = flag_all gens c x e in ap (λ b. not b && f x) q.0 ∙ h x q.1

name_fixed : (f : Name → Bool) (d : Bool) (p : Place) (name : Name) (m : Option Meaning) → (is_flagged m ≡ true → f name ≡ true) → f name ≡ false
    → name_faults d p name m ≡ [] → name_faults false p name m ≡ []
unfolding name_faults is_flagged
name_fixed f d p name None h k none = none
name_fixed f d p name (Some (a_value t false)) h k none = refl
name_fixed f d p name (Some (a_value t true)) h k none = truths_differ (sym k ∙ h refl)
name_fixed f d p name (Some (a_domain t)) h k none = none

-- a last part that loses its faults' flag
last : {A : Type 0} (own fa fb : List A) → (fa ≡ [] → fb ≡ []) → own ++ fa ≡ [] → own ++ fb ≡ []
last own fa fb h none = ap (λ xs. xs ++ fb) (left_none own fa none) ∙ h (right_none own fa none)

-- two parts
both : {A : Type 0} (xs xs' ys ys' : List A) → (xs ≡ [] → xs' ≡ []) → (ys ≡ [] → ys' ≡ []) → xs ++ ys ≡ [] → xs' ++ ys' ≡ []
both xs xs' ys ys' h k none = ap (λ zs. zs ++ ys') (h (left_none xs ys none)) ∙ k (right_none xs ys none)

or_left : (a b : Bool) → (a || b) ≡ false → a ≡ false
or_left true b h = h
or_left false b h = refl

or_right : (a b : Bool) → (a || b) ≡ false → b ≡ false
or_right true b h = truths_differ (sym h)
or_right false b h = h

mutual
  unfolding faults faults_of_all faults_of_terms faults_of_indices holds_decision one_holds_decision term_holds_decision index_holds_decision

  -- An expression that holds no decision variable has no fault where none may stand, if it has none where one may.
  pub fixed_faultless : (c : Context) (f : Name → Bool) → Flagged c f → (d : Bool) (e : ExprTree) → holds_decision f e ≡ false
      → faults c d e ≡ [] → faults c false e ≡ []
  fixed_faultless c f k d (number p n) h none = refl
  fixed_faultless c f k d (truth p b) h none = refl
  fixed_faultless c f k d (named p name) h none = name_fixed f d p name (c name) (k name) h none
  fixed_faultless c f k d (group p e) h none = fixed_faultless c f k d e h none
  fixed_faultless c f k d (factorial p e) h none = none
  fixed_faultless c f k d (negation p e) h none = last (type_fault p (judge c (negation p e))) (faults c d e) (faults c false e) (fixed_faultless c f k d e h) none
  fixed_faultless c f k d (minus p e) h none = last (type_fault p (judge c (minus p e))) (faults c d e) (faults c false e) (fixed_faultless c f k d e h) none
  fixed_faultless c f k d (absolute p e) h none = last (type_fault p (judge c (absolute p e))) (faults c d e) (faults c false e) (fixed_faultless c f k d e h) none
  fixed_faultless c f k d (to_int p e) h none = last (type_fault p (judge c (to_int p e))) (faults c d e) (faults c false e) (fixed_faultless c f k d e h) none
  fixed_faultless c f k d (flatten p e) h none = last (type_fault p (judge c (flatten p e))) (faults c d e) (faults c false e) (fixed_faultless c f k d e h) none
  fixed_faultless c f k d (folded p op e) h none = last (type_fault p (judge c (folded p op e))) (faults c d e) (faults c false e) (fixed_faultless c f k d e h) none
  fixed_faultless c f k d (all_different p e) h none = last (type_fault p (judge c (all_different p e))) (faults c d e) (faults c false e) (fixed_faultless c f k d e h) none
  fixed_faultless c f k d (chain p terms) h none = last (type_fault p (judge c (chain p terms))) (faults_of_terms c d terms) (faults_of_terms c false terms) (terms_fixed c f k d terms h) none
  fixed_faultless c f k d (all_of p parts) h none = last (type_fault p (judge c (all_of p parts))) (faults_of_all c d parts) (faults_of_all c false parts) (parts_fixed c f k d parts h) none
  fixed_faultless c f k d (any_of p parts) h none = last (type_fault p (judge c (any_of p parts))) (faults_of_all c d parts) (faults_of_all c false parts) (parts_fixed c f k d parts h) none
  fixed_faultless c f k d (binary p op a b) h none =
      both (type_fault p (judge c (binary p op a b)) ++ faults c d a) (type_fault p (judge c (binary p op a b)) ++ faults c false a) (faults c (d && not (is_power op)) b) (faults c false b)
      (last (type_fault p (judge c (binary p op a b))) (faults c d a) (faults c false a) (fixed_faultless c f k d a (or_left (holds_decision f a) (holds_decision f b) h))) (fixed_faultless c f k (d && not (is_power op)) b (or_right (holds_decision f a) (holds_decision f b) h)) none
  fixed_faultless c f k d (compare p op a b) h none =
      both (type_fault p (judge c (compare p op a b)) ++ faults c d a) (type_fault p (judge c (compare p op a b)) ++ faults c false a) (faults c d b) (faults c false b)
      (last (type_fault p (judge c (compare p op a b))) (faults c d a) (faults c false a) (fixed_faultless c f k d a (or_left (holds_decision f a) (holds_decision f b) h))) (fixed_faultless c f k d b (or_right (holds_decision f a) (holds_decision f b) h)) none
  fixed_faultless c f k d (lex p op a b) h none =
      both (type_fault p (judge c (lex p op a b)) ++ faults c d a) (type_fault p (judge c (lex p op a b)) ++ faults c false a) (faults c d b) (faults c false b)
      (last (type_fault p (judge c (lex p op a b))) (faults c d a) (faults c false a) (fixed_faultless c f k d a (or_left (holds_decision f a) (holds_decision f b) h))) (fixed_faultless c f k d b (or_right (holds_decision f a) (holds_decision f b) h)) none
  fixed_faultless c f k d (in_set p a b) h none =
      both (type_fault p (judge c (in_set p a b)) ++ faults c d a) (type_fault p (judge c (in_set p a b)) ++ faults c false a) (faults c d b) (faults c false b)
      (last (type_fault p (judge c (in_set p a b))) (faults c d a) (faults c false a) (fixed_faultless c f k d a (or_left (holds_decision f a) (holds_decision f b) h))) (fixed_faultless c f k d b (or_right (holds_decision f a) (holds_decision f b) h)) none
  fixed_faultless c f k d (table p a b) h none =
      both (type_fault p (judge c (table p a b)) ++ faults c d a) (type_fault p (judge c (table p a b)) ++ faults c false a) (faults c false b) (faults c false b)
      (last (type_fault p (judge c (table p a b))) (faults c d a) (faults c false a) (fixed_faultless c f k d a (or_left (holds_decision f a) (holds_decision f b) h))) (λ m. m) none
  fixed_faultless c f k d (in_domain p e dom) h none =
      both (type_fault p (judge c (in_domain p e dom)) ++ faults c d e) (type_fault p (judge c (in_domain p e dom)) ++ faults c false e) (domain_faults c false dom) (domain_faults c false dom)
      (last (type_fault p (judge c (in_domain p e dom))) (faults c d e) (faults c false e) (fixed_faultless c f k d e h)) (λ m. m) none
  fixed_faultless c f k d (gcc p x y z) h none =
      both ((type_fault p (judge c (gcc p x y z)) ++ faults c d x) ++ faults c false y) ((type_fault p (judge c (gcc p x y z)) ++ faults c false x) ++ faults c false y) (faults c d z) (faults c false z)
      (both (type_fault p (judge c (gcc p x y z)) ++ faults c d x) (type_fault p (judge c (gcc p x y z)) ++ faults c false x) (faults c false y) (faults c false y)
      (last (type_fault p (judge c (gcc p x y z))) (faults c d x) (faults c false x)
      (fixed_faultless c f k d x (or_left (holds_decision f x) (holds_decision f y) (or_left (holds_decision f x || holds_decision f y) (holds_decision f z) h))))
      (λ m. m)) (fixed_faultless c f k d z (or_right (holds_decision f x || holds_decision f y) (holds_decision f z) h)) none
  fixed_faultless c f k d (at_least p x y z) h none =
      both ((type_fault p (judge c (at_least p x y z)) ++ faults c d x) ++ faults c false y) ((type_fault p (judge c (at_least p x y z)) ++ faults c false x) ++ faults c false y) (faults c false z) (faults c false z)
      (both (type_fault p (judge c (at_least p x y z)) ++ faults c d x) (type_fault p (judge c (at_least p x y z)) ++ faults c false x) (faults c false y) (faults c false y)
      (last (type_fault p (judge c (at_least p x y z))) (faults c d x) (faults c false x)
      (fixed_faultless c f k d x (or_left (holds_decision f x) (holds_decision f y) (or_left (holds_decision f x || holds_decision f y) (holds_decision f z) h))))
      (λ m. m)) (λ m. m) none
  fixed_faultless c f k d (at_most p x y z) h none =
      both ((type_fault p (judge c (at_most p x y z)) ++ faults c d x) ++ faults c false y) ((type_fault p (judge c (at_most p x y z)) ++ faults c false x) ++ faults c false y) (faults c false z) (faults c false z)
      (both (type_fault p (judge c (at_most p x y z)) ++ faults c d x) (type_fault p (judge c (at_most p x y z)) ++ faults c false x) (faults c false y) (faults c false y)
      (last (type_fault p (judge c (at_most p x y z))) (faults c d x) (faults c false x)
      (fixed_faultless c f k d x (or_left (holds_decision f x) (holds_decision f y) (or_left (holds_decision f x || holds_decision f y) (holds_decision f z) h))))
      (λ m. m)) (λ m. m) none
  fixed_faultless c f k d (quantified p op names dom e) h none =
      let read_in : Context → Judged = λ x. judge_domain x dom in
      let own : List Fault = type_fault p (judge c (quantified p op names dom e)) ++ flat_map (λ x. domain_faults x false dom) (reading_contexts names read_in c) in
      last own (faults (inside names read_in c) d e) (faults (inside names read_in c) false e)
      (fixed_faultless (inside names read_in c) (hiding names f) (hidden_inside names read_in c f k) d e h) none
  fixed_faultless c f k d (literal p parts dom) h none =
      both (type_fault p (judge c (literal p parts dom)) ++ faults_of_all c d parts) (type_fault p (judge c (literal p parts dom)) ++ faults_of_all c false parts) (index_faults c dom) (index_faults c dom)
      (last (type_fault p (judge c (literal p parts dom))) (faults_of_all c d parts) (faults_of_all c false parts) (parts_fixed c f k d parts h)) (λ m. m) none
  fixed_faultless c f k d (comprehension p e gens conditions dom) h none =
      let own : List Fault = ((type_fault p (judge c (comprehension p e gens conditions dom)) ++ index_faults c dom) ++ faults_of_generators c gens) ++ faults_of_all (inside_all gens c) false conditions in
      last own (faults (inside_all gens c) d e) (faults (inside_all gens c) false e)
      (fixed_faultless (inside_all gens c) (hiding (generator_names gens) f) (hidden_all gens c f k) d e h) none
  fixed_faultless c f k d (read p m indices) h none =
      let flag : Bool = d && not (leaves_matrix (judge c m) (entry_count indices) (slice_count indices)) in
      both (type_fault p (judge c (read p m indices)) ++ faults c d m) (type_fault p (judge c (read p m indices)) ++ faults c false m) (faults_of_indices c flag indices) (faults_of_indices c false indices)
      (last (type_fault p (judge c (read p m indices))) (faults c d m) (faults c false m) (fixed_faultless c f k d m (or_left (holds_decision f m) (index_holds_decision f indices) h)))
      (indices_fixed c f k flag indices (or_right (holds_decision f m) (index_holds_decision f indices) h)) none

  parts_fixed : (c : Context) (f : Name → Bool) → Flagged c f → (d : Bool) (es : ExprTrees) → one_holds_decision f es ≡ false → faults_of_all c d es ≡ [] → faults_of_all c false es ≡ []
  parts_fixed c f k d no_trees h none = refl
  parts_fixed c f k d (tree_and e es) h none =
      both (faults c d e) (faults c false e) (faults_of_all c d es) (faults_of_all c false es)
      (fixed_faultless c f k d e (or_left (holds_decision f e) (one_holds_decision f es) h)) (parts_fixed c f k d es (or_right (holds_decision f e) (one_holds_decision f es) h)) none

  terms_fixed : (c : Context) (f : Name → Bool) → Flagged c f → (d : Bool) (ts : Terms) → term_holds_decision f ts ≡ false → faults_of_terms c d ts ≡ [] → faults_of_terms c false ts ≡ []
  terms_fixed c f k d no_terms h none = refl
  terms_fixed c f k d (term_and plus e ts) h none =
      both (faults c d e) (faults c false e) (faults_of_terms c d ts) (faults_of_terms c false ts)
      (fixed_faultless c f k d e (or_left (holds_decision f e) (term_holds_decision f ts) h)) (terms_fixed c f k d ts (or_right (holds_decision f e) (term_holds_decision f ts) h)) none

  indices_fixed : (c : Context) (f : Name → Bool) → Flagged c f → (d : Bool) (is : Indices) → index_holds_decision f is ≡ false → faults_of_indices c d is ≡ [] → faults_of_indices c false is ≡ []
  indices_fixed c f k d no_indices h none = refl
  indices_fixed c f k d (every_and is) h none = indices_fixed c f k d is h none
  indices_fixed c f k d (index_and e is) h none =
      both (faults c d e) (faults c false e) (faults_of_indices c d is) (faults_of_indices c false is)
      (fixed_faultless c f k d e (or_left (holds_decision f e) (index_holds_decision f is) h)) (indices_fixed c f k d is (or_right (holds_decision f e) (index_holds_decision f is) h)) none

-- The decision variables of an environment are those of its context.
pub env_flagged : (env : Env) → Flagged (context_of env) (decisions_in env)
unfolding context_of is_decision is_flagged meaning_in
env_flagged env name = go (env name)
  where
    go : (b : Option Bound) → is_flagged (option_map meaning_in b) ≡ true → is_decision b ≡ true
    go None h = h
    go (Some (has_value t v)) h = h
    go (Some (has_cells s is vs)) h = refl
    go (Some (has_domain s is vs)) h = h
