-- The names that may stand in an expression or a domain without a fault decide its type, and that it has no fault.
use Rattle.std.specs.Prelude.{◌≡◌, Bool, true, false, not, ◌&&◌, ◌||◌, List, [], ◌∷◌, ◌++◌, map, IsTrue, if◌then◌else◌, Some, None, bytes_eq, flat_map, Option, refl}
use Rattle.std.proofs.Common.{ap, ◌∙◌}
use Rattle.std.specs.List.{list_all}
use Rattle.ep_base.specs.declared.names.Name.{Name}
use Rattle.ep_base.specs.declared.places.Place.{Place}
use Rattle.ep_tree_laws.specs.Deciding.{IsKept, LacksDecisions, NamesAreKept, without_decision}
use Rattle.ep_tree.specs.Faults.{Fault, domain_faults, domain_name_faults, end_faults, entry_count, faults, faults_of_all, faults_of_domains, faults_of_generators, faults_of_indices, faults_of_ranges, faults_of_terms, has_open_range, index_faults, is_power, leaves_matrix, name_faults, open_domain, type_fault, unless}
use Rattle.ep_tree.specs.Names.{put}
use Rattle.ep_tree.specs.Trees.{DomainTree, Domains, End, ExprTree, ExprTrees, Generators, IndexDomain, Indices, Ranges, Terms, absolute, all_different, all_of, any_of, at_least, at_most, binary, bool, chain, compare, comprehension, domain_and, end_at, every_and, factorial, flatten, folded, gcc, generator_and, group, group_domain, in_domain, in_set, index_and, int, lex, literal, matrix_domain, minus, named, named_domain, negation, no_domains, no_end, no_generators, no_indices, no_ranges, no_terms, no_trees, number, one_and, over, quantified, ranges, read, set_domain, span_and, table, term_and, to_int, tree_and, truth, unstated}
use Rattle.ep_tree.specs.Types.{Context, Judged, Meaning, a_domain, a_value, are_lists, binary_type, both_scalars, comprehension_type, folded_type, from_many, from_one, from_three, from_two, gives, has_dimensions, indexed_type, inside, inside_all, is_boolean, is_integer, is_matrix, judge, judge_all, judge_domain, judge_domains, judge_end, judge_generators, judge_index, judge_indices, judge_ranges, judge_terms, list_type, matrix_type, mistyped, named_domain_type, named_type, of_scalar, quantified_name, quantified_type, read_type, reading_contexts, scalar_of, slice_count, typed, untyped}
use Rattle.ep_tree.specs.declared.values.ValueType.{ValueType}

-- ---- lists without a fault

pub left_none : {A : Type 0} (xs ys : List A) → xs ++ ys ≡ [] → xs ≡ []
left_none [] ys h = refl
left_none (x ∷ xs) ys h = absurd cc

pub right_none : {A : Type 0} (xs ys : List A) → xs ++ ys ≡ [] → ys ≡ []
right_none [] ys h = h
right_none (x ∷ xs) ys h = absurd cc

both_none : {A : Type 0} (xs ys : List A) → xs ≡ [] → ys ≡ [] → xs ++ ys ≡ []
both_none xs ys p q = ap (λ zs. zs ++ ys) p ∙ q

-- Something that is read in two contexts, with its faults: where it has none in the first, it is the same in the second,
-- and has none there.
abbrev pub Kept : {A : Type 0} → A → A → List Fault → List Fault → Type 0
Kept x y fs gs = fs ≡ [] → (y ≡ x) × (gs ≡ [])

no_part : {A : Type 0} (x : A) → Kept x x [] []
no_part x none = (refl, refl)

two_parts : {A B C : Type 0} (f : A → B → C) (a a' : A) (b b' : B) (fa fa' fb fb' : List Fault) → Kept a a' fa fa' → Kept b b' fb fb'
    → Kept (f a b) (f a' b') (fa ++ fb) (fa' ++ fb')
two_parts f a a' b b' fa fa' fb fb' h k none =
    let p : _ = h (left_none fa fb none) in
    let q : _ = k (right_none fa fb none) in
    (ap (λ x. f x b') p.0 ∙ ap (f a) q.0, both_none fa' fb' p.1 q.1)

-- a node with one part, with two, three and four
one_part : {A : Type 0} (p : Place) (rule : A → Judged) (a a' : A) (fa fa' : List Fault) → Kept a a' fa fa'
    → Kept (rule a) (rule a') (type_fault p (rule a) ++ fa) (type_fault p (rule a') ++ fa')
one_part p rule a a' fa fa' h none =
    let q : _ = h (right_none (type_fault p (rule a)) fa none) in
    let same : rule a' ≡ rule a = ap rule q.0 in
    (same, both_none (type_fault p (rule a')) fa' (ap (type_fault p) same ∙ left_none (type_fault p (rule a)) fa none) q.1)

-- a node, and a further part behind its other faults
more_parts : {A B : Type 0} (p : Place) (rule : A → B → Judged) (a a' : A) (b b' : B) (fa fa' fb fb' : List Fault) → Kept a a' fa fa' → Kept b b' fb fb'
    → Kept (rule a b) (rule a' b') ((type_fault p (rule a b) ++ fa) ++ fb) ((type_fault p (rule a' b') ++ fa') ++ fb')
more_parts p rule a a' b b' fa fa' fb fb' h k none =
    let first : _ = left_none (type_fault p (rule a b) ++ fa) fb none in
    let q : _ = h (right_none (type_fault p (rule a b)) fa first) in
    let r : _ = k (right_none (type_fault p (rule a b) ++ fa) fb none) in
    let same : rule a' b' ≡ rule a b = ap (λ x. rule x b') q.0 ∙ ap (rule a) r.0 in (
      same,
      both_none (type_fault p (rule a' b') ++ fa') fb'
          (both_none (type_fault p (rule a' b')) fa' (ap (type_fault p) same ∙ left_none (type_fault p (rule a b)) fa first) q.1) r.1,
    )

three_parts : {A B C : Type 0} (p : Place) (rule : A → B → C → Judged) (a a' : A) (b b' : B) (c c' : C) (fa fa' fb fb' fc fc' : List Fault)
    → Kept a a' fa fa' → Kept b b' fb fb' → Kept c c' fc fc'
    → Kept (rule a b c) (rule a' b' c') (((type_fault p (rule a b c) ++ fa) ++ fb) ++ fc) (((type_fault p (rule a' b' c') ++ fa') ++ fb') ++ fc')
three_parts p rule a a' b b' c c' fa fa' fb fb' fc fc' h k l none =
    let second : _ = left_none ((type_fault p (rule a b c) ++ fa) ++ fb) fc none in
    let first : _ = left_none (type_fault p (rule a b c) ++ fa) fb second in
    let q : _ = h (right_none (type_fault p (rule a b c)) fa first) in
    let r : _ = k (right_none (type_fault p (rule a b c) ++ fa) fb second) in
    let s : _ = l (right_none ((type_fault p (rule a b c) ++ fa) ++ fb) fc none) in
    let same : rule a' b' c' ≡ rule a b c = ap (λ x. rule x b' c') q.0 ∙ ap (λ x. rule a x c') r.0 ∙ ap (rule a b) s.0 in (
      same,
      both_none ((type_fault p (rule a' b' c') ++ fa') ++ fb') fc'
          (both_none (type_fault p (rule a' b' c') ++ fa') fb'
          (both_none (type_fault p (rule a' b' c')) fa' (ap (type_fault p) same ∙ left_none (type_fault p (rule a b c)) fa first) q.1) r.1) s.1,
    )

four_parts : {A B C D : Type 0} (p : Place) (rule : A → B → C → D → Judged) (a a' : A) (b b' : B) (c c' : C) (d d' : D)
    (fa fa' fb fb' fc fc' fd fd' : List Fault) → Kept a a' fa fa' → Kept b b' fb fb' → Kept c c' fc fc' → Kept d d' fd fd'
    → Kept (rule a b c d) (rule a' b' c' d')
    ((((type_fault p (rule a b c d) ++ fa) ++ fb) ++ fc) ++ fd) ((((type_fault p (rule a' b' c' d') ++ fa') ++ fb') ++ fc') ++ fd')
four_parts p rule a a' b b' c c' d d' fa fa' fb fb' fc fc' fd fd' h k l m none =
    let third : _ = left_none (((type_fault p (rule a b c d) ++ fa) ++ fb) ++ fc) fd none in
    let second : _ = left_none ((type_fault p (rule a b c d) ++ fa) ++ fb) fc third in
    let first : _ = left_none (type_fault p (rule a b c d) ++ fa) fb second in
    let q : _ = h (right_none (type_fault p (rule a b c d)) fa first) in
    let r : _ = k (right_none (type_fault p (rule a b c d) ++ fa) fb second) in
    let s : _ = l (right_none ((type_fault p (rule a b c d) ++ fa) ++ fb) fc third) in
    let t : _ = m (right_none (((type_fault p (rule a b c d) ++ fa) ++ fb) ++ fc) fd none) in
    let same : rule a' b' c' d' ≡ rule a b c d =
    ap (λ x. rule x b' c' d') q.0 ∙ ap (λ x. rule a x c' d') r.0 ∙ ap (λ x. rule a b x d') s.0 ∙ ap (rule a b c) t.0 in (
      same,
      both_none (((type_fault p (rule a' b' c' d') ++ fa') ++ fb') ++ fc') fd'
          (both_none ((type_fault p (rule a' b' c' d') ++ fa') ++ fb') fc'
          (both_none (type_fault p (rule a' b' c' d') ++ fa') fb'
          (both_none (type_fault p (rule a' b' c' d')) fa' (ap (type_fault p) same ∙ left_none (type_fault p (rule a b c d)) fa first) q.1) r.1) s.1) t.1,
    )

-- ---- names that are kept

kept_weaker : (d o : Bool) (one other : Option Meaning) → IsKept d o one other → IsKept false false one other
unfolding IsKept
kept_weaker d o None other h = tt
kept_weaker d o (Some (a_domain t)) other h = h
kept_weaker d o (Some (a_value t false)) other h = h
kept_weaker d o (Some (a_value t true)) other h = tt

pub weaker : (d o : Bool) (c c' : Context) → NamesAreKept d o c c' → NamesAreKept false false c c'
weaker d o c c' h name = kept_weaker d o (c name) (c' name) (h name)

-- where decision variables may stand only under a condition
pub narrower : (d o b : Bool) (c c' : Context) → NamesAreKept d o c c' → NamesAreKept (d && b) (o && b) c c'
narrower d o b c c' h = go d o b h
  where
    go : (d o b : Bool) → NamesAreKept d o c c' → NamesAreKept (d && b) (o && b) c c'
    go true true b h = under b h
      where
        under : (b : Bool) → NamesAreKept true true c c' → NamesAreKept b b c c'
        under true h = h
        under false h = weaker true true c c' h
    go true false true h = h
    go true false false h = weaker true false c c' h
    go false true true h = h
    go false true false h = weaker false true c c' h
    go false false b h = h

put_kept : (d o : Bool) (c c' : Context) (name : Name) (m m' : Meaning) → NamesAreKept d o c c' → IsKept d o (Some m) (Some m')
    → NamesAreKept d o (put name m c) (put name m' c')
put_kept d o c c' name m m' h k other = go (bytes_eq other name)
  where
    go : (b : Bool) → IsKept d o (if b then Some m else c other) (if b then Some m' else c' other)
    go true = k
    go false = h other

quantified_kept : (d o : Bool) (j j' : Judged) → j' ≡ j → IsKept d o (Some (quantified_name j)) (Some (quantified_name j'))
unfolding IsKept quantified_name
quantified_kept d o (typed t) j' e = ap (λ j. Some (quantified_name j)) e
quantified_kept d o mistyped j' e = ap (λ j. Some (quantified_name j)) e
quantified_kept d o untyped j' e = ap (λ j. Some (quantified_name j)) e

-- the readings of a domain for some names, and what stands behind them
readings_kept : (d o : Bool) (dom : Context → Judged) (df : Context → List Fault)
    → ((c c' : Context) → NamesAreKept false false c c' → Kept (dom c) (dom c') (df c) (df c'))
    → (names : List Name) (c c' : Context) → NamesAreKept d o c c' → flat_map df (reading_contexts names dom c) ≡ []
    → (map dom (reading_contexts names dom c') ≡ map dom (reading_contexts names dom c))
    × (flat_map df (reading_contexts names dom c') ≡ [])
    × NamesAreKept d o (inside names dom c) (inside names dom c')
unfolding reading_contexts inside
readings_kept d o dom df each [] c c' k none = (refl, refl, k)
readings_kept d o dom df each (name ∷ names) c c' k none =
    let next : Context = put name (quantified_name (dom c)) c in
    let p : _ = each c c' (weaker d o c c' k) (left_none (df c) (flat_map df (reading_contexts names dom next)) none) in
    let kept : NamesAreKept d o next (put name (quantified_name (dom c')) c') =
    put_kept d o c c' name (quantified_name (dom c)) (quantified_name (dom c')) k (quantified_kept d o (dom c) (dom c') p.0) in
    let q : _ = readings_kept d o dom df each names next (put name (quantified_name (dom c')) c') kept
    (right_none (df c) (flat_map df (reading_contexts names dom next)) none) in (
      ap (λ j. j ∷ map dom (reading_contexts names dom (put name (quantified_name (dom c')) c'))) p.0 ∙ ap (λ js. dom c ∷ js) q.0,
      both_none (df c') (flat_map df (reading_contexts names dom (put name (quantified_name (dom c')) c'))) p.1 q.1,
      q.2,
    )

-- ---- names

name_kept : (d o : Bool) (p : Place) (name : Name) (one other : Option Meaning) → IsKept d o one other
    → Kept (named_type one) (named_type other) (name_faults d p name one) (name_faults o p name other)
unfolding IsKept named_type name_faults unless
name_kept d o p name None other k none = absurd cc
name_kept d o p name (Some (a_domain t)) other k none = absurd cc
name_kept d o p name (Some (a_value None false)) other k none = (ap named_type k, ap (name_faults o p name) k)
name_kept d o p name (Some (a_value (Some t) false)) other k none = (ap named_type k, ap (name_faults o p name) k)
name_kept false o p name (Some (a_value t true)) other k none = absurd cc
name_kept true o p name (Some (a_value t true)) other k none =
    (ap named_type k.1 ∙ typed_alike k.0 t, ap (name_faults o p name) k.1 ∙ may_stand k.0 o k.2)
  where
    typed_alike : (flag : Bool) (t : Option ValueType) → named_type (Some (a_value t flag)) ≡ named_type (Some (a_value t true))
    typed_alike flag None = refl
    typed_alike flag (Some t) = refl

    may_stand : (flag o : Bool) → IsTrue (o || not flag) → name_faults o p name (Some (a_value t flag)) ≡ []
    may_stand false o h = refl
    may_stand true true h = refl
    may_stand true false h = absurd cc

domain_name_kept : (p : Place) (name : Name) (one other : Option Meaning) → IsKept false false one other
    → Kept (named_domain_type one) (named_domain_type other) (domain_name_faults p name one) (domain_name_faults p name other)
unfolding IsKept named_domain_type domain_name_faults
domain_name_kept p name None other k none = absurd cc
domain_name_kept p name (Some (a_domain t)) other k none = (ap named_domain_type k, ap (domain_name_faults p name) k)
domain_name_kept p name (Some (a_value t false)) other k none = absurd cc
domain_name_kept p name (Some (a_value t true)) other k none = absurd cc

pub lacking : (c c' : Context) → LacksDecisions c c' → NamesAreKept false false c c'
unfolding without_decision IsKept
lacking c c' h name = go (c name) (c' name) (h name)
  where
    go : (one other : Option Meaning) → other ≡ without_decision one → IsKept false false one other
    go None other e = tt
    go (Some (a_domain t)) other e = e
    go (Some (a_value t false)) other e = e
    go (Some (a_value t true)) other e = tt

-- ---- expressions and domains

-- brackets, which have no fault of their own
bracket_kept : (a a' : Judged) (fa fa' : List Fault) → Kept a a' fa fa' → Kept (from_one a (λ t. typed t)) (from_one a' (λ t. typed t)) fa fa'
bracket_kept a a' fa fa' h none = let p : _ = h none in (ap (λ j. from_one j (λ t. typed t)) p.0, p.1)

-- a read, whose indices may hold decision variables where it doesn't leave a matrix
read_kept : (p : Place) (rule : Judged → List Judged → Judged) (a a' : Judged) (b b' : List Judged) (fa fa' : List Fault) (fb fb' : Judged → List Fault)
    → Kept a a' fa fa' → Kept b b' (fb a) (fb' a)
    → Kept (rule a b) (rule a' b') ((type_fault p (rule a b) ++ fa) ++ fb a) ((type_fault p (rule a' b') ++ fa') ++ fb' a')
read_kept p rule a a' b b' fa fa' fb fb' h k none =
    let q : _ = h (right_none (type_fault p (rule a b)) fa (left_none (type_fault p (rule a b) ++ fa) (fb a) none)) in
    more_parts p rule a a' b b' fa fa' (fb a) (fb' a') h (λ m. let r : _ = k m in (r.0, ap fb' q.0 ∙ r.1)) none

mutual
  unfolding judge faults judge_domain domain_faults judge_all faults_of_all judge_terms faults_of_terms judge_indices faults_of_indices judge_ranges faults_of_ranges judge_end end_faults judge_domains faults_of_domains judge_index index_faults judge_generators faults_of_generators inside_all from_two from_three

  -- An expression without a fault has the same type, and no fault, where the names that may stand in it are kept.
  pub expression_kept : (c c' : Context) (d o : Bool) → NamesAreKept d o c c' → (e : ExprTree)
      → Kept (judge c e) (judge c' e) (faults c d e) (faults c' o e)
  expression_kept c c' d o k (number p n) = no_part (typed ValueType.Int)
  expression_kept c c' d o k (truth p b) = no_part (typed ValueType.Bool)
  expression_kept c c' d o k (named p name) = name_kept d o p name (c name) (c' name) (k name)
  expression_kept c c' d o k (group p e) = bracket_kept (judge c e) (judge c' e) (faults c d e) (faults c' o e) (expression_kept c c' d o k e)
  expression_kept c c' d o k (negation p e) =
      one_part p (λ j. from_one j (λ t. gives ValueType.Bool (is_boolean t))) (judge c e) (judge c' e) (faults c d e) (faults c' o e) (expression_kept c c' d o k e)
  expression_kept c c' d o k (minus p e) =
      one_part p (λ j. from_one j (λ t. gives ValueType.Int (is_integer t))) (judge c e) (judge c' e) (faults c d e) (faults c' o e) (expression_kept c c' d o k e)
  expression_kept c c' d o k (absolute p e) =
      one_part p (λ j. from_one j (λ t. gives ValueType.Int (is_integer t))) (judge c e) (judge c' e) (faults c d e) (faults c' o e) (expression_kept c c' d o k e)
  expression_kept c c' d o k (to_int p e) =
      one_part p (λ j. from_one j (λ t. gives ValueType.Int (is_boolean t))) (judge c e) (judge c' e) (faults c d e) (faults c' o e) (expression_kept c c' d o k e)
  expression_kept c c' d o k (factorial p e) =
      one_part p (λ j. from_one j (λ t. gives ValueType.Int (is_integer t))) (judge c e) (judge c' e) (faults c false e) (faults c' false e)
      (expression_kept c c' false false (weaker d o c c' k) e)
  expression_kept c c' d o k (flatten p m) =
      one_part p (λ j. from_one j (λ t. gives (ValueType.Matrix 1 (scalar_of t)) (is_matrix t))) (judge c m) (judge c' m) (faults c d m) (faults c' o m)
      (expression_kept c c' d o k m)
  expression_kept c c' d o k (chain p terms) =
      one_part p (λ js. from_many js (λ ts. gives ValueType.Int (list_all is_integer ts)))
      (judge_terms c terms) (judge_terms c' terms) (faults_of_terms c d terms) (faults_of_terms c' o terms) (terms_kept c c' d o k terms)
  expression_kept c c' d o k (binary p op a b) =
      more_parts p (λ i j. from_two i j (binary_type op)) (judge c a) (judge c' a) (judge c b) (judge c' b)
      (faults c d a) (faults c' o a) (faults c (d && not (is_power op)) b) (faults c' (o && not (is_power op)) b)
      (expression_kept c c' d o k a)
      (expression_kept c c' (d && not (is_power op)) (o && not (is_power op)) (narrower d o (not (is_power op)) c c' k) b)
  expression_kept c c' d o k (compare p op a b) =
      more_parts p (λ i j. from_two i j (λ s t. gives ValueType.Bool (is_integer s && is_integer t))) (judge c a) (judge c' a) (judge c b) (judge c' b)
      (faults c d a) (faults c' o a) (faults c d b) (faults c' o b) (expression_kept c c' d o k a) (expression_kept c c' d o k b)
  expression_kept c c' d o k (lex p op a b) =
      more_parts p (λ i j. from_two i j (λ s t. gives ValueType.Bool (are_lists s t))) (judge c a) (judge c' a) (judge c b) (judge c' b)
      (faults c d a) (faults c' o a) (faults c d b) (faults c' o b) (expression_kept c c' d o k a) (expression_kept c c' d o k b)
  expression_kept c c' d o k (in_domain p e dom) =
      more_parts p (λ i j. from_two i j (λ s t. gives ValueType.Bool (is_integer s && is_integer t))) (judge c e) (judge c' e) (judge_domain c dom) (judge_domain c' dom)
      (faults c d e) (faults c' o e) (domain_faults c false dom) (domain_faults c' false dom)
      (expression_kept c c' d o k e) (domain_kept c c' (weaker d o c c' k) false dom)
  expression_kept c c' d o k (in_set p e m) =
      more_parts p (λ i j. from_two i j (λ s t. gives ValueType.Bool (is_integer s && is_matrix t))) (judge c e) (judge c' e) (judge c m) (judge c' m)
      (faults c d e) (faults c' o e) (faults c d m) (faults c' o m) (expression_kept c c' d o k e) (expression_kept c c' d o k m)
  expression_kept c c' d o k (all_of p parts) =
      one_part p (λ js. from_many js (λ ts. gives ValueType.Bool (list_all is_boolean ts)))
      (judge_all c parts) (judge_all c' parts) (faults_of_all c d parts) (faults_of_all c' o parts) (all_kept c c' d o k parts)
  expression_kept c c' d o k (any_of p parts) =
      one_part p (λ js. from_many js (λ ts. gives ValueType.Bool (list_all is_boolean ts)))
      (judge_all c parts) (judge_all c' parts) (faults_of_all c d parts) (faults_of_all c' o parts) (all_kept c c' d o k parts)
  expression_kept c c' d o k (quantified p op names dom e) = λ none.
      let read_in : Context → Judged = λ x. judge_domain x dom in
      let first : _ = right_none (type_fault p (judge c (quantified p op names dom e))) (flat_map (λ x. domain_faults x false dom) (reading_contexts names read_in c))
      (left_none (type_fault p (judge c (quantified p op names dom e)) ++ flat_map (λ x. domain_faults x false dom) (reading_contexts names read_in c))
      (faults (inside names read_in c) d e) none) in
      let r : _ = readings_kept d o read_in (λ x. domain_faults x false dom) (λ x x' l. domain_kept x x' l false dom) names c c' k first in
      more_parts p (λ js j. from_many js (λ ds. from_one j (quantified_type op ds)))
      (map read_in (reading_contexts names read_in c)) (map read_in (reading_contexts names read_in c'))
      (judge (inside names read_in c) e) (judge (inside names read_in c') e)
      (flat_map (λ x. domain_faults x false dom) (reading_contexts names read_in c)) (flat_map (λ x. domain_faults x false dom) (reading_contexts names read_in c'))
      (faults (inside names read_in c) d e) (faults (inside names read_in c') o e)
      (λ _. (r.0, r.1)) (expression_kept (inside names read_in c) (inside names read_in c') d o r.2 e) none
  expression_kept c c' d o k (literal p parts dom) =
      more_parts p (λ js is. from_many is (λ ds. from_many js (λ ts. indexed_type ds (list_type ts))))
      (judge_all c parts) (judge_all c' parts) (judge_index c dom) (judge_index c' dom)
      (faults_of_all c d parts) (faults_of_all c' o parts) (index_faults c dom) (index_faults c' dom)
      (all_kept c c' d o k parts) (index_kept c c' (weaker d o c c' k) dom)
  expression_kept c c' d o k (comprehension p e gens conditions dom) = λ none.
      let own : List Fault = type_fault p (judge c (comprehension p e gens conditions dom)) in
      let gs : List Fault = faults_of_generators c gens in
      let cs : List Fault = faults_of_all (inside_all gens c) false conditions in
      let first : _ = right_none (own ++ index_faults c dom) gs (left_none ((own ++ index_faults c dom) ++ gs) cs
      (left_none (((own ++ index_faults c dom) ++ gs) ++ cs) (faults (inside_all gens c) d e) none)) in
      let r : _ = generators_kept c c' d o k gens first in
      four_parts p (λ is js ks j. from_many is (λ index. from_many js (λ domains. from_many ks (λ truths. from_one j (comprehension_type index domains truths)))))
      (judge_index c dom) (judge_index c' dom) (judge_generators c gens) (judge_generators c' gens)
      (judge_all (inside_all gens c) conditions) (judge_all (inside_all gens c') conditions)
      (judge (inside_all gens c) e) (judge (inside_all gens c') e)
      (index_faults c dom) (index_faults c' dom) gs (faults_of_generators c' gens)
      cs (faults_of_all (inside_all gens c') false conditions) (faults (inside_all gens c) d e) (faults (inside_all gens c') o e)
      (index_kept c c' (weaker d o c c' k) dom) (λ _. (r.0, r.1))
      (all_kept (inside_all gens c) (inside_all gens c') false false (weaker d o (inside_all gens c) (inside_all gens c') r.2) conditions)
      (expression_kept (inside_all gens c) (inside_all gens c') d o r.2 e) none
  expression_kept c c' d o k (read p m indices) =
      read_kept p (λ j js. from_one j (λ t. from_many js (λ ts. read_type t ts (slice_count indices))))
      (judge c m) (judge c' m) (judge_indices c indices) (judge_indices c' indices) (faults c d m) (faults c' o m)
      (λ j. faults_of_indices c (d && not (leaves_matrix j (entry_count indices) (slice_count indices))) indices)
      (λ j. faults_of_indices c' (o && not (leaves_matrix j (entry_count indices) (slice_count indices))) indices)
      (expression_kept c c' d o k m)
      (indices_kept c c' (d && not (leaves_matrix (judge c m) (entry_count indices) (slice_count indices)))
      (o && not (leaves_matrix (judge c m) (entry_count indices) (slice_count indices)))
      (narrower d o (not (leaves_matrix (judge c m) (entry_count indices) (slice_count indices))) c c' k) indices)
  expression_kept c c' d o k (folded p op m) =
      one_part p (λ j. from_one j (folded_type op)) (judge c m) (judge c' m) (faults c d m) (faults c' o m) (expression_kept c c' d o k m)
  expression_kept c c' d o k (all_different p m) =
      one_part p (λ j. from_one j (λ t. gives ValueType.Bool (is_matrix t))) (judge c m) (judge c' m) (faults c d m) (faults c' o m) (expression_kept c c' d o k m)
  expression_kept c c' d o k (gcc p m values counts) =
      three_parts p (λ i j l. from_three i j l (λ s t u. gives ValueType.Bool (is_matrix s && are_lists t u)))
      (judge c m) (judge c' m) (judge c values) (judge c' values) (judge c counts) (judge c' counts)
      (faults c d m) (faults c' o m) (faults c false values) (faults c' false values) (faults c d counts) (faults c' o counts)
      (expression_kept c c' d o k m) (expression_kept c c' false false (weaker d o c c' k) values) (expression_kept c c' d o k counts)
  expression_kept c c' d o k (at_least p m counts values) =
      three_parts p (λ i j l. from_three i j l (λ s t u. gives ValueType.Bool (is_matrix s && are_lists t u)))
      (judge c m) (judge c' m) (judge c counts) (judge c' counts) (judge c values) (judge c' values)
      (faults c d m) (faults c' o m) (faults c false counts) (faults c' false counts) (faults c false values) (faults c' false values)
      (expression_kept c c' d o k m) (expression_kept c c' false false (weaker d o c c' k) counts) (expression_kept c c' false false (weaker d o c c' k) values)
  expression_kept c c' d o k (at_most p m counts values) =
      three_parts p (λ i j l. from_three i j l (λ s t u. gives ValueType.Bool (is_matrix s && are_lists t u)))
      (judge c m) (judge c' m) (judge c counts) (judge c' counts) (judge c values) (judge c' values)
      (faults c d m) (faults c' o m) (faults c false counts) (faults c' false counts) (faults c false values) (faults c' false values)
      (expression_kept c c' d o k m) (expression_kept c c' false false (weaker d o c c' k) counts) (expression_kept c c' false false (weaker d o c c' k) values)
  expression_kept c c' d o k (table p row rows) =
      more_parts p (λ i j. from_two i j (λ s t. gives ValueType.Bool (has_dimensions 1 s && has_dimensions 2 t))) (judge c row) (judge c' row) (judge c rows) (judge c' rows)
      (faults c d row) (faults c' o row) (faults c false rows) (faults c' false rows)
      (expression_kept c c' d o k row) (expression_kept c c' false false (weaker d o c c' k) rows)

  -- The same of a domain.
  pub domain_kept : (c c' : Context) → NamesAreKept false false c c' → (may_open : Bool) (dom : DomainTree)
      → Kept (judge_domain c dom) (judge_domain c' dom) (domain_faults c may_open dom) (domain_faults c' may_open dom)
  domain_kept c c' k may_open (bool p) = no_part (typed ValueType.Bool)
  domain_kept c c' k may_open (int p) = λ none. (refl, none)
  domain_kept c c' k may_open (ranges p rs) = λ none.
      let own : List Fault = unless (may_open || not (has_open_range rs)) (open_domain p) in
      let t : List Fault = type_fault p (judge_domain c (ranges p rs)) in
      let left : _ = left_none (own ++ t) (faults_of_ranges c rs) none in
      let r : _ = one_part p (λ js. from_many js (λ ts. gives ValueType.Int (list_all is_integer ts)))
      (judge_ranges c rs) (judge_ranges c' rs) (faults_of_ranges c rs) (faults_of_ranges c' rs) (ranges_kept c c' k rs)
      (both_none t (faults_of_ranges c rs) (right_none own t left) (right_none (own ++ t) (faults_of_ranges c rs) none)) in
      let t' : List Fault = type_fault p (judge_domain c' (ranges p rs)) in (
        r.0,
        both_none (own ++ t') (faults_of_ranges c' rs) (both_none own t' (left_none own t left) (left_none t' (faults_of_ranges c' rs) r.1))
            (right_none t' (faults_of_ranges c' rs) r.1),
      )
  domain_kept c c' k may_open (named_domain p name) = domain_name_kept p name (c name) (c' name) (k name)
  domain_kept c c' k may_open (group_domain p dom) =
      bracket_kept (judge_domain c dom) (judge_domain c' dom) (domain_faults c may_open dom) (domain_faults c' may_open dom) (domain_kept c c' k may_open dom)
  domain_kept c c' k may_open (set_domain p op one other) =
      more_parts p (λ i j. from_two i j (λ s t. gives (of_scalar (both_scalars (scalar_of s) (scalar_of t))) (is_integer s && is_integer t)))
      (judge_domain c one) (judge_domain c' one) (judge_domain c other) (judge_domain c' other)
      (domain_faults c may_open one) (domain_faults c' may_open one) (domain_faults c may_open other) (domain_faults c' may_open other)
      (domain_kept c c' k may_open one) (domain_kept c c' k may_open other)
  domain_kept c c' k may_open (matrix_domain p doms dom) =
      more_parts p (λ js j. from_one j (λ t. from_many js (λ ts. matrix_type ts t)))
      (judge_domains c doms) (judge_domains c' doms) (judge_domain c dom) (judge_domain c' dom)
      (faults_of_domains c doms) (faults_of_domains c' doms) (domain_faults c may_open dom) (domain_faults c' may_open dom)
      (domains_kept c c' k doms) (domain_kept c c' k may_open dom)

  -- The same of some expressions.
  pub all_kept : (c c' : Context) (d o : Bool) → NamesAreKept d o c c' → (es : ExprTrees)
      → Kept (judge_all c es) (judge_all c' es) (faults_of_all c d es) (faults_of_all c' o es)
  all_kept c c' d o k no_trees = no_part []
  all_kept c c' d o k (tree_and e es) =
      two_parts (λ j js. j ∷ js) (judge c e) (judge c' e) (judge_all c es) (judge_all c' es)
      (faults c d e) (faults c' o e) (faults_of_all c d es) (faults_of_all c' o es) (expression_kept c c' d o k e) (all_kept c c' d o k es)

  -- The same of the terms of a chain.
  pub terms_kept : (c c' : Context) (d o : Bool) → NamesAreKept d o c c' → (ts : Terms)
      → Kept (judge_terms c ts) (judge_terms c' ts) (faults_of_terms c d ts) (faults_of_terms c' o ts)
  terms_kept c c' d o k no_terms = no_part []
  terms_kept c c' d o k (term_and plus e ts) =
      two_parts (λ j js. j ∷ js) (judge c e) (judge c' e) (judge_terms c ts) (judge_terms c' ts)
      (faults c d e) (faults c' o e) (faults_of_terms c d ts) (faults_of_terms c' o ts) (expression_kept c c' d o k e) (terms_kept c c' d o k ts)

  -- The same of the indices of a read.
  pub indices_kept : (c c' : Context) (d o : Bool) → NamesAreKept d o c c' → (is : Indices)
      → Kept (judge_indices c is) (judge_indices c' is) (faults_of_indices c d is) (faults_of_indices c' o is)
  indices_kept c c' d o k no_indices = no_part []
  indices_kept c c' d o k (every_and is) = indices_kept c c' d o k is
  indices_kept c c' d o k (index_and e is) =
      two_parts (λ j js. j ∷ js) (judge c e) (judge c' e) (judge_indices c is) (judge_indices c' is)
      (faults c d e) (faults c' o e) (faults_of_indices c d is) (faults_of_indices c' o is) (expression_kept c c' d o k e) (indices_kept c c' d o k is)

  -- The same of the bounds of some ranges.
  pub ranges_kept : (c c' : Context) → NamesAreKept false false c c' → (rs : Ranges)
      → Kept (judge_ranges c rs) (judge_ranges c' rs) (faults_of_ranges c rs) (faults_of_ranges c' rs)
  ranges_kept c c' k no_ranges = no_part []
  ranges_kept c c' k (one_and e rs) =
      two_parts (λ j js. j ∷ js) (judge c e) (judge c' e) (judge_ranges c rs) (judge_ranges c' rs)
      (faults c false e) (faults c' false e) (faults_of_ranges c rs) (faults_of_ranges c' rs) (expression_kept c c' false false k e) (ranges_kept c c' k rs)
  ranges_kept c c' k (span_and a b rs) =
      two_parts (λ is js. is ++ js) (judge_end c a ++ judge_end c b) (judge_end c' a ++ judge_end c' b) (judge_ranges c rs) (judge_ranges c' rs)
      (end_faults c a ++ end_faults c b) (end_faults c' a ++ end_faults c' b) (faults_of_ranges c rs) (faults_of_ranges c' rs)
      (two_parts (λ is js. is ++ js) (judge_end c a) (judge_end c' a) (judge_end c b) (judge_end c' b)
      (end_faults c a) (end_faults c' a) (end_faults c b) (end_faults c' b) (end_kept c c' k a) (end_kept c c' k b))
      (ranges_kept c c' k rs)

  -- The same of an end of a range.
  pub end_kept : (c c' : Context) → NamesAreKept false false c c' → (end : End)
      → Kept (judge_end c end) (judge_end c' end) (end_faults c end) (end_faults c' end)
  end_kept c c' k no_end = no_part []
  end_kept c c' k (end_at e) = λ none. let p : _ = expression_kept c c' false false k e none in (ap (λ j. j ∷ []) p.0, p.1)

  -- The same of some domains.
  pub domains_kept : (c c' : Context) → NamesAreKept false false c c' → (doms : Domains)
      → Kept (judge_domains c doms) (judge_domains c' doms) (faults_of_domains c doms) (faults_of_domains c' doms)
  domains_kept c c' k no_domains = no_part []
  domains_kept c c' k (domain_and dom doms) =
      two_parts (λ j js. j ∷ js) (judge_domain c dom) (judge_domain c' dom) (judge_domains c doms) (judge_domains c' doms)
      (domain_faults c false dom) (domain_faults c' false dom) (faults_of_domains c doms) (faults_of_domains c' doms) (domain_kept c c' k false dom) (domains_kept c c' k doms)

  -- The same of the domain of a list's indices.
  pub index_kept : (c c' : Context) → NamesAreKept false false c c' → (index : IndexDomain)
      → Kept (judge_index c index) (judge_index c' index) (index_faults c index) (index_faults c' index)
  index_kept c c' k unstated = no_part []
  index_kept c c' k (over dom) = λ none. let p : _ = domain_kept c c' k false dom none in (ap (λ j. j ∷ []) p.0, p.1)

  -- The same of generators, and the names that are kept behind them.
  pub generators_kept : (c c' : Context) (d o : Bool) → NamesAreKept d o c c' → (gens : Generators) → faults_of_generators c gens ≡ []
      → (judge_generators c' gens ≡ judge_generators c gens) × (faults_of_generators c' gens ≡ []) × NamesAreKept d o (inside_all gens c) (inside_all gens c')
  generators_kept c c' d o k no_generators none = (refl, refl, k)
  generators_kept c c' d o k (generator_and names dom gens) none =
      let read_in : Context → Judged = λ x. judge_domain x dom in
      let fs : Context → List Fault = λ x. flat_map (λ y. domain_faults y false dom) (reading_contexts names read_in x) in
      let js : Context → List Judged = λ x. map read_in (reading_contexts names read_in x) in
      let r : _ = readings_kept d o read_in (λ x. domain_faults x false dom) (λ x x' l. domain_kept x x' l false dom) names c c' k
      (left_none (fs c) (faults_of_generators (inside names read_in c) gens) none) in
      let q : _ = generators_kept (inside names read_in c) (inside names read_in c') d o r.2 gens
      (right_none (fs c) (faults_of_generators (inside names read_in c) gens) none) in (
        ap (λ is. is ++ judge_generators (inside names read_in c') gens) r.0 ∙ ap (λ is. js c ++ is) q.0,
        both_none (fs c') (faults_of_generators (inside names read_in c') gens) r.1 q.1,
        q.2,
      )
