-- What has no fault has a type, where each name has one.
use Rattle.std.specs.Prelude.{◌≡◌, ◌&&◌, ℕ, ◌+◌, ◌-◌, List, [], ◌∷◌, ◌++◌, map, length, nat_le, Bool, true, false, not, ◌||◌, if◌then◌else◌, Some, None, bytes_eq, flat_map, Option, option_map, refl}
use Rattle.std.proofs.Common.{ap, subst, sym}
use Rattle.std.specs.List.{list_all}
use Rattle.ep_base.specs.declared.names.Name.{Name}
use Rattle.ep_base.specs.declared.places.Place.{Place}
use Rattle.ep_tree_laws.proofs.Deciding.{left_none, right_none}
use Rattle.ep_tree_laws.specs.Typing.{EachHasType, HasType, NameHasType}
use Rattle.ep_tree.specs.Environments.{Bound, Env, context_of, has_cells, has_domain, has_value, meaning_in}
use Rattle.ep_tree.specs.Faults.{Fault, domain_faults, domain_name_faults, end_faults, entry_count, faults, faults_of_all, faults_of_domains, faults_of_generators, faults_of_indices, faults_of_ranges, faults_of_terms, has_open_range, index_faults, is_power, leaves_matrix, name_faults, open_domain, type_fault, unless}
use Rattle.ep_tree.specs.Names.{put}
use Rattle.ep_tree.specs.Trees.{DomainTree, Domains, End, ExprTree, ExprTrees, Generators, IndexDomain, Indices, Ranges, Terms, absolute, all_different, all_of, any_of, at_least, at_most, binary, bool, chain, compare, comprehension, domain_and, end_at, every_and, factorial, flatten, folded, gcc, generator_and, group, group_domain, in_domain, in_set, index_and, int, lex, literal, matrix_domain, minus, named, named_domain, negation, no_domains, no_end, no_generators, no_indices, no_ranges, no_terms, no_trees, number, one_and, over, quantified, ranges, read, set_domain, span_and, table, term_and, to_int, tree_and, truth, unstated}
use Rattle.ep_tree.specs.Types.{Context, Judged, Meaning, a_domain, a_value, all_typed, are_lists, binary_type, both_scalars, can_index, comprehension_type, folded_type, from_all, from_many, from_one, from_three, from_two, gives, has_dimensions, indexed_type, inside, inside_all, is_boolean, is_integer, is_matrix, is_matrix_of_bool, judge, judge_all, judge_domain, judge_domains, judge_end, judge_generators, judge_index, judge_indices, judge_ranges, judge_terms, left_type, list_of_matrices, list_type, matrix_type, mistyped, named_domain_type, named_type, of_scalar, quantified_name, quantified_type, read_type, reading_contexts, scalar_of, slice_count, stated_dimensions, typed, untyped}
use Rattle.ep_tree.specs.declared.syntax.BinaryOp.{BinaryOp}
use Rattle.ep_tree.specs.declared.syntax.FoldOp.{FoldOp}
use Rattle.ep_tree.specs.declared.syntax.QuantOp.{QuantOp}
use Rattle.ep_tree.specs.declared.values.Scalar.{Scalar}
use Rattle.ep_tree.specs.declared.values.ValueType.{ValueType}

-- something is said of the types
abbrev Told : Judged → Type 0
Told j = j ≡ untyped → ⊥

told_typed : (t : ValueType) → Told (typed t)
told_typed t e = cc

told_mistyped : Told mistyped
told_mistyped e = cc

-- a node without a fault of its own, of which something is said, has a type
settled : (p : Place) (j : Judged) → Told j → type_fault p j ≡ [] → HasType j
unfolding type_fault
settled p (typed t) told none = (t, refl)
settled p mistyped told none = absurd cc
settled p untyped told none = absurd (told refl)

gives_told : (r : ValueType) (b : Bool) → Told (gives r b)
unfolding gives
gives_told r true = told_typed r
gives_told r false = told_mistyped

one_told : (j : Judged) (rule : ValueType → Judged) → HasType j → ((t : ValueType) → Told (rule t)) → Told (from_one j rule)
unfolding from_one
one_told j rule h k = subst (λ x. Told (from_one x rule)) (sym h.1) (k h.0)

bracket_typed : (j : Judged) → HasType j → HasType (from_one j (λ u. typed u))
unfolding from_one
bracket_typed j h = (h.0, ap (λ x. from_one x (λ u. typed u)) h.1)

two_told : (i j : Judged) (rule : ValueType → ValueType → Judged) → HasType i → HasType j → ((s t : ValueType) → Told (rule s t)) → Told (from_two i j rule)
unfolding from_two
two_told i j rule h k l = one_told i (λ s. from_one j (λ t. rule s t)) h (λ s. one_told j (λ t. rule s t) k (l s))

three_told : (i j k : Judged) (rule : ValueType → ValueType → ValueType → Judged) → HasType i → HasType j → HasType k
    → ((s t u : ValueType) → Told (rule s t u)) → Told (from_three i j k rule)
unfolding from_three
three_told i j k rule h l m n = one_told i (λ s. from_two j k (λ t u. rule s t u)) h (λ s. two_told j k (λ t u. rule s t u) l m (n s))

-- each of some parts has a type
abbrev pub HaveTypes : List Judged → Type 0
HaveTypes js = (ts : List ValueType) × (all_typed js ≡ Some ts)

many_told : (js : List Judged) (rule : List ValueType → Judged) → HaveTypes js → ((ts : List ValueType) → Told (rule ts)) → Told (from_many js rule)
unfolding from_many from_all
many_told js rule h k = subst (λ o. Told (from_all o rule)) (sym h.1) (k h.0)

no_types : HaveTypes []
unfolding all_typed
no_types = ([], refl)

more_types : (j : Judged) (js : List Judged) → HasType j → HaveTypes js → HaveTypes (j ∷ js)
unfolding all_typed
more_types j js h k = subst (λ x. HaveTypes (x ∷ js)) (sym h.1) (h.0 ∷ k.0, ap (option_map (λ ts. h.0 ∷ ts)) k.1)

typed_front : (j : Judged) (is : List Judged) → HaveTypes (j ∷ is) → HasType j × HaveTypes is
unfolding all_typed
typed_front (typed t) is h = go (all_typed is) refl h.1
  where
    go : (o : Option (List ValueType)) → all_typed is ≡ o → option_map (λ ts. t ∷ ts) o ≡ Some h.0 → HasType (typed t) × HaveTypes is
    go None p e = absurd cc
    go (Some ts) p e = ((t, refl), (ts, p))
typed_front mistyped is h = absurd (let e : None ≡ Some h.0 = h.1 in cc)
typed_front untyped is h = absurd (let e : None ≡ Some h.0 = h.1 in cc)

types_append : (is js : List Judged) → HaveTypes is → HaveTypes js → HaveTypes (is ++ js)
types_append [] js h k = k
types_append (i ∷ is) js h k = let f : _ = typed_front i is h in more_types i (is ++ js) f.0 (types_append is js f.1 k)

-- ---- the rules

binary_told : (op : BinaryOp) (s t : ValueType) → Told (binary_type op s t)
unfolding binary_type
binary_told BinaryOp.Mul s t = gives_told ValueType.Int (is_integer s && is_integer t)
binary_told BinaryOp.Div s t = gives_told ValueType.Int (is_integer s && is_integer t)
binary_told BinaryOp.Mod s t = gives_told ValueType.Int (is_integer s && is_integer t)
binary_told BinaryOp.Pow s t = gives_told ValueType.Int (is_integer s && is_integer t)
binary_told BinaryOp.Min s t = gives_told ValueType.Int (is_integer s && is_integer t)
binary_told BinaryOp.Max s t = gives_told ValueType.Int (is_integer s && is_integer t)
binary_told BinaryOp.Implies s t = gives_told ValueType.Bool (is_boolean s && is_boolean t)
binary_told BinaryOp.Iff s t = gives_told ValueType.Bool (is_boolean s && is_boolean t)

folded_told : (op : FoldOp) (t : ValueType) → Told (folded_type op t)
unfolding folded_type
folded_told FoldOp.Sum t = gives_told ValueType.Int (is_matrix t)
folded_told FoldOp.Product t = gives_told ValueType.Int (is_matrix t)
folded_told FoldOp.Min t = gives_told ValueType.Int (is_matrix t)
folded_told FoldOp.Max t = gives_told ValueType.Int (is_matrix t)
folded_told FoldOp.And t = gives_told ValueType.Bool (is_matrix_of_bool t)
folded_told FoldOp.Or t = gives_told ValueType.Bool (is_matrix_of_bool t)

quantified_told : (op : QuantOp) (ds : List ValueType) (t : ValueType) → Told (quantified_type op ds t)
unfolding quantified_type
quantified_told QuantOp.ForAll ds t = gives_told ValueType.Bool (list_all is_integer ds && is_boolean t)
quantified_told QuantOp.Exists ds t = gives_told ValueType.Bool (list_all is_integer ds && is_boolean t)
quantified_told QuantOp.Sum ds t = gives_told ValueType.Int (list_all is_integer ds && is_integer t)

if_told : (b : Bool) (i j : Judged) → Told i → Told j → Told (if b then i else j)
if_told true i j h k = h
if_told false i j h k = k

matrices_told : (ts : List ValueType) (o : Option ℕ) → Told (list_of_matrices ts o)
unfolding list_of_matrices
matrices_told ts None = told_typed (ValueType.Matrix 2 Scalar.Bool)
matrices_told ts (Some dims) =
    gives_told (ValueType.Matrix (dims + 1) (if list_all is_matrix_of_bool ts then Scalar.Bool else Scalar.Int)) (list_all (has_dimensions dims) ts)

list_told : (ts : List ValueType) → Told (list_type ts)
unfolding list_type
list_told [] = told_typed ValueType.Empty
list_told (t ∷ ts) =
    if_told (list_all is_integer (t ∷ ts)) (typed (ValueType.Matrix 1 (if list_all is_boolean (t ∷ ts) then Scalar.Bool else Scalar.Int)))
    (if list_all is_matrix (t ∷ ts) then list_of_matrices (t ∷ ts) (stated_dimensions (t ∷ ts)) else mistyped)
    (told_typed (ValueType.Matrix 1 (if list_all is_boolean (t ∷ ts) then Scalar.Bool else Scalar.Int)))
    (if_told (list_all is_matrix (t ∷ ts)) (list_of_matrices (t ∷ ts) (stated_dimensions (t ∷ ts))) mistyped
    (matrices_told (t ∷ ts) (stated_dimensions (t ∷ ts))) told_mistyped)

indexed_told : (ds : List ValueType) (j : Judged) → Told j → Told (indexed_type ds j)
unfolding indexed_type
indexed_told ds j h = if_told (list_all is_integer ds) j mistyped h told_mistyped

comprehension_told : (index domains conditions : List ValueType) (t : ValueType) → Told (comprehension_type index domains conditions t)
unfolding comprehension_type
comprehension_told index domains conditions t =
    if_told (list_all is_boolean conditions) (indexed_type (index ++ domains) (list_type (t ∷ []))) mistyped
    (indexed_told (index ++ domains) (list_type (t ∷ [])) (list_told (t ∷ []))) told_mistyped

read_told : (t : ValueType) (ts : List ValueType) (slices : ℕ) → Told (read_type t ts slices)
unfolding read_type
read_told (ValueType.Matrix dims s) ts slices = gives_told (left_type (dims - length ts) s) (list_all is_integer ts && nat_le (length ts + slices) dims)
read_told ValueType.Bool ts slices = told_mistyped
read_told ValueType.Int ts slices = told_mistyped
read_told ValueType.Empty ts slices = told_mistyped

matrix_told : (ts : List ValueType) (t : ValueType) → Told (matrix_type ts t)
unfolding matrix_type
matrix_told ts (ValueType.Matrix dims s) = gives_told (ValueType.Matrix (length ts + dims) s) (can_index ts)
matrix_told ts ValueType.Bool = gives_told (ValueType.Matrix (length ts) (scalar_of ValueType.Bool)) (can_index ts)
matrix_told ts ValueType.Int = gives_told (ValueType.Matrix (length ts) (scalar_of ValueType.Int)) (can_index ts)
matrix_told ts ValueType.Empty = gives_told (ValueType.Matrix (length ts) (scalar_of ValueType.Empty)) (can_index ts)

-- ---- names

name_typed : (d : Bool) (p : Place) (name : Name) (m : Option Meaning) → NameHasType m → name_faults d p name m ≡ [] → HasType (named_type m)
unfolding NameHasType name_faults named_type
name_typed d p name None h none = absurd cc
name_typed d p name (Some (a_domain t)) h none = absurd cc
name_typed d p name (Some (a_value None b)) h none = absurd h
name_typed d p name (Some (a_value (Some t) b)) h none = (t, refl)

domain_name_typed : (p : Place) (name : Name) (m : Option Meaning) → NameHasType m → domain_name_faults p name m ≡ [] → HasType (named_domain_type m)
unfolding NameHasType domain_name_faults named_domain_type
domain_name_typed p name None h none = absurd cc
domain_name_typed p name (Some (a_value t false)) h none = absurd cc
domain_name_typed p name (Some (a_value t true)) h none = absurd cc
domain_name_typed p name (Some (a_domain None)) h none = absurd h
domain_name_typed p name (Some (a_domain (Some t))) h none = (t, refl)

put_typed : (c : Context) (name : Name) (j : Judged) → EachHasType c → HasType j → EachHasType (put name (quantified_name j) c)
unfolding NameHasType quantified_name
put_typed c name j h k other = go (bytes_eq other name)
  where
    put_in : (x : Judged) → HasType x → NameHasType (Some (quantified_name x))
    put_in (typed t) l = tt
    put_in mistyped l = absurd (let e : mistyped ≡ typed l.0 = l.1 in cc)
    put_in untyped l = absurd (let e : untyped ≡ typed l.0 = l.1 in cc)

    go : (b : Bool) → NameHasType (if b then Some (quantified_name j) else c other)
    go true = put_in j k
    go false = h other

pub readings_typed : (dom : Context → Judged) (df : Context → List Fault) → ((c : Context) → EachHasType c → df c ≡ [] → HasType (dom c))
    → (names : List Name) (c : Context) → EachHasType c → flat_map df (reading_contexts names dom c) ≡ []
    → HaveTypes (map dom (reading_contexts names dom c)) × EachHasType (inside names dom c)
unfolding reading_contexts inside
readings_typed dom df each [] c h none = (no_types, h)
readings_typed dom df each (name ∷ names) c h none =
    let next : Context = put name (quantified_name (dom c)) c in
    let first : HasType (dom c) = each c h (left_none (df c) (flat_map df (reading_contexts names dom next)) none) in
    let q : _ = readings_typed dom df each names next (put_typed c name (dom c) h first) (right_none (df c) (flat_map df (reading_contexts names dom next)) none) in
    (more_types (dom c) (map dom (reading_contexts names dom next)) first q.0, q.1)

-- the parts of a node's faults
own_fault : {A : Type 0} (xs ys : List A) → xs ++ ys ≡ [] → (xs ≡ []) × (ys ≡ [])
own_fault xs ys h = (left_none xs ys h, right_none xs ys h)

mutual
  unfolding judge faults judge_domain domain_faults judge_all faults_of_all judge_terms faults_of_terms judge_indices faults_of_indices judge_ranges faults_of_ranges judge_end end_faults judge_domains faults_of_domains judge_index index_faults judge_generators faults_of_generators inside_all

  -- An expression without a fault has a type.
  pub expression_typed : (c : Context) → EachHasType c → (d : Bool) (e : ExprTree) → faults c d e ≡ [] → HasType (judge c e)
  expression_typed c h d (number p n) none = (ValueType.Int, refl)
  expression_typed c h d (truth p b) none = (ValueType.Bool, refl)
  expression_typed c h d (named p name) none = name_typed d p name (c name) (h name) none
  expression_typed c h d (group p e) none =
      bracket_typed (judge c e) (expression_typed c h d e none)
  expression_typed c h d (negation p e) none =
      let n : _ = own_fault (type_fault p (judge c (negation p e))) (faults c d e) none in
      settled p (judge c (negation p e)) (one_told (judge c e) (λ t. gives ValueType.Bool (is_boolean t)) (expression_typed c h d e n.1) (λ t. gives_told ValueType.Bool (is_boolean t))) n.0
  expression_typed c h d (minus p e) none =
      let n : _ = own_fault (type_fault p (judge c (minus p e))) (faults c d e) none in
      settled p (judge c (minus p e)) (one_told (judge c e) (λ t. gives ValueType.Int (is_integer t)) (expression_typed c h d e n.1) (λ t. gives_told ValueType.Int (is_integer t))) n.0
  expression_typed c h d (absolute p e) none =
      let n : _ = own_fault (type_fault p (judge c (absolute p e))) (faults c d e) none in
      settled p (judge c (absolute p e)) (one_told (judge c e) (λ t. gives ValueType.Int (is_integer t)) (expression_typed c h d e n.1) (λ t. gives_told ValueType.Int (is_integer t))) n.0
  expression_typed c h d (to_int p e) none =
      let n : _ = own_fault (type_fault p (judge c (to_int p e))) (faults c d e) none in
      settled p (judge c (to_int p e)) (one_told (judge c e) (λ t. gives ValueType.Int (is_boolean t)) (expression_typed c h d e n.1) (λ t. gives_told ValueType.Int (is_boolean t))) n.0
  expression_typed c h d (factorial p e) none =
      let n : _ = own_fault (type_fault p (judge c (factorial p e))) (faults c false e) none in
      settled p (judge c (factorial p e)) (one_told (judge c e) (λ t. gives ValueType.Int (is_integer t)) (expression_typed c h false e n.1) (λ t. gives_told ValueType.Int (is_integer t))) n.0
  expression_typed c h d (flatten p e) none =
      let n : _ = own_fault (type_fault p (judge c (flatten p e))) (faults c d e) none in
      settled p (judge c (flatten p e)) (one_told (judge c e) (λ t. gives (ValueType.Matrix 1 (scalar_of t)) (is_matrix t)) (expression_typed c h d e n.1) (λ t. gives_told (ValueType.Matrix 1 (scalar_of t)) (is_matrix t))) n.0
  expression_typed c h d (folded p op e) none =
      let n : _ = own_fault (type_fault p (judge c (folded p op e))) (faults c d e) none in
      settled p (judge c (folded p op e)) (one_told (judge c e) (folded_type op) (expression_typed c h d e n.1) (folded_told op)) n.0
  expression_typed c h d (all_different p e) none =
      let n : _ = own_fault (type_fault p (judge c (all_different p e))) (faults c d e) none in
      settled p (judge c (all_different p e)) (one_told (judge c e) (λ t. gives ValueType.Bool (is_matrix t)) (expression_typed c h d e n.1) (λ t. gives_told ValueType.Bool (is_matrix t))) n.0
  expression_typed c h d (chain p terms) none =
      let n : _ = own_fault (type_fault p (judge c (chain p terms))) (faults_of_terms c d terms) none in
      settled p (judge c (chain p terms)) (many_told (judge_terms c terms) (λ ts. gives ValueType.Int (list_all is_integer ts)) (terms_typed c h d terms n.1) (λ ts. gives_told ValueType.Int (list_all is_integer ts))) n.0
  expression_typed c h d (all_of p parts) none =
      let n : _ = own_fault (type_fault p (judge c (all_of p parts))) (faults_of_all c d parts) none in
      settled p (judge c (all_of p parts)) (many_told (judge_all c parts) (λ ts. gives ValueType.Bool (list_all is_boolean ts)) (all_have_types c h d parts n.1) (λ ts. gives_told ValueType.Bool (list_all is_boolean ts))) n.0
  expression_typed c h d (any_of p parts) none =
      let n : _ = own_fault (type_fault p (judge c (any_of p parts))) (faults_of_all c d parts) none in
      settled p (judge c (any_of p parts)) (many_told (judge_all c parts) (λ ts. gives ValueType.Bool (list_all is_boolean ts)) (all_have_types c h d parts n.1) (λ ts. gives_told ValueType.Bool (list_all is_boolean ts))) n.0
  expression_typed c h d (binary p op a b) none =
      let m : _ = own_fault (type_fault p (judge c (binary p op a b)) ++ faults c d a) (faults c (d && not (is_power op)) b) none in
      let n : _ = own_fault (type_fault p (judge c (binary p op a b))) (faults c d a) m.0 in
      settled p (judge c (binary p op a b)) (two_told (judge c a) (judge c b) (binary_type op) (expression_typed c h d a n.1) (expression_typed c h (d && not (is_power op)) b m.1) (binary_told op)) n.0
  expression_typed c h d (compare p op a b) none =
      let m : _ = own_fault (type_fault p (judge c (compare p op a b)) ++ faults c d a) (faults c d b) none in
      let n : _ = own_fault (type_fault p (judge c (compare p op a b))) (faults c d a) m.0 in
      settled p (judge c (compare p op a b)) (two_told (judge c a) (judge c b) (λ s t. gives ValueType.Bool (is_integer s && is_integer t)) (expression_typed c h d a n.1) (expression_typed c h d b m.1) (λ s t. gives_told ValueType.Bool (is_integer s && is_integer t))) n.0
  expression_typed c h d (lex p op a b) none =
      let m : _ = own_fault (type_fault p (judge c (lex p op a b)) ++ faults c d a) (faults c d b) none in
      let n : _ = own_fault (type_fault p (judge c (lex p op a b))) (faults c d a) m.0 in
      settled p (judge c (lex p op a b)) (two_told (judge c a) (judge c b) (λ s t. gives ValueType.Bool (are_lists s t)) (expression_typed c h d a n.1) (expression_typed c h d b m.1) (λ s t. gives_told ValueType.Bool (are_lists s t))) n.0
  expression_typed c h d (in_set p a b) none =
      let m : _ = own_fault (type_fault p (judge c (in_set p a b)) ++ faults c d a) (faults c d b) none in
      let n : _ = own_fault (type_fault p (judge c (in_set p a b))) (faults c d a) m.0 in
      settled p (judge c (in_set p a b)) (two_told (judge c a) (judge c b) (λ s t. gives ValueType.Bool (is_integer s && is_matrix t)) (expression_typed c h d a n.1) (expression_typed c h d b m.1) (λ s t. gives_told ValueType.Bool (is_integer s && is_matrix t))) n.0
  expression_typed c h d (table p a b) none =
      let m : _ = own_fault (type_fault p (judge c (table p a b)) ++ faults c d a) (faults c false b) none in
      let n : _ = own_fault (type_fault p (judge c (table p a b))) (faults c d a) m.0 in
      settled p (judge c (table p a b)) (two_told (judge c a) (judge c b) (λ s t. gives ValueType.Bool (has_dimensions 1 s && has_dimensions 2 t)) (expression_typed c h d a n.1) (expression_typed c h false b m.1) (λ s t. gives_told ValueType.Bool (has_dimensions 1 s && has_dimensions 2 t))) n.0
  expression_typed c h d (in_domain p e dom) none =
      let m : _ = own_fault (type_fault p (judge c (in_domain p e dom)) ++ faults c d e) (domain_faults c false dom) none in
      let n : _ = own_fault (type_fault p (judge c (in_domain p e dom))) (faults c d e) m.0 in
      settled p (judge c (in_domain p e dom)) (two_told (judge c e) (judge_domain c dom) (λ s t. gives ValueType.Bool (is_integer s && is_integer t)) (expression_typed c h d e n.1) (domain_typed c h false dom m.1) (λ s t. gives_told ValueType.Bool (is_integer s && is_integer t))) n.0
  expression_typed c h d (gcc p x y z) none =
      let l : _ = own_fault ((type_fault p (judge c (gcc p x y z)) ++ faults c d x) ++ faults c false y) (faults c d z) none in
      let m : _ = own_fault (type_fault p (judge c (gcc p x y z)) ++ faults c d x) (faults c false y) l.0 in
      let n : _ = own_fault (type_fault p (judge c (gcc p x y z))) (faults c d x) m.0 in
      settled p (judge c (gcc p x y z)) (three_told (judge c x) (judge c y) (judge c z) (λ s t u. gives ValueType.Bool (is_matrix s && are_lists t u))
      (expression_typed c h d x n.1) (expression_typed c h false y m.1) (expression_typed c h d z l.1) (λ s t u. gives_told ValueType.Bool (is_matrix s && are_lists t u))) n.0
  expression_typed c h d (at_least p x y z) none =
      let l : _ = own_fault ((type_fault p (judge c (at_least p x y z)) ++ faults c d x) ++ faults c false y) (faults c false z) none in
      let m : _ = own_fault (type_fault p (judge c (at_least p x y z)) ++ faults c d x) (faults c false y) l.0 in
      let n : _ = own_fault (type_fault p (judge c (at_least p x y z))) (faults c d x) m.0 in
      settled p (judge c (at_least p x y z)) (three_told (judge c x) (judge c y) (judge c z) (λ s t u. gives ValueType.Bool (is_matrix s && are_lists t u))
      (expression_typed c h d x n.1) (expression_typed c h false y m.1) (expression_typed c h false z l.1) (λ s t u. gives_told ValueType.Bool (is_matrix s && are_lists t u))) n.0
  expression_typed c h d (at_most p x y z) none =
      let l : _ = own_fault ((type_fault p (judge c (at_most p x y z)) ++ faults c d x) ++ faults c false y) (faults c false z) none in
      let m : _ = own_fault (type_fault p (judge c (at_most p x y z)) ++ faults c d x) (faults c false y) l.0 in
      let n : _ = own_fault (type_fault p (judge c (at_most p x y z))) (faults c d x) m.0 in
      settled p (judge c (at_most p x y z)) (three_told (judge c x) (judge c y) (judge c z) (λ s t u. gives ValueType.Bool (is_matrix s && are_lists t u))
      (expression_typed c h d x n.1) (expression_typed c h false y m.1) (expression_typed c h false z l.1) (λ s t u. gives_told ValueType.Bool (is_matrix s && are_lists t u))) n.0
  expression_typed c h d (quantified p op names dom e) none =
      let read_in : Context → Judged = λ x. judge_domain x dom in
      let fs : List Fault = flat_map (λ x. domain_faults x false dom) (reading_contexts names read_in c) in
      let m : _ = own_fault (type_fault p (judge c (quantified p op names dom e)) ++ fs) (faults (inside names read_in c) d e) none in
      let n : _ = own_fault (type_fault p (judge c (quantified p op names dom e))) fs m.0 in
      let r : _ = readings_typed read_in (λ x. domain_faults x false dom) (λ x l. domain_typed x l false dom) names c h n.1 in
      settled p (judge c (quantified p op names dom e))
      (many_told (map read_in (reading_contexts names read_in c)) (λ ds. from_one (judge (inside names read_in c) e) (quantified_type op ds)) r.0
      (λ ds. one_told (judge (inside names read_in c) e) (quantified_type op ds) (expression_typed (inside names read_in c) r.1 d e m.1) (quantified_told op ds))) n.0
  expression_typed c h d (literal p parts dom) none =
      let m : _ = own_fault (type_fault p (judge c (literal p parts dom)) ++ faults_of_all c d parts) (index_faults c dom) none in
      let n : _ = own_fault (type_fault p (judge c (literal p parts dom))) (faults_of_all c d parts) m.0 in
      settled p (judge c (literal p parts dom))
      (many_told (judge_index c dom) (λ ds. from_many (judge_all c parts) (λ ts. indexed_type ds (list_type ts))) (index_typed c h dom m.1)
      (λ ds. many_told (judge_all c parts) (λ ts. indexed_type ds (list_type ts)) (all_have_types c h d parts n.1) (λ ts. indexed_told ds (list_type ts) (list_told ts)))) n.0
  expression_typed c h d (comprehension p e gens conditions dom) none =
      let own : List Fault = type_fault p (judge c (comprehension p e gens conditions dom)) in
      let inner : Context = inside_all gens c in
      let k : _ = own_fault (((own ++ index_faults c dom) ++ faults_of_generators c gens) ++ faults_of_all inner false conditions) (faults inner d e) none in
      let l : _ = own_fault ((own ++ index_faults c dom) ++ faults_of_generators c gens) (faults_of_all inner false conditions) k.0 in
      let m : _ = own_fault (own ++ index_faults c dom) (faults_of_generators c gens) l.0 in
      let n : _ = own_fault own (index_faults c dom) m.0 in
      let r : _ = generators_typed c h gens m.1 in
      settled p (judge c (comprehension p e gens conditions dom))
      (many_told (judge_index c dom) (λ index. from_many (judge_generators c gens) (λ domains. from_many (judge_all inner conditions) (λ truths. from_one (judge inner e) (comprehension_type index domains truths))))
      (index_typed c h dom n.1)
      (λ index. many_told (judge_generators c gens) (λ domains. from_many (judge_all inner conditions) (λ truths. from_one (judge inner e) (comprehension_type index domains truths))) r.0
      (λ domains. many_told (judge_all inner conditions) (λ truths. from_one (judge inner e) (comprehension_type index domains truths)) (all_have_types inner r.1 false conditions l.1)
      (λ truths. one_told (judge inner e) (comprehension_type index domains truths) (expression_typed inner r.1 d e k.1) (comprehension_told index domains truths))))) n.0
  expression_typed c h d (read p m indices) none =
      let flag : Bool = d && not (leaves_matrix (judge c m) (entry_count indices) (slice_count indices)) in
      let l : _ = own_fault (type_fault p (judge c (read p m indices)) ++ faults c d m) (faults_of_indices c flag indices) none in
      let n : _ = own_fault (type_fault p (judge c (read p m indices))) (faults c d m) l.0 in
      settled p (judge c (read p m indices))
      (one_told (judge c m) (λ t. from_many (judge_indices c indices) (λ ts. read_type t ts (slice_count indices))) (expression_typed c h d m n.1)
      (λ t. many_told (judge_indices c indices) (λ ts. read_type t ts (slice_count indices)) (indices_typed c h flag indices l.1) (λ ts. read_told t ts (slice_count indices)))) n.0

  -- The same of a domain.
  pub domain_typed : (c : Context) → EachHasType c → (may_open : Bool) (dom : DomainTree) → domain_faults c may_open dom ≡ [] → HasType (judge_domain c dom)
  domain_typed c h may_open (bool p) none = (ValueType.Bool, refl)
  domain_typed c h may_open (int p) none = (ValueType.Int, refl)
  domain_typed c h may_open (ranges p rs) none =
      let own : List Fault = unless (may_open || not (has_open_range rs)) (open_domain p) in
      let m : _ = own_fault (own ++ type_fault p (judge_domain c (ranges p rs))) (faults_of_ranges c rs) none in
      let n : _ = own_fault own (type_fault p (judge_domain c (ranges p rs))) m.0 in
      settled p (judge_domain c (ranges p rs))
      (many_told (judge_ranges c rs) (λ ts. gives ValueType.Int (list_all is_integer ts)) (ranges_typed c h rs m.1) (λ ts. gives_told ValueType.Int (list_all is_integer ts))) n.1
  domain_typed c h may_open (named_domain p name) none = domain_name_typed p name (c name) (h name) none
  domain_typed c h may_open (group_domain p dom) none =
      bracket_typed (judge_domain c dom) (domain_typed c h may_open dom none)
  domain_typed c h may_open (set_domain p op a b) none =
      let m : _ = own_fault (type_fault p (judge_domain c (set_domain p op a b)) ++ domain_faults c may_open a) (domain_faults c may_open b) none in
      let n : _ = own_fault (type_fault p (judge_domain c (set_domain p op a b))) (domain_faults c may_open a) m.0 in
      settled p (judge_domain c (set_domain p op a b))
      (two_told (judge_domain c a) (judge_domain c b) (λ s t. gives (of_scalar (both_scalars (scalar_of s) (scalar_of t))) (is_integer s && is_integer t))
      (domain_typed c h may_open a n.1) (domain_typed c h may_open b m.1) (λ s t. gives_told (of_scalar (both_scalars (scalar_of s) (scalar_of t))) (is_integer s && is_integer t))) n.0
  domain_typed c h may_open (matrix_domain p doms dom) none =
      let m : _ = own_fault (type_fault p (judge_domain c (matrix_domain p doms dom)) ++ faults_of_domains c doms) (domain_faults c may_open dom) none in
      let n : _ = own_fault (type_fault p (judge_domain c (matrix_domain p doms dom))) (faults_of_domains c doms) m.0 in
      settled p (judge_domain c (matrix_domain p doms dom))
      (one_told (judge_domain c dom) (λ t. from_many (judge_domains c doms) (λ ts. matrix_type ts t)) (domain_typed c h may_open dom m.1)
      (λ t. many_told (judge_domains c doms) (λ ts. matrix_type ts t) (domains_typed c h doms n.1) (λ ts. matrix_told ts t))) n.0

  pub all_have_types : (c : Context) → EachHasType c → (d : Bool) (es : ExprTrees) → faults_of_all c d es ≡ [] → HaveTypes (judge_all c es)
  all_have_types c h d no_trees none = no_types
  all_have_types c h d (tree_and e es) none =
      let n : _ = own_fault (faults c d e) (faults_of_all c d es) none in
      more_types (judge c e) (judge_all c es) (expression_typed c h d e n.0) (all_have_types c h d es n.1)

  pub terms_typed : (c : Context) → EachHasType c → (d : Bool) (ts : Terms) → faults_of_terms c d ts ≡ [] → HaveTypes (judge_terms c ts)
  terms_typed c h d no_terms none = no_types
  terms_typed c h d (term_and plus e ts) none =
      let n : _ = own_fault (faults c d e) (faults_of_terms c d ts) none in
      more_types (judge c e) (judge_terms c ts) (expression_typed c h d e n.0) (terms_typed c h d ts n.1)

  pub indices_typed : (c : Context) → EachHasType c → (d : Bool) (is : Indices) → faults_of_indices c d is ≡ [] → HaveTypes (judge_indices c is)
  indices_typed c h d no_indices none = no_types
  indices_typed c h d (every_and is) none = indices_typed c h d is none
  indices_typed c h d (index_and e is) none =
      let n : _ = own_fault (faults c d e) (faults_of_indices c d is) none in
      more_types (judge c e) (judge_indices c is) (expression_typed c h d e n.0) (indices_typed c h d is n.1)

  pub ranges_typed : (c : Context) → EachHasType c → (rs : Ranges) → faults_of_ranges c rs ≡ [] → HaveTypes (judge_ranges c rs)
  ranges_typed c h no_ranges none = no_types
  ranges_typed c h (one_and e rs) none =
      let n : _ = own_fault (faults c false e) (faults_of_ranges c rs) none in
      more_types (judge c e) (judge_ranges c rs) (expression_typed c h false e n.0) (ranges_typed c h rs n.1)
  ranges_typed c h (span_and a b rs) none =
      let m : _ = own_fault (end_faults c a ++ end_faults c b) (faults_of_ranges c rs) none in
      let n : _ = own_fault (end_faults c a) (end_faults c b) m.0 in
      types_append (judge_end c a ++ judge_end c b) (judge_ranges c rs)
      (types_append (judge_end c a) (judge_end c b) (end_typed c h a n.0) (end_typed c h b n.1)) (ranges_typed c h rs m.1)

  pub end_typed : (c : Context) → EachHasType c → (end : End) → end_faults c end ≡ [] → HaveTypes (judge_end c end)
  end_typed c h no_end none = no_types
  end_typed c h (end_at e) none = more_types (judge c e) [] (expression_typed c h false e none) no_types

  pub domains_typed : (c : Context) → EachHasType c → (doms : Domains) → faults_of_domains c doms ≡ [] → HaveTypes (judge_domains c doms)
  domains_typed c h no_domains none = no_types
  domains_typed c h (domain_and dom doms) none =
      let n : _ = own_fault (domain_faults c false dom) (faults_of_domains c doms) none in
      more_types (judge_domain c dom) (judge_domains c doms) (domain_typed c h false dom n.0) (domains_typed c h doms n.1)

  pub index_typed : (c : Context) → EachHasType c → (index : IndexDomain) → index_faults c index ≡ [] → HaveTypes (judge_index c index)
  index_typed c h unstated none = no_types
  index_typed c h (over dom) none = more_types (judge_domain c dom) [] (domain_typed c h false dom none) no_types

  pub generators_typed : (c : Context) → EachHasType c → (gens : Generators) → faults_of_generators c gens ≡ []
      → HaveTypes (judge_generators c gens) × EachHasType (inside_all gens c)
  generators_typed c h no_generators none = (no_types, h)
  generators_typed c h (generator_and names dom gens) none =
      let read_in : Context → Judged = λ x. judge_domain x dom in
      let fs : List Fault = flat_map (λ x. domain_faults x false dom) (reading_contexts names read_in c) in
      let n : _ = own_fault fs (faults_of_generators (inside names read_in c) gens) none in
      let r : _ = readings_typed read_in (λ x. domain_faults x false dom) (λ x l. domain_typed x l false dom) names c h n.0 in
      let q : _ = generators_typed (inside names read_in c) r.1 gens n.1 in
      (types_append (map read_in (reading_contexts names read_in c)) (judge_generators (inside names read_in c) gens) r.0 q.0, q.1)

-- Each name of an environment has a type.
pub context_typed : (env : Env) → EachHasType (context_of env)
unfolding context_of NameHasType meaning_in
context_typed env name = go (env name)
  where
    go : (b : Option Bound) → NameHasType (option_map meaning_in b)
    go None = tt
    go (Some (has_value t v)) = tt
    go (Some (has_cells s is vs)) = tt
    go (Some (has_domain s is vs)) = tt
