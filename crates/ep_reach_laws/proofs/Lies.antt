-- A value that is defined lies in what is known of its expression.
use Rattle.std.specs.Prelude.{◌≡◌, ℕ, zero, suc, ◌+◌, ◌-◌, ◌&&◌, not, List, [], ◌∷◌, ◌++◌, map, length, ℤ, Bool, true, false, if◌then◌else◌, nat_le, nat_lt, Some, None, Option, option_map, unwrap_or, refl}
use Rattle.std.proofs.Common.{ap, arith, subst, sym, ◌∙◌}
use Rattle.std.proofs.lemmas.Bool.Decides.{nat_tests}
use Rattle.std.specs.List.{list_all}
use Rattle.ep_base.specs.Numbers.{sum_of}
use Rattle.ep_base.specs.Options.{on_both}
use Rattle.ep_base.specs.declared.places.Place.{Place}
use Rattle.ep_tree_laws.proofs.Agreeing.{agree_kept, domain_is_kept}
use Rattle.ep_tree_laws.proofs.DecidedValues.{value_decided}
use Rattle.ep_tree_laws.proofs.Deciding.{expression_kept, left_none, right_none}
use Rattle.ep_tree_laws.proofs.Fixed.{env_flagged, fixed_faultless}
use Rattle.ep_tree_laws.proofs.FixedLimits.{extent_fixed}
use Rattle.ep_tree_laws.proofs.SameTypes.{type_is_kept}
use Rattle.ep_tree_laws.proofs.Typing.{context_typed, expression_typed}
use Rattle.ep_tree_laws.proofs.Undecided.{faultless_holds_none, fixed_lies_within}
use Rattle.ep_tree_laws.specs.Deciding.{IsKept, NamesAreKept}
use Rattle.ep_tree_laws.specs.Typing.{HasType}
use Rattle.ep_tree.proofs.TypedEvaluation.{value_typed}
use Rattle.ep_tree.proofs.TypedParts.{and_left, and_right, boolean_is, from_many_is, from_one_is, gives_is, integer_is, map_both_is, map_is, mistyped_is, no_some, some_is, truths_differ}
use Rattle.ep_tree.specs.Agreement.{Agreed, LiesWithin}
use Rattle.ep_tree.specs.Environments.{Env, context_of}
use Rattle.ep_tree.specs.Evaluation.{chosen, evaluate, index_list, index_values, number_in, quantified_value, read_result, scalars_in, signed, term_values, type_in, values_of}
use Rattle.ep_tree.specs.Faults.{Fault, entry_count, faults, faults_of_all, faults_of_indices, faults_of_terms, index_faults, is_power, leaves_matrix, type_fault}
use Rattle.ep_tree.specs.Reach.{Extent, MeasuredIndex, Span, decisions_in, extent, extents_of, fixed_extent, group_extent, holds_decision, is_decision_name, measured, measured_index, measured_list, named_extent, plain_index, quantified_span, read_extent, reads_cell, signed_span, span_of, sum_span, term_spans, truth_span}
use Rattle.ep_tree.specs.Trees.{DomainTree, ExprTree, ExprTrees, IndexDomain, Indices, Terms, absolute, all_different, all_of, any_of, at_least, at_most, binary, chain, compare, comprehension, every_and, factorial, flatten, folded, gcc, group, in_domain, in_set, index_and, lex, literal, minus, named, negation, no_indices, no_terms, no_trees, number, over, quantified, read, table, term_and, to_int, tree_and, truth, unstated}
use Rattle.ep_tree.specs.TypedValues.{IsOf, IsOfDims}
use Rattle.ep_tree.specs.Types.{Context, Meaning, a_domain, a_value, all_typed, from_all, from_many, from_one, gives, inside, inside_all, is_boolean, is_integer, judge, judge_indices, left_type, of_scalar, quantified_type, read_type, reading_contexts, slice_count, type_from, typed}
use Rattle.ep_tree.specs.Values.{Index, ValueTree, all_defined, any_index, at_index, read_value, scalars_of, single}
use Rattle.ep_tree.specs.declared.syntax.QuantOp.{QuantOp}
use Rattle.ep_tree.specs.declared.values.Mode.{Mode}
use Rattle.ep_tree.specs.declared.values.Scalar.{Scalar}
use Rattle.ep_tree.specs.declared.values.ValueType.{ValueType}
use Rattle.ep_reach_laws.proofs.Cells.{named_within}
use Rattle.ep_reach_laws.proofs.AlikeEnvironments.{Alike, Matched, QuantifierStands, all_typed_later, chosen_alike, generated, mapped_both, over_alike, quantifier_inside, quantifier_steps}
use Rattle.ep_reach_laws.proofs.Extents.{NumberWithin, Within, defined_lie, defined_more, list_within, matrix_within, number_within, of_number, scalars_within, signed_within, single_within, sum_within, truth_lies, truth_within}
use Rattle.ep_reach_laws.proofs.Forms.{InstanceWithin, absolute_within, binary_within, folded_within, minus_within, no_instances, some_instances}
use Rattle.ep_reach_laws.proofs.Reading.{Follows, IsTruths, bound_truths, decision_name, read_within}

-- ---- faults, types and fixed values

kept_names : (c : Context) → NamesAreKept false true c c
unfolding IsKept
kept_names c name = go (c name)
  where
    go : (m : Option Meaning) → IsKept false true m m
    go None = tt
    go (Some (a_domain t)) = refl
    go (Some (a_value t false)) = refl
    go (Some (a_value t true)) = tt

-- what has no fault where no decision variable may stand has none where one may
pub as_decided : (c : Context) (f : Bool) (e : ExprTree) → faults c f e ≡ [] → faults c true e ≡ []
as_decided c true e none = none
as_decided c false e none = (expression_kept c c false true (kept_names c) e none).1

value_kept : (mode : Mode) (cells values : Env) → Alike cells values → (f : Bool) (e : ExprTree) → faults (context_of cells) f e ≡ [] → holds_decision (decisions_in cells) e ≡ false
    → evaluate mode cells e ≡ evaluate mode values e
value_kept mode cells values a f e none h =
    value_decided mode cells values (agree_kept cells values a.agree) e (fixed_faultless (context_of cells) (decisions_in cells) (env_flagged cells) f e h none)

of_type : (mode : Mode) (cells values : Env) → Alike cells values → (e : ExprTree) (t : ValueType) → judge (context_of cells) e ≡ typed t
    → (v : ValueTree) → evaluate mode values e ≡ Some v → IsOf t v
of_type mode cells values a e t h v is_v = value_typed mode values a.typed e t (sym (type_is_kept cells values a.agree e) ∙ h) v is_v

fixed_within : (mode : Mode) (cells values : Env) → Alike cells values → (e : ExprTree) → faults (context_of cells) true e ≡ [] → holds_decision (decisions_in cells) e ≡ false
    → Within (extent mode cells e) (evaluate mode values e)
fixed_within mode cells values a e none h v is_v =
    fixed_lies_within mode cells values e (record { agree = a.agree; typed = a.typed; faultless = none }) h v is_v

-- what holds a decision variable is as it is measured, and else its value is known
measured_within : (mode : Mode) (cells values : Env) → Alike cells values → (e : ExprTree) → faults (context_of cells) true e ≡ [] → (x : Extent)
    → (holds_decision (decisions_in cells) e ≡ true → Within x (evaluate mode values e)) → Within (measured mode cells e x) (evaluate mode values e)
unfolding measured
measured_within mode cells values a e none x each = go (holds_decision (decisions_in cells) e) refl
  where
    go : (b : Bool) → holds_decision (decisions_in cells) e ≡ b → Within (if b then x else fixed_extent (type_in cells e) (evaluate mode cells e)) (evaluate mode values e)
    go true h = each h
    go false h = λ v is_v. subst (λ y. LiesWithin v y) (extent_fixed mode cells e h) (fixed_within mode cells values a e none h v is_v)

measured_held : (mode : Mode) (env : Env) (e : ExprTree) (x : Extent) → holds_decision (decisions_in env) e ≡ true → measured mode env e x ≡ x
unfolding measured
measured_held mode env e x h = ap (λ b. if b then x else fixed_extent (type_in env e) (evaluate mode env e)) h

type_in_is : (env : Env) (e : ExprTree) (t : ValueType) → judge (context_of env) e ≡ typed t → type_in env e ≡ t
unfolding type_in type_from
type_in_is env e t h = ap (λ j. unwrap_or (type_from j) ValueType.Int) h

-- ---- brackets and toInt

group_within : (t : ValueType) (x : Extent) (o : Option ValueTree) → ((v : ValueTree) → o ≡ Some v → IsOf t v) → Within x o → Within (group_extent t x) o
unfolding group_extent
group_within ValueType.Bool x o typed_by w v e = truth_lies v (typed_by v e)
group_within ValueType.Int x o typed_by w v e = w v e
group_within (ValueType.Matrix k s) x o typed_by w v e = w v e
group_within ValueType.Empty x o typed_by w v e = w v e

-- ---- index domains

indices_same : (mode : Mode) (cells values : Env) → Alike cells values → (d : IndexDomain) → index_faults (context_of cells) d ≡ [] → (n : ℕ)
    → index_values mode cells d n ≡ index_values mode values d n
unfolding index_values index_faults
indices_same mode cells values a unstated none n = refl
indices_same mode cells values a (over d) none n = domain_is_kept mode cells values a.agree d none

if_is : {A : Type 0} (b : Bool) (o : Option A) (v : A) → (if b then o else None) ≡ Some v → o ≡ Some v
if_is true o v e = e
if_is false o v e = no_some e

-- ---- quantifiers

boolean_integer : (s : ValueType) → is_boolean s ≡ true → is_integer s ≡ true
unfolding is_boolean is_integer
boolean_integer ValueType.Bool h = refl
boolean_integer ValueType.Int h = refl
boolean_integer (ValueType.Matrix k s) h = h
boolean_integer ValueType.Empty h = h

body_integer : (op : QuantOp) (s t : ValueType) → quantified_type op [] s ≡ typed t → is_integer s ≡ true
unfolding quantified_type
body_integer QuantOp.ForAll s t h = boolean_integer s (gives_is ValueType.Bool (is_boolean s) t h).1
body_integer QuantOp.Exists s t h = boolean_integer s (gives_is ValueType.Bool (is_boolean s) t h).1
body_integer QuantOp.Sum s t h = (gives_is ValueType.Int (is_integer s) t h).1

body_is : (mode : Mode) (p : Place) (op : QuantOp) (d : DomainTree) (e : ExprTree) (cells values : Env) → Alike cells values → faults (context_of cells) true (quantified p op [] d e) ≡ []
    → (v : ValueTree) → evaluate mode values e ≡ Some v → IsOfDims Scalar.Int 0 v
unfolding judge from_many from_all all_typed reading_contexts inside
body_is mode p op d e cells values a none v is_v =
    let has : HasType (from_one (judge (context_of cells) e) (quantified_type op [])) = expression_typed (context_of cells) (context_typed cells) true (quantified p op [] d e) none in
    let q : _ = from_one_is (judge (context_of cells) e) (quantified_type op []) has.0 has.1 in
    integer_is q.0 v (body_integer op q.0 has.0 q.2) (of_type mode cells values a e q.0 q.1 v is_v)

-- ---- indices of reads

follow_one : (decided : Bool) (s : Span) (own : Option ℤ) (j : ℤ) → (decided ≡ false → own ≡ Some j) → Follows (measured_index decided s own) (at_index j)
unfolding measured_index
follow_one true s own j same = tt
follow_one false s own j same = same refl

indices_follow : (mode : Mode) (cells values : Env) → Alike cells values → (f : Bool) (indices : Indices) → faults_of_indices (context_of cells) f indices ≡ []
    → (js : List Index) → index_list mode values indices ≡ Some js → Matched Follows (measured_list mode cells indices) js
unfolding faults_of_indices index_list measured_list
indices_follow mode cells values a f no_indices none js e = subst (λ l. Matched Follows [] l) (some_is e) tt
indices_follow mode cells values a f (every_and indices) none js e =
    let p : _ = map_is (λ is. any_index ∷ is) (index_list mode values indices) js e in
    subst (λ l. Matched Follows (measured_list mode cells (every_and indices)) l) p.2 (tt, indices_follow mode cells values a f indices none p.0 p.1)
indices_follow mode cells values a f (index_and e indices) none js is_js =
    let p : _ = map_both_is (λ i is. at_index i ∷ is) (number_in (evaluate mode values e)) (index_list mode values indices) js is_js in
    let first : _ = left_none (faults (context_of cells) f e) (faults_of_indices (context_of cells) f indices) none in
    subst (λ l. Matched Follows (measured_list mode cells (index_and e indices)) l) p.4 (
      follow_one (holds_decision (decisions_in cells) e) (span_of (extent mode cells e)) (number_in (evaluate mode cells e)) p.0
          (λ h. ap number_in (value_kept mode cells values a f e first h) ∙ p.2),
      indices_follow mode cells values a f indices (right_none (faults (context_of cells) f e) (faults_of_indices (context_of cells) f indices) none) p.1 p.3,
    )

plain_one : (decided : Bool) (s : Span) (own : Option ℤ) (j : ℤ) → decided ≡ false → own ≡ Some j → plain_index (measured_index decided s own) ≡ Some (at_index j)
unfolding measured_index plain_index
plain_one true s own j h e = truths_differ (sym h)
plain_one false s own j h e = ap (option_map at_index) e

plain_list : (mode : Mode) (cells values : Env) → Alike cells values → (indices : Indices) → faults_of_indices (context_of cells) false indices ≡ []
    → (js : List Index) → index_list mode values indices ≡ Some js → all_defined (map plain_index (measured_list mode cells indices)) ≡ Some js
unfolding faults_of_indices index_list measured_list plain_index all_defined
plain_list mode cells values a no_indices none js e = e
plain_list mode cells values a (every_and indices) none js e =
    let p : _ = map_is (λ is. any_index ∷ is) (index_list mode values indices) js e in
    subst (λ l. all_defined (map plain_index (measured_list mode cells (every_and indices))) ≡ Some l) p.2
    (ap (option_map (λ is. any_index ∷ is)) (plain_list mode cells values a indices none p.0 p.1))
plain_list mode cells values a (index_and e indices) none js is_js =
    let p : _ = map_both_is (λ i is. at_index i ∷ is) (number_in (evaluate mode values e)) (index_list mode values indices) js is_js in
    let first : _ = left_none (faults (context_of cells) false e) (faults_of_indices (context_of cells) false indices) none in
    let fixed : _ = faultless_holds_none cells e first in
    subst (λ l. all_defined (map plain_index (measured_list mode cells (index_and e indices))) ≡ Some l) p.4
    (defined_more (plain_index (measured_index (holds_decision (decisions_in cells) e) (span_of (extent mode cells e)) (number_in (evaluate mode cells e)))) (at_index p.0)
    (map plain_index (measured_list mode cells indices)) p.1
    (plain_one (holds_decision (decisions_in cells) e) (span_of (extent mode cells e)) (number_in (evaluate mode cells e)) p.0 fixed (ap number_in (value_kept mode cells values a false e first fixed) ∙ p.2))
    (plain_list mode cells values a indices (right_none (faults (context_of cells) false e) (faults_of_indices (context_of cells) false indices) none) p.1 p.3))

-- as many entries as there are indices and `..`
entries_are : (c : Context) (indices : Indices) (ts : List ValueType) → all_typed (judge_indices c indices) ≡ Some ts → entry_count indices ≡ length ts + slice_count indices
unfolding judge_indices entry_count slice_count all_typed
entries_are c no_indices ts e = subst (λ l. 0 ≡ length l + 0) (some_is e) (omega arith)
entries_are c (every_and indices) ts e = let q : _ = entries_are c indices ts e in omega (arith, q)
entries_are c (index_and x indices) ts e =
    let p : _ = all_typed_later (judge c x) (judge_indices c indices) ts e in
    let q : _ = entries_are c indices p.1 p.2 in
    subst (λ l. suc (entry_count indices) ≡ length l + slice_count indices) p.3 (omega (arith, q))

fits_more : (entries n slices dims : ℕ) → entries ≡ n + slices → nat_le (n + slices) dims ≡ true → (dims - n ≡ 0 → ⊥) → (nat_le entries dims && nat_lt entries (dims + slices)) ≡ true
fits_more entries n slices dims e h k = go (dims - n) refl
  where
    go : (m : ℕ) → dims - n ≡ m → (nat_le entries dims && nat_lt entries (dims + slices)) ≡ true
    go zero q = absurd (k q)
    go (suc m) q = grind (arith, nat_tests, e, h, q)

left_scalar : (k : ℕ) (s : Scalar) (t : ValueType) → left_type k s ≡ t → is_integer t ≡ false → k ≡ 0 → ⊥
unfolding left_type of_scalar is_integer
left_scalar k Scalar.Bool t h i z = truths_differ (sym i ∙ sym (ap is_integer (sym (ap (λ n. left_type n Scalar.Bool) z) ∙ h)))
left_scalar k Scalar.Int t h i z = truths_differ (sym i ∙ sym (ap is_integer (sym (ap (λ n. left_type n Scalar.Int) z) ∙ h)))

-- a read whose type is no number leaves a matrix
leaves : (s t : ValueType) (ts : List ValueType) (entries slices : ℕ) → read_type s ts slices ≡ typed t → is_integer t ≡ false → entries ≡ length ts + slices
    → leaves_matrix (typed s) entries slices ≡ true
unfolding read_type leaves_matrix
leaves ValueType.Bool t ts entries slices h i e = mistyped_is h
leaves ValueType.Int t ts entries slices h i e = mistyped_is h
leaves ValueType.Empty t ts entries slices h i e = mistyped_is h
leaves (ValueType.Matrix dims s) t ts entries slices h i e =
    let g : _ = gives_is (left_type (dims - length ts) s) (list_all is_integer ts && nat_le (length ts + slices) dims) t h in
    fits_more entries (length ts) slices dims e (and_right (list_all is_integer ts) (nat_le (length ts + slices) dims) g.1) (left_scalar (dims - length ts) s t g.0 i)

named_truths : (mode : Mode) (env : Env) (m : ExprTree) → is_decision_name env m ≡ true → (s : ValueType) → judge (context_of env) m ≡ typed s
    → (ts : List ValueType) (slices : ℕ) → read_type s ts slices ≡ typed ValueType.Bool → IsTruths (extent mode env m)
unfolding extent judge context_of holds_decision
named_truths mode env m h s j ts slices r =
    let p : _ = decision_name env m h in
    subst (λ x. IsTruths (extent mode env x)) (sym p.2)
    (subst IsTruths (sym (measured_held mode env (named p.0 p.1) (named_extent (env p.1)) p.3))
    (bound_truths (env p.1) p.3 s (sym (ap (judge (context_of env)) p.2) ∙ j) ts slices r))

-- A read gives what lies in what is known of it, where its matrix does.
reads : (mode : Mode) (cells values : Env) → Alike cells values → (p : Place) (m : ExprTree) (indices : Indices) → faults (context_of cells) true (read p m indices) ≡ []
    → Within (extent mode cells m) (evaluate mode values m)
    → Within (read_extent (type_in cells (read p m indices)) (reads_cell cells m (measured_list mode cells indices)) (measured_list mode cells indices) (extent mode cells m)) (evaluate mode values (read p m indices))
unfolding faults evaluate judge reads_cell
reads mode cells values a p m indices none within =
    let c : Context = context_of cells in
    let e : ExprTree = read p m indices in
    let flag : Bool = not (leaves_matrix (judge c m) (entry_count indices) (slice_count indices)) in
    let has : HasType (judge c e) = expression_typed c (context_typed cells) true e none in
    let q : (s : ValueType) × (judge c m ≡ typed s) × (from_many (judge_indices c indices) (λ ts. read_type s ts (slice_count indices)) ≡ typed has.0) =
    from_one_is (judge c m) (λ s. from_many (judge_indices c indices) (λ ts. read_type s ts (slice_count indices))) has.0 has.1 in
    let r : (ts : List ValueType) × (all_typed (judge_indices c indices) ≡ Some ts) × (read_type q.0 ts (slice_count indices) ≡ typed has.0) =
    from_many_is (judge_indices c indices) (λ ts. read_type q.0 ts (slice_count indices)) has.0 q.2 in
    let own : type_in cells e ≡ has.0 = type_in_is cells e has.0 has.1 in
    let other : type_in values e ≡ has.0 = type_in_is values e has.0 (sym (type_is_kept cells values a.agree e) ∙ has.1) in
    let indices_none : faults_of_indices c flag indices ≡ [] = right_none (type_fault p (judge c e) ++ faults c true m) (faults_of_indices c flag indices) none in
    let o : Option (List Index) = index_list mode values indices in
    let is : List MeasuredIndex = measured_list mode cells indices in
    let x : Extent = extent mode cells m in
    let v : Option ValueTree = evaluate mode values m in
    subst (λ t. Within (read_extent t (reads_cell cells m is) is x) (read_result mode (type_in values e) (on_both o v read_value))) (sym own)
    (subst (λ t. Within (read_extent has.0 (reads_cell cells m is) is x) (read_result mode t (on_both o v read_value))) (sym other)
    (read_within mode has.0 (reads_cell cells m is) is x o v
    (indices_follow mode cells values a flag indices indices_none) within
    (λ w is_w. of_type mode cells values a e has.0 has.1 w (ap (λ t. read_result mode t (on_both o v read_value)) other ∙ is_w))
    (λ boolean cell. named_truths mode cells m (and_left (is_decision_name cells m) _ cell) q.0 q.1 r.0 (slice_count indices) (r.2 ∙ ap typed boolean))
    (λ whole. plain_list mode cells values a indices
    (subst (λ b. faults_of_indices c (not b) indices ≡ [])
    (ap (λ j. leaves_matrix j (entry_count indices) (slice_count indices)) q.1 ∙ leaves q.0 has.0 r.0 (entry_count indices) (slice_count indices) r.2 whole (entries_are c indices r.0 r.1)) indices_none))))

-- ---- terms

term_within : (plus : Bool) (x : Extent) (o : Option ValueTree) → Within x o → NumberWithin (signed_span plus (span_of x)) (option_map (signed plus) (number_in o))
unfolding signed
term_within true x o w n e =
    let p : _ = map_is (signed true) (number_in o) n e in signed_within true (span_of x) p.0 n (number_within o x w p.0 p.1) (sym p.2)
term_within false x o w n e =
    let p : _ = map_is (signed false) (number_in o) n e in signed_within false (span_of x) p.0 n (number_within o x w p.0 p.1) (sym p.2)

mutual
  unfolding extent evaluate faults extents_of values_of faults_of_all term_spans term_values faults_of_terms holds_decision judge

  -- A value that is defined lies in what is known of its expression.
  pub lies : (mode : Mode) (e : ExprTree) (cells values : Env) → Alike cells values → faults (context_of cells) true e ≡ [] → Within (extent mode cells e) (evaluate mode values e)
  lies mode (number p n) cells values a none = fixed_within mode cells values a (number p n) none refl
  lies mode (truth p b) cells values a none = fixed_within mode cells values a (truth p b) none refl
  lies mode (named p name) cells values a none =
      measured_within mode cells values a (named p name) none (named_extent (cells name)) (λ h. named_within (cells name) (values name) (a.agree name) (a.typed name) h)
  lies mode (group p e) cells values a none =
      let has : HasType (judge (context_of cells) e) = expression_typed (context_of cells) (context_typed cells) true e none in
      measured_within mode cells values a (group p e) none (group_extent (type_in cells e) (extent mode cells e))
      (λ h. group_within (type_in cells e) (extent mode cells e) (evaluate mode values e)
      (λ v is_v. subst (λ t. IsOf t v) (sym (type_in_is cells e has.0 has.1)) (of_type mode cells values a e has.0 has.1 v is_v))
      (lies mode e cells values a none))
  lies mode (negation p e) cells values a none = measured_within mode cells values a (negation p e) none (single truth_span) (λ h. truth_within mode _)
  lies mode (minus p e) cells values a none =
      measured_within mode cells values a (minus p e) none _
      (λ h. minus_within (evaluate mode values e) (extent mode cells e) (lies mode e cells values a (right_none (type_fault p (judge (context_of cells) (minus p e))) (faults (context_of cells) true e) none)))
  lies mode (absolute p e) cells values a none =
      measured_within mode cells values a (absolute p e) none _
      (λ h. absolute_within (evaluate mode values e) (extent mode cells e) (lies mode e cells values a (right_none (type_fault p (judge (context_of cells) (absolute p e))) (faults (context_of cells) true e) none)))
  lies mode (to_int p e) cells values a none =
      let c : Context = context_of cells in
      let has : HasType (judge c (to_int p e)) = expression_typed c (context_typed cells) true (to_int p e) none in
      let q : _ = from_one_is (judge c e) (λ t. gives ValueType.Int (is_boolean t)) has.0 has.1 in
      measured_within mode cells values a (to_int p e) none (single truth_span)
      (λ h v is_v. truth_lies v (boolean_is q.0 v (gives_is ValueType.Int (is_boolean q.0) has.0 q.2).1 (of_type mode cells values a e q.0 q.1 v is_v)))
  lies mode (factorial p e) cells values a none =
      measured_within mode cells values a (factorial p e) none _
      (λ h. truths_differ (sym (faultless_holds_none cells e (right_none (type_fault p (judge (context_of cells) (factorial p e))) (faults (context_of cells) false e) none)) ∙ h))
  lies mode (flatten p e) cells values a none =
      measured_within mode cells values a (flatten p e) none _
      (λ h. list_within (evaluate mode values e) (extent mode cells e) (lies mode e cells values a (right_none (type_fault p (judge (context_of cells) (flatten p e))) (faults (context_of cells) true e) none)))
  lies mode (chain p terms) cells values a none =
      measured_within mode cells values a (chain p terms) none _
      (λ h. single_within (sum_span (term_spans mode cells terms)) (option_map sum_of (all_defined (term_values mode values terms)))
      (sum_within (term_spans mode cells terms) (all_defined (term_values mode values terms))
      (defined_lie (term_spans mode cells terms) (term_values mode values terms)
      (terms_lie mode terms cells values a (right_none (type_fault p (judge (context_of cells) (chain p terms))) (faults_of_terms (context_of cells) true terms) none)))))
  lies mode (binary p op x y) cells values a none =
      let c : Context = context_of cells in
      let own : List Fault = type_fault p (judge c (binary p op x y)) in
      let second : faults c (not (is_power op)) y ≡ [] = right_none (own ++ faults c true x) (faults c (not (is_power op)) y) none in
      measured_within mode cells values a (binary p op x y) none _
      (λ h. binary_within mode op (span_of (extent mode cells x)) (span_of (extent mode cells y)) (number_in (evaluate mode values x)) (number_in (evaluate mode values y)) (number_in (evaluate mode cells y))
      (number_within (evaluate mode values x) (extent mode cells x) (lies mode x cells values a (right_none own (faults c true x) (left_none (own ++ faults c true x) (faults c (not (is_power op)) y) none))))
      (number_within (evaluate mode values y) (extent mode cells y) (lies mode y cells values a (as_decided c (not (is_power op)) y second)))
      (λ power. let fixed : faults c false y ≡ [] = subst (λ b. faults c (not b) y ≡ []) power second in
      ap number_in (value_kept mode cells values a false y fixed (faultless_holds_none cells y fixed))))
  lies mode (compare p op x y) cells values a none = measured_within mode cells values a (compare p op x y) none (single truth_span) (λ h. truth_within mode _)
  lies mode (lex p op x y) cells values a none = measured_within mode cells values a (lex p op x y) none (single truth_span) (λ h. truth_within mode _)
  lies mode (in_domain p x d) cells values a none = measured_within mode cells values a (in_domain p x d) none (single truth_span) (λ h. truth_within mode _)
  lies mode (in_set p x y) cells values a none = measured_within mode cells values a (in_set p x y) none (single truth_span) (λ h. truth_within mode _)
  lies mode (all_of p parts) cells values a none = measured_within mode cells values a (all_of p parts) none (single truth_span) (λ h. truth_within mode _)
  lies mode (any_of p parts) cells values a none = measured_within mode cells values a (any_of p parts) none (single truth_span) (λ h. truth_within mode _)
  lies mode (quantified p op names d e) cells values a none =
      measured_within mode cells values a (quantified p op names d e) none _
      (λ h. over_alike InstanceWithin mode d (quantified_span op) (quantified_value mode op) (no_instances mode op) (some_instances mode op)
      (λ inner. span_of (extent mode inner e)) (λ inner. evaluate mode inner e) (QuantifierStands p op d e) (quantifier_steps p op d e)
      (λ en ot l k. of_number (evaluate mode ot e) (extent mode en e) Scalar.Int (body_is mode p op d e en ot l k)
      (lies mode e en ot l (quantifier_inside p op d e (context_of en) k)))
      names cells values a none)
  lies mode (literal p parts d) cells values a none =
      let c : Context = context_of cells in
      let own : List Fault = type_fault p (judge c (literal p parts d)) in
      measured_within mode cells values a (literal p parts d) none _
      (λ h. matrix_within (index_values mode cells d) (index_values mode values d)
      (indices_same mode cells values a d (right_none (own ++ faults_of_all c true parts) (index_faults c d) none))
      (extents_of mode cells parts) (values_of mode values parts)
      (all_lie mode parts cells values a (right_none own (faults_of_all c true parts) (left_none (own ++ faults_of_all c true parts) (index_faults c d) none))))
  lies mode (comprehension p e gens conditions d) cells values a none =
      let g : _ = generated p e gens conditions d cells none in
      let c : Context = inside_all gens (context_of cells) in
      measured_within mode cells values a (comprehension p e gens conditions d) none _
      (λ h v is_v. matrix_within (index_values mode cells d) (index_values mode values d) (indices_same mode cells values a d g.index)
      (map (λ inner. extent mode inner e) (chosen mode cells gens conditions)) (map (λ inner. evaluate mode inner e) (chosen mode values gens conditions))
      (mapped_both Within (λ inner. extent mode inner e) (λ inner. evaluate mode inner e) c (chosen mode cells gens conditions) (chosen mode values gens conditions)
      (chosen_alike mode gens conditions cells values a g.generators g.integers g.conditions_none)
      (λ en ot l q. lies mode e en ot l (subst (λ x. faults x true e ≡ []) (sym q) g.inner)))
      v (if_is _ _ v is_v))
  lies mode (read p m indices) cells values a none =
      let c : Context = context_of cells in
      let own : List Fault = type_fault p (judge c (read p m indices)) in
      measured_within mode cells values a (read p m indices) none _
      (λ h. reads mode cells values a p m indices none
      (lies mode m cells values a
      (right_none own (faults c true m) (left_none (own ++ faults c true m) (faults_of_indices c (not (leaves_matrix (judge c m) (entry_count indices) (slice_count indices))) indices) none))))
  lies mode (folded p op e) cells values a none =
      measured_within mode cells values a (folded p op e) none _
      (λ h. folded_within mode op (scalars_of (extent mode cells e)) (scalars_in (evaluate mode values e))
      (scalars_within (evaluate mode values e) (extent mode cells e) (lies mode e cells values a (right_none (type_fault p (judge (context_of cells) (folded p op e))) (faults (context_of cells) true e) none))))
  lies mode (all_different p e) cells values a none = measured_within mode cells values a (all_different p e) none (single truth_span) (λ h. truth_within mode _)
  lies mode (gcc p x y z) cells values a none = measured_within mode cells values a (gcc p x y z) none (single truth_span) (λ h. truth_within mode _)
  lies mode (at_least p x y z) cells values a none = measured_within mode cells values a (at_least p x y z) none (single truth_span) (λ h. truth_within mode _)
  lies mode (at_most p x y z) cells values a none = measured_within mode cells values a (at_most p x y z) none (single truth_span) (λ h. truth_within mode _)
  lies mode (table p x y) cells values a none = measured_within mode cells values a (table p x y) none (single truth_span) (λ h. truth_within mode _)

  -- The same of each of some expressions.
  all_lie : (mode : Mode) (es : ExprTrees) (cells values : Env) → Alike cells values → faults_of_all (context_of cells) true es ≡ [] → Matched Within (extents_of mode cells es) (values_of mode values es)
  all_lie mode no_trees cells values a none = tt
  all_lie mode (tree_and e es) cells values a none = (
    lies mode e cells values a (left_none (faults (context_of cells) true e) (faults_of_all (context_of cells) true es) none),
    all_lie mode es cells values a (right_none (faults (context_of cells) true e) (faults_of_all (context_of cells) true es) none),
  )

  -- The same of the terms of a chain.
  terms_lie : (mode : Mode) (ts : Terms) (cells values : Env) → Alike cells values → faults_of_terms (context_of cells) true ts ≡ [] → Matched NumberWithin (term_spans mode cells ts) (term_values mode values ts)
  terms_lie mode no_terms cells values a none = tt
  terms_lie mode (term_and plus e ts) cells values a none = (
    term_within plus (extent mode cells e) (evaluate mode values e) (lies mode e cells values a (left_none (faults (context_of cells) true e) (faults_of_terms (context_of cells) true ts) none)),
    terms_lie mode ts cells values a (right_none (faults (context_of cells) true e) (faults_of_terms (context_of cells) true ts) none),
  )

pub value_lies_within : (mode : Mode) (cells values : Env) (e : ExprTree) → Agreed cells values e → (v : ValueTree) → evaluate mode values e ≡ Some v → LiesWithin v (extent mode cells e)
value_lies_within mode cells values e agreed v is_v = lies mode e cells values (record { agree = agreed.agree; typed = agreed.typed }) agreed.faultless v is_v
