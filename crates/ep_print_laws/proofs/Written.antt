-- An assignment that is written as its instance states it is given back as it is.
use Rattle.std.proofs.Common.{◌≡◌, Bool, true, false, ◌&&◌, ◌||◌, List, [], ◌∷◌, length, map, ℤ, pos, Some, None, refl, sym, ap, ap₂, subst, ◌∙◌}
use Rattle.std.specs.Prelude.{IsPermutation, IsTrue, Ok, Err, if◌then◌else◌, option_and_then, option_map}
use Rattle.std.specs.List.{All, AllByRecursion, list_all, list_any}
use Rattle.std.specs.Ordering.{int_eq}
use Rattle.std.proofs.lemmas.Bool.{and_from, and_parts}
use Rattle.std.proofs.lemmas.Bool.Decides.{Decides-int_eq}
use Rattle.std.proofs.lemmas.List.Elements.{All-from_recursion, recursion_from_All}
use Rattle.std.proofs.lemmas.List.Sorted.{IsPermutation-refl}
use Rattle.ep_base.proofs.Small.{map_is, no_some, some_is, then_is}
use Rattle.ep_base.specs.Numbers.{has_number}
use Rattle.ep_base.specs.Runs.{IsAscending}
use Rattle.ep_base.specs.declared.names.Name.{Name}
use Rattle.ep_base.specs.declared.operators.Limit.{Limit}
use Rattle.ep_tree.proofs.TypedEvaluation.{with_indices_is}
use Rattle.ep_tree.proofs.TypedParts.{both_is, listed-as_parts, truths_differ}
use Rattle.ep_tree.specs.Binding.{Find, Instance, over_limit}
use Rattle.ep_tree.specs.Closed.{IsClosed}
use Rattle.ep_tree.specs.Environments.{Bound, has_cells, has_domain, has_value, shape_type}
use Rattle.ep_tree.specs.Placeless.{placeless_statement}
use Rattle.ep_tree.specs.SolutionTexts.{fits}
use Rattle.ep_tree.specs.Solutions.{Assigned, Fits, Found, NamedValue, find_type, fitted_find, found_of, found_values, named_in}
use Rattle.ep_tree.specs.Statements.{TextTree}
use Rattle.ep_tree.specs.TypedValues.{is_number_of}
use Rattle.ep_tree.specs.Types.{of_scalar, scalar_of}
use Rattle.ep_tree.specs.Values.{ValueTree, ValueTrees, all_fitted, as_parts, fitted, matrix, no_values, scalar_fits, single, value_and, with_indices}
use Rattle.ep_tree.specs.declared.values.Mode.{Mode}
use Rattle.ep_tree.specs.declared.values.Scalar.{Scalar}
use Rattle.ep_tree.specs.declared.values.ValueType.{ValueType}
use Rattle.ep_print_laws.specs.Answered.{AreInOrder, IsInOrder, letting_of}
use Rattle.ep_print_laws.specs.GivenBack.{CanBeRead, GivesItselfBack, IsNearDomain, are_near_values, is_large, is_near, is_near_value}
use Rattle.ep_print_laws.proofs.Restored.{names_of, values_given_back}

-- ---- what fits a near domain can be read

-- a value in order, within the limit of reach
abbrev IsFit : Scalar → ValueTree → Type 0
IsFit s v = IsInOrder s v × (is_near_value v ≡ true)

-- the same of parts
abbrev AreFit : Scalar → ValueTrees → Type 0
AreFit s vs = AreInOrder s vs × (are_near_values vs ≡ true)

-- the numbers that pass are of the scalar, and within the limit of reach
abbrev PassesNear : Scalar → (ℤ → Bool) → Type 0
PassesNear wanted passes = (n : ℤ) → passes n ≡ true → (is_number_of wanted n ≡ true) × (is_near n ≡ true)

number_fit : (wanted : Scalar) (passes : ℤ → Bool) → PassesNear wanted passes → (n : ℤ) (w : ValueTree) (a b : Bool) → passes n ≡ b → (if a && b then Some (single n) else None) ≡ Some w → IsFit wanted w
unfolding is_near_value
number_fit wanted passes good n w true true p e = subst (IsFit wanted) (some_is e) (good n p)
number_fit wanted passes good n w true false p e = no_some e
number_fit wanted passes good n w false b p e = no_some e

mutual
  unfolding fitted as_parts is_near_value

  value_fit : (own wanted : Scalar) (passes : ℤ → Bool) → PassesNear wanted passes → (indices : List (List ℤ)) → AllByRecursion IsAscending indices → list_all (list_all is_near) indices ≡ true
      → (v w : ValueTree) → fitted own wanted passes indices v ≡ Some w → IsFit wanted w
  value_fit own wanted passes good [] up near (single n) w e = number_fit wanted passes good n w (scalar_fits own wanted) (passes n) refl e
  value_fit own wanted passes good (ix ∷ inner) up near (single n) w e = no_some e
  value_fit own wanted passes good [] up near (matrix old parts) w e = no_some e
  value_fit own wanted passes good (ix ∷ inner) up near (matrix old parts) w e =
      let p : _ = then_is (with_indices ix) (all_fitted own wanted passes inner parts) w e in
      let q : _ = with_indices_is ix p.0 w p.2 in
      let some = and_parts (list_all is_near ix) (list_all (list_all is_near) inner) near in
      let r = values_fit own wanted passes good inner up.1 some.1 parts p.0 p.1 in
      subst (IsFit wanted) q.1 ((q.0 ∙ sym (ap length (listed-as_parts p.0)), up.0, r.0), and_from _ _ some.0 r.1)

  values_fit : (own wanted : Scalar) (passes : ℤ → Bool) → PassesNear wanted passes → (inner : List (List ℤ)) → AllByRecursion IsAscending inner → list_all (list_all is_near) inner ≡ true
      → (vs : ValueTrees) (ws : List ValueTree) → all_fitted own wanted passes inner vs ≡ Some ws → AreFit wanted (as_parts ws)
  values_fit own wanted passes good inner up near no_values ws e = subst (λ xs. AreFit wanted (as_parts xs)) (some_is e) (tt, refl)
  values_fit own wanted passes good inner up near (value_and v vs) ws e =
      let p : _ = then_is (λ x. option_map (λ xs. x ∷ xs) (all_fitted own wanted passes inner vs)) (fitted own wanted passes inner v) ws e in
      let q : _ = map_is (λ xs. p.0 ∷ xs) (all_fitted own wanted passes inner vs) ws p.2 in
      let one = value_fit own wanted passes good inner up near v p.0 p.1 in
      let others = values_fit own wanted passes good inner up near vs q.0 q.1 in
      subst (λ xs. AreFit wanted (as_parts xs)) q.2 ((one.0, others.0), and_from _ _ one.1 others.1)

-- a number among some passes what all of them pass
member_passes : (p : ℤ → Bool) (values : List ℤ) → list_all p values ≡ true → (x : ℤ) → has_number values x ≡ true → p x ≡ true
unfolding has_number
member_passes p [] all x there = truths_differ there
member_passes p (v ∷ vs) all x there =
    let q = and_parts (p v) (list_all p vs) all in
    go (int_eq x v) (has_number vs x) (λ e. ap p ((Decides-int_eq x v).0 e) ∙ q.0) (member_passes p vs q.1 x) there
  where
    go : (here more : Bool) → (here ≡ true → p x ≡ true) → (more ≡ true → p x ≡ true) → (here || more) ≡ true → p x ≡ true
    go true more one other e = one refl
    go false more one other e = other e

scalar_of_shape : (s : Scalar) (indices : List (List ℤ)) → scalar_of (shape_type s indices) ≡ s
unfolding scalar_of shape_type of_scalar
scalar_of_shape Scalar.Bool [] = refl
scalar_of_shape Scalar.Int [] = refl
scalar_of_shape s (ix ∷ inner) = refl

-- what a decision variable has
abbrev HasFit : Find → ValueTree → Type 0
HasFit f v = IsFit (scalar_of (find_type f)) v

find_fit : (f : Find) (g : NamedValue) (v : ValueTree) → IsTrue (list_all (is_number_of f.scalar) f.values) → IsNearDomain f → fitted_find f g ≡ Some v → HasFit f v
unfolding fitted_find
find_fit f g v of near e =
    subst (λ s. IsFit s v) (sym (scalar_of_shape f.scalar f.indices))
    (value_fit (scalar_of g.ty) f.scalar (has_number f.values) (λ n there. (member_passes (is_number_of f.scalar) f.values of n there, member_passes is_near f.values near.values n there))
    f.indices (recursion_from_All IsAscending f.indices near.ascend) near.indices g.value v e)

-- ---- the values that decision variables have

-- a name stands for a value in order, within the limit of reach
abbrev IsFitFor : Bound → Type 0
IsFitFor (has_value t v) = IsFit (scalar_of t) v
IsFitFor (has_cells s indices values) = ⊥
IsFitFor (has_domain s indices values) = ⊥

abbrev IsFitBound : Name × Bound → Type 0
IsFitBound entry = IsFitFor entry.1

-- a decision variable's domain: its values are of its scalar, and it is near
abbrev IsGood : Find → Type 0
IsGood f = IsTrue (list_all (is_number_of f.scalar) f.values) × IsNearDomain f

found_fit : (fs : List Find) (a : Assigned) (found : Found) → AllByRecursion IsGood fs → found_values fs a ≡ Some found → AllByRecursion IsFitBound found
unfolding found_values
found_fit [] a found good e = subst (AllByRecursion IsFitBound) (some_is e) tt
found_fit (f ∷ fs) a found good e =
    let q : _ = both_is (option_and_then (fitted_find f) (named_in a f.name)) (found_values fs a) (λ v rest. Some ((f.name, has_value (find_type f) v) ∷ rest)) found e in
    let g : _ = then_is (fitted_find f) (named_in a f.name) q.0 q.2 in
    subst (AllByRecursion IsFitBound) (some_is q.4) (find_fit f g.0 q.0 good.0.0 good.0.1 g.2, found_fit fs a q.1 good.1 q.3)

pub found_names : (fs : List Find) (a : Assigned) (found : Found) → found_values fs a ≡ Some found → map (λ (x : Name × Bound). x.0) found ≡ map (λ f. f.name) fs
unfolding found_values
found_names [] a found e = ap (map (λ (x : Name × Bound). x.0)) (sym (some_is e))
found_names (f ∷ fs) a found e =
    let q : _ = both_is (option_and_then (fitted_find f) (named_in a f.name)) (found_values fs a) (λ v rest. Some ((f.name, has_value (find_type f) v) ∷ rest)) found e in
    ap (map (λ (x : Name × Bound). x.0)) (sym (some_is q.4)) ∙ ap (λ ns. f.name ∷ ns) (found_names fs a q.1 q.3)

pub names_written : (a : Assigned) → map (λ (x : Name × Bound). x.0) (found_of a) ≡ names_of a
names_written [] = refl
names_written (g ∷ a) = ap (λ ns. g.name ∷ ns) (names_written a)

written_can : (a : Assigned) → AllByRecursion IsFitBound (found_of a) → AllByRecursion CanBeRead a
written_can [] h = tt
written_can (g ∷ a) h = (record { in_order = h.0.0; near = h.0.1 }, written_can a h.1)

-- ---- values are told by what names stand for

type_bound : Bound → ValueType
type_bound (has_value t v) = t
type_bound _ = ValueType.Empty

tree_bound : Bound → ValueTree
tree_bound (has_value t v) = v
tree_bound _ = single (pos 0)

first_found : Found → Name × Bound → Name × Bound
first_found [] d = d
first_found (x ∷ found) d = x

later_found : Found → Found
later_found [] = []
later_found (x ∷ found) = found

same_found : (a b : Assigned) → found_of a ≡ found_of b → a ≡ b
unfolding type_bound tree_bound first_found later_found
same_found [] [] h = refl
same_found [] (g ∷ b) h = absurd cc
same_found (g ∷ a) [] h = absurd cc
same_found (g ∷ a) (x ∷ b) h =
    let one : (g.name, has_value g.ty g.value) ≡ (x.name, has_value x.ty x.value) = ap (λ found. first_found found (g.name, has_value g.ty g.value)) h in
    let make : Name → ValueType → ValueTree → NamedValue = λ name t v. record { name = name; ty = t; value = v } in
    let names : g.name ≡ x.name = ap (λ (e : Name × Bound). e.0) one in
    let types : g.ty ≡ x.ty = ap (λ (e : Name × Bound). type_bound e.1) one in
    let values : g.value ≡ x.value = ap (λ (e : Name × Bound). tree_bound e.1) one in
    ap₂ (λ y ys. y ∷ ys) (ap (λ n. make n g.ty g.value) names ∙ ap (λ t. make x.name t g.value) types ∙ ap (make x.name x.ty) values) (same_found a b (ap later_found h))

-- ---- the whole

good_finds : (fs : List Find) → AllByRecursion (λ f. IsTrue (list_all (is_number_of f.scalar) f.values)) fs → AllByRecursion IsNearDomain fs → AllByRecursion IsGood fs
good_finds [] of near = tt
good_finds (f ∷ fs) of near = ((of.0, near.0), good_finds fs of.1 near.1)

-- an assignment that is written as an instance states it fits, and can be read
pub record IsReadable (i : Instance) (a : Assigned) : Type 0 where
  pub fits_it : Fits i a (found_of a)
  pub can : All CanBeRead a

pub written_readable : (i : Instance) (a : Assigned) → IsClosed i → All IsNearDomain i.finds → found_values i.finds a ≡ Some (found_of a) → IsReadable i a
written_readable i a closed near e =
    let of = recursion_from_All (λ f. IsTrue (list_all (is_number_of f.scalar) f.values)) i.finds closed.values in
    let good = good_finds i.finds of (recursion_from_All IsNearDomain i.finds near) in
    let names : names_of a ≡ map (λ f. f.name) i.finds = sym (names_written a) ∙ found_names i.finds a (found_of a) e in
    record {
      fits_it = record { same_names = subst (IsPermutation (names_of a)) names (IsPermutation-refl (names_of a)); values = e };
      can = All-from_recursion CanBeRead a (written_can a (found_fit i.finds a (found_of a) good e));
    }

pub assignment_given_back : (mode : Mode) (i : Instance) → IsClosed i → All IsNearDomain i.finds → (a : Assigned) → found_values i.finds a ≡ Some (found_of a)
    → (text : TextTree) → map placeless_statement text ≡ map placeless_statement (map letting_of a)
    → GivesItselfBack mode i a text
assignment_given_back mode i closed near a e text same =
    let r = written_readable i a closed near e in
    let back = values_given_back mode i closed a (found_of a) r.fits_it r.can text same in
    record {
      faultless = back.faultless;
      answer = back.answer ∙ ap (λ b. if list_any (is_large mode) a then Err (over_limit Limit.Size ∷ []) else Ok (fits b)) (same_found back.read a back.same);
    }
