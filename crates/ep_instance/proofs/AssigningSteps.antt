-- Values that an assignment gives decision variables: fitted, put into an environment, and fitted again.
use Rattle.std.proofs.Common.{◌≡◌, ◌∙◌, ℕ, zero, suc, ◌+◌, ◌-◌, ◌<◌, ◌≤◌, Bool, true, false, ◌&&◌, ◌||◌, ℤ, List, [], ◌∷◌, map, length, drop, get_or, Option, Some, None, option_map, refl, sym, ap, subst, arith, if◌then◌else◌, bytes_eq, IsTrue}
use Rattle.std.specs.Prelude.{is_some, option_and_then, Result, Ok, Err, IfOk, OnErr}
use Rattle.std.specs.List.{All, list_all, list_any}
use Rattle.std.proofs.lemmas.List.{drop_more}
use Rattle.std.proofs.lemmas.List.Elements.{All-cons, All-head, All-nil, All-tail}
use Rattle.std.specs.Ordering.{int_eq}
use Rattle.ep_base.specs.Numbers.{has_number}
use Rattle.ep_base.specs.Options.{on_both}
use Rattle.ep_base.specs.declared.errors.Memory.{Memory}
use Rattle.ep_base.specs.declared.names.Name.{Name}
use Rattle.ep_tree.proofs.TypedFitting.{fitted_typed}
use Rattle.ep_tree.proofs.TypedParts.{truths_differ}
use Rattle.ep_tree.specs.Binding.{Find}
use Rattle.ep_tree.specs.Environments.{Env, has_value, shape_type}
use Rattle.ep_tree.specs.Names.{put, put_all}
use Rattle.ep_tree.specs.Solutions.{Assigned, Found, NamedValue, find_type, fitted_find, found_values, named_in}
use Rattle.ep_tree.specs.TypedValues.{IsOf, IsOfDims, is_number_of}
use Rattle.ep_tree.specs.Types.{of_scalar, scalar_of}
use Rattle.ep_tree.specs.Values.{ValueTree, fitted}
use Rattle.ep_tree.specs.Views.{named_value, value_tree}
use Rattle.ep_tree.specs.declared.values.Entry.{Entry}
use Rattle.ep_tree.specs.declared.values.Scalar.{Scalar}
use Rattle.ep_tree.specs.declared.values.Value.{Value}
use Rattle.ep_tree.specs.declared.values.ValueType.{ValueType}
use Rattle.ep_instance_parts.proofs.ShapeSteps.{both_some}
use Rattle.ep_instance_parts.specs.Elements.{PassesAs, element_passes}
use Rattle.ep_instance_parts.specs.Instances.{find_of}
use Rattle.ep_instance_parts.specs.declared.elements.Elements.{Within}
use Rattle.ep_instance_parts.specs.declared.instances.Find.{Find as KeptFind}
use Rattle.ep_instance.specs.Assigning.{HasFit, IsUnder, SetsFind}

-- ---- one value

-- a value that is fitted by the numbers of a decision variable's domain
pub find_fit : (answer : Result (Option Value) Memory) (kept values : List ℤ) (own wanted s w : Scalar) (is js : List (List ℤ)) (v : ValueTree)
    → kept ≡ values → own ≡ s → wanted ≡ w → is ≡ js
    → IfOk answer (λ fit. (passes : ℤ → Bool) → PassesAs (Within kept) passes → option_map value_tree fit ≡ fitted own wanted passes is v)
    → IfOk answer (λ fit. option_map value_tree fit ≡ fitted s w (has_number values) js v)
unfolding element_passes
find_fit (Ok fit) kept values own wanted s w is js v k o t i h =
    h (has_number values) (record { same = λ n low high. ap (λ xs. has_number xs n) k })
    ∙ ap (λ x. fitted x wanted (has_number values) is v) o
    ∙ ap (λ x. fitted s x (has_number values) is v) t
    ∙ ap (λ x. fitted s w (has_number values) x v) i
find_fit (Err e) kept values own wanted s w is js v k o t i h = tt

and_left : (a b : Bool) → (a && b) ≡ true → a ≡ true
and_left true b h = refl
and_left false b h = h

and_right : (a b : Bool) → (a && b) ≡ true → b ≡ true
and_right true b h = h
and_right false b h = truths_differ h

-- a number of a list of numbers of a scalar is of the scalar
one_of : (s : Scalar) (ns : List ℤ) → list_all (is_number_of s) ns ≡ true → (n : ℤ) → has_number ns n ≡ true → is_number_of s n ≡ true
unfolding has_number
one_of s [] h n e = truths_differ e
one_of s (m ∷ ns) h n e = go (int_eq n m) refl e (one_of s ns (and_right (is_number_of s m) (list_all (is_number_of s) ns) h) n)
  where
    go : (b : Bool) → int_eq n m ≡ b → (b || list_any (λ y. int_eq n y) ns) ≡ true → (list_any (λ y. int_eq n y) ns ≡ true → is_number_of s n ≡ true) → is_number_of s n ≡ true
    go true q e ih = let same : m ≡ n = grind arith in subst (λ x. is_number_of s x ≡ true) same (and_left (is_number_of s m) (list_all (is_number_of s) ns) h)
    go false q e ih = ih e

shape_is : (s : Scalar) (is : List (List ℤ)) (v : ValueTree) → IsOfDims s (length is) v → IsOf (shape_type s is) v
unfolding shape_type of_scalar
shape_is Scalar.Bool [] v h = h
shape_is Scalar.Int [] v h = h
shape_is s (i ∷ is) v h = h

-- a value that is fitted into a decision variable's domain is of its type
pub find_typed : (ty : ValueType) (own : Scalar) (values : List ℤ) (is : List (List ℤ)) (v w : ValueTree) → ty ≡ shape_type (scalar_of ty) is
    → list_all (is_number_of (scalar_of ty)) values ≡ true → fitted own (scalar_of ty) (has_number values) is v ≡ Some w → IsOf ty w
find_typed ty own values is v w shaped h e =
    subst (λ t. IsOf t w) (sym shaped)
    (shape_is (scalar_of ty) is w (fitted_typed own (scalar_of ty) (has_number values) (one_of (scalar_of ty) values h) is v w e))

-- ---- what an assignment gives a name

pub named_here : (g : NamedValue) (gs : Assigned) (name : Name) → bytes_eq g.name name ≡ true → named_in (g ∷ gs) name ≡ Some g
unfolding named_in
named_here g gs name h = ap (λ b. if b then Some g else named_in gs name) h

pub named_later : (g : NamedValue) (gs : Assigned) (name : Name) → bytes_eq g.name name ≡ false → named_in (g ∷ gs) name ≡ named_in gs name
unfolding named_in
named_later g gs name h = ap (λ b. if b then Some g else named_in gs name) h

pub named_nowhere : (name : Name) → named_in [] name ≡ None
unfolding named_in
named_nowhere name = refl

-- ---- values that an assignment gives, and that fit

pub entry_there : {A : Type 0} (g : A → NamedValue) (r : Option A) (f : Find) (a : Assigned) → option_map g r ≡ named_in a f.name → HasFit a f → ((x : A) → r ≡ Some x → ⊥) → ⊥
entry_there g None f a is fits none = absurd (truths_differ (subst (λ o. is_some (option_and_then (fitted_find f) o) ≡ true) (sym is) fits))
entry_there g (Some x) f a is fits none = none x refl

pub fit_there : (f : Find) (o : Option NamedValue) (g : NamedValue) (fit : Option Value) → o ≡ Some g → option_map value_tree fit ≡ fitted (scalar_of g.ty) f.scalar (has_number f.values) f.indices g.value → is_some (option_and_then (fitted_find f) o) ≡ true
    → ((v : Value) → fit ≡ Some v → ⊥) → ⊥
unfolding fitted_find
fit_there f o g None e is fits none =
    absurd (truths_differ (subst (λ w. is_some w ≡ true) (sym is) (subst (λ p. is_some (option_and_then (fitted_find f) p) ≡ true) e fits)))
fit_there f o g (Some v) e is fits none = none v refl

-- where all decision variables have values, each has one
pub all_fit : (fs : List Find) (a : Assigned) (found : Found) → found_values fs a ≡ Some found → All (HasFit a) fs
unfolding found_values on_both
all_fit [] a found e = All-nil (HasFit a)
all_fit (f ∷ fs) a found e =
    by (option_and_then (fitted_find f) (named_in a f.name)) (found_values fs a) refl refl e (λ more others. all_fit fs a more others)
  where
    by : (o : Option ValueTree) (rest : Option Found) → option_and_then (fitted_find f) (named_in a f.name) ≡ o → found_values fs a ≡ rest → on_both o rest (λ v more. Some ((f.name, has_value (find_type f) v) ∷ more)) ≡ Some found
        → ((more : Found) → found_values fs a ≡ Some more → All (HasFit a) fs) → All (HasFit a) (f ∷ fs)
    by None rest is others h again = absurd (cc)
    by (Some v) None is others h again = absurd (cc)
    by (Some v) (Some more) is others h again = All-cons (HasFit a) f fs (ap is_some is) (again more others)

-- ---- decision variables that are set

-- what holds at an error
pub at_error : {A E : Type 0} (P : Type 0) (answer : Result A E) → P → OnErr answer P
at_error P (Ok x) h = tt
at_error P (Err e) h = h

pub find_given : (f : Find) (o : Option NamedValue) (g : NamedValue) (w : ValueTree) → o ≡ Some g → fitted (scalar_of g.ty) f.scalar (has_number f.values) f.indices g.value ≡ Some w
    → option_and_then (fitted_find f) o ≡ Some w
unfolding fitted_find
find_given f o g w e h = ap (option_and_then (fitted_find f)) e ∙ h

pub find_set : (f : Find) (a : Assigned) (ty : ValueType) (w : ValueTree) (name : Name) (before after : Env) → ty ≡ find_type f → name ≡ f.name
    → option_and_then (fitted_find f) (named_in a f.name) ≡ Some w → after ≡ put name (has_value ty w) before → SetsFind f a before after
find_set f a ty w name before after t n h e = record {
  value = w;
  fits = h;
  known = e ∙ ap (λ x. put x (has_value ty w) before) n ∙ ap (λ x. put f.name (has_value x w) before) t;
}

pub under_none : (a : Assigned) (before after : Env) → after ≡ before → IsUnder [] a before after
unfolding found_values put_all
under_none a before after e = record { found = []; values = refl; known = e }

pub under_more : (f : Find) (fs : List Find) (a : Assigned) (before now after : Env) → IsUnder fs a before now → SetsFind f a now after → IsUnder (f ∷ fs) a before after
unfolding found_values put_all
under_more f fs a before now after u s = record {
  found = (f.name, has_value (find_type f) s.value) ∷ u.found;
  values = both_some (λ v rest. Some ((f.name, has_value (find_type f) v) ∷ rest)) (option_and_then (fitted_find f) (named_in a f.name)) (found_values fs a) s.value u.found s.fits u.values;
  known = s.known ∙ ap (λ env. put f.name (has_value (find_type f) s.value) env) u.known;
}

-- ---- decision variables from the last to the first

-- one decision variable more
pub under_step : (finds : List KeptFind) (k : ℕ) (f : KeptFind) (es : List Entry) (a : Assigned) (before now after : Env) → f ≡ get_or finds (k - 1) f → 0 < k → k ≤ length finds
    → map named_value es ≡ a → IsUnder (map find_of (drop k finds)) a before now → SetsFind (find_of f) (map named_value es) now after → IsUnder (map find_of (drop (k - 1) finds)) a before after
under_step finds k f es a before now after is low high e u s =
    let last : k - 1 < length finds = omega (arith, low, high) in
    let next : k - 1 + 1 ≡ k = omega (arith, low) in
    let cut : drop (k - 1) finds ≡ f ∷ drop k finds = drop_more finds (k - 1) f last ∙ ap (λ n. get_or finds (k - 1) f ∷ drop n finds) next ∙ ap (λ x. x ∷ drop k finds) (sym is) in
    let set : SetsFind (find_of f) a now after = subst (λ x. SetsFind (find_of f) x now after) e s in
    subst (λ xs. IsUnder (map find_of xs) a before after) (sym cut) (under_more (find_of f) (map find_of (drop k finds)) a before now after u set)

-- what holds of each decision variable holds of one that was read
holds_from : (P : Find → Type 0) (finds : List KeptFind) (k : ℕ) (d : KeptFind) → k < length finds → All P (map find_of finds) → P (find_of (get_or finds k d))
holds_from P [] k d low h = absurd (omega (arith, low))
holds_from P (f ∷ fs) zero d low h = All-head P (find_of f) (map find_of fs) h
holds_from P (f ∷ fs) (suc k) d low h = holds_from P fs k d (omega (arith, low)) (All-tail P (find_of f) (map find_of fs) h)

pub holds_at : (P : Find → Type 0) (finds : List KeptFind) (k : ℕ) (f : KeptFind) → f ≡ get_or finds k f → k < length finds → All P (map find_of finds) → P (find_of f)
holds_at P finds k f is low h = subst (λ x. P (find_of x)) (sym is) (holds_from P finds k f low h)

-- all decision variables
pub under_end : (finds : List KeptFind) (k : ℕ) (a : Assigned) (before after : Env) → k ≡ 0 → IsUnder (map find_of (drop k finds)) a before after → IsUnder (map find_of finds) a before after
under_end finds k a before after e u = subst (λ n. IsUnder (map find_of (drop n finds)) a before after) e u
