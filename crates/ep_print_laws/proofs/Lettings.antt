-- The lettings of printed values: no fault stands in them, and what binding them gives.
use Rattle.std.proofs.Common.{◌≡◌, ℕ, ◌+◌, Bool, true, false, ◌||◌, List, [], ◌∷◌, ◌++◌, map, ℤ, Some, None, refl, sym, ap, ap₂, subst, ◌∙◌, arith, bytes_eq}
use Rattle.std.specs.Prelude.{Ok, Err, Result, nat_lt, filter, flat_map, if◌then◌else◌, is_none, unwrap_or}
use Rattle.std.specs.List.{AllByRecursion, IsDistinct, list_any}
use Rattle.std.proofs.lemmas.Bool.{false≢true, cond-false, cond-true}
use Rattle.std.proofs.lemmas.Slice.Eq.{bytes_eq-Decides}
use Rattle.ep_base.proofs.Small.{no_some, some_is}
use Rattle.ep_base.specs.Reads.{is_too_far}
use Rattle.ep_base.specs.declared.names.Name.{Name}
use Rattle.ep_base.specs.declared.operators.Limit.{Limit}
use Rattle.ep_base.specs.declared.places.Place.{Place}
use Rattle.ep_tree.specs.Binding.{Refusal, TextName, and_next, bind_letting, bind_params, letting_bound, limits_met, met_stated, or_refuse, over_limit, undefined_at, unless_any}
use Rattle.ep_tree.specs.Environments.{Env, context_of, has_value}
use Rattle.ep_tree.specs.Evaluation.{evaluate, type_in}
use Rattle.ep_tree.specs.Faults.{declaration_faults, faults, faults_after, after_statement, letting_meaning, lettings_of, redeclared, stated_faults, statement_faults, unless}
use Rattle.ep_tree.specs.Limits.{MOST_SIZE, limits_of_values, numbers_at}
use Rattle.ep_tree.specs.Measures.{met, size_of}
use Rattle.ep_tree.specs.Names.{nothing_known, put}
use Rattle.ep_tree.specs.Placeless.{placeless, placeless_statement}
use Rattle.ep_tree.specs.SolutionTexts.{letting_names}
use Rattle.ep_tree.specs.Solutions.{Assigned, Found, NamedValue, named_in}
use Rattle.ep_tree.specs.StatementSpelling.{is_letting}
use Rattle.ep_tree.specs.Statements.{StatementTree, TextTree, letting}
use Rattle.ep_tree.specs.Trees.{ExprTree}
use Rattle.ep_tree.specs.Types.{Context, Meaning, judge, scalar_of, type_from, typed}
use Rattle.ep_tree.specs.declared.values.Mode.{Mode}
use Rattle.ep_tree.specs.declared.values.ValueType.{ValueType}
use Rattle.ep_print_laws.specs.Answered.{letting_of, value_expr}
use Rattle.ep_print_laws.specs.GivenBack.{CanBeRead, is_large}
use Rattle.ep_print_laws.proofs.Placed.{as_letting}
use Rattle.ep_print_laws.proofs.Shapes.{HasShape, IsOwn, shaped_own, shaped_type, value_stands}
use Rattle.ep_print_laws.proofs.Standing.{AreNear}

-- ---- one letting

-- a letting of a value: its expression has the value, a type of the value's scalar, no fault, no number past the limit of
-- reach, and as many nodes as the value's own expression
pub record LettingFor (g : NamedValue) (s : StatementTree) : Type 0 where
  pub place : Place
  pub at : Place
  pub e : ExprTree
  pub ty : ValueType
  pub is : s ≡ letting place g.name at None e
  pub value : (mode : Mode) (env : Env) → evaluate mode env e ≡ Some g.value
  pub judged : (context : Context) → judge context e ≡ typed ty
  pub faultless : (context : Context) → faults context false e ≡ []
  pub near : (mode : Mode) (env : Env) → AreNear mode (met mode env e)
  pub large : (mode : Mode) (env : Env) → nat_lt MOST_SIZE (size_of (met mode env e)) ≡ is_large mode g
  pub own : IsOwn (scalar_of g.ty) ty

-- a value that can be read again, and fits some index domains
pub record CanStand (g : NamedValue) : Type 0 where
  pub can : CanBeRead g
  pub indices : List (List ℤ)
  pub shape : HasShape indices g.value

pub letting_stands : (g : NamedValue) (s : StatementTree) → CanStand g → placeless_statement s ≡ placeless_statement (letting_of g) → LettingFor g s
unfolding placeless_statement letting_of is_large
letting_stands g s can h =
    let x = value_expr (scalar_of g.ty) g.value in
    let a = as_letting s g.name (placeless x) h in
    let stands = value_stands (scalar_of g.ty) can.indices g.value a.inner can.can.in_order can.shape a.same in
    let own = value_stands (scalar_of g.ty) can.indices g.value x can.can.in_order can.shape refl in
    record {
      place = a.place;
      at = a.at;
      e = a.inner;
      ty = shaped_type (scalar_of g.ty) can.indices;
      is = a.is;
      value = stands.value;
      judged = stands.judged;
      faultless = λ context. stands.faultless context false;
      near = stands.within can.can.near;
      large = λ mode env. ap (nat_lt MOST_SIZE) (stands.counted mode env ∙ sym (own.counted mode nothing_known));
      own = shaped_own (scalar_of g.ty) can.indices;
    }

-- ---- lettings

-- each value has its letting, in their order
abbrev pub LettingsFor : Assigned → TextTree → Type 0
LettingsFor [] [] = Unit {0}
LettingsFor [] (s ∷ text) = ⊥
LettingsFor (g ∷ a) [] = ⊥
LettingsFor (g ∷ a) (s ∷ text) = LettingFor g s × LettingsFor a text

-- each of some values can stand
abbrev pub AllStand : Assigned → Type 0
AllStand [] = Unit {0}
AllStand (g ∷ a) = CanStand g × AllStand a

first_statement : TextTree → StatementTree → StatementTree
first_statement [] d = d
first_statement (s ∷ text) d = s

later_statements : TextTree → TextTree
later_statements [] = []
later_statements (s ∷ text) = text

pub lettings_stand : (a : Assigned) (text : TextTree) → AllStand a → map placeless_statement text ≡ map placeless_statement (map letting_of a) → LettingsFor a text
unfolding first_statement later_statements
lettings_stand [] [] can h = tt
lettings_stand [] (s ∷ text) can h = absurd cc
lettings_stand (g ∷ a) [] can h = absurd cc
lettings_stand (g ∷ a) (s ∷ text) can h =
    (letting_stands g s can.0 (ap (λ x. first_statement x s) h), lettings_stand a text can.1 (ap later_statements h))

-- the names that a text lets
pub names_let : (a : Assigned) (text : TextTree) → LettingsFor a text → letting_names text ≡ map (λ g. g.name) a
unfolding letting_names
names_let [] [] l = refl
names_let [] (s ∷ text) l = absurd l
names_let (g ∷ a) [] l = absurd l
names_let (g ∷ a) (s ∷ text) l = ap (λ x. letting_names (x ∷ text)) l.0.is ∙ ap (λ ns. g.name ∷ ns) (names_let a text l.1)

-- all statements are lettings
pub all_are_lettings : (a : Assigned) (text : TextTree) → LettingsFor a text → lettings_of text ≡ text
unfolding is_letting
all_are_lettings [] [] l = refl
all_are_lettings [] (s ∷ text) l = absurd l
all_are_lettings (g ∷ a) [] l = absurd l
all_are_lettings (g ∷ a) (s ∷ text) l =
    ap (λ x. filter is_letting (x ∷ text)) l.0.is
    ∙ ap (λ ss. letting l.0.place g.name l.0.at None l.0.e ∷ ss) (all_are_lettings a text l.1)
    ∙ ap (λ x. x ∷ text) (sym l.0.is)

-- ---- faults

pub same_name : (x y : Name) → bytes_eq x y ≡ bytes_eq y x
same_name x y = go (bytes_eq x y) (bytes_eq y x) refl refl
  where
    go : (a b : Bool) → bytes_eq x y ≡ a → bytes_eq y x ≡ b → a ≡ b
    go true true h k = refl
    go false false h k = refl
    go true false h k = sym ((bytes_eq-Decides y x).1 (sym ((bytes_eq-Decides x y).0 h))) ∙ k
    go false true h k = sym h ∙ (bytes_eq-Decides x y).1 (sym ((bytes_eq-Decides y x).0 k))

-- none of some names stands for anything
abbrev AreUnknown : Context → List Name → Type 0
AreUnknown context names = AllByRecursion (λ name. context name ≡ None) names

unknown_behind : (context : Context) (name : Name) (m : Meaning) (names : List Name) → AllByRecursion (λ other. bytes_eq name other ≡ false) names → AreUnknown context names → AreUnknown (put name m context) names
unknown_behind context name m [] apart none = tt
unknown_behind context name m (other ∷ names) apart none =
    (cond-false (bytes_eq other name) _ _ (same_name other name ∙ apart.0) ∙ none.0, unknown_behind context name m names apart.1 none.1)

letting_faultless : (g : NamedValue) (s : StatementTree) (context : Context) → LettingFor g s → context g.name ≡ None → statement_faults context s ≡ []
unfolding statement_faults stated_faults declaration_faults unless
letting_faultless g s context l none =
    ap (statement_faults context) l.is
    ∙ ap₂ (λ xs o. xs ++ (unless (is_none o) (redeclared l.at g.name) ++ [])) (l.faultless context) none

pub lettings_faultless : (a : Assigned) (text : TextTree) (context : Context) → LettingsFor a text → IsDistinct bytes_eq (map (λ g. g.name) a) → AreUnknown context (map (λ g. g.name) a) → faults_after context text ≡ []
unfolding faults_after after_statement IsDistinct
lettings_faultless [] [] context l apart none = refl
lettings_faultless [] (s ∷ text) context l apart none = absurd l
lettings_faultless (g ∷ a) [] context l apart none = absurd l
lettings_faultless (g ∷ a) (s ∷ text) context l apart none =
    let m = letting_meaning context None l.0.e in
    ap₂ (λ xs c. xs ++ faults_after c text) (letting_faultless g s context l.0 none.0) (ap (after_statement context) l.0.is)
    ∙ lettings_faultless a text (put g.name m context) l.1 apart.1 (unknown_behind context g.name m (map (λ g. g.name) a) apart.0 none.1)

-- ---- binding

-- what the names of lettings stand for
pub bounds_of : (a : Assigned) (text : TextTree) → LettingsFor a text → Found
bounds_of [] [] l = []
bounds_of [] (s ∷ text) l = []
bounds_of (g ∷ a) [] l = []
bounds_of (g ∷ a) (s ∷ text) l = (g.name, has_value l.0.ty g.value) ∷ bounds_of a text l.1

-- names put one after another, the first of the list first
pub put_each : Found → Env → Env
put_each [] env = env
put_each (entry ∷ entries) env = put_each entries (put entry.0 entry.1 env)

-- the refusal of a letting that is too large
abbrev pub too_large : {A : Type 0} → Result A (List Refusal)
too_large = Err (over_limit Limit.Size ∷ [])

limits_are : (large far : Bool) → far ≡ false → map over_limit ((if large then Limit.Size ∷ [] else []) ++ (if far then Limit.Reach ∷ [] else [])) ≡ (if large then over_limit Limit.Size ∷ [] else [])
limits_are true true h = absurd (false≢true (sym h))
limits_are false true h = absurd (false≢true (sym h))
limits_are true false h = refl
limits_are false false h = refl

nothing_before : (n : ℕ) → 0 + n ≡ n
nothing_before n = omega arith

letting_limits : (mode : Mode) (env : Env) (g : NamedValue) (s : StatementTree) → (l : LettingFor g s) → limits_met mode (met mode env l.e) ≡ (if is_large mode g then over_limit Limit.Size ∷ [] else [])
unfolding limits_met limits_of_values
letting_limits mode env g s l =
    let ms = met mode env l.e in
    let far = list_any is_too_far (flat_map (numbers_at mode) ms) in
    ap (λ b. map over_limit ((if b then Limit.Size ∷ [] else []) ++ (if far then Limit.Reach ∷ [] else []))) (ap (nat_lt MOST_SIZE) (nothing_before (size_of ms)) ∙ l.large mode env)
    ∙ limits_are (is_large mode g) far (l.near mode env)

unless_large : {A : Type 0} (large : Bool) (x : A) → unless_any (if large then over_limit Limit.Size ∷ [] else []) (Ok x) ≡ (if large then too_large else Ok x)
unfolding unless_any
unless_large true x = refl
unless_large false x = refl

pub letting_binds : (mode : Mode) (of : TextName) (env : Env) (g : NamedValue) (s : StatementTree) → (l : LettingFor g s)
    → bind_letting mode of env s ≡ (if is_large mode g then too_large else Ok (put g.name (has_value l.ty g.value) env))
unfolding bind_letting met_stated letting_bound or_refuse and_next type_in type_from
letting_binds mode of env g s l =
    let next : Env = put g.name (has_value l.ty g.value) env in
    ap (bind_letting mode of env) l.is
    ∙ ap₂ (λ limits v. unless_any limits (and_next (or_refuse (undefined_at of l.place) v) (λ v. and_next (letting_bound mode env (undefined_at of l.place) g.name None l.e v) (λ b. Ok (put g.name b env)))))
    (letting_limits mode env g s l) (l.value mode env)
    ∙ ap (λ j. unless_any (if is_large mode g then over_limit Limit.Size ∷ [] else []) (Ok (put g.name (has_value (unwrap_or (type_from j) ValueType.Int) g.value) env))) (l.judged (context_of env))
    ∙ unless_large (is_large mode g) next

next_large : {A : Type 0} (large others : Bool) (env : Env) (next : Env → Result A (List Refusal)) (x : A) → next env ≡ (if others then too_large else Ok x)
    → and_next (if large then too_large else Ok env) next ≡ (if large || others then too_large else Ok x)
unfolding and_next
next_large true others env next x h = refl
next_large false others env next x h = h

pub lettings_bind : (mode : Mode) (of : TextName) (a : Assigned) (text : TextTree) (env : Env) → (l : LettingsFor a text)
    → bind_params mode of env text ≡ (if list_any (is_large mode) a then too_large else Ok (put_each (bounds_of a text l) env))
unfolding bind_params bounds_of put_each
lettings_bind mode of [] [] env l = refl
lettings_bind mode of [] (s ∷ text) env l = absurd l
lettings_bind mode of (g ∷ a) [] env l = absurd l
lettings_bind mode of (g ∷ a) (s ∷ text) env l =
    let one : Env = put g.name (has_value l.0.ty g.value) env in
    ap (λ r. and_next r (λ next. bind_params mode of next text)) (letting_binds mode of env g s l.0)
    ∙ next_large (is_large mode g) (list_any (is_large mode) a) one (λ next. bind_params mode of next text) (put_each (bounds_of a text l.1) one) (lettings_bind mode of a text one l.1)

-- ---- what a name stands for behind the lettings

-- a name stands for a value, under a type of its scalar
pub record IsKnownAs (known : Env) (name : Name) (g : NamedValue) : Type 0 where
  pub ty : ValueType
  pub is : known name ≡ Some (has_value ty g.value)
  pub own : IsOwn (scalar_of g.ty) ty

names_stay : (a : Assigned) (text : TextTree) (l : LettingsFor a text) (env : Env) (name : Name) → AllByRecursion (λ other. bytes_eq name other ≡ false) (map (λ g. g.name) a) → put_each (bounds_of a text l) env name ≡ env name
unfolding bounds_of put_each
names_stay [] [] l env name apart = refl
names_stay [] (s ∷ text) l env name apart = absurd l
names_stay (g ∷ a) [] l env name apart = absurd l
names_stay (g ∷ a) (s ∷ text) l env name apart =
    names_stay a text l.1 (put g.name (has_value l.0.ty g.value) env) name apart.1
    ∙ cond-false (bytes_eq name g.name) _ _ apart.0

-- a name behind a first letting
known_next : (x : NamedValue) (ty : ValueType) (a : Assigned) (text : TextTree) (l : LettingsFor a text) (env : Env) (name : Name) (g : NamedValue) (here : Bool) → IsOwn (scalar_of x.ty) ty
    → AllByRecursion (λ other. bytes_eq x.name other ≡ false) (map (λ g. g.name) a) → bytes_eq x.name name ≡ here → (if here then Some x else named_in a name) ≡ Some g
    → (named_in a name ≡ Some g → IsKnownAs (put_each (bounds_of a text l) (put x.name (has_value ty x.value) env)) name g) → IsKnownAs (put_each (bounds_of a text l) (put x.name (has_value ty x.value) env)) name g
known_next x ty a text l env name g true own apart h e later =
    let same : x ≡ g = some_is e in
    let named : x.name ≡ name = (bytes_eq-Decides x.name name).0 h in
    record {
      ty = ty;
      is =
          names_stay a text l (put x.name (has_value ty x.value) env) name (subst (λ n. AllByRecursion (λ other. bytes_eq n other ≡ false) (map (λ g. g.name) a)) named apart)
          ∙ cond-true (bytes_eq name x.name) _ _ (same_name name x.name ∙ h)
          ∙ ap (λ (y : NamedValue). Some (has_value ty y.value)) same;
      own = subst (λ (y : NamedValue). IsOwn (scalar_of y.ty) ty) same own;
    }
known_next x ty a text l env name g false own apart h e later = later e

pub lettings_known : (a : Assigned) (text : TextTree) (l : LettingsFor a text) (env : Env) → IsDistinct bytes_eq (map (λ g. g.name) a) → (name : Name) (g : NamedValue) → named_in a name ≡ Some g → IsKnownAs (put_each (bounds_of a text l) env) name g
unfolding bounds_of put_each named_in IsDistinct
lettings_known [] [] l env apart name g e = no_some e
lettings_known [] (s ∷ text) l env apart name g e = absurd l
lettings_known (x ∷ a) [] l env apart name g e = absurd l
lettings_known (x ∷ a) (s ∷ text) l env apart name g e =
    known_next x l.0.ty a text l.1 env name g (bytes_eq x.name name) l.0.own apart.0 refl e
    (λ k. lettings_known a text l.1 (put x.name (has_value l.0.ty x.value) env) apart.1 name g k)
