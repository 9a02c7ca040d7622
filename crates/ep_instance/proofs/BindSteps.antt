-- Steps of binding groups and lettings.
use Rattle.std.proofs.Common.{◌≡◌, ◌∙◌, ℤ, Bool, true, false, List, [], ◌∷◌, ◌++◌, Option, Some, None, option_map, refl, sym, ap, subst, if◌then◌else◌}
use Rattle.std.specs.Prelude.{Result, Ok, Err, IsTrue, is_some, unwrap_or, option_and_then}
use Rattle.std.specs.List.{list_all}
use Rattle.ep_base.specs.declared.names.Name.{Name}
use Rattle.ep_base.specs.declared.places.Place.{Place}
use Rattle.ep_eval.specs.Bounds.{only_value}
use Rattle.ep_tree_laws.proofs.Bindings.{fit_typed}
use Rattle.ep_tree_laws.proofs.Deciding.{left_none, right_none}
use Rattle.ep_tree_laws.proofs.Shapes.{shape_lists, shape_typed}
use Rattle.ep_tree_laws.proofs.Typing.{context_typed, domain_typed, expression_typed}
use Rattle.ep_tree.proofs.TypedEvaluation.{context_put, value_typed}
use Rattle.ep_tree.specs.Binding.{Refusal, Shape, and_next, bind_givens, bind_names, first_missing, fitted_into, given_bound, limits_met, missing_parameter, model_text, or_refuse, outside_domain, parameter, shape_bound, shape_of, undefined_at, unless_any}
use Rattle.ep_tree.specs.Environments.{Bound, Env, context_of, has_cells, has_domain, has_value, meaning_in, shape_type}
use Rattle.ep_tree.specs.Evaluation.{evaluate, type_in}
use Rattle.ep_tree.specs.Faults.{after_group, declaration_faults, declare, domain_faults, faults, group_faults, group_meaning}
use Rattle.ep_tree.specs.Limits.{limits_of_values}
use Rattle.ep_tree.specs.Measures.{met, met_domain}
use Rattle.ep_tree.specs.Names.{put}
use Rattle.ep_tree.specs.Statements.{Group}
use Rattle.ep_tree.specs.Trees.{DomainTree, ExprTree}
use Rattle.ep_tree.specs.TypedValues.{IsOf, IsTypedBound, IsTypedEnv, is_number_of}
use Rattle.ep_tree.specs.Types.{Context, Meaning, a_value, judge_domain, type_from, typed}
use Rattle.ep_tree.specs.Values.{ValueTree}
use Rattle.ep_tree.specs.Views.{domain_tree, group_of}
use Rattle.ep_tree.specs.declared.statements.Declared.{Declared}
use Rattle.ep_tree.specs.declared.values.Mode.{Mode}
use Rattle.ep_tree.specs.declared.values.Scalar.{Scalar}
use Rattle.ep_tree.specs.declared.values.ValueType.{ValueType}
use Rattle.ep_instance_parts.proofs.Answering.{next_then, no_limit}
use Rattle.ep_instance_parts.proofs.ShapeSteps.{given_is}
use Rattle.ep_instance_parts.specs.Reading.{FitsAreTyped}
use Rattle.ep_instance_parts.specs.Steps.{fitted_said, shape_said}
use Rattle.ep_instance.specs.Steps.{group_said, missing_name, name_said, nothing_refused, named_said, plain_said, stated_said}

-- ---- shapes

-- a shape that is said is that of the domain
pub unless_ok : {A : Type 0} (rs : List Refusal) (answer : Result A (List Refusal)) (x : A) → unless_any rs answer ≡ Ok x → answer ≡ Ok x
unfolding unless_any
unless_ok [] answer x e = e
unless_ok (r ∷ rs) answer x e = absurd cc

pub said_shape : (mode : Mode) (r : Refusal) (env : Env) (d : DomainTree) (shape : Shape) → shape_said mode r env d ≡ Ok shape → shape_of mode env d ≡ Some shape
said_shape mode r env d shape e = given_is r (shape_of mode env d) shape (unless_ok (limits_met mode (met_domain mode env d)) _ shape e)

-- what is fitted into the domain of a faultless group is of its type
pub domain_has_type : (env : Env) (o : Bool) (d : DomainTree) → domain_faults (context_of env) o d ≡ [] → (t : ValueType) × (judge_domain (context_of env) d ≡ typed t)
domain_has_type env o d h = domain_typed (context_of env) (context_typed env) o d h

pub fits_typed : (mode : Mode) (env : Env) (o : Bool) (d : DomainTree) (shape : Shape) → IsTypedEnv env → domain_faults (context_of env) o d ≡ [] → shape_of mode env d ≡ Some shape → FitsAreTyped shape
unfolding IsTypedBound
fits_typed mode env o d shape k h e own v fit q =
    let t : _ = domain_has_type env o d h in
    fit_typed mode env k d t.0 t.1 shape e own v fit q

-- ---- parameters

pub parameter_there : (b : Option Bound) (t : ValueType) (v : ValueTree) → Some (has_value t v) ≡ only_value b → parameter b ≡ Some (t, v)
unfolding parameter only_value
parameter_there None t v h = absurd cc
parameter_there (Some (has_value s w)) t v h = sym (ap parameter h)
parameter_there (Some (has_cells s is vs)) t v h = absurd cc
parameter_there (Some (has_domain s is vs)) t v h = absurd cc

pub parameter_missing : (b : Option Bound) → None ≡ only_value b → parameter b ≡ None
unfolding parameter only_value
parameter_missing None h = refl
parameter_missing (Some (has_value t v)) h = absurd cc
parameter_missing (Some (has_cells s is vs)) h = refl
parameter_missing (Some (has_domain s is vs)) h = refl

pub not_missing : (params : Env) (name : Name) (x : ValueType × ValueTree) → parameter (params name) ≡ Some x → nothing_refused (missing_name params name) ≡ Ok tt
unfolding unless_any
not_missing params name x e = ap (λ o. nothing_refused (if is_some o then [] else missing_parameter name ∷ [])) e

pub is_missing : (params : Env) (name : Name) → parameter (params name) ≡ None → nothing_refused (missing_name params name) ≡ Err (missing_parameter name ∷ [])
unfolding unless_any
is_missing params name e = ap (λ o. nothing_refused (if is_some o then [] else missing_parameter name ∷ [])) e

pub next_missing : (params : Env) (x : Name × Place) (xs : List (Name × Place))
    → nothing_refused (first_missing params (x ∷ xs)) ≡ and_next (nothing_refused (missing_name params x.0)) (λ _. nothing_refused (first_missing params xs))
unfolding first_missing unless_any and_next
next_missing params x xs = go (is_some (parameter (params x.0)))
  where
    go : (b : Bool) → nothing_refused (if b then first_missing params xs else missing_parameter x.0 ∷ [])
        ≡ and_next (nothing_refused (if b then [] else missing_parameter x.0 ∷ [])) (λ _. nothing_refused (first_missing params xs))
    go true = refl
    go false = refl

pub none_missing : (params : Env) → nothing_refused (first_missing params []) ≡ Ok tt
unfolding first_missing unless_any
none_missing params = refl

pub name_is : (params : Env) (shape : Shape) (name : Name) (env : Env) (t : ValueType) (v : ValueTree) → parameter (params name) ≡ Some (t, v)
    → name_said params shape name env ≡ fitted_said shape name t v env
unfolding given_bound and_next
name_is params shape name env t v e =
    ap (λ o. and_next (given_bound shape name o) (λ b. Ok (put name b env))) e
    ∙ next_then (or_refuse (outside_domain name) (fitted_into shape t v)) (λ fit. Ok (has_value (shape_type shape.scalar shape.indices) fit)) (λ b. Ok (put name b env))
    ∙ after (or_refuse (outside_domain name) (fitted_into shape t v))
  where
    after : (r : Result ValueTree (List Refusal))
        → and_next r (λ fit. and_next (Ok (has_value (shape_type shape.scalar shape.indices) fit)) (λ b. Ok (put name b env)))
        ≡ and_next r (λ fit. Ok (put name (has_value (shape_type shape.scalar shape.indices) fit) env))
    after (Ok x) = refl
    after (Err rs) = refl

pub name_missing : (params : Env) (shape : Shape) (name : Name) (env : Env) → parameter (params name) ≡ None → name_said params shape name env ≡ Err (missing_parameter name ∷ [])
unfolding given_bound and_next
name_missing params shape name env e = ap (λ o. and_next (given_bound shape name o) (λ b. Ok (put name b env))) e

pub next_name : (params : Env) (shape : Shape) (x : Name × Place) (xs : List (Name × Place)) (env : Env)
    → bind_names params shape (x ∷ xs) env ≡ and_next (name_said params shape x.0 env) (λ next. bind_names params shape xs next)
unfolding bind_names and_next
next_name params shape x xs env = go (given_bound shape x.0 (parameter (params x.0)))
  where
    go : (r : Result Bound (List Refusal)) → and_next r (λ b. bind_names params shape xs (put x.0 b env))
        ≡ and_next (and_next r (λ b. Ok (put x.0 b env))) (λ next. bind_names params shape xs next)
    go (Ok b) = refl
    go (Err rs) = refl

pub no_name : (params : Env) (shape : Shape) (env : Env) → bind_names params shape [] env ≡ Ok env
unfolding bind_names
no_name params shape env = refl

-- ---- groups

pub next_group : (mode : Mode) (p : Place) (params : Env) (g : Group) (gs : List Group) (env : Env)
    → bind_givens mode p params (g ∷ gs) env ≡ and_next (group_said mode p params g env) (λ next. bind_givens mode p params gs next)
unfolding bind_givens and_next unless_any
next_group mode p params g gs env = go (limits_met mode (met_domain mode env g.domain)) (or_refuse (undefined_at model_text p) (shape_of mode env g.domain)) (first_missing params g.names)
  where
    go : (ls : List Refusal) (r : Result Shape (List Refusal)) (ms : List Refusal)
        → unless_any ls (and_next r (λ shape. unless_any ms (and_next (bind_names params shape g.names env) (λ next. bind_givens mode p params gs next))))
        ≡ and_next (and_next (unless_any ls r) (λ shape. and_next (nothing_refused ms) (λ _. bind_names params shape g.names env))) (λ next. bind_givens mode p params gs next)
    go (l ∷ ls) r ms = refl
    go [] (Err rs) ms = refl
    go [] (Ok shape) (m ∷ ms) = refl
    go [] (Ok shape) [] = refl

pub no_group : (mode : Mode) (p : Place) (params env : Env) → bind_givens mode p params [] env ≡ Ok env
unfolding bind_givens
no_group mode p params env = refl

-- ---- what groups declare

ok_is : {A B : Type 0} {y z : A} → ◌≡◌ {A = Result A B} (Ok y) (Ok z) → y ≡ z
ok_is q = cc

-- what stands for a name that was bound
pub named_put : (params : Env) (shape : Shape) (x : Name) (env next : Env) → name_said params shape x env ≡ Ok next
    → (t : ValueType) × (v : ValueTree) × (fit : ValueTree) × (fitted_into shape t v ≡ Some fit) × (put x (has_value (shape_type shape.scalar shape.indices) fit) env ≡ next)
unfolding and_next or_refuse given_bound
named_put params shape x env next h = go (parameter (params x)) h
  where
    fits : (t : ValueType) (v : ValueTree) (o : Option ValueTree) → fitted_into shape t v ≡ o
        → and_next (and_next (or_refuse (outside_domain x) o) (λ fit. Ok (has_value (shape_type shape.scalar shape.indices) fit))) (λ b. Ok (put x b env)) ≡ Ok next
        → (t : ValueType) × (v : ValueTree) × (fit : ValueTree) × (fitted_into shape t v ≡ Some fit) × (put x (has_value (shape_type shape.scalar shape.indices) fit) env ≡ next)
    fits t v None q e = absurd cc
    fits t v (Some fit) q e = (t, v, fit, q, ok_is e)

    go : (o : Option (ValueType × ValueTree)) → and_next (given_bound shape x o) (λ b. Ok (put x b env)) ≡ Ok next
        → (t : ValueType) × (v : ValueTree) × (fit : ValueTree) × (fitted_into shape t v ≡ Some fit) × (put x (has_value (shape_type shape.scalar shape.indices) fit) env ≡ next)
    go None e = absurd cc
    go (Some entry) e = fits entry.0 entry.1 (fitted_into shape entry.0 entry.1) refl e

-- a step that gave something, and the one behind it
pub both_ok : {A B : Type 0} (one : Result A (List Refusal)) (next : A → Result B (List Refusal)) (y : B) → and_next one next ≡ Ok y → (x : A) × (one ≡ Ok x) × (next x ≡ Ok y)
unfolding and_next
both_ok (Ok x) next y e = (x, refl, e)
both_ok (Err rs) next y e = absurd cc

abbrev pub meaning_of_shape : Shape → Meaning
meaning_of_shape shape = a_value (Some (shape_type shape.scalar shape.indices)) false

pub names_context : (params : Env) (shape : Shape) (xs : List (Name × Place)) (env next : Env) → bind_names params shape xs env ≡ Ok next
    → context_of next ≡ declare (meaning_of_shape shape) (context_of env) xs
unfolding bind_names declare meaning_in
names_context params shape [] env next h = ap context_of (sym (ok_is h))
names_context params shape (x ∷ xs) env next h =
    let b : _ = both_ok (name_said params shape x.0 env) (λ e. bind_names params shape xs e) next (sym (next_name params shape x xs env) ∙ h) in
    let p : _ = named_put params shape x.0 env b.0 b.1 in
    names_context params shape xs b.0 next b.2
    ∙ ap (λ c. declare (meaning_of_shape shape) c xs)
    (ap context_of (sym p.4) ∙ context_put env x.0 (has_value (shape_type shape.scalar shape.indices) p.2))

-- the meaning of a group whose domain is bound
pub group_is : (mode : Mode) (env : Env) (decisions o : Bool) (g : Group) (shape : Shape) → domain_faults (context_of env) o g.domain ≡ [] → shape_of mode env g.domain ≡ Some shape
    → a_value (Some (shape_type shape.scalar shape.indices)) decisions ≡ group_meaning (context_of env) decisions g
unfolding group_meaning type_from
group_is mode env decisions o g shape h e =
    let t : _ = domain_has_type env o g.domain h in
    ap (λ u. a_value (Some u) decisions) (shape_typed mode env g.domain t.0 t.1 shape e) ∙ sym (ap (λ j. a_value (type_from j) decisions) t.1)

-- the parts of a group that is bound
pub group_parts : (mode : Mode) (p : Place) (params : Env) (g : Group) (env next : Env) → group_said mode p params g env ≡ Ok next
    → (shape : Shape) × (shape_of mode env g.domain ≡ Some shape) × (bind_names params shape g.names env ≡ Ok next)
group_parts mode p params g env next h =
    let a : _ = both_ok (shape_said mode (undefined_at model_text p) env g.domain) (λ shape. and_next (nothing_refused (first_missing params g.names)) (λ _. bind_names params shape g.names env)) next h in
    let b : _ = both_ok (nothing_refused (first_missing params g.names)) (λ _. bind_names params a.0 g.names env) next a.2 in
    (a.0, said_shape mode (undefined_at model_text p) env g.domain a.0 a.1, b.2)

pub group_context : (mode : Mode) (p : Place) (params : Env) (g : Group) (env next : Env) → domain_faults (context_of env) true g.domain ≡ [] → group_said mode p params g env ≡ Ok next
    → context_of next ≡ after_group (context_of env) false g
unfolding after_group
group_context mode p params g env next h e =
    let q : _ = group_parts mode p params g env next e in
    names_context params q.0 g.names env next q.2
    ∙ ap (λ m. declare m (context_of env) g.names) (group_is mode env false true g q.0 h q.1)

-- the faults of a group and of those behind it
pub first_faultless : (c : Context) (d o : Bool) (g : Group) (gs : List Group) → group_faults c d o (g ∷ gs) ≡ [] → domain_faults c o g.domain ≡ []
unfolding group_faults
first_faultless c d o g gs h =
    let own : _ = declaration_faults (group_meaning c d g) c g.names in
    left_none (domain_faults c o g.domain) own (left_none (domain_faults c o g.domain ++ own) (group_faults (after_group c d g) d o gs) h)

pub names_faultless : (c : Context) (d o : Bool) (g : Group) (gs : List Group) → group_faults c d o (g ∷ gs) ≡ [] → declaration_faults (group_meaning c d g) c g.names ≡ []
unfolding group_faults
names_faultless c d o g gs h =
    let own : _ = declaration_faults (group_meaning c d g) c g.names in
    right_none (domain_faults c o g.domain) own (left_none (domain_faults c o g.domain ++ own) (group_faults (after_group c d g) d o gs) h)

pub others_faultless : (c : Context) (d o : Bool) (g : Group) (gs : List Group) → group_faults c d o (g ∷ gs) ≡ [] → group_faults (after_group c d g) d o gs ≡ []
unfolding group_faults
others_faultless c d o g gs h =
    right_none (domain_faults c o g.domain ++ declaration_faults (group_meaning c d g) c g.names) (group_faults (after_group c d g) d o gs) h

-- ---- lettings

pub value_is_typed : (mode : Mode) (env : Env) (e : ExprTree) (v : ValueTree) → IsTypedEnv env → faults (context_of env) false e ≡ [] → evaluate mode env e ≡ Some v → IsOf (type_in env e) v
unfolding type_in type_from
value_is_typed mode env e v k h q =
    let t : _ = expression_typed (context_of env) (context_typed env) false e h in
    subst (λ u. IsOf u v) (sym (ap (λ j. unwrap_or (type_from j) ValueType.Int) t.1)) (value_typed mode env k e t.0 t.1 v q)

-- a faultless group alone
pub alone_faultless : (c : Context) (d o : Bool) (g : Group) (gs : List Group) → group_faults c d o (g ∷ gs) ≡ [] → group_faults c d o (g ∷ []) ≡ []
unfolding group_faults
alone_faultless c d o g gs h =
    ap (λ xs. xs ++ [])
    (left_none (domain_faults c o g.domain ++ declaration_faults (group_meaning c d g) c g.names) (group_faults (after_group c d g) d o gs) h)

-- a group as the code has it
pub group_cut : (mode : Mode) (p : Place) (params : Env) (group : Declared) (names : List (Name × Place)) (env : Env) → names ≡ group.names.items
    → group_said mode p params (group_of group) env
    ≡ and_next (shape_said mode (undefined_at model_text p) env (domain_tree group.domain)) (λ shape.
    and_next (nothing_refused (first_missing params names)) (λ _. bind_names params shape names env))
unfolding group_of
group_cut mode p params group names env e =
    ap
    (λ xs. and_next (shape_said mode (undefined_at model_text p) env (domain_tree group.domain)) (λ shape.
    and_next (nothing_refused (first_missing params xs)) (λ _. bind_names params shape xs env))) (sym e)

pub group_domain_faultless : (env : Env) (group : Declared) → group_faults (context_of env) false true (group_of group ∷ []) ≡ [] → domain_faults (context_of env) true (domain_tree group.domain) ≡ []
unfolding group_of
group_domain_faultless env group h = first_faultless (context_of env) false true (group_of group) [] h

pub plain_undefined : (mode : Mode) (r : Refusal) (env : Env) (name : Name) (e : ExprTree) → limits_of_values mode 0 (met mode env e) ≡ [] → evaluate mode env e ≡ None
    → plain_said mode r env name e ≡ Err (r ∷ [])
unfolding and_next or_refuse
plain_undefined mode r env name e l h =
    no_limit mode (met mode env e) _ l ∙ ap (λ o. and_next (or_refuse r o) (λ v. Ok (put name (has_value (type_in env e) v) env))) h

pub plain_given : (mode : Mode) (r : Refusal) (env : Env) (name : Name) (e : ExprTree) (v : ValueTree) (t : ValueType) → limits_of_values mode 0 (met mode env e) ≡ [] → evaluate mode env e ≡ Some v
    → t ≡ type_in env e → plain_said mode r env name e ≡ Ok (put name (has_value t v) env)
unfolding and_next or_refuse
plain_given mode r env name e v t l h is =
    no_limit mode (met mode env e) _ l ∙ ap (λ o. and_next (or_refuse r o) (λ v. Ok (put name (has_value (type_in env e) v) env))) h
    ∙ ap (λ u. Ok (put name (has_value u v) env)) (sym is)

pub stated_limits : (mode : Mode) (r : Refusal) (env : Env) (name : Name) (d : DomainTree) (e : ExprTree) → limits_of_values mode 0 (met_domain mode env d ++ met mode env e) ≡ []
    → stated_said mode r env name d e
    ≡ and_next (or_refuse r (evaluate mode env e)) (λ v. and_next (or_refuse r (shape_of mode env d)) (λ shape. fitted_said shape name (type_in env e) v env))
stated_limits mode r env name d e l = no_limit mode (met_domain mode env d ++ met mode env e) _ l

pub named_limits : (mode : Mode) (r : Refusal) (env : Env) (name : Name) (d : DomainTree) → limits_of_values mode 0 (met_domain mode env d) ≡ []
    → named_said mode r env name d ≡ and_next (or_refuse r (option_and_then shape_bound (shape_of mode env d))) (λ b. Ok (put name b env))
named_limits mode r env name d l = no_limit mode (met_domain mode env d) _ l

pub stated_undefined : {A B : Type 0} (r : Refusal) (o : Option A) (next : A → Result B (List Refusal)) → o ≡ None → and_next (or_refuse r o) next ≡ Err (r ∷ [])
unfolding and_next or_refuse
stated_undefined r o next e = ap (λ x. and_next (or_refuse r x) next) e

-- a domain without a list gives a name nothing
pub unnamed : (o : Option Shape) → option_and_then (λ (s : Shape). s.values) o ≡ None → option_and_then shape_bound o ≡ None
unfolding shape_bound
unnamed None h = refl
unnamed (Some shape) h = ap (option_map (has_domain shape.scalar shape.indices)) h

pub named_by : (o : Option Shape) (shape : Shape) (s : Scalar) (is : List (List ℤ)) (vs : List ℤ) → o ≡ Some shape → s ≡ shape.scalar → is ≡ shape.indices → shape.values ≡ Some vs
    → option_and_then shape_bound o ≡ Some (has_domain s is vs)
unfolding shape_bound
named_by o shape s is vs e k i v =
    ap (option_and_then shape_bound) e ∙ ap (option_map (has_domain shape.scalar shape.indices)) v
    ∙ ap (λ x. Some (has_domain x shape.indices vs)) (sym k) ∙ ap (λ x. Some (has_domain s x vs)) (sym i)

pub numbers_typed : (mode : Mode) (env : Env) (d : DomainTree) (shape : Shape) (s : Scalar) (vs : List ℤ) → IsTypedEnv env → domain_faults (context_of env) false d ≡ [] → shape_of mode env d ≡ Some shape
    → s ≡ shape.scalar → shape.values ≡ Some vs → IsTrue (list_all (is_number_of s) vs)
numbers_typed mode env d shape s vs k h e q v =
    let t : _ = domain_has_type env false d h in
    subst (λ x. list_all (is_number_of x) vs ≡ true) (sym q) (shape_lists mode env k d t.0 t.1 shape e vs v)
