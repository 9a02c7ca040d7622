-- Binding gives decision variables whose domains are near: their index domains ascend, and each number is within the limit of
-- reach.
use Rattle.std.proofs.Common.{◌≡◌, ◌+◌, Bool, true, false, List, [], ◌∷◌, ◌++◌, map, ℤ, Option, Some, None, refl, ap, subst, ◌∙◌, bytes_eq}
use Rattle.std.specs.Prelude.{Ok, Err, Result, if◌then◌else◌, nat_lt, option_and_then, flat_map}
use Rattle.std.specs.List.{All, AllByRecursion, list_all, list_any}
use Rattle.std.proofs.lemmas.Bool.{and_from}
use Rattle.std.proofs.lemmas.List.Elements.{All-from_recursion}
use Rattle.std.proofs.lemmas.List.Concat.{flat_map-cons}
use Rattle.std.proofs.lemmas.List.Folds.{list_all-append}
use Rattle.ep_base.proofs.Small.{map_is, no_some, some_is, then_is}
use Rattle.ep_base.specs.Options.{on_both}
use Rattle.ep_base.specs.Runs.{IsAscending}
use Rattle.ep_base.specs.Reads.{is_too_far}
use Rattle.ep_base.specs.declared.names.Name.{Name}
use Rattle.ep_base.specs.declared.operators.Limit.{Limit}
use Rattle.ep_base.specs.declared.places.Place.{Place}
use Rattle.ep_tree.proofs.SortedDomains.{domain_values-ascend}
use Rattle.ep_tree.proofs.TypedParts.{both_is}
use Rattle.ep_tree.specs.Binding.{Find, Instance, Progress, Refusal, Shape, TextName, and_next, bind, bind_givens, bind_letting, bind_names, bind_params, bind_statement, bind_statements, bound_finds, elements_pass, element_values, first_false, first_missing, fitted_into, given_bound, group_finds, in_env, index_domains, indices_bound, letting_bound, limits_met, listed_domains, met_groups, met_in, met_stated, model_text, nothing_bound, now_with, numbers_bound, or_refuse, outside_domain, over_limit, parameter, parameter_text, shape_bound, shape_of, undefined_at, unless_any, with_clauses, with_finds, with_goal}
use Rattle.ep_tree.specs.Environments.{Bound, Env, has_cells, has_domain, has_value, scalar_in}
use Rattle.ep_tree.specs.Evaluation.{domain_values, evaluate, type_in}
use Rattle.ep_tree.specs.Faults.{lettings_of}
use Rattle.ep_tree.specs.Limits.{MOST_SIZE, limits_of_values, numbers_at}
use Rattle.ep_tree.specs.Measures.{Met, met, met_domain, met_domains, size_of}
use Rattle.ep_tree.specs.Names.{nothing_known, put}
use Rattle.ep_tree.specs.Statements.{Group, StatementTree, TextTree, branching, constraints, decided, domain_letting, given, heuristic, letting, objective, requirements}
use Rattle.ep_tree.specs.Trees.{DomainTree, Domains, ExprTree, bool, domain_and, group_domain, int, matrix_domain, named_domain, no_domains, ranges, set_domain}
use Rattle.ep_tree.specs.Values.{ValueTree}
use Rattle.ep_tree.specs.declared.values.Mode.{Mode}
use Rattle.ep_tree.specs.declared.values.ValueType.{ValueType}
use Rattle.ep_print_laws.specs.GivenBack.{IsNearDomain, is_near}
use Rattle.ep_print_laws.proofs.NearNumbers.{NearBound, NearEnv, bound_ascends, domain_near, near_parts}
use Rattle.ep_print_laws.proofs.Standing.{AreNear}

-- ---- steps that pass

pub ok_is : {A : Type 0} {x y : A} → ◌≡◌ {A = Result A (List Refusal)} (Ok x) (Ok y) → x ≡ y
ok_is e = cc

pub next_is : {A B : Type 0} (r : Result A (List Refusal)) (next : A → Result B (List Refusal)) (y : B) → and_next r next ≡ Ok y → (x : A) × (r ≡ Ok x) × (next x ≡ Ok y)
unfolding and_next
next_is (Ok x) next y e = (x, refl, e)
next_is (Err rs) next y e = absurd cc

pub unless_is : {A : Type 0} (rs : List Refusal) (answer : Result A (List Refusal)) (x : A) → unless_any rs answer ≡ Ok x → (rs ≡ []) × (answer ≡ Ok x)
unfolding unless_any
unless_is [] answer x e = (refl, e)
unless_is (r ∷ rs) answer x e = absurd cc

pub refuse_is : {A : Type 0} (r : Refusal) (o : Option A) (x : A) → or_refuse r o ≡ Ok x → o ≡ Some x
unfolding or_refuse
refuse_is r (Some y) x e = ap Some (ok_is e)
refuse_is r None x e = absurd cc

no_reach : (sizes : List Limit) (far : Bool) → map over_limit (sizes ++ (if far then Limit.Reach ∷ [] else [])) ≡ [] → far ≡ false
no_reach sizes false e = refl
no_reach [] true e = absurd cc
no_reach (l ∷ sizes) true e = absurd cc

limits_near : (mode : Mode) (ms : List Met) → limits_met mode ms ≡ [] → AreNear mode ms
unfolding limits_met limits_of_values
limits_near mode ms e = no_reach (if nat_lt MOST_SIZE (0 + size_of ms) then Limit.Size ∷ [] else []) (list_any is_too_far (flat_map (numbers_at mode) ms)) e

-- ---- shapes

-- index domains ascend, and are within the limit of reach
abbrev pub AreNearIndices : List (List ℤ) → Type 0
AreNearIndices indices = AllByRecursion IsAscending indices × (list_all (list_all is_near) indices ≡ true)

-- numbers ascend, and are within the limit of reach
abbrev pub AreNearNumbers : List ℤ → Type 0
AreNearNumbers ns = IsAscending ns × (list_all is_near ns ≡ true)

joined_ascend : (one other : List (List ℤ)) → AllByRecursion IsAscending one → AllByRecursion IsAscending other → AllByRecursion IsAscending (one ++ other)
joined_ascend [] other h k = k
joined_ascend (ix ∷ one) other h k = (h.0, joined_ascend one other h.1 k)

indices_joined : (one other : List (List ℤ)) → AreNearIndices one → AreNearIndices other → AreNearIndices (one ++ other)
indices_joined one other h k =
    (joined_ascend one other h.0 k.0, list_all-append (list_all is_near) one other ∙ and_from _ _ h.1 k.1)

values_near : (mode : Mode) (env : Env) → NearEnv env → (d : DomainTree) (ns : List ℤ) → AreNear mode (met_domain mode env d) → domain_values mode env d ≡ Some ns → AreNearNumbers ns
values_near mode env near d ns h e =
    (domain_values-ascend mode env (λ name. bound_ascends (env name) (near name)) d ns e, domain_near mode env near d ns h e)

listed_near : (mode : Mode) (env : Env) → NearEnv env → (ds : Domains) (indices : List (List ℤ)) → AreNear mode (met_domains mode env ds) → listed_domains mode env ds ≡ Some indices → AreNearIndices indices
unfolding listed_domains met
listed_near mode env near no_domains indices h e = subst AreNearIndices (some_is e) (tt, refl)
listed_near mode env near (domain_and d ds) indices h e =
    let parts = near_parts mode (met_domain mode env d) (met_domains mode env ds) h in
    let q : _ = both_is (domain_values mode env d) (listed_domains mode env ds) (λ xs rest. Some (xs ∷ rest)) indices e in
    let one = values_near mode env near d q.0 parts.0 q.2 in
    let others = listed_near mode env near ds q.1 parts.1 q.3 in
    subst AreNearIndices (some_is q.4) ((one.0, others.0), and_from _ _ one.1 others.1)

bound_indices : (o : Option Bound) (indices : List (List ℤ)) → NearBound o → indices_bound o ≡ Some indices → AreNearIndices indices
unfolding indices_bound
bound_indices (Some (has_domain s ix values)) indices h e = subst AreNearIndices (some_is e) (h.0, h.1)
bound_indices (Some (has_value t v)) indices h e = no_some e
bound_indices (Some (has_cells s ix values)) indices h e = no_some e
bound_indices None indices h e = no_some e

bound_numbers : (o : Option Bound) (ns : List ℤ) → NearBound o → numbers_bound o ≡ Some ns → AreNearNumbers ns
unfolding numbers_bound
bound_numbers (Some (has_domain s ix values)) ns h e = subst AreNearNumbers (some_is e) (h.2, h.3)
bound_numbers (Some (has_value t v)) ns h e = no_some e
bound_numbers (Some (has_cells s ix values)) ns h e = no_some e
bound_numbers None ns h e = no_some e

no_index_near : (indices : List (List ℤ)) → ◌≡◌ {A = Option (List (List ℤ))} (Some []) (Some indices) → AreNearIndices indices
no_index_near indices e = subst AreNearIndices (some_is e) (tt, refl)

indices_near : (mode : Mode) (env : Env) → NearEnv env → (d : DomainTree) (indices : List (List ℤ)) → AreNear mode (met_domain mode env d) → index_domains mode env d ≡ Some indices → AreNearIndices indices
unfolding index_domains met
indices_near mode env near (matrix_domain p ds d) indices h e =
    let parts = near_parts mode (met_domains mode env ds) (met_domain mode env d) h in
    let q : _ = both_is (listed_domains mode env ds) (index_domains mode env d) (λ own inner. Some (own ++ inner)) indices e in
    subst AreNearIndices (some_is q.4) (indices_joined q.0 q.1 (listed_near mode env near ds q.0 parts.0 q.2) (indices_near mode env near d q.1 parts.1 q.3))
indices_near mode env near (group_domain p d) indices h e = indices_near mode env near d indices h e
indices_near mode env near (named_domain p name) indices h e = bound_indices (env name) indices (near name) e
indices_near mode env near (bool p) indices h e = no_index_near indices e
indices_near mode env near (int p) indices h e = no_index_near indices e
indices_near mode env near (ranges p rs) indices h e = no_index_near indices e
indices_near mode env near (set_domain p op c d) indices h e = no_index_near indices e

elements_near : (mode : Mode) (env : Env) → NearEnv env → (d : DomainTree) (ns : List ℤ) → AreNear mode (met_domain mode env d) → element_values mode env d ≡ Some ns → AreNearNumbers ns
unfolding element_values met
elements_near mode env near (matrix_domain p ds d) ns h e =
    elements_near mode env near d ns (near_parts mode (met_domains mode env ds) (met_domain mode env d) h).1 e
elements_near mode env near (group_domain p d) ns h e = elements_near mode env near d ns h e
elements_near mode env near (named_domain p name) ns h e = bound_numbers (env name) ns (near name) e
elements_near mode env near (bool p) ns h e = values_near mode env near (bool p) ns h e
elements_near mode env near (int p) ns h e = values_near mode env near (int p) ns h e
elements_near mode env near (ranges p rs) ns h e = values_near mode env near (ranges p rs) ns h e
elements_near mode env near (set_domain p op c d) ns h e = values_near mode env near (set_domain p op c d) ns h e

-- a domain that is bound has near index domains, and near numbers where it lists them
pub record IsNearShape (shape : Shape) : Type 0 where
  pub indices : AreNearIndices shape.indices
  pub values : (ns : List ℤ) → shape.values ≡ Some ns → AreNearNumbers ns

shape_near : (mode : Mode) (env : Env) → NearEnv env → (d : DomainTree) (shape : Shape) → AreNear mode (met_domain mode env d) → shape_of mode env d ≡ Some shape → IsNearShape shape
unfolding shape_of
shape_near mode env near d shape h e =
    let q : _ = both_is (index_domains mode env d) (elements_pass mode env d)
    (λ indices passes. Some (record { scalar = scalar_in env d; indices = indices; passes = passes; values = element_values mode env d })) shape e in
    subst IsNearShape (some_is q.4)
    (record { indices = indices_near mode env near d q.0 h q.2; values = λ ns k. elements_near mode env near d ns h k })

-- ---- what names stand for

nothing_near : NearEnv nothing_known
nothing_near name = tt

put_near : (name : Name) (b : Bound) (env : Env) → NearBound (Some b) → NearEnv env → NearEnv (put name b env)
put_near name b env h near other = go (bytes_eq other name)
  where
    go : (here : Bool) → NearBound (if here then Some b else env other)
    go true = h
    go false = near other

value_near : (name : Name) (t : ValueType) (v : ValueTree) (env : Env) → NearEnv env → NearEnv (put name (has_value t v) env)
value_near name t v env near = put_near name (has_value t v) env tt near

-- a letting's value has a type
letting_value : (mode : Mode) (env : Env) (r : Refusal) (name : Name) (d : Option DomainTree) (e : ExprTree) (v : ValueTree) (b : Bound) → letting_bound mode env r name d e v ≡ Ok b → NearBound (Some b)
unfolding letting_bound
letting_value mode env r name None e v b h = subst (λ x. NearBound (Some x)) (ok_is h) tt
letting_value mode env r name (Some d) e v b h =
    let shape : _ = next_is (or_refuse r (shape_of mode env d)) _ b h in
    let fit : _ = next_is (or_refuse (outside_domain name) (fitted_into shape.0 (type_in env e) v)) _ b shape.2 in
    subst (λ x. NearBound (Some x)) (ok_is fit.2) tt

-- a domain's name for a near shape
shape_bound_near : (shape : Shape) (b : Bound) → IsNearShape shape → shape_bound shape ≡ Some b → NearBound (Some b)
unfolding shape_bound
shape_bound_near shape b near e =
    let q : _ = map_is (has_domain shape.scalar shape.indices) shape.values b e in
    let numbers = near.values q.0 q.1 in
    subst (λ x. NearBound (Some x)) q.2 (near.indices.0, near.indices.1, numbers.0, numbers.1)

letting_near : (mode : Mode) (of : TextName) (env next : Env) (s : StatementTree) → NearEnv env → bind_letting mode of env s ≡ Ok next → NearEnv next
unfolding bind_letting
letting_near mode of env next (letting p name at d e) near h =
    let passed = unless_is (limits_met mode (met_stated mode env d ++ met mode env e)) _ next h in
    let v : _ = next_is (or_refuse (undefined_at of p) (evaluate mode env e)) _ next passed.1 in
    let b : _ = next_is (letting_bound mode env (undefined_at of p) name d e v.0) _ next v.2 in
    subst NearEnv (ok_is b.2) (put_near name b.0 env (letting_value mode env (undefined_at of p) name d e v.0 b.0 b.1) near)
letting_near mode of env next (domain_letting p name at d) near h =
    let passed = unless_is (limits_met mode (met_domain mode env d)) _ next h in
    let b : _ = next_is (or_refuse (undefined_at of p) (option_and_then shape_bound (shape_of mode env d))) _ next passed.1 in
    let shape : _ = then_is shape_bound (shape_of mode env d) b.0 (refuse_is (undefined_at of p) (option_and_then shape_bound (shape_of mode env d)) b.0 b.1) in
    subst NearEnv (ok_is b.2)
    (put_near name b.0 env (shape_bound_near shape.0 b.0 (shape_near mode env near d shape.0 (limits_near mode (met_domain mode env d) passed.0) shape.1) shape.2) near)
letting_near mode of env next _ near h = subst NearEnv (ok_is h) near

given_value : (shape : Shape) (name : Name) (o : Option (ValueType × ValueTree)) (b : Bound) → given_bound shape name o ≡ Ok b → NearBound (Some b)
unfolding given_bound
given_value shape name None b h = absurd cc
given_value shape name (Some entry) b h =
    let v : _ = next_is (or_refuse (outside_domain name) (fitted_into shape entry.0 entry.1)) _ b h in subst (λ x. NearBound (Some x)) (ok_is v.2) tt

given_near : (params : Env) (shape : Shape) (names : List (Name × Place)) (env next : Env) → NearEnv env → bind_names params shape names env ≡ Ok next → NearEnv next
unfolding bind_names
given_near params shape [] env next near h = subst NearEnv (ok_is h) near
given_near params shape (name ∷ names) env next near h =
    let b : _ = next_is (given_bound shape name.0 (parameter (params name.0))) _ next h in
    given_near params shape names (put name.0 b.0 env) next (put_near name.0 b.0 env (given_value shape name.0 (parameter (params name.0)) b.0 b.1) near) b.2

givens_near : (mode : Mode) (p : Place) (params : Env) (groups : List Group) (env next : Env) → NearEnv env → bind_givens mode p params groups env ≡ Ok next → NearEnv next
unfolding bind_givens
givens_near mode p params [] env next near h = subst NearEnv (ok_is h) near
givens_near mode p params (g ∷ groups) env next near h =
    let passed = unless_is (limits_met mode (met_domain mode env g.domain)) _ next h in
    let shape : _ = next_is (or_refuse (undefined_at model_text p) (shape_of mode env g.domain)) _ next passed.1 in
    let there = unless_is (first_missing params g.names) _ next shape.2 in
    let one : _ = next_is (bind_names params shape.0 g.names env) _ next there.1 in
    givens_near mode p params groups one.0 next (given_near params shape.0 g.names env one.0 near one.1) one.2

-- ---- decision variables

group_near : (shape : Shape) (values : List ℤ) (names : List (Name × Place)) → IsNearShape shape → shape.values ≡ Some values → AllByRecursion IsNearDomain (group_finds shape values names)
unfolding group_finds
group_near shape values [] near e = tt
group_near shape values (name ∷ names) near e = (
  record {
    ascend = All-from_recursion IsAscending shape.indices near.indices.0;
    indices = near.indices.1;
    values = (near.values values e).1;
  },
  group_near shape values names near e,
)

finds_joined : (one other : List Find) → AllByRecursion IsNearDomain one → AllByRecursion IsNearDomain other → AllByRecursion IsNearDomain (one ++ other)
finds_joined [] other h k = k
finds_joined (f ∷ one) other h k = (h.0, finds_joined one other h.1 k)

finds_near : (mode : Mode) (env : Env) → NearEnv env → (groups : List Group) (fs : List Find) → AreNear mode (met_groups mode env groups) → bound_finds mode env groups ≡ Some fs → AllByRecursion IsNearDomain fs
unfolding bound_finds met_groups
finds_near mode env near [] fs h e = subst (AllByRecursion IsNearDomain) (some_is e) tt
finds_near mode env near (g ∷ groups) fs h e =
    let parts = near_parts mode (met_domain mode env g.domain) (flat_map (λ x. met_domain mode env x.domain) groups) (subst (AreNear mode) (flat_map-cons (λ x. met_domain mode env x.domain) g groups) h) in
    let shape : _ = then_is (λ shape. on_both shape.values (bound_finds mode env groups) (λ values rest. Some (group_finds shape values g.names ++ rest))) (shape_of mode env g.domain) fs e in
    let q : _ = both_is shape.0.values (bound_finds mode env groups) (λ values rest. Some (group_finds shape.0 values g.names ++ rest)) fs shape.2 in
    let one = group_near shape.0 q.0 g.names (shape_near mode env near g.domain shape.0 parts.0 shape.1) q.2 in
    subst (AllByRecursion IsNearDomain) (some_is q.4) (finds_joined (group_finds shape.0 q.0 g.names) q.1 one (finds_near mode env near groups q.1 parts.1 q.3))

-- ---- the whole

-- what is bound so far is near
record IsNearSoFar (at : Progress) : Type 0 where
  names : NearEnv at.instance.env
  finds : AllByRecursion IsNearDomain at.instance.finds

statement_near : (mode : Mode) (params : Env) (at next : Progress) (s : StatementTree) → IsNearSoFar at → bind_statement mode params at s ≡ Ok next → IsNearSoFar next
unfolding bind_statement now_with in_env with_finds with_clauses with_goal
statement_near mode params at next (given p groups) near h =
    let env : _ = next_is (bind_givens mode p params groups at.instance.env) _ next h in
    subst IsNearSoFar (ok_is env.2) (record { names = givens_near mode p params groups at.instance.env env.0 near.names env.1; finds = near.finds })
statement_near mode params at next (decided p groups) near h =
    let passed = unless_is (limits_met mode (met_groups mode at.instance.env groups)) _ next h in
    let fs : _ = next_is (or_refuse (undefined_at model_text p) (bound_finds mode at.instance.env groups)) _ next passed.1 in
    let more = finds_near mode at.instance.env near.names groups fs.0 (limits_near mode (met_groups mode at.instance.env groups) passed.0)
    (refuse_is (undefined_at model_text p) (bound_finds mode at.instance.env groups) fs.0 fs.1) in
    subst IsNearSoFar (ok_is fs.2) (record { names = near.names; finds = finds_joined at.instance.finds fs.0 near.finds more })
statement_near mode params at next (letting p name q d e) near h =
    let env : _ = next_is (bind_letting mode model_text at.instance.env (letting p name q d e)) _ next h in
    subst IsNearSoFar (ok_is env.2) (record { names = letting_near mode model_text at.instance.env env.0 (letting p name q d e) near.names env.1; finds = near.finds })
statement_near mode params at next (domain_letting p name q d) near h =
    let env : _ = next_is (bind_letting mode model_text at.instance.env (domain_letting p name q d)) _ next h in
    subst IsNearSoFar (ok_is env.2) (record { names = letting_near mode model_text at.instance.env env.0 (domain_letting p name q d) near.names env.1; finds = near.finds })
statement_near mode params at next (requirements p es) near h =
    let passed = unless_is (limits_met mode (met_in mode at.instance.env es)) _ next h in
    let hold = unless_is (first_false mode at.instance.env at.next_where es) _ next passed.1 in
    subst IsNearSoFar (ok_is hold.1) (record { names = near.names; finds = near.finds })
statement_near mode params at next (constraints p es) near h = subst IsNearSoFar (ok_is h) (record { names = near.names; finds = near.finds })
statement_near mode params at next (objective p sense e) near h = subst IsNearSoFar (ok_is h) (record { names = near.names; finds = near.finds })
statement_near mode params at next (branching p names) near h = subst IsNearSoFar (ok_is h) near
statement_near mode params at next (heuristic p name) near h = subst IsNearSoFar (ok_is h) near

statements_near : (mode : Mode) (params : Env) (at next : Progress) (statements : TextTree) → IsNearSoFar at → bind_statements mode params at statements ≡ Ok next → IsNearSoFar next
unfolding bind_statements
statements_near mode params at next [] near h = subst IsNearSoFar (ok_is h) near
statements_near mode params at next (s ∷ statements) near h =
    let one : _ = next_is (bind_statement mode params at s) _ next h in
    statements_near mode params one.0 next statements (statement_near mode params at one.0 s near one.1) one.2

pub bound_near : (mode : Mode) (model params : TextTree) (i : Instance) → bind mode model params ≡ Ok i → All IsNearDomain i.finds
unfolding bind
bound_near mode model params i h =
    let known : _ = next_is (bind_params mode parameter_text nothing_known (lettings_of params)) _ i h in
    let at : _ = next_is (bind_statements mode known.0 nothing_bound model) _ i known.2 in
    let near = statements_near mode known.0 nothing_bound at.0 model (record { names = nothing_near; finds = tt }) at.1 in
    All-from_recursion IsNearDomain i.finds (subst (λ (j : Instance). AllByRecursion IsNearDomain j.finds) (ok_is at.2) near.finds)
