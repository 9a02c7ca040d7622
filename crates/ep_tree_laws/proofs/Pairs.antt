-- Environments in pairs: what names over a domain and generators reach in two environments that say the same.
use Rattle.std.specs.Prelude.{◌≡◌, ◌&&◌, List, [], ◌∷◌, ◌++◌, map, ℤ, Bool, true, false, if◌then◌else◌, cond, is_some, Some, None, flat_map, Option, option_map, unwrap_or, refl}
use Rattle.std.proofs.Common.{ap, subst, sym, ◌∙◌}
use Rattle.std.specs.List.{list_all}
use Rattle.ep_base.proofs.Small.{map_is, no_some}
use Rattle.ep_base.specs.declared.names.Name.{Name}
use Rattle.ep_tree_laws.proofs.Deciding.{left_none, right_none}
use Rattle.ep_tree_laws.proofs.Shapes.{scalar_in_is}
use Rattle.ep_tree_laws.specs.Typing.{HasType}
use Rattle.ep_tree.proofs.TypedEvaluation.{context_put}
use Rattle.ep_tree.proofs.TypedParts.{and_left, and_right, from_many_is, from_one_is, gives_is, mistyped_is, truths_differ}
use Rattle.ep_tree.specs.Environments.{Env, context_of, has_value, meaning_in, scalar_in, with_number}
use Rattle.ep_tree.specs.Evaluation.{all_hold, all_joined, all_true, are_told, domain_values, domains_defined, holding, numbered, over_names, reached, standing_for}
use Rattle.ep_tree.specs.Faults.{Fault, domain_faults, faults_of_generators}
use Rattle.ep_tree.specs.Names.{put}
use Rattle.ep_tree.specs.Trees.{DomainTree, Generators, generator_and, no_generators}
use Rattle.ep_tree.specs.Types.{Context, Judged, a_value, all_typed, comprehension_type, from_many, from_one, indexed_type, inside, inside_all, is_boolean, is_integer, judge_domain, judge_generators, list_type, mistyped, of_scalar, quantified_name, quantified_type, reading_contexts, scalar_of, typed, untyped}
use Rattle.ep_tree.specs.Values.{ValueTree, single}
use Rattle.ep_tree.specs.declared.syntax.QuantOp.{QuantOp}
use Rattle.ep_tree.specs.declared.values.Mode.{Mode}
use Rattle.ep_tree.specs.declared.values.Scalar.{Scalar}
use Rattle.ep_tree.specs.declared.values.ValueType.{ValueType}

-- ---- integer types

-- each of some parts has an integer type
abbrev pub Integers : List Judged → Type 0
Integers [] = Unit {0}
Integers (j ∷ js) = ((t : ValueType) × (j ≡ typed t) × (is_integer t ≡ true)) × Integers js

integers_of : (js : List Judged) (ts : List ValueType) → all_typed js ≡ Some ts → list_all is_integer ts ≡ true → Integers js
unfolding all_typed
integers_of [] ts h c = tt
integers_of (typed t ∷ js) ts h c =
    let m : _ = map_is (λ us. t ∷ us) (all_typed js) ts h in
    let d : list_all is_integer (t ∷ m.0) ≡ true = subst (λ us. list_all is_integer us ≡ true) (sym m.2) c in
    ((t, refl, and_left (is_integer t) (list_all is_integer m.0) d), integers_of js m.0 m.1 (and_right (is_integer t) (list_all is_integer m.0) d))
integers_of (mistyped ∷ js) ts h c = no_some h
integers_of (untyped ∷ js) ts h c = no_some h

pub integers_split : (is js : List Judged) → Integers (is ++ js) → Integers is × Integers js
integers_split [] js h = (tt, h)
integers_split (i ∷ is) js h = let q : _ = integers_split is js h.1 in ((h.0, q.0), q.1)

quantified_integers : (op : QuantOp) (ds : List ValueType) (s t : ValueType) → quantified_type op ds s ≡ typed t → list_all is_integer ds ≡ true
unfolding quantified_type
quantified_integers QuantOp.ForAll ds s t h = and_left (list_all is_integer ds) (is_boolean s) (gives_is ValueType.Bool (list_all is_integer ds && is_boolean s) t h).1
quantified_integers QuantOp.Exists ds s t h = and_left (list_all is_integer ds) (is_boolean s) (gives_is ValueType.Bool (list_all is_integer ds && is_boolean s) t h).1
quantified_integers QuantOp.Sum ds s t h = and_left (list_all is_integer ds) (is_integer s) (gives_is ValueType.Int (list_all is_integer ds && is_integer s) t h).1

pub quantified_readings : (js : List Judged) (body : Judged) (op : QuantOp) → HasType (from_many js (λ ds. from_one body (quantified_type op ds))) → Integers js
quantified_readings js body op h =
    let q : (ts : List ValueType) × (all_typed js ≡ Some ts) × (from_one body (quantified_type op ts) ≡ typed h.0) = from_many_is js (λ ds. from_one body (quantified_type op ds)) h.0 h.1 in
    let r : _ = from_one_is body (quantified_type op q.0) h.0 q.2 in
    integers_of js q.0 q.1 (quantified_integers op q.0 r.0 h.0 r.2)

later_integers : (us ws : List ValueType) → list_all is_integer (us ++ ws) ≡ true → list_all is_integer ws ≡ true
later_integers [] ws h = h
later_integers (u ∷ us) ws h = later_integers us ws (and_right (is_integer u) (list_all is_integer (us ++ ws)) h)

comprehension_integers : (index domains truths : List ValueType) (s t : ValueType) → comprehension_type index domains truths s ≡ typed t → list_all is_integer domains ≡ true
unfolding comprehension_type indexed_type
comprehension_integers index domains truths s t h = later_integers index domains (outer (list_all is_boolean truths) (list_all is_integer (index ++ domains)) h)
  where
    outer : (a b : Bool) → (if a then (if b then list_type (s ∷ []) else mistyped) else mistyped) ≡ typed t → b ≡ true
    outer true true h = refl
    outer true false h = mistyped_is h
    outer false b h = mistyped_is h

pub comprehension_readings : (is js ks : List Judged) (body : Judged)
    → HasType (from_many is (λ index. from_many js (λ domains. from_many ks (λ truths. from_one body (comprehension_type index domains truths))))) → Integers js
comprehension_readings is js ks body h =
    let q : (ts : List ValueType) × (all_typed is ≡ Some ts) × (from_many js (λ domains. from_many ks (λ truths. from_one body (comprehension_type ts domains truths))) ≡ typed h.0) =
    from_many_is is (λ index. from_many js (λ domains. from_many ks (λ truths. from_one body (comprehension_type index domains truths)))) h.0 h.1 in
    let r : (ts : List ValueType) × (all_typed js ≡ Some ts) × (from_many ks (λ truths. from_one body (comprehension_type q.0 ts truths)) ≡ typed h.0) =
    from_many_is js (λ domains. from_many ks (λ truths. from_one body (comprehension_type q.0 domains truths))) h.0 q.2 in
    let l : (ts : List ValueType) × (all_typed ks ≡ Some ts) × (from_one body (comprehension_type q.0 r.0 ts) ≡ typed h.0) =
    from_many_is ks (λ truths. from_one body (comprehension_type q.0 r.0 truths)) h.0 r.2 in
    let m : _ = from_one_is body (comprehension_type q.0 r.0 l.0) h.0 l.2 in
    integers_of js r.0 r.1 (comprehension_integers q.0 r.0 l.0 m.0 h.0 m.2)

-- ---- one name

quantified_is : (t : ValueType) → is_integer t ≡ true → a_value (Some (of_scalar (scalar_of t))) false ≡ quantified_name (typed t)
unfolding is_integer of_scalar scalar_of quantified_name is_boolean
quantified_is ValueType.Bool h = refl
quantified_is ValueType.Int h = refl
quantified_is (ValueType.Matrix k s) h = truths_differ h
quantified_is ValueType.Empty h = truths_differ h

pub bound_context : (env : Env) (name : Name) (d : DomainTree) (t : ValueType) (n : ℤ) → judge_domain (context_of env) d ≡ typed t → is_integer t ≡ true
    → context_of (with_number name (scalar_in env d) n env) ≡ put name (quantified_name (judge_domain (context_of env) d)) (context_of env)
unfolding with_number meaning_in
bound_context env name d t n h c =
    context_put env name (has_value (of_scalar (scalar_in env d)) (single n))
    ∙ ap (λ m. put name m (context_of env)) (ap (λ s. a_value (Some (of_scalar s)) false) (scalar_in_is env d t h) ∙ quantified_is t c ∙ ap quantified_name (sym h))

-- environments in pairs, the first of each with a context
abbrev pub Paired : (Env → Env → Type 0) → Context → List Env → List Env → Type 0
Paired R c [] [] = Unit {0}
Paired R c [] (e ∷ es) = ⊥
Paired R c (e ∷ es) [] = ⊥
Paired R c (e ∷ es) (o ∷ os) = (R e o × (context_of e ≡ c)) × Paired R c es os

abbrev pub MaybePaired : (Env → Env → Type 0) → Context → Option (List Env) → Option (List Env) → Type 0
MaybePaired R c None None = Unit {0}
MaybePaired R c None (Some es) = ⊥
MaybePaired R c (Some es) None = ⊥
MaybePaired R c (Some es) (Some os) = Paired R c es os

-- two environments still say the same where a name stands for the same number in both
abbrev pub KeepsBound : (Env → Env → Type 0) → Type 0
KeepsBound R = (env other : Env) (name : Name) (s : Scalar) (n : ℤ) → R env other → R (with_number name s n env) (with_number name s n other)

numbers_paired : (R : Env → Env → Type 0) → KeepsBound R → (env other : Env) (name : Name) (d : DomainTree) (t : ValueType) → judge_domain (context_of env) d ≡ typed t → is_integer t ≡ true
    → R env other → (ns : List ℤ)
    → Paired R (put name (quantified_name (judge_domain (context_of env) d)) (context_of env))
    (map (λ n. with_number name (scalar_in env d) n env) ns) (map (λ n. with_number name (scalar_in env d) n other) ns)
numbers_paired R keeps env other name d t h c r [] = tt
numbers_paired R keeps env other name d t h c r (n ∷ ns) =
    ((keeps env other name (scalar_in env d) n r, bound_context env name d t n h c), numbers_paired R keeps env other name d t h c r ns)

pub standing_paired : (R : Env → Env → Type 0) → KeepsBound R → (mode : Mode) (d : DomainTree) (env other : Env) → R env other
    → domain_values mode env d ≡ domain_values mode other d → scalar_in env d ≡ scalar_in other d
    → (t : ValueType) → judge_domain (context_of env) d ≡ typed t → is_integer t ≡ true → (name : Name)
    → MaybePaired R (put name (quantified_name (judge_domain (context_of env) d)) (context_of env)) (numbered mode d name env) (numbered mode d name other)
unfolding standing_for
standing_paired R keeps mode d env other r p q t h c name =
    subst (λ o. MaybePaired R next (numbered mode d name env) (option_map (map (λ n. with_number name (scalar_in other d) n other)) o)) p
    (subst (λ s. MaybePaired R next (numbered mode d name env) (option_map (map (λ n. with_number name s n other)) (domain_values mode env d))) q
    (go (domain_values mode env d)))
  where
    next : Context
    next = put name (quantified_name (judge_domain (context_of env) d)) (context_of env)

    go : (o : Option (List ℤ)) → MaybePaired R next (option_map (map (λ n. with_number name (scalar_in env d) n env)) o) (option_map (map (λ n. with_number name (scalar_in env d) n other)) o)
    go None = tt
    go (Some ns) = numbers_paired R keeps env other name d t h c r ns

-- ---- several names

abbrev pub EachPair : {A : Type 0} → (A → A → Type 0) → List A → List A → Type 0
EachPair Q [] [] = Unit {0}
EachPair Q [] (y ∷ ys) = ⊥
EachPair Q (x ∷ xs) [] = ⊥
EachPair Q (x ∷ xs) (y ∷ ys) = Q x y × EachPair Q xs ys

pub mapped : {A : Type 0} (Q : A → A → Type 0) (f : Env → A) (R : Env → Env → Type 0) (c : Context) (es os : List Env) → Paired R c es os
    → ((e o : Env) → R e o → context_of e ≡ c → Q (f e) (f o)) → EachPair Q (map f es) (map f os)
mapped Q f R c [] [] h each = tt
mapped Q f R c [] (o ∷ os) h each = absurd h
mapped Q f R c (e ∷ es) [] h each = absurd h
mapped Q f R c (e ∷ es) (o ∷ os) h each = (each e o h.0.0 h.0.1, mapped Q f R c es os h.1 each)

pub equal_lists : {A : Type 0} (xs ys : List A) → EachPair (λ x y. x ≡ y) xs ys → xs ≡ ys
equal_lists [] [] h = refl
equal_lists [] (y ∷ ys) h = absurd h
equal_lists (x ∷ xs) [] h = absurd h
equal_lists (x ∷ xs) (y ∷ ys) h = ap (λ z. z ∷ xs) h.0 ∙ ap (λ zs. y ∷ zs) (equal_lists xs ys h.1)

joined_paired : {A : Type 0} (Q : A → A → Type 0) (R : Env → Env → Type 0) (c : Context) (join : Option (List A) → A) → Q (join None) (join None)
    → ((xs ys : List A) → EachPair Q xs ys → Q (join (Some xs)) (join (Some ys)))
    → (f : Env → A) (es os : Option (List Env)) → MaybePaired R c es os → ((e o : Env) → R e o → context_of e ≡ c → Q (f e) (f o))
    → Q (join (option_map (map f) es)) (join (option_map (map f) os))
joined_paired Q R c join none some f None None h each = none
joined_paired Q R c join none some f None (Some os) h each = absurd h
joined_paired Q R c join none some f (Some es) None h each = absurd h
joined_paired Q R c join none some f (Some es) (Some os) h each = some (map f es) (map f os) (mapped Q f R c es os h each)

-- a domain without a fault has the same numbers, of the same scalar
abbrev pub Same : (Env → Env → Type 0) → Mode → DomainTree → Type 0
Same R mode d =
    (env other : Env) → R env other → domain_faults (context_of env) false d ≡ []
    → (domain_values mode env d ≡ domain_values mode other d) × (scalar_in env d ≡ scalar_in other d)

pub over_paired : {A : Type 0} (Q : A → A → Type 0) (R : Env → Env → Type 0) → KeepsBound R → (mode : Mode) (d : DomainTree) → Same R mode d
    → (join : Option (List A) → A) → Q (join None) (join None) → ((xs ys : List A) → EachPair Q xs ys → Q (join (Some xs)) (join (Some ys)))
    → (inner : Env → A) (P : Context → Type 0) → ((env other : Env) → R env other → P (context_of env) → Q (inner env) (inner other))
    → (names : List Name) (env other : Env) → R env other
    → flat_map (λ c. domain_faults c false d) (reading_contexts names (λ c. judge_domain c d) (context_of env)) ≡ []
    → Integers (map (λ c. judge_domain c d) (reading_contexts names (λ c. judge_domain c d) (context_of env)))
    → P (inside names (λ c. judge_domain c d) (context_of env))
    → Q (over_names (numbered mode d) join inner names env) (over_names (numbered mode d) join inner names other)
unfolding over_names reading_contexts inside
over_paired Q R keeps mode d same join none some inner P each [] env other r no_fault ints p = each env other r p
over_paired Q R keeps mode d same join none some inner P each (name ∷ names) env other r no_fault ints p =
    let read_in : Context → Judged = λ c. judge_domain c d in
    let next : Context = put name (quantified_name (read_in (context_of env))) (context_of env) in
    let fs : Context → List Fault = λ c. flat_map (λ x. domain_faults x false d) (reading_contexts names read_in c) in
    let s : _ = same env other r (left_none (domain_faults (context_of env) false d) (fs next) no_fault) in
    joined_paired Q R next join none some (over_names (numbered mode d) join inner names) (numbered mode d name env) (numbered mode d name other)
    (standing_paired R keeps mode d env other r s.0 s.1 ints.0.0 ints.0.1 ints.0.2 name)
    (λ e o l q. over_paired Q R keeps mode d same join none some inner P each names e o l
    (subst (λ c. fs c ≡ []) (sym q) (right_none (domain_faults (context_of env) false d) (fs next) no_fault))
    (subst (λ c. Integers (map read_in (reading_contexts names read_in c))) (sym q) ints.1)
    (subst (λ c. P (inside names read_in c)) (sym q) p))

-- ---- generators

abbrev pub EachSame : (Env → Env → Type 0) → Mode → Generators → Type 0
EachSame R mode no_generators = Unit {0}
EachSame R mode (generator_and names d gens) = Same R mode d × EachSame R mode gens

paired_append : (R : Env → Env → Type 0) (c : Context) (es os gs hs : List Env) → Paired R c es os → Paired R c gs hs → Paired R c (es ++ gs) (os ++ hs)
paired_append R c [] [] gs hs h k = k
paired_append R c [] (o ∷ os) gs hs h k = absurd h
paired_append R c (e ∷ es) [] gs hs h k = absurd h
paired_append R c (e ∷ es) (o ∷ os) gs hs h k = (h.0, paired_append R c es os gs hs h.1 k)

paired_lists : (R : Env → Env → Type 0) (c : Context) (xs ys : List (List Env)) → EachPair (Paired R c) xs ys → Paired R c (flat_map (λ es. es) xs) (flat_map (λ es. es) ys)
paired_lists R c [] [] h = tt
paired_lists R c [] (y ∷ ys) h = absurd h
paired_lists R c (x ∷ xs) [] h = absurd h
paired_lists R c (x ∷ xs) (y ∷ ys) h = paired_append R c x y (flat_map (λ es. es) xs) (flat_map (λ es. es) ys) h.0 (paired_lists R c xs ys h.1)

-- the environments that generators reach
pub reached_paired : (R : Env → Env → Type 0) → KeepsBound R → (mode : Mode) (gens : Generators) → EachSame R mode gens → (env other : Env) → R env other
    → faults_of_generators (context_of env) gens ≡ [] → Integers (judge_generators (context_of env) gens)
    → Paired R (inside_all gens (context_of env)) (reached mode env gens) (reached mode other gens)
unfolding faults_of_generators judge_generators inside_all reached all_joined
reached_paired R keeps mode no_generators same env other r none ints = ((r, refl), tt)
reached_paired R keeps mode (generator_and names d gens) same env other r none ints =
    let read_in : Context → Judged = λ c. judge_domain c d in
    let fs : List Fault = flat_map (λ x. domain_faults x false d) (reading_contexts names read_in (context_of env)) in
    let outer : Context = inside names read_in (context_of env) in
    let i : _ = integers_split (map read_in (reading_contexts names read_in (context_of env))) (judge_generators outer gens) ints in
    over_paired (Paired R (inside_all gens outer)) R keeps mode d same.0 all_joined tt (paired_lists R (inside_all gens outer))
    (λ inner. reached mode inner gens)
    (λ c. (faults_of_generators c gens ≡ []) × Integers (judge_generators c gens) × (inside_all gens c ≡ inside_all gens outer))
    (λ e o l p. subst (λ c. Paired R c (reached mode e gens) (reached mode o gens)) p.2 (reached_paired R keeps mode gens same.1 e o l p.0 p.1))
    names env other r (left_none fs (faults_of_generators outer gens) none) i.0
    (right_none fs (faults_of_generators outer gens) none, i.1, refl)

-- whether their domains are defined
pub defined_paired : (R : Env → Env → Type 0) → KeepsBound R → (mode : Mode) (gens : Generators) → EachSame R mode gens → (env other : Env) → R env other
    → faults_of_generators (context_of env) gens ≡ [] → Integers (judge_generators (context_of env) gens)
    → domains_defined mode env gens ≡ domains_defined mode other gens
unfolding faults_of_generators judge_generators domains_defined
defined_paired R keeps mode no_generators same env other r none ints = refl
defined_paired R keeps mode (generator_and names d gens) same env other r none ints =
    let read_in : Context → Judged = λ c. judge_domain c d in
    let fs : List Fault = flat_map (λ x. domain_faults x false d) (reading_contexts names read_in (context_of env)) in
    let outer : Context = inside names read_in (context_of env) in
    let i : _ = integers_split (map read_in (reading_contexts names read_in (context_of env))) (judge_generators outer gens) ints in
    over_paired (λ x y. x ≡ y) R keeps mode d same.0 all_hold refl (λ xs ys h. ap (λ bs. all_hold (Some bs)) (equal_lists xs ys h))
    (λ inner. domains_defined mode inner gens)
    (λ c. (faults_of_generators c gens ≡ []) × Integers (judge_generators c gens))
    (λ e o l p. defined_paired R keeps mode gens same.1 e o l p.0 p.1)
    names env other r (left_none fs (faults_of_generators outer gens) none) i.0
    (right_none fs (faults_of_generators outer gens) none, i.1)

-- conditions that have the same values in each pair
abbrev pub SameValues : (Env → Env → Type 0) → Context → (Env → List (Option ValueTree)) → Type 0
SameValues R c conditions = (e o : Env) → R e o → context_of e ≡ c → conditions e ≡ conditions o

pub told_paired : (R : Env → Env → Type 0) (c : Context) (conditions : Env → List (Option ValueTree)) → SameValues R c conditions
    → (es os : List Env) → Paired R c es os → are_told conditions es ≡ are_told conditions os
unfolding are_told
told_paired R c conditions same [] [] h = refl
told_paired R c conditions same [] (o ∷ os) h = absurd h
told_paired R c conditions same (e ∷ es) [] h = absurd h
told_paired R c conditions same (e ∷ es) (o ∷ os) h =
    ap (λ vs. is_some (all_true vs) && are_told conditions es) (same e o h.0.0 h.0.1)
    ∙ ap (λ b. is_some (all_true (conditions o)) && b) (told_paired R c conditions same es os h.1)

pub holding_paired : (R : Env → Env → Type 0) (c : Context) (conditions : Env → List (Option ValueTree)) → SameValues R c conditions
    → (es os : List Env) → Paired R c es os → Paired R c (holding conditions es) (holding conditions os)
unfolding holding
holding_paired R c conditions same [] [] h = tt
holding_paired R c conditions same [] (o ∷ os) h = absurd h
holding_paired R c conditions same (e ∷ es) [] h = absurd h
holding_paired R c conditions same (e ∷ es) (o ∷ os) h =
    go (unwrap_or (all_true (conditions e)) false) (unwrap_or (all_true (conditions o)) false) (ap (λ vs. unwrap_or (all_true vs) false) (same e o h.0.0 h.0.1))
    (holding_paired R c conditions same es os h.1)
  where
    go : (a b : Bool) → a ≡ b → Paired R c (holding conditions es) (holding conditions os)
        → Paired R c (cond a (e ∷ holding conditions es) (holding conditions es)) (cond b (o ∷ holding conditions os) (holding conditions os))
    go true true p k = (h.0, k)
    go true false p k = truths_differ (sym p)
    go false true p k = truths_differ p
    go false false p k = k
