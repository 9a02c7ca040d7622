-- What two environments reach that agree but for decision variables, the second of typed names.
use Rattle.std.specs.Prelude.{◌≡◌, ◌&&◌, List, [], ◌∷◌, ◌++◌, map, ℤ, Bool, true, false, if◌then◌else◌, Some, None, bytes_eq, flat_map, Option, option_map, refl}
use Rattle.std.proofs.Common.{ap, subst, sym, ◌∙◌}
use Rattle.std.specs.List.{list_all}
use Rattle.ep_base.specs.declared.names.Name.{Name}
use Rattle.ep_base.specs.declared.places.Place.{Place}
use Rattle.ep_tree_laws.proofs.Agreeing.{agree_kept, domain_is_kept}
use Rattle.ep_tree_laws.proofs.DecidedValues.{same_scalar, values_decided}
use Rattle.ep_tree_laws.proofs.Deciding.{left_none, right_none}
use Rattle.ep_tree_laws.proofs.Pairs.{Integers, MaybePaired, Paired, bound_context, comprehension_readings, holding_paired, quantified_readings}
use Rattle.ep_tree_laws.proofs.SameTypes.{domain_type_is_kept}
use Rattle.ep_tree_laws.proofs.Shapes.{scalar_in_is}
use Rattle.ep_tree_laws.proofs.Typing.{context_typed, expression_typed}
use Rattle.ep_tree_laws.specs.Typing.{HasType}
use Rattle.ep_tree.proofs.TypedEvaluation.{domain_typed, put_typed}
use Rattle.ep_tree.proofs.TypedParts.{and_left, and_right, from_many_is, from_one_is, gives_is, map_is, no_some, truths_differ}
use Rattle.ep_tree.specs.Agreement.{Agree, AgreeOn}
use Rattle.ep_tree.specs.Environments.{Env, context_of, has_value, scalar_in, with_number}
use Rattle.ep_tree.specs.Evaluation.{all_joined, chosen, domain_values, numbered, over_names, reached, standing_for, values_of}
use Rattle.ep_tree.specs.Faults.{Fault, domain_faults, faults, faults_of_all, faults_of_generators, index_faults, type_fault}
use Rattle.ep_tree.specs.Names.{put}
use Rattle.ep_tree.specs.Trees.{DomainTree, ExprTree, ExprTrees, Generators, IndexDomain, comprehension, generator_and, no_generators, quantified}
use Rattle.ep_tree.specs.TypedValues.{IsTypedBound, IsTypedEnv, is_number_of}
use Rattle.ep_tree.specs.Types.{Context, Judged, all_typed, from_all, from_many, from_one, gives, inside, inside_all, is_boolean, is_integer, judge, judge_all, judge_domain, judge_generators, judge_index, mistyped, of_scalar, quantified_name, quantified_type, reading_contexts, typed, untyped}
use Rattle.ep_tree.specs.Values.{single}
use Rattle.ep_tree.specs.declared.syntax.QuantOp.{QuantOp}
use Rattle.ep_tree.specs.declared.values.Mode.{Mode}
use Rattle.ep_tree.specs.declared.values.Scalar.{Scalar}
use Rattle.ep_tree.specs.declared.values.ValueType.{ValueType}

-- two environments agree but for decision variables, and the names of the second are typed
pub record Alike (cells values : Env) : Type 0 where
  pub agree : Agree cells values
  pub typed : IsTypedEnv values

-- ---- a name that stands for the same number in both

agree_bound : (env other : Env) (name : Name) (s : Scalar) (n : ℤ) → Agree env other → Agree (with_number name s n env) (with_number name s n other)
unfolding with_number
agree_bound env other name s n h x = go (bytes_eq x name)
  where
    go : (b : Bool) → AgreeOn (if b then Some (has_value (of_scalar s) (single n)) else env x) (if b then Some (has_value (of_scalar s) (single n)) else other x)
    go true = refl
    go false = h x

number_bound : (s : Scalar) (n : ℤ) → is_number_of s n ≡ true → IsTypedBound (Some (has_value (of_scalar s) (single n)))
unfolding IsTypedBound of_scalar
number_bound Scalar.Bool n h = h
number_bound Scalar.Int n h = h

typed_number : (env : Env) (name : Name) (s : Scalar) (n : ℤ) → IsTypedEnv env → is_number_of s n ≡ true → IsTypedEnv (with_number name s n env)
unfolding with_number
typed_number env name s n h is = put_typed env name (has_value (of_scalar s) (single n)) h (number_bound s n is)

numbers_alike : (env other : Env) (name : Name) (d : DomainTree) (t : ValueType) → judge_domain (context_of env) d ≡ typed t → is_integer t ≡ true
    → Alike env other → (ns : List ℤ) → list_all (is_number_of (scalar_in env d)) ns ≡ true
    → Paired Alike (put name (quantified_name (judge_domain (context_of env) d)) (context_of env))
    (map (λ n. with_number name (scalar_in env d) n env) ns) (map (λ n. with_number name (scalar_in env d) n other) ns)
numbers_alike env other name d t h c a [] all = tt
numbers_alike env other name d t h c a (n ∷ ns) all = (
  (
    record {
      agree = agree_bound env other name (scalar_in env d) n a.agree;
      typed = typed_number other name (scalar_in env d) n a.typed (and_left (is_number_of (scalar_in env d) n) (list_all (is_number_of (scalar_in env d)) ns) all);
    },
    bound_context env name d t n h c,
  ),
  numbers_alike env other name d t h c a ns (and_right (is_number_of (scalar_in env d) n) (list_all (is_number_of (scalar_in env d)) ns) all),
)

-- The environments in which a name stands for each number of a domain.
pub standing_alike : (mode : Mode) (d : DomainTree) (env other : Env) → Alike env other → domain_faults (context_of env) false d ≡ []
    → (t : ValueType) → judge_domain (context_of env) d ≡ typed t → is_integer t ≡ true → (name : Name)
    → MaybePaired Alike (put name (quantified_name (judge_domain (context_of env) d)) (context_of env)) (numbered mode d name env) (numbered mode d name other)
unfolding standing_for
standing_alike mode d env other a none t h c name =
    subst (λ s. MaybePaired Alike next (numbered mode d name env) (option_map (map (λ n. with_number name s n other)) (domain_values mode other d)))
    (same_scalar env other (agree_kept env other a.agree) d none)
    (subst (λ o. MaybePaired Alike next (option_map (map (λ n. with_number name (scalar_in env d) n env)) o) (option_map (map (λ n. with_number name (scalar_in env d) n other)) (domain_values mode other d)))
    (sym (domain_is_kept mode env other a.agree d none))
    (go (domain_values mode other d) refl))
  where
    next : Context
    next = put name (quantified_name (judge_domain (context_of env) d)) (context_of env)

    go : (o : Option (List ℤ)) → domain_values mode other d ≡ o
        → MaybePaired Alike next (option_map (map (λ n. with_number name (scalar_in env d) n env)) o) (option_map (map (λ n. with_number name (scalar_in env d) n other)) o)
    go None e = tt
    go (Some ns) e =
        numbers_alike env other name d t h c a ns
        (subst (λ s. list_all (is_number_of s) ns ≡ true) (sym (scalar_in_is env d t h))
        (domain_typed mode other a.typed d t (sym (domain_type_is_kept env other a.agree d) ∙ h) ns e))

-- ---- several names

-- What holds of names over a domain, read in an environment, holds with a name less once that stands for a number; and
-- the domain has no fault there, and is scalar.
abbrev pub Steps : DomainTree → (List Name → Context → Type 0) → Type 0
Steps d H =
    (name : Name) (names : List Name) (env : Env) → H (name ∷ names) (context_of env)
    → (domain_faults (context_of env) false d ≡ [])
    × ((t : ValueType) × (judge_domain (context_of env) d ≡ typed t) × (is_integer t ≡ true))
    × H names (put name (quantified_name (judge_domain (context_of env) d)) (context_of env))

-- two lists of one length, whose elements are related in turn
abbrev pub Matched : {A B : Type 0} → (A → B → Type 0) → List A → List B → Type 0
Matched Q [] [] = Unit {0}
Matched Q [] (y ∷ ys) = ⊥
Matched Q (x ∷ xs) [] = ⊥
Matched Q (x ∷ xs) (y ∷ ys) = Q x y × Matched Q xs ys

pub mapped_both : {A B : Type 0} (Q : A → B → Type 0) (f : Env → A) (g : Env → B) (c : Context) (es os : List Env) → Paired Alike c es os
    → ((e o : Env) → Alike e o → context_of e ≡ c → Q (f e) (g o)) → Matched Q (map f es) (map g os)
mapped_both Q f g c [] [] h each = tt
mapped_both Q f g c [] (o ∷ os) h each = absurd h
mapped_both Q f g c (e ∷ es) [] h each = absurd h
mapped_both Q f g c (e ∷ es) (o ∷ os) h each = (each e o h.0.0 h.0.1, mapped_both Q f g c es os h.1 each)

joined_both : {A B : Type 0} (Q : A → B → Type 0) (join : Option (List A) → A) (joins : Option (List B) → B) → Q (join None) (joins None)
    → ((xs : List A) (ys : List B) → Matched Q xs ys → Q (join (Some xs)) (joins (Some ys))) → (f : Env → A) (g : Env → B) (c : Context)
    → (es os : Option (List Env)) → MaybePaired Alike c es os → ((e o : Env) → Alike e o → context_of e ≡ c → Q (f e) (g o))
    → Q (join (option_map (map f) es)) (joins (option_map (map g) os))
joined_both Q join joins none some f g c None None h each = none
joined_both Q join joins none some f g c None (Some os) h each = absurd h
joined_both Q join joins none some f g c (Some es) None h each = absurd h
joined_both Q join joins none some f g c (Some es) (Some os) h each = some (map f es) (map g os) (mapped_both Q f g c es os h each)

-- What names over a domain give in the two environments is related, where joining keeps the relation.
pub over_alike : {A B : Type 0} (Q : A → B → Type 0) (mode : Mode) (d : DomainTree) (join : Option (List A) → A) (joins : Option (List B) → B) → Q (join None) (joins None)
    → ((xs : List A) (ys : List B) → Matched Q xs ys → Q (join (Some xs)) (joins (Some ys))) → (f : Env → A) (g : Env → B)
    → (H : List Name → Context → Type 0) → Steps d H
    → ((env other : Env) → Alike env other → H [] (context_of env) → Q (f env) (g other))
    → (names : List Name) (env other : Env) → Alike env other → H names (context_of env)
    → Q (over_names (numbered mode d) join f names env) (over_names (numbered mode d) joins g names other)
unfolding over_names
over_alike Q mode d join joins none some f g H steps each [] env other a h = each env other a h
over_alike Q mode d join joins none some f g H steps each (name ∷ names) env other a h =
    let p : _ = steps name names env h in
    joined_both Q join joins none some (over_names (numbered mode d) join f names) (over_names (numbered mode d) joins g names)
    (put name (quantified_name (judge_domain (context_of env) d)) (context_of env)) (numbered mode d name env) (numbered mode d name other)
    (standing_alike mode d env other a p.0 p.1.0 p.1.1 p.1.2 name)
    (λ e o l q. over_alike Q mode d join joins none some f g H steps each names e o l (subst (H names) (sym q) p.2))

-- ---- a quantifier

-- a quantifier with these names has no fault
abbrev pub QuantifierStands : Place → QuantOp → DomainTree → ExprTree → List Name → Context → Type 0
QuantifierStands p op d e names c = faults c true (quantified p op names d e) ≡ []

join_none : {A : Type 0} (xs ys : List A) → xs ≡ [] → ys ≡ [] → xs ++ ys ≡ []
join_none xs ys h k = ap (λ zs. zs ++ ys) h ∙ k

typed_no_fault : (p : Place) (j : Judged) → HasType j → type_fault p j ≡ []
unfolding type_fault
typed_no_fault p j h = ap (type_fault p) h.1

pub all_typed_later : (j : Judged) (js : List Judged) (ts : List ValueType) → all_typed (j ∷ js) ≡ Some ts → (t : ValueType) × (us : List ValueType) × (all_typed js ≡ Some us) × (t ∷ us ≡ ts)
unfolding all_typed
all_typed_later (typed t) js ts e = let p : _ = map_is (λ us. t ∷ us) (all_typed js) ts e in (t, p.0, p.1, p.2)
all_typed_later mistyped js ts e = no_some e
all_typed_later untyped js ts e = no_some e

drop_first : (a b c : Bool) → ((a && b) && c) ≡ true → (b && c) ≡ true
drop_first true b c h = h
drop_first false b c h = truths_differ h

gives_less : (r t : ValueType) (a b : Bool) → gives r a ≡ typed t → (a ≡ true → b ≡ true) → gives r b ≡ typed t
unfolding gives
gives_less r t a b h k =
    let p : _ = gives_is r a t h in ap (gives r) (k p.1) ∙ ap typed p.0

fewer_domains : (op : QuantOp) (u : ValueType) (us : List ValueType) (s t : ValueType) → quantified_type op (u ∷ us) s ≡ typed t → quantified_type op us s ≡ typed t
unfolding quantified_type
fewer_domains QuantOp.ForAll u us s t h =
    gives_less ValueType.Bool t ((is_integer u && list_all is_integer us) && is_boolean s) (list_all is_integer us && is_boolean s) h (drop_first (is_integer u) (list_all is_integer us) (is_boolean s))
fewer_domains QuantOp.Exists u us s t h =
    gives_less ValueType.Bool t ((is_integer u && list_all is_integer us) && is_boolean s) (list_all is_integer us && is_boolean s) h (drop_first (is_integer u) (list_all is_integer us) (is_boolean s))
fewer_domains QuantOp.Sum u us s t h =
    gives_less ValueType.Int t ((is_integer u && list_all is_integer us) && is_integer s) (list_all is_integer us && is_integer s) h (drop_first (is_integer u) (list_all is_integer us) (is_integer s))

from_many_again : (js : List Judged) (us : List ValueType) (rule : List ValueType → Judged) → all_typed js ≡ Some us → from_many js rule ≡ rule us
unfolding from_many from_all
from_many_again js us rule e = ap (λ o. from_all o rule) e

fewer_typed : (op : QuantOp) (j : Judged) (js : List Judged) (body : Judged) → HasType (from_many (j ∷ js) (λ ds. from_one body (quantified_type op ds)))
    → HasType (from_many js (λ ds. from_one body (quantified_type op ds)))
unfolding from_one
fewer_typed op j js body h =
    let q : (ts : List ValueType) × (all_typed (j ∷ js) ≡ Some ts) × (from_one body (quantified_type op ts) ≡ typed h.0) = from_many_is (j ∷ js) (λ ds. from_one body (quantified_type op ds)) h.0 h.1 in
    let l : _ = all_typed_later j js q.0 q.1 in
    let r : _ = from_one_is body (quantified_type op q.0) h.0 q.2 in (
      h.0,
      from_many_again js l.1 (λ ds. from_one body (quantified_type op ds)) l.2
          ∙ ap (λ b. from_one b (quantified_type op l.1)) r.1
          ∙ fewer_domains op l.0 l.1 r.0 h.0 (ap (λ ts. quantified_type op ts r.0) l.3 ∙ r.2),
    )

-- a quantifier has no fault with a name less
pub quantifier_steps : (p : Place) (op : QuantOp) (d : DomainTree) (e : ExprTree) → Steps d (QuantifierStands p op d e)
unfolding faults reading_contexts inside judge
quantifier_steps p op d e name names env none =
    let c : Context = context_of env in
    let read_in : Context → Judged = λ x. judge_domain x d in
    let next : Context = put name (quantified_name (read_in c)) c in
    let own : List Fault = type_fault p (judge c (quantified p op (name ∷ names) d e)) in
    let fs : List Fault = flat_map (λ x. domain_faults x false d) (reading_contexts names read_in next) in
    let body : List Fault = faults (inside names read_in next) true e in
    let front : _ = left_none (own ++ (domain_faults c false d ++ fs)) body none in
    let domains : _ = right_none own (domain_faults c false d ++ fs) front in
    let is_typed : _ = expression_typed c (context_typed env) true (quantified p op (name ∷ names) d e) none in
    let ints : _ = quantified_readings (map read_in (reading_contexts (name ∷ names) read_in c)) (judge (inside (name ∷ names) read_in c) e) op is_typed in (
      left_none (domain_faults c false d) fs domains,
      ints.0,
      join_none (type_fault p (judge next (quantified p op names d e)) ++ fs) body
          (join_none (type_fault p (judge next (quantified p op names d e))) fs
          (typed_no_fault p (judge next (quantified p op names d e)) (fewer_typed op (read_in c) (map read_in (reading_contexts names read_in next)) (judge (inside names read_in next) e) is_typed))
          (right_none (domain_faults c false d) fs domains))
          (right_none (own ++ (domain_faults c false d ++ fs)) body none),
    )

-- what is inside
pub quantifier_inside : (p : Place) (op : QuantOp) (d : DomainTree) (e : ExprTree) (c : Context) → QuantifierStands p op d e [] c → faults c true e ≡ []
unfolding faults reading_contexts inside
quantifier_inside p op d e c none = right_none (type_fault p (judge c (quantified p op [] d e)) ++ []) (faults c true e) none

-- ---- generators

-- generators that begin with these names have no fault
abbrev pub GeneratorsStand : DomainTree → Generators → List Name → Context → Type 0
GeneratorsStand d gens names c =
    (faults_of_generators c (generator_and names d gens) ≡ []) × Integers (judge_generators c (generator_and names d gens))

pub generator_steps : (d : DomainTree) (gens : Generators) → Steps d (GeneratorsStand d gens)
unfolding faults_of_generators judge_generators reading_contexts inside
generator_steps d gens name names env h =
    let c : Context = context_of env in
    let read_in : Context → Judged = λ x. judge_domain x d in
    let next : Context = put name (quantified_name (read_in c)) c in
    let fs : List Fault = flat_map (λ x. domain_faults x false d) (reading_contexts names read_in next) in
    let rest : List Fault = faults_of_generators (inside names read_in next) gens in
    let front : _ = left_none (domain_faults c false d ++ fs) rest h.0 in (
      left_none (domain_faults c false d) fs front,
      h.1.0,
      (join_none fs rest (right_none (domain_faults c false d) fs front) (right_none (domain_faults c false d ++ fs) rest h.0), h.1.1),
    )

paired_append : (c : Context) (es os gs hs : List Env) → Paired Alike c es os → Paired Alike c gs hs → Paired Alike c (es ++ gs) (os ++ hs)
paired_append c [] [] gs hs h k = k
paired_append c [] (o ∷ os) gs hs h k = absurd h
paired_append c (e ∷ es) [] gs hs h k = absurd h
paired_append c (e ∷ es) (o ∷ os) gs hs h k = (h.0, paired_append c es os gs hs h.1 k)

paired_lists : (c : Context) (xs ys : List (List Env)) → Matched (Paired Alike c) xs ys → Paired Alike c (flat_map (λ es. es) xs) (flat_map (λ es. es) ys)
paired_lists c [] [] h = tt
paired_lists c [] (y ∷ ys) h = absurd h
paired_lists c (x ∷ xs) [] h = absurd h
paired_lists c (x ∷ xs) (y ∷ ys) h = paired_append c x y (flat_map (λ es. es) xs) (flat_map (λ es. es) ys) h.0 (paired_lists c xs ys h.1)

-- The environments that generators reach.
pub reached_alike : (mode : Mode) (gens : Generators) (env other : Env) → Alike env other → faults_of_generators (context_of env) gens ≡ []
    → Integers (judge_generators (context_of env) gens) → Paired Alike (inside_all gens (context_of env)) (reached mode env gens) (reached mode other gens)
unfolding faults_of_generators judge_generators inside_all reached all_joined reading_contexts inside
reached_alike mode no_generators env other a none ints = ((a, refl), tt)
reached_alike mode (generator_and names d gens) env other a none ints =
    let read_in : Context → Judged = λ c. judge_domain c d in
    let last : Context = inside_all gens (inside names read_in (context_of env)) in
    over_alike (Paired Alike last) mode d all_joined all_joined tt (paired_lists last) (λ inner. reached mode inner gens) (λ inner. reached mode inner gens)
    (λ ns c. GeneratorsStand d gens ns c × (inside_all gens (inside ns read_in c) ≡ last))
    (λ name ns e h. let q : _ = generator_steps d gens name ns e h.0 in (q.0, q.1, (q.2, h.1)))
    (λ e o l h. subst (λ c. Paired Alike c (reached mode e gens) (reached mode o gens)) h.1 (reached_alike mode gens e o l h.0.0 h.0.1))
    names env other a ((none, ints), refl)

-- Those of them in which conditions hold.
pub chosen_alike : (mode : Mode) (gens : Generators) (conditions : ExprTrees) (env other : Env) → Alike env other → faults_of_generators (context_of env) gens ≡ []
    → Integers (judge_generators (context_of env) gens) → faults_of_all (inside_all gens (context_of env)) false conditions ≡ []
    → Paired Alike (inside_all gens (context_of env)) (chosen mode env gens conditions) (chosen mode other gens conditions)
chosen_alike mode gens conditions env other a none ints conditions_none =
    holding_paired Alike (inside_all gens (context_of env)) (λ x. values_of mode x conditions)
    (λ e o l q. values_decided mode e o (agree_kept e o l.agree) conditions (subst (λ x. faults_of_all x false conditions ≡ []) (sym q) conditions_none))
    (reached mode env gens) (reached mode other gens) (reached_alike mode gens env other a none ints)

-- ---- a comprehension

-- what a comprehension without a fault has: generators, conditions and an expression without one
pub record Generated (p : Place) (e : ExprTree) (gens : Generators) (conditions : ExprTrees) (d : IndexDomain) (c : Context) : Type 0 where
  pub index : index_faults c d ≡ []
  pub generators : faults_of_generators c gens ≡ []
  pub conditions_none : faults_of_all (inside_all gens c) false conditions ≡ []
  pub inner : faults (inside_all gens c) true e ≡ []
  pub integers : Integers (judge_generators c gens)

pub generated : (p : Place) (e : ExprTree) (gens : Generators) (conditions : ExprTrees) (d : IndexDomain) (env : Env)
    → faults (context_of env) true (comprehension p e gens conditions d) ≡ [] → Generated p e gens conditions d (context_of env)
unfolding faults judge
generated p e gens conditions d env none =
    let c : Context = context_of env in
    let inner : Context = inside_all gens c in
    let own : List Fault = type_fault p (judge c (comprehension p e gens conditions d)) in
    let third : _ = left_none (((own ++ index_faults c d) ++ faults_of_generators c gens) ++ faults_of_all inner false conditions) (faults inner true e) none in
    let second : _ = left_none ((own ++ index_faults c d) ++ faults_of_generators c gens) (faults_of_all inner false conditions) third in
    let first : _ = left_none (own ++ index_faults c d) (faults_of_generators c gens) second in
    let is_typed : _ = expression_typed c (context_typed env) true (comprehension p e gens conditions d) none in
    record {
      index = right_none own (index_faults c d) first;
      generators = right_none (own ++ index_faults c d) (faults_of_generators c gens) second;
      conditions_none = right_none ((own ++ index_faults c d) ++ faults_of_generators c gens) (faults_of_all inner false conditions) third;
      inner = right_none (((own ++ index_faults c d) ++ faults_of_generators c gens) ++ faults_of_all inner false conditions) (faults inner true e) none;
      integers = comprehension_readings (judge_index c d) (judge_generators c gens) (judge_all inner conditions) (judge inner e) is_typed;
    }
