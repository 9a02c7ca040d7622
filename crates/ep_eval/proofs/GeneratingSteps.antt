-- The walk through the generators of a comprehension, step by step.
use Rattle.ep_eval.proofs.Words.{◌≡◌, ℕ, ◌+◌, ◌<◌, ◌≤◌, Bool, true, false, List, [], ◌∷◌, ◌++◌, length, ℤ, refl, sym, ap, subst, ◌∙◌, append_assoc, append-nil, arith, ◌&&◌, suc, is_some, Option, Some, None, flat_map, if◌then◌else◌, map, option_and_then, option_map, unwrap_or, no_some, map_both, on_both, Name, Place, evaluate-comprehension, Env, scalar_in, with_number, are_told, all_true, chosen, domain_values, domains_defined, evaluate, holding, index_values, matrix_value, over_names, reached, standing_for, values_of, Met, a_generator, a_node, met, met_all, met_domain, met_generators, met_index, met_names, DomainTree, ExprTree, ExprTrees, Generators, IndexDomain, comprehension, generator_and, no_generators, ValueTree, all_defined, with_indices, domain_tree, generators_of, Generator, Mode, numbers_at, of_all, seen_held, Held, Seen, Counts, Going, SettlesWorth, Told, own_number, Meter, how_many, listed_nodes, generated_values, lists_joined, nodes_where, part_nodes, part_value, part_where, some_joined}
use Rattle.ep_eval.proofs.GeneratingForms.{guarded, nodes_regrouped, values_regrouped}
use Rattle.ep_eval.proofs.WorthSteps.{worth_seen}
use Rattle.ep_eval.proofs.MeterSteps.{SameNodes, counted_passes, far_alone, going_begins, going_ends, going_more, joins, node_stops, node_told, node_walked, same_both, same_nodes, told_as, told_same, told_stops, told_then}

-- ---- some lists behind others

-- some parts before others, where both are there
abbrev pub before_others : Option (List ValueTree) → Option (List ValueTree) → Option (List ValueTree)
before_others values others = map_both ◌++◌ values others

pub none_before : (o : Option (List ValueTree)) → o ≡ before_others (Some []) o
unfolding map_both
none_before None = refl
none_before (Some vs) = refl

pub none_behind : (o : Option (List ValueTree)) → before_others o (Some []) ≡ o
unfolding map_both
none_behind None = refl
none_behind (Some vs) = ap Some (append-nil vs)

pub lost_behind : (o : Option (List ValueTree)) → None ≡ before_others o None
unfolding map_both
lost_behind None = refl
lost_behind (Some vs) = refl

pub regrouped : (a b c : Option (List ValueTree)) → before_others a (before_others b c) ≡ before_others (before_others a b) c
unfolding map_both
regrouped None b c = refl
regrouped (Some x) None c = refl
regrouped (Some x) (Some y) None = refl
regrouped (Some x) (Some y) (Some z) = ap Some (sym (append_assoc x y z))

pub one_behind : (values : Option (List ValueTree)) (v : Option ValueTree)
    → map_both (λ all one. all ++ one ∷ []) values v ≡ before_others values (option_map (λ x. x ∷ []) v)
unfolding map_both
one_behind None v = refl
one_behind (Some vs) None = refl
one_behind (Some vs) (Some v) = refl

-- ---- generators

inner_maps : {A B C : Type 0} (f : B → C) (g : A → B) (xs : List A) → map f (map g xs) ≡ map (λ x. f (g x)) xs
inner_maps f g [] = refl
inner_maps f g (x ∷ xs) = ap (λ ys. f (g x) ∷ ys) (inner_maps f g xs)

inner_flat : {A B C : Type 0} (f : B → List C) (g : A → B) (xs : List A) → flat_map f (map g xs) ≡ flat_map (λ x. f (g x)) xs
inner_flat f g [] = refl
inner_flat f g (x ∷ xs) = ap (λ ys. f (g x) ++ ys) (inner_flat f g xs)

-- generators of which the first has no name left are those behind it
pub nodes_bare : (mode : Mode) (e : ExprTree) (conditions : ExprTrees) (d : DomainTree) (gens : Generators) (env : Env)
    → listed_nodes mode e conditions (generator_and [] d gens) env ≡ listed_nodes mode e conditions gens env
unfolding listed_nodes met_names
nodes_bare mode e conditions d gens env = refl

pub values_bare : (mode : Mode) (e : ExprTree) (conditions : ExprTrees) (d : DomainTree) (gens : Generators) (env : Env)
    → generated_values mode e conditions (generator_and [] d gens) env ≡ generated_values mode e conditions gens env
unfolding generated_values over_names
values_bare mode e conditions d gens env = refl

-- without generators there are the conditions, and the part behind them
pub nodes_part : (mode : Mode) (e : ExprTree) (conditions : ExprTrees) (env : Env) → listed_nodes mode e conditions no_generators env ≡ part_nodes mode e conditions env
unfolding listed_nodes
nodes_part mode e conditions env = refl

pub values_part : (mode : Mode) (e : ExprTree) (conditions : ExprTrees) (env : Env) → generated_values mode e conditions no_generators env ≡ part_value mode e conditions env
unfolding generated_values
values_part mode e conditions env = refl

-- what generators with a name in front meet: the name, its domain, and what follows for each number
pub nodes_name :
    (mode : Mode) (e : ExprTree) (conditions : ExprTrees) (name : Name) (names : List Name) (d : DomainTree) (gens : Generators) (env : Env) (ns : Option (List ℤ))
    → domain_values mode env d ≡ ns
    → listed_nodes mode e conditions (generator_and (name ∷ names) d gens) env
    ≡ (a_generator ∷ [])
    ++ (met_domain mode env d ++ flat_map (λ n. listed_nodes mode e conditions (generator_and names d gens) (with_number name (scalar_in env d) n env)) (unwrap_or ns []))
unfolding listed_nodes met_names standing_for
nodes_name mode e conditions name names d gens env ns h =
    ap (λ o. (a_generator ∷ met_domain mode env d) ++ flat_map (listed_nodes mode e conditions (generator_and names d gens)) (unwrap_or (option_map (map (λ n. with_number name (scalar_in env d) n env)) o) [])) h
    ∙ by ns
  where
    by : (o : Option (List ℤ))
        → (a_generator ∷ met_domain mode env d) ++ flat_map (listed_nodes mode e conditions (generator_and names d gens)) (unwrap_or (option_map (map (λ n. with_number name (scalar_in env d) n env)) o) [])
        ≡ (a_generator ∷ []) ++ (met_domain mode env d ++ flat_map (λ n. listed_nodes mode e conditions (generator_and names d gens) (with_number name (scalar_in env d) n env)) (unwrap_or o []))
    by None = refl
    by (Some l) =
        ap (λ ms. a_generator ∷ (met_domain mode env d ++ ms))
        (inner_flat (listed_nodes mode e conditions (generator_and names d gens)) (λ n. with_number name (scalar_in env d) n env) l)

-- the parts that they lead to
pub values_name : (mode : Mode) (e : ExprTree) (conditions : ExprTrees) (name : Name) (names : List Name) (d : DomainTree) (gens : Generators) (env : Env)
    → generated_values mode e conditions (generator_and (name ∷ names) d gens) env
    ≡ some_joined (option_map (map (λ n. generated_values mode e conditions (generator_and names d gens) (with_number name (scalar_in env d) n env))) (domain_values mode env d))
unfolding generated_values over_names standing_for
values_name mode e conditions name names d gens env = by (domain_values mode env d)
  where
    by : (o : Option (List ℤ))
        → some_joined (option_map (map (generated_values mode e conditions (generator_and names d gens))) (option_map (map (λ n. with_number name (scalar_in env d) n env)) o))
        ≡ some_joined (option_map (map (λ n. generated_values mode e conditions (generator_and names d gens) (with_number name (scalar_in env d) n env))) o)
    by None = refl
    by (Some ns) = ap (λ l. some_joined (Some l)) (inner_maps (generated_values mode e conditions (generator_and names d gens)) (λ n. with_number name (scalar_in env d) n env) ns)

-- a list of generators in front
pub generators_first : (all : List Generator) (g : Generator) (later : List Generator) (d : DomainTree) (names : List Name) → all ≡ g ∷ later → domain_tree g.domain ≡ d → g.names.items ≡ names
    → generators_of all ≡ generator_and names d (generators_of later)
unfolding generators_of
generators_first all g later d names cut same own =
    ap generators_of cut ∙ ap (λ x. generator_and g.names.items x (generators_of later)) same ∙ ap (λ ns. generator_and ns d (generators_of later)) own

pub generators_none : (all : List Generator) → all ≡ [] → generators_of all ≡ no_generators
unfolding generators_of
generators_none all h = ap generators_of h

-- ---- one name

generator_is_plain : (mode : Mode) → numbers_at mode a_generator ≡ []
unfolding numbers_at
generator_is_plain mode = refl

-- a name, its domain, and what follows
pub name_told :
    (mode : Mode) (e : ExprTree) (conditions : ExprTrees) (name : Name) (names : List Name) (d : DomainTree) (gens : Generators) (env : Env) (a b c f : Meter) (numbers : Option (List ℤ))
    (values more : Option (List ValueTree))
    → Told mode a b (met_domain mode env d) (numbers ≡ domain_values mode env d) → b.passed ≡ None
    → Told mode b c (flat_map (λ n. listed_nodes mode e conditions (generator_and names d gens) (with_number name (scalar_in env d) n env)) (unwrap_or numbers []))
    (more ≡ before_others values (some_joined (option_map (map (λ n. generated_values mode e conditions (generator_and names d gens) (with_number name (scalar_in env d) n env))) numbers)))
    → Counts c f
    → Told mode a f (listed_nodes mode e conditions (generator_and (name ∷ names) d gens) env)
    (more ≡ before_others values (generated_values mode e conditions (generator_and (name ∷ names) d gens) env))
name_told mode e conditions name names d gens env a b c f numbers values more domain free all counts =
    let set : numbers ≡ domain_values mode env d = domain.told free in
    told_as a f _
    (node_walked (joins mode) a c f _ a_generator _ (nodes_name mode e conditions name names d gens env numbers (sym set))
    (told_then (joins mode) a b c _ _ domain all (λ k is. is))
    (λ none k. counted_passes c f a_generator (far_alone mode a_generator [] (generator_is_plain mode)) counts) counts.stays)
    (λ known.
    known
    ∙ ap (λ o. before_others values (some_joined (option_map (map (λ n. generated_values mode e conditions (generator_and names d gens) (with_number name (scalar_in env d) n env))) o))) set
    ∙ ap (before_others values) (sym (values_name mode e conditions name names d gens env)))

-- its domain passes a limit
pub name_stops : {P Q : Type 0} (mode : Mode) (e : ExprTree) (conditions : ExprTrees) (name : Name) (names : List Name) (d : DomainTree) (gens : Generators) (env : Env) (a b : Meter)
    → Told mode a b (met_domain mode env d) P → is_some b.passed ≡ true → Told mode a b (listed_nodes mode e conditions (generator_and (name ∷ names) d gens) env) Q
name_stops mode e conditions name names d gens env a b h some =
    node_stops (joins mode) a b _ a_generator (met_domain mode env d) _ (nodes_name mode e conditions name names d gens env (domain_values mode env d) refl) h some

-- ---- conditions and a part

all_of_them : (vs : List (Option ValueTree)) → of_all true vs ≡ all_true vs
unfolding of_all
all_of_them vs = refl

pub part_is : (mode : Mode) (e : ExprTree) (conditions : ExprTrees) (env : Env) (values more : Option (List ValueTree)) (seen : Option ValueTree)
    → Some true ≡ all_true (values_of mode env conditions) → evaluate mode env e ≡ seen → more ≡ map_both (λ all one. all ++ one ∷ []) values seen
    → more ≡ before_others values (part_value mode e conditions env)
unfolding part_value part_where
part_is mode e conditions env values more seen holds value is =
    is ∙ one_behind values seen ∙ ap (λ v. before_others values (option_map (λ x. x ∷ []) v)) (sym value)
    ∙ ap (λ o. before_others values (part_where o (evaluate mode env e))) holds

pub no_part_is : (mode : Mode) (e : ExprTree) (conditions : ExprTrees) (env : Env) (values : Option (List ValueTree)) → Some false ≡ all_true (values_of mode env conditions)
    → values ≡ before_others values (part_value mode e conditions env)
unfolding part_value part_where
no_part_is mode e conditions env values holds = sym (none_behind values) ∙ ap (λ o. before_others values (part_where o (evaluate mode env e))) holds

pub lost_part_is : (mode : Mode) (e : ExprTree) (conditions : ExprTrees) (env : Env) (values : Option (List ValueTree)) → None ≡ all_true (values_of mode env conditions)
    → None ≡ before_others values (part_value mode e conditions env)
unfolding part_value part_where
lost_part_is mode e conditions env values holds = lost_behind values ∙ ap (λ o. before_others values (part_where o (evaluate mode env e))) holds

pub part_told : (mode : Mode) (e : ExprTree) (conditions : ExprTrees) (env : Env) (a b c : Meter) (truth : Option Bool) (values more : Option (List ValueTree)) (seen : Option ValueTree)
    → Told mode a b (met_all mode env conditions) (truth ≡ of_all true (values_of mode env conditions)) → b.passed ≡ None → truth ≡ Some true
    → Told mode b c (met mode env e) (evaluate mode env e ≡ seen) → more ≡ map_both (λ all one. all ++ one ∷ []) values seen
    → Told mode a c (part_nodes mode e conditions env) (more ≡ before_others values (part_value mode e conditions env))
unfolding part_nodes nodes_where
part_told mode e conditions env a b c truth values more seen first free is second put =
    let holds : Some true ≡ all_true (values_of mode env conditions) = sym is ∙ first.told free ∙ all_of_them (values_of mode env conditions) in
    subst (λ o. Told mode a c (met_all mode env conditions ++ nodes_where o (met mode env e)) (more ≡ before_others values (part_value mode e conditions env))) holds
    (told_then (joins mode) a b c _ _ first second (λ k value. part_is mode e conditions env values more seen holds value put))

-- no part is wanted
pub no_part_told : (mode : Mode) (e : ExprTree) (conditions : ExprTrees) (env : Env) (a b : Meter) (truth : Option Bool) (values : Option (List ValueTree))
    → Told mode a b (met_all mode env conditions) (truth ≡ of_all true (values_of mode env conditions)) → b.passed ≡ None → truth ≡ Some false
    → Told mode a b (part_nodes mode e conditions env) (values ≡ before_others values (part_value mode e conditions env))
unfolding part_nodes nodes_where
no_part_told mode e conditions env a b truth values first free is =
    let holds : Some false ≡ all_true (values_of mode env conditions) = sym is ∙ first.told free ∙ all_of_them (values_of mode env conditions) in
    subst (λ o. Told mode a b (met_all mode env conditions ++ nodes_where o (met mode env e)) (values ≡ before_others values (part_value mode e conditions env))) holds
    (subst (λ l. Told mode a b l (values ≡ before_others values (part_value mode e conditions env))) (sym (append-nil (met_all mode env conditions)))
    (told_as a b _ first (λ k. no_part_is mode e conditions env values holds)))

-- a condition has no value
pub lost_part_told : (mode : Mode) (e : ExprTree) (conditions : ExprTrees) (env : Env) (a b : Meter) (truth : Option Bool) (values : Option (List ValueTree))
    → Told mode a b (met_all mode env conditions) (truth ≡ of_all true (values_of mode env conditions)) → b.passed ≡ None → truth ≡ None
    → Told mode a b (part_nodes mode e conditions env) (None ≡ before_others values (part_value mode e conditions env))
unfolding part_nodes nodes_where
lost_part_told mode e conditions env a b truth values first free is =
    let holds : None ≡ all_true (values_of mode env conditions) = sym is ∙ first.told free ∙ all_of_them (values_of mode env conditions) in
    subst (λ o. Told mode a b (met_all mode env conditions ++ nodes_where o (met mode env e)) (None ≡ before_others values (part_value mode e conditions env))) holds
    (subst (λ l. Told mode a b l (None ≡ before_others values (part_value mode e conditions env))) (sym (append-nil (met_all mode env conditions)))
    (told_as a b _ first (λ k. lost_part_is mode e conditions env values holds)))

-- a condition passes a limit
pub conditions_stop : {P Q : Type 0} (mode : Mode) (e : ExprTree) (conditions : ExprTrees) (env : Env) (a b : Meter)
    → Told mode a b (met_all mode env conditions) P → is_some b.passed ≡ true → Told mode a b (part_nodes mode e conditions env) Q
unfolding part_nodes
conditions_stop mode e conditions env a b h some = told_stops (joins mode) a b (met_all mode env conditions) _ h some

-- ---- one number after another

-- for some numbers all is evaluated, and others are left
abbrev pub ListedSoFar : Mode → (ℤ → Option (List ValueTree)) → (ℤ → List Met) → Meter → Meter → List ℤ → List ℤ → Option (List ValueTree) → Option (List ValueTree) → Type 0
ListedSoFar mode value_at nodes_at start now numbers left first values =
    Going mode start now (flat_map nodes_at numbers) (flat_map nodes_at left)
    (before_others first (lists_joined (map value_at numbers)) ≡ before_others values (lists_joined (map value_at left)))

pub listed_begins : (mode : Mode) (value_at : ℤ → Option (List ValueTree)) (nodes_at : ℤ → List Met) (start : Meter) (numbers left : List ℤ) (first : Option (List ValueTree))
    → left ≡ numbers → ListedSoFar mode value_at nodes_at start start numbers left first first
listed_begins mode value_at nodes_at start numbers left first same =
    going_begins (joins mode) start _ _ (ap (flat_map nodes_at) same) (ap (λ l. before_others first (lists_joined (map value_at l))) (sym same))

pub listed_goes_on :
    (mode : Mode) (value_at : ℤ → Option (List ValueTree)) (nodes_at : ℤ → List Met) (start now after : Meter) (numbers left rest : List ℤ) (first values more : Option (List ValueTree)) (n : ℤ)
    → ListedSoFar mode value_at nodes_at start now numbers left first values → left ≡ n ∷ rest
    → Told mode now after (nodes_at n) (more ≡ before_others values (value_at n))
    → ListedSoFar mode value_at nodes_at start after numbers rest first more
unfolding lists_joined
listed_goes_on mode value_at nodes_at start now after numbers left rest first values more n going cut told =
    going_more (joins mode) start now after _ _ (nodes_at n) _ going (ap (flat_map nodes_at) cut) told
    (λ known is.
    known ∙ ap (λ l. before_others values (lists_joined (map value_at l))) cut
    ∙ regrouped values (value_at n) (lists_joined (map value_at rest))
    ∙ ap (λ o. before_others o (lists_joined (map value_at rest))) (sym is))

pub listed_ends : (mode : Mode) (value_at : ℤ → Option (List ValueTree)) (nodes_at : ℤ → List Met) (start now : Meter) (numbers left : List ℤ) (first values : Option (List ValueTree))
    → ListedSoFar mode value_at nodes_at start now numbers left first values → left ≡ []
    → Told mode start now (flat_map nodes_at numbers) (values ≡ before_others first (lists_joined (map value_at numbers)))
unfolding lists_joined
listed_ends mode value_at nodes_at start now numbers left first values going none =
    going_ends start now _ _ going (ap (flat_map nodes_at) none)
    (λ known. sym (known ∙ ap (λ l. before_others values (lists_joined (map value_at l))) none ∙ none_behind values))

-- ---- the comprehension

-- what a comprehension meets, in the order of the definition
abbrev pub ordered_nodes : Mode → Env → ExprTree → Generators → ExprTrees → IndexDomain → List Met
ordered_nodes mode env e gens conditions d =
    ((met_generators mode env gens ++ flat_map (λ inner. met_all mode inner conditions) (reached mode env gens)) ++ flat_map (λ inner. met mode inner e) (chosen mode env gens conditions))
    ++ met_index mode env d

pub met_in_order : (mode : Mode) (env : Env) (p : Place) (e : ExprTree) (gens : Generators) (conditions : ExprTrees) (d : IndexDomain)
    → met mode env (comprehension p e gens conditions d) ≡ a_node env (comprehension p e gens conditions d) ∷ ordered_nodes mode env e gens conditions d
unfolding met
met_in_order mode env p e gens conditions d = refl

numbers_in_order : (mode : Mode) (env : Env) (p : Place) (e : ExprTree) (gens : Generators) (conditions : ExprTrees) (d : IndexDomain)
    → numbers_at mode (a_node env (comprehension p e gens conditions d)) ≡ own_number (evaluate mode env (comprehension p e gens conditions d))
unfolding numbers_at
numbers_in_order mode env p e gens conditions d = refl

pub in_order : (mode : Mode) (env : Env) (e : ExprTree) (gens : Generators) (conditions : ExprTrees) (d : IndexDomain)
    → SameNodes (listed_nodes mode e conditions gens env ++ met_index mode env d) (ordered_nodes mode env e gens conditions d)
in_order mode env e gens conditions d =
    same_both (listed_nodes mode e conditions gens env) (met_index mode env d) _ (met_index mode env d) (nodes_regrouped mode e conditions gens env) (same_nodes (met_index mode env d) (met_index mode env d) refl)

lost : (o : Option (List ℤ)) → ◌≡◌ {A = Option ValueTree} None (on_both o None with_indices)
unfolding on_both
lost None = refl
lost (Some l) = refl

as_many : (parts : List (Option ValueTree)) (vs : List ValueTree) → all_defined parts ≡ Some vs → how_many (Some vs) ≡ length parts
unfolding all_defined how_many
as_many [] vs h = sym (ap how_many h)
as_many (None ∷ parts) vs h = no_some h
as_many (Some x ∷ parts) vs h = by (as_many parts) (all_defined parts) refl h
  where
    by : ((ws : List ValueTree) → all_defined parts ≡ Some ws → how_many (Some ws) ≡ length parts)
        → (o : Option (List ValueTree)) → all_defined parts ≡ o → option_map (λ ys. x ∷ ys) o ≡ Some vs → how_many (Some vs) ≡ suc (length parts)
    by next None e k = no_some k
    by next (Some ws) e k = sym (ap how_many k) ∙ ap suc (next ws e)

-- its value is the matrix of the parts that its generators lead to
pub comprehension_is :
    (mode : Mode) (env : Env) (p : Place) (e : ExprTree) (gens : Generators) (conditions : ExprTrees) (d : IndexDomain) (set : Option (List ℤ)) (values : Option (List ValueTree)) (count : ℕ)
    → values ≡ generated_values mode e conditions gens env → count ≡ how_many values → set ≡ index_values mode env d count
    → evaluate mode env (comprehension p e gens conditions d) ≡ on_both set values with_indices
unfolding matrix_value holding
comprehension_is mode env p e gens conditions d set values count told many own =
    evaluate-comprehension mode env p e gens conditions d
    ∙ by (domains_defined mode env gens && are_told (λ inner. values_of mode inner conditions) (reached mode env gens))
    (map (λ inner. evaluate mode inner e) (chosen mode env gens conditions)) (told ∙ values_regrouped mode e conditions gens env)
  where
    cases : (parts : List (Option ValueTree)) → values ≡ all_defined parts → (o : Option (List ValueTree)) → all_defined parts ≡ o
        → on_both (index_values mode env d (length parts)) (all_defined parts) with_indices ≡ on_both set values with_indices
    cases parts h None e =
        ap (λ x. on_both (index_values mode env d (length parts)) x with_indices) e ∙ sym (lost (index_values mode env d (length parts)))
        ∙ lost set ∙ ap (λ x. on_both set x with_indices) (sym (h ∙ e))
    cases parts h (Some vs) e =
        ap (λ n. on_both (index_values mode env d n) (all_defined parts) with_indices) (sym (as_many parts vs e) ∙ sym (many ∙ ap how_many (h ∙ e)))
        ∙ ap (λ o. on_both o (all_defined parts) with_indices) (sym own)
        ∙ ap (λ x. on_both set x with_indices) (sym h)

    by : (b : Bool) (parts : List (Option ValueTree)) → values ≡ guarded b (all_defined parts)
        → (if b then on_both (index_values mode env d (length parts)) (all_defined parts) with_indices else None) ≡ on_both set values with_indices
    by false parts h = lost set ∙ ap (λ o. on_both set o with_indices) (sym h)
    by true parts h = cases parts h (all_defined parts) refl

pub comprehension_told :
    (mode : Mode) (env : Env) (p : Place) (e : ExprTree) (gens : Generators) (conditions : ExprTrees) (d : IndexDomain) (a b c f : Meter) (set : Option (List ℤ)) (first values : Option (List ValueTree)) (count : ℕ)
    (made seen : Option Held)
    → first ≡ Some [] → Told mode a b (listed_nodes mode e conditions gens env) (values ≡ before_others first (generated_values mode e conditions gens env)) → count ≡ how_many values
    → Told mode b c (met_index mode env d) (set ≡ index_values mode env d count) → seen_held made ≡ on_both set values with_indices → SettlesWorth c f (Seen made) seen
    → Told mode a f (met mode env (comprehension p e gens conditions d)) (evaluate mode env (comprehension p e gens conditions d) ≡ seen_held seen)
comprehension_told mode env p e gens conditions d a b c f set first values count made seen nothing nodes many index whole settles =
    node_told mode a c f _ (a_node env (comprehension p e gens conditions d)) _ _ (evaluate mode env (comprehension p e gens conditions d)) (Seen made) seen
    (met_in_order mode env p e gens conditions d) (numbers_in_order mode env p e gens conditions d)
    (told_same (joins mode) a c _ _ (in_order mode env e gens conditions d)
    (told_then (joins mode) a b c _ _ nodes index
    (λ told own. worth_seen (evaluate mode env (comprehension p e gens conditions d)) made
    (whole ∙ sym (comprehension_is mode env p e gens conditions d set values count
    (told ∙ ap (λ o. before_others o (generated_values mode e conditions gens env)) nothing ∙ sym (none_before (generated_values mode e conditions gens env))) many own)))))
    (λ w. w) settles
