-- A comprehension by its generators: what it meets, in the order in which it is evaluated, and its parts.
use Rattle.ep_eval.proofs.Words.{◌≡◌, ℕ, ◌+◌, ◌<◌, ◌≤◌, Bool, true, false, List, [], ◌∷◌, ◌++◌, length, ℤ, refl, sym, ap, subst, ◌∙◌, append_assoc, append-nil, arith, ◌&&◌, ◌||◌, is_some, Option, Some, None, filter, flat_map, if◌then◌else◌, map, option_and_then, option_map, unwrap_or, list_all, flat_map-append, map-append, filter-append, list_all-append, map_both, Name, Env, all_hold, all_joined, all_true, are_told, chosen, domains_defined, evaluate, holding, numbered, over_names, reached, values_of, Met, a_generator, met, met_all, met_domain, met_generators, met_names, ExprTree, ExprTrees, Generators, comprehension, generator_and, no_generators, ValueTree, all_defined, Mode, listed_nodes, generated_values, lists_joined, nodes_where, part_nodes, part_value, part_where, some_joined}
use Rattle.ep_eval.proofs.MeterSteps.{SameNodes, crossed, same_both, same_nodes, same_then}

-- ---- what generators meet

-- what names meet before what is behind them, and then that, is what they meet with it
over_many :
    (l g c p : Env → List Met) (r : Env → List Env) (h : Env → Bool)
    → ((env : Env) → SameNodes (l env) ((g env ++ flat_map c (r env)) ++ flat_map p (filter h (r env))))
    → (envs : List Env)
    → SameNodes (flat_map l envs)
    ((flat_map g envs ++ flat_map c (flat_map (λ xs. xs) (map r envs))) ++ flat_map p (filter h (flat_map (λ xs. xs) (map r envs))))
over_many l g c p r h each [] = same_nodes [] [] refl
over_many l g c p r h each (env ∷ envs) =
    let rest : List Env = flat_map (λ xs. xs) (map r envs) in
    let front : List Met = (g env ++ flat_map c (r env)) ++ flat_map p (filter h (r env)) in
    let behind : List Met = (flat_map g envs ++ flat_map c rest) ++ flat_map p (filter h rest) in
    let parts = same_both (l env) (flat_map l envs) front behind (each env) (over_many l g c p r h each envs) in
    let outer = crossed (g env ++ flat_map c (r env)) (flat_map p (filter h (r env))) (flat_map g envs ++ flat_map c rest) (flat_map p (filter h rest)) in
    let inner = crossed (g env) (flat_map c (r env)) (flat_map g envs) (flat_map c rest) in
    let last : List Met = flat_map p (filter h (r env)) ++ flat_map p (filter h rest) in
    let middle : List Met = flat_map c (r env) ++ flat_map c rest in
    same_then _ _ _ parts
    (same_then _ _ _ outer
    (same_then _ _ _
    (same_both _ last ((g env ++ flat_map g envs) ++ middle) last inner (same_nodes last last refl))
    (same_nodes _ _
    (ap (λ m. ((g env ++ flat_map g envs) ++ m) ++ last) (sym (flat_map-append c (r env) rest))
    ∙ ap (λ m. ((g env ++ flat_map g envs) ++ flat_map c (r env ++ rest)) ++ m)
    (sym (ap (flat_map p) (filter-append h (r env) rest) ∙ flat_map-append p (filter h (r env)) (filter h rest)))))))

over_one :
    (here : List Name → Env → List Met) (numbers : Name → Env → Option (List Env)) (l g c p : Env → List Met) (r : Env → List Env) (h : Env → Bool)
    → ((env : Env) → SameNodes (l env) ((g env ++ flat_map c (r env)) ++ flat_map p (filter h (r env))))
    → (names : List Name) (env : Env)
    → SameNodes (met_names here numbers l names env)
    ((met_names here numbers g names env ++ flat_map c (over_names numbers all_joined r names env)) ++ flat_map p (filter h (over_names numbers all_joined r names env)))
unfolding met_names over_names all_joined
over_one here numbers l g c p r h each [] env = each env
over_one here numbers l g c p r h each (name ∷ names) env =
    by (over_many (met_names here numbers l names) (met_names here numbers g names) c p (over_names numbers all_joined r names) h (over_one here numbers l g c p r h each names))
    (here (name ∷ names) env) (numbers name env)
  where
    by :
        ((envs : List Env) → SameNodes (flat_map (met_names here numbers l names) envs)
        ((flat_map (met_names here numbers g names) envs ++ flat_map c (flat_map (λ xs. xs) (map (over_names numbers all_joined r names) envs)))
        ++ flat_map p (filter h (flat_map (λ xs. xs) (map (over_names numbers all_joined r names) envs)))))
        → (before : List Met) (o : Option (List Env))
        → SameNodes (before ++ flat_map (met_names here numbers l names) (unwrap_or o []))
        (((before ++ flat_map (met_names here numbers g names) (unwrap_or o []))
        ++ flat_map c (all_joined (option_map (map (over_names numbers all_joined r names)) o)))
        ++ flat_map p (filter h (all_joined (option_map (map (over_names numbers all_joined r names)) o))))
    by many before None = same_nodes _ _ (sym (append-nil ((before ++ []) ++ []) ∙ append-nil (before ++ [])))
    by many before (Some envs) =
        let a : List Met = flat_map (met_names here numbers g names) envs in
        let b : List Met = flat_map c (flat_map (λ xs. xs) (map (over_names numbers all_joined r names) envs)) in
        let d : List Met = flat_map p (filter h (flat_map (λ xs. xs) (map (over_names numbers all_joined r names) envs))) in
        same_then _ _ _
        (same_both before (flat_map (met_names here numbers l names) envs) before ((a ++ b) ++ d) (same_nodes before before refl) (many envs))
        (same_nodes _ _ (sym (append_assoc before (a ++ b) d) ∙ ap (λ x. x ++ d) (sym (append_assoc before a b))))

filter_one : (h : Env → Bool) (env : Env) (b : Bool) → h env ≡ b → filter h (env ∷ []) ≡ (if b then env ∷ [] else [])
filter_one h env b e = ap (λ c. if c then env ∷ [] else []) e

one_part : (env : Env) (c : List Met) (p : Env → List Met) (h : Env → Bool) (o : Option Bool) → h env ≡ unwrap_or o false
    → SameNodes (c ++ nodes_where o (p env)) (([] ++ (c ++ [])) ++ flat_map p (filter h (env ∷ [])))
unfolding nodes_where
one_part env c p h None e = same_nodes _ _ (sym (ap (λ l. (c ++ []) ++ flat_map p l) (filter_one h env false e) ∙ append-nil (c ++ [])))
one_part env c p h (Some true) e =
    same_nodes _ _
    (sym (ap (λ l. (c ++ []) ++ flat_map p l) (filter_one h env true e) ∙ ap (λ l. l ++ (p env ++ [])) (append-nil c) ∙ ap (λ l. c ++ l) (append-nil (p env))))
one_part env c p h (Some false) e = same_nodes _ _ (sym (ap (λ l. (c ++ []) ++ flat_map p l) (filter_one h env false e) ∙ append-nil (c ++ [])))

-- what is met list of numbers by list of numbers is what the generators meet, and then all conditions, and then all parts
pub nodes_regrouped : (mode : Mode) (e : ExprTree) (conditions : ExprTrees) (gens : Generators) (env : Env)
    → SameNodes (listed_nodes mode e conditions gens env)
    ((met_generators mode env gens ++ flat_map (λ inner. met_all mode inner conditions) (reached mode env gens)) ++ flat_map (λ inner. met mode inner e) (chosen mode env gens conditions))
unfolding listed_nodes met_generators reached holding part_nodes
nodes_regrouped mode e conditions no_generators env =
    one_part env (met_all mode env conditions) (λ inner. met mode inner e) (λ inner. unwrap_or (all_true (values_of mode inner conditions)) false)
    (all_true (values_of mode env conditions)) refl
nodes_regrouped mode e conditions (generator_and names d gens) env =
    over_one (λ left inner. a_generator ∷ met_domain mode inner d) (numbered mode d) (listed_nodes mode e conditions gens)
    (λ inner. met_generators mode inner gens) (λ inner. met_all mode inner conditions) (λ inner. met mode inner e) (λ inner. reached mode inner gens)
    (λ inner. unwrap_or (all_true (values_of mode inner conditions)) false) (nodes_regrouped mode e conditions gens) names env

-- ---- the parts that generators lead to

-- a value where a condition holds
abbrev pub guarded : {A : Type 0} → Bool → Option A → Option A
guarded b o = if b then o else None

both_guarded : {A : Type 0} (a b : Bool) (p q : Option (List A)) → map_both ◌++◌ (guarded a p) (guarded b q) ≡ guarded (a && b) (map_both ◌++◌ p q)
unfolding map_both
both_guarded true true p q = refl
both_guarded true false None q = refl
both_guarded true false (Some x) q = refl
both_guarded false b p q = refl

four_ands : (a b c d : Bool) → ((a && b) && (c && d)) ≡ ((a && c) && (b && d))
four_ands false b c d = refl
four_ands true false false d = refl
four_ands true false true d = refl
four_ands true true c d = refl

put_first : {A : Type 0} (x : A) (o q : Option (List A)) → option_map (λ ys. x ∷ ys) (map_both ◌++◌ o q) ≡ map_both ◌++◌ (option_map (λ ys. x ∷ ys) o) q
unfolding map_both
put_first x None q = refl
put_first x (Some xs) None = refl
put_first x (Some xs) (Some ys) = refl

none_first : {A : Type 0} (o : Option (List A)) → o ≡ map_both ◌++◌ (Some []) o
unfolding map_both
none_first None = refl
none_first (Some xs) = refl

all_defined-append : {A : Type 0} (xs ys : List (Option A)) → all_defined (xs ++ ys) ≡ map_both ◌++◌ (all_defined xs) (all_defined ys)
unfolding all_defined map_both
all_defined-append [] ys = none_first (all_defined ys)
all_defined-append (None ∷ xs) ys = refl
all_defined-append (Some x ∷ xs) ys = ap (option_map (λ zs. x ∷ zs)) (all_defined-append xs ys) ∙ put_first x (all_defined xs) (all_defined ys)

-- the parts in the environments where conditions hold
abbrev pub parts_in : (h : Env → Bool) → (Env → Option ValueTree) → List Env → Option (List ValueTree)
parts_in h value envs = all_defined (map value (filter h envs))

parts_append : (h : Env → Bool) (value : Env → Option ValueTree) (xs ys : List Env) → parts_in h value (xs ++ ys) ≡ map_both ◌++◌ (parts_in h value xs) (parts_in h value ys)
parts_append h value xs ys =
    ap (λ l. all_defined (map value l)) (filter-append h xs ys)
    ∙ ap all_defined (map-append value (filter h xs) (filter h ys))
    ∙ all_defined-append (map value (filter h xs)) (map value (filter h ys))

told_many :
    (v : Env → Option (List ValueTree)) (d : Env → Bool) (r : Env → List Env) (t h : Env → Bool) (value : Env → Option ValueTree)
    → ((env : Env) → v env ≡ guarded (d env && list_all t (r env)) (parts_in h value (r env)))
    → (envs : List Env)
    → lists_joined (map v envs)
    ≡ guarded (list_all (λ b. b) (map d envs) && list_all t (flat_map (λ xs. xs) (map r envs))) (parts_in h value (flat_map (λ xs. xs) (map r envs)))
unfolding lists_joined all_defined
told_many v d r t h value each [] = refl
told_many v d r t h value each (env ∷ envs) =
    let rest : List Env = flat_map (λ xs. xs) (map r envs) in
    let ds : Bool = list_all (λ b. b) (map d envs) in
    ap (λ o. map_both ◌++◌ o (lists_joined (map v envs))) (each env)
    ∙ ap (map_both ◌++◌ (guarded (d env && list_all t (r env)) (parts_in h value (r env)))) (told_many v d r t h value each envs)
    ∙ both_guarded (d env && list_all t (r env)) (ds && list_all t rest) (parts_in h value (r env)) (parts_in h value rest)
    ∙ ap (λ b. guarded b (map_both ◌++◌ (parts_in h value (r env)) (parts_in h value rest))) (four_ands (d env) (list_all t (r env)) ds (list_all t rest))
    ∙ ap (λ b. guarded ((d env && ds) && b) (map_both ◌++◌ (parts_in h value (r env)) (parts_in h value rest))) (sym (list_all-append t (r env) rest))
    ∙ ap (guarded ((d env && ds) && list_all t (r env ++ rest))) (sym (parts_append h value (r env) rest))

told_one :
    (numbers : Name → Env → Option (List Env)) (v : Env → Option (List ValueTree)) (d : Env → Bool) (r : Env → List Env) (t h : Env → Bool) (value : Env → Option ValueTree)
    → ((env : Env) → v env ≡ guarded (d env && list_all t (r env)) (parts_in h value (r env)))
    → (names : List Name) (env : Env)
    → over_names numbers some_joined v names env
    ≡ guarded (over_names numbers all_hold d names env && list_all t (over_names numbers all_joined r names env)) (parts_in h value (over_names numbers all_joined r names env))
unfolding over_names some_joined all_hold all_joined
told_one numbers v d r t h value each [] env = each env
told_one numbers v d r t h value each (name ∷ names) env =
    by (told_many (over_names numbers some_joined v names) (over_names numbers all_hold d names) (over_names numbers all_joined r names) t h value (told_one numbers v d r t h value each names))
    (numbers name env)
  where
    by :
        ((envs : List Env) → lists_joined (map (over_names numbers some_joined v names) envs)
        ≡ guarded (list_all (λ b. b) (map (over_names numbers all_hold d names) envs) && list_all t (flat_map (λ xs. xs) (map (over_names numbers all_joined r names) envs)))
        (parts_in h value (flat_map (λ xs. xs) (map (over_names numbers all_joined r names) envs))))
        → (o : Option (List Env))
        → some_joined (option_map (map (over_names numbers some_joined v names)) o)
        ≡ guarded (all_hold (option_map (map (over_names numbers all_hold d names)) o) && list_all t (all_joined (option_map (map (over_names numbers all_joined r names)) o)))
        (parts_in h value (all_joined (option_map (map (over_names numbers all_joined r names)) o)))
    by many None = refl
    by many (Some envs) = many envs

one_told : (env : Env) (t h : Env → Bool) (value : Env → Option ValueTree) (o : Option Bool) → t env ≡ is_some o → h env ≡ unwrap_or o false
    → part_where o (value env) ≡ guarded (true && list_all t (env ∷ [])) (parts_in h value (env ∷ []))
unfolding part_where all_defined
one_told env t h value None told holds = ap (λ b. guarded (b && true) (parts_in h value (env ∷ []))) (sym told)
one_told env t h value (Some true) told holds =
    by (value env) ∙ ap (λ l. all_defined (map value l)) (sym (filter_one h env true holds)) ∙ ap (λ b. guarded (b && true) (parts_in h value (env ∷ []))) (sym told)
  where
    by : (v : Option ValueTree) → option_map (λ x. x ∷ []) v ≡ all_defined (v ∷ [])
    by None = refl
    by (Some x) = refl
one_told env t h value (Some false) told holds =
    ap (λ l. all_defined (map value l)) (sym (filter_one h env false holds)) ∙ ap (λ b. guarded (b && true) (parts_in h value (env ∷ []))) (sym told)

-- the parts that are gathered list of numbers by list of numbers are those of the definition
pub values_regrouped : (mode : Mode) (e : ExprTree) (conditions : ExprTrees) (gens : Generators) (env : Env)
    → generated_values mode e conditions gens env
    ≡ guarded (domains_defined mode env gens && are_told (λ inner. values_of mode inner conditions) (reached mode env gens))
    (all_defined (map (λ inner. evaluate mode inner e) (chosen mode env gens conditions)))
unfolding generated_values domains_defined reached holding are_told part_value
values_regrouped mode e conditions no_generators env =
    one_told env (λ inner. is_some (all_true (values_of mode inner conditions))) (λ inner. unwrap_or (all_true (values_of mode inner conditions)) false)
    (λ inner. evaluate mode inner e) (all_true (values_of mode env conditions)) refl refl
values_regrouped mode e conditions (generator_and names d gens) env =
    told_one (numbered mode d) (generated_values mode e conditions gens) (λ inner. domains_defined mode inner gens) (λ inner. reached mode inner gens)
    (λ inner. is_some (all_true (values_of mode inner conditions))) (λ inner. unwrap_or (all_true (values_of mode inner conditions)) false)
    (λ inner. evaluate mode inner e) (values_regrouped mode e conditions gens) names env
