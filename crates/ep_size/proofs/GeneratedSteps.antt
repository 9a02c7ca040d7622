-- Comprehensions that hold a decision variable: the walk through their generators, and their parts.
use Rattle.ep_size.proofs.Words.{◌≡◌, ℕ, ◌+◌, ◌<◌, ◌≤◌, Bool, true, false, ℤ, List, [], ◌∷◌, ◌++◌, length, refl, sym, ap, subst, ◌∙◌, append_assoc, append-nil, arith, ◌&&◌, Option, Result, Some, None, filter, flat_map, if◌then◌else◌, map, option_map, unwrap_or, is_some, map-append, filter-append, all_one, is_one, Name, Place, extent-comprehension, Env, scalar_in, with_number, all_joined, all_true, chosen, domain_values, evaluate, holding, index_values, number_in, numbered, over_names, reached, standing_for, truth_of, values_of, Met, a_generator, decided_weight, met, met_all, met_domain, met_index, number_reach, reaches_at, decisions_in, extent, holds_decision, matrix_extent, measured_indices, DomainTree, ExprTree, ExprTrees, Generators, IndexDomain, comprehension, generator_and, no_generators, ValueTree, all_defined, as_parts, matrix, expr_tree, expr_trees, Expr, Mode, listed_nodes, nodes_where, part_nodes, in_order, met_in_order, nodes_name, ordered_nodes, Counts, Meter, IsKnownExtent, grid_of, listed_extents, part_extents, IsMatrixNode, ListsExtent, Going, SettlesMade, Told, SizeError, Totals}
use Rattle.ep_size.proofs.LookSteps.{and_again}
use Rattle.ep_tree.specs.Reach as defined
use Rattle.ep_size.proofs.FormSteps.{measured_decided, own_weight}
use Rattle.ep_size.proofs.IndexParts.{literal_grid, met_first, none_met}
use Rattle.ep_size.proofs.ListNodes.{lists_finish}
use Rattle.ep_size.proofs.MeterSteps.{going_begins, going_ends, going_more, name_counted, node_stops, node_told, told_as, told_same, told_stops, told_then}
use Rattle.ep_size.specs.declared.extents.Extent.{Extent}

-- ---- conditions

-- whether some conditions are all true
abbrev pub hold_all : Mode → Env → List Expr → Bool
hold_all mode env xs = unwrap_or (all_true (values_of mode env (expr_trees xs))) false

hold_none : (mode : Mode) (env : Env) → hold_all mode env [] ≡ true
unfolding all_true values_of expr_trees all_defined all_one
hold_none mode env = refl

one_and_others : (v : Option ValueTree) (vs : List (Option ValueTree)) → unwrap_or (all_true (v ∷ vs)) false ≡ (unwrap_or (truth_of v) false && unwrap_or (all_true vs) false)
unfolding all_true all_defined all_one
one_and_others v vs = by (number_in v) (map number_in vs)
  where
    never : (b : Bool) → false ≡ (b && false)
    never true = refl
    never false = refl

    go : (n : ℤ) (o : Option (List ℤ)) → unwrap_or (option_map all_one (option_map (λ ns. n ∷ ns) o)) false ≡ (is_one n && unwrap_or (option_map all_one o) false)
    go n None = never (is_one n)
    go n (Some ns) = refl

    by : (o : Option ℤ) (rest : List (Option ℤ))
        → unwrap_or (option_map all_one (all_defined (o ∷ rest))) false ≡ (unwrap_or (option_map is_one o) false && unwrap_or (option_map all_one (all_defined rest)) false)
    by None rest = refl
    by (Some n) rest = go n (all_defined rest)

hold_more : (mode : Mode) (env : Env) (x : Expr) (xs : List Expr)
    → hold_all mode env (x ∷ xs) ≡ (unwrap_or (truth_of (evaluate mode env (expr_tree x))) false && hold_all mode env xs)
unfolding values_of expr_trees
hold_more mode env x xs = one_and_others (evaluate mode env (expr_tree x)) (values_of mode env (expr_trees xs))

-- one condition more is told
hold_next : (mode : Mode) (env : Env) (all : Bool) (x : Expr) (left rest : List Expr) (before one now : Bool) → left ≡ x ∷ rest
    → one ≡ unwrap_or (truth_of (evaluate mode env (expr_tree x))) false → now ≡ (before && one)
    → all ≡ (before && hold_all mode env left) → all ≡ (now && hold_all mode env rest)
hold_next mode env all x left rest before one now cut told is h =
    h ∙ ap (λ xs. before && hold_all mode env xs) cut ∙ ap (λ b. before && b) (hold_more mode env x rest)
    ∙ ap (λ b. before && (b && hold_all mode env rest)) (sym told) ∙ sym (and_again before one (hold_all mode env rest))
    ∙ ap (λ b. b && hold_all mode env rest) (sym is)

-- all are told
hold_whole : (mode : Mode) (env : Env) (all : Bool) (left : List Expr) (now : Bool) → left ≡ [] → all ≡ (now && hold_all mode env left) → now ≡ all
hold_whole mode env all left now none h =
    sym (h ∙ ap (λ xs. now && hold_all mode env xs) none ∙ ap (λ b. now && b) (hold_none mode env) ∙ whole now)
  where
    whole : (b : Bool) → (b && true) ≡ b
    whole true = refl
    whole false = refl

-- some conditions are told, and these are left
abbrev pub ConditionsSoFar : Mode → Env → Totals → Totals → List Expr → List Expr → Bool → Type 0
ConditionsSoFar mode env start now all left holds =
    Going mode start now (met_all mode env (expr_trees all)) (met_all mode env (expr_trees left)) (hold_all mode env all ≡ (holds && hold_all mode env left))

pub conditions_begin : (mode : Mode) (env : Env) (start : Totals) (all : List Expr) → ConditionsSoFar mode env start start all all true
conditions_begin mode env start all = going_begins mode start _ _ refl refl

pub conditions_more : (mode : Mode) (env : Env) (start now after : Totals) (all left : List Expr) (x : Expr) (rest : List Expr) (before one more : Bool) (v : Option ValueTree)
    → ConditionsSoFar mode env start now all left before → left ≡ x ∷ rest → Told mode now after (met mode env (expr_tree x)) (evaluate mode env (expr_tree x) ≡ v)
    → one ≡ unwrap_or (truth_of v) false → more ≡ (before && one) → ConditionsSoFar mode env start after all rest more
conditions_more mode env start now after all left x rest before one more v g cut told is now_holds =
    going_more mode start now after _ _ (met mode env (expr_tree x)) _ g (ap (λ l. met_all mode env (expr_trees l)) cut ∙ met_first mode env x rest) told
    (λ so_far value. hold_next mode env (hold_all mode env all) x left rest before one more cut (is ∙ ap (λ w. unwrap_or (truth_of w) false) (sym value)) now_holds so_far)

pub conditions_end : (mode : Mode) (env : Env) (start now : Totals) (all left : List Expr) (holds : Bool) → ConditionsSoFar mode env start now all left holds → left ≡ []
    → Told mode start now (met_all mode env (expr_trees all)) (holds ≡ hold_all mode env all)
conditions_end mode env start now all left holds g none =
    going_ends mode start now _ _ g (ap (λ l. met_all mode env (expr_trees l)) none ∙ none_met mode env)
    (λ so_far. hold_whole mode env (hold_all mode env all) left holds none so_far)

-- ---- what is known of the parts that generators lead to

-- of generators of which the first has no name left it is what those behind it lead to
pub extents_bare : (mode : Mode) (e : ExprTree) (conditions : ExprTrees) (d : DomainTree) (gens : Generators) (env : Env)
    → listed_extents mode e conditions (generator_and [] d gens) env ≡ listed_extents mode e conditions gens env
unfolding listed_extents reached over_names
extents_bare mode e conditions d gens env = refl

-- without generators it is the part, where the conditions hold
pub extents_part : (mode : Mode) (e : ExprTree) (conditions : ExprTrees) (env : Env)
    → listed_extents mode e conditions no_generators env ≡ part_extents mode e conditions env
unfolding listed_extents reached holding part_extents
extents_part mode e conditions env = by (unwrap_or (all_true (values_of mode env conditions)) false)
  where
    by : (b : Bool) → map (λ inner. extent mode inner e) (if b then env ∷ [] else []) ≡ (if b then extent mode env e ∷ [] else [])
    by true = refl
    by false = refl

joined_extents : (h : Env → Bool) (x : Env → defined.Extent) (r : Env → List Env) (w : ℤ → Env) (ns : List ℤ)
    → map x (filter h (flat_map (λ xs. xs) (map r (map w ns)))) ≡ flat_map (λ n. map x (filter h (r (w n)))) ns
joined_extents h x r w [] = refl
joined_extents h x r w (n ∷ ns) =
    let rest : List Env = flat_map (λ xs. xs) (map r (map w ns)) in
    ap (map x) (filter-append h (r (w n)) rest) ∙ map-append x (filter h (r (w n))) (filter h rest)
    ∙ ap (λ l. map x (filter h (r (w n))) ++ l) (joined_extents h x r w ns)

-- with a name in front it is what follows for each number
pub extents_name : (mode : Mode) (e : ExprTree) (conditions : ExprTrees) (name : Name) (names : List Name) (d : DomainTree) (gens : Generators) (env : Env) (o : Option (List ℤ))
    → domain_values mode env d ≡ o
    → listed_extents mode e conditions (generator_and (name ∷ names) d gens) env
    ≡ flat_map (λ n. listed_extents mode e conditions (generator_and names d gens) (with_number name (scalar_in env d) n env)) (unwrap_or o [])
unfolding listed_extents reached over_names standing_for all_joined holding
extents_name mode e conditions name names d gens env o told =
    let h : Env → Bool = λ inner. unwrap_or (all_true (values_of mode inner conditions)) false in
    let x : Env → defined.Extent = λ inner. extent mode inner e in
    let r : Env → List Env = over_names (numbered mode d) all_joined (λ inner. reached mode inner gens) names in
    let w : ℤ → Env = λ n. with_number name (scalar_in env d) n env in
    ap (λ q. map x (filter h (all_joined (option_map (map r) (option_map (map w) q))))) told ∙ by h x r w o
  where
    by : (h : Env → Bool) (x : Env → defined.Extent) (r : Env → List Env) (w : ℤ → Env) (q : Option (List ℤ))
        → map x (filter h (all_joined (option_map (map r) (option_map (map w) q)))) ≡ flat_map (λ n. map x (filter h (r (w n)))) (unwrap_or q [])
    by h x r w None = refl
    by h x r w (Some ns) = joined_extents h x r w ns

-- ---- a name of a generator

-- a name, its domain, and what follows
pub name_told :
    (mode : Mode) (e : ExprTree) (conditions : ExprTrees) (name : Name) (names : List Name) (d : DomainTree) (gens : Generators) (env : Env) (a b c : Totals) (after : Meter) (numbers : Option (List ℤ))
    (front more : List defined.Extent)
    → Told mode a b (met_domain mode env d) (numbers ≡ domain_values mode env d) → b.meter.passed ≡ None
    → Told mode b c (flat_map (λ n. listed_nodes mode e conditions (generator_and names d gens) (with_number name (scalar_in env d) n env)) (unwrap_or numbers []))
    (more ≡ front ++ flat_map (λ n. listed_extents mode e conditions (generator_and names d gens) (with_number name (scalar_in env d) n env)) (unwrap_or numbers []))
    → Counts c.meter after
    → Told mode a (record { meter = after; weight = c.weight }) (listed_nodes mode e conditions (generator_and (name ∷ names) d gens) env)
    (more ≡ front ++ listed_extents mode e conditions (generator_and (name ∷ names) d gens) env)
name_told mode e conditions name names d gens env a b c after numbers front more domain free all counts =
    let set : numbers ≡ domain_values mode env d = (domain.told free).1 in
    told_as mode a (record { meter = after; weight = c.weight }) _
    (name_counted mode a c after _ _ (nodes_name mode e conditions name names d gens env numbers (sym set)) (told_then mode a b c _ _ domain all (λ k is. is)) counts)
    (λ is. is ∙ ap (λ l. front ++ l) (sym (extents_name mode e conditions name names d gens env numbers (sym set))))

-- its domain passes a limit
pub name_stops : {P Q : Type 0} (mode : Mode) (e : ExprTree) (conditions : ExprTrees) (name : Name) (names : List Name) (d : DomainTree) (gens : Generators) (env : Env) (a b : Totals)
    → Told mode a b (met_domain mode env d) P → is_some b.meter.passed ≡ true → Told mode a b (listed_nodes mode e conditions (generator_and (name ∷ names) d gens) env) Q
name_stops mode e conditions name names d gens env a b h some =
    node_stops mode a b _ a_generator (met_domain mode env d) _ (nodes_name mode e conditions name names d gens env (domain_values mode env d) refl) h some

-- ---- conditions and a part

nodes_if : (o : Option Bool) (ms : List Met) → nodes_where o ms ≡ (if unwrap_or o false then ms else [])
unfolding nodes_where
nodes_if None ms = refl
nodes_if (Some true) ms = refl
nodes_if (Some false) ms = refl

pub part_met : (mode : Mode) (e : ExprTree) (conditions : ExprTrees) (env : Env) (b : Bool) → b ≡ unwrap_or (all_true (values_of mode env conditions)) false
    → part_nodes mode e conditions env ≡ met_all mode env conditions ++ (if b then met mode env e else [])
unfolding part_nodes
part_met mode e conditions env b is =
    ap (λ ms. met_all mode env conditions ++ ms) (nodes_if (all_true (values_of mode env conditions)) (met mode env e))
    ∙ ap (λ c. met_all mode env conditions ++ (if c then met mode env e else [])) (sym is)

pub part_known : (mode : Mode) (e : ExprTree) (conditions : ExprTrees) (env : Env) (b : Bool) → b ≡ unwrap_or (all_true (values_of mode env conditions)) false
    → part_extents mode e conditions env ≡ (if b then extent mode env e ∷ [] else [])
unfolding part_extents
part_known mode e conditions env b is = ap (λ c. if c then extent mode env e ∷ [] else []) (sym is)

-- one part more is known
pub part_is : (mode : Mode) (e : ExprTree) (conditions : ExprTrees) (env : Env) (front more : List Extent) (one : Extent) (holds : Bool)
    → holds ≡ unwrap_or (all_true (values_of mode env conditions)) false → holds ≡ true → extent mode env e ≡ grid_of one → more ≡ front ++ one ∷ []
    → map grid_of more ≡ map grid_of front ++ part_extents mode e conditions env
part_is mode e conditions env front more one holds is sure known pushed =
    ap (map grid_of) pushed ∙ map-append grid_of front (one ∷ []) ∙ ap (λ g. map grid_of front ++ g ∷ []) (sym known)
    ∙ ap (λ l. map grid_of front ++ l) (sym (part_known mode e conditions env true (sym sure ∙ is)))

pub no_part_is : (mode : Mode) (e : ExprTree) (conditions : ExprTrees) (env : Env) (front : List Extent) (holds : Bool)
    → holds ≡ unwrap_or (all_true (values_of mode env conditions)) false → holds ≡ false
    → map grid_of front ≡ map grid_of front ++ part_extents mode e conditions env
no_part_is mode e conditions env front holds is never =
    sym (ap (λ l. map grid_of front ++ l) (part_known mode e conditions env false (sym never ∙ is)) ∙ append-nil (map grid_of front))

-- conditions and the part behind them
pub part_told : (mode : Mode) (e : ExprTree) (conditions : ExprTrees) (env : Env) (a b c : Totals) (front more : List Extent) (one : Extent) (holds : Bool)
    → Told mode a b (met_all mode env conditions) (holds ≡ unwrap_or (all_true (values_of mode env conditions)) false) → b.meter.passed ≡ None → holds ≡ true
    → Told mode b c (met mode env e) (IsKnownExtent mode env e one) → more ≡ front ++ one ∷ []
    → Told mode a c (part_nodes mode e conditions env) (map grid_of more ≡ map grid_of front ++ part_extents mode e conditions env)
part_told mode e conditions env a b c front more one holds first free sure second pushed =
    let is = (first.told free).1 in
    subst (λ ms. Told mode a c ms (map grid_of more ≡ map grid_of front ++ part_extents mode e conditions env)) (sym (part_met mode e conditions env true (sym sure ∙ is)))
    (told_then mode a b c _ _ first second (λ k known. part_is mode e conditions env front more one holds is sure known.extent pushed))

pub no_part_told : (mode : Mode) (e : ExprTree) (conditions : ExprTrees) (env : Env) (a b : Totals) (front : List Extent) (holds : Bool)
    → Told mode a b (met_all mode env conditions) (holds ≡ unwrap_or (all_true (values_of mode env conditions)) false) → b.meter.passed ≡ None → holds ≡ false
    → Told mode a b (part_nodes mode e conditions env) (map grid_of front ≡ map grid_of front ++ part_extents mode e conditions env)
no_part_told mode e conditions env a b front holds first free never =
    let is = (first.told free).1 in
    subst (λ ms. Told mode a b ms (map grid_of front ≡ map grid_of front ++ part_extents mode e conditions env))
    (sym (part_met mode e conditions env false (sym never ∙ is) ∙ append-nil (met_all mode env conditions)))
    (told_as mode a b _ first (λ k. no_part_is mode e conditions env front holds is never))

pub conditions_stop : {P Q : Type 0} (mode : Mode) (e : ExprTree) (conditions : ExprTrees) (env : Env) (a b : Totals)
    → Told mode a b (met_all mode env conditions) P → is_some b.meter.passed ≡ true → Told mode a b (part_nodes mode e conditions env) Q
unfolding part_nodes
conditions_stop mode e conditions env a b h some = told_stops mode a b (met_all mode env conditions) _ h some

pub nothing_behind : (l behind : List defined.Extent) → behind ≡ [] → l ≡ l ++ behind
nothing_behind l behind none = sym (ap (λ x. l ++ x) none ∙ append-nil l)

-- ---- one number after another

-- for some numbers all is measured and known, and others are left
abbrev pub ListedSoFar : Mode → (ℤ → List defined.Extent) → (ℤ → List Met) → Totals → Totals → List ℤ → List ℤ → List defined.Extent → List defined.Extent → Type 0
ListedSoFar mode known_at nodes_at start now numbers left front more =
    Going mode start now (flat_map nodes_at numbers) (flat_map nodes_at left) (front ++ flat_map known_at numbers ≡ more ++ flat_map known_at left)

pub listed_begins : (mode : Mode) (known_at : ℤ → List defined.Extent) (nodes_at : ℤ → List Met) (start : Totals) (numbers left : List ℤ) (front : List defined.Extent)
    → left ≡ numbers → ListedSoFar mode known_at nodes_at start start numbers left front front
listed_begins mode known_at nodes_at start numbers left front same =
    going_begins mode start _ _ (ap (flat_map nodes_at) same) (ap (λ l. front ++ flat_map known_at l) (sym same))

pub listed_goes_on : (mode : Mode) (known_at : ℤ → List defined.Extent) (nodes_at : ℤ → List Met) (start now after : Totals) (numbers left rest : List ℤ) (front more next : List defined.Extent) (n : ℤ)
    → ListedSoFar mode known_at nodes_at start now numbers left front more → left ≡ n ∷ rest → Told mode now after (nodes_at n) (next ≡ more ++ known_at n)
    → ListedSoFar mode known_at nodes_at start after numbers rest front next
listed_goes_on mode known_at nodes_at start now after numbers left rest front more next n g cut told =
    going_more mode start now after _ _ (nodes_at n) _ g (ap (flat_map nodes_at) cut) told
    (λ so_far is.
    so_far ∙ ap (λ l. more ++ flat_map known_at l) cut ∙ sym (append_assoc more (known_at n) (flat_map known_at rest)) ∙ ap (λ l. l ++ flat_map known_at rest) (sym is))

pub listed_ends : (mode : Mode) (known_at : ℤ → List defined.Extent) (nodes_at : ℤ → List Met) (start now : Totals) (numbers left : List ℤ) (front more : List defined.Extent)
    → ListedSoFar mode known_at nodes_at start now numbers left front more → left ≡ [] → Told mode start now (flat_map nodes_at numbers) (more ≡ front ++ flat_map known_at numbers)
listed_ends mode known_at nodes_at start now numbers left front more g none =
    going_ends mode start now _ _ g (ap (flat_map nodes_at) none)
    (λ so_far. sym (so_far ∙ ap (λ l. more ++ flat_map known_at l) none ∙ append-nil more))

-- ---- the comprehension

-- a comprehension is a matrix of its parts
pub comprehension_node : (mode : Mode) (env : Env) (p : Place) (e : ExprTree) (gens : Generators) (conditions : ExprTrees) (d : IndexDomain) (set : Option (List ℤ)) (ys : List Extent)
    → holds_decision (decisions_in env) (comprehension p e gens conditions d) ≡ true → map grid_of ys ≡ listed_extents mode e conditions gens env
    → ((n : ℕ) → measured_indices set n ≡ measured_indices (index_values mode env d n) n)
    → IsMatrixNode mode env (comprehension p e gens conditions d) (matrix (measured_indices set (length ys)) (as_parts (map grid_of ys)))
unfolding reaches_at decided_weight number_reach listed_extents
comprehension_node mode env p e gens conditions d set ys held known same =
    let own : ExprTree = comprehension p e gens conditions d in
    let parts : List defined.Extent = map (λ inner. extent mode inner e) (chosen mode env gens conditions) in
    record {
      plain = refl;
      none = refl;
      value =
          extent-comprehension mode env p e gens conditions d
          ∙ measured_decided mode env own (matrix_extent (index_values mode env d) parts) held
          ∙ ap (matrix_extent (index_values mode env d)) (sym known) ∙ literal_grid (index_values mode env d) set ys same;
      holds = held;
      weight = own_weight mode env own 0 held refl;
    }

pub comprehension_told :
    (mode : Mode) (env : Env) (p : Place) (e : ExprTree) (gens : Generators) (conditions : ExprTrees) (d : IndexDomain) (a b c f : Totals) (set : Option (List ℤ)) (front ys : List Extent)
    (made : Result Extent SizeError) (x : Extent)
    → front ≡ [] → Told mode a b (listed_nodes mode e conditions gens env) (map grid_of ys ≡ map grid_of front ++ listed_extents mode e conditions gens env)
    → Told mode b c (met_index mode env d) ((n : ℕ) → measured_indices set n ≡ measured_indices (index_values mode env d n) n)
    → holds_decision (decisions_in env) (comprehension p e gens conditions d) ≡ true
    → ListsExtent made (matrix (measured_indices set (length ys)) (as_parts (map grid_of ys))) → SettlesMade c f made x
    → Told mode a f (met mode env (comprehension p e gens conditions d)) (IsKnownExtent mode env (comprehension p e gens conditions d) x)
comprehension_told mode env p e gens conditions d a b c f set front ys made x nothing nodes index held lists settles =
    let both : Told mode a c (listed_nodes mode e conditions gens env ++ met_index mode env d)
    ((map grid_of ys ≡ map grid_of front ++ listed_extents mode e conditions gens env) × ((n : ℕ) → measured_indices set n ≡ measured_indices (index_values mode env d n) n)) =
    told_then mode a b c _ _ nodes index (λ known same. (known, same)) in
    node_told mode env (comprehension p e gens conditions d) a c c f (ordered_nodes mode env e gens conditions d) made x (met_in_order mode env p e gens conditions d)
    (told_same mode a c _ _ (in_order mode env e gens conditions d) both) refl
    (λ known. lists_finish mode env _ _ c.weight made
    (comprehension_node mode env p e gens conditions d set ys held (known.0 ∙ ap (λ l. map grid_of l ++ listed_extents mode e conditions gens env) nothing) known.1) lists)
    settles
