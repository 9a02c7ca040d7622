-- What the indices of a read leave of cells that are alike.
use Rattle.ep_size.proofs.Words.{◌≡◌, ℕ, suc, ◌+◌, ◌*◌, Bool, true, false, List, [], ◌∷◌, ◌++◌, length, map, refl, sym, ap, subst, ◌∙◌, arith, Option, Some, None, ℤ, if◌then◌else◌, ◌||◌, ◌↔◌, IsTrue, flat_map, replicate, option_to_list, int_eq, list_any, flat_map-append, append-nil, replicate-append-replicate, has_number, holds_decision-named, Env, evaluate, number_in, MeasuredIndex, decided_index, decisions_in, extent, fixed_index, holds_decision, is_decision_name, left_by, measured_index, parts_left, whole_index, ExprTree, absolute, all_different, all_of, any_of, at_least, at_most, binary, chain, compare, comprehension, factorial, flatten, folded, gcc, group, in_domain, in_set, lex, literal, minus, named, negation, number, quantified, read, table, to_int, truth, Mode, held_value, Held, IsKnownExtent, TellsValue, grid_of, plain_span, Matrix, cell_count, Grid, as_parts, filled, listed_values, part_at, scalars_of, scalars_of_all, single, has_is, Hulls, Hulled, cells_left, is_named_tree, kept_parts, measured_of, capped, Indexed, Stated, Every, Decided}
use Rattle.std.specs.Prelude.{Contains}
use Rattle.ep_tree.specs.Reach as defined
use Rattle.ep_tree.specs.Reach.{Span}
use Rattle.std.specs.declared.alloc.Global.{Global}
use Rattle.std.specs.declared.vec.Vec.{Vec}
use Rattle.ep_size.specs.declared.extents.Extent.{Extent}
use Rattle.ep_size.specs.declared.extents.Extent.TheVariants.{Number, Cells, Fixed, Nothing, NoParts}
use Rattle.ep_size.proofs.Caps.{product_kept}
use Rattle.ep_size.proofs.ScalarParts.{cells_repeated}
use Rattle.ep_size.specs.declared.extents.Span.{Span as OneSpan}

more_parts : (n k : ℕ) → n + k * n ≡ suc k * n
more_parts n k = grind arith

no_part : (n : ℕ) → 0 ≡ 0 * n
no_part n = omega arith

-- the scalars that indices leave of a part
abbrev left_in : List MeasuredIndex → Grid Span → List Span
left_in is g = flat_map scalars_of (parts_left is g)

-- of so many alike parts
every_left : (is : List MeasuredIndex) (g : Grid Span) (s : Span) (n : ℕ) (d : List ℤ) → left_in is g ≡ replicate n s
    → flat_map scalars_of (flat_map (parts_left is) (listed_values (as_parts (map (λ i. g) d)))) ≡ replicate (length d * n) s
unfolding listed_values as_parts
every_left is g s n [] h = ap (λ k. replicate k s) (no_part n)
every_left is g s n (i ∷ d) h =
    let rest : List (Grid Span) = flat_map (parts_left is) (listed_values (as_parts (map (λ j. g) d))) in
    flat_map-append scalars_of (parts_left is g) rest
    ∙ ap (λ xs. xs ++ flat_map scalars_of rest) h ∙ ap (λ ys. replicate n s ++ ys) (every_left is g s n d h)
    ∙ replicate-append-replicate n (length d * n) s ∙ ap (λ k. replicate k s) (more_parts n (length d))

-- the part with an index, of parts that are alike
pub part_of_same : (g : Grid Span) (d : List ℤ) (k : ℤ) → part_at d (as_parts (map (λ i. g) d)) k ≡ (if has_number d k then Some g else None)
unfolding part_at as_parts has_number
part_of_same g [] k = refl
part_of_same g (j ∷ d) k =
    ap (λ o. if int_eq k j then Some g else o) (part_of_same g d k) ∙ go (int_eq k j) (list_any (λ y. int_eq k y) d)
  where
    go : (a b : Bool) → (if a then Some g else (if b then Some g else None)) ≡ (if (a || b) then Some g else None)
    go true b = refl
    go false b = refl

-- of one part, or of none
one_left : (is : List MeasuredIndex) (g : Grid Span) (s : Span) (n : ℕ) (b : Bool) → left_in is g ≡ replicate n s
    → flat_map scalars_of (flat_map (parts_left is) (option_to_list (if b then Some g else None))) ≡ replicate ((if b then 1 else 0) * n) s
one_left is g s n true h =
    ap (flat_map scalars_of) (append-nil (parts_left is g)) ∙ h ∙ ap (λ k. replicate k s) (once n)
  where
    once : (n : ℕ) → n ≡ 1 * n
    once n = omega arith
one_left is g s n false h = ap (λ k. replicate k s) (no_part n)

-- what one index leaves of parts that are alike
index_left : (i : MeasuredIndex) (is : List MeasuredIndex) (g : Grid Span) (s : Span) (n : ℕ) (d : List ℤ) → left_in is g ≡ replicate n s
    → flat_map scalars_of (flat_map (parts_left is) (left_by i d (as_parts (map (λ j. g) d)))) ≡ replicate (kept_parts i d * n) s
unfolding left_by kept_parts
index_left (fixed_index None) is g s n d h = ap (λ k. replicate k s) (no_part n)
index_left (fixed_index (Some k)) is g s n d h =
    ap (λ o. flat_map scalars_of (flat_map (parts_left is) (option_to_list o))) (part_of_same g d k) ∙ one_left is g s n (has_number d k) h
index_left whole_index is g s n d h = every_left is g s n d h
index_left (decided_index t) is g s n d h = every_left is g s n d h

-- what indices leave of cells that are alike
pub filled_left : (is : List MeasuredIndex) (s : Span) (ds : List (List ℤ))
    → flat_map scalars_of (parts_left is (filled s ds)) ≡ replicate (cells_left is ds) s
unfolding parts_left filled cells_left
filled_left [] s ds = append-nil (scalars_of (filled s ds)) ∙ cells_repeated s ds
filled_left (i ∷ is) s [] = refl
filled_left (i ∷ is) s (d ∷ ds) = index_left i is (filled s ds) s (cells_left is ds) d (filled_left is s ds)

-- ---- one index

-- a stated index leaves one value of an index domain, or none
pub stated_kept : (index : Indexed) (stated : Option ℤ) (n : ℤ) (d : List ℤ) (b : Bool) → index ≡ Stated stated → stated ≡ Some n
    → (IsTrue b ↔ Contains d n) → (if b then 1 else 0) ≡ capped (kept_parts (measured_of index) d)
unfolding kept_parts measured_of
stated_kept index stated n d b is told h =
    cap b ∙ ap (λ c. capped (if c then 1 else 0)) (has_is b d n (λ t. h.0 t) (λ t. h.1 t))
    ∙ sym (ap (λ i. capped (kept_parts (measured_of i) d)) (is ∙ ap Stated told))
  where
    cap : (c : Bool) → (if c then 1 else 0) ≡ capped (if c then 1 else 0)
    cap true = refl
    cap false = refl

pub unstated_kept : (index : Indexed) (stated : Option ℤ) (d : List ℤ) → index ≡ Stated stated → stated ≡ None
    → 0 ≡ capped (kept_parts (measured_of index) d)
unfolding kept_parts measured_of
unstated_kept index stated d is told = sym (ap (λ i. capped (kept_parts (measured_of i) d)) (is ∙ ap Stated told))

pub every_kept : (index : Indexed) (d : List ℤ) (n : ℕ) → index ≡ Every → n ≡ capped (length d) → n ≡ capped (kept_parts (measured_of index) d)
unfolding kept_parts measured_of
every_kept index d n is h = h ∙ sym (ap (λ i. capped (kept_parts (measured_of i) d)) is)

pub decided_kept : (index : Indexed) (s : OneSpan) (d : List ℤ) (n : ℕ) → index ≡ Decided s → n ≡ capped (length d) → n ≡ capped (kept_parts (measured_of index) d)
unfolding kept_parts measured_of
decided_kept index s d n is h = h ∙ sym (ap (λ i. capped (kept_parts (measured_of i) d)) is)

-- ---- one index after another

pub left_more : (all rest : List Indexed) (index : Indexed) (domains inner : List (List ℤ)) (domain : List ℤ) (a b n : ℕ)
    → all ≡ index ∷ rest → domains ≡ domain ∷ inner → a ≡ capped (kept_parts (measured_of index) domain)
    → b ≡ capped (cells_left (map measured_of rest) inner) → n ≡ capped (a * b) → n ≡ capped (cells_left (map measured_of all) domains)
unfolding cells_left
left_more all rest index domains inner domain a b n cut part first later is =
    is ∙ ap (λ x. capped (x * b)) first ∙ ap (λ y. capped (capped (kept_parts (measured_of index) domain) * y)) later
    ∙ product_kept (kept_parts (measured_of index) domain) (cells_left (map measured_of rest) inner)
    ∙ ap (λ l. capped (cells_left (map measured_of l) (domain ∷ inner))) (sym cut)
    ∙ ap (λ l. capped (cells_left (map measured_of all) l)) (sym part)

pub left_nothing : (all rest : List Indexed) (index : Indexed) (domains : List (List ℤ)) → all ≡ index ∷ rest → domains ≡ []
    → 0 ≡ capped (cells_left (map measured_of all) domains)
unfolding cells_left
left_nothing all rest index domains cut none =
    ap (λ l. capped (cells_left (map measured_of l) [])) (sym cut) ∙ ap (λ l. capped (cells_left (map measured_of all) l)) (sym none)

pub left_whole : (all : List Indexed) (domains : List (List ℤ)) (n : ℕ) → all ≡ [] → n ≡ capped (cell_count domains)
    → n ≡ capped (cells_left (map measured_of all) domains)
unfolding cells_left
left_whole all domains n none h = h ∙ ap (λ l. capped (cells_left (map measured_of l) domains)) (sym none)

-- ---- an index of which this is known

abbrev IsIndex : Mode → Env → ExprTree → Indexed → Type 0
IsIndex mode env e index =
    measured_of index ≡ measured_index (holds_decision (decisions_in env) e) (defined.span_of (extent mode env e)) (number_in (evaluate mode env e))

decided_index_is : (mode : Mode) (env : Env) (e : ExprTree) (x : Extent) (s : OneSpan) → IsKnownExtent mode env e x → plain_span s ≡ defined.span_of (grid_of x)
    → holds_decision (decisions_in env) e ≡ true → IsIndex mode env e (Decided s)
unfolding measured_of measured_index
decided_index_is mode env e x s known same held =
    ap decided_index (same ∙ ap defined.span_of (sym known.extent))
    ∙ ap (λ b. measured_index b (defined.span_of (extent mode env e)) (number_in (evaluate mode env e))) (sym held)

stated_index_is : (mode : Mode) (env : Env) (e : ExprTree) (n : Option ℤ) → holds_decision (decisions_in env) e ≡ false
    → n ≡ number_in (evaluate mode env e) → IsIndex mode env e (Stated n)
unfolding measured_of measured_index
stated_index_is mode env e n free value =
    ap fixed_index value ∙ ap (λ b. measured_index b (defined.span_of (extent mode env e)) (number_in (evaluate mode env e))) (sym free)

pub index_number : (mode : Mode) (env : Env) (e : ExprTree) (x : Extent) (s own : OneSpan) → x ≡ Number own → IsKnownExtent mode env e x
    → plain_span s ≡ defined.span_of (grid_of x) → IsIndex mode env e (Decided s)
unfolding TellsValue
index_number mode env e x s own is known same = decided_index_is mode env e x s known same (subst (IsKnownExtent mode env e) is known).value

pub index_cells : (mode : Mode) (env : Env) (e : ExprTree) (x : Extent) (s own : OneSpan) (ds : _) → x ≡ Cells own ds → IsKnownExtent mode env e x
    → plain_span s ≡ defined.span_of (grid_of x) → IsIndex mode env e (Decided s)
unfolding TellsValue
index_cells mode env e x s own ds is known same = decided_index_is mode env e x s known same (subst (IsKnownExtent mode env e) is known).value

pub index_matrix : (mode : Mode) (env : Env) (e : ExprTree) (x : Extent) (s : OneSpan) (is : Vec ℤ Global) (v : Vec Extent Global) → x ≡ Matrix is v → IsKnownExtent mode env e x
    → plain_span s ≡ defined.span_of (grid_of x) → IsIndex mode env e (Decided s)
unfolding TellsValue
index_matrix mode env e x s is v same known told = decided_index_is mode env e x s known told (subst (IsKnownExtent mode env e) same known).value

pub index_fixed : (mode : Mode) (env : Env) (e : ExprTree) (x : Extent) (h : Held) (n : Option ℤ) → x ≡ Fixed h → IsKnownExtent mode env e x
    → n ≡ number_in (Some (held_value h)) → IsIndex mode env e (Stated n)
unfolding TellsValue
index_fixed mode env e x h n is known value =
    let tells = (subst (IsKnownExtent mode env e) is known).value in
    stated_index_is mode env e n tells.0 (value ∙ ap number_in (sym tells.1))

pub index_nothing : (mode : Mode) (env : Env) (e : ExprTree) (x : Extent) → x ≡ Nothing → IsKnownExtent mode env e x → IsIndex mode env e (Stated None)
unfolding TellsValue number_in
index_nothing mode env e x is known =
    let tells = (subst (IsKnownExtent mode env e) is known).value in stated_index_is mode env e None tells.0 (ap number_in (sym tells.1))

pub index_no_parts : (mode : Mode) (env : Env) (e : ExprTree) (x : Extent) → x ≡ NoParts → IsKnownExtent mode env e x → IsIndex mode env e (Stated None)
unfolding TellsValue number_in
index_no_parts mode env e x is known =
    let tells = (subst (IsKnownExtent mode env e) is known).value in stated_index_is mode env e None tells.0 (ap number_in (sym tells.1))

-- ---- names of decision variables

pub name_cells : (env : Env) (e : ExprTree) (b : Bool) → is_named_tree e ≡ true → b ≡ holds_decision (decisions_in env) e → b ≡ is_decision_name env e
unfolding is_named_tree is_decision_name
name_cells env (named p name) b h k = k ∙ holds_decision-named (decisions_in env) p name
name_cells env (absolute x0 x1) b h k = absurd cc
name_cells env (all_different x0 x1) b h k = absurd cc
name_cells env (all_of x0 x1) b h k = absurd cc
name_cells env (any_of x0 x1) b h k = absurd cc
name_cells env (at_least x0 x1 x2 x3) b h k = absurd cc
name_cells env (at_most x0 x1 x2 x3) b h k = absurd cc
name_cells env (binary x0 x1 x2 x3) b h k = absurd cc
name_cells env (chain x0 x1) b h k = absurd cc
name_cells env (compare x0 x1 x2 x3) b h k = absurd cc
name_cells env (comprehension x0 x1 x2 x3 x4) b h k = absurd cc
name_cells env (factorial x0 x1) b h k = absurd cc
name_cells env (flatten x0 x1) b h k = absurd cc
name_cells env (folded x0 x1 x2) b h k = absurd cc
name_cells env (gcc x0 x1 x2 x3) b h k = absurd cc
name_cells env (group x0 x1) b h k = absurd cc
name_cells env (in_domain x0 x1 x2) b h k = absurd cc
name_cells env (in_set x0 x1 x2) b h k = absurd cc
name_cells env (lex x0 x1 x2 x3) b h k = absurd cc
name_cells env (literal x0 x1 x2) b h k = absurd cc
name_cells env (minus x0 x1) b h k = absurd cc
name_cells env (negation x0 x1) b h k = absurd cc
name_cells env (number x0 x1) b h k = absurd cc
name_cells env (quantified x0 x1 x2 x3 x4) b h k = absurd cc
name_cells env (read x0 x1 x2) b h k = absurd cc
name_cells env (table x0 x1 x2) b h k = absurd cc
name_cells env (to_int x0 x1) b h k = absurd cc
name_cells env (truth x0 x1) b h k = absurd cc

pub no_name : (env : Env) (e : ExprTree) → is_named_tree e ≡ false → false ≡ is_decision_name env e
unfolding is_named_tree is_decision_name
no_name env (named p name) h = absurd cc
no_name env (absolute x0 x1) h = refl
no_name env (all_different x0 x1) h = refl
no_name env (all_of x0 x1) h = refl
no_name env (any_of x0 x1) h = refl
no_name env (at_least x0 x1 x2 x3) h = refl
no_name env (at_most x0 x1 x2 x3) h = refl
no_name env (binary x0 x1 x2 x3) h = refl
no_name env (chain x0 x1) h = refl
no_name env (compare x0 x1 x2 x3) h = refl
no_name env (comprehension x0 x1 x2 x3 x4) h = refl
no_name env (factorial x0 x1) h = refl
no_name env (flatten x0 x1) h = refl
no_name env (folded x0 x1 x2) h = refl
no_name env (gcc x0 x1 x2 x3) h = refl
no_name env (group x0 x1) h = refl
no_name env (in_domain x0 x1 x2) h = refl
no_name env (in_set x0 x1 x2) h = refl
no_name env (lex x0 x1 x2 x3) h = refl
no_name env (literal x0 x1 x2) h = refl
no_name env (minus x0 x1) h = refl
no_name env (negation x0 x1) h = refl
no_name env (number x0 x1) h = refl
no_name env (quantified x0 x1 x2 x3 x4) h = refl
no_name env (read x0 x1 x2) h = refl
no_name env (table x0 x1 x2) h = refl
no_name env (to_int x0 x1) h = refl
no_name env (truth x0 x1) h = refl

pub number_known : (mode : Mode) (env : Env) (e : ExprTree) (x : Extent) (own : OneSpan) → x ≡ Number own → IsKnownExtent mode env e x → true ≡ holds_decision (decisions_in env) e
unfolding TellsValue
number_known mode env e x own is known = sym (subst (IsKnownExtent mode env e) is known).value

pub cells_known : (mode : Mode) (env : Env) (e : ExprTree) (x : Extent) (own : OneSpan) (ds : _) → x ≡ Cells own ds → IsKnownExtent mode env e x → true ≡ holds_decision (decisions_in env) e
unfolding TellsValue
cells_known mode env e x own ds is known = sym (subst (IsKnownExtent mode env e) is known).value

pub matrix_known : (mode : Mode) (env : Env) (e : ExprTree) (x : Extent) (is : Vec ℤ Global) (v : Vec Extent Global) → x ≡ Matrix is v → IsKnownExtent mode env e x
    → true ≡ holds_decision (decisions_in env) e
unfolding TellsValue
matrix_known mode env e x is v same known = sym (subst (IsKnownExtent mode env e) same known).value

pub fixed_known : (mode : Mode) (env : Env) (e : ExprTree) (x : Extent) (h : Held) → x ≡ Fixed h → IsKnownExtent mode env e x → false ≡ holds_decision (decisions_in env) e
unfolding TellsValue
fixed_known mode env e x h is known = sym (subst (IsKnownExtent mode env e) is known).value.0

pub nothing_known : (mode : Mode) (env : Env) (e : ExprTree) (x : Extent) → x ≡ Nothing → IsKnownExtent mode env e x → false ≡ holds_decision (decisions_in env) e
unfolding TellsValue
nothing_known mode env e x is known = sym (subst (IsKnownExtent mode env e) is known).value.0

pub no_parts_known : (mode : Mode) (env : Env) (e : ExprTree) (x : Extent) → x ≡ NoParts → IsKnownExtent mode env e x → false ≡ holds_decision (decisions_in env) e
unfolding TellsValue
no_parts_known mode env e x is known = sym (subst (IsKnownExtent mode env e) is known).value.0

-- ---- what is left

-- a number without indices
pub number_whole : (is : List Indexed) (s : Span) → is ≡ [] → replicate 1 s ≡ flat_map scalars_of (parts_left (map measured_of is) (single s))
unfolding parts_left scalars_of
number_whole is s none = ap (λ l. flat_map scalars_of (parts_left (map measured_of l) (single s))) (sym none)

-- a number with one
pub number_gone : (is rest : List Indexed) (i : Indexed) (s : Span) → is ≡ i ∷ rest → [] ≡ flat_map scalars_of (parts_left (map measured_of is) (single s))
unfolding parts_left scalars_of
number_gone is rest i s cut = ap (λ l. flat_map scalars_of (parts_left (map measured_of l) (single s))) (sym cut)

-- what is left of a value of which this is known
pub number_left_of : (t : Hulled) (is : List MeasuredIndex) (x : Extent) (s : OneSpan) → x ≡ Number s → Hulls t (flat_map scalars_of (parts_left is (single (plain_span s))))
    → Hulls t (flat_map scalars_of (parts_left is (grid_of x)))
unfolding grid_of
number_left_of t is x s same h = subst (λ y. Hulls t (flat_map scalars_of (parts_left is (grid_of y)))) (sym same) h

pub cells_left_of : (t : Hulled) (is : List MeasuredIndex) (x : Extent) (s : OneSpan) (ds : _) (lists : List (List ℤ)) → x ≡ Cells s ds → grid_of (Cells s ds) ≡ filled (plain_span s) lists
    → Hulls t (flat_map scalars_of (parts_left is (filled (plain_span s) lists))) → Hulls t (flat_map scalars_of (parts_left is (grid_of x)))
cells_left_of t is x s ds lists same grid h =
    subst (λ g. Hulls t (flat_map scalars_of (parts_left is g))) (sym (ap grid_of same ∙ grid)) h

pub nothing_left_of : (t : Hulled) (is : List MeasuredIndex) (x : Extent) (s : OneSpan) → x ≡ Nothing → plain_span s ≡ defined.fixed_span None
    → Hulls t (flat_map scalars_of (parts_left is (single (plain_span s)))) → Hulls t (flat_map scalars_of (parts_left is (grid_of x)))
unfolding grid_of
nothing_left_of t is x s same none h =
    subst (λ y. Hulls t (flat_map scalars_of (parts_left is (grid_of y)))) (sym same)
    (subst (λ c. Hulls t (flat_map scalars_of (parts_left is (single c)))) none h)

pub none_left : (is : List MeasuredIndex) → flat_map scalars_of (parts_left is defined.no_extent) ≡ []
unfolding parts_left left_by scalars_of scalars_of_all listed_values part_at
none_left [] = refl
none_left (fixed_index None ∷ is) = refl
none_left (fixed_index (Some n) ∷ is) = refl
none_left (whole_index ∷ is) = refl
none_left (decided_index s ∷ is) = refl

pub no_parts_left_of : (t : Hulled) (is : List MeasuredIndex) (x : Extent) → x ≡ NoParts → Hulls t [] → Hulls t (flat_map scalars_of (parts_left is (grid_of x)))
unfolding grid_of
no_parts_left_of t is x same h = subst (λ y. Hulls t (flat_map scalars_of (parts_left is (grid_of y)))) (sym same) (subst (Hulls t) (sym (none_left is)) h)
