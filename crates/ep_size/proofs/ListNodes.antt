-- Nodes that hold a decision variable and are matrices.
use Rattle.ep_size.proofs.Words.{◌≡◌, ℕ, ◌+◌, ◌<◌, ◌≤◌, ℤ, true, List, [], ◌∷◌, ◌++◌, length, take, get_or, refl, sym, ap, subst, ◌∙◌, arith, Ok, Err, length-map, map-append, take_all, take_more, IfOk, map, Result, pos, counting, Place, extent-flatten, Env, a_node, decided_weight, number_reach, reaches_at, decisions_in, extent, holds_decision, ExprTree, flatten, as_parts, list_value, matrix, scalars_of, single, value_and, Mode, IsKnownExtent, TellsValue, grid_of, grids_from, plain_span, Finished, Finishes, TellsExtent, IsMatrixNode, ListsExtent, SizeError, Memory, Matrix}
use Rattle.std.specs.declared.alloc.Global.{Global}
use Rattle.std.specs.declared.vec.Vec.{Vec}
use Rattle.ep_tree.specs.Reach as defined
use Rattle.ep_size.proofs.ExtentViews.{grid_of-matrix}
use Rattle.ep_size.proofs.FormSteps.{measured_decided, own_weight}
use Rattle.ep_size.proofs.Measurings.{near_nothing}
use Rattle.ep_size.specs.declared.extents.Extent.{Extent, Number}
use Rattle.ep_size.specs.declared.extents.Span.{Span}

-- parts as a list
pub grids_from-map : (xs : List Extent) → grids_from xs ≡ as_parts (map grid_of xs)
unfolding grids_from as_parts
grids_from-map [] = refl
grids_from-map (x ∷ xs) = ap (λ ys. value_and (grid_of x) ys) (grids_from-map xs)

-- a matrix of parts
pub listed_matrix : (is : Vec ℤ Global) (v : Vec Extent Global) → TellsExtent (Matrix is v) (matrix is.items (as_parts (map grid_of v.items)))
unfolding TellsValue
listed_matrix is v = record {
  grid = grid_of-matrix is v ∙ ap (matrix is.items) (grids_from-map v.items);
  tells = λ mode env e h. h;
}

matrix_finished : (mode : Mode) (env : Env) (e : ExprTree) (g : defined.Extent) (t : ℕ) (x : Extent) → IsMatrixNode mode env e g → TellsExtent x g
    → Finished mode env e t t x
matrix_finished mode env e g t x h k = record {
  near = near_nothing mode (a_node env e) (h.plain ∙ ap number_reach h.value ∙ h.none);
  known = record { extent = h.value ∙ sym k.grid; value = k.tells mode env e h.holds };
  added = let none = h.weight in omega (arith, none);
}

memory_finishes : (mode : Mode) (env : Env) (e : ExprTree) (t : ℕ) (error : SizeError) → error ≡ Memory → Finishes mode env e t t (Err error)
memory_finishes mode env e t error h = subst (λ x. Finishes mode env e t t (Err x)) (sym h) tt

-- a matrix that is made is what is known of a node
pub lists_finish : (mode : Mode) (env : Env) (e : ExprTree) (g : defined.Extent) (t : ℕ) (r : Result Extent SizeError) → IsMatrixNode mode env e g
    → ListsExtent r g → Finishes mode env e t t r
lists_finish mode env e g t (Ok x) h made = matrix_finished mode env e g t x h made.0
lists_finish mode env e g t (Err error) h made = memory_finishes mode env e t error made.1

-- an error for want of memory
pub memory_stops : (mode : Mode) (env : Env) (e : ExprTree) (t : ℕ) (error : SizeError) → error ≡ Memory → Finishes mode env e t t (Err error)
memory_stops = memory_finishes

pub list_reach : (xs : List defined.Span) → number_reach (list_value xs) ≡ []
unfolding number_reach list_value
list_reach xs = refl

-- a `flatten` by the scalars of its part
pub flatten_node : (mode : Mode) (env : Env) (p : Place) (e : ExprTree) (x : Extent) (spans : List defined.Span)
    → holds_decision (decisions_in env) (flatten p e) ≡ true → IsKnownExtent mode env e x → spans ≡ scalars_of (grid_of x)
    → IsMatrixNode mode env (flatten p e) (list_value spans)
unfolding reaches_at decided_weight
flatten_node mode env p e x spans holds known same = record {
  plain = refl;
  none = list_reach spans;
  value =
      extent-flatten mode env p e ∙ measured_decided mode env (flatten p e) (list_value (scalars_of (extent mode env e))) holds
      ∙ ap (λ y. list_value (scalars_of y)) known.extent ∙ ap list_value (sym same);
  holds = holds;
  weight = own_weight mode env (flatten p e) 0 holds refl;
}

-- ---- a list of numbers

-- one number more
pub list_more : (xs : List Span) (i : ℕ) (d : Span) (old new : List Extent) → i < length xs → new ≡ old ++ Number (get_or xs i d) ∷ []
    → map grid_of old ≡ map single (map plain_span (take i xs)) → map grid_of new ≡ map single (map plain_span (take (i + 1) xs))
unfolding grid_of
list_more xs i d old new within pushed h =
    let x : Span = get_or xs i d in
    ap (map grid_of) pushed ∙ map-append grid_of old (Number x ∷ []) ∙ ap (λ l. l ++ single (plain_span x) ∷ []) h
    ∙ sym (ap (λ l. map single (map plain_span l)) (take_more xs i d within) ∙ ap (map single) (map-append plain_span (take i xs) (x ∷ []))
    ∙ map-append single (map plain_span (take i xs)) (plain_span x ∷ []))

-- all of them
pub list_all : (xs : List Span) (i : ℕ) (is : Vec ℤ Global) (parts : Vec Extent Global) → length xs ≤ i → i ≤ length xs → is.items ≡ counting (pos 1) i
    → map grid_of parts.items ≡ map single (map plain_span (take i xs)) → TellsExtent (Matrix is parts) (list_value (map plain_span xs))
unfolding list_value
list_all xs i is parts past within own h =
    let many : length (map plain_span xs) ≡ length xs = length-map xs plain_span in
    let count : i ≡ length (map plain_span xs) = omega (arith, past, within, many) in
    let grid : matrix is.items (as_parts (map grid_of parts.items)) ≡ list_value (map plain_span xs) =
    ap (λ l. matrix l (as_parts (map grid_of parts.items))) (own ∙ ap (counting (pos 1)) count)
    ∙ ap (λ l. matrix (counting (pos 1) (length (map plain_span xs))) (as_parts l)) (h ∙ ap (λ l. map single (map plain_span l)) (take_all i xs past)) in
    subst (TellsExtent (Matrix is parts)) grid (listed_matrix is parts)

-- ---- answers of calls

pub if_ok : {T : Type 0} (r : Result T SizeError) (P Q : T → Type 0) → IfOk r P → ((x : T) → P x → Q x) → IfOk r Q
if_ok (Ok x) P Q h f = f x h
if_ok (Err e) P Q h f = tt
