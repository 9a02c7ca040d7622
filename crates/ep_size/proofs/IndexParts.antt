-- The parts of a list, and the indices that they get.
use Rattle.ep_size.proofs.Words.{◌≡◌, ℕ, ◌+◌, ◌<◌, ◌≤◌, ℤ, Bool, true, false, List, [], ◌∷◌, ◌++◌, length, take, get_or, pos, refl, sym, ap, subst, ◌∙◌, Some, None, Option, map, if◌then◌else◌, ◌==◌, append-nil, append_assoc, length-map, map-append, counting, Place, extent-literal, Env, index_values, decided_weight, met, met_all, number_reach, reaches_at, decisions_in, extent, extents_of, holds_decision, matrix_extent, measured_indices, ExprTree, IndexDomain, literal, as_parts, matrix, expr_tree, expr_trees, Expr, Mode, IsKnownExtent, grid_of, IsMatrixNode, Going, Told, Totals}
use Rattle.ep_tree.specs.Reach as defined
use Rattle.ep_size.proofs.FormSteps.{measured_decided, own_weight}
use Rattle.ep_size.proofs.MeterSteps.{going_begins, going_ends, going_more}
use Rattle.ep_size.specs.declared.extents.Extent.{Extent}

-- ---- what is known of some expressions

-- some parts are known, and these are left
abbrev pub PartsSoFar : Mode → Env → Totals → Totals → List Expr → List Expr → List Extent → Type 0
PartsSoFar mode env start now all left known =
    Going mode start now (met_all mode env (expr_trees all)) (met_all mode env (expr_trees left))
    (map grid_of known ++ extents_of mode env (expr_trees left) ≡ extents_of mode env (expr_trees all))

pub parts_begin : (mode : Mode) (env : Env) (start : Totals) (all : List Expr) (known : List Extent) → known ≡ [] → PartsSoFar mode env start start all all known
parts_begin mode env start all known none = going_begins mode start _ _ refl (ap (λ l. map grid_of l ++ extents_of mode env (expr_trees all)) none)

pub met_first : (mode : Mode) (env : Env) (x : Expr) (xs : List Expr) → met_all mode env (expr_trees (x ∷ xs)) ≡ met mode env (expr_tree x) ++ met_all mode env (expr_trees xs)
unfolding met_all expr_trees
met_first mode env x xs = refl

known_first : (mode : Mode) (env : Env) (x : Expr) (xs : List Expr) → extents_of mode env (expr_trees (x ∷ xs)) ≡ extent mode env (expr_tree x) ∷ extents_of mode env (expr_trees xs)
unfolding extents_of expr_trees
known_first mode env x xs = refl

-- one more
pub parts_more : (mode : Mode) (env : Env) (start now after : Totals) (all left : List Expr) (x : Expr) (rest : List Expr) (old new : List Extent) (y : Extent)
    → PartsSoFar mode env start now all left old → left ≡ x ∷ rest → Told mode now after (met mode env (expr_tree x)) (IsKnownExtent mode env (expr_tree x) y) → new ≡ old ++ y ∷ []
    → PartsSoFar mode env start after all rest new
parts_more mode env start now after all left x rest old new y g cut told pushed =
    let behind : List defined.Extent = extents_of mode env (expr_trees rest) in
    going_more mode start now after _ _ (met mode env (expr_tree x)) _ g (ap (λ l. met_all mode env (expr_trees l)) cut ∙ met_first mode env x rest) told
    (λ so_far known.
    ap (λ l. map grid_of l ++ behind) pushed ∙ ap (λ l. l ++ behind) (map-append grid_of old (y ∷ [])) ∙ append_assoc (map grid_of old) (grid_of y ∷ []) behind
    ∙ ap (λ g. map grid_of old ++ (g ∷ behind)) (sym known.extent) ∙ ap (λ l. map grid_of old ++ l) (sym (ap (λ l. extents_of mode env (expr_trees l)) cut ∙ known_first mode env x rest))
    ∙ so_far)

pub none_met : (mode : Mode) (env : Env) → met_all mode env (expr_trees []) ≡ []
unfolding met_all expr_trees
none_met mode env = refl

none_known : (mode : Mode) (env : Env) → extents_of mode env (expr_trees []) ≡ []
unfolding extents_of expr_trees
none_known mode env = refl

-- all of them
pub parts_end : (mode : Mode) (env : Env) (start now : Totals) (all left : List Expr) (known : List Extent) → PartsSoFar mode env start now all left known → left ≡ []
    → Told mode start now (met_all mode env (expr_trees all)) (map grid_of known ≡ extents_of mode env (expr_trees all))
parts_end mode env start now all left known g none =
    going_ends mode start now _ _ g (ap (λ l. met_all mode env (expr_trees l)) none ∙ none_met mode env)
    (λ so_far. sym (append-nil (map grid_of known)) ∙ ap (λ l. map grid_of known ++ l) (sym (ap (λ l. extents_of mode env (expr_trees l)) none ∙ none_known mode env)) ∙ so_far)

-- ---- indices

-- without a domain they are the numbers from 1 on
pub indices_unstated : (n : ℕ) → measured_indices None n ≡ measured_indices (Some (counting (pos 1) n)) n
unfolding measured_indices
indices_unstated n = by (length (counting (pos 1) n) == n)
  where
    by : (b : Bool) → counting (pos 1) n ≡ (if b then counting (pos 1) n else counting (pos 1) n)
    by true = refl
    by false = refl

pub literal_grid : (ix : ℕ → Option (List ℤ)) (set : Option (List ℤ)) (ys : List Extent) → ((n : ℕ) → measured_indices set n ≡ measured_indices (ix n) n)
    → matrix_extent ix (map grid_of ys) ≡ matrix (measured_indices set (length ys)) (as_parts (map grid_of ys))
unfolding matrix_extent
literal_grid ix set ys h =
    ap (λ l. matrix l (as_parts (map grid_of ys))) (sym (h (length (map grid_of ys))) ∙ ap (measured_indices set) (length-map ys grid_of))

-- a list is a matrix of its parts
pub literal_node : (mode : Mode) (env : Env) (p : Place) (xs : List Expr) (d : IndexDomain) (set : Option (List ℤ)) (ys : List Extent)
    → holds_decision (decisions_in env) (literal p (expr_trees xs) d) ≡ true → map grid_of ys ≡ extents_of mode env (expr_trees xs)
    → ((n : ℕ) → measured_indices set n ≡ measured_indices (index_values mode env d n) n)
    → IsMatrixNode mode env (literal p (expr_trees xs) d) (matrix (measured_indices set (length ys)) (as_parts (map grid_of ys)))
unfolding reaches_at decided_weight number_reach
literal_node mode env p xs d set ys holds known same =
    let e : ExprTree = literal p (expr_trees xs) d in
    record {
      plain = refl;
      none = refl;
      value =
          extent-literal mode env p (expr_trees xs) d
          ∙ measured_decided mode env e (matrix_extent (index_values mode env d) (extents_of mode env (expr_trees xs))) holds
          ∙ ap (matrix_extent (index_values mode env d)) (sym known) ∙ literal_grid (index_values mode env d) set ys same;
      holds = holds;
      weight = own_weight mode env e 0 holds refl;
    }
