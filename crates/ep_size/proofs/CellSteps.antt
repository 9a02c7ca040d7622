-- The cells of decision variables that are counted one after another, from the last one on.
use Rattle.ep_size.proofs.Words.{◌≡◌, ℕ, ◌+◌, ◌*◌, ◌<◌, ◌≤◌, List, [], ◌∷◌, length, drop, get_or, zero, suc, refl, sym, ap, ◌∙◌, arith, map, drop_more, sum_by-cons, find_of, Find, Env, has_cells, MOST_SIZE, put, put_all, cell_count, cells_bound, scalar_of, IsTooMany, Celled, all_cells, capped, SizeError, Limit, Memory, CellTotals}
use Rattle.ep_tree.specs.Binding as defined

-- what is known of the cells of some decision variables, and of the names that stand for them
pub record CellsSoFar (totals : CellTotals) (now start : Env) (finds : List Find) : Type 0 where
  pub celled : Celled totals (map find_of finds)
  pub known : now ≡ put_all (cells_bound (map find_of finds)) start

pub cells_begin : (env : Env) → CellsSoFar (record { size = 0; weight = 0 }) env env []
unfolding put_all cells_bound
cells_begin env = record { celled = record { size = refl; small = omega arith; weight = refl }; known = refl }

-- one decision variable more, in front
pub cells_more : (before after : CellTotals) (now next start : Env) (f : Find) (fs : List Find) → CellsSoFar before now start fs
    → after.size ≡ before.size + cell_count f.indices.items → after.size ≤ MOST_SIZE
    → after.weight ≡ capped (before.weight + cell_count f.indices.items * length f.values)
    → next ≡ put f.name (has_cells (scalar_of f.ty) f.indices.items f.values) now
    → CellsSoFar after next start (f ∷ fs)
unfolding put_all cells_bound
cells_more before after now next start f fs h size small weight known = record {
  celled = record {
    size = let cut = sum_by-cons (λ (g : defined.Find). cell_count g.indices) (find_of f) (map find_of fs) in omega (arith, size, h.celled.size, cut);
    small = small;
    weight =
        let cut = sum_by-cons (λ (g : defined.Find). cell_count g.indices * length g.values) (find_of f) (map find_of fs) in
        omega (arith, weight, h.celled.weight, cut);
  };
  known = known ∙ ap (put f.name (has_cells (scalar_of f.ty) f.indices.items f.values)) h.known;
}

-- the decision variables from one on
pub finds_from : (finds : List Find) (k : ℕ) (f d : Find) → k < length finds → f ≡ get_or finds k d → drop k finds ≡ f ∷ drop (k + 1) finds
finds_from finds k f d h same = drop_more finds k d h ∙ ap (λ x. x ∷ drop (k + 1) finds) (sym same)

-- so many cells from one decision variable on are no more than all
pub cells_from : (finds : List Find) (k : ℕ) → all_cells (map find_of (drop k finds)) ≤ all_cells (map find_of finds)
cells_from finds zero = omega arith
cells_from [] (suc k) = omega arith
cells_from (f ∷ fs) (suc k) =
    let rest = cells_from fs k in
    let cut = sum_by-cons (λ (g : defined.Find). cell_count g.indices) (find_of f) (map find_of fs) in
    omega (arith, rest, cut)

-- too many cells from one decision variable on are too many
pub cells_refused : (finds : List Find) (k : ℕ) (f : Find) (fs : List Find) (before : CellTotals) (now start : Env) (error : SizeError)
    → drop k finds ≡ f ∷ fs → CellsSoFar before now start fs
    → IsTooMany (before.size + cell_count f.indices.items) error → IsTooMany (all_cells (map find_of finds)) error
cells_refused finds k f fs before now start Memory cut h cause = tt
cells_refused finds k f fs before now start (Limit l) cut h cause =
    let whole = cells_from finds k in
    let some : all_cells (map find_of (drop k finds)) ≡ cell_count f.indices.items + all_cells (map find_of fs) =
    ap (λ xs. all_cells (map find_of xs)) cut ∙ sum_by-cons (λ (g : defined.Find). cell_count g.indices) (find_of f) (map find_of fs) in
    (cause.0, omega (arith, whole, some, h.celled.size, cause.1))
