-- The names of decision variables, put from the last to the first.
use Rattle.ep_unroll.proofs.Words.{◌≡◌, ℕ, ◌+◌, ◌<◌, List, [], length, drop, get_or, refl, sym, ap, ◌∙◌, map, at_drop_more, find_of, Env, has_cells, put, put_all, cells_bound, scalar_of}
use Rattle.ep_instance_parts.specs.declared.instances.Find.{Find}

pub named_more : (finds : List Find) (k : ℕ) (f d : Find) (now next start : Env) → k < length finds → f ≡ get_or finds k d
    → now ≡ put_all (cells_bound (map find_of (drop (k + 1) finds))) start
    → next ≡ put f.name (has_cells (scalar_of f.ty) f.indices.items f.values) now
    → next ≡ put_all (cells_bound (map find_of (drop k finds))) start
unfolding put_all cells_bound
named_more finds k f d now next start h same so more =
    more ∙ ap (put f.name (has_cells (scalar_of f.ty) f.indices.items f.values)) so
    ∙ ap (λ g. put g.name (has_cells (scalar_of g.ty) g.indices.items g.values) (put_all (cells_bound (map find_of (drop (k + 1) finds))) start)) same
    ∙ sym (at_drop_more (λ gs. put_all (cells_bound (map find_of gs)) start) finds k d h)

pub named_none : (start : Env) → start ≡ put_all (cells_bound (map find_of [])) start
unfolding put_all cells_bound
named_none start = refl
