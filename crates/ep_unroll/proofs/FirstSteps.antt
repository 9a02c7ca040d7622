-- The first cell of a name, one decision variable after another.
use Rattle.ep_unroll.proofs.Words.{◌≡◌, ℕ, ◌+◌, ◌<◌, ◌≤◌, List, length, drop, get_or, Some, None, sym, ap, ◌∙◌, bytes_eq, if◌then◌else◌, at_drop_all, at_drop_more, Name, first_in, FirstCell}

pub firsts_more : (name : Name) (fs : List FirstCell) (k : ℕ) (f d : FirstCell) → k < length fs → f ≡ get_or fs k d
    → first_in (drop k fs) name ≡ (if bytes_eq name f.name then Some f.cell else first_in (drop (k + 1) fs) name)
unfolding first_in
firsts_more name fs k f d h same =
    at_drop_more (λ ys. first_in ys name) fs k d h
    ∙ ap (λ x. if bytes_eq name x.name then Some x.cell else first_in (drop (k + 1) fs) name) (sym same)

pub firsts_all : (name : Name) (fs : List FirstCell) (k : ℕ) → length fs ≤ k → first_in (drop k fs) name ≡ None
unfolding first_in
firsts_all name fs k h = at_drop_all (λ ys. first_in ys name) fs k h
