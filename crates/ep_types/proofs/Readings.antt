-- A domain that is read once for each of some names.
use Rattle.std.proofs.Common.{◌≡◌, ℕ, ◌+◌, ◌<◌, Bool, ◌&&◌, List, length, drop, get_or, Ok, sym, ap, subst, ◌∙◌}
use Rattle.ep_base.specs.declared.names.Name.{Name}
use Rattle.ep_tree.specs.Names.{put}
use Rattle.ep_tree.specs.Types as types
use Rattle.ep_tree.specs.Types.{Context, is_integer, quantified_name, typed}
use Rattle.ep_tree.specs.declared.values.ValueType.{ValueType}
use Rattle.ep_types_rules.specs.Concluding.{Checked}
use Rattle.ep_types.proofs.Arms.{next_reading}
use Rattle.ep_types.proofs.Walks.{Reads, one_read}
use Rattle.ep_types.specs.Checking.{check_readings}

pub reading : (f : Context → Checked ValueType) (whole : Checked (Bool × Context)) (so_far new : Bool) (xs : List Name) (i : ℕ) (x : Name) (c k : Context) (t : ValueType) (m : types.Meaning)
    → Reads whole so_far (check_readings (drop i xs) f c) → i < length xs → x ≡ get_or xs i x → f c ≡ Ok t → new ≡ (so_far && is_integer t) → k ≡ put x m c → m ≡ quantified_name (typed t)
    → Reads whole new (check_readings (drop (i + 1) xs) f k)
reading f whole so_far new xs i x c k t m reads lt at e n known is =
    let same : put x (quantified_name (typed t)) c ≡ k = sym (known ∙ ap (λ q. put x q c) is) in
    let P : Context → Type 0 = λ z. Reads whole new (check_readings (drop (i + 1) xs) f z) in
    subst P same
    (one_read whole so_far new (check_readings (drop i xs) f c) (f c) is_integer (λ y. check_readings (drop (i + 1) xs) f (put x (quantified_name (typed y)) c)) t reads
    (next_reading f c xs i x lt at) e n)
