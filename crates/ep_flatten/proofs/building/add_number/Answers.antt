use Rattle.std.proofs.Common.{rules, subst, ap, ◌∙◌, ◌≡◌, ◌+◌, ℕ, ℤ, [], ◌∷◌, ◌++◌, length, w64, to_z, of_z}
use Rattle.std.proofs.lemmas.Int.{to_z-of_z}
use Rattle.std.specs.Prelude.{map}
use Rattle.ep_base.specs.Intervals.{only}
use Rattle.ep_flat.specs.FlatViews.{plain_con}
use Rattle.ep_numbers.specs.Spans.{interval_of}
use Rattle.ep_flatten.specs.Building.{HasAll, plain_built}
use Rattle.ep_flatten.proofs.Growing.{with_number}
use Rattle.ep_flatten.proofs.Adding.{as_built, on_ok_five, spans_pushed}
use Rattle.ep_flatten.proofs.building.add_number.Goals as goal

pub returns : goal.returns
returns c =
    let old = c.args.made.now in
    let new = c.note.new.made in
    let n = c.args.number in
    let domain = c.in_ok-domain_of.field-0 in
    let same : to_z w64 (of_z w64 n) ≡ n = to_z-of_z w64 n c.ranges.number in
    let variable : c.len-variable.result ≡ length old.vars.items = search rules in
    let has : HasAll domain (only n) = subst (λ (m : ℤ). HasAll domain (only m)) same c.in_ok-domain_of.ensures in
    on_ok_five c.note.result c.note.ensures.places c.note.ensures.spans c.note.ensures.vars c.note.ensures.cons c.note.ensures.cells
    (λ p s v k l. λ form g marks t built at bounded.
    as_built g marks (t + 1) new.vars.items (old.vars.items ++ domain ∷ []) (map plain_con new.cons.items) (map plain_con old.cons.items)
    new.places.items (old.places.items ++ length old.vars.items ∷ []) (map interval_of new.spans.items) (map interval_of old.spans.items ++ only n ∷ []) new.cells.items old.cells.items
    (v ∙ c.in_ok-push.ensures.items)
    (ap (map plain_con) k)
    (p ∙ ap (λ (m : ℕ). old.places.items ++ m ∷ []) variable)
    (spans_pushed old.spans.items new.spans.items (record { low = to_z w64 (of_z w64 n); high = to_z w64 (of_z w64 n) }) s ∙ ap (λ (m : ℤ). map interval_of old.spans.items ++ only m ∷ []) same)
    l
    (with_number g marks t (plain_built old) n form domain built at bounded has))
