use Rattle.ep_unroll.proofs.Words.{rules, ◌≡◌, ℤ, pos, ◌∷◌, List, get_or, refl, ap, w64, of_z, to_z, map, to_z-of_z}
use Rattle.ep_unroll.proofs.IndexLists.{flat_next, flat_whole}
use Rattle.ep_unroll.proofs.listing.crossed.Goals as goal

pub loop-number-preserved : goal.loop-number-preserved
loop-number-preserved c =
    let xs = c.args.numbers.now in
    let others : List (List ℤ) = c.args.others.now in
    let k = c.loop-number.number-index in
    let x : ℤ = get_or xs k (pos 0) in
    let e : to_z w64 (of_z w64 x) ≡ x = to_z-of_z w64 x (search rules) in
    flat_next (λ i. map (λ rest. i ∷ rest) others) xs k x (pos 0) c.loop-number.keys.items c.push_all_behind.new.keys.items (map (λ rest. to_z w64 (of_z w64 x) ∷ rest) others)
    c.loop-number-test.true refl c.loop-number.invariant (ap (λ i. map (λ (rest : List ℤ). i ∷ rest) others) e) c.in_ok-push_all_behind.ensures

pub returns : goal.returns
returns c =
    let others : List (List ℤ) = c.args.others.now in
    flat_whole (λ i. map (λ rest. i ∷ rest) others) c.args.numbers.now c.loop-number.number-index c.loop-number.keys.items c.loop-number-test.false c.loop-number.invariant
