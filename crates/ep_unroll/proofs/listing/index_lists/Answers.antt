use Rattle.ep_unroll.proofs.Words.{◌≡◌, ℕ, ◌+◌, ◌-◌, ◌<◌, ℤ, List, length, drop, ap, sym, ◌∙◌, arith, index_lists}
use Rattle.ep_unroll.proofs.IndexLists.{lists_step}
use Rattle.ep_unroll.proofs.RunParts.{no_index_lists}
use Rattle.ep_unroll.proofs.listing.index_lists.Goals as goal

pub loop-passed-preserved : goal.loop-passed-preserved
loop-passed-preserved c =
    let ds : List (List ℤ) = c.args.domains.now in
    let k : ℕ = length ds - 1 - c.loop-passed.passed in
    let within : c.loop-passed.passed < length ds = c.loop-passed-test.true in
    let here : length ds - c.loop-passed.passed ≡ k + 1 = omega (arith, within) in
    let there : length ds - (c.loop-passed.passed + 1) ≡ k = omega (arith, within) in
    lists_step ds k c.index-domains-count.result _ c.deref.result.now c.deref-in-loop-passed.result.now c.in_ok-keys-2.keys.items (omega (arith, within)) c.index-domains-count.is
    (c.deref.ensures.value ∙ c.in_ok-numbers.ensures)
    (c.deref-in-loop-passed.ensures.value ∙ c.loop-passed.invariant ∙ ap (λ n. index_lists (drop n ds)) here)
    c.in_ok-keys-2.ensures
    ∙ sym (ap (λ n. index_lists (drop n ds)) there)

pub returns-then-cells-eq0 : goal.returns-then-cells-eq0
returns-then-cells-eq0 c = c.new.ensures.items ∙ no_index_lists c.args.domains.now (sym c.if-cells-eq0.true ∙ c.in_ok-cells.ensures)
