use Rattle.std.proofs.Common.{◌≡◌, ℤ, List, map, get_or, sym, ap, ◌∙◌, arith}
use Rattle.enc_arith.specs.Elements.{with_parts}
use Rattle.enc_arith.specs.Entries.{plain_entry}
use Rattle.enc_arith.proofs.Entries.{with_none, with_push}
use Rattle.enc_arith.proofs.elements.with_parts.Goals as goal

pub loop-place-init : goal.loop-place-init
unfolding with_parts
loop-place-init c = ap (map plain_entry) c.new-entries.ensures.items

pub loop-place-preserved-then-place-parts : goal.loop-place-preserved-then-place-parts
loop-place-preserved-then-place-parts c =
    c.loop-place.invariant ∙ sym (with_none c.args.keys.now c.args.parts.now c.loop-place.place c.loop-place-test.true (omega (arith, c.if-place-parts.true)))

pub loop-place-preserved : goal.loop-place-preserved
loop-place-preserved c =
    let d : List ℤ = c.index-keys-place.result in
    let key : d ≡ get_or c.args.keys.now c.loop-place.place d = cc (c.index-keys-place.is) in
    with_push plain_entry c.args.keys.now c.args.parts.now c.loop-place.place d 0 c.loop-place.entries.items c.push.new.self.items _ c.loop-place-test.true (omega (arith, c.if-place-parts.false))
    c.loop-place.invariant c.in_ok-push.ensures.items (ap (λ (ks : List ℤ). (ks, get_or c.args.parts.now c.loop-place.place 0)) (c.numbers.ensures ∙ key))
