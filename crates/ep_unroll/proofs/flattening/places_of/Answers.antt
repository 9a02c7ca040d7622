use Rattle.ep_unroll.proofs.Words.{◌≡◌, ◌∷◌, ◌++◌, [], ◌+◌, length, pos, ℕ, sym, ap, ◌∙◌, arith, ints, counting, counting_more}
use Rattle.ep_unroll.proofs.flattening.places_of.Goals as goal

pub loop-i-init : goal.loop-i-init
unfolding counting
loop-i-init c = c.in_ok-places.ensures.items

pub loop-i-preserved : goal.loop-i-preserved
loop-i-preserved c =
    let i : ℕ = c.loop-i.i in
    c.in_ok-push.ensures.items ∙ ap (λ m. c.loop-i.places.items ++ m ∷ []) (omega (arith, ints))
    ∙ ap (λ l. l ++ pos (i + 1) ∷ []) c.loop-i.invariant ∙ sym (counting_more i)

pub returns : goal.returns
returns c =
    let same : c.loop-i.i ≡ length c.args.parts.now = omega (arith, c.loop-i-test.false, c.loop-i.auto.i-end) in
    c.loop-i.invariant ∙ ap (counting (pos 1)) same
