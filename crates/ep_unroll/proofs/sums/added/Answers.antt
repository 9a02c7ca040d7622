use Rattle.ep_unroll.proofs.Words.{ap, sym, ◌∙◌, pos, take, arith, ◌++◌, ◌∷◌, [], ℤ, ℕ, map, map-append, take_all, take_more}
use Rattle.ep_unroll.proofs.sums.added.Goals as goal

pub loop-term-init : goal.loop-term-init
loop-term-init c = c.new-parts.ensures.items

pub loop-term-preserved : goal.loop-term-preserved
loop-term-preserved c =
    c.in_ok-push.ensures.items ∙ ap (λ ps. ps ++ (pos 1, c.term-item.result) ∷ []) c.loop-term.invariant
    ∙ sym (ap (map {A = ℕ} {B = ℤ × ℕ} (λ t. (pos 1, t)))
    (take_more c.args.terms.now c.loop-term.term-index _ c.loop-term-test.true ∙ ap (λ t. take c.loop-term.term-index c.args.terms.now ++ t ∷ []) (sym c.term-item.is))
    ∙ map-append (λ t. (pos 1, t)) (take c.loop-term.term-index c.args.terms.now) (c.term-item.result ∷ []))

pub returns : goal.returns
returns c = c.loop-term.invariant ∙ ap (map {A = ℕ} {B = ℤ × ℕ} (λ t. (pos 1, t))) (take_all c.loop-term.term-index c.args.terms.now (omega (arith, c.loop-term-test.false)))
