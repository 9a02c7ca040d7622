use Rattle.ep_size.proofs.Words.{◌≡◌, ◌∷◌, ◌++◌, [], ◌+◌, pos, ℕ, sym, ap, ◌∙◌, arith, ints, counting, counting_more}
use Rattle.ep_size.proofs.lists.first_numbers.Goals as goal

pub loop-i-init : goal.loop-i-init
unfolding counting
loop-i-init c = c.in_ok-numbers.ensures.items

pub loop-i-preserved : goal.loop-i-preserved
loop-i-preserved c =
    let i : ℕ = c.loop-i.i in
    c.in_ok-push.ensures.items ∙ ap (λ m. c.loop-i.numbers.items ++ m ∷ []) (omega (arith, ints))
    ∙ ap (λ l. l ++ pos (i + 1) ∷ []) c.loop-i.invariant ∙ sym (counting_more i)

pub returns-clause-numbers : goal.returns-clause-numbers
returns-clause-numbers c =
    let count : c.loop-i.i ≡ c.args.count = omega (arith, c.loop-i-test.false, c.loop-i.auto.i-end) in
    c.loop-i.invariant ∙ ap (counting (pos 1)) count
