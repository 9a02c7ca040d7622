use Rattle.ep_size.proofs.Words.{[], ◌∷◌, ◌++◌, subst, sym, signed_span, plain_span, Sums}
use Rattle.ep_size.proofs.sums.Summed.add_signed.Goals as goal

pub returns-then-plus : goal.returns-then-plus
unfolding signed_span
returns-then-plus c spans few h =
    subst (λ b. Sums c.add.new.self (spans ++ signed_span b (plain_span c.args.span) ∷ [])) (sym c.if-plus.true) (c.add.ensures spans few h)

pub returns-else-plus : goal.returns-else-plus
unfolding signed_span
returns-else-plus c spans few h =
    subst (λ b. Sums c.subtract.new.self (spans ++ signed_span b (plain_span c.args.span) ∷ [])) (sym c.if-plus.false) (c.subtract.ensures spans few h)
