use Rattle.ep_size.proofs.Words.{subst, sym, ap, read_span, Gives}
use Rattle.ep_size.proofs.HullSteps.{cell_read, other_read}
use Rattle.ep_size.proofs.hulls.Hulled.span.Goals as goal

pub returns-then-not-of_cell : goal.returns-then-not-of_cell
returns-then-not-of_cell c spans h =
    subst (λ s. Gives c.one_of.result s) (ap (λ b. read_span b c.args.scalar spans) (sym c.if-not-of_cell.true)) (c.one_of.ensures spans h)

pub returns-then-self-eq1 : goal.returns-then-self-eq1
returns-then-self-eq1 c spans h =
    subst (λ s. Gives c.kept.result s) (cell_read c.args.self spans c.args.of_cell c.args.scalar h c.if-not-of_cell.false c.if-self-eq1.true) c.kept.ensures

pub returns : goal.returns
returns c spans h =
    subst (λ s. Gives c.one_of-2.result s) (other_read c.args.self spans c.args.of_cell c.args.scalar h c.if-self-eq1.false)
    (c.one_of-2.ensures spans h)
