use Rattle.ep_unroll.proofs.Words.{ap, sym, subst, ◌∙◌, ◌≡◌, read_result, Mode, ValueType, seen_held, mode_in, IsWorth, AreTerms, worth}
use Rattle.ep_unroll.proofs.PartSteps.{cells_finish, is_worth}
use Rattle.ep_unroll.proofs.reads.finish_read.Goals as goal

pub returns-then-not-is_judged-clause-worth : goal.returns-then-not-is_judged-clause-worth
returns-then-not-is_judged-clause-worth c nodes numbers o h = is_worth nodes numbers c.args.known o h ∙ sym (c.is_judged.ensures.other c.if-not-is_judged.true o)

pub returns-in-Cells-clause-worth : goal.returns-in-Cells-clause-worth
unfolding worth IsWorth
returns-in-Cells-clause-worth c nodes numbers o h =
    cells_finish (mode_in c.args.scope) numbers o c.in-Cells.first c.in-Cells.domains.now c.args.ty (subst (λ x. IsWorth nodes numbers x o) c.in-Cells.is h)

pub returns-in-Fixed-clause-worth : goal.returns-in-Fixed-clause-worth
unfolding worth IsWorth
returns-in-Fixed-clause-worth c nodes numbers o h =
    let own : seen_held c.in-Fixed.seen ≡ o = subst (λ x. IsWorth nodes numbers x o) c.in-Fixed.is h in
    c.or_false.ensures ∙ ap (read_result Mode.Relational ValueType.Bool) own ∙ ap (λ t. read_result Mode.Relational t o) (sym (c.is_judged.ensures.truth c.if-not-is_judged.false))
    ∙ ap (λ m. read_result m c.args.ty o) (sym (c.is_judged.ensures.mode c.if-not-is_judged.false))

pub returns-in-Fixed-clause-terms : goal.returns-in-Fixed-clause-terms
unfolding AreTerms
returns-in-Fixed-clause-terms c count h = tt
