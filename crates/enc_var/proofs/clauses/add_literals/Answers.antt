use Rattle.std.proofs.Common.{arith}
use Rattle.std.proofs.lemmas.Result.{on_ok_weaker}
use Rattle.enc_var.proofs.Growing.{grows_more, grows_none, grows_single}
use Rattle.enc_var.proofs.clauses.add_literals.Goals as goal

pub returns-then-count-eq0-clause-grows : goal.returns-then-count-eq0-clause-grows
returns-then-count-eq0-clause-grows c =
    on_ok_weaker c.add_clause.result
    (λ h. grows_none c.args.f.now c.add_clause.new.f c.args.first c.args.count c.new-none.result.items (omega (arith, c.if-count-eq0.true)) c.new-none.ensures.items h) c.add_clause.ensures

pub returns-then-count-eq1-clause-grows : goal.returns-then-count-eq1-clause-grows
returns-then-count-eq1-clause-grows c =
    on_ok_weaker c.add_unit.result
    (λ h. grows_single c.args.f.now c.add_unit.new.f c.args.first c.args.count c.new.result (omega (arith, c.if-count-eq1.true)) c.new.ensures h) c.add_unit.ensures.says

pub returns-clause-grows : goal.returns-clause-grows
returns-clause-grows c =
    on_ok_weaker c.add_ties.result
    (λ h. grows_more c.args.f.now c.add_variables.new.f c.add_ties.new.f c.args.first c.args.count
    (omega (arith, c.if-count-eq0.false, c.if-count-eq1.false, c.if-count-eq2.false)) c.in_ok-add_variables.ensures h) c.add_ties.ensures
