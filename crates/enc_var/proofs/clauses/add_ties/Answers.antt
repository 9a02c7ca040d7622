use Rattle.std.proofs.Common.{◌∙◌, arith}
use Rattle.enc_var.proofs.Saying.{ties_all, ties_more}
use Rattle.enc_var.proofs.clauses.add_ties.Goals as goal

pub loop-k-preserved : goal.loop-k-preserved
loop-k-preserved c = (
  omega (arith, c.loop-k-test.true),
  c.loop-k.invariant.1,
  c.in_ok-add_tie.ensures.vars ∙ c.loop-k.invariant.2,
  ties_more c.args.f.now c.loop-k.f c.add_tie.new.f c.args.first c.args.count c.loop-k.k c.loop-k.invariant.3 c.in_ok-add_tie.ensures,
)

pub returns : goal.returns
returns c = ties_all c.args.f.now c.loop-k.f c.args.first c.args.count c.loop-k.k (omega (arith, c.loop-k-test.false, c.loop-k.invariant.0)) c.loop-k.invariant.3
