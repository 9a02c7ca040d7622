use Rattle.std.proofs.Common.{ap}
use Rattle.std.specs.Prelude.{Some}
use Rattle.std.proofs.Math.Seq.{map-set_same}
use Rattle.ep_explain.specs.declared.left.Left.{Left}
use Rattle.ep_explain.proofs.Leaving.{settled_at}
use Rattle.ep_explain.proofs.left.settle_one.Goals as goal

pub returns-in-Some-clause-left : goal.returns-in-Some-clause-left
returns-in-Some-clause-left c =
    settled_at c.args.left.items c.deref.result.now c.deref-2.result.now c.in-Some.place c.index_mut.result.now c.args.one c.deref.ensures.value c.deref-2.ensures.value
    c.in-Some.ensures.within c.index_mut.ensures.value c.in-Some.ensures.only

pub returns-in-Some-clause-same : goal.returns-in-Some-clause-same
returns-in-Some-clause-same c =
    map-set_same (λ (one : Left). one.clause) c.args.left.items c.in-Some.place (record { clause = c.index_mut.result.now.clause; without = Some c.args.one.assignment })
    c.index_mut.result.now (ap (λ (z : Left). z.clause) c.index_mut.ensures.value)

pub returns-in-None-clause-left : goal.returns-in-None-clause-left
returns-in-None-clause-left c = λ mode i before one. before
