use Rattle.ep_base.specs.declared.operators.CompareOp.{CompareOp}
use Rattle.ep_numbers.specs.Spans.{interval_of}
use Rattle.ep_simplify.specs.Decided.{Decides}
use Rattle.std.proofs.Common.{Bool, subst, sym}
use Rattle.std.specs.Prelude.{IfSome}
use Rattle.ep_reach.proofs.Reaching.{if_some_so}
use Rattle.ep_simplify.proofs.Deciding.{decided_at_least, decided_at_most, decided_greater, decided_not_equal, if_contrary, none_before, open_at_least, open_at_most, open_greater, open_not_equal}
use Rattle.ep_simplify.proofs.truths.decided.Goals as goal

pub returns-in-NotEqual-clause-says : goal.returns-in-NotEqual-clause-says
returns-in-NotEqual-clause-says c =
    let i = interval_of c.args.x in
    let j = interval_of c.args.y in
    subst (λ (o : CompareOp). IfSome c.contrary.result (Decides o i j)) (sym c.in-NotEqual.is)
    (if_contrary (Decides CompareOp.Equal i j) (Decides CompareOp.NotEqual i j) c.equal-in-NotEqual.result c.contrary.result c.contrary.ensures c.equal-in-NotEqual.ensures.says (decided_not_equal i j))

pub returns-in-AtMost-clause-says : goal.returns-in-AtMost-clause-says
returns-in-AtMost-clause-says c =
    let i = interval_of c.args.x in
    let j = interval_of c.args.y in
    subst (λ (o : CompareOp). IfSome c.contrary-in-AtMost.result (Decides o i j)) (sym c.in-AtMost.is)
    (if_contrary (Decides CompareOp.Less j i) (Decides CompareOp.AtMost i j) c.less-in-AtMost.result c.contrary-in-AtMost.result c.contrary-in-AtMost.ensures c.less-in-AtMost.ensures.says (decided_at_most i j))

pub returns-in-Greater-clause-says : goal.returns-in-Greater-clause-says
returns-in-Greater-clause-says c =
    let i = interval_of c.args.x in
    let j = interval_of c.args.y in
    subst (λ (o : CompareOp). IfSome c.less-in-Greater.result (Decides o i j)) (sym c.in-Greater.is)
    (if_some_so c.less-in-Greater.result c.less-in-Greater.ensures.says (decided_greater i j))

pub returns-in-AtLeast-clause-says : goal.returns-in-AtLeast-clause-says
returns-in-AtLeast-clause-says c =
    let i = interval_of c.args.x in
    let j = interval_of c.args.y in
    subst (λ (o : CompareOp). IfSome c.contrary-in-AtLeast.result (Decides o i j)) (sym c.in-AtLeast.is)
    (if_contrary (Decides CompareOp.Less i j) (Decides CompareOp.AtLeast i j) c.less-in-AtLeast.result c.contrary-in-AtLeast.result c.contrary-in-AtLeast.ensures c.less-in-AtLeast.ensures.says (decided_at_least i j))

pub returns-in-NotEqual-clause-undecided : goal.returns-in-NotEqual-clause-undecided
returns-in-NotEqual-clause-undecided c e gi gj =
    let i = interval_of c.args.x in
    let j = interval_of c.args.y in
    subst (λ (o : CompareOp). (known : Bool) → Decides o i j known → ⊥) (sym c.in-NotEqual.is) (open_not_equal i j (c.equal-in-NotEqual.ensures.undecided (none_before c.equal-in-NotEqual.result c.contrary.result c.contrary.ensures e) gi gj))

pub returns-in-AtMost-clause-undecided : goal.returns-in-AtMost-clause-undecided
returns-in-AtMost-clause-undecided c e gi gj =
    let i = interval_of c.args.x in
    let j = interval_of c.args.y in
    subst (λ (o : CompareOp). (known : Bool) → Decides o i j known → ⊥) (sym c.in-AtMost.is) (open_at_most i j (c.less-in-AtMost.ensures.undecided (none_before c.less-in-AtMost.result c.contrary-in-AtMost.result c.contrary-in-AtMost.ensures e) gj gi))

pub returns-in-Greater-clause-undecided : goal.returns-in-Greater-clause-undecided
returns-in-Greater-clause-undecided c e gi gj =
    let i = interval_of c.args.x in
    let j = interval_of c.args.y in
    subst (λ (o : CompareOp). (known : Bool) → Decides o i j known → ⊥) (sym c.in-Greater.is) (open_greater i j (c.less-in-Greater.ensures.undecided e gj gi))

pub returns-in-AtLeast-clause-undecided : goal.returns-in-AtLeast-clause-undecided
returns-in-AtLeast-clause-undecided c e gi gj =
    let i = interval_of c.args.x in
    let j = interval_of c.args.y in
    subst (λ (o : CompareOp). (known : Bool) → Decides o i j known → ⊥) (sym c.in-AtLeast.is) (open_at_least i j (c.less-in-AtLeast.ensures.undecided (none_before c.less-in-AtLeast.result c.contrary-in-AtLeast.result c.contrary-in-AtLeast.ensures e) gi gj))
