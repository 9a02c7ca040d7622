use Rattle.std.proofs.Common.{refl, subst, [], ℤ, pos, w64}
use Rattle.std.proofs.lemmas.Int.{to_z-of_z}
use Rattle.ep_flatten.specs.FormViews.{plain_sum}
use Rattle.ep_flatten.specs.Sums.{Joins, SumState}
use Rattle.ep_flatten.proofs.SumLaws.{gathers_more, gathers_none}
use Rattle.ep_flatten.proofs.forms.multiple.Goals as goal

pub returns : goal.returns
returns c = λ nodes have.
    let start : SumState = record { number = pos 0; parts = c.new.result.items } in
    let joined = subst (λ (m : ℤ). Joins nodes m c.args.term start (plain_sum c.join.new.sum)) (to_z-of_z w64 c.args.coefficient c.ranges.coefficient) (c.in_ok-join.ensures nodes have) in
    gathers_more nodes (pos 0) [] c.args.coefficient c.args.term start (plain_sum c.join.new.sum) (gathers_none nodes (pos 0) start refl c.new.ensures.items) joined
