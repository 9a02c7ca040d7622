use Rattle.std.proofs.Common.{◌≡◌, ◌==◌, ◌∙◌, ap, sym, not, subst, arith}
use Rattle.std.specs.Prelude.{Some}
use Rattle.std.proofs.Math.Seq.{map-set_same}
use Rattle.ep_instance_parts.specs.Instances.{instance_mode, plain_instance}
use Rattle.ep_restrict.specs.Restricted.{AreClauseNumbers, restricted}
use Rattle.ep_tree.specs.Views.{assigned}
use Rattle.ep_explain.specs.Explained.{IsWrittenSolution, all_but}
use Rattle.ep_explain.specs.Narrowing.{left_numbers}
use Rattle.ep_explain.specs.declared.left.Left.{Left}
use Rattle.ep_explain.proofs.Nearby.{alone}
use Rattle.ep_explain.proofs.Leaving.{numbers_filtered}
use Rattle.ep_explain.proofs.Single.{found_at}
use Rattle.ep_explain.proofs.around.settle_by.Goals as goal

pub judged-requires-2-clause-numbers : goal.judged-requires-2-clause-numbers
judged-requires-2-clause-numbers c =
    let i = plain_instance c.args.instance.now in
    let kept : c.deref-4.result.now ≡ all_but c.index-2.result.now.clause (left_numbers c.args.left.items) =
    c.deref-4.ensures.value ∙ c.in_ok-others.ensures ∙ ap (λ ls. all_but c.index-2.result.now.clause (left_numbers ls)) c.deref-3.ensures.value in
    subst (AreClauseNumbers i) (sym kept)
    (numbers_filtered i (λ k. not (k == c.index-2.result.now.clause)) (left_numbers c.args.left.items) c.requires.left.numbers)

pub returns-in-Solution-clause-left : goal.returns-in-Solution-clause-left
returns-in-Solution-clause-left c =
    let i = plain_instance c.args.instance.now in
    let mode = instance_mode c.args.instance.now in
    let kept : c.deref-4.result.now ≡ all_but c.index-2.result.now.clause (left_numbers c.args.left.items) =
    c.deref-4.ensures.value ∙ c.in_ok-others.ensures ∙ ap (λ ls. all_but c.index-2.result.now.clause (left_numbers ls)) c.deref-3.ensures.value in
    let shown : IsWrittenSolution mode (restricted i c.deref-4.result.now) (assigned c.args.a) =
    alone mode i c.deref-4.result.now (assigned c.args.a) _ _ c.requires.placed c.in-Solution.is c.in_ok-rest.ensures in
    found_at mode i c.args.left.items c.place_of-place.result c.index-2.result.now c.index_mut.result.now c.deref-4.result.now c.args.a c.requires.left c.index-2.ensures
    c.index_mut.ensures.value (omega (arith, c.if-place-len.false)) kept shown

pub returns-in-Solution-clause-same : goal.returns-in-Solution-clause-same
returns-in-Solution-clause-same c =
    map-set_same (λ (one : Left). one.clause) c.args.left.items c.place_of-place.result (record { clause = c.index_mut.result.now.clause; without = Some c.args.a })
    c.index_mut.result.now (ap (λ (z : Left). z.clause) c.index_mut.ensures.value)
