use Rattle.std.proofs.Common.{◌∙◌, ap, sym, not}
use Rattle.std.specs.Prelude.{filter}
use Rattle.std.proofs.lemmas.Iterator.Adapters.{YieldsList-from_vec}
use Rattle.std.proofs.lemmas.Iterator.Consumers.{YieldsList-end}
use Rattle.std.proofs.lemmas.List.{map-id}
use Rattle.ep_explain.specs.Narrowing.{is_in_block}
use Rattle.ep_explain.specs.declared.left.Left.{Left}
use Rattle.ep_explain.proofs.Turns.{filter_less, filter_more, is_inside, is_outside}
use Rattle.ep_explain.proofs.left.left_outside.Goals as goal

pub loop-one-preserved-then-contains : goal.loop-one-preserved-then-contains
loop-one-preserved-then-contains c =
    filter_less (λ (one : Left). not (is_in_block c.args.block.now one.clause)) c.loop-one.kept.items c.loop-one.yielded c.in-Some.one
    (is_inside c.args.block.now c.in-Some.one.clause _ c.contains.ensures.value c.if-contains.true) c.loop-one.invariant

pub loop-one-preserved : goal.loop-one-preserved
loop-one-preserved c =
    c.in_ok-push.ensures.items
    ∙ filter_more (λ (one : Left). not (is_in_block c.args.block.now one.clause)) c.loop-one.kept.items c.loop-one.yielded c.in-Some.one
    (is_outside c.args.block.now c.in-Some.one.clause _ c.contains.ensures.value c.if-contains.false) c.loop-one.invariant

pub returns : goal.returns
returns c =
    let e = YieldsList-end (YieldsList-from_vec c.args.left.items c.into_iter-one-iterator.ensures.into_iter_gives.0 (c.into_iter-one-iterator.ensures.into_iter_gives.1 ∙ c.args.left.ok.0)) c.loop-one.yielded _ c.loop-one.yielded_by _ c.next.new.self c.in-None.is c.next.ensures.steps in
    c.loop-one.invariant ∙ ap (filter (λ (one : Left). not (is_in_block c.args.block.now one.clause))) (sym (map-id c.loop-one.yielded) ∙ e.0)
