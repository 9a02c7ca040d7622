use Rattle.std.proofs.Common.{◌∙◌, ap, sym, subst, length}
use Rattle.std.specs.Prelude.{IsSome, map}
use Rattle.std.proofs.lemmas.Iterator.Adapters.{YieldsList-from_vec}
use Rattle.std.proofs.lemmas.Iterator.Consumers.{YieldsList-end, YieldsList-turn}
use Rattle.std.proofs.lemmas.List.{map-id}
use Rattle.std.proofs.lemmas.List.Elements.{All-get_or}
use Rattle.ep_explain.specs.Narrowing.{settled_clause}
use Rattle.ep_explain.specs.Tried.{named_clause}
use Rattle.ep_explain.specs.declared.left.Left.{Left}
use Rattle.ep_explain.proofs.Turns.{map_by}
use Rattle.ep_explain.proofs.explaining.named.Goals as goal

pub settled-requires : goal.settled-requires
settled-requires c =
    let t = YieldsList-turn (YieldsList-from_vec c.args.left.items c.into_iter-one-iterator.ensures.into_iter_gives.0 (c.into_iter-one-iterator.ensures.into_iter_gives.1 ∙ c.args.left.ok.0)) c.loop-one.yielded _ c.loop-one.yielded_by _ c.next.new.self c.in-Some.one c.in-Some.is c.next.ensures.steps in
    subst (λ (one : Left). IsSome one.without) (sym t.1) (All-get_or (λ (one : Left). IsSome one.without) c.args.left.items (length c.loop-one.yielded) c.in-Some.one t.0 c.requires)

pub loop-one-preserved : goal.loop-one-preserved
loop-one-preserved c =
    ap (map named_clause) c.in_ok-push.ensures.items
    ∙ map_by named_clause settled_clause c.loop-one.named.items c.loop-one.yielded c.settled.result c.in-Some.one c.settled.ensures c.loop-one.invariant

pub returns : goal.returns
returns c =
    let e = YieldsList-end (YieldsList-from_vec c.args.left.items c.into_iter-one-iterator.ensures.into_iter_gives.0 (c.into_iter-one-iterator.ensures.into_iter_gives.1 ∙ c.args.left.ok.0)) c.loop-one.yielded _ c.loop-one.yielded_by _ c.next.new.self c.in-None.is c.next.ensures.steps in
    c.loop-one.invariant ∙ ap (map settled_clause) (sym (map-id c.loop-one.yielded) ∙ e.0)
