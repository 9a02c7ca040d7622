use Rattle.std.proofs.Common.{◌∙◌, refl, sym, subst, length}
use Rattle.std.specs.List.{All}
use Rattle.std.proofs.lemmas.Iterator.Adapters.{YieldsList-from_vec}
use Rattle.std.proofs.lemmas.Iterator.Consumers.{YieldsList-turn}
use Rattle.std.proofs.lemmas.List.Elements.{All-nil, All-push}
use Rattle.ep_explain.specs.Narrowing.{IsSeen, left_numbers}
use Rattle.ep_explain.proofs.Leaving.{kept_is, seen_at}
use Rattle.ep_explain.proofs.left.settle.Goals as goal

pub loop-one-init : goal.loop-one-init
loop-one-init c = record {
  same = refl;
  left = λ mode i n. n.left;
  seen = λ mode i n. subst (All (IsSeen mode i (left_numbers c.args.narrowed.left.items))) (sym c.in_ok-seen.ensures.items)
      (All-nil (IsSeen mode i (left_numbers c.args.narrowed.left.items)));
}

pub loop-one-preserved-in_default : goal.loop-one-preserved-in_default
loop-one-preserved-in_default c =
    let all = c.args.narrowed.seen in
    let t = YieldsList-turn (YieldsList-from_vec all.items c.into_iter-one-iterator.ensures.into_iter_gives.0 (c.into_iter-one-iterator.ensures.into_iter_gives.1 ∙ all.ok.0)) c.loop-one.yielded _ c.loop-one.yielded_by _ c.next.new.self c.in-Some.one c.in-Some.is c.next.ensures.steps in
    record {
      same = c.settle_one-after.ensures.same ∙ c.loop-one.invariant.same;
      left = λ mode i n. c.settle_one-after.ensures.left mode i (c.loop-one.invariant.left mode i n)
          (subst (λ ns. IsSeen mode i ns c.in-Some.one) (sym c.loop-one.invariant.same)
          (seen_at mode i c.args.narrowed (length c.loop-one.yielded) c.in-Some.one t.0 t.1 n));
      seen = c.loop-one.invariant.seen;
    }

pub loop-one-preserved : goal.loop-one-preserved
loop-one-preserved c =
    let all = c.args.narrowed.seen in
    let t = YieldsList-turn (YieldsList-from_vec all.items c.into_iter-one-iterator.ensures.into_iter_gives.0 (c.into_iter-one-iterator.ensures.into_iter_gives.1 ∙ all.ok.0)) c.loop-one.yielded _ c.loop-one.yielded_by _ c.next.new.self c.in-Some.one c.in-Some.is c.next.ensures.steps in
    record {
      same = c.settle_one-after.ensures.same ∙ c.loop-one.invariant.same;
      left = λ mode i n. c.settle_one-after.ensures.left mode i (c.loop-one.invariant.left mode i n)
          (subst (λ ns. IsSeen mode i ns c.in-Some.one) (sym c.loop-one.invariant.same)
          (seen_at mode i c.args.narrowed (length c.loop-one.yielded) c.in-Some.one t.0 t.1 n));
      seen = λ mode i n. subst (All (IsSeen mode i (left_numbers c.args.narrowed.left.items))) (sym c.in_ok-push.ensures.items)
          (All-push (IsSeen mode i (left_numbers c.args.narrowed.left.items)) c.loop-one.seen.items c.in-Some-kept.kept (c.loop-one.invariant.seen mode i n)
          (subst (IsSeen mode i (left_numbers c.args.narrowed.left.items)) (sym (kept_is _ c.in-Some-kept.kept c.in-Some.one c.in-Some-kept.is c.settle_one-after.ensures.kept))
          (seen_at mode i c.args.narrowed (length c.loop-one.yielded) c.in-Some.one t.0 t.1 n)));
    }

pub returns-clause-narrowed : goal.returns-clause-narrowed
returns-clause-narrowed c = λ mode i n. record {
  left = c.loop-one.invariant.left mode i n;
  seen = subst (λ ns. All (IsSeen mode i ns) c.loop-one.seen.items) (sym c.loop-one.invariant.same) (c.loop-one.invariant.seen mode i n);
}

pub returns-clause-same : goal.returns-clause-same
returns-clause-same c = c.loop-one.invariant.same
