use Rattle.std.proofs.Common.{◌≡◌, ◌∙◌, ◌≤◌, ◌==◌, ap, sym, not, subst, drop, length}
use Rattle.ep_instance_parts.specs.Instances.{instance_mode, plain_instance}
use Rattle.ep_restrict.specs.Restricted.{AreClauseNumbers, restricted}
use Rattle.ep_tree.specs.Views.{assigned}
use Rattle.ep_explain.specs.Explained.{HasNoSolution, IsWrittenSolution, all_but}
use Rattle.ep_explain.specs.Narrowing.{AreLeft, IsAllSettled, left_numbers}
use Rattle.ep_explain.specs.declared.left.Left.{Left}
use Rattle.std.specs.Prelude.{List}
use Rattle.ep_explain.proofs.Asking.{empty_none, empty_unspent, found_shown, found_unspent, spent_at, spent_spent}
use Rattle.ep_explain.proofs.Leaving.{numbers_filtered}
use Rattle.ep_explain.proofs.Single.{found_at, found_within, left_removed, removed_within, settled_found, settled_gone}
use Rattle.ep_explain.proofs.explaining.leave_out_at.Goals as goal

pub attempt_at-requires : goal.attempt_at-requires
attempt_at-requires g c =
    let i = plain_instance c.args.instance.now in
    let mode = instance_mode c.args.instance.now in
    let kept : c.deref-2.result.now ≡ all_but c.index.result.now.clause (left_numbers c.args.left.items) =
    c.deref-2.ensures.value ∙ c.in_ok-keep.ensures ∙ ap (λ ls. all_but c.index.result.now.clause (left_numbers ls)) c.deref.ensures.value in
    let are : AreClauseNumbers i c.deref-2.result.now = subst (AreClauseNumbers i) (sym kept)
    (numbers_filtered i (λ k. not (k == c.index.result.now.clause)) (left_numbers c.args.left.items) c.requires.left.numbers) in
    record { closed = c.requires.closed; within = c.requires.within; values = c.requires.values; numbers = are }

pub returns-in-Found : goal.returns-in-Found
returns-in-Found g c =
    let i = plain_instance c.args.instance.now in
    let mode = instance_mode c.args.instance.now in
    let kept : c.deref-2.result.now ≡ all_but c.index.result.now.clause (left_numbers c.args.left.items) =
    c.deref-2.ensures.value ∙ c.in_ok-keep.ensures ∙ ap (λ ls. all_but c.index.result.now.clause (left_numbers ls)) c.deref.ensures.value in
    let shown : IsWrittenSolution mode (restricted i c.deref-2.result.now) (assigned c.in-Found.a) =
    found_shown mode (restricted i c.deref-2.result.now) _ _ _ _ c.in-Found.is c.in_ok-tried.ensures.right in
    let are : AreClauseNumbers i c.deref-2.result.now = subst (AreClauseNumbers i) (sym kept)
    (numbers_filtered i (λ k. not (k == c.index.result.now.clause)) (left_numbers c.args.left.items) c.requires.left.numbers) in
    record {
      left = found_at mode i c.args.left.items c.args.place c.index.result.now c.index_mut.result.now c.deref-2.result.now c.in-Found.a c.requires.left c.index.ensures
          c.index_mut.ensures.value c.requires.there kept shown;
      there = found_within c.args.left.items c.args.place _ c.requires.there;
      settled = λ _ rest. settled_found c.args.left.items c.args.place c.index_mut.result.now c.in-Found.a c.requires.there rest;
      right = tt;
      spent = found_unspent _ _ _ c.in_ok-tried.ensures.spent c.in-Found.is;
      shown = (c.deref-2.result.now, are, c.in_ok-tried.ensures.shown);
      budget = c.in_ok-tried.ensures.budget;
      sound = c.in_ok-tried.ensures.sound;
    }

pub returns-in-Empty : goal.returns-in-Empty
returns-in-Empty g c =
    let i = plain_instance c.args.instance.now in
    let mode = instance_mode c.args.instance.now in
    let kept : c.deref-2.result.now ≡ all_but c.index.result.now.clause (left_numbers c.args.left.items) =
    c.deref-2.ensures.value ∙ c.in_ok-keep.ensures ∙ ap (λ ls. all_but c.index.result.now.clause (left_numbers ls)) c.deref.ensures.value in
    let none : HasNoSolution mode (restricted i c.deref-2.result.now) = empty_none mode (restricted i c.deref-2.result.now) _ _ _ c.in-Empty.is c.in_ok-tried.ensures.right in
    let are : AreClauseNumbers i c.deref-2.result.now = subst (AreClauseNumbers i) (sym kept)
    (numbers_filtered i (λ k. not (k == c.index.result.now.clause)) (left_numbers c.args.left.items) c.requires.left.numbers) in
    record {
      left = subst (AreLeft mode i) (sym c.remove.ensures.items)
          (left_removed mode i c.args.left.items c.args.place c.index.result.now c.deref-2.result.now c.requires.left c.requires.there c.index.ensures kept none);
      there = subst (λ (ls : List Left). c.args.place ≤ length ls) (sym c.remove.ensures.items) (removed_within c.args.left.items c.args.place c.requires.there);
      settled = λ _ rest. subst (λ (ls : List Left). IsAllSettled (drop c.args.place ls)) (sym c.remove.ensures.items) (settled_gone c.args.left.items c.args.place c.requires.there rest);
      right = tt;
      spent = empty_unspent _ _ c.in_ok-tried.ensures.spent c.in-Empty.is;
      shown = (c.deref-2.result.now, are, c.in_ok-tried.ensures.shown);
      budget = c.in_ok-tried.ensures.budget;
      sound = c.in_ok-tried.ensures.sound;
    }

pub returns-in-Spent-clause-right : goal.returns-in-Spent-clause-right
returns-in-Spent-clause-right g c =
    let i = plain_instance c.args.instance.now in
    let mode = instance_mode c.args.instance.now in
    let kept : c.deref-2.result.now ≡ all_but c.index.result.now.clause (left_numbers c.args.left.items) =
    c.deref-2.ensures.value ∙ c.in_ok-keep.ensures ∙ ap (λ ls. all_but c.index.result.now.clause (left_numbers ls)) c.deref.ensures.value in
    let are : AreClauseNumbers i c.deref-2.result.now = subst (AreClauseNumbers i) (sym kept)
    (numbers_filtered i (λ k. not (k == c.index.result.now.clause)) (left_numbers c.args.left.items) c.requires.left.numbers) in
    spent_at mode i c.deref-2.result.now c.in_ok-keep.keep.items _ _ _ c.deref-2.ensures.value are c.in-Spent.is c.in_ok-tried.ensures.right

pub returns-in-Spent-clause-spent : goal.returns-in-Spent-clause-spent
returns-in-Spent-clause-spent g c = spent_spent _ _ c.in_ok-tried.ensures.spent c.in-Spent.is

pub returns-in-Spent-clause-shown : goal.returns-in-Spent-clause-shown
returns-in-Spent-clause-shown g c =
    let i = plain_instance c.args.instance.now in
    let kept : c.deref-2.result.now ≡ all_but c.index.result.now.clause (left_numbers c.args.left.items) =
    c.deref-2.ensures.value ∙ c.in_ok-keep.ensures ∙ ap (λ ls. all_but c.index.result.now.clause (left_numbers ls)) c.deref.ensures.value in
    let are : AreClauseNumbers i c.deref-2.result.now = subst (AreClauseNumbers i) (sym kept)
    (numbers_filtered i (λ k. not (k == c.index.result.now.clause)) (left_numbers c.args.left.items) c.requires.left.numbers) in
    (c.deref-2.result.now, are, c.in_ok-tried.ensures.shown)
