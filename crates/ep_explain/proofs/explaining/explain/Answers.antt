use Rattle.std.proofs.Common.{◌∙◌, ap, sym, subst}
use Rattle.ep_instance_parts.specs.Instances.{instance_mode, plain_instance}
use Rattle.ep_restrict.specs.Restricted.{AreClauseNumbers, numbered_clauses, restricted}
use Rattle.ep_explain.specs.Explained.{HasNoSolution}
use Rattle.ep_explain.proofs.Asking.{empty_none, empty_unspent, found_shown, found_unspent, spent_at, spent_spent}
use Rattle.ep_explain.proofs.Ending.{ends_core, ends_open, ends_satisfiable, ends_some, narrowed_begun, right_core, right_satisfiable, right_spent, some_spent}
use Rattle.ep_explain.proofs.explaining.explain.Goals as goal

pub returns-in-Found-clause-right : goal.returns-in-Found-clause-right
returns-in-Found-clause-right g c =
    let i = plain_instance c.args.instance.now in
    let mode = instance_mode c.args.instance.now in
    right_satisfiable mode i _ _ c.deref.result.now c.in-Found.a (ap (numbered_clauses i.clauses) c.deref.ensures.value ∙ c.in_ok-all.ensures.whole)
    (found_shown mode (restricted i c.deref.result.now) _ _ _ _ c.in-Found.is c.in_ok-a.ensures.right)

pub returns-in-Found-clause-spent : goal.returns-in-Found-clause-spent
returns-in-Found-clause-spent g c = ends_satisfiable _ c.in-Found.a (found_unspent _ _ _ c.in_ok-a.ensures.spent c.in-Found.is)

pub returns-in-Found-clause-shown : goal.returns-in-Found-clause-shown
returns-in-Found-clause-shown g c =
    let i = plain_instance c.args.instance.now in
    (c.deref.result.now, subst (AreClauseNumbers i) (sym c.deref.ensures.value) c.in_ok-all.ensures.numbers, c.in_ok-a.ensures.shown)

pub returns-in-Spent-clause-right : goal.returns-in-Spent-clause-right
returns-in-Spent-clause-right g c =
    let i = plain_instance c.args.instance.now in
    let mode = instance_mode c.args.instance.now in
    right_spent mode i _ _ c.in_ok-all.all
    (spent_at mode i c.deref.result.now c.in_ok-all.all.items _ _ _ c.deref.ensures.value (subst (AreClauseNumbers i) (sym c.deref.ensures.value) c.in_ok-all.ensures.numbers)
    c.in-Spent.is c.in_ok-a.ensures.right)

pub returns-in-Spent-clause-spent : goal.returns-in-Spent-clause-spent
returns-in-Spent-clause-spent g c = ends_open _ c.in_ok-all.all (spent_spent _ _ c.in_ok-a.ensures.spent c.in-Spent.is)

pub returns-in-Spent-clause-shown : goal.returns-in-Spent-clause-shown
returns-in-Spent-clause-shown g c =
    let i = plain_instance c.args.instance.now in
    (c.deref.result.now, subst (AreClauseNumbers i) (sym c.deref.ensures.value) c.in_ok-all.ensures.numbers, c.in_ok-a.ensures.shown)

pub leave_out_blocks-requires-clause-narrowed : goal.leave_out_blocks-requires-clause-narrowed
leave_out_blocks-requires-clause-narrowed g c =
    let i = plain_instance c.args.instance.now in
    let mode = instance_mode c.args.instance.now in
    narrowed_begun mode i c.in_ok-all.all.items (record { left = c.in_ok-left.left; seen = c.new-seen.result }) (c.in_ok-left.ensures.numbers ∙ c.deref-2.ensures.value)
    c.in_ok-left.ensures.unsettled c.new-seen.ensures.items c.in_ok-all.ensures.numbers
    (subst (λ ns. HasNoSolution mode (restricted i ns)) c.deref.ensures.value (empty_none mode (restricted i c.deref.result.now) _ _ _ c.in-Empty.is c.in_ok-a.ensures.right))

pub leave_out_blocks-requires-clause-spent : goal.leave_out_blocks-requires-clause-spent
leave_out_blocks-requires-clause-spent g c = empty_unspent _ _ c.in_ok-a.ensures.spent c.in-Empty.is

pub leave_out_blocks-requires-clause-shown : goal.leave_out_blocks-requires-clause-shown
leave_out_blocks-requires-clause-shown g c =
    let i = plain_instance c.args.instance.now in
    (c.deref.result.now, subst (AreClauseNumbers i) (sym c.deref.ensures.value) c.in_ok-all.ensures.numbers, c.in_ok-a.ensures.shown)

pub returns-in-Some-clause-right : goal.returns-in-Some-clause-right
returns-in-Some-clause-right g c =
    let i = plain_instance c.args.instance.now in
    let mode = instance_mode c.args.instance.now in
    some_spent mode i _ _ _ c.in-Some.numbers c.in-Some.is c.in_ok-narrowed.ensures.right

pub returns-in-Some-clause-spent : goal.returns-in-Some-clause-spent
returns-in-Some-clause-spent g c = ends_some _ _ c.in-Some.numbers c.in_ok-narrowed.ensures.spent c.in-Some.is

pub returns-in-Some-spent-clause-right : goal.returns-in-Some-spent-clause-right
returns-in-Some-spent-clause-right g c =
    let i = plain_instance c.args.instance.now in
    let mode = instance_mode c.args.instance.now in
    some_spent mode i _ _ _ c.in-Some-spent.numbers c.in-Some-spent.is c.in_ok-left-2.ensures.right

pub returns-in-Some-spent-clause-spent : goal.returns-in-Some-spent-clause-spent
returns-in-Some-spent-clause-spent g c = ends_some _ _ c.in-Some-spent.numbers c.in_ok-left-2.ensures.spent c.in-Some-spent.is

pub returns : goal.returns
returns g c =
    let i = plain_instance c.args.instance.now in
    let mode = instance_mode c.args.instance.now in
    record {
      right = right_core mode i _ _ c.in_ok-left-2.left.items c.in_ok-core.core c.in_ok-left-2.ensures.left (c.in_ok-left-2.ensures.settled c.in_default-spent.is) c.in_ok-core.ensures;
      spent = ends_core _ _ c.in_ok-core.core c.in_ok-left-2.ensures.spent c.in_default-spent.is;
      shown = c.in_ok-left-2.ensures.shown;
      budget = c.in_ok-left-2.ensures.budget ∙ c.in_ok-narrowed.ensures.budget ∙ c.in_ok-a.ensures.budget;
      sound = λ before. c.in_ok-left-2.ensures.sound (c.in_ok-narrowed.ensures.sound (c.in_ok-a.ensures.sound before));
    }
