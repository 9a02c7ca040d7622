use Rattle.std.proofs.Common.{◌↔◌, ◌∷◌, [], ◌++◌, pos, ◌+ℤ◌, ◌<ℤ◌, sym, subst}
use Rattle.std.specs.List.{All, Any}
use Rattle.ep_base.specs.Runs.{AreApart, IsIn}
use Rattle.ep_base.proofs.RunSteps.{apart_push, apart_front, gap_after, same_numbers}
use Rattle.ep_base.proofs.run_lists.add_run.Goals as goal

pub returns-in_ok-push-in-Some-joined-clause-apart :
    goal.returns-in_ok-push-in-Some-joined-clause-apart
returns-in_ok-push-in-Some-joined-clause-apart c =
    let front = c.pop.new.self.items in
    let ends = apart_front front c.in-Some.last (subst AreApart c.in-Some.ensures.items c.requires.apart) in
    let gap = subst (λ lo. All (λ r. (r.hi +ℤ pos 1) <ℤ lo) front) (sym c.in-Some-joined.ensures.apart.0) ends.gap in
    subst AreApart (sym c.in_ok-push-in-Some-joined.ensures.items) (apart_push front c.in-Some-joined.both ends.front c.in-Some-joined.ensures.apart.1 gap)

pub returns-in_ok-push-in-Some-joined-clause-numbers :
    goal.returns-in_ok-push-in-Some-joined-clause-numbers
returns-in_ok-push-in-Some-joined-clause-numbers c = λ number.
    let front = c.pop.new.self.items in
    let same = same_numbers front c.in-Some.last c.args.part c.in-Some-joined.both number (c.in-Some-joined.ensures.numbers number) in
    let joined = subst (λ ys. Any (IsIn number) (front ++ c.in-Some-joined.both ∷ []) ↔ Any (IsIn number) (ys ++ c.args.part ∷ [])) (sym c.in-Some.ensures.items) same in
    subst (λ xs. Any (IsIn number) xs ↔ Any (IsIn number) (c.args.runs.now.items ++ c.args.part ∷ [])) (sym c.in_ok-push-in-Some-joined.ensures.items) joined

pub returns-in_ok-push-in-None-2-clause-apart : goal.returns-in_ok-push-in-None-2-clause-apart
returns-in_ok-push-in-None-2-clause-apart c =
    let front = c.pop.new.self.items in
    let old = subst AreApart c.in-Some.ensures.items c.requires.apart in
    let ends = apart_front front c.in-Some.last old in
    let gap = gap_after front c.in-Some.last c.args.part ends c.in-None.ensures.apart in
    let more = apart_push (front ++ c.in-Some.last ∷ []) c.args.part old c.requires.filled gap in
    subst AreApart (sym c.in_ok-push-in-None-2.ensures.items) (subst (λ xs. AreApart (xs ++ c.args.part ∷ [])) (sym c.in_ok-push-in-None.ensures.items) more)
