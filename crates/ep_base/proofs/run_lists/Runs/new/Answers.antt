use Rattle.std.proofs.Common.{subst, sym}
use Rattle.std.specs.List.{Any}
use Rattle.ep_base.specs.Runs.{IsIn}
use Rattle.ep_base.proofs.RunSteps.{in_numbers, numbers_ascend, any_moved}
use Rattle.ep_base.proofs.run_lists.Runs.new.Goals as goal

pub returns-clause-numbers : goal.returns-clause-numbers
returns-clause-numbers c = λ number.
    let P = IsIn number in
    let seen = in_numbers c.in_ok-runs.runs.items number in
    let moved = any_moved P c.args.parts.items c.sort_unstable.new.self.items c.sort_unstable.ensures.permutation in
    let same = c.in_ok-runs.ensures.numbers number in (
      λ h. moved.1 (subst (Any P) c.deref.ensures.value (same.0 (seen.0 h))),
      λ h. seen.1 (same.1 (subst (Any P) (sym c.deref.ensures.value) (moved.0 h))),
    )

pub returns-clause-ascending : goal.returns-clause-ascending
returns-clause-ascending c = numbers_ascend c.in_ok-runs.runs.items c.in_ok-runs.ensures.apart
