use Rattle.std.proofs.Common.{w64, sym, subst}
use Rattle.std.specs.List.{Any, Contains}
use Rattle.std.proofs.lemmas.Int.{to_z-of_z}
use Rattle.ep_base.specs.Runs.{IsIn}
use Rattle.ep_base.proofs.RunSteps.{in_numbers}
use Rattle.ep_base.proofs.run_lists.Runs.has.Goals as goal

pub returns : goal.returns
returns c =
    let number = c.args.number in
    let runs = c.self.inside.runs.items in
    let passed = to_z-of_z w64 number c.ranges.number in
    let seen = in_numbers runs number in (
      λ h. subst (λ xs. Contains xs number) c.self.view_is (seen.1 (subst (Any (IsIn number)) c.deref.ensures.value (subst (λ n. Any (IsIn n) c.deref.result.now) passed (c.some_has.ensures.0 h)))),
      λ h. c.some_has.ensures.1 (subst (λ n. Any (IsIn n) c.deref.result.now) (sym passed) (subst (Any (IsIn number)) (sym c.deref.ensures.value) (seen.0 (subst (λ xs. Contains xs number) (sym c.self.view_is) h)))),
    )
