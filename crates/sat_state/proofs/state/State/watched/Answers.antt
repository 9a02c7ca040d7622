use Rattle.std.proofs.Common.{List, ap, subst, ◌∙◌}
use Rattle.std.specs.Prelude.{IfSome}
use Rattle.sat_state.specs.Trail.{Entry}
use Rattle.sat_state.specs.View.{StateView, IsGuarded}
use Rattle.sat_state.proofs.Finished.{all_seen}
use Rattle.sat_state.proofs.state.State.watched.Goals as goal

pub returns-clause-one : goal.returns-clause-one
returns-clause-one c = λ seen.
    subst (λ (t : List Entry). IfSome c.watched.result (λ pair. IsGuarded t pair.0 pair.1)) (ap (λ (x : StateView). x.trail) c.self.view_is)
    (c.watched.ensures.one (all_seen c.self.inside.parts (ap (λ (x : StateView). x.seen) c.self.view_is ∙ seen)))

pub returns-clause-other : goal.returns-clause-other
returns-clause-other c = λ seen.
    subst (λ (t : List Entry). IfSome c.watched.result (λ pair. IsGuarded t pair.1 pair.0)) (ap (λ (x : StateView). x.trail) c.self.view_is)
    (c.watched.ensures.other (all_seen c.self.inside.parts (ap (λ (x : StateView). x.seen) c.self.view_is ∙ seen)))
