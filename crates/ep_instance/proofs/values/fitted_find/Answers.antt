use Rattle.ep_instance.proofs.AssigningSteps.{find_fit}
use Rattle.ep_instance.proofs.values.fitted_find.Goals as goal

pub returns : goal.returns
returns c =
    find_fit c.fit.result c.in_ok-copy.field-0 _ _ _ _ _ _ _ _ c.in_ok-copy.ensures c.scalar_of.ensures c.scalar_of-wanted.ensures c.deref.ensures.value c.fit.ensures
