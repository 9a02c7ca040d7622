use Rattle.ep_driver_laws.proofs.Generating.{never_refused}
use Rattle.ep_driver_laws.proofs.generated_texts_are_never_refused.Goals as goal

pub returns : goal.returns
returns c = never_refused c.texts_have_one_answer.ensures.models c.texts_have_one_answer.ensures.params c.each_number_gives_an_instance.ensures
