use Rattle.ep_driver_laws.proofs.Showing.{shows}
use Rattle.ep_driver_laws.proofs.every_command_shows.Goals as goal

pub returns : goal.returns
returns c = shows c.opb_texts_come_to_one_thing.ensures.some
