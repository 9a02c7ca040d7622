use Rattle.std.proofs.lemmas.Result.{err_from_is_err_and}
use Rattle.ep_instance_parts.specs.Instances.{plain_instance, instance_mode}
use Rattle.ep_driver.proofs.Explanations.{told-ends, told-settles}
use Rattle.ep_driver.proofs.Saying.{nothing-sound}
use Rattle.ep_driver.proofs.answering.explained_reply.Goals as goal

pub returns-clause-answers : goal.returns-clause-answers
returns-clause-answers c =
    told-settles (instance_mode c.args.instance.now) (plain_instance c.args.instance.now) c.args.conflicts c.tell.new.log c.in_ok-told.told c.spent_status.result c.spent_status.ensures c.in_ok-told.ensures.told

pub returns-clause-ends : goal.returns-clause-ends
returns-clause-ends c =
    told-ends (instance_mode c.args.instance.now) (plain_instance c.args.instance.now) c.args.conflicts c.tell.new.log c.in_ok-told.told c.spent_status.result c.spent_status.ensures c.in_ok-told.ensures.told
    (c.in_ok-told.ensures.sound (nothing-sound c.args.log.now c.requires.empty))

pub returns-clause-sound : goal.returns-clause-sound
returns-clause-sound c = c.in_ok-told.ensures.sound (nothing-sound c.args.log.now c.requires.empty)

pub returns-in_err-told-clause-sound : goal.returns-in_err-told-clause-sound
returns-in_err-told-clause-sound c = c.in_err-told.ensures.sound (nothing-sound c.args.log.now c.requires.empty)
