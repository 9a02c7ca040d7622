use Rattle.ep_instance_parts.specs.Instances.{plain_instance, instance_mode}
use Rattle.ep_print.specs.Answers.{answer_tree}
use Rattle.ep_driver.proofs.Cubed.{divided, divided-ends}
use Rattle.ep_driver.proofs.answering.divided_reply.Goals as goal

pub returns-clause-answers : goal.returns-clause-answers
returns-clause-answers g c =
    divided (instance_mode c.args.instance.now) (plain_instance c.args.instance.now) c.args.cubes c.args.conflicts c.answer_status.result c.in_ok-text.text.items c.solve_in_cubes.new.log (answer_tree c.in_ok-answer.answer)
    c.in_ok-answer.ensures.right c.in_ok-answer.ensures.logged c.answer_status.ensures c.in_ok-text.ensures.text

pub returns-clause-ends : goal.returns-clause-ends
returns-clause-ends g c =
    divided-ends (instance_mode c.args.instance.now) (plain_instance c.args.instance.now) c.args.cubes c.args.conflicts c.solve_in_cubes.new.log (answer_tree c.in_ok-answer.answer) c.answer_status.result
    c.answer_status.ensures c.in_ok-answer.ensures.logged

pub returns-clause-sound : goal.returns-clause-sound
returns-clause-sound g c = (c.in_ok-answer.ensures.valid, c.in_ok-answer.ensures.new)

pub returns-in_err-answer-clause-sound : goal.returns-in_err-answer-clause-sound
returns-in_err-answer-clause-sound g c = (c.in_err-answer.ensures.valid, c.in_err-answer.ensures.new)

pub returns-in_err-text-clause-sound : goal.returns-in_err-text-clause-sound
returns-in_err-text-clause-sound g c = (c.in_ok-answer.ensures.valid, c.in_ok-answer.ensures.new)
