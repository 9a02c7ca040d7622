use Rattle.ep_instance_parts.specs.Instances.{plain_instance, instance_mode}
use Rattle.ep_print.specs.Answers.{answer_tree}
use Rattle.ep_driver.proofs.Tasks.{answer-ends, solved}
use Rattle.ep_driver.proofs.answering.solved_reply.Goals as goal

pub returns-clause-answers : goal.returns-clause-answers
returns-clause-answers c =
    solved (instance_mode c.args.instance.now) (plain_instance c.args.instance.now) c.args.conflicts c.answer_status.result c.in_ok-text.text.items c.solve.new.log (answer_tree c.in_ok-answer.answer)
    c.in_ok-answer.ensures.right c.in_ok-answer.ensures.logged c.answer_status.ensures c.in_ok-text.ensures.text

pub returns-clause-ends : goal.returns-clause-ends
returns-clause-ends c =
    answer-ends (instance_mode c.args.instance.now) (plain_instance c.args.instance.now) c.args.conflicts c.solve.new.log (answer_tree c.in_ok-answer.answer) c.answer_status.result
    c.answer_status.ensures c.in_ok-answer.ensures.logged
