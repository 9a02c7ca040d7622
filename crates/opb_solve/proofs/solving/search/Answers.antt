use Rattle.std.proofs.Common.{Result, Ok, Err, IfOk}
use Rattle.ep_answer.specs.AnswerViews.{plain_answer, plain_problem}
use Rattle.ep_answer.specs.Answered.{AnswersCells, Improves}
use Rattle.opb_solve.proofs.Adding.{improves_nothing}
use Rattle.opb_solve.proofs.solving.search.Goals as goal

weaker_ok : {X E : Type 0} (r : Result X E) (P Q : X → Type 0) → ((x : X) → P x → Q x) → IfOk r P → IfOk r Q
weaker_ok (Ok x) P Q more h = more x h
weaker_ok (Err e) P Q more h = tt

pub returns-in-None-clause-improves : goal.returns-in-None-clause-improves
returns-in-None-clause-improves c =
    weaker_ok c.find_one.result (λ found. AnswersCells (plain_problem c.args.problem.now) c.args.budget c.find_one.new.log (plain_answer found))
    (λ found. Improves (plain_problem c.args.problem.now) c.args.log.now c.find_one.new.log (plain_answer found))
    (λ found answers. improves_nothing (plain_problem c.args.problem.now) c.args.budget (plain_answer found) c.args.log.now c.find_one.new.log c.in-None.is c.find_one.ensures.front c.find_one.ensures.givens answers)
    c.find_one.ensures.answers
