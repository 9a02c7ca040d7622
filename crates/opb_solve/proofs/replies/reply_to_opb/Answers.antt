use Rattle.std.proofs.Common.{refl, sym, subst}
use Rattle.cnf_core.specs.Events.{LogState}
use Rattle.opb_answer.specs.Answers.{plain_found}
use Rattle.std.proofs.lemmas.Result.{err_from_is_err_and}
use Rattle.opb_solve.proofs.Replying.{no_refusal, stop_refused, stop_replies}
use Rattle.opb_solve.proofs.replies.reply_to_opb.Goals as goal
use Rattle.opb_text.specs.Views.{plain_opb}
use Rattle.sat_search.specs.Logs.{IsSound}

pub returns-clause-replies : goal.returns-clause-replies
returns-clause-replies c = (
  plain_opb c.in_ok-opb.opb,
  c.in_ok-opb.ensures.gives,
  record {
    found = plain_found c.in_ok-answer.answer;
    right = c.in_ok-answer.ensures.right;
    logged = c.in_ok-answer.ensures.logged;
    text = c.in_ok-lines.ensures;
    spent = c.says_spent-spent.ensures;
  },
)

pub returns-clause-refused : goal.returns-clause-refused
returns-clause-refused c = λ refusal comes. no_refusal c.in_ok-opb.opb refusal (c.in_ok-opb.ensures.refused refusal comes)

pub returns-in_err-answer-clause-refused : goal.returns-in_err-answer-clause-refused
returns-in_err-answer-clause-refused c = λ refusal comes. no_refusal c.in_ok-opb.opb refusal (c.in_ok-opb.ensures.refused refusal comes)

pub returns-in_err-lines-clause-refused : goal.returns-in_err-lines-clause-refused
returns-in_err-lines-clause-refused c = λ refusal comes. no_refusal c.in_ok-opb.opb refusal (c.in_ok-opb.ensures.refused refusal comes)

pub returns-in_err-opb-clause-replies : goal.returns-in_err-opb-clause-replies
returns-in_err-opb-clause-replies c =
    let p = err_from_is_err_and c.from_residual.result c.from_residual.ensures.1 in
    rw (p.1, p.2) (stop_replies c.args.text.now c.args.budget c.args.log.now c.in_err-opb.field-0.0 c.in_err-opb.ensures.gives)

pub returns-in_err-opb-clause-refused : goal.returns-in_err-opb-clause-refused
returns-in_err-opb-clause-refused c =
    let p = err_from_is_err_and c.from_residual.result c.from_residual.ensures.1 in
    rw (p.1, p.2) (λ refusal comes. (stop_refused c.in_err-opb.field-0.0 refusal (c.in_err-opb.ensures.refused refusal comes), refl))

pub returns-in_err-opb-clause-sound : goal.returns-in_err-opb-clause-sound
returns-in_err-opb-clause-sound c =
    subst (λ (log : LogState). IsSound log.events) (sym c.requires.empty) (record { valid = tt; new = tt; effective = tt })
