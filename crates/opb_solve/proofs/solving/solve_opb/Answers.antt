use Rattle.std.proofs.Common.{◌≡◌, ◌∙◌, List, ℕ, ap, subst, sym}
use Rattle.cnf_core.specs.Events.{LogState}
use Rattle.ep_answer.specs.AnswerViews.{plain_answer, plain_problem}
use Rattle.opb_answer.specs.Answers.{plain_found}
use Rattle.opb_answer.specs.Right.{IsRightOpb}
use Rattle.opb_solve.proofs.Allowing.{can_search}
use Rattle.opb_solve.proofs.Showing.{SearchedOpb, found_logged, found_right}
use Rattle.opb_solve.proofs.solving.solve_opb.Goals as goal
use Rattle.opb_solve.specs.Logged.{IsOpbLogged}
use Rattle.opb_solve.specs.Meant.{PosesOpb, found_from}
use Rattle.opb_text.specs.Views.{plain_opb}
use Rattle.opb_text.specs.Weights.{AreVariablesOf}
use Rattle.sat_search.specs.Logs.{IsSound}

pub posed-requires-clause-vars : goal.posed-requires-clause-vars
posed-requires-clause-vars c = subst (AreVariablesOf (plain_opb c.args.opb.now)) (sym c.deref.ensures.value) c.in_ok-vars.ensures

pub search-requires : goal.search-requires
search-requires c = can_search (plain_opb c.args.opb.now) c.deref.result.now (plain_problem c.in_ok-problem.problem) c.posed.new.log c.in_ok-problem.ensures.poses

pub returns-clause-right : goal.returns-clause-right
returns-clause-right c =
    let vars : List ℕ = c.in_ok-vars.vars.items in
    let searched : SearchedOpb (plain_opb c.args.opb.now) vars = record {
      are = c.in_ok-vars.ensures;
      p = plain_problem c.in_ok-problem.problem;
      old = c.posed.new.log;
      new = c.search.new.log;
      poses = subst (λ (vs : List ℕ). PosesOpb (plain_opb c.args.opb.now) vs (plain_problem c.in_ok-problem.problem) c.posed.new.log) c.deref.ensures.value c.in_ok-problem.ensures.poses;
      front = c.in_ok-found.ensures.front;
      base = c.in_ok-found.ensures.base;
      notes = c.in_ok-found.ensures.notes;
    } in
    let same : plain_found c.in_ok-answer.answer ≡ found_from vars (plain_answer c.in_ok-found.found) =
    c.in_ok-answer.ensures ∙ ap (λ (vs : List ℕ). found_from vs (plain_answer c.in_ok-found.found)) c.deref-2.ensures.value in
    subst (IsRightOpb (plain_opb c.args.opb.now)) (sym same) (found_right (plain_opb c.args.opb.now) vars searched c.args.budget (plain_answer c.in_ok-found.found) c.in_ok-found.ensures.answers)

pub returns-clause-logged : goal.returns-clause-logged
returns-clause-logged c =
    let vars : List ℕ = c.in_ok-vars.vars.items in
    let searched : SearchedOpb (plain_opb c.args.opb.now) vars = record {
      are = c.in_ok-vars.ensures;
      p = plain_problem c.in_ok-problem.problem;
      old = c.posed.new.log;
      new = c.search.new.log;
      poses = subst (λ (vs : List ℕ). PosesOpb (plain_opb c.args.opb.now) vs (plain_problem c.in_ok-problem.problem) c.posed.new.log) c.deref.ensures.value c.in_ok-problem.ensures.poses;
      front = c.in_ok-found.ensures.front;
      base = c.in_ok-found.ensures.base;
      notes = c.in_ok-found.ensures.notes;
    } in
    let same : plain_found c.in_ok-answer.answer ≡ found_from vars (plain_answer c.in_ok-found.found) =
    c.in_ok-answer.ensures ∙ ap (λ (vs : List ℕ). found_from vs (plain_answer c.in_ok-found.found)) c.deref-2.ensures.value in
    subst (IsOpbLogged (plain_opb c.args.opb.now) c.args.budget c.search.new.log) (sym same)
    (found_logged (plain_opb c.args.opb.now) vars searched c.args.budget (plain_answer c.in_ok-found.found) c.in_ok-found.ensures.improves c.in_ok-found.ensures.answers)

pub returns-in_err-vars-clause-sound : goal.returns-in_err-vars-clause-sound
returns-in_err-vars-clause-sound c =
    subst (λ (log : LogState). IsSound log.events) (sym c.requires.empty) (record { valid = tt; new = tt; effective = tt })
