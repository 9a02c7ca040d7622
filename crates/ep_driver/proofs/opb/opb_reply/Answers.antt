use Rattle.std.proofs.Common.{◌∙◌, Err, refl, sym, subst}
use Rattle.ep_files.specs.declared.stops.Stop.{Stop}
use Rattle.sat_search.specs.Logs.{IsSound}
use Rattle.ep_driver.specs.Shown.{IsOpbTextReadAs, ThenShows, is_opb_task}
use Rattle.ep_driver.specs.Steps.{EndsBy, IsSearched, TellsShown}
use Rattle.ep_driver.proofs.OpbReplies.{opb-answered, opb-ends, opb-stop-ends, opb-stopped}
use Rattle.ep_driver.proofs.opb.opb_reply.Goals as goal

pub returns-in-Ok-clause-tells : goal.returns-in-Ok-clause-tells
returns-in-Ok-clause-tells c =
    opb-answered c.args.text.now c.args.conflicts c.reply_to_opb.new.log c.in-Ok.reply c.spent_status.result (record { status = c.spent_status.result; text = c.in-Ok.reply.text }) c.in-Ok.ensures.replies c.spent_status.ensures refl refl

pub returns-in-Ok-clause-ends : goal.returns-in-Ok-clause-ends
returns-in-Ok-clause-ends c =
    opb-ends c.args.text.now c.args.conflicts c.reply_to_opb.new.log c.in-Ok.reply c.spent_status.result c.in-Ok.ensures.replies c.spent_status.ensures

pub returns-in-Err-clause-tells : goal.returns-in-Err-clause-tells
returns-in-Err-clause-tells c =
    let log = c.reply_to_opb.new.log in
    let P : Stop → Type 0 = λ stop. TellsShown (ThenShows (IsOpbTextReadAs c.args.text.now) (is_opb_task c.args.conflicts)) log (Err stop) in
    subst P (sym c.opb_stop.ensures)
    (opb-stopped c.args.text.now c.args.conflicts log c.in-Err.stop (c.opb_texts_come_to_one_thing.ensures.some c.args.text.now) c.in-Err.ensures.replies
    (λ refusal comes. (c.in-Err.ensures.refused refusal comes).1 ∙ c.requires.empty))

pub returns-in-Err-clause-ends : goal.returns-in-Err-clause-ends
returns-in-Err-clause-ends c =
    let log = c.reply_to_opb.new.log in
    let P : Stop → Type 0 = λ stop. EndsBy (IsSound log.events) (λ status. IsSearched c.args.conflicts status log) log (Err stop) in
    subst P (sym c.opb_stop.ensures)
    (opb-stop-ends c.args.text.now c.args.conflicts log c.in-Err.stop c.in-Err.ensures.replies
    (λ refusal comes. (c.in-Err.ensures.refused refusal comes).1 ∙ c.requires.empty) c.in-Err.ensures.sound)
