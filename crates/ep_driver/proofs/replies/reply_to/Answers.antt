use Rattle.std.proofs.Common.{Err, OnErr, Result, subst}
use Rattle.ep_base.specs.Outside.{Rose}
use Rattle.ep_driver.specs.Steps.{LogsTask, TellsRun}
use Rattle.ep_driver.specs.declared.replies.Reply.{Reply}
use Rattle.ep_files.specs.declared.stops.Stop.{Stop}
use Rattle.ep_driver.proofs.Promises.{refused-unanswered}
use Rattle.ep_driver.proofs.Running.{refused-asks, refused-holds, refused-said, run-asked}
use Rattle.ep_driver.proofs.Saying.{holds-wanting, run-sound}
use Rattle.ep_driver.proofs.replies.reply_to.Goals as goal

pub returns-in-Err-Refused-clause-says : goal.returns-in-Err-Refused-clause-says
returns-in-Err-Refused-clause-says g c =
    let told = g.F.Files.held c.args.files.now in
    let after = g.F.Files.held c.run_words.new.files in
    let rose = Rose (g.F.Files.faults c.args.files.now) (g.F.Files.faults c.run_words.new.files) in
    let R : Result Reply Stop → Type 0 = λ r. TellsRun c.args.words.now told after rose c.run_words.new.log r in
    let S : Stop → Type 0 = λ s. TellsRun c.args.words.now told after rose c.run_words.new.log (Err s) in
    refused-said c.args.words.now told after rose c.run_words.new.log c.in-Err-Refused.refusal c.refused.result c.refused.ensures.status c.refused.ensures.line
    (subst S c.in-Err-Refused.field-0-is (subst R c.in-Err-Refused.is c.run_words.ensures.tells))

pub returns-in-Err-Refused-clause-wants : goal.returns-in-Err-Refused-clause-wants
returns-in-Err-Refused-clause-wants g c =
    let told = g.F.Files.held c.args.files.now in
    let after = g.F.Files.held c.run_words.new.files in
    let rose = Rose (g.F.Files.faults c.args.files.now) (g.F.Files.faults c.run_words.new.files) in
    let R : Result Reply Stop → Type 0 = λ r. TellsRun c.args.words.now told after rose c.run_words.new.log r in
    let S : Stop → Type 0 = λ s. TellsRun c.args.words.now told after rose c.run_words.new.log (Err s) in
    refused-holds c.args.words.now told after rose c.run_words.new.log c.in-Err-Refused.refusal c.refused.result
    (subst S c.in-Err-Refused.field-0-is (subst R c.in-Err-Refused.is c.run_words.ensures.tells))

pub returns-in-Err-Refused-clause-asked : goal.returns-in-Err-Refused-clause-asked
returns-in-Err-Refused-clause-asked g c =
    let told = g.F.Files.held c.args.files.now in
    let after = g.F.Files.held c.run_words.new.files in
    let rose = Rose (g.F.Files.faults c.args.files.now) (g.F.Files.faults c.run_words.new.files) in
    let R : Result Reply Stop → Type 0 = λ r. TellsRun c.args.words.now told after rose c.run_words.new.log r in
    let S : Stop → Type 0 = λ s. TellsRun c.args.words.now told after rose c.run_words.new.log (Err s) in
    refused-asks c.args.words.now told after rose c.run_words.new.log c.in-Err-Refused.refusal c.refused.result
    (subst S c.in-Err-Refused.field-0-is (subst R c.in-Err-Refused.is c.run_words.ensures.tells))

pub returns-in-Err-Memory-clause-asked : goal.returns-in-Err-Memory-clause-asked
returns-in-Err-Memory-clause-asked g c =
    let told = g.F.Files.held c.args.files.now in
    let after = g.F.Files.held c.run_words.new.files in
    let rose = Rose (g.F.Files.faults c.args.files.now) (g.F.Files.faults c.run_words.new.files) in
    let log = c.run_words.new.log in
    let A : Result Reply Stop → Type 0 = λ r. OnErr r (LogsTask c.args.words.now told log) in
    subst A c.in-Err-Memory.is (run-asked c.args.words.now told after rose log c.run_words.result c.run_words.ensures.tells)

pub returns-in-Ok-clause-sound : goal.returns-in-Ok-clause-sound
returns-in-Ok-clause-sound g c =
    let told = g.F.Files.held c.args.files.now in
    let after = g.F.Files.held c.run_words.new.files in
    let rose = Rose (g.F.Files.faults c.args.files.now) (g.F.Files.faults c.run_words.new.files) in
    run-sound c.args.words.now told after rose c.run_words.new.log c.run_words.result c.run_words.ensures.tells

pub returns-in-Err-Refused-clause-sound : goal.returns-in-Err-Refused-clause-sound
returns-in-Err-Refused-clause-sound g c =
    let told = g.F.Files.held c.args.files.now in
    let after = g.F.Files.held c.run_words.new.files in
    let rose = Rose (g.F.Files.faults c.args.files.now) (g.F.Files.faults c.run_words.new.files) in
    run-sound c.args.words.now told after rose c.run_words.new.log c.run_words.result c.run_words.ensures.tells

pub returns-in-Err-Memory-clause-sound : goal.returns-in-Err-Memory-clause-sound
returns-in-Err-Memory-clause-sound g c =
    let told = g.F.Files.held c.args.files.now in
    let after = g.F.Files.held c.run_words.new.files in
    let rose = Rose (g.F.Files.faults c.args.files.now) (g.F.Files.faults c.run_words.new.files) in
    run-sound c.args.words.now told after rose c.run_words.new.log c.run_words.result c.run_words.ensures.tells

pub returns-in-Err-Memory-clause-wants : goal.returns-in-Err-Memory-clause-wants
returns-in-Err-Memory-clause-wants g c =
    let told = g.F.Files.held c.args.files.now in
    let after = g.F.Files.held c.run_words.new.files in
    let rose = Rose (g.F.Files.faults c.args.files.now) (g.F.Files.faults c.run_words.new.files) in
    let R : Result Reply Stop → Type 0 = λ r. TellsRun c.args.words.now told after rose c.run_words.new.log r in
    let S : Stop → Type 0 = λ s. TellsRun c.args.words.now told after rose c.run_words.new.log (Err s) in
    holds-wanting c.args.words.now told after rose c.run_words.new.log
    (subst S c.in-Err-Memory.field-0-is (subst R c.in-Err-Memory.is c.run_words.ensures.tells))

pub returns-in-Ok-clause-generated : goal.returns-in-Ok-clause-generated
returns-in-Ok-clause-generated g c = λ has. c.in-Ok.ensures.generated

pub returns-in-Err-Refused-clause-generated : goal.returns-in-Err-Refused-clause-generated
returns-in-Err-Refused-clause-generated g c =
    refused-unanswered c.args.words.now c.in-Err-Refused.refusal c.refused.result c.run_words.new.log c.refused.ensures.status
