use Rattle.std.proofs.lemmas.Result.{err_from_is_err_and}
use Rattle.std.proofs.Common.{◌≡◌, ℕ, List, Ok, Err, refl, subst}
use Rattle.ep_base.proofs.PutSteps.{rose_later}
use Rattle.ep_base.specs.Outside.{Rose}
use Rattle.ep_driver.specs.Outputs.{written_for}
use Rattle.ep_driver.specs.Steps.{AnswersTexts}
use Rattle.ep_outputs.specs.Writes.{TellsWritten}
use Rattle.ep_driver.specs.declared.wanted.Wanted.{Wanted}
use Rattle.ep_words.proofs.SettingLaws.{one_job}
use Rattle.ep_driver.proofs.Allowed.{wants-possible}
use Rattle.ep_driver.proofs.Once.{want-once}
use Rattle.ep_driver.proofs.Saying.{answered-run, refused-run, unread-words, unwritten-run}
use Rattle.ep_driver.proofs.replies.run_words.Goals as goal

pub returns-in_err-wanted-clause-tells : goal.returns-in_err-wanted-clause-tells
returns-in_err-wanted-clause-tells g c =
    let p = err_from_is_err_and c.from_residual.result c.from_residual.ensures.1 in
    let told = g.F.Files.held c.args.files.now in
    let rose = Rose (g.F.Files.faults c.args.files.now) (g.F.Files.faults c.args.files.now) in
    rw (p.1, p.2) (unread-words c.args.words.now told rose c.args.log.now c.in_err-wanted.field-0.0 c.requires.empty c.in_err-wanted.ensures)

pub returns-in_err-reply-clause-tells : goal.returns-in_err-reply-clause-tells
returns-in_err-reply-clause-tells g c =
    let p = err_from_is_err_and c.from_residual-in_err-reply.result c.from_residual-in_err-reply.ensures.1 in
    let told = g.F.Files.held c.args.files.now in
    let after = g.F.Files.held c.do_wanted.new.files in
    let rose = Rose (g.F.Files.faults c.args.files.now) (g.F.Files.faults c.do_wanted.new.files) in
    rw (p.1, p.2)
    (refused-run c.args.words.now c.in_ok-wanted.wanted told after rose c.do_wanted.new.log c.in_err-reply.field-0.0 c.in_ok-wanted.ensures c.in_err-reply.ensures.held c.in_err-reply.ensures.ends c.in_err-reply.ensures.tells)

pub returns-in_err-write_wanted-clause-tells : goal.returns-in_err-write_wanted-clause-tells
returns-in_err-write_wanted-clause-tells g c =
    let p = err_from_is_err_and c.from_residual-in_err-write_wanted.result c.from_residual-in_err-write_wanted.ensures.1 in
    let first = g.F.Files.faults c.args.files.now in
    let next = g.F.Files.faults c.do_wanted.new.files in
    let last = g.F.Files.faults c.write_wanted.new.files in
    let told = g.F.Files.held c.args.files.now in
    let between = g.F.Files.held c.do_wanted.new.files in
    let after = g.F.Files.held c.write_wanted.new.files in
    let reply = c.in_ok-reply.reply in
    let stop = c.in_err-write_wanted.field-0.0 in
    let T : List ℕ → Type 0 = λ text. TellsWritten {V = Unit {0}} c.do_wanted.new.log text (written_for c.in_ok-wanted.wanted) between after (Rose next last) (Err stop) in
    rw (p.1, p.2)
    (unwritten-run (Unit {0}) c.args.words.now c.in_ok-wanted.wanted (written_for c.in_ok-wanted.wanted) told between after (Rose first last) (Rose next last) reply.status reply.text.items c.do_wanted.new.log stop
    c.in_ok-wanted.ensures refl c.in_ok-reply.ensures.held (rose_later first next last c.in_ok-reply.ensures.faults) c.in_ok-reply.ensures.ends.1 c.in_ok-reply.ensures.tells
    (subst T c.deref.ensures.value c.in_err-write_wanted.ensures.tells))

pub returns-clause-tells : goal.returns-clause-tells
returns-clause-tells g c =
    let first = g.F.Files.faults c.args.files.now in
    let next = g.F.Files.faults c.do_wanted.new.files in
    let last = g.F.Files.faults c.write_wanted.new.files in
    let told = g.F.Files.held c.args.files.now in
    let between = g.F.Files.held c.do_wanted.new.files in
    let after = g.F.Files.held c.write_wanted.new.files in
    let reply = c.in_ok-reply.reply in
    let T : List ℕ → Type 0 = λ text. TellsWritten {V = Unit {0}} c.do_wanted.new.log text (written_for c.in_ok-wanted.wanted) between after (Rose next last) (Ok c.in_ok-write_wanted.field-0) in
    answered-run (Unit {0}) c.args.words.now c.in_ok-wanted.wanted (written_for c.in_ok-wanted.wanted) told between after (Rose first last) (Rose next last) c.do_wanted.new.log reply c.in_ok-write_wanted.field-0
    c.in_ok-wanted.ensures refl c.in_ok-reply.ensures.held c.in_ok-reply.ensures.ends.1 c.in_ok-reply.ensures.tells
    (subst T c.deref.ensures.value c.in_ok-write_wanted.ensures.tells)

pub do_wanted-requires-clause-possible : goal.do_wanted-requires-clause-possible
do_wanted-requires-clause-possible g c = λ κs lives. wants-possible c.args.words.now c.in_ok-wanted.wanted c.in_ok-wanted.ensures

pub write_wanted-requires : goal.write_wanted-requires
write_wanted-requires g c = record {
  possible = wants-possible c.args.words.now c.in_ok-wanted.wanted c.in_ok-wanted.ensures;
  readable = c.in_ok-reply.ensures.readable;
}

pub returns-clause-generated : goal.returns-clause-generated
returns-clause-generated g c = λ number conflicts eprime param want.
    let wanted : Wanted = Wanted.Generate number conflicts eprime param in
    let same : c.in_ok-wanted.wanted ≡ wanted = want-once one_job c.args.words.now c.in_ok-wanted.wanted wanted c.in_ok-wanted.ensures want in
    subst (λ (w : Wanted). AnswersTexts w c.in_ok-reply.reply c.do_wanted.new.log) same c.in_ok-reply.ensures.generated
