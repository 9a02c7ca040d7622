use Rattle.std.proofs.Common.{refl, sym, subst}
use Rattle.ep_base.specs.Outside.{Rose}
use Rattle.ep_outputs.specs.Outputs.{AreWritten}
use Rattle.ep_driver.specs.Outputs.{written_for}
use Rattle.ep_driver.specs.Searches.{CanBeWanted, NotesMayBeWritten}
use Rattle.ep_outputs.specs.Writes.{TellsWritten}
use Rattle.ep_driver.specs.declared.wanted.Wanted.{Wanted}
use Rattle.ep_driver.proofs.writing.write_wanted.Goals as goal

pub returns-in-Search-clause-tells : goal.returns-in-Search-clause-tells
unfolding written_for
returns-in-Search-clause-tells g c =
    let told = g.F.Files.held c.args.files.now in
    let after = g.F.Files.held c.write_searched.new.files in
    let rose = Rose (g.F.Files.faults c.args.files.now) (g.F.Files.faults c.write_searched.new.files) in
    let W : Wanted → Type 0 = λ w. TellsWritten c.args.log.now c.args.answer.now (written_for w) told after rose c.write_searched.result in
    subst W (sym c.in-Search.is) c.write_searched.ensures.tells

pub write_searched-requires : goal.write_searched-requires
write_searched-requires g c = record {
  possible = subst CanBeWanted c.in-Search.is c.requires.possible;
  readable = λ own. c.requires.readable (subst NotesMayBeWritten (sym c.in-Search.is) own);
}

pub write_texts-requires : goal.write_texts-requires
write_texts-requires g c = record { within = subst CanBeWanted c.in-Generate.is c.requires.possible }

pub returns-clause-tells : goal.returns-clause-tells
unfolding written_for
returns-clause-tells g c =
    let told = g.F.Files.held c.args.files.now in
    let after = g.F.Files.held c.write_texts.new.files in
    let rose = Rose (g.F.Files.faults c.args.files.now) (g.F.Files.faults c.write_texts.new.files) in
    let W : Wanted → Type 0 = λ w. TellsWritten c.args.log.now c.args.answer.now (written_for w) told after rose c.write_texts.result in
    subst W (sym c.in-Generate.is) (c.write_texts.ensures.tells c.args.log.now c.args.answer.now)

pub returns-in-Verify-clause-tells : goal.returns-in-Verify-clause-tells
unfolding written_for
returns-in-Verify-clause-tells g c =
    let told = g.F.Files.held c.args.files.now in
    let W : Wanted → Type 0 = λ w. AreWritten c.args.log.now c.args.answer.now (written_for w) told told in
    subst W (sym c.in-Verify.is) refl

pub returns-in-Check-clause-tells : goal.returns-in-Check-clause-tells
unfolding written_for
returns-in-Check-clause-tells g c =
    let told = g.F.Files.held c.args.files.now in
    let W : Wanted → Type 0 = λ w. AreWritten c.args.log.now c.args.answer.now (written_for w) told told in
    subst W (sym c.in-Check.is) refl

pub returns-in-Opb-clause-tells : goal.returns-in-Opb-clause-tells
unfolding written_for
returns-in-Opb-clause-tells g c =
    let told = g.F.Files.held c.args.files.now in
    let W : Wanted → Type 0 = λ w. AreWritten c.args.log.now c.args.answer.now (written_for w) told told in
    subst W (sym c.in-Opb.is) refl
