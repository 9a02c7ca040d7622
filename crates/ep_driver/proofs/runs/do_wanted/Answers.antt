use Rattle.std.proofs.lemmas.Result.{err_from_is_err_and}
use Rattle.std.proofs.Common.{[], ◌∷◌, ◌++◌, All, Err, IfOk, option_to_list, sym, subst}
use Rattle.cnf_core.specs.Events.{LogState}
use Rattle.ep_base.proofs.PutSteps.{rose_later}
use Rattle.ep_base.specs.Outside.{Rose}
use Rattle.ep_print.specs.declared.refusals.TextFile.{TextFile}
use Rattle.ep_tree.specs.Views.{model_tree}
use Rattle.ep_driver.specs.Commands.{files_of}
use Rattle.ep_files.specs.Readings.{IsFormulaReadAs, IsFileReadAs, IsReadBy, IsTextReadAs}
use Rattle.ep_driver.specs.Shown.{ComesTo, comes_to_check, comes_to_generate, comes_to_search, comes_to_verify}
use Rattle.ep_driver.specs.Searches.{CanBeWanted, NotesMayBeWritten}
use Rattle.sat_text.specs.Writing.{IsReadableNote}
use Rattle.ep_solve.specs.Right.{empty_log}
use Rattle.ep_driver.specs.Steps.{AnswersTexts, EndsAs, TellsTask}
use Rattle.ep_files.specs.Reads.{formula_clauses}
use Rattle.ep_driver.specs.declared.wanted.Wanted.{Wanted}
use Rattle.ep_driver.proofs.Allowed.{few-wanted}
use Rattle.ep_driver.proofs.Chains.{after, stable-file, unread}
use Rattle.ep_driver.proofs.Noted.{none-readable, with-premise}
use Rattle.ep_driver.proofs.Running.{check-ends, stopped-as, verify-ends}
use Rattle.ep_driver.proofs.ShownTexts.{no-texts, over-shown, shown-answers}
use Rattle.ep_driver.proofs.runs.do_wanted.Goals as goal

pub returns-in_err-model-in-Search-clause-tells : goal.returns-in_err-model-in-Search-clause-tells
returns-in_err-model-in-Search-clause-tells g c =
    let p = err_from_is_err_and c.from_residual.result c.from_residual.ensures.1 in
    let told = g.F.Files.held c.args.files.now in
    let rose = Rose (g.F.Files.faults c.args.files.now) (g.F.Files.faults c.read_model.new.files) in
    let stop = c.in_err-model-in-Search.field-0.0 in
    let W : Wanted → Type 0 = λ w. TellsTask (files_of w) (ComesTo w) told rose c.args.log.now (Err stop) in
    rw (p.1, p.2)
    (subst W (sym c.in-Search.is)
    (unread model_tree (IsTextReadAs TextFile.Model) c.in-Search.model (option_to_list c.in-Search.params) (λ m. comes_to_search c.in-Search.mode c.in-Search.request c.in-Search.params m) told rose c.args.log.now stop c.requires.empty c.in_err-model-in-Search.ensures.tells))

pub returns-in_err-model-in-Verify-clause-tells : goal.returns-in_err-model-in-Verify-clause-tells
returns-in_err-model-in-Verify-clause-tells g c =
    let p = err_from_is_err_and c.from_residual-in_err-model-in-Verify.result c.from_residual-in_err-model-in-Verify.ensures.1 in
    let told = g.F.Files.held c.args.files.now in
    let rose = Rose (g.F.Files.faults c.args.files.now) (g.F.Files.faults c.read_model-in-Verify.new.files) in
    let stop = c.in_err-model-in-Verify.field-0.0 in
    let W : Wanted → Type 0 = λ w. TellsTask (files_of w) (ComesTo w) told rose c.args.log.now (Err stop) in
    rw (p.1, p.2)
    (subst W (sym c.in-Verify.is)
    (unread model_tree (IsTextReadAs TextFile.Model) c.in-Verify.model (option_to_list c.in-Verify.params ++ c.in-Verify.solution ∷ []) (λ m. comes_to_verify c.in-Verify.mode c.in-Verify.params c.in-Verify.solution m) told rose c.args.log.now stop c.requires.empty c.in_err-model-in-Verify.ensures.tells))

pub returns-in_ok-model-in-Search-clause-tells : goal.returns-in_ok-model-in-Search-clause-tells
returns-in_ok-model-in-Search-clause-tells g c =
    let told = g.F.Files.held c.args.files.now in
    let rose = Rose (g.F.Files.faults c.args.files.now) (g.F.Files.faults c.search_model.new.files) in
    let now = g.F.Files.faults c.read_model.new.files in
    let W : Wanted → Type 0 = λ w. TellsTask (files_of w) (ComesTo w) told rose c.search_model.new.log c.search_model.result in
    subst W (sym c.in-Search.is)
    (after (c.in-Search.model ∷ []) (option_to_list c.in-Search.params) (λ held. IsFileReadAs held TextFile.Model c.in-Search.model) (λ m. comes_to_search c.in-Search.mode c.in-Search.request c.in-Search.params m)
    (stable-file (IsTextReadAs TextFile.Model) c.in-Search.model) (model_tree c.in_ok-model-in-Search.model) told (g.F.Files.held c.read_model.new.files) rose
    (Rose now (g.F.Files.faults c.search_model.new.files)) c.search_model.new.log c.search_model.result c.in_ok-model-in-Search.ensures.held
    (rose_later (g.F.Files.faults c.args.files.now) now (g.F.Files.faults c.search_model.new.files) c.in_ok-model-in-Search.ensures.faults)
    c.in_ok-model-in-Search.ensures.tells c.search_model.ensures.tells)

pub returns-in_ok-model-in-Verify-clause-tells : goal.returns-in_ok-model-in-Verify-clause-tells
returns-in_ok-model-in-Verify-clause-tells g c =
    let told = g.F.Files.held c.args.files.now in
    let rose = Rose (g.F.Files.faults c.args.files.now) (g.F.Files.faults c.verify_model.new.files) in
    let now = g.F.Files.faults c.read_model-in-Verify.new.files in
    let W : Wanted → Type 0 = λ w. TellsTask (files_of w) (ComesTo w) told rose c.args.log.now c.verify_model.result in
    let L : LogState → Type 0 = λ log. TellsTask (c.in-Verify.model ∷ option_to_list c.in-Verify.params ++ c.in-Verify.solution ∷ []) (ComesTo (Wanted.Verify c.in-Verify.model c.in-Verify.params c.in-Verify.mode c.in-Verify.solution)) told rose log c.verify_model.result in
    subst W (sym c.in-Verify.is)
    (subst L (sym c.requires.empty)
    (after (c.in-Verify.model ∷ []) (option_to_list c.in-Verify.params ++ c.in-Verify.solution ∷ []) (λ held. IsFileReadAs held TextFile.Model c.in-Verify.model) (λ m. comes_to_verify c.in-Verify.mode c.in-Verify.params c.in-Verify.solution m)
    (stable-file (IsTextReadAs TextFile.Model) c.in-Verify.model) (model_tree c.in_ok-model-in-Verify.model) told (g.F.Files.held c.read_model-in-Verify.new.files) rose
    (Rose now (g.F.Files.faults c.verify_model.new.files)) empty_log c.verify_model.result c.in_ok-model-in-Verify.ensures.held
    (rose_later (g.F.Files.faults c.args.files.now) now (g.F.Files.faults c.verify_model.new.files) c.in_ok-model-in-Verify.ensures.faults)
    c.in_ok-model-in-Verify.ensures.tells c.verify_model.ensures.tells))

pub returns-in_err-model-in-Search-clause-ends : goal.returns-in_err-model-in-Search-clause-ends
returns-in_err-model-in-Search-clause-ends g c =
    let p = err_from_is_err_and c.from_residual.result c.from_residual.ensures.1 in
    rw (p.1, p.2) (stopped-as c.args.wanted.now c.args.log.now c.in_err-model-in-Search.field-0.0 c.requires.empty)

pub returns-in_err-model-in-Verify-clause-ends : goal.returns-in_err-model-in-Verify-clause-ends
returns-in_err-model-in-Verify-clause-ends g c =
    let p = err_from_is_err_and c.from_residual-in_err-model-in-Verify.result c.from_residual-in_err-model-in-Verify.ensures.1 in
    rw (p.1, p.2) (stopped-as c.args.wanted.now c.args.log.now c.in_err-model-in-Verify.field-0.0 c.requires.empty)

pub returns-in_ok-model-in-Search-clause-ends : goal.returns-in_ok-model-in-Search-clause-ends
returns-in_ok-model-in-Search-clause-ends g c =
    let W : Wanted → Type 0 = λ w. EndsAs w c.search_model.new.log c.search_model.result in
    subst W (sym c.in-Search.is) (tt, c.search_model.ensures.ends)

pub returns-in_ok-model-in-Verify-clause-ends : goal.returns-in_ok-model-in-Verify-clause-ends
returns-in_ok-model-in-Verify-clause-ends g c =
    let W : Wanted → Type 0 = λ w. EndsAs w c.args.log.now c.verify_model.result in
    subst W (sym c.in-Verify.is)
    (verify-ends c.in-Verify.model c.in-Verify.params c.in-Verify.mode c.in-Verify.solution c.args.log.now c.verify_model.result c.requires.empty c.verify_model.ensures.status)

pub returns-in_err-formula-in-Check-clause-tells : goal.returns-in_err-formula-in-Check-clause-tells
returns-in_err-formula-in-Check-clause-tells g c =
    let p = err_from_is_err_and c.from_residual-in_err-formula-in-Check.result c.from_residual-in_err-formula-in-Check.ensures.1 in
    let told = g.F.Files.held c.args.files.now in
    let rose = Rose (g.F.Files.faults c.args.files.now) (g.F.Files.faults c.read_formula.new.files) in
    let stop = c.in_err-formula-in-Check.field-0.0 in
    let W : Wanted → Type 0 = λ w. TellsTask (files_of w) (ComesTo w) told rose c.args.log.now (Err stop) in
    rw (p.1, p.2)
    (subst W (sym c.in-Check.is)
    (unread formula_clauses IsFormulaReadAs c.in-Check.formula (c.in-Check.proof ∷ []) (λ clauses. comes_to_check c.in-Check.proof clauses) told rose c.args.log.now stop c.requires.empty c.in_err-formula-in-Check.ensures.tells))

pub returns-in_ok-formula-in-Check-clause-tells : goal.returns-in_ok-formula-in-Check-clause-tells
returns-in_ok-formula-in-Check-clause-tells g c =
    let told = g.F.Files.held c.args.files.now in
    let rose = Rose (g.F.Files.faults c.args.files.now) (g.F.Files.faults c.check_proof.new.files) in
    let now = g.F.Files.faults c.read_formula.new.files in
    let W : Wanted → Type 0 = λ w. TellsTask (files_of w) (ComesTo w) told rose c.args.log.now c.check_proof.result in
    let L : LogState → Type 0 = λ log. TellsTask (c.in-Check.formula ∷ c.in-Check.proof ∷ []) (ComesTo (Wanted.Check c.in-Check.formula c.in-Check.proof c.in-Check.workers)) told rose log c.check_proof.result in
    subst W (sym c.in-Check.is)
    (subst L (sym c.requires.empty)
    (after (c.in-Check.formula ∷ []) (c.in-Check.proof ∷ []) (λ held. IsReadBy IsFormulaReadAs held c.in-Check.formula) (λ clauses. comes_to_check c.in-Check.proof clauses)
    (stable-file IsFormulaReadAs c.in-Check.formula) (formula_clauses c.in_ok-formula-in-Check.formula) told (g.F.Files.held c.read_formula.new.files) rose
    (Rose now (g.F.Files.faults c.check_proof.new.files)) empty_log c.check_proof.result c.in_ok-formula-in-Check.ensures.held
    (rose_later (g.F.Files.faults c.args.files.now) now (g.F.Files.faults c.check_proof.new.files) c.in_ok-formula-in-Check.ensures.faults)
    c.in_ok-formula-in-Check.ensures.tells c.check_proof.ensures.tells))

pub returns-in_err-formula-in-Check-clause-ends : goal.returns-in_err-formula-in-Check-clause-ends
returns-in_err-formula-in-Check-clause-ends g c =
    let p = err_from_is_err_and c.from_residual-in_err-formula-in-Check.result c.from_residual-in_err-formula-in-Check.ensures.1 in
    rw (p.1, p.2) (stopped-as c.args.wanted.now c.args.log.now c.in_err-formula-in-Check.field-0.0 c.requires.empty)

pub returns-in_ok-formula-in-Check-clause-ends : goal.returns-in_ok-formula-in-Check-clause-ends
returns-in_ok-formula-in-Check-clause-ends g c =
    let W : Wanted → Type 0 = λ w. EndsAs w c.args.log.now c.check_proof.result in
    subst W (sym c.in-Check.is) (check-ends c.in-Check.formula c.in-Check.proof c.in-Check.workers c.args.log.now c.check_proof.result c.requires.empty c.check_proof.ensures.status)

pub returns-in-Opb-clause-tells : goal.returns-in-Opb-clause-tells
returns-in-Opb-clause-tells g c =
    let told = g.F.Files.held c.args.files.now in
    let rose = Rose (g.F.Files.faults c.args.files.now) (g.F.Files.faults c.opb_file_reply.new.files) in
    let W : Wanted → Type 0 = λ w. TellsTask (files_of w) (ComesTo w) told rose c.opb_file_reply.new.log c.opb_file_reply.result in
    subst W (sym c.in-Opb.is) c.opb_file_reply.ensures.tells

pub returns-in-Opb-clause-ends : goal.returns-in-Opb-clause-ends
returns-in-Opb-clause-ends g c =
    let W : Wanted → Type 0 = λ w. EndsAs w c.opb_file_reply.new.log c.opb_file_reply.result in
    subst W (sym c.in-Opb.is) (tt, c.opb_file_reply.ensures.ends)

pub returns-in-Opb-clause-generated : goal.returns-in-Opb-clause-generated
returns-in-Opb-clause-generated g c =
    let W : Wanted → Type 0 = λ w. IfOk c.opb_file_reply.result (λ reply. AnswersTexts w reply c.opb_file_reply.new.log) in
    subst W (sym c.in-Opb.is) (no-texts c.opb_file_reply.result)

pub generate-requires-clause-within : goal.generate-requires-clause-within
generate-requires-clause-within g c = λ κs lives. subst CanBeWanted c.in-Generate.is c.requires.possible

pub returns-in-Generate-clause-tells : goal.returns-in-Generate-clause-tells
returns-in-Generate-clause-tells g c =
    let told = g.F.Files.held c.args.files.now in
    let rose = Rose (g.F.Files.faults c.args.files.now) (g.F.Files.faults c.args.files.now) in
    let W : Wanted → Type 0 = λ w. TellsTask (files_of w) (ComesTo w) told rose c.generate.new.log c.generate.result in
    subst W (sym c.in-Generate.is)
    (over-shown (comes_to_generate c.in-Generate.number c.in-Generate.conflicts) told rose c.generate.new.log c.generate.result c.generate.ensures.tells)

pub returns-in-Generate-clause-ends : goal.returns-in-Generate-clause-ends
returns-in-Generate-clause-ends g c =
    let W : Wanted → Type 0 = λ w. EndsAs w c.generate.new.log c.generate.result in
    subst W (sym c.in-Generate.is) (tt, c.generate.ensures.ends)

pub returns-in_ok-model-in-Search-clause-generated : goal.returns-in_ok-model-in-Search-clause-generated
returns-in_ok-model-in-Search-clause-generated g c =
    let W : Wanted → Type 0 = λ w. IfOk c.search_model.result (λ reply. AnswersTexts w reply c.search_model.new.log) in
    subst W (sym c.in-Search.is) (no-texts c.search_model.result)

pub returns-in_ok-model-in-Verify-clause-generated : goal.returns-in_ok-model-in-Verify-clause-generated
returns-in_ok-model-in-Verify-clause-generated g c =
    let W : Wanted → Type 0 = λ w. IfOk c.verify_model.result (λ reply. AnswersTexts w reply c.args.log.now) in
    subst W (sym c.in-Verify.is) (no-texts c.verify_model.result)

pub returns-in_ok-formula-in-Check-clause-generated : goal.returns-in_ok-formula-in-Check-clause-generated
returns-in_ok-formula-in-Check-clause-generated g c =
    let W : Wanted → Type 0 = λ w. IfOk c.check_proof.result (λ reply. AnswersTexts w reply c.args.log.now) in
    subst W (sym c.in-Check.is) (no-texts c.check_proof.result)

pub returns-in-Generate-clause-generated : goal.returns-in-Generate-clause-generated
returns-in-Generate-clause-generated g c =
    let W : Wanted → Type 0 = λ w. IfOk c.generate.result (λ reply. AnswersTexts w reply c.generate.new.log) in
    subst W (sym c.in-Generate.is) (shown-answers c.in-Generate.number c.in-Generate.conflicts c.generate.new.log c.generate.result c.generate.ensures.tells)

pub returns-in_ok-model-in-Verify-clause-readable : goal.returns-in_ok-model-in-Verify-clause-readable
returns-in_ok-model-in-Verify-clause-readable g c = with-premise _ _ c.verify_model.result (none-readable c.verify_model.result c.args.log.now c.requires.empty)

pub returns-in_ok-formula-in-Check-clause-readable : goal.returns-in_ok-formula-in-Check-clause-readable
returns-in_ok-formula-in-Check-clause-readable g c = with-premise _ _ c.check_proof.result (none-readable c.check_proof.result c.args.log.now c.requires.empty)

pub returns-in_ok-model-in-Search-clause-readable : goal.returns-in_ok-model-in-Search-clause-readable
returns-in_ok-model-in-Search-clause-readable g c =
    let W : Wanted → Type 0 = λ w. IfOk c.search_model.result (λ reply. NotesMayBeWritten w → All IsReadableNote c.search_model.new.log.notes) in
    subst W (sym c.in-Search.is) c.search_model.ensures.readable

pub returns-in-Opb-clause-readable : goal.returns-in-Opb-clause-readable
returns-in-Opb-clause-readable g c = with-premise _ _ c.opb_file_reply.result c.opb_file_reply.ensures.readable

pub returns-in-Generate-clause-readable : goal.returns-in-Generate-clause-readable
returns-in-Generate-clause-readable g c = with-premise _ _ c.generate.result c.generate.ensures.readable

pub search_model-requires-clause-few : goal.search_model-requires-clause-few
search_model-requires-clause-few g c = λ κs lives. few-wanted c.args.wanted.now c.in-Search.request c.in-Search.is c.requires.possible
