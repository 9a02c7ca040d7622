use Rattle.std.proofs.lemmas.Result.{err_from_is_err_and}
use Rattle.std.proofs.Common.{◌∙◌, ℕ, List, Ok, Err, subst}
use Rattle.ep_base.proofs.PutSteps.{rose_later}
use Rattle.ep_base.specs.Outside.{Rose}
use Rattle.ep_gen.specs.Texts.{generated_model, generated_params}
use Rattle.ep_outputs.specs.Outputs.{a_text, for_texts, named}
use Rattle.ep_outputs.specs.Writes.{TellsWritten}
use Rattle.ep_outputs.proofs.Telling.{none-made, told-before, told-behind}
use Rattle.ep_outputs.proofs.writing.write_texts.Goals as goal

pub returns-in_err-texts-clause-tells : goal.returns-in_err-texts-clause-tells
returns-in_err-texts-clause-tells g c =
    let p = err_from_is_err_and c.from_residual.result c.from_residual.ensures.1 in
    let told = g.F.Files.held c.args.files.now in
    let rose = Rose (g.F.Files.faults c.args.files.now) (g.F.Files.faults c.args.files.now) in
    λ log answer. rw (p.1, p.2) (none-made (Unit {0}) log answer (for_texts c.args.number c.args.eprime c.args.param) told rose)

pub returns-in_err-write_named-clause-tells : goal.returns-in_err-write_named-clause-tells
unfolding for_texts
returns-in_err-write_named-clause-tells g c =
    let p = err_from_is_err_and c.from_residual-in_err-write_named.result c.from_residual-in_err-write_named.ensures.1 in
    let stop = c.in_err-write_named.field-0.0 in
    let a = g.F.Files.held c.args.files.now in
    let b = g.F.Files.held c.write_named.new.files in
    let rose = Rose (g.F.Files.faults c.args.files.now) (g.F.Files.faults c.write_named.new.files) in
    λ log answer.
    let T : List ℕ → Type 0 = λ t. TellsWritten {V = Unit {0}} log answer (named (a_text t) c.args.eprime) a b rose (Err stop) in
    rw (p.1, p.2)
    (told-before (Unit {0}) (Unit {0}) log answer (named (a_text generated_model) c.args.eprime) (named (a_text (generated_params c.args.number)) c.args.param) a b rose rose stop (λ up. up)
    (subst T (c.deref.ensures.value ∙ c.in_ok-texts.ensures.model) (c.in_err-write_named.ensures.tells log answer)))

pub returns-clause-tells : goal.returns-clause-tells
unfolding for_texts
returns-clause-tells g c =
    let first = g.F.Files.faults c.args.files.now in
    let next = g.F.Files.faults c.write_named.new.files in
    let last = g.F.Files.faults c.write_named-2.new.files in
    let a = g.F.Files.held c.args.files.now in
    let b = g.F.Files.held c.write_named.new.files in
    let d = g.F.Files.held c.write_named-2.new.files in
    λ log answer.
    let M : List ℕ → Type 0 = λ t. TellsWritten {V = Unit {0}} log answer (named (a_text t) c.args.eprime) a b (Rose first next) (Ok c.in_ok-write_named.field-0) in
    let P : List ℕ → Type 0 = λ t. TellsWritten log answer (named (a_text t) c.args.param) b d (Rose next last) c.write_named-2.result in
    told-behind log answer (named (a_text generated_model) c.args.eprime) (named (a_text (generated_params c.args.number)) c.args.param) a b d (Rose first last) (Rose next last) c.write_named-2.result
    (rose_later first next last c.in_ok-write_named.ensures.faults)
    (subst M (c.deref.ensures.value ∙ c.in_ok-texts.ensures.model) (c.in_ok-write_named.ensures.tells log answer))
    (subst P (c.deref-2.ensures.value ∙ c.in_ok-texts.ensures.params) (c.write_named-2.ensures.tells log answer))
