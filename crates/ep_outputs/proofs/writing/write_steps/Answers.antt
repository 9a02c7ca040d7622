use Rattle.std.proofs.lemmas.Result.{err_from_is_err_and}
use Rattle.std.proofs.Common.{◌≡◌, ℕ, List, Some, subst}
use Rattle.ep_base.specs.Outside.{Rose}
use Rattle.ep_outputs.specs.Outputs.{steps, named}
use Rattle.ep_outputs.specs.Writes.{TellsWrite}
use Rattle.ep_outputs.proofs.Telling.{none-made, none-told, one-told}
use Rattle.ep_outputs.proofs.writing.write_steps.Goals as goal

pub returns-in_default-clause-tells : goal.returns-in_default-clause-tells
returns-in_default-clause-tells g c = λ answer.
    none-told c.args.log.now answer steps c.args.output (g.F.Files.held c.args.files.now) cc

pub returns-in_err-text-clause-tells : goal.returns-in_err-text-clause-tells
returns-in_err-text-clause-tells g c = λ answer.
    let p = err_from_is_err_and c.from_residual.result c.from_residual.ensures.1 in
    let told = g.F.Files.held c.args.files.now in
    let rose = Rose (g.F.Files.faults c.args.files.now) (g.F.Files.faults c.args.files.now) in
    rw (p.1, p.2) (none-made (Unit {0}) c.args.log.now answer (named steps c.args.output) told rose)

pub returns-clause-tells : goal.returns-clause-tells
returns-clause-tells g c = λ answer.
    let told = g.F.Files.held c.args.files.now in
    let after = g.F.Files.held c.write_text.new.files in
    let rose = Rose (g.F.Files.faults c.args.files.now) (g.F.Files.faults c.write_text.new.files) in
    let T : List ℕ → Type 0 = λ text. TellsWrite c.in-Some.name text told after rose c.write_text.result in
    let has : c.args.output ≡ Some c.in-Some.name = cc in
    one-told c.args.log.now answer steps c.args.output c.in-Some.name c.in_ok-text.text.items told after rose c.write_text.result has
    (record { is_text = c.in_ok-text.ensures.text; spells = c.in_ok-text.ensures.spells }) (subst T c.deref.ensures.value c.write_text.ensures.tells)
