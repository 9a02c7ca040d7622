use Rattle.std.proofs.Common.{◌≡◌, Some, refl}
use Rattle.ep_base.specs.Outside.{Rose}
use Rattle.ep_outputs.specs.Outputs.{IsTextOf, a_text}
use Rattle.ep_outputs.proofs.Telling.{none-told, one-told}
use Rattle.ep_outputs.proofs.writing.write_named.Goals as goal

pub returns-in_default-clause-tells : goal.returns-in_default-clause-tells
returns-in_default-clause-tells g c =
    λ log answer. none-told log answer (a_text c.args.text.now) c.args.output (g.F.Files.held c.args.files.now) cc

pub returns-clause-tells : goal.returns-clause-tells
returns-clause-tells g c = λ log answer.
    let told = g.F.Files.held c.args.files.now in
    let after = g.F.Files.held c.write_text.new.files in
    let rose = Rose (g.F.Files.faults c.args.files.now) (g.F.Files.faults c.write_text.new.files) in
    let itself : IsTextOf (a_text c.args.text.now) log answer c.args.text.now = refl in
    let has : c.args.output ≡ Some c.in-Some.name = cc in
    one-told log answer (a_text c.args.text.now) c.args.output c.in-Some.name c.args.text.now told after rose c.write_text.result has itself c.write_text.ensures.tells
