use Rattle.join_cubes.proofs.Proving.{first_proved, same_name}
use Rattle.join_cubes.proofs.answer.joined_text.Goals as goal

pub returns : goal.returns
returns g c =
    let told = g.F.Files.held c.args.files.now in
    let clauses = c.in_ok-formula.formula.clauses in
    first_proved (λ t. t.items) told c.args.words.now c.in-Some.name.now c.in-Some.proofs.now clauses c.proof_text.result c.in-Some.ensures.cases.0
    (same_name told clauses c.text.result.now c.in-Some.name.now c.text.ensures.text c.in_ok-formula.ensures) c.proof_text.ensures
