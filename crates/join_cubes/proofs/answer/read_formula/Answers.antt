use Rattle.std.proofs.Common.{ℕ, List, IfOk, subst}
use Rattle.join_cubes.specs.Texts.{IsShortFormulaText}
use Rattle.join_cubes.proofs.Proving.{formula_read}
use Rattle.join_cubes.proofs.answer.read_formula.Goals as goal

pub returns : goal.returns
returns g c =
    let P : List ℕ → Type 0 = λ t. IfOk c.formula_in.result (λ f. IsShortFormulaText t f.clauses) in
    formula_read (λ f. f.clauses) (g.F.Files.held c.args.files.now) c.args.name.now c.in_ok-text.text.items c.formula_in.result c.in_ok-text.ensures
    (subst P c.deref.ensures.value c.formula_in.ensures)
