use Rattle.std.proofs.Common.{◌<◌, ◌+◌, List, [], ◌∷◌, ◌++◌, ℕ, length, take, get_or, sym, subst, arith}
use Rattle.std.proofs.lemmas.List.{take_more}
use Rattle.ep_answer.proofs.Searching.{zip_push}
use Rattle.ep_ground.specs.declared.cells.Cell.{Cell}
use Rattle.opb_solve.proofs.posing.cells_of.Goals as goal
use Rattle.opb_solve.specs.Meant.{AreCellsOf, IsCellOf}

pub loop-k-preserved : goal.loop-k-preserved
loop-k-preserved c =
    let vars : List ℕ = c.args.vars.now in
    let k : ℕ = c.loop-k.k in
    let low : k < length vars = omega (arith, c.loop-k-test.true) in
    subst (λ (cs : List Cell). AreCellsOf (take (k + 1) vars) cs) (sym c.in_ok-push.ensures.items)
    (subst (λ (vs : List ℕ). AreCellsOf vs (c.loop-k.cells.items ++ c.in_ok-cell_of.field-0 ∷ [])) (sym (take_more vars k 0 low))
    (zip_push IsCellOf (take k vars) c.loop-k.cells.items (get_or vars k 0) c.in_ok-cell_of.field-0 c.loop-k.invariant c.in_ok-cell_of.ensures))
