use Rattle.std.proofs.Common.{◌≡◌, get_or, of_z, pos, rules, subst, to_z, w64}
use Rattle.std.proofs.lemmas.Int.{to_z-of_z}
use Rattle.std.specs.Prelude.{Contains}
use Rattle.ep_ground.specs.declared.cells.Cell.{Cell}
use Rattle.ep_explain.proofs.Nearby.{zip_more}
use Rattle.ep_explain.proofs.around.are_cell_values.Goals as goal

pub loop-place-preserved : goal.loop-place-preserved
loop-place-preserved c =
    let n = get_or c.args.numbers.now c.loop-place.place (pos 0) in
    let fits : to_z w64 (of_z w64 n) ≡ n = to_z-of_z w64 n (search rules) in
    zip_more (λ (one : Cell) value. Contains one.values value) c.args.cells.now c.args.numbers.now c.loop-place.place c.index-cells-place.result (pos 0) c.loop-place-test.true
    c.if-cells-numbers.false c.loop-place.invariant
    (subst (λ v. Contains (get_or c.args.cells.now c.loop-place.place c.index-cells-place.result).values v) fits (c.has.ensures.0 c.if-not-has.false))
