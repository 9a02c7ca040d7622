use Rattle.std.proofs.Common.{rules, sym, subst, ap, refl, ◌∙◌, ◌≡◌, ◌<◌, ℕ, List, [], arith, length, get_or}
use Rattle.std.specs.Prelude.{map}
use Rattle.ep_flat.specs.FlatViews.{plain_con}
use Rattle.ep_ground.specs.GroundViews.{plain_ground}
use Rattle.std.proofs.lemmas.List.{take_all}
use Rattle.ep_ground.specs.declared.cells.Cell.{Cell}
use Rattle.ep_numbers.specs.Spans.{interval_of}
use Rattle.ep_flatten.proofs.Adding.{as_built}
use Rattle.ep_flatten.proofs.Standing.{Counting, begins, cells_count, cells_more, counting_more, counting_none}
use Rattle.ep_flatten.proofs.flattening.begun.Goals as goal

pub loop-cell-init : goal.loop-cell-init
loop-cell-init c = record {
  vars = c.new-vars.ensures.items;
  cells = subst (λ (at : List ℕ). Counting at 0) (sym c.new-cells.ensures.items) counting_none;
}

pub loop-cell-preserved : goal.loop-cell-preserved
loop-cell-preserved c =
    let cells = c.args.g.now.cells.items in
    let k = c.loop-cell.cell-index in
    let one = c.cell-item.result in
    let l : k < length cells = omega (arith, c.loop-cell-test.true, ap length c.deref-cell-items.ensures.value) in
    let is : one ≡ get_or cells k one = c.cell-item.is ∙ ap (λ (cs : List Cell). get_or cs k one) c.deref-cell-items.ensures.value in
    let counted : length c.loop-cell.vars.items ≡ k = cells_count cells c.loop-cell.vars.items k (omega (arith, l)) c.loop-cell.invariant.vars in
    let long : c.len.result ≡ length c.loop-cell.vars.items = search rules in
    record {
      vars = cells_more cells c.loop-cell.vars.items c.push-in-loop-cell.new.self.items k one c.in_ok-copy.field-0 l is c.loop-cell.invariant.vars c.in_ok-copy.ensures c.in_ok-push-2.ensures.items;
      cells = counting_more c.loop-cell.cells.items c.push.new.self.items k c.len.result c.loop-cell.invariant.cells (long ∙ counted) c.in_ok-push.ensures.items;
    }

pub returns : goal.returns
returns c = λ marks.
    let g = plain_ground c.args.g.now in
    let vars = c.loop-cell.vars.items in
    let at = c.loop-cell.cells.items in
    let end : c.loop-cell.cell-index ≡ length g.cells = omega (arith, c.loop-cell-test.false, c.loop-cell.auto.cell-index-end, ap length c.deref-cell-items.ensures.value) in
    let domains : vars ≡ map (λ one. one.values) g.cells =
    c.loop-cell.invariant.vars ∙ ap (λ (cs : List Cell). map (λ one. one.values) cs) (take_all c.loop-cell.cell-index g.cells (omega (arith, end))) in
    let counting : Counting at (length g.cells) = subst (λ (n : ℕ). Counting at n) end c.loop-cell.invariant.cells in
    as_built g marks 0 vars vars (map plain_con c.new.result.items) [] c.new-2.result.items [] (map interval_of c.new-3.result.items) [] at at
    refl (ap (map plain_con) c.new.ensures.items) c.new-2.ensures.items (ap (map interval_of) c.new-3.ensures.items) refl
    (begins g marks vars at domains counting c.requires)
