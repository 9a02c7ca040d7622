use Rattle.std.proofs.Common.{◌<◌, length, ap, sym, ◌∙◌, arith}
use Rattle.sat_search.specs.Analysis.{is_marked}
use Rattle.sat_search.proofs.Missed.{marked_more, unmarked_more}
use Rattle.sat_search.proofs.learning.keep_marked.Goals as goal
use Rattle.sat_search.proofs.learning.keep_marked.Goals.{then-is_marked+in_ok-push, else-is_marked}

pub loop-place-preserved : goal.loop-place-preserved
loop-place-preserved c =
    let trail = c.trail-trail.result.now in
    let marks = c.args.marks.now in
    let p = c.loop-place.place in
    let l = c.index-trail-place.result in
    let within : p < length trail = omega (arith, c.loop-place-test.true, c.requires, ap length c.trail-trail.ensures.value) in
    elim c.if-is_marked.branch [
      | then-is_marked+in_ok-push w ↦
          rw (w.lits-is, w.in_ok-push.ensures.items, w.lit.ensures, w.negated.ensures)
          (marked_more trail marks c.args.lits.now.items c.loop-place.lits.items p l within c.index-trail-place.is c.loop-place.invariant (ap (is_marked marks) (sym c.var.ensures.value) ∙ sym c.is_marked.ensures ∙ w.if-is_marked.true))
      | else-is_marked w ↦
          rw w.lits-is
          (unmarked_more trail marks c.args.lits.now.items c.loop-place.lits.items p l within c.index-trail-place.is c.loop-place.invariant (ap (is_marked marks) (sym c.var.ensures.value) ∙ sym c.is_marked.ensures ∙ w.if-is_marked.false))
    ]
