use Rattle.std.proofs.Common.{◌≤◌, ℕ, arith, subst, sym}
use Rattle.cnf_core.specs.declared.lit.TheConstants.{MOST_VARIABLE}
use Rattle.ep_outputs.proofs.Givens.{all-noted, next-noted, none-noted, one-noted}
use Rattle.ep_outputs.proofs.texts.greatest_noted.Goals as goal

pub loop-note-init : goal.loop-note-init
loop-note-init c = (none-noted c.args.notes.now, omega arith, (λ n all. omega arith))

pub loop-note-preserved : goal.loop-note-preserved
loop-note-preserved c =
    let note = c.note-item.result in
    let here : note.lit.var ≤ c.greater-most.result = subst (λ (v : ℕ). v ≤ c.greater-most.result) c.var.ensures.value c.greater-most.ensures.second in (
      next-noted c.loop-note.most c.greater-most.result c.loop-note.note-index c.args.notes.now note
          c.loop-note.invariant.0 c.greater-most.ensures.first c.loop-note-test.true c.note-item.is here,
      c.greater-most.ensures.least MOST_VARIABLE c.loop-note.invariant.1 c.var.ensures.in_range.1,
      (λ n all. c.greater-most.ensures.least n (c.loop-note.invariant.2 n all)
          (subst (λ (v : ℕ). v ≤ n) (sym c.var.ensures.value) (one-noted n c.loop-note.note-index c.args.notes.now note c.loop-note-test.true c.note-item.is all))),
    )

pub returns-clause-none_above : goal.returns-clause-none_above
returns-clause-none_above c =
    all-noted c.loop-note.most c.loop-note.note-index c.args.notes.now c.loop-note.invariant.0 c.loop-note-test.false
