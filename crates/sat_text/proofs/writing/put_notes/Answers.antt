use Rattle.std.proofs.Common.{arith, subst}
use Rattle.std.proofs.lemmas.Grind.{common_steps}
use Rattle.std.specs.Prelude.{All}
use Rattle.std.proofs.lemmas.List.{take_all}
use Rattle.std.proofs.lemmas.List.Elements.{All-more, All-map}
use Rattle.cnf_core.specs.Literal.{IsVariable}
use Rattle.cnf_core.specs.Events.{plain_note}
use Rattle.cnf_core.specs.declared.log.CellNote.{CellNote}
use Rattle.sat_text.proofs.writing.put_notes.Goals as goal

pub loop-note-preserved : goal.loop-note-preserved
loop-note-preserved c = record {
  text = grind (arith, common_steps);
  variables = All-more (λ (note : CellNote). IsVariable note.lit.var) c.args.notes.now c.loop-note.note-index c.note-item.result c.loop-note-test.true c.loop-note.invariant.variables
      (subst (λ (note : CellNote). IsVariable note.lit.var) c.note-item.is c.in_ok-put_note.ensures.variable);
}

pub returns-clause-variables : goal.returns-clause-variables
returns-clause-variables c =
    All-map (λ note. IsVariable note.lit.var) plain_note c.args.notes.now
    (subst (All (λ (note : CellNote). IsVariable note.lit.var)) (take_all c.loop-note.note-index c.args.notes.now c.loop-note-test.false) c.loop-note.invariant.variables)
