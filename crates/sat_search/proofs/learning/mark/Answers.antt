use Rattle.std.proofs.Common.{◌≡◌, ℕ, ◌+◌, ◌<◌, List, Bool, true, set, take, length, subst, sym, refl, arith, ◌∙◌, ap}
use Rattle.std.proofs.lemmas.List.{take_all, length-set}
use Rattle.cnf_core.specs.Literal.{Literal}
use Rattle.sat_search.specs.Analysis.{MarksClause}
use Rattle.sat_search.proofs.Marking.{marks_none, marks_more}
use Rattle.sat_search.proofs.learning.mark.Goals as goal

pub loop-lit-init : goal.loop-lit-init
loop-lit-init c = record {
  room = refl;
  marks = marks_none c.args.analysis.now.marks;
  counts = λ upto within. omega arith;
}

pub loop-lit-preserved : goal.loop-lit-preserved
loop-lit-preserved c =
    let l = c.lit-item.result in
    let lits = c.args.lits.now in
    let i = c.loop-lit.lit-index in
    let now = c.loop-lit.analysis.marks in
    let room : l.var < length now = omega (arith, c.requires i l c.loop-lit-test.true, ap (λ (x : Literal). x.var) c.lit-item.is, c.loop-lit.invariant.room) in
    let set_is : c.meet.new.analysis.marks ≡ set now l.var true = c.in_ok-meet.ensures.marks ∙ ap (λ (v : ℕ). set now v true) c.var.ensures.value in
    record {
      room = ap length set_is ∙ length-set now l.var true ∙ c.loop-lit.invariant.room;
      marks = subst (λ (m : List Bool). MarksClause c.args.analysis.now.marks m (take (i + 1) lits)) (sym set_is)
          (marks_more c.args.analysis.now.marks now lits i l c.loop-lit.invariant.marks c.loop-lit-test.true c.lit-item.is room);
      counts = λ upto inside. omega (arith, c.in_ok-meet.ensures.counts upto inside, c.loop-lit.invariant.counts upto inside);
    }

pub returns-clause-marks : goal.returns-clause-marks
returns-clause-marks c =
    let lits = c.args.lits.now in
    let all : take c.loop-lit.lit-index lits ≡ lits = take_all c.loop-lit.lit-index lits (omega arith) in
    subst (MarksClause c.args.analysis.now.marks c.loop-lit.analysis.marks) all c.loop-lit.invariant.marks
