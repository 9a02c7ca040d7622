use Rattle.std.proofs.Common.{◌≡◌, ℕ, ◌+◌, ◌-◌, ◌<◌, ◌≤◌, List, true, [], take, length, get_or, subst, sym, arith, ◌∙◌, ap, Some}
use Rattle.cnf_core.specs.Literal.{Literal}
use Rattle.sat_state.specs.Trail.{HasReason, literals}
use Rattle.sat_search.specs.Analysis.{IsTraced, is_marked, count_marked, CountsMarks}
use Rattle.sat_search.proofs.Trails.{reason_read, decision_read, free_at}
use Rattle.sat_search.proofs.Tracing.{traced_skip, traced_resolve, decision_cut}
use Rattle.sat_search.proofs.Counting.{count_taken, count_below}
use Rattle.sat_search.proofs.learning.resolve_level.Goals as goal

pub returns-in-None-clause-cut : goal.returns-in-None-clause-cut
returns-in-None-clause-cut c =
    let clauses = c.args.state.now.clauses in
    let lits = c.trail-trail.result.now in
    let trail = literals c.args.state.now.trail in
    let marks = c.loop-place.analysis.marks in
    let p = c.loop-place.place - 1 in
    let l = c.index-trail-place.result in
    let next : c.loop-place.place ≡ p + 1 = omega arith in
    let is : l ≡ get_or trail p l = c.index-trail-place.is ∙ ap (λ (ls : List Literal). get_or ls p l) c.trail-trail.ensures.value in
    let traced : IsTraced clauses trail marks [] c.loop-place.hints.items (p + 1) =
    subst (λ (ls : List Literal). IsTraced clauses ls marks [] c.loop-place.hints.items (p + 1)) c.trail-trail.ensures.value
    (subst (IsTraced clauses lits marks [] c.loop-place.hints.items) next c.loop-place.invariant.traced) in
    decision_cut clauses trail marks c.loop-place.hints.items p l is
    (decision_read clauses c.args.state.now.trail lits p c.var-then-is_marked.result l
    c.trail-trail.ensures.grounded c.trail-trail.ensures.value (omega (arith, c.loop-place.invariant.within)) c.index-trail-place.is c.var-then-is_marked.ensures.value c.in-None.ensures)
    traced

pub cut_at-requires-clause-free : goal.cut_at-requires-clause-free
cut_at-requires-clause-free c = λ d. free_at c.args.state.now.clauses c.args.state.now.trail (c.loop-place.place - 1) d c.trail-trail.ensures.grounded (omega (arith, c.loop-place.invariant.within, ap length c.trail-trail.ensures.value))

pub resolve-requires-clause-there : goal.resolve-requires-clause-there
resolve-requires-clause-there c =
    (reason_read c.args.state.now.clauses c.args.state.now.trail c.trail-trail.result.now (c.loop-place.place - 1) c.var-then-is_marked.result c.index-trail-place.result (Some c.in-Some.number)
    c.trail-trail.ensures.grounded c.trail-trail.ensures.value (omega (arith, c.loop-place.invariant.within)) c.index-trail-place.is c.var-then-is_marked.ensures.value c.in-Some.ensures).0

pub loop-place-preserved-in-Continue-1 : goal.loop-place-preserved-in-Continue-1
loop-place-preserved-in-Continue-1 c =
    let clauses = c.args.state.now.clauses in
    let lits = c.trail-trail.result.now in
    let old = c.loop-place.analysis.marks in
    let new = c.resolve.new.analysis.marks in
    let p = c.loop-place.place - 1 in
    let l = c.index-trail-place.result in
    let within : p < length lits = omega (arith, c.loop-place.invariant.within) in
    let next : c.loop-place.place ≡ p + 1 = omega arith in
    let reason : HasReason clauses (take p lits) l (Some c.in-Some.number) =
    reason_read clauses c.args.state.now.trail lits p c.var-then-is_marked.result l (Some c.in-Some.number)
    c.trail-trail.ensures.grounded c.trail-trail.ensures.value within c.index-trail-place.is c.var-then-is_marked.ensures.value c.in-Some.ensures in
    let marked : is_marked old l.var ≡ true = ap (is_marked old) (sym c.var.ensures.value) ∙ sym c.is_marked.ensures ∙ c.if-is_marked.true in
    let taken : count_marked lits old p + 1 ≤ c.loop-place.analysis.met = count_taken lits old p c.loop-place.analysis.met l within c.index-trail-place.is marked
    (subst (λ (n : ℕ). count_marked lits old n ≤ c.loop-place.analysis.met) next c.loop-place.invariant.counted) in
    let counts : CountsMarks lits old new c.pass.new.self c.resolve.new.analysis.met =
    subst (λ (ls : List Literal). CountsMarks ls old new c.pass.new.self c.resolve.new.analysis.met) (sym c.trail-trail.ensures.value) c.in_ok-resolve-in-Some.ensures.counts in
    record {
      within = omega (arith, within);
      room = omega (arith, c.loop-place.invariant.room, c.in_ok-resolve-in-Some.ensures.room);
      traced = rw c.in_ok-resolve-in-Some.ensures.hints (traced_resolve clauses lits old new [] c.loop-place.hints.items p c.in-Some.number l
          within c.index-trail-place.is reason.0 reason.1 c.in_ok-resolve-in-Some.ensures.ordered c.in_ok-resolve-in-Some.ensures.marks
          (subst (IsTraced clauses lits old [] c.loop-place.hints.items) next c.loop-place.invariant.traced));
      counted = omega (arith, counts p (omega (arith, within)), taken, c.pass.ensures);
    }

pub loop-place-preserved : goal.loop-place-preserved
loop-place-preserved c =
    let clauses = c.args.state.now.clauses in
    let lits = c.trail-trail.result.now in
    let marks = c.loop-place.analysis.marks in
    let p = c.loop-place.place - 1 in
    let l = c.index-trail-place.result in
    let within : p < length lits = omega (arith, c.loop-place.invariant.within) in
    let next : c.loop-place.place ≡ p + 1 = omega arith in
    record {
      within = omega (arith, within);
      room = c.loop-place.invariant.room;
      traced = traced_skip clauses lits marks [] c.loop-place.hints.items p l within c.index-trail-place.is
          (ap (is_marked marks) (sym c.var.ensures.value) ∙ sym c.is_marked.ensures ∙ c.if-is_marked.false)
          (subst (IsTraced clauses lits marks [] c.loop-place.hints.items) next c.loop-place.invariant.traced);
      counted = count_below lits marks p c.loop-place.place c.loop-place.analysis.met (omega arith) c.loop-place.invariant.within c.loop-place.invariant.counted;
    }
