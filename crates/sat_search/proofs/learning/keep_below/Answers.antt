use Rattle.std.proofs.Common.{◌≡◌, ℕ, ◌+◌, ◌-◌, ◌<◌, ◌≤◌, List, true, take, length, refl, subst, sym, arith, ◌∙◌, ap, Some}
use Rattle.std.specs.Prelude.{Contains}
use Rattle.std.proofs.lemmas.Result.{on_ok_weaker}
use Rattle.cnf_core.specs.Literal.{Literal}
use Rattle.sat_state.specs.Trail.{HasReason, literals}
use Rattle.sat_search.specs.Analysis.{IsTraced, is_marked, count_marked, CountsMarks, KeepsMarked}
use Rattle.sat_search.proofs.Trails.{reason_read}
use Rattle.sat_search.proofs.Tracing.{keeps_push, keeps_same, in_front}
use Rattle.sat_search.proofs.Missed.{IsTracedBut, but_start, but_over, but_skip, but_keep, but_resolve, but_none, but_kept, keeps_as_marked}
use Rattle.sat_search.proofs.learning.keep_below.Goals as goal
use Rattle.sat_search.proofs.learning.keep_below.Goals.{then-loop-place-test+else-left-gt0, else-loop-place-test}

pub loop-place-init : goal.loop-place-init
loop-place-init c =
    let lits = c.trail-trail.result.now in
    let old = c.args.analysis.now in
    let back = sym c.trail-trail.ensures.value in
    record {
      within = omega arith;
      room = c.requires.room;
      traced = but_start c.args.state.now.clauses lits old.marks c.args.lits.now.items c.args.hints.now.items c.args.from old.met
          (subst (λ (ls : List Literal). IsTraced c.args.state.now.clauses ls old.marks c.args.lits.now.items c.args.hints.now.items c.args.from) back c.requires.traced)
          (subst (λ (ls : List Literal). count_marked ls old.marks c.args.from ≤ old.met) back c.requires.counted);
      keeps = keeps_same (take c.args.from lits) c.args.lits.now.items;
    }

pub resolve-requires-clause-there : goal.resolve-requires-clause-there
resolve-requires-clause-there c =
    (reason_read c.args.state.now.clauses c.args.state.now.trail c.trail-trail.result.now c.next_below-place.result c.index-trail-place.result.var c.index-trail-place.result (Some c.in-Some.number)
    c.trail-trail.ensures.grounded c.trail-trail.ensures.value (omega (arith, c.next_below-place.ensures, c.loop-place.invariant.within, c.requires.within, ap length c.trail-trail.ensures.value)) c.index-trail-place.is refl c.in-Some.ensures).0

pub loop-place-preserved-in-Continue-1 : goal.loop-place-preserved-in-Continue-1
loop-place-preserved-in-Continue-1 c =
    let clauses = c.args.state.now.clauses in
    let lits = c.trail-trail.result.now in
    let old = c.loop-place.analysis.marks in
    let new = c.resolve.new.analysis.marks in
    let pending = c.loop-place.analysis.met in
    let kept = c.loop-place.lits.items in
    let hints = c.loop-place.hints.items in
    let from = c.args.from in
    let p = c.next_below-place.result in
    let l = c.index-trail-place.result in
    let inside : from ≤ length lits = omega (arith, c.requires.within, ap length c.trail-trail.ensures.value) in
    let below : p < from = omega (arith, c.next_below-place.ensures, c.loop-place.invariant.within) in
    let whole : c.loop-place.place ≡ (p + 1) + (c.loop-place.place - (p + 1)) = omega (arith, c.next_below-place.ensures) in
    let reason : HasReason clauses (take p lits) l (Some c.in-Some.number) =
    reason_read clauses c.args.state.now.trail lits p l.var l (Some c.in-Some.number)
    c.trail-trail.ensures.grounded c.trail-trail.ensures.value (omega (arith, below, inside)) c.index-trail-place.is refl c.in-Some.ensures in
    let marked : is_marked old l.var ≡ true = ap (is_marked old) (sym c.var.ensures.value) ∙ sym c.is_marked.ensures ∙ c.if-is_marked.true in
    let counts : CountsMarks lits old new (pending - 1) c.resolve.new.analysis.met =
    subst (λ (n : ℕ). CountsMarks lits old new n c.resolve.new.analysis.met) c.pass.ensures
    (subst (λ (ls : List Literal). CountsMarks ls old new c.pass.new.self c.resolve.new.analysis.met) (sym c.trail-trail.ensures.value) c.in_ok-resolve-in-Some.ensures.counts) in
    record {
      within = omega (arith, below);
      room = omega (arith, c.loop-place.invariant.room, c.in_ok-resolve-in-Some.ensures.room);
      traced = rw c.in_ok-resolve-in-Some.ensures.hints
          (but_resolve clauses lits old kept hints from pending inside new c.resolve.new.analysis.met p c.in-Some.number l below c.index-trail-place.is marked reason.0 reason.1
          c.in_ok-resolve-in-Some.ensures.ordered c.in_ok-resolve-in-Some.ensures.marks counts
          (but_over clauses lits old kept hints from pending inside (p + 1) (c.loop-place.place - (p + 1)) (omega (arith, whole, c.loop-place.invariant.within))
          (subst (λ (n : ℕ). IsTracedBut clauses lits old kept hints from n pending) whole c.loop-place.invariant.traced)));
      keeps = c.loop-place.invariant.keeps;
    }

pub loop-place-preserved-in-Continue-branch-2 : goal.loop-place-preserved-in-Continue-branch-2
loop-place-preserved-in-Continue-branch-2 c =
    let clauses = c.args.state.now.clauses in
    let lits = c.trail-trail.result.now in
    let marks = c.loop-place.analysis.marks in
    let pending = c.loop-place.analysis.met in
    let kept = c.loop-place.lits.items in
    let hints = c.loop-place.hints.items in
    let from = c.args.from in
    let p = c.next_below-place.result in
    let l = c.index-trail-place.result in
    let inside : from ≤ length lits = omega (arith, c.requires.within, ap length c.trail-trail.ensures.value) in
    let below : p < from = omega (arith, c.next_below-place.ensures, c.loop-place.invariant.within) in
    let whole : c.loop-place.place ≡ (p + 1) + (c.loop-place.place - (p + 1)) = omega (arith, c.next_below-place.ensures) in
    let marked : is_marked marks l.var ≡ true = ap (is_marked marks) (sym c.var.ensures.value) ∙ sym c.is_marked.ensures ∙ c.if-is_marked.true in
    let front : Contains (take from lits) l = in_front lits from p l below inside c.index-trail-place.is in
    record {
      within = omega (arith, below);
      room = c.loop-place.invariant.room;
      traced = rw (c.in_ok-push-in-None.ensures.items, c.lit.ensures, c.negated.ensures, c.pass.ensures)
          (but_keep clauses lits marks kept hints from pending inside p l below c.index-trail-place.is marked
          (but_over clauses lits marks kept hints from pending inside (p + 1) (c.loop-place.place - (p + 1)) (omega (arith, whole, c.loop-place.invariant.within))
          (subst (λ (n : ℕ). IsTracedBut clauses lits marks kept hints from n pending) whole c.loop-place.invariant.traced)));
      keeps = rw (c.in_ok-push-in-None.ensures.items, c.lit.ensures, c.negated.ensures) (keeps_push (take from lits) c.args.lits.now.items kept l c.loop-place.invariant.keeps front);
    }

pub loop-place-preserved : goal.loop-place-preserved
loop-place-preserved c =
    let clauses = c.args.state.now.clauses in
    let lits = c.trail-trail.result.now in
    let marks = c.loop-place.analysis.marks in
    let pending = c.loop-place.analysis.met in
    let kept = c.loop-place.lits.items in
    let hints = c.loop-place.hints.items in
    let from = c.args.from in
    let p = c.next_below-place.result in
    let l = c.index-trail-place.result in
    let inside : from ≤ length lits = omega (arith, c.requires.within, ap length c.trail-trail.ensures.value) in
    let below : p < from = omega (arith, c.next_below-place.ensures, c.loop-place.invariant.within) in
    let whole : c.loop-place.place ≡ (p + 1) + (c.loop-place.place - (p + 1)) = omega (arith, c.next_below-place.ensures) in
    record {
      within = omega (arith, below);
      room = c.loop-place.invariant.room;
      traced = but_skip clauses lits marks kept hints from pending inside p l below c.index-trail-place.is
          (ap (is_marked marks) (sym c.var.ensures.value) ∙ sym c.is_marked.ensures ∙ c.if-is_marked.false)
          (but_over clauses lits marks kept hints from pending inside (p + 1) (c.loop-place.place - (p + 1)) (omega (arith, whole, c.loop-place.invariant.within))
          (subst (λ (n : ℕ). IsTracedBut clauses lits marks kept hints from n pending) whole c.loop-place.invariant.traced));
      keeps = c.loop-place.invariant.keeps;
    }

-- nothing was passed over

pub returns-then-left-eq0-clause-traced : goal.returns-then-left-eq0-clause-traced
returns-then-left-eq0-clause-traced c =
    let clauses = c.args.state.now.clauses in
    let lits = c.trail-trail.result.now in
    let l = c.loop-place in
    let inside : c.args.from ≤ length lits = omega (arith, c.requires.within, ap length c.trail-trail.ensures.value) in
    subst (λ (ls : List Literal). IsTraced clauses ls l.analysis.marks l.lits.items l.hints.items 0) c.trail-trail.ensures.value
    (but_none clauses lits l.analysis.marks l.lits.items l.hints.items c.args.from l.analysis.met inside l.place l.invariant.within (omega (arith, c.if-left-eq0.true)) l.invariant.traced)

-- what was passed over is kept

pub returns-clause-traced : goal.returns-clause-traced
returns-clause-traced c =
    let clauses = c.args.state.now.clauses in
    let lits = c.trail-trail.result.now in
    let l = c.loop-place in
    let inside : c.args.from ≤ length lits = omega (arith, c.requires.within, ap length c.trail-trail.ensures.value) in
    let start : l.place ≡ 0 = elim c.loop-place-test.branch [
      | then-loop-place-test+else-left-gt0 w ↦ absurd (omega (arith, w.if-left-gt0.false, c.if-left-eq0.false))
      | else-loop-place-test w ↦ omega (arith, w.loop-place-test.false)
    ] in
    let but : IsTracedBut clauses lits l.analysis.marks l.lits.items l.hints.items c.args.from 0 l.analysis.met
    = subst (λ (n : ℕ). IsTracedBut clauses lits l.analysis.marks l.lits.items l.hints.items c.args.from n l.analysis.met) start l.invariant.traced in
    on_ok_weaker c.keep_marked.result
    (λ (keeps : KeepsMarked (take c.args.from (literals c.args.state.now.trail)) l.analysis.marks l.lits.items c.keep_marked.new.lits.items).
    subst (λ (ls : List Literal). IsTraced clauses ls l.analysis.marks c.keep_marked.new.lits.items l.hints.items 0) c.trail-trail.ensures.value
    (but_kept clauses lits l.analysis.marks l.lits.items l.hints.items c.args.from l.analysis.met inside c.keep_marked.new.lits.items
    (subst (λ (ls : List Literal). KeepsMarked (take c.args.from ls) l.analysis.marks l.lits.items c.keep_marked.new.lits.items) (sym c.trail-trail.ensures.value) keeps) but))
    c.keep_marked.ensures

pub returns-clause-keeps : goal.returns-clause-keeps
returns-clause-keeps c =
    let l = c.loop-place in
    let trues = take c.args.from (literals c.args.state.now.trail) in
    on_ok_weaker c.keep_marked.result
    (λ (keeps : KeepsMarked trues l.analysis.marks l.lits.items c.keep_marked.new.lits.items).
    keeps_as_marked trues l.analysis.marks c.args.lits.now.items l.lits.items c.keep_marked.new.lits.items
    (subst (λ (ls : List Literal). Rattle.sat_search.specs.Analysis.KeepsMore (take c.args.from ls) c.args.lits.now.items l.lits.items) c.trail-trail.ensures.value l.invariant.keeps) keeps)
    c.keep_marked.ensures
