use Rattle.std.proofs.Common.{◌≡◌, ℕ, ◌+◌, ◌*◌, ◌<◌, ◌++◌, ◌∷◌, [], List, get_or, length, ap, ◌∙◌, sym, subst, arith}
use Rattle.std.proofs.lemmas.List.{length_push}
use Rattle.std.proofs.lemmas.List.Elements.{All-weaker}
use Rattle.sat_join.proofs.Refuting.{refutes_grows, refutes_notes, refutes_base}
use Rattle.sat_join.proofs.Pairs.{IsHalfDone, half_turn, half_ended}
use Rattle.sat_join.proofs.closing.halved.Goals as goal

pub loop-cube-preserved : goal.loop-cube-preserved
loop-cube-preserved c =
    let ends = c.args.ends.now in
    let vars = c.args.vars.now in
    let old = c.loop-cube.joined in
    let new = c.refute.new.joined in
    let k = c.loop-cube.cube in
    let halves = c.loop-cube.halves.items in
    let literals = c.deref.result.now in
    let hints = c.push-in-loop-cube.new.self.items in
    let place = c.in_ok-refute.field-0 in
    let done = c.in_ok-refute.ensures in
    let pushed = sym c.in_ok-push-3.ensures.items in
    record {
      half = λ clauses v divides closing.
          subst (λ (hs : List ℕ). IsHalfDone clauses v vars ends hs c.args.joined.now.events new.events) pushed
          (half_turn clauses v vars ends halves c.args.joined.now.events old new place k literals hints divides (c.loop-cube.invariant.half clauses v divides closing) c.loop-cube.invariant.count c.loop-cube-test.true
          (c.deref.ensures.value ∙ c.in_ok-literals.ensures)
          (c.in_ok-push-2.ensures.items ∙ ap (λ (hs : List ℕ). hs ++ get_or ends (2 * k + 1) 0 ∷ []) (c.in_ok-push.ensures.items ∙ ap (λ (hs : List ℕ). hs ++ get_or ends (2 * k) 0 ∷ []) c.new-hints.ensures.items))
          done);
      count = subst (λ (hs : List ℕ). length hs ≡ k + 1) pushed (omega (arith, length_push halves place, c.loop-cube.invariant.count));
      there = All-weaker (λ (e : ℕ). e < length old.events) (λ (e : ℕ). e < length new.events) (λ e below. omega (arith, below, refutes_grows old new literals hints place done)) ends c.loop-cube.invariant.there;
      notes = refutes_notes old new literals hints place done ∙ c.loop-cube.invariant.notes;
      base = refutes_base old new literals hints place done ∙ c.loop-cube.invariant.base;
    }

pub returns-clause-closing : goal.returns-clause-closing
returns-clause-closing c = λ clauses v divides closing.
    half_ended clauses v c.args.vars.now c.args.ends.now c.loop-cube.halves.items c.args.joined.now.events c.loop-cube.joined.events closing
    (c.loop-cube.invariant.half clauses v divides closing) (omega (arith, c.loop-cube.invariant.count, c.loop-cube-test.false, c.loop-cube.auto.cube-end))
