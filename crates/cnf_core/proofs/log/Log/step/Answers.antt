-- A step at the end leaves what is true of a log, and counts where its clause has a literal.
use Rattle.std.proofs.Common.{◌≡◌, ℕ, cond, not, List, [], ◌∷◌, ◌++◌, length, ◌∙◌, refl, sym, ap, subst, arith, true, false}
use Rattle.std.proofs.lemmas.List.Sums.{count_by-le-length}
use Rattle.std.specs.Prelude.{All}
use Rattle.cnf_core.specs.Literal.{IsClause}
use Rattle.cnf_core.specs.Events.{LogEvent, clauses_of, LogState, step, nonempty_steps, is_nonempty_step, HasBase, HintsAreThere, HintsAreEarlier}
use Rattle.cnf_core.proofs.Events.{clauses_push, IsLog-same, EachStep-step, nonempty_steps-push, counts_as, HasBase-push}
use Rattle.cnf_core.proofs.log.Log.step.Goals as goal

pub invariant_of-self-then-counts : goal.invariant_of-self-then-counts
invariant_of-self-then-counts c =
    let old = c.self.inside.events in
    let new = step c.lits-lits.result.now c.as_slice.result.now in
    let is : c.push_step.new.self ≡ old ++ new ∷ [] = c.in_ok-push_step.ensures.ok in
    let counts : is_nonempty_step new ≡ true = counts_as c.lits-lits.result.now c.as_slice.result.now (length c.lits-lits.result.now) refl ∙ ap not (sym c.if-counts.ensures) in
    record {
      counted = omega (arith, c.self.invariant.counted, ap nonempty_steps is, nonempty_steps-push old new, ap {B = ℕ} (λ b. cond b 1 0) counts);
      clauses = subst (λ (es : List LogEvent). All IsClause (clauses_of es)) (sym is) (clauses_push old (new) c.self.invariant.clauses (record { ordered = c.lits-lits.ensures.ordered; variables = c.lits-lits.ensures.variables }));
      hints = subst HintsAreEarlier (sym is) (EachStep-step _ [] old c.lits-lits.result.now c.as_slice.result.now c.self.invariant.hints
          (subst (λ (hs : List ℕ). HintsAreThere old hs) (sym c.as_slice.ensures.value)
          (subst (λ (s : LogState). HintsAreThere s.events c.args.hints.items) (sym c.self.view_is) c.requires)));
      first = subst (λ (es : List LogEvent). HasBase es c.self.inside.base) (sym is) (HasBase-push old new c.self.inside.base c.self.invariant.first);
    }

pub invariant_of-self-else-counts : goal.invariant_of-self-else-counts
invariant_of-self-else-counts c =
    let old = c.self.inside.events in
    let new = step c.lits-lits.result.now c.as_slice.result.now in
    let is : c.push_step.new.self ≡ old ++ new ∷ [] = c.in_ok-push_step.ensures.ok in
    let counts : is_nonempty_step new ≡ false = counts_as c.lits-lits.result.now c.as_slice.result.now (length c.lits-lits.result.now) refl ∙ ap not (sym c.if-counts.ensures) in
    record {
      counted = omega (arith, c.self.invariant.counted, ap nonempty_steps is, nonempty_steps-push old new, ap {B = ℕ} (λ b. cond b 1 0) counts);
      clauses = subst (λ (es : List LogEvent). All IsClause (clauses_of es)) (sym is) (clauses_push old (new) c.self.invariant.clauses (record { ordered = c.lits-lits.ensures.ordered; variables = c.lits-lits.ensures.variables }));
      hints = subst HintsAreEarlier (sym is) (EachStep-step _ [] old c.lits-lits.result.now c.as_slice.result.now c.self.invariant.hints
          (subst (λ (hs : List ℕ). HintsAreThere old hs) (sym c.as_slice.ensures.value)
          (subst (λ (s : LogState). HintsAreThere s.events c.args.hints.items) (sym c.self.view_is) c.requires)));
      first = subst (λ (es : List LogEvent). HasBase es c.self.inside.base) (sym is) (HasBase-push old new c.self.inside.base c.self.invariant.first);
    }

pub invariant_of-self : goal.invariant_of-self
invariant_of-self c = IsLog-same c.self.inside c.push_step.new.self c.in_err-push_step.ensures.err c.self.invariant

pub overflow_add-self : goal.overflow_add-self
overflow_add-self c =
    omega (arith, c.len-count.ensures.value, c.len-count.ensures.few, c.self.invariant.counted, count_by-le-length is_nonempty_step c.self.inside.events)
