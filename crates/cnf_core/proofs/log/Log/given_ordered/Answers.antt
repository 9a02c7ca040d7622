-- A given at the end leaves what is true of a log.
use Rattle.std.proofs.Common.{◌≡◌, List, [], ◌∷◌, ◌++◌, sym, ap, subst, arith}
use Rattle.std.specs.Prelude.{All}
use Rattle.cnf_core.specs.Literal.{IsClause}
use Rattle.cnf_core.specs.Events.{LogEvent, clauses_of, given, nonempty_steps, HasBase, HintsAreEarlier}
use Rattle.cnf_core.proofs.Events.{clauses_push, IsLog-same, EachStep-given, nonempty_steps-push, HasBase-push}
use Rattle.cnf_core.proofs.log.Log.given_ordered.Goals as goal

pub invariant_of-self-2 : goal.invariant_of-self-2
invariant_of-self-2 c =
    let old = c.self.inside.events in
    let new = given c.args.clause.now in
    let is : c.push_given.new.self ≡ old ++ new ∷ [] = c.in_ok-push_given.ensures.ok in
    record {
      counted = omega (arith, c.self.invariant.counted, ap nonempty_steps is, nonempty_steps-push old new);
      clauses = subst (λ (es : List LogEvent). All IsClause (clauses_of es)) (sym is) (clauses_push old new c.self.invariant.clauses c.requires);
      hints = subst HintsAreEarlier (sym is) (EachStep-given _ [] old c.args.clause.now c.self.invariant.hints);
      first = subst (λ (es : List LogEvent). HasBase es c.self.inside.base) (sym is) (HasBase-push old new c.self.inside.base c.self.invariant.first);
    }

pub invariant_of-self : goal.invariant_of-self
invariant_of-self c = IsLog-same c.self.inside c.push_given.new.self c.in_err-push_given.ensures.err c.self.invariant
