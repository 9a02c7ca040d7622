-- An event more.
use Rattle.std.proofs.Common.{◌≡◌, ℕ, Bool, List, [], ◌∷◌, ◌++◌, length, rules, ap, ◌∙◌}
use Rattle.cnf_core.specs.Events.{LogEvent}
use Rattle.cnf_core.specs.EventListInside.{event_of}
use Rattle.cnf_core.proofs.EventLists.{event_added}
use Rattle.cnf_core.proofs.entries.EventList.push.Goals as goal

pub invariant_of-self-2 : goal.invariant_of-self-2
invariant_of-self-2 c =
    let old = c.self.inside in
    let grown : c.append.new.kept.items ≡ old.hints.items ++ c.args.hints.now = c.append.ensures ∙ ap (λ (xs : List ℕ). xs ++ c.args.hints.now) c.in_ok-reserve.ensures.items in
    let ends : c.push_reserved.new.self.items ≡ old.ends.items ++ c.len-end.result ∷ [] = c.push_reserved.ensures.items ∙ ap (λ (xs : List ℕ). xs ++ c.len-end.result ∷ []) c.in_ok-reserve-2.ensures.items in
    let steps : c.push_reserved-2.new.self.items ≡ old.steps.items ++ c.args.is_step ∷ [] = c.push_reserved-2.ensures.items ∙ ap (λ (xs : List Bool). xs ++ c.args.is_step ∷ []) c.in_ok-reserve-3.ensures.items in
    let end : c.len-end.result ≡ length c.append.new.kept.items = search rules in
    (event_added old (record { clauses = c.push.new.self; hints = c.append.new.kept; ends = c.push_reserved.new.self; steps = c.push_reserved-2.new.self }) c.args.clause.now c.args.hints.now c.args.is_step c.len-end.result c.in_ok-push.ensures.ok grown ends steps end c.self.invariant).0

pub returns-clause-ok : goal.returns-clause-ok
returns-clause-ok c =
    let old = c.self.inside in
    let grown : c.append.new.kept.items ≡ old.hints.items ++ c.args.hints.now = c.append.ensures ∙ ap (λ (xs : List ℕ). xs ++ c.args.hints.now) c.in_ok-reserve.ensures.items in
    let ends : c.push_reserved.new.self.items ≡ old.ends.items ++ c.len-end.result ∷ [] = c.push_reserved.ensures.items ∙ ap (λ (xs : List ℕ). xs ++ c.len-end.result ∷ []) c.in_ok-reserve-2.ensures.items in
    let steps : c.push_reserved-2.new.self.items ≡ old.steps.items ++ c.args.is_step ∷ [] = c.push_reserved-2.ensures.items ∙ ap (λ (xs : List Bool). xs ++ c.args.is_step ∷ []) c.in_ok-reserve-3.ensures.items in
    let end : c.len-end.result ≡ length c.append.new.kept.items = search rules in
    (event_added old (record { clauses = c.push.new.self; hints = c.append.new.kept; ends = c.push_reserved.new.self; steps = c.push_reserved-2.new.self }) c.args.clause.now c.args.hints.now c.args.is_step c.len-end.result c.in_ok-push.ensures.ok grown ends steps end c.self.invariant).1
    ∙ ap (λ (es : List LogEvent). es ++ event_of c.args.is_step c.args.clause.now c.args.hints.now ∷ []) c.self.view_is
