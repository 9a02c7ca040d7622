use Rattle.std.proofs.Common.{Option, None, sym, ap, ◌∙◌, arith}
use Rattle.std.specs.Option.{option_map_or}
use Rattle.std.proofs.lemmas.List.{get_or_read, get_or_past}
use Rattle.sat_state.specs.Assigned.{Origin}
use Rattle.sat_state.proofs.Tables.{slot_reason}
use Rattle.sat_state.proofs.assignment.Assignment.reason_in.Goals as goal

pub returns-then-var-len : goal.returns-then-var-len
returns-then-var-len c =
    let a = c.self.inside in
    c.reason.ensures ∙ ap (λ (o : Option Origin). option_map_or (λ (s : Origin). s.reason) o None) (get_or_read a.slots.items c.args.var c.index.result.now (omega (arith, a.slots.ok.0)) c.index.ensures None)
    ∙ slot_reason a c.args.self.now c.args.var c.self.view_is c.self.invariant

pub returns-else-var-len : goal.returns-else-var-len
returns-else-var-len c =
    let a = c.self.inside in
    sym (ap (λ (o : Option Origin). option_map_or (λ (s : Origin). s.reason) o None) (get_or_past a.slots.items c.args.var None (omega (arith, a.slots.ok.0))))
    ∙ slot_reason a c.args.self.now c.args.var c.self.view_is c.self.invariant
