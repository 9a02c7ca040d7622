use Rattle.std.proofs.Common.{None, sym, ap, ◌∙◌, arith}
use Rattle.std.specs.Option.{option_map}
use Rattle.std.proofs.lemmas.List.{get_or_read, get_or_past}
use Rattle.sat_state.specs.Assigned.{Origin}
use Rattle.sat_state.proofs.Tables.{slot_level}
use Rattle.sat_state.proofs.assignment.Assignment.level_in.Goals as goal

pub returns-then-var-len : goal.returns-then-var-len
returns-then-var-len c =
    let a = c.self.inside in
    c.level.ensures ∙ ap (option_map (λ (s : Origin). s.level)) (get_or_read a.slots.items c.args.var c.index.result.now (omega (arith, a.slots.ok.0)) c.index.ensures None)
    ∙ slot_level a c.args.self.now c.args.var c.self.view_is c.self.invariant

pub returns-else-var-len : goal.returns-else-var-len
returns-else-var-len c =
    let a = c.self.inside in
    sym (ap (option_map (λ (s : Origin). s.level)) (get_or_past a.slots.items c.args.var None (omega (arith, a.slots.ok.0))))
    ∙ slot_level a c.args.self.now c.args.var c.self.view_is c.self.invariant
