use Rattle.std.proofs.Common.{Option, Some, None, vec_capacity, sym, ap, ◌∙◌, arith}
use Rattle.std.specs.Option.{option_map_or}
use Rattle.std.proofs.lemmas.List.{get_or_read}
use Rattle.sat_state.specs.Assigned.{Origin}
use Rattle.sat_state.proofs.Tables.{seen_has, known_var, known_slot, reason_some}
use Rattle.sat_state.proofs.assignment.Assignment.reason.Goals as goal

pub index-requires : goal.index-requires
index-requires c =
    let a = c.self.inside in
    let has = seen_has a c.args.self.now c.args.var c.self.view_is c.requires in
    omega (arith, known_var a.slots.items a.trail.items a.level (vec_capacity a.trail) c.args.var c.self.invariant has, a.slots.ok.0)

pub returns : goal.returns
returns c =
    let a = c.self.inside in
    let has = seen_has a c.args.self.now c.args.var c.self.view_is c.requires in
    let known = known_var a.slots.items a.trail.items a.level (vec_capacity a.trail) c.args.var c.self.invariant has in
    reason_some a c.args.self.now c.args.var c.self.view_is c.self.invariant (known_slot a.slots.items a.trail.items a.level (vec_capacity a.trail) c.args.var c.self.invariant has)
    ∙ ap Some (sym (c.reason.ensures ∙ ap (λ (o : Option Origin). option_map_or (λ (s : Origin). s.reason) o None) (get_or_read a.slots.items c.args.var c.index.result.now known c.index.ensures None)))
