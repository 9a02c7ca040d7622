use Rattle.std.proofs.Common.{None, is_some, vec_capacity, sym, ap, ◌∙◌, arith}
use Rattle.std.specs.Option.{option_map}
use Rattle.std.proofs.lemmas.List.{get_or_read}
use Rattle.sat_state.specs.Assigned.{Origin}
use Rattle.sat_state.specs.AssignmentInside.{slot_of}
use Rattle.sat_state.proofs.Tables.{seen_has, known_var, known_slot, mapped_some, slot_level}
use Rattle.sat_state.proofs.assignment.Assignment.level_of.Goals as goal

pub index-requires : goal.index-requires
index-requires c =
    let a = c.self.inside in
    let has = seen_has a c.args.self.now c.args.var c.self.view_is c.requires in
    omega (arith, known_var a.slots.items a.trail.items a.level (vec_capacity a.trail) c.args.var c.self.invariant has, a.slots.ok.0)

pub unwrap-requires : goal.unwrap-requires
unwrap-requires c =
    let a = c.self.inside in
    let has = seen_has a c.args.self.now c.args.var c.self.view_is c.requires in
    let known = known_var a.slots.items a.trail.items a.level (vec_capacity a.trail) c.args.var c.self.invariant has in
    ap is_some (c.level.ensures ∙ ap (option_map (λ (s : Origin). s.level)) (get_or_read a.slots.items c.args.var c.index.result.now known c.index.ensures None))
    ∙ mapped_some (λ (s : Origin). s.level) (slot_of a.slots.items c.args.var) ∙ known_slot a.slots.items a.trail.items a.level (vec_capacity a.trail) c.args.var c.self.invariant has

pub returns : goal.returns
returns c =
    let a = c.self.inside in
    let has = seen_has a c.args.self.now c.args.var c.self.view_is c.requires in
    let known = known_var a.slots.items a.trail.items a.level (vec_capacity a.trail) c.args.var c.self.invariant has in
    sym (slot_level a c.args.self.now c.args.var c.self.view_is c.self.invariant)
    ∙ sym (c.level.ensures ∙ ap (option_map (λ (s : Origin). s.level)) (get_or_read a.slots.items c.args.var c.index.result.now known c.index.ensures None))
    ∙ c.unwrap.ensures
