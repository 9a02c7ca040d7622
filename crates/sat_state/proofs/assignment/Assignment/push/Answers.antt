use Rattle.std.proofs.Common.{◌≡◌, ℕ, ◌≤◌, ◌+◌, ◌∷◌, [], ◌++◌, List, cond, vec_capacity, None, is_none, sym, ap, ◌∙◌, arith}
use Rattle.sat_state.specs.Assigned.{TrailState, Origin}
use Rattle.sat_state.specs.Trail.{Entry, trail_value, level_of}
use Rattle.sat_state.specs.AssignmentInside.{entries}
use Rattle.sat_state.proofs.Tables.{seen_value, seen_var, room_left, level_fits, pushed, entries_push}
use Rattle.sat_state.proofs.assignment.Assignment.push.Goals as goal

variable_low : (n v : ℕ) → 1 ≤ n → n ≡ v → 1 ≤ v
variable_low n v low same = omega arith

pub some-requires-clause-level : goal.some-requires-clause-level
some-requires-clause-level c =
    let a = c.self.inside in
    let now = c.args.self.now in
    let known = seen_var a now c.args.lit.var c.self.view_is c.self.invariant c.requires.known in
    let free : trail_value a.trail.items c.args.lit.var ≡ None = sym (seen_value a now c.args.lit.var c.self.view_is) ∙ c.requires.free in
    omega (arith, level_fits a.slots.items a.trail.items a.level (vec_capacity a.trail) c.args.lit.var c.args.reason c.self.invariant known free, c.levels_opened.ensures)

pub push_reserved-requires : goal.push_reserved-requires
push_reserved-requires c =
    let a = c.self.inside in
    let now = c.args.self.now in
    let known = seen_var a now c.args.lit.var c.self.view_is c.self.invariant c.requires.known in
    let free : trail_value a.trail.items c.args.lit.var ≡ None = sym (seen_value a now c.args.lit.var c.self.view_is) ∙ c.requires.free in
    omega (arith, room_left a.slots.items a.trail.items a.level (vec_capacity a.trail) c.args.lit.var c.self.invariant known free, a.trail.ok.0)

pub invariant_of-self : goal.invariant_of-self
invariant_of-self c =
    let a = c.self.inside in
    let now = c.args.self.now in
    let known = seen_var a now c.args.lit.var c.self.view_is c.self.invariant c.requires.known in
    let free : trail_value a.trail.items c.args.lit.var ≡ None = sym (seen_value a now c.args.lit.var c.self.view_is) ∙ c.requires.free in
    let slot : Origin = record { level = a.level + cond (is_none c.args.reason) 1 0; reason = c.args.reason } in
    let positive = variable_low c.var.result c.args.lit.var c.var.ensures.in_range.0 c.var.ensures.value in
    let kept = pushed a.slots.items a.trail.items a.level (vec_capacity a.trail) c.args.lit slot c.self.invariant positive known free in
    rw (c.var.ensures.value, c.push_reserved.ensures.items, c.push_reserved.ensures.capacity, c.some.ensures, c.levels_opened.ensures) kept

pub returns-clause-trail : goal.returns-clause-trail
returns-clause-trail c =
    let a = c.self.inside in
    let now = c.args.self.now in
    let known = seen_var a now c.args.lit.var c.self.view_is c.self.invariant c.requires.known in
    let free : trail_value a.trail.items c.args.lit.var ≡ None = sym (seen_value a now c.args.lit.var c.self.view_is) ∙ c.requires.free in
    let slot : Origin = record { level = a.level + cond (is_none c.args.reason) 1 0; reason = c.args.reason } in
    let seen_trail : entries a.slots.items a.trail.items ≡ now.trail = ap (λ (x : TrailState). x.trail) c.self.view_is in
    let entry = λ (n : ℕ). let e : Entry = record { literal = c.args.lit; level = n + cond (is_none c.args.reason) 1 0; reason = c.args.reason } in e in
    rw (c.var.ensures.value, c.push_reserved.ensures.items, c.some.ensures, c.levels_opened.ensures)
    (entries_push a.slots.items a.trail.items c.args.lit slot known free
    ∙ ap (λ (n : ℕ). entries a.slots.items a.trail.items ++ entry n ∷ []) (c.self.invariant.levels ∙ ap level_of seen_trail)
    ∙ ap (λ (t : List Entry). t ++ entry (level_of now.trail) ∷ []) seen_trail)
