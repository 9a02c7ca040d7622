use Rattle.std.proofs.Common.{◌≡◌, ℕ, ◌+◌, ◌-◌, ◌<◌, ◌∷◌, [], ◌++◌, List, Option, cond, length, take, vec_capacity, Some, None, is_none, sym, ap, subst, ◌∙◌, arith}
use Rattle.std.specs.Option.{option_to_list, option_map_or}
use Rattle.std.proofs.lemmas.List.{get_or_read, length_push, take_at}
use Rattle.std.proofs.lemmas.List.Sums.{sum_by_push}
use Rattle.cnf_core.specs.Literal.{Literal}
use Rattle.sat_state.specs.Assigned.{TrailState, Origin}
use Rattle.sat_state.specs.Trail.{Entry, trail_value, level_of}
use Rattle.sat_state.specs.AssignmentInside.{slot_of, entry_at, entries}
use Rattle.sat_state.proofs.Tables.{seen_literals, literals-entries, last_known, last_free, popped, before_pop, trail_before_pop, entries-more, entries-unset}
use Rattle.sat_state.proofs.assignment.Assignment.pop.Goals as goal

pub invariant_of-self : goal.invariant_of-self
invariant_of-self c =
    let a = c.self.inside in
    let left = c.pop.new.self.items in
    let lit = c.unwrap-lit.result in
    let t = before_pop a.slots.items a.trail.items c.pop.new.self.items c.pop.result c.unwrap-lit.result a.level (vec_capacity a.trail) c.pop.ensures.items c.unwrap-lit.ensures c.self.invariant in
    let known : lit.var < length a.slots.items = last_known a.slots.items left lit a.level (vec_capacity a.trail) t in
    let slot = get_or_read a.slots.items c.var-var.result c.index.result.now (omega (arith, c.var-var.ensures.value, known)) c.index.ensures None in
    let reason : c.reason-reason.result ≡ (entry_at a.slots.items lit).reason =
    c.reason-reason.ensures ∙ ap (λ (o : Option Origin). option_map_or (λ (s : Origin). s.reason) o None) (slot ∙ ap (slot_of a.slots.items) c.var-var.ensures.value) in
    let opened : c.levels_opened.result ≡ cond (is_none (entry_at a.slots.items lit).reason) 1 0 = c.levels_opened.ensures ∙ ap (λ (o : Option ℕ). cond (is_none o) 1 0) reason in
    let levels : a.level ≡ level_of (entries a.slots.items left) + cond (is_none (entry_at a.slots.items lit).reason) 1 0 =
    t.levels ∙ ap level_of (entries-more a.slots.items left lit) ∙ sum_by_push (λ (e : Entry). cond (is_none e.reason) 1 0) (entries a.slots.items left) (entry_at a.slots.items lit) in
    rw (c.var-var.ensures.value, c.pop.ensures.capacity, c.none.ensures)
    (popped a.slots.items left a.level (a.level - c.levels_opened.result) (vec_capacity a.trail) lit t (omega (arith, opened, levels)))

pub returns-clause-trail : goal.returns-clause-trail
returns-clause-trail c =
    let a = c.self.inside in
    let left = c.pop.new.self.items in
    let front = entries a.slots.items left in
    let last = entry_at a.slots.items c.unwrap-lit.result ∷ [] in
    let len : length c.args.self.now.trail ≡ length front + 1 = ap length (trail_before_pop a c.args.self.now c.pop.new.self.items c.pop.result c.unwrap-lit.result c.self.view_is c.pop.ensures.items c.unwrap-lit.ensures) ∙ length_push front (entry_at a.slots.items c.unwrap-lit.result) in
    rw (c.var-var.ensures.value, c.none.ensures)
    (entries-unset a.slots.items left c.unwrap-lit.result a.level (vec_capacity a.trail) (before_pop a.slots.items a.trail.items c.pop.new.self.items c.pop.result c.unwrap-lit.result a.level (vec_capacity a.trail) c.pop.ensures.items c.unwrap-lit.ensures c.self.invariant)
    ∙ sym (take_at front last (length c.args.self.now.trail - 1) (omega (arith, len)))
    ∙ ap (take (length c.args.self.now.trail - 1)) (sym (trail_before_pop a c.args.self.now c.pop.new.self.items c.pop.result c.unwrap-lit.result c.self.view_is c.pop.ensures.items c.unwrap-lit.ensures)))

pub returns-clause-literal : goal.returns-clause-literal
returns-clause-literal c =
    let a = c.self.inside in
    let left = c.pop.new.self.items in
    let slots = Rattle.std.proofs.Common.set a.slots.items c.var-var.result c.none.result in
    seen_literals a c.args.self.now c.self.view_is ∙ c.pop.ensures.items ∙ ap (λ (o : Option Literal). left ++ option_to_list o) c.unwrap-lit.ensures
    ∙ ap (λ (ls : List Literal). ls ++ c.unwrap-lit.result ∷ []) (sym (literals-entries slots left))

pub returns-clause-known : goal.returns-clause-known
returns-clause-known c =
    let a = c.self.inside in
    let known = last_known a.slots.items c.pop.new.self.items c.unwrap-lit.result a.level (vec_capacity a.trail) (before_pop a.slots.items a.trail.items c.pop.new.self.items c.pop.result c.unwrap-lit.result a.level (vec_capacity a.trail) c.pop.ensures.items c.unwrap-lit.ensures c.self.invariant) in
    let vars : length a.slots.items - 1 ≡ c.args.self.now.vars = ap (λ (x : TrailState). x.vars) c.self.view_is in
    omega (arith, known, vars)

pub returns-clause-free : goal.returns-clause-free
returns-clause-free c =
    let a = c.self.inside in
    let left = c.pop.new.self.items in
    let slots = Rattle.std.proofs.Common.set a.slots.items c.var-var.result c.none.result in
    ap (λ (ls : List Literal). trail_value ls c.unwrap-lit.result.var) (literals-entries slots left)
    ∙ last_free a.slots.items left c.unwrap-lit.result a.level (vec_capacity a.trail) (before_pop a.slots.items a.trail.items c.pop.new.self.items c.pop.result c.unwrap-lit.result a.level (vec_capacity a.trail) c.pop.ensures.items c.unwrap-lit.ensures c.self.invariant)
