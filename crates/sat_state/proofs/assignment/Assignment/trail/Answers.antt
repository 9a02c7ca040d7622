use Rattle.std.proofs.Common.{◌≡◌, ◌-◌, ◌≤◌, is_some, None, refl, length, sym, ap, ◌∙◌, arith}
use Rattle.std.proofs.lemmas.List.{length-map}
use Rattle.std.proofs.lemmas.List.Elements.{All-same}
use Rattle.cnf_core.specs.Literal.{Literal}
use Rattle.sat_state.specs.Assigned.{TrailState}
use Rattle.sat_state.specs.AssignmentInside.{entry_at}
use Rattle.sat_state.proofs.Settling.{one_fails}
use Rattle.sat_state.proofs.Tables.{seen_literals}
use Rattle.sat_state.proofs.assignment.Assignment.trail.Goals as goal

pub returns-clause-value : goal.returns-clause-value
returns-clause-value c = c.as_slice.ensures.value ∙ sym (seen_literals c.self.inside c.args.self.now c.self.view_is)

pub returns-clause-known : goal.returns-clause-known
returns-clause-known c =
    let a = c.self.inside in
    let vars : length a.slots.items - 1 ≡ c.args.self.now.vars = ap (λ (x : TrailState). x.vars) c.self.view_is in
    All-same (λ (l : Literal). l.var ≤ c.args.self.now.vars) c.as_slice.result.now a.trail.items c.as_slice.ensures.value
    (λ k d h. omega (arith, c.self.invariant.in_range k d h, vars))

pub returns-clause-few : goal.returns-clause-few
returns-clause-few c =
    let a = c.self.inside in
    let vars : length a.slots.items - 1 ≡ c.args.self.now.vars = ap (λ (x : TrailState). x.vars) c.self.view_is in
    let len : length a.trail.items ≡ length c.args.self.now.trail = sym (length-map a.trail.items (entry_at a.slots.items)) ∙ ap (λ (x : TrailState). length x.trail) c.self.view_is in
    omega (arith, len, vars, c.self.invariant.count, c.self.invariant.some, one_fails is_some a.slots.items None (0, c.self.invariant.some, c.self.invariant.zero) refl)
