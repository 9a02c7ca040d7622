use Rattle.std.proofs.Common.{◌≡◌, List, None, ap, ◌∙◌, subst, arith}
use Rattle.cnf_core.specs.Literal.{Literal}
use Rattle.sat_state.specs.Assigned.{TrailState}
use Rattle.sat_state.specs.Trail.{literals, trail_value}
use Rattle.sat_state.proofs.Literals.{no_value}
use Rattle.sat_state.proofs.values.Values.value.Goals as goal

pub returns-clause-unknown : goal.returns-clause-unknown
returns-clause-unknown c = λ above.
    let a = c.self.inside in
    let vars = ap (λ (x : TrailState). x.vars) c.self.view_is in
    let trues = literals c.args.self.now.trail in
    let same : c.trail-trail.result.now ≡ trues = c.trail-trail.ensures.value ∙ ap (λ (x : TrailState). literals x.trail) c.self.view_is in
    let none : trail_value trues c.args.var ≡ None = subst (λ (ls : List Literal). trail_value ls c.args.var ≡ None) same (no_value c.trail-trail.result.now c.args.var (λ k d h e. absurd (omega (arith, c.trail-trail.ensures.known k d h, e, vars, above)))) in
    rw (c.sign.ensures, c.truth.ensures, c.truth-2.ensures) none
