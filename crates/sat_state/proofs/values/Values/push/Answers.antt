use Rattle.std.proofs.Common.{◌≡◌, true, length, ap, arith}
use Rattle.std.proofs.lemmas.List.{length-set}
use Rattle.sat_state.specs.Assigned.{TrailState}
use Rattle.sat_state.specs.Trail.{Entry, literals, next_level}
use Rattle.sat_state.proofs.Grounds.{literals_push}
use Rattle.sat_state.proofs.Truths.{truths_push, code_in}
use Rattle.sat_state.proofs.values.Values.push.Goals as goal

pub index_mut-requires : goal.index_mut-requires
index_mut-requires c =
    let a = c.self.inside in
    let same : a.assigned.vars ≡ c.args.self.now.vars = ap (λ (x : TrailState). x.vars) c.self.view_is in
    let there = code_in c.args.lit a.assigned.vars (length a.truths.items) (omega (arith, c.code.ensures.some, c.code.ensures.value)) (omega (arith, c.requires.known, same)) c.self.invariant.room in
    omega (arith, there, c.code.ensures.value, a.truths.ok.0)

pub invariant_of-self : goal.invariant_of-self
invariant_of-self c =
    let a = c.self.inside in
    let lit = c.args.lit in
    let same : a.assigned.vars ≡ c.args.self.now.vars = ap (λ (x : TrailState). x.vars) c.self.view_is in
    let there = code_in lit a.assigned.vars (length a.truths.items) (omega (arith, c.code.ensures.some, c.code.ensures.value)) (omega (arith, c.requires.known, same)) c.self.invariant.room in
    let x : Entry = record { literal = lit; level = next_level a.assigned.trail c.args.reason; reason = c.args.reason } in
    record {
      truths = rw (c.code.ensures.value, c.push.ensures.trail, c.of.ensures, literals_push a.assigned.trail x) (truths_push a.truths.items (literals a.assigned.trail) lit c.self.invariant.truths there);
      few = omega (arith, c.push.ensures.vars, c.self.invariant.few);
      room = λ some. omega (arith, c.push.ensures.vars, length-set a.truths.items c.code.result true, c.self.invariant.room (omega (arith, some, c.push.ensures.vars)));
    }
