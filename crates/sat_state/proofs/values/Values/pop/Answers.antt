use Rattle.std.proofs.Common.{◌∷◌, [], ◌++◌, false, length, subst, arith}
use Rattle.std.proofs.lemmas.List.{length-set}
use Rattle.sat_state.specs.Trail.{literals}
use Rattle.sat_state.specs.ValuesInside.{AreTruths}
use Rattle.sat_state.proofs.Literals.{not_true}
use Rattle.sat_state.proofs.Truths.{truths_pop, code_in}
use Rattle.sat_state.proofs.values.Values.pop.Goals as goal

pub index_mut-requires : goal.index_mut-requires
index_mut-requires c =
    let a = c.self.inside in
    let there = code_in c.pop-lit.result a.assigned.vars (length a.truths.items) (omega (arith, c.code.ensures.some, c.code.ensures.value)) (omega (arith, c.pop-lit.ensures.known)) c.self.invariant.room in
    omega (arith, there, c.code.ensures.value, a.truths.ok.0)

pub invariant_of-self : goal.invariant_of-self
invariant_of-self c =
    let a = c.self.inside in
    let lit = c.pop-lit.result in
    let there = code_in lit a.assigned.vars (length a.truths.items) (omega (arith, c.code.ensures.some, c.code.ensures.value)) (omega (arith, c.pop-lit.ensures.known)) c.self.invariant.room in
    let now = literals c.pop-lit.new.self.trail in
    let before : AreTruths a.truths.items (now ++ lit ∷ []) = subst (AreTruths a.truths.items) c.pop-lit.ensures.literal c.self.invariant.truths in
    record {
      truths = rw c.code.ensures.value (truths_pop a.truths.items now lit before (not_true now lit c.pop-lit.ensures.free) there);
      few = omega (arith, c.pop-lit.ensures.vars, c.self.invariant.few);
      room = λ some. omega (arith, c.pop-lit.ensures.vars, length-set a.truths.items c.code.result false, c.self.invariant.room (omega (arith, some, c.pop-lit.ensures.vars)));
    }
