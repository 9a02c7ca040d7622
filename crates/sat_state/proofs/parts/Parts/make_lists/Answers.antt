use Rattle.std.proofs.Common.{refl, ap, arith}
use Rattle.sat_state.specs.Listed.{Listed}
use Rattle.sat_state.proofs.Going.{joined_same, stands_alike}
use Rattle.sat_state.proofs.parts.Parts.make_lists.Goals as goal

pub returns-clause-joined : goal.returns-clause-joined
returns-clause-joined c =
    joined_same c.args.self.now _ c.requires refl c.grow.ensures.lits c.grow.ensures.fars c.grow.ensures.kept
    (stands_alike _ _ _ _ (λ k. ap (λ (l : Listed). l.watches) (c.grow.ensures.same k))) (record { each = λ k. omega (arith, ap (λ (l : Listed). l.room) (c.grow.ensures.same k)) }) refl refl

pub returns-in_err-grow-clause-joined : goal.returns-in_err-grow-clause-joined
returns-in_err-grow-clause-joined c =
    joined_same c.args.self.now _ c.requires refl c.grow.ensures.lits c.grow.ensures.fars c.grow.ensures.kept
    (stands_alike _ _ _ _ (λ k. ap (λ (l : Listed). l.watches) (c.grow.ensures.same k))) (record { each = λ k. omega (arith, ap (λ (l : Listed). l.room) (c.grow.ensures.same k)) }) refl refl
