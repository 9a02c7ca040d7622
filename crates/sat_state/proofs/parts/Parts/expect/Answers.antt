use Rattle.std.proofs.Common.{ap, refl, arith}
use Rattle.sat_state.specs.Listed.{Listed}
use Rattle.sat_state.proofs.Going.{joined_same, stands_alike}
use Rattle.sat_state.proofs.parts.Parts.expect.Goals as goal

pub returns-then-code-lists-clause-joined : goal.returns-then-code-lists-clause-joined
returns-then-code-lists-clause-joined c =
    let made = c.expect.ensures in
    joined_same c.args.self.now _ c.requires refl made.lits made.fars (omega (arith, made.lists)) (stands_alike _ _ _ _ (λ code. ap (λ (l : Listed). l.watches) (made.same code)))
    (record { each = λ code. omega (arith, ap (λ (l : Listed). l.room) (made.same code)) }) refl refl
