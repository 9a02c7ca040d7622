use Rattle.std.specs.Prelude.{All, take}
use Rattle.cnf_core.specs.Literal.{IsVariable}
use Rattle.sat_proof.proofs.order.put_in_order.Given as goal

abbrev pub invariant-loop-lit : goal.invariant-loop-lit
invariant-loop-lit l = All (λ literal. IsVariable literal.var) (take l.lit-index l.lit-items)
