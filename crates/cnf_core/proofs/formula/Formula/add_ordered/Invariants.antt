use Rattle.std.specs.Prelude.{All, take}
use Rattle.cnf_core.specs.Literal.{IsVariable}
use Rattle.cnf_core.proofs.formula.Formula.add_ordered.Given as goal

abbrev pub invariant-loop-lit : goal.invariant-loop-lit
invariant-loop-lit l = All (λ literal. IsVariable literal.var) (take l.lit-index l.clause)
