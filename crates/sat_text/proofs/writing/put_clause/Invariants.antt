use Rattle.std.proofs.Common.{◌≡◌, ◌++◌, ◌∷◌, [], take}
use Rattle.std.specs.Fmt.{signed_decimal}
use Rattle.std.specs.List.{flat_map}
use Rattle.sat_text.specs.Clauses.{number_of}
use Rattle.sat_text.proofs.writing.put_clause.Given as goal

abbrev pub invariant-loop-lit : goal.invariant-loop-lit
invariant-loop-lit l = l.out.items ≡ l.initial.out.items ++ flat_map (λ x. signed_decimal (number_of x) ++ 32 ∷ []) (take l.lit-index l.clause)
