use Rattle.std.proofs.Common.{◌≡◌, ◌++◌, map, take}
use Rattle.opb_text.proofs.variables.push_variables.Given as goal

abbrev pub invariant-loop-term : goal.invariant-loop-term
invariant-loop-term l = l.named.items ≡ l.initial.named.items ++ map (λ t. t.var) (take l.term-index l.terms)
