use Rattle.std.proofs.Common.{take}
use Rattle.std.specs.List.{All}
use Rattle.ep_simplify.specs.Settling.{IsTruthNumber}
use Rattle.ep_simplify.proofs.settling.has_said.Given as goal

abbrev pub invariant-loop-part : goal.invariant-loop-part
invariant-loop-part l = All (λ t. IsTruthNumber l.news.arena l.asked t → ⊥) (take l.part-index l.parts)
