use Rattle.std.proofs.Common.{◌≡◌, take}
use Rattle.ep_simplify.specs.Settling.{open_parts}
use Rattle.ep_simplify.proofs.settling.open_parts.Given as goal

abbrev pub invariant-loop-part : goal.invariant-loop-part
invariant-loop-part l = l.rest.items ≡ open_parts l.news.arena (take l.part-index l.parts)
