use Rattle.std.proofs.Common.{◌<◌, take}
use Rattle.std.specs.Prelude.{map}
use Rattle.std.specs.List.{All}
use Rattle.enc_all_tests.proofs.sound.has_parts_below.Given as goal

abbrev pub invariant-loop-part : goal.invariant-loop-part
invariant-loop-part l = All (λ x. x < l.count) (map (λ p. p.1) (take l.part-index l.parts))
