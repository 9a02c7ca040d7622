use Rattle.std.proofs.Common.{take}
use Rattle.std.specs.List.{All}
use Rattle.enc_all_tests.proofs.Small.{HasSmallEnds}
use Rattle.enc_all_tests.proofs.sound.is_small.Given as goal

abbrev pub invariant-loop-run : goal.invariant-loop-run
invariant-loop-run l = All HasSmallEnds (take l.run-index l.parts)
