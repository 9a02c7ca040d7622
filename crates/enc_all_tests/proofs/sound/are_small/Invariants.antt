use Rattle.std.proofs.Common.{take}
use Rattle.ep_flat.specs.Flats.{HaveSmallNumbers}
use Rattle.enc_all_tests.proofs.sound.are_small.Given as goal

abbrev pub invariant-loop-domain : goal.invariant-loop-domain
invariant-loop-domain l = HaveSmallNumbers (take l.domain-index l.domains)
