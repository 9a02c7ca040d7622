use Rattle.std.proofs.Common.{take}
use Rattle.std.specs.Prelude.{map}
use Rattle.std.specs.List.{All}
use Rattle.ep_flat.specs.FlatViews.{plain_con}
use Rattle.ep_flat.specs.Flats.{NamesBelow}
use Rattle.enc_all_tests.proofs.sound.all_name_below.Given as goal

abbrev pub invariant-loop-con : goal.invariant-loop-con
invariant-loop-con l = All (NamesBelow l.count) (map plain_con (take l.con-index l.cons))
