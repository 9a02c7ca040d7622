use Rattle.enc_all.proofs.Telling.{part_is}
use Rattle.enc_all.specs.Parts.{test_of}
use Rattle.std.proofs.Common.{true, false}
use Rattle.enc_all.proofs.truths.atom_of.Goals as goal

pub returns-then-part : goal.returns-then-part
unfolding test_of
returns-then-part c = part_is c.args.part true c.is.result c.if-part.true c.is.ensures

pub returns-else-part : goal.returns-else-part
unfolding test_of
returns-else-part c = part_is c.args.part false c.is_not.result c.if-part.false c.is_not.ensures
