use Rattle.std.proofs.Common.{◌<◌, [], length, get_or, arith}
use Rattle.std.proofs.lemmas.Bool.Decides.{nat_tests}
use Rattle.enc_arith.specs.Entries.{plain_entry}
use Rattle.enc_arith.specs.declared.elements.Entry.{Entry}
use Rattle.enc_arith.proofs.Entries.{whole_found, whole_later, whole_none}
use Rattle.enc_arith.proofs.elements.whole.Goals as goal

pub returns-then-is_empty : goal.returns-then-is_empty
returns-then-is_empty c = whole_found plain_entry _ c.args.entries.now c.loop-one.one-index _ c.loop-one-test.true c.loop-one.invariant (grind (arith, nat_tests, c.is_empty.ensures, c.if-is_empty.true))

pub loop-one-preserved : goal.loop-one-preserved
loop-one-preserved c =
    let d : Entry = record { key = record { ref_ptr = (0, 0); now = [] }; part = 0 } in
    let long : 0 < length (get_or c.args.entries.now c.loop-one.one-index d).key.now = grind (arith, nat_tests, c.is_empty.ensures, c.if-is_empty.false) in
    whole_later plain_entry _ c.args.entries.now c.loop-one.one-index d c.loop-one-test.true c.loop-one.invariant long

pub returns : goal.returns
returns c = whole_none plain_entry _ c.args.entries.now c.loop-one.one-index c.loop-one-test.false c.loop-one.invariant
