use Rattle.std.proofs.Common.{arith}
use Rattle.std.proofs.lemmas.Int.{ints}
use Rattle.enc_linear.proofs.Ladders.{gives}
use Rattle.enc_linear.proofs.Reading.{height_other}
use Rattle.enc_linear.proofs.sources.unless_other_height.Goals as goal

pub returns : goal.returns
returns c =
    let g = gives _ _ _ c.in_ok-under.under c.checked_sub.ensures c.in_ok-under.ensures.ok_part in
    height_other c.args.ladder c.args.number _ _ c.args.guards.now c.in_ok-atoms.atoms.items c.deref.result.now c.in_ok-longer.longer.items c.in_ok-fewer.fewer c.in_ok-more.more
    c.in_ok-fewer.ensures (omega (arith, ints, g)) c.in_ok-atoms.ensures c.deref.ensures.value c.in_ok-more.ensures (omega (arith, ints)) c.in_ok-longer.ensures
