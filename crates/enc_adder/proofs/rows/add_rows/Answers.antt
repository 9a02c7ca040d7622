use Rattle.std.proofs.Common.{pos}
use Rattle.enc_atoms.proofs.Adding.{adds_all, adds_none, adds_one_more}
use Rattle.enc_adder.specs.Bits.{Follows, Row}
use Rattle.enc_adder.proofs.rows.add_rows.Goals as goal

pub loop-row-init : goal.loop-row-init
loop-row-init c = adds_none c.args.layout.now c.args.f.now (λ values (r : Row). Follows values r) c.args.rows.now c.requires.ready.is_layout c.requires.ready.from_new

pub loop-row-preserved : goal.loop-row-preserved
loop-row-preserved c =
    adds_one_more c.args.layout.now c.args.f.now c.loop-row.f c.args.layout.now c.add_row.new.f (λ values (r : Row). Follows values r) c.args.rows.now c.loop-row.row-index ((0, pos 0), (0, pos 0), (0, pos 0), (0, pos 0)) c.requires.ready.is_layout c.loop-row-test.true c.loop-row.invariant c.in_ok-add_row.ensures

pub returns : goal.returns
returns c = adds_all c.args.layout.now c.args.f.now c.args.layout.now c.loop-row.f (λ values (r : Row). Follows values r) c.args.rows.now c.loop-row.row-index c.loop-row-test.false c.loop-row.invariant
