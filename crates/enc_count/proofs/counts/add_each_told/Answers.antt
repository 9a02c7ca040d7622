use Rattle.std.proofs.Common.{ℕ, pos, refl, get_or}
use Rattle.enc_atoms.proofs.Adding.{adds_all, adds_none, adds_one_more}
use Rattle.enc_atoms.specs.Steps.{Implied}
use Rattle.enc_count.proofs.Counting.{unless_nothing}
use Rattle.enc_count.proofs.counts.add_each_told.Goals as goal

pub loop-one-init : goal.loop-one-init
loop-one-init c = adds_none c.args.layout.now c.args.f.now (λ values (d : ℕ). Implied c.args.truth (pos 1) d (pos 1) values) c.args.told.now c.requires.ready.is_layout c.requires.ready.from_new

pub loop-one-preserved : goal.loop-one-preserved
loop-one-preserved c =
    let L = c.args.layout.now in
    let k = c.loop-one.one-index in
    adds_one_more L c.args.f.now c.loop-one.f L c.add_implied.new.f (λ values (d : ℕ). Implied c.args.truth (pos 1) d (pos 1) values) c.args.told.now k 0 c.requires.ready.is_layout c.loop-one-test.true c.loop-one.invariant
    (unless_nothing L c.loop-one.f L c.add_implied.new.f _ (Implied c.args.truth (pos 1) (get_or c.args.told.now k 0) (pos 1)) c.loop-one.invariant.goes_on.is_layout refl c.in_ok-add_implied.ensures)

pub returns : goal.returns
returns c = adds_all c.args.layout.now c.args.f.now c.args.layout.now c.loop-one.f (λ values (d : ℕ). Implied c.args.truth (pos 1) d (pos 1) values) c.args.told.now c.loop-one.one-index c.loop-one-test.false c.loop-one.invariant
