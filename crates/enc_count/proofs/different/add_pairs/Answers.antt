use Rattle.std.proofs.Common.{ℕ}
use Rattle.enc_atoms.proofs.Adding.{adds_all, adds_none, adds_one_more}
use Rattle.enc_atoms.proofs.Guards.{unless_all}
use Rattle.enc_atoms.specs.Steps.{Unless}
use Rattle.enc_count.specs.Different.{Differ}
use Rattle.enc_count.proofs.different.add_pairs.Goals as goal

pub loop-pair-init : goal.loop-pair-init
loop-pair-init c = adds_none c.args.layout.now c.args.f.now (λ values (p : ℕ × ℕ). Unless c.args.guard.now (Differ p) values) c.args.pairs.now c.requires.ready.is_layout c.requires.ready.from_new

pub loop-pair-preserved : goal.loop-pair-preserved
loop-pair-preserved c =
    adds_one_more c.args.layout.now c.args.f.now c.loop-pair.f c.args.layout.now c.add_apart.new.f (λ values (p : ℕ × ℕ). Unless c.args.guard.now (Differ p) values) c.args.pairs.now c.loop-pair.pair-index (0, 0) c.requires.ready.is_layout c.loop-pair-test.true c.loop-pair.invariant c.in_ok-add_apart.ensures

pub returns : goal.returns
returns c =
    unless_all c.args.layout.now c.args.f.now c.args.layout.now c.loop-pair.f c.args.guard.now (λ values (p : ℕ × ℕ). Differ p values) c.args.pairs.now c.requires.ready.is_layout
    (adds_all c.args.layout.now c.args.f.now c.args.layout.now c.loop-pair.f (λ values (p : ℕ × ℕ). Unless c.args.guard.now (Differ p) values) c.args.pairs.now c.loop-pair.pair-index c.loop-pair-test.false c.loop-pair.invariant)
