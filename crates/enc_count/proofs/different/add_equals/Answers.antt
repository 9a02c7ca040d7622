use Rattle.std.proofs.Common.{◌≡◌, ℕ, ◌<◌, subst, get_or, length, arith}
use Rattle.enc_atoms.specs.Atoms.{Adds}
use Rattle.enc_atoms.proofs.Guards.{adds_below_more, adds_below_none}
use Rattle.enc_count.specs.Different.{AreEqual}
use Rattle.enc_count.proofs.different.add_equals.Goals as goal

pub loop-k-init : goal.loop-k-init
loop-k-init c = adds_below_none c.args.layout.now c.args.f.now (λ values j. AreEqual (get_or c.args.truths.now j 0) (get_or c.args.pairs.now j (0, 0)) values) c.requires.ready.is_layout c.requires.ready.from_new

pub loop-k-preserved : goal.loop-k-preserved
loop-k-preserved c =
    adds_below_more c.args.layout.now c.args.f.now c.loop-k.f c.args.layout.now c.add_equal.new.f (λ values j. AreEqual (get_or c.args.truths.now j 0) (get_or c.args.pairs.now j (0, 0)) values) c.loop-k.k c.requires.ready.is_layout c.loop-k.invariant c.in_ok-add_equal.ensures

pub returns : goal.returns
returns c =
    let all : c.loop-k.k ≡ length c.args.pairs.now = omega arith in
    subst (λ m. Adds c.args.layout.now c.args.f.now c.args.layout.now c.loop-k.f (λ values. (j : ℕ) → j < m → AreEqual (get_or c.args.truths.now j 0) (get_or c.args.pairs.now j (0, 0)) values)) all c.loop-k.invariant
