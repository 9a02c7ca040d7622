use Rattle.std.proofs.Common.{◌≡◌, ℕ, ◌<◌, ℤ, length, subst, get_or, w64, to_z, of_z, arith}
use Rattle.std.proofs.lemmas.Int.{ints, to_z-of_z}
use Rattle.enc_atoms.specs.Atoms.{Adds}
use Rattle.enc_atoms.proofs.Guards.{adds_below_more, adds_below_none}
use Rattle.enc_count.specs.Counts.{IsMark}
use Rattle.enc_count.proofs.counts.add_marks.Goals as goal

pub loop-k-init : goal.loop-k-init
loop-k-init c = adds_below_none c.args.layout.now c.args.f.now (λ values j. IsMark (get_or c.args.marks.now j 0) (get_or c.args.vars.now j 0) (to_z w64 (of_z w64 c.args.number)) values) c.requires.ready.is_layout c.requires.ready.from_new

pub add_mark-requires-clause-mark : goal.add_mark-requires-clause-mark
add_mark-requires-clause-mark c = c.requires.marks c.loop-k.k 0 (omega arith)

pub add_mark-requires-clause-var : goal.add_mark-requires-clause-var
add_mark-requires-clause-var c = c.requires.vars c.loop-k.k 0 (omega arith)

pub loop-k-preserved : goal.loop-k-preserved
loop-k-preserved c =
    adds_below_more c.args.layout.now c.args.f.now c.loop-k.f c.args.layout.now c.add_mark.new.f (λ values j. IsMark (get_or c.args.marks.now j 0) (get_or c.args.vars.now j 0) (to_z w64 (of_z w64 c.args.number)) values) c.loop-k.k c.requires.ready.is_layout c.loop-k.invariant c.in_ok-add_mark.ensures

pub returns : goal.returns
returns c =
    let all : c.loop-k.k ≡ length c.args.vars.now = omega arith in
    let v : ℤ = c.args.number in
    let whole : to_z w64 (of_z w64 v) ≡ v = to_z-of_z w64 v (omega (arith, ints)) in
    subst (λ (w : ℤ). Adds c.args.layout.now c.args.f.now c.args.layout.now c.loop-k.f (λ values. (j : ℕ) → j < length c.args.vars.now → IsMark (get_or c.args.marks.now j 0) (get_or c.args.vars.now j 0) w values)) whole
    (subst (λ m. Adds c.args.layout.now c.args.f.now c.args.layout.now c.loop-k.f (λ values. (j : ℕ) → j < m → IsMark (get_or c.args.marks.now j 0) (get_or c.args.vars.now j 0) (to_z w64 (of_z w64 v)) values)) all c.loop-k.invariant)
