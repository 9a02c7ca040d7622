use Rattle.std.proofs.Common.{◌≡◌, ℕ, ◌<◌, length, subst, get_or, arith}
use Rattle.enc_atoms.specs.Atoms.{Adds}
use Rattle.enc_atoms.proofs.Guards.{adds_below_more, adds_below_none}
use Rattle.enc_atoms.specs.Steps.{Unless}
use Rattle.enc_table.specs.Rows.{IsSupported}
use Rattle.enc_table.proofs.tables.add_all_supports.Goals as goal

pub loop-place-init : goal.loop-place-init
loop-place-init c = adds_below_none c.args.layout.now c.args.f.now (λ values j. Unless c.args.guard.now (IsSupported c.args.truths.now c.args.rows.now j (get_or c.args.vars.now j 0)) values) c.requires.ready.is_layout c.requires.ready.from_new

pub loop-place-preserved : goal.loop-place-preserved
loop-place-preserved c =
    adds_below_more c.args.layout.now c.args.f.now c.loop-place.f c.args.layout.now c.add_supports.new.f (λ values j. Unless c.args.guard.now (IsSupported c.args.truths.now c.args.rows.now j (get_or c.args.vars.now j 0)) values) c.loop-place.place c.requires.ready.is_layout c.loop-place.invariant c.in_ok-add_supports.ensures

pub returns : goal.returns
returns c =
    let all : c.loop-place.place ≡ length c.args.vars.now = omega arith in
    subst (λ m. Adds c.args.layout.now c.args.f.now c.args.layout.now c.loop-place.f (λ values. (j : ℕ) → j < m → Unless c.args.guard.now (IsSupported c.args.truths.now c.args.rows.now j (get_or c.args.vars.now j 0)) values)) all c.loop-place.invariant
