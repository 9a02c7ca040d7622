use Rattle.std.proofs.Common.{◌≡◌, ℤ, pos, List, length, subst, get_or, w64, to_z, of_z, rules, arith}
use Rattle.std.proofs.lemmas.Int.{to_z-of_z}
use Rattle.ep_flat.specs.Cons.{number_at}
use Rattle.enc_atoms.specs.Atoms.{Adds}
use Rattle.enc_atoms.proofs.Guards.{adds_below_more, adds_below_none}
use Rattle.enc_atoms.specs.Steps.{Unless}
use Rattle.enc_table.proofs.RowLemmas.{row_whole}
use Rattle.enc_table.proofs.tables.add_row.Goals as goal

pub loop-k-init : goal.loop-k-init
loop-k-init c = adds_below_none c.args.layout.now c.args.f.now (λ values j. Unless c.args.guard.now (λ vs. number_at vs (get_or c.args.vars.now j 0) ≡ get_or c.args.row.now j (pos 0)) values) c.requires.ready.is_layout c.requires.ready.from_new

pub loop-k-preserved : goal.loop-k-preserved
loop-k-preserved c =
    let L = c.args.layout.now in
    let k = c.loop-k.k in
    let row : List ℤ = c.args.row.now in
    let n : ℤ = get_or row k (pos 0) in
    let whole : to_z w64 (of_z w64 n) ≡ n = to_z-of_z w64 n (search rules) in
    adds_below_more L c.args.f.now c.loop-k.f L c.add_is.new.f (λ values j. Unless c.args.guard.now (λ vs. number_at vs (get_or c.args.vars.now j 0) ≡ get_or row j (pos 0)) values) k c.requires.ready.is_layout c.loop-k.invariant
    (subst (λ (w : ℤ). Adds L c.loop-k.f L c.add_is.new.f (Unless c.args.guard.now (λ vs. number_at vs (get_or c.args.vars.now k 0) ≡ w))) whole c.in_ok-add_is.ensures)

pub returns : goal.returns
returns c =
    let all : c.loop-k.k ≡ length c.args.row.now = omega arith in
    row_whole c.args.layout.now c.args.f.now c.loop-k.f c.args.guard.now c.args.vars.now c.args.row.now c.loop-k.k c.requires.ready.is_layout c.requires.fits all c.loop-k.invariant
