use Rattle.std.proofs.Common.{◌≡◌, ℤ, refl, w64, to_z, of_z, arith}
use Rattle.std.proofs.lemmas.Int.{ints, to_z-of_z}
use Rattle.std.proofs.lemmas.Result.{on_ok_weaker}
use Rattle.enc_count.proofs.Counting.{mark_whole}
use Rattle.enc_count.proofs.counts.add_mark.Goals as goal

pub returns : goal.returns
returns c =
    let v : ℤ = c.args.number in
    let whole : to_z w64 (of_z w64 v) ≡ v = to_z-of_z w64 v (omega (arith, ints)) in
    on_ok_weaker c.add_implied-2.result
    (mark_whole c.args.layout.now c.args.f.now c.add_implied.new.f c.add_implied-2.new.f _ _ c.args.mark c.args.var v _ _ c.requires.ready.is_layout refl refl whole whole c.in_ok-add_implied.ensures)
    c.add_implied-2.ensures
