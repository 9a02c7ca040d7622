use Rattle.std.proofs.Common.{◌≡◌, ◌∙◌, ℤ, pos, None, ap, get_or, w64, to_z, of_z, rules}
use Rattle.std.proofs.lemmas.Int.{to_z-of_z}
use Rattle.enc_count.proofs.Counting.{numbers_end, numbers_step}
use Rattle.enc_count.specs.declared.counts.Wanted.{Wanted}
use Rattle.enc_count.proofs.counts.with_numbers.Goals as goal

pub loop-k-preserved : goal.loop-k-preserved
loop-k-preserved c =
    let k = c.loop-k.k in
    let n : ℤ = get_or c.args.numbers.now k (pos 0) in
    let m : ℤ = get_or c.args.counts.now k (pos 0) in
    let whole : to_z w64 (of_z w64 n) ≡ n = to_z-of_z w64 n (search rules) in
    let other_whole : to_z w64 (of_z w64 m) ≡ m = to_z-of_z w64 m (search rules) in
    numbers_step c.loop-k.wanted.items c.push.new.self.items _ c.args.numbers.now c.args.counts.now k (record { value = to_z w64 (of_z w64 n); var = None; count = to_z w64 (of_z w64 m) }) c.loop-k-test.true c.requires c.loop-k.invariant
    (ap {B = Wanted} (λ (w : ℤ). record { value = w; var = None; count = to_z w64 (of_z w64 m) }) whole ∙ ap {B = Wanted} (λ (w : ℤ). record { value = n; var = None; count = w }) other_whole) c.in_ok-push.ensures.items

pub returns : goal.returns
returns c = numbers_end c.loop-k.wanted.items _ c.args.numbers.now c.args.counts.now c.loop-k.k c.loop-k-test.false c.loop-k.invariant
