use Rattle.std.proofs.Common.{◌≡◌, ℤ, pos, Some, ap, get_or, w64, to_z, of_z, rules}
use Rattle.std.proofs.lemmas.Int.{to_z-of_z}
use Rattle.enc_count.proofs.Counting.{vars_end, vars_step}
use Rattle.enc_count.specs.declared.counts.Wanted.{Wanted}
use Rattle.enc_count.proofs.counts.with_vars.Goals as goal

pub loop-k-preserved : goal.loop-k-preserved
loop-k-preserved c =
    let k = c.loop-k.k in
    let n : ℤ = get_or c.args.numbers.now k (pos 0) in
    let whole : to_z w64 (of_z w64 n) ≡ n = to_z-of_z w64 n (search rules) in
    vars_step c.loop-k.wanted.items c.push.new.self.items _ c.args.numbers.now c.args.counts.now k (record { value = to_z w64 (of_z w64 n); var = Some (get_or c.args.counts.now k 0); count = pos 0 }) c.loop-k-test.true c.requires c.loop-k.invariant
    (ap {B = Wanted} (λ (w : ℤ). record { value = w; var = Some (get_or c.args.counts.now k 0); count = pos 0 }) whole) c.in_ok-push.ensures.items

pub returns : goal.returns
returns c = vars_end c.loop-k.wanted.items _ c.args.numbers.now c.args.counts.now c.loop-k.k c.loop-k-test.false c.loop-k.invariant
