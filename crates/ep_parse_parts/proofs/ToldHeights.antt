-- Heights as they are counted.
use Rattle.std.specs.Prelude.{◌≡◌, ℕ, ◌+◌, ◌-◌, ◌^◌, ◌<◌, ◌≤◌, min, max, nat_lt, Bool, true, false, refl}
use Rattle.std.proofs.Common.{ap, sym, ◌∙◌, arith}
use Rattle.std.proofs.lemmas.Bool.Decides.{nat_tests}
use Rattle.ep_parse_parts.specs.Founds.{told}

pub told_more : (h height r : ℕ) → height ≡ told h → r ≡ min (height + 1) 18446744073709551615 → r ≡ told (1 + h)
unfolding told
told_more h height r e f = omega (arith, e, f)

pub told_max : (h k one other : ℕ) → one ≡ told h → other ≡ told k → max one other ≡ told (max h k)
unfolding told
told_max h k one other e f = omega (arith, e, f)

pub told_below : (h height most : ℕ) → height ≡ told h → most < 18446744073709551616 → nat_lt height most ≡ nat_lt h most
unfolding told
told_below h height most e f = grind (arith, nat_tests, e, f)
