use Rattle.std.proofs.Common.{pos, ◌≤ℤ◌, inr, arith}
use Rattle.std.proofs.lemmas.Int.{ints}
use Rattle.enc_linear.specs.Guards.{Unless}
use Rattle.enc_linear.proofs.Turns.{nothing_new}
use Rattle.enc_linear.proofs.sums.add_none.Goals as goal

pub returns-then-most-ge0 : goal.returns-then-most-ge0
returns-then-most-ge0 c =
    nothing_new c.args.layout.now c.args.f.now (Unless c.args.guards.now (λ values. pos 0 ≤ℤ c.args.most)) c.requires.is_layout c.requires.from_new (λ values among. inr (omega (arith, ints)))
