use Rattle.std.proofs.Common.{pos, ◌≢◌, inr, arith}
use Rattle.std.proofs.lemmas.Int.{ints}
use Rattle.enc_linear.specs.Guards.{Unless}
use Rattle.enc_linear.proofs.Turns.{nothing_new}
use Rattle.enc_linear.proofs.apart.add_none_apart.Goals as goal

pub returns-then-number-lt0 : goal.returns-then-number-lt0
returns-then-number-lt0 c =
    nothing_new c.args.layout.now c.args.f.now (Unless c.args.guards.now (λ values. pos 0 ≢ c.args.number)) c.requires.is_layout c.requires.from_new (λ values among. inr (λ e. absurd (omega (arith, ints, e))))

pub returns-then-number-gt0 : goal.returns-then-number-gt0
returns-then-number-gt0 c =
    nothing_new c.args.layout.now c.args.f.now (Unless c.args.guards.now (λ values. pos 0 ≢ c.args.number)) c.requires.is_layout c.requires.from_new (λ values among. inr (λ e. absurd (omega (arith, ints, e))))
