use Rattle.std.proofs.Common.{◌≡◌, take}
use Rattle.std.specs.List.{All}
use Rattle.enc_atoms.specs.Atoms.{Adds}
use Rattle.ep_flat.specs.Cons.{number_at}
use Rattle.enc_adder.specs.Parts.{low_bit}
use Rattle.enc_adder.proofs.parts.add_low_bits.Given as goal

abbrev pub invariant-loop-step : goal.invariant-loop-step
invariant-loop-step l = Adds l.layout l.initial.f l.layout l.f (λ values. All (λ step. number_at values l.var ≡ step.value → number_at values l.bit ≡ low_bit step.worth) (take l.step-index l.steps))
