use Rattle.std.proofs.Common.{take, ◌+ℤ◌}
use Rattle.std.specs.List.{All}
use Rattle.enc_atoms.specs.Atoms.{Adds}
use Rattle.enc_linear.specs.Terms.{worth_of}
use Rattle.enc_linear.proofs.Spreading.{HasRoom, Spread}
use Rattle.enc_linear.proofs.sums.add_three.Given as goal

abbrev pub invariant-loop-step : goal.invariant-loop-step
invariant-loop-step l =
    Adds l.layout l.fn.f l.layout l.f
    (λ values. HasRoom l.guards l.first l.room values × All (Spread l.guards l.first (λ vs. worth_of vs l.second +ℤ worth_of vs l.third) l.most values) (take l.step-index l.first.steps.items))
