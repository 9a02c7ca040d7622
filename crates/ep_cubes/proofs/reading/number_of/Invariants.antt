use Rattle.std.proofs.Common.{◌≡◌, drop}
use Rattle.enc_var.specs.Decoding.{decoded}
use Rattle.enc_var.specs.Layouts.{literals_at}
use Rattle.sat_cubes.specs.Answers.{is_variable_true}
use Rattle.ep_cubes.proofs.Told.{first_told}
use Rattle.ep_cubes.proofs.reading.number_of.Given as goal

abbrev pub invariant-loop-number : goal.invariant-loop-number
invariant-loop-number l =
    first_told (is_variable_true l.values) (literals_at l.layout l.var) (drop l.number-index l.number-items) ≡ decoded (is_variable_true l.values) (literals_at l.layout l.var)
