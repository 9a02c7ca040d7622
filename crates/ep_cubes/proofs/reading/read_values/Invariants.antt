use Rattle.std.proofs.Common.{◌≡◌, take}
use Rattle.ep_flat.specs.Cons.{numbers_of_vars}
use Rattle.enc_var.specs.Layouts.{decoded_values}
use Rattle.sat_cubes.specs.Answers.{is_variable_true}
use Rattle.ep_cubes.proofs.reading.read_values.Given as goal

abbrev pub invariant-loop-var : goal.invariant-loop-var
invariant-loop-var l = l.found.items ≡ numbers_of_vars (decoded_values l.layout (is_variable_true l.values)) (take l.var-index l.vars)
