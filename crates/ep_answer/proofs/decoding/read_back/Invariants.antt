use Rattle.std.proofs.Common.{◌≡◌}
use Rattle.std.specs.Prelude.{take}
use Rattle.ep_flat.specs.Cons.{numbers_of_vars}
use Rattle.enc_var.specs.Layouts.{decoded_values}
use Rattle.ep_answer.specs.Searches.{kept_values}
use Rattle.ep_answer.proofs.decoding.read_back.Given as goal

abbrev pub invariant-loop-var : goal.invariant-loop-var
invariant-loop-var l = l.found.items ≡ numbers_of_vars (decoded_values l.fn.layout (kept_values l.fn.solver)) (take l.var-index l.fn.vars)
