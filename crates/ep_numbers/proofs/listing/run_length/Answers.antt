use Rattle.std.proofs.Common.{◌∙◌, pos, ◌+ℤ◌, ◌-ℤ◌, sym, arith}
use Rattle.std.proofs.lemmas.Int.{ints}
use Rattle.ep_base.proofs.RunEnds.{or_zero_is}
use Rattle.ep_numbers.proofs.Counting.{length_of_run}
use Rattle.ep_numbers.proofs.listing.run_length.Goals as goal

pub returns-clause-length : goal.returns-clause-length
returns-clause-length c =
    sym (length_of_run c.args.run ∙ or_zero_is ((c.args.run.hi +ℤ pos 1) -ℤ c.args.run.lo) _ (omega (arith, ints)))
