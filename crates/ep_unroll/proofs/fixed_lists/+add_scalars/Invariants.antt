use Rattle.ep_unroll.proofs.Words.{◌≡◌, ◌++◌, drop, scalars_of_all, values_from}
use Rattle.ep_unroll.proofs.fixed_lists.+add_scalars.Given as goal

abbrev pub invariant-loop-part : goal.invariant-loop-part
invariant-loop-part l = l.scalars.items ++ scalars_of_all (values_from (drop l.part-index l.part-items)) ≡ l.fn.scalars.items ++ scalars_of_all (values_from l.part-items)
