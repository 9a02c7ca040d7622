use Rattle.ep_unroll.proofs.Words.{◌≡◌, take, map, scalars_of, value_tree}
use Rattle.ep_unroll.proofs.fixed_lists.plain_rows.Given as goal

abbrev pub invariant-loop-part : goal.invariant-loop-part
invariant-loop-part l = l.rows.items ≡ map (λ v. scalars_of (value_tree v)) (take l.part-index l.part-items)
