use Rattle.ep_eval.proofs.Words.{◌≡◌, take, map, scalars_of, value_tree}
use Rattle.ep_eval.proofs.operands.plain_rows.Given as goal

abbrev pub invariant-loop-part : goal.invariant-loop-part
invariant-loop-part l = map (λ v. v.items) l.rows.items ≡ map (λ v. scalars_of (value_tree v)) (take l.part-index l.part-items)
