use Rattle.std.proofs.Common.{length, rules, int_lt}
use Rattle.std.proofs.lemmas.List.Sorted.{IsPartitionPoint-from_clause}
use Rattle.enc_linear.specs.declared.terms.Step.{Step}
use Rattle.enc_linear.proofs.Ladders.{parted_falling, within_more, within_up_to}
use Rattle.enc_linear.proofs.terms.count_above.Goals as goal

pub returns-clause-before : goal.returns-clause-before
returns-clause-before c =
    let most = c.args.most in
    let xs = c.args.steps.now in
    let at = IsPartitionPoint-from_clause (λ (step : Step). int_lt most step.worth) xs c.partition_point.result c.partition_point.ensures.partitioned (parted_falling xs most c.requires) (λ x b f' k. search rules) in
    within_more xs most 0 c.partition_point.result at.0

pub returns-clause-behind : goal.returns-clause-behind
returns-clause-behind c =
    let most = c.args.most in
    let xs = c.args.steps.now in
    let at = IsPartitionPoint-from_clause (λ (step : Step). int_lt most step.worth) xs c.partition_point.result c.partition_point.ensures.partitioned (parted_falling xs most c.requires) (λ x b f' k. search rules) in
    within_up_to xs most c.partition_point.result (length xs) at.1
