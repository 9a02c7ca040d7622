use Rattle.std.proofs.Common.{rules, int_le}
use Rattle.std.proofs.lemmas.List.Sorted.{IsPartitionPoint-from_clause}
use Rattle.enc_var.specs.Decoding.{values_up_to}
use Rattle.enc_var.proofs.Counts.{parted_up_to, passed_at}
use Rattle.enc_var.proofs.variables.count_up_to.Goals as goal

pub returns-clause-count : goal.returns-clause-count
unfolding values_up_to
returns-clause-count c =
    let v = c.args.v in
    let xs = c.args.values.now in
    let at = IsPartitionPoint-from_clause (λ w. int_le w v) xs c.partition_point.result c.partition_point.ensures.partitioned (parted_up_to xs v c.requires) (λ x b f' k. search rules) in
    passed_at (λ w. int_le w v) xs c.partition_point.result c.partition_point.ensures.bound at.0 at.1
