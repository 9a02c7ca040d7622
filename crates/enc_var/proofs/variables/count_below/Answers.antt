use Rattle.std.proofs.Common.{rules, int_lt}
use Rattle.std.proofs.lemmas.List.Sorted.{IsPartitionPoint-from_clause}
use Rattle.enc_var.specs.Decoding.{values_below}
use Rattle.enc_var.proofs.Counts.{parted_below, passed_at}
use Rattle.enc_var.proofs.variables.count_below.Goals as goal

pub returns-clause-count : goal.returns-clause-count
unfolding values_below
returns-clause-count c =
    let v = c.args.v in
    let xs = c.args.values.now in
    let at = IsPartitionPoint-from_clause (λ w. int_lt w v) xs c.partition_point.result c.partition_point.ensures.partitioned (parted_below xs v c.requires) (λ x b f' k. search rules) in
    passed_at (λ w. int_lt w v) xs c.partition_point.result c.partition_point.ensures.bound at.0 at.1
