use Rattle.ep_flatten.proofs.NodeKinds.{no_truth_left}
use Rattle.ep_flatten.proofs.constraints.truth_kind.Goals as goal

pub unreachable-requires : goal.unreachable-requires
unreachable-requires c =
    no_truth_left c.args.node.now c.requires c.in_default.not-Compare c.in_default.not-Lex c.in_default.not-Member c.in_default.not-Not c.in_default.not-And c.in_default.not-Or c.in_default.not-Iff c.in_default.not-AllDiff
    c.in_default.not-Gcc c.in_default.not-AtLeast c.in_default.not-AtMost c.in_default.not-Table
