-- What was read so far, and what is still read, are the whole chain.
use Rattle.std.proofs.Common.{◌≡◌, length}
use Rattle.ep_parse_trees.proofs.operators.chain.Given as goal
use Rattle.ep_parse_parts.specs.Founds.{Measured, lower}
use Rattle.ep_parse_parts.specs.Openings.{right_of, words_of}
use Rattle.ep_parse_parts.specs.OperatorReaders.{another_binary}
use Rattle.ep_parse_parts.specs.Readers.{grown}
use Rattle.ep_tree.specs.Views.{expr_tree}

abbrev pub invariant-loop-op : goal.invariant-loop-op
invariant-loop-op g l =
    record {
      measured : Measured l.left;
      whole : grown (another_binary l.below.most (lower l.below.most) (words_of l.chain) (right_of l.chain)) (expr_tree l.left.expr) l.cursor
          ≡ grown (another_binary l.below.most (lower l.below.most) (words_of l.chain) (right_of l.chain)) (expr_tree l.fn.first.expr) l.fn.cursor;
    }

abbrev pub decreases-loop-op : goal.decreases-loop-op
decreases-loop-op g l = length l.cursor
