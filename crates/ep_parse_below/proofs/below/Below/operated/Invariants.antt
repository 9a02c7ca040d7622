-- What was read so far, and what is still read, are the whole chain.
use Rattle.std.proofs.Common.{◌≡◌, length}
use Rattle.ep_parse_below.proofs.below.Below.operated.Given as goal
use Rattle.ep_parse_parts.specs.DomainReaders.{another_operation}
use Rattle.ep_parse_parts.specs.Founds.{MeasuredDomain, lower}
use Rattle.ep_parse_parts.specs.Readers.{grown}
use Rattle.ep_tree.specs.Views.{domain_tree}

abbrev pub invariant-loop-op : goal.invariant-loop-op
invariant-loop-op g l =
    record {
      measured : MeasuredDomain l.left;
      whole : grown (another_operation l.self.most (lower l.self.most)) (domain_tree l.left.domain) l.cursor
          ≡ grown (another_operation l.self.most (lower l.self.most)) (domain_tree l.fn.first.domain) l.fn.cursor;
    }

abbrev pub decreases-loop-op : goal.decreases-loop-op
decreases-loop-op g l = length l.cursor
