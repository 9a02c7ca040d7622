use Rattle.ep_size.proofs.Words.{length}
use Rattle.ep_size.proofs.slices.+domains_left.Given as goal

abbrev pub decreases-domains_left : goal.decreases-domains_left
decreases-domains_left l = length l.indices.now
