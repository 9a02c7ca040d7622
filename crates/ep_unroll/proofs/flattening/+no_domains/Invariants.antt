use Rattle.ep_unroll.proofs.Words.{length}
use Rattle.ep_unroll.proofs.flattening.+no_domains.Given as goal

abbrev pub decreases-no_domains : goal.decreases-no_domains
decreases-no_domains l = length l.domains.now
