use Rattle.sat_search.proofs.minimal.+has_implied_reason.Given as goal

abbrev pub decreases-has_implied_reason : goal.decreases-has_implied_reason
decreases-has_implied_reason l = l.depth
