use Rattle.sat_search.proofs.places.Places.next_below.Given as goal

abbrev pub decreases-loop-bits : goal.decreases-loop-bits
decreases-loop-bits l = l.index
