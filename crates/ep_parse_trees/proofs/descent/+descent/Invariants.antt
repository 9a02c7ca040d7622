-- The height counts down.
use Rattle.ep_parse_trees.proofs.descent.+descent.Given as goal

abbrev pub decreases-domain : goal.decreases-domain
decreases-domain l = l.most

abbrev pub decreases-expr : goal.decreases-expr
decreases-expr l = l.most

abbrev pub decreases-domain-closure : goal.decreases-domain-closure
decreases-domain-closure l = l.less

abbrev pub decreases-domain-closure+2 : goal.decreases-domain-closure+2
decreases-domain-closure+2 l = l.less

abbrev pub decreases-expr-closure : goal.decreases-expr-closure
decreases-expr-closure l = l.less

abbrev pub decreases-expr-closure+2 : goal.decreases-expr-closure+2
decreases-expr-closure+2 l = l.less
