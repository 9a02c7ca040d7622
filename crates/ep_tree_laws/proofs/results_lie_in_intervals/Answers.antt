use Rattle.ep_tree_laws.proofs.Intervals.{absolute_lies, greatest_lies, least_lies, negated_lies, power_lies, product_lies, products_lie, quotient_lies, remainder_lies, sum_lies}
use Rattle.ep_tree_laws.proofs.results_lie_in_intervals.Goals as goal

pub returns-clause-negated : goal.returns-clause-negated
returns-clause-negated c = negated_lies

pub returns-clause-absolute : goal.returns-clause-absolute
returns-clause-absolute c = absolute_lies

pub returns-clause-sums : goal.returns-clause-sums
returns-clause-sums c = sum_lies

pub returns-clause-least : goal.returns-clause-least
returns-clause-least c = least_lies

pub returns-clause-greatest : goal.returns-clause-greatest
returns-clause-greatest c = greatest_lies

pub returns-clause-products : goal.returns-clause-products
returns-clause-products c = product_lies

pub returns-clause-quotients : goal.returns-clause-quotients
returns-clause-quotients c = quotient_lies

pub returns-clause-remainders : goal.returns-clause-remainders
returns-clause-remainders c = remainder_lies

pub returns-clause-many : goal.returns-clause-many
returns-clause-many c = products_lie

pub returns-clause-powers : goal.returns-clause-powers
returns-clause-powers c = power_lies
