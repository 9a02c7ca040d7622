use Rattle.ep_base.specs.Numbers.{quotient}
use Rattle.std.specs.Prelude.{refl}
use Rattle.ep_tree.proofs.NumberLaws.{quotient-low, quotient-high, quotient-negative_high, quotient-negative_low}
use Rattle.ep_tree.proofs.laws.quotient_is_the_floor.Goals as goal

pub returns-clause-positive_low : goal.returns-clause-positive_low
returns-clause-positive_low c = quotient-low

pub returns-clause-positive_high : goal.returns-clause-positive_high
returns-clause-positive_high c = quotient-high

pub returns-clause-negative_low : goal.returns-clause-negative_low
returns-clause-negative_low c = quotient-negative_high

pub returns-clause-negative_high : goal.returns-clause-negative_high
returns-clause-negative_high c = quotient-negative_low

pub returns-clause-by_zero : goal.returns-clause-by_zero
unfolding quotient
returns-clause-by_zero c x = refl
