-- What the instances of a quantifier give one after another.
use Rattle.std.specs.Prelude.{ℕ, ◌+ℤ◌, pos, true, false, List, Option, Some, None, option_map}
use Rattle.ep_base.specs.Numbers.{sum_of}
use Rattle.ep_base.specs.Options.{map_both}
use Rattle.ep_tree.specs.Evaluation.{all_numbers, number_value, truth_in}
use Rattle.ep_tree.specs.Values.{ValueTree}
use Rattle.ep_tree.specs.declared.syntax.QuantOp.{QuantOp}
use Rattle.ep_tree.specs.declared.values.Mode.{Mode}
use Rattle.ep_eval.specs.Counting.{IsWithin, of_all, together}
use Rattle.ep_eval.specs.declared.gathering.Gathered.{Gathered}
use Rattle.ep_eval.specs.declared.gathering.Gathered.TheVariants.{Truths, Total}

-- what is gathered before the first instance
unfoldable pub nothing_yet : QuantOp → Gathered
nothing_yet QuantOp.ForAll = Truths true (Some true)
nothing_yet QuantOp.Exists = Truths false (Some false)
nothing_yet QuantOp.Sum = Total (Some (pos 0))

-- what is gathered where the domain is undefined
unfoldable pub none_at_all : QuantOp → Gathered
none_at_all QuantOp.ForAll = Truths true None
none_at_all QuantOp.Exists = Truths false None
none_at_all QuantOp.Sum = Total None

-- what is gathered with some instances more
unfoldable pub gathered_with_more : Gathered → List (Option ValueTree) → Gathered
gathered_with_more (Truths every truth) vs = Truths every (map_both (together every) truth (of_all every vs))
gathered_with_more (Total total) vs = Total (map_both ◌+ℤ◌ total (option_map sum_of (all_numbers vs)))

-- what all instances give, where the domain is defined
unfoldable pub gathered_of : QuantOp → Option (List (Option ValueTree)) → Gathered
gathered_of op None = none_at_all op
gathered_of op (Some vs) = gathered_with_more (nothing_yet op) vs

-- the value of the quantifier
unfoldable pub worth : Mode → Gathered → Option ValueTree
worth mode (Truths every truth) = truth_in mode truth
worth mode (Total total) = number_value total

-- a total that is gathered lies at most so far from 0
unfoldable pub IsSmall : ℕ → Gathered → Type 0
IsSmall most (Truths every truth) = Unit {0}
IsSmall most (Total total) = IsWithin most total
