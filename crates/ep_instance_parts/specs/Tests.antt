-- Tests of numbers, as they are kept: each says of the numbers that the program can write what the definitions say.
use Rattle.std.specs.Prelude.{◌≡◌, ◌^◌, ◌++◌, ◌&&◌, Bool, List, ℤ, pos, neg_ℤ, ◌≤ℤ◌, ◌<ℤ◌, int_le, Option, option_map}
use Rattle.std.specs.Ordering.{int_eq}
use Rattle.ep_base.specs.Options.{map_both}
use Rattle.ep_base.specs.declared.run_lists.Run.{Run}
use Rattle.ep_tree.specs.Binding.{above_end, below_end}
use Rattle.ep_tree.specs.Environments.{Env}
use Rattle.ep_tree.specs.Evaluation.{evaluate, number_in}
use Rattle.ep_tree.specs.Measures.{Met, met, met_end}
use Rattle.ep_tree.specs.Views.{held_end, kind_tree}
use Rattle.ep_tree.specs.declared.syntax.Range.{Range, One', Span'}
use Rattle.ep_tree.specs.declared.values.Mode.{Mode}
use Rattle.ep_instance_parts.specs.declared.elements.Elements.{Elements}
use Rattle.ep_instance_parts.specs.Elements.{element_passes}

-- Where something is kept, it answers for each number that the program can write what a test answers; nothing is kept
-- where there is no test.
pub record Answers64 {A : Type 0} (says : A → ℤ → Bool) (kept : Option A) (test : Option (ℤ → Bool)) : Type 0 where
  pub same : (n : ℤ) → neg_ℤ (pos (2 ^ 63)) ≤ℤ n → n <ℤ pos (2 ^ 63)
      → option_map (λ a. says a n) kept ≡ option_map (λ passes. passes n) test

-- whether a number is at least another
abbrev pub above : ℤ → ℤ → Bool
above low n = int_le low n

-- whether a number is at most another
abbrev pub below : ℤ → ℤ → Bool
below high n = int_le n high

-- whether a number lies in a run
abbrev pub run_test : Run → ℤ → Bool
run_test run n = int_le run.lo n && int_le n run.hi

-- whether an element may be a number
abbrev pub element_test : Elements → ℤ → Bool
element_test elements n = element_passes elements n

-- what the bounds of a range meet
unfoldable pub met_range : Mode → Env → Range → List Met
met_range mode env (One' place kind) = met mode env (kind_tree place kind)
met_range mode env (Span' low high) = met_end mode env (held_end low) ++ met_end mode env (held_end high)

-- which numbers a range has
unfoldable pub range_passes : Mode → Env → Range → Option (ℤ → Bool)
range_passes mode env (One' place kind) =
    option_map (λ n x. int_eq x n) (number_in (evaluate mode env (kind_tree place kind)))
range_passes mode env (Span' low high) =
    map_both (λ above below x. above x && below x)
    (above_end mode env (held_end low)) (below_end mode env (held_end high))
