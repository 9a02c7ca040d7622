-- How measuring goes on over nodes, and what is known then.
use Rattle.std.specs.Prelude.{◌≡◌, ◌⊎◌, ℕ, ◌+◌, ◌≤◌, ◌<◌, Bool, List, int_lt, Result, Ok, Err, Option, Some, None}
use Rattle.ep_base.specs.Reads.{MOST_NUMBER}
use Rattle.ep_base.specs.declared.operators.Limit.{Limit as LimitName}
use Rattle.ep_tree.specs.Binding.{Instance}
use Rattle.ep_tree.specs.Limits.{MOST_SIZE}
use Rattle.ep_tree.specs.Measures.{Met, farthest_reach, met, weight_of}
use Rattle.ep_tree.specs.Solutions.{met_instance}
use Rattle.ep_tree.specs.Trees.{ExprTree}
use Rattle.ep_tree.specs.declared.values.Mode.{Mode}
use Rattle.ep_eval.specs.Meters.{Walked, Walking}
use Rattle.ep_eval.specs.Scopes.{env_in, mode_in}
use Rattle.ep_eval.specs.declared.scopes.Scope.{Scope}
use Rattle.ep_size.specs.Extents.{IsKnownExtent}
use Rattle.ep_size.specs.Totals.{all_cells, all_values, capped}
use Rattle.ep_size.specs.declared.errors.SizeError.{SizeError}
use Rattle.ep_size.specs.declared.errors.SizeError.TheVariants.{Limit}
use Rattle.ep_size.specs.declared.extents.Extent.{Extent}
use Rattle.ep_size.specs.declared.totals.Totals.{Totals}

-- whether some nodes pass the limit of reach
abbrev pub is_far : Mode → List Met → Bool
is_far mode ms = int_lt MOST_NUMBER (farthest_reach mode ms)

-- some nodes are weighed, as far as a weight is told
abbrev pub WeighsNodes : Mode → Totals → Totals → List Met → Type 0
WeighsNodes mode before after ms = capped after.weight ≡ capped (before.weight + weight_of mode ms)

-- nodes were measured, or a limit is passed; where none is by then they are weighed, and something is known
abbrev pub Told : Mode → Totals → Totals → List Met → Type 0 → Type 0
Told mode before after ms P = Walked (is_far mode) before.meter after.meter ms (WeighsNodes mode before after ms × P)

-- some of all nodes were measured, others are left
abbrev pub Going : Mode → Totals → Totals → List Met → List Met → Type 0 → Type 0
Going mode start now whole left P =
    Walking (is_far mode) start.meter now.meter whole left
    ((capped (start.weight + weight_of mode whole) ≡ capped (now.weight + weight_of mode left)) × P)

-- an expression was measured
abbrev pub Extends : Scope → Totals → Totals → ExprTree → Extent → Type 0
Extends scope before after e x =
    Told (mode_in scope) before after (met (mode_in scope) (env_in scope) e) (IsKnownExtent (mode_in scope) (env_in scope) e x)

-- a node is settled: it is counted, and keeps what was made of it, or passes a limit
pub record SettlesMade (before after : Totals) (made : Result Extent SizeError) (x : Extent) : Type 0 where
  pub from : after.meter.passed ≡ None → before.meter.passed ≡ None
  pub count : after.meter.passed ≡ None → after.meter.size ≡ before.meter.size + 1
  pub small : after.meter.passed ≡ None → after.meter.size ≤ MOST_SIZE
  pub kept : after.meter.passed ≡ None → made ≡ Ok x
  pub weight : after.weight ≡ before.weight
  pub stops : before.meter.passed ≡ None → (l : LimitName) → after.meter.passed ≡ Some l
      → ((l ≡ LimitName.Size) × (MOST_SIZE < before.meter.size + 1)) ⊎ (made ≡ Err (Limit l))
  pub stays : (l : LimitName) → before.meter.passed ≡ Some l → after.meter.passed ≡ Some l

-- an instance was measured behind its cells, which are few enough
pub record MeasuresInstance (mode : Mode) (i : Instance) (t : Totals) : Type 0 where
  pub small : all_cells i.finds ≤ MOST_SIZE
  pub walked : Walked (is_far mode) (record { size = all_cells i.finds; passed = None }) t.meter (met_instance mode i)
      (capped t.weight ≡ capped (all_values i.finds + weight_of mode (met_instance mode i)))
