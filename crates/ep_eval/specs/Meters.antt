-- How a walk over nodes goes on from one meter to another, and what is known then.
use Rattle.std.specs.Prelude.{◌≡◌, ◌⊎◌, ℕ, ◌+◌, ◌≤◌, ◌<◌, ℤ, Bool, true, false, Result, Ok, Err, List, ◌++◌, length, flat_map, Option, Some, None}
use Rattle.std.specs.List.{list_any}
use Rattle.ep_base.specs.Reads.{is_too_far}
use Rattle.ep_base.specs.declared.operators.Limit.{Limit as LimitName}
use Rattle.ep_tree.specs.Evaluation.{evaluate}
use Rattle.ep_tree.specs.Limits.{MOST_SIZE, numbers_at}
use Rattle.ep_tree.specs.Measures.{Met, met}
use Rattle.ep_tree.specs.Trees.{ExprTree}
use Rattle.ep_tree.specs.Values.{ValueTree}
use Rattle.ep_tree.specs.declared.values.Mode.{Mode}
use Rattle.ep_eval.specs.Counting.{is_far_value}
use Rattle.ep_eval.specs.Helds.{seen_held}
use Rattle.ep_eval.specs.Scopes.{env_in, mode_in}
use Rattle.ep_eval.specs.declared.errors.EvalError.{EvalError}
use Rattle.ep_eval.specs.declared.errors.EvalError.TheVariants.{Limit, Memory}
use Rattle.ep_eval.specs.declared.held.Held.{Held}
use Rattle.ep_eval.specs.declared.meter.Meter.{Meter}
use Rattle.ep_eval.specs.declared.scopes.Scope.{Scope}
use Rattle.ep_eval.specs.declared.worth.Worth.{Worth}
use Rattle.ep_eval.specs.declared.worth.Worth.TheVariants.{Seen, Far}

-- a limit that so many nodes and others behind them pass: by their number, or since they reach too far
abbrev pub IsPassed : (List Met → Bool) → ℕ → List Met → LimitName → Type 0
IsPassed far before ms l =
    ((l ≡ LimitName.Size) × (MOST_SIZE < before + length ms)) ⊎ ((l ≡ LimitName.Reach) × (far ms ≡ true))

-- nodes were met, and no limit is passed
pub record Went (far : List Met → Bool) (before after : Meter) (ms : List Met) : Type 0 where
  pub from : before.passed ≡ None
  pub count : after.size ≡ before.size + length ms
  pub small : 1 ≤ length ms → after.size ≤ MOST_SIZE
  pub near : far ms ≡ false

-- nodes were met, or a limit is passed that they pass; one that was passed before stays
pub record Passes (far : List Met → Bool) (before after : Meter) (ms : List Met) : Type 0 where
  pub goes : after.passed ≡ None → Went far before after ms
  pub stops : before.passed ≡ None → (l : LimitName) → after.passed ≡ Some l → IsPassed far before.size ms l
  pub stays : (l : LimitName) → before.passed ≡ Some l → after.passed ≡ Some l

-- nodes were met, and where no limit is passed by then something is known
pub record Walked (far : List Met → Bool) (before after : Meter) (ms : List Met) (P : Type 0) : Type 0 where
  pub passes : Passes far before after ms
  pub told : after.passed ≡ None → P

-- some of all nodes were met, others are left, and where no limit is passed by then something is known
pub record Walking (far : List Met → Bool) (start now : Meter) (whole left : List Met) (P : Type 0) : Type 0 where
  pub done : List Met
  pub is : whole ≡ done ++ left
  pub walked : Walked far start now done P

-- whether a number at one of some nodes is too far from 0
abbrev pub has_far : Mode → List Met → Bool
has_far mode ms = list_any is_too_far (flat_map (numbers_at mode) ms)

-- nodes were evaluated
abbrev pub Told : Mode → Meter → Meter → List Met → Type 0 → Type 0
Told mode before after ms P = Walked (has_far mode) before after ms P

-- some of all nodes were evaluated
abbrev pub Going : Mode → Meter → Meter → List Met → List Met → Type 0 → Type 0
Going mode start now whole left P = Walking (has_far mode) start now whole left P

-- an expression was evaluated
abbrev pub Sees : Scope → Meter → Meter → ExprTree → Option Held → Type 0
Sees scope before after e seen =
    Told (mode_in scope) before after (met (mode_in scope) (env_in scope) e) (evaluate (mode_in scope) (env_in scope) e ≡ seen_held seen)

-- what a node is worth, by the numbers at it and its value
unfoldable pub IsWorth : List ℤ → Option ValueTree → Worth → Type 0
IsWorth numbers v Far = list_any is_too_far numbers ≡ true
IsWorth numbers v (Seen seen) = (v ≡ seen_held seen) × (list_any is_too_far numbers ≡ is_far_value v)

-- whether a worth is too far from 0
unfoldable pub is_far_worth : Worth → Bool
is_far_worth Far = true
is_far_worth (Seen seen) = is_far_value (seen_held seen)

-- a node is settled: it is counted, and keeps its worth, or passes a limit
pub record SettlesWorth (before after : Meter) (worth : Worth) (v : Option Held) : Type 0 where
  pub from : after.passed ≡ None → before.passed ≡ None
  pub count : after.passed ≡ None → after.size ≡ before.size + 1
  pub small : after.passed ≡ None → after.size ≤ MOST_SIZE
  pub kept : after.passed ≡ None → worth ≡ Seen v
  pub near : after.passed ≡ None → is_far_value (seen_held v) ≡ false
  pub stops : before.passed ≡ None → (l : LimitName) → after.passed ≡ Some l
      → ((l ≡ LimitName.Size) × (MOST_SIZE < before.size + 1)) ⊎ ((l ≡ LimitName.Reach) × (is_far_worth worth ≡ true))
  pub stays : (l : LimitName) → before.passed ≡ Some l → after.passed ≡ Some l

-- a name of a generator is counted, or passes a limit
pub record Counts (before after : Meter) : Type 0 where
  pub from : after.passed ≡ None → before.passed ≡ None
  pub count : after.passed ≡ None → after.size ≡ before.size + 1
  pub small : after.passed ≡ None → after.size ≤ MOST_SIZE
  pub stops : before.passed ≡ None → (l : LimitName) → after.passed ≡ Some l → (l ≡ LimitName.Size) × (MOST_SIZE < before.size + 1)
  pub stays : (l : LimitName) → before.passed ≡ Some l → after.passed ≡ Some l

-- what an operator gave, as a worth
unfoldable pub IsMadeOf : Result (Option Held) EvalError → Worth → Type 0
IsMadeOf (Ok seen) worth = worth ≡ Seen seen
IsMadeOf (Err (Limit l)) worth = worth ≡ Far
IsMadeOf (Err Memory) worth = ⊥
