-- The numbers of a set one after another.
use Rattle.std.specs.Prelude.{◌≤ℤ◌, ◌++◌, ◌∷◌, [], List, ℤ, Option, Some, None}
use Rattle.std.specs.List.{All}
use Rattle.ep_base.specs.Runs.{numbers, numbers_in}
use Rattle.ep_base.specs.declared.run_lists.Run.{Run}
use Rattle.ep_eval.specs.declared.walking.Walk.{Walk}

-- the numbers of a run, if there is one, and those of the runs behind it
unfoldable pub left_in : Option Run → List Run → List ℤ
left_in None later = []
left_in (Some run) later = numbers_in run ++ numbers later

-- the numbers that are left of a walk
abbrev pub numbers_left : Walk → List ℤ
numbers_left walk = left_in walk.run walk.later.now

-- a run has a number
abbrev pub IsFilled : Run → Type 0
IsFilled run = run.lo ≤ℤ run.hi

-- a run, if there is one, has a number
unfoldable pub IsFilledIn : Option Run → Type 0
IsFilledIn None = Unit {0}
IsFilledIn (Some run) = IsFilled run

-- each run of a walk has a number
pub record IsWalk (walk : Walk) : Type 0 where
  pub here : IsFilledIn walk.run
  pub behind : All IsFilled walk.later.now

-- a number, if there is one, before those that are left behind it
unfoldable pub before_rest : Option (ℤ × Walk) → List ℤ
before_rest None = []
before_rest (Some step) = step.0 ∷ numbers_left step.1

-- what is left behind a number is a walk
unfoldable pub IsWalkBehind : Option (ℤ × Walk) → Type 0
IsWalkBehind None = Unit {0}
IsWalkBehind (Some step) = IsWalk step.1
