-- How marks are kept.
use Rattle.std.specs.Prelude.{◌≤◌, ◌==◌, Bool, List, map, All}
use Rattle.sat_search.specs.declared.marks.Marks.TheInside.{Inside}

-- a variable is marked where its stamp is the current one
abbrev pub seen_marks : Inside → List Bool
seen_marks a = map (λ s. s == a.stamp) a.stamps.items

-- no stamp is later than the current one, which is not 0
pub record AreStamps (a : Inside) : Type 0 where
  pub some : 1 ≤ a.stamp
  pub none_later : All (λ s. s ≤ a.stamp) a.stamps.items
