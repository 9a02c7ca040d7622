-- What is counted of some numbers: how many they are, and their widths.
use Rattle.std.specs.Prelude.{◌≡◌, List, length}
use Rattle.ep_tree.specs.Measures.{widths}
use Rattle.ep_tree.specs.Reach.{Span}
use Rattle.ep_size.specs.Totals.{capped}
use Rattle.ep_size.specs.declared.widths.Widths.{Widths}

-- some numbers are counted and their widths are added, as far as a weight is told
pub record Widens (t : Widths) (spans : List Span) : Type 0 where
  pub count : t.count ≡ capped (length spans)
  pub widths : t.widths ≡ capped (widths spans)
