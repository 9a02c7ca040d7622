-- What the texts of a number show.
use Rattle.std.specs.Prelude.{ℕ, List, Option}
use Rattle.ep_base.specs.Outside.{Held}
use Rattle.ep_print.specs.declared.refusals.Refusal.{Refusal}
use Rattle.ep_tree.specs.Binding.{Instance}
use Rattle.ep_tree.specs.declared.values.Mode.{Mode}
use Rattle.ep_driver.specs.Commands.{Want}
use Rattle.ep_driver.specs.Outcomes.{to_generate}
use Rattle.ep_driver.specs.Shown.{Ask, Refuse}
use Rattle.ep_driver.specs.declared.wanted.Wanted.{Wanted}

-- Words that want the texts of a number to be solved show the task of an instance, whatever the files hold, and never a refusal.
pub record ShowsTask (words : List (List ℕ)) (number conflicts : ℕ) : Type 0 where
  pub instance : Instance
  pub asked : (held : Held) → Ask words held (to_generate number Mode.Relational instance conflicts)
  pub never_refused : (held : Held) (refusal : Refusal) → ¬ Refuse words held refusal

-- so it is for each number
abbrev pub NumbersAreNeverRefused : Type 0
NumbersAreNeverRefused =
    (words : List (List ℕ)) (number conflicts : ℕ) (eprime param : Option (List ℕ)) → Want words (Wanted.Generate number conflicts eprime param)
    → ShowsTask words number conflicts
