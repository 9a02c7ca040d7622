-- What an error of measuring says.
use Rattle.std.specs.Prelude.{◌≡◌, ℕ, ◌<◌, List, Contains}
use Rattle.ep_base.specs.declared.operators.Limit.{Limit as LimitName}
use Rattle.ep_tree.specs.Binding.{Refusal, over_limit}
use Rattle.ep_tree.specs.Limits.{MOST_SIZE}
use Rattle.ep_size.specs.declared.errors.SizeError.{SizeError}
use Rattle.ep_size.specs.declared.errors.SizeError.TheVariants.{Limit, Memory}

-- a limit that is named is one of those that are passed; want of memory needs no cause
abbrev pub IsCause : List Refusal → SizeError → Type 0
IsCause passed (Limit l) = Contains passed (over_limit l)
IsCause passed Memory = Unit {0}

-- so many cells pass the limit of size, which is named
abbrev pub IsTooMany : ℕ → SizeError → Type 0
IsTooMany cells (Limit l) = (l ≡ LimitName.Size) × (MOST_SIZE < cells)
IsTooMany cells Memory = Unit {0}
