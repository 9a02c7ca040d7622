-- Which numbers of an objective are better.
use Rattle.std.specs.Prelude.{ℤ, Bool, int_lt}
use Rattle.ep_base.specs.declared.operators.Sense.{Sense}

-- whether one number of an objective is better than another: less where the least is wanted, greater where the greatest is
unfoldable pub better_number : Sense → ℤ → ℤ → Bool
better_number Sense.Minimising x y = int_lt x y
better_number Sense.Maximising x y = int_lt y x
