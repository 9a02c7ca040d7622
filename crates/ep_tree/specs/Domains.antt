-- Domains as sorted lists of numbers.
--
-- `int` domains with ranges are those of the language's public description; their union, intersection and difference
-- are this project's own.
use Rattle.std.specs.Prelude.{ℕ, Bool, not, ◌&&◌, ◌||◌, List, [], ◌∷◌, ℤ, pos, ◌+ℤ◌, ◌-ℤ◌, if◌then◌else◌, int_lt, filter}
use Rattle.std.specs.Ordering.{int_eq}
use Rattle.ep_base.specs.Numbers.{has_number}
use Rattle.ep_base.specs.Runs.{counting, or_zero}
use Rattle.ep_tree.specs.declared.syntax.SetOp.{SetOp}

-- a number put into a sorted list, where it isn't there yet
unfoldable pub put_in : ℤ → List ℤ → List ℤ
put_in x [] = x ∷ []
put_in x (y ∷ ys) = if int_lt x y then x ∷ y ∷ ys else (if int_eq x y then y ∷ ys else y ∷ put_in x ys)

-- the numbers of two lists, sorted
unfoldable pub united : List ℤ → List ℤ → List ℤ
united [] ys = ys
united (x ∷ xs) ys = put_in x (united xs ys)

-- how many numbers there are from a to b: none where b < a
unfoldable pub count_between : ℤ → ℤ → ℕ
count_between a b = or_zero ((b +ℤ pos 1) -ℤ a)

-- the numbers from a to b
unfoldable pub between : ℤ → ℤ → List ℤ
between a b = counting a (count_between a b)

-- the numbers of an operation on two domains
unfoldable pub set_values : SetOp → List ℤ → List ℤ → List ℤ
set_values SetOp.Union xs ys = united xs ys
set_values SetOp.Intersect xs ys = filter (has_number ys) xs
set_values SetOp.Minus xs ys = filter (λ x. not (has_number ys x)) xs

-- whether a number is one of an operation on two domains
unfoldable pub set_has : SetOp → Bool → Bool → Bool
set_has SetOp.Union one other = one || other
set_has SetOp.Intersect one other = one && other
set_has SetOp.Minus one other = one && not other

-- the numbers of a Boolean domain
abbrev pub truth_values : List ℤ
truth_values = pos 0 ∷ pos 1 ∷ []
