-- The squares of hints that are generated from a number.
--
-- A linear congruence gives a stream of numbers. Each cell, row by row, takes the next number, which says whether the cell
-- has a hint. Each hint is the value of its cell in one and the same Latin square, so that the hints can be met.
use Rattle.std.specs.Prelude.{ℕ, zero, suc, ◌+◌, ◌-◌, ◌*◌, ◌/◌, ◌%◌, List, map, ℤ, pos, if◌then◌else◌, ◌==◌}
use Rattle.std.specs.List.{range_with_len}
use Rattle.ep_base.specs.Runs.{counting}
use Rattle.ep_tree.specs.Values.{ValueTree, as_parts, list_value, matrix}

-- the number behind another one in a stream
unfoldable pub next_number : ℕ → ℕ
next_number s = (s * 1103515245 + 12345) % 2147483648

-- the k-th number in the stream of a number, which is itself the one with k = 0
unfoldable pub nth_number : ℕ → ℕ → ℕ
nth_number number zero = number
nth_number number (suc k) = next_number (nth_number number k)

-- the order of the square of a number: how many rows and columns it has
unfoldable pub order_of : ℕ → ℕ
order_of number = 16 + number % 5

-- The hint of the cell in row i and column j of a square of order n that takes the number s of the stream. 0 stands for
-- no hint.
unfoldable pub hint_of : ℕ → ℕ → ℕ → ℕ → ℤ
hint_of n i j s = if (s / 65536) % 3 == 0 then pos ((i + j) % n + 1) else pos 0

-- the hints of row i of a square of order n, where the rows before it took so many numbers of the stream
unfoldable pub row_of : ℕ → ℕ → ℕ → ℕ → List ℤ
row_of number n before i = map (λ j. hint_of n i j (nth_number number (before + j))) (range_with_len 1 n)

-- the hints of a square of order n, row by row, of which each takes n numbers of the stream
unfoldable pub square_rows : ℕ → ℕ → List (List ℤ)
square_rows number n = map (λ i. row_of number n ((i - 1) * n) i) (range_with_len 1 n)

-- the hints of a number
abbrev pub hints_of : ℕ → List (List ℤ)
hints_of number = square_rows number (order_of number)

-- the rows of a square of order n as a matrix, with indices from 1 to n
unfoldable pub square_value : ℕ → List (List ℤ) → ValueTree
square_value n rows = matrix (counting (pos 1) n) (as_parts (map (λ row. list_value row) rows))
