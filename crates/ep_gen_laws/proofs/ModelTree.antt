-- The tree of the model that is generated, which is the same for each number.
use Rattle.std.specs.Prelude.{ℕ, ◌+◌, List, [], ◌∷◌, ℤ, pos, codes}
use Rattle.ep_base.specs.declared.names.Name.{Name}
use Rattle.ep_base.specs.declared.operators.CompareOp.{CompareOp}
use Rattle.ep_base.specs.declared.places.Place.{Place}
use Rattle.ep_tree.specs.Statements.{Group, TextTree, constraints, decided, given}
use Rattle.ep_tree.specs.Trees.{DomainTree, ExprTree, all_different, binary, compare, domain_and, end_at, every_and, group, index_and, matrix_domain, named, no_domains, no_indices, no_ranges, number, quantified, ranges, read, span_and}
use Rattle.ep_tree.specs.declared.syntax.BinaryOp.{BinaryOp}
use Rattle.ep_tree.specs.declared.syntax.QuantOp.{QuantOp}

-- the place of each token of a text, by its number
abbrev pub Places : Type 0
Places = ℕ → Place

-- a name that is the token of this number
abbrev pub name_at : Places → ℕ → Name → ExprTree
name_at at k name = named (at k) name

-- `int(low..high)`, whose first token has this number
abbrev pub numbers_at : Places → ℕ → ℤ → ExprTree → DomainTree
numbers_at at k low high = ranges (at k) (span_and (end_at (number (at (k + 2)) low)) (end_at high) no_ranges)

-- `int(low..n)`, whose first token has this number
abbrev pub up_to_n : Places → ℕ → ℤ → DomainTree
up_to_n at k low = numbers_at at k low (name_at at (k + 4) (codes "n"))

-- `matrix indexed by [int(1..n), int(1..n)] of int(low..n)`, whose first token has this number
abbrev pub square_at : Places → ℕ → ℤ → DomainTree
square_at at k low =
    matrix_domain (at k) (domain_and (up_to_n at (k + 4) (pos 1)) (domain_and (up_to_n at (k + 11) (pos 1)) no_domains))
    (up_to_n at (k + 19) low)

-- one name, whose token has this number, with its domain
abbrev pub one_name : Places → ℕ → Name → DomainTree → List Group
one_name at k name d = record { names = (name, at k) ∷ []; domain = d } ∷ []

-- a read of a matrix by the names i and j, of which the first token has this number
abbrev pub cell_at : Places → ℕ → Name → ExprTree
cell_at at k name =
    read (at k) (name_at at k name)
    (index_and (name_at at (k + 2) (codes "i")) (index_and (name_at at (k + 4) (codes "j")) no_indices))

-- each row has different numbers
abbrev pub rows_differ : Places → ExprTree
rows_differ at =
    quantified (at 72) QuantOp.ForAll (codes "i" ∷ []) (up_to_n at 75 (pos 1))
    (all_different (at 82) (read (at 84) (name_at at 84 (codes "q")) (index_and (name_at at 86 (codes "i")) (every_and no_indices))))

-- each column has different numbers
abbrev pub columns_differ : Places → ExprTree
columns_differ at =
    quantified (at 92) QuantOp.ForAll (codes "j" ∷ []) (up_to_n at 95 (pos 1))
    (all_different (at 102) (read (at 104) (name_at at 104 (codes "q")) (every_and (index_and (name_at at 108 (codes "j")) no_indices))))

-- the cell of i and j has its hint, where there is one
abbrev pub hint_is_met : Places → ExprTree
hint_is_met at =
    binary (at 124) BinaryOp.Implies
    (group (at 124) (compare (at 125) CompareOp.NotEqual (cell_at at 125 (codes "hint")) (number (at 132) (pos 0))))
    (group (at 135) (compare (at 136) CompareOp.Equal (cell_at at 136 (codes "q")) (cell_at at 143 (codes "hint"))))

-- each hint is met
abbrev pub hints_are_met : Places → ExprTree
hints_are_met at =
    quantified (at 112) QuantOp.ForAll (codes "i" ∷ codes "j" ∷ []) (up_to_n at 117 (pos 1)) (hint_is_met at)

-- the tree of the model whose tokens have these places
unfoldable pub model_tree : Places → TextTree
model_tree at =
    given (at 5) (one_name at 6 (codes "n") (numbers_at at 8 (pos 1) (number (at 12) (pos 100))))
    ∷ given (at 14) (one_name at 15 (codes "hint") (square_at at 17 (pos 0)))
    ∷ decided (at 42) (one_name at 43 (codes "q") (square_at at 45 (pos 1)))
    ∷ constraints (at 70) (rows_differ at ∷ columns_differ at ∷ hints_are_met at ∷ [])
    ∷ []
