-- What is true of the literals that are kept as true ones.
use Rattle.std.specs.Prelude.{◌≡◌}
use Rattle.cnf_core.specs.Literal.{Literal, negation, code_of, is_among}
use Rattle.log_check.specs.declared.signs.Signs.TheInside.{Inside}
use Rattle.log_check.specs.Table.{has}

-- the table has the numbers of the literals whose negations are in the list
abbrev pub HasFalses : Inside → Type 0
HasFalses s = (l : Literal) → has s.falses (code_of l) ≡ is_among s.trues.items (negation l)
