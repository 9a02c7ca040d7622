-- Clauses as numbers spell them.
use Rattle.std.specs.Prelude.{suc, ℤ, pos, negsuc, neg_ℤ, Bool, true, false, ◌==◌, nat_lt, if◌then◌else◌, List, [], ◌∷◌}
use Rattle.cnf_core.specs.Literal.{Literal, same_literal, code_of}

-- whether a whole number is 0
abbrev pub is_zero : ℤ → Bool
is_zero (pos n) = n == 0
is_zero (negsuc n) = false

-- the literal of a number: its variable, which is positive where the number is
abbrev pub literal_of : ℤ → Literal
literal_of (pos n) = record { var = n; positive = true }
literal_of (negsuc n) = record { var = suc n; positive = false }

-- the number of a literal: its variable's, negative where the literal is
abbrev pub number_of : Literal → ℤ
number_of l = if l.positive then pos l.var else neg_ℤ (pos l.var)

-- the literals with one more at its place, or as they are where they have it
abbrev pub with_literal : Literal → List Literal → List Literal
with_literal l [] = l ∷ []
with_literal l (m ∷ literals) =
    if nat_lt (code_of l) (code_of m) then l ∷ m ∷ literals
    else if same_literal l m then m ∷ literals else m ∷ with_literal l literals

-- these literals in order, and each once
abbrev pub in_order : List Literal → List Literal
in_order [] = []
in_order (l ∷ literals) = with_literal l (in_order literals)
