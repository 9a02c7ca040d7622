-- How the hints of a step are read: unit propagation along a given list of clauses.
use Rattle.std.specs.Prelude.{Bool, false, not, ◌||◌, if◌then◌else◌, List, [], ◌∷◌, filter, map}
use Rattle.std.specs.List.{list_any, list_all}
use Rattle.cnf_core.specs.Literal.{Literal, negation, is_among}

-- whether a literal is false where these literals are true
abbrev pub is_false : List Literal → Literal → Bool
is_false trues l = is_among trues (negation l)

-- the literals of a clause that aren't false
abbrev pub not_false : List Literal → List Literal → List Literal
not_false trues clause = filter (λ l. not (is_false trues l)) clause

-- what is true once a clause was read of whose literals these aren't false: a single one, if it is unassigned, becomes true
abbrev pub trues_after : List Literal → List Literal → List Literal
trues_after trues [] = trues
trues_after trues (l ∷ []) = if is_among trues l then trues else l ∷ trues
trues_after trues (l ∷ m ∷ others) = trues

-- Reads clauses in order, where these literals are true at first. It succeeds at a clause whose literals are all false. Where
-- all but one are false and that one is unassigned, that one becomes true. Any other clause is passed over. At the end it fails.
abbrev pub reading_succeeds : List Literal → List (List Literal) → Bool
reading_succeeds trues [] = false
reading_succeeds trues (clause ∷ clauses) =
    list_all (is_false trues) clause || reading_succeeds (trues_after trues (not_false trues clause)) clauses

-- what is true once all these clauses were read in order
abbrev pub trues_from : List Literal → List (List Literal) → List Literal
trues_from trues [] = trues
trues_from trues (clause ∷ clauses) = trues_from (trues_after trues (not_false trues clause)) clauses

-- whether the literals hold one together with its negation
abbrev pub has_contradiction : List Literal → Bool
has_contradiction literals = list_any (is_false literals) literals

-- The clauses of hints show a clause where, with the negations of its literals true at first, two of these contradict each
-- other or the reading succeeds.
abbrev pub is_shown_by : List Literal → List (List Literal) → Bool
is_shown_by clause hints = has_contradiction (map negation clause) || reading_succeeds (map negation clause) hints
