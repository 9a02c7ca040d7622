-- Worked verdicts, computed by the checker.
use Rattle.std.proofs.Common.{◌≡◌, ℕ, ℤ, pos, negsuc, true, false, List, [], ◌∷◌, refl}
use Rattle.cnf_core.specs.Literal.{Literal}
use Rattle.cnf_core.specs.Lines.{ProofLine, add, delete}
use Rattle.log_check.specs.Verdict.{verdict_of}
use Rattle.log_check.specs.declared.Verdict.TheVariants.{Verified, BadStep, NoEmptyClause}

-- a variable, and its negation
abbrev yes : ℕ → Literal
yes v = record { var = v; positive = true }

abbrev no : ℕ → Literal
no v = record { var = v; positive = false }

-- (1 2), (1 -2), (-1 2), (-1 -2): no assignment satisfies them
abbrev four : List (List Literal)
four = (yes 1 ∷ yes 2 ∷ []) ∷ (yes 1 ∷ no 2 ∷ []) ∷ (no 1 ∷ yes 2 ∷ []) ∷ (no 1 ∷ no 2 ∷ []) ∷ []

-- a line that adds (1), and one that adds the empty clause
abbrev adds_one : ℕ → List ℤ → ProofLine
adds_one id hints = add id (yes 1 ∷ []) hints

abbrev adds_empty : ℕ → List ℤ → ProofLine
adds_empty id hints = add id [] hints

verified : verdict_of four (adds_one 5 (pos 1 ∷ pos 2 ∷ []) ∷ adds_empty 6 (pos 5 ∷ pos 3 ∷ pos 4 ∷ []) ∷ []) ≡ Verified
verified = refl

-- a step with too few hints isn't shown
one_hint : verdict_of four (adds_one 5 (pos 1 ∷ []) ∷ adds_empty 6 (pos 5 ∷ pos 3 ∷ pos 4 ∷ []) ∷ []) ≡ BadStep 1
one_hint = refl

-- a hint that names no live clause ends the reading, also one that is its own line's id or a negative one
hint_negative : verdict_of four (adds_one 5 (negsuc 0 ∷ pos 1 ∷ pos 2 ∷ []) ∷ []) ≡ BadStep 1
hint_negative = refl

hint_later : verdict_of four (adds_one 5 (pos 1 ∷ pos 6 ∷ pos 2 ∷ []) ∷ adds_empty 6 (pos 5 ∷ pos 3 ∷ pos 4 ∷ []) ∷ []) ≡ BadStep 1
hint_later = refl

hint_unread : verdict_of four (adds_one 5 (pos 1 ∷ pos 2 ∷ pos 9 ∷ []) ∷ []) ≡ NoEmptyClause
hint_unread = refl

no_empty : verdict_of four (adds_one 5 (pos 1 ∷ pos 2 ∷ []) ∷ []) ≡ NoEmptyClause
no_empty = refl

-- ids rise, and begin behind those of the formula
id_taken : verdict_of four (adds_one 4 (pos 1 ∷ pos 2 ∷ []) ∷ []) ≡ BadStep 1
id_taken = refl

id_again : verdict_of four (adds_one 7 (pos 1 ∷ pos 2 ∷ []) ∷ adds_empty 7 (pos 7 ∷ pos 3 ∷ pos 4 ∷ []) ∷ []) ≡ BadStep 2
id_again = refl

id_lower : verdict_of four (adds_one 7 (pos 1 ∷ pos 2 ∷ []) ∷ adds_empty 6 (pos 7 ∷ pos 3 ∷ pos 4 ∷ []) ∷ []) ≡ BadStep 2
id_lower = refl

-- a clause that is deleted shows nothing any more
deleted : verdict_of four (delete (1 ∷ []) ∷ adds_one 5 (pos 1 ∷ pos 2 ∷ []) ∷ []) ≡ BadStep 2
deleted = refl

-- an id that isn't live yet is deleted in vain
deleted_early : verdict_of four (delete (5 ∷ []) ∷ adds_one 5 (pos 1 ∷ pos 2 ∷ []) ∷ adds_empty 6 (pos 5 ∷ pos 3 ∷ pos 4 ∷ []) ∷ []) ≡ Verified
deleted_early = refl

-- a tautological step is shown before any hint is read
tautology : verdict_of four (add 5 (yes 1 ∷ no 1 ∷ []) (pos 99 ∷ []) ∷ []) ≡ NoEmptyClause
tautology = refl

-- the empty clause may be the formula's own, and needs no line
empty_given : verdict_of ([] ∷ []) [] ≡ Verified
empty_given = refl

nothing : verdict_of [] [] ≡ NoEmptyClause
nothing = refl

-- a bad step is named before an empty clause
bad_beside_empty : verdict_of ([] ∷ []) (adds_one 2 [] ∷ []) ≡ BadStep 1
bad_beside_empty = refl

-- a hint with two literals that aren't false, or with a true one, is passed over
passed_over : verdict_of four (adds_one 5 (pos 3 ∷ pos 1 ∷ pos 2 ∷ []) ∷ []) ≡ NoEmptyClause
passed_over = refl
