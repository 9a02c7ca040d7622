-- Worked texts, computed by the checker.
use Rattle.std.proofs.Common.{◌≡◌, ℕ, pos, negsuc, true, false, [], ◌∷◌, Some, None, Ok, Err, refl}
use Rattle.std.specs.Prelude.{codes}
use Rattle.std.specs.Fmt.{digits}
use Rattle.cnf_core.specs.Literal.{Literal}
use Rattle.cnf_core.specs.Events.{given, step}
use Rattle.sat_text.specs.Words.{lines, last_line, words}
use Rattle.sat_text.specs.Numbers.{natural_of, whole_of}
use Rattle.sat_text.specs.Clauses.{in_order}
use Rattle.cnf_core.specs.Lines.{add, delete}
use Rattle.sat_text.specs.Proofs.{whole_at, items_at, addition_at, deletion_at, behind_id, line_of, proof_from, proof_of}
use Rattle.sat_text.specs.Cnf.{header_of, header_format, header_vars, header_count, clauses_of_words, formula_from, formula_of}
use Rattle.ep_base.specs.TokenTexts.{is_word}
use Rattle.sat_text.specs.Notes.{is_cell, added_of}
use Rattle.sat_text.specs.Writing.{log_text, cnf_text}

abbrev yes : ℕ → Literal
yes v = record { var = v; positive = true }

abbrev no : ℕ → Literal
no v = record { var = v; positive = false }

-- ---- lines, words and numbers

no_line : lines [] ≡ []
no_line = refl

two_lines : lines (codes "a\n\nb") ≡ codes "a" ∷ [] ∷ codes "b" ∷ []
two_lines = refl

ended_line : lines (codes "a\n") ≡ codes "a" ∷ []
ended_line = refl

last_of_none : last_line [] ≡ 1
last_of_none = refl

words_of_line : words (codes " p\tcnf  2 ") ≡ codes "p" ∷ codes "cnf" ∷ codes "2" ∷ []
words_of_line = refl

negative : whole_of (codes "-012") ≡ Some (negsuc 11)
negative = refl

negative_zero : whole_of (codes "-0") ≡ Some (pos 0)
negative_zero = refl

no_digit : whole_of (codes "-") ≡ None
no_digit = refl

nineteen_digits : natural_of (codes "1234567890123456789") ≡ None
nineteen_digits = refl

plus : whole_of (codes "+1") ≡ None
plus = refl

-- a clause is in order, and has each literal once
clause_in_order : in_order (yes 2 ∷ no 1 ∷ yes 1 ∷ yes 2 ∷ []) ≡ yes 1 ∷ no 1 ∷ yes 2 ∷ []
clause_in_order = refl

-- ---- the text of a proof

two_steps : proof_of (codes "5 1 0 1 2 0\nc note\n6 d 5 0\n") ≡ Ok (add 5 (yes 1 ∷ []) (pos 1 ∷ pos 2 ∷ []) ∷ delete (5 ∷ []) ∷ [])
unfolding proof_from line_of whole_at behind_id addition_at deletion_at items_at
two_steps = refl

wrong_word : proof_of (codes "5 1 0 1 2 0\n6 x") ≡ Err 2
unfolding proof_from line_of whole_at behind_id addition_at deletion_at items_at
wrong_word = refl

id_zero : proof_of (codes "0 1 0 1 0\n") ≡ Err 1
unfolding proof_from line_of whole_at behind_id addition_at deletion_at items_at
id_zero = refl

word_too_many : proof_of (codes "5 1 0 1 0 0\n") ≡ Err 1
unfolding proof_from line_of whole_at behind_id addition_at deletion_at items_at
word_too_many = refl

-- ---- the text of a formula

four : formula_of (codes "p cnf 2 2\n1 2 0 -1\n0\n") ≡ Ok (record { vars = 2; clauses = (yes 1 ∷ yes 2 ∷ []) ∷ (no 1 ∷ []) ∷ [] })
unfolding formula_from header_of header_format header_vars header_count clauses_of_words
four = refl

clause_wanting : formula_of (codes "p cnf 2 5\n1 2 0\n1 -2 0\n-1 2 0\n-1 -2 0") ≡ Err 5
unfolding formula_from header_of header_format header_vars header_count clauses_of_words
clause_wanting = refl

clause_too_many : formula_of (codes "p cnf 1 1\n1 0\n\n1 0") ≡ Err 4
unfolding formula_from header_of header_format header_vars header_count clauses_of_words
clause_too_many = refl

header_short : formula_of (codes "p cnf 2\nc note\n1 2 0\n") ≡ Err 3
unfolding formula_from header_of header_format header_vars header_count clauses_of_words
header_short = refl

variable_too_great : formula_of (codes "p cnf 1 1\n2 0\n") ≡ Err 2
unfolding formula_from header_of header_format header_vars header_count clauses_of_words
variable_too_great = refl

no_clause : formula_of (codes "p cnf 999999999999999999 0") ≡ Ok (record { vars = 999999999999999999; clauses = [] })
unfolding formula_from header_of header_format header_vars header_count clauses_of_words
no_clause = refl

nothing : formula_of [] ≡ Err 1
unfolding formula_from
nothing = refl

-- ---- cells

plain_cell : is_cell (codes "x_1") ≡ true
unfolding is_word
plain_cell = refl

matrix_cell : is_cell (codes "q[1,-2]") ≡ true
unfolding is_word
matrix_cell = refl

no_index : is_cell (codes "q[]") ≡ false
unfolding is_word
no_index = refl

reserved : is_cell (codes "find") ≡ false
unfolding is_word
reserved = refl

last_added : added_of 0 (lines (codes "c added 3\nc added x\nc added 07\n")) ≡ 7
last_added = refl

-- ---- what is written

formula_written : cnf_text (record { vars = 2; clauses = (yes 1 ∷ yes 2 ∷ []) ∷ (no 1 ∷ []) ∷ []; from_new = true }) (record { cell = codes "x"; value = pos 0; lit = no 1 } ∷ record { cell = codes "x"; value = pos 1; lit = yes 1 } ∷ []) 1
    ≡ codes "c cell x 0 -1\nc cell x 1 1\nc added 1\np cnf 2 2\n1 2 0\n-1 0\n"
unfolding digits
formula_written = refl

-- givens have the ids 1 and 2, and the steps the ids behind them, whatever their order
log_written : log_text (given (yes 1 ∷ yes 2 ∷ []) ∷ step (yes 1 ∷ []) (0 ∷ 2 ∷ []) ∷ given (yes 1 ∷ no 2 ∷ []) ∷ []) ≡ codes "3 1 0 1 2 0\n"
unfolding digits
log_written = refl
