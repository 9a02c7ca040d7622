-- Worked texts of the grammars.
use Rattle.std.proofs.Common.{◌≡◌, ◌<◌, ◌≤◌, ℕ, ℤ, pos, negsuc, true, false, [], ◌∷◌, List, refl, arith, inr}
use Rattle.std.proofs.lemmas.List.Elements.{All-nil, All-from_recursion}
use Rattle.std.specs.Prelude.{codes}
use Rattle.ep_base.specs.TokenTexts.{is_word}
use Rattle.cnf_core.specs.Literal.{Literal}
use Rattle.cnf_core.specs.Lines.{add, delete}
use Rattle.sat_text.specs.Words.{PlacedWord}
use Rattle.sat_text.specs.Cnf.{header_of, header_format, header_vars, header_count, clauses_of_words, formula_from}
use Rattle.sat_text.specs.Proofs.{whole_at, items_at, addition_at, deletion_at, behind_id, line_of, proof_from}
use Rattle.sat_text.specs.CnfGrammar.{SpellsCnf, IsFaultLine}
use Rattle.sat_text.specs.LogGrammar.{SpellsLog, IsFirstWrongLine}
use Rattle.sat_text.specs.NoteGrammar.{SpellsNote, SpellsAdded}
use Rattle.sat_text.proofs.Spelling.{in_order_is_clause}
use Rattle.sat_text.proofs.CnfSpelled.{refused_spells_none}
use Rattle.sat_text.proofs.CnfFaults.{fault_line}
use Rattle.sat_text.proofs.LogSpelled.{first_wrong_line}

abbrev yes : ℕ → Literal
yes v = record { var = v; positive = true }

abbrev no : ℕ → Literal
no v = record { var = v; positive = false }

abbrev placed : ℕ → List ℕ → PlacedWord
placed line bytes = record { line = line; bytes = bytes }

-- ---- formulas

abbrev behind_header : List PlacedWord
behind_header = placed 3 (codes "2") ∷ placed 3 (codes "1") ∷ placed 4 (codes "2") ∷ placed 4 (codes "0") ∷ placed 4 (codes "-0") ∷ []

-- comments are passed over, a clause may go over lines, and a literal may stand twice
two_clauses : SpellsCnf (codes "c x\n p cnf 2 02\n2 1\n2 0 -0\n") 2 ((yes 1 ∷ yes 2 ∷ []) ∷ [] ∷ [])
two_clauses = record {
  line = 2;
  vars_word = codes "2";
  count_word = codes "02";
  later = behind_header;
  numbers = pos 2 ∷ pos 1 ∷ pos 2 ∷ pos 0 ∷ pos 0 ∷ [];
  words = refl;
  variables = refl;
  count = refl;
  alone = All-from_recursion (λ (word : PlacedWord). 2 < word.line) behind_header (omega arith, (omega arith, (omega arith, (omega arith, (omega arith, tt)))));
  all_numbers = refl;
  grouped = (
    yes 2 ∷ yes 1 ∷ yes 2 ∷ [],
    pos 0 ∷ [],
    refl,
    All-from_recursion (λ (l : Literal). (1 ≤ l.var) × (l.var ≤ 2)) (yes 2 ∷ yes 1 ∷ yes 2 ∷ []) ((omega arith, omega arith), ((omega arith, omega arith), ((omega arith, omega arith), tt))),
    in_order_is_clause _ _ refl,
    ([], [], refl, All-nil (λ (l : Literal). (1 ≤ l.var) × (l.var ≤ 2)), in_order_is_clause _ _ refl, refl),
  );
}

great_variable : (vars : ℕ) (clauses : List (List Literal)) → SpellsCnf (codes "p cnf 1 1\n2 0\n") vars clauses → ⊥
unfolding formula_from header_of header_format header_vars header_count clauses_of_words
great_variable vars clauses s = refused_spells_none (codes "p cnf 1 1\n2 0\n") 2 vars clauses refl s

header_over_two_lines : (vars : ℕ) (clauses : List (List Literal)) → SpellsCnf (codes "p cnf\n1 0\n") vars clauses → ⊥
unfolding formula_from header_of header_format header_vars header_count clauses_of_words
header_over_two_lines vars clauses s = refused_spells_none (codes "p cnf\n1 0\n") 2 vars clauses refl s

wrong_word_line : IsFaultLine (codes "p cnf 1 1\n\n1 x\n0\n") 3
unfolding formula_from header_of header_format header_vars header_count clauses_of_words
wrong_word_line = fault_line (codes "p cnf 1 1\n\n1 x\n0\n") 3 refl

too_few_line : IsFaultLine (codes "p cnf 1 2\n1 0\nc x\n") 3
unfolding formula_from header_of header_format header_vars header_count clauses_of_words
too_few_line = fault_line (codes "p cnf 1 2\n1 0\nc x\n") 3 refl

-- ---- proofs

two_lines : SpellsLog (codes "5 2 -1 1 1 00 -3 4 -0\nc x\n\n6\td 5 05 0") (add 5 (yes 1 ∷ no 1 ∷ yes 2 ∷ []) (negsuc 2 ∷ pos 4 ∷ []) ∷ delete (5 ∷ 5 ∷ []) ∷ [])
two_lines = (
  (
    yes 2 ∷ no 1 ∷ yes 1 ∷ yes 1 ∷ [],
    omega arith,
    All-from_recursion (λ (l : Literal). 1 ≤ l.var) (yes 2 ∷ no 1 ∷ yes 1 ∷ yes 1 ∷ []) (omega arith, (omega arith, (omega arith, (omega arith, tt)))),
    in_order_is_clause _ _ refl,
    All-from_recursion (λ (n : ℤ). n ≡ pos 0 → ⊥) (negsuc 2 ∷ pos 4 ∷ []) (λ e. cc, (λ e. cc, tt)),
    refl,
  ),
  (
    (6, codes "6", codes "5" ∷ codes "05" ∷ codes "0" ∷ [], refl, refl, omega arith, All-from_recursion (λ (n : ℕ). 1 ≤ n) (5 ∷ 5 ∷ []) (omega arith, (omega arith, tt)), refl),
    tt,
  ),
)

wrong_log_line : IsFirstWrongLine (codes "c x\n5 0 0\n6 0 0 0\nd") 3
unfolding proof_from line_of whole_at behind_id addition_at deletion_at items_at
wrong_log_line = first_wrong_line (codes "c x\n5 0 0\n6 0 0 0\nd") 3 refl

-- ---- notes

cell_note : SpellsNote (codes "c cell q[1,-2] 3 -01") (record { cell = codes "q[1,-2]"; value = pos 3; lit = no 1 })
unfolding is_word
cell_note = record {
  value_word = codes "3";
  literal_word = codes "-01";
  bytes = refl;
  named = inr (record { name = codes "q"; indices = codes "1,-2"; parts = refl; named = refl; wholes = refl });
  value = refl;
  literal = refl;
  variable = omega arith;
}

added_note : SpellsAdded (codes "c added 07") 7
added_note = (codes "07", refl, refl)
