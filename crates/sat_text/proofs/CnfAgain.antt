-- A formula that is written is read again.
use Rattle.std.proofs.Common.{◌≡◌, ℕ, suc, ◌+◌, ◌≤◌, true, false, leb, List, [], ◌∷◌, ◌++◌, length, map, Ok, refl, sym, ap, ◌∙◌, append_assoc, arith}
use Rattle.std.proofs.lemmas.Bool.Decides.{nat_tests}
use Rattle.std.proofs.lemmas.List.{append-nil}
use Rattle.std.proofs.lemmas.List.Concat.{flat_map-cons}
use Rattle.std.specs.List.{flat_map, AllByRecursion}
use Rattle.std.specs.Prelude.{codes}
use Rattle.std.specs.Fmt.{signed_decimal}
use Rattle.cnf_core.specs.Literal.{Literal, IsOrdered, IsVariable}
use Rattle.sat_text.specs.Words.{lines, words, is_comment, PlacedWord, words_on, said_words, text_words}
use Rattle.sat_text.specs.Clauses.{in_order, number_of}
use Rattle.sat_text.specs.Cnf.{with_clause, clauses_of_words}
use Rattle.sat_text.specs.Writing.{clause_text}
use Rattle.sat_text.proofs.Order.{clause_again}
use Rattle.sat_text.proofs.Again.{whole_again, AreWords, number_is_word, joined, words_again, IsLine, line_again, joined_line}
use Rattle.sat_text.proofs.LogAgain.{literal_again, signed_short, number_no_comment, zero_word}

-- ---- a clause's line

-- the words of a clause
abbrev pub clause_words : List Literal → List (List ℕ)
clause_words [] = zero_word ∷ []
clause_words (l ∷ clause) = signed_decimal (number_of l) ∷ clause_words clause

-- words with single spaces between them
abbrev pub with_spaces : List (List ℕ) → List ℕ
with_spaces [] = []
with_spaces (word ∷ found) = word ++ joined found

joined_words : (clause : List Literal) → joined (clause_words clause) ≡ 32 ∷ with_spaces (clause_words clause)
joined_words [] = refl
joined_words (l ∷ clause) = flat_map-cons (λ word. 32 ∷ word) (signed_decimal (number_of l)) (clause_words clause)

text_cons : (l : Literal) (clause : List Literal) → clause_text (l ∷ clause) ≡ signed_decimal (number_of l) ++ 32 ∷ clause_text clause
text_cons l clause =
    let item : Literal → List ℕ = λ x. signed_decimal (number_of x) ++ 32 ∷ [] in
    ap (λ (t : List ℕ). t ++ codes "0\n") (flat_map-cons item l clause) ∙ append_assoc (item l) (flat_map item clause) (codes "0\n")
    ∙ append_assoc (signed_decimal (number_of l)) (32 ∷ []) (flat_map item clause ++ codes "0\n")

clause_spaced : (clause : List Literal) → clause_text clause ≡ with_spaces (clause_words clause) ++ 10 ∷ []
clause_spaced [] = refl
clause_spaced (l ∷ clause) =
    let w = signed_decimal (number_of l) in
    text_cons l clause ∙ ap (λ (t : List ℕ). w ++ 32 ∷ t) (clause_spaced clause)
    ∙ sym (append_assoc w (32 ∷ with_spaces (clause_words clause)) (10 ∷ [])) ∙ ap (λ (t : List ℕ). (w ++ t) ++ 10 ∷ []) (sym (joined_words clause))

-- a clause over the variables of a formula, in order
abbrev pub IsClauseUpTo : ℕ → List Literal → Type 0
IsClauseUpTo vars clause = IsOrdered clause × AllByRecursion (λ l. IsVariable l.var × (l.var ≤ vars)) clause

read_literals : (last vars count number : ℕ) (begun literals : List Literal) (later : List PlacedWord) → AllByRecursion (λ l. IsVariable l.var × (l.var ≤ vars)) literals
    → clauses_of_words last vars (suc count) begun (words_on number (clause_words literals) ++ later) ≡ with_clause (in_order (begun ++ literals)) (clauses_of_words last vars count [] later)
unfolding clauses_of_words
read_literals last vars count number begun [] later v = ap (λ (c : List Literal). with_clause (in_order c) (clauses_of_words last vars count [] later)) (sym (append-nil begun))
read_literals last vars count number begun (l ∷ literals) later v =
    let s = signed_short l.var l.positive v.0.0 in
    let fits : leb l.var vars ≡ true = grind (arith, nat_tests, v.0.1) in
    rw (whole_again (number_of l) s.0, s.1, literal_again l v.0.0, fits)
    (read_literals last vars count number (begun ++ l ∷ []) literals later v.1 ∙ ap (λ (c : List Literal). with_clause (in_order c) (clauses_of_words last vars count [] later)) (append_assoc begun (l ∷ []) literals))

clause_read : (last vars count number : ℕ) (clause : List Literal) (later : List PlacedWord) → IsClauseUpTo vars clause
    → clauses_of_words last vars (suc count) [] (words_on number (clause_words clause) ++ later) ≡ with_clause clause (clauses_of_words last vars count [] later)
clause_read last vars count number clause later c =
    read_literals last vars count number [] clause later c.1 ∙ ap (λ (k : List Literal). with_clause k (clauses_of_words last vars count [] later)) (clause_again clause c.0)

clause_are_words : (vars : ℕ) (clause : List Literal) → AllByRecursion (λ l. IsVariable l.var × (l.var ≤ vars)) clause → AreWords (clause_words clause)
clause_are_words vars [] v = ((refl, omega arith), tt)
clause_are_words vars (l ∷ clause) v = (number_is_word (number_of l) (signed_short l.var l.positive v.0.0).0, clause_are_words vars clause v.1)

-- what a clause's line is, and which words it has
clause_line_is : (vars : ℕ) (clause : List Literal) → AllByRecursion (λ l. IsVariable l.var × (l.var ≤ vars)) clause → IsLine (with_spaces (clause_words clause)) × (words (with_spaces (clause_words clause)) ≡ clause_words clause)
clause_line_is vars [] v = (refl, refl)
clause_line_is vars (l ∷ clause) v =
    let w = number_is_word (number_of l) (signed_short l.var l.positive v.0.0).0 in
    let ws = clause_are_words vars clause v.1 in
    (joined_line (signed_decimal (number_of l)) (clause_words clause) w ws, words_again (signed_decimal (number_of l)) (clause_words clause) w ws)

pub clause_no_comment : (vars : ℕ) (clause : List Literal) → AllByRecursion (λ l. IsVariable l.var × (l.var ≤ vars)) clause → is_comment (with_spaces (clause_words clause)) ≡ false
clause_no_comment vars [] v = refl
clause_no_comment vars (l ∷ clause) v = number_no_comment (signed_decimal (number_of l)) (joined (clause_words clause)) (number_of l) (whole_again (number_of l) (signed_short l.var l.positive v.0.0).0)

-- the lines of clauses
abbrev pub clause_lines : List (List Literal) → List (List ℕ)
clause_lines clauses = map (λ clause. with_spaces (clause_words clause)) clauses

abbrev pub AreClausesUpTo : ℕ → List (List Literal) → Type 0
AreClausesUpTo vars clauses = AllByRecursion (IsClauseUpTo vars) clauses

pub lines_of_clauses : (vars : ℕ) (clauses : List (List Literal)) → AreClausesUpTo vars clauses → lines (flat_map clause_text clauses) ≡ clause_lines clauses
lines_of_clauses vars [] c = refl
lines_of_clauses vars (clause ∷ clauses) c =
    let line = with_spaces (clause_words clause) in
    let rest = flat_map clause_text clauses in
    ap lines (flat_map-cons clause_text clause clauses ∙ ap (λ (t : List ℕ). t ++ rest) (clause_spaced clause) ∙ append_assoc line (10 ∷ []) rest)
    ∙ line_again line rest (clause_line_is vars clause c.0.1).0 ∙ ap (λ (ls : List (List ℕ)). line ∷ ls) (lines_of_clauses vars clauses c.1)

said_clause : (vars : ℕ) (clause : List Literal) → AllByRecursion (λ l. IsVariable l.var × (l.var ≤ vars)) clause → said_words (with_spaces (clause_words clause)) ≡ clause_words clause
said_clause vars clause v = rw (clause_no_comment vars clause v) (clause_line_is vars clause v).1

pub clauses_read : (last vars number : ℕ) (clauses : List (List Literal)) → AreClausesUpTo vars clauses → clauses_of_words last vars (length clauses) [] (text_words number (clause_lines clauses)) ≡ Ok clauses
unfolding clauses_of_words
clauses_read last vars number [] c = refl
clauses_read last vars number (clause ∷ clauses) c =
    let later = text_words (number + 1) (clause_lines clauses) in
    ap (λ (ws : List (List ℕ)). clauses_of_words last vars (suc (length clauses)) [] (words_on number ws ++ later)) (said_clause vars clause c.0.1)
    ∙ clause_read last vars (length clauses) number clause later c.0 ∙ ap (with_clause clause) (clauses_read last vars (number + 1) clauses c.1)
