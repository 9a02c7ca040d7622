-- The whole text of a formula that is written is read again.
use Rattle.std.proofs.Common.{◌≡◌, ℕ, pos, ◌+◌, ◌^◌, ◌<◌, ◌≤◌, true, false, not, eqb, ◌||◌, List, [], ◌∷◌, ◌++◌, length, map, Option, Some, None, Result, Ok, Err, IfOk, refl, sym, ap, subst, ◌∙◌, append_assoc, arith, inl, inr}
use Rattle.std.proofs.lemmas.Bool.Decides.{nat_tests}
use Rattle.std.proofs.lemmas.List.{append-nil}
use Rattle.std.proofs.lemmas.List.Concat.{flat_map-cons}
use Rattle.std.specs.Global.{Vec}
use Rattle.std.specs.List.{list_all, flat_map, cons_option, AllByRecursion, starts_with, slice_split, onto_first}
use Rattle.std.proofs.lemmas.List.Elements.{recursion_from_All}
use Rattle.std.specs.Prelude.{All, nat_eq, decimal, codes, unwrap_or}
use Rattle.std.specs.Fmt.{signed_decimal}
use Rattle.cnf_core.specs.Literal.{Literal, IsVariable, IsClause, VariablesUpTo}
use Rattle.cnf_core.specs.Formula.{Cnf}
use Rattle.cnf_core.specs.Events.{Note}
use Rattle.sat_text.specs.Words.{lines, last_line, words, is_comment, is_plain, is_between_words, says_nothing, has_no_word}
use Rattle.sat_text.specs.Cnf.{header_count, header_vars, header_format, header_of, with_vars, formula_from, plain_formula}
use Rattle.sat_text.specs.Clauses.{number_of}
use Rattle.sat_text.specs.Writing.{note_text, clause_text, header_text, added_text, cnf_text, IsReadableNote, IsReadableFormula, NamesVariables, SaysAgain}
use Rattle.sat_text.specs.declared.header.HeaderLine.TheVariants.{Good}
use Rattle.sat_text.specs.Notes.{is_cell, note_with, note_literal, note_value, note_at, note_of, added_on, notes_of, added_of}
use Rattle.sat_text.proofs.Cuts.{bool_cases}
use Rattle.sat_text.proofs.Again.{natural_again, whole_again, IsWord, AreWords, number_is_word, joined, words_again, IsLine, line_again, joined_line, all_append, plain_line, plain_not_blank, and_parts}
use Rattle.sat_text.proofs.LogAgain.{literal_again, signed_short, spaced_is, in_range}
use Rattle.sat_text.proofs.FormulaSteps.{formula_quiet, formula_header}
use Rattle.sat_text.proofs.CellPlain.{cell_plain}
use Rattle.sat_text.proofs.CellSpelled.{cell_complete}
use Rattle.sat_text.proofs.CnfAgain.{with_spaces, clause_words, clause_lines, lines_of_clauses, clauses_read, clause_no_comment, IsClauseUpTo, AreClausesUpTo}

-- ---- the header

abbrev cnf_word : List ℕ
cnf_word = 99 ∷ 110 ∷ 102 ∷ []

abbrev header_words : ℕ → ℕ → List (List ℕ)
header_words vars count = cnf_word ∷ signed_decimal (pos vars) ∷ signed_decimal (pos count) ∷ []

abbrev header_line : ℕ → ℕ → List ℕ
header_line vars count = (112 ∷ []) ++ joined (header_words vars count)

header_is : (vars count : ℕ) → header_text vars count ≡ header_line vars count ++ 10 ∷ []
header_is vars count =
    let v = decimal vars in
    let n = decimal count in
    let three : joined (header_words vars count) ≡ (32 ∷ cnf_word) ++ ((32 ∷ v) ++ (32 ∷ n))
    = flat_map-cons (λ word. 32 ∷ word) cnf_word (v ∷ n ∷ []) ∙ ap (λ (t : List ℕ). (32 ∷ cnf_word) ++ t) (flat_map-cons (λ word. 32 ∷ word) v (n ∷ []) ∙ ap (λ (t : List ℕ). (32 ∷ v) ++ t) (flat_map-cons (λ word. 32 ∷ word) n [] ∙ append-nil (32 ∷ n))) in
    let grouped : 112 ∷ (((32 ∷ cnf_word) ++ ((32 ∷ v) ++ (32 ∷ n))) ++ 10 ∷ []) ≡ header_text vars count
    = ap (λ (t : List ℕ). 112 ∷ 32 ∷ 99 ∷ 110 ∷ 102 ∷ 32 ∷ t) (append_assoc v (32 ∷ n) (10 ∷ [])) in
    sym (ap (λ (t : List ℕ). (112 ∷ t) ++ 10 ∷ []) three ∙ grouped)

header_are_words : (vars count : ℕ) → vars < 10 ^ 18 → count < 10 ^ 18 → AreWords (header_words vars count)
header_are_words vars count v n = ((refl, omega arith), (number_is_word (pos vars) v, (number_is_word (pos count) n, tt)))

header_found : (vars count : ℕ) → vars < 10 ^ 18 → count < 10 ^ 18 → words (header_line vars count) ≡ (112 ∷ []) ∷ header_words vars count
header_found vars count v n = words_again (112 ∷ []) (header_words vars count) (refl, omega arith) (header_are_words vars count v n)

header_again : (vars count : ℕ) → vars < 10 ^ 18 → count < 10 ^ 18 → header_of (words (header_line vars count)) ≡ Good vars count
unfolding header_of header_format header_vars header_count
header_again vars count v n = ap header_of (header_found vars count v n) ∙ rw (natural_again vars v, natural_again count n) refl

header_speaks : (vars count : ℕ) → vars < 10 ^ 18 → count < 10 ^ 18 → says_nothing (header_line vars count) ≡ false
header_speaks vars count v n = ap (λ (ws : List (List ℕ)). is_comment (header_line vars count) || has_no_word ws) (header_found vars count v n)

-- ---- a note's line

abbrev note_line : Note → List ℕ
note_line note = codes "c cell " ++ (note.cell ++ joined (signed_decimal note.value ∷ signed_decimal (number_of note.lit) ∷ []))

note_is : (note : Note) (rest : List ℕ) → note_text note ++ rest ≡ note_line note ++ 10 ∷ rest
note_is note rest =
    let j = joined (signed_decimal note.value ∷ signed_decimal (number_of note.lit) ∷ []) in
    let p = codes "c cell " in
    let same : note_text note ≡ p ++ (note.cell ++ (j ++ 10 ∷ [])) = ap (λ (t : List ℕ). p ++ (note.cell ++ (t ++ 10 ∷ []))) (spaced_is (note.value ∷ number_of note.lit ∷ [])) in
    ap (λ (t : List ℕ). t ++ rest) same
    ∙ append_assoc p (note.cell ++ (j ++ 10 ∷ [])) rest
    ∙ ap (λ (t : List ℕ). p ++ t) (append_assoc note.cell (j ++ 10 ∷ []) rest ∙ ap (λ (t : List ℕ). note.cell ++ t) (append_assoc j (10 ∷ []) rest) ∙ sym (append_assoc note.cell j (10 ∷ rest)))
    ∙ sym (append_assoc p (note.cell ++ j) (10 ∷ rest))

two_words : (note : Note) → IsReadableNote note → IsVariable note.lit.var → AreWords (signed_decimal note.value ∷ signed_decimal (number_of note.lit) ∷ [])
two_words note r v = (number_is_word note.value r.short, (number_is_word (number_of note.lit) (signed_short note.lit.var note.lit.positive v).0, tt))

cell_some : (cell : List ℕ) → is_cell cell ≡ true → 0 < length cell
cell_some [] e = absurd cc
cell_some (b ∷ cell) e = omega arith

note_is_line : (note : Note) → IsReadableNote note → IsVariable note.lit.var → IsLine (note_line note)
note_is_line note r v =
    let ws = signed_decimal note.value ∷ signed_decimal (number_of note.lit) ∷ [] in
    all_append (λ b. not (eqb b 10)) (codes "c cell ") (note.cell ++ joined ws) refl (joined_line note.cell ws ((cell_plain note.cell (cell_complete note.cell r.named)), cell_some note.cell (cell_complete note.cell r.named)) (two_words note r v))

plain_no_space : (b : ℕ) → is_plain b ≡ true → eqb b 32 ≡ false
plain_no_space b e = elim (bool_cases (eqb b 32)) [
  | inl t ↦ absurd (let h : is_between_words b ≡ true = rw t refl in let k : true ≡ false = sym h ∙ plain_not_blank b e in cc)
  | inr f ↦ f
]

pub space_cut : (word rest : List ℕ) → list_all is_plain word ≡ true → slice_split (λ b. eqb b 32) (word ++ 32 ∷ rest) ≡ word ∷ slice_split (λ b. eqb b 32) rest
space_cut [] rest p = refl
space_cut (b ∷ word) rest p =
    let both = and_parts (is_plain b) (list_all is_plain word) p in
    rw (plain_no_space b both.0) (ap (onto_first b) (space_cut word rest both.1))

pub space_none : (word : List ℕ) → list_all is_plain word ≡ true → slice_split (λ b. eqb b 32) word ≡ word ∷ []
space_none [] p = refl
space_none (b ∷ word) p =
    let both = and_parts (is_plain b) (list_all is_plain word) p in
    rw (plain_no_space b both.0) (ap (onto_first b) (space_none word both.1))

three_pieces : (a b c : List ℕ) → list_all is_plain a ≡ true → list_all is_plain b ≡ true → list_all is_plain c ≡ true → slice_split (λ x. eqb x 32) (a ++ joined (b ∷ c ∷ [])) ≡ a ∷ b ∷ c ∷ []
three_pieces a b c pa pb pc =
    let two : joined (b ∷ c ∷ []) ≡ 32 ∷ (b ++ 32 ∷ c) = flat_map-cons (λ word. 32 ∷ word) b (c ∷ []) ∙ ap (λ (t : List ℕ). (32 ∷ b) ++ t) (flat_map-cons (λ word. 32 ∷ word) c [] ∙ append-nil (32 ∷ c)) in
    ap (λ (t : List ℕ). slice_split (λ x. eqb x 32) (a ++ t)) two ∙ space_cut a (b ++ 32 ∷ c) pa ∙ ap (λ (ps : List (List ℕ)). a ∷ ps) (space_cut b c pb ∙ ap (λ (ps : List (List ℕ)). b ∷ ps) (space_none c pc))

note_again : (note : Note) → IsReadableNote note → IsVariable note.lit.var → note_of (note_line note) ≡ Some note
unfolding note_at note_value note_literal note_with
note_again note r here =
    let s = signed_short note.lit.var note.lit.positive here in
    let v = number_is_word note.value r.short in
    let w = number_is_word (number_of note.lit) s.0 in
    let pieces = three_pieces note.cell (signed_decimal note.value) (signed_decimal (number_of note.lit)) (cell_plain note.cell (cell_complete note.cell r.named)) v.0 w.0 in
    rw (pieces, cell_complete note.cell r.named, whole_again note.value r.short, whole_again (number_of note.lit) s.0, s.1, literal_again note.lit here) refl

-- ---- lines that say nothing of cells and of added clauses

no_prefix : (line rest : List ℕ) → is_comment line ≡ false → starts_with nat_eq line (99 ∷ rest) ≡ false
no_prefix [] rest e = refl
no_prefix (b ∷ line) rest e =
    let no : eqb 99 b ≡ false = grind (arith, nat_tests) in
    rw no refl

clause_notes : (vars : ℕ) (clauses : List (List Literal)) → AllByRecursion (λ clause. AllByRecursion (λ l. IsVariable l.var × (l.var ≤ vars)) clause) clauses → notes_of (clause_lines clauses) ≡ []
clause_notes vars [] c = refl
clause_notes vars (clause ∷ clauses) c = rw (no_prefix _ (32 ∷ 99 ∷ 101 ∷ 108 ∷ 108 ∷ 32 ∷ []) (clause_no_comment vars clause c.0)) (clause_notes vars clauses c.1)

clause_added : (vars added : ℕ) (clauses : List (List Literal)) → AllByRecursion (λ clause. AllByRecursion (λ l. IsVariable l.var × (l.var ≤ vars)) clause) clauses → added_of added (clause_lines clauses) ≡ added
clause_added vars added [] c = refl
clause_added vars added (clause ∷ clauses) c =
    let none : added_on (with_spaces (clause_words clause)) ≡ None = rw (no_prefix _ (32 ∷ 97 ∷ 100 ∷ 100 ∷ 101 ∷ 100 ∷ 32 ∷ []) (clause_no_comment vars clause c.0)) refl in
    ap (λ (o : Option ℕ). added_of (unwrap_or o added) (clause_lines clauses)) none ∙ clause_added vars added clauses c.1

-- ---- the lines of the whole text

abbrev IsGoodNote : Note → Type 0
IsGoodNote note = IsReadableNote note × IsVariable note.lit.var

both : {X : Type 0} (P Q R : X → Type 0) (xs : List X) → ((x : X) → P x → Q x → R x) → AllByRecursion P xs → AllByRecursion Q xs → AllByRecursion R xs
both P Q R [] h p q = tt
both P Q R (x ∷ xs) h p q = (h x p.0 q.0, both P Q R xs h p.1 q.1)

good_notes : (notes : List Note) → All IsReadableNote notes → NamesVariables notes → AllByRecursion IsGoodNote notes
good_notes notes r v =
    both IsReadableNote (λ note. IsVariable note.lit.var) IsGoodNote notes (λ note p q. (p, q))
    (recursion_from_All IsReadableNote notes r) (recursion_from_All (λ note. IsVariable note.lit.var) notes v)

clause_up_to : (vars : ℕ) (clause : List Literal) → IsClause clause → VariablesUpTo vars clause → IsClauseUpTo vars clause
clause_up_to vars clause is up = (
  is.ordered,
  both (λ l. IsVariable l.var) (λ l. l.var ≤ vars) (λ l. IsVariable l.var × (l.var ≤ vars)) clause (λ l p q. (p, q)) (in_range clause is)
      (recursion_from_All (λ l. l.var ≤ vars) clause up),
)

clauses_up_to : (f : Cnf) → IsReadableFormula f → AreClausesUpTo f.vars f.clauses
clauses_up_to f r =
    both IsClause (VariablesUpTo f.vars) (IsClauseUpTo f.vars) f.clauses (clause_up_to f.vars) (recursion_from_All IsClause f.clauses r.clauses)
    (recursion_from_All (VariablesUpTo f.vars) f.clauses r.names)

abbrev added_line : ℕ → List ℕ
added_line added = codes "c added " ++ decimal added

abbrev lines_behind : Cnf → ℕ → List (List ℕ)
lines_behind f added = added_line added ∷ header_line f.vars (length f.clauses) ∷ clause_lines f.clauses

abbrev all_lines : Cnf → List Note → ℕ → List (List ℕ)
all_lines f notes added = map note_line notes ++ lines_behind f added

lines_of_notes : (notes : List Note) (rest : List ℕ) → AllByRecursion IsGoodNote notes → lines (flat_map note_text notes ++ rest) ≡ map note_line notes ++ lines rest
lines_of_notes [] rest r = refl
lines_of_notes (note ∷ notes) rest r =
    let later = flat_map note_text notes ++ rest in
    ap lines (ap (λ (t : List ℕ). t ++ rest) (flat_map-cons note_text note notes) ∙ append_assoc (note_text note) (flat_map note_text notes) rest ∙ note_is note later)
    ∙ line_again (note_line note) later (note_is_line note r.0.0 r.0.1) ∙ ap (λ (ls : List (List ℕ)). note_line note ∷ ls) (lines_of_notes notes rest r.1)

lines_of_added : (added : ℕ) (rest : List ℕ) → added < 10 ^ 18 → lines (added_text added ++ rest) ≡ added_line added ∷ lines rest
lines_of_added added rest a =
    let p = codes "c added " in
    let d = decimal added in
    let cut : added_text added ++ rest ≡ added_line added ++ 10 ∷ rest = append_assoc p (d ++ 10 ∷ []) rest ∙ ap (λ (t : List ℕ). p ++ t) (append_assoc d (10 ∷ []) rest) ∙ sym (append_assoc p d (10 ∷ rest)) in
    let w : IsWord (signed_decimal (pos added)) = number_is_word (pos added) a in
    ap lines cut ∙ line_again (added_line added) rest (all_append (λ b. not (eqb b 10)) p d refl (plain_line d w.0))

lines_of_header : (vars count : ℕ) (rest : List ℕ) → vars < 10 ^ 18 → count < 10 ^ 18 → lines (header_text vars count ++ rest) ≡ header_line vars count ∷ lines rest
lines_of_header vars count rest v n =
    ap (λ (t : List ℕ). lines (t ++ rest)) (header_is vars count) ∙ ap lines (append_assoc (header_line vars count) (10 ∷ []) rest)
    ∙ line_again (header_line vars count) rest (joined_line (112 ∷ []) (header_words vars count) (refl, omega arith) (header_are_words vars count v n))

text_lines : (f : Cnf) (notes : List Note) (added : ℕ) → IsReadableFormula f → AllByRecursion IsGoodNote notes → added < 10 ^ 18 → lines (cnf_text f notes added) ≡ all_lines f notes added
text_lines f notes added r n a =
    let clauses = flat_map clause_text f.clauses in
    let header = header_text f.vars (length f.clauses) in
    lines_of_notes notes (added_text added ++ (header ++ clauses)) n
    ∙ ap (λ (ls : List (List ℕ)). map note_line notes ++ ls) (lines_of_added added (header ++ clauses) a
    ∙ ap (λ (ls : List (List ℕ)). added_line added ∷ ls) (lines_of_header f.vars (length f.clauses) clauses r.few_variables r.few_clauses
    ∙ ap (λ (ls : List (List ℕ)). header_line f.vars (length f.clauses) ∷ ls) (lines_of_clauses f.vars f.clauses (clauses_up_to f r))))

-- ---- what these lines say

header_read : (last number : ℕ) (f : Cnf) → IsReadableFormula f → formula_from last number (header_line f.vars (length f.clauses) ∷ clause_lines f.clauses) ≡ Ok (plain_formula f)
header_read last number f r =
    let line = header_line f.vars (length f.clauses) in
    formula_header last number (line ∷ clause_lines f.clauses) (clause_lines f.clauses) line (Good f.vars (length f.clauses)) refl (header_speaks f.vars (length f.clauses) r.few_variables r.few_clauses) (sym (header_again f.vars (length f.clauses) r.few_variables r.few_clauses))
    ∙ ap (with_vars f.vars) (clauses_read last f.vars (number + 1) f.clauses (clauses_up_to f r))

lines_read : (last number : ℕ) (f : Cnf) (notes : List Note) (added : ℕ) → IsReadableFormula f → formula_from last number (all_lines f notes added) ≡ Ok (plain_formula f)
lines_read last number f [] added r = formula_quiet last number (lines_behind f added) (header_line f.vars (length f.clauses) ∷ clause_lines f.clauses) (added_line added) refl refl ∙ header_read last (number + 1) f r
lines_read last number f (note ∷ notes) added r = formula_quiet last number (all_lines f (note ∷ notes) added) (all_lines f notes added) (note_line note) refl refl ∙ lines_read last (number + 1) f notes added r

abbrev AreUpTo : ℕ → List (List Literal) → Type 0
AreUpTo vars clauses = AllByRecursion (λ clause. AllByRecursion (λ l. IsVariable l.var × (l.var ≤ vars)) clause) clauses

without_order : (vars : ℕ) (clauses : List (List Literal)) → AreClausesUpTo vars clauses → AreUpTo vars clauses
without_order vars [] c = tt
without_order vars (clause ∷ clauses) c = (c.0.1, without_order vars clauses c.1)

notes_read : (f : Cnf) (notes : List Note) (added : ℕ) → IsReadableFormula f → AllByRecursion IsGoodNote notes → notes_of (all_lines f notes added) ≡ notes
notes_read f [] added r n = clause_notes f.vars f.clauses (without_order f.vars f.clauses (clauses_up_to f r))
notes_read f (note ∷ notes) added r n =
    ap (λ (o : Option Note). cons_option o (notes_of (all_lines f notes added))) (note_again note n.0.0 n.0.1) ∙ ap (λ (ns : List Note). note ∷ ns) (notes_read f notes added r n.1)

added_read : (f : Cnf) (notes : List Note) (before added : ℕ) → IsReadableFormula f → added < 10 ^ 18 → added_of before (all_lines f notes added) ≡ added
added_read f [] before added r a =
    ap (λ (o : Option ℕ). added_of (unwrap_or o before) (header_line f.vars (length f.clauses) ∷ clause_lines f.clauses)) (natural_again added a)
    ∙ clause_added f.vars added f.clauses (without_order f.vars f.clauses (clauses_up_to f r))
added_read f (note ∷ notes) before added r a = added_read f notes before added r a

-- the text that is written says the formula, its notes and its number
text_again : (f : Cnf) (notes : List Note) (added : ℕ) → IsReadableFormula f → AllByRecursion IsGoodNote notes → added < 10 ^ 18 → SaysAgain (cnf_text f notes added) f notes added
text_again f notes added r n a =
    let cut = text_lines f notes added r n a in
    record {
      same_formula = ap (formula_from (last_line (cnf_text f notes added)) 1) cut ∙ lines_read (last_line (cnf_text f notes added)) 1 f notes added r;
      same_notes = ap notes_of cut ∙ notes_read f notes added r n;
      same_number = ap (added_of 0) cut ∙ added_read f notes 0 added r a;
    }

-- the bytes that are written, where there is memory for them
pub written_again : {E : Type 0} (r : Result (Vec ℕ) E) (f : Cnf) (notes : List Note) (added : ℕ) → IfOk r (λ _. IsReadableFormula f) → IfOk r (λ _. NamesVariables notes)
    → IfOk r (λ text. text.items ≡ cnf_text f notes added) → All IsReadableNote notes → added < 10 ^ 18 → IfOk r (λ text. SaysAgain text.items f notes added)
written_again (Ok text) f notes added r v is n a = subst (λ (t : List ℕ). SaysAgain t f notes added) (sym is) (text_again f notes added r (good_notes notes n v) a)
written_again (Err e) f notes added r v is n a = tt
