-- The reader of a formula's text reads what its grammar spells.
use Rattle.std.proofs.Common.{◌≡◌, ℕ, ◌+◌, ◌<◌, ◌&&◌, true, false, eqb, List, [], ◌∷◌, ◌++◌, length, Option, Some, None, Result, Ok, Err, refl, sym, ap, subst, ◌∙◌, arith, inl, inr}
use Rattle.std.proofs.lemmas.Bool.{eqb-true}
use Rattle.std.proofs.lemmas.List.Elements.{All-from_recursion, recursion_from_All}
use Rattle.std.specs.List.{AllByRecursion}
use Rattle.std.specs.Prelude.{codes}
use Rattle.cnf_core.specs.Literal.{Literal}
use Rattle.sat_text.specs.declared.header.HeaderLine.{HeaderLine}
use Rattle.sat_text.specs.declared.header.HeaderLine.TheVariants.{Good, Short, Wrong}
use Rattle.sat_text.specs.Words.{lines, last_line, words, is_comment, has_no_word, says_nothing, PlacedWord, words_on, said_words, text_words}
use Rattle.sat_text.specs.Numbers.{natural_of}
use Rattle.sat_text.specs.Cnf.{is_p, is_cnf, header_end, header_count, header_vars, header_format, header_of, clauses_of_words, CnfContent, with_vars, behind_header, formula_from, formula_of}
use Rattle.sat_text.specs.CnfGrammar.{SpellsFormula, SpellsCnf}
use Rattle.sat_text.proofs.Cuts.{bool_cases}
use Rattle.sat_text.proofs.Again.{and_parts}
use Rattle.sat_text.proofs.Spelling.{cons_head, cons_tail, cons_same}
use Rattle.sat_text.proofs.ClausesSpelled.{grouped_spells, spells_grouped, clauses_sound, clauses_complete}
use Rattle.sat_text.proofs.FormulaSteps.{formula_quiet, formula_header}

-- ---- the header

pub p_word : (word : List ℕ) → is_p word ≡ true → word ≡ codes "p"
p_word [] e = absurd cc
p_word (b ∷ []) e = ap (λ (c : ℕ). c ∷ []) (eqb-true _ _ e)
p_word (b ∷ c ∷ word) e = absurd cc

pub cnf_word : (word : List ℕ) → is_cnf word ≡ true → word ≡ codes "cnf"
cnf_word [] e = absurd cc
cnf_word (a ∷ []) e = absurd cc
cnf_word (a ∷ b ∷ []) e = absurd cc
cnf_word (a ∷ b ∷ c ∷ []) e =
    let first = and_parts (eqb a 99) (eqb b 110 && eqb c 102) e in
    let others = and_parts (eqb b 110) (eqb c 102) first.1 in
    ap (λ (x : ℕ). x ∷ b ∷ c ∷ []) (eqb-true _ _ first.0) ∙ ap (λ (x : ℕ). 99 ∷ x ∷ c ∷ []) (eqb-true _ _ others.0) ∙ ap (λ (x : ℕ). 99 ∷ 110 ∷ x ∷ []) (eqb-true _ _ others.1)
cnf_word (a ∷ b ∷ c ∷ d ∷ word) e = absurd cc

-- two words are the numbers of variables and of clauses
abbrev pub AreCounts : ℕ → ℕ → List ℕ → List ℕ → Type 0
AreCounts vars count vars_word count_word = (natural_of vars_word ≡ Some vars) × (natural_of count_word ≡ Some count)

end_sound : (vars v n : ℕ) (o : Option ℕ) (found : List (List ℕ)) → header_end vars o found ≡ Good v n → (o ≡ Some n) × (found ≡ []) × (vars ≡ v)
end_sound vars v n None found e = absurd cc
end_sound vars v n (Some count) [] e = (cc, refl, cc)
end_sound vars v n (Some count) (word ∷ found) e = absurd cc

count_sound : (v n : ℕ) (o : Option ℕ) (found : List (List ℕ)) → header_count o found ≡ Good v n → (c : List ℕ) × (found ≡ c ∷ []) × (o ≡ Some v) × (natural_of c ≡ Some n)
unfolding header_count
count_sound v n None found e = absurd cc
count_sound v n (Some vars) [] e = absurd cc
count_sound v n (Some vars) (word ∷ found) e =
    let s = end_sound vars v n (natural_of word) found e in
    (word, ap (λ (ws : List (List ℕ)). word ∷ ws) s.1, ap (λ (k : ℕ). Some k) s.2, s.0)

vars_sound : (v n : ℕ) (found : List (List ℕ)) → header_vars found ≡ Good v n → (w c : List ℕ) × (found ≡ w ∷ c ∷ []) × AreCounts v n w c
unfolding header_vars
vars_sound v n [] e = absurd cc
vars_sound v n (word ∷ found) e =
    let s = count_sound v n (natural_of word) found e in
    (word, s.0, ap (λ (ws : List (List ℕ)). word ∷ ws) s.1, (s.2, s.3))

format_sound : (v n : ℕ) (found : List (List ℕ)) → header_format found ≡ Good v n → (w c : List ℕ) × (found ≡ codes "cnf" ∷ w ∷ c ∷ []) × AreCounts v n w c
unfolding header_format
format_sound v n [] e = absurd cc
format_sound v n (word ∷ found) e = elim (bool_cases (is_cnf word)) [
  | inl t ↦
      let s = vars_sound v n found (rw t at e) in
      (s.0, s.1, cons_same word (codes "cnf") found (s.0 ∷ s.1 ∷ []) (cnf_word word t) s.2, s.3)
  | inr f ↦ absurd (let wrong = rw f at e in cc)
]

pub header_sound : (v n : ℕ) (found : List (List ℕ)) → header_of found ≡ Good v n → (w c : List ℕ) × (found ≡ codes "p" ∷ codes "cnf" ∷ w ∷ c ∷ []) × AreCounts v n w c
unfolding header_of
header_sound v n [] e = absurd cc
header_sound v n (word ∷ found) e = elim (bool_cases (is_p word)) [
  | inl t ↦
      let s = format_sound v n found (rw t at e) in
      (s.0, s.1, cons_same word (codes "p") found (codes "cnf" ∷ s.0 ∷ s.1 ∷ []) (p_word word t) s.2, s.3)
  | inr f ↦ absurd (let wrong = rw f at e in cc)
]

pub header_complete : (v n : ℕ) (w c : List ℕ) → AreCounts v n w c → header_of (codes "p" ∷ codes "cnf" ∷ w ∷ c ∷ []) ≡ Good v n
unfolding header_of header_format header_vars header_count
header_complete v n w c e = rw (e.0, e.1) refl

-- ---- the words of lines

none_word : (found : List (List ℕ)) → has_no_word found ≡ true → found ≡ []
none_word [] e = refl
none_word (word ∷ found) e = absurd cc

silent_words : (line : List ℕ) → says_nothing line ≡ true → said_words line ≡ []
silent_words line e = elim (bool_cases (is_comment line)) [
  | inl t ↦ rw t refl
  | inr f ↦ rw f (none_word (words line) (rw f at e))
]

spoken_words : (line : List ℕ) → says_nothing line ≡ false → said_words line ≡ words line
spoken_words line e = elim (bool_cases (is_comment line)) [
  | inl t ↦ absurd (let wrong = rw t at e in cc)
  | inr f ↦ rw f refl
]

pub some_word : (line : List ℕ) → says_nothing line ≡ false → (word : List ℕ) × (later : List (List ℕ)) × (words line ≡ word ∷ later)
some_word line e = some (words line) (spoken line e)
  where
    some : (found : List (List ℕ)) → has_no_word found ≡ false → (word : List ℕ) × (later : List (List ℕ)) × (found ≡ word ∷ later)
    some [] e = absurd cc
    some (word ∷ found) e = (word, found, refl)

    spoken : (line : List ℕ) → says_nothing line ≡ false → has_no_word (words line) ≡ false
    spoken line e = elim (bool_cases (is_comment line)) [
      | inl t ↦ absurd (let wrong = rw t at e in cc)
      | inr f ↦ rw f at e
    ]

pub quiet_text : (number : ℕ) (line : List ℕ) (later : List (List ℕ)) → says_nothing line ≡ true → text_words number (line ∷ later) ≡ text_words (number + 1) later
quiet_text number line later e = ap (λ (ws : List (List ℕ)). words_on number ws ++ text_words (number + 1) later) (silent_words line e)

pub spoken_text : (number : ℕ) (line : List ℕ) (later : List (List ℕ)) → says_nothing line ≡ false → text_words number (line ∷ later) ≡ words_on number (words line) ++ text_words (number + 1) later
spoken_text number line later e = ap (λ (ws : List (List ℕ)). words_on number ws ++ text_words (number + 1) later) (spoken_words line e)

-- words on later lines than this one
abbrev pub AreBehind : ℕ → List PlacedWord → Type 0
AreBehind number found = AllByRecursion (λ word. number < word.line) found

behind_append : (number : ℕ) (xs ys : List PlacedWord) → AreBehind number xs → AreBehind number ys → AreBehind number (xs ++ ys)
behind_append number [] ys a b = b
behind_append number (x ∷ xs) ys a b = (a.0, behind_append number xs ys a.1 b)

behind_line : (number line : ℕ) (found : List (List ℕ)) → number < line → AreBehind number (words_on line found)
behind_line number line [] lt = tt
behind_line number line (word ∷ found) lt = (lt, behind_line number line found lt)

pub text_behind : (number next : ℕ) (ls : List (List ℕ)) → number < next → AreBehind number (text_words next ls)
text_behind number next [] lt = tt
text_behind number next (line ∷ ls) lt =
    behind_append number (words_on next (said_words line)) (text_words (next + 1) ls) (behind_line number next (said_words line) lt) (text_behind number (next + 1) ls (omega (arith, lt)))

-- words of one line, and words of later ones
pub split : (number : ℕ) (xs ys : List (List ℕ)) (a b : List PlacedWord) → AreBehind number a → AreBehind number b → words_on number xs ++ a ≡ words_on number ys ++ b → (xs ≡ ys) × (a ≡ b)
split number [] [] a b p q e = (refl, e)
split number [] (y ∷ ys) [] b p q e = absurd cc
split number [] (y ∷ ys) (w ∷ a) b p q e =
    let first = cons_head w (record { line = number; bytes = y }) a (words_on number ys ++ b) e in
    absurd (omega (arith, p.0, ap (λ (x : PlacedWord). x.line) first))
split number (x ∷ xs) [] a [] p q e = absurd cc
split number (x ∷ xs) [] a (w ∷ b) p q e =
    let first = cons_head (record { line = number; bytes = x }) w (words_on number xs ++ a) b e in
    absurd (omega (arith, q.0, ap (λ (z : PlacedWord). z.line) first))
split number (x ∷ xs) (y ∷ ys) a b p q e =
    let first = cons_head (record { line = number; bytes = x }) (record { line = number; bytes = y }) (words_on number xs ++ a) (words_on number ys ++ b) e in
    let others = split number xs ys a b p q (cons_tail (record { line = number; bytes = x }) (record { line = number; bytes = y }) (words_on number xs ++ a) (words_on number ys ++ b) e) in
    (cons_same x y xs ys (ap (λ (z : PlacedWord). z.bytes) first) others.0, others.1)

-- ---- what is read is spelled

abbrev Spelled : CnfContent → List PlacedWord → Type 0
Spelled f found = SpellsFormula f.vars f.clauses found

vars_before : (vars : ℕ) (read : Result (List (List Literal)) ℕ) (f : CnfContent) → with_vars vars read ≡ Ok f → (clauses : List (List Literal)) × (read ≡ Ok clauses) × (record { vars = vars; clauses = clauses } ≡ f)
vars_before vars (Ok clauses) f e = (clauses, refl, cc)
vars_before vars (Err line) f e = absurd cc

header_spelled : (last number : ℕ) (line : List ℕ) (later : List (List ℕ)) (h : HeaderLine) (f : CnfContent) → h ≡ header_of (words line) → behind_header last number h later ≡ Ok f
    → Spelled f (words_on number (words line) ++ text_words (number + 1) later)
header_spelled last number line later (Good vars count) f is e =
    let r = vars_before vars (clauses_of_words last vars count [] (text_words (number + 1) later)) f e in
    let h = header_sound vars count (words line) (sym is) in
    let c = clauses_sound last vars count [] (text_words (number + 1) later) r.0 r.1 in
    subst (λ (g : CnfContent). Spelled g (words_on number (words line) ++ text_words (number + 1) later)) r.2
    (record {
      line = number;
      vars_word = h.0;
      count_word = h.1;
      later = text_words (number + 1) later;
      numbers = c.0;
      words = ap (λ (ws : List (List ℕ)). words_on number ws ++ text_words (number + 1) later) h.2;
      variables = h.3.0;
      count = h.3.1 ∙ ap (λ (k : ℕ). Some k) (sym c.2);
      alone = All-from_recursion (λ (word : PlacedWord). number < word.line) (text_words (number + 1) later) (text_behind number (number + 1) later (omega arith));
      all_numbers = c.1;
      grouped = grouped_spells vars r.0 c.0 c.3;
    })
header_spelled last number line later Short f is e = absurd cc
header_spelled last number line later Wrong f is e = absurd cc

text_sound : (last number : ℕ) (ls : List (List ℕ)) (f : CnfContent) → formula_from last number ls ≡ Ok f → Spelled f (text_words number ls)
unfolding formula_from
text_sound last number [] f e = absurd cc
text_sound last number (line ∷ later) f e = elim (bool_cases (says_nothing line)) [
  | inl t ↦
      subst (Spelled f) (sym (quiet_text number line later t)) (text_sound last (number + 1) later f (sym (formula_quiet last number (line ∷ later) later line refl t) ∙ e))
  | inr s ↦
      subst (Spelled f) (sym (spoken_text number line later s))
      (header_spelled last number line later (header_of (words line)) f refl (sym (formula_header last number (line ∷ later) later line (header_of (words line)) refl s refl) ∙ e))
]

pub cnf_sound : (text : List ℕ) (f : CnfContent) → formula_of text ≡ Ok f → SpellsCnf text f.vars f.clauses
cnf_sound text f e = text_sound (last_line text) 1 (lines text) f e

-- ---- what is spelled is read

abbrev content : ℕ → List (List Literal) → Result CnfContent ℕ
content vars clauses = Ok (record { vars = vars; clauses = clauses })

header_read : (last number vars : ℕ) (clauses : List (List Literal)) (line : List ℕ) (later : List (List ℕ)) (s : SpellsFormula vars clauses (words_on number (words line) ++ text_words (number + 1) later)) → number ≡ s.line
    → (words line ≡ codes "p" ∷ codes "cnf" ∷ s.vars_word ∷ s.count_word ∷ []) × (text_words (number + 1) later ≡ s.later)
header_read last number vars clauses line later s same =
    split number (words line) (codes "p" ∷ codes "cnf" ∷ s.vars_word ∷ s.count_word ∷ []) (text_words (number + 1) later) s.later (text_behind number (number + 1) later (omega arith))
    (subst (λ (n : ℕ). AreBehind n s.later) (sym same) (recursion_from_All (λ (word : PlacedWord). s.line < word.line) s.later s.alone))
    (s.words ∙ ap (λ (n : ℕ). words_on n (codes "p" ∷ codes "cnf" ∷ s.vars_word ∷ s.count_word ∷ []) ++ s.later) (sym same))

pub same_line : (number other : ℕ) (word first : List ℕ) (found rest : List (List ℕ)) (a b : List PlacedWord) → words_on number (word ∷ found) ++ a ≡ words_on other (first ∷ rest) ++ b → number ≡ other
same_line number other word first found rest a b e =
    ap (λ (w : PlacedWord). w.line) (cons_head (record { line = number; bytes = word }) (record { line = other; bytes = first }) (words_on number found ++ a) (words_on other rest ++ b) e)

spoken_complete : (last number vars : ℕ) (clauses : List (List Literal)) (line : List ℕ) (later : List (List ℕ)) → says_nothing line ≡ false → SpellsFormula vars clauses (words_on number (words line) ++ text_words (number + 1) later)
    → behind_header last number (header_of (words line)) later ≡ content vars clauses
spoken_complete last number vars clauses line later spoken s =
    let w = some_word line spoken in
    let same : number ≡ s.line
    = same_line number s.line w.0 (codes "p") w.1 (codes "cnf" ∷ s.vars_word ∷ s.count_word ∷ []) (text_words (number + 1) later) s.later
    (subst (λ (ws : List (List ℕ)). words_on number ws ++ text_words (number + 1) later ≡ words_on s.line (codes "p" ∷ codes "cnf" ∷ s.vars_word ∷ s.count_word ∷ []) ++ s.later) w.2 s.words) in
    let r = header_read last number vars clauses line later s same in
    let head : header_of (words line) ≡ Good vars (length clauses) = ap header_of r.0 ∙ header_complete vars (length clauses) s.vars_word s.count_word (s.variables, s.count) in
    let read : clauses_of_words last vars (length clauses) [] (text_words (number + 1) later) ≡ Ok clauses
    = ap (clauses_of_words last vars (length clauses) []) r.1 ∙ clauses_complete last vars [] s.later clauses s.numbers s.all_numbers (spells_grouped vars clauses s.numbers s.grouped) in
    ap (λ (h : HeaderLine). behind_header last number h later) head ∙ ap (with_vars vars) read

text_complete : (last number : ℕ) (ls : List (List ℕ)) (vars : ℕ) (clauses : List (List Literal)) → SpellsFormula vars clauses (text_words number ls) → formula_from last number ls ≡ content vars clauses
text_complete last number [] vars clauses s = absurd (let none = s.words in cc)
text_complete last number (line ∷ later) vars clauses s = elim (bool_cases (says_nothing line)) [
  | inl t ↦
      formula_quiet last number (line ∷ later) later line refl t
      ∙ text_complete last (number + 1) later vars clauses (subst (SpellsFormula vars clauses) (quiet_text number line later t) s)
  | inr f ↦
      formula_header last number (line ∷ later) later line (header_of (words line)) refl f refl
      ∙ spoken_complete last number vars clauses line later f (subst (SpellsFormula vars clauses) (spoken_text number line later f) s)
]

pub cnf_complete : (text : List ℕ) (vars : ℕ) (clauses : List (List Literal)) → SpellsCnf text vars clauses → formula_of text ≡ Ok (record { vars = vars; clauses = clauses })
cnf_complete text vars clauses s = text_complete (last_line text) 1 (lines text) vars clauses s

-- ---- a text spells one formula at most

pub same_content : (text : List ℕ) (f : CnfContent) (vars : ℕ) (clauses : List (List Literal)) → formula_of text ≡ Ok f → SpellsCnf text vars clauses → (f.vars ≡ vars) × (f.clauses ≡ clauses)
same_content text f vars clauses e s =
    let both : content f.vars f.clauses ≡ content vars clauses = sym e ∙ cnf_complete text vars clauses s in
    let same : f ≡ record { vars = vars; clauses = clauses } = cc in
    (ap (λ (g : CnfContent). g.vars) same, ap (λ (g : CnfContent). g.clauses) same)

pub refused_spells_none : (text : List ℕ) (line vars : ℕ) (clauses : List (List Literal)) → formula_of text ≡ Err line → SpellsCnf text vars clauses → ⊥
refused_spells_none text line vars clauses e s = let wrong = sym e ∙ cnf_complete text vars clauses s in cc
