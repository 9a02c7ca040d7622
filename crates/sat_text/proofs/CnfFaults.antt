-- Where the text of a formula is wrong.
use Rattle.std.proofs.Common.{◌≡◌, ℕ, zero, suc, ◌+◌, ◌<◌, false, List, [], ◌∷◌, ◌++◌, length, Option, Some, None, Result, Ok, Err, refl, sym, ap, subst, ◌∙◌, append_assoc, arith, inl, inr, ◌⊎◌}
use Rattle.std.proofs.lemmas.List.{append-nil}
use Rattle.std.proofs.lemmas.List.Elements.{All-from_recursion, recursion_from_All}
use Rattle.std.specs.Prelude.{codes}
use Rattle.cnf_core.specs.Literal.{Literal}
use Rattle.sat_text.specs.declared.header.HeaderLine.{HeaderLine}
use Rattle.sat_text.specs.declared.header.HeaderLine.TheVariants.{Good, Short, Wrong}
use Rattle.sat_text.specs.Words.{lines, last_line, words, says_nothing, PlacedWord, words_on, text_words}
use Rattle.sat_text.specs.Numbers.{natural_of}
use Rattle.sat_text.specs.Cnf.{is_p, is_cnf, header_end, header_count, header_vars, header_format, header_of, clauses_of_words, CnfContent, with_vars, first_word_line, behind_header, formula_from, formula_of}
use Rattle.sat_text.specs.CnfGrammar.{SpellsFormula, CanGoOn, IsFirstWrongWord, IsFaultLine}
use Rattle.sat_text.proofs.Cuts.{bool_cases}
use Rattle.sat_text.proofs.Spelling.{cons_head, cons_tail, cons_same}
use Rattle.sat_text.proofs.ClausesSpelled.{grouped_spells, spells_grouped, clauses_sound, clauses_complete}
use Rattle.sat_text.proofs.ClauseFaults.{zeros, Finishes, ClauseFault, zeros_finish, clauses_fault}
use Rattle.sat_text.proofs.FormulaSteps.{formula_quiet, formula_header}
use Rattle.sat_text.proofs.CnfSpelled.{AreCounts, p_word, cnf_word, header_sound, some_word, quiet_text, spoken_text, AreBehind, text_behind, refused_spells_none}

-- ---- a header and words that complete the clauses

abbrev four : List ℕ → List ℕ → List (List ℕ)
four v c = codes "p" ∷ codes "cnf" ∷ v ∷ c ∷ []

spelled_by : (last number vars count : ℕ) (v c : List ℕ) (clauses : List (List Literal)) (rest : List PlacedWord) → AreCounts vars count v c → AreBehind number rest → clauses_of_words last vars count [] rest ≡ Ok clauses
    → SpellsFormula vars clauses (words_on number (four v c) ++ rest)
spelled_by last number vars count v c clauses rest counts behind read =
    let said = clauses_sound last vars count [] rest clauses read in
    record {
      line = number;
      vars_word = v;
      count_word = c;
      later = rest;
      numbers = said.0;
      words = refl;
      variables = counts.0;
      count = counts.1 ∙ ap (λ (k : ℕ). Some k) (sym said.2);
      alone = All-from_recursion (λ (word : PlacedWord). number < word.line) rest behind;
      all_numbers = said.1;
      grouped = grouped_spells vars clauses said.0 said.3;
    }

four_same : (n m : ℕ) (v c w d : List ℕ) (a b : List PlacedWord) → words_on n (four v c) ++ a ≡ words_on m (four w d) ++ b → (v ≡ w) × (c ≡ d) × (a ≡ b)
four_same n m v c w d a b e =
    let two = cons_tail _ _ _ _ (cons_tail _ _ _ _ e) in
    let three = cons_tail _ _ _ _ two in
    (ap (λ (x : PlacedWord). x.bytes) (cons_head _ _ _ _ two), ap (λ (x : PlacedWord). x.bytes) (cons_head _ _ _ _ three), cons_tail _ _ _ _ three)

number_same : (m n : ℕ) (o : Option ℕ) → o ≡ Some m → o ≡ Some n → m ≡ n
number_same m n o e f = let both : Some m ≡ Some n = sym e ∙ f in cc

read_of : (last number vars count others : ℕ) (v c : List ℕ) (clauses : List (List Literal)) (rest : List PlacedWord) → AreCounts vars count v c → SpellsFormula others clauses (words_on number (four v c) ++ rest)
    → clauses_of_words last vars count [] rest ≡ Ok clauses
read_of last number vars count others v c clauses rest counts s =
    let same = four_same number s.line v c s.vars_word s.count_word rest s.later s.words in
    let vars-is : others ≡ vars = number_same others vars (natural_of v) (ap natural_of same.0 ∙ s.variables) counts.0 in
    let count-is : length clauses ≡ count = number_same (length clauses) count (natural_of c) (ap natural_of same.1 ∙ s.count) counts.1 in
    let read : clauses_of_words last others (length clauses) [] s.later ≡ Ok clauses = clauses_complete last others [] s.later clauses s.numbers s.all_numbers (spells_grouped others clauses s.numbers s.grouped) in
    ap (clauses_of_words last vars count []) same.2
    ∙ subst (λ (n : ℕ). clauses_of_words last vars n [] s.later ≡ Ok clauses) count-is
    (subst (λ (n : ℕ). clauses_of_words last n (length clauses) [] s.later ≡ Ok clauses) vars-is read)

-- ---- words of one line

words_on_append : (number : ℕ) (xs ys : List (List ℕ)) → words_on number (xs ++ ys) ≡ words_on number xs ++ words_on number ys
words_on_append number [] ys = refl
words_on_append number (x ∷ xs) ys = ap (λ (ws : List PlacedWord). record { line = number; bytes = x } ∷ ws) (words_on_append number xs ys)

zeros_behind : (number line n : ℕ) → number < line → AreBehind number (zeros line n)
zeros_behind number line zero lt = tt
zeros_behind number line (suc n) lt = (lt, zeros_behind number line n lt)

behind_joined : (number : ℕ) (xs ys : List PlacedWord) → AreBehind number xs → AreBehind number ys → AreBehind number (xs ++ ys)
behind_joined number [] ys a b = b
behind_joined number (x ∷ xs) ys a b = (a.0, behind_joined number xs ys a.1 b)

behind_front : (number : ℕ) (xs ys : List PlacedWord) → AreBehind number (xs ++ ys) → AreBehind number xs
behind_front number [] ys a = tt
behind_front number (x ∷ xs) ys a = (a.0, behind_front number xs ys a.1)

-- words that further words make a header, or the part of one that target tells
abbrev Begins : (List ℕ → List ℕ → List (List ℕ)) → List (List ℕ) → Type 0
Begins target front =
    (rest : List (List ℕ)) × (v c : List ℕ) × (vars count : ℕ) × (front ++ rest ≡ target v c) × AreCounts vars count v c

begins_goes_on : (number : ℕ) (front : List (List ℕ)) → Begins four front → CanGoOn (words_on number front)
begins_goes_on number front b =
    let z = zeros_finish 0 b.3 b.4 (number + 1) [] in
    let behind = zeros_behind number (number + 1) b.4 (omega arith) in
    let ends = zeros (number + 1) b.4 in
    let joined : words_on number (four b.1 b.2) ++ ends ≡ words_on number front ++ (words_on number b.0 ++ ends)
    = ap (λ (ws : List (List ℕ)). words_on number ws ++ ends) (sym b.5) ∙ ap (λ (ws : List PlacedWord). ws ++ ends) (words_on_append number front b.0) ∙ append_assoc (words_on number front) (words_on number b.0) ends in (
      words_on number b.0 ++ ends,
      b.3,
      z.0,
      subst (SpellsFormula b.3 z.0) joined (spelled_by 0 number b.3 b.4 b.1 b.2 z.0 ends b.6 behind z.1),
    )

-- ---- a header that is too short

abbrev zero_word : List ℕ
zero_word = 48 ∷ []

abbrev format_target : List ℕ → List ℕ → List (List ℕ)
format_target v c = codes "cnf" ∷ v ∷ c ∷ []

abbrev vars_target : List ℕ → List ℕ → List (List ℕ)
vars_target v c = v ∷ c ∷ []

nothing_begins : Begins four []
nothing_begins = (four zero_word zero_word, zero_word, zero_word, 0, 0, refl, (refl, refl))

end_not_short : (vars : ℕ) (o : Option ℕ) (found : List (List ℕ)) → header_end vars o found ≡ Short → ⊥
end_not_short vars None found e = cc
end_not_short vars (Some count) [] e = cc
end_not_short vars (Some count) (word ∷ found) e = cc

count_short : (o : Option ℕ) (found : List (List ℕ)) → header_count o found ≡ Short → (n : ℕ) × (o ≡ Some n) × (found ≡ [])
unfolding header_count
count_short None found e = absurd cc
count_short (Some vars) [] e = (vars, refl, refl)
count_short (Some vars) (word ∷ found) e = absurd (end_not_short vars (natural_of word) found e)

vars_short : (found : List (List ℕ)) → header_vars found ≡ Short → Begins vars_target found × (length found < 2)
unfolding header_vars
vars_short [] e = ((vars_target zero_word zero_word, zero_word, zero_word, 0, 0, refl, (refl, refl)), omega arith)
vars_short (word ∷ found) e =
    let s = count_short (natural_of word) found e in
    subst (λ (ws : List (List ℕ)). Begins vars_target (word ∷ ws) × (length (word ∷ ws) < 2)) (sym s.2) ((zero_word ∷ [], word, zero_word, s.0, 0, refl, (s.1, refl)), omega arith)

format_short : (found : List (List ℕ)) → header_format found ≡ Short → Begins format_target found × (length found < 3)
unfolding header_format
format_short [] e = ((format_target zero_word zero_word, zero_word, zero_word, 0, 0, refl, (refl, refl)), omega arith)
format_short (word ∷ found) e = elim (bool_cases (is_cnf word)) [
  | inl t ↦
      let s = vars_short found (rw t at e) in
      let b = s.0 in
      ((b.0, b.1, b.2, b.3, b.4, cons_same word (codes "cnf") (found ++ b.0) (vars_target b.1 b.2) (cnf_word word t) b.5, b.6), omega (arith, s.1))
  | inr f ↦ absurd (let wrong = rw f at e in cc)
]

header_short : (found : List (List ℕ)) → header_of found ≡ Short → Begins four found × (length found < 4)
unfolding header_of
header_short [] e = (nothing_begins, omega arith)
header_short (word ∷ found) e = elim (bool_cases (is_p word)) [
  | inl t ↦
      let s = format_short found (rw t at e) in
      let b = s.0 in
      ((b.0, b.1, b.2, b.3, b.4, cons_same word (codes "p") (found ++ b.0) (format_target b.1 b.2) (p_word word t) b.5, b.6), omega (arith, s.1))
  | inr f ↦ absurd (let wrong = rw f at e in cc)
]

-- ---- a header with a wrong word

-- the first word that no words behind it make a header
abbrev WrongIn : (List ℕ → List ℕ → List (List ℕ)) → List (List ℕ) → Type 0
WrongIn target found =
    (front later : List (List ℕ)) × (word : List ℕ) × (found ≡ front ++ word ∷ later) × Begins target front
    × ((more : List (List ℕ)) (v c : List ℕ) (vars count : ℕ) → front ++ word ∷ more ≡ target v c → AreCounts vars count v c → ⊥)

end_wrong : (vars : ℕ) (v word : List ℕ) (found : List (List ℕ)) → natural_of v ≡ Some vars → header_end vars (natural_of word) found ≡ Wrong → WrongIn vars_target (v ∷ word ∷ found)
end_wrong vars v word found is e = by_number (natural_of word) refl e
  where
    by_number : (o : Option ℕ) → natural_of word ≡ o → header_end vars o found ≡ Wrong → WrongIn vars_target (v ∷ word ∷ found)
    by_number None none e = (
      v ∷ [],
      found,
      word,
      refl,
      (zero_word ∷ [], v, zero_word, vars, 0, refl, (is, refl)),
      λ more w d n count same counts. let word-is : word ≡ d = cons_head _ _ _ _ (cons_tail _ _ _ _ same) in let wrong = sym none ∙ ap natural_of word-is ∙ counts.1 in cc,
    )
    by_number (Some count) some e = extra found count some e
      where
        extra : (found : List (List ℕ)) (count : ℕ) → natural_of word ≡ Some count → header_end vars (Some count) found ≡ Wrong → WrongIn vars_target (v ∷ word ∷ found)
        extra [] count some e = absurd cc
        extra (next ∷ found) count some e = (
          v ∷ word ∷ [],
          found,
          next,
          refl,
          ([], v, word, vars, count, refl, (is, some)),
          λ more w d n k same counts. let wrong = cons_tail _ _ _ _ (cons_tail _ _ _ _ same) in cc,
        )

vars_wrong : (found : List (List ℕ)) → header_vars found ≡ Wrong → WrongIn vars_target found
unfolding header_vars header_count
vars_wrong [] e = absurd cc
vars_wrong (word ∷ found) e = by_number (natural_of word) refl found e
  where
    by_number : (o : Option ℕ) → natural_of word ≡ o → (found : List (List ℕ)) → header_count o found ≡ Wrong → WrongIn vars_target (word ∷ found)
    by_number None none found e = (
      [],
      found,
      word,
      refl,
      (vars_target zero_word zero_word, zero_word, zero_word, 0, 0, refl, (refl, refl)),
      λ more w d n count same counts. let word-is : word ≡ w = cons_head _ _ _ _ same in let wrong = sym none ∙ ap natural_of word-is ∙ counts.0 in cc,
    )
    by_number (Some vars) some [] e = absurd cc
    by_number (Some vars) some (next ∷ found) e = end_wrong vars word next found some e

wrong_behind : (first word : List ℕ) (target : List ℕ → List ℕ → List (List ℕ)) (found : List (List ℕ)) → word ≡ first → WrongIn target found → WrongIn (λ v c. first ∷ target v c) (word ∷ found)
wrong_behind first word target found is w =
    let b = w.4 in (
      word ∷ w.0,
      w.1,
      w.2,
      ap (λ (ws : List (List ℕ)). word ∷ ws) w.3,
      (b.0, b.1, b.2, b.3, b.4, cons_same word first (w.0 ++ b.0) (target b.1 b.2) is b.5, b.6),
      λ more v c vars count same counts. w.5 more v c vars count (cons_tail _ _ _ _ same) counts,
    )

wrong_first : (first word : List ℕ) (target : List ℕ → List ℕ → List (List ℕ)) (found : List (List ℕ)) → (word ≡ first → ⊥) → Begins (λ v c. first ∷ target v c) [] → WrongIn (λ v c. first ∷ target v c) (word ∷ found)
wrong_first first word target found not begins = ([], found, word, refl, begins, λ more v c vars count same counts. not (cons_head _ _ _ _ same))

format_wrong : (found : List (List ℕ)) → header_format found ≡ Wrong → WrongIn format_target found
unfolding header_format
format_wrong [] e = absurd cc
format_wrong (word ∷ found) e = elim (bool_cases (is_cnf word)) [
  | inl t ↦ wrong_behind (codes "cnf") word vars_target found (cnf_word word t) (vars_wrong found (rw t at e))
  | inr f ↦
      wrong_first (codes "cnf") word vars_target found (λ is. let wrong = sym f ∙ ap is_cnf is in cc)
      (format_target zero_word zero_word, zero_word, zero_word, 0, 0, refl, (refl, refl))
]

header_wrong : (found : List (List ℕ)) → header_of found ≡ Wrong → WrongIn four found
unfolding header_of
header_wrong [] e = absurd cc
header_wrong (word ∷ found) e = elim (bool_cases (is_p word)) [
  | inl t ↦ wrong_behind (codes "p") word format_target found (p_word word t) (format_wrong found (rw t at e))
  | inr f ↦ wrong_first (codes "p") word format_target found (λ is. let wrong = sym f ∙ ap is_p is in cc) nothing_begins
]

-- ---- words that can't be those of a header

-- words of one line at the front are the first of the header's, since the other words stand on later lines
prefix : (line : ℕ) (xs ys : List (List ℕ)) (more later : List PlacedWord) → AreBehind line later → words_on line xs ++ more ≡ words_on line ys ++ later → (rest : List (List ℕ)) × (xs ++ rest ≡ ys)
prefix line [] ys more later behind e = (ys, refl)
prefix line (x ∷ xs) [] more [] behind e = absurd cc
prefix line (x ∷ xs) [] more (w ∷ later) behind e =
    absurd (omega (arith, behind.0, ap (λ (z : PlacedWord). z.line) (cons_head (record { line = line; bytes = x }) w (words_on line xs ++ more) later e)))
prefix line (x ∷ xs) (y ∷ ys) more later behind e =
    let a : PlacedWord = record { line = line; bytes = x } in
    let b : PlacedWord = record { line = line; bytes = y } in
    let r = prefix line xs ys more later behind (cons_tail a b (words_on line xs ++ more) (words_on line ys ++ later) e) in
    (r.0, cons_same x y (xs ++ r.0) ys (ap (λ (z : PlacedWord). z.bytes) (cons_head a b (words_on line xs ++ more) (words_on line ys ++ later) e)) r.1)

-- fewer words of one line are followed by a word of that line
next_on_line : (line other : ℕ) (xs ys : List (List ℕ)) (word : PlacedWord) (more later : List PlacedWord) → length xs < length ys → words_on other xs ++ word ∷ more ≡ words_on line ys ++ later → word.line ≡ line
next_on_line line other [] [] word more later lt e = absurd (omega (arith, lt))
next_on_line line other [] (y ∷ ys) word more later lt e = ap (λ (z : PlacedWord). z.line) (cons_head word (record { line = line; bytes = y }) more (words_on line ys ++ later) e)
next_on_line line other (x ∷ xs) [] word more later lt e = absurd (omega (arith, lt))
next_on_line line other (x ∷ xs) (y ∷ ys) word more later lt e =
    next_on_line line other xs ys word more later (omega (arith, lt)) (cons_tail (record { line = other; bytes = x }) (record { line = line; bytes = y }) (words_on other xs ++ word ∷ more) (words_on line ys ++ later) e)

-- the line of the first word
first_line : (number line : ℕ) (xs ys : List (List ℕ)) (more later : List PlacedWord) → 0 < length xs → 0 < length ys → words_on number xs ++ more ≡ words_on line ys ++ later → number ≡ line
first_line number line [] ys more later some others e = absurd (omega (arith, some))
first_line number line (x ∷ xs) [] more later some others e = absurd (omega (arith, others))
first_line number line (x ∷ xs) (y ∷ ys) more later some others e =
    ap (λ (z : PlacedWord). z.line) (cons_head (record { line = number; bytes = x }) (record { line = line; bytes = y }) (words_on number xs ++ more) (words_on line ys ++ later) e)

some_before : (front : List (List ℕ)) (word : List ℕ) → 0 < length (front ++ word ∷ [])
some_before [] word = omega arith
some_before (x ∷ front) word = omega arith

wrong_never : (number : ℕ) (front : List (List ℕ)) (word : List ℕ) (others : ℕ) (clauses : List (List Literal)) (more : List PlacedWord)
    → ((rest : List (List ℕ)) (v c : List ℕ) (vars count : ℕ) → front ++ word ∷ rest ≡ four v c → AreCounts vars count v c → ⊥)
    → SpellsFormula others clauses ((words_on number front ++ record { line = number; bytes = word } ∷ []) ++ more) → ⊥
wrong_never number front word others clauses more never s =
    let here = four s.vars_word s.count_word in
    let joined : words_on number (front ++ word ∷ []) ++ more ≡ words_on s.line here ++ s.later
    = ap (λ (ws : List PlacedWord). ws ++ more) (words_on_append number front (word ∷ [])) ∙ s.words in
    let line-is : number ≡ s.line = first_line number s.line (front ++ word ∷ []) here more s.later (some_before front word) (omega arith) joined in
    let on : words_on s.line (front ++ word ∷ []) ++ more ≡ words_on s.line here ++ s.later = subst (λ (n : ℕ). words_on n (front ++ word ∷ []) ++ more ≡ words_on s.line here ++ s.later) line-is joined in
    let r = prefix s.line (front ++ word ∷ []) here more s.later (recursion_from_All (λ (w : PlacedWord). s.line < w.line) s.later s.alone) on in
    never r.0 s.vars_word s.count_word others (length clauses) (sym (append_assoc front (word ∷ []) r.0) ∙ r.1) (s.variables, s.count)

short_never : (number : ℕ) (found : List (List ℕ)) (word : PlacedWord) (others : ℕ) (clauses : List (List Literal)) (more : List PlacedWord) → 0 < length found → length found < 4 → number < word.line
    → SpellsFormula others clauses ((words_on number found ++ word ∷ []) ++ more) → ⊥
short_never number found word others clauses more some short behind s =
    let here = four s.vars_word s.count_word in
    let joined : words_on number found ++ word ∷ more ≡ words_on s.line here ++ s.later = sym (append_assoc (words_on number found) (word ∷ []) more) ∙ s.words in
    let line-is : number ≡ s.line = first_line number s.line found here (word ∷ more) s.later some (omega arith) joined in
    let next-is : word.line ≡ s.line = next_on_line s.line number found here word more s.later (omega (arith, short)) joined in
    omega (arith, behind, line-is, next-is)

-- ---- the fault of lines

abbrev Fault : List PlacedWord → ℕ → ℕ → Type 0
Fault found last at = ((word : PlacedWord) × IsFirstWrongWord found word × (at ≡ word.line)) ⊎ (CanGoOn found × (at ≡ last))

header_at : (last number vars count : ℕ) (v c : List ℕ) (rest : List PlacedWord) (at : ℕ) → AreCounts vars count v c → AreBehind number rest → ClauseFault last vars count (number + 1) [] rest at
    → Fault (words_on number (four v c) ++ rest) last at
header_at last number vars count v c rest at counts behind (inl w) =
    let head = words_on number (four v c) in
    inl (
      w.2,
      record {
        front = head ++ w.0;
        later = w.1;
        all_words = ap (λ (ws : List PlacedWord). head ++ ws) w.3 ∙ sym (append_assoc head w.0 (w.2 ∷ w.1));
        good_before = goes_on last number vars count v c w.0 counts (behind_front number w.0 (w.2 ∷ w.1) (subst (AreBehind number) w.3 behind)) w.4;
        not_good = λ g.
            w.5 g.0 g.2
            (read_of last number vars count g.1 v c g.2 (w.0 ++ w.2 ∷ g.0) counts
            (subst (SpellsFormula g.1 g.2) (regroup head w.0 w.2 g.0) g.3));
      },
      w.6,
    )
  where
    goes_on : (last number vars count : ℕ) (v c : List ℕ) (front : List PlacedWord) → AreCounts vars count v c → AreBehind number front → Finishes last vars count (number + 1) [] front → CanGoOn (words_on number (four v c) ++ front)
    goes_on last number vars count v c front counts behind f =
        let ends = zeros (number + 1) f.0 in (
          ends,
          vars,
          f.1,
          subst (SpellsFormula vars f.1) (sym (append_assoc (words_on number (four v c)) front ends))
              (spelled_by last number vars count v c f.1 (front ++ ends) counts (behind_joined number front ends behind (zeros_behind number (number + 1) f.0 (omega arith))) f.2),
        )

    regroup : (head front : List PlacedWord) (word : PlacedWord) (more : List PlacedWord) → ((head ++ front) ++ word ∷ []) ++ more ≡ head ++ (front ++ word ∷ more)
    regroup head front word more = append_assoc (head ++ front) (word ∷ []) more ∙ append_assoc head front (word ∷ more)
header_at last number vars count v c rest at counts behind (inr f) =
    let ends = zeros (number + 1) f.0.0 in
    inr (
      (
        ends,
        vars,
        f.0.1,
        subst (SpellsFormula vars f.0.1) (sym (append_assoc (words_on number (four v c)) rest ends))
            (spelled_by last number vars count v c f.0.1 (rest ++ ends) counts (behind_joined number rest ends behind (zeros_behind number (number + 1) f.0.0 (omega arith))) f.0.2),
      ),
      f.1,
    )

vars_error : (vars : ℕ) (read : Result (List (List Literal)) ℕ) (at : ℕ) → with_vars vars read ≡ Err at → read ≡ Err at
vars_error vars (Ok clauses) at e = absurd cc
vars_error vars (Err line) at e = let same : line ≡ at = cc in ap (λ (k : ℕ). Err k) same

content_error : (line at : ℕ) → ◌≡◌ {A = Result CnfContent ℕ} (Err line) (Err at) → at ≡ line
content_error line at e = cc

short_at : (last number at : ℕ) (found : List (List ℕ)) (rest : List PlacedWord) → 0 < length found → length found < 4 → Begins four found → AreBehind number rest → at ≡ first_word_line last rest → Fault (words_on number found ++ rest) last at
short_at last number at found [] some short begins behind is = inr (subst CanGoOn (sym (append-nil (words_on number found))) (begins_goes_on number found begins), is)
short_at last number at found (word ∷ rest) some short begins behind is =
    inl (
      word,
      record {
        front = words_on number found;
        later = rest;
        all_words = refl;
        good_before = begins_goes_on number found begins;
        not_good = λ g. short_never number found word g.1 g.2 g.0 some short behind.0 g.3;
      },
      is,
    )

wrong_at : (last number : ℕ) (found : List (List ℕ)) (rest : List PlacedWord) → WrongIn four found → Fault (words_on number found ++ rest) last number
wrong_at last number found rest w =
    let word : PlacedWord = record { line = number; bytes = w.2 } in
    let parts : words_on number found ++ rest ≡ words_on number w.0 ++ word ∷ (words_on number w.1 ++ rest)
    = ap (λ (ws : List (List ℕ)). words_on number ws ++ rest) w.3 ∙ ap (λ (ws : List PlacedWord). ws ++ rest) (words_on_append number w.0 (w.2 ∷ w.1)) ∙ append_assoc (words_on number w.0) (word ∷ words_on number w.1) rest in
    inl (
      word,
      record {
        front = words_on number w.0;
        later = words_on number w.1 ++ rest;
        all_words = parts;
        good_before = begins_goes_on number w.0 w.4;
        not_good = λ g. wrong_never number w.0 w.2 g.1 g.2 g.0 w.5 g.3;
      },
      refl,
    )

line_fault : (last number : ℕ) (line : List ℕ) (later : List (List ℕ)) (h : HeaderLine) (at : ℕ) → says_nothing line ≡ false → h ≡ header_of (words line) → behind_header last number h later ≡ Err at
    → Fault (words_on number (words line) ++ text_words (number + 1) later) last at
line_fault last number line later (Good vars count) at spoken is e =
    let head = header_sound vars count (words line) (sym is) in
    let rest = text_words (number + 1) later in
    subst (λ (ws : List (List ℕ)). Fault (words_on number ws ++ rest) last at) (sym head.2)
    (header_at last number vars count head.0 head.1 rest at head.3 (text_behind number (number + 1) later (omega arith)) (clauses_fault last vars count (number + 1) [] rest at (vars_error vars (clauses_of_words last vars count [] rest) at e)))
line_fault last number line later Short at spoken is e =
    let s = header_short (words line) (sym is) in
    let w = some_word line spoken in
    let some : 0 < length (words line) = subst (λ (ws : List (List ℕ)). 0 < length ws) (sym w.2) (omega arith) in
    short_at last number at (words line) (text_words (number + 1) later) some s.1 s.0 (text_behind number (number + 1) later (omega arith)) (content_error _ at e)
line_fault last number line later Wrong at spoken is e =
    subst (Fault (words_on number (words line) ++ text_words (number + 1) later) last) (sym (content_error number at e)) (wrong_at last number (words line) (text_words (number + 1) later) (header_wrong (words line) (sym is)))

text_fault : (last number : ℕ) (ls : List (List ℕ)) (at : ℕ) → formula_from last number ls ≡ Err at → Fault (text_words number ls) last at
unfolding formula_from
text_fault last number [] at e = inr (begins_goes_on number [] nothing_begins, content_error last at e)
text_fault last number (line ∷ later) at e = elim (bool_cases (says_nothing line)) [
  | inl t ↦
      subst (λ (ws : List PlacedWord). Fault ws last at) (sym (quiet_text number line later t))
      (text_fault last (number + 1) later at (sym (formula_quiet last number (line ∷ later) later line refl t) ∙ e))
  | inr f ↦
      subst (λ (ws : List PlacedWord). Fault ws last at) (sym (spoken_text number line later f))
      (line_fault last number line later (header_of (words line)) at f refl (sym (formula_header last number (line ∷ later) later line (header_of (words line)) refl f refl) ∙ e))
]

pub fault_line : (text : List ℕ) (line : ℕ) → formula_of text ≡ Err line → IsFaultLine text line
fault_line text line e = elim (text_fault (last_line text) 1 (lines text) line e) [
  | inl wrong ↦ inl wrong
  | inr few ↦ inr (few.0, λ vars clauses s. refused_spells_none text line vars clauses e s, few.1)
]
