-- The reader of a proof's text reads what its grammar spells.
use Rattle.std.proofs.Common.{◌≡◌, ℕ, ◌+◌, ℤ, pos, ◌≤◌, true, false, not, List, [], ◌∷◌, ◌++◌, All, length, map, filter, Option, Some, None, Result, Ok, Err, refl, sym, ap, subst, ◌∙◌, append_assoc, arith, inl, inr, ◌⊎◌}
use Rattle.std.proofs.lemmas.Bool.{eqb-true}
use Rattle.std.proofs.lemmas.List.{append-nil, map-id}
use Rattle.std.proofs.lemmas.List.Elements.{All-from_recursion, recursion_from_All}
use Rattle.std.specs.List.{AllByRecursion}
use Rattle.std.specs.Prelude.{codes}
use Rattle.cnf_core.specs.Literal.{Literal}
use Rattle.cnf_core.specs.Lines.{ProofLine, add, delete}
use Rattle.sat_text.specs.Words.{lines, words, says_nothing}
use Rattle.sat_text.specs.Numbers.{whole_of}
use Rattle.sat_text.specs.Clauses.{number_of, in_order}
use Rattle.sat_text.specs.Answers.{◌>>=◌}
use Rattle.sat_text.specs.Proofs.{whole_at, items_at, positive_of, any_literal, any_hint, at_end, addition_at, deletion_at, is_d, behind_id, line_of, before_others, proof_from, proof_of}
use Rattle.sat_text.specs.CnfGrammar.{SpellsNumbers}
use Rattle.sat_text.specs.LogGrammar.{SpellsLine, SpellLines, SpellsLog, IsLogLine, IsFirstWrongLine}
use Rattle.sat_text.proofs.Cuts.{bool_cases}
use Rattle.sat_text.proofs.LogAgain.{number_not_d}
use Rattle.sat_text.proofs.Spelling.{cons_same, cons_head, cons_tail, in_order_is_clause, clause_is_in_order}
use Rattle.sat_text.proofs.ItemsSpelled.{bind_some, some_is, numbers_append, numbers_split, literals_have, hints_have, ids_have, positive_sound, positive_complete, items_sound, items_complete}

abbrev IsVar : Literal → Type 0
IsVar l = 1 ≤ l.var

abbrev IsHint : ℤ → Type 0
IsHint n = n ≡ pos 0 → ⊥

abbrev IsId : ℕ → Type 0
IsId n = 1 ≤ n

-- ---- a line that is read is spelled

nothing_left : (x y : ProofLine) (found : List (List ℕ)) → at_end x found ≡ Some y → (found ≡ []) × (x ≡ y)
nothing_left x y [] e = (refl, cc)
nothing_left x y (word ∷ found) e = absurd cc

-- the numbers of literals and of hints, each with a 0 behind them
two_parts : (id : ℕ) (literals : List Literal) (hints : List ℤ) (word : List ℕ) (later front back : List (List ℕ)) → whole_of word ≡ Some (pos id) → later ≡ front ++ back
    → SpellsNumbers (map number_of literals ++ pos 0 ∷ []) front → SpellsNumbers (map (λ n. n) hints ++ pos 0 ∷ []) back
    → SpellsNumbers (pos id ∷ (map number_of literals ++ pos 0 ∷ (hints ++ pos 0 ∷ []))) (word ∷ later)
two_parts id literals hints word later front back w parts f b =
    let ls = map number_of literals in
    let plain : SpellsNumbers (hints ++ pos 0 ∷ []) back = subst (λ (ns : List ℤ). SpellsNumbers (ns ++ pos 0 ∷ []) back) (map-id hints) b in
    let both : SpellsNumbers ((ls ++ pos 0 ∷ []) ++ (hints ++ pos 0 ∷ [])) (front ++ back) = numbers_append (ls ++ pos 0 ∷ []) (hints ++ pos 0 ∷ []) front back f plain in
    let grouped : SpellsNumbers (ls ++ (pos 0 ∷ (hints ++ pos 0 ∷ []))) (front ++ back) = subst (λ (ns : List ℤ). SpellsNumbers ns (front ++ back)) (append_assoc ls (pos 0 ∷ []) (hints ++ pos 0 ∷ [])) both in
    let whole : SpellsNumbers (ls ++ (pos 0 ∷ (hints ++ pos 0 ∷ []))) later = subst (SpellsNumbers (ls ++ (pos 0 ∷ (hints ++ pos 0 ∷ [])))) (sym parts) grouped in
    cons_same (whole_of word) (Some (pos id)) (map whole_of later) (map (λ n. Some n) (ls ++ (pos 0 ∷ (hints ++ pos 0 ∷ [])))) w whole

addition_sound : (id : ℕ) (word : List ℕ) (later : List (List ℕ)) (line : ProofLine) → whole_of word ≡ Some (pos id) → 1 ≤ id → addition_at id later ≡ Some line → SpellsLine line (word ∷ later)
unfolding addition_at
addition_sound id word later line w some e =
    let a = bind_some (items_at any_literal later) _ line e in
    let b = bind_some (items_at any_hint a.0.1) _ line a.2 in
    let end = nothing_left (add id (in_order a.0.0) b.0.0) line b.0.1 b.2 in
    let ls = items_sound any_literal number_of IsVar literals_have later a.0.0 a.0.1 a.1 in
    let hs = items_sound any_hint (λ n. n) IsHint hints_have a.0.1 b.0.0 b.0.1 b.1 in
    let parts : later ≡ ls.0 ++ hs.0 = ls.1 ∙ ap (λ (ws : List (List ℕ)). ls.0 ++ ws) (hs.1 ∙ ap (λ (ws : List (List ℕ)). hs.0 ++ ws) end.0 ∙ append-nil hs.0) in
    subst (λ (l : ProofLine). SpellsLine l (word ∷ later)) end.1 (
      a.0.0,
      some,
      All-from_recursion IsVar a.0.0 ls.3,
      in_order_is_clause (in_order a.0.0) a.0.0 refl,
      All-from_recursion IsHint b.0.0 hs.3,
      two_parts id a.0.0 b.0.0 word later ls.0 hs.0 w parts ls.2 hs.2,
    )

deletion_sound : (id : ℕ) (word : List ℕ) (later : List (List ℕ)) (line : ProofLine) → whole_of word ≡ Some (pos id) → 1 ≤ id → deletion_at later ≡ Some line → SpellsLine line (word ∷ codes "d" ∷ later)
unfolding deletion_at
deletion_sound id word later line w some e =
    let a = bind_some (items_at positive_of later) _ line e in
    let end = nothing_left (delete a.0.0) line a.0.1 a.2 in
    let is = items_sound positive_of (λ n. pos n) IsId ids_have later a.0.0 a.0.1 a.1 in
    let whole : later ≡ is.0 = is.1 ∙ ap (λ (ws : List (List ℕ)). is.0 ++ ws) end.0 ∙ append-nil is.0 in
    subst (λ (l : ProofLine). SpellsLine l (word ∷ codes "d" ∷ later)) end.1
    (id, word, later, refl, w, some, All-from_recursion IsId a.0.0 is.3, subst (SpellsNumbers (map (λ n. pos n) a.0.0 ++ pos 0 ∷ [])) (sym whole) is.2)

d_word : (word : List ℕ) → is_d word ≡ true → word ≡ codes "d"
d_word [] e = absurd cc
d_word (b ∷ []) e = ap (λ (c : ℕ). c ∷ []) (eqb-true _ _ e)
d_word (b ∷ c ∷ word) e = absurd cc

behind_sound : (id : ℕ) (word : List ℕ) (later : List (List ℕ)) (line : ProofLine) → whole_of word ≡ Some (pos id) → 1 ≤ id → behind_id id later ≡ Some line → SpellsLine line (word ∷ later)
unfolding behind_id
behind_sound id word [] line w some e = absurd cc
behind_sound id word (next ∷ later) line w some e = elim (bool_cases (is_d next)) [
  | inl t ↦ subst (λ (d : List ℕ). SpellsLine line (word ∷ d ∷ later)) (sym (d_word next t)) (deletion_sound id word later line w some (rw t at e))
  | inr f ↦ addition_sound id word (next ∷ later) line w some (rw f at e)
]

pub line_sound : (found : List (List ℕ)) (line : ProofLine) → line_of found ≡ Some line → SpellsLine line found
unfolding line_of whole_at
line_sound [] line e = absurd cc
line_sound (word ∷ later) line e =
    let a = bind_some (whole_of word >>= λ n. Some (n, later)) _ line e in
    let first = bind_some (whole_of word) (λ n. Some (n, later)) a.0 a.1 in
    let pair : (first.0, later) ≡ a.0 = some_is (first.0, later) a.0 first.2 in
    let number : first.0 ≡ a.0.0 = ap (λ (p : ℤ × List (List ℕ)). p.0) pair in
    let rest : later ≡ a.0.1 = ap (λ (p : ℤ × List (List ℕ)). p.1) pair in
    let b = bind_some (positive_of a.0.0) _ line a.2 in
    let id = positive_sound a.0.0 b.0 b.1 in
    behind_sound b.0 word later line (first.1 ∙ ap (λ (n : ℤ). Some n) (number ∙ id.0)) id.1 (ap (behind_id b.0) rest ∙ b.2)

-- ---- a line that is spelled is read

addition_complete : (id : ℕ) (later : List (List ℕ)) (clause literals : List Literal) (hints : List ℤ) → AllByRecursion IsVar literals → clause ≡ in_order literals → AllByRecursion IsHint hints
    → (front back : List (List ℕ)) → later ≡ front ++ back → SpellsNumbers (map number_of literals ++ pos 0 ∷ []) front → SpellsNumbers (hints ++ pos 0 ∷ []) back → addition_at id later ≡ Some (add id clause hints)
unfolding addition_at
addition_complete id later clause literals hints vars made not_zero front back parts f b =
    let first : items_at any_literal later ≡ Some (literals, back) = ap (items_at any_literal) parts ∙ items_complete any_literal number_of IsVar literals_have front back literals f vars in
    let plain : SpellsNumbers (map (λ n. n) hints ++ pos 0 ∷ []) back = subst (λ (ns : List ℤ). SpellsNumbers (ns ++ pos 0 ∷ []) back) (sym (map-id hints)) b in
    let second : items_at any_hint back ≡ Some (hints, []) = ap (items_at any_hint) (sym (append-nil back)) ∙ items_complete any_hint (λ n. n) IsHint hints_have back [] hints plain not_zero in
    rw (first, second) (ap (λ (c : List Literal). Some (add id c hints)) (sym made))

number_first : (xs ys : List ℤ) (found : List (List ℕ)) → SpellsNumbers (xs ++ pos 0 ∷ ys) found → (word : List ℕ) × (later : List (List ℕ)) × (n : ℤ) × (found ≡ word ∷ later) × (whole_of word ≡ Some n)
number_first [] ys [] s = absurd cc
number_first [] ys (word ∷ later) s = (word, later, pos 0, refl, cons_head _ _ _ _ s)
number_first (x ∷ xs) ys [] s = absurd cc
number_first (x ∷ xs) ys (word ∷ later) s = (word, later, x, refl, cons_head _ _ _ _ s)

not_deleting : (id : ℕ) (found later : List (List ℕ)) (word : List ℕ) (n : ℤ) → found ≡ word ∷ later → whole_of word ≡ Some n → behind_id id found ≡ addition_at id found
unfolding behind_id
not_deleting id found later word n is w = rw is (rw (number_not_d word n w) refl)

line_starts : (word : List ℕ) (later : List (List ℕ)) (id : ℕ) → whole_of word ≡ Some (pos id) → 1 ≤ id → line_of (word ∷ later) ≡ behind_id id later
unfolding line_of whole_at
line_starts word later id w some = rw w (rw (positive_complete id some) refl)

deletion_complete : (ids : List ℕ) (later : List (List ℕ)) → All IsId ids → SpellsNumbers (map (λ n. pos n) ids ++ pos 0 ∷ []) later → deletion_at later ≡ Some (delete ids)
unfolding deletion_at
deletion_complete ids later some s =
    let read : items_at positive_of later ≡ Some (ids, []) = ap (items_at positive_of) (sym (append-nil later)) ∙ items_complete positive_of (λ n. pos n) IsId ids_have later [] ids s (recursion_from_All IsId ids some) in
    rw read refl

deleting : (id : ℕ) (later : List (List ℕ)) → behind_id id (codes "d" ∷ later) ≡ deletion_at later
unfolding behind_id
deleting id later = refl

pub line_complete : (found : List (List ℕ)) (line : ProofLine) → SpellsLine line found → line_of found ≡ Some line
line_complete [] (add id clause hints) s = absurd (let none = s.5 in cc)
line_complete (word ∷ later) (add id clause hints) s =
    let ls = map number_of s.0 in
    let first : whole_of word ≡ Some (pos id) = cons_head _ _ _ _ s.5 in
    let others : SpellsNumbers (ls ++ (pos 0 ∷ (hints ++ pos 0 ∷ []))) later = cons_tail _ _ _ _ s.5 in
    let n = number_first ls (hints ++ pos 0 ∷ []) later others in
    let grouped : SpellsNumbers ((ls ++ pos 0 ∷ []) ++ (hints ++ pos 0 ∷ [])) later = subst (λ (ns : List ℤ). SpellsNumbers ns later) (sym (append_assoc ls (pos 0 ∷ []) (hints ++ pos 0 ∷ []))) others in
    let cut = numbers_split (ls ++ pos 0 ∷ []) (hints ++ pos 0 ∷ []) later grouped in
    line_starts word later id first s.1 ∙ not_deleting id later n.1 n.0 n.2 n.3 n.4
    ∙ addition_complete id later clause s.0 hints (recursion_from_All IsVar s.0 s.2) (clause_is_in_order clause s.0 s.3) (recursion_from_All IsHint hints s.4) cut.0 cut.1 cut.2 cut.3 cut.4
line_complete found (delete ids) s =
    ap line_of s.3 ∙ line_starts s.1 (codes "d" ∷ s.2) s.0 s.4 s.5 ∙ deleting s.0 s.2 ∙ deletion_complete ids s.2 s.6 s.7

-- ---- the lines of a text

abbrev said_from : List (List ℕ) → List (List ℕ)
said_from ls = filter (λ line. not (says_nothing line)) ls

line_before : (number : ℕ) (o : Option ProofLine) (others : Result (List ProofLine) ℕ) (proof : List ProofLine) → before_others number o others ≡ Ok proof
    → (line : ProofLine) × (later : List ProofLine) × (o ≡ Some line) × (others ≡ Ok later) × (line ∷ later ≡ proof)
line_before number None others proof e = absurd cc
line_before number (Some line) (Ok later) proof e = (line, later, refl, refl, cc)
line_before number (Some line) (Err wrong) proof e = absurd cc

lines_sound : (number : ℕ) (ls : List (List ℕ)) (proof : List ProofLine) → proof_from number ls ≡ Ok proof → SpellLines proof (said_from ls)
unfolding proof_from
lines_sound number [] proof e = let none : [] ≡ proof = cc in subst (λ (p : List ProofLine). SpellLines p []) none tt
lines_sound number (line ∷ later) proof e = elim (bool_cases (says_nothing line)) [
  | inl t ↦ rw t (lines_sound (number + 1) later proof (rw t at e))
  | inr f ↦
      let b = line_before number (line_of (words line)) (proof_from (number + 1) later) proof (rw f at e) in
      rw f (subst (λ (p : List ProofLine). SpellLines p (line ∷ said_from later)) b.4 (line_sound (words line) b.0 b.2, lines_sound (number + 1) later b.1 b.3))
]

lines_complete : (number : ℕ) (ls : List (List ℕ)) (proof : List ProofLine) → SpellLines proof (said_from ls) → proof_from number ls ≡ Ok proof
unfolding proof_from
lines_complete number [] [] s = refl
lines_complete number [] (said ∷ proof) s = absurd s
lines_complete number (line ∷ later) proof s = elim (bool_cases (says_nothing line)) [
  | inl t ↦ rw t (lines_complete (number + 1) later proof (rw t at s))
  | inr f ↦ rw f (spoken number line later proof (rw f at s) (lines_complete (number + 1) later))
]
  where
    spoken : (number : ℕ) (line : List ℕ) (later : List (List ℕ)) (proof : List ProofLine) → SpellLines proof (line ∷ said_from later)
        → ((p : List ProofLine) → SpellLines p (said_from later) → proof_from (number + 1) later ≡ Ok p) → before_others number (line_of (words line)) (proof_from (number + 1) later) ≡ Ok proof
    spoken number line later [] s others = absurd s
    spoken number line later (said ∷ proof) s others = rw (line_complete (words line) said s.0, others proof s.1) refl

pub log_sound : (text : List ℕ) (proof : List ProofLine) → proof_of text ≡ Ok proof → SpellsLog text proof
log_sound text proof e = lines_sound 1 (lines text) proof e

pub log_complete : (text : List ℕ) (proof : List ProofLine) → SpellsLog text proof → proof_of text ≡ Ok proof
log_complete text proof s = lines_complete 1 (lines text) proof s

-- ---- the first line that is wrong

record Wrong (start : ℕ) (ls : List (List ℕ)) (number : ℕ) : Type 0 where
  front : List (List ℕ)
  wrong : List ℕ
  later : List (List ℕ)
  all_lines : ls ≡ front ++ wrong ∷ later
  good_before : AllByRecursion IsLogLine front
  not_good : IsLogLine wrong → ⊥
  place : number ≡ start + length front

wrong_later : (start : ℕ) (line : List ℕ) (ls : List (List ℕ)) (number : ℕ) → IsLogLine line → Wrong (start + 1) ls number → Wrong start (line ∷ ls) number
wrong_later start line ls number good w = record {
  front = line ∷ w.front;
  wrong = w.wrong;
  later = w.later;
  all_lines = ap (λ (xs : List (List ℕ)). line ∷ xs) w.all_lines;
  good_before = (good, w.good_before);
  not_good = w.not_good;
  place = omega (arith, w.place);
}

not_line : (line : List ℕ) → says_nothing line ≡ false → line_of (words line) ≡ None → IsLogLine line → ⊥
not_line line f e (inl t) = let wrong = sym t ∙ f in cc
not_line line f e (inr s) = let wrong = sym (line_complete (words line) s.0 s.1) ∙ e in cc

wrong_here : (number : ℕ) (line : List ℕ) (ls : List (List ℕ)) → says_nothing line ≡ false → line_of (words line) ≡ None → Wrong number (line ∷ ls) number
wrong_here number line ls f e = record {
  front = [];
  wrong = line;
  later = ls;
  all_lines = refl;
  good_before = tt;
  not_good = not_line line f e;
  place = omega arith;
}

wrong_cases : (number wrong : ℕ) (o : Option ProofLine) (others : Result (List ProofLine) ℕ) → before_others number o others ≡ Err wrong
    → ((o ≡ None) × (number ≡ wrong)) ⊎ ((line : ProofLine) × (o ≡ Some line) × (others ≡ Err wrong))
wrong_cases number wrong None others e = inl (refl, cc)
wrong_cases number wrong (Some line) (Ok later) e = absurd cc
wrong_cases number wrong (Some line) (Err other) e = let same : other ≡ wrong = cc in inr (line, refl, ap (λ (k : ℕ). Err k) same)

lines_wrong : (number : ℕ) (ls : List (List ℕ)) (wrong : ℕ) → proof_from number ls ≡ Err wrong → Wrong number ls wrong
unfolding proof_from
lines_wrong number [] wrong e = absurd cc
lines_wrong number (line ∷ later) wrong e = elim (bool_cases (says_nothing line)) [
  | inl t ↦ wrong_later number line later wrong (inl t) (lines_wrong (number + 1) later wrong (rw t at e))
  | inr f ↦ elim (wrong_cases number wrong (line_of (words line)) (proof_from (number + 1) later) (rw f at e)) [
    | inl n ↦ subst (Wrong number (line ∷ later)) n.1 (wrong_here number line later f n.0)
    | inr s ↦ wrong_later number line later wrong (inr (s.0, line_sound (words line) s.0 s.1)) (lines_wrong (number + 1) later wrong s.2)
  ]
]

pub first_wrong_line : (text : List ℕ) (number : ℕ) → proof_of text ≡ Err number → IsFirstWrongLine text number
first_wrong_line text number e =
    let w = lines_wrong 1 (lines text) number e in
    record {
      front = w.front;
      wrong = w.wrong;
      later = w.later;
      all_lines = w.all_lines;
      good_before = All-from_recursion IsLogLine w.front w.good_before;
      not_good = w.not_good;
      place = omega (arith, w.place);
    }

-- ---- a text spells one proof at most

abbrev proof_read : List ProofLine → Result (List ProofLine) ℕ
proof_read proof = Ok proof

pub same_lines : (text : List ℕ) (read proof : List ProofLine) → proof_of text ≡ Ok read → SpellsLog text proof → read ≡ proof
same_lines text read proof e s = let both : proof_read read ≡ proof_read proof = sym e ∙ log_complete text proof s in cc

pub refused_spells_none : (text : List ℕ) (line : ℕ) (proof : List ProofLine) → proof_of text ≡ Err line → SpellsLog text proof → ⊥
refused_spells_none text line proof e s = let wrong = sym e ∙ log_complete text proof s in cc
