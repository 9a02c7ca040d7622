-- Reading the lines of a proof one after the other.
use Rattle.std.proofs.Common.{◌≡◌, ℕ, ◌+◌, ◌<◌, ◌≤◌, true, false, eqb, List, [], ◌∷◌, ◌++◌, length, Option, Some, None, Result, Ok, Err, refl, sym, ap, ◌∙◌, append_assoc, arith}
use Rattle.std.proofs.lemmas.List.{append-nil}
use Rattle.sat_proof.specs.declared.proof.Proof.{Proof}
use Rattle.sat_text.specs.declared.proof.LogError.{LogError}
use Rattle.sat_text.specs.declared.proof.LogError.TheVariants.{Bad}
use Rattle.sat_text.specs.Words.{lines, words, says_nothing, first_line, behind_line}
use Rattle.sat_text.specs.Proofs.{line_of, before_others, proof_from, proof_of}
use Rattle.cnf_core.specs.Lines.{ProofLine}
use Rattle.sat_text.proofs.Heads.{lines_first, behind_shorter, no_lines}

-- the lines that were read before, and those that are still read
abbrev pub with_read : List ProofLine → Result (List ProofLine) ℕ → Result (List ProofLine) ℕ
with_read front (Ok later) = Ok (front ++ later)
with_read front (Err line) = Err line

-- what the loop keeps: the lines behind the number-th one are read as the whole text is
pub record Reading (found : List ProofLine) (number : ℕ) (rest text : List ℕ) : Type 0 where
  pub answer : with_read found (proof_from (number + 1) (lines rest)) ≡ proof_of text
  pub count : number + length rest ≤ length text

with_nothing : (read : Result (List ProofLine) ℕ) → with_read [] read ≡ read
with_nothing (Ok later) = refl
with_nothing (Err line) = refl

pub reading_starts : (text : List ℕ) → Reading [] 0 text text
reading_starts text = record { answer = with_nothing (proof_of text); count = omega arith }

quiet : (number : ℕ) (line : List ℕ) (later : List (List ℕ)) → says_nothing line ≡ true → proof_from number (line ∷ later) ≡ proof_from (number + 1) later
unfolding proof_from
quiet number line later e = rw e refl

speaks : (number : ℕ) (line : List ℕ) (later : List (List ℕ)) → says_nothing line ≡ false → proof_from number (line ∷ later) ≡ before_others number (line_of (words line)) (proof_from (number + 1) later)
unfolding proof_from
speaks number line later e = rw e refl

reading_quiet : (found : List ProofLine) (number : ℕ) (rest later text line : List ℕ) → Reading found number rest text → lines rest ≡ line ∷ lines later → length later < length rest → says_nothing line ≡ true → Reading found (number + 1) later text
reading_quiet found number rest later text line r cut less e = record {
  answer = sym (ap (λ (ls : List (List ℕ)). with_read found (proof_from (number + 1) ls)) cut ∙ ap (with_read found) (quiet (number + 1) line (lines later) e)) ∙ r.answer;
  count = omega (arith, r.count, less);
}

at_line : (found : List ProofLine) (number : ℕ) (rest later text line : List ℕ) → Reading found number rest text → lines rest ≡ line ∷ lines later → says_nothing line ≡ false
    → with_read found (before_others (number + 1) (line_of (words line)) (proof_from (number + 1 + 1) (lines later))) ≡ proof_of text
at_line found number rest later text line r cut e =
    sym (ap (λ (ls : List (List ℕ)). with_read found (proof_from (number + 1) ls)) cut ∙ ap (with_read found) (speaks (number + 1) line (lines later) e)) ∙ r.answer

reading_wrong : (found : List ProofLine) (number : ℕ) (rest later text line : List ℕ) → Reading found number rest text → lines rest ≡ line ∷ lines later → says_nothing line ≡ false → line_of (words line) ≡ None → proof_of text ≡ Err (number + 1)
reading_wrong found number rest later text line r cut e none =
    sym (sym (ap (λ (o : Option ProofLine). with_read found (before_others (number + 1) o (proof_from (number + 1 + 1) (lines later)))) none) ∙ at_line found number rest later text line r cut e)

regroup : (front : List ProofLine) (line : ProofLine) (number : ℕ) (others : Result (List ProofLine) ℕ) → with_read front (before_others number (Some line) others) ≡ with_read (front ++ line ∷ []) others
regroup front line number (Ok others) = ap (λ (ls : List ProofLine). Ok ls) (simp append_assoc)
regroup front line number (Err wrong) = refl

reading_more : (found : List ProofLine) (number : ℕ) (rest later text line : List ℕ) (read : ProofLine) → Reading found number rest text → lines rest ≡ line ∷ lines later → length later < length rest → says_nothing line ≡ false
    → line_of (words line) ≡ Some read → Reading (found ++ read ∷ []) (number + 1) later text
reading_more found number rest later text line read r cut less e some = record {
  answer =
      sym (regroup found read (number + 1) (proof_from (number + 1 + 1) (lines later)))
      ∙ sym (ap (λ (o : Option ProofLine). with_read found (before_others (number + 1) o (proof_from (number + 1 + 1) (lines later)))) some)
      ∙ at_line found number rest later text line r cut e;
  count = omega (arith, r.count, less);
}

reading_ends : (found : List ProofLine) (number : ℕ) (rest text : List ℕ) → Reading found number rest text → lines rest ≡ [] → proof_of text ≡ Ok found
unfolding proof_from
reading_ends found number rest text r none =
    sym r.answer ∙ ap (λ (ls : List (List ℕ)). with_read found (proof_from (number + 1) ls)) none ∙ ap (λ (ls : List ProofLine). Ok ls) (append-nil found)

-- ---- the same of the first line of what is left

pub line_quiet : (found : List ProofLine) (number : ℕ) (rest later text : List ℕ) → Reading found number rest text → 0 < length rest → later ≡ behind_line rest → says_nothing (first_line rest) ≡ true → Reading found (number + 1) later text
line_quiet found number rest later text r some t e = reading_quiet found number rest later text (first_line rest) r (rw t (lines_first rest some)) (rw t (behind_shorter rest some)) e

pub line_wrong : (found : List ProofLine) (number : ℕ) (rest text : List ℕ) → Reading found number rest text → 0 < length rest → says_nothing (first_line rest) ≡ false → line_of (words (first_line rest)) ≡ None → proof_of text ≡ Err (number + 1)
line_wrong found number rest text r some e none = reading_wrong found number rest (behind_line rest) text (first_line rest) r (lines_first rest some) e none

pub line_more : (found : List ProofLine) (number : ℕ) (rest later text : List ℕ) (read : ProofLine) → Reading found number rest text → 0 < length rest → later ≡ behind_line rest → says_nothing (first_line rest) ≡ false
    → line_of (words (first_line rest)) ≡ Some read → Reading (found ++ read ∷ []) (number + 1) later text
line_more found number rest later text read r some t e is = reading_more found number rest later text (first_line rest) read r (rw t (lines_first rest some)) (rw t (behind_shorter rest some)) e is

pub lines_end : (found : List ProofLine) (number : ℕ) (rest text : List ℕ) → Reading found number rest text → eqb (length rest) 0 ≡ true → proof_of text ≡ Ok found
lines_end found number rest text r none = reading_ends found number rest text r (no_lines rest none)

abbrev bad_answer : ℕ → Result Proof LogError
bad_answer line = Err (Bad line)

-- the line that is named is the one that is wrong
pub bad_line : (read : Result (List ProofLine) ℕ) (number line : ℕ) → read ≡ Err number → bad_answer number ≡ bad_answer line → read ≡ Err line
bad_line read number line e same =
    let is : number ≡ line = cc in
    e ∙ ap (λ (n : ℕ). Err n) is
