-- One word, and one line, of a text.
use Rattle.std.proofs.Common.{◌≡◌, ℕ, ◌+◌, true, false, max, List, [], ◌∷◌, ◌++◌, Some, None, Result, Ok, Err, refl, ap, ◌∙◌, arith}
use Rattle.sat_text.specs.Words.{PlacedWord, words_on}
use Rattle.opb_text.specs.Words.{is_opb_comment, line_words, opb_text_words}
use Rattle.opb_text.specs.Reading.{Begun, opb_step, run}

-- a word that is taken
pub run_takes : (b next : Begun) (number : ℕ) (found after : List (List ℕ)) (word : List ℕ) (later : List PlacedWord) → found ≡ word ∷ after → opb_step b word ≡ Some next
    → run b (words_on number found ++ later) ≡ run next (words_on number after ++ later)
unfolding run
run_takes b next number found after word later is e =
    ap (λ (ws : List (List ℕ)). run b (words_on number ws ++ later)) is ∙ rw e refl

-- a word that is wrong
pub run_stops : (b : Begun) (number : ℕ) (found after : List (List ℕ)) (word : List ℕ) (later : List PlacedWord) → found ≡ word ∷ after → opb_step b word ≡ None
    → run b (words_on number found ++ later) ≡ Err number
unfolding run
run_stops b number found after word later is e =
    ap (λ (ws : List (List ℕ)). run b (words_on number ws ++ later)) is ∙ rw e refl

-- no word is left on a line
pub run_none : (b : Begun) (number : ℕ) (found : List (List ℕ)) (later : List PlacedWord) → found ≡ [] → run b (words_on number found ++ later) ≡ run b later
run_none b number found later is = ap (λ (ws : List (List ℕ)). run b (words_on number ws ++ later)) is

-- a comment is passed over
pub run_comment : (b : Begun) (number : ℕ) (ls later : List (List ℕ)) (line : List ℕ) → ls ≡ line ∷ later → is_opb_comment line ≡ true
    → run b (opb_text_words number ls) ≡ run b (opb_text_words (number + 1) later)
run_comment b number ls later line is comment =
    ap (λ (xs : List (List ℕ)). run b (opb_text_words number xs)) is ∙ rw comment refl

-- a line that isn't a comment
pub run_line : (b : Begun) (answer : Result Begun ℕ) (number : ℕ) (ls later : List (List ℕ)) (line : List ℕ) → ls ≡ line ∷ later → is_opb_comment line ≡ false
    → run b (words_on number (line_words line) ++ opb_text_words (number + 1) later) ≡ answer → run b (opb_text_words number ls) ≡ answer
run_line b answer number ls later line is other e =
    ap (λ (xs : List (List ℕ)). run b (opb_text_words number xs)) is ∙ rw other e

-- no line is left
pub run_ends : (b : Begun) (number : ℕ) (ls : List (List ℕ)) → ls ≡ [] → run b (opb_text_words number ls) ≡ Ok b
unfolding run
run_ends b number ls is = ap (λ (xs : List (List ℕ)). run b (opb_text_words number xs)) is

pub last_is : (number count : ℕ) → number ≡ count → max number 1 ≡ max 1 count
last_is number count is = omega (arith, is)
