-- What words make of what was read, without the lines that they stand on.
use Rattle.std.proofs.Common.{◌≡◌, ℕ, List, [], ◌∷◌, ◌++◌, Option, Some, None, Ok, Err, refl, ap, ◌∙◌}
use Rattle.std.specs.Prelude.{option_and_then}
use Rattle.sat_text.specs.Words.{PlacedWord}
use Rattle.opb_text.specs.Grammar.{bare_words}
use Rattle.opb_text.specs.Reading.{Begun, opb_step, run, go_on}

-- what words make of what was read; nothing where one of them is wrong
unfoldable pub follow : Begun → List (List ℕ) → Option Begun
follow b [] = Some b
follow b (word ∷ later) = option_and_then (λ next. follow next later) (opb_step b word)

then_also : (o : Option Begun) (xs ys : List (List ℕ)) → ((b : Begun) → follow b (xs ++ ys) ≡ option_and_then (λ next. follow next ys) (follow b xs))
    → option_and_then (λ next. follow next (xs ++ ys)) o ≡ option_and_then (λ next. follow next ys) (option_and_then (λ next. follow next xs) o)
then_also None xs ys rest = refl
then_also (Some b) xs ys rest = rest b

follow_append : (xs ys : List (List ℕ)) (b : Begun) → follow b (xs ++ ys) ≡ option_and_then (λ next. follow next ys) (follow b xs)
unfolding follow
follow_append [] ys b = refl
follow_append (word ∷ xs) ys b = then_also (opb_step b word) xs ys (follow_append xs ys)

-- what further words make of what words made
pub follow_on : (b next : Begun) (xs ys : List (List ℕ)) → follow b xs ≡ Some next → follow b (xs ++ ys) ≡ follow next ys
follow_on b next xs ys e = follow_append xs ys b ∙ ap (option_and_then (λ (c : Begun). follow c ys)) e

-- what one more word makes of what words made
pub follow_one : (b next : Begun) (xs : List (List ℕ)) (word : List ℕ) → follow b xs ≡ Some next → follow b (xs ++ word ∷ []) ≡ opb_step next word
unfolding follow
follow_one b next xs word e = follow_on b next xs (word ∷ []) e ∙ then_some (opb_step next word)
  where
    then_some : (o : Option Begun) → option_and_then (λ c. Some c) o ≡ o
    then_some None = refl
    then_some (Some c) = refl

-- ---- with lines

-- reading stops at a word, and not before it
pub record Stopped (b : Begun) (found : List PlacedWord) (line : ℕ) : Type 0 where
  pub front : List PlacedWord
  pub word : PlacedWord
  pub later : List PlacedWord
  pub at : Begun
  pub all_words : found ≡ front ++ word ∷ later
  pub followed : follow b (bare_words front) ≡ Some at
  pub wrong : opb_step at word.bytes ≡ None
  pub is : line ≡ word.line

ok_at : (o : Option Begun) (line : ℕ) (later : List PlacedWord) (last : Begun) → go_on line o (λ next. run next later) ≡ Ok last
    → ((next end : Begun) → run next later ≡ Ok end → follow next (bare_words later) ≡ Some end)
    → option_and_then (λ next. follow next (bare_words later)) o ≡ Some last
ok_at None line later last e rest = absurd cc
ok_at (Some next) line later last e rest = rest next last e

pub run_ok : (found : List PlacedWord) (b last : Begun) → run b found ≡ Ok last → follow b (bare_words found) ≡ Some last
unfolding run follow
run_ok [] b last e = cc
run_ok (word ∷ found) b last e = ok_at (opb_step b word.bytes) word.line found last e (run_ok found)

err_at : (o : Option Begun) (word : PlacedWord) (later : List PlacedWord) (b : Begun) (line : ℕ) → opb_step b word.bytes ≡ o → go_on word.line o (λ next. run next later) ≡ Err line
    → ((next : Begun) (end : ℕ) → run next later ≡ Err end → Stopped next later end)
    → Stopped b (word ∷ later) line
unfolding follow
err_at None word later b line at e rest = record {
  front = [];
  word = word;
  later = later;
  at = b;
  all_words = refl;
  followed = refl;
  wrong = at;
  is = cc;
}
err_at (Some next) word later b line at e rest =
    let inner = rest next line e in
    record {
      front = word ∷ inner.front;
      word = inner.word;
      later = inner.later;
      at = inner.at;
      all_words = ap (λ (ws : List PlacedWord). word ∷ ws) inner.all_words;
      followed = ap (option_and_then (λ (c : Begun). follow c (bare_words inner.front))) at ∙ inner.followed;
      wrong = inner.wrong;
      is = inner.is;
    }

pub run_err : (found : List PlacedWord) (b : Begun) (line : ℕ) → run b found ≡ Err line → Stopped b found line
unfolding run
run_err [] b line e = absurd cc
run_err (word ∷ found) b line e = err_at (opb_step b word.bytes) word found b line refl e (run_err found)
