-- Each text is read as something, be a model to be read or a parameter text.
use Rattle.std.specs.Prelude.{◌≡◌, ℕ, ◌<◌, ◌≤◌, ◌⊎◌, Bool, true, false, nat_le, List, length, Result, Ok, Err, refl}
use Rattle.std.proofs.Common.{arith, inl, inr}
use Rattle.std.proofs.lemmas.Bool.Decides.{nat_tests}
use Rattle.ep_base.specs.Tokens.{BadByte, LongNumber, TokenFault, tokens_of}
use Rattle.ep_base.specs.declared.tokens.Token.{Token}
use Rattle.ep_parse_parts.specs.Cursors.{StopsReading}
use Rattle.ep_parse_parts.specs.Readers.{Read, Reader, high, took, wrong}
use Rattle.ep_parse_parts.specs.declared.cursor.Stop.{Stop}
use Rattle.ep_parse_parts.specs.declared.cursor.Stop.TheVariants.{TooHigh, Wrong}
use Rattle.ep_parse_model.proofs.TextRefusals.{model_stopped, params_stopped}
use Rattle.ep_parse_model.proofs.WholeTexts.{model_read, params_read}
use Rattle.ep_parse_model.specs.Answers.{RefusesText, place_left, refusal_of}
use Rattle.ep_parse_model.specs.TextReaders.{full, model_from, params_from}
use Rattle.ep_tree.specs.Phrases.{Lexeme, Phrase, lexemes_of}
use Rattle.ep_tree.specs.StatementSpelling.{SpellsModel, SpellsParams}
use Rattle.ep_tree.specs.Statements.{TextTree}
use Rattle.ep_tree.specs.Texts.{Answers, IsReadAs, MOST_BYTES, TextAnswer, bad_byte, long_number, read_as, syntax_fault, too_high, too_long}

-- a number is at most another one, or more
pub at_most_or_more : (n most : ℕ) → (n ≤ most) ⊎ (most < n)
at_most_or_more n most = go (nat_le n most) refl
  where
    go : (test : Bool) → nat_le n most ≡ test → (n ≤ most) ⊎ (most < n)
    go true e = let le : n ≤ most = grind (arith, nat_tests) in inl le
    go false e = let lt : most < n = grind (arith, nat_tests) in inr lt

-- a text has an answer
abbrev pub HasAnswer : (TextTree → Phrase) → List ℕ → Type 0
HasAnswer spells text = (said : TextAnswer) × Answers spells text said

module _ (spells : TextTree → Phrase) (reader : Reader TextTree)
    (reads : (text : List ℕ) (ts : List Token) (tree : TextTree) (ls rest : List Lexeme) → length text ≤ MOST_BYTES → tokens_of text ≡ Ok ts → ls ≡ lexemes_of text ts → reader ls ≡ took tree rest → IsReadAs spells text tree)
    (stops : (text : List ℕ) (ts : List Token) (ls left : List Lexeme) (stop : Stop) → length text ≤ MOST_BYTES → tokens_of text ≡ Ok ts → ls ≡ lexemes_of text ts → StopsReading stop left (reader ls) → RefusesText spells text (refusal_of text left stop)) where
  tokens_answered : (text : List ℕ) (ts : List Token) → length text ≤ MOST_BYTES → tokens_of text ≡ Ok ts → (r : Read TextTree) → reader (lexemes_of text ts) ≡ r → HasAnswer spells text
  tokens_answered text ts short found (took tree rest) e = (read_as tree, reads text ts tree (lexemes_of text ts) rest short found refl e)
  tokens_answered text ts short found (wrong left) e = (syntax_fault (place_left text left), stops text ts (lexemes_of text ts) left Wrong short found refl e)
  tokens_answered text ts short found (high left) e = (too_high (place_left text left), stops text ts (lexemes_of text ts) left TooHigh short found refl e)

  short_answered : (text : List ℕ) → length text ≤ MOST_BYTES → (r : Result (List Token) TokenFault) → tokens_of text ≡ r → HasAnswer spells text
  short_answered text short (Ok ts) e = tokens_answered text ts short e (reader (lexemes_of text ts)) refl
  short_answered text short (Err (BadByte place)) e = (bad_byte place, record { within = short; found = e })
  short_answered text short (Err (LongNumber place)) e = (long_number place, record { within = short; found = e })

  answered : (text : List ℕ) → HasAnswer spells text
  answered text = elim (at_most_or_more (length text) MOST_BYTES) [
    | inl short ↦ short_answered text short (tokens_of text) refl
    | inr long ↦ (too_long, long)
  ]

pub model_answered : (text : List ℕ) → HasAnswer SpellsModel text
model_answered = answered SpellsModel (model_from full) model_read model_stopped

pub params_answered : (text : List ℕ) → HasAnswer SpellsParams text
params_answered = answered SpellsParams (params_from full) params_read params_stopped
