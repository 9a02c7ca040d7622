-- What whole texts are read as.
use Rattle.std.specs.Prelude.{◌≡◌, ℕ, ◌≤◌, List, [], ◌∷◌, length, Ok}
use Rattle.std.proofs.Common.{subst}
use Rattle.ep_base.specs.Tokens.{tokens_of}
use Rattle.ep_base.specs.declared.tokens.Token.{Token}
use Rattle.ep_parse_parts.specs.Cursors as cursors
use Rattle.ep_parse_parts.specs.Readers.{took}
use Rattle.ep_parse_model.proofs.Shrinking.{full_sound}
use Rattle.ep_parse_model.proofs.TextsSound.{model_sound, params_sound}
use Rattle.ep_parse_model.proofs.TokenFacts.{tokens_lie_in}
use Rattle.ep_parse_model.specs.Answers.{RefusesText, RefusesTokens}
use Rattle.ep_parse_model.specs.TextReaders.{full, model_from, params_from}
use Rattle.ep_parse_model.specs.Tokens as tokens
use Rattle.ep_parse_model.specs.declared.text_errors.TextError.{TextError}
use Rattle.ep_parse_model.specs.declared.text_errors.TextError.TheVariants.{BadByte, LongNumber, Memory, Syntax, TooHigh, TooLong}
use Rattle.ep_tree.specs.Phrases.{Lexeme, Phrase, lexemes_of}
use Rattle.ep_tree.specs.Reading.{MOST_HEIGHT}
use Rattle.ep_tree.specs.StatementSpelling.{SpellsModel, SpellsParams}
use Rattle.ep_tree.specs.Statements.{TextTree}
use Rattle.ep_tree.specs.Texts.{IsReadAs, MOST_BYTES}

all_lie : (text : List ℕ) (ts : List Token) → tokens.LieIn text ts → cursors.LieIn text ts
all_lie text [] h = tt
all_lie text (t ∷ ts) h = (record { ordered = h.0.ordered; within = h.0.within; ascii = h.0.ascii }, all_lie text ts h.1)

-- the spans of a text's tokens lie in it
pub spans_lie : (text : List ℕ) (ts : List Token) → tokens_of text ≡ Ok ts → cursors.LieIn text ts
spans_lie text ts e = all_lie text ts (tokens_lie_in text ts e)

pub refused_so : (spells : TextTree → Phrase) (text : List ℕ) (e : TextError) → RefusesTokens text e → RefusesText spells text e
refused_so spells text TooLong h = h
refused_so spells text (BadByte place) h = h
refused_so spells text (LongNumber place) h = h
refused_so spells text (Syntax place) h = absurd h
refused_so spells text (TooHigh place) h = absurd h
refused_so spells text Memory h = h

pub model_read : (text : List ℕ) (ts : List Token) (tree : TextTree) (ls rest : List Lexeme) → length text ≤ MOST_BYTES → tokens_of text ≡ Ok ts → ls ≡ lexemes_of text ts → model_from full ls ≡ took tree rest → IsReadAs SpellsModel text tree
model_read text ts tree ls rest short found all h =
    let k = (model_sound MOST_HEIGHT full full_sound ls).holds tree rest h in
    record { within = short; tokens = ts; found = found; reads = record { spelled = subst (SpellsModel tree) all k.spelled; low = k.low } }

pub params_read : (text : List ℕ) (ts : List Token) (tree : TextTree) (ls rest : List Lexeme) → length text ≤ MOST_BYTES → tokens_of text ≡ Ok ts → ls ≡ lexemes_of text ts → params_from full ls ≡ took tree rest → IsReadAs SpellsParams text tree
params_read text ts tree ls rest short found all h =
    let k = (params_sound MOST_HEIGHT full full_sound ls).holds tree rest h in
    record { within = short; tokens = ts; found = found; reads = record { spelled = subst (SpellsParams tree) all k.spelled; low = k.low } }
