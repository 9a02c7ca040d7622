-- What the calls that read whole texts answer.
use Rattle.std.specs.Prelude.{ℕ, ◌<◌, List, [], ◌∷◌, length, Result, Ok, Err}
use Rattle.ep_base.specs.Tokens as tokens
use Rattle.ep_base.specs.Tokens.{place_at}
use Rattle.ep_base.specs.declared.places.Place.{Place}
use Rattle.ep_parse_parts.specs.declared.cursor.Stop.{Stop}
use Rattle.ep_parse_parts.specs.declared.cursor.Stop.TheVariants as stop
use Rattle.ep_tree.specs.Phrases.{Lexeme, Phrase}
use Rattle.ep_tree.specs.StatementSpelling.{SpellsModel, SpellsParams}
use Rattle.ep_tree.specs.Statements.{TextTree}
use Rattle.ep_tree.specs.Texts.{Answers, HasTokenFault, MOST_BYTES, bad_byte, long_number, read_as, syntax_fault, too_high, too_long}
use Rattle.ep_tree.specs.Views.{model_tree, params_tree}
use Rattle.ep_tree.specs.declared.statements.Model.{Model}
use Rattle.ep_tree.specs.declared.statements.Params.{Params}
use Rattle.ep_parse_model.specs.declared.text_errors.TextError.{TextError}
use Rattle.ep_parse_model.specs.declared.text_errors.TextError.TheVariants.{BadByte, LongNumber, Memory, Syntax, TooHigh, TooLong}

-- A refusal is the one that the text meets. Want of memory says nothing.
abbrev pub RefusesText : (TextTree → Phrase) → List ℕ → TextError → Type 0
RefusesText spells text TooLong = Answers spells text too_long
RefusesText spells text (BadByte place) = Answers spells text (bad_byte place)
RefusesText spells text (LongNumber place) = Answers spells text (long_number place)
RefusesText spells text (Syntax place) = Answers spells text (syntax_fault place)
RefusesText spells text (TooHigh place) = Answers spells text (too_high place)
RefusesText spells text Memory = Unit {0}

-- A text is refused for its bytes or its tokens. Want of memory says nothing.
abbrev pub RefusesTokens : List ℕ → TextError → Type 0
RefusesTokens text TooLong = MOST_BYTES < length text
RefusesTokens text (BadByte place) = HasTokenFault text (tokens.BadByte place)
RefusesTokens text (LongNumber place) = HasTokenFault text (tokens.LongNumber place)
RefusesTokens text (Syntax place) = ⊥
RefusesTokens text (TooHigh place) = ⊥
RefusesTokens text Memory = Unit {0}

-- the place of the next token that is left, or of the end of the text
abbrev pub place_left : List ℕ → List Lexeme → Place
place_left text [] = place_at text (length text)
place_left text (l ∷ ls) = l.place

-- why a text is refused where reading stopped at these tokens
abbrev pub refusal_of : List ℕ → List Lexeme → Stop → TextError
refusal_of text left stop.Wrong = Syntax (place_left text left)
refusal_of text left stop.TooHigh = TooHigh (place_left text left)
refusal_of text left stop.Memory = Memory

-- what is said of a text that is read as a model
abbrev pub GivesModel : List ℕ → Result Model TextError → Type 0
GivesModel text (Ok model) = Answers SpellsModel text (read_as (model_tree model))
GivesModel text (Err e) = RefusesText SpellsModel text e

-- what is said of a text that is read as a parameter text
abbrev pub GivesParams : List ℕ → Result Params TextError → Type 0
GivesParams text (Ok params) = Answers SpellsParams text (read_as (params_tree params))
GivesParams text (Err e) = RefusesText SpellsParams text e
