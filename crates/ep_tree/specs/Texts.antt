-- What a text of bytes is read as: the tree that its tokens spell, or the refusal that it meets, with its place.
--
-- The faults of bytes and tokens come before those of syntax and height, also where they stand later. This order is the
-- project's own choice.
use Rattle.std.specs.Prelude.{◌≡◌, ℕ, zero, suc, ◌<◌, ◌≤◌, List, [], ◌∷◌, length, Ok, Err}
use Rattle.ep_base.specs.Tokens.{BadByte, LongNumber, TokenFault, place_at, tokens_of}
use Rattle.ep_base.specs.declared.places.Place.{Place}
use Rattle.ep_base.specs.declared.tokens.Token.{Token}
use Rattle.ep_tree.specs.Phrases.{Phrase, lexemes_of}
use Rattle.ep_tree.specs.Reading.{IsTextFault, IsTooHigh, MOST_HEIGHT, ReadsWhole}
use Rattle.ep_tree.specs.StatementSpelling.{SpellsModel, SpellsParams}
use Rattle.ep_tree.specs.Statements.{TextTree, text_height}

-- the most bytes of a text
abbrev pub MOST_BYTES : ℕ
MOST_BYTES = 16777216

-- the place of the token of a number, and that of the end for the number of the end
unfoldable pub place_of_token : List ℕ → List Token → ℕ → Place
place_of_token text [] number = place_at text (length text)
place_of_token text (token ∷ tokens) zero = token.place
place_of_token text (token ∷ tokens) (suc number) = place_of_token text tokens number

-- what a text is read as: a tree, or the refusal that it meets
pub data TextAnswer : Type 0 where
  read_as : TextTree → TextAnswer
  too_long : TextAnswer
  bad_byte : Place → TextAnswer
  long_number : Place → TextAnswer
  syntax_fault : Place → TextAnswer
  too_high : Place → TextAnswer

-- The text is no longer than it may be, and its tokens spell this tree.
pub record IsReadAs (spells : TextTree → Phrase) (text : List ℕ) (tree : TextTree) : Type 0 where
  pub within : length text ≤ MOST_BYTES
  pub tokens : List Token
  pub found : tokens_of text ≡ Ok tokens
  pub reads : ReadsWhole spells MOST_HEIGHT (lexemes_of text tokens) tree

-- The text is no longer than it may be, and its first fault is one of bytes or tokens.
pub record HasTokenFault (text : List ℕ) (fault : TokenFault) : Type 0 where
  pub within : length text ≤ MOST_BYTES
  pub found : tokens_of text ≡ Err fault

-- The text has tokens, and the one at this place is a fault of syntax.
pub record HasSyntaxFault (spells : TextTree → Phrase) (text : List ℕ) (place : Place) : Type 0 where
  pub within : length text ≤ MOST_BYTES
  pub tokens : List Token
  pub found : tokens_of text ≡ Ok tokens
  pub number : ℕ
  pub fault : IsTextFault spells MOST_HEIGHT (lexemes_of text tokens) number
  pub stands : place ≡ place_of_token text tokens number

-- The text has tokens, and the one at this place is a fault of height.
pub record HasHeightFault (spells : TextTree → Phrase) (text : List ℕ) (place : Place) : Type 0 where
  pub within : length text ≤ MOST_BYTES
  pub tokens : List Token
  pub found : tokens_of text ≡ Ok tokens
  pub number : ℕ
  pub fault : IsTooHigh spells text_height MOST_HEIGHT (lexemes_of text tokens) number
  pub stands : place ≡ place_of_token text tokens number

-- what a text is read as, where this is what trees are spelled by
abbrev pub Answers : (TextTree → Phrase) → List ℕ → TextAnswer → Type 0
Answers spells text (read_as tree) = IsReadAs spells text tree
Answers spells text too_long = MOST_BYTES < length text
Answers spells text (bad_byte place) = HasTokenFault text (BadByte place)
Answers spells text (long_number place) = HasTokenFault text (LongNumber place)
Answers spells text (syntax_fault place) = HasSyntaxFault spells text place
Answers spells text (too_high place) = HasHeightFault spells text place

-- what a text is read as where a model is to be read
abbrev pub AnswersModel : List ℕ → TextAnswer → Type 0
AnswersModel = Answers SpellsModel

-- what a text is read as where a parameter text or a solution text is to be read
abbrev pub AnswersParams : List ℕ → TextAnswer → Type 0
AnswersParams = Answers SpellsParams

-- The bytes of a text spell a tree, whatever its height and the text's length.
pub record SpellsText (spells : TextTree → Phrase) (tree : TextTree) (text : List ℕ) : Type 0 where
  pub tokens : List Token
  pub found : tokens_of text ≡ Ok tokens
  pub spelled : spells tree (lexemes_of text tokens)

-- Some bytes spell a model. Not every tree that some list of tokens spells is such a model: no text has a name that is a
-- reserved word, a negative number, or a number of more than 18 digits as a token.
abbrev pub IsSpellable : TextTree → Type 0
IsSpellable model = (text : List ℕ) × SpellsText SpellsModel model text
