-- Which words set which options.
use Rattle.std.specs.Prelude.{◌≡◌, ◌≢◌, ℕ, ◌⊎◌, List, [], ◌∷◌, ◌++◌, codes, IsTrue, Option, None, option_map, find, bytes_eq}
use Rattle.ep_base.specs.TokenTexts.{is_one_of}

-- a text: its bytes
abbrev pub Text : Type 0
Text = List ℕ

-- an option's name with the value that it is given
abbrev pub Setting : Type 0
Setting = Text × Text

-- the names of the options
abbrev pub options : List Text
options =
    codes "task" ∷ codes "in-eprime" ∷ codes "in-param" ∷ codes "in-solution" ∷ codes "in-cnf" ∷ codes "in-log" ∷ codes "in-opb"
    ∷ codes "solutions" ∷ codes "conflicts" ∷ codes "workers" ∷ codes "cubes" ∷ codes "number" ∷ codes "out-eprime"
    ∷ codes "out-param" ∷ codes "out-cnf" ∷ codes "out-log" ∷ codes "out-solution" ∷ codes "undefined" ∷ []

-- the word that names an option
abbrev pub option_word : Text → Text
option_word name = codes "--" ++ name

-- the text begins with `-`
abbrev pub BeginsWithDash : Text → Type 0
BeginsWithDash [] = ⊥
BeginsWithDash (first ∷ rest) = first ≡ 45

-- An option is named with a value that isn't empty: in one word with `=` between the two, or in two words, of which
-- the second doesn't begin with `-`. Then other words follow.
pub record BeginsBySetting (words : List Text) (name value : Text) (others : List Text) : Type 0 where
  pub known : IsTrue (is_one_of options name)
  pub filled : value ≢ []
  pub spelled : (words ≡ (option_word name ++ (codes "=" ++ value)) ∷ others)
      ⊎ ((words ≡ option_word name ∷ value ∷ others) × (¬ BeginsWithDash value))

-- the words make these settings, one after another, and no other word stands
abbrev pub MakeSettings : List Text → List Setting → Type 0
MakeSettings words [] = words ≡ []
MakeSettings words (setting ∷ settings) =
    (others : List Text) × BeginsBySetting words setting.0 setting.1 others × MakeSettings others settings

-- the value that an option is given, if it is set
abbrev pub value_of : Text → List Setting → Option Text
value_of name settings = option_map (λ setting. setting.1) (find (λ setting. bytes_eq setting.0 name) settings)

-- no option is set twice
abbrev pub AreSetOnce : List Setting → Type 0
AreSetOnce [] = Unit {0}
AreSetOnce (setting ∷ settings) = (value_of setting.0 settings ≡ None) × AreSetOnce settings
