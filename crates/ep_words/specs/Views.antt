-- The settings that `clap` found.
use Rattle.std.specs.Prelude.{List, [], ◌∷◌, ◌++◌, map, Option, Some, None}
use Rattle.clap.specs.Matches.{first_value, found_of}
use Rattle.clap.specs.declared.parser.matches.ArgMatches.{ArgMatches}
use Rattle.ep_words.specs.Settings.{Setting, Text}

abbrev pub listed : Text → Option Text → List Setting
listed name None = []
listed name (Some value) = (name, value) ∷ []

-- names with their values, where they have one
abbrev pub listed_by : (Text → Option Text) → List Text → List Setting
listed_by look [] = []
listed_by look (name ∷ names) = listed name (look name) ++ listed_by look names

-- the ids that were found, with their values
unfoldable pub settings_of : ArgMatches → List Setting
settings_of matches = listed_by (first_value (found_of matches)) (map (λ entry. entry.0.now) (found_of matches).entries.items)
