-- The command that `clap` reads the words by, and which words it is shown.
use Rattle.std.specs.Prelude.{Bool, true, not, ◌==◌, ◌||◌, List, [], ◌∷◌, map, codes, Some}
use Rattle.clap.specs.Walk.{Rule}
use Rattle.clap.specs.Simple.{App, new_rule, new_shape}
use Rattle.clap.specs.declared.builder.action.ArgAction.TheVariants.{Set}
use Rattle.clap.specs.declared.builder.value_parser.ValueParser.TheVariants as parser
use Rattle.ep_words.specs.Settings.{Text}

-- an option takes one value, which isn't empty
abbrev pub option_rule : Text → Rule
option_rule name = record (new_rule name) {
  long = Some name;
  action = Some Set;
  parser = Some parser.NonEmptyString;
}

-- the command with options of these names, to which nothing is added
abbrev pub command_with : List Text → App
command_with names = record {
  top = record (new_shape (codes "epsat")) {
    rules = map option_rule names;
    no_binary_name = true;
    disable_help_flag = true;
  };
  subs = [];
}

-- the word begins with `--` and goes on, or doesn't begin with `-`
abbrev pub is_fit : Text → Bool
is_fit [] = true
is_fit (first ∷ []) = not (first == 45)
is_fit (first ∷ second ∷ []) = not (first == 45)
is_fit (first ∷ second ∷ third ∷ rest) = not (first == 45) || second == 45
