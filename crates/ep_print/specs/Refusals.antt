-- The lines of refusals.
use Rattle.std.specs.Prelude.{ℕ, List, ◌++◌, codes}
use Rattle.std.specs.Fmt.{decimal}
use Prim.Native.String.{String}
use Rattle.ep_base.specs.declared.operators.Limit.{Limit}
use Rattle.ep_base.specs.declared.places.Place.{Place}
use Rattle.ep_print.specs.declared.refusals.Refusal.{Refusal}
use Rattle.ep_print.specs.declared.refusals.Refusal.TheVariants.{BadByte, BadCnf, BadLog, BadOpb, CannotRead, CannotWrite, IllTyped, LongNumber, Memory, Missing, OpenDomain, Outside, Over, Redeclared, Syntax, TooHigh, TooLong, Undefined, UnknownName, Usage, WhereFalse, WrongCategory}
use Rattle.ep_print.specs.declared.refusals.TextFile.{TextFile}

-- the word for a text
unfoldable pub file_word : TextFile → String
file_word TextFile.Model = "model"
file_word TextFile.Params = "params"
file_word TextFile.Solution = "solution"
file_word TextFile.Cnf = "cnf"
file_word TextFile.Log = "log"
file_word TextFile.Opb = "opb"

-- a line and a column
unfoldable pub place_text : Place → List ℕ
place_text place = decimal place.line ++ (codes ":" ++ decimal place.column)

-- the number of a limit
unfoldable pub limit_word : Limit → String
limit_word Limit.Size = "L4"
limit_word Limit.Reach = "L5"
limit_word Limit.Weight = "L6"

-- a word, a text and a place in it
abbrev pub at_place : String → TextFile → Place → List ℕ
at_place words file place = codes words ++ (codes " " ++ (codes (file_word file) ++ (codes " " ++ place_text place)))

-- what the line of a refusal says
unfoldable pub refusal_words : Refusal → List ℕ
refusal_words Usage = codes "fault usage"
refusal_words (BadByte file place) = at_place "fault F1" file place
refusal_words (Syntax file place) = at_place "fault F2" file place
refusal_words (UnknownName file place name) = at_place "fault F3" file place ++ (codes " " ++ name)
refusal_words (Redeclared file place name) = at_place "fault F4" file place ++ (codes " " ++ name)
refusal_words (IllTyped file place) = at_place "fault F5" file place
refusal_words (WrongCategory file place) = at_place "fault F6" file place
refusal_words (OpenDomain file place) = at_place "fault F7" file place
refusal_words (Missing name) = codes "fault F8 " ++ name
refusal_words (Outside name) = codes "fault F9 " ++ name
refusal_words (Undefined file place) = at_place "fault F10" file place
refusal_words (WhereFalse number) = codes "fault F11 " ++ decimal number
refusal_words (BadCnf line) = codes "fault F12 " ++ decimal line
refusal_words (BadLog line) = codes "fault F13 " ++ decimal line
refusal_words (BadOpb line) = codes "fault F14 " ++ decimal line
refusal_words (TooLong file) = codes "limit L1 " ++ codes (file_word file)
refusal_words (LongNumber file place) = at_place "limit L2" file place
refusal_words (TooHigh file place) = at_place "limit L3" file place
refusal_words (Over limit) = codes "limit " ++ codes (limit_word limit)
refusal_words (CannotRead file) = codes "device read " ++ file
refusal_words (CannotWrite file) = codes "device write " ++ file
refusal_words Memory = codes "memory"

-- the line of a refusal
abbrev pub refusal_text : Refusal → List ℕ
refusal_text refusal = refusal_words refusal ++ codes "\n"
