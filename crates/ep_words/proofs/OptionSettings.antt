-- What the code makes of what `clap` tells.
use Rattle.std.proofs.Common.{◌≡◌, ◌≢◌, true, false, List, [], map, Result, Ok, Err, IfErr, IfOk, MatchResult, sym, ◌∙◌, subst}
use Rattle.std.specs.Borrow.{Bor}
use Rattle.std.specs.List.{list_all}
use Rattle.std.proofs.lemmas.Bool.{false≢true}
use Rattle.clap.specs.Walk.{Text, rows_of}
use Rattle.clap.specs.Simple.{matches_of}
use Rattle.clap.specs.Faults.{fault_of}
use Rattle.clap.specs.Matches.{found_of}
use Rattle.clap.specs.declared.parser.matches.ArgMatches.{ArgMatches}
use Rattle.ep_words.specs.Settings.{AreSetOnce, MakeSettings, Setting, options}
use Rattle.ep_words.specs.Options.{command_with, is_fit}
use Rattle.ep_words.specs.Views.{settings_of}
use Rattle.ep_words.specs.declared.errors.WordsError.{WordsError}
use Rattle.ep_words.specs.declared.errors.WordsError.TheVariants.{Usage}
use Rattle.ep_words.proofs.Lists.{all_of_read}
use Rattle.ep_words.proofs.OptionLaws.{passing_make, settings_pass}
use Rattle.ep_words.proofs.OptionLists.{found_all}
use Rattle.ep_words.proofs.OptionTakes.{settings_fit}

abbrev pub texts_of : List (Bor Text) → List Text
texts_of words = map (λ word. word.now) words

-- what holds where no settings are made
abbrev pub MakeNone : List Text → WordsError → Type 0
MakeNone words error = error ≡ Usage → (all : List Setting) → MakeSettings words all → ¬ AreSetOnce all

-- a word doesn't fit
pub unfit_make_none : (words : List (Bor Text)) → false ≡ list_all (λ word. is_fit word.now) words → MakeNone (texts_of words) Usage
unfit_make_none words unfit = λ usage all made once.
    false≢true (unfit ∙ sym (all_of_read is_fit (λ word. word.now) words) ∙ settings_fit (texts_of words) all made)

-- `clap` doesn't take the words
pub taken_none : (words : List Text) (result : Result ArgMatches WordsError) (A : ArgMatches → Type 0)
    → MatchResult result A (λ error. error ≡ Usage → fault_of (command_with options) words ≢ []) → IfErr result (MakeNone words)
taken_none words (Ok matches) A told = tt
taken_none words (Err error) A told = λ usage all made once. told usage (settings_pass words all made once)

-- it takes them
taken_made : (words : List Text) (matches : ArgMatches) → list_all is_fit words ≡ true → fault_of (command_with options) words ≡ [] → rows_of (found_of matches) ≡ matches_of (command_with options) words
    → MakeSettings words (settings_of matches) × AreSetOnce (settings_of matches)
taken_made words matches fit passes rows =
    let make = passing_make words fit passes in
    let same = found_all matches make.0 (rows ∙ make.1.rows) make.1.once in
    subst (λ (all : List Setting). MakeSettings words all × AreSetOnce all) (sym same) (make.1.made, make.1.once)

pub taken_make : (words : List (Bor Text)) (result : Result ArgMatches WordsError) (B : WordsError → Type 0) → true ≡ list_all (λ word. is_fit word.now) words
    → MatchResult result (λ matches. (fault_of (command_with options) (texts_of words) ≡ []) × (rows_of (found_of matches) ≡ matches_of (command_with options) (texts_of words))) B
    → IfOk result (λ matches. MakeSettings (texts_of words) (settings_of matches) × AreSetOnce (settings_of matches))
taken_make words (Ok matches) B fit told = taken_made (texts_of words) matches (all_of_read is_fit (λ word. word.now) words ∙ sym fit) told.0 told.1
taken_make words (Err error) B fit told = tt
