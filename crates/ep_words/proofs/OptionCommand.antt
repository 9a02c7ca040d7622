-- The command as the code builds it, and what `clap` tells of it.
use Rattle.std.proofs.Common.{◌≡◌, ◌≢◌, ◌↔◌, ℕ, ◌+◌, ◌<◌, true, List, [], ◌∷◌, ◌++◌, map, take, length, get_or, Result, Ok, Err, MatchResult, IsErrAnd, inl, inr, refl, sym, ap, ◌∙◌, subst}
use Rattle.std.specs.Borrow.{Bor}
use Rattle.std.proofs.lemmas.List.{map-append, take_more}
use Rattle.clap.specs.Kinds.{HasKind, IsAmong}
use Rattle.clap.specs.Matches.{found_of}
use Rattle.clap.specs.Values.{kind_of}
use Rattle.clap.specs.Walk.{Text, rows_of}
use Rattle.clap.specs.Simple.{App, HasMatchesOf, is_simple, matches_of, with_rule}
use Rattle.clap.specs.Faults.{fault_of, is_simple_and_free}
use Rattle.clap.specs.declared.error.Error.{Error}
use Rattle.clap.specs.declared.error.kind.ErrorKind.TheVariants as kind
use Rattle.clap.specs.declared.parser.matches.ArgMatches.{ArgMatches}
use Rattle.ep_words.specs.Settings.{options}
use Rattle.ep_words.specs.Options.{command_with, option_rule}
use Rattle.ep_words.specs.declared.errors.WordsError.{WordsError}
use Rattle.ep_words.specs.declared.errors.WordsError.TheVariants.{Usage}
use Rattle.ep_words.proofs.OptionRules.{simple_and_free}

abbrev names_of : List (Bor Text) → List Text
names_of names = map (λ name. name.now) names

-- one more option
pub one_option_more : (names : List (Bor Text)) (i : ℕ) (d : Bor Text) (before after : App) → i < length names → before ≡ command_with (names_of (take i names))
    → after ≡ with_rule before (option_rule (get_or names i d).now) → after ≡ command_with (names_of (take (i + 1) names))
one_option_more names i d before after within is added =
    let taken : names_of (take (i + 1) names) ≡ names_of (take i names) ++ (get_or names i d).now ∷ [] = ap names_of (take_more names i d within) ∙ map-append _ (take i names) _ in
    let rules : map option_rule (names_of (take (i + 1) names)) ≡ map option_rule (names_of (take i names)) ++ option_rule (get_or names i d).now ∷ [] =
    ap (map option_rule) taken ∙ map-append option_rule (names_of (take i names)) _ in
    added ∙ ap (λ (app : App). with_rule app (option_rule (get_or names i d).now)) is
    ∙ ap (λ rs. record (command_with []) { top = record (command_with []).top { rules = rs } }) (sym rules)

simple : is_simple (command_with options) ≡ true
simple = refl

-- what holds of the command that was built
abbrev Told : List Text → ArgMatches → App → Type 0
Told words matches app = (is_simple_and_free app ≡ true → fault_of app words ≡ []) → HasMatchesOf app words matches
    → (fault_of (command_with options) words ≡ []) × (rows_of (found_of matches) ≡ matches_of (command_with options) words)

pub taken : (app : App) (words : List Text) (matches : ArgMatches) → app ≡ command_with options → Told words matches app
taken app words matches is = subst (Told words matches) (sym is) (λ passes has. (passes simple_and_free, (has simple).0))

pub refused : {X : Type 0} (result : Result X WordsError) (A : X → Type 0) (app : App) (words : List Text) (e : Error) → app ≡ command_with options
    → (is_simple_and_free app ≡ true → HasKind (fault_of app words) e) → IsErrAnd result (λ error. (error ≡ Usage) ↔ (kind_of e ≢ kind.OutOfMemory))
    → MatchResult result A (λ error. error ≡ Usage → fault_of (command_with options) words ≢ [])
refused (Ok x) A app words e is told from = absurd from
refused (Err error) A app words e is told from = λ usage none.
    elim (subst (λ (a : App). is_simple_and_free a ≡ true → HasKind (fault_of a words) e) is told simple_and_free) [
      | inl memory ↦ from.0 usage memory
      | inr among ↦ subst (IsAmong (kind_of e)) none among
    ]
