-- What `clap` knows of the options, once it has built the command.
use Rattle.std.proofs.Common.{◌≡◌, ℕ, true, false, List, [], ◌∷◌, map, Some, None, inl, inr, refl, ap, ◌∙◌}
use Rattle.std.specs.Prelude.{codes, fold, not, ◌&&◌}
use Rattle.std.specs.List.{list_any}
use Rattle.std.specs.Str.{bytes_eq}
use Rattle.std.proofs.lemmas.Bool.{cases_Bool, false≢true, true≢false}
use Rattle.std.proofs.lemmas.Slice.Eq.{bytes_eq-Decides}
use Rattle.ep_base.specs.TokenTexts.{is_one_of}
use Rattle.clap.specs.Walk.{Row, Rule, Text, arg_by_id, arg_by_index, arg_by_long, has_row, with_default}
use Rattle.clap.specs.Simple.{App, Shape, built, filled_from, new_shape}
use Rattle.clap.specs.Takes.{is_given}
use Rattle.clap.specs.Faults.{check_fault, default_fault, defaults_fault, is_simple_and_free}
use Rattle.ep_words.specs.Options.{command_with, option_rule}
use Rattle.ep_words.specs.Settings.{options}

-- an option with what building adds
abbrev pub set_rule : Text → Rule
set_rule name = record (option_rule name) { range = Some (record { start_inclusive = 1; end_inclusive = 1 }) }

abbrev pub set_rules : List Text → List Rule
set_rules names = map set_rule names

-- the command with what building adds
abbrev shape_of_rules : List Rule → Shape
shape_of_rules rules = record (new_shape (codes "epsat")) {
  rules = rules;
  no_binary_name = true;
  disable_help_flag = true;
  disable_help_subcommand = true;
  is_built = true;
}

abbrev pub built_shape : List Text → Shape
built_shape names = shape_of_rules (set_rules names)

abbrev pub built_command : List Text → App
built_command names = record { top = built_shape names; subs = [] }

filled_all : (names : List Text) → filled_from 1 (map option_rule names) ≡ set_rules names
filled_all [] = refl
filled_all (name ∷ names) = ap (λ rules. set_rule name ∷ rules) (filled_all names)

abbrev command_of_rules : List Rule → App
command_of_rules rules = record { top = shape_of_rules rules; subs = [] }

pub built_is : (names : List Text) → built (command_with names) ≡ built_command names
built_is names = ap command_of_rules (filled_all names)

pub simple_and_free : is_simple_and_free (command_with options) ≡ true
simple_and_free = refl

-- ---- searches

-- a name among the names
pub long_known : (names : List Text) (name : Text) → is_one_of names name ≡ true → arg_by_long (set_rules names) name ≡ Some (set_rule name)
long_known [] name one = absurd (false≢true one)
long_known (other ∷ names) name one =
    elim (cases_Bool (bytes_eq other name)) [
      | inl e ↦ rw e (ap (λ t. Some (set_rule t)) ((bytes_eq-Decides other name).0 e))
      | inr e ↦ rw e (long_known names name (rw e at one))
    ]

-- a name that isn't among the names
pub long_unknown : (names : List Text) (name : Text) → is_one_of names name ≡ false → arg_by_long (set_rules names) name ≡ None
long_unknown [] name none = refl
long_unknown (other ∷ names) name none =
    elim (cases_Bool (bytes_eq other name)) [
      | inl e ↦ absurd (true≢false (rw e at none))
      | inr e ↦ rw e (long_unknown names name (rw e at none))
    ]

pub id_known : (names : List Text) (name : Text) → is_one_of names name ≡ true → arg_by_id (set_rules names) name ≡ Some (set_rule name)
id_known [] name one = absurd (false≢true one)
id_known (other ∷ names) name one =
    elim (cases_Bool (bytes_eq other name)) [
      | inl e ↦ rw e (ap (λ t. Some (set_rule t)) ((bytes_eq-Decides other name).0 e))
      | inr e ↦ rw e (id_known names name (rw e at one))
    ]

-- no option has a place among words without a name
pub no_place : (names : List Text) (place : ℕ) → arg_by_index (set_rules names) place ≡ None
no_place [] place = refl
no_place (name ∷ names) place = no_place names place

-- ---- after the walk

default_kept : (rows : List Row) (name : Text) → with_default rows (set_rule name) ≡ rows
default_kept rows name =
    elim (cases_Bool (has_row name rows)) [
      | inl e ↦ rw e refl
      | inr e ↦ rw e refl
    ]

-- no option has a default
pub defaults_kept : (names : List Text) (rows : List Row) → fold with_default rows (set_rules names) ≡ rows
defaults_kept [] rows = refl
defaults_kept (name ∷ names) rows =
    ap (λ (rs : List Row). fold with_default rs (set_rules names)) (default_kept rows name) ∙ defaults_kept names rows

default_passes : (rows : List Row) (name : Text) → default_fault rows (set_rule name) ≡ []
default_passes rows name =
    elim (cases_Bool (has_row name rows)) [
      | inl e ↦ rw e refl
      | inr e ↦ rw e refl
    ]

pub defaults_pass : (names : List Text) (rows : List Row) → defaults_fault rows (set_rules names) ≡ []
unfolding defaults_fault
defaults_pass [] rows = refl
defaults_pass (name ∷ names) rows = rw (default_passes rows name) (defaults_pass names (with_default rows (set_rule name)))

none_required : (names : List Text) (rows : List Row) → list_any (λ (a : Rule). a.required && not (is_given a.id rows)) (set_rules names) ≡ false
none_required [] rows = refl
none_required (name ∷ names) rows = none_required names rows

-- no option has to be set
pub checks_pass : (names : List Text) (rows : List Row) → check_fault (built_shape names) rows false ≡ []
checks_pass names rows = rw (none_required names rows) refl
