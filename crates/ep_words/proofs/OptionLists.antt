-- Settings, read one after another from `clap`'s matches.
use Rattle.std.proofs.Common.{◌≡◌, true, false, List, [], ◌∷◌, ◌++◌, map, drop, Option, Some, None, inl, inr, refl, sym, ap, ap₂, ◌∙◌}
use Rattle.std.specs.Prelude.{slice_get, find, option_and_then, option_map, is_some, not, ◌&&◌, ◌||◌, Bool}
use Rattle.std.specs.Str.{bytes_eq}
use Rattle.std.proofs.lemmas.Bool.{cases_Bool, false≢true, true≢false, or_right}
use Rattle.std.proofs.lemmas.Slice.Eq.{bytes_eq-Decides}
use Rattle.clap.specs.Facts.{Entry}
use Rattle.clap.specs.Matches.{first_value, found_of}
use Rattle.clap.specs.Walk.{Row, Text, first_of, row_of, rows_of}
use Rattle.clap.specs.declared.parser.matches.ArgMatches.{ArgMatches}
use Rattle.clap.specs.declared.parser.matches.Found.{Found}
use Rattle.clap.specs.declared.parser.matches.MatchedArg.{MatchedArg}
use Rattle.ep_base.specs.TokenTexts.{is_one_of}
use Rattle.std.specs.Borrow.{Bor}
use Rattle.std.specs.List.{list_any}
use Rattle.ep_words.specs.Jobs.{sets_only}
use Rattle.ep_words.proofs.Lists.{any_of_read}
use Rattle.clap.proofs.WalkLemmas.{first_value-rows}
use Rattle.ep_words.specs.Settings.{AreSetOnce, Setting, value_of}
use Rattle.ep_words.specs.Views.{listed, listed_by, settings_of}
use Rattle.ep_words.proofs.OptionRows.{first_is_value, rows_for}
use Rattle.ep_words.proofs.SettingLaws.{bytes_apart}

same_listed : (look other : Text → Option Text) (names : List Text) → ((name : Text) → look name ≡ other name) → listed_by look names ≡ listed_by other names
same_listed look other [] same = refl
same_listed look other (name ∷ names) same = ap₂ (λ value rest. listed name value ++ rest) (same name) (same_listed look other names same)

abbrev name_of : Setting → Text
name_of setting = setting.0

-- a setting of another name in front changes nothing
passed_over : (setting : Setting) (all others : List Setting) → value_of setting.0 others ≡ None
    → listed_by (λ name. value_of name (setting ∷ all)) (map name_of others) ≡ listed_by (λ name. value_of name all) (map name_of others)
passed_over setting all [] unset = refl
passed_over setting all (other ∷ others) unset =
    elim (cases_Bool (bytes_eq other.0 setting.0)) [
      | inl e ↦ let some = rw e at unset in absurd cc
      | inr e ↦
          let here : value_of other.0 (setting ∷ all) ≡ value_of other.0 all = rw (bytes_apart other.0 setting.0 e) refl in
          ap₂ (λ value rest. listed other.0 value ++ rest) here (passed_over setting all others (rw e at unset))
    ]

all_listed : (settings : List Setting) → AreSetOnce settings → listed_by (λ name. value_of name settings) (map name_of settings) ≡ settings
all_listed [] once = refl
all_listed (setting ∷ settings) once =
    let here : value_of setting.0 (setting ∷ settings) ≡ Some setting.1 = rw ((bytes_eq-Decides setting.0 setting.0).1 refl) refl in
    ap₂ (λ value rest. listed setting.0 value ++ rest) here (passed_over setting settings settings once.0 ∙ all_listed settings once.1)

abbrev ids_in : List Entry → List Text
ids_in entries = map (λ entry. entry.0.now) entries

abbrev row_ids : List Row → List Text
row_ids rows = map (λ row. row.id) rows

ids_of_rows : (entries : List Entry) → ids_in entries ≡ row_ids (map row_of entries)
ids_of_rows [] = refl
ids_of_rows (entry ∷ entries) = ap (λ ids. entry.0.now ∷ ids) (ids_of_rows entries)

ids_of_settings : (settings : List Setting) → row_ids (rows_for settings) ≡ map name_of settings
ids_of_settings [] = refl
ids_of_settings (setting ∷ settings) = ap (λ ids. setting.0 ∷ ids) (ids_of_settings settings)

-- settings whose rows the matches have are those of the matches
pub found_all : (matches : ArgMatches) (settings : List Setting) → rows_of (found_of matches) ≡ rows_for settings → AreSetOnce settings → settings_of matches ≡ settings
unfolding settings_of
found_all matches settings rows once =
    let found = found_of matches in
    let ids : ids_in found.entries.items ≡ map name_of settings = ids_of_rows found.entries.items ∙ ap row_ids rows ∙ ids_of_settings settings in
    let look : (name : Text) → first_value found name ≡ value_of name settings = λ name. first_value-rows found name ∙ ap (first_of name) rows ∙ first_is_value name settings in
    ap (listed_by (first_value found)) ids
    ∙ same_listed (first_value found) (λ name. value_of name settings) (map name_of settings) look
    ∙ all_listed settings once

-- ---- the value of a name

value_absent_at : (look : Text → Option Text) (name other : Text) (names : List Text) (given : Option Text) → look other ≡ given → look name ≡ None
    → value_of name (listed_by look names) ≡ None → value_of name (listed_by look (other ∷ names)) ≡ None
value_absent_at look name other names None is none rest = rw is rest
value_absent_at look name other names (Some value) is none rest =
    elim (cases_Bool (bytes_eq other name)) [
      | inl same ↦ let both : Some value ≡ None = sym is ∙ ap look ((bytes_eq-Decides other name).0 same) ∙ none in absurd cc
      | inr apart ↦ rw (is, apart) rest
    ]

value_absent : (look : Text → Option Text) (name : Text) (names : List Text) → look name ≡ None → value_of name (listed_by look names) ≡ None
value_absent look name [] none = refl
value_absent look name (other ∷ names) none = value_absent_at look name other names (look other) refl none (value_absent look name names none)

value_there_at : (look : Text → Option Text) (name other value : Text) (names : List Text) (given : Option Text) → look other ≡ given → look name ≡ Some value
    → (bytes_eq other name ≡ false → value_of name (listed_by look names) ≡ Some value) → value_of name (listed_by look (other ∷ names)) ≡ Some value
value_there_at look name other value names None is some rest =
    elim (cases_Bool (bytes_eq other name)) [
      | inl same ↦ let both : None ≡ Some value = sym is ∙ ap look ((bytes_eq-Decides other name).0 same) ∙ some in absurd cc
      | inr apart ↦ rw is (rest apart)
    ]
value_there_at look name other value names (Some v) is some rest =
    elim (cases_Bool (bytes_eq other name)) [
      | inl same ↦ rw (is, same) (sym is ∙ ap look ((bytes_eq-Decides other name).0 same) ∙ some)
      | inr apart ↦ rw (is, apart) (rest apart)
    ]

value_there : (look : Text → Option Text) (name value : Text) (names : List Text) → look name ≡ Some value → is_one_of names name ≡ true → value_of name (listed_by look names) ≡ Some value
value_there look name value [] some one = absurd (false≢true one)
value_there look name value (other ∷ names) some one = value_there_at look name other value names (look other) refl some (λ apart. value_there look name value names some (rw apart at one))

no_entry : (name : Text) (entries : List Entry) → is_one_of (ids_in entries) name ≡ false → find (λ (entry : Entry). bytes_eq entry.0.now name) entries ≡ None
no_entry name [] none = refl
no_entry name (entry ∷ entries) none =
    elim (cases_Bool (bytes_eq entry.0.now name)) [
      | inl e ↦ absurd (true≢false (rw e at none))
      | inr e ↦ rw e (no_entry name entries (rw e at none))
    ]

no_value : (found : Found) (name : Text) → is_one_of (ids_in found.entries.items) name ≡ false → first_value found name ≡ None
no_value found name none =
    ap (λ o. option_and_then (λ (a : MatchedArg). option_map (λ s. s.now) (slice_get a.vals.items 0)) (option_map (λ (entry : Entry). entry.1) o)) (no_entry name found.entries.items none)

-- an option's value among the settings is its first one
pub value_found : (matches : ArgMatches) (name : Text) → first_value (found_of matches) name ≡ value_of name (settings_of matches)
unfolding settings_of
value_found matches name = go (first_value (found_of matches) name) refl
  where
    go : (given : Option Text) → first_value (found_of matches) name ≡ given → first_value (found_of matches) name ≡ value_of name (listed_by (first_value (found_of matches)) (ids_in (found_of matches).entries.items))
    go None none = none ∙ sym (value_absent (first_value (found_of matches)) name (ids_in (found_of matches).entries.items) none)
    go (Some value) some =
        elim (cases_Bool (is_one_of (ids_in (found_of matches).entries.items) name)) [
          | inl one ↦ some ∙ sym (value_there (first_value (found_of matches)) name value (ids_in (found_of matches).entries.items) some one)
          | inr none ↦ let both : Some value ≡ None = sym some ∙ no_value (found_of matches) name none in absurd cc
        ]

-- ---- one id after another

first_left : (name : Text) (left rest : List Text) → Some name ≡ slice_get left 0 → rest ≡ drop 1 left → left ≡ name ∷ rest
first_left name [] rest here behind = absurd cc
first_left name (other ∷ left) rest here behind = let same : name ≡ other = cc in ap₂ (λ n ns. n ∷ ns) (sym same) (sym behind)

abbrev pub only_listed : List (Bor Text) → ArgMatches → List Text → Bool
only_listed names matches ids = sets_only (map (λ name. name.now) names) (listed_by (first_value (found_of matches)) ids)

pub only_all : (names : List (Bor Text)) (matches : ArgMatches) (ids : List Text) → ids ≡ ids_in (found_of matches).entries.items
    → only_listed names matches ids ≡ sets_only (map (λ name. name.now) names) (settings_of matches)
unfolding settings_of
only_all names matches ids all = ap (only_listed names matches) all

only_at : (names : List (Bor Text)) (matches : ArgMatches) (name : Text) (ids : List Text) (given : Option Text) → first_value (found_of matches) name ≡ given
    → only_listed names matches (name ∷ ids) ≡ ((not (is_some given) || list_any (λ (other : Bor Text). bytes_eq other.now name) names) && only_listed names matches ids)
only_at names matches name ids None is = rw is refl
only_at names matches name ids (Some value) is = rw is (ap (λ t. t && only_listed names matches ids) (any_of_read (λ other. bytes_eq other name) (λ name. name.now) names))

abbrev among : Text → List (Bor Text) → Bool
among name names = list_any (λ (other : Bor Text). bytes_eq other.now name) names

is_there : (matches : ArgMatches) (name : Text) (given : Option (Bor Text)) (b : Bool) → option_map (λ s. s.now) given ≡ first_value (found_of matches) name → b ≡ is_some given
    → is_some (first_value (found_of matches) name) ≡ b
is_there matches name None b is told = ap is_some (sym is) ∙ sym told
is_there matches name (Some value) b is told = ap is_some (sym is) ∙ sym told

one_at : (names : List (Bor Text)) (matches : ArgMatches) (name : Text) (left rest : List Text) → Some name ≡ slice_get left 0 → rest ≡ drop 1 left
    → only_listed names matches left ≡ ((not (is_some (first_value (found_of matches) name)) || among name names) && only_listed names matches rest)
one_at names matches name left rest here behind =
    ap (only_listed names matches) (first_left name left rest here behind) ∙ only_at names matches name rest _ refl

-- the id is one of the names
pub among_later : (names : List (Bor Text)) (matches : ArgMatches) (name : Text) (left rest : List Text) → Some name ≡ slice_get left 0 → rest ≡ drop 1 left
    → true ≡ among name names → only_listed names matches rest ≡ only_listed names matches left
among_later names matches name left rest here behind one =
    let may : (not (is_some (first_value (found_of matches) name)) || among name names) ≡ true = or_right _ _ (sym one) in
    sym (one_at names matches name left rest here behind ∙ ap (λ t. t && only_listed names matches rest) may)

-- it has no value
pub unset_later : (names : List (Bor Text)) (matches : ArgMatches) (name : Text) (left rest : List Text) → Some name ≡ slice_get left 0 → rest ≡ drop 1 left
    → (given : Option (Bor Text)) → option_map (λ s. s.now) given ≡ first_value (found_of matches) name → false ≡ is_some given → only_listed names matches rest ≡ only_listed names matches left
unset_later names matches name left rest here behind given is none =
    sym (one_at names matches name left rest here behind ∙ ap (λ t. (not t || among name names) && only_listed names matches rest) (is_there matches name given false is none))

-- it has one, and is none of the names
pub set_here : (names : List (Bor Text)) (matches : ArgMatches) (name : Text) (left rest : List Text) → Some name ≡ slice_get left 0 → rest ≡ drop 1 left
    → (given : Option (Bor Text)) → option_map (λ s. s.now) given ≡ first_value (found_of matches) name → true ≡ is_some given → false ≡ among name names → only_listed names matches left ≡ false
set_here names matches name left rest here behind given is some none =
    one_at names matches name left rest here behind
    ∙ ap₂ (λ t u. (not t || u) && only_listed names matches rest) (is_there matches name given true is some) (sym none)

-- no id is left
pub only_end : (names : List (Bor Text)) (matches : ArgMatches) (left : List Text) → None ≡ slice_get left 0 → only_listed names matches left ≡ true
only_end names matches [] none = refl
only_end names matches (name ∷ left) none = absurd cc
