-- Settings as rows of `clap`'s matches.
use Rattle.std.proofs.Common.{◌≡◌, ◌≢◌, true, false, List, [], ◌∷◌, ◌++◌, map, Option, Some, None, inl, inr, refl, sym, ap, ◌∙◌, append-nil, arith, length, lt-ltb, nat_lt}
use Rattle.std.specs.Str.{bytes_eq}
use Rattle.std.proofs.lemmas.Bool.{cases_Bool, true≢false}
use Rattle.std.proofs.lemmas.List.{map-append}
use Rattle.ep_base.specs.TokenTexts.{is_one_of}
use Rattle.clap.specs.Walk.{Row, Text, at_row, first_of, has_row, more_values, settled_rows, used, used_by_id}
use Rattle.clap.specs.Faults.{settle_fault, use_fault}
use Rattle.clap.specs.declared.parser.matches.ValueSource.TheVariants.{CommandLine}
use Rattle.clap.specs.declared.builder.value_parser.Reading.TheVariants as reading
use Rattle.ep_words.specs.Settings.{AreSetOnce, Setting, value_of}
use Rattle.ep_words.proofs.OptionRules.{id_known, set_rule, set_rules}
use Rattle.ep_words.proofs.OptionWalk.{held}
use Rattle.ep_words.proofs.SettingLaws.{once_refuted}

-- the row of a setting
abbrev pub row_for : Setting → Row
row_for setting = record {
  id = setting.0;
  values = setting.1 ∷ [];
  count = None;
  source = Some CommandLine;
  reading = reading.AsWritten;
}

abbrev pub rows_for : List Setting → List Row
rows_for settings = map row_for settings

-- ---- rows and settings tell the same

-- an option is set in the rows where it is set
pub row_of_unset : (name : Text) (settings : List Setting) → value_of name settings ≡ None → has_row name (rows_for settings) ≡ false
row_of_unset name [] unset = refl
row_of_unset name (setting ∷ settings) unset =
    elim (cases_Bool (bytes_eq setting.0 name)) [
      | inl e ↦ let some = rw e at unset in absurd cc
      | inr e ↦ rw e (row_of_unset name settings (rw e at unset))
    ]

pub unset_of_row : (name : Text) (settings : List Setting) → has_row name (rows_for settings) ≡ false → value_of name settings ≡ None
unset_of_row name [] none = refl
unset_of_row name (setting ∷ settings) none =
    elim (cases_Bool (bytes_eq setting.0 name)) [
      | inl e ↦ absurd (true≢false (rw e at none))
      | inr e ↦ rw e (unset_of_row name settings (rw e at none))
    ]

pub first_is_value : (name : Text) (settings : List Setting) → first_of name (rows_for settings) ≡ value_of name settings
first_is_value name [] = refl
first_is_value name (setting ∷ settings) =
    elim (cases_Bool (bytes_eq setting.0 name)) [
      | inl e ↦ rw e refl
      | inr e ↦ rw e (first_is_value name settings)
    ]

-- an option that is set later for the first time
pub unset_before : (settings : List Setting) (name value : Text) (more : List Setting) → AreSetOnce (settings ++ (name, value) ∷ more) → value_of name settings ≡ None
unset_before settings name value more once = go (value_of name settings) refl
  where
    go : (found : Option Text) → value_of name settings ≡ found → value_of name settings ≡ None
    go None e = e
    go (Some v) e = absurd (once_refuted settings name value more (λ none. let both : Some v ≡ None = sym e ∙ none in cc) once)

-- ---- one more row

row_absent : (name : Text) (change : Row → List Row) (missing rows : List Row) → has_row name rows ≡ false → at_row name change missing rows ≡ rows ++ missing
row_absent name change missing [] none = refl
row_absent name change missing (row ∷ rows) none =
    elim (cases_Bool (bytes_eq row.id name)) [
      | inl e ↦ absurd (true≢false (rw e at none))
      | inr e ↦ rw e (ap (λ rs. row ∷ rs) (row_absent name change missing rows (rw e at none)))
    ]

-- an option that isn't set is set
pub used_once : (name value : Text) (settings : List Setting) → value_of name settings ≡ None
    → used (set_rule name) (value ∷ []) (rows_for settings) ≡ rows_for (settings ++ (name, value) ∷ [])
used_once name value settings unset =
    let rows = rows_for settings in
    let none : has_row name rows ≡ false = row_of_unset name settings unset in
    let kept : at_row name (λ _. []) [] rows ≡ rows = row_absent name (λ _. []) [] rows none ∙ append-nil rows in
    ap (at_row name (more_values CommandLine (value ∷ [])) (row_for (name, value) ∷ [])) kept
    ∙ row_absent name (more_values CommandLine (value ∷ [])) (row_for (name, value) ∷ []) rows none
    ∙ sym (map-append row_for settings ((name, value) ∷ []))

-- ---- a use passes where the option isn't set, and its value isn't empty

pub use_passes : (name value : Text) (rows : List Row) → has_row name rows ≡ false → value ≢ [] → use_fault false (set_rule name) (value ∷ []) rows ≡ []
use_passes name [] rows none filled = absurd (filled refl)
use_passes name (byte ∷ bytes) rows none filled =
    let some : nat_lt 0 (length (byte ∷ bytes)) ≡ true = lt-ltb _ _ (omega arith) in rw (none, some) refl

pub record Passed (name value : Text) (rows : List Row) : Type 0 where
  pub none : has_row name rows ≡ false
  pub filled : value ≢ []

pub use_passed : (name value : Text) (rows : List Row) → use_fault false (set_rule name) (value ∷ []) rows ≡ [] → Passed name value rows
use_passed name value rows passes =
    elim (cases_Bool (has_row name rows)) [
      | inl e ↦ let both = rw e at passes in absurd cc
      | inr e ↦ record { none = e; filled = λ empty. let both = rw (e, empty) at passes in cc }
    ]

-- ---- what is pending is used

pub settle_walks : (names : List Text) (name : Text) (values : List Text) (rows : List Row) → is_one_of names name ≡ true
    → settled_rows (set_rules names) (Some (name, values)) rows ≡ used (set_rule name) values rows
settle_walks names name values rows known = ap (λ rule. used_by_id rule values rows) (id_known names name known)

pub settle_turns : (names : List Text) (name : Text) (values : List Text) (rows : List Row) → is_one_of names name ≡ true
    → settle_fault (set_rules names) false (held rows (Some (name, values))) ≡ use_fault false (set_rule name) values rows
settle_turns names name values rows known = rw (id_known names name known) refl
