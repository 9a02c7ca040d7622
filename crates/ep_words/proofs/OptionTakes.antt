-- `clap` takes the words that make settings.
use Rattle.std.proofs.Common.{◌≡◌, ◌≢◌, ℕ, false, true, List, [], ◌∷◌, ◌++◌, Some, None, inl, inr, refl, sym, ap, ap₂, ◌∙◌, append_assoc, append-nil, subst}
use Rattle.std.specs.Prelude.{fold}
use Rattle.std.specs.List.{list_all}
use Rattle.std.proofs.lemmas.Bool.{and_from, false≢true}
use Rattle.clap.specs.Lexer.{name_and_value}
use Rattle.ep_base.specs.TokenTexts.{is_one_of}
use Rattle.clap.specs.Kinds.{Kinds, or_else}
use Rattle.clap.specs.Walk.{Row, Text, Walk, idle, settled_rows, used, walked}
use Rattle.clap.specs.Faults.{settle_fault, turn_fault, use_fault, walk_fault}
use Rattle.ep_words.specs.Settings.{AreSetOnce, BeginsBySetting, BeginsWithDash, MakeSettings, Setting, option_word, options, value_of}
use Rattle.ep_words.specs.Options.{is_fit}
use Rattle.ep_words.proofs.OptionRules.{built_shape, set_rule, set_rules}
use Rattle.ep_words.proofs.OptionWords.{IsPlain, fit_is, parts_alone, parts_given, plain_fits}
use Rattle.ep_words.proofs.OptionWalk.{Pending, alone_turns, alone_walks, given_turns, given_walks, held, stands, value_turns, value_walks}
use Rattle.ep_words.proofs.OptionRows.{row_of_unset, rows_for, settle_turns, settle_walks, unset_before, use_passes, used_once}
use Rattle.ep_words.proofs.Splits.{options_have_no_equals}

-- the settings so far are those of the rows, with what is pending
pub record Holds (settings : List Setting) (rows : List Row) (pending : Pending) : Type 0 where
  pub passes : settle_fault (set_rules options) false (held rows pending) ≡ []
  pub settles : settled_rows (set_rules options) pending rows ≡ rows_for settings

-- the walk over words takes them all, and has these settings then
pub record Takes (settings : List Setting) (words : List Text) (start : Walk) : Type 0 where
  pub passes : walk_fault (built_shape options) [] start words ≡ []
  pub rows : List Row
  pub pending : Pending
  pub ends : fold (walked (set_rules options) []) start words ≡ stands rows pending idle
  pub holds : Holds settings rows pending

-- a word that passes goes before words that pass
pub one_more : (settings : List Setting) (word : Text) (words : List Text) (start next : Walk) → turn_fault (built_shape options) [] start word ≡ []
    → walked (set_rules options) [] start word ≡ next → Takes settings words next → Takes settings (word ∷ words) start
unfolding walk_fault
one_more settings word words start next turns walks takes = record {
  passes = ap₂ (λ (k : Kinds) (w : Walk). or_else k (walk_fault (built_shape options) [] w words)) turns walks ∙ takes.passes;
  rows = takes.rows;
  pending = takes.pending;
  ends = ap (λ (w : Walk). fold (walked (set_rules options) []) w words) walks ∙ takes.ends;
  holds = takes.holds;
}

module _ (settings : List Setting) (rows : List Row) (pending : Pending) (holds : Holds settings rows pending) (name value : Text)
    (known : is_one_of options name ≡ true) (filled : value ≢ []) (unset : value_of name settings ≡ None) where
  abbrev settled : List Row
  settled = settled_rows (set_rules options) pending rows

  use_now : use_fault false (set_rule name) (value ∷ []) settled ≡ []
  use_now = ap (λ (rs : List Row). use_fault false (set_rule name) (value ∷ []) rs) holds.settles ∙ use_passes name value (rows_for settings) (row_of_unset name settings unset) filled

  use_is : used (set_rule name) (value ∷ []) settled ≡ rows_for (settings ++ (name, value) ∷ [])
  use_is = ap (λ (rs : List Row). used (set_rule name) (value ∷ []) rs) holds.settles ∙ used_once name value settings unset

  -- `--name=value`
  pub takes_given : (first : ℕ) (rest : Text) (all : List Setting) (words : List Text) → name_and_value (first ∷ rest) ≡ (name, Some value)
      → ((rows' : List Row) (pending' : Pending) → Holds (settings ++ (name, value) ∷ []) rows' pending' → Takes all words (stands rows' pending' idle))
      → Takes all (option_word (first ∷ rest) ∷ words) (stands rows pending idle)
  takes_given first rest all words parts goes_on =
      one_more all (option_word (first ∷ rest)) words _ _
      (given_turns options first rest name value parts known rows pending idle tt ∙ ap₂ or_else holds.passes use_now)
      (given_walks options first rest name value parts known rows pending idle tt)
      (goes_on _ None (record { passes = refl; settles = use_is }))

  -- `--name value`
  pub takes_alone : (first : ℕ) (rest : Text) (all : List Setting) (words : List Text) → name_and_value (first ∷ rest) ≡ (name, None) → IsPlain value
      → ((rows' : List Row) (pending' : Pending) → Holds (settings ++ (name, value) ∷ []) rows' pending' → Takes all words (stands rows' pending' idle))
      → Takes all (option_word (first ∷ rest) ∷ value ∷ words) (stands rows pending idle)
  takes_alone first rest all words parts plain goes_on =
      one_more all (option_word (first ∷ rest)) (value ∷ words) _ _
      (alone_turns options first rest name parts known rows pending idle tt ∙ holds.passes)
      (alone_walks options first rest name parts known rows pending idle tt)
      (one_more all value words _ _
      (value_turns options value plain settled name)
      (value_walks options value plain settled name known)
      (goes_on settled (Some (name, value ∷ [])) (record {
        passes = settle_turns options name (value ∷ []) settled known ∙ use_now;
        settles = settle_walks options name (value ∷ []) settled known ∙ use_is;
      })))

-- a name behind `--`, which isn't empty
pub record Named (name : Text) : Type 0 where
  pub first : ℕ
  pub rest : Text
  pub is : name ≡ first ∷ rest

named_option : (name : Text) → is_one_of options name ≡ true → Named name
named_option [] known = absurd (false≢true known)
named_option (byte ∷ bytes) known = record { first = byte; rest = bytes; is = refl }

plain_value : (value : Text) → ¬ BeginsWithDash value → IsPlain value
plain_value value bare =
    elim (fit_is value (plain_fits value bare)) [
      | inl plain ↦ plain
      | inr long ↦ absurd (subst (λ (t : Text). ¬ BeginsWithDash t) long.is bare refl)
    ]

-- one setting, and then words that `clap` takes
takes_setting : (settings : List Setting) (rows : List Row) (pending : Pending) → Holds settings rows pending → (name value : Text) (words others : List Text) → BeginsBySetting words name value others
    → value_of name settings ≡ None → (all : List Setting)
    → ((rows' : List Row) (pending' : Pending) → Holds (settings ++ (name, value) ∷ []) rows' pending' → Takes all others (stands rows' pending' idle))
    → Takes all words (stands rows pending idle)
takes_setting settings rows pending holds name value words others begins unset all goes_on =
    let lacks = options_have_no_equals name begins.known in
    let split = named_option name begins.known in
    elim begins.spelled [
      | inl one ↦
          let spelled : words ≡ option_word (split.first ∷ (split.rest ++ 61 ∷ value)) ∷ others = one ∙ ap (λ t. option_word (t ++ 61 ∷ value) ∷ others) split.is in
          subst (λ (ws : List Text). Takes all ws (stands rows pending idle)) (sym spelled)
          (takes_given settings rows pending holds name value begins.known begins.filled unset split.first (split.rest ++ 61 ∷ value) all others
          (ap (λ t. name_and_value (t ++ 61 ∷ value)) (sym split.is) ∙ parts_given name value lacks) goes_on)
      | inr two ↦
          let spelled : words ≡ option_word (split.first ∷ split.rest) ∷ value ∷ others = two.0 ∙ ap (λ t. option_word t ∷ value ∷ others) split.is in
          subst (λ (ws : List Text). Takes all ws (stands rows pending idle)) (sym spelled)
          (takes_alone settings rows pending holds name value begins.known begins.filled unset split.first split.rest all others
          (ap name_and_value (sym split.is) ∙ parts_alone name lacks) (plain_value value two.1) goes_on)
    ]

-- the words of settings, one after another
pub takes_settings : (settings more : List Setting) (words : List Text) (rows : List Row) (pending : Pending) → Holds settings rows pending → MakeSettings words more
    → AreSetOnce (settings ++ more) → Takes (settings ++ more) words (stands rows pending idle)
unfolding walk_fault
takes_settings settings [] words rows pending holds made once =
    subst (λ (ws : List Text). Takes (settings ++ []) ws (stands rows pending idle)) (sym made) (record {
      passes = refl;
      rows = rows;
      pending = pending;
      ends = refl;
      holds = subst (λ (all : List Setting). Holds all rows pending) (sym (append-nil settings)) holds;
    })
takes_settings settings (setting ∷ more) words rows pending holds made once =
    let unset = unset_before settings setting.0 setting.1 more once in
    let same = append_assoc settings (setting ∷ []) more in
    takes_setting settings rows pending holds setting.0 setting.1 words made.0 made.1 unset (settings ++ setting ∷ more)
    (λ rows' pending' holds'. subst (λ (all : List Setting). Takes all made.0 (stands rows' pending' idle)) same
    (takes_settings (settings ++ setting ∷ []) more made.0 rows' pending' holds' made.2 (subst AreSetOnce (sym same) once)))

-- ---- the test of each word

given_fits : (name value : Text) → name ≢ [] → is_fit (option_word name ++ (61 ∷ value)) ≡ true
given_fits [] value some = absurd (some refl)
given_fits (byte ∷ bytes) value some = refl

alone_fits : (name : Text) → name ≢ [] → is_fit (option_word name) ≡ true
alone_fits [] some = absurd (some refl)
alone_fits (byte ∷ bytes) some = refl

setting_fits : (name value : Text) (words others : List Text) → BeginsBySetting words name value others → list_all is_fit others ≡ true → list_all is_fit words ≡ true
setting_fits name value words others begins fit =
    let some : name ≢ [] = λ none. false≢true (ap (is_one_of options) (sym none) ∙ begins.known) in
    elim begins.spelled [
      | inl one ↦ ap (list_all is_fit) one ∙ and_from _ _ (given_fits name value some) fit
      | inr two ↦ ap (list_all is_fit) two.0 ∙ and_from _ _ (alone_fits name some) (and_from _ _ (plain_fits value two.1) fit)
    ]

-- words that make settings pass it
pub settings_fit : (words : List Text) (settings : List Setting) → MakeSettings words settings → list_all is_fit words ≡ true
settings_fit words [] made = ap (list_all is_fit) made
settings_fit words (setting ∷ settings) made = setting_fits setting.0 setting.1 words made.0 made.1 (settings_fit made.0 settings made.2)
