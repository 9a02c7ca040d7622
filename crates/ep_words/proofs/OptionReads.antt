-- Words that `clap` takes make settings.
use Rattle.std.proofs.Common.{◌≡◌, ◌≢◌, ℕ, false, true, List, [], ◌∷◌, ◌++◌, Option, Some, None, inl, inr, refl, sym, ap, ap₂, ◌∙◌, append_assoc, append-nil, subst}
use Rattle.std.specs.Prelude.{fold}
use Rattle.std.specs.List.{list_all}
use Rattle.std.proofs.lemmas.Bool.{and_parts, cases_Bool}
use Rattle.ep_base.specs.TokenTexts.{is_one_of}
use Rattle.clap.specs.Lexer.{name_and_value}
use Rattle.clap.specs.Kinds.{Kinds, or_else}
use Rattle.clap.specs.Walk.{Row, Text, Walk, has_row, idle, option, settled_rows, used, walked}
use Rattle.clap.specs.Faults.{settle_fault, turn_fault, use_fault, walk_fault}
use Rattle.ep_words.specs.Settings.{AreSetOnce, BeginsBySetting, BeginsWithDash, MakeSettings, Setting, option_word, options}
use Rattle.ep_words.specs.Options.{is_fit}
use Rattle.ep_words.proofs.OptionRules.{built_shape, set_rule, set_rules}
use Rattle.ep_words.proofs.OptionWords.{IsPlain, fit_is, parts_whole}
use Rattle.ep_words.proofs.OptionWalk.{Pending, alone_turns, alone_walks, given_turns, given_walks, held, stands, stray_turns, unknown_turns, value_walks}
use Rattle.ep_words.proofs.OptionRows.{rows_for, settle_turns, settle_walks, unset_of_row, use_passed, used_once}
use Rattle.ep_words.proofs.SettingLaws.{once_push}

-- ---- lists of faults

pub first_none : (a b : Kinds) → or_else a b ≡ [] → a ≡ []
first_none [] b none = refl
first_none (kind ∷ kinds) b none = none

pub rest_none : (a b : Kinds) → or_else a b ≡ [] → b ≡ []
rest_none [] b none = none
rest_none (kind ∷ kinds) b none = absurd cc

-- ---- what holds of a walk

-- where what is pending passes, the rows with it are those of settings of which each is set once
abbrev Promise : List Setting → List Row → Pending → Type 0
Promise settings rows pending = settle_fault (set_rules options) false (held rows pending) ≡ []
    → (settled_rows (set_rules options) pending rows ≡ rows_for settings) × AreSetOnce settings

-- the walk over these words passes, and so does what is pending then
pub record Passes (words : List Text) (start : Walk) : Type 0 where
  pub fit : list_all is_fit words ≡ true
  pub walk : walk_fault (built_shape options) [] start words ≡ []
  pub end : settle_fault (set_rules options) false (fold (walked (set_rules options) []) start words).held ≡ []

-- the words make settings, and the walk over them ends with their rows
pub record Makes (settings : List Setting) (words : List Text) (start : Walk) : Type 0 where
  pub more : List Setting
  pub made : MakeSettings words more
  pub once : AreSetOnce (settings ++ more)
  pub rows : List Row
  pub pending : Pending
  pub ends : fold (walked (set_rules options) []) start words ≡ stands rows pending idle
  pub settles : settled_rows (set_rules options) pending rows ≡ rows_for (settings ++ more)

-- nothing is waited for: what is pending passes, and the words make settings
abbrev Idle : List Text → Type 0
Idle words = (settings : List Setting) (rows : List Row) (pending : Pending) → Promise settings rows pending → Passes words (stands rows pending idle)
    → (settle_fault (set_rules options) false (held rows pending) ≡ []) × Makes settings words (stands rows pending idle)

-- a value is waited for: it is the first word, and the others make settings
record Given (settings : List Setting) (name : Text) (words : List Text) : Type 0 where
  pub value : Text
  pub others : List Text
  pub is : words ≡ value ∷ others
  pub filled : value ≢ []
  pub bare : ¬ BeginsWithDash value
  pub makes : Makes (settings ++ (name, value) ∷ []) others (stands (rows_for settings) (Some (name, value ∷ [])) idle)
  pub ends : fold (walked (set_rules options) []) (stands (rows_for settings) (Some (name, [])) (option name)) words
      ≡ fold (walked (set_rules options) []) (stands (rows_for settings) (Some (name, value ∷ [])) idle) others

abbrev Waits : List Text → Type 0
Waits words = (settings : List Setting) (name : Text) → is_one_of options name ≡ true → AreSetOnce settings → Passes words (stands (rows_for settings) (Some (name, [])) (option name))
    → Given settings name words

-- the first word passes, and then the walk from where it leads
record OneMore (word : Text) (words : List Text) (start next : Walk) : Type 0 where
  pub turn : turn_fault (built_shape options) [] start word ≡ []
  pub passes : Passes words next

one_more : (word : Text) (words : List Text) (start next : Walk) → walked (set_rules options) [] start word ≡ next → Passes (word ∷ words) start → OneMore word words start next
unfolding walk_fault
one_more word words start next walks passes =
    let turn = first_none (turn_fault (built_shape options) [] start word) _ passes.walk in
    let rest = rest_none (turn_fault (built_shape options) [] start word) _ passes.walk in
    record {
      turn = turn;
      passes = record {
        fit = (and_parts _ _ passes.fit).1;
        walk = subst (λ (w : Walk). walk_fault (built_shape options) [] w words ≡ []) walks rest;
        end = subst (λ (w : Walk). settle_fault (set_rules options) false (fold (walked (set_rules options) []) w words).held ≡ []) walks passes.end;
      };
    }

turn_of : (word : Text) (words : List Text) (start : Walk) → Passes (word ∷ words) start → turn_fault (built_shape options) [] start word ≡ []
turn_of word words start passes = (one_more word words start _ refl passes).turn

-- ---- one more option

-- a use that passes: the option wasn't set, and is set now
record Set (settings : List Setting) (name value : Text) (settled : List Row) : Type 0 where
  pub filled : value ≢ []
  pub rows : used (set_rule name) (value ∷ []) settled ≡ rows_for (settings ++ (name, value) ∷ [])
  pub once : AreSetOnce (settings ++ (name, value) ∷ [])

set_now : (settings : List Setting) (name value : Text) (settled : List Row) → AreSetOnce settings → settled ≡ rows_for settings → use_fault false (set_rule name) (value ∷ []) settled ≡ []
    → Set settings name value settled
set_now settings name value settled once same passes =
    let passed = use_passed name value settled passes in
    let unset = unset_of_row name settings (subst (λ (rs : List Row). has_row name rs ≡ false) same passed.none) in
    record {
      filled = passed.filled;
      rows = ap (λ (rs : List Row). used (set_rule name) (value ∷ []) rs) same ∙ used_once name value settings unset;
      once = once_push settings name value once unset;
    }

setting_before : (settings : List Setting) (name value : Text) (words others : List Text) (start next : Walk) → BeginsBySetting words name value others
    → fold (walked (set_rules options) []) start words ≡ fold (walked (set_rules options) []) next others → Makes (settings ++ (name, value) ∷ []) others next → Makes settings words start
setting_before settings name value words others start next begins ends makes = record {
  more = (name, value) ∷ makes.more;
  made = (others, begins, makes.made);
  once = subst AreSetOnce (append_assoc settings ((name, value) ∷ []) makes.more) makes.once;
  rows = makes.rows;
  pending = makes.pending;
  ends = ends ∙ makes.ends;
  settles = makes.settles ∙ ap rows_for (append_assoc settings ((name, value) ∷ []) makes.more);
}

-- ---- the end of the words

idle_end : Idle []
idle_end settings rows pending promise passes =
    let same = promise passes.end in (
      passes.end,
      record {
        more = [];
        made = refl;
        once = subst AreSetOnce (sym (append-nil settings)) same.1;
        rows = rows;
        pending = pending;
        ends = refl;
        settles = same.0 ∙ ap rows_for (sym (append-nil settings));
      },
    )

waits_end : Waits []
waits_end settings name known once passes =
    let missing = sym (settle_turns options name [] (rows_for settings) known) ∙ passes.end in
    absurd cc

-- ---- a word that begins with `--` and goes on, where nothing is waited for

module _ (settings : List Setting) (rows : List Row) (pending : Pending) (promise : Promise settings rows pending) (words : List Text) (first : ℕ) (rest : Text) where
  abbrev word : Text
  word = option_word (first ∷ rest)

  abbrev start : Walk
  start = stands rows pending idle

  abbrev Outcome : Type 0
  Outcome = (settle_fault (set_rules options) false (held rows pending) ≡ []) × Makes settings (word ∷ words) start

  idle_given : Idle words → (name value : Text) → name_and_value (first ∷ rest) ≡ (name, Some value) → first ∷ rest ≡ name ++ 61 ∷ value → is_one_of options name ≡ true
      → Passes (word ∷ words) start → Outcome
  idle_given idle_on name value parts whole known passes =
      let walks = given_walks options first rest name value parts known rows pending idle tt in
      let more = one_more word words start _ walks passes in
      let both = sym (given_turns options first rest name value parts known rows pending idle tt) ∙ more.turn in
      let settled = first_none _ _ both in
      let same = promise settled in
      let set = set_now settings name value (settled_rows (set_rules options) pending rows) same.1 same.0 (rest_none _ _ both) in
      let later = idle_on (settings ++ (name, value) ∷ []) _ None (λ none. (set.rows, set.once)) more.passes in
      let begins : BeginsBySetting (word ∷ words) name value words = record { known = known; filled = set.filled; spelled = inl (ap (λ t. option_word t ∷ words) whole) } in
      (settled, setting_before settings name value (word ∷ words) words start _ begins (ap (λ (w : Walk). fold (walked (set_rules options) []) w words) walks) later.1)

  idle_alone : Waits words → (name : Text) → name_and_value (first ∷ rest) ≡ (name, None) → first ∷ rest ≡ name → is_one_of options name ≡ true
      → Passes (word ∷ words) start → Outcome
  idle_alone waits_on name parts whole known passes =
      let walks = alone_walks options first rest name parts known rows pending idle tt in
      let settled : settle_fault (set_rules options) false (held rows pending) ≡ [] = sym (alone_turns options first rest name parts known rows pending idle tt) ∙ turn_of word words start passes in
      let same = promise settled in
      let walks_on = walks ∙ ap (λ (rs : List Row). stands rs (Some (name, [])) (option name)) same.0 in
      let more = one_more word words start _ walks_on passes in
      let given = waits_on settings name known same.1 more.passes in
      let begins : BeginsBySetting (word ∷ words) name given.value given.others = record {
        known = known;
        filled = given.filled;
        spelled = inr (ap₂ (λ t ws. option_word t ∷ ws) whole given.is, given.bare);
      } in
      (settled, setting_before settings name given.value (word ∷ words) given.others start _ begins (ap (λ (w : Walk). fold (walked (set_rules options) []) w words) walks_on ∙ given.ends) given.makes)

  idle_named : Idle words → Waits words → (name : Text) (given : Option Text) → name_and_value (first ∷ rest) ≡ (name, given) → Passes (word ∷ words) start → Outcome
  idle_named idle_on waits_on name given parts passes =
      elim (cases_Bool (is_one_of options name)) [
        | inl known ↦ known_name given parts known
        | inr unknown ↦ let both = sym (unknown_turns options first rest name given parts unknown rows pending idle tt) ∙ turn_of word words start passes in absurd cc
      ]
    where
      known_name : (given : Option Text) → name_and_value (first ∷ rest) ≡ (name, given) → is_one_of options name ≡ true → Outcome
      known_name None parts known = idle_alone waits_on name parts (parts_whole (first ∷ rest) name None parts) known passes
      known_name (Some value) parts known = idle_given idle_on name value parts (parts_whole (first ∷ rest) name (Some value) parts) known passes

-- ---- a word

idle_more : (word : Text) (words : List Text) → Idle words → Waits words → Idle (word ∷ words)
idle_more word words idle_on waits_on settings rows pending promise passes =
    elim (fit_is word (and_parts _ _ passes.fit).0) [
      | inl plain ↦
          let both = sym (stray_turns options word plain rows pending) ∙ turn_of word words (stands rows pending idle) passes in
          absurd cc
      | inr long ↦
          subst (λ (w : Text). Passes (w ∷ words) (stands rows pending idle) → (settle_fault (set_rules options) false (held rows pending) ≡ []) × Makes settings (w ∷ words) (stands rows pending idle))
          (sym long.is)
          (idle_named settings rows pending promise words long.first long.rest idle_on waits_on _ _ refl)
          passes
    ]

-- what is pending has no value yet
not_yet : (settings : List Setting) (name : Text) → is_one_of options name ≡ true → settle_fault (set_rules options) false (held (rows_for settings) (Some (name, []))) ≡ [] → ⊥
not_yet settings name known passes = let missing = sym (settle_turns options name [] (rows_for settings) known) ∙ passes in cc

-- a word that begins with `--` and goes on doesn't pass where a value is waited for
no_value : (settings : List Setting) (name : Text) (first : ℕ) (rest other : Text) (given : Option Text) → is_one_of options name ≡ true → name_and_value (first ∷ rest) ≡ (other, given)
    → turn_fault (built_shape options) [] (stands (rows_for settings) (Some (name, [])) (option name)) (option_word (first ∷ rest)) ≡ [] → ⊥
no_value settings name first rest other given known parts turn =
    elim (cases_Bool (is_one_of options other)) [
      | inl here ↦ not_yet settings name known (settled given parts here)
      | inr unknown ↦ let both = sym (unknown_turns options first rest other given parts unknown (rows_for settings) (Some (name, [])) (option name) tt) ∙ turn in cc
    ]
  where
    settled : (given : Option Text) → name_and_value (first ∷ rest) ≡ (other, given) → is_one_of options other ≡ true
        → settle_fault (set_rules options) false (held (rows_for settings) (Some (name, []))) ≡ []
    settled None parts here = sym (alone_turns options first rest other parts here (rows_for settings) (Some (name, [])) (option name) tt) ∙ turn
    settled (Some value) parts here = first_none _ _ (sym (given_turns options first rest other value parts here (rows_for settings) (Some (name, [])) (option name) tt) ∙ turn)

waits_value : (value : Text) (words : List Text) → Idle words → IsPlain value → (settings : List Setting) (name : Text) → is_one_of options name ≡ true → AreSetOnce settings
    → Passes (value ∷ words) (stands (rows_for settings) (Some (name, [])) (option name)) → Given settings name (value ∷ words)
waits_value value words idle_on plain settings name known once passes =
    let rows = rows_for settings in
    let walks = value_walks options value plain rows name known in
    let more = one_more value words (stands rows (Some (name, [])) (option name)) _ walks passes in
    let set : settle_fault (set_rules options) false (held rows (Some (name, value ∷ []))) ≡ [] → Set settings name value rows =
    λ settled. set_now settings name value rows once refl (sym (settle_turns options name (value ∷ []) rows known) ∙ settled) in
    let later = idle_on (settings ++ (name, value) ∷ []) rows (Some (name, value ∷ []))
    (λ settled. (settle_walks options name (value ∷ []) rows known ∙ (set settled).rows, (set settled).once)) more.passes in
    record {
      value = value;
      others = words;
      is = refl;
      filled = (set later.0).filled;
      bare = plain.bare;
      makes = later.1;
      ends = ap (λ (w : Walk). fold (walked (set_rules options) []) w words) walks;
    }

waits_more : (word : Text) (words : List Text) → Idle words → Waits (word ∷ words)
waits_more word words idle_on settings name known once passes =
    elim (fit_is word (and_parts _ _ passes.fit).0) [
      | inl plain ↦ waits_value word words idle_on plain settings name known once passes
      | inr long ↦
          let turn = turn_of word words (stands (rows_for settings) (Some (name, [])) (option name)) passes in
          absurd (no_value settings name long.first long.rest _ _ known refl
          (subst (λ (w : Text). turn_fault (built_shape options) [] (stands (rows_for settings) (Some (name, [])) (option name)) w ≡ []) long.is turn))
    ]

each_way : (words : List Text) → Idle words × Waits words
each_way [] = (idle_end, waits_end)
each_way (word ∷ words) =
    let on = each_way words in
    (idle_more word words on.0 on.1, waits_more word words on.0)

-- words that `clap` takes from the first on make settings
pub passed_words_make : (words : List Text) → Passes words (stands [] None idle) → Makes [] words (stands [] None idle)
passed_words_make words passes = ((each_way words).0 [] [] None (λ none. (refl, tt)) passes).1
