-- What `clap` says of words, and the settings that the words make.
use Rattle.std.proofs.Common.{◌≡◌, true, false, List, [], None, refl, sym, ap, ap₂, ◌∙◌}
use Rattle.std.specs.Prelude.{fold, is_some}
use Rattle.std.specs.List.{list_all}
use Rattle.clap.specs.Kinds.{Kinds, or_else}
use Rattle.clap.specs.Walk.{Text, Walk, finished, idle, nothing_held, rows_after, settled, settled_rows, walked, with_default}
use Rattle.clap.specs.Simple.{App, entered, matches_of, names_of}
use Rattle.clap.specs.Faults.{built_fault, check_fault, defaults_fault, entered_fault, fault_of, settle_fault, walk_fault}
use Rattle.ep_words.specs.Settings.{AreSetOnce, MakeSettings, Setting, options}
use Rattle.ep_words.specs.Options.{command_with, is_fit}
use Rattle.ep_words.proofs.OptionRules.{built_command, built_is, built_shape, checks_pass, defaults_kept, defaults_pass, set_rules}
use Rattle.ep_words.proofs.OptionWalk.{stands}
use Rattle.ep_words.proofs.OptionRows.{rows_for}
use Rattle.ep_words.proofs.OptionTakes.{takes_settings}
use Rattle.ep_words.proofs.OptionReads.{first_none, passed_words_make, rest_none}

abbrev start : Walk
start = stands [] None idle

-- the faults of the walk, and then those at its end
abbrev fault_at : Kinds → Walk → Kinds
fault_at walking end =
    or_else walking
    (or_else (entered_fault (built_command options) end.stopped)
    (or_else (settle_fault (set_rules options) false end.held)
    (or_else (defaults_fault (settled (set_rules options) end.held).rows (set_rules options))
    (check_fault (built_shape options) (finished (set_rules options) end.held) (is_some (entered (built_command options) end.stopped))))))

fault_is : (words : List Text) → fault_of (command_with options) words ≡ fault_at (walk_fault (built_shape options) [] start words) (fold (walked (set_rules options) []) start words)
fault_is words = ap (λ (app : App). built_fault app nothing_held words) (built_is options)

-- words that make settings, each once, are no fault
pub settings_pass : (words : List Text) (settings : List Setting) → MakeSettings words settings → AreSetOnce settings → fault_of (command_with options) words ≡ []
settings_pass words settings made once =
    let takes = takes_settings [] settings words [] None (record { passes = refl; settles = refl }) made once in
    let rows = settled_rows (set_rules options) takes.pending takes.rows in
    fault_is words ∙ ap₂ fault_at takes.passes takes.ends
    ∙ ap₂ or_else takes.holds.passes
    (ap₂ or_else (defaults_pass options rows) (checks_pass options (fold with_default rows (set_rules options))))

-- the words make these settings, each once
pub record AreMade (words : List Text) (settings : List Setting) : Type 0 where
  pub made : MakeSettings words settings
  pub once : AreSetOnce settings
  pub rows : matches_of (command_with options) words ≡ rows_for settings

-- words that are no fault, and fit, make settings
pub passing_make : (words : List Text) → list_all is_fit words ≡ true → fault_of (command_with options) words ≡ [] → (settings : List Setting) × AreMade words settings
passing_make words fit passes =
    let faults = sym (fault_is words) ∙ passes in
    let behind = rest_none _ _ (rest_none _ _ faults) in
    let makes = passed_words_make words (record { fit = fit; walk = first_none _ _ faults; end = first_none _ _ behind }) in (
      makes.more,
      record {
        made = makes.made;
        once = makes.once;
        rows =
            ap (λ (app : App). rows_after app.top.rules (names_of app) words) (built_is options)
            ∙ ap (λ (w : Walk). finished (set_rules options) w.held) makes.ends
            ∙ defaults_kept options (settled_rows (set_rules options) makes.pending makes.rows)
            ∙ makes.settles;
      },
    )
