-- Words are a command, or they are none.
use Rattle.std.specs.Prelude.{◌≡◌, ℕ, ◌⊎◌, Bool, true, false, List, [], ◌∷◌, Option, Some, None, refl}
use Rattle.std.specs.List.{list_all}
use Rattle.std.proofs.Common.{inl, inr, sym, ◌∙◌}
use Rattle.std.proofs.lemmas.Bool.{false≢true}
use Rattle.clap.specs.Faults.{fault_of}
use Rattle.clap.specs.Kinds.{Kinds}
use Rattle.ep_words.proofs.OptionLaws.{passing_make, settings_pass}
use Rattle.ep_words.proofs.OptionTakes.{settings_fit}
use Rattle.ep_words.proofs.SettingLaws.{no_job}
use Rattle.ep_words.specs.Commands.{IsCommand}
use Rattle.ep_words.specs.Jobs.{job_of}
use Rattle.ep_words.specs.Options.{command_with, is_fit}
use Rattle.ep_words.specs.Settings.{AreSetOnce, MakeSettings, Setting, options}
use Rattle.ep_words.specs.declared.job.Job.{Job}

-- words are a command for a job, or for none
abbrev pub IsDecided : List (List ℕ) → Type 0
IsDecided words = ((job : Job) × IsCommand words job) ⊎ ((job : Job) → ¬ IsCommand words job)

settings_asked : (words : List (List ℕ)) (settings : List Setting) → MakeSettings words settings → AreSetOnce settings → (o : Option Job) → job_of settings ≡ o → IsDecided words
settings_asked words settings made once (Some job) e = inl (job, record { settings = settings; made = made; once = once; asks = e })
settings_asked words settings made once None e = inr (no_job words settings made e)

fit_words : (words : List (List ℕ)) → list_all is_fit words ≡ true → (faults : Kinds) → fault_of (command_with options) words ≡ faults → IsDecided words
fit_words words fit [] e =
    let make = passing_make words fit e in
    settings_asked words make.0 make.1.made make.1.once (job_of make.0) refl
fit_words words fit (kind ∷ kinds) e = inr (λ job command. let wrong = sym (settings_pass words command.settings command.made command.once) ∙ e in cc)

words_tested : (words : List (List ℕ)) (fit : Bool) → list_all is_fit words ≡ fit → IsDecided words
words_tested words true e = fit_words words e (fault_of (command_with options) words) refl
words_tested words false e = inr (λ job command. false≢true (sym e ∙ settings_fit words command.settings command.made))

pub words_decided : (words : List (List ℕ)) → IsDecided words
words_decided words = words_tested words (list_all is_fit words) refl
