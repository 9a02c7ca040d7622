-- Which words are a command, and for which job.
use Rattle.std.specs.Prelude.{◌≡◌, List, Some}
use Rattle.ep_words.specs.Settings.{AreSetOnce, MakeSettings, Setting, Text}
use Rattle.ep_words.specs.Jobs.{job_of}
use Rattle.ep_words.specs.declared.job.Job.{Job}

-- the words make settings, none of an option that another one sets, and these ask for the job
pub record IsCommand (words : List Text) (job : Job) : Type 0 where
  pub settings : List Setting
  pub made : MakeSettings words settings
  pub once : AreSetOnce settings
  pub asks : job_of settings ≡ Some job
