-- Words that are no command.
use Rattle.std.proofs.Common.{ℕ, List}
use Rattle.ep_words.specs.Commands.{IsCommand}
use Rattle.ep_words.specs.declared.job.Job.{Job}
use Rattle.ep_driver.specs.Commands.{AreNoCommand}

-- the words have no job
pub no-job : (words : List (List ℕ)) → ((job : Job) → ¬ IsCommand words job) → AreNoCommand words
no-job words none = λ wanted want. none want.0 want.1
