-- What the words of a command want of a run.
use Rattle.std.specs.Prelude.{◌≡◌, ℕ, List, [], ◌∷◌, ◌++◌, Option, None, Some, option_to_list}
use Rattle.ep_words.specs.Commands.{IsCommand}
use Rattle.ep_words.specs.declared.job.Job.{Job}
use Rattle.ep_driver.specs.declared.wanted.Outputs.{Outputs}
use Rattle.ep_driver.specs.declared.wanted.Request.{Request}
use Rattle.ep_driver.specs.declared.wanted.Wanted.{Wanted}

-- no file is named for output
abbrev pub no_outputs : Outputs
no_outputs = record { formula = None; log = None; solution = None }

-- a request for one solution, by cubes where it is said over how many variables
unfoldable pub one_within : ℕ → Option ℕ → Request
one_within conflicts None = Request.One conflicts
one_within conflicts (Some cubes) = Request.Divided cubes conflicts

-- What a job wants of a run: to search for one solution of a model or for many, and to write the formula, the steps of the log and
-- the answer into files where they are named; or to explain why there is none; or to verify a solution; each in a mode of
-- undefinedness; or to solve a pseudo-Boolean problem; or to check a proof of a formula, by so many workers; or to solve the texts of a
-- number, and to write them where files are named.
unfoldable pub wanted_of : Job → Wanted
wanted_of (Job.Solve model params conflicts solution formula log mode cubes) =
    Wanted.Search model params mode (one_within conflicts cubes) (record { formula = formula; log = log; solution = solution })
wanted_of (Job.Enumerate model params solutions conflicts solution formula log mode) =
    Wanted.Search model params mode (Request.Many solutions conflicts) (record { formula = formula; log = log; solution = solution })
wanted_of (Job.Explain model params conflicts mode) = Wanted.Search model params mode (Request.Explained conflicts) no_outputs
wanted_of (Job.Opb opb conflicts) = Wanted.Opb opb conflicts
wanted_of (Job.Verify model solution params mode) = Wanted.Verify model params mode solution
wanted_of (Job.Check formula proof workers) = Wanted.Check formula proof workers
wanted_of (Job.Generate number conflicts eprime param) = Wanted.Generate number conflicts eprime param

-- the words are a command that wants this
abbrev pub Want : List (List ℕ) → Wanted → Type 0
Want words wanted = (job : Job) × IsCommand words job × (wanted_of job ≡ wanted)

-- the words are no command
abbrev pub AreNoCommand : List (List ℕ) → Type 0
AreNoCommand words = (wanted : Wanted) → ¬ Want words wanted

-- the files that have to be read, in this order
abbrev pub files_of : Wanted → List (List ℕ)
files_of (Wanted.Search model params mode request outputs) = model ∷ option_to_list params
files_of (Wanted.Opb opb conflicts) = opb ∷ []
files_of (Wanted.Verify model params mode solution) = (model ∷ option_to_list params) ++ solution ∷ []
files_of (Wanted.Check formula proof workers) = formula ∷ proof ∷ []
files_of (Wanted.Generate number conflicts eprime param) = []

-- a solution or a proof is judged, and nothing is searched for
abbrev pub IsJudgement : Wanted → Type 0
IsJudgement (Wanted.Search model params mode request outputs) = ⊥
IsJudgement (Wanted.Opb opb conflicts) = ⊥
IsJudgement (Wanted.Verify model params mode solution) = Unit {0}
IsJudgement (Wanted.Check formula proof workers) = Unit {0}
IsJudgement (Wanted.Generate number conflicts eprime param) = ⊥

-- how many conflicts a search may take
unfoldable pub conflicts_wanted : Request → ℕ
conflicts_wanted (Request.One conflicts) = conflicts
conflicts_wanted (Request.Divided cubes conflicts) = conflicts
conflicts_wanted (Request.Many most conflicts) = conflicts
conflicts_wanted (Request.Explained conflicts) = conflicts
conflicts_wanted (Request.Generated number conflicts) = conflicts
