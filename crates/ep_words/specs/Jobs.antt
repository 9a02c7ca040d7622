-- What settings ask for.
use Rattle.std.specs.Prelude.{ℕ, Bool, ◌&&◌, List, [], ◌∷◌, codes, Option, Some, None, option_map, option_and_then, unwrap_or, if◌then◌else◌, nat_le, bytes_eq, length}
use Rattle.std.specs.List.{list_all}
use Rattle.std.specs.Str.Parse.{digits_value}
use Rattle.ep_base.specs.TokenTexts.{is_number, is_one_of}
use Rattle.ep_tree.specs.declared.values.Mode.{Mode}
use Rattle.ep_words.specs.Settings.{Setting, Text, value_of}
use Rattle.ep_words.specs.declared.job.Job.{Job}
use Rattle.ep_words.specs.declared.job.Job.TheVariants.{Solve, Enumerate, Explain, Opb, Verify, Check, Generate}
use Rattle.ep_words.specs.declared.task.Task.{Task}

-- ---- numbers

-- one to ten decimal digits that write a number between two others
abbrev pub number_within : ℕ → ℕ → Text → Option ℕ
number_within least greatest text =
    if (is_number text && nat_le (length text) 10)
    && (nat_le least (digits_value 10 text) && nat_le (digits_value 10 text) greatest)
    then Some (digits_value 10 text) else None

-- the number that an option is given, or another one where it isn't set
abbrev pub number_or : ℕ → (Text → Option ℕ) → Option Text → Option ℕ
number_or default read None = Some default
number_or default read (Some text) = read text

-- how many conflicts the search may take
abbrev pub conflicts_of : List Setting → Option ℕ
conflicts_of settings = number_or 1000000 (number_within 1 1000000000) (value_of (codes "conflicts") settings)

-- how many workers there are to be
abbrev pub workers_of : List Setting → Option ℕ
workers_of settings = number_or 1 (number_within 1 64) (value_of (codes "workers") settings)

-- the number that an option is given, or none where it isn't set
abbrev pub number_if_set : (Text → Option ℕ) → Option Text → Option (Option ℕ)
number_if_set read None = Some None
number_if_set read (Some text) = option_map Some (read text)

-- over how many variables a formula is to be divided, where that is wanted
abbrev pub cubes_of : List Setting → Option (Option ℕ)
cubes_of settings = number_if_set (number_within 1 6) (value_of (codes "cubes") settings)

-- a number of solutions, or `all`, which stands for the greatest number of them
abbrev pub solution_count : Text → Option ℕ
solution_count text = if bytes_eq text (codes "all") then Some 1000000 else number_within 1 1000000 text

-- ---- modes of undefinedness

-- the mode of a name
abbrev pub mode_named : Text → Option Mode
mode_named text =
    if bytes_eq text (codes "relational") then Some Mode.Relational
    else (if bytes_eq text (codes "strict") then Some Mode.Strict
    else None)

-- the mode that settings name, or the relational one where they name none
abbrev pub mode_of : List Setting → Option Mode
mode_of settings = mode_named (unwrap_or (value_of (codes "undefined") settings) (codes "relational"))

-- ---- tasks

-- the task of a name
abbrev pub task_named : Text → Option Task
task_named text =
    if bytes_eq text (codes "solve") then Some Task.Solve
    else (if bytes_eq text (codes "enumerate") then Some Task.Enumerate
    else (if bytes_eq text (codes "explain") then Some Task.Explain
    else (if bytes_eq text (codes "opb") then Some Task.Opb
    else (if bytes_eq text (codes "verify") then Some Task.Verify
    else (if bytes_eq text (codes "check") then Some Task.Check
    else (if bytes_eq text (codes "generate") then Some Task.Generate
    else None))))))

-- no option is set but some
abbrev pub sets_only : List Text → List Setting → Bool
sets_only names settings = list_all (λ setting. is_one_of names setting.0) settings

abbrev pub solve_options : List Text
solve_options =
    codes "task" ∷ codes "in-eprime" ∷ codes "in-param" ∷ codes "conflicts" ∷ codes "out-solution" ∷ codes "out-cnf"
    ∷ codes "out-log" ∷ codes "undefined" ∷ codes "cubes" ∷ []

abbrev pub enumerate_options : List Text
enumerate_options =
    codes "task" ∷ codes "in-eprime" ∷ codes "in-param" ∷ codes "solutions" ∷ codes "conflicts"
    ∷ codes "out-solution" ∷ codes "out-cnf" ∷ codes "out-log" ∷ codes "undefined" ∷ []

abbrev pub explain_options : List Text
explain_options = codes "task" ∷ codes "in-eprime" ∷ codes "in-param" ∷ codes "conflicts" ∷ codes "undefined" ∷ []

abbrev pub opb_options : List Text
opb_options = codes "task" ∷ codes "in-opb" ∷ codes "conflicts" ∷ []

abbrev pub verify_options : List Text
verify_options =
    codes "task" ∷ codes "in-eprime" ∷ codes "in-solution" ∷ codes "in-param" ∷ codes "undefined" ∷ []

abbrev pub check_options : List Text
check_options = codes "task" ∷ codes "in-cnf" ∷ codes "in-log" ∷ codes "workers" ∷ []

abbrev pub generate_options : List Text
generate_options = codes "task" ∷ codes "number" ∷ codes "conflicts" ∷ codes "out-eprime" ∷ codes "out-param" ∷ []

-- ---- jobs

-- a model is solved; its text's name is needed
abbrev pub solve_job : List Setting → Option Job
solve_job s =
    option_and_then (λ in_eprime.
    option_and_then (λ conflicts.
    option_and_then (λ undefined.
    option_map (λ cubes.
    Solve in_eprime (value_of (codes "in-param") s) conflicts (value_of (codes "out-solution") s)
    (value_of (codes "out-cnf") s) (value_of (codes "out-log") s) undefined cubes)
    (cubes_of s))
    (mode_of s))
    (conflicts_of s))
    (value_of (codes "in-eprime") s)

-- the solutions of a model are listed; its text's name and a number of solutions are needed
abbrev pub enumerate_job : List Setting → Option Job
enumerate_job s =
    option_and_then (λ in_eprime.
    option_and_then (λ solutions.
    option_and_then (λ conflicts.
    option_map (λ undefined.
    Enumerate in_eprime (value_of (codes "in-param") s) solutions conflicts (value_of (codes "out-solution") s)
    (value_of (codes "out-cnf") s) (value_of (codes "out-log") s) undefined)
    (mode_of s))
    (conflicts_of s))
    (option_and_then solution_count (value_of (codes "solutions") s)))
    (value_of (codes "in-eprime") s)

-- why a model has no solution is explained; its text's name is needed
abbrev pub explain_job : List Setting → Option Job
explain_job s =
    option_and_then (λ in_eprime.
    option_and_then (λ conflicts.
    option_map (λ undefined. Explain in_eprime (value_of (codes "in-param") s) conflicts undefined)
    (mode_of s))
    (conflicts_of s))
    (value_of (codes "in-eprime") s)

-- a pseudo-Boolean problem is solved; its text's name is needed
abbrev pub opb_job : List Setting → Option Job
opb_job s =
    option_and_then (λ in_opb.
    option_map (λ conflicts. Opb in_opb conflicts)
    (conflicts_of s))
    (value_of (codes "in-opb") s)

-- a solution is verified; the names of the model's text and of the solution's are needed
abbrev pub verify_job : List Setting → Option Job
verify_job s =
    option_and_then (λ in_eprime.
    option_and_then (λ in_solution.
    option_map (λ undefined. Verify in_eprime in_solution (value_of (codes "in-param") s) undefined)
    (mode_of s))
    (value_of (codes "in-solution") s))
    (value_of (codes "in-eprime") s)

-- a proof is checked; the names of the formula's text and of the proof's are needed
abbrev pub check_job : List Setting → Option Job
check_job s =
    option_and_then (λ in_cnf.
    option_and_then (λ in_log.
    option_map (λ workers. Check in_cnf in_log workers)
    (workers_of s))
    (value_of (codes "in-log") s))
    (value_of (codes "in-cnf") s)

-- an input is generated and solved; its number is needed
abbrev pub generate_job : List Setting → Option Job
generate_job s =
    option_and_then (λ number.
    option_map (λ conflicts. Generate number conflicts (value_of (codes "out-eprime") s) (value_of (codes "out-param") s))
    (conflicts_of s))
    (option_and_then (number_within 0 1000000000) (value_of (codes "number") s))

-- the job of settings, if no other options are set than some
abbrev pub job_within : List Text → (List Setting → Option Job) → List Setting → Option Job
job_within names job settings = if sets_only names settings then job settings else None

-- the job of a task: no option is set that isn't the task's
abbrev pub job_of_task : Task → List Setting → Option Job
job_of_task Task.Solve settings = job_within solve_options solve_job settings
job_of_task Task.Enumerate settings = job_within enumerate_options enumerate_job settings
job_of_task Task.Explain settings = job_within explain_options explain_job settings
job_of_task Task.Opb settings = job_within opb_options opb_job settings
job_of_task Task.Verify settings = job_within verify_options verify_job settings
job_of_task Task.Check settings = job_within check_options check_job settings
job_of_task Task.Generate settings = job_within generate_options generate_job settings

-- the task that settings name, or to solve where they name none
abbrev pub task_of : List Setting → Option Task
task_of settings = task_named (unwrap_or (value_of (codes "task") settings) (codes "solve"))

-- the job that settings ask for, if they ask for one
abbrev pub job_of : List Setting → Option Job
job_of settings = option_and_then (λ task. job_of_task task settings) (task_of settings)
