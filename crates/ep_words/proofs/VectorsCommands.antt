-- Worked command lines.
use Rattle.std.proofs.Common.{◌≡◌, List, [], ◌∷◌, map, codes, Some, None, inl, inr, refl, arith}
use Rattle.ep_tree.specs.declared.values.Mode.{Mode}
use Rattle.ep_words.specs.Settings.{AreSetOnce, BeginsBySetting, Text}
use Rattle.ep_words.specs.Jobs.{job_of, number_within, solution_count}
use Rattle.ep_words.specs.Commands.{IsCommand}
use Rattle.ep_words.specs.declared.job.Job.TheVariants.{Solve, Enumerate, Explain, Opb, Verify, Check, Generate}
use Rattle.ep_words.proofs.Words.{unnamed}

-- numbers, of at most ten digits, within their range
numbers : map (number_within 1 1000000000) (codes "1" ∷ codes "0000000001" ∷ codes "1000000000" ∷ []) ≡ Some 1 ∷ Some 1 ∷ Some 1000000000 ∷ []
numbers = refl

no_numbers : map (number_within 1 64) ([] ∷ codes "0" ∷ codes "65" ∷ codes "00000000001" ∷ codes "+1" ∷ codes "-1" ∷ codes "1 " ∷ codes "0x1" ∷ []) ≡ None ∷ None ∷ None ∷ None ∷ None ∷ None ∷ None ∷ None ∷ []
no_numbers = refl

counts : map solution_count (codes "all" ∷ codes "1000000" ∷ codes "1000001" ∷ codes "0" ∷ codes "ALL" ∷ []) ≡ Some 1000000 ∷ Some 1000000 ∷ None ∷ None ∷ None ∷ []
counts = refl

-- what settings ask for, task by task
model_alone : job_of ((codes "in-eprime", codes "m") ∷ []) ≡ Some (Solve (codes "m") None 1000000 None None None Mode.Relational None)
model_alone = refl

all_of_solve : job_of ((codes "out-log", codes "l") ∷ (codes "task", codes "solve") ∷ (codes "conflicts", codes "7") ∷ (codes "in-eprime", codes "m") ∷ (codes "out-cnf", codes "c") ∷ (codes "in-param", codes "p") ∷ (codes "undefined", codes "strict") ∷ (codes "cubes", codes "6") ∷ (codes "out-solution", codes "s") ∷ [])
    ≡ Some (Solve (codes "m") (Some (codes "p")) 7 (Some (codes "s")) (Some (codes "c")) (Some (codes "l")) Mode.Strict (Some 6))
all_of_solve = refl

listing : job_of ((codes "task", codes "enumerate") ∷ (codes "in-eprime", codes "m") ∷ (codes "solutions", codes "all") ∷ [])
    ≡ Some (Enumerate (codes "m") None 1000000 1000000 None None None Mode.Relational)
listing = refl

explaining : job_of ((codes "task", codes "explain") ∷ (codes "in-eprime", codes "m") ∷ (codes "conflicts", codes "7") ∷ (codes "in-param", codes "p") ∷ (codes "undefined", codes "strict") ∷ [])
    ≡ Some (Explain (codes "m") (Some (codes "p")) 7 Mode.Strict)
explaining = refl

explaining_alone : job_of ((codes "task", codes "explain") ∷ (codes "in-eprime", codes "m") ∷ []) ≡ Some (Explain (codes "m") None 1000000 Mode.Relational)
explaining_alone = refl

pseudo_boolean : job_of ((codes "in-opb", codes "o") ∷ (codes "task", codes "opb") ∷ []) ≡ Some (Opb (codes "o") 1000000)
pseudo_boolean = refl

pseudo_boolean_within : job_of ((codes "task", codes "opb") ∷ (codes "conflicts", codes "7") ∷ (codes "in-opb", codes "o") ∷ []) ≡ Some (Opb (codes "o") 7)
pseudo_boolean_within = refl

verifying : job_of ((codes "task", codes "verify") ∷ (codes "in-solution", codes "s") ∷ (codes "in-eprime", codes "m") ∷ [])
    ≡ Some (Verify (codes "m") (codes "s") None Mode.Relational)
verifying = refl

-- the mode of undefinedness, which the tasks that read a model take
strict_listing : job_of ((codes "undefined", codes "strict") ∷ (codes "task", codes "enumerate") ∷ (codes "in-eprime", codes "m") ∷ (codes "solutions", codes "2") ∷ [])
    ≡ Some (Enumerate (codes "m") None 2 1000000 None None None Mode.Strict)
strict_listing = refl

strict_verifying : job_of ((codes "task", codes "verify") ∷ (codes "in-solution", codes "s") ∷ (codes "in-eprime", codes "m") ∷ (codes "undefined", codes "strict") ∷ [])
    ≡ Some (Verify (codes "m") (codes "s") None Mode.Strict)
strict_verifying = refl

named_as_it_is : job_of ((codes "in-eprime", codes "m") ∷ (codes "undefined", codes "relational") ∷ []) ≡ job_of ((codes "in-eprime", codes "m") ∷ [])
named_as_it_is = refl

checking : job_of ((codes "task", codes "check") ∷ (codes "in-log", codes "l") ∷ (codes "in-cnf", codes "c") ∷ [])
    ≡ Some (Check (codes "c") (codes "l") 1)
checking = refl

generating : job_of ((codes "task", codes "generate") ∷ (codes "number", codes "0") ∷ (codes "out-param", codes "p") ∷ [])
    ≡ Some (Generate 0 1000000 None (Some (codes "p")))
generating = refl

-- what is needed is missing, a number is out of its range, an option isn't the task's, or there is no such mode or task
no_jobs : map job_of (
    []
    ∷ ((codes "task", codes "solve") ∷ [])
    ∷ ((codes "in-param", codes "p") ∷ [])
    ∷ ((codes "in-eprime", codes "m") ∷ (codes "conflicts", codes "0") ∷ [])
    ∷ ((codes "in-eprime", codes "m") ∷ (codes "solutions", codes "2") ∷ [])
    ∷ ((codes "in-eprime", codes "m") ∷ (codes "workers", codes "2") ∷ [])
    ∷ ((codes "in-eprime", codes "m") ∷ (codes "cubes", codes "0") ∷ [])
    ∷ ((codes "in-eprime", codes "m") ∷ (codes "cubes", codes "7") ∷ [])
    ∷ ((codes "task", codes "enumerate") ∷ (codes "in-eprime", codes "m") ∷ (codes "solutions", codes "all") ∷ (codes "cubes", codes "2") ∷ [])
    ∷ ((codes "task", codes "explain") ∷ (codes "in-eprime", codes "m") ∷ (codes "cubes", codes "2") ∷ [])
    ∷ ((codes "task", codes "explain") ∷ [])
    ∷ ((codes "task", codes "explain") ∷ (codes "in-eprime", codes "m") ∷ (codes "out-solution", codes "s") ∷ [])
    ∷ ((codes "task", codes "opb") ∷ [])
    ∷ ((codes "task", codes "opb") ∷ (codes "in-opb", codes "o") ∷ (codes "undefined", codes "strict") ∷ [])
    ∷ ((codes "task", codes "opb") ∷ (codes "in-opb", codes "o") ∷ (codes "in-eprime", codes "m") ∷ [])
    ∷ ((codes "in-opb", codes "o") ∷ [])
    ∷ ((codes "task", codes "enumerate") ∷ (codes "in-eprime", codes "m") ∷ [])
    ∷ ((codes "task", codes "verify") ∷ (codes "in-eprime", codes "m") ∷ [])
    ∷ ((codes "task", codes "verify") ∷ (codes "in-eprime", codes "m") ∷ (codes "in-solution", codes "s") ∷ (codes "conflicts", codes "1") ∷ [])
    ∷ ((codes "task", codes "check") ∷ (codes "in-cnf", codes "c") ∷ [])
    ∷ ((codes "task", codes "check") ∷ (codes "in-cnf", codes "c") ∷ (codes "in-log", codes "l") ∷ (codes "in-eprime", codes "m") ∷ [])
    ∷ ((codes "task", codes "generate") ∷ [])
    ∷ ((codes "task", codes "generate") ∷ (codes "number", codes "1000000001") ∷ [])
    ∷ ((codes "in-eprime", codes "m") ∷ (codes "undefined", codes "lax") ∷ [])
    ∷ ((codes "task", codes "verify") ∷ (codes "in-eprime", codes "m") ∷ (codes "in-solution", codes "s") ∷ (codes "undefined", codes "Strict") ∷ [])
    ∷ ((codes "task", codes "check") ∷ (codes "in-cnf", codes "c") ∷ (codes "in-log", codes "l") ∷ (codes "undefined", codes "strict") ∷ [])
    ∷ ((codes "task", codes "generate") ∷ (codes "number", codes "0") ∷ (codes "undefined", codes "strict") ∷ [])
    ∷ ((codes "task", codes "Solve") ∷ (codes "in-eprime", codes "m") ∷ [])
    ∷ []) ≡ None ∷ None ∷ None ∷ None ∷ None ∷ None ∷ None ∷ None ∷ None ∷ None ∷ None ∷ None ∷ None ∷ None ∷ None ∷ None ∷ None ∷ None ∷ None ∷ None ∷ None ∷ None ∷ None ∷ None ∷ None ∷ None ∷ None ∷ None ∷ []
no_jobs = refl

-- a value may begin with `-` behind a `=`, and may have a `=` itself
solve_line : IsCommand (codes "--in-eprime" ∷ codes "a=b" ∷ codes "--in-param=-p" ∷ []) (Solve (codes "a=b") (Some (codes "-p")) 1000000 None None None Mode.Relational None)
solve_line = record {
  settings = (codes "in-eprime", codes "a=b") ∷ (codes "in-param", codes "-p") ∷ [];
  made = (
    codes "--in-param=-p" ∷ [],
    record { known = refl; filled = λ e. cc; spelled = inr (refl, λ e. absurd (omega (arith, e))) },
    ([], record { known = refl; filled = λ e. cc; spelled = inl refl }, refl),
  );
  once = (refl, (refl, tt));
  asks = refl;
}

-- a word that doesn't begin with `--` begins no setting
stray_word : (name value : Text) (others : List Text) → BeginsBySetting (codes "n" ∷ []) name value others → ⊥
stray_word name value others = unnamed (codes "n") [] name value others (λ word e. cc)

short_word : (name value : Text) (others : List Text) → BeginsBySetting (codes "-n" ∷ codes "m" ∷ []) name value others → ⊥
short_word name value others = unnamed (codes "-n") (codes "m" ∷ []) name value others (λ word e. cc)

-- an option that is set twice
set_twice : AreSetOnce ((codes "number", codes "1") ∷ (codes "task", codes "generate") ∷ (codes "number", codes "1") ∷ []) → ⊥
set_twice once = let e : Some (codes "1") ≡ None = once.0 in cc
