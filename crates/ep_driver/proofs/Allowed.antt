-- How many conflicts words allow.
use Rattle.std.proofs.Common.{◌≡◌, ℕ, ◌≤◌, Bool, true, false, ◌&&◌, if◌then◌else◌, nat_le, zero, suc, length, codes, List, Option, Some, None, option_map, option_and_then, unwrap_or, bytes_eq, inl, inr, refl, sym, subst, arith}
use Rattle.std.proofs.lemmas.Bool.{cases_Bool}
use Rattle.std.proofs.lemmas.Bool.Decides.{nat_tests}
use Rattle.std.specs.Str.Parse.{digits_value}
use Rattle.ep_base.specs.TokenTexts.{is_number}
use Rattle.ep_words.specs.Jobs.{check_job, check_options, conflicts_of as set_conflicts, cubes_of, enumerate_job, enumerate_options, explain_job, explain_options, generate_job, generate_options, job_of, mode_of, number_if_set, number_or, number_within, opb_job, opb_options, sets_only, solution_count, solve_job, solve_options, verify_job, verify_options, workers_of}
use Rattle.ep_words.specs.Settings.{Setting, Text, value_of}
use Rattle.ep_tree.specs.declared.values.Mode.{Mode}
use Rattle.ep_driver.specs.Commands.{Want, conflicts_wanted, no_outputs, one_within, wanted_of}
use Rattle.ep_driver.specs.Searches.{CanBeRequested, CanBeWanted, HasFewCubes, IsSearchFor}
use Rattle.ep_words.specs.declared.job.Job.{Job}
use Rattle.ep_driver.specs.declared.wanted.Outputs.{Outputs}
use Rattle.ep_driver.specs.declared.wanted.Request.{Request}
use Rattle.ep_driver.specs.declared.wanted.Wanted.{Wanted}

-- ---- options

if-chosen : {A : Type 0} (P : A → Type 0) (test : Bool) (o : Option A) (x : A) → ((y : A) → o ≡ Some y → P y) → (if test then o else None) ≡ Some x → P x
if-chosen P true o x all e = all x e
if-chosen P false o x all e = absurd cc

all-and-then : {A B : Type 0} (P : B → Type 0) (f : A → Option B) → ((a : A) (b : B) → f a ≡ Some b → P b) → (o : Option A) (b : B) → option_and_then f o ≡ Some b → P b
all-and-then P f all None b e = absurd cc
all-and-then P f all (Some a) b e = all a b e

all-within : {A B : Type 0} (P : B → Type 0) (f : A → Option B) (o : Option A) → ((a : A) → o ≡ Some a → (b : B) → f a ≡ Some b → P b) → (b : B) → option_and_then f o ≡ Some b → P b
all-within P f None all b e = absurd cc
all-within P f (Some a) all b e = all a refl b e

all-mapped : {A B : Type 0} (P : B → Type 0) (f : A → B) (o : Option A) → ((a : A) → o ≡ Some a → P (f a)) → (b : B) → option_map f o ≡ Some b → P b
all-mapped P f None all b e = absurd cc
all-mapped P f (Some a) all b e = let same : f a ≡ b = cc in subst P same (all a refl)

-- ---- numbers

tested-number : (digits : Bool) (value most n : ℕ) → (if digits && (nat_le 1 value && nat_le value most) then Some value else None) ≡ Some n → 1 ≤ n
tested-number true zero most n e = absurd cc
tested-number true (suc value) most n e = if-chosen (λ m. 1 ≤ m) (nat_le 1 (suc value) && nat_le (suc value) most) (Some (suc value)) n (λ m same. let here : suc value ≡ m = cc in omega (arith, here)) e
tested-number false value most n e = absurd cc

set-number : (text : Option Text) (n : ℕ) → number_or 1000000 (number_within 1 1000000000) text ≡ Some n → 1 ≤ n
set-number None n e = let same : 1000000 ≡ n = cc in omega (arith, same)
set-number (Some text) n e = tested-number (is_number text && nat_le (length text) 10) (digits_value 10 text) 1000000000 n e

at-most : (a b : ℕ) → nat_le a b ≡ true → a ≤ b
at-most a b e = grind (arith, nat_tests)

last-of : (a b c : Bool) → (a && (b && c)) ≡ true → c ≡ true
last-of true true c e = e
last-of true false c e = absurd cc
last-of false b c e = absurd cc

if-tested : {A : Type 0} (P : A → Type 0) (test : Bool) (o : Option A) (x : A) → (test ≡ true → (y : A) → o ≡ Some y → P y) → (if test then o else None) ≡ Some x → P x
if-tested P true o x all e = all refl x e
if-tested P false o x all e = absurd cc

bounded-number : (digits : Bool) (value most n : ℕ) → (if digits && (nat_le 0 value && nat_le value most) then Some value else None) ≡ Some n → n ≤ most
bounded-number digits value most n e =
    if-tested (λ m. m ≤ most) (digits && (nat_le 0 value && nat_le value most)) (Some value) n
    (λ t m same.
    let here : value ≡ m = cc in
    let low : value ≤ most = at-most value most (last-of digits (nat_le 0 value) (nat_le value most) t) in
    subst (λ (k : ℕ). k ≤ most) here low)
    e

kept-number : (text : Text) (n : ℕ) → number_within 0 1000000000 text ≡ Some n → n ≤ 1000000000
kept-number text n e = bounded-number (is_number text && nat_le (length text) 10) (digits_value 10 text) 1000000000 n e

-- ---- jobs

-- cubes are over six variables at most, where they are wanted
abbrev AreFew : Option ℕ → Type 0
AreFew None = Unit {0}
AreFew (Some cubes) = cubes ≤ 6

mapped-few : (o : Option ℕ) (cubes : Option ℕ) → ((n : ℕ) → o ≡ Some n → n ≤ 6) → option_map Some o ≡ Some cubes → AreFew cubes
mapped-few None cubes all e = absurd cc
mapped-few (Some n) cubes all e = let same : Some n ≡ cubes = cc in subst AreFew same (all n refl)

-- a number from 1 to 6
few-number : (digits : Bool) (value n : ℕ) → (if digits && (nat_le 1 value && nat_le value 6) then Some value else None) ≡ Some n → n ≤ 6
few-number digits value n e =
    if-tested (λ m. m ≤ 6) (digits && (nat_le 1 value && nat_le value 6)) (Some value) n
    (λ t m same.
    let here : value ≡ m = cc in
    let low : value ≤ 6 = at-most value 6 (last-of digits (nat_le 1 value) (nat_le value 6) t) in
    subst (λ (k : ℕ). k ≤ 6) here low)
    e

set-cubes : (text : Option Text) (cubes : Option ℕ) → number_if_set (number_within 1 6) text ≡ Some cubes → AreFew cubes
set-cubes None cubes e = let same : None ≡ cubes = cc in subst AreFew same tt
set-cubes (Some text) cubes e = mapped-few (number_within 1 6 text) cubes (λ n f. few-number (is_number text && nat_le (length text) 10) (digits_value 10 text) n f) e

-- a search of this job may take a conflict, its cubes are few, and its number has texts
abbrev HasBudget : Job → Type 0
HasBudget (Job.Solve _ _ conflicts _ _ _ _ cubes) = (1 ≤ conflicts) × AreFew cubes
HasBudget (Job.Enumerate _ _ _ conflicts _ _ _ _) = 1 ≤ conflicts
HasBudget (Job.Explain _ _ conflicts _) = 1 ≤ conflicts
HasBudget (Job.Opb _ conflicts) = 1 ≤ conflicts
HasBudget (Job.Verify _ _ _ _) = Unit {0}
HasBudget (Job.Check _ _ _) = Unit {0}
HasBudget (Job.Generate number conflicts _ _) = (1 ≤ conflicts) × (number ≤ 1000000000)

solve-budget : (s : List Setting) (job : Job) → solve_job s ≡ Some job → HasBudget job
solve-budget s job e =
    let make : Text → ℕ → Mode → Option ℕ → Job = λ m n u k. Job.Solve m (value_of (codes "in-param") s) n (value_of (codes "out-solution") s) (value_of (codes "out-cnf") s) (value_of (codes "out-log") s) u k in
    all-and-then HasBudget (λ m. option_and_then (λ n. option_and_then (λ u. option_map (make m n u) (cubes_of s)) (mode_of s)) (set_conflicts s))
    (λ m. all-within HasBudget (λ n. option_and_then (λ u. option_map (make m n u) (cubes_of s)) (mode_of s)) (set_conflicts s)
    (λ n f. all-and-then HasBudget (λ u. option_map (make m n u) (cubes_of s))
    (λ u. all-mapped HasBudget (make m n u) (cubes_of s) (λ k g. (set-number (value_of (codes "conflicts") s) n f, set-cubes (value_of (codes "cubes") s) k g))) (mode_of s)))
    (value_of (codes "in-eprime") s) job e

enumerate-budget : (s : List Setting) (job : Job) → enumerate_job s ≡ Some job → HasBudget job
enumerate-budget s job e =
    let make : Text → ℕ → ℕ → Mode → Job = λ m most n u. Job.Enumerate m (value_of (codes "in-param") s) most n (value_of (codes "out-solution") s) (value_of (codes "out-cnf") s) (value_of (codes "out-log") s) u in
    let most : Option ℕ = option_and_then solution_count (value_of (codes "solutions") s) in
    all-and-then HasBudget (λ m. option_and_then (λ k. option_and_then (λ n. option_map (make m k n) (mode_of s)) (set_conflicts s)) most)
    (λ m. all-and-then HasBudget (λ k. option_and_then (λ n. option_map (make m k n) (mode_of s)) (set_conflicts s))
    (λ k. all-within HasBudget (λ n. option_map (make m k n) (mode_of s)) (set_conflicts s)
    (λ n f. all-mapped HasBudget (make m k n) (mode_of s) (λ u g. set-number (value_of (codes "conflicts") s) n f))) most)
    (value_of (codes "in-eprime") s) job e

explain-budget : (s : List Setting) (job : Job) → explain_job s ≡ Some job → HasBudget job
explain-budget s job e =
    let make : Text → ℕ → Mode → Job = λ m n u. Job.Explain m (value_of (codes "in-param") s) n u in
    all-and-then HasBudget (λ m. option_and_then (λ n. option_map (make m n) (mode_of s)) (set_conflicts s))
    (λ m. all-within HasBudget (λ n. option_map (make m n) (mode_of s)) (set_conflicts s)
    (λ n f. all-mapped HasBudget (make m n) (mode_of s) (λ u g. set-number (value_of (codes "conflicts") s) n f)))
    (value_of (codes "in-eprime") s) job e

opb-budget : (s : List Setting) (job : Job) → opb_job s ≡ Some job → HasBudget job
opb-budget s job e =
    all-and-then HasBudget (λ o. option_map (λ n. Job.Opb o n) (set_conflicts s))
    (λ o. all-mapped HasBudget (λ n. Job.Opb o n) (set_conflicts s) (λ n f. set-number (value_of (codes "conflicts") s) n f))
    (value_of (codes "in-opb") s) job e

verify-budget : (s : List Setting) (job : Job) → verify_job s ≡ Some job → HasBudget job
verify-budget s job e =
    let make : Text → Text → Mode → Job = λ m t u. Job.Verify m t (value_of (codes "in-param") s) u in
    all-and-then HasBudget (λ m. option_and_then (λ t. option_map (make m t) (mode_of s)) (value_of (codes "in-solution") s))
    (λ m. all-and-then HasBudget (λ t. option_map (make m t) (mode_of s))
    (λ t. all-mapped HasBudget (make m t) (mode_of s) (λ u f. tt)) (value_of (codes "in-solution") s))
    (value_of (codes "in-eprime") s) job e

check-budget : (s : List Setting) (job : Job) → check_job s ≡ Some job → HasBudget job
check-budget s job e =
    all-and-then HasBudget (λ m. option_and_then (λ l. option_map (Job.Check m l) (workers_of s)) (value_of (codes "in-log") s))
    (λ m. all-and-then HasBudget (λ l. option_map (Job.Check m l) (workers_of s))
    (λ l. all-mapped HasBudget (Job.Check m l) (workers_of s) (λ n f. tt)) (value_of (codes "in-log") s))
    (value_of (codes "in-cnf") s) job e

generate-budget : (s : List Setting) (job : Job) → generate_job s ≡ Some job → HasBudget job
generate-budget s job e =
    let make : ℕ → ℕ → Job = λ k n. Job.Generate k n (value_of (codes "out-eprime") s) (value_of (codes "out-param") s) in
    let number : Option ℕ = option_and_then (number_within 0 1000000000) (value_of (codes "number") s) in
    all-within HasBudget (λ k. option_map (make k) (set_conflicts s)) number
    (λ k f. all-mapped HasBudget (make k) (set_conflicts s)
    (λ n g. (set-number (value_of (codes "conflicts") s) n g, all-and-then (λ m. m ≤ 1000000000) (number_within 0 1000000000) kept-number (value_of (codes "number") s) k f))) job e

job-budget : (s : List Setting) (job : Job) → job_of s ≡ Some job → HasBudget job
job-budget s job e =
    let name = unwrap_or (value_of (codes "task") s) (codes "solve") in
    elim (cases_Bool (bytes_eq name (codes "solve"))) [
      | inl solve ↦ if-chosen HasBudget (sets_only solve_options s) (solve_job s) job (λ k f. solve-budget s k f) (rw solve at e)
      | inr a ↦ let e1 = rw a at e in elim (cases_Bool (bytes_eq name (codes "enumerate"))) [
        | inl enumerate ↦ if-chosen HasBudget (sets_only enumerate_options s) (enumerate_job s) job (λ k f. enumerate-budget s k f) (rw enumerate at e1)
        | inr w ↦ let e2 = rw w at e1 in elim (cases_Bool (bytes_eq name (codes "explain"))) [
          | inl explain ↦ if-chosen HasBudget (sets_only explain_options s) (explain_job s) job (λ k f. explain-budget s k f) (rw explain at e2)
          | inr o ↦ let e3 = rw o at e2 in elim (cases_Bool (bytes_eq name (codes "opb"))) [
            | inl opb ↦ if-chosen HasBudget (sets_only opb_options s) (opb_job s) job (λ k f. opb-budget s k f) (rw opb at e3)
            | inr b ↦ let e4 = rw b at e3 in elim (cases_Bool (bytes_eq name (codes "verify"))) [
              | inl verify ↦ if-chosen HasBudget (sets_only verify_options s) (verify_job s) job (λ k f. verify-budget s k f) (rw verify at e4)
              | inr c ↦ let e5 = rw c at e4 in elim (cases_Bool (bytes_eq name (codes "check"))) [
                | inl check ↦ if-chosen HasBudget (sets_only check_options s) (check_job s) job (λ k f. check-budget s k f) (rw check at e5)
                | inr d ↦ let e6 = rw d at e5 in elim (cases_Bool (bytes_eq name (codes "generate"))) [
                  | inl generate ↦ if-chosen HasBudget (sets_only generate_options s) (generate_job s) job (λ k f. generate-budget s k f) (rw generate at e6)
                  | inr f ↦ let none = rw f at e6 in absurd cc
                ]
              ]
            ]
          ]
        ]
      ]
    ]

-- ---- what is wanted

-- a search that is wanted may take a conflict, an explanation names no output, and a number that is wanted has texts
abbrev IsAllowed : Wanted → Type 0
IsAllowed (Wanted.Search _ _ _ request outputs) = (1 ≤ conflicts_wanted request) × CanBeRequested request outputs
IsAllowed (Wanted.Opb _ conflicts) = 1 ≤ conflicts
IsAllowed (Wanted.Verify _ _ _ _) = Unit {0}
IsAllowed (Wanted.Check _ _ _) = Unit {0}
IsAllowed (Wanted.Generate number conflicts eprime param) = (1 ≤ conflicts) × (number ≤ 1000000000)

wanted-allowed : (job : Job) → HasBudget job → (wanted : Wanted) → wanted_of job ≡ wanted → IsAllowed wanted
unfolding wanted_of conflicts_wanted one_within
wanted-allowed (Job.Solve m p n o c l u None) has wanted e =
    let outputs : Outputs = record { formula = c; log = l; solution = o } in
    let same : Wanted.Search m p u (Request.One n) outputs ≡ wanted = cc in
    subst IsAllowed same (has.0, tt)
wanted-allowed (Job.Solve m p n o c l u (Some k)) has wanted e =
    let outputs : Outputs = record { formula = c; log = l; solution = o } in
    let same : Wanted.Search m p u (Request.Divided k n) outputs ≡ wanted = cc in
    subst IsAllowed same has
wanted-allowed (Job.Enumerate m p most n o c l u) has wanted e =
    let outputs : Outputs = record { formula = c; log = l; solution = o } in
    let same : Wanted.Search m p u (Request.Many most n) outputs ≡ wanted = cc in
    subst IsAllowed same (has, tt)
wanted-allowed (Job.Explain m p n u) has wanted e =
    let same : Wanted.Search m p u (Request.Explained n) no_outputs ≡ wanted = cc in
    subst IsAllowed same (has, refl)
wanted-allowed (Job.Opb o n) has wanted e =
    let same : Wanted.Opb o n ≡ wanted = cc in subst IsAllowed same has
wanted-allowed (Job.Verify m t p u) has wanted e =
    let same : Wanted.Verify m p u t ≡ wanted = cc in subst IsAllowed same tt
wanted-allowed (Job.Check c l w) has wanted e =
    let same : Wanted.Check c l w ≡ wanted = cc in subst IsAllowed same tt
wanted-allowed (Job.Generate k n f q) has wanted e =
    let same : Wanted.Generate k n f q ≡ wanted = cc in subst IsAllowed same has

wants-allowed : (words : List (List ℕ)) (wanted : Wanted) → Want words wanted → IsAllowed wanted
wants-allowed words wanted want =
    wanted-allowed want.0 (job-budget want.1.settings want.0 want.1.asks) wanted want.2

allowed-budget : (wanted : Wanted) (conflicts : ℕ) → IsAllowed wanted → IsSearchFor wanted conflicts → 1 ≤ conflicts
allowed-budget (Wanted.Search m p u request o) conflicts allowed is = subst (λ (n : ℕ). 1 ≤ n) (sym is) allowed.0
allowed-budget (Wanted.Opb opb most) conflicts allowed is = subst (λ (n : ℕ). 1 ≤ n) (sym is) allowed
allowed-budget (Wanted.Verify m p u s) conflicts allowed is = absurd is
allowed-budget (Wanted.Check f l w) conflicts allowed is = absurd is
allowed-budget (Wanted.Generate number most eprime param) conflicts allowed is = subst (λ (n : ℕ). 1 ≤ n) (sym is) allowed.0

allowed-possible : (wanted : Wanted) → IsAllowed wanted → CanBeWanted wanted
allowed-possible (Wanted.Search m p u request o) allowed = allowed.1
allowed-possible (Wanted.Opb opb conflicts) allowed = tt
allowed-possible (Wanted.Verify m p u s) allowed = tt
allowed-possible (Wanted.Check f l w) allowed = tt
allowed-possible (Wanted.Generate number conflicts eprime param) allowed = allowed.1

-- words that want a search allow it a conflict
pub wants-budget : (words : List (List ℕ)) (wanted : Wanted) (conflicts : ℕ) → Want words wanted → IsSearchFor wanted conflicts → 1 ≤ conflicts
wants-budget words wanted conflicts want is = allowed-budget wanted conflicts (wants-allowed words wanted want) is

-- what words want can be wanted
pub wants-possible : (words : List (List ℕ)) (wanted : Wanted) → Want words wanted → CanBeWanted wanted
wants-possible words wanted want = allowed-possible wanted (wants-allowed words wanted want)

few-cubes : (q : Request) (o : Outputs) → CanBeRequested q o → HasFewCubes q
few-cubes (Request.One conflicts) o h = tt
few-cubes (Request.Divided cubes conflicts) o h = h
few-cubes (Request.Many most conflicts) o h = tt
few-cubes (Request.Explained conflicts) o h = tt
few-cubes (Request.Generated number conflicts) o h = tt

-- a search that can be wanted has few cubes
pub few-wanted : (wanted : Wanted) {m : List ℕ} {p : Option (List ℕ)} {u : Mode} (q : Request) {o : Outputs} → wanted ≡ Wanted.Search m p u q o → CanBeWanted wanted → HasFewCubes q
few-wanted wanted {m} {p} {u} q {o} is h = few-cubes q o (subst CanBeWanted is h)
