-- Worked examples of what commands want, of what texts come to, and of how runs end, computed by the checker.
use Rattle.std.proofs.Common.{◌≡◌, ℕ, List, [], ◌∷◌, codes, Some, None, Err, refl}
use Rattle.ep_base.specs.declared.places.Place.{Place}
use Rattle.ep_print.specs.declared.refusals.Refusal.{Refusal}
use Rattle.ep_print.specs.declared.refusals.TextFile.{TextFile}
use Rattle.ep_print.specs.Listings.{complete, spent, stopped}
use Rattle.ep_tree.specs.Solutions.{a_solution, goal_undefined, violates}
use Rattle.ep_tree.specs.Statements.{TextTree, constraints, letting}
use Rattle.ep_tree.specs.Trees.{ExprTree, named}
use Rattle.ep_tree.specs.declared.values.Mode.{Mode}
use Rattle.ep_tree.specs.Faults.{clause_faults, declaration_faults, faults, faults_after, name_faults, params_faults, stated_faults, statement_faults, text_faults, type_fault, unless}
use Rattle.ep_tree.specs.StatementSpelling.{is_letting}
use Rattle.ep_tree.specs.Types.{from_one, judge, named_type}
use Rattle.ep_words.specs.declared.job.Job.{Job}
use Rattle.log_check.specs.declared.Verdict.TheVariants.{BadStep, NoEmptyClause, Verified}
use Rattle.ep_driver.specs.Answers.{judgement_status, listing_status, verdict_status}
use Rattle.ep_driver.specs.Commands.{no_outputs, one_within, wanted_of}
use Rattle.ep_outputs.specs.Outputs.{a_formula, an_answer, named as named_files, steps}
use Rattle.ep_driver.specs.Outputs.{outputs_in_order}
use Rattle.ep_driver.specs.Outcomes.{fault_refusal, search_outcome, unless_refused, verify_outcome}
use Rattle.ep_files.specs.Status.{exit_code, status_of}
use Rattle.ep_driver.specs.declared.wanted.Request.{Request}
use Rattle.ep_driver.specs.declared.wanted.Wanted.{Wanted}

-- ---- what is wanted

abbrev m : List ℕ
m = codes "m"

abbrev s : List ℕ
s = codes "s"

solve-runs : wanted_of (Job.Solve m None 7 None None None Mode.Strict None) ≡ Wanted.Search m None Mode.Strict (Request.One 7) no_outputs
unfolding one_within wanted_of
solve-runs = refl

answers-are-written : wanted_of (Job.Solve m None 7 (Some s) None None Mode.Relational None) ≡ Wanted.Search m None Mode.Relational (Request.One 7) (record { formula = None; log = None; solution = Some s })
unfolding one_within wanted_of
answers-are-written = refl

cubes-run : wanted_of (Job.Solve m None 7 None None None Mode.Strict (Some 3)) ≡ Wanted.Search m None Mode.Strict (Request.Divided 3 7) no_outputs
unfolding one_within wanted_of
cubes-run = refl

enumerate-runs : wanted_of (Job.Enumerate m (Some s) 10 7 None None None Mode.Strict) ≡ Wanted.Search m (Some s) Mode.Strict (Request.Many 10 7) no_outputs
unfolding wanted_of
enumerate-runs = refl

formulas-are-written : wanted_of (Job.Solve m None 7 None (Some s) (Some m) Mode.Relational None) ≡ Wanted.Search m None Mode.Relational (Request.One 7) (record { formula = Some s; log = Some m; solution = None })
unfolding one_within wanted_of
formulas-are-written = refl

-- the formula is written first, and the answer last
formula-first : outputs_in_order (record { formula = Some m; log = Some s; solution = Some m }) ≡ record { content = a_formula; name = m } ∷ record { content = steps; name = s } ∷ record { content = an_answer; name = m } ∷ []
unfolding outputs_in_order named_files
formula-first = refl

verify-runs : wanted_of (Job.Verify m s (Some m) Mode.Strict) ≡ Wanted.Verify m (Some m) Mode.Strict s
unfolding wanted_of
verify-runs = refl

explain-runs : wanted_of (Job.Explain m (Some s) 7 Mode.Strict) ≡ Wanted.Search m (Some s) Mode.Strict (Request.Explained 7) no_outputs
unfolding wanted_of
explain-runs = refl

opb-runs : wanted_of (Job.Opb m 7) ≡ Wanted.Opb m 7
unfolding wanted_of
opb-runs = refl

check-runs : wanted_of (Job.Check m s 1) ≡ Wanted.Check m s 1
unfolding wanted_of
check-runs = refl

workers-run : wanted_of (Job.Check m s 64) ≡ Wanted.Check m s 64
unfolding wanted_of
workers-run = refl

-- ---- faults: those of the model come first, then those of the parameters, then those of the solution text

abbrev at : ℕ → ℕ → Place
at line column = record { line = line; column = column }

abbrev unknown : ℕ → ExprTree
unknown column = named (at 1 column) (codes "y")

abbrev faulty-model : TextTree
faulty-model = constraints (at 1 1) (unknown 11 ∷ []) ∷ []

abbrev faulty-params : TextTree
faulty-params = letting (at 1 1) (codes "n") (at 1 9) None (unknown 14) ∷ []

model-first : search_outcome Mode.Strict (Request.One 7) faulty-model faulty-params ≡ Err (Refusal.UnknownName TextFile.Model (at 1 11) (codes "y") ∷ [])
unfolding clause_faults fault_refusal faults faults_after from_one judge name_faults named_type search_outcome statement_faults text_faults type_fault unless_refused
model-first = refl

params-next : search_outcome Mode.Strict (Request.One 7) [] faulty-params ≡ Err (Refusal.UnknownName TextFile.Params (at 1 14) (codes "y") ∷ [])
unfolding declaration_faults fault_refusal faults faults_after is_letting name_faults params_faults search_outcome stated_faults statement_faults text_faults unless unless_refused
params-next = refl

solution-last : verify_outcome Mode.Relational [] [] faulty-params ≡ Err (Refusal.UnknownName TextFile.Solution (at 1 14) (codes "y") ∷ [])
unfolding declaration_faults fault_refusal faults faults_after is_letting name_faults params_faults stated_faults statement_faults text_faults unless unless_refused verify_outcome
solution-last = refl

params-before-solution : verify_outcome Mode.Relational [] faulty-params faulty-params ≡ Err (Refusal.UnknownName TextFile.Params (at 1 14) (codes "y") ∷ [])
unfolding declaration_faults fault_refusal faults faults_after is_letting name_faults params_faults stated_faults statement_faults text_faults unless unless_refused verify_outcome
params-before-solution = refl

-- ---- how a run ends that judges an assignment

solution-ends : exit_code (judgement_status (a_solution None)) ≡ 0
unfolding judgement_status
solution-ends = refl

violated-ends : exit_code (judgement_status (violates 1)) ≡ 7
unfolding judgement_status
violated-ends = refl

undefined-ends : exit_code (judgement_status goal_undefined) ≡ 7
unfolding judgement_status
undefined-ends = refl

-- ---- how a run ends that checks a proof

verified-ends : exit_code (verdict_status Verified) ≡ 0
unfolding verdict_status
verified-ends = refl

bad-step-ends : exit_code (verdict_status (BadStep 1)) ≡ 7
unfolding verdict_status
bad-step-ends = refl

unfinished-ends : exit_code (verdict_status NoEmptyClause) ≡ 7
unfolding verdict_status
unfinished-ends = refl

-- ---- lists

complete-ends : exit_code (listing_status complete) ≡ 0
unfolding listing_status
complete-ends = refl

stopped-ends : exit_code (listing_status stopped) ≡ 0
unfolding listing_status
stopped-ends = refl

spent-ends : exit_code (listing_status (spent 12)) ≡ 1
unfolding listing_status
spent-ends = refl

-- ---- codes

usage-code : exit_code (status_of Refusal.Usage) ≡ 2
unfolding status_of
usage-code = refl

fault-code : exit_code (status_of (Refusal.WhereFalse 1)) ≡ 3
unfolding status_of
fault-code = refl

device-code : exit_code (status_of (Refusal.CannotRead m)) ≡ 5
unfolding status_of
device-code = refl

write-code : exit_code (status_of (Refusal.CannotWrite m)) ≡ 5
unfolding status_of
write-code = refl
