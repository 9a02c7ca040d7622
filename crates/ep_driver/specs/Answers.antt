-- Which answers are right for a task, how a run ends with them, and what the log shows of them.
use Rattle.std.specs.Prelude.{◌≡◌, ℕ, Bool, true, false, List, Contains}
use Rattle.ep_tree.specs.Binding.{Instance}
use Rattle.ep_tree.specs.SolutionTexts.{fits, wrong_shape}
use Rattle.ep_tree.specs.Solutions.{Fits, Found, Judgement, a_solution, goal_undefined, judgement, violates}
use Rattle.ep_tree.specs.declared.values.Mode.{Mode}
use Rattle.ep_print.specs.Answers.{AnswerTree, answer_text, unknown, unknown_with}
use Rattle.ep_print.specs.Listings.{EndTree, ListingTree, complete, listing_text, spent, stopped}
use Rattle.cnf_core.specs.Events.{LogState}
use Rattle.log_check.specs.Verdict.{verdict_of}
use Rattle.log_check.specs.declared.Verdict.{Verdict}
use Rattle.log_check.specs.declared.Verdict.TheVariants.{BadStep, NoEmptyClause, Verified}
use Rattle.ep_divided.specs.Divided.{IsLoggedAsDivided}
use Rattle.ep_explain.specs.Tried.{IsLogOfAttempt, IsRightExplanation, ends_spent}
use Rattle.ep_explain.specs.declared.explaining.Explained.{Explained}
use Rattle.ep_explain_text.specs.ExplanationTexts.{explanation_text}
use Rattle.ep_solve.specs.Listed.{Lists}
use Rattle.ep_solve.specs.Logged.{IsLogged}
use Rattle.ep_solve.specs.Right.{IsRight}
use Rattle.opb_answer.specs.Answers.{OpbFound}
use Rattle.opb_answer.specs.Lines.{answer_lines}
use Rattle.opb_answer.specs.Right.{IsRightOpb}
use Rattle.opb_solve.specs.Logged.{IsOpbLogged}
use Rattle.opb_solve.specs.Replies.{says_spent}
use Rattle.ep_driver.specs.Outcomes.{Task, to_check, to_divide, to_explain, to_generate, to_judge, to_list, to_solve, to_solve_opb}
use Rattle.ep_files.specs.declared.status.Status.{Status}
use Rattle.ep_said.specs.Judgements.{judgement_text, wrong_shape_text}
use Rattle.ep_said.specs.Summaries.{summary_text}
use Rattle.ep_said.specs.Verdicts.{verdict_text}

-- how a run ends that has an answer: with the end of its budget where nothing is known
unfoldable pub answer_status : AnswerTree → Status
answer_status (unknown _) = Status.Unknown
answer_status (unknown_with _ _ _) = Status.Unknown
answer_status _ = Status.Answered

-- how a run ends that has a list: with the end of its budget where the list ends with it
unfoldable pub listing_status : EndTree → Status
listing_status complete = Status.Answered
listing_status stopped = Status.Answered
listing_status (spent _) = Status.Unknown

-- how a run ends that judges an assignment: answered where it is a solution
unfoldable pub judgement_status : Judgement → Status
judgement_status (a_solution _) = Status.Answered
judgement_status (violates _) = Status.Refuted
judgement_status goal_undefined = Status.Refuted

-- how a run ends that has an answer: with the end of its budget where the conflicts were spent
abbrev pub spent_status : Bool → Status
spent_status true = Status.Unknown
spent_status false = Status.Answered

-- how a run ends that answers a pseudo-Boolean problem
abbrev pub opb_status : OpbFound → Status
opb_status found = spent_status (says_spent found)

-- how a run ends that explains why there is no solution
abbrev pub explanation_status : Explained → Status
explanation_status said = spent_status (ends_spent said)

-- how a run ends that checks a proof: answered exactly where it is verified
unfoldable pub verdict_status : Verdict → Status
verdict_status Verified = Status.Answered
verdict_status (BadStep line) = Status.Refuted
verdict_status NoEmptyClause = Status.Refuted

-- a status, a text and a log say which answer of an instance is right, where this is the text of an answer
abbrev pub SettlesBy : (AnswerTree → List ℕ) → Mode → Instance → ℕ → Status → List ℕ → LogState → Type 0
SettlesBy text_of mode i conflicts status text log =
    (answer : AnswerTree) × IsRight mode i conflicts answer × IsLogged mode i conflicts log answer
    × (status ≡ answer_status answer) × (text ≡ text_of answer)

-- a status, a text and a log answer a task
unfoldable pub Settles : Task → Status → List ℕ → LogState → Type 0
Settles (to_solve mode i conflicts) status text log = SettlesBy answer_text mode i conflicts status text log
Settles (to_divide mode i cubes conflicts) status text log =
    (answer : AnswerTree) × IsRight mode i conflicts answer × IsLoggedAsDivided mode i cubes conflicts log answer
    × (status ≡ answer_status answer) × (text ≡ answer_text answer)
Settles (to_list mode i most conflicts) status text log =
    (listing : ListingTree) × Lists mode i conflicts most log listing
    × (status ≡ listing_status listing.ending) × (text ≡ listing_text listing)
Settles (to_explain mode i conflicts) status text log =
    (said : Explained) × IsRightExplanation mode i conflicts log said × IsLogOfAttempt mode i conflicts log
    × (status ≡ explanation_status said) × (text ≡ explanation_text conflicts said)
Settles (to_judge mode i (fits a)) status text log =
    (found : Found) × Fits i a found
    × (status ≡ judgement_status (judgement mode i found))
    × (text ≡ judgement_text (judgement mode i found))
Settles (to_judge mode i (wrong_shape names)) status text log =
    (name : List ℕ) × Contains names name × (status ≡ Status.Refuted) × (text ≡ wrong_shape_text name)
Settles (to_solve_opb content conflicts) status text log =
    (found : OpbFound) × IsRightOpb content found × IsOpbLogged content conflicts log found
    × (status ≡ opb_status found) × (text ≡ answer_lines found)
Settles (to_check formula lines) status text log =
    (status ≡ verdict_status (verdict_of formula lines)) × (text ≡ verdict_text (verdict_of formula lines))
Settles (to_generate number mode i conflicts) status text log = SettlesBy (summary_text number) mode i conflicts status text log
