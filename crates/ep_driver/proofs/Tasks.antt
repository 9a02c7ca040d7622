-- What the steps over trees come to, one after another.
use Rattle.std.proofs.Common.{◌≡◌, ℕ, ◌⊎◌, List, [], Ok, Contains, inl, inr, ◌∙◌}
use Rattle.cnf_core.specs.Events.{LogState}
use Rattle.ep_print.specs.declared.refusals.Refusal.{Refusal}
use Rattle.ep_print.specs.declared.refusals.TextFile.{TextFile}
use Rattle.ep_tree.specs.Binding.{Instance}
use Rattle.ep_tree.specs.Faults.{params_faults, text_faults}
use Rattle.ep_tree.specs.SolutionTexts.{Shaped, fits, wrong_shape}
use Rattle.ep_tree.specs.Solutions.{Assigned, Judgement, a_solution, goal_undefined, instance_limits, judgement, violates}
use Rattle.ep_tree.specs.Statements.{TextTree}
use Rattle.ep_tree.specs.declared.values.Mode.{Mode}
use Rattle.ep_print.specs.Answers.{AnswerTree, answer_text, no_solution, optimum, solution, unknown, unknown_with}
use Rattle.ep_print.specs.Listings.{EndTree, ListingTree, complete, listing_text, spent, stopped}
use Rattle.ep_solve.specs.Listed.{EndsRightly, Lists}
use Rattle.ep_solve.specs.Logged.{IsLogged, ShowsAnswer}
use Rattle.ep_solve.specs.Right.{IsRight, IsSpent}
use Rattle.sat_search.specs.Logs.{IsSound}
use Rattle.ep_driver.specs.Answers.{Settles, answer_status, judgement_status, listing_status}
use Rattle.ep_driver.specs.Outcomes.{and_then, bind_refusals, bound_outcome, fault_refusals, instance_of, judge_outcome, search_outcome, searched_task, to_generate, to_judge, to_list, to_solve, verify_outcome}
use Rattle.ep_driver.specs.Steps.{IsAmong, IsSearched, shape_outcome}
use Rattle.ep_said.specs.Summaries.{summary_text}
use Rattle.ep_files.specs.declared.status.Status.{Status}
use Rattle.ep_driver.specs.declared.wanted.Request.{Request}
use Rattle.ep_driver.proofs.Refusing.{among-first, among-later, among-next, among-then, none-refused, then-next}

-- no fault stands in a model and its parameters
pub record AreFaultless (m p : TextTree) : Type 0 where
  pub model : fault_refusals TextFile.Model (text_faults m) ≡ []
  pub params : fault_refusals TextFile.Params (params_faults p) ≡ []

-- ---- the instance

pub bound-refused : (mode : Mode) (m p : TextTree) (r : Refusal) → IsAmong (bound_outcome mode m p) r → IsAmong (instance_of mode m p) r
unfolding instance_of
bound-refused mode m p r h = among-then (bound_outcome mode m p) r _ h

pub limits-refused : (mode : Mode) (m p : TextTree) (i : Instance) (r : Refusal) → bound_outcome mode m p ≡ Ok i → Contains (bind_refusals (instance_limits mode i)) r → IsAmong (instance_of mode m p) r
unfolding instance_of
limits-refused mode m p i r e h =
    among-next (bound_outcome mode m p) i r _ e (among-first (bind_refusals (instance_limits mode i)) r (Ok i) h)

pub is-instance : (mode : Mode) (m p : TextTree) (i : Instance) → bound_outcome mode m p ≡ Ok i → bind_refusals (instance_limits mode i) ≡ [] → instance_of mode m p ≡ Ok i
unfolding instance_of
is-instance mode m p i e none =
    then-next (bound_outcome mode m p) i _ e ∙ none-refused (bind_refusals (instance_limits mode i)) (Ok i) none

-- ---- searching

pub search-model : (mode : Mode) (q : Request) (m p : TextTree) (r : Refusal) → Contains (fault_refusals TextFile.Model (text_faults m)) r → IsAmong (search_outcome mode q m p) r
unfolding search_outcome
search-model mode q m p r h = among-first (fault_refusals TextFile.Model (text_faults m)) r _ h

pub search-params : (mode : Mode) (q : Request) (m p : TextTree) (r : Refusal) → fault_refusals TextFile.Model (text_faults m) ≡ [] → Contains (fault_refusals TextFile.Params (params_faults p)) r → IsAmong (search_outcome mode q m p) r
unfolding search_outcome
search-params mode q m p r e h =
    among-later (fault_refusals TextFile.Model (text_faults m)) r _ e
    (among-first (fault_refusals TextFile.Params (params_faults p)) r _ h)

pub search-instance : (mode : Mode) (q : Request) (m p : TextTree) (r : Refusal) → AreFaultless m p → IsAmong (instance_of mode m p) r → IsAmong (search_outcome mode q m p) r
unfolding search_outcome
search-instance mode q m p r none h =
    among-later (fault_refusals TextFile.Model (text_faults m)) r _ none.model
    (among-later (fault_refusals TextFile.Params (params_faults p)) r _ none.params
    (among-then (instance_of mode m p) r _ h))

pub is-search : (mode : Mode) (q : Request) (m p : TextTree) (i : Instance) → AreFaultless m p → instance_of mode m p ≡ Ok i → search_outcome mode q m p ≡ Ok (searched_task mode q i)
unfolding search_outcome
is-search mode q m p i none e =
    none-refused (fault_refusals TextFile.Model (text_faults m)) _ none.model
    ∙ none-refused (fault_refusals TextFile.Params (params_faults p)) _ none.params
    ∙ then-next (instance_of mode m p) i _ e

-- ---- verifying

-- nor in a solution text
pub record AreAllFaultless (m p s : TextTree) : Type 0 where
  pub texts : AreFaultless m p
  pub solution : fault_refusals TextFile.Solution (params_faults s) ≡ []

pub verify-model : (mode : Mode) (m p s : TextTree) (r : Refusal) → Contains (fault_refusals TextFile.Model (text_faults m)) r → IsAmong (verify_outcome mode m p s) r
unfolding verify_outcome
verify-model mode m p s r h = among-first (fault_refusals TextFile.Model (text_faults m)) r _ h

pub verify-params : (mode : Mode) (m p s : TextTree) (r : Refusal) → fault_refusals TextFile.Model (text_faults m) ≡ [] → Contains (fault_refusals TextFile.Params (params_faults p)) r → IsAmong (verify_outcome mode m p s) r
unfolding verify_outcome
verify-params mode m p s r e h =
    among-later (fault_refusals TextFile.Model (text_faults m)) r _ e
    (among-first (fault_refusals TextFile.Params (params_faults p)) r _ h)

pub verify-solution : (mode : Mode) (m p s : TextTree) (r : Refusal) → AreFaultless m p → Contains (fault_refusals TextFile.Solution (params_faults s)) r → IsAmong (verify_outcome mode m p s) r
unfolding verify_outcome
verify-solution mode m p s r none h =
    among-later (fault_refusals TextFile.Model (text_faults m)) r _ none.model
    (among-later (fault_refusals TextFile.Params (params_faults p)) r _ none.params
    (among-first (fault_refusals TextFile.Solution (params_faults s)) r _ h))

pub verify-instance : (mode : Mode) (m p s : TextTree) (r : Refusal) → AreAllFaultless m p s → IsAmong (instance_of mode m p) r → IsAmong (verify_outcome mode m p s) r
unfolding verify_outcome
verify-instance mode m p s r none h =
    among-later (fault_refusals TextFile.Model (text_faults m)) r _ none.texts.model
    (among-later (fault_refusals TextFile.Params (params_faults p)) r _ none.texts.params
    (among-later (fault_refusals TextFile.Solution (params_faults s)) r _ none.solution
    (among-then (instance_of mode m p) r _ h)))

pub is-verify : (mode : Mode) (m p s : TextTree) (i : Instance) → AreAllFaultless m p s → instance_of mode m p ≡ Ok i → verify_outcome mode m p s ≡ judge_outcome mode i s
unfolding verify_outcome judge_outcome and_then
is-verify mode m p s i none e =
    none-refused (fault_refusals TextFile.Model (text_faults m)) _ none.texts.model
    ∙ none-refused (fault_refusals TextFile.Params (params_faults p)) _ none.texts.params
    ∙ none-refused (fault_refusals TextFile.Solution (params_faults s)) _ none.solution
    ∙ then-next (instance_of mode m p) i _ e

-- ---- judging

pub shape-refused : (mode : Mode) (i : Instance) (s : TextTree) (r : Refusal) → IsAmong (shape_outcome mode i s) r → IsAmong (judge_outcome mode i s) r
unfolding judge_outcome
shape-refused mode i s r h = among-then (shape_outcome mode i s) r _ h

pub is-judge : (mode : Mode) (i : Instance) (s : TextTree) (shaped : Shaped) → shape_outcome mode i s ≡ Ok shaped → judge_outcome mode i s ≡ Ok (to_judge mode i shaped)
unfolding judge_outcome
is-judge mode i s shaped e = then-next (shape_outcome mode i s) shaped _ e

-- ---- how a task ends

judged-ends : (j : Judgement) (status : Status) → status ≡ judgement_status j → (status ≡ Status.Answered) ⊎ (status ≡ Status.Refuted)
unfolding judgement_status
judged-ends (a_solution goal) status e = inl e
judged-ends (violates n) status e = inr e
judged-ends goal_undefined status e = inr e

pub judge-ends : (mode : Mode) (i : Instance) (shaped : Shaped) (status : Status) (text : List ℕ) (log : LogState) → Settles (to_judge mode i shaped) status text log → (status ≡ Status.Answered) ⊎ (status ≡ Status.Refuted)
unfolding Settles
judge-ends mode i (fits a) status text log h = judged-ends (judgement mode i h.0) status h.2
judge-ends mode i (wrong_shape names) status text log h = inr h.2

-- ---- how a search ends

shown-spent : (mode : Mode) (i : Instance) (conflicts : ℕ) (log : LogState) (a : AnswerTree) (status : Status) → status ≡ answer_status a → ShowsAnswer mode i conflicts log a
    → (status ≡ Status.Answered) ⊎ ((status ≡ Status.Unknown) × IsSpent conflicts log.events)
unfolding answer_status ShowsAnswer
shown-spent mode i conflicts log (solution _) status e h = inl e
shown-spent mode i conflicts log (optimum _ _) status e h = inl e
shown-spent mode i conflicts log no_solution status e h = inl e
shown-spent mode i conflicts log (unknown _) status e h = inr (e, h.0)
shown-spent mode i conflicts log (unknown_with _ _ _) status e h = inr (e, h.0)

-- a sound log of a search that has its answer, or of which the budget was spent
pub searched : (conflicts : ℕ) (status : Status) (log : LogState) → IsSound log.events → (status ≡ Status.Answered) ⊎ ((status ≡ Status.Unknown) × IsSpent conflicts log.events) → IsSearched conflicts status log
searched conflicts status log sound h = (sound, elim h [ inl e ↦ inl e | inr e ↦ inr (e.0, e.1, sound) ])

-- the log of an answer is sound, and shows where the budget was spent
pub answer-ends : (mode : Mode) (i : Instance) (conflicts : ℕ) (log : LogState) (a : AnswerTree) (status : Status) → status ≡ answer_status a → IsLogged mode i conflicts log a → IsSearched conflicts status log
answer-ends mode i conflicts log a status e h = searched conflicts status log h.sound (shown-spent mode i conflicts log a status e h.shows)

list-spent : (mode : Mode) (i : Instance) (conflicts most : ℕ) (log : LogState) (listed : List Assigned) (end : EndTree) (status : Status) → status ≡ listing_status end → EndsRightly mode i conflicts most log listed end
    → (status ≡ Status.Answered) ⊎ ((status ≡ Status.Unknown) × IsSpent conflicts log.events)
unfolding listing_status EndsRightly
list-spent mode i conflicts most log listed complete status e h = inl e
list-spent mode i conflicts most log listed stopped status e h = inl e
list-spent mode i conflicts most log listed (spent n) status e h = inr (e, h.2)

-- the log of a list is sound, and shows where the budget was spent
pub list-ends : (mode : Mode) (i : Instance) (conflicts most : ℕ) (log : LogState) (listing : ListingTree) (status : Status) → status ≡ listing_status listing.ending → Lists mode i conflicts most log listing → IsSearched conflicts status log
list-ends mode i conflicts most log listing status e h = searched conflicts status log h.sound (list-spent mode i conflicts most log listing.found listing.ending status e h.ends)

-- ---- what answers a search

pub solved : (mode : Mode) (i : Instance) (conflicts : ℕ) (status : Status) (text : List ℕ) (log : LogState) (answer : AnswerTree) → IsRight mode i conflicts answer → IsLogged mode i conflicts log answer
    → status ≡ answer_status answer → text ≡ answer_text answer → Settles (to_solve mode i conflicts) status text log
unfolding Settles
solved mode i conflicts status text log answer right logged ended said = (answer, right, logged, ended, said)

pub listed : (mode : Mode) (i : Instance) (most conflicts : ℕ) (status : Status) (text : List ℕ) (log : LogState) (listing : ListingTree) → Lists mode i conflicts most log listing
    → status ≡ listing_status listing.ending → text ≡ listing_text listing → Settles (to_list mode i most conflicts) status text log
unfolding Settles
listed mode i most conflicts status text log listing lists ended said = (listing, lists, ended, said)

pub summed : (number : ℕ) (mode : Mode) (i : Instance) (conflicts : ℕ) (status : Status) (text : List ℕ) (log : LogState) (answer : AnswerTree) → IsRight mode i conflicts answer → IsLogged mode i conflicts log answer
    → status ≡ answer_status answer → text ≡ summary_text number answer → Settles (to_generate number mode i conflicts) status text log
unfolding Settles
summed number mode i conflicts status text log answer right logged ended said = (answer, right, logged, ended, said)
