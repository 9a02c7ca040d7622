-- From what the steps of a run tell to what the run tells.
use Rattle.std.proofs.Common.{◌≡◌, ℕ, List, [], ◌∷◌, ◌++◌, map, Option, Ok, Err, Result, IfOk, OnErr, Contains, inl, inr, refl, sym, ap, subst, ◌∙◌}
use Rattle.std.proofs.lemmas.List.{append-nil}
use Rattle.cnf_core.specs.Events.{LogState}
use Rattle.cnf_core.specs.Lines.{ProofLine}
use Rattle.cnf_core.specs.Literal.{Literal}
use Rattle.log_check.specs.Verdict.{verdict_of}
use Rattle.log_check.specs.declared.Verdict.{Verdict}
use Rattle.log_check.specs.declared.Verdict.TheVariants.{BadStep, NoEmptyClause, Verified}
use Rattle.ep_base.specs.Outside.{Held}
use Rattle.ep_base.specs.declared.errors.Memory.{Memory}
use Rattle.ep_instance_parts.specs.Refusals.{RefusesBinding}
use Rattle.ep_instance_parts.specs.declared.errors.BindError.{BindError}
use Rattle.ep_instance.specs.Judgements.{FitsIfShaped, ShapeAnswers}
use Rattle.ep_instance.specs.declared.judging.Shaped.{Shaped as CodeShaped}
use Rattle.ep_print.specs.Refusals.{refusal_text}
use Rattle.ep_print.specs.declared.refusals.Refusal.{Refusal}
use Rattle.ep_print.specs.declared.refusals.TextFile.{TextFile}
use Rattle.ep_tree.specs.Binding.{Instance, Refusal as BindRefusal}
use Rattle.ep_tree.specs.Faults.{params_faults, text_faults}
use Rattle.ep_tree.specs.SolutionTexts.{Shaped, fits, read_solution, wrong_shape}
use Rattle.ep_tree.specs.Solutions.{Assigned, Fits, Found, instance_limits}
use Rattle.ep_tree.specs.Statements.{TextTree}
use Rattle.ep_tree.specs.declared.values.Mode.{Mode}
use Rattle.ep_solve.specs.Right.{empty_log}
use Rattle.ep_driver.specs.Answers.{Settles, verdict_status}
use Rattle.ep_driver.specs.Outcomes.{Outcome, Task, and_then, as_outcome, bind_refusal, bind_refusals, bound_outcome, fault_refusals, instance_of, judge_outcome, search_outcome, searched_task, to_check, to_judge, unless_refused, verify_outcome}
use Rattle.ep_files.specs.Status.{status_of}
use Rattle.ep_said.specs.Judgements.{wrong_shape_text}
use Rattle.ep_said.specs.Verdicts.{verdict_text}
use Rattle.ep_driver.specs.Steps.{EndsAs, EndsBy, IsAmong, IsEnd, IsJudged, IsJudgedEnd, IsSearchedFor, LogsTask, Passes, SaysOfRun, Tells, TellsReply, TellsRun, TellsShape, TellsTask, shape_outcome}
use Rattle.ep_driver.specs.Searches.{HasSoundSteps, LogsSoundly}
use Rattle.ep_driver.specs.Stops.{bind_stop}
use Rattle.sat_search.specs.Logs.{IsSound}
use Rattle.ep_driver.specs.declared.replies.Reply.{Reply}
use Rattle.ep_files.specs.declared.status.Status.{Status}
use Rattle.ep_files.specs.declared.stops.Stop.{Stop}
use Rattle.ep_driver.specs.declared.wanted.Request.{Request}
use Rattle.ep_driver.specs.declared.wanted.Wanted.{Wanted}
use Rattle.ep_driver.proofs.Binding.{bind-stopped}
use Rattle.ep_driver.specs.Puts.{HoldOnWant}
use Rattle.ep_driver.proofs.Saying.{holds-refused, holds-wanting, nothing-logs, nothing-sound, nothing-soundly, nothing-steps, refused-asked, said-refusal, wanting-asked}
use Rattle.ep_driver.proofs.Tasks.{AreAllFaultless, AreFaultless, bound-refused, is-judge, is-search, is-verify, limits-refused, shape-refused, search-instance, search-model, search-params, judge-ends, verify-instance, verify-model, verify-params, verify-solution}

-- ---- words

pub refused-said : (words : List (List ℕ)) (told after : Option Held) (rose : Type 0) (log : LogState) (r : Refusal) (result : Result Reply Memory)
    → IfOk result (λ reply. reply.status ≡ status_of r) → IfOk result (λ reply. reply.text.items ≡ refusal_text r)
    → TellsRun words told after rose log (Err (Stop.Refused r))
    → IfOk result (λ reply. SaysOfRun words told after rose reply.status reply.text.items log)
refused-said words told after rose log r (Ok reply) s t h = said-refusal words told after rose log r reply.status reply.text.items s t h
refused-said words told after rose log r (Err e) s t h = tt

pub refused-holds : (words : List (List ℕ)) (told after : Option Held) (rose : Type 0) (log : LogState) (r : Refusal) (result : Result Reply Memory)
    → TellsRun words told after rose log (Err (Stop.Refused r)) → OnErr result (HoldOnWant words told after rose log)
refused-holds words told after rose log r (Ok reply) h = tt
refused-holds words told after rose log r (Err e) h = holds-refused words told after rose log r h

-- where memory is wanting, something is logged for a task alone
pub run-asked : (words : List (List ℕ)) (told after : Option Held) (rose : Type 0) (log : LogState) (result : Result Reply Stop) → TellsRun words told after rose log result
    → OnErr result (LogsTask words told log)
run-asked words told after rose log (Ok reply) h = tt
run-asked words told after rose log (Err (Stop.Refused r)) h = refused-asked words told after rose log r h
run-asked words told after rose log (Err Stop.Memory) h = wanting-asked words told after rose log h

-- what the files hold where a run gives no reply for want of memory
pub run-holds : (words : List (List ℕ)) (told after : Option Held) (rose : Type 0) (log : LogState) (result : Result Reply Memory) → TellsRun words told after rose log (Err Stop.Memory) → OnErr result (HoldOnWant words told after rose log)
run-holds words told after rose log (Ok reply) h = tt
run-holds words told after rose log (Err e) h = holds-wanting words told after rose log h

pub refused-asks : (words : List (List ℕ)) (told after : Option Held) (rose : Type 0) (log : LogState) (r : Refusal) (result : Result Reply Memory)
    → TellsRun words told after rose log (Err (Stop.Refused r)) → OnErr result (LogsTask words told log)
refused-asks words told after rose log r (Ok reply) h = tt
refused-asks words told after rose log r (Err e) h = refused-asked words told after rose log r h

-- ---- the instance

no-more : (f : BindRefusal → Refusal) (rs : List BindRefusal) → map f rs ≡ [] → rs ≡ []
no-more f [] e = refl
no-more f (r ∷ rs) e = absurd cc

pub none-passed : (rs : List BindRefusal) → bind_refusals rs ≡ [] → rs ≡ []
none-passed rs e = no-more bind_refusal rs e

pub bound-stopped : {V : Type 0} (mode : Mode) (view : V → Instance) (m p : TextTree) (stop : Stop) → Tells view (bound_outcome mode m p) (Err stop) → Tells view (instance_of mode m p) (Err stop)
bound-stopped mode view m p (Stop.Refused r) h = (h.0, bound-refused mode m p r h.1)
bound-stopped mode view m p Stop.Memory h = tt

pub limits-stopped : {V : Type 0} (mode : Mode) (view : V → Instance) (m p : TextTree) (i : Instance) (stop : Stop) → bound_outcome mode m p ≡ Ok i
    → Passes {V = Unit {0}} (bind_refusals (instance_limits mode i)) (Err stop) → Tells view (instance_of mode m p) (Err stop)
limits-stopped mode view m p i (Stop.Refused r) e h = (h.0, limits-refused mode m p i r e h.1)
limits-stopped mode view m p i Stop.Memory e h = tt

-- ---- searching

pub search-model-stopped : (mode : Mode) (V : Type 0) (log : LogState) (q : Request) (m p : TextTree) (stop : Stop) → log ≡ empty_log → Passes {V = V} (fault_refusals TextFile.Model (text_faults m)) (Err stop) → TellsReply (search_outcome mode q m p) log (Err stop)
search-model-stopped mode V log q m p (Stop.Refused r) nothing h = (h.0, search-model mode q m p r h.1)
search-model-stopped mode V log q m p Stop.Memory nothing h = inl nothing

pub search-params-stopped : (mode : Mode) (V : Type 0) (log : LogState) (q : Request) (m p : TextTree) (stop : Stop) → log ≡ empty_log → fault_refusals TextFile.Model (text_faults m) ≡ []
    → Passes {V = V} (fault_refusals TextFile.Params (params_faults p)) (Err stop) → TellsReply (search_outcome mode q m p) log (Err stop)
search-params-stopped mode V log q m p (Stop.Refused r) nothing e h = (h.0, search-params mode q m p r e h.1)
search-params-stopped mode V log q m p Stop.Memory nothing e h = inl nothing

pub search-instance-stopped : {V : Type 0} (mode : Mode) (view : V → Instance) (log : LogState) (q : Request) (m p m' p' : TextTree) (stop : Stop) → log ≡ empty_log → m' ≡ m → p' ≡ p → AreFaultless m p
    → Tells view (instance_of mode m' p') (Err stop) → TellsReply (search_outcome mode q m p) log (Err stop)
search-instance-stopped mode view log q m p m' p' (Stop.Refused r) nothing e f none h =
    let P : TextTree → Type 0 = λ x. IsAmong (instance_of mode x p') r in
    let Q : TextTree → Type 0 = λ x. IsAmong (instance_of mode m x) r in
    (h.0, search-instance mode q m p r none (subst Q f (subst P e h.1)))
search-instance-stopped mode view log q m p m' p' Stop.Memory nothing e f none h = inl nothing

pub same-instance : (mode : Mode) (m p m' p' : TextTree) (i : Instance) → m' ≡ m → p' ≡ p → instance_of mode m' p' ≡ Ok i → instance_of mode m p ≡ Ok i
same-instance mode m p m' p' i e f h = sym (ap (λ x. instance_of mode x p') e ∙ ap (instance_of mode m) f) ∙ h

pub search-answered : (mode : Mode) (q : Request) (m p : TextTree) (i : Instance) (reply : Reply) (log : LogState) → AreFaultless m p → instance_of mode m p ≡ Ok i
    → Settles (searched_task mode q i) reply.status reply.text.items log → TellsReply (search_outcome mode q m p) log (Ok reply)
search-answered mode q m p i reply log none e answers = (searched_task mode q i, is-search mode q m p i none e, answers)

-- memory is wanting in a search, for a task that comes out
pub search-wanting : (mode : Mode) (q : Request) (m p : TextTree) (i : Instance) (log : LogState) → AreFaultless m p → instance_of mode m p ≡ Ok i → TellsReply (search_outcome mode q m p) log (Err Stop.Memory)
search-wanting mode q m p i log none e = inr (searched_task mode q i, is-search mode q m p i none e)

-- ---- verifying

pub verify-model-stopped : (mode : Mode) (V : Type 0) (m p s : TextTree) (stop : Stop) → Passes {V = V} (fault_refusals TextFile.Model (text_faults m)) (Err stop) → TellsReply (verify_outcome mode m p s) empty_log (Err stop)
verify-model-stopped mode V m p s (Stop.Refused r) h = (h.0, verify-model mode m p s r h.1)
verify-model-stopped mode V m p s Stop.Memory h = inl refl

pub verify-params-stopped : (mode : Mode) (V : Type 0) (m p s : TextTree) (stop : Stop) → fault_refusals TextFile.Model (text_faults m) ≡ []
    → Passes {V = V} (fault_refusals TextFile.Params (params_faults p)) (Err stop) → TellsReply (verify_outcome mode m p s) empty_log (Err stop)
verify-params-stopped mode V m p s (Stop.Refused r) e h = (h.0, verify-params mode m p s r e h.1)
verify-params-stopped mode V m p s Stop.Memory e h = inl refl

pub verify-solution-stopped : (mode : Mode) (V : Type 0) (m p s : TextTree) (stop : Stop) → AreFaultless m p
    → Passes {V = V} (fault_refusals TextFile.Solution (params_faults s)) (Err stop) → TellsReply (verify_outcome mode m p s) empty_log (Err stop)
verify-solution-stopped mode V m p s (Stop.Refused r) none h = (h.0, verify-solution mode m p s r none h.1)
verify-solution-stopped mode V m p s Stop.Memory none h = inl refl

pub verify-instance-stopped : {V : Type 0} (mode : Mode) (view : V → Instance) (m p s m' p' : TextTree) (stop : Stop) → m' ≡ m → p' ≡ p → AreAllFaultless m p s
    → Tells view (instance_of mode m' p') (Err stop) → TellsReply (verify_outcome mode m p s) empty_log (Err stop)
verify-instance-stopped mode view m p s m' p' (Stop.Refused r) e f none h =
    let P : TextTree → Type 0 = λ x. IsAmong (instance_of mode x p') r in
    let Q : TextTree → Type 0 = λ x. IsAmong (instance_of mode m x) r in
    (h.0, verify-instance mode m p s r none (subst Q f (subst P e h.1)))
verify-instance-stopped mode view m p s m' p' Stop.Memory e f none h = inl refl

pub verify-judged : (mode : Mode) (m p s s' : TextTree) (i : Instance) (result : Result Reply Stop) → AreAllFaultless m p s → instance_of mode m p ≡ Ok i → s' ≡ s
    → TellsReply (judge_outcome mode i s') empty_log result → TellsReply (verify_outcome mode m p s) empty_log result
verify-judged mode m p s s' i result none e f h =
    let P : Outcome Task → Type 0 = λ o. TellsReply o empty_log result in
    subst P (ap (judge_outcome mode i) f ∙ sym (is-verify mode m p s i none e)) h

-- ---- judging

pub shape-stopped : (mode : Mode) (i : Instance) (s : TextTree) (stop : Stop) → TellsShape mode i s (Err stop) → TellsReply (judge_outcome mode i s) empty_log (Err stop)
shape-stopped mode i s (Stop.Refused r) h = (h.0, shape-refused mode i s r h.1)
shape-stopped mode i s Stop.Memory h = inl refl

pub fit-judged : (mode : Mode) (i : Instance) (s : TextTree) (a : Assigned) (found : Found) (reply : Reply) → shape_outcome mode i s ≡ Ok (fits a) → Fits i a found
    → IsJudged mode i found reply.status reply.text.items → TellsReply (judge_outcome mode i s) empty_log (Ok reply)
unfolding Settles
fit-judged mode i s a found reply e fit h = (to_judge mode i (fits a), is-judge mode i s (fits a) e, (found, fit, h.0, h.1))

-- ---- files

-- the last file of a run
pub last-read : (names : List (List ℕ)) (shows : Held → Outcome Task → Type 0) (told : Option Held) (rose : Type 0) (log : LogState) (result : Result Reply Stop)
    → TellsTask (names ++ []) shows told rose log result → TellsTask names shows told rose log result
last-read names shows told rose log result h =
    let P : List (List ℕ) → Type 0 = λ x. TellsTask x shows told rose log result in subst P (append-nil names) h

-- ---- shapes

pub shaped-tells : (mode : Mode) (i : Instance) (s : TextTree) (shaped : CodeShaped) → ShapeAnswers (Ok shaped) (read_solution mode i s) → FitsIfShaped i shaped → TellsShape mode i s (Ok shaped)
unfolding as_outcome
shaped-tells mode i s (CodeShaped.Fits a) h fit = (ap as_outcome h, fit.0, fit.1)
shaped-tells mode i s (CodeShaped.WrongShape name) h fit = (h.0, ap as_outcome h.1, h.2)

tells-shape : (mode : Mode) (i : Instance) (s : TextTree) (stop : Stop) → Tells {V = Shaped} (λ x. x) (shape_outcome mode i s) (Err stop) → TellsShape mode i s (Err stop)
tells-shape mode i s (Stop.Refused r) h = h
tells-shape mode i s Stop.Memory h = tt

pub shape-bound : (mode : Mode) (i : Instance) (s : TextTree) (error : BindError) → RefusesBinding error (read_solution mode i s) → TellsShape mode i s (Err (bind_stop error))
shape-bound mode i s error h = tells-shape mode i s (bind_stop error) (bind-stopped (λ x. x) (read_solution mode i s) error h)

-- a text that says which name keeps a solution text from giving an assignment
pub shape-said : (mode : Mode) (i : Instance) (s : TextTree) (names : List (List ℕ)) (name : List ℕ) (status : Status) (text : List ℕ) → shape_outcome mode i s ≡ Ok (wrong_shape names) → Contains names name
    → status ≡ Status.Refuted → text ≡ wrong_shape_text name → (task : Task) × (judge_outcome mode i s ≡ Ok task) × Settles task status text empty_log
unfolding Settles
shape-said mode i s names name status text e among ended said = (to_judge mode i (wrong_shape names), is-judge mode i s (wrong_shape names) e, (name, among, ended, said))

unless-ok : {A : Type 0} (rs : List Refusal) (o : Outcome A) (x : A) → unless_refused rs o ≡ Ok x → o ≡ Ok x
unfolding unless_refused
unless-ok [] o x h = h
unless-ok (r ∷ rs) o x h = absurd cc

then-ok : {A B : Type 0} (o : Outcome A) (next : A → Outcome B) (x : B) → and_then o next ≡ Ok x → (y : A) × (next y ≡ Ok x)
unfolding and_then
then-ok (Ok y) next x h = (y, h)
then-ok (Err rs) next x h = absurd cc

same-ok : {A : Type 0} (x y : A) → ◌≡◌ {A = Outcome A} (Ok x) (Ok y) → x ≡ y
same-ok x y h = cc

-- what verifying a text comes to is a solution text to judge
verify-judges : (mode : Mode) (m p s : TextTree) (task : Task) → verify_outcome mode m p s ≡ Ok task → (i : Instance) × (shaped : Shaped) × (to_judge mode i shaped ≡ task)
unfolding verify_outcome
verify-judges mode m p s task h =
    let a = unless-ok (fault_refusals TextFile.Model (text_faults m)) _ task h in
    let b = unless-ok (fault_refusals TextFile.Params (params_faults p)) _ task a in
    let c = unless-ok (fault_refusals TextFile.Solution (params_faults s)) _ task b in
    let d = then-ok (instance_of mode m p) _ task c in
    let e = then-ok (as_outcome (read_solution mode d.0 s)) _ task d.1 in
    (d.0, e.0, same-ok (to_judge mode d.0 e.0) task e.1)

-- how a reply ends that judges
pub reply-ends : (mode : Mode) (m p s : TextTree) (result : Result Reply Stop) → TellsReply (verify_outcome mode m p s) empty_log result → IfOk result (λ reply. IsJudgedEnd reply.status empty_log)
reply-ends mode m p s (Ok reply) h =
    let q = verify-judges mode m p s h.0 h.1 in
    let P : Task → Type 0 = λ t. Settles t reply.status reply.text.items empty_log in
    (refl, judge-ends mode q.0 q.1 reply.status reply.text.items empty_log (subst P (sym q.2) h.2))
reply-ends mode m p s (Err stop) h = tt

-- ---- ends

-- nothing was logged where a step before the search stops
stopped-with : (S : Type 0) (End : Status → Type 0) (log : LogState) (stop : Stop) → log ≡ empty_log → S → EndsBy S End log (Err stop)
stopped-with S End log (Stop.Refused r) h s = h
stopped-with S End log Stop.Memory h s = s

pub stopped-ends : (End : Status → Type 0) (log : LogState) (stop : Stop) → log ≡ empty_log → EndsBy (IsSound log.events) End log (Err stop)
stopped-ends End log stop h = stopped-with (IsSound log.events) End log stop h (nothing-sound log h)

pub stopped-search : (q : Request) (log : LogState) (stop : Stop) → log ≡ empty_log → EndsBy (HasSoundSteps q log.events) (λ status. IsSearchedFor q status log) log (Err stop)
stopped-search q log stop h = stopped-with (HasSoundSteps q log.events) (λ status. IsSearchedFor q status log) log stop h (nothing-steps q log h)

pub stopped-as : (wanted : Wanted) (log : LogState) (stop : Stop) → log ≡ empty_log → EndsAs wanted log (Err stop)
stopped-as wanted log stop h = (nothing-logs wanted log h, stopped-with (LogsSoundly wanted log.events) (λ status. IsEnd wanted status log) log stop h (nothing-soundly wanted log h))

-- a judgement ends so, whatever refuses it, with nothing logged
judged-ends : (log : LogState) (result : Result Reply Stop) → log ≡ empty_log → IfOk result (λ reply. IsJudgedEnd reply.status empty_log) → EndsBy (IsSound log.events) (λ status. IsJudgedEnd status log) log result
judged-ends log (Ok reply) nothing h = (nothing, h.1)
judged-ends log (Err (Stop.Refused r)) nothing h = nothing
judged-ends log (Err Stop.Memory) nothing h = nothing-sound log nothing

pub verify-ends : (model : List ℕ) (params : Option (List ℕ)) (mode : Mode) (solution : List ℕ) (log : LogState) (result : Result Reply Stop) → log ≡ empty_log
    → IfOk result (λ reply. IsJudgedEnd reply.status empty_log) → EndsAs (Wanted.Verify model params mode solution) log result
verify-ends model params mode solution log result nothing h = (nothing, judged-ends log result nothing h)

pub check-ends : (formula proof : List ℕ) (workers : ℕ) (log : LogState) (result : Result Reply Stop) → log ≡ empty_log
    → IfOk result (λ reply. IsJudgedEnd reply.status empty_log) → EndsAs (Wanted.Check formula proof workers) log result
check-ends formula proof workers log result nothing h = (nothing, judged-ends log result nothing h)

-- ---- proofs

pub verdict-said : (formula : List (List Literal)) (lines : List ProofLine) (verdict : Verdict) (status : Status) (text : List ℕ) → verdict ≡ verdict_of formula lines → status ≡ verdict_status verdict → text ≡ verdict_text verdict
    → Settles (to_check formula lines) status text empty_log
unfolding Settles
verdict-said formula lines verdict status text v s t = (s ∙ ap verdict_status v, t ∙ ap verdict_text v)

pub verdict-ends : (verdict : Verdict) (status : Status) → status ≡ verdict_status verdict → IsJudgedEnd status empty_log
unfolding verdict_status
verdict-ends Verified status e = (refl, inl e)
verdict-ends (BadStep line) status e = (refl, inr e)
verdict-ends NoEmptyClause status e = (refl, inr e)

-- the reply to a formula and a proof that were read
pub check-told : (formula : List (List Literal)) (lines : List ProofLine) (reply : Reply) → Settles (to_check formula lines) reply.status reply.text.items empty_log
    → TellsReply (Ok (to_check formula lines)) empty_log (Ok reply)
check-told formula lines reply answers = (to_check formula lines, refl, answers)
