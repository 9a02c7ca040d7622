-- Judging: clauses one by one, and then the objective, under decision variables that are set once or more.
use Rattle.std.proofs.Common.{◌≡◌, ◌∙◌, ℕ, ◌+◌, arith, Bool, true, false, ◌||◌, ℤ, List, [], ◌∷◌, map, drop, Option, Some, None, refl, sym, ap, subst, if◌then◌else◌, bytes_eq}
use Rattle.std.proofs.lemmas.List.Elements.{All-cons, All-head, All-nil, All-tail}
use Rattle.std.specs.List.{All}
use Rattle.std.specs.Prelude.{is_none, is_some, option_and_then, unwrap_or, Result, Ok, Err, IfOk, Contains}
use Rattle.ep_base.specs.Options.{on_both}
use Rattle.ep_base.specs.declared.errors.Memory.{Memory}
use Rattle.ep_base.specs.declared.names.Name.{Name}
use Rattle.ep_base.specs.declared.operators.Limit.{Limit as LimitName}
use Rattle.ep_base.specs.declared.operators.Sense.{Sense}
use Rattle.ep_eval.proofs.KnownNames.{bytes_eq-symmetric}
use Rattle.ep_eval.specs.Outcomes.{IsCause}
use Rattle.ep_eval.specs.declared.errors.EvalError.{EvalError}
use Rattle.ep_eval.specs.declared.errors.EvalError.TheVariants.{Limit}
use Rattle.ep_tree.proofs.TypedParts.{some_is, then_is}
use Rattle.ep_tree.specs.Binding.{Find, Instance}
use Rattle.ep_tree.specs.Closed.{IsClosed}
use Rattle.ep_tree.specs.Environments.{Bound, Env, has_value}
use Rattle.ep_tree.specs.Evaluation.{evaluate, first_untrue, is_true_in, number_in, truth_of}
use Rattle.ep_tree.specs.Names.{put_all}
use Rattle.ep_tree.specs.SolutionTexts.{is_find}
use Rattle.ep_tree.specs.Solutions.{Assigned, Fits, Found, Judgement, a_solution, find_type, fitted_find, found_values, goal_value, has_goal_value, judged_by, judgement, named_in, under, violates}
use Rattle.ep_tree.specs.Trees.{ExprTree}
use Rattle.ep_tree.specs.Values.{ValueTree}
use Rattle.ep_tree.specs.declared.values.Mode.{Mode}
use Rattle.ep_reach_laws.proofs.Passing.{fitting_passes_no_limit}
use Rattle.ep_reach_laws.specs.Reaches.{PassesNoLimit}
use Rattle.ep_instance_parts.specs.Instances.{find_of}
use Rattle.ep_instance_parts.specs.declared.instances.Find.{Find as KeptFind}
use Rattle.ep_instance.specs.Assigning.{AgreeElsewhere, IsUnder, goal_number, judged_by_goal, judgement_in}
use Rattle.ep_instance.specs.Judgements.{IsWithinLimits, judgement_of}
use Rattle.ep_instance.specs.declared.judging.Judgement.{Judgement as CodeJudgement}
use Rattle.ep_instance.proofs.ShapingSteps.{find_later, find_nowhere, none_dropped, none_of}

-- ---- limits

-- an evaluation that passes no limit names none
pub no_cause : (passed : List LimitName) (error : EvalError) (l : LimitName) → passed ≡ [] → error ≡ Limit l → IsCause passed error → ⊥
no_cause passed error l none is h =
    let named : Contains [] l = subst (λ e. IsCause [] e) is (subst (λ p. IsCause p error) none h) in absurd (omega (arith, named.1))

-- ---- clauses

-- whether a clause is true, by the value that was seen
pub clause_is : (mode : Mode) (env : Env) (e : ExprTree) (v : Option ValueTree) (b : Bool) → v ≡ evaluate mode env e → b ≡ unwrap_or (truth_of v) false → b ≡ is_true_in mode env e
clause_is mode env e v b value is = is ∙ ap (λ o. unwrap_or (truth_of o) false) value

pub clause_false : (mode : Mode) (env : Env) (n : ℕ) (e : ExprTree) (es : List ExprTree) → is_true_in mode env e ≡ false → first_untrue mode env n (e ∷ es) ≡ Some n
unfolding first_untrue
clause_false mode env n e es h = ap (λ b. if b then first_untrue mode env (n + 1) es else Some n) h

pub clause_true : (mode : Mode) (env : Env) (n : ℕ) (e : ExprTree) (es : List ExprTree) → is_true_in mode env e ≡ true → first_untrue mode env n (e ∷ es) ≡ first_untrue mode env (n + 1) es
unfolding first_untrue
clause_true mode env n e es h = ap (λ b. if b then first_untrue mode env (n + 1) es else Some n) h

pub no_clause : (mode : Mode) (env : Env) (n : ℕ) → first_untrue mode env n [] ≡ None
unfolding first_untrue
no_clause mode env n = refl

-- what holds of what some things are made to holds of each of them, once it is made
pub all_back : {A B : Type 0} (P : B → Type 0) (f : A → B) (xs : List A) → All P (map f xs) → All (λ x. P (f x)) xs
all_back P f [] h = All-nil (λ x. P (f x))
all_back P f (x ∷ xs) h = All-cons (λ y. P (f y)) x xs (All-head P (f x) (map f xs) h) (all_back P f xs (All-tail P (f x) (map f xs) h))

-- ---- the objective

pub goal_missing : (mode : Mode) (env : Env) (goal : Option (Sense × ExprTree)) → goal ≡ None → a_solution None ≡ judged_by_goal mode env goal
unfolding judged_by_goal goal_number judged_by
goal_missing mode env goal h = sym (ap (judged_by_goal mode env) h)

pub goal_stated : (mode : Mode) (env : Env) (goal : Option (Sense × ExprTree)) (s : Sense) (e : ExprTree) (v : Option ValueTree) (n : Option ℤ) → goal ≡ Some (s, e)
    → v ≡ evaluate mode env e → n ≡ number_in v → judged_by None (is_some n) n ≡ judged_by_goal mode env goal
unfolding judged_by_goal goal_number
goal_stated mode env goal s e v n h value number =
    ap (λ o. judged_by None (is_some o) o) (number ∙ ap number_in value) ∙ sym (ap (judged_by_goal mode env) h)

-- ---- judgements

pub judged_violated : (mode : Mode) (env : Env) (i : Instance) (first : Option ℕ) (n : ℕ) → first ≡ first_untrue mode env 1 i.clauses → first ≡ Some n → violates n ≡ judgement_in mode env i
unfolding judgement_in judged_by
judged_violated mode env i first n h is =
    sym (ap (λ o. judged_by o (is_none i.goal || is_some (goal_number mode env i.goal)) (goal_number mode env i.goal)) (sym h ∙ is))

judged_clear : (mode : Mode) (env : Env) (i : Instance) (first : Option ℕ) (goal : Option (Sense × ExprTree)) (said : Judgement) → first ≡ first_untrue mode env 1 i.clauses → first ≡ None
    → goal ≡ i.goal → said ≡ judged_by_goal mode env goal → said ≡ judgement_in mode env i
unfolding judgement_in judged_by_goal
judged_clear mode env i first goal said h is g told =
    told
    ∙ ap (λ x. judged_by None (is_none x || is_some (goal_number mode env x)) (goal_number mode env x)) g
    ∙ sym (ap (λ o. judged_by o (is_none i.goal || is_some (goal_number mode env i.goal)) (goal_number mode env i.goal)) (sym h ∙ is))

-- The same of a call that judges by the objective, or finds no memory.
pub judged_last : (mode : Mode) (env : Env) (i : Instance) (first : Option ℕ) (goal : Option (Sense × ExprTree)) (answer : Result CodeJudgement Memory) → first ≡ first_untrue mode env 1 i.clauses → first ≡ None
    → goal ≡ i.goal → IfOk answer (λ j. judgement_of j ≡ judged_by_goal mode env goal) → IfOk answer (λ j. judgement_of j ≡ judgement_in mode env i)
judged_last mode env i first goal (Ok j) h is g told = judged_clear mode env i first goal (judgement_of j) h is g told
judged_last mode env i first goal (Err e) h is g told = tt

-- ---- decision variables that are set once more

put_first : (b : Bool) (x : Bound) (one other : Option Bound) → (b ≡ false → one ≡ other) → (if b then Some x else one) ≡ (if b then Some x else other)
put_first true x one other h = refl
put_first false x one other h = h refl

put_later : (b : Bool) (x : Bound) (one other : Option Bound) → b ≡ false → one ≡ other → (if b then Some x else one) ≡ other
put_later b x one other h e = ap (λ c. if c then Some x else one) h ∙ e

-- the values of some decision variables: that of the first, and the others'
more_values : (f : Find) (fs : List Find) (a : Assigned) (found : Found) → found_values (f ∷ fs) a ≡ Some found
    → (v : ValueTree) × (rest : Found) × (found_values fs a ≡ Some rest) × ((f.name, has_value (find_type f) v) ∷ rest ≡ found)
unfolding found_values on_both
more_values f fs a found h =
    let F : ValueTree → Found → Option Found = λ v rest. Some ((f.name, has_value (find_type f) v) ∷ rest) in
    let p : _ = then_is (λ v. option_and_then (F v) (found_values fs a)) (option_and_then (fitted_find f) (named_in a f.name)) found h in
    let q : _ = then_is (F p.0) (found_values fs a) found p.2 in
    (p.0, q.0, q.1, some_is q.2)

no_values : (a : Assigned) (found : Found) → found_values [] a ≡ Some found → [] ≡ found
unfolding found_values
no_values a found h = some_is h

-- what a name stands for once decision variables are set, where it stands for the same before or is one of them
same_at : (fs : List Find) (a : Assigned) (found : Found) (one other : Env) (name : Name) → found_values fs a ≡ Some found → (is_find fs name ≡ false → one name ≡ other name)
    → put_all found one name ≡ put_all found other name
unfolding put_all
same_at [] a found one other name h same =
    subst (λ x. put_all x one name ≡ put_all x other name) (no_values a found h) (same (find_nowhere name))
same_at (f ∷ fs) a found one other name h same =
    let p : _ = more_values f fs a found h in
    subst (λ x. put_all x one name ≡ put_all x other name) p.3
    (put_first (bytes_eq name f.name) (has_value (find_type f) p.0) (put_all p.1 one name) (put_all p.1 other name)
    (λ apart. same_at fs a p.1 one other name p.2 (λ none. same (find_later f fs name (bytes_eq-symmetric f.name name ∙ apart) ∙ none))))

-- a name that is none of them stands for what it did
else_at : (fs : List Find) (a : Assigned) (found : Found) (env : Env) (name : Name) → found_values fs a ≡ Some found → is_find fs name ≡ false → put_all found env name ≡ env name
unfolding put_all
else_at [] a found env name h none = subst (λ x. put_all x env name ≡ env name) (no_values a found h) refl
else_at (f ∷ fs) a found env name h none =
    let p : _ = more_values f fs a found h in
    let apart : _ = none_of f fs name none in
    subst (λ x. put_all x env name ≡ env name) p.3
    (put_later (bytes_eq name f.name) (has_value (find_type f) p.0) (put_all p.1 env name) (env name) (bytes_eq-symmetric name f.name ∙ apart.0) (else_at fs a p.1 env name p.2 apart.1))

pub under_elsewhere : (fs : List Find) (a : Assigned) (before after : Env) → IsUnder fs a before after → AgreeElsewhere fs after before
under_elsewhere fs a before after u = λ name none. ap (λ (env : Env). env name) u.known ∙ else_at fs a u.found before name u.values none

-- the same where only the last ones were set
pub some_elsewhere : (finds : List KeptFind) (k : ℕ) (a : Assigned) (before now after : Env) → IsUnder (map find_of (drop k finds)) a before now → after ≡ now → AgreeElsewhere (map find_of finds) after before
some_elsewhere finds k a before now after u e = λ name none.
    ap (λ (env : Env). env name) e ∙ under_elsewhere (map find_of (drop k finds)) a before now u name (none_dropped finds k name none)

-- ---- a judge

pub agree_again : (fs gs : List Find) (one other third : Env) → fs ≡ gs → AgreeElsewhere fs one other → AgreeElsewhere gs other third → AgreeElsewhere gs one third
agree_again fs gs one other third same h k = λ name none. h name (subst (λ x. is_find x name ≡ false) (sym same) none) ∙ k name none

pub agree_same : (fs : List Find) (one other : Env) → one ≡ other → AgreeElsewhere fs one other
agree_same fs one other e = λ name none. ap (λ (env : Env). env name) e

pub under_given : (fs gs : List Find) (a b : Assigned) (before after : Env) → fs ≡ gs → a ≡ b → IsUnder fs a before after → IsUnder gs b before after
under_given fs gs a b before after f e u = subst (λ x. IsUnder x b before after) f (subst (λ x. IsUnder fs x before after) e u)

-- decision variables that are set where other names stand for what they do in the instance
under_found : (i : Instance) (a : Assigned) (found : Found) (before after : Env) → IsUnder i.finds a before after → AgreeElsewhere i.finds before i.env → Fits i a found → after ≡ under i found
under_found i a found before after u agree fits =
    u.known
    ∙ ap (λ x. put_all x before) (some_is (sym u.values ∙ fits.values))
    ∙ (λ k name. same_at i.finds a found before i.env name fits.values (agree name) k)

-- no limit is passed under an assignment that fits, where the instance is within the limits
pub passes_after : (mode m : Mode) (i : Instance) (a : Assigned) (before after : Env) → m ≡ mode → IsClosed i → IsWithinLimits mode i → ((found : Found) × Fits i a found)
    → IsUnder i.finds a before after → AgreeElsewhere i.finds before i.env → PassesNoLimit m after i
passes_after mode m i a before after in_mode closed within fits u agree =
    subst (λ x. PassesNoLimit x after i) (sym in_mode)
    (subst (λ env. PassesNoLimit mode env i) (sym (under_found i a fits.0 before after u agree fits.1)) (fitting_passes_no_limit mode i closed within a fits.0 fits.1))

judged_found : (mode m : Mode) (i : Instance) (found : Found) (env : Env) (said : Judgement) → m ≡ mode → env ≡ under i found → said ≡ judgement_in m env i → said ≡ judgement mode i found
unfolding judgement judgement_in has_goal_value goal_value goal_number
judged_found mode m i found env said in_mode known told =
    told ∙ ap (λ x. judgement_in x env i) in_mode ∙ ap (λ x. judgement_in mode x i) known

pub judged_after : (mode m : Mode) (i : Instance) (a : Assigned) (before after : Env) (answer : Result CodeJudgement Memory) → m ≡ mode → IsUnder i.finds a before after → AgreeElsewhere i.finds before i.env
    → IfOk answer (λ j. judgement_of j ≡ judgement_in m after i)
    → IfOk answer (λ j. (found : Found) → Fits i a found → judgement_of j ≡ judgement mode i found)
judged_after mode m i a before after (Ok j) in_mode u agree told = λ found fits. judged_found mode m i found after (judgement_of j) in_mode (under_found i a found before after u agree fits) told
judged_after mode m i a before after (Err e) in_mode u agree told = tt
