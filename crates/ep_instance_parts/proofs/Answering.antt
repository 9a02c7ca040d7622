-- Steps of binding, one after another.
use Rattle.std.proofs.Common.{◌≡◌, ◌∙◌, ℕ, zero, suc, List, [], ◌∷◌, map, refl, sym, ap, subst, arith}
use Rattle.std.specs.Prelude.{Result, Ok, Err, Contains}
use Rattle.std.proofs.lemmas.List.Elements.{Contains-append_right}
use Rattle.ep_base.specs.declared.operators.Limit.{Limit as LimitName}
use Rattle.ep_eval.specs.Outcomes.{IsCause}
use Rattle.ep_eval.specs.declared.errors.EvalError.{EvalError}
use Rattle.ep_eval.specs.declared.errors.EvalError.TheVariants as error
use Rattle.ep_tree.specs.Binding.{Refusal, and_next, limits_met, over_limit, undefined_at, unless_any, where_false}
use Rattle.ep_tree.specs.Limits.{limits_of_values}
use Rattle.ep_tree.specs.Measures.{Met}
use Rattle.ep_tree.specs.declared.values.Mode.{Mode}
use Rattle.ep_instance_parts.specs.Refusals.{BindsTo, IsOneOf, RefusesBinding, bind_error, text_name}
use Rattle.ep_base.specs.declared.places.Place.{Place}
use Rattle.ep_instance_parts.specs.declared.errors.Source.{Source}
use Rattle.ep_instance_parts.specs.declared.errors.BindError.{BindError}
use Rattle.ep_instance_parts.specs.declared.errors.BindError.TheVariants.{Missing, Outside, Undefined, WhereFalse, Limit, Memory}

-- a step that gave something
pub then_is : {A B : Type 0} (whole : Result B (List Refusal)) (one : Result A (List Refusal)) (next : A → Result B (List Refusal)) (x : A)
    → whole ≡ and_next one next → one ≡ Ok x → whole ≡ next x
unfolding and_next
then_is whole one next x w e = w ∙ ap (λ o. and_next o next) e

first : {A B : Type 0} (e : BindError) (one : Result A (List Refusal)) (next : A → Result B (List Refusal)) → RefusesBinding e one → RefusesBinding e (and_next one next)
unfolding and_next
first Memory one next h = tt
first (Missing n) (Ok x) next h = absurd h
first (Missing n) (Err rs) next h = h
first (Outside n) (Ok x) next h = absurd h
first (Outside n) (Err rs) next h = h
first (Undefined s p) (Ok x) next h = absurd h
first (Undefined s p) (Err rs) next h = h
first (WhereFalse n) (Ok x) next h = absurd h
first (WhereFalse n) (Err rs) next h = h
first (Limit l) (Ok x) next h = absurd h
first (Limit l) (Err rs) next h = h

-- what refuses the first step refuses the whole
pub refuses_first : {A B : Type 0} (e : BindError) (whole : Result B (List Refusal)) (one : Result A (List Refusal)) (next : A → Result B (List Refusal))
    → whole ≡ and_next one next → RefusesBinding e one → RefusesBinding e whole
refuses_first e whole one next w h = subst (λ r. RefusesBinding e r) (sym w) (first e one next h)

-- what refuses one thing refuses what it is
pub refuses_same : {A : Type 0} (e : BindError) (whole one : Result A (List Refusal)) → whole ≡ one → RefusesBinding e one → RefusesBinding e whole
refuses_same e whole one w h = subst (λ r. RefusesBinding e r) (sym w) h

-- an answer to one thing answers what it is
pub answers_same : {V A : Type 0} (view : V → A) (answer : Result V BindError) (whole one : Result A (List Refusal)) → whole ≡ one
    → BindsTo view answer one → BindsTo view answer whole
answers_same view (Ok x) whole one w h = w ∙ h
answers_same view (Err e) whole one w h = refuses_same e whole one w h

-- one of some refusals
pub refuses_one : {A : Type 0} (e : BindError) (whole : Result A (List Refusal)) (rs : List Refusal) → whole ≡ Err rs → IsOneOf e rs → RefusesBinding e whole
refuses_one Memory whole rs w h = tt
refuses_one (Missing n) whole rs w h = subst (λ r. RefusesBinding (Missing n) r) (sym w) h
refuses_one (Outside n) whole rs w h = subst (λ r. RefusesBinding (Outside n) r) (sym w) h
refuses_one (Undefined s p) whole rs w h = subst (λ r. RefusesBinding (Undefined s p) r) (sym w) h
refuses_one (WhereFalse n) whole rs w h = subst (λ r. RefusesBinding (WhereFalse n) r) (sym w) h
refuses_one (Limit l) whole rs w h = subst (λ r. RefusesBinding (Limit l) r) (sym w) h

-- ---- limits

limit_mapped : (l : LimitName) (ls : List LimitName) → Contains ls l → Contains (map over_limit ls) (over_limit l)
limit_mapped l [] (k, low, is) = absurd (omega (arith, low))
limit_mapped l (m ∷ ls) (zero, low, is) = (zero, omega arith, ap over_limit is)
limit_mapped l (m ∷ ls) (suc k, low, is) = Contains-append_right (over_limit m ∷ []) (map over_limit ls) (over_limit l) (limit_mapped l ls (k, omega (arith, low), is))

some_limit : {A : Type 0} (l : LimitName) (ls : List LimitName) (answer : Result A (List Refusal)) → Contains ls l → RefusesBinding (Limit l) (unless_any (map over_limit ls) answer)
unfolding unless_any
some_limit l [] answer h = absurd (omega (arith, h.1))
some_limit l (k ∷ ks) answer h = limit_mapped l (k ∷ ks) h

-- a limit that is passed comes first
pub limit_refuses : {A : Type 0} (mode : Mode) (ms : List Met) (answer : Result A (List Refusal)) (e : EvalError) → IsCause (limits_of_values mode 0 ms) e
    → RefusesBinding (bind_error e) (unless_any (limits_met mode ms) answer)
unfolding limits_met
limit_refuses mode ms answer (error.Limit l) h = some_limit l (limits_of_values mode 0 ms) answer h
limit_refuses mode ms answer error.Memory h = tt

-- no limit is passed
pub no_limit : {A : Type 0} (mode : Mode) (ms : List Met) (answer : Result A (List Refusal)) → limits_of_values mode 0 ms ≡ [] → unless_any (limits_met mode ms) answer ≡ answer
unfolding limits_met unless_any
no_limit mode ms answer e = ap (λ ls. unless_any (map over_limit ls) answer) e

-- what comes before a step and the next comes before the step
pub unless_then : {A B : Type 0} (rs : List Refusal) (one : Result A (List Refusal)) (next : A → Result B (List Refusal))
    → unless_any rs (and_next one next) ≡ and_next (unless_any rs one) next
unfolding unless_any and_next
unless_then [] one next = refl
unless_then (r ∷ rs) one next = refl

-- three steps in a row
pub next_then : {A B C : Type 0} (one : Result A (List Refusal)) (two : A → Result B (List Refusal)) (three : B → Result C (List Refusal))
    → and_next (and_next one two) three ≡ and_next one (λ x. and_next (two x) three)
unfolding and_next
next_then (Ok x) two three = refl
next_then (Err rs) two three = refl

-- a place without a value
pub refuses_undefined : {A : Type 0} (text : Source) (p : Place) (whole : Result A (List Refusal)) → whole ≡ Err (undefined_at (text_name text) p ∷ []) → RefusesBinding (Undefined text p) whole
refuses_undefined text p whole e = refuses_one (Undefined text p) whole (undefined_at (text_name text) p ∷ []) e (0, omega arith, refl)

-- a condition that is false
pub refuses_false : {A : Type 0} (n : ℕ) (whole : Result A (List Refusal)) → whole ≡ Err (where_false n ∷ []) → RefusesBinding (WhereFalse n) whole
refuses_false n whole e = refuses_one (WhereFalse n) whole (where_false n ∷ []) e (0, omega arith, refl)
