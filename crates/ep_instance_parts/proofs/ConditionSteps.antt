-- Conditions, one by one.
use Rattle.std.proofs.Common.{◌≡◌, ◌∙◌, ℕ, ◌+◌, Bool, true, false, List, [], ◌∷◌, ◌++◌, length, Option, Some, None, option_map, refl, sym, ap, arith, append_assoc, if◌then◌else◌}
use Rattle.std.specs.Prelude.{Ok, Err, option_to_list, unwrap_or}
use Rattle.std.proofs.lemmas.List.{append-nil}
use Rattle.ep_eval.specs.Outcomes.{IsCause}
use Rattle.ep_eval.specs.declared.errors.EvalError.{EvalError}
use Rattle.ep_tree.specs.Binding.{first_false, met_in, unless_any, where_false}
use Rattle.ep_tree.specs.Environments.{Env}
use Rattle.ep_tree.specs.Evaluation.{evaluate, first_untrue, is_true_in, truth_of}
use Rattle.ep_tree.specs.Limits.{limits_of_values}
use Rattle.ep_tree.specs.Measures.{Met, met}
use Rattle.ep_tree.specs.Trees.{ExprTree}
use Rattle.ep_tree.specs.Values.{ValueTree}
use Rattle.ep_tree.specs.declared.values.Mode.{Mode}
use Rattle.ep_instance_parts.specs.Counted.{IsCounted}
use Rattle.ep_instance_parts.specs.Steps.{conditions_said, first_of}
use Rattle.ep_instance_parts.proofs.Answering.{no_limit}
use Rattle.ep_instance_parts.proofs.LimitSteps.{cause_along, cause_first, cause_next, counted_along, counted_none, counted_on}

-- The nodes that are counted so far, the first violated condition of those so far and those that are left, and the number
-- of the next one.
pub record ConditionsSoFar (mode : Mode) (env : Env) (first : ℕ) (all left : List ExprTree) (violated : Option ℕ) (number count : ℕ) : Type 0 where
  pub done : List Met
  pub cut : met_in mode env all ≡ done ++ met_in mode env left
  pub counted : IsCounted mode 0 done count
  pub same : first_untrue mode env first all ≡ first_of violated (first_untrue mode env number left)
  pub numbered : number + length left ≡ first + length all

pub conditions_begin : (mode : Mode) (env : Env) (first : ℕ) (all : List ExprTree) → ConditionsSoFar mode env first all all None first 0
unfolding first_of
conditions_begin mode env first all = record { done = []; cut = refl; counted = counted_none mode 0 (omega arith); same = refl; numbered = refl }

met_in-cons : (mode : Mode) (env : Env) (e : ExprTree) (es : List ExprTree) → met_in mode env (e ∷ es) ≡ met mode env e ++ met_in mode env es
unfolding met_in
met_in-cons mode env e es = refl

next_untrue : (mode : Mode) (env : Env) (violated : Option ℕ) (number : ℕ) (e : ExprTree) (es : List ExprTree) (holds : Bool) → holds ≡ is_true_in mode env e
    → first_of violated (first_untrue mode env number (e ∷ es)) ≡ first_of (first_of violated (if holds then None else Some number)) (first_untrue mode env (number + 1) es)
unfolding first_untrue first_of
next_untrue mode env (Some n) number e es holds h = refl
next_untrue mode env None number e es holds h =
    ap (λ b. if b then first_untrue mode env (number + 1) es else Some number) (sym h) ∙ go holds
  where
    go : (b : Bool) → (if b then first_untrue mode env (number + 1) es else Some number) ≡ first_of (if b then None else Some number) (first_untrue mode env (number + 1) es)
    go true = refl
    go false = refl

-- one condition more
pub conditions_more : (mode : Mode) (env : Env) (first number count after next : ℕ) (all : List ExprTree) (e : ExprTree) (left : List ExprTree) (violated more : Option ℕ) (holds : Bool) (v : Option ValueTree)
    → ConditionsSoFar mode env first all (e ∷ left) violated number count → IsCounted mode count (met mode env e) after → v ≡ evaluate mode env e
    → holds ≡ unwrap_or (truth_of v) false → more ≡ first_of violated (if holds then None else Some number) → next ≡ number + 1
    → ConditionsSoFar mode env first all left more next after
conditions_more mode env first number count after next all e left violated more holds v h counted value is m n = record {
  done = h.done ++ met mode env e;
  cut = h.cut ∙ ap (λ ms. h.done ++ ms) (met_in-cons mode env e left) ∙ sym (append_assoc h.done (met mode env e) (met_in mode env left));
  counted = counted_on mode 0 count after h.done (met mode env e) h.counted counted;
  same =
      h.same
      ∙ next_untrue mode env violated number e left holds (is ∙ ap (λ o. unwrap_or (truth_of o) false) value)
      ∙ ap (λ o. first_of o (first_untrue mode env (number + 1) left)) (sym m)
      ∙ ap (λ k. first_of more (first_untrue mode env k left)) (sym n);
  numbered = omega (arith, n, h.numbered);
}

-- a condition that passes a limit
pub conditions_cause : (mode : Mode) (env : Env) (first number count : ℕ) (all : List ExprTree) (e : ExprTree) (left : List ExprTree) (violated : Option ℕ) (error : EvalError)
    → ConditionsSoFar mode env first all (e ∷ left) violated number count → IsCause (limits_of_values mode count (met mode env e)) error
    → IsCause (limits_of_values mode 0 (met_in mode env all)) error
conditions_cause mode env first number count all e left violated error h cause =
    cause_along mode 0 (h.done ++ (met mode env e ++ met_in mode env left)) (met_in mode env all) error
    (sym (h.cut ∙ ap (λ ms. h.done ++ ms) (met_in-cons mode env e left)))
    (cause_next mode 0 count h.done (met mode env e ++ met_in mode env left) error h.counted
    (cause_first mode count (met mode env e) (met_in mode env left) error cause))

no_more : (o : Option ℕ) → first_of o None ≡ o
unfolding first_of
no_more None = refl
no_more (Some n) = refl

conditions_end : (mode : Mode) (env : Env) (first number count : ℕ) (all : List ExprTree) (violated : Option ℕ) → ConditionsSoFar mode env first all [] violated number count
    → (limits_of_values mode 0 (met_in mode env all) ≡ []) × (first_untrue mode env first all ≡ violated)
unfolding met_in first_untrue
conditions_end mode env first number count all violated h =
    ((counted_along mode 0 count h.done (met_in mode env all) (sym (h.cut ∙ append-nil h.done)) h.counted).within, h.same ∙ no_more violated)

-- all conditions
pub conditions_hold : (mode : Mode) (env : Env) (first number count : ℕ) (all : List ExprTree) (violated : Option ℕ) → ConditionsSoFar mode env first all [] violated number count → violated ≡ None
    → conditions_said mode env first all ≡ Ok number
unfolding first_false unless_any
conditions_hold mode env first number count all violated h e =
    let q : _ = conditions_end mode env first number count all violated h in
    let counted : first + length all ≡ number = omega (arith, h.numbered) in
    no_limit mode (met_in mode env all) (unless_any (first_false mode env first all) (Ok (first + length all))) q.0
    ∙ ap (λ o. unless_any (option_to_list (option_map where_false o)) (Ok (first + length all))) (q.1 ∙ e)
    ∙ ap Ok counted

pub condition_violated : (mode : Mode) (env : Env) (first number count n : ℕ) (all : List ExprTree) (violated : Option ℕ) → ConditionsSoFar mode env first all [] violated number count → violated ≡ Some n
    → conditions_said mode env first all ≡ Err (where_false n ∷ [])
unfolding first_false unless_any
condition_violated mode env first number count n all violated h e =
    let q : _ = conditions_end mode env first number count all violated h in
    no_limit mode (met_in mode env all) (unless_any (first_false mode env first all) (Ok (first + length all))) q.0
    ∙ ap (λ o. unless_any (option_to_list (option_map where_false o)) (Ok (first + length all))) (q.1 ∙ e)
