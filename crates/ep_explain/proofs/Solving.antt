-- Answers of instances without an objective.
use Rattle.std.proofs.Common.{◌≡◌, ℕ, sym, ap, ◌∙◌, subst}
use Rattle.std.specs.Prelude.{ℤ, None, Option, Some, option_and_then}
use Rattle.cnf_core.specs.Events.{LogState}
use Rattle.ep_print.specs.Answers.{AreTyped, HasTypedValues, answer_tree, optimum, solution, unknown, unknown_tree, unknown_with}
use Rattle.ep_print.specs.declared.answers.Answer.{Answer}
use Rattle.ep_print.specs.declared.answers.Answer.TheVariants.{NoSolution, Optimum, Solution, Unknown}
use Rattle.ep_solve.specs.Logged.{IsLogged}
use Rattle.ep_solve.specs.Right.{HasGoal, IsRight}
use Rattle.ep_tree.specs.Binding.{Instance}
use Rattle.ep_tree.specs.Evaluation.{evaluate, number_in}
use Rattle.ep_tree.specs.Solutions.{Assigned, found_of, goal_value, under}
use Rattle.ep_tree.specs.Views.{assigned}
use Rattle.ep_tree.specs.declared.values.Assignment.{Assignment}
use Rattle.ep_tree.specs.declared.values.Mode.{Mode}
use Rattle.ep_explain.specs.Explained.{IsWrittenSolution}
use Rattle.ep_explain.specs.Tried.{IsRightTry}
use Rattle.ep_explain.specs.declared.tries.Tried.TheVariants.{Empty, Found, Spent}

no_goal : (mode : Mode) (i : Instance) (a : Assigned) (value : ℤ) → i.goal ≡ None → HasGoal mode i a value → ⊥
unfolding goal_value
no_goal mode i a value none has =
    let nothing : option_and_then (λ goal. number_in (evaluate mode (under i (found_of a)) goal.1)) i.goal ≡ None =
    ap (option_and_then (λ goal. number_in (evaluate mode (under i (found_of a)) goal.1))) none in
    let bad : Some value ≡ None = sym has ∙ nothing in
    absurd cc

pub no_optimum : (mode : Mode) (i : Instance) (budget : ℕ) (value : ℤ) (a : Assigned) → i.goal ≡ None → IsRight mode i budget (optimum value a) → ⊥
unfolding IsRight
no_optimum mode i budget value a none right = no_goal mode i a value none right.2

pub no_incumbent : (mode : Mode) (i : Instance) (budget conflicts : ℕ) (value : ℤ) (a : Assigned) → i.goal ≡ None → IsRight mode i budget (unknown_with conflicts value a) → ⊥
unfolding IsRight
no_incumbent mode i budget conflicts value a none right = no_goal mode i a value none right.3

pub is_shown : (mode : Mode) (i : Instance) (budget : ℕ) (a : Assigned) → IsRight mode i budget (solution a) → AreTyped a → IsWrittenSolution mode i a
unfolding IsRight
is_shown mode i budget a right typed = record { solves = right.2; written = right.1; typed = typed }

pub is_spent_on : (mode : Mode) (i : Instance) (budget conflicts : ℕ) (log : LogState) → IsRight mode i budget (unknown conflicts)
    → IsLogged mode i budget log (unknown conflicts) → IsLogged mode i budget log (unknown budget)
unfolding IsRight
is_spent_on mode i budget conflicts log right logged = subst (λ n. IsLogged mode i budget log (unknown n)) right logged

-- ---- the code's answers

pub found_right : (mode : Mode) (i : Instance) (budget : ℕ) (log : LogState) (answer : Answer) (a : Assignment) → answer ≡ Solution a
    → IsRight mode i budget (answer_tree answer) → HasTypedValues (answer_tree answer) → IsRightTry mode i budget log (Found a)
unfolding IsRightTry answer_tree
found_right mode i budget log answer a is right typed =
    is_shown mode i budget (assigned a) (subst (λ x. IsRight mode i budget (answer_tree x)) is right) (subst (λ x. HasTypedValues (answer_tree x)) is typed)

pub empty_right : (mode : Mode) (i : Instance) (budget : ℕ) (log : LogState) (answer : Answer) → answer ≡ NoSolution
    → IsRight mode i budget (answer_tree answer) → IsRightTry mode i budget log Empty
unfolding IsRightTry answer_tree IsRight
empty_right mode i budget log answer is right = subst (λ x. IsRight mode i budget (answer_tree x)) is right

spent_plain : (mode : Mode) (i : Instance) (budget conflicts : ℕ) (log : LogState) (answer : Answer) → answer ≡ Unknown conflicts None
    → IsRight mode i budget (answer_tree answer) → IsLogged mode i budget log (answer_tree answer) → IsRightTry mode i budget log Spent
unfolding IsRightTry answer_tree unknown_tree
spent_plain mode i budget conflicts log answer is right logged =
    is_spent_on mode i budget conflicts log (subst (λ x. IsRight mode i budget (answer_tree x)) is right) (subst (λ x. IsLogged mode i budget log (answer_tree x)) is logged)

never_incumbent : (mode : Mode) (i : Instance) (budget conflicts : ℕ) (answer : Answer) (found : ℤ × Assignment) → i.goal ≡ None → answer ≡ Unknown conflicts (Some found)
    → IsRight mode i budget (answer_tree answer) → ⊥
unfolding answer_tree unknown_tree
never_incumbent mode i budget conflicts answer found none is right =
    no_incumbent mode i budget conflicts found.0 (assigned found.1) none (subst (λ x. IsRight mode i budget (answer_tree x)) is right)

pub spent_right : (mode : Mode) (i : Instance) (budget conflicts : ℕ) (log : LogState) (answer : Answer) (o : Option (ℤ × Assignment)) → i.goal ≡ None
    → answer ≡ Unknown conflicts o → IsRight mode i budget (answer_tree answer) → IsLogged mode i budget log (answer_tree answer) → IsRightTry mode i budget log Spent
spent_right mode i budget conflicts log answer None none is right logged = spent_plain mode i budget conflicts log answer is right logged
spent_right mode i budget conflicts log answer (Some found) none is right logged = absurd (never_incumbent mode i budget conflicts answer found none is right)

pub never_optimum : (mode : Mode) (i : Instance) (budget : ℕ) (answer : Answer) (value : ℤ) (a : Assignment) → i.goal ≡ None → answer ≡ Optimum value a
    → IsRight mode i budget (answer_tree answer) → ⊥
unfolding answer_tree
never_optimum mode i budget answer value a none is right =
    no_optimum mode i budget value (assigned a) none (subst (λ x. IsRight mode i budget (answer_tree x)) is right)
