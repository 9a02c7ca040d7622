-- Expressions without decision variables: laws, as statements.
use Rattle.std.specs.Prelude.{◌≡◌, false, [], Some}
use Rattle.ep_tree.specs.Agreement.{Agreed, LiesWithin}
use Rattle.ep_tree.specs.Environments.{Env, context_of}
use Rattle.ep_tree.specs.Evaluation.{evaluate}
use Rattle.ep_tree.specs.Faults.{faults}
use Rattle.ep_tree.specs.Reach.{decisions_in, extent, holds_decision}
use Rattle.ep_tree.specs.Trees.{ExprTree}
use Rattle.ep_tree.specs.Values.{ValueTree}
use Rattle.ep_tree.specs.declared.values.Mode.{Mode}

-- where no decision variable may stand, an expression without a fault holds none
abbrev pub FaultlessHoldsNone : Type 0
FaultlessHoldsNone =
    (env : Env) (e : ExprTree) → faults (context_of env) false e ≡ [] → holds_decision (decisions_in env) e ≡ false

-- a value that is defined lies in what is known of its expression, where that holds no decision variable
abbrev pub FixedLiesWithin : Type 0
FixedLiesWithin =
    (mode : Mode) (cells values : Env) (e : ExprTree) → Agreed cells values e
    → holds_decision (decisions_in cells) e ≡ false
    → (v : ValueTree) → evaluate mode values e ≡ Some v → LiesWithin v (extent mode cells e)
