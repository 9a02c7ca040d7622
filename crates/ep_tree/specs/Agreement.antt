-- Environments that agree but for decision variables: where one has the cells of a decision variable, the other has a
-- value that fits them. What the first one tells of an expression holds of its values in the second.
use Rattle.std.specs.Prelude.{◌≡◌, false, true, [], length, Some, Option}
use Rattle.ep_base.specs.Intervals.{LiesIn}
use Rattle.ep_base.specs.Numbers.{has_number}
use Rattle.ep_base.specs.declared.names.Name.{Name}
use Rattle.ep_tree.specs.Environments.{Bound, Env, context_of, has_cells, has_value, shape_type}
use Rattle.ep_tree.specs.Evaluation.{domain_values, evaluate}
use Rattle.ep_tree.specs.Faults.{domain_faults, faults}
use Rattle.ep_tree.specs.Measures.{met}
use Rattle.ep_tree.specs.Reach.{Extent, Span, decisions_in, extent, holds_decision}
use Rattle.ep_tree.specs.Trees.{DomainTree, ExprTree}
use Rattle.ep_tree.specs.TypedValues.{IsTypedEnv}
use Rattle.ep_tree.specs.Types.{judge}
use Rattle.ep_tree.specs.Values.{Grids, ValueTree, ValueTrees, fitted, matrix, no_values, single, value_and}
use Rattle.ep_tree.specs.declared.values.Mode.{Mode}

-- what two environments say of one name agrees: they say the same, or the first has cells that the second's value fits
abbrev pub AgreeOn : Option Bound → Option Bound → Type 0
AgreeOn (Some (has_cells s indices values)) other =
    (v : ValueTree)
    × (other ≡ Some (has_value (shape_type s indices) v))
    × (fitted s s (has_number values) indices v ≡ Some v)
AgreeOn one other = one ≡ other

-- two environments agree but for decision variables
abbrev pub Agree : Env → Env → Type 0
Agree cells values = (name : Name) → AgreeOn (cells name) (values name)

-- Two environments that agree, of typed names, and an expression without a fault in the first one, in which decision
-- variables may stand.
pub record Agreed (cells values : Env) (e : ExprTree) : Type 0 where
  pub agree : Agree cells values
  pub typed : IsTypedEnv values
  pub faultless : faults (context_of cells) true e ≡ []

-- a value lies in what is known of an expression: it has its shape, and each number lies in its reach
abbrev mutual
  pub LiesWithin : ValueTree → Extent → Type 0
  LiesWithin (single n) (single s) = LiesIn n s.reach
  LiesWithin (single n) (matrix js xs) = ⊥
  LiesWithin (matrix is vs) (single s) = ⊥
  LiesWithin (matrix is vs) (matrix js xs) = (is ≡ js) × LieWithin vs xs

  -- the same of each part
  pub LieWithin : ValueTrees → Grids Span → Type 0
  LieWithin no_values no_values = Unit {0}
  LieWithin no_values (value_and x xs) = ⊥
  LieWithin (value_and v vs) no_values = ⊥
  LieWithin (value_and v vs) (value_and x xs) = LiesWithin v x × LieWithin vs xs

-- an expression has one type, whether a decision variable has cells or a value
abbrev pub TypeIsKept : Type 0
TypeIsKept =
    (cells values : Env) → Agree cells values → (e : ExprTree)
    → judge (context_of cells) e ≡ judge (context_of values) e

-- what holds no decision variable has one value
abbrev pub FixedValueIsKept : Type 0
FixedValueIsKept =
    (mode : Mode) (cells values : Env) (e : ExprTree) → Agreed cells values e
    → holds_decision (decisions_in cells) e ≡ false → evaluate mode cells e ≡ evaluate mode values e

-- a domain, in which no decision variable may stand, has one list of numbers
abbrev pub DomainIsKept : Type 0
DomainIsKept =
    (mode : Mode) (cells values : Env) → Agree cells values → (d : DomainTree)
    → domain_faults (context_of cells) false d ≡ [] → domain_values mode cells d ≡ domain_values mode values d

-- an expression meets as many nodes
abbrev pub MeetsAsMany : Type 0
MeetsAsMany =
    (mode : Mode) (cells values : Env) (e : ExprTree) → Agreed cells values e
    → length (met mode cells e) ≡ length (met mode values e)

-- a value that is defined lies in what is known of its expression
abbrev pub ValueLiesWithin : Type 0
ValueLiesWithin =
    (mode : Mode) (cells values : Env) (e : ExprTree) → Agreed cells values e
    → (v : ValueTree) → evaluate mode values e ≡ Some v → LiesWithin v (extent mode cells e)
