-- What a node that holds a decision variable adds to what its parts give, and when it is refused itself.
use Rattle.std.specs.Prelude.{◌≡◌, ℕ, ◌+◌, Bool, true, false, [], ◌∷◌, int_lt, Result, Ok, Err}
use Rattle.ep_base.specs.Intervals.{farthest_end}
use Rattle.ep_base.specs.Reads.{MOST_NUMBER, is_too_far}
use Rattle.ep_base.specs.declared.operators.Limit.{Limit as LimitName}
use Rattle.ep_tree.specs.Environments.{Env}
use Rattle.ep_tree.specs.Measures.{a_node, farthest_reach, number_reach, reaches_at, weight_at}
use Rattle.ep_tree.specs.Reach as defined
use Rattle.ep_tree.specs.Reach.{decisions_in, extent, holds_decision}
use Rattle.ep_tree.specs.Trees.{ExprTree}
use Rattle.ep_tree.specs.Values.{single}
use Rattle.ep_tree.specs.declared.values.Mode.{Mode}
use Rattle.ep_size.specs.Extents.{IsKnownExtent, plain_span}
use Rattle.ep_size.specs.Totals.{capped}
use Rattle.ep_size.specs.declared.errors.SizeError.{SizeError}
use Rattle.ep_size.specs.declared.errors.SizeError.TheVariants.{Limit, Memory}
use Rattle.ep_size.specs.declared.extents.Extent.{Extent}
use Rattle.ep_size.specs.declared.extents.Span.{Span}

-- what is known of a number, unless it reaches too far
abbrev pub Gives : Result Span SizeError → defined.Span → Type 0
Gives (Ok own) s = (plain_span own ≡ s) × (is_too_far (farthest_end s.reach) ≡ false)
Gives (Err (Limit l)) s = (l ≡ LimitName.Reach) × (is_too_far (farthest_end s.reach) ≡ true)
Gives (Err Memory) s = Unit {0}

-- whether a node alone passes the limit of reach
abbrev pub is_far_node : Mode → Env → ExprTree → Bool
is_far_node mode env e = int_lt MOST_NUMBER (farthest_reach mode (a_node env e ∷ []))

-- a node that holds a decision variable and is a number, which reaches no further than it; with its weight
pub record IsNumberNode (mode : Mode) (env : Env) (e : ExprTree) (w : ℕ) (s : defined.Span) : Type 0 where
  pub plain : reaches_at mode (a_node env e) ≡ number_reach (extent mode env e)
  pub value : extent mode env e ≡ single s
  pub holds : holds_decision (decisions_in env) e ≡ true
  pub weight : weight_at mode (a_node env e) ≡ w

-- a node that holds a decision variable and weighs nothing, of which this is known
pub record IsLightNode (mode : Mode) (env : Env) (e : ExprTree) (x : Extent) : Type 0 where
  pub plain : reaches_at mode (a_node env e) ≡ number_reach (extent mode env e)
  pub known : IsKnownExtent mode env e x
  pub holds : holds_decision (decisions_in env) e ≡ true
  pub weight : weight_at mode (a_node env e) ≡ 0

-- a weight is added, as far as a weight is told
abbrev pub Added : ℕ → ℕ → ℕ → Type 0
Added before after own = capped after ≡ capped (before + own)

-- a node is near, is known, and is weighed
pub record Finished (mode : Mode) (env : Env) (e : ExprTree) (before after : ℕ) (x : Extent) : Type 0 where
  pub near : is_far_node mode env e ≡ false
  pub known : IsKnownExtent mode env e x
  pub added : Added before after (weight_at mode (a_node env e))

-- a node is finished, or it is refused since it reaches too far
abbrev pub Finishes : Mode → Env → ExprTree → ℕ → ℕ → Result Extent SizeError → Type 0
Finishes mode env e before after (Ok x) = Finished mode env e before after x
Finishes mode env e before after (Err (Limit l)) = (l ≡ LimitName.Reach) × (is_far_node mode env e ≡ true)
Finishes mode env e before after (Err Memory) = Unit {0}
