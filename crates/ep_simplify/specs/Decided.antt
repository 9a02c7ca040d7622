-- What numbers and intervals decide, and which nodes they decide nothing about.
use Rattle.std.specs.Prelude.{◌≡◌, ◌≢◌, ℕ, ◌<◌, Bool, List, [], ◌∷◌, length, ℤ, ◌≤ℤ◌, IsSome, Option, None, Some, option_and_then, slice_get}
use Rattle.std.specs.List.{All}
use Rattle.ep_base.specs.Intervals.{Interval, LiesIn, only, truth_interval}
use Rattle.ep_base.specs.Numbers.{compare_holds, has_number}
use Rattle.ep_base.specs.Runs.{IsIn}
use Rattle.ep_base.specs.declared.operators.CompareOp.{CompareOp}
use Rattle.ep_base.specs.declared.run_lists.Run.{Run}
use Rattle.ep_ground.specs.Bounds.{term_reach}
use Rattle.ep_ground.specs.Grounds.{GroundState}
use Rattle.ep_ground.specs.Nodes.{GroundNode, constant, least, greatest, safe_pick, compare, member, negation, all_of, any_of, same_truth}
use Rattle.ep_reach.specs.Narrowing.{IsNarrower}

-- the number that a node is alone
unfoldable pub constant_of : GroundNode → Option ℤ
constant_of (constant n) = Some n
constant_of _ = None

-- the number that a term is alone
unfoldable pub lone_number : List GroundNode → ℕ → Option ℤ
lone_number nodes t = option_and_then constant_of (slice_get nodes t)

-- a term is a number alone
abbrev pub IsNumber : List GroundNode → ℕ → Type 0
IsNumber nodes t = IsSome (lone_number nodes t)

-- a term is a comparison
abbrev pub IsComparing : List GroundNode → ℕ → Type 0
IsComparing nodes t = (op : CompareOp) × (a : ℕ) × (b : ℕ) × (slice_get nodes t ≡ Some (compare op a b))

-- a comparison of any number of the one interval with any of the other has this truth value
abbrev pub Decides : CompareOp → Interval → Interval → Bool → Type 0
Decides op i j holds = (m n : ℤ) → LiesIn m i → LiesIn n j → compare_holds op m n ≡ holds

-- a run has no number of an interval
abbrev pub LacksAll : Interval → Run → Type 0
LacksAll i run = (n : ℤ) → LiesIn n i → IsIn n run → ⊥

-- an interval has a number
abbrev pub IsNotEmpty : Interval → Type 0
IsNotEmpty i = i.low ≤ℤ i.high

-- whether a number of the interval is one of these numbers has this truth value, whichever it is
abbrev pub DecidesMember : Interval → List ℤ → Bool → Type 0
DecidesMember i ns holds = (n : ℤ) → LiesIn n i → has_number ns n ≡ holds

-- an interval has no number but 0 and 1
abbrev pub IsOfTruths : Interval → Type 0
IsOfTruths i = IsNarrower i truth_interval

-- Numbers alone among its parts decide nothing about a node: a comparison is of two different terms, of which one isn't a number alone,
-- an "if and only if" likewise, a membership isn't of a number alone, an "and" and an "or" have a part and none that is a number alone,
-- a negation is neither of a number alone nor of a comparison, a least and a greatest aren't of one part, and of the indices of a pick
-- one isn't a number alone.
unfoldable pub IsOpen : List GroundNode → GroundNode → Type 0
IsOpen nodes (compare op a b) = (a ≢ b) × (IsNumber nodes a → IsNumber nodes b → ⊥)
IsOpen nodes (same_truth a b) = (a ≢ b) × (IsNumber nodes a → IsNumber nodes b → ⊥)
IsOpen nodes (member a ns) = IsNumber nodes a → ⊥
IsOpen nodes (all_of ts) = (ts ≢ []) × All (λ t. IsNumber nodes t → ⊥) ts
IsOpen nodes (any_of ts) = (ts ≢ []) × All (λ t. IsNumber nodes t → ⊥) ts
IsOpen nodes (negation a) = (IsNumber nodes a → ⊥) × (IsComparing nodes a → ⊥)
IsOpen nodes (least ts) = length ts ≢ 1
IsOpen nodes (greatest ts) = length ts ≢ 1
IsOpen nodes (safe_pick ts keys indices) = All (IsNumber nodes) indices → ⊥
IsOpen nodes _ = Unit {0}

-- How far its parts reach tells nothing about a node: a comparison or a membership doesn't hold of all numbers in the reaches of its
-- parts, nor of none; and what is negated twice, the one part of an "and" or an "or", and what stands beside a number alone in an "if
-- and only if", reaches some other number than 0 and 1.
unfoldable pub IsUntoldBy : List GroundNode → (ℕ → Interval) → GroundNode → Type 0
IsUntoldBy nodes reach (compare op a b) = (holds : Bool) → Decides op (reach a) (reach b) holds → ⊥
IsUntoldBy nodes reach (member a ns) = (holds : Bool) → DecidesMember (reach a) ns holds → ⊥
IsUntoldBy nodes reach (negation a) = (x : ℕ) → slice_get nodes a ≡ Some (negation x) → IsOfTruths (reach x) → ⊥
IsUntoldBy nodes reach (all_of ts) = (t : ℕ) → ts ≡ t ∷ [] → IsOfTruths (reach t) → ⊥
IsUntoldBy nodes reach (any_of ts) = (t : ℕ) → ts ≡ t ∷ [] → IsOfTruths (reach t) → ⊥
IsUntoldBy nodes reach (same_truth a b) = (IsNumber nodes a → IsOfTruths (reach b) → ⊥) × (IsNumber nodes b → IsOfTruths (reach a) → ⊥)
IsUntoldBy nodes reach _ = Unit {0}

-- each term of a ground that reaches one number alone is that number
abbrev pub AreFolded : GroundState → Type 0
AreFolded g = (t : ℕ) (n : ℤ) → t < length g.nodes → term_reach g.nodes g.cells t ≡ only n → slice_get g.nodes t ≡ Some (constant n)

-- how far the terms of a ground reach tells nothing about any of its nodes
abbrev pub AreUntold : GroundState → Type 0
AreUntold g = All (IsUntoldBy g.nodes (term_reach g.nodes g.cells)) g.nodes
