-- What a running fold keeps of the numbers that were folded, and when a fold is refused.
use Rattle.std.specs.Prelude.{◌≡◌, Bool, true, false, List, [], ◌∷◌, ◌++◌, map, length, fold, int_lt, pos, Result, Ok, Err}
use Rattle.std.specs.List.{list_any}
use Rattle.ep_base.specs.Intervals.{Interval, farthest_end, greatest_interval, least_interval, only, product_interval, products_interval}
use Rattle.ep_base.specs.Reads.{MOST_NUMBER, is_too_far}
use Rattle.ep_base.specs.declared.operators.Limit.{Limit as LimitName}
use Rattle.ep_tree.specs.Measures.{a_node, farthest_of, first_products, folded_weight, folding_weight, reaches_at, weight_at}
use Rattle.ep_tree.specs.Reach as defined
use Rattle.ep_tree.specs.Reach.{decisions_in, extent, folded_span, holds_decision, reaches}
use Rattle.ep_tree.specs.Environments.{Env}
use Rattle.ep_tree.specs.Trees.{ExprTree}
use Rattle.ep_tree.specs.Values.{single}
use Rattle.ep_tree.specs.declared.values.Mode.{Mode}
use Rattle.ep_tree.specs.declared.syntax.FoldOp.{FoldOp}
use Rattle.ep_size.specs.Extents.{plain_span}
use Rattle.ep_numbers.specs.Spans.{interval_of}
use Rattle.ep_size.specs.Sums.{Sums}
use Rattle.ep_size.specs.Totals.{capped}
use Rattle.ep_size.specs.declared.errors.SizeError.{SizeError}
use Rattle.ep_size.specs.declared.errors.SizeError.TheVariants.{Limit, Memory}
use Rattle.ep_size.specs.declared.extents.Span.{Span}
use Rattle.ep_size.specs.declared.folds.Chosen.{Chosen}
use Rattle.ep_size.specs.declared.folds.Folding.{Folding}
use Rattle.ep_size.specs.declared.folds.Folding.TheVariants.{Sum, Product, Truth, Least, Greatest}
use Rattle.ep_size.specs.declared.folds.Multiplied.{Multiplied}

-- the lesser of two numbers
abbrev pub lesser : Interval → Interval → Interval
lesser i j = least_interval (i ∷ j ∷ [])

-- the greater of two numbers
abbrev pub greater : Interval → Interval → Interval
greater i j = greatest_interval (i ∷ j ∷ [])

-- numbers are folded by a step from the first of them on, and weighed
pub record Begun (step : Interval → Interval → Interval) (t : Chosen) (s : defined.Span) (spans : List defined.Span) : Type 0 where
  pub started : t.started ≡ true
  pub reach : interval_of t.ends ≡ fold step s.reach (reaches spans)
  pub weight : t.weight ≡ capped (folding_weight step s.reach spans)

-- no number is folded yet
pub record NotBegun (t : Chosen) : Type 0 where
  pub started : t.started ≡ false
  pub reach : interval_of t.ends ≡ only (pos 0)
  pub weight : t.weight ≡ 0

-- some numbers are folded by a step
unfoldable pub Chooses : (Interval → Interval → Interval) → Chosen → List defined.Span → Type 0
Chooses step t [] = NotBegun t
Chooses step t (s ∷ spans) = Begun step t s spans

-- whether an interval reaches too far
abbrev pub is_far_reach : Interval → Bool
is_far_reach i = is_too_far (farthest_end i)

-- some numbers are multiplied, and no product of the first of them reaches too far
pub record Multiplies (t : Multiplied) (spans : List defined.Span) : Type 0 where
  pub whole : interval_of t.whole ≡ products_interval (reaches spans)
  pub near : list_any is_far_reach (first_products (only (pos 1)) (reaches spans)) ≡ false
  pub weighed : Chooses product_interval t.chosen spans

-- some numbers are folded by an operation
unfoldable pub Folds : Folding → FoldOp → List defined.Span → Type 0
Folds (Sum t) FoldOp.Sum spans = Sums t spans
Folds (Product t) FoldOp.Product spans = Multiplies t spans
Folds (Truth parts) FoldOp.And spans = parts ≡ capped (length spans)
Folds (Truth parts) FoldOp.Or spans = parts ≡ capped (length spans)
Folds (Least t) FoldOp.Min spans = Chooses lesser t spans
Folds (Greatest t) FoldOp.Max spans = Chooses greater t spans
Folds _ _ spans = ⊥

-- the reaches of folded numbers: of the whole, and at a `product` those of its first parts together
unfoldable pub fold_reaches : FoldOp → List defined.Span → List Interval
fold_reaches FoldOp.Product spans =
    (folded_span FoldOp.Product spans).reach ∷ [] ++ first_products (only (pos 1)) (reaches spans)
fold_reaches op spans = (folded_span op spans).reach ∷ []

-- whether folded numbers reach too far
abbrev pub is_far_fold : FoldOp → List defined.Span → Bool
is_far_fold op spans = int_lt MOST_NUMBER (farthest_of (map farthest_end (fold_reaches op spans)))

-- a fold that is refused reaches too far
abbrev pub RefusesFold : SizeError → FoldOp → List defined.Span → Type 0
RefusesFold (Limit l) op spans = (l ≡ LimitName.Reach) × (is_far_fold op spans ≡ true)
RefusesFold Memory op spans = Unit {0}

-- what is known of folded numbers, unless they reach too far
abbrev pub GivesFold : Result Span SizeError → FoldOp → List defined.Span → Type 0
GivesFold (Ok own) op spans = (plain_span own ≡ folded_span op spans) × (is_far_fold op spans ≡ false)
GivesFold (Err e) op spans = RefusesFold e op spans

-- A node that holds a decision variable and is a number that others are folded into. It reaches as far as they do
-- together, and at a `product` as far as the first of them do.
pub record IsFoldNode (mode : Mode) (env : Env) (e : ExprTree) (op : FoldOp) (spans : List defined.Span) : Type 0 where
  pub reaches : reaches_at mode (a_node env e) ≡ fold_reaches op spans
  pub value : extent mode env e ≡ single (folded_span op spans)
  pub holds : holds_decision (decisions_in env) e ≡ true
  pub weight : weight_at mode (a_node env e) ≡ folded_weight op spans
