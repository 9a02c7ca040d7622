-- Nodes that hold a decision variable and are numbers.
use Rattle.ep_size.proofs.Words.{◌≡◌, ℕ, Bool, true, false, [], ◌∷◌, refl, sym, ap, subst, ◌∙◌, Err, Result, if◌then◌else◌, Interval, farthest_end, product_interval, is_too_far, Env, a_node, number_reach, decisions_in, holds_decision, product_span, wide_span, with_spread, ExprTree, single, Mode, TellsValue, grid_of, plain_span, Added, Finished, Finishes, Gives, IsNumberNode, is_far, Keeps, SizeError, Limit, Memory}
use Rattle.ep_tree.specs.Reach as defined
use Rattle.ep_size.proofs.Measurings.{near_alone}
use Rattle.ep_size.specs.declared.extents.Extent.{Extent}
use Rattle.ep_size.specs.declared.extents.Extent.TheVariants.{Number}
use Rattle.ep_size.specs.declared.extents.Span.{Span}

-- ---- a node that is a number

-- a number alone reaches as far as it does
pub number_far : (mode : Mode) (env : Env) (e : ExprTree) (w : ℕ) (s : defined.Span) → IsNumberNode mode env e w s
    → is_far mode (a_node env e ∷ []) ≡ is_too_far (farthest_end s.reach)
unfolding number_reach is_too_far
number_far mode env e w s h = near_alone mode (a_node env e) s.reach (h.plain ∙ ap number_reach h.value)

pub number_finished : (mode : Mode) (env : Env) (e : ExprTree) (w : ℕ) (s : defined.Span) (a b : ℕ) (own : Span) → IsNumberNode mode env e w s
    → plain_span own ≡ s → is_too_far (farthest_end s.reach) ≡ false → Added a b w → Finished mode env e a b (Number own)
unfolding grid_of TellsValue
number_finished mode env e w s a b own h same near added = record {
  near = number_far mode env e w s h ∙ near;
  known = record { extent = h.value ∙ ap single (sym same); value = h.holds };
  added = subst (λ n. Added a b n) (sym h.weight) added;
}

pub number_refused : (mode : Mode) (env : Env) (e : ExprTree) (w : ℕ) (s : defined.Span) (a b : ℕ) (error : SizeError) → IsNumberNode mode env e w s
    → Gives (Err error) s → Finishes mode env e a b (Err error)
number_refused mode env e w s a b (Limit l) h g = (g.0, number_far mode env e w s h ∙ g.1)
number_refused mode env e w s a b Memory h g = tt

-- ---- a node by another tree of it

-- what finishes an expression finishes it under another tree of it
pub finished_at : (mode : Mode) (env : Env) (s t : ExprTree) (a b : ℕ) (made : Result Extent SizeError) → s ≡ t → holds_decision (decisions_in env) s ≡ true
    → (holds_decision (decisions_in env) t ≡ true → Finishes mode env t a b made) → Finishes mode env s a b made
finished_at mode env s t a b made same held f =
    subst (λ e. Finishes mode env e a b made) (sym same) (f (subst (λ e. holds_decision (decisions_in env) e ≡ true) same held))

-- ---- ends that are kept

-- ends that aren't kept refuse a number with this reach
pub err_gives : (s : defined.Span) (i : Interval) (e : SizeError) → s.reach ≡ i → Keeps i (Err e) → Gives (Err e) s
err_gives s i (Limit l) same k = (k.0, ap (λ j. is_too_far (farthest_end j)) same ∙ k.1)
err_gives s i Memory same k = tt

-- the reach of a product
pub product_reach : (s t : defined.Span) → (product_span s t).reach ≡ product_interval s.reach t.reach
unfolding product_span with_spread wide_span
product_reach s t = go s.decided t.decided
  where
    go : (a b : Bool)
        → (if a then (if b then wide_span (product_interval s.reach t.reach) else with_spread s.spread (wide_span (product_interval s.reach t.reach)))
        else with_spread t.spread (wide_span (product_interval s.reach t.reach))).reach ≡ product_interval s.reach t.reach
    go true true = refl
    go true false = refl
    go false b = refl
