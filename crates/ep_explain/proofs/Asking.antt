-- Instances with fewer clauses that are asked.
use Rattle.std.proofs.Common.{◌≡◌, ℕ, Bool, true, false, List, [], sym, ap, ◌∙◌, subst}
use Rattle.std.specs.Prelude.{None}
use Rattle.std.specs.List.{All}
use Rattle.cnf_core.specs.Events.{LogState}
use Rattle.ep_base.specs.Reads.{IsWithinNumbers}
use Rattle.ep_restrict.proofs.Fewer.{closed_fewer, limits_fewer}
use Rattle.ep_restrict.specs.Restricted.{AreClauseNumbers, restricted}
use Rattle.ep_tree.specs.Binding.{Instance}
use Rattle.ep_tree.specs.Closed.{IsClosed}
use Rattle.ep_tree.specs.Solutions.{instance_limits}
use Rattle.ep_tree.specs.declared.values.Mode.{Mode}
use Rattle.ep_tree.specs.Views.{assigned}
use Rattle.ep_tree.specs.declared.values.Assignment.{Assignment}
use Rattle.ep_explain.specs.Explained.{HasNoSolution, IsWrittenSolution}
use Rattle.ep_explain.specs.Tried.{IsRightTry, IsSpentAt, IsSpentOn, was_spent}
use Rattle.ep_explain.specs.declared.tries.Tried.{Tried}
use Rattle.ep_explain.specs.declared.tries.Tried.TheVariants.{Empty, Found, Spent}

pub asked_closed : (i r : Instance) (ns : List ℕ) → r ≡ restricted i ns → IsClosed i → IsClosed r
asked_closed i r ns is closed = subst IsClosed (sym is) (closed_fewer i ns closed)

pub asked_within : (mode m : Mode) (i r : Instance) (ns : List ℕ) → r ≡ restricted i ns → m ≡ mode → AreClauseNumbers i ns → instance_limits mode i ≡ []
    → instance_limits m r ≡ []
asked_within mode m i r ns is same are within =
    ap (λ k. instance_limits k r) same ∙ ap (instance_limits mode) is ∙ limits_fewer mode i ns are within

pub asked_values : (i r : Instance) (ns : List ℕ) → r ≡ restricted i ns → All (λ f. All IsWithinNumbers f.values) i.finds → All (λ f. All IsWithinNumbers f.values) r.finds
asked_values i r ns is values = subst (λ (x : Instance). All (λ f. All IsWithinNumbers f.values) x.finds) (sym is) values

pub asked_plain : (i r : Instance) (ns : List ℕ) → r ≡ restricted i ns → r.goal ≡ None
asked_plain i r ns is = ap (λ (x : Instance). x.goal) is

pub told : (mode m : Mode) (i r : Instance) (ns : List ℕ) (budget : ℕ) (log : LogState) (tried : Tried) → r ≡ restricted i ns → m ≡ mode
    → IsRightTry m r budget log tried → IsRightTry mode (restricted i ns) budget log tried
told mode m i r ns budget log tried is same right =
    subst (λ x. IsRightTry mode x budget log tried) is (subst (λ k. IsRightTry k r budget log tried) same right)

-- ---- what a right attempt says

pub found_shown : (mode : Mode) (i : Instance) (budget : ℕ) (log : LogState) (tried : Tried) (a : Assignment) → tried ≡ Found a
    → IsRightTry mode i budget log tried → IsWrittenSolution mode i (assigned a)
unfolding IsRightTry
found_shown mode i budget log tried a is right = subst (IsRightTry mode i budget log) is right

pub empty_none : (mode : Mode) (i : Instance) (budget : ℕ) (log : LogState) (tried : Tried) → tried ≡ Empty
    → IsRightTry mode i budget log tried → HasNoSolution mode i
unfolding IsRightTry
empty_none mode i budget log tried is right = subst (IsRightTry mode i budget log) is right

pub spent_on : (mode : Mode) (i : Instance) (budget : ℕ) (log : LogState) (tried : Tried) → tried ≡ Spent
    → IsRightTry mode i budget log tried → IsSpentOn mode i budget log
unfolding IsRightTry
spent_on mode i budget log tried is right = subst (IsRightTry mode i budget log) is right

-- the conflicts were spent with the clauses of these numbers
pub spent_at : (mode : Mode) (i : Instance) (ns ms : List ℕ) (budget : ℕ) (log : LogState) (tried : Tried) → ns ≡ ms → AreClauseNumbers i ns → tried ≡ Spent
    → IsRightTry mode (restricted i ns) budget log tried → IsSpentAt mode i budget log ms
spent_at mode i ns ms budget log tried same are is right =
    subst (IsSpentAt mode i budget log) same (are, spent_on mode (restricted i ns) budget log tried is right)

-- ---- whether the conflicts were spent

pub found_unspent : (s : Bool) (tried : Tried) (a : Assignment) → s ≡ was_spent tried → tried ≡ Found a → s ≡ false
unfolding was_spent
found_unspent s tried a spent is = spent ∙ ap was_spent is

pub empty_unspent : (s : Bool) (tried : Tried) → s ≡ was_spent tried → tried ≡ Empty → s ≡ false
unfolding was_spent
empty_unspent s tried spent is = spent ∙ ap was_spent is

pub spent_spent : (s : Bool) (tried : Tried) → s ≡ was_spent tried → tried ≡ Spent → s ≡ true
unfolding was_spent
spent_spent s tried spent is = spent ∙ ap was_spent is
