-- Ends of intervals, and how intervals cover the reaches of nodes.
use Rattle.std.specs.Prelude.{◌≡◌, ℕ, zero, suc, ◌+◌, ◌<◌, ◌≤◌, List, [], ◌∷◌, length, map, drop, ℤ, pos, negsuc, ◌+ℤ◌, ◌*ℤ◌, ◌≤ℤ◌, if◌then◌else◌, neg_ℤ, nat_abs, fold, get_or, slice_index_or, refl}
use Rattle.std.specs.Int.{int_max, int_min}
use Rattle.std.proofs.Common.{ap, arith, subst, sym, ◌∙◌}
use Rattle.std.proofs.lemmas.Int.{ints}
use Rattle.ep_base.specs.Intervals.{Interval, IsWithinReach, from_to, greatest_or_zero, has_zero, highs, least_or_zero, lows, nth_power_interval, only, spanned, sum_interval}
use Rattle.ep_base.specs.Numbers.{absolute_of, greatest_of, least_of, nth_power, sum_of}
use Rattle.ep_numbers.proofs.Ends.{high_parts, low_parts}
use Rattle.ep_flatten.specs.Building.{Covers, HasSmall, span_at}
use Rattle.ep_ground.specs.Bounds.{node_reach}
use Rattle.ep_ground.specs.Nodes.{GroundNode}
use Rattle.ep_ground.specs.declared.cells.Cell.{Cell}

-- an interval that covers what has the reach covers the reach
pub covered : (node : GroundNode) (cells : List Cell) (spans : List Interval) (wide i : Interval) → IsWithinReach i → HasSmall wide i → wide ≡ node_reach cells (span_at spans) node → Covers cells spans node i
covered node cells spans wide i small holds e = record { small = small; holds = subst (λ r. HasSmall r i) e holds }

pub covered_wider : (node : GroundNode) (cells : List Cell) (spans : List Interval) (wide i : Interval) → IsWithinReach i → HasSmall wide i → HasSmall (node_reach cells (span_at spans) node) wide → Covers cells spans node i
covered_wider node cells spans wide i small holds h = record { small = small; holds = λ n l k. holds n (h n l k) k }

kept_low : (a n : ℤ) → a ≤ℤ n → neg_ℤ (pos 1099511627776) ≤ℤ n → int_max (neg_ℤ (pos 1099511627776)) (int_min a (pos 1099511627776)) ≤ℤ n
kept_low a n h k = grind (arith, ints, h, k)

kept_high : (a n : ℤ) → n ≤ℤ a → n ≤ℤ pos 1099511627776 → n ≤ℤ int_max (neg_ℤ (pos 1099511627776)) (int_min a (pos 1099511627776))
kept_high a n h k = grind (arith, ints, h, k)

-- what is clamped has each small number
pub clamped_has : (low high kept_l kept_h : ℤ) → kept_l ≡ int_max (neg_ℤ (pos 1099511627776)) (int_min low (pos 1099511627776)) → kept_h ≡ int_max (neg_ℤ (pos 1099511627776)) (int_min high (pos 1099511627776))
    → HasSmall (from_to low high) (from_to kept_l kept_h)
clamped_has low high kl kh e f n l k =
    (subst (λ x. x ≤ℤ n) (sym e) (kept_low low n l.0 k.0), subst (λ x. n ≤ℤ x) (sym f) (kept_high high n l.1 k.1))

pub within : (low high : ℤ) → neg_ℤ (pos 1099511627776) ≤ℤ low → low ≤ℤ pos 1099511627776 → neg_ℤ (pos 1099511627776) ≤ℤ high → high ≤ℤ pos 1099511627776 → IsWithinReach (from_to low high)
within low high a b c d = record { low = (a, b); high = (c, d) }

-- where there is no domain there is no number
pub no_domain : (vars : List (List ℤ)) (k : ℕ) → length vars ≤ k → HasSmall (spanned (slice_index_or vars k [])) (from_to (pos 0) (pos 0))
unfolding spanned least_or_zero greatest_or_zero least_of greatest_of
no_domain [] k h = λ n l _. l
no_domain (d ∷ vars) zero h = absurd (omega (arith, h))
no_domain (d ∷ vars) (suc k) h = no_domain vars k (omega (arith, h))

-- ---- sums

-- what is added up from a number on is the interval of the sum
pub summed : {A : Type 0} (g : A → Interval) (c low high : ℤ) (xs : List A) → low ≡ fold (λ b x. b +ℤ (g x).low) c xs → high ≡ fold (λ b x. b +ℤ (g x).high) c xs
    → HasSmall (sum_interval (only c ∷ map g xs)) (from_to low high)
unfolding sum_interval sum_of
summed g c low high xs e f n l k =
    (subst (λ x. x ≤ℤ n) (sym (e ∙ low_parts g c xs)) l.0, subst (λ x. n ≤ℤ x) (sym (f ∙ high_parts g c xs)) l.1)
