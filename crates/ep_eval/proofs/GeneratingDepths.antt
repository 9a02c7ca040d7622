-- How deep the trees are that the walk through generators still has to go through.
use Rattle.ep_eval.proofs.Words.{ℕ, ◌<◌, arith, None, Option, Some, size-Domain, sized-Span, Expr, Span, size-Range, end_depth, generators_depth, greater, Ranging}

-- the depth of what names range over, and of what is behind it
abbrev pub ranging_depth : Ranging → ℕ
ranging_depth r = greater (size-Domain r.domain.now) (generators_depth r.listing r.later.now)

-- the ends of a range are less deep than it
pub ends_within : (low high : Option Expr) → (end_depth low < size-Range (Span low high)) × (end_depth high < size-Range (Span low high))
unfolding end_depth
ends_within None None = let s = sized-Span None None in (grind (arith, s), grind (arith, s))
ends_within None (Some f) = let s = sized-Span None (Some f) in (grind (arith, s), grind (arith, s))
ends_within (Some e) None = let s = sized-Span (Some e) None in (grind (arith, s), grind (arith, s))
ends_within (Some e) (Some f) = let s = sized-Span (Some e) (Some f) in (grind (arith, s), grind (arith, s))
