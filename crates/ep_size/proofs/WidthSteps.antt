-- How many some numbers are and how wide, with one number more; and what is told of sums and products.
use Rattle.ep_size.proofs.Words.{◌≡◌, ℕ, ◌+◌, ◌*◌, List, [], ◌∷◌, ◌++◌, length, ap, ◌∙◌, arith, length_push, sum_by_push, width, widths, plain_span, interval_of, capped, Widens, Widths}
use Rattle.ep_tree.specs.Reach as defined
use Rattle.ep_size.proofs.Caps.{product_kept}
use Rattle.ep_size.specs.declared.extents.Span.{Span}

-- one number more
pub widens_more : (t u : Widths) (spans : List defined.Span) (s : Span) → Widens t spans → u.count ≡ capped (capped t.count + 1)
    → u.widths ≡ capped (capped t.widths + capped (width (interval_of s.reach))) → Widens u (spans ++ plain_span s ∷ [])
widens_more t u spans s h count wide =
    let a : length (spans ++ plain_span s ∷ []) ≡ length spans + 1 = length_push spans (plain_span s) in
    let b : widths (spans ++ plain_span s ∷ []) ≡ widths spans + width (interval_of s.reach) =
    sum_by_push (λ x. width x.reach) spans (plain_span s) in
    record { count = omega (arith, a, count, h.count); widths = omega (arith, b, wide, h.widths) }

-- a product of two numbers that are told
pub product_told : (a b one other p q r : ℕ) → one ≡ capped a → other ≡ capped b → p ≡ capped one → q ≡ capped other → r ≡ capped (p * q)
    → r ≡ capped (a * b)
product_told a b one other p q r h k f g e =
    let first : p ≡ capped a = omega (arith, h, f) in
    let second : q ≡ capped b = omega (arith, k, g) in
    e ∙ ap (λ n. capped (n * q)) first ∙ ap (λ n. capped (capped a * n)) second ∙ product_kept a b
