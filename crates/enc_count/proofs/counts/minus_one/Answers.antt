use Rattle.std.proofs.Common.{◌∙◌, ℕ, ℤ, List, [], ◌∷◌, ◌++◌, negsuc, ap}
use Rattle.enc_count.specs.Counts.{counted_parts}
use Rattle.enc_count.proofs.counts.minus_one.Goals as goal

pub returns : goal.returns
unfolding counted_parts
returns c = c.in_ok-push.ensures.items ∙ ap (λ (ps : List (ℤ × ℕ)). ps ++ (negsuc 0, c.args.var) ∷ []) c.new-parts.ensures.items
