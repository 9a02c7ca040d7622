use Rattle.ep_eval.proofs.Words.{◌≡◌, drop, map, option_map, ◌||◌, is_row_of}
use Rattle.ep_eval.proofs.counts.is_row.Given as goal

abbrev pub invariant-loop-row : goal.invariant-loop-row
invariant-loop-row l = is_row_of (map (λ v. v.items) l.rows) l.parts ≡ option_map (λ b. l.found || b) (is_row_of (map (λ v. v.items) (drop l.row-index l.rows)) l.parts)
