use Rattle.std.proofs.Common.{rules, ◌≡◌, ◌+◌, ℕ, ap, w64, ◌∙◌}
use Rattle.std.specs.Prelude.{unsigned_abs}
use Rattle.std.proofs.lemmas.Int.{to_z-of_z}
use Rattle.opb_text.specs.Weights.{factors_reach}
use Rattle.opb_text.proofs.measure.row_reach.Goals as goal

pub returns : goal.returns
returns c =
    let size : c.factors_reach.result ≡ factors_reach c.args.row.now.terms.items = c.factors_reach.ensures.value ∙ ap factors_reach c.deref.ensures.value in
    let right : c.from.result ≡ unsigned_abs c.args.row.now.right = c.from.ensures ∙ c.unsigned_abs.ensures.value ∙ ap unsigned_abs (to_z-of_z w64 c.args.row.now.right (search rules)) in
    ap (λ (n : ℕ). n + c.from.result) size ∙ ap (λ (n : ℕ). factors_reach c.args.row.now.terms.items + n) right
