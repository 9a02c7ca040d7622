use Rattle.ep_size.proofs.Words.{◌≡◌, ◌+◌, ◌*◌, true, false, not, refl, ap, ◌∙◌, Bool, width, interval_of, capped}
use Rattle.ep_size.proofs.FoldSteps.{chooses_first, chooses_next}
use Rattle.ep_size.proofs.folds.Chosen.with.Goals as goal

not_true : (b : Bool) → not b ≡ true → b ≡ false
not_true false h = refl
not_true true h = absurd cc

not_false : (b : Bool) → not b ≡ false → b ≡ true
not_false true h = refl
not_false false h = absurd cc

pub returns-then-not-self : goal.returns-then-not-self
returns-then-not-self c step spans h same =
    chooses_first step c.args.self _ spans c.args.span (not_true c.args.self.started c.if-not-self.true) h refl refl refl

pub returns : goal.returns
returns c step spans h same =
    let some : c.args.self.started ≡ true = not_false c.args.self.started c.if-not-self.false in
    let first : c.told_count.result ≡ capped (width (interval_of c.args.self.ends)) =
    c.told_count.ensures ∙ ap capped c.width.ensures in
    chooses_next step c.args.self _ spans c.args.span some h refl (same some)
    (c.told-2.ensures ∙ ap (λ n. capped (n + c.product-own.result)) c.told.ensures
    ∙ ap (λ n. capped (capped c.args.self.weight + n))
    (c.product-own.ensures ∙ ap (λ n. capped (n * c.told_count-2.result)) first
    ∙ ap (λ n. capped (capped (width (interval_of c.args.self.ends)) * n)) c.told_count-2.ensures))
