use Rattle.ep_eval.proofs.Words.{◌≡◌, Some, None, ap, sym, subst, ◌∙◌, refl, rules, w64, to_z, of_z, IfSome, IsSome, to_z-of_z, IsWithinNumbers, untold_far, single, held_value}
use Rattle.ep_eval.proofs.Reaches.{far_single}
use Rattle.ep_eval.proofs.numbers.seen_near.Goals as goal

pub returns-in-Some : goal.returns-in-Some
unfolding held_value
returns-in-Some c whole same told =
    ap (λ m. Some (single m)) (to_z-of_z w64 c.in-Some.number (search rules) ∙ subst (λ o. IfSome o (λ n. n ≡ whole)) c.in-Some.is same)

pub returns-in-None : goal.returns-in-None
returns-in-None c whole same told = (refl, far_single whole (untold_far c.args.told whole told c.in-None.is))
