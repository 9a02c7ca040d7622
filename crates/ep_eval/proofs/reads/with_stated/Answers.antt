use Rattle.ep_eval.proofs.Words.{◌++◌, ◌∷◌, [], true, Some, ap, sym, ◌∙◌, arith, w64, ints, to_z-of_z, with_index}
use Rattle.ep_eval.proofs.reads.with_stated.Goals as goal

pub returns-in_ok-push-in-Some : goal.returns-in_ok-push-in-Some
unfolding with_index
returns-in_ok-push-in-Some c =
    let values = c.args.values.items in
    ap Some c.in_ok-push-in-Some.ensures.items
    ∙ ap (λ n. Some (values ++ Some n ∷ [])) (to_z-of_z w64 c.in-Some.number (omega (arith, ints)))
    ∙ sym (ap (with_index (Some values) true) c.in-Some.is)

pub returns-in-None : goal.returns-in-None
unfolding with_index
returns-in-None c = sym (ap (with_index (Some c.args.values.items) true) c.in-None.is)
