use Rattle.ep_unroll.proofs.Words.{subst, ◌∷◌, [], scalars_in, AddsParts, worth}
use Rattle.ep_unroll.proofs.flattening.flat_scalars.Goals as goal

pub returns : goal.returns
returns c =
    subst (λ before. AddsParts before c.push_scalars.new.parts.items (c.args.known.now ∷ []) (λ nodes numbers. scalars_in (worth nodes numbers c.args.known.now))) c.new-parts.ensures.items
    c.in_ok-push_scalars.ensures
