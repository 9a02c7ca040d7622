use Rattle.ep_unroll.proofs.Words.{[], length, subst, sym, ◌∷◌, scalars_in, AddsParts, worth, HaveTerms}
use Rattle.ep_unroll.proofs.FlatSteps.{flat_known}
use Rattle.ep_unroll.proofs.FormValues.{if_ok}
use Rattle.ep_unroll.proofs.NeedSteps.{scalars_needed}
use Rattle.ep_unroll.proofs.needs.scalars_need.Goals as goal

pub partial_scalars-requires : goal.partial_scalars-requires
partial_scalars-requires c =
    subst (HaveTerms (length c.args.arena.now)) (sym c.deref.ensures.value)
    (flat_known c.in_ok-all.all.items c.args.known.now (λ nodes numbers. scalars_in (worth nodes numbers c.args.known.now)) (length c.args.arena.now) c.in_ok-all.ensures c.requires)

pub returns : goal.returns
returns c =
    if_ok c.partial_scalars.result _ _
    (λ us h. scalars_needed c.args.arena.now c.partial_scalars.new.arena c.args.count c.args.known.now c.deref.result.now us.items
    (subst (λ xs. AddsParts [] xs (c.args.known.now ∷ []) (λ ns numbers. scalars_in (worth ns numbers c.args.known.now))) (sym c.deref.ensures.value) c.in_ok-all.ensures) h) c.partial_scalars.ensures
