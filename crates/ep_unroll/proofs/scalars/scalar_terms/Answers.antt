use Rattle.ep_unroll.proofs.Words.{[], length, subst, sym, ◌∷◌, scalars_in, AddsParts, worth, HaveTerms}
use Rattle.ep_unroll.proofs.FlatSteps.{flat_known}
use Rattle.ep_unroll.proofs.FormValues.{if_ok}
use Rattle.ep_unroll.proofs.ScalarSteps.{scalars_have}
use Rattle.ep_unroll.proofs.scalars.scalar_terms.Goals as goal

pub each_term-requires : goal.each_term-requires
each_term-requires c =
    subst (HaveTerms (length c.args.arena.now)) (sym c.deref.ensures.value)
    (flat_known c.in_ok-scalars.scalars.items c.args.known.now (λ nodes numbers. scalars_in (worth nodes numbers c.args.known.now)) (length c.args.arena.now) c.in_ok-scalars.ensures c.requires)

pub returns : goal.returns
returns c =
    if_ok c.each_term.result _ _
    (λ ts h. scalars_have c.args.arena.now c.each_term.new.arena c.args.known.now c.deref.result.now ts.items
    (subst (λ xs. AddsParts [] xs (c.args.known.now ∷ []) (λ ns numbers. scalars_in (worth ns numbers c.args.known.now))) (sym c.deref.ensures.value) c.in_ok-scalars.ensures) h) c.each_term.ensures
