use Rattle.ep_unroll.proofs.Words.{length, subst, sym, ◌∷◌, [], scalars_in, AddsParts, worth, HaveTerms}
use Rattle.ep_unroll.proofs.FlatSteps.{flat_known}
use Rattle.ep_unroll.proofs.FormValues.{if_ok}
use Rattle.ep_unroll.proofs.SummingSteps.{sum_is}
use Rattle.ep_unroll.proofs.summing.sum_of_all.Goals as goal

pub total_of-requires : goal.total_of-requires
total_of-requires c =
    subst (HaveTerms (length c.args.arena.now)) (sym c.deref.ensures.value)
    (flat_known c.in_ok-parts.parts.items c.args.known.now (λ nodes numbers. scalars_in (worth nodes numbers c.args.known.now)) (length c.args.arena.now) c.in_ok-parts.ensures c.requires)

pub returns : goal.returns
returns c n cells nodes p e h =
    if_ok c.total_of.result _ _
    (λ t own. sum_is n cells nodes c.args.arena.now c.total_of.new.arena p e c.args.known.now c.deref.result.now t h
    (subst (λ xs. AddsParts [] xs (c.args.known.now ∷ []) (λ ns numbers. scalars_in (worth ns numbers c.args.known.now))) (sym c.deref.ensures.value) c.in_ok-parts.ensures) own) c.total_of.ensures
