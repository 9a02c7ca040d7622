use Rattle.ep_unroll.proofs.Words.{ap, ◌∙◌, subst, sym, Some, arith, w64, ints, to_z-of_z, env_in, mode_in, decisions_in, IsFreeIndex, number_in, index_in}
use Rattle.ep_unroll.proofs.PartSteps.{every_index, no_number, some_index}
use Rattle.ep_unroll.proofs.reads.fixed_index.Goals as goal

pub fixed_value-requires : goal.fixed_value-requires
fixed_value-requires c = subst (IsFreeIndex (decisions_in (env_in c.args.scope))) c.in-Some.is c.requires

pub returns-in-Some-number_of : goal.returns-in-Some-number_of
returns-in-Some-number_of c n r =
    some_index (mode_in c.args.scope) r.values c.in-Some.stated c.args.index.now c.in-Some-number_of.number c.in-Some.is
    (ap number_in (c.in_ok-seen-in-Some.ensures n r) ∙ sym c.number_of.ensures ∙ c.in-Some-number_of.is)
    ∙ ap (λ i. Some (index_in (Some i))) (sym (to_z-of_z w64 c.in-Some-number_of.number (omega (arith, ints))))

pub returns-in-Some : goal.returns-in-Some
returns-in-Some c n r =
    no_number (mode_in c.args.scope) r.values c.in-Some.stated c.args.index.now c.in-Some.is (ap number_in (c.in_ok-seen-in-Some.ensures n r) ∙ sym c.number_of.ensures ∙ c.in-None-number_of.is)

pub returns : goal.returns
returns c n r = every_index (mode_in c.args.scope) r.values c.args.index.now c.in-None.is
